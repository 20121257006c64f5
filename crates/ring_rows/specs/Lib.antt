pub mod Lone
pub mod Pair
pub mod Three
