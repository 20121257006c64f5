pub mod Passing
pub mod Floor
pub mod Forgot
pub mod Begins
