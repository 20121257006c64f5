pub mod BitsLemmas
pub mod InstLemmas
pub mod RowLemmas
pub mod TableLemmas
pub mod WordLemmas
