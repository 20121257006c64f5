pub mod MapLemmas
pub mod RangeLemmas
