pub mod EntryLaws
pub mod FieldLaws
pub mod FloatLaws
pub mod TextLaws
