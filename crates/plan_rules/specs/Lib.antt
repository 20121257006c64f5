pub mod Kinds
pub mod Text
pub mod Numbers
pub mod Rules
pub mod First
pub mod Words
