pub mod EachLaws
