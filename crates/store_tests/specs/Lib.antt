pub mod Entries
pub mod EntryLaws
