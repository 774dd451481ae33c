pub mod Owned
pub mod OwnedLaws
pub mod Made
pub mod MadeLaws
