pub mod Strings
pub mod StringLaws
pub mod StringWalks
pub mod StringWalkLaws
pub mod MayStringLaws
