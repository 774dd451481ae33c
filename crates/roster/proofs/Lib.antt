pub mod Ending
pub mod Lines
pub mod Seven
pub mod Showing
