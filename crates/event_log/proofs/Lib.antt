pub mod Answering
pub mod Counting
pub mod Ending
pub mod Storing
pub mod Surveying
pub mod Texts
