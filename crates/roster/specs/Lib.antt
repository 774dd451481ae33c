pub mod Ages
pub mod Groups
pub mod Told
pub mod Uses
