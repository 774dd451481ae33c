pub mod Stands
pub mod StandLaws
pub mod Lines
pub mod LineLaws
