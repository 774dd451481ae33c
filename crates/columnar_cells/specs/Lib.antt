pub mod Wrote
pub mod WroteLaws
pub mod RowAtLaws
pub mod SumLaws
pub mod ListLaws
pub mod BitLaws
