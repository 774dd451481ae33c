pub mod RowParts
pub mod RowOrder
pub mod RowOrderLaws
pub mod ItemLaws
pub mod RowHashLaws
