pub mod Bits
pub mod BitLaws
pub mod BoolColumns
pub mod BoolLaws
pub mod BoolByteLaws
pub mod MayBitLaws
pub mod Rooms
pub mod RoomLaws
