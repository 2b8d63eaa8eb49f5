pub mod PlacedRows
pub mod Placing
pub mod RowOrders
pub mod SameRows
pub mod Views
