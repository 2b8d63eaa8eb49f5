pub mod Cuts
pub mod Binding
pub mod FieldBounds
pub mod NetworkBounds
pub mod LineBounds
