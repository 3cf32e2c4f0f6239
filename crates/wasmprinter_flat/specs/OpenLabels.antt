pub mod Blocks
pub mod Found
pub mod Inside
pub mod LabelState
pub mod Numbers
pub mod Stack
pub mod Views
