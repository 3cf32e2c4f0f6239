pub mod Fronts
pub mod Grown
pub mod ItemsInBytes
pub mod Powers
pub mod Reasons
