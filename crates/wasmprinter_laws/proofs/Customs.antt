-- Custom sections: their order, the items of their text, and that they read back
pub mod Ordered
pub mod Roles
pub mod Lines
pub mod Parts
pub mod Notes
pub mod Places
