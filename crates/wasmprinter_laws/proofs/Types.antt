-- Types, a file for each step: their items, that pieces write the items, and that they read back
pub mod Ranged
pub mod Ranges
pub mod Trees
pub mod Back
