-- Name sections and the identifiers that they give
pub mod Fits
pub mod Listing
pub mod Distinct
pub mod Named
pub mod Resolving
