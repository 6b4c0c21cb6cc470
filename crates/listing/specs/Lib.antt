pub mod Listing
pub mod Ready
pub mod ListingLaws
pub mod Whole
pub mod ListingAlike
pub mod ListingSecrecy
