pub mod BoxListing
pub mod BoxListingLaws
pub mod BoxListingSecrecy
