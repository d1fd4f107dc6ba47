pub mod Listing
pub mod ListingLaws
