pub mod Events
pub mod Listing
