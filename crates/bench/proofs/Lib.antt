pub mod Listings
pub mod Histories
pub mod Numbered
pub mod Fires
pub mod Turns
pub mod Kept
pub mod Feeds
