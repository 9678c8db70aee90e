pub mod Laws
pub mod Chunks
pub mod Rising
pub mod ChoiceLaws
pub mod Listings
pub mod ListingLaws
pub mod Walking
pub mod Answers
