-- Laws of the listing's text.
pub mod FollowLaws
pub mod LineTextLaws
pub mod ListingLaws
pub mod PrintedProof
pub mod PutLaws
pub mod StepLaws
pub mod TextLaws
