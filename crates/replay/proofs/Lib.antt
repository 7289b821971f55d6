-- Laws of playing a tape, and demand 3 for a tape that is replayed.
pub mod ChainLaws
pub mod FollowLaws
pub mod PlayLaws
pub mod RefusalLaws
pub mod ReplayLaws
pub mod TapeDemand3Laws
