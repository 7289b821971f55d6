-- Laws that belong to no one subject.
pub mod Bools
pub mod Decides
pub mod OneToOne
pub mod Refusals
pub mod Split
pub mod Table
