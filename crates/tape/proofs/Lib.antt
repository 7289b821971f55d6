-- Laws of tapes.
pub mod ReadingLaws
pub mod RefusalLaws
