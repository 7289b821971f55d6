-- The laws of the six-bit counter.
pub mod StepLaws
pub mod CountLaws
pub mod KindLaws
pub mod AnswerLaws
pub mod RefusalLaws
pub mod NumberLaws
