-- The six-bit counter of document 01, in its order: the step rule, counts, the two kinds; then the answers of the public calls.
pub mod Step
pub mod Count
pub mod Kind
pub mod Answers
