-- Tapes: reading at a place, and the rows of the refusal table for it.
pub mod Reading
pub mod ReadingRows
