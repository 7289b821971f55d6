-- What the report has for an answer of the chip.
pub mod Numbers
