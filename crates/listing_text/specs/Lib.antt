-- The listing of a tape: its text, line by line, and whole.
pub mod Room
pub mod Text
pub mod LineText
pub mod Listing
pub mod PrintedCase
pub mod TextRoom
