-- The bytes that the program writes.
pub mod CardBytes
