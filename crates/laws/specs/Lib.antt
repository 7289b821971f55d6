-- Definitions that belong to no one subject.
pub mod Bits
pub mod Numbers
pub mod Refusal
pub mod Steps
pub mod Tables
