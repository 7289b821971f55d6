-- The mirrored byte.
pub mod Mirror
