-- The laws of the mirrored bytes.
pub mod MirrorLaws
