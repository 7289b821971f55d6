-- A card that is filled entry by entry.
pub mod FillLaws
