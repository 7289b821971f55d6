pub mod RecordLaws
pub mod ShowLaws
