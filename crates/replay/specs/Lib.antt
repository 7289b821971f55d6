-- Playing a tape on the chip: one line of it, the replay of the whole, and demand 3 for it.
pub mod Play
pub mod PlayRows
pub mod Replay
pub mod TapeDemand3
pub mod Verdict
