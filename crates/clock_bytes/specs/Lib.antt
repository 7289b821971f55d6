pub mod ClockBytes
