pub mod Computed
pub mod Countdown
pub mod Counts
pub mod Dates
pub mod Holidays
pub mod Lengths
pub mod Weekdays
