pub mod Amounts
pub mod Worked
pub mod Bounds
