pub mod Arrays
pub mod Measured
pub mod Sums
