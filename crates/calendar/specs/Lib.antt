pub mod Days
pub mod Expiry
