pub mod Commands
pub mod Language
pub mod Text
