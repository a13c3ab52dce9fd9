pub mod Answers
pub mod Console
pub mod Run
pub mod State
