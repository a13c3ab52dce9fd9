pub mod AfterLast
pub mod GoesRound
pub mod Known
pub mod Proportion
pub mod RoundOn
pub mod Shares
pub mod Tickets
