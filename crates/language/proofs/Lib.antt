pub mod Echoes
pub mod Numbers
pub mod Words
