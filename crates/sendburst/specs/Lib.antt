pub mod Names
pub mod Written
