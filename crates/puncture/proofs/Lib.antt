pub mod Making
pub mod Tables
