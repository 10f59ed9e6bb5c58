pub mod Day
pub mod Written
pub mod Lists
pub mod Period
pub mod Implied
pub mod Stays
pub mod Gives
pub mod Inner
