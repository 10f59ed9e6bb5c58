pub mod Types
pub mod Reading
pub mod Values
pub mod Properties
pub mod Rules
pub mod Overrides
pub mod Event
pub mod Inner
