pub mod Laws
pub mod Faulted
pub mod Free
pub mod Zeros
