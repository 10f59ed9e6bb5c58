pub mod Ascii
pub mod Bytes
pub mod Utf8
pub mod Strings
pub mod Numbers
pub mod Words
pub mod Inner
