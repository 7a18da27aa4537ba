pub mod Numbers
pub mod Decoding
pub mod Reading
