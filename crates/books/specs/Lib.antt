pub mod Books
pub mod Answer
pub mod Step
pub mod Summary
pub mod History
pub mod Seconds
pub mod Plain
pub mod RoundedDown
