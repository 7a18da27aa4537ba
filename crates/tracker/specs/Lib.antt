pub mod Tracker
pub mod Range
pub mod Walk
pub mod TwoSteps
pub mod Arrival
