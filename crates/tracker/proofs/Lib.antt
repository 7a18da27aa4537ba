pub mod SignedLaws
pub mod TrackerLaws
pub mod RangeLaws
pub mod Outcomes
pub mod WalkLaws
pub mod TwoSteps
pub mod Arrival
pub mod Edge
