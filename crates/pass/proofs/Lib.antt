pub mod FramesLaws
pub mod PassLaws
pub mod Single
pub mod Flight
pub mod Cutting
pub mod NeverThree
pub mod Edge
pub mod Outcomes
