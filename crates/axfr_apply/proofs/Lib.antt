pub mod OneMore
pub mod StepBlocks
pub mod OpenSteps
pub mod SoaEnds
pub mod Unclosed
