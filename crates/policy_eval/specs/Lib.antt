pub mod Accepts
pub mod Signers
pub mod UpdateSigners
pub mod Over
pub mod Evaluation
pub mod Evaluating
pub mod Assignment
pub mod Flat
