-- Blocks and their faults as they were when there was one version.
pub mod Grammar
pub mod Faults
