pub mod AtTheTable
pub mod BeamCopies
