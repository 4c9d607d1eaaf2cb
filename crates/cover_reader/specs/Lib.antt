pub mod Reads
pub mod LutsStored
pub mod CandidateStoreLaws
pub mod CandidateFacts
pub mod CandidateLaws
