pub mod GraderInputs
