pub mod CodedLaws
