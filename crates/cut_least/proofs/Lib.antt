pub mod CutRoundsLaws
