pub mod LutParts
pub mod LeafSpreadLaws
pub mod RisingLaws
pub mod SignedLaws
pub mod LutReadLaws
pub mod LutFacts
