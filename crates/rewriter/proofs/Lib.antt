pub mod HeapNames
pub mod HeapTexts
pub mod ChosenSites
pub mod NewFiles
