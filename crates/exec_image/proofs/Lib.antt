pub mod Finding
mod Headers
mod Absent
mod Running
mod Meeting
mod LastBegun
mod Searching
mod CallKinds
mod CodePlaces
mod Shares
mod Texts
mod HeapSymbols
pub mod ImageEnd
mod Stubs
pub mod HeapWords
pub mod HeapApart
mod SiteShape
mod SiteSteps
mod Passed
mod PlanFits
mod AcceptedFacts
mod NextWords
mod TpWords
