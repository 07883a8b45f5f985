mod Rows
mod RollRows
mod OfficeRows
mod Walks
mod Distinct
mod Signs
mod Breaks
pub mod Rising
mod Keys
pub mod Kept
mod FewCandidates
mod Valid
mod RollLines
pub mod Reading
pub mod Determined
pub mod Named
pub mod LinePanels
pub mod Places
pub mod PlacesOfPanels
mod Numbers
pub mod Blocs
