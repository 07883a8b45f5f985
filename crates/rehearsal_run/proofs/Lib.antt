pub mod Visits
pub mod Comers
pub mod Sealing
pub mod Holding
pub mod LineLaws
pub mod SuspendedLaws
pub mod Rehearsing
