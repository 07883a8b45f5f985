pub mod Cases
pub mod CutLaws
pub mod DecimalLaws
pub mod DigitLaws
pub mod Every
pub mod Lacking
pub mod LineLaws
pub mod MomentLaws
pub mod PieceLaws
pub mod WordLaws
mod Rows
