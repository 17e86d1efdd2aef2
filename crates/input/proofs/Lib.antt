pub mod LineLaws
pub mod PieceLaws
pub mod CutLaw
pub mod ReadLaws
