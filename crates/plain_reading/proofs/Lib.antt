pub mod PageLemmas
pub mod LineLaws
pub mod InkLaws
