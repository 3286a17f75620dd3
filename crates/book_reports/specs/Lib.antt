pub mod Forms
pub mod Lines
pub mod Reports
pub mod BookWords
pub mod Loops
