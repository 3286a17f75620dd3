pub mod SplitReferences
