mod LineParts
mod Marked
mod NoBook
