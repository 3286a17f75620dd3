mod Appended
mod Gathered
mod MarkupFixed
mod References
