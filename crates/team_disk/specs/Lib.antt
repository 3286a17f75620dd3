pub mod Disk
pub mod Memory
pub mod Noted
pub mod Places
pub mod Recorded
pub mod Replay
pub mod Stored
