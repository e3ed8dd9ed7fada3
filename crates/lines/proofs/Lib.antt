pub mod Places
pub mod Passes
pub mod Ldebug
pub mod Infos
pub mod LineReads
pub mod HeadsRead
pub mod Examples
