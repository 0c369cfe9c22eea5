-- Laws of a message's entries written to a log.
pub mod Logs
