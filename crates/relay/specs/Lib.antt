-- Messages twice and in either order: what is claimed of records, log words and message bytes.
pub mod Relay
