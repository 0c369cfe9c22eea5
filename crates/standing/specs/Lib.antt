-- What the call answers, what is read from that, and what is claimed of it.
pub mod Standing
pub mod Leader
pub mod Claims
