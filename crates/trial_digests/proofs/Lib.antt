-- Laws of the digest, and an example computed.
pub mod Cases
pub mod Digests
