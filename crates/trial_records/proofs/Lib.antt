-- Laws of the letters.
pub mod Letters
