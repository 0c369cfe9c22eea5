-- What a forecast answers, and what is claimed of it.
pub mod Forecast
pub mod Exact
