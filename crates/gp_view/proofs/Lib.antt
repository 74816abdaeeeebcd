pub mod OwnMarkup
pub mod Put
