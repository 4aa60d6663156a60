pub mod Characters
pub mod Cuts
pub mod Fronts
pub mod Growth
pub mod Model
pub mod Order
pub mod Plain
