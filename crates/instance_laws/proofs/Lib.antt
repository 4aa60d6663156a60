mod ArrangedRows
mod DenotationRows
mod ProperRows
mod Rows
pub mod SmallContents
pub mod TwiceLaws
