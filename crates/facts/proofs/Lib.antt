pub mod FormatLaws
mod FractionRows
pub mod ItemLaws
mod ItemRows
mod NumberRows
pub mod OneItem
pub mod Renumbered
pub mod SomeItem
pub mod ValueLaws
pub mod PlainLaws
