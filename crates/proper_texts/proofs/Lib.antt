pub mod DecimalLaws
pub mod GainLaws
pub mod TextLaws
