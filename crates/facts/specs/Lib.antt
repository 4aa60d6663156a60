pub mod ChainTexts
pub mod Exactness
pub mod Formats
pub mod FractionValue
pub mod ItemValue
pub mod NumberValue
pub mod TextValue
pub mod Verdicts
