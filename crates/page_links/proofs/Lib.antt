pub mod ChoiceLaws
pub mod ChoosingLaws
pub mod CountLaws
pub mod KeptLaws
mod MetLaws
mod StandingLaws
