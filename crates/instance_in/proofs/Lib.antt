mod BodyLaws
mod ReadLaws
pub mod WritableLaws
