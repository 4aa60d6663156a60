mod FactLaws
mod IdLaws
mod ListLaws
mod NoteLaws
mod OnceLaws
mod OrderLaws
mod SearchLaws
mod ToldLaws
