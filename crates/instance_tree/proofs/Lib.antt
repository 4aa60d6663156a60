mod EndLaws
mod FactSteps
mod ItemLaws
mod NamedSteps
mod NodeLaws
