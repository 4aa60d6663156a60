mod AsciiLemmas
mod BackLemmas
mod ColonLemmas
mod HrefLemmas
mod SpotLemmas
