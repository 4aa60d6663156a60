pub mod KindLinks
