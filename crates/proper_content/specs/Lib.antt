pub mod ContentTests
pub mod InOrder
pub mod Notes
