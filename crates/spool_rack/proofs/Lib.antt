mod LoanLemmas
mod RackLemmas
mod OpeningLemmas
mod ShelfLemmas
mod ClosingLemmas
pub mod StoreLemmas
pub mod SeenLemmas
mod StockLemmas
