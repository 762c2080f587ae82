pub mod RequestLemmas
pub mod RemainingLemmas
pub mod ApartLemmas
pub mod LastingLemmas
