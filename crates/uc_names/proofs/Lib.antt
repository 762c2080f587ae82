pub mod SeenLemmas
pub mod KeptLemmas
