mod PlaceLemmas
mod TypeLemmas
