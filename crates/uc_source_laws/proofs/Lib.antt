pub mod InnerSources
pub mod SharedParams
pub mod EarlierLemmas
pub mod FieldOrder
pub mod InitialisingLemmas
