pub mod Laws
pub mod ProcessorSet
pub mod Standing
