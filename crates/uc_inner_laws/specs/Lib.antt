pub mod Walks
pub mod Inner
pub mod Standing
pub mod InnerLaws
