pub mod Depth
pub mod ExpressionNesting
pub mod Laws
pub mod Nesting
pub mod StatementNesting
