pub mod ClassHeads
pub mod OpenedTokens
pub mod Laws
