-- Laws for callers: Laws (lines and events one after another, good workspaces), Growing (clauses added).
pub mod Writing
pub mod Laws
pub mod Growing
