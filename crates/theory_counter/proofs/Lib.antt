pub mod Pairs
pub mod Stages
pub mod Copies
pub mod CounterLiterals
pub mod Front
pub mod Counter
pub mod CounterClauses
pub mod NewVariables
