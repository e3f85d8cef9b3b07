pub mod LeastLemmas
pub mod CountLemmas
