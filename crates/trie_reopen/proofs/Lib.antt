mod HeldMaps
mod OwnMaps
mod PairTurns
mod SharedLemmas
mod Stored
mod TripleTurns
mod Turns
mod Unmoved
