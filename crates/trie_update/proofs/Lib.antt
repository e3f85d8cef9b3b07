mod RootHolds
mod Settled
mod Sizes
