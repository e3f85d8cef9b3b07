-- A store between two commands.
use Rattle.std.specs.Prelude.{ℕ}
use Rattle.graph_store.specs.StoreState.{StoreState, IsSettled}
use Rattle.graph_store.specs.Stands.{Stands}

-- the dictionary has exactly the graph's terms, and the tables are kept and have exactly the rows of the graph's shape
pub record IsBetweenCommands (mixed : ℕ → ℕ → ℕ → ℕ → ℕ) (s : StoreState) : Type 0 where
  pub settled : IsSettled s
  pub stands : Stands mixed s
