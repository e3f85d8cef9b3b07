-- What one command does to a store. `Step` says it of worlds; a refused command leaves the whole store as it was, and after each command
-- the store is settled, and its tables are the shape of its graph.
use Rattle.std.specs.Prelude.{◌≡◌, ℕ, Bool, true, Option}
use Rattle.file_model.specs.FileMap.{FileMap}
use Rattle.script_model.specs.Commands.{Command}
use Rattle.run_model.specs.Answers.{Answer, is_refused}
use Rattle.run_model.specs.Worlds.{Config, World, FailedRead}
use Rattle.run_model.specs.Steps.{Step}
use Rattle.graph_store.specs.StoreState.{StoreState, graph}
use Rattle.line_batch.specs.Sound.{IsBetweenCommands}

-- Beside the store: the mix by which its tables hash, whether rows are sorted, how many bytes the script and each file may have, and the
-- files, where they are told.
pub record Around : Type 0 where
  pub mixed : ℕ → ℕ → ℕ → ℕ → ℕ
  pub sorted : Bool
  pub most_bytes : ℕ
  pub files : Option FileMap

abbrev pub config_in : Around → StoreState → Config
config_in A s = record { sorted = A.sorted; most_triples = s.max; most_bytes = A.most_bytes }

abbrev pub world_in : Around → StoreState → World
world_in A s = record { graph = graph s; files = A.files }

-- a command took the store from s to t
pub record Carries (A : Around) (s : StoreState) (c : Command) (t : StoreState) (a : Answer) (failed : Option FailedRead) : Type 0 where
  pub step : Step (config_in A s) (world_in A s) c (world_in A t) a failed
  pub refused : is_refused a ≡ true → t ≡ s
  pub sound : IsBetweenCommands A.mixed t
  pub max : t.max ≡ s.max
