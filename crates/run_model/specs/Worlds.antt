-- What a run works on, and with which settings.
use Rattle.std.specs.Prelude.{ℕ, Bool, Option}
use Rattle.file_model.specs.FileMap.{FileMap}
use Rattle.rdf_model.specs.Terms.{Text}
use Rattle.rdf_model.specs.Graph.{Graph}

-- Whether the rows of an answer are sorted, how many triples a graph may have, and how many bytes the script and each file may have.
pub record Config : Type 0 where
  pub sorted : Bool
  pub most_triples : ℕ
  pub most_bytes : ℕ

-- the graph, and the files that are there, where they are told
pub record World : Type 0 where
  pub graph : Graph
  pub files : Option FileMap

-- a read of a file that failed: of this name, at this place
pub record FailedRead : Type 0 where
  pub name : Text
  pub place : ℕ
