-- What comes next when chunks are rebuilt.
use Rattle.std.specs.Prelude.{◌≡◌, ◌+◌, ◌<◌, List, [], ◌∷◌, ◌++◌, length, Option}
use Rattle.std.proofs.Common.{get_or}
use Rattle.trie_depth.specs.declared.id.Id.{Id}
use Rattle.edge_map.specs.declared.edge.Edge.{Edge}
use Rattle.edge_map.specs.declared.rebuild.Part.{Part}
use Rattle.edge_map.specs.declared.rebuild.Part.TheVariants.{Whole, Single}
use Rattle.edge_map.specs.Chunks.{last_size, reach_of}

-- a page that comes next, into which no change falls, and whose first chunk stays behind the last new one
pub record IsShared (rest : List (List (Id × Edge))) (later : List (Id × Option Edge)) (new page behind : List (List (Id × Edge))) : Type 0 where
  pub split : rest ≡ page ++ behind
  pub some : 0 < length page
  pub still : reach_of behind later ≡ 0
  pub near : 128 < last_size new + length (get_or page 0 [])

-- the part comes next, and leaves the chunks behind it
abbrev pub IsNext : List (List (Id × Edge)) → List (Id × Option Edge) → List (List (Id × Edge)) → Part → List (List (Id × Edge)) → Type 0
IsNext rest later new (Whole page) behind = IsShared rest later new page.now behind
IsNext rest later new (Single chunk) behind = rest ≡ chunk.now ∷ behind
