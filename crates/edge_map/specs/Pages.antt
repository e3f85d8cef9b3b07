-- Pages of chunks, one page after another.
use Rattle.std.specs.Prelude.{◌≡◌, ℕ, ◌<◌, ◌≤◌, ◌^◌, List, [], ◌∷◌, ◌++◌, length}
use Rattle.std.proofs.Common.{get_or}
use Rattle.trie_depth.specs.declared.id.Id.{Id}
use Rattle.edge_map.specs.declared.edge.Edge.{Edge}
use Rattle.edge_map.specs.Chunks.{flat, first_key}

-- the chunks of all pages
abbrev pub paged : List (List (List (Id × Edge))) → List (List (Id × Edge))
paged [] = []
paged (p ∷ ps) = p ++ paged ps

-- the entries of each page
abbrev pub by_page : List (List (List (Id × Edge))) → List (List (Id × Edge))
by_page [] = []
by_page (p ∷ ps) = flat p ∷ by_page ps

-- each page has a chunk
abbrev pub AreFull : List (List (List (Id × Edge))) → Type 0
AreFull [] = Unit {0}
AreFull (p ∷ ps) = (0 < length p) × AreFull ps

-- the number of entries, which are no more than there are keys
abbrev pub IsSize : ℕ → List (List (Id × Edge)) → Type 0
IsSize size cs = length (flat cs) ≤ 2 ^ 32 → size ≡ length (flat cs)

-- what stands beside the chunks of a page
pub record IsPage (first size : ℕ) (cs : List (List (Id × Edge))) : Type 0 where
  pub first_is : first ≡ first_key (get_or cs 0 [])
  pub size_is : IsSize size cs
