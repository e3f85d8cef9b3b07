-- A dictionary without those of some Ids that are not used.
use Rattle.std.specs.Prelude.{◌≡◌, ℕ, true, false, List, None}
use Rattle.std.specs.FinMap as map
use Rattle.term_dict.specs.Dict.{Terms}
use Rattle.graph_image.specs.Images.{is_among}

-- Ids that are not listed, or are used, keep their terms; the others have none
pub record Forgets (old new : Terms) (ids : List ℕ) (Used : ℕ → Type 0) : Type 0 where
  pub unlisted : (id : ℕ) → is_among ids id ≡ false → map.get new id ≡ map.get old id
  pub used : (id : ℕ) → Used id → map.get new id ≡ map.get old id
  pub unused : (id : ℕ) → is_among ids id ≡ true → (Used id → ⊥) → map.get new id ≡ None
