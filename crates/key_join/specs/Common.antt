-- Operands and masks place by place.
use Rattle.std.specs.Prelude.{ℕ, ◌<◌, List, length, slice_index_or}
use Rattle.hypertrie_model.specs.IdSets.{IdSet}
use Rattle.trie_depth.specs.Masks.{FitsDepth}
use Rattle.trie_depth.specs.Operands.{Admits}
use Rattle.trie_depth.specs.declared.mask.Mask.{Mask}

module _ {O : Type 0} where
  -- the mask at each operand's place fits the operand's depth
  abbrev pub AllFit : (O → ℕ) → List O → List Mask → Type 0
  AllFit depth_of ops masks = (i : ℕ) (o : O) (m : Mask) → i < length ops → FitsDepth (slice_index_or masks i m).0 (depth_of (slice_index_or ops i o))

  -- each operand admits k at the mask of its place
  abbrev pub AllAdmit : (O → IdSet) → List O → List Mask → ℕ → Type 0
  AllAdmit tuples ops masks k = (i : ℕ) (o : O) (m : Mask) → i < length ops → Admits (tuples (slice_index_or ops i o)) (slice_index_or masks i m).0 k

  -- the operand at place i admits k at the mask there
  abbrev pub AdmitsAt : (O → IdSet) → List O → List Mask → ℕ → ℕ → Type 0
  AdmitsAt tuples ops masks i k = (o : O) (m : Mask) → Admits (tuples (slice_index_or ops i o)) (slice_index_or masks i m).0 k
