-- The slices, the size and the exclusive or of a changed set.
use Rattle.std.specs.Prelude.{◌≡◌, ℕ, ◌+◌, ◌≤◌, ◌&&◌, ◌||◌, not, Bool, true, false, List, length, refl, bit_xor}
use Rattle.std.proofs.Common.{sym, ◌∙◌, ap, arith}
use Rattle.std.proofs.lemmas.Cmp.{lists_total}
use Rattle.std.specs.Int.Bits.{xor_assoc, xor_self, xor_zero_r}
use Rattle.std.specs.List.{insert}
use Rattle.std.specs.declared.cmp.Ordering.{Ordering}
use Rattle.std.specs.Cmp.{IsTotalOrder}
use Rattle.std.specs.Cmp.Lexicographic.{slice_cmp}
use Rattle.std.specs.FinSet.{IsAntisymmetric, slice_cmp-IsAntisymmetric}
use Rattle.std.specs.FinSet as set
use native.Mathlib.Decide.{dec_le}
use Rattle.hypertrie_model.specs.Sets.{TupleSet, has, empty}
use Rattle.hypertrie_model.specs.Slices.{slice}
use Rattle.hypertrie_model.specs.SetLaws.{same_sets}
use Rattle.hypertrie_model.specs.SliceLaws.{has-slice, has-slice_short, slice-union, slice-difference}
use Rattle.hypertrie_model.specs.SetInduction.{union_empty, len-union_disjoint}
use Rattle.hypertrie_model.specs.Folds.{xor_over}
use Rattle.hypertrie_model.specs.UnionHashes.{xor_over-union_disjoint}
use Rattle.hypertrie_model.specs.Changes.{after, IsChange}

and-true : (a : Bool) → (a && true) ≡ a
and-true true = refl
and-true false = refl

or_of_within : (a b : Bool) → (b ≡ true → a ≡ true) → ((a && not b) || b) ≡ a
or_of_within true true h = refl
or_of_within true false h = refl
or_of_within false true h = sym (h refl)
or_of_within false false h = refl

-- a value put in twice goes out again
xor_twice : (a b : ℕ) → bit_xor (bit_xor a b) b ≡ a
xor_twice a b = xor_assoc a b b ∙ ap (bit_xor a) (xor_self b) ∙ xor_zero_r a

module _ {A : Type 0} {R : A → A → Ordering} (o : IsTotalOrder R) (exact : IsAntisymmetric R) where
  -- which tuples are in a changed set
  pub has-after_in : (H B : TupleSet R) (t : List A) → has (after true H B) t ≡ (has H t || has B t)
  has-after_in H B t = set.contains-union (lists_total o) H B t

  pub has-after_out : (H B : TupleSet R) (t : List A) → has (after false H B) t ≡ (has H t && not (has B t))
  has-after_out H B t = set.contains-difference (lists_total o) H B t

  -- the slice of a changed set is the slice changed by the slice
  pub slice-after : (g : Bool) (H B : TupleSet R) (i : ℕ) (k : A) → slice R (after g H B) i k ≡ after g (slice R H i k) (slice R B i k)
  slice-after true H B i k = slice-union o exact H B i k
  slice-after false H B i k = slice-difference o exact H B i k

  -- a tuple of a slice is long enough for the position
  reaches : (B : TupleSet R) (i : ℕ) (k : A) (u : List A) → has (slice R B i k) u ≡ true → i ≤ length u
  reaches B i k u there = elim (dec_le i (length u)) as (λ _. i ≤ length u) [
    | yes le ↦ le
    | no gt ↦ let t : false ≡ true = sym (has-slice_short o exact B i k u (omega arith)) ∙ there in absurd (let f : ⊥ = cc in f)
  ]

  pub slice-change : (g : Bool) (H B : TupleSet R) (i : ℕ) (k : A) → IsChange g H B → IsChange g (slice R H i k) (slice R B i k)
  slice-change true H B i k change = λ u there.
      let le = reaches B i k u there in
      has-slice o exact H i k u le ∙ change (insert u i k) (sym (has-slice o exact B i k u le) ∙ there)
  slice-change false H B i k change = λ u there.
      let le = reaches B i k u there in
      has-slice o exact H i k u le ∙ change (insert u i k) (sym (has-slice o exact B i k u le) ∙ there)

  -- the change by no tuple
  pub after-empty : (g : Bool) (H : TupleSet R) → after g H (empty R) ≡ H
  after-empty true H = union_empty (lists_total o) (slice_cmp-IsAntisymmetric exact) H
  after-empty false H = same_sets o exact _ _ (λ t. has-after_out H (empty R) t ∙ ap (λ b. has H t && not b) (set.contains-empty (slice_cmp R) t) ∙ and-true (has H t))

  none_there : (t : List A) → has (empty R) t ≡ true → false ≡ true
  none_there t e = sym (set.contains-empty (slice_cmp R) t) ∙ e

  pub change-empty : (g : Bool) (H : TupleSet R) → IsChange g H (empty R)
  change-empty true H = λ t e. let f : false ≡ true = none_there t e in absurd (let n : ⊥ = cc in n)
  change-empty false H = λ t e. let f : false ≡ true = none_there t e in absurd (let n : ⊥ = cc in n)

  -- what is taken out, put in again
  pub shrunk_grown : (H B : TupleSet R) → IsChange false H B → after true (after false H B) B ≡ H
  shrunk_grown H B change = same_sets o exact _ _ (λ t.
      has-after_in (after false H B) B t
      ∙ ap (λ b. b || has B t) (has-after_out H B t)
      ∙ or_of_within (has H t) (has B t) (change t))

  -- and it is new to the rest
  pub shrunk_change : (H B : TupleSet R) → IsChange true (after false H B) B
  shrunk_change H B t there = has-after_out H B t ∙ ap (λ b. has H t && not b) there ∙ none (has H t) where
    none : (b : Bool) → (b && false) ≡ false
    none true = refl
    none false = refl

  -- how many tuples there are
  pub len-grown : (H B : TupleSet R) → IsChange true H B → set.len (after true H B) ≡ set.len H + set.len B
  len-grown H B change = len-union_disjoint (lists_total o) (slice_cmp-IsAntisymmetric exact) H B change

  pub len-shrunk : (H B : TupleSet R) → IsChange false H B → set.len (after false H B) + set.len B ≡ set.len H
  len-shrunk H B change = sym (len-grown (after false H B) B (shrunk_change H B)) ∙ ap set.len (shrunk_grown H B change)

  xor-grown : (f : List A → ℕ) (H B : TupleSet R) → IsChange true H B → xor_over (after true H B) f ≡ bit_xor (xor_over H f) (xor_over B f)
  xor-grown f H B change = xor_over-union_disjoint (lists_total o) (slice_cmp-IsAntisymmetric exact) f H B change

  -- the exclusive or over a changed set
  pub xor-after : (f : List A → ℕ) (g : Bool) (H B : TupleSet R) → IsChange g H B → xor_over (after g H B) f ≡ bit_xor (xor_over H f) (xor_over B f)
  xor-after f true H B change = xor-grown f H B change
  xor-after f false H B change =
      let rest = xor_over (after false H B) f in
      let whole : xor_over H f ≡ bit_xor rest (xor_over B f) = ap (λ S. xor_over S f) (sym (shrunk_grown H B change)) ∙ xor-grown f (after false H B) B (shrunk_change H B) in
      sym (ap (λ n. bit_xor n (xor_over B f)) whole ∙ xor_twice rest (xor_over B f))
