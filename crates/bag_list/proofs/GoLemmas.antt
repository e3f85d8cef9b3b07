-- The last label goes on to its next key, or is given up.
use Rattle.std.specs.Prelude.{◌≡◌, ℕ, ◌+◌, ◌-◌, ◌<◌, ◌≤◌, ◌^◌, Bool, true, false, nat_lt, List, [], ◌∷◌, ◌++◌, length, take, slice_index_or, slice_set, Some}
use Rattle.std.proofs.Common.{sym, ◌∙◌, ap, subst, arith}
use Rattle.std.proofs.lemmas.Bool.{false_from_ne_true}
use Rattle.std.proofs.lemmas.Bool.Decides.{nat_tests}
use Rattle.std.proofs.lemmas.List.{length-set, length-take-le, take_more, take_more_set}
use Rattle.std.specs.List.Sorted.{IsPermutation}
use Rattle.std.specs.Ordering.{nat_cmp}
use native.Mathlib.Decide.{dec_lt}
use Rattle.hypertrie_model.specs.IdSets.{IdSet}
use Rattle.hypertrie_model.specs.Sets.{HasDepth}
use Rattle.hypertrie_model.specs.Slices.{at, is_at}
use Rattle.trie_depth.specs.declared.id.Id.{Id}
use Rattle.bag_list.specs.declared.level.Level.{Level}
use Rattle.bag_list.specs.declared.track.Track.{Track}
use Rattle.bag_list.specs.Levels.{agrees, from_of, is_below, to_come}
use Rattle.bag_list.specs.Search.{AreKept, id_solutions, weight}
use Rattle.bag_list.specs.Tracks.{AllAdmitAt, AreSameTo, HasSolutionAt, rests}
use Rattle.bag_list.proofs.ComingLemmas.{all-weaker, closed, entered}
use Rattle.bag_list.proofs.Images.{at-is_at}
use Rattle.bag_list.proofs.MemberLemmas.{IsMember, all-left, at-there, below-at, solution-admits, solution-left}
use Rattle.bag_list.proofs.SearchLemmas.{kept-fewer, kept-same, labels-small, rests-same}
use Rattle.bag_list.proofs.WeightLemmas.{closed-less, entered-less}

module _ {O : Type 0} (depth_of : O → ℕ) (tuples : O → IdSet) (deep : (o : O) → HasDepth (depth_of o) (tuples o)) (telling : ℕ → Bool) (levels : List Level) (told : ℕ) (tracks : List (Track O)) (values : List Id) (last : ℕ) (kept : AreKept depth_of tuples telling levels (last + 1) false told tracks values) (f : Level) (is : f ≡ slice_index_or levels last f) where
  last-within : last < length levels
  last-within = let w = kept.within in omega (arith, w)

  before-all : last ≤ length levels - 1
  before-all = let w = last-within in omega (arith, w)

  pub last-small : f.label < length levels
  last-small = subst (λ l. l < length levels) (sym (ap (λ h. h.label) is)) (labels-small levels kept.labels last f last-within)

  -- the key that a solution has there
  key-of : (a : List ℕ) → IsMember (length levels) (rests tuples tracks) a × (agrees (take last levels) a ≡ true) → (q : ℕ) × (at f.label a ≡ Some q) × HasSolutionAt tuples (length levels) tracks last f.label q
  key-of a h =
      let there = at-there f.label a (subst (λ n. f.label < n) (sym h.0.long) last-small) in
      (there.0, there.1, solution-left depth_of tuples deep (length levels) (last + 1 + 0) last levels tracks kept.patterns (omega arith) before-all a f.label there.0 h.0 h.1 there.1)

  -- no key is left
  pub went-back : ((k : ℕ) → from_of f.from ≤ k → HasSolutionAt tuples (length levels) tracks last f.label k → ⊥) → to_come (id_solutions (length levels) (rests tuples tracks)) (take (last + 1) levels) false ≡ to_come (id_solutions (length levels) (rests tuples tracks)) (take last levels) false
  went-back none =
      ap (λ fs. to_come (id_solutions (length levels) (rests tuples tracks)) fs false) (take_more levels last f last-within ∙ ap (λ g. take last levels ++ g ∷ []) (sym is))
      ∙ closed (id_solutions (length levels) (rests tuples tracks)) (take last levels) f
      (all-weaker _ (λ a. is_below f.label (from_of f.from) a ≡ true) _ (λ a h.
      let q = key-of a h in
      below-at f.label q.0 (from_of f.from) a q.1 ∙ elim (dec_lt q.0 (from_of f.from)) as (λ _. nat_lt q.0 (from_of f.from) ≡ true) [
        | yes lt ↦ (let t : nat_lt q.0 (from_of f.from) ≡ true = grind (arith, nat_tests) in t)
        | no ge ↦ absurd (none q.0 (omega (arith, ge)) q.2)
      ]) (all-left (length levels) (rests tuples tracks) (take last levels)))

  -- the next key
  pub went-on : (g : Level) (fresh : Bool) → g.label ≡ f.label → from_of g.from ≡ g.key.0 + 1 → from_of f.from ≤ g.key.0 → ((k : ℕ) → from_of f.from ≤ k → k < g.key.0 → HasSolutionAt tuples (length levels) tracks last f.label k → ⊥) → (fresh ≡ false → AllAdmitAt tuples tracks last f.label g.key.0 → ⊥) → IsPermutation (to_come (id_solutions (length levels) (rests tuples tracks)) (take (last + 1) levels) false) (to_come (id_solutions (length levels) (rests tuples tracks)) (take (last + 1) (slice_set levels last g)) fresh)
  went-on g fresh label next low least stopped =
      subst (λ fs. IsPermutation (to_come (id_solutions (length levels) (rests tuples tracks)) fs false) (to_come (id_solutions (length levels) (rests tuples tracks)) (take (last + 1) (slice_set levels last g)) fresh)) (sym (take_more levels last f last-within ∙ ap (λ g. take last levels ++ g ∷ []) (sym is)))
      (subst (λ fs. IsPermutation (to_come (id_solutions (length levels) (rests tuples tracks)) (take last levels ++ f ∷ []) false) (to_come (id_solutions (length levels) (rests tuples tracks)) fs fresh)) (sym (take_more_set levels last g last-within))
      (entered (id_solutions (length levels) (rests tuples tracks)) (take last levels) f g fresh label next
      (all-weaker _ (λ a. is_below f.label (from_of f.from) a ≡ is_below f.label g.key.0 a) _ (λ a h.
      let q = key-of a h in
      below-at f.label q.0 (from_of f.from) a q.1 ∙ tests q.0 q.2 ∙ sym (below-at f.label q.0 g.key.0 a q.1)) (all-left (length levels) (rests tuples tracks) (take last levels)))
      (λ e. all-weaker _ (λ a. is_at nat_cmp f.label g.key.0 a ≡ false) _ (λ a h. false_from_ne_true _ (λ at_key.
      stopped e (solution-admits depth_of tuples deep (length levels) (last + 1 + 0) last levels tracks kept.patterns (omega arith) before-all a f.label g.key.0 h.0.solution h.1 (at-is_at f.label g.key.0 a at_key)))) (all-left (length levels) (rests tuples tracks) (take last levels))))) where
        tests : (q : ℕ) → HasSolutionAt tuples (length levels) tracks last f.label q → nat_lt q (from_of f.from) ≡ nat_lt q g.key.0
        tests q admit = elim (dec_lt q (from_of f.from)) as (λ _. nat_lt q (from_of f.from) ≡ nat_lt q g.key.0) [
          | yes lt ↦ (let a : nat_lt q (from_of f.from) ≡ true = grind (arith, nat_tests) in let b : nat_lt q g.key.0 ≡ true = grind (arith, nat_tests) in a ∙ sym b)
          | no ge ↦ elim (dec_lt q g.key.0) as (λ _. nat_lt q (from_of f.from) ≡ nat_lt q g.key.0) [
            | yes lt ↦ absurd (least q (omega (arith, ge)) lt admit)
            | no high ↦ (let a : nat_lt q (from_of f.from) ≡ false = grind (arith, nat_tests) in let b : nat_lt q g.key.0 ≡ false = grind (arith, nat_tests) in a ∙ sym b)
          ]
        ]

-- the patterns start as before
pub rests-kept : {O : Type 0} (tuples : O → IdSet) (depth : ℕ) (old now : List (Track O)) → AreSameTo depth old now → rests tuples now ≡ rests tuples old
rests-kept tuples depth old now same = rests-same tuples old now same.number (λ i t lt. (same.each i t lt).start)

module _ {O : Type 0} (depth_of : O → ℕ) (tuples : O → IdSet) (telling : ℕ → Bool) (levels : List Level) (depth : ℕ) (fresh : Bool) (told : ℕ) (tracks : List (Track O)) (values : List Id) (kept : AreKept depth_of tuples telling levels depth fresh told tracks values) (stale : fresh ≡ false) (deep : 0 < depth) where
  pub is-last : depth ≡ depth - 1 + 1
  is-last = omega (arith, deep)

  pub kept-last : AreKept depth_of tuples telling levels (depth - 1 + 1) false told tracks values
  kept-last =
      subst (λ b. AreKept depth_of tuples telling levels (depth - 1 + 1) b told tracks values) stale
      (subst (λ d. AreKept depth_of tuples telling levels d fresh told tracks values) is-last kept)

  -- with other patterns that have the same parts
  pub kept-with : (now : List (Track O)) → AreSameTo (depth - 1) tracks now → AreKept depth_of tuples telling levels depth fresh told now values
  kept-with now same =
      subst (λ b. AreKept depth_of tuples telling levels depth b told now values) (sym stale)
      (subst (λ d. AreKept depth_of tuples telling levels d false told now values) (sym is-last)
      (kept-same depth_of tuples telling levels told tracks values (depth - 1) now same.number same.each kept-last))

  pub kept-back : AreKept depth_of tuples telling levels (depth - 1) fresh told tracks values
  kept-back =
      subst (λ b. AreKept depth_of tuples telling levels (depth - 1) b told tracks values) (sym stale)
      (kept-fewer depth_of tuples telling levels told tracks values (depth - 1 + 1) (depth - 1) false (omega arith) (omega arith) kept-last)

  pub to_come-last : (T : List (List ℕ)) → to_come T (take depth levels) fresh ≡ to_come T (take (depth - 1 + 1) levels) false
  to_come-last T = (λ j. to_come T (take (is-last j) levels) (stale j))

  pub weight-last : weight (length levels) (take depth levels) fresh ≡ weight (length levels) (take (depth - 1 + 1) levels) false
  weight-last = (λ j. weight (length levels) (take (is-last j) levels) (stale j))

  pub less-back : (f : Level) → f ≡ slice_index_or levels (depth - 1) f → weight (length levels) (take (depth - 1) levels) fresh < weight (length levels) (take depth levels) fresh
  less-back f is =
      let w = kept.within in
      let within : depth - 1 < length levels = omega (arith, w, deep) in
      let n = length-take-le (depth - 1) levels (omega (arith, within)) in
      let old = weight-last ∙ ap (λ fs. weight (length levels) fs false) (take_more levels (depth - 1) f within ∙ ap (λ g. take (depth - 1) levels ++ g ∷ []) (sym is)) in
      let new = ap (weight (length levels) (take (depth - 1) levels)) stale in
      let less = closed-less (length levels) (take (depth - 1) levels) (omega (arith, n, within)) f in
      omega (arith, old, new, less)

  pub less-on : (f g : Level) (b : Bool) → f ≡ slice_index_or levels (depth - 1) f → from_of f.from ≤ g.key.0 → g.key.0 < 2 ^ 32 → from_of g.from ≡ g.key.0 + 1 → weight (length (slice_set levels (depth - 1) g)) (take depth (slice_set levels (depth - 1) g)) b < weight (length levels) (take depth levels) fresh
  less-on f g b is low small next =
      let w = kept.within in
      let within : depth - 1 < length levels = omega (arith, w, deep) in
      let n = length-take-le (depth - 1) levels (omega (arith, within)) in
      let old = weight-last ∙ ap (λ fs. weight (length levels) fs false) (take_more levels (depth - 1) f within ∙ ap (λ g. take (depth - 1) levels ++ g ∷ []) (sym is)) in
      let new : weight (length (slice_set levels (depth - 1) g)) (take depth (slice_set levels (depth - 1) g)) b ≡ weight (length levels) (take (depth - 1) levels ++ g ∷ []) b = (λ j. weight (length-set levels (depth - 1) g j) ((ap (λ d. take d (slice_set levels (depth - 1) g)) is-last ∙ take_more_set levels (depth - 1) g within) j) b) in
      let less = entered-less (length levels) (take (depth - 1) levels) (omega (arith, n, within)) f g b low small next in
      omega (arith, old, new, less)
