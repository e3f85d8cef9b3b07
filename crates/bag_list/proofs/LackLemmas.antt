-- A pattern that lacks a key: there is no solution.
use Rattle.std.specs.Prelude.{◌≡◌, ℕ, ◌+◌, ◌*◌, ◌<◌, ◌≤◌, true, false, cond, nat_eq, List, [], ◌∷◌, length, slice_index_or, refl, Option, None, Some, IfSome}
use Rattle.std.proofs.Common.{sym, subst, arith}
use Rattle.std.proofs.lemmas.Bool.Decides.{nat_tests}
use Rattle.std.specs.List.{AllByRecursion}
use Rattle.hypertrie_model.specs.IdSets.{IdSet}
use Rattle.hypertrie_model.specs.Sets.{HasDepth}
use Rattle.bag_list.specs.declared.level.Level.{Level}
use Rattle.bag_list.specs.declared.track.Track.{Track}
use Rattle.bag_list.specs.Labels.{labels_of, mask_of, placed}
use Rattle.bag_list.specs.Search.{id_solutions}
use Rattle.bag_list.specs.Tracks.{AreTracks, SomeLacksKey, rests}
use Rattle.bag_list.proofs.MemberLemmas.{IsMember, all-members, at-there, solution-admits}

-- ---- a label that stands at a place

mask-here : (l m : ℕ) (ls : List ℕ) → m ≡ l → 1 ≤ mask_of l (m ∷ ls)
mask-here l m ls is =
    let e : nat_eq m l ≡ true = grind (arith, nat_tests) in
    subst (λ b. 1 ≤ cond b (2 * mask_of l ls + 1) (2 * mask_of l ls)) (sym e) (omega arith)

mask-behind : (l m : ℕ) (ls : List ℕ) → 1 ≤ mask_of l ls → 1 ≤ mask_of l (m ∷ ls)
mask-behind l m ls some = elim (nat_eq m l) as (λ b. 1 ≤ cond b (2 * mask_of l ls + 1) (2 * mask_of l ls)) [ true ↦ omega (arith, some) | false ↦ omega (arith, some) ]

mask-first : (l : ℕ) (p q r : Option ℕ) → p ≡ Some l → 1 ≤ mask_of l (placed (p ∷ q ∷ r ∷ []))
mask-first l None q r e = absurd (let f : ⊥ = cc in f)
mask-first l (Some m) q r e = mask-here l m (placed (q ∷ r ∷ [])) (let is : m ≡ l = cc in is)

mask-second : (l : ℕ) (p q r : Option ℕ) → q ≡ Some l → 1 ≤ mask_of l (placed (p ∷ q ∷ r ∷ []))
mask-second l p None r e = absurd (let f : ⊥ = cc in f)
mask-second l None (Some m) r e = mask-here l m (placed (r ∷ [])) (let is : m ≡ l = cc in is)
mask-second l (Some k) (Some m) r e = mask-behind l k (m ∷ placed (r ∷ [])) (mask-here l m (placed (r ∷ [])) (let is : m ≡ l = cc in is))

mask-below : (l n : ℕ) (ls : List ℕ) → AllByRecursion (λ x. x < n) ls → 1 ≤ mask_of l ls → l < n
mask-below l n [] all some = absurd (omega (arith, some))
mask-below l n (m ∷ ls) all some = elim (nat_eq m l) as (λ b. nat_eq m l ≡ b → 1 ≤ cond b (2 * mask_of l ls + 1) (2 * mask_of l ls) → l < n) [
  | true ↦ λ e _. let is : m ≡ l = grind (arith, nat_tests) in subst (λ x. x < n) is all.0
  | false ↦ λ _ h. mask-below l n ls all.1 (omega (arith, h))
] refl some

pub doubled-first : (p q r : Option ℕ) → IfSome p (λ l. 1 ≤ mask_of l (placed (p ∷ q ∷ r ∷ [])))
doubled-first None q r = tt
doubled-first (Some l) q r = mask-first l (Some l) q r refl

pub doubled-second : (p q r : Option ℕ) → IfSome q (λ l. 1 ≤ mask_of l (placed (p ∷ q ∷ r ∷ [])))
doubled-second p None r = tt
doubled-second p (Some l) r = mask-second l p (Some l) r refl

-- ---- no solution

one-of : {X : Type 0} (xs : List X) (i : ℕ) → i < length xs → X
one-of [] i lt = absurd (omega (arith, lt))
one-of (x ∷ xs) i lt = x

nothing-left : (P : List ℕ → Type 0) (xs : List (List ℕ)) → AllByRecursion P xs → ((a : List ℕ) → P a → ⊥) → xs ≡ []
nothing-left P [] all none = refl
nothing-left P (x ∷ xs) all none = absurd (none x all.0)

module _ {O : Type 0} (depth_of : O → ℕ) (tuples : O → IdSet) (deep : (o : O) → HasDepth (depth_of o) (tuples o)) (n m : ℕ) (levels : List Level) (tracks : List (Track O)) (are : AreTracks depth_of tuples n m levels tracks) (some : 0 < m) where
  pub lacking-none : SomeLacksKey tuples tracks → id_solutions n (rests tuples tracks) ≡ []
  lacking-none lacks = nothing-left (IsMember n (rests tuples tracks)) (id_solutions n (rests tuples tracks)) (all-members n (rests tuples tracks)) none where
    t : Track O
    t = one-of tracks lacks.0 lacks.1

    none : (a : List ℕ) → IsMember n (rests tuples tracks) a → ⊥
    none a h =
        let x = slice_index_or tracks lacks.0 t in
        let lack = lacks.2 t x.start in
        let track = are lacks.0 t lacks.1 in
        let left = track.left 0 x.start some (omega arith) in
        let low = mask-below lack.label n (labels_of x.start.labels) track.below (subst (λ ls. 1 ≤ mask_of lack.label ls) left.labels lack.there) in
        let there = at-there lack.label a (subst (λ k. lack.label < k) (sym h.long) low) in
        lack.none there.0 (solution-admits depth_of tuples deep n m 0 levels tracks are some (omega arith) a lack.label there.0 h.solution refl there.1 lacks.0 t x.start lacks.1)
