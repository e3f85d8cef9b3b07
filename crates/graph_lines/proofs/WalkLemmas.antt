-- The part of a set that a walk over its first keys has seen.
use Rattle.std.specs.Prelude.{◌≡◌, ◌≢◌, ℕ, ◌+◌, ◌<◌, ◌≤◌, ◌&&◌, ◌||◌, Bool, true, false, nat_lt, List, [], ◌∷◌, ◌++◌, refl}
use Rattle.std.specs.Prelude.{map as each}
use Rattle.std.proofs.Common.{sym, ◌∙◌, ap, subst, arith, append_assoc}
use Rattle.std.proofs.lemmas.Bool.Decides.{nat_tests}
use Rattle.std.proofs.lemmas.Cmp.{nat_cmp_total as total, lists_total}
use Rattle.std.proofs.lemmas.List.{length-map, length-append, append-nil, map-append}
use Rattle.std.specs.Cmp.Lexicographic.{slice_cmp}
use Rattle.std.specs.FinMap.{nat_cmp-IsAntisymmetric as exact}
use Rattle.std.specs.FinSet.{slice_cmp-IsAntisymmetric}
use Rattle.std.specs.FinSet as set
use Rattle.std.specs.Ordering.{nat_cmp, eq_by_cmp}
use native.Mathlib.Decide.{dec_lt}
use Rattle.hypertrie_model.specs.IdSets.{IdSet}
use Rattle.hypertrie_model.specs.Sets.{has, empty}
use Rattle.hypertrie_model.specs.SetLaws.{same_sets, same_test, and_both, or_cases, or_right, tied-is, tied-itself}
use Rattle.hypertrie_model.specs.SetInduction.{len-union_disjoint}
use Rattle.hypertrie_model.specs.Slices.{slice}
use Rattle.hypertrie_model.specs.SliceLaws.{has-slice}
use Rattle.hypertrie_model.specs.Members.{contains-kept, no_members}
use Rattle.hypertrie_model.specs.Listings.{set_of-append}
use Rattle.hypertrie_model.specs.UnionSizes.{prefixed, has-prefixed, has-prefixed_nil, len-prefixed}
use Rattle.set_image.specs.Images.{image}
use Rattle.set_image.specs.ImageLaws.{image-from_list}
use Rattle.rdf_model.specs.Terms.{Text}
use Rattle.rdf_model.specs.Sorting.{AreMembersOf}
use Rattle.graph_lines.specs.Walks.{AddsTexts}

-- whether the first key of the tuple is below
abbrev pub starts_below : ℕ → List ℕ → Bool
starts_below from [] = false
starts_below from (k ∷ t) = nat_lt k from

-- the tuples whose first key is below
abbrev pub part : IdSet → ℕ → IdSet
part H from = set.retain H (starts_below from)

pub has-part : (H : IdSet) (from : ℕ) (t : List ℕ) → has (part H from) t ≡ (has H t && starts_below from t)
has-part H from t = contains-kept (lists_total total) (slice_cmp-IsAntisymmetric exact) H (starts_below from) t

pub part_none : (H : IdSet) → part H 0 ≡ empty nat_cmp
part_none H = no_members (lists_total total) (slice_cmp-IsAntisymmetric exact) (part H 0) (λ t e. none t (and_both (has H t) (starts_below 0 t) (sym (has-part H 0 t) ∙ e)).1) where
  none : (t : List ℕ) → starts_below 0 t ≡ true → ⊥
  none [] e = cc
  none (k ∷ t) e = let lt : k < 0 = grind (arith, nat_tests) in omega arith

pub members_none : (H : IdSet) → AreMembersOf (part H 0) []
members_none H = record { all = sym (part_none H); once = sym (ap set.len (part_none H) ∙ set.len-empty (slice_cmp nat_cmp)) }

image_prefixed : (k : ℕ) (S : IdSet) → image (slice_cmp nat_cmp) (λ t. k ∷ t) S ≡ prefixed nat_cmp k S
unfolding image
image_prefixed k S = refl

-- the members of a slice, under its key
pub members_under : (k : ℕ) (S : IdSet) (rest : List (List ℕ)) → AreMembersOf S rest → AreMembersOf (prefixed nat_cmp k S) (each (λ t. k ∷ t) rest)
members_under k S rest members = record {
  all = sym (image-from_list (lists_total total) (slice_cmp-IsAntisymmetric exact) (lists_total total) (slice_cmp-IsAntisymmetric exact) (λ t. k ∷ t) rest)
      ∙ ap (image (slice_cmp nat_cmp) (λ t. k ∷ t)) members.all ∙ image_prefixed k S;
  once = length-map rest (λ t. k ∷ t) ∙ members.once ∙ sym (len-prefixed total exact k S);
}

-- those of two sets that have none in common
pub members_union : (H K : IdSet) (xs ys : List (List ℕ)) → ((t : List ℕ) → has K t ≡ true → has H t ≡ false) → AreMembersOf H xs → AreMembersOf K ys → AreMembersOf (set.union H K) (xs ++ ys)
members_union H K xs ys apart first second = record {
  all = set_of-append total exact xs ys ∙ (λ i. set.union (first.all i) (second.all i));
  once = length-append xs ys ∙ (λ i. first.once i + second.once i) ∙ sym (len-union_disjoint (lists_total total) (slice_cmp-IsAntisymmetric exact) H K apart);
}

-- ---- key after key

module _ (H : IdSet) (nil : has H [] ≡ false) where
  -- a tuple of the set, and the key that it begins with
  begins : (P : List ℕ → Type 0) → ((k : ℕ) (u : List ℕ) → has H (k ∷ u) ≡ true → P (k ∷ u)) → (t : List ℕ) → has H t ≡ true → P t
  begins P by [] e = absurd (let n : false ≡ true = sym nil ∙ e in let f : ⊥ = cc in f)
  begins P by (k ∷ u) e = by k u e

  -- a key that begins a tuple has a slice
  not_empty : (k : ℕ) (u : List ℕ) → has H (k ∷ u) ≡ true → slice nat_cmp H 0 k ≢ empty nat_cmp
  not_empty k u e none =
      let there : has (slice nat_cmp H 0 k) u ≡ true = has-slice total exact H 0 k u (omega arith) ∙ e in
      let n : false ≡ true = sym (set.contains-empty (slice_cmp nat_cmp) u) ∙ ap (λ S. has S u) (sym none) ∙ there in
      let f : ⊥ = cc in f

  test_of_lt : (k from : ℕ) → k < from → nat_lt k from ≡ true
  test_of_lt k from h = grind (arith, nat_tests)

  lt_of_test : (k from : ℕ) → nat_lt k from ≡ true → k < from
  lt_of_test k from h = grind (arith, nat_tests)

  -- all tuples were seen where no key is left
  pub part_all : (from : ℕ) → ((k : ℕ) → from ≤ k → slice nat_cmp H 0 k ≡ empty nat_cmp) → part H from ≡ H
  part_all from none = same_sets total exact (part H from) H (λ t. same_test _ _
      (λ e. (and_both (has H t) (starts_below from t) (sym (has-part H from t) ∙ e)).0)
      (λ e. has-part H from t ∙ (λ i. e i && begins (λ v. starts_below from v ≡ true) below t e i))) where
        below : (k : ℕ) (u : List ℕ) → has H (k ∷ u) ≡ true → starts_below from (k ∷ u) ≡ true
        below k u there = elim (dec_lt k from) as (λ _. starts_below from (k ∷ u) ≡ true) [
          | yes lt ↦ test_of_lt k from lt
          | no ge ↦ absurd (not_empty k u there (none k (omega arith)))
        ]

  module _ (from k : ℕ) (high : from ≤ k) (skipped : (q : ℕ) → from ≤ q → q < k → slice nat_cmp H 0 q ≡ empty nat_cmp) where
    -- the next key brings its slice, under the key
    part_next : part H (k + 1) ≡ set.union (part H from) (prefixed nat_cmp k (slice nat_cmp H 0 k))
    part_next = same_sets total exact _ _ at where
      brought : (x : ℕ) (u : List ℕ) → has (prefixed nat_cmp k (slice nat_cmp H 0 k)) (x ∷ u) ≡ (eq_by_cmp nat_cmp x k && has H (k ∷ u))
      brought x u = has-prefixed total exact k (slice nat_cmp H 0 k) x u ∙ ap (λ b. eq_by_cmp nat_cmp x k && b) (has-slice total exact H 0 k u (omega arith))

      into : (x : ℕ) (u : List ℕ) → has H (x ∷ u) ≡ true → x < k + 1 → ((has H (x ∷ u) && nat_lt x from) || (eq_by_cmp nat_cmp x k && has H (k ∷ u))) ≡ true
      into x u there lt = elim (dec_lt x from) as (λ _. ((has H (x ∷ u) && nat_lt x from) || (eq_by_cmp nat_cmp x k && has H (k ∷ u))) ≡ true) [
        | yes below ↦ ap (λ b. b || (eq_by_cmp nat_cmp x k && has H (k ∷ u))) (λ i. there i && test_of_lt x from below i)
        | no above ↦
            let is : x ≡ k = elim (dec_lt x k) as (λ _. x ≡ k) [ yes less ↦ absurd (not_empty x u there (skipped x (omega arith) less)) | no more ↦ omega arith ] in
            or_right (has H (x ∷ u) && nat_lt x from) (eq_by_cmp nat_cmp x k && has H (k ∷ u))
            (λ i. (ap (λ z. eq_by_cmp nat_cmp z k) is ∙ tied-itself total k) i && (ap (λ z. has H (z ∷ u)) (sym is) ∙ there) i)
      ]

      back : (x : ℕ) (u : List ℕ) → ((has H (x ∷ u) && nat_lt x from) || (eq_by_cmp nat_cmp x k && has H (k ∷ u))) ≡ true → (has H (x ∷ u) && nat_lt x (k + 1)) ≡ true
      back x u e = or_cases (has H (x ∷ u) && nat_lt x from) (eq_by_cmp nat_cmp x k && has H (k ∷ u)) e ((has H (x ∷ u) && nat_lt x (k + 1)) ≡ true)
          (λ a. let two = and_both (has H (x ∷ u)) (nat_lt x from) a in let lt = lt_of_test x from two.1 in (λ i. two.0 i && test_of_lt x (k + 1) (omega arith) i))
          (λ b. let two = and_both (eq_by_cmp nat_cmp x k) (has H (k ∷ u)) b in let is = tied-is exact x k two.0 in (λ i. (ap (λ z. has H (z ∷ u)) is ∙ two.1) i && test_of_lt x (k + 1) (omega arith) i))

      at : (t : List ℕ) → has (part H (k + 1)) t ≡ has (set.union (part H from) (prefixed nat_cmp k (slice nat_cmp H 0 k))) t
      at [] =
          has-part H (k + 1) [] ∙ none (has H [])
          ∙ sym (set.contains-union (lists_total total) (part H from) (prefixed nat_cmp k (slice nat_cmp H 0 k)) [] ∙ (λ i. (has-part H from [] ∙ none (has H [])) i || has-prefixed_nil total exact k (slice nat_cmp H 0 k) i)) where
            none : (b : Bool) → (b && false) ≡ false
            none true = refl
            none false = refl
      at (x ∷ u) =
          has-part H (k + 1) (x ∷ u)
          ∙ same_test _ _ (λ e. let two = and_both (has H (x ∷ u)) (nat_lt x (k + 1)) e in into x u two.0 (lt_of_test x (k + 1) two.1)) (back x u)
          ∙ (λ i. sym (has-part H from (x ∷ u)) i || sym (brought x u) i)
          ∙ sym (set.contains-union (lists_total total) (part H from) (prefixed nat_cmp k (slice nat_cmp H 0 k)) (x ∷ u))

    -- the slice has none of what was seen
    apart : (t : List ℕ) → has (prefixed nat_cmp k (slice nat_cmp H 0 k)) t ≡ true → has (part H from) t ≡ false
    apart [] e = absurd (let n : false ≡ true = sym (has-prefixed_nil total exact k (slice nat_cmp H 0 k)) ∙ e in let f : ⊥ = cc in f)
    apart (x ∷ u) e =
        let is = tied-is exact x k (and_both (eq_by_cmp nat_cmp x k) (has (slice nat_cmp H 0 k) u) (sym (has-prefixed total exact k (slice nat_cmp H 0 k) x u) ∙ e)).0 in
        has-part H from (x ∷ u) ∙ out (has H (x ∷ u)) (not_below is) where
          out : (b : Bool) → nat_lt x from ≡ false → (b && nat_lt x from) ≡ false
          out true n = n
          out false n = refl

          not_below : x ≡ k → nat_lt x from ≡ false
          not_below is = grind (arith, nat_tests)

    -- the members seen, and those of the slice under the key
    members_next : (seen rest : List (List ℕ)) → AreMembersOf (part H from) seen → AreMembersOf (slice nat_cmp H 0 k) rest → AreMembersOf (part H (k + 1)) (seen ++ each (λ t. k ∷ t) rest)
    members_next seen rest old new =
        let S = slice nat_cmp H 0 k in
        let both = members_union (part H from) (prefixed nat_cmp k S) seen (each (λ t. k ∷ t) rest) apart old (members_under k S rest new) in
        record { all = both.all ∙ sym part_next; once = both.once ∙ ap set.len (sym part_next) }

-- ---- the texts of what was seen

-- the texts are those that were there, and behind them those of the tuples whose first key is below
abbrev pub Walked : (List ℕ → Text) → IdSet → ℕ → List Text → List Text → Type 0
Walked text H from old now = AddsTexts text (part H from) old now

pub walked_none : (text : List ℕ → Text) (H : IdSet) (old : List Text) → Walked text H 0 old old
walked_none text H old = ([], members_none H, sym (append-nil old))

pub walked_all : (text : List ℕ → Text) (H : IdSet) → has H [] ≡ false → (from : ℕ) → ((k : ℕ) → from ≤ k → slice nat_cmp H 0 k ≡ empty nat_cmp) → (old now : List Text) → Walked text H from old now → AddsTexts text H old now
walked_all text H nil from none old now seen = (seen.0, subst (λ S. AreMembersOf S seen.0) (part_all H nil from none) seen.1, seen.2)

module _ (text under : List ℕ → Text) (k : ℕ) (same : (t : List ℕ) → under t ≡ text (k ∷ t)) where
  same_texts : (ts : List (List ℕ)) → each under ts ≡ each text (each (λ t. k ∷ t) ts)
  same_texts [] = refl
  same_texts (t ∷ ts) = λ i. same t i ∷ same_texts ts i

  -- one key more, with the texts of its slice
  pub walked_next : (H : IdSet) → has H [] ≡ false → (from : ℕ) → from ≤ k → ((q : ℕ) → from ≤ q → q < k → slice nat_cmp H 0 q ≡ empty nat_cmp)
      → (S : IdSet) → S ≡ slice nat_cmp H 0 k → (old mid now : List Text) → Walked text H from old mid → AddsTexts under S mid now → Walked text H (k + 1) old now
  walked_next H nil from high skipped S is old mid now seen rest = (
    seen.0 ++ each (λ t. k ∷ t) rest.0,
    members_next H nil from k high skipped seen.0 rest.0 seen.1 (subst (λ T. AreMembersOf T rest.0) is rest.1),
    rest.2 ∙ (λ i. seen.2 i ++ same_texts rest.0 i) ∙ append_assoc old (each text seen.0) (each text (each (λ t. k ∷ t) rest.0))
        ∙ ap (λ ls. old ++ ls) (sym (map-append text seen.0 (each (λ t. k ∷ t) rest.0))),
  )
