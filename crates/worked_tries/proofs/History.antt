-- A graph into which all triples are put, out of which a part of them is taken, into which the part is put again, and out of which all are taken.
use Rattle.std.specs.Prelude.{◌≡◌, ℕ, ◌||◌, Bool, true, false, List, [], ◌∷◌, refl}
use Rattle.std.proofs.Common.{sym, ◌∙◌, ap, subst}
use Rattle.std.specs.List.{AllByRecursion, list_any}
use Rattle.std.specs.Ordering.{nat_cmp, eq_by_cmp}
use Rattle.std.specs.Cmp.{nat_cmp_total as total}
use Rattle.std.specs.Cmp.Lexicographic.{slice_cmp}
use Rattle.std.specs.FinMap.{nat_cmp-IsAntisymmetric as exact}
use Rattle.std.specs.FinSet.{slice_cmp-IsAntisymmetric}
use Rattle.std.specs.FinSet as set
use Rattle.hypertrie_model.specs.IdSets.{IdSet}
use Rattle.hypertrie_model.specs.Sets.{has}
use Rattle.hypertrie_model.specs.SetLaws.{same_sets, or_cases, tied-is}
use Rattle.hypertrie_model.specs.Changes.{after, IsChange}
use Rattle.hypertrie_model.specs.ChangeLaws.{has-after_in, shrunk_grown, shrunk_change}
use Rattle.hypertrie_model.specs.Listings.{set_of, has-set_of}

or_same : (a b : Bool) → (b ≡ true → a ≡ true) → (a || b) ≡ a
or_same true b h = refl
or_same false true h = sym (h refl)
or_same false false h = refl

-- what is there already makes no difference when put in
pub grown_within : (H B : IdSet) → IsChange false H B → after true H B ≡ H
grown_within H B there = same_sets total exact _ _ (λ t. has-after_in total exact H B t ∙ or_same (has H t) (has B t) (there t))

-- the tuples of a list are there, if each of them is in the other list
pub list_within : (us ts : List (List ℕ)) → AllByRecursion (λ t. list_any (eq_by_cmp (slice_cmp nat_cmp) t) us ≡ true) ts → IsChange false (set_of nat_cmp us) (set_of nat_cmp ts)
list_within us ts each t there = has-set_of total exact us t ∙ along ts each (sym (has-set_of total exact ts t) ∙ there) where
  is_there : List ℕ → Bool
  is_there u = list_any (eq_by_cmp (slice_cmp nat_cmp) u) us

  along : (ts : List (List ℕ)) → AllByRecursion (λ u. list_any (eq_by_cmp (slice_cmp nat_cmp) u) us ≡ true) ts → list_any (eq_by_cmp (slice_cmp nat_cmp) t) ts ≡ true → list_any (eq_by_cmp (slice_cmp nat_cmp) t) us ≡ true
  along [] each is = absurd (let f : ⊥ = cc in f)
  along (u ∷ ts) each is =
      or_cases (eq_by_cmp (slice_cmp nat_cmp) t u) (list_any (eq_by_cmp (slice_cmp nat_cmp) t) ts) is _
      (λ here. ap is_there (tied-is (slice_cmp-IsAntisymmetric exact) t u here) ∙ each.0)
      (along ts each.1)

-- ---- it has all triples

module _ (H A P : IdSet) (all : H ≡ A) (part : IsChange false A P) where
  pub part_there : IsChange false H P
  part_there = subst (λ K. IsChange false K P) (sym all) part

  pub part_within : set.union H P ≡ A
  part_within = ap (λ K. set.union K P) all ∙ grown_within A P part

-- ---- it has the rest of them

module _ (H A P : IdSet) (rest : H ≡ set.difference A P) (part : IsChange false A P) where
  pub part_new : IsChange true H P
  part_new = subst (λ K. IsChange true K P) (sym rest) (shrunk_change total exact A P)

  pub part_back : set.union H P ≡ A
  part_back = ap (λ K. set.union K P) rest ∙ shrunk_grown total exact A P part
