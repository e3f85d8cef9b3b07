-- A key fixed at one position of a mask after another.
use Rattle.std.specs.Prelude.{◌≡◌, ◌≢◌, ℕ, zero, suc, ◌+◌, ◌-◌, ◌^◌, ◌<◌, ◌≤◌, List, [], ◌∷◌, ◌++◌, length, drop, take, slice_index, refl}
use Rattle.std.proofs.Common.{sym, ◌∙◌, ap, subst, arith}
use Rattle.std.proofs.lemmas.List.{drop_more}
use Rattle.std.specs.Ordering.{nat_cmp}
use Rattle.std.specs.Cmp.{nat_cmp_total as total}
use Rattle.std.specs.FinMap.{nat_cmp-IsAntisymmetric as exact}
use Rattle.hypertrie_model.specs.IdSets.{IdSet}
use Rattle.hypertrie_model.specs.Sets.{empty, HasDepth}
use Rattle.hypertrie_model.specs.Slices.{slice, slice_at_mask}
use Rattle.trie_depth.specs.Masks.{FitsDepth, n_positions}
use Rattle.slice_cases.specs.declared.cases.Case.{Case}
use Rattle.slice_cases.specs.Cases.{taken_of, padded, case_of, slices_at}
use Rattle.slice_cases.specs.SlicesInOrder.{slice_at_mask-in_order}
use Rattle.slice_cases.specs.TakenLaws.{AreThere, taken_there, length-taken, slices_at-empty}

-- the slices that are left to be taken, from a set of depth e on, give the slice at the mask of the whole set, which has depth d
pub record IsOnWay (whole here : IdSet) (d e m k turn : ℕ) : Type 0 where
  pub rest : slices_at nat_cmp here (drop turn (taken_of d m)) k ≡ slice_at_mask nat_cmp whole m k
  pub there : AreThere e (drop turn (taken_of d m))
  pub depth : e + turn ≡ d
  pub filled : 1 ≤ turn → here ≢ empty nat_cmp

some_positions : (d m : ℕ) → d ≤ 3 → FitsDepth m d → 1 ≤ n_positions m
some_positions zero m high fits = absurd (omega (arith, fits.0, fits.1))
some_positions (suc zero) m high fits = omega (arith, fits.0, fits.1)
some_positions (suc (suc zero)) m high fits = omega (arith, fits.0, fits.1)
some_positions (suc (suc (suc zero))) m high fits = omega (arith, fits.0, fits.1)
some_positions (suc (suc (suc (suc d)))) m high fits = absurd (omega arith)

-- the places past the last position say nothing of the ones before
at_padded : (ps : List ℕ) (i : ℕ) → length ps ≤ 3 → i < length ps → slice_index (padded ps) i ≡ slice_index ps i
at_padded [] i short lt = absurd (omega arith)
at_padded (a ∷ []) zero short lt = refl
at_padded (a ∷ []) (suc i) short lt = absurd (omega arith)
at_padded (a ∷ b ∷ []) zero short lt = refl
at_padded (a ∷ b ∷ []) (suc zero) short lt = refl
at_padded (a ∷ b ∷ []) (suc (suc i)) short lt = absurd (omega arith)
at_padded (a ∷ b ∷ c ∷ []) zero short lt = refl
at_padded (a ∷ b ∷ c ∷ []) (suc zero) short lt = refl
at_padded (a ∷ b ∷ c ∷ []) (suc (suc zero)) short lt = refl
at_padded (a ∷ b ∷ c ∷ []) (suc (suc (suc i))) short lt = absurd (omega arith)
at_padded (a ∷ b ∷ c ∷ d ∷ ps) i short lt = absurd (omega arith)

module _ (whole : IdSet) (d m k : ℕ) (high : d ≤ 3) (fits : FitsDepth m d) where
  pub way_begins : HasDepth d whole → IsOnWay whole whole d d m k 0
  way_begins deep = record {
    rest = sym (slice_at_mask-in_order total exact whole d m k deep fits.1);
    there = taken_there d m;
    depth = omega arith;
    filled = λ some. absurd (omega arith);
  }

  module _ (here : IdSet) (e turn : ℕ) (on : IsOnWay whole here d e m k turn) where
    module _ (more : turn < length (taken_of d m)) where
      abbrev next : ℕ
      next = slice_index (taken_of d m) turn

      split : drop turn (taken_of d m) ≡ next ∷ drop (turn + 1) (taken_of d m)
      split = drop_more (taken_of d m) turn 0 more

      both : (next < e) × (AreThere (e - 1) (drop (turn + 1) (taken_of d m)))
      both = subst (AreThere e) split on.there

      pub way_within : slice_index (padded (taken_of d m)) turn < e
      way_within = subst (λ p. p < e) (sym (at_padded (taken_of d m) turn (omega (arith, length-taken d m high fits.1)) more)) both.0

      rest_is : slices_at nat_cmp (slice nat_cmp here (slice_index (padded (taken_of d m)) turn) k) (drop (turn + 1) (taken_of d m)) k ≡ slice_at_mask nat_cmp whole m k
      rest_is =
          ap (λ p. slices_at nat_cmp (slice nat_cmp here p k) (drop (turn + 1) (taken_of d m)) k) (at_padded (taken_of d m) turn (omega (arith, length-taken d m high fits.1)) more)
          ∙ ap (λ ps. slices_at nat_cmp here ps k) (sym split) ∙ on.rest

      -- a slice on the way is empty
      pub way_lost : slice nat_cmp here (slice_index (padded (taken_of d m)) turn) k ≡ empty nat_cmp → slice_at_mask nat_cmp whole m k ≡ empty nat_cmp
      way_lost none = sym rest_is ∙ ap (λ H. slices_at nat_cmp H (drop (turn + 1) (taken_of d m)) k) none ∙ slices_at-empty total exact (drop (turn + 1) (taken_of d m)) k

      pub way_on : (new : IdSet) (f : ℕ) → new ≡ slice nat_cmp here (slice_index (padded (taken_of d m)) turn) k → slice nat_cmp here (slice_index (padded (taken_of d m)) turn) k ≢ empty nat_cmp → f + 1 ≡ e → IsOnWay whole new d f m k (turn + 1)
      way_on new f is some less = record {
        rest = ap (λ H. slices_at nat_cmp H (drop (turn + 1) (taken_of d m)) k) is ∙ rest_is;
        there = subst (λ z. AreThere z (drop (turn + 1) (taken_of d m))) (let back : e - 1 ≡ f = omega arith in back) both.1;
        depth = omega (arith, on.depth);
        filled = λ _ none. some (sym is ∙ none);
      }

    module _ (all : turn ≡ length (taken_of d m)) where
      count : turn ≡ n_positions m
      count = all ∙ length-taken d m high fits.1

      pub way_ends : here ≡ slice_at_mask nat_cmp whole m k
      way_ends = sym (ap (λ ps. slices_at nat_cmp here ps k) (drop_all (taken_of d m) turn all)) ∙ on.rest where
        drop_all : (ps : List ℕ) (n : ℕ) → n ≡ length ps → drop n ps ≡ []
        drop_all [] zero e = refl
        drop_all [] (suc n) e = absurd (omega (arith, e))
        drop_all (p ∷ ps) zero e = absurd (omega (arith, e))
        drop_all (p ∷ ps) (suc n) e = drop_all ps n (omega (arith, e))

      pub way_some : 1 ≤ turn
      way_some = omega (arith, count, some_positions d m high fits)

      pub way_filled : slice_at_mask nat_cmp whole m k ≢ empty nat_cmp
      way_filled none = on.filled way_some (way_ends ∙ none)

      pub way_depth : e + n_positions m ≡ d
      way_depth = omega (arith, count, on.depth)

-- what the case of a mask says

module _ (case : Case) (e d m : ℕ) (is : case ≡ case_of e m) (deep : e ≡ d) where
  pub count_taken : (n : ℕ) → n ≡ case.n_taken → n ≡ length (taken_of d m)
  count_taken n n_is = n_is ∙ ap (λ (c : Case). c.n_taken) is ∙ ap (λ z. length (taken_of z m)) deep

  pub next_taken : (turn p : ℕ) → p ≡ slice_index case.taken turn → p ≡ slice_index (padded (taken_of d m)) turn
  next_taken turn p p_is = p_is ∙ ap (λ (c : Case). slice_index c.taken turn) is ∙ ap (λ z. slice_index (padded (taken_of z m)) turn) deep
