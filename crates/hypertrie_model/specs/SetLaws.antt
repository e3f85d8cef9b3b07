-- Sets of tuples with the same members are equal; the set of one tuple.
use Rattle.std.specs.Prelude.{◌≡◌, ◌+◌, ◌&&◌, ◌||◌, ◌≢◌, Bool, true, false, cond, T, List, [], ◌∷◌, refl}
use Rattle.std.proofs.Common.{sym, ◌∙◌, ap}
use Rattle.std.proofs.lemmas.Cmp.{lists_total, tied_itself}
use Rattle.std.specs.Ordering.{eq_by_cmp, is_eq}
use Rattle.std.specs.declared.cmp.Ordering.{Ordering}
use Rattle.std.specs.declared.cmp.Ordering.TheVariants.{Less, Equal, Greater}
use Rattle.std.specs.Cmp.{IsTotalOrder}
use Rattle.std.specs.Cmp.Lexicographic.{slice_cmp}
use Rattle.std.specs.FinSet.{IsAntisymmetric, slice_cmp-IsAntisymmetric}
use Rattle.std.specs.FinSet as set
use Rattle.hypertrie_model.specs.Sets.{TupleSet, has, empty, single}

equal_of : (r : Ordering) → is_eq r ≡ true → r ≡ Equal
equal_of Less e = cc
equal_of Equal e = refl
equal_of Greater e = cc

pub or-false : (a : Bool) → (a || false) ≡ a
or-false true = refl
or-false false = refl

pub or_cases : (a b : Bool) → (a || b) ≡ true → (P : Type 0) → (a ≡ true → P) → (b ≡ true → P) → P
or_cases true b e P f g = f refl
or_cases false b e P f g = g e

pub or_right : (a b : Bool) → b ≡ true → (a || b) ≡ true
or_right true b e = refl
or_right false b e = e

pub and_both : (a b : Bool) → (a && b) ≡ true → (a ≡ true) × (b ≡ true)
and_both true b e = (refl, e)
and_both false b e = (e, cc)

pub split_left : (a b : Bool) → T (a && b) → T a
split_left true b p = tt
split_left false b p = absurd p

pub split_right : (a b : Bool) → T (a && b) → T b
split_right true b p = p
split_right false b p = absurd p

-- two tests that imply each other are one
pub same_test : (a b : Bool) → (a ≡ true → b ≡ true) → (b ≡ true → a ≡ true) → a ≡ b
same_test true b f g = sym (f refl)
same_test false true f g = g refl
same_test false false f g = refl

module _ {K : Type 0} {R : K → K → Ordering} where
  pub tied-itself : IsTotalOrder R → (k : K) → eq_by_cmp R k k ≡ true
  tied-itself o k = ap is_eq (tied_itself o k)

  pub tied-is : IsAntisymmetric R → (q k : K) → eq_by_cmp R q k ≡ true → q ≡ k
  tied-is exact q k e = exact q k (equal_of (R q k) e)

  pub tied-apart : IsAntisymmetric R → (q k : K) → q ≢ k → eq_by_cmp R q k ≡ false
  tied-apart exact q k ne =
      elim (eq_by_cmp R q k) as (λ b. eq_by_cmp R q k ≡ b → b ≡ false) [
        | true ↦ λ e. absurd (ne (tied-is exact q k e))
        | false ↦ λ e. refl
      ] refl

module _ {A : Type 0} {R : A → A → Ordering} (o : IsTotalOrder R) (exact : IsAntisymmetric R) where
  pub same_sets : (H K : TupleSet R) → ((t : List A) → has H t ≡ has K t) → H ≡ K
  same_sets H K is = set.same_set (lists_total o) (slice_cmp-IsAntisymmetric exact) H K is

  pub has-single : (t q : List A) → has (single R t) q ≡ eq_by_cmp (slice_cmp R) q t
  has-single t q = set.contains-from_list (lists_total o) (t ∷ []) q ∙ or-false (eq_by_cmp (slice_cmp R) q t)

  pub len-single : (t : List A) → set.len (single R t) ≡ 1
  len-single t =
      set.len-insert (lists_total o) (empty R) t
      ∙ ap (λ b. cond b (set.len (empty R)) (set.len (empty R) + 1)) (set.contains-empty (slice_cmp R) t)
      ∙ ap (λ n. n + 1) (set.len-empty (slice_cmp R))

  pub single_names : (t u : List A) → single R t ≡ single R u → t ≡ u
  single_names t u e =
      tied-is (slice_cmp-IsAntisymmetric exact) t u
      (sym (has-single u t) ∙ ap (λ H. has H t) (sym e) ∙ has-single t t ∙ tied-itself (lists_total o) t)
