-- What a mask asks of an entry that has positions behind those of the mask.
use Rattle.std.specs.Prelude.{◌≡◌, ◌≤◌, ℕ, ◌&&◌, Bool, true, IsTrue, ◌↔◌, List, [], ◌∷◌, length, map, slice_index_or, nat_eq, refl}
use Rattle.std.proofs.Common.{sym, ◌∙◌, ap, arith}
use Rattle.std.proofs.Math.Bool.{and-true}
use Rattle.std.specs.Ordering.{nat_cmp, eq_by_cmp}
use Rattle.std.specs.Cmp.{unsigned_tied}
use Rattle.std.proofs.lemmas.Bool.Decides.{nat_tests}
use Rattle.trie_depth.specs.declared.id.Id.{Id}
use Rattle.hypertrie_model.specs.Slices.{is_at_mask}

abbrev id_at : List Id → ℕ → ℕ
id_at e i = (slice_index_or e i (record { 0 = 0 })).0

abbrev is_fixed : ℕ → ℕ → List Id → Bool
is_fixed mask k e = is_at_mask nat_cmp mask k (map (λ i. i.0) e)

at_no_mask : (k : ℕ) (e : List Id) → is_fixed 0 k e ≡ true
at_no_mask k [] = refl
at_no_mask k (x ∷ e) = at_no_mask k e

same_number : (k x : ℕ) → eq_by_cmp nat_cmp k x ≡ nat_eq x k
same_number k x = unsigned_tied k x ∙ turned where
  turned : nat_eq k x ≡ nat_eq x k
  turned = grind (arith, nat_tests)

-- the last position of a mask, and the rest of the entry
at_last : (k x : ℕ) (e : List Id) → (eq_by_cmp nat_cmp k x && is_fixed 0 k e) ≡ nat_eq x k
at_last k x e = ap (λ b. eq_by_cmp nat_cmp k x && b) (at_no_mask k e) ∙ and-true (eq_by_cmp nat_cmp k x) ∙ same_number k x

tells : (b r : Bool) → b ≡ r → IsTrue r ↔ (b ≡ true)
tells b r e = (λ t. e ∙ t, λ t. sym e ∙ t)

pub first_asked : (e : List Id) (k mask : ℕ) (r : Bool) → 1 ≤ length e → mask ≡ 1 → r ≡ nat_eq (id_at e 0) k → IsTrue r ↔ (is_fixed mask k e ≡ true)
first_asked [] k mask r long is same = absurd (omega arith)
first_asked (x ∷ e) k mask r long is same = tells _ r (ap (λ m. is_fixed m k (x ∷ e)) is ∙ at_last k x.0 e ∙ sym same)

pub second_asked : (e : List Id) (k mask : ℕ) (r : Bool) → 2 ≤ length e → mask ≡ 2 → r ≡ nat_eq (id_at e 1) k → IsTrue r ↔ (is_fixed mask k e ≡ true)
second_asked [] k mask r long is same = absurd (omega arith)
second_asked (x ∷ []) k mask r long is same = absurd (omega arith)
second_asked (x ∷ y ∷ e) k mask r long is same = tells _ r (ap (λ m. is_fixed m k (x ∷ y ∷ e)) is ∙ at_last k y.0 e ∙ sym same)

pub both_asked : (e : List Id) (k mask : ℕ) (s r : Bool) → 2 ≤ length e → mask ≡ 3 → s ≡ true → s ≡ nat_eq (id_at e 1) k → r ≡ nat_eq (id_at e 0) k → IsTrue r ↔ (is_fixed mask k e ≡ true)
both_asked [] k mask s r long is held second first = absurd (omega arith)
both_asked (x ∷ []) k mask s r long is held second first = absurd (omega arith)
both_asked (x ∷ y ∷ e) k mask s r long is held second first =
    tells _ r (ap (λ m. is_fixed m k (x ∷ y ∷ e)) is
    ∙ ap (λ b. eq_by_cmp nat_cmp k x.0 && b) (at_last k y.0 e ∙ sym second ∙ held)
    ∙ and-true (eq_by_cmp nat_cmp k x.0) ∙ same_number k x.0 ∙ sym first)
