-- Which keys a set admits at a mask: numbers of ids, and at one position the keys there.
use Rattle.std.specs.Prelude.{◌≡◌, ℕ, zero, suc, ◌*◌, ◌/◌, ◌%◌, ◌^◌, ◌<◌, ◌≤◌, ◌&&◌, Bool, true, false, cond, nat_eq, List, [], ◌∷◌, length, refl, All}
use Rattle.std.proofs.Common.{sym, ◌∙◌, ap, subst, arith}
use Rattle.std.proofs.Math.Nat.{pow-succ'}
use Rattle.std.proofs.Math.Pow.{pow-lt}
use Rattle.std.proofs.lemmas.Bool.{false_from_ne_true}
use Rattle.std.proofs.lemmas.Bool.Decides.{nat_tests}
use Rattle.std.proofs.lemmas.Cmp.{nat_cmp_total}
use Rattle.std.proofs.lemmas.List.Elements.{All-head, All-tail}
use Rattle.std.specs.FinMap.{nat_cmp-IsAntisymmetric}
use Rattle.std.specs.FinSet as set
use Rattle.std.specs.Cmp.Lexicographic.{slice_cmp}
use Rattle.std.specs.Ordering.{nat_cmp, eq_by_cmp}
use native.Mathlib.Decide.{dec_lt}
use Rattle.hypertrie_model.specs.IdSets.{IdSet}
use Rattle.hypertrie_model.specs.Sets.{has, HasDepth}
use Rattle.hypertrie_model.specs.SetLaws.{same_sets, and_both, tied-is}
use Rattle.hypertrie_model.specs.Slices.{is_at, is_at_mask, without_mask, keys, slice_at_mask}
use Rattle.hypertrie_model.specs.SliceLaws.{has-slice_at_mask, slice_at_mask-has, has-keys, keys-has}
use Rattle.trie_depth.specs.Masks.{FitsDepth, lowest}
use Rattle.trie_depth.specs.Operands.{Admits, IsIdTuple}

and-true : (a : Bool) → (a && true) ≡ a
and-true true = refl
and-true false = refl

at_no_mask : (k : ℕ) (t : List ℕ) → is_at_mask nat_cmp 0 k t ≡ true
at_no_mask k [] = refl
at_no_mask k (x ∷ t) = at_no_mask k t

-- a mask that doesn't name the first position names others
fits_behind : (d m : ℕ) → nat_eq (m % 2) 1 ≡ false → FitsDepth m (suc d) → FitsDepth (m / 2) d
fits_behind d m even fits =
    let none : m % 2 ≡ 0 = grind (arith, nat_tests) in
    let low = fits.0 in
    let high : m < 2 * 2 ^ d = subst (λ z. m < z) (pow-succ' 2 d) fits.1 in
    (omega arith, omega arith)

-- what holds of each number of a tuple holds of the key at a mask
pub at_mask-within : (P : ℕ → Type 0) (d m k : ℕ) (t : List ℕ) → length t ≡ d → FitsDepth m d → All P t → is_at_mask nat_cmp m k t ≡ true → P k
at_mask-within P d m k [] long fits all e = absurd (let n : m < 2 ^ 0 = subst (λ z. m < 2 ^ z) (sym long) fits.1 in omega (arith, fits.0, n))
at_mask-within P zero m k (x ∷ t) long fits all e = absurd (omega (arith, long))
at_mask-within P (suc d) m k (x ∷ t) long fits all e =
    let two = and_both (cond (nat_eq (m % 2) 1) (eq_by_cmp nat_cmp k x) true) (is_at_mask nat_cmp (m / 2) k t) e in
    elim (nat_eq (m % 2) 1) as (λ b. nat_eq (m % 2) 1 ≡ b → P k) [
      | true ↦ λ odd. subst P (sym (tied-is nat_cmp-IsAntisymmetric k x (sym (ap (λ b. cond b (eq_by_cmp nat_cmp k x) true) odd) ∙ two.0))) (All-head P x t all)
      | false ↦ λ even. at_mask-within P d (m / 2) k t (omega (arith, long)) (fits_behind d m even fits) (All-tail P x t all) two.1
    ] refl

-- a tuple has one key at a mask
pub at_mask-same : (d m k q : ℕ) (t : List ℕ) → length t ≡ d → FitsDepth m d → is_at_mask nat_cmp m k t ≡ true → is_at_mask nat_cmp m q t ≡ true → k ≡ q
at_mask-same d m k q [] long fits e g = absurd (let n : m < 2 ^ 0 = subst (λ z. m < 2 ^ z) (sym long) fits.1 in omega (arith, fits.0, n))
at_mask-same zero m k q (x ∷ t) long fits e g = absurd (omega (arith, long))
at_mask-same (suc d) m k q (x ∷ t) long fits e g =
    let of_k = and_both (cond (nat_eq (m % 2) 1) (eq_by_cmp nat_cmp k x) true) (is_at_mask nat_cmp (m / 2) k t) e in
    let of_q = and_both (cond (nat_eq (m % 2) 1) (eq_by_cmp nat_cmp q x) true) (is_at_mask nat_cmp (m / 2) q t) g in
    elim (nat_eq (m % 2) 1) as (λ b. nat_eq (m % 2) 1 ≡ b → k ≡ q) [
      | true ↦ λ odd.
          tied-is nat_cmp-IsAntisymmetric k x (sym (ap (λ b. cond b (eq_by_cmp nat_cmp k x) true) odd) ∙ of_k.0)
          ∙ sym (tied-is nat_cmp-IsAntisymmetric q x (sym (ap (λ b. cond b (eq_by_cmp nat_cmp q x) true) odd) ∙ of_q.0))
      | false ↦ λ even. at_mask-same d (m / 2) k q t (omega (arith, long)) (fits_behind d m even fits) of_k.1 of_q.1
    ] refl

-- a set whose slice has no member
not_admitted : (H : IdSet) (m k : ℕ) → ((u : List ℕ) → has (slice_at_mask nat_cmp H m k) u ≡ true → ⊥) → Admits H m k → ⊥
not_admitted H m k none some = some (same_sets nat_cmp_total nat_cmp-IsAntisymmetric _ _ (λ u. false_from_ne_true _ (none u) ∙ sym (set.contains-empty (slice_cmp nat_cmp) u)))

pub admits-small : (H : IdSet) (d m k : ℕ) → HasDepth d H → ((t : List ℕ) → has H t ≡ true → IsIdTuple t) → FitsDepth m d → Admits H m k → k < 2 ^ 32
admits-small H d m k deep ids fits some =
    elim (dec_lt k (2 ^ 32)) as (λ _. k < 2 ^ 32) [
      | yes lt ↦ lt
      | no ge ↦ absurd (not_admitted H m k (λ u e.
          let l = has-slice_at_mask nat_cmp_total nat_cmp-IsAntisymmetric H m k u e in
          ge (at_mask-within (λ z. z < 2 ^ 32) d m k l.tuple (deep l.tuple l.there) fits (ids l.tuple l.there) l.fixed)) some)
    ]

-- a mask of one position
pub at_mask-alone : (i k : ℕ) (t : List ℕ) → i < length t → is_at_mask nat_cmp (2 ^ i) k t ≡ is_at nat_cmp i k t
at_mask-alone i k [] lt = absurd (omega (arith, lt))
at_mask-alone zero k (x ∷ t) lt = ap (λ b. eq_by_cmp nat_cmp k x && b) (at_no_mask k t) ∙ and-true (eq_by_cmp nat_cmp k x)
at_mask-alone (suc i) k (x ∷ t) lt =
    (λ j. cond (nat_eq (even j) 1) (eq_by_cmp nat_cmp k x) true && is_at_mask nat_cmp (half j) k t) ∙ at_mask-alone i k t (omega (arith, lt)) where
      even : 2 ^ suc i % 2 ≡ 0
      even = let two = pow-succ' 2 i in omega (arith, two)

      half : 2 ^ suc i / 2 ≡ 2 ^ i
      half = let two = pow-succ' 2 i in omega (arith, two)

-- a set admits at one position the keys there
pub admits-key : (H : IdSet) (d i k : ℕ) → HasDepth d H → i < d → Admits H (2 ^ i) k → set.contains (keys nat_cmp H i) k ≡ true
admits-key H d i k deep lt some =
    elim (set.contains (keys nat_cmp H i) k) as (λ b. set.contains (keys nat_cmp H i) k ≡ b → b ≡ true) [
      | true ↦ λ _. refl
      | false ↦ λ out. absurd (not_admitted H (2 ^ i) k (λ u e.
          let l = has-slice_at_mask nat_cmp_total nat_cmp-IsAntisymmetric H (2 ^ i) k u e in
          let stands = sym (at_mask-alone i k l.tuple (subst (λ n. i < n) (sym (deep l.tuple l.there)) lt)) ∙ l.fixed in
          let t : false ≡ true = sym out ∙ keys-has nat_cmp_total nat_cmp-IsAntisymmetric H i k l.tuple l.there stands in
          cc) some)
    ] refl

pub key-admits : (H : IdSet) (d i k : ℕ) → HasDepth d H → i < d → set.contains (keys nat_cmp H i) k ≡ true → Admits H (2 ^ i) k
key-admits H d i k deep lt e none =
    let key = has-keys nat_cmp_total nat_cmp-IsAntisymmetric H i k e in
    let fixed = at_mask-alone i k key.tuple (subst (λ n. i < n) (sym (deep key.tuple key.there)) lt) ∙ key.stands in
    let t : false ≡ true =
    sym (set.contains-empty (slice_cmp nat_cmp) (without_mask (2 ^ i) key.tuple))
    ∙ ap (λ S. has S (without_mask (2 ^ i) key.tuple)) (sym none)
    ∙ slice_at_mask-has nat_cmp_total nat_cmp-IsAntisymmetric H (2 ^ i) k key.tuple key.there fixed in
    cc

pow-low : (n : ℕ) → 1 ≤ 2 ^ n
pow-low zero = omega arith
pow-low (suc n) = omega (arith, pow-succ' 2 n, pow-low n)

less-from_pow : (n d m : ℕ) → 2 ^ n ≤ m → m < 2 ^ d → n < d
less-from_pow zero zero m low high = absurd (omega (arith, low, high))
less-from_pow (suc n) zero m low high = absurd (omega (arith, low, high, pow-succ' 2 n, pow-low n))
less-from_pow zero (suc d) m low high = omega arith
less-from_pow (suc n) (suc d) m low high =
    let behind = pow-succ' 2 n in
    let above = pow-succ' 2 d in
    let rest = less-from_pow n d (m / 2) (omega (arith, low, behind)) (omega (arith, high, above)) in
    omega (arith, rest)

-- the lowest position of a mask is one of the depth, and fits alone
pub lowest-within : (d m : ℕ) → FitsDepth m d → lowest m < d
lowest-within d m fits =
    elim (nat_eq (m % 2) 1) as (λ b. nat_eq (m % 2) 1 ≡ b → cond b 0 (cond (nat_eq (m / 2 % 2) 1) 1 2) < d) [
      | true ↦ λ _. less-from_pow 0 d m fits.0 fits.1
      | false ↦ λ even.
          let none : m % 2 ≡ 0 = grind (arith, nat_tests) in
          elim (nat_eq (m / 2 % 2) 1) as (λ b. nat_eq (m / 2 % 2) 1 ≡ b → cond b 1 2 < d) [
            | true ↦ λ _. less-from_pow 1 d m (omega (arith, none, fits.0)) fits.1
            | false ↦ λ twice.
                let none_behind : m / 2 % 2 ≡ 0 = grind (arith, nat_tests) in
                less-from_pow 2 d m (omega (arith, none, none_behind, fits.0)) fits.1
          ] refl
    ] refl

pub lowest-fits : (d m : ℕ) → FitsDepth m d → FitsDepth (2 ^ lowest m) d
lowest-fits d m fits = (pow-low (lowest m), pow-lt (lowest-within d m fits))
