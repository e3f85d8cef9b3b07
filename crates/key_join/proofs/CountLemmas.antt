-- The members of a set of numbers that are below a number, counted from one member to the next.
use Rattle.std.specs.Prelude.{◌≡◌, ℕ, ◌+◌, ◌<◌, ◌≤◌, ◌&&◌, ◌||◌, true, false, cond, nat_lt, refl}
use Rattle.std.proofs.Common.{sym, ◌∙◌, ap, arith}
use Rattle.std.proofs.lemmas.Bool.{false_from_ne_true}
use Rattle.std.proofs.lemmas.Bool.Decides.{nat_tests}
use Rattle.std.proofs.lemmas.Cmp.{nat_cmp_total}
use Rattle.std.specs.FinMap.{nat_cmp-IsAntisymmetric}
use Rattle.std.specs.FinSet as set
use Rattle.std.specs.Ordering.{nat_cmp, eq_by_cmp}
use Rattle.hypertrie_model.specs.SetLaws.{same_test, and_both, or_cases, or_right, tied-itself, tied-is}
use Rattle.hypertrie_model.specs.Members.{contains-kept, no_members}

-- how many members are below f
unfoldable pub n_below : set.FinSet nat_cmp → ℕ → ℕ
n_below K f = set.len (set.retain K (λ k. nat_lt k f))

has-below : (K : set.FinSet nat_cmp) (f q : ℕ) → set.contains (set.retain K (λ k. nat_lt k f)) q ≡ (set.contains K q && nat_lt q f)
has-below K f q = contains-kept nat_cmp_total nat_cmp-IsAntisymmetric K (λ k. nat_lt k f) q

pub none_below : (K : set.FinSet nat_cmp) → n_below K 0 ≡ 0
unfolding n_below
none_below K =
    ap set.len (no_members nat_cmp_total nat_cmp-IsAntisymmetric (set.retain K (λ k. nat_lt k 0)) (λ q e.
    let two = and_both (set.contains K q) (nat_lt q 0) (sym (has-below K 0 q) ∙ e) in
    none q two.1))
    ∙ set.len-empty nat_cmp where
      none : (q : ℕ) → nat_lt q 0 ≡ true → ⊥
      none q e = let lt : q < 0 = grind (arith, nat_tests) in omega (arith, lt)

less : (q f : ℕ) → nat_lt q f ≡ true → q < f
less q f e = grind (arith, nat_tests)

less_test : (q f : ℕ) → q < f → nat_lt q f ≡ true
less_test q f lt = grind (arith, nat_tests)

not_less : (q f : ℕ) → nat_lt q f ≡ false → f ≤ q
not_less q f e = grind (arith, nat_tests)

pub all_below : (K : set.FinSet nat_cmp) (f : ℕ) → ((q : ℕ) → f ≤ q → set.contains K q ≡ true → ⊥) → n_below K f ≡ set.len K
unfolding n_below
all_below K f none = ap set.len (set.same_set nat_cmp_total nat_cmp-IsAntisymmetric _ _ (λ q. has-below K f q ∙ whole q)) where
  whole : (q : ℕ) → (set.contains K q && nat_lt q f) ≡ set.contains K q
  whole q = same_test _ _
      (λ e. (and_both (set.contains K q) (nat_lt q f) e).0)
      (λ e. elim (nat_lt q f) as (λ b. nat_lt q f ≡ b → (set.contains K q && b) ≡ true) [
        | true ↦ λ _. ap (λ b. b && true) e
        | false ↦ λ out. absurd (none q (not_less q f out) e)
      ] refl)

-- the least member from f on is one more
pub one_more : (K : set.FinSet nat_cmp) (f k : ℕ) → set.contains K k ≡ true → f ≤ k → ((q : ℕ) → f ≤ q → q < k → set.contains K q ≡ true → ⊥) → n_below K (k + 1) ≡ n_below K f + 1
unfolding n_below
one_more K f k there le none =
    ap set.len (set.same_set nat_cmp_total nat_cmp-IsAntisymmetric _ (set.insert (set.retain K (λ q. nat_lt q f)) k) (λ q.
    has-below K (k + 1) q
    ∙ same_test _ _ (into q) (back q)
    ∙ sym (set.contains-insert nat_cmp_total (set.retain K (λ q. nat_lt q f)) k q ∙ ap (λ b. eq_by_cmp nat_cmp q k || b) (has-below K f q))))
    ∙ set.len-insert nat_cmp_total (set.retain K (λ q. nat_lt q f)) k
    ∙ ap (λ b. cond b (set.len (set.retain K (λ q. nat_lt q f))) (set.len (set.retain K (λ q. nat_lt q f)) + 1)) out where
      out : set.contains (set.retain K (λ q. nat_lt q f)) k ≡ false
      out = has-below K f k ∙ false_from_ne_true _ (λ e. let two = and_both (set.contains K k) (nat_lt k f) e in omega (arith, le, less k f two.1))

      into : (q : ℕ) → (set.contains K q && nat_lt q (k + 1)) ≡ true → (eq_by_cmp nat_cmp q k || (set.contains K q && nat_lt q f)) ≡ true
      into q e =
          let two = and_both (set.contains K q) (nat_lt q (k + 1)) e in
          let high = less q (k + 1) two.1 in
          elim (nat_lt q f) as (λ b. nat_lt q f ≡ b → (eq_by_cmp nat_cmp q k || (set.contains K q && b)) ≡ true) [
            | true ↦ λ _. or_right (eq_by_cmp nat_cmp q k) (set.contains K q && true) (ap (λ b. b && true) two.0)
            | false ↦ λ high_q.
                elim (nat_lt q k) as (λ b. nat_lt q k ≡ b → (eq_by_cmp nat_cmp q k || (set.contains K q && false)) ≡ true) [
                  | true ↦ λ low. absurd (none q (not_less q f high_q) (less q k low) two.0)
                  | false ↦ λ low.
                      let is : q ≡ k = omega (arith, high, not_less q k low) in
                      ap (λ b. b || (set.contains K q && false)) (ap (λ z. eq_by_cmp nat_cmp z k) is ∙ tied-itself nat_cmp_total k)
                ] refl
          ] refl

      back : (q : ℕ) → (eq_by_cmp nat_cmp q k || (set.contains K q && nat_lt q f)) ≡ true → (set.contains K q && nat_lt q (k + 1)) ≡ true
      back q e = or_cases (eq_by_cmp nat_cmp q k) (set.contains K q && nat_lt q f) e _
          (λ here.
          let is = tied-is nat_cmp-IsAntisymmetric q k here in
          (λ j. (ap (set.contains K) is ∙ there) j && less_test q (k + 1) (omega (arith, is)) j))
          (λ rest.
          let two = and_both (set.contains K q) (nat_lt q f) rest in
          (λ j. two.0 j && less_test q (k + 1) (omega (arith, le, less q f two.1)) j))
