-- One element more, and the least number of which something holds.
use Rattle.std.specs.Prelude.{◌≡◌, ℕ, ◌<◌, ◌≤◌, ◌&&◌, ◌||◌, ◌++◌, Bool, true, false, cond, nat_le, nat_lt, List, [], ◌∷◌, refl, Option, None, Some, IfSome, IsNone, MatchOption}
use Rattle.std.proofs.Common.{sym, ◌∙◌, ap, arith}
use Rattle.std.proofs.lemmas.Bool.Decides.{nat_tests}
use Rattle.std.specs.List.{list_any}
use Rattle.hypertrie_model.specs.SetLaws.{and_both, or_cases, or_right}
use Rattle.trie_depth.specs.declared.id.Id.{Id}
use Rattle.trie_depth.specs.declared.id.Trip.{Trip}
use Rattle.trie_depth.specs.Tuples.{trip_tuple}
use Rattle.key_join.specs.Lists.{put, agrees, triples}
use Rattle.key_join.specs.Least.{IsLeastFrom, lesser_from}

-- R holds where P or Q does, `found` is the one number of which Q holds, and `best` the least for P
module _ (from : ℕ) (P Q R : ℕ → Type 0) (of_P : (k : ℕ) → P k → R k) (of_Q : (k : ℕ) → Q k → R k) (either : (k : ℕ) → R k → (Z : Type 0) → (P k → Z) → (Q k → Z) → Z) where
  lesser : (found best : Option Id) → IfSome found (λ r. Q r.0) → ((k : ℕ) → Q k → MatchOption found ⊥ (λ r. r.0 ≡ k)) → IsLeastFrom from P best → IsLeastFrom from R (lesser_from from found best)
  lesser None None some only old = record {
    there = tt;
    above = tt;
    least = λ k le r. either k r _ (λ p. old.least k le p) (λ q. only k q);
  }
  lesser None (Some b) some only old = record {
    there = of_P b.0 old.there;
    above = old.above;
    least = λ k le r. either k r _ (λ p. old.least k le p) (λ q. absurd (only k q));
  }
  lesser (Some a) None some only old =
      elim (nat_le from a.0) as (λ t. nat_le from a.0 ≡ t → IsLeastFrom from R (cond t (Some a) None)) [
        | true ↦ λ e. record {
          there = of_Q a.0 some;
          above = grind (arith, nat_tests);
          least = λ k le r. either k r _ (λ p. absurd (old.least k le p)) (λ q. omega (arith, only k q));
        }
        | false ↦ λ e. record {
          there = tt;
          above = tt;
          least = λ k le r. either k r _ (λ p. old.least k le p) (λ q.
              let below : a.0 < from = grind (arith, nat_tests) in
              absurd (omega (arith, below, le, only k q)));
        }
      ] refl
  lesser (Some a) (Some b) some only old =
      elim (nat_le from a.0 && nat_lt a.0 b.0) as (λ t. (nat_le from a.0 && nat_lt a.0 b.0) ≡ t → IsLeastFrom from R (cond t (Some a) (Some b))) [
        | true ↦ λ e.
            let two = and_both (nat_le from a.0) (nat_lt a.0 b.0) e in
            let high : from ≤ a.0 = from_test_le from a.0 two.0 in
            let less : a.0 < b.0 = from_test_lt a.0 b.0 two.1 in
            record {
              there = of_Q a.0 some;
              above = high;
              least = λ k le r. either k r _ (λ p. omega (arith, less, old.least k le p)) (λ q. omega (arith, only k q));
            }
        | false ↦ λ e. record {
          there = of_P b.0 old.there;
          above = old.above;
          least = λ k le r. either k r _ (λ p. old.least k le p) (λ q.
              not_lesser from a.0 b.0 k e le (only k q));
        }
      ] refl where
        from_test_le : (m n : ℕ) → nat_le m n ≡ true → m ≤ n
        from_test_le m n e = grind (arith, nat_tests)

        from_test_lt : (m n : ℕ) → nat_lt m n ≡ true → m < n
        from_test_lt m n e = grind (arith, nat_tests)

        not_lesser : (f a b k : ℕ) → (nat_le f a && nat_lt a b) ≡ false → f ≤ k → a ≡ k → b ≤ k
        not_lesser f a b k e le is =
            let high : nat_le f a ≡ true = grind (arith, nat_tests) in
            let out : nat_lt a b ≡ false = sym (ap (λ t. t && nat_lt a b) high) ∙ e in
            grind (arith, nat_tests)

-- one triple more
any-more : (p : List ℕ → Bool) (es : List Trip) (e : Trip) → list_any p (triples (es ++ e ∷ [])) ≡ (list_any p (triples es) || p (trip_tuple e))
any-more p [] e = or-none (p (trip_tuple e)) where
  or-none : (a : Bool) → (a || false) ≡ a
  or-none true = refl
  or-none false = refl
any-more p (x ∷ es) e = ap (λ b. p (trip_tuple x) || b) (any-more p es e) ∙ assoc (p (trip_tuple x)) (list_any p (triples es)) (p (trip_tuple e)) where
  assoc : (a b c : Bool) → (a || (b || c)) ≡ ((a || b) || c)
  assoc true b c = refl
  assoc false b c = refl

or_left : (a b : Bool) → a ≡ true → (a || b) ≡ true
or_left a b e = ap (λ c. c || b) e

pub least-more : (from m : ℕ) (ps : List (Option ℕ)) (es : List Trip) (e : Trip) (found best : Option Id) → IfSome found (λ r. agrees (put m r.0 ps) (trip_tuple e) ≡ true) → ((k : ℕ) → agrees (put m k ps) (trip_tuple e) ≡ true → MatchOption found ⊥ (λ r. r.0 ≡ k)) → IsLeastFrom from (λ k. list_any (agrees (put m k ps)) (triples es) ≡ true) best → IsLeastFrom from (λ k. list_any (agrees (put m k ps)) (triples (es ++ e ∷ [])) ≡ true) (lesser_from from found best)
least-more from m ps es e found best = lesser from _ _ _
    (λ k p. any-more (agrees (put m k ps)) es e ∙ or_left _ (agrees (put m k ps) (trip_tuple e)) p)
    (λ k q. any-more (agrees (put m k ps)) es e ∙ or_right (list_any (agrees (put m k ps)) (triples es)) _ q)
    (λ k r Z here there. or_cases (list_any (agrees (put m k ps)) (triples es)) (agrees (put m k ps) (trip_tuple e)) (sym (any-more (agrees (put m k ps)) es e) ∙ r) Z here there)
    found best

-- what the least one says, of numbers of which Q holds
module _ (from : ℕ) (P Q : ℕ → Type 0) where
  pub least-none : (best : Option Id) → IsLeastFrom from P best → ((k : ℕ) → Q k → P k) → IsNone best → (k : ℕ) → from ≤ k → Q k → ⊥
  least-none None l into none k le q = l.least k le (into k q)
  least-none (Some b) l into none k le q = let t : true ≡ false = none in cc

  pub least-there : (best : Option Id) → IsLeastFrom from P best → ((k : ℕ) → P k → Q k) → IfSome best (λ r. Q r.0)
  least-there None l into = tt
  least-there (Some b) l into = into b.0 l.there

  pub least-least : (best : Option Id) → IsLeastFrom from P best → ((k : ℕ) → Q k → P k) → IfSome best (λ r. (k : ℕ) → from ≤ k → k < r.0 → Q k → ⊥)
  least-least None l into = tt
  least-least (Some b) l into = λ k le lt q. omega (arith, lt, l.least k le (into k q))
