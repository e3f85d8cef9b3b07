-- A search comes nearer to its end with each step.
use Rattle.std.specs.Prelude.{◌≡◌, ℕ, zero, suc, ◌+◌, ◌-◌, ◌*◌, ◌<◌, ◌≤◌, ◌^◌, Bool, true, false, List, [], ◌∷◌, ◌++◌, length}
use Rattle.std.proofs.Common.{sym, ◌∙◌, ap, arith}
use Rattle.std.proofs.Math.Nat.{mul-le-mul_left, mul-suc, mul_comm}
use Rattle.bag_list.specs.declared.level.Level.{Level}
use Rattle.bag_list.specs.Levels.{from_of}
use Rattle.bag_list.specs.Search.{power, weight}
use Rattle.bag_list.proofs.Places.{append_none}

pub power-some : (h : ℕ) → 0 < power h
power-some zero = omega arith
power-some (suc h) = let rest = power-some h in omega (arith, rest)

weight-append : (h : ℕ) (fs gs : List Level) (b : Bool) → length fs ≤ h → weight h (fs ++ gs) b ≡ weight h fs false + weight (h - length fs) gs b
weight-append h [] gs b le = let whole : h ≡ h - 0 = omega arith in ap (λ n. weight n gs b) whole ∙ (let e : weight (h - 0) gs b ≡ 0 + weight (h - 0) gs b = omega arith in e)
weight-append zero (f ∷ fs) gs b le = absurd (omega (arith, le))
weight-append (suc h) (f ∷ fs) gs b le =
    let rest = weight-append h fs gs b (omega (arith, le)) in
    let same : h - length fs ≡ suc h - suc (length fs) = omega arith in
    let there = ap (λ n. weight n gs b) same in
    let x = (2 ^ 32 - from_of f.from + 1) * power (suc h) in
    sums x (weight h (fs ++ gs) b) (weight h fs false) (weight (h - length fs) gs b) (weight (suc h - suc (length fs)) gs b) rest there where
      sums : (x a b c d : ℕ) → a ≡ b + c → c ≡ d → x + a ≡ (x + b) + d
      sums x a b c d e f = omega (arith, e, f)

less_times : (a b p : ℕ) → a < b → a * p + p ≤ b * p
less_times a b p lt =
    let more : p * suc a ≤ p * b = mul-le-mul_left p lt in
    let one = mul-suc p a in
    let left = mul_comm p a in
    let right = mul_comm p b in
    omega (arith, more, one, left, right)

-- the levels of a search but the last one weigh the same
module _ (n : ℕ) (fs : List Level) (lt : length fs < n) where
  deeper : (h : ℕ) → n - length fs ≡ suc h → (gs : List Level) (b : Bool) → weight n (fs ++ gs) b ≡ weight n fs false + weight (suc h) gs b
  deeper h e gs b = weight-append n fs gs b (omega (arith, lt)) ∙ ap (λ m. weight n fs false + weight m gs b) e

  with_rest : (P : Type 0) → ((h : ℕ) → n - length fs ≡ suc h → P) → P
  with_rest P of_rest = of_rest (n - length fs - 1) (omega (arith, lt))

  pub opened-less : (f : Level) → from_of f.from ≡ 0 → weight n (fs ++ f ∷ []) false < weight n fs true
  opened-less f first = with_rest _ (λ h e.
      let new = deeper h e (f ∷ []) false in
      let old : weight n fs true ≡ weight n fs false + (2 ^ 32 + 2) * power (suc h) = ap (λ gs. weight n gs true) (sym (append_none fs)) ∙ deeper h e [] true in
      let cap : 2 ^ 32 - from_of f.from + 1 ≡ 2 ^ 32 + 1 = omega (arith, first) in
      let one = ap (λ c. c * power (suc h)) cap in
      let some = power-some (suc h) in
      sums (weight n (fs ++ f ∷ []) false) (weight n fs true) (weight n fs false) ((2 ^ 32 - from_of f.from + 1) * power (suc h)) (power (suc h)) new old one some) where
        sums : (x y w c p : ℕ) → x ≡ w + (c + 0) → y ≡ w + (2 ^ 32 + 2) * p → c ≡ (2 ^ 32 + 1) * p → 0 < p → x < y
        sums x y w c p new old one some = omega (arith, new, old, one, some)

  pub closed-less : (f : Level) → weight n fs false < weight n (fs ++ f ∷ []) false
  closed-less f = with_rest _ (λ h e.
      let old = deeper h e (f ∷ []) false in
      let more = less_times (2 ^ 32 - from_of f.from) (2 ^ 32 - from_of f.from + 1) (power (suc h)) (omega arith) in
      let some = power-some (suc h) in
      sums (weight n fs false) (weight n (fs ++ f ∷ []) false) ((2 ^ 32 - from_of f.from + 1) * power (suc h)) ((2 ^ 32 - from_of f.from) * power (suc h)) (power (suc h)) old more some) where
        sums : (w y c d p : ℕ) → y ≡ w + (c + 0) → d + p ≤ c → 0 < p → w < y
        sums w y c d p old more some = omega (arith, old, more, some)

  pub entered-less : (f g : Level) (b : Bool) → from_of f.from ≤ g.key.0 → g.key.0 < 2 ^ 32 → from_of g.from ≡ g.key.0 + 1 → weight n (fs ++ g ∷ []) b < weight n (fs ++ f ∷ []) false
  entered-less f g b low small next = with_rest _ (λ h e.
      let old = deeper h e (f ∷ []) false in
      let new = deeper h e (g ∷ []) b in
      let caps : 2 ^ 32 - from_of g.from + 1 < 2 ^ 32 - from_of f.from + 1 = omega (arith, low, small, next) in
      let more = less_times (2 ^ 32 - from_of g.from + 1) (2 ^ 32 - from_of f.from + 1) (power (suc h)) caps in
      let some = power-some h in
      sums (weight n (fs ++ g ∷ []) b) (weight n (fs ++ f ∷ []) false) (weight n fs false) ((2 ^ 32 - from_of g.from + 1) * power (suc h)) ((2 ^ 32 - from_of f.from + 1) * power (suc h)) (power h) (weight h [] b) new old more some (most h b)) where
        most : (h : ℕ) (b : Bool) → weight h [] b ≤ (2 ^ 32 + 2) * power h
        most h true = omega arith
        most h false = omega arith

        sums : (x y w c d q r : ℕ) → x ≡ w + (c + r) → y ≡ w + (d + 0) → c + 2 ^ 33 * q ≤ d → 0 < q → r ≤ (2 ^ 32 + 2) * q → x < y
        sums x y w c d q r new old more some most = omega (arith, new, old, more, some, most)
