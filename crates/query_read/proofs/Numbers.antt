-- The value of digits only grows with further digits.
use Rattle.std.proofs.Common.{◌≡◌, ℕ, zero, suc, ◌+◌, ◌-◌, ◌*◌, ◌<◌, ◌≤◌, List, [], ◌∷◌, length, take, get_or, ap, arith}
use Rattle.std.specs.Prelude.{fold}
use Rattle.std.proofs.lemmas.List.Sums.{fold_more}
use Rattle.query_grammar.specs.Meaning.{value_of}

abbrev with_digit : ℕ → ℕ → ℕ
with_digit n d = n * 10 + (d - 48)

grows : (ds : List ℕ) (n : ℕ) → n ≤ fold with_digit n ds
grows [] n = omega arith
grows (d ∷ ds) n = omega (arith, grows ds (with_digit n d))

front_below : (ds : List ℕ) (i n : ℕ) → fold with_digit n (take i ds) ≤ fold with_digit n ds
front_below [] zero n = omega arith
front_below [] (suc i) n = omega arith
front_below (d ∷ ds) zero n = grows (d ∷ ds) n
front_below (d ∷ ds) (suc i) n = front_below ds i (with_digit n d)

pub value_more : (ds : List ℕ) (i : ℕ) → i < length ds → value_of (take (i + 1) ds) ≡ value_of (take i ds) * 10 + (get_or ds i 0 - 48)
value_more ds i h = fold_more with_digit 0 ds i 0 h

pub too_large : (ds : List ℕ) (i n most : ℕ) → i < length ds → n ≡ value_of (take i ds) → most ≤ n * 10 + (get_or ds i 0 - 48) → most ≤ value_of ds
too_large ds i n most h e large = omega (arith, front_below ds (i + 1) 0, value_more ds i h, ap (λ (k : ℕ). k * 10 + (get_or ds i 0 - 48)) e, large)
