-- Hexadecimal numbers, digit by digit.
use Rattle.std.proofs.Common.{◌≡◌, ◌∙◌, ℕ, zero, suc, ◌+◌, ◌*◌, ◌^◌, ◌<◌, ◌≤◌, Bool, true, false, ◌&&◌, List, [], ◌∷◌, length, get_or, take, refl, arith}
use Rattle.std.specs.List.{list_all}
use Rattle.std.specs.Char.{digit_value}
use Rattle.std.proofs.lemmas.List.Sums.{fold_more}
use Rattle.std.proofs.lemmas.List.Folds.{list_all_more}
use Rattle.std.proofs.lemmas.Grind.{pow_more}
use Rattle.std.proofs.Math.Nat.{pow-le-pow_right}
use Rattle.ntriples_model.specs.Characters.{is_hex}
use Rattle.ntriples_model.specs.Terminals.{hex_number}

pub number_more : (ds : List ℕ) (i : ℕ) → i < length ds → hex_number (take (i + 1) ds) ≡ hex_number (take i ds) * 16 + digit_value (get_or ds i 0)
number_more ds i h = fold_more (λ n d. n * 16 + digit_value d) 0 ds i 0 h

pub all_more : (ds : List ℕ) (i : ℕ) → i < length ds → list_all is_hex (take i ds) ≡ true → is_hex (get_or ds i 0) ≡ true → list_all is_hex (take (i + 1) ds) ≡ true
all_more ds i h each here = list_all_more is_hex ds i 0 h ∙ rw (each, here) refl

pub small : (n i : ℕ) → n < 16 ^ i → i < 8 → n < 268435456
small n i h short =
    let up : 16 ^ i ≤ 16 ^ 7 = pow-le-pow_right {n = 16} (omega arith) {i = i} {j = 7} (omega arith) in
    omega (arith, up)

pub small_more : (n i v : ℕ) → n < 16 ^ i → v < 16 → n * 16 + v < 16 ^ (i + 1)
small_more n i v h short = omega (arith, pow_more 16 i)

-- a digit that is none spoils the number
pub some_is_none : (ds : List ℕ) (i : ℕ) → i < length ds → is_hex (get_or ds i 0) ≡ false → list_all is_hex ds ≡ false
some_is_none [] i h here = absurd (omega arith)
some_is_none (d ∷ ds) zero h here = rw here refl
some_is_none (d ∷ ds) (suc i) h here = rw (some_is_none ds i (omega arith) here) (and_false (is_hex d))
  where
    and_false : (b : Bool) → (b && false) ≡ false
    and_false true = refl
    and_false false = refl
