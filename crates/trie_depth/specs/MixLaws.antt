-- Every mix is below 2 to the 64.
use Rattle.std.specs.Prelude.{ℕ, ◌*◌, ◌/◌, ◌^◌, ◌<◌, bit_xor, ◌==◌, Bool, true, false, cond}
use Rattle.std.proofs.Common.{arith}
use Rattle.std.proofs.lemmas.Nat.{xor_lt}
use Rattle.trie_depth.specs.Mixing.{below, round_two, split_mix}

pub const_small : (d a b c : ℕ) → 0 < 2 ^ 64
const_small d a b c = omega arith

mixed_small : (z : ℕ) → z < 2 ^ 64 → bit_xor z (z / 2 ^ 31) < 2 ^ 64
mixed_small z h = xor_lt 64 z (z / 2 ^ 31) h (omega arith)

round_two_small : (z : ℕ) → round_two z < 2 ^ 64
unfolding round_two
round_two_small z = mixed_small (below (bit_xor z (z / 2 ^ 27) * 0x94D0_49BB_1331_11EB)) (omega arith)

either_small : (b : Bool) (m n : ℕ) → m < 2 ^ 64 → n < 2 ^ 64 → cond b m n < 2 ^ 64
either_small true m n p q = p
either_small false m n p q = q

pub split_mix_small : (d a b c : ℕ) → split_mix d a b c < 2 ^ 64
split_mix_small d a b c = either_small (d == 1) _ _ (round_two_small _) (either_small (d == 2) _ _ (round_two_small _) (round_two_small _))
