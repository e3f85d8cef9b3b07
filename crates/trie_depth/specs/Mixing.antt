-- The mix of an entry, modulo 2 to the 64.
use Rattle.std.specs.Prelude.{ℕ, ◌+◌, ◌*◌, ◌%◌, ◌/◌, ◌^◌, bit_xor, if◌then◌else◌, ◌==◌}

abbrev pub below : ℕ → ℕ
below n = n % 2 ^ 64

unfoldable pub round_one : ℕ → ℕ
round_one z = below (bit_xor z (z / 2 ^ 30) * 0xBF58_476D_1CE4_E5B9)

unfoldable pub round_two : ℕ → ℕ
round_two z = let y = below (bit_xor z (z / 2 ^ 27) * 0x94D0_49BB_1331_11EB) in bit_xor y (y / 2 ^ 31)

-- the finalizer of SplitMix64
abbrev pub scrambled : ℕ → ℕ
scrambled z = round_two (round_one z)

-- a further position
abbrev pub next_scrambled : ℕ → ℕ → ℕ
next_scrambled f b = scrambled (below (f + b + 0x9E37_79B9_7F4A_7C15))

abbrev pub split_mix : ℕ → ℕ → ℕ → ℕ → ℕ
split_mix d a b c =
    if d == 1 then scrambled (a + 1)
    else (if d == 2 then next_scrambled (scrambled (a + 1)) b
    else next_scrambled (next_scrambled (scrambled (a + 1)) b) c)
