-- The hash of texts under a seed. No public clause speaks of it.
use Rattle.std.specs.Prelude.{ℕ, zero, suc, ◌+◌, ◌-◌, ◌*◌, ◌/◌, ◌%◌, ◌^◌, List, length, if◌then◌else◌, nat_le, bit_xor}
use Rattle.std.specs.Hash.FoldHasher.{folded_multiply, read_u64, read_short}
use Rattle.term_dict.specs.declared.text_hash.TextHash.{TextHash}

-- the state after the word at one place and the word at another
abbrev pub after_words : ℕ → List ℕ → ℕ → ℕ → ℕ → ℕ
after_words key bytes state first second = folded_multiply (bit_xor (read_u64 bytes first) state) (bit_xor (read_u64 bytes second) key)

-- the state after so many blocks of sixteen bytes
unfoldable pub after_blocks : ℕ → List ℕ → ℕ → ℕ → ℕ
after_blocks key bytes state zero = state
after_blocks key bytes state (suc n) = after_words key bytes (after_blocks key bytes state n) (16 * n) (16 * n + 8)

-- the state after a text: its last sixteen bytes are a block too, whichever of them were in another one
unfoldable pub after : ℕ → ℕ → List ℕ → ℕ
after key state bytes =
    let n = length bytes in
    let short = folded_multiply (bit_xor state (read_short bytes)) (bit_xor key (2 * n)) in
    let long = after_words key bytes (after_blocks key bytes ((state + n) % 2 ^ 64) ((n - 1) / 16)) (n - 16) (n - 8) in
    if nat_le n 8 then short else long

-- the hash of two texts
unfoldable pub hash_of_texts : TextHash → List ℕ → List ℕ → ℕ
hash_of_texts secrets first second = after secrets.key (after secrets.key secrets.start first) second
