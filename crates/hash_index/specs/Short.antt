-- The part of a 64-bit hash under which a number is listed.
use Rattle.std.specs.Prelude.{ℕ, ◌/◌, ◌^◌}

unfoldable pub short_of : ℕ → ℕ
short_of hash = hash / 2 ^ 32
