-- Masks of positions.
use Rattle.std.specs.Prelude.{ℕ, ◌+◌, ◌/◌, ◌%◌, ◌^◌, ◌<◌, ◌≤◌, cond, nat_eq}

-- the mask names at least one position, and positions of the depth alone
abbrev pub FitsDepth : ℕ → ℕ → Type 0
FitsDepth mask depth = (1 ≤ mask) × (mask < 2 ^ depth)

-- the lowest of positions 0 to 2 that the mask names
abbrev pub lowest : ℕ → ℕ
lowest mask = cond (nat_eq (mask % 2) 1) 0 (cond (nat_eq (mask / 2 % 2) 1) 1 2)

-- how many of positions 0 to 2 it names
abbrev pub n_positions : ℕ → ℕ
n_positions mask = mask % 2 + mask / 2 % 2 + mask / 4 % 2
