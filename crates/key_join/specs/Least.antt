-- The least id of which something holds.
use Rattle.std.specs.Prelude.{ℕ, ◌≤◌, ◌&&◌, cond, nat_le, nat_lt, Option, None, Some, IfSome, MatchOption}
use Rattle.trie_depth.specs.declared.id.Id.{Id}

-- b is the least number from `from` on of which P holds, if there is one
pub record IsLeastFrom (from : ℕ) (P : ℕ → Type 0) (b : Option Id) : Type 0 where
  pub there : IfSome b (λ r. P r.0)
  pub above : IfSome b (λ r. from ≤ r.0)
  pub least : (k : ℕ) → from ≤ k → P k → MatchOption b ⊥ (λ r. r.0 ≤ k)

-- the lesser of two, where the first isn't below `from`
abbrev pub lesser_from : ℕ → Option Id → Option Id → Option Id
lesser_from from None best = best
lesser_from from (Some a) None = cond (nat_le from a.0) (Some a) None
lesser_from from (Some a) (Some b) = cond (nat_le from a.0 && nat_lt a.0 b.0) (Some a) (Some b)
