-- Calls that are logged: what becomes of the holds, and of the rows that others hold.
use Rattle.std.specs.Prelude.{◌≡◌, ℕ, ◌+◌, ◌<◌, List}
use Rattle.trie_context.specs.declared.tables.Tables.{Tables}
use Rattle.trie_context.specs.Holds.{holds_of, CountsRiseBy}
use Rattle.trie_context.specs.Kept.{AreKept}
use Rattle.trie_context.specs.Rows.{node_of, set_of}
use Rattle.change_log.specs.declared.step.Step.{Step}
use Rattle.change_log.specs.Log.{Grows, keeps}

-- each row with a hold beside the given ones is there as it was, and stands for the same set
abbrev pub OthersStay : Tables → Tables → (ℕ → ℕ → ℕ) → Type 0
OthersStay t u given = (d r : ℕ) → given d r < holds_of t d r → (node_of u d r ≡ node_of t d r) × (set_of u d r ≡ set_of t d r)

-- kept tables again, while the log grew: the holds of each row rose and fell by these numbers beside what the log keeps
pub record IsLogged (mixed : ℕ → ℕ → ℕ → ℕ → ℕ) (t u : Tables) (before after : List Step) (gained given : ℕ → ℕ → ℕ) (most : ℕ) : Type 0 where
  pub grew : Grows mixed t u before after
  pub kept : AreKept mixed u
  pub holds : (d r : ℕ) → holds_of u d r + (given d r + keeps before d r) ≡ holds_of t d r + (gained d r + keeps after d r)
  pub stay : OthersStay t u given
  pub counts : CountsRiseBy t u (λ _ _. most)
