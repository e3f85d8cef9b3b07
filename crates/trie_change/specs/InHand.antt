-- What a change has in hand when it ends.
use Rattle.std.specs.Prelude.{ℕ}
use Rattle.trie_context.specs.declared.tables.Tables.{Tables}
use Rattle.trie_context.specs.Holds.{nothing, CountsRiseBy, RowsStay}
use Rattle.trie_context.specs.Kept.{AreMoved}

-- the rows have these holds beside those of before, the rows that were there are there, and no count rose by more than `most`
pub record IsInHand (mixed : ℕ → ℕ → ℕ → ℕ → ℕ) (t u : Tables) (hold : ℕ → ℕ → ℕ) (most : ℕ) : Type 0 where
  pub moved : AreMoved mixed t u hold nothing
  pub counts : CountsRiseBy t u (λ _ _. most)
  pub stay : RowsStay t u
