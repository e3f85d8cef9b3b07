-- The change that the tests of a log make, and what is known before and after it.
use Rattle.std.specs.Prelude.{◌≡◌, ℕ, ◌≤◌, List, Some}
use Rattle.trie_node.specs.declared.node.Node.{Node}
use Rattle.trie_node.specs.Sets.{edges_of}
use Rattle.trie_context.specs.declared.kept.Kept.{Kept}
use Rattle.trie_context.specs.declared.kept.Kept.TheVariants.{Made, Found}
use Rattle.trie_context.specs.declared.tables.Tables.{Tables}
use Rattle.trie_context.specs.Rows.{row_of, node_of, set_of}
use Rattle.trie_context.specs.Holds.{count_of, holds_of, one_at}
use Rattle.trie_context.specs.Kept.{IsNode}
use Rattle.change_log.specs.declared.step.RowStep.TheVariants.{Made as MadeRow, Found as FoundRow}
use Rattle.change_log.specs.declared.step.Step.{Step}
use Rattle.change_log.specs.declared.step.Step.TheVariants.{Pairs}
use Rattle.change_log.specs.Log.{Leads, keeps}

-- the mix that is 0 always
abbrev pub zero_mix : ℕ → ℕ → ℕ → ℕ → ℕ
zero_mix d a b c = 0

-- no row has a count above n
abbrev pub AreFew : Tables → ℕ → Type 0
AreFew t n = (d r : ℕ) → count_of (row_of t d r) ≤ n

-- a row of pairs whose one hold is in hand, with an edge to row `keys`, and other pairs with an edge to row `others`, which is held
pub record CanChange (mixed : ℕ → ℕ → ℕ → ℕ → ℕ) (t : Tables) (keys others row : ℕ) (pairs : Node) : Type 0 where
  pub held : 1 ≤ holds_of t 2 row
  pub alone : count_of (row_of t 2 row) ≤ 1
  pub leads : (node : Node) → node_of t 2 row ≡ Some node → (r : ℕ) → one_at keys r ≤ edges_of node r
  pub others_held : 1 ≤ holds_of t 1 others
  pub few : AreFew t 3
  pub form : IsNode mixed 2 (set_of t 1) pairs
  pub edges : (r : ℕ) → edges_of pairs r ≤ one_at others r

-- the log leads from the tables before to those of now, which have the holds that it keeps
pub record IsChanged (mixed : ℕ → ℕ → ℕ → ℕ → ℕ) (t u : Tables) (log : List Step) : Type 0 where
  pub led : Leads mixed t log u
  pub held : (d r : ℕ) → keeps log d r ≤ holds_of u d r

-- the step by which pairs were put in
abbrev pub kept_step : {L E S : Type 0} → Kept L E S → Step
kept_step (Made row) = Pairs (MadeRow row)
kept_step (Found row node) = Pairs (FoundRow row node)
