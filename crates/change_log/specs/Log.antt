-- A log: what was done to the rows, the newest step first, and what it keeps.
use Rattle.std.specs.Prelude.{◌≡◌, ℕ, ◌+◌, ◌-◌, List, [], ◌∷◌, ◌++◌, cond, nat_eq, Option, None, Some}
use Rattle.std.specs.Ordering.{nat_cmp}
use Rattle.std.specs.FinMap as map
use Rattle.edge_map.specs.declared.edge.Edge.{Edge}
use Rattle.trie_node.specs.declared.node.Node.{Node}
use Rattle.trie_node.specs.Sets.{edges_of}
use Rattle.trie_context.specs.declared.tables.Tables.{Tables}
use Rattle.trie_context.specs.FitEdges.{option_leads}
use Rattle.trie_context.specs.Holds.{at_depth, nothing, RowsStay}
use Rattle.trie_context.specs.Interned.{IsInterned}
use Rattle.trie_context.specs.Kept.{AreKept, AreMoved}
use Rattle.trie_context.specs.Opened.{IsOpened}
use Rattle.trie_context.specs.Rows.{table_at}
use Rattle.change_log.specs.declared.step.RowStep.{RowStep}
use Rattle.change_log.specs.declared.step.RowStep.TheVariants.{Opened, Made, Found, Replaced}
use Rattle.change_log.specs.declared.step.Step.{Step}
use Rattle.change_log.specs.declared.step.Step.TheVariants.{Keys, Pairs, Triples}

-- the hold of an edge into depth d
abbrev pub edge_hold : ℕ → Option Edge → ℕ → ℕ → ℕ
edge_hold d o = at_depth d (option_leads o)

-- a row was made of a node: tables t became u
abbrev pub WasMade : (ℕ → ℕ → ℕ → ℕ → ℕ) → ℕ → Tables → ℕ → Tables → Type 0
WasMade mixed d t row u = (node : Node) × IsInterned mixed t u d node row None

-- what a step at rows of depth d makes of tables t: they become u
abbrev pub RowDid : {L E S : Type 0} → (ℕ → ℕ → ℕ → ℕ → ℕ) → ℕ → Tables → RowStep L E S → Tables → Type 0
RowDid mixed d t (Opened place node) u = IsOpened mixed t u d place node
RowDid mixed d t (Made row) u = WasMade mixed d t row u
RowDid mixed d t (Found row node) u = IsInterned mixed t u d node row (Some node)
RowDid mixed d t (Replaced old new) u = AreMoved mixed t u (edge_hold d new) nothing × RowsStay t u

abbrev pub StepDid : (ℕ → ℕ → ℕ → ℕ → ℕ) → Tables → Step → Tables → Type 0
StepDid mixed t (Keys step) u = RowDid mixed 1 t step u
StepDid mixed t (Pairs step) u = RowDid mixed 2 t step u
StepDid mixed t (Triples step) u = RowDid mixed 3 t step u

-- kept tables t became u by these steps
abbrev pub Leads : (ℕ → ℕ → ℕ → ℕ → ℕ) → Tables → List Step → Tables → Type 0
Leads mixed t [] u = u ≡ t
Leads mixed t (step ∷ steps) u = (m : Tables) × Leads mixed t steps m × AreKept mixed m × StepDid mixed m step u

-- tables t became u while the log grew
abbrev pub Grows : (ℕ → ℕ → ℕ → ℕ → ℕ) → Tables → Tables → List Step → List Step → Type 0
Grows mixed t u before after = (more : List Step) × (after ≡ more ++ before) × Leads mixed t more u

-- the holds that a step keeps, and those that a log keeps
abbrev pub row_keeps : {L E S : Type 0} → ℕ → RowStep L E S → ℕ → ℕ → ℕ
row_keeps d (Opened place node) = nothing
row_keeps d (Made row) = nothing
row_keeps d (Found row node) = at_depth (d - 1) (edges_of node)
row_keeps d (Replaced old new) = edge_hold d old

abbrev pub step_keeps : Step → ℕ → ℕ → ℕ
step_keeps (Keys step) = row_keeps 1 step
step_keeps (Pairs step) = row_keeps 2 step
step_keeps (Triples step) = row_keeps 3 step

abbrev pub keeps : List Step → ℕ → ℕ → ℕ
keeps [] d r = 0
keeps (step ∷ steps) d r = step_keeps step d r + keeps steps d r

-- reserved numbers of each depth, with their hashes
abbrev pub Reserved : Type 0
Reserved = ℕ → map.FinMap nat_cmp ℕ

abbrev pub reserved_in : Tables → Reserved
reserved_in t d = (table_at t d).reserved

-- the number of the step's place is reserved
abbrev pub RowHasPlace : {L E S : Type 0} → ℕ → RowStep L E S → Reserved → Type 0
RowHasPlace d (Opened place node) reserved = map.get (reserved d) place.number ≡ Some place.hash
RowHasPlace d (Made row) reserved = Unit {0}
RowHasPlace d (Found row node) reserved = Unit {0}
RowHasPlace d (Replaced old new) reserved = Unit {0}

abbrev pub StepHasPlace : Step → Reserved → Type 0
StepHasPlace (Keys step) reserved = RowHasPlace 1 step reserved
StepHasPlace (Pairs step) reserved = RowHasPlace 2 step reserved
StepHasPlace (Triples step) reserved = RowHasPlace 3 step reserved

-- the reserved numbers without that of the step's place
abbrev pub row_frees : {L E S : Type 0} → ℕ → RowStep L E S → Reserved → Reserved
row_frees d (Opened place node) reserved = λ e. cond (nat_eq e d) (map.remove (reserved e) place.number) (reserved e)
row_frees d (Made row) reserved = reserved
row_frees d (Found row node) reserved = reserved
row_frees d (Replaced old new) reserved = reserved

abbrev pub step_frees : Step → Reserved → Reserved
step_frees (Keys step) = row_frees 1 step
step_frees (Pairs step) = row_frees 2 step
step_frees (Triples step) = row_frees 3 step

-- each of the log's places is reserved, and no number is that of two
abbrev pub HasPlaces : List Step → Reserved → Type 0
HasPlaces [] reserved = Unit {0}
HasPlaces (step ∷ steps) reserved = StepHasPlace step reserved × HasPlaces steps (step_frees step reserved)

-- the reserved numbers without those of the log's places
abbrev pub frees : List Step → Reserved → Reserved
frees [] reserved = reserved
frees (step ∷ steps) reserved = frees steps (step_frees step reserved)
