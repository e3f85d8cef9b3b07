-- A graph that is changed while the change is kept open.
use Rattle.std.specs.Prelude.{ℕ, ◌^◌, List, []}
use Rattle.trie_context.specs.declared.root.Root.{Root}
use Rattle.trie_context.specs.declared.tables.Tables.{Tables}
use Rattle.trie_context.specs.Roots.{root_hold}
use Rattle.change_log.specs.declared.step.Step.{Step}
use Rattle.change_log.specs.Logged.{IsLogged}
use Rattle.change_log.specs.Seen.{Seen}

-- a root for another, with the steps of a log between
abbrev pub LogsRoot : (ℕ → ℕ → ℕ → ℕ → ℕ) → Tables → Tables → List Step → List Step → Root → Root → Type 0
LogsRoot mixed t u log later old new = IsLogged mixed t u log later (root_hold new) (root_hold old) (2 ^ 65)

-- the same of a log that is new
abbrev pub LogsChange : (ℕ → ℕ → ℕ → ℕ → ℕ) → Tables → Tables → Root → Root → List Step → Type 0
LogsChange mixed t u old new steps = LogsRoot mixed t u [] steps old new

abbrev pub ReplacesRoot : (ℕ → ℕ → ℕ → ℕ → ℕ) → Tables → Tables → Seen → Seen → Root → Root → Type 0
ReplacesRoot mixed t u log later old new = LogsRoot mixed t u log.steps later.steps old new
