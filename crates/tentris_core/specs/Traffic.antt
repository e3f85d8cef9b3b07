-- What goes in and out of a run beside the store, and what a run says of it.
use Rattle.std.specs.Prelude.{◌≡◌, ℕ, ◌+◌, ◌-◌, ◌^◌, ◌≤◌, ◌&&◌, ◌==◌, Bool, List, [], ◌++◌, map, min, ⊤, Option, Some, None}
use Rattle.std.specs.List.{count_by}
use Rattle.std.specs.Str.{bytes_eq}
use Rattle.rdf_model.specs.Terms.{Text}
use Rattle.rdf_model.specs.Dumps.{dump_lines}
use Rattle.run_model.specs.Worlds.{FailedRead}
use Rattle.run_model.specs.Steps.{Event, or_none}
use Rattle.tn_io.specs.FileFaults.{FaultCounts}

-- what is left of the source, what was written to the sink, what the watch was shown, each where it is told; and how often a read of
-- each name failed at each place
pub record Traffic : Type 0 where
  pub left : Option (List ℕ)
  pub written : Option (List ℕ)
  pub shown : Option (List (List Text))
  pub faults : FaultCounts

abbrev pub traffic : Option (List ℕ) → Option (List ℕ) → Option (List (List Text)) → FaultCounts → Traffic
traffic left written shown faults = record { left = left; written = written; shown = shown; faults = faults }

-- the lines of the graph that each command left
abbrev pub dumps_of : List Event → List (List Text)
dumps_of = map (λ e. dump_lines e.world.graph)

-- Where a watch tells what it was shown, that is what it told before and these.
abbrev pub WasShown : Option (List (List Text)) → Option (List (List Text)) → List (List Text) → Type 0
WasShown before None dumps = ⊤
WasShown before (Some now) dumps = (told : List (List Text)) × (before ≡ Some told) × (now ≡ told ++ dumps)

abbrev pub is_read : Text → ℕ → FailedRead → Bool
is_read name place read = bytes_eq read.name name && read.place == place

-- how often a read of this name at this place failed
abbrev pub times_failed : Text → ℕ → List FailedRead → ℕ
times_failed name place = count_by (is_read name place)

-- the count rose by at least so much, or stands at the greatest number that a u64 holds
abbrev pub RoseBy : ℕ → ℕ → ℕ → Type 0
RoseBy times before now = min (before + times) (2 ^ 64 - 1) ≤ now

-- Each failed read raised the count of its name at its place, and without one no count changed.
pub record AreCounted (before now : FaultCounts) (failed : List FailedRead) : Type 0 where
  pub none : failed ≡ [] → now ≡ before
  pub rose : (name : Text) (place : ℕ) → RoseBy (times_failed name place failed) (before name place) (now name place)

-- the same of the one read that a command may fail
abbrev pub IsCounted : FaultCounts → FaultCounts → Option FailedRead → Type 0
IsCounted before now failed = AreCounted before now (or_none failed)
