-- The next key of a label before which what is left has no solution.
use Rattle.std.specs.Prelude.{◌≡◌, ℕ, ◌<◌, ◌≤◌, List, slice_index_or, Option, Some, IfSome, MatchOption}
use Rattle.hypertrie_model.specs.IdSets.{IdSet}
use Rattle.hypertrie_model.specs.Slices.{at}
use Rattle.trie_depth.specs.declared.id.Id.{Id}
use Rattle.bag_list.specs.declared.level.Level.{Level}
use Rattle.bag_list.specs.declared.operands.Operands.{Operands}
use Rattle.bag_list.specs.declared.through.Sought.{Sought}
use Rattle.bag_list.specs.Levels.{AreBelow, from_of}
use Rattle.bag_list.specs.Tracks.{AllAdmitAt, HasSolutionAt}

-- the key isn't below the one from which the level's next is sought
abbrev pub IsStillToTry : List Level → ℕ → Option Id → Type 0
IsStillToTry levels depth b = (f : Level) → IfSome b (λ r. from_of (slice_index_or levels depth f).from ≤ r.0)

module _ {O : Type 0} (tuples : O → IdSet) (s : Operands O) where
  -- each pattern admits the key at the label of the level
  abbrev pub AllAdmitNext : List Level → ℕ → Option Id → Type 0
  AllAdmitNext levels depth b = (f : Level) → IfSome b (λ r. AllAdmitAt tuples s.tracks.items depth (slice_index_or levels depth f).label r.0)

  -- no solution has a key of the level that is still to be tried and is before b
  abbrev pub NoneLeftBefore : List Level → ℕ → Option Id → Type 0
  NoneLeftBefore levels depth b = (n k : ℕ) (f : Level) → AreBelow n levels → HasSolutionAt tuples n s.tracks.items depth (slice_index_or levels depth f).label k → from_of (slice_index_or levels depth f).from ≤ k → MatchOption b ⊥ (λ r. r.0 ≤ k)

  -- no solution has a key of the level that is from k on and before b
  abbrev pub NoneRaisedBefore : List Level → ℕ → ℕ → Option Id → Type 0
  NoneRaisedBefore levels depth k b = (n q : ℕ) (f : Level) → AreBelow n levels → HasSolutionAt tuples n s.tracks.items depth (slice_index_or levels depth f).label q → k ≤ q → MatchOption b ⊥ (λ r. r.0 ≤ q)

  -- no solution that has the label m has a key that is sought before b
  abbrev pub NoneBefore : ℕ → Sought → Option Id → Type 0
  NoneBefore m sought b = (n k : ℕ) → m < n → HasSolutionAt tuples n s.tracks.items sought.depth sought.label k → sought.from.0 ≤ k → MatchOption b ⊥ (λ r. r.0 ≤ k)

  -- no solution with the key of the level has a key that is sought before b
  abbrev pub NoneAtBefore : Level → Sought → Option Id → Type 0
  NoneAtBefore f sought b = (n k : ℕ) (h : HasSolutionAt tuples n s.tracks.items sought.depth sought.label k) → at f.label h.solution ≡ Some f.key.0 → sought.from.0 ≤ k → MatchOption b ⊥ (λ r. r.0 ≤ k)
