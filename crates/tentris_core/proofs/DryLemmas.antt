-- Over files in memory only reads of missing names fail.
use Rattle.std.proofs.Common.{◌≡◌, ℕ, List, [], ◌∷◌, ◌++◌, refl, sym, ap, subst, arith}
use Rattle.std.specs.Prelude.{Option, Some, None, IfSome}
use Rattle.std.specs.FinMap as map
use Rattle.rdf_model.specs.Terms.{Text}
use Rattle.file_model.specs.FileMap.{FileMap}
use Rattle.run_model.specs.Worlds.{FailedRead}
use Rattle.run_model.specs.Steps.{or_none, failed_reads}
use Rattle.tn_io.specs.Causes.{Rose}
use Rattle.tn_io.specs.FileFaults.{FaultCounts}
use Rattle.tn_io.specs.MemoryFiles.{pure_files, pure_faults, missing_count}
use Rattle.tn_io.specs.declared.memory_files.PureFiles.{PureFiles}
use Rattle.command_words.specs.Answers as words
use Rattle.graph_store.specs.StoreState.{StoreState}
use Rattle.line_batch.specs.Carrying.{Around}
use Rattle.tentris_core.specs.Carrying.{StoreEvent, events_in}
use Rattle.tentris_core.specs.Traffic.{Traffic, AreCounted}
use Rattle.tentris_core.specs.Called.{around_by, bounded_by, EndsCall}
use Rattle.tentris_core.specs.Sorted.{CarriesOut, whole, front}
use Rattle.tentris_core.specs.Dry.{unheard, FailOnlyMissing, DryCall}
use Rattle.tentris_core.specs.declared.running.Status.{Status}
use Rattle.tentris_core.proofs.CompleteLemmas.{raised}

-- the count of a file's name never rises
pub raised_missing : (s t : PureFiles) → pure_files t ≡ pure_files s → (name : Text) (place : ℕ) → Rose (pure_faults s name place) (pure_faults t name place)
    → map.get (pure_files s) name ≡ None
raised_missing s t same name place rose =
    of (map.get (pure_files s) name) s.missing t.missing
    (subst (λ files. Rose (pure_faults s name place) (missing_count (map.get files name) t.missing)) same rose) where
      of : (found : Option (List ℕ)) (m n : ℕ) → Rose (missing_count found m) (missing_count found n) → found ≡ None
      of None m n h = refl
      of (Some bytes) m n h = absurd (omega (arith, h))

module _ (files : FileMap) (before now : FaultCounts) (missing : (name : Text) (place : ℕ) → Rose (before name place) (now name place) → map.get files name ≡ None) where
  -- of what is left of a run, behind these failed reads
  fail_missing : (A : Around) (past : List FailedRead) (trace : List StoreEvent) → AreCounted before now (past ++ failed_reads (events_in A trace))
      → FailOnlyMissing files trace
  fail_missing A past [] counted = tt
  fail_missing A past (e ∷ trace) counted = (
    of e.failed counted,
    fail_missing A (past ++ or_none e.failed) trace
        (subst (AreCounted before now) (sym (assoc past (or_none e.failed) (failed_reads (events_in A trace)))) counted),
  ) where
    assoc : (a b c : List FailedRead) → (a ++ b) ++ c ≡ a ++ (b ++ c)
    assoc [] b c = refl
    assoc (x ∷ a) b c = ap (λ z. x ∷ z) (assoc a b c)

    of : (failed : Option FailedRead) → AreCounted before now (past ++ (or_none failed ++ failed_reads (events_in A trace)))
        → IfSome failed (λ read. map.get files read.name ≡ None)
    of None h = tt
    of (Some read) h = missing read.name read.place (raised read past (failed_reads (events_in A trace)) before now h)

  pub carried_missing : (A : Around) (s t : StoreState) (o p : Traffic) (trace : List StoreEvent) → CarriesOut A s t o p trace → o.faults ≡ before → p.faults ≡ now
      → FailOnlyMissing files trace
  carried_missing A s t o p _ (whole refused runs) was is =
      fail_missing A [] runs.trace (subst (λ f. AreCounted f now (failed_reads (events_in A runs.trace))) was (subst (λ f. AreCounted o.faults f (failed_reads (events_in A runs.trace))) is runs.watched.counted))
  carried_missing A s t o p _ (front runs) was is =
      fail_missing A [] runs.trace (subst (λ f. AreCounted f now (failed_reads (events_in A runs.trace))) was (subst (λ f. AreCounted o.faults f (failed_reads (events_in A runs.trace))) is runs.watched.counted))

-- what a call over files in memory says
pub dry_call : (answer : words.Answer) (status : Status) (mixed : ℕ → ℕ → ℕ → ℕ → ℕ) (s t : StoreState) (script left : List ℕ) (f g : PureFiles) → Some (pure_files g) ≡ Some (pure_files f)
    → EndsCall answer status mixed (Some (pure_files f)) s t (unheard script (pure_faults f)) (unheard left (pure_faults g))
    → DryCall answer status mixed (pure_files f) s t script (pure_faults f) (pure_faults g)
dry_call answer status mixed s t script left f g same ends = record {
  left = left;
  ends = ends;
  missing = λ settings trace runs.
      carried_missing (pure_files f) (pure_faults f) (pure_faults g) (raised_missing f g (let e : pure_files g ≡ pure_files f = cc in e))
      (around_by settings mixed (Some (pure_files f))) (bounded_by settings s) t (unheard script (pure_faults f)) (unheard left (pure_faults g)) trace runs refl refl;
}
