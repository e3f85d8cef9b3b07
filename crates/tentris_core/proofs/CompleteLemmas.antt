-- A run carries out every command that nothing refuses.
use Rattle.std.proofs.Common.{◌≡◌, ◌∙◌, ◌⊎◌, inl, inr, ℕ, ◌+◌, true, false, ◌==◌, List, [], ◌∷◌, ◌++◌, refl, sym, ap, subst, arith}
use Rattle.std.specs.Prelude.{Option, Some, None, cond}
use Rattle.std.proofs.lemmas.Bool.Decides.{nat_tests}
use Rattle.std.proofs.lemmas.List.Sums.{sum_by-append}
use Rattle.std.specs.Cmp.Lexicographic.{bytes_decides}
use Rattle.rdf_model.specs.Terms.{Text}
use Rattle.rdf_model.specs.Graph.{Graph}
use Rattle.script_model.specs.Commands.{Change, Inserts, Deletes, Triples, Question, OneLine, Command, Block, Single, Bad, Unended, File, Generate, Dump, Stats, Shape}
use Rattle.run_model.specs.Answers.{Answer, Refused, NoMemory, is_refused}
use Rattle.text_lines.specs.Lines.{lines_of}
use Rattle.run_model.specs.Loads.{generated_sayings}
use Rattle.run_model.specs.Sayings.{Saying, Changes, sayings}
use Rattle.run_model.specs.Worlds.{Config, World, FailedRead}
use Rattle.run_model.specs.Steps as steps
use Rattle.run_model.specs.Steps.{Step, Does, LineDoes, refusal_of, or_none, failed_reads}
use Rattle.tn_io.specs.Causes.{Rose}
use Rattle.tn_io.specs.FileFaults.{FaultCounts}
use Rattle.graph_store.specs.StoreState.{StoreState}
use Rattle.line_batch.specs.Carrying.{Around, config_in, world_in}
use Rattle.tentris_core.specs.Carrying.{StoreEvent, events_in, CarriesAll}
use Rattle.tentris_core.specs.Traffic.{is_read, times_failed, RoseBy, AreCounted}
use Rattle.tentris_core.specs.Complete.{IsFree, AreFree, AreUnraised, AreDone, RunsAreComplete}

-- what a command that is carried out answers is no refusal

changes_answer : (change : Change) (G : Graph) (said : List Saying) (H : Graph) (a : Answer) → Changes change G said H a → is_refused a ≡ false
changes_answer Inserts G said H a h = ap is_refused h.1
changes_answer Deletes G said H a h = ap is_refused h.1

line_answer : (cfg : Config) (W : World) (c : OneLine) (H : Graph) (a : Answer) → LineDoes cfg W c H a → is_refused a ≡ false
line_answer cfg W (File change scope name) H a h = changes_answer change W.graph (sayings scope (lines_of h.bytes)) H a h.changes
line_answer cfg W (Generate count salt) H a h = changes_answer Inserts W.graph (generated_sayings count salt) H a h
line_answer cfg W Dump H a h = ap is_refused h.1
line_answer cfg W Stats H a h = ap is_refused h.1
line_answer cfg W Shape H a h = ap is_refused h.1

done_answer : (cfg : Config) (W : World) (c : Command) (H : Graph) (a : Answer) → Does cfg W c H a → is_refused a ≡ false
done_answer cfg W (Block (Triples change) lines) H a h = changes_answer change W.graph (sayings [] lines) H a h
done_answer cfg W (Block Question lines) H a h = ap is_refused h.1.is
done_answer cfg W (Single command) H a h = line_answer cfg W command H a h
done_answer cfg W Bad H a h = absurd h
done_answer cfg W Unended H a h = absurd h

-- a step of a free command: it is carried out, or memory ran out, or a read of its file failed
pub data Takes (c : Command) (a : Answer) (failed : Option FailedRead) : Type 0 where
  carried : is_refused a ≡ false → Takes c a failed
  lacked : a ≡ Refused NoMemory → Takes c a failed
  unread : (change : Change) (scope name : Text) (place : ℕ) → c ≡ Single (File change scope name) → failed ≡ Some (record { name = name; place = place }) → Takes c a failed

takes : (cfg : Config) (W : World) (c : Command) (V : World) (a : Answer) (failed : Option FailedRead) → IsFree cfg W c → Step cfg W c V a failed → Takes c a failed
takes cfg W c _ a _ free (steps.done _ H _ can does) = carried (done_answer cfg W c H a does)
takes cfg W c _ _ _ free (steps.refused _ r is) = absurd (let f : None ≡ Some r = sym free.lines ∙ is in let t : ⊥ = cc in t)
takes cfg W _ _ _ _ free (steps.file_refused change scope name r h) = absurd (free.file change scope name r refl h)
takes cfg W _ _ _ _ free (steps.file_failed change scope name place h) = unread change scope name place refl refl
takes cfg W c _ _ _ free (steps.no_memory _ other) = lacked refl

-- a read that is among those that failed raised its count
pub raised : (read : FailedRead) (front behind : List FailedRead) (before now : FaultCounts) → AreCounted before now (front ++ read ∷ behind) → Rose (before read.name read.place) (now read.name read.place)
raised read front behind before now h =
    let is : is_read read.name read.place read ≡ true = both in
    let more : times_failed read.name read.place (front ++ read ∷ behind) ≡ times_failed read.name read.place front + times_failed read.name read.place (read ∷ behind) = sum_by-append (λ r. cond (is_read read.name read.place r) 1 0) front (read ∷ behind) in
    let alone : times_failed read.name read.place (read ∷ []) ≡ 1 = rw is refl in
    let one : times_failed read.name read.place (read ∷ behind) ≡ 1 + times_failed read.name read.place behind =
    sum_by-append (λ r. cond (is_read read.name read.place r) 1 0) (read ∷ []) behind ∙ ap (λ n. n + times_failed read.name read.place behind) alone in
    of (times_failed read.name read.place front) (times_failed read.name read.place behind) (times_failed read.name read.place (front ++ read ∷ behind)) (before read.name read.place) (now read.name read.place)
    (more ∙ ap (λ z. times_failed read.name read.place front + z) one) (h.rose read.name read.place) where
      same : (read.place == read.place) ≡ true
      same = grind (arith, nat_tests)

      both : is_read read.name read.place read ≡ true
      both = rw ((bytes_decides read.name read.name).1 refl, same) refl

      of : (x y n a b : ℕ) → n ≡ x + (1 + y) → RoseBy n a b → Rose a b
      of x y n a b e r = omega (arith, e, r)

complete_from : (A : Around) (s t : StoreState) (front : List FailedRead) (trace : List StoreEvent) (before now : FaultCounts) → CarriesAll A s trace t → AreFree A s trace
    → AreCounted before now (front ++ failed_reads (events_in A trace)) → AreUnraised before now trace → AreDone trace
complete_from A s t front [] before now all free counted still = tt
complete_from A s t front (e ∷ trace) before now all free counted still =
    (of (takes (config_in A s) (world_in A s) e.command (world_in A e.store) e.answer e.failed free.0 all.0.step), complete_from A e.store t (front ++ or_none e.failed) trace before now all.1 free.1 (subst (AreCounted before now) (sym (assoc front (or_none e.failed) (failed_reads (events_in A trace)))) counted) still.1) where
      assoc : (a b c : List FailedRead) → (a ++ b) ++ c ≡ a ++ (b ++ c)
      assoc [] b c = refl
      assoc (x ∷ a) b c = ap (λ z. x ∷ z) (assoc a b c)

      of : Takes e.command e.answer e.failed → (is_refused e.answer ≡ false) ⊎ (e.answer ≡ Refused NoMemory)
      of (carried h) = inl h
      of (lacked h) = inr h
      of (unread change scope name place is failed) =
          let read : FailedRead = record { name = name; place = place } in
          absurd (still.0 change scope name is place (raised read front (failed_reads (events_in A trace)) before now (subst (λ f. AreCounted before now (front ++ (or_none f ++ failed_reads (events_in A trace)))) failed counted)))

pub runs_are_complete : RunsAreComplete
runs_are_complete A s t trace before now runs free counted still = complete_from A s t [] trace before now runs.all free counted still
