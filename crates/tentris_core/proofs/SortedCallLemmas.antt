-- With sorted rows, a call is a function of what went in.
use Rattle.std.proofs.Common.{◌≡◌, ◌∙◌, ℕ, ◌+◌, ◌≤◌, ◌<◌, true, false, List, [], ◌∷◌, ◌++◌, length, refl, sym, ap, subst, arith, append-nil}
use Rattle.std.specs.Prelude.{Option, Some, None, take}
use Rattle.std.specs.Io.KnownBytes.{append_known, prepend_known, IsAtEnd}
use Rattle.std.proofs.lemmas.List.{append_cancel_left, take-append-le, length-append}
use Rattle.text_lines.specs.Lines.{lines_of, whole_lines_of}
use Rattle.script_model.specs.Commands.{Command, commands_of, closed_commands_of}
use Rattle.file_model.specs.FileMap.{FileMap}
use Rattle.rdf_model.specs.Graph.{Graph}
use Rattle.run_model.specs.Worlds.{Config, FailedRead}
use Rattle.run_model.specs.Steps.{Event, Run, commands_in, text_of, or_none, failed_reads}
use Rattle.tn_io.specs.FileFaults.{FaultCounts}
use Rattle.graph_store.specs.StoreState.{StoreState, graph}
use Rattle.line_batch.specs.Carrying.{Around, config_in, world_in}
use Rattle.tentris_core.specs.Carrying.{StoreEvent, events_in, RunsOver}
use Rattle.tentris_core.specs.Traffic.{Traffic, AreCounted}
use Rattle.tentris_core.specs.Runs.{IsWatched}
use Rattle.tentris_core.specs.Sorted.{AreUnhindered, HadMemory, AreUnrisen, CarriesOut, whole, front, SortedCall, SortedCallsAgree, CallsCarryOut}
use Rattle.tentris_core.specs.declared.running.Status.TheVariants.{Done, SomeRefused, BadWords, ReadFault, WriteFault, Memory, TooLong}
use Rattle.tentris_core.proofs.CompleteLemmas.{raised}
use Rattle.tentris_core.proofs.SortedLemmas.{sorted_runs_agree}

-- what a script that is told stands for, with so many bytes at most
data AreOf (most : ℕ) (script : List ℕ) (commands : List Command) : Type 0 where
  all : length script ≤ most → commands ≡ commands_of (lines_of script) → AreOf most script commands
  some : most < length script → commands ≡ closed_commands_of (whole_lines_of (take most script)) → AreOf most script commands

same_commands : (most : ℕ) (script : List ℕ) (one other : List Command) → AreOf most script one → AreOf most script other → one ≡ other
same_commands most script one other (all h is) (all k was) = is ∙ sym was
same_commands most script one other (all h is) (some k was) = absurd (omega (arith, h, k))
same_commands most script one other (some h is) (all k was) = absurd (omega (arith, h, k))
same_commands most script one other (some h is) (some k was) = is ∙ sym was

-- what was taken of a script that is told
taken_of : (script taken : List ℕ) (left : Option (List ℕ)) → Some script ≡ prepend_known taken left → (rest : List ℕ) × (left ≡ Some rest) × (script ≡ taken ++ rest)
taken_of script taken None h = absurd (let t : ⊥ = cc in t)
taken_of script taken (Some rest) h = (rest, refl, cc)

all_taken : (script taken : List ℕ) (left : Option (List ℕ)) → Some script ≡ prepend_known taken left → IsAtEnd left → script ≡ taken
all_taken script taken None h end = absurd (let t : ⊥ = cc in t)
all_taken script taken (Some rest) h end =
    let is : script ≡ taken ++ rest = cc in
    is ∙ ap (λ r. taken ++ r) end ∙ append-nil taken

are_of : (A : Around) (s t : StoreState) (before now : Traffic) (trace : List StoreEvent) (script : List ℕ) → CarriesOut A s t before now trace → before.left ≡ Some script
    → AreOf A.most_bytes script (commands_in (events_in A trace))
are_of A s t before now _ script (whole refused runs) told =
    let is : script ≡ runs.taken = all_taken script runs.taken now.left (sym told ∙ runs.read) runs.at_end in
    all (subst (λ b. length b ≤ A.most_bytes) (sym is) runs.within) (runs.commands ∙ ap (λ b. commands_of (lines_of b)) (sym is))
are_of A s t before now _ script (front runs) told =
    let h : (rest : List ℕ) × (now.left ≡ Some rest) × (script ≡ runs.taken ++ rest) = taken_of script runs.taken now.left (sym told ∙ runs.read) in
    let long : A.most_bytes < length (runs.taken ++ h.0) = of (length runs.taken) (length h.0) (length (runs.taken ++ h.0)) (length-append runs.taken h.0) runs.over in
    let same : take A.most_bytes script ≡ take A.most_bytes runs.taken = ap (take A.most_bytes) h.2 ∙ take-append-le A.most_bytes runs.taken h.0 (omega (arith, runs.over)) in
    some (subst (λ b. A.most_bytes < length b) (sym h.2) long) (runs.commands ∙ ap (λ b. closed_commands_of (whole_lines_of b)) (sym same)) where
      of : (n m sum : ℕ) → sum ≡ n + m → A.most_bytes < n → A.most_bytes < sum
      of n m sum e h = omega (arith, e, h)

-- what both ways say
over_of : (A : Around) (s t : StoreState) (before now : Traffic) (trace : List StoreEvent) → CarriesOut A s t before now trace → RunsOver A s trace t
over_of A s t before now _ (whole refused runs) = runs.runs
over_of A s t before now _ (front runs) = runs.runs

wrote_of : (A : Around) (s t : StoreState) (before now : Traffic) (trace : List StoreEvent) → CarriesOut A s t before now trace
    → now.written ≡ append_known before.written (text_of (events_in A trace))
wrote_of A s t before now _ (whole refused runs) = runs.wrote
wrote_of A s t before now _ (front runs) = runs.wrote

watched_of : (A : Around) (s t : StoreState) (before now : Traffic) (trace : List StoreEvent) → CarriesOut A s t before now trace → IsWatched A trace before now
watched_of A s t before now _ (whole refused runs) = runs.watched
watched_of A s t before now _ (front runs) = runs.watched

-- where no count rose, no read failed
unhindered : (A : Around) (trace : List StoreEvent) (before now : FaultCounts) → AreCounted before now (failed_reads (events_in A trace)) → AreUnrisen before now
    → HadMemory trace → AreUnhindered (events_in A trace)
unhindered A [] before now counted unrisen memory = tt
unhindered A (e ∷ trace) before now counted unrisen memory =
    (record { memory = memory.0; reads = of e.failed counted }, unhindered A trace before now (rest e.failed (of e.failed counted) counted) unrisen memory.1) where
      of : (failed : Option FailedRead) → AreCounted before now (or_none failed ++ failed_reads (events_in A trace)) → failed ≡ None
      of None h = refl
      of (Some read) h = absurd (unrisen read.name read.place (raised read [] (failed_reads (events_in A trace)) before now h))

      rest : (failed : Option FailedRead) → failed ≡ None → AreCounted before now (or_none failed ++ failed_reads (events_in A trace)) → AreCounted before now (failed_reads (events_in A trace))
      rest None is h = h
      rest (Some read) is h = absurd (let t : ⊥ = cc in t)

same_inside : (a b : List ℕ) → Some a ≡ Some b → a ≡ b
same_inside a b e = cc

-- a call as a run over worlds
record AsRun (cfg : Config) (files : FileMap) (script : List ℕ) (G H : Graph) (out : List ℕ) : Type 0 where
  pub events : List Event
  pub run : Run cfg (record { graph = G; files = Some files }) events (record { graph = H; files = Some files })
  pub commands : AreOf cfg.most_bytes script (commands_in events)
  pub unhindered : AreUnhindered events
  pub text : out ≡ text_of events

as_run : (cfg : Config) (files : FileMap) (script : List ℕ) (G H : Graph) (out : List ℕ) → SortedCall cfg files script G H out → AsRun cfg files script G H out
as_run cfg files script G H out h =
    record {
      events = events_in h.around h.trace;
      run = subst (λ c. Run c (record { graph = G; files = Some files }) (events_in h.around h.trace) (record { graph = H; files = Some files })) h.set run;
      commands = subst (λ c. AreOf c.most_bytes script (commands_in (events_in h.around h.trace))) h.set (are_of h.around h.s h.t h.before h.now h.trace script h.runs h.reads);
      unhindered = unhindered h.around h.trace h.before.faults h.now.faults (watched_of h.around h.s h.t h.before h.now h.trace h.runs).counted h.unrisen h.memory;
      text = append_cancel_left h.had out (text_of (events_in h.around h.trace)) text;
    } where
      world : (s : StoreState) (K : Graph) → graph s ≡ K → world_in h.around s ≡ record { graph = K; files = Some files }
      world s K is = ap (λ g. record { graph = g; files = h.around.files }) is ∙ ap (λ f. record { graph = K; files = f }) h.told

      run : Run (config_in h.around h.s) (record { graph = G; files = Some files }) (events_in h.around h.trace) (record { graph = H; files = Some files })
      run = subst (λ V. Run (config_in h.around h.s) (record { graph = G; files = Some files }) (events_in h.around h.trace) V) (world h.t H h.ends)
          (subst (λ W. Run (config_in h.around h.s) W (events_in h.around h.trace) (world_in h.around h.t)) (world h.s G h.begins) (over_of h.around h.s h.t h.before h.now h.trace h.runs).run)

      told : Some (h.had ++ out) ≡ Some (h.had ++ text_of (events_in h.around h.trace))
      told = sym h.writes ∙ wrote_of h.around h.s h.t h.before h.now h.trace h.runs ∙ ap (λ w. append_known w (text_of (events_in h.around h.trace))) h.written

      text : h.had ++ out ≡ h.had ++ text_of (events_in h.around h.trace)
      text = same_inside (h.had ++ out) (h.had ++ text_of (events_in h.around h.trace)) told

pub sorted_calls_agree : SortedCallsAgree
sorted_calls_agree cfg files script G H K out other h k =
    let one : AsRun cfg files script G H out = as_run cfg files script G H out h in
    let two : AsRun cfg files script G K other = as_run cfg files script G K other k in
    let same : commands_in one.events ≡ commands_in two.events = same_commands cfg.most_bytes script (commands_in one.events) (commands_in two.events) one.commands two.commands in
    let agree : (text_of one.events ≡ text_of two.events) × (record { graph = H; files = Some files } ≡ record { graph = K; files = Some files }) =
    sorted_runs_agree cfg files (record { graph = G; files = Some files }) (record { graph = H; files = Some files }) (record { graph = K; files = Some files })
    one.events two.events h.sorted refl one.run two.run same one.unhindered two.unhindered in
    (one.text ∙ agree.0 ∙ sym two.text, ap (λ w. w.graph) agree.1)

pub calls_carry_out : CallsCarryOut
calls_carry_out settings Done mixed files s t before now ends memory reads writes = (ends.trace, whole false ends)
calls_carry_out settings SomeRefused mixed files s t before now ends memory reads writes = (ends.trace, whole true ends)
calls_carry_out settings TooLong mixed files s t before now ends memory reads writes = (ends.trace, front ends)
calls_carry_out settings BadWords mixed files s t before now ends memory reads writes = absurd ends
calls_carry_out settings ReadFault mixed files s t before now ends memory reads writes = absurd (reads refl)
calls_carry_out settings WriteFault mixed files s t before now ends memory reads writes = absurd (writes refl)
calls_carry_out settings Memory mixed files s t before now ends memory reads writes = absurd (memory refl)
