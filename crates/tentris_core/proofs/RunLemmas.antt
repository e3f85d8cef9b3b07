-- A run, line by line.
use Rattle.std.proofs.Common.{◌≡◌, ◌∙◌, inl, inr, ℕ, ◌+◌, ◌≤◌, Bool, true, false, cond, ◌||◌, ◌&&◌, List, [], ◌∷◌, ◌++◌, length, take, refl, sym, ap, subst, arith, append_assoc, append-nil, length-append}
use Rattle.std.specs.Prelude.{Option, Some, None, Ok, Err, Result}
use Rattle.std.specs.List.{list_all, filter}
use Rattle.std.specs.Io.KnownBytes.{append_known, prepend_known}
use Rattle.file_model.specs.FileMap.{FileMap}
use Rattle.rdf_model.specs.Terms.{Text}
use Rattle.text_lines.specs.Lines.{Line, lines_of, whole_lines_of}
use Rattle.script_model.specs.Commands.{Command, Triples, Question, Unended, is_closed, commands_of, closed_commands_of}
use Rattle.run_model.specs.Answers.{answer_text, is_refused, Refused, EndInBlock}
use Rattle.run_model.specs.Steps as steps
use Rattle.run_model.specs.Steps.{commands_in, text_of, some_refused}
use Rattle.rdf_model.specs.Dumps.{dump_lines}
use Rattle.graph_store.specs.StoreState as store
use Rattle.graph_store.specs.StoreState.{IsSettled, graph}
use Rattle.graph_store.specs.Watching.{IsShown}
use Rattle.tn_io.specs.CutterState.{line_told, whole_to_come}
use Rattle.tn_io.specs.declared.cutter.Cut.{Cut}
use Rattle.tn_io.proofs.KnownLemmas.{append_known-append}
use Rattle.script_read.specs.ScriptState.{ScriptState, HasTold, at_start}
use Rattle.script_read.specs.ScriptCalls.{NextLine}
use Rattle.script_read.specs.declared.script.ScriptFault.{ScriptFault}
use Rattle.script_read.specs.declared.script.ScriptFault.TheVariants as fault
use Rattle.script_read.proofs.ScriptLemmas.{at_start_is}
use Rattle.tentris_core.specs.declared.block.Progress.{Progress}
use Rattle.tentris_core.specs.declared.block.Progress.TheVariants as place
use Rattle.tentris_core.specs.declared.outcome.Outcome.{Outcome}
use Rattle.tentris_core.specs.declared.outcome.Outcome.TheVariants.{GoesOn, Answered, Cut as CutOff}
use Rattle.line_batch.specs.Sound.{IsBetweenCommands}
use Rattle.line_batch.specs.Carrying.{Around}
use Rattle.tentris_core.specs.Carrying.{around, StoreEvent, events_in, CarriesAll}
use Rattle.tentris_core.specs.Places.{Position, Outside, Inside, IsAt, IsReadyAt, HasBeen, EndsCommand, Effects, effects, TakesLine, commands_from, lines_had, lines_in}
use Rattle.tentris_core.specs.Traffic.{Traffic, WasShown, IsCounted}
use Rattle.tentris_core.specs.Puts.{IsPart}
use Rattle.tentris_core.specs.declared.running.Status.{Status}
use Rattle.tentris_core.specs.declared.running.Status.TheVariants.{Done, SomeRefused, BadWords, ReadFault, WriteFault, Memory, TooLong}
use Rattle.tentris_core.specs.Endings.{Finishes, EndsInBlock, IsShownLast}
use Rattle.tentris_core.specs.Runs.{Ends, IsWatched, RunsAll, RunsTaken, RunsFront, RunsCut, AreAllowed}
use Rattle.line_batch.proofs.BatchLemmas.{ready_batch}
use Rattle.tentris_core.proofs.PassLemmas.{append_none}
use Rattle.tentris_core.proofs.TraceLemmas.{carries_more, over, commands_push, text_push, refused_push}
use Rattle.tentris_core.proofs.TrafficLemmas.{was_shown, counted_none, watched_none, watched_push, watched_on}

-- Where a run stands between two lines: what was told of the bytes taken, and the commands that were carried out. The store was `from` at
-- first, and is `held`.
pub record HasRun (A : Around) (from held : store.StoreState) (before now : Traffic) (s : ScriptState) (place : Progress) (refused : Bool) : Type 0 where
  -- the store after the last command
  pub last : store.StoreState
  pub sound : IsBetweenCommands A.mixed last
  pub taken : List ℕ
  pub told : List Line
  pub trace : List StoreEvent
  pub position : Position
  pub read : before.left ≡ prepend_known taken now.left
  pub tells : HasTold A.most_bytes now.left s taken told
  pub closed : list_all is_closed (commands_in (events_in A trace)) ≡ true
  pub are : (rest : List Line) → commands_of (told ++ rest) ≡ commands_in (events_in A trace) ++ commands_from position rest
  pub run : CarriesAll A from trace last
  pub is_at : IsAt position last held place
  pub had : lines_had position ≤ length told
  pub wrote : now.written ≡ append_known before.written (text_of (events_in A trace))
  pub refusals : some_refused (events_in A trace) ≡ refused
  pub watched : IsWatched A trace before now

prepend_none : (a : Option (List ℕ)) → a ≡ prepend_known [] a
prepend_none None = refl
prepend_none (Some a) = refl

prepend_both : (a : Option (List ℕ)) (p q : List ℕ) → prepend_known p (prepend_known q a) ≡ prepend_known (p ++ q) a
prepend_both None p q = refl
prepend_both (Some a) p q = ap Some (sym (append_assoc p q a))

-- nothing was read yet
pub run_starts : (A : Around) (from : store.StoreState) (o : Traffic) (s : ScriptState) → IsBetweenCommands A.mixed from → s ≡ at_start A.most_bytes → HasRun A from from o o s place.Outside false
run_starts A from o s sound is = record {
  last = from;
  sound = sound;
  taken = [];
  told = [];
  trace = [];
  position = Outside;
  read = prepend_none o.left;
  tells = subst (λ z. HasTold A.most_bytes o.left z [] []) (sym is) (at_start_is A.most_bytes o.left);
  closed = refl;
  are = λ rest. refl;
  run = refl;
  is_at = refl;
  had = omega arith;
  wrote = sym (append_none o.written);
  refusals = refl;
  watched = watched_none A o;
}

-- a store that can carry out what its place holds
pub ready : {mixed : ℕ → ℕ → ℕ → ℕ → ℕ} (p : Position) (s held : store.StoreState) (q : Progress) → IsBetweenCommands mixed s → IsAt p s held q → IsReadyAt mixed held q
ready {mixed} Outside s held place.Outside sound at = subst (IsBetweenCommands mixed) (sym at) sound
ready {mixed} Outside s held (place.Inside block) sound at = absurd at
ready {mixed} (Inside kind body) s held place.Outside sound at = absurd at
ready {mixed} (Inside Question body) s held (place.Inside block) sound at = absurd at
ready {mixed} Outside s held (place.Asks question) sound at = tt
ready {mixed} (Inside kind body) s held (place.Asks question) sound at = tt
ready {mixed} (Inside (Triples change) body) s held (place.Inside block) sound at = ready_batch s change _ held block.batch sound at.batch

all_more : (cs : List Command) (c : Command) → list_all is_closed cs ≡ true → is_closed c ≡ true → list_all is_closed (cs ++ c ∷ []) ≡ true
all_more [] c h e = ap (λ b. b && true) e
all_more (d ∷ cs) c h e =
    elim (is_closed d) as (λ b. (b && list_all is_closed cs) ≡ true → (b && list_all is_closed (cs ++ c ∷ [])) ≡ true) [
      | true ↦ λ h. all_more cs c h e
      | false ↦ λ h. h
    ] h

filter_front : (cs ds : List Command) → list_all is_closed cs ≡ true → filter is_closed (cs ++ ds) ≡ cs ++ filter is_closed ds
filter_front [] ds h = refl
filter_front (c ∷ cs) ds h =
    elim (is_closed c) as (λ b. (b && list_all is_closed cs) ≡ true → cond b (c ∷ filter is_closed (cs ++ ds)) (filter is_closed (cs ++ ds)) ≡ c ∷ (cs ++ filter is_closed ds)) [
      | true ↦ λ h. ap (λ z. c ∷ z) (filter_front cs ds h)
      | false ↦ λ h. absurd (let t : ⊥ = cc in t)
    ] h

none_closed : (p : Position) → filter is_closed (commands_from p []) ≡ []
none_closed Outside = refl
none_closed (Inside change body) = refl

module _ (A : Around) (from held : store.StoreState) (before now : Traffic) (s : ScriptState) (spot : Progress) (refused : Bool) (h : HasRun A from held before now s spot refused) where
  abbrev max : ℕ
  max = A.most_bytes

  abbrev did : List Command
  did = commands_in (events_in A h.trace)

  -- the block can count one more line
  pub few_lines : lines_in spot ≤ A.most_bytes + 1
  few_lines = by h.position spot h.is_at h.had h.tells where
    short : HasTold A.most_bytes now.left s h.taken h.told → length h.told ≤ A.most_bytes + 1
    short (inl t) = let few = t.few in omega arith
    short (inr t) = let few = t.few in omega arith

    by : (p : Position) (q : Progress) → IsAt p h.last held q → lines_had p ≤ length h.told → HasTold A.most_bytes now.left s h.taken h.told → lines_in q ≤ A.most_bytes + 1
    by Outside place.Outside a le t = omega arith
    by Outside (place.Inside block) a le t = absurd a
    by (Inside kind body) place.Outside a le t = absurd a
    by (Inside Question body) (place.Inside block) a le t = absurd a
    by Outside (place.Asks question) a le t = absurd a
    by (Inside kind body) (place.Asks question) a le t = omega arith
    by (Inside (Triples change) body) (place.Inside block) a le t = omega (arith, short t, a.count)

  pub all_commands : commands_of h.told ≡ did ++ commands_from h.position []
  all_commands = ap commands_of (sym (append-nil h.told)) ∙ h.are []

  closed_commands : closed_commands_of h.told ≡ did
  closed_commands = ap (filter is_closed) all_commands ∙ filter_front did (commands_from h.position []) h.closed ∙ ap (λ z. did ++ z) (none_closed h.position) ∙ append-nil did

  -- what goes in and out once more bytes were read
  abbrev reading : Option (List ℕ) → Traffic
  reading left = record now { left = left }

  -- a read failed
  pub run_fails : (l2 : Option (List ℕ)) (t : ScriptState) → NextLine now.left l2 s t (Err fault.Read) → RunsTaken A from h.last before (reading l2)
  run_fails l2 t n =
      let tells = n.tells max h.taken h.told h.tells in
      record {
        taken = h.taken ++ n.q;
        trace = h.trace;
        read = h.read ∙ ap (prepend_known h.taken) n.read ∙ prepend_both l2 h.taken n.q;
        within = tells.1;
        runs = over A h.trace from h.last h.run;
        commands = sym (ap closed_commands_of tells.0 ∙ closed_commands);
        wrote = h.wrote;
        watched = watched_on A h.trace before now (reading l2) refl refl h.watched;
      }

  -- the script is too long
  pub run_too_long : (l2 : Option (List ℕ)) (t : ScriptState) → NextLine now.left l2 s t (Err fault.TooLong) → RunsFront A from h.last before (reading l2)
  run_too_long l2 t n =
      let tells = n.tells max h.taken h.told h.tells in
      record {
        taken = h.taken ++ n.q;
        trace = h.trace;
        read = h.read ∙ ap (prepend_known h.taken) n.read ∙ prepend_both l2 h.taken n.q;
        over = tells.1;
        runs = over A h.trace from h.last h.run;
        commands = sym (ap closed_commands_of tells.0 ∙ closed_commands);
        wrote = h.wrote;
        watched = watched_on A h.trace before now (reading l2) refl refl h.watched;
      }

  -- the script ends outside a block
  pub run_ends : (o2 : Traffic) (t : ScriptState) → spot ≡ place.Outside → NextLine now.left o2.left s t (Ok None) → o2.written ≡ now.written → o2.shown ≡ now.shown → o2.faults ≡ now.faults → RunsAll A refused from h.last before o2
  run_ends o2 t is n written shown faults =
      let tells = n.tells max h.taken h.told h.tells in
      record {
        taken = h.taken ++ n.q;
        trace = h.trace;
        read = h.read ∙ ap (prepend_known h.taken) n.read ∙ prepend_both o2.left h.taken n.q;
        at_end = tells.2;
        within = tells.1;
        runs = over A h.trace from h.last h.run;
        commands = sym (ap commands_of tells.0 ∙ all_commands ∙ ap (λ z. did ++ z) (none_left h.position (subst (λ z. IsAt h.position h.last held z) is h.is_at)) ∙ append-nil did);
        wrote = written ∙ h.wrote;
        refusals = h.refusals;
        watched = watched_on A h.trace before now o2 shown faults h.watched;
      } where
        none_left : (p : Position) → IsAt p h.last held place.Outside → commands_from p [] ≡ []
        none_left Outside a = refl
        none_left (Inside kind body) a = absurd a

  -- the script ends inside a block
  module _ (o2 : Traffic) (t : ScriptState) (left : commands_from h.position [] ≡ Unended ∷ []) (n : NextLine now.left o2.left s t (Ok None)) (shown : WasShown now.shown o2.shown (dump_lines (graph h.last) ∷ [])) (faults : o2.faults ≡ now.faults) where
    unended : commands_of (lines_of (h.taken ++ n.q)) ≡ did ++ Unended ∷ []
    unended = ap commands_of (n.tells max h.taken h.told h.tells).0 ∙ all_commands ∙ ap (λ z. did ++ z) left

    abbrev refusal : StoreEvent
    refusal = record { command = Unended; answer = Refused EndInBlock; failed = None; store = h.last }

    ran : CarriesAll A from (h.trace ++ refusal ∷ []) h.last
    ran = carries_more A h.trace from h.last refusal h.run (record {
      step = steps.refused Unended EndInBlock refl;
      refused = λ _. refl;
      sound = h.sound;
      max = refl;
    })

    seen : IsWatched A (h.trace ++ refusal ∷ []) before o2
    seen = watched_push A h.trace refusal before now o2 h.watched shown (subst (λ z. IsCounted now.faults z None) (sym faults) (counted_none now.faults))

    pub run_ends_inside : o2.written ≡ append_known now.written (answer_text (Refused EndInBlock)) → RunsAll A true from h.last before o2
    run_ends_inside w = record {
      taken = h.taken ++ n.q;
      trace = h.trace ++ refusal ∷ [];
      read = h.read ∙ ap (prepend_known h.taken) n.read ∙ prepend_both o2.left h.taken n.q;
      at_end = (n.tells max h.taken h.told h.tells).2;
      within = (n.tells max h.taken h.told h.tells).1;
      runs = over A (h.trace ++ refusal ∷ []) from h.last ran;
      commands = commands_push A h.trace refusal ∙ sym unended;
      wrote =
          w ∙ ap (λ z. append_known z (answer_text (Refused EndInBlock))) h.wrote ∙ append_known-append before.written (text_of (events_in A h.trace)) (answer_text (Refused EndInBlock))
          ∙ ap (append_known before.written) (sym (text_push A h.trace refusal));
      refusals = refused_push A h.trace refusal ∙ or_one (some_refused (events_in A h.trace));
      watched = seen;
    } where
      or_one : (a : Bool) → (a || true) ≡ true
      or_one true = refl
      or_one false = refl

    pub run_ends_cut : IsPart now.written o2.written (answer_text (Refused EndInBlock)) → RunsCut A from h.last before o2
    run_ends_cut w = record {
      taken = h.taken ++ n.q;
      front = h.trace;
      last = refusal;
      read = h.read ∙ ap (prepend_known h.taken) n.read ∙ prepend_both o2.left h.taken n.q;
      allowed = inr (
        (n.tells max h.taken h.told h.tells).2,
        (n.tells max h.taken h.told h.tells).1,
        [],
        unended ∙ sym (commands_push A h.trace refusal) ∙ sym (append-nil (commands_in (events_in A (h.trace ++ refusal ∷ [])))),
      );
      runs = over A (h.trace ++ refusal ∷ []) from h.last ran;
      wrote = subst (λ z. IsPart z o2.written (answer_text (Refused EndInBlock))) h.wrote w;
      watched = seen;
    }

  -- one more line; `then` is what has gone in and out behind it
  module _ (then : Traffic) (t : ScriptState) (cut : Cut) (n : NextLine now.left then.left s t (Ok (Some cut))) (kept : store.StoreState) (q : Progress) where
    next_read : before.left ≡ prepend_known (h.taken ++ n.q) then.left
    next_read = h.read ∙ ap (prepend_known h.taken) n.read ∙ prepend_both then.left h.taken n.q

    next_had : (m : ℕ) → m ≤ lines_had h.position + 1 → m ≤ length (h.told ++ line_told cut t.cutter ∷ [])
    next_had m le = omega (arith, h.had, length-append h.told (line_told cut t.cutter ∷ []))

    abbrev Takes : Outcome → Type 0
    Takes outcome = TakesLine A h.position (line_told cut t.cutter) h.last kept q (effects now.written now.faults) (effects then.written then.faults) outcome

    -- that ends no command
    pub run_line : Takes GoesOn → then.shown ≡ now.shown → HasRun A from kept before then t q refused
    run_line k shown =
        let same = k.leads.2 in
        let written : then.written ≡ now.written = ap (λ z. z.written) same in
        let faults : then.faults ≡ now.faults = ap (λ z. z.faults) same in
        record {
          last = k.after;
          sound = subst (IsBetweenCommands A.mixed) (sym k.leads.0) h.sound;
          taken = h.taken ++ n.q;
          told = h.told ++ line_told cut t.cutter ∷ [];
          trace = h.trace;
          position = k.next;
          read = next_read;
          tells = n.tells max h.taken h.told h.tells;
          closed = h.closed;
          are = λ rest. ap commands_of (append_assoc h.told (line_told cut t.cutter ∷ []) rest) ∙ h.are (line_told cut t.cutter ∷ rest) ∙ ap (λ z. did ++ z) (k.leads.1 rest);
          run = subst (CarriesAll A from h.trace) (sym k.leads.0) h.run;
          is_at = k.is_at;
          had = next_had (lines_had k.next) k.had;
          wrote = written ∙ h.wrote;
          refusals = h.refusals;
          watched = watched_on A h.trace before now then shown faults h.watched;
        }

    -- that ends a command
    module _ (next : Position) (after : store.StoreState) (e : EndsCommand A h.position (line_told cut t.cutter) h.last next after) where
      abbrev event : StoreEvent
      event = record { command = e.command; answer = e.answer; failed = e.failed; store = after }

      next_are : (rest : List Line) → commands_of ((h.told ++ line_told cut t.cutter ∷ []) ++ rest) ≡ commands_in (events_in A (h.trace ++ event ∷ [])) ++ commands_from next rest
      next_are rest =
          ap commands_of (append_assoc h.told (line_told cut t.cutter ∷ []) rest) ∙ h.are (line_told cut t.cutter ∷ rest) ∙ ap (λ z. did ++ z) (e.are rest)
          ∙ sym (append_assoc did (e.command ∷ []) (commands_from next rest)) ∙ ap (λ z. z ++ commands_from next rest) (sym (commands_push A h.trace event))

      next_closed : list_all is_closed (commands_in (events_in A (h.trace ++ event ∷ []))) ≡ true
      next_closed = ap (list_all is_closed) (commands_push A h.trace event) ∙ all_more did e.command h.closed e.closed

      next_run : CarriesAll A from (h.trace ++ event ∷ []) after
      next_run = carries_more A h.trace from h.last event h.run e.carries

      module _ (shown : WasShown now.shown then.shown (dump_lines (graph after) ∷ [])) (counted : IsCounted now.faults then.faults e.failed) where
        next_watched : IsWatched A (h.trace ++ event ∷ []) before then
        next_watched = watched_push A h.trace event before now then h.watched shown counted

        pub run_answer : (again was : Bool) → IsAt next after kept q → lines_had next ≤ lines_had h.position + 1 → then.written ≡ append_known now.written (answer_text e.answer) → was ≡ is_refused e.answer → again ≡ (refused || was)
            → HasRun A from kept before then t q again
        run_answer again was at had w is or = record {
          last = after;
          sound = e.carries.sound;
          taken = h.taken ++ n.q;
          told = h.told ++ line_told cut t.cutter ∷ [];
          trace = h.trace ++ event ∷ [];
          position = next;
          read = next_read;
          tells = n.tells max h.taken h.told h.tells;
          closed = next_closed;
          are = next_are;
          run = next_run;
          is_at = at;
          had = next_had (lines_had next) had;
          wrote =
              w ∙ ap (λ z. append_known z (answer_text e.answer)) h.wrote ∙ append_known-append before.written (text_of (events_in A h.trace)) (answer_text e.answer)
              ∙ ap (append_known before.written) (sym (text_push A h.trace event));
          refusals = refused_push A h.trace event ∙ ap (λ b. b || is_refused e.answer) h.refusals ∙ ap (λ b. refused || b) (sym is) ∙ sym or;
          watched = next_watched;
        }

        pub run_cut : IsPart now.written then.written (answer_text e.answer) → RunsCut A from after before then
        run_cut w = record {
          taken = h.taken ++ n.q;
          front = h.trace;
          last = event;
          read = next_read;
          allowed = by (n.tells max h.taken h.told h.tells);
          runs = over A (h.trace ++ event ∷ []) from after next_run;
          wrote = subst (λ z. IsPart z then.written (answer_text e.answer)) h.wrote w;
          watched = next_watched;
        } where
          by : HasTold max then.left t (h.taken ++ n.q) (h.told ++ line_told cut t.cutter ∷ []) → AreAllowed max (h.taken ++ n.q) then.left (commands_in (events_in A (h.trace ++ event ∷ [])))
          by (inl o) =
              let more = whole_to_come t.cutter (t.ahead ++ []) in
              inl (
                filter is_closed (commands_from next more),
                ap closed_commands_of (ap whole_lines_of (sym (append-nil (take max (h.taken ++ n.q)))) ∙ o.whole []) ∙ ap (filter is_closed) (next_are more)
                    ∙ filter_front (commands_in (events_in A (h.trace ++ event ∷ []))) (commands_from next more) next_closed,
              )
          by (inr o) = inr (
            o.at_end,
            o.within,
            commands_from next [],
            ap commands_of (o.lines ∙ sym (append-nil (h.told ++ line_told cut t.cutter ∷ []))) ∙ next_are [],
          )

    -- an answer was passed on whole, or cut off, and the watch was shown the store
    pub run_answered : (again refusal : Bool) → again ≡ (refused || refusal) → (k : Takes (Answered refusal)) → WasShown now.shown then.shown (dump_lines (graph k.after) ∷ []) → HasRun A from kept before then t q again
    run_answered again refusal or k shown = run_answer k.next k.after k.leads.0 shown k.leads.2 again refusal k.is_at k.had k.leads.1.0 k.leads.1.1 or

    pub run_cut_off : (k : Takes CutOff) → WasShown now.shown then.shown (dump_lines (graph k.after) ∷ []) → RunsCut A from k.after before then
    run_cut_off k shown = run_cut k.next k.after k.leads.0 shown k.leads.2 k.leads.1

  -- the script ends, wherever it stands
  pub run_finishes : (o2 : Traffic) (t : ScriptState) (status : Status) → NextLine now.left o2.left s t (Ok None) → Finishes spot refused now.written o2.written status
      → IsShownLast spot now.shown o2.shown (dump_lines (graph h.last)) → o2.faults ≡ now.faults → Ends status A from h.last before o2
  run_finishes o2 t status n f shown faults = by spot refl status f shown where
    outside_ends : spot ≡ place.Outside → (b : Bool) → refused ≡ b → o2.written ≡ now.written → o2.shown ≡ now.shown → Ends (cond b SomeRefused Done) A from h.last before o2
    outside_ends e true r w sh = subst (λ b. RunsAll A b from h.last before o2) r (run_ends o2 t e n w sh faults)
    outside_ends e false r w sh = subst (λ b. RunsAll A b from h.last before o2) r (run_ends o2 t e n w sh faults)

    inside_ends : commands_from h.position [] ≡ Unended ∷ [] → (status : Status) → EndsInBlock now.written o2.written status → WasShown now.shown o2.shown (dump_lines (graph h.last) ∷ []) → Ends status A from h.last before o2
    inside_ends left SomeRefused f sh = run_ends_inside o2 t left n sh faults f
    inside_ends left WriteFault f sh = run_ends_cut o2 t left n sh faults f
    inside_ends left Done f sh = absurd f
    inside_ends left BadWords f sh = absurd f
    inside_ends left ReadFault f sh = absurd f
    inside_ends left Memory f sh = absurd f
    inside_ends left TooLong f sh = absurd f

    one_left : (p : Position) (q : Progress) → IsAt p h.last held q → (q ≡ place.Outside → ⊥) → commands_from p [] ≡ Unended ∷ []
    one_left Outside place.Outside a other = absurd (other refl)
    one_left Outside (place.Inside block) a other = absurd a
    one_left Outside (place.Asks question) a other = absurd a
    one_left (Inside kind body) q a other = refl

    by : (q : Progress) → spot ≡ q → (status : Status) → Finishes q refused now.written o2.written status → IsShownLast q now.shown o2.shown (dump_lines (graph h.last)) → Ends status A from h.last before o2
    by place.Outside e status f sh = subst (λ z. Ends z A from h.last before o2) (sym f.0) (outside_ends e refused refl f.1 sh)
    by (place.Inside block) e status f sh = inside_ends (one_left h.position (place.Inside block) (subst (λ z. IsAt h.position h.last held z) e h.is_at) (λ o. let f : ⊥ = cc in f)) status f sh
    by (place.Asks question) e status f sh = inside_ends (one_left h.position (place.Asks question) (subst (λ z. IsAt h.position h.last held z) e h.is_at) (λ o. let f : ⊥ = cc in f)) status f sh

  abbrev pub run_been : HasBeen A.mixed held spot
  run_been = record { position = h.position; last = h.last; sound = h.sound; is_at = h.is_at }

-- a call of the next line, by what it answered
pub next_at : {a b : Option (List ℕ)} {s t : ScriptState} (r q : Result (Option Cut) ScriptFault) → r ≡ q → NextLine a b s t r → NextLine a b s t q
next_at {a} {b} {s} {t} r q e n = subst (λ z. NextLine a b s t z) e n

-- a line that was taken, by which line it was and what it led to
pub takes_at : {A : Around} {p : Position} {s held : store.StoreState} {q : Progress} {before now : Effects} (l m : Line) (o r : Outcome) → l ≡ m → o ≡ r → TakesLine A p l s held q before now o → TakesLine A p m s held q before now r
takes_at {A} {p} {s} {held} {q} {before} {now} l m o r e f k = subst (λ z. TakesLine A p m s held q before now z) f (subst (λ z. TakesLine A p z s held q before now o) e k)

-- where a command ended, the store is the one that it left
pub left_outside : (p : Position) (s held : store.StoreState) (q : Progress) → p ≡ Outside → IsAt p s held q → held ≡ s
left_outside p s held q out at = by q (subst (λ z. IsAt z s held q) out at) where
  by : (q : Progress) → IsAt Outside s held q → held ≡ s
  by place.Outside at = at
  by (place.Inside block) at = absurd at
  by (place.Asks question) at = absurd at

-- the same for the store that is left
pub ends_in : (status : Status) (A : Around) (from t u : store.StoreState) (a b : Traffic) → u ≡ t → Ends status A from t a b → Ends status A from u a b
ends_in status A from t u a b e = subst (λ z. Ends status A from z a b) (sym e)

-- what stands around stays, as its parts do
pub around_same : {mixed : ℕ → ℕ → ℕ → ℕ → ℕ} {s t : Bool} {m n : ℕ} {f h : Option FileMap} → t ≡ s → n ≡ m → h ≡ f → around mixed s m f ≡ around mixed t n h
around_same {mixed} a b c i = around mixed (sym a i) (sym b i) (sym c i)

-- what a watch is shown at last, by the store that is left
pub shown_last : (q : Progress) (before now : Option (List (List Text))) (s t : store.StoreState) → t ≡ s → IsShownLast q before now (dump_lines (graph t)) → IsShownLast q before now (dump_lines (graph s))
shown_last q before now s t e h = subst (λ z. IsShownLast q before now (dump_lines (graph z))) e h

-- the store where a command ended
pub ended_at : {A : Around} {p : Position} {l : Line} {s : store.StoreState} {next : Position} {after : store.StoreState} (held : store.StoreState) (q : Progress) → EndsCommand A p l s next after → IsAt next after held q → held ≡ after
ended_at {A} {p} {l} {s} {next} {after} held q e at = left_outside next after held q e.out at

-- the store that a watch was shown, where a command ended
pub seen_at : {A : Around} {p : Position} {l : Line} {s : store.StoreState} {next : Position} {after : store.StoreState} (held : store.StoreState) (q : Progress) (before now : Option (List (List Text))) → EndsCommand A p l s next after → IsAt next after held q
    → IsShown before now (dump_lines (graph held)) → WasShown before now (dump_lines (graph after) ∷ [])
seen_at {A} {p} {l} {s} {next} {after} held q before now e at h =
    subst (λ z. WasShown before now (dump_lines (graph z) ∷ [])) (ended_at held q e at) (was_shown before now (dump_lines (graph held)) h)

-- it was settled
pub settled_at : {A : Around} {p : Position} {l : Line} {s : store.StoreState} {next : Position} {after : store.StoreState} (held : store.StoreState) (q : Progress) → EndsCommand A p l s next after → IsAt next after held q → IsSettled held
settled_at {A} {p} {l} {s} {next} {after} held q e at = subst IsSettled (sym (ended_at held q e at)) e.carries.sound.settled

-- the watch was shown the store that a script left
pub shown_unended : (q : Progress) (before now : Option (List (List Text))) (s : store.StoreState) → (q ≡ place.Outside → ⊥) → IsShown before now (dump_lines (graph s)) → IsShownLast q before now (dump_lines (graph s))
shown_unended place.Outside before now s other h = absurd (other refl)
shown_unended (place.Inside block) before now s other h = was_shown before now (dump_lines (graph s)) h
shown_unended (place.Asks question) before now s other h = was_shown before now (dump_lines (graph s)) h

-- a run by how it ended, for the store that is left
pub taken_in : {A : Around} {from t u : store.StoreState} {a b : Traffic} → u ≡ t → RunsTaken A from t a b → RunsTaken A from u a b
taken_in {A} {from} {t} {u} {a} {b} e = subst (λ z. RunsTaken A from z a b) (sym e)

pub front_in : {A : Around} {from t u : store.StoreState} {a b : Traffic} → u ≡ t → RunsFront A from t a b → RunsFront A from u a b
front_in {A} {from} {t} {u} {a} {b} e = subst (λ z. RunsFront A from z a b) (sym e)

pub cut_in : {A : Around} {from t u : store.StoreState} {a b : Traffic} → u ≡ t → RunsCut A from t a b → RunsCut A from u a b
cut_in {A} {from} {t} {u} {a} {b} e = subst (λ z. RunsCut A from z a b) (sym e)
