-- A run over stores, one command longer.
use Rattle.std.proofs.Common.{◌≡◌, ◌∙◌, Bool, true, false, ◌||◌, List, [], ◌∷◌, ◌++◌, refl, sym, ap, subst, append_assoc, append-nil}
use Rattle.run_model.specs.Answers.{answer_text, is_refused}
use Rattle.run_model.specs.Steps.{Run, commands_in, text_of, some_refused}
use Rattle.graph_store.specs.StoreState.{StoreState}
use Rattle.line_batch.specs.Carrying.{Around, config_in, world_in, Carries}
use Rattle.tentris_core.specs.Carrying.{StoreEvent, events_in, CarriesAll, RunsOver}

module _ (A : Around) where
  -- one more command of a run
  pub carries_more : (trace : List StoreEvent) (s m : StoreState) (e : StoreEvent) → CarriesAll A s trace m → Carries A m e.command e.store e.answer e.failed → CarriesAll A s (trace ++ e ∷ []) e.store
  carries_more [] s m e r c = (subst (λ z. Carries A z e.command e.store e.answer e.failed) r c, refl)
  carries_more (d ∷ trace) s m e r c = (r.0, carries_more trace d.store m e r.1 c)

  run_of : (trace : List StoreEvent) (s t : StoreState) → CarriesAll A s trace t → Run (config_in A s) (world_in A s) (events_in A trace) (world_in A t)
  run_of [] s t r = ap (world_in A) r
  run_of (e ∷ trace) s t r =
      (r.0.step, subst (λ most. Run (record (config_in A s) { most_triples = most }) (world_in A e.store) (events_in A trace) (world_in A t)) r.0.max (run_of trace e.store t r.1))

  pub over : (trace : List StoreEvent) (s t : StoreState) → CarriesAll A s trace t → RunsOver A s trace t
  over trace s t r = record { all = r; run = run_of trace s t r }

  pub commands_push : (trace : List StoreEvent) (e : StoreEvent) → commands_in (events_in A (trace ++ e ∷ [])) ≡ commands_in (events_in A trace) ++ e.command ∷ []
  commands_push [] e = refl
  commands_push (d ∷ trace) e = ap (λ z. d.command ∷ z) (commands_push trace e)

  pub text_push : (trace : List StoreEvent) (e : StoreEvent) → text_of (events_in A (trace ++ e ∷ [])) ≡ text_of (events_in A trace) ++ answer_text e.answer
  text_push [] e = append-nil (answer_text e.answer)
  text_push (d ∷ trace) e = ap (λ z. answer_text d.answer ++ z) (text_push trace e) ∙ sym (append_assoc (answer_text d.answer) (text_of (events_in A trace)) (answer_text e.answer))

  pub refused_push : (trace : List StoreEvent) (e : StoreEvent) → some_refused (events_in A (trace ++ e ∷ [])) ≡ (some_refused (events_in A trace) || is_refused e.answer)
  refused_push [] e = or_none (is_refused e.answer) where
    or_none : (a : Bool) → (a || false) ≡ a
    or_none true = refl
    or_none false = refl
  refused_push (d ∷ trace) e = ap (λ b. is_refused d.answer || b) (refused_push trace e) ∙ sym (or_assoc (is_refused d.answer) (some_refused (events_in A trace)) (is_refused e.answer)) where
    or_assoc : (a b c : Bool) → ((a || b) || c) ≡ (a || (b || c))
    or_assoc true b c = refl
    or_assoc false b c = refl
