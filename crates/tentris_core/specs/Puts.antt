-- What is passed on through an output.
use Rattle.std.specs.Prelude.{◌≡◌, ℕ, ◌≤◌, List, [], ◌++◌, Result, OnOk, OnErr}
use Rattle.std.specs.declared.option.Option.{Option}
use Rattle.std.specs.Io.KnownBytes.{append_known}
use Rattle.tn_io.specs.declared.out.Out.{Out}
use Rattle.tn_io.specs.declared.outside.Failed.{Failed}
use Rattle.tn_io.specs.Causes.{HasCause, Rose}
use Rattle.run_model.specs.Answers.{Answer, answer_text, is_refused}
use Rattle.tentris_core.specs.declared.outcome.Outcome.{Outcome}
use Rattle.tentris_core.specs.declared.outcome.Outcome.TheVariants.{GoesOn, Answered, Cut}

-- b is a with the front of a text behind it, which may be cut off
abbrev pub IsPart : Option (List ℕ) → Option (List ℕ) → List ℕ → Type 0
IsPart a b text = (part : List ℕ) × (rest : List ℕ) × (text ≡ part ++ rest) × (b ≡ append_known a part)

-- A text was passed on whole to the sink, or a front of it and then a fault.
pub record PassesOn {K : Type 0} (written : K → Option (List ℕ)) (faults : K → ℕ) (old new : Out K) (result : Result (Unit {0}) Failed) (text : List ℕ) : Type 0 where
  pub whole : OnOk result ((written new.sink.now ≡ append_known (written old.sink.now) text) × (new.buffer ≡ []))
  pub cut : OnErr result (IsPart (written old.sink.now) (written new.sink.now) text)
  pub cause : HasCause (faults old.sink.now) (faults new.sink.now) result

-- what was written of a command's answer
abbrev pub WritesAnswer : Option (List ℕ) → Option (List ℕ) → Outcome → Answer → Type 0
WritesAnswer before now GoesOn a = ⊥
WritesAnswer before now (Answered refused) a = (now ≡ append_known before (answer_text a)) × (refused ≡ is_refused a)
WritesAnswer before now Cut a = IsPart before now (answer_text a)

-- Nothing waits in the buffer, unless a write failed.
abbrev pub IsPassedOn : {K : Type 0} → Outcome → Out K → Type 0
IsPassedOn GoesOn out = out.buffer ≡ []
IsPassedOn (Answered refused) out = out.buffer ≡ []
IsPassedOn Cut out = Unit {0}

-- A write fails only where the count of faults rose; the count never falls.
pub record HasOutcome (before now : ℕ) (outcome : Outcome) : Type 0 where
  pub later : before ≤ now
  pub cut : outcome ≡ Cut → Rose before now
