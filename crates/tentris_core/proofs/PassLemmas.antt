-- Answers that are put and passed on.
use Rattle.std.proofs.Common.{◌≡◌, ◌∙◌, ℕ, List, [], refl, sym, ap, subst, arith, append-nil}
use Rattle.std.specs.Prelude.{Option, Some, None, Ok, Err, Result, OnOk, OnErr}
use Rattle.std.specs.Io.KnownBytes.{append_known}
use Rattle.tn_io.specs.Causes.{HasCause}
use Rattle.tn_io.specs.Known.{Begins}
use Rattle.tn_io.specs.OutText.{all_put}
use Rattle.tn_io.specs.declared.out.Out.{Out}
use Rattle.tn_io.specs.declared.outside.Failed.{Failed}
use Rattle.tn_io.proofs.KnownLemmas.{begins_trans}
use Rattle.tn_io.specs.OutText.{Puts}
use Rattle.tentris_core.specs.Puts.{PassesOn}
use Rattle.tentris_core.proofs.Parts.{part_of}

pub append_none : (a : Option (List ℕ)) → append_known a [] ≡ a
append_none None = refl
append_none (Some a) = ap Some (append-nil a)

-- where nothing waits in the buffer, the sink holds all that was put
all_is : {K : Type 0} (written : K → Option (List ℕ)) (o : Out K) → o.buffer ≡ [] → all_put written o ≡ written o.sink.now
all_is written o empty = ap (append_known (written o.sink.now)) empty ∙ append_none (written o.sink.now)

module _ {K : Type 0} {written : K → Option (List ℕ)} {faults : K → ℕ} {old mid : Out K} (text : List ℕ) (empty : old.buffer ≡ []) where
  -- an answer was cut off while it was put
  pub pass_cut : (done result : Result (Unit {0}) Failed) (e f : Failed) → done ≡ Err e → result ≡ Err f → Puts written faults old mid done text → PassesOn written faults old mid result text
  pass_cut done result e f is same p =
      let q : Puts written faults old mid (Err e) text = subst (λ d. Puts written faults old mid d text) is p in
      subst (λ r. PassesOn written faults old mid r text) (sym same) (record {
        whole = tt;
        cut = part_of (written old.sink.now) (written mid.sink.now) text q.grows (subst (λ z. Begins (written mid.sink.now) (append_known z text)) (all_is written old empty) q.cut);
        cause = record { later = q.cause.later; failed = q.cause.failed };
      })

  -- an answer was put whole, and passed on or cut off
  pub pass_whole : {new : Out K} (done result : Result (Unit {0}) Failed) (u : Unit {0}) → done ≡ Ok u → Puts written faults old mid done text
      → OnOk result ((written new.sink.now ≡ all_put written mid) × (new.buffer ≡ [])) → OnErr result (Begins (written new.sink.now) (all_put written mid)) → Begins (written mid.sink.now) (written new.sink.now)
      → HasCause (faults mid.sink.now) (faults new.sink.now) result → PassesOn written faults old new result text
  pass_whole {new} done result u is p ok err grows cause = by result ok err cause where
    q : Puts written faults old mid (Ok u) text
    q = subst (λ d. Puts written faults old mid d text) is p

    put : all_put written mid ≡ append_known (written old.sink.now) text
    put = q.put ∙ ap (λ z. append_known z text) (all_is written old empty)

    by : (r : Result (Unit {0}) Failed) → OnOk r ((written new.sink.now ≡ all_put written mid) × (new.buffer ≡ [])) → OnErr r (Begins (written new.sink.now) (all_put written mid))
        → HasCause (faults mid.sink.now) (faults new.sink.now) r → PassesOn written faults old new r text
    by (Ok v) ok err cause = record {
      whole = (ok.0 ∙ put, ok.1);
      cut = tt;
      cause = record { later = omega (arith, q.cause.later, cause.later); failed = tt };
    }
    by (Err e) ok err cause = record {
      whole = tt;
      cut = part_of (written old.sink.now) (written new.sink.now) text (begins_trans _ _ _ q.grows grows) (subst (Begins (written new.sink.now)) put err);
      cause = record { later = omega (arith, q.cause.later, cause.later); failed = omega (arith, q.cause.later, cause.failed) };
    }
