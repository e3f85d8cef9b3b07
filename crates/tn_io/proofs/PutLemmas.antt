-- Texts that are put one after another.
use Rattle.std.proofs.Common.{◌≡◌, ℕ, arith, List, [], ◌++◌, sym, ap, subst, ◌∙◌}
use Rattle.std.specs.declared.option.Option.{Option}
use Rattle.std.specs.Prelude.{Result, Ok, Err, OnOk}
use Rattle.std.specs.Io.KnownBytes.{append_known}
use Rattle.tn_io.specs.declared.out.Out.{Out}
use Rattle.tn_io.specs.declared.outside.Failed.{Failed}
use Rattle.tn_io.specs.Known.{Begins}
use Rattle.tn_io.specs.OutText.{all_put, Puts}
use Rattle.tn_io.proofs.KnownLemmas.{append_known-append, append_known-nothing, begins_more, begins_self, begins_trans}

-- the same text in other words
pub puts_same : {K : Type 0} {written : K → Option (List ℕ)} {faults : K → ℕ} {old new : Out K} {result : Result (Unit {0}) Failed} (t u : List ℕ) → t ≡ u → Puts written faults old new result t → Puts written faults old new result u
puts_same {K} {written} {faults} {old} {new} {result} t u e p = subst (λ z. Puts written faults old new result z) e p

module _ {K : Type 0} {written : K → Option (List ℕ)} {faults : K → ℕ} {old mid new : Out K} where
  -- one text and then another
  pub puts_both : (done result : Result (Unit {0}) Failed) (u : Unit {0}) (a b : List ℕ) → done ≡ Ok u → Puts written faults old mid done a → Puts written faults mid new result b → Puts written faults old new result (a ++ b)
  puts_both done result u a b is p q = both result q where
    first : all_put written mid ≡ append_known (all_put written old) a
    first = subst (λ d. OnOk d (all_put written mid ≡ append_known (all_put written old) a)) is p.put

    both : (r : Result (Unit {0}) Failed) → Puts written faults mid new r b → Puts written faults old new r (a ++ b)
    both (Ok v) q = record {
      put = q.put ∙ ap (λ z. append_known z b) first ∙ append_known-append (all_put written old) a b;
      cut = tt;
      cause = record { later = omega (arith, p.cause.later, q.cause.later); failed = tt };
      grows = begins_trans _ _ _ p.grows q.grows;
    }
    both (Err e) q = record {
      put = tt;
      cut = subst (Begins (written new.sink.now)) (ap (λ z. append_known z b) first ∙ append_known-append (all_put written old) a b) q.cut;
      cause = record { later = omega (arith, p.cause.later, q.cause.later); failed = omega (arith, p.cause.later, q.cause.failed) };
      grows = begins_trans _ _ _ p.grows q.grows;
    }

module _ {K : Type 0} {written : K → Option (List ℕ)} {faults : K → ℕ} {old mid : Out K} where
  -- the first of two texts was cut off
  pub puts_first : (done result : Result (Unit {0}) Failed) (e f : Failed) (a b : List ℕ) → done ≡ Err e → result ≡ Err f → Puts written faults old mid done a → Puts written faults old mid result (a ++ b)
  puts_first done result e f a b is same p =
      let q : Puts written faults old mid (Err e) a = subst (λ d. Puts written faults old mid d a) is p in
      subst (λ d. Puts written faults old mid d (a ++ b)) (sym same) (record {
        put = tt;
        cut = subst (Begins (written mid.sink.now)) (append_known-append (all_put written old) a b) (begins_more (written mid.sink.now) (append_known (all_put written old) a) b q.cut);
        cause = record { later = q.cause.later; failed = q.cause.failed };
        grows = q.grows;
      })

-- nothing was put yet
pub puts_nothing : {K : Type 0} (written : K → Option (List ℕ)) (faults : K → ℕ) (out : Out K) → Puts written faults out out (Ok tt) []
puts_nothing written faults out = record {
  put = sym (append_known-nothing (all_put written out));
  cut = tt;
  cause = record { later = omega arith; failed = tt };
  grows = begins_self (written out.sink.now);
}
