-- What a watch was shown and how failed reads were counted, one command more.
use Rattle.std.proofs.Common.{◌≡◌, ◌∙◌, ℕ, ◌+◌, List, [], ◌∷◌, ◌++◌, refl, sym, ap, subst, arith, append_assoc, append-nil}
use Rattle.std.specs.Prelude.{Option, Some, None, cond}
use Rattle.std.proofs.lemmas.List.Sums.{sum_by-append}
use Rattle.rdf_model.specs.Terms.{Text}
use Rattle.rdf_model.specs.Dumps.{dump_lines}
use Rattle.run_model.specs.Worlds.{FailedRead}
use Rattle.run_model.specs.Steps.{or_none, failed_reads}
use Rattle.graph_store.specs.StoreState.{graph}
use Rattle.graph_store.specs.Watching.{IsShown}
use Rattle.tn_io.specs.FileFaults.{FaultCounts}
use Rattle.line_batch.specs.Carrying.{Around}
use Rattle.tentris_core.specs.Carrying.{StoreEvent, events_in}
use Rattle.tentris_core.specs.Traffic.{Traffic, WasShown, dumps_of, is_read, times_failed, RoseBy, AreCounted, IsCounted}
use Rattle.tentris_core.specs.Runs.{IsWatched}

-- nothing was shown, and no read failed
pub shown_none : (a : Option (List (List Text))) → WasShown a a []
shown_none None = tt
shown_none (Some told) = (told, refl, sym (append-nil told))

pub counted_none : (a : FaultCounts) → AreCounted a a []
counted_none a = record { none = λ e. refl; rose = λ name place. stays (a name place) } where
  stays : (n : ℕ) → RoseBy 0 n n
  stays n = omega arith

shown_more : (a b c : Option (List (List Text))) (ds es : List (List Text)) → WasShown a b ds → WasShown b c es → WasShown a c (ds ++ es)
shown_more a b None ds es h k = tt
shown_more a None (Some now) ds es h k = absurd (let e : None ≡ Some k.0 = k.1 in let t : ⊥ = cc in t)
shown_more a (Some then) (Some now) ds es h k =
    let same : then ≡ k.0 = let e : Some then ≡ Some k.0 = k.1 in cc in
    (h.0, h.1, k.2 ∙ ap (λ z. z ++ es) (sym same ∙ h.2) ∙ append_assoc h.0 ds es)

rose_more : (x y a b c : ℕ) → RoseBy x a b → RoseBy y b c → RoseBy (x + y) a c
rose_more x y a b c h k = omega (arith, h, k)

counted_more : (a b c : FaultCounts) (xs ys : List FailedRead) → AreCounted a b xs → AreCounted b c ys → AreCounted a c (xs ++ ys)
counted_more a b c xs ys h k = record {
  none = λ e. k.none (behind xs ys e) ∙ h.none (front xs ys e);
  rose = λ name place.
      subst (λ n. RoseBy n (a name place) (c name place)) (sym (sum_by-append (λ read. cond (is_read name place read) 1 0) xs ys))
      (rose_more (times_failed name place xs) (times_failed name place ys) (a name place) (b name place) (c name place) (h.rose name place) (k.rose name place));
} where
  front : (xs ys : List FailedRead) → xs ++ ys ≡ [] → xs ≡ []
  front [] ys e = refl
  front (x ∷ xs) ys e = let t : ⊥ = cc in absurd t

  behind : (xs ys : List FailedRead) → xs ++ ys ≡ [] → ys ≡ []
  behind [] ys e = e
  behind (x ∷ xs) ys e = let t : ⊥ = cc in absurd t

-- what a watch that is shown a store says of it
pub was_shown : (before now : Option (List (List Text))) (lines : List Text) → IsShown before now lines → WasShown before now (lines ∷ [])
was_shown before None lines h = tt
was_shown before (Some now) lines h = h

module _ (A : Around) where
  dumps_push : (trace : List StoreEvent) (e : StoreEvent) → dumps_of (events_in A (trace ++ e ∷ [])) ≡ dumps_of (events_in A trace) ++ dump_lines (graph e.store) ∷ []
  dumps_push [] e = refl
  dumps_push (d ∷ trace) e = ap (λ z. dump_lines (graph d.store) ∷ z) (dumps_push trace e)

  failed_push : (trace : List StoreEvent) (e : StoreEvent) → failed_reads (events_in A (trace ++ e ∷ [])) ≡ failed_reads (events_in A trace) ++ or_none e.failed
  failed_push [] e = append-nil (or_none e.failed)
  failed_push (d ∷ trace) e = ap (λ z. or_none d.failed ++ z) (failed_push trace e) ∙ sym (append_assoc (or_none d.failed) (failed_reads (events_in A trace)) (or_none e.failed))

  pub watched_none : (o : Traffic) → IsWatched A [] o o
  watched_none o = record { shown = shown_none o.shown; counted = counted_none o.faults }

  -- one command more was shown, and a read that it failed was counted
  pub watched_push : (trace : List StoreEvent) (e : StoreEvent) (o p q : Traffic) → IsWatched A trace o p → WasShown p.shown q.shown (dump_lines (graph e.store) ∷ []) → IsCounted p.faults q.faults e.failed
      → IsWatched A (trace ++ e ∷ []) o q
  watched_push trace e o p q h shown counted = record {
    shown = subst (WasShown o.shown q.shown) (sym (dumps_push trace e)) (shown_more o.shown p.shown q.shown (dumps_of (events_in A trace)) (dump_lines (graph e.store) ∷ []) h.shown shown);
    counted = subst (AreCounted o.faults q.faults) (sym (failed_push trace e)) (counted_more o.faults p.faults q.faults (failed_reads (events_in A trace)) (or_none e.failed) h.counted counted);
  }

  -- the same where a run went on without a command
  pub watched_on : (trace : List StoreEvent) (o p q : Traffic) → q.shown ≡ p.shown → q.faults ≡ p.faults → IsWatched A trace o p → IsWatched A trace o q
  watched_on trace o p q shown faults h = record {
    shown = subst (λ z. WasShown o.shown z (dumps_of (events_in A trace))) (sym shown) h.shown;
    counted = subst (λ z. AreCounted o.faults z (failed_reads (events_in A trace))) (sym faults) h.counted;
  }
