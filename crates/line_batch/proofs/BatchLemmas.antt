-- Lines, staged or marked one by one, and what they then do to the store.
use Rattle.std.proofs.Common.{◌≡◌, ◌∙◌, ◌⊎◌, inl, inr, ℕ, ◌+◌, ◌≤◌, true, false, nat_lt, List, [], ◌∷◌, ◌++◌, length, refl, sym, ap, subst, arith, append-nil, append_assoc}
use Rattle.std.specs.Prelude.{Option, Some, None, if◌then◌else◌}
use Rattle.std.specs.FinSet as set
use Rattle.hypertrie_model.specs.IdSets.{IdSet}
use Rattle.rdf_model.specs.Terms as model
use Rattle.rdf_model.specs.Graph.{Graph, triple_cmp}
use Rattle.graph_image.specs.ImageLaws.{graph_of-empty}
use Rattle.script_model.specs.Commands as script
use Rattle.run_model.specs.Answers as answers
use Rattle.run_model.specs.Sayings.{Saying, triples_said, triples_of, is_over, refusal_at}
use Rattle.run_model.proofs.RefusalLaws.{triples_of-push}
use Rattle.graph_store.specs.StoreState.{StoreState, graph, IsSettled, most_triples}
use Rattle.graph_store.specs.Staging.{Staging, nothing_staged, staged_graph, Fits, before, IsFull, AreMarked, marked_graph}
use Rattle.graph_store.specs.StagingLaws.{fits_nothing, before_nothing, marked_nothing}
use Rattle.answer_text.specs.declared.Refusal.{Refusal}
use Rattle.answer_text.specs.declared.Refusal.TheVariants as cause
use Rattle.answer_text.specs.Seen.{refusal_of}
use Rattle.line_batch.specs.declared.batch.Batch.{Batch}
use Rattle.line_batch.specs.declared.batch.Batch.TheVariants.{Inserts, Deletes, Refused}
use Rattle.line_batch.specs.Batches.{batch_refusal, IsCause, IsBatch, IsReady, HasOneMore, AreStaged, AreToGo, done, refused, no_memory, ChangesStore}
use Rattle.line_batch.specs.Sound.{IsBetweenCommands}
use Rattle.line_batch.proofs.GraphLemmas.{lacked, had, lacked-none, had-none, lacked-push, had-push, union-lacked, difference-had}
use Rattle.line_batch.proofs.RefusalLemmas.{refusal-front, refusal-push}
use Rattle.line_batch.proofs.FullLemmas.{HasRoomFor, IsFullFor, over_alone, not_over_alone, full_over, not_full_over}

-- ---- why a line can't be carried out

module _ (s : StoreState) (change : script.Change) (body : List Saying) (l : Saying) (good : batch_refusal s change body ≡ None) where
  decided : batch_refusal s change (body ++ l ∷ []) ≡ refusal_at change s.max (graph s) (triples_of body) (1 + length body) l
  decided = refusal-push change s.max (graph s) [] 1 body l good

  pub bad_line : (number : ℕ) → number ≡ length body + 1 → l ≡ None → batch_refusal s change (body ++ l ∷ []) ≡ Some (answers.BadLine number)
  bad_line number n bad = decided ∙ ap (refusal_at change s.max (graph s) (triples_of body) (1 + length body)) bad ∙ ap (λ k. Some (answers.BadLine k)) (let e : 1 + length body ≡ number = omega arith in e)

  module _ (r : Option model.Triple) (said : l ≡ Some r) where
    by_size : batch_refusal s change (body ++ l ∷ []) ≡ (if is_over change s.max (graph s) (triples_of body ++ triples_said (Some r)) then Some (answers.FullAt (1 + length body)) else None)
    by_size = decided ∙ ap (refusal_at change s.max (graph s) (triples_of body) (1 + length body)) said

    pub full_line : (number : ℕ) → number ≡ length body + 1 → is_over change s.max (graph s) (triples_of body ++ triples_said (Some r)) ≡ true → batch_refusal s change (body ++ l ∷ []) ≡ Some (answers.FullAt number)
    full_line number n over = by_size ∙ ap (λ b. if b then Some (answers.FullAt (1 + length body)) else None) over ∙ ap (λ k. Some (answers.FullAt k)) (let e : 1 + length body ≡ number = omega arith in e)

    pub good_line : is_over change s.max (graph s) (triples_of body ++ triples_said (Some r)) ≡ false → batch_refusal s change (body ++ l ∷ []) ≡ None
    good_line fits = by_size ∙ ap (λ b. if b then Some (answers.FullAt (1 + length body)) else None) fits

    pub triples_more : triples_of (body ++ l ∷ []) ≡ triples_of body ++ triples_said (Some r)
    triples_more = triples_of-push body l ∙ ap (λ o. triples_of body ++ triples_said o) said

-- a refused block stays refused
pub cause_stays : (s : StoreState) (change : script.Change) (body : List Saying) (l : Saying) (r : Refusal) → IsCause s change body r → IsCause s change (body ++ l ∷ []) r
cause_stays s change body l (cause.Line n) h = refusal-front change s.max (graph s) [] 1 (answers.BadLine n) body (l ∷ []) h
cause_stays s change body l (cause.Full n) h = refusal-front change s.max (graph s) [] 1 (answers.FullAt n) body (l ∷ []) h
cause_stays s change body l cause.Memory h = h
cause_stays s change body l cause.Command h = h
cause_stays s change body l cause.Query h = h
cause_stays s change body l cause.File h = h
cause_stays s change body l cause.Long h = h
cause_stays s change body l cause.Prefix h = h
cause_stays s change body l cause.Size h = h
cause_stays s change body l cause.Unended h = h

-- ---- lines that are staged

module _ (s : StoreState) (body : List Saying) (old : StoreState) (b : Staging) (h : AreStaged s body old b) where
  same_max : old.max ≡ s.max
  same_max = ap (λ z. z.max) h.start

  room : HasRoomFor s.max (graph s) (triples_of body)
  room = by h.within where
    len : set.len (staged_graph old b) ≡ set.len (lacked (graph s) (triples_of body))
    len = ap set.len h.triples

    by : (set.len (staged_graph old b) ≡ 0) ⊎ (set.len (graph s) + set.len (staged_graph old b) ≤ s.max) → HasRoomFor s.max (graph s) (triples_of body)
    by (inl e) = inl (sym len ∙ e)
    by (inr le) = inr (omega (arith, len, le))

  alone : nat_lt old.max (set.len (graph old)) ≡ nat_lt s.max (set.len (graph s))
  alone i = nat_lt (same_max i) (set.len (h.same i))

  -- a line that says no triple
  pub note_full : (l : Saying) (number : ℕ) → number ≡ length body + 1 → l ≡ Some None → true ≡ nat_lt old.max (set.len (graph old)) → batch_refusal s script.Inserts (body ++ l ∷ []) ≡ Some (answers.FullAt number)
  note_full l number n said e = full_line s script.Inserts body l h.good None said number n (over_alone s.max (graph s) (triples_of body) room (sym alone ∙ sym e))

  pub note_staged : (l : Saying) → l ≡ Some None → false ≡ nat_lt old.max (set.len (graph old)) → AreStaged s (body ++ l ∷ []) old b
  note_staged l said e = record {
    fits = h.fits;
    start = h.start;
    same = h.same;
    triples = h.triples ∙ ap (lacked (graph s)) (sym (triples_more s script.Inserts body l h.good None said ∙ append-nil (triples_of body)));
    good = good_line s script.Inserts body l h.good None said (not_over_alone s.max (graph s) (triples_of body) room (sym alone ∙ sym e));
    within = h.within;
  }

  module _ (l : Saying) (t : model.Triple) (said : l ≡ Some (Some t)) where
    full_for : IsFull old b t → IsFullFor s.max (graph s) (triples_of body) t
    full_for (inl lt) = inl (omega (arith, lt, same_max, ap set.len h.same))
    full_for (inr f) = inr (
      ap (λ G. set.contains G t) (sym h.same) ∙ f.0,
      ap (λ G. set.contains G t) (sym h.triples) ∙ f.1,
      omega (arith, f.2, same_max, ap set.len h.same, ap set.len h.triples),
    )

    full_of : IsFullFor s.max (graph s) (triples_of body) t → IsFull old b t
    full_of (inl lt) = inl (omega (arith, lt, same_max, ap set.len h.same))
    full_of (inr f) = inr (
      ap (λ G. set.contains G t) h.same ∙ f.0,
      ap (λ G. set.contains G t) h.triples ∙ f.1,
      omega (arith, f.2, same_max, ap set.len h.same, ap set.len h.triples),
    )

    -- a triple for which there is no place
    pub triple_full : (number : ℕ) → number ≡ length body + 1 → IsFull old b t → batch_refusal s script.Inserts (body ++ l ∷ []) ≡ Some (answers.FullAt number)
    triple_full number n full = full_line s script.Inserts body l h.good (Some t) said number n (full_over s.max (graph s) (triples_of body) t (full_for full))

    -- a triple that is staged
    pub triple_staged : (new : StoreState) (c : Staging) → (IsFull old b t → ⊥) → Fits new c → before new c ≡ before old b → graph new ≡ graph old
        → staged_graph new c ≡ (if set.contains (graph old) t then staged_graph old b else set.insert (staged_graph old b) t) → AreStaged s (body ++ l ∷ []) new c
    triple_staged new c free fits start same staged =
        let more = not_full_over s.max (graph s) (triples_of body) t room (λ f. free (full_of f)) in
        let triples : staged_graph new c ≡ lacked (graph s) (triples_of body ++ t ∷ []) =
        staged ∙ (λ i. if set.contains (h.same i) t then h.triples i else set.insert (h.triples i) t) ∙ sym (lacked-push (graph s) (triples_of body) t) in
        record {
          fits = fits;
          start = start ∙ h.start;
          same = same ∙ h.same;
          triples = triples ∙ ap (lacked (graph s)) (sym (triples_more s script.Inserts body l h.good (Some t) said));
          good = good_line s script.Inserts body l h.good (Some t) said more.0;
          within = has_room (staged_graph new c) triples more.1;
        } where
          has_room : (D : Graph) → D ≡ lacked (graph s) (triples_of body ++ t ∷ []) → HasRoomFor s.max (graph s) (triples_of body ++ t ∷ []) → (set.len D ≡ 0) ⊎ (set.len (graph s) + set.len D ≤ s.max)
          has_room D is (inl e) = inl (ap set.len is ∙ e)
          has_room D is (inr le) = inr (omega (arith, le, ap set.len is))

-- ---- lines that are marked

module _ (s : StoreState) (body : List Saying) (taken : IdSet) (h : AreToGo s body taken) where
  pub note_marked : (l : Saying) → l ≡ Some None → AreToGo s (body ++ l ∷ []) taken
  note_marked l said = record {
    there = h.there;
    triples = h.triples ∙ ap (had (graph s)) (sym (triples_more s script.Deletes body l h.good None said ∙ append-nil (triples_of body)));
    good = good_line s script.Deletes body l h.good None said refl;
  }

  pub triple_marked : (l : Saying) (t : model.Triple) (more : IdSet) → l ≡ Some (Some t) → AreMarked s more
      → marked_graph s more ≡ (if set.contains (graph s) t then set.insert (marked_graph s taken) t else marked_graph s taken) → AreToGo s (body ++ l ∷ []) more
  triple_marked l t more said there marked = record {
    there = there;
    triples =
        marked ∙ (λ i. if set.contains (graph s) t then set.insert (h.triples i) t else h.triples i) ∙ sym (had-push (graph s) (triples_of body) t)
        ∙ ap (had (graph s)) (sym (triples_more s script.Deletes body l h.good (Some t) said));
    good = good_line s script.Deletes body l h.good (Some t) said refl;
  }

-- ---- what lines do

module _ (mixed : ℕ → ℕ → ℕ → ℕ → ℕ) (s : StoreState) (change : script.Change) (body : List Saying) (sound : IsBetweenCommands mixed s) where
  pub lack_memory : (t : StoreState) → t ≡ s → ChangesStore mixed s change body t (answers.Refused answers.NoMemory)
  lack_memory t is = subst (λ z. ChangesStore mixed s change body z (answers.Refused answers.NoMemory)) (sym is) (record { changes = no_memory; refused = λ _. refl; sound = sound; max = refl })

  refused_by : (r : answers.Refusal) → batch_refusal s change body ≡ Some r → ChangesStore mixed s change body s (answers.Refused r)
  refused_by r e = record { changes = refused r e; refused = λ _. refl; sound = sound; max = refl }

  pub refused_batch : (t : StoreState) (r : Refusal) → t ≡ s → IsCause s change body r → ChangesStore mixed s change body t (answers.Refused (refusal_of r))
  refused_batch t r is h = subst (λ z. ChangesStore mixed s change body z (answers.Refused (refusal_of r))) (sym is) (by r h) where
    by : (r : Refusal) → IsCause s change body r → ChangesStore mixed s change body s (answers.Refused (refusal_of r))
    by (cause.Line n) h = refused_by (answers.BadLine n) h
    by (cause.Full n) h = refused_by (answers.FullAt n) h
    by cause.Memory h = lack_memory s refl
    by cause.Command h = absurd h
    by cause.Query h = absurd h
    by cause.File h = absurd h
    by cause.Long h = absurd h
    by cause.Prefix h = absurd h
    by cause.Size h = absurd h
    by cause.Unended h = absurd h

pub inserted : {mixed : ℕ → ℕ → ℕ → ℕ → ℕ} (s : StoreState) (body : List Saying) (old : StoreState) (b : Staging) (t : StoreState) (changed now : ℕ) → AreStaged s body old b
    → graph t ≡ set.union (graph old) (staged_graph old b) → changed ≡ set.len (staged_graph old b) → now ≡ set.len (graph t) → IsBetweenCommands mixed t → t.max ≡ old.max
    → ChangesStore mixed s script.Inserts body t (answers.Done (answers.New changed now))
inserted {mixed} s body old b t changed now h is c n sound max = record {
  changes = done (graph t) (answers.Done (answers.New changed now)) h.good (
    is ∙ (λ i. set.union (h.same i) (h.triples i)) ∙ union-lacked (graph s) (triples_of body),
    (λ i. answers.Done (answers.New ((c ∙ ap set.len h.triples) i) (n i))),
  );
  refused = λ e. let f : false ≡ true = e in cc;
  sound = sound;
  max = max ∙ same_max s body old b h;
}

pub deleted : {mixed : ℕ → ℕ → ℕ → ℕ → ℕ} (s : StoreState) (body : List Saying) (taken : IdSet) (t : StoreState) (changed now : ℕ) → AreToGo s body taken
    → graph t ≡ set.difference (graph s) (marked_graph s taken) → changed ≡ set.len (marked_graph s taken) → now ≡ set.len (graph t) → IsBetweenCommands mixed t → t.max ≡ s.max
    → ChangesStore mixed s script.Deletes body t (answers.Done (answers.Gone changed now))
deleted {mixed} s body taken t changed now h is c n sound max = record {
  changes = done (graph t) (answers.Done (answers.Gone changed now)) h.good (
    is ∙ ap (set.difference (graph s)) h.triples ∙ difference-had (graph s) (triples_of body),
    (λ i. answers.Done (answers.Gone ((c ∙ ap set.len h.triples) i) (n i))),
  );
  refused = λ e. let f : false ≡ true = e in cc;
  sound = sound;
  max = max;
}

-- ---- batches

-- a batch of a sound store can be carried out
pub ready_batch : {mixed : ℕ → ℕ → ℕ → ℕ → ℕ} (s : StoreState) (change : script.Change) (body : List Saying) (held : StoreState) (b : Batch) → IsBetweenCommands mixed s → IsBatch s change body held b → IsReady held b
ready_batch {mixed} s script.Inserts body held (Inserts staged) sound h = h.fits
ready_batch {mixed} s script.Deletes body held (Inserts staged) sound h = absurd h
ready_batch {mixed} s script.Inserts body held (Deletes taken) sound h = absurd h
ready_batch {mixed} s script.Deletes body held (Deletes taken) sound h = (subst IsSettled (sym h.0) sound.settled, subst (λ z. AreMarked z taken) (sym h.0) h.1.there)
ready_batch {mixed} s script.Inserts body held (Refused cause) sound h = tt
ready_batch {mixed} s script.Deletes body held (Refused cause) sound h = tt

-- a refused batch leaves the store as it was, and has a cause
pub of_refused : (s : StoreState) (change : script.Change) (body : List Saying) (now : StoreState) (r : Refusal) → IsBatch s change body now (Refused r) → (now ≡ s) × IsCause s change body r
of_refused s script.Inserts body now r h = h
of_refused s script.Deletes body now r h = h

pub is_refused_batch : (s : StoreState) (change : script.Change) (body : List Saying) (now : StoreState) (r : Refusal) → now ≡ s → IsCause s change body r → IsBatch s change body now (Refused r)
is_refused_batch s script.Inserts body now r same h = (same, h)
is_refused_batch s script.Deletes body now r same h = (same, h)

-- with one more line it stays refused
pub refused_more : (s : StoreState) (change : script.Change) (body : List Saying) (now : StoreState) (l : Saying) (r : Refusal) → IsBatch s change body now (Refused r) → IsBatch s change (body ++ l ∷ []) now (Refused r)
refused_more s change body now l r h = let was = of_refused s change body now r h in is_refused_batch s change (body ++ l ∷ []) now r was.0 (cause_stays s change body l r was.1)

-- and with any more
pub refused_front : (s : StoreState) (change : script.Change) (body : List Saying) (now : StoreState) (r : Refusal) (more : List Saying) → IsBatch s change body now (Refused r) → IsBatch s change (body ++ more) now (Refused r)
refused_front s change body now r [] h = subst (λ z. IsBatch s change z now (Refused r)) (sym (append-nil body)) h
refused_front s change body now r (l ∷ more) h =
    subst (λ z. IsBatch s change z now (Refused r)) (append_assoc body (l ∷ []) more) (refused_front s change (body ++ l ∷ []) now r more (refused_more s change body now l r h))

-- nothing is staged, and nothing is marked
pub none_staged : (s : StoreState) → IsSettled s → set.len (graph s) ≤ most_triples → AreStaged s [] s nothing_staged
none_staged s settled few = record {
  fits = fits_nothing s settled few;
  start = before_nothing s;
  same = refl;
  triples = graph_of-empty s.dict ∙ sym (lacked-none (graph s));
  good = refl;
  within = inl (ap set.len (graph_of-empty s.dict) ∙ set.len-empty triple_cmp);
}

pub none_marked : (s : StoreState) → AreToGo s [] set.empty
none_marked s = record { there = marked_nothing s; triples = graph_of-empty s.dict ∙ sym (had-none (graph s)); good = refl }

-- ---- one more line

module _ (number : ℕ) (l : Saying) where
  pub of_staged : (old : StoreState) (staged : Staging) (now : StoreState) (next : Batch) → ((s : StoreState) (said : List Saying) → number ≡ length said + 1 → AreStaged s said old staged → IsBatch s script.Inserts (said ++ l ∷ []) now next)
      → HasOneMore number l old (Inserts staged) now next
  of_staged old staged now next f s script.Inserts said n h = f s said n h
  of_staged old staged now next f s script.Deletes said n h = absurd h

  pub of_marked : (old : StoreState) (taken : IdSet) (next : Batch) → ((said : List Saying) → number ≡ length said + 1 → AreToGo old said taken → IsBatch old script.Deletes (said ++ l ∷ []) old next)
      → HasOneMore number l old (Deletes taken) old next
  of_marked old taken next f s script.Inserts said n h = absurd h
  of_marked old taken next f s script.Deletes said n h =
      subst (λ z. IsBatch z script.Deletes (said ++ l ∷ []) old next) h.0 (f said n (subst (λ z. AreToGo z said taken) (sym h.0) h.1))

  pub of_no_batch : (old : StoreState) (r : Refusal) → HasOneMore number l old (Refused r) old (Refused r)
  of_no_batch old r s change said n h = refused_more s change said old l r h
