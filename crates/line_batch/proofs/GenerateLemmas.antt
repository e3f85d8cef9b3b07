-- The generated triples, one by one.
use Rattle.std.proofs.Common.{◌≡◌, ◌∙◌, ℕ, ◌+◌, ◌≤◌, ◌<◌, List, [], ◌∷◌, ◌++◌, length, take, drop, sym, ap, subst, arith}
use Rattle.std.specs.Prelude.{Some, map, slice_get}
use Rattle.std.proofs.Math.ListN.{get_or}
use Rattle.std.proofs.lemmas.List.{map-append, take-append-drop, take_all, take_more, length-map, length-take}
use Rattle.std.proofs.lemmas.List.FromFn.{length-map-range_with_len}
use Rattle.std.proofs.lemmas.Option.{same_Some, slice_get-get_or}
use Rattle.rdf_model.specs.Terms.{Triple}
use Rattle.ntriples_model.specs.Proper.{IsProperTriple}
use Rattle.generated_model.specs.Generated.{generated, generated_at}
use Rattle.generated_model.proofs.ProperIris.{proper_triples}
use Rattle.generated_triples.proofs.NameLemmas.{triple_at}
use Rattle.script_model.specs.Commands as script
use Rattle.run_model.specs.Sayings.{Saying}
use Rattle.run_model.specs.Loads.{saying_of, generated_sayings}
use Rattle.graph_store.specs.StoreState.{StoreState}
use Rattle.answer_text.specs.declared.Refusal.{Refusal}
use Rattle.line_batch.specs.declared.batch.Batch.{Batch}
use Rattle.line_batch.specs.declared.batch.Batch.TheVariants.{Refused}
use Rattle.line_batch.specs.Batches.{IsBatch, HasOneMore}
use Rattle.line_batch.proofs.BatchLemmas.{refused_front}

-- what the first k of them say
abbrev pub first : ℕ → ℕ → ℕ → List Saying
first n salt k = map saying_of (take k (generated n salt))

size : (n salt : ℕ) → length (generated n salt) ≡ n
size n salt = length-map-range_with_len (generated_at n salt) 0 n

pub first_is_all : (n salt k : ℕ) → n ≤ k → first n salt k ≡ generated_sayings n salt
first_is_all n salt k h = ap (map saying_of) (take_all k (generated n salt) (omega (arith, h, size n salt)))

module _ (n salt k : ℕ) (t : Triple) (within : k < n) (is : slice_get (generated n salt) k ≡ Some t) where
  pub proper_generated : n ≤ 500000000 → IsProperTriple t
  proper_generated few = subst IsProperTriple (sym (same_Some _ _ (sym is ∙ triple_at n salt k within))) (proper_triples n salt k (omega arith))

  first_more : first n salt (k + 1) ≡ first n salt k ++ saying_of t ∷ []
  first_more =
      let lt : k < length (generated n salt) = omega (arith, within, size n salt) in
      let at : get_or (generated n salt) k t ≡ t = same_Some _ _ (sym (slice_get-get_or (generated n salt) k t lt) ∙ is) in
      ap (map saying_of) (take_more (generated n salt) k t lt ∙ ap (λ x. take k (generated n salt) ++ x ∷ []) at) ∙ map-append saying_of (take k (generated n salt)) (t ∷ [])

  pub first_step : (s now : StoreState) (b : Batch) (later : StoreState) (next : Batch) → IsBatch s script.Inserts (first n salt k) now b → HasOneMore (k + 1) (saying_of t) now b later next
      → IsBatch s script.Inserts (first n salt (k + 1)) later next
  first_step s now b later next h more =
      let count : k + 1 ≡ length (first n salt k) + 1 = omega (arith, within, size n salt, length-map (take k (generated n salt)) saying_of, length-take k (generated n salt)) in
      subst (λ z. IsBatch s script.Inserts z later next) (sym first_more) (more s script.Inserts (first n salt k) count h)

  -- where one of them can't be put in, nor can all of them
  pub first_refused : (s now : StoreState) (b : Batch) (later : StoreState) (why : Refusal) → IsBatch s script.Inserts (first n salt k) now b → HasOneMore (k + 1) (saying_of t) now b later (Refused why)
      → IsBatch s script.Inserts (generated_sayings n salt) later (Refused why)
  first_refused s now b later why h more =
      let all : first n salt (k + 1) ++ map saying_of (drop (k + 1) (generated n salt)) ≡ generated_sayings n salt =
      sym (map-append saying_of (take (k + 1) (generated n salt)) (drop (k + 1) (generated n salt))) ∙ ap (map saying_of) (take-append-drop (k + 1) (generated n salt)) in
      subst (λ z. IsBatch s script.Inserts z later (Refused why)) all
      (refused_front s script.Inserts (first n salt (k + 1)) later why (map saying_of (drop (k + 1) (generated n salt))) (first_step s now b later (Refused why) h more))
