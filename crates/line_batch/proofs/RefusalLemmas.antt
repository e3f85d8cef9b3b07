-- Why lines are refused, line by line.
use Rattle.std.proofs.Common.{◌≡◌, ◌∙◌, ℕ, ◌+◌, List, [], ◌∷◌, ◌++◌, length, refl, sym, arith, append-nil, append_assoc}
use Rattle.std.specs.Prelude.{Option, Some, None}
use Rattle.std.specs.Option.{option_or}
use Rattle.rdf_model.specs.Terms.{Triple}
use Rattle.rdf_model.specs.Graph.{Graph}
use Rattle.script_model.specs.Commands.{Change}
use Rattle.run_model.specs.Answers.{Refusal}
use Rattle.run_model.specs.Sayings.{Saying, triples_said, triples_of, refusal_at, refusal_from}

or_none : (o : Option Refusal) → option_or o None ≡ o
or_none None = refl
or_none (Some r) = refl

module _ (change : Change) (most : ℕ) (G : Graph) where
  -- the first refusal of some lines is that of more lines
  pub refusal-front : (B : List Triple) (k : ℕ) (r : Refusal) (said more : List Saying) → refusal_from change most G B k said ≡ Some r → refusal_from change most G B k (said ++ more) ≡ Some r
  refusal-front B k r [] more e = absurd (let t : ⊥ = cc in t)
  refusal-front B k r (l ∷ said) more e =
      elim (refusal_at change most G B k l) as (λ o. option_or o (refusal_from change most G (B ++ triples_said l) (k + 1) said) ≡ Some r
      → option_or o (refusal_from change most G (B ++ triples_said l) (k + 1) (said ++ more)) ≡ Some r) [
        | Some q ↦ λ e. e
        | None ↦ λ e. refusal-front (B ++ triples_said l) (k + 1) r said more e
      ] e

  -- behind lines that can be carried out, the next one decides
  pub refusal-push : (B : List Triple) (k : ℕ) (said : List Saying) (l : Saying) → refusal_from change most G B k said ≡ None
      → refusal_from change most G B k (said ++ l ∷ []) ≡ refusal_at change most G (B ++ triples_of said) (k + length said) l
  refusal-push B k [] l e =
      or_none (refusal_at change most G B k l)
      ∙ (λ i. refusal_at change most G (sym (append-nil B) i) ((let s : k ≡ k + 0 = omega arith in s) i) l)
  refusal-push B k (m ∷ said) l e =
      elim (refusal_at change most G B k m) as (λ o. option_or o (refusal_from change most G (B ++ triples_said m) (k + 1) said) ≡ None
      → option_or o (refusal_from change most G (B ++ triples_said m) (k + 1) (said ++ l ∷ [])) ≡ refusal_at change most G (B ++ triples_of (m ∷ said)) (k + length (m ∷ said)) l) [
        | Some q ↦ λ e. absurd (let t : ⊥ = cc in t)
        | None ↦ λ e. refusal-push (B ++ triples_said m) (k + 1) said l e
            ∙ (λ i. refusal_at change most G (append_assoc B (triples_said m) (triples_of said) i) ((let s : (k + 1) + length said ≡ k + length (m ∷ said) = omega arith in s) i) l)
      ] e
