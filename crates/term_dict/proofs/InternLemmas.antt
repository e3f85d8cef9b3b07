-- What `intern` leaves, for its callers.
use Rattle.std.proofs.Common.{◌≡◌, ◌≢◌, ◌⊎◌, ℕ, Some, None, sym, ap, ◌∙◌, inl, inr}
use Rattle.std.proofs.lemmas.Bool.{cases_eq}
use Rattle.std.specs.Cmp.{nat_cmp_total}
use Rattle.std.specs.FinMap as map
use Rattle.std.specs.FinMap.{nat_cmp-IsAntisymmetric}
use Rattle.hypertrie_model.specs.MapLaws as laws
use Rattle.rdf_model.specs.Terms.{Term}
use Rattle.term_dict.specs.Dict.{Terms, Interns}

-- the Id has the term
pub Interns-get : (old new : Terms) (term : Term) (id : ℕ) → Interns old new term id → map.get new id ≡ Some term
Interns-get old new term id (inl was) = ap (λ (m : Terms). map.get m id) was.1 ∙ was.0
Interns-get old new term id (inr made) = ap (λ (m : Terms). map.get m id) made.2 ∙ laws.get-insert_here nat_cmp_total nat_cmp-IsAntisymmetric old id term

-- each other Id has what it had
pub Interns-other : (old new : Terms) (term : Term) (id other : ℕ) → Interns old new term id → other ≢ id → map.get new other ≡ map.get old other
Interns-other old new term id other (inl was) ne = ap (λ (m : Terms). map.get m other) was.1
Interns-other old new term id other (inr made) ne = ap (λ (m : Terms). map.get m other) made.2 ∙ laws.get-insert_other nat_cmp_total nat_cmp-IsAntisymmetric old id term other ne

-- a term that was there keeps its Id
pub Interns-kept : (old new : Terms) (term : Term) (id other : ℕ) (t : Term) → Interns old new term id → map.get old other ≡ Some t → map.get new other ≡ Some t
Interns-kept old new term id other t (inl was) at = ap (λ (m : Terms). map.get m other) was.1 ∙ at
Interns-kept old new term id other t (inr made) at =
    let apart : other ≢ id = λ (is : other ≡ id). let e : Some t ≡ None = sym at ∙ ap (map.get old) is ∙ made.1 in cc in
    ap (λ (m : Terms). map.get m other) made.2 ∙ laws.get-insert_other nat_cmp_total nat_cmp-IsAntisymmetric old id term other apart ∙ at

-- no term but this one came
pub Interns-only : (old new : Terms) (term : Term) (id other : ℕ) (t : Term) → Interns old new term id → map.get new other ≡ Some t → (map.get old other ≡ Some t) ⊎ (t ≡ term)
Interns-only old new term id other t interns at =
    elim (cases_eq other id) [
      | inl is ↦ let e : Some t ≡ Some term = sym at ∙ ap (map.get new) is ∙ Interns-get old new term id interns in inr (cc)
      | inr ne ↦ inl (sym (Interns-other old new term id other interns ne) ∙ at)
    ]
