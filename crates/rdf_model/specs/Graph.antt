-- Graphs as finite sets of triples. The order only serves to make equal sets equal.
use Rattle.std.specs.Prelude.{◌≡◌, ℕ, zero, suc, List, [], refl}
use Rattle.std.proofs.Common.{ap, sym, ◌∙◌}
use Rattle.std.specs.declared.cmp.Ordering.{Ordering}
use Rattle.std.specs.Ordering.{nat_cmp, ordering_then}
use Rattle.std.specs.Cmp.{IsTotalOrder, on_total, nat_cmp_total, then_total}
use Rattle.std.specs.Cmp.Lexicographic.{slice_cmp, nat_list_cmp_total}
use Rattle.std.specs.Coded.{Coded, code_by, coded×, coded_ℕ, coded_list}
use Rattle.std.proofs.lemmas.Map.Lookups.{CmpEqualImpliesEq, exact_unsigned, exact_bytes, exact_pairs}
use Rattle.std.specs.FinSet as set
use Rattle.rdf_model.specs.Terms.{Text, Typed, Tagged, Term, Iri, Blank, Literal, Triple}

-- a term by its kind, its text, and what else a literal has
abbrev pub Parts : Type 0
Parts = ℕ × (Text × (ℕ × Text))

abbrev pub parts_of : Term → Parts
parts_of (Iri text) = (0, (text, (0, [])))
parts_of (Blank label) = (1, (label, (0, [])))
parts_of (Literal form (Typed datatype)) = (2, (form, (0, datatype)))
parts_of (Literal form (Tagged tag)) = (2, (form, (1, tag)))

abbrev pub term_of_parts : ℕ → Text → ℕ → Text → Term
term_of_parts zero t k u = Iri t
term_of_parts (suc zero) t k u = Blank t
term_of_parts (suc (suc n)) t zero u = Literal t (Typed u)
term_of_parts (suc (suc n)) t (suc k) u = Literal t (Tagged u)

-- back from the parts
abbrev pub term_from : Parts → Term
term_from p = term_of_parts p.0 p.1.0 p.1.1.0 p.1.1.1

pub same_term : (t : Term) → term_from (parts_of t) ≡ t
same_term (Iri text) = refl
same_term (Blank label) = refl
same_term (Literal form (Typed datatype)) = refl
same_term (Literal form (Tagged tag)) = refl

abbrev pub parts_cmp : Parts → Parts → Ordering
parts_cmp a b = ordering_then (nat_cmp a.0 b.0) (ordering_then (slice_cmp nat_cmp a.1.0 b.1.0) (ordering_then (nat_cmp a.1.1.0 b.1.1.0) (slice_cmp nat_cmp a.1.1.1 b.1.1.1)))

-- by kind, and then by the texts' bytes
abbrev pub term_cmp : Term → Term → Ordering
term_cmp a b = parts_cmp (parts_of a) (parts_of b)

abbrev pub triple_cmp : Triple → Triple → Ordering
triple_cmp a b = ordering_then (term_cmp a.s b.s) (ordering_then (term_cmp a.p b.p) (term_cmp a.o b.o))

abbrev pub coded_text : Coded Text
coded_text = coded_list coded_ℕ

abbrev pub coded_term : Coded Term
coded_term = code_by Parts (coded× coded_ℕ (coded× coded_text (coded× coded_ℕ coded_text))) parts_of term_from same_term

abbrev pub coded_triple : Coded Triple
coded_triple = code_by (Term × (Term × Term)) (coded× coded_term (coded× coded_term coded_term)) (λ t. (t.s, (t.p, t.o))) (λ p. record { s = p.0; p = p.1.0; o = p.1.1 }) (λ _. refl)

abbrev pub Graph : Type 0
Graph = set.FinSet triple_cmp

exact_parts : CmpEqualImpliesEq parts_cmp
exact_parts = exact_pairs nat_cmp _ exact_unsigned (exact_pairs (slice_cmp nat_cmp) _ exact_bytes (exact_pairs nat_cmp (slice_cmp nat_cmp) exact_unsigned exact_bytes))

pub exact_terms : CmpEqualImpliesEq term_cmp
exact_terms a b h = sym (same_term a) ∙ ap term_from (exact_parts (parts_of a) (parts_of b) h) ∙ same_term b

pub exact_triples : CmpEqualImpliesEq triple_cmp
exact_triples a b h =
    ap (λ (p : Term × (Term × Term)). record { s = p.0; p = p.1.0; o = p.1.1 })
    (exact_pairs term_cmp _ exact_terms (exact_pairs term_cmp term_cmp exact_terms exact_terms) (a.s, (a.p, a.o)) (b.s, (b.p, b.o)) h)

pub parts_total : IsTotalOrder parts_cmp
parts_total = then_total (on_total (λ (p : Parts). p.0) nat_cmp_total)
    (then_total (on_total (λ (p : Parts). p.1.0) nat_list_cmp_total)
    (then_total (on_total (λ (p : Parts). p.1.1.0) nat_cmp_total) (on_total (λ (p : Parts). p.1.1.1) nat_list_cmp_total)))

pub terms_total : IsTotalOrder term_cmp
terms_total = on_total parts_of parts_total

pub triples_total : IsTotalOrder triple_cmp
triples_total = then_total (on_total (λ (t : Triple). t.s) terms_total) (then_total (on_total (λ (t : Triple). t.p) terms_total) (on_total (λ (t : Triple). t.o) terms_total))

-- G with the triples of a list added
abbrev pub with_all : Graph → List Triple → Graph
with_all G B = set.union G (set.from_list B)

-- how many triples of the list G lacks, each counted once
abbrev pub added : Graph → List Triple → ℕ
added G B = set.len (set.difference (set.from_list B) G)

-- G without the triples of a list
abbrev pub without_all : Graph → List Triple → Graph
without_all G B = set.difference G (set.from_list B)

-- how many triples of the list G has, each counted once
abbrev pub gone : Graph → List Triple → ℕ
gone G B = set.len (set.intersection (set.from_list B) G)
