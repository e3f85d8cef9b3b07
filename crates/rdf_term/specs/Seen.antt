-- Terms of the program as the terms of the definitions.
use Rattle.std.specs.Prelude.{Option, None, Some}
use Rattle.rdf_model.specs.Terms as model
use Rattle.rdf_term.specs.declared.term.Kind.{Kind}
use Rattle.rdf_term.specs.declared.term.Kind.TheVariants as kind
use Rattle.rdf_term.specs.declared.term.Term.{Term}
use Rattle.rdf_term.specs.declared.term.Term.TheVariants as term
use Rattle.rdf_term.specs.declared.term.KindRef.{KindRef}
use Rattle.rdf_term.specs.declared.term.KindRef.TheVariants as kind_ref
use Rattle.rdf_term.specs.declared.term.TermRef.{TermRef}
use Rattle.rdf_term.specs.declared.term.TermRef.TheVariants as term_ref
use Rattle.rdf_term.specs.declared.term.TripleRef.{TripleRef}

abbrev pub kind_of : Kind → model.Kind
kind_of (kind.Typed t) = model.Typed t
kind_of (kind.Tagged t) = model.Tagged t

abbrev pub term_of : Term → model.Term
term_of (term.Iri t) = model.Iri t
term_of (term.Blank t) = model.Blank t
term_of (term.Literal t k) = model.Literal t (kind_of k)

abbrev pub lent_kind : KindRef → model.Kind
lent_kind (kind_ref.Typed t) = model.Typed t.now
lent_kind (kind_ref.Tagged t) = model.Tagged t.now

abbrev pub lent_term : TermRef → model.Term
lent_term (term_ref.Iri t) = model.Iri t.now
lent_term (term_ref.Blank t) = model.Blank t.now
lent_term (term_ref.Literal t k) = model.Literal t.now (lent_kind k)

abbrev pub lent_triple : TripleRef → model.Triple
lent_triple t = record { s = lent_term t.s; p = lent_term t.p; o = lent_term t.o }

abbrev pub lent_triples : Option TripleRef → Option model.Triple
lent_triples None = None
lent_triples (Some t) = Some (lent_triple t)
