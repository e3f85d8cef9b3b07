use Rattle.std.proofs.Common.{◌≡◌, ◌∙◌, ◌∷◌, [], ap, refl}
use Rattle.std.specs.Prelude.{Some}
use Rattle.generated_model.specs.Generated.{node_text, property_text, subject_at, predicate_at, object_at}
use Rattle.generated_triples.proofs.NameLemmas.{named_triple, triple_at}
use Rattle.generated_triples.proofs.generated_triple.Goals as goal

pub returns : goal.returns
returns c =
    let s = subject_at c.args.n c.args.salt c.args.k in
    let p = predicate_at c.args.k in
    let o = object_at c.args.n c.args.salt c.args.k in
    let texts : c.add_name-3.new.to ≡ node_text s ∷ property_text p ∷ node_text o ∷ [] =
    rw (c.add_name-3.ensures.text, c.add_name-2.ensures.text, c.add_name.ensures.text, c.clear.ensures, c.names_of-numbers.ensures.s, c.names_of-numbers.ensures.p, c.names_of-numbers.ensures.o) refl in
    triple_at c.args.n c.args.salt c.args.k c.requires.within ∙ ap Some (named_triple _ s p o _ _ _ texts c.text.ensures c.text-2.ensures c.text-3.ensures)
