use Rattle.std.proofs.Common.{arith}
use Rattle.rdf_term.specs.Seen.{lent_term}
use Rattle.graph_image.specs.DictLaws.{Extends, interns_at, interns_exactly, interns_extends}
use Rattle.graph_store.specs.Noted.{Notes}
use Rattle.graph_store.proofs.NotedLemmas.{grows_same, grows_on, notes_grows, notes_few, notes_interns}
use Rattle.graph_store.proofs.terms.intern_each.Goals as goal

pub returns-in_err-s-clause-grows : goal.returns-in_err-s-clause-grows
returns-in_err-s-clause-grows c = grows_same c.args.dict.now c.intern_noted.new.dict c.args.noted.now.items c.intern_noted.new.noted.items c.in_err-s.ensures.dict c.in_err-s.ensures.noted

pub intern_noted-requires-2 : goal.intern_noted-requires-2
intern_noted-requires-2 c =
    let few = notes_few c.args.dict.now c.intern_noted.new.dict c.args.noted.now.items c.intern_noted.new.noted.items (lent_term c.args.triple.s) c.in_ok-s.s c.in_ok-s.ensures.ok in
    record { room = omega (arith, few, c.requires.room) }

pub returns-in_err-p-clause-grows : goal.returns-in_err-p-clause-grows
returns-in_err-p-clause-grows c =
    let d = c.args.dict.now in
    let n = c.args.noted.now.items in
    let e = c.intern_noted.new.dict in
    let m = c.intern_noted.new.noted.items in
    grows_on d e c.intern_noted-2.new.dict n m c.intern_noted-2.new.noted.items
    (notes_grows d e n m (lent_term c.args.triple.s) c.in_ok-s.s c.in_ok-s.ensures.ok)
    (grows_same e c.intern_noted-2.new.dict m c.intern_noted-2.new.noted.items c.in_err-p.ensures.dict c.in_err-p.ensures.noted)

pub intern_noted-requires-3 : goal.intern_noted-requires-3
intern_noted-requires-3 c =
    let few = notes_few c.args.dict.now c.intern_noted.new.dict c.args.noted.now.items c.intern_noted.new.noted.items (lent_term c.args.triple.s) c.in_ok-s.s c.in_ok-s.ensures.ok in
    let more = notes_few c.intern_noted.new.dict c.intern_noted-2.new.dict c.intern_noted.new.noted.items c.intern_noted-2.new.noted.items (lent_term c.args.triple.p) c.in_ok-p.p c.in_ok-p.ensures.ok in
    record { room = omega (arith, few, more, c.requires.room) }

pub returns-in_err-o-clause-grows : goal.returns-in_err-o-clause-grows
returns-in_err-o-clause-grows c =
    let d = c.args.dict.now in
    let n = c.args.noted.now.items in
    let e = c.intern_noted.new.dict in
    let m = c.intern_noted.new.noted.items in
    let f = c.intern_noted-2.new.dict in
    let l = c.intern_noted-2.new.noted.items in
    grows_on d f c.intern_noted-3.new.dict n l c.intern_noted-3.new.noted.items
    (grows_on d e f n m l (notes_grows d e n m (lent_term c.args.triple.s) c.in_ok-s.s c.in_ok-s.ensures.ok) (notes_grows e f m l (lent_term c.args.triple.p) c.in_ok-p.p c.in_ok-p.ensures.ok))
    (grows_same f c.intern_noted-3.new.dict l c.intern_noted-3.new.noted.items c.in_err-o.ensures.dict c.in_err-o.ensures.noted)

first : (c : goal.In_ok-o) → Notes c.args.dict.now c.args.noted.now.items c.intern_noted.new.dict c.intern_noted.new.noted.items (lent_term c.args.triple.s) c.in_ok-s.s
first c = c.in_ok-s.ensures.ok

second : (c : goal.In_ok-o) → Notes c.intern_noted.new.dict c.intern_noted.new.noted.items c.intern_noted-2.new.dict c.intern_noted-2.new.noted.items (lent_term c.args.triple.p) c.in_ok-p.p
second c = c.in_ok-p.ensures.ok

third : (c : goal.In_ok-o) → Notes c.intern_noted-2.new.dict c.intern_noted-2.new.noted.items c.intern_noted-3.new.dict c.intern_noted-3.new.noted.items (lent_term c.args.triple.o) c.in_ok-o.o
third c = c.in_ok-o.ensures.ok

pub returns-clause-ids : goal.returns-clause-ids
returns-clause-ids c =
    let d = c.args.dict.now in
    let e = c.intern_noted.new.dict in
    let f = c.intern_noted-2.new.dict in
    let g = c.intern_noted-3.new.dict in
    let one = notes_interns d e _ _ (lent_term c.args.triple.s) c.in_ok-s.s (first c) in
    let two = notes_interns e f _ _ (lent_term c.args.triple.p) c.in_ok-p.p (second c) in
    let three = notes_interns f g _ _ (lent_term c.args.triple.o) c.in_ok-o.o (third c) in
    let last : Extends f g = interns_extends f g (lent_term c.args.triple.o) c.in_ok-o.o.0 three in
    record {
      s = last c.in_ok-s.s.0 (lent_term c.args.triple.s) (interns_extends e f (lent_term c.args.triple.p) c.in_ok-p.p.0 two c.in_ok-s.s.0 (lent_term c.args.triple.s) (interns_at d e (lent_term c.args.triple.s) c.in_ok-s.s.0 one));
      p = last c.in_ok-p.p.0 (lent_term c.args.triple.p) (interns_at e f (lent_term c.args.triple.p) c.in_ok-p.p.0 two);
      o = interns_at f g (lent_term c.args.triple.o) c.in_ok-o.o.0 three;
    }

pub returns-clause-terms : goal.returns-clause-terms
returns-clause-terms c S h =
    let d = c.args.dict.now in
    let e = c.intern_noted.new.dict in
    let f = c.intern_noted-2.new.dict in
    let g = c.intern_noted-3.new.dict in
    interns_exactly f g (lent_term c.args.triple.o) c.in_ok-o.o.0 _ (notes_interns f g _ _ (lent_term c.args.triple.o) c.in_ok-o.o (third c))
    (interns_exactly e f (lent_term c.args.triple.p) c.in_ok-p.p.0 _ (notes_interns e f _ _ (lent_term c.args.triple.p) c.in_ok-p.p (second c))
    (interns_exactly d e (lent_term c.args.triple.s) c.in_ok-s.s.0 S (notes_interns d e _ _ (lent_term c.args.triple.s) c.in_ok-s.s (first c)) h))

pub returns-clause-grows : goal.returns-clause-grows
returns-clause-grows c =
    let d = c.args.dict.now in
    let n = c.args.noted.now.items in
    let e = c.intern_noted.new.dict in
    let m = c.intern_noted.new.noted.items in
    let f = c.intern_noted-2.new.dict in
    let l = c.intern_noted-2.new.noted.items in
    grows_on d f c.intern_noted-3.new.dict n l c.intern_noted-3.new.noted.items
    (grows_on d e f n m l (notes_grows d e n m (lent_term c.args.triple.s) c.in_ok-s.s (first c)) (notes_grows e f m l (lent_term c.args.triple.p) c.in_ok-p.p (second c)))
    (notes_grows f c.intern_noted-3.new.dict l c.intern_noted-3.new.noted.items (lent_term c.args.triple.o) c.in_ok-o.o (third c))
