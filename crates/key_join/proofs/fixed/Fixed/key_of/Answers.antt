use Rattle.std.proofs.Common.{◌≡◌, true, false, sym, ◌∙◌, ap}
use Rattle.trie_depth.specs.Tuples.{trip_tuple}
use Rattle.key_join.specs.Lists.{places_of, put, agrees}
use Rattle.key_join.specs.ListLaws.{key-within, key-same}
use Rattle.key_join.proofs.fixed.Fixed.key_of.Goals as goal

pub returns-then-agrees-clause-only : goal.returns-then-agrees-clause-only
returns-then-agrees-clause-only c k e =
    key-same c.args.self c.args.mask.0 c.args.t.0.0 k c.args.t c.requires.fits
    (ap (λ ps. agrees ps (trip_tuple c.args.t)) (sym c.with.ensures) ∙ sym c.agrees.ensures ∙ c.if-agrees.true) e

pub returns-then-agrees-2-clause-only : goal.returns-then-agrees-2-clause-only
returns-then-agrees-2-clause-only c k e =
    key-same c.args.self c.args.mask.0 c.args.t.1.0 k c.args.t c.requires.fits
    (ap (λ ps. agrees ps (trip_tuple c.args.t)) (sym c.with-2.ensures) ∙ sym c.agrees-2.ensures ∙ c.if-agrees-2.true) e

pub returns-then-agrees-3-clause-only : goal.returns-then-agrees-3-clause-only
returns-then-agrees-3-clause-only c k e =
    key-same c.args.self c.args.mask.0 c.args.t.2.0 k c.args.t c.requires.fits
    (ap (λ ps. agrees ps (trip_tuple c.args.t)) (sym c.with-3.ensures) ∙ sym c.agrees-3.ensures ∙ c.if-agrees-3.true) e

pub returns-clause-only : goal.returns-clause-only
returns-clause-only c k e =
    key-within (λ q. agrees (put c.args.mask.0 q (places_of c.args.self)) (trip_tuple c.args.t) ≡ true → ⊥) c.args.self c.args.mask.0 k c.args.t c.requires.fits
    (λ h. let t : false ≡ true = sym c.if-agrees.false ∙ c.agrees.ensures ∙ ap (λ ps. agrees ps (trip_tuple c.args.t)) c.with.ensures ∙ h in cc)
    (λ h. let t : false ≡ true = sym c.if-agrees-2.false ∙ c.agrees-2.ensures ∙ ap (λ ps. agrees ps (trip_tuple c.args.t)) c.with-2.ensures ∙ h in cc)
    (λ h. let t : false ≡ true = sym c.if-agrees-3.false ∙ c.agrees-3.ensures ∙ ap (λ ps. agrees ps (trip_tuple c.args.t)) c.with-3.ensures ∙ h in cc)
    e e
