use Rattle.std.proofs.Common.{refl, is_some, ◌∙◌, ap, arith}
use Rattle.key_join.specs.Lists.{places_of, set_of, triples}
use Rattle.key_join.specs.ListLaws.{set_of-put, slice-empty, triples-long}
use Rattle.key_join.proofs.list.ListOpOperand.fix.Goals as goal

pub returns-in_err-nearest-clause-none : goal.returns-in_err-nearest-clause-none
returns-in_err-nearest-clause-none g c = (
  (λ _. slice-empty (triples c.args.self.list.now) (places_of c.args.self.fixed) c.args.mask.0 c.args.key.0 (triples-long c.args.self.list.now)
      (λ some. c.in_err-nearest.ensures.none refl c.args.key.0 (omega (arith, c.from.ensures)) some)),
  (λ _. ap is_some c.from_residual.ensures),
)

pub returns-then-nearest-key-clause-none : goal.returns-then-nearest-key-clause-none
returns-then-nearest-key-clause-none g c = (
  (λ _. slice-empty (triples c.args.self.list.now) (places_of c.args.self.fixed) c.args.mask.0 c.args.key.0 (triples-long c.args.self.list.now)
      (λ some.
      let from = c.in_ok-nearest.ensures.from in
      let other = c.if-nearest-key.true in
      c.in_ok-nearest.ensures.least c.args.key.0 (omega (arith, c.from.ensures)) (omega (arith, c.from.ensures, from, other)) some)),
  (λ _. refl),
)

pub returns-clause-some : goal.returns-clause-some
returns-clause-some g c =
    let es = triples c.args.self.list.now in
    let ps = places_of c.args.self.fixed in
    ap (set_of es) c.with.ensures ∙ set_of-put es ps c.args.mask.0 c.args.key.0 (triples-long c.args.self.list.now)
