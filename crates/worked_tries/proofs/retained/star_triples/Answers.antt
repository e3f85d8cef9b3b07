use Rattle.std.proofs.Common.{◌≡◌, ◌+◌, ◌-◌, ◌++◌, sym, subst, arith}
use Rattle.worked_tries.specs.Star.{rays}
use Rattle.worked_tries.proofs.Rays.{rays_pushed, rays_all}
use Rattle.worked_tries.proofs.retained.star_triples.Goals as goal

pub loop-n-preserved : goal.loop-n-preserved
loop-n-preserved c =
    let n = c.loop-n.n in
    let m = c.args.objects in
    subst (λ xs. xs ++ rays (5 + (n + 1)) (m - (n + 1)) ≡ rays 5 m) (sym c.in_ok-push.ensures.items) (rays_pushed c.loop-n.triples.items n m (omega arith) c.loop-n.invariant)

pub returns : goal.returns
returns c = rays_all c.loop-n.triples.items c.loop-n.n c.args.objects c.loop-n-test.false c.loop-n.invariant
