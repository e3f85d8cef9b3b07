use Rattle.std.proofs.Common.{◌≡◌, sym, subst}
use Rattle.std.specs.Prelude.{false}
use Rattle.hypertrie_model.specs.Sets.{has}
use Rattle.trie_depth.specs.Tuples.{trip_tuple}
use Rattle.worked_tries.specs.Alone.{IsAlone}
use Rattle.worked_tries.proofs.Stars.{across_new, across_alone}
use Rattle.worked_tries.proofs.retained.grow_across.Goals as goal

pub grow_alone-requires-clause-new : goal.grow_alone-requires-clause-new
grow_alone-requires-clause-new g c =
    let s = c.requires.star in
    let x = c.args.across in
    subst (λ H. has H (trip_tuple x) ≡ false) (sym s.2.is) (across_new x.0.0 x.1.0 s.0 s.1 x.2.0 s.2.star s.2.is_star)

pub grow_alone-requires-clause-alone : goal.grow_alone-requires-clause-alone
grow_alone-requires-clause-alone g c =
    let s = c.requires.star in
    let x = c.args.across in
    subst (λ H. IsAlone H (trip_tuple x)) (sym s.2.is) (across_alone x.0.0 x.1.0 s.0 s.1 x.2.0 s.2.star s.2.is_star)
