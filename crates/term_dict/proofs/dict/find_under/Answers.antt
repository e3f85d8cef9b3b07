use Rattle.std.proofs.Common.{◌<◌, refl, arith}
use Rattle.hash_index.specs.declared.entry.Entry.{Entry}
use Rattle.term_dict.proofs.dict.find_under.Goals as goal

pub returns-clause-none : goal.returns-clause-none
returns-clause-none c _ number listed at =
    let stands = c.near-entry-items.ensures.all number listed in
    let entry : Entry = record { hash = c.args.hash; number = number } in
    let below : stands.0 < c.loop-entry.entry-index = omega (arith, stands.1) in
    c.loop-entry.invariant stands.0 entry below stands.2 refl at
