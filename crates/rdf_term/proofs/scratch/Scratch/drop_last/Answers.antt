use Rattle.std.proofs.Common.{◌≤◌, ◌-◌, length, take, arith}
use Rattle.std.proofs.lemmas.List.{take-take}
use Rattle.std.proofs.lemmas.List.Sums.{sum_by-take-le}
use Rattle.rdf_term.proofs.scratch.Scratch.drop_last.Goals as goal

pub invariant_of-self : goal.invariant_of-self
invariant_of-self c =
    let within : c.self.inside.used - 1 ≤ c.self.inside.used = omega arith in
    let less = sum_by-take-le length (take c.self.inside.used c.self.inside.slots.items) (c.self.inside.used - 1) in
    let same = take-take (c.self.inside.used - 1) c.self.inside.used c.self.inside.slots.items within in
    (c.self.invariant.0, omega arith, omega (arith, rw same at less))
