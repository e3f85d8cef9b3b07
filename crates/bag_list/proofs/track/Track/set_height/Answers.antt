use Rattle.std.proofs.Common.{zero, suc, refl, arith}
use Rattle.bag_list.proofs.CountedLemmas.{n-parts}
use Rattle.bag_list.proofs.track.Track.set_height.Goals as goal

pub index_mut-requires : goal.index_mut-requires
index_mut-requires g c =
    let n = n-parts c.args.self.now in
    let is = c.args.self.now.heights.ok.0 in
    let within = c.requires in
    omega (arith, n, is, within)

pub returns-clause-slots : goal.returns-clause-slots
returns-clause-slots g c zero = refl
returns-clause-slots g c (suc zero) = refl
returns-clause-slots g c (suc (suc zero)) = refl
returns-clause-slots g c (suc (suc (suc h))) = refl
