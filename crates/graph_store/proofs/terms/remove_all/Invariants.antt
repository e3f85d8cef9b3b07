use Rattle.std.proofs.Common.{◌≡◌, take}
use Rattle.graph_image.specs.Images.{without}
use Rattle.graph_store.specs.Staging.{numbers}
use Rattle.graph_store.proofs.terms.remove_all.Given as goal

abbrev pub invariant-loop-id : goal.invariant-loop-id
invariant-loop-id l = l.dict ≡ without l.fn.dict (numbers (take l.id-index l.ids))
