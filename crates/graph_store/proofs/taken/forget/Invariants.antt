use Rattle.std.proofs.Common.{take}
use Rattle.trie_view.specs.Subs.{sub_set}
use Rattle.graph_image.specs.Images.{IsUsed}
use Rattle.graph_view.specs.Read.{set_in}
use Rattle.graph_store.specs.Staging.{numbers}
use Rattle.graph_store.specs.Forgotten.{Forgets}
use Rattle.graph_store.proofs.taken.forget.Given as goal

abbrev pub invariant-loop-id : goal.invariant-loop-id
invariant-loop-id l = Forgets l.fn.dict l.dict (numbers (take l.id-index l.ids)) (IsUsed (set_in sub_set l.left))
