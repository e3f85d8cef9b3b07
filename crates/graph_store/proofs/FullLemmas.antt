-- When there is no place for a triple.
use Rattle.std.proofs.Common.{◌≡◌, ◌∙◌, ◌+◌, ◌<◌, ◌≤◌, ◌||◌, Bool, true, false, refl, sym, inl, inr, arith, if◌then◌else◌}
use Rattle.std.specs.FinSet as set
use Rattle.rdf_model.specs.Terms.{Triple}
use Rattle.rdf_model.specs.Graph.{Graph}
use Rattle.graph_store.specs.StoreState.{StoreState, graph}
use Rattle.graph_store.specs.Staging.{Staging, staged_graph, IsFull}
use Rattle.graph_store.proofs.TermsLemmas.{insert_member}

none_of_both : (a b : Bool) → (a || b) ≡ false → (a ≡ false) × (b ≡ false)
none_of_both true b e = absurd (let f : ⊥ = cc in f)
none_of_both false b e = (refl, e)

-- what is there already changes nothing
pub there_already : (G S : Graph) (t : Triple) → (set.contains G t || set.contains S t) ≡ true → S ≡ (if set.contains G t then S else set.insert S t)
there_already G S t e = by (set.contains G t) e where
  by : (a : Bool) → (a || set.contains S t) ≡ true → S ≡ (if a then S else set.insert S t)
  by true e = refl
  by false e = sym (insert_member S t e)

module _ (s : StoreState) (b : Staging) (t : Triple) where
  pub new_full : (set.contains (graph s) t || set.contains (staged_graph s b) t) ≡ false → s.max ≤ set.len (graph s) + set.len (staged_graph s b) → IsFull s b t
  new_full e most = let n = none_of_both (set.contains (graph s) t) (set.contains (staged_graph s b) t) e in inr (n.0, n.1, most)
