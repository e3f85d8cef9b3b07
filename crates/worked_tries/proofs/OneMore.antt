-- A graph that is ready for a triple, and ready again once it was put in.
use Rattle.std.specs.Prelude.{◌≡◌, ℕ, ◌<◌, ◌^◌, false, List, [], ◌∷◌, OnOk, Result, Ok, Err}
use Rattle.std.proofs.Common.{ap, arith}
use Rattle.std.specs.Cmp.{nat_cmp_total as total}
use Rattle.std.specs.FinMap.{nat_cmp-IsAntisymmetric as exact}
use Rattle.std.specs.FinSet as set
use Rattle.std.specs.Ordering.{nat_cmp}
use Rattle.hypertrie_model.specs.ChangeLaws.{len-grown}
use Rattle.hypertrie_model.specs.SetLaws.{len-single}
use Rattle.hypertrie_model.specs.Sets.{has, single}
use Rattle.trie_depth.specs.declared.id.Trip.{Trip}
use Rattle.trie_depth.specs.Tuples.{trip_tuple}
use Rattle.trie_context.specs.declared.root.Root.{Root}
use Rattle.trie_context.specs.declared.tables.Tables.{Tables}
use Rattle.trie_context.specs.Roots.{root_set, IsHeld}
use Rattle.trie_context.specs.RootShape.{OnlyRootHeld}
use Rattle.trie_change.specs.Rooms.{CountsUpTo}
use Rattle.trie_change.specs.declared.change.Change.TheVariants.{Grow}
use Rattle.trie_update.specs.Changed.{IsChanged}
use Rattle.worked_tries.specs.OneMore.{IsReady, HasGrown}
use Rattle.worked_tries.proofs.Alone.{alone_new}

-- what a call that puts the triple in says of it
pub has_grown :
    {T E : Type 0} (mixed : ℕ → ℕ → ℕ → ℕ → ℕ) (t u : Tables) (old new : Root) (triple : Trip) (r : Result T E) → OnlyRootHeld t old →
    OnOk r (IsChanged Grow mixed t u old new (triple ∷ [])) → OnOk r (HasGrown t u old new (trip_tuple triple))
has_grown mixed t u old new triple (Ok v) only now = record { set = now.set; only = λ d r. omega (arith, now.moved.holds d r, only d r); counts = now.counts }
has_grown mixed t u old new triple (Err e) only now = tt

module _ (t u : Tables) (old new : Root) (x : List ℕ) where
  pub ready_again : has (root_set t old) x ≡ false → CountsUpTo t (2 ^ 95) → set.len (root_set t old) < 536870911 → IsHeld u new → HasGrown t u old new x → IsReady u new
  ready_again fresh few small held grown = record {
    held = held;
    only = grown.only;
    counts = λ d r. omega (arith, few d r, grown.counts d r);
    size =
        let is = ap set.len grown.set in
        omega (arith, small, is, len-grown total exact (root_set t old) (single nat_cmp x) (alone_new (root_set t old) x fresh), len-single total exact x);
  }
