use Rattle.std.proofs.Common.{◌≡◌, ◌<◌, ◌^◌, ◌++◌, ◌∷◌, [], IfOk, true, ap, length, length-append, sym, subst, arith, rules}
use Rattle.std.specs.Ordering.{nat_cmp}
use Rattle.std.specs.Cmp.Lexicographic.{slice_cmp}
use Rattle.std.specs.FinSet as set
use Rattle.hypertrie_model.specs.Changes.{after, IsChange}
use Rattle.hypertrie_model.specs.Sets.{empty, single}
use Rattle.trie_depth.specs.Tuples.{trip_tuple}
use Rattle.trie_context.specs.Roots.{root_set}
use Rattle.trie_change.specs.Batches.{set_of_entries}
use Rattle.trie_change.specs.Changes.{grows}
use Rattle.trie_change.proofs.RootLemmas.{len-after_le, new_to_empty, grown_one, all_once, shrunk_none, shrunk_all}
use Rattle.trie_change.proofs.graph.change_one.Goals as goal

pub change_root-requires-clause-batch : goal.change_root-requires-clause-batch
change_root-requires-clause-batch g c =
    record {
      there = tt;
      once = let is : c.deref.result.now ≡ c.args.batch.now ++ c.args.triple ∷ [] = search rules in
          let new = subst (λ h. IsChange (grows h) (single nat_cmp (trip_tuple c.args.triple)) (set_of_entries trip_tuple c.args.batch.now)) c.in-Grow.is c.requires.change in
          all_once c.args.batch.now c.args.triple c.deref.result.now is c.requires.once new;
      change = subst (λ h. IsChange (grows h) (empty nat_cmp) (set_of_entries trip_tuple c.deref.result.now)) (sym c.in-Grow.is) (new_to_empty (set_of_entries trip_tuple c.deref.result.now));
      size = let is : c.deref.result.now ≡ c.args.batch.now ++ c.args.triple ∷ [] = search rules in
          let new = subst (λ h. IsChange (grows h) (single nat_cmp (trip_tuple c.args.triple)) (set_of_entries trip_tuple c.args.batch.now)) c.in-Grow.is c.requires.change in
          subst (λ h. set.len (after (grows h) (empty nat_cmp) (set_of_entries trip_tuple c.deref.result.now)) < 2 ^ 64) (sym c.in-Grow.is)
          (omega (arith, len-after_le true (empty nat_cmp) (set_of_entries trip_tuple c.deref.result.now) (new_to_empty (set_of_entries trip_tuple c.deref.result.now)), set.len-empty (slice_cmp nat_cmp), all_once c.args.batch.now c.args.triple c.deref.result.now is c.requires.once new, c.deref.type_inv.0));
    }

pub returns-in-Shrink-clause-set : goal.returns-in-Shrink-clause-set
returns-in-Shrink-clause-set g c =
    subst (λ h. single nat_cmp (trip_tuple c.args.triple) ≡ after (grows h) (single nat_cmp (trip_tuple c.args.triple)) (set_of_entries trip_tuple c.args.batch.now)) (sym c.in-Shrink.is)
    (sym (shrunk_none c.args.batch.now c.args.triple (search rules)))

pub returns-in-Shrink-2-clause-set : goal.returns-in-Shrink-2-clause-set
returns-in-Shrink-2-clause-set g c =
    let there = subst (λ h. IsChange (grows h) (single nat_cmp (trip_tuple c.args.triple)) (set_of_entries trip_tuple c.args.batch.now)) c.in-Shrink.is c.requires.change in
    subst (λ h. empty nat_cmp ≡ after (grows h) (single nat_cmp (trip_tuple c.args.triple)) (set_of_entries trip_tuple c.args.batch.now)) (sym c.in-Shrink.is)
    (sym (shrunk_all c.args.batch.now c.args.triple (search rules) c.requires.once there))

pub returns-in_ok-push-in-Grow-clause-set : goal.returns-in_ok-push-in-Grow-clause-set
returns-in_ok-push-in-Grow-clause-set g c =
    let is : c.deref.result.now ≡ c.args.batch.now ++ c.args.triple ∷ [] = search rules in
    subst (λ S. IfOk c.change_root.result (λ root. root_set c.change_root.new.context root ≡ S))
    (subst (λ h. after (grows h) (empty nat_cmp) (set_of_entries trip_tuple c.deref.result.now) ≡ after (grows h) (single nat_cmp (trip_tuple c.args.triple)) (set_of_entries trip_tuple c.args.batch.now)) (sym c.in-Grow.is)
    (grown_one c.args.batch.now c.args.triple c.deref.result.now is))
    c.change_root.ensures.set

pub returns-in_ok-push-in-Grow-clause-retained : goal.returns-in_ok-push-in-Grow-clause-retained
returns-in_ok-push-in-Grow-clause-retained g c =
    let is : c.deref.result.now ≡ c.args.batch.now ++ c.args.triple ∷ [] = search rules in
    omega (arith, c.change_root.ensures.retained, set.len-empty (slice_cmp nat_cmp), ap length is, length-append c.args.batch.now (c.args.triple ∷ []))
