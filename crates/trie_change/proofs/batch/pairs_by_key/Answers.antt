use Rattle.std.proofs.Common.{◌≡◌, ℕ, zero, suc, ◌+◌, ◌<◌, [], ◌∷◌, map, get_or, ◌∙◌, ap, subst, refl, IsPermutation, arith}
use Rattle.std.proofs.lemmas.List.{take_all}
use Rattle.std.specs.Ordering.{nat_cmp, is_lt, ordering_then}
use Rattle.trie_depth.specs.declared.id.Trip.{Trip}
use Rattle.trie_depth.specs.Tuples.{pair_tuple}
use Rattle.hypertrie_model.specs.Listings.{to_front}
use Rattle.trie_change.specs.Batches.{trip_rest, pair_in_front}
use Rattle.trie_change.proofs.BatchLemmas.{NeverFalls, then-equal, turned_slice, turned_order}
use Rattle.trie_change.proofs.batch.pairs_by_key.Goals as goal
use Rattle.trie_change.proofs.batch.pairs_by_key.Goals.{After-sort_unstable}

front_tuple : (i : ℕ) → i < 2 → (t : Trip) → pair_tuple (pair_in_front i t) ≡ to_front i (trip_rest t)
front_tuple zero h t = refl
front_tuple (suc zero) h t = refl
front_tuple (suc (suc i)) h t = absurd (omega arith)

front_names : (i : ℕ) → i < 2 → (t u : Trip) → pair_tuple (pair_in_front i t) ≡ pair_tuple (pair_in_front i u) → trip_rest t ≡ trip_rest u
front_names zero h t u is = is
front_names (suc i) h t u is = ap (λ xs. get_or xs 1 0 ∷ get_or xs 0 0 ∷ []) is

moved : (c : After-sort_unstable) → IsPermutation (map (pair_in_front c.args.position) c.args.run.now) c.sort_unstable.new.self.items
moved c = subst (λ xs. IsPermutation xs c.sort_unstable.new.self.items) (c.loop-triple.invariant ∙ ap (map (pair_in_front c.args.position)) (take_all _ c.args.run.now c.loop-triple-test.false)) c.sort_unstable.ensures.permutation

up : (c : After-sort_unstable) → NeverFalls pair_tuple c.sort_unstable.new.self.items
up c k d h =
    let x = get_or c.sort_unstable.new.self.items (k + 1) d in
    let y = get_or c.sort_unstable.new.self.items k d in
    ap (λ r. is_lt (ordering_then (nat_cmp x.0.0 y.0.0) r)) (then-equal (nat_cmp x.1.0 y.1.0)) ∙ c.sort_unstable.ensures.sorted k d (omega arith) h

pub returns-clause-sorted : goal.returns-clause-sorted
returns-clause-sorted c =
    turned_order trip_rest pair_tuple (pair_in_front c.args.position) c.args.position (front_tuple c.args.position c.requires.position) (λ t. c.requires.position)
    c.args.run.now c.sort_unstable.new.self.items (moved c) (front_names c.args.position c.requires.position) c.requires.once (up c)

pub returns-clause-slices : goal.returns-clause-slices
returns-clause-slices c =
    turned_slice trip_rest pair_tuple (pair_in_front c.args.position) c.args.position (front_tuple c.args.position c.requires.position) (λ t. c.requires.position)
    c.args.run.now c.sort_unstable.new.self.items (moved c)
