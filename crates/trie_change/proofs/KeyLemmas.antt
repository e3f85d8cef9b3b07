-- Keys under themselves, and what changes make of them.
use Rattle.std.proofs.Common.{◌≡◌, ℕ, suc, ◌<◌, ◌&&◌, ◌||◌, not, Bool, true, false, cond, List, [], ◌∷◌, map as each, sym, ◌∙◌, ap, subst, refl, None, Some, IfOk, Result, Ok, Err, arith}
use Rattle.std.proofs.lemmas.Cmp.{ranked}
use Rattle.std.proofs.lemmas.Map.Keys.{sorted_head, sorted_tail}
use Rattle.std.specs.List.{AllByRecursion, list_any}
use Rattle.std.specs.Ordering.{nat_cmp, eq_by_cmp, ordering_then}
use Rattle.std.specs.declared.cmp.Ordering.TheVariants.{Less, Equal, Greater}
use Rattle.std.specs.Cmp.{nat_cmp_total as total}
use Rattle.std.specs.Cmp.Lexicographic.{slice_cmp}
use Rattle.std.specs.FinMap as map
use Rattle.std.specs.FinMap.{nat_cmp-IsAntisymmetric as exact}
use Rattle.std.specs.FinSet as set
use Rattle.hypertrie_model.specs.IdSets.{IdSet}
use Rattle.hypertrie_model.specs.Sets.{has, empty, single}
use Rattle.hypertrie_model.specs.SetLaws.{has-single, or-false}
use Rattle.hypertrie_model.specs.MapLaws.{by_key}
use Rattle.hypertrie_model.specs.UnionLaws.{tied-cons}
use Rattle.hypertrie_model.specs.Changes.{after}
use Rattle.hypertrie_model.specs.ChangeLaws.{has-after_in, has-after_out}
use Rattle.hypertrie_model.specs.Listings.{has-set_of}
use Rattle.trie_depth.specs.declared.id.Id.{Id}
use Rattle.trie_depth.specs.declared.id.Pair.{Pair}
use Rattle.trie_depth.specs.declared.memory.Memory.{Memory}
use Rattle.edge_map.specs.declared.edge.Edge.TheVariants.{Key}
use Rattle.edge_map.specs.Edges.{Edges, changed}
use Rattle.edge_map.specs.Entries.{RiseFrom, KeysRise}
use Rattle.trie_change.specs.declared.change.Change.{Change}
use Rattle.trie_change.specs.declared.change.Change.TheVariants.{Grow, Shrink}
use Rattle.trie_change.specs.Batches.{set_of_entries, AreInOrder, pair_rest}
use Rattle.trie_change.specs.Changes.{grows, key_change}
use Rattle.trie_change.specs.Rooms.{AreKeys}

-- what holds of the map that was to be made holds of the one that was made
pub on_ok : (r : Result Edges Memory) (n : Edges) (P : Edges → Type 0) → IfOk r (λ m. m ≡ n) → P n → IfOk r P
on_ok (Ok m) n P is p = subst P (sym is) p
on_ok (Err e) n P is p = tt

-- ---- the changes rise

key_of_change : (change : Change) (p : Pair) → (key_change change p).0.0 ≡ p.1.0
key_of_change Grow p = refl
key_of_change Shrink p = refl

below_of : (a b : ℕ) → ordering_then (nat_cmp a b) Equal ≡ Less → a < b
below_of a b lt = elim (nat_cmp a b) as (λ r. r ≡ nat_cmp a b → ordering_then r Equal ≡ Less → a < b) [
  | Less ↦ λ is _. ranked a b Less is
  | Equal ↦ λ _ e. absurd (let f : ⊥ = cc in f)
  | Greater ↦ λ _ e. absurd (let f : ⊥ = cc in f)
] refl lt

module _ (change : Change) where
  rise_from : (low : ℕ) (run : List Pair) → AllByRecursion (λ t. slice_cmp nat_cmp (low ∷ []) t ≡ Less) (each pair_rest run) → AreInOrder pair_rest run → RiseFrom (suc low) (each (key_change change) run)
  rise_from low [] above order = tt
  rise_from low (p ∷ run) above order =
      let is = key_of_change change p in (
        omega (arith, below_of low p.1.0 above.0),
        subst (λ n. RiseFrom (suc n) (each (key_change change) run)) (sym is) (rise_from p.1.0 run (sorted_head (slice_cmp nat_cmp) (pair_rest p) (each pair_rest run) order) (sorted_tail (slice_cmp nat_cmp) (pair_rest p) (each pair_rest run) order)),
      )

  pub changes_rise : (run : List Pair) → AreInOrder pair_rest run → KeysRise (each (key_change change) run)
  changes_rise [] order = tt
  changes_rise (p ∷ run) order =
      (omega arith, subst (λ n. RiseFrom (suc n) (each (key_change change) run)) (sym (key_of_change change p)) (rise_from p.1.0 run (sorted_head (slice_cmp nat_cmp) (pair_rest p) (each pair_rest run) order) (sorted_tail (slice_cmp nat_cmp) (pair_rest p) (each pair_rest run) order)))

-- ---- keys under themselves

-- each key that passes the test under itself
abbrev Passes : (ℕ → Bool) → Edges → Type 0
Passes f m = (k : ℕ) → map.get m k ≡ cond (f k) (Some (Key (record { 0 = k }))) None

passes_as : (f g : ℕ → Bool) (m : Edges) → ((k : ℕ) → f k ≡ g k) → Passes f m → Passes g m
passes_as f g m same are k = are k ∙ ap (λ b. cond b (Some (Key (record { 0 = k }))) None) (same k)

is_key : ℕ → Id → Bool
is_key k x = eq_by_cmp nat_cmp k x.0

passes_put : (f : ℕ → Bool) (m : Edges) (x : Id) → Passes f m → Passes (λ k. is_key k x || f k) (map.insert m x.0 (Key x))
unfolding is_key
passes_put f m x are k =
    map.get-insert total m x.0 (Key x) k
    ∙ by_key total exact (λ b. cond b (Some (Key x)) (map.get m k) ≡ cond (b || f k) (Some (Key (record { 0 = k }))) None) k x.0
    (λ is. ap (λ n. Some (Key (record { 0 = n }))) (sym is))
    (λ _. are k)

passes_taken : (f : ℕ → Bool) (m : Edges) (x : Id) → Passes f m → Passes (λ k. not (is_key k x) && f k) (map.remove m x.0)
unfolding is_key
passes_taken f m x are k =
    map.get-remove total m x.0 k
    ∙ by_key total exact (λ b. cond b None (map.get m k) ≡ cond (not b && f k) (Some (Key (record { 0 = k }))) None) k x.0
    (λ _. refl)
    (λ _. are k)

named : List Pair → ℕ → Bool
named [] k = false
named (p ∷ run) k = is_key k p.1 || named run k

swap_or : (a b c : Bool) → (a || (b || c)) ≡ (b || (a || c))
swap_or true true c = refl
swap_or true false c = refl
swap_or false b c = refl

swap_not : (a b c : Bool) → (not a && (b && not c)) ≡ (b && not (a || c))
swap_not true true c = refl
swap_not true false c = refl
swap_not false b c = refl

and-true : (a : Bool) → (a && true) ≡ a
and-true true = refl
and-true false = refl

passes_grown : (f : ℕ → Bool) (m : Edges) (run : List Pair) → Passes f m → Passes (λ k. f k || named run k) (changed m (each (key_change Grow) run))
unfolding named
passes_grown f m [] are = passes_as f (λ k. f k || false) m (λ k. sym (or-false (f k))) are
passes_grown f m (p ∷ run) are =
    passes_as (λ k. is_key k p.1 || (f k || named run k)) (λ k. f k || (is_key k p.1 || named run k)) (changed m (each (key_change Grow) (p ∷ run)))
    (λ k. swap_or (is_key k p.1) (f k) (named run k))
    (passes_put (λ k. f k || named run k) (changed m (each (key_change Grow) run)) p.1 (passes_grown f m run are))

passes_shrunk : (f : ℕ → Bool) (m : Edges) (run : List Pair) → Passes f m → Passes (λ k. f k && not (named run k)) (changed m (each (key_change Shrink) run))
unfolding named
passes_shrunk f m [] are = passes_as f (λ k. f k && true) m (λ k. sym (and-true (f k))) are
passes_shrunk f m (p ∷ run) are =
    passes_as (λ k. not (is_key k p.1) && (f k && not (named run k))) (λ k. f k && not (is_key k p.1 || named run k)) (changed m (each (key_change Shrink) (p ∷ run)))
    (λ k. swap_not (is_key k p.1) (f k) (named run k))
    (passes_taken (λ k. f k && not (named run k)) (changed m (each (key_change Shrink) run)) p.1 (passes_shrunk f m run are))

named_has : (run : List Pair) (k : ℕ) → named run k ≡ has (set_of_entries pair_rest run) (k ∷ [])
unfolding named is_key
named_has run k = sym (has-set_of total exact (each pair_rest run) (k ∷ []) ∙ along run) where
  along : (run : List Pair) → list_any (eq_by_cmp (slice_cmp nat_cmp) (k ∷ [])) (each pair_rest run) ≡ named run k
  along [] = refl
  along (p ∷ run) = λ j. (tied-cons nat_cmp k p.1.0 [] [] ∙ and-true (eq_by_cmp nat_cmp k p.1.0)) j || along run j

-- the changed keys, each under itself
pub keys_after : (change : Change) (S : IdSet) (m : Edges) (run : List Pair) → AreKeys S m → AreKeys (after (grows change) S (set_of_entries pair_rest run)) (changed m (each (key_change change) run))
keys_after Grow S m run are =
    passes_as (λ k. has S (k ∷ []) || named run k) (λ k. has (after true S (set_of_entries pair_rest run)) (k ∷ [])) (changed m (each (key_change Grow) run))
    (λ k. ap (λ b. has S (k ∷ []) || b) (named_has run k) ∙ sym (has-after_in total exact S (set_of_entries pair_rest run) (k ∷ [])))
    (passes_grown (λ k. has S (k ∷ [])) m run are)
keys_after Shrink S m run are =
    passes_as (λ k. has S (k ∷ []) && not (named run k)) (λ k. has (after false S (set_of_entries pair_rest run)) (k ∷ [])) (changed m (each (key_change Shrink) run))
    (λ k. ap (λ b. has S (k ∷ []) && not b) (named_has run k) ∙ sym (has-after_out total exact S (set_of_entries pair_rest run) (k ∷ [])))
    (passes_shrunk (λ k. has S (k ∷ [])) m run are)

-- ---- the keys of an edge

-- no key
pub keys_none : AreKeys (empty nat_cmp) map.empty
keys_none k = map.get-empty nat_cmp k ∙ sym (ap (λ b. cond b (Some (Key (record { 0 = k }))) None) (set.contains-empty (slice_cmp nat_cmp) (k ∷ [])))

-- one key
pub keys_one : (x : Id) → AreKeys (single nat_cmp (x.0 ∷ [])) (map.insert map.empty x.0 (Key x))
unfolding is_key
keys_one x =
    passes_as (λ k. is_key k x || false) (λ k. has (single nat_cmp (x.0 ∷ [])) (k ∷ [])) (map.insert map.empty x.0 (Key x))
    (λ k. or-false (is_key k x) ∙ sym (has-single total exact (x.0 ∷ []) (k ∷ []) ∙ tied-cons nat_cmp k x.0 [] [] ∙ and-true (eq_by_cmp nat_cmp k x.0)))
    (passes_put (λ k. false) map.empty x (λ k. map.get-empty nat_cmp k))
