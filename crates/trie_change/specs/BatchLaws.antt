-- Laws of batches: entries in order are there once, an entry that is there once is not among those before it, and how many places tuples have.
use Rattle.std.specs.Prelude.{◌≡◌, ℕ, suc, ◌+◌, ◌≤◌, ◌||◌, Bool, true, false, cond, List, [], ◌∷◌, ◌++◌, length, map, refl, not}
use Rattle.std.proofs.Common.{sym, ◌∙◌, ap, arith, length-append}
use Rattle.std.proofs.lemmas.List.{length-map, map-append}
use Rattle.std.proofs.lemmas.Cmp.{lists_total}
use Rattle.std.proofs.lemmas.List.Folds.{list_any-append}
use Rattle.std.specs.List.{list_any}
use Rattle.std.specs.Ordering.{nat_cmp, eq_by_cmp}
use Rattle.std.specs.Cmp.{nat_cmp_total as total}
use Rattle.std.specs.Cmp.Lexicographic.{slice_cmp}
use Rattle.std.specs.FinMap.{nat_cmp-IsAntisymmetric as exact}
use Rattle.std.specs.FinSet.{slice_cmp-IsAntisymmetric}
use Rattle.std.specs.FinSet as set
use Rattle.hypertrie_model.specs.IdSets.{IdSet}
use Rattle.hypertrie_model.specs.Sets.{has, HasDepth}
use Rattle.hypertrie_model.specs.SetLaws.{same_sets, or_cases, and_both, tied-is}
use Rattle.hypertrie_model.specs.Changes.{after}
use Rattle.hypertrie_model.specs.ChangeLaws.{has-after_in, has-after_out}
use Rattle.hypertrie_model.specs.Listings.{set_of, has-set_of, set_of-append, len-listed}
use Rattle.trie_change.specs.Batches.{set_of_entries, AreInOrder, IsOnce}

-- ---- along a list of tuples

len-push : (t : List ℕ) (ts : List (List ℕ)) → set.len (set_of nat_cmp (t ∷ ts)) ≡ cond (has (set_of nat_cmp ts) t) (set.len (set_of nat_cmp ts)) (set.len (set_of nat_cmp ts) + 1)
len-push t ts = set.len-insert (lists_total total) (set_of nat_cmp ts) t

one_more : (b : Bool) (n m k : ℕ) → m ≡ cond b n (n + 1) → n ≤ k → m ≤ suc k
one_more true n m k e le = omega arith
one_more false n m k e le = omega arith

-- no more tuples than the list has
len-at_most : (ts : List (List ℕ)) → set.len (set_of nat_cmp ts) ≤ length ts
len-at_most [] = let n : set.len (set_of nat_cmp []) ≡ 0 = set.len-empty (slice_cmp nat_cmp) in omega arith
len-at_most (t ∷ ts) = one_more (has (set_of nat_cmp ts) t) (set.len (set_of nat_cmp ts)) (set.len (set_of nat_cmp (t ∷ ts))) (length ts) (len-push t ts) (len-at_most ts)

is_new : (b : Bool) (n m k : ℕ) → m ≡ cond b n (n + 1) → n ≤ k → m ≡ k + 1 → b ≡ false
is_new true n m k e le full = absurd (omega arith)
is_new false n m k e le full = refl

pub once_head_new : (t : List ℕ) (ts : List (List ℕ)) → set.len (set_of nat_cmp (t ∷ ts)) ≡ length (t ∷ ts) → has (set_of nat_cmp ts) t ≡ false
once_head_new t ts once = is_new _ _ _ (length ts) (len-push t ts) (len-at_most ts) (let n : length (t ∷ ts) ≡ length ts + 1 = omega arith in once ∙ n)

-- the rest of the list is there once too
pub once_tail : (t : List ℕ) (ts : List (List ℕ)) → set.len (set_of nat_cmp (t ∷ ts)) ≡ length (t ∷ ts) → set.len (set_of nat_cmp ts) ≡ length ts
once_tail t ts once =
    let new : set.len (set_of nat_cmp (t ∷ ts)) ≡ set.len (set_of nat_cmp ts) + 1 = len-push t ts ∙ ap (λ b. cond b (set.len (set_of nat_cmp ts)) (set.len (set_of nat_cmp ts) + 1)) (once_head_new t ts once) in
    let size : length (t ∷ ts) ≡ length ts + 1 = omega arith in
    omega arith

-- and a new tuple makes one more
pub once_more : (t : List ℕ) (ts : List (List ℕ)) → has (set_of nat_cmp ts) t ≡ false → set.len (set_of nat_cmp ts) ≡ length ts → set.len (set_of nat_cmp (t ∷ ts)) ≡ length (t ∷ ts)
once_more t ts new once =
    let more : set.len (set_of nat_cmp (t ∷ ts)) ≡ set.len (set_of nat_cmp ts) + 1 = len-push t ts ∙ ap (λ b. cond b (set.len (set_of nat_cmp ts)) (set.len (set_of nat_cmp ts) + 1)) new in
    let size : length (t ∷ ts) ≡ length ts + 1 = omega arith in
    omega arith

or_left_false : (a b : Bool) → (a || b) ≡ false → a ≡ false
or_left_false true b e = e
or_left_false false b e = refl

-- a tuple that is once in a list is not among those before it
once_middle_new : (ts : List (List ℕ)) (t : List ℕ) (us : List (List ℕ)) → set.len (set_of nat_cmp (ts ++ t ∷ us)) ≡ length (ts ++ t ∷ us) → has (set_of nat_cmp ts) t ≡ false
once_middle_new ts t us once =
    let all = set_of nat_cmp (ts ++ us) in
    let moved : set_of nat_cmp (ts ++ t ∷ us) ≡ set_of nat_cmp (t ∷ (ts ++ us)) = same_sets total exact _ _ (λ u.
    has-set_of total exact (ts ++ t ∷ us) u
    ∙ list_any-append (same_tuple u) ts (t ∷ us)
    ∙ swap (list_any (same_tuple u) ts) (same_tuple u t) (list_any (same_tuple u) us)
    ∙ ap (λ b. same_tuple u t || b) (sym (list_any-append (same_tuple u) ts us))
    ∙ sym (has-set_of total exact (t ∷ (ts ++ us)) u)) in
    let size : length (ts ++ t ∷ us) ≡ length (t ∷ (ts ++ us)) = simp length-append (omega arith) in
    let new : has all t ≡ false = once_head_new t (ts ++ us) (sym (ap set.len moved) ∙ once ∙ size) in
    or_left_false (has (set_of nat_cmp ts) t) (has (set_of nat_cmp us) t)
    (sym (set.contains-union (lists_total total) (set_of nat_cmp ts) (set_of nat_cmp us) t)
    ∙ ap (λ S. has S t) (sym (set_of-append total exact ts us))
    ∙ new) where
      same_tuple : List ℕ → List ℕ → Bool
      same_tuple u v = eq_by_cmp (slice_cmp nat_cmp) u v

      swap : (a b c : Bool) → (a || (b || c)) ≡ (b || (a || c))
      swap true true c = refl
      swap true false c = refl
      swap false b c = refl

module _ {E : Type 0} (tuple : E → List ℕ) where
  -- entries in order are there once
  pub order_once : (es : List E) → AreInOrder tuple es → IsOnce tuple es
  order_once es order = len-listed total exact (map tuple es) order ∙ length-map es tuple

  -- an entry is not among those before it
  pub once_push_new : (es : List E) (e : E) (fs : List E) → IsOnce tuple (es ++ e ∷ fs) → has (set_of_entries tuple es) (tuple e) ≡ false
  once_push_new es e fs once =
      let split = map-append tuple es (e ∷ fs) in
      once_middle_new (map tuple es) (tuple e) (map tuple fs)
      (ap (λ ts. set.len (set_of nat_cmp ts)) (sym split) ∙ once ∙ sym (length-map (es ++ e ∷ fs) tuple) ∙ ap length split)

  -- the tuples of a batch have as many places as each of its entries
  pub depth-entries : (d : ℕ) → ((e : E) → length (tuple e) ≡ d) → (es : List E) → HasDepth d (set_of_entries tuple es)
  depth-entries d long es t there = along es (sym (has-set_of total exact (map tuple es) t) ∙ there) where
    along : (es : List E) → list_any (eq_by_cmp (slice_cmp nat_cmp) t) (map tuple es) ≡ true → length t ≡ d
    along [] is = absurd (let f : ⊥ = cc in f)
    along (e ∷ es) is =
        or_cases (eq_by_cmp (slice_cmp nat_cmp) t (tuple e)) (list_any (eq_by_cmp (slice_cmp nat_cmp) t) (map tuple es)) is (length t ≡ d)
        (λ here. ap length (tied-is (slice_cmp-IsAntisymmetric exact) t (tuple e) here) ∙ long e)
        (along es)

-- and those of a changed set as many as those of both sets
pub depth-after : (d : ℕ) (g : Bool) (H B : IdSet) → HasDepth d H → HasDepth d B → HasDepth d (after g H B)
depth-after d true H B deep more t there = or_cases (has H t) (has B t) (sym (has-after_in total exact H B t) ∙ there) (length t ≡ d) (deep t) (more t)
depth-after d false H B deep more t there = deep t (and_both (has H t) (not (has B t)) (sym (has-after_out total exact H B t) ∙ there)).0
