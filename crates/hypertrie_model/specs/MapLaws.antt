-- Finite maps at a key and at the others, and an induction on maps by entries put in.
use Rattle.std.specs.Prelude.{◌≡◌, ℕ, zero, suc, ◌-◌, ◌≢◌, Bool, true, false, cond, T, List, [], ◌∷◌, length, refl, None, Some, is_some}
use Rattle.std.proofs.Common.{sym, ◌∙◌, ap, subst, arith}
use Rattle.std.specs.Ordering.{eq_by_cmp, is_eq, is_lt}
use Rattle.std.specs.declared.cmp.Ordering.{Ordering}
use Rattle.std.specs.declared.cmp.Ordering.TheVariants.{Less, Equal, Greater}
use Rattle.std.specs.Cmp.{IsTotalOrder}
use Rattle.std.specs.FinMap as map
use Rattle.std.specs.FinMap.{FinMap, IsAntisymmetric, find}
use Rattle.std.specs.FinMap.Entries.{below_all}
use Rattle.hypertrie_model.specs.SetLaws.{tied-itself, tied-is, tied-apart, split_left, split_right}

lt_not_eq : (r : Ordering) → T (is_lt r) → is_eq r ≡ false
lt_not_eq Less h = refl
lt_not_eq Equal h = absurd h
lt_not_eq Greater h = absurd h

module _ {K : Type 0} {R : K → K → Ordering} (o : IsTotalOrder R) (exact : IsAntisymmetric R) where
  -- the key itself, or another one
  pub by_key : (P : Bool → Type 0) (q k : K) → (q ≡ k → P true) → (q ≢ k → P false) → P (eq_by_cmp R q k)
  by_key P q k here apart =
      elim (eq_by_cmp R q k) as (λ b. eq_by_cmp R q k ≡ b → P b) [
        | true ↦ λ e. here (tied-is exact q k e)
        | false ↦ λ e. apart (λ is. let t : true ≡ false = sym (tied-itself o k) ∙ subst (λ z. eq_by_cmp R z k ≡ false) is e in cc)
      ] refl

  -- a list whose keys are all above k has nothing at k
  pub find-below : {X : Type 0} (k : K) (es : List (K × X)) → T (below_all R k es) → find R k es ≡ None
  find-below k [] h = refl
  find-below k (e ∷ es) h = ap (λ b. cond b (Some e.1) (find R k es)) (lt_not_eq (R k e.0) (split_left _ _ h)) ∙ find-below k es (split_right _ _ h)

  module _ {X : Type 0} where
    pub get-insert_here : (m : FinMap R X) (k : K) (v : X) → map.get (map.insert m k v) k ≡ Some v
    get-insert_here m k v = map.get-insert o m k v k ∙ ap (λ b. cond b (Some v) (map.get m k)) (tied-itself o k)

    pub get-insert_other : (m : FinMap R X) (k : K) (v : X) (q : K) → q ≢ k → map.get (map.insert m k v) q ≡ map.get m q
    get-insert_other m k v q ne = map.get-insert o m k v q ∙ ap (λ b. cond b (Some v) (map.get m q)) (tied-apart exact q k ne)

    pub get-remove_here : (m : FinMap R X) (k : K) → map.get (map.remove m k) k ≡ None
    get-remove_here m k = map.get-remove o m k k ∙ ap (λ b. cond b None (map.get m k)) (tied-itself o k)

    pub get-remove_other : (m : FinMap R X) (k q : K) → q ≢ k → map.get (map.remove m k) q ≡ map.get m q
    get-remove_other m k q ne = map.get-remove o m k q ∙ ap (λ b. cond b None (map.get m q)) (tied-apart exact q k ne)

    pub same_maps : (m n : FinMap R X) → ((q : K) → map.get m q ≡ map.get n q) → m ≡ n
    same_maps m n h = map.same_map o exact m n h

    -- an entry taken out and put back
    pub insert-remove : (m : FinMap R X) (k : K) (v : X) → map.get m k ≡ Some v → map.insert (map.remove m k) k v ≡ m
    insert-remove m k v e =
        same_maps _ _ (λ q. map.get-insert o (map.remove m k) k v q
        ∙ by_key (λ b. cond b (Some v) (map.get (map.remove m k) q) ≡ map.get m q) q k (λ is. sym e ∙ ap (map.get m) (sym is)) (λ ne. get-remove_other m k q ne))

    -- a new entry taken out again
    pub remove-insert : (m : FinMap R X) (k : K) (v : X) → map.get m k ≡ None → map.remove (map.insert m k v) k ≡ m
    remove-insert m k v e =
        same_maps _ _ (λ q. map.get-remove o (map.insert m k v) k q
        ∙ by_key (λ b. cond b None (map.get (map.insert m k v) q) ≡ map.get m q) q k (λ is. sym e ∙ ap (map.get m) (sym is)) (λ ne. get-insert_other m k v q ne))

    -- a new value at a key, whatever stood there
    pub insert-remove_any : (m : FinMap R X) (k : K) (w : X) → map.insert (map.remove m k) k w ≡ map.insert m k w
    insert-remove_any m k w =
        same_maps _ _ (λ q. map.get-insert o (map.remove m k) k w q
        ∙ by_key (λ b. cond b (Some w) (map.get (map.remove m k) q) ≡ cond b (Some w) (map.get m q)) q k (λ _. refl) (λ ne. get-remove_other m k q ne)
        ∙ sym (map.get-insert o m k w q))

    -- a map that isn't empty is another map with one entry more
    with_entry : (P : FinMap R X → Type 0) → P map.empty → ((m : FinMap R X) (k : K) (v : X) → map.get m k ≡ None → P m → P (map.insert m k v)) → (n : ℕ) (m : FinMap R X) → map.len m ≡ n → P m
    with_entry P none more zero m e = subst P (sym (map.empty_of_len m e)) none
    with_entry P none more (suc n) m e =
        elim (map.entries m) as (λ es. map.entries m ≡ es → P m) [
          | [] ↦ λ is. let f : suc n ≡ 0 = sym e ∙ map.len-entries m ∙ ap length is in absurd (omega arith)
          | x ∷ es ↦ λ is.
              let here : map.get m x.0 ≡ Some x.1 = map.get-entries m x.0 ∙ ap (find R x.0) is ∙ ap (λ b. cond b (Some x.1) (find R x.0 es)) (tied-itself o x.0) in
              let fewer : map.len (map.remove m x.0) ≡ n = map.len-remove o m x.0 ∙ ap (λ r. cond (is_some r) (map.len m - 1) (map.len m)) here ∙ omega arith in
              subst P (insert-remove m x.0 x.1 here) (more (map.remove m x.0) x.0 x.1 (get-remove_here m x.0) (with_entry P none more n (map.remove m x.0) fewer))
        ] refl

    pub map_ind : (P : FinMap R X → Type 0) → P map.empty → ((m : FinMap R X) (k : K) (v : X) → map.get m k ≡ None → P m → P (map.insert m k v)) → (m : FinMap R X) → P m
    map_ind P none more m = with_entry P none more (map.len m) m refl
