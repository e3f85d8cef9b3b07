-- A slice at a mask is a slice at one taken position after another.
use Rattle.std.specs.Prelude.{◌≡◌, ℕ, zero, suc, ◌+◌, ◌*◌, ◌/◌, ◌%◌, ◌^◌, ◌<◌, ◌≤◌, ◌&&◌, Bool, true, false, cond, nat_eq, List, [], ◌∷◌, ◌++◌, length, reverse, refl}
use Rattle.std.proofs.Common.{sym, ◌∙◌, ap, subst, arith}
use Rattle.std.specs.List.{filter, insert, remove, range_with_len}
use Rattle.std.specs.Ordering.{eq_by_cmp}
use Rattle.std.specs.declared.cmp.Ordering.{Ordering}
use Rattle.std.specs.Cmp.{IsTotalOrder}
use Rattle.std.specs.FinSet.{IsAntisymmetric}
use Rattle.std.proofs.Math.Nat.{div-div-eq-div-mul, div-one, mod-one, mod-eq_of_lt, pow-succ'}
use Rattle.std.proofs.Math.Pow.{mod-mod-pow}
use Rattle.std.proofs.lemmas.Nat.{mod-pow-add, div-mul-add}
use Rattle.std.proofs.lemmas.Bool.Decides.{nat_tests}
use Rattle.std.proofs.lemmas.List.{reverse-append}
use Rattle.std.proofs.lemmas.List.Edits.{length-insert, length-remove}
use Rattle.std.proofs.lemmas.List.Elements.{filter-append}
use Rattle.hypertrie_model.specs.Sets.{TupleSet, has, HasDepth}
use Rattle.hypertrie_model.specs.SetLaws.{same_sets, same_test, and_both}
use Rattle.hypertrie_model.specs.Slices.{is_at, is_at_mask, without_mask, slice, slice_at_mask}
use Rattle.hypertrie_model.specs.SliceLaws.{IsLeft, has-slice, slice-depth, has-slice_at_mask, slice_at_mask-has, remove-insert_at, insert-remove_at, at-insert_at}
use Rattle.hypertrie_model.specs.MaskLaws.{slice_at_no_mask}
use Rattle.slice_cases.specs.Cases.{has_position, taken_of, slices_at}

-- the lowest bits of a mask, and those of its half
low_first : (d m : ℕ) → m % 2 ^ suc d % 2 ≡ m % 2
low_first d m = ap (λ n. m % 2 ^ n % 2) (let e : suc d ≡ d + 1 = omega arith in e) ∙ mod-mod-pow m d 1

low_half : (d m : ℕ) → m % 2 ^ suc d / 2 ≡ m / 2 % 2 ^ d
low_half d m =
    ap (λ n. m % 2 ^ n / 2) (let e : suc d ≡ d + 1 = omega arith in e)
    ∙ ap (λ n. n / 2) (mod-pow-add m d 1)
    ∙ div-mul-add (m / 2 % 2 ^ d) 2 (m % 2) (omega arith)

-- a position of the mask is the one below it in the half
position_half : (d m : ℕ) → has_position m (suc d) ≡ has_position (m / 2) d
position_half d m = ap (λ n. nat_eq (n % 2) 1) (ap (λ n. m / n) (pow-succ' 2 d) ∙ sym (div-div-eq-div-mul m 2 (2 ^ d)))

-- a position that the mask doesn't have adds nothing
low_without : (d m : ℕ) → has_position m d ≡ false → m % 2 ^ suc d ≡ m % 2 ^ d
low_without d m e =
    let none : m / 2 ^ d % 2 ≡ 0 = grind (arith, nat_tests) in
    ap (λ n. m % 2 ^ n) (let e : suc d ≡ 1 + d = omega arith in e)
    ∙ mod-pow-add m 1 d
    ∙ ap (λ n. n * 2 ^ d + m % 2 ^ d) none
    ∙ omega arith

-- one position more is the highest
range_more : (a d : ℕ) → range_with_len a (suc d) ≡ range_with_len a d ++ (a + d) ∷ []
range_more a zero = ap (λ n. n ∷ []) (let e : a ≡ a + 0 = omega arith in e)
range_more a (suc d) = ap (λ l. a ∷ l) (range_more (a + 1) d ∙ ap (λ n. range_with_len (a + 1) d ++ n ∷ []) (let e : a + 1 + d ≡ a + suc d = omega arith in e))

-- the positions below one more
pub taken_more : (d m : ℕ) → taken_of (suc d) m ≡ cond (has_position m d) (d ∷ taken_of d m) (taken_of d m)
taken_more d m =
    ap (λ l. reverse (filter (has_position m) l)) (range_more 0 d ∙ ap (λ n. range_with_len 0 d ++ n ∷ []) (let e : 0 + d ≡ d = omega arith in e))
    ∙ ap reverse (filter-append (has_position m) (range_with_len 0 d) (d ∷ []))
    ∙ reverse-append (filter (has_position m) (range_with_len 0 d)) (filter (has_position m) (d ∷ []))
    ∙ elim (has_position m d) as (λ b. reverse (cond b (d ∷ []) []) ++ taken_of d m ≡ cond b (d ∷ taken_of d m) (taken_of d m)) [ true ↦ refl | false ↦ refl ]

one_first : (m : ℕ) → has_position m 0 ≡ true → m % 2 ≡ 1
one_first m e = let t : m / 1 % 2 ≡ 1 = grind (arith, nat_tests) in ap (λ n. n % 2) (sym (div-one m)) ∙ t

swap_tests : (a b c : Bool) → (a && (b && c)) ≡ (b && (a && c))
swap_tests true b c = refl
swap_tests false true c = refl
swap_tests false false c = refl

module _ {A : Type 0} {R : A → A → Ordering} (o : IsTotalOrder R) (exact : IsAntisymmetric R) where
  -- the highest position of a mask, checked and taken out first
  at_low_mask : (d m : ℕ) (k : A) (t : List A) → has_position m d ≡ true → d < length t → is_at_mask R (m % 2 ^ suc d) k t ≡ (is_at R d k t && is_at_mask R (m % 2 ^ d) k (remove t d))
  at_low_mask d m k [] e long = absurd (omega arith)
  at_low_mask zero m k (x ∷ t) e long =
      ap (λ n. is_at_mask R n k (x ∷ t)) (one_first m e)
      ∙ ap (λ n. eq_by_cmp R k x && is_at_mask R n k t) (sym (mod-one m))
  at_low_mask (suc d) m k (x ∷ t) e long =
      (λ j. cond (nat_eq (low_first (suc d) m j) 1) (eq_by_cmp R k x) true && is_at_mask R (low_half (suc d) m j) k t)
      ∙ ap (λ b. cond (nat_eq (m % 2) 1) (eq_by_cmp R k x) true && b) (at_low_mask d (m / 2) k t (sym (position_half d m) ∙ e) (omega arith))
      ∙ swap_tests (cond (nat_eq (m % 2) 1) (eq_by_cmp R k x) true) (is_at R d k t) (is_at_mask R (m / 2 % 2 ^ d) k (remove t d))
      ∙ (λ j. is_at R d k t && (cond (nat_eq (sym (low_first d m) j) 1) (eq_by_cmp R k x) true && is_at_mask R (sym (low_half d m) j) k (remove t d)))

  -- and what both leave of the tuple
  without_low_mask : (d m : ℕ) (t : List A) → has_position m d ≡ true → d < length t → without_mask (m % 2 ^ suc d) t ≡ without_mask (m % 2 ^ d) (remove t d)
  without_low_mask d m [] e long = absurd (omega arith)
  without_low_mask zero m (x ∷ t) e long = ap (λ n. without_mask n (x ∷ t)) (one_first m e) ∙ ap (λ n. without_mask n t) (sym (mod-one m))
  without_low_mask (suc d) m (x ∷ t) e long =
      (λ j. cond (nat_eq (low_first (suc d) m j) 1) (without_mask (low_half (suc d) m j) t) (x ∷ without_mask (low_half (suc d) m j) t))
      ∙ ap (λ l. cond (nat_eq (m % 2) 1) l (x ∷ l)) (without_low_mask d (m / 2) t (sym (position_half d m) ∙ e) (omega arith))
      ∙ (λ j. cond (nat_eq (sym (low_first d m) j) 1) (without_mask (sym (low_half d m) j) (remove t d)) (x ∷ without_mask (sym (low_half d m) j) (remove t d)))

  -- the slice at the highest position of a mask comes first
  slice_highest : (H : TupleSet R) (n d m : ℕ) (k : A) → HasDepth (suc n) H → d ≤ n → has_position m d ≡ true → slice_at_mask R H (m % 2 ^ suc d) k ≡ slice_at_mask R (slice R H d k) (m % 2 ^ d) k
  slice_highest H n d m k deep le e = same_sets o exact _ _ (λ u. same_test _ _
      (λ there. into u (has-slice_at_mask o exact H (m % 2 ^ suc d) k u there))
      (λ there. back u (has-slice_at_mask o exact (slice R H d k) (m % 2 ^ d) k u there))) where
        into : (u : List A) → IsLeft o exact H (m % 2 ^ suc d) k u → has (slice_at_mask R (slice R H d k) (m % 2 ^ d) k) u ≡ true
        into u l =
            let n_places = deep l.tuple l.there in
            let within : d < length l.tuple = omega arith in
            let n_rest = length-remove l.tuple d within in
            let two = and_both (is_at R d k l.tuple) (is_at_mask R (m % 2 ^ d) k (remove l.tuple d)) (sym (at_low_mask d m k l.tuple e within) ∙ l.fixed) in
            let there : has (slice R H d k) (remove l.tuple d) ≡ true = has-slice o exact H d k (remove l.tuple d) (omega arith) ∙ ap (has H) (insert-remove_at o exact l.tuple d k two.0) ∙ l.there in
            subst (λ v. has (slice_at_mask R (slice R H d k) (m % 2 ^ d) k) v ≡ true) (sym (without_low_mask d m l.tuple e within) ∙ l.left)
            (slice_at_mask-has o exact (slice R H d k) (m % 2 ^ d) k (remove l.tuple d) there two.1)

        back : (u : List A) → IsLeft o exact (slice R H d k) (m % 2 ^ d) k u → has (slice_at_mask R H (m % 2 ^ suc d) k) u ≡ true
        back u l =
            let n_rest = slice-depth o exact H n d k deep l.tuple l.there in
            let t = insert l.tuple d k in
            let n_places = length-insert l.tuple d k (omega arith) in
            let within : d < length t = omega arith in
            let rest : remove t d ≡ l.tuple = remove-insert_at l.tuple d k (omega arith) in
            let there : has H t ≡ true = sym (has-slice o exact H d k l.tuple (omega arith)) ∙ l.there in
            let fixed : is_at_mask R (m % 2 ^ suc d) k t ≡ true = at_low_mask d m k t e within ∙ (λ j. at-insert_at o exact l.tuple d k (omega arith) j && (ap (is_at_mask R (m % 2 ^ d) k) rest ∙ l.fixed) j) in
            subst (λ v. has (slice_at_mask R H (m % 2 ^ suc d) k) v ≡ true) (without_low_mask d m t e within ∙ ap (without_mask (m % 2 ^ d)) rest ∙ l.left)
            (slice_at_mask-has o exact H (m % 2 ^ suc d) k t there fixed)

  -- the slices at the positions below d are the slice at the lowest d bits
  slices_low : (d : ℕ) (H : TupleSet R) (n m : ℕ) (k : A) → HasDepth n H → d ≤ n → slices_at R H (taken_of d m) k ≡ slice_at_mask R H (m % 2 ^ d) k
  slices_low zero H n m k deep le = sym (ap (λ l. slice_at_mask R H l k) (mod-one m) ∙ slice_at_no_mask o exact H k)
  slices_low (suc d) H zero m k deep le = absurd (omega arith)
  slices_low (suc d) H (suc n) m k deep le =
      ap (λ l. slices_at R H l k) (taken_more d m)
      ∙ by (has_position m d) refl (slices_low d H (suc n) m k deep (omega arith)) (slices_low d (slice R H d k) n m k (slice-depth o exact H n d k deep) (omega arith)) where
        by : (b : Bool) → has_position m d ≡ b → slices_at R H (taken_of d m) k ≡ slice_at_mask R H (m % 2 ^ d) k → slices_at R (slice R H d k) (taken_of d m) k ≡ slice_at_mask R (slice R H d k) (m % 2 ^ d) k → slices_at R H (cond b (d ∷ taken_of d m) (taken_of d m)) k ≡ slice_at_mask R H (m % 2 ^ suc d) k
        by true e whole sliced = sliced ∙ sym (slice_highest H n d m k deep (omega arith) e)
        by false e whole sliced = whole ∙ ap (λ l. slice_at_mask R H l k) (sym (low_without d m e))

  -- the slice at a mask is the slices at its positions, taken from the highest to the lowest
  pub slice_at_mask-in_order : (H : TupleSet R) (d m : ℕ) (k : A) → HasDepth d H → m < 2 ^ d → slice_at_mask R H m k ≡ slices_at R H (taken_of d m) k
  slice_at_mask-in_order H d m k deep lt = sym (slices_low d H d m k deep (omega arith) ∙ ap (λ l. slice_at_mask R H l k) (mod-eq_of_lt lt))
