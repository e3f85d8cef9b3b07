-- A key fixed at the positions of a label: what the slice has of the images of assignments.
use Rattle.std.specs.Prelude.{◌≡◌, ℕ, zero, suc, ◌+◌, ◌*◌, ◌/◌, ◌%◌, ◌^◌, ◌<◌, ◌≤◌, ◌&&◌, Bool, true, false, not, cond, nat_eq, List, [], ◌∷◌, length, refl, Option, None, Some}
use Rattle.std.proofs.Common.{sym, ◌∙◌, ap, arith}
use Rattle.std.proofs.Math.Nat.{pow-succ'}
use Rattle.std.proofs.lemmas.Bool.Decides.{nat_tests}
use Rattle.std.proofs.lemmas.Cmp.{nat_cmp_total}
use Rattle.std.specs.Cmp.Lexicographic.{slice_cmp}
use Rattle.std.specs.FinMap.{nat_cmp-IsAntisymmetric}
use Rattle.std.specs.FinSet as set
use Rattle.std.specs.List.{cons_option}
use Rattle.std.specs.Ordering.{nat_cmp, eq_by_cmp}
use Rattle.hypertrie_model.specs.IdSets.{IdSet}
use Rattle.hypertrie_model.specs.Sets.{has, HasDepth}
use Rattle.hypertrie_model.specs.SetLaws.{same_test, and_both, tied-is, tied-itself}
use Rattle.hypertrie_model.specs.Slices.{at, is_at, is_at_mask, without_mask, slice_at_mask}
use Rattle.hypertrie_model.specs.SliceLaws.{has-slice_at_mask, slice_at_mask-has}
use Rattle.trie_depth.specs.Masks.{FitsDepth, n_positions}
use Rattle.trie_depth.specs.Operands.{Admits}
use Rattle.bag_model.specs.Solutions.{image}
use Rattle.bag_list.specs.Labels.{mask_of, without}

same_number : (m l : ℕ) → nat_eq m l ≡ true → m ≡ l
same_number m l e = grind (arith, nat_tests)

number_itself : (m : ℕ) → nat_eq m m ≡ true
number_itself m = grind (arith, nat_tests)

-- ---- the mask of a label

pub mask-small : (l : ℕ) (ls : List ℕ) → mask_of l ls < 2 ^ length ls
mask-small l [] = omega arith
mask-small l (m ∷ ls) =
    let rest = mask-small l ls in
    let two = pow-succ' 2 (length ls) in
    elim (nat_eq m l) as (λ b. cond b (2 * mask_of l ls + 1) (2 * mask_of l ls) < 2 ^ suc (length ls)) [ true ↦ omega (arith, two) | false ↦ omega (arith, two) ]

pub mask-fits : (l : ℕ) (ls : List ℕ) → 1 ≤ mask_of l ls → FitsDepth (mask_of l ls) (length ls)
mask-fits l ls some = (some, mask-small l ls)

pub mask-none : (l : ℕ) (ls : List ℕ) → mask_of l ls ≡ 0 → without l ls ≡ ls
mask-none l [] e = refl
mask-none l (m ∷ ls) e = elim (nat_eq m l) as (λ b. cond b (2 * mask_of l ls + 1) (2 * mask_of l ls) ≡ 0 → cond (not b) (m ∷ without l ls) (without l ls) ≡ m ∷ ls) [
  | true ↦ λ h. absurd (omega arith)
  | false ↦ λ h. ap (λ xs. m ∷ xs) (mask-none l ls (omega (arith, h)))
] e

-- ---- a position more, named or not

odd : (M : ℕ) → (2 * M + 1) % 2 ≡ 1
odd M = omega arith

odd_half : (M : ℕ) → (2 * M + 1) / 2 ≡ M
odd_half M = omega arith

even : (M : ℕ) → 2 * M % 2 ≡ 0
even M = omega arith

even_half : (M : ℕ) → 2 * M / 2 ≡ M
even_half M = omega arith

odd-at_mask : (M k y : ℕ) (u : List ℕ) → is_at_mask nat_cmp (2 * M + 1) k (y ∷ u) ≡ (eq_by_cmp nat_cmp k y && is_at_mask nat_cmp M k u)
odd-at_mask M k y u = (λ j. cond (nat_eq (odd M j) 1) (eq_by_cmp nat_cmp k y) true && is_at_mask nat_cmp (odd_half M j) k u)

even-at_mask : (M k y : ℕ) (u : List ℕ) → is_at_mask nat_cmp (2 * M) k (y ∷ u) ≡ is_at_mask nat_cmp M k u
even-at_mask M k y u = (λ j. cond (nat_eq (even M j) 1) (eq_by_cmp nat_cmp k y) true && is_at_mask nat_cmp (even_half M j) k u)

odd-without : (M y : ℕ) (u : List ℕ) → without_mask (2 * M + 1) (y ∷ u) ≡ without_mask M u
odd-without M y u = (λ j. cond (nat_eq (odd M j) 1) (without_mask (odd_half M j) u) (y ∷ without_mask (odd_half M j) u))

even-without : (M y : ℕ) (u : List ℕ) → without_mask (2 * M) (y ∷ u) ≡ y ∷ without_mask M u
even-without M y u = (λ j. cond (nat_eq (even M j) 1) (without_mask (even_half M j) u) (y ∷ without_mask (even_half M j) u))

-- as many positions are left as labels
pub length-without : (l : ℕ) (ls t : List ℕ) → length t ≡ length ls → length (without_mask (mask_of l ls) t) ≡ length (without l ls)
length-without l [] [] e = refl
length-without l [] (x ∷ t) e = absurd (omega (arith, e))
length-without l (m ∷ ls) [] e = absurd (omega (arith, e))
length-without l (m ∷ ls) (x ∷ t) e =
    let rest = length-without l ls t (omega (arith, e)) in
    elim (nat_eq m l) as (λ b. length (without_mask (cond b (2 * mask_of l ls + 1) (2 * mask_of l ls)) (x ∷ t)) ≡ length (cond (not b) (m ∷ without l ls) (without l ls))) [
      | true ↦ ap length (odd-without (mask_of l ls) x t) ∙ rest
      | false ↦ ap length (even-without (mask_of l ls) x t) ∙ ap suc rest
    ]

-- ---- images

length-cons_option : (v : Option ℕ) (u : List ℕ) → length (cons_option v u) ≤ suc (length u)
length-cons_option None u = omega arith
length-cons_option (Some x) u = omega arith

length-image : (a ls : List ℕ) → length (image a ls) ≤ length ls
length-image a [] = omega arith
length-image a (m ∷ ls) = let one = length-cons_option (at m a) (image a ls) in omega (arith, one, length-image a ls)

-- an image of all labels has an element for the first one
module _ (a ls : List ℕ) where
  full : (P : Option ℕ → Type 0) (v : Option ℕ) → length (cons_option v (image a ls)) ≡ suc (length ls) → ((y : ℕ) → length (image a ls) ≡ length ls → P (Some y)) → P v
  full P None e some = absurd (omega (arith, e, length-image a ls))
  full P (Some y) e some = some y (omega (arith, e))

pub at-is_at : (l k : ℕ) (a : List ℕ) → is_at nat_cmp l k a ≡ true → at l a ≡ Some k
at-is_at l k [] e = absurd (let f : ⊥ = cc in f)
at-is_at zero k (x ∷ a) e = ap Some (sym (tied-is nat_cmp-IsAntisymmetric k x e))
at-is_at (suc l) k (x ∷ a) e = at-is_at l k a e

pub is_at-at : (l k : ℕ) (a : List ℕ) → at l a ≡ Some k → is_at nat_cmp l k a ≡ true
is_at-at l k [] e = absurd (let f : ⊥ = cc in f)
is_at-at zero k (x ∷ a) e = let is : x ≡ k = cc in ap (λ y. eq_by_cmp nat_cmp k y) is ∙ tied-itself nat_cmp_total k
is_at-at (suc l) k (x ∷ a) e = is_at-at l k a e

module _ (l k : ℕ) (a : List ℕ) (here : at l a ≡ Some k) where
  at_mask-image : (ls : List ℕ) → length (image a ls) ≡ length ls → is_at_mask nat_cmp (mask_of l ls) k (image a ls) ≡ true
  at_mask-image [] e = refl
  at_mask-image (m ∷ ls) e = elim (nat_eq m l) as (λ b. nat_eq m l ≡ b → is_at_mask nat_cmp (cond b (2 * mask_of l ls + 1) (2 * mask_of l ls)) k (cons_option (at m a) (image a ls)) ≡ true) [
    | true ↦ λ is.
        let v : at m a ≡ Some k = ap (λ i. at i a) (same_number m l is) ∙ here in
        ap (λ o. is_at_mask nat_cmp (2 * mask_of l ls + 1) k (cons_option o (image a ls))) v
        ∙ odd-at_mask (mask_of l ls) k k (image a ls)
        ∙ (λ j. tied-itself nat_cmp_total k j && at_mask-image ls (rest m v e) j)
    | false ↦ λ _. full a ls (λ o. is_at_mask nat_cmp (2 * mask_of l ls) k (cons_option o (image a ls)) ≡ true) (at m a) e
        (λ y n. even-at_mask (mask_of l ls) k y (image a ls) ∙ at_mask-image ls n)
  ] refl where
    rest : (m : ℕ) → at m a ≡ Some k → length (cons_option (at m a) (image a ls)) ≡ suc (length ls) → length (image a ls) ≡ length ls
    rest m v n = let one : length (cons_option (Some k) (image a ls)) ≡ suc (length ls) = ap (λ o. length (cons_option o (image a ls))) (sym v) ∙ n in omega (arith, one)

  without_mask-image : (ls : List ℕ) → length (image a ls) ≡ length ls → without_mask (mask_of l ls) (image a ls) ≡ image a (without l ls)
  without_mask-image [] e = refl
  without_mask-image (m ∷ ls) e = elim (nat_eq m l) as (λ b. nat_eq m l ≡ b → without_mask (cond b (2 * mask_of l ls + 1) (2 * mask_of l ls)) (cons_option (at m a) (image a ls)) ≡ image a (cond (not b) (m ∷ without l ls) (without l ls))) [
    | true ↦ λ is.
        full a ls (λ o. without_mask (2 * mask_of l ls + 1) (cons_option o (image a ls)) ≡ image a (without l ls)) (at m a) e
        (λ y n. odd-without (mask_of l ls) y (image a ls) ∙ without_mask-image ls n)
    | false ↦ λ _. full a ls (λ o. without_mask (2 * mask_of l ls) (cons_option o (image a ls)) ≡ cons_option o (image a (without l ls))) (at m a) e
        (λ y n. even-without (mask_of l ls) y (image a ls) ∙ ap (λ u. y ∷ u) (without_mask-image ls n))
  ] refl

  -- a tuple is an image where its other positions are one, and it has k at those of the label
  is-image : (ls t : List ℕ) → length t ≡ length ls → is_at_mask nat_cmp (mask_of l ls) k t ≡ true → without_mask (mask_of l ls) t ≡ image a (without l ls) → t ≡ image a ls
  is-image [] [] n fixed left = refl
  is-image [] (x ∷ t) n fixed left = absurd (omega (arith, n))
  is-image (m ∷ ls) [] n fixed left = absurd (omega (arith, n))
  is-image (m ∷ ls) (x ∷ t) n fixed left = elim (nat_eq m l) as (λ b. nat_eq m l ≡ b → is_at_mask nat_cmp (cond b (2 * mask_of l ls + 1) (2 * mask_of l ls)) k (x ∷ t) ≡ true → without_mask (cond b (2 * mask_of l ls + 1) (2 * mask_of l ls)) (x ∷ t) ≡ image a (cond (not b) (m ∷ without l ls) (without l ls)) → x ∷ t ≡ cons_option (at m a) (image a ls)) [
    | true ↦ λ is fixed left.
        let two = and_both (eq_by_cmp nat_cmp k x) (is_at_mask nat_cmp (mask_of l ls) k t) (sym (odd-at_mask (mask_of l ls) k x t) ∙ fixed) in
        (λ j. sym (tied-is nat_cmp-IsAntisymmetric k x two.0) j ∷ is-image ls t (omega (arith, n)) two.1 (sym (odd-without (mask_of l ls) x t) ∙ left) j)
        ∙ ap (λ o. cons_option o (image a ls)) (sym (ap (λ i. at i a) (same_number m l is) ∙ here))
    | false ↦ λ _ fixed left.
        later (at m a) (sym (even-without (mask_of l ls) x t) ∙ left)
        (λ same. is-image ls t (omega (arith, n)) (sym (even-at_mask (mask_of l ls) k x t) ∙ fixed) same)
  ] refl fixed left where
    later : (o : Option ℕ) → x ∷ without_mask (mask_of l ls) t ≡ cons_option o (image a (without l ls)) → (without_mask (mask_of l ls) t ≡ image a (without l ls) → t ≡ image a ls) → x ∷ t ≡ cons_option o (image a ls)
    later None e rest =
        let long = length-without l ls t (omega (arith, n)) in
        let lengths : suc (length (without_mask (mask_of l ls) t)) ≡ length (image a (without l ls)) = ap length e in
        absurd (omega (arith, long, lengths, length-image a (without l ls)))
    later (Some y) e rest =
        let head : x ≡ y = cc in
        let tail : without_mask (mask_of l ls) t ≡ image a (without l ls) = cc in
        (λ j. head j ∷ rest tail j)

  -- what a slice at the key of a label has
  pub has-slice : (H : IdSet) (ls : List ℕ) → HasDepth (length ls) H → has (slice_at_mask nat_cmp H (mask_of l ls) k) (image a (without l ls)) ≡ has H (image a ls)
  has-slice H ls deep = same_test _ _
      (λ e.
      let s = has-slice_at_mask nat_cmp_total nat_cmp-IsAntisymmetric H (mask_of l ls) k (image a (without l ls)) e in
      ap (has H) (sym (is-image ls s.tuple (deep s.tuple s.there) s.fixed s.left)) ∙ s.there)
      (λ e.
      let n = deep (image a ls) e in
      ap (has (slice_at_mask nat_cmp H (mask_of l ls) k)) (sym (without_mask-image ls n))
      ∙ slice_at_mask-has nat_cmp_total nat_cmp-IsAntisymmetric H (mask_of l ls) k (image a ls) e (at_mask-image ls n))

  pub image-admits : (H : IdSet) (ls : List ℕ) → HasDepth (length ls) H → has H (image a ls) ≡ true → Admits H (mask_of l ls) k
  image-admits H ls deep e none =
      let t : false ≡ true = sym (set.contains-empty (slice_cmp nat_cmp) (image a (without l ls))) ∙ ap (λ S. has S (image a (without l ls))) (sym none) ∙ has-slice H ls deep ∙ e in
      cc

-- ---- at most three labels

pub positions-left : (l : ℕ) (ls : List ℕ) → length ls ≤ 3 → length (without l ls) + n_positions (mask_of l ls) ≡ length ls
positions-left l [] le = refl
positions-left l (p ∷ []) le = elim (nat_eq p l) as (λ b. length (cond (not b) (p ∷ []) []) + n_positions (cond b (2 * 0 + 1) (2 * 0)) ≡ 1) [ true ↦ refl | false ↦ refl ]
positions-left l (p ∷ q ∷ []) le =
    elim (nat_eq p l) as (λ b. length (cond (not b) (p ∷ without l (q ∷ [])) (without l (q ∷ []))) + n_positions (cond b (2 * mask_of l (q ∷ []) + 1) (2 * mask_of l (q ∷ []))) ≡ 2) [
      | true ↦ elim (nat_eq q l) as (λ b. length (cond (not b) (q ∷ []) []) + n_positions (2 * cond b (2 * 0 + 1) (2 * 0) + 1) ≡ 2) [ true ↦ refl | false ↦ refl ]
      | false ↦ elim (nat_eq q l) as (λ b. length (p ∷ cond (not b) (q ∷ []) []) + n_positions (2 * cond b (2 * 0 + 1) (2 * 0)) ≡ 2) [ true ↦ refl | false ↦ refl ]
    ]
positions-left l (p ∷ q ∷ r ∷ []) le = three (nat_eq p l) (nat_eq q l) (nat_eq r l) where
  three : (a b c : Bool) → length (cond (not a) (p ∷ cond (not b) (q ∷ cond (not c) (r ∷ []) []) (cond (not c) (r ∷ []) [])) (cond (not b) (q ∷ cond (not c) (r ∷ []) []) (cond (not c) (r ∷ []) [])))
      + n_positions (cond a (2 * cond b (2 * cond c (2 * 0 + 1) (2 * 0) + 1) (2 * cond c (2 * 0 + 1) (2 * 0)) + 1) (2 * cond b (2 * cond c (2 * 0 + 1) (2 * 0) + 1) (2 * cond c (2 * 0 + 1) (2 * 0))))
      ≡ 3
  three true true true = refl
  three true true false = refl
  three true false true = refl
  three true false false = refl
  three false true true = refl
  three false true false = refl
  three false false true = refl
  three false false false = refl
positions-left l (p ∷ q ∷ r ∷ s ∷ ls) le = absurd (omega (arith, le))
