-- The texts of the members of a set in order are those of any list of the members.
use Rattle.std.specs.Prelude.{◌≡◌, ◌↔◌, ℕ, ◌+◌, ◌≤◌, Bool, true, false, cond, List, [], ◌∷◌, ◌++◌, length, refl, None, Some}
use Rattle.std.specs.Prelude.{map as each}
use Rattle.std.proofs.Common.{sym, ◌∙◌, ap, subst, arith}
use Rattle.std.proofs.lemmas.List.{length-map}
use Rattle.std.proofs.lemmas.List.Sums.{sum_by-cons, sum_by-append}
use Rattle.std.specs.List.{sum_by}
use Rattle.std.specs.List.Sorted.{IsPermutation, IsSorted}
use Rattle.std.specs.declared.cmp.Ordering.{Ordering}
use Rattle.std.specs.Cmp.{IsTotalOrder}
use Rattle.std.specs.FinMap as finite
use Rattle.std.specs.FinSet.{FinSet, IsAntisymmetric}
use Rattle.std.specs.FinSet as set
use Rattle.hypertrie_model.specs.Folds.{fold_over, marked}
use Rattle.hypertrie_model.specs.FoldLaws.{Swaps, fold_over-empty, fold_over-insert, get-marked, marked-insert, marked-empty}
use Rattle.hypertrie_model.specs.SetInduction.{set_ind}
use Rattle.rdf_model.specs.Terms.{Text}
use Rattle.set_image.specs.Images.{image, IsOneToOneOn}
use Rattle.set_image.specs.ImageLaws.{image-from_list}
use Rattle.set_image.specs.OneToOneLaws.{len-image}
use Rattle.rdf_model.specs.Sorting.{AreMembersOf, AreSortedTexts, text_cmp, in_order, merged, sorted_texts}
use Rattle.rdf_model.specs.SortLaws.{sum_in_order, in_order-sums, sorted_is, in_order_moved, in_order_sorted}

sum_merged : (f : Text → ℕ) (xs ys : List Text) → sum_by f (merged xs ys) ≡ sum_by f xs + sum_by f ys
sum_merged f xs ys = sum_in_order f (xs ++ ys) ∙ sum_by-append f xs ys

merged_swaps : Swaps merged
merged_swaps a b c = in_order-sums (a ++ merged b c) (b ++ merged a c) (λ f. omega (arith, sum_by-append f a (merged b c), sum_by-append f b (merged a c), sum_merged f b c, sum_merged f a c))

module _ {K : Type 0} {R : K → K → Ordering} (o : IsTotalOrder R) (exact : IsAntisymmetric R) where
  grown : (H : FinSet R) (x : K) (b : Bool) → set.contains H x ≡ b → set.len (set.insert H x) ≡ cond b (set.len H) (set.len H + 1)
  grown H x b e = set.len-insert o H x ∙ ap (λ b. cond b (set.len H) (set.len H + 1)) e

  by_cases : (P : Type 0) (b : Bool) → (b ≡ true → P) → (b ≡ false → P) → P
  by_cases P true then else = then refl
  by_cases P false then else = else refl

  -- no list has fewer items than its set has members
  most : (xs : List K) → set.len (set.from_list {R = R} xs) ≤ length xs
  most [] = omega (arith, set.len-empty R)
  most (x ∷ xs) =
      let H : FinSet R = set.from_list xs in
      let rest : set.len H ≤ length xs = most xs in
      by_cases (set.len (set.insert H x) ≤ length (x ∷ xs)) (set.contains H x) (λ e. let n = grown H x true e in omega arith) (λ e. let n = grown H x false e in omega arith)

  -- the first of a list of different items isn't among the rest
  record IsFresh (x : K) (xs : List K) : Type 0 where
    new : set.contains (set.from_list {R = R} xs) x ≡ false
    once : length xs ≡ set.len (set.from_list {R = R} xs)

  fresh : (x : K) (xs : List K) → length (x ∷ xs) ≡ set.len (set.from_list {R = R} (x ∷ xs)) → IsFresh x xs
  fresh x xs once =
      let H : FinSet R = set.from_list xs in
      let rest : set.len H ≤ length xs = most xs in
      let whole : length (x ∷ xs) ≡ set.len (set.insert H x) = once in
      by_cases (IsFresh x xs) (set.contains H x) (λ e. let n = grown H x true e in absurd (omega arith)) (λ e. let n = grown H x false e in record { new = e; once = omega arith })

  -- each set has a list of its members
  members_of : (H : FinSet R) → (xs : List K) × AreMembersOf H xs
  members_of = set_ind o exact (λ H. (xs : List K) × AreMembersOf H xs)
      ([], record { all = refl; once = sym (set.len-empty R) })
      (λ H x new m. let n = grown H x false new in (x ∷ m.0, record { all = ap (λ S. set.insert S x) m.1.all; once = omega (arith, m.1.once) }))

  module _ (text : K → Text) where
    sorted_once : (xs : List K) → length xs ≡ set.len (set.from_list {R = R} xs) → in_order (each text xs) ≡ sorted_texts text (set.from_list {R = R} xs)
    unfolding sorted_texts
    sorted_once [] once = sym (ap (λ m. fold_over merged [] m (λ k _. text k ∷ [])) (marked-empty o exact) ∙ fold_over-empty o exact merged [] (λ k _. text k ∷ []))
    sorted_once (x ∷ xs) once =
        let H : FinSet R = set.from_list xs in
        let s = fresh x xs once in
        let none : finite.get (marked H) x ≡ None = get-marked o exact H x ∙ ap (λ b. cond b (Some tt) None) s.new in
        let more = ap (λ m. fold_over merged [] m (λ k _. text k ∷ [])) (marked-insert o exact H x) ∙ fold_over-insert o exact merged [] merged_swaps (marked H) (λ k _. text k ∷ []) x tt none in
        in_order-sums (text x ∷ each text xs) (text x ∷ in_order (each text xs)) (λ f. omega (arith, sum_by-cons f (text x) (each text xs), sum_by-cons f (text x) (in_order (each text xs)), sum_in_order f (each text xs)))
        ∙ ap (λ ts. in_order (text x ∷ ts)) (sorted_once xs s.once)
        ∙ sym more

    -- the texts of the members in order, whatever the list
    pub members_in_order : (H : FinSet R) (xs : List K) → AreMembersOf H xs → in_order (each text xs) ≡ sorted_texts text H
    members_in_order H xs members = sorted_once xs (members.once ∙ ap set.len (sym members.all)) ∙ ap (sorted_texts text) members.all

    -- and so what they are sorted to
    pub members_sorted : (H : FinSet R) (xs : List K) (lines : List Text) → AreMembersOf H xs → IsPermutation (each text xs) lines → IsSorted text_cmp lines → lines ≡ sorted_texts text H
    members_sorted H xs lines members moved sorted = sorted_is (each text xs) lines moved sorted ∙ members_in_order H xs members

    are_sorted : (H : FinSet R) → AreSortedTexts text H (sorted_texts text H)
    are_sorted H =
        let m = members_of H in
        subst (AreSortedTexts text H) (members_in_order H m.0 m.1) (record { members = m.0; listed = m.1; each = in_order_moved (each text m.0); sorted = in_order_sorted (each text m.0) })

    -- the sorted texts of a set are the only sorted list of its members' texts
    pub sorted_texts_only : (H : FinSet R) (texts : List Text) → AreSortedTexts text H texts ↔ (texts ≡ sorted_texts text H)
    sorted_texts_only H texts = (λ a. members_sorted H a.members texts a.listed a.each a.sorted, λ e. subst (AreSortedTexts text H) (sym e) (are_sorted H))

module _ {X Y : Type 0} {Q : X → X → Ordering} {P : Y → Y → Ordering} (o : IsTotalOrder Q) (exact : IsAntisymmetric Q) (op : IsTotalOrder P) (exact_p : IsAntisymmetric P) where
  -- the values of the members are the members of the image
  pub members_image : (f : X → Y) (H : FinSet Q) → IsOneToOneOn f H → (xs : List X) → AreMembersOf H xs → AreMembersOf (image P f H) (each f xs)
  members_image f H one xs members = record {
    all = sym (image-from_list o exact op exact_p f xs) ∙ ap (image P f) members.all;
    once = length-map xs f ∙ members.once ∙ sym (len-image o exact op exact_p f H one);
  }
