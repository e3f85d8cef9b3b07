-- Labels level by level.
use Rattle.std.specs.Prelude.{◌≡◌, ℕ, ◌+◌, Bool, true, false, not, cond, List, [], ◌∷◌, ◌++◌, refl, Option}
use Rattle.std.proofs.Common.{sym, ◌∙◌, ap, append_assoc}
use mathlib.Core.Bool.{beq}
use Rattle.std.proofs.lemmas.List.{map-append}
use Rattle.std.specs.List.{filter, range_with_len}
use Rattle.bag_list.specs.declared.level.Level.{Level}
use Rattle.bag_list.specs.Levels.{level_labels, tells, is_telling}
use Rattle.bag_list.proofs.Places.{append_none}
use Rattle.bag_list.proofs.Ranges.{filter-range_more}

module _ (columns : List (Option ℕ)) (distinct telling : Bool) (l : ℕ) where
  telling_is : beq (tells columns distinct l) telling ≡ is_telling columns distinct telling l
  telling_is = elim telling as (λ s. beq (tells columns distinct l) s ≡ is_telling columns distinct s l) [
    | true ↦ elim (tells columns distinct l) as (λ t. beq t true ≡ t) [ true ↦ refl | false ↦ refl ]
    | false ↦ elim (tells columns distinct l) as (λ t. beq t false ≡ not t) [ true ↦ refl | false ↦ refl ]
  ]

  telling_more : (b : Bool) → beq (tells columns distinct l) telling ≡ b → filter (is_telling columns distinct telling) (range_with_len 0 (l + 1)) ≡ filter (is_telling columns distinct telling) (range_with_len 0 l) ++ cond b (l ∷ []) []
  telling_more b e = filter-range_more (is_telling columns distinct telling) l ∙ ap (λ t. filter (is_telling columns distinct telling) (range_with_len 0 l) ++ cond t (l ∷ []) []) (sym telling_is ∙ e)

  -- a level for a label that is asked for, and none for another one
  pub labels_more : (old : List ℕ) (now : List Level) (f : Level) → f.label ≡ l → beq (tells columns distinct l) telling ≡ true → level_labels now ≡ old ++ filter (is_telling columns distinct telling) (range_with_len 0 l) → level_labels (now ++ f ∷ []) ≡ old ++ filter (is_telling columns distinct telling) (range_with_len 0 (l + 1))
  labels_more old now f is e before =
      map-append (λ g. g.label) now (f ∷ [])
      ∙ (λ j. before j ++ is j ∷ [])
      ∙ append_assoc old (filter (is_telling columns distinct telling) (range_with_len 0 l)) (l ∷ [])
      ∙ ap (λ xs. old ++ xs) (sym (telling_more true e))

  pub labels_same : (old : List ℕ) (now : List Level) → beq (tells columns distinct l) telling ≡ false → level_labels now ≡ old ++ filter (is_telling columns distinct telling) (range_with_len 0 l) → level_labels now ≡ old ++ filter (is_telling columns distinct telling) (range_with_len 0 (l + 1))
  labels_same old now e before = before ∙ ap (λ xs. old ++ xs) (sym (telling_more false e ∙ append_none _))
