-- When a graph and the triples of some lines are more than the graph may have.
use Rattle.std.proofs.Common.{◌≡◌, ◌∙◌, ◌⊎◌, inl, inr, ℕ, ◌+◌, ◌<◌, ◌≤◌, Bool, true, false, cond, nat_lt, List, [], ◌∷◌, ◌++◌, refl, ap, arith, append-nil}
use Rattle.std.proofs.lemmas.Bool.Decides.{nat_tests}
use Rattle.std.specs.FinSet as set
use Rattle.rdf_model.specs.Terms.{Triple}
use Rattle.rdf_model.specs.Graph.{Graph, triples_total}
use Rattle.script_model.specs.Commands.{Inserts}
use Rattle.run_model.specs.Sayings.{is_over}
use Rattle.line_batch.proofs.GraphLemmas.{lacked, lacked-push, len-with_all}

more_than : (most n : ℕ) → most < n → nat_lt most n ≡ true
more_than most n lt = grind (arith, nat_tests)

no_more_than : (most n : ℕ) → n ≤ most → nat_lt most n ≡ false
no_more_than most n le = grind (arith, nat_tests)

is_more : (most n : ℕ) → nat_lt most n ≡ true → most < n
is_more most n e = grind (arith, nat_tests)

is_no_more : (most n : ℕ) → nat_lt most n ≡ false → n ≤ most
is_no_more most n e = grind (arith, nat_tests)

module _ (most : ℕ) (G : Graph) where
  -- nothing is new in the list, or there is room for what is
  abbrev pub HasRoomFor : List Triple → Type 0
  HasRoomFor B = (set.len (lacked G B) ≡ 0) ⊎ (set.len G + set.len (lacked G B) ≤ most)

  -- no triple more, or one for which there is no place
  abbrev pub IsFullFor : List Triple → Triple → Type 0
  IsFullFor B t = (most < set.len G) ⊎ ((set.contains G t ≡ false) × (set.contains (lacked G B) t ≡ false) × (most ≤ set.len G + set.len (lacked G B)))

  over_by : (B : List Triple) → is_over Inserts most G B ≡ nat_lt most (set.len G + set.len (lacked G B))
  over_by B = ap (nat_lt most) (len-with_all G B)

  -- a line that says no triple is refused where the graph alone is too large
  pub over_alone : (B : List Triple) → HasRoomFor B → nat_lt most (set.len G) ≡ true → is_over Inserts most G (B ++ []) ≡ true
  over_alone B room e = ap (is_over Inserts most G) (append-nil B) ∙ over_by B ∙ more_than most (set.len G + set.len (lacked G B)) (let lt = is_more most (set.len G) e in omega (arith, lt))

  pub not_over_alone : (B : List Triple) → HasRoomFor B → nat_lt most (set.len G) ≡ false → is_over Inserts most G (B ++ []) ≡ false
  not_over_alone B room e = ap (is_over Inserts most G) (append-nil B) ∙ over_by B ∙ no_more_than most (set.len G + set.len (lacked G B)) (by room) where
    by : HasRoomFor B → set.len G + set.len (lacked G B) ≤ most
    by (inl none) = let le = is_no_more most (set.len G) e in omega (arith, none, le)
    by (inr le) = le

  -- how many are new with one triple more
  len_push : (B : List Triple) (t : Triple) → set.len (lacked G (B ++ t ∷ [])) ≡ cond (set.contains G t) (set.len (lacked G B)) (cond (set.contains (lacked G B) t) (set.len (lacked G B)) (set.len (lacked G B) + 1))
  len_push B t = ap set.len (lacked-push G B t) ∙ by (set.contains G t) where
    by : (b : Bool) → set.len (cond b (lacked G B) (set.insert (lacked G B) t)) ≡ cond b (set.len (lacked G B)) (cond (set.contains (lacked G B) t) (set.len (lacked G B)) (set.len (lacked G B) + 1))
    by true = refl
    by false = set.len-insert triples_total (lacked G B) t

  module _ (B : List Triple) (t : Triple) where
    abbrev n : ℕ
    n = set.len (lacked G B)

    abbrev pushed : Bool → Bool → ℕ
    pushed g d = cond g n (cond d n (n + 1))

    pub full_over : IsFullFor B t → is_over Inserts most G (B ++ t ∷ []) ≡ true
    full_over full = over_by (B ++ t ∷ []) ∙ more_than most (set.len G + set.len (lacked G (B ++ t ∷ []))) (by full) where
      by : IsFullFor B t → most < set.len G + set.len (lacked G (B ++ t ∷ []))
      by (inl lt) = omega (arith, lt)
      by (inr f) = let len : set.len (lacked G (B ++ t ∷ [])) ≡ n + 1 = len_push B t ∙ (λ i. pushed (f.0 i) (f.1 i)) in omega (arith, len, f.2)

    le_push : HasRoomFor B → (IsFullFor B t → ⊥) → set.len G + set.len (lacked G (B ++ t ∷ [])) ≤ most
    le_push room free = by (set.contains G t) (set.contains (lacked G B) t) refl refl where
      small : set.len G ≤ most
      small = below (set.len G) refl where
        below : (m : ℕ) → set.len G ≡ m → m ≤ most
        below m e = elim (nat_lt most m) as (λ b. nat_lt most m ≡ b → m ≤ most) [
          | true ↦ λ f. absurd (free (inl (let lt = is_more most m f in omega (arith, lt, e))))
          | false ↦ λ f. is_no_more most m f
        ] refl

      before : HasRoomFor B → set.len G + n ≤ most
      before (inl none) = omega (arith, none, small)
      before (inr le) = le

      by : (g d : Bool) → set.contains G t ≡ g → set.contains (lacked G B) t ≡ d → set.len G + set.len (lacked G (B ++ t ∷ [])) ≤ most
      by true d e f = let len : set.len (lacked G (B ++ t ∷ [])) ≡ n = len_push B t ∙ ap (λ g. pushed g (set.contains (lacked G B) t)) e in omega (arith, len, before room)
      by false true e f = let len : set.len (lacked G (B ++ t ∷ [])) ≡ n = len_push B t ∙ (λ i. pushed (e i) (f i)) in omega (arith, len, before room)
      by false false e f =
          let len : set.len (lacked G (B ++ t ∷ [])) ≡ n + 1 = len_push B t ∙ (λ i. pushed (e i) (f i)) in
          let lt : set.len G + n < most = below (set.len G + n) refl in
          omega (arith, len, lt) where
            below : (m : ℕ) → set.len G + n ≡ m → m < most
            below m is = elim (nat_lt m most) as (λ b. nat_lt m most ≡ b → m < most) [
              | true ↦ λ q. is_more m most q
              | false ↦ λ q. absurd (free (inr (e, f, (let le = is_no_more m most q in omega (arith, le, is)))))
            ] refl

    pub not_full_over : HasRoomFor B → (IsFullFor B t → ⊥) → (is_over Inserts most G (B ++ t ∷ []) ≡ false) × HasRoomFor (B ++ t ∷ [])
    not_full_over room free =
        let le = le_push room free in
        (over_by (B ++ t ∷ []) ∙ no_more_than most (set.len G + set.len (lacked G (B ++ t ∷ []))) le, inr le)
