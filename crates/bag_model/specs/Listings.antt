-- A listing of rows one by one: what it may still give, and what it gives in all.
use Rattle.std.specs.Prelude.{◌≡◌, ℕ, List, [], ◌∷◌, ◌++◌, Option, Some, refl}
use Rattle.std.proofs.Common.{sym, ◌∙◌, ap, subst}
use Rattle.std.proofs.lemmas.List.{append_assoc}
use Rattle.bag_model.specs.Answers.{IsAnswer}
use Rattle.bag_model.specs.AnswerLaws.{some_answer}

-- a listing: the label of each column, the row that was given last, if one was, the rows that weren't gone through in some
-- order, and how many of these are left out first and given at most
pub record Listing (A : Type 0) : Type 0 where
  pub columns : List (Option ℕ)
  pub present : Option (List (Option A))
  pub rows : List (List (Option A))
  pub offset : ℕ
  pub limit : Option ℕ

module _ {A : Type 0} where
  -- these rows may be what a listing gives from here on
  abbrev pub MayGive : Listing A → List (List (Option A)) → Type 0
  MayGive s rows = IsAnswer s.limit s.offset s.rows rows

  -- the listing goes on to a row: whatever it may give behind it, it may give after this row
  pub record GoesOn (old new : Listing A) : Type 0 where
    pub row : List (Option A)
    pub present : new.present ≡ Some row
    pub behind : (rows : List (List (Option A))) → MayGive new rows → MayGive old (row ∷ rows)

  -- the listing goes on from row to row, up to t
  abbrev pub Gives : Listing A → List (List (Option A)) → Listing A → Type 0
  Gives s [] t = s ≡ t
  Gives s (row ∷ rows) t = (next : Listing A) × (next.present ≡ Some row) × GoesOn s next × Gives next rows t

  -- these rows begin a list that the listing may give
  abbrev pub MayBegin : Listing A → List (List (Option A)) → Type 0
  MayBegin s front = (rest : List (List (Option A))) × MayGive s (front ++ rest)

  -- What a listing gives up to its end it may give, and each front of it begins what it may.
  pub record IsListed (s : Listing A) (rows : List (List (Option A))) (t : Listing A) : Type 0 where
    pub whole : MayGive t [] → MayGive s rows
    pub fronts : (front behind : List (List (Option A))) → rows ≡ front ++ behind → MayBegin s front

  gives_then : (s t : Listing A) (rows rest : List (List (Option A))) → Gives s rows t → MayGive t rest → MayGive s (rows ++ rest)
  gives_then s t [] rest g may = subst (λ l. MayGive l rest) (sym g) may
  gives_then s t (row ∷ rows) rest g may =
      let on = g.2 in
      let same : on.row ≡ row = of_some (sym on.present ∙ g.1) in
      subst (λ r. MayGive s (r ∷ (rows ++ rest))) same (on.behind (rows ++ rest) (gives_then g.0 t rows rest g.3 may)) where
        of_some : {x y : List (Option A)} → Some x ≡ Some y → x ≡ y
        of_some e = cc

  append-none : (rows : List (List (Option A))) → rows ++ [] ≡ rows
  append-none [] = refl
  append-none (row ∷ rows) = ap (λ l. row ∷ l) (append-none rows)

  pub listed : (s t : Listing A) (rows : List (List (Option A))) → Gives s rows t → IsListed s rows t
  listed s t rows g = record {
    whole = λ may. subst (MayGive s) (append-none rows) (gives_then s t rows [] g may);
    fronts = λ front behind e.
        let some = some_answer t.limit t.offset t.rows in
        (behind ++ some.0, subst (MayGive s) (ap (λ l. l ++ some.0) e ∙ append_assoc front behind some.0) (gives_then s t rows some.0 g some.1));
  }
