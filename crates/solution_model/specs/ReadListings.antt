-- A listing of rows over elements that stand for others, read.
use Rattle.std.specs.Prelude.{◌≡◌, ℕ, ◌<◌, Bool, true, List, [], ◌∷◌, ◌++◌, length, take, drop, map, refl, Option, None, IfSome}
use Rattle.std.proofs.Common.{sym, ◌∙◌, ap, subst, arith, set, get_or}
use Rattle.std.proofs.Math.ListN.{get_or-map}
use Rattle.std.proofs.Math.Seq.{take-append_seam}
use Rattle.std.proofs.lemmas.List.{length-map, map-set, take-append-drop}
use Rattle.std.proofs.lemmas.List.Sorted.{IsPermutation-refl, IsPermutation-trans, IsPermutation-swap, IsPermutation-map, IsPermutation-keeps}
use Rattle.std.specs.Coded.{Coded, code_by, coded×, coded_ℕ, coded_list, coded_option}
use Rattle.std.specs.List.{AllByRecursion, swap, take-map}
use Rattle.std.specs.List.Sorted.{IsPermutation}
use Rattle.std.specs.Option.{option_map}
use Rattle.bag_model.specs.Answers.{IsAnswer, n_given}
use Rattle.bag_model.specs.AnswerLaws.{some_answer}
use Rattle.bag_model.specs.Listings.{Listing, MayGive, GoesOn}
use Rattle.solution_model.specs.Reading.{read_row}
use Rattle.solution_model.specs.ReadLaws.{is_known_row}

-- each row of a listing, read
abbrev pub read_listing : {A B : Type 0} → (A → B) → Listing A → Listing B
read_listing f s = record {
  columns = s.columns;
  present = option_map (read_row f) s.present;
  rows = map (read_row f) s.rows;
  offset = s.offset;
  limit = s.limit;
}

-- ---- a list that is read, in another order

module _ {X Y : Type 0} (g : X → Y) where
  -- the list ys is one of some members, read, and these are xs in another order
  pub record IsReadOrder (xs : List X) (ys : List Y) : Type 0 where
    pub members : List X
    pub is : map g members ≡ ys
    pub order : IsPermutation xs members

  map-swap : (xs : List X) (i j : ℕ) → map g (swap xs i j) ≡ swap (map g xs) i j
  map-swap [] i j = refl
  map-swap (d ∷ xs) i j =
      map-set g (set (d ∷ xs) i (get_or (d ∷ xs) j d)) j (get_or (d ∷ xs) i d)
      ∙ (λ k. set (map-set g (d ∷ xs) i (get_or (d ∷ xs) j d) k) j (sym (get_or-map g (d ∷ xs) i d) k))
      ∙ ap (λ v. set (set (map g (d ∷ xs)) i v) j (get_or (map g (d ∷ xs)) i (g d))) (sym (get_or-map g (d ∷ xs) j d))

  pub read_order : (xs : List X) (ys : List Y) → IsPermutation (map g xs) ys → IsReadOrder xs ys
  read_order xs ys moved = IsPermutation-keeps (map g xs) (IsReadOrder xs) (record { members = xs; is = refl; order = IsPermutation-refl xs }) step ys moved where
    step : (l : List Y) (i j : ℕ) → i < length l → j < length l → IsReadOrder xs l → IsReadOrder xs (swap l i j)
    step l i j p q r =
        let long : length r.members ≡ length l = sym (length-map r.members g) ∙ ap length r.is in
        record {
          members = swap r.members i j;
          is = map-swap r.members i j ∙ ap (λ k. swap k i j) r.is;
          order = IsPermutation-trans xs r.members (swap r.members i j) r.order
              (IsPermutation-swap r.members (swap r.members i j) i j (omega (arith, long, p)) (omega (arith, long, q)) refl);
        }

  -- an answer of what is read is an answer, read
  pub record IsReadAnswer (limit : Option ℕ) (offset : ℕ) (xs : List X) (ys : List Y) : Type 0 where
    pub members : List X
    pub is : map g members ≡ ys
    pub answer : IsAnswer limit offset xs members

  pub read_answer : (limit : Option ℕ) (offset : ℕ) (xs : List X) (ys : List Y) → IsAnswer limit offset (map g xs) ys → IsReadAnswer limit offset xs ys
  read_answer limit offset xs ys a =
      let r = read_order xs (ys ++ a.others) a.are in
      let front : map g (take (length ys) r.members) ≡ ys = sym (take-map g (length ys) r.members) ∙ ap (take (length ys)) r.is ∙ take-append_seam ys a.others in
      record {
        members = take (length ys) r.members;
        is = front;
        answer = record {
          number = sym (length-map (take (length ys) r.members) g) ∙ ap length front ∙ a.number ∙ ap (n_given limit offset) (length-map xs g);
          others = drop (length ys) r.members;
          are = subst (IsPermutation xs) (sym (take-append-drop (length ys) r.members)) r.order;
        };
      }

  map-append : (xs ys : List X) → map g (xs ++ ys) ≡ map g xs ++ map g ys
  map-append [] ys = refl
  map-append (x ∷ xs) ys = ap (λ zs. g x ∷ zs) (map-append xs ys)

  pub answer_read : (limit : Option ℕ) (offset : ℕ) (xs zs : List X) → IsAnswer limit offset xs zs → IsAnswer limit offset (map g xs) (map g zs)
  answer_read limit offset xs zs a = record {
    number = length-map zs g ∙ a.number ∙ ap (n_given limit offset) (sym (length-map xs g));
    others = map g a.others;
    are = subst (IsPermutation (map g xs)) (map-append zs a.others) (IsPermutation-map g xs (zs ++ a.others) a.are);
  }

-- ---- listings

module _ {A B : Type 0} (f : A → B) where
  pub goes_on_read : (s t : Listing A) → GoesOn s t → GoesOn (read_listing f s) (read_listing f t)
  goes_on_read s t on = record {
    row = read_row f on.row;
    present = ap (option_map (read_row f)) on.present;
    behind = λ rows may.
        let r = read_answer (read_row f) t.limit t.offset t.rows rows may in
        subst (λ l. MayGive (read_listing f s) (read_row f on.row ∷ l)) r.is
        (answer_read (read_row f) s.limit s.offset s.rows (on.row ∷ r.members) (on.behind r.members r.answer));
  }

  nothing_read : {X Y : Type 0} (g : X → Y) (xs : List X) → map g xs ≡ [] → xs ≡ []
  nothing_read g [] e = refl
  nothing_read g (x ∷ xs) e = absurd (let n : ⊥ = cc in n)

  -- it may end exactly where the listing may
  pub ends_read : (s : Listing A) → MayGive s [] → MayGive (read_listing f s) []
  ends_read s may = answer_read (read_row f) s.limit s.offset s.rows [] may

  pub read_ends : (s : Listing A) → MayGive (read_listing f s) [] → MayGive s []
  read_ends s may =
      let r = read_answer (read_row f) s.limit s.offset s.rows [] may in
      subst (MayGive s) (nothing_read (read_row f) r.members r.is) r.answer

module _ {A : Type 0} (known : A → Bool) where
  abbrev pub AreKnownRows : List (List (Option A)) → Type 0
  AreKnownRows rows = AllByRecursion (λ row. is_known_row known row ≡ true) rows

  -- each value that the listing gave or may give is known
  pub record GivesKnown (s : Listing A) : Type 0 where
    pub present : IfSome s.present (λ row. is_known_row known row ≡ true)
    pub rows : (rows : List (List (Option A))) → MayGive s rows → AreKnownRows rows

  pub goes_on_known : (s t : Listing A) → GivesKnown s → GoesOn s t → GivesKnown t
  goes_on_known s t known_s on = record {
    present =
        let some = some_answer t.limit t.offset t.rows in
        subst (λ p. IfSome p (λ row. is_known_row known row ≡ true)) (sym on.present) (known_s.rows (on.row ∷ some.0) (on.behind some.0 some.1)).0;
    rows = λ rows may. (known_s.rows (on.row ∷ rows) (on.behind rows may)).1;
  }

  -- a listing that has ended gives no further row
  pub ended_known : (t : Listing A) → t.present ≡ None → MayGive t [] → GivesKnown t
  ended_known t none ended = record {
    present = subst (λ p. IfSome p (λ row. is_known_row known row ≡ true)) (sym none) tt;
    rows = λ rows may. subst AreKnownRows (sym (empty rows (may.number ∙ sym ended.number))) tt;
  } where
    empty : {X : Type 0} (xs : List X) → length xs ≡ 0 → xs ≡ []
    empty [] e = refl
    empty (x ∷ xs) e = absurd (omega (arith, e))

  all_take : {X : Type 0} (P : X → Type 0) (xs ys : List X) → AllByRecursion P (xs ++ ys) → AllByRecursion P xs
  all_take P [] ys all = tt
  all_take P (x ∷ xs) ys all = (all.0, all_take P xs ys all.1)

-- ---- the code of a listing, by which proofs tell listings apart

abbrev Parts : Type 0 → Type 0
Parts A = List (Option ℕ) × (Option (List (Option A)) × (List (List (Option A)) × (ℕ × Option ℕ)))

abbrev pub coded_listing : {A : Type 0} → Coded A → Coded (Listing A)
coded_listing {A} code = code_by (Parts A)
    (coded× (coded_list (coded_option coded_ℕ)) (coded× (coded_option (coded_list (coded_option code))) (coded× (coded_list (coded_list (coded_option code))) (coded× coded_ℕ (coded_option coded_ℕ)))))
    (λ s. (s.columns, (s.present, (s.rows, (s.offset, s.limit)))))
    (λ p. record { columns = p.0; present = p.1.0; rows = p.1.1.0; offset = p.1.1.1.0; limit = p.1.1.1.1 })
    (λ _. refl)
