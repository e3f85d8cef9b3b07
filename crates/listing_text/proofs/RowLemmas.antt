-- Rows that are put one by one, and what a listing may give behind them.
use Rattle.std.proofs.Common.{◌≡◌, ◌∙◌, ℕ, zero, suc, ◌+◌, ◌-◌, ◌^◌, ◌<◌, ◌≤◌, Bool, true, false, ◌&&◌, ◌==◌, min, List, [], ◌∷◌, ◌++◌, length, take, refl, sym, ap, subst, arith, append_assoc, append-nil, length-append}
use Rattle.std.specs.Prelude.{Option, Some, None, Result, Ok, Err, OnOk, OnErr, IfOk, slice_get, map}
use Rattle.std.specs.List.{flat_map, list_all}
use Rattle.std.specs.Option.{option_map}
use Rattle.std.specs.Io.KnownBytes.{append_known}
use Rattle.std.proofs.lemmas.Bool.Decides.{nat_tests}
use Rattle.std.proofs.lemmas.Grind.{flat_map-append}
use Rattle.rdf_model.specs.Terms.{Text, Term}
use Rattle.tn_io.specs.Causes.{HasCause}
use Rattle.tn_io.specs.Known.{Begins}
use Rattle.tn_io.specs.OutText.{all_put}
use Rattle.tn_io.specs.declared.out.Out.{Out}
use Rattle.tn_io.specs.declared.outside.Failed.{Failed}
use Rattle.tn_io.proofs.KnownLemmas.{append_known-append, begins_more, begins_trans, begins_self}
use Rattle.bag_model.specs.Answers.{n_given}
use Rattle.bag_model.specs.AnswerLaws.{some_answer}
use Rattle.bag_model.specs.Listings.{Listing, MayGive, GoesOn}
use Rattle.solution_model.specs.Rows.{Row}
use Rattle.solution_model.specs.Texts.{tabbed, field_text, row_text}
use Rattle.run_model.specs.Answers.{row_line, rows_told}
use Rattle.tn_io.specs.OutText.{Puts}
use Rattle.listing_text.specs.Rows.{HasWidth, PutsRows}

-- so many rows a listing has to give
abbrev pub to_give : Listing Term → ℕ
to_give s = n_given s.limit s.offset (length s.rows)

same_row : {x y : Row} → Some x ≡ Some y → x ≡ y
same_row e = cc

-- one row fewer behind it
pub fewer : (s t : Listing Term) → GoesOn s t → to_give t < to_give s
fewer s t on =
    let some = some_answer t.limit t.offset t.rows in
    let before = (on.behind some.0 some.1).number in
    let after = some.1.number in
    omega (arith, before, after)

-- the width of the row that was given, and of those behind it
pub wide_row : (s t : Listing Term) (row : Row) → HasWidth s → GoesOn s t → t.present ≡ Some row → length row ≡ length s.columns
wide_row s t row wide on is =
    let some = some_answer t.limit t.offset t.rows in
    ap length (sym (same_row (sym on.present ∙ is))) ∙ first (length on.row) (length s.columns) (list_all (λ (r : Row). length r == length s.columns) some.0) (wide (on.row ∷ some.0) (on.behind some.0 some.1)) where
      first : (n m : ℕ) (b : Bool) → ((n == m) && b) ≡ true → n ≡ m
      first n m b e = by (n == m) refl e where
        by : (c : Bool) → (n == m) ≡ c → (c && b) ≡ true → n ≡ m
        by true is e = grind (arith, nat_tests)
        by false is e = absurd (let f : ⊥ = cc in f)

pub wide_behind : (s t : Listing Term) → HasWidth s → GoesOn s t → t.columns ≡ s.columns → HasWidth t
wide_behind s t wide on same rows may =
    subst (λ columns. list_all (λ (r : Row). length r == length columns) rows ≡ true) (sym same) (rest (length on.row == length s.columns) (list_all (λ (r : Row). length r == length s.columns) rows) (wide (on.row ∷ rows) (on.behind rows may))) where
      rest : (a b : Bool) → (a && b) ≡ true → b ≡ true
      rest true b e = e
      rest false b e = absurd (let f : ⊥ = cc in f)

-- The rows that were given so far, and put.
pub record HasPut {K : Type 0} (written : K → Option (List ℕ)) (old now : Out K) (s t : Listing Term) (count : ℕ) : Type 0 where
  pub rows : List Row
  pub behind : (more : List Row) → MayGive t more → MayGive s (rows ++ more)
  pub put : all_put written now ≡ append_known (all_put written old) (flat_map row_line rows)
  pub told : count ≡ rows_told (length rows)

pub append_none : (a : Option (List ℕ)) → a ≡ append_known a []
append_none None = refl
append_none (Some a) = ap Some (sym (append-nil a))

pub none_put : {K : Type 0} {written : K → Option (List ℕ)} {old : Out K} (s : Listing Term) → HasPut written old old s s 0
none_put {K} {written} {old} s = record { rows = []; behind = λ more may. may; put = append_none (all_put written old); told = refl }

lines : (rows : List Row) (row : Row) → flat_map row_line (rows ++ row ∷ []) ≡ flat_map row_line rows ++ row_line row
lines rows row = flat_map-append row_line rows (row ∷ []) ∙ ap (λ z. flat_map row_line rows ++ z) (append-nil (row_line row))

module _ {K : Type 0} {written : K → Option (List ℕ)} {old now : Out K} {s t : Listing Term} {count : ℕ} (h : HasPut written old now s t count) where
  moved : (u : Listing Term) (on : GoesOn t u) (more : List Row) → MayGive u more → MayGive s ((h.rows ++ on.row ∷ []) ++ more)
  moved u on more may = subst (MayGive s) (sym (append_assoc h.rows (on.row ∷ []) more)) (h.behind (on.row ∷ more) (on.behind more may))

  -- one row more
  pub one_put : (new : Out K) (u : Listing Term) (again : ℕ) (on : GoesOn t u) → all_put written new ≡ append_known (all_put written now) (row_line on.row) → again ≡ min (count + 1) (2 ^ 64 - 1) → HasPut written old new s u again
  one_put new u again on is sum = record {
    rows = h.rows ++ on.row ∷ [];
    behind = moved u on;
    put = is ∙ ap (λ z. append_known z (row_line on.row)) h.put ∙ append_known-append (all_put written old) (flat_map row_line h.rows) (row_line on.row) ∙ ap (append_known (all_put written old)) (sym (lines h.rows on.row));
    told = sum ∙ next count (length h.rows) h.told ∙ ap rows_told (let e : length h.rows + 1 ≡ length (h.rows ++ on.row ∷ []) = omega (arith, length-append h.rows (on.row ∷ [])) in e);
  } where
    next : (c n : ℕ) → c ≡ min n (2 ^ 64 - 1) → min (c + 1) (2 ^ 64 - 1) ≡ min (n + 1) (2 ^ 64 - 1)
    next c n e = omega (arith, e)

  -- no row is left
  pub all_rows_put : (faults : K → ℕ) (result : Result ℕ Failed) → result ≡ Ok count → MayGive t [] → HasCause (faults old.sink.now) (faults now.sink.now) result → Begins (written old.sink.now) (written now.sink.now) → PutsRows written faults old now result s
  all_rows_put faults result is may cause grows = record {
    rows = h.rows;
    given = subst (MayGive s) (append-nil h.rows) (h.behind [] may);
    put = subst (λ r. IfOk r (λ n. all_put written now ≡ append_known (all_put written old) (flat_map row_line h.rows))) (sym is) h.put;
    count = subst (λ r. IfOk r (λ n. n ≡ rows_told (length h.rows))) (sym is) h.told;
    cut = subst (λ r. OnErr r (Begins (written now.sink.now) (append_known (all_put written old) (flat_map row_line h.rows)))) (sym is) tt;
    cause = cause;
    grows = grows;
  }

  -- a row was cut off
  pub row_cut : (faults : K → ℕ) (new : Out K) (u : Listing Term) (result : Result ℕ Failed) (e : Failed) → result ≡ Err e → (on : GoesOn t u) → Begins (written new.sink.now) (append_known (all_put written now) (row_line on.row))
      → HasCause (faults old.sink.now) (faults new.sink.now) result → Begins (written old.sink.now) (written new.sink.now) → PutsRows written faults old new result s
  row_cut faults new u result e is on cut cause grows =
      let some = some_answer u.limit u.offset u.rows in
      record {
        rows = (h.rows ++ on.row ∷ []) ++ some.0;
        given = moved u on some.0 some.1;
        put = subst (λ r. IfOk r (λ n. all_put written new ≡ append_known (all_put written old) (flat_map row_line ((h.rows ++ on.row ∷ []) ++ some.0)))) (sym is) tt;
        count = subst (λ r. IfOk r (λ n. n ≡ rows_told (length ((h.rows ++ on.row ∷ []) ++ some.0)))) (sym is) tt;
        cut = subst (λ r. OnErr r (Begins (written new.sink.now) (append_known (all_put written old) (flat_map row_line ((h.rows ++ on.row ∷ []) ++ some.0))))) (sym is)
            (whole (written new.sink.now) on.row some.0 cut);
        cause = cause;
        grows = grows;
      } where
        whole : (w : Option (List ℕ)) (row : Row) (more : List Row) → Begins w (append_known (all_put written now) (row_line row)) → Begins w (append_known (all_put written old) (flat_map row_line ((h.rows ++ row ∷ []) ++ more)))
        whole w row more cut =
            subst (Begins w)
            (append_known-append (append_known (all_put written old) (flat_map row_line h.rows)) (row_line row) (flat_map row_line more)
            ∙ append_known-append (all_put written old) (flat_map row_line h.rows) (row_line row ++ flat_map row_line more)
            ∙ ap (append_known (all_put written old)) (sym (append_assoc (flat_map row_line h.rows) (row_line row) (flat_map row_line more)) ∙ ap (λ z. z ++ flat_map row_line more) (sym (lines h.rows row)) ∙ sym (flat_map-append row_line (h.rows ++ row ∷ []) more)))
            (begins_more w (append_known (append_known (all_put written old) (flat_map row_line h.rows)) (row_line row)) (flat_map row_line more)
            (subst (λ z. Begins w (append_known z (row_line row))) h.put cut))

-- the fields of a row, as far as its values are known
pub field_at : (row : Row) (i : ℕ) (v : Option Term) → slice_get row i ≡ Some v → slice_get (map field_text row) i ≡ Some (field_text v)
field_at [] i v e = absurd (let f : ⊥ = cc in f)
field_at (u ∷ row) zero v e = ap (λ (w : Option Term). Some (field_text w)) (let same : u ≡ v = cc in same)
field_at (u ∷ row) (suc i) v e = field_at row i v e

pub fields_long : (row : Row) → length (map field_text row) ≡ length row
fields_long [] = refl
fields_long (v ∷ row) = omega (arith, fields_long row)
