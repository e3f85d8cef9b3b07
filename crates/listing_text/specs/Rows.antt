-- What is put of the rows that a listing may give.
use Rattle.std.specs.Prelude.{◌≡◌, ℕ, true, List, length, ◌==◌, Some, Result, OnErr, IfOk}
use Rattle.std.specs.declared.option.Option.{Option}
use Rattle.std.specs.List.{flat_map, list_all}
use Rattle.std.specs.Io.KnownBytes.{append_known}
use Rattle.rdf_model.specs.Terms.{Term}
use Rattle.query_grammar.specs.Meaning.{Column}
use Rattle.bag_model.specs.Listings.{Listing, MayGive}
use Rattle.solution_model.specs.Rows.{Row}
use Rattle.run_model.specs.Answers.{row_line, rows_told, Listed, answer_text}
use Rattle.tn_io.specs.declared.out.Out.{Out}
use Rattle.tn_io.specs.declared.outside.Failed.{Failed}
use Rattle.tn_io.specs.Causes.{HasCause}
use Rattle.tn_io.specs.Known.{Begins}
use Rattle.tn_io.specs.OutText.{all_put, Puts}

-- each row that a listing may give has a value or none for each column
abbrev pub HasWidth : Listing Term → Type 0
HasWidth s = (rows : List Row) → MayGive s rows → list_all (λ (row : Row). length row == length s.columns) rows ≡ true

-- what holds of the present row, where it has so many fields
abbrev pub OfPresent : Listing Term → ℕ → (Row → Type 0) → Type 0
OfPresent s columns P = (row : Row) → s.present ≡ Some row → length row ≡ columns → P row

-- Rows that the listing may give were put, each on its line, or a front of them and then a fault.
pub record PutsRows {K : Type 0} (written : K → Option (List ℕ)) (faults : K → ℕ) (old new : Out K) (result : Result ℕ Failed) (s : Listing Term) : Type 0 where
  pub rows : List Row
  pub given : MayGive s rows
  pub put : IfOk result (λ n. all_put written new ≡ append_known (all_put written old) (flat_map row_line rows))
  pub count : IfOk result (λ n. n ≡ rows_told (length rows))
  pub cut : OnErr result (Begins (written new.sink.now) (append_known (all_put written old) (flat_map row_line rows)))
  pub cause : HasCause (faults old.sink.now) (faults new.sink.now) result
  pub grows : Begins (written old.sink.now) (written new.sink.now)

-- An answer of rows that the listing may give was put, or a front of it and then a fault.
pub record PutsAnswer {K : Type 0} (written : K → Option (List ℕ)) (faults : K → ℕ) (old new : Out K) (result : Result (Unit {0}) Failed) (columns : List Column) (s : Listing Term) : Type 0 where
  pub rows : List Row
  pub given : MayGive s rows
  pub puts : Puts written faults old new result (answer_text (Listed columns rows))
