-- The columns, the rows and the last line of an answer, put one after another.
use Rattle.std.proofs.Common.{◌≡◌, ◌∙◌, ℕ, List, ◌++◌, length, refl, sym, ap, subst}
use Rattle.std.specs.Prelude.{Result, Ok, Err, OnOk, OnErr, IfOk}
use Rattle.std.specs.declared.option.Option.{Option}
use Rattle.std.specs.List.{flat_map}
use Rattle.rdf_model.specs.Terms.{Text, Term}
use Rattle.tn_io.specs.declared.out.Out.{Out}
use Rattle.tn_io.specs.declared.outside.Failed.{Failed}
use Rattle.query_grammar.specs.Meaning.{Column}
use Rattle.bag_model.specs.AnswerLaws.{some_answer}
use Rattle.bag_model.specs.Listings.{Listing}
use Rattle.solution_model.specs.Texts.{header_text}
use Rattle.run_model.specs.Answers.{line_text, row_line, reply_text, Rows, rows_told}
use Rattle.tn_io.specs.OutText.{Puts}
use Rattle.tn_io.proofs.PutLemmas.{puts_both, puts_first, puts_same}
use Rattle.listing_text.specs.Rows.{PutsRows, PutsAnswer}

-- whether the rows were put, without their number
unit_of : Result ℕ Failed → Result (Unit {0}) Failed
unit_of (Ok n) = Ok tt
unit_of (Err e) = Err e

module _ {K : Type 0} {written : K → Option (List ℕ)} {faults : K → ℕ} (columns : List Column) where
  rows_puts : {mid new : Out K} {s : Listing Term} (r : Result ℕ Failed) → (p : PutsRows written faults mid new r s) → Puts written faults mid new (unit_of r) (flat_map row_line p.rows)
  unfolding unit_of
  rows_puts (Ok n) p = record { put = p.put; cut = tt; cause = record { later = p.cause.later; failed = tt }; grows = p.grows }
  rows_puts (Err e) p = record { put = tt; cut = p.cut; cause = record { later = p.cause.later; failed = p.cause.failed }; grows = p.grows }

  -- the columns were cut off
  pub columns_cut : {old new : Out K} (s : Listing Term) (done result : Result (Unit {0}) Failed) (e f : Failed) → done ≡ Err e → result ≡ Err f → Puts written faults old new done (line_text (header_text columns)) → PutsAnswer written faults old new result columns s
  columns_cut s done result e f is same p =
      let some = some_answer s.limit s.offset s.rows in
      record { rows = some.0; given = some.1; puts = puts_first done result e f (line_text (header_text columns)) (flat_map row_line some.0 ++ reply_text (Rows (rows_told (length some.0)))) is same p }

  -- the rows were cut off
  pub rows_cut : {old mid new : Out K} (s : Listing Term) (done : Result (Unit {0}) Failed) (u : Unit {0}) (r : Result ℕ Failed) (result : Result (Unit {0}) Failed) (e f : Failed) → done ≡ Ok u → r ≡ Err e → result ≡ Err f
      → Puts written faults old mid done (line_text (header_text columns)) → PutsRows written faults mid new r s → PutsAnswer written faults old new result columns s
  unfolding unit_of
  rows_cut s done u r result e f ok is same p q = record {
    rows = q.rows;
    given = q.given;
    puts = puts_both done result u (line_text (header_text columns)) (flat_map row_line q.rows ++ reply_text (Rows (rows_told (length q.rows)))) ok p
        (puts_first (unit_of r) result e f (flat_map row_line q.rows) (reply_text (Rows (rows_told (length q.rows)))) (ap unit_of is) same (rows_puts r q));
  }

  -- all was put but the last line
  pub answer_put : {old mid then new : Out K} (s : Listing Term) (done : Result (Unit {0}) Failed) (u : Unit {0}) (r : Result ℕ Failed) (n : ℕ) (result : Result (Unit {0}) Failed) → done ≡ Ok u → r ≡ Ok n
      → Puts written faults old mid done (line_text (header_text columns)) → PutsRows written faults mid then r s → Puts written faults then new result (reply_text (Rows n)) → PutsAnswer written faults old new result columns s
  unfolding unit_of
  answer_put {new = new} s done u r n result ok is p q last = record {
    rows = q.rows;
    given = q.given;
    puts = puts_both done result u (line_text (header_text columns)) (flat_map row_line q.rows ++ reply_text (Rows (rows_told (length q.rows)))) ok p
        (puts_both (unit_of r) result tt (flat_map row_line q.rows) (reply_text (Rows (rows_told (length q.rows)))) (ap unit_of is) (rows_puts r q)
        (puts_same _ _ (ap (λ k. reply_text (Rows k)) (subst (λ z. IfOk z (λ k. k ≡ rows_told (length q.rows))) is q.count)) last));
  }
