-- The texts of all rows in order, cut, are those of the sorted answer.
use Rattle.std.proofs.Common.{◌≡◌, ◌∙◌, ◌^◌, ◌<◌, arith, ℕ, List, [], ◌∷◌, ◌++◌, length, refl, sym, ap, subst}
use Rattle.std.specs.Prelude.{Option, map, Result, Ok, Err}
use Rattle.std.specs.List.{flat_map}
use Rattle.std.specs.List.Sorted.{IsPermutation, IsSorted}
use Rattle.rdf_model.specs.Terms.{Text, Term}
use Rattle.rdf_model.specs.Graph.{Graph}
use Rattle.rdf_model.specs.Sorting.{text_cmp}
use Rattle.query_grammar.specs.Meaning.{Query}
use Rattle.bag_model.specs.Listings.{Listing, MayGive}
use Rattle.query_plan.specs.declared.query.Query as plan
use Rattle.query_plan.specs.Seen.{query_seen}
use Rattle.tn_io.specs.declared.out.Out.{Out}
use Rattle.tn_io.specs.declared.outside.Failed.{Failed}
use Rattle.tn_io.specs.OutText.{Puts}
use Rattle.tn_io.proofs.PutLemmas.{puts_both, puts_first, puts_same}
use Rattle.run_model.specs.Answers.{line_text, row_line, reply_text, Rows, rows_told, Listed, answer_text}
use Rattle.solution_model.specs.Answers.{chosen_rows, cut, sorted_answer}
use Rattle.solution_model.specs.AnswerLaws.{unlimited, map-cut, sorted_texts}
use Rattle.solution_model.specs.Rows.{Row, all_rows}
use Rattle.solution_model.specs.Texts.{header_text, row_text}
use Rattle.sorted_rows.specs.declared.cut.Cut.{Cut}
use Rattle.sorted_rows.specs.Sorted.{IsUncut, GivesAllRows, all_texts}

-- the texts of all rows, sorted
pub texts_in_order : (q : Query) (G : Graph) (s : Listing Term) (rows : List Row) (found texts : List Text) → GivesAllRows q G s → MayGive s rows → found ≡ map row_text rows → IsPermutation found texts → IsSorted text_cmp texts → texts ≡ all_texts q G
texts_in_order q G s rows found texts gives may are moved sorted =
    sym (sorted_texts (unlimited q) G rows texts (gives rows may) (subst (λ ts. IsPermutation ts texts) are moved) sorted)

-- the texts of the sorted answer
pub cut_texts : (q : Query) (G : Graph) → cut q.limit q.offset (all_texts q G) ≡ map row_text (sorted_answer q G)
unfolding sorted_answer chosen_rows all_rows
cut_texts q G = sym (map-cut row_text q.limit q.offset (sorted_answer (unlimited q) G))

pub left_is : (q : Query) (G : Graph) (uncut : plan.Query) (bounds : Cut) (texts : List Text) → IsUncut q uncut bounds → texts ≡ all_texts q G → cut bounds.limit bounds.offset texts ≡ map row_text (sorted_answer q G)
left_is q G uncut bounds texts u same = (λ i. cut (u.limit i) (u.offset i) (same i)) ∙ cut_texts q G

pub lines_of : (rows : List Row) → flat_map line_text (map row_text rows) ≡ flat_map row_line rows
lines_of [] = refl
lines_of (row ∷ rows) = ap (λ z. row_line row ++ z) (lines_of rows)

length-texts : (rows : List Row) → length (map row_text rows) ≡ length rows
length-texts [] = refl
length-texts (row ∷ rows) = omega (arith, length-texts rows)

-- the parts of the answer in order

abbrev columns_text : Query → Text
columns_text q = line_text (header_text q.columns)

abbrev rows_text : Query → Graph → Text
rows_text q G = flat_map row_line (sorted_answer q G)

abbrev end_text : Query → Graph → Text
end_text q G = reply_text (Rows (rows_told (length (sorted_answer q G))))

module _ {K : Type 0} {written : K → Option (List ℕ)} {faults : K → ℕ} (q : Query) (G : Graph) where
  pub same_columns : {old new : Out K} {result : Result (Unit {0}) Failed} (uncut : plan.Query) (bounds : Cut) → IsUncut q uncut bounds → Puts written faults old new result (line_text (header_text (query_seen uncut).columns)) → Puts written faults old new result (columns_text q)
  same_columns uncut bounds u p = puts_same _ _ (ap (λ (r : Query). line_text (header_text r.columns)) u.whole) p

  pub same_rows : {old new : Out K} {result : Result (Unit {0}) Failed} (left : List Text) → left ≡ map row_text (sorted_answer q G) → Puts written faults old new result (flat_map line_text left) → Puts written faults old new result (rows_text q G)
  same_rows left is p = puts_same _ _ (ap (flat_map line_text) is ∙ lines_of (sorted_answer q G)) p

  pub same_end : {old new : Out K} {result : Result (Unit {0}) Failed} (left : List Text) → left ≡ map row_text (sorted_answer q G) → length left < 2 ^ 64 → Puts written faults old new result (reply_text (Rows (length left))) → Puts written faults old new result (end_text q G)
  same_end left is small p = puts_same _ _ (ap (λ n. reply_text (Rows n)) (told (length left) (length (sorted_answer q G)) (ap length is ∙ length-texts (sorted_answer q G)) small)) p where
    told : (n m : ℕ) → n ≡ m → n < 2 ^ 64 → n ≡ rows_told m
    told n m e lt = omega (arith, e, lt)

  -- the columns were cut off
  pub columns_cut : {old new : Out K} (done result : Result (Unit {0}) Failed) (e f : Failed) → done ≡ Err e → result ≡ Err f → Puts written faults old new done (columns_text q) → Puts written faults old new result (answer_text (Listed q.columns (sorted_answer q G)))
  columns_cut done result e f is same p = puts_first done result e f (columns_text q) (rows_text q G ++ end_text q G) is same p

  -- the rows were cut off
  pub rows_cut : {old mid new : Out K} (done rows result : Result (Unit {0}) Failed) (u : Unit {0}) (e f : Failed) → done ≡ Ok u → rows ≡ Err e → result ≡ Err f → Puts written faults old mid done (columns_text q) → Puts written faults mid new rows (rows_text q G)
      → Puts written faults old new result (answer_text (Listed q.columns (sorted_answer q G)))
  rows_cut done rows result u e f ok is same p r = puts_both done result u (columns_text q) (rows_text q G ++ end_text q G) ok p (puts_first rows result e f (rows_text q G) (end_text q G) is same r)

  -- all was put but the last line
  pub answer_put : {old mid then new : Out K} (done rows result : Result (Unit {0}) Failed) (u v : Unit {0}) → done ≡ Ok u → rows ≡ Ok v → Puts written faults old mid done (columns_text q) → Puts written faults mid then rows (rows_text q G) → Puts written faults then new result (end_text q G)
      → Puts written faults old new result (answer_text (Listed q.columns (sorted_answer q G)))
  answer_put done rows result u v ok is p r last = puts_both done result u (columns_text q) (rows_text q G ++ end_text q G) ok p (puts_both rows result v (rows_text q G) (end_text q G) is r last)
