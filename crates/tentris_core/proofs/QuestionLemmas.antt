-- The text of a query line by line, its answers, and the widths of their rows.
use Rattle.std.proofs.lemmas.List.Folds.{list_all-append}
use Rattle.std.specs.List.{list_all, list_any, filter}
use Rattle.std.proofs.lemmas.List.Sorted.{list_any-IsPermutation}
use Rattle.std.specs.Prelude.{map}
use Rattle.rdf_model.specs.Terms.{Term}
use Rattle.rdf_model.specs.Graph.{Graph, term_cmp}
use Rattle.query_grammar.specs.Meaning as meaning
use Rattle.query_grammar.specs.Meaning.{Query, query_of}
use Rattle.bag_model.specs.Answers as bag
use Rattle.bag_model.specs.Answers.{same_row, first_places}
use Rattle.bag_model.specs.Listings.{Listing, MayGive}
use Rattle.bag_model.specs.Solutions.{row_of}
use Rattle.solution_model.specs.Answers.{IsAnswerTo, chosen_rows, sorted_answer}
use Rattle.solution_model.specs.AnswerLaws.{sorted_answers}
use Rattle.solution_model.specs.Rows.{Row, column_labels, solutions, all_rows}
use Rattle.script_model.specs.Commands as script
use Rattle.run_model.specs.Answers as model
use Rattle.run_model.specs.Questions.{fault_refusal, question_refusal}
use Rattle.run_model.specs.Steps as steps
use Rattle.graph_store.specs.StoreState.{StoreState, graph}
use Rattle.answer_text.specs.declared.Refusal.{Refusal}
use Rattle.answer_text.specs.declared.Refusal.TheVariants as cause
use Rattle.answer_text.specs.Seen.{refusal_of}
use Rattle.tentris_core.specs.declared.question.Question.TheVariants.{Refused}
use Rattle.tentris_core.specs.declared.outcome.Outcome.{Outcome}
use Rattle.tentris_core.specs.Puts.{WritesAnswer}
use Rattle.line_batch.specs.Sound.{IsBetweenCommands}
use Rattle.line_batch.specs.Carrying.{Around, Carries}
use Rattle.tentris_core.specs.Questions.{IsGathered, IsFault, AnswersQuestion}
use Rattle.query_plan.specs.declared.query.Query as plan
use Rattle.query_plan.specs.Seen.{query_seen}
use Rattle.sorted_rows.specs.Sorted.{IsUncut, GivesAllRows}
use Rattle.sorted_rows.specs.declared.cut.Cut.{Cut}
use Rattle.std.proofs.Common.{◌≡◌, ◌∙◌, ℕ, ◌+◌, ◌<◌, ◌≤◌, not, ◌&&◌, ◌||◌, ◌==◌, Bool, true, false, cond, List, [], ◌∷◌, ◌++◌, length, refl, sym, ap, subst, arith, append_assoc, length-append}
use Rattle.std.specs.Prelude.{Option, Some, None, nat_le}
use Rattle.std.proofs.lemmas.Bool.Decides.{nat_tests}
use Rattle.text_lines.specs.Lines.{Line, longest}
use Rattle.script_model.specs.Commands.{line_before, joined, if_short, question_of}

-- one line more behind a text
joined_more : (body : List Line) (text l : List ℕ) → joined body ≡ Some text → joined (body ++ Some l ∷ []) ≡ Some (text ++ (l ++ 10 ∷ []))
joined_more [] text l e = ap (λ (t : List ℕ). Some (t ++ (l ++ 10 ∷ []))) (let same : [] ≡ text = cc in same)
joined_more (None ∷ body) text l e = absurd (let f : ⊥ = cc in f)
joined_more (Some m ∷ body) text l e = by (joined body) (joined_more body) e where
  by : (o : Option (List ℕ)) → ((t l : List ℕ) → o ≡ Some t → joined (body ++ Some l ∷ []) ≡ Some (t ++ (l ++ 10 ∷ []))) → line_before (Some m) o ≡ Some text → line_before (Some m) (joined (body ++ Some l ∷ [])) ≡ Some (text ++ (l ++ 10 ∷ []))
  by None more e = absurd (let f : ⊥ = cc in f)
  by (Some t) more e = ap (line_before (Some m)) (more t l refl) ∙ ap Some (sym (append_assoc m (10 ∷ t) (l ++ 10 ∷ [])) ∙ ap (λ z. z ++ (l ++ 10 ∷ [])) (let same : m ++ 10 ∷ t ≡ text = cc in same))

-- a line that is too long
joined_none : (body : List Line) → joined (body ++ None ∷ []) ≡ None
joined_none [] = refl
joined_none (None ∷ body) = refl
joined_none (Some m ∷ body) = ap (line_before (Some m)) (joined_none body)

-- a text that isn't too long
record IsShort (body : List Line) (text : List ℕ) : Type 0 where
  joins : joined body ≡ Some text
  short : length text ≤ longest

is_short : (body : List Line) (text : List ℕ) → question_of body ≡ Some text → IsShort body text
is_short body text e = by (joined body) refl e where
  by : (o : Option (List ℕ)) → joined body ≡ o → if_short o ≡ Some text → IsShort body text
  by None j e = absurd (let f : ⊥ = cc in f)
  by (Some t) j e = of (nat_le (length t) longest) refl e where
    of : (b : Bool) → nat_le (length t) longest ≡ b → cond b (Some t) None ≡ Some text → IsShort body text
    of false n e = absurd (let f : ⊥ = cc in f)
    of true y e =
        let same : t ≡ text = cc in
        let le : length t ≤ longest = le_of (length t) y in
        record { joins = j ∙ ap Some same; short = subst (λ (z : List ℕ). length z ≤ longest) same le } where
          le_of : (n : ℕ) → nat_le n longest ≡ true → n ≤ longest
          le_of n y = grind (arith, nat_tests)

-- no text yet
pub no_text : question_of [] ≡ Some []
no_text = refl

-- one line more behind a text
pub text_more : (body : List Line) (text l : List ℕ) → question_of body ≡ Some text → length text + length l < longest → question_of (body ++ Some l ∷ []) ≡ Some (text ++ (l ++ 10 ∷ []))
text_more body text l e lt =
    let s = is_short body text e in
    ap if_short (joined_more body text l s.joins)
    ∙ ap (λ b. cond b (Some (text ++ (l ++ 10 ∷ []))) None) (le_true (length (text ++ (l ++ 10 ∷ []))) (let n = length-append text (l ++ 10 ∷ []) in let m = length-append l (10 ∷ []) in omega (arith, n, m, lt))) where
      le_true : (n : ℕ) → n ≤ longest → nat_le n longest ≡ true
      le_true n le = grind (arith, nat_tests)

-- one line more that makes it too long
pub text_long : (body : List Line) (text l : List ℕ) → question_of body ≡ Some text → longest ≤ length text + length l → question_of (body ++ Some l ∷ []) ≡ None
text_long body text l e le =
    let s = is_short body text e in
    ap if_short (joined_more body text l s.joins)
    ∙ ap (λ b. cond b (Some (text ++ (l ++ 10 ∷ []))) None) (le_false (length (text ++ (l ++ 10 ∷ []))) (let n = length-append text (l ++ 10 ∷ []) in let m = length-append l (10 ∷ []) in omega (arith, n, m, le))) where
      le_false : (n : ℕ) → longest < n → nat_le n longest ≡ false
      le_false n lt = grind (arith, nat_tests)

pub line_long : (body : List Line) → question_of (body ++ None ∷ []) ≡ None
line_long body = ap if_short (joined_none body)

-- a text that is too long stays so
pub stays_long : (body : List Line) (l : Line) → question_of body ≡ None → question_of (body ++ l ∷ []) ≡ None
stays_long body None e = line_long body
stays_long body (Some l) e = by (joined body) refl e where
  behind : (b : List Line) → joined b ≡ None → joined (b ++ Some l ∷ []) ≡ None
  behind [] e = absurd (let f : ⊥ = cc in f)
  behind (None ∷ b) e = refl
  behind (Some m ∷ b) e = ap (line_before (Some m)) (behind b (none_in (joined b) e)) where
    none_in : (o : Option (List ℕ)) → line_before (Some m) o ≡ None → o ≡ None
    none_in None e = refl
    none_in (Some t) e = absurd (let f : ⊥ = cc in f)

  by : (o : Option (List ℕ)) → joined body ≡ o → if_short o ≡ None → question_of (body ++ Some l ∷ []) ≡ None
  by None j e = ap if_short (behind body j)
  by (Some t) j e = ap if_short (joined_more body t l j) ∙ ap (λ b. cond b (Some (t ++ (l ++ 10 ∷ []))) None) (le_false (length (t ++ (l ++ 10 ∷ []))) (let n = length-append t (l ++ 10 ∷ []) in let lt = over (nat_le (length t) longest) refl e in omega (arith, n, lt))) where
    le_false : (n : ℕ) → longest < n → nat_le n longest ≡ false
    le_false n lt = grind (arith, nat_tests)

    over : (b : Bool) → nat_le (length t) longest ≡ b → cond b (Some t) None ≡ None → longest < length t
    over true y e = absurd (let f : ⊥ = cc in f)
    over false n e = gt (length t) n where
      gt : (k : ℕ) → nat_le k longest ≡ false → longest < k
      gt k n = grind (arith, nat_tests)

-- what is gathered, with a line more behind a refusal
pub refused_more : (body : List Line) (l : Line) (r : Refusal) → IsGathered body (Refused r) → IsGathered (body ++ l ∷ []) (Refused r)
refused_more body l cause.Long h = stays_long body l h
refused_more body l cause.Memory h = h
refused_more body l cause.Command h = absurd h
refused_more body l cause.Query h = absurd h
refused_more body l (cause.Line n) h = absurd h
refused_more body l cause.File h = absurd h
refused_more body l (cause.Full n) h = absurd h
refused_more body l cause.Prefix h = absurd h
refused_more body l cause.Size h = absurd h
refused_more body l cause.Unended h = absurd h

-- Answers

module _ (A : Around) (s : StoreState) (body : List Line) (sound : IsBetweenCommands A.mixed s) where
  lacks : Carries A s (script.Block script.Question body) s (model.Refused model.NoMemory) None
  lacks = record { step = steps.no_memory (script.Block script.Question body) (λ e. let f : ⊥ = cc in f); refused = λ _. refl; sound = sound; max = refl }

  refused_by : (r : model.Refusal) → question_refusal (question_of body) ≡ Some r → Carries A s (script.Block script.Question body) s (model.Refused r) None
  refused_by r e = record { step = steps.refused (script.Block script.Question body) r e; refused = λ _. refl; sound = sound; max = refl }

  -- memory ran out
  pub lack_answer : (before now : Option (List ℕ)) (outcome : Outcome) → WritesAnswer before now outcome (model.Refused model.NoMemory) → AnswersQuestion A body s before now outcome
  lack_answer before now outcome w = record { answer = model.Refused model.NoMemory; carries = lacks; writes = w }

  -- lines that are too long, or for which memory ran out
  pub refused_answer : (r : Refusal) (before now : Option (List ℕ)) (outcome : Outcome) → IsGathered body (Refused r) → WritesAnswer before now outcome (model.Refused (refusal_of r)) → AnswersQuestion A body s before now outcome
  refused_answer r before now outcome h w = record { answer = model.Refused (refusal_of r); carries = by r h; writes = w } where
    by : (r : Refusal) → IsGathered body (Refused r) → Carries A s (script.Block script.Question body) s (model.Refused (refusal_of r)) None
    by cause.Long h = refused_by model.IsLong (ap question_refusal h)
    by cause.Memory h = lacks
    by cause.Command h = absurd h
    by cause.Query h = absurd h
    by (cause.Line n) h = absurd h
    by cause.File h = absurd h
    by (cause.Full n) h = absurd h
    by cause.Prefix h = absurd h
    by cause.Size h = absurd h
    by cause.Unended h = absurd h

  -- a text that is no query, or for which memory ran out
  pub fault_answer : (text : List ℕ) (r : Refusal) (before now : Option (List ℕ)) (outcome : Outcome) → question_of body ≡ Some text → IsFault (query_of text) r → WritesAnswer before now outcome (model.Refused (refusal_of r)) → AnswersQuestion A body s before now outcome
  fault_answer text r before now outcome e h w = record { answer = model.Refused (refusal_of r); carries = by r h; writes = w } where
    of : (r : Refusal) → fault_refusal (query_of text) ≡ Some (refusal_of r) → Carries A s (script.Block script.Question body) s (model.Refused (refusal_of r)) None
    of r f = refused_by (refusal_of r) (ap question_refusal e ∙ f)

    by : (r : Refusal) → IsFault (query_of text) r → Carries A s (script.Block script.Question body) s (model.Refused (refusal_of r)) None
    by cause.Memory h = lacks
    by cause.Long h = of cause.Long h
    by cause.Command h = of cause.Command h
    by cause.Query h = of cause.Query h
    by (cause.Line n) h = of (cause.Line n) h
    by cause.File h = of cause.File h
    by (cause.Full n) h = of (cause.Full n) h
    by cause.Prefix h = of cause.Prefix h
    by cause.Size h = of cause.Size h
    by cause.Unended h = of cause.Unended h

  -- the rows of a listing
  pub rows_answer : (text : List ℕ) (q : Query) (listing : Listing Term) (rows : List Row) (before now : Option (List ℕ)) (outcome : Outcome) → A.sorted ≡ false → question_of body ≡ Some text → query_of text ≡ meaning.IsQuery q
      → ((more : List Row) → MayGive listing more → IsAnswerTo q (graph s) more) → MayGive listing rows → WritesAnswer before now outcome (model.Listed q.columns rows) → AnswersQuestion A body s before now outcome
  rows_answer text q listing rows before now outcome plain e reads answers given w = record {
    answer = model.Listed q.columns rows;
    carries = record {
      step = steps.done (script.Block script.Question body) (graph s) (model.Listed q.columns rows) (ap question_refusal e ∙ ap fault_refusal reads)
          (refl, record { text = text; short = e; q = q; reads = reads; rows = rows; answers = answers rows given; in_order = λ o. absurd (clash (sym plain ∙ o)); is = refl });
      refused = λ c. absurd (clash c);
      sound = sound;
      max = refl;
    };
    writes = w;
  } where
    clash : false ≡ true → ⊥
    clash c = let f : ⊥ = cc in f

  -- the sorted rows of a query
  pub sorted_question : (text : List ℕ) (q : Query) (before now : Option (List ℕ)) (outcome : Outcome) → question_of body ≡ Some text → query_of text ≡ meaning.IsQuery q
      → WritesAnswer before now outcome (model.Listed q.columns (sorted_answer q (graph s))) → AnswersQuestion A body s before now outcome
  sorted_question text q before now outcome e reads w = record {
    answer = model.Listed q.columns (sorted_answer q (graph s));
    carries = record {
      step = steps.done (script.Block script.Question body) (graph s) (model.Listed q.columns (sorted_answer q (graph s))) (ap question_refusal e ∙ ap fault_refusal reads)
          (refl, record { text = text; short = e; q = q; reads = reads; rows = sorted_answer q (graph s); answers = sorted_answers q (graph s); in_order = λ _. refl; is = refl });
      refused = λ c. let f : ⊥ = cc in absurd f;
      sound = sound;
      max = refl;
    };
    writes = w;
  }

-- Widths of rows

abbrev has_width : ℕ → Row → Bool
has_width n row = length row == n

all_filter : (p q : Row → Bool) (rows : List Row) → list_all p rows ≡ true → list_all p (filter q rows) ≡ true
all_filter p q [] h = refl
all_filter p q (row ∷ rows) h = by (p row) (q row) refl (list_all p rows) (all_filter p q rows) h where
  by : (a b : Bool) → p row ≡ a → (c : Bool) → (c ≡ true → list_all p (filter q rows) ≡ true) → (a && c) ≡ true → list_all p (cond b (row ∷ filter q rows) (filter q rows)) ≡ true
  by true true e c more h = ap (λ z. z && list_all p (filter q rows)) e ∙ more h
  by true false e c more h = more h
  by false b e c more h = absurd (let f : ⊥ = cc in f)

all_first : (n : ℕ) (rows : List Row) → list_all (has_width n) rows ≡ true → list_all (has_width n) (first_places term_cmp rows) ≡ true
all_first n [] h = refl
all_first n (row ∷ rows) h = by (has_width n row) refl (list_all (has_width n) rows) (all_first n rows) h where
  by : (a : Bool) → has_width n row ≡ a → (c : Bool) → (c ≡ true → list_all (has_width n) (first_places term_cmp rows) ≡ true) → (a && c) ≡ true → list_all (has_width n) (first_places term_cmp (row ∷ rows)) ≡ true
  by true e c more h = ap (λ z. z && list_all (has_width n) (filter (λ q. not (same_row term_cmp row q)) (first_places term_cmp rows))) e ∙ all_filter (has_width n) (λ q. not (same_row term_cmp row q)) (first_places term_cmp rows) (more h)
  by false e c more h = absurd (let f : ⊥ = cc in f)

all_mapped : (columns : List (Option ℕ)) (found : List (List Term)) → list_all (has_width (length columns)) (map (row_of columns) found) ≡ true
all_mapped columns [] = refl
all_mapped columns (a ∷ found) = ap (λ z. z && list_all (has_width (length columns)) (map (row_of columns) found)) (long columns) ∙ all_mapped columns found where
  same : (n m : ℕ) → n ≡ m → (n == m) ≡ true
  same n m e = grind (arith, nat_tests)

  count : (cs : List (Option ℕ)) → length (row_of cs a) ≡ length cs
  count [] = refl
  count (c ∷ cs) = omega (arith, count cs)

  long : (cs : List (Option ℕ)) → has_width (length cs) (row_of cs a) ≡ true
  long cs = same (length (row_of cs a)) (length cs) (count cs)

all_chosen : (q : Query) (G : Graph) → list_all (has_width (length (column_labels q))) (chosen_rows q G) ≡ true
unfolding chosen_rows all_rows
all_chosen q G = by q.distinct where
  by : (b : Bool) → list_all (has_width (length (column_labels q))) (bag.chosen_rows term_cmp b (map (row_of (column_labels q)) (solutions q G))) ≡ true
  by false = all_mapped (column_labels q) (solutions q G)
  by true = all_first (length (column_labels q)) (map (row_of (column_labels q)) (solutions q G)) (all_mapped (column_labels q) (solutions q G))

by_any : (p : Row → Bool) (rows : List Row) → list_all p rows ≡ not (list_any (λ row. not (p row)) rows)
by_any p [] = refl
by_any p (row ∷ rows) = ap (λ b. p row && b) (by_any p rows) ∙ both (p row) (list_any (λ row. not (p row)) rows) where
  both : (a b : Bool) → (a && not b) ≡ not (not a || b)
  both true b = refl
  both false b = refl

-- each row of an answer has a place for each column
pub wide_answers : (q : Query) (G : Graph) (rows : List Row) → IsAnswerTo q G rows → list_all (has_width (length (column_labels q))) rows ≡ true
wide_answers q G rows a = front (list_all p rows) (list_all p a.others) (sym (list_all-append p rows a.others) ∙ moved) where
  p : Row → Bool
  p = has_width (length (column_labels q))

  front : (b c : Bool) → (b && c) ≡ true → b ≡ true
  front true c e = refl
  front false c e = absurd (let f : ⊥ = cc in f)

  moved : list_all p (rows ++ a.others) ≡ true
  moved =
      by_any p (rows ++ a.others) ∙ ap not (sym (list_any-IsPermutation (λ row. not (p row)) (chosen_rows q G) (rows ++ a.others) a.are))
      ∙ sym (by_any p (chosen_rows q G)) ∙ all_chosen q G

-- a listing of the query without its cut may give all rows of the query
pub all_rows_given : (q : Query) (G : Graph) (listing : Listing Term) {whole : plan.Query} {cut : Cut} → IsUncut q whole cut → ((rows : List Row) → MayGive listing rows → IsAnswerTo (query_seen whole) G rows) → GivesAllRows q G listing
all_rows_given q G listing {whole} {cut} is answers = λ rows may. subst (λ z. IsAnswerTo z G rows) is.whole (answers rows may)
