-- The query that is found is the one of the productions.
use Rattle.std.proofs.Common.{◌≡◌, ◌∙◌, ◌+◌, ◌<◌, ◌≤◌, ◌^◌, ℕ, Bool, true, false, not, cond, ◌&&◌, ◌||◌, List, [], ◌∷◌, ◌++◌, length, map, refl, sym, ap, subst, inl, inr, ◌⊎◌, arith, Option, Some, None}
use Rattle.std.specs.Prelude.{IfSome, nat_lt}
use Rattle.std.specs.List.{AllByRecursion, list_all}
use Rattle.std.specs.Option.{is_some}
use Rattle.std.specs.Str.{chars, is_utf8}
use Rattle.std.proofs.lemmas.Bool.Decides.{nat_tests}
use Rattle.std.proofs.lemmas.List.{length-map}
use Rattle.std.proofs.lemmas.Str.{IsUtf8-from_is_utf8, is_utf8-from_IsUtf8}
use Rattle.hypertrie_model.specs.SetLaws.{and_both}
use Rattle.query_grammar.specs.Block.{Part, Triple}
use Rattle.query_grammar.specs.BlockFront.{triples_of}
use Rattle.query_grammar.specs.Lexemes.{Lexeme, lexed}
use Rattle.query_grammar.specs.Meaning.{Answer, NotQuery, NoPrefix, TooManyPatterns, TooManyColumns, TooLarge, IsQuery, Query, Pattern, place_of, block_of, parts_from, names_of, patterns_of, selected, column_of, number_behind, or_zero, is_large, query_by, of_patterns, of_triples, of_lexemes, query_of}
use Rattle.query_grammar.specs.Outline.{prefix, has_outline}
use Rattle.query_grammar.specs.Signs as sign
use Rattle.query_grammar.specs.Signs.{Sign, Limit, Offset, OpenBrace, CloseBrace, sign_of, role_of}
use Rattle.query_grammar.specs.Texts.{iri_text, string_text, is_sound_by, is_sound}
use Rattle.query_grammar.proofs.Outlines.{tests_outlines}
use Rattle.query_forms.specs.Heads.{IsHead}
use Rattle.query_forms.specs.Laws.{AllFormsAsProductions, QueriesAsProductions, AnswersAsProductions}
use Rattle.query_forms.specs.Lexing.{IsLexed, end, next}
use Rattle.query_forms.specs.Whole.{MeansSome, AreTokens, HasQueryForm, HasUndeclared, IsQueryLike, IsUnbounded, HasFewPatterns, HasFewColumns, HasSmallNumbers, HasAnswer}
use Rattle.query_forms.proofs.Assembled.{found_form, form_outline, form_block, form_patterns, patterns_formed, forms_as_productions, found_query, query_found}
use Rattle.query_forms.proofs.Headed.{Sound, prologue_from, in_braces}
use Rattle.query_forms.proofs.Lexed.{lexes_as_productions}
use Rattle.query_forms.proofs.Meant.{mean_as_productions}
use Rattle.query_forms.proofs.Outlined.{whole, IsOutlined, outlined}
use Rattle.query_forms.proofs.Placed.{Colons}
use Rattle.query_forms.proofs.Prefixed.{token_colon}
use Rattle.query_forms.proofs.Undeclared.{undeclared_none, none_undeclared}
use Rattle.query_forms.proofs.Signed.{each_of, lacks_other, clash, neither}

-- Tokens that mean something

some_of : {X : Type 0} (o : Option X) → is_some o ≡ true → (x : X) × (o ≡ Some x)
some_of None e = absurd (let f : ⊥ = cc in f)
some_of (Some x) e = (x, refl)

means_some : (s : Sign) (text : List ℕ) → is_sound_by s text ≡ true → MeansSome s text
means_some sign.Iri text e = let o = some_of (iri_text text) e in (o.0, (mean_as_productions.iris text o.0).1 o.1)
means_some sign.Text text e = let o = some_of (string_text text) e in (o.0, (mean_as_productions.texts text o.0).1 o.1)
means_some _ text e = tt

some_sound : (s : Sign) (text : List ℕ) → MeansSome s text → is_sound_by s text ≡ true
some_sound sign.Iri text h = ap is_some ((mean_as_productions.iris text h.0).0 h.1)
some_sound sign.Text text h = ap is_some ((mean_as_productions.texts text h.0).0 h.1)
some_sound _ text h = refl

all_mean : (ls : List Lexeme) → list_all is_sound ls ≡ true → AllByRecursion (λ l. MeansSome (sign_of l) l.text) ls
all_mean [] e = tt
all_mean (l ∷ ls) e = let both = and_both (is_sound l) (list_all is_sound ls) e in (means_some (sign_of l) l.text both.0, all_mean ls both.1)

all_sound : (ls : List Lexeme) → AllByRecursion (λ l. MeansSome (sign_of l) l.text) ls → list_all is_sound ls ≡ true
all_sound [] h = refl
all_sound (l ∷ ls) h = (λ i. some_sound (sign_of l) l.text h.0 i && all_sound ls h.1 i)

-- Bounds

below_bound : (n : ℕ) → not (nat_lt n (2 ^ 64)) ≡ false → n < 2 ^ 64
below_bound n e = grind (arith, nat_tests)

bound_above : (n : ℕ) → n < 2 ^ 64 → not (nat_lt n (2 ^ 64)) ≡ false
bound_above n h = grind (arith, nat_tests)

small_is : (o : Option ℕ) → is_large o ≡ false → IfSome o (λ n. n < 2 ^ 64)
small_is None e = tt
small_is (Some n) e = below_bound n e

is_small : (o : Option ℕ) → IfSome o (λ n. n < 2 ^ 64) → is_large o ≡ false
is_small None h = refl
is_small (Some n) h = bound_above n h

same_large : (o : Option ℕ) → is_large o ≡ is_large (Some (or_zero o))
same_large None = sym (bound_above 0 (omega arith))
same_large (Some n) = refl

at_most : (m n : ℕ) → nat_lt m n ≡ false → n ≤ m
at_most m n e = grind (arith, nat_tests)

is_at_most : (m n : ℕ) → n ≤ m → nat_lt m n ≡ false
is_at_most m n e = grind (arith, nat_tests)

-- what refutes the one answer of a test gives the other
decided_true : (b : Bool) → (b ≡ false → ⊥) → b ≡ true
decided_true true h = refl
decided_true false h = absurd (h refl)

has_large : Query → Bool
has_large q = is_large q.limit || is_large (Some q.offset)

numbers_small : (q : Query) → has_large q ≡ false → HasSmallNumbers q
unfolding has_large
numbers_small q e = let both = neither (is_large q.limit) (is_large (Some q.offset)) e in (small_is q.limit both.0, below_bound q.offset both.1)

small_numbers : (q : Query) → HasSmallNumbers q → has_large q ≡ false
unfolding has_large
small_numbers q h = (λ i. is_small q.limit h.0 i || bound_above q.offset h.1 i)

-- a query within the bounds, or what it is too large in
bounded : Query → Answer
bounded q =
    cond (nat_lt 32 (length q.patterns)) TooManyPatterns
    (cond (nat_lt 128 (length q.columns)) TooManyColumns (cond (has_large q) TooLarge (IsQuery q)))

module _ (q : Query) where
  many_patterns : (HasFewPatterns q → ⊥) → bounded q ≡ TooManyPatterns
  unfolding bounded
  many_patterns h =
      ap (λ b. cond b TooManyPatterns (cond (nat_lt 128 (length q.columns)) TooManyColumns (cond (has_large q) TooLarge (IsQuery q))))
      (decided_true (nat_lt 32 (length q.patterns)) (λ e. h (at_most 32 (length q.patterns) e)))

  past_patterns : HasFewPatterns q → bounded q ≡ cond (nat_lt 128 (length q.columns)) TooManyColumns (cond (has_large q) TooLarge (IsQuery q))
  unfolding bounded
  past_patterns h =
      ap (λ b. cond b TooManyPatterns (cond (nat_lt 128 (length q.columns)) TooManyColumns (cond (has_large q) TooLarge (IsQuery q))))
      (is_at_most 32 (length q.patterns) h)

  many_columns : HasFewPatterns q → (HasFewColumns q → ⊥) → bounded q ≡ TooManyColumns
  many_columns h g =
      past_patterns h
      ∙ ap (λ b. cond b TooManyColumns (cond (has_large q) TooLarge (IsQuery q))) (decided_true (nat_lt 128 (length q.columns)) (λ e. g (at_most 128 (length q.columns) e)))

  past_columns : HasFewPatterns q → HasFewColumns q → bounded q ≡ cond (has_large q) TooLarge (IsQuery q)
  past_columns h g = past_patterns h ∙ ap (λ b. cond b TooManyColumns (cond (has_large q) TooLarge (IsQuery q))) (is_at_most 128 (length q.columns) g)

  large_numbers : HasFewPatterns q → HasFewColumns q → (HasSmallNumbers q → ⊥) → bounded q ≡ TooLarge
  large_numbers h g k = past_columns h g ∙ ap (λ b. cond b TooLarge (IsQuery q)) (decided_true (has_large q) (λ e. k (numbers_small q e)))

  all_bounds : HasFewPatterns q → HasFewColumns q → HasSmallNumbers q → bounded q ≡ IsQuery q
  all_bounds h g k = past_columns h g ∙ ap (λ b. cond b TooLarge (IsQuery q)) (small_numbers q k)

  -- the answer to an unbounded query
  answered : (text : List ℕ) → IsUnbounded text q → HasAnswer text (bounded q)
  unfolding bounded
  answered text is = by_patterns (nat_lt 32 (length q.patterns)) refl where
    by_numbers : (b : Bool) → has_large q ≡ b → HasFewPatterns q → HasFewColumns q → HasAnswer text (cond b TooLarge (IsQuery q))
    by_numbers true e few narrow = (q, is, few, narrow, (λ h. clash (sym e ∙ small_numbers q h)))
    by_numbers false e few narrow = record { is = is; few_patterns = few; few_columns = narrow; small_numbers = numbers_small q e }

    by_columns : (b : Bool) → nat_lt 128 (length q.columns) ≡ b → HasFewPatterns q → HasAnswer text (cond b TooManyColumns (cond (has_large q) TooLarge (IsQuery q)))
    by_columns true e few = (q, is, few, (λ h. clash (sym e ∙ is_at_most 128 (length q.columns) h)))
    by_columns false e few = by_numbers (has_large q) refl few (at_most 128 (length q.columns) e)

    by_patterns : (b : Bool) → nat_lt 32 (length q.patterns) ≡ b → HasAnswer text (cond b TooManyPatterns (cond (nat_lt 128 (length q.columns)) TooManyColumns (cond (has_large q) TooLarge (IsQuery q))))
    by_patterns true e = (q, is, (λ h. clash (sym e ∙ is_at_most 32 (length q.patterns) h)))
    by_patterns false e = by_columns (nat_lt 128 (length q.columns)) refl (at_most 32 (length q.patterns) e)

-- answers of texts that are a query but for its bounds
is_of_query : Answer → Bool
is_of_query NotQuery = false
is_of_query NoPrefix = false
is_of_query _ = true

of_query : (q : Query) → is_of_query (bounded q) ≡ true
unfolding bounded is_of_query
of_query q = by (nat_lt 32 (length q.patterns)) (nat_lt 128 (length q.columns)) (has_large q) where
  by : (a b c : Bool) → is_of_query (cond a TooManyPatterns (cond b TooManyColumns (cond c TooLarge (IsQuery q)))) ≡ true
  by true b c = refl
  by false true c = refl
  by false false true = refl
  by false false false = refl

not_of_query : (answer : Answer) (q : Query) → is_of_query answer ≡ false → answer ≡ bounded q → ⊥
not_of_query answer q f e = clash (sym (of_query q) ∙ (ap is_of_query (sym e) ∙ f))

abbrev parts_of : List Lexeme → List Part
parts_of all = parts_from (place_of OpenBrace all + 1) (block_of all)

-- Tokens by their outline

lexed_colons : (cs : List ℕ) (ls : List Lexeme) → IsLexed cs ls → Colons ls
lexed_colons _ _ (end gap is) = tt
lexed_colons _ _ (next gap token rest kind ls far longest is more) = (token_colon kind token is, lexed_colons rest ls more)

front_sound : (ls ks : List Lexeme) → Sound (ls ++ ks) → Sound ls
front_sound [] ks h = tt
front_sound (l ∷ ls) ks h = (h.0, front_sound ls ks h.1)

back_sound : (ls ks : List Lexeme) → Sound (ls ++ ks) → Sound ks
back_sound [] ks h = h
back_sound (l ∷ ls) ks h = back_sound ls ks h.1

-- the form that an outline and its triples give
outlined_form : (all : List Lexeme) (triples : List Triple) → IsOutlined all → Sound all → triples_of (parts_of all) ≡ Some triples → HasQueryForm all
outlined_form all triples o sound block =
    let rest = o.select ∷ (o.modifier ++ (o.selection ++ (o.word ++ o.open_brace ∷ (o.block ++ o.close_brace ∷ o.tail)))) in
    let p = prologue_from o.prologue (each_of prefix o.prologue o.is_prologue) (front_sound o.prologue rest (subst Sound o.are sound)) in
    let head = o.prologue ++ o.select ∷ (o.modifier ++ (o.selection ++ (o.word ++ o.open_brace ∷ []))) in
    let h : IsHead o.block head p.0 o.distinct o.variables = record {
      prologue = o.prologue;
      select = o.select;
      modifier = o.modifier;
      selection = o.selection;
      where_word = o.word;
      brace = o.open_brace;
      are = refl;
      is_prologue = p.1;
      is_select = o.is_select;
      is_modifier = o.is_modifier;
      is_selection = o.is_selection;
      is_where = o.is_where;
      is_brace = o.is_open;
    } in
    let same : all ≡ head ++ (o.block ++ o.close_brace ∷ o.tail) = o.are ∙ sym (whole o.block head p.0 o.distinct o.variables h (o.block ++ o.close_brace ∷ o.tail)) in
    subst HasQueryForm (sym same)
    (found_form o.block head o.tail o.close_brace p.0 o.distinct o.variables h o.is_close (lacks_other in_braces CloseBrace o.block o.is_block refl) triples
    (subst (λ ts. triples_of (parts_of ts) ≡ Some triples) same block) o.is_tail)

module _ (text : List ℕ) where
  -- Texts with the form of a query

  not_read : is_utf8 text ≡ false → query_of text ≡ NotQuery
  unfolding query_of
  not_read e = ap (λ b. cond b (of_lexemes (lexed (chars text))) NotQuery) e

  read_as : (o : Option (List Lexeme)) → is_utf8 text ≡ true → lexed (chars text) ≡ o → query_of text ≡ of_lexemes o
  unfolding query_of
  read_as o utf8 lexes = ap (λ b. cond b (of_lexemes (lexed (chars text))) NotQuery) utf8 ∙ ap of_lexemes lexes

  of_block : (all : List Lexeme) → AreTokens text all → (o : Option (List Triple)) → has_outline (map sign_of all) ≡ true → triples_of (parts_of all) ≡ o
      → query_of text ≡ of_triples all o → IsQueryLike text ⊎ (query_of text ≡ NotQuery)
  of_block all are None outline block e = inr e
  of_block all are (Some triples) outline block e =
      inl (record { tokens = all; are = are; form = outlined_form all triples (outlined all ((tests_outlines (map sign_of all)).1 outline)) are.sound block })

  of_outline : (all : List Lexeme) (b : Bool) → is_utf8 text ≡ true → lexed (chars text) ≡ Some all → (has_outline (map sign_of all) && list_all is_sound all) ≡ b
      → IsQueryLike text ⊎ (query_of text ≡ NotQuery)
  of_outline all false utf8 lexes e = inr (read_as (Some all) utf8 lexes ∙ ap (λ b. cond b (of_triples all (triples_of (parts_of all))) NotQuery) e)
  of_outline all true utf8 lexes e =
      let both = and_both (has_outline (map sign_of all)) (list_all is_sound all) e in
      let are : AreTokens text all = record {
        utf8 = IsUtf8-from_is_utf8 text utf8;
        lexed = (lexes_as_productions (chars text) all).1 lexes;
        sound = all_mean all both.1;
      } in
      of_block all are (triples_of (parts_of all)) both.0 refl (read_as (Some all) utf8 lexes ∙ ap (λ b. cond b (of_triples all (triples_of (parts_of all))) NotQuery) e)

  of_tokens : (o : Option (List Lexeme)) → is_utf8 text ≡ true → lexed (chars text) ≡ o → IsQueryLike text ⊎ (query_of text ≡ NotQuery)
  of_tokens None utf8 lexes = inr (read_as None utf8 lexes)
  of_tokens (Some all) utf8 lexes = of_outline all (has_outline (map sign_of all) && list_all is_sound all) utf8 lexes refl

  like_or_not : IsQueryLike text ⊎ (query_of text ≡ NotQuery)
  like_or_not = by (is_utf8 text) refl where
    by : (b : Bool) → is_utf8 text ≡ b → IsQueryLike text ⊎ (query_of text ≡ NotQuery)
    by false e = inr (not_read e)
    by true e = of_tokens (lexed (chars text)) e refl

  -- the answer from the patterns on
  by_form : (all : List Lexeme) → AreTokens text all → (f : HasQueryForm all) → query_of text ≡ of_patterns all (patterns_of all (names_of all) f.triples)
  by_form all are f =
      read_as (Some all) (is_utf8-from_IsUtf8 text are.utf8) ((lexes_as_productions (chars text) all).0 are.lexed)
      ∙ (λ i. cond ((tests_outlines (map sign_of all)).0 (form_outline all f) i && all_sound all are.sound i) (of_triples all (triples_of (parts_of all))) NotQuery)
      ∙ ap (of_triples all) (form_block all f)

  -- Queries

  query_or_not : (l : IsQueryLike text) → ((q : Query) × IsUnbounded text q) ⊎ (HasUndeclared l.tokens l.form × (query_of text ≡ NoPrefix))
  query_or_not l = by (patterns_of l.tokens (names_of l.tokens) l.form.triples) refl where
    block_sound : Sound l.form.block
    block_sound = front_sound l.form.block (l.form.brace ∷ l.form.tail) (back_sound l.form.head (l.form.block ++ l.form.brace ∷ l.form.tail) (subst Sound l.form.are l.are.sound))

    by : (o : Option (List Pattern)) → patterns_of l.tokens (names_of l.tokens) l.form.triples ≡ o
        → ((q : Query) × IsUnbounded text q) ⊎ (HasUndeclared l.tokens l.form × (query_of text ≡ NoPrefix))
    by None e = inr (none_undeclared l.tokens l.form (names_of l.tokens) block_sound e, by_form l.tokens l.are l.form ∙ ap (of_patterns l.tokens) e)
    by (Some patterns) e = inl (
      query_by l.tokens patterns,
      record {
        tokens = l.tokens;
        are = l.are;
        query = found_query l.tokens l.form patterns (lexed_colons (chars text) l.tokens l.are.lexed) e;
      },
    )

  undeclared_answer : (l : IsQueryLike text) → HasUndeclared l.tokens l.form → query_of text ≡ NoPrefix
  undeclared_answer l u = by_form l.tokens l.are l.form ∙ by (patterns_of l.tokens (names_of l.tokens) l.form.triples) refl where
    by : (o : Option (List Pattern)) → patterns_of l.tokens (names_of l.tokens) l.form.triples ≡ o → of_patterns l.tokens o ≡ NoPrefix
    by None e = refl
    by (Some patterns) e = absurd (undeclared_none l.tokens l.form patterns (patterns_formed l.tokens l.form patterns (lexed_colons (chars text) l.tokens l.are.lexed) e) u)

  query_answer : (q : Query) → IsUnbounded text q → query_of text ≡ bounded q
  unfolding bounded has_large
  query_answer q h =
      let all = h.tokens in
      let f = h.query.form in
      let is = query_found all q h.query in
      let columns : length (selected all) ≡ length q.columns = sym (ap (λ (r : Query). length r.columns) is ∙ length-map (selected all) (column_of (names_of all))) in
      let limit : number_behind Limit all ≡ q.limit = sym (ap (λ (r : Query). r.limit) is) in
      let offset : is_large (number_behind Offset all) ≡ is_large (Some q.offset) = same_large (number_behind Offset all) ∙ ap (λ (r : Query). is_large (Some r.offset)) (sym is) in
      by_form all h.are f ∙ ap (of_patterns all) (form_patterns all f q.patterns h.query.patterns)
      ∙ (λ i. cond (nat_lt 32 (length q.patterns)) TooManyPatterns (cond (nat_lt 128 (columns i)) TooManyColumns (cond (is_large (limit i) || offset i) TooLarge (IsQuery (sym is i)))))

  -- Answers

  answer_found : (answer : Answer) → HasAnswer text answer → query_of text ≡ answer
  answer_found NotQuery h = elim like_or_not [ inl l ↦ absurd (h l) | inr e ↦ e ]
  answer_found NoPrefix h = undeclared_answer h.0 h.1
  answer_found TooManyPatterns h = query_answer h.0 h.1 ∙ many_patterns h.0 h.2
  answer_found TooManyColumns h = query_answer h.0 h.1 ∙ many_columns h.0 h.2 h.3
  answer_found TooLarge h = query_answer h.0 h.1 ∙ large_numbers h.0 h.2 h.3 h.4
  answer_found (IsQuery q) h = query_answer q h.is ∙ all_bounds q h.few_patterns h.few_columns h.small_numbers

  no_prefix_differs : NotQuery ≡ NoPrefix → ⊥
  no_prefix_differs e = let f : ⊥ = cc in f

  found_answer : HasAnswer text (query_of text)
  unfolding is_of_query
  found_answer = elim like_or_not [
    | inr e ↦ subst (HasAnswer text) (sym e) (λ l. elim (query_or_not l) [
      | inl m ↦ not_of_query NotQuery m.0 refl (sym e ∙ query_answer m.0 m.1)
      | inr p ↦ no_prefix_differs (sym e ∙ p.1)
    ])
    | inl l ↦ elim (query_or_not l) [
      | inl m ↦ subst (HasAnswer text) (sym (query_answer m.0 m.1)) (answered m.0 text m.1)
      | inr p ↦ subst (HasAnswer text) (sym p.1) (l, p.0)
    ]
  ]

pub answers_as_productions : AnswersAsProductions
answers_as_productions = λ text answer. (answer_found text answer, (λ e. subst (HasAnswer text) e (found_answer text)))

pub all_forms_as_productions : AllFormsAsProductions
all_forms_as_productions = λ cs tokens is form. forms_as_productions tokens form (lexed_colons cs tokens is)

pub queries_as_productions : QueriesAsProductions
queries_as_productions = λ text q. answers_as_productions text (IsQuery q)
