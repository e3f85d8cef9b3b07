-- The columns of a query, and what else its signs say, by its parts.
use Rattle.std.proofs.Common.{◌≡◌, ◌∙◌, ◌+◌, ℕ, Bool, true, false, cond, List, [], ◌∷◌, ◌++◌, length, map, refl, sym, ap, subst, append-nil, Option, Some, None}
use Rattle.std.specs.List.{AllZip, cons_option}
use Rattle.query_grammar.specs.Lexemes.{Lexeme}
use Rattle.query_grammar.specs.Meaning.{Name, VariableName, LabelName, Fresh, Column, is_sign, place_of, has_sign, before_block, block_of, parts_from, names_from, names_of, variables_from, selected, column_of, number_among}
use Rattle.query_grammar.specs.Signs.{Sign, Prefix, Select, Distinct, Reduced, Where, Limit, Offset, Integer, Variable, OpenBrace, CloseBrace, Star, sign_of}
use Rattle.query_forms.specs.Heads.{IsModifier, nothing, distinct, reduced, IsSelection, variables, star, IsHead, IsColumn, bound, unbound}
use Rattle.query_forms.specs.Laws.{Lacks}
use Rattle.query_forms.specs.Prologues.{Declaration}
use Rattle.query_forms.specs.Tails as tail
use Rattle.query_forms.specs.Tails.{IsClause, clause, IsTail}
use Rattle.query_forms.proofs.Blocks.{all_both}
use Rattle.query_forms.proofs.Headed.{in_prologue, prologue_only, in_modifier, modifier_only, in_selection, selection_only, variables_only, where_only}
use Rattle.query_forms.proofs.Named.{among, not_among, contains_among, all_found, once_all, variable_by, find_variable, variables_once, names_as_productions, Distinct as AllDistinct, place_among, number_found, number_only}
use Rattle.query_forms.proofs.Outlined.{front_of, head_is, head_and, whole, front_is, block_is, block_place}
use Rattle.query_forms.proofs.Signed.{is_it, has_none, has_past, has_before, has_here, lacks_both, Only, lacks_other, clash}

-- Signs that the parts lack

one_only : (s : Sign) (l : Lexeme) → sign_of l ≡ s → Only (is_sign s) (l ∷ [])
one_only s l e = (is_it s (sign_of l) e, tt)

abbrev pub in_tail : Sign → Bool
in_tail Limit = true
in_tail Offset = true
in_tail Integer = true
in_tail _ = false

limit_only : (ls : List Lexeme) (n : ℕ) → IsClause Limit ls n → Only in_tail ls
limit_only _ _ (clause first second f s) = (ap in_tail f, (ap in_tail s, tt))

offset_only : (ls : List Lexeme) (n : ℕ) → IsClause Offset ls n → Only in_tail ls
offset_only _ _ (clause first second f s) = (ap in_tail f, (ap in_tail s, tt))

pub tail_only : (ls : List Lexeme) (l : Option ℕ) (o : ℕ) → IsTail ls l o → Only in_tail ls
tail_only _ _ _ tail.nothing = tt
tail_only _ _ _ (tail.limit ls m h) = limit_only ls m h
tail_only _ _ _ (tail.offset ks n h) = offset_only ks n h
tail_only _ _ _ (tail.limit_offset ls ks m n h g) = all_both (λ (l : Lexeme). in_tail (sign_of l) ≡ true) ls ks (limit_only ls m h) (offset_only ks n g)
tail_only _ _ _ (tail.offset_limit ls ks m n h g) = all_both (λ (l : Lexeme). in_tail (sign_of l) ≡ true) ks ls (offset_only ks n g) (limit_only ls m h)

-- The variables of tokens

variables_at : (i : ℕ) (ls : List Lexeme) → all_found find_variable i ls ≡ all_found find_variable 0 ls
variables_at i [] = refl
variables_at i (l ∷ ls) = ap (λ ns. cons_option (find_variable 0 l) ns) (variables_at (i + 1) ls ∙ sym (variables_at (0 + 1) ls))

no_variable : (i : ℕ) (l : Lexeme) → (sign_of l ≡ Variable → ⊥) → find_variable i l ≡ None
no_variable i l h = by (sign_of l) refl where
  by : (s : Sign) → sign_of l ≡ s → variable_by s l.text ≡ None
  by Variable e = absurd (h e)
  by _ e = refl

variables_past : (i : ℕ) (ls ks : List Lexeme) → Lacks Variable ls → all_found find_variable i (ls ++ ks) ≡ all_found find_variable 0 ks
variables_past i [] ks h = variables_at i ks
variables_past i (l ∷ ls) ks h = ap (λ o. cons_option o (all_found find_variable (i + 1) (ls ++ ks))) (no_variable i l h.0) ∙ variables_past (i + 1) ls ks h.1

variables_none : (i : ℕ) (ls : List Lexeme) → Lacks Variable ls → all_found find_variable i ls ≡ []
variables_none i ls h = ap (all_found find_variable i) (sym (append-nil ls)) ∙ variables_past i ls [] h

variables_before : (i : ℕ) (ls ks : List Lexeme) → Lacks Variable ks → all_found find_variable i (ls ++ ks) ≡ all_found find_variable i ls
variables_before i [] ks h = variables_none i ks h
variables_before i (l ∷ ls) ks h = ap (cons_option (find_variable i l)) (variables_before (i + 1) ls ks h)

-- Heads

module _ (block head : List Lexeme) (ds : List Declaration) (d : Bool) (names : List Name) (h : IsHead block head ds d names) where
  prologue_lacks : (s : Sign) → in_prologue s ≡ false → Lacks s h.prologue
  prologue_lacks s e = lacks_other in_prologue s h.prologue (prologue_only h.prologue ds h.is_prologue) e

  select_lacks : (s : Sign) → is_sign Select s ≡ false → Lacks s (h.select ∷ [])
  select_lacks s e = lacks_other (is_sign Select) s (h.select ∷ []) (one_only Select h.select h.is_select) e

  modifier_lacks : (s : Sign) → in_modifier s ≡ false → Lacks s h.modifier
  modifier_lacks s e = lacks_other in_modifier s h.modifier (modifier_only h.modifier d h.is_modifier) e

  selection_lacks : (s : Sign) → in_selection s ≡ false → Lacks s h.selection
  selection_lacks s e = lacks_other in_selection s h.selection (selection_only block h.selection names h.is_selection) e

  where_lacks : (s : Sign) → is_sign Where s ≡ false → Lacks s h.where_word
  where_lacks s e = lacks_other (is_sign Where) s h.where_word (where_only h.where_word h.is_where) e

  brace_lacks : (s : Sign) → is_sign OpenBrace s ≡ false → Lacks s (h.brace ∷ [])
  brace_lacks s e = lacks_other (is_sign OpenBrace) s (h.brace ∷ []) (one_only OpenBrace h.brace h.is_brace) e

  front_lacks : (s : Sign) → in_prologue s ≡ false → is_sign Select s ≡ false → in_modifier s ≡ false → in_selection s ≡ false → is_sign Where s ≡ false
      → Lacks s (front_of h)
  front_lacks s p e m v w =
      lacks_both s h.prologue (h.select ∷ (h.modifier ++ (h.selection ++ h.where_word))) (prologue_lacks s p)
      (lacks_both s (h.select ∷ []) (h.modifier ++ (h.selection ++ h.where_word)) (select_lacks s e)
      (lacks_both s h.modifier (h.selection ++ h.where_word) (modifier_lacks s m)
      (lacks_both s h.selection h.where_word (selection_lacks s v) (where_lacks s w))))

  pub head_lacks : (s : Sign) → in_prologue s ≡ false → is_sign Select s ≡ false → in_modifier s ≡ false → in_selection s ≡ false → is_sign Where s ≡ false
      → is_sign OpenBrace s ≡ false → Lacks s head
  head_lacks s p e m v w b = subst (Lacks s) (sym (head_is block head ds d names h)) (lacks_both s (front_of h) (h.brace ∷ []) (front_lacks s p e m v w) (brace_lacks s b))

  -- what stands behind the modifier, and behind the prologue
  abbrev behind_modifier : List Lexeme → List Lexeme
  behind_modifier rest = h.selection ++ (h.where_word ++ h.brace ∷ rest)

  abbrev pub behind_prologue : List Lexeme → List Lexeme
  behind_prologue rest = h.select ∷ (h.modifier ++ (h.selection ++ (h.where_word ++ h.brace ∷ rest)))

  behind_modifier_lacks : (s : Sign) (rest : List Lexeme) → in_selection s ≡ false → is_sign Where s ≡ false → is_sign OpenBrace s ≡ false → Lacks s rest
      → Lacks s (behind_modifier rest)
  behind_modifier_lacks s rest v w b r =
      lacks_both s h.selection (h.where_word ++ h.brace ∷ rest) (selection_lacks s v)
      (lacks_both s h.where_word (h.brace ∷ rest) (where_lacks s w) (lacks_both s (h.brace ∷ []) rest (brace_lacks s b) r))

  pub no_prefix : (rest : List Lexeme) → Lacks Prefix rest → Lacks Prefix (behind_prologue rest)
  no_prefix rest r =
      lacks_both Prefix (h.select ∷ []) (h.modifier ++ behind_modifier rest) (select_lacks Prefix refl)
      (lacks_both Prefix h.modifier (behind_modifier rest) (modifier_lacks Prefix refl) (behind_modifier_lacks Prefix rest refl refl refl r))

  -- DISTINCT

  has_distinct : (ls : List Lexeme) (d : Bool) → IsModifier ls d → has_sign Distinct ls ≡ d
  has_distinct _ _ nothing = refl
  has_distinct _ _ (distinct l s) = has_here Distinct l [] s
  has_distinct _ _ (reduced l s) = has_none Distinct (l ∷ []) (lacks_other (is_sign Reduced) Distinct (l ∷ []) (one_only Reduced l s) refl)

  pub distinct_is : (rest : List Lexeme) → Lacks Distinct rest → has_sign Distinct (head ++ rest) ≡ d
  distinct_is rest r =
      ap (has_sign Distinct) (whole block head ds d names h rest)
      ∙ (has_past Distinct h.prologue (h.select ∷ (h.modifier ++ behind_modifier rest)) (prologue_lacks Distinct refl)
      ∙ (has_past Distinct (h.select ∷ []) (h.modifier ++ behind_modifier rest) (select_lacks Distinct refl)
      ∙ (has_before Distinct h.modifier (behind_modifier rest) (behind_modifier_lacks Distinct rest refl refl refl r)
      ∙ has_distinct h.modifier d h.is_modifier)))

  -- Variables and the star

  front_has_star : has_sign Star (front_of h) ≡ has_sign Star h.selection
  front_has_star =
      has_past Star h.prologue (h.select ∷ (h.modifier ++ (h.selection ++ h.where_word))) (prologue_lacks Star refl)
      ∙ (has_past Star (h.select ∷ []) (h.modifier ++ (h.selection ++ h.where_word)) (select_lacks Star refl)
      ∙ (has_past Star h.modifier (h.selection ++ h.where_word) (modifier_lacks Star refl)
      ∙ has_before Star h.selection h.where_word (where_lacks Star refl)))

  front_variables : all_found find_variable 0 (front_of h) ≡ all_found find_variable 0 h.selection
  front_variables =
      variables_past 0 h.prologue (h.select ∷ (h.modifier ++ (h.selection ++ h.where_word))) (prologue_lacks Variable refl)
      ∙ (variables_past 0 (h.select ∷ []) (h.modifier ++ (h.selection ++ h.where_word)) (select_lacks Variable refl)
      ∙ (variables_past 0 h.modifier (h.selection ++ h.where_word) (modifier_lacks Variable refl)
      ∙ variables_before 0 h.selection h.where_word (where_lacks Variable refl)))

  -- the selected variables, by the star, the names of the block and what stands before it
  chosen : List Lexeme → List Name → List Name
  chosen front inner = cond (has_sign Star front) (variables_from inner) (variables_from (names_from [] 0 front))

  chosen_by : (ls : List Lexeme) (i : ℕ) → IsSelection block ls names → ls ≡ h.selection → chosen (front_of h) (names_from [] i block) ≡ names
  unfolding chosen
  chosen_by _ i (variables l ls names all are) e =
      ap (λ b. cond b (variables_from (names_from [] i block)) (variables_from (names_from [] 0 (front_of h))))
      (front_has_star ∙ (ap (has_sign Star) (sym e) ∙ has_none Star (l ∷ ls) (lacks_other (is_sign Variable) Star (l ∷ ls) (variables_only (l ∷ ls) all) refl)))
      ∙ (variables_once 0 (front_of h)
      ∙ (ap once_all (front_variables ∙ ap (all_found find_variable 0) (sym e))
      ∙ (sym (variables_once 0 (l ∷ ls)) ∙ sym ((names_as_productions.variables 0 (l ∷ ls) names).0 are))))
  chosen_by _ i (star l names s are) e =
      ap (λ b. cond b (variables_from (names_from [] i block)) (variables_from (names_from [] 0 (front_of h))))
      (front_has_star ∙ (ap (has_sign Star) (sym e) ∙ has_here Star l [] s))
      ∙ (variables_once i block
      ∙ (ap once_all (variables_at i block)
      ∙ (sym (variables_once 0 block) ∙ sym ((names_as_productions.variables 0 block names).0 are))))

  chosen_is : (i : ℕ) → chosen (front_of h) (names_from [] i block) ≡ names
  chosen_is i = chosen_by h.selection i h.is_selection refl

-- All of a query's tokens

module _ (block head tail : List Lexeme) (brace : Lexeme) (ds : List Declaration) (d : Bool) (names : List Name) (h : IsHead block head ds d names)
    (closes : sign_of brace ≡ CloseBrace) (block_close : Lacks CloseBrace block) where
  abbrev tokens : List Lexeme
  tokens = head ++ (block ++ brace ∷ tail)

  all_are : tokens ≡ front_of h ++ h.brace ∷ (block ++ brace ∷ tail)
  all_are = head_and block head ds d names h (block ++ brace ∷ tail)

  no_open : Lacks OpenBrace (front_of h)
  no_open = front_lacks block head ds d names h OpenBrace refl refl refl refl refl

  no_close : Lacks CloseBrace (front_of h)
  no_close = front_lacks block head ds d names h CloseBrace refl refl refl refl refl

  pub place : place_of OpenBrace tokens + 1 ≡ length head
  place =
      ap (λ ls. place_of OpenBrace ls + 1) all_are
      ∙ (block_place (front_of h) block tail h.brace brace h.is_brace closes no_open no_close block_close ∙ ap length (sym (head_is block head ds d names h)))

  pub before_is : before_block tokens ≡ front_of h
  before_is = ap before_block all_are ∙ front_is (front_of h) block tail h.brace brace h.is_brace closes no_open no_close block_close

  within_is : block_of tokens ≡ block
  within_is = ap block_of all_are ∙ block_is (front_of h) block tail h.brace brace h.is_brace closes no_open no_close block_close

  pub names_are : names_of tokens ≡ names_from [] (length head) block
  names_are = (λ i. names_from [] (place i) (within_is i))

  pub parts_are : parts_from (place_of OpenBrace tokens + 1) (block_of tokens) ≡ parts_from (length head) block
  parts_are = (λ i. parts_from (place i) (within_is i))

  pub selected_are : selected tokens ≡ names
  unfolding chosen
  selected_are = (λ i. chosen block head ds d names h (before_is i) (names_are i)) ∙ chosen_is block head ds d names h (length head)

-- Columns

abbrev pub AreVariables : List Name → Type 0
AreVariables [] = Unit {0}
AreVariables (VariableName v ∷ names) = AreVariables names
AreVariables (_ ∷ names) = ⊥

variables_from_are : (names : List Name) → AreVariables (variables_from names)
variables_from_are [] = tt
variables_from_are (VariableName v ∷ names) = variables_from_are names
variables_from_are (LabelName v ∷ names) = variables_from_are names
variables_from_are (Fresh i ∷ names) = variables_from_are names

pub selection_variables : (block ls : List Lexeme) (names : List Name) → IsSelection block ls names → AreVariables names
selection_variables block _ _ (variables l ls names all are) =
    subst AreVariables (sym ((names_as_productions.variables 0 (l ∷ ls) names).0 are)) (variables_from_are (names_from [] 0 (l ∷ ls)))
selection_variables block _ _ (star l names s are) =
    subst AreVariables (sym ((names_as_productions.variables 0 block names).0 are)) (variables_from_are (names_from [] 0 block))

module _ (names : List Name) (apart : AllDistinct names) where
  column_found : (v : Name) (c : Column) → IsColumn names v c → c ≡ column_of names v
  column_found _ _ (bound v i at) =
      ap (λ o. record { name = v; label = o })
      (sym (ap (λ b. cond {A = Option ℕ} b (Some (number_among names (VariableName v))) None) (place_among names i (VariableName v) at)
      ∙ ap (λ n. Some n) (number_only names i (VariableName v) apart at)))
  column_found _ _ (unbound v absent) =
      ap (λ o. record { name = v; label = o })
      (sym (ap (λ b. cond {A = Option ℕ} b (Some (number_among names (VariableName v))) None) (not_among names (VariableName v) absent)))

  found_column : (v : List ℕ) → IsColumn names (VariableName v) (column_of names (VariableName v))
  found_column v = by (among names (VariableName v)) refl where
    by : (b : Bool) → among names (VariableName v) ≡ b → IsColumn names (VariableName v) (record { name = v; label = cond b (Some (number_among names (VariableName v))) None })
    by true e = bound v (number_among names (VariableName v)) (number_found names (VariableName v) e)
    by false e = unbound v (λ c. clash (sym (contains_among names (VariableName v) c) ∙ e))

  pub columns_found : (vs : List Name) (cs : List Column) → AllZip (IsColumn names) vs cs → cs ≡ map (column_of names) vs
  columns_found [] [] h = refl
  columns_found [] (c ∷ cs) h = absurd h
  columns_found (v ∷ vs) [] h = absurd h
  columns_found (v ∷ vs) (c ∷ cs) h = (λ i. column_found v c h.0 i ∷ columns_found vs cs h.1 i)

  pub found_columns : (vs : List Name) → AreVariables vs → AllZip (IsColumn names) vs (map (column_of names) vs)
  found_columns [] h = tt
  found_columns (VariableName v ∷ vs) h = (found_column v, found_columns vs h)
  found_columns (LabelName v ∷ vs) h = absurd h
  found_columns (Fresh i ∷ vs) h = absurd h
