-- The query of tokens that are cut as the outline says, by the functions and by the productions.
use Rattle.std.proofs.Common.{◌≡◌, ◌∙◌, ◌+◌, ◌<◌, ℕ, zero, suc, Bool, true, false, cond, ◌||◌, List, [], ◌∷◌, ◌++◌, length, drop, map, refl, sym, ap, subst, arith, append_assoc, Option, Some, None}
use Rattle.std.specs.List.{AllByRecursion, AllZip}
use Rattle.std.proofs.lemmas.List.Folds.{list_any-append}
use Rattle.std.proofs.lemmas.List.{get_or_append_left}
use Rattle.std.specs.Prelude.{◌↔◌}
use Rattle.rdf_model.specs.Terms as rdf
use Rattle.query_grammar.specs.Block.{Part, Triple, IsBlock}
use Rattle.query_grammar.specs.BlockFront.{triples_of}
use Rattle.query_grammar.specs.Lexemes.{Lexeme}
use Rattle.query_grammar.specs.Meaning.{Name, Column, Query, Pattern, no_lexeme, at, is_sign, same_name, name_of, with_name, with_some, place_of, has_sign, block_of, parts_from, names_from, names_of, term_at, patterns_of, selected, column_of, number_behind, or_zero, query_by}
use Rattle.query_grammar.specs.Outline.{limits, HasOutline}
use Rattle.query_grammar.specs.Signs.{Sign, Prefix, Distinct, Limit, Offset, OpenBrace, CloseBrace, sign_of, role_of}
use Rattle.query_grammar.specs.Texts.{name_iri}
use Rattle.query_grammar.proofs.Complete.{block_found}
use Rattle.query_grammar.proofs.Sound.{block_meant}
use Rattle.query_forms.specs.Heads.{IsHead, IsColumn}
use Rattle.query_forms.specs.Laws.{Lacks, FormsAsProductions}
use Rattle.query_forms.specs.Naming.{IsName, AreNames}
use Rattle.query_forms.specs.Patterns.{IsTerm, IsPattern}
use Rattle.query_forms.specs.Prologues.{Declaration, MeansName}
use Rattle.query_forms.specs.Tails.{IsTail}
use Rattle.query_forms.specs.Whole.{HasQueryForm, AreQuery}
use Rattle.query_forms.proofs.Blocks.{is_known, InBlock, block_tokens, Within, triples_within}
use Rattle.query_forms.proofs.Limits.{tails_as_productions}
use Rattle.query_forms.proofs.Named.{among, Distinct as AllDistinct, distinct_once, is_same, names_as_productions}
use Rattle.query_forms.proofs.Outlined.{whole, has_outline_of}
use Rattle.query_forms.proofs.Placed.{terms_at, Colons, Ready, at_place, patterns_found, found_patterns}
use Rattle.query_forms.proofs.Prefixed.{name_found}
use Rattle.query_forms.proofs.Selected.{in_tail, tail_only, head_lacks, behind_prologue, no_prefix, distinct_is, names_are, parts_are, selected_are, selection_variables, columns_found, found_columns}
use Rattle.query_forms.proofs.Signed.{at_past, lacks_both, lacks_other, is_it, Fits}

-- Names of a block

among_more : (names : List Name) (m n : Name) → among names n ≡ true → among (with_name names m) n ≡ true
among_more names m n h = by (among names m) where
  by : (b : Bool) → among (cond b names (names ++ m ∷ [])) n ≡ true
  by true = h
  by false = list_any-append (same_name n) names (m ∷ []) ∙ ap (λ b. b || (same_name n m || false)) h

among_from : (names : List Name) (i : ℕ) (ls : List Lexeme) (n : Name) → among names n ≡ true → among (names_from names i ls) n ≡ true
among_from names i [] n h = h
among_from names i (l ∷ ls) n h = among_from (with_some names (name_of l i)) (i + 1) ls n (by (name_of l i)) where
  by : (o : Option Name) → among (with_some names o) n ≡ true
  by None = h
  by (Some m) = among_more names m n h

among_with : (names : List Name) (n : Name) → among (with_name names n) n ≡ true
among_with names n = by (among names n) refl where
  by : (b : Bool) → among names n ≡ b → among (cond b names (names ++ n ∷ [])) n ≡ true
  by true e = e
  by false e =
      list_any-append (same_name n) names (n ∷ [])
      ∙ (ap (λ b. b || (same_name n n || false)) e ∙ ap (λ b. b || false) (is_same n n refl))

-- the name of each token is among those that are found
has_name : (names : List Name) (i : ℕ) (ls : List Lexeme) (k : ℕ) (n : Name) → k < length ls → name_of (at ls k) (i + k) ≡ Some n
    → among (names_from names i ls) n ≡ true
has_name names i [] k n low e = absurd (omega (arith, low))
has_name names i (l ∷ ls) zero n low e =
    let here : name_of l i ≡ Some n = ap (name_of l) (let same : i ≡ i + 0 = omega arith in same) ∙ e in
    among_from (with_some names (name_of l i)) (i + 1) ls n (subst (λ o. among (with_some names o) n ≡ true) (sym here) (among_with names n))
has_name names i (l ∷ ls) (suc k) n low e =
    has_name (with_some names (name_of l i)) (i + 1) ls k n (omega (arith, low)) (ap (name_of (at ls k)) (let same : (i + 1) + k ≡ i + suc k = omega arith in same) ∙ e)

all_drop : (n : ℕ) (ls : List Lexeme) → Colons ls → Colons (drop n ls)
all_drop zero ls h = h
all_drop (suc n) [] h = tt
all_drop (suc n) (l ∷ ls) h = all_drop n ls h.1

module _ (block head tail : List Lexeme) (brace : Lexeme) (ds : List Declaration) (d : Bool) (variables : List Name) (h : IsHead block head ds d variables)
    (closes : sign_of brace ≡ CloseBrace) (block_close : Lacks CloseBrace block) where
  abbrev tokens : List Lexeme
  tokens = head ++ (block ++ brace ∷ tail)

  abbrev numbered : List Name
  numbered = names_from [] (length head) block

  numbered_are : AreNames IsName (length head) block numbered
  numbered_are = (names_as_productions.names (length head) block numbered).1 refl

  apart : AllDistinct numbered
  apart = distinct_once numbered_are.all numbered numbered_are.once

  -- what stands from one place on

  at_block : (k : ℕ) → k < length block → at (drop (length head + k) tokens) 0 ≡ at block k
  at_block k low =
      sym (at_place tokens (length head + k)) ∙ (at_past head (block ++ brace ∷ tail) k ∙ get_or_append_left block (brace ∷ tail) no_lexeme k low)

  named : (i : ℕ) → Within (length head) block i → (n : Name) → name_of (at (drop i tokens) 0) i ≡ Some n → among numbered n ≡ true
  named i (k, low, is, _) n e =
      has_name [] (length head) block k n low
      (ap (λ l. name_of l (length head + k)) (sym (at_block k low)) ∙ (ap (λ j. name_of (at (drop j tokens) 0) j) (sym is) ∙ e))

  -- what follows the prologue, and what stands before the tail

  tail_lacks : (s : Sign) (l : Option ℕ) (o : ℕ) → IsTail tail l o → in_tail s ≡ false → Lacks s tail
  tail_lacks s l o is e = lacks_other in_tail s tail (tail_only tail l o is) e

  brace_lacks : (s : Sign) → is_sign CloseBrace s ≡ false → Lacks s (brace ∷ [])
  brace_lacks s e = lacks_other (is_sign CloseBrace) s (brace ∷ []) (is_it CloseBrace (sign_of brace) closes, tt) e

  block_lacks : (s : Sign) → InBlock block → is_known (role_of s) ≡ false → Lacks s block
  block_lacks s known e = lacks_other (λ t. is_known (role_of t)) s block known e

  rest_lacks : (s : Sign) (l : Option ℕ) (o : ℕ) → InBlock block → IsTail tail l o → is_known (role_of s) ≡ false → is_sign CloseBrace s ≡ false → in_tail s ≡ false
      → Lacks s (block ++ brace ∷ tail)
  rest_lacks s l o known is b c t = lacks_both s block (brace ∷ tail) (block_lacks s known b) (lacks_both s (brace ∷ []) tail (brace_lacks s c) (tail_lacks s l o is t))

  before_tail : List Lexeme
  before_tail = head ++ (block ++ brace ∷ [])

  tail_behind : tokens ≡ before_tail ++ tail
  unfolding before_tail
  tail_behind = sym (append_assoc head (block ++ brace ∷ []) tail ∙ ap (λ k. head ++ k) (append_assoc block (brace ∷ []) tail))

  no_limit : InBlock block → Lacks Limit before_tail
  unfolding before_tail
  no_limit known = lacks_both Limit head (block ++ brace ∷ []) (head_lacks block head ds d variables h Limit refl refl refl refl refl refl)
      (lacks_both Limit block (brace ∷ []) (block_lacks Limit known refl) (brace_lacks Limit refl))

  no_offset : InBlock block → Lacks Offset before_tail
  unfolding before_tail
  no_offset known = lacks_both Offset head (block ++ brace ∷ []) (head_lacks block head ds d variables h Offset refl refl refl refl refl refl)
      (lacks_both Offset block (brace ∷ []) (block_lacks Offset known refl) (brace_lacks Offset refl))

  -- the tail by the numbers that are found
  found_tail : InBlock block → Fits limits tail → IsTail tail (number_behind Limit tokens) (or_zero (number_behind Offset tokens))
  found_tail known fits =
      (tails_as_productions before_tail tail (number_behind Limit tokens) (or_zero (number_behind Offset tokens)) (no_limit known) (no_offset known)).1
      (fits, ap (number_behind Limit) tail_behind, ap (λ ls. or_zero (number_behind Offset ls)) tail_behind)

  -- The query by the functions

  abbrev parts : List Part
  parts = parts_from (place_of OpenBrace tokens + 1) (block_of tokens)

  block_parts : (triples : List Triple) → triples_of parts ≡ Some triples → IsBlock (parts_from (length head) block) triples
  unfolding triples_of
  block_parts triples e =
      subst (λ ps. IsBlock ps triples) (parts_are block head tail brace ds d variables h closes block_close) (block_meant parts triples e)

  parts_found : (triples : List Triple) → IsBlock (parts_from (length head) block) triples → triples_of parts ≡ Some triples
  unfolding triples_of
  parts_found triples is =
      block_found parts triples (subst (λ ps. IsBlock ps triples) (sym (parts_are block head tail brace ds d variables h closes block_close)) is)

  abbrev behind : List Lexeme
  behind = behind_prologue block head ds d variables h (block ++ brace ∷ tail)

  prologue_first : tokens ≡ h.prologue ++ behind
  prologue_first = whole block head ds d variables h (block ++ brace ∷ tail)

  names_is : names_of tokens ≡ numbered
  names_is = names_are block head tail brace ds d variables h closes block_close

  module _ (l : Option ℕ) (o : ℕ) (is_tail : IsTail tail l o) (known : InBlock block) where
    behind_lacks : Lacks Prefix behind
    behind_lacks = no_prefix block head ds d variables h (block ++ brace ∷ tail) (rest_lacks Prefix l o known is_tail refl refl refl)

    distinct_found : has_sign Distinct tokens ≡ d
    distinct_found = distinct_is block head ds d variables h (block ++ brace ∷ tail) (rest_lacks Distinct l o known is_tail refl refl refl)

    -- what stands at the places of the block is named, read behind the prologue as well
    ready : Colons tokens → (i : ℕ) → Within (length head) block i → Ready h.prologue behind ds h.is_prologue behind_lacks numbered apart i
    ready colons i w =
        subst (λ ts. Colons (drop i ts) × ((n : Name) → name_of (at (drop i ts) 0) i ≡ Some n → among numbered n ≡ true)) prologue_first
        (all_drop i tokens colons, named i w)

    all_ready : Colons tokens → (ts : List Triple) → AllByRecursion (λ t. Within (length head) block t.s × Within (length head) block t.p × Within (length head) block t.o) ts
        → AllByRecursion (λ t. Ready h.prologue behind ds h.is_prologue behind_lacks numbered apart t.s × Ready h.prologue behind ds h.is_prologue behind_lacks numbered apart t.p × Ready h.prologue behind ds h.is_prologue behind_lacks numbered apart t.o) ts
    all_ready colons [] w = tt
    all_ready colons (t ∷ ts) w = ((ready colons t.s w.0.0, ready colons t.p w.0.1, ready colons t.o w.0.2), all_ready colons ts w.1)

    patterns_are : Colons tokens → (triples : List Triple) (patterns : List Pattern) → IsBlock (parts_from (length head) block) triples
        → patterns_of tokens (names_of tokens) triples ≡ Some patterns → AllZip (IsPattern ds numbered tokens) triples patterns
    patterns_are colons triples patterns is e =
        let behind_it : patterns_of (h.prologue ++ behind) numbered triples ≡ Some patterns =
        (λ i. patterns_of (sym prologue_first i) (sym names_is i) triples) ∙ e in
        subst (λ ts. AllZip (IsPattern ds numbered ts) triples patterns) (sym prologue_first)
        (found_patterns h.prologue behind ds h.is_prologue behind_lacks numbered apart triples patterns
        (all_ready colons triples (triples_within (length head) block triples is)) behind_it)

    are_patterns : (triples : List Triple) (patterns : List Pattern) → AllZip (IsPattern ds numbered tokens) triples patterns
        → patterns_of tokens (names_of tokens) triples ≡ Some patterns
    are_patterns triples patterns all =
        (λ i. patterns_of (prologue_first i) (names_is i) triples)
        ∙ patterns_found h.prologue behind ds h.is_prologue behind_lacks numbered apart triples patterns
        (subst (λ ts. AllZip (IsPattern ds numbered ts) triples patterns) prologue_first all)

  -- the form that is found
  pub found_form : (triples : List Triple) → triples_of parts ≡ Some triples → Fits limits tail → HasQueryForm tokens
  found_form triples e fits =
      let is = block_parts triples e in
      record {
        head = head;
        block = block;
        brace = brace;
        tail = tail;
        declarations = ds;
        distinct = d;
        variables = variables;
        triples = triples;
        names = numbered;
        limit = number_behind Limit tokens;
        offset = or_zero (number_behind Offset tokens);
        are = refl;
        is_head = h;
        is_block = is;
        is_brace = closes;
        is_tail = found_tail (block_tokens (length head) block triples is) fits;
        are_names = numbered_are;
      }

  tail_numbers : (l : Option ℕ) (o : ℕ) → InBlock block → IsTail tail l o
      → Fits limits tail × (l ≡ number_behind Limit tokens) × (o ≡ or_zero (number_behind Offset tokens))
  tail_numbers l o known is_tail =
      let numbers = (tails_as_productions before_tail tail l o (no_limit known) (no_offset known)).0 is_tail in (
        numbers.0,
        numbers.1 ∙ sym (ap (number_behind Limit) tail_behind),
        numbers.2 ∙ sym (ap (λ ls. or_zero (number_behind Offset ls)) tail_behind),
      )

-- What the functions say of tokens that have the form of a query

module _ (all : List Lexeme) (f : HasQueryForm all) where
  known : InBlock f.block
  known = block_tokens (length f.head) f.block f.triples f.is_block

  no_close : Lacks CloseBrace f.block
  no_close = lacks_other (λ s. is_known (role_of s)) CloseBrace f.block known refl

  numbers : Fits limits f.tail × (f.limit ≡ number_behind Limit (f.head ++ (f.block ++ f.brace ∷ f.tail))) × (f.offset ≡ or_zero (number_behind Offset (f.head ++ (f.block ++ f.brace ∷ f.tail))))
  numbers = tail_numbers f.block f.head f.tail f.brace f.declarations f.distinct f.variables f.is_head f.is_brace no_close f.limit f.offset known f.is_tail

  pub form_outline : HasOutline (map sign_of all)
  form_outline = subst (λ ts. HasOutline (map sign_of ts)) (sym f.are)
      (has_outline_of f.block f.head f.tail f.brace f.declarations f.distinct f.variables f.is_head known f.is_brace numbers.0)

  pub form_block : triples_of (parts_from (place_of OpenBrace all + 1) (block_of all)) ≡ Some f.triples
  form_block =
      ap (λ ts. triples_of (parts_from (place_of OpenBrace ts + 1) (block_of ts))) f.are
      ∙ parts_found f.block f.head f.tail f.brace f.declarations f.distinct f.variables f.is_head f.is_brace no_close f.triples f.is_block

  form_limit : f.limit ≡ number_behind Limit all
  form_limit = numbers.1 ∙ ap (number_behind Limit) (sym f.are)

  form_offset : f.offset ≡ or_zero (number_behind Offset all)
  form_offset = numbers.2 ∙ ap (λ ts. or_zero (number_behind Offset ts)) (sym f.are)

  form_distinct : f.distinct ≡ has_sign Distinct all
  form_distinct =
      sym (distinct_found f.block f.head f.tail f.brace f.declarations f.distinct f.variables f.is_head f.is_brace no_close f.limit f.offset f.is_tail known)
      ∙ ap (has_sign Distinct) (sym f.are)

  form_names : f.names ≡ names_of all
  form_names =
      (names_as_productions.names (length f.head) f.block f.names).0 f.are_names
      ∙ (sym (names_is f.block f.head f.tail f.brace f.declarations f.distinct f.variables f.is_head f.is_brace no_close)
      ∙ ap names_of (sym f.are))

  form_variables : f.variables ≡ selected all
  form_variables =
      sym (selected_are f.block f.head f.tail f.brace f.declarations f.distinct f.variables f.is_head f.is_brace no_close)
      ∙ ap selected (sym f.are)

  form_apart : AllDistinct f.names
  form_apart = distinct_once f.are_names.all f.names f.are_names.once

  form_columns : (cs : List Column) → AllZip (IsColumn f.names) f.variables cs → cs ≡ map (column_of (names_of all)) (selected all)
  form_columns cs columns = columns_found f.names form_apart f.variables cs columns ∙ (λ i. map (column_of (form_names i)) (form_variables i))

  columns_formed : AllZip (IsColumn f.names) f.variables (map (column_of (names_of all)) (selected all))
  columns_formed = subst (AllZip (IsColumn f.names) f.variables) (λ i. map (column_of (form_names i)) (form_variables i))
      (found_columns f.names form_apart f.variables (selection_variables f.block f.is_head.selection f.variables f.is_head.is_selection))

  same_numbered : f.names ≡ names_from [] (length f.head) f.block
  same_numbered = (names_as_productions.names (length f.head) f.block f.names).0 f.are_names

  pub form_patterns : (patterns : List Pattern) → AllZip (IsPattern f.declarations f.names all) f.triples patterns → patterns_of all (names_of all) f.triples ≡ Some patterns
  form_patterns patterns h =
      ap (λ ts. patterns_of ts (names_of ts) f.triples) f.are
      ∙ are_patterns f.block f.head f.tail f.brace f.declarations f.distinct f.variables f.is_head f.is_brace no_close f.limit f.offset f.is_tail known f.triples patterns
      (subst (λ ts. AllZip (IsPattern f.declarations (names_from [] (length f.head) f.block) ts) f.triples patterns) f.are
      (subst (λ ns. AllZip (IsPattern f.declarations ns all) f.triples patterns) same_numbered h))

  pub patterns_formed : (patterns : List Pattern) → Colons all → patterns_of all (names_of all) f.triples ≡ Some patterns → AllZip (IsPattern f.declarations f.names all) f.triples patterns
  patterns_formed patterns colons e =
      subst (λ ns. AllZip (IsPattern f.declarations ns all) f.triples patterns) (sym same_numbered)
      (subst (λ ts. AllZip (IsPattern f.declarations (names_from [] (length f.head) f.block) ts) f.triples patterns) (sym f.are)
      (patterns_are f.block f.head f.tail f.brace f.declarations f.distinct f.variables f.is_head f.is_brace no_close f.limit f.offset f.is_tail known
      (subst Colons f.are colons) f.triples patterns f.is_block
      (ap (λ ts. patterns_of ts (names_of ts) f.triples) (sym f.are) ∙ e)))

  first_prologue : all ≡ f.is_head.prologue ++ behind_prologue f.block f.head f.declarations f.distinct f.variables f.is_head (f.block ++ f.brace ∷ f.tail)
  first_prologue = f.are ∙ prologue_first f.block f.head f.tail f.brace f.declarations f.distinct f.variables f.is_head f.is_brace no_close

  no_prefix_behind : Lacks Prefix (behind_prologue f.block f.head f.declarations f.distinct f.variables f.is_head (f.block ++ f.brace ∷ f.tail))
  no_prefix_behind = behind_lacks f.block f.head f.tail f.brace f.declarations f.distinct f.variables f.is_head f.is_brace no_close f.limit f.offset f.is_tail known

  pub form_name : (l : Lexeme) (i : List ℕ) → MeansName f.declarations l i → name_iri all l ≡ Some i
  form_name l i h =
      ap (λ ts. name_iri ts l) first_prologue
      ∙ name_found f.is_head.prologue (behind_prologue f.block f.head f.declarations f.distinct f.variables f.is_head (f.block ++ f.brace ∷ f.tail)) f.declarations f.is_head.is_prologue no_prefix_behind l i h

  form_terms : Colons all → (i : ℕ) (t : rdf.Term) → IsTerm f.declarations (drop i all) t ↔ (term_at all i ≡ Some t)
  form_terms colons i t =
      let rest = behind_prologue f.block f.head f.declarations f.distinct f.variables f.is_head (f.block ++ f.brace ∷ f.tail) in
      subst (λ ts. IsTerm f.declarations (drop i ts) t ↔ (term_at ts i ≡ Some t)) (sym first_prologue)
      (terms_at f.is_head.prologue rest f.declarations f.is_head.is_prologue no_prefix_behind i t (all_drop i _ (subst Colons first_prologue colons)))

  pub forms_as_productions : Colons all → FormsAsProductions all f
  forms_as_productions colons = record {
    distinct = form_distinct;
    variables = form_variables;
    names = form_names;
    limit = form_limit;
    offset = form_offset;
    columns = λ cs. (form_columns cs, (λ e. subst (AllZip (IsColumn f.names) f.variables) (sym e) columns_formed));
    terms = form_terms colons;
    patterns = λ patterns. (form_patterns patterns, patterns_formed patterns colons);
  }

-- The query of tokens, by the functions and by the productions

pub found_query : (all : List Lexeme) (f : HasQueryForm all) (patterns : List Pattern) → Colons all → patterns_of all (names_of all) f.triples ≡ Some patterns
    → AreQuery all (query_by all patterns)
found_query all f patterns colons e = record {
  form = f;
  distinct = sym (form_distinct all f);
  columns = columns_formed all f;
  labels = ap length (sym (form_names all f));
  patterns = patterns_formed all f patterns colons e;
  limit = sym (form_limit all f);
  offset = sym (form_offset all f);
}

pub query_found : (all : List Lexeme) (q : Query) → AreQuery all q → q ≡ query_by all q.patterns
query_found all q h = (λ i. record {
  columns = form_columns all h.form q.columns h.columns i;
  labels = (h.labels ∙ ap length (form_names all h.form)) i;
  distinct = (h.distinct ∙ form_distinct all h.form) i;
  patterns = q.patterns;
  limit = (h.limit ∙ form_limit all h.form) i;
  offset = (h.offset ∙ form_offset all h.form) i;
})
