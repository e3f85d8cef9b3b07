-- The parts of a query by its outline, and where they stand.
use Rattle.std.proofs.Common.{◌≡◌, ◌∙◌, ◌+◌, ◌-◌, Bool, List, [], ◌∷◌, ◌++◌, length, take, drop, map, sym, ap, subst, arith, append_assoc, length-append}
use Rattle.std.proofs.Math.Seq.{take-append_seam, drop-append_seam}
use Rattle.query_tokens.specs.Forms.{Form, ◌▸◌, ◌∣◌, many, maybe, some}
use Rattle.query_grammar.specs.Lexemes.{Lexeme}
use Rattle.query_grammar.specs.Meaning.{Name, place_of, before_block, block_of}
use Rattle.query_grammar.specs.Outline.{sign, prefix, limits, inside, query, HasOutline}
use Rattle.query_grammar.specs.Signs.{Select, Distinct, Reduced, Where, Variable, OpenBrace, CloseBrace, Star, sign_of}
use Rattle.query_forms.specs.Heads.{IsModifier, IsSelection, IsWhere, IsHead}
use Rattle.query_forms.specs.Laws.{Lacks}
use Rattle.query_forms.specs.Prologues.{Declaration}
use Rattle.query_forms.proofs.Blocks.{InBlock}
use Rattle.query_forms.proofs.Headed.{each_prefix, modifier_from, modifier_fits, HasSelection, selection_from, selection_fits, where_from, where_fits, in_braces, inside_each, each_inside}
use Rattle.query_forms.proofs.Signed.{place_past, place_here, Fits, Joined, parted, together, one_token, fits_one, each_of, of_each, Only}

abbrev closing : Form
closing = sign CloseBrace ▸ limits

abbrev from_block : Form
from_block = many inside ▸ closing

abbrev from_brace : Form
from_brace = sign OpenBrace ▸ from_block

abbrev from_where : Form
from_where = maybe (sign Where) ▸ from_brace

abbrev from_selection : Form
from_selection = (some (sign Variable) ∣ sign Star) ▸ from_where

abbrev from_modifier : Form
from_modifier = maybe (sign Distinct ∣ sign Reduced) ▸ from_selection

abbrev from_select : Form
from_select = sign Select ▸ from_modifier

-- from the brackets that a list has to those of its parts
module _ (prologue modifier selection word rest : List Lexeme) (select : Lexeme) where
  regrouped_head : (prologue ++ select ∷ (modifier ++ (selection ++ word))) ++ rest ≡ prologue ++ select ∷ (modifier ++ (selection ++ (word ++ rest)))
  regrouped_head =
      append_assoc prologue (select ∷ (modifier ++ (selection ++ word))) rest
      ∙ ap (λ k. prologue ++ select ∷ k) (append_assoc modifier (selection ++ word) rest ∙ ap (λ k. modifier ++ k) (append_assoc selection word rest))

-- the parts of a query, but for what its block and its limits mean
pub record IsOutlined (tokens : List Lexeme) : Type 0 where
  pub prologue : List Lexeme
  pub select : Lexeme
  pub modifier : List Lexeme
  pub selection : List Lexeme
  pub word : List Lexeme
  pub open_brace : Lexeme
  pub block : List Lexeme
  pub close_brace : Lexeme
  pub tail : List Lexeme
  pub are : tokens ≡ prologue ++ select ∷ (modifier ++ (selection ++ (word ++ open_brace ∷ (block ++ close_brace ∷ tail))))
  pub is_prologue : Fits (many prefix) prologue
  pub is_select : sign_of select ≡ Select
  pub distinct : Bool
  pub is_modifier : IsModifier modifier distinct
  pub variables : List Name
  pub is_selection : IsSelection block selection variables
  pub is_where : IsWhere word
  pub is_open : sign_of open_brace ≡ OpenBrace
  pub is_block : Only in_braces block
  pub is_close : sign_of close_brace ≡ CloseBrace
  pub is_tail : Fits limits tail

-- from the brace that opens the block on
record IsOpened (ls : List Lexeme) : Type 0 where
  open_brace : Lexeme
  block : List Lexeme
  close_brace : Lexeme
  tail : List Lexeme
  are : ls ≡ open_brace ∷ (block ++ close_brace ∷ tail)
  is_open : sign_of open_brace ≡ OpenBrace
  is_block : Only in_braces block
  is_close : sign_of close_brace ≡ CloseBrace
  is_tail : Fits limits tail

opened : (open_brace : Lexeme) (ls : List Lexeme) → sign_of open_brace ≡ OpenBrace → Joined (many inside) closing ls → IsOpened (open_brace ∷ ls)
opened open_brace ls opens g = by (parted (sign CloseBrace) limits g.second g.fits_second) where
  by : Joined (sign CloseBrace) limits g.second → IsOpened (open_brace ∷ ls)
  by k =
      let close_brace = one_token CloseBrace k.first k.fits_first in
      record {
        open_brace = open_brace;
        block = g.first;
        close_brace = close_brace.token;
        tail = k.second;
        are = ap (λ x. open_brace ∷ x) g.are ∙ ap (λ x. open_brace ∷ (g.first ++ x)) (k.are ∙ ap (λ x. x ++ k.second) close_brace.are);
        is_open = opens;
        is_block = each_inside g.first (each_of inside g.first g.fits_first);
        is_close = close_brace.is;
        is_tail = k.fits_second;
      }

opened_from : (ls : List Lexeme) → Joined (sign OpenBrace) from_block ls → IsOpened ls
opened_from ls f =
    let open_brace = one_token OpenBrace f.first f.fits_first in
    subst IsOpened (sym (f.are ∙ ap (λ x. x ++ f.second) open_brace.are)) (opened open_brace.token f.second open_brace.is (parted (many inside) closing f.second f.fits_second))

-- from the modifier on
record IsSelecting (ls : List Lexeme) : Type 0 where
  modifier : List Lexeme
  selection : List Lexeme
  word : List Lexeme
  rest : List Lexeme
  are : ls ≡ modifier ++ (selection ++ (word ++ rest))
  distinct : Bool
  is_modifier : IsModifier modifier distinct
  opened : IsOpened rest
  selects : HasSelection opened.block selection
  is_where : IsWhere word

selecting : (ls : List Lexeme) → Fits from_modifier ls → IsSelecting ls
selecting ls h = by (parted (maybe (sign Distinct ∣ sign Reduced)) from_selection ls h) where
  where_on : (c : Joined (maybe (sign Distinct ∣ sign Reduced)) from_selection ls) (d : Joined (some (sign Variable) ∣ sign Star) from_where c.second)
      → Joined (maybe (sign Where)) from_brace d.second → IsSelecting ls
  where_on c d e =
      let modifier = modifier_from c.first c.fits_first in
      let rest = opened_from e.second (parted (sign OpenBrace) from_block e.second e.fits_second) in
      record {
        modifier = c.first;
        selection = d.first;
        word = e.first;
        rest = e.second;
        are = c.are ∙ ap (λ x. c.first ++ x) d.are ∙ ap (λ x. c.first ++ (d.first ++ x)) e.are;
        distinct = modifier.0;
        is_modifier = modifier.1;
        opened = rest;
        selects = selection_from rest.block d.first d.fits_first;
        is_where = where_from e.first e.fits_first;
      }

  selection_on : (c : Joined (maybe (sign Distinct ∣ sign Reduced)) from_selection ls) → Joined (some (sign Variable) ∣ sign Star) from_where c.second → IsSelecting ls
  selection_on c d = where_on c d (parted (maybe (sign Where)) from_brace d.second d.fits_second)

  by : Joined (maybe (sign Distinct ∣ sign Reduced)) from_selection ls → IsSelecting ls
  by c = selection_on c (parted (some (sign Variable) ∣ sign Star) from_where c.second c.fits_second)

pub outlined : (tokens : List Lexeme) → HasOutline (map sign_of tokens) → IsOutlined tokens
outlined tokens h = by (parted (many prefix) from_select tokens h) where
  all : (a : Joined (many prefix) from_select tokens) (select : Lexeme) (rest : List Lexeme) → sign_of select ≡ Select → a.second ≡ select ∷ rest → IsSelecting rest → IsOutlined tokens
  all a select rest is e s = record {
    prologue = a.first;
    select = select;
    modifier = s.modifier;
    selection = s.selection;
    word = s.word;
    open_brace = s.opened.open_brace;
    block = s.opened.block;
    close_brace = s.opened.close_brace;
    tail = s.opened.tail;
    are = a.are ∙ ap (λ x. a.first ++ x) e ∙ ap (λ x. a.first ++ select ∷ x) s.are
        ∙ ap (λ x. a.first ++ select ∷ (s.modifier ++ (s.selection ++ (s.word ++ x)))) s.opened.are;
    is_prologue = a.fits_first;
    is_select = is;
    distinct = s.distinct;
    is_modifier = s.is_modifier;
    variables = s.selects.names;
    is_selection = s.selects.is;
    is_where = s.is_where;
    is_open = s.opened.is_open;
    is_block = s.opened.is_block;
    is_close = s.opened.is_close;
    is_tail = s.opened.is_tail;
  }

  select_on : (a : Joined (many prefix) from_select tokens) → Joined (sign Select) from_modifier a.second → IsOutlined tokens
  select_on a b =
      let select = one_token Select b.first b.fits_first in
      all a select.token b.second select.is (b.are ∙ ap (λ x. x ++ b.second) select.are) (selecting b.second b.fits_second)

  by : Joined (many prefix) from_select tokens → IsOutlined tokens
  by a = select_on a (parted (sign Select) from_modifier a.second a.fits_second)

-- the tokens before the brace that opens the block
abbrev pub front_of : {block head : List Lexeme} {ds : List Declaration} {d : Bool} {names : List Name} → IsHead block head ds d names → List Lexeme
front_of h = h.prologue ++ h.select ∷ (h.modifier ++ (h.selection ++ h.where_word))

module _ (block head : List Lexeme) (ds : List Declaration) (d : Bool) (names : List Name) (h : IsHead block head ds d names) where
  pub head_is : head ≡ front_of h ++ h.brace ∷ []
  head_is = h.are ∙ sym (regrouped_head h.prologue h.modifier h.selection h.where_word (h.brace ∷ []) h.select)

  pub head_and : (rest : List Lexeme) → head ++ rest ≡ front_of h ++ h.brace ∷ rest
  head_and rest = ap (λ k. k ++ rest) head_is ∙ append_assoc (front_of h) (h.brace ∷ []) rest

  pub whole : (rest : List Lexeme) → head ++ rest ≡ h.prologue ++ h.select ∷ (h.modifier ++ (h.selection ++ (h.where_word ++ h.brace ∷ rest)))
  whole rest = head_and rest ∙ regrouped_head h.prologue h.modifier h.selection h.where_word (h.brace ∷ rest) h.select

-- the outline of a query by its parts
pub has_outline_of : (block head tail : List Lexeme) (brace : Lexeme) (ds : List Declaration) (d : Bool) (names : List Name)
    → IsHead block head ds d names → InBlock block → sign_of brace ≡ CloseBrace → Fits limits tail → HasOutline (map sign_of (head ++ (block ++ brace ∷ tail)))
has_outline_of block head tail brace ds d names h known closes limited =
    let closing_fits = together (sign CloseBrace) limits (brace ∷ []) tail (fits_one CloseBrace brace closes) limited in
    let block_fits = together (many inside) closing block (brace ∷ tail) (of_each inside block (inside_each block known)) closing_fits in
    let brace_fits = together (sign OpenBrace) from_block (h.brace ∷ []) (block ++ brace ∷ tail) (fits_one OpenBrace h.brace h.is_brace) block_fits in
    let where_fit = together (maybe (sign Where)) from_brace h.where_word (h.brace ∷ (block ++ brace ∷ tail)) (where_fits h.where_word h.is_where) brace_fits in
    let selection_fit = together (some (sign Variable) ∣ sign Star) from_where h.selection (h.where_word ++ h.brace ∷ (block ++ brace ∷ tail)) (selection_fits block h.selection names h.is_selection) where_fit in
    let modifier_fit = together (maybe (sign Distinct ∣ sign Reduced)) from_selection h.modifier (h.selection ++ (h.where_word ++ h.brace ∷ (block ++ brace ∷ tail))) (modifier_fits h.modifier d h.is_modifier) selection_fit in
    let select_fit = together (sign Select) from_modifier (h.select ∷ []) (h.modifier ++ (h.selection ++ (h.where_word ++ h.brace ∷ (block ++ brace ∷ tail)))) (fits_one Select h.select h.is_select) modifier_fit in
    let all = together (many prefix) from_select h.prologue (h.select ∷ (h.modifier ++ (h.selection ++ (h.where_word ++ h.brace ∷ (block ++ brace ∷ tail))))) (of_each prefix h.prologue (each_prefix h.prologue ds h.is_prologue)) select_fit in
    subst (Fits query) (sym (whole block head ds d names h (block ++ brace ∷ tail))) all

-- Where the block stands

module _ (front block tail : List Lexeme) (open_brace close_brace : Lexeme)
    (opens : sign_of open_brace ≡ OpenBrace) (closes : sign_of close_brace ≡ CloseBrace)
    (front_open : Lacks OpenBrace front) (front_close : Lacks CloseBrace front) (block_close : Lacks CloseBrace block) where
  abbrev all : List Lexeme
  all = front ++ open_brace ∷ (block ++ close_brace ∷ tail)

  open_place : place_of OpenBrace all ≡ length front
  open_place = place_past OpenBrace front (open_brace ∷ (block ++ close_brace ∷ tail)) front_open
      ∙ (ap (λ n. length front + n) (place_here OpenBrace open_brace (block ++ close_brace ∷ tail) opens) ∙ omega arith)

  not_close : sign_of open_brace ≡ CloseBrace → ⊥
  not_close e = differ (sym opens ∙ e) where
    differ : OpenBrace ≡ CloseBrace → ⊥
    differ e = let f : ⊥ = cc in f

  close_place : place_of CloseBrace all ≡ length front + (1 + length block)
  close_place =
      place_past CloseBrace front (open_brace ∷ (block ++ close_brace ∷ tail)) front_close
      ∙ ap (λ n. length front + n) (place_past CloseBrace (open_brace ∷ block) (close_brace ∷ tail) (not_close, block_close)
      ∙ (ap (λ n. length (open_brace ∷ block) + n) (place_here CloseBrace close_brace tail closes) ∙ omega arith))

  pub block_place : place_of OpenBrace all + 1 ≡ length (front ++ open_brace ∷ [])
  block_place = omega (arith, open_place, length-append front (open_brace ∷ []))

  pub front_is : before_block all ≡ front
  front_is = ap (λ n. take n all) open_place ∙ take-append_seam front (open_brace ∷ (block ++ close_brace ∷ tail))

  pub block_is : block_of all ≡ block
  block_is =
      let size : place_of CloseBrace all - (place_of OpenBrace all + 1) ≡ length block = omega (arith, open_place, close_place) in
      let behind : drop (place_of OpenBrace all + 1) all ≡ block ++ close_brace ∷ tail =
      ap (λ n. drop n all) block_place
      ∙ (ap (drop (length (front ++ open_brace ∷ []))) (sym (append_assoc front (open_brace ∷ []) (block ++ close_brace ∷ tail)))
      ∙ drop-append_seam (front ++ open_brace ∷ []) (block ++ close_brace ∷ tail)) in
      (λ i. take (size i) (behind i)) ∙ take-append_seam block (close_brace ∷ tail)
