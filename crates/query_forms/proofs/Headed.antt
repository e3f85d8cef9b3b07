-- What stands before a query's pattern, and the columns that are found, are those of the productions.
use Rattle.std.proofs.Common.{◌≡◌, ◌∙◌, Bool, true, false, List, [], ◌∷◌, ◌++◌, refl, sym, ap, subst, inl, inr}
use Rattle.std.specs.List.{AllByRecursion}
use Rattle.ntriples_model.specs.Characters.{in_ranges}
use Rattle.query_tokens.specs.Forms.{◌▸◌, ◌∣◌, many, maybe, some}
use Rattle.query_grammar.specs.Lexemes.{Lexeme}
use Rattle.query_grammar.specs.Meaning.{Name, is_sign, names_from, variables_from}
use Rattle.query_grammar.specs.Outline.{sign, prefix, inside}
use Rattle.query_grammar.specs.Signs.{Sign, Prefix, Distinct, Reduced, Where, Iri, PnameNs, Variable, OpenBrace, CloseBrace, Star, number_of, sign_of, role_of}
use Rattle.query_forms.specs.Heads.{IsModifier, nothing, distinct, reduced, IsSelection, variables, star, IsWhere, word}
use Rattle.query_forms.specs.Naming.{IsVariable, AreNames}
use Rattle.query_forms.specs.Prologues as prologue
use Rattle.query_forms.specs.Prologues.{Declaration, IsPrologue}
use Rattle.query_forms.specs.Whole.{MeansSome}
use Rattle.query_forms.proofs.Blocks.{all_both, is_known, InBlock}
use Rattle.query_forms.proofs.Named as named
use Rattle.query_forms.proofs.Signed.{no_numbers, Fits, parted, together, one_token, fits_one, Each, no_more, one_more, each_of, of_each, Only}

-- Prologues

record IsPrefix (ls : List Lexeme) : Type 0 where
  word : Lexeme
  name : Lexeme
  iri : Lexeme
  are : ls ≡ word ∷ name ∷ iri ∷ []
  is_word : sign_of word ≡ Prefix
  is_name : sign_of name ≡ PnameNs
  is_iri : sign_of iri ≡ Iri

a_prefix : (ls : List Lexeme) → Fits prefix ls → IsPrefix ls
a_prefix ls h =
    let p = parted (sign Prefix) (sign PnameNs ▸ sign Iri) ls h in
    let q = parted (sign PnameNs) (sign Iri) p.second p.fits_second in
    let a = one_token Prefix p.first p.fits_first in
    let b = one_token PnameNs q.first q.fits_first in
    let c = one_token Iri q.second q.fits_second in
    record {
      word = a.token;
      name = b.token;
      iri = c.token;
      are = p.are ∙ (λ i. a.are i ++ (q.are ∙ (λ j. b.are j ++ c.are j)) i);
      is_word = a.is;
      is_name = b.is;
      is_iri = c.is;
    }

abbrev pub Sound : List Lexeme → Type 0
Sound ls = AllByRecursion (λ l. MeansSome (sign_of l) l.text) ls

pub prologue_from : (ls : List Lexeme) → Each prefix ls → Sound ls → (ds : List Declaration) × IsPrologue ls ds
prologue_from _ no_more sound = ([], prologue.nothing)
prologue_from _ (one_more ls ks h more) sound =
    let p = a_prefix ls h in
    let all = subst (λ os. Sound (os ++ ks)) p.are sound in
    let rest = prologue_from ks more all.1.1.1 in
    let iri = subst (λ s. MeansSome s p.iri.text) p.is_iri all.1.1.0 in
    subst (λ os. (ds : List Declaration) × IsPrologue (os ++ ks) ds) (sym p.are)
    (_, prologue.next p.word p.name p.iri iri.0 ks rest.0 p.is_word p.is_name p.is_iri iri.1 rest.1)

pub each_prefix : (ls : List Lexeme) (ds : List Declaration) → IsPrologue ls ds → Each prefix ls
each_prefix _ _ prologue.nothing = no_more
each_prefix _ _ (prologue.next first name token iri ls ds w n t means more) =
    one_more (first ∷ name ∷ token ∷ []) ls
    (together (sign Prefix) (sign PnameNs ▸ sign Iri) (first ∷ []) (name ∷ token ∷ []) (fits_one Prefix first w)
    (together (sign PnameNs) (sign Iri) (name ∷ []) (token ∷ []) (fits_one PnameNs name n) (fits_one Iri token t)))
    (each_prefix ls ds more)

abbrev pub in_prologue : Sign → Bool
in_prologue Prefix = true
in_prologue PnameNs = true
in_prologue Iri = true
in_prologue _ = false

pub prologue_only : (ls : List Lexeme) (ds : List Declaration) → IsPrologue ls ds → Only in_prologue ls
prologue_only _ _ prologue.nothing = tt
prologue_only _ _ (prologue.next first name token iri ls ds w n t means more) = (ap in_prologue w, (ap in_prologue n, (ap in_prologue t, prologue_only ls ds more)))

-- Modifiers, selections and WHERE

pub modifier_from : (ls : List Lexeme) → Fits (maybe (sign Distinct ∣ sign Reduced)) ls → (d : Bool) × IsModifier ls d
modifier_from ls (inl (inl h)) = let o = one_token Distinct ls h in (true, subst (λ k. IsModifier k true) (sym o.are) (distinct o.token o.is))
modifier_from ls (inl (inr h)) = let o = one_token Reduced ls h in (false, subst (λ k. IsModifier k false) (sym o.are) (reduced o.token o.is))
modifier_from ls (inr h) = (false, subst (λ k. IsModifier k false) (sym (no_numbers ls h)) nothing)

pub modifier_fits : (ls : List Lexeme) (d : Bool) → IsModifier ls d → Fits (maybe (sign Distinct ∣ sign Reduced)) ls
modifier_fits _ _ nothing = inr refl
modifier_fits _ _ (distinct l s) = inl (inl (fits_one Distinct l s))
modifier_fits _ _ (reduced l s) = inl (inr (fits_one Reduced l s))

abbrev pub in_modifier : Sign → Bool
in_modifier Distinct = true
in_modifier Reduced = true
in_modifier _ = false

pub modifier_only : (ls : List Lexeme) (d : Bool) → IsModifier ls d → Only in_modifier ls
modifier_only _ _ nothing = tt
modifier_only _ _ (distinct l s) = (ap in_modifier s, tt)
modifier_only _ _ (reduced l s) = (ap in_modifier s, tt)

abbrev pub Variables : List Lexeme → Type 0
Variables ls = AllByRecursion (λ l. sign_of l ≡ Variable) ls

each_variable : (ls : List Lexeme) → Each (sign Variable) ls → Variables ls
each_variable _ no_more = tt
each_variable _ (one_more ls ks h more) =
    let o = one_token Variable ls h in
    subst (λ os. Variables (os ++ ks)) (sym o.are) (o.is, each_variable ks more)

variable_each : (ls : List Lexeme) → Variables ls → Each (sign Variable) ls
variable_each [] h = no_more
variable_each (l ∷ ls) h = one_more (l ∷ []) ls (fits_one Variable l h.0) (variable_each ls h.1)

-- the variables of tokens
abbrev pub variables_in : List Lexeme → List Name
variables_in ls = variables_from (names_from [] 0 ls)

variables_are : (ls : List Lexeme) → AreNames IsVariable 0 ls (variables_in ls)
variables_are ls = (named.names_as_productions.variables 0 ls (variables_in ls)).1 refl

-- the tokens that select, with the variables that these give
pub record HasSelection (block ls : List Lexeme) : Type 0 where
  pub names : List Name
  pub is : IsSelection block ls names

pub selection_from : (block ls : List Lexeme) → Fits (some (sign Variable) ∣ sign Star) ls → HasSelection block ls
selection_from block ls (inl h) =
    let p = parted (sign Variable) (many (sign Variable)) ls h in
    let o = one_token Variable p.first p.fits_first in
    let all = each_variable p.second (each_of (sign Variable) p.second p.fits_second) in
    subst (HasSelection block) (sym (p.are ∙ ap (λ k. k ++ p.second) o.are))
    (record { names = variables_in (o.token ∷ p.second); is = variables o.token p.second (variables_in (o.token ∷ p.second)) (o.is, all) (variables_are (o.token ∷ p.second)) })
selection_from block ls (inr h) =
    let o = one_token Star ls h in
    subst (HasSelection block) (sym o.are) (record { names = variables_in block; is = star o.token (variables_in block) o.is (variables_are block) })

pub selection_fits : (block ls : List Lexeme) (names : List Name) → IsSelection block ls names → Fits (some (sign Variable) ∣ sign Star) ls
selection_fits block _ _ (variables l ls names all are) =
    inl (together (sign Variable) (many (sign Variable)) (l ∷ []) ls (fits_one Variable l all.0) (of_each (sign Variable) ls (variable_each ls all.1)))
selection_fits block _ _ (star l names s are) = inr (fits_one Star l s)

abbrev pub in_selection : Sign → Bool
in_selection Variable = true
in_selection Star = true
in_selection _ = false

pub variables_only : (ls : List Lexeme) → Variables ls → Only (is_sign Variable) ls
variables_only [] h = tt
variables_only (l ∷ ls) h = (ap (λ s. is_sign Variable s) h.0, variables_only ls h.1)

pub selection_only : (block ls : List Lexeme) (names : List Name) → IsSelection block ls names → Only in_selection ls
selection_only block _ _ (variables l ls names all are) = by (l ∷ ls) all where
  by : (ks : List Lexeme) → Variables ks → Only in_selection ks
  by [] h = tt
  by (k ∷ ks) h = (ap in_selection h.0, by ks h.1)
selection_only block _ _ (star l names s are) = (ap in_selection s, tt)

pub where_from : (ls : List Lexeme) → Fits (maybe (sign Where)) ls → IsWhere ls
where_from ls (inl h) = let o = one_token Where ls h in subst IsWhere (sym o.are) (word o.token o.is)
where_from ls (inr h) = subst IsWhere (sym (no_numbers ls h)) nothing

pub where_fits : (ls : List Lexeme) → IsWhere ls → Fits (maybe (sign Where)) ls
where_fits _ nothing = inr refl
where_fits _ (word l s) = inl (fits_one Where l s)

pub where_only : (ls : List Lexeme) → IsWhere ls → Only (is_sign Where) ls
where_only _ nothing = tt
where_only _ (word l s) = (ap (λ t. is_sign Where t) s, tt)

-- Blocks

abbrev pub in_braces : Sign → Bool
in_braces OpenBrace = false
in_braces CloseBrace = false
in_braces _ = true

pub inside_each : (ls : List Lexeme) → InBlock ls → Each inside ls
inside_each [] h = no_more
inside_each (l ∷ ls) h = one_more (l ∷ []) ls (number_of (sign_of l), refl, by (sign_of l) h.0) (inside_each ls h.1) where
  by : (s : Sign) → is_known (role_of s) ≡ true → in_ranges ((20, 21) ∷ []) (number_of s) ≡ false
  by OpenBrace e = absurd (let f : ⊥ = cc in f)
  by CloseBrace e = absurd (let f : ⊥ = cc in f)
  by _ e = refl

pub each_inside : (ls : List Lexeme) → Each inside ls → Only in_braces ls
each_inside _ no_more = tt
each_inside _ (one_more ls ks h more) = all_both (λ (l : Lexeme). in_braces (sign_of l) ≡ true) ls ks (one ls h) (each_inside ks more) where
  sign_inside : (s : Sign) → in_ranges ((20, 21) ∷ []) (number_of s) ≡ false → in_braces s ≡ true
  sign_inside OpenBrace e = absurd (let f : ⊥ = cc in f)
  sign_inside CloseBrace e = absurd (let f : ⊥ = cc in f)
  sign_inside _ e = refl

  one : (ls : List Lexeme) → Fits inside ls → Only in_braces ls
  one [] (c, e, r) = absurd (let f : ⊥ = cc in f)
  one (l ∷ []) (c, e, r) = (sign_inside (sign_of l) (ap (in_ranges ((20, 21) ∷ [])) (let same : number_of (sign_of l) ≡ c = cc in same) ∙ r), tt)
  one (l ∷ k ∷ ls) (c, e, r) = absurd (let f : ⊥ = cc in f)
