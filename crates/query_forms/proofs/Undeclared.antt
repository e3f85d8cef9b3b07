-- A query has no patterns exactly where a prefix is not declared.
use Rattle.std.proofs.Common.{◌≡◌, ◌∙◌, ◌+◌, ◌<◌, ℕ, zero, suc, Bool, true, false, ◌⊎◌, List, [], ◌∷◌, ◌++◌, length, drop, refl, sym, ap, subst, inl, inr, arith, append_assoc, length-append, Option, Some, None}
use Rattle.std.specs.Prelude.{nat_lt}
use Rattle.std.specs.List.{AllByRecursion, AllZip}
use Rattle.std.proofs.lemmas.Bool.Decides.{nat_tests}
use Rattle.std.specs.Option.{option_map}
use Rattle.std.proofs.Math.Seq.{drop-append_seam}
use Rattle.std.proofs.lemmas.List.{get_or_append_left}
use Rattle.rdf_model.specs.Terms as rdf
use Rattle.query_grammar.specs.Block as role
use Rattle.query_grammar.specs.Block.{Role, Triple}
use Rattle.query_grammar.specs.Lexemes.{Lexeme}
use Rattle.query_grammar.specs.Meaning.{Name, Place, Const, Pattern, no_lexeme, at, parts_from, name_by, kind_by, literal, term_by, label_or_term, place_at, pattern_by, pattern_before, patterns_of}
use Rattle.query_grammar.specs.Signs.{Sign, True, False, TypeOf, Iri, PnameNs, PnameLn, Label, Variable, LangTag, Integer, Number, Text, CloseBrace, Open, Carets, sign_of, role_of}
use Rattle.query_grammar.specs.Texts.{name_iri_by, name_iri}
use Rattle.query_forms.specs.Naming as naming
use Rattle.query_forms.specs.Naming.{IsName}
use Rattle.query_forms.specs.Patterns as place
use Rattle.query_forms.specs.Patterns.{IsTerm, name, type_of, plain, tagged, typed, integer, number, yes, no, IsPlace, term, IsPattern}
use Rattle.query_forms.specs.Prologues as prologue
use Rattle.query_forms.specs.Prologues.{Declaration, MeansName}
use Rattle.query_forms.specs.Whole.{MeansSome, HasQueryForm, HasUndeclared}
use Rattle.query_forms.proofs.Assembled.{form_name}
use Rattle.query_forms.proofs.Blocks.{Followed, block_followed, is_place, Within, triples_within}
use Rattle.query_forms.proofs.Covered.{OfSome, Covered, block_covered, IsDatatype, name_covered}
use Rattle.query_forms.proofs.Headed.{Sound}
use Rattle.query_forms.proofs.Meant.{mean_as_productions}
use Rattle.query_forms.proofs.Signed.{at_past, clash}

abbrev is_prefixed : Sign → Bool
is_prefixed PnameNs = true
is_prefixed PnameLn = true
is_prefixed _ = false

text_sign : (s : Sign) → role_of s ≡ role.Text → s ≡ Text
text_sign Text e = refl
text_sign _ e = absurd (let f : ⊥ = cc in f)

carets_sign : (s : Sign) → role_of s ≡ role.Carets → s ≡ Carets
carets_sign Carets e = refl
carets_sign _ e = absurd (let f : ⊥ = cc in f)

prefixed_role : (s : Sign) → is_prefixed s ≡ true → role_of s ≡ role.Name
prefixed_role PnameNs e = refl
prefixed_role PnameLn e = refl
prefixed_role _ e = absurd (let f : ⊥ = cc in f)

not_prefixed : (s t : Sign) → is_prefixed s ≡ true → s ≡ t → is_prefixed t ≡ false → ⊥
not_prefixed s t h e f = clash (sym h ∙ (ap is_prefixed e ∙ f))

-- What an undeclared name keeps from being a place

module _ (ds : List Declaration) where
  abbrev Undeclared : Lexeme → Type 0
  Undeclared l = (iri : List ℕ) → MeansName ds l iri → ⊥

  -- it begins the tokens
  abbrev Begins : List Lexeme → Type 0
  Begins [] = ⊥
  Begins (l ∷ ls) = (is_prefixed (sign_of l) ≡ true) × Undeclared l

  begins_no_term : (here : List Lexeme) (t : rdf.Term) → IsTerm ds here t → Begins here → ⊥
  begins_no_term _ _ (name l ls iri h) b = b.1 iri h
  begins_no_term _ _ (type_of l ls s) b = not_prefixed (sign_of l) TypeOf b.0 s refl
  begins_no_term _ _ (plain l ls form s means h) b = not_prefixed (sign_of l) Text b.0 s refl
  begins_no_term _ _ (tagged l tag ls form s means n) b = not_prefixed (sign_of l) Text b.0 s refl
  begins_no_term _ _ (typed l carets datatype ls form iri s means n h) b = not_prefixed (sign_of l) Text b.0 s refl
  begins_no_term _ _ (integer l ls s) b = not_prefixed (sign_of l) Integer b.0 s refl
  begins_no_term _ _ (number l ls s) b = not_prefixed (sign_of l) Number b.0 s refl
  begins_no_term _ _ (yes l ls s) b = not_prefixed (sign_of l) True b.0 s refl
  begins_no_term _ _ (no l ls s) b = not_prefixed (sign_of l) False b.0 s refl

  name_sign : (i : ℕ) (l : Lexeme) (n : Name) → IsName i l n → is_prefixed (sign_of l) ≡ true → ⊥
  name_sign _ _ _ (naming.variable i l s) h = not_prefixed (sign_of l) Variable h s refl
  name_sign _ _ _ (naming.label i l s) h = not_prefixed (sign_of l) Label h s refl
  name_sign _ _ _ (naming.bracket i l s) h = not_prefixed (sign_of l) Open h s refl

  begins_no_place : (names : List Name) (i : ℕ) (here : List Lexeme) (p : Place) → IsPlace ds names i here p → Begins here → ⊥
  begins_no_place names i _ _ (place.label l ls n k is at_k) b = name_sign i l n is b.0
  begins_no_place names i _ _ (term ls t h) b = begins_no_term ls t h b

  -- it is the datatype of the text that begins them
  abbrev Types : List Lexeme → Type 0
  Types (t ∷ c ∷ l ∷ ls) = (sign_of t ≡ Text) × (sign_of c ≡ Carets) × Undeclared l
  Types _ = ⊥

  is_text : (l : Lexeme) (ls : List Lexeme) → Types (l ∷ ls) → sign_of l ≡ Text
  is_text l [] h = absurd h
  is_text l (c ∷ []) h = absurd h
  is_text l (c ∷ d ∷ ls) h = h.0

  not_text : (l : Lexeme) (ls : List Lexeme) (s : Sign) → Types (l ∷ ls) → sign_of l ≡ s → (Text ≡ s → ⊥) → ⊥
  not_text l ls s h e differs = differs (sym (is_text l ls h) ∙ e)

  not_plain : (l : Lexeme) (ls : List Lexeme) → Types (l ∷ ls) → place.IsPlain ls → ⊥
  not_plain l [] h p = h
  not_plain l (c ∷ []) h p = h
  not_plain l (c ∷ d ∷ ls) h p = p.1 h.1

  not_tagged : (l c : Lexeme) (ls : List Lexeme) → Types (l ∷ c ∷ ls) → sign_of c ≡ LangTag → ⊥
  not_tagged l c [] h e = h
  not_tagged l c (d ∷ ls) h e = let f : Carets ≡ LangTag = sym h.1 ∙ e in (let g : ⊥ = cc in g)

  text_no_name : (l : Lexeme) (iri : List ℕ) → MeansName ds l iri → sign_of l ≡ Text → ⊥
  text_no_name _ _ (prologue.iri l i s means) e = let f : Iri ≡ Text = sym s ∙ e in (let g : ⊥ = cc in g)
  text_no_name _ _ (prologue.prefix l i s h) e = let f : PnameNs ≡ Text = sym s ∙ e in (let g : ⊥ = cc in g)
  text_no_name _ _ (prologue.local l front back i s text colonless h) e = let f : PnameLn ≡ Text = sym s ∙ e in (let g : ⊥ = cc in g)

  types_no_term : (here : List Lexeme) (t : rdf.Term) → IsTerm ds here t → Types here → ⊥
  types_no_term _ _ (name l ls iri h) b = text_no_name l iri h (is_text l ls b)
  types_no_term _ _ (type_of l ls s) b = not_text l ls TypeOf b s (λ e. let f : ⊥ = cc in f)
  types_no_term _ _ (plain l ls form s means h) b = not_plain l ls b h
  types_no_term _ _ (tagged l tag ls form s means n) b = not_tagged l tag ls b n
  types_no_term _ _ (typed l carets datatype ls form iri s means n h) b = b.2 iri h
  types_no_term _ _ (integer l ls s) b = not_text l ls Integer b s (λ e. let f : ⊥ = cc in f)
  types_no_term _ _ (number l ls s) b = not_text l ls Number b s (λ e. let f : ⊥ = cc in f)
  types_no_term _ _ (yes l ls s) b = not_text l ls True b s (λ e. let f : ⊥ = cc in f)
  types_no_term _ _ (no l ls s) b = not_text l ls False b s (λ e. let f : ⊥ = cc in f)

  types_no_place : (names : List Name) (i : ℕ) (here : List Lexeme) (p : Place) → IsPlace ds names i here p → Types here → ⊥
  types_no_place names i _ _ (place.label l ls n k (naming.variable _ _ s) at_k) b = not_text l ls Variable b s (λ e. let f : ⊥ = cc in f)
  types_no_place names i _ _ (place.label l ls n k (naming.label _ _ s) at_k) b = not_text l ls Label b s (λ e. let f : ⊥ = cc in f)
  types_no_place names i _ _ (place.label l ls n k (naming.bracket _ _ s) at_k) b = not_text l ls Open b s (λ e. let f : ⊥ = cc in f)
  types_no_place names i _ _ (term ls t h) b = types_no_term ls t h b

  -- each place of a triple with a pattern is one
  placed : (names : List Name) (tokens : List Lexeme) (i : ℕ) (ts : List Triple) (ps : List Pattern) → AllZip (IsPattern ds names tokens) ts ps → OfSome ts i
      → (p : Place) × IsPlace ds names i (drop i tokens) p
  placed names tokens i [] ps h o = absurd o
  placed names tokens i (t ∷ ts) [] h o = absurd h
  placed names tokens i (t ∷ ts) (p ∷ ps) h (inl (inl e)) = (p.s, subst (λ j. IsPlace ds names j (drop j tokens) p.s) e h.0.s)
  placed names tokens i (t ∷ ts) (p ∷ ps) h (inl (inr (inl e))) = (p.p, subst (λ j. IsPlace ds names j (drop j tokens) p.p) e h.0.p)
  placed names tokens i (t ∷ ts) (p ∷ ps) h (inl (inr (inr e))) = (p.o, subst (λ j. IsPlace ds names j (drop j tokens) p.o) e h.0.o)
  placed names tokens i (t ∷ ts) (p ∷ ps) h (inr o) = placed names tokens i ts ps h.1 o

drop_both : (head before rest : List Lexeme) → drop (length head + length before) (head ++ (before ++ rest)) ≡ rest
drop_both head before rest =
    (λ i. drop (sym (length-append head before) i) (sym (append_assoc head before rest) i)) ∙ drop-append_seam (head ++ before) rest

-- Undeclared, so no patterns

module _ (all : List Lexeme) (f : HasQueryForm all) where
  -- the token that begins each part of the block
  behind_block : (before rest : List Lexeme) → f.block ≡ before ++ rest → drop (length f.head + length before) all ≡ rest ++ f.brace ∷ f.tail
  behind_block before rest e =
      ap (drop (length f.head + length before)) (f.are ∙ ap (λ ls. f.head ++ ls) (ap (λ ls. ls ++ f.brace ∷ f.tail) e ∙ append_assoc before rest (f.brace ∷ f.tail)))
      ∙ drop_both f.head before (rest ++ f.brace ∷ f.tail)

  either_prefixed : (l : Lexeme) → (sign_of l ≡ PnameNs) ⊎ (sign_of l ≡ PnameLn) → is_prefixed (sign_of l) ≡ true
  either_prefixed l (inl e) = ap is_prefixed e
  either_prefixed l (inr e) = ap is_prefixed e

  module _ (ps : List Pattern) (h : AllZip (IsPattern f.declarations f.names all) f.triples ps) (u : HasUndeclared all f) where
    by_place : OfSome f.triples (length f.head + length u.before) ⊎ IsDatatype (OfSome f.triples) (length f.head) u.before → ⊥
    by_place (inl o) =
        let i = length f.head + length u.before in
        let p = placed f.declarations f.names all i f.triples ps h o in
        begins_no_place f.declarations f.names i (drop i all) p.0 p.1
        (subst (Begins f.declarations) (sym (behind_block u.before (u.name ∷ u.behind) u.are)) (either_prefixed u.name u.is_prefixed, u.undeclared))
    by_place (inr d) =
        let i = length f.head + length d.first in
        let p = placed f.declarations f.names all i f.triples ps h d.is in
        let here : f.block ≡ d.first ++ d.text ∷ d.carets ∷ u.name ∷ u.behind =
        u.are ∙ ap (λ ls. ls ++ u.name ∷ u.behind) d.are ∙ append_assoc d.first (d.text ∷ d.carets ∷ []) (u.name ∷ u.behind) in
        types_no_place f.declarations f.names i (drop i all) p.0 p.1
        (subst (Types f.declarations) (sym (behind_block d.first (d.text ∷ d.carets ∷ u.name ∷ u.behind) here))
        (text_sign (sign_of d.text) d.is_text, carets_sign (sign_of d.carets) d.is_carets, u.undeclared))

    pub undeclared_none : ⊥
    undeclared_none =
        by_place (name_covered (OfSome f.triples) u.behind u.name (prefixed_role (sign_of u.name) (either_prefixed u.name u.is_prefixed)) (length f.head) u.before
        (subst (λ ls. Covered (OfSome f.triples) (parts_from (length f.head) ls)) u.are (block_covered (parts_from (length f.head) f.block) f.triples f.is_block)))

  -- Declared, so patterns

  abbrev is_named : Sign → Bool
  is_named Iri = true
  is_named PnameNs = true
  is_named PnameLn = true
  is_named _ = false

  abbrev Meant : Lexeme → Type 0
  Meant l = is_named (sign_of l) ≡ true → (iri : List ℕ) × (name_iri all l ≡ Some iri)

  abbrev AllMeant : List Lexeme → Type 0
  AllMeant ls = AllByRecursion (λ l. Meant l) ls

  none_some : (i : List ℕ) → None ≡ Some i → ⊥
  none_some i e = let g : ⊥ = cc in g

  decided : (l : Lexeme) → ((iri : List ℕ) × (name_iri all l ≡ Some iri)) ⊎ ((iri : List ℕ) → MeansName f.declarations l iri → ⊥)
  decided l = by (name_iri all l) refl where
    by : (o : Option (List ℕ)) → name_iri all l ≡ o → ((iri : List ℕ) × (name_iri all l ≡ Some iri)) ⊎ ((iri : List ℕ) → MeansName f.declarations l iri → ⊥)
    by (Some i) e = inl (i, e)
    by None e = inr (λ i m. none_some i (sym e ∙ form_name all f l i m))

  meant_or : (before : List Lexeme) (l : Lexeme) (behind : List Lexeme) → f.block ≡ before ++ l ∷ behind → MeansSome (sign_of l) l.text → Meant l ⊎ HasUndeclared all f
  meant_or before l behind e means = by (sign_of l) refl means where
    prefixed : (sign_of l ≡ PnameNs) ⊎ (sign_of l ≡ PnameLn) → Meant l ⊎ HasUndeclared all f
    prefixed is = elim (decided l) [
      | inl m ↦ inl (λ h. m)
      | inr n ↦ inr (record { before = before; name = l; behind = behind; are = e; is_prefixed = is; undeclared = n })
    ]

    by : (s : Sign) → sign_of l ≡ s → MeansSome s l.text → Meant l ⊎ HasUndeclared all f
    by Iri s m = inl (λ h. (m.0, ap (λ t. name_iri_by t all l.text) s ∙ (mean_as_productions.iris l.text m.0).0 m.1))
    by PnameNs s m = prefixed (inl s)
    by PnameLn s m = prefixed (inr s)
    by _ s m = inl (λ h. absurd (clash (sym h ∙ ap is_named s)))

  all_meant : (before rest : List Lexeme) → f.block ≡ before ++ rest → Sound rest → AllMeant rest ⊎ HasUndeclared all f
  all_meant before [] e sound = inl tt
  all_meant before (l ∷ rest) e sound =
      elim (meant_or before l rest e sound.0) [
        | inl m ↦ elim (all_meant (before ++ l ∷ []) rest (e ∙ sym (append_assoc before (l ∷ []) rest)) sound.1) [
          | inl more ↦ inl (m, more)
          | inr u ↦ inr u
        ]
        | inr u ↦ inr u
      ]

  module _ (sound : Sound f.block) (meant : AllMeant f.block) where
    all_at : (P : Lexeme → Type 0) (ls : List Lexeme) (k : ℕ) → k < length ls → AllByRecursion P ls → P (at ls k)
    all_at P [] k low h = absurd (omega (arith, low))
    all_at P (l ∷ ls) zero low h = h.0
    all_at P (l ∷ ls) (suc k) low h = all_at P ls k (omega (arith, low)) h.1

    at_block : (k : ℕ) → k < length f.block → at all (length f.head + k) ≡ at f.block k
    at_block k low =
        ap (λ ts. at ts (length f.head + k)) f.are
        ∙ (at_past f.head (f.block ++ f.brace ∷ f.tail) k ∙ get_or_append_left f.block (f.brace ∷ f.tail) no_lexeme k low)

    at_end : at all (length f.head + length f.block) ≡ f.brace
    at_end =
        ap (λ ts. at ts (length f.head + length f.block)) f.are
        ∙ (at_past f.head (f.block ++ f.brace ∷ f.tail) (length f.block)
        ∙ (ap (at (f.block ++ f.brace ∷ f.tail)) (let same : length f.block ≡ length f.block + 0 = omega arith in same) ∙ at_past f.block (f.brace ∷ f.tail) 0))

    followed_at : (n : ℕ) (ls : List Lexeme) (k : ℕ) → Followed (parts_from n ls) → k < length ls → role_of (sign_of (at ls k)) ≡ role.Carets
        → (k + 1 < length ls) × (role_of (sign_of (at ls (k + 1))) ≡ role.Name)
    followed_at n [] k h low e = absurd (omega (arith, low))
    followed_at n (l ∷ []) zero h low e = absurd (h.0 e)
    followed_at n (l ∷ m ∷ ls) zero h low e = (omega arith, h.0 e)
    followed_at n (l ∷ ls) (suc k) h low e =
        let more = followed_at (n + 1) ls k h.1 (omega (arith, low)) e in
        (omega (arith, more.0), ap (λ j. role_of (sign_of (at (l ∷ ls) j))) (let same : suc k + 1 ≡ suc (k + 1) = omega arith in same) ∙ more.1)

    role_named : (s : Sign) → role_of s ≡ role.Name → is_named s ≡ true
    role_named Iri e = refl
    role_named PnameNs e = refl
    role_named PnameLn e = refl
    role_named _ e = absurd (let g : ⊥ = cc in g)

    not_carets : sign_of f.brace ≡ Carets → ⊥
    not_carets e = let same : CloseBrace ≡ Carets = sym f.is_brace ∙ e in (let g : ⊥ = cc in g)

    ends : (a b c h : ℕ) → nat_lt a b ≡ false → c < b → a ≡ c + 1 → h + c + 1 ≡ h + b
    ends a b c h t low e = grind (arith, nat_tests)

    below : (a b : ℕ) → nat_lt a b ≡ true → a < b
    below a b t = grind (arith, nat_tests)

    token_meant : (k : ℕ) → k < length f.block → Meant (at all (length f.head + k))
    token_meant k low = subst Meant (sym (at_block k low)) (all_at (λ l. Meant l) f.block k low meant)

    name_meant : (k : ℕ) → k < length f.block → role_of (sign_of (at f.block k)) ≡ role.Name → (iri : List ℕ) × (name_iri all (at all (length f.head + k)) ≡ Some iri)
    name_meant k low is = token_meant k low (ap (λ l. is_named (sign_of l)) (at_block k low) ∙ role_named (sign_of (at f.block k)) is)

    -- the datatype behind a text and '^^'
    datatype_there : (k : ℕ) → k < length f.block → sign_of (at all (length f.head + k + 1)) ≡ Carets → (iri : List ℕ) × (name_iri all (at all (length f.head + k + 2)) ≡ Some iri)
    datatype_there k low e = by (nat_lt (k + 1) (length f.block)) refl where
      by : (b : Bool) → nat_lt (k + 1) (length f.block) ≡ b → (iri : List ℕ) × (name_iri all (at all (length f.head + k + 2)) ≡ Some iri)
      by false t =
          let last : length f.head + k + 1 ≡ length f.head + length f.block = ends (k + 1) (length f.block) k (length f.head) t low refl in
          absurd (not_carets (ap sign_of (sym at_end ∙ ap (at all) (sym last)) ∙ e))
      by true t =
          let low_next : k + 1 < length f.block = below (k + 1) (length f.block) t in
          let place : length f.head + k + 1 ≡ length f.head + (k + 1) = omega arith in
          let next : at all (length f.head + k + 1) ≡ at f.block (k + 1) = ap (at all) place ∙ at_block (k + 1) low_next in
          let name = followed_at (length f.head) f.block (k + 1) (block_followed (parts_from (length f.head) f.block) f.triples f.is_block) low_next
          (ap (λ l. role_of (sign_of l)) (sym next) ∙ ap role_of e) in
          let place_two : length f.head + k + 2 ≡ length f.head + (k + 1 + 1) = omega arith in
          subst (λ j. (iri : List ℕ) × (name_iri all (at all j) ≡ Some iri)) (sym place_two) (name_meant (k + 1 + 1) name.0 name.1)

    kind_there : (k : ℕ) → k < length f.block → (kind : rdf.Kind) × (kind_by (sign_of (at all (length f.head + k + 1))) all (length f.head + k) ≡ Some kind)
    kind_there k low = by (sign_of (at all (length f.head + k + 1))) refl where
      by : (s : Sign) → sign_of (at all (length f.head + k + 1)) ≡ s → (kind : rdf.Kind) × (kind_by s all (length f.head + k) ≡ Some kind)
      by Carets e = let d = datatype_there k low e in (rdf.Typed d.0, ap (option_map rdf.Typed) d.1)
      by LangTag e = (_, refl)
      by _ e = (_, refl)

    token_sound : (k : ℕ) → k < length f.block → MeansSome (sign_of (at all (length f.head + k))) (at all (length f.head + k)).text
    token_sound k low = subst (λ (l : Lexeme). MeansSome (sign_of l) l.text) (sym (at_block k low)) (all_at (λ (l : Lexeme). MeansSome (sign_of l) l.text) f.block k low sound)

    module _ (names : List Name) where
      place_at_token : (k : ℕ) → k < length f.block → is_place (role_of (sign_of (at all (length f.head + k)))) ≡ true
          → (p : Place) × (place_at all names (length f.head + k) ≡ Some p)
      place_at_token k low is = by (sign_of (at all (length f.head + k))) is (token_meant k low) (token_sound k low) where
        by : (s : Sign) → is_place (role_of s) ≡ true → (is_named s ≡ true → (iri : List ℕ) × (name_iri all (at all (length f.head + k)) ≡ Some iri)) → MeansSome s (at all (length f.head + k)).text
            → (p : Place) × (label_or_term names (name_by s (at all (length f.head + k)).text (length f.head + k)) (term_by s all (length f.head + k)) ≡ Some p)
        by Variable is m h = (_, refl)
        by Label is m h = (_, refl)
        by Open is m h = (_, refl)
        by Iri is m h = (Const (rdf.Iri (m refl).0), ap (λ o. option_map Const (option_map rdf.Iri o)) (m refl).1)
        by PnameNs is m h = (Const (rdf.Iri (m refl).0), ap (λ o. option_map Const (option_map rdf.Iri o)) (m refl).1)
        by PnameLn is m h = (Const (rdf.Iri (m refl).0), ap (λ o. option_map Const (option_map rdf.Iri o)) (m refl).1)
        by TypeOf is m h = (_, refl)
        by True is m h = (_, refl)
        by False is m h = (_, refl)
        by Integer is m h = (_, refl)
        by Number is m h = (_, refl)
        by Text is m h =
            let kind = kind_there k low in
            (Const (rdf.Literal h.0 kind.0), (λ i. option_map Const (literal ((mean_as_productions.texts (at all (length f.head + k)).text h.0).0 h.1 i) (kind.1 i))))
        by _ is m h = absurd (clash (sym is))

      place_there : (i : ℕ) → Within (length f.head) f.block i → (p : Place) × (place_at all names i ≡ Some p)
      place_there i (k, low, is, role) =
          subst (λ j. (p : Place) × (place_at all names j ≡ Some p)) (sym is)
          (place_at_token k low (ap (λ l. is_place (role_of (sign_of l))) (at_block k low) ∙ role))

      patterns_there : (ts : List Triple) → AllByRecursion (λ t. Within (length f.head) f.block t.s × Within (length f.head) f.block t.p × Within (length f.head) f.block t.o) ts
          → (ps : List Pattern) × (patterns_of all names ts ≡ Some ps)
      patterns_there [] w = ([], refl)
      patterns_there (t ∷ ts) w =
          let s = place_there t.s w.0.0 in
          let p = place_there t.p w.0.1 in
          let o = place_there t.o w.0.2 in
          let more = patterns_there ts w.1 in
          (record { s = s.0; p = p.0; o = o.0 } ∷ more.0, (λ i. pattern_before (pattern_by (s.1 i) (p.1 i) (o.1 i)) (more.1 i)))

  -- no patterns, so undeclared
  pub none_undeclared : (names : List Name) → Sound f.block → patterns_of all names f.triples ≡ None → HasUndeclared all f
  none_undeclared names sound e = elim (all_meant [] f.block refl sound) [
    | inr u ↦ u
    | inl meant ↦ let ps = patterns_there sound meant names f.triples (triples_within (length f.head) f.block f.triples f.is_block) in absurd (none_patterns ps.0 (sym e ∙ ps.1))
  ] where
    none_patterns : (ps : List Pattern) → None ≡ Some ps → ⊥
    none_patterns ps e = let g : ⊥ = cc in g
