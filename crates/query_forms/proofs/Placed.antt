-- The terms, the places and the patterns that are found are those of the productions.
use Rattle.std.proofs.Common.{◌≡◌, ◌∙◌, ◌+◌, ℕ, zero, suc, true, List, [], ◌∷◌, ◌++◌, drop, map, refl, sym, ap, subst, arith, Option, Some, None}
use Rattle.std.specs.Prelude.{codes}
use Rattle.std.specs.Char.{to_ascii_lowercase}
use Rattle.std.specs.List.{AllByRecursion, AllZip}
use Rattle.std.specs.Option.{option_map}
use Rattle.rdf_model.specs.Terms as rdf
use Rattle.rdf_model.specs.Texts.{xsd_string}
use Rattle.query_grammar.specs.Block.{Triple}
use Rattle.query_grammar.specs.Lexemes.{Lexeme}
use Rattle.query_grammar.specs.Meaning.{Name, Place, LabelAt, Const, Pattern, no_lexeme, at, name_by, name_of, number_among, xsd, rdf_type, number_type, kind_by, literal, term_by, term_at, label_or_term, place_at, pattern_by, pattern_at, pattern_before, patterns_of}
use Rattle.query_grammar.specs.Signs.{Sign, Prefix, True, False, TypeOf, Iri, PnameNs, PnameLn, LangTag, Integer, Number, Text, Carets, sign_of}
use Rattle.query_grammar.specs.Texts.{behind_first, string_text, name_iri}
use Rattle.query_forms.specs.Insides.{MeansText}
use Rattle.query_forms.specs.Laws.{Lacks}
use Rattle.query_forms.specs.Patterns.{IsPlain, IsTerm, name, type_of, plain, tagged, typed, integer, number, yes, no, IsPlace, term, IsPattern}
use Rattle.query_forms.specs.Patterns as place
use Rattle.query_forms.specs.Prologues.{Declaration, IsPrologue, MeansName, iri, prefix, local}
use Rattle.query_forms.proofs.Meant.{mean_as_productions}
use Rattle.query_forms.proofs.Named.{among, Distinct, name_sound, name_complete, number_found, number_only}
use Rattle.query_forms.proofs.Prefixed.{HasColon, name_found, found_name}

-- The term at a place, by the tokens from there on

abbrev kind_from : Sign → List Lexeme → List Lexeme → Option rdf.Kind
kind_from LangTag all here = Some (rdf.Tagged (map to_ascii_lowercase (behind_first 1 (at here 1).text)))
kind_from Carets all here = option_map rdf.Typed (name_iri all (at here 2))
kind_from _ all here = Some (rdf.Typed xsd_string)

abbrev term_from : Sign → List Lexeme → List Lexeme → Option rdf.Term
term_from Iri all here = option_map rdf.Iri (name_iri all (at here 0))
term_from PnameNs all here = option_map rdf.Iri (name_iri all (at here 0))
term_from PnameLn all here = option_map rdf.Iri (name_iri all (at here 0))
term_from TypeOf all here = Some (rdf.Iri rdf_type)
term_from Text all here = literal (string_text (at here 0).text) (kind_from (sign_of (at here 1)) all here)
term_from True all here = Some (rdf.Literal (codes "true") (rdf.Typed (xsd (codes "boolean"))))
term_from False all here = Some (rdf.Literal (codes "false") (rdf.Typed (xsd (codes "boolean"))))
term_from Integer all here = Some (rdf.Literal (at here 0).text (rdf.Typed (number_type (at here 0).kind)))
term_from Number all here = Some (rdf.Literal (at here 0).text (rdf.Typed (number_type (at here 0).kind)))
term_from _ all here = None

at_nothing : (i : ℕ) → at [] i ≡ no_lexeme
at_nothing zero = refl
at_nothing (suc i) = refl

at_drop : (all : List Lexeme) (i k : ℕ) → at all (i + k) ≡ at (drop i all) k
at_drop all zero k = ap (at all) (omega arith)
at_drop [] (suc i) k = at_nothing (suc i + k) ∙ sym (at_nothing k)
at_drop (l ∷ ls) (suc i) k = ap (at (l ∷ ls)) (let same : suc i + k ≡ suc (i + k) = omega arith in same) ∙ at_drop ls i k

pub at_place : (all : List Lexeme) (i : ℕ) → at all i ≡ at (drop i all) 0
at_place all i = ap (at all) (let same : i ≡ i + 0 = omega arith in same) ∙ at_drop all i 0

same_kind : (s : Sign) (all : List Lexeme) (i : ℕ) → kind_by s all i ≡ kind_from s all (drop i all)
same_kind LangTag all i = ap (λ (l : Lexeme). Some (rdf.Tagged (map to_ascii_lowercase (behind_first 1 l.text)))) (at_drop all i 1)
same_kind Carets all i = ap (λ l. option_map rdf.Typed (name_iri all l)) (at_drop all i 2)
same_kind _ all i = refl

same_term : (all : List Lexeme) (i : ℕ) → term_at all i ≡ term_from (sign_of (at (drop i all) 0)) all (drop i all)
same_term all i = by (sign_of (at all i)) ∙ ap (λ l. term_from (sign_of l) all (drop i all)) (at_place all i) where
  text : literal (string_text (at all i).text) (kind_by (sign_of (at all (i + 1))) all i) ≡ literal (string_text (at (drop i all) 0).text) (kind_from (sign_of (at (drop i all) 1)) all (drop i all))
  text =
      ap (literal (string_text (at all i).text)) (same_kind (sign_of (at all (i + 1))) all i ∙ ap (λ l. kind_from (sign_of l) all (drop i all)) (at_drop all i 1))
      ∙ ap (λ (l : Lexeme). literal (string_text l.text) (kind_from (sign_of (at (drop i all) 1)) all (drop i all))) (at_place all i)

  by : (s : Sign) → term_by s all i ≡ term_from s all (drop i all)
  by Iri = ap (λ l. option_map rdf.Iri (name_iri all l)) (at_place all i)
  by PnameNs = ap (λ l. option_map rdf.Iri (name_iri all l)) (at_place all i)
  by PnameLn = ap (λ l. option_map rdf.Iri (name_iri all l)) (at_place all i)
  by TypeOf = refl
  by Text = text
  by True = refl
  by False = refl
  by Integer = ap (λ (l : Lexeme). Some (rdf.Literal l.text (rdf.Typed (number_type l.kind)))) (at_place all i)
  by Number = ap (λ (l : Lexeme). Some (rdf.Literal l.text (rdf.Typed (number_type l.kind)))) (at_place all i)
  by _ = refl

-- Options

iri_is : (o : Option (List ℕ)) (t : rdf.Term) → option_map rdf.Iri o ≡ Some t → (i : List ℕ) × (o ≡ Some i) × (rdf.Iri i ≡ t)
iri_is None t e = absurd (let f : ⊥ = cc in f)
iri_is (Some i) t e = (i, refl, (let same : rdf.Iri i ≡ t = cc in same))

typed_is : (o : Option (List ℕ)) (k : rdf.Kind) → option_map rdf.Typed o ≡ Some k → (i : List ℕ) × (o ≡ Some i) × (rdf.Typed i ≡ k)
typed_is None k e = absurd (let f : ⊥ = cc in f)
typed_is (Some i) k e = (i, refl, (let same : rdf.Typed i ≡ k = cc in same))

literal_is : (o : Option (List ℕ)) (k : Option rdf.Kind) (t : rdf.Term) → literal o k ≡ Some t
    → (form : List ℕ) × (kind : rdf.Kind) × (o ≡ Some form) × (k ≡ Some kind) × (rdf.Literal form kind ≡ t)
literal_is None k t e = absurd (let f : ⊥ = cc in f)
literal_is (Some form) None t e = absurd (let f : ⊥ = cc in f)
literal_is (Some form) (Some kind) t e = (form, kind, refl, refl, (let same : rdf.Literal form kind ≡ t = cc in same))

none_none : (t : rdf.Term) → None ≡ Some t → ⊥
none_none t e = let f : ⊥ = cc in f

no_kind : (k : rdf.Kind) → None ≡ Some k → ⊥
no_kind k e = let f : ⊥ = cc in f

same_some : {X : Type 0} (x y : X) → Some x ≡ Some y → x ≡ y
same_some x y e = cc

-- Terms

abbrev pub Colons : List Lexeme → Type 0
Colons ls = AllByRecursion (λ l. sign_of l ≡ PnameLn → HasColon l.text) ls

module _ (ls ks : List Lexeme) (ds : List Declaration) (prologue : IsPrologue ls ds) (lacks : Lacks Prefix ks) where
  a_name : (l : Lexeme) (rest : List Lexeme) (t : rdf.Term) → (sign_of l ≡ PnameLn → HasColon l.text) → option_map rdf.Iri (name_iri (ls ++ ks) l) ≡ Some t → IsTerm ds (l ∷ rest) t
  a_name l rest t colon e =
      let o = iri_is (name_iri (ls ++ ks) l) t e in
      subst (IsTerm ds (l ∷ rest)) o.2 (name l rest o.0 (found_name ls ks ds prologue lacks l o.0 colon o.1))

  with_kind : (l : Lexeme) (rest : List Lexeme) (form : List ℕ) (kind : rdf.Kind) → sign_of l ≡ Text → MeansText l.text form → Colons rest
      → kind_from (sign_of (at (l ∷ rest) 1)) (ls ++ ks) (l ∷ rest) ≡ Some kind → IsTerm ds (l ∷ rest) (rdf.Literal form kind)
  unfolding sign_of
  with_kind l [] form kind s means colons e = subst (λ k. IsTerm ds (l ∷ []) (rdf.Literal form k)) (same_some (rdf.Typed xsd_string) kind e) (plain l [] form s means tt)
  with_kind l (next ∷ rest) form kind s means colons e = by (sign_of next) refl e where
    typed_by : (rest : List Lexeme) → Colons rest → sign_of next ≡ Carets → option_map rdf.Typed (name_iri (ls ++ ks) (at (l ∷ next ∷ rest) 2)) ≡ Some kind → IsTerm ds (l ∷ next ∷ rest) (rdf.Literal form kind)
    typed_by [] colons n e = absurd (no_kind kind e)
    typed_by (datatype ∷ rest) colons n e =
        let o = typed_is (name_iri (ls ++ ks) datatype) kind e in
        subst (λ k. IsTerm ds (l ∷ next ∷ datatype ∷ rest) (rdf.Literal form k)) o.2 (typed l next datatype rest form o.0 s means n (found_name ls ks ds prologue lacks datatype o.0 colons.0 o.1))

    otherwise : (t : Sign) → sign_of next ≡ t → (t ≡ LangTag → ⊥) → (t ≡ Carets → ⊥) → (let k : Option rdf.Kind = Some (rdf.Typed xsd_string) in k) ≡ Some kind → IsTerm ds (l ∷ next ∷ rest) (rdf.Literal form kind)
    otherwise t n tag carets e =
        subst (λ k. IsTerm ds (l ∷ next ∷ rest) (rdf.Literal form k)) (same_some (rdf.Typed xsd_string) kind e)
        (plain l (next ∷ rest) form s means ((λ f. tag (sym n ∙ f)), (λ f. carets (sym n ∙ f))))

    by : (t : Sign) → sign_of next ≡ t → kind_from t (ls ++ ks) (l ∷ next ∷ rest) ≡ Some kind → IsTerm ds (l ∷ next ∷ rest) (rdf.Literal form kind)
    by LangTag n e = subst (λ k. IsTerm ds (l ∷ next ∷ rest) (rdf.Literal form k)) (same_some (rdf.Tagged (map to_ascii_lowercase (behind_first 1 next.text))) kind e) (tagged l next rest form s means n)
    by Carets n e = typed_by rest colons.1 n e
    by t n e = otherwise t n (λ f. let g : ⊥ = cc in g) (λ f. let g : ⊥ = cc in g) e

  found_term : (here : List Lexeme) (t : rdf.Term) → Colons here → term_from (sign_of (at here 0)) (ls ++ ks) here ≡ Some t → IsTerm ds here t
  unfolding sign_of
  found_term [] t colons e = absurd (none_none t e)
  found_term (l ∷ rest) t colons e = by (sign_of l) refl e where
    text : sign_of l ≡ Text → literal (string_text l.text) (kind_from (sign_of (at (l ∷ rest) 1)) (ls ++ ks) (l ∷ rest)) ≡ Some t → IsTerm ds (l ∷ rest) t
    text s e =
        let o = literal_is (string_text l.text) (kind_from (sign_of (at (l ∷ rest) 1)) (ls ++ ks) (l ∷ rest)) t e in
        subst (IsTerm ds (l ∷ rest)) o.4 (with_kind l rest o.0 o.1 s ((mean_as_productions.texts l.text o.0).1 o.2) colons.1 o.3)

    by : (s : Sign) → sign_of l ≡ s → term_from s (ls ++ ks) (l ∷ rest) ≡ Some t → IsTerm ds (l ∷ rest) t
    by Iri s e = a_name l rest t colons.0 e
    by PnameNs s e = a_name l rest t colons.0 e
    by PnameLn s e = a_name l rest t colons.0 e
    by TypeOf s e = subst (IsTerm ds (l ∷ rest)) (same_some (rdf.Iri rdf_type) t e) (type_of l rest s)
    by Text s e = text s e
    by True s e = subst (IsTerm ds (l ∷ rest)) (same_some (rdf.Literal (codes "true") (rdf.Typed (xsd (codes "boolean")))) t e) (yes l rest s)
    by False s e = subst (IsTerm ds (l ∷ rest)) (same_some (rdf.Literal (codes "false") (rdf.Typed (xsd (codes "boolean")))) t e) (no l rest s)
    by Integer s e = subst (IsTerm ds (l ∷ rest)) (same_some (rdf.Literal l.text (rdf.Typed (number_type l.kind))) t e) (integer l rest s)
    by Number s e = subst (IsTerm ds (l ∷ rest)) (same_some (rdf.Literal l.text (rdf.Typed (number_type l.kind))) t e) (number l rest s)
    by _ s e = absurd (none_none t e)

  -- and none but these
  plain_kind : (s : Sign) (here : List Lexeme) → (s ≡ LangTag → ⊥) → (s ≡ Carets → ⊥) → kind_from s (ls ++ ks) here ≡ Some (rdf.Typed xsd_string)
  plain_kind LangTag here tag carets = absurd (tag refl)
  plain_kind Carets here tag carets = absurd (carets refl)
  plain_kind _ here tag carets = refl

  plain_behind : (l : Lexeme) (rest : List Lexeme) → IsPlain rest → kind_from (sign_of (at (l ∷ rest) 1)) (ls ++ ks) (l ∷ rest) ≡ Some (rdf.Typed xsd_string)
  unfolding sign_of
  plain_behind l [] h = refl
  plain_behind l (next ∷ rest) h = plain_kind (sign_of next) (l ∷ next ∷ rest) h.0 h.1

  name_term : (l : Lexeme) (rest : List Lexeme) (i : List ℕ) → MeansName ds l i → term_from (sign_of l) (ls ++ ks) (l ∷ rest) ≡ option_map rdf.Iri (name_iri (ls ++ ks) l)
  name_term _ rest _ (iri l i s means) = ap (λ t. term_from t (ls ++ ks) (l ∷ rest)) s
  name_term _ rest _ (prefix l i s h) = ap (λ t. term_from t (ls ++ ks) (l ∷ rest)) s
  name_term _ rest _ (local l front back i s text colonless h) = ap (λ t. term_from t (ls ++ ks) (l ∷ rest)) s

  term_found : (here : List Lexeme) (t : rdf.Term) → IsTerm ds here t → term_from (sign_of (at here 0)) (ls ++ ks) here ≡ Some t
  term_found _ _ (name l rest i h) = name_term l rest i h ∙ ap (option_map rdf.Iri) (name_found ls ks ds prologue lacks l i h)
  term_found _ _ (type_of l rest s) = ap (λ t. term_from t (ls ++ ks) (l ∷ rest)) s
  term_found _ _ (plain l rest form s means h) =
      ap (λ t. term_from t (ls ++ ks) (l ∷ rest)) s ∙ (λ i. literal ((mean_as_productions.texts l.text form).0 means i) (plain_behind l rest h i))
  term_found _ _ (tagged l tag rest form s means n) =
      ap (λ t. term_from t (ls ++ ks) (l ∷ tag ∷ rest)) s
      ∙ (λ i. literal ((mean_as_productions.texts l.text form).0 means i) (kind_from (n i) (ls ++ ks) (l ∷ tag ∷ rest)))
  term_found _ _ (typed l carets datatype rest form i s means n h) =
      ap (λ t. term_from t (ls ++ ks) (l ∷ carets ∷ datatype ∷ rest)) s
      ∙ ((λ k. literal ((mean_as_productions.texts l.text form).0 means k) (kind_from (n k) (ls ++ ks) (l ∷ carets ∷ datatype ∷ rest)))
      ∙ ap (λ o. literal (Some form) (option_map rdf.Typed o)) (name_found ls ks ds prologue lacks datatype i h))
  term_found _ _ (integer l rest s) = ap (λ t. term_from t (ls ++ ks) (l ∷ rest)) s
  term_found _ _ (number l rest s) = ap (λ t. term_from t (ls ++ ks) (l ∷ rest)) s
  term_found _ _ (yes l rest s) = ap (λ t. term_from t (ls ++ ks) (l ∷ rest)) s
  term_found _ _ (no l rest s) = ap (λ t. term_from t (ls ++ ks) (l ∷ rest)) s

  pub terms_at : (i : ℕ) (t : rdf.Term) → Colons (drop i (ls ++ ks)) → (IsTerm ds (drop i (ls ++ ks)) t → term_at (ls ++ ks) i ≡ Some t) × (term_at (ls ++ ks) i ≡ Some t → IsTerm ds (drop i (ls ++ ks)) t)
  terms_at i t colons = (
    (λ h. same_term (ls ++ ks) i ∙ term_found (drop i (ls ++ ks)) t h),
    (λ e. found_term (drop i (ls ++ ks)) t colons (sym (same_term (ls ++ ks) i) ∙ e)),
  )

  -- Places

  by_name : (n : ℕ) (l : Lexeme) (i : List ℕ) → MeansName ds l i → name_of l n ≡ None
  by_name n _ _ (iri l i s means) = ap (λ (t : Sign). name_by t l.text n) s
  by_name n _ _ (prefix l i s h) = ap (λ (t : Sign). name_by t l.text n) s
  by_name n _ _ (local l front back i s text colonless h) = ap (λ (t : Sign). name_by t l.text n) s

  no_name : (n : ℕ) (here : List Lexeme) (t : rdf.Term) → IsTerm ds here t → name_of (at here 0) n ≡ None
  no_name n _ _ (name l rest i h) = by_name n l i h
  no_name n _ _ (type_of l rest s) = ap (λ (t : Sign). name_by t l.text n) s
  no_name n _ _ (plain l rest form s means h) = ap (λ (t : Sign). name_by t l.text n) s
  no_name n _ _ (tagged l tag rest form s means k) = ap (λ (t : Sign). name_by t l.text n) s
  no_name n _ _ (typed l carets datatype rest form i s means k h) = ap (λ (t : Sign). name_by t l.text n) s
  no_name n _ _ (integer l rest s) = ap (λ (t : Sign). name_by t l.text n) s
  no_name n _ _ (number l rest s) = ap (λ (t : Sign). name_by t l.text n) s
  no_name n _ _ (yes l rest s) = ap (λ (t : Sign). name_by t l.text n) s
  no_name n _ _ (no l rest s) = ap (λ (t : Sign). name_by t l.text n) s

  module _ (names : List Name) (distinct : Distinct names) where
    -- a place by the tokens from there on
    place_from : ℕ → List Lexeme → Option Place
    place_from i here = label_or_term names (name_of (at here 0) i) (term_from (sign_of (at here 0)) (ls ++ ks) here)

    same_place : (i : ℕ) → place_at (ls ++ ks) names i ≡ place_from i (drop i (ls ++ ks))
    unfolding place_from
    same_place i = (λ k. label_or_term names (name_of (at_place (ls ++ ks) i k) i) (same_term (ls ++ ks) i k))

    place_found : (i : ℕ) (here : List Lexeme) (p : Place) → IsPlace ds names i here p → place_from i here ≡ Some p
    unfolding place_from
    place_found i _ _ (place.label l rest n k is at_k) =
        ap (λ o. label_or_term names o (term_from (sign_of l) (ls ++ ks) (l ∷ rest))) (name_complete i l n is)
        ∙ ap (λ m. Some (LabelAt m)) (number_only names k n distinct at_k)
    place_found i _ _ (term here t h) =
        ap (λ o. label_or_term names o (term_from (sign_of (at here 0)) (ls ++ ks) here)) (no_name i here t h)
        ∙ ap (option_map Const) (term_found here t h)

    -- the name that begins the tokens, if one does, is among the names
    abbrev Named : ℕ → List Lexeme → Type 0
    Named i here = (n : Name) → name_of (at here 0) i ≡ Some n → among names n ≡ true

    const_is : (o : Option rdf.Term) (p : Place) → option_map Const o ≡ Some p → (t : rdf.Term) × (o ≡ Some t) × (Const t ≡ p)
    const_is None p e = absurd (let f : ⊥ = cc in f)
    const_is (Some t) p e = (t, refl, (let same : Const t ≡ p = cc in same))

    found_place : (i : ℕ) (here : List Lexeme) (p : Place) → Colons here → Named i here → place_from i here ≡ Some p → IsPlace ds names i here p
    unfolding place_from sign_of
    found_place i [] p colons named e = absurd (let f : ⊥ = cc in f)
    found_place i (l ∷ rest) p colons named e = by (name_of l i) refl e where
      by : (o : Option Name) → name_of l i ≡ o → label_or_term names o (term_from (sign_of l) (ls ++ ks) (l ∷ rest)) ≡ Some p → IsPlace ds names i (l ∷ rest) p
      by (Some n) is e =
          subst (IsPlace ds names i (l ∷ rest)) (same_some (LabelAt (number_among names n)) p e)
          (place.label l rest n (number_among names n) (name_sound i l n is) (number_found names n (named n is)))
      by None is e =
          let c = const_is (term_from (sign_of l) (ls ++ ks) (l ∷ rest)) p e in
          subst (IsPlace ds names i (l ∷ rest)) c.2 (term (l ∷ rest) c.0 (found_term (l ∷ rest) c.0 colons c.1))

    -- Patterns

    pattern_found : (t : Triple) (p : Pattern) → IsPattern ds names (ls ++ ks) t p → pattern_at (ls ++ ks) names t ≡ Some p
    pattern_found t p h = λ k.
        pattern_by ((same_place t.s ∙ place_found t.s (drop t.s (ls ++ ks)) p.s h.s) k) ((same_place t.p ∙ place_found t.p (drop t.p (ls ++ ks)) p.p h.p) k)
        ((same_place t.o ∙ place_found t.o (drop t.o (ls ++ ks)) p.o h.o) k)

    pub patterns_found : (ts : List Triple) (ps : List Pattern) → AllZip (IsPattern ds names (ls ++ ks)) ts ps → patterns_of (ls ++ ks) names ts ≡ Some ps
    patterns_found [] [] h = refl
    patterns_found [] (p ∷ ps) h = absurd h
    patterns_found (t ∷ ts) [] h = absurd h
    patterns_found (t ∷ ts) (p ∷ ps) h = (λ k. pattern_before (pattern_found t p h.0 k) (patterns_found ts ps h.1 k))

    -- what begins the tokens at a place is named
    abbrev pub Ready : ℕ → Type 0
    Ready i = Colons (drop i (ls ++ ks)) × Named i (drop i (ls ++ ks))

    record Places (s p o : Option Place) (pattern : Pattern) : Type 0 where
      is_s : s ≡ Some pattern.s
      is_p : p ≡ Some pattern.p
      is_o : o ≡ Some pattern.o

    places_are : (s p o : Option Place) (pattern : Pattern) → pattern_by s p o ≡ Some pattern → Places s p o pattern
    places_are (Some s) (Some p) (Some o) pattern e =
        let same : record { s = s; p = p; o = o } ≡ pattern = cc in
        record { is_s = ap (λ (q : Pattern). Some q.s) same; is_p = ap (λ (q : Pattern). Some q.p) same; is_o = ap (λ (q : Pattern). Some q.o) same }
    places_are _ _ _ pattern e = absurd (let f : ⊥ = cc in f)

    found_pattern : (t : Triple) (p : Pattern) → Ready t.s → Ready t.p → Ready t.o → pattern_at (ls ++ ks) names t ≡ Some p → IsPattern ds names (ls ++ ks) t p
    found_pattern t p rs rp ro e =
        let all = places_are (place_at (ls ++ ks) names t.s) (place_at (ls ++ ks) names t.p) (place_at (ls ++ ks) names t.o) p e in
        record {
          s = found_place t.s (drop t.s (ls ++ ks)) p.s rs.0 rs.1 (sym (same_place t.s) ∙ all.is_s);
          p = found_place t.p (drop t.p (ls ++ ks)) p.p rp.0 rp.1 (sym (same_place t.p) ∙ all.is_p);
          o = found_place t.o (drop t.o (ls ++ ks)) p.o ro.0 ro.1 (sym (same_place t.o) ∙ all.is_o);
        }

    before_is : (o : Option Pattern) (more : Option (List Pattern)) (ps : List Pattern) → pattern_before o more ≡ Some ps
        → (p : Pattern) × (qs : List Pattern) × (o ≡ Some p) × (more ≡ Some qs) × (p ∷ qs ≡ ps)
    before_is (Some p) (Some qs) ps e = (p, qs, refl, refl, (let same : p ∷ qs ≡ ps = cc in same))
    before_is _ _ ps e = absurd (let f : ⊥ = cc in f)

    pub found_patterns : (ts : List Triple) (ps : List Pattern) → AllByRecursion (λ t. Ready t.s × Ready t.p × Ready t.o) ts
        → patterns_of (ls ++ ks) names ts ≡ Some ps → AllZip (IsPattern ds names (ls ++ ks)) ts ps
    found_patterns [] ps ready e = subst (AllZip (IsPattern ds names (ls ++ ks)) []) (same_some [] ps e) tt
    found_patterns (t ∷ ts) ps ready e =
        let b = before_is (pattern_at (ls ++ ks) names t) (patterns_of (ls ++ ks) names ts) ps e in
        subst (AllZip (IsPattern ds names (ls ++ ks)) (t ∷ ts)) b.4
        (found_pattern t b.0 ready.0.0 ready.0.1 ready.0.2 b.2, found_patterns ts b.1 ready.1 b.3)
