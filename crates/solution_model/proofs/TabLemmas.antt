-- No byte of the text of a proper term is a tab.
use Rattle.std.specs.Prelude.{◌≡◌, ◌⊎◌, ℕ, ◌≤◌, ◌||◌, Bool, true, false, cond, List, [], ◌∷◌, ◌++◌, ◌==◌, map, codes, refl}
use Rattle.std.proofs.Common.{sym, ◌∙◌, ap, subst, arith, inl, inr}
use Rattle.std.proofs.Math.Utf8.{scalar_cases}
use Rattle.std.proofs.lemmas.Bool.Decides.{nat_tests}
use Rattle.std.proofs.str.Laws as laws
use Rattle.std.specs.Char.{encode_utf8, IsScalar, to_ascii_lowercase}
use Rattle.std.specs.List.{AllByRecursion, flat_map, list_all}
use Rattle.std.specs.Str.{encode_utf8_all, all_scalars, bytes_eq}
use Rattle.hypertrie_model.specs.SetLaws.{and_both}
use Rattle.rdf_model.specs.Terms.{Text, Kind, Typed, Tagged, Term, Iri, Blank, Literal}
use Rattle.rdf_model.specs.Texts.{xsd_string, escaped, escaped_tab, kind_text, tsv, canon}
use Rattle.ntriples_model.specs.Characters.{is_letter, is_letter_or_digit, is_iri_char, is_pn_chars, is_pn_chars_u, is_pn_chars_base, is_label_start}
use Rattle.ntriples_model.specs.Terminals.{IsBody, done, plain, escaped as by_escape, IsUchar, short, long, IsIriRef, IsIriEscape, IsDotted, IsBlankNodeLabel, IsTagRest, nothing, next, subtag, IsLangTag}
use Rattle.ntriples_model.specs.Proper.{IsProper}

abbrev pub HasNoTab : Text → Type 0
HasNoTab text = AllByRecursion (λ b. (b == 9) ≡ false) text

pub no_tab_append : (xs ys : Text) → HasNoTab xs → HasNoTab ys → HasNoTab (xs ++ ys)
no_tab_append [] ys h k = k
no_tab_append (x ∷ xs) ys h k = (h.0, no_tab_append xs ys h.1 k)

-- ---- characters

large : (b : ℕ) → 128 ≤ b → (b == 9) ≡ false
large b h = grind (arith, nat_tests)

by_shape : (c : ℕ) → laws.Shape c → (c == 9) ≡ false → HasNoTab (encode_utf8 c)
by_shape c (laws.of1 h e) differs = subst HasNoTab (sym e) (differs, tt)
by_shape c (laws.of2 a b l h f s e) differs = subst HasNoTab (sym e) (large a (omega arith), (large b f.0, tt))
by_shape c (laws.of3 a b d l h f g s e) differs = subst HasNoTab (sym e) (large a (omega arith), (large b f.0, (large d g.0, tt)))
by_shape c (laws.of4 a b d x l h f g k s e) differs = subst HasNoTab (sym e) (large a (omega arith), (large b f.0, (large d g.0, (large x k.0, tt))))

character : (c : ℕ) → IsScalar c → (c == 9) ≡ false → HasNoTab (encode_utf8 c)
character c is differs = by_shape c (laws.shape c (scalar_cases c is)) differs

characters : (cs : List ℕ) → all_scalars cs ≡ true → AllByRecursion (λ c. (c == 9) ≡ false) cs → HasNoTab (encode_utf8_all cs)
characters [] is differs = tt
characters (c ∷ cs) is differs = let two = and_both _ (all_scalars cs) is in no_tab_append (encode_utf8 c) (encode_utf8_all cs) (character c two.0 differs.0) (characters cs two.1 differs.1)

-- ---- IRIs

iri_char : (b : ℕ) → is_iri_char b ≡ true → (b == 9) ≡ false
unfolding is_iri_char
iri_char b h = grind (arith, nat_tests)

uchar_scalar : (escape : Text) (c : ℕ) → IsUchar escape c → IsScalar c
uchar_scalar _ _ (short digits hex is) = is
uchar_scalar _ _ (long digits hex is) = is

iri_body : (raw text : Text) → IsBody is_iri_char IsIriEscape raw text → HasNoTab text
iri_body _ _ done = tt
iri_body _ _ (plain b raw text h body) = (iri_char b h, iri_body raw text body)
iri_body _ _ (by_escape escape c raw text is body) = no_tab_append (encode_utf8 c) text (character c (uchar_scalar escape c is.uchar) (iri_char c is.fits)) (iri_body raw text body)

iri : (terminal text : Text) → IsIriRef terminal text → HasNoTab text
iri terminal text is = iri_body is.raw text is.body

-- ---- labels

is_tab : (c : ℕ) → (c == 9) ≡ true → c ≡ 9
is_tab c e = grind (arith, nat_tests)

-- what fits isn't a tab, where a tab doesn't fit
fits_no_tab : (fits : ℕ → Bool) → false ≡ fits 9 → (c : ℕ) → fits c ≡ true → (c == 9) ≡ false
fits_no_tab fits unfit c h = elim (c == 9) as (λ b. (c == 9) ≡ b → b ≡ false) [
  | true ↦ λ e. sym (unfit ∙ ap fits (sym (is_tab c e)) ∙ h)
  | false ↦ λ _. refl
] refl

label_start : (c : ℕ) → is_label_start c ≡ true → (c == 9) ≡ false
unfolding is_label_start is_pn_chars_u is_pn_chars_base
label_start c h = fits_no_tab is_label_start refl c h

pn_char : (c : ℕ) → (is_pn_chars c || c == 46) ≡ true → (c == 9) ≡ false
unfolding is_pn_chars is_pn_chars_u is_pn_chars_base
pn_char c h = fits_no_tab (λ c. is_pn_chars c || c == 46) refl c h

all_pn : (cs : List ℕ) → AllByRecursion (λ c. (is_pn_chars c || c == 46) ≡ true) cs → HasNoTab cs
all_pn [] all = tt
all_pn (c ∷ cs) all = (pn_char c all.0, all_pn cs all.1)

or_dot : (a b : Bool) → a ≡ true → (a || b) ≡ true
or_dot a b e = ap (λ c. c || b) e

label_more : (more : List ℕ) → (more ≡ []) ⊎ IsDotted more → HasNoTab more
label_more more (inl none) = subst HasNoTab (sym none) tt
label_more more (inr is) = subst HasNoTab (sym is.is) (no_tab_append is.inner (is.last ∷ []) (all_pn is.inner is.each) (pn_char is.last (or_dot (is_pn_chars is.last) (is.last == 46) is.ends), tt))

label : (terminal text : Text) → IsBlankNodeLabel terminal text → HasNoTab text
label terminal text is = subst HasNoTab (sym is.text_is) (characters (is.first ∷ is.more) is.characters (label_start is.first is.begins, label_more is.more is.goes_on))

-- ---- literals

one_escaped : (b : ℕ) → HasNoTab (escaped_tab b)
one_escaped b = elim (b == 9) as (λ t. (b == 9) ≡ t → HasNoTab (cond t (codes "\\t") (escaped b))) [
  | true ↦ λ _. (refl, (refl, tt))
  | false ↦ λ differs. elim (b == 34) as (λ t. HasNoTab (cond t (codes "\\\"") (cond (b == 92) (codes "\\\\") (cond (b == 10) (codes "\\n") (cond (b == 13) (codes "\\r") (b ∷ [])))))) [
    | true ↦ (refl, (refl, tt))
    | false ↦ elim (b == 92) as (λ t. HasNoTab (cond t (codes "\\\\") (cond (b == 10) (codes "\\n") (cond (b == 13) (codes "\\r") (b ∷ []))))) [
      | true ↦ (refl, (refl, tt))
      | false ↦ elim (b == 10) as (λ t. HasNoTab (cond t (codes "\\n") (cond (b == 13) (codes "\\r") (b ∷ [])))) [
        | true ↦ (refl, (refl, tt))
        | false ↦ elim (b == 13) as (λ t. HasNoTab (cond t (codes "\\r") (b ∷ []))) [
          | true ↦ (refl, (refl, tt))
          | false ↦ (differs, tt)
        ]
      ]
    ]
  ]
] refl

form_text : (form : Text) → HasNoTab (flat_map escaped_tab form)
form_text [] = tt
form_text (b ∷ form) = no_tab_append (escaped_tab b) (flat_map escaped_tab form) (one_escaped b) (form_text form)

lower : (c : ℕ) → (c == 9) ≡ false → (to_ascii_lowercase c == 9) ≡ false
lower c h = grind (arith, nat_tests)

letter : (c : ℕ) → is_letter c ≡ true → (to_ascii_lowercase c == 9) ≡ false
unfolding is_letter
letter c h = lower c (grind (arith, nat_tests))

letter_or_digit : (c : ℕ) → is_letter_or_digit c ≡ true → (to_ascii_lowercase c == 9) ≡ false
unfolding is_letter_or_digit
letter_or_digit c h = lower c (grind (arith, nat_tests))

tag_rest : (fits : ℕ → Bool) → ((c : ℕ) → fits c ≡ true → (to_ascii_lowercase c == 9) ≡ false) → (rest : Text) → IsTagRest fits rest → HasNoTab (map to_ascii_lowercase rest)
tag_rest _ differs _ (nothing fits) = tt
tag_rest _ differs _ (next fits c rest is more) = (differs c is, tag_rest fits differs rest more)
tag_rest _ differs _ (subtag fits c rest is more) = (refl, (letter_or_digit c is, tag_rest is_letter_or_digit letter_or_digit rest more))

tag : (terminal text : Text) → IsLangTag terminal text → HasNoTab text
tag terminal text is = subst HasNoTab (sym is.text_is) (letter is.first is.begins, tag_rest is_letter letter is.rest is.goes_on)

all_told : (text : Text) → list_all (λ b. cond (b == 9) false true) text ≡ true → HasNoTab text
all_told [] e = tt
all_told (b ∷ text) e =
    let two = and_both (cond (b == 9) false true) (list_all (λ b. cond (b == 9) false true) text) e in
    (told (b == 9) two.0, all_told text two.1) where
      told : (t : Bool) → cond t false true ≡ true → t ≡ false
      told true e = sym e
      told false e = refl

string_type : HasNoTab xsd_string
string_type = all_told xsd_string refl

typed : (datatype : Text) → HasNoTab datatype → HasNoTab (kind_text (Typed datatype))
typed datatype differs = elim (bytes_eq datatype xsd_string) as (λ b. HasNoTab (cond b [] (codes "^^<" ++ datatype ++ codes ">"))) [
  | true ↦ tt
  | false ↦ (refl, (refl, (refl, no_tab_append datatype (codes ">") differs (refl, tt))))
]

kind : (form : Text) (k : Kind) → IsProper (Literal form k) → HasNoTab (kind_text k)
kind form (Typed datatype) (inl alone) = typed datatype (subst HasNoTab (sym alone.1) string_type)
kind form (Typed datatype) (inr is) = typed datatype (iri is.iri datatype is.datatype_is)
kind form (Tagged t) is = (refl, tag is.langtag t is.tag_is)

pub no_tab : (t : Term) → IsProper t → HasNoTab (tsv t)
no_tab (Iri text) is = (refl, no_tab_append text (codes ">") (iri (canon (Iri text)) text is) (refl, tt))
no_tab (Blank text) is = (refl, (refl, label (canon (Blank text)) text is))
no_tab (Literal form k) is = (refl, no_tab_append (flat_map escaped_tab form ++ codes "\"") (kind_text k) (no_tab_append (flat_map escaped_tab form) (codes "\"") (form_text form) (refl, tt)) (kind form k is))
