-- The prefixes that are declared from a place on.
use Rattle.std.proofs.Common.{◌≡◌, ◌∙◌, ℕ, ◌+◌, ◌-◌, ◌<◌, ◌≤◌, Bool, true, false, cond, List, [], ◌∷◌, length, drop, get_or, refl, sym, ap, arith, Option, Some, None}
use Rattle.std.specs.Map.{update}
use Rattle.std.specs.Str.{bytes_eq}
use Rattle.std.specs.Prelude.{is_some}
use Rattle.std.proofs.lemmas.Slice.Eq.{bytes_eq-Decides}
use Rattle.query_tokens.specs.Tokens as kind
use Rattle.query_grammar.specs.Lexemes.{Lexeme}
use Rattle.query_grammar.specs.Signs.{Sign, Prefix, sign_of}
use Rattle.query_grammar.specs.Meaning as meaning
use Rattle.query_grammar.specs.Texts.{declared, declared_here, or_before, iri_text, is_sign}
use Rattle.query_read.specs.Reads.{declared_first}
use Rattle.query_read.proofs.Within.{drop_get}

-- one token more, from the end
pub declared_more : (all : List Lexeme) (i : ℕ) (name : List ℕ) → i < length all → declared name (drop i all) ≡ or_before (declared name (drop (i + 1) all)) (declared_first name (drop i all))
declared_more all i name h =
    let split = drop_get all i (record { kind = kind.Word; text = [] }) h in
    ap (declared name) split ∙ ap (λ (ls : List Lexeme). or_before (declared name (drop (i + 1) all)) (declared_first name ls)) (sym split)

-- a new declaration, where none has come so far
pub declares : (old : List ℕ → Option (List ℕ)) (key iri name : List ℕ) (l ns iri_token : Lexeme) (ls : List Lexeme) → key ≡ ns.text → is_some (old key) ≡ false → is_sign (sign_of l) Prefix ≡ true → Some iri ≡ iri_text iri_token.text
    → update bytes_eq old key (Some iri) name ≡ or_before (old name) (declared_first name (l ∷ ns ∷ iri_token ∷ ls))
declares old key iri name l ns iri_token ls is none prefix e =
    by (bytes_eq key name) refl
    ∙ ap (λ (t : Bool). or_before (old name) (cond t (declared_here name (ns ∷ iri_token ∷ ls)) None)) (sym prefix)
  where
    none_of : (o : Option (List ℕ)) → is_some o ≡ false → o ≡ None
    none_of None e = refl
    none_of (Some x) e = absurd (let f : true ≡ false = e in cc)

    with_none : (o : Option (List ℕ)) → o ≡ or_before o None
    with_none None = refl
    with_none (Some x) = refl

    by : (t : Bool) → bytes_eq key name ≡ t → cond t (Some iri) (old name) ≡ or_before (old name) (cond (bytes_eq ns.text name) (iri_text iri_token.text) None)
    by true f =
        let same : key ≡ name = (bytes_eq-Decides key name).0 f in
        let absent : old name ≡ None = ap old (sym same) ∙ none_of (old key) none in
        e ∙ ap (λ (o : Option (List ℕ)). or_before o (iri_text iri_token.text)) (sym absent)
        ∙ ap (λ (t : Bool). or_before (old name) (cond t (iri_text iri_token.text) None)) (sym f ∙ ap (λ (k : List ℕ). bytes_eq k name) is)
    by false f =
        with_none (old name) ∙ ap (λ (t : Bool). or_before (old name) (cond t (iri_text iri_token.text) None)) (sym f ∙ ap (λ (k : List ℕ). bytes_eq k name) is)

pub declared_before : (all : List Lexeme) (i : ℕ) (name : List ℕ) → 0 < i → i ≤ length all → declared name (drop (i - 1) all) ≡ or_before (declared name (drop i all)) (declared_first name (drop (i - 1) all))
declared_before all i name some within =
    let next : (i - 1) + 1 ≡ i = omega arith in
    declared_more all (i - 1) name (omega arith) ∙ ap (λ (n : ℕ). or_before (declared name (drop n all)) (declared_first name (drop (i - 1) all))) next

pub three_there : (all : List Lexeme) (a b c : Lexeme) → 3 ≤ length all → a ≡ get_or all 0 a → b ≡ get_or all 1 b → c ≡ get_or all 2 c → all ≡ a ∷ b ∷ c ∷ drop 3 all
three_there [] a b c h e f g = absurd (omega arith)
three_there (x ∷ []) a b c h e f g = absurd (omega arith)
three_there (x ∷ y ∷ []) a b c h e f g = absurd (omega arith)
three_there (x ∷ y ∷ z ∷ xs) a b c h e f g =
    ap (λ (l : Lexeme). l ∷ y ∷ z ∷ xs) (sym e) ∙ ap (λ (l : Lexeme). a ∷ l ∷ z ∷ xs) (sym f) ∙ ap (λ (l : Lexeme). a ∷ b ∷ l ∷ xs) (sym g)

pub prefix_same : (s : Sign) → meaning.is_sign s Prefix ≡ true → is_sign s Prefix ≡ true
prefix_same Prefix e = refl
prefix_same _ e = absurd (let f : false ≡ true = e in cc)
