-- The text of a term in an answer determines the term.
use Rattle.std.specs.Prelude.{◌≡◌, ℕ, Bool, true, false, cond, List, [], ◌∷◌, ◌++◌, ◌==◌, codes, slice_index, refl}
use Rattle.std.proofs.Common.{sym, ◌∙◌, ap, arith}
use Rattle.std.proofs.lemmas.Bool.Decides.{nat_tests}
use Rattle.std.proofs.lemmas.List.{append_cancel_right}
use Rattle.std.proofs.lemmas.Slice.Eq.{bytes_eq-Decides}
use Rattle.std.specs.List.{flat_map}
use Rattle.std.specs.Str.{bytes_eq}
use Rattle.rdf_model.specs.Terms.{Text, Kind, Typed, Tagged, Term, Iri, Blank, Literal}
use Rattle.rdf_model.specs.Texts.{xsd_string, escaped, escaped_tab, kind_text, tsv}

-- ---- lexical forms, back from their escapes

-- the byte that is meant by the one behind a backslash
abbrev meant : ℕ → ℕ
meant c = cond (c == 116) 9 (cond (c == 110) 10 (cond (c == 114) 13 c))

abbrev with_byte : ℕ → List ℕ × List ℕ → List ℕ × List ℕ
with_byte b p = (b ∷ p.0, p.1)

-- the form up to the next quote, and what stands behind that; where `behind` says whether a backslash stands before
abbrev read_from : Bool → List ℕ → List ℕ × List ℕ
read_from behind [] = ([], [])
read_from true (c ∷ u) = with_byte (meant c) (read_from false u)
read_from false (b ∷ u) = cond (b == 34) ([], u) (cond (b == 92) (read_from true u) (with_byte b (read_from false u)))

is_number : (b n : ℕ) → (b == n) ≡ true → b ≡ n
is_number b n e = grind (arith, nat_tests)

one_read : (b : ℕ) (w : List ℕ) → read_from false (escaped_tab b ++ w) ≡ with_byte b (read_from false w)
one_read b w = elim (b == 9) as (λ t. (b == 9) ≡ t → read_from false (cond t (codes "\\t") (escaped b) ++ w) ≡ with_byte b (read_from false w)) [
  | true ↦ λ e. ap (λ x. with_byte x (read_from false w)) (sym (is_number b 9 e))
  | false ↦ λ _. quote
] refl where
  itself : (b == 34) ≡ false → (b == 92) ≡ false → read_from false (b ∷ w) ≡ with_byte b (read_from false w)
  itself q s = (λ j. cond (q j) ([], w) (cond (s j) (read_from true w) (with_byte b (read_from false w))))

  carriage : (b == 34) ≡ false → (b == 92) ≡ false → read_from false (cond (b == 13) (codes "\\r") (b ∷ []) ++ w) ≡ with_byte b (read_from false w)
  carriage q s = elim (b == 13) as (λ t. (b == 13) ≡ t → read_from false (cond t (codes "\\r") (b ∷ []) ++ w) ≡ with_byte b (read_from false w)) [
    | true ↦ λ e. ap (λ x. with_byte x (read_from false w)) (sym (is_number b 13 e))
    | false ↦ λ _. itself q s
  ] refl

  line : (b == 34) ≡ false → (b == 92) ≡ false → read_from false (cond (b == 10) (codes "\\n") (cond (b == 13) (codes "\\r") (b ∷ [])) ++ w) ≡ with_byte b (read_from false w)
  line q s = elim (b == 10) as (λ t. (b == 10) ≡ t → read_from false (cond t (codes "\\n") (cond (b == 13) (codes "\\r") (b ∷ [])) ++ w) ≡ with_byte b (read_from false w)) [
    | true ↦ λ e. ap (λ x. with_byte x (read_from false w)) (sym (is_number b 10 e))
    | false ↦ λ _. carriage q s
  ] refl

  backslash : (b == 34) ≡ false → read_from false (cond (b == 92) (codes "\\\\") (cond (b == 10) (codes "\\n") (cond (b == 13) (codes "\\r") (b ∷ []))) ++ w) ≡ with_byte b (read_from false w)
  backslash q = elim (b == 92) as (λ t. (b == 92) ≡ t → read_from false (cond t (codes "\\\\") (cond (b == 10) (codes "\\n") (cond (b == 13) (codes "\\r") (b ∷ []))) ++ w) ≡ with_byte b (read_from false w)) [
    | true ↦ λ e. ap (λ x. with_byte x (read_from false w)) (sym (is_number b 92 e))
    | false ↦ λ s. line q s
  ] refl

  quote : read_from false (escaped b ++ w) ≡ with_byte b (read_from false w)
  quote = elim (b == 34) as (λ t. (b == 34) ≡ t → read_from false (cond t (codes "\\\"") (cond (b == 92) (codes "\\\\") (cond (b == 10) (codes "\\n") (cond (b == 13) (codes "\\r") (b ∷ [])))) ++ w) ≡ with_byte b (read_from false w)) [
    | true ↦ λ e. ap (λ x. with_byte x (read_from false w)) (sym (is_number b 34 e))
    | false ↦ λ q. backslash q
  ] refl

append_behind : (xs ys zs : List ℕ) → (xs ++ ys) ++ zs ≡ xs ++ (ys ++ zs)
append_behind [] ys zs = refl
append_behind (x ∷ xs) ys zs = ap (λ l. x ∷ l) (append_behind xs ys zs)

form_read : (form rest : List ℕ) → read_from false (flat_map escaped_tab form ++ 34 ∷ rest) ≡ (form, rest)
form_read [] rest = refl
form_read (b ∷ form) rest =
    ap (read_from false) (append_behind (escaped_tab b) (flat_map escaped_tab form) (34 ∷ rest))
    ∙ one_read b (flat_map escaped_tab form ++ 34 ∷ rest)
    ∙ ap (with_byte b) (form_read form rest)

same_forms : (a b u v : List ℕ) → flat_map escaped_tab a ++ 34 ∷ u ≡ flat_map escaped_tab b ++ 34 ∷ v → (a ≡ b) × (u ≡ v)
same_forms a b u v e =
    let pairs = sym (form_read a u) ∙ ap (read_from false) e ∙ form_read b v in
    (ap (λ (p : List ℕ × List ℕ). p.0) pairs, ap (λ (p : List ℕ × List ℕ). p.1) pairs)

-- ---- kinds

same_bytes : (a b : Text) → bytes_eq a b ≡ true → a ≡ b
same_bytes a b e = (bytes_eq-Decides a b).0 e

same_types : (a b : Text) → kind_text (Typed a) ≡ kind_text (Typed b) → a ≡ b
same_types a b e = elim (bytes_eq a xsd_string) as (λ s. bytes_eq a xsd_string ≡ s → cond s [] (codes "^^<" ++ a ++ codes ">") ≡ kind_text (Typed b) → a ≡ b) [
  | true ↦ λ is_a. elim (bytes_eq b xsd_string) as (λ s. bytes_eq b xsd_string ≡ s → [] ≡ cond s [] (codes "^^<" ++ b ++ codes ">") → a ≡ b) [
    | true ↦ λ is_b _. same_bytes a xsd_string is_a ∙ sym (same_bytes b xsd_string is_b)
    | false ↦ λ _ e. absurd (let n : ⊥ = cc in n)
  ] refl
  | false ↦ λ _. elim (bytes_eq b xsd_string) as (λ s. (94 ∷ 94 ∷ 60 ∷ (a ++ 62 ∷ [])) ≡ cond s [] (codes "^^<" ++ b ++ codes ">") → a ≡ b) [
    | true ↦ λ e. absurd (let n : ⊥ = cc in n)
    | false ↦ λ e. let inner : a ++ 62 ∷ [] ≡ b ++ 62 ∷ [] = cc in append_cancel_right a b (62 ∷ []) inner
  ]
] refl e

head_apart : {u v : List ℕ} → 64 ∷ u ≡ 94 ∷ v → ⊥
head_apart e = let heads : slice_index (64 ∷ []) 0 ≡ slice_index (94 ∷ []) 0 = ap (λ w. slice_index w 0) e in omega (arith, heads)

no_tag : (a b : Text) → kind_text (Typed a) ≡ kind_text (Tagged b) → ⊥
no_tag a b e = elim (bytes_eq a xsd_string) as (λ s. cond s [] (codes "^^<" ++ a ++ codes ">") ≡ kind_text (Tagged b) → ⊥) [
  | true ↦ λ e. cc
  | false ↦ λ e. head_apart (sym e)
] e

same_kinds : (k l : Kind) → kind_text k ≡ kind_text l → k ≡ l
same_kinds (Typed a) (Typed b) e = ap Typed (same_types a b e)
same_kinds (Typed a) (Tagged b) e = absurd (no_tag a b e)
same_kinds (Tagged a) (Typed b) e = absurd (no_tag b a (sym e))
same_kinds (Tagged a) (Tagged b) e = let same : a ≡ b = cc in ap Tagged same

-- ---- terms

apart : {P : Type 0} (a b : ℕ) (u v : List ℕ) → (a == b) ≡ false → a ∷ u ≡ b ∷ v → P
apart a b u v differs e = let head : a ≡ b = cc in absurd (let n : true ≡ false = itself a ∙ ap (λ c. a == c) head ∙ differs in let f : ⊥ = cc in f) where
  itself : (a : ℕ) → true ≡ (a == a)
  itself a = grind (arith, nat_tests)

pub same_term_texts : (t u : Term) → tsv t ≡ tsv u → t ≡ u
same_term_texts (Iri a) (Iri b) e = let inner : a ++ 62 ∷ [] ≡ b ++ 62 ∷ [] = cc in ap Iri (append_cancel_right a b (62 ∷ []) inner)
same_term_texts (Iri a) (Blank b) e = apart 60 95 _ _ refl e
same_term_texts (Iri a) (Literal b k) e = apart 60 34 _ _ refl e
same_term_texts (Blank a) (Iri b) e = apart 95 60 _ _ refl e
same_term_texts (Blank a) (Blank b) e = let same : a ≡ b = cc in ap Blank same
same_term_texts (Blank a) (Literal b k) e = apart 95 34 _ _ refl e
same_term_texts (Literal a k) (Iri b) e = apart 34 60 _ _ refl e
same_term_texts (Literal a k) (Blank b) e = apart 34 95 _ _ refl e
same_term_texts (Literal a k) (Literal b l) e =
    let inner : (flat_map escaped_tab a ++ 34 ∷ []) ++ kind_text k ≡ (flat_map escaped_tab b ++ 34 ∷ []) ++ kind_text l = cc in
    let both = same_forms a b (kind_text k) (kind_text l) (sym (append_behind (flat_map escaped_tab a) (34 ∷ []) (kind_text k)) ∙ inner ∙ append_behind (flat_map escaped_tab b) (34 ∷ []) (kind_text l)) in
    (λ j. Literal (both.0 j) (same_kinds k l both.1 j))
