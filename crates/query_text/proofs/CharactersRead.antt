-- The characters of a text, from both its ends.
use Rattle.std.proofs.Common.{◌≡◌, ◌∙◌, ℕ, ◌-◌, ◌<◌, List, [], ◌∷◌, ◌++◌, length, take, drop, refl, sym, ap, subst, arith, Option, Some, None, chars, IsUtf8}
use Rattle.std.specs.Prelude.{encode_utf8, encode_utf8_all, MatchOption}
use Rattle.std.proofs.lemmas.Str.{chars_past_char, chars-nil, encodes-chars, encodes-append, encodes_same, IsUtf8-past_char, length-encode, len_utf8_bounds}
use Rattle.std.proofs.lemmas.List.{length-append}
use Rattle.std.proofs.Math.Seq.{take-append_seam}
use Rattle.query_grammar.specs.Texts.{trimmed}

pub nothing : (xs : List ℕ) → length xs ≡ 0 → xs ≡ []
nothing [] h = refl
nothing (x ∷ xs) h = absurd (omega arith)

pub first_of : (text ahead tail rest : List ℕ) (c : ℕ) → IsUtf8 text → IsUtf8 rest → ahead ≡ text → ahead ≡ encode_utf8 c ++ tail → rest ≡ tail → (chars text ≡ c ∷ chars rest) × (length rest < length text) × IsUtf8 rest
first_of text ahead tail rest c u v same split is =
    let e : text ≡ encode_utf8 c ++ rest = sym same ∙ split ∙ ap (λ (r : List ℕ). encode_utf8 c ++ r) (sym is) in
    (chars_past_char text rest c u e, omega (arith, ap length e, length-append (encode_utf8 c) rest, length-encode c, len_utf8_bounds c), v)

pub none_of : (text ahead : List ℕ) → ahead ≡ text → length ahead ≡ 0 → chars text ≡ []
none_of text ahead same none = ap chars (nothing text (sym (ap length same) ∙ none)) ∙ chars-nil

pub without_first : {C : Type 0} (chars_rest : C → List ℕ) (s t : C) (r : Option ℕ) → IsUtf8 (chars_rest s) → MatchOption r ((length (chars_rest s) ≡ 0) × (t ≡ s)) (λ c. chars_rest s ≡ encode_utf8 c ++ chars_rest t)
    → (chars (chars_rest t) ≡ drop 1 (chars (chars_rest s))) × IsUtf8 (chars_rest t)
without_first chars_rest s t None u (none, same) =
    let left : chars (chars_rest t) ≡ [] = none_of (chars_rest t) (chars_rest s) (ap chars_rest (sym same)) none in
    let before : chars (chars_rest s) ≡ [] = none_of (chars_rest s) (chars_rest s) refl none in
    (left ∙ ap (drop 1) (sym before), subst IsUtf8 (ap chars_rest (sym same)) u)
without_first chars_rest s t (Some c) u e =
    (ap (drop 1) (sym (chars_past_char (chars_rest s) (chars_rest t) c u e)), IsUtf8-past_char (chars_rest s) (chars_rest t) c u e)

append_nil : (xs : List ℕ) → xs ++ [] ≡ xs
append_nil [] = refl
append_nil (x ∷ xs) = ap (λ (ys : List ℕ). x ∷ ys) (append_nil xs)

last_of : (bs ds : List ℕ) (c : ℕ) → IsUtf8 bs → IsUtf8 ds → bs ≡ ds ++ encode_utf8 c → chars bs ≡ chars ds ++ c ∷ []
last_of bs ds c u v e =
    encodes_same (chars bs) (chars ds ++ c ∷ [])
    (encodes-chars bs u ∙ e ∙ sym (encodes-append (chars ds) (c ∷ []) ∙ ap (λ (x : List ℕ). x ++ (encode_utf8 c ++ [])) (encodes-chars ds v) ∙ ap (λ (x : List ℕ). ds ++ x) (append_nil (encode_utf8 c))))

front_of : (xs : List ℕ) (c : ℕ) → take (length (xs ++ c ∷ []) - 1) (xs ++ c ∷ []) ≡ xs
front_of xs c =
    let size : length (xs ++ c ∷ []) - 1 ≡ length xs = omega (arith, length-append xs (c ∷ [])) in
    ap (λ (n : ℕ). take n (xs ++ c ∷ [])) size ∙ take-append_seam xs (c ∷ [])

pub without_last : {C : Type 0} (chars_rest : C → List ℕ) (s t : C) (r : Option ℕ) → IsUtf8 (chars_rest s) → IsUtf8 (chars_rest t) → MatchOption r ((length (chars_rest s) ≡ 0) × (t ≡ s)) (λ c. chars_rest s ≡ chars_rest t ++ encode_utf8 c)
    → chars (chars_rest t) ≡ take (length (chars (chars_rest s)) - 1) (chars (chars_rest s))
without_last chars_rest s t None u v (none, same) =
    let left : chars (chars_rest t) ≡ [] = none_of (chars_rest t) (chars_rest s) (ap chars_rest (sym same)) none in
    let before : chars (chars_rest s) ≡ [] = none_of (chars_rest s) (chars_rest s) refl none in
    left ∙ ap (λ (cs : List ℕ). take (length cs - 1) cs) (sym before)
without_last chars_rest s t (Some c) u v e =
    let whole = last_of (chars_rest s) (chars_rest t) c u v e in
    sym (ap (λ (cs : List ℕ). take (length cs - 1) cs) whole ∙ front_of (chars (chars_rest t)) c)

drop_one : (cs : List ℕ) → length (drop 1 cs) - 1 ≡ length cs - 2
drop_one [] = refl
drop_one (c ∷ cs) = omega arith

pub trims : (cs ds es : List ℕ) → ds ≡ drop 1 cs → es ≡ take (length ds - 1) ds → es ≡ trimmed cs
trims cs ds es first last =
    last ∙ ap (λ (x : List ℕ). take (length x - 1) x) first ∙ ap (λ (n : ℕ). take n (drop 1 cs)) (drop_one cs)

pub chars_nothing : (text : List ℕ) → IsUtf8 text → 0 < length text → chars text ≡ [] → ⊥
chars_nothing text u some none = omega (arith, some, ap length (sym (encodes-chars text u) ∙ ap encode_utf8_all none))
