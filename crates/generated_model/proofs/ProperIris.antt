-- Names made of numbers are IRIs.
use Rattle.std.proofs.Common.{◌≡◌, ℕ, ◌+◌, ◌*◌, ◌/◌, ◌%◌, ◌^◌, ◌<◌, true, [], ◌∷◌, ◌++◌, refl, arith}
use Rattle.std.specs.Prelude.{codes, decimal}
use Rattle.std.specs.List.{AllByRecursion}
use Rattle.std.specs.Str.{IsAscii}
use Rattle.std.proofs.lemmas.Bool.{agree_below_at}
use Rattle.std.proofs.lemmas.Nat.{mod_below}
use Rattle.std.proofs.lemmas.Fmt.{decimal_by_steps, IsAscii-decimal}
use Rattle.std.proofs.lemmas.Str.{IsAscii-append, IsUtf8-from_ascii}
use Rattle.std.proofs.lemmas.Str.Ascii.{IsAscii-nil, IsAscii-cons}
use Rattle.rdf_model.specs.Terms.{Text, Iri}
use Rattle.ntriples_model.specs.Characters.{is_iri_char, is_letter, is_letter_or_digit, is_scheme_char}
use Rattle.ntriples_model.specs.Terminals.{IsBody, IsIriEscape, IsAbsolute}
use Rattle.ntriples_model.specs.Proper.{IsProper}
use Rattle.generated_model.specs.Generated.{names, subject_at, predicate_at, object_at, AreProperTriples}

abbrev Fits : Text → Type 0
Fits = AllByRecursion (λ c. is_iri_char c ≡ true)

fits_more : (xs ys : Text) → Fits xs → Fits ys → Fits (xs ++ ys)
fits_more [] ys all more = more
fits_more (x ∷ xs) ys all more = (all.0, fits_more xs ys all.1 more)

digit_fits : (d : ℕ) → d < 10 → is_iri_char (48 + d) ≡ true
unfolding is_iri_char
digit_fits d h = agree_below_at (λ d. is_iri_char (48 + d)) (λ _. true) 10 d refl h

decimal_fits : (i : ℕ) → i < 2 ^ 64 → Fits (decimal i)
decimal_fits = decimal_by_steps (λ _ ds. Fits ds) (λ n h. (digit_fits n h, tt)) (λ n ds h all. fits_more ds ((48 + n % 10) ∷ []) all (digit_fits (n % 10) (mod_below n 10 (omega arith)), tt))

plain_body : (text : Text) → Fits text → IsBody is_iri_char IsIriEscape text text
plain_body [] all = IsBody.done
plain_body (b ∷ text) all = IsBody.plain b text text all.0 (plain_body text all.1)

-- `urn:`, a letter, `:`, and a number
abbrev named : ℕ → ℕ → Text
named kind i = codes "urn:" ++ kind ∷ 58 ∷ decimal i

named_fits : (kind i : ℕ) → is_iri_char kind ≡ true → i < 2 ^ 64 → Fits (named kind i)
unfolding is_iri_char
named_fits kind i h small = (refl, (refl, (refl, (refl, (h, (refl, decimal_fits i small))))))

scheme_ascii : IsAscii (codes "<urn:")
scheme_ascii =
    let last = IsAscii-cons 110 (58 ∷ []) (omega arith) (IsAscii-cons 58 [] (omega arith) IsAscii-nil) in
    IsAscii-cons 60 (117 ∷ 114 ∷ 110 ∷ 58 ∷ []) (omega arith) (IsAscii-cons 117 (114 ∷ 110 ∷ 58 ∷ []) (omega arith) (IsAscii-cons 114 (110 ∷ 58 ∷ []) (omega arith) last))

named_ascii : (kind i : ℕ) → kind < 128 → i < 2 ^ 64 → IsAscii (60 ∷ named kind i ++ 62 ∷ [])
named_ascii kind i h small =
    let number = IsAscii-cons 58 (decimal i) (omega arith) (IsAscii-decimal i small) in
    let name = IsAscii-append (codes "<urn:") (kind ∷ 58 ∷ decimal i) scheme_ascii (IsAscii-cons kind (58 ∷ decimal i) h number) in
    IsAscii-append (60 ∷ named kind i) (62 ∷ []) name (IsAscii-cons 62 [] (omega arith) IsAscii-nil)

named_absolute : (kind i : ℕ) → IsAbsolute (named kind i)
unfolding is_letter is_scheme_char is_letter_or_digit
named_absolute kind i = record { first = 117; scheme = codes "rn"; rest = kind ∷ 58 ∷ decimal i; text_is = refl; begins = refl; goes_on = (refl, (refl, tt)) }

named_is_iri : (kind i : ℕ) → is_iri_char kind ≡ true → kind < 128 → i < 2 ^ 64 → IsProper (Iri (named kind i))
named_is_iri kind i fits ascii small = record {
  raw = named kind i;
  terminal_is = refl;
  body = plain_body (named kind i) (named_fits kind i fits small);
  utf8 = IsUtf8-from_ascii (60 ∷ named kind i ++ 62 ∷ []) (named_ascii kind i ascii small);
  absolute = named_absolute kind i;
}

kinds_fit : (is_iri_char 110 ≡ true) × (is_iri_char 112 ≡ true)
unfolding is_iri_char
kinds_fit = (refl, refl)

names_small : (n k : ℕ) → n < 2 ^ 64 → k % names n < 2 ^ 64
names_small n k h = let below = mod_below k (names n) (omega arith) in omega (arith, below)

pub proper_triples : AreProperTriples
proper_triples n salt k h = record {
  subject = tt;
  predicate = tt;
  s = named_is_iri 110 (subject_at n salt k) kinds_fit.0 (omega arith) (names_small n (7 * k + salt) h);
  p = named_is_iri 112 (predicate_at k) kinds_fit.1 (omega arith) (let below = mod_below k 3 (omega arith) in omega (arith, below));
  o = named_is_iri 110 (object_at n salt k) kinds_fit.0 (omega arith) (names_small n ((k * k * k + salt * k + 5) / 8) h);
}
