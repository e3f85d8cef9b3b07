-- Words of a line, and what scopes, names and numbers are.
use Rattle.std.proofs.Common.{◌≡◌, ◌∙◌, ℕ, zero, suc, ◌+◌, ◌<◌, ◌≤◌, ◌^◌, Bool, true, false, cond, ◌&&◌, ◌==◌, List, [], ◌∷◌, ◌++◌, length, take, drop, get_or, refl, sym, ap, subst, arith, append-nil, nat_le}
use Rattle.std.specs.Prelude.{IsUtf8, Some, None}
use Rattle.std.specs.Char.{is_ascii_digit, digit_value}
use Rattle.std.specs.List.{list_all}
use Rattle.std.specs.Str.{is_utf8, IsAscii}
use Rattle.std.specs.Str.Parse.{AllDigits, IsNumeral, digits_value, without_leading_plus}
use Rattle.std.proofs.lemmas.Bool.Decides.{nat_tests}
use Rattle.std.proofs.lemmas.Fmt.{IsAscii-from_digits}
use Rattle.std.proofs.lemmas.List.{drop_all}
use Rattle.std.proofs.lemmas.Str.{IsUtf8-from_ascii, is_utf8-from_IsUtf8, IsUtf8-from_is_utf8}
use Rattle.std.proofs.Math.Seq.{drop-cons}
use Rattle.bstr.specs.Bytes.{is_in}
use Rattle.memchr.specs.Find.{Nowhere, NoneBefore, Passes}
use Rattle.ntriples_model.specs.Characters.{is_letter_or_digit}
use Rattle.script_model.specs.Commands.{has_up_to, is_scope, is_name, is_number, number_up_to, word_of, behind_word}
use Rattle.script_read.specs.Forms.{some_where}
use Rattle.script_read.proofs.BlankLemmas.{blanks, is_one}
use Rattle.text_lines.specs.Blanks.{is_blank, after_blanks}

-- Where the first word ends

abbrev NoBlank : List ℕ → ℕ → Type 0
NoBlank t k = (i : ℕ) → i < k → is_blank (get_or t i 0) ≡ false

word_to : (t : List ℕ) (k : ℕ) → k ≤ length t → NoBlank t k → word_of t ≡ take k t ++ word_of (drop k t)
word_to t zero le none = refl
word_to [] (suc k) le none = absurd (omega (arith, le))
word_to (b ∷ bs) (suc k) le none =
    ap (λ z. cond z [] (b ∷ word_of bs)) (none 0 (omega arith)) ∙ ap (λ z. b ∷ z) (word_to bs k (omega (arith, le)) (λ i h. none (suc i) (omega (arith, h))))

behind_to : (t : List ℕ) (k : ℕ) → k ≤ length t → NoBlank t k → behind_word t ≡ behind_word (drop k t)
behind_to t zero le none = refl
behind_to [] (suc k) le none = absurd (omega (arith, le))
behind_to (b ∷ bs) (suc k) le none =
    ap (λ z. cond z (after_blanks bs) (behind_word bs)) (none 0 (omega arith)) ∙ behind_to bs k (omega (arith, le)) (λ i h. none (suc i) (omega (arith, h)))

no_blank : (t : List ℕ) (k n : ℕ) → Nowhere (Passes (is_in blanks) t) 0 n → k ≤ n → NoBlank t k
no_blank t k n none le i h = is_one (get_or t i 0) ∙ by (is_in blanks (get_or t i 0)) (none i (omega arith) (omega (arith, le, h))) where
  by : (b : Bool) → (b ≡ true → ⊥) → b ≡ false
  by true never = absurd (never refl)
  by false never = refl

pub word_at : (t : List ℕ) (k : ℕ) → NoneBefore (Passes (is_in blanks) t) 0 (length t) k → Passes (is_in blanks) t k → word_of t ≡ take k t
word_at t k first is =
    word_to t k (omega (arith, first.high)) (no_blank t k k first.before (omega arith))
    ∙ ap (λ z. take k t ++ word_of z) (drop-cons t k 0 first.high)
    ∙ ap (λ z. take k t ++ cond z [] (get_or t k 0 ∷ word_of (drop (suc k) t))) (is_one (get_or t k 0) ∙ is)
    ∙ append-nil (take k t)

pub behind_at : (t : List ℕ) (k : ℕ) → NoneBefore (Passes (is_in blanks) t) 0 (length t) k → Passes (is_in blanks) t k → behind_word t ≡ after_blanks (drop k t)
behind_at t k first is =
    behind_to t k (omega (arith, first.high)) (no_blank t k k first.before (omega arith))
    ∙ ap behind_word cut
    ∙ ap (λ z. cond z (after_blanks (drop (suc k) t)) (behind_word (drop (suc k) t))) blank
    ∙ sym (ap (λ z. cond z (after_blanks (drop (suc k) t)) (get_or t k 0 ∷ drop (suc k) t)) blank)
    ∙ sym (ap after_blanks cut) where
      cut : drop k t ≡ get_or t k 0 ∷ drop (suc k) t
      cut = drop-cons t k 0 first.high

      blank : is_blank (get_or t k 0) ≡ true
      blank = is_one (get_or t k 0) ∙ is

pub word_alone : (t : List ℕ) → Nowhere (Passes (is_in blanks) t) 0 (length t) → word_of t ≡ take (length t) t
word_alone t none =
    word_to t (length t) (omega arith) (no_blank t (length t) (length t) none (omega arith))
    ∙ ap (λ z. take (length t) t ++ word_of z) (drop_all (length t) t (omega arith)) ∙ append-nil (take (length t) t)

pub behind_alone : (t : List ℕ) → Nowhere (Passes (is_in blanks) t) 0 (length t) → behind_word t ≡ after_blanks (drop (length t) t)
behind_alone t none =
    behind_to t (length t) (omega arith) (no_blank t (length t) (length t) none (omega arith))
    ∙ ap behind_word left ∙ sym (ap after_blanks left) where
      left : drop (length t) t ≡ []
      left = drop_all (length t) t (omega arith)

-- Bytes that are all of a class

pub all_more : (p : ℕ → Bool) (bs : List ℕ) (i : ℕ) → i < length bs → p (get_or bs i 0) ≡ true → list_all p (drop i bs) ≡ list_all p (drop (i + 1) bs)
all_more p bs i h e = ap (list_all p) (drop-cons bs i 0 h) ∙ ap (λ z. z && list_all p (drop (suc i) bs)) e ∙ ap (λ n. list_all p (drop n bs)) (let s : suc i ≡ i + 1 = omega arith in s)

pub all_not : (p : ℕ → Bool) (bs : List ℕ) (i : ℕ) → i < length bs → p (get_or bs i 0) ≡ false → list_all p (drop i bs) ≡ false
all_not p bs i h e = ap (list_all p) (drop-cons bs i 0 h) ∙ ap (λ z. z && list_all p (drop (suc i) bs)) e

pub all_end : (p : ℕ → Bool) (bs : List ℕ) (i : ℕ) → length bs ≤ i → list_all p (drop i bs) ≡ true
all_end p bs i h = ap (list_all p) (drop_all i bs h)

and_left : (a b : Bool) → (a && b) ≡ true → a ≡ true
and_left true b h = refl
and_left false b h = h

and_right : (a b : Bool) → (a && b) ≡ true → b ≡ true
and_right true b h = h
and_right false b h = absurd (let t : ⊥ = cc in t)

and_none : (a b : Bool) → b ≡ false → (a && b) ≡ false
and_none true b h = h
and_none false b h = refl

ascii_letter : (b : ℕ) → is_letter_or_digit b ≡ true → b < 128
unfolding is_letter_or_digit
ascii_letter b h = grind (arith, nat_tests)

ascii_letters : (bs : List ℕ) → list_all is_letter_or_digit bs ≡ true → IsAscii bs
ascii_letters [] h i = omega arith
ascii_letters (b ∷ bs) h zero = ascii_letter b (and_left (is_letter_or_digit b) (list_all is_letter_or_digit bs) h)
ascii_letters (b ∷ bs) h (suc i) = ascii_letters bs (and_right (is_letter_or_digit b) (list_all is_letter_or_digit bs) h) i

digit_below : (b : ℕ) → is_ascii_digit b ≡ true → digit_value b < 10
digit_below b h = grind (arith, nat_tests)

all_digits : (bs : List ℕ) → list_all is_ascii_digit bs ≡ true → AllDigits 10 bs
all_digits [] h = tt
all_digits (b ∷ bs) h = (digit_below b (and_left (is_ascii_digit b) (list_all is_ascii_digit bs) h), all_digits bs (and_right (is_ascii_digit b) (list_all is_ascii_digit bs) h))

-- Names

pub utf8_name : (bs : List ℕ) → 0 < length bs → IsUtf8 bs → is_name bs ≡ true
utf8_name [] some h = absurd (omega (arith, some))
utf8_name (b ∷ bs) some h = is_utf8-from_IsUtf8 (b ∷ bs) h

pub no_name : (bs : List ℕ) → (IsUtf8 bs → ⊥) → is_name bs ≡ false
no_name [] h = refl
no_name (b ∷ bs) h = by (is_utf8 (b ∷ bs)) (λ e. h (IsUtf8-from_is_utf8 (b ∷ bs) e)) where
  by : (z : Bool) → (z ≡ true → ⊥) → z ≡ false
  by true never = absurd (never refl)
  by false never = refl

-- Scopes

up_to : (most : ℕ) (bs : List ℕ) → 0 < length bs → length bs ≤ most → has_up_to most bs ≡ true
up_to most [] some short = absurd (omega (arith, some))
up_to most (b ∷ bs) some short = grind (arith, nat_tests)

not_up_to : (most : ℕ) (bs : List ℕ) → most < length bs → has_up_to most bs ≡ false
not_up_to most [] long = refl
not_up_to most (b ∷ bs) long = grind (arith, nat_tests)

pub long_scope : (bs : List ℕ) → 64 < length bs → is_scope bs ≡ false
long_scope bs long = ap (λ z. z && list_all is_letter_or_digit bs) (not_up_to 64 bs long)

pub other_scope : (bs : List ℕ) → list_all is_letter_or_digit bs ≡ false → is_scope bs ≡ false
other_scope bs e = and_none (has_up_to 64 bs) (list_all is_letter_or_digit bs) e

pub scope_is_name : (bs : List ℕ) → length bs ≤ 64 → list_all is_letter_or_digit bs ≡ true → is_scope bs ≡ is_name bs
scope_is_name [] short e = refl
scope_is_name (b ∷ bs) short e =
    ap (λ z. z && list_all is_letter_or_digit (b ∷ bs)) (up_to 64 (b ∷ bs) (omega arith) short) ∙ e
    ∙ sym (utf8_name (b ∷ bs) (omega arith) (IsUtf8-from_ascii (b ∷ bs) (ascii_letters (b ∷ bs) e)))

-- Numbers

none_up_to : (most : ℕ) (bs : List ℕ) → is_number bs ≡ false → number_up_to most bs ≡ None
none_up_to most bs e = ap (λ z. cond (z && nat_le (digits_value 10 bs) most) (Some (digits_value 10 bs)) None) e

pub long_number : (most : ℕ) (bs : List ℕ) → 20 < length bs → number_up_to most bs ≡ None
long_number most bs long = none_up_to most bs (ap (λ z. z && list_all is_ascii_digit bs) (not_up_to 20 bs long))

pub other_number : (most : ℕ) (bs : List ℕ) → list_all is_ascii_digit bs ≡ false → number_up_to most bs ≡ None
other_number most bs e = none_up_to most bs (and_none (has_up_to 20 bs) (list_all is_ascii_digit bs) e)

pub digits_name : (bs : List ℕ) → list_all is_ascii_digit bs ≡ true → is_name bs ≡ false → bs ≡ []
digits_name [] e none = refl
digits_name (b ∷ bs) e none = absurd (let t : true ≡ false = sym (utf8_name (b ∷ bs) (omega arith) (IsUtf8-from_ascii (b ∷ bs) (IsAscii-from_digits (b ∷ bs) (all_digits (b ∷ bs) e)))) ∙ none in let z : ⊥ = cc in z)

pub empty_number : (most : ℕ) (bs : List ℕ) → bs ≡ [] → number_up_to most bs ≡ None
empty_number most bs e = ap (number_up_to most) e

is_digits : (bs : List ℕ) → 0 < length bs → length bs ≤ 20 → list_all is_ascii_digit bs ≡ true → is_number bs ≡ true
is_digits bs some short e = ap (λ z. z && list_all is_ascii_digit bs) (up_to 20 bs some short) ∙ e

pub large_number : (most : ℕ) (bs : List ℕ) → most < digits_value 10 bs → number_up_to most bs ≡ None
large_number most bs large = ap (λ z. cond z (Some (digits_value 10 bs)) None) (and_none (is_number bs) (nat_le (digits_value 10 bs) most) (grind (arith, nat_tests)))

pub small_number : (most : ℕ) (bs : List ℕ) → 0 < length bs → length bs ≤ 20 → list_all is_ascii_digit bs ≡ true → digits_value 10 bs ≤ most → number_up_to most bs ≡ Some (digits_value 10 bs)
small_number most bs some short e small =
    ap (λ z. cond (z && nat_le (digits_value 10 bs) most) (Some (digits_value 10 bs)) None) (is_digits bs some short e)
    ∙ ap (λ z. cond z (Some (digits_value 10 bs)) None) (let t : nat_le (digits_value 10 bs) most ≡ true = grind (arith, nat_tests) in t)

no_plus_byte : (b : ℕ) → is_ascii_digit b ≡ true → (b == 43) ≡ false
no_plus_byte b h = grind (arith, nat_tests)

-- digits have no plus before them
pub no_plus : (bs : List ℕ) → list_all is_ascii_digit bs ≡ true → without_leading_plus bs ≡ bs
no_plus [] e = refl
no_plus (b ∷ bs) e = ap (λ z. drop (cond z 1 0) (b ∷ bs)) (no_plus_byte b (and_left (is_ascii_digit b) (list_all is_ascii_digit bs) e))

-- What a name that was found says of its bytes

pub named : (z : Bool) (bs name : List ℕ) → Some name ≡ some_where z bs → (z ≡ true) × (name ≡ bs)
named true bs name e = (refl, let t : name ≡ bs = cc in t)
named false bs name e = absurd (let t : ⊥ = cc in t)

pub unnamed : (z : Bool) (bs : List ℕ) → None ≡ some_where z bs → z ≡ false
unnamed true bs e = absurd (let t : ⊥ = cc in t)
unnamed false bs e = refl

some_name : (bs : List ℕ) → is_name bs ≡ true → 0 < length bs
some_name [] e = absurd (let t : ⊥ = cc in t)
some_name (b ∷ bs) e = omega arith

pub no_digits : (most : ℕ) (bs : List ℕ) → list_all is_ascii_digit bs ≡ true → None ≡ some_where (is_name bs) bs → number_up_to most bs ≡ None
no_digits most bs e none = empty_number most bs (digits_name bs e (unnamed (is_name bs) bs none))

-- digits that aren't parsed are more than a u64 has
pub not_parsed : (most : ℕ) (bs digits : List ℕ) → most < 2 ^ 64 → list_all is_ascii_digit bs ≡ true → Some digits ≡ some_where (is_name bs) bs
    → ¬ (IsNumeral 10 (without_leading_plus digits) × (digits_value 10 (without_leading_plus digits) < 2 ^ 64)) → number_up_to most bs ≡ None
not_parsed most bs digits fits e is none = large_number most bs large where
  same : without_leading_plus digits ≡ bs
  same = ap without_leading_plus (named (is_name bs) bs digits is).1 ∙ no_plus bs e

  numeral : IsNumeral 10 bs
  numeral = (some_name bs (named (is_name bs) bs digits is).0, all_digits bs e)

  refused : digits_value 10 bs < 2 ^ 64 → ⊥
  refused small = none (subst (λ z. IsNumeral 10 z × (digits_value 10 z < 2 ^ 64)) (sym same) (numeral, small))

  large : most < digits_value 10 bs
  large = by (nat_le (2 ^ 64) (digits_value 10 bs)) refl where
    by : (z : Bool) → nat_le (2 ^ 64) (digits_value 10 bs) ≡ z → most < digits_value 10 bs
    by true t = let low : 2 ^ 64 ≤ digits_value 10 bs = grind (arith, nat_tests) in omega (arith, low, fits)
    by false t = absurd (refused (grind (arith, nat_tests)))

-- and the number of those that are parsed
pub parsed : (bs digits : List ℕ) (number : ℕ) → list_all is_ascii_digit bs ≡ true → Some digits ≡ some_where (is_name bs) bs
    → number ≡ digits_value 10 (without_leading_plus digits) → number ≡ digits_value 10 bs
parsed bs digits number e is v = v ∙ ap (digits_value 10) (ap without_leading_plus (named (is_name bs) bs digits is).1 ∙ no_plus bs e)

pub number_some : (bs digits : List ℕ) → Some digits ≡ some_where (is_name bs) bs → 0 < length bs
number_some bs digits is = some_name bs (named (is_name bs) bs digits is).0
