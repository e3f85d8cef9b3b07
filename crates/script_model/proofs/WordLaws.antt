-- Words of a line and the blanks between them.
use Rattle.std.proofs.Common.{◌≡◌, ◌∙◌, ◌⊎◌, inl, inr, ℕ, ◌<◌, ◌≤◌, Bool, true, false, cond, ◌&&◌, ◌||◌, ◌==◌, List, [], ◌∷◌, ◌++◌, length, refl, sym, ap, arith, nat_le}
use Rattle.std.specs.Prelude.{Some, None}
use Rattle.std.specs.Char.{is_ascii_digit}
use Rattle.std.specs.List.{list_all, AllByRecursion}
use Rattle.std.specs.Str.Parse.{digits_value}
use Rattle.std.proofs.lemmas.Bool.Decides.{nat_tests}
use Rattle.std.proofs.lemmas.Str.{IsUtf8-from_is_utf8, is_utf8-from_IsUtf8}
use Rattle.text_lines.specs.Blanks.{is_blank, after_blanks}
use Rattle.ntriples_model.specs.Characters.{is_letter_or_digit}
use Rattle.script_model.specs.Commands.{has_up_to, is_scope, is_name, is_number, number_up_to, longest_scope, most_digits, word_of, behind_word}
use Rattle.script_model.specs.Laws.{AreBlanks, IsScopeWord, IsName, IsNumberUpTo}

-- Tests

pub and_left : (a b : Bool) → (a && b) ≡ true → a ≡ true
and_left true b h = refl
and_left false b h = h

pub and_right : (a b : Bool) → (a && b) ≡ true → b ≡ true
and_right true b h = h
and_right false b h = absurd (let t : ⊥ = cc in t)

all_true : (p : ℕ → Bool) (xs : List ℕ) → list_all p xs ≡ true → AllByRecursion (λ x. p x ≡ true) xs
all_true p [] h = tt
all_true p (x ∷ xs) h = (and_left (p x) (list_all p xs) h, all_true p xs (and_right (p x) (list_all p xs) h))

true_all : (p : ℕ → Bool) (xs : List ℕ) → AllByRecursion (λ x. p x ≡ true) xs → list_all p xs ≡ true
true_all p [] h = refl
true_all p (x ∷ xs) h = rw (h.0, true_all p xs h.1) refl

up_to : (most : ℕ) (w : List ℕ) → has_up_to most w ≡ true → (0 < length w) × (length w ≤ most)
up_to most [] h = absurd (let t : ⊥ = cc in t)
up_to most (b ∷ bs) h = (grind arith, grind (arith, nat_tests))

has : (most : ℕ) (w : List ℕ) → 0 < length w → length w ≤ most → has_up_to most w ≡ true
has most [] some short = absurd (omega (arith, some))
has most (b ∷ bs) some short = grind (arith, nat_tests)

-- Blanks

abbrev pub Blanks : List ℕ → Type 0
Blanks = AllByRecursion (λ b. is_blank b ≡ true)

after-blanks : (gap rest : List ℕ) → Blanks gap → after_blanks (gap ++ rest) ≡ after_blanks rest
after-blanks [] rest are = refl
after-blanks (b ∷ gap) rest are = ap (λ z. cond z (after_blanks (gap ++ rest)) (b ∷ (gap ++ rest))) are.0 ∙ after-blanks gap rest are.1

-- the bytes are blanks, and what is left without them
record Led (bs : List ℕ) : Type 0 where
  gap : List ℕ
  is : bs ≡ gap ++ after_blanks bs
  are : Blanks gap
  begins : after_blanks (after_blanks bs) ≡ after_blanks bs

led : (bs : List ℕ) → Led bs
led [] = record { gap = []; is = refl; are = tt; begins = refl }
led (b ∷ bs) = by (led bs) (is_blank b) refl where
  by : Led bs → (z : Bool) → is_blank b ≡ z → Led (b ∷ bs)
  by l true e =
      let after : after_blanks (b ∷ bs) ≡ after_blanks bs = ap (λ z. cond z (after_blanks bs) (b ∷ bs)) e in
      record {
        gap = b ∷ l.gap;
        is = ap (λ z. b ∷ z) l.is ∙ ap (λ z. b ∷ (l.gap ++ z)) (sym after);
        are = (e, l.are);
        begins = ap after_blanks after ∙ l.begins ∙ sym after;
      }
  by l false e =
      let after : after_blanks (b ∷ bs) ≡ b ∷ bs = ap (λ z. cond z (after_blanks bs) (b ∷ bs)) e in
      record { gap = []; is = sym after; are = tt; begins = ap after_blanks after }

-- a text as its first word, the blanks behind it, and the rest
pub record Parted (t : List ℕ) : Type 0 where
  pub gap : List ℕ
  pub is : t ≡ word_of t ++ (gap ++ behind_word t)
  pub are : Blanks gap
  pub none : gap ≡ [] → behind_word t ≡ []
  pub begins : after_blanks (behind_word t) ≡ behind_word t

pub parted : (t : List ℕ) → Parted t
parted [] = record { gap = []; is = refl; are = tt; none = λ e. refl; begins = refl }
parted (b ∷ bs) = by (parted bs) (is_blank b) refl where
  by : Parted bs → (z : Bool) → is_blank b ≡ z → Parted (b ∷ bs)
  by p true e =
      let l = led bs in
      let word : word_of (b ∷ bs) ≡ [] = ap (λ z. cond z [] (b ∷ word_of bs)) e in
      let behind : behind_word (b ∷ bs) ≡ after_blanks bs = ap (λ z. cond z (after_blanks bs) (behind_word bs)) e in
      record {
        gap = b ∷ l.gap;
        is = ap (λ z. b ∷ z) l.is ∙ ap (λ z. b ∷ (l.gap ++ z)) (sym behind) ∙ ap (λ z. z ++ (b ∷ (l.gap ++ behind_word (b ∷ bs)))) (sym word);
        are = (e, l.are);
        none = λ n. absurd (let t : ⊥ = cc in t);
        begins = ap after_blanks behind ∙ l.begins ∙ sym behind;
      }
  by p false e =
      let word : word_of (b ∷ bs) ≡ b ∷ word_of bs = ap (λ z. cond z [] (b ∷ word_of bs)) e in
      let behind : behind_word (b ∷ bs) ≡ behind_word bs = ap (λ z. cond z (after_blanks bs) (behind_word bs)) e in
      record {
        gap = p.gap;
        is = ap (λ z. b ∷ z) p.is ∙ ap (λ z. b ∷ (word_of bs ++ (p.gap ++ z))) (sym behind) ∙ ap (λ z. z ++ (p.gap ++ behind_word (b ∷ bs))) (sym word);
        are = p.are;
        none = λ n. behind ∙ p.none n;
        begins = ap after_blanks behind ∙ p.begins ∙ sym behind;
      }

-- the gap behind the first word isn't empty where something stands behind it
pub gap_of : (t : List ℕ) (p : Parted t) → 0 < length (behind_word t) → AreBlanks p.gap
gap_of t p some = record { some = by p.gap p.none; blanks = p.are } where
  by : (gap : List ℕ) → (gap ≡ [] → behind_word t ≡ []) → 0 < length gap
  by [] none = absurd (let e : length (behind_word t) ≡ 0 = ap length (none refl) in omega (arith, e, some))
  by (b ∷ gap) none = grind arith

-- Words

-- no byte of a word is a blank
abbrev pub NoBlanks : List ℕ → Type 0
NoBlanks = AllByRecursion (λ b. is_blank b ≡ false)

pub word-parted : (w gap rest : List ℕ) → NoBlanks w → AreBlanks gap → word_of (w ++ (gap ++ rest)) ≡ w
word-parted [] [] rest none are = absurd (let some = are.some in omega (arith, some))
word-parted [] (g ∷ gap) rest none are = ap (λ z. cond z [] (g ∷ word_of (gap ++ rest))) are.blanks.0
word-parted (b ∷ w) gap rest none are = ap (λ z. cond z [] (b ∷ word_of (w ++ (gap ++ rest)))) none.0 ∙ ap (λ z. b ∷ z) (word-parted w gap rest none.1 are)

pub behind-parted : (w gap rest : List ℕ) → NoBlanks w → AreBlanks gap → after_blanks rest ≡ rest → behind_word (w ++ (gap ++ rest)) ≡ rest
behind-parted [] [] rest none are begins = absurd (let some = are.some in omega (arith, some))
behind-parted [] (g ∷ gap) rest none are begins =
    ap (λ z. cond z (after_blanks (gap ++ rest)) (behind_word (gap ++ rest))) are.blanks.0 ∙ after-blanks gap rest are.blanks.1 ∙ begins
behind-parted (b ∷ w) gap rest none are begins =
    ap (λ z. cond z (after_blanks (w ++ (gap ++ rest))) (behind_word (w ++ (gap ++ rest)))) none.0 ∙ behind-parted w gap rest none.1 are begins

-- a text that begins with a word begins with no blank
pub begins-word : (w rest : List ℕ) → 0 < length w → NoBlanks w → after_blanks (w ++ rest) ≡ w ++ rest
begins-word [] rest some none = absurd (omega (arith, some))
begins-word (b ∷ w) rest some none = ap (λ z. cond z (after_blanks (w ++ rest)) (b ∷ (w ++ rest))) none.0

blank_is : (b : ℕ) → is_blank b ≡ true → (b ≡ 32) ⊎ (b ≡ 9)
blank_is b e = by (b == 32) refl where
  by : (z : Bool) → (b == 32) ≡ z → (b ≡ 32) ⊎ (b ≡ 9)
  by true h = inl (grind (arith, nat_tests))
  by false h = let tab : (b == 9) ≡ true = sym (ap (λ z. z || b == 9) h) ∙ e in inr (grind (arith, nat_tests))

-- bytes of which no blank is one are none
no_blank : (p : ℕ → Bool) → p 32 ≡ false → p 9 ≡ false → (b : ℕ) → p b ≡ true → is_blank b ≡ false
no_blank p space tab b e = by (is_blank b) refl where
  by : (z : Bool) → is_blank b ≡ z → is_blank b ≡ false
  by false h = h
  by true h = of (blank_is b h) where
    of : (b ≡ 32) ⊎ (b ≡ 9) → is_blank b ≡ false
    of (inl is) = absurd (let f : true ≡ false = sym e ∙ ap p is ∙ space in let t : ⊥ = cc in t)
    of (inr is) = absurd (let f : true ≡ false = sym e ∙ ap p is ∙ tab in let t : ⊥ = cc in t)

no_blanks : (p : ℕ → Bool) → p 32 ≡ false → p 9 ≡ false → (w : List ℕ) → AllByRecursion (λ b. p b ≡ true) w → NoBlanks w
no_blanks p space tab [] all = tt
no_blanks p space tab (b ∷ w) all = (no_blank p space tab b all.0, no_blanks p space tab w all.1)

-- Scopes, names and numbers

pub scope_made : (w : List ℕ) → is_scope w ≡ true → IsScopeWord w
scope_made w e =
    let n = up_to longest_scope w (and_left (has_up_to longest_scope w) (list_all is_letter_or_digit w) e) in
    record { some = n.0; short = n.1; letters = all_true is_letter_or_digit w (and_right (has_up_to longest_scope w) (list_all is_letter_or_digit w) e) }

pub scope_given : (w : List ℕ) → IsScopeWord w → is_scope w ≡ true
scope_given w h = rw (has longest_scope w h.some h.short, true_all is_letter_or_digit w h.letters) refl

no_space : (is_letter_or_digit 32 ≡ false) × (is_letter_or_digit 9 ≡ false)
unfolding is_letter_or_digit
no_space = (refl, refl)

pub scope-no_blanks : (w : List ℕ) → IsScopeWord w → NoBlanks w
scope-no_blanks w h = no_blanks is_letter_or_digit no_space.0 no_space.1 w h.letters

pub name_made : (n : List ℕ) → is_name n ≡ true → after_blanks n ≡ n → IsName n
name_made [] e begins = absurd (let t : ⊥ = cc in t)
name_made (b ∷ bs) e begins = record { some = grind arith; utf8 = IsUtf8-from_is_utf8 (b ∷ bs) e; begins = begins }

pub name_given : (n : List ℕ) → IsName n → is_name n ≡ true
name_given [] h = absurd (let some = h.some in omega (arith, some))
name_given (b ∷ bs) h = is_utf8-from_IsUtf8 (b ∷ bs) h.utf8

pub number_given : (most : ℕ) (w : List ℕ) (n : ℕ) → IsNumberUpTo most w n → number_up_to most w ≡ Some n
number_given most w n h =
    let value : digits_value 10 w ≡ n = h.value in
    let within : n ≤ most = h.within in
    let le : nat_le (digits_value 10 w) most ≡ true = grind (arith, nat_tests) in
    let is : (is_number w && nat_le (digits_value 10 w) most) ≡ true = rw (has most_digits w h.some h.short, true_all is_ascii_digit w h.digits, le) refl in
    ap (λ z. cond z (Some (digits_value 10 w)) None) is ∙ ap Some h.value

pub number_made : (most : ℕ) (w : List ℕ) (n : ℕ) → number_up_to most w ≡ Some n → IsNumberUpTo most w n
number_made most w n e = by (is_number w && nat_le (digits_value 10 w) most) refl e where
  by : (z : Bool) → (is_number w && nat_le (digits_value 10 w) most) ≡ z → cond z (Some (digits_value 10 w)) None ≡ Some n → IsNumberUpTo most w n
  by false h f = absurd (let t : ⊥ = cc in t)
  by true h f =
      let number : is_number w ≡ true = and_left (is_number w) (nat_le (digits_value 10 w) most) h in
      let le : nat_le (digits_value 10 w) most ≡ true = and_right (is_number w) (nat_le (digits_value 10 w) most) h in
      let value : digits_value 10 w ≡ n = cc in
      let l = up_to most_digits w (and_left (has_up_to most_digits w) (list_all is_ascii_digit w) number) in
      record {
        some = l.0;
        short = l.1;
        digits = all_true is_ascii_digit w (and_right (has_up_to most_digits w) (list_all is_ascii_digit w) number);
        value = value;
        within = grind (arith, nat_tests);
      }

pub number-no_blanks : (most : ℕ) (w : List ℕ) (n : ℕ) → IsNumberUpTo most w n → NoBlanks w
number-no_blanks most w n h = no_blanks is_ascii_digit refl refl w h.digits
