-- Where a sign stands among tokens, and what a form of signs says of tokens.
use Rattle.std.proofs.Common.{◌≡◌, ◌∙◌, ◌+◌, ℕ, Bool, true, false, cond, not, ◌||◌, List, [], ◌∷◌, ◌++◌, length, map, refl, sym, ap, subst, append_assoc, arith, Some, None}
use Rattle.std.specs.Prelude.{◌==◌}
use Rattle.std.specs.List.{AllByRecursion}
use Rattle.std.proofs.lemmas.Bool.Decides.{nat_tests}
use Rattle.std.proofs.lemmas.List.{get_or-append-add}
use Rattle.ntriples_model.specs.Characters.{in_ranges}
use Rattle.query_tokens.specs.Forms.{Form, ◌▸◌, many, HasForm, IsRepeated, none, next}
use Rattle.query_grammar.specs.Lexemes.{Lexeme}
use Rattle.query_grammar.specs.Meaning.{no_lexeme, at, is_sign, place_of, has_sign, number_behind, value_of}
use Rattle.query_grammar.specs.Outline.{sign}
use Rattle.query_grammar.specs.Signs.{Sign, Prefix, Select, Distinct, Reduced, Where, Limit, Offset, True, False, TypeOf, OtherWord, Iri, PnameNs, PnameLn, Label, Variable, LangTag, Integer, Number, Text, OpenBrace, CloseBrace, Open, Close, Stop, Comma, Semicolon, Star, Carets, number_of, sign_of}
use Rattle.query_forms.specs.Laws.{Lacks}

-- Tests

pub clash : true ≡ false → ⊥
clash e = let f : ⊥ = cc in f

pub neither : (a b : Bool) → (a || b) ≡ false → (a ≡ false) × (b ≡ false)
neither true b e = absurd (clash e)
neither false b e = (refl, e)

pub same_number : (m n : ℕ) → (m == n) ≡ true → m ≡ n
same_number m n e = grind (arith, nat_tests)

-- Signs and their numbers

sign_at : ℕ → Sign
sign_at n =
    cond (n == 0) Prefix (cond (n == 1) Select (cond (n == 2) Distinct (cond (n == 3) Reduced (cond (n == 4) Where
    (cond (n == 5) Limit (cond (n == 6) Offset (cond (n == 7) True (cond (n == 8) False (cond (n == 9) TypeOf
    (cond (n == 10) OtherWord (cond (n == 11) Iri (cond (n == 12) PnameNs (cond (n == 13) PnameLn (cond (n == 14) Label
    (cond (n == 15) Variable (cond (n == 16) LangTag (cond (n == 17) Integer (cond (n == 18) Number (cond (n == 19) Text
    (cond (n == 20) OpenBrace (cond (n == 21) CloseBrace (cond (n == 22) Open (cond (n == 23) Close (cond (n == 24) Stop
    (cond (n == 25) Comma (cond (n == 26) Semicolon (cond (n == 27) Star Carets)))))))))))))))))))))))))))

numbered : (s : Sign) → sign_at (number_of s) ≡ s
unfolding sign_at
numbered Prefix = refl
numbered _ = refl

same_sign : (s t : Sign) → number_of s ≡ number_of t → s ≡ t
same_sign s t e = sym (numbered s) ∙ ap sign_at e ∙ numbered t

number_itself : (n : ℕ) → (n == n) ≡ true
number_itself n = grind (arith, nat_tests)

pub is_it : (s t : Sign) → t ≡ s → is_sign s t ≡ true
is_it s t e = ap (λ (u : Sign). is_sign s u) e ∙ number_itself (number_of s)

is_not : (s t : Sign) → (t ≡ s → ⊥) → is_sign s t ≡ false
is_not s t differs = by (is_sign s t) refl where
  by : (b : Bool) → is_sign s t ≡ b → is_sign s t ≡ false
  by true e = absurd (differs (sym (same_sign s t (same_number (number_of s) (number_of t) e))))
  by false e = e

-- The first place of a sign

pub lacks_both : (s : Sign) (ls ks : List Lexeme) → Lacks s ls → Lacks s ks → Lacks s (ls ++ ks)
lacks_both s [] ks h g = g
lacks_both s (l ∷ ls) ks h g = (h.0, lacks_both s ls ks h.1 g)

pub has_none : (s : Sign) (ls : List Lexeme) → Lacks s ls → has_sign s ls ≡ false
has_none s [] h = refl
has_none s (l ∷ ls) h = (λ i. is_not s (sign_of l) h.0 i || has_none s ls h.1 i)

pub has_past : (s : Sign) (ls ks : List Lexeme) → Lacks s ls → has_sign s (ls ++ ks) ≡ has_sign s ks
has_past s [] ks h = refl
has_past s (l ∷ ls) ks h = ap (λ b. b || has_sign s (ls ++ ks)) (is_not s (sign_of l) h.0) ∙ has_past s ls ks h.1

pub has_before : (s : Sign) (ls ks : List Lexeme) → Lacks s ks → has_sign s (ls ++ ks) ≡ has_sign s ls
has_before s [] ks h = has_none s ks h
has_before s (l ∷ ls) ks h = ap (λ b. is_sign s (sign_of l) || b) (has_before s ls ks h)

pub has_here : (s : Sign) (l : Lexeme) (ks : List Lexeme) → sign_of l ≡ s → has_sign s (l ∷ ks) ≡ true
has_here s l ks e = ap (λ b. b || has_sign s ks) (is_it s (sign_of l) e)

pub place_past : (s : Sign) (ls ks : List Lexeme) → Lacks s ls → place_of s (ls ++ ks) ≡ length ls + place_of s ks
place_past s [] ks h = omega arith
place_past s (l ∷ ls) ks h =
    let more : place_of s (ls ++ ks) ≡ length ls + place_of s ks = place_past s ls ks h.1 in
    let size : length (l ∷ ls) ≡ 1 + length ls = omega arith in
    ap (λ b. cond (not b) (1 + place_of s (ls ++ ks)) 0) (is_not s (sign_of l) h.0) ∙ omega (arith, more, size)

pub place_here : (s : Sign) (l : Lexeme) (ks : List Lexeme) → sign_of l ≡ s → place_of s (l ∷ ks) ≡ 0
place_here s l ks e = ap (λ b. cond (not b) (1 + place_of s ks) 0) (is_it s (sign_of l) e)

pub at_past : (ls ks : List Lexeme) (i : ℕ) → at (ls ++ ks) (length ls + i) ≡ at ks i
at_past ls ks i = get_or-append-add ls ks i no_lexeme

-- The number behind a sign

pub number_past : (s : Sign) (ls ks : List Lexeme) → Lacks s ls → number_behind s (ls ++ ks) ≡ number_behind s ks
number_past s ls ks h =
    let place : place_of s (ls ++ ks) + 1 ≡ length ls + (place_of s ks + 1) = omega (arith, place_past s ls ks h) in
    let found : at (ls ++ ks) (place_of s (ls ++ ks) + 1) ≡ at ks (place_of s ks + 1) = ap (at (ls ++ ks)) place ∙ at_past ls ks (place_of s ks + 1) in
    ap (λ b. cond b (Some (value_of (at (ls ++ ks) (place_of s (ls ++ ks) + 1)).text)) None) (has_past s ls ks h)
    ∙ ap (λ (l : Lexeme). cond (has_sign s ks) (Some (value_of l.text)) None) found

pub number_none : (s : Sign) (ls : List Lexeme) → Lacks s ls → number_behind s ls ≡ None
number_none s ls h = ap (λ b. cond b (Some (value_of (at ls (place_of s ls + 1)).text)) None) (has_none s ls h)

pub number_here : (s : Sign) (l number : Lexeme) (ks : List Lexeme) → sign_of l ≡ s → number_behind s (l ∷ number ∷ ks) ≡ Some (value_of number.text)
number_here s l number ks e =
    ap (λ b. cond b (Some (value_of (at (l ∷ number ∷ ks) (place_of s (l ∷ number ∷ ks) + 1)).text)) None) (has_here s l (number ∷ ks) e)
    ∙ ap (λ n. Some (value_of (at (l ∷ number ∷ ks) (n + 1)).text)) (place_here s l (number ∷ ks) e)

-- Forms of signs, as what they say of tokens

abbrev pub numbers : List Lexeme → List ℕ
numbers ls = map number_of (map sign_of ls)

numbers_both : (ls ks : List Lexeme) → numbers (ls ++ ks) ≡ numbers ls ++ numbers ks
numbers_both [] ks = refl
numbers_both (l ∷ ls) ks = ap (λ ns. number_of (sign_of l) ∷ ns) (numbers_both ls ks)

pub no_numbers : (ls : List Lexeme) → numbers ls ≡ [] → ls ≡ []
no_numbers [] e = refl
no_numbers (l ∷ ls) e = absurd (let f : ⊥ = cc in f)

abbrev pub Fits : Form → List Lexeme → Type 0
Fits f ls = HasForm f (numbers ls)

record Cut (ls : List Lexeme) (front back : List ℕ) : Type 0 where
  first : List Lexeme
  second : List Lexeme
  are : ls ≡ first ++ second
  is_front : numbers first ≡ front
  is_back : numbers second ≡ back

cut : (ls : List Lexeme) (front back : List ℕ) → numbers ls ≡ front ++ back → Cut ls front back
cut ls [] back e = record { first = []; second = ls; are = refl; is_front = refl; is_back = e }
cut [] (n ∷ front) back e = absurd (let f : ⊥ = cc in f)
cut (l ∷ ls) (n ∷ front) back e =
    let head : number_of (sign_of l) ≡ n = cc in
    let rest : numbers ls ≡ front ++ back = cc in
    let c = cut ls front back rest in
    record { first = l ∷ c.first; second = c.second; are = ap (λ ks. l ∷ ks) c.are; is_front = (λ i. head i ∷ c.is_front i); is_back = c.is_back }

pub record Joined (f g : Form) (ls : List Lexeme) : Type 0 where
  pub first : List Lexeme
  pub second : List Lexeme
  pub are : ls ≡ first ++ second
  pub fits_first : Fits f first
  pub fits_second : Fits g second

pub parted : (f g : Form) (ls : List Lexeme) → Fits (f ▸ g) ls → Joined f g ls
parted f g ls (front, back, e, hf, hg) =
    let c = cut ls front back e in
    record {
      first = c.first;
      second = c.second;
      are = c.are;
      fits_first = subst (HasForm f) (sym c.is_front) hf;
      fits_second = subst (HasForm g) (sym c.is_back) hg;
    }

pub together : (f g : Form) (ls ks : List Lexeme) → Fits f ls → Fits g ks → Fits (f ▸ g) (ls ++ ks)
together f g ls ks hf hg = (numbers ls, numbers ks, numbers_both ls ks, hf, hg)

-- (A B) C and A B C
pub regrouped : (f g h : Form) (ls ks : List Lexeme) → Fits (f ▸ g) ls → Fits h ks → Fits (f ▸ g ▸ h) (ls ++ ks)
regrouped f g h ls ks hfg hh =
    let p = parted f g ls hfg in
    subst (Fits (f ▸ g ▸ h)) (sym (append_assoc p.first p.second ks) ∙ ap (λ os. os ++ ks) (sym p.are))
    (together f (g ▸ h) p.first (p.second ++ ks) p.fits_first (together g h p.second ks p.fits_second hh))

pub grouped : (f g h : Form) (ls : List Lexeme) → Fits (f ▸ g ▸ h) ls → Joined (f ▸ g) h ls
grouped f g h ls has =
    let p = parted f (g ▸ h) ls has in
    let q = parted g h p.second p.fits_second in
    record {
      first = p.first ++ q.first;
      second = q.second;
      are = p.are ∙ ap (λ os. p.first ++ os) q.are ∙ sym (append_assoc p.first q.first q.second);
      fits_first = together f g p.first q.first p.fits_first q.fits_first;
      fits_second = q.fits_second;
    }

within : (n c : ℕ) → in_ranges ((n, n) ∷ []) c ≡ true → c ≡ n
within n c e = grind (arith, nat_tests)

within_itself : (n : ℕ) → in_ranges ((n, n) ∷ []) n ≡ true
within_itself n = grind (arith, nat_tests)

pub record IsOne (s : Sign) (ls : List Lexeme) : Type 0 where
  pub token : Lexeme
  pub are : ls ≡ token ∷ []
  pub is : sign_of token ≡ s

pub one_token : (s : Sign) (ls : List Lexeme) → Fits (sign s) ls → IsOne s ls
one_token s [] (c, e, r) = absurd (let f : ⊥ = cc in f)
one_token s (l ∷ []) (c, e, r) =
    let same : number_of (sign_of l) ≡ c = cc in
    record { token = l; are = refl; is = same_sign (sign_of l) s (same ∙ within (number_of s) c r) }
one_token s (l ∷ k ∷ ls) (c, e, r) = absurd (let f : ⊥ = cc in f)

pub fits_one : (s : Sign) (l : Lexeme) → sign_of l ≡ s → Fits (sign s) (l ∷ [])
fits_one s l e = (number_of (sign_of l), refl, ap (λ (t : Sign). in_ranges ((number_of s, number_of s) ∷ []) (number_of t)) e ∙ within_itself (number_of s))

-- tokens of a form, one after the other
pub data Each (f : Form) : List Lexeme → Type 0 where
  no_more : Each f []
  one_more : (ls ks : List Lexeme) → Fits f ls → Each f ks → Each f (ls ++ ks)

of_repeated : (f : Form) (ns : List ℕ) (ls : List Lexeme) → IsRepeated (HasForm f) ns → numbers ls ≡ ns → Each f ls
of_repeated f _ ls none e = subst (Each f) (sym (no_numbers ls e)) no_more
of_repeated f _ ls (next first rest h more) e =
    let c = cut ls first rest e in
    subst (Each f) (sym c.are) (one_more c.first c.second (subst (HasForm f) (sym c.is_front) h) (of_repeated f rest c.second more c.is_back))

pub each_of : (f : Form) (ls : List Lexeme) → Fits (many f) ls → Each f ls
each_of f ls h = of_repeated f (numbers ls) ls h refl

pub of_each : (f : Form) (ls : List Lexeme) → Each f ls → Fits (many f) ls
of_each f _ no_more = none
of_each f _ (one_more ls ks h more) = subst (IsRepeated (HasForm f)) (sym (numbers_both ls ks)) (next (numbers ls) (numbers ks) h (of_each f ks more))

-- Signs that may stand among tokens

abbrev pub Only : (Sign → Bool) → List Lexeme → Type 0
Only allowed ls = AllByRecursion (λ l. allowed (sign_of l) ≡ true) ls

pub lacks_other : (allowed : Sign → Bool) (s : Sign) (ls : List Lexeme) → Only allowed ls → allowed s ≡ false → Lacks s ls
lacks_other allowed s [] h e = tt
lacks_other allowed s (l ∷ ls) h e = ((λ same. clash (sym h.0 ∙ (ap allowed same ∙ e))), lacks_other allowed s ls h.1 e)
