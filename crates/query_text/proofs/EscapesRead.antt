-- Escapes, read character by character.
use Rattle.std.proofs.Common.{◌≡◌, ◌∙◌, ◌≢◌, ℕ, zero, suc, ◌+◌, ◌*◌, ◌<◌, ◌≤◌, ◌^◌, Bool, true, false, cond, List, [], ◌∷◌, ◌++◌, length, take, drop, get_or, refl, sym, add-one, ap, append_assoc, arith, Option, Some, None, chars, IsUtf8}
use Rattle.std.specs.Prelude.{encode_utf8, encode_utf8_all, ◌==◌, ◌&&◌}
use Rattle.std.specs.List.{list_all}
use Rattle.std.specs.Option.{option_map}
use Rattle.std.specs.Char.{digit_value, IsScalar}
use Rattle.std.specs.Option.{SomeIff}
use Rattle.std.proofs.Math.Utf8.{scalar}
use Rattle.std.proofs.lemmas.List.{length-take, length-drop, take_all, drop-drop}
use Rattle.std.proofs.lemmas.Bool.Decides.{nat_tests}
use Rattle.ntriples_model.specs.Characters.{is_hex}
use Rattle.ntriples_model.specs.Terminals.{hex_at, hex_number, character, uchar_at, echar, letter_or, string_escape_at}
use Rattle.ntriples_model.specs.Characters.{is_iri_char}
use Rattle.ntriples_model.specs.Terminals.{is_absolute}
use Rattle.query_grammar.specs.Texts.{unescaped, unescaped_behind, escape_then, with_character, trimmed, iri_text, proper_iri, string_text, within_quotes}
use Rattle.query_text.specs.Seen.{meaning, longer}
use Rattle.std.specs.Borrow.{Bor}
use Rattle.query_text.specs.Reads.{IsEscapeRead, IsMeant, ReadsEscape, ReadsMeant, digit_count}
use Rattle.rdf_term.proofs.Hex.{number_more, all_more, small_more, some_is_none}

-- so many digits were read
pub record IsHexSoFar (text rest : List ℕ) (i number : ℕ) : Type 0 where
  pub rest_is : chars rest ≡ drop i (chars text)
  pub within : i ≤ length (chars text)
  pub so_far : number ≡ hex_number (take i (chars text))
  pub each : list_all is_hex (take i (chars text)) ≡ true
  pub small : number < 16 ^ i
  pub shorter : length rest ≤ length text

pub hex_begins : (text : List ℕ) → IsHexSoFar text text 0 0
hex_begins text = record { rest_is = refl; within = omega arith; so_far = refl; each = refl; small = omega arith; shorter = omega arith }

drop_cons_length : (cs ds : List ℕ) (i c : ℕ) → drop i cs ≡ c ∷ ds → i < length cs
drop_cons_length cs ds i c e = omega (arith, ap length e, length-drop i cs)

get_there : (cs ds : List ℕ) (i c : ℕ) → drop i cs ≡ c ∷ ds → get_or cs i 0 ≡ c
get_there [] ds zero c e = let f : [] ≡ c ∷ ds = e in cc
get_there [] ds (suc i) c e = let f : [] ≡ c ∷ ds = e in cc
get_there (x ∷ cs) ds zero c e = cc
get_there (x ∷ cs) ds (suc i) c e = get_there cs ds i c e

drop_cons_get : (cs ds : List ℕ) (i c : ℕ) → drop i cs ≡ c ∷ ds → (get_or cs i 0 ≡ c) × (drop (i + 1) cs ≡ ds)
drop_cons_get cs ds i c e =
    let more : drop (i + 1) cs ≡ drop 1 (drop i cs) = ap (λ (n : ℕ). drop n cs) (omega arith) ∙ sym (drop-drop 1 i cs) in
    (get_there cs ds i c e, more ∙ ap (drop 1) e)

pub hex_goes_on : (text rest behind : List ℕ) (i number c v : ℕ) → IsHexSoFar text rest i number → chars rest ≡ c ∷ chars behind → length behind < length rest
    → is_hex c ≡ true → v ≡ digit_value c → v < 16 → IsHexSoFar text behind (i + 1) (number * 16 + v)
hex_goes_on text rest behind i number c v h split less hex value small =
    let e : drop i (chars text) ≡ c ∷ chars behind = sym h.rest_is ∙ split in
    let here = drop_cons_length (chars text) (chars behind) i c e in
    let at = drop_cons_get (chars text) (chars behind) i c e in
    record {
      rest_is = sym at.1;
      within = omega arith;
      so_far = ap (λ (n : ℕ). n * 16 + v) h.so_far ∙ ap (λ (d : ℕ). hex_number (take i (chars text)) * 16 + d) (value ∙ ap digit_value (sym at.0)) ∙ sym (number_more (chars text) i here);
      each = all_more (chars text) i here h.each (ap is_hex at.0 ∙ hex);
      small = small_more number i v h.small small;
      shorter = omega (arith, h.shorter);
    }

pub hex_ends_early : (text rest : List ℕ) (count i number : ℕ) → IsHexSoFar text rest i number → i < count → chars rest ≡ [] → hex_at count (chars text) ≡ None
hex_ends_early text rest count i number h less none =
    let size : length (chars text) ≤ i = omega (arith, ap length (sym h.rest_is ∙ none), length-drop i (chars text)) in
    let short : length (take count (chars text)) ≢ count = λ e. omega (arith, ap length (take_all count (chars text) (omega arith)), e) in
    no_count (length (take count (chars text)) == count) _ _ (not_equal _ _ short)
  where
    not_equal : (a b : ℕ) → a ≢ b → (a == b) ≡ false
    not_equal a b ne = grind (arith, nat_tests)

    no_count : (t u : Bool) (n : ℕ) → t ≡ false → cond (t && u) (Some n) None ≡ None
    no_count t u n e = rw e refl

get_take : (xs : List ℕ) (n i : ℕ) → i < n → i < length xs → (i < length (take n xs)) × (get_or (take n xs) i 0 ≡ get_or xs i 0)
get_take xs zero i h k = absurd (omega arith)
get_take [] (suc n) i h k = absurd (omega arith)
get_take (x ∷ xs) (suc n) zero h k = (omega arith, refl)
get_take (x ∷ xs) (suc n) (suc i) h k = let r = get_take xs n i (omega arith) (omega arith) in (omega (arith, r.0), r.1)

pub hex_breaks_off : (text rest behind : List ℕ) (count i number c : ℕ) → IsHexSoFar text rest i number → i < count → chars rest ≡ c ∷ chars behind → is_hex c ≡ false → hex_at count (chars text) ≡ None
hex_breaks_off text rest behind count i number c h less split fails =
    let e : drop i (chars text) ≡ c ∷ chars behind = sym h.rest_is ∙ split in
    let here = drop_cons_length (chars text) (chars behind) i c e in
    let at = drop_cons_get (chars text) (chars behind) i c e in
    let within = get_take (chars text) count i less here in
    no_digits (length (take count (chars text)) == count) _ _ (some_is_none (take count (chars text)) i within.0 (ap is_hex (within.1 ∙ at.0) ∙ fails))
  where
    no_digits : (t u : Bool) (n : ℕ) → u ≡ false → cond (t && u) (Some n) None ≡ None
    no_digits true u n e = rw e refl
    no_digits false u n e = refl

pub hex_done : (text rest : List ℕ) (count number : ℕ) → IsHexSoFar text rest count number → hex_at count (chars text) ≡ Some number
hex_done text rest count number h =
    let size : length (take count (chars text)) ≡ count = omega (arith, length-take count (chars text), h.within) in
    whole (length (take count (chars text)) == count) _ _ _ (equal _ _ size) h.each (sym h.so_far)
  where
    equal : (a b : ℕ) → a ≡ b → (a == b) ≡ true
    equal a b e = grind (arith, nat_tests)

    whole : (t u : Bool) (n m : ℕ) → t ≡ true → u ≡ true → n ≡ m → cond (t && u) (Some n) None ≡ Some m
    whole t u n m e f g = rw (e, f, g) refl

-- an escape by its letter
pub named_escape : (text rest : List ℕ) (letter c : ℕ) → chars text ≡ letter ∷ chars rest → length rest < length text → IsUtf8 rest → Some c ≡ echar letter → IsEscapeRead text c rest
unfolding string_escape_at
named_escape text rest letter c split less u e = record {
  utf8 = u;
  count = 1;
  found = ap string_escape_at split ∙ ap (λ (o : Option ℕ). letter_or o (uchar_at (letter ∷ chars rest))) (sym e);
  behind = ap (drop 1) (sym split);
  shorter = omega arith;
}

uchar_by : (letter : ℕ) (cs : List ℕ) → None ≡ echar letter → string_escape_at (letter ∷ cs) ≡ uchar_at (letter ∷ cs)
unfolding string_escape_at
uchar_by letter cs e = ap (λ (o : Option ℕ). letter_or o (uchar_at (letter ∷ cs))) (sym e)

uchar_none : (letter : ℕ) (cs : List ℕ) → digit_count letter ≡ None → uchar_at (letter ∷ cs) ≡ None
uchar_none letter cs e = by (letter == 117) (letter == 85) _ _ e
  where
    by : (t u : Bool) (a b : Option (ℕ × ℕ)) → cond {A = Option ℕ} t (Some 4) (cond u (Some 8) None) ≡ None → cond t a (cond u b None) ≡ None
    by true u a b e = absurd (cc)
    by false true a b e = absurd (cc)
    by false false a b e = refl

uchar_some : (letter : ℕ) (cs : List ℕ) (n : ℕ) → digit_count letter ≡ Some n → uchar_at (letter ∷ cs) ≡ character (n + 1) (hex_at n cs)
uchar_some letter cs n e = by (letter == 117) (letter == 85) n e
  where
    by : (t u : Bool) (n : ℕ) → cond {A = Option ℕ} t (Some 4) (cond u (Some 8) None) ≡ Some n → cond t (character 5 (hex_at 4 cs)) (cond u (character 9 (hex_at 8 cs)) None) ≡ character (n + 1) (hex_at n cs)
    by true u n e = let is : 4 ≡ n = cc in ap (λ (k : ℕ). character (k + 1) (hex_at k cs)) is
    by false true n e = let is : 8 ≡ n = cc in ap (λ (k : ℕ). character (k + 1) (hex_at k cs)) is
    by false false n e = absurd (cc)

pub no_letter : (text : List ℕ) → chars text ≡ [] → string_escape_at (chars text) ≡ None
unfolding string_escape_at
no_letter text e = ap string_escape_at e

pub no_uchar : (text rest : List ℕ) (letter : ℕ) → chars text ≡ letter ∷ chars rest → None ≡ echar letter → None ≡ digit_count letter → string_escape_at (chars text) ≡ None
no_uchar text rest letter split fails e = ap string_escape_at split ∙ uchar_by letter (chars rest) fails ∙ uchar_none letter (chars rest) (sym e)

pub no_number : (text rest : List ℕ) (letter n : ℕ) → chars text ≡ letter ∷ chars rest → None ≡ echar letter → Some n ≡ digit_count letter → hex_at n (chars rest) ≡ None → string_escape_at (chars text) ≡ None
no_number text rest letter n split fails e h =
    ap string_escape_at split ∙ uchar_by letter (chars rest) fails ∙ uchar_some letter (chars rest) n (sym e) ∙ ap (character (n + 1)) h

pub no_character : (text rest : List ℕ) (letter n number : ℕ) → chars text ≡ letter ∷ chars rest → None ≡ echar letter → Some n ≡ digit_count letter → hex_at n (chars rest) ≡ Some number
    → character (n + 1) (Some number) ≡ None → string_escape_at (chars text) ≡ None
no_character text rest letter n number split fails e h bad =
    ap string_escape_at split ∙ uchar_by letter (chars rest) fails ∙ uchar_some letter (chars rest) n (sym e) ∙ ap (character (n + 1)) h ∙ bad

pub uchar_escape : (text rest behind : List ℕ) (letter n number : ℕ) → chars text ≡ letter ∷ chars rest → length rest < length text → None ≡ echar letter → Some n ≡ digit_count letter
    → hex_at n (chars rest) ≡ Some number → chars behind ≡ drop n (chars rest) → length behind ≤ length rest → IsUtf8 behind → character (n + 1) (Some number) ≡ Some (number, n + 1) → IsEscapeRead text number behind
uchar_escape text rest behind letter n number split less fails e h after short u good = record {
  utf8 = u;
  count = n + 1;
  found = ap string_escape_at split ∙ uchar_by letter (chars rest) fails ∙ uchar_some letter (chars rest) n (sym e) ∙ ap (character (n + 1)) h ∙ good;
  behind = after ∙ sym (ap (drop (n + 1)) split ∙ one_more n letter (chars rest));
  shorter = omega arith;
}
  where
    one_more : (n c : ℕ) (cs : List ℕ) → drop (n + 1) (c ∷ cs) ≡ drop n cs
    one_more n c cs = rw add-one refl

-- What is meant

skipped : (n : ℕ) (cs : List ℕ) → unescaped_behind n cs ≡ unescaped (drop n cs)
unfolding unescaped_behind
skipped zero cs = refl
skipped (suc n) [] = refl
skipped (suc n) (c ∷ cs) = skipped n cs

longer_by : (c : ℕ) (o : Option (List ℕ)) → option_map encode_utf8_all (with_character c o) ≡ longer (encode_utf8 c) (option_map encode_utf8_all o)
longer_by c None = refl
longer_by c (Some cs) = refl

plain_step : (c : ℕ) (cs : List ℕ) → (c == 92) ≡ false → unescaped (c ∷ cs) ≡ with_character c (unescaped cs)
unfolding unescaped_behind
plain_step c cs e = rw (e, unescaped_behind) refl

escape_step : (cs : List ℕ) → unescaped (92 ∷ cs) ≡ escape_then (string_escape_at cs) (λ skip. unescaped_behind skip cs)
unfolding unescaped_behind
escape_step cs = refl

pub nothing_meant : (text : List ℕ) → chars text ≡ [] → meaning text ≡ Some []
unfolding meaning unescaped_behind
nothing_meant text e = ap (λ (cs : List ℕ). option_map encode_utf8_all (unescaped cs)) e

pub plain_meant : (text rest : List ℕ) (c : ℕ) → chars text ≡ c ∷ chars rest → length rest < length text → IsUtf8 rest → (c == 92) ≡ false → IsMeant text c rest
unfolding meaning
plain_meant text rest c split less u e = record {
  utf8 = u;
  means = ap (λ (cs : List ℕ). option_map encode_utf8_all (unescaped cs)) split ∙ ap (option_map encode_utf8_all) (plain_step c (chars rest) e) ∙ longer_by c (unescaped (chars rest));
  shorter = less;
}

pub escape_meant : (text rest behind : List ℕ) (c : ℕ) → chars text ≡ 92 ∷ chars rest → length rest < length text → IsEscapeRead rest c behind → IsMeant text c behind
unfolding meaning
escape_meant text rest behind c split less e = record {
  utf8 = e.utf8;
  means = ap (λ (cs : List ℕ). option_map encode_utf8_all (unescaped cs)) split ∙ ap (option_map encode_utf8_all) (escape_step (chars rest) ∙ ap (λ (o : Option (ℕ × ℕ)). escape_then o (λ skip. unescaped_behind skip (chars rest))) e.found
      ∙ ap (with_character c) (skipped e.count (chars rest) ∙ ap unescaped (sym e.behind))) ∙ longer_by c (unescaped (chars behind));
  shorter = omega (arith, e.shorter);
}

pub bad_escape : (text rest : List ℕ) → chars text ≡ 92 ∷ chars rest → string_escape_at (chars rest) ≡ None → meaning text ≡ None
unfolding meaning
bad_escape text rest split e =
    ap (λ (cs : List ℕ). option_map encode_utf8_all (unescaped cs)) split ∙ ap (option_map encode_utf8_all) (escape_step (chars rest) ∙ ap (λ (o : Option (ℕ × ℕ)). escape_then o (λ skip. unescaped_behind skip (chars rest))) e)

longer-longer : (xs ys : List ℕ) (o : Option (List ℕ)) → longer xs (longer ys o) ≡ longer (xs ++ ys) o
longer-longer xs ys None = refl
longer-longer xs ys (Some zs) = ap (λ (l : List ℕ). Some l) (sym (append_assoc xs ys zs))

pub longer-nil : (o : Option (List ℕ)) → longer [] o ≡ o
longer-nil None = refl
longer-nil (Some zs) = refl

pub meant_more : (text rest behind meant more piece : List ℕ) (c : ℕ) → meaning text ≡ longer meant (meaning rest) → IsMeant rest c behind → piece ≡ encode_utf8 c → more ≡ meant ++ piece
    → meaning text ≡ longer more (meaning behind)
meant_more text rest behind meant more piece c so_far step is new =
    so_far ∙ ap (longer meant) step.means ∙ longer-longer meant (encode_utf8 c) (meaning behind)
    ∙ ap (λ (l : List ℕ). longer l (meaning behind)) (ap (λ (l : List ℕ). meant ++ l) (sym is) ∙ sym new)

append_nil : (xs : List ℕ) → xs ++ [] ≡ xs
append_nil [] = refl
append_nil (x ∷ xs) = ap (λ (ys : List ℕ). x ∷ ys) (append_nil xs)

pub meant_whole : (text rest meant : List ℕ) → meaning text ≡ longer meant (meaning rest) → chars rest ≡ [] → Some meant ≡ meaning text
meant_whole text rest meant so_far none =
    sym (so_far ∙ ap (longer meant) (nothing_meant rest none) ∙ ap (λ (l : List ℕ). Some l) (append_nil meant))

pub plain_test : (c : ℕ) → c ≢ 92 → (c == 92) ≡ false
plain_test c ne = grind (arith, nat_tests)

pub meant_escape : (text rest : List ℕ) (c : ℕ) (r : Option (ℕ × Bor (List ℕ))) → chars text ≡ c ∷ chars rest → length rest < length text → c ≡ 92 → ReadsEscape rest r → ReadsMeant text r
meant_escape text rest c None split less is e = bad_escape text rest (split ∙ ap (λ (d : ℕ). d ∷ chars rest) is) e
meant_escape text rest c (Some p) split less is e = escape_meant text rest p.1.now p.0 (split ∙ ap (λ (d : ℕ). d ∷ chars rest) is) less e

-- which numbers are those of characters
pub out_of_range : (number size : ℕ) → SomeIff {T = ℕ} None (IsScalar number) number → character size (Some number) ≡ None
out_of_range number size e = by (scalar number) e
  where
    by : (t : Bool) → (t ≡ true → ⊥) → cond {A = Option (ℕ × ℕ)} t (Some (number, size)) None ≡ None
    by true e = absurd (e refl)
    by false e = refl

pub in_range : (number c size : ℕ) → SomeIff (Some c) (IsScalar number) number → (c ≡ number) × (character size (Some number) ≡ Some (number, size))
in_range number c size e = (e.1, rw e.0 refl)

-- Whole texts

meaning_is : (inner cs : List ℕ) → chars inner ≡ cs → meaning inner ≡ option_map encode_utf8_all (unescaped cs)
unfolding meaning
meaning_is inner cs e = ap (λ (x : List ℕ). option_map encode_utf8_all (unescaped x)) e

pub iri_none : (text inner : List ℕ) (r : Option (List ℕ)) → chars inner ≡ trimmed (chars text) → r ≡ meaning inner → r ≡ None → None ≡ iri_text text
iri_none text inner r e m is = ap proper_iri (sym is ∙ m ∙ meaning_is inner _ e)

proper_by : (iri : List ℕ) (t : Bool) → t ≡ (list_all is_iri_char iri && is_absolute iri) → proper_iri (Some iri) ≡ cond t (Some iri) None
proper_by iri t e = ap (λ (b : Bool). cond b (Some iri) None) (sym e)

pub iri_proper : (text inner iri : List ℕ) (r : Option (List ℕ)) (t : Bool) → chars inner ≡ trimmed (chars text) → r ≡ meaning inner → r ≡ Some iri → t ≡ (list_all is_iri_char iri && is_absolute iri) → t ≡ true → Some iri ≡ iri_text text
iri_proper text inner iri r t e m is test passes =
    sym (ap proper_iri (sym (meaning_is inner _ e) ∙ sym m ∙ is) ∙ proper_by iri t test ∙ ap (λ (b : Bool). cond b (Some iri) None) passes)

pub iri_improper : (text inner iri : List ℕ) (r : Option (List ℕ)) (t : Bool) → chars inner ≡ trimmed (chars text) → r ≡ meaning inner → r ≡ Some iri → t ≡ (list_all is_iri_char iri && is_absolute iri) → t ≡ false → None ≡ iri_text text
iri_improper text inner iri r t e m is test fails =
    sym (ap proper_iri (sym (meaning_is inner _ e) ∙ sym m ∙ is) ∙ proper_by iri t test ∙ ap (λ (b : Bool). cond b (Some iri) None) fails)

pub string_is : (text inner : List ℕ) → chars inner ≡ within_quotes text → meaning inner ≡ string_text text
string_is text inner e = meaning_is inner _ e
