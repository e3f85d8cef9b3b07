-- The character that begins some bytes, and the label.
use Rattle.std.proofs.Common.{◌≡◌, ◌∙◌, ◌<◌, ◌≤◌, ◌+◌, ◌-◌, ℕ, true, length, get_or, List, [], ◌∷◌, ◌++◌, take, drop, refl, sym, ap, subst, arith, append_assoc, length-append, Option, Some}
use Rattle.std.specs.Prelude.{IsUtf8}
use Rattle.std.specs.Char.{encode_utf8, IsScalar}
use Rattle.std.specs.Prelude.{slice_range, slice_get}
use Rattle.std.specs.Str.{chars, continuation_len, encode_utf8_all, all_scalars}
use Rattle.std.specs.Str.Lossy.{utf8_valid_len}
use Rattle.std.proofs.str.Laws as laws
use Rattle.std.proofs.lemmas.Str.{IsUtf8-encode, length-encode, len_utf8_bounds, encode_ascii, scalars-chars}
use Rattle.std.proofs.lemmas.List.{append-nil, take-append-drop}
use Rattle.std.proofs.lemmas.Bool.Decides.{nat_tests}
use Rattle.std.proofs.Math.Utf8.{low_scalar, scalar, scalar_cases}
use Rattle.std.proofs.Math.Seq.{take-append_seam, drop-append_seam}
use Rattle.ntriples_model.specs.Terminals.{front_chars}
use Rattle.ntriples_model.proofs.Escapes.{both}
use Rattle.ntriples_model.proofs.FrontChars.{front_behind, front_nil, front_splits, front_scalars}
use Rattle.rdf_term.specs.Front.{IsFirstChar}

-- a character by its first byte
record IsLed (c : ℕ) : Type 0 where
  lead : ℕ
  more : List ℕ
  is : encode_utf8 c ≡ lead ∷ more
  size : length (encode_utf8 c) ≡ continuation_len lead + 1

by_shape : (c : ℕ) → laws.Shape c → IsLed c
by_shape c (laws.of1 h e) = record { lead = c; more = []; is = e; size = ap length e ∙ grind (arith, nat_tests) }
by_shape c (laws.of2 a b l h f s e) = record { lead = a; more = b ∷ []; is = e; size = ap length e ∙ grind (arith, nat_tests) }
by_shape c (laws.of3 a b d l h f g s e) = record { lead = a; more = b ∷ d ∷ []; is = e; size = ap length e ∙ grind (arith, nat_tests) }
by_shape c (laws.of4 a b d x l h f g k s e) = record { lead = a; more = b ∷ d ∷ x ∷ []; is = e; size = ap length e ∙ grind (arith, nat_tests) }

led : (c : ℕ) → IsScalar c → IsLed c
led c s = by_shape c (laws.shape c (scalar_cases c s))

-- bytes that begin with a character
pub first_is : (bytes : List ℕ) (c : ℕ) (rest : List ℕ) → IsScalar c → bytes ≡ encode_utf8 c ++ rest → IsFirstChar bytes c (length (encode_utf8 c))
first_is bytes c rest s is =
    let one : all_scalars (c ∷ []) ≡ true = rw s refl in
    let behind : rest ≡ drop (length (encode_utf8 c)) bytes = sym (drop-append_seam (encode_utf8 c) rest) ∙ ap (drop (length (encode_utf8 c))) (sym is) in
    record {
      splits = is ∙ ap (λ (z : List ℕ). encode_utf8 c ++ z) behind;
      character = s;
      size = refl;
      some = omega (arith, length-encode c, (len_utf8_bounds c).0);
      within = omega (arith, ap length is, length-append (encode_utf8 c) rest);
      front = ap front_chars (is ∙ ap (λ (z : List ℕ). z ++ rest) (sym (append-nil (encode_utf8 c)))) ∙ front_behind (c ∷ []) rest one ∙ ap (λ (z : List ℕ). c ∷ front_chars z) behind;
    }

-- where no character begins the bytes
pub no_first : (bytes : List ℕ) → ((c : ℕ) (rest : List ℕ) → IsScalar c → bytes ≡ encode_utf8 c ++ rest → ⊥) → (cs : List ℕ) → front_chars bytes ≡ cs → front_chars bytes ≡ []
no_first bytes none [] is = is
no_first bytes none (c ∷ cs) is =
    let all : all_scalars (c ∷ cs) ≡ true = ap all_scalars (sym is) ∙ front_scalars bytes in
    let p = both (scalar c) (all_scalars cs) all in
    let whole : bytes ≡ encode_utf8 c ++ (encode_utf8_all cs ++ drop (utf8_valid_len bytes) bytes) =
    front_splits bytes ∙ ap (λ (z : List ℕ). encode_utf8_all z ++ drop (utf8_valid_len bytes) bytes) is ∙ append_assoc (encode_utf8 c) (encode_utf8_all cs) (drop (utf8_valid_len bytes) bytes) in
    absurd (none c _ p.0 whole)

pub no_bytes : (bytes : List ℕ) → length bytes ≡ 0 → front_chars bytes ≡ []
no_bytes [] h = front_nil
no_bytes (b ∷ bs) h = absurd (omega arith)

-- a character that begins the bytes takes as many as its first byte says
pub record HasWidth (bytes : List ℕ) (c n : ℕ) : Type 0 where
  pub front : take n bytes ≡ encode_utf8 c
  pub within : n ≤ length bytes

pub has_width : (bytes : List ℕ) (c : ℕ) (rest : List ℕ) (first n : ℕ) → IsScalar c → bytes ≡ encode_utf8 c ++ rest → get_or bytes 0 0 ≡ first → n ≡ continuation_len first + 1 → HasWidth bytes c n
has_width bytes c rest first n s is at_first n_is =
    let l = led c s in
    let same : l.lead ≡ first = ap (λ (z : List ℕ). get_or z 0 0) (ap (λ (z : List ℕ). z ++ rest) (sym l.is) ∙ sym is) ∙ at_first in
    let size : length (encode_utf8 c) ≡ n = l.size ∙ ap (λ (k : ℕ). continuation_len k + 1) same ∙ sym n_is in
    record {
      front = ap (take n) is ∙ ap (λ (k : ℕ). take k (encode_utf8 c ++ rest)) (sym size) ∙ take-append_seam (encode_utf8 c) rest;
      within = omega (arith, ap length is, length-append (encode_utf8 c) rest);
    }

pub too_short : (bytes : List ℕ) (first n : ℕ) → get_or bytes 0 0 ≡ first → n ≡ continuation_len first + 1 → length bytes < n → front_chars bytes ≡ []
too_short bytes first n at_first n_is h =
    no_first bytes (λ c rest s is. let w = has_width bytes c rest first n s is at_first n_is in omega (arith, w.within)) (front_chars bytes) refl

pub not_utf8 : (bytes : List ℕ) (first n : ℕ) → get_or bytes 0 0 ≡ first → n ≡ continuation_len first + 1 → (IsUtf8 (take n bytes) → ⊥) → front_chars bytes ≡ []
not_utf8 bytes first n at_first n_is bad =
    no_first bytes (λ c rest s is. let w = has_width bytes c rest first n s is at_first n_is in bad (subst IsUtf8 (sym w.front) (IsUtf8-encode c s))) (front_chars bytes) refl

pub ascii_first : (bytes : List ℕ) (first : ℕ) → get_or bytes 0 0 ≡ first → 0 < length bytes → first < 128 → IsFirstChar bytes first 1
ascii_first [] first at_first some h = absurd (omega arith)
ascii_first (b ∷ bs) first at_first some h =
    let code : encode_utf8 first ≡ first ∷ [] = encode_ascii first h in
    let is : b ∷ bs ≡ encode_utf8 first ++ bs = ap (λ x. x ∷ bs) at_first ∙ ap (λ (z : List ℕ). z ++ bs) (sym code) in
    subst (λ (n : ℕ). IsFirstChar (b ∷ bs) first n) (ap length code) (first_is (b ∷ bs) first bs (low_scalar first (omega arith)) is)

pub text_first : (bytes text rest : List ℕ) (c n size : ℕ) → text ≡ take n bytes → text ≡ encode_utf8 c ++ rest → IsScalar c → size ≡ length (encode_utf8 c) → IsFirstChar bytes c size
text_first bytes text rest c n size text_is begins s size_is =
    let is : bytes ≡ encode_utf8 c ++ (rest ++ drop n bytes) =
    sym (take-append-drop n bytes) ∙ ap (λ (z : List ℕ). z ++ drop n bytes) (sym text_is ∙ begins) ∙ append_assoc (encode_utf8 c) rest (drop n bytes) in
    subst (λ (k : ℕ). IsFirstChar bytes c k) (sym size_is) (first_is bytes c _ s is)

pub front_range : (xs : List ℕ) (n : ℕ) → slice_range xs 0 n ≡ take n xs
front_range xs n = let e : n - 0 ≡ n = omega arith in ap (λ (k : ℕ). take k xs) e

first_scalar : (cs : List ℕ) (c : ℕ) → all_scalars cs ≡ true → (let o : Option ℕ = Some c in o) ≡ slice_get cs 0 → IsScalar c
first_scalar [] c h is = cc
first_scalar (d ∷ cs) c h is =
    let same : c ≡ d = cc in
    subst (λ (x : ℕ). scalar x ≡ true) (sym same) (both (scalar d) (all_scalars cs) h).0

pub text_scalar : (text rest : List ℕ) (c : ℕ) → IsUtf8 text → rest ≡ text → (let o : Option ℕ = Some c in o) ≡ slice_get (chars rest) 0 → IsScalar c
text_scalar text rest c u same is = first_scalar (chars rest) c (scalars-chars rest (subst IsUtf8 (sym same) u)) is
