-- The characters that begin some bytes.
use Rattle.std.proofs.Common.{◌≡◌, ◌∙◌, ℕ, zero, suc, ◌+◌, true, false, cond, List, [], ◌++◌, length, take, drop, refl, sym, ap, subst, arith, length-append}
use Rattle.std.specs.Prelude.{IsUtf8}
use mathlib.Core.Bool.{true≢false}
use Rattle.std.specs.Str.{chars, is_utf8, all_scalars, encode_utf8_all}
use Rattle.std.specs.Str.Lossy.{utf8_valid_len, valid_len_up_to}
use Rattle.std.proofs.lemmas.Str.{IsUtf8-from_is_utf8, is_utf8-from_IsUtf8, IsUtf8-append, IsUtf8-nil, IsUtf8-drop, IsCharBoundary-from_take, chars-append, chars-encodes, encodes-chars, scalars-chars}
use Rattle.std.proofs.lemmas.List.{take-append-drop}
use Rattle.std.proofs.Math.Seq.{drop-append_seam, take-append_seam, take-append-add}
use Rattle.ntriples_model.specs.Terminals.{front_chars}

-- the longest front of n bytes at most that is UTF-8, is UTF-8
up_to_is : (bs : List ℕ) (n : ℕ) → IsUtf8 (take (valid_len_up_to bs n) bs)
up_to_is bs zero = IsUtf8-nil
up_to_is bs (suc n) =
    elim (is_utf8 (take (suc n) bs)) as (λ e. is_utf8 (take (suc n) bs) ≡ e → IsUtf8 (take (cond {A = ℕ} e (suc n) (valid_len_up_to bs n)) bs)) [
      | true ↦ λ e. IsUtf8-from_is_utf8 (take (suc n) bs) e
      | false ↦ λ e. up_to_is bs n
    ] refl

pub front_is_utf8 : (bs : List ℕ) → IsUtf8 (take (utf8_valid_len bs) bs)
unfolding utf8_valid_len
front_is_utf8 bs = up_to_is bs (length bs)

pub front_encodes : (bs : List ℕ) → encode_utf8_all (front_chars bs) ≡ take (utf8_valid_len bs) bs
unfolding front_chars
front_encodes bs = encodes-chars _ (front_is_utf8 bs)

pub front_scalars : (bs : List ℕ) → all_scalars (front_chars bs) ≡ true
unfolding front_chars
front_scalars bs = scalars-chars _ (front_is_utf8 bs)

-- bytes behind a text are UTF-8 where all is
pub utf8_of_rest : (text bs : List ℕ) → IsUtf8 text → IsUtf8 (text ++ bs) → IsUtf8 bs
utf8_of_rest text bs u all =
    let front : IsUtf8 (take (length text) (text ++ bs)) = subst IsUtf8 (sym (take-append_seam text bs)) u in
    subst IsUtf8 (drop-append_seam text bs) (IsUtf8-drop (text ++ bs) (length text) all (IsCharBoundary-from_take (text ++ bs) (length text) all (omega (arith, length-append text bs)) front))

utf8_behind : (text bs : List ℕ) → IsUtf8 text → is_utf8 (text ++ bs) ≡ is_utf8 bs
utf8_behind text bs u =
    elim (is_utf8 bs) as (λ b. is_utf8 bs ≡ b → is_utf8 (text ++ bs) ≡ b) [
      | true ↦ λ b. is_utf8-from_IsUtf8 (text ++ bs) (IsUtf8-append text bs u (IsUtf8-from_is_utf8 bs b))
      | false ↦ λ b. elim (is_utf8 (text ++ bs)) as (λ a. is_utf8 (text ++ bs) ≡ a → a ≡ false) [
        | true ↦ λ a. absurd (true≢false (sym (is_utf8-from_IsUtf8 bs (utf8_of_rest text bs u (IsUtf8-from_is_utf8 (text ++ bs) a))) ∙ b))
        | false ↦ λ a. refl
      ] refl
    ] refl

up_to_all : (bs : List ℕ) (n : ℕ) → is_utf8 (take n bs) ≡ true → valid_len_up_to bs n ≡ n
up_to_all bs zero h = refl
up_to_all bs (suc n) h = rw h refl

up_to_behind : (text bs : List ℕ) (n : ℕ) → IsUtf8 text → valid_len_up_to (text ++ bs) (length text + n) ≡ length text + valid_len_up_to bs n
up_to_behind text bs zero u =
    let e : length text + 0 ≡ length text = omega arith in
    ap (valid_len_up_to (text ++ bs)) e ∙ up_to_all (text ++ bs) (length text) (ap is_utf8 (take-append_seam text bs) ∙ is_utf8-from_IsUtf8 text u) ∙ sym e
up_to_behind text bs (suc n) u =
    let e : length text + suc n ≡ suc (length text + n) = omega arith in
    let t : is_utf8 (take (suc (length text + n)) (text ++ bs)) ≡ is_utf8 (take (suc n) bs) =
    ap (λ (k : ℕ). is_utf8 (take k (text ++ bs))) (sym e) ∙ ap is_utf8 (take-append-add text bs (suc n)) ∙ utf8_behind text (take (suc n) bs) u in
    ap (valid_len_up_to (text ++ bs)) e ∙ elim (is_utf8 (take (suc n) bs)) as (λ b. is_utf8 (take (suc n) bs) ≡ b → valid_len_up_to (text ++ bs) (suc (length text + n)) ≡ length text + cond {A = ℕ} b (suc n) (valid_len_up_to bs n)) [
      | true ↦ λ b. rw (t ∙ b) (sym e)
      | false ↦ λ b. rw (t ∙ b) (up_to_behind text bs n u)
    ] refl

valid_behind : (text bs : List ℕ) → IsUtf8 text → utf8_valid_len (text ++ bs) ≡ length text + utf8_valid_len bs
unfolding utf8_valid_len
valid_behind text bs u = ap (valid_len_up_to (text ++ bs)) (length-append text bs) ∙ up_to_behind text bs (length bs) u

-- the characters of a text stand before those of what is behind it
pub front_behind : (cs bs : List ℕ) → all_scalars cs ≡ true → front_chars (encode_utf8_all cs ++ bs) ≡ cs ++ front_chars bs
unfolding front_chars
front_behind cs bs h =
    let text : List ℕ = encode_utf8_all cs in
    let u : IsUtf8 text = (cs, (h, refl)) in
    ap (λ (n : ℕ). chars (take n (text ++ bs))) (valid_behind text bs u) ∙ ap chars (take-append-add text bs (utf8_valid_len bs))
    ∙ chars-append text (take (utf8_valid_len bs) bs) u ∙ ap (λ (z : List ℕ). z ++ chars (take (utf8_valid_len bs) bs)) (chars-encodes cs h)

pub front_nil : front_chars [] ≡ []
unfolding front_chars chars utf8_valid_len
front_nil = refl

-- the bytes are their characters, and what is behind those
pub front_splits : (bs : List ℕ) → bs ≡ encode_utf8_all (front_chars bs) ++ drop (utf8_valid_len bs) bs
front_splits bs = sym (take-append-drop (utf8_valid_len bs) bs) ∙ ap (λ (z : List ℕ). z ++ drop (utf8_valid_len bs) bs) (sym (front_encodes bs))
