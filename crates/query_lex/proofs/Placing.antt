-- The places of what is read in its text.
use Rattle.std.proofs.Common.{◌≡◌, ◌∙◌, ℕ, ◌+◌, ◌-◌, ◌<◌, ◌≤◌, List, [], ◌∷◌, ◌++◌, length, take, drop, refl, sym, ap, subst, append_assoc, arith, Some, None, chars, IsUtf8}
use Rattle.std.specs.Str.{encode_utf8_all, IsCharBoundary}
use Rattle.std.specs.Char.{encode_utf8}
use Rattle.std.specs.Prelude.{slice_range}
use Rattle.std.proofs.lemmas.Str.{encodes-chars, chars-nil, IsUtf8-past_char, IsCharBoundary-from_drop}
use Rattle.std.proofs.lemmas.List.{length-append, drop-drop}
use Rattle.std.proofs.Math.Seq.{drop-append_seam, take-append_seam}
use Rattle.query_tokens.specs.Front.{token_at, gap_at}
use Rattle.query_lex.specs.Kinds.{kind_of}
use Rattle.query_lex.specs.Reading.{Reading, IsRest, behind_gap, IsNext, IsAtEnd, IsAtFault, IsBehind}
use Rattle.query_lex.specs.declared.token.TokenKind.{TokenKind}

abbrev pub reading : List ℕ → List ℕ → Reading
reading text rest = record { text = text; place = length text - length rest }

pub rest_behind : (text rest front back : List ℕ) → IsRest text rest → rest ≡ front ++ back → IsRest text back
rest_behind text rest front back r e =
    let size : length rest ≡ length front + length back = ap length e ∙ length-append front back in
    let place : length text - length back ≡ (length text - length rest) + length front = omega (arith, size, r.within) in
    let within : length back ≤ length text = omega (arith, size, r.within) in
    record {
      within = within;
      is = sym (drop-append_seam front back) ∙ (ap (drop (length front)) (sym e ∙ r.is)
          ∙ (drop-drop (length front) (length text - length rest) text ∙ ap (λ (n : ℕ). drop n text) (sym place)));
    }

gap_behind : (text rest behind : List ℕ) → IsRest text rest → IsBehind rest (gap_at (chars rest)) behind → behind_gap (reading text rest) ≡ chars behind
gap_behind text rest behind r b =
    subst (λ (x : List ℕ). drop (gap_at (chars x)) (chars x) ≡ chars behind) r.is (sym b.characters)

pub at_end : (old : Reading) (text rest behind : List ℕ) → reading text rest ≡ old → IsRest text rest → IsBehind rest (gap_at (chars rest)) behind → length behind ≡ 0 → IsAtEnd old
at_end old text rest behind v r b h =
    subst (λ (x : Reading). behind_gap x ≡ []) v (gap_behind text rest behind r b ∙ (ap chars (empty behind h) ∙ chars-nil))
  where
    empty : (xs : List ℕ) → length xs ≡ 0 → xs ≡ []
    empty [] h = refl
    empty (x ∷ xs) h = absurd (omega arith)

some_chars : (cs bs : List ℕ) → encode_utf8_all cs ≡ bs → 0 < length bs → 0 < length cs
some_chars [] bs e h = absurd (let none : 0 ≡ length bs = ap length e in omega (arith, none))
some_chars (c ∷ cs) bs e h = omega arith

pub at_fault : (old : Reading) (text rest behind : List ℕ) → reading text rest ≡ old → IsRest text rest → IsBehind rest (gap_at (chars rest)) behind → IsUtf8 behind
    → 0 < length behind → token_at (chars behind) ≡ None → IsAtFault old
at_fault old text rest behind v r b u h t =
    let gap = gap_behind text rest behind r b in
    subst IsAtFault v
    (subst (λ (cs : List ℕ). 0 < length cs) (sym gap) (some_chars (chars behind) behind (encodes-chars behind u) h), ap token_at gap ∙ t)

pub next_place : (text rest behind last : List ℕ) (n : ℕ) → IsRest text rest → IsBehind rest (gap_at (chars rest)) behind → IsBehind behind n last → IsRest text last
next_place text rest behind last n r b l = rest_behind text behind _ last (rest_behind text rest _ behind r b.bytes) l.bytes

utf8_behind : (cs bs rest : List ℕ) → IsUtf8 bs → bs ≡ encode_utf8_all cs ++ rest → IsUtf8 rest
utf8_behind [] bs rest u e = subst IsUtf8 e u
utf8_behind (c ∷ cs) bs rest u e =
    utf8_behind cs (encode_utf8_all cs ++ rest) rest (IsUtf8-past_char bs (encode_utf8_all cs ++ rest) c u (e ∙ append_assoc (encode_utf8 c) (encode_utf8_all cs) rest)) refl

boundary : (text rest : List ℕ) → IsRest text rest → IsUtf8 rest → IsCharBoundary text (length text - length rest)
boundary text rest r u =
    let within : length text - length rest ≤ length text = omega arith in
    IsCharBoundary-from_drop text (length text - length rest) within (subst IsUtf8 r.is u)

bytes_between : (text rest back piece : List ℕ) → IsRest text rest → rest ≡ piece ++ back → slice_range text (length text - length rest) (length text - length back) ≡ piece
bytes_between text rest back piece r e =
    let size : length rest ≡ length piece + length back = ap length e ∙ length-append piece back in
    let count : (length text - length back) - (length text - length rest) ≡ length piece = omega (arith, size, r.within) in
    ap (λ (n : ℕ). take n (drop (length text - length rest) text)) count
    ∙ (ap (take (length piece)) (sym r.is ∙ e) ∙ take-append_seam piece back)

pub is_next : (old : Reading) (text rest behind last : List ℕ) (kind : TokenKind) (n : ℕ) → reading text rest ≡ old → IsRest text rest → IsBehind rest (gap_at (chars rest)) behind → IsUtf8 behind
    → token_at (chars behind) ≡ Some (kind_of kind, n) → IsBehind behind n last
    → IsNext old (record { kind = kind; from = length text - length behind; to = length text - length last }) (reading text last)
is_next old text rest behind last kind n v r b u t l =
    let gap = gap_behind text rest behind r b in
    let here = rest_behind text rest _ behind r b.bytes in
    let there = rest_behind text behind _ last here l.bytes in
    let before : List ℕ = encode_utf8_all (take (gap_at (chars rest)) (chars rest)) in
    let word : List ℕ = encode_utf8_all (take n (chars behind)) in
    let first : length rest ≡ length before + length behind = ap length b.bytes ∙ length-append before behind in
    let second : length behind ≡ length word + length last = ap length l.bytes ∙ length-append word last in
    let from : length text - length behind ≡ (length text - length rest) + length before = omega (arith, first, r.within) in
    let to : length text - length last ≡ (length text - length behind) + length word = omega (arith, second, here.within) in
    subst (λ (x : Reading). IsNext x (record { kind = kind; from = length text - length behind; to = length text - length last }) (reading text last)) v
    (record {
      count = n;
      longest = ap token_at gap ∙ t;
      from = subst (λ (x : List ℕ). length text - length behind ≡ (length text - length rest) + length (encode_utf8_all (take (gap_at (chars x)) (chars x)))) r.is from;
      to = subst (λ (x : List ℕ). length text - length last ≡ (length text - length behind) + length (encode_utf8_all (take n x))) (sym gap) to;
      begins = boundary text behind here u;
      ends = boundary text last there (utf8_behind (take n (chars behind)) behind last u l.bytes);
      bytes = bytes_between text behind last word here l.bytes ∙ ap (λ (x : List ℕ). encode_utf8_all (take n x)) (sym gap);
      read = refl;
    })

pub whole : (text : List ℕ) → IsRest text text
whole text =
    let none : length text - length text ≡ 0 = omega arith in
    record { within = omega arith; is = ap (λ (n : ℕ). drop n text) (sym none) }
