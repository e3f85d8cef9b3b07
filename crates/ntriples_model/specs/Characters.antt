-- The classes of characters of RDF 1.1 N-Triples (section 7), as tests on code points. A range has both its ends.
use Rattle.std.specs.Prelude.{ℕ, Bool, not, ◌&&◌, ◌||◌, List, [], ◌∷◌, ◌==◌, codes, nat_lt}
use Rattle.std.specs.List.{list_any}
use Rattle.std.specs.Int.{is_in_range}

-- the code point lies in one of the ranges
abbrev pub in_ranges : List (ℕ × ℕ) → ℕ → Bool
in_ranges ranges c = list_any (λ r. is_in_range r.0 r.1 c) ranges

-- the code point is one of the characters
abbrev pub one_of : List ℕ → ℕ → Bool
one_of characters c = list_any (λ x. c == x) characters

-- [A-Z] and [a-z]
abbrev pub letters : List (ℕ × ℕ)
letters = (0x41, 0x5A) ∷ (0x61, 0x7A) ∷ []

-- [0-9]
abbrev pub digits : List (ℕ × ℕ)
digits = (0x30, 0x39) ∷ []

unfoldable pub is_letter : ℕ → Bool
is_letter c = in_ranges letters c

unfoldable pub is_letter_or_digit : ℕ → Bool
is_letter_or_digit c = in_ranges letters c || in_ranges digits c

-- HEX ::= [0-9] | [A-F] | [a-f]
unfoldable pub is_hex : ℕ → Bool
is_hex c = in_ranges ((0x30, 0x39) ∷ (0x41, 0x46) ∷ (0x61, 0x66) ∷ []) c

-- PN_CHARS_BASE
abbrev pub pn_chars_base : List (ℕ × ℕ)
pn_chars_base =
    (0x41, 0x5A) ∷ (0x61, 0x7A) ∷ (0xC0, 0xD6) ∷ (0xD8, 0xF6) ∷ (0xF8, 0x2FF) ∷ (0x370, 0x37D) ∷ (0x37F, 0x1FFF)
    ∷ (0x200C, 0x200D) ∷ (0x2070, 0x218F) ∷ (0x2C00, 0x2FEF) ∷ (0x3001, 0xD7FF) ∷ (0xF900, 0xFDCF) ∷ (0xFDF0, 0xFFFD)
    ∷ (0x10000, 0xEFFFF) ∷ []

unfoldable pub is_pn_chars_base : ℕ → Bool
is_pn_chars_base c = in_ranges pn_chars_base c

-- PN_CHARS_U ::= PN_CHARS_BASE | '_' | ':'
unfoldable pub is_pn_chars_u : ℕ → Bool
is_pn_chars_u c = is_pn_chars_base c || one_of (codes "_:") c

-- PN_CHARS ::= PN_CHARS_U | '-' | [0-9] | #xB7 | [#x300-#x36F] | [#x203F-#x2040]
abbrev pub pn_chars_more : List (ℕ × ℕ)
pn_chars_more = (0x2D, 0x2D) ∷ (0x30, 0x39) ∷ (0xB7, 0xB7) ∷ (0x300, 0x36F) ∷ (0x203F, 0x2040) ∷ []

unfoldable pub is_pn_chars : ℕ → Bool
is_pn_chars c = is_pn_chars_u c || in_ranges pn_chars_more c

-- PN_CHARS_U | [0-9], the first character of a label
unfoldable pub is_label_start : ℕ → Bool
is_label_start c = is_pn_chars_u c || in_ranges digits c

-- [^#x00-#x20<>"{}|^`\], a character of an IRIREF that stands for itself; also of a byte, since all that it leaves out is ASCII
unfoldable pub is_iri_char : ℕ → Bool
is_iri_char c = nat_lt 0x20 c && not (one_of (codes "<>\"{}|^`\\") c)

-- [^#x22#x5C#xA#xD], a character of a string that stands for itself; also of a byte, as above
unfoldable pub is_string_char : ℕ → Bool
is_string_char c = not (one_of (0x22 ∷ 0x5C ∷ 0xA ∷ 0xD ∷ []) c)

-- [A-Za-z0-9+.-], a character of a scheme behind its first (RFC 3986, section 3.1)
unfoldable pub is_scheme_char : ℕ → Bool
is_scheme_char c = is_letter_or_digit c || one_of (codes "+.-") c
