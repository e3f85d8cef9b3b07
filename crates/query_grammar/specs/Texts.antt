-- What the tokens of a query stand for: IRIs, strings, prefixed names (SPARQL 1.1, sections 4.1 and 19.7; RDF 1.1 N-Triples,
-- section 7, for escapes and for IRIs). The texts are bytes in UTF-8.
use Rattle.std.specs.Prelude.{ℕ, zero, suc, ◌+◌, ◌-◌, Bool, true, false, not, ◌&&◌, List, [], ◌∷◌, ◌++◌, length, take, drop, Option, Some, None, ◌==◌, cond, slice_index, encode_utf8_all}
use Rattle.std.specs.List.{list_all, filter, position_or_len}
use Rattle.std.specs.Option.{option_map, is_some}
use Rattle.std.specs.Str.{chars, bytes_eq}
use Rattle.ntriples_model.specs.Characters.{is_iri_char}
use Rattle.ntriples_model.specs.Terminals.{string_escape_at, is_absolute}
use Rattle.query_grammar.specs.Lexemes.{Lexeme}
use Rattle.query_grammar.specs.Signs.{Sign, Prefix, Iri, PnameNs, PnameLn, Text, sign_of}

-- Escapes

abbrev pub with_character : ℕ → Option (List ℕ) → Option (List ℕ)
with_character c None = None
with_character c (Some cs) = Some (c ∷ cs)

-- the character of an escape and what follows, once the escape's own characters are skipped
abbrev pub escape_then : Option (ℕ × ℕ) → (ℕ → Option (List ℕ)) → Option (List ℕ)
escape_then None behind = None
escape_then (Some e) behind = with_character e.0 (behind e.1)

-- the characters that are meant, where the first ones belong to an escape; none where an escape stands for no character
unfoldable pub unescaped_behind : ℕ → List ℕ → Option (List ℕ)
unescaped_behind skip [] = Some []
unescaped_behind (suc skip) (c ∷ cs) = unescaped_behind skip cs
unescaped_behind zero (c ∷ cs) =
    elim (c == 92) [
      | true ↦ escape_then (string_escape_at cs) (λ skip. unescaped_behind skip cs)
      | false ↦ with_character c (unescaped_behind zero cs)
    ]

abbrev pub unescaped : List ℕ → Option (List ℕ)
unescaped cs = unescaped_behind 0 cs

-- without the first and the last character
abbrev pub trimmed : List ℕ → List ℕ
trimmed cs = take (length cs - 2) (drop 1 cs)

-- without the first characters
abbrev pub behind_first : ℕ → List ℕ → List ℕ
behind_first n text = encode_utf8_all (drop n (chars text))

-- Strings and IRIs

-- three quotes stand at each end
abbrev pub is_long : List ℕ → Bool
is_long text = (slice_index text 1 == slice_index text 0) && (slice_index text 2 == slice_index text 0)

abbrev pub within_quotes : List ℕ → List ℕ
within_quotes text = cond (is_long text) (trimmed (trimmed (trimmed (chars text)))) (trimmed (chars text))

abbrev pub string_text : List ℕ → Option (List ℕ)
string_text text = option_map encode_utf8_all (unescaped (within_quotes text))

-- an IRI has no character that its token leaves out, and is absolute
abbrev pub proper_iri : Option (List ℕ) → Option (List ℕ)
proper_iri None = None
proper_iri (Some text) = cond (list_all is_iri_char text && is_absolute text) (Some text) None

abbrev pub iri_text : List ℕ → Option (List ℕ)
iri_text text = proper_iri (option_map encode_utf8_all (unescaped (trimmed (chars text))))

abbrev pub is_sound_by : Sign → List ℕ → Bool
is_sound_by Iri text = is_some (iri_text text)
is_sound_by Text text = is_some (string_text text)
is_sound_by _ text = true

-- the token breaks no rule on escapes and on IRIs
abbrev pub is_sound : Lexeme → Bool
is_sound l = is_sound_by (sign_of l) l.text

-- Prefixed names

-- up to the colon and with it, and what follows
abbrev pub prefix_length : List ℕ → ℕ
prefix_length text = position_or_len (λ b. b == 58) text + 1

abbrev pub local_text : List ℕ → List ℕ
local_text text = encode_utf8_all (filter (λ c. not (c == 92)) (chars (drop (prefix_length text) text)))

abbrev pub is_sign : Sign → Sign → Bool
is_sign Prefix Prefix = true
is_sign _ _ = false

-- of a declaration's name and IRI: the IRI, where the name is this one
abbrev pub declared_here : List ℕ → List Lexeme → Option (List ℕ)
declared_here name (ns ∷ iri ∷ ls) = cond (bytes_eq ns.text name) (iri_text iri.text) None
declared_here name _ = None

abbrev pub or_before : Option (List ℕ) → Option (List ℕ) → Option (List ℕ)
or_before None before = before
or_before (Some later) before = Some later

-- the IRI that was last declared for a prefix
abbrev pub declared : List ℕ → List Lexeme → Option (List ℕ)
declared name [] = None
declared name (l ∷ ls) = or_before (declared name ls) (cond (is_sign (sign_of l) Prefix) (declared_here name ls) None)

abbrev pub name_iri_by : Sign → List Lexeme → List ℕ → Option (List ℕ)
name_iri_by Iri all text = iri_text text
name_iri_by PnameNs all text = declared text all
name_iri_by PnameLn all text = option_map (λ iri. iri ++ local_text text) (declared (take (prefix_length text) text) all)
name_iri_by _ all text = None

-- the IRI of a name among all tokens, none where its prefix isn't declared
abbrev pub name_iri : List Lexeme → Lexeme → Option (List ℕ)
name_iri all l = name_iri_by (sign_of l) all l.text
