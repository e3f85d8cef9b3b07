-- What a further character makes of what was read of a token, or none where no token goes on like this.
use Rattle.std.specs.Prelude.{ℕ, Bool, cond, List, [], ◌∷◌, ◌++◌, Option, Some, None, codes}
use Rattle.ntriples_model.specs.Characters.{in_ranges, letters, digits, pn_chars_base}
use Rattle.query_tokens.specs.Forms.{each}
use Rattle.query_tokens.specs.Tokens.{pn_chars_u, pn_chars, joiners}
use Rattle.query_lex.specs.declared.gap.Gap.{Gap}
use Rattle.query_lex.specs.declared.gap.Gap.TheVariants as gap
use Rattle.query_lex.specs.declared.state.Quote.{Quote}
use Rattle.query_lex.specs.declared.state.Quote.TheVariants as quote
use Rattle.query_lex.specs.declared.state.Body.{Body}
use Rattle.query_lex.specs.declared.state.Body.TheVariants as body
use Rattle.query_lex.specs.declared.state.Digits.{Digits}
use Rattle.query_lex.specs.declared.state.Digits.TheVariants as left
use Rattle.query_lex.specs.declared.state.Sign.{Sign}
use Rattle.query_lex.specs.declared.state.Sign.TheVariants as sign
use Rattle.query_lex.specs.declared.state.Quoted.{Quoted}
use Rattle.query_lex.specs.declared.state.Quoted.TheVariants as quoted
use Rattle.query_lex.specs.declared.state.Named.{Named}
use Rattle.query_lex.specs.declared.state.Named.TheVariants as named
use Rattle.query_lex.specs.declared.state.Tagged.{Tagged}
use Rattle.query_lex.specs.declared.state.Tagged.TheVariants as tagged
use Rattle.query_lex.specs.declared.state.Number.{Number}
use Rattle.query_lex.specs.declared.state.Number.TheVariants as number
use Rattle.query_lex.specs.declared.state.Prefixed.{Prefixed}
use Rattle.query_lex.specs.declared.state.Prefixed.TheVariants as prefixed
use Rattle.query_lex.specs.declared.state.State.{State}
use Rattle.query_lex.specs.declared.state.State.TheVariants as state

-- Classes of characters

pub data Class : Type 0 where
  -- one of these
  One : List ℕ → Class
  Letter : Class
  LetterOrDigit : Class
  Digit : Class
  Hex : Class
  -- what no IRI has as itself
  OutsideIri : Class
  PrefixStart : Class
  PrefixChar : Class
  -- with which a label or a variable's name begins
  NameStart : Class
  VarChar : Class
  LocalStart : Class
  LocalChar : Class

abbrev pub ranges_of : Class → List (ℕ × ℕ)
ranges_of (One cs) = each cs
ranges_of Letter = letters
ranges_of LetterOrDigit = letters ++ digits
ranges_of Digit = digits
ranges_of Hex = (0x30, 0x39) ∷ (0x41, 0x46) ∷ (0x61, 0x66) ∷ []
ranges_of OutsideIri = (0x0, 0x20) ∷ each (codes "<>\"{}|^`\\")
ranges_of PrefixStart = pn_chars_base
ranges_of PrefixChar = pn_chars
ranges_of NameStart = pn_chars_u ++ digits
ranges_of VarChar = pn_chars_u ++ (digits ++ joiners)
ranges_of LocalStart = pn_chars_u ++ (each (codes ":") ++ digits)
ranges_of LocalChar = pn_chars ++ each (codes ":")

unfoldable pub is_in : Class → ℕ → Bool
is_in class c = in_ranges (ranges_of class) c

-- Moves

pub data Moves (S : Type 0) : Type 0 where
  stop : Moves S
  -- whatever the character is
  rest : S → Moves S
  -- a character of the class leads there, others go on
  to : Class → S → Moves S → Moves S
  -- a character of the class stops
  except : Class → Moves S → Moves S

abbrev pub run : {S : Type 0} → Moves S → ℕ → Option S
run stop c = None
run (rest state) c = Some state
run (to class state more) c = cond (is_in class c) (Some state) (run more c)
run (except class more) c = cond (is_in class c) None (run more c)

-- Blanks and comments

abbrev pub gap_moves : Gap → Moves Gap
gap_moves gap.Blanks = to (One (0x20 ∷ 0x9 ∷ 0xD ∷ 0xA ∷ [])) gap.Blanks (to (One (codes "#")) gap.Comment stop)
gap_moves gap.Comment = to (One (0xD ∷ 0xA ∷ [])) gap.Blanks (rest gap.Comment)

-- Tokens

abbrev pub code_of : Quote → ℕ
code_of quote.Single = 0x27
code_of quote.Double = 0x22

abbrev pub start_moves : Moves State
start_moves =
    to (One (codes "<")) (state.Quoted (quoted.Within body.Iri))
    (to (One (codes "'")) (state.Quoted (quoted.Opened quote.Single))
    (to (One (codes "\"")) (state.Quoted (quoted.Opened quote.Double))
    (to (One (codes "?$")) (state.Named named.VarMark)
    (to (One (codes "_")) (state.Named named.Underscore)
    (to (One (codes "@")) (state.Tagged tagged.Mark)
    (to (One (codes "+-")) state.Sign
    (to (One (codes ".")) state.Stop
    (to Digit (state.Number sign.Absent number.Integer)
    (to (One (codes ":")) (state.Prefixed prefixed.Colon)
    (to (One (codes "^")) state.Caret
    (to (One (codes "{}[];,*")) state.MarkEnd
    (to Letter (state.Prefixed prefixed.Word)
    (to PrefixStart (state.Prefixed prefixed.Prefix) stop)))))))))))))

abbrev pub within_moves : Body → Moves State
within_moves body.Iri =
    to (One (codes ">")) state.IriEnd
    (to (One (codes "\\")) (state.Quoted (quoted.Backslash body.Iri))
    (except OutsideIri (rest (state.Quoted (quoted.Within body.Iri)))))
within_moves (body.Short q) =
    to (One (code_of q ∷ [])) state.StringEnd
    (to (One (codes "\\")) (state.Quoted (quoted.Backslash (body.Short q)))
    (except (One (0xA ∷ 0xD ∷ [])) (rest (state.Quoted (quoted.Within (body.Short q))))))
within_moves (body.Long q) =
    to (One (code_of q ∷ [])) (state.Quoted (quoted.Closed q))
    (to (One (codes "\\")) (state.Quoted (quoted.Backslash (body.Long q)))
    (rest (state.Quoted (quoted.Within (body.Long q)))))

abbrev pub number_moves : Body → Moves State
number_moves b =
    to (One (codes "u")) (state.Quoted (quoted.Escape b left.Four))
    (to (One (codes "U")) (state.Quoted (quoted.Escape b left.Eight)) stop)

abbrev pub backslash_moves : Body → Moves State
backslash_moves body.Iri = number_moves body.Iri
backslash_moves (body.Short q) = to (One (codes "tbnrf\"'\\")) (state.Quoted (quoted.Within (body.Short q))) (number_moves (body.Short q))
backslash_moves (body.Long q) = to (One (codes "tbnrf\"'\\")) (state.Quoted (quoted.Within (body.Long q))) (number_moves (body.Long q))

-- behind one of so many digits
abbrev pub behind_digit : Body → Digits → State
behind_digit b left.One = state.Quoted (quoted.Within b)
behind_digit b left.Two = state.Quoted (quoted.Escape b left.One)
behind_digit b left.Three = state.Quoted (quoted.Escape b left.Two)
behind_digit b left.Four = state.Quoted (quoted.Escape b left.Three)
behind_digit b left.Five = state.Quoted (quoted.Escape b left.Four)
behind_digit b left.Six = state.Quoted (quoted.Escape b left.Five)
behind_digit b left.Seven = state.Quoted (quoted.Escape b left.Six)
behind_digit b left.Eight = state.Quoted (quoted.Escape b left.Seven)

abbrev pub exponent_or : Sign → Moves State → Moves State
exponent_or s others = to (One (codes "eE")) (state.Number s number.Exponent) others

abbrev pub quoted_moves : Quoted → Moves State
quoted_moves (quoted.Within b) = within_moves b
quoted_moves (quoted.Backslash b) = backslash_moves b
quoted_moves (quoted.Escape b n) = to Hex (behind_digit b n) stop
quoted_moves (quoted.Opened q) = to (One (code_of q ∷ [])) (state.Quoted (quoted.OpenedTwice q)) (within_moves (body.Short q))
quoted_moves (quoted.OpenedTwice q) = to (One (code_of q ∷ [])) (state.Quoted (quoted.Within (body.Long q))) stop
quoted_moves (quoted.Closed q) = to (One (code_of q ∷ [])) (state.Quoted (quoted.ClosedTwice q)) (within_moves (body.Long q))
quoted_moves (quoted.ClosedTwice q) = to (One (code_of q ∷ [])) state.StringEnd (within_moves (body.Long q))

abbrev pub named_moves : Named → Moves State
named_moves named.VarMark = to NameStart (state.Named named.Var) stop
named_moves named.Var = to VarChar (state.Named named.Var) stop
named_moves named.Underscore = to (One (codes ":")) (state.Named named.LabelMark) stop
named_moves named.LabelMark = to NameStart (state.Named named.Label) stop
named_moves named.Label = to PrefixChar (state.Named named.Label) (to (One (codes ".")) (state.Named named.LabelStop) stop)
named_moves named.LabelStop = to PrefixChar (state.Named named.Label) (to (One (codes ".")) (state.Named named.LabelStop) stop)

abbrev pub tagged_moves : Tagged → Moves State
tagged_moves tagged.Mark = to Letter (state.Tagged tagged.Letters) stop
tagged_moves tagged.Letters = to Letter (state.Tagged tagged.Letters) (to (One (codes "-")) (state.Tagged tagged.Dash) stop)
tagged_moves tagged.Dash = to LetterOrDigit (state.Tagged tagged.Subtag) stop
tagged_moves tagged.Subtag = to LetterOrDigit (state.Tagged tagged.Subtag) (to (One (codes "-")) (state.Tagged tagged.Dash) stop)

abbrev pub escape_moves : Moves State
escape_moves = to (One (codes "%")) (state.Prefixed prefixed.Percent) (to (One (codes "\\")) (state.Prefixed prefixed.Backslash) stop)

abbrev pub prefixed_moves : Prefixed → Moves State
prefixed_moves prefixed.Word = to Letter (state.Prefixed prefixed.Word) (to PrefixChar (state.Prefixed prefixed.Prefix) (to (One (codes ".")) (state.Prefixed prefixed.PrefixStop) (to (One (codes ":")) (state.Prefixed prefixed.Colon) stop)))
prefixed_moves prefixed.Prefix = to PrefixChar (state.Prefixed prefixed.Prefix) (to (One (codes ".")) (state.Prefixed prefixed.PrefixStop) (to (One (codes ":")) (state.Prefixed prefixed.Colon) stop))
prefixed_moves prefixed.PrefixStop = to PrefixChar (state.Prefixed prefixed.Prefix) (to (One (codes ".")) (state.Prefixed prefixed.PrefixStop) stop)
prefixed_moves prefixed.Colon = to LocalStart (state.Prefixed prefixed.Local) escape_moves
prefixed_moves prefixed.Local = to LocalChar (state.Prefixed prefixed.Local) (to (One (codes ".")) (state.Prefixed prefixed.LocalStop) escape_moves)
prefixed_moves prefixed.LocalStop = to LocalChar (state.Prefixed prefixed.Local) (to (One (codes ".")) (state.Prefixed prefixed.LocalStop) escape_moves)
prefixed_moves prefixed.Percent = to Hex (state.Prefixed prefixed.PercentDigit) stop
prefixed_moves prefixed.PercentDigit = to Hex (state.Prefixed prefixed.Local) stop
prefixed_moves prefixed.Backslash = to (One (codes "_~.!$&'()*+,;=/?#@%-")) (state.Prefixed prefixed.Local) stop

abbrev pub signed_moves : Sign → Number → Moves State
signed_moves s number.Integer = to Digit (state.Number s number.Integer) (to (One (codes ".")) (state.Number s number.IntegerStop) (exponent_or s stop))
signed_moves s number.IntegerStop = to Digit (state.Number s number.Decimal) (exponent_or s stop)
signed_moves s number.Decimal = to Digit (state.Number s number.Decimal) (exponent_or s stop)
signed_moves s number.Exponent = to Digit (state.Number s number.Double) (to (One (codes "+-")) (state.Number s number.ExponentSign) stop)
signed_moves s number.ExponentSign = to Digit (state.Number s number.Double) stop
signed_moves s number.Double = to Digit (state.Number s number.Double) stop

abbrev pub moves : State → Moves State
moves state.Start = start_moves
moves state.IriEnd = stop
moves state.StringEnd = stop
moves state.Sign = to Digit (state.Number sign.Present number.Integer) (to (One (codes ".")) state.SignStop stop)
moves state.Stop = to Digit (state.Number sign.Absent number.Decimal) stop
moves state.SignStop = to Digit (state.Number sign.Present number.Decimal) stop
moves state.Caret = to (One (codes "^")) state.MarkEnd stop
moves state.MarkEnd = stop
moves (state.Quoted part) = quoted_moves part
moves (state.Named part) = named_moves part
moves (state.Tagged part) = tagged_moves part
moves (state.Number s part) = signed_moves s part
moves (state.Prefixed part) = prefixed_moves part

abbrev pub step_of : State → ℕ → Option State
step_of state c = run (moves state) c
