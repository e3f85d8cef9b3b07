-- What may follow where so much of a token was read.
use Rattle.std.specs.Prelude.{ℕ, List, [], ◌∷◌, ◌++◌, Option, Some, None, codes}
use Rattle.query_tokens.specs.Forms.{Form}
use Rattle.query_tokens.specs.Tokens as model
use Rattle.query_lex.specs.declared.gap.Gap.{Gap}
use Rattle.query_lex.specs.declared.gap.Gap.TheVariants as gap
use Rattle.query_tokens.specs.Tokens.{Kind, Iri, PnameNs, PnameLn, Label, Var, LangTag, Integer, Decimal, Double, SignedInteger, SignedDecimal, SignedDouble, Str, Word, Mark, kinds}
use Rattle.query_tokens.specs.Front.{all_behind, forms_of}
use Rattle.query_lex.specs.Steps.{code_of}
use Rattle.query_lex.specs.declared.state.Body.{Body}
use Rattle.query_lex.specs.declared.state.Body.TheVariants as body
use Rattle.query_lex.specs.declared.state.Digits.{Digits}
use Rattle.query_lex.specs.declared.state.Digits.TheVariants as left
use Rattle.query_lex.specs.declared.state.Sign.{Sign}
use Rattle.query_lex.specs.declared.state.Sign.TheVariants as sign
use Rattle.query_lex.specs.declared.state.Quoted.TheVariants as quoted
use Rattle.query_lex.specs.declared.state.Named.TheVariants as named
use Rattle.query_lex.specs.declared.state.Tagged.TheVariants as tagged
use Rattle.query_lex.specs.declared.state.Number.{Number}
use Rattle.query_lex.specs.declared.state.Number.TheVariants as number
use Rattle.query_lex.specs.declared.state.Prefixed.TheVariants as prefixed
use Rattle.query_lex.specs.declared.state.State.{State}
use Rattle.query_lex.specs.declared.state.State.TheVariants as state

-- what has to follow the characters
abbrev pub behind_all : {K : Type 0} → List ℕ → List (K × Form) → List (K × Form)
behind_all [] es = es
behind_all (c ∷ cs) es = behind_all cs (all_behind c es)

abbrev pub opening : Body → List ℕ
opening body.Iri = codes "<"
opening (body.Short q) = code_of q ∷ codes " "
opening (body.Long q) = code_of q ∷ code_of q ∷ code_of q ∷ []

abbrev pub escape : Digits → List ℕ
escape left.One = codes "\\u000"
escape left.Two = codes "\\u00"
escape left.Three = codes "\\u0"
escape left.Four = codes "\\u"
escape left.Five = codes "\\U000"
escape left.Six = codes "\\U00"
escape left.Seven = codes "\\U0"
escape left.Eight = codes "\\U"

abbrev pub signed : Sign → List ℕ → List ℕ
signed sign.Absent text = text
signed sign.Present text = 45 ∷ text

-- a text that was read so
abbrev pub example : State → List ℕ
example state.Start = []
example (state.Quoted (quoted.Within b)) = opening b
example (state.Quoted (quoted.Backslash b)) = opening b ++ codes "\\"
example (state.Quoted (quoted.Escape b n)) = opening b ++ escape n
example state.IriEnd = codes "<>"
example (state.Quoted (quoted.Opened q)) = code_of q ∷ []
example (state.Quoted (quoted.OpenedTwice q)) = code_of q ∷ code_of q ∷ []
example (state.Quoted (quoted.Closed q)) = code_of q ∷ code_of q ∷ code_of q ∷ code_of q ∷ []
example (state.Quoted (quoted.ClosedTwice q)) = code_of q ∷ code_of q ∷ code_of q ∷ code_of q ∷ code_of q ∷ []
example state.StringEnd = codes "' '"
example (state.Named named.VarMark) = codes "?"
example (state.Named named.Var) = codes "?a"
example (state.Named named.Underscore) = codes "_"
example (state.Named named.LabelMark) = codes "_:"
example (state.Named named.Label) = codes "_:a"
example (state.Named named.LabelStop) = codes "_:a."
example (state.Tagged tagged.Mark) = codes "@"
example (state.Tagged tagged.Letters) = codes "@a"
example (state.Tagged tagged.Dash) = codes "@a-"
example (state.Tagged tagged.Subtag) = codes "@a-a"
example state.Sign = codes "-"
example state.Stop = codes "."
example state.SignStop = codes "-."
example (state.Number s number.Integer) = signed s (codes "1")
example (state.Number s number.IntegerStop) = signed s (codes "1.")
example (state.Number s number.Decimal) = signed s (codes "1.1")
example (state.Number s number.Exponent) = signed s (codes "1e")
example (state.Number s number.ExponentSign) = signed s (codes "1e-")
example (state.Number s number.Double) = signed s (codes "1e1")
example (state.Prefixed prefixed.Word) = codes "a"
example (state.Prefixed prefixed.Prefix) = codes "a1"
example (state.Prefixed prefixed.PrefixStop) = codes "a."
example (state.Prefixed prefixed.Colon) = codes ":"
example (state.Prefixed prefixed.Local) = codes ":a"
example (state.Prefixed prefixed.LocalStop) = codes ":a."
example (state.Prefixed prefixed.Percent) = codes ":%"
example (state.Prefixed prefixed.PercentDigit) = codes ":%0"
example (state.Prefixed prefixed.Backslash) = codes ":\\"
example state.Caret = codes "^"
example state.MarkEnd = codes ";"

-- the kind of what was read, where it is a token
abbrev pub number_kind : Sign → Number → Option Kind
number_kind sign.Absent number.Integer = Some Integer
number_kind sign.Absent number.Decimal = Some Decimal
number_kind sign.Absent number.Double = Some Double
number_kind sign.Present number.Integer = Some SignedInteger
number_kind sign.Present number.Decimal = Some SignedDecimal
number_kind sign.Present number.Double = Some SignedDouble
number_kind s number.IntegerStop = None
number_kind s number.Exponent = None
number_kind s number.ExponentSign = None

abbrev pub kind_read : State → Option Kind
kind_read (state.Quoted (quoted.OpenedTwice q)) = Some Str
kind_read state.IriEnd = Some Iri
kind_read state.StringEnd = Some Str
kind_read (state.Named named.Var) = Some Var
kind_read (state.Named named.Label) = Some Label
kind_read (state.Tagged tagged.Letters) = Some LangTag
kind_read (state.Tagged tagged.Subtag) = Some LangTag
kind_read state.Stop = Some Mark
kind_read (state.Number s n) = number_kind s n
kind_read (state.Prefixed prefixed.Word) = Some Word
kind_read (state.Prefixed prefixed.Colon) = Some PnameNs
kind_read (state.Prefixed prefixed.Local) = Some PnameLn
kind_read state.MarkEnd = Some Mark
kind_read _ = None

-- the forms of what may follow, each with the kind that the token then has
unfoldable pub to_follow : State → List (Kind × Form)
to_follow state = behind_all (example state) (forms_of kinds)

unfoldable pub to_follow_any : Option State → List (Kind × Form)
to_follow_any None = []
to_follow_any (Some state) = to_follow state

-- the same of blanks and comments

abbrev pub gap_example : Gap → List ℕ
gap_example gap.Blanks = []
gap_example gap.Comment = codes "#"

unfoldable pub gap_to_follow : Gap → List (ℕ × Form)
gap_to_follow state = behind_all {K = ℕ} (gap_example state) ((0, model.gap) ∷ [])

unfoldable pub gap_to_follow_any : Option Gap → List (ℕ × Form)
gap_to_follow_any None = []
gap_to_follow_any (Some state) = gap_to_follow state
