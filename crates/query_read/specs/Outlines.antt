-- The outline of a query, token by token.
use Rattle.std.specs.Prelude.{Bool, true, false, List, [], ◌∷◌}
use Rattle.query_tokens.specs.Forms.{Form}
use Rattle.query_grammar.specs.Outline as outline
use Rattle.query_grammar.specs.Signs.{Sign, Prefix, Select, Distinct, Reduced, Where, Limit, Offset, Iri, PnameNs, Variable, Integer, OpenBrace, CloseBrace, Star, number_of}
use Rattle.std.specs.Prelude.{map}
use Rattle.query_read.specs.declared.outline.Outline.{Outline}
use Rattle.query_read.specs.declared.outline.Outline.TheVariants as at

-- signs that lead there
abbrev pub example : Outline → List Sign
example at.Prologue = []
example at.PrefixWord = Prefix ∷ []
example at.PrefixName = Prefix ∷ PnameNs ∷ []
example at.Select = Select ∷ []
example at.Modified = Select ∷ Distinct ∷ []
example at.Variables = Select ∷ Variable ∷ []
example at.Star = Select ∷ Star ∷ []
example at.Where = Select ∷ Star ∷ Where ∷ []
example at.Within = Select ∷ Star ∷ OpenBrace ∷ []
example at.Behind = Select ∷ Star ∷ OpenBrace ∷ CloseBrace ∷ []
example at.LimitWord = Select ∷ Star ∷ OpenBrace ∷ CloseBrace ∷ Limit ∷ []
example at.Limited = Select ∷ Star ∷ OpenBrace ∷ CloseBrace ∷ Limit ∷ Integer ∷ []
example at.OffsetWord = Select ∷ Star ∷ OpenBrace ∷ CloseBrace ∷ Offset ∷ []
example at.Shifted = Select ∷ Star ∷ OpenBrace ∷ CloseBrace ∷ Offset ∷ Integer ∷ []
example at.LastLimit = Select ∷ Star ∷ OpenBrace ∷ CloseBrace ∷ Offset ∷ Integer ∷ Limit ∷ []
example at.LastOffset = Select ∷ Star ∷ OpenBrace ∷ CloseBrace ∷ Limit ∷ Integer ∷ Offset ∷ []
example at.Ended = Select ∷ Star ∷ OpenBrace ∷ CloseBrace ∷ Limit ∷ Integer ∷ Offset ∷ Integer ∷ []
example at.Failed = OpenBrace ∷ []

-- what may follow
unfoldable pub to_follow : Outline → Form
to_follow state = outline.behind_all (map number_of (example state)) outline.query

-- what a further sign leads to
abbrev pub moves_within : Sign → Outline
moves_within CloseBrace = at.Behind
moves_within OpenBrace = at.Failed
moves_within _ = at.Within

abbrev pub moves : Outline → Sign → Outline
moves at.Prologue Prefix = at.PrefixWord
moves at.Prologue Select = at.Select
moves at.PrefixWord PnameNs = at.PrefixName
moves at.PrefixName Iri = at.Prologue
moves at.Select Distinct = at.Modified
moves at.Select Reduced = at.Modified
moves at.Select Variable = at.Variables
moves at.Select Star = at.Star
moves at.Modified Variable = at.Variables
moves at.Modified Star = at.Star
moves at.Variables Variable = at.Variables
moves at.Variables Where = at.Where
moves at.Variables OpenBrace = at.Within
moves at.Star Where = at.Where
moves at.Star OpenBrace = at.Within
moves at.Where OpenBrace = at.Within
moves at.Within sign = moves_within sign
moves at.Behind Limit = at.LimitWord
moves at.Behind Offset = at.OffsetWord
moves at.LimitWord Integer = at.Limited
moves at.OffsetWord Integer = at.Shifted
moves at.Limited Offset = at.LastOffset
moves at.Shifted Limit = at.LastLimit
moves at.LastLimit Integer = at.Ended
moves at.LastOffset Integer = at.Ended
moves _ _ = at.Failed

abbrev pub may_end : Outline → Bool
may_end at.Behind = true
may_end at.Limited = true
may_end at.Shifted = true
may_end at.Ended = true
may_end _ = false
