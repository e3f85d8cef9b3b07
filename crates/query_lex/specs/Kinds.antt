-- The kinds of the program as the kinds of the definitions.
use Rattle.query_tokens.specs.Tokens as model
use Rattle.query_lex.specs.declared.token.TokenKind.{TokenKind}
use Rattle.query_lex.specs.declared.token.TokenKind.TheVariants as kind

abbrev pub kind_of : TokenKind → model.Kind
kind_of kind.Iri = model.Iri
kind_of kind.PnameNs = model.PnameNs
kind_of kind.PnameLn = model.PnameLn
kind_of kind.Label = model.Label
kind_of kind.Var = model.Var
kind_of kind.LangTag = model.LangTag
kind_of kind.Integer = model.Integer
kind_of kind.Decimal = model.Decimal
kind_of kind.Double = model.Double
kind_of kind.SignedInteger = model.SignedInteger
kind_of kind.SignedDecimal = model.SignedDecimal
kind_of kind.SignedDouble = model.SignedDouble
kind_of kind.Str = model.Str
kind_of kind.Word = model.Word
kind_of kind.Mark = model.Mark
