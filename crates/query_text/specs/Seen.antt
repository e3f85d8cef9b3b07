-- The signs of the program as the signs of the definitions, and what a token's meaning is once its escapes are read.
use Rattle.std.specs.Prelude.{ℕ, List, ◌++◌, Option, encode_utf8_all, not, ◌==◌}
use Rattle.std.specs.List.{filter}
use Rattle.std.specs.Option.{option_map}
use Rattle.std.specs.Str.{chars}
use Rattle.query_grammar.specs.Signs as model
use Rattle.query_grammar.specs.Texts.{unescaped}
use Rattle.query_text.specs.declared.sign.Sign.{Sign}
use Rattle.query_text.specs.declared.sign.Sign.TheVariants as sign

abbrev pub sign_seen : Sign → model.Sign
sign_seen sign.Prefix = model.Prefix
sign_seen sign.Select = model.Select
sign_seen sign.Distinct = model.Distinct
sign_seen sign.Reduced = model.Reduced
sign_seen sign.Where = model.Where
sign_seen sign.Limit = model.Limit
sign_seen sign.Offset = model.Offset
sign_seen sign.True = model.True
sign_seen sign.False = model.False
sign_seen sign.TypeOf = model.TypeOf
sign_seen sign.OtherWord = model.OtherWord
sign_seen sign.Iri = model.Iri
sign_seen sign.PnameNs = model.PnameNs
sign_seen sign.PnameLn = model.PnameLn
sign_seen sign.Label = model.Label
sign_seen sign.Variable = model.Variable
sign_seen sign.LangTag = model.LangTag
sign_seen sign.Integer = model.Integer
sign_seen sign.Number = model.Number
sign_seen sign.Text = model.Text
sign_seen sign.OpenBrace = model.OpenBrace
sign_seen sign.CloseBrace = model.CloseBrace
sign_seen sign.Open = model.Open
sign_seen sign.Close = model.Close
sign_seen sign.Stop = model.Stop
sign_seen sign.Comma = model.Comma
sign_seen sign.Semicolon = model.Semicolon
sign_seen sign.Star = model.Star
sign_seen sign.Carets = model.Carets

-- the text that a text with escapes stands for
unfoldable pub meaning : List ℕ → Option (List ℕ)
meaning text = option_map encode_utf8_all (unescaped (chars text))

-- with a piece before it
abbrev pub longer : List ℕ → Option (List ℕ) → Option (List ℕ)
longer piece more = option_map (λ text. piece ++ text) more

-- the text of characters without their backslashes
abbrev pub kept : List ℕ → List ℕ
kept cs = encode_utf8_all (filter (λ c. not (c == 92)) cs)
