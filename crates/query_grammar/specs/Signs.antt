-- The terminals of the grammar of queries (SPARQL 1.1, section 19.8). Words are compared without regard to ASCII case, but
-- for `a`.
use Rattle.std.specs.Prelude.{ℕ, cond, List, ◌==◌, map, codes, slice_index}
use Rattle.std.specs.Char.{to_ascii_lowercase}
use Rattle.std.specs.Str.{bytes_eq}
use Rattle.query_tokens.specs.Tokens as kind
use Rattle.query_tokens.specs.Tokens.{Kind}
use Rattle.query_grammar.specs.Block as role
use Rattle.query_grammar.specs.Block.{Role}
use Rattle.query_grammar.specs.Lexemes.{Lexeme}

pub data Sign : Type 0 where
  Prefix : Sign
  Select : Sign
  Distinct : Sign
  Reduced : Sign
  Where : Sign
  Limit : Sign
  Offset : Sign
  -- `true`, `false` and `a`
  True : Sign
  False : Sign
  TypeOf : Sign
  OtherWord : Sign
  Iri : Sign
  PnameNs : Sign
  PnameLn : Sign
  Label : Sign
  Variable : Sign
  LangTag : Sign
  Integer : Sign
  -- the other numbers
  Number : Sign
  Text : Sign
  OpenBrace : Sign
  CloseBrace : Sign
  Open : Sign
  Close : Sign
  Stop : Sign
  Comma : Sign
  Semicolon : Sign
  Star : Sign
  Carets : Sign

abbrev pub number_of : Sign → ℕ
number_of Prefix = 0
number_of Select = 1
number_of Distinct = 2
number_of Reduced = 3
number_of Where = 4
number_of Limit = 5
number_of Offset = 6
number_of True = 7
number_of False = 8
number_of TypeOf = 9
number_of OtherWord = 10
number_of Iri = 11
number_of PnameNs = 12
number_of PnameLn = 13
number_of Label = 14
number_of Variable = 15
number_of LangTag = 16
number_of Integer = 17
number_of Number = 18
number_of Text = 19
number_of OpenBrace = 20
number_of CloseBrace = 21
number_of Open = 22
number_of Close = 23
number_of Stop = 24
number_of Comma = 25
number_of Semicolon = 26
number_of Star = 27
number_of Carets = 28

-- the sign of a word, by its text and by that in lower case
abbrev pub word_sign : List ℕ → List ℕ → Sign
word_sign text lower =
    cond (bytes_eq lower (codes "prefix")) Prefix
    (cond (bytes_eq lower (codes "select")) Select
    (cond (bytes_eq lower (codes "distinct")) Distinct
    (cond (bytes_eq lower (codes "reduced")) Reduced
    (cond (bytes_eq lower (codes "where")) Where
    (cond (bytes_eq lower (codes "limit")) Limit
    (cond (bytes_eq lower (codes "offset")) Offset
    (cond (bytes_eq lower (codes "true")) True
    (cond (bytes_eq lower (codes "false")) False
    (cond (bytes_eq text (codes "a")) TypeOf OtherWord)))))))))

abbrev pub mark_sign : ℕ → Sign
mark_sign c =
    cond (c == 0x7B) OpenBrace
    (cond (c == 0x7D) CloseBrace
    (cond (c == 0x5B) Open
    (cond (c == 0x5D) Close
    (cond (c == 0x2E) Stop
    (cond (c == 0x2C) Comma
    (cond (c == 0x3B) Semicolon
    (cond (c == 0x2A) Star Carets)))))))

abbrev pub sign_by : Kind → List ℕ → Sign
sign_by kind.Iri text = Iri
sign_by kind.PnameNs text = PnameNs
sign_by kind.PnameLn text = PnameLn
sign_by kind.Label text = Label
sign_by kind.Var text = Variable
sign_by kind.LangTag text = LangTag
sign_by kind.Integer text = Integer
sign_by kind.Decimal text = Number
sign_by kind.Double text = Number
sign_by kind.SignedInteger text = Number
sign_by kind.SignedDecimal text = Number
sign_by kind.SignedDouble text = Number
sign_by kind.Str text = Text
sign_by kind.Word text = word_sign text (map to_ascii_lowercase text)
sign_by kind.Mark text = mark_sign (slice_index text 0)

unfoldable pub sign_of : Lexeme → Sign
sign_of lexeme = sign_by lexeme.kind lexeme.text

-- what a sign is among triples
abbrev pub role_of : Sign → Role
role_of True = role.Term
role_of False = role.Term
role_of Label = role.Term
role_of Integer = role.Term
role_of Number = role.Term
role_of Iri = role.Name
role_of PnameNs = role.Name
role_of PnameLn = role.Name
role_of Variable = role.Variable
role_of TypeOf = role.TypeOf
role_of Text = role.Text
role_of LangTag = role.LangTag
role_of Carets = role.Carets
role_of Open = role.Open
role_of Close = role.Close
role_of Stop = role.Stop
role_of Comma = role.Comma
role_of Semicolon = role.Semicolon
role_of _ = role.Other
