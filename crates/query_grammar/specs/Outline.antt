-- A query but for its triples (SPARQL 1.1, section 19.8, rules 2 and 4 to 10, and 18 to 27 with 53), as a form of the numbers of its signs.
use Rattle.std.specs.Prelude.{ℕ, Bool, List, [], ◌∷◌, map}
use Rattle.query_tokens.specs.Forms.{Form, one, other, ◌▸◌, ◌∣◌, many, maybe, some, HasForm}
use Rattle.query_tokens.specs.Front.{is_optional, behind}
use Rattle.query_grammar.specs.Signs.{Sign, Prefix, Select, Distinct, Reduced, Where, Limit, Offset, Iri, PnameNs, Variable, Integer, OpenBrace, CloseBrace, Star, number_of}

abbrev pub sign : Sign → Form
sign s = one ((number_of s, number_of s) ∷ [])

-- Prefix ::= 'PREFIX' PnameNs Iri
abbrev pub prefix : Form
prefix = sign Prefix ▸ sign PnameNs ▸ sign Iri

-- Limits ::= ('LIMIT' Integer)? ('OFFSET' Integer)? | 'OFFSET' Integer 'LIMIT' Integer
abbrev pub limits : Form
limits = maybe (sign Limit ▸ sign Integer) ▸ maybe (sign Offset ▸ sign Integer) ∣ sign Offset ▸ sign Integer ▸ sign Limit ▸ sign Integer

-- what may stand between the braces, as far as they can be told apart from it
abbrev pub inside : Form
inside = other ((number_of OpenBrace, number_of CloseBrace) ∷ [])

-- Query ::= Prefix* 'SELECT' ('DISTINCT' | 'REDUCED')? (Var+ | '*') 'WHERE'? '{' .. '}' Limits
abbrev pub query : Form
query = many prefix ▸ sign Select ▸ maybe (sign Distinct ∣ sign Reduced) ▸ (some (sign Variable) ∣ sign Star)
    ▸ maybe (sign Where) ▸ sign OpenBrace ▸ many inside ▸ sign CloseBrace ▸ limits

abbrev pub HasOutline : List Sign → Type 0
HasOutline signs = HasForm query (map number_of signs)

-- From the front

abbrev pub behind_all : List ℕ → Form → Form
behind_all [] form = form
behind_all (n ∷ ns) form = behind_all ns (behind n form)

unfoldable pub has_outline : List Sign → Bool
has_outline signs = is_optional (behind_all (map number_of signs) query)
