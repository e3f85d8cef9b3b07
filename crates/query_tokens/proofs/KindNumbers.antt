-- The kinds of tokens by their numbers.
use Rattle.std.proofs.Common.{◌≡◌, ◌∙◌, ℕ, zero, suc, List, [], ◌∷◌, refl, sym, ap}
use Rattle.query_tokens.specs.Tokens.{Kind, Iri, PnameNs, PnameLn, Label, Var, LangTag, Integer, Decimal, Double, SignedInteger, SignedDecimal, SignedDouble, Str, Word, Mark, kinds}
use Rattle.query_tokens.proofs.Cuts.{OneToOne}

abbrev pub number_of : Kind → ℕ
number_of Iri = 0
number_of PnameNs = 1
number_of PnameLn = 2
number_of Label = 3
number_of Var = 4
number_of LangTag = 5
number_of Integer = 6
number_of Decimal = 7
number_of Double = 8
number_of SignedInteger = 9
number_of SignedDecimal = 10
number_of SignedDouble = 11
number_of Str = 12
number_of Word = 13
number_of Mark = 14

abbrev nth : ℕ → List Kind → Kind
nth n [] = Mark
nth zero (kind ∷ ks) = kind
nth (suc n) (kind ∷ ks) = nth n ks

by_number : (kind : Kind) → nth (number_of kind) kinds ≡ kind
by_number Iri = refl
by_number PnameNs = refl
by_number PnameLn = refl
by_number Label = refl
by_number Var = refl
by_number LangTag = refl
by_number Integer = refl
by_number Decimal = refl
by_number Double = refl
by_number SignedInteger = refl
by_number SignedDecimal = refl
by_number SignedDouble = refl
by_number Str = refl
by_number Word = refl
by_number Mark = refl

pub one_to_one : OneToOne number_of
one_to_one j k h = sym (by_number j) ∙ (ap (λ n. nth n kinds) h ∙ by_number k)
