-- All states, so that a test on them can be computed.
use Rattle.std.proofs.Common.{◌≡◌, Bool, true, ◌⊎◌, List, [], ◌∷◌, ◌++◌, map, ◌∙◌, refl, ap, subst, inl, inr}
use Rattle.std.specs.List.{list_all}
use Rattle.query_tokens.proofs.Behind.{both}
use Rattle.query_lex.specs.declared.state.Quote.{Quote}
use Rattle.query_lex.specs.declared.state.Quote.TheVariants as quote
use Rattle.query_lex.specs.declared.state.Body.{Body}
use Rattle.query_lex.specs.declared.state.Body.TheVariants as body
use Rattle.query_lex.specs.declared.state.Digits.{Digits}
use Rattle.query_lex.specs.declared.state.Digits.TheVariants as left
use Rattle.query_lex.specs.declared.state.Sign.TheVariants as sign
use Rattle.query_lex.specs.declared.state.Quoted.{Quoted}
use Rattle.query_lex.specs.declared.state.Quoted.TheVariants as quoted
use Rattle.query_lex.specs.declared.state.Named.{Named}
use Rattle.query_lex.specs.declared.state.Named.TheVariants as named
use Rattle.query_lex.specs.declared.state.Tagged.{Tagged}
use Rattle.query_lex.specs.declared.state.Tagged.TheVariants as tagged
use Rattle.query_lex.specs.declared.state.Number.{Number}
use Rattle.query_lex.specs.declared.state.Number.TheVariants as number
use Rattle.query_lex.specs.declared.state.Prefixed.{Prefixed}
use Rattle.query_lex.specs.declared.state.Prefixed.TheVariants as prefixed
use Rattle.query_lex.specs.declared.state.State.{State}
use Rattle.query_lex.specs.declared.state.State.TheVariants as state

abbrev Among : {X : Type 0} → X → List X → Type 0
Among x [] = ⊥
Among x (y ∷ ys) = (x ≡ y) ⊎ Among x ys

among_left : {X : Type 0} (x : X) (xs ys : List X) → Among x xs → Among x (xs ++ ys)
among_left x [] ys h = absurd h
among_left x (y ∷ xs) ys (inl h) = inl h
among_left x (y ∷ xs) ys (inr h) = inr (among_left x xs ys h)

among_right : {X : Type 0} (x : X) (xs ys : List X) → Among x ys → Among x (xs ++ ys)
among_right x [] ys h = h
among_right x (y ∷ xs) ys h = inr (among_right x xs ys h)

among_map : {X Y : Type 0} (f : X → Y) (x : X) (xs : List X) → Among x xs → Among (f x) (map f xs)
among_map f x [] h = h
among_map f x (y ∷ xs) (inl h) = inl (ap f h)
among_map f x (y ∷ xs) (inr h) = inr (among_map f x xs h)

passes : {X : Type 0} (test : X → Bool) (xs : List X) (x : X) → list_all test xs ≡ true → Among x xs → test x ≡ true
passes test [] x h m = absurd m
passes test (y ∷ xs) x h (inl m) = ap test m ∙ (both _ _ h).0
passes test (y ∷ xs) x h (inr m) = passes test xs x (both _ _ h).1 m

abbrev quotes : List Quote
quotes = quote.Single ∷ quote.Double ∷ []

all_quotes : (x : Quote) → Among x quotes
all_quotes quote.Single = inl refl
all_quotes quote.Double = inr (inl refl)

abbrev bodies : List Body
bodies = body.Iri ∷ (map body.Short quotes ++ map body.Long quotes)

all_bodies : (x : Body) → Among x bodies
all_bodies body.Iri = inl refl
all_bodies (body.Short q) = inr (among_left (body.Short q) (map body.Short quotes) (map body.Long quotes) (among_map body.Short q quotes (all_quotes q)))
all_bodies (body.Long q) = inr (among_right (body.Long q) (map body.Short quotes) (map body.Long quotes) (among_map body.Long q quotes (all_quotes q)))

abbrev counts : List Digits
counts = left.One ∷ left.Two ∷ left.Three ∷ left.Four ∷ left.Five ∷ left.Six ∷ left.Seven ∷ left.Eight ∷ []

all_counts : (x : Digits) → Among x counts
all_counts left.One = inl refl
all_counts left.Two = inr (inl refl)
all_counts left.Three = inr (inr (inl refl))
all_counts left.Four = inr (inr (inr (inl refl)))
all_counts left.Five = inr (inr (inr (inr (inl refl))))
all_counts left.Six = inr (inr (inr (inr (inr (inl refl)))))
all_counts left.Seven = inr (inr (inr (inr (inr (inr (inl refl))))))
all_counts left.Eight = inr (inr (inr (inr (inr (inr (inr (inl refl)))))))

abbrev escapes : List Body → List Quoted
escapes [] = []
escapes (b ∷ bs) = map (quoted.Escape b) counts ++ escapes bs

all_escapes : (bs : List Body) (b : Body) (d : Digits) → Among b bs → Among (quoted.Escape b d) (escapes bs)
all_escapes [] b d h = h
all_escapes (a ∷ bs) b d (inl h) =
    among_left (quoted.Escape b d) (map (quoted.Escape a) counts) (escapes bs)
    (subst (λ x. Among (quoted.Escape b d) (map (quoted.Escape x) counts)) h (among_map (quoted.Escape b) d counts (all_counts d)))
all_escapes (a ∷ bs) b d (inr h) = among_right (quoted.Escape b d) (map (quoted.Escape a) counts) (escapes bs) (all_escapes bs b d h)

abbrev by_quote : List Quoted
by_quote = map quoted.Opened quotes ++ (map quoted.OpenedTwice quotes ++ (map quoted.Closed quotes ++ map quoted.ClosedTwice quotes))

abbrev escaped : List Quoted
escaped = escapes bodies ++ by_quote

abbrev behind_within : List Quoted
behind_within = map quoted.Backslash bodies ++ escaped

abbrev quoteds : List Quoted
quoteds = map quoted.Within bodies ++ behind_within

in_quotes : (x : Quoted) → Among x by_quote → Among x quoteds
in_quotes x h = among_right x (map quoted.Within bodies) behind_within (among_right x (map quoted.Backslash bodies) escaped (among_right x (escapes bodies) by_quote h))

all_quoteds : (x : Quoted) → Among x quoteds
all_quoteds (quoted.Within b) = among_left (quoted.Within b) (map quoted.Within bodies) behind_within (among_map quoted.Within b bodies (all_bodies b))
all_quoteds (quoted.Backslash b) =
    among_right (quoted.Backslash b) (map quoted.Within bodies) behind_within
    (among_left (quoted.Backslash b) (map quoted.Backslash bodies) escaped (among_map quoted.Backslash b bodies (all_bodies b)))
all_quoteds (quoted.Escape b d) =
    among_right (quoted.Escape b d) (map quoted.Within bodies) behind_within (among_right (quoted.Escape b d) (map quoted.Backslash bodies) escaped
    (among_left (quoted.Escape b d) (escapes bodies) by_quote (all_escapes bodies b d (all_bodies b))))
all_quoteds (quoted.Opened quote.Single) = in_quotes (quoted.Opened quote.Single) (inl refl)
all_quoteds (quoted.Opened quote.Double) = in_quotes (quoted.Opened quote.Double) (inr (inl refl))
all_quoteds (quoted.OpenedTwice quote.Single) = in_quotes (quoted.OpenedTwice quote.Single) (inr (inr (inl refl)))
all_quoteds (quoted.OpenedTwice quote.Double) = in_quotes (quoted.OpenedTwice quote.Double) (inr (inr (inr (inl refl))))
all_quoteds (quoted.Closed quote.Single) = in_quotes (quoted.Closed quote.Single) (inr (inr (inr (inr (inl refl)))))
all_quoteds (quoted.Closed quote.Double) = in_quotes (quoted.Closed quote.Double) (inr (inr (inr (inr (inr (inl refl))))))
all_quoteds (quoted.ClosedTwice quote.Single) = in_quotes (quoted.ClosedTwice quote.Single) (inr (inr (inr (inr (inr (inr (inl refl)))))))
all_quoteds (quoted.ClosedTwice quote.Double) = in_quotes (quoted.ClosedTwice quote.Double) (inr (inr (inr (inr (inr (inr (inr (inl refl))))))))

abbrev nameds : List Named
nameds = named.VarMark ∷ named.Var ∷ named.Underscore ∷ named.LabelMark ∷ named.Label ∷ named.LabelStop ∷ []

all_nameds : (x : Named) → Among x nameds
all_nameds named.VarMark = inl refl
all_nameds named.Var = inr (inl refl)
all_nameds named.Underscore = inr (inr (inl refl))
all_nameds named.LabelMark = inr (inr (inr (inl refl)))
all_nameds named.Label = inr (inr (inr (inr (inl refl))))
all_nameds named.LabelStop = inr (inr (inr (inr (inr (inl refl)))))

abbrev taggeds : List Tagged
taggeds = tagged.Mark ∷ tagged.Letters ∷ tagged.Dash ∷ tagged.Subtag ∷ []

all_taggeds : (x : Tagged) → Among x taggeds
all_taggeds tagged.Mark = inl refl
all_taggeds tagged.Letters = inr (inl refl)
all_taggeds tagged.Dash = inr (inr (inl refl))
all_taggeds tagged.Subtag = inr (inr (inr (inl refl)))

abbrev numbers : List Number
numbers = number.Integer ∷ number.IntegerStop ∷ number.Decimal ∷ number.Exponent ∷ number.ExponentSign ∷ number.Double ∷ []

all_numbers : (x : Number) → Among x numbers
all_numbers number.Integer = inl refl
all_numbers number.IntegerStop = inr (inl refl)
all_numbers number.Decimal = inr (inr (inl refl))
all_numbers number.Exponent = inr (inr (inr (inl refl)))
all_numbers number.ExponentSign = inr (inr (inr (inr (inl refl))))
all_numbers number.Double = inr (inr (inr (inr (inr (inl refl)))))

abbrev prefixeds : List Prefixed
prefixeds = prefixed.Word ∷ prefixed.Prefix ∷ prefixed.PrefixStop ∷ prefixed.Colon ∷ prefixed.Local ∷ prefixed.LocalStop ∷ prefixed.Percent ∷ prefixed.PercentDigit ∷ prefixed.Backslash ∷ []

all_prefixeds : (x : Prefixed) → Among x prefixeds
all_prefixeds prefixed.Word = inl refl
all_prefixeds prefixed.Prefix = inr (inl refl)
all_prefixeds prefixed.PrefixStop = inr (inr (inl refl))
all_prefixeds prefixed.Colon = inr (inr (inr (inl refl)))
all_prefixeds prefixed.Local = inr (inr (inr (inr (inl refl))))
all_prefixeds prefixed.LocalStop = inr (inr (inr (inr (inr (inl refl)))))
all_prefixeds prefixed.Percent = inr (inr (inr (inr (inr (inr (inl refl))))))
all_prefixeds prefixed.PercentDigit = inr (inr (inr (inr (inr (inr (inr (inl refl)))))))
all_prefixeds prefixed.Backslash = inr (inr (inr (inr (inr (inr (inr (inr (inl refl))))))))

abbrev plain : List State
plain = state.Start ∷ state.IriEnd ∷ state.StringEnd ∷ state.Sign ∷ state.Stop ∷ state.SignStop ∷ state.Caret ∷ state.MarkEnd ∷ []

abbrev all_numbered : List State
all_numbered = map (state.Number sign.Absent) numbers ++ map (state.Number sign.Present) numbers

abbrev from_prefixed : List State
from_prefixed = map state.Prefixed prefixeds ++ all_numbered

abbrev from_tagged : List State
from_tagged = map state.Tagged taggeds ++ from_prefixed

abbrev from_named : List State
from_named = map state.Named nameds ++ from_tagged

abbrev from_quoted : List State
from_quoted = map state.Quoted quoteds ++ from_named

abbrev pub states : List State
states = plain ++ from_quoted

all_states : (x : State) → Among x states
all_states state.Start = among_left state.Start plain from_quoted (inl refl)
all_states state.IriEnd = among_left state.IriEnd plain from_quoted (inr (inl refl))
all_states state.StringEnd = among_left state.StringEnd plain from_quoted (inr (inr (inl refl)))
all_states state.Sign = among_left state.Sign plain from_quoted (inr (inr (inr (inl refl))))
all_states state.Stop = among_left state.Stop plain from_quoted (inr (inr (inr (inr (inl refl)))))
all_states state.SignStop = among_left state.SignStop plain from_quoted (inr (inr (inr (inr (inr (inl refl))))))
all_states state.Caret = among_left state.Caret plain from_quoted (inr (inr (inr (inr (inr (inr (inl refl)))))))
all_states state.MarkEnd = among_left state.MarkEnd plain from_quoted (inr (inr (inr (inr (inr (inr (inr (inl refl))))))))
all_states (state.Quoted p) = (among_right (state.Quoted p) plain from_quoted (among_left (state.Quoted p) (map state.Quoted quoteds) from_named (among_map state.Quoted p quoteds (all_quoteds p))))
all_states (state.Named p) = (among_right (state.Named p) plain from_quoted (among_right (state.Named p) (map state.Quoted quoteds) from_named (among_left (state.Named p) (map state.Named nameds) from_tagged (among_map state.Named p nameds (all_nameds p)))))
all_states (state.Tagged p) = (among_right (state.Tagged p) plain from_quoted (among_right (state.Tagged p) (map state.Quoted quoteds) from_named (among_right (state.Tagged p) (map state.Named nameds) from_tagged (among_left (state.Tagged p) (map state.Tagged taggeds) from_prefixed (among_map state.Tagged p taggeds (all_taggeds p))))))
all_states (state.Prefixed p) = (among_right (state.Prefixed p) plain from_quoted (among_right (state.Prefixed p) (map state.Quoted quoteds) from_named (among_right (state.Prefixed p) (map state.Named nameds) from_tagged (among_right (state.Prefixed p) (map state.Tagged taggeds) from_prefixed (among_left (state.Prefixed p) (map state.Prefixed prefixeds) all_numbered (among_map state.Prefixed p prefixeds (all_prefixeds p)))))))
all_states (state.Number sign.Absent n) = (among_right (state.Number sign.Absent n) plain from_quoted (among_right (state.Number sign.Absent n) (map state.Quoted quoteds) from_named (among_right (state.Number sign.Absent n) (map state.Named nameds) from_tagged (among_right (state.Number sign.Absent n) (map state.Tagged taggeds) from_prefixed (among_right (state.Number sign.Absent n) (map state.Prefixed prefixeds) all_numbered (among_left (state.Number sign.Absent n) (map (state.Number sign.Absent) numbers) (map (state.Number sign.Present) numbers) (among_map (state.Number sign.Absent) n numbers (all_numbers n))))))))
all_states (state.Number sign.Present n) = (among_right (state.Number sign.Present n) plain from_quoted (among_right (state.Number sign.Present n) (map state.Quoted quoteds) from_named (among_right (state.Number sign.Present n) (map state.Named nameds) from_tagged (among_right (state.Number sign.Present n) (map state.Tagged taggeds) from_prefixed (among_right (state.Number sign.Present n) (map state.Prefixed prefixeds) all_numbered (among_right (state.Number sign.Present n) (map (state.Number sign.Absent) numbers) (map (state.Number sign.Present) numbers) (among_map (state.Number sign.Present) n numbers (all_numbers n))))))))

-- what all states pass each of them passes
pub at_state : (test : State → Bool) → list_all test states ≡ true → (x : State) → test x ≡ true
at_state test h x = passes test states x h (all_states x)
