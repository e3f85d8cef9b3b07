-- Runs of characters of a prefix that no colon ends, which are looked at once.
use Rattle.std.specs.Prelude.{◌≡◌, ℕ, ◌<◌, Bool, true, false, List, ◌++◌, length, None, encode_utf8_all}
use Rattle.std.specs.Str.{chars}
use Rattle.query_tokens.specs.Front.{longest}
use Rattle.query_lex.specs.Meaning.{to_follow}
use Rattle.query_lex.specs.declared.state.Prefixed.TheVariants as prefixed
use Rattle.query_lex.specs.declared.state.State.{State}
use Rattle.query_lex.specs.declared.state.State.TheVariants as state

-- a prefix was read, or the beginning of one, and no word
abbrev pub is_in_prefix : State → Bool
is_in_prefix (state.Prefixed prefixed.Prefix) = true
is_in_prefix (state.Prefixed prefixed.PrefixStop) = true
is_in_prefix _ = false

-- where more than n bytes are to come, none of them ends a prefix that is being read
abbrev pub IsBarren : List ℕ → ℕ → Type 0
IsBarren text n = (front ahead : List ℕ) → chars text ≡ front ++ ahead → n < length (encode_utf8_all ahead)
    → (longest (to_follow (state.Prefixed prefixed.Prefix)) ahead ≡ None) × (longest (to_follow (state.Prefixed prefixed.PrefixStop)) ahead ≡ None)
