-- Each state's moves are what the forms of tokens ask for.
use Rattle.std.proofs.Common.{◌≡◌, ℕ, Bool, true, false, refl, ap, Option, Some, None}
use Rattle.std.specs.Prelude.{◌==◌}
use Rattle.query_tokens.specs.Tokens.{Kind}
use Rattle.query_tokens.specs.Front.{all_behind, ended}
use Rattle.query_tokens.proofs.Behind.{is_same}
use Rattle.query_tokens.proofs.KindNumbers.{number_of, one_to_one}
use Rattle.query_tokens.proofs.Cuts.{leads_on, leads_everywhere}
use Rattle.query_lex.proofs.Changes.{move_cuts, same_run}
use Rattle.query_lex.proofs.Every.{at_state}
use Rattle.query_lex.specs.Steps.{is_in, moves, step_of}
use Rattle.query_lex.specs.Meaning.{to_follow, to_follow_any, kind_read}
use Rattle.query_lex.specs.declared.state.State.{State}
use Rattle.query_lex.specs.declared.state.State.TheVariants as state

abbrev Checks : State → Type 0
Checks state = leads_on number_of (to_follow state) (λ c. to_follow_any (step_of state c)) (move_cuts (moves state)) ≡ true

checked : (state : State) → Checks state
unfolding is_in to_follow to_follow_any
checked state = at_state (λ state. leads_on number_of (to_follow state) (λ c. to_follow_any (step_of state c)) (move_cuts (moves state))) refl state

-- a step is what the forms ask for
pub step_meant : (state : State) (c : ℕ) → to_follow_any (step_of state c) ≡ all_behind c (to_follow state)
step_meant state c =
    leads_everywhere number_of one_to_one (to_follow state) (λ c. to_follow_any (step_of state c)) (move_cuts (moves state))
    (λ c d h. ap to_follow_any (same_run (moves state) c d h)) (checked state) c

abbrev is_kind_of : Option Kind → Option Kind → Bool
is_kind_of None None = true
is_kind_of (Some j) (Some k) = number_of j == number_of k
is_kind_of _ _ = false

same_kind_read : (o p : Option Kind) → is_kind_of o p ≡ true → o ≡ p
same_kind_read None None h = refl
same_kind_read (Some j) (Some k) h = ap Some (one_to_one j k (is_same (number_of j) (number_of k) h))
same_kind_read None (Some k) h = cc
same_kind_read (Some j) None h = cc

-- what was read is a token exactly of this kind
pub kind_meant : (state : State) → ended (to_follow state) ≡ kind_read state
unfolding to_follow
kind_meant state = same_kind_read (ended (to_follow state)) (kind_read state) (at_state (λ state. is_kind_of (ended (to_follow state)) (kind_read state)) refl state)
