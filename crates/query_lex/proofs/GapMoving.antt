-- Each move between blanks and comments is what the form of a gap asks for.
use Rattle.std.proofs.Common.{◌≡◌, ℕ, true, refl, ap, Some}
use Rattle.query_tokens.specs.Front.{all_behind, ended}
use Rattle.query_tokens.proofs.Cuts.{leads_on, leads_everywhere}
use Rattle.query_lex.specs.Steps.{is_in, run, gap_moves}
use Rattle.query_lex.specs.Meaning.{gap_to_follow, gap_to_follow_any}
use Rattle.query_lex.proofs.Changes.{move_cuts, same_run}
use Rattle.query_lex.specs.declared.gap.Gap.{Gap}
use Rattle.query_lex.specs.declared.gap.Gap.TheVariants as gap

abbrev Checks : Gap → Type 0
Checks state = leads_on (λ n. n) (gap_to_follow state) (λ c. gap_to_follow_any (run (gap_moves state) c)) (move_cuts (gap_moves state)) ≡ true

checked : (state : Gap) → Checks state
unfolding is_in gap_to_follow gap_to_follow_any
checked gap.Blanks = refl
checked gap.Comment = refl

pub gap_step_meant : (state : Gap) (c : ℕ) → gap_to_follow_any (run (gap_moves state) c) ≡ all_behind c (gap_to_follow state)
gap_step_meant state c =
    leads_everywhere (λ n. n) (λ j k h. h) (gap_to_follow state) (λ c. gap_to_follow_any (run (gap_moves state) c)) (move_cuts (gap_moves state))
    (λ c d h. ap gap_to_follow_any (same_run (gap_moves state) c d h)) (checked state) c

pub gap_ends : (state : Gap) → ended (gap_to_follow state) ≡ Some 0
unfolding gap_to_follow
gap_ends gap.Blanks = refl
gap_ends gap.Comment = refl
