-- The places where a step may change.
use Rattle.std.proofs.Common.{◌≡◌, ◌∙◌, ℕ, cond, List, [], ◌++◌, refl, ap, Option, Some, None}
use Rattle.query_tokens.proofs.Cuts.{cuts_of, Agree, agree_left, agree_right, same_in_ranges}
use Rattle.query_lex.specs.Steps.{Class, ranges_of, is_in, Moves, stop, rest, to, except, run}

abbrev pub move_cuts : {S : Type 0} → Moves S → List ℕ
move_cuts stop = []
move_cuts (rest state) = []
move_cuts (to class state more) = cuts_of (ranges_of class) ++ move_cuts more
move_cuts (except class more) = cuts_of (ranges_of class) ++ move_cuts more

pub same_class : (class : Class) (c d : ℕ) → Agree c d (cuts_of (ranges_of class)) → is_in class c ≡ is_in class d
unfolding is_in
same_class class c d h = same_in_ranges c d (ranges_of class) h

pub same_run : {S : Type 0} (m : Moves S) (c d : ℕ) → Agree c d (move_cuts m) → run m c ≡ run m d
same_run stop c d h = refl
same_run (rest state) c d h = refl
same_run {S} (to class state more) c d h =
    ap (λ b. cond {A = Option S} b (Some state) (run more c)) (same_class class c d (agree_left c d (cuts_of (ranges_of class)) (move_cuts more) h))
    ∙ ap (λ o. cond {A = Option S} (is_in class d) (Some state) o) (same_run more c d (agree_right c d (cuts_of (ranges_of class)) (move_cuts more) h))
same_run {S} (except class more) c d h =
    ap (λ b. cond {A = Option S} b None (run more c)) (same_class class c d (agree_left c d (cuts_of (ranges_of class)) (move_cuts more) h))
    ∙ ap (λ o. cond {A = Option S} (is_in class d) None o) (same_run more c d (agree_right c d (cuts_of (ranges_of class)) (move_cuts more) h))
