-- What the loop over blanks and comments keeps.
use Rattle.std.proofs.Common.{◌≡◌, ◌∙◌, ℕ, List, [], ◌∷◌, ◌++◌, length, refl, ap, subst, Option, Some, None, chars, IsUtf8}
use Rattle.std.specs.Char.{encode_utf8}
use Rattle.query_tokens.specs.Forms.{Form}
use Rattle.query_tokens.specs.Tokens as model
use Rattle.query_tokens.specs.Front.{all_behind, ended, longest, length_found, gap_at}
use Rattle.query_lex.specs.Reading.{IsBehind}
use Rattle.query_lex.specs.Steps.{run, gap_moves}
use Rattle.query_lex.specs.Meaning.{gap_to_follow, gap_to_follow_any}
use Rattle.query_lex.proofs.Scanning.{LooksAhead, at_place, prefer, looks_start, looks_on, looks_stop, looks_end, looks_behind}
use Rattle.query_lex.proofs.GapMoving.{gap_step_meant, gap_ends}
use Rattle.query_lex.specs.declared.gap.Gap.{Gap}
use Rattle.query_lex.specs.declared.gap.Gap.TheVariants as gap

abbrev all : List (ℕ × Form)
all = (0, model.gap) ∷ []

pub record IsGapSoFar (text : List ℕ) (state : Gap) (rest : List ℕ) : Type 0 where
  pub front : List ℕ
  pub looks : LooksAhead all (gap_to_follow state) text rest front (Some (0, length front))

pub gap_begins : (text : List ℕ) → IsUtf8 text → IsGapSoFar text gap.Blanks text
unfolding gap_to_follow
gap_begins text u = record { front = []; looks = looks_start all text u }

pub gap_goes_on : (text : List ℕ) (state next : Gap) (rest rest2 : List ℕ) (c : ℕ) → IsGapSoFar text state rest → rest ≡ encode_utf8 c ++ rest2
    → Some next ≡ run (gap_moves state) c → IsGapSoFar text next rest2
gap_goes_on text state next rest rest2 c g r e =
    let front = g.front ++ c ∷ [] in
    let follow : gap_to_follow next ≡ all_behind c (gap_to_follow state) = opened next ∙ (ap gap_to_follow_any e ∙ gap_step_meant state c) in
    let looks = looks_on all (gap_to_follow state) (gap_to_follow next) text rest rest2 g.front (Some (0, length g.front)) c g.looks r follow in
    let best : prefer (at_place (length front) (ended (gap_to_follow next))) (Some (0, length g.front)) ≡ Some (0, length front) =
    ap (λ (o : Option ℕ). prefer (at_place (length front) o) (Some (0, length g.front))) (gap_ends next) in
    record { front = front; looks = subst (λ (o : Option (ℕ × ℕ)). LooksAhead all (gap_to_follow next) text rest2 front o) best looks }
  where
    opened : (state : Gap) → gap_to_follow state ≡ gap_to_follow_any (Some state)
    opened state = unfold gap_to_follow_any in refl

gap_found : (text rest front : List ℕ) → IsBehind text (length front) rest → Some (0, length front) ≡ longest all (chars text) → IsBehind text (gap_at (chars text)) rest
unfolding gap_at
gap_found text rest front b e = subst (λ (n : ℕ). IsBehind text n rest) (ap length_found e) b

pub gap_stops : (text : List ℕ) (state : Gap) (rest rest2 : List ℕ) (c : ℕ) → IsGapSoFar text state rest → rest ≡ encode_utf8 c ++ rest2
    → None ≡ run (gap_moves state) c → IsBehind text (gap_at (chars text)) rest
gap_stops text state rest rest2 c g r e =
    let follow : [] ≡ all_behind c (gap_to_follow state) = closed ∙ (ap gap_to_follow_any e ∙ gap_step_meant state c) in
    gap_found text rest g.front (looks_behind all (gap_to_follow state) text rest g.front (Some (0, length g.front)) g.looks)
    (looks_stop all (gap_to_follow state) text rest rest2 g.front (Some (0, length g.front)) c g.looks r follow)
  where
    closed : [] ≡ gap_to_follow_any None
    closed = unfold gap_to_follow_any in refl

pub gap_at_end : (text : List ℕ) (state : Gap) (rest : List ℕ) → IsGapSoFar text state rest → length rest ≡ 0 → IsBehind text (gap_at (chars text)) rest
gap_at_end text state rest g h =
    gap_found text rest g.front (looks_behind all (gap_to_follow state) text rest g.front (Some (0, length g.front)) g.looks)
    (looks_end all (gap_to_follow state) text rest g.front (Some (0, length g.front)) g.looks h)
