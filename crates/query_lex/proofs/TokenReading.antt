-- What the loop over a token keeps.
use Rattle.std.proofs.Common.{◌≡◌, ◌∙◌, ◌<◌, ℕ, true, cond, List, [], ◌∷◌, ◌++◌, length, refl, sym, ap, subst, Option, Some, None, chars, IsUtf8}
use Rattle.std.specs.Str.{encode_utf8_all}
use Rattle.std.proofs.lemmas.Str.{encodes-chars, chars_past_char}
use Rattle.std.specs.Char.{encode_utf8}
use denote.Ref.{Bor}
use Rattle.query_tokens.specs.Forms.{Form}
use Rattle.query_tokens.specs.Tokens.{Kind, kinds}
use Rattle.query_tokens.specs.Front.{all_behind, ended, at_once, one_longer, longest, forms_of, token_at}
use Rattle.query_lex.specs.Reading.{IsBehind}
use Rattle.query_lex.specs.Runs.{is_in_prefix, IsBarren}
use Rattle.query_lex.proofs.Runs.{IsRun, run_goes_on, run_is_barren}
use Rattle.query_lex.specs.declared.state.Prefixed.TheVariants as prefixed
use Rattle.query_lex.specs.Scan.{IsFound, IsBetter}
use Rattle.query_lex.specs.Steps.{step_of}
use Rattle.query_lex.specs.Meaning.{kind_read, to_follow, to_follow_any}
use Rattle.query_lex.proofs.Scanning.{LooksAhead, at_place, later, prefer, none_at, no_chars, looks_start, looks_on, looks_stop, looks_end, looks_behind}
use Rattle.query_lex.proofs.Moving.{step_meant, kind_meant}
use Rattle.query_lex.specs.declared.token.TokenKind.{TokenKind}
use Rattle.query_lex.specs.declared.state.State.{State}
use Rattle.query_lex.specs.declared.state.State.TheVariants as state

abbrev Found : Type 0
Found = Option (TokenKind × Bor (List ℕ))

pub record IsTokenSoFar (text : List ℕ) (state : State) (found : Found) (rest : List ℕ) : Type 0 where
  pub front : List ℕ
  pub best : Option (Kind × ℕ)
  pub looks : LooksAhead (forms_of kinds) (to_follow state) text rest front best
  pub found_is : IsFound text found best
  pub run : IsRun state front

pub token_begins : (text : List ℕ) → IsUtf8 text → IsTokenSoFar text state.Start None text
unfolding to_follow
token_begins text u = record { front = []; best = None; looks = looks_start (forms_of kinds) text u; found_is = refl; run = refl }

better : (text rest : List ℕ) (n : ℕ) (kind : Option Kind) (best : Option (Kind × ℕ)) (found next : Found) → IsBehind text n rest → IsFound text found best
    → IsBetter kind rest found next → IsFound text next (prefer (at_place n kind) best)
better text rest n None best found None b f h = subst (λ (x : Found). IsFound text x best) h.1 f
better text rest n None best found (Some y) b f h = subst (λ (x : Found). IsFound text x best) h f
better text rest n (Some k) best found None b f h = let e : Some k ≡ None = h.0 in absurd cc
better text rest n (Some k) best found (Some y) b f h =
    (n, ap (λ (x : Kind). Some (let p : Kind × ℕ = (x, n) in p)) (sym h.0), subst (λ (x : List ℕ). IsBehind text n x) (sym h.1) b)

pub token_goes_on : (text : List ℕ) (state next : State) (found better_found : Found) (rest rest2 : List ℕ) (c : ℕ) → IsTokenSoFar text state found rest → rest ≡ encode_utf8 c ++ rest2
    → Some next ≡ step_of state c → IsBetter (kind_read next) rest2 found better_found → IsTokenSoFar text next better_found rest2
token_goes_on text state next found better_found rest rest2 c t r e b =
    let front = t.front ++ c ∷ [] in
    let follow : to_follow next ≡ all_behind c (to_follow state) = opened next ∙ (ap to_follow_any e ∙ step_meant state c) in
    let looks = looks_on (forms_of kinds) (to_follow state) (to_follow next) text rest rest2 t.front t.best c t.looks r follow in
    let kind : prefer (at_place (length front) (ended (to_follow next))) t.best ≡ prefer (at_place (length front) (kind_read next)) t.best =
    ap (λ (o : Option Kind). prefer (at_place (length front) o) t.best) (kind_meant next) in
    let looks2 = subst (λ (o : Option (Kind × ℕ)). LooksAhead (forms_of kinds) (to_follow next) text rest2 front o) kind looks in
    record {
      front = front;
      best = prefer (at_place (length front) (kind_read next)) t.best;
      looks = looks2;
      found_is = better text rest2 (length front) (kind_read next) t.best found better_found
          (looks_behind (forms_of kinds) (to_follow next) text rest2 front (prefer (at_place (length front) (kind_read next)) t.best) looks2) t.found_is b;
      run = run_goes_on state next t.front c e t.run;
    }
  where
    opened : (state : State) → to_follow state ≡ to_follow_any (Some state)
    opened state = unfold to_follow_any in refl

token_found : (text : List ℕ) (found : Found) (best : Option (Kind × ℕ)) → IsFound text found best → best ≡ longest (forms_of kinds) (chars text) → IsFound text found (token_at (chars text))
unfolding token_at
token_found text found best f e = subst (λ (o : Option (Kind × ℕ)). IsFound text found o) e f

pub token_stops : (text : List ℕ) (state : State) (found : Found) (rest rest2 : List ℕ) (c : ℕ) → IsTokenSoFar text state found rest → rest ≡ encode_utf8 c ++ rest2
    → None ≡ step_of state c → IsFound text found (token_at (chars text))
token_stops text state found rest rest2 c t r e =
    let follow : [] ≡ all_behind c (to_follow state) = closed ∙ (ap to_follow_any e ∙ step_meant state c) in
    token_found text found t.best t.found_is (looks_stop (forms_of kinds) (to_follow state) text rest rest2 t.front t.best c t.looks r follow)
  where
    closed : [] ≡ to_follow_any None
    closed = unfold to_follow_any in refl

pub token_at_end : (text : List ℕ) (state : State) (found : Found) (rest : List ℕ) → IsTokenSoFar text state found rest → length rest ≡ 0 → IsFound text found (token_at (chars text))
token_at_end text state found rest t h =
    token_found text found t.best t.found_is (looks_end (forms_of kinds) (to_follow state) text rest t.front t.best t.looks h)

-- Where no prefix ends

-- the best so far is the longest where nothing more is found
none_more : (text : List ℕ) (state : State) (found : Found) (rest : List ℕ) → IsTokenSoFar text state found rest → longest (to_follow state) (chars rest) ≡ None → IsFound text found (token_at (chars text))
none_more text state found rest t h =
    token_found text found t.best t.found_is
    (subst (λ (o : Option (Kind × ℕ)). prefer (later (length t.front) o) t.best ≡ longest (forms_of kinds) (chars text)) h t.looks.goes_on)

more : (rest : List ℕ) (n : ℕ) → IsUtf8 rest → n < length rest → n < length (encode_utf8_all (chars rest))
more rest n u h = subst (λ (x : List ℕ). n < length x) (sym (encodes-chars rest u)) h

pub barren_stops : (text : List ℕ) (from : State) (found : Found) (rest : List ℕ) (n : ℕ) → IsTokenSoFar text from found rest → IsBarren text n → is_in_prefix from ≡ true → n < length rest
    → IsFound text found (token_at (chars text))
barren_stops text (state.Prefixed prefixed.Prefix) found rest n t b o h =
    none_more text (state.Prefixed prefixed.Prefix) found rest t (b t.front (chars rest) t.looks.chars_are (more rest n t.looks.utf8 h)).0
barren_stops text (state.Prefixed prefixed.PrefixStop) found rest n t b o h =
    none_more text (state.Prefixed prefixed.PrefixStop) found rest t (b t.front (chars rest) t.looks.chars_are (more rest n t.looks.utf8 h)).1
barren_stops text _ found rest n t b o h = cc

-- where a run ends, no more than the rest is left of it
abbrev Ends : List ℕ → State → List ℕ → ℕ → ℕ → Type 0
Ends text state rest old new = new ≡ cond (is_in_prefix state) (length rest) old

pub run_ends : (text : List ℕ) (from : State) (found : Found) (rest : List ℕ) (old new : ℕ) → IsTokenSoFar text from found rest → IsBarren text old
    → longest (to_follow from) (chars rest) ≡ at_once (kind_read from) → Ends text from rest old new → IsBarren text new
run_ends text (state.Prefixed prefixed.Prefix) found rest old new t b h e =
    subst (IsBarren text) (sym e) (run_is_barren text rest t.front (state.Prefixed prefixed.Prefix) t.looks.chars_are t.looks.utf8 t.run.0 t.run.1 h)
run_ends text (state.Prefixed prefixed.PrefixStop) found rest old new t b h e =
    subst (IsBarren text) (sym e) (run_is_barren text rest t.front (state.Prefixed prefixed.PrefixStop) t.looks.chars_are t.looks.utf8 t.run.0 t.run.1 h)
run_ends text _ found rest old new t b h e = subst (IsBarren text) (sym e) b

pub none_left : (state : State) (rest : List ℕ) → length rest ≡ 0 → longest (to_follow state) (chars rest) ≡ at_once (kind_read state)
none_left state rest h = ap (longest (to_follow state)) (no_chars rest h) ∙ ap at_once (kind_meant state)

pub none_goes_on : (state : State) (rest rest2 : List ℕ) (c : ℕ) → IsUtf8 rest → rest ≡ encode_utf8 c ++ rest2 → None ≡ step_of state c → longest (to_follow state) (chars rest) ≡ at_once (kind_read state)
none_goes_on state rest rest2 c u r e =
    let follow : all_behind c (to_follow state) ≡ [] = sym (step_meant state c) ∙ (ap to_follow_any (sym e) ∙ closed) in
    ap (longest (to_follow state)) (chars_past_char rest rest2 c u r)
    ∙ (ap (λ (es : List (Kind × Form)). one_longer (longest es (chars rest2)) (at_once (ended (to_follow state)))) follow
    ∙ (ap (λ (o : Option (Kind × ℕ)). one_longer o (at_once (ended (to_follow state)))) (none_at {K = Kind} (chars rest2)) ∙ ap at_once (kind_meant state)))
  where
    closed : to_follow_any None ≡ []
    closed = unfold to_follow_any in refl
