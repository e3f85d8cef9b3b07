-- The tokens that are found are those of the productions.
use Rattle.std.proofs.Common.{◌≡◌, ◌∙◌, ◌≤◌, ◌<◌, ◌+◌, ℕ, zero, suc, Bool, true, false, cond, List, [], ◌∷◌, ◌++◌, length, take, drop, refl, sym, ap, subst, arith, append-nil, length-append, Option, Some, None}
use Rattle.std.specs.Prelude.{◌==◌}
use Rattle.std.proofs.lemmas.Bool.Decides.{nat_tests}
use Rattle.std.proofs.lemmas.List.{take-append-drop, length-take, length-drop}
use Rattle.std.proofs.Math.Seq.{take-append_seam, drop-append_seam}
use Rattle.query_tokens.proofs.Behind.{has_optional}
use Rattle.query_tokens.specs.Tokens.{Kind, Iri, PnameNs, PnameLn, Label, Var, LangTag, Integer, Decimal, Double, SignedInteger, SignedDecimal, SignedDouble, Str, Word, Mark, form_of, IsToken, IsGap}
use Rattle.query_tokens.specs.Front.{token_at, gap_at}
use Rattle.query_tokens.proofs.Longest.{finds_tokens, finds_gaps}
use Rattle.query_grammar.specs.Lexemes.{Lexeme, lexeme, one_before, behind_gap, lexed_up_to, lexed}
use Rattle.query_forms.specs.Laws.{LexesAsProductions}
use Rattle.query_forms.specs.Lexing.{IsLongest, IsSomeToken, IsLexed, end, next}
use Rattle.query_tokens.proofs.Apart.{one_kind}
use Rattle.query_forms.proofs.Signed.{clash}

no_length : (cs : List ℕ) → length cs ≡ 0 → cs ≡ []
no_length [] e = refl
no_length (c ∷ cs) e = absurd (omega (arith, e))

zero_of : (n : ℕ) → (n == 0) ≡ true → n ≡ 0
zero_of n e = grind (arith, nat_tests)

zero_is : (n : ℕ) → n ≡ 0 → (n == 0) ≡ true
zero_is n e = grind (arith, nat_tests)

some_is : (n : ℕ) → 0 < n → (n == 0) ≡ false
some_is n e = grind (arith, nat_tests)

length_front : (n : ℕ) (cs : List ℕ) → n ≤ length cs → length (take n cs) ≡ n
length_front n cs le = omega (arith, length-take n cs, le)

-- no token is empty
none_empty : (kind : Kind) → IsToken kind [] → ⊥
none_empty Iri h = clash (sym (has_optional (form_of Iri) h))
none_empty PnameNs h = clash (sym (has_optional (form_of PnameNs) h))
none_empty PnameLn h = clash (sym (has_optional (form_of PnameLn) h))
none_empty Label h = clash (sym (has_optional (form_of Label) h))
none_empty Var h = clash (sym (has_optional (form_of Var) h))
none_empty LangTag h = clash (sym (has_optional (form_of LangTag) h))
none_empty Integer h = clash (sym (has_optional (form_of Integer) h))
none_empty Decimal h = clash (sym (has_optional (form_of Decimal) h))
none_empty Double h = clash (sym (has_optional (form_of Double) h))
none_empty SignedInteger h = clash (sym (has_optional (form_of SignedInteger) h))
none_empty SignedDecimal h = clash (sym (has_optional (form_of SignedDecimal) h))
none_empty SignedDouble h = clash (sym (has_optional (form_of SignedDouble) h))
none_empty Str h = clash (sym (has_optional (form_of Str) h))
none_empty Word h = clash (sym (has_optional (form_of Word) h))
none_empty Mark h = clash (sym (has_optional (form_of Mark) h))

-- The gap that is found

gap_of : List ℕ → List ℕ
gap_of cs = take (gap_at cs) cs

gap_and : (cs : List ℕ) → gap_of cs ++ behind_gap cs ≡ cs
unfolding gap_of
gap_and cs = take-append-drop (gap_at cs) cs

gap_is : (cs : List ℕ) → IsGap (gap_of cs)
unfolding gap_of
gap_is cs = (finds_gaps.found cs).1

gap_longest : (cs back : List ℕ) → back ≡ behind_gap cs → IsLongest IsGap (gap_of cs) back
unfolding gap_of
gap_longest cs back same = record {
  is = (finds_gaps.found cs).1;
  longest = λ other rest is e.
      let whole : cs ≡ other ++ rest = sym (gap_and cs) ∙ ap (λ b. gap_of cs ++ b) (sym same) ∙ e in
      let most = subst (λ k. length other ≤ gap_at k) (sym whole) (finds_gaps.longest other rest is) in
      let size = length_front (gap_at cs) cs (finds_gaps.found cs).0 in
      omega (arith, most, size);
}

-- it is as long as the longest
gap_found : (gap back : List ℕ) → IsLongest IsGap gap back → gap_at (gap ++ back) ≡ length gap
gap_found gap back h =
    let low = finds_gaps.longest gap back h.is in
    let f = finds_gaps.found (gap ++ back) in
    let high = h.longest (take (gap_at (gap ++ back)) (gap ++ back)) (drop (gap_at (gap ++ back)) (gap ++ back)) f.1 (sym (take-append-drop (gap_at (gap ++ back)) (gap ++ back))) in
    let size = length_front (gap_at (gap ++ back)) (gap ++ back) f.0 in
    omega (arith, low, high, size)

behind_found : (gap back : List ℕ) → IsLongest IsGap gap back → behind_gap (gap ++ back) ≡ back
behind_found gap back h = ap (λ n. drop n (gap ++ back)) (gap_found gap back h) ∙ drop-append_seam gap back

-- The token that is found

module _ (cs : List ℕ) (kind : Kind) (n : ℕ) (is : token_at cs ≡ Some (kind, n)) where
  token_longest : IsLongest IsSomeToken (take n cs) (drop n cs)
  token_longest =
      let f = finds_tokens.found cs kind n is in
      record {
        is = (kind, f.1);
        longest = λ other rest some e.
            let whole : cs ≡ other ++ rest = sym (take-append-drop n cs) ∙ e in
            let l = finds_tokens.longest some.0 other rest some.1 in
            let same : l.0 ≡ (kind, n) = inside l.0 (sym (ap token_at whole ∙ l.1) ∙ is) in
            let size = length_front n cs f.0 in
            omega (arith, l.2, ap (λ (p : Kind × ℕ). p.1) same, size);
      } where
        inside : (p : Kind × ℕ) → (let o : Option (Kind × ℕ) = Some p in o) ≡ Some (kind, n) → p ≡ (kind, n)
        inside p e = cc

token_found : (token rest : List ℕ) (kind : Kind) → IsLongest IsSomeToken token rest → IsToken kind token → token_at (token ++ rest) ≡ Some (kind, length token)
token_found token rest kind h of_kind =
    let l = finds_tokens.longest h.is.0 token rest h.is.1 in
    with_pair l.0.0 l.0.1 l.1 l.2 where
      with_pair : (k : Kind) (n : ℕ) → token_at (token ++ rest) ≡ Some (k, n) → length token ≤ n → token_at (token ++ rest) ≡ Some (kind, length token)
      with_pair k n is low =
          let f = finds_tokens.found (token ++ rest) k n is in
          let high = h.longest (take n (token ++ rest)) (drop n (token ++ rest)) (k, f.1) (sym (take-append-drop n (token ++ rest))) in
          let size : n ≡ length token = omega (arith, low, high, length_front n (token ++ rest) f.0) in
          let text : take n (token ++ rest) ≡ token = ap (λ m. take m (token ++ rest)) size ∙ take-append_seam token rest in
          let same : k ≡ kind = one_kind k kind token (subst (IsToken k) text f.1) of_kind in
          is ∙ ap (λ (x : Kind). Some (let p : Kind × ℕ = (x, n) in p)) same ∙ ap (λ (m : ℕ). Some (let p : Kind × ℕ = (kind, m) in p)) size

-- All of them

abbrev Tokens : Type 0
Tokens = Option (List Lexeme)

-- what is found behind a gap
abbrev from_token : Option (Kind × ℕ) → List ℕ → (List ℕ → Tokens) → Tokens
from_token None cs more = None
from_token (Some found) cs more = one_before (lexeme found.0 (take found.1 cs)) (more (drop found.1 cs))

step : (most : ℕ) (cs : List ℕ) → lexed_up_to (suc most) cs ≡ cond (length (behind_gap cs) == 0) (Some []) (from_token (token_at (behind_gap cs)) (behind_gap cs) (lexed_up_to most))
step most cs = by (token_at (behind_gap cs)) where
  by : (o : Option (Kind × ℕ)) → cond (length (behind_gap cs) == 0) (Some []) (elim o [ None ↦ None | Some found ↦ one_before (lexeme found.0 (take found.1 (behind_gap cs))) (lexed_up_to most (drop found.1 (behind_gap cs))) ]) ≡ cond (length (behind_gap cs) == 0) (Some []) (from_token o (behind_gap cs) (lexed_up_to most))
  by None = refl
  by (Some found) = refl

ended_lexed : (cs : List ℕ) (ls : List Lexeme) → length (behind_gap cs) ≡ 0 → (let o : Tokens = Some [] in o) ≡ Some ls → IsLexed cs ls
ended_lexed cs ls e is =
    subst (IsLexed cs) (let same : [] ≡ ls = cc in same)
    (subst (λ k. IsLexed k []) (sym (append-nil (gap_of cs)) ∙ ap (λ b. gap_of cs ++ b) (sym (no_length (behind_gap cs) e)) ∙ gap_and cs) (end (gap_of cs) (gap_is cs)))

record Split (l : Lexeme) (o : Tokens) (ls : List Lexeme) : Type 0 where
  more : List Lexeme
  rest : o ≡ Some more
  is : l ∷ more ≡ ls

split : (l : Lexeme) (o : Tokens) (ls : List Lexeme) → one_before l o ≡ Some ls → Split l o ls
split l None ls e = absurd (let f : ⊥ = cc in f)
split l (Some more) ls e = record { more = more; rest = refl; is = (let same : l ∷ more ≡ ls = cc in same) }

-- up to so many tokens, what is found is of the productions
abbrev Lexes : ℕ → Type 0
Lexes most = (cs : List ℕ) (ls : List Lexeme) → lexed_up_to most cs ≡ Some ls → IsLexed cs ls

found_lexed : (most : ℕ) (cs : List ℕ) (ls : List Lexeme) → lexed_up_to most cs ≡ Some ls → IsLexed cs ls
found_lexed zero cs ls e = by (length (behind_gap cs) == 0) refl e where
  by : (b : Bool) → (length (behind_gap cs) == 0) ≡ b → cond {A = Tokens} b (Some []) None ≡ Some ls → IsLexed cs ls
  by true z e = ended_lexed cs ls (zero_of (length (behind_gap cs)) z) e
  by false z e = absurd (let f : ⊥ = cc in f)
found_lexed (suc most) cs ls e = by (found_lexed most) (length (behind_gap cs) == 0) refl (sym (step most cs) ∙ e) where
  of : Lexes most → (o : Option (Kind × ℕ)) → token_at (behind_gap cs) ≡ o → from_token o (behind_gap cs) (lexed_up_to most) ≡ Some ls → IsLexed cs ls
  of behind None is e = absurd (let f : ⊥ = cc in f)
  of behind (Some p) is e =
      let b = behind_gap cs in
      let s = split (lexeme p.0 (take p.1 b)) (lexed_up_to most (drop p.1 b)) ls e in
      subst (IsLexed cs) s.is
      (subst (λ k. IsLexed k (lexeme p.0 (take p.1 b) ∷ s.more)) (ap (λ k. gap_of cs ++ k) (take-append-drop p.1 b) ∙ gap_and cs)
      (next (gap_of cs) (take p.1 b) (drop p.1 b) p.0 s.more (gap_longest cs (take p.1 b ++ drop p.1 b) (take-append-drop p.1 b)) (token_longest b p.0 p.1 is) (finds_tokens.found b p.0 p.1 is).1
      (behind (drop p.1 b) s.more s.rest)))

  by : Lexes most → (b : Bool) → (length (behind_gap cs) == 0) ≡ b → cond {A = Tokens} b (Some []) (from_token (token_at (behind_gap cs)) (behind_gap cs) (lexed_up_to most)) ≡ Some ls → IsLexed cs ls
  by behind true z e = ended_lexed cs ls (zero_of (length (behind_gap cs)) z) e
  by behind false z e = of behind (token_at (behind_gap cs)) refl e

whole_gap : (gap : List ℕ) → IsGap gap → length (behind_gap gap) ≡ 0
whole_gap gap is =
    let low = subst (λ k. length gap ≤ gap_at k) (append-nil gap) (finds_gaps.longest gap [] is) in
    omega (arith, low, length-drop (gap_at gap) gap)

lexed_found : (cs : List ℕ) (ls : List Lexeme) → IsLexed cs ls → (most : ℕ) → length cs ≤ most → lexed_up_to most cs ≡ Some ls
lexed_found _ _ (end gap is) zero le = ap (λ b. cond {A = Tokens} b (Some []) None) (zero_is (length (behind_gap gap)) (whole_gap gap is))
lexed_found _ _ (end gap is) (suc most) le = step most gap ∙ ap (λ b. cond {A = Tokens} b (Some []) (from_token (token_at (behind_gap gap)) (behind_gap gap) (lexed_up_to most))) (zero_is (length (behind_gap gap)) (whole_gap gap is))
lexed_found _ _ (next gap token rest kind ls far longest is_token more) most le = by (lexed_found rest ls more) most le where
  some : 0 < length token
  some = at_least token is_token where
    at_least : (t : List ℕ) → IsToken kind t → 0 < length t
    at_least [] h = absurd (none_empty kind h)
    at_least (c ∷ t) h = omega arith

  long : length (gap ++ (token ++ rest)) ≡ length gap + (length token + length rest)
  long = omega (arith, length-append gap (token ++ rest), length-append token rest)

  by : ((most : ℕ) → length rest ≤ most → lexed_up_to most rest ≡ Some ls) → (most : ℕ) → length (gap ++ (token ++ rest)) ≤ most → lexed_up_to most (gap ++ (token ++ rest)) ≡ Some (lexeme kind token ∷ ls)
  by behind zero le = absurd (omega (arith, le, long, some))
  by behind (suc most) le =
      step most (gap ++ (token ++ rest))
      ∙ ap (λ b. cond {A = Tokens} (length b == 0) (Some []) (from_token (token_at b) b (lexed_up_to most))) (behind_found gap (token ++ rest) far)
      ∙ ap (λ z. cond {A = Tokens} z (Some []) (from_token (token_at (token ++ rest)) (token ++ rest) (lexed_up_to most))) (some_is (length (token ++ rest)) (let n = length-append token rest in omega (arith, n, some)))
      ∙ ap (λ o. from_token o (token ++ rest) (lexed_up_to most)) (token_found token rest kind longest is_token)
      ∙ ap (λ t. one_before (lexeme kind t) (lexed_up_to most (drop (length token) (token ++ rest)))) (take-append_seam token rest)
      ∙ ap (one_before (lexeme kind token)) (ap (lexed_up_to most) (drop-append_seam token rest) ∙ behind most (omega (arith, le, long, some)))

pub lexes_as_productions : LexesAsProductions
unfolding lexed
lexes_as_productions = λ cs ls. (λ h. lexed_found cs ls h (length cs) (omega arith), found_lexed (length cs) cs ls)
