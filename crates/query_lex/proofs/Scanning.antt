-- Reading the longest text of some forms character by character, with the best one so far in hand.
use Rattle.std.proofs.Common.{◌≡◌, ◌∙◌, ℕ, suc, ◌+◌, List, [], ◌∷◌, ◌++◌, length, take, drop, refl, sym, ap, subst, append_assoc, arith, Option, Some, None, chars, IsUtf8}
use Rattle.std.specs.Char.{encode_utf8}
use Rattle.std.specs.Str.{encode_utf8_all}
use Rattle.std.proofs.lemmas.Str.{encodes-append, chars_past_char, IsUtf8-past_char, chars-nil}
use Rattle.std.proofs.lemmas.List.{append-nil, length-append}
use Rattle.std.proofs.Math.Seq.{take-append_seam, drop-append_seam}
use Rattle.query_tokens.specs.Forms.{Form}
use Rattle.query_tokens.specs.Front.{all_behind, ended, at_once, one_longer, longest}
use Rattle.query_lex.specs.Reading.{IsBehind}

abbrev pub at_place : {K : Type 0} → ℕ → Option K → Option (K × ℕ)
at_place n None = None
at_place n (Some kind) = Some (kind, n)

abbrev pub later : {K : Type 0} → ℕ → Option (K × ℕ) → Option (K × ℕ)
later n None = None
later n (Some found) = Some (found.0, n + found.1)

abbrev pub prefer : {K : Type 0} → Option (K × ℕ) → Option (K × ℕ) → Option (K × ℕ)
prefer None best = best
prefer (Some found) best = Some found

-- the characters of `front` were read, then `es` may follow, and `best` is the longest text so far
pub record LooksAhead {K : Type 0} (all es : List (K × Form)) (text rest front : List ℕ) (best : Option (K × ℕ)) : Type 0 where
  pub text_is : text ≡ encode_utf8_all front ++ rest
  pub chars_are : chars text ≡ front ++ chars rest
  pub utf8 : IsUtf8 rest
  pub goes_on : prefer (later (length front) (longest es (chars rest))) best ≡ longest all (chars text)
  pub here : prefer (at_place (length front) (ended es)) best ≡ best

longest_some : {K : Type 0} (es : List (K × Form)) (cs : List ℕ) (kind : K) → ended es ≡ Some kind → (found : K × ℕ) × (longest es cs ≡ Some found)
longest_some {K} es [] kind h = ((kind, 0), ap at_once h)
longest_some {K} es (c ∷ cs) kind h =
    elim (longest (all_behind c es) cs) as (λ o. (found : K × ℕ) × (one_longer o (at_once (ended es)) ≡ Some found)) [
      | None ↦ ((kind, 0), ap at_once h)
      | Some x ↦ ((x.0, x.1 + 1), refl)
    ]

longest_none : {K : Type 0} (es : List (K × Form)) (cs : List ℕ) → longest es cs ≡ None → ended es ≡ None
longest_none {K} es cs h =
    elim (ended es) as (λ o. ended es ≡ o → ended es ≡ None) [
      | None ↦ λ e. e
      | Some k ↦ λ e. let more = longest_some es cs k e in absurd (let second : longest es cs ≡ Some more.0 = more.1 in cc)
    ] refl

pub none_at : {K : Type 0} (cs : List ℕ) → longest {K = K} [] cs ≡ None
none_at [] = refl
none_at {K} (c ∷ cs) = ap (λ (o : Option (K × ℕ)). one_longer o None) (none_at {K = K} cs)

at_once_later : {K : Type 0} (n : ℕ) (o : Option K) → later n (at_once o) ≡ at_place n o
at_once_later n None = refl
at_once_later {K} n (Some kind) = ap (λ (m : ℕ). Some (let p : K × ℕ = (kind, m) in p)) (let h : n + 0 ≡ n = omega arith in h)

later_start : {K : Type 0} (o : Option (K × ℕ)) → later 0 o ≡ o
later_start None = refl
later_start {K} (Some found) = ap (λ (m : ℕ). Some (let p : K × ℕ = (found.0, m) in p)) (let h : 0 + found.1 ≡ found.1 = omega arith in h)

start_goes_on : {K : Type 0} (o : Option (K × ℕ)) (e : Option K) → (o ≡ None → e ≡ None) → prefer (later 0 o) (at_place 0 e) ≡ o
start_goes_on None e h = ap (at_place 0) (h refl)
start_goes_on {K} (Some found) e h = later_start (Some found)

prefer_twice : {K : Type 0} (o best : Option (K × ℕ)) → prefer o (prefer o best) ≡ prefer o best
prefer_twice None best = refl
prefer_twice (Some found) best = refl

pub looks_start : {K : Type 0} (all : List (K × Form)) (text : List ℕ) → IsUtf8 text → LooksAhead all all text text [] (at_place 0 (ended all))
looks_start all text u = record {
  text_is = refl;
  chars_are = refl;
  utf8 = u;
  goes_on = start_goes_on (longest all (chars text)) (ended all) (λ h. longest_none all (chars text) h);
  here = elim (ended all) as (λ o. prefer (at_place 0 o) (at_place 0 o) ≡ at_place 0 o) [ None ↦ refl | Some k ↦ refl ];
}

step_goes_on : {K : Type 0} (n m : ℕ) (o best answer : Option (K × ℕ)) (e e2 : Option K) → m ≡ suc n → (o ≡ None → e2 ≡ None)
    → prefer (at_place n e) best ≡ best → prefer (later n (one_longer o (at_once e))) best ≡ answer
    → prefer (later m o) (prefer (at_place m e2) best) ≡ answer
step_goes_on {K} n m None best answer e e2 hm none here goes =
    ap (λ (x : Option K). prefer (at_place m x) best) (none refl) ∙ (sym here ∙ (ap (λ x. prefer x best) (sym (at_once_later n e)) ∙ goes))
step_goes_on {K} n m (Some x) best answer e e2 hm none here goes =
    ap (λ (k : ℕ). Some (let p : K × ℕ = (x.0, k) in p)) (let h : m + x.1 ≡ n + (x.1 + 1) = omega (arith, hm) in h) ∙ goes

pub looks_on : {K : Type 0} (all es es2 : List (K × Form)) (text rest rest2 front : List ℕ) (best : Option (K × ℕ)) (c : ℕ)
    → LooksAhead all es text rest front best → rest ≡ encode_utf8 c ++ rest2 → es2 ≡ all_behind c es
    → LooksAhead all es2 text rest2 (front ++ c ∷ []) (prefer (at_place (length (front ++ c ∷ [])) (ended es2)) best)
looks_on {K} all es es2 text rest rest2 front best c l r e =
    let more : chars rest ≡ c ∷ chars rest2 = chars_past_char rest rest2 c l.utf8 r in
    let size : length (front ++ c ∷ []) ≡ suc (length front) = simp length-append (omega arith) in
    let old : prefer (later (length front) (longest es (c ∷ chars rest2))) best ≡ longest all (chars text) = subst (λ (x : List ℕ). prefer (later (length front) (longest es x)) best ≡ longest all (chars text)) more l.goes_on in
    let next : prefer (later (length front) (one_longer (longest es2 (chars rest2)) (at_once (ended es)))) best ≡ longest all (chars text) =
    subst (λ (x : List (K × Form)). prefer (later (length front) (one_longer (longest x (chars rest2)) (at_once (ended es)))) best ≡ longest all (chars text)) (sym e) old in
    record {
      text_is = l.text_is ∙ (ap (λ (x : List ℕ). encode_utf8_all front ++ x) r
          ∙ (sym (append_assoc (encode_utf8_all front) (encode_utf8 c) rest2)
          ∙ ap (λ (x : List ℕ). x ++ rest2) (ap (λ (x : List ℕ). encode_utf8_all front ++ x) (sym (append-nil (encode_utf8 c))) ∙ sym (encodes-append front (c ∷ [])))));
      chars_are = l.chars_are ∙ (ap (λ (x : List ℕ). front ++ x) more ∙ sym (append_assoc front (c ∷ []) (chars rest2)));
      utf8 = IsUtf8-past_char rest rest2 c l.utf8 r;
      goes_on = step_goes_on (length front) (length (front ++ c ∷ [])) (longest es2 (chars rest2)) best (longest all (chars text)) (ended es) (ended es2) size (λ h. longest_none es2 (chars rest2) h) l.here next;
      here = prefer_twice (at_place (length (front ++ c ∷ [])) (ended es2)) best;
    }

-- where no form goes on, the best so far is the longest
pub looks_stop : {K : Type 0} (all es : List (K × Form)) (text rest rest2 front : List ℕ) (best : Option (K × ℕ)) (c : ℕ)
    → LooksAhead all es text rest front best → rest ≡ encode_utf8 c ++ rest2 → [] ≡ all_behind c es → best ≡ longest all (chars text)
looks_stop {K} all es text rest rest2 front best c l r e =
    let more : chars rest ≡ c ∷ chars rest2 = chars_past_char rest rest2 c l.utf8 r in
    let old : prefer (later (length front) (longest es (c ∷ chars rest2))) best ≡ longest all (chars text) = subst (λ (x : List ℕ). prefer (later (length front) (longest es x)) best ≡ longest all (chars text)) more l.goes_on in
    let next : prefer (later (length front) (one_longer (longest {K = K} [] (chars rest2)) (at_once (ended es)))) best ≡ longest all (chars text) =
    subst (λ (x : List (K × Form)). prefer (later (length front) (one_longer (longest x (chars rest2)) (at_once (ended es)))) best ≡ longest all (chars text)) (sym e) old in
    let last : prefer (later (length front) (at_once (ended es))) best ≡ longest all (chars text) =
    subst (λ (x : Option (K × ℕ)). prefer (later (length front) (one_longer x (at_once (ended es)))) best ≡ longest all (chars text)) (none_at (chars rest2)) next in
    sym l.here ∙ (ap (λ x. prefer x best) (sym (at_once_later (length front) (ended es))) ∙ last)

empty : (xs : List ℕ) → length xs ≡ 0 → xs ≡ []
empty [] h = refl
empty (x ∷ xs) h = absurd (omega arith)

pub no_chars : (rest : List ℕ) → length rest ≡ 0 → chars rest ≡ []
no_chars rest h = ap chars (empty rest h) ∙ chars-nil

pub looks_end : {K : Type 0} (all es : List (K × Form)) (text rest front : List ℕ) (best : Option (K × ℕ))
    → LooksAhead all es text rest front best → length rest ≡ 0 → best ≡ longest all (chars text)
looks_end {K} all es text rest front best l h =
    let none : chars rest ≡ [] = no_chars rest h in
    let last : prefer (later (length front) (at_once (ended es))) best ≡ longest all (chars text) =
    subst (λ (x : List ℕ). prefer (later (length front) (longest es x)) best ≡ longest all (chars text)) none l.goes_on in
    sym l.here ∙ (ap (λ x. prefer x best) (sym (at_once_later (length front) (ended es))) ∙ last)

pub looks_behind : {K : Type 0} (all es : List (K × Form)) (text rest front : List ℕ) (best : Option (K × ℕ))
    → LooksAhead all es text rest front best → IsBehind text (length front) rest
looks_behind all es text rest front best l =
    let taken : take (length front) (chars text) ≡ front = ap (take (length front)) l.chars_are ∙ take-append_seam front (chars rest) in
    let left : drop (length front) (chars text) ≡ chars rest = ap (drop (length front)) l.chars_are ∙ drop-append_seam front (chars rest) in
    record { bytes = l.text_is ∙ ap (λ (x : List ℕ). encode_utf8_all x ++ rest) (sym taken); characters = sym left }
