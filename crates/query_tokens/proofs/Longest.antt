-- The longest text of some forms is one of them, and none is longer.
use Rattle.std.proofs.Common.{◌≡◌, ◌≤◌, ◌+◌, ℕ, suc, true, false, cond, ◌⊎◌, List, [], ◌∷◌, ◌++◌, length, take, refl, sym, ap, subst, inl, inr, arith, Option, Some, None}
use Rattle.query_tokens.specs.Forms.{Form, HasForm}
use Rattle.query_tokens.specs.Tokens.{Kind, Iri, PnameNs, PnameLn, Label, Var, LangTag, Integer, Decimal, Double, SignedInteger, SignedDecimal, SignedDouble, Str, Word, Mark, form_of, kinds, gap, IsToken, IsGap}
use Rattle.query_tokens.specs.Front.{never, is_optional, same_form, behind, kept, all_behind, ended, at_once, one_longer, longest, forms_of, token_at, length_found, gap_at}
use Rattle.query_tokens.specs.Laws.{FindsTokens, FindsGaps}
use Rattle.query_tokens.proofs.Behind.{never_has, same_form_is, optional_has, has_optional, behind_has, behind_gives}

-- the text has one of the forms, and is this by it
abbrev pub Is : {K : Type 0} → List (K × Form) → K → List ℕ → Type 0
Is [] kind text = ⊥
Is (e ∷ es) kind text = ((e.0 ≡ kind) × HasForm e.1 text) ⊎ Is es kind text

kept_is : {K : Type 0} (k : K) (f : Form) (es : List (K × Form)) (kind : K) (text : List ℕ)
    → ((k ≡ kind) × HasForm f text) ⊎ Is es kind text → Is (kept k f es) kind text
kept_is {K} k f es kind text h =
    elim (same_form f never) as (λ b. same_form f never ≡ b → Is (elim b [ true ↦ es | false ↦ (let e : K × Form = (k, f) in e) ∷ es ]) kind text) [
      | true ↦ λ b. elim h [ inl x ↦ absurd (never_has text (subst (λ (g : Form). HasForm g text) (same_form_is f never b) x.1)) | inr y ↦ y ]
      | false ↦ λ _. h
    ] refl

kept_gives : {K : Type 0} (k : K) (f : Form) (es : List (K × Form)) (kind : K) (text : List ℕ)
    → Is (kept k f es) kind text → ((k ≡ kind) × HasForm f text) ⊎ Is es kind text
kept_gives {K} k f es kind text =
    elim (same_form f never) as (λ b. Is (elim b [ true ↦ es | false ↦ (let e : K × Form = (k, f) in e) ∷ es ]) kind text → ((k ≡ kind) × HasForm f text) ⊎ Is es kind text) [
      | true ↦ λ h. inr h
      | false ↦ λ h. h
    ]

pub all_behind_is : {K : Type 0} (es : List (K × Form)) (kind : K) (c : ℕ) (rest : List ℕ) → Is es kind (c ∷ rest) → Is (all_behind c es) kind rest
all_behind_is [] kind c rest h = h
all_behind_is (e ∷ es) kind c rest (inl h) = kept_is e.0 (behind c e.1) (all_behind c es) kind rest (inl (h.0, behind_has e.1 c rest h.1))
all_behind_is (e ∷ es) kind c rest (inr h) = kept_is e.0 (behind c e.1) (all_behind c es) kind rest (inr (all_behind_is es kind c rest h))

pub all_behind_gives : {K : Type 0} (es : List (K × Form)) (kind : K) (c : ℕ) (rest : List ℕ) → Is (all_behind c es) kind rest → Is es kind (c ∷ rest)
all_behind_gives [] kind c rest h = h
all_behind_gives (e ∷ es) kind c rest h =
    elim (kept_gives e.0 (behind c e.1) (all_behind c es) kind rest h) [
      | inl x ↦ inl (x.0, behind_gives e.1 c rest x.1)
      | inr y ↦ inr (all_behind_gives es kind c rest y)
    ]

ended_is : {K : Type 0} (es : List (K × Form)) (kind : K) → ended es ≡ Some kind → Is es kind []
ended_is [] kind h = cc
ended_is {K} (e ∷ es) kind h =
    elim (is_optional e.1) as (λ b. is_optional e.1 ≡ b → cond {A = Option K} b (Some e.0) (ended es) ≡ Some kind → Is (e ∷ es) kind []) [
      | true ↦ λ b h. inl (cc, optional_has e.1 b)
      | false ↦ λ b h. inr (ended_is es kind h)
    ] refl h

is_ended : {K : Type 0} (es : List (K × Form)) (kind : K) → Is es kind [] → (k : K) × (ended es ≡ Some k)
is_ended [] kind h = absurd h
is_ended {K} (e ∷ es) kind (inl h) = (e.0, rw (has_optional e.1 h.1) refl)
is_ended {K} (e ∷ es) kind (inr h) =
    let more = is_ended es kind h in
    elim (is_optional e.1) as (λ b. (k : K) × (cond {A = Option K} b (Some e.0) (ended es) ≡ Some k)) [
      | true ↦ (e.0, refl)
      | false ↦ (more.0, more.1)
    ]

at_once_is : {K : Type 0} (o : Option K) (kind : K) (n : ℕ) → at_once o ≡ Some (kind, n) → (o ≡ Some kind) × (n ≡ 0)
at_once_is None kind n h = cc
at_once_is {K} (Some k) kind n h =
    let pair : (let p : K × ℕ = (k, 0) in p) ≡ (kind, n) = cc in
    (ap (λ (p : K × ℕ). Some p.0) pair, sym (ap (λ (p : K × ℕ). p.1) pair))

one_longer_is : {K : Type 0} (o here : Option (K × ℕ)) (kind : K) (n : ℕ) → one_longer o here ≡ Some (kind, n)
    → ((m : ℕ) × (o ≡ Some (kind, m)) × (n ≡ suc m)) ⊎ (here ≡ Some (kind, n))
one_longer_is None here kind n h = inr h
one_longer_is {K} (Some found) here kind n h =
    let pair : (let p : K × ℕ = (found.0, found.1 + 1) in p) ≡ (kind, n) = cc in
    let size : found.1 + 1 ≡ n = ap (λ (p : K × ℕ). p.1) pair in
    inl (found.1, ap (λ (k : K). Some (let p : K × ℕ = (k, found.1) in p)) (ap (λ (p : K × ℕ). p.0) pair), omega arith)

pub longest_found : {K : Type 0} (es : List (K × Form)) (text : List ℕ) (kind : K) (n : ℕ) → longest es text ≡ Some (kind, n)
    → (n ≤ length text) × Is es kind (take n text)
longest_found es [] kind n h =
    let here = at_once_is (ended es) kind n h in
    (omega (arith, here.1), subst (λ (m : ℕ). Is es kind (take m [])) (sym here.1) (ended_is es kind here.0))
longest_found es (c ∷ cs) kind n h =
    elim (one_longer_is (longest (all_behind c es) cs) (at_once (ended es)) kind n h) [
      | inl x ↦
          let more = longest_found (all_behind c es) cs kind x.0 x.1 in
          (omega (arith, x.2, more.0), subst (λ (m : ℕ). Is es kind (take m (c ∷ cs))) (sym x.2) (all_behind_gives es kind c (take x.0 cs) more.1))
      | inr y ↦
          let here = at_once_is (ended es) kind n y in
          (omega (arith, here.1), subst (λ (m : ℕ). Is es kind (take m (c ∷ cs))) (sym here.1) (ended_is es kind here.0))
    ]

pub longest_longest : {K : Type 0} (es : List (K × Form)) (kind : K) (token rest : List ℕ) → Is es kind token
    → (found : K × ℕ) × (longest es (token ++ rest) ≡ Some found) × (length token ≤ found.1)
longest_longest {K} es kind [] [] h =
    let end = is_ended es kind h in
    ((end.0, 0), ap at_once end.1, omega arith)
longest_longest {K} es kind [] (c ∷ rest) h =
    let end = is_ended es kind h in
    elim (longest (all_behind c es) rest) as (λ o. (found : K × ℕ) × (one_longer o (at_once (ended es)) ≡ Some found) × (0 ≤ found.1)) [
      | None ↦ ((end.0, 0), ap at_once end.1, omega arith)
      | Some p ↦ ((p.0, p.1 + 1), refl, omega arith)
    ]
longest_longest {K} es kind (c ∷ token) rest h =
    let more = longest_longest (all_behind c es) kind token rest (all_behind_is es kind c token h) in
    let bound : length token ≤ more.0.1 = more.2 in
    ((more.0.0, more.0.1 + 1), ap (λ (o : Option (K × ℕ)). one_longer o (at_once (ended es))) more.1, omega (arith, bound))

-- Tokens

of_kind : (ks : List Kind) (kind : Kind) (text : List ℕ) → Is (forms_of ks) kind text → IsToken kind text
of_kind [] kind text h = absurd h
of_kind (k ∷ ks) kind text (inl h) = subst (λ (x : Kind). HasForm (form_of x) text) h.0 h.1
of_kind (k ∷ ks) kind text (inr h) = of_kind ks kind text h

abbrev Among : Kind → List Kind → Type 0
Among kind [] = ⊥
Among kind (k ∷ ks) = (k ≡ kind) ⊎ Among kind ks

by_kind : (ks : List Kind) (kind : Kind) (text : List ℕ) → Among kind ks → IsToken kind text → Is (forms_of ks) kind text
by_kind [] kind text a h = a
by_kind (k ∷ ks) kind text (inl a) h = inl (a, subst (λ (x : Kind). HasForm (form_of x) text) (sym a) h)
by_kind (k ∷ ks) kind text (inr a) h = inr (by_kind ks kind text a h)

all_kinds : (kind : Kind) → Among kind kinds
all_kinds Iri = inl refl
all_kinds PnameNs = inr (inl refl)
all_kinds PnameLn = inr (inr (inl refl))
all_kinds Label = inr (inr (inr (inl refl)))
all_kinds Var = inr (inr (inr (inr (inl refl))))
all_kinds LangTag = inr (inr (inr (inr (inr (inl refl)))))
all_kinds Integer = inr (inr (inr (inr (inr (inr (inl refl))))))
all_kinds Decimal = inr (inr (inr (inr (inr (inr (inr (inl refl)))))))
all_kinds Double = inr (inr (inr (inr (inr (inr (inr (inr (inl refl))))))))
all_kinds SignedInteger = inr (inr (inr (inr (inr (inr (inr (inr (inr (inl refl)))))))))
all_kinds SignedDecimal = inr (inr (inr (inr (inr (inr (inr (inr (inr (inr (inl refl))))))))))
all_kinds SignedDouble = inr (inr (inr (inr (inr (inr (inr (inr (inr (inr (inr (inl refl)))))))))))
all_kinds Str = inr (inr (inr (inr (inr (inr (inr (inr (inr (inr (inr (inr (inl refl))))))))))))
all_kinds Word = inr (inr (inr (inr (inr (inr (inr (inr (inr (inr (inr (inr (inr (inl refl)))))))))))))
all_kinds Mark = inr (inr (inr (inr (inr (inr (inr (inr (inr (inr (inr (inr (inr (inr (inl refl))))))))))))))

pub token_is : (kind : Kind) (text : List ℕ) → IsToken kind text → Is (forms_of kinds) kind text
token_is kind text h = by_kind kinds kind text (all_kinds kind) h

pub finds_tokens : FindsTokens
unfolding token_at
finds_tokens = record {
  found = λ text kind n h. (let found = longest_found (forms_of kinds) text kind n h in (found.0, of_kind kinds kind (take n text) found.1));
  longest = λ kind token rest h. longest_longest (forms_of kinds) kind token rest (token_is kind token h);
}

gap_found : (o : Option (ℕ × ℕ)) (text : List ℕ) → ((found : ℕ × ℕ) × (o ≡ Some found) × (0 ≤ found.1))
    → ((kind n : ℕ) → o ≡ Some (kind, n) → (n ≤ length text) × Is ((0, gap) ∷ []) kind (take n text))
    → (length_found o ≤ length text) × IsGap (take (length_found o) text)
gap_found None text some all = absurd cc
gap_found (Some found) text some all =
    let h = all found.0 found.1 refl in
    (h.0, elim h.1 [ inl x ↦ x.1 | inr y ↦ absurd y ])

pub finds_gaps : FindsGaps
unfolding gap_at
finds_gaps = record {
  found = λ text. gap_found (longest ((0, gap) ∷ []) text) text (longest_longest ((0, gap) ∷ []) 0 [] text (inl (refl, optional_has gap refl)))
      (λ kind n h. longest_found ((0, gap) ∷ []) text kind n h);
  longest = λ front rest h.
      (let more = longest_longest ((0, gap) ∷ []) 0 front rest (inl (refl, h)) in
      subst (λ (o : Option (ℕ × ℕ)). length front ≤ length_found o) (sym more.1) more.2);
}
