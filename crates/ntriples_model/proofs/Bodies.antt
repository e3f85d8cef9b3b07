-- The body of an IRI or a string: what is found is spelled by the productions, and nothing else is.
use Rattle.std.proofs.Common.{◌≡◌, ◌∙◌, ◌≤◌, ℕ, zero, suc, Bool, true, false, cond, List, [], ◌∷◌, ◌++◌, length, take, drop, refl, sym, ap, subst, append_assoc, arith, Option, Some, None}
use Rattle.std.specs.Prelude.{◌==◌, encode_utf8}
use mathlib.Core.Bool.{true≢false}
use Rattle.std.proofs.lemmas.Bool.Decides.{nat_tests}
use Rattle.std.proofs.lemmas.List.{take-append-drop}
use Rattle.std.proofs.Math.Seq.{drop-append_seam}
use Rattle.rdf_model.specs.Terms.{Text}
use Rattle.ntriples_model.specs.Terminals.{IsBody, done, plain, escaped, body_at, longer, escape_then}

abbrev pub Found : Type 0
Found = Option (Text × Text)

-- the escapes of a body: what is found is one, and one is found
pub record FindsEscapes (IsEscape : Text → ℕ → Type 0) (escape_at : List ℕ → Option (ℕ × ℕ)) : Type 0 where
  pub found : (bs : List ℕ) (c size : ℕ) → escape_at bs ≡ Some (c, size) → IsEscape (92 ∷ take size bs) c × (size ≤ length bs)
  pub only : (escape : Text) (c : ℕ) → IsEscape escape c → (e : Text) × (escape ≡ 92 ∷ e) × ((rest : List ℕ) → escape_at (e ++ rest) ≡ Some (c, length e))

-- bytes that are a body, the closing character, and the rest
pub record Spells (fits : ℕ → Bool) (close : ℕ) (IsEscape : Text → ℕ → Type 0) (bs text rest : List ℕ) : Type 0 where
  pub raw : Text
  pub bytes_are : bs ≡ raw ++ close ∷ rest
  pub body : IsBody fits IsEscape raw text

pub longer_some : (piece : Text) (o : Found) (text rest : Text) → longer piece o ≡ Some (text, rest) → (t : Text) × (o ≡ Some (t, rest)) × (piece ++ t ≡ text)
longer_some piece None text rest h = cc
longer_some piece (Some p) text rest h =
    let pair : (let q : Text × Text = (piece ++ p.0, p.1) in q) ≡ (text, rest) = cc in
    (p.0, ap (λ (r : Text). Some (let q : Text × Text = (p.0, r) in q)) (ap (λ (q : Text × Text). q.1) pair), ap (λ (q : Text × Text). q.0) pair)

escape_then_some : (o : Option (ℕ × ℕ)) (after : ℕ → Found) (text rest : Text) → escape_then o after ≡ Some (text, rest)
    → (c : ℕ) × (size : ℕ) × (t : Text) × (o ≡ Some (c, size)) × (after size ≡ Some (t, rest)) × (encode_utf8 c ++ t ≡ text)
escape_then_some None after text rest h = cc
escape_then_some (Some e) after text rest h =
    let inner = longer_some (encode_utf8 e.0) (after e.1) text rest h in
    (e.0, e.1, inner.0, refl, inner.1, inner.2)

pub skipped : (fits : ℕ → Bool) (close : ℕ) (escape_at : List ℕ → Option (ℕ × ℕ)) (bs : List ℕ) (skip : ℕ)
    → body_at fits close escape_at skip bs ≡ body_at fits close escape_at 0 (drop skip bs)
unfolding body_at
skipped fits close escape_at bs zero = refl
skipped fits close escape_at [] (suc skip) = refl
skipped fits close escape_at (b ∷ bs) (suc skip) = skipped fits close escape_at bs skip

pub is_same : (a b : ℕ) → (a == b) ≡ true → a ≡ b
is_same a b h = grind (arith, nat_tests)

-- what is found is spelled
pub body_found : (fits : ℕ → Bool) (close : ℕ) (IsEscape : Text → ℕ → Type 0) (escape_at : List ℕ → Option (ℕ × ℕ)) → FindsEscapes IsEscape escape_at
    → (bs : List ℕ) (skip : ℕ) (text rest : Text) → body_at fits close escape_at skip bs ≡ Some (text, rest) → Spells fits close IsEscape (drop skip bs) text rest
unfolding body_at
body_found fits close IsEscape escape_at f [] skip text rest h = cc
body_found fits close IsEscape escape_at f (b ∷ bs) (suc skip) text rest h = body_found fits close IsEscape escape_at f bs skip text rest h
body_found fits close IsEscape escape_at f (b ∷ bs) zero text rest h =
    elim (b == close) as (λ e. (b == close) ≡ e → cond {A = Found} e (Some ([], bs)) (cond {A = Found} (fits b) (longer (b ∷ []) (body_at fits close escape_at zero bs)) (cond {A = Found} (b == 92) (escape_then (escape_at bs) (λ skip. body_at fits close escape_at skip bs)) None)) ≡ Some (text, rest) → Spells fits close IsEscape (b ∷ bs) text rest) [
      | true ↦ λ e h.
          let pair : (let q : Text × Text = ([], bs) in q) ≡ (text, rest) = cc in
          subst (λ (q : Text × Text). Spells fits close IsEscape (b ∷ bs) q.0 q.1) pair (record { raw = []; bytes_are = ap (λ x. x ∷ bs) (is_same b close e); body = done })
      | false ↦ λ e h. elim (fits b) as (λ t. fits b ≡ t → cond {A = Found} t (longer (b ∷ []) (body_at fits close escape_at zero bs)) (cond {A = Found} (b == 92) (escape_then (escape_at bs) (λ skip. body_at fits close escape_at skip bs)) None) ≡ Some (text, rest) → Spells fits close IsEscape (b ∷ bs) text rest) [
        | true ↦ λ t h.
            let p = longer_some (b ∷ []) (body_at fits close escape_at zero bs) text rest h in
            let inner = body_found fits close IsEscape escape_at f bs zero p.0 rest p.1 in
            subst (λ (q : Text). Spells fits close IsEscape (b ∷ bs) q rest) p.2
            (record { raw = b ∷ inner.raw; bytes_are = ap (λ z. b ∷ z) inner.bytes_are; body = plain b inner.raw p.0 t inner.body })
        | false ↦ λ t h. elim (b == 92) as (λ s. (b == 92) ≡ s → cond {A = Found} s (escape_then (escape_at bs) (λ skip. body_at fits close escape_at skip bs)) None ≡ Some (text, rest) → Spells fits close IsEscape (b ∷ bs) text rest) [
          | true ↦ λ s h.
              let p = escape_then_some (escape_at bs) (λ skip. body_at fits close escape_at skip bs) text rest h in
              let inner = body_found fits close IsEscape escape_at f bs p.1 p.2 rest p.4 in
              let escape = (f.found bs p.0 p.1 p.3).0 in
              let bytes : b ∷ bs ≡ ((92 ∷ take p.1 bs) ++ inner.raw) ++ close ∷ rest =
              ap (λ x. x ∷ bs) (is_same b 92 s) ∙ ap (λ z. 92 ∷ z) (sym (take-append-drop p.1 bs) ∙ ap (λ z. take p.1 bs ++ z) inner.bytes_are ∙ sym (append_assoc (take p.1 bs) inner.raw (close ∷ rest))) in
              subst (λ (q : Text). Spells fits close IsEscape (b ∷ bs) q rest) p.5
              (record { raw = (92 ∷ take p.1 bs) ++ inner.raw; bytes_are = bytes; body = escaped (92 ∷ take p.1 bs) p.0 inner.raw p.2 escape inner.body })
          | false ↦ λ s h. cc
        ] refl h
      ] refl h
    ] refl h

-- what the tests of a body say of the closing character and the backslash
pub record Parts (fits : ℕ → Bool) (close : ℕ) : Type 0 where
  pub close_ends : fits close ≡ false
  pub backslash_escapes : fits 92 ≡ false
  pub apart : (92 == close) ≡ false

not_close : (fits : ℕ → Bool) (close b : ℕ) → fits close ≡ false → fits b ≡ true → (b == close) ≡ false
not_close fits close b h t = elim (b == close) as (λ e. (b == close) ≡ e → e ≡ false) [
  | true ↦ λ e. absurd (true≢false (sym t ∙ ap fits (is_same b close e) ∙ h))
  | false ↦ λ e. refl
] refl

same_test : (b : ℕ) → (b == b) ≡ true
same_test b = grind (arith, nat_tests)

-- an escape, read
pub escape_step : (fits : ℕ → Bool) (close : ℕ) (escape_at : List ℕ → Option (ℕ × ℕ)) → Parts fits close
    → (e : List ℕ) (c : ℕ) (after : List ℕ) → escape_at (e ++ after) ≡ Some (c, length e)
    → body_at fits close escape_at 0 (92 ∷ (e ++ after)) ≡ longer (encode_utf8 c) (body_at fits close escape_at 0 after)
unfolding body_at
escape_step fits close escape_at parts e c after finds =
    rw (parts.apart, parts.backslash_escapes, finds) (ap (longer (encode_utf8 c)) (skipped fits close escape_at (e ++ after) (length e) ∙ ap (body_at fits close escape_at 0) (drop-append_seam e after)))

-- what is spelled is found
pub body_only : (fits : ℕ → Bool) (close : ℕ) (IsEscape : Text → ℕ → Type 0) (escape_at : List ℕ → Option (ℕ × ℕ)) → FindsEscapes IsEscape escape_at → Parts fits close
    → (raw text rest : Text) → IsBody fits IsEscape raw text → body_at fits close escape_at 0 (raw ++ close ∷ rest) ≡ Some (text, rest)
unfolding body_at
body_only fits close IsEscape escape_at f parts raw text rest done = rw (same_test close) refl
body_only fits close IsEscape escape_at f parts raw text rest (plain b raw1 text1 t body) =
    rw (not_close fits close b parts.close_ends t, t) (ap (longer (b ∷ [])) (body_only fits close IsEscape escape_at f parts raw1 text1 rest body))
body_only fits close IsEscape escape_at f parts raw text rest (escaped escape c raw1 text1 is body) =
    let e = f.only escape c is in
    let after : List ℕ = raw1 ++ close ∷ rest in
    ap (λ (u : Text). body_at fits close escape_at 0 ((u ++ raw1) ++ close ∷ rest)) e.1
    ∙ ap (λ (z : List ℕ). body_at fits close escape_at 0 (92 ∷ z)) (append_assoc e.0 raw1 (close ∷ rest))
    ∙ escape_step fits close escape_at parts e.0 c after (e.2 after)
    ∙ ap (longer (encode_utf8 c)) (body_only fits close IsEscape escape_at f parts raw1 text1 rest body)
