-- What is found of an inside is what the productions say.
use Rattle.std.proofs.Common.{◌≡◌, ◌∙◌, ◌≤◌, ℕ, zero, suc, Bool, true, false, cond, List, [], ◌∷◌, ◌++◌, length, take, drop, refl, sym, ap, subst, arith, Option, Some, None}
use Rattle.std.specs.Prelude.{◌==◌}
use Rattle.std.proofs.lemmas.List.{take-append-drop, length-drop}
use Rattle.std.proofs.Math.Seq.{drop-append_seam}
use Rattle.std.specs.Prelude.{◌&&◌, encode_utf8_all}
use Rattle.std.specs.List.{AllByRecursion, list_all}
use Rattle.std.specs.Option.{option_map}
use Rattle.std.specs.Str.{chars}
use Rattle.hypertrie_model.specs.SetLaws.{and_both, or_cases}
use Rattle.ntriples_model.specs.Characters.{is_iri_char, is_letter, is_scheme_char}
use Rattle.ntriples_model.specs.Terminals.{IsAbsolute, string_escape_at, is_absolute, is_scheme_rest}
use Rattle.ntriples_model.proofs.Quoted.{absolute_only}
use Rattle.ntriples_model.proofs.Bodies.{is_same}
use Rattle.ntriples_model.proofs.Escapes.{string_escapes}
use Rattle.query_grammar.specs.Texts.{with_character, escape_then, unescaped_behind, unescaped, trimmed, within_quotes, proper_iri, iri_text}
use Rattle.query_forms.specs.Insides.{Means, done, plain, escaped, MeansIri}
use Rattle.query_forms.specs.Laws.{MeanAsProductions}

skipped : (skip : ℕ) (cs : List ℕ) → unescaped_behind skip cs ≡ unescaped (drop skip cs)
unfolding unescaped_behind
skipped zero cs = refl
skipped (suc skip) [] = refl
skipped (suc skip) (c ∷ cs) = skipped skip cs

record Split (c : ℕ) (o : Option (List ℕ)) (meant : List ℕ) : Type 0 where
  rest : List ℕ
  behind : o ≡ Some rest
  is : c ∷ rest ≡ meant

split : (c : ℕ) (o : Option (List ℕ)) (meant : List ℕ) → with_character c o ≡ Some meant → Split c o meant
split c None meant e = absurd (let f : ⊥ = cc in f)
split c (Some rest) meant e = record { rest = rest; behind = refl; is = (let same : c ∷ rest ≡ meant = cc in same) }

-- up to so many characters, what is found is of the productions
abbrev Finds : ℕ → Type 0
Finds most = (cs meant : List ℕ) → length cs ≤ most → unescaped cs ≡ Some meant → Means cs meant

found : (most : ℕ) (cs meant : List ℕ) → length cs ≤ most → unescaped cs ≡ Some meant → Means cs meant
unfolding unescaped_behind
found most [] meant le e = subst (Means []) (let same : [] ≡ meant = cc in same) done
found zero (c ∷ cs) meant le e = absurd (omega (arith, le))
found (suc most) (c ∷ cs) meant le e = by (found most) (c == 92) refl e where
  after : Finds most → (o : Option (ℕ × ℕ)) → string_escape_at cs ≡ o → (c == 92) ≡ true → escape_then o (λ skip. unescaped_behind skip cs) ≡ Some meant → Means (c ∷ cs) meant
  after behind None is same e = absurd (let f : ⊥ = cc in f)
  after behind (Some p) is same e =
      let s = split p.0 (unescaped_behind p.1 cs) meant e in
      let escape = string_escapes.found cs p.0 p.1 is in
      let rest = behind (drop p.1 cs) s.rest (omega (arith, le, length-drop p.1 cs)) (sym (skipped p.1 cs) ∙ s.behind) in
      subst (λ k. Means k meant) (ap (λ b. b ∷ (take p.1 cs ++ drop p.1 cs)) (sym (is_same c 92 same)) ∙ ap (λ k. c ∷ k) (take-append-drop p.1 cs))
      (subst (Means ((92 ∷ take p.1 cs) ++ drop p.1 cs)) s.is (escaped (92 ∷ take p.1 cs) p.0 (drop p.1 cs) s.rest escape.0 rest))

  by : Finds most → (b : Bool) → (c == 92) ≡ b → elim b [ true ↦ escape_then (string_escape_at cs) (λ skip. unescaped_behind skip cs) | false ↦ with_character c (unescaped_behind zero cs) ] ≡ Some meant → Means (c ∷ cs) meant
  by behind true same e = after behind (string_escape_at cs) refl same e
  by behind false differs e =
      let s = split c (unescaped cs) meant e in
      subst (Means (c ∷ cs)) s.is (plain c cs s.rest differs (behind cs s.rest (omega (arith, le)) s.behind))

only : (cs meant : List ℕ) → Means cs meant → unescaped cs ≡ Some meant
unfolding unescaped_behind
only _ _ done = refl
only _ _ (plain c cs meant differs rest) = by (only cs meant rest) (c == 92) differs where
  by : unescaped cs ≡ Some meant → (b : Bool) → b ≡ false → elim b [ true ↦ escape_then (string_escape_at cs) (λ skip. unescaped_behind skip cs) | false ↦ with_character c (unescaped_behind zero cs) ] ≡ Some (c ∷ meant)
  by behind true e = absurd (let f : ⊥ = cc in f)
  by behind false e = ap (with_character c) behind
only _ _ (escaped escape c cs meant is rest) =
    let reads = string_escapes.only escape c is in
    ap (λ e. unescaped (e ++ cs)) reads.1
    ∙ ap (λ o. escape_then o (λ skip. unescaped_behind skip (reads.0 ++ cs))) (reads.2 cs)
    ∙ ap (with_character c) (skipped (length reads.0) (reads.0 ++ cs) ∙ ap unescaped (drop-append_seam reads.0 cs) ∙ only cs meant rest)

-- IRIs and strings

option_is : (o : Option (List ℕ)) (text : List ℕ) → option_map encode_utf8_all o ≡ Some text → (meant : List ℕ) × (o ≡ Some meant) × (text ≡ encode_utf8_all meant)
option_is None text e = absurd (let f : ⊥ = cc in f)
option_is (Some meant) text e = (meant, refl, (let same : text ≡ encode_utf8_all meant = cc in same))

proper_is : (o : Option (List ℕ)) (iri : List ℕ) → proper_iri o ≡ Some iri → (o ≡ Some iri) × (list_all is_iri_char iri ≡ true) × (is_absolute iri ≡ true)
proper_is None iri e = absurd (let f : ⊥ = cc in f)
proper_is (Some text) iri e = by (list_all is_iri_char text && is_absolute text) refl e where
  by : (b : Bool) → (list_all is_iri_char text && is_absolute text) ≡ b → cond {A = Option (List ℕ)} b (Some text) None ≡ Some iri → ((let o : Option (List ℕ) = Some text in o) ≡ Some iri) × (list_all is_iri_char iri ≡ true) × (is_absolute iri ≡ true)
  by false t e = absurd (let f : ⊥ = cc in f)
  by true t e =
      let same : text ≡ iri = cc in
      let both = and_both (list_all is_iri_char text) (is_absolute text) t in
      (e, subst (λ k. list_all is_iri_char k ≡ true) same both.0, subst (λ k. is_absolute k ≡ true) same both.1)

record IsScheme (cs : List ℕ) : Type 0 where
  scheme : List ℕ
  rest : List ℕ
  is : cs ≡ scheme ++ 58 ∷ rest
  goes_on : AllByRecursion (λ c. is_scheme_char c ≡ true) scheme

scheme_found : (cs : List ℕ) → is_scheme_rest cs ≡ true → IsScheme cs
scheme_found [] h = absurd (let f : ⊥ = cc in f)
scheme_found (c ∷ cs) h = or_cases (c == 58) (is_scheme_char c && is_scheme_rest cs) h (IsScheme (c ∷ cs))
    (λ e. record { scheme = []; rest = cs; is = ap (λ x. x ∷ cs) (is_same c 58 e); goes_on = tt })
    (λ e.
    let p = and_both (is_scheme_char c) (is_scheme_rest cs) e in
    let inner = scheme_found cs p.1 in
    record { scheme = c ∷ inner.scheme; rest = inner.rest; is = ap (λ z. c ∷ z) inner.is; goes_on = (p.0, inner.goes_on) })

absolute_found : (text : List ℕ) → is_absolute text ≡ true → IsAbsolute text
unfolding is_absolute
absolute_found [] h = absurd (let f : ⊥ = cc in f)
absolute_found (c ∷ cs) h =
    let p = and_both (is_letter c) (is_scheme_rest cs) h in
    let s = scheme_found cs p.1 in
    record { first = c; scheme = s.scheme; rest = s.rest; text_is = ap (λ z. c ∷ z) s.is; begins = p.0; goes_on = s.goes_on }

iri_found : (token iri : List ℕ) → iri_text token ≡ Some iri → MeansIri token iri
iri_found token iri e =
    let p = proper_is (option_map encode_utf8_all (unescaped (trimmed (chars token)))) iri e in
    let o = option_is (unescaped (trimmed (chars token))) iri p.0 in
    record {
      meant = o.0;
      means = found (length (trimmed (chars token))) (trimmed (chars token)) o.0 (omega arith) o.1;
      is = o.2;
      fits = p.1;
      absolute = absolute_found iri p.2;
    }

iri_only : (token iri : List ℕ) → MeansIri token iri → iri_text token ≡ Some iri
iri_only token iri h =
    ap (λ o. proper_iri (option_map encode_utf8_all o)) (only (trimmed (chars token)) h.meant h.means)
    ∙ ap (λ k. proper_iri (Some k)) (sym h.is)
    ∙ (λ i. cond {A = Option (List ℕ)} (h.fits i && absolute_only iri h.absolute i) (Some iri) None)

pub mean_as_productions : MeanAsProductions
mean_as_productions = record {
  insides = λ cs meant. (only cs meant, found (length cs) cs meant (omega arith));
  iris = λ token iri. (iri_only token iri, iri_found token iri);
  texts = λ token text. (
    (λ h. ap (option_map encode_utf8_all) (only (within_quotes token) h.meant h.means) ∙ ap Some (sym h.is)),
    (λ e.
        let o = option_is (unescaped (within_quotes token)) text e in
        record { meant = o.0; means = found (length (within_quotes token)) (within_quotes token) o.0 (omega arith) o.1; is = o.2 }),
  );
}
