-- A lexical form, cut at its escapes.
use Rattle.std.proofs.Common.{◌≡◌, ◌∙◌, ◌<◌, ◌+◌, ℕ, suc, true, false, cond, length, get_or, [], ◌∷◌, ◌++◌, take, drop, refl, sym, ap, subst, arith, Option, Some, None}
use Rattle.std.specs.Prelude.{IsUtf8, IsCharBoundary, ◌&&◌}
use Rattle.std.specs.List.{list_all, prefix_len}
use Rattle.std.proofs.lemmas.Bool.Decides.{nat_tests}
use Rattle.std.proofs.lemmas.Str.{IsUtf8-drop, IsCharBoundary-after_ascii}
use Rattle.std.proofs.lemmas.List.{append-nil, length-drop, get_or-drop}
use Rattle.std.proofs.lemmas.List.Sums.{prefix_len-le-length, prefix_len_stops, AllPass-from_list_all}
use Rattle.rdf_model.specs.Terms.{Text}
use Rattle.rdf_term.specs.declared.escaped.Escapes.{Escapes}
use Rattle.rdf_term.specs.declared.escaped.Escapes.TheVariants.{Canon, Tsv}
use Rattle.rdf_term.specs.Escapes.{escape_by, stays, form_text, IsCut, CutsTo}
use Rattle.std.specs.Borrow.{Bor}

plain_byte : (escapes : Escapes) (b : ℕ) → stays escapes b ≡ true → escape_by escapes b ≡ b ∷ []
plain_byte Canon b h = canon b h
  where
    canon : (b : ℕ) → stays Canon b ≡ true → escape_by Canon b ≡ b ∷ []
    canon b h = grind (arith, nat_tests)
plain_byte Tsv b h = tsv b h
  where
    tsv : (b : ℕ) → stays Tsv b ≡ true → escape_by Tsv b ≡ b ∷ []
    tsv b h = grind (arith, nat_tests)

-- a form without escapes is its text
pub plain_form : (escapes : Escapes) (form : Text) → list_all (stays escapes) form ≡ true → form_text escapes form ≡ form
plain_form escapes [] h = refl
plain_form escapes (b ∷ bs) h =
    let first : stays escapes b ≡ true = AllPass-from_list_all (stays escapes) (b ∷ bs) h 0 0 (omega arith) in
    let rest : list_all (stays escapes) bs ≡ true = sym (ap (λ x. x && list_all (stays escapes) bs) first) ∙ h in
    ap (λ (z : Text). z ++ form_text escapes bs) (plain_byte escapes b first) ∙ ap (λ z. b ∷ z) (plain_form escapes bs rest)

stops_small : (escapes : Escapes) (b : ℕ) → stays escapes b ≡ false → b < 128
stops_small Canon b h = canon b h
  where
    canon : (b : ℕ) → stays Canon b ≡ false → b < 128
    canon b h = grind (arith, nat_tests)
stops_small Tsv b h = tsv b h
  where
    tsv : (b : ℕ) → stays Tsv b ≡ false → b < 128
    tsv b h = grind (arith, nat_tests)

run_text : (escapes : Escapes) (form : Text) → form_text escapes form ≡ take (prefix_len (stays escapes) form) form ++ form_text escapes (drop (prefix_len (stays escapes) form) form)
run_text escapes [] = refl
run_text escapes (b ∷ bs) =
    elim (stays escapes b) as (λ e. stays escapes b ≡ e → form_text escapes (b ∷ bs) ≡ take (cond {A = ℕ} e (1 + prefix_len (stays escapes) bs) 0) (b ∷ bs) ++ form_text escapes (drop (cond {A = ℕ} e (1 + prefix_len (stays escapes) bs) 0) (b ∷ bs))) [
      | true ↦ λ e.
          let one : 1 + prefix_len (stays escapes) bs ≡ suc (prefix_len (stays escapes) bs) = omega arith in
          rw one (ap (λ (z : Text). z ++ form_text escapes bs) (plain_byte escapes b e) ∙ ap (λ z. b ∷ z) (run_text escapes bs))
      | false ↦ λ e. refl
    ] refl

at_stop : (escapes : Escapes) (form : Text) (n : ℕ) → n ≡ prefix_len (stays escapes) form → n < length form → stays escapes (get_or form n 0) ≡ false
at_stop escapes form n is h = ap (λ (k : ℕ). stays escapes (get_or form k 0)) is ∙ prefix_len_stops (stays escapes) form 0 (omega arith)

pub run_boundary : (escapes : Escapes) (form : Text) (n : ℕ) → n ≡ prefix_len (stays escapes) form → IsCharBoundary form n
run_boundary escapes form n is =
    (omega (arith, prefix_len-le-length (stays escapes) form), λ h large. absurd (omega (arith, stops_small escapes _ (at_stop escapes form n is h))))

-- the byte behind the run
pub stop_is : (escapes : Escapes) (form behind : Text) (n first : ℕ) → n ≡ prefix_len (stays escapes) form → behind ≡ drop n form → 0 < length behind → first ≡ get_or behind 0 0 → stays escapes first ≡ false
stop_is escapes form behind n first is behind_is some first_is =
    let here : n < length form = omega (arith, ap length behind_is, length-drop n form) in
    let at : get_or behind 0 0 ≡ get_or form n 0 = ap (λ (z : Text). get_or z 0 0) behind_is ∙ get_or-drop n form 0 0 ∙ ap (λ (k : ℕ). get_or form k 0) (omega arith) in
    ap (stays escapes) (first_is ∙ at) ∙ at_stop escapes form n is here

pub one_boundary : (escapes : Escapes) (form behind : Text) (n first : ℕ) → IsUtf8 form → n ≡ prefix_len (stays escapes) form → behind ≡ drop n form → 0 < length behind → first ≡ get_or behind 0 0 → IsCharBoundary behind 1
one_boundary escapes form behind n first u is behind_is some first_is =
    let utf8 : IsUtf8 behind = subst IsUtf8 (sym behind_is) (IsUtf8-drop form n u (run_boundary escapes form n is)) in
    let small = stops_small escapes first (stop_is escapes form behind n first is behind_is some first_is) in
    IsCharBoundary-after_ascii behind 0 utf8 some (omega (arith, small))

first_and_rest : (behind : Text) (first : ℕ) → 0 < length behind → first ≡ get_or behind 0 0 → behind ≡ first ∷ drop 1 behind
first_and_rest [] first some is = absurd (omega arith)
first_and_rest (b ∷ bs) first some is = ap (λ x. x ∷ bs) (sym is)

pub cut_is : (escapes : Escapes) (form run behind escape rest : Text) (n first : ℕ) → n ≡ prefix_len (stays escapes) form → run ≡ take n form → behind ≡ drop n form → 0 < length behind → first ≡ get_or behind 0 0
    → escape ≡ escape_by escapes first → rest ≡ drop 1 behind → IsCut escapes form run escape rest
cut_is escapes form run behind escape rest n first is run_is behind_is some first_is escape_is rest_is =
    let all : form_text escapes form ≡ take n form ++ form_text escapes (drop n form) = run_text escapes form ∙ ap (λ (k : ℕ). take k form ++ form_text escapes (drop k form)) (sym is) in
    let tail : form_text escapes (drop n form) ≡ escape ++ form_text escapes rest =
    ap (form_text escapes) (sym behind_is ∙ first_and_rest behind first some first_is) ∙ ap (λ (z : Text). z ++ form_text escapes (drop 1 behind)) (sym escape_is) ∙ ap (λ (z : Text). escape ++ form_text escapes z) (sym rest_is) in
    record {
      text = all ∙ ap (λ (z : Text). z ++ form_text escapes (drop n form)) (sym run_is) ∙ ap (λ (z : Text). run ++ z) tail;
      shorter = omega (arith, ap length rest_is, length-drop 1 behind, ap length behind_is, length-drop n form);
    }

pub no_cut : (escapes : Escapes) (form run behind : Text) (n : ℕ) → n ≡ prefix_len (stays escapes) form → run ≡ take n form → behind ≡ drop n form → length behind ≡ 0 → form_text escapes form ≡ run
no_cut escapes form run behind n is run_is behind_is none =
    let all : form_text escapes form ≡ take n form ++ form_text escapes (drop n form) = run_text escapes form ∙ ap (λ (k : ℕ). take k form ++ form_text escapes (drop k form)) (sym is) in
    let empty : drop n form ≡ [] = nothing (drop n form) (ap length (sym behind_is) ∙ none) in
    all ∙ ap (λ (z : Text). take n form ++ form_text escapes z) empty ∙ append-nil (take n form) ∙ sym run_is
  where
    nothing : (z : Text) → length z ≡ 0 → z ≡ []
    nothing [] h = refl
    nothing (x ∷ z) h = absurd (omega arith)

-- what a cut says, whatever is behind the run, and where an escape is
pub cut_run : (escapes : Escapes) (form : Text) (run : Bor Text) (r : Option (Bor Text × Bor Text)) → CutsTo escapes form run r → (more : Text) × (form_text escapes form ≡ run.now ++ more)
cut_run escapes form run None h = ([], h ∙ sym (append-nil run.now))
cut_run escapes form run (Some p) h = (_, h.text)

pub cut_some : (escapes : Escapes) (form : Text) (run : Bor Text) (r : Option (Bor Text × Bor Text)) (escape rest : Bor Text) → CutsTo escapes form run r → r ≡ Some (escape, rest) → IsCut escapes form run.now escape.now rest.now
cut_some escapes form run r escape rest h is = subst (λ (z : Option (Bor Text × Bor Text)). CutsTo escapes form run z) is h
