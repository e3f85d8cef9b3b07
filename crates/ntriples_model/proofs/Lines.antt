-- Each terminal is found exactly where it stands, so the two forms of a line agree.
use Rattle.std.proofs.Common.{◌≡◌, ◌∙◌, ◌↔◌, ℕ, ◌≤◌, List, [], ◌∷◌, ◌++◌, length, refl, sym, ap, subst, arith, length-append, append-nil, append_assoc}
use Rattle.std.specs.Prelude.{Option, Some}
use Rattle.rdf_model.specs.Terms.{Text, Triple}
use Rattle.ntriples_model.specs.Laws.{FindsLongest}
use Rattle.ntriples_model.specs.Line.{IsLine, said}
use Rattle.ntriples_model.proofs.Labels.{labels}
use Rattle.ntriples_model.proofs.Quoted.{iris, strings}
use Rattle.ntriples_model.proofs.Tags.{tags}
use Rattle.ntriples_model.proofs.LineLemmas.{Finds, FindsTerminals, said_found, said_standing}

same_some : {A : Type 0} {a b : A} → Some a ≡ Some b → a ≡ b
same_some h = cc

-- of two fronts of the same bytes, the one with the shorter rest begins with the other
longer_front : (t u a b : Text) → t ++ a ≡ u ++ b → length b ≤ length a → (more : Text) × (u ≡ t ++ more) × (a ≡ more ++ b)
longer_front [] u a b e h = (u, refl, e)
longer_front (x ∷ t) [] a b e h = absurd (omega (arith, ap length e, length-append t a))
longer_front (x ∷ t) (y ∷ u) a b e h =
    let same : y ≡ x = cc in
    let tails : t ++ a ≡ u ++ b = cc in
    let f = longer_front t u a b tails h in
    (f.0, ap (λ z. z ∷ u) same ∙ ap (λ z. x ∷ z) f.1, f.2)

none_longer : (more behind : Text) → length (more ++ behind) ≤ length behind → more ≡ []
none_longer [] behind h = refl
none_longer (x ∷ more) behind h = absurd (omega (arith, length-append more behind))

one_text : (o : Option (Text × Text)) (a b : Text) → o ≡ Some (a, []) → o ≡ Some (b, []) → a ≡ b
one_text o a b h k = ap (λ p. p.0) (same_some (sym h ∙ k))

finds_of : (IsTerminal : Text → Text → Type 0) (at : List ℕ → Option (Text × Text)) → FindsLongest IsTerminal at → Finds IsTerminal at
finds_of IsTerminal at finds = record {
  standing = λ terminal rest text stands.
      let found = finds.longest terminal text rest stands.is in
      let p = found.0 in
      let front = finds.found (terminal ++ rest) p.0 p.1 found.1 in
      let split = longer_front terminal front.0 rest p.1 front.1 found.2 in
      let none : split.0 ≡ [] = stands.longest split.0 p.1 p.0 split.2 (subst (λ z. IsTerminal z p.0) split.1 front.2) in
      let same : front.0 ≡ terminal = split.1 ∙ ap (λ z. terminal ++ z) none ∙ append-nil terminal in
      let behind : rest ≡ p.1 = split.2 ∙ ap (λ z. z ++ p.1) none in
      let same_text : p.0 ≡ text = one_text (at terminal) p.0 text (finds.whole terminal p.0 (subst (λ z. IsTerminal z p.0) same front.2)) (finds.whole terminal text stands.is) in
      found.1 ∙ ap (λ z. Some (z, p.1)) same_text ∙ ap (λ z. Some (text, z)) (sym behind);
  found = λ bytes text rest h.
      let front = finds.found bytes text rest h in (
        front.0,
        front.1,
        record {
          is = front.2;
          longest = λ more behind other split is.
              let longer = finds.longest (front.0 ++ more) other behind is in
              let bytes_are : (front.0 ++ more) ++ behind ≡ bytes = append_assoc front.0 more behind ∙ ap (λ z. front.0 ++ z) (sym split) ∙ sym front.1 in
              let both : Some longer.0 ≡ Some (text, rest) = sym longer.1 ∙ ap at bytes_are ∙ h in
              let rest_is : longer.0.1 ≡ rest = ap (λ p. p.1) (same_some both) in
              none_longer more behind (subst (λ z. length z ≤ length behind) (rest_is ∙ split) longer.2);
        },
      );
}

terminals : FindsTerminals
terminals = record { iris = finds_of _ _ iris; strings = finds_of _ _ strings; labels = finds_of _ _ labels; tags = finds_of _ _ tags }

pub lines_are_productions : (scope line : Text) (says : Option Triple) → IsLine scope line says ↔ (said scope line ≡ Some says)
lines_are_productions scope line says = (said_standing terminals scope line says, said_found terminals scope line says)
