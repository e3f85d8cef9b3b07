-- The text of a row of proper terms determines its values, where the number of columns is known.
use Rattle.std.specs.Prelude.{◌≡◌, ℕ, true, false, List, [], ◌∷◌, ◌++◌, ◌==◌, length, map, codes, refl, Option, None, Some, IfSome}
use Rattle.std.proofs.Common.{sym, ◌∙◌, ap, arith}
use Rattle.std.specs.List.{flat_map}
use Rattle.rdf_model.specs.Terms.{Text, Term, Iri, Blank, Literal}
use Rattle.rdf_model.specs.Texts.{tsv}
use Rattle.ntriples_model.specs.Proper.{IsProper}
use Rattle.solution_model.specs.Laws.{AreProperValues}
use Rattle.solution_model.specs.Rows.{Row}
use Rattle.solution_model.specs.Texts.{field_text, row_text}
use Rattle.solution_model.proofs.TabLemmas.{HasNoTab, no_tab}
use Rattle.solution_model.proofs.TsvLemmas.{same_term_texts}

-- each field but the first, behind its tab
abbrev later : Row → Text
later row = flat_map (λ u. codes "\t" ++ u) (map field_text row)

no_tab_field : (v : Option Term) → IfSome v IsProper → HasNoTab (field_text v)
no_tab_field None is = tt
no_tab_field (Some t) is = no_tab t is

not_empty : (t : Term) → tsv t ≡ [] → ⊥
not_empty (Iri text) e = cc
not_empty (Blank label) e = cc
not_empty (Literal form kind) e = cc

same_values : (v w : Option Term) → field_text v ≡ field_text w → v ≡ w
same_values None None e = refl
same_values None (Some u) e = absurd (not_empty u (sym e))
same_values (Some t) None e = absurd (not_empty t e)
same_values (Some t) (Some u) e = ap Some (same_term_texts t u e)

tab_apart : {P : Type 0} (b : ℕ) (u v : List ℕ) → (b == 9) ≡ false → b ∷ u ≡ 9 ∷ v → P
tab_apart b u v differs e = let head : b ≡ 9 = cc in absurd (let n : true ≡ false = sym (ap (λ c. c == 9) head) ∙ differs in let f : ⊥ = cc in f)

-- fields without tabs, each with later fields behind it
same_fronts : (f g : Text) (q r : Row) → HasNoTab f → HasNoTab g → f ++ later q ≡ g ++ later r → (f ≡ g) × (later q ≡ later r)
same_fronts [] [] q r hf hg e = (refl, e)
same_fronts [] (b ∷ g) [] r hf hg e = absurd (let n : ⊥ = cc in n)
same_fronts [] (b ∷ g) (v ∷ q) r hf hg e = tab_apart b (g ++ later r) (field_text v ++ later q) hg.0 (sym e)
same_fronts (a ∷ f) [] q [] hf hg e = absurd (let n : ⊥ = cc in n)
same_fronts (a ∷ f) [] q (w ∷ r) hf hg e = tab_apart a (f ++ later q) (field_text w ++ later r) hf.0 e
same_fronts (a ∷ f) (b ∷ g) q r hf hg e =
    let head : a ≡ b = cc in
    let tail : f ++ later q ≡ g ++ later r = cc in
    let rest = same_fronts f g q r hf.1 hg.1 tail in
    ((λ j. head j ∷ rest.0 j), rest.1)

same_later : (q r : Row) → length q ≡ length r → AreProperValues q → AreProperValues r → later q ≡ later r → q ≡ r
same_later [] [] n pq pr e = refl
same_later [] (w ∷ r) n pq pr e = absurd (omega (arith, n))
same_later (v ∷ q) [] n pq pr e = absurd (omega (arith, n))
same_later (v ∷ q) (w ∷ r) n pq pr e =
    let behind : field_text v ++ later q ≡ field_text w ++ later r = cc in
    let both = same_fronts (field_text v) (field_text w) q r (no_tab_field v pq.0) (no_tab_field w pr.0) behind in
    (λ j. same_values v w both.0 j ∷ same_later q r (omega (arith, n)) pq.1 pr.1 both.1 j)

pub same_rows : (q r : Row) → length q ≡ length r → AreProperValues q → AreProperValues r → row_text q ≡ row_text r → q ≡ r
same_rows [] [] n pq pr e = refl
same_rows [] (w ∷ r) n pq pr e = absurd (omega (arith, n))
same_rows (v ∷ q) [] n pq pr e = absurd (omega (arith, n))
same_rows (v ∷ q) (w ∷ r) n pq pr e =
    let both = same_fronts (field_text v) (field_text w) q r (no_tab_field v pq.0) (no_tab_field w pr.0) e in
    (λ j. same_values v w both.0 j ∷ same_later q r (omega (arith, n)) pq.1 pr.1 both.1 j)
