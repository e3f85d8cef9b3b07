-- Fields that are parted by tabs, one by one.
use Rattle.std.proofs.Common.{◌≡◌, ◌∙◌, ℕ, zero, suc, ◌+◌, ◌<◌, Bool, true, false, ◌==◌, List, [], ◌∷◌, ◌++◌, length, take, drop, refl, sym, ap, subst, arith, append_assoc, append-nil}
use Rattle.std.specs.Prelude.{Option, Some, codes, map, slice_get}
use Rattle.std.specs.List.{flat_map}
use Rattle.std.specs.Io.KnownBytes.{append_known}
use Rattle.std.proofs.lemmas.Bool.Decides.{nat_tests}
use Rattle.std.proofs.lemmas.Grind.{flat_map-append}
use Rattle.std.proofs.lemmas.List.{take_more, take-append-drop}
use Rattle.std.proofs.lemmas.Option.{get_or_from_slice_get, slice_get_within}
use Rattle.rdf_model.specs.Terms.{Text}
use Rattle.tn_io.specs.Known.{Begins}
use Rattle.tn_io.proofs.KnownLemmas.{append_known-append, begins_more}
use Rattle.solution_model.specs.Texts.{tabbed}
use Rattle.query_plan.specs.Seen.{column_seen}
use Rattle.query_plan.specs.declared.columns.Column as plan
use Rattle.query_grammar.specs.Meaning.{Column}
use Rattle.answer_text.specs.Fields.{parting}

tabbed_behind : (t : Text) (ts us : List Text) → tabbed ((t ∷ ts) ++ us) ≡ tabbed (t ∷ ts) ++ flat_map (λ u. codes "\t" ++ u) us
tabbed_behind t ts us = ap (λ z. t ++ z) (flat_map-append (λ u. codes "\t" ++ u) ts us) ∙ sym (append_assoc t (flat_map (λ u. codes "\t" ++ u) ts) (flat_map (λ u. codes "\t" ++ u) us))

later : (n : ℕ) → 0 < n → (n == 0) ≡ false
later n lt = grind (arith, nat_tests)

-- one field more
pub tabbed_more : (ts : List Text) (i : ℕ) (t : Text) → slice_get ts i ≡ Some t → tabbed (take (i + 1) ts) ≡ tabbed (take i ts) ++ (parting (i == 0) ++ t)
tabbed_more [] i t e = absurd (let f : ⊥ = cc in f)
tabbed_more (u ∷ ts) zero t e = append-nil u ∙ (let same : u ≡ t = cc in same)
tabbed_more (u ∷ ts) (suc i) t e =
    ap tabbed (take_more (u ∷ ts) (suc i) [] (slice_get_within (u ∷ ts) (suc i) t e) ∙ ap (λ z. take (suc i) (u ∷ ts) ++ z ∷ []) (get_or_from_slice_get (u ∷ ts) (suc i) t [] e))
    ∙ tabbed_behind u (take i ts) (t ∷ []) ∙ ap (λ z. tabbed (u ∷ take i ts) ++ z) (append-nil (codes "\t" ++ t) ∙ ap (λ b. parting b ++ t) (sym (later (suc i) (omega arith))))

-- the fields behind it
pub tabbed_rest : (ts : List Text) (i : ℕ) → i < length ts → tabbed ts ≡ tabbed (take (i + 1) ts) ++ flat_map (λ u. codes "\t" ++ u) (drop (i + 1) ts)
tabbed_rest [] i lt = absurd (omega (arith, lt))
tabbed_rest (u ∷ ts) i lt =
    ap tabbed (sym (take-append-drop (suc i) (u ∷ ts))) ∙ tabbed_behind u (take i ts) (drop i ts)
    ∙ ap (λ n. tabbed (take n (u ∷ ts)) ++ flat_map (λ z. codes "\t" ++ z) (drop n (u ∷ ts))) (let e : suc i ≡ i + 1 = omega arith in e)

-- one more field was put
pub field_more : (a b c : Option (List ℕ)) (ts : List Text) (i : ℕ) (t : Text) → slice_get ts i ≡ Some t → b ≡ append_known a (tabbed (take i ts)) → c ≡ append_known b (parting (i == 0) ++ t) → c ≡ append_known a (tabbed (take (i + 1) ts))
field_more a b c ts i t e was is =
    is ∙ ap (λ z. append_known z (parting (i == 0) ++ t)) was ∙ append_known-append a (tabbed (take i ts)) (parting (i == 0) ++ t) ∙ ap (append_known a) (sym (tabbed_more ts i t e))

-- a field was cut off
pub field_cut : (a b w : Option (List ℕ)) (ts : List Text) (i : ℕ) (t : Text) → slice_get ts i ≡ Some t → b ≡ append_known a (tabbed (take i ts)) → Begins w (append_known b (parting (i == 0) ++ t)) → Begins w (append_known a (tabbed ts))
field_cut a b w ts i t e was is =
    subst (Begins w) (append_known-append a (tabbed (take (i + 1) ts)) (flat_map (λ u. codes "\t" ++ u) (drop (i + 1) ts)) ∙ ap (append_known a) (sym (tabbed_rest ts i (slice_get_within ts i t e))))
    (begins_more w (append_known a (tabbed (take (i + 1) ts))) (flat_map (λ u. codes "\t" ++ u) (drop (i + 1) ts)) (subst (Begins w) (field_more a b (append_known b (parting (i == 0) ++ t)) ts i t e was refl) is))

-- the name of a column, as the pieces that are put
pub first_name : (first : Bool) (name : List ℕ) → first ≡ true → codes "?" ++ (name ++ []) ≡ parting first ++ (codes "?" ++ name)
first_name first name e = ap (λ z. codes "?" ++ z) (append-nil name) ∙ ap (λ b. parting b ++ (codes "?" ++ name)) (sym e)

pub later_name : (first : Bool) (name : List ℕ) → first ≡ false → codes "\t?" ++ (name ++ []) ≡ parting first ++ (codes "?" ++ name)
later_name first name e = ap (λ z. codes "\t?" ++ z) (append-nil name) ∙ ap (λ b. parting b ++ (codes "?" ++ name)) (sym e)

pub name_at : (columns : List plan.Column) (i : ℕ) (column : plan.Column) → slice_get columns i ≡ Some column → slice_get (map (λ (c : Column). codes "?" ++ c.name) (map column_seen columns)) i ≡ Some (codes "?" ++ column.name)
name_at [] i column e = absurd (let f : ⊥ = cc in f)
name_at (c ∷ columns) zero column e = ap (λ (d : plan.Column). Some (codes "?" ++ d.name)) (let same : c ≡ column = cc in same)
name_at (c ∷ columns) (suc i) column e = name_at columns i column e
