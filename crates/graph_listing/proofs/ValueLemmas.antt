-- A value of a row over Ids, read.
use Rattle.std.specs.Prelude.{◌≡◌, ℕ, zero, suc, Bool, true, [], ◌∷◌, Option, None, Some, IfSome, IsSome, is_some, slice_get, refl}
use Rattle.std.proofs.Common.{sym, ◌∙◌, ap, subst}
use Rattle.std.specs.FinMap as map
use Rattle.std.specs.Option.{option_map}
use Rattle.hypertrie_model.specs.SetLaws.{and_both}
use Rattle.rdf_model.specs.Terms.{Term}
use Rattle.term_dict.specs.Dict.{Terms}
use Rattle.graph_image.specs.Images.{term_at}
use Rattle.graph_view.specs.Read.{has_id}
use Rattle.bag_list.specs.Rows.{Row}
use Rattle.solution_model.specs.Reading.{read_row}
use Rattle.solution_model.specs.ReadLaws.{is_known_row, is_known_value}
use Rattle.solution_model.specs.Rows as terms_of

some_of : (o : Option Term) → is_some o ≡ true → IsSome o
some_of None e = absurd (let n : ⊥ = cc in n)
some_of (Some t) e = refl

-- the row that is read, and the value at a column of it
pub read_value : (f : ℕ → Term) (row : Row) (col : ℕ) (v : Option ℕ) → slice_get row col ≡ Some v → slice_get (read_row f row) col ≡ Some (option_map f v)
read_value f [] col v e = absurd (let n : ⊥ = cc in n)
read_value f (x ∷ row) zero v e = let same : x ≡ v = cc in ap (λ w. Some (option_map f w)) same
read_value f (x ∷ row) (suc col) v e = read_value f row col v e

known_value : (known : ℕ → Bool) (row : Row) (col id : ℕ) → is_known_row known row ≡ true → slice_get row col ≡ Some (Some id) → known id ≡ true
known_value known [] col id all e = absurd (let n : ⊥ = cc in n)
known_value known (x ∷ row) zero id all e = let same : x ≡ Some id = cc in subst (λ v. is_known_value known v ≡ true) same (and_both (is_known_value known x) (is_known_row known row) all).0
known_value known (x ∷ row) (suc col) id all e = known_value known row col id (and_both (is_known_value known x) (is_known_row known row) all).1 e

-- the present row of a listing over Ids, where one is present of the listing that is read
module _ (terms : Terms) (present : Option Row) (col : ℕ) where
  abbrev pub Here : Option ℕ → Type 0
  Here v = (row : Row) → present ≡ Some row → slice_get row col ≡ Some v

  pub id_there : (id : ℕ) → IfSome present (λ row. is_known_row (has_id terms) row ≡ true) → IsSome (option_map (read_row (term_at terms)) present) → Here (Some id) → IsSome (map.get terms id)
  id_there id known given here = by present known given refl where
    by : (p : Option Row) → IfSome p (λ row. is_known_row (has_id terms) row ≡ true) → IsSome (option_map (read_row (term_at terms)) p) → present ≡ p → IsSome (map.get terms id)
    by None known given e = absurd (let n : ⊥ = cc in n)
    by (Some row) known given e = some_of (map.get terms id) (known_value (has_id terms) row col id known (here row e))

  pub value_there : (v : Option ℕ) (t : Option Term) → option_map (term_at terms) v ≡ t → Here v → (row : terms_of.Row) → option_map (read_row (term_at terms)) present ≡ Some row → slice_get row col ≡ Some t
  value_there v t is here row e = by present e refl where
    by : (p : Option Row) → option_map (read_row (term_at terms)) p ≡ Some row → present ≡ p → slice_get row col ≡ Some t
    by None e at = absurd (let n : ⊥ = cc in n)
    by (Some ids) e at =
        let same : read_row (term_at terms) ids ≡ row = cc in
        ap (λ r. slice_get r col) (sym same) ∙ read_value (term_at terms) ids col v (here ids at) ∙ ap Some is
