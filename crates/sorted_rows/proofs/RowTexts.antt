-- The texts of rows that are gathered one by one, and what a listing may give behind them.
use Rattle.std.proofs.Common.{◌≡◌, ◌∙◌, List, [], ◌∷◌, ◌++◌, refl, sym, ap, subst, append_assoc, append-nil}
use Rattle.std.specs.Prelude.{map}
use Rattle.rdf_model.specs.Terms.{Text, Term}
use Rattle.bag_model.specs.Listings.{Listing, MayGive, GoesOn}
use Rattle.solution_model.specs.Rows.{Row}
use Rattle.solution_model.specs.Texts.{row_text}

-- The rows that were given so far, and their texts.
pub record HasTexts (s t : Listing Term) (texts : List Text) : Type 0 where
  pub rows : List Row
  pub behind : (more : List Row) → MayGive t more → MayGive s (rows ++ more)
  pub are : texts ≡ map row_text rows

pub no_texts : (s : Listing Term) → HasTexts s s []
no_texts s = record { rows = []; behind = λ more may. may; are = refl }

texts_behind : (rows : List Row) (row : Row) → map row_text (rows ++ row ∷ []) ≡ map row_text rows ++ row_text row ∷ []
texts_behind [] row = refl
texts_behind (r ∷ rows) row = ap (λ ts. row_text r ∷ ts) (texts_behind rows row)

-- one row more
pub one_text : {s t : Listing Term} {texts : List Text} (h : HasTexts s t texts) (u : Listing Term) (on : GoesOn t u) (text : Text) → text ≡ row_text on.row → HasTexts s u (texts ++ text ∷ [])
one_text {s} {t} {texts} h u on text is = record {
  rows = h.rows ++ on.row ∷ [];
  behind = λ more may. subst (MayGive s) (sym (append_assoc h.rows (on.row ∷ []) more)) (h.behind (on.row ∷ more) (on.behind more may));
  are = ap (λ ts. ts ++ text ∷ []) h.are ∙ ap (λ x. map row_text h.rows ++ x ∷ []) is ∙ sym (texts_behind h.rows on.row);
}

-- no row is left
pub all_texts_of : {s t : Listing Term} {texts : List Text} (h : HasTexts s t texts) → MayGive t [] → (rows : List Row) × MayGive s rows × (texts ≡ map row_text rows)
all_texts_of {s} h may = (h.rows, subst (MayGive s) (append-nil h.rows) (h.behind [] may), h.are)
