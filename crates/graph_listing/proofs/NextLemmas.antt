-- A step of a listing over Ids, read.
use Rattle.std.specs.Prelude.{◌≡◌, ◌↔◌, Bool, [], Option, None, Some, IfSome, IsNone, refl}
use Rattle.bag_model.specs.Listings.{Listing, GoesOn, MayGive}
use Rattle.solution_model.specs.ReadListings.{read_listing, GivesKnown, goes_on_read, goes_on_known, ended_known, ends_read, read_ends}

module _ {A : Type 0} where
  pub known_next : {X : Type 0} (known : A → Bool) (s t : Listing A) (result : Option X) → GivesKnown known s → IfSome result (λ _. GoesOn s t) → (IsNone result → MayGive t []) → (IsNone result → t.present ≡ None) → GivesKnown known t
  known_next known s t None is row stays ended = ended_known known t (ended refl) (stays refl)
  known_next known s t (Some x) is row stays ended = goes_on_known known s t is row

module _ {A B : Type 0} where
  pub row_next : {X : Type 0} (f : A → B) (s t : Listing A) (result : Option X) → IfSome result (λ _. GoesOn s t) → IfSome result (λ _. GoesOn (read_listing f s) (read_listing f t))
  row_next f s t None row = tt
  row_next f s t (Some x) row = goes_on_read f s t row

  pub none_next : {X : Type 0} (f : A → B) (s : Listing A) (result : Option X) → (IsNone result ↔ MayGive s []) → IsNone result ↔ MayGive (read_listing f s) []
  none_next f s result none = ((λ e. ends_read f s (none.0 e)), (λ m. none.1 (read_ends f s m)))
