-- What a reader of a terminal answers.
use Rattle.std.specs.Prelude.{◌≡◌, ℕ, ◌≤◌, List, [], ◌∷◌, ◌++◌, length, drop, Option, Some, None, MatchOption}
use Rattle.rdf_model.specs.Terms.{Text}

-- the terminal that was found has n bytes, and its text is the new last one
pub record IsRead (found : Option (Text × Text)) (bytes : List ℕ) (old new : List Text) (n : ℕ) : Type 0 where
  pub text : Text
  pub is : found ≡ Some (text, drop n bytes)
  pub texts : new ≡ old ++ text ∷ []
  pub within : n ≤ length bytes
  pub no_longer : length text ≤ n

-- The answer is none exactly where no terminal was to be found, and the texts are then as before.
abbrev pub Reads : Option (Text × Text) → List ℕ → List Text → List Text → Option ℕ → Type 0
Reads found bytes old new r = MatchOption r ((found ≡ None) × (new ≡ old)) (λ n. IsRead found bytes old new n)
