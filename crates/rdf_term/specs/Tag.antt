-- What may stand in a part of a language tag.
use Rattle.std.specs.Prelude.{ℕ, Bool, true, false}
use Rattle.ntriples_model.specs.Characters.{is_letter, is_letter_or_digit}

-- digits stand in each part but the first
abbrev pub fits_by : Bool → ℕ → Bool
fits_by true = is_letter_or_digit
fits_by false = is_letter
