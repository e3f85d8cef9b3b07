-- What the program answers to the words of the command line.
use Rattle.std.specs.Prelude.{◌≡◌, ◌≢◌, ◌≤◌, ◌⊎◌, ℕ, Bool, true, false, List, [], ◌∷◌, Option, Some, None, Result, Ok, Err, codes, if◌then◌else◌}
use Rattle.std.specs.Str.{bytes_eq}
use Rattle.std.specs.Str.Parse.{digits_value, without_leading_plus}
use Rattle.clap.specs.Walk.{Row, Text, one_of}
use Rattle.clap.specs.Kinds.{Kinds}
use Rattle.clap.specs.declared.error.kind.ErrorKind.{ErrorKind}
use Rattle.clap.specs.declared.error.kind.ErrorKind.TheVariants.{DisplayHelp, OutOfMemory}
use Rattle.command_words.specs.Words.{faults, rows}
use Rattle.command_words.specs.declared.Settings.{Settings}
use Rattle.command_words.specs.declared.Refused.{Refused}
use Rattle.command_words.specs.declared.Refused.TheVariants.{Help, Bad, Memory}

-- the flag is given
abbrev pub is_set : Option Text → Bool
is_set None = false
is_set (Some text) = bytes_eq text (codes "true")

-- the number that the text writes, or n where there is no text
abbrev pub number_or : ℕ → Option Text → ℕ
number_or n None = n
number_or n (Some text) = digits_value 10 (without_leading_plus text)

-- what accepted words ask for
abbrev pub settings_of : List Row → Settings
settings_of found = record {
  sort = is_set (one_of (codes "sort") found);
  max_triples = number_or 10000000 (one_of (codes "max-triples") found);
  max_bytes = number_or 1099511627776 (one_of (codes "max-bytes") found);
}

pub data Answer : Type 0 where
  accepts : Settings → Answer
  shows_help : Answer
  refuses : Answer

abbrev pub is_help : ErrorKind → Bool
is_help DisplayHelp = true
is_help _ = false

-- the answer, by the kinds of fault and by what was found
abbrev pub answer_by : Kinds → List Row → Answer
answer_by [] found = accepts (settings_of found)
answer_by (k ∷ ks) found = if is_help k then shows_help else refuses

-- the answer to the words behind the program's name
abbrev pub answer_to : List Text → Answer
answer_to words = answer_by (faults words) (rows words)

-- the result is this answer, or memory ran out
abbrev pub IsAnswer : Answer → Result Settings Refused → Type 0
IsAnswer answer (Ok settings) = answer ≡ accepts settings
IsAnswer answer (Err (Help text)) = answer ≡ shows_help
IsAnswer answer (Err Bad) = answer ≡ refuses
IsAnswer answer (Err Memory) = Unit {0}

abbrev pub IsWithinLimits : Settings → Type 0
IsWithinLimits s = (1 ≤ s.max_triples) × (s.max_triples ≤ 500000000) × (1 ≤ s.max_bytes)
    × (s.max_bytes ≤ 1099511627776)

-- the refusal fits an error of this kind
abbrev pub IsRefusalOf : ErrorKind → Refused → Type 0
IsRefusalOf k (Help text) = k ≡ DisplayHelp
IsRefusalOf k Bad = (k ≢ DisplayHelp) × (k ≢ OutOfMemory)
IsRefusalOf k Memory = (k ≡ OutOfMemory) ⊎ (k ≡ DisplayHelp)
