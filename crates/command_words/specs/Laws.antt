-- Where each answer comes, and the answers to some words.
use Rattle.std.specs.Prelude.{◌≡◌, ◌≢◌, ◌↔◌, true, false, List, [], ◌∷◌, codes}
use Rattle.clap.specs.Walk.{Text}
use Rattle.clap.specs.declared.error.kind.ErrorKind.{ErrorKind}
use Rattle.clap.specs.declared.error.kind.ErrorKind.TheVariants.{DisplayHelp}
use Rattle.command_words.specs.Words.{rows, faults, HasAtMostOne}
use Rattle.command_words.specs.Answers.{accepts, answer_to, refuses, settings_of, shows_help}
use Rattle.command_words.specs.declared.Settings.{Settings}

-- no words have two kinds of fault
abbrev pub FaultsAreOfOneKind : Type 0
FaultsAreOfOneKind = (words : List Text) → HasAtMostOne (faults words)

-- settings exactly where clap has no fault
abbrev pub AcceptsWithoutFault : Type 0
AcceptsWithoutFault = (words : List Text) (s : Settings) → (answer_to words ≡ accepts s) ↔ ((faults words ≡ []) × (s ≡ settings_of (rows words)))

-- help exactly where that is the kind
abbrev pub HelpsWhereAsked : Type 0
HelpsWhereAsked = (words : List Text) → (answer_to words ≡ shows_help) ↔ (faults words ≡ DisplayHelp ∷ [])

-- a refusal exactly where it is another kind
abbrev pub RefusesAnotherFault : Type 0
RefusesAnotherFault = (words : List Text) → (answer_to words ≡ refuses) ↔ ((k : ErrorKind) × (k ≢ DisplayHelp) × (faults words ≡ k ∷ []))

-- the settings where no word is given
abbrev pub by_themselves : Settings
by_themselves = record { sort = false; max_triples = 10000000; max_bytes = 1099511627776 }

-- the words of a line, and what they are answered
pub record HasAnswers : Type 0 where
  pub nothing : answer_to [] ≡ accepts by_themselves
  pub sort : answer_to (codes "--sort" ∷ []) ≡ accepts (record by_themselves { sort = true })
  pub triples : answer_to (codes "--max-triples" ∷ codes "9" ∷ []) ≡ accepts (record by_themselves { max_triples = 9 })
  pub bytes : answer_to (codes "--max-bytes=1" ∷ []) ≡ accepts (record by_themselves { max_bytes = 1 })
  pub help : answer_to (codes "--help" ∷ []) ≡ shows_help
  pub short_help : answer_to (codes "-h" ∷ []) ≡ shows_help
  pub help_first : answer_to (codes "--help" ∷ codes "--nonsense" ∷ []) ≡ shows_help
  pub help_late : answer_to (codes "--nonsense" ∷ codes "--help" ∷ []) ≡ refuses
  pub too_many : answer_to (codes "--max-triples" ∷ codes "500000001" ∷ []) ≡ refuses
  pub too_few : answer_to (codes "--max-bytes" ∷ codes "0" ∷ []) ≡ refuses
  pub version : answer_to (codes "--version" ∷ []) ≡ refuses
