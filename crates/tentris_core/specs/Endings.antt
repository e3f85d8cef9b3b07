-- What happens where a script ends.
use Rattle.std.specs.Prelude.{◌≡◌, ℕ, Bool, List, [], ◌∷◌, if◌then◌else◌}
use Rattle.std.specs.declared.option.Option.{Option}
use Rattle.std.specs.Io.KnownBytes.{append_known}
use Rattle.rdf_model.specs.Terms.{Text}
use Rattle.run_model.specs.Answers.{answer_text, Refused, EndInBlock}
use Rattle.tentris_core.specs.declared.running.Status.{Status}
use Rattle.tentris_core.specs.declared.running.Status.TheVariants.{Done, SomeRefused, WriteFault}
use Rattle.tentris_core.specs.declared.block.Progress.{Progress}
use Rattle.tentris_core.specs.declared.block.Progress.TheVariants as place
use Rattle.tentris_core.specs.Puts.{IsPart}
use Rattle.tentris_core.specs.Traffic.{WasShown}

-- The block that a script ends in was refused, or a front of the refusal was written and then a write failed.
abbrev pub EndsInBlock : Option (List ℕ) → Option (List ℕ) → Status → Type 0
EndsInBlock before now SomeRefused = now ≡ append_known before (answer_text (Refused EndInBlock))
EndsInBlock before now WriteFault = IsPart before now (answer_text (Refused EndInBlock))
EndsInBlock before now other = ⊥

-- A script that ends outside a block has been answered. One that ends inside a block gets one refusal more.
abbrev pub Finishes : Progress → Bool → Option (List ℕ) → Option (List ℕ) → Status → Type 0
Finishes place.Outside refused before now status = (status ≡ (if refused then SomeRefused else Done)) × (now ≡ before)
Finishes (place.Inside block) refused before now status = EndsInBlock before now status
Finishes (place.Asks question) refused before now status = EndsInBlock before now status

-- A watch is shown the graph where a refusal ended a command, and nothing where the script had ended before.
abbrev pub IsShownLast : Progress → Option (List (List Text)) → Option (List (List Text)) → List Text → Type 0
IsShownLast place.Outside before now lines = now ≡ before
IsShownLast (place.Inside block) before now lines = WasShown before now (lines ∷ [])
IsShownLast (place.Asks question) before now lines = WasShown before now (lines ∷ [])
