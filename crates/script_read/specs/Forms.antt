-- The form that a command names.
use Rattle.std.specs.Prelude.{ℕ, Bool, List, Option, Some, None, if◌then◌else◌, reverse}
use Rattle.std.specs.Borrow.{Bor}
use Rattle.std.specs.Option.{option_map}
use Rattle.text_lines.specs.Blanks.{after_blanks}
use Rattle.script_model.specs.Commands.{Change, Form, Begins, Whole, Triples, Question, Inserts, Deletes, File, Generate as generate_form, Dump as dump_form, Stats as stats_form, Shape as shape_form}
use Rattle.script_read.specs.declared.form.Command.{Command}
use Rattle.script_read.specs.declared.form.Command.TheVariants.{Insert, Delete, Query, Load, Unload, Stats, Shape, Dump, Generate}

-- the bytes, where this holds of them
abbrev pub some_where : Bool → List ℕ → Option (List ℕ)
some_where holds bytes = if holds then Some bytes else None

abbrev pub form_meant : Command → Form
form_meant Insert = Begins (Triples Inserts)
form_meant Delete = Begins (Triples Deletes)
form_meant Query = Begins Question
form_meant (Load scope name) = Whole (File Inserts scope.now name.now)
form_meant (Unload scope name) = Whole (File Deletes scope.now name.now)
form_meant Stats = Whole stats_form
form_meant Shape = Whole shape_form
form_meant Dump = Whole dump_form
form_meant (Generate count salt) = Whole (generate_form count salt)

-- the form of a load, or an unload, of the file of this scope and name
abbrev pub loads : Change → Option (Bor (List ℕ) × Bor (List ℕ)) → Option Form
loads change found = option_map (λ (f : Bor (List ℕ) × Bor (List ℕ)). Whole (File change f.0.now f.1.now)) found

-- without the blanks that end it
abbrev pub without_blanks_behind : List ℕ → List ℕ
without_blanks_behind l = reverse (after_blanks (reverse l))
