-- What a watch was shown.
use Rattle.std.specs.Prelude.{◌≡◌, List, [], ◌∷◌, ◌++◌, ⊤, Option, Some, None, if◌then◌else◌}
use Rattle.rdf_model.specs.Terms.{Text}
use Rattle.graph_store.specs.declared.watch.KeepDumps.{KeepDumps}

-- Where a watch tells what it was shown, that is what it told before and these lines.
abbrev pub IsShown : Option (List (List Text)) → Option (List (List Text)) → List Text → Type 0
IsShown before None lines = ⊤
IsShown before (Some now) lines = (told : List (List Text)) × (before ≡ Some told) × (now ≡ told ++ lines ∷ [])

abbrev pub dumps_of : KeepDumps → List (List Text)
dumps_of watch = watch.dumps.items

-- the dumps that a watch keeps, while it tells them
abbrev pub kept : KeepDumps → Option (List (List Text))
kept watch = if watch.tells then Some (dumps_of watch) else None
