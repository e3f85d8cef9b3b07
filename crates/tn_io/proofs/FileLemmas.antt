-- Entries by their names.
use Rattle.std.proofs.Common.{◌≡◌, ◌∙◌, ℕ, ◌+◌, ◌<◌, ◌≤◌, Bool, true, false, nat_eq, cond, List, ◌∷◌, length, drop, sym, ap}
use Rattle.std.specs.Prelude.{Some, None, IfSome}
use Rattle.std.specs.declared.option.Option.{Option}
use Rattle.std.specs.Option.{IsSomeAnd}
use Rattle.file_model.specs.FileMap.{FileMap, OfFile, IfFile}
use Rattle.std.specs.Ordering.{nat_cmp, eq_by_cmp}
use Rattle.std.specs.Cmp.Lexicographic.{slice_cmp, pointwise, texts_ties}
use Rattle.std.specs.FinMap as map
use Rattle.std.proofs.lemmas.Cmp.{nat_list_cmp_total}
use Rattle.std.proofs.lemmas.List.{drop_more, drop_all}
use Rattle.std.proofs.Math.ListN.{get_or}

-- a look-up among the entries from one on
pub get_from : (es : List (List ℕ × List ℕ)) (i : ℕ) (e : List ℕ × List ℕ) (name : List ℕ) → i < length es → e ≡ get_or es i e
    → map.get (map.from_entries {R = slice_cmp nat_cmp} (drop i es)) name ≡ cond (eq_by_cmp (slice_cmp nat_cmp) name e.0) (Some e.1) (map.get (map.from_entries {R = slice_cmp nat_cmp} (drop (i + 1) es)) name)
get_from es i e name h is =
    ap (λ z. map.get (map.from_entries {R = slice_cmp nat_cmp} z) name) (drop_more es i e h ∙ ap (λ z. z ∷ drop (i + 1) es) (sym is))
    ∙ map.get-insert nat_list_cmp_total (map.from_entries (drop (i + 1) es)) e.0 e.1 name

-- the entry there has the name
pub get_this : (es : List (List ℕ × List ℕ)) (i : ℕ) (e : List ℕ × List ℕ) (name word : List ℕ) (test : Bool) → i < length es → e ≡ get_or es i e → word ≡ e.0 → test ≡ pointwise nat_eq name word → test ≡ true
    → map.get (map.from_entries {R = slice_cmp nat_cmp} (drop i es)) name ≡ Some e.1
get_this es i e name word test h is same tested t =
    get_from es i e name h is ∙ ap (λ b. cond b (Some e.1) (map.get (map.from_entries {R = slice_cmp nat_cmp} (drop (i + 1) es)) name)) (sym (texts_ties name e.0) ∙ ap (pointwise nat_eq name) (sym same) ∙ sym tested ∙ t)

-- it has another
pub get_later : (es : List (List ℕ × List ℕ)) (i : ℕ) (e : List ℕ × List ℕ) (name word : List ℕ) (test : Bool) → i < length es → e ≡ get_or es i e → word ≡ e.0 → test ≡ pointwise nat_eq name word → test ≡ false
    → map.get (map.from_entries {R = slice_cmp nat_cmp} (drop i es)) name ≡ map.get (map.from_entries {R = slice_cmp nat_cmp} (drop (i + 1) es)) name
get_later es i e name word test h is same tested t =
    get_from es i e name h is ∙ ap (λ b. cond b (Some e.1) (map.get (map.from_entries {R = slice_cmp nat_cmp} (drop (i + 1) es)) name)) (sym (texts_ties name e.0) ∙ ap (pointwise nat_eq name) (sym same) ∙ sym tested ∙ t)

pub get_past : (es : List (List ℕ × List ℕ)) (i : ℕ) (name : List ℕ) → length es ≤ i → map.get (map.from_entries {R = slice_cmp nat_cmp} (drop i es)) name ≡ None
get_past es i name h = ap (λ z. map.get (map.from_entries {R = slice_cmp nat_cmp} z) name) (drop_all i es h) ∙ map.get-empty (slice_cmp nat_cmp) name

-- What holds of a file's bytes

if_some : (o : Option (List ℕ)) {P : List ℕ → Type 0} → ((bytes : List ℕ) → P bytes) → IfSome o P
if_some None all = tt
if_some (Some bytes) all = all bytes

some_with : (o : Option (List ℕ)) {P Q R : List ℕ → Type 0} → IsSomeAnd o P → IfSome o Q → ((bytes : List ℕ) → P bytes → Q bytes → R bytes) → IsSomeAnd o R
some_with None p q then = absurd p
some_with (Some bytes) p q then = then bytes p q

some_with_if : (o : Option (List ℕ)) {P Q R : List ℕ → Type 0} → IsSomeAnd o P → IfSome o Q → ((bytes : List ℕ) → P bytes → Q bytes → R bytes) → IfSome o R
some_with_if None p q then = absurd p
some_with_if (Some bytes) p q then = then bytes p q

-- it holds of any bytes
pub if_file_start : (told : Option FileMap) (name : List ℕ) {P : List ℕ → Type 0} → ((bytes : List ℕ) → P bytes) → IfFile told name P
if_file_start None name all = tt
if_file_start (Some files) name all = if_some (map.get files name) all

-- a read gave what P says, and so R holds
pub if_file_with : (told : Option FileMap) (name : List ℕ) {P Q R : List ℕ → Type 0} → OfFile told name P → IfFile told name Q → ((bytes : List ℕ) → P bytes → Q bytes → R bytes) → IfFile told name R
if_file_with None name p q then = tt
if_file_with (Some files) name p q then = some_with_if (map.get files name) p q then

pub of_file_with : (told : Option FileMap) (name : List ℕ) {P Q R : List ℕ → Type 0} → OfFile told name P → IfFile told name Q → ((bytes : List ℕ) → P bytes → Q bytes → R bytes) → OfFile told name R
of_file_with None name p q then = tt
of_file_with (Some files) name p q then = some_with (map.get files name) p q then
