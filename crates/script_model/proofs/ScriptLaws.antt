-- A script by productions, and by the function.
use Rattle.std.proofs.Common.{◌≡◌, ◌∙◌, Bool, true, false, cond, ◌||◌, List, [], ◌∷◌, ◌++◌, refl, sym, ap, subst, append_assoc, append-nil}
use Rattle.std.specs.Prelude.{Option, Some, None}
use Rattle.std.specs.List.{list_any}
use Rattle.std.proofs.lemmas.List.Folds.{list_any-append}
use Rattle.text_lines.specs.Lines.{Line}
use Rattle.script_model.specs.Commands.{Kind, Command, Block, Single, Bad, Unended, Form, Begins, Whole, skipped, form_of, ends_block, from_form, outside, inside}
use Rattle.script_model.specs.Laws.{IsScript, nothing, skip, bad, single, block, unended, CommandsAreScripts}

none_pushed : (body : List Line) (l : Line) → list_any ends_block body ≡ false → ends_block l ≡ false → list_any ends_block (body ++ l ∷ []) ≡ false
none_pushed body l none e = list_any-append ends_block body (l ∷ []) ∙ rw (none, e) refl

mutual
  outside_is : (ls : List Line) → IsScript ls (outside ls)
  outside_is [] = nothing
  outside_is (l ∷ ls) =
      elim (skipped l) as (λ s. skipped l ≡ s → IsScript (l ∷ ls) (cond s (outside ls) (from_form (form_of l) (outside ls) (λ kind. inside kind [] ls)))) [
        | true ↦ λ s. skip l ls (outside ls) s (outside_is ls)
        | false ↦ λ s. elim (form_of l) as (λ f. form_of l ≡ f → IsScript (l ∷ ls) (from_form f (outside ls) (λ kind. inside kind [] ls))) [
          | None ↦ λ f. bad l ls (outside ls) s f (outside_is ls)
          | Some (Begins kind) ↦ λ f. inside_is ls l kind [] s f refl
          | Some (Whole command) ↦ λ f. single l command ls (outside ls) s f (outside_is ls)
        ] refl
      ] refl

  inside_is : (ls : List Line) (l : Line) (kind : Kind) (body : List Line) → skipped l ≡ false → form_of l ≡ Some (Begins kind) → list_any ends_block body ≡ false → IsScript (l ∷ (body ++ ls)) (inside kind body ls)
  inside_is [] l kind body s f none = subst (λ ms. IsScript (l ∷ ms) (Unended ∷ [])) (sym (append-nil body)) (unended l kind body s f none)
  inside_is (g ∷ ls) l kind body s f none =
      elim (ends_block g) as (λ e. ends_block g ≡ e → IsScript (l ∷ (body ++ g ∷ ls)) (cond e (Block kind body ∷ outside ls) (inside kind (body ++ g ∷ []) ls))) [
        | true ↦ λ e. block l g kind body ls (outside ls) s f none e (outside_is ls)
        | false ↦ λ e. subst (λ ms. IsScript (l ∷ ms) (inside kind (body ++ g ∷ []) ls)) (append_assoc body (g ∷ []) ls) (inside_is ls l kind (body ++ g ∷ []) s f (none_pushed body g none e))
      ] refl

-- the commands of a line, by whether it is skipped and by its form
of_line : (l : Line) (ls : List Line) (b : Bool) (f : Option Form) → skipped l ≡ b → form_of l ≡ f → outside (l ∷ ls) ≡ cond b (outside ls) (from_form f (outside ls) (λ kind. inside kind [] ls))
of_line l ls b f s e i = cond (s i) (outside ls) (from_form (e i) (outside ls) (λ kind. inside kind [] ls))

-- lines of a block, none of which ends it
inside-lines : (kind : Kind) (had body ls : List Line) → list_any ends_block body ≡ false → inside kind had (body ++ ls) ≡ inside kind (had ++ body) ls
inside-lines kind had [] ls none = ap (λ z. inside kind z ls) (sym (append-nil had))
inside-lines kind had (l ∷ body) ls none =
    elim (ends_block l) as (λ e. (e || list_any ends_block body) ≡ false → cond e (Block kind had ∷ outside (body ++ ls)) (inside kind (had ++ l ∷ []) (body ++ ls)) ≡ inside kind (had ++ l ∷ body) ls) [
      | true ↦ λ none. absurd (let t : ⊥ = cc in t)
      | false ↦ λ none. inside-lines kind (had ++ l ∷ []) body ls none ∙ ap (λ z. inside kind z ls) (append_assoc had (l ∷ []) body)
    ] none

script_commands : (ls : List Line) (cs : List Command) → IsScript ls cs → outside ls ≡ cs
script_commands _ _ nothing = refl
script_commands _ _ (skip l ls cs s h) = of_line l ls true (form_of l) s refl ∙ script_commands ls cs h
script_commands _ _ (bad l ls cs s f h) = of_line l ls false None s f ∙ ap (λ z. Bad ∷ z) (script_commands ls cs h)
script_commands _ _ (single l c ls cs s f h) = of_line l ls false (Some (Whole c)) s f ∙ ap (λ z. Single c ∷ z) (script_commands ls cs h)
script_commands _ _ (block l g kind body ls cs s f none e h) =
    of_line l (body ++ g ∷ ls) false (Some (Begins kind)) s f ∙ inside-lines kind [] body (g ∷ ls) none
    ∙ ap (λ b. cond b (Block kind body ∷ outside ls) (inside kind (body ++ g ∷ []) ls)) e ∙ ap (λ z. Block kind body ∷ z) (script_commands ls cs h)
script_commands _ _ (unended l kind body s f none) =
    of_line l body false (Some (Begins kind)) s f ∙ ap (inside kind []) (sym (append-nil body)) ∙ inside-lines kind [] body [] none

pub commands_are_scripts : CommandsAreScripts
commands_are_scripts ls cs = (script_commands ls cs, λ e. subst (IsScript ls) e (outside_is ls))
