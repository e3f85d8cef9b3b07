-- A run of characters of a prefix, and where no colon ends it.
use Rattle.std.proofs.Common.{◌≡◌, ◌∙◌, ◌<◌, ◌+◌, ℕ, Bool, true, false, cond, not, ◌&&◌, ◌||◌, ◌⊎◌, List, [], ◌∷◌, ◌++◌, length, take, refl, sym, ap, subst, inl, inr, append_assoc, arith, Option, Some, None, chars, IsUtf8}
use Rattle.std.specs.Prelude.{codes}
use Rattle.std.specs.List.{AllByRecursion, list_all}
use Rattle.std.specs.Str.{encode_utf8_all}
use Rattle.std.proofs.lemmas.Str.{encodes-append, encodes-chars}
use Rattle.std.proofs.lemmas.List.{length-append, take-append-drop}
use Rattle.query_tokens.specs.Forms.{Form}
use Rattle.query_tokens.specs.Tokens.{Kind}
use Rattle.query_tokens.specs.Front.{all_behind, ended, at_once, one_longer, longest}
use Rattle.query_tokens.proofs.Behind.{both}
use Rattle.query_tokens.proofs.Cuts.{Agree, agree_left, agree_right, cuts_of, last_cut, agree_last, at_last}
use Rattle.query_lex.specs.Reading.{IsBehind}
use Rattle.query_lex.specs.Runs.{is_in_prefix, IsBarren}
use Rattle.query_lex.specs.Steps.{Class, One, PrefixChar, ranges_of, is_in, moves, step_of}
use Rattle.query_lex.specs.Meaning.{kind_read, to_follow, to_follow_any}
use Rattle.query_lex.proofs.Changes.{move_cuts, same_run, same_class}
use Rattle.query_lex.proofs.Every.{at_state, states}
use Rattle.query_lex.proofs.Moving.{step_meant, kind_meant}
use Rattle.query_lex.specs.declared.state.Prefixed.TheVariants as prefixed
use Rattle.query_lex.specs.declared.state.State.{State}
use Rattle.query_lex.specs.declared.state.State.TheVariants as state

abbrev in_prefix : State
in_prefix = state.Prefixed prefixed.Prefix

abbrev behind_stop : State
behind_stop = state.Prefixed prefixed.PrefixStop

abbrev full_stop : Class
full_stop = One (codes ".")

abbrev pub is_name : ℕ → Bool
is_name c = is_in PrefixChar c || is_in full_stop c

-- the state that such a character leads to
abbrev after : ℕ → State
after c = cond (is_in PrefixChar c) in_prefix behind_stop

abbrev AreNames : List ℕ → Type 0
AreNames = AllByRecursion (λ c. is_name c ≡ true)

-- the last of the characters led to the state
abbrev LedTo : State → List ℕ → Type 0
LedTo state front = (init : List ℕ) × (c : ℕ) × (front ≡ init ++ c ∷ []) × (after c ≡ state)

-- what was read in the states before a prefix's colon
abbrev pub IsRun : State → List ℕ → Type 0
IsRun state.Start front = front ≡ []
IsRun (state.Prefixed prefixed.Word) front = AreNames front
IsRun (state.Prefixed prefixed.Prefix) front = AreNames front × LedTo in_prefix front
IsRun (state.Prefixed prefixed.PrefixStop) front = AreNames front × LedTo behind_stop front
IsRun _ front = Unit {0}

-- Each step there is one over such a character

abbrev before_colon : State → Bool
before_colon state.Start = true
before_colon (state.Prefixed prefixed.Word) = true
before_colon (state.Prefixed prefixed.Prefix) = true
before_colon (state.Prefixed prefixed.PrefixStop) = true
before_colon _ = false

-- of a state, whether the character is in PrefixChar, whether it is a full stop, and the next state
abbrev keeps : State → Bool → Bool → Option State → Bool
keeps from char stop None = true
keeps from char stop (Some (state.Prefixed prefixed.Word)) = before_colon from && (char || stop)
keeps from char stop (Some (state.Prefixed prefixed.Prefix)) = before_colon from && char
keeps from char stop (Some (state.Prefixed prefixed.PrefixStop)) = before_colon from && (not char && stop)
keeps from char stop (Some state.Start) = false
keeps from char stop (Some _) = true

abbrev kept_at : State → ℕ → Bool
kept_at state c = keeps state (is_in PrefixChar c) (is_in full_stop c) (step_of state c)

abbrev step_cuts : State → List ℕ
step_cuts state = cuts_of (ranges_of PrefixChar) ++ (cuts_of (ranges_of full_stop) ++ move_cuts (moves state))

same_kept : (state : State) (c d : ℕ) → Agree c d (step_cuts state) → kept_at state c ≡ kept_at state d
same_kept state c d h =
    let rest = agree_right c d (cuts_of (ranges_of PrefixChar)) (cuts_of (ranges_of full_stop) ++ move_cuts (moves state)) h in
    ap (λ b. keeps state b (is_in full_stop c) (step_of state c)) (same_class PrefixChar c d (agree_left c d (cuts_of (ranges_of PrefixChar)) (cuts_of (ranges_of full_stop) ++ move_cuts (moves state)) h))
    ∙ (ap (λ b. keeps state (is_in PrefixChar d) b (step_of state c)) (same_class full_stop c d (agree_left c d (cuts_of (ranges_of full_stop)) (move_cuts (moves state)) rest))
    ∙ ap (λ o. keeps state (is_in PrefixChar d) (is_in full_stop d) o) (same_run (moves state) c d (agree_right c d (cuts_of (ranges_of full_stop)) (move_cuts (moves state)) rest)))

abbrev keeps_on : State → Bool
keeps_on state = kept_at state 0 && list_all (kept_at state) (step_cuts state)

all_keep : list_all keeps_on states ≡ true
unfolding is_in
all_keep = refl

kept : (state : State) (c : ℕ) → kept_at state c ≡ true
kept state c =
    let all = at_state keeps_on all_keep state in
    let parts = both _ _ all in
    same_kept state c (last_cut (step_cuts state) c) (agree_last (step_cuts state) c) ∙ at_last (kept_at state) (step_cuts state) c parts.0 parts.1

names_append : (front : List ℕ) (c : ℕ) → AreNames front → is_name c ≡ true → AreNames (front ++ c ∷ [])
names_append [] c h n = (n, tt)
names_append (x ∷ front) c h n = (h.0, names_append front c h.1 n)

names_behind : (front back : List ℕ) → AreNames (front ++ back) → AreNames back
names_behind [] back h = h
names_behind (x ∷ front) back h = names_behind front back h.1

names_of : (state : State) (front : List ℕ) → before_colon state ≡ true → IsRun state front → AreNames front
names_of state.Start front b r = subst AreNames (sym r) tt
names_of (state.Prefixed prefixed.Word) front b r = r
names_of (state.Prefixed prefixed.Prefix) front b r = r.0
names_of (state.Prefixed prefixed.PrefixStop) front b r = r.0
names_of _ front b r = cc

or_true : (a b : Bool) → a ≡ true → (a || b) ≡ true
or_true true b h = refl
or_true false b h = cc

or_else_true : (a b : Bool) → b ≡ true → (a || b) ≡ true
or_else_true true b h = refl
or_else_true false b h = h

is_not : (a : Bool) → not a ≡ true → a ≡ false
is_not true h = cc
is_not false h = refl

-- such a run goes on
run_on : (from next : State) (front : List ℕ) (c : ℕ) → keeps from (is_in PrefixChar c) (is_in full_stop c) (Some next) ≡ true → IsRun from front → IsRun next (front ++ c ∷ [])
run_on from state.Start front c k r = cc
run_on from (state.Prefixed prefixed.Word) front c k r =
    let parts = both _ _ k in
    names_append front c (names_of from front parts.0 r) parts.1
run_on from (state.Prefixed prefixed.Prefix) front c k r =
    let parts = both _ _ k in (
      names_append front c (names_of from front parts.0 r) (or_true _ _ parts.1),
      (front, c, refl, ap (λ b. cond {A = State} b in_prefix behind_stop) parts.1),
    )
run_on from (state.Prefixed prefixed.PrefixStop) front c k r =
    let parts = both _ _ k in
    let more = both _ _ parts.1 in (
      names_append front c (names_of from front parts.0 r) (or_else_true _ _ more.1),
      (front, c, refl, ap (λ b. cond {A = State} b in_prefix behind_stop) (is_not _ more.0)),
    )
run_on from _ front c k r = tt

pub run_goes_on : (state next : State) (front : List ℕ) (c : ℕ) → Some next ≡ step_of state c → IsRun state front → IsRun next (front ++ c ∷ [])
run_goes_on state next front c e r =
    run_on state next front c (subst (λ (o : Option State). keeps state (is_in PrefixChar c) (is_in full_stop c) o ≡ true) (sym e) (kept state c)) r

-- A run that no colon ends

after_open : (c : ℕ) → is_in_prefix (after c) ≡ true
after_open c = elim (is_in PrefixChar c) as (λ b. is_in_prefix (cond {A = State} b in_prefix behind_stop) ≡ true) [ true ↦ refl | false ↦ refl ]

step_over : (more : Option State) (a b : Bool) → (a || b) ≡ true
    → cond {A = Option State} a (Some in_prefix) (cond {A = Option State} b (Some behind_stop) more) ≡ Some (cond {A = State} a in_prefix behind_stop)
step_over more true b h = refl
step_over more false true h = refl
step_over more false false h = cc

steps_to : (state : State) (c : ℕ) → is_in_prefix state ≡ true → is_name c ≡ true → step_of state c ≡ Some (after c)
steps_to (state.Prefixed prefixed.Prefix) c o n = step_over _ (is_in PrefixChar c) (is_in full_stop c) n
steps_to (state.Prefixed prefixed.PrefixStop) c o n = step_over _ (is_in PrefixChar c) (is_in full_stop c) n
steps_to _ c o n = cc

open_none : (state : State) → is_in_prefix state ≡ true → kind_read state ≡ None
open_none (state.Prefixed prefixed.Prefix) o = refl
open_none (state.Prefixed prefixed.PrefixStop) o = refl
open_none _ o = cc

follows : (state : State) → to_follow_any (Some state) ≡ to_follow state
unfolding to_follow_any
follows state = refl

-- one character further
one_further : (state next : State) (c : ℕ) (cs : List ℕ) → is_in_prefix state ≡ true → step_of state c ≡ Some next → longest (to_follow next) cs ≡ None → longest (to_follow state) (c ∷ cs) ≡ None
one_further state next c cs o e h =
    let behind : all_behind c (to_follow state) ≡ to_follow next = sym (step_meant state c) ∙ (ap to_follow_any e ∙ follows next) in
    let none : ended (to_follow state) ≡ None = kind_meant state ∙ open_none state o in
    ap (λ (es : List (Kind × Form)). one_longer (longest es cs) (at_once (ended (to_follow state)))) behind
    ∙ (ap (λ (p : Option (Kind × ℕ)). one_longer p (at_once (ended (to_follow state)))) h ∙ ap at_once none)

led_tail : (state : State) (x : ℕ) (ys : List ℕ) → 0 < length ys → LedTo state (x ∷ ys) → LedTo state ys
led_tail state x ys some ([], c, e, a) =
    let none : ys ≡ [] = cc in
    absurd (let size : length ys ≡ 0 = ap length none in omega (arith, size))
led_tail state x ys some (y ∷ init, c, e, a) = (init, c, (let tail : ys ≡ init ++ c ∷ [] = cc in tail), a)

led_behind : (state : State) (front : List ℕ) (x : ℕ) (back : List ℕ) → LedTo state (front ++ x ∷ back) → LedTo state (x ∷ back)
led_behind state [] x back l = l
led_behind state (y ∷ front) x back l =
    led_behind state front x back (led_tail state y (front ++ x ∷ back) (simp length-append (omega arith)) l)

dies : (state end : State) (back cs : List ℕ) → is_in_prefix state ≡ true → AreNames back → LedTo end back → longest (to_follow end) cs ≡ None → longest (to_follow state) (back ++ cs) ≡ None
dies state end [] cs o n (init, c, e, a) h = absurd (let size : 0 ≡ length (init ++ c ∷ []) = ap length e in omega (arith, simp length-append at size))
dies state end (c ∷ []) cs o n l h =
    let last : after c ≡ end = led_one c l in
    one_further state end c cs o (steps_to state c o n.0 ∙ ap Some last) h
  where
    led_one : (c : ℕ) → LedTo end (c ∷ []) → after c ≡ end
    led_one c ([], d, e, a) = let same : c ≡ d = cc in ap after same ∙ a
    led_one c (x ∷ [], d, e, a) = cc
    led_one c (x ∷ (y ∷ init), d, e, a) = cc
dies state end (c ∷ (d ∷ more)) cs o n l h =
    one_further state (after c) c (d ∷ (more ++ cs)) o (steps_to state c o n.0)
    (dies (after c) end (d ∷ more) cs (after_open c) n.1 (led_tail end c (d ∷ more) (omega arith) l) h)

split : (front cs f a : List ℕ) → front ++ cs ≡ f ++ a
    → ((back : List ℕ) × (a ≡ back ++ cs) × (front ≡ f ++ back)) ⊎ ((back : List ℕ) × (cs ≡ back ++ a))
split [] cs f a e = inr (f, e)
split (x ∷ front) cs [] a e = inl (x ∷ front, sym e, refl)
split (x ∷ front) cs (y ∷ f) a e =
    let head : x ≡ y = cc in
    let tail : front ++ cs ≡ f ++ a = cc in
    elim (split front cs f a tail) [
      | inl p ↦ inl (p.0, p.1, ap (λ (z : ℕ). z ∷ front) head ∙ ap (λ (zs : List ℕ). y ∷ zs) p.2)
      | inr p ↦ inr p
    ]

size_append : (xs ys : List ℕ) → length (encode_utf8_all (xs ++ ys)) ≡ length (encode_utf8_all xs) + length (encode_utf8_all ys)
size_append xs ys = ap length (encodes-append xs ys) ∙ length-append (encode_utf8_all xs) (encode_utf8_all ys)

pub run_is_barren : (text rest front : List ℕ) (end : State) → chars text ≡ front ++ chars rest → IsUtf8 rest → AreNames front → LedTo end front
    → longest (to_follow end) (chars rest) ≡ None → IsBarren text (length rest)
run_is_barren text rest front end all u names led h f a e more =
    let size : length (encode_utf8_all (chars rest)) ≡ length rest = ap length (encodes-chars rest u) in
    elim (split front (chars rest) f a (sym all ∙ e)) [
      | inl (back, a_is, front_is) ↦ inside back a_is front_is size
      | inr (back, rest_is) ↦
          let longer : length (encode_utf8_all (chars rest)) ≡ length (encode_utf8_all back) + length (encode_utf8_all a) = ap (λ (x : List ℕ). length (encode_utf8_all x)) rest_is ∙ size_append back a in
          absurd (omega (arith, size, longer, more))
    ]
  where
    inside : (back : List ℕ) → a ≡ back ++ chars rest → front ≡ f ++ back → length (encode_utf8_all (chars rest)) ≡ length rest
        → (longest (to_follow in_prefix) a ≡ None) × (longest (to_follow behind_stop) a ≡ None)
    inside [] a_is front_is size =
        let same : length (encode_utf8_all a) ≡ length (encode_utf8_all (chars rest)) = ap (λ (x : List ℕ). length (encode_utf8_all x)) a_is in
        absurd (omega (arith, size, same, more))
    inside (x ∷ back) a_is front_is size =
        let led_back = led_behind end f x back (subst (LedTo end) front_is led) in
        let names_back = names_behind f (x ∷ back) (subst AreNames front_is names) in (
          ap (longest (to_follow in_prefix)) a_is ∙ dies in_prefix end (x ∷ back) (chars rest) refl names_back led_back h,
          ap (longest (to_follow behind_stop)) a_is ∙ dies behind_stop end (x ∷ back) (chars rest) refl names_back led_back h,
        )

pub barren_behind : (text rest : List ℕ) (k n : ℕ) → IsBarren text n → IsBehind text k rest → IsBarren rest n
barren_behind text rest k n b r f a e more =
    b (take k (chars text) ++ f) a
    (sym (take-append-drop k (chars text)) ∙ (ap (λ (x : List ℕ). take k (chars text) ++ x) (sym r.characters ∙ e) ∙ sym (append_assoc (take k (chars text)) f a))) more

pub all_barren : (text : List ℕ) → IsUtf8 text → IsBarren text (length text)
all_barren text u f a e more =
    let size : length (encode_utf8_all (chars text)) ≡ length text = ap length (encodes-chars text u) in
    let longer : length (encode_utf8_all (chars text)) ≡ length (encode_utf8_all f) + length (encode_utf8_all a) = ap (λ (x : List ℕ). length (encode_utf8_all x)) e ∙ size_append f a in
    absurd (omega (arith, size, longer, more))
