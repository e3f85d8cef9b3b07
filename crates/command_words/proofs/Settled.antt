-- What the getters give, and the answer for a kind of fault.
use Rattle.std.proofs.Common.{true≢false, ◌≡◌, ◌≢◌, ◌∙◌, ℕ, Bool, true, false, List, [], ◌∷◌, Option, Some, None, Ok, Err, Result, refl, sym, ap, subst, inl, inr, codes}
use Rattle.std.specs.Prelude.{IfSome, unwrap_or, ◌||◌, ◌↔◌, if◌then◌else◌}
use Rattle.std.specs.Str.{bytes_eq}
use Rattle.std.specs.Str.Parse.{ParsesUnsigned}
use Rattle.std.proofs.lemmas.Slice.Eq.{bytes_eq-Decides}
use Rattle.clap.specs.Matches.{ReadsOne}
use Rattle.clap.specs.Values.{Accepts, IsUnsignedIn}
use Rattle.clap.specs.Walk.{Row, Text}
use Rattle.clap.specs.Kinds.{Kinds, IsAmong, HasKind}
use Rattle.clap.specs.declared.error.Error.{Error}
use Rattle.clap.specs.declared.error.kind.ErrorKind.{ErrorKind}
use Rattle.clap.specs.declared.error.kind.ErrorKind.TheVariants.{DisplayHelp}
use Rattle.clap.specs.declared.builder.value_parser.ValueParser.TheVariants as vp
use Rattle.command_words.specs.Answers.{IsAnswer, IsRefusalOf, accepts, answer_by, is_help, is_set, number_or, refuses, settings_of, shows_help}
use Rattle.command_words.specs.declared.Settings.{Settings}
use Rattle.command_words.specs.declared.Refused.{Refused}
use Rattle.command_words.specs.declared.Refused.TheVariants.{Help, Bad, Memory}
use Rattle.command_words.specs.Words.{HasAtMostOne}

-- ---- the settings

pub flag_is_set : (o : Option Text) (b : Bool) → (o ≡ None → b ≡ false) → (o ≡ Some (codes "true") → b ≡ true) → (o ≡ Some (codes "false") → b ≡ false)
    → IfSome o (Accepts false vp.Bool) → b ≡ is_set o
flag_is_set None b n t f h = n refl
flag_is_set (Some text) b n t f h = go (bytes_eq text (codes "true")) refl (bytes_eq text (codes "false")) refl h
  where
    go : (x : Bool) → bytes_eq text (codes "true") ≡ x → (y : Bool) → bytes_eq text (codes "false") ≡ y → (bytes_eq text (codes "true") || bytes_eq text (codes "false")) ≡ true
        → b ≡ bytes_eq text (codes "true")
    go true e y d h = t (ap Some ((bytes_eq-Decides text (codes "true")).0 e)) ∙ sym e
    go false e true d h = f (ap Some ((bytes_eq-Decides text (codes "false")).0 d)) ∙ sym e
    go false e false d h =
        let bad : false ≡ true = rw (e, d) at h in
        cc

pub number_is_read : (E : Type 0) (G : Text → Result ℕ E → Type 0) (o : Option Text) (r : Option ℕ) (low high n : ℕ) → (o ≡ None → r ≡ None)
    → ((t : Text) → o ≡ Some t → ReadsOne G t r) → ((t : Text) (x : Result ℕ E) → G t x → ParsesUnsigned 64 10 t x) → IfSome o (IsUnsignedIn low high)
    → unwrap_or r n ≡ number_or n o
number_is_read E G None r low high n absent value only h = ap (λ x. unwrap_or x n) (absent refl)
number_is_read E G (Some t) (Some v) low high n absent value only h = (only t (Ok v) (value t refl)).1
number_is_read E G (Some t) None low high n absent value only h =
    let read = value t refl in
    absurd (only t (Err read.0) read.1 (h.0, h.1))

-- ---- the answer

not_help : (k : ErrorKind) → k ≢ DisplayHelp → is_help k ≡ false
not_help DisplayHelp h = absurd (h refl)
not_help _ h = refl

among_one : (k x : ErrorKind) → IsAmong k (x ∷ []) → k ≡ x
among_one k x (inl e) = e
among_one k x (inr h) = absurd h

pub help_is_answer : (ks : Kinds) (found : List Row) → HasAtMostOne ks → IsAmong DisplayHelp ks → answer_by ks found ≡ shows_help
help_is_answer [] found h among = absurd among
help_is_answer (x ∷ []) found h among = rw (← among_one DisplayHelp x among) refl
help_is_answer (x ∷ y ∷ ks) found h among = elim h [ ]

pub refusal_is_answer : (ks : Kinds) (found : List Row) (k : ErrorKind) → HasAtMostOne ks → IsAmong k ks → k ≢ DisplayHelp → answer_by ks found ≡ refuses
refusal_is_answer [] found k h among other = absurd among
refusal_is_answer (x ∷ []) found k h among other = rw (← among_one k x among, not_help k other) refl
refusal_is_answer (x ∷ y ∷ ks) found k h among other = elim h [ ]

pub answers : (ks : Kinds) (found : List Row) (e : Error) (r : Refused) → HasAtMostOne ks → HasKind ks e → IsRefusalOf e.kind r → IsAnswer (answer_by ks found) (Err r)
answers ks found e (Help text) h (inl memory) is = cc
answers ks found e (Help text) h (inr among) is = help_is_answer ks found h (subst (λ k. IsAmong k ks) is among)
answers ks found e Bad h (inl memory) is = absurd (is.1 memory)
answers ks found e Bad h (inr among) is = refusal_is_answer ks found e.kind h among is.0
answers ks found e Memory h has is = tt

-- ---- where each answer comes

help_only : (k : ErrorKind) → is_help k ≡ true → k ≡ DisplayHelp
help_only DisplayHelp e = refl
help_only _ e = absurd (true≢false (sym e))

pub accepted_iff : (ks : Kinds) (found : List Row) (s : Settings) → (answer_by ks found ≡ accepts s) ↔ ((ks ≡ []) × (s ≡ settings_of found))
accepted_iff [] found s = (λ e. (refl, cc), λ h. ap accepts (sym h.1))
accepted_iff (x ∷ ks) found s = (λ e. absurd (go (is_help x) e), λ h. cc)
  where
    go : (b : Bool) → (if b then shows_help else refuses) ≡ accepts s → ⊥
    go true e = cc
    go false e = cc

pub help_iff : (ks : Kinds) (found : List Row) → HasAtMostOne ks → (answer_by ks found ≡ shows_help) ↔ (ks ≡ DisplayHelp ∷ [])
help_iff [] found h = (λ e. cc, λ e. cc)
help_iff (x ∷ []) found h = (λ e. ap (λ k. k ∷ []) (help_only x (go (is_help x) e)), λ e. ap (λ l. answer_by l found) e)
  where
    go : (b : Bool) → (if b then shows_help else refuses) ≡ shows_help → b ≡ true
    go true e = refl
    go false e = cc
help_iff (x ∷ y ∷ ks) found h = elim h [ ]

pub refused_iff : (ks : Kinds) (found : List Row) → HasAtMostOne ks → (answer_by ks found ≡ refuses) ↔ ((k : ErrorKind) × (k ≢ DisplayHelp) × (ks ≡ k ∷ []))
refused_iff [] found h = (λ e. cc, λ e. let bad = e.2 in cc)
refused_iff (x ∷ []) found h =
    (λ e. (x, λ is. true≢false (sym (ap is_help is) ∙ go (is_help x) e), refl), λ e. ap (λ l. answer_by l found) e.2 ∙ rw (not_help e.0 e.1) refl)
  where
    go : (b : Bool) → (if b then shows_help else refuses) ≡ refuses → b ≡ false
    go true e = cc
    go false e = refl
refused_iff (x ∷ y ∷ ks) found h = elim h [ ]
