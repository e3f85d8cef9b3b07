-- What a call of the program says, by the words and by the status.
use Rattle.std.proofs.Common.{◌≡◌, ◌⊎◌, inl, inr, ℕ, Bool, List, [], refl, sym, ap, subst}
use Rattle.std.specs.Prelude.{Some, None}
use Rattle.tn_io.specs.Known.{Begins}
use Rattle.std.specs.declared.option.Option.{Option}
use Rattle.file_model.specs.FileMap.{FileMap}
use Rattle.command_words.specs.Answers as words
use Rattle.command_words.specs.declared.Settings.{Settings}
use Rattle.graph_store.specs.StoreState.{StoreState}
use Rattle.line_batch.specs.Sound.{IsBetweenCommands}
use Rattle.tentris_core.specs.Carrying.{around}
use Rattle.tentris_core.specs.Traffic.{Traffic}
use Rattle.tentris_core.specs.Runs.{Ends}
use Rattle.tentris_core.specs.Called.{around_by, bounded_by, WritesHelp, Helps, EndsScript, EndsHelp, EndsCall, IsByWords}
use Rattle.tentris_core.specs.declared.running.Status.{Status}
use Rattle.tentris_core.specs.declared.running.Status.TheVariants.{Done, SomeRefused, BadWords, ReadFault, WriteFault, Memory, TooLong}

module _ (mixed : ℕ → ℕ → ℕ → ℕ → ℕ) (files : Option FileMap) (s : StoreState) where
  -- a script was carried out
  pub script_ends : (settings : Settings) (status : Status) (t : StoreState) (before now : Traffic) → (status ≡ BadWords → ⊥) → (status ≡ Memory → ⊥)
      → Ends status (around_by settings mixed files) (bounded_by settings s) t before now → EndsScript settings status mixed files s t before now
  script_ends settings Done t before now words memory h = h
  script_ends settings SomeRefused t before now words memory h = h
  script_ends settings BadWords t before now words memory h = absurd (words refl)
  script_ends settings ReadFault t before now words memory h = h
  script_ends settings WriteFault t before now words memory h = h
  script_ends settings Memory t before now words memory h = absurd (memory refl)
  script_ends settings TooLong t before now words memory h = h

  -- the same by what stands around, and by the store that was bounded
  pub script_ends_of : (settings : Settings) {sorted : Bool} {most : ℕ} {z : StoreState} (status : Status) (t : StoreState) (before now : Traffic) → sorted ≡ settings.sort → most ≡ settings.max_bytes → z ≡ bounded_by settings s
      → (status ≡ BadWords → ⊥) → (status ≡ Memory → ⊥) → Ends status (around mixed sorted most files) z t before now → EndsScript settings status mixed files s t before now
  script_ends_of settings {sorted} {most} {z} status t before now sort bytes bounded words memory h =
      script_ends settings status t before now words memory
      (subst (λ n. Ends status (around mixed settings.sort n files) (bounded_by settings s) t before now) bytes
      (subst (λ b. Ends status (around mixed b most files) (bounded_by settings s) t before now) sort
      (subst (λ x. Ends status (around mixed sorted most files) x t before now) bounded h)))

  -- memory ran out before the script was read
  pub script_lacks : (settings : Settings) (o : Traffic) → EndsScript settings Memory mixed files s s o o
  script_lacks settings o = record { same = inl refl; still = refl }

  pub call_lacks : (answer : words.Answer) (o : Traffic) → EndsCall answer Memory mixed files s s o o
  call_lacks (words.accepts settings) o = script_lacks settings o
  call_lacks words.shows_help o = record { same = refl; still = refl }
  call_lacks words.refuses o = record { same = refl; still = refl }

  pub call_refused : (answer : words.Answer) (o : Traffic) → answer ≡ words.refuses → EndsCall answer BadWords mixed files s s o o
  call_refused answer o is = subst (λ a. EndsCall a BadWords mixed files s s o o) (sym is) (record { same = refl; still = refl })

  pub call_helps : (answer : words.Answer) (status : Status) (before : Traffic) (written : Option (List ℕ)) → answer ≡ words.shows_help → WritesHelp before.written written status
      → EndsCall answer status mixed files s s before (record before { written = written })
  call_helps answer status before written is h = subst (λ a. EndsCall a status mixed files s s before (record before { written = written })) (sym is) (by h.0) where
    helps : Helps s s before (record before { written = written })
    helps = record { same = refl; help = h.1; still = ap (λ z. record before { written = z }) h.2 }

    by : (status ≡ Done) ⊎ (status ≡ WriteFault) → EndsHelp status s s before (record before { written = written })
    by (inl e) = subst (λ z. EndsHelp z s s before (record before { written = written })) (sym e) helps
    by (inr e) = subst (λ z. EndsHelp z s s before (record before { written = written })) (sym e) helps

  pub call_script : (answer : words.Answer) (settings : Settings) (status : Status) (t : StoreState) (before now : Traffic) → answer ≡ words.accepts settings → EndsScript settings status mixed files s t before now
      → EndsCall answer status mixed files s t before now
  call_script answer settings status t before now is h = subst (λ a. EndsCall a status mixed files s t before now) (sym is) h

-- what a status says of the words
pub by_words : (answer : words.Answer) (status : Status) (mixed : ℕ → ℕ → ℕ → ℕ → ℕ) (files : Option FileMap) (s t : StoreState) (before now : Traffic) → EndsCall answer status mixed files s t before now → IsByWords answer status
by_words (words.accepts settings) status mixed files s t before now h = record { only = λ e. absurd (no status e h); refused = λ e. let x : ⊥ = cc in absurd x } where
  no : (status : Status) → status ≡ BadWords → EndsScript settings status mixed files s t before now → ⊥
  no BadWords e h = h
  no Done e h = let x : ⊥ = cc in x
  no SomeRefused e h = let x : ⊥ = cc in x
  no ReadFault e h = let x : ⊥ = cc in x
  no WriteFault e h = let x : ⊥ = cc in x
  no Memory e h = let x : ⊥ = cc in x
  no TooLong e h = let x : ⊥ = cc in x
by_words words.shows_help status mixed files s t before now h = record { only = λ e. absurd (no status e h); refused = λ e. let x : ⊥ = cc in absurd x } where
  no : (status : Status) → status ≡ BadWords → EndsHelp status s t before now → ⊥
  no BadWords e h = h
  no Done e h = let x : ⊥ = cc in x
  no SomeRefused e h = h
  no ReadFault e h = h
  no WriteFault e h = let x : ⊥ = cc in x
  no Memory e h = let x : ⊥ = cc in x
  no TooLong e h = h
by_words words.refuses BadWords mixed files s t before now h = record { only = λ e. refl; refused = λ e. inl refl }
by_words words.refuses Memory mixed files s t before now h = record { only = λ e. refl; refused = λ e. inr refl }
by_words words.refuses Done mixed files s t before now h = absurd h
by_words words.refuses SomeRefused mixed files s t before now h = absurd h
by_words words.refuses ReadFault mixed files s t before now h = absurd h
by_words words.refuses WriteFault mixed files s t before now h = absurd h
by_words words.refuses TooLong mixed files s t before now h = absurd h

-- help, or a front of it
pub writes_help : (before now : Option (List ℕ)) (status : Status) → (status ≡ Done) ⊎ (status ≡ WriteFault) → Begins before now → WritesHelp before now status
writes_help None None status is h = (is, [], refl)
writes_help None (Some now) status is h = absurd h
writes_help (Some before) None status is h = absurd h
writes_help (Some before) (Some now) status is h = (is, h.0, ap Some h.1)

-- a store that is sound is so whatever it may have
pub sound_bounded : {mixed : ℕ → ℕ → ℕ → ℕ → ℕ} (settings : Settings) (s : StoreState) → IsBetweenCommands mixed s → IsBetweenCommands mixed (bounded_by settings s)
sound_bounded settings s h = record {
  settled = h.settled;
  stands = record {
    kept = h.stands.kept;
    sound = h.stands.sound;
    complete = λ d T n in_shape. let r = h.stands.complete d T n in_shape in record { number = r.number; row = r.row; there = r.there; stands = r.stands; counts = r.counts };
    single = h.stands.single;
    root = h.stands.root;
  };
}
