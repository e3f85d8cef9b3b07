-- The commands of lines, one by one, and what is known where a script stands between two lines.
use Rattle.std.proofs.Common.{◌≡◌, ◌∙◌, ℕ, ◌≤◌, Bool, true, false, cond, ◌==◌, List, [], ◌∷◌, ◌++◌, length, refl, sym, ap, subst, arith}
use Rattle.std.specs.Prelude.{None, Some}
use Rattle.std.specs.declared.option.Option.{Option}
use Rattle.file_model.specs.FileMap.{FileMap}
use Rattle.text_lines.specs.Lines.{Line}
use Rattle.script_model.specs.Commands as script
use Rattle.script_model.specs.Laws as form
use Rattle.script_model.proofs.FormLaws.{forms_are_productions}
use Rattle.run_model.specs.Answers as answers
use Rattle.run_model.specs.Answers.{is_refused}
use Rattle.run_model.specs.Sayings.{says, sayings}
use Rattle.run_model.specs.Worlds.{Config, World, FailedRead}
use Rattle.run_model.specs.Steps as steps
use Rattle.run_model.specs.Steps.{Step, line_refusal, LineDoes}
use Rattle.run_model.specs.Loads.{generated_sayings}
use Rattle.tn_io.specs.FileFaults.{FaultCounts}
use Rattle.rdf_model.specs.Graph.{Graph}
use Rattle.graph_store.specs.StoreState.{StoreState, graph}
use Rattle.line_batch.specs.declared.answer.Answer.{Answer}
use Rattle.tentris_core.specs.declared.block.Block.{Block}
use Rattle.tentris_core.specs.declared.block.Progress.{Progress}
use Rattle.tentris_core.specs.declared.block.Progress.TheVariants as place
use Rattle.tentris_core.specs.declared.outcome.Outcome.{Outcome}
use Rattle.tentris_core.specs.declared.outcome.Outcome.TheVariants.{GoesOn, Answered, Cut}
use Rattle.line_batch.specs.Seen.{answer_of}
use Rattle.tentris_core.specs.Seen.{Tells}
use Rattle.tentris_core.specs.Puts.{WritesAnswer}
use Rattle.tentris_core.specs.Questions.{AnswersQuestion}
use Rattle.tentris_core.specs.declared.question.Question.{Question}
use Rattle.line_batch.specs.Batches as changed
use Rattle.line_batch.specs.Batches.{MayBeScope, IsBatch, IsReady, IsCause, AreStaged, AreToGo, ChangesBy, ChangesStore}
use Rattle.line_batch.specs.Sound.{IsBetweenCommands}
use Rattle.line_batch.specs.Carrying.{Around, config_in, world_in, Carries}
use Rattle.tentris_core.specs.Carrying.{around}
use Rattle.tentris_core.specs.Places.{Position, Outside, Inside, IsBlock, IsAt, CarriesLine, EndsCommand, effects, LeadsTo, LeadsOn, MeetsLine, TakesLine}
use Rattle.tn_io.specs.Causes.{Rose}
use Rattle.std.proofs.lemmas.Bool.Decides.{nat_tests}
use Rattle.std.specs.Str.{bytes_eq}
use Rattle.std.specs.Cmp.Lexicographic.{bytes_decides}
use Rattle.rdf_model.specs.Terms.{Text}
use Rattle.line_batch.specs.Loading as loads
use Rattle.line_batch.specs.Loading.{Has}
use Rattle.tentris_core.specs.Traffic.{times_failed, RoseBy, AreCounted, IsCounted}
use Rattle.tentris_core.proofs.TrafficLemmas.{counted_none}

-- ---- what lines do, as commands

-- lines of a block
pub block_step : (A : Around) (s : StoreState) (change : script.Change) (body : List Line) (t : StoreState) (a : answers.Answer) → ChangesStore A.mixed s change (sayings [] body) t a
    → Carries A s (script.Block (script.Triples change) body) t a None
block_step A s change body t a h = record { step = by (graph t) a h.changes; refused = h.refused; sound = h.sound; max = h.max } where
  cfg : Config
  cfg = config_in A s

  W : World
  W = world_in A s

  c : script.Command
  c = script.Block (script.Triples change) body

  by : (H : Graph) (a : answers.Answer) → ChangesBy s.max change (sayings [] body) (graph s) H a → Step cfg W c (record W { graph = H }) a None
  by _ _ (changed.done H a none does) = steps.done c H a none does
  by _ _ (changed.refused r e) = steps.refused c r e
  by _ _ changed.no_memory = steps.no_memory c (λ e. let t : ⊥ = cc in t)

-- a line that changes nothing, and is answered
pub answer_step : (A : Around) (s : StoreState) (c : script.OneLine) (a : answers.Answer) → IsBetweenCommands A.mixed s → line_refusal (config_in A s) (world_in A s) c ≡ None → LineDoes (config_in A s) (world_in A s) c (graph s) a → is_refused a ≡ false
    → Carries A s (script.Single c) s a None
answer_step A s c a sound can does good = record {
  step = steps.done (script.Single c) (graph s) a can does;
  refused = λ e. absurd (clash (sym good ∙ e));
  sound = sound;
  max = refl;
} where
  clash : false ≡ true → ⊥
  clash e = let t : ⊥ = cc in t

-- memory ran out for a command
pub memory_step : (A : Around) (s : StoreState) (c : script.OneLine) → IsBetweenCommands A.mixed s → Carries A s (script.Single c) s (answers.Refused answers.NoMemory) None
memory_step A s c sound = record { step = steps.no_memory (script.Single c) (λ e. let t : ⊥ = cc in t); refused = λ _. refl; sound = sound; max = refl }

-- generated triples
pub generate_step : (A : Around) (s : StoreState) (count salt : ℕ) (t : StoreState) (a : answers.Answer) → ChangesStore A.mixed s script.Inserts (generated_sayings count salt) t a
    → Carries A s (script.Single (script.Generate count salt)) t a None
generate_step A s count salt t a h = record { step = by (graph t) a h.changes; refused = h.refused; sound = h.sound; max = h.max } where
  cfg : Config
  cfg = config_in A s

  W : World
  W = world_in A s

  c : script.Command
  c = script.Single (script.Generate count salt)

  by : (H : Graph) (a : answers.Answer) → ChangesBy s.max script.Inserts (generated_sayings count salt) (graph s) H a → Step cfg W c (record W { graph = H }) a None
  by _ _ (changed.done H a none does) = steps.done c H a none does
  by _ _ (changed.refused r e) = steps.refused c r e
  by _ _ changed.no_memory = steps.no_memory c (λ e. let t : ⊥ = cc in t)

-- a store that is sound by the mix of the program is so by that of what stands around it
pub sound_of : (A : Around) {mixed : ℕ → ℕ → ℕ → ℕ → ℕ} {sorted : Bool} {most : ℕ} {files : Option FileMap} {s : StoreState} → A ≡ around mixed sorted most files → IsBetweenCommands mixed s → IsBetweenCommands A.mixed s
sound_of A {mixed} {sorted} {most} {files} {s} is sound = subst (λ z. IsBetweenCommands z s) (sym (ap (λ z. z.mixed) is)) sound

pub generate_of : (A : Around) {mixed : ℕ → ℕ → ℕ → ℕ → ℕ} {sorted : Bool} {most : ℕ} {files : Option FileMap} {s t : StoreState} {count salt : ℕ} {a : answers.Answer} → A ≡ around mixed sorted most files → IsBetweenCommands mixed s
    → (IsBetweenCommands mixed s → ChangesStore mixed s script.Inserts (generated_sayings count salt) t a) → Carries A s (script.Single (script.Generate count salt)) t a None
generate_of A {mixed} {sorted} {most} {files} {s} {t} {count} {salt} {a} is sound h =
    generate_step A s count salt t a (subst (λ z. ChangesStore z s script.Inserts (generated_sayings count salt) t a) (sym (ap (λ z. z.mixed) is)) (h sound))

pub has_of : (A : Around) {mixed : ℕ → ℕ → ℕ → ℕ → ℕ} {sorted : Bool} {most : ℕ} {files : Option FileMap} → A ≡ around mixed sorted most files → Has A mixed most files
has_of A is = record { mixed = ap (λ z. z.mixed) is; most_bytes = ap (λ z. z.most_bytes) is; files = ap (λ z. z.files) is }

-- a failed read that was counted
counted_of : (before now : FaultCounts) (failed : Option FailedRead) → loads.IsCounted before now failed → IsCounted before now failed
counted_of before now None h = subst (λ z. AreCounted before z []) (sym h) (counted_none before)
counted_of before now (Some read) h = record { none = λ e. let t : ⊥ = cc in absurd t; rose = λ name place. by name place (bytes_eq read.name name) refl (read.place == place) refl } where
  by : (name : Text) (place : ℕ) (a : Bool) → bytes_eq read.name name ≡ a → (b : Bool) → (read.place == place) ≡ b → RoseBy (times_failed name place (read ∷ [])) (before name place) (now name place)
  by name place true y true z =
      let same : read.name ≡ name = (bytes_decides read.name name).0 y in
      let at : read.place ≡ place = grind (arith, nat_tests) in
      let one : times_failed name place (read ∷ []) ≡ 1 = rw (y, z) refl in
      let rose : Rose (before name place) (now name place) = subst (λ p. Rose (before name p) (now name p)) at (subst (λ n. Rose (before n read.place) (now n read.place)) same h.0) in
      subst (λ n. RoseBy n (before name place) (now name place)) (sym one) rose
  by name place true y false z =
      let none : times_failed name place (read ∷ []) ≡ 0 = rw (y, z) refl in
      subst (λ n. RoseBy n (before name place) (now name place)) (sym none) (let late = h.1 name place in omega (arith, late))
  by name place false y b z =
      let none : times_failed name place (read ∷ []) ≡ 0 = rw y refl in
      subst (λ n. RoseBy n (before name place) (now name place)) (sym none) (let late = h.1 name place in omega (arith, late))

pub reads_line : {A : Around} {s t : StoreState} {c : script.OneLine} {a : answers.Answer} {before now : FaultCounts} → loads.CarriesReads A s (script.Single c) t a before now → CarriesLine A s c t a before now
reads_line {A} {s} {t} {c} {a} {before} {now} h = record { failed = h.failed; carries = h.carries; counted = counted_of before now h.failed h.counted }

-- a line that reads no file
pub reads_none : {A : Around} {s t : StoreState} {c : script.OneLine} {a : answers.Answer} (faults : FaultCounts) → Carries A s (script.Single c) t a None → CarriesLine A s c t a faults faults
reads_none faults carries = record { failed = None; carries = carries; counted = counted_none faults }

-- ---- what the forms of lines bound

-- the scope of a file that a line names is empty, or letters and digits
pub form_scope : (t : List ℕ) (change : script.Change) (scope name : List ℕ) → script.form_of_text t ≡ Some (script.Whole (script.File change scope name)) → MayBeScope scope
form_scope t change scope name e = by t (script.Whole (script.File change scope name)) ((forms_are_productions t (script.Whole (script.File change scope name))).1 e) refl where
  none : MayBeScope []
  none = record { short = omega arith; letters = tt }

  by : (u : List ℕ) (f : script.Form) → form.IsForm u f → f ≡ script.Whole (script.File change scope name) → MayBeScope scope
  by _ _ form.insert is = absurd (let x : ⊥ = cc in x)
  by _ _ form.delete is = absurd (let x : ⊥ = cc in x)
  by _ _ form.query is = absurd (let x : ⊥ = cc in x)
  by _ _ form.dump is = absurd (let x : ⊥ = cc in x)
  by _ _ form.stats is = absurd (let x : ⊥ = cc in x)
  by _ _ form.shape is = absurd (let x : ⊥ = cc in x)
  by _ _ (form.file w gap n c fw are nm other) is = let same : [] ≡ scope = cc in subst MayBeScope same none
  by _ _ (form.scoped w gap gap' sc gap'' n c fw are are' word are'' nm) is = let same : sc ≡ scope = cc in subst MayBeScope same (record { short = word.short; letters = word.letters })
  by _ _ (form.generate gap first gap' second n salt are f are' z) is = absurd (let x : ⊥ = cc in x)

-- how many triples a line may have generated
pub form_count : (t : List ℕ) (count salt : ℕ) → script.form_of_text t ≡ Some (script.Whole (script.Generate count salt)) → count ≤ 500000000
form_count t count salt e = by t (script.Whole (script.Generate count salt)) ((forms_are_productions t (script.Whole (script.Generate count salt))).1 e) refl where
  by : (u : List ℕ) (f : script.Form) → form.IsForm u f → f ≡ script.Whole (script.Generate count salt) → count ≤ 500000000
  by _ _ form.insert is = absurd (let x : ⊥ = cc in x)
  by _ _ form.delete is = absurd (let x : ⊥ = cc in x)
  by _ _ form.query is = absurd (let x : ⊥ = cc in x)
  by _ _ form.dump is = absurd (let x : ⊥ = cc in x)
  by _ _ form.stats is = absurd (let x : ⊥ = cc in x)
  by _ _ form.shape is = absurd (let x : ⊥ = cc in x)
  by _ _ (form.file w gap n c fw are nm other) is = absurd (let x : ⊥ = cc in x)
  by _ _ (form.scoped w gap gap' sc gap'' n c fw are are' word are'' nm) is = absurd (let x : ⊥ = cc in x)
  by _ _ (form.generate gap first gap' second n z are f are' w) is = let same : n ≡ count = cc in subst (λ k. k ≤ 500000000) same f.within

-- ---- places

pub record IsInside (s now : StoreState) (block : Block) : Type 0 where
  pub change : script.Change
  pub body : List Line
  pub is : IsBlock s change body now block

pub inside_at : (p : Position) (s now : StoreState) (block : Block) → IsAt p s now (place.Inside block) → IsInside s now block
inside_at Outside s now block h = absurd h
inside_at (Inside script.Question body) s now block h = absurd h
inside_at (Inside (script.Triples change) body) s now block h = record { change = change; body = body; is = h }

-- a place in a query leaves the store as it was
pub asks_at : (p : Position) (s now : StoreState) (question : Question) → IsAt p s now (place.Asks question) → now ≡ s
asks_at Outside s now question h = absurd h
asks_at (Inside (script.Triples change) body) s now question h = absurd h
asks_at (Inside script.Question body) s now question h = h.0

-- ---- lines outside a block

of_form : (l : Line) → false ≡ script.skipped l → (rest : List Line) → script.outside (l ∷ rest) ≡ script.from_form (script.form_of l) (script.outside rest) (λ kind. script.inside kind [] rest)
of_form l told rest = ap (λ b. cond b (script.outside rest) (script.from_form (script.form_of l) (script.outside rest) (λ kind. script.inside kind [] rest))) (sym told)

module _ (A : Around) (l : Line) (s : StoreState) where
  -- a line that says nothing
  pub meets_note : (faults : FaultCounts) → true ≡ script.skipped l → MeetsLine A Outside l s s place.Outside faults faults None
  meets_note faults told = record {
    next = Outside;
    after = s;
    is_at = refl;
    leads = (refl, λ rest. ap (λ b. cond b (script.outside rest) (script.from_form (script.form_of l) (script.outside rest) (λ kind. script.inside kind [] rest))) (sym told), refl);
    had = omega arith;
  }

  -- a line that is a whole command
  pub meets_command : (c : script.OneLine) (t : StoreState) (a : Answer) (before now : FaultCounts) → false ≡ script.skipped l → Some (script.Whole c) ≡ script.form_of l → CarriesLine A s c t (answer_of a) before now
      → MeetsLine A Outside l s t place.Outside before now (Some a)
  meets_command c t a before now told form line = record {
    next = Outside;
    after = t;
    is_at = refl;
    leads = (
      record {
        command = script.Single c;
        closed = refl;
        out = refl;
        are = λ rest. of_form l told rest ∙ ap (λ f. script.from_form f (script.outside rest) (λ kind. script.inside kind [] rest)) (sym form);
        answer = answer_of a;
        failed = line.failed;
        carries = line.carries;
      },
      refl,
      line.counted,
    );
    had = omega arith;
  }

  -- a line that is no command
  pub meets_bad : (a : Answer) (faults : FaultCounts) → answer_of a ≡ answers.Refused answers.NoCommand → false ≡ script.skipped l → None ≡ script.form_of l → IsBetweenCommands A.mixed s → MeetsLine A Outside l s s place.Outside faults faults (Some a)
  meets_bad a faults is told form sound = record {
    next = Outside;
    after = s;
    is_at = refl;
    leads = (
      record {
        command = script.Bad;
        closed = refl;
        out = refl;
        are = λ rest. of_form l told rest ∙ ap (λ f. script.from_form f (script.outside rest) (λ kind. script.inside kind [] rest)) (sym form);
        answer = answer_of a;
        failed = None;
        carries = subst (λ z. Carries A s script.Bad s z None) (sym is) (record { step = steps.refused script.Bad answers.NoCommand refl; refused = λ _. refl; sound = sound; max = refl });
      },
      refl,
      counted_none faults,
    );
    had = omega arith;
  }

  -- a line that begins a block
  pub meets_begin : (kind : script.Kind) (q : Progress) (faults : FaultCounts) → false ≡ script.skipped l → Some (script.Begins kind) ≡ script.form_of l → IsAt (Inside kind []) s s q → MeetsLine A Outside l s s q faults faults None
  meets_begin kind q faults told form at = record {
    next = Inside kind [];
    after = s;
    is_at = at;
    leads = (refl, λ rest. of_form l told rest ∙ ap (λ f. script.from_form f (script.outside rest) (λ kind. script.inside kind [] rest)) (sym form), refl);
    had = omega arith;
  }

-- ---- lines of a block

-- a line that ends it, and one that doesn't
pub ends_it : (l : Line) (kind : script.Kind) (body : List Line) → true ≡ script.ends_block l → (rest : List Line) → script.inside kind body (l ∷ rest) ≡ script.Block kind body ∷ script.outside rest
ends_it l kind body told rest = ap (λ b. cond b (script.Block kind body ∷ script.outside rest) (script.inside kind (body ++ l ∷ []) rest)) (sym told)

pub goes_on : (l : Line) (kind : script.Kind) (body : List Line) → false ≡ script.ends_block l → (rest : List Line) → script.inside kind body (l ∷ rest) ≡ script.inside kind (body ++ l ∷ []) rest
goes_on l kind body told rest = ap (λ b. cond b (script.Block kind body ∷ script.outside rest) (script.inside kind (body ++ l ∷ []) rest)) (sym told)

-- the line that ends a query, and its answer
pub question_leads : (A : Around) (l : Line) (body : List Line) (s : StoreState) (before now : Option (List ℕ)) (faults : FaultCounts) (outcome : Outcome) → true ≡ script.ends_block l → AnswersQuestion A body s before now outcome
    → LeadsOn A (Inside script.Question body) l s Outside s (effects before faults) (effects now faults) outcome
question_leads A l body s before now faults outcome is_end h = by outcome h.writes where
  ends : EndsCommand A (Inside script.Question body) l s Outside s
  ends = record { command = script.Block script.Question body; closed = refl; out = refl; are = ends_it l script.Question body is_end; answer = h.answer; failed = None; carries = h.carries }

  by : (o : Outcome) → WritesAnswer before now o h.answer → LeadsOn A (Inside script.Question body) l s Outside s (effects before faults) (effects now faults) o
  by GoesOn w = absurd w
  by (Answered refused) w = (ends, w, counted_none faults)
  by Cut w = (ends, w, counted_none faults)

-- one line more of a block, as what it says
pub sayings_push : (body : List Line) (l : Line) → sayings [] (body ++ l ∷ []) ≡ sayings [] body ++ says [] l ∷ []
sayings_push [] l = refl
sayings_push (m ∷ body) l = ap (λ z. says [] m ∷ z) (sayings_push body l)

pub sayings_length : (body : List Line) → length (sayings [] body) ≡ length body
sayings_length [] = refl
sayings_length (m ∷ body) = omega (arith, sayings_length body)

-- ---- what is passed on

-- a line, and then its answer
pub takes_told : (A : Around) (p : Position) (l : Line) (s now : StoreState) (q : Progress) (answer : Option Answer) (before after : Option (List ℕ)) (f g : FaultCounts) (outcome : Outcome)
    → MeetsLine A p l s now q f g answer → Tells before after outcome answer → TakesLine A p l s now q (effects before f) (effects after g) outcome
takes_told A p l s now q answer before after f g outcome m t = record { next = m.next; after = m.after; is_at = m.is_at; leads = by answer m.leads outcome t; had = m.had } where
  some : (a : Answer) (e : EndsCommand A p l s m.next m.after) → e.answer ≡ answer_of a → IsCounted f g e.failed → (o : Outcome) → WritesAnswer before after o (answer_of a) → LeadsOn A p l s m.next m.after (effects before f) (effects after g) o
  some a e is counted GoesOn w = absurd w
  some a e is counted (Answered refused) w = (e, subst (WritesAnswer before after (Answered refused)) (sym is) w, counted)
  some a e is counted Cut w = (e, subst (WritesAnswer before after Cut) (sym is) w, counted)

  by : (answer : Option Answer) → LeadsTo A p l s m.next m.after f g answer → (o : Outcome) → Tells before after o answer → LeadsOn A p l s m.next m.after (effects before f) (effects after g) o
  by None leads o t = subst (LeadsOn A p l s m.next m.after (effects before f) (effects after g)) (sym t.1) (leads.0, leads.1, λ i. effects (t.0 i) (leads.2 i))
  by (Some a) leads o t = some a leads.0 leads.1 leads.2 o t
