-- A file, line by line, and what it does as a command.
use Rattle.std.proofs.Common.{◌≡◌, ◌∙◌, ◌⊎◌, inl, inr, ℕ, zero, suc, ◌+◌, ◌-◌, ◌≤◌, ◌<◌, Bool, true, false, nat_le, List, [], ◌∷◌, ◌++◌, length, take, refl, sym, ap, subst, arith, append-nil, length-append}
use Rattle.std.specs.Prelude.{Option, Some, None, Result, Ok, Err, if◌then◌else◌}
use Rattle.std.specs.Option.{option_or, IsSomeAnd}
use Rattle.std.specs.FinMap as files_map
use Rattle.std.proofs.lemmas.Bool.Decides.{nat_tests}
use Rattle.std.proofs.lemmas.List.{map-append, take_all, length-map}
use Rattle.text_lines.specs.Lines.{Line, lines_of, whole_lines_of}
use Rattle.file_model.specs.FileMap.{FileMap, OfFile}
use Rattle.file_model.specs.FileLines.{FileText, All, Long as long, BeginsWith, file_lines}
use Rattle.tn_io.specs.CutterState.{line_told, to_come, whole_to_come}
use Rattle.tn_io.specs.declared.cutter.Cut.{Cut}
use Rattle.file_read.specs.ReaderState as reader
use Rattle.file_read.specs.ReaderState.{HasTold, at_start}
use Rattle.file_read.specs.ReaderCalls.{NextLine, FailedBehind}
use Rattle.file_read.specs.declared.reader.FileFault.{FileFault}
use Rattle.file_read.specs.declared.reader.FileFault.TheVariants.{Read, Long}
use Rattle.file_read.proofs.ReaderLemmas.{at_start_is}
use Rattle.rdf_model.specs.Terms.{Text}
use Rattle.rdf_model.specs.Graph.{Graph}
use Rattle.script_model.specs.Commands as script
use Rattle.run_model.specs.Answers as answers
use Rattle.run_model.specs.Sayings.{Saying, says, sayings, first_refusal, Changes}
use Rattle.run_model.specs.Loads.{text_refusal, file_refusal, RefusesFile, FailsAt}
use Rattle.run_model.specs.Steps as steps
use Rattle.run_model.specs.Steps.{Step}
use Rattle.run_model.specs.Worlds.{Config, World, FailedRead}
use Rattle.graph_store.specs.StoreState.{StoreState, graph}
use Rattle.answer_text.specs.declared.Refusal.{Refusal}
use Rattle.answer_text.specs.declared.Refusal.TheVariants as cause
use Rattle.answer_text.specs.Seen.{refusal_of}
use Rattle.line_batch.specs.declared.batch.Batch.{Batch}
use Rattle.line_batch.specs.declared.batch.Batch.TheVariants.{Inserts, Deletes, Refused}
use Rattle.line_batch.specs.Batches as changed
use Rattle.line_batch.specs.Batches.{batch_refusal, IsCause, IsBatch, IsGoing, IsNone, HasOneMore, ChangesBy, ChangesStore}
use Rattle.line_batch.specs.Carrying.{Around, config_in, world_in, Carries}
use Rattle.line_batch.specs.Loading.{Has, HasWhole, IsFileCause, file_command}
use Rattle.line_batch.specs.Sound.{IsBetweenCommands}
use Rattle.line_batch.proofs.BatchLemmas.{of_refused}
use Rattle.line_batch.proofs.RefusalLemmas.{refusal-front}

-- ---- refusals of a file

take_none : (n : ℕ) → take {A = ℕ} n [] ≡ []
take_none zero = refl
take_none (suc n) = refl

take_both : (n : ℕ) (xs ys : List ℕ) → take n (xs ++ ys) ≡ take n xs ++ take (n - length xs) ys
take_both n [] ys = ap (λ k. take k ys) (let e : n ≡ n - 0 = omega arith in e) ∙ ap (λ z. z ++ take (n - 0) ys) (sym (take_none n))
take_both zero (x ∷ xs) ys = ap (λ k. take k ys) (let e : 0 ≡ 0 - length (x ∷ xs) = omega arith in e)
take_both (suc n) (x ∷ xs) ys = ap (λ z. x ∷ z) (take_both n xs ys ∙ ap (λ k. take n xs ++ take k ys) (let e : n - length xs ≡ suc n - length (x ∷ xs) = omega arith in e))

some_or : (o p : Option answers.Refusal) (r : answers.Refusal) → o ≡ Some r → option_or o p ≡ Some r
some_or o p r e = ap (λ z. option_or z p) e

module _ (cfg : Config) (G : Graph) (change : script.Change) (scope : Text) where
  short_text : (bytes : List ℕ) → length bytes ≤ cfg.most_bytes → file_refusal cfg G change scope bytes ≡ first_refusal change cfg.most_triples G (sayings scope (lines_of bytes))
  short_text bytes h = let test : nat_le (length bytes) cfg.most_bytes ≡ true = grind (arith, nat_tests) in rw test refl

  long_text : (bytes : List ℕ) → cfg.most_bytes < length bytes
      → file_refusal cfg G change scope bytes ≡ option_or (first_refusal change cfg.most_triples G (sayings scope (whole_lines_of (take cfg.most_bytes bytes)))) (Some answers.IsLong)
  long_text bytes h = let test : nat_le (length bytes) cfg.most_bytes ≡ false = grind (arith, nat_tests) in rw test refl

  -- lines that begin with refused ones are refused
  refused_front : (told more ls : List Line) (r : answers.Refusal) → ls ≡ told ++ more → first_refusal change cfg.most_triples G (sayings scope told) ≡ Some r → first_refusal change cfg.most_triples G (sayings scope ls) ≡ Some r
  refused_front told more ls r are e =
      ap (λ z. first_refusal change cfg.most_triples G (sayings scope z)) are ∙ ap (first_refusal change cfg.most_triples G) (map-append (says scope) told more)
      ∙ refusal-front change cfg.most_triples G [] 1 r (sayings scope told) (sayings scope more) e

  -- What was told of the bytes taken begins the lines, whatever bytes follow.
  refused_text : (taken rest : List ℕ) (told : List Line) (r : answers.Refusal)
      → ((rest : List ℕ) → (more : List Line) × (whole_lines_of (take cfg.most_bytes taken ++ rest) ≡ told ++ more))
      → ((rest : List ℕ) → (more : List Line) × (lines_of (take cfg.most_bytes taken ++ rest) ≡ told ++ more))
      → first_refusal change cfg.most_triples G (sayings scope told) ≡ Some r → file_refusal cfg G change scope (taken ++ rest) ≡ Some r
  refused_text taken rest told r whole lines e = by (nat_le (length (taken ++ rest)) cfg.most_bytes) refl where
    short : length (taken ++ rest) ≤ cfg.most_bytes → file_refusal cfg G change scope (taken ++ rest) ≡ Some r
    short h =
        let all : take cfg.most_bytes taken ≡ taken = take_all cfg.most_bytes taken (omega (arith, h, length-append taken rest)) in
        let found = lines rest in
        short_text (taken ++ rest) h ∙ refused_front told found.0 (lines_of (taken ++ rest)) r (ap (λ z. lines_of (z ++ rest)) (sym all) ∙ found.1) e

    long_one : cfg.most_bytes < length (taken ++ rest) → file_refusal cfg G change scope (taken ++ rest) ≡ Some r
    long_one h =
        let found = whole (take (cfg.most_bytes - length taken) rest) in
        long_text (taken ++ rest) h
        ∙ some_or _ (Some answers.IsLong) r (refused_front told found.0 (whole_lines_of (take cfg.most_bytes (taken ++ rest))) r (ap whole_lines_of (take_both cfg.most_bytes taken rest) ∙ found.1) e)

    by : (b : Bool) → nat_le (length (taken ++ rest)) cfg.most_bytes ≡ b → file_refusal cfg G change scope (taken ++ rest) ≡ Some r
    by true e = short (grind (arith, nat_tests))
    by false e = long_one (grind (arith, nat_tests))

-- ---- the bytes of a file

some_bytes : (o : Option (List ℕ)) (P : List ℕ → Type 0) → IsSomeAnd o P → (bytes : List ℕ) × IsSomeAnd o (λ own. own ≡ bytes) × P bytes
some_bytes None P h = absurd h
some_bytes (Some bytes) P h = (bytes, refl, h)

-- Bytes that the file may have of which this holds: its own, where they are told.
with_bytes : (files : Option FileMap) (name : List ℕ) (P : List ℕ → Type 0) (other : List ℕ) → P other → OfFile files name P → (bytes : List ℕ) × OfFile files name (λ own. own ≡ bytes) × P bytes
with_bytes None name P other p h = (other, tt, p)
with_bytes (Some files) name P other p h = some_bytes (files_map.get files name) P h

none_before : (ls more : List Line) → [] ≡ ls ++ more → ls ≡ []
none_before [] more e = refl
none_before (l ∷ ls) more e = absurd (let t : ⊥ = cc in t)

module _ (A : Around) (s : StoreState) (change : script.Change) (scope name : Text) where
  abbrev cfg : Config
  cfg = config_in A s

  abbrev W : World
  W = world_in A s

  -- what was told of a file is refused, and so the file is
  pub refuses : (r : reader.ReaderState) (taken : List ℕ) (told : List Line) (q : answers.Refusal) → r.max ≡ A.most_bytes → HasTold A.files name r taken told
      → batch_refusal s change (sayings scope told) ≡ Some q → RefusesFile cfg W change scope name q
  refuses r taken told q max (inr h) e = record {
    bytes = taken;
    there = h.whole;
    refused = ap (text_refusal change s.max (graph s) scope) (ap (λ m. file_lines m taken) (sym max) ∙ h.lines) ∙ e;
  }
  refuses r taken told q max (inl h) e = by h.front where
    none : taken ≡ [] → told ≡ []
    none is = none_before told _ (ap (λ z. lines_of (z ++ [])) (sym (ap (take r.max) is ∙ take_none r.max)) ∙ h.lines [])

    by : (taken ≡ []) ⊎ OfFile A.files name (BeginsWith taken) → RefusesFile cfg W change scope name q
    by (inl is) = absurd (let bad : None ≡ Some q = ap (λ z. batch_refusal s change (sayings scope z)) (sym (none is)) ∙ e in let t : ⊥ = cc in t)
    by (inr of) =
        let found = with_bytes A.files name (BeginsWith taken) taken ([], sym (append-nil taken)) of in
        record {
          bytes = found.0;
          there = found.1;
          refused =
              ap (file_refusal cfg (graph s) change scope) found.2.1
              ∙ refused_text cfg (graph s) change scope taken found.2.0 told q
              (λ rest. (whole_to_come r.cutter (r.ahead ++ rest), ap (λ m. whole_lines_of (take m taken ++ rest)) (sym max) ∙ h.whole rest))
              (λ rest. (to_come r.cutter (r.ahead ++ rest), ap (λ m. lines_of (take m taken ++ rest)) (sym max) ∙ h.lines rest)) e;
        }

  pub long_file : (taken : List ℕ) (told : List Line) → file_lines A.most_bytes taken ≡ long told → OfFile A.files name (λ bytes. file_lines A.most_bytes bytes ≡ long told)
      → batch_refusal s change (sayings scope told) ≡ None → RefusesFile cfg W change scope name answers.IsLong
  long_file taken told here of good =
      let found = with_bytes A.files name (λ bytes. file_lines A.most_bytes bytes ≡ long told) taken here of in
      record {
        bytes = found.0;
        there = found.1;
        refused = ap (text_refusal change s.max (graph s) scope) found.2 ∙ ap (λ o. option_or o (Some answers.IsLong)) good;
      }

  -- why a line is refused is why the file is
  pub file_cause : (r : reader.ReaderState) (taken : List ℕ) (told : List Line) → r.max ≡ A.most_bytes → HasTold A.files name r taken told → (why : Refusal) → IsCause s change (sayings scope told) why → IsFileCause A s change scope name why
  file_cause r taken told max h (cause.Line n) e = refuses r taken told (answers.BadLine n) max h e
  file_cause r taken told max h (cause.Full n) e = refuses r taken told (answers.FullAt n) max h e
  file_cause r taken told max h cause.Memory e = tt
  file_cause r taken told max h cause.Command e = absurd e
  file_cause r taken told max h cause.Query e = absurd e
  file_cause r taken told max h cause.File e = absurd e
  file_cause r taken told max h cause.Long e = absurd e
  file_cause r taken told max h cause.Prefix e = absurd e
  file_cause r taken told max h cause.Size e = absurd e
  file_cause r taken told max h cause.Unended e = absurd e

-- ---- the lines of a file, as they come

-- a call whose result and files are known under other names
pub next_in : {told files : Option FileMap} {name : Text} {r t : reader.ReaderState} {found result : Result (Option Cut) FileFault} → files ≡ told → found ≡ result → NextLine files name r t found → NextLine told name r t result
next_in {told} {files} {name} {r} {t} {found} {result} same is next = subst (λ f. NextLine f name r t result) same (subst (NextLine files name r t) is next)

pub has_at : {A : Around} {mixed : ℕ → ℕ → ℕ → ℕ → ℕ} {max : ℕ} {files : Option FileMap} (other : ℕ) → other ≡ max → Has A mixed max files → Has A mixed other files
has_at other is has = record { mixed = has.mixed; most_bytes = has.most_bytes ∙ sym is; files = has.files }

-- What was told of a file, and the store and the batch that it made of those at first.
pub record HasGathered (files : Option FileMap) (scope name : Text) (r : reader.ReaderState) (old : StoreState) (from : Batch) (number : ℕ) (now : StoreState) (batch : Batch) : Type 0 where
  pub taken : List ℕ
  pub told : List Line
  pub tells : HasTold files name r taken told
  pub count : number ≡ length told
  pub lines : (change : script.Change) → IsNone old change from → IsBatch old change (sayings scope told) now batch

pub gather_starts : (files : Option FileMap) (scope name : Text) (r : reader.ReaderState) (max : ℕ) (old : StoreState) (from : Batch) → r ≡ at_start max → HasGathered files scope name r old from 0 old from
gather_starts files scope name r max old from is = record {
  taken = [];
  told = [];
  tells = subst (λ z. HasTold files name z [] []) (sym is) (at_start_is files name max);
  count = refl;
  lines = λ change h. h.0;
}

-- a batch without a refused line says of its lines that none is refused
going_good : (s : StoreState) (change : script.Change) (said : List Saying) (now : StoreState) (b : Batch) → IsBatch s change said now b → IsGoing b → batch_refusal s change said ≡ None
going_good s script.Inserts said now (Inserts staged) h g = h.good
going_good s script.Deletes said now (Inserts staged) h g = absurd h
going_good s script.Inserts said now (Deletes taken) h g = absurd h
going_good s script.Deletes said now (Deletes taken) h g = h.1.good
going_good s change said now (Refused why) h g = absurd g

module _ (files : Option FileMap) (scope name : Text) (r : reader.ReaderState) (old : StoreState) (from : Batch) (number : ℕ) (now : StoreState) (batch : Batch) (h : HasGathered files scope name r old from number now batch) (t : reader.ReaderState) where
  -- one more line
  pub gather_line : (cut : Cut) (later : StoreState) (next : Batch) → NextLine files name r t (Ok (Some cut)) → HasOneMore (number + 1) (says scope (line_told cut t.cutter)) now batch later next
      → HasGathered files scope name t old from (number + 1) later next
  gather_line cut later next found more =
      let l = line_told cut t.cutter in
      let are : sayings scope (h.told ++ l ∷ []) ≡ sayings scope h.told ++ says scope l ∷ [] = map-append (says scope) h.told (l ∷ []) in
      record {
        taken = h.taken ++ found.q;
        told = h.told ++ l ∷ [];
        tells = found.tells h.taken h.told h.tells;
        count = omega (arith, h.count, length-append h.told (l ∷ []));
        lines = λ change none. subst (λ z. IsBatch old change z later next) (sym are) (more old change (sayings scope h.told) (omega (arith, h.count, length-map h.told (says scope))) (h.lines change none));
      }

  module _ (A : Around) (change : script.Change) {mixed : ℕ → ℕ → ℕ → ℕ → ℕ} (has : Has A mixed t.max files) (none : IsNone old change from) where
    pub gather_whole : NextLine files name r t (Ok None) → HasWhole A old change scope name now batch
    gather_whole found =
        let tells = found.tells h.taken h.told h.tells in
        record {
          bytes = h.taken ++ found.q;
          told = h.told;
          lines = ap (λ m. file_lines m (h.taken ++ found.q)) has.most_bytes ∙ tells.0;
          there = subst (λ f. OfFile f name (λ own. own ≡ h.taken ++ found.q)) (sym has.files) tells.1;
          is = h.lines change none;
        }

    module _ (going : IsGoing batch) where
      good : batch_refusal old change (sayings scope h.told) ≡ None
      good = going_good old change (sayings scope h.told) now batch (h.lines change none) going

      pub gather_fails : NextLine files name r t (Err Read) → FailsAt (config_in A old) (world_in A old) change scope name t.place
      gather_fails found =
          let tells : FailedBehind A.files name t (h.taken ++ found.q) h.told = subst (λ f. FailedBehind f name t (h.taken ++ found.q) h.told) (sym has.files) (found.tells h.taken h.told h.tells) in
          record {
            front = h.taken ++ found.q;
            behind = tells.place;
            begins = tells.front;
            good = record {
              within = omega (arith, tells.within, has.most_bytes);
              good = ap (λ z. batch_refusal old change (sayings scope z)) tells.lines ∙ good;
            };
          }

      pub gather_long : NextLine files name r t (Err Long) → RefusesFile (config_in A old) (world_in A old) change scope name answers.IsLong
      gather_long found =
          let tells = found.tells h.taken h.told h.tells in
          let of = subst (λ f. OfFile f name (λ bytes. file_lines t.max bytes ≡ long h.told)) (sym has.files) tells.1 in
          long_file A old change scope name (h.taken ++ found.q) h.told (ap (λ m. file_lines m (h.taken ++ found.q)) has.most_bytes ∙ tells.0)
          (subst (λ m. OfFile A.files name (λ bytes. file_lines m bytes ≡ long h.told)) (sym has.most_bytes) of) good

-- a line was refused
pub gather_refused : (files : Option FileMap) (scope name : Text) (t : reader.ReaderState) (old : StoreState) (from : Batch) (number : ℕ) (now : StoreState) (why : Refusal) → HasGathered files scope name t old from number now (Refused why)
    → (A : Around) (change : script.Change) {mixed : ℕ → ℕ → ℕ → ℕ → ℕ} → Has A mixed t.max files → IsNone old change from → (now ≡ old) × IsFileCause A old change scope name why
gather_refused files scope name t old from number now why h A change {mixed} has none =
    let was = of_refused old change (sayings scope h.told) now why (h.lines change none) in
    (was.0, file_cause A old change scope name t h.taken h.told (sym has.most_bytes) (subst (λ f. HasTold f name t h.taken h.told) (sym has.files) h.tells) why was.1)

pub still_going : (b : Batch) → ((why : Refusal) → b ≡ Refused why → ⊥) → IsGoing b
still_going (Inserts staged) h = tt
still_going (Deletes taken) h = tt
still_going (Refused why) h = h why refl

-- ---- files as commands

all_told : (max : ℕ) (bytes : List ℕ) (told : List Line) → file_lines max bytes ≡ All told → lines_of bytes ≡ told
all_told max bytes told = by (nat_le (length bytes) max) where
  by : (b : Bool) → (if b then All (lines_of bytes) else long (whole_lines_of (take max bytes))) ≡ All told → lines_of bytes ≡ told
  by true e = ap lines_in e where
    lines_in : FileText → List Line
    lines_in (All ls) = ls
    lines_in (long ls) = ls
  by false e = absurd (let t : ⊥ = cc in t)

module _ (A : Around) (s : StoreState) (change : script.Change) (scope name : Text) where
  abbrev c : script.Command
  c = file_command change scope name

  -- a file that was read whole
  pub load_whole : (now : StoreState) (batch : Batch) (t : StoreState) (a : answers.Answer) (h : HasWhole A s change scope name now batch) → ChangesStore A.mixed s change (sayings scope h.told) t a → Carries A s c t a None
  load_whole now batch t a h did = record { step = by (graph t) a did.changes; refused = did.refused; sound = did.sound; max = did.max } where
    told : lines_of h.bytes ≡ h.told
    told = all_told A.most_bytes h.bytes h.told h.lines

    found : file_refusal (config_in A s) (graph s) change scope h.bytes ≡ batch_refusal s change (sayings scope h.told)
    found = ap (text_refusal change s.max (graph s) scope) h.lines

    by : (H : Graph) (a : answers.Answer) → ChangesBy s.max change (sayings scope h.told) (graph s) H a → Step (config_in A s) (world_in A s) c (record (world_in A s) { graph = H }) a None
    by _ _ (changed.done H a none does) =
        steps.done c H a refl (record { bytes = h.bytes; there = h.there; good = found ∙ none; changes = subst (λ z. Changes change (graph s) (sayings scope z) H a) (sym told) does })
    by _ _ (changed.refused r e) = steps.file_refused change scope name r (record { bytes = h.bytes; there = h.there; refused = found ∙ e })
    by _ _ changed.no_memory = steps.no_memory c (λ e. let t : ⊥ = cc in t)

  module _ (sound : IsBetweenCommands A.mixed s) where
    stays : (a : answers.Refusal) (failed : Option FailedRead) → Step (config_in A s) (world_in A s) c (world_in A s) (answers.Refused a) failed → Carries A s c s (answers.Refused a) failed
    stays a failed step = record { step = step; refused = λ _. refl; sound = sound; max = refl }

    refused_by : (r : answers.Refusal) → RefusesFile (config_in A s) (world_in A s) change scope name r → Carries A s c s (answers.Refused r) None
    refused_by r h = stays r None (steps.file_refused change scope name r h)

    by_cause : (why : Refusal) → IsFileCause A s change scope name why → Carries A s c s (answers.Refused (refusal_of why)) None
    by_cause (cause.Line n) h = refused_by (answers.BadLine n) h
    by_cause (cause.Full n) h = refused_by (answers.FullAt n) h
    by_cause cause.Long h = refused_by answers.IsLong h
    by_cause cause.Memory h = stays answers.NoMemory None (steps.no_memory c (λ e. let t : ⊥ = cc in t))
    by_cause cause.Command h = absurd h
    by_cause cause.Query h = absurd h
    by_cause cause.File h = absurd h
    by_cause cause.Prefix h = absurd h
    by_cause cause.Size h = absurd h
    by_cause cause.Unended h = absurd h

    pub load_refused : (t : StoreState) → t ≡ s → (why : Refusal) → IsFileCause A s change scope name why → Carries A s c t (answers.Refused (refusal_of why)) None
    load_refused t is why h = subst (λ z. Carries A s c z (answers.Refused (refusal_of why)) None) (sym is) (by_cause why h)

    pub load_failed : (t : StoreState) → t ≡ s → (place : ℕ) → FailsAt (config_in A s) (world_in A s) change scope name place → Carries A s c t (answers.Refused answers.NoFile) (Some (record { name = name; place = place }))
    load_failed t is place h =
        subst (λ z. Carries A s c z (answers.Refused answers.NoFile) (Some (record { name = name; place = place }))) (sym is)
        (stays answers.NoFile (Some (record { name = name; place = place })) (steps.file_failed change scope name place h))
