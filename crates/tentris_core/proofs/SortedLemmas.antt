-- With sorted rows, a run is a function of what went in.
use Rattle.std.proofs.Common.{◌≡◌, ◌≢◌, ◌∙◌, ℕ, true, List, [], ◌∷◌, ◌++◌, refl, sym, ap, subst}
use Rattle.std.specs.Prelude.{Option, Some, None}
use Rattle.std.specs.Option.{IsSomeAnd}
use Rattle.std.specs.FinMap as map
use Rattle.std.specs.FinSet as set
use Rattle.file_model.specs.FileMap.{FileMap}
use Rattle.rdf_model.specs.Terms.{Text}
use Rattle.rdf_model.specs.Graph.{Graph, added, gone}
use Rattle.script_model.specs.Commands.{Change, Inserts, Deletes, Triples, Question, OneLine, Command, Block, Single, Bad, Unended, File, Generate, Dump, Stats, Shape, question_of}
use Rattle.query_grammar.specs.Meaning as query
use Rattle.query_grammar.specs.Meaning.{Query, query_of}
use Rattle.solution_model.specs.Answers.{sorted_answer}
use Rattle.run_model.specs.Answers.{Refusal, Answer, Done, New, Gone, Listed, Refused, NoMemory, answer_text}
use Rattle.run_model.specs.Loads.{generated_sayings, HasBytes, LoadsFile, RefusesFile, file_refusal}
use Rattle.run_model.specs.Sayings.{Saying, Changes, sayings, triples_of}
use Rattle.run_model.specs.Questions.{AnswersQuestion}
use Rattle.run_model.specs.Worlds.{Config, World, FailedRead}
use Rattle.run_model.specs.Steps as steps
use Rattle.run_model.specs.Steps.{Step, Event, Run, Does, LineDoes, refusal_of, commands_in, text_of}
use Rattle.text_lines.specs.Lines.{lines_of}
use Rattle.tentris_core.specs.Sorted.{IsUnhindered, SortedRunsAgree}

-- a graph and an answer, twice
abbrev Alike : Graph → Answer → Graph → Answer → Type 0
Alike H a K b = (H ≡ K) × (a ≡ b)

-- a file that is told has one list of bytes
same_bytes : (files : FileMap) (told : Option FileMap) (name : Text) (one other : List ℕ) → told ≡ Some files → HasBytes told name one → HasBytes told name other → one ≡ other
same_bytes files None name one other is h k = absurd (let t : ⊥ = cc in t)
same_bytes files (Some fs) name one other is h k = of (map.get fs name) h k where
  of : (own : Option (List ℕ)) → IsSomeAnd own (λ o. o ≡ one) → IsSomeAnd own (λ o. o ≡ other) → one ≡ other
  of None h k = absurd h
  of (Some own) h k = sym h ∙ k

changes_alike : (change : Change) (G : Graph) (said : List Saying) (H K : Graph) (a b : Answer) → Changes change G said H a → Changes change G said K b → Alike H a K b
changes_alike Inserts G said H K a b h k =
    let same : H ≡ K = h.0 ∙ sym k.0 in
    (same, h.1 ∙ ap (λ Z. Done (New (added G (triples_of said)) (set.len Z))) same ∙ sym k.1)
changes_alike Deletes G said H K a b h k =
    let same : H ≡ K = h.0 ∙ sym k.0 in
    (same, h.1 ∙ ap (λ Z. Done (Gone (gone G (triples_of said)) (set.len Z))) same ∙ sym k.1)

question_alike : (G : Graph) (question : Option Text) (a b : Answer) → AnswersQuestion true G question a → AnswersQuestion true G question b → a ≡ b
question_alike G question a b h k = h.is ∙ rows ∙ sym k.is where
  texts : h.text ≡ k.text
  texts = let e : Some h.text ≡ Some k.text = sym h.short ∙ k.short in cc

  queries : h.q ≡ k.q
  queries = let e : query.IsQuery h.q ≡ query.IsQuery k.q = sym h.reads ∙ ap query_of texts ∙ k.reads in cc

  same_rows : h.rows ≡ k.rows
  same_rows = h.in_order refl ∙ ap (λ q. sorted_answer q G) queries ∙ sym (k.in_order refl)

  rows : Listed h.q.columns h.rows ≡ Listed k.q.columns k.rows
  rows = ap (λ q. Listed q.columns h.rows) queries ∙ ap (λ r. Listed k.q.columns r) same_rows

-- a command that was carried out over a world with told files
line_alike : (cfg : Config) (W : World) (files : FileMap) (c : OneLine) (H K : Graph) (a b : Answer) → W.files ≡ Some files
    → LineDoes cfg W c H a → LineDoes cfg W c K b → Alike H a K b
line_alike cfg W files (File change scope name) H K a b told h k =
    changes_alike change W.graph (sayings scope (lines_of h.bytes)) H K a b h.changes
    (subst (λ bytes. Changes change W.graph (sayings scope (lines_of bytes)) K b) (sym (same_bytes files W.files name h.bytes k.bytes told h.there k.there)) k.changes)
line_alike cfg W files (Generate count salt) H K a b told h k = changes_alike Inserts W.graph (generated_sayings count salt) H K a b h k
line_alike cfg W files Dump H K a b told h k = (h.0 ∙ sym k.0, h.1 ∙ sym k.1)
line_alike cfg W files Stats H K a b told h k = (h.0 ∙ sym k.0, h.1 ∙ sym k.1)
line_alike cfg W files Shape H K a b told h k = (h.0 ∙ sym k.0, h.1 ∙ sym k.1)

does_alike : (cfg : Config) (W : World) (files : FileMap) (c : Command) (H K : Graph) (a b : Answer) → cfg.sorted ≡ true → W.files ≡ Some files
    → Does cfg W c H a → Does cfg W c K b → Alike H a K b
does_alike cfg W files (Block (Triples change) lines) H K a b sorted told h k = changes_alike change W.graph (sayings [] lines) H K a b h k
does_alike cfg W files (Block Question lines) H K a b sorted told h k =
    (h.0 ∙ sym k.0, question_alike W.graph (question_of lines) a b (as_sorted a h.1) (as_sorted b k.1)) where
      as_sorted : (a : Answer) → AnswersQuestion cfg.sorted W.graph (question_of lines) a → AnswersQuestion true W.graph (question_of lines) a
      as_sorted a h = subst (λ s. AnswersQuestion s W.graph (question_of lines) a) sorted h
does_alike cfg W files (Single command) H K a b sorted told h k = line_alike cfg W files command H K a b told h k
does_alike cfg W files Bad H K a b sorted told h k = absurd h
does_alike cfg W files Unended H K a b sorted told h k = absurd h

-- a step that memory and reads didn't hinder
data Plain (cfg : Config) (W : World) (c : Command) (V : World) (a : Answer) : Type 0 where
  carried : (H : Graph) → refusal_of cfg W c ≡ None → Does cfg W c H a → V ≡ record W { graph = H } → Plain cfg W c V a
  by_lines : (r : Refusal) → refusal_of cfg W c ≡ Some r → V ≡ W → a ≡ Refused r → Plain cfg W c V a
  by_file : (change : Change) (scope name : Text) (r : Refusal) → c ≡ Single (File change scope name) → RefusesFile cfg W change scope name r
      → V ≡ W → a ≡ Refused r → Plain cfg W c V a

plain : (cfg : Config) (W V : World) (c : Command) (a : Answer) (failed : Option FailedRead) → Step cfg W c V a failed → a ≢ Refused NoMemory → failed ≡ None
    → Plain cfg W c V a
plain cfg W _ c a _ (steps.done _ H _ can does) memory reads = carried H can does refl
plain cfg W _ c _ _ (steps.refused _ r is) memory reads = by_lines r is refl refl
plain cfg W _ _ _ _ (steps.file_refused change scope name r h) memory reads = by_file change scope name r refl h refl refl
plain cfg W _ _ _ _ (steps.file_failed change scope name place h) memory reads = absurd (let t : ⊥ = cc in t)
plain cfg W _ c _ _ (steps.no_memory _ other) memory reads = absurd (memory refl)

-- a file that was loaded isn't refused
loads_or_refuses : (cfg : Config) (W : World) (files : FileMap) (change : Change) (scope name : Text) (H : Graph) (a : Answer) (r : Refusal) → W.files ≡ Some files
    → LoadsFile cfg W change scope name H a → RefusesFile cfg W change scope name r → ⊥
loads_or_refuses cfg W files change scope name H a r told h k =
    let e : None ≡ Some r = sym h.good ∙ ap (λ bytes. file_refusal cfg W.graph change scope bytes) (same_bytes files W.files name h.bytes k.bytes told h.there k.there) ∙ k.refused in
    let t : ⊥ = cc in t

refuses_alike : (cfg : Config) (W : World) (files : FileMap) (change : Change) (scope name : Text) (r q : Refusal) → W.files ≡ Some files
    → RefusesFile cfg W change scope name r → RefusesFile cfg W change scope name q → r ≡ q
refuses_alike cfg W files change scope name r q told h k =
    let e : Some r ≡ Some q = sym h.refused ∙ ap (λ bytes. file_refusal cfg W.graph change scope bytes) (same_bytes files W.files name h.bytes k.bytes told h.there k.there) ∙ k.refused in
    cc

-- a world and an answer, twice
abbrev Same : World → Answer → World → Answer → Type 0
Same V a U b = (V ≡ U) × (a ≡ b)

same_if_carried : (cfg : Config) (W V U : World) (files : FileMap) (c : Command) (a b : Answer) (H : Graph) → cfg.sorted ≡ true → W.files ≡ Some files
    → refusal_of cfg W c ≡ None → Does cfg W c H a → V ≡ record W { graph = H } → Plain cfg W c U b → Same V a U b
same_if_carried cfg W V U files c a b H sorted told can does is (carried K could did was) =
    let h : Alike H a K b = does_alike cfg W files c H K a b sorted told does did in
    (is ∙ ap (λ G. record W { graph = G }) h.0 ∙ sym was, h.1)
same_if_carried cfg W V U files c a b H sorted told can does is (by_lines r found was b_is) = absurd (let e : None ≡ Some r = sym can ∙ found in let t : ⊥ = cc in t)
same_if_carried cfg W V U files c a b H sorted told can does is (by_file change scope name r c_is k was b_is) =
    absurd (loads_or_refuses cfg W files change scope name H a r told (subst (λ c. Does cfg W c H a) c_is does) k)

same_if_by_lines : (cfg : Config) (W V U : World) (files : FileMap) (c : Command) (a b : Answer) (r : Refusal) → refusal_of cfg W c ≡ Some r → V ≡ W
    → a ≡ Refused r → Plain cfg W c U b → Same V a U b
same_if_by_lines cfg W V U files c a b r found is a_is (carried K could did was) = absurd (let e : Some r ≡ None = sym found ∙ could in let t : ⊥ = cc in t)
same_if_by_lines cfg W V U files c a b r found is a_is (by_lines q also was b_is) =
    let e : Some r ≡ Some q = sym found ∙ also in
    let same : r ≡ q = cc in
    (is ∙ sym was, a_is ∙ ap (λ z. Refused z) same ∙ sym b_is)
same_if_by_lines cfg W V U files c a b r found is a_is (by_file change scope name q c_is k was b_is) =
    absurd (let e : Some r ≡ None = sym found ∙ ap (λ c. refusal_of cfg W c) c_is in let t : ⊥ = cc in t)

same_if_by_file : (cfg : Config) (W V U : World) (files : FileMap) (c : Command) (a b : Answer) (change : Change) (scope name : Text) (r : Refusal)
    → W.files ≡ Some files → c ≡ Single (File change scope name) → RefusesFile cfg W change scope name r → V ≡ W → a ≡ Refused r → Plain cfg W c U b → Same V a U b
same_if_by_file cfg W V U files c a b change scope name r told c_is h is a_is (carried K could did was) =
    absurd (loads_or_refuses cfg W files change scope name K b r told (subst (λ c. Does cfg W c K b) c_is did) h)
same_if_by_file cfg W V U files c a b change scope name r told c_is h is a_is (by_lines q also was b_is) =
    absurd (let e : Some q ≡ None = sym also ∙ ap (λ c. refusal_of cfg W c) c_is in let t : ⊥ = cc in t)
same_if_by_file cfg W V U files c a b change scope name r told c_is h is a_is (by_file change2 scope2 name2 q c_is2 k was b_is) =
    let e : Single (File change scope name) ≡ Single (File change2 scope2 name2) = sym c_is ∙ c_is2 in
    let of : (change ≡ change2) × (scope ≡ scope2) × (name ≡ name2) = (cc, cc, cc) in
    let there : RefusesFile cfg W change scope name q = subst (λ z. RefusesFile cfg W z scope name q) (sym of.0) (subst (λ z. RefusesFile cfg W change2 z name q) (sym of.1) (subst (λ z. RefusesFile cfg W change2 scope2 z q) (sym of.2) k)) in
    (is ∙ sym was, a_is ∙ ap (λ z. Refused z) (refuses_alike cfg W files change scope name r q told h there) ∙ sym b_is)

plain_alike : (cfg : Config) (W V U : World) (files : FileMap) (c : Command) (a b : Answer) → cfg.sorted ≡ true → W.files ≡ Some files
    → Plain cfg W c V a → Plain cfg W c U b → Same V a U b
plain_alike cfg W V U files c a b sorted told (carried H can does is) k = same_if_carried cfg W V U files c a b H sorted told can does is k
plain_alike cfg W V U files c a b sorted told (by_lines r found is a_is) k = same_if_by_lines cfg W V U files c a b r found is a_is k
plain_alike cfg W V U files c a b sorted told (by_file change scope name r c_is h is a_is) k = same_if_by_file cfg W V U files c a b change scope name r told c_is h is a_is k

-- no step changes a file
files_stay : (cfg : Config) (W V : World) (c : Command) (a : Answer) → Plain cfg W c V a → V.files ≡ W.files
files_stay cfg W V c a (carried H can does is) = ap (λ w. w.files) is
files_stay cfg W V c a (by_lines r found is a_is) = ap (λ w. w.files) is
files_stay cfg W V c a (by_file change scope name r c_is h is a_is) = ap (λ w. w.files) is

-- the first events of two runs, and what the rest begins with
record Firsts (cfg : Config) (files : FileMap) (W U : World) (e f : Event) (es fs : List Event) : Type 0 where
  pub told : e.world.files ≡ Some files
  pub run : Run cfg e.world fs U
  pub commands : commands_in es ≡ commands_in fs
  pub answer : e.answer ≡ f.answer

firsts : (cfg : Config) (files : FileMap) (W U : World) (e f : Event) (es fs : List Event) → cfg.sorted ≡ true → W.files ≡ Some files
    → Step cfg W e.command e.world e.answer e.failed → Step cfg W f.command f.world f.answer f.failed → Run cfg f.world fs U
    → commands_in (e ∷ es) ≡ commands_in (f ∷ fs) → IsUnhindered e → IsUnhindered f → Firsts cfg files W U e f es fs
firsts cfg files W U e f es fs sorted told h k run commands one other =
    record { told = files_stay cfg W e.world e.command e.answer first ∙ told; run = subst (λ w. Run cfg w fs U) (sym alike.0) run; commands = cc; answer = alike.1 } where
      first : Plain cfg W e.command e.world e.answer
      first = plain cfg W e.world e.command e.answer e.failed h one.memory one.reads

      second : Plain cfg W f.command f.world f.answer
      second = plain cfg W f.world f.command f.answer f.failed k other.memory other.reads

      same_command : f.command ≡ e.command
      same_command = cc

      alike : Same e.world e.answer f.world f.answer
      alike = plain_alike cfg W e.world f.world files e.command e.answer f.answer sorted told first (subst (λ c. Plain cfg W c f.world f.answer) same_command second)

texts_alike : (a b : Answer) (es fs : List Event) → a ≡ b → text_of es ≡ text_of fs → answer_text a ++ text_of es ≡ answer_text b ++ text_of fs
texts_alike a b es fs same rest = ap (λ a. answer_text a ++ text_of es) same ∙ ap (λ t. answer_text b ++ t) rest

pub sorted_runs_agree : SortedRunsAgree
sorted_runs_agree cfg files W V U [] [] sorted told h k commands one other = (refl, h ∙ sym k)
sorted_runs_agree cfg files W V U [] (f ∷ fs) sorted told h k commands one other = absurd (let t : ⊥ = cc in t)
sorted_runs_agree cfg files W V U (e ∷ es) [] sorted told h k commands one other = absurd (let t : ⊥ = cc in t)
sorted_runs_agree cfg files W V U (e ∷ es) (f ∷ fs) sorted told h k commands one other =
    let two : Firsts cfg files W U e f es fs = firsts cfg files W U e f es fs sorted told h.0 k.0 k.1 commands one.0 other.0 in
    let rest : (text_of es ≡ text_of fs) × (V ≡ U) = sorted_runs_agree cfg files e.world V U es fs sorted two.told h.1 two.run two.commands one.1 other.1 in
    (texts_alike e.answer f.answer es fs two.answer rest.0, rest.1)
