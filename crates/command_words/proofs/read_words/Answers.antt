use Rattle.std.proofs.Common.{◌≡◌, ◌∙◌, ℕ, map, Result, sym, ap, codes}
use Rattle.std.specs.declared.num.ParseIntError.{ParseIntError}
use Rattle.std.specs.Str.Parse.{ParsesUnsigned, ExplainsUnsignedError, HasUnsignedDigitsIfOk}
use Rattle.clap.specs.Walk.{Text, one_of}
use Rattle.clap.specs.Matches.{found_of, one_text}
use Rattle.clap.proofs.WalkLemmas.{one_text-rows}
use Rattle.command_words.specs.Words.{faults, rows}
use Rattle.command_words.specs.Answers.{accepts, answer_by, is_set, number_or}
use Rattle.command_words.proofs.OneFault.{faults_one}
use Rattle.command_words.proofs.Settled.{answers, flag_is_set, number_is_read}
use Rattle.command_words.proofs.read_words.Goals as goal

abbrev Gives : Text → Result ℕ ParseIntError → Type 0
Gives t r = ParsesUnsigned 64 10 t r × ExplainsUnsignedError 10 t r × HasUnsignedDigitsIfOk t r

pub returns-in-Err-clause-answer : goal.returns-in-Err-clause-answer
returns-in-Err-clause-answer g c =
    let words = map g.S.AsStr.text c.args.words.now in
    answers (faults words) (rows words) c.in-Err.error c.refusal.result (faults_one words) c.in-Err.ensures.kinds c.refusal.ensures

pub returns-in-Ok-clause-answer : goal.returns-in-Ok-clause-answer
returns-in-Ok-clause-answer g c =
    let words = map g.S.AsStr.text c.args.words.now in
    let f = found_of c.in-Ok.matches in
    let values = c.in-Ok.ensures.values in
    let same : (id : Text) → one_text f id ≡ one_of id (rows words) = λ id. one_text-rows f id ∙ ap (one_of id) c.in-Ok.ensures.matches in
    let sort : is_set (one_of (codes "sort") (rows words)) ≡ c.get_flag.result =
    sym (flag_is_set (one_text f (codes "sort")) c.get_flag.result c.get_flag.ensures.none c.get_flag.ensures.value c.get_flag.ensures.other values.0 ∙ ap is_set (same (codes "sort"))) in
    let triples : number_or 10000000 (one_of (codes "max-triples") (rows words)) ≡ c.unwrap_or.result =
    sym (c.unwrap_or.ensures ∙ (number_is_read _ Gives (one_text f (codes "max-triples")) c.get_one.result 1 500000000 10000000 c.get_one.ensures.none c.get_one.ensures.value (λ t x g. g.0) values.1
    ∙ ap (number_or 10000000) (same (codes "max-triples")))) in
    let bytes : number_or 1099511627776 (one_of (codes "max-bytes") (rows words)) ≡ c.unwrap_or-in-Ok.result =
    sym (c.unwrap_or-in-Ok.ensures ∙ (number_is_read _ Gives (one_text f (codes "max-bytes")) c.get_one-in-Ok.result 1 1099511627776 1099511627776 c.get_one-in-Ok.ensures.none
    c.get_one-in-Ok.ensures.value (λ t x g. g.0) values.2 ∙ ap (number_or 1099511627776) (same (codes "max-bytes")))) in
    ap (λ ks. answer_by ks (rows words)) c.in-Ok.ensures.kinds ∙ (λ i. accepts (record { sort = sort i; max_triples = triples i; max_bytes = bytes i }))
