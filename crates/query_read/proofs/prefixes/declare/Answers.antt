use Rattle.std.proofs.Common.{◌≡◌, ◌∙◌, List, ℕ, Some, ap, sym, drop, arith}
use Rattle.std.specs.Prelude.{string_bytes, is_some}
use Rattle.std.specs.BTreeMap.{get_by_text}
use Rattle.std.proofs.lemmas.Map.Text.{btree_map_updates_text}
use Rattle.query_grammar.specs.Lexemes.{Lexeme}
use Rattle.query_grammar.specs.Meaning.{is_sign}
use Rattle.query_grammar.specs.Signs.{Prefix, sign_of}
use Rattle.query_grammar.specs.Texts.{or_before, iri_text}
use Rattle.query_read.specs.Reads.{declared_first}
use Rattle.query_read.proofs.PrefixesRead.{declares, three_there, prefix_same}
use Rattle.query_read.proofs.prefixes.declare.Goals as goal

pub returns : goal.returns
returns c = λ name.
    let key : string_bytes c.in_ok-from_str.field-0 ≡ c.name-item.result.text = cc (c.in_ok-from_str.ensures.ok, c.text-3.ensures) in
    let split = three_there c.args.all.now c.prefix-item.result c.name-item.result c.iri-item.result (omega arith) c.prefix-item.is c.name-item.is c.iri-item.is in
    btree_map_updates_text (string_bytes c.in_ok-from_str.field-0) c.args.iris.now c.insert.new.self (Some c.in-Some.iri) c.in_ok-insert.ensures.updates name
    ∙ declares (get_by_text c.args.iris.now) (string_bytes c.in_ok-from_str.field-0) c.in-Some.iri name c.prefix-item.result c.name-item.result c.iri-item.result (drop 3 c.args.all.now) key
    (ap (λ (k : List ℕ). is_some (get_by_text c.args.iris.now k)) (key ∙ sym c.text.ensures) ∙ sym c.contains_key.ensures ∙ c.if-contains_key.false)
    (prefix_same (sign_of c.prefix-item.result) (ap (λ s. is_sign s Prefix) (sym c.sign.ensures) ∙ sym c.is.ensures ∙ c.if-not-is.false))
    (sym c.in-Some.is ∙ c.in_ok-iri.ensures ∙ ap iri_text c.text-2.ensures)
    ∙ ap (λ (ls : List Lexeme). or_before (get_by_text c.args.iris.now name) (declared_first name ls)) (sym split)
