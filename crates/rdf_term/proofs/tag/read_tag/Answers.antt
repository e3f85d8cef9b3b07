use Rattle.std.proofs.Common.{◌∙◌, ℕ, ◌≤◌, length, take, sym, ap, subst, refl, arith, Option}
use Rattle.ntriples_model.specs.Terminals.{tag_at}
use Rattle.rdf_term.specs.Read.{Reads}
use Rattle.rdf_term.specs.Room.{room_of}
use Rattle.std.specs.Char.{encode_utf8}
use Rattle.std.proofs.lemmas.List.{length-take}
use Rattle.rdf_term.proofs.TagLemmas.{no_tag, empty_tag, no_letters, letter_room, letter_more, tag_read, letters_ascii}
use Rattle.rdf_term.proofs.tag.read_tag.Goals as goal

pub returns-in_err-tag : goal.returns-in_err-tag
returns-in_err-tag c =
    subst (λ (r : Option ℕ). Reads (tag_at c.args.bytes.now) c.args.bytes.now c.args.to.now c.args.to.now r) (sym c.from_residual.ensures) (no_tag c.args.bytes.now c.in_err-tag.ensures, refl)

pub returns-then-size-eq0 : goal.returns-then-size-eq0
returns-then-size-eq0 c = (empty_tag _ _ c.tag_len-size.result c.in_ok-tag.ensures c.if-size-eq0.true c.tag_len-size.ensures.tag, refl)

pub loop-b-init : goal.loop-b-init
loop-b-init c =
    let short : length (take c.tag_len-size.result c.in_ok-tag.tag.now) ≤ room_of c.args.to.now =
    omega (arith, length-take c.tag_len-size.result c.in_ok-tag.tag.now, ap length c.in_ok-tag.ensures, c.requires.room) in
    no_letters c.args.to.now _ _ c.add.ensures short

pub join-requires-clause-room : goal.join-requires-clause-room
join-requires-clause-room c =
    let ascii = letters_ascii _ c.in_ok-tag.tag.now c.tag_len-size.result refl c.tag_len-size.ensures.tag in
    let piece = c.encode_utf8.ensures.value ∙ ap encode_utf8 (c.from.ensures ∙ c.to_ascii_lowercase.ensures.value) in
    omega (arith, letter_room _ _ _ c.loop-b.b-index c.loop-b.invariant ascii c.loop-b-test.true, ap length piece)

pub loop-b-preserved : goal.loop-b-preserved
loop-b-preserved c =
    let ascii = letters_ascii _ c.in_ok-tag.tag.now c.tag_len-size.result refl c.tag_len-size.ensures.tag in
    let piece = c.encode_utf8.ensures.value ∙ ap encode_utf8 (c.from.ensures ∙ c.to_ascii_lowercase.ensures.value) in
    letter_more _ _ _ _ _ c.loop-b.b-index c.loop-b.invariant ascii c.loop-b-test.true piece c.join.ensures

pub returns : goal.returns
returns c =
    tag_read _ _ _ c.tag_len-size.result c.loop-b.b-index _ _ _ c.in_ok-tag.ensures c.if-size-eq0.false c.tag_len-size.ensures.within c.tag_len-size.ensures.tag refl c.add.ensures c.loop-b.invariant (omega arith)
