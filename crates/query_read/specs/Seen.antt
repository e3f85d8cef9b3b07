-- What the reader keeps, as the definitions have it.
use Rattle.std.specs.Prelude.{Bool, true, false, List, [], ◌∷◌, map, Option, Some, None}
use Rattle.query_grammar.specs.Block as model
use Rattle.query_grammar.specs.BlockFront as front
use Rattle.query_grammar.specs.Meaning as meaning
use Rattle.query_read.specs.declared.role.Role.{Role}
use Rattle.query_read.specs.declared.role.Role.TheVariants as role
use Rattle.query_read.specs.declared.block.Triple.{Triple}
use Rattle.query_read.specs.declared.brackets.Frame.{Frame}
use Rattle.query_read.specs.declared.brackets.Frame.TheVariants as frame
use Rattle.query_read.specs.declared.block.Expect.{Expect}
use Rattle.query_read.specs.declared.block.Expect.TheVariants as expect
use Rattle.query_read.specs.declared.block.Next.{Next}
use Rattle.query_read.specs.declared.name.Name.{Name}
use Rattle.query_read.specs.declared.name.Name.TheVariants as name

abbrev pub role_seen : Role → model.Role
role_seen role.Term = model.Term
role_seen role.Name = model.Name
role_seen role.Variable = model.Variable
role_seen role.TypeOf = model.TypeOf
role_seen role.Text = model.Text
role_seen role.LangTag = model.LangTag
role_seen role.Carets = model.Carets
role_seen role.Open = model.Open
role_seen role.Close = model.Close
role_seen role.Stop = model.Stop
role_seen role.Comma = model.Comma
role_seen role.Semicolon = model.Semicolon
role_seen role.Other = model.Other

abbrev pub triple_seen : Triple → model.Triple
triple_seen t = record { s = t.s; p = t.p; o = t.o }

abbrev pub triples_seen : List Triple → List model.Triple
triples_seen triples = map triple_seen triples

abbrev pub frame_seen : Frame → front.Frame
frame_seen (frame.Subject i) = front.Subject i
frame_seen (frame.Object s v i) = front.Object s v i

abbrev pub nothing_open : List front.Frame → Bool
nothing_open [] = true
nothing_open (frame ∷ frames) = false

abbrev pub expect_seen : Expect → front.Expect
expect_seen expect.Statement = front.Statement
expect_seen (expect.Bracket i) = front.Bracket i
expect_seen (expect.Verb s) = front.Verb s
expect_seen (expect.TextSubject s) = front.TextSubject s
expect_seen (expect.DatatypeSubject s) = front.DatatypeSubject s
expect_seen (expect.ObjectOf s v) = front.ObjectOf s v
expect_seen (expect.Behind s v) = front.Behind s v
expect_seen (expect.TextObject s v) = front.TextObject s v
expect_seen (expect.DatatypeObject s v) = front.DatatypeObject s v
expect_seen (expect.Semi s) = front.Semi s
expect_seen (expect.BehindSubject s) = front.BehindSubject s

abbrev pub ended_seen : Option Triple → List model.Triple
ended_seen None = []
ended_seen (Some t) = triple_seen t ∷ []

-- what comes next, with the brackets that are then open
abbrev pub next_seen : Option Next → List front.Frame → Option front.Next
next_seen None stack = None
next_seen (Some n) stack = Some (record { expect = expect_seen n.expect; stack = stack; ended = ended_seen n.ended })

abbrev pub name_seen : Name → meaning.Name
name_seen (name.Variable text) = meaning.VariableName text.now
name_seen (name.Label text) = meaning.LabelName text.now
name_seen (name.Fresh i) = meaning.Fresh i

abbrev pub name_seen_in : Option Name → Option meaning.Name
name_seen_in None = None
name_seen_in (Some n) = Some (name_seen n)

abbrev pub names_seen : List Name → List meaning.Name
names_seen names = map name_seen names
