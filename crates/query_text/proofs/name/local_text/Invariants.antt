use Rattle.std.proofs.Common.{◌≡◌, ◌++◌, length, chars}
use denote.Text.{Utf8}
use denote.Shadow.{shadow}
use Rattle.query_grammar.specs.Texts.{local_text}
use Rattle.query_text.specs.Seen.{kept}
use Rattle.query_text.proofs.name.local_text.Given as goal

abbrev pub invariant-loop-c : goal.invariant-loop-c
invariant-loop-c l = shadow (Utf8 l.rest) × (local_text l.name ≡ l.text ++ kept (chars l.rest))

abbrev pub decreases-loop-c : goal.decreases-loop-c
decreases-loop-c l = length l.rest
