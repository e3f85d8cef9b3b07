use Rattle.std.proofs.Common.{◌≡◌, drop}
use Rattle.std.specs.List.{list_all}
use Rattle.query_grammar.specs.Texts.{is_sound}
use Rattle.query_read.proofs.sound.all_sound.Given as goal

abbrev pub invariant-loop-lexeme : goal.invariant-loop-lexeme
invariant-loop-lexeme l = list_all is_sound l.all ≡ list_all is_sound (drop l.lexeme-index l.all)
