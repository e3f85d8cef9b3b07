use Rattle.std.proofs.Common.{◌≡◌, drop}
use Rattle.std.specs.List.{list_all}
use Rattle.ntriples_model.specs.Characters.{is_letter_or_digit}
use Rattle.script_read.proofs.words.are_letters_or_digits.Given as goal

abbrev pub invariant-loop-byte : goal.invariant-loop-byte
invariant-loop-byte l = list_all is_letter_or_digit (drop l.byte-index l.fn.word) ≡ list_all is_letter_or_digit l.fn.word
