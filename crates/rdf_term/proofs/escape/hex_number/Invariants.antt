use Rattle.std.proofs.Common.{◌≡◌, ◌<◌, ◌^◌, take, true}
use Rattle.std.specs.List.{list_all}
use Rattle.ntriples_model.specs.Characters.{is_hex}
use Rattle.ntriples_model.specs.Terminals.{hex_number}
use Rattle.rdf_term.proofs.escape.hex_number.Given as goal

abbrev pub invariant-loop-digit : goal.invariant-loop-digit
invariant-loop-digit l =
    record {
      so_far : l.number ≡ hex_number (take l.digit-index l.digits);
      each : list_all is_hex (take l.digit-index l.digits) ≡ true;
      small : l.number < 16 ^ l.digit-index;
    }
