-- The command line, as clap reads it: which words are accepted, and what they say.
use Rattle.std.specs.Prelude.{false, true, List, [], ◌∷◌, Some, codes, IfSome}
use Rattle.clap.specs.Walk.{Row, Rule, Text}
use Rattle.clap.specs.Simple.{App, matches_of, new_app, new_rule, on_top, with_rule}
use Rattle.clap.specs.Faults.{fault_of}
use Rattle.clap.specs.Kinds.{Kinds}
use Rattle.clap.specs.declared.error.kind.ErrorKind.{ErrorKind}
use Rattle.clap.specs.Values.{Accepts}
use Rattle.clap.specs.Matches.{found_of, one_text}
use Rattle.clap.specs.declared.parser.matches.ArgMatches.{ArgMatches}
use Rattle.clap.specs.declared.builder.action.ArgAction.TheVariants.{SetTrue}
use Rattle.clap.specs.declared.builder.value_parser.ValueParser.{ValueParser}
use Rattle.clap.specs.declared.builder.value_parser.ValueParser.TheVariants as vp

-- a number of triples, and a number of bytes
abbrev pub triples_parser : ValueParser
triples_parser = vp.Unsigned 1 500000000

abbrev pub bytes_parser : ValueParser
bytes_parser = vp.Unsigned 1 1099511627776

-- `--sort`
abbrev pub sort_rule : Rule
sort_rule = record (new_rule (codes "sort")) {
  long = Some (codes "sort");
  action = Some SetTrue;
  parser = Some vp.Bool;
}

-- `--max-triples N`
abbrev pub max_triples_rule : Rule
max_triples_rule = record (new_rule (codes "max-triples")) {
  long = Some (codes "max-triples");
  value_names = 1;
  parser = Some triples_parser;
}

-- `--max-bytes N`
abbrev pub max_bytes_rule : Rule
max_bytes_rule = record (new_rule (codes "max-bytes")) {
  long = Some (codes "max-bytes");
  value_names = 1;
  parser = Some bytes_parser;
}

-- the program, whose name isn't among its words
abbrev pub program : App
program = on_top (λ s. record s { no_binary_name = true }) (new_app (codes "tentris"))

-- a flag, two options, and the help flag that clap adds
abbrev pub command : App
command = with_rule (with_rule (with_rule program sort_rule) max_triples_rule) max_bytes_rule

-- the kinds of fault that clap has for the words: none where it accepts them, else the kind of the
-- first fault
abbrev pub faults : List Text → Kinds
faults words = fault_of command words

-- no kind, or one
pub data HasAtMostOne : Kinds → Type 0 where
  none : HasAtMostOne []
  one : (k : ErrorKind) → HasAtMostOne (k ∷ [])

-- what clap finds in words that it accepts
abbrev pub rows : List Text → List Row
rows words = matches_of command words

-- what is read of each argument passed that argument's parser
abbrev pub HasReadableValues : ArgMatches → Type 0
HasReadableValues m = IfSome (one_text (found_of m) (codes "sort")) (Accepts false vp.Bool)
    × IfSome (one_text (found_of m) (codes "max-triples")) (Accepts false triples_parser)
    × IfSome (one_text (found_of m) (codes "max-bytes")) (Accepts false bytes_parser)
