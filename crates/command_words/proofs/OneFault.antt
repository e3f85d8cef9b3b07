-- A command without subcommands has at most one kind of fault for the words.
use Rattle.std.proofs.Common.{◌≡◌, ℕ, Bool, cond, true, false, zero, suc, List, [], ◌∷◌, Option, Some, None, is_some, refl}
use Rattle.std.specs.Option.{option_map_or}
use Rattle.std.specs.Prelude.{◌+◌, ◌==◌, ◌&&◌, ◌||◌, not, nat_lt, min, drop, length, encode_utf8, slice_get}
use Rattle.std.specs.Str.{bytes_eq, chars}
use Rattle.clap.specs.Matches.{count_text}
use Rattle.clap.specs.Facts.{unwrap_or_range, parser_of_value}
use Rattle.command_words.specs.Words.{HasAtMostOne, none, one, command, faults}
use Rattle.clap.specs.Kinds.{Kinds, or_else, value_kinds, values_kinds, range_kinds, request_kinds, check_kinds}
use Rattle.clap.specs.Values.{refused_kind}
use Rattle.clap.specs.ValueTests.{accepts}
use Rattle.clap.specs.Faults.{set_fault, action_fault, use_fault, settle_fault, react_fault, option_fault, long_fault, short_fault, bundle_step_fault, flags_fault, flag_word_fault, other_fault, word_fault, step_fault, turn_fault, walk_fault, default_fault, defaults_fault, level_fault, built_fault}
use Rattle.clap.specs.Lexer.{long_of, short_of}
use Rattle.clap.specs.Simple.{Shape, argument_words, built}
use Rattle.clap.specs.Walk.{Held, Row, Rule, Step, Text, Waiting, Walk, action_of, arg_by_id, arg_by_index, arg_by_long, arg_by_short, attached_value, has_row, is_empty, is_pending, most_values, reacted, settled, takes_several, takes_values, values_or_missing, walk, walk_from, walked, with_default, word_met, count_of, nothing_held}
use Rattle.clap.specs.Walk.{next, trailing, subcommand, value, idle, option, positional}
use Rattle.clap.specs.declared.builder.action.ArgAction.{ArgAction}
use Rattle.clap.specs.declared.builder.action.ArgAction.TheVariants as action
use Rattle.clap.specs.declared.builder.value_parser.ValueParser.{ValueParser}
use Rattle.clap.specs.declared.error.kind.ErrorKind.{ErrorKind}
use Rattle.clap.specs.declared.error.kind.ErrorKind.TheVariants as kind

-- ---- the forms that faults are put together by

then : {a b : Kinds} → HasAtMostOne a → HasAtMostOne b → HasAtMostOne (or_else a b)
then none i = i
then (one k) i = one k

either : (b : Bool) {x y : Kinds} → HasAtMostOne x → HasAtMostOne y → HasAtMostOne (cond b x y)
either true h i = h
either false h i = i

-- nothing, or one kind
unless : (b : Bool) (k : ErrorKind) → HasAtMostOne (cond b [] (k ∷ []))
unless b k = either b none (one k)

if_any : {X : Type 0} (o : Option X) {f : X → Kinds} {d : Kinds} → ((x : X) → HasAtMostOne (f x)) → HasAtMostOne d → HasAtMostOne (option_map_or f o d)
if_any None h i = i
if_any (Some x) h i = h x

-- ---- one use of an argument

value_one : (i : Bool) (p : ValueParser) (t : Text) → HasAtMostOne (value_kinds i p t)
value_one i p t = unless (accepts i p t) (refused_kind p)

values_one : (i : Bool) (p : ValueParser) (ts : List Text) → HasAtMostOne (values_kinds i p ts)
values_one i p [] = none
values_one i p (t ∷ ts) = then (value_one i p t) (values_one i p ts)

range_one : (least most n : ℕ) → HasAtMostOne (range_kinds least most n)
range_one least most n =
    either (nat_lt 0 least && n == 0) (one kind.InvalidValue)
    (either (least == most) (unless (least == n) kind.WrongNumberOfValues)
    (either (nat_lt n least) (one kind.TooFewValues)
    (either (nat_lt most n) (one kind.TooManyValues) none)))

set_one : (again : Bool) (a : Rule) (values : List Text) (rows : List Row) → HasAtMostOne (set_fault again a values rows)
set_one again a values rows =
    then (either (has_row a.id rows && not again) (one kind.ArgumentConflict) none) (values_one a.ignore_case (parser_of_value a.parser) values)

action_one : (x : ArgAction) (again : Bool) (a : Rule) (values : List Text) (rows : List Row) → HasAtMostOne (action_fault x again a values rows)
action_one action.Set again a values rows = set_one again a values rows
action_one action.SetTrue again a values rows = set_one again a values rows
action_one action.SetFalse again a values rows = set_one again a values rows
action_one action.Append again a values rows = values_one a.ignore_case (parser_of_value a.parser) values
action_one action.Count again a [] rows = value_one a.ignore_case (parser_of_value a.parser) (count_text (min (count_of a.id rows + 1) 255))
action_one action.Count again a (v ∷ vs) rows = values_one a.ignore_case (parser_of_value a.parser) (v ∷ vs)
action_one action.Help again a values rows = one kind.DisplayHelp
action_one action.HelpShort again a values rows = one kind.DisplayHelp
action_one action.HelpLong again a values rows = one kind.DisplayHelp
action_one action.Version again a values rows = one kind.DisplayVersion

use_one : (again : Bool) (a : Rule) (values : List Text) (rows : List Row) → HasAtMostOne (use_fault again a values rows)
use_one again a values rows =
    then (range_one (unwrap_or_range a.range).start_inclusive (most_values a) (length values)) (action_one (action_of a) again a (values_or_missing a values) rows)

-- ---- one word

settle_one : (c : List Rule) (again : Bool) (h : Held) → HasAtMostOne (settle_fault c again h)
settle_one c again h = if_any h.pending (λ p. if_any (arg_by_id c p.0) (λ a. use_one again a p.1 h.rows) none) none

react_one : (c : List Rule) (again : Bool) (a : Rule) (values : List Text) (h : Held) → HasAtMostOne (react_fault c again a values h)
react_one c again a values h = then (settle_one c again h) (use_one again a values (settled c h).rows)

option_one : (c : List Rule) (again : Bool) (a : Rule) (v : Option Text) (h : Held) → HasAtMostOne (option_fault c again a v h)
option_one c again a (Some v) h = react_one c again a (v ∷ []) h
option_one c again a None h = settle_one c again h

long_one : (c : List Rule) (again : Bool) (found : Option Rule) (v : Option Text) (h : Held) → HasAtMostOne (long_fault c again found v h)
long_one c again None v h = one kind.UnknownArgument
long_one c again (Some a) v h =
    either (takes_values a) (option_one c again a v h) (either (is_some v) (one kind.TooManyValues) (react_one c again a [] h))

short_one : (c : List Rule) (again : Bool) (found : Option Rule) (rest : Text) (h : Held) (more : Held → Kinds) → ((k : Held) → HasAtMostOne (more k))
    → HasAtMostOne (short_fault c again found rest h more)
short_one c again None rest h more rest_one = one kind.UnknownArgument
short_one c again (Some a) rest h more rest_one =
    either (takes_values a) (option_one c again a (attached_value rest) h) (then (react_one c again a [] h) (rest_one (reacted c a [] h)))

bundle_step_one : (c : List Rule) (again : Bool) (first : Option ℕ) (flags : Text) (skip : ℕ) (h : Held) (more : Text → ℕ → Held → Kinds)
    → ((t : Text) (n : ℕ) (k : Held) → HasAtMostOne (more t n k)) → HasAtMostOne (bundle_step_fault c again first flags skip h more)
bundle_step_one c again None flags skip h more rest_one = none
bundle_step_one c again (Some x) flags zero h more rest_one =
    let rest = drop (length (encode_utf8 x)) flags in
    short_one c again (arg_by_short c x) rest h (more rest 0) (rest_one rest 0)
bundle_step_one c again (Some x) flags (suc skip) h more rest_one = rest_one (drop (length (encode_utf8 x)) flags) skip h

flags_one : (c : List Rule) (again : Bool) (k : ℕ) (flags : Text) (skip : ℕ) (h : Held) → HasAtMostOne (flags_fault c again k flags skip h)
unfolding flags_fault
flags_one c again zero flags skip h = none
flags_one c again (suc k) flags skip h = bundle_step_one c again (slice_get (chars flags) 0) flags skip h (flags_fault c again k) (flags_one c again k)

flag_word_one : (c : List Rule) (again : Bool) (long : Option (Text × Option Text)) (word : Text) (h : Held) → HasAtMostOne (flag_word_fault c again long word h)
flag_word_one c again (Some p) word h = long_one c again (arg_by_long c p.0) p.1 h
flag_word_one c again None word h = if_any (short_of word) (λ flags. flags_one c again (length flags) flags h.skip (record h { skip = 0 })) none

-- no word names a subcommand where there is none
word_one : (s : Shape) (is_trailing : Bool) (waiting : Waiting) (word : Text) (h : Held) → HasAtMostOne (word_fault s [] is_trailing waiting word h)
word_one s is_trailing waiting word h = go waiting
  where
    flag : HasAtMostOne (other_fault s None word h)
    flag = either (bytes_eq word (45 ∷ 45 ∷ [])) none (flag_word_one s.rules s.args_override_self (long_of word) word h)

    go : (w : Waiting) → HasAtMostOne (word_fault s [] is_trailing w word h)
    go idle = either is_trailing none flag
    go (option id) = either is_trailing none flag
    go positional = either is_trailing none flag

-- ---- the words of a command without subcommands, and what comes after them

request_one : (x : ArgAction) → HasAtMostOne (request_kinds x)
request_one action.Set = none
request_one action.SetTrue = none
request_one action.SetFalse = none
request_one action.Append = none
request_one action.Count = none
request_one action.Help = one kind.DisplayHelp
request_one action.HelpShort = one kind.DisplayHelp
request_one action.HelpLong = one kind.DisplayHelp
request_one action.Version = one kind.DisplayVersion

module _ (s : Shape) (leaf : s.is_leaf ≡ true) where
  step_one : (position : ℕ) (h : Held) (step : Step) → HasAtMostOne (step_fault s position h step)
  step_one position h (next waiting) = none
  step_one position h (trailing n) = none
  step_one position h (subcommand name) = none
  step_one position h value =
      if_any (arg_by_index s.rules position) (λ a. either (is_pending a h.pending && takes_several a) none (settle_one s.rules s.args_override_self h))
      (rw leaf (one kind.UnknownArgument))

  turn_one : (w : Walk) (word : Text) → HasAtMostOne (turn_fault s [] w word)
  turn_one w word =
      let met = word_met s.rules [] w.is_trailing w.waiting w.position word w.held in
      either (is_some w.stopped) none (then (word_one s w.is_trailing w.waiting word w.held) (step_one w.position met.0 met.1))

  walk_one : (w : Walk) (words : List Text) → HasAtMostOne (walk_fault s [] w words)
  unfolding walk_fault
  walk_one w [] = none
  walk_one w (word ∷ rest) = then (turn_one w word) (walk_one (walked s.rules [] w word) rest)

  default_one : (rows : List Row) (a : Rule) → HasAtMostOne (default_fault rows a)
  default_one rows a =
      either (has_row a.id rows || is_empty a.defaults) none
      (then (request_one (action_of a)) (values_one a.ignore_case (parser_of_value a.parser) a.defaults))

  defaults_one : (rows : List Row) (rules : List Rule) → HasAtMostOne (defaults_fault rows rules)
  unfolding defaults_fault
  defaults_one rows [] = none
  defaults_one rows (a ∷ rest) = then (default_one rows a) (defaults_one (with_default rows a) rest)

  check_one : (wants_help wants_subcommand wants_argument : Bool) → HasAtMostOne (check_kinds wants_help wants_subcommand wants_argument)
  check_one wants_help wants_subcommand wants_argument =
      either wants_help (one kind.DisplayHelpOnMissingArgumentOrSubcommand)
      (either wants_subcommand (one kind.MissingSubcommand) (either wants_argument (one kind.MissingRequiredArgument) none))

  level_one : (h : Held) (words : List Text) (has_subcommand : Bool) (below : Kinds) → HasAtMostOne below
      → HasAtMostOne (level_fault s [] h words has_subcommand below)
  level_one h words has_subcommand below below_one =
      let end = (walk s.rules [] h words).held in
      then (walk_one (walk_from h) words)
      (then below_one (then (settle_one s.rules s.args_override_self end)
      (then (defaults_one (settled s.rules end).rows s.rules) (check_one _ _ _))))

-- a built command without subcommands has at most one kind of fault for the words
pub one_fault : (s : Shape) (h : Held) (words : List Text) → s.is_leaf ≡ true → HasAtMostOne (built_fault (record { top = s; subs = [] }) h words)
one_fault s h words leaf =
    level_one s leaf h words _ _ (if_any (walk s.rules [] h words).stopped (λ p. none) none)

pub faults_one : (words : List Text) → HasAtMostOne (faults words)
faults_one words = one_fault (built command).top nothing_held (argument_words command words) refl
