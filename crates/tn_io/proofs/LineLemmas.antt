-- What bytes do to the lines that a cutter has yet to tell.
use Rattle.std.proofs.Common.{◌≡◌, ◌∙◌, ℕ, zero, suc, ◌+◌, ◌-◌, ◌<◌, ◌≤◌, Bool, List, [], ◌∷◌, ◌++◌, length, refl, sym, ap, subst, arith, length-append, length-take, length-drop, append-nil, append_assoc, true, false, cond, take, drop, ◌⊎◌, inl, inr, ◌&&◌, nat_le}
use Rattle.std.specs.Prelude.{Option, Some, None, is_some, unwrap_or, ◌==◌, if◌then◌else◌, slice_index}
use Rattle.memchr.specs.Find.{IsFirstByte, is_byte2}
use Rattle.std.specs.List.{list_any}
use Rattle.std.proofs.lemmas.Bool.{cases_lt}
use Rattle.std.proofs.lemmas.Bool.Decides.{nat_tests}
use Rattle.std.proofs.lemmas.List.{take_all}
use Rattle.std.proofs.Math.Seq.{take-add}
use Rattle.text_lines.specs.Lines.{Cuts, Ended, Last, Line, front, before, cuts_after, line_of, is_end, longest, all_lines, whole_lines}
use Rattle.text_lines.specs.Laws.{HasNoEnd}
use Rattle.text_lines.proofs.LineLaws.{or_left, or_right, cuts_after-line}
use Rattle.tn_io.specs.declared.cutter.Cut.{Cut}
use Rattle.tn_io.specs.declared.cutter.Cut.TheVariants.{Whole, TooLong}
use Rattle.tn_io.specs.CutterState.{State, without_first, cuts_left, to_come, whole_to_come, told, Takes}

before_ended : (xs l : List ℕ) (cuts : Cuts) → before xs (Ended l cuts) ≡ Ended (xs ++ l) cuts
before_ended [] l cuts = refl
before_ended (x ∷ xs) l cuts = ap (front x) (before_ended xs l cuts)

before_last : (xs o : List ℕ) → before xs (Last o) ≡ Last (xs ++ o)
before_last [] o = refl
before_last (x ∷ xs) o = ap (front x) (before_last xs o)

line_of_short : (xs : List ℕ) → length xs ≤ longest → line_of xs ≡ Some xs
line_of_short xs h = grind (arith, nat_tests)

line_of_long : (xs : List ℕ) → longest < length xs → line_of xs ≡ None
line_of_long xs h = grind (arith, nat_tests)

last_short : (xs : List ℕ) → 0 < length xs → length xs ≤ longest → all_lines (Last xs) ≡ Some xs ∷ []
last_short [] p h = absurd (omega arith)
last_short (x ∷ xs) p h = ap (λ l. l ∷ []) (line_of_short (x ∷ xs) h)

last_long : (xs : List ℕ) → longest < length xs → all_lines (Last xs) ≡ None ∷ []
last_long [] h = absurd (omega arith)
last_long (x ∷ xs) h = ap (λ l. l ∷ []) (line_of_long (x ∷ xs) h)

whole_last_short : (xs : List ℕ) → length xs ≤ longest → whole_lines (Last xs) ≡ []
whole_last_short xs h = let e : nat_le (length xs) longest ≡ true = grind (arith, nat_tests) in rw e refl

whole_last_long : (xs : List ℕ) → longest < length xs → whole_lines (Last xs) ≡ None ∷ []
whole_last_long xs h = let e : nat_le (length xs) longest ≡ false = grind (arith, nat_tests) in rw e refl

-- no whole line is left where a text ends
pub no_whole_left : (s : State) → length s.line ≤ longest → whole_to_come s [] ≡ []
no_whole_left s short =
    elim s.told as (λ t. whole_lines (if t then Last [] else before (if s.ended then [] else s.line) (Last [])) ≡ []) [
      | true ↦ refl
      | false ↦ elim s.ended as (λ e. whole_lines (before (if e then [] else s.line) (Last [])) ≡ []) [
        | true ↦ refl
        | false ↦ ap whole_lines (before_last s.line [] ∙ ap Last (append-nil s.line)) ∙ whole_last_short s.line short
      ]
    ]

-- one line of cuts is told: the lines and the whole lines lose the same first one
pub record TellsFirst (cuts : Cuts) (line : Line) (more : Cuts) : Type 0 where
  pub lines : all_lines cuts ≡ line ∷ all_lines more
  pub whole : whole_lines cuts ≡ line ∷ whole_lines more

before-append : (xs ys : List ℕ) (cuts : Cuts) → before (xs ++ ys) cuts ≡ before xs (before ys cuts)
before-append [] ys cuts = refl
before-append (x ∷ xs) ys cuts = ap (front x) (before-append xs ys cuts)

without_first-front : (b : ℕ) (cuts : Cuts) → without_first (front b cuts) ≡ without_first cuts
without_first-front b (Ended l cuts) = refl
without_first-front b (Last o) = refl

without_first-before : (xs : List ℕ) (cuts : Cuts) → without_first (before xs cuts) ≡ without_first cuts
without_first-before [] cuts = refl
without_first-before (x ∷ xs) cuts = without_first-front x (before xs cuts) ∙ without_first-before xs cuts

-- a line that is too long already, however it goes on
too_long : (xs : List ℕ) (cuts : Cuts) → longest < length xs → TellsFirst (before xs cuts) None (without_first cuts)
too_long xs (Ended l cuts) h =
    let long : longest < length (xs ++ l) = omega (arith, length-append xs l) in record {
      lines = ap all_lines (before_ended xs l cuts) ∙ ap (λ z. z ∷ all_lines cuts) (line_of_long (xs ++ l) long);
      whole = ap whole_lines (before_ended xs l cuts) ∙ ap (λ z. z ∷ whole_lines cuts) (line_of_long (xs ++ l) long);
    }
too_long xs (Last o) h =
    let long : longest < length (xs ++ o) = omega (arith, length-append xs o) in record {
      lines = ap all_lines (before_last xs o) ∙ last_long (xs ++ o) long;
      whole = ap whole_lines (before_last xs o) ∙ whole_last_long (xs ++ o) long;
    }

short_line : (line : List ℕ) (cuts : Cuts) → length line ≤ longest → TellsFirst (before line (Ended [] cuts)) (Some line) cuts
short_line line cuts h =
    let e : before line (Ended [] cuts) ≡ Ended line cuts = before_ended line [] cuts ∙ ap (λ l. Ended l cuts) (append-nil line) in record {
      lines = ap all_lines e ∙ ap (λ z. z ∷ all_lines cuts) (line_of_short line h);
      whole = ap whole_lines e ∙ ap (λ z. z ∷ whole_lines cuts) (line_of_short line h);
    }

-- the one front of a byte before it
one_earlier : (s : State) (b : ℕ) → length s.line ≤ longest → (k : ℕ) → k < 1 → whole_to_come s (take k (b ∷ [])) ≡ []
one_earlier s b short k h = let e : k ≡ 0 = omega arith in rw e (no_whole_left s short)

-- an LF right behind a CR
pub end_of_cr_lf : (s : State) (b : ℕ) (cr : Bool) → length s.line ≤ longest → b ≡ 10 → s.cr ≡ true → cr ≡ false → Takes s (b ∷ []) 1 None (record s { cr = cr })
end_of_cr_lf s b cr short lf behind none =
    let cuts : (rest : List ℕ) → cuts_left s (b ∷ rest) ≡ cuts_left (record s { cr = cr }) rest = λ rest. rw (lf, behind, none) refl in
    record {
      lines = λ rest. ap all_lines (cuts rest);
      whole = λ rest. ap whole_lines (cuts rest);
      none_earlier = one_earlier s b short;
      none_left = no_whole_left (record s { cr = cr }) short;
    }

-- the end of a line that was told
pub end_of_told : (s : State) (b : ℕ) (line : List ℕ) → length s.line ≤ longest → s.ended ≡ false → s.told ≡ true → is_end b ≡ true → (s.cr && (b == 10)) ≡ false → line ≡ []
    → Takes s (b ∷ []) 1 None (record { line = line; cr = (b == 13); told = false; ended = s.ended })
end_of_told s b line short begun told ends behind empty =
    let new : State = record { line = line; cr = (b == 13); told = false; ended = s.ended } in
    let cuts : (rest : List ℕ) → cuts_left s (b ∷ rest) ≡ cuts_left new rest = λ rest. rw (told, ends, behind, begun, empty) refl in
    record {
      lines = λ rest. ap all_lines (cuts rest);
      whole = λ rest. ap whole_lines (cuts rest);
      none_earlier = one_earlier s b short;
      none_left = no_whole_left new (omega (arith, ap length empty));
    }

-- the end of a line
pub end_of_line : (s : State) (b : ℕ) → length s.line ≤ longest → s.ended ≡ false → s.told ≡ false → is_end b ≡ true → (s.cr && (b == 10)) ≡ false
    → Takes s (b ∷ []) 1 (Some Whole) (record { line = s.line; cr = (b == 13); told = s.told; ended = true })
end_of_line s b short begun told ends behind =
    let new : State = record { line = s.line; cr = (b == 13); told = s.told; ended = true } in
    let first : (rest : List ℕ) → TellsFirst (cuts_left s (b ∷ rest)) (Some s.line) (cuts_left new rest) = λ rest. rw (told, ends, behind, begun) (short_line s.line (cuts_after (b == 13) rest) short) in
    record {
      lines = λ rest. (first rest).lines;
      whole = λ rest. (first rest).whole;
      none_earlier = one_earlier s b short;
      none_left = no_whole_left new short;
    }

-- bytes of which none is an end, behind a CR or not
run_before : (cr : Bool) (run rest : List ℕ) → 0 < length run → HasNoEnd run → cuts_after cr (run ++ rest) ≡ before run (cuts_after false rest)
run_before cr [] rest some none = absurd (omega arith)
run_before cr (b ∷ run) rest some none =
    rw (or_left (is_end b) (list_any is_end run) none) (ap (front b) (cuts_after-line run rest (or_right (is_end b) (list_any is_end run) none)))

-- a front of such bytes alone
run_alone : (cr : Bool) (run : List ℕ) → HasNoEnd run → cuts_after cr run ≡ Last run
run_alone cr [] none = refl
run_alone cr (b ∷ run) none =
    rw (or_left (is_end b) (list_any is_end run) none) (ap (front b) (ap (cuts_after false) (sym (append-nil run)) ∙ cuts_after-line run [] (or_right (is_end b) (list_any is_end run) none) ∙ before_last run [] ∙ ap Last (append-nil run)))

no_end_take : (run : List ℕ) (k : ℕ) → HasNoEnd run → HasNoEnd (take k run)
no_end_take run zero none = refl
no_end_take [] (suc k) none = refl
no_end_take (b ∷ run) (suc k) none = rw (or_left (is_end b) (list_any is_end run) none) (no_end_take run k (or_right (is_end b) (list_any is_end run) none))

-- no front of a run tells a line, as long as the line so far and the front are short
run_none : (s : State) (run : List ℕ) (n : ℕ) → s.ended ≡ false → HasNoEnd run → (s.told ≡ false → length s.line + n ≤ longest + 1) → (k : ℕ) → k < n → whole_to_come s (take k run) ≡ []
run_none s run n begun none short k h =
    let alone : cuts_after s.cr (take k run) ≡ Last (take k run) = run_alone s.cr (take k run) (no_end_take run k none) in
    elim s.told as (λ t. s.told ≡ t → whole_lines (cond t (without_first (cuts_after s.cr (take k run))) (before (cond s.ended [] s.line) (cuts_after s.cr (take k run)))) ≡ []) [
      | true ↦ λ e. ap (λ c. whole_lines (without_first c)) alone
      | false ↦ λ e. rw begun (ap (λ c. whole_lines (before s.line c)) alone ∙ ap whole_lines (before_last s.line (take k run))
          ∙ whole_last_short (s.line ++ take k run) (omega (arith, length-append s.line (take k run), length-take k run, short e)))
    ] refl

takes_all : (run : List ℕ) → take (length run) run ≡ run
takes_all run = take_all (length run) run (omega arith)

-- a run in a line that was told
pub run_told : (s : State) (run : List ℕ) → s.ended ≡ false → s.told ≡ true → length s.line ≤ longest → 0 < length run → HasNoEnd run → Takes s run (length run) None (record s { cr = false })
run_told s run begun told short some none =
    let cuts : (rest : List ℕ) → cuts_left s (take (length run) run ++ rest) ≡ cuts_left (record s { cr = false }) rest =
    λ rest. ap (λ z. cuts_left s (z ++ rest)) (takes_all run)
    ∙ rw told (ap without_first (run_before s.cr run rest some none) ∙ without_first-before run (cuts_after false rest)) in
    record {
      lines = λ rest. ap all_lines (cuts rest);
      whole = λ rest. ap whole_lines (cuts rest);
      none_earlier = run_none s run (length run) begun none (λ e. absurd (cc));
      none_left = no_whole_left (record s { cr = false }) short;
    }

-- a run that the line has room for
pub run_kept : (s : State) (run line : List ℕ) → s.ended ≡ false → s.told ≡ false → line ≡ s.line ++ run → length line ≤ longest → 0 < length run → HasNoEnd run
    → Takes s run (length run) None (record s { line = line; cr = false })
run_kept s run line begun told same short some none =
    let cuts : (rest : List ℕ) → cuts_left s (take (length run) run ++ rest) ≡ cuts_left (record s { line = line; cr = false }) rest =
    λ rest. ap (λ z. cuts_left s (z ++ rest)) (takes_all run)
    ∙ rw (told, begun) (ap (before s.line) (run_before s.cr run rest some none) ∙ sym (before-append s.line run (cuts_after false rest)) ∙ ap (λ z. before z (cuts_after false rest)) (sym same)) in
    record {
      lines = λ rest. ap all_lines (cuts rest);
      whole = λ rest. ap whole_lines (cuts rest);
      none_earlier = run_none s run (length run) begun none (λ e. omega (arith, ap length same, length-append s.line run));
      none_left = no_whole_left (record s { line = line; cr = false }) short;
    }

-- a run that makes the line too long
pub run_long : (s : State) (run : List ℕ) (n : ℕ) → s.ended ≡ false → s.told ≡ false → length s.line + n ≡ longest + 1 → length s.line ≤ longest → n ≤ length run → HasNoEnd run
    → Takes s run n (Some TooLong) (record s { cr = false; told = true })
run_long s run n begun told long short within none =
    let count : length (take n run) ≡ n = omega (arith, length-take n run) in
    let some : 0 < length (take n run) = omega arith in
    let first : (rest : List ℕ) → TellsFirst (cuts_left s (take n run ++ rest)) None (without_first (cuts_after false rest)) =
    λ rest.
    let e : before (s.line ++ take n run) (cuts_after false rest) ≡ cuts_left s (take n run ++ rest) =
    before-append s.line (take n run) (cuts_after false rest) ∙ ap (before s.line) (sym (run_before s.cr (take n run) rest some (no_end_take run n none))) ∙ rw (told, begun) refl in
    subst (λ c. TellsFirst c None (without_first (cuts_after false rest))) e (too_long (s.line ++ take n run) (cuts_after false rest) (omega (arith, length-append s.line (take n run)))) in
    record {
      lines = λ rest. (first rest).lines;
      whole = λ rest. (first rest).whole;
      none_earlier = run_none s run n begun none (λ e. omega arith);
      none_left = no_whole_left (record s { cr = false; told = true }) short;
    }

-- the last line, where the text ends
pub end_line : (line : List ℕ) (cr told ended : Bool) → told ≡ false → ended ≡ false → 0 < length line → length line ≤ longest
    → to_come (record { line = line; cr = cr; told = told; ended = ended }) [] ≡ Some line ∷ []
end_line line cr told ended t e some short = rw (t, e) (ap all_lines (before_last line [] ∙ ap Last (append-nil line)) ∙ last_short line some short)

-- Pieces

pub takes_from : (old s new : State) (piece : List ℕ) (n : ℕ) (cut : Option Cut) → ((rest : List ℕ) → cuts_left s rest ≡ cuts_left old rest) → Takes s piece n cut new → Takes old piece n cut new
takes_from old s new piece n cut same t = record {
  lines = λ rest. ap all_lines (sym (same (take n piece ++ rest))) ∙ t.lines rest;
  whole = λ rest. ap whole_lines (sym (same (take n piece ++ rest))) ∙ t.whole rest;
  none_earlier = λ k h. ap whole_lines (sym (same (take k piece))) ∙ t.none_earlier k h;
  none_left = t.none_left;
}

take_front : (piece : List ℕ) (k r : ℕ) → k ≤ r → take k (take r piece) ≡ take k piece
take_front piece zero r h = refl
take_front [] (suc k) zero h = refl
take_front [] (suc k) (suc r) h = refl
take_front (b ∷ piece) (suc k) zero h = absurd (omega arith)
take_front (b ∷ piece) (suc k) (suc r) h = ap (λ z. b ∷ z) (take_front piece k r (omega arith))

-- what is taken of a front of the piece
pub takes_of_front : (s new : State) (piece run : List ℕ) (r n : ℕ) (cut : Option Cut) → run ≡ take r piece → n ≤ r → Takes s run n cut new → Takes s piece n cut new
takes_of_front s new piece run r n cut is within t =
    let same : (k : ℕ) → k ≤ n → take k run ≡ take k piece = λ k h. ap (take k) is ∙ take_front piece k r (omega arith) in
    record {
      lines = λ rest. ap (λ z. to_come s (z ++ rest)) (sym (same n (omega arith))) ∙ t.lines rest;
      whole = λ rest. ap (λ z. whole_to_come s (z ++ rest)) (sym (same n (omega arith))) ∙ t.whole rest;
      none_earlier = λ k h. ap (whole_to_come s) (sym (same k (omega arith))) ∙ t.none_earlier k h;
      none_left = t.none_left;
    }

not_true : (b : Bool) → (b ≡ true → ⊥) → b ≡ false
not_true true h = absurd (h refl)
not_true false h = refl

-- bytes up to the first that passes a test
pub no_end_before : (piece : List ℕ) (n : ℕ) → n ≤ length piece → ((k : ℕ) → k < n → is_end (slice_index piece k) ≡ true → ⊥) → HasNoEnd (take n piece)
no_end_before piece zero h none = refl
no_end_before [] (suc n) h none = refl
no_end_before (b ∷ piece) (suc n) h none =
    let first : is_end b ≡ false = not_true (is_end b) (none 0 (omega arith)) in
    rw first (no_end_before piece n (omega arith) (λ k l. none (suc k) (omega arith)))

-- a part taken from where the piece was taken so far
pub record TakenSoFar (old : State) (piece : List ℕ) (taken : ℕ) (s : State) : Type 0 where
  pub within : taken ≤ length piece
  pub lines : (rest : List ℕ) → to_come old (take taken piece ++ rest) ≡ to_come s rest
  pub whole : (rest : List ℕ) → whole_to_come old (take taken piece ++ rest) ≡ whole_to_come s rest
  pub none : (k : ℕ) → k ≤ taken → whole_to_come old (take k piece) ≡ []
  pub none_left : whole_to_come s [] ≡ []

pub none_taken : (s : State) (piece : List ℕ) → whole_to_come s [] ≡ [] → TakenSoFar s piece 0 s
none_taken s piece none = record {
  within = omega arith;
  lines = λ rest. refl;
  whole = λ rest. refl;
  none = λ k h. let e : k ≡ 0 = omega arith in rw e none;
  none_left = none;
}

-- two fronts of the piece
fronts : (piece : List ℕ) (taken n : ℕ) (rest : List ℕ) → take (taken + n) piece ++ rest ≡ take taken piece ++ (take n (drop taken piece) ++ rest)
fronts piece taken n rest = ap (λ z. z ++ rest) (take-add taken n piece) ∙ append_assoc (take taken piece) (take n (drop taken piece)) rest

le_or_more : (k n : ℕ) → (k ≤ n) ⊎ ((p : ℕ) × (k ≡ n + p))
le_or_more k n = elim (cases_lt n k) [ inl more ↦ inr (k - n, omega arith) | inr below ↦ inl below ]

-- the part behind what was taken so far
pub more_taken : (old s new : State) (piece part : List ℕ) (taken n : ℕ) (cut : Option Cut) → TakenSoFar old piece taken s → part ≡ drop taken piece → n ≤ length part → Takes s part n cut new
    → Takes old piece (taken + n) cut new
more_taken old s new piece part taken n cut so_far is within t = record {
  lines = λ rest. ap (to_come old) (fronts piece taken n rest) ∙ so_far.lines (take n (drop taken piece) ++ rest) ∙ ap (λ z. to_come s (take n z ++ rest)) (sym is) ∙ t.lines rest;
  whole = λ rest. ap (whole_to_come old) (fronts piece taken n rest) ∙ so_far.whole (take n (drop taken piece) ++ rest) ∙ ap (λ z. whole_to_come s (take n z ++ rest)) (sym is) ∙ t.whole rest;
  none_earlier = λ k h. elim (le_or_more k taken) [
    | inl below ↦ so_far.none k below
    | inr p ↦
        rw p.1 (ap (whole_to_come old) (sym (append-nil (take (taken + p.0) piece)) ∙ fronts piece taken p.0 []) ∙ so_far.whole (take p.0 (drop taken piece) ++ [])
        ∙ ap (λ z. whole_to_come s (take p.0 z ++ [])) (sym is) ∙ ap (whole_to_come s) (append-nil (take p.0 part)) ∙ t.none_earlier p.0 (omega (arith, p.1)))
  ];
  none_left = t.none_left;
}

-- a part that told nothing
pub further : (old s new : State) (piece part : List ℕ) (taken n : ℕ) (cut : Option Cut) → TakenSoFar old piece taken s → part ≡ drop taken piece → n ≤ length part → cut ≡ None
    → Takes s part n cut new → TakenSoFar old piece (taken + n) new
further old s new piece part taken n cut so_far is within none takes =
    let t : Takes s part n None new = subst (λ z. Takes s part n z new) none takes in
    let all : Takes old piece (taken + n) None new = more_taken old s new piece part taken n None so_far is within t in
    record {
      within = omega (arith, so_far.within, ap length is, length-drop taken piece);
      lines = all.lines;
      whole = all.whole;
      none = λ k h. elim (cases_lt k (taken + n)) [
        | inl below ↦ all.none_earlier k below
        | inr above ↦
            let e : k ≡ taken + n = omega arith in
            rw e (ap (whole_to_come old) (sym (append-nil (take (taken + n) piece))) ∙ all.whole [] ∙ t.none_left)
      ];
      none_left = t.none_left;
    }

pub not_behind : (cr : Bool) (b : ℕ) → ((b ≡ 10) × (cr ≡ false)) ⊎ (b ≡ 10 → ⊥) → (cr && (b == 10)) ≡ false
not_behind cr b (inl h) = rw h.1 refl
not_behind false b (inr h) = refl
not_behind true b (inr h) = grind (arith, nat_tests)

pub takes_same : (s t new : State) (piece : List ℕ) (n : ℕ) (cut : Option Cut) → s ≡ t → Takes s piece n cut new → Takes t piece n cut new
takes_same s t new piece n cut e h = subst (λ z. Takes z piece n cut new) e h

pub not_some : {A : Type 0} (o : Option A) (test : Bool) → test ≡ is_some o → test ≡ false → o ≡ None
not_some None test e f = refl
not_some (Some a) test e f = cc

-- the bytes before the first end that a search found
pub run_found : (piece : List ℕ) (r : Option ℕ) (n : ℕ) → IsFirstByte (is_byte2 10 13) piece r → n ≡ unwrap_or r (length piece) → HasNoEnd (take n piece)
run_found piece None n found e = no_end_before piece n (omega arith) (λ k h. found k (omega arith) (omega arith))
run_found piece (Some i) n found e =
    let within : i < length piece = found.0.high in
    no_end_before piece n (omega arith) (λ k h. found.0.before k (omega arith) (omega arith))
