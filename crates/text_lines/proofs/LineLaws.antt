-- The laws of lines, by induction over the text.
use Rattle.std.proofs.Common.{◌≡◌, ◌∙◌, ◌↔◌, ℕ, ◌<◌, Bool, true, false, cond, ◌&&◌, ◌||◌, ◌==◌, List, [], ◌∷◌, ◌++◌, length, refl, sym, ap, subst, arith, length-append, append-nil, nat_le}
use Rattle.std.specs.Prelude.{None}
use Rattle.std.specs.List.{list_any}
use Rattle.std.proofs.lemmas.Bool.Decides.{nat_tests}
use Rattle.text_lines.specs.Lines.{Cuts, Ended, Last, Line, is_end, front, before, cuts_after, line_of, longest, all_lines, whole_lines, lines_of, whole_lines_of}
use Rattle.text_lines.specs.Laws.{IsCut, last, by_lf, by_cr_lf, by_cr, HasNoEnd, NoLfFirst}

-- from the function to the productions

is_cut-front : (b : ℕ) (bs : List ℕ) (cuts : Cuts) → is_end b ≡ false → IsCut bs cuts → IsCut (b ∷ bs) (front b cuts)
is_cut-front b bs cuts e (last line none) = last (b ∷ line) (rw e none)
is_cut-front b bs cuts e (by_lf line more rest none h) = by_lf (b ∷ line) more rest (rw e none) h
is_cut-front b bs cuts e (by_cr_lf line more rest none h) = by_cr_lf (b ∷ line) more rest (rw e none) h
is_cut-front b bs cuts e (by_cr line more rest none no_lf h) = by_cr (b ∷ line) more rest (rw e none) no_lf h

-- the productions of a text, and of the text with a CR before it
record Both (bs : List ℕ) : Type 0 where
  here : IsCut bs (cuts_after false bs)
  behind_cr : IsCut (13 ∷ bs) (Ended [] (cuts_after true bs))

cut_here : (b : ℕ) (bs : List ℕ) → Both bs → IsCut (b ∷ bs) (cuts_after false (b ∷ bs))
cut_here b bs both =
    elim (b == 10) as (λ s. (b == 10) ≡ s → IsCut (b ∷ bs) (cond (s || b == 13) (Ended [] (cuts_after (b == 13) bs)) (front b (cuts_after false bs)))) [
      | true ↦ λ e. let ten : b ≡ 10 = grind (arith, nat_tests) in subst (λ x. IsCut (x ∷ bs) (Ended [] (cuts_after (x == 13) bs))) (sym ten) (by_lf [] bs (cuts_after false bs) refl both.here)
      | false ↦ λ e. elim (b == 13) as (λ s. (b == 13) ≡ s → IsCut (b ∷ bs) (cond s (Ended [] (cuts_after s bs)) (front b (cuts_after false bs)))) [
        | true ↦ λ d. let thirteen : b ≡ 13 = grind (arith, nat_tests) in subst (λ x. IsCut (x ∷ bs) (Ended [] (cuts_after true bs))) (sym thirteen) both.behind_cr
        | false ↦ λ d. is_cut-front b bs (cuts_after false bs) (rw (e, d) refl) both.here
      ] refl
    ] refl

cut_behind : (b : ℕ) (bs : List ℕ) → Both bs → IsCut (b ∷ bs) (cuts_after false (b ∷ bs)) → IsCut (13 ∷ b ∷ bs) (Ended [] (cuts_after true (b ∷ bs)))
cut_behind b bs both here =
    elim (b == 10) as (λ s. (b == 10) ≡ s → IsCut (13 ∷ b ∷ bs) (Ended [] (cond (s || b == 13) (cond s (cuts_after false bs) (Ended [] (cuts_after (b == 13) bs))) (front b (cuts_after false bs))))) [
      | true ↦ λ e. let ten : b ≡ 10 = grind (arith, nat_tests) in subst (λ x. IsCut (13 ∷ x ∷ bs) (Ended [] (cuts_after false bs))) (sym ten) (by_cr_lf [] bs (cuts_after false bs) refl both.here)
      | false ↦ λ e. by_cr [] (b ∷ bs) _ refl (grind (arith, nat_tests)) (rw e at here)
    ] refl

cuts_both : (bs : List ℕ) → Both bs
cuts_both [] = record { here = last [] refl; behind_cr = by_cr [] [] (Last []) refl tt (last [] refl) }
cuts_both (b ∷ bs) =
    let both : Both bs = cuts_both bs in
    let here : IsCut (b ∷ bs) (cuts_after false (b ∷ bs)) = cut_here b bs both in
    record { here = here; behind_cr = cut_behind b bs both here }

-- from the productions to the function

pub or_left : (a b : Bool) → (a || b) ≡ false → a ≡ false
or_left true b h = h
or_left false b h = refl

pub or_right : (a b : Bool) → (a || b) ≡ false → b ≡ false
or_right true b h = absurd (cc)
or_right false b h = h

pub cuts_after-line : (line bs : List ℕ) → HasNoEnd line → cuts_after false (line ++ bs) ≡ before line (cuts_after false bs)
cuts_after-line [] bs h = refl
cuts_after-line (b ∷ line) bs h = rw (or_left (is_end b) (list_any is_end line) h) (ap (front b) (cuts_after-line line bs (or_right (is_end b) (list_any is_end line) h)))

before_ended : (line : List ℕ) (cuts : Cuts) → before line (Ended [] cuts) ≡ Ended line cuts
before_ended [] cuts = refl
before_ended (b ∷ line) cuts = ap (front b) (before_ended line cuts)

before_last : (line : List ℕ) → before line (Last []) ≡ Last line
before_last [] = refl
before_last (b ∷ line) = ap (front b) (before_last line)

behind_cr_same : (bs : List ℕ) → NoLfFirst bs → cuts_after true bs ≡ cuts_after false bs
behind_cr_same [] h = refl
behind_cr_same (b ∷ bs) h = let e : (b == 10) ≡ false = grind (arith, nat_tests) in rw e refl

cuts_of_cut : (bs : List ℕ) (cuts : Cuts) → IsCut bs cuts → cuts_after false bs ≡ cuts
cuts_of_cut bs cuts (last line none) = ap (cuts_after false) (sym (append-nil line)) ∙ cuts_after-line line [] none ∙ before_last line
cuts_of_cut bs cuts (by_lf line more rest none h) = cuts_after-line line (10 ∷ more) none ∙ before_ended line (cuts_after false more) ∙ ap (Ended line) (cuts_of_cut more rest h)
cuts_of_cut bs cuts (by_cr_lf line more rest none h) = cuts_after-line line (13 ∷ 10 ∷ more) none ∙ before_ended line (cuts_after false more) ∙ ap (Ended line) (cuts_of_cut more rest h)
cuts_of_cut bs cuts (by_cr line more rest none no_lf h) =
    cuts_after-line line (13 ∷ more) none ∙ before_ended line (cuts_after true more) ∙ ap (Ended line) (behind_cr_same more no_lf ∙ cuts_of_cut more rest h)

pub cuts_are_productions : (bs : List ℕ) (cuts : Cuts) → IsCut bs cuts ↔ (cuts_after false bs ≡ cuts)
cuts_are_productions bs cuts = (cuts_of_cut bs cuts, λ e. subst (IsCut bs) e (cuts_both bs).here)

-- whole lines stay

-- the second cuts are those of a text that goes on
abbrev Extends : Cuts → Cuts → Type 0
Extends (Last o) (Last p) = (r : List ℕ) × (p ≡ o ++ r)
Extends (Last o) (Ended l cuts) = (r : List ℕ) × (l ≡ o ++ r)
Extends (Ended l cuts) (Last p) = ⊥
Extends (Ended l cuts) (Ended m more) = (m ≡ l) × Extends cuts more

extends_nothing : (cuts : Cuts) → Extends (Last []) cuts
extends_nothing (Last p) = (p, refl)
extends_nothing (Ended l cuts) = (l, refl)

extends_front : (b : ℕ) (c d : Cuts) → Extends c d → Extends (front b c) (front b d)
extends_front b (Last o) (Last p) h = (h.0, ap (λ z. b ∷ z) h.1)
extends_front b (Last o) (Ended l d) h = (h.0, ap (λ z. b ∷ z) h.1)
extends_front b (Ended l c) (Last p) h = h
extends_front b (Ended l c) (Ended m d) h = (ap (λ z. b ∷ z) h.0, h.1)

extends_more : (cr : Bool) (a b : List ℕ) → Extends (cuts_after cr a) (cuts_after cr (a ++ b))
extends_more cr [] b = extends_nothing (cuts_after cr b)
extends_more cr (x ∷ a) b =
    elim (is_end x) as (λ s. Extends (cond s (cond (cr && x == 10) (cuts_after false a) (Ended [] (cuts_after (x == 13) a))) (front x (cuts_after false a)))
    (cond s (cond (cr && x == 10) (cuts_after false (a ++ b)) (Ended [] (cuts_after (x == 13) (a ++ b)))) (front x (cuts_after false (a ++ b))))) [
      | true ↦ elim (cr && x == 10) as (λ s. Extends (cond s (cuts_after false a) (Ended [] (cuts_after (x == 13) a))) (cond s (cuts_after false (a ++ b)) (Ended [] (cuts_after (x == 13) (a ++ b))))) [
        | true ↦ extends_more false a b
        | false ↦ (refl, extends_more (x == 13) a b)
      ]
      | false ↦ extends_front x (cuts_after false a) (cuts_after false (a ++ b)) (extends_more false a b)
    ]

line_of_long : (xs : List ℕ) → longest < length xs → line_of xs ≡ None
line_of_long xs h = grind (arith, nat_tests)

last_of_long : (xs : List ℕ) → longest < length xs → all_lines (Last xs) ≡ None ∷ []
last_of_long [] h = absurd (omega arith)
last_of_long (x ∷ xs) h = ap (λ l. l ∷ []) (line_of_long (x ∷ xs) h)

whole_of_long : (xs : List ℕ) → longest < length xs → whole_lines (Last xs) ≡ None ∷ []
whole_of_long xs h = let e : nat_le (length xs) longest ≡ false = grind (arith, nat_tests) in rw e refl

-- the lines of cuts that go on where the bytes so far are too long
long_last : (o : List ℕ) (d : Cuts) → longest < length o → Extends (Last o) d → ((more : List Line) × (whole_lines d ≡ None ∷ more)) × ((more : List Line) × (all_lines d ≡ None ∷ more))
long_last o (Last p) h x =
    let long : longest < length p = omega (arith, ap length x.1, length-append o x.0) in
    (([], whole_of_long p long), ([], last_of_long p long))
long_last o (Ended l d) h x =
    let long : longest < length l = omega (arith, ap length x.1, length-append o x.0) in
    ((whole_lines d, ap (λ z. z ∷ whole_lines d) (line_of_long l long)), (all_lines d, ap (λ z. z ∷ all_lines d) (line_of_long l long)))

long_tests : (xs : List ℕ) → nat_le (length xs) longest ≡ false → longest < length xs
long_tests xs e = grind (arith, nat_tests)

whole_begins : (c d : Cuts) → Extends c d → ((more : List Line) × (whole_lines d ≡ whole_lines c ++ more)) × ((more : List Line) × (all_lines d ≡ whole_lines c ++ more))
whole_begins (Last o) d x =
    elim (nat_le (length o) longest) as (λ s. nat_le (length o) longest ≡ s → ((more : List Line) × (whole_lines d ≡ cond s [] (None ∷ []) ++ more)) × ((more : List Line) × (all_lines d ≡ cond s [] (None ∷ []) ++ more))) [
      | true ↦ λ e. ((whole_lines d, refl), (all_lines d, refl))
      | false ↦ λ e. long_last o d (long_tests o e) x
    ] refl
whole_begins (Ended l c) (Last p) x = absurd x
whole_begins (Ended l c) (Ended m d) x =
    let more = whole_begins c d x.1 in
    ((more.0.0, rw x.0 (ap (λ z. line_of l ∷ z) more.0.1)), (more.1.0, rw x.0 (ap (λ z. line_of l ∷ z) more.1.1)))

pub whole_lines_stay : (front behind : List ℕ) → ((more : List Line) × (whole_lines_of (front ++ behind) ≡ whole_lines_of front ++ more)) × ((more : List Line) × (lines_of (front ++ behind) ≡ whole_lines_of front ++ more))
whole_lines_stay front behind = whole_begins (cuts_after false front) (cuts_after false (front ++ behind)) (extends_more false front behind)
