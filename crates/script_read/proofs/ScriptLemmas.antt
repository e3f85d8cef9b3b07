-- What is told of a script, through its private calls.
use Rattle.std.proofs.Common.{◌≡◌, ◌∙◌, inl, inr, ℕ, zero, suc, ◌+◌, ◌-◌, ◌≤◌, ◌<◌, Bool, true, false, List, [], ◌∷◌, ◌++◌, length, take, drop, refl, sym, ap, subst, arith, append_assoc, append-nil, length-append, length-take, length-drop}
use Rattle.std.specs.Prelude.{Option, Some, None, Ok, Err, IfSome}
use Rattle.std.specs.Io.KnownBytes.{prepend_known, IsAtEnd}
use Rattle.std.proofs.lemmas.List.{take-append-drop, take_all, take-append-le, drop-drop}
use Rattle.text_lines.specs.Lines.{Line, lines_of, whole_lines_of}
use Rattle.tn_io.specs.CutterState as cutter
use Rattle.tn_io.specs.CutterState.{told, line_told, to_come, whole_to_come}
use Rattle.tn_io.specs.declared.cutter.Cut.{Cut}
use Rattle.script_read.specs.ScriptState.{ScriptState, not_yet, IsOpen, HasTold, at_start}
use Rattle.script_read.specs.ScriptCalls.{NextLine, Takes}
use Rattle.script_read.specs.declared.script.ScriptFault.TheVariants.{Read, TooLong}

prepend_none : (a : Option (List ℕ)) → a ≡ prepend_known [] a
prepend_none None = refl
prepend_none (Some a) = refl

prepend_both : (a : Option (List ℕ)) (p q : List ℕ) → prepend_known p (prepend_known q a) ≡ prepend_known (p ++ q) a
prepend_both None p q = refl
prepend_both (Some a) p q = ap Some (sym (append_assoc p q a))

take_front : (n : ℕ) (xs ys : List ℕ) (m : ℕ) → length xs + m ≡ n → take n (xs ++ ys) ≡ xs ++ take m ys
take_front n [] ys m e = ap (λ k. take k ys) (let s : n ≡ m = omega arith in s)
take_front zero (x ∷ xs) ys m e = absurd (omega arith)
take_front (suc n) (x ∷ xs) ys m e = ap (λ z. x ∷ z) (take_front n xs ys m (omega arith))

told_length : (r : Option Cut) (c : cutter.State) (n : ℕ) → IfSome r (λ _. 0 < n) → length (told r c) ≤ n
told_length None c n h = omega arith
told_length (Some cut) c n h = omega arith

-- some of the bytes ahead were cut
pub cut_more : (s t : ScriptState) (n : ℕ) (r : Option Cut) → n ≤ length s.ahead → t.ahead ≡ drop n s.ahead → t.left ≡ s.left → t.over ≡ s.over → t.ended ≡ s.ended → IfSome r (λ _. 0 < n)
    → ((rest : List ℕ) → to_come s.cutter (take n s.ahead ++ rest) ≡ told r t.cutter ++ to_come t.cutter rest)
    → ((rest : List ℕ) → whole_to_come s.cutter (take n s.ahead ++ rest) ≡ told r t.cutter ++ whole_to_come t.cutter rest)
    → (max : ℕ) (taken : List ℕ) (ls : List Line) → IsOpen max s taken ls → IsOpen max t taken (ls ++ told r t.cutter)
cut_more s t n r within ahead left over ended some lines whole max taken ls h = record {
  open_yet = ended ∙ h.open_yet;
  whole = λ rest. h.whole rest ∙ ap (λ z. ls ++ whole_to_come s.cutter z) (split rest) ∙ ap (λ z. ls ++ z) (whole (t.ahead ++ rest)) ∙ sym (append_assoc ls (told r t.cutter) (whole_to_come t.cutter (t.ahead ++ rest)));
  lines = λ rest. h.lines rest ∙ ap (λ z. ls ++ to_come s.cutter z) (split rest) ∙ ap (λ z. ls ++ z) (lines (t.ahead ++ rest)) ∙ sym (append_assoc ls (told r t.cutter) (to_come t.cutter (t.ahead ++ rest)));
  room = λ e. let was = h.room (sym over ∙ e) in omega arith;
  full = λ e. h.full (sym over ∙ e);
  few =
      let more = told_length r t.cutter n some in
      let rest : length t.ahead ≡ length s.ahead - n = ap length ahead ∙ length-drop n s.ahead in
      let last : not_yet t.ended ≡ not_yet s.ended = ap not_yet ended in
      let was = h.few in
      let lengths = length-append ls (told r t.cutter) in
      omega arith;
} where
  split : (rest : List ℕ) → s.ahead ++ rest ≡ take n s.ahead ++ (t.ahead ++ rest)
  split rest = ap (λ z. z ++ rest) (sym (take-append-drop n s.ahead)) ∙ append_assoc (take n s.ahead) (drop n s.ahead) rest ∙ ap (λ z. take n s.ahead ++ (z ++ rest)) (sym ahead)

-- nothing was taken
pub takes_none : (before now : Option (List ℕ)) (s t : ScriptState) → now ≡ before → t ≡ s → Takes before now s t
takes_none before now s t e same = record {
  q = [];
  read = prepend_none before ∙ ap (prepend_known []) (sym e);
  still = λ max taken ls h. subst (λ z. IsOpen max t z ls) (sym (append-nil taken)) (subst (λ u. IsOpen max u taken ls) (sym same) h);
}

-- bytes were taken, where none were ahead
pub takes_more : (before now : Option (List ℕ)) (s t : ScriptState) (q : List ℕ) → before ≡ prepend_known q now → s.ahead ≡ [] → s.over ≡ false
    → t.cutter ≡ s.cutter → t.ahead ≡ take s.left q → t.ended ≡ s.ended
    → (t.over ≡ false → length q + t.left ≡ s.left) → (t.over ≡ true → s.left < length q) → length t.ahead + t.left ≤ s.left → Takes before now s t
takes_more before now s t q read none under same ahead ended room full fewer = record {
  q = q;
  read = read;
  still = λ max taken ls h.
      let was = h.room under in
      let all : take max taken ≡ taken = take_all max taken (omega arith) in
      let front : take max (taken ++ q) ≡ taken ++ take s.left q = take_front max taken q s.left was in
      let bytes : (rest : List ℕ) → take max (taken ++ q) ++ rest ≡ take max taken ++ (t.ahead ++ rest) =
      (λ rest. ap (λ z. z ++ rest) front ∙ append_assoc taken (take s.left q) rest ∙ ap (λ z. taken ++ (z ++ rest)) (sym ahead) ∙ ap (λ z. z ++ (t.ahead ++ rest)) (sym all)) in
      record {
        open_yet = ended ∙ h.open_yet;
        whole = λ rest. ap whole_lines_of (bytes rest) ∙ h.whole (t.ahead ++ rest) ∙ ap (λ z. ls ++ whole_to_come s.cutter (z ++ (t.ahead ++ rest))) none ∙ ap (λ c. ls ++ whole_to_come c (t.ahead ++ rest)) (sym same);
        lines = λ rest. ap lines_of (bytes rest) ∙ h.lines (t.ahead ++ rest) ∙ ap (λ z. ls ++ to_come s.cutter (z ++ (t.ahead ++ rest))) none ∙ ap (λ c. ls ++ to_come c (t.ahead ++ rest)) (sym same);
        room = λ e. let r = room e in omega (arith, length-append taken q);
        full = λ e. let r = full e in omega (arith, length-append taken q);
        few =
            let last : not_yet t.ended ≡ not_yet s.ended = ap not_yet ended in
            let empty : length s.ahead ≡ 0 = ap length none in
            let few = h.few in
            omega arith;
      };
}

pub takes_both : (a b c : Option (List ℕ)) (s t u : ScriptState) → Takes a b s t → Takes b c t u → Takes a c s u
takes_both a b c s t u f g = record {
  q = f.q ++ g.q;
  read = f.read ∙ ap (prepend_known f.q) g.read ∙ prepend_both c f.q g.q;
  still = λ max taken ls h. subst (λ z. IsOpen max u z ls) (append_assoc taken f.q g.q) (g.still max (taken ++ f.q) ls (f.still max taken ls h));
}

-- nothing was taken, and nothing told
pub takes_same : (a : Option (List ℕ)) (s t : ScriptState) → ((max : ℕ) (taken : List ℕ) (ls : List Line) → IsOpen max s taken ls → IsOpen max t taken (ls ++ [])) → Takes a a s t
takes_same a s t f = record {
  q = [];
  read = prepend_none a;
  still = λ max taken ls h. subst (λ z. IsOpen max t z ls) (sym (append-nil taken)) (subst (λ z. IsOpen max t taken z) (append-nil ls) (f max taken ls h));
}

ended_isnt_open : (b : Bool) → b ≡ false → b ≡ true → {P : Type 0} → P
ended_isnt_open b e f = absurd (let t : ⊥ = cc in t)

module _ (before now : Option (List ℕ)) (s t : ScriptState) (takes : Takes before now s t) (still_open : s.ended ≡ false) where
  by_open : (max : ℕ) (taken : List ℕ) (ls : List Line) (P : Type 0) → (IsOpen max t (taken ++ takes.q) ls → P) → HasTold max before s taken ls → P
  by_open max taken ls P f (inl h) = f (takes.still max taken ls h)
  by_open max taken ls P f (inr h) = ended_isnt_open s.ended still_open h.closed

  pub next_is : (u : ScriptState) (cut : Cut) → ((max : ℕ) (taken : List ℕ) (ls : List Line) → IsOpen max t taken ls → IsOpen max u taken (ls ++ line_told cut u.cutter ∷ [])) → NextLine before now s u (Ok (Some cut))
  next_is u cut f = record { q = takes.q; read = takes.read; tells = λ max taken ls. by_open max taken ls _ (λ h. inl (f max (taken ++ takes.q) ls h)) }

  all_within : (max : ℕ) (taken : List ℕ) (ls : List Line) → t.over ≡ false → IsOpen max t (taken ++ takes.q) ls → (length (taken ++ takes.q) ≤ max) × (take max (taken ++ takes.q) ≡ taken ++ takes.q)
  all_within max taken ls under h = let was = h.room under in let short : length (taken ++ takes.q) ≤ max = omega arith in (short, take_all max (taken ++ takes.q) short)

  whole_told : (max : ℕ) (taken : List ℕ) (ls : List Line) → t.ahead ≡ [] → whole_to_come t.cutter [] ≡ [] → IsOpen max t (taken ++ takes.q) ls → whole_lines_of (take max (taken ++ takes.q)) ≡ ls
  whole_told max taken ls none left h =
      ap whole_lines_of (sym (append-nil (take max (taken ++ takes.q)))) ∙ h.whole [] ∙ ap (λ z. ls ++ whole_to_come t.cutter (z ++ [])) none ∙ ap (λ z. ls ++ z) left ∙ append-nil ls

  pub fails : t.ahead ≡ [] → t.over ≡ false → whole_to_come t.cutter [] ≡ [] → NextLine before now s t (Err Read)
  fails none under left = record {
    q = takes.q;
    read = takes.read;
    tells = λ max taken ls. by_open max taken ls _ (λ h.
        let all = all_within max taken ls under h in
        (ap whole_lines_of (sym all.1) ∙ whole_told max taken ls none left h, all.0));
  }

  pub too_long : t.ahead ≡ [] → t.over ≡ true → whole_to_come t.cutter [] ≡ [] → NextLine before now s t (Err TooLong)
  too_long none over left = record { q = takes.q; read = takes.read; tells = λ max taken ls. by_open max taken ls _ (λ h. (whole_told max taken ls none left h, h.full over)) }

  module _ (u : ScriptState) (none : t.ahead ≡ []) (under : t.over ≡ false) (at_end : IsAtEnd now) (ahead : u.ahead ≡ t.ahead) (left : u.left ≡ t.left) (ended : u.ended ≡ true) where
    lines_told : (max : ℕ) (taken : List ℕ) (ls : List Line) (more : List Line) → to_come t.cutter [] ≡ more → IsOpen max t (taken ++ takes.q) ls → lines_of (taken ++ takes.q) ≡ ls ++ more
    lines_told max taken ls more is h =
        let all = all_within max taken ls under h in
        ap lines_of (sym all.1 ∙ sym (append-nil (take max (taken ++ takes.q)))) ∙ h.lines [] ∙ ap (λ z. ls ++ to_come t.cutter (z ++ [])) none ∙ ap (λ z. ls ++ z) is

    pub last_is : (r : Option Cut) → to_come t.cutter [] ≡ told r u.cutter → NextLine before now s u (Ok r)
    last_is None is = record {
      q = takes.q;
      read = takes.read;
      tells = λ max taken ls. by_open max taken ls _ (λ h.
          (lines_told max taken ls [] is h ∙ append-nil ls, (all_within max taken ls under h).0, at_end));
    }
    last_is (Some cut) is = record {
      q = takes.q;
      read = takes.read;
      tells = λ max taken ls. by_open max taken ls _ (λ h. inr (record {
        closed = ended;
        at_end = at_end;
        lines = lines_told max taken ls (line_told cut u.cutter ∷ []) is h;
        within = (all_within max taken ls under h).0;
        few =
            let few = h.few in
            let open_yet : not_yet t.ended ≡ 1 = ap not_yet h.open_yet in
            let last : not_yet u.ended ≡ 0 = ap not_yet ended in
            let same : length u.ahead ≡ length t.ahead = ap length ahead in
            omega (arith, length-append ls (line_told cut u.cutter ∷ []));
      }));
    }

-- after the last line nothing is read
pub ended_is : (left : Option (List ℕ)) (s : ScriptState) → s.ended ≡ true → NextLine left left s s (Ok None)
ended_is left s ended = record { q = []; read = prepend_none left; tells = tells } where
  tells : (max : ℕ) (taken : List ℕ) (ls : List Line) → HasTold max left s taken ls → (lines_of (taken ++ []) ≡ ls) × (length (taken ++ []) ≤ max) × IsAtEnd left
  tells max taken ls (inl h) = ended_isnt_open s.ended h.open_yet ended
  tells max taken ls (inr h) = (ap lines_of (append-nil taken) ∙ h.lines, subst (λ z. length z ≤ max) (sym (append-nil taken)) h.within, h.at_end)

-- nothing was told of nothing
pub at_start_is : (max : ℕ) (left : Option (List ℕ)) → HasTold max left (at_start max) [] []
at_start_is max left = inl (record {
  open_yet = refl;
  whole = λ rest. ap (λ z. whole_lines_of (z ++ rest)) (none max);
  lines = λ rest. ap (λ z. lines_of (z ++ rest)) (none max);
  room = λ _. omega arith;
  full = λ e. absurd (let t : ⊥ = cc in t);
  few = omega arith;
}) where
  none : (n : ℕ) → take {A = ℕ} n [] ≡ []
  none zero = refl
  none (suc n) = refl

drop_of_take : (n m : ℕ) (ys : List ℕ) → drop n (take m ys) ≡ take (m - n) (drop n ys)
drop_of_take zero m ys = ap (λ k. take k ys) (let e : m ≡ m - zero = omega arith in e)
drop_of_take (suc n) zero ys = none (suc n) ∙ sym (ap (λ k. take {A = ℕ} k (drop (suc n) ys)) (let e : zero - suc n ≡ 0 = omega arith in e)) where
  none : (k : ℕ) → drop {A = ℕ} k [] ≡ []
  none zero = refl
  none (suc k) = refl
drop_of_take (suc n) (suc m) [] = none (suc m - suc n) where
  none : (k : ℕ) → [] ≡ take {A = ℕ} k []
  none zero = refl
  none (suc k) = refl
drop_of_take (suc n) (suc m) (y ∷ ys) = drop_of_take n m ys ∙ ap (λ k. take k (drop n ys)) (let e : m - n ≡ suc m - suc n = omega arith in e)

-- the bytes ahead, when n of them were cut
pub ahead_cut : (at end n : ℕ) (xs : List ℕ) → take (end - (at + n)) (drop (at + n) xs) ≡ drop n (take (end - at) (drop at xs))
ahead_cut at end n xs =
    ap (λ k. take k (drop (at + n) xs)) (let e : end - (at + n) ≡ end - at - n = omega arith in e) ∙ ap (take (end - at - n)) (sym (drop-drop n at xs)) ∙ sym (drop_of_take n (end - at) (drop at xs))

-- nothing is ahead, whatever the buffer holds
pub none_ahead : (at end : ℕ) (xs ys : List ℕ) → end ≤ length xs → take (end - at) (drop at xs) ≡ [] → take (end - at) (drop at ys) ≡ take (end - at) (drop at xs)
none_ahead at end xs ys within none =
    let empty : end - at ≡ 0 = omega (arith, length-take (end - at) (drop at xs), length-drop at xs, ap length none) in
    ap (λ k. take k (drop at ys)) empty ∙ sym none

-- what was read to the front of the buffer
pub read_ahead : (n k : ℕ) (buf post : List ℕ) → n ≤ k → k ≤ length buf → take (n - 0) (drop 0 (buf ++ post)) ≡ take n (take k buf)
read_ahead n k buf post le within =
    ap (λ m. take m (buf ++ post)) (let e : n - 0 ≡ n = omega arith in e) ∙ take-append-le n buf post (omega arith) ∙ sym (take_of_take n k buf le) where
      take_of_take : (n k : ℕ) (xs : List ℕ) → n ≤ k → take n (take k xs) ≡ take n xs
      take_of_take zero k xs h = refl
      take_of_take (suc n) zero xs h = absurd (omega arith)
      take_of_take (suc n) (suc k) [] h = refl
      take_of_take (suc n) (suc k) (x ∷ xs) h = ap (λ z. x ∷ z) (take_of_take n k xs (omega arith))

pub never : {P : Type 0} (b : Bool) → b ≡ false → b ≡ true → P
never b e f = absurd (let t : ⊥ = cc in t)

-- A read to the front of the buffer gave `count` bytes, which may be more than the script may have.
module _ (before now : Option (List ℕ)) (s v : ScriptState) (is : v ≡ s) (count : ℕ) (buf post : List ℕ) (read : before ≡ prepend_known (take count buf) now) (none : s.ahead ≡ []) (under : s.over ≡ false) (within : count ≤ length buf) where
  all_of : length (take count buf) ≡ count
  all_of = omega (arith, length-take count buf)

  pub refill_over : v.left < count → Takes before now s (record { cutter = v.cutter; ahead = take (v.left - 0) (drop 0 (buf ++ post)); left = 0; over = true; ended = v.ended })
  refill_over more =
      let same = read_ahead v.left count buf post (omega arith) within in
      let t : ScriptState = record { cutter = v.cutter; ahead = take (v.left - 0) (drop 0 (buf ++ post)); left = 0; over = true; ended = v.ended } in
      subst (λ u. Takes before now u t) is (takes_more before now v t (take count buf) read (ap (λ u. u.ahead) is ∙ none) (ap (λ u. u.over) is ∙ under) refl same refl
      (λ e. never true e refl) (λ _. omega (arith, all_of)) (omega (arith, ap length same, length-take v.left (take count buf))))

  pub refill_more : count ≤ v.left → Takes before now s (record { cutter = v.cutter; ahead = take (count - 0) (drop 0 (buf ++ post)); left = v.left - count; over = v.over; ended = v.ended })
  refill_more few =
      let same = read_ahead count count buf post (omega arith) within ∙ take_all count (take count buf) (omega (arith, all_of)) ∙ sym (take_all v.left (take count buf) (omega (arith, all_of))) in
      let t : ScriptState = record { cutter = v.cutter; ahead = take (count - 0) (drop 0 (buf ++ post)); left = v.left - count; over = v.over; ended = v.ended } in
      subst (λ u. Takes before now u t) is (takes_more before now v t (take count buf) read (ap (λ u. u.ahead) is ∙ none) (ap (λ u. u.over) is ∙ under) refl same refl
      (λ _. omega (arith, all_of)) (λ e. never v.over (ap (λ u. u.over) is ∙ under) e) (omega (arith, all_of, ap length same, length-take v.left (take count buf))))
