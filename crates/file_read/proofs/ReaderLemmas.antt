-- What is told of a file, through the reader's private calls.
use Rattle.std.proofs.Common.{◌≡◌, ◌∙◌, ◌⊎◌, inl, inr, ℕ, zero, suc, ◌+◌, ◌-◌, ◌≤◌, ◌<◌, min, Bool, true, false, List, [], ◌∷◌, ◌++◌, length, take, drop, refl, sym, ap, subst, arith, append_assoc, append-nil, length-append, length-take, length-drop}
use Rattle.std.specs.Prelude.{Option, Some, None, Ok, Err, nat_le}
use Rattle.std.proofs.lemmas.Bool.Decides.{nat_tests}
use Rattle.std.proofs.lemmas.List.{take-append-drop, take_all, take-append-le, drop-drop}
use Rattle.text_lines.specs.Lines.{Line, lines_of, whole_lines_of}
use Rattle.file_model.specs.FileMap.{FileMap, OfFile, IfFile, GivesAt}
use Rattle.file_model.specs.FileLines.{All, Long as long, BeginsWith, file_lines}
use Rattle.tn_io.specs.CutterState.{told, line_told, to_come, whole_to_come}
use Rattle.tn_io.specs.declared.cutter.Cut.{Cut}
use Rattle.tn_io.proofs.FileLemmas.{if_file_start, if_file_with, of_file_with}
use Rattle.file_read.specs.ReaderState.{ReaderState, IsOpen, HasTold, at_start}
use Rattle.file_read.specs.ReaderCalls.{Tells, NextLine, Takes, TellsMore, EndsAt}
use Rattle.file_read.specs.declared.reader.FileFault.TheVariants.{Read, Long}

never : {P : Type 0} (b : Bool) → b ≡ false → b ≡ true → P
never b e f = absurd (let t : ⊥ = cc in t)

-- Lines of a file

short_lines : (max : ℕ) (bytes : List ℕ) → length bytes ≤ max → file_lines max bytes ≡ All (lines_of bytes)
short_lines max bytes h = let test : nat_le (length bytes) max ≡ true = grind (arith, nat_tests) in rw test refl

long_lines : (max : ℕ) (bytes : List ℕ) → max < length bytes → file_lines max bytes ≡ long (whole_lines_of (take max bytes))
long_lines max bytes h = let test : nat_le (length bytes) max ≡ false = grind (arith, nat_tests) in rw test refl

-- a front that is too long decides
long_front : (max : ℕ) (front bytes : List ℕ) → max < length front → BeginsWith front bytes → file_lines max bytes ≡ file_lines max front
long_front max front bytes h (rest, is) =
    let size : length bytes ≡ length front + length rest = ap length is ∙ length-append front rest in
    long_lines max bytes (omega arith) ∙ ap (λ z. long (whole_lines_of (take max z))) is ∙ ap (λ z. long (whole_lines_of z)) (take-append-le max front rest (omega arith)) ∙ sym (long_lines max front h)

-- Bytes of a file

if_front : (files : Option FileMap) (name taken : List ℕ) → (taken ≡ []) ⊎ OfFile files name (BeginsWith taken) → IfFile files name (BeginsWith taken)
if_front files name taken (inl none) = if_file_start files name (λ bytes. (bytes, ap (λ z. z ++ bytes) (sym none)))
if_front files name taken (inr of) = if_file_with files name of (if_file_start files name {P = λ _. Unit {0}} (λ _. tt)) (λ bytes b _. b)

drop_front : (front rest : List ℕ) → drop (length front) (front ++ rest) ≡ rest
drop_front [] rest = refl
drop_front (x ∷ front) rest = drop_front front rest

-- a read behind a front of a file makes a longer one
gives_more : (front buf : List ℕ) (at n : ℕ) (bytes : List ℕ) → length front ≡ at → GivesAt bytes at n buf → BeginsWith front bytes → BeginsWith (front ++ take n buf) bytes
gives_more front buf at n bytes is read (rest, begins) =
    let behind : rest ≡ take n buf ++ drop (at + n) bytes = sym (drop_front front rest) ∙ ap (drop (length front)) (sym begins) ∙ ap (λ k. drop k bytes) is ∙ read.0 in
    (drop (at + n) bytes, begins ∙ ap (λ z. front ++ z) behind ∙ sym (append_assoc front (take n buf) (drop (at + n) bytes)))

pub front_more : (files : Option FileMap) (name front buf : List ℕ) (at n : ℕ) → length front ≡ at → OfFile files name (λ bytes. GivesAt bytes at n buf) → (front ≡ []) ⊎ OfFile files name (BeginsWith front)
    → OfFile files name (BeginsWith (front ++ take n buf))
front_more files name front buf at n is read begins = of_file_with files name read (if_front files name front begins) (λ bytes r b. gives_more front buf at n bytes is r b)

-- where the file has no byte behind a front, that is the file
pub front_whole : (files : Option FileMap) (name front : List ℕ) (at : ℕ) → length front ≡ at → EndsAt files name at → (front ≡ []) ⊎ OfFile files name (BeginsWith front) → OfFile files name (λ bytes. bytes ≡ front)
front_whole files name front at is end begins = of_file_with files name end (if_front files name front begins) whole where
  whole : (bytes : List ℕ) → drop at bytes ≡ [] → BeginsWith front bytes → bytes ≡ front
  whole bytes none (rest, b) =
      let behind : rest ≡ [] = sym (drop_front front rest) ∙ ap (drop (length front)) (sym b) ∙ ap (λ k. drop k bytes) is ∙ none in
      b ∙ ap (λ z. front ++ z) behind ∙ append-nil front

-- Lines told

-- some of the bytes ahead were cut
pub cut_more : (s t : ReaderState) (piece : List ℕ) → piece ≡ s.ahead → (n : ℕ) (r : Option Cut) → t.ahead ≡ drop n s.ahead → t.max ≡ s.max → t.place ≡ s.place → t.ended ≡ s.ended
    → ((rest : List ℕ) → to_come s.cutter (take n piece ++ rest) ≡ told r t.cutter ++ to_come t.cutter rest)
    → ((rest : List ℕ) → whole_to_come s.cutter (take n piece ++ rest) ≡ told r t.cutter ++ whole_to_come t.cutter rest)
    → TellsMore s t (told r t.cutter)
cut_more s t piece same n r ahead max place ended lines whole files name taken ls h = record {
  open_yet = ended ∙ h.open_yet;
  place = h.place ∙ sym place;
  front = h.front;
  whole = λ rest. ap (λ m. whole_lines_of (take m taken ++ rest)) max ∙ h.whole rest ∙ ap (λ z. ls ++ whole_to_come s.cutter z) (split rest) ∙ ap (λ z. ls ++ z) (whole (t.ahead ++ rest)) ∙ sym (append_assoc ls (told r t.cutter) (whole_to_come t.cutter (t.ahead ++ rest)));
  lines = λ rest. ap (λ m. lines_of (take m taken ++ rest)) max ∙ h.lines rest ∙ ap (λ z. ls ++ to_come s.cutter z) (split rest) ∙ ap (λ z. ls ++ z) (lines (t.ahead ++ rest)) ∙ sym (append_assoc ls (told r t.cutter) (to_come t.cutter (t.ahead ++ rest)));
} where
  split : (rest : List ℕ) → s.ahead ++ rest ≡ take n piece ++ (t.ahead ++ rest)
  split rest = ap (λ z. z ++ rest) (sym same) ∙ ap (λ z. z ++ rest) (sym (take-append-drop n piece)) ∙ append_assoc (take n piece) (drop n piece) rest ∙ ap (λ z. take n piece ++ (z ++ rest)) (ap (drop n) same ∙ sym ahead)

take_front : (n : ℕ) (xs ys : List ℕ) (m : ℕ) → length xs + m ≡ n → take n (xs ++ ys) ≡ xs ++ take m ys
take_front n [] ys m e = ap (λ k. take k ys) (let s : n ≡ m = omega arith in s)
take_front zero (x ∷ xs) ys m e = absurd (omega arith)
take_front (suc n) (x ∷ xs) ys m e = ap (λ z. x ∷ z) (take_front n xs ys m (omega arith))

-- nothing was taken
pub takes_none : (files : Option FileMap) (name : List ℕ) (s t : ReaderState) → t ≡ s → Takes files name s t
takes_none files name s t same = record {
  q = [];
  still = λ taken ls h. subst (λ z. IsOpen files name t z ls) (sym (append-nil taken)) (subst (λ u. IsOpen files name u taken ls) (sym same) h);
}

-- the bytes q were taken behind the place, where none were ahead
pub takes_more : (files : Option FileMap) (name : List ℕ) (s t : ReaderState) (q : List ℕ) → s.ahead ≡ [] → s.place ≤ s.max → t.max ≡ s.max
    → t.cutter ≡ s.cutter → t.ahead ≡ take (s.max - s.place) q → t.ended ≡ s.ended → t.place ≡ s.place + length q
    → ((taken : List ℕ) → length taken ≡ s.place → (taken ≡ []) ⊎ OfFile files name (BeginsWith taken) → OfFile files name (BeginsWith (taken ++ q))) → Takes files name s t
takes_more files name s t q none under max same ahead ended place more = record {
  q = q;
  still = λ taken ls h.
      let all : take s.max taken ≡ taken = take_all s.max taken (omega (arith, h.place)) in
      let front : take t.max (taken ++ q) ≡ taken ++ take (s.max - s.place) q = ap (λ m. take m (taken ++ q)) max ∙ take_front s.max taken q (s.max - s.place) (omega (arith, h.place)) in
      let bytes : (rest : List ℕ) → take t.max (taken ++ q) ++ rest ≡ take s.max taken ++ (t.ahead ++ rest) =
      (λ rest. ap (λ z. z ++ rest) front ∙ append_assoc taken (take (s.max - s.place) q) rest ∙ ap (λ z. taken ++ (z ++ rest)) (sym ahead) ∙ ap (λ z. z ++ (t.ahead ++ rest)) (sym all)) in
      record {
        open_yet = ended ∙ h.open_yet;
        place = length-append taken q ∙ ap (λ n. n + length q) h.place ∙ sym place;
        front = inr (more taken h.place h.front);
        whole = λ rest. ap whole_lines_of (bytes rest) ∙ h.whole (t.ahead ++ rest) ∙ ap (λ z. ls ++ whole_to_come s.cutter (z ++ (t.ahead ++ rest))) none ∙ ap (λ c. ls ++ whole_to_come c (t.ahead ++ rest)) (sym same);
        lines = λ rest. ap lines_of (bytes rest) ∙ h.lines (t.ahead ++ rest) ∙ ap (λ z. ls ++ to_come s.cutter (z ++ (t.ahead ++ rest))) none ∙ ap (λ c. ls ++ to_come c (t.ahead ++ rest)) (sym same);
      };
}

pub takes_both : (files : Option FileMap) (name : List ℕ) (s t u : ReaderState) → Takes files name s t → Takes files name t u → Takes files name s u
takes_both files name s t u f g = record {
  q = f.q ++ g.q;
  still = λ taken ls h. subst (λ z. IsOpen files name u z ls) (append_assoc taken f.q g.q) (g.still (taken ++ f.q) ls (f.still taken ls h));
}

-- nothing was taken, and nothing told
pub takes_same : (files : Option FileMap) (name : List ℕ) (s t : ReaderState) → TellsMore s t [] → Takes files name s t
takes_same files name s t f = record {
  q = [];
  still = λ taken ls h. subst (λ z. IsOpen files name t z ls) (sym (append-nil taken)) (subst (λ z. IsOpen files name t taken z) (append-nil ls) (f files name taken ls h));
}

module _ (files : Option FileMap) (name : List ℕ) (s t : ReaderState) (takes : Takes files name s t) (still_open : s.ended ≡ false) where
  by_open : (taken : List ℕ) (ls : List Line) (P : Type 0) → (IsOpen files name t (taken ++ takes.q) ls → P) → HasTold files name s taken ls → P
  by_open taken ls P f (inl h) = f (takes.still taken ls h)
  by_open taken ls P f (inr h) = never s.ended still_open h.closed

  pub next_is : (u : ReaderState) (cut : Cut) → TellsMore t u (line_told cut u.cutter ∷ []) → NextLine files name s u (Ok (Some cut))
  next_is u cut f = record { q = takes.q; tells = λ taken ls. by_open taken ls _ (λ h. inl (f files name (taken ++ takes.q) ls h)) }

  all_taken : (taken : List ℕ) (ls : List Line) → t.place ≤ t.max → IsOpen files name t (taken ++ takes.q) ls → (length (taken ++ takes.q) ≤ t.max) × (take t.max (taken ++ takes.q) ≡ taken ++ takes.q)
  all_taken taken ls under h = let short : length (taken ++ takes.q) ≤ t.max = omega (arith, h.place) in (short, take_all t.max (taken ++ takes.q) short)

  whole_told : (taken : List ℕ) (ls : List Line) → t.ahead ≡ [] → whole_to_come t.cutter [] ≡ [] → IsOpen files name t (taken ++ takes.q) ls → whole_lines_of (take t.max (taken ++ takes.q)) ≡ ls
  whole_told taken ls none left h =
      ap whole_lines_of (sym (append-nil (take t.max (taken ++ takes.q)))) ∙ h.whole [] ∙ ap (λ z. ls ++ whole_to_come t.cutter (z ++ [])) none ∙ ap (λ z. ls ++ z) left ∙ append-nil ls

  pub fails : t.ahead ≡ [] → t.place ≤ t.max → whole_to_come t.cutter [] ≡ [] → NextLine files name s t (Err Read)
  fails none under left = record {
    q = takes.q;
    tells = λ taken ls. by_open taken ls _ (λ h.
        let all = all_taken taken ls under h in
        record {
          place = h.place;
          within = all.0;
          front = if_front files name (taken ++ takes.q) h.front;
          lines = ap whole_lines_of (sym all.1) ∙ whole_told taken ls none left h;
        });
  }

  too_long_here : (taken : List ℕ) (ls : List Line) → t.max < length taken → whole_lines_of (take t.max taken) ≡ ls → (taken ≡ []) ⊎ OfFile files name (BeginsWith taken) → Tells files name t taken ls (Err Long)
  too_long_here taken ls over told (inl none) = absurd (omega (arith, over, ap length none))
  too_long_here taken ls over told (inr of) =
      let here : file_lines t.max taken ≡ long ls = long_lines t.max taken over ∙ ap long told in
      (here, of_file_with files name of (if_file_start files name {P = λ _. Unit {0}} (λ _. tt)) (λ bytes b _. long_front t.max taken bytes over b ∙ here))

  pub too_long : t.ahead ≡ [] → t.max < t.place → whole_to_come t.cutter [] ≡ [] → NextLine files name s t (Err Long)
  too_long none over left = record {
    q = takes.q;
    tells = λ taken ls. by_open taken ls _ (λ h. too_long_here (taken ++ takes.q) ls (omega (arith, h.place)) (whole_told taken ls none left h) h.front);
  }

  module _ (u : ReaderState) (none : t.ahead ≡ []) (under : t.place ≤ t.max) (at_end : EndsAt files name t.place) (max : u.max ≡ t.max) (ended : u.ended ≡ true) where
    lines_told : (taken : List ℕ) (ls more : List Line) → to_come t.cutter [] ≡ more → IsOpen files name t (taken ++ takes.q) ls → file_lines u.max (taken ++ takes.q) ≡ All (ls ++ more)
    lines_told taken ls more is h =
        let all = all_taken taken ls under h in
        short_lines u.max (taken ++ takes.q) (omega (arith, all.0, max))
        ∙ ap All (ap lines_of (sym all.1 ∙ sym (append-nil (take t.max (taken ++ takes.q)))) ∙ h.lines [] ∙ ap (λ z. ls ++ to_come t.cutter (z ++ [])) none ∙ ap (λ z. ls ++ z) is)

    file_taken : (taken : List ℕ) (ls : List Line) → IsOpen files name t (taken ++ takes.q) ls → OfFile files name (λ bytes. bytes ≡ taken ++ takes.q)
    file_taken taken ls h = front_whole files name (taken ++ takes.q) t.place h.place at_end h.front

    pub last_is : (r : Option Cut) → to_come t.cutter [] ≡ told r u.cutter → NextLine files name s u (Ok r)
    last_is None is = record {
      q = takes.q;
      tells = λ taken ls. by_open taken ls _ (λ h. (lines_told taken ls [] is h ∙ ap All (append-nil ls), file_taken taken ls h));
    }
    last_is (Some cut) is = record {
      q = takes.q;
      tells = λ taken ls. by_open taken ls _ (λ h. inr (record {
        closed = ended;
        whole = file_taken taken ls h;
        lines = lines_told taken ls (line_told cut u.cutter ∷ []) is h;
      }));
    }

-- after the last line nothing is read
pub ended_is : (files : Option FileMap) (name : List ℕ) (s : ReaderState) → s.ended ≡ true → NextLine files name s s (Ok None)
ended_is files name s ended = record { q = []; tells = tells } where
  tells : (taken : List ℕ) (ls : List Line) → HasTold files name s taken ls → (file_lines s.max (taken ++ []) ≡ All ls) × OfFile files name (λ bytes. bytes ≡ taken ++ [])
  tells taken ls (inl h) = never s.ended h.open_yet ended
  tells taken ls (inr h) = (ap (file_lines s.max) (append-nil taken) ∙ h.lines, subst (λ z. OfFile files name (λ bytes. bytes ≡ z)) (sym (append-nil taken)) h.whole)

-- nothing was told of nothing
pub at_start_is : (files : Option FileMap) (name : List ℕ) (max : ℕ) → HasTold files name (at_start max) [] []
at_start_is files name max = inl (record {
  open_yet = refl;
  place = refl;
  front = inl refl;
  whole = λ rest. ap (λ z. whole_lines_of (z ++ rest)) (none max);
  lines = λ rest. ap (λ z. lines_of (z ++ rest)) (none max);
}) where
  none : (n : ℕ) → take {A = ℕ} n [] ≡ []
  none zero = refl
  none (suc n) = refl

drop_of_take : (n m : ℕ) (ys : List ℕ) → drop n (take m ys) ≡ take (m - n) (drop n ys)
drop_of_take zero m ys = ap (λ k. take k ys) (let e : m ≡ m - zero = omega arith in e)
drop_of_take (suc n) zero ys = none (suc n) ∙ sym (ap (λ k. take {A = ℕ} k (drop (suc n) ys)) (let e : zero - suc n ≡ 0 = omega arith in e)) where
  none : (k : ℕ) → drop {A = ℕ} k [] ≡ []
  none zero = refl
  none (suc k) = refl
drop_of_take (suc n) (suc m) [] = none (suc m - suc n) where
  none : (k : ℕ) → [] ≡ take {A = ℕ} k []
  none zero = refl
  none (suc k) = refl
drop_of_take (suc n) (suc m) (y ∷ ys) = drop_of_take n m ys ∙ ap (λ k. take k (drop n ys)) (let e : m - n ≡ suc m - suc n = omega arith in e)

-- the bytes ahead, when n of them were cut
pub ahead_cut : (at end n : ℕ) (xs : List ℕ) → take (end - (at + n)) (drop (at + n) xs) ≡ drop n (take (end - at) (drop at xs))
ahead_cut at end n xs =
    ap (λ k. take k (drop (at + n) xs)) (let e : end - (at + n) ≡ end - at - n = omega arith in e) ∙ ap (take (end - at - n)) (sym (drop-drop n at xs)) ∙ sym (drop_of_take n (end - at) (drop at xs))

pub front_of : (n : ℕ) (xs ys : List ℕ) → length xs ≡ n → take n (xs ++ ys) ≡ xs
front_of n xs ys h = take-append-le n xs ys (omega arith) ∙ take_all n xs (omega arith)

take_twice : (m n : ℕ) (xs : List ℕ) → take (min m n) xs ≡ take m (take n xs)
take_twice zero n xs = ap (λ k. take k xs) (let e : min zero n ≡ 0 = omega arith in e)
take_twice (suc m) zero xs = ap (λ k. take k xs) (let e : min (suc m) zero ≡ 0 = omega arith in e)
take_twice (suc m) (suc n) [] = ap (λ k. take {A = ℕ} k []) (let e : min (suc m) (suc n) ≡ suc (min m n) = omega arith in e)
take_twice (suc m) (suc n) (x ∷ xs) = ap (λ k. take k (x ∷ xs)) (let e : min (suc m) (suc n) ≡ suc (min m n) = omega arith in e) ∙ ap (λ z. x ∷ z) (take_twice m n xs)

-- a read put n bytes into the front of the buffer, of which the file may have so many
pub refill_more : (files : Option FileMap) (name : List ℕ) (s v : ReaderState) → v ≡ s → (n end : ℕ) (buf all : List ℕ) → all ≡ buf → OfFile files name (λ bytes. GivesAt bytes v.place n buf) → n ≤ length buf → end ≡ min (v.max - v.place) n
    → s.ahead ≡ [] → s.place ≤ s.max → Takes files name s (record { max = v.max; cutter = v.cutter; ahead = take (end - 0) (drop 0 all); place = v.place + n; ended = v.ended })
refill_more files name s v is n end buf all same read within size none under =
    let t : ReaderState = record { max = v.max; cutter = v.cutter; ahead = take (end - 0) (drop 0 all); place = v.place + n; ended = v.ended } in
    let ahead : take (end - 0) all ≡ take (v.max - v.place) (take n buf) = ap (take (end - 0)) same ∙ ap (λ k. take k buf) (let e : end - 0 ≡ min (v.max - v.place) n = omega arith in e) ∙ take_twice (v.max - v.place) n buf in
    let count : length (take n buf) ≡ n = omega (arith, length-take n buf) in
    subst (λ u. Takes files name u t) is (takes_more files name v t (take n buf) (ap (λ u. u.ahead) is ∙ none) (omega (arith, under, ap (λ u. u.place) is, ap (λ u. u.max) is)) refl
    refl ahead refl (ap (λ k. v.place + k) (sym count)) (λ taken at front. front_more files name taken buf v.place n at read front))

-- nothing is ahead, whatever the buffer holds
pub none_ahead : (at end : ℕ) (xs ys : List ℕ) → end ≤ length xs → take (end - at) (drop at xs) ≡ [] → take (end - at) (drop at ys) ≡ take (end - at) (drop at xs)
none_ahead at end xs ys within none =
    let empty : end - at ≡ 0 = omega (arith, length-take (end - at) (drop at xs), length-drop at xs, ap length none) in
    ap (λ k. take k (drop at ys)) empty ∙ sym none
