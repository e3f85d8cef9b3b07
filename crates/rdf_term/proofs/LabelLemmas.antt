-- What the loop over a label keeps.
use Rattle.std.proofs.Common.{◌≡◌, ◌∙◌, ◌<◌, ◌≤◌, ◌+◌, ◌-◌, ℕ, suc, Bool, true, false, cond, ◌&&◌, ◌||◌, length, List, [], ◌∷◌, ◌++◌, take, drop, refl, sym, ap, subst, arith, append_assoc, Some, None}
use Rattle.std.specs.Prelude.{IsUtf8, ◌==◌}
use Rattle.std.specs.List.{AllByRecursion}
use Rattle.std.specs.Char.{encode_utf8}
use Rattle.std.specs.Str.{encode_utf8_all}
use Rattle.std.proofs.lemmas.Str.{encodes-append}
use Rattle.std.proofs.lemmas.List.{append-nil, length-drop, length-take, drop-drop, take_rest}
use Rattle.std.proofs.lemmas.Bool.Decides.{nat_tests}
use Rattle.std.proofs.Math.Seq.{take-append_seam, take-add}
use Rattle.rdf_model.specs.Terms.{Text}
use Rattle.ntriples_model.specs.Characters.{is_pn_chars, is_pn_chars_u, is_pn_chars_base, is_label_start}
use Rattle.ntriples_model.specs.Terminals.{front_chars, label_chars, label_rest, label_at, some_text}
use Rattle.ntriples_model.proofs.Bodies.{Found, is_same}
use Rattle.ntriples_model.proofs.Escapes.{both}
use Rattle.ntriples_model.proofs.Labels.{dotted_only, label_scalars}
use Rattle.ntriples_model.proofs.FrontChars.{front_scalars}
use Rattle.rdf_term.specs.Front.{IsFirstChar}
use Rattle.rdf_term.specs.Read.{IsRead}

-- `front` is the label so far, and `stops` the full stops behind it
pub record IsLabelSoFar (bytes : List ℕ) (end at : ℕ) : Type 0 where
  pub front : List ℕ
  pub stops : List ℕ
  pub each : AllByRecursion (λ x. x ≡ 46) stops
  pub taken : take end bytes ≡ encode_utf8_all front
  pub seen : take at bytes ≡ encode_utf8_all (front ++ stops)
  pub goes_on : label_chars (front_chars bytes) ≡ front ++ label_rest (stops ++ front_chars (drop at bytes))
  pub before : end ≤ at
  pub within : at ≤ length bytes

stop_is_no_char : is_pn_chars 46 ≡ false
unfolding is_pn_chars is_pn_chars_u is_pn_chars_base
stop_is_no_char = refl

or_true : (b : Bool) → (b || true) ≡ true
or_true true = refl
or_true false = refl

inner_stops : (stops : List ℕ) → AllByRecursion (λ x. x ≡ 46) stops → AllByRecursion (λ c. (is_pn_chars c || c == 46) ≡ true) stops
inner_stops [] h = tt
inner_stops (x ∷ stops) h = (subst (λ (y : ℕ). (is_pn_chars y || y == 46) ≡ true) (sym h.0) (or_true (is_pn_chars 46)), inner_stops stops h.1)

one_more : (stops : List ℕ) (c : ℕ) → c ≡ 46 → AllByRecursion (λ x. x ≡ 46) stops → AllByRecursion (λ x. x ≡ 46) (stops ++ c ∷ [])
one_more [] c is h = (is, tt)
one_more (x ∷ stops) c is h = (h.0, one_more stops c is h.1)

-- stops with no more of the label behind them are no part of it
stops_end : (stops rest : List ℕ) → AllByRecursion (λ x. x ≡ 46) stops → label_rest rest ≡ [] → label_rest (stops ++ rest) ≡ []
unfolding label_rest
stops_end [] rest h none = none
stops_end (x ∷ stops) rest h none =
    let inner = stops_end stops rest h.1 none in
    rw (h.0, stop_is_no_char, inner) refl

other : (a b : ℕ) → (a ≡ b → ⊥) → (a == b) ≡ false
other a b h = grind (arith, nat_tests)

ends_at : (c : ℕ) (rest : List ℕ) → is_pn_chars c ≡ false → (c ≡ 46 → ⊥) → label_rest (c ∷ rest) ≡ []
unfolding label_rest
ends_at c rest h no_stop = rw (h, other c 46 no_stop) refl

nothing_left : label_rest [] ≡ []
unfolding label_rest
nothing_left = refl

-- no label

pub no_char : (bytes : List ℕ) → front_chars bytes ≡ [] → label_chars (front_chars bytes) ≡ []
unfolding label_chars
no_char bytes h = rw h refl

pub no_start : (bytes : List ℕ) (c n : ℕ) → IsFirstChar bytes c n → is_label_start c ≡ false → label_chars (front_chars bytes) ≡ []
unfolding label_chars
no_start bytes c n first h = rw (first.front, h) refl

-- the label begins
char_taken : (bytes : List ℕ) (c n : ℕ) → IsFirstChar bytes c n → take n bytes ≡ encode_utf8_all (c ∷ [])
char_taken bytes c n first =
    ap (take n) first.splits ∙ ap (λ (k : ℕ). take k (encode_utf8 c ++ drop n bytes)) first.size ∙ take-append_seam (encode_utf8 c) (drop n bytes) ∙ sym (append-nil (encode_utf8 c))

pub label_begins : (bytes : List ℕ) (c n : ℕ) → IsFirstChar bytes c n → is_label_start c ≡ true → IsLabelSoFar bytes n n
unfolding label_chars
label_begins bytes c n first h = record {
  front = c ∷ [];
  stops = [];
  each = tt;
  taken = char_taken bytes c n first;
  seen = char_taken bytes c n first;
  goes_on = rw (first.front, h) refl;
  before = omega arith;
  within = first.within;
}

-- the character that begins what is left
first_left : (bytes : List ℕ) (at c n : ℕ) → IsFirstChar (take (length bytes - at) (drop at bytes)) c n → IsFirstChar (drop at bytes) c n
first_left bytes at c n first = subst (λ (z : List ℕ). IsFirstChar z c n) (take_rest bytes at) first

seen_more : (bytes front : List ℕ) (at c n : ℕ) → take at bytes ≡ encode_utf8_all front → IsFirstChar (drop at bytes) c n → take (at + n) bytes ≡ encode_utf8_all (front ++ c ∷ [])
seen_more bytes front at c n seen first =
    take-add at n bytes ∙ ap (λ (z : List ℕ). z ++ take n (drop at bytes)) seen ∙ ap (λ (z : List ℕ). encode_utf8_all front ++ z) (char_taken (drop at bytes) c n first) ∙ sym (encodes-append front (c ∷ []))

pub char_more : (bytes : List ℕ) (end at c n : ℕ) → IsLabelSoFar bytes end at → IsFirstChar (take (length bytes - at) (drop at bytes)) c n → is_pn_chars c ≡ true → IsLabelSoFar bytes (at + n) (at + n)
char_more bytes end at c n s first_is h =
    let first = first_left bytes at c n first_is in
    let rest : List ℕ = front_chars (drop (at + n) bytes) in
    let behind : front_chars (drop at bytes) ≡ c ∷ rest = first.front ∙ ap (λ (z : List ℕ). c ∷ front_chars z) (drop-drop n at bytes) in
    let seen : take (at + n) bytes ≡ encode_utf8_all ((s.front ++ s.stops) ++ c ∷ []) = seen_more bytes (s.front ++ s.stops) at c n s.seen first in
    let all : List ℕ = (s.front ++ s.stops) ++ c ∷ [] in
    record {
      front = all;
      stops = [];
      each = tt;
      taken = seen;
      seen = seen ∙ ap encode_utf8_all (sym (append-nil all));
      goes_on = s.goes_on ∙ ap (λ (z : List ℕ). s.front ++ label_rest (s.stops ++ z)) behind
          ∙ ap (λ (z : List ℕ). s.front ++ z) (dotted_only s.stops c rest (inner_stops s.stops s.each) h)
          ∙ simp append_assoc;
      before = omega arith;
      within = omega (arith, first.within, length-drop at bytes, s.within);
    }

pub stop_more : (bytes : List ℕ) (end at c n : ℕ) → IsLabelSoFar bytes end at → IsFirstChar (take (length bytes - at) (drop at bytes)) c n → c ≡ 46 → IsLabelSoFar bytes end (at + n)
stop_more bytes end at c n s first_is is =
    let first = first_left bytes at c n first_is in
    let rest : List ℕ = front_chars (drop (at + n) bytes) in
    let behind : front_chars (drop at bytes) ≡ c ∷ rest = first.front ∙ ap (λ (z : List ℕ). c ∷ front_chars z) (drop-drop n at bytes) in
    record {
      front = s.front;
      stops = s.stops ++ c ∷ [];
      each = one_more s.stops c is s.each;
      taken = s.taken;
      seen = seen_more bytes (s.front ++ s.stops) at c n s.seen first ∙ ap encode_utf8_all (append_assoc s.front s.stops (c ∷ []));
      goes_on = s.goes_on ∙ ap (λ (z : List ℕ). s.front ++ label_rest (s.stops ++ z)) behind ∙ ap (λ (z : List ℕ). s.front ++ label_rest z) (sym (append_assoc s.stops (c ∷ []) rest));
      before = omega (arith, s.before);
      within = omega (arith, first.within, length-drop at bytes, s.within);
    }

label_is : (bytes : List ℕ) (end at : ℕ) → (s : IsLabelSoFar bytes end at) → label_rest (s.stops ++ front_chars (drop at bytes)) ≡ [] → take end bytes ≡ encode_utf8_all (label_chars (front_chars bytes))
label_is bytes end at s none =
    s.taken ∙ ap encode_utf8_all (sym (append-nil s.front) ∙ ap (λ (z : List ℕ). s.front ++ z) (sym none) ∙ sym s.goes_on)

pub label_at_end : (bytes : List ℕ) (end at : ℕ) → IsLabelSoFar bytes end at → front_chars (take (length bytes - at) (drop at bytes)) ≡ [] → take end bytes ≡ encode_utf8_all (label_chars (front_chars bytes))
label_at_end bytes end at s none =
    let left : front_chars (drop at bytes) ≡ [] = ap front_chars (sym (take_rest bytes at)) ∙ none in
    label_is bytes end at s (stops_end s.stops (front_chars (drop at bytes)) s.each (ap label_rest left ∙ nothing_left))

pub label_at_other : (bytes : List ℕ) (end at c n : ℕ) → IsLabelSoFar bytes end at → IsFirstChar (take (length bytes - at) (drop at bytes)) c n → is_pn_chars c ≡ false → (c ≡ 46 → ⊥)
    → take end bytes ≡ encode_utf8_all (label_chars (front_chars bytes))
label_at_other bytes end at c n s first_is h no_stop =
    let first = first_left bytes at c n first_is in
    label_is bytes end at s (stops_end s.stops (front_chars (drop at bytes)) s.each (ap label_rest first.front ∙ ends_at c _ h no_stop))

-- The whole label

pub no_label : (bytes : List ℕ) → ((rest : List ℕ) → bytes ≡ 95 ∷ 58 ∷ rest → ⊥) → label_at bytes ≡ None
unfolding label_at
no_label [] h = refl
no_label (b ∷ []) h = elim (b == 95) as (λ e. cond {A = Found} (e && false) (some_text (λ t. t) (encode_utf8_all (label_chars (front_chars []))) []) None ≡ None) [ true ↦ refl | false ↦ refl ]
no_label (b ∷ c ∷ bs) h =
    elim (b == 95 && c == 58) as (λ e. (b == 95 && c == 58) ≡ e → cond {A = Found} e (some_text (λ t. t) (encode_utf8_all (label_chars (front_chars bs))) bs) None ≡ None) [
      | true ↦ λ e. let p = both (b == 95) (c == 58) e in absurd (h bs (ap (λ x. x ∷ c ∷ bs) (is_same b 95 p.0) ∙ ap (λ x. 95 ∷ x ∷ bs) (is_same c 58 p.1)))
      | false ↦ λ e. refl
    ] refl

label_behind : (bytes name : List ℕ) → bytes ≡ 95 ∷ 58 ∷ name → label_at bytes ≡ some_text (λ t. t) (encode_utf8_all (label_chars (front_chars name))) name
unfolding label_at
label_behind bytes name is = rw is refl

pub empty_label : (bytes name : List ℕ) (n : ℕ) → bytes ≡ 95 ∷ 58 ∷ name → n ≡ 0 → take n name ≡ encode_utf8_all (label_chars (front_chars name)) → label_at bytes ≡ None
empty_label bytes name n is none label =
    label_behind bytes name is ∙ ap (λ (z : Text). some_text (λ t. t) z name) (sym label ∙ ap (λ (k : ℕ). take k name) none)

some_text_is : (t name : List ℕ) → 0 < length t → some_text (λ z. z) t name ≡ Some (t, drop (length t) name)
some_text_is [] name h = absurd (omega arith)
some_text_is (c ∷ t) name h = refl

pub label_read : (bytes name label : List ℕ) (n : ℕ) (old new : List Text) → bytes ≡ 95 ∷ 58 ∷ name → (n ≡ 0 → ⊥) → n ≤ length name → take n name ≡ encode_utf8_all (label_chars (front_chars name)) → label ≡ take n name
    → new ≡ old ++ label ∷ [] → IsRead (label_at bytes) bytes old new (n + 2)
label_read bytes name label n old new is some within label_is text_is texts =
    let size : length label ≡ n = omega (arith, length-take n name, ap length text_is) in
    let two : n + 2 ≡ suc (suc n) = omega arith in
    let behind : drop (length label) name ≡ drop (n + 2) bytes = ap (λ (k : ℕ). drop k name) size ∙ ap (λ (k : ℕ). drop k (95 ∷ 58 ∷ name)) (sym two) ∙ ap (drop (n + 2)) (sym is) in
    record {
      text = label;
      is = label_behind bytes name is ∙ ap (λ (z : Text). some_text (λ t. t) z name) (sym label_is ∙ sym text_is) ∙ some_text_is label name (omega (arith, size, some))
          ∙ ap (λ (z : Text). Some (let q : Text × Text = (label, z) in q)) behind;
      texts = texts;
      within = omega (arith, within, ap length is);
      no_longer = omega (arith, size);
    }

pub label_utf8 : (name : List ℕ) (n : ℕ) → take n name ≡ encode_utf8_all (label_chars (front_chars name)) → IsUtf8 (take n name)
label_utf8 name n is = subst IsUtf8 (sym is) (label_chars (front_chars name), (label_scalars (front_chars name) (front_scalars name), refl))
