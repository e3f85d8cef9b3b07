-- What a loop over a body keeps: the bytes so far stand for what the last text grew by.
use Rattle.std.proofs.Common.{◌≡◌, ◌∙◌, ◌<◌, ◌≤◌, ◌+◌, ◌-◌, ℕ, length, List, [], ◌++◌, take, drop, sym, ap, subst, arith}
use Rattle.std.specs.Prelude.{encode_utf8}
use Rattle.std.proofs.lemmas.List.{length-drop, drop-drop, take_rest}
use Rattle.rdf_model.specs.Terms.{Text}
use Rattle.rdf_term.specs.declared.body.Form.{Form}
use Rattle.rdf_term.specs.declared.body.Stop.TheVariants.{Closed, Escape, Bad}
use Rattle.rdf_term.specs.Body.{IsPiece, IsRun, StopsAt, NoBody, IsBodyRead, IsBodyLeft}
use Rattle.rdf_term.specs.Room.{room_of, joined}
use Rattle.rdf_term.proofs.Pieces.{no_piece, pieces, piece_none, piece_closed, nothing_there}
use Rattle.rdf_term.proofs.ScratchTexts.{length-joined, joined-joined, joined-nil, room-joined}

pub record IsSoFar (form : Form) (bytes : List ℕ) (start now : List Text) (at : ℕ) : Type 0 where
  pub text : Text
  pub piece : IsPiece form bytes text at
  pub texts : now ≡ joined start text
  pub room : length bytes - at ≤ room_of now
  pub some : 0 < length now

-- what is left of the bytes, as a slice from a place on has it
abbrev pub left : List ℕ → ℕ → List ℕ
left bytes at = take (length bytes - at) (drop at bytes)

left_is : (bytes : List ℕ) (at : ℕ) → left bytes at ≡ drop at bytes
left_is bytes at = take_rest bytes at

pub at_start : (form : Form) (bytes : List ℕ) (start : List Text) → length bytes ≤ room_of start → 0 < length start → IsSoFar form bytes start start 0
at_start form bytes start room some = record { text = []; piece = no_piece form bytes; texts = sym (joined-nil start); room = omega arith; some = some }

more : (form : Form) (bytes : List ℕ) (start now : List Text) (at : ℕ) (text : Text) (n : ℕ) → IsSoFar form bytes start now at → IsPiece form (left bytes at) text n → IsSoFar form bytes start (joined now text) (at + n)
more form bytes start now at text n s p =
    let q : IsPiece form (drop at bytes) text n = subst (λ (z : List ℕ). IsPiece form z text n) (left_is bytes at) p in
    record {
      text = s.text ++ text;
      piece = pieces form bytes s.text text at n s.piece q;
      texts = ap (λ (z : List Text). joined z text) s.texts ∙ joined-joined start s.text text;
      room = omega (arith, s.room, p.no_longer, room-joined now text s.some);
      some = omega (arith, s.some, length-joined now text);
    }

pub after_run : (form : Form) (bytes : List ℕ) (start now new : List Text) (at : ℕ) (run : Text) → IsSoFar form bytes start now at → IsRun form (left bytes at) run → new ≡ joined now run
    → IsSoFar form bytes start new (at + length run)
after_run form bytes start now new at run s r is =
    subst (λ (z : List Text). IsSoFar form bytes start z (at + length run)) (sym is) (more form bytes start now at run (length run) s r.piece)

pub after_escape : (form : Form) (bytes : List ℕ) (start now new : List Text) (at c size : ℕ) (text : Text) → IsSoFar form bytes start now at → StopsAt form (left bytes at) (Escape c size) → text ≡ encode_utf8 c → new ≡ joined now text
    → IsSoFar form bytes start new (at + size)
after_escape form bytes start now new at c size text s e text_is is =
    subst (λ (z : List Text). IsSoFar form bytes start z (at + size)) (sym (is ∙ ap (joined now) text_is)) (more form bytes start now at (encode_utf8 c) size s e.1)

-- what is added has room
pub fits_room : (form : Form) (bytes : List ℕ) (start now : List Text) (at : ℕ) (text : Text) (n : ℕ) → IsSoFar form bytes start now at → IsPiece form (left bytes at) text n → (length text ≤ room_of now) × (at + n ≤ length bytes)
fits_room form bytes start now at text n s p =
    let le : n ≤ length bytes - at = omega (arith, p.within, ap length (left_is bytes at), length-drop at bytes) in
    (omega (arith, le, p.no_longer, s.room), omega (arith, le, s.piece.within))

-- a stop begins where the run ended
pub ends_there : (bytes : List ℕ) (at n : ℕ) → drop n (left bytes at) ≡ left bytes (at + n)
ends_there bytes at n = ap (drop n) (left_is bytes at) ∙ drop-drop n at bytes ∙ sym (left_is bytes (at + n))

pub none_behind : (form : Form) (bytes : List ℕ) (start now : List Text) (at : ℕ) → IsSoFar form bytes start now at → NoBody form (left bytes at) → IsBodyLeft form bytes start now
none_behind form bytes start now at s none = record {
  none = piece_none form bytes s.text at s.piece (subst (λ (z : List ℕ). NoBody form z) (left_is bytes at) none);
  piece = s.text;
  texts = s.texts;
}

pub bad_behind : (form : Form) (bytes : List ℕ) (start now : List Text) (at : ℕ) → IsSoFar form bytes start now at → StopsAt form (left bytes at) Bad → IsBodyLeft form bytes start now
bad_behind form bytes start now at s bad = none_behind form bytes start now at s (nothing_there form (left bytes at) bad)

pub closed_behind : (form : Form) (bytes : List ℕ) (start now : List Text) (at : ℕ) → IsSoFar form bytes start now at → StopsAt form (left bytes at) Closed → IsBodyRead form bytes start now (at + 1)
closed_behind form bytes start now at s closed =
    let here : StopsAt form (drop at bytes) Closed = subst (λ (z : List ℕ). StopsAt form z Closed) (left_is bytes at) closed in
    let w = piece_closed form bytes s.text at s.piece here.1 here.2 in
    record { text = s.text; found = w.found; utf8 = w.utf8; within = omega (arith, here.0, length-drop at bytes); no_longer = omega (arith, s.piece.no_longer); texts = s.texts }
