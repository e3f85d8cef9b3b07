-- Pieces that are put one after another.
use Rattle.std.proofs.Common.{◌≡◌, ◌∙◌, ℕ, ◌+◌, ◌<◌, List, [], ◌∷◌, ◌++◌, length, get_or, take, drop, sym, ap, append_assoc, append-nil, subst}
use Rattle.std.specs.declared.option.Option.{Option}
use Rattle.std.specs.Io.KnownBytes.{append_known}
use Rattle.std.specs.List.{flat_map}
use Rattle.std.proofs.lemmas.Grind.{flat_map-append}
use Rattle.std.proofs.lemmas.List.{take_more, take-append-drop}
use Rattle.tn_io.specs.Known.{Begins}
use Rattle.tn_io.proofs.KnownLemmas.{append_known-append, begins_more}

module _ {X : Type 0} (f : X → List ℕ) where
  joined_more : (xs : List X) (i : ℕ) (d : X) → i < length xs → flat_map f (take (i + 1) xs) ≡ flat_map f (take i xs) ++ f (get_or xs i d)
  joined_more xs i d h = ap (flat_map f) (take_more xs i d h) ∙ flat_map-append f (take i xs) (get_or xs i d ∷ []) ∙ ap (λ z. flat_map f (take i xs) ++ z) (append-nil (f (get_or xs i d)))

  joined_rest : (xs : List X) (i : ℕ) (d : X) → i < length xs → flat_map f xs ≡ (flat_map f (take i xs) ++ f (get_or xs i d)) ++ flat_map f (drop (i + 1) xs)
  joined_rest xs i d h = ap (flat_map f) (sym (take-append-drop (i + 1) xs)) ∙ flat_map-append f (take (i + 1) xs) (drop (i + 1) xs) ∙ ap (λ z. z ++ flat_map f (drop (i + 1) xs)) (joined_more xs i d h)

  -- one more of the pieces was put
  pub put_more : (a b c : Option (List ℕ)) (xs : List X) (i : ℕ) (d : X) → i < length xs → b ≡ append_known a (flat_map f (take i xs)) → c ≡ append_known b (f (get_or xs i d)) → c ≡ append_known a (flat_map f (take (i + 1) xs))
  put_more a b c xs i d h e g = g ∙ ap (λ z. append_known z (f (get_or xs i d))) e ∙ append_known-append a (flat_map f (take i xs)) (f (get_or xs i d)) ∙ ap (append_known a) (sym (joined_more xs i d h))

  -- one of the pieces was cut off
  pub put_cut : (a b w : Option (List ℕ)) (xs : List X) (i : ℕ) (d : X) → i < length xs → b ≡ append_known a (flat_map f (take i xs)) → Begins w (append_known b (f (get_or xs i d))) → Begins w (append_known a (flat_map f xs))
  put_cut a b w xs i d h e g =
      let front = flat_map f (take i xs) in
      let piece = f (get_or xs i d) in
      let rest = flat_map f (drop (i + 1) xs) in
      subst (Begins w)
      (append_known-append (append_known a front) piece rest ∙ append_known-append a front (piece ++ rest) ∙ ap (append_known a) (sym (append_assoc front piece rest) ∙ sym (joined_rest xs i d h)))
      (begins_more w (append_known (append_known a front) piece) rest (subst (λ z. Begins w (append_known z piece)) e g))

-- a number between two texts
pub number_joined : (a x n b : List ℕ) → x ≡ n → a ++ (x ++ b) ≡ (a ++ n) ++ b
number_joined a x n b e = ap (λ z. a ++ (z ++ b)) e ∙ sym (append_assoc a n b)
