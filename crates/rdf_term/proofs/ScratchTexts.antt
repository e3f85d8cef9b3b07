-- The texts of a Scratch.
use Rattle.std.proofs.Common.{◌≡◌, ℕ, suc, ◌+◌, ◌-◌, ◌<◌, List, [], ◌∷◌, ◌++◌, length, take, refl, ap, append_assoc, length-append, arith}
use Rattle.std.specs.Prelude.{sum_by}
use Rattle.std.proofs.lemmas.List.{append-nil}
use Rattle.std.proofs.lemmas.List.Sums.{sum_by-cons, sum_by-append}
use Rattle.std.proofs.Math.Seq.{take-append_seam}
use Rattle.rdf_term.specs.Room.{room_of, joined}

pub length-joined : (ts : List (List ℕ)) (p : List ℕ) → length (joined ts p) ≡ length ts
length-joined [] p = refl
length-joined (t ∷ []) p = refl
length-joined (t ∷ u ∷ ts) p = ap suc (length-joined (u ∷ ts) p)

pub joined-joined : (ts : List (List ℕ)) (p q : List ℕ) → joined (joined ts p) q ≡ joined ts (p ++ q)
joined-joined [] p q = refl
joined-joined (t ∷ []) p q = ap (λ x. x ∷ []) (append_assoc t p q)
joined-joined (t ∷ u ∷ []) p q = ap (λ x. t ∷ x ∷ []) (append_assoc u p q)
joined-joined (t ∷ u ∷ v ∷ ts) p q = ap (λ z. t ∷ z) (joined-joined (u ∷ v ∷ ts) p q)

pub joined-nil : (ts : List (List ℕ)) → joined ts [] ≡ ts
joined-nil [] = refl
joined-nil (t ∷ []) = ap (λ x. x ∷ []) (append-nil t)
joined-nil (t ∷ u ∷ ts) = ap (λ z. t ∷ z) (joined-nil (u ∷ ts))

pub joined-last : (ts : List (List ℕ)) (t p : List ℕ) → joined (ts ++ t ∷ []) p ≡ ts ++ (t ++ p) ∷ []
joined-last [] t p = refl
joined-last (u ∷ []) t p = refl
joined-last (u ∷ v ∷ ts) t p = ap (λ z. u ∷ z) (joined-last (v ∷ ts) t p)

sum-joined : (ts : List (List ℕ)) (p : List ℕ) → 0 < length ts → sum_by length (joined ts p) ≡ sum_by length ts + length p
sum-joined [] p h = absurd (omega arith)
sum-joined (t ∷ []) p h = omega (arith, sum_by-cons length (t ++ p) [], sum_by-cons length t [], length-append t p)
sum-joined (t ∷ u ∷ ts) p h =
    omega (arith, sum_by-cons length t (joined (u ∷ ts) p), sum_by-cons length t (u ∷ ts), sum-joined (u ∷ ts) p (omega arith))

pub room-joined : (ts : List (List ℕ)) (p : List ℕ) → 0 < length ts → room_of (joined ts p) ≡ room_of ts - length p
room-joined ts p h = omega (arith, sum-joined ts p h)

pub room-added : (ts : List (List ℕ)) → room_of (ts ++ [] ∷ []) ≡ room_of ts
room-added ts = omega (arith, sum_by-append (length {A = ℕ}) ts ([] ∷ []), sum_by-cons (length {A = ℕ}) [] [])

pub dropped : (ts : List (List ℕ)) (t : List ℕ) → take (length (ts ++ t ∷ []) - 1) (ts ++ t ∷ []) ≡ ts
dropped ts t =
    let n : length (ts ++ t ∷ []) - 1 ≡ length ts = omega (arith, length-append ts (t ∷ [])) in
    rw n (take-append_seam ts (t ∷ []))
