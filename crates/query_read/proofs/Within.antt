-- A list from one place up to another.
use Rattle.std.proofs.Common.{◌≡◌, ◌∙◌, ℕ, zero, suc, ◌+◌, ◌-◌, ◌<◌, ◌≤◌, List, [], ◌∷◌, length, take, drop, get_or, refl, sym, ap, add-one, arith}

pub drop_there : {A : Type 0} (xs : List A) (x : A) (i : ℕ) → i < length xs → x ≡ get_or xs i x → drop i xs ≡ x ∷ drop (i + 1) xs
drop_there [] x i h e = absurd (omega arith)
drop_there (y ∷ xs) x zero h e = ap (λ z. z ∷ xs) (sym e)
drop_there (y ∷ xs) x (suc i) h e = rw add-one (drop_there_suc xs x i (omega arith) e)
  where
    drop_there_suc : {A : Type 0} (xs : List A) (x : A) (i : ℕ) → i < length xs → x ≡ get_or xs i x → drop i xs ≡ x ∷ drop (suc i) xs
    drop_there_suc [] x i h e = absurd (omega arith)
    drop_there_suc (y ∷ xs) x zero h e = ap (λ z. z ∷ xs) (sym e)
    drop_there_suc (y ∷ xs) x (suc i) h e = drop_there_suc xs x i (omega arith) e

pub drop_get : {A : Type 0} (xs : List A) (i : ℕ) (d : A) → i < length xs → drop i xs ≡ get_or xs i d ∷ drop (i + 1) xs
drop_get xs i d h = rw add-one (drop_by xs i d h)
  where
    drop_by : {A : Type 0} (xs : List A) (i : ℕ) (d : A) → i < length xs → drop i xs ≡ get_or xs i d ∷ drop (suc i) xs
    drop_by [] i d h = absurd (omega arith)
    drop_by (x ∷ xs) zero d h = refl
    drop_by (x ∷ xs) (suc i) d h = drop_by xs i d (omega arith)

take_more : {A : Type 0} (n m : ℕ) (x : A) (xs : List A) → n ≡ suc m → take n (x ∷ xs) ≡ x ∷ take m xs
take_more n m x xs e = ap (λ (k : ℕ). take k (x ∷ xs)) e

pub within_cons : {A : Type 0} (xs : List A) (x : A) (i to : ℕ) → i < to → to ≤ length xs → x ≡ get_or xs i x → take (to - i) (drop i xs) ≡ x ∷ take (to - (i + 1)) (drop (i + 1) xs)
within_cons xs x i to h k e =
    ap (take (to - i)) (drop_there xs x i (omega arith) e) ∙ take_more (to - i) (to - (i + 1)) x (drop (i + 1) xs) (omega arith)

pub within_none : {A : Type 0} (xs : List A) (i to : ℕ) → to ≤ i → take (to - i) (drop i xs) ≡ []
within_none xs i to h = let none : to - i ≡ 0 = omega arith in ap (λ (n : ℕ). take n (drop i xs)) none
