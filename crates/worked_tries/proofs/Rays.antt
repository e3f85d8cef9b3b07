-- The triples of a star that is built, each once.
use Rattle.std.specs.Prelude.{◌≡◌, ℕ, zero, suc, ◌+◌, ◌-◌, ◌<◌, ◌≤◌, List, ◌∷◌, [], true, false, cond, ◌++◌, length, map, refl}
use Rattle.std.proofs.Common.{sym, ◌∙◌, ap, append_assoc, append-nil, arith}
use Rattle.std.proofs.lemmas.Bool.{false_from_ne_true}
use Rattle.std.proofs.lemmas.Cmp.{lists_total}
use Rattle.std.specs.List.{list_any}
use Rattle.std.specs.Ordering.{nat_cmp, eq_by_cmp}
use Rattle.std.specs.Cmp.{nat_cmp_total as total}
use Rattle.std.specs.Cmp.Lexicographic.{slice_cmp}
use Rattle.std.specs.FinMap.{nat_cmp-IsAntisymmetric as exact}
use Rattle.std.specs.FinSet.{slice_cmp-IsAntisymmetric}
use Rattle.std.specs.FinSet as set
use Rattle.hypertrie_model.specs.SetLaws.{tied-is, or_cases}
use Rattle.hypertrie_model.specs.Sets.{has}
use Rattle.trie_depth.specs.declared.id.Trip.{Trip}
use Rattle.trie_depth.specs.Tuples.{trip_tuple}
use Rattle.trie_change.specs.Batches.{set_of_entries, IsOnce}
use Rattle.worked_tries.specs.Star.{IsStar, rays}

-- a triple of the list
record IsListed (k n : ℕ) (x : List ℕ) : Type 0 where
  object : ℕ
  is : x ≡ 0 ∷ 1 ∷ object ∷ []
  low : k ≤ object

listed : (k n : ℕ) (x : List ℕ) → list_any (eq_by_cmp (slice_cmp nat_cmp) x) (map trip_tuple (rays k n)) ≡ true → IsListed k n x
listed k zero x e = absurd (let f : false ≡ true = e in let z : ⊥ = cc in z)
listed k (suc n) x e = or_cases (eq_by_cmp (slice_cmp nat_cmp) x (0 ∷ 1 ∷ k ∷ [])) (list_any (eq_by_cmp (slice_cmp nat_cmp) x) (map trip_tuple (rays (suc k) n))) e _
    (λ here. record { object = k; is = tied-is (slice_cmp-IsAntisymmetric exact) x (0 ∷ 1 ∷ k ∷ []) here; low = omega arith })
    (λ rest. let r = listed (suc k) n x rest in record { object = r.object; is = r.is; low = let l = r.low in omega arith })

in_rays : (k n : ℕ) (x : List ℕ) → has (set_of_entries trip_tuple (rays k n)) x ≡ true → IsListed k n x
in_rays k n x there = listed k n x (sym (set.contains-from_list (lists_total total) (map trip_tuple (rays k n)) x) ∙ there)

pub rays_length : (k n : ℕ) → length (rays k n) ≡ n
rays_length k zero = refl
rays_length k (suc n) = ap suc (rays_length (suc k) n)

pub rays_once : (k n : ℕ) → IsOnce trip_tuple (rays k n)
rays_once k zero = set.len-empty (slice_cmp nat_cmp)
rays_once k (suc n) =
    let rest = set_of_entries trip_tuple (rays (suc k) n) in
    let new : has rest (0 ∷ 1 ∷ k ∷ []) ≡ false = false_from_ne_true _ (λ there.
    let r = in_rays (suc k) n (0 ∷ 1 ∷ k ∷ []) there in
    let e = r.is in
    let same : k ≡ r.object = cc in
    omega (arith, r.low, same)) in
    set.len-insert (lists_total total) rest (0 ∷ 1 ∷ k ∷ [])
    ∙ ap (λ b. cond b (set.len rest) (set.len rest + 1)) new
    ∙ (let ind = rays_once (suc k) n in omega arith)

pub rays_star : (n : ℕ) → 0 < n → IsStar 0 1 2 3 4 (set_of_entries trip_tuple (rays 5 n))
rays_star zero some = absurd (omega arith)
rays_star (suc n) some = record {
  some = (0 ∷ 1 ∷ 5 ∷ [], set.contains-from_list (lists_total total) (map trip_tuple (rays 5 (suc n))) (0 ∷ 1 ∷ 5 ∷ []) ∙ refl);
  rays = λ x there.
      let r = in_rays 5 (suc n) x there in
      let l = r.low in
      record { object = r.object; is = r.is; other = (λ e. omega arith, (λ e. omega arith, (λ e. omega arith, (λ e. omega arith, (λ e. omega arith, tt))))) };
  different = (
    (λ e. omega arith, (λ e. omega arith, (λ e. omega arith, (λ e. omega arith, tt)))),
    (
      (λ e. omega arith, (λ e. omega arith, (λ e. omega arith, tt))),
      ((λ e. omega arith, (λ e. omega arith, tt)), ((λ e. omega arith, tt), (tt, tt))),
    ),
  );
}

abbrev ray : ℕ → Trip
ray k = record { 0 = record { 0 = 0 }; 1 = record { 0 = 1 }; 2 = record { 0 = k } }

rays_next : (n m : ℕ) → n < m → rays (5 + n) (m - n) ≡ ray (5 + n) ∷ rays (5 + (n + 1)) (m - (n + 1))
rays_next n m below =
    let one_more : m - n ≡ suc (m - (n + 1)) = omega arith in
    let next : suc (5 + n) ≡ 5 + (n + 1) = omega arith in
    ap (rays (5 + n)) one_more ∙ ap (λ k. ray (5 + n) ∷ rays k (m - (n + 1))) next

pub rays_pushed : (xs : List Trip) (n m : ℕ) → n < m → xs ++ rays (5 + n) (m - n) ≡ rays 5 m → (xs ++ (ray (5 + n) ∷ [])) ++ rays (5 + (n + 1)) (m - (n + 1)) ≡ rays 5 m
rays_pushed xs n m below h = append_assoc xs (ray (5 + n) ∷ []) (rays (5 + (n + 1)) (m - (n + 1))) ∙ ap (λ ys. xs ++ ys) (sym (rays_next n m below)) ∙ h

pub rays_all : (xs : List Trip) (n m : ℕ) → m ≤ n → xs ++ rays (5 + n) (m - n) ≡ rays 5 m → xs ≡ rays 5 m
rays_all xs n m all h = let none : m - n ≡ 0 = omega arith in sym (append-nil xs) ∙ ap (λ k. xs ++ rays (5 + n) k) (sym none) ∙ h
