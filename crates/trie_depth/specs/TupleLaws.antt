-- The laws of the three levels.
use Rattle.std.specs.Prelude.{◌≡◌, ℕ, zero, suc, ◌<◌, ◌≤◌, List, [], slice_index, refl}
use Rattle.std.specs.List.{insert, remove}
use Rattle.std.proofs.Common.{arith, ap}
use Rattle.trie_depth.specs.declared.id.Id.{Id}
use Rattle.trie_depth.specs.declared.id.Pair.{Pair}
use Rattle.trie_depth.specs.declared.id.Trip.{Trip}
use Rattle.trie_depth.specs.Tuples.{id_tuple, pair_tuple, trip_tuple, pair_key, pair_without, pair_with, trip_key, trip_without, trip_with}

pub one_low : 1 ≤ 1
one_low = omega arith

pub one_high : 1 ≤ 3
one_high = omega arith

pub two_low : 1 ≤ 2
two_low = omega arith

pub two_high : 2 ≤ 3
two_high = omega arith

pub three_low : 1 ≤ 3
three_low = omega arith

pub three_high : 3 ≤ 3
three_high = omega arith

pub id_tuple_key : (e : Id) (i : ℕ) → i < 1 → e.0 ≡ slice_index (id_tuple e) i
id_tuple_key e zero h = refl
id_tuple_key e (suc i) h = absurd (omega arith)

pub id_tuple_without : (e : Id) (i : ℕ) → i < 1 → [] ≡ remove (id_tuple e) i
id_tuple_without e zero h = refl
id_tuple_without e (suc i) h = absurd (omega arith)

pub id_tuple_with : (e : Unit {0}) (i : ℕ) (k : Id) → i < 1 → id_tuple k ≡ insert [] i k.0
id_tuple_with e zero k h = refl
id_tuple_with e (suc i) k h = absurd (omega arith)

same_at : (t u : List ℕ) (i : ℕ) → t ≡ u → slice_index t i ≡ slice_index u i
same_at t u i e = ap (λ s. slice_index s i) e

pub id_tuple_names : (e f : Id) → id_tuple e ≡ id_tuple f → e ≡ f
id_tuple_names e f is = λ j. record { 0 = same_at _ _ 0 is j }

pub pair_key_with : (e : Id) (i : ℕ) (k : Id) → i < 2 → pair_key (pair_with e i k) i ≡ k
pair_key_with e zero k h = refl
pair_key_with e (suc i) k h = refl

pub pair_without_with : (e : Id) (i : ℕ) (k : Id) → i < 2 → pair_without (pair_with e i k) i ≡ e
pair_without_with e zero k h = refl
pair_without_with e (suc i) k h = refl

pub pair_with_without : (e : Pair) (i : ℕ) → i < 2 → pair_with (pair_without e i) i (pair_key e i) ≡ e
pair_with_without e zero h = refl
pair_with_without e (suc i) h = refl

pub pair_tuple_key : (e : Pair) (i : ℕ) → i < 2 → (pair_key e i).0 ≡ slice_index (pair_tuple e) i
pair_tuple_key e zero h = refl
pair_tuple_key e (suc zero) h = refl
pair_tuple_key e (suc (suc i)) h = absurd (omega arith)

pub pair_tuple_without : (e : Pair) (i : ℕ) → i < 2 → id_tuple (pair_without e i) ≡ remove (pair_tuple e) i
pair_tuple_without e zero h = refl
pair_tuple_without e (suc zero) h = refl
pair_tuple_without e (suc (suc i)) h = absurd (omega arith)

pub pair_tuple_with : (e : Id) (i : ℕ) (k : Id) → i < 2 → pair_tuple (pair_with e i k) ≡ insert (id_tuple e) i k.0
pair_tuple_with e zero k h = refl
pair_tuple_with e (suc zero) k h = refl
pair_tuple_with e (suc (suc i)) k h = absurd (omega arith)

pub pair_tuple_names : (e f : Pair) → pair_tuple e ≡ pair_tuple f → e ≡ f
pair_tuple_names e f is = λ j. record { 0 = record { 0 = same_at _ _ 0 is j }; 1 = record { 0 = same_at _ _ 1 is j } }

pub trip_key_with : (e : Pair) (i : ℕ) (k : Id) → i < 3 → trip_key (trip_with e i k) i ≡ k
trip_key_with e zero k h = refl
trip_key_with e (suc zero) k h = refl
trip_key_with e (suc (suc i)) k h = refl

pub trip_without_with : (e : Pair) (i : ℕ) (k : Id) → i < 3 → trip_without (trip_with e i k) i ≡ e
trip_without_with e zero k h = refl
trip_without_with e (suc zero) k h = refl
trip_without_with e (suc (suc i)) k h = refl

pub trip_with_without : (e : Trip) (i : ℕ) → i < 3 → trip_with (trip_without e i) i (trip_key e i) ≡ e
trip_with_without e zero h = refl
trip_with_without e (suc zero) h = refl
trip_with_without e (suc (suc i)) h = refl

pub trip_tuple_key : (e : Trip) (i : ℕ) → i < 3 → (trip_key e i).0 ≡ slice_index (trip_tuple e) i
trip_tuple_key e zero h = refl
trip_tuple_key e (suc zero) h = refl
trip_tuple_key e (suc (suc zero)) h = refl
trip_tuple_key e (suc (suc (suc i))) h = absurd (omega arith)

pub trip_tuple_without : (e : Trip) (i : ℕ) → i < 3 → pair_tuple (trip_without e i) ≡ remove (trip_tuple e) i
trip_tuple_without e zero h = refl
trip_tuple_without e (suc zero) h = refl
trip_tuple_without e (suc (suc zero)) h = refl
trip_tuple_without e (suc (suc (suc i))) h = absurd (omega arith)

pub trip_tuple_with : (e : Pair) (i : ℕ) (k : Id) → i < 3 → trip_tuple (trip_with e i k) ≡ insert (pair_tuple e) i k.0
trip_tuple_with e zero k h = refl
trip_tuple_with e (suc zero) k h = refl
trip_tuple_with e (suc (suc zero)) k h = refl
trip_tuple_with e (suc (suc (suc i))) k h = absurd (omega arith)

pub trip_tuple_names : (e f : Trip) → trip_tuple e ≡ trip_tuple f → e ≡ f
trip_tuple_names e f is = λ j. record { 0 = record { 0 = same_at _ _ 0 is j }; 1 = record { 0 = same_at _ _ 1 is j }; 2 = record { 0 = same_at _ _ 2 is j } }
