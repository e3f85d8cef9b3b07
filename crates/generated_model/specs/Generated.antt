-- The generated triples: a list by its length and a salt, in which subjects and objects share their names and few
-- predicates have many triples each.
use Rattle.std.specs.Prelude.{◌≡◌, ℕ, ◌+◌, ◌*◌, ◌/◌, ◌%◌, ◌^◌, ◌<◌, List, [], ◌∷◌, ◌++◌, map, codes, decimal}
use Rattle.std.specs.List.{range_with_len}
use Rattle.rdf_model.specs.Terms.{Text, Iri, Triple}
use Rattle.ntriples_model.specs.Proper.{IsProperTriple}

-- how many names subjects and objects have
abbrev pub names : ℕ → ℕ
names n = n / 4 + 2

abbrev pub node_text : ℕ → Text
node_text i = codes "urn:n:" ++ decimal i

abbrev pub property_text : ℕ → Text
property_text i = codes "urn:p:" ++ decimal i

-- <urn:n:S> <urn:p:P> <urn:n:O>, in decimal
abbrev pub triple_named : ℕ → ℕ → ℕ → Triple
triple_named s p o = record { s = Iri (node_text s); p = Iri (property_text p); o = Iri (node_text o) }

-- the name of the subject of triple number k, from 0, of the predicate, and of the object
abbrev pub subject_at : ℕ → ℕ → ℕ → ℕ
subject_at n salt k = (7 * k + salt) % names n

abbrev pub predicate_at : ℕ → ℕ
predicate_at k = k % 3

abbrev pub object_at : ℕ → ℕ → ℕ → ℕ
object_at n salt k = (k * k * k + salt * k + 5) / 8 % names n

abbrev pub generated_at : ℕ → ℕ → ℕ → Triple
generated_at n salt k = triple_named (subject_at n salt k) (predicate_at k) (object_at n salt k)

-- triples number 0 to n - 1
abbrev pub generated : ℕ → ℕ → List Triple
generated n salt = map (generated_at n salt) (range_with_len 0 n)

abbrev pub AreProperTriples : Type 0
AreProperTriples = (n salt k : ℕ) → n < 2 ^ 64 → IsProperTriple (generated_at n salt k)

abbrev pub IsWorkedList : Type 0
IsWorkedList = generated 4 1 ≡ triple_named 1 0 0 ∷ triple_named 2 1 0 ∷ triple_named 0 2 1 ∷ triple_named 1 0 1 ∷ []
