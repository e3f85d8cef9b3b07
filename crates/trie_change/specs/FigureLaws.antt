-- The size and the hash of a changed set, by those of the set and of what changes it.
use Rattle.std.specs.Prelude.{◌≡◌, ℕ, ◌<◌, ◌^◌, Bool, bit_xor}
use Rattle.std.proofs.Common.{sym, ◌∙◌, ap, arith}
use Rattle.std.specs.Cmp.{nat_cmp_total as total}
use Rattle.std.specs.FinMap.{nat_cmp-IsAntisymmetric as exact}
use Rattle.std.specs.FinSet as set
use Rattle.hypertrie_model.specs.IdSets.{IdSet}
use Rattle.hypertrie_model.specs.Changes.{after, IsChange}
use Rattle.hypertrie_model.specs.ChangeLaws.{len-grown, len-shrunk, xor-after}
use Rattle.trie_node.specs.Sets.{tuple_mix, set_hash}
use Rattle.trie_change.specs.declared.change.Change.{Change}
use Rattle.trie_change.specs.declared.change.Change.TheVariants.{Grow, Shrink}
use Rattle.trie_change.specs.Changes.{grows, size_after, HasSize}

-- a change of a set to one of 64 bits can be counted
pub has_size : (change : Change) (H B : IdSet) → IsChange (grows change) H B → set.len (after (grows change) H B) < 2 ^ 64 → (size by : ℕ) → size ≡ set.len H → set.len B ≡ by → HasSize change size by
has_size Grow H B may small size by sized counted = let e = len-grown total exact H B may in omega arith
has_size Shrink H B may small size by sized counted = let e = len-shrunk total exact H B may in omega arith

pub size_is : (change : Change) (H B : IdSet) → IsChange (grows change) H B → (size by : ℕ) → size ≡ set.len H → set.len B ≡ by → size_after change size by ≡ set.len (after (grows change) H B)
size_is Grow H B may size by sized counted = let e = len-grown total exact H B may in omega arith
size_is Shrink H B may size by sized counted = let e = len-shrunk total exact H B may in omega arith

pub hash_is : (mixed : ℕ → ℕ → ℕ → ℕ → ℕ) (d : ℕ) (g : Bool) (H B : IdSet) → IsChange g H B → (hash : ℕ) → hash ≡ set_hash mixed d H → bit_xor hash (set_hash mixed d B) ≡ set_hash mixed d (after g H B)
hash_is mixed d g H B may hash hashed = ap (λ h. bit_xor h (set_hash mixed d B)) hashed ∙ sym (xor-after total exact (tuple_mix mixed d) g H B may)
