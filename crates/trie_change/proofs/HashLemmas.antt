-- The hash of a set of entries, entry after entry.
use Rattle.std.proofs.Common.{◌≡◌, ℕ, ◌+◌, ◌<◌, suc, List, [], ◌∷◌, length, map, take, drop, get_or, sym, ◌∙◌, ap, subst, bit_xor}
use Rattle.std.proofs.lemmas.List.{map-append, take_more}
use Rattle.std.proofs.Math.Seq.{split_at}
use Rattle.std.specs.Int.Bits.{xor_assoc, xor_zero_r}
use Rattle.std.specs.Cmp.{nat_cmp_total as total}
use Rattle.std.specs.FinMap.{nat_cmp-IsAntisymmetric as exact}
use Rattle.std.specs.Ordering.{nat_cmp}
use Rattle.hypertrie_model.specs.Folds.{xor_over}
use Rattle.hypertrie_model.specs.Listings.{set_of, xor-listed_nil, xor-listed_push}
use Rattle.trie_change.specs.Batches.{set_of_entries, IsOnce}
use Rattle.trie_change.specs.BatchLaws.{once_push_new}

module _ {E : Type 0} (tuple : E → List ℕ) (f : List ℕ → ℕ) where
  pub hash_none : (hash : ℕ) → hash ≡ bit_xor hash (xor_over (set_of_entries tuple []) f)
  hash_none hash = sym (ap (bit_xor hash) (xor-listed_nil total exact f) ∙ xor_zero_r hash)

  pub hash_more : (es : List E) (i : ℕ) (d : E) → i < length es → IsOnce tuple es → (first hash : ℕ) → hash ≡ bit_xor first (xor_over (set_of_entries tuple (take i es)) f) → bit_xor hash (f (tuple (get_or es i d))) ≡ bit_xor first (xor_over (set_of_entries tuple (take (i + 1) es)) f)
  hash_more es i d within once first hash is =
      let e = get_or es i d in
      let new = once_push_new tuple (take i es) e (drop (suc i) es) (subst (IsOnce tuple) (split_at es i d within) once) in
      let before = xor_over (set_of_entries tuple (take i es)) f in
      ap (λ h. bit_xor h (f (tuple e))) is
      ∙ xor_assoc first before (f (tuple e))
      ∙ ap (bit_xor first) (sym (xor-listed_push total exact f (map tuple (take i es)) (tuple e) new))
      ∙ ap (λ ts. bit_xor first (xor_over (set_of nat_cmp ts) f)) (sym (map-append tuple (take i es) (e ∷ [])))
      ∙ ap (λ xs. bit_xor first (xor_over (set_of_entries tuple xs) f)) (sym (take_more es i d within))
