-- Which bucket a hash belongs to, as buckets come.
use Rattle.std.proofs.Common.{◌≡◌, ◌⊎◌, ℕ, ◌+◌, ◌%◌, ◌^◌, ◌<◌, ◌≤◌, cond, sym, ap, subst, ◌∙◌, inl, inr, arith}
use Rattle.std.proofs.lemmas.Bool.{cases_eq, cases_lt, lt-ltb, le-ltb}
use Rattle.std.proofs.Math.Nat.{mod-eq_of_lt, mod-lt}
use Rattle.std.proofs.Math.Pow.{mod-mod-pow}
use Rattle.std.proofs.lemmas.Nat.{pow_pos}
use Rattle.hash_index.specs.Buckets.{bucket_of}

bucket_below : (bits count hash : ℕ) → hash % 2 ^ (bits + 1) < count → bucket_of bits count hash ≡ hash % 2 ^ (bits + 1)
bucket_below bits count hash lt = ap (λ b. cond b (hash % 2 ^ (bits + 1)) (hash % 2 ^ bits)) (lt-ltb (hash % 2 ^ (bits + 1)) count lt)

bucket_above : (bits count hash : ℕ) → count ≤ hash % 2 ^ (bits + 1) → bucket_of bits count hash ≡ hash % 2 ^ bits
bucket_above bits count hash le = ap (λ b. cond b (hash % 2 ^ (bits + 1)) (hash % 2 ^ bits)) (le-ltb (hash % 2 ^ (bits + 1)) count le)

-- the last bits of the last bits
shorter : (n k : ℕ) → n % 2 ^ (k + 1) % 2 ^ k ≡ n % 2 ^ k
shorter n k = ap (λ j. n % 2 ^ j % 2 ^ k) (let e : k + 1 ≡ 1 + k = omega arith in e) ∙ mod-mod-pow n 1 k

below_pow : (n k : ℕ) → n % 2 ^ k < 2 ^ k
below_pow n k = mod-lt n (pow_pos k)

-- where there is a bucket for each way in which the bits can fall, one bit more makes no difference yet
pub bucket_of-wider : (bits count hash : ℕ) → count ≡ 2 ^ (bits + 1) → bucket_of (bits + 1) count hash ≡ bucket_of bits count hash
bucket_of-wider bits count hash is =
    let low = hash % 2 ^ (bits + 1) in
    let before : bucket_of bits count hash ≡ low = bucket_below bits count hash (subst (λ c. low < c) (sym is) (below_pow hash (bits + 1))) in
    elim (cases_lt (hash % 2 ^ (bits + 1 + 1)) count) [
      | inl lt ↦
          bucket_below (bits + 1) count hash lt
          ∙ sym (mod-eq_of_lt (subst (λ c. hash % 2 ^ (bits + 1 + 1) < c) is lt))
          ∙ shorter hash (bits + 1) ∙ sym before
      | inr ge ↦ bucket_above (bits + 1) count hash ge ∙ sym before
    ]

-- with one bucket more, a hash has the bucket that it had, or the new one, of which it had the part
pub bucket_of-more : (bits count hash : ℕ) → (bucket_of bits (count + 1) hash ≡ bucket_of bits count hash) ⊎ (bucket_of bits (count + 1) hash ≡ count)
bucket_of-more bits count hash =
    let low = hash % 2 ^ (bits + 1) in
    elim (cases_lt low count) [
      | inl lt ↦ inl (bucket_below bits (count + 1) hash (omega (arith, lt)) ∙ sym (bucket_below bits count hash lt))
      | inr ge ↦
          elim (cases_eq low count) [
            | inl is ↦ inr (bucket_below bits (count + 1) hash (omega (arith, is)) ∙ is)
            | inr ne ↦ inl (bucket_above bits (count + 1) hash (omega (arith, ge, ne)) ∙ sym (bucket_above bits count hash ge))
          ]
    ]

-- what the new bucket gets was in one bucket
pub bucket_of-new : (bits count hash : ℕ) → bucket_of bits (count + 1) hash ≡ count → bucket_of bits count hash ≡ count % 2 ^ bits
bucket_of-new bits count hash new =
    let low = hash % 2 ^ (bits + 1) in
    elim (cases_lt low (count + 1)) [
      | inl lt ↦
          let is : low ≡ count = sym (bucket_below bits (count + 1) hash lt) ∙ new in
          bucket_above bits count hash (omega (arith, is)) ∙ sym (shorter hash bits) ∙ ap (λ n. n % 2 ^ bits) is
      | inr ge ↦
          let is : hash % 2 ^ bits ≡ count = sym (bucket_above bits (count + 1) hash ge) ∙ new in
          bucket_above bits count hash (omega (arith, ge)) ∙ sym (mod-eq_of_lt (below_pow hash bits)) ∙ ap (λ n. n % 2 ^ bits) is
    ]
