-- Names: what follows their marks, and their two parts.
use Rattle.std.proofs.Common.{◌≡◌, ◌∙◌, ◌≢◌, ℕ, ◌+◌, ◌<◌, ◌≤◌, Bool, true, false, cond, List, [], ◌∷◌, ◌++◌, length, take, drop, get_or, refl, sym, ap, append_assoc, arith, chars, IsUtf8}
use Rattle.std.specs.Prelude.{encode_utf8, encode_utf8_all, ◌==◌, not}
use Rattle.std.specs.List.{position_or_len, filter}
use Rattle.std.proofs.lemmas.List.{take_all, drop_all}
use Rattle.std.proofs.lemmas.List.Sums.{position_or_len_is}
use Rattle.std.proofs.lemmas.Str.{encodes-chars}
use Rattle.std.proofs.lemmas.Bool.Decides.{nat_tests}
use Rattle.query_grammar.specs.Texts.{behind_first, prefix_length, local_text}
use Rattle.query_text.specs.Seen.{kept}

pub one_behind : (text rest : List ℕ) (c : ℕ) → IsUtf8 rest → chars text ≡ c ∷ chars rest → rest ≡ behind_first 1 text
one_behind text rest c u split = sym (ap (λ (cs : List ℕ). encode_utf8_all (drop 1 cs)) split ∙ encodes-chars rest u)

pub none_behind : (text : List ℕ) → IsUtf8 text → chars text ≡ [] → text ≡ behind_first 1 text
none_behind text u none = sym (encodes-chars text u) ∙ ap encode_utf8_all none ∙ sym (ap (λ (cs : List ℕ). encode_utf8_all (drop 1 cs)) none)

pub prefix_is : (name : List ℕ) (k : ℕ) → k < length name → get_or name k 0 ≡ 58 → ((i : ℕ) → i < k → get_or name i 0 ≢ 58) → prefix_length name ≡ k + 1
prefix_is name k within here before =
    ap (λ (n : ℕ). n + 1) (position_or_len_is (λ (b : ℕ). b == 58) name k 0 (omega arith) (λ i h. not_equal _ _ (before i h)) (λ h. equal _ _ here))
  where
    equal : (a b : ℕ) → a ≡ b → (a == b) ≡ true
    equal a b e = grind (arith, nat_tests)

    not_equal : (a b : ℕ) → a ≢ b → (a == b) ≡ false
    not_equal a b ne = grind (arith, nat_tests)

pub no_prefix : (name : List ℕ) → ((i : ℕ) → i < length name → get_or name i 0 ≢ 58) → length name ≤ prefix_length name
no_prefix name none =
    let all : position_or_len (λ (b : ℕ). b == 58) name ≡ length name = position_or_len_is (λ (b : ℕ). b == 58) name (length name) 0 (omega arith) (λ i h. not_equal _ _ (none i h)) (λ h. absurd (omega arith)) in
    omega (arith, all)
  where
    not_equal : (a b : ℕ) → a ≢ b → (a == b) ≡ false
    not_equal a b ne = grind (arith, nat_tests)

pub take_past : (name : List ℕ) (n : ℕ) → length name ≤ n → take (length name) name ≡ take n name
take_past name n h = take_all (length name) name (omega arith) ∙ sym (take_all n name h)

pub drop_past : (name : List ℕ) (n : ℕ) → length name ≤ n → drop (length name) name ≡ drop n name
drop_past name n h = drop_all (length name) name (omega arith) ∙ sym (drop_all n name h)

pub two_behind : (text rest behind : List ℕ) (c : ℕ) → chars text ≡ c ∷ chars rest → behind ≡ behind_first 1 rest → behind ≡ behind_first 2 text
two_behind text rest behind c split e = e ∙ sym (ap (λ (cs : List ℕ). encode_utf8_all (drop 2 cs)) split)

pub none_of_two : (text : List ℕ) → IsUtf8 text → chars text ≡ [] → text ≡ behind_first 2 text
none_of_two text u none = sym (encodes-chars text u) ∙ ap encode_utf8_all none ∙ sym (ap (λ (cs : List ℕ). encode_utf8_all (drop 2 cs)) none)

keeps : ℕ → Bool
keeps c = not (c == 92)

kept_append : (cs ds : List ℕ) → kept (cs ++ ds) ≡ kept cs ++ kept ds
kept_append [] ds = refl
kept_append (c ∷ cs) ds = by (c == 92) (kept_append cs ds)
  where
    by : (t : Bool) → kept (cs ++ ds) ≡ kept cs ++ kept ds
        → encode_utf8_all (cond (not t) (c ∷ filter (λ (c : ℕ). not (c == 92)) (cs ++ ds)) (filter (λ (c : ℕ). not (c == 92)) (cs ++ ds)))
        ≡ encode_utf8_all (cond (not t) (c ∷ filter (λ (c : ℕ). not (c == 92)) cs) (filter (λ (c : ℕ). not (c == 92)) cs)) ++ kept ds
    by true e = e
    by false e = ap (λ (x : List ℕ). encode_utf8 c ++ x) e ∙ sym (append_assoc (encode_utf8 c) (kept cs) (kept ds))

-- one character more was kept, or left out
pub kept_more : (name text more rest behind : List ℕ) (c : ℕ) → local_text name ≡ text ++ kept (chars rest) → chars rest ≡ c ∷ chars behind → more ≡ text ++ kept (c ∷ []) → local_text name ≡ more ++ kept (chars behind)
kept_more name text more rest behind c so_far split new =
    so_far ∙ ap (λ (cs : List ℕ). text ++ kept cs) split ∙ ap (λ (x : List ℕ). text ++ x) (kept_append (c ∷ []) (chars behind))
    ∙ sym (append_assoc text (kept (c ∷ [])) (kept (chars behind))) ∙ ap (λ (x : List ℕ). x ++ kept (chars behind)) (sym new)

append_nil : (xs : List ℕ) → xs ++ [] ≡ xs
append_nil [] = refl
append_nil (x ∷ xs) = ap (λ (ys : List ℕ). x ∷ ys) (append_nil xs)

pub kept_whole : (name text rest : List ℕ) → local_text name ≡ text ++ kept (chars rest) → chars rest ≡ [] → text ≡ local_text name
kept_whole name text rest so_far none = sym (so_far ∙ ap (λ (cs : List ℕ). text ++ kept cs) none ∙ append_nil text)
