-- No text is a token of two kinds: mostly by the first character, else by a character that the one always has and the other
-- never.
use Rattle.std.proofs.Common.{◌≡◌, ◌∙◌, ℕ, Bool, true, false, cond, not, ◌&&◌, ◌||◌, ◌⊎◌, List, [], ◌∷◌, ◌++◌, refl, sym, ap, subst, inl, inr, arith, append_assoc}
use Rattle.std.specs.Prelude.{◌==◌, nat_le, codes}
use Rattle.std.specs.List.{AllByRecursion, list_all, list_any}
use Rattle.std.proofs.lemmas.Bool.Decides.{nat_tests}
use Rattle.std.proofs.lemmas.List.Folds.{list_any-append}
use Rattle.hypertrie_model.specs.SetLaws.{and_both, or_cases}
use Rattle.ntriples_model.specs.Characters.{digits, in_ranges}
use Rattle.query_tokens.specs.Forms.{Form, nothing, one, other, ◌▸◌, ◌∣◌, many, maybe, each, word, HasForm, IsRepeated, none, next}
use Rattle.query_tokens.specs.Front.{is_optional}
use Rattle.query_tokens.specs.Laws.{OneKind}
use Rattle.query_tokens.specs.Tokens.{Kind, Iri, PnameNs, PnameLn, pn_prefix, pn_local, form_of, kinds, IsToken}
use Rattle.query_tokens.proofs.Behind.{is_same, has_optional}
use Rattle.query_tokens.proofs.KindNumbers.{number_of, one_to_one}

clash : true ≡ false → ⊥
clash e = let f : ⊥ = cc in f

abbrev Ranges : Type 0
Ranges = List (ℕ × ℕ)

-- Ranges without a character in common

abbrev meet : ℕ × ℕ → ℕ × ℕ → Bool
meet r s = nat_le r.0 s.1 && nat_le s.0 r.1

abbrev clear : ℕ × ℕ → Ranges → Bool
clear r [] = true
clear r (s ∷ ss) = not (meet r s) && clear r ss

abbrev disjoint : Ranges → Ranges → Bool
disjoint [] ss = true
disjoint (r ∷ rs) ss = clear r ss && disjoint rs ss

met : (a b c d x : ℕ) → nat_le a x && nat_le x b ≡ true → nat_le c x && nat_le x d ≡ true → nat_le a d && nat_le c b ≡ true
met a b c d x h g = grind (arith, nat_tests)

clear_of : (r : ℕ × ℕ) (ss : Ranges) (c : ℕ) → clear r ss ≡ true → nat_le r.0 c && nat_le c r.1 ≡ true → in_ranges ss c ≡ true → ⊥
clear_of r [] c h is among = clash (sym among)
clear_of r (s ∷ ss) c h is among =
    let both = and_both (not (meet r s)) (clear r ss) h in
    or_cases (nat_le s.0 c && nat_le c s.1) (in_ranges ss c) among ⊥
    (λ e. clash (sym both.0 ∙ ap not (met r.0 r.1 s.0 s.1 c is e)))
    (λ e. clear_of r ss c both.1 is e)

disjoint_of : (rs ss : Ranges) (c : ℕ) → disjoint rs ss ≡ true → in_ranges rs c ≡ true → in_ranges ss c ≡ true → ⊥
disjoint_of [] ss c h is among = clash (sym is)
disjoint_of (r ∷ rs) ss c h is among =
    let both = and_both (clear r ss) (disjoint rs ss) h in
    or_cases (nat_le r.0 c && nat_le c r.1) (in_ranges rs c) is ⊥ (λ e. clear_of r ss c both.0 e among) (λ e. disjoint_of rs ss c both.1 e among)

-- First characters

-- the first characters of a form are those of ranges
abbrev begins_plain : Form → Bool
begins_plain nothing = true
begins_plain (one ranges) = true
begins_plain (other ranges) = false
begins_plain (f ▸ g) = begins_plain f && (not (is_optional f) || begins_plain g)
begins_plain (f ∣ g) = begins_plain f && begins_plain g
begins_plain (many f) = begins_plain f

abbrev firsts : Form → Ranges
firsts nothing = []
firsts (one ranges) = ranges
firsts (other ranges) = []
firsts (f ▸ g) = firsts f ++ cond (is_optional f) (firsts g) []
firsts (f ∣ g) = firsts f ++ firsts g
firsts (many f) = firsts f

either_true : (a b : Bool) → b ≡ true → (a || b) ≡ true
either_true true b h = refl
either_true false b h = h

in_left : (rs ss : Ranges) (c : ℕ) → in_ranges rs c ≡ true → in_ranges (rs ++ ss) c ≡ true
in_left rs ss c h = list_any-append (λ (r : ℕ × ℕ). nat_le r.0 c && nat_le c r.1) rs ss ∙ ap (λ b. b || in_ranges ss c) h

in_right : (rs ss : Ranges) (c : ℕ) → in_ranges ss c ≡ true → in_ranges (rs ++ ss) c ≡ true
in_right rs ss c h = list_any-append (λ (r : ℕ × ℕ). nat_le r.0 c && nat_le c r.1) rs ss ∙ either_true (in_ranges rs c) (in_ranges ss c) h

optional_plain : (o p : Bool) → (not o || p) ≡ true → o ≡ true → p ≡ true
optional_plain true p h e = h
optional_plain false p h e = absurd (clash (sym e))

begins : (f : Form) (c : ℕ) (rest : List ℕ) → begins_plain f ≡ true → HasForm f (c ∷ rest) → in_ranges (firsts f) c ≡ true
begins nothing c rest p h = absurd (let f : ⊥ = cc in f)
begins (one ranges) c rest p (d, e, h) = let same : c ≡ d = cc in ap (in_ranges ranges) same ∙ h
begins (other ranges) c rest p h = absurd (clash (sym p))
begins (f ▸ g) c rest p ([], back, e, hf, hg) =
    let both = and_both (begins_plain f) (not (is_optional f) || begins_plain g) p in
    let optional = has_optional f hf in
    in_right (firsts f) (cond (is_optional f) (firsts g) []) c
    (subst (λ b. in_ranges (cond b (firsts g) []) c ≡ true) (sym optional)
    (begins g c rest (optional_plain (is_optional f) (begins_plain g) both.1 optional) (subst (HasForm g) (sym e) hg)))
begins (f ▸ g) c rest p (d ∷ front, back, e, hf, hg) =
    let both = and_both (begins_plain f) (not (is_optional f) || begins_plain g) p in
    let same : c ≡ d = cc in
    in_left (firsts f) (cond (is_optional f) (firsts g) []) c (begins f c front both.0 (subst (λ x. HasForm f (x ∷ front)) (sym same) hf))
begins (f ∣ g) c rest p (inl h) = in_left (firsts f) (firsts g) c (begins f c rest (and_both (begins_plain f) (begins_plain g) p).0 h)
begins (f ∣ g) c rest p (inr h) = in_right (firsts f) (firsts g) c (begins g c rest (and_both (begins_plain f) (begins_plain g) p).1 h)
begins (many f) c rest p h = by (λ r has. begins f c r p has) (c ∷ rest) h refl where
  by : ((r : List ℕ) → HasForm f (c ∷ r) → in_ranges (firsts f) c ≡ true) → (text : List ℕ) → IsRepeated (HasForm f) text → text ≡ c ∷ rest → in_ranges (firsts f) c ≡ true
  by first _ none e = absurd (let f : ⊥ = cc in f)
  by first _ (next [] more h hs) e = by first more hs e
  by first _ (next (d ∷ front) more h hs) e = let same : d ≡ c = cc in first front (subst (λ x. HasForm f (x ∷ front)) same h)

abbrev begin_apart : Form → Form → Bool
begin_apart f g = (not (is_optional f) && (begins_plain f && begins_plain g)) && disjoint (firsts f) (firsts g)

apart_at_first : (f g : Form) (text : List ℕ) → begin_apart f g ≡ true → HasForm f text → HasForm g text → ⊥
apart_at_first f g [] h hf hg =
    let both = and_both (not (is_optional f) && (begins_plain f && begins_plain g)) (disjoint (firsts f) (firsts g)) h in
    let some = (and_both (not (is_optional f)) (begins_plain f && begins_plain g) both.0).0 in
    clash (sym some ∙ ap not (has_optional f hf))
apart_at_first f g (c ∷ rest) h hf hg =
    let both = and_both (not (is_optional f) && (begins_plain f && begins_plain g)) (disjoint (firsts f) (firsts g)) h in
    let plain = and_both (begins_plain f) (begins_plain g) (and_both (not (is_optional f)) (begins_plain f && begins_plain g) both.0).1 in
    disjoint_of (firsts f) (firsts g) c both.1 (begins f c rest plain.0 hf) (begins g c rest plain.1 hg)

-- Characters that are never there

abbrev never_in : Ranges → Form → Bool
never_in rs nothing = true
never_in rs (one ranges) = disjoint ranges rs
never_in rs (other ranges) = false
never_in rs (f ▸ g) = never_in rs f && never_in rs g
never_in rs (f ∣ g) = never_in rs f && never_in rs g
never_in rs (many f) = never_in rs f

abbrev Without : Ranges → List ℕ → Type 0
Without rs text = AllByRecursion (λ c. in_ranges rs c ≡ true → ⊥) text

without_both : (rs : Ranges) (front back : List ℕ) → Without rs front → Without rs back → Without rs (front ++ back)
without_both rs [] back h g = g
without_both rs (c ∷ front) back h g = (h.0, without_both rs front back h.1 g)

without : (rs : Ranges) (f : Form) (text : List ℕ) → never_in rs f ≡ true → HasForm f text → Without rs text
without rs nothing text n h = subst (Without rs) (sym h) tt
without rs (one ranges) text n (c, e, h) = subst (Without rs) (sym e) ((λ among. disjoint_of ranges rs c n h among), tt)
without rs (other ranges) text n h = absurd (clash (sym n))
without rs (f ▸ g) text n (front, back, e, hf, hg) =
    let both = and_both (never_in rs f) (never_in rs g) n in
    subst (Without rs) (sym e) (without_both rs front back (without rs f front both.0 hf) (without rs g back both.1 hg))
without rs (f ∣ g) text n (inl h) = without rs f text (and_both (never_in rs f) (never_in rs g) n).0 h
without rs (f ∣ g) text n (inr h) = without rs g text (and_both (never_in rs f) (never_in rs g) n).1 h
without rs (many f) text n h = by (λ t has. without rs f t n has) text h where
  by : ((t : List ℕ) → HasForm f t → Without rs t) → (text : List ℕ) → IsRepeated (HasForm f) text → Without rs text
  by each _ none = tt
  by each _ (next first rest h hs) = without_both rs first rest (each first h) (by each rest hs)

-- Characters that are always there

abbrev inside : ℕ × ℕ → Ranges → Bool
inside s [] = false
inside s (r ∷ rs) = (nat_le r.0 s.0 && nat_le s.1 r.1) || inside s rs

abbrev all_inside : Ranges → Ranges → Bool
all_inside [] rs = true
all_inside (s ∷ ss) rs = inside s rs && all_inside ss rs

abbrev always_in : Ranges → Form → Bool
always_in rs nothing = false
always_in rs (one ranges) = all_inside ranges rs
always_in rs (other ranges) = false
always_in rs (f ▸ g) = always_in rs f || always_in rs g
always_in rs (f ∣ g) = always_in rs f && always_in rs g
always_in rs (many f) = false

abbrev With : Ranges → List ℕ → Type 0
With rs [] = ⊥
With rs (c ∷ text) = (in_ranges rs c ≡ true) ⊎ With rs text

with_front : (rs : Ranges) (front back : List ℕ) → With rs front → With rs (front ++ back)
with_front rs [] back h = absurd h
with_front rs (c ∷ front) back (inl h) = inl h
with_front rs (c ∷ front) back (inr h) = inr (with_front rs front back h)

with_back : (rs : Ranges) (front back : List ℕ) → With rs back → With rs (front ++ back)
with_back rs [] back h = h
with_back rs (c ∷ front) back h = inr (with_back rs front back h)

wider : (a b c d x : ℕ) → nat_le a c && nat_le d b ≡ true → nat_le c x && nat_le x d ≡ true → nat_le a x && nat_le x b ≡ true
wider a b c d x h g = grind (arith, nat_tests)

inside_of : (s : ℕ × ℕ) (rs : Ranges) (c : ℕ) → inside s rs ≡ true → nat_le s.0 c && nat_le c s.1 ≡ true → in_ranges rs c ≡ true
inside_of s [] c h is = absurd (clash (sym h))
inside_of s (r ∷ rs) c h is =
    or_cases (nat_le r.0 s.0 && nat_le s.1 r.1) (inside s rs) h (in_ranges (r ∷ rs) c ≡ true)
    (λ e. ap (λ b. b || in_ranges rs c) (wider r.0 r.1 s.0 s.1 c e is))
    (λ e. either_true (nat_le r.0 c && nat_le c r.1) (in_ranges rs c) (inside_of s rs c e is))

all_inside_of : (ss rs : Ranges) (c : ℕ) → all_inside ss rs ≡ true → in_ranges ss c ≡ true → in_ranges rs c ≡ true
all_inside_of [] rs c h is = absurd (clash (sym is))
all_inside_of (s ∷ ss) rs c h is =
    let both = and_both (inside s rs) (all_inside ss rs) h in
    or_cases (nat_le s.0 c && nat_le c s.1) (in_ranges ss c) is (in_ranges rs c ≡ true) (λ e. inside_of s rs c both.0 e) (λ e. all_inside_of ss rs c both.1 e)

with_some : (rs : Ranges) (f : Form) (text : List ℕ) → always_in rs f ≡ true → HasForm f text → With rs text
with_some rs nothing text n h = absurd (clash (sym n))
with_some rs (one ranges) text n (c, e, h) = subst (With rs) (sym e) (inl (all_inside_of ranges rs c n h))
with_some rs (other ranges) text n h = absurd (clash (sym n))
with_some rs (f ▸ g) text n (front, back, e, hf, hg) =
    subst (With rs) (sym e)
    (or_cases (always_in rs f) (always_in rs g) n (With rs (front ++ back)) (λ a. with_front rs front back (with_some rs f front a hf)) (λ a. with_back rs front back (with_some rs g back a hg)))
with_some rs (f ∣ g) text n (inl h) = with_some rs f text (and_both (always_in rs f) (always_in rs g) n).0 h
with_some rs (f ∣ g) text n (inr h) = with_some rs g text (and_both (always_in rs f) (always_in rs g) n).1 h
with_some rs (many f) text n h = absurd (clash (sym n))

with_without : (rs : Ranges) (text : List ℕ) → With rs text → Without rs text → ⊥
with_without rs [] h g = h
with_without rs (c ∷ text) (inl h) g = g.0 h
with_without rs (c ∷ text) (inr h) g = with_without rs text h g.1

-- a colon, a full stop, the letter of an exponent, and a digit
abbrev marks : List Ranges
marks = each (codes ":") ∷ each (codes ".") ∷ each (codes "eE") ∷ digits ∷ []

abbrev marked : List Ranges → Form → Form → Bool
marked [] f g = false
marked (rs ∷ more) f g = (always_in rs f && never_in rs g) || marked more f g

apart_by_marks : (all : List Ranges) (f g : Form) (text : List ℕ) → marked all f g ≡ true → HasForm f text → HasForm g text → ⊥
apart_by_marks [] f g text h hf hg = clash (sym h)
apart_by_marks (rs ∷ more) f g text h hf hg =
    or_cases (always_in rs f && never_in rs g) (marked more f g) h ⊥
    (λ e. let both = and_both (always_in rs f) (never_in rs g) e in with_without rs text (with_some rs f text both.0 hf) (without rs g text both.1 hg))
    (λ e. apart_by_marks more f g text e hf hg)

-- A colon that ends a name, and one within

pub one_colon : (text : List ℕ) → HasForm (word (codes ":")) text → text ≡ 58 ∷ []
one_colon text (front, back, e, (c, is, among), empty) = e ∙ (λ i. is i ++ empty i) ∙ ap (λ x. x ∷ []) (same c among) where
  same : (c : ℕ) → in_ranges ((58, 58) ∷ []) c ≡ true → c ≡ 58
  same c e = grind (arith, nat_tests)

abbrev Colonless : List ℕ → Type 0
Colonless text = Without ((58, 58) ∷ []) text

no_colon : (c : ℕ) → c ≡ 58 → (in_ranges ((58, 58) ∷ []) c ≡ true → ⊥) → ⊥
no_colon c e h = h (ap (in_ranges ((58, 58) ∷ [])) e)

same_end : (a b rest : List ℕ) → a ++ 58 ∷ [] ≡ b ++ 58 ∷ rest → Colonless a → Colonless b → rest ≡ []
same_end [] [] rest e ha hb = let same : [] ≡ rest = cc in sym same
same_end [] (y ∷ b) rest e ha hb = let same : 58 ≡ y = cc in absurd (no_colon y (sym same) hb.0)
same_end (x ∷ a) [] rest e ha hb = let same : x ≡ 58 = cc in absurd (no_colon x same ha.0)
same_end (x ∷ a) (y ∷ b) rest e ha hb = let more : a ++ 58 ∷ [] ≡ b ++ 58 ∷ rest = cc in same_end a b rest more ha.1 hb.1

names_apart : (text : List ℕ) → IsToken PnameNs text → IsToken PnameLn text → ⊥
names_apart text (front, end, e, is_front, is_end) (name, local, f, (first, colon, g, is_first, is_colon), is_local) =
    let short : text ≡ front ++ 58 ∷ [] = e ∙ ap (λ k. front ++ k) (one_colon end is_end) in
    let long : text ≡ first ++ 58 ∷ local = f ∙ (ap (λ k. k ++ local) (g ∙ ap (λ k. first ++ k) (one_colon colon is_colon)) ∙ append_assoc first (58 ∷ []) local) in
    let empty : local ≡ [] = same_end front first local (sym short ∙ long) (without ((58, 58) ∷ []) (maybe pn_prefix) front refl is_front) (without ((58, 58) ∷ []) (maybe pn_prefix) first refl is_first) in
    clash (sym (has_optional pn_local (subst (HasForm pn_local) empty is_local)))

-- All kinds

same_kind : (j k : Kind) → (number_of j == number_of k) ≡ true → j ≡ k
same_kind j k e = one_to_one j k (is_same (number_of j) (number_of k) e)

abbrev are_names : Kind → Kind → Bool
are_names PnameNs PnameLn = true
are_names PnameLn PnameNs = true
are_names _ _ = false

abbrev apart : Form → Form → Bool
apart f g = begin_apart f g || (marked marks f g || marked marks g f)

-- the kinds are one, or their texts are told apart
abbrev told : Kind → Kind → Bool
told j k = (number_of j == number_of k) || (are_names j k || apart (form_of j) (form_of k))

told_all : list_all (λ j. list_all (told j) kinds) kinds ≡ true
told_all = refl

among : (ks : List Kind) (k : Kind) (test : Kind → Bool) → list_any (λ j. number_of j == number_of k) ks ≡ true → list_all test ks ≡ true → test k ≡ true
among [] k test h all = absurd (clash (sym h))
among (j ∷ ks) k test h all =
    let both = and_both (test j) (list_all test ks) all in
    or_cases (number_of j == number_of k) (list_any (λ j. number_of j == number_of k) ks) h (test k ≡ true)
    (λ e. subst (λ x. test x ≡ true) (same_kind j k e) both.0) (λ e. among ks k test e both.1)

listed : (k : Kind) → list_any (λ j. number_of j == number_of k) kinds ≡ true
listed Iri = refl
listed _ = refl

told_of : (j k : Kind) → told j k ≡ true
told_of j k = among kinds k (told j) (listed k) (among kinds j (λ i. list_all (told i) kinds) (listed j) told_all)

one_name : (j k : Kind) (text : List ℕ) → are_names j k ≡ true → IsToken j text → IsToken k text → ⊥
one_name PnameNs PnameLn text h hj hk = names_apart text hj hk
one_name PnameLn PnameNs text h hj hk = names_apart text hk hj
one_name _ _ text h hj hk = clash (sym h)

forms_apart : (f g : Form) (text : List ℕ) → apart f g ≡ true → HasForm f text → HasForm g text → ⊥
forms_apart f g text h hf hg =
    or_cases (begin_apart f g) (marked marks f g || marked marks g f) h ⊥ (λ e. apart_at_first f g text e hf hg)
    (λ e. or_cases (marked marks f g) (marked marks g f) e ⊥ (λ m. apart_by_marks marks f g text m hf hg) (λ m. apart_by_marks marks g f text m hg hf))

pub one_kind : OneKind
one_kind j k text hj hk =
    or_cases (number_of j == number_of k) (are_names j k || apart (form_of j) (form_of k)) (told_of j k) (j ≡ k) (same_kind j k)
    (λ e. absurd (or_cases (are_names j k) (apart (form_of j) (form_of k)) e ⊥ (λ n. one_name j k text n hj hk) (λ a. forms_apart (form_of j) (form_of k) text a hj hk)))
