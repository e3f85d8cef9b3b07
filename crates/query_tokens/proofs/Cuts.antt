-- What follows a character depends only on which ends of ranges lie below it. So what holds at those ends, which are few,
-- holds of every character.
use Rattle.std.proofs.Common.{◌≡◌, ◌∙◌, ◌≤◌, ◌+◌, ℕ, Bool, true, false, cond, not, ◌&&◌, List, [], ◌∷◌, ◌++◌, refl, sym, ap, arith}
use Rattle.std.specs.Prelude.{◌==◌, nat_le}
use Rattle.std.specs.List.{list_all}
use Rattle.std.proofs.lemmas.Bool.Decides.{nat_tests}
use Rattle.ntriples_model.specs.Characters.{in_ranges}
use Rattle.query_tokens.specs.Forms.{Form, nothing, one, other, ◌▸◌, ◌∣◌, many}
use Rattle.query_tokens.specs.Front.{never, is_optional, same_form, joined, either, behind, kept, all_behind}
use Rattle.query_tokens.proofs.Behind.{both, is_same, same_form_is}

-- the places where a test on ranges may change
abbrev pub cuts_of : List (ℕ × ℕ) → List ℕ
cuts_of [] = []
cuts_of (r ∷ rs) = r.0 ∷ (r.1 + 1) ∷ cuts_of rs

abbrev pub form_cuts : Form → List ℕ
form_cuts nothing = []
form_cuts (one ranges) = cuts_of ranges
form_cuts (other ranges) = cuts_of ranges
form_cuts (f ▸ g) = form_cuts f ++ form_cuts g
form_cuts (f ∣ g) = form_cuts f ++ form_cuts g
form_cuts (many f) = form_cuts f

abbrev pub all_cuts : {K : Type 0} → List (K × Form) → List ℕ
all_cuts [] = []
all_cuts (e ∷ es) = form_cuts e.1 ++ all_cuts es

-- the same of the cuts lie below the two
abbrev pub Agree : ℕ → ℕ → List ℕ → Type 0
Agree c d [] = Unit {0}
Agree c d (b ∷ bs) = (nat_le b c ≡ nat_le b d) × Agree c d bs

pub agree_left : (c d : ℕ) (front back : List ℕ) → Agree c d (front ++ back) → Agree c d front
agree_left c d [] back h = tt
agree_left c d (b ∷ front) back h = (h.0, agree_left c d front back h.1)

pub agree_right : (c d : ℕ) (front back : List ℕ) → Agree c d (front ++ back) → Agree c d back
agree_right c d [] back h = h
agree_right c d (b ∷ front) back h = agree_right c d front back h.1

above : (hi c : ℕ) → nat_le c hi ≡ not (nat_le (hi + 1) c)
above hi c = grind (arith, nat_tests)

pub same_in_ranges : (c d : ℕ) (rs : List (ℕ × ℕ)) → Agree c d (cuts_of rs) → in_ranges rs c ≡ in_ranges rs d
same_in_ranges c d [] h = refl
same_in_ranges c d (r ∷ rs) h =
    let low : nat_le r.0 c ≡ nat_le r.0 d = h.0 in
    let high : nat_le c r.1 ≡ nat_le d r.1 = above r.1 c ∙ (ap not h.1.0 ∙ sym (above r.1 d)) in
    let rest : in_ranges rs c ≡ in_ranges rs d = same_in_ranges c d rs h.1.1 in
    cc

pub same_behind : (c d : ℕ) (f : Form) → Agree c d (form_cuts f) → behind c f ≡ behind d f
same_behind c d nothing h = refl
same_behind c d (one ranges) h = ap (λ b. elim b as (λ _. Form) [ true ↦ nothing | false ↦ never ]) (same_in_ranges c d ranges h)
same_behind c d (other ranges) h = ap (λ b. elim b as (λ _. Form) [ true ↦ never | false ↦ nothing ]) (same_in_ranges c d ranges h)
same_behind c d (f ▸ g) h =
    let first : behind c f ≡ behind d f = same_behind c d f (agree_left c d (form_cuts f) (form_cuts g) h) in
    let second : behind c g ≡ behind d g = same_behind c d g (agree_right c d (form_cuts f) (form_cuts g) h) in
    ap (λ x. elim (is_optional f) as (λ _. Form) [ true ↦ either (joined x g) (behind c g) | false ↦ joined x g ]) first
    ∙ ap (λ x. elim (is_optional f) as (λ _. Form) [ true ↦ either (joined (behind d f) g) x | false ↦ joined (behind d f) g ]) second
same_behind c d (f ∣ g) h =
    let first : behind c f ≡ behind d f = same_behind c d f (agree_left c d (form_cuts f) (form_cuts g) h) in
    let second : behind c g ≡ behind d g = same_behind c d g (agree_right c d (form_cuts f) (form_cuts g) h) in
    ap (λ x. either x (behind c g)) first ∙ ap (λ x. either (behind d f) x) second
same_behind c d (many f) h = ap (λ x. joined x (many f)) (same_behind c d f h)

pub same_all_behind : {K : Type 0} (c d : ℕ) (es : List (K × Form)) → Agree c d (all_cuts es) → all_behind c es ≡ all_behind d es
same_all_behind c d [] h = refl
same_all_behind c d (e ∷ es) h =
    let first : behind c e.1 ≡ behind d e.1 = same_behind c d e.1 (agree_left c d (form_cuts e.1) (all_cuts es) h) in
    let rest : all_behind c es ≡ all_behind d es = same_all_behind c d es (agree_right c d (form_cuts e.1) (all_cuts es) h) in
    ap (λ x. kept e.0 x (all_behind c es)) first ∙ ap (λ x. kept e.0 (behind d e.1) x) rest

-- the last cut up to the character, or 0
abbrev pub last_cut : List ℕ → ℕ → ℕ
last_cut [] c = 0
last_cut (b ∷ bs) c = cond (nat_le b c && nat_le (last_cut bs c) b) b (last_cut bs c)

last_cut_below : (bs : List ℕ) (c : ℕ) → last_cut bs c ≤ c
last_cut_below [] c = omega arith
last_cut_below (b ∷ bs) c =
    let more = last_cut_below bs c in
    elim (nat_le b c && nat_le (last_cut bs c) b) as (λ t. (nat_le b c && nat_le (last_cut bs c) b) ≡ t → cond t b (last_cut bs c) ≤ c) [
      | true ↦ λ t. grind (arith, nat_tests)
      | false ↦ λ t. more
    ] refl

last_cut_more : (bs : List ℕ) (b c : ℕ) → last_cut bs c ≤ last_cut (b ∷ bs) c
last_cut_more bs b c =
    elim (nat_le b c && nat_le (last_cut bs c) b) as (λ t. (nat_le b c && nat_le (last_cut bs c) b) ≡ t → last_cut bs c ≤ cond t b (last_cut bs c)) [
      | true ↦ λ t. grind (arith, nat_tests)
      | false ↦ λ t. omega arith
    ] refl

last_cut_first : (bs : List ℕ) (b c : ℕ) → b ≤ c → b ≤ last_cut (b ∷ bs) c
last_cut_first bs b c h =
    elim (nat_le b c && nat_le (last_cut bs c) b) as (λ t. (nat_le b c && nat_le (last_cut bs c) b) ≡ t → b ≤ cond t b (last_cut bs c)) [
      | true ↦ λ t. omega arith
      | false ↦ λ t. grind (arith, nat_tests)
    ] refl

agree_at : (b c d : ℕ) → d ≤ c → (b ≤ c → b ≤ d) → nat_le b c ≡ nat_le b d
agree_at b c d h k = grind (arith, nat_tests)

agree_more : (cs : List ℕ) (c d e : ℕ) → Agree c d cs → d ≤ e → e ≤ c → Agree c e cs
agree_more [] c d e h de ec = tt
agree_more (b ∷ bs) c d e h de ec =
    let first : nat_le b c ≡ nat_le b d = h.0 in
    (grind (arith, nat_tests), agree_more bs c d e h.1 de ec)

pub agree_last : (bs : List ℕ) (c : ℕ) → Agree c (last_cut bs c) bs
agree_last [] c = tt
agree_last (b ∷ bs) c =
    let below : last_cut (b ∷ bs) c ≤ c = last_cut_below (b ∷ bs) c in (
      agree_at b c (last_cut (b ∷ bs) c) below (last_cut_first bs b c),
      agree_more bs c (last_cut bs c) (last_cut (b ∷ bs) c) (agree_last bs c) (last_cut_more bs b c) below,
    )

-- what holds at 0 and at each cut holds at the last one up to the character
pub at_last : (test : ℕ → Bool) (bs : List ℕ) (c : ℕ) → test 0 ≡ true → list_all test bs ≡ true → test (last_cut bs c) ≡ true
at_last test [] c zero all = zero
at_last test (b ∷ bs) c zero all =
    let parts = both (test b) (list_all test bs) all in
    elim (nat_le b c && nat_le (last_cut bs c) b) as (λ t. test (cond t b (last_cut bs c)) ≡ true) [
      | true ↦ parts.0
      | false ↦ at_last test bs c zero parts.1
    ]

-- Forms of kinds, compared

abbrev pub same_forms : {K : Type 0} → (K → ℕ) → List (K × Form) → List (K × Form) → Bool
same_forms number [] [] = true
same_forms number (e ∷ es) (f ∷ fs) = (number e.0 == number f.0) && (same_form e.1 f.1 && same_forms number es fs)
same_forms number _ _ = false

abbrev pub OneToOne : {K : Type 0} → (K → ℕ) → Type 0
OneToOne {K} number = (j k : K) → number j ≡ number k → j ≡ k

pub same_forms_is : {K : Type 0} (number : K → ℕ) → OneToOne number → (es fs : List (K × Form)) → same_forms number es fs ≡ true → es ≡ fs
same_forms_is number one_to_one [] [] h = refl
same_forms_is {K} number one_to_one (e ∷ es) (f ∷ fs) h =
    let first = both _ _ h in
    let second = both _ _ first.1 in
    let kind : e.0 ≡ f.0 = one_to_one e.0 f.0 (is_same (number e.0) (number f.0) first.0) in
    let form : e.1 ≡ f.1 = same_form_is e.1 f.1 second.0 in
    let rest : es ≡ fs = same_forms_is number one_to_one es fs second.1 in
    ap (λ (x : K). (let p : K × Form = (x, e.1) in p) ∷ es) kind ∙ (ap (λ (x : Form). (let p : K × Form = (f.0, x) in p) ∷ es) form ∙ ap (λ (x : List (K × Form)). f ∷ x) rest)
same_forms_is number one_to_one [] (f ∷ fs) h = cc
same_forms_is number one_to_one (e ∷ es) [] h = cc

-- what a character is led to is what has to follow it, at 0 and at each cut
abbrev pub leads : {K : Type 0} → (K → ℕ) → List (K × Form) → (ℕ → List (K × Form)) → ℕ → Bool
leads number es led c = same_forms number (all_behind c es) (led c)

abbrev pub leads_on : {K : Type 0} → (K → ℕ) → List (K × Form) → (ℕ → List (K × Form)) → List ℕ → Bool
leads_on number es led more = leads number es led 0 && list_all (leads number es led) (all_cuts es ++ more)

-- so it is at each character
pub leads_everywhere : {K : Type 0} (number : K → ℕ) → OneToOne number → (es : List (K × Form)) (led : ℕ → List (K × Form)) (more : List ℕ)
    → ((c d : ℕ) → Agree c d more → led c ≡ led d) → leads_on number es led more ≡ true → (c : ℕ) → led c ≡ all_behind c es
leads_everywhere number one_to_one es led more same h c =
    let cuts = all_cuts es ++ more in
    let d = last_cut cuts c in
    let agree : Agree c d cuts = agree_last cuts c in
    let parts = both _ _ h in
    let here : leads number es led d ≡ true = at_last (leads number es led) cuts c parts.0 parts.1 in
    same c d (agree_right c d (all_cuts es) more agree)
    ∙ (sym (same_forms_is number one_to_one (all_behind d es) (led d) here)
    ∙ sym (same_all_behind c d es (agree_left c d (all_cuts es) more agree)))
