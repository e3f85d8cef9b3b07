-- What has to follow a character: `behind` and the forms that it makes, against the texts that have a form.
use Rattle.std.proofs.Common.{◌≡◌, ◌∙◌, ℕ, Bool, true, false, ◌&&◌, ◌||◌, ◌⊎◌, List, [], ◌∷◌, ◌++◌, refl, sym, ap, subst, inl, inr, append_assoc, arith}
use Rattle.std.specs.Prelude.{◌==◌}
use Rattle.std.proofs.lemmas.Bool.Decides.{nat_tests}
use Rattle.std.proofs.lemmas.List.{append-nil}
use Rattle.ntriples_model.specs.Characters.{in_ranges}
use Rattle.query_tokens.specs.Forms.{Form, nothing, one, other, ◌▸◌, ◌∣◌, many, HasForm, IsRepeated, none, next}
use Rattle.query_tokens.specs.Front.{never, is_optional, same_ranges, same_form, joined, shared, either, behind}

-- Tests

pub both : (a b : Bool) → (a && b) ≡ true → (a ≡ true) × (b ≡ true)
both true b h = (refl, h)
both false b h = cc

pub is_same : (a b : ℕ) → (a == b) ≡ true → a ≡ b
is_same a b h = grind (arith, nat_tests)

pub same_ranges_is : (rs ss : List (ℕ × ℕ)) → same_ranges rs ss ≡ true → rs ≡ ss
same_ranges_is [] [] h = refl
same_ranges_is (r ∷ rs) (s ∷ ss) h =
    let first = both _ _ h in
    let second = both _ _ first.1 in
    let low : r.0 ≡ s.0 = is_same _ _ first.0 in
    let high : r.1 ≡ s.1 = is_same _ _ second.0 in
    let rest : rs ≡ ss = same_ranges_is rs ss second.1 in
    ap (λ (x : ℕ). (let p : ℕ × ℕ = (x, r.1) in p) ∷ rs) low ∙ (ap (λ (x : ℕ). (let p : ℕ × ℕ = (s.0, x) in p) ∷ rs) high ∙ ap (λ (x : List (ℕ × ℕ)). s ∷ x) rest)
same_ranges_is [] (s ∷ ss) h = cc
same_ranges_is (r ∷ rs) [] h = cc

pub same_form_is : (f g : Form) → same_form f g ≡ true → f ≡ g
same_form_is nothing nothing h = refl
same_form_is (one r) (one s) h = ap one (same_ranges_is r s h)
same_form_is (other r) (other s) h = ap other (same_ranges_is r s h)
same_form_is (f ▸ g) (h ▸ k) e =
    let parts = both _ _ e in
    ap (λ (x : Form). x ▸ g) (same_form_is f h parts.0) ∙ ap (λ (x : Form). h ▸ x) (same_form_is g k parts.1)
same_form_is (f ∣ g) (h ∣ k) e =
    let parts = both _ _ e in
    ap (λ (x : Form). x ∣ g) (same_form_is f h parts.0) ∙ ap (λ (x : Form). h ∣ x) (same_form_is g k parts.1)
same_form_is (many f) (many g) h = ap many (same_form_is f g h)
same_form_is _ _ h = cc

-- Forms that are made

pub never_has : (text : List ℕ) → HasForm never text → ⊥
never_has text (c, e, h) = cc

same_head_has : (a b g : Form) (text : List ℕ) → HasForm ((a ▸ b) ∣ g) text → HasForm (elim (same_form a g) [ true ↦ a ▸ (b ∣ nothing) | false ↦ (a ▸ b) ∣ g ]) text
same_head_has a b g text h =
    elim (same_form a g) as (λ t. same_form a g ≡ t → HasForm (elim t [ true ↦ a ▸ (b ∣ nothing) | false ↦ (a ▸ b) ∣ g ]) text) [
      | true ↦ λ t. elim h [
        | inl (front, back, e, ha, hb) ↦ (front, back, e, ha, inl hb)
        | inr y ↦ (text, [], sym (append-nil text), subst (λ (k : Form). HasForm k text) (sym (same_form_is a g t)) y, inr refl)
      ]
      | false ↦ λ _. h
    ] refl

same_head_gives : (a b g : Form) (text : List ℕ) → HasForm (elim (same_form a g) [ true ↦ a ▸ (b ∣ nothing) | false ↦ (a ▸ b) ∣ g ]) text → HasForm ((a ▸ b) ∣ g) text
same_head_gives a b g text h =
    elim (same_form a g) as (λ t. same_form a g ≡ t → HasForm (elim t [ true ↦ a ▸ (b ∣ nothing) | false ↦ (a ▸ b) ∣ g ]) text → HasForm ((a ▸ b) ∣ g) text) [
      | true ↦ λ t (front, back, e, ha, hb). elim hb [
        | inl x ↦ inl (front, back, e, ha, x)
        | inr y ↦ inr (subst (λ (k : Form). HasForm k text) (same_form_is a g t) (subst (HasForm a) (sym (e ∙ (ap (λ (x : List ℕ). front ++ x) y ∙ append-nil front))) ha))
      ]
      | false ↦ λ _ h. h
    ] refl h

shared_has : (f g : Form) (text : List ℕ) → HasForm (f ∣ g) text → HasForm (shared f g) text
shared_has (a ▸ b) (c ▸ d) text h =
    elim (same_form a c) as (λ t. same_form a c ≡ t → HasForm (elim t [ true ↦ a ▸ shared b d | false ↦ (a ▸ b) ∣ (c ▸ d) ]) text) [
      | true ↦ λ t. elim h [
        | inl (front, back, e, ha, hb) ↦ (front, back, e, ha, shared_has b d back (inl hb))
        | inr (front, back, e, hc, hd) ↦ (front, back, e, subst (λ (k : Form). HasForm k front) (sym (same_form_is a c t)) hc, shared_has b d back (inr hd))
      ]
      | false ↦ λ _. h
    ] refl
shared_has (a ▸ b) nothing text h = same_head_has a b nothing text h
shared_has (a ▸ b) (one r) text h = same_head_has a b (one r) text h
shared_has (a ▸ b) (other r) text h = same_head_has a b (other r) text h
shared_has (a ▸ b) (c ∣ d) text h = same_head_has a b (c ∣ d) text h
shared_has (a ▸ b) (many c) text h = same_head_has a b (many c) text h
shared_has nothing g text h = h
shared_has (one r) g text h = h
shared_has (other r) g text h = h
shared_has (a ∣ b) g text h = h
shared_has (many a) g text h = h

shared_gives : (f g : Form) (text : List ℕ) → HasForm (shared f g) text → HasForm (f ∣ g) text
shared_gives (a ▸ b) (c ▸ d) text h =
    elim (same_form a c) as (λ t. same_form a c ≡ t → HasForm (elim t [ true ↦ a ▸ shared b d | false ↦ (a ▸ b) ∣ (c ▸ d) ]) text → HasForm ((a ▸ b) ∣ (c ▸ d)) text) [
      | true ↦ λ t (front, back, e, ha, h). elim (shared_gives b d back h) [
        | inl x ↦ inl (front, back, e, ha, x)
        | inr y ↦ inr (front, back, e, subst (λ (k : Form). HasForm k front) (same_form_is a c t) ha, y)
      ]
      | false ↦ λ _ h. h
    ] refl h
shared_gives (a ▸ b) nothing text h = same_head_gives a b nothing text h
shared_gives (a ▸ b) (one r) text h = same_head_gives a b (one r) text h
shared_gives (a ▸ b) (other r) text h = same_head_gives a b (other r) text h
shared_gives (a ▸ b) (c ∣ d) text h = same_head_gives a b (c ∣ d) text h
shared_gives (a ▸ b) (many c) text h = same_head_gives a b (many c) text h
shared_gives nothing g text h = h
shared_gives (one r) g text h = h
shared_gives (other r) g text h = h
shared_gives (a ∣ b) g text h = h
shared_gives (many a) g text h = h

pub either_has : (f g : Form) (text : List ℕ) → HasForm (f ∣ g) text → HasForm (either f g) text
either_has f g text h =
    elim (same_form f never) as (λ b. same_form f never ≡ b → HasForm (elim b [ true ↦ g | false ↦ elim (same_form g never) [ true ↦ f | false ↦ elim (same_form f g) [ true ↦ f | false ↦ shared f g ] ] ]) text) [
      | true ↦ λ b. elim h [ inl x ↦ absurd (never_has text (subst (λ (k : Form). HasForm k text) (same_form_is f never b) x)) | inr y ↦ y ]
      | false ↦ λ _. elim (same_form g never) as (λ b. same_form g never ≡ b → HasForm (elim b [ true ↦ f | false ↦ elim (same_form f g) [ true ↦ f | false ↦ shared f g ] ]) text) [
        | true ↦ λ b. elim h [ inl x ↦ x | inr y ↦ absurd (never_has text (subst (λ (k : Form). HasForm k text) (same_form_is g never b) y)) ]
        | false ↦ λ _. elim (same_form f g) as (λ b. same_form f g ≡ b → HasForm (elim b [ true ↦ f | false ↦ shared f g ]) text) [
          | true ↦ λ b. elim h [ inl x ↦ x | inr y ↦ subst (λ (k : Form). HasForm k text) (sym (same_form_is f g b)) y ]
          | false ↦ λ _. shared_has f g text h
        ] refl
      ] refl
    ] refl

pub either_gives : (f g : Form) (text : List ℕ) → HasForm (either f g) text → HasForm (f ∣ g) text
either_gives f g text =
    elim (same_form f never) as (λ b. HasForm (elim b [ true ↦ g | false ↦ elim (same_form g never) [ true ↦ f | false ↦ elim (same_form f g) [ true ↦ f | false ↦ shared f g ] ] ]) text → HasForm (f ∣ g) text) [
      | true ↦ λ h. inr h
      | false ↦ elim (same_form g never) as (λ b. HasForm (elim b [ true ↦ f | false ↦ elim (same_form f g) [ true ↦ f | false ↦ shared f g ] ]) text → HasForm (f ∣ g) text) [
        | true ↦ λ h. inl h
        | false ↦ elim (same_form f g) as (λ b. HasForm (elim b [ true ↦ f | false ↦ shared f g ]) text → HasForm (f ∣ g) text) [
          | true ↦ λ h. inl h
          | false ↦ shared_gives f g text
        ]
      ]
    ]

pub joined_has : (f g : Form) (text : List ℕ) → HasForm (f ▸ g) text → HasForm (joined f g) text
joined_has nothing g text (front, back, e, is_empty, h) = subst (HasForm g) (sym (e ∙ ap (λ (x : List ℕ). x ++ back) is_empty)) h
joined_has (one []) g text (front, back, e, h, _) = absurd (never_has front h)
joined_has (one (r ∷ rs)) g text h = h
joined_has (other rs) g text h = h
joined_has (a ▸ b) g text (front, back, e, (first, second, e2, ha, hb), h) = (
  first,
  second ++ back,
  e ∙ (ap (λ (x : List ℕ). x ++ back) e2 ∙ append_assoc first second back),
  ha,
  joined_has b g (second ++ back) (second, back, refl, hb, h),
)
joined_has (a ∣ b) g text (front, back, e, inl x, h) = either_has (joined a g) (joined b g) text (inl (joined_has a g text (front, back, e, x, h)))
joined_has (a ∣ b) g text (front, back, e, inr y, h) = either_has (joined a g) (joined b g) text (inr (joined_has b g text (front, back, e, y, h)))
joined_has (many a) g text h = h

pub joined_gives : (f g : Form) (text : List ℕ) → HasForm (joined f g) text → HasForm (f ▸ g) text
joined_gives nothing g text h = ([], text, refl, refl, h)
joined_gives (one []) g text h = absurd (never_has text h)
joined_gives (one (r ∷ rs)) g text h = h
joined_gives (other rs) g text h = h
joined_gives (a ▸ b) g text (first, rest, e, ha, h) =
    let more = joined_gives b g rest h in
    (first ++ more.0, more.1, e ∙ (ap (λ (x : List ℕ). first ++ x) more.2 ∙ sym (append_assoc first more.0 more.1)), (first, more.0, refl, ha, more.3), more.4)
joined_gives (a ∣ b) g text h =
    elim (either_gives (joined a g) (joined b g) text h) [
      | inl x ↦ let parts = joined_gives a g text x in (parts.0, parts.1, parts.2, inl parts.3, parts.4)
      | inr y ↦ let parts = joined_gives b g text y in (parts.0, parts.1, parts.2, inr parts.3, parts.4)
    ]
joined_gives (many a) g text h = h

-- The empty text

or_left : (a b : Bool) → a ≡ true → (a || b) ≡ true
or_left true b h = refl
or_left false b h = cc

or_right : (a b : Bool) → b ≡ true → (a || b) ≡ true
or_right true b h = refl
or_right false b h = h

or_either : (a b : Bool) → (a || b) ≡ true → (a ≡ true) ⊎ (b ≡ true)
or_either true b h = inl refl
or_either false b h = inr h

no_front : (front back : List ℕ) → [] ≡ front ++ back → (front ≡ []) × (back ≡ [])
no_front [] back e = (refl, sym e)
no_front (c ∷ front) back e = cc

pub optional_has : (f : Form) → is_optional f ≡ true → HasForm f []
optional_has nothing h = refl
optional_has (one ranges) h = cc
optional_has (other ranges) h = cc
optional_has (f ▸ g) h = let parts = both _ _ h in ([], [], refl, optional_has f parts.0, optional_has g parts.1)
optional_has (f ∣ g) h = elim (or_either _ _ h) [ inl x ↦ inl (optional_has f x) | inr y ↦ inr (optional_has g y) ]
optional_has (many f) h = none

pub has_optional : (f : Form) → HasForm f [] → is_optional f ≡ true
has_optional nothing h = refl
has_optional (one ranges) (c, e, h) = cc
has_optional (other ranges) (c, e, h) = cc
has_optional (f ▸ g) (front, back, e, hf, hg) =
    let parts = no_front front back e in
    let first : is_optional f ≡ true = has_optional f (subst (HasForm f) parts.0 hf) in
    let second : is_optional g ≡ true = has_optional g (subst (HasForm g) parts.1 hg) in
    rw first second
has_optional (f ∣ g) (inl x) = or_left _ _ (has_optional f x)
has_optional (f ∣ g) (inr y) = or_right _ _ (has_optional g y)
has_optional (many f) h = refl

-- One character

first_piece : (Is : List ℕ → Type 0) (c : ℕ) (rest text : List ℕ) → IsRepeated Is text → text ≡ c ∷ rest
    → (front : List ℕ) × (back : List ℕ) × (rest ≡ front ++ back) × Is (c ∷ front) × IsRepeated Is back
first_piece Is c rest _ none e = cc
first_piece Is c rest _ (next [] more h hs) e = first_piece Is c rest more hs e
first_piece Is c rest _ (next (d ∷ front) more h hs) e =
    let head : d ≡ c = cc in
    let tail : front ++ more ≡ rest = cc in
    (front, more, sym tail, subst (λ (x : ℕ). Is (x ∷ front)) head h, hs)

split : (c : ℕ) (rest front back : List ℕ) → c ∷ rest ≡ front ++ back
    → ((front ≡ []) × (back ≡ c ∷ rest)) ⊎ ((more : List ℕ) × (front ≡ c ∷ more) × (rest ≡ more ++ back))
split c rest [] back e = inl (refl, sym e)
split c rest (d ∷ front) back e =
    let head : d ≡ c = cc in
    inr (front, ap (λ (x : ℕ). x ∷ front) head, cc)

single : (c : ℕ) (rest : List ℕ) (d : ℕ) → c ∷ rest ≡ d ∷ [] → (c ≡ d) × (rest ≡ [])
single c rest d e = (cc, cc)

pub behind_has : (f : Form) (c : ℕ) (rest : List ℕ) → HasForm f (c ∷ rest) → HasForm (behind c f) rest
behind_has nothing c rest h = cc
behind_has (one ranges) c rest (d, e, h) =
    let parts = single c rest d e in
    let fits : in_ranges ranges c ≡ true = rw parts.0 h in
    subst (λ b. HasForm (elim b [ true ↦ nothing | false ↦ never ]) rest) (sym fits) parts.1
behind_has (other ranges) c rest (d, e, h) =
    let parts = single c rest d e in
    let fits : in_ranges ranges c ≡ false = rw parts.0 h in
    subst (λ b. HasForm (elim b [ true ↦ never | false ↦ nothing ]) rest) (sym fits) parts.1
behind_has (f ▸ g) c rest (front, back, e, hf, hg) =
    elim (is_optional f) as (λ b. is_optional f ≡ b → HasForm (elim b [ true ↦ either (joined (behind c f) g) (behind c g) | false ↦ joined (behind c f) g ]) rest) [
      | true ↦ λ b. either_has (joined (behind c f) g) (behind c g) rest (elim (split c rest front back e) [
        | inl p ↦ inr (behind_has g c rest (subst (HasForm g) p.1 hg))
        | inr p ↦ inl (joined_has (behind c f) g rest (p.0, back, p.2, behind_has f c p.0 (subst (HasForm f) p.1 hf), hg))
      ])
      | false ↦ λ b. elim (split c rest front back e) [
        | inl p ↦ let h : is_optional f ≡ true = has_optional f (subst (HasForm f) p.0 hf) in absurd cc
        | inr p ↦ joined_has (behind c f) g rest (p.0, back, p.2, behind_has f c p.0 (subst (HasForm f) p.1 hf), hg)
      ]
    ] refl
behind_has (f ∣ g) c rest (inl h) = either_has (behind c f) (behind c g) rest (inl (behind_has f c rest h))
behind_has (f ∣ g) c rest (inr h) = either_has (behind c f) (behind c g) rest (inr (behind_has g c rest h))
behind_has (many f) c rest h =
    let piece = first_piece (HasForm f) c rest (c ∷ rest) h refl in
    joined_has (behind c f) (many f) rest (piece.0, piece.1, piece.2, behind_has f c piece.0 piece.3, piece.4)

pub behind_gives : (f : Form) (c : ℕ) (rest : List ℕ) → HasForm (behind c f) rest → HasForm f (c ∷ rest)
behind_gives nothing c rest h = absurd (never_has rest h)
behind_gives (one ranges) c rest h =
    elim (in_ranges ranges c) as (λ b. in_ranges ranges c ≡ b → HasForm (elim b [ true ↦ nothing | false ↦ never ]) rest → HasForm (one ranges) (c ∷ rest)) [
      | true ↦ λ b h. (c, ap (λ (x : List ℕ). c ∷ x) h, b)
      | false ↦ λ b h. absurd (never_has rest h)
    ] refl h
behind_gives (other ranges) c rest h =
    elim (in_ranges ranges c) as (λ b. in_ranges ranges c ≡ b → HasForm (elim b [ true ↦ never | false ↦ nothing ]) rest → HasForm (other ranges) (c ∷ rest)) [
      | true ↦ λ b h. absurd (never_has rest h)
      | false ↦ λ b h. (c, ap (λ (x : List ℕ). c ∷ x) h, b)
    ] refl h
behind_gives (f ▸ g) c rest h =
    let first : HasForm (joined (behind c f) g) rest → HasForm (f ▸ g) (c ∷ rest) = λ h.
    (let parts = joined_gives (behind c f) g rest h in
    (c ∷ parts.0, parts.1, ap (λ (x : List ℕ). c ∷ x) parts.2, behind_gives f c parts.0 parts.3, parts.4)) in
    elim (is_optional f) as (λ b. is_optional f ≡ b → HasForm (elim b [ true ↦ either (joined (behind c f) g) (behind c g) | false ↦ joined (behind c f) g ]) rest → HasForm (f ▸ g) (c ∷ rest)) [
      | true ↦ λ b h. elim (either_gives (joined (behind c f) g) (behind c g) rest h) [
        | inl x ↦ first x
        | inr y ↦ ([], c ∷ rest, refl, optional_has f b, behind_gives g c rest y)
      ]
      | false ↦ λ b h. first h
    ] refl h
behind_gives (f ∣ g) c rest h = elim (either_gives (behind c f) (behind c g) rest h) [ inl x ↦ inl (behind_gives f c rest x) | inr y ↦ inr (behind_gives g c rest y) ]
behind_gives (many f) c rest h =
    let parts = joined_gives (behind c f) (many f) rest h in
    subst (λ (x : List ℕ). IsRepeated (HasForm f) (c ∷ x)) (sym parts.2) (next (c ∷ parts.0) parts.1 (behind_gives f c parts.0 parts.3) parts.4)
