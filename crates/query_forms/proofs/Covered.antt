-- Each name of a block belongs to a triple: it has one of its places, or is the datatype of a text that does.
use Rattle.std.proofs.Common.{◌≡◌, ◌∙◌, ◌+◌, ℕ, Bool, true, false, ◌⊎◌, List, [], ◌∷◌, ◌++◌, length, refl, sym, ap, subst, inl, inr, arith}
use Rattle.query_grammar.specs.Block.{Role, Name, Text, LangTag, Carets, Open, Close, Stop, Comma, Semicolon, Part, part, Triple, triple, IsSimple, node, text, tagged, typed, blank, IsProps, props, IsMore, end, semicolon, again, IsObjects, last, comma, IsObject, simple, bracket, IsSame, followed, IsBlock, nothing, one, more}
use Rattle.query_grammar.specs.Lexemes.{Lexeme}
use Rattle.query_grammar.specs.Meaning.{parts_from}
use Rattle.query_grammar.specs.Signs.{sign_of, role_of}
use Rattle.query_forms.proofs.Signed.{clash}

-- places of triples

abbrev pub IsOf : ℕ → Triple → Type 0
IsOf i t = (t.s ≡ i) ⊎ ((t.p ≡ i) ⊎ (t.o ≡ i))

abbrev pub OfSome : List Triple → ℕ → Type 0
OfSome [] i = ⊥
OfSome (t ∷ ps) i = IsOf i t ⊎ OfSome ps i

of_front : (ps qs : List Triple) (i : ℕ) → OfSome ps i → OfSome (ps ++ qs) i
of_front [] qs i h = absurd h
of_front (t ∷ ps) qs i (inl h) = inl h
of_front (t ∷ ps) qs i (inr h) = inr (of_front ps qs i h)

of_back : (ps qs : List Triple) (i : ℕ) → OfSome qs i → OfSome (ps ++ qs) i
of_back [] qs i h = h
of_back (t ∷ ps) qs i h = inr (of_back ps qs i h)

abbrev is_name : Role → Bool
is_name Name = true
is_name _ = false

-- each name has such a place, or is the datatype of a text that has
pub data Covered (Is : ℕ → Type 0) : List Part → Type 0 where
  empty : Covered Is []
  unnamed : (role : Role) (i : ℕ) (ts : List Part) → is_name role ≡ false → Covered Is ts → Covered Is (part role i ∷ ts)
  named : (i : ℕ) (ts : List Part) → Is i → Covered Is ts → Covered Is (part Name i ∷ ts)
  datatype : (i j k : ℕ) (ts : List Part) → Is i → Covered Is ts → Covered Is (part Text i ∷ part Carets j ∷ part Name k ∷ ts)

both_covered : (Is : ℕ → Type 0) (ts us : List Part) → Covered Is ts → Covered Is us → Covered Is (ts ++ us)
both_covered Is _ us empty g = g
both_covered Is _ us (unnamed role i ts h rest) g = unnamed role i (ts ++ us) h (both_covered Is ts us rest g)
both_covered Is _ us (named i ts h rest) g = named i (ts ++ us) h (both_covered Is ts us rest g)
both_covered Is _ us (datatype i j k ts h rest) g = datatype i j k (ts ++ us) h (both_covered Is ts us rest g)

more_covered : (Is Are : ℕ → Type 0) (ts : List Part) → ((i : ℕ) → Is i → Are i) → Covered Is ts → Covered Are ts
more_covered Is Are _ wider empty = empty
more_covered Is Are _ wider (unnamed role i ts h rest) = unnamed role i ts h (more_covered Is Are ts wider rest)
more_covered Is Are _ wider (named i ts h rest) = named i ts (wider i h) (more_covered Is Are ts wider rest)
more_covered Is Are _ wider (datatype i j k ts h rest) = datatype i j k ts (wider i h) (more_covered Is Are ts wider rest)

front_covered : (ps qs : List Triple) (ts : List Part) → Covered (OfSome ps) ts → Covered (OfSome (ps ++ qs)) ts
front_covered ps qs ts h = more_covered (OfSome ps) (OfSome (ps ++ qs)) ts (of_front ps qs) h

back_covered : (ps qs : List Triple) (ts : List Part) → Covered (OfSome qs) ts → Covered (OfSome (ps ++ qs)) ts
back_covered ps qs ts h = more_covered (OfSome qs) (OfSome (ps ++ qs)) ts (of_back ps qs) h

by_role : (Is : ℕ → Type 0) (role : Role) (i : ℕ) (ts : List Part) → Is i → Covered Is ts → Covered Is (part role i ∷ ts)
by_role Is Name i ts h rest = named i ts h rest
by_role Is role i ts h rest = unnamed role i ts refl rest

simple_covered : (Is : ℕ → Type 0) (i : ℕ) (ts : List Part) → IsSimple i ts → Is i → Covered Is ts
simple_covered Is _ _ (node role i h) is = by_role Is role i [] is empty
simple_covered Is _ _ (text i) is = unnamed Text i [] refl empty
simple_covered Is _ _ (tagged i j) is = unnamed Text i (part LangTag j ∷ []) refl (unnamed LangTag j [] refl empty)
simple_covered Is _ _ (typed i j k) is = datatype i j k [] is empty
simple_covered Is _ _ (blank i j) is = unnamed Open i (part Close j ∷ []) refl (unnamed Close j [] refl empty)

mutual
  objects_of : (s v : ℕ) (ts : List Part) (ps : List Triple) → IsObjects s v ts ps → OfSome ps s × OfSome ps v
  objects_of _ _ _ _ (last s v ts ps o) = object_of s v ts ps o
  objects_of _ _ _ _ (comma s v i ts us ps qs o os) = let h = object_of s v ts ps o in (of_front ps qs s h.0, of_front ps qs v h.1)

  object_of : (s v : ℕ) (ts : List Part) (ps : List Triple) → IsObject s v ts ps → OfSome ps s × OfSome ps v
  object_of _ _ _ _ (simple s v i ts h) = (inl (inl refl), inl (inr (inl refl)))
  object_of _ _ _ _ (bracket s v i j ts ps p) =
      (of_back ps (triple s v i ∷ []) s (inl (inl refl)), of_back ps (triple s v i ∷ []) v (inl (inr (inl refl))))

props_of : (s : ℕ) (ts : List Part) (ps : List Triple) → IsProps s ts ps → OfSome ps s
props_of _ _ _ (props s v role ts us ps qs b os m) = of_front ps qs s (objects_of s v ts ps os).0

mutual
  props_covered : (s : ℕ) (ts : List Part) (ps : List Triple) → IsProps s ts ps → Covered (OfSome ps) ts
  props_covered _ _ _ (props s v role ts us ps qs b os m) =
      by_role (OfSome (ps ++ qs)) role v (ts ++ us) (of_front ps qs v (objects_of s v ts ps os).1)
      (both_covered (OfSome (ps ++ qs)) ts us (front_covered ps qs ts (objects_covered s v ts ps os)) (back_covered ps qs us (rest_covered s us qs m)))

  rest_covered : (s : ℕ) (ts : List Part) (ps : List Triple) → IsMore s ts ps → Covered (OfSome ps) ts
  rest_covered _ _ _ (end s) = empty
  rest_covered _ _ _ (semicolon s i us qs m) = unnamed Semicolon i us refl (rest_covered s us qs m)
  rest_covered _ _ _ (again s i us qs p) = unnamed Semicolon i us refl (props_covered s us qs p)

  objects_covered : (s v : ℕ) (ts : List Part) (ps : List Triple) → IsObjects s v ts ps → Covered (OfSome ps) ts
  objects_covered _ _ _ _ (last s v ts ps o) = object_covered s v ts ps o
  objects_covered _ _ _ _ (comma s v i ts us ps qs o os) =
      both_covered (OfSome (ps ++ qs)) ts (part Comma i ∷ us) (front_covered ps qs ts (object_covered s v ts ps o))
      (unnamed Comma i us refl (back_covered ps qs us (objects_covered s v us qs os)))

  object_covered : (s v : ℕ) (ts : List Part) (ps : List Triple) → IsObject s v ts ps → Covered (OfSome ps) ts
  object_covered _ _ _ _ (simple s v i ts h) = simple_covered (OfSome (triple s v i ∷ [])) i ts h (inl (inr (inr refl)))
  object_covered _ _ _ _ (bracket s v i j ts ps p) =
      unnamed Open i (ts ++ part Close j ∷ []) refl
      (both_covered (OfSome (ps ++ triple s v i ∷ [])) ts (part Close j ∷ []) (front_covered ps (triple s v i ∷ []) ts (props_covered i ts ps p)) (unnamed Close j [] refl empty))

same_covered : (ts : List Part) (ps : List Triple) → IsSame ts ps → Covered (OfSome ps) ts
same_covered _ _ (simple i ts us ps h p) = both_covered (OfSome ps) ts us (simple_covered (OfSome ps) i ts h (props_of i us ps p)) (props_covered i us ps p)
same_covered _ _ (bracket i j ts ps p) =
    unnamed Open i (ts ++ part Close j ∷ []) refl (both_covered (OfSome ps) ts (part Close j ∷ []) (props_covered i ts ps p) (unnamed Close j [] refl empty))
same_covered _ _ (followed i j ts us ps qs p q) =
    unnamed Open i (ts ++ part Close j ∷ us) refl
    (both_covered (OfSome (ps ++ qs)) ts (part Close j ∷ us) (front_covered ps qs ts (props_covered i ts ps p)) (unnamed Close j us refl (back_covered ps qs us (props_covered i us qs q))))

pub block_covered : (ts : List Part) (ps : List Triple) → IsBlock ts ps → Covered (OfSome ps) ts
block_covered _ _ nothing = empty
block_covered _ _ (one ts ps h) = same_covered ts ps h
block_covered _ _ (more i ts us ps qs h b) =
    both_covered (OfSome (ps ++ qs)) ts (part Stop i ∷ us) (front_covered ps qs ts (same_covered ts ps h)) (unnamed Stop i us refl (back_covered ps qs us (block_covered us qs b)))

-- A name among the tokens of a block

-- its place is such, or that of the text before it
pub record IsDatatype (Is : ℕ → Type 0) (n : ℕ) (before : List Lexeme) : Type 0 where
  pub first : List Lexeme
  pub text : Lexeme
  pub carets : Lexeme
  pub are : before ≡ first ++ text ∷ carets ∷ []
  pub is_text : role_of (sign_of text) ≡ Text
  pub is_carets : role_of (sign_of carets) ≡ Carets
  pub is : Is (n + length first)

role_is : (s t : Part) (ss ts : List Part) → s ∷ ss ≡ t ∷ ts → s.role ≡ t.role
role_is s t ss ts e = let same : s ≡ t = cc in ap (λ (p : Part). p.role) same

place_is : (s t : Part) (ss ts : List Part) → s ∷ ss ≡ t ∷ ts → s.place ≡ t.place
place_is s t ss ts e = let same : s ≡ t = cc in ap (λ (p : Part). p.place) same

rest_is : (s t : Part) (ss ts : List Part) → s ∷ ss ≡ t ∷ ts → ss ≡ ts
rest_is s t ss ts e = cc

name_clash : (role : Role) → is_name role ≡ false → role ≡ Name → ⊥
name_clash role h e = clash (sym (ap is_name e) ∙ h)

module _ (Is : ℕ → Type 0) where
  Result : ℕ → List Lexeme → Type 0
  Result n before = Is (n + length before) ⊎ IsDatatype Is n before

  one_further : (n : ℕ) (b : Lexeme) (before : List Lexeme) → Result (n + 1) before → Result n (b ∷ before)
  unfolding Result
  one_further n b before (inl h) = inl (subst Is (omega arith) h)
  one_further n b before (inr d) = inr (record {
    first = b ∷ d.first;
    text = d.text;
    carets = d.carets;
    are = ap (λ ls. b ∷ ls) d.are;
    is_text = d.is_text;
    is_carets = d.is_carets;
    is = subst Is (omega arith) d.is;
  })

  module _ (behind : List Lexeme) (l : Lexeme) (name : role_of (sign_of l) ≡ Name) where
    covered_at : (ts : List Part) → Covered Is ts → (n : ℕ) (before : List Lexeme) → parts_from n (before ++ l ∷ behind) ≡ ts → Result n before
    unfolding Result
    covered_at _ empty n [] e = absurd (let f : ⊥ = cc in f)
    covered_at _ empty n (b ∷ before) e = absurd (let f : ⊥ = cc in f)
    covered_at _ (unnamed role i ts h rest) n [] e = absurd (name_clash role h (sym (role_is _ _ _ _ e) ∙ name))
    covered_at _ (unnamed role i ts h rest) n (b ∷ before) e = one_further n b before (covered_at ts rest (n + 1) before (rest_is _ _ _ _ e))
    covered_at _ (named i ts h rest) n [] e = inl (subst Is (let at : i ≡ n = sym (place_is _ _ _ _ e) in omega (arith, at)) h)
    covered_at _ (named i ts h rest) n (b ∷ before) e = one_further n b before (covered_at ts rest (n + 1) before (rest_is _ _ _ _ e))
    covered_at _ (datatype i j k ts h rest) n [] e = absurd (name_clash Text refl (sym (role_is _ _ _ _ e) ∙ name))
    covered_at _ (datatype i j k ts h rest) n (b ∷ []) e = absurd (name_clash Carets refl (sym (role_is _ _ _ _ (rest_is _ _ _ _ e)) ∙ name))
    covered_at _ (datatype i j k ts h rest) n (b ∷ c ∷ []) e = inr (record {
      first = [];
      text = b;
      carets = c;
      are = refl;
      is_text = role_is _ _ _ _ e;
      is_carets = role_is _ _ _ _ (rest_is _ _ _ _ e);
      is = subst Is (let at : i ≡ n = sym (place_is _ _ _ _ e) in omega (arith, at)) h;
    })
    covered_at _ (datatype i j k ts h rest) n (b ∷ c ∷ d ∷ before) e =
        one_further n b (c ∷ d ∷ before) (one_further (n + 1) c (d ∷ before) (one_further (n + 1 + 1) d before
        (covered_at ts rest (n + 1 + 1 + 1) before (rest_is _ _ _ _ (rest_is _ _ _ _ (rest_is _ _ _ _ e))))))

    pub name_covered : (n : ℕ) (before : List Lexeme) → Covered Is (parts_from n (before ++ l ∷ behind)) → Is (n + length before) ⊎ IsDatatype Is n before
    unfolding Result
    name_covered n before h = covered_at (parts_from n (before ++ l ∷ behind)) h n before refl
