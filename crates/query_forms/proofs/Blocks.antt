-- What a block says of its parts: each belongs to a triple, and triples are of places within.
use Rattle.std.proofs.Common.{◌≡◌, ◌∙◌, ◌+◌, ◌<◌, ℕ, suc, Bool, true, false, ◌⊎◌, List, [], ◌∷◌, ◌++◌, length, refl, sym, ap, inl, inr, arith}
use Rattle.std.specs.List.{AllByRecursion}
use Rattle.query_grammar.specs.Block.{Role, Term, Name, Variable, TypeOf, Text, LangTag, Carets, Open, Close, Stop, Comma, Semicolon, Other, Part, part, Triple, triple, is_node, is_verb, IsSimple, node, text, tagged, typed, blank, IsProps, props, IsMore, end, semicolon, again, IsObjects, last, comma, IsObject, simple, bracket, IsSame, followed, IsBlock, nothing, one, more}
use Rattle.query_grammar.specs.Lexemes.{Lexeme}
use Rattle.query_grammar.specs.Meaning.{at, parts_from}
use Rattle.query_grammar.specs.Signs.{sign_of, role_of}

pub all_both : {X : Type 0} (P : X → Type 0) (xs ys : List X) → AllByRecursion P xs → AllByRecursion P ys → AllByRecursion P (xs ++ ys)
all_both P [] ys h g = g
all_both P (x ∷ xs) ys h g = (h.0, all_both P xs ys h.1 g)

-- Roles

abbrev pub is_known : Role → Bool
is_known Other = false
is_known _ = true

-- what stands in a block by itself
abbrev is_plain : Role → Bool
is_plain Other = false
is_plain Carets = false
is_plain _ = true

node_plain : (role : Role) → is_node role ≡ true → is_plain role ≡ true
node_plain Other h = absurd (let f : ⊥ = cc in f)
node_plain Carets h = absurd (let f : ⊥ = cc in f)
node_plain _ h = refl

verb_plain : (role : Role) → is_verb role ≡ true → is_plain role ≡ true
verb_plain Other h = absurd (let f : ⊥ = cc in f)
verb_plain Carets h = absurd (let f : ⊥ = cc in f)
verb_plain _ h = refl

-- what holds of parts one after the other holds of a block
module _ (P : List Part → Type 0) (empty : P []) (both : (ts us : List Part) → P ts → P us → P (ts ++ us))
    (single : (role : Role) (i : ℕ) → is_plain role ≡ true → P (part role i ∷ [])) (datatype : (j k : ℕ) → P (part Carets j ∷ part Name k ∷ [])) where
  then : (role : Role) (i : ℕ) (ts : List Part) → is_plain role ≡ true → P ts → P (part role i ∷ ts)
  then role i ts h p = both (part role i ∷ []) ts (single role i h) p

  simple_holds : (i : ℕ) (ts : List Part) → IsSimple i ts → P ts
  simple_holds _ _ (node role i h) = single role i (node_plain role h)
  simple_holds _ _ (text i) = single Text i refl
  simple_holds _ _ (tagged i j) = then Text i (part LangTag j ∷ []) refl (single LangTag j refl)
  simple_holds _ _ (typed i j k) = then Text i (part Carets j ∷ part Name k ∷ []) refl (datatype j k)
  simple_holds _ _ (blank i j) = then Open i (part Close j ∷ []) refl (single Close j refl)

  mutual
    props_hold : (s : ℕ) (ts : List Part) (ps : List Triple) → IsProps s ts ps → P ts
    props_hold _ _ _ (props s v role ts us ps qs b os m) =
        then role v (ts ++ us) (verb_plain role b) (both ts us (objects_hold s v ts ps os) (more_hold s us qs m))

    more_hold : (s : ℕ) (ts : List Part) (ps : List Triple) → IsMore s ts ps → P ts
    more_hold _ _ _ (end s) = empty
    more_hold _ _ _ (semicolon s i us qs m) = then Semicolon i us refl (more_hold s us qs m)
    more_hold _ _ _ (again s i us qs p) = then Semicolon i us refl (props_hold s us qs p)

    objects_hold : (s v : ℕ) (ts : List Part) (ps : List Triple) → IsObjects s v ts ps → P ts
    objects_hold _ _ _ _ (last s v ts ps o) = object_holds s v ts ps o
    objects_hold _ _ _ _ (comma s v i ts us ps qs o os) =
        both ts (part Comma i ∷ us) (object_holds s v ts ps o) (then Comma i us refl (objects_hold s v us qs os))

    object_holds : (s v : ℕ) (ts : List Part) (ps : List Triple) → IsObject s v ts ps → P ts
    object_holds _ _ _ _ (simple s v i ts h) = simple_holds i ts h
    object_holds _ _ _ _ (bracket s v i j ts ps p) = then Open i (ts ++ part Close j ∷ []) refl (both ts (part Close j ∷ []) (props_hold i ts ps p) (single Close j refl))

  same_holds : (ts : List Part) (ps : List Triple) → IsSame ts ps → P ts
  same_holds _ _ (simple i ts us ps h p) = both ts us (simple_holds i ts h) (props_hold i us ps p)
  same_holds _ _ (bracket i j ts ps p) = then Open i (ts ++ part Close j ∷ []) refl (both ts (part Close j ∷ []) (props_hold i ts ps p) (single Close j refl))
  same_holds _ _ (followed i j ts us ps qs p q) =
      then Open i (ts ++ part Close j ∷ us) refl (both ts (part Close j ∷ us) (props_hold i ts ps p) (then Close j us refl (props_hold i us qs q)))

  block_holds : (ts : List Part) (ps : List Triple) → IsBlock ts ps → P ts
  block_holds _ _ nothing = empty
  block_holds _ _ (one ts ps h) = same_holds ts ps h
  block_holds _ _ (more i ts us ps qs h b) = both ts (part Stop i ∷ us) (same_holds ts ps h) (then Stop i us refl (block_holds us qs b))

abbrev Known : List Part → Type 0
Known ts = AllByRecursion (λ t. is_known t.role ≡ true) ts

plain_known : (role : Role) → is_plain role ≡ true → is_known role ≡ true
plain_known Other h = absurd (let f : ⊥ = cc in f)
plain_known _ h = refl

block_known : (ts : List Part) (ps : List Triple) → IsBlock ts ps → Known ts
block_known = block_holds Known tt (λ ts us h g. all_both (λ (t : Part). is_known t.role ≡ true) ts us h g) (λ role i h. (plain_known role h, tt)) (λ j k. (refl, (refl, tt)))

-- a datatype follows each '^^'

abbrev NameFirst : List Part → Type 0
NameFirst [] = ⊥
NameFirst (t ∷ ts) = t.role ≡ Name

abbrev pub Followed : List Part → Type 0
Followed [] = Unit {0}
Followed (t ∷ ts) = (t.role ≡ Carets → NameFirst ts) × Followed ts

name_still_first : (ts us : List Part) → NameFirst ts → NameFirst (ts ++ us)
name_still_first [] us h = absurd h
name_still_first (t ∷ ts) us h = h

both_followed : (ts us : List Part) → Followed ts → Followed us → Followed (ts ++ us)
both_followed [] us h g = g
both_followed (t ∷ ts) us h g = ((λ e. name_still_first ts us (h.0 e)), both_followed ts us h.1 g)

plain_not_carets : (role : Role) → is_plain role ≡ true → role ≡ Carets → ⊥
plain_not_carets role h e = let f : true ≡ false = sym h ∙ ap is_plain e in (let g : ⊥ = cc in g)

name_not_carets : Name ≡ Carets → ⊥
name_not_carets e = let f : ⊥ = cc in f

pub block_followed : (ts : List Part) (ps : List Triple) → IsBlock ts ps → Followed ts
block_followed = block_holds Followed tt both_followed (λ role i h. ((λ e. absurd (plain_not_carets role h e)), tt)) (λ j k. ((λ e. refl), ((λ e. absurd (name_not_carets e)), tt)))

abbrev pub InBlock : List Lexeme → Type 0
InBlock ls = AllByRecursion (λ l. is_known (role_of (sign_of l)) ≡ true) ls

of_parts : (n : ℕ) (ls : List Lexeme) → Known (parts_from n ls) → InBlock ls
of_parts n [] h = tt
of_parts n (l ∷ ls) h = (h.0, of_parts (n + 1) ls h.1)

-- each token between the braces may stand in a block
pub block_tokens : (n : ℕ) (ls : List Lexeme) (ps : List Triple) → IsBlock (parts_from n ls) ps → InBlock ls
block_tokens n ls ps h = of_parts n ls (block_known (parts_from n ls) ps h)

-- Places

-- what a place of a triple may have
abbrev pub is_place : Role → Bool
is_place Term = true
is_place Name = true
is_place Variable = true
is_place TypeOf = true
is_place Text = true
is_place Open = true
is_place _ = false

node_place : (role : Role) → is_node role ≡ true → is_place role ≡ true
node_place Term h = refl
node_place Name h = refl
node_place Variable h = refl
node_place _ h = absurd (let f : ⊥ = cc in f)

verb_place : (role : Role) → is_verb role ≡ true → is_place role ≡ true
verb_place Name h = refl
verb_place Variable h = refl
verb_place TypeOf h = refl
verb_place _ h = absurd (let f : ⊥ = cc in f)

abbrev In : ℕ → List Part → Type 0
In i [] = ⊥
In i (t ∷ ts) = ((is_place t.role ≡ true) × (t.place ≡ i)) ⊎ In i ts

in_front : (i : ℕ) (ts us : List Part) → In i ts → In i (ts ++ us)
in_front i [] us h = absurd h
in_front i (t ∷ ts) us (inl e) = inl e
in_front i (t ∷ ts) us (inr h) = inr (in_front i ts us h)

in_back : (i : ℕ) (ts us : List Part) → In i us → In i (ts ++ us)
in_back i [] us h = h
in_back i (t ∷ ts) us h = inr (in_back i ts us h)

simple_in : (i : ℕ) (ts : List Part) → IsSimple i ts → In i ts
simple_in _ _ (node role i h) = inl (node_place role h, refl)
simple_in _ _ (text i) = inl (refl, refl)
simple_in _ _ (tagged i j) = inl (refl, refl)
simple_in _ _ (typed i j k) = inl (refl, refl)
simple_in _ _ (blank i j) = inl (refl, refl)

-- the places of the triples are such, where those of the parts are
module _ (Is : ℕ → Type 0) where
  abbrev Are : List Triple → Type 0
  Are ps = AllByRecursion (λ t. Is t.s × Is t.p × Is t.o) ps

  abbrev Holds : List Part → Type 0
  Holds ts = (i : ℕ) → In i ts → Is i

  both_are : (ps qs : List Triple) → Are ps → Are qs → Are (ps ++ qs)
  both_are ps qs h g = all_both (λ (t : Triple). Is t.s × Is t.p × Is t.o) ps qs h g

  mutual
    props_in : (s : ℕ) (ts : List Part) (ps : List Triple) → IsProps s ts ps → Is s → Holds ts → Are ps
    props_in _ _ _ (props s v role ts us ps qs b os m) h is =
        both_are ps qs (objects_in s v ts ps os h (is v (inl (verb_place role b, refl))) (λ i e. is i (inr (in_front i ts us e)))) (more_in s us qs m h (λ i e. is i (inr (in_back i ts us e))))

    more_in : (s : ℕ) (ts : List Part) (ps : List Triple) → IsMore s ts ps → Is s → Holds ts → Are ps
    more_in _ _ _ (end s) h is = tt
    more_in _ _ _ (semicolon s i us qs m) h is = more_in s us qs m h (λ j e. is j (inr e))
    more_in _ _ _ (again s i us qs p) h is = props_in s us qs p h (λ j e. is j (inr e))

    objects_in : (s v : ℕ) (ts : List Part) (ps : List Triple) → IsObjects s v ts ps → Is s → Is v → Holds ts → Are ps
    objects_in _ _ _ _ (last s v ts ps o) h g is = object_in s v ts ps o h g is
    objects_in _ _ _ _ (comma s v i ts us ps qs o os) h g is =
        both_are ps qs (object_in s v ts ps o h g (λ j e. is j (in_front j ts (part Comma i ∷ us) e))) (objects_in s v us qs os h g (λ j e. is j (in_back j ts (part Comma i ∷ us) (inr e))))

    object_in : (s v : ℕ) (ts : List Part) (ps : List Triple) → IsObject s v ts ps → Is s → Is v → Holds ts → Are ps
    object_in _ _ _ _ (simple s v i ts o) h g is = ((h, g, is i (simple_in i ts o)), tt)
    object_in _ _ _ _ (bracket s v i j ts ps p) h g is =
        both_are ps (triple s v i ∷ []) (props_in i ts ps p (is i (inl (refl, refl))) (λ k e. is k (inr (in_front k ts (part Close j ∷ []) e)))) ((h, g, is i (inl (refl, refl))), tt)

  same_in : (ts : List Part) (ps : List Triple) → IsSame ts ps → Holds ts → Are ps
  same_in _ _ (simple i ts us ps h p) is = props_in i us ps p (is i (in_front i ts us (simple_in i ts h))) (λ j e. is j (in_back j ts us e))
  same_in _ _ (bracket i j ts ps p) is = props_in i ts ps p (is i (inl (refl, refl))) (λ k e. is k (inr (in_front k ts (part Close j ∷ []) e)))
  same_in _ _ (followed i j ts us ps qs p q) is =
      both_are ps qs (props_in i ts ps p (is i (inl (refl, refl))) (λ k e. is k (inr (in_front k ts (part Close j ∷ us) e))))
      (props_in i us qs q (is i (inl (refl, refl))) (λ k e. is k (inr (in_back k ts (part Close j ∷ us) (inr e)))))

  block_in : (ts : List Part) (ps : List Triple) → IsBlock ts ps → Holds ts → Are ps
  block_in _ _ nothing is = tt
  block_in _ _ (one ts ps h) is = same_in ts ps h is
  block_in _ _ (more i ts us ps qs h b) is =
      both_are ps qs (same_in ts ps h (λ j e. is j (in_front j ts (part Stop i ∷ us) e))) (block_in us qs b (λ j e. is j (in_back j ts (part Stop i ∷ us) (inr e))))

-- the place of a token that a triple may be of, where the first has the place n
abbrev pub Within : ℕ → List Lexeme → ℕ → Type 0
Within n ls i = (k : ℕ) × (k < length ls) × (i ≡ n + k) × (is_place (role_of (sign_of (at ls k))) ≡ true)

part_within : (n : ℕ) (ls : List Lexeme) (i : ℕ) → In i (parts_from n ls) → Within n ls i
part_within n [] i h = absurd h
part_within n (l ∷ ls) i (inl e) = (0, omega arith, omega (arith, e.1), e.0)
part_within n (l ∷ ls) i (inr h) = let more = part_within (n + 1) ls i h in (suc more.0, omega (arith, more.1), omega (arith, more.2), more.3)

-- each place of a triple is one of the block
pub triples_within : (n : ℕ) (ls : List Lexeme) (ps : List Triple) → IsBlock (parts_from n ls) ps
    → AllByRecursion (λ t. Within n ls t.s × Within n ls t.p × Within n ls t.o) ps
triples_within n ls ps h = block_in (Within n ls) (parts_from n ls) ps h (part_within n ls)
