-- The tokens of a block that are labels, and the places of its triples, by the productions.
use Rattle.std.proofs.Common.{◌≡◌, ℕ, ◌+◌, ◌*◌, ◌≤◌, List, [], ◌∷◌, ◌++◌, length, arith}
use Rattle.std.specs.List.{AllByRecursion}
use Rattle.std.proofs.lemmas.List.{length-append}
use Rattle.query_grammar.specs.Block.{Role, Term, Variable, Open, Close, Stop, Comma, Part, part, Triple, triple, IsSimple, node, text, tagged, typed, blank, IsProps, props, IsMore, end, semicolon, again, IsObjects, last, comma, IsObject, simple, bracket, IsSame, followed, IsBlock, nothing, one, more}

-- whether a token may be a label
abbrev pub weight : Role → ℕ
weight Term = 1
weight Variable = 1
weight Open = 1
weight _ = 0

abbrev pub labels_in : List Part → ℕ
labels_in [] = 0
labels_in (t ∷ ts) = weight t.role + labels_in ts

labels_append : (ts us : List Part) → labels_in (ts ++ us) ≡ labels_in ts + labels_in us
labels_append [] us = omega arith
labels_append (t ∷ ts) us = omega (arith, labels_append ts us)

light : (role : Role) → weight role ≤ 1
light Term = omega arith
light Variable = omega arith
light Open = omega arith
light _ = omega arith

simple_labels : (i : ℕ) (ts : List Part) → IsSimple i ts → labels_in ts ≤ 1
simple_labels _ _ (node role i h) = omega (arith, light role)
simple_labels _ _ (text i) = omega arith
simple_labels _ _ (tagged i j) = omega arith
simple_labels _ _ (typed i j k) = omega arith
simple_labels _ _ (blank i j) = omega arith

mutual
  props_labels : (s : ℕ) (ts : List Part) (ps : List Triple) → IsProps s ts ps → (labels_in ts ≤ 2 * length ps) × (1 ≤ length ps)
  props_labels _ _ _ (props s v role ts us ps qs h o m) =
      let first = objects_labels s v ts ps o in
      let rest = more_labels s us qs m in
      (omega (arith, first, rest, light role, labels_append ts us, length-append ps qs), omega (arith, first, length-append ps qs))

  more_labels : (s : ℕ) (ts : List Part) (ps : List Triple) → IsMore s ts ps → labels_in ts ≤ 2 * length ps
  more_labels _ _ _ (end s) = omega arith
  more_labels _ _ _ (semicolon s i us qs m) = omega (arith, more_labels s us qs m)
  more_labels _ _ _ (again s i us qs p) = omega (arith, (props_labels s us qs p).0)

  objects_labels : (s v : ℕ) (ts : List Part) (ps : List Triple) → IsObjects s v ts ps → labels_in ts + 1 ≤ 2 * length ps
  objects_labels _ _ _ _ (last s v ts ps o) = object_labels s v ts ps o
  objects_labels _ _ _ _ (comma s v i ts us ps qs o os) =
      omega (arith, object_labels s v ts ps o, objects_labels s v us qs os, labels_append ts (part Comma i ∷ us), length-append ps qs)

  object_labels : (s v : ℕ) (ts : List Part) (ps : List Triple) → IsObject s v ts ps → labels_in ts + 1 ≤ 2 * length ps
  object_labels _ _ _ _ (simple s v i ts h) = omega (arith, simple_labels i ts h)
  object_labels _ _ _ _ (bracket s v i j ts ps p) =
      omega (arith, (props_labels i ts ps p).0, labels_append ts (part Close j ∷ []), length-append ps (triple s v i ∷ []))

same_labels : (ts : List Part) (ps : List Triple) → IsSame ts ps → labels_in ts ≤ 3 * length ps
same_labels _ _ (simple i ts us ps h p) =
    let inner = props_labels i us ps p in
    omega (arith, simple_labels i ts h, inner.0, inner.1, labels_append ts us)
same_labels _ _ (bracket i j ts ps p) =
    let inner = props_labels i ts ps p in
    omega (arith, inner.0, inner.1, labels_append ts (part Close j ∷ []))
same_labels _ _ (followed i j ts us ps qs p q) =
    let inner = props_labels i ts ps p in
    let outer = props_labels i us qs q in
    omega (arith, inner.0, inner.1, outer.0, outer.1, labels_append ts (part Close j ∷ us), length-append ps qs)

-- a block has at most three labels for each of its triples
pub block_labels : (ts : List Part) (ps : List Triple) → IsBlock ts ps → labels_in ts ≤ 3 * length ps
block_labels _ _ nothing = omega arith
block_labels _ _ (one ts ps h) = same_labels ts ps h
block_labels _ _ (more i ts us ps qs h b) =
    omega (arith, same_labels ts ps h, block_labels us qs b, labels_append ts (part Stop i ∷ us), length-append ps qs)

-- Places

abbrev pub AllTriples : (ℕ → Type 0) → List Triple → Type 0
AllTriples P ps = AllByRecursion (λ t. P t.s × P t.p × P t.o) ps

abbrev pub AllParts : (ℕ → Type 0) → List Part → Type 0
AllParts P ts = AllByRecursion (λ t. P t.place) ts

abbrev pub AllLabels : (ℕ → Type 0) → List Part → Type 0
AllLabels P ts = AllByRecursion (λ t. weight t.role ≡ 1 → P t.place) ts

pub all_join : {A : Type 0} (Q : A → Type 0) (xs ys : List A) → AllByRecursion Q xs → AllByRecursion Q ys → AllByRecursion Q (xs ++ ys)
all_join Q [] ys h k = k
all_join Q (x ∷ xs) ys h k = (h.0, all_join Q xs ys h.1 k)

pub all_left : {A : Type 0} (Q : A → Type 0) (xs ys : List A) → AllByRecursion Q (xs ++ ys) → AllByRecursion Q xs
all_left Q [] ys h = tt
all_left Q (x ∷ xs) ys h = (h.0, all_left Q xs ys h.1)

pub all_right : {A : Type 0} (Q : A → Type 0) (xs ys : List A) → AllByRecursion Q (xs ++ ys) → AllByRecursion Q ys
all_right Q [] ys h = h
all_right Q (x ∷ xs) ys h = all_right Q xs ys h.1

abbrev AtTriple : (ℕ → Type 0) → Triple → Type 0
AtTriple P t = P t.s × P t.p × P t.o

abbrev AtPart : (ℕ → Type 0) → Part → Type 0
AtPart P t = P t.place

abbrev AtLabel : (ℕ → Type 0) → Part → Type 0
AtLabel P t = weight t.role ≡ 1 → P t.place

weightless : {X : Type 0} → ◌≡◌ {A = ℕ} 0 1 → X
weightless h = absurd (omega (arith, h))

-- what holds of each place of the triples holds of each label

simple_touched : (P : ℕ → Type 0) (i : ℕ) (ts : List Part) → IsSimple i ts → P i → AllLabels P ts
simple_touched P _ _ (node role i h) p = (λ _. p, tt)
simple_touched P _ _ (text i) p = (λ _. p, tt)
simple_touched P _ _ (tagged i j) p = (λ _. p, (λ w. weightless w, tt))
simple_touched P _ _ (typed i j k) p = (λ _. p, (λ w. weightless w, (λ w. weightless w, tt)))
simple_touched P _ _ (blank i j) p = (λ _. p, (λ w. weightless w, tt))

mutual
  props_touched : (P : ℕ → Type 0) (s : ℕ) (ts : List Part) (ps : List Triple) → IsProps s ts ps → AllTriples P ps → P s × AllLabels P ts
  props_touched P _ _ _ (props s v role ts us ps qs h o m) all =
      let first = objects_touched P s v ts ps o (all_left (AtTriple P) ps qs all) in
      (first.0, (λ _. first.1, all_join (AtLabel P) ts us first.2 (more_touched P s us qs m (all_right (AtTriple P) ps qs all))))

  more_touched : (P : ℕ → Type 0) (s : ℕ) (ts : List Part) (ps : List Triple) → IsMore s ts ps → AllTriples P ps → AllLabels P ts
  more_touched P _ _ _ (end s) all = tt
  more_touched P _ _ _ (semicolon s i us qs m) all = (λ w. weightless w, more_touched P s us qs m all)
  more_touched P _ _ _ (again s i us qs p) all = (λ w. weightless w, (props_touched P s us qs p all).1)

  objects_touched : (P : ℕ → Type 0) (s v : ℕ) (ts : List Part) (ps : List Triple) → IsObjects s v ts ps → AllTriples P ps → P s × P v × AllLabels P ts
  objects_touched P _ _ _ _ (last s v ts ps o) all = object_touched P s v ts ps o all
  objects_touched P _ _ _ _ (comma s v i ts us ps qs o os) all =
      let first = object_touched P s v ts ps o (all_left (AtTriple P) ps qs all) in
      let rest = objects_touched P s v us qs os (all_right (AtTriple P) ps qs all) in
      (first.0, first.1, all_join (AtLabel P) ts (part Comma i ∷ us) first.2 (λ w. weightless w, rest.2))

  object_touched : (P : ℕ → Type 0) (s v : ℕ) (ts : List Part) (ps : List Triple) → IsObject s v ts ps → AllTriples P ps → P s × P v × AllLabels P ts
  object_touched P _ _ _ _ (simple s v i ts h) all = (all.0.0, all.0.1, simple_touched P i ts h all.0.2)
  object_touched P _ _ _ _ (bracket s v i j ts ps p) all =
      let own : AllTriples P (triple s v i ∷ []) = all_right (AtTriple P) ps (triple s v i ∷ []) all in
      let inner = props_touched P i ts ps p (all_left (AtTriple P) ps (triple s v i ∷ []) all) in
      (own.0.0, own.0.1, (λ _. own.0.2, all_join (AtLabel P) ts (part Close j ∷ []) inner.1 (λ w. weightless w, tt)))

same_touched : (P : ℕ → Type 0) (ts : List Part) (ps : List Triple) → IsSame ts ps → AllTriples P ps → AllLabels P ts
same_touched P _ _ (simple i ts us ps h p) all =
    let inner = props_touched P i us ps p all in
    all_join (AtLabel P) ts us (simple_touched P i ts h inner.0) inner.1
same_touched P _ _ (bracket i j ts ps p) all =
    let inner = props_touched P i ts ps p all in
    (λ _. inner.0, all_join (AtLabel P) ts (part Close j ∷ []) inner.1 (λ w. weightless w, tt))
same_touched P _ _ (followed i j ts us ps qs p q) all =
    let inner = props_touched P i ts ps p (all_left (AtTriple P) ps qs all) in
    let outer = props_touched P i us qs q (all_right (AtTriple P) ps qs all) in
    (λ _. inner.0, all_join (AtLabel P) ts (part Close j ∷ us) inner.1 (λ w. weightless w, outer.1))

pub block_touched : (P : ℕ → Type 0) (ts : List Part) (ps : List Triple) → IsBlock ts ps → AllTriples P ps → AllLabels P ts
block_touched P _ _ nothing all = tt
block_touched P _ _ (one ts ps h) all = same_touched P ts ps h all
block_touched P _ _ (more i ts us ps qs h b) all =
    all_join (AtLabel P) ts (part Stop i ∷ us) (same_touched P ts ps h (all_left (AtTriple P) ps qs all))
    (λ w. weightless w, block_touched P us qs b (all_right (AtTriple P) ps qs all))

-- what holds of each token holds of each place of the triples

simple_placed : (P : ℕ → Type 0) (i : ℕ) (ts : List Part) → IsSimple i ts → AllParts P ts → P i
simple_placed P _ _ (node role i h) all = all.0
simple_placed P _ _ (text i) all = all.0
simple_placed P _ _ (tagged i j) all = all.0
simple_placed P _ _ (typed i j k) all = all.0
simple_placed P _ _ (blank i j) all = all.0

mutual
  props_placed : (P : ℕ → Type 0) (s : ℕ) (ts : List Part) (ps : List Triple) → IsProps s ts ps → P s → AllParts P ts → AllTriples P ps
  props_placed P _ _ _ (props s v role ts us ps qs h o m) p all =
      all_join (AtTriple P) ps qs (objects_placed P s v ts ps o p all.0 (all_left (AtPart P) ts us all.1)) (more_placed P s us qs m p (all_right (AtPart P) ts us all.1))

  more_placed : (P : ℕ → Type 0) (s : ℕ) (ts : List Part) (ps : List Triple) → IsMore s ts ps → P s → AllParts P ts → AllTriples P ps
  more_placed P _ _ _ (end s) p all = tt
  more_placed P _ _ _ (semicolon s i us qs m) p all = more_placed P s us qs m p all.1
  more_placed P _ _ _ (again s i us qs h) p all = props_placed P s us qs h p all.1

  objects_placed : (P : ℕ → Type 0) (s v : ℕ) (ts : List Part) (ps : List Triple) → IsObjects s v ts ps → P s → P v → AllParts P ts → AllTriples P ps
  objects_placed P _ _ _ _ (last s v ts ps o) p q all = object_placed P s v ts ps o p q all
  objects_placed P _ _ _ _ (comma s v i ts us ps qs o os) p q all =
      all_join (AtTriple P) ps qs (object_placed P s v ts ps o p q (all_left (AtPart P) ts (part Comma i ∷ us) all))
      (objects_placed P s v us qs os p q (all_right (AtPart P) ts (part Comma i ∷ us) all).1)

  object_placed : (P : ℕ → Type 0) (s v : ℕ) (ts : List Part) (ps : List Triple) → IsObject s v ts ps → P s → P v → AllParts P ts → AllTriples P ps
  object_placed P _ _ _ _ (simple s v i ts h) p q all = ((p, q, simple_placed P i ts h all), tt)
  object_placed P _ _ _ _ (bracket s v i j ts ps h) p q all =
      all_join (AtTriple P) ps (triple s v i ∷ []) (props_placed P i ts ps h all.0 (all_left (AtPart P) ts (part Close j ∷ []) all.1)) ((p, q, all.0), tt)

same_placed : (P : ℕ → Type 0) (ts : List Part) (ps : List Triple) → IsSame ts ps → AllParts P ts → AllTriples P ps
same_placed P _ _ (simple i ts us ps h p) all = props_placed P i us ps p (simple_placed P i ts h (all_left (AtPart P) ts us all)) (all_right (AtPart P) ts us all)
same_placed P _ _ (bracket i j ts ps p) all = props_placed P i ts ps p all.0 (all_left (AtPart P) ts (part Close j ∷ []) all.1)
same_placed P _ _ (followed i j ts us ps qs p q) all =
    all_join (AtTriple P) ps qs (props_placed P i ts ps p all.0 (all_left (AtPart P) ts (part Close j ∷ us) all.1))
    (props_placed P i us qs q all.0 (all_right (AtPart P) ts (part Close j ∷ us) all.1).1)

pub block_placed : (P : ℕ → Type 0) (ts : List Part) (ps : List Triple) → IsBlock ts ps → AllParts P ts → AllTriples P ps
block_placed P _ _ nothing all = tt
block_placed P _ _ (one ts ps h) all = same_placed P ts ps h all
block_placed P _ _ (more i ts us ps qs h b) all =
    all_join (AtTriple P) ps qs (same_placed P ts ps h (all_left (AtPart P) ts (part Stop i ∷ us) all)) (block_placed P us qs b (all_right (AtPart P) ts (part Stop i ∷ us) all).1)
