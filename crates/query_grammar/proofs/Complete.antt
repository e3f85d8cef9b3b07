-- What the productions have, the function from the front finds.
use Rattle.std.proofs.Common.{◌≡◌, ◌∙◌, ℕ, Bool, true, false, List, [], ◌∷◌, ◌++◌, refl, sym, ap, append_assoc, Option, Some, None}
use Rattle.std.proofs.lemmas.List.{append-nil}
use Rattle.query_grammar.specs.Block.{Role, Term, Name, Variable, TypeOf, Open, Close, Stop, Comma, Semicolon, Part, part, Triple, triple, is_node, is_verb, IsSimple, node, text, tagged, typed, blank, IsProps, props, IsMore, end, semicolon, again, IsObjects, last, comma, IsObject, simple, bracket, IsSame, followed, IsBlock, nothing, one, more}
use Rattle.query_grammar.specs.BlockFront.{Frame, Subject, Object, Statement, Bracket, Verb, TextSubject, ObjectOf, Behind, TextObject, Semi, BehindSubject, with_ended, triples_from}

-- what may stand behind properties: their end, a closing bracket or a full stop
abbrev is_closer : Role → Bool
is_closer Close = true
is_closer Stop = true
is_closer _ = false

abbrev Closes : List Part → Type 0
Closes [] = Unit {0}
Closes (t ∷ ts) = is_closer t.role ≡ true

-- what may stand behind an object
abbrev is_after_object : Role → Bool
is_after_object Close = true
is_after_object Stop = true
is_after_object Comma = true
is_after_object Semicolon = true
is_after_object _ = false

abbrev Follows : List Part → Type 0
Follows [] = Unit {0}
Follows (t ∷ ts) = is_after_object t.role ≡ true

closes_follows : (ts : List Part) → Closes ts → Follows ts
closes_follows [] h = tt
closes_follows (t ∷ ts) h = closer t.role h
  where
    closer : (role : Role) → is_closer role ≡ true → is_after_object role ≡ true
    closer Close h = refl
    closer Stop h = refl
    closer _ h = cc

abbrev Answer : Type 0
Answer = Option (List Triple)

ended_twice : (ps qs : List Triple) (o : Answer) → with_ended ps (with_ended qs o) ≡ with_ended (ps ++ qs) o
ended_twice ps qs None = refl
ended_twice ps qs (Some rs) = ap Some (sym (append_assoc ps qs rs))

none_ended : (o : Answer) → with_ended [] o ≡ o
none_ended None = refl
none_ended (Some ps) = refl

-- a text as an object, where nothing that belongs to it follows
text_object : (s v : ℕ) (stack : List Frame) (rest : List Part) → Follows rest → triples_from (TextObject s v) stack rest ≡ triples_from (Behind s v) stack rest
text_object s v [] [] f = refl
text_object s v (frame ∷ stack) [] f = refl
text_object s v stack (t ∷ ts) f = by_role t.role f t.place
  where
    by_role : (role : Role) → is_after_object role ≡ true → (i : ℕ) → triples_from (TextObject s v) stack (part role i ∷ ts) ≡ triples_from (Behind s v) stack (part role i ∷ ts)
    by_role Close f i = refl
    by_role Stop f i = refl
    by_role Comma f i = refl
    by_role Semicolon f i = refl
    by_role _ f i = cc

-- behind an object as behind a semicolon, where the properties end
closed : (s v : ℕ) (stack : List Frame) (rest : List Part) → Closes rest → triples_from (Behind s v) stack rest ≡ triples_from (Semi s) stack rest
closed s v [] [] c = refl
closed s v (frame ∷ stack) [] c = refl
closed s v stack (t ∷ ts) c = by_role t.role c t.place
  where
    by_role : (role : Role) → is_closer role ≡ true → (i : ℕ) → triples_from (Behind s v) stack (part role i ∷ ts) ≡ triples_from (Semi s) stack (part role i ∷ ts)
    by_role Close c i = refl
    by_role Stop c i = refl
    by_role _ c i = cc

-- the same behind the brackets that are a subject
closed_subject : (s : ℕ) (stack : List Frame) (rest : List Part) → Closes rest → triples_from (BehindSubject s) stack rest ≡ triples_from (Semi s) stack rest
closed_subject s [] [] c = refl
closed_subject s (frame ∷ stack) [] c = refl
closed_subject s stack (t ∷ ts) c = by_role t.role c t.place
  where
    by_role : (role : Role) → is_closer role ≡ true → (i : ℕ) → triples_from (BehindSubject s) stack (part role i ∷ ts) ≡ triples_from (Semi s) stack (part role i ∷ ts)
    by_role Close c i = refl
    by_role Stop c i = refl
    by_role _ c i = cc

-- a node as an object
node_object : (s v : ℕ) (stack : List Frame) (role : Role) (i : ℕ) (rest : List Part) → is_node role ≡ true
    → triples_from (ObjectOf s v) stack (part role i ∷ rest) ≡ with_ended (triple s v i ∷ []) (triples_from (Behind s v) stack rest)
node_object s v stack Term i rest h = refl
node_object s v stack Name i rest h = refl
node_object s v stack Variable i rest h = refl
node_object s v stack _ i rest h = cc

node_subject : (stack : List Frame) (role : Role) (i : ℕ) (rest : List Part) → is_node role ≡ true
    → triples_from Statement stack (part role i ∷ rest) ≡ triples_from (Verb i) stack rest
node_subject stack Term i rest h = none_ended _
node_subject stack Name i rest h = none_ended _
node_subject stack Variable i rest h = none_ended _
node_subject stack _ i rest h = cc

-- a verb, wherever one may stand
verb_of : (s : ℕ) (stack : List Frame) (role : Role) (v : ℕ) (rest : List Part) → is_verb role ≡ true → triples_from (Verb s) stack (part role v ∷ rest) ≡ triples_from (ObjectOf s v) stack rest
verb_of s stack Name v rest h = none_ended _
verb_of s stack Variable v rest h = none_ended _
verb_of s stack TypeOf v rest h = none_ended _
verb_of s stack _ v rest h = cc

verb_in_bracket : (s : ℕ) (stack : List Frame) (role : Role) (v : ℕ) (rest : List Part) → is_verb role ≡ true → triples_from (Bracket s) stack (part role v ∷ rest) ≡ triples_from (Verb s) stack (part role v ∷ rest)
verb_in_bracket s stack Name v rest h = refl
verb_in_bracket s stack Variable v rest h = refl
verb_in_bracket s stack TypeOf v rest h = refl
verb_in_bracket s stack _ v rest h = cc

verb_behind_text : (s : ℕ) (stack : List Frame) (role : Role) (v : ℕ) (rest : List Part) → is_verb role ≡ true → triples_from (TextSubject s) stack (part role v ∷ rest) ≡ triples_from (Verb s) stack (part role v ∷ rest)
verb_behind_text s stack Name v rest h = refl
verb_behind_text s stack Variable v rest h = refl
verb_behind_text s stack TypeOf v rest h = refl
verb_behind_text s stack _ v rest h = cc

verb_behind_semicolon : (s : ℕ) (stack : List Frame) (role : Role) (v : ℕ) (rest : List Part) → is_verb role ≡ true → triples_from (Semi s) stack (part role v ∷ rest) ≡ triples_from (Verb s) stack (part role v ∷ rest)
verb_behind_semicolon s stack Name v rest h = refl
verb_behind_semicolon s stack Variable v rest h = refl
verb_behind_semicolon s stack TypeOf v rest h = refl
verb_behind_semicolon s stack _ v rest h = cc

verb_behind_subject : (s : ℕ) (stack : List Frame) (role : Role) (v : ℕ) (rest : List Part) → is_verb role ≡ true → triples_from (BehindSubject s) stack (part role v ∷ rest) ≡ triples_from (Verb s) stack (part role v ∷ rest)
verb_behind_subject s stack Name v rest h = refl
verb_behind_subject s stack Variable v rest h = refl
verb_behind_subject s stack TypeOf v rest h = refl
verb_behind_subject s stack _ v rest h = cc

-- a simple object
simple_object : (s v : ℕ) (stack : List Frame) (i : ℕ) (ts rest : List Part) → IsSimple i ts → Follows rest
    → triples_from (ObjectOf s v) stack (ts ++ rest) ≡ with_ended (triple s v i ∷ []) (triples_from (Behind s v) stack rest)
simple_object s v stack _ _ rest (node role i h) f = node_object s v stack role i rest h
simple_object s v stack _ _ rest (text i) f = ap (with_ended (triple s v i ∷ [])) (text_object s v stack rest f)
simple_object s v stack _ _ rest (tagged i j) f = ap (with_ended (triple s v i ∷ [])) (none_ended _)
simple_object s v stack _ _ rest (typed i j k) f = ap (with_ended (triple s v i ∷ [])) (none_ended _ ∙ none_ended _)
simple_object s v stack _ _ rest (blank i j) f = none_ended _

-- a simple subject, before its verb
simple_subject : (stack : List Frame) (i : ℕ) (ts : List Part) (role : Role) (v : ℕ) (rest : List Part) → IsSimple i ts → is_verb role ≡ true
    → triples_from Statement stack (ts ++ part role v ∷ rest) ≡ triples_from (Verb i) stack (part role v ∷ rest)
simple_subject stack _ _ role v rest (node r i h) b = node_subject stack r i (part role v ∷ rest) h
simple_subject stack _ _ role v rest (text i) b = none_ended _ ∙ verb_behind_text i stack role v rest b
simple_subject stack _ _ role v rest (tagged i j) b = none_ended _ ∙ none_ended _
simple_subject stack _ _ role v rest (typed i j k) b = none_ended _ ∙ (none_ended _ ∙ none_ended _)
simple_subject stack _ _ role v rest (blank i j) b = none_ended _ ∙ none_ended _

-- Productions

in_bracket : (s : ℕ) (stack : List Frame) (ts rest : List Part) (ps : List Triple) → IsProps s ts ps → triples_from (Bracket s) stack (ts ++ rest) ≡ triples_from (Verb s) stack (ts ++ rest)
in_bracket _ stack _ rest _ (props s v role ts us ps qs b os m) = verb_in_bracket s stack role v ((ts ++ us) ++ rest) b

mutual
  all_props : (s : ℕ) (stack : List Frame) (ts rest : List Part) (ps : List Triple) → IsProps s ts ps → Closes rest
      → triples_from (Verb s) stack (ts ++ rest) ≡ with_ended ps (triples_from (Semi s) stack rest)
  all_props _ stack _ rest _ (props s v role ts us ps qs b os m) c =
      verb_of s stack role v ((ts ++ us) ++ rest) b
      ∙ (ap (triples_from (ObjectOf s v) stack) (append_assoc ts us rest)
      ∙ (all_objects s v stack ts (us ++ rest) ps os (more_follows s us rest qs m c)
      ∙ (ap (with_ended ps) (all_more s v stack us rest qs m c) ∙ ended_twice ps qs (triples_from (Semi s) stack rest))))

  all_more : (s v : ℕ) (stack : List Frame) (us rest : List Part) (qs : List Triple) → IsMore s us qs → Closes rest
      → triples_from (Behind s v) stack (us ++ rest) ≡ with_ended qs (triples_from (Semi s) stack rest)
  all_more _ v stack _ rest _ (end s) c = closed s v stack rest c ∙ sym (none_ended (triples_from (Semi s) stack rest))
  all_more _ v stack _ rest _ (semicolon s i us qs m) c = none_ended (triples_from (Semi s) stack (us ++ rest)) ∙ semi_more s stack us rest qs m c
  all_more _ v stack _ rest _ (again s i us qs p) c = none_ended (triples_from (Semi s) stack (us ++ rest)) ∙ semi_props s stack us rest qs p c

  semi_more : (s : ℕ) (stack : List Frame) (us rest : List Part) (qs : List Triple) → IsMore s us qs → Closes rest
      → triples_from (Semi s) stack (us ++ rest) ≡ with_ended qs (triples_from (Semi s) stack rest)
  semi_more _ stack _ rest _ (end s) c = sym (none_ended (triples_from (Semi s) stack rest))
  semi_more _ stack _ rest _ (semicolon s i us qs m) c = none_ended (triples_from (Semi s) stack (us ++ rest)) ∙ semi_more s stack us rest qs m c
  semi_more _ stack _ rest _ (again s i us qs p) c = none_ended (triples_from (Semi s) stack (us ++ rest)) ∙ semi_props s stack us rest qs p c

  semi_props : (s : ℕ) (stack : List Frame) (us rest : List Part) (qs : List Triple) → IsProps s us qs → Closes rest
      → triples_from (Semi s) stack (us ++ rest) ≡ with_ended qs (triples_from (Semi s) stack rest)
  semi_props _ stack _ rest _ (props s v role ts us ps qs b os m) c =
      verb_behind_semicolon s stack role v ((ts ++ us) ++ rest) b ∙ (verb_of s stack role v ((ts ++ us) ++ rest) b
      ∙ (ap (triples_from (ObjectOf s v) stack) (append_assoc ts us rest)
      ∙ (all_objects s v stack ts (us ++ rest) ps os (more_follows s us rest qs m c)
      ∙ (ap (with_ended ps) (all_more s v stack us rest qs m c) ∙ ended_twice ps qs (triples_from (Semi s) stack rest)))))

  more_follows : (s : ℕ) (us rest : List Part) (qs : List Triple) → IsMore s us qs → Closes rest → Follows (us ++ rest)
  more_follows _ _ rest _ (end s) c = closes_follows rest c
  more_follows _ _ rest _ (semicolon s i us qs m) c = refl
  more_follows _ _ rest _ (again s i us qs p) c = refl

  all_objects : (s v : ℕ) (stack : List Frame) (ts rest : List Part) (ps : List Triple) → IsObjects s v ts ps → Follows rest
      → triples_from (ObjectOf s v) stack (ts ++ rest) ≡ with_ended ps (triples_from (Behind s v) stack rest)
  all_objects _ _ stack _ rest _ (last s v ts ps o) f = one_object s v stack ts rest ps o f
  all_objects _ _ stack _ rest _ (comma s v i ts us ps qs o os) f =
      ap (triples_from (ObjectOf s v) stack) (append_assoc ts (part Comma i ∷ us) rest)
      ∙ (one_object s v stack ts (part Comma i ∷ (us ++ rest)) ps o refl
      ∙ (ap (with_ended ps) (none_ended (triples_from (ObjectOf s v) stack (us ++ rest)) ∙ all_objects s v stack us rest qs os f)
      ∙ ended_twice ps qs (triples_from (Behind s v) stack rest)))

  one_object : (s v : ℕ) (stack : List Frame) (ts rest : List Part) (ps : List Triple) → IsObject s v ts ps → Follows rest
      → triples_from (ObjectOf s v) stack (ts ++ rest) ≡ with_ended ps (triples_from (Behind s v) stack rest)
  one_object _ _ stack _ rest _ (simple s v i ts h) f = simple_object s v stack i ts rest h f
  one_object _ _ stack _ rest _ (bracket s v i j ts ps p) f =
      none_ended (triples_from (Bracket i) (Object s v i ∷ stack) ((ts ++ part Close j ∷ []) ++ rest))
      ∙ (ap (triples_from (Bracket i) (Object s v i ∷ stack)) (append_assoc ts (part Close j ∷ []) rest)
      ∙ (in_bracket i (Object s v i ∷ stack) ts (part Close j ∷ rest) ps p
      ∙ (all_props i (Object s v i ∷ stack) ts (part Close j ∷ rest) ps p refl
      ∙ ended_twice ps (triple s v i ∷ []) (triples_from (Behind s v) stack rest))))

props_behind_subject : (s : ℕ) (stack : List Frame) (us rest : List Part) (qs : List Triple) → IsProps s us qs → Closes rest
    → triples_from (BehindSubject s) stack (us ++ rest) ≡ with_ended qs (triples_from (Semi s) stack rest)
props_behind_subject s stack us rest qs p c = at_verb s stack us rest qs p ∙ all_props s stack us rest qs p c
  where
    at_verb : (s : ℕ) (stack : List Frame) (us rest : List Part) (qs : List Triple) → IsProps s us qs → triples_from (BehindSubject s) stack (us ++ rest) ≡ triples_from (Verb s) stack (us ++ rest)
    at_verb _ stack _ rest _ (props s v role ts us ps qs b os m) = verb_behind_subject s stack role v ((ts ++ us) ++ rest) b

simple_then : (stack : List Frame) (i : ℕ) (ts us rest : List Part) (ps : List Triple) → IsSimple i ts → IsProps i us ps
    → triples_from Statement stack (ts ++ (us ++ rest)) ≡ triples_from (Verb i) stack (us ++ rest)
simple_then stack _ ts _ rest _ h (props i v role vs us ps qs b os m) = simple_subject stack i ts role v ((vs ++ us) ++ rest) h b

-- brackets as a subject, up to their end
subject_bracket : (i j : ℕ) (ts rest : List Part) (ps : List Triple) → IsProps i ts ps
    → triples_from Statement [] (part Open i ∷ (ts ++ part Close j ∷ rest)) ≡ with_ended ps (triples_from (BehindSubject i) [] rest)
subject_bracket i j ts rest ps p =
    none_ended (triples_from (Bracket i) (Subject i ∷ []) (ts ++ part Close j ∷ rest))
    ∙ (in_bracket i (Subject i ∷ []) ts (part Close j ∷ rest) ps p
    ∙ (all_props i (Subject i ∷ []) ts (part Close j ∷ rest) ps p refl
    ∙ ap (with_ended ps) (none_ended (triples_from (BehindSubject i) [] rest))))

same_then : (ts : List Part) (ps : List Triple) → IsSame ts ps
    → (i : ℕ) × ((rest : List Part) → Closes rest → triples_from Statement [] (ts ++ rest) ≡ with_ended ps (triples_from (Semi i) [] rest))
same_then _ _ (simple i ts us ps h p) = (
  i,
  λ rest c.
      ap (triples_from Statement []) (append_assoc ts us rest) ∙ (simple_then [] i ts us rest ps h p ∙ all_props i [] us rest ps p c),
)
same_then _ _ (bracket i j ts ps p) = (
  i,
  λ rest c.
      ap (λ (x : List Part). triples_from Statement [] (part Open i ∷ x)) (append_assoc ts (part Close j ∷ []) rest)
      ∙ (subject_bracket i j ts rest ps p ∙ ap (with_ended ps) (closed_subject i [] rest c)),
)
same_then _ _ (followed i j ts us ps qs p q) = (
  i,
  λ rest c.
      ap (λ (x : List Part). triples_from Statement [] (part Open i ∷ x)) (append_assoc ts (part Close j ∷ us) rest)
      ∙ (subject_bracket i j ts (us ++ rest) ps p
      ∙ (ap (with_ended ps) (props_behind_subject i [] us rest qs q c) ∙ ended_twice ps qs (triples_from (Semi i) [] rest))),
)

pub block_found : (ts : List Part) (ps : List Triple) → IsBlock ts ps → triples_from Statement [] ts ≡ Some ps
block_found _ _ nothing = refl
block_found _ _ (one ts ps h) =
    let same = same_then ts ps h in
    ap (triples_from Statement []) (sym (append-nil ts)) ∙ (same.1 [] tt ∙ ap Some (append-nil ps))
block_found _ _ (more i ts us ps qs h b) =
    let same = same_then ts ps h in
    same.1 (part Stop i ∷ us) refl ∙ ap (with_ended ps) (none_ended (triples_from Statement [] us) ∙ block_found us qs b)
