-- What the function from the front finds, the productions have.
use Rattle.std.proofs.Common.{◌≡◌, ◌∙◌, ℕ, true, ◌⊎◌, List, [], ◌∷◌, ◌++◌, refl, sym, ap, subst, inl, inr, append_assoc, Option, Some, None}
use Rattle.std.proofs.lemmas.List.{append-nil}
use Rattle.query_grammar.specs.Block.{Role, Term, Name, Variable, TypeOf, Text, LangTag, Carets, Open, Close, Stop, Comma, Semicolon, Part, part, Triple, triple, is_node, is_verb, IsSimple, node, text, tagged, typed, blank, IsProps, props, IsMore, end, semicolon, again, IsObjects, last, comma, IsObject, simple, bracket, IsSame, followed, IsBlock, nothing, one, more}
use Rattle.query_grammar.specs.BlockFront.{Frame, Subject, Object, Expect, Statement, Bracket, Verb, TextSubject, DatatypeSubject, ObjectOf, Behind, TextObject, DatatypeObject, Semi, BehindSubject, Next, close_step, step, with_ended, triples_from}

abbrev Answer : Type 0
Answer = Option (List Triple)

-- What is to come, by the productions

-- properties of a subject, and then the rest
record PropsThen (s : ℕ) (Then : List Part → List Triple → Type 0) (ts : List Part) (ps : List Triple) : Type 0 where
  front : List Part
  back : List Part
  qs : List Triple
  rs : List Triple
  parts : ts ≡ front ++ back
  triples : ps ≡ qs ++ rs
  is : IsProps s front qs
  rest : Then back rs

record MoreThen (s : ℕ) (Then : List Part → List Triple → Type 0) (ts : List Part) (ps : List Triple) : Type 0 where
  front : List Part
  back : List Part
  qs : List Triple
  rs : List Triple
  parts : ts ≡ front ++ back
  triples : ps ≡ qs ++ rs
  is : IsMore s front qs
  rest : Then back rs

record ObjectsThen (s v : ℕ) (Then : List Part → List Triple → Type 0) (ts : List Part) (ps : List Triple) : Type 0 where
  front : List Part
  middle : List Part
  back : List Part
  qs : List Triple
  ms : List Triple
  rs : List Triple
  parts : ts ≡ front ++ (middle ++ back)
  triples : ps ≡ qs ++ (ms ++ rs)
  objects : IsObjects s v front qs
  further : IsMore s middle ms
  rest : Then back rs

abbrev BehindThen : ℕ → ℕ → (List Part → List Triple → Type 0) → List Part → List Triple → Type 0
BehindThen s v Then ts ps = MoreThen s Then ts ps ⊎ ((i : ℕ) × (us : List Part) × (ts ≡ part Comma i ∷ us) × ObjectsThen s v Then us ps)

abbrev SemiThen : ℕ → (List Part → List Triple → Type 0) → List Part → List Triple → Type 0
SemiThen s Then ts ps = MoreThen s Then ts ps ⊎ PropsThen s Then ts ps

abbrev SubjectThen : ℕ → (List Part → List Triple → Type 0) → List Part → List Triple → Type 0
SubjectThen s Then ts ps = Then ts ps ⊎ PropsThen s Then ts ps

-- the end of a statement
abbrev IsEnd : List Part → List Triple → Type 0
IsEnd ts ps = ((ts ≡ []) × (ps ≡ [])) ⊎ ((i : ℕ) × (us : List Part) × (ts ≡ part Stop i ∷ us) × IsBlock us ps)

-- the end of properties in open brackets
abbrev Closing : List Frame → List Part → List Triple → Type 0
Closing [] ts ps = IsEnd ts ps
Closing (Subject i ∷ stack) ts ps = (j : ℕ) × (us : List Part) × (ts ≡ part Close j ∷ us) × SubjectThen i (Closing stack) us ps
Closing (Object s v i ∷ stack) ts ps = (j : ℕ) × (us : List Part) × (qs : List Triple) × (ts ≡ part Close j ∷ us) × (ps ≡ triple s v i ∷ qs) × BehindThen s v (Closing stack) us qs

-- behind brackets that are empty
abbrev BlankThen : List Frame → List Part → List Triple → Type 0
BlankThen [] ts ps = ⊥
BlankThen (Subject i ∷ stack) ts ps = PropsThen i (Closing stack) ts ps
BlankThen (Object s v i ∷ stack) ts ps = (qs : List Triple) × (ps ≡ triple s v i ∷ qs) × BehindThen s v (Closing stack) ts qs

-- behind a text: what belongs to it, and then the rest
abbrev TextThen : (List Part → List Triple → Type 0) → List Part → List Triple → Type 0
TextThen Then ts ps =
    Then ts ps
    ⊎ (((j : ℕ) × (us : List Part) × (ts ≡ part LangTag j ∷ us) × Then us ps)
    ⊎ ((j : ℕ) × (k : ℕ) × (us : List Part) × (ts ≡ part Carets j ∷ part Name k ∷ us) × Then us ps))

abbrev NameThen : (List Part → List Triple → Type 0) → List Part → List Triple → Type 0
NameThen Then ts ps = (k : ℕ) × (us : List Part) × (ts ≡ part Name k ∷ us) × Then us ps

abbrev Means : Expect → List Frame → List Part → List Triple → Type 0
Means Statement [] ts ps = IsBlock ts ps
Means Statement (frame ∷ stack) ts ps = Unit {0}
Means (Bracket i) stack ts ps = ((j : ℕ) × (us : List Part) × (ts ≡ part Close j ∷ us) × BlankThen stack us ps) ⊎ PropsThen i (Closing stack) ts ps
Means (Verb s) stack ts ps = PropsThen s (Closing stack) ts ps
Means (TextSubject s) stack ts ps = TextThen (PropsThen s (Closing stack)) ts ps
Means (DatatypeSubject s) stack ts ps = NameThen (PropsThen s (Closing stack)) ts ps
Means (ObjectOf s v) stack ts ps = ObjectsThen s v (Closing stack) ts ps
Means (Behind s v) stack ts ps = BehindThen s v (Closing stack) ts ps
Means (TextObject s v) stack ts ps = TextThen (BehindThen s v (Closing stack)) ts ps
Means (DatatypeObject s v) stack ts ps = NameThen (BehindThen s v (Closing stack)) ts ps
Means (Semi s) stack ts ps = SemiThen s (Closing stack) ts ps
Means (BehindSubject s) stack ts ps = SubjectThen s (Closing stack) ts ps

-- Putting parts together

closing_more : (s : ℕ) (Then : List Part → List Triple → Type 0) (ts : List Part) (ps : List Triple) → Then ts ps → MoreThen s Then ts ps
closing_more s Then ts ps h = record { front = []; back = ts; qs = []; rs = ps; parts = refl; triples = refl; is = end s; rest = h }

props_from : (s v : ℕ) (role : Role) (Then : List Part → List Triple → Type 0) (us : List Part) (ps : List Triple) → is_verb role ≡ true → ObjectsThen s v Then us ps
    → PropsThen s Then (part role v ∷ us) ps
props_from s v role Then us ps b o = record {
  front = part role v ∷ (o.front ++ o.middle);
  back = o.back;
  qs = o.qs ++ o.ms;
  rs = o.rs;
  parts = ap (λ (x : List Part). part role v ∷ x) (o.parts ∙ sym (append_assoc o.front o.middle o.back));
  triples = o.triples ∙ sym (append_assoc o.qs o.ms o.rs);
  is = props s v role o.front o.middle o.qs o.ms b o.objects o.further;
  rest = o.rest;
}

object_then : (s v : ℕ) (Then : List Part → List Triple → Type 0) (os us : List Part) (ps qs : List Triple) → IsObject s v os ps → BehindThen s v Then us qs
    → ObjectsThen s v Then (os ++ us) (ps ++ qs)
object_then s v Then os us ps qs h (inl m) = record {
  front = os;
  middle = m.front;
  back = m.back;
  qs = ps;
  ms = m.qs;
  rs = m.rs;
  parts = ap (λ (x : List Part). os ++ x) m.parts;
  triples = ap (λ (x : List Triple). ps ++ x) m.triples;
  objects = last s v os ps h;
  further = m.is;
  rest = m.rest;
}
object_then s v Then os us ps qs h (inr (i, ws, e, o)) = record {
  front = os ++ part Comma i ∷ o.front;
  middle = o.middle;
  back = o.back;
  qs = ps ++ o.qs;
  ms = o.ms;
  rs = o.rs;
  parts = ap (λ (x : List Part). os ++ x) (e ∙ ap (λ (x : List Part). part Comma i ∷ x) o.parts) ∙ sym (append_assoc os (part Comma i ∷ o.front) (o.middle ++ o.back));
  triples = ap (λ (x : List Triple). ps ++ x) o.triples ∙ sym (append_assoc ps o.qs (o.ms ++ o.rs));
  objects = comma s v i os o.front ps o.qs h o.objects;
  further = o.further;
  rest = o.rest;
}

semicolon_then : (s i : ℕ) (Then : List Part → List Triple → Type 0) (us : List Part) (ps : List Triple) → SemiThen s Then us ps → MoreThen s Then (part Semicolon i ∷ us) ps
semicolon_then s i Then us ps (inl m) = record {
  front = part Semicolon i ∷ m.front;
  back = m.back;
  qs = m.qs;
  rs = m.rs;
  parts = ap (λ (x : List Part). part Semicolon i ∷ x) m.parts;
  triples = m.triples;
  is = semicolon s i m.front m.qs m.is;
  rest = m.rest;
}
semicolon_then s i Then us ps (inr m) = record {
  front = part Semicolon i ∷ m.front;
  back = m.back;
  qs = m.qs;
  rs = m.rs;
  parts = ap (λ (x : List Part). part Semicolon i ∷ x) m.parts;
  triples = m.triples;
  is = again s i m.front m.qs m.is;
  rest = m.rest;
}

block_of : (ts us : List Part) (ps qs : List Triple) → IsSame ts ps → IsEnd us qs → IsBlock (ts ++ us) (ps ++ qs)
block_of ts us ps qs h (inl e) =
    subst (λ (x : List Triple). IsBlock (ts ++ us) (ps ++ x)) (sym e.1) (subst (λ (x : List Part). IsBlock (ts ++ x) (ps ++ [])) (sym e.0)
    (subst (λ (x : List Triple). IsBlock (ts ++ []) x) (sym (append-nil ps)) (subst (λ (x : List Part). IsBlock x ps) (sym (append-nil ts)) (one ts ps h))))
block_of ts us ps qs h (inr (i, ws, e, b)) = subst (λ (x : List Part). IsBlock (ts ++ x) (ps ++ qs)) (sym e) (more i ts ws ps qs h b)

-- a simple subject and its properties
statement_of : (i : ℕ) (os us : List Part) (ps : List Triple) → IsSimple i os → PropsThen i IsEnd us ps → IsBlock (os ++ us) ps
statement_of i os us ps h p =
    subst (λ (x : List Triple). IsBlock (os ++ us) x) (sym p.triples)
    (subst (λ (x : List Part). IsBlock x (p.qs ++ p.rs)) (append_assoc os p.front p.back ∙ ap (λ (x : List Part). os ++ x) (sym p.parts))
    (block_of (os ++ p.front) p.back p.qs p.rs (simple i os p.front p.qs h p.is) p.rest))

-- Step by step

-- what the rest of the parts gives behind a step
abbrev After : List Part → Option Next → List Triple → Type 0
After us o ps = elim o as (λ _. Answer) [ None ↦ None | Some n ↦ with_ended n.ended (triples_from n.expect n.stack us) ] ≡ Some ps

abbrev Known : List Part → Type 0
Known us = (expect : Expect) (stack : List Frame) (qs : List Triple) → triples_from expect stack us ≡ Some qs → Means expect stack us qs

after_ended : (ended ps : List Triple) (o : Answer) → with_ended ended o ≡ Some ps → (qs : List Triple) × (o ≡ Some qs) × (ps ≡ ended ++ qs)
after_ended ended ps None h = cc
after_ended ended ps (Some qs) h = (qs, refl, (let e : ended ++ qs ≡ ps = cc in sym e))

-- nothing ended: the triples are those of the rest
onward : (us : List Part) (expect : Expect) (stack : List Frame) (ps : List Triple) → Known us → with_ended [] (triples_from expect stack us) ≡ Some ps → Means expect stack us ps
onward us expect stack ps known h =
    let more = after_ended [] ps (triples_from expect stack us) h in
    subst (λ (x : List Triple). Means expect stack us x) (sym more.2) (known expect stack more.0 more.1)

closed_by : (stack : List Frame) (role : Role) (i : ℕ) (us : List Part) (ps : List Triple) → Known us → After us (close_step stack role) ps → Closing stack (part role i ∷ us) ps
closed_by [] Stop i us ps known h = inr (i, us, refl, onward us Statement [] ps known h)
closed_by [] _ i us ps known h = cc
closed_by (Subject j ∷ stack) Close i us ps known h = (i, us, refl, onward us (BehindSubject j) stack ps known h)
closed_by (Subject j ∷ stack) _ i us ps known h = cc
closed_by (Object s v j ∷ stack) Close i us ps known h =
    let more = after_ended (triple s v j ∷ []) ps (triples_from (Behind s v) stack us) h in
    (i, us, more.0, refl, more.2, known (Behind s v) stack more.0 more.1)
closed_by (Object s v j ∷ stack) _ i us ps known h = cc

behind_object : (s v : ℕ) (stack : List Frame) (role : Role) (i : ℕ) (us : List Part) (ps : List Triple) → Known us → After us (step (Behind s v) stack role i) ps
    → BehindThen s v (Closing stack) (part role i ∷ us) ps
behind_object s v stack Comma i us ps known h = inr (i, us, refl, onward us (ObjectOf s v) stack ps known h)
behind_object s v stack Semicolon i us ps known h = inl (semicolon_then s i (Closing stack) us ps (onward us (Semi s) stack ps known h))
behind_object s v stack role i us ps known h = inl (closing_more s (Closing stack) (part role i ∷ us) ps (closed_by stack role i us ps known h))

verb_then : (s : ℕ) (stack : List Frame) (role : Role) (i : ℕ) (us : List Part) (ps : List Triple) → Known us → is_verb role ≡ true → with_ended [] (triples_from (ObjectOf s i) stack us) ≡ Some ps
    → PropsThen s (Closing stack) (part role i ∷ us) ps
verb_then s stack role i us ps known b h = props_from s i role (Closing stack) us ps b (onward us (ObjectOf s i) stack ps known h)

verb_only : (s : ℕ) (stack : List Frame) (role : Role) (i : ℕ) (us : List Part) (ps : List Triple) → Known us → After us (step (Verb s) stack role i) ps → PropsThen s (Closing stack) (part role i ∷ us) ps
verb_only s stack Name i us ps known h = verb_then s stack Name i us ps known refl h
verb_only s stack Variable i us ps known h = verb_then s stack Variable i us ps known refl h
verb_only s stack TypeOf i us ps known h = verb_then s stack TypeOf i us ps known refl h
verb_only s stack _ i us ps known h = cc

behind_semicolon : (s : ℕ) (stack : List Frame) (role : Role) (i : ℕ) (us : List Part) (ps : List Triple) → Known us → After us (step (Semi s) stack role i) ps → SemiThen s (Closing stack) (part role i ∷ us) ps
behind_semicolon s stack Name i us ps known h = inr (verb_then s stack Name i us ps known refl h)
behind_semicolon s stack Variable i us ps known h = inr (verb_then s stack Variable i us ps known refl h)
behind_semicolon s stack TypeOf i us ps known h = inr (verb_then s stack TypeOf i us ps known refl h)
behind_semicolon s stack Semicolon i us ps known h = inl (semicolon_then s i (Closing stack) us ps (onward us (Semi s) stack ps known h))
behind_semicolon s stack role i us ps known h = inl (closing_more s (Closing stack) (part role i ∷ us) ps (closed_by stack role i us ps known h))

behind_subject : (s : ℕ) (stack : List Frame) (role : Role) (i : ℕ) (us : List Part) (ps : List Triple) → Known us → After us (step (BehindSubject s) stack role i) ps → SubjectThen s (Closing stack) (part role i ∷ us) ps
behind_subject s stack Name i us ps known h = inr (verb_then s stack Name i us ps known refl h)
behind_subject s stack Variable i us ps known h = inr (verb_then s stack Variable i us ps known refl h)
behind_subject s stack TypeOf i us ps known h = inr (verb_then s stack TypeOf i us ps known refl h)
behind_subject s stack role i us ps known h = inl (closed_by stack role i us ps known h)

behind_text : (s : ℕ) (stack : List Frame) (role : Role) (i : ℕ) (us : List Part) (ps : List Triple) → Known us → After us (step (TextSubject s) stack role i) ps → TextThen (PropsThen s (Closing stack)) (part role i ∷ us) ps
behind_text s stack LangTag i us ps known h = inr (inl (i, us, refl, onward us (Verb s) stack ps known h))
behind_text s stack Carets i us ps known h =
    let name = onward us (DatatypeSubject s) stack ps known h in
    inr (inr (i, name.0, name.1, ap (λ (x : List Part). part Carets i ∷ x) name.2, name.3))
behind_text s stack Name i us ps known h = inl (verb_then s stack Name i us ps known refl h)
behind_text s stack Variable i us ps known h = inl (verb_then s stack Variable i us ps known refl h)
behind_text s stack TypeOf i us ps known h = inl (verb_then s stack TypeOf i us ps known refl h)
behind_text s stack _ i us ps known h = cc

name_subject : (s : ℕ) (stack : List Frame) (role : Role) (i : ℕ) (us : List Part) (ps : List Triple) → Known us → After us (step (DatatypeSubject s) stack role i) ps → NameThen (PropsThen s (Closing stack)) (part role i ∷ us) ps
name_subject s stack Name i us ps known h = (i, us, refl, onward us (Verb s) stack ps known h)
name_subject s stack _ i us ps known h = cc

behind_text_object : (s v : ℕ) (stack : List Frame) (role : Role) (i : ℕ) (us : List Part) (ps : List Triple) → Known us → After us (step (TextObject s v) stack role i) ps → TextThen (BehindThen s v (Closing stack)) (part role i ∷ us) ps
behind_text_object s v stack LangTag i us ps known h = inr (inl (i, us, refl, onward us (Behind s v) stack ps known h))
behind_text_object s v stack Carets i us ps known h =
    let name = onward us (DatatypeObject s v) stack ps known h in
    inr (inr (i, name.0, name.1, ap (λ (x : List Part). part Carets i ∷ x) name.2, name.3))
behind_text_object s v stack role i us ps known h = inl (behind_object s v stack role i us ps known h)

name_object : (s v : ℕ) (stack : List Frame) (role : Role) (i : ℕ) (us : List Part) (ps : List Triple) → Known us → After us (step (DatatypeObject s v) stack role i) ps → NameThen (BehindThen s v (Closing stack)) (part role i ∷ us) ps
name_object s v stack Name i us ps known h = (i, us, refl, onward us (Behind s v) stack ps known h)
name_object s v stack _ i us ps known h = cc

-- an object that has ended
object_ended : (s v i : ℕ) (stack : List Frame) (os us : List Part) (ps : List Triple) → IsSimple i os → (qs : List Triple) × (ps ≡ triple s v i ∷ qs) × BehindThen s v (Closing stack) us qs
    → ObjectsThen s v (Closing stack) (os ++ us) ps
object_ended s v i stack os us ps h (qs, e, b) =
    subst (λ (x : List Triple). ObjectsThen s v (Closing stack) (os ++ us) x) (sym e) (object_then s v (Closing stack) os us (triple s v i ∷ []) qs (simple s v i os h) b)

node_ended : (s v : ℕ) (stack : List Frame) (role : Role) (i : ℕ) (us : List Part) (ps : List Triple) → Known us → is_node role ≡ true
    → with_ended (triple s v i ∷ []) (triples_from (Behind s v) stack us) ≡ Some ps → ObjectsThen s v (Closing stack) (part role i ∷ us) ps
node_ended s v stack role i us ps known n h =
    let more = after_ended (triple s v i ∷ []) ps (triples_from (Behind s v) stack us) h in
    object_ended s v i stack (part role i ∷ []) us ps (node role i n) (more.0, more.2, known (Behind s v) stack more.0 more.1)

text_ended : (s v i : ℕ) (stack : List Frame) (us : List Part) (ps qs : List Triple) → ps ≡ triple s v i ∷ qs → TextThen (BehindThen s v (Closing stack)) us qs → ObjectsThen s v (Closing stack) (part Text i ∷ us) ps
text_ended s v i stack us ps qs e (inl b) = object_ended s v i stack (part Text i ∷ []) us ps (text i) (qs, e, b)
text_ended s v i stack us ps qs e (inr (inl (j, ws, f, b))) =
    subst (λ (x : List Part). ObjectsThen s v (Closing stack) (part Text i ∷ x) ps) (sym f) (object_ended s v i stack (part Text i ∷ part LangTag j ∷ []) ws ps (tagged i j) (qs, e, b))
text_ended s v i stack us ps qs e (inr (inr (j, k, ws, f, b))) =
    subst (λ (x : List Part). ObjectsThen s v (Closing stack) (part Text i ∷ x) ps) (sym f) (object_ended s v i stack (part Text i ∷ part Carets j ∷ part Name k ∷ []) ws ps (typed i j k) (qs, e, b))

bracket_ended : (s v i : ℕ) (stack : List Frame) (us : List Part) (ps : List Triple) → Means (Bracket i) (Object s v i ∷ stack) us ps → ObjectsThen s v (Closing stack) (part Open i ∷ us) ps
bracket_ended s v i stack us ps (inl (j, ws, f, (qs, e, b))) =
    subst (λ (x : List Part). ObjectsThen s v (Closing stack) (part Open i ∷ x) ps) (sym f) (object_ended s v i stack (part Open i ∷ part Close j ∷ []) ws ps (blank i j) (qs, e, b))
bracket_ended s v i stack us ps (inr p) = within p.rest
  where
    within : Closing (Object s v i ∷ stack) p.back p.rs → ObjectsThen s v (Closing stack) (part Open i ∷ us) ps
    within (j, ws, qs, f, e, b) =
        let parts : us ≡ (p.front ++ part Close j ∷ []) ++ ws =
        p.parts ∙ (ap (λ (x : List Part). p.front ++ x) f ∙ sym (append_assoc p.front (part Close j ∷ []) ws)) in
        let triples : ps ≡ (p.qs ++ triple s v i ∷ []) ++ qs =
        p.triples ∙ (ap (λ (x : List Triple). p.qs ++ x) e ∙ sym (append_assoc p.qs (triple s v i ∷ []) qs)) in
        subst (λ (x : List Triple). ObjectsThen s v (Closing stack) (part Open i ∷ us) x) (sym triples)
        (subst (λ (x : List Part). ObjectsThen s v (Closing stack) (part Open i ∷ x) ((p.qs ++ triple s v i ∷ []) ++ qs)) (sym parts)
        (object_then s v (Closing stack) (part Open i ∷ (p.front ++ part Close j ∷ [])) ws (p.qs ++ triple s v i ∷ []) qs (bracket s v i j p.front p.qs p.is) b))

object_of : (s v : ℕ) (stack : List Frame) (role : Role) (i : ℕ) (us : List Part) (ps : List Triple) → Known us → After us (step (ObjectOf s v) stack role i) ps → ObjectsThen s v (Closing stack) (part role i ∷ us) ps
object_of s v stack Text i us ps known h =
    let more = after_ended (triple s v i ∷ []) ps (triples_from (TextObject s v) stack us) h in
    text_ended s v i stack us ps more.0 more.2 (known (TextObject s v) stack more.0 more.1)
object_of s v stack Open i us ps known h = bracket_ended s v i stack us ps (onward us (Bracket i) (Object s v i ∷ stack) ps known h)
object_of s v stack Term i us ps known h = node_ended s v stack Term i us ps known refl h
object_of s v stack Name i us ps known h = node_ended s v stack Name i us ps known refl h
object_of s v stack Variable i us ps known h = node_ended s v stack Variable i us ps known refl h
object_of s v stack _ i us ps known h = cc

in_bracket : (s : ℕ) (stack : List Frame) (role : Role) (i : ℕ) (us : List Part) (ps : List Triple) → Known us → After us (step (Bracket s) stack role i) ps → Means (Bracket s) stack (part role i ∷ us) ps
in_bracket s [] Close i us ps known h = cc
in_bracket s (Subject j ∷ stack) Close i us ps known h = inl (i, us, refl, onward us (Verb j) stack ps known h)
in_bracket s (Object a v j ∷ stack) Close i us ps known h =
    let more = after_ended (triple a v j ∷ []) ps (triples_from (Behind a v) stack us) h in
    inl (i, us, refl, (more.0, more.2, known (Behind a v) stack more.0 more.1))
in_bracket s stack Name i us ps known h = inr (verb_then s stack Name i us ps known refl h)
in_bracket s stack Variable i us ps known h = inr (verb_then s stack Variable i us ps known refl h)
in_bracket s stack TypeOf i us ps known h = inr (verb_then s stack TypeOf i us ps known refl h)
in_bracket s stack _ i us ps known h = cc

-- Statements

text_statement : (i : ℕ) (us : List Part) (ps : List Triple) → TextThen (PropsThen i IsEnd) us ps → IsBlock (part Text i ∷ us) ps
text_statement i us ps (inl p) = statement_of i (part Text i ∷ []) us ps (text i) p
text_statement i us ps (inr (inl (j, ws, f, p))) =
    subst (λ (x : List Part). IsBlock (part Text i ∷ x) ps) (sym f) (statement_of i (part Text i ∷ part LangTag j ∷ []) ws ps (tagged i j) p)
text_statement i us ps (inr (inr (j, k, ws, f, p))) =
    subst (λ (x : List Part). IsBlock (part Text i ∷ x) ps) (sym f) (statement_of i (part Text i ∷ part Carets j ∷ part Name k ∷ []) ws ps (typed i j k) p)

bracket_statement : (i : ℕ) (us : List Part) (ps : List Triple) → Means (Bracket i) (Subject i ∷ []) us ps → IsBlock (part Open i ∷ us) ps
bracket_statement i us ps (inl (j, ws, f, p)) =
    subst (λ (x : List Part). IsBlock (part Open i ∷ x) ps) (sym f) (statement_of i (part Open i ∷ part Close j ∷ []) ws ps (blank i j) p)
bracket_statement i us ps (inr p) = within p.rest
  where
    within : Closing (Subject i ∷ []) p.back p.rs → IsBlock (part Open i ∷ us) ps
    within (j, ws, f, inl e) =
        let parts : us ≡ (p.front ++ part Close j ∷ []) ++ ws =
        p.parts ∙ (ap (λ (x : List Part). p.front ++ x) f ∙ sym (append_assoc p.front (part Close j ∷ []) ws)) in
        subst (λ (x : List Triple). IsBlock (part Open i ∷ us) x) (sym p.triples)
        (subst (λ (x : List Part). IsBlock (part Open i ∷ x) (p.qs ++ p.rs)) (sym parts)
        (block_of (part Open i ∷ (p.front ++ part Close j ∷ [])) ws p.qs p.rs (bracket i j p.front p.qs p.is) e))
    within (j, ws, f, inr q) =
        let parts : us ≡ (p.front ++ part Close j ∷ q.front) ++ q.back =
        p.parts ∙ (ap (λ (x : List Part). p.front ++ x) (f ∙ ap (λ (x : List Part). part Close j ∷ x) q.parts) ∙ sym (append_assoc p.front (part Close j ∷ q.front) q.back)) in
        let triples : ps ≡ (p.qs ++ q.qs) ++ q.rs =
        p.triples ∙ (ap (λ (x : List Triple). p.qs ++ x) q.triples ∙ sym (append_assoc p.qs q.qs q.rs)) in
        subst (λ (x : List Triple). IsBlock (part Open i ∷ us) x) (sym triples)
        (subst (λ (x : List Part). IsBlock (part Open i ∷ x) ((p.qs ++ q.qs) ++ q.rs)) (sym parts)
        (block_of (part Open i ∷ (p.front ++ part Close j ∷ q.front)) q.back (p.qs ++ q.qs) q.rs (followed i j p.front q.front p.qs q.qs p.is q.is) q.rest))

statement : (role : Role) (i : ℕ) (us : List Part) (ps : List Triple) → Known us → After us (step Statement [] role i) ps → IsBlock (part role i ∷ us) ps
statement Text i us ps known h = text_statement i us ps (onward us (TextSubject i) [] ps known h)
statement Open i us ps known h = bracket_statement i us ps (onward us (Bracket i) (Subject i ∷ []) ps known h)
statement Term i us ps known h = statement_of i (part Term i ∷ []) us ps (node Term i refl) (onward us (Verb i) [] ps known h)
statement Name i us ps known h = statement_of i (part Name i ∷ []) us ps (node Name i refl) (onward us (Verb i) [] ps known h)
statement Variable i us ps known h = statement_of i (part Variable i ∷ []) us ps (node Variable i refl) (onward us (Verb i) [] ps known h)
statement _ i us ps known h = cc

-- All parts

some_none : (ps : List Triple) → Some [] ≡ Some ps → ps ≡ []
some_none ps h = (let e : [] ≡ ps = cc in sym e)

at_end : (expect : Expect) (stack : List Frame) (ps : List Triple) → triples_from expect stack [] ≡ Some ps → Means expect stack [] ps
at_end Statement [] ps h = subst (IsBlock []) (sym (some_none ps h)) nothing
at_end Statement (frame ∷ stack) ps h = tt
at_end (Behind s v) [] ps h = inl (closing_more s IsEnd [] ps (inl (refl, some_none ps h)))
at_end (TextObject s v) [] ps h = inl (inl (closing_more s IsEnd [] ps (inl (refl, some_none ps h))))
at_end (Semi s) [] ps h = inl (closing_more s IsEnd [] ps (inl (refl, some_none ps h)))
at_end (BehindSubject s) [] ps h = inl (inl (refl, some_none ps h))
at_end (Bracket i) [] ps h = cc
at_end (Verb s) [] ps h = cc
at_end (TextSubject s) [] ps h = cc
at_end (DatatypeSubject s) [] ps h = cc
at_end (ObjectOf s v) [] ps h = cc
at_end (DatatypeObject s v) [] ps h = cc
at_end (Bracket i) (frame ∷ stack) ps h = cc
at_end (Verb s) (frame ∷ stack) ps h = cc
at_end (TextSubject s) (frame ∷ stack) ps h = cc
at_end (DatatypeSubject s) (frame ∷ stack) ps h = cc
at_end (ObjectOf s v) (frame ∷ stack) ps h = cc
at_end (Behind s v) (frame ∷ stack) ps h = cc
at_end (TextObject s v) (frame ∷ stack) ps h = cc
at_end (DatatypeObject s v) (frame ∷ stack) ps h = cc
at_end (Semi s) (frame ∷ stack) ps h = cc
at_end (BehindSubject s) (frame ∷ stack) ps h = cc

one_part : (t : Part) (us : List Part) → Known us → (expect : Expect) (stack : List Frame) (ps : List Triple) → triples_from expect stack (t ∷ us) ≡ Some ps → Means expect stack (t ∷ us) ps
one_part t us known Statement [] ps h = statement t.role t.place us ps known h
one_part t us known Statement (frame ∷ stack) ps h = tt
one_part t us known (Bracket i) stack ps h = in_bracket i stack t.role t.place us ps known h
one_part t us known (Verb s) stack ps h = verb_only s stack t.role t.place us ps known h
one_part t us known (TextSubject s) stack ps h = behind_text s stack t.role t.place us ps known h
one_part t us known (DatatypeSubject s) stack ps h = name_subject s stack t.role t.place us ps known h
one_part t us known (ObjectOf s v) stack ps h = object_of s v stack t.role t.place us ps known h
one_part t us known (Behind s v) stack ps h = behind_object s v stack t.role t.place us ps known h
one_part t us known (TextObject s v) stack ps h = behind_text_object s v stack t.role t.place us ps known h
one_part t us known (DatatypeObject s v) stack ps h = name_object s v stack t.role t.place us ps known h
one_part t us known (Semi s) stack ps h = behind_semicolon s stack t.role t.place us ps known h
one_part t us known (BehindSubject s) stack ps h = behind_subject s stack t.role t.place us ps known h

known : (ts : List Part) → Known ts
known [] = at_end
known (t ∷ us) = one_part t us (known us)

pub block_meant : (ts : List Part) (ps : List Triple) → triples_from Statement [] ts ≡ Some ps → IsBlock ts ps
block_meant ts ps h = known ts Statement [] ps h
