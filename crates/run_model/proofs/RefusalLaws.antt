-- The refusal of lines from the front, and by the place of the first that can't be carried out.
use Rattle.std.proofs.Common.{◌≡◌, ◌∙◌, ◌↔◌, ℕ, ◌+◌, ◌<◌, Bool, true, false, cond, nat_lt, List, [], ◌∷◌, ◌++◌, length, refl, sym, ap, subst, arith, append_assoc, append-nil, length-append}
use Rattle.std.proofs.lemmas.Bool.Decides.{nat_tests}
use Rattle.std.proofs.lemmas.Grind.{flat_map-append}
use Rattle.std.specs.Prelude.{Option, Some, None}
use Rattle.std.specs.Option.{option_or}
use Rattle.std.specs.FinSet as set
use Rattle.rdf_model.specs.Terms.{Triple}
use Rattle.rdf_model.specs.Graph.{Graph, with_all}
use Rattle.script_model.specs.Commands.{Change, Inserts, Deletes}
use Rattle.run_model.specs.Answers.{Refusal, BadLine, FullAt}
use Rattle.run_model.specs.Sayings.{Saying, triples_said, triples_of, IsOver, IsRefused, bad, full, IsFirstRefused, is_over, refusal_at, refusal_from, first_refusal, FirstRefusalIsByPlace}

pub triples_of-push : (said : List Saying) (s : Saying) → triples_of (said ++ s ∷ []) ≡ triples_of said ++ triples_said s
triples_of-push said s = flat_map-append triples_said said (s ∷ []) ∙ ap (λ z. triples_of said ++ z) (append-nil (triples_said s))

module _ (change : Change) (most : ℕ) (G : Graph) where
  is_over-said : (front : List Saying) (s : Saying) → IsOver change most G (front ++ s ∷ []) ↔ (is_over change most G (triples_of front ++ triples_said s) ≡ true)
  is_over-said front s = by change where
    by : (c : Change) → IsOver c most G (front ++ s ∷ []) ↔ (is_over c most G (triples_of front ++ triples_said s) ≡ true)
    by Deletes = (λ no. absurd no, λ e. absurd (let t : ⊥ = cc in t))
    by Inserts =
        let same : set.len (with_all G (triples_of (front ++ s ∷ []))) ≡ set.len (with_all G (triples_of front ++ triples_said s)) = ap (λ B. set.len (with_all G B)) (triples_of-push front s) in
        (λ lt. more (set.len (with_all G (triples_of front ++ triples_said s))) (omega (arith, lt, same)), λ e. let lt = less (set.len (with_all G (triples_of front ++ triples_said s))) e in omega (arith, lt, same)) where
          more : (n : ℕ) → most < n → nat_lt most n ≡ true
          more n lt = grind (arith, nat_tests)

          less : (n : ℕ) → nat_lt most n ≡ true → most < n
          less n e = grind (arith, nat_tests)

  at : List Saying → Saying → Option Refusal
  at front s = refusal_at change most G (triples_of front) (length front + 1) s

  at_said : (front : List Saying) (said : Option Triple) (b : Bool) → is_over change most G (triples_of front ++ triples_said (Some said)) ≡ b
      → refusal_at change most G (triples_of front) (length front + 1) (Some said) ≡ cond b (Some (FullAt (length front + 1))) None
  at_said front said b e = ap (λ z. cond z (Some (FullAt (length front + 1))) None) e

  refused_at : (front : List Saying) (s : Saying) (r : Refusal) → IsRefused change most G front s r → refusal_at change most G (triples_of front) (length front + 1) s ≡ Some r
  refused_at front _ _ bad = refl
  refused_at front _ _ (full said over) = at_said front said true ((is_over-said front (Some said)).0 over)

  at_refused : (front : List Saying) (s : Saying) (r : Refusal) → refusal_at change most G (triples_of front) (length front + 1) s ≡ Some r → IsRefused change most G front s r
  at_refused front None r e = subst (IsRefused change most G front None) (let same : BadLine (length front + 1) ≡ r = cc in same) bad
  at_refused front (Some said) r e = by (is_over change most G (triples_of front ++ triples_said (Some said))) refl where
    by : (b : Bool) → is_over change most G (triples_of front ++ triples_said (Some said)) ≡ b → IsRefused change most G front (Some said) r
    by true o = subst (IsRefused change most G front (Some said)) (let f : Some (FullAt (length front + 1)) ≡ Some r = sym (at_said front said true o) ∙ e in let same : FullAt (length front + 1) ≡ r = cc in same) (full said ((is_over-said front (Some said)).1 o))
    by false o = absurd (let f : None ≡ Some r = sym (at_said front said false o) ∙ e in let t : ⊥ = cc in t)

  -- of the lines behind a front
  from : List Saying → List Saying → Option Refusal
  from had said = refusal_from change most G (triples_of had) (length had + 1) said

  next : (had : List Saying) (s : Saying) (said : List Saying)
      → refusal_from change most G (triples_of had ++ triples_said s) ((length had + 1) + 1) said ≡ refusal_from change most G (triples_of (had ++ s ∷ [])) (length (had ++ s ∷ []) + 1) said
  next had s said i = refusal_from change most G (sym (triples_of-push had s) i) (n i) said where
    n : (length had + 1) + 1 ≡ length (had ++ s ∷ []) + 1
    n = omega (arith, length-append had (s ∷ []))

  -- the first refused line of those behind a front
  record FirstBehind (had said : List Saying) (r : Refusal) : Type 0 where
    front : List Saying
    saying : Saying
    behind : List Saying
    are : said ≡ front ++ saying ∷ behind
    good : (a b : List Saying) (s : Saying) (q : Refusal) → front ≡ a ++ s ∷ b → IsRefused change most G (had ++ a) s q → ⊥
    refused : IsRefused change most G (had ++ front) saying r

  none_before : (a b : List Saying) (s : Saying) → [] ≡ a ++ s ∷ b → ⊥
  none_before [] b s e = let t : ⊥ = cc in t
  none_before (x ∷ a) b s e = let t : ⊥ = cc in t

  -- a front with one line more before it that isn't refused
  good_before : (had front : List Saying) (m : Saying) → refusal_at change most G (triples_of had) (length had + 1) m ≡ None
      → ((a b : List Saying) (s : Saying) (q : Refusal) → front ≡ a ++ s ∷ b → IsRefused change most G ((had ++ m ∷ []) ++ a) s q → ⊥)
      → (a b : List Saying) (s : Saying) (q : Refusal) → m ∷ front ≡ a ++ s ∷ b → IsRefused change most G (had ++ a) s q → ⊥
  good_before had front m e good [] b s q is h =
      let same : m ≡ s = cc in
      let at : refusal_at change most G (triples_of had) (length had + 1) m ≡ Some q = refused_at had m q (subst (λ z. IsRefused change most G had z q) (sym same) (subst (λ z. IsRefused change most G z s q) (append-nil had) h)) in
      let f : None ≡ Some q = sym e ∙ at in let t : ⊥ = cc in t
  good_before had front m e good (x ∷ a) b s q is h =
      let first : m ≡ x = cc in
      let rest : front ≡ a ++ s ∷ b = cc in
      good a b s q rest (subst (λ z. IsRefused change most G z s q) (ap (λ z. had ++ z ∷ a) (sym first) ∙ sym (append_assoc had (m ∷ []) a)) h)

  first_behind : (had said : List Saying) (r : Refusal) → refusal_from change most G (triples_of had) (length had + 1) said ≡ Some r → FirstBehind had said r
  first_behind had [] r e = absurd (let t : ⊥ = cc in t)
  first_behind had (m ∷ said) r e = by (first_behind (had ++ m ∷ []) said r) (refusal_at change most G (triples_of had) (length had + 1) m) refl e where
    by : (refusal_from change most G (triples_of (had ++ m ∷ [])) (length (had ++ m ∷ []) + 1) said ≡ Some r → FirstBehind (had ++ m ∷ []) said r) → (o : Option Refusal) → refusal_at change most G (triples_of had) (length had + 1) m ≡ o → option_or o (refusal_from change most G (triples_of had ++ triples_said m) ((length had + 1) + 1) said) ≡ Some r → FirstBehind had (m ∷ said) r
    by more (Some q) o e = record {
      front = [];
      saying = m;
      behind = said;
      are = refl;
      good = λ a b s p is h. none_before a b s is;
      refused = subst (λ z. IsRefused change most G z m r) (sym (append-nil had)) (at_refused had m r (o ∙ e));
    }
    by more None o e =
        let f = more (sym (next had m said) ∙ e) in
        record {
          front = m ∷ f.front;
          saying = f.saying;
          behind = f.behind;
          are = ap (λ z. m ∷ z) f.are;
          good = good_before had f.front m o f.good;
          refused = subst (λ z. IsRefused change most G z f.saying r) (append_assoc had (m ∷ []) f.front) f.refused;
        }

  first_from : (had front behind : List Saying) (s : Saying) (r : Refusal)
      → ((a b : List Saying) (s : Saying) (q : Refusal) → front ≡ a ++ s ∷ b → IsRefused change most G (had ++ a) s q → ⊥) → IsRefused change most G (had ++ front) s r
      → refusal_from change most G (triples_of had) (length had + 1) (front ++ s ∷ behind) ≡ Some r
  first_from had [] behind s r good h =
      ap (λ o. option_or o (refusal_from change most G (triples_of had ++ triples_said s) ((length had + 1) + 1) behind)) (refused_at had s r (subst (λ z. IsRefused change most G z s r) (append-nil had) h))
  first_from had (m ∷ front) behind s r good h =
      by (refusal_at change most G (triples_of had) (length had + 1) m) refl
      (first_from (had ++ m ∷ []) front behind s r
      (λ a b t q is g. good (m ∷ a) b t q (ap (λ z. m ∷ z) is) (subst (λ z. IsRefused change most G z t q) (append_assoc had (m ∷ []) a) g))
      (subst (λ z. IsRefused change most G z s r) (sym (append_assoc had (m ∷ []) front)) h)) where
        by : (o : Option Refusal) → refusal_at change most G (triples_of had) (length had + 1) m ≡ o
            → refusal_from change most G (triples_of (had ++ m ∷ [])) (length (had ++ m ∷ []) + 1) (front ++ s ∷ behind) ≡ Some r
            → refusal_from change most G (triples_of had) (length had + 1) (m ∷ (front ++ s ∷ behind)) ≡ Some r
        by (Some q) o more = absurd (good [] front m q refl (subst (λ z. IsRefused change most G z m q) (sym (append-nil had)) (at_refused had m q o)))
        by None o more =
            ap (λ z. option_or z (refusal_from change most G (triples_of had ++ triples_said m) ((length had + 1) + 1) (front ++ s ∷ behind))) o ∙ next had m (front ++ s ∷ behind) ∙ more

pub first_refusal_is_by_place : FirstRefusalIsByPlace
first_refusal_is_by_place change most G sayings refusal = (to, back) where
  to : IsFirstRefused change most G sayings refusal → first_refusal change most G sayings ≡ Some refusal
  to h = ap (first_refusal change most G) h.are ∙ first_from change most G [] h.front h.behind h.saying refusal (λ a b s q is g. h.good a b s q is g) h.refused

  back : first_refusal change most G sayings ≡ Some refusal → IsFirstRefused change most G sayings refusal
  back e = let f = first_behind change most G [] sayings refusal e in record { front = f.front; saying = f.saying; behind = f.behind; are = f.are; good = f.good; refused = f.refused }
