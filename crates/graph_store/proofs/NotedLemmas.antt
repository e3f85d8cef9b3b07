-- Ids that are noted: lists of them, and a dictionary that gains them and loses them again.
use Rattle.std.proofs.Common.{◌≡◌, ℕ, zero, suc, ◌+◌, ◌<◌, ◌≤◌, ◌||◌, Bool, true, false, cond, List, [], ◌∷◌, ◌++◌, length, take, drop, drop-cons, get_or, Option, None, Some, IsSome, is_some, refl, sym, ◌∙◌, ap, subst, inl, inr, arith, append_assoc}
use Rattle.std.proofs.lemmas.List.Folds.{list_any-append}
use Rattle.std.proofs.lemmas.List.{append-nil, take-append-drop}
use Rattle.std.specs.Ordering.{eq_by_cmp, nat_cmp}
use Rattle.std.specs.Cmp.{nat_cmp_total as total}
use Rattle.std.specs.FinMap as map
use Rattle.std.specs.FinMap.{nat_cmp-IsAntisymmetric as exact}
use Rattle.hypertrie_model.specs.SetLaws.{or_cases, or_right, or-false, tied-is, tied-itself, tied-apart}
use Rattle.hypertrie_model.specs.MapLaws.{by_key, same_maps, get-remove_here, get-remove_other, remove-insert}
use Rattle.rdf_model.specs.Terms.{Term}
use Rattle.term_dict.specs.Dict.{Terms, IsNew, Interns}
use Rattle.trie_depth.specs.declared.id.Id.{Id}
use Rattle.graph_image.specs.Images.{is_among, without}
use Rattle.graph_image.specs.DictLaws.{extends_on, get-without, without-none, insert_at, insert_extends}
use Rattle.graph_store.specs.Staging.{numbers, AreDistinct}
use Rattle.graph_store.specs.Noted.{Notes, Grows}

-- ---- lists of Ids

pub numbers-append : (xs ys : List Id) → numbers (xs ++ ys) ≡ numbers xs ++ numbers ys
numbers-append [] ys = refl
numbers-append (x ∷ xs) ys = ap (λ ns. x.0 ∷ ns) (numbers-append xs ys)

pub among-append : (xs ys : List ℕ) (q : ℕ) → is_among (xs ++ ys) q ≡ (is_among xs q || is_among ys q)
among-append xs ys q = list_any-append (eq_by_cmp nat_cmp q) xs ys

or_left_false : (a b : Bool) → (a || b) ≡ false → a ≡ false
or_left_false true b e = e
or_left_false false b e = refl

or_right_false : (a b : Bool) → (a || b) ≡ false → b ≡ false
or_right_false true b e = absurd (let f : ⊥ = cc in f)
or_right_false false b e = e

-- an Id of a list without repeats is not among those before it
pub distinct_before : (xs : List ℕ) (x : ℕ) (ys : List ℕ) → AreDistinct (xs ++ x ∷ ys) → is_among xs x ≡ false
distinct_before [] x ys d = refl
distinct_before (y ∷ xs) x ys d =
    let apart : eq_by_cmp nat_cmp y x ≡ false = or_left_false (eq_by_cmp nat_cmp y x) (is_among ys y) (or_right_false (is_among xs y) (is_among (x ∷ ys) y) (sym (among-append xs (x ∷ ys) y) ∙ d.0)) in
    let back : eq_by_cmp nat_cmp x y ≡ false = tied-apart exact x y (λ is. let f : true ≡ false = sym (tied-itself total y) ∙ ap (eq_by_cmp nat_cmp y) (sym is) ∙ apart in cc) in
    (λ i. back i || distinct_before xs x ys d.1 i)

-- lists without repeats that share no Id
pub distinct-append : (xs ys : List ℕ) → AreDistinct xs → AreDistinct ys → ((q : ℕ) → is_among xs q ≡ true → is_among ys q ≡ false) → AreDistinct (xs ++ ys)
distinct-append [] ys a b apart = b
distinct-append (x ∷ xs) ys a b apart = (
  among-append xs ys x ∙ (λ i. a.0 i || apart x (ap (λ c. c || is_among xs x) (tied-itself total x)) i),
  distinct-append xs ys a.1 b (λ q e. apart q (or_right (eq_by_cmp nat_cmp q x) (is_among xs q) e)),
)

split : (xs : List Id) (i : ℕ) (d : Id) → i < length xs → take i xs ++ get_or xs i d ∷ drop (i + 1) xs ≡ xs
split xs i d within =
    let next : suc i ≡ i + 1 = omega arith in
    ap (λ n. take i xs ++ get_or xs i d ∷ drop n xs) (sym next) ∙ ap (λ l. take i xs ++ l) (sym (drop-cons xs i d within)) ∙ take-append-drop i xs

take_suc : {X : Type 0} (xs : List X) (i : ℕ) (d : X) → i < length xs → take (suc i) xs ≡ take i xs ++ get_or xs i d ∷ []
take_suc [] i d within = absurd (omega arith)
take_suc (x ∷ xs) zero d within = refl
take_suc (x ∷ xs) (suc i) d within = ap (λ l. x ∷ l) (take_suc xs i d (omega arith))

pub take_next : {X : Type 0} (xs : List X) (i : ℕ) (d : X) → i < length xs → take i xs ++ get_or xs i d ∷ [] ≡ take (i + 1) xs
take_next xs i d within = let next : suc i ≡ i + 1 = omega arith in sym (take_suc xs i d within) ∙ ap (λ n. take n xs) next

-- one Id more goes
without-snoc : (terms : Terms) (ids : List ℕ) (id : ℕ) → without terms (ids ++ id ∷ []) ≡ map.remove (without terms ids) id
without-snoc terms ids id = same_maps total exact _ _ (λ q.
    get-without terms (ids ++ id ∷ []) q
    ∙ ap (λ b. cond b None (map.get terms q)) (among-append ids (id ∷ []) q)
    ∙ by_key total exact (λ b. cond (is_among ids q || (b || false)) None (map.get terms q) ≡ map.get (map.remove (without terms ids) id) q) q id
    (λ is. gone (is_among ids q) (map.get terms q) ∙ sym (ap (map.get (map.remove (without terms ids) id)) is ∙ get-remove_here total exact (without terms ids) id))
    (λ ne. ap (λ b. cond b None (map.get terms q)) (or-false (is_among ids q)) ∙ sym (get-remove_other total exact (without terms ids) id q ne ∙ get-without terms ids q))) where
      gone : (b : Bool) (x : Option Term) → cond (b || true) None x ≡ None
      gone true x = refl
      gone false x = refl

-- ---- Ids that go one after another

module _ (terms : Terms) (ids : List Id) (there : (id : ℕ) → is_among (numbers ids) id ≡ true → IsSome (map.get terms id)) (once : AreDistinct (numbers ids)) (i : ℕ) (d : Id) (within : i < length ids) where
  parts : numbers (take i ids) ++ (get_or ids i d).0 ∷ numbers (drop (i + 1) ids) ≡ numbers ids
  parts = sym (numbers-append (take i ids) (get_or ids i d ∷ drop (i + 1) ids)) ∙ ap numbers (split ids i d within)

  pub new_to_before : is_among (numbers (take i ids)) (get_or ids i d).0 ≡ false
  new_to_before = distinct_before (numbers (take i ids)) (get_or ids i d).0 (numbers (drop (i + 1) ids)) (subst AreDistinct (sym parts) once)

  pub here : IsSome (map.get terms (get_or ids i d).0)
  here =
      let id = (get_or ids i d).0 in
      there id (sym (ap (λ ns. is_among ns id) parts) ∙ among-append (numbers (take i ids)) (id ∷ numbers (drop (i + 1) ids)) id ∙ or_right (is_among (numbers (take i ids)) id) _ (ap (λ b. b || is_among (numbers (drop (i + 1) ids)) id) (tied-itself total id)))

  pub still_there : IsSome (map.get (without terms (numbers (take i ids))) (get_or ids i d).0)
  still_there =
      let id = (get_or ids i d).0 in
      subst IsSome (sym (get-without terms (numbers (take i ids)) id ∙ ap (λ b. cond b None (map.get terms id)) new_to_before)) here

  pub numbers_next : numbers (take i ids) ++ (get_or ids i d).0 ∷ [] ≡ numbers (take (i + 1) ids)
  numbers_next = sym (numbers-append (take i ids) (get_or ids i d ∷ [])) ∙ ap numbers (take_next ids i d within)

  pub next_gone : map.remove (without terms (numbers (take i ids))) (get_or ids i d).0 ≡ without terms (numbers (take (i + 1) ids))
  next_gone = sym (without-snoc terms (numbers (take i ids)) (get_or ids i d).0) ∙ ap (without terms) numbers_next

-- ---- one term interned

fewer : (old new : Terms) (t : Term) (id : ℕ) → map.get old id ≡ None → new ≡ map.insert old id t → map.len new ≡ map.len old + 1
fewer old new t id fresh added = ap map.len added ∙ map.len-insert total old id t ∙ ap (λ b. cond b (map.len old) (map.len old + 1)) (ap is_some fresh)

-- a new term goes again
pub undone : (old new : Terms) (t : Term) (id : ℕ) → Interns old new t id → map.len old < map.len new → map.remove new id ≡ old
undone old new t id (inl same) more = absurd (let e = ap map.len same.1 in omega (arith, e))
undone old new t id (inr added) more = ap (λ m. map.remove m id) added.2 ∙ remove-insert total exact old id t added.1

pub not_new : (old new : Terms) (t : Term) (id : ℕ) → Interns old new t id → map.len new ≤ map.len old → (map.get old id ≡ Some t) × (new ≡ old)
not_new old new t id (inl same) le = (same.0, same.1)
not_new old new t id (inr added) le = absurd (let e = fewer old new t id added.1 added.2 in omega (arith, e))

pub notes_few : (old new : Terms) (noted more : List Id) (t : Term) (id : Id) → Notes old noted new more t id → map.len new ≤ map.len old + 1
notes_few old new noted more t id (inl same) = let e = ap map.len same.1 in omega (arith, e)
notes_few old new noted more t id (inr added) = let e = fewer old new t id.0 added.1 added.2 in omega (arith, e)

pub notes_interns : (old new : Terms) (noted more : List Id) (t : Term) (id : Id) → Notes old noted new more t id → Interns old new t id.0
notes_interns old new noted more t id (inl same) = inl (same.0, same.1)
notes_interns old new noted more t id (inr added) = inr (added.0, added.1, added.2)

-- ---- a dictionary that grows

pub grows_none : (terms : Terms) (noted : List Id) → Grows terms noted terms noted
grows_none terms noted = record {
  rest = [];
  listed = sym (append-nil noted);
  extends = λ id t e. e;
  fresh = λ id e. absurd (let f : ⊥ = cc in f);
  there = λ id e. absurd (let f : ⊥ = cc in f);
  new_terms = λ id t e f. absurd (let g : ⊥ = cc in g);
  once = tt;
  back = without-none terms;
}

pub grows_same : (old new : Terms) (noted more : List Id) → new ≡ old → more ≡ noted → Grows old noted new more
grows_same old new noted more same listed = subst (λ m. Grows old noted m more) (sym same) (subst (Grows old noted old) (sym listed) (grows_none old noted))

pub notes_grows : (old new : Terms) (noted more : List Id) (t : Term) (id : Id) → Notes old noted new more t id → Grows old noted new more
notes_grows old new noted more t id (inl same) = grows_same old new noted more same.1 same.2
notes_grows old new noted more t id (inr added) =
    let fresh = added.1 in
    let now = added.2 in
    record {
      rest = id ∷ [];
      listed = added.3;
      extends = insert_extends old new t id.0 fresh now;
      fresh = λ q e. ap (map.get old) (only q e) ∙ fresh;
      there = λ q e. subst IsSome (sym (ap (map.get new) (only q e) ∙ insert_at old new t id.0 fresh now)) refl;
      new_terms = λ q u e f. subst (IsNew old) (of_some t u (sym (insert_at old new t id.0 fresh now) ∙ ap (map.get new) (sym (only q e)) ∙ f)) added.0;
      once = (refl, tt);
      back = without-snoc new [] id.0 ∙ ap (λ m. map.remove m id.0) (without-none new ∙ now) ∙ remove-insert total exact old id.0 t fresh;
    } where
      only : (q : ℕ) → is_among (id.0 ∷ []) q ≡ true → q ≡ id.0
      only q e = tied-is exact q id.0 (sym (or-false (eq_by_cmp nat_cmp q id.0)) ∙ e)

      of_some : (a b : Term) → Some a ≡ Some b → a ≡ b
      of_some a b e = cc

pub grows_on : (a b c : Terms) (x y z : List Id) → Grows a x b y → Grows b y c z → Grows a x c z
grows_on a b c x y z f g =
    let xs = numbers f.rest in
    let ys = numbers g.rest in
    let both : numbers (f.rest ++ g.rest) ≡ xs ++ ys = numbers-append f.rest g.rest in
    let at : (q : ℕ) → is_among (numbers (f.rest ++ g.rest)) q ≡ (is_among xs q || is_among ys q) = λ q. ap (λ ns. is_among ns q) both ∙ among-append xs ys q in
    record {
      rest = f.rest ++ g.rest;
      listed = g.listed ∙ ap (λ l. l ++ g.rest) f.listed ∙ append_assoc x f.rest g.rest;
      extends = extends_on a b c f.extends g.extends;
      fresh = λ q e. or_cases (is_among xs q) (is_among ys q) (sym (at q) ∙ e) _ (f.fresh q) (λ later. not_there q (g.fresh q later));
      there = λ q e. or_cases (is_among xs q) (is_among ys q) (sym (at q) ∙ e) _ (λ early. stays q (f.there q early)) (g.there q);
      new_terms = λ q t e got. or_cases (is_among xs q) (is_among ys q) (sym (at q) ∙ e) _
          (λ early. f.new_terms q t early (had q t (f.there q early) got))
          (λ later p has. g.new_terms q t later got p (f.extends p t has));
      once = subst AreDistinct (sym both) (distinct-append xs ys f.once g.once (λ q e. false_of (is_among ys q) (λ later. let f : true ≡ false = sym (f.there q e) ∙ ap is_some (g.fresh q later) in cc)));
      back = ap (without c) both ∙ same_maps total exact _ _ (λ q.
          get-without c (xs ++ ys) q ∙ ap (λ e. cond e None (map.get c q)) (among-append xs ys q)
          ∙ one_by_one (is_among xs q) (is_among ys q) (map.get c q)
          ∙ ap (λ o. cond (is_among xs q) None o) (sym (get-without c ys q) ∙ ap (λ m. map.get m q) g.back)
          ∙ sym (get-without b xs q)) ∙ f.back;
    } where
      not_there : (q : ℕ) → map.get b q ≡ None → map.get a q ≡ None
      not_there q none = by (map.get a q) refl where
        by : (o : Option Term) → map.get a q ≡ o → map.get a q ≡ None
        by None e = e
        by (Some t) e = absurd (let h : None ≡ Some t = sym none ∙ f.extends q t e in let f : ⊥ = cc in f)

      stays : (q : ℕ) → IsSome (map.get b q) → IsSome (map.get c q)
      stays q there = by (map.get b q) refl where
        by : (o : Option Term) → map.get b q ≡ o → IsSome (map.get c q)
        by None e = absurd (let h : false ≡ true = sym (ap is_some e) ∙ there in let f : ⊥ = cc in f)
        by (Some t) e = subst IsSome (sym (g.extends q t e)) refl

      had : (q : ℕ) (t : Term) → IsSome (map.get b q) → map.get c q ≡ Some t → map.get b q ≡ Some t
      had q t there got = by (map.get b q) refl where
        by : (o : Option Term) → map.get b q ≡ o → map.get b q ≡ Some t
        by None e = absurd (let h : false ≡ true = sym (ap is_some e) ∙ there in let f : ⊥ = cc in f)
        by (Some u) e = e ∙ sym (g.extends q u e) ∙ got

      false_of : (b : Bool) → (b ≡ true → ⊥) → b ≡ false
      false_of true h = absurd (h refl)
      false_of false h = refl

      one_by_one : (x y : Bool) (o : Option Term) → cond (x || y) None o ≡ cond x None (cond y None o)
      one_by_one true y o = refl
      one_by_one false y o = refl
