-- A map changed run by run: the entries before a bound are done.
use Rattle.std.specs.Prelude.{◌≡◌, ℕ, zero, suc, ◌+◌, ◌<◌, ◌≤◌, ◌^◌, ◌≢◌, ◌||◌, ◌-◌, true, false, List, [], ◌∷◌, ◌++◌, length, map, refl, Option, None, Some}
use Rattle.std.proofs.Common.{sym, ◌∙◌, ap, subst, arith, append_assoc, take, drop}
use Rattle.std.proofs.lemmas.Cmp.{lists_total, ranked}
use Rattle.std.proofs.lemmas.List.Elements.{All-from_recursion, recursion_from_All}
use Rattle.std.specs.List.{All, AllByRecursion, slice_index_or, slice_get}
use Rattle.std.specs.List.Sorted.{IsStrictlySortedBy}
use Rattle.std.specs.Ordering.{nat_cmp, eq_by_cmp}
use Rattle.std.specs.declared.cmp.Ordering.TheVariants.{Less}
use Rattle.std.specs.Cmp.{nat_cmp_total as total}
use Rattle.std.specs.Cmp.Lexicographic.{slice_cmp}
use Rattle.std.specs.FinMap as finite
use Rattle.std.specs.FinMap.{nat_cmp-IsAntisymmetric as exact}
use Rattle.std.specs.FinSet as set
use Rattle.hypertrie_model.specs.IdSets.{IdSet}
use Rattle.hypertrie_model.specs.Sets.{empty, has}
use Rattle.hypertrie_model.specs.SetLaws.{same_sets, tied-itself, tied-apart}
use Rattle.hypertrie_model.specs.Slices.{is_at, slice}
use Rattle.hypertrie_model.specs.MapLaws.{get-insert_here, get-insert_other, get-remove_here, get-remove_other}
use Rattle.hypertrie_model.specs.Changes.{after, IsChange}
use Rattle.hypertrie_model.specs.ChangeLaws.{after-empty}
use Rattle.hypertrie_model.specs.Runs.{IsRun, IsAfter, without_front, slice_front_append, front_slice_none, front_slice_all, slice_run, sorted_run, run_after}
use Rattle.trie_depth.specs.declared.id.Id.{Id}
use Rattle.edge_map.specs.declared.edge.Edge.{Edge}
use Rattle.edge_map.specs.Edges.{Edges, change, changed}
use Rattle.edge_map.specs.Entries.{RiseFrom, KeysRise}
use Rattle.trie_context.specs.declared.tables.Tables.{Tables}
use Rattle.trie_context.specs.FitEdges.{set_at, StandsAt, option_leads}
use Rattle.trie_context.specs.EdgeLaws.{stands_is}
use Rattle.trie_context.specs.MoveLaws.{same_or_not}
use Rattle.trie_change.specs.declared.change.Change.{Change}
use Rattle.trie_change.specs.Changes.{grows}
use Rattle.trie_change.specs.Rooms.{FitsSome, AllFit, changes_lead, AreChanges, AreChanged, AreSmallAfter}

-- ---- changes pushed behind others

-- each change is under a key below the bound
abbrev pub ChangesBelow : ℕ → List (Id × Option Edge) → Type 0
ChangesBelow b cs = AllByRecursion (λ c. c.0.0 < b) cs

pub rise_push : (from : ℕ) (cs : List (Id × Option Edge)) (c : Id × Option Edge) → RiseFrom from cs → ChangesBelow c.0.0 cs → from ≤ c.0.0 → RiseFrom from (cs ++ c ∷ [])
rise_push from [] c h below le = (le, tt)
rise_push from (x ∷ xs) c h below le = (h.0, rise_push (suc x.0.0) xs c h.1 below.1 (let lt = below.0 in omega arith))

pub below_weaker : (a b : ℕ) → a ≤ b → (cs : List (Id × Option Edge)) → ChangesBelow a cs → ChangesBelow b cs
below_weaker a b le [] h = tt
below_weaker a b le (x ∷ xs) h = (let lt = h.0 in omega arith, below_weaker a b le xs h.1)

pub below_push : (b : ℕ) (cs : List (Id × Option Edge)) (c : Id × Option Edge) → ChangesBelow b cs → c.0.0 < b → ChangesBelow b (cs ++ c ∷ [])
below_push b [] c h lt = (lt, tt)
below_push b (x ∷ xs) c h lt = (h.0, below_push b xs c h.1 lt)

pub change_here : (m : Edges) (k : ℕ) (o : Option Edge) → finite.get (change m k o) k ≡ o
change_here m k None = get-remove_here total exact m k
change_here m k (Some e) = get-insert_here total exact m k e

pub change_other : (m : Edges) (k : ℕ) (o : Option Edge) (q : ℕ) → q ≢ k → finite.get (change m k o) q ≡ finite.get m q
change_other m k None q ne = get-remove_other total exact m k q ne
change_other m k (Some e) q ne = get-insert_other total exact m k e q ne

pub changed_here : (m : Edges) (cs : List (Id × Option Edge)) (c : Id × Option Edge) → ChangesBelow c.0.0 cs → finite.get (changed m (cs ++ c ∷ [])) c.0.0 ≡ c.1
changed_here m [] c below = change_here m c.0.0 c.1
changed_here m (x ∷ xs) c below =
    change_other (changed m (xs ++ c ∷ [])) x.0.0 x.1 c.0.0 (λ is. let lt = below.0 in omega arith)
    ∙ changed_here m xs c below.1

pub changed_other : (m : Edges) (cs : List (Id × Option Edge)) (c : Id × Option Edge) (q : ℕ) → q ≢ c.0.0 → finite.get (changed m (cs ++ c ∷ [])) q ≡ finite.get (changed m cs) q
changed_other m [] c q ne = change_other m c.0.0 c.1 q ne
changed_other m (x ∷ xs) c q ne = same_or_not q x.0.0 _
    (λ is. subst (λ k. finite.get (changed m (x ∷ (xs ++ c ∷ []))) k ≡ finite.get (changed m (x ∷ xs)) k) (sym is) (change_here (changed m (xs ++ c ∷ [])) x.0.0 x.1 ∙ sym (change_here (changed m xs) x.0.0 x.1)))
    (λ off. change_other (changed m (xs ++ c ∷ [])) x.0.0 x.1 q off ∙ changed_other m xs c q ne ∙ sym (change_other (changed m xs) x.0.0 x.1 q off))

pub changed_above : (m : Edges) (cs : List (Id × Option Edge)) (k : ℕ) → ChangesBelow k cs → finite.get (changed m cs) k ≡ finite.get m k
changed_above m [] k below = refl
changed_above m (x ∷ xs) k below = change_other (changed m xs) x.0.0 x.1 k (λ is. let lt = below.0 in omega arith) ∙ changed_above m xs k below.1

pub lead_push : (cs : List (Id × Option Edge)) (c : Id × Option Edge) (r : ℕ) → changes_lead (cs ++ c ∷ []) r ≡ changes_lead cs r + option_leads c.1 r
lead_push [] c r = omega arith
lead_push (x ∷ xs) c r = omega (arith, lead_push xs c r)

-- the first entry is there
pub first_there : {X : Type 0} (xs : List X) (x : X) → Some x ≡ slice_get xs 0 → (0 < length xs) × (slice_index_or xs 0 x ≡ x)
first_there [] x is = absurd (let f : Some x ≡ None = is in cc)
first_there (y ∷ ys) x is = (omega arith, let f : Some x ≡ Some y = is in cc)

-- ---- entries with a key first and the rest behind it
module _ {E : Type 0} (key : E → ℕ) (behind : E → List ℕ) where
  abbrev pub tuple : E → List ℕ
  tuple e = key e ∷ behind e

  abbrev pub tuples : List E → List (List ℕ)
  tuples es = map tuple es

  abbrev pub set_of_tuples : List E → IdSet
  set_of_tuples es = set.from_list (tuples es)

  abbrev pub KeysBelow : ℕ → List E → Type 0
  KeysBelow b es = AllByRecursion (λ e. key e < b) es

  abbrev pub KeysFrom : ℕ → List E → Type 0
  KeysFrom b es = AllByRecursion (λ e. b ≤ key e) es

  abbrev pub KeysAre : ℕ → List E → Type 0
  KeysAre k es = AllByRecursion (λ e. key e ≡ k) es

  tuples-append : (xs ys : List E) → tuples (xs ++ ys) ≡ tuples xs ++ tuples ys
  tuples-append [] ys = refl
  tuples-append (x ∷ xs) ys = ap (λ ts. tuple x ∷ ts) (tuples-append xs ys)

  pub behind_front : (es : List E) → without_front (tuples es) ≡ map behind es
  behind_front [] = refl
  behind_front (e ∷ es) = ap (λ ts. behind e ∷ ts) (behind_front es)

  not_at : (k x : ℕ) (u : List ℕ) → x ≢ k → is_at nat_cmp 0 k (x ∷ u) ≡ false
  not_at k x u ne = tied-apart exact k x (λ is. ne (sym is))

  none_below : (k b : ℕ) → b ≤ k → (es : List E) → KeysBelow b es → AllByRecursion (λ t. is_at nat_cmp 0 k t ≡ false) (tuples es)
  none_below k b le [] h = tt
  none_below k b le (e ∷ es) h = (not_at k (key e) (behind e) (λ is. let lt = h.0 in omega arith), none_below k b le es h.1)

  none_other : (k q : ℕ) → q ≢ k → (es : List E) → KeysAre q es → AllByRecursion (λ t. is_at nat_cmp 0 k t ≡ false) (tuples es)
  none_other k q ne [] h = tt
  none_other k q ne (e ∷ es) h = (not_at k (key e) (behind e) (λ is. ne (sym h.0 ∙ is)), none_other k q ne es h.1)

  all_at : (k : ℕ) (es : List E) → KeysAre k es → AllByRecursion (λ t. is_at nat_cmp 0 k t ≡ true) (tuples es)
  all_at k [] h = tt
  all_at k (e ∷ es) h = (ap (λ q. eq_by_cmp nat_cmp k q) h.0 ∙ tied-itself total k, all_at k es h.1)

  pub below_all : (a b : ℕ) → a ≤ b → (es : List E) → KeysBelow a es → KeysBelow b es
  below_all a b le [] h = tt
  below_all a b le (e ∷ es) h = (let lt = h.0 in omega arith, below_all a b le es h.1)

  pub below_append : (b : ℕ) (xs ys : List E) → KeysBelow b xs → KeysBelow b ys → KeysBelow b (xs ++ ys)
  below_append b [] ys p q = q
  below_append b (x ∷ xs) ys p q = (p.0, below_append b xs ys p.1 q)

  pub below_are : (k : ℕ) (es : List E) → KeysAre k es → KeysBelow (suc k) es
  below_are k [] h = tt
  below_are k (e ∷ es) h = (let is = h.0 in omega arith, below_are k es h.1)

  less : (k x : ℕ) → nat_cmp k x ≡ Less → suc k ≤ x
  less k x e = let lt : k < x = ranked k x Less (sym e) in omega arith

  pub from_after : (k : ℕ) (es : List E) → AllByRecursion (IsAfter nat_cmp k) (tuples es) → KeysFrom (suc k) es
  from_after k [] h = tt
  from_after k (e ∷ es) h = (less k (key e) h.0, from_after k es h.1)

  from_last : (b : ℕ) (xs ys : List E) → KeysFrom b (xs ++ ys) → KeysFrom b ys
  from_last b [] ys h = h
  from_last b (x ∷ xs) ys h = from_last b xs ys h.1

  -- ---- a run at the front: as many entries as have the key
  index_drop : (n : ℕ) (xs : List E) (e : E) (es : List E) → drop n xs ≡ e ∷ es → (n < length xs) × ((d : E) → slice_index_or xs n d ≡ e)
  index_drop zero [] e es is = absurd (let f : [] ≡ e ∷ es = is in cc)
  index_drop zero (x ∷ xs) e es is = (omega arith, λ d. let f : x ∷ xs ≡ e ∷ es = is in cc)
  index_drop (suc n) [] e es is = absurd (let f : [] ≡ e ∷ es = is in cc)
  index_drop (suc n) (x ∷ xs) e es is = let r = index_drop n xs e es is in (let lt = r.0 in omega arith, r.1)

  module _ (xs : List E) (n k : ℕ) (ends : (e : E) → n < length xs → key (slice_index_or xs n e) ≢ k) where
    pub run_some : (e : E) → 0 < length xs → key (slice_index_or xs 0 e) ≡ k → n ≤ length xs → 0 < length (take n xs)
    run_some e some here le = by n xs le some (λ z. ends e (let s = some in omega arith) (ap (λ m. key (slice_index_or xs m e)) z ∙ here)) where
      by : (m : ℕ) (ys : List E) → m ≤ length ys → 0 < length ys → (m ≡ 0 → ⊥) → 0 < length (take m ys)
      by zero ys le some not = absurd (not refl)
      by (suc m) [] le some not = absurd (omega arith)
      by (suc m) (y ∷ ys) le some not = omega arith

    pub run_ends : (d : List ℕ) → 0 < length (drop n xs) → is_at nat_cmp 0 k (slice_index_or (tuples (drop n xs)) 0 d) ≡ false
    run_ends d some = by (drop n xs) refl some where
      by : (ys : List E) → drop n xs ≡ ys → 0 < length ys → is_at nat_cmp 0 k (slice_index_or (tuples ys) 0 d) ≡ false
      by [] is some = absurd (omega arith)
      by (y ∷ ys) is some = let i = index_drop n xs y ys is in not_at k (key y) (behind y) (λ same. ends y i.0 (ap key (i.1 y) ∙ same))

  -- the run of the entries with the key at the front, and the others
  pub record IsCut (rest : List E) (k : ℕ) (run others : List E) : Type 0 where
    pub whole : rest ≡ run ++ others
    pub some : 0 < length run
    pub are : KeysAre k run
    pub ends : (d : List ℕ) → 0 < length others → is_at nat_cmp 0 k (slice_index_or (tuples others) 0 d) ≡ false

  -- cut behind the first n entries
  pub cut_at : (rest : List E) (k n : ℕ) (run others : List E) → rest ≡ run ++ others → run ≡ take n rest → others ≡ drop n rest → n ≤ length rest → All (λ e. key e ≡ k) (take n rest) → ((e : E) → n < length rest → key (slice_index_or rest n e) ≢ k)
      → (e : E) → 0 < length rest → key (slice_index_or rest 0 e) ≡ k → IsCut rest k run others
  cut_at rest k n run others whole front back le all ends e some here = record {
    whole = whole;
    some = subst (λ es. 0 < length es) (sym front) (run_some rest n k ends e some here le);
    are = subst (KeysAre k) (sym front) (recursion_from_All (λ e. key e ≡ k) (take n rest) all);
    ends = subst (λ es. (d : List ℕ) → 0 < length es → is_at nat_cmp 0 k (slice_index_or (tuples es) 0 d) ≡ false) (sym back) (run_ends rest n k ends);
  }

  module _ (change : Change) (d : ℕ) (t0 : Tables) (old : Edges) (all : List E) where
    -- the entries before the rest are done: the changes are for them
    pub record AreDone (t : Tables) (rest : List E) (cs : List (Id × Option Edge)) : Type 0 where
      pub done : List E
      pub whole : all ≡ done ++ rest
      pub bound : ℕ
      pub below : KeysBelow bound done
      pub from : KeysFrom bound rest
      pub under : ChangesBelow bound cs
      pub rise : KeysRise cs
      pub changes : AreChanged change t0 t d old (set_of_tuples done) (changed old cs)

    module _ (fits : AllFit t0 d old) where
      stands_before : (o : Option Edge) → FitsSome t0 d o → StandsAt t0 d (set_at t0 d o) o
      stands_before None f = refl
      stands_before (Some e) f = (f, refl)

      unchanged : (B : IdSet) (k : ℕ) → slice nat_cmp B 0 k ≡ empty nat_cmp → StandsAt t0 d (after (grows change) (set_at t0 d (finite.get old k)) (slice nat_cmp B 0 k)) (finite.get old k)
      unchanged B k none = subst (λ S. StandsAt t0 d S (finite.get old k))
          (sym (ap (after (grows change) (set_at t0 d (finite.get old k))) none ∙ after-empty total exact (grows change) (set_at t0 d (finite.get old k))))
          (stands_before (finite.get old k) (fits k))

      from_zero : (es : List E) → KeysFrom 0 es
      from_zero [] = tt
      from_zero (e ∷ es) = (omega arith, from_zero es)

      -- nothing is done yet
      pub begins : (cs : List (Id × Option Edge)) → cs ≡ [] → AreDone t0 all cs
      begins cs none = record {
        done = [];
        whole = refl;
        bound = 0;
        below = tt;
        from = from_zero all;
        under = subst (ChangesBelow 0) (sym none) tt;
        rise = subst KeysRise (sym none) tt;
        changes = λ k. subst (λ c. StandsAt t0 d (after (grows change) (set_at t0 d (finite.get old k)) (slice nat_cmp (set_of_tuples []) 0 k)) (finite.get (changed old c) k)) (sym none)
            (unchanged (set_of_tuples []) k (front_slice_none total exact [] k (λ q e lt. absurd (omega arith))));
      }

      module _ (order : IsStrictlySortedBy (slice_cmp nat_cmp) (tuples all)) (t : Tables) (rest : List E) (cs : List (Id × Option Edge)) (so_far : AreDone t rest cs)
          (k : Id) (run others : List E) (cut : IsCut rest k.0 run others) where
        abbrev done : List E
        done = so_far.done

        length-tuples : (es : List E) → length (tuples es) ≡ length es
        length-tuples [] = refl
        length-tuples (e ∷ es) = ap suc (length-tuples es)

        pub low : so_far.bound ≤ k.0
        low = by run cut.some cut.are (subst (KeysFrom so_far.bound) cut.whole so_far.from) where
          by : (es : List E) → 0 < length es → KeysAre k.0 es → KeysFrom so_far.bound (es ++ others) → so_far.bound ≤ k.0
          by [] lt a f = absurd (omega arith)
          by (e ∷ es) lt a f = let is = a.0 in let le = f.0 in omega arith

        split : tuples all ≡ tuples done ++ (tuples run ++ tuples others)
        split = ap tuples (so_far.whole ∙ ap (λ es. done ++ es) cut.whole) ∙ tuples-append done (run ++ others) ∙ ap (λ ts. tuples done ++ ts) (tuples-append run others)

        pub run_here : IsRun nat_cmp k.0 (tuples done) (tuples run) (tuples others)
        run_here = record {
          sorted = subst (IsStrictlySortedBy (slice_cmp nat_cmp)) split order;
          some = let n = length-tuples run in let some = cut.some in omega arith;
          keyed = All-from_recursion _ (tuples run) (all_at k.0 run cut.are);
          begins = λ d lt. All-from_recursion (λ t. is_at nat_cmp 0 k.0 t ≡ false) (tuples done) (none_below k.0 so_far.bound low done so_far.below) (length (tuples done) - 1) d (omega arith);
          ends = λ d lt. cut.ends d (let n = length-tuples others in omega arith);
        }

        -- the run lists the slice of the batch at its key
        pub run_slice : slice nat_cmp (set_of_tuples all) 0 k.0 ≡ set.from_list (map behind run)
        run_slice = ap (λ ts. slice nat_cmp (set.from_list ts) 0 k.0) split ∙ slice_run total exact k.0 (tuples done) (tuples run) (tuples others) run_here ∙ ap (λ ts. set.from_list ts) (behind_front run)

        pub run_order : IsStrictlySortedBy (slice_cmp nat_cmp) (map behind run)
        run_order = subst (IsStrictlySortedBy (slice_cmp nat_cmp)) (behind_front run) (sorted_run total exact k.0 (tuples done) (tuples run) (tuples others) run_here)

        -- no entry with the key is done
        not_done : slice nat_cmp (set_of_tuples done) 0 k.0 ≡ empty nat_cmp
        not_done = front_slice_none total exact (tuples done) k.0 (All-from_recursion _ (tuples done) (none_below k.0 so_far.bound low done so_far.below))

        -- so the edge under it is the old one, and what it stands for is as at first
        pub edge_same : finite.get (changed old cs) k.0 ≡ finite.get old k.0
        edge_same = changed_above old cs k.0 (below_weaker so_far.bound k.0 low cs so_far.under)

        old_stands : StandsAt t d (set_at t0 d (finite.get old k.0)) (finite.get old k.0)
        old_stands = subst (StandsAt t d (set_at t0 d (finite.get old k.0))) edge_same
            (subst (λ S. StandsAt t d S (finite.get (changed old cs) k.0)) (ap (after (grows change) (set_at t0 d (finite.get old k.0))) not_done ∙ after-empty total exact (grows change) (set_at t0 d (finite.get old k.0)))
            (so_far.changes k.0))

        pub old_there : FitsSome t d (finite.get old k.0)
        old_there = by (finite.get old k.0) old_stands where
          by : (o : Option Edge) → StandsAt t d (set_at t0 d (finite.get old k.0)) o → FitsSome t d o
          by None stands = tt
          by (Some e) stands = stands.0

        pub old_same : set_at t d (finite.get old k.0) ≡ set_at t0 d (finite.get old k.0)
        old_same = stands_is t d (set_at t0 d (finite.get old k.0)) (finite.get old k.0) old_stands

        pub run_change : AreChanges change t0 d old (set_of_tuples all) → IsChange (grows change) (set_at t d (finite.get old k.0)) (set.from_list (map behind run))
        run_change allowed = subst (λ B. IsChange (grows change) (set_at t d (finite.get old k.0)) B) run_slice (subst (λ H. IsChange (grows change) H (slice nat_cmp (set_of_tuples all) 0 k.0)) (sym old_same) (allowed k.0))

        pub run_small : AreSmallAfter change t0 d old (set_of_tuples all) → set.len (after (grows change) (set_at t d (finite.get old k.0)) (set.from_list (map behind run))) < 2 ^ 64
        run_small small = subst (λ B. set.len (after (grows change) (set_at t d (finite.get old k.0)) B) < 2 ^ 64) run_slice (subst (λ H. set.len (after (grows change) H (slice nat_cmp (set_of_tuples all) 0 k.0)) < 2 ^ 64) (sym old_same) (small k.0))

        -- the run is done
        module _ (u : Tables) (e : Option Edge)
            (still : (q : ℕ) → q ≢ k.0 → (S : IdSet) → StandsAt t d S (finite.get (changed old cs) q) → StandsAt u d S (finite.get (changed old cs) q))
            (stands : StandsAt u d (after (grows change) (set_at t d (finite.get old k.0)) (set.from_list (map behind run))) e) where
          abbrev next : List (Id × Option Edge)
          next = cs ++ (k, e) ∷ []

          slices : (q : ℕ) → slice nat_cmp (set_of_tuples (done ++ run)) 0 q ≡ set.union (slice nat_cmp (set_of_tuples done) 0 q) (slice nat_cmp (set_of_tuples run) 0 q)
          slices q = ap (λ ts. slice nat_cmp (set.from_list ts) 0 q) (tuples-append done run) ∙ slice_front_append total exact (tuples done) (tuples run) q

          here : slice nat_cmp (set_of_tuples (done ++ run)) 0 k.0 ≡ set.from_list (map behind run)
          here = slices k.0
              ∙ (λ j. set.union (front_slice_none total exact (tuples done) k.0 (All-from_recursion _ (tuples done) (none_below k.0 so_far.bound low done so_far.below)) j)
              ((front_slice_all total exact (tuples run) k.0 (All-from_recursion _ (tuples run) (all_at k.0 run cut.are)) ∙ ap (λ ts. set.from_list ts) (behind_front run)) j))
              ∙ empty_union (set.from_list (map behind run)) where
                empty_union : (S : IdSet) → set.union (empty nat_cmp) S ≡ S
                empty_union S = same_sets total exact _ _ (λ q. set.contains-union (lists_total total) (empty nat_cmp) S q ∙ ap (λ b. b || has S q) (set.contains-empty (slice_cmp nat_cmp) q))

          elsewhere : (q : ℕ) → q ≢ k.0 → slice nat_cmp (set_of_tuples (done ++ run)) 0 q ≡ slice nat_cmp (set_of_tuples done) 0 q
          elsewhere q ne = slices q
              ∙ ap (set.union (slice nat_cmp (set_of_tuples done) 0 q)) (front_slice_none total exact (tuples run) q (All-from_recursion _ (tuples run) (none_other q k.0 (λ is. ne (sym is)) run cut.are)))
              ∙ after-empty total exact true (slice nat_cmp (set_of_tuples done) 0 q)

          pub under : ChangesBelow k.0 cs
          under = below_weaker so_far.bound k.0 low cs so_far.under

          pub changes : AreChanged change t0 u d old (set_of_tuples (done ++ run)) (changed old next)
          changes q = same_or_not q k.0 _
              (λ is. subst (λ q. StandsAt u d (after (grows change) (set_at t0 d (finite.get old q)) (slice nat_cmp (set_of_tuples (done ++ run)) 0 q)) (finite.get (changed old next) q)) (sym is)
              (subst (StandsAt u d (after (grows change) (set_at t0 d (finite.get old k.0)) (slice nat_cmp (set_of_tuples (done ++ run)) 0 k.0))) (sym (changed_here old cs (k, e) under))
              (subst (λ S. StandsAt u d S e) (λ j. after (grows change) (old_same j) (sym here j)) stands)))
              (λ ne. subst (StandsAt u d (after (grows change) (set_at t0 d (finite.get old q)) (slice nat_cmp (set_of_tuples (done ++ run)) 0 q))) (sym (changed_other old cs (k, e) q ne))
              (subst (λ S. StandsAt u d (after (grows change) (set_at t0 d (finite.get old q)) S) (finite.get (changed old cs) q)) (sym (elsewhere q ne))
              (still q ne _ (so_far.changes q))))

          abbrev pub step : (new : List (Id × Option Edge)) → new ≡ cs ++ (k, e) ∷ [] → AreDone u others new
          step new is = record {
            done = done ++ run;
            whole = so_far.whole ∙ ap (λ es. done ++ es) cut.whole ∙ sym (append_assoc done run others);
            bound = suc k.0;
            below = below_append (suc k.0) done run (below_all so_far.bound (suc k.0) (omega (arith, low)) done so_far.below) (below_are k.0 run cut.are);
            from = from_after k.0 others (recursion_from_All _ (tuples others) (run_after total exact k.0 (tuples done) (tuples run) (tuples others) run_here));
            under = subst (ChangesBelow (suc k.0)) (sym is) (below_push (suc k.0) cs (k, e) (below_weaker k.0 (suc k.0) (omega arith) cs under) (omega arith));
            rise = subst KeysRise (sym is) (rise_push 0 cs (k, e) so_far.rise under (omega arith));
            changes = subst (λ c. AreChanged change t0 u d old (set_of_tuples (done ++ run)) (changed old c)) (sym is) changes;
          }
