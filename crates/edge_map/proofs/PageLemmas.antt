-- Chunks in pages, read page by page.
use Rattle.std.specs.Prelude.{◌≡◌, Bool, true, false, T, IsTrue, ℕ, zero, suc, ◌+◌, ◌-◌, ◌<◌, ◌≤◌, ◌^◌, List, [], ◌∷◌, ◌++◌, length, refl}
use Rattle.std.proofs.Common.{sym, ◌∙◌, ap, subst, arith, get_or, take, append_assoc, length-append}
use Rattle.std.proofs.Math.Dec.{ltb, leb}
use Rattle.std.proofs.Math.Facts.{leb_yes}
use Rattle.std.proofs.lemmas.List.{take_more, get_or_default}
use Rattle.std.specs.List.Sorted.{IsPartitionedBy}
use Rattle.trie_depth.specs.declared.id.Id.{Id}
use Rattle.edge_map.specs.declared.edge.Edge.{Edge}
use Rattle.edge_map.specs.Entries.{KeysRise}
use Rattle.edge_map.specs.Chunks.{flat, first_key, NearFrom, last_from, last_size, AreSized}
use Rattle.edge_map.specs.Pages.{paged, by_page, AreFull, IsSize}
use Rattle.edge_map.proofs.PlaceLemmas.{ltb_true, ltb_is}
use Rattle.edge_map.proofs.ChunkLemmas.{AreSome, first_parts, flat_append, flat_push, rise_front, rise_back}

nil_behind : {X : Type 0} (xs : List X) → xs ++ [] ≡ xs
nil_behind [] = refl
nil_behind (x ∷ xs) = ap (λ ys. x ∷ ys) (nil_behind xs)

pub paged_push : (ps : List (List (List (Id × Edge)))) (p : List (List (Id × Edge))) → paged (ps ++ p ∷ []) ≡ paged ps ++ p
paged_push [] p = nil_behind p
paged_push (q ∷ ps) p = ap (λ cs. q ++ cs) (paged_push ps p) ∙ sym (append_assoc q (paged ps) p)

pub flat_paged : (ps : List (List (List (Id × Edge)))) → flat (paged ps) ≡ flat (by_page ps)
flat_paged [] = refl
flat_paged (p ∷ ps) = flat_append p (paged ps) ∙ ap (λ xs. flat p ++ xs) (flat_paged ps)

pub length_by : (ps : List (List (List (Id × Edge)))) → length (by_page ps) ≡ length ps
length_by [] = refl
length_by (p ∷ ps) = ap suc (length_by ps)

pub get_by : (ps : List (List (List (Id × Edge)))) (i : ℕ) → get_or (by_page ps) i [] ≡ flat (get_or ps i [])
get_by [] i = refl
get_by (p ∷ ps) zero = refl
get_by (p ∷ ps) (suc i) = get_by ps i

pub full_push : (ps : List (List (List (Id × Edge)))) (p : List (List (Id × Edge))) → AreFull ps → 0 < length p → AreFull (ps ++ p ∷ [])
full_push [] p h some = (some, tt)
full_push (q ∷ ps) p h some = (h.0, full_push ps p h.1 some)

pub full_init : (ps : List (List (List (Id × Edge)))) (p : List (List (Id × Edge))) → AreFull (ps ++ p ∷ []) → AreFull ps
full_init [] p h = tt
full_init (q ∷ ps) p h = (h.0, full_init ps p h.1)

pub full_front : (ps qs : List (List (List (Id × Edge)))) → AreFull (ps ++ qs) → AreFull ps
full_front [] qs h = tt
full_front (p ∷ ps) qs h = (h.0, full_front ps qs h.1)

pub full_at : (ps : List (List (List (Id × Edge)))) (i : ℕ) → i < length ps → AreFull ps → 0 < length (get_or ps i [])
full_at [] i lt h = absurd (omega arith)
full_at (p ∷ ps) zero lt h = h.0
full_at (p ∷ ps) (suc i) lt h = full_at ps i (omega arith) h.1

pub sized_front : (cs ds : List (List (Id × Edge))) → AreSized (cs ++ ds) → AreSized cs
sized_front [] ds s = tt
sized_front (c ∷ cs) ds s = (s.0, s.1, sized_front cs ds s.2)

pub sized_back : (cs ds : List (List (Id × Edge))) → AreSized (cs ++ ds) → AreSized ds
sized_back [] ds s = s
sized_back (c ∷ cs) ds s = sized_back cs ds s.2

pub sized_at : (ps : List (List (List (Id × Edge)))) (i : ℕ) → AreSized (paged ps) → AreSized (get_or ps i [])
sized_at [] i s = tt
sized_at (p ∷ ps) zero s = sized_front p (paged ps) s
sized_at (p ∷ ps) (suc i) s = sized_at ps i (sized_back p (paged ps) s)

pub rise_at : (ps : List (List (List (Id × Edge)))) (i : ℕ) → KeysRise (flat (paged ps)) → KeysRise (flat (get_or ps i []))
rise_at [] i h = tt
rise_at (p ∷ ps) zero h = rise_front 0 (flat p) (flat (paged ps)) (subst KeysRise (flat_append p (paged ps)) h)
rise_at (p ∷ ps) (suc i) h = rise_at ps i (rise_back 0 (flat p) (flat (paged ps)) (subst KeysRise (flat_append p (paged ps)) h))

pub first_flat : (cs : List (List (Id × Edge))) → AreSized cs → first_key (get_or cs 0 []) ≡ first_key (flat cs)
first_flat [] s = refl
first_flat ([] ∷ cs) s = absurd (omega (arith, s.0))
first_flat ((e ∷ es) ∷ cs) s = refl

-- the first key of a page
pub first_by : (ps : List (List (List (Id × Edge)))) (i : ℕ) → AreSized (paged ps) → first_key (get_or (get_or ps i []) 0 []) ≡ first_key (get_or (by_page ps) i [])
first_by ps i s = first_flat (get_or ps i []) (sized_at ps i s) ∙ sym (ap first_key (get_by ps i))

pub some_by : (ps : List (List (List (Id × Edge)))) → AreSized (paged ps) → AreFull ps → AreSome (by_page ps)
some_by [] s h = tt
some_by ([] ∷ ps) s h = absurd (omega (arith, h.0))
some_by ((c ∷ cs) ∷ ps) s h = (let both = length-append c (flat cs) in omega (arith, s.0, both), some_by ps (sized_back (c ∷ cs) (paged ps) s) h.1)

-- the last chunk of lists one behind another
pub last_both : (n m : ℕ) (cs ds : List (List (Id × Edge))) → 0 < length ds → last_from n (cs ++ ds) ≡ last_from m ds
last_both n m [] [] some = absurd (omega arith)
last_both n m [] (d ∷ ds) some = refl
last_both n m (c ∷ cs) ds some = last_both (length c) m cs ds some

pub last_paged : (n m : ℕ) (ps : List (List (List (Id × Edge)))) (d : List (List (Id × Edge))) (i : ℕ) → suc i ≡ length ps → AreFull ps → last_from n (paged ps) ≡ last_from m (get_or ps i d)
last_paged n m [] d i e h = absurd (omega arith)
last_paged n m (p ∷ []) d zero e h = ap (last_from n) (nil_behind p) ∙ last_both n m [] p h.0
last_paged n m (p ∷ []) d (suc i) e h = absurd (omega arith)
last_paged n m (p ∷ q ∷ ps) d zero e h = absurd (omega arith)
last_paged n m (p ∷ q ∷ ps) d (suc i) e h =
    last_both n n p (paged (q ∷ ps)) (let both = length-append q (paged ps) in omega (arith, h.1.0, both)) ∙ last_paged n m (q ∷ ps) d i (omega arith) h.1

pub last_most : (n : ℕ) (cs : List (List (Id × Edge))) → n ≤ 256 → AreSized cs → last_from n cs ≤ 256
last_most n [] le s = le
last_most n (c ∷ cs) le s = last_most (length c) cs s.1 s.2

-- neighbours in lists one behind another
pub near_front : (n : ℕ) (cs ds : List (List (Id × Edge))) → NearFrom n (cs ++ ds) → NearFrom n cs
near_front n [] ds h = tt
near_front n (c ∷ cs) ds h = (h.0, near_front (length c) cs ds h.1)

pub near_back : (n : ℕ) (cs ds : List (List (Id × Edge))) → NearFrom n (cs ++ ds) → NearFrom (last_from n cs) ds
near_back n [] ds h = h
near_back n (c ∷ cs) ds h = near_back (length c) cs ds h.1

pub near_join : (n : ℕ) (cs ds : List (List (Id × Edge))) → NearFrom n cs → NearFrom (last_from n cs) ds → NearFrom n (cs ++ ds)
near_join n [] ds h t = t
near_join n (c ∷ cs) ds h t = (h.0, near_join (length c) cs ds h.1 t)

pub near_first : (m n : ℕ) (cs ds : List (List (Id × Edge))) → 0 < length cs → 128 < m + length (get_or cs 0 []) → NearFrom n (cs ++ ds) → NearFrom m (cs ++ ds)
near_first m n [] ds some lt h = absurd (omega arith)
near_first m n (c ∷ cs) ds some lt h = (lt, h.1)

pub sized_join : (cs ds : List (List (Id × Edge))) → AreSized cs → AreSized ds → AreSized (cs ++ ds)
sized_join [] ds s t = t
sized_join (c ∷ cs) ds s t = (s.0, s.1, sized_join cs ds s.2 t)

-- an element that was read, by another default
pub at_default : {X : Type 0} (xs : List X) (i : ℕ) (x d : X) → i < length xs → x ≡ get_or xs i x → x ≡ get_or xs i d
at_default [] i x d lt is = absurd (omega arith)
at_default (y ∷ xs) zero x d lt is = is
at_default (y ∷ xs) (suc i) x d lt is = at_default xs i x d (omega arith) is

pub none_by : (ps : List (List (List (Id × Edge)))) (i : ℕ) → length ps ≤ i → get_or (by_page ps) i [] ≡ []
none_by [] i le = refl
none_by (p ∷ ps) zero le = absurd (omega arith)
none_by (p ∷ ps) (suc i) le = none_by ps i (omega arith)

-- the key that stands beside a page is the first one of its entries
pub key_by : (ps : List (List (List (Id × Edge)))) (i key : ℕ) (p : List (List (Id × Edge))) → AreSized (paged ps) → i < length ps → p ≡ get_or ps i p → key ≡ first_key (get_or p 0 []) → key ≡ first_key (get_or (by_page ps) i [])
key_by ps i key p s lt is first = first ∙ ap (λ q. first_key (get_or q 0 [])) (at_default ps i p [] lt is) ∙ first_by ps i s

pub page_within : (ps : List (List (List (Id × Edge)))) (i : ℕ) → length (flat (get_or ps i [])) ≤ length (flat (paged ps))
page_within [] i = omega arith
page_within (p ∷ ps) zero = let both = ap length (flat_append p (paged ps)) ∙ length-append (flat p) (flat (paged ps)) in omega (arith, both)
page_within (p ∷ ps) (suc i) = let both = ap length (flat_append p (paged ps)) ∙ length-append (flat p) (flat (paged ps)) in omega (arith, both, page_within ps i)

pub take_all : {X : Type 0} (xs : List X) (i : ℕ) → length xs ≤ i → take i xs ≡ xs
take_all [] zero le = refl
take_all [] (suc i) le = refl
take_all (x ∷ xs) zero le = absurd (omega arith)
take_all (x ∷ xs) (suc i) le = ap (λ ys. x ∷ ys) (take_all xs i (omega arith))

-- how many chunks so many pages have
pub count_next : (ps : List (List (List (Id × Edge)))) (p : List (List (Id × Edge))) (i n len : ℕ) → i < length ps → n ≡ length (paged (take i ps)) → p ≡ get_or ps i p → len ≡ length p → n + len ≡ length (paged (take (i + 1) ps))
count_next ps p i n len lt so_far is size =
    let more = ap (λ qs. length (paged qs)) (take_more ps i p lt) in
    let push = ap length (paged_push (take i ps) (get_or ps i p)) in
    let both = length-append (paged (take i ps)) (get_or ps i p) in
    let same = ap length is in
    omega (arith, so_far, size, more, push, both, same)

pub count_within : (ps : List (List (List (Id × Edge)))) (i : ℕ) → length (paged (take i ps)) ≤ length (paged ps)
count_within ps zero = omega arith
count_within [] (suc i) = omega arith
count_within (p ∷ ps) (suc i) = omega (arith, length-append p (paged (take i ps)), length-append p (paged ps), count_within ps i)

-- the size of the first chunks
pub size_next : (d : List (Id × Edge)) (cs : List (List (Id × Edge))) (i size len sum : ℕ) → i < length cs → IsSize size (take i cs) → len ≡ length (get_or cs i d) → (size + len ≤ 2 ^ 32 → sum ≡ size + len) → IsSize sum (take (i + 1) cs)
size_next d cs i size len sum lt so_far is added few =
    let more = ap (λ ds. length (flat ds)) (take_more cs i d lt) in
    let push = ap length (flat_push (take i cs) (get_or cs i d)) in
    let both = length-append (flat (take i cs)) (get_or cs i d) in
    let before = so_far (omega (arith, more, push, both, few)) in
    let whole = added (omega (arith, before, more, push, both, few, is)) in
    omega (arith, before, whole, is, more, push, both)

-- where the last chunk of pages and loose chunks stands
pub last_loose : (cs ls self : List (List (Id × Edge))) → cs ++ ls ≡ self → 0 < length ls → last_size ls ≡ last_size self
last_loose cs ls self is some = sym (last_both 256 256 cs ls some) ∙ ap last_size is

pub last_page : (ps : List (List (List (Id × Edge)))) (ls self p : List (List (Id × Edge))) → AreFull ps → paged ps ++ ls ≡ self → length ls ≡ 0 → 0 < length ps → p ≡ get_or ps (length ps - 1) p → last_size p ≡ last_size self
last_page ps [] self p h is none some item = ap last_size item ∙ sym (last_paged 256 256 ps p (length ps - 1) (omega arith) h) ∙ ap last_size (sym (nil_behind (paged ps)) ∙ is)
last_page ps (l ∷ ls) self p h is none some item = absurd (omega arith)

-- the front of the loose chunks, put behind the pages
pub fronted : {X : Type 0} (new old front behind loose : List X) → new ≡ old ++ front → front ++ behind ≡ loose → new ++ behind ≡ old ++ loose
fronted new old front behind loose is both = ap (λ xs. xs ++ behind) is ∙ append_assoc old front behind ∙ ap (λ xs. old ++ xs) both

pub pushed_page : (old new : List (List (List (Id × Edge)))) (page run : List (List (Id × Edge))) → new ≡ old ++ page ∷ [] → page ≡ run → paged new ≡ paged old ++ run
pushed_page old new page run is same = ap paged is ∙ paged_push old page ∙ ap (λ cs. paged old ++ cs) same

pub pushed_full : (old new : List (List (List (Id × Edge)))) (page run : List (List (Id × Edge))) → AreFull old → 0 < length run → new ≡ old ++ page ∷ [] → page ≡ run → AreFull new
pushed_full old new page run h some is same = subst AreFull (sym is) (full_push old page h (subst (λ cs. 0 < length cs) (sym same) some))

-- the first keys of the pages pass a bound once
pub page_parts : (from : ℕ) (ps : List (List (List (Id × Edge)))) → AreSized (paged ps) → AreFull ps → KeysRise (flat (paged ps)) → IsPartitionedBy (λ p. ltb (first_key (get_or p 0 [])) from) ps
page_parts from ps s h rise i j d le lt before =
    let size = length_by ps in
    let parts = first_parts 0 (by_page ps) (some_by ps s h) (subst KeysRise (flat_paged ps) rise) i j [] le (omega (arith, lt, size)) in
    let one = key_by ps i (first_key (get_or (get_or ps i d) 0 [])) (get_or ps i d) s (omega (arith, le, lt)) (get_or_default ps i d (get_or ps i d) (omega (arith, le, lt))) refl in
    let two = key_by ps j (first_key (get_or (get_or ps j d) 0 [])) (get_or ps j d) s lt (get_or_default ps j d (get_or ps j d) lt) refl in
    ltb_true _ _ (let below = ltb_is (first_key (get_or (get_or ps j d) 0 [])) from before in omega (arith, parts, one, two, below))

pub lt_of : (a b : ℕ) → IsTrue (ltb a b) → a < b
lt_of a b t = ltb_is a b t

pub le_of : (a b : ℕ) → IsTrue (leb a b) → a ≤ b
le_of a b t = leb_yes {a = a} {b = b} (is_true _ t) where
  is_true : (b : Bool) → IsTrue b → T b
  is_true true t = tt
  is_true false t = cc

-- a page taken apart
pub opened : (old new : List (List (List (Id × Edge)))) (page loose run : List (List (Id × Edge))) → old ≡ new ++ page ∷ [] → length loose ≡ 0 → run ≡ loose ++ page → paged new ++ run ≡ paged old ++ loose
opened old new page [] run is none both = ap (λ cs. paged new ++ cs) both ∙ sym (ap paged is ∙ paged_push new page) ∙ sym (nil_behind (paged old))
opened old new page (l ∷ loose) run is none both = absurd (omega arith)

full_last : (ps : List (List (List (Id × Edge)))) (p : List (List (Id × Edge))) → AreFull (ps ++ p ∷ []) → 0 < length p
full_last [] p h = h.0
full_last (q ∷ ps) p h = full_last ps p h.1

pub opened_some : (old new : List (List (List (Id × Edge)))) (page loose run : List (List (Id × Edge))) → AreFull old → old ≡ new ++ page ∷ [] → run ≡ loose ++ page → run ≡ [] → paged new ≡ []
opened_some old new page loose run h is both none =
    let some = full_last new page (subst AreFull is h) in
    let size = ap length both ∙ length-append loose page in
    let zero = ap length none in
    absurd (omega (arith, some, size, zero))

pub opened_full : (old new : List (List (List (Id × Edge)))) (page : List (List (Id × Edge))) → AreFull old → old ≡ new ++ page ∷ [] → AreFull new
opened_full old new page h is = full_init new page (subst AreFull is h)

-- a page behind the loose chunks, which became one
pub page_behind : (pages closed new : List (List (List (Id × Edge)))) (loose none self page shared : List (List (Id × Edge))) → paged pages ++ loose ≡ self → paged closed ≡ paged pages ++ loose → new ≡ closed ++ shared ∷ [] → shared ≡ page → none ≡ [] → paged new ++ none ≡ self ++ page
page_behind pages closed new loose none self page shared view is push same empty =
    ap (λ cs. paged new ++ cs) empty ∙ nil_behind (paged new) ∙ pushed_page closed new shared page push same ∙ ap (λ cs. cs ++ page) (is ∙ view)

-- the entries of a single page
pub one_page : (ps : List (List (List (Id × Edge)))) → length ps ≡ 1 → flat (paged ps) ≡ get_or (by_page ps) 0 []
one_page [] one = absurd (omega arith)
one_page (p ∷ []) one = ap flat (nil_behind p)
one_page (p ∷ q ∷ ps) one = absurd (omega arith)
