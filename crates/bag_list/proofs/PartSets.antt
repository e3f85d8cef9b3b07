-- The sets that parts stand for.
use Rattle.std.specs.Prelude.{◌≡◌, ◌≢◌, ℕ, ◌≤◌, true, false, List, [], ◌∷◌, length, refl, Some}
use Rattle.std.proofs.Common.{sym, ◌∙◌, ap, subst, arith}
use Rattle.std.proofs.lemmas.Bool.{false_from_ne_true}
use Rattle.std.proofs.lemmas.Cmp.{nat_cmp_total, lists_total}
use Rattle.std.specs.Cmp.Lexicographic.{slice_cmp}
use Rattle.std.specs.FinMap.{nat_cmp-IsAntisymmetric}
use Rattle.std.specs.FinSet as set
use Rattle.std.specs.FinSet.{slice_cmp-IsAntisymmetric}
use Rattle.std.specs.Ordering.{nat_cmp}
use native.Mathlib.Decide.{dec_lt}
use Rattle.hypertrie_model.specs.IdSets.{IdSet}
use Rattle.hypertrie_model.specs.Sets.{has, empty, single, HasDepth}
use Rattle.hypertrie_model.specs.SetLaws.{same_sets, has-single, tied-is, tied-itself}
use Rattle.hypertrie_model.specs.SliceLaws.{has-slice_at_mask}
use Rattle.hypertrie_model.specs.Slices.{at, slice_at_mask}
use Rattle.trie_depth.specs.Operands.{Admits}
use Rattle.bag_model.specs.Solutions.{image}
use Rattle.bag_list.specs.declared.track.Part.{Part}
use Rattle.bag_list.specs.Labels.{labels_of, mask_of, without}
use Rattle.bag_list.specs.Tracks.{AdmitsAt, part_set, set_with}
use Rattle.bag_list.proofs.Images.{has-slice, length-without, mask-none}

-- a set of tuples without places that isn't empty has the one without places
pub has-nil : (H : IdSet) → HasDepth 0 H → (H ≡ empty nat_cmp → ⊥) → has H [] ≡ true
has-nil H deep some = elim (has H []) as (λ b. has H [] ≡ b → b ≡ true) [
  | true ↦ λ _. refl
  | false ↦ λ out. absurd (some (same_sets nat_cmp_total nat_cmp-IsAntisymmetric H (empty nat_cmp) (λ t.
      false_from_ne_true _ (λ e.
      let is : t ≡ [] = nil t (deep t e) in
      let f : false ≡ true = sym out ∙ ap (has H) (sym is) ∙ e in cc)
      ∙ sym (set.contains-empty (slice_cmp nat_cmp) t))))
] refl where
  nil : (t : List ℕ) → length t ≡ 0 → t ≡ []
  nil [] e = refl
  nil (x ∷ t) e = absurd (omega (arith, e))

-- what is left at the key of the last label
slice-deep : (l k : ℕ) (H : IdSet) (ls : List ℕ) → HasDepth (length ls) H → HasDepth (length (without l ls)) (slice_at_mask nat_cmp H (mask_of l ls) k)
slice-deep l k H ls deep t e =
    let s = has-slice_at_mask nat_cmp_total nat_cmp-IsAntisymmetric H (mask_of l ls) k t e in
    ap length (sym s.left) ∙ length-without l ls s.tuple (deep s.tuple s.there)

pub last-has : (l k : ℕ) (a : List ℕ) → at l a ≡ Some k → (H : IdSet) (ls : List ℕ) → HasDepth (length ls) H → (H ≡ empty nat_cmp → ⊥) → without l ls ≡ [] → (1 ≤ mask_of l ls → Admits H (mask_of l ls) k) → has H (image a ls) ≡ true
last-has l k a here H ls deep some none admits = elim (dec_lt 0 (mask_of l ls)) as (λ _. has H (image a ls) ≡ true) [
  | yes lt ↦
      sym (has-slice l k a here H ls deep) ∙ ap (λ ks. has (slice_at_mask nat_cmp H (mask_of l ls) k) (image a ks)) none
      ∙ has-nil (slice_at_mask nat_cmp H (mask_of l ls) k) (subst (λ d. HasDepth d (slice_at_mask nat_cmp H (mask_of l ls) k)) (ap length none) (slice-deep l k H ls deep)) (admits (omega (arith, lt)))
  | no ge ↦
      let all : ls ≡ [] = sym (mask-none l ls (omega (arith, ge))) ∙ none in
      ap (λ ks. has H (image a ks)) all ∙ has-nil H (subst (λ d. HasDepth d H) (ap length all) deep) some
]

-- ---- where no label is left

pub has-one : has (single nat_cmp []) [] ≡ true
has-one = has-single nat_cmp_total nat_cmp-IsAntisymmetric [] [] ∙ tied-itself (lists_total nat_cmp_total) []

pub one-some : single nat_cmp [] ≢ empty nat_cmp
one-some e =
    let f : false ≡ true = sym (set.contains-empty (slice_cmp nat_cmp) []) ∙ ap (λ H. has H []) (sym e) ∙ has-one in
    cc

one-deep : HasDepth 0 (single nat_cmp [])
one-deep t e = ap length (tied-is (slice_cmp-IsAntisymmetric nat_cmp-IsAntisymmetric) t [] (sym (has-single nat_cmp_total nat_cmp-IsAntisymmetric [] t) ∙ e))

-- ---- with labels and without

pub mask-long : (l : ℕ) (ls : List ℕ) → 1 ≤ mask_of l ls → 1 ≤ length ls
mask-long l [] some = absurd (omega (arith, some))
mask-long l (m ∷ ls) some = omega arith

pub set-long : (ls : List ℕ) (H : IdSet) → 1 ≤ length ls → set_with ls H ≡ H
set-long [] H some = absurd (omega (arith, some))
set-long (l ∷ ls) H some = refl

pub set-deep : (ls : List ℕ) (H : IdSet) → (1 ≤ length ls → HasDepth (length ls) H) → HasDepth (length ls) (set_with ls H)
set-deep [] H deep = one-deep
set-deep (l ∷ ls) H deep = deep (omega arith)

pub set-some : (ls : List ℕ) (H : IdSet) → H ≢ empty nat_cmp → set_with ls H ≢ empty nat_cmp
set-some [] H some = one-some
set-some (l ∷ ls) H some = some

-- an operand of no position that isn't empty has the tuple of no key
pub set-whole : (a ls : List ℕ) (H : IdSet) → HasDepth (length ls) H → H ≢ empty nat_cmp → has (set_with ls H) (image a ls) ≡ has H (image a ls)
set-whole a [] H deep some = has-one ∙ sym (has-nil H deep some)
set-whole a (l ∷ ls) H deep some = refl

pub long-there : (ls : List ℕ) → ls ≢ [] → 1 ≤ length ls
long-there [] some = absurd (some refl)
long-there (l ∷ ls) some = omega arith

-- what the operand admits the part admits, and the other way round
pub admits-part : {O : Type 0} (tuples : O → IdSet) (l k : ℕ) (p : Part O) → AdmitsAt tuples l p k → 1 ≤ mask_of l (labels_of p.labels) → Admits (part_set tuples p) (mask_of l (labels_of p.labels)) k
admits-part tuples l k p admits some =
    subst (λ H. Admits H (mask_of l (labels_of p.labels)) k) (sym (set-long (labels_of p.labels) (tuples p.op) (mask-long l (labels_of p.labels) some))) (admits some)

pub part-admits : {O : Type 0} (tuples : O → IdSet) (l k : ℕ) (p : Part O) → Admits (part_set tuples p) (mask_of l (labels_of p.labels)) k → AdmitsAt tuples l p k
part-admits tuples l k p admits some =
    subst (λ H. Admits H (mask_of l (labels_of p.labels)) k) (set-long (labels_of p.labels) (tuples p.op) (mask-long l (labels_of p.labels) some)) admits
