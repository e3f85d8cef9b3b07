-- Edges and entries that are the same.
use Rattle.std.specs.Prelude.{◌≡◌, ◌↔◌, ℕ, List, [], ◌∷◌, ◌++◌, Bool, false, IsTrue, length, map, refl}
use Rattle.std.proofs.Common.{sym, ◌∙◌, ap, subst, arith, take, drop}
use Rattle.std.specs.Bool.{Decides}
use Rattle.std.proofs.lemmas.Bool.{true≢false}
use Rattle.std.proofs.Math.Seq.{take-append_seam, drop-append_seam}
use Rattle.trie_depth.specs.declared.id.Id.{Id}
use Rattle.edge_map.specs.declared.edge.Edge.{Edge}
use Rattle.edge_map.specs.declared.edge.Edge.TheVariants.{Key, Node}
use Rattle.edge_map.specs.Packing.{zipped}
use Rattle.edge_map.specs.Chunks.{flat, AreSized}

abbrev pub key_back : Edge → Id
key_back (Key k) = k
key_back (Node r) = record { 0 = 0 }

abbrev pub row_back : Edge → ℕ
row_back (Key k) = 0
row_back (Node r) = r

keys_back : (ks : List Id) → map key_back (map (λ k. Key k) ks) ≡ ks
keys_back [] = refl
keys_back (k ∷ ks) = ap (λ xs. k ∷ xs) (keys_back ks)

rows_back : (rs : List ℕ) → map row_back (map (λ r. Node r) rs) ≡ rs
rows_back [] = refl
rows_back (r ∷ rs) = ap (λ xs. r ∷ xs) (rows_back rs)

-- edges that are keys are the same where the keys are
pub same_keys : (ks others : List Id) (same : Bool) → Decides same (ks ≡ others) → IsTrue same ↔ (map (λ k. Key k) ks ≡ map (λ k. Key k) others)
same_keys ks others same d = ((λ t. ap (map (λ k. Key k)) (d.0 t)), (λ e. d.1 (sym (keys_back ks) ∙ ap (map key_back) e ∙ keys_back others)))

-- and edges that are rows where the rows are
pub same_rows : (rs others : List ℕ) (same : Bool) → Decides same (rs ≡ others) → IsTrue same ↔ (map (λ r. Node r) rs ≡ map (λ r. Node r) others)
same_rows rs others same d = ((λ t. ap (map (λ r. Node r)) (d.0 t)), (λ e. d.1 (sym (rows_back rs) ∙ ap (map row_back) e ∙ rows_back others)))

-- the keys and the edges of entries
pub zipped_keys : (ks : List Id) (es : List Edge) → length es ≡ length ks → map (λ e. e.0) (zipped ks es) ≡ ks
zipped_keys [] es h = refl
zipped_keys (k ∷ ks) [] h = absurd (omega arith)
zipped_keys (k ∷ ks) (e ∷ es) h = ap (λ xs. k ∷ xs) (zipped_keys ks es (omega arith))

pub zipped_edges : (ks : List Id) (es : List Edge) → length es ≡ length ks → map (λ e. e.1) (zipped ks es) ≡ es
zipped_edges [] [] h = refl
zipped_edges [] (e ∷ es) h = absurd (omega arith)
zipped_edges (k ∷ ks) [] h = absurd (omega arith)
zipped_edges (k ∷ ks) (e ∷ es) h = ap (λ xs. e ∷ xs) (zipped_edges ks es (omega arith))

-- entries are the same where their keys are, if the edges beside the same keys are
pub same_zipped : (ks ls : List Id) (B C : List Id → List Edge) (told : Bool) → Decides told (ks ≡ ls) → ((keys : List Id) → B keys ≡ C keys) → length (B ks) ≡ length ks → length (C ls) ≡ length ls → IsTrue told ↔ (zipped ks (B ks) ≡ zipped ls (C ls))
same_zipped ks ls B C told d same b c =
    ((λ t. (λ i. zipped (d.0 t i) (B (d.0 t i))) ∙ ap (zipped ls) (same ls)), (λ e. d.1 (sym (zipped_keys ks (B ks) b) ∙ ap (map (λ x. x.0)) e ∙ zipped_keys ls (C ls) c)))

-- and other entries where the edges are others
pub other_zipped : (ks ls : List Id) (B C : List Id → List Edge) (told : Bool) → told ≡ false → ((keys : List Id) → IsTrue told ↔ (B keys ≡ C keys)) → length (B ks) ≡ length ks → length (C ls) ≡ length ls → IsTrue told ↔ (zipped ks (B ks) ≡ zipped ls (C ls))
other_zipped ks ls B C told other same b c =
    ((λ t. absurd (true≢false (sym t ∙ other))), (λ e. (same ks).1 (sym (zipped_edges ks (B ks) b) ∙ ap (map (λ x. x.1)) e ∙ zipped_edges ls (C ls) c ∙ ap C (sym (sym (zipped_keys ks (B ks) b) ∙ ap (map (λ x. x.0)) e ∙ zipped_keys ls (C ls) c)))))

-- lists with fronts of one length are the same where the fronts and the rests are
pub same_front : {X : Type 0} (xs ys more rest : List X) → length xs ≡ length ys → xs ++ more ≡ ys ++ rest → xs ≡ ys
same_front xs ys more rest h e = sym (take-append_seam xs more) ∙ (λ i. take (h i) (e i)) ∙ take-append_seam ys rest

pub same_back : {X : Type 0} (xs ys more rest : List X) → length xs ≡ length ys → xs ++ more ≡ ys ++ rest → more ≡ rest
same_back xs ys more rest h e = sym (drop-append_seam xs more) ∙ (λ i. drop (h i) (e i)) ∙ drop-append_seam ys rest

-- the same said of equal things
pub told_of : {X : Type 0} (told : Bool) (x y left right : X) → x ≡ left → y ≡ right → IsTrue told ↔ (left ≡ right) → IsTrue told ↔ (x ≡ y)
told_of told x y left right a b h = ((λ t. a ∙ h.0 t ∙ sym b), (λ e. h.1 (sym a ∙ e ∙ b)))

-- what a comparison chunk by chunk keeps
pub record Turn (chunks others left right : List (List (Id × Edge))) : Type 0 where
  pub sized : AreSized left
  pub others_sized : AreSized right
  pub same : flat chunks ≡ flat others → flat left ≡ flat right
  pub whole : flat left ≡ flat right → flat chunks ≡ flat others

-- it keeps that behind two chunks that are the same
pub turned_same : (chunks others left right : List (List (Id × Edge))) (x y : List (Id × Edge)) (more rest : List (List (Id × Edge))) → Turn chunks others left right → left ≡ x ∷ more → right ≡ y ∷ rest → x ≡ y → Turn chunks others more rest
turned_same chunks others left right x y more rest t l r e = record {
  sized = (subst AreSized l t.sized).2;
  others_sized = (subst AreSized r t.others_sized).2;
  same = λ q. same_back x y (flat more) (flat rest) (ap length e) (sym (ap flat l) ∙ t.same q ∙ ap flat r);
  whole = λ q. t.whole (ap flat l ∙ (λ i. e i ++ q i) ∙ sym (ap flat r));
}

-- and two others of one size part the whole
pub parted : (chunks others left right : List (List (Id × Edge))) (x y : List (Id × Edge)) (more rest : List (List (Id × Edge))) → Turn chunks others left right → left ≡ x ∷ more → right ≡ y ∷ rest → length x ≡ length y → flat chunks ≡ flat others → x ≡ y
parted chunks others left right x y more rest t l r h q = same_front x y (flat more) (flat rest) h (sym (ap flat l) ∙ t.same q ∙ ap flat r)
