-- What is known of tables and graphs that are read, fact by fact.
use Rattle.std.specs.Prelude.{◌≡◌, ℕ, ◌&&◌, Bool, true, List, [], ◌∷◌, length, refl, is_some}
use mathlib.Core.Bool.{Bool-set}
use Rattle.std.proofs.Common.{sym, ◌∙◌, ap, subst, arith}
use Rattle.std.proofs.Math.Logic.{∥∥₁_elim}
use Rattle.std.specs.Coded.{Coded-set, coded_ℕ}
use Rattle.std.specs.List.{list_all}
use Rattle.std.specs.FinMap as map
use Rattle.hypertrie_model.specs.IdSets.{IdSet}
use Rattle.hypertrie_model.specs.Sets.{has}
use Rattle.hypertrie_model.specs.SetLaws.{and_both}
use Rattle.term_dict.specs.Dict.{Terms, IsOneToOne}
use Rattle.trie_context.specs.declared.root.Root.{Root}
use Rattle.trie_context.specs.declared.root.Root.TheVariants.{Empty, One, Many}
use Rattle.trie_context.specs.declared.tables.Tables.{Tables}
use Rattle.trie_context.specs.Kept.{AreKept}
use Rattle.trie_context.specs.Roots.{root_set}
use Rattle.trie_context.specs.Rows.{row_of}
use Rattle.trie_view.specs.Places.{IsRootThere}
use Rattle.tuple_image.specs.TupleImages.{IsOver}
use Rattle.graph_image.specs.Images.{IsKnown, AreKnown}
use Rattle.graph_view.specs.Read.{has_id, AreRead, IsRead}

pub numbers_prop : (m n : ℕ) → IsProp (m ≡ n)
numbers_prop m n = Coded-set coded_ℕ m n

pub tests_prop : (b c : Bool) → IsProp (b ≡ c)
tests_prop b c = Bool-set b c

-- known triples have known Ids
pub known_ids : (terms : Terms) (H : IdSet) → AreKnown terms H → IsOver (has_id terms) H
known_ids terms H known t there =
    let k = known t there in
    ap (list_all (has_id terms)) k.is ∙ (λ i. k.subject i && (k.predicate i && (k.object i && true)))

-- three known Ids are a known triple
known_three : (terms : Terms) (t : List ℕ) → length t ≡ 3 → list_all (has_id terms) t ≡ true → IsKnown terms t
known_three terms [] n e = absurd (omega arith)
known_three terms (a ∷ []) n e = absurd (omega arith)
known_three terms (a ∷ b ∷ []) n e = absurd (omega arith)
known_three terms (a ∷ b ∷ c ∷ []) n e =
    let first = and_both (has_id terms a) (has_id terms b && (has_id terms c && true)) e in
    let second = and_both (has_id terms b) (has_id terms c && true) first.1 in
    let third = and_both (has_id terms c) true second.1 in
    record { s = a; p = b; o = c; is = refl; subject = first.0; predicate = second.0; object = third.0 }
known_three terms (a ∷ b ∷ c ∷ d ∷ t) n e = absurd (omega arith)

module _ (t : Tables) (terms : Terms) where
  pub one_known : ∥ AreRead t terms ∥₁ → IsOneToOne terms
  one_known known p q term at_p at_q = ∥∥₁_elim known (numbers_prop p q) (λ r. r.one p q term at_p at_q)

  -- what has one proof at most may use that the tables are kept
  pub kept_known : ∥ AreRead t terms ∥₁ → (P : Type 0) → IsProp P → ((mixed : ℕ → ℕ → ℕ → ℕ → ℕ) → AreKept mixed t → P) → P
  kept_known known P prop made = ∥∥₁_elim known prop (λ r. made r.mixed r.kept)

  module _ (root : Root) (known : ∥ IsRead t root terms ∥₁) where
    pub root_known : IsRootThere t root
    root_known = ∥∥₁_elim known (by root) (λ r. r.there) where
      by : (r : Root) → IsProp (IsRootThere t r)
      by Empty = hlevel
      by (One triple) = hlevel
      by (Many row) = tests_prop (is_some (row_of t 3 row)) true

    pub triples_known : AreKnown terms (root_set t root)
    triples_known u there =
        known_three terms u
        (∥∥₁_elim known (numbers_prop (length u) 3) (λ r. ap length (r.known u there).is))
        (∥∥₁_elim known (tests_prop (list_all (has_id terms) u) true) (λ r. known_ids terms (root_set t root) r.known u there))
