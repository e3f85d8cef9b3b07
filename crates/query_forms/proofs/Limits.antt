-- The limit and the offset that are found are those of the productions.
use Rattle.std.proofs.Common.{◌≡◌, ◌∙◌, ℕ, List, [], ◌∷◌, ◌++◌, refl, sym, ap, subst, inl, inr, append-nil, Option, Some, None}
use Rattle.query_tokens.specs.Forms.{◌▸◌, maybe}
use Rattle.query_grammar.specs.Lexemes.{Lexeme}
use Rattle.query_grammar.specs.Meaning.{number_behind, or_zero, value_of}
use Rattle.query_grammar.specs.Outline.{sign, limits}
use Rattle.query_grammar.specs.Signs.{Sign, Limit, Offset, Integer}
use Rattle.query_forms.specs.Laws.{Lacks, TailsAsProductions}
use Rattle.query_forms.specs.Tails.{IsClause, clause, IsTail, nothing, limit, offset, limit_offset, offset_limit}
use Rattle.query_forms.proofs.Signed.{number_past, number_none, number_here, numbers, no_numbers, Fits, parted, together, grouped, regrouped, one_token, fits_one}

-- What a clause says

module _ (word : Sign) where
  clause_fits : (ls : List Lexeme) (n : ℕ) → IsClause word ls n → Fits (sign word ▸ sign Integer) ls
  clause_fits _ _ (clause first second f s) = together (sign word) (sign Integer) (first ∷ []) (second ∷ []) (fits_one word first f) (fits_one Integer second s)

  fits_clause : (ls : List Lexeme) → Fits (sign word ▸ sign Integer) ls → (n : ℕ) × IsClause word ls n
  fits_clause ls h =
      let p = parted (sign word) (sign Integer) ls h in
      let a = one_token word p.first p.fits_first in
      let b = one_token Integer p.second p.fits_second in
      let are : ls ≡ a.token ∷ b.token ∷ [] = p.are ∙ (λ i. a.are i ++ b.are i) in
      (value_of b.token.text, subst (λ ks. IsClause word ks (value_of b.token.text)) (sym are) (clause a.token b.token a.is b.is))

  clause_number : (ls ks : List Lexeme) (n : ℕ) → IsClause word ls n → number_behind word (ls ++ ks) ≡ Some n
  clause_number _ ks _ (clause first second f s) = number_here word first second ks f

  clause_lacks : (other : Sign) (ls : List Lexeme) (n : ℕ) → (word ≡ other → ⊥) → (Integer ≡ other → ⊥) → IsClause word ls n → Lacks other ls
  clause_lacks other _ _ differs number (clause first second f s) = ((λ e. differs (sym f ∙ e)), ((λ e. number (sym s ∙ e)), tt))

limit_offset_differ : Limit ≡ Offset → ⊥
limit_offset_differ e = let f : ⊥ = cc in f

integer_limit_differ : Integer ≡ Limit → ⊥
integer_limit_differ e = let f : ⊥ = cc in f

integer_offset_differ : Integer ≡ Offset → ⊥
integer_offset_differ e = let f : ⊥ = cc in f

no_offset : (ls : List Lexeme) (m : ℕ) → IsClause Limit ls m → Lacks Offset ls
no_offset ls m h = clause_lacks Limit Offset ls m limit_offset_differ integer_offset_differ h

no_limit : (ks : List Lexeme) (n : ℕ) → IsClause Offset ks n → Lacks Limit ks
no_limit ks n h = clause_lacks Offset Limit ks n (λ e. limit_offset_differ (sym e)) integer_limit_differ h

-- the limit and the offset of tokens
record Has (ls : List Lexeme) (limit : Option ℕ) (offset : ℕ) : Type 0 where
  fits : Fits limits ls
  is_limit : limit ≡ number_behind Limit ls
  is_offset : offset ≡ or_zero (number_behind Offset ls)

tail_has : (ls : List Lexeme) (l : Option ℕ) (o : ℕ) → IsTail ls l o → Has ls l o
tail_has _ _ _ nothing = record { fits = inl ([], [], refl, inr refl, inr refl); is_limit = refl; is_offset = refl }
tail_has _ _ _ (limit ls m h) = record {
  fits = inl (numbers ls, [], sym (append-nil (numbers ls)), inl (clause_fits Limit ls m h), inr refl);
  is_limit = sym (clause_number Limit ls [] m h) ∙ ap (number_behind Limit) (append-nil ls);
  is_offset = sym (ap or_zero (number_none Offset ls (no_offset ls m h)));
}
tail_has _ _ _ (offset ks n h) = record {
  fits = inl ([], numbers ks, refl, inr refl, inl (clause_fits Offset ks n h));
  is_limit = sym (number_none Limit ks (no_limit ks n h));
  is_offset = sym (ap or_zero (clause_number Offset ks [] n h)) ∙ ap (λ ls. or_zero (number_behind Offset ls)) (append-nil ks);
}
tail_has _ _ _ (limit_offset ls ks m n h g) = record {
  fits = inl (together (maybe (sign Limit ▸ sign Integer)) (maybe (sign Offset ▸ sign Integer)) ls ks (inl (clause_fits Limit ls m h)) (inl (clause_fits Offset ks n g)));
  is_limit = sym (clause_number Limit ls ks m h);
  is_offset = sym (ap or_zero (number_past Offset ls ks (no_offset ls m h) ∙ (ap (number_behind Offset) (sym (append-nil ks)) ∙ clause_number Offset ks [] n g)));
}
tail_has _ _ _ (offset_limit ls ks m n h g) = record {
  fits = inr (regrouped (sign Offset) (sign Integer) (sign Limit ▸ sign Integer) ks ls (clause_fits Offset ks n g) (clause_fits Limit ls m h));
  is_limit = sym (number_past Limit ks ls (no_limit ks n g) ∙ (ap (number_behind Limit) (sym (append-nil ls)) ∙ clause_number Limit ls [] m h));
  is_offset = sym (ap or_zero (clause_number Offset ks ls n g));
}

-- Limits have a tail

record HasTail (ls : List Lexeme) : Type 0 where
  number : Option ℕ
  skipped : ℕ
  is : IsTail ls number skipped

of_two : (ls ks : List Lexeme) → Fits (maybe (sign Limit ▸ sign Integer)) ls → Fits (maybe (sign Offset ▸ sign Integer)) ks → HasTail (ls ++ ks)
of_two ls ks (inl h) (inl g) =
    let m = fits_clause Limit ls h in
    let n = fits_clause Offset ks g in
    record { number = Some m.0; skipped = n.0; is = limit_offset ls ks m.0 n.0 m.1 n.1 }
of_two ls ks (inl h) (inr g) =
    let m = fits_clause Limit ls h in
    record { number = Some m.0; skipped = 0; is = subst (λ os. IsTail os (Some m.0) 0) (sym (append-nil ls) ∙ ap (λ os. ls ++ os) (sym (no_numbers ks g))) (limit ls m.0 m.1) }
of_two ls ks (inr h) (inl g) =
    let n = fits_clause Offset ks g in
    record { number = None; skipped = n.0; is = subst (λ os. IsTail os None n.0) (ap (λ os. os ++ ks) (sym (no_numbers ls h))) (offset ks n.0 n.1) }
of_two ls ks (inr h) (inr g) =
    record { number = None; skipped = 0; is = subst (λ os. IsTail os None 0) (λ i. sym (no_numbers ls h) i ++ sym (no_numbers ks g) i) nothing }

of_turned : (ks ls : List Lexeme) → Fits (sign Offset ▸ sign Integer) ks → Fits (sign Limit ▸ sign Integer) ls → HasTail (ks ++ ls)
of_turned ks ls g h =
    let m = fits_clause Limit ls h in
    let n = fits_clause Offset ks g in
    record { number = Some m.0; skipped = n.0; is = offset_limit ls ks m.0 n.0 m.1 n.1 }

has_tail : (ls : List Lexeme) → Fits limits ls → HasTail ls
has_tail ls (inl h) =
    let p = parted (maybe (sign Limit ▸ sign Integer)) (maybe (sign Offset ▸ sign Integer)) ls h in
    subst HasTail (sym p.are) (of_two p.first p.second p.fits_first p.fits_second)
has_tail ls (inr h) =
    let p = grouped (sign Offset) (sign Integer) (sign Limit ▸ sign Integer) ls h in
    subst HasTail (sym p.are) (of_turned p.first p.second p.fits_first p.fits_second)

found_tail : (ls : List Lexeme) (l : Option ℕ) (o : ℕ) → Has ls l o → IsTail ls l o
found_tail ls l o h =
    let t = has_tail ls h.fits in
    let same = tail_has ls t.number t.skipped t.is in
    subst (λ x. IsTail ls x o) (same.is_limit ∙ sym h.is_limit) (subst (λ x. IsTail ls t.number x) (same.is_offset ∙ sym h.is_offset) t.is)

pub tails_as_productions : TailsAsProductions
tails_as_productions = λ before tail l o no_limits no_offsets. (
  (λ h.
      let has = tail_has tail l o h in (
        has.fits,
        has.is_limit ∙ sym (number_past Limit before tail no_limits),
        has.is_offset ∙ sym (ap or_zero (number_past Offset before tail no_offsets)),
      )),
  (λ h. found_tail tail l o (record {
    fits = h.0;
    is_limit = h.1 ∙ number_past Limit before tail no_limits;
    is_offset = h.2 ∙ ap or_zero (number_past Offset before tail no_offsets);
  })),
)
