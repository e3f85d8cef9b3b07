-- The tokens that were read so far, and those that are to come.
use Rattle.std.proofs.Common.{◌≡◌, ◌∙◌, ℕ, zero, suc, ◌+◌, ◌-◌, ◌<◌, ◌≤◌, Bool, true, false, ◌&&◌, cond, List, [], ◌∷◌, ◌++◌, length, take, drop, refl, sym, ap, subst, append_assoc, arith, Option, Some, None, chars, IsUtf8}
use Rattle.std.specs.Prelude.{encode_utf8_all, slice_range, ◌==◌}
use Rattle.std.specs.Option.{option_map}
use Rattle.std.specs.Str.{all_scalars}
use Rattle.std.proofs.Math.Utf8.{scalar}
use Rattle.std.proofs.lemmas.Bool.Decides.{nat_tests}
use Rattle.std.proofs.lemmas.List.{length-drop, length-take, drop-drop}
use Rattle.std.proofs.lemmas.Str.{chars-encodes, encodes-chars, encodes-append, scalars-chars, length-le-encodes}
use Rattle.std.proofs.Math.Seq.{drop-append_seam}
use Rattle.query_tokens.specs.Forms.{Form}
use Rattle.query_tokens.specs.Front.{token_at, gap_at, longest, length_found, ended, all_behind, at_once, one_longer, forms_of}
use Rattle.query_tokens.specs.Tokens.{Kind, kinds}
use Rattle.query_grammar.specs.Lexemes.{Lexeme, lexeme, lexed, lexed_up_to, behind_gap, one_before}
use Rattle.query_lex.specs.Kinds.{kind_of}
use Rattle.query_lex.specs.Reading.{Reading, IsNext, IsAtEnd, IsAtFault, ahead, size}
use Rattle.query_lex.specs.declared.token.Token.{Token}

-- A token has a character at least, and no more than there are

at_most : (es : List (Kind × Form)) (cs : List ℕ) → length_found (longest es cs) ≤ length cs
at_most es [] = by (ended es)
  where
    by : (o : Option Kind) → length_found (at_once o) ≤ 0
    by None = omega arith
    by (Some k) = omega arith
at_most es (c ∷ cs) = by (longest (all_behind c es) cs) (at_most (all_behind c es) cs)
  where
    once : (o : Option Kind) → length_found (at_once o) ≤ length (c ∷ cs)
    once None = omega arith
    once (Some k) = omega arith

    by : (o : Option (Kind × ℕ)) → length_found o ≤ length cs → length_found (one_longer o (at_once (ended es))) ≤ length (c ∷ cs)
    by None h = once (ended es)
    by (Some p) h = omega (arith, h)

at_least : (es : List (Kind × Form)) (cs : List ℕ) (found : Kind × ℕ) → ended es ≡ None → longest es cs ≡ Some found → 1 ≤ found.1
at_least es [] found none e =
    let f : ◌≡◌ {A = Option (Kind × ℕ)} None (Some found) = ap at_once (sym none) ∙ e in absurd (cc)
at_least es (c ∷ cs) found none e = by (longest (all_behind c es) cs) e
  where
    by : (o : Option (Kind × ℕ)) → one_longer o (at_once (ended es)) ≡ Some found → 1 ≤ found.1
    by None e = let f : ◌≡◌ {A = Option (Kind × ℕ)} None (Some found) = ap at_once (sym none) ∙ e in absurd (cc)
    by (Some p) e = omega (arith, ap length_found e)

token_size : (cs : List ℕ) (found : Kind × ℕ) → token_at cs ≡ Some found → (1 ≤ found.1) × (found.1 ≤ length cs)
unfolding token_at
token_size cs found e =
    (at_least (forms_of kinds) cs found refl e, omega (arith, at_most (forms_of kinds) cs, ap length_found e))

-- The tokens one by one

equal_zero : (n : ℕ) → n ≡ 0 → (n == 0) ≡ true
equal_zero n e = grind (arith, nat_tests)

not_zero : (n : ℕ) → 0 < n → (n == 0) ≡ false
not_zero n e = grind (arith, nat_tests)

shorter : (cs : List ℕ) (n : ℕ) → 1 ≤ n → n ≤ length (behind_gap cs) → length (drop n (behind_gap cs)) + 1 ≤ length cs
shorter cs n h k = omega (arith, length-drop n (behind_gap cs), length-drop (gap_at cs) cs)

up_to_end : (n : ℕ) (cs : List ℕ) → length (behind_gap cs) ≡ 0 → lexed_up_to n cs ≡ Some []
up_to_end zero cs e = ap (λ (t : Bool). cond t (Some []) None) (equal_zero _ e)
up_to_end (suc n) cs e =
    ap (λ (t : Bool). cond t (Some []) (elim (token_at (behind_gap cs)) [
      | None ↦ None
      | Some found ↦ one_before (lexeme found.0 (take found.1 (behind_gap cs))) (lexed_up_to n (drop found.1 (behind_gap cs)))
    ])) (equal_zero _ e)

up_to_next : (n : ℕ) (cs : List ℕ) (found : Kind × ℕ) → token_at (behind_gap cs) ≡ Some found
    → lexed_up_to (suc n) cs ≡ one_before (lexeme found.0 (take found.1 (behind_gap cs))) (lexed_up_to n (drop found.1 (behind_gap cs)))
up_to_next n cs found e =
    let some : 0 < length (behind_gap cs) = (let s = token_size (behind_gap cs) found e in omega (arith, s.0, s.1)) in
    ap (λ (t : Bool). cond t (Some []) (elim (token_at (behind_gap cs)) [
      | None ↦ None
      | Some found ↦ one_before (lexeme found.0 (take found.1 (behind_gap cs))) (lexed_up_to n (drop found.1 (behind_gap cs)))
    ])) (not_zero _ some)
    ∙ ap (λ (o : Option (Kind × ℕ)). elim o as (λ _. Option (List Lexeme)) [
      | None ↦ None
      | Some found ↦ one_before (lexeme found.0 (take found.1 (behind_gap cs))) (lexed_up_to n (drop found.1 (behind_gap cs)))
    ]) e

up_to_fault : (n : ℕ) (cs : List ℕ) → 0 < length (behind_gap cs) → token_at (behind_gap cs) ≡ None → lexed_up_to n cs ≡ None
up_to_fault zero cs some e = ap (λ (t : Bool). cond t (Some []) None) (not_zero _ some)
up_to_fault (suc n) cs some e =
    ap (λ (t : Bool). cond t (Some []) (elim (token_at (behind_gap cs)) [
      | None ↦ None
      | Some found ↦ one_before (lexeme found.0 (take found.1 (behind_gap cs))) (lexed_up_to n (drop found.1 (behind_gap cs)))
    ])) (not_zero _ some)
    ∙ ap (λ (o : Option (Kind × ℕ)). elim o as (λ _. Option (List Lexeme)) [
      | None ↦ None
      | Some found ↦ one_before (lexeme found.0 (take found.1 (behind_gap cs))) (lexed_up_to n (drop found.1 (behind_gap cs)))
    ]) e

-- any bound that is large enough serves
enough : (n m : ℕ) (cs : List ℕ) → length cs ≤ n → length cs ≤ m → lexed_up_to n cs ≡ lexed_up_to m cs
enough zero m cs h k =
    let none : length (behind_gap cs) ≡ 0 = omega (arith, length-drop (gap_at cs) cs) in
    up_to_end zero cs none ∙ sym (up_to_end m cs none)
enough (suc n) zero cs h k =
    let none : length (behind_gap cs) ≡ 0 = omega (arith, length-drop (gap_at cs) cs) in
    up_to_end (suc n) cs none ∙ sym (up_to_end zero cs none)
enough (suc n) (suc m) cs h k =
    by (token_at (behind_gap cs)) refl (λ (found : Kind × ℕ) (e : token_at (behind_gap cs) ≡ Some found).
    let s = token_size (behind_gap cs) found e in
    let less = shorter cs found.1 s.0 s.1 in
    enough n m (drop found.1 (behind_gap cs)) (omega (arith, less)) (omega (arith, less)))
  where
    none_left : (d : ℕ) → d ≡ length (behind_gap cs) → token_at (behind_gap cs) ≡ None → lexed_up_to (suc n) cs ≡ lexed_up_to (suc m) cs
    none_left zero d e = up_to_end (suc n) cs (sym d) ∙ sym (up_to_end (suc m) cs (sym d))
    none_left (suc l) d e = up_to_fault (suc n) cs (omega arith) e ∙ sym (up_to_fault (suc m) cs (omega arith) e)

    by : (o : Option (Kind × ℕ)) → token_at (behind_gap cs) ≡ o
        → ((found : Kind × ℕ) → token_at (behind_gap cs) ≡ Some found → lexed_up_to n (drop found.1 (behind_gap cs)) ≡ lexed_up_to m (drop found.1 (behind_gap cs)))
        → lexed_up_to (suc n) cs ≡ lexed_up_to (suc m) cs
    by None e f = none_left (length (behind_gap cs)) refl e
    by (Some found) e f =
        up_to_next n cs found e ∙ ap (one_before (lexeme found.0 (take found.1 (behind_gap cs)))) (f found e) ∙ sym (up_to_next m cs found e)

lexed_end : (cs : List ℕ) → behind_gap cs ≡ [] → lexed cs ≡ Some []
unfolding lexed
lexed_end cs e = up_to_end (length cs) cs (ap length e)

lexed_fault : (cs : List ℕ) → 0 < length (behind_gap cs) → token_at (behind_gap cs) ≡ None → lexed cs ≡ None
unfolding lexed
lexed_fault cs some e = up_to_fault (length cs) cs some e

lexed_next : (cs : List ℕ) (found : Kind × ℕ) → token_at (behind_gap cs) ≡ Some found → lexed cs ≡ one_before (lexeme found.0 (take found.1 (behind_gap cs))) (lexed (drop found.1 (behind_gap cs)))
unfolding lexed
lexed_next cs found e =
    let s = token_size (behind_gap cs) found e in
    let less = shorter cs found.1 s.0 s.1 in
    enough (length cs) (suc (length cs)) cs (omega arith) (omega arith)
    ∙ up_to_next (length cs) cs found e
    ∙ ap (one_before (lexeme found.0 (take found.1 (behind_gap cs)))) (enough (length cs) (length (drop found.1 (behind_gap cs))) (drop found.1 (behind_gap cs)) (omega (arith, less)) (omega arith))

-- Characters behind the first n

take_drop : (n : ℕ) (cs : List ℕ) → take n cs ++ drop n cs ≡ cs
take_drop zero cs = refl
take_drop (suc n) [] = refl
take_drop (suc n) (c ∷ cs) = ap (λ (x : List ℕ). c ∷ x) (take_drop n cs)

scalars_drop : (n : ℕ) (cs : List ℕ) → all_scalars cs ≡ true → all_scalars (drop n cs) ≡ true
scalars_drop zero cs h = h
scalars_drop (suc n) [] h = h
scalars_drop (suc n) (c ∷ cs) h = scalars_drop n cs (both (scalar c) (all_scalars cs) h)
  where
    both : (t u : Bool) → (t && u) ≡ true → u ≡ true
    both true u e = e
    both false u e = absurd (let f : false ≡ true = e in cc)

record AreCharsBehind (bs : List ℕ) (n : ℕ) (rest : List ℕ) : Type 0 where
  characters : chars rest ≡ drop n (chars bs)
  utf8 : IsUtf8 rest

chars_behind : (bs : List ℕ) (n : ℕ) → IsUtf8 bs → AreCharsBehind bs n (drop (size n (chars bs)) bs)
chars_behind bs n u =
    let back : List ℕ = encode_utf8_all (drop n (chars bs)) in
    let front : List ℕ = encode_utf8_all (take n (chars bs)) in
    let whole : bs ≡ front ++ back = sym (encodes-chars bs u) ∙ ap encode_utf8_all (sym (take_drop n (chars bs))) ∙ encodes-append (take n (chars bs)) (drop n (chars bs)) in
    let rest : drop (length front) bs ≡ back = ap (drop (length front)) whole ∙ drop-append_seam front back in
    let fit = scalars_drop n (chars bs) (scalars-chars bs u) in
    record {
      characters = ap chars rest ∙ chars-encodes (drop n (chars bs)) fit;
      utf8 = subst IsUtf8 (sym rest) (drop n (chars bs), (fit, refl));
    }

-- So far

pub record IsLexedSoFar (text : List ℕ) (r : Reading) (found : List Lexeme) : Type 0 where
  pub same : r.text ≡ text
  pub within : r.place ≤ length text
  pub utf8 : IsUtf8 (drop r.place text)
  pub lexes : lexed (chars text) ≡ option_map (λ (ls : List Lexeme). found ++ ls) (lexed (chars (drop r.place text)))

none_before : (o : Option (List Lexeme)) → o ≡ option_map (λ (ls : List Lexeme). [] ++ ls) o
none_before None = refl
none_before (Some ls) = refl

pub lexed_begins : (text : List ℕ) (r : Reading) (found : List Lexeme) → IsUtf8 text → r ≡ record { text = text; place = 0 } → found ≡ [] → IsLexedSoFar text r found
lexed_begins text r found u is none =
    subst (λ (fs : List Lexeme). IsLexedSoFar text r fs) (sym none) (subst (λ (x : Reading). IsLexedSoFar text x []) (sym is)
    (record { same = refl; within = omega arith; utf8 = u; lexes = none_before _ }))

front_more : (found : List Lexeme) (l : Lexeme) (o : Option (List Lexeme)) → option_map (λ (ls : List Lexeme). found ++ ls) (one_before l o) ≡ option_map (λ (ls : List Lexeme). (found ++ l ∷ []) ++ ls) o
front_more found l None = refl
front_more found l (Some ls) = ap (λ (x : List Lexeme). Some x) (sym (append_assoc found (l ∷ []) ls))

-- a token's place, and what stands behind it
record IsPassed (text : List ℕ) (old : Reading) (token : Token) (count : ℕ) : Type 0 where
  further : old.place < token.to
  within : token.to ≤ length text
  utf8 : IsUtf8 (drop token.to text)
  behind : chars (drop token.to text) ≡ drop count (behind_gap (chars (drop old.place text)))

passed_here : (text : List ℕ) (old : Reading) (token : Token) (new : Reading) → old.text ≡ text → IsUtf8 (drop old.place text) → (n : IsNext old token new) → IsPassed text old token n.count
passed_here text old token new same u n =
    let cs : List ℕ = chars (drop old.place text) in
    let ahead_is : ahead old ≡ cs = ap (λ (t : List ℕ). chars (drop old.place t)) same in
    let gap = chars_behind (drop old.place text) (gap_at cs) u in
    let word = chars_behind (drop (size (gap_at cs) cs) (drop old.place text)) n.count gap.utf8 in
    let from : token.from ≡ old.place + size (gap_at cs) cs = n.from ∙ ap (λ (x : List ℕ). old.place + size (gap_at x) x) ahead_is in
    let to : token.to ≡ token.from + size n.count (behind_gap cs) = n.to ∙ ap (λ (x : List ℕ). token.from + size n.count (behind_gap x)) ahead_is in
    let first : drop (size (gap_at cs) cs) (drop old.place text) ≡ drop token.from text =
    drop-drop (size (gap_at cs) cs) old.place text ∙ ap (λ (k : ℕ). drop k text) (sym from) in
    let step : size n.count (chars (drop (size (gap_at cs) cs) (drop old.place text))) ≡ size n.count (behind_gap cs) = ap (size n.count) gap.characters in
    let second : drop (size n.count (chars (drop (size (gap_at cs) cs) (drop old.place text)))) (drop (size (gap_at cs) cs) (drop old.place text)) ≡ drop token.to text =
    ap (λ (k : ℕ). drop k (drop (size (gap_at cs) cs) (drop old.place text))) step ∙ ap (drop (size n.count (behind_gap cs))) first
    ∙ drop-drop (size n.count (behind_gap cs)) token.from text ∙ ap (λ (k : ℕ). drop k text) (sym to) in
    let s = token_size (behind_gap cs) (kind_of token.kind, n.count) (ap (λ (x : List ℕ). token_at (behind_gap x)) (sym ahead_is) ∙ n.longest) in
    record {
      further = omega (arith, from, to, s.0, s.1, length-le-encodes (take n.count (behind_gap cs)), length-take n.count (behind_gap cs));
      within = subst (λ (t : List ℕ). token.to ≤ length t) same n.ends.0;
      utf8 = subst IsUtf8 second word.utf8;
      behind = sym (ap chars second) ∙ word.characters ∙ ap (drop n.count) gap.characters;
    }

pub lexed_goes_on : (text : List ℕ) (old : Reading) (token : Token) (new : Reading) (found more : List Lexeme) (l : Lexeme) → IsLexedSoFar text old found → IsNext old token new
    → l ≡ record { kind = kind_of token.kind; text = slice_range text token.from token.to } → more ≡ found ++ l ∷ [] → IsLexedSoFar text new more
lexed_goes_on text old token new found more l s n own add =
    let cs : List ℕ = chars (drop old.place text) in
    let ahead_is : ahead old ≡ cs = ap (λ (t : List ℕ). chars (drop old.place t)) s.same in
    let p = passed_here text old token new s.same s.utf8 n in
    let bytes : slice_range text token.from token.to ≡ encode_utf8_all (take n.count (behind_gap cs)) =
    ap (λ (t : List ℕ). slice_range t token.from token.to) (sym s.same) ∙ n.bytes ∙ ap (λ (x : List ℕ). encode_utf8_all (take n.count (behind_gap x))) ahead_is in
    let is : lexeme (kind_of token.kind) (take n.count (behind_gap cs)) ≡ l = ap (λ (b : List ℕ). record { kind = kind_of token.kind; text = b }) (sym bytes) ∙ sym own in
    let next = lexed_next cs (kind_of token.kind, n.count) (ap (λ (x : List ℕ). token_at (behind_gap x)) (sym ahead_is) ∙ n.longest) in
    subst (λ (x : Reading). IsLexedSoFar text x more) (sym n.read)
    (record {
      same = s.same;
      within = p.within;
      utf8 = p.utf8;
      lexes = s.lexes ∙ ap (option_map (λ (ls : List Lexeme). found ++ ls)) (next ∙ ap (λ (k : Lexeme). one_before k (lexed (drop n.count (behind_gap cs)))) is)
          ∙ front_more found l (lexed (drop n.count (behind_gap cs)))
          ∙ ap (λ (x : List ℕ). option_map (λ (ls : List Lexeme). (found ++ l ∷ []) ++ ls) (lexed x)) (sym p.behind)
          ∙ ap (λ (fs : List Lexeme). option_map (λ (ls : List Lexeme). fs ++ ls) (lexed (chars (drop token.to text)))) (sym add);
    })

pub goes_further : (text : List ℕ) (old : Reading) (token : Token) (new : Reading) (found : List Lexeme) → IsLexedSoFar text old found → IsNext old token new → length text - new.place < length text - old.place
goes_further text old token new found s n =
    let p = passed_here text old token new s.same s.utf8 n in
    omega (arith, p.further, p.within, ap (λ (r : Reading). r.place) n.read)

append_nil : (xs : List Lexeme) → xs ++ [] ≡ xs
append_nil [] = refl
append_nil (x ∷ xs) = ap (λ (ys : List Lexeme). x ∷ ys) (append_nil xs)

pub lexed_ends : (text : List ℕ) (old : Reading) (found : List Lexeme) → IsLexedSoFar text old found → IsAtEnd old → Some found ≡ lexed (chars text)
lexed_ends text old found s e =
    let ahead_is : ahead old ≡ chars (drop old.place text) = ap (λ (t : List ℕ). chars (drop old.place t)) s.same in
    sym (s.lexes ∙ ap (option_map (λ (ls : List Lexeme). found ++ ls)) (lexed_end (chars (drop old.place text)) (ap behind_gap (sym ahead_is) ∙ e)) ∙ ap (λ (x : List Lexeme). Some x) (append_nil found))

pub lexed_fails : (text : List ℕ) (old : Reading) (found : List Lexeme) → IsLexedSoFar text old found → IsAtFault old → None ≡ lexed (chars text)
lexed_fails text old found s e =
    let ahead_is : ahead old ≡ chars (drop old.place text) = ap (λ (t : List ℕ). chars (drop old.place t)) s.same in
    sym (s.lexes ∙ ap (option_map (λ (ls : List Lexeme). found ++ ls)) (lexed_fault (chars (drop old.place text)) (subst (λ (x : List ℕ). 0 < length (behind_gap x)) ahead_is e.0) (ap (λ (x : List ℕ). token_at (behind_gap x)) (sym ahead_is) ∙ e.1)))
