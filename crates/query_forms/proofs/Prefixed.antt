-- The IRIs that are found for prefixes and for names are those of the productions.
use Rattle.std.proofs.Common.{◌≡◌, ◌∙◌, ◌+◌, ℕ, Bool, true, false, cond, not, List, [], ◌∷◌, ◌++◌, length, take, drop, refl, sym, ap, subst, arith, append_assoc, Option, Some, None}
use Rattle.std.specs.Prelude.{◌==◌, map, slice_index, encode_utf8_all}
use Rattle.std.specs.Char.{to_ascii_lowercase}
use Rattle.std.specs.List.{AllByRecursion, position_or_len}
use Rattle.std.specs.Option.{option_map}
use Rattle.std.specs.Str.{bytes_eq}
use Rattle.std.proofs.lemmas.Bool.Decides.{nat_tests}
use Rattle.std.proofs.lemmas.Slice.Eq.{bytes_eq-Decides}
use Rattle.std.proofs.lemmas.Str.{encodes-append}
use Rattle.std.proofs.Math.Seq.{take-append_seam, drop-append_seam}
use Rattle.query_tokens.specs.Tokens as kind
use Rattle.query_tokens.specs.Tokens.{Kind, IsToken}
use Rattle.query_grammar.specs.Lexemes.{Lexeme, lexeme}
use Rattle.query_grammar.specs.Signs.{Sign, Prefix, Select, Distinct, Reduced, Where, Limit, Offset, True, False, TypeOf, OtherWord, Iri, PnameNs, PnameLn, OpenBrace, CloseBrace, Open, Close, Stop, Comma, Semicolon, Star, Carets, word_sign, mark_sign, sign_of}
use Rattle.query_grammar.specs.Texts.{iri_text, is_sign, or_before, declared_here, declared, prefix_length, name_iri_by, name_iri}
use Rattle.query_forms.specs.Laws.{Lacks, PrefixesAsProductions}
use Rattle.query_forms.specs.Prologues.{Declaration, declaration, IsPrologue, nothing, next, StandsFor, without_backslashes, MeansName, iri, prefix, local}
use Rattle.query_tokens.proofs.Apart.{one_colon}
use Rattle.query_forms.proofs.Meant.{mean_as_productions}

abbrev Found : Type 0
Found = Option (List ℕ)

-- the IRI that was last declared
last_of : List ℕ → List Declaration → Found
last_of name [] = None
last_of name (d ∷ ds) = or_before (last_of name ds) (cond (bytes_eq d.prefix name) (Some d.iri) None)

or_nothing : (o : Found) → or_before o None ≡ o
or_nothing None = refl
or_nothing (Some x) = refl

is_prefix : (s : Sign) → s ≡ Prefix → is_sign s Prefix ≡ true
is_prefix s e = ap (λ (t : Sign). is_sign t Prefix) e

not_prefix : (s : Sign) → (s ≡ Prefix → ⊥) → is_sign s Prefix ≡ false
not_prefix Prefix h = absurd (h refl)
not_prefix _ h = refl

-- a token that begins no declaration
passed_over : (name : List ℕ) (l : Lexeme) (ls : List Lexeme) → (sign_of l ≡ Prefix → ⊥) → declared name (l ∷ ls) ≡ declared name ls
passed_over name l ls h = ap (λ b. or_before (declared name ls) (cond b (declared_here name ls) None)) (not_prefix (sign_of l) h) ∙ or_nothing (declared name ls)

none_declared : (name : List ℕ) (ls : List Lexeme) → Lacks Prefix ls → declared name ls ≡ None
none_declared name [] h = refl
none_declared name (l ∷ ls) h = passed_over name l ls h.0 ∙ none_declared name ls h.1

prefix_not_name : PnameNs ≡ Prefix → ⊥
prefix_not_name e = let f : ⊥ = cc in f

prefix_not_iri : Iri ≡ Prefix → ⊥
prefix_not_iri e = let f : ⊥ = cc in f

declared_last : (name : List ℕ) (ls ks : List Lexeme) (ds : List Declaration) → IsPrologue ls ds → Lacks Prefix ks → declared name (ls ++ ks) ≡ last_of name ds
unfolding last_of
declared_last name _ ks _ nothing h = none_declared name ks h
declared_last name _ ks _ (next word p token i ls ds w n t means more) h =
    let rest = declared_last name ls ks ds more h in
    let here : declared name (p ∷ token ∷ (ls ++ ks)) ≡ last_of name ds =
    passed_over name p (token ∷ (ls ++ ks)) (λ e. prefix_not_name (sym n ∙ e)) ∙ (passed_over name token (ls ++ ks) (λ e. prefix_not_iri (sym t ∙ e)) ∙ rest) in
    ap (λ b. or_before (declared name (p ∷ token ∷ (ls ++ ks))) (cond b (cond (bytes_eq p.text name) (iri_text token.text) None) None)) (is_prefix (sign_of word) w)
    ∙ (ap (λ o. or_before o (cond (bytes_eq p.text name) (iri_text token.text) None)) here
    ∙ ap (λ o. or_before (last_of name ds) (cond (bytes_eq p.text name) o None)) ((mean_as_productions.iris token.text i).0 means))

-- The last declaration

abbrev Other : List ℕ → List Declaration → Type 0
Other name ds = AllByRecursion (λ (d : Declaration). d.prefix ≡ name → ⊥) ds

other_name : (a b : List ℕ) → (a ≡ b → ⊥) → bytes_eq a b ≡ false
other_name a b h = by (bytes_eq a b) refl where
  by : (t : Bool) → bytes_eq a b ≡ t → bytes_eq a b ≡ false
  by true e = absurd (h ((bytes_eq-Decides a b).0 e))
  by false e = e

none_last : (name : List ℕ) (ds : List Declaration) → Other name ds → last_of name ds ≡ None
unfolding last_of
none_last name [] h = refl
none_last name (d ∷ ds) h =
    ap (λ o. or_before o (cond (bytes_eq d.prefix name) (Some d.iri) None)) (none_last name ds h.1)
    ∙ ap (λ b. cond {A = Found} b (Some d.iri) None) (other_name d.prefix name h.0)

none_other : (name : List ℕ) (ds : List Declaration) → last_of name ds ≡ None → Other name ds
unfolding last_of
none_other name [] h = tt
none_other name (d ∷ ds) h = by (none_other name ds) (last_of name ds) refl h where
  here : (b : Bool) → bytes_eq d.prefix name ≡ b → cond {A = Found} b (Some d.iri) None ≡ None → d.prefix ≡ name → ⊥
  here true t e same = let f : ⊥ = cc in f
  here false t e same = let both : true ≡ false = sym ((bytes_eq-Decides d.prefix name).1 same) ∙ t in (let f : ⊥ = cc in f)

  by : (last_of name ds ≡ None → Other name ds) → (o : Found) → last_of name ds ≡ o → or_before o (cond (bytes_eq d.prefix name) (Some d.iri) None) ≡ None → Other name (d ∷ ds)
  by others None is e = (here (bytes_eq d.prefix name) refl e, others is)
  by others (Some x) is e = absurd (let f : ⊥ = cc in f)

last_stands : (name i : List ℕ) (ds : List Declaration) → last_of name ds ≡ Some i → StandsFor ds name i
unfolding last_of
last_stands name i [] h = absurd (let f : ⊥ = cc in f)
last_stands name i (d ∷ ds) h = by (last_stands name i ds) (last_of name ds) refl h where
  here : (b : Bool) → bytes_eq d.prefix name ≡ b → cond {A = Found} b (Some d.iri) None ≡ Some i → Other name ds → StandsFor (d ∷ ds) name i
  here false t e others = absurd (let f : ⊥ = cc in f)
  here true t e others =
      let same : d.prefix ≡ name = (bytes_eq-Decides d.prefix name).0 t in
      let iris : d.iri ≡ i = cc in
      record { before = []; behind = ds; are = (λ k. declaration (same k) (iris k) ∷ ds); last = others }

  by : (last_of name ds ≡ Some i → StandsFor ds name i) → (o : Found) → last_of name ds ≡ o → or_before o (cond (bytes_eq d.prefix name) (Some d.iri) None) ≡ Some i → StandsFor (d ∷ ds) name i
  by later None is e = here (bytes_eq d.prefix name) refl e (none_other name ds is)
  by later (Some x) is e =
      let more = later (is ∙ e) in
      record { before = d ∷ more.before; behind = more.behind; are = ap (λ (k : List Declaration). d ∷ k) more.are; last = more.last }

last_past : (name i : List ℕ) (before ds : List Declaration) → last_of name ds ≡ Some i → last_of name (before ++ ds) ≡ Some i
unfolding last_of
last_past name i [] ds h = h
last_past name i (d ∷ before) ds h = ap (λ o. or_before o (cond (bytes_eq d.prefix name) (Some d.iri) None)) (last_past name i before ds h)

stands_last : (name i : List ℕ) (ds : List Declaration) → StandsFor ds name i → last_of name ds ≡ Some i
unfolding last_of
stands_last name i ds h =
    ap (last_of name) h.are ∙ last_past name i h.before (declaration name i ∷ h.behind)
    (ap (λ o. or_before o (cond (bytes_eq name name) (Some i) None)) (none_last name h.behind h.last)
    ∙ ap (λ b. cond {A = Found} b (Some i) None) ((bytes_eq-Decides name name).1 refl))

-- The first colon

is_colon : (c : ℕ) → (c == 58) ≡ true → c ≡ 58
is_colon c e = grind (arith, nat_tests)

no_colon : (c : ℕ) → (c ≡ 58 → ⊥) → (c == 58) ≡ false
no_colon c h = grind (arith, nat_tests)

abbrev Colonless : List ℕ → Type 0
Colonless text = AllByRecursion (λ c. c ≡ 58 → ⊥) text

record Colon (text : List ℕ) : Type 0 where
  front : List ℕ
  local : List ℕ
  are : text ≡ front ++ 58 ∷ local
  first : Colonless front

colon_place : (front rest : List ℕ) → Colonless front → prefix_length (front ++ 58 ∷ rest) ≡ length (front ++ 58 ∷ [])
colon_place [] rest h = refl
colon_place (c ∷ front) rest h =
    let more = colon_place front rest h.1 in
    ap (λ b. cond (not b) (1 + position_or_len (λ b. b == 58) (front ++ 58 ∷ rest)) 0 + 1) (no_colon c h.0) ∙ omega (arith, more)

not_colon : (c : ℕ) → (c == 58) ≡ false → c ≡ 58 → ⊥
not_colon c t e = grind (arith, nat_tests)

colon_from : (front rest : List ℕ) → Colon (front ++ 58 ∷ rest)
colon_from [] rest = record { front = []; local = rest; are = refl; first = tt }
colon_from (c ∷ front) rest = by (c == 58) refl (colon_from front rest) where
  by : (b : Bool) → (c == 58) ≡ b → Colon (front ++ 58 ∷ rest) → Colon (c ∷ (front ++ 58 ∷ rest))
  by true t more = record { front = []; local = front ++ 58 ∷ rest; are = ap (λ x. x ∷ (front ++ 58 ∷ rest)) (is_colon c t); first = tt }
  by false t more = record { front = c ∷ more.front; local = more.local; are = ap (λ k. c ∷ k) more.are; first = (not_colon c t, more.first) }

-- a text with a colon
abbrev pub HasColon : List ℕ → Type 0
HasColon text = (front : List ℕ) × (rest : List ℕ) × (text ≡ front ++ 58 ∷ rest)

first_colon : (text : List ℕ) → HasColon text → Colon text
first_colon text h = subst Colon (sym h.2) (colon_from h.0 h.1)

-- Names

module _ (all : List Lexeme) where
  by_prefix : (front rest : List ℕ) → Colonless front
      → name_iri_by PnameLn all (front ++ 58 ∷ rest) ≡ option_map (λ i. i ++ without_backslashes rest) (declared (front ++ 58 ∷ []) all)
  by_prefix front rest h =
      let text : front ++ 58 ∷ rest ≡ (front ++ 58 ∷ []) ++ rest = sym (append_assoc front (58 ∷ []) rest) in
      let size : prefix_length (front ++ 58 ∷ rest) ≡ length (front ++ 58 ∷ []) = colon_place front rest h in
      let first : take (prefix_length (front ++ 58 ∷ rest)) (front ++ 58 ∷ rest) ≡ front ++ 58 ∷ [] =
      (λ i. take (size i) (text i)) ∙ take-append_seam (front ++ 58 ∷ []) rest in
      let second : drop (prefix_length (front ++ 58 ∷ rest)) (front ++ 58 ∷ rest) ≡ rest =
      (λ i. drop (size i) (text i)) ∙ drop-append_seam (front ++ 58 ∷ []) rest in
      (λ k. option_map (λ i. i ++ without_backslashes (second k)) (declared (first k) all))

joined_is : (o : Found) (more i : List ℕ) → option_map (λ x. x ++ more) o ≡ Some i → (x : List ℕ) × (o ≡ Some x) × (i ≡ x ++ more)
joined_is None more i e = absurd (let f : ⊥ = cc in f)
joined_is (Some x) more i e = (x, refl, (let same : i ≡ x ++ more = cc in same))

module _ (ls ks : List Lexeme) (ds : List Declaration) (prologue : IsPrologue ls ds) (lacks : Lacks Prefix ks) where
  stands_as_found : (name i : List ℕ) → (StandsFor ds name i → declared name (ls ++ ks) ≡ Some i) × (declared name (ls ++ ks) ≡ Some i → StandsFor ds name i)
  stands_as_found name i =
      let same = declared_last name ls ks ds prologue lacks in
      ((λ h. same ∙ stands_last name i ds h), (λ e. last_stands name i ds (sym same ∙ e)))

  pub name_found : (l : Lexeme) (i : List ℕ) → MeansName ds l i → name_iri (ls ++ ks) l ≡ Some i
  name_found _ _ (iri l i s means) = ap (λ (t : Sign). name_iri_by t (ls ++ ks) l.text) s ∙ (mean_as_productions.iris l.text i).0 means
  name_found _ _ (prefix l i s h) = ap (λ (t : Sign). name_iri_by t (ls ++ ks) l.text) s ∙ (stands_as_found l.text i).0 h
  name_found _ _ (local l front rest i s text colonless h) =
      ap (λ (t : Sign). name_iri_by t (ls ++ ks) l.text) s
      ∙ (ap (name_iri_by PnameLn (ls ++ ks)) text
      ∙ (by_prefix (ls ++ ks) front rest colonless
      ∙ ap (option_map (λ x. x ++ without_backslashes rest)) ((stands_as_found (front ++ 58 ∷ []) i).0 h)))

  by_local : (l : Lexeme) (i : List ℕ) → sign_of l ≡ PnameLn → Colon l.text → name_iri_by PnameLn (ls ++ ks) l.text ≡ Some i → MeansName ds l i
  by_local l i s c e =
      let o = joined_is (declared (c.front ++ 58 ∷ []) (ls ++ ks)) (without_backslashes c.local) i
      (sym (by_prefix (ls ++ ks) c.front c.local c.first) ∙ (ap (name_iri_by PnameLn (ls ++ ks)) (sym c.are) ∙ e)) in
      subst (MeansName ds l) (sym o.2) (local l c.front c.local o.0 s c.are c.first ((stands_as_found (c.front ++ 58 ∷ []) o.0).1 o.1))

  pub found_name : (l : Lexeme) (i : List ℕ) → (sign_of l ≡ PnameLn → HasColon l.text) → name_iri (ls ++ ks) l ≡ Some i → MeansName ds l i
  found_name l i colon e = by (sign_of l) refl e where
    by : (s : Sign) → sign_of l ≡ s → name_iri_by s (ls ++ ks) l.text ≡ Some i → MeansName ds l i
    by Iri s e = iri l i s ((mean_as_productions.iris l.text i).1 e)
    by PnameNs s e = prefix l i s ((stands_as_found l.text i).1 e)
    by PnameLn s e = by_local l i s (first_colon l.text (colon s)) e
    by _ s e = absurd (let f : ⊥ = cc in f)

-- The colon of a token

is_word : Sign → Bool
is_word Iri = false
is_word PnameNs = false
is_word PnameLn = false
is_word _ = true

-- a word, or a mark
record IsWord (s : Sign) : Type 0 where
  is : is_word s ≡ true

one_of : (b : Bool) (s t : Sign) → IsWord s → IsWord t → IsWord (cond b s t)
one_of true s t h g = h
one_of false s t h g = g

word : (s : Sign) → is_word s ≡ true → IsWord s
word s e = record { is = e }

a_word : (text lower : List ℕ) → IsWord (word_sign text lower)
unfolding is_word
a_word text lower =
    one_of _ _ _ (word Prefix refl) (one_of _ _ _ (word Select refl) (one_of _ _ _ (word Distinct refl) (one_of _ _ _ (word Reduced refl) (one_of _ _ _ (word Where refl)
    (one_of _ _ _ (word Limit refl) (one_of _ _ _ (word Offset refl) (one_of _ _ _ (word True refl) (one_of _ _ _ (word False refl) (one_of _ _ _ (word TypeOf refl) (word OtherWord refl))))))))))

a_mark : (c : ℕ) → IsWord (mark_sign c)
unfolding is_word
a_mark c =
    one_of _ _ _ (word OpenBrace refl) (one_of _ _ _ (word CloseBrace refl) (one_of _ _ _ (word Open refl) (one_of _ _ _ (word Close refl) (one_of _ _ _ (word Stop refl)
    (one_of _ _ _ (word Comma refl) (one_of _ _ _ (word Semicolon refl) (one_of _ _ _ (word Star refl) (word Carets refl))))))))

not_word : (s : Sign) → IsWord s → s ≡ PnameLn → ⊥
unfolding is_word
not_word s h e = let f : false ≡ true = sym (ap is_word e) ∙ h.is in (let g : ⊥ = cc in g)

colon_within : (token : List ℕ) → IsToken kind.PnameLn token → HasColon (encode_utf8_all token)
unfolding lib.Utf8.encode
colon_within token (name, rest, e, (front, colon, f, hf, hc), hr) =
    let whole : token ≡ front ++ 58 ∷ rest = e ∙ ap (λ k. k ++ rest) (f ∙ ap (λ k. front ++ k) (one_colon colon hc)) ∙ append_assoc front (58 ∷ []) rest in
    (encode_utf8_all front, encode_utf8_all rest, ap encode_utf8_all whole ∙ encodes-append front (58 ∷ rest))

pub token_colon : (k : Kind) (token : List ℕ) → IsToken k token → sign_of (lexeme k token) ≡ PnameLn → HasColon (encode_utf8_all token)
unfolding sign_of
token_colon kind.PnameLn token h e = colon_within token h
token_colon kind.Word token h e = absurd (not_word _ (a_word (encode_utf8_all token) (map to_ascii_lowercase (encode_utf8_all token))) e)
token_colon kind.Mark token h e = absurd (not_word _ (a_mark (slice_index (encode_utf8_all token) 0)) e)
token_colon _ token h e = absurd (let f : ⊥ = cc in f)

pub prefixes_as_productions : PrefixesAsProductions
prefixes_as_productions = record {
  prefixes = λ ls ks ds prologue lacks name i. stands_as_found ls ks ds prologue lacks name i;
  names = λ ls ks ds prologue lacks k token is i. (
    name_found ls ks ds prologue lacks (lexeme k token) i,
    found_name ls ks ds prologue lacks (lexeme k token) i (token_colon k token is),
  );
}
