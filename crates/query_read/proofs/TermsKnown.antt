-- Whether a term stands at a place.
use Rattle.std.proofs.Common.{◌≡◌, ◌∙◌, ℕ, ◌+◌, ◌<◌, ◌≤◌, Bool, true, false, ◌&&◌, ◌⊎◌, inl, inr, List, [], ◌∷◌, ◌++◌, length, refl, sym, ap, arith, zero, suc, Option, Some, None}
use Rattle.std.specs.Prelude.{is_some, slice_index_or}
use Rattle.std.specs.List.{list_all}
use Rattle.std.specs.Option.{option_map}
use Rattle.std.proofs.lemmas.Bool.{cases_lt}
use Rattle.std.proofs.lemmas.List.{get_or_past, length-append}
use Rattle.rdf_model.specs.Terms as rdf
use Rattle.query_grammar.specs.Lexemes.{Lexeme}
use Rattle.query_grammar.specs.Meaning.{Name, LabelAt, Const, at, no_lexeme, is_sign, kind_by, label_or_term, literal, name_of, number_among, place_at, term_at, term_by}
use Rattle.query_grammar.specs.Signs.{Sign, Carets, Iri, Text, LangTag, sign_of}
use Rattle.query_grammar.specs.Texts.{is_sound, is_sound_by, name_iri, name_iri_by, string_text}
use Rattle.query_read.specs.Reads.{Knows}
use Rattle.query_read.specs.Seen.{name_seen, name_seen_in}
use Rattle.query_read.specs.declared.name.Name.{Name as CodeName}
use Rattle.query_read.proofs.PlacesFound.{at_past, term_past}

is_some_map : {A B : Type 0} (f : A → B) (o : Option A) → is_some (option_map f o) ≡ is_some o
is_some_map f None = refl
is_some_map f (Some x) = refl

both_left : (t u : Bool) → (t && u) ≡ true → t ≡ true
both_left true u e = refl
both_left false u e = e

both_right : (t u : Bool) → (t && u) ≡ true → u ≡ true
both_right true u e = e
both_right false u e = absurd (let f : false ≡ true = e in cc)

nothing_sound : is_sound no_lexeme ≡ true
unfolding sign_of
nothing_sound = refl

sound_at : (all : List Lexeme) (i : ℕ) → list_all is_sound all ≡ true → is_sound (at all i) ≡ true
sound_at [] i e = nothing_sound
sound_at (l ∷ all) zero e = both_left (is_sound l) (list_all is_sound all) e
sound_at (l ∷ all) (suc i) e = sound_at all i (both_right (is_sound l) (list_all is_sound all) e)

sound_by : (all : List Lexeme) (i : ℕ) (s : Sign) → list_all is_sound all ≡ true → s ≡ sign_of (at all i) → is_sound_by s (at all i).text ≡ true
sound_by all i s e is = ap (λ (x : Sign). is_sound_by x (at all i).text) is ∙ sound_at all i e

pub iri_there : (all : List Lexeme) (i : ℕ) → list_all is_sound all ≡ true → Iri ≡ sign_of (at all i) → true ≡ is_some (name_iri all (at all i))
iri_there all i e is = sym (sound_by all i Iri e is) ∙ ap (λ (s : Sign). is_some (name_iri_by s all (at all i).text)) is

kind_plain : (all : List Lexeme) (i : ℕ) (s : Sign) → is_sign s Carets ≡ false → is_some (kind_by s all i) ≡ true
kind_plain all i Carets e = absurd (let f : true ≡ false = e in cc)
kind_plain all i LangTag e = refl
kind_plain all i _ e = refl

kind_typed : (all : List Lexeme) (i : ℕ) (s : Sign) → is_sign s Carets ≡ true → is_some (kind_by s all i) ≡ is_some (name_iri all (at all (i + 2)))
kind_typed all i Carets e = is_some_map rdf.Typed (name_iri all (at all (i + 2)))
kind_typed all i _ e = absurd (let f : false ≡ true = e in cc)

literal_known : (form : Option (List ℕ)) (kind : Option rdf.Kind) → is_some form ≡ true → is_some (literal form kind) ≡ is_some kind
literal_known None kind e = absurd (let f : false ≡ true = e in cc)
literal_known (Some form) None e = refl
literal_known (Some form) (Some kind) e = refl

text_known : (all : List Lexeme) (i : ℕ) → list_all is_sound all ≡ true → Text ≡ sign_of (at all i) → is_some (term_at all i) ≡ is_some (kind_by (sign_of (at all (i + 1))) all i)
text_known all i e is =
    ap (λ (s : Sign). is_some (term_by s all i)) (sym is) ∙ literal_known (string_text (at all i).text) (kind_by (sign_of (at all (i + 1))) all i) (sound_by all i Text e is)

pub text_plain : (all : List Lexeme) (i : ℕ) (s : Sign) → list_all is_sound all ≡ true → Text ≡ sign_of (at all i) → s ≡ sign_of (at all (i + 1)) → is_sign s Carets ≡ false → true ≡ is_some (term_at all i)
text_plain all i s e is next h = sym (text_known all i e is ∙ ap (λ (x : Sign). is_some (kind_by x all i)) (sym next) ∙ kind_plain all i s h)

pub text_typed : (all : List Lexeme) (i : ℕ) (s : Sign) → list_all is_sound all ≡ true → Text ≡ sign_of (at all i) → s ≡ sign_of (at all (i + 1)) → is_sign s Carets ≡ true
    → is_some (name_iri all (at all (i + 2))) ≡ is_some (term_at all i)
text_typed all i s e is next h = sym (text_known all i e is ∙ ap (λ (x : Sign). is_some (kind_by x all i)) (sym next) ∙ kind_typed all i s h)

-- One test for each token

pub record AreKnown (known : List Bool) (all : List Lexeme) (i : ℕ) : Type 0 where
  pub count : length known ≡ i
  pub each : (k : ℕ) → k < i → slice_index_or known k false ≡ is_some (term_at all k)

get_front : (known : List Bool) (b : Bool) (k : ℕ) → k < length known → slice_index_or (known ++ b ∷ []) k false ≡ slice_index_or known k false
get_front [] b k h = absurd (omega arith)
get_front (c ∷ known) b zero h = refl
get_front (c ∷ known) b (suc k) h = get_front known b k (omega arith)

get_last : (known : List Bool) (b : Bool) (k : ℕ) → k ≡ length known → slice_index_or (known ++ b ∷ []) k false ≡ b
get_last [] b k h = ap (λ (n : ℕ). slice_index_or (b ∷ []) n false) h
get_last (c ∷ known) b zero h = absurd (omega arith)
get_last (c ∷ known) b (suc k) h = get_last known b k (omega arith)

pub known_begins : (known : List Bool) (all : List Lexeme) → known ≡ [] → AreKnown known all 0
known_begins known all e = record { count = ap length e; each = λ k h. absurd (omega arith) }

pub known_more : (known more : List Bool) (all : List Lexeme) (i : ℕ) (b : Bool) → AreKnown known all i → more ≡ known ++ b ∷ [] → b ≡ is_some (term_at all i) → AreKnown more all (i + 1)
known_more known more all i b a e is = record {
  count = omega (arith, ap length e, length-append known (b ∷ []), a.count);
  each = λ k h. by k h (cases_lt k i);
}
  where
    by : (k : ℕ) → k < i + 1 → (k < i) ⊎ (i ≤ k) → slice_index_or more k false ≡ is_some (term_at all k)
    by k h (inl less) = ap (λ (xs : List Bool). slice_index_or xs k false) e ∙ get_front known b k (omega (arith, a.count)) ∙ a.each k less
    by k h (inr last) =
        let same : k ≡ i = omega arith in
        ap (λ (xs : List Bool). slice_index_or xs k false) e ∙ get_last known b k (omega (arith, a.count)) ∙ is ∙ ap (λ (n : ℕ). is_some (term_at all n)) (sym same)

pub known_whole : (known : List Bool) (all : List Lexeme) (i : ℕ) → AreKnown known all i → i ≡ length all → Knows known all
known_whole known all i a e = record { count = a.count ∙ e; each = λ k. by k (cases_lt k i) }
  where
    by : (k : ℕ) → (k < i) ⊎ (i ≤ k) → slice_index_or known k false ≡ is_some (term_at all k)
    by k (inl less) = a.each k less
    by k (inr past) = get_or_past known k false (omega (arith, a.count)) ∙ ap is_some (term_past all k (omega (arith, e)))

-- What stands at a place

no_name : (i : ℕ) → name_of no_lexeme i ≡ None
unfolding sign_of
no_name i = refl

pub place_past : (all : List Lexeme) (names : List Name) (i : ℕ) → length all ≤ i → None ≡ place_at all names i
place_past all names i h =
    sym (ap (λ (o : Option Name). label_or_term names o (term_at all i)) (ap (λ (l : Lexeme). name_of l i) (at_past all i h) ∙ no_name i)
    ∙ ap (λ (o : Option rdf.Term). option_map Const o) (sym (term_past all i h)))

pub place_label : (all : List Lexeme) (names : List Name) (l : Lexeme) (i n : ℕ) (o : Option CodeName) (name : CodeName) → l ≡ at all i → name_seen_in o ≡ name_of l i → o ≡ Some name
    → n ≡ number_among names (name_seen name) → Some (LabelAt n) ≡ place_at all names i
place_label all names l i n o name e own is number =
    let named : name_of (at all i) i ≡ Some (name_seen name) = ap (λ (m : Lexeme). name_of m i) (sym e) ∙ sym own ∙ ap name_seen_in is in
    ap (λ (k : ℕ). Some (LabelAt k)) number ∙ sym (ap (λ (x : Option Name). label_or_term names x (term_at all i)) named)

pub place_const : (all : List Lexeme) (names : List Name) (l : Lexeme) (i : ℕ) (o : Option CodeName) (t : Option rdf.Term) → l ≡ at all i → name_seen_in o ≡ name_of l i → o ≡ None → t ≡ term_at all i
    → option_map Const t ≡ place_at all names i
place_const all names l i o t e own is term =
    let named : name_of (at all i) i ≡ None = ap (λ (m : Lexeme). name_of m i) (sym e) ∙ sym own ∙ ap name_seen_in is in
    ap (option_map Const) term ∙ sym (ap (λ (x : Option Name). label_or_term names x (term_at all i)) named)
