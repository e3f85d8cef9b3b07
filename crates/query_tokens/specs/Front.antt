-- From the front: the longest text of a form that begins a text.
use Rattle.std.specs.Prelude.{ℕ, ◌+◌, Bool, true, false, ◌&&◌, ◌||◌, List, [], ◌∷◌, Option, Some, None, ◌==◌, cond}
use Rattle.ntriples_model.specs.Characters.{in_ranges}
use Rattle.query_tokens.specs.Forms.{Form, nothing, one, other, ◌▸◌, ◌∣◌, many}
use Rattle.query_tokens.specs.Tokens.{Kind, form_of, kinds, gap}

-- no text has this form
abbrev pub never : Form
never = one []

-- the empty text has the form
abbrev pub is_optional : Form → Bool
is_optional nothing = true
is_optional (one ranges) = false
is_optional (other ranges) = false
is_optional (f ▸ g) = is_optional f && is_optional g
is_optional (f ∣ g) = is_optional f || is_optional g
is_optional (many f) = true

abbrev pub same_ranges : List (ℕ × ℕ) → List (ℕ × ℕ) → Bool
same_ranges [] [] = true
same_ranges (r ∷ rs) (s ∷ ss) = (r.0 == s.0) && ((r.1 == s.1) && same_ranges rs ss)
same_ranges _ _ = false

abbrev pub same_form : Form → Form → Bool
same_form nothing nothing = true
same_form (one r) (one s) = same_ranges r s
same_form (other r) (other s) = same_ranges r s
same_form (f ▸ g) (h ▸ k) = same_form f h && same_form g k
same_form (f ∣ g) (h ∣ k) = same_form f h && same_form g k
same_form (many f) (many g) = same_form f g
same_form _ _ = false

-- A B | A C, written A (B | C), and so on
abbrev pub shared : Form → Form → Form
shared (a ▸ b) (c ▸ d) = elim (same_form a c) [ true ↦ a ▸ shared b d | false ↦ (a ▸ b) ∣ (c ▸ d) ]
shared (a ▸ b) g = elim (same_form a g) [ true ↦ a ▸ (b ∣ nothing) | false ↦ (a ▸ b) ∣ g ]
shared f g = f ∣ g

-- A | B, in short
abbrev pub either : Form → Form → Form
either f g = elim (same_form f never) [
  | true ↦ g
  | false ↦ elim (same_form g never) [ true ↦ f | false ↦ elim (same_form f g) [ true ↦ f | false ↦ shared f g ] ]
]

-- A B, in short, and (A | B) C as A C | B C
abbrev pub joined : Form → Form → Form
joined nothing g = g
joined (one []) g = one []
joined (one (r ∷ rs)) g = one (r ∷ rs) ▸ g
joined (other rs) g = other rs ▸ g
joined (a ▸ b) g = a ▸ joined b g
joined (a ∣ b) g = either (joined a g) (joined b g)
joined (many a) g = many a ▸ g

-- what has to follow the character
abbrev pub behind : ℕ → Form → Form
behind c nothing = never
behind c (one ranges) = elim (in_ranges ranges c) [ true ↦ nothing | false ↦ never ]
behind c (other ranges) = elim (in_ranges ranges c) [ true ↦ never | false ↦ nothing ]
behind c (f ▸ g) = elim (is_optional f) [ true ↦ either (joined (behind c f) g) (behind c g) | false ↦ joined (behind c f) g ]
behind c (f ∣ g) = either (behind c f) (behind c g)
behind c (many f) = joined (behind c f) (many f)

-- Forms that have to follow, each with what a text of it is

abbrev pub kept : {K : Type 0} → K → Form → List (K × Form) → List (K × Form)
kept {K} kind f es = elim (same_form f never) [ true ↦ es | false ↦ (let e : K × Form = (kind, f) in e) ∷ es ]

-- what has to follow the character
abbrev pub all_behind : {K : Type 0} → ℕ → List (K × Form) → List (K × Form)
all_behind c [] = []
all_behind c (e ∷ es) = kept e.0 (behind c e.1) (all_behind c es)

-- what the empty text is, by the first form that it has
abbrev pub ended : {K : Type 0} → List (K × Form) → Option K
ended [] = None
ended (e ∷ es) = cond (is_optional e.1) (Some e.0) (ended es)

abbrev pub at_once : {K : Type 0} → Option K → Option (K × ℕ)
at_once None = None
at_once (Some kind) = Some (kind, 0)

abbrev pub one_longer : {K : Type 0} → Option (K × ℕ) → Option (K × ℕ) → Option (K × ℕ)
one_longer None here = here
one_longer (Some found) here = Some (found.0, found.1 + 1)

-- the longest text of one of the forms that begins the text: what it is, and its length
abbrev pub longest : {K : Type 0} → List (K × Form) → List ℕ → Option (K × ℕ)
longest es [] = at_once (ended es)
longest es (c ∷ cs) = one_longer (longest (all_behind c es) cs) (at_once (ended es))

-- Tokens, and what stands between them

abbrev pub forms_of : List Kind → List (Kind × Form)
forms_of [] = []
forms_of (kind ∷ kinds) = (kind, form_of kind) ∷ forms_of kinds

-- the longest token that begins the text: its kind, and its length
unfoldable pub token_at : List ℕ → Option (Kind × ℕ)
token_at text = longest (forms_of kinds) text

abbrev pub length_found : {K : Type 0} → Option (K × ℕ) → ℕ
length_found None = 0
length_found (Some found) = found.1

-- the length of the blanks and comments that begin the text
unfoldable pub gap_at : List ℕ → ℕ
gap_at text = length_found (longest {K = ℕ} ((0, gap) ∷ []) text)
