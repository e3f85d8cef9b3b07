-- The forms of lines, by productions and by the function.
use Rattle.std.proofs.Common.{◌≡◌, ◌≢◌, ◌∙◌, ℕ, ◌<◌, Bool, true, false, cond, List, [], ◌∷◌, ◌++◌, length, refl, sym, ap, subst, arith, append-nil}
use Rattle.std.specs.Prelude.{Option, Some, None, codes}
use Rattle.std.specs.Str.{bytes_eq}
use Rattle.std.specs.Cmp.Lexicographic.{bytes_decides}
use Rattle.text_lines.specs.Blanks.{after_blanks}
use Rattle.script_model.specs.Commands.{Change, Inserts, Deletes, Triples, Question, File, Generate, Dump, Stats, Shape, Form, Begins, Whole, most_generated, greatest_salt, word_of, behind_word, is_scope, is_name, number_up_to, file_form, scoped_form, load_form, of_numbers, generate_form, form_behind, form_of_text}
use Rattle.script_model.specs.Laws.{AreBlanks, IsScopeWord, IsName, IsNumberUpTo, IsFileWord, load, unload, IsForm, insert, delete, query, dump, stats, shape, file, scoped, generate, FormsAreProductions}
use Rattle.script_model.proofs.WordLaws.{Parted, parted, gap_of, NoBlanks, word-parted, behind-parted, begins-word, scope_made, scope_given, scope-no_blanks, name_made, name_given, number_given, number_made, number-no_blanks}

-- From the productions to the function

-- a word that isn't this one
other_word : (w v : List ℕ) → w ≢ v → bytes_eq w v ≡ false
other_word w v differ = by (bytes_eq w v) refl where
  by : (z : Bool) → bytes_eq w v ≡ z → bytes_eq w v ≡ false
  by false e = e
  by true e = absurd (differ ((bytes_decides w v).0 e))

file_given : (change : Change) (scope name : List ℕ) → IsName name → file_form change scope name ≡ Some (Whole (File change scope name))
file_given change scope name n = ap (λ z. cond z (Some (Whole (File change scope name))) None) (name_given name n)

name_behind : (change : Change) (name : List ℕ) → IsName name → word_of name ≢ codes "SCOPE" → load_form change name ≡ Some (Whole (File change [] name))
name_behind change name n other =
    ap (λ z. cond z (scoped_form change (behind_word name)) (file_form change [] name)) (other_word (word_of name) (codes "SCOPE") other) ∙ file_given change [] name n

scope_behind : (change : Change) (gap scope gap' name : List ℕ) → AreBlanks gap → IsScopeWord scope → AreBlanks gap' → IsName name
    → load_form change (codes "SCOPE" ++ (gap ++ (scope ++ (gap' ++ name)))) ≡ Some (Whole (File change scope name))
scope_behind change gap scope gap' name are s are' n =
    ap (λ z. cond (bytes_eq z (codes "SCOPE")) (scoped_form change (behind_word t)) (file_form change [] t)) (word-parted (codes "SCOPE") gap u none are)
    ∙ ap (scoped_form change) (behind-parted (codes "SCOPE") gap u none are (begins-word scope (gap' ++ name) s.some blanks))
    ∙ ap (λ z. cond (is_scope z) (file_form change z (behind_word u)) None) (word-parted scope gap' name blanks are')
    ∙ ap (λ z. cond z (file_form change scope (behind_word u)) None) (scope_given scope s)
    ∙ ap (file_form change scope) (behind-parted scope gap' name blanks are' n.begins)
    ∙ file_given change scope name n where
      u : List ℕ
      u = scope ++ (gap' ++ name)

      t : List ℕ
      t = codes "SCOPE" ++ (gap ++ u)

      none : NoBlanks (codes "SCOPE")
      none = (refl, (refl, (refl, (refl, (refl, tt)))))

      blanks : NoBlanks scope
      blanks = scope-no_blanks scope s

-- a text behind LOAD or UNLOAD
load_given : (w gap t : List ℕ) (change : Change) → IsFileWord w change → AreBlanks gap → after_blanks t ≡ t → form_of_text (w ++ (gap ++ t)) ≡ load_form change t
load_given _ gap t _ load are begins =
    let none : NoBlanks (codes "LOAD") = (refl, (refl, (refl, (refl, tt)))) in
    ap (λ z. form_behind z (behind_word (codes "LOAD" ++ (gap ++ t)))) (word-parted (codes "LOAD") gap t none are) ∙ ap (load_form Inserts) (behind-parted (codes "LOAD") gap t none are begins)
load_given _ gap t _ unload are begins =
    let none : NoBlanks (codes "UNLOAD") = (refl, (refl, (refl, (refl, (refl, (refl, tt)))))) in
    ap (λ z. form_behind z (behind_word (codes "UNLOAD" ++ (gap ++ t)))) (word-parted (codes "UNLOAD") gap t none are) ∙ ap (load_form Deletes) (behind-parted (codes "UNLOAD") gap t none are begins)

generate_given : (gap first gap' second : List ℕ) (count salt : ℕ) → AreBlanks gap → IsNumberUpTo most_generated first count → AreBlanks gap' → IsNumberUpTo greatest_salt second salt
    → form_of_text (codes "GENERATE" ++ (gap ++ (first ++ (gap' ++ second)))) ≡ Some (Whole (Generate count salt))
generate_given gap first gap' second count salt are f are' s =
    ap (λ z. form_behind z (behind_word t)) (word-parted (codes "GENERATE") gap u none are)
    ∙ ap generate_form (behind-parted (codes "GENERATE") gap u none are (begins-word first (gap' ++ second) f.some blanks))
    ∙ ap (λ z. of_numbers (number_up_to most_generated z) (number_up_to greatest_salt (behind_word u))) (word-parted first gap' second blanks are')
    ∙ ap (λ z. of_numbers (number_up_to most_generated first) (number_up_to greatest_salt z)) (behind-parted first gap' second blanks are' second_begins)
    ∙ ap (λ z. of_numbers z (number_up_to greatest_salt second)) (number_given most_generated first count f)
    ∙ ap (of_numbers (Some count)) (number_given greatest_salt second salt s) where
      u : List ℕ
      u = first ++ (gap' ++ second)

      t : List ℕ
      t = codes "GENERATE" ++ (gap ++ u)

      none : NoBlanks (codes "GENERATE")
      none = (refl, (refl, (refl, (refl, (refl, (refl, (refl, (refl, tt))))))))

      blanks : NoBlanks first
      blanks = number-no_blanks most_generated first count f

      second_begins : after_blanks second ≡ second
      second_begins = subst (λ z. after_blanks z ≡ z) (append-nil second) (begins-word second [] s.some (number-no_blanks greatest_salt second salt s))

form_given : (t : List ℕ) (f : Form) → IsForm t f → form_of_text t ≡ Some f
form_given _ _ insert = refl
form_given _ _ delete = refl
form_given _ _ query = refl
form_given _ _ dump = refl
form_given _ _ stats = refl
form_given _ _ shape = refl
form_given _ _ (file w gap name change is are n other) = load_given w gap name change is are n.begins ∙ name_behind change name n other
form_given _ _ (scoped w gap gap' scope gap'' name change is are are' s are'' n) =
    load_given w gap _ change is are refl ∙ scope_behind change gap' scope gap'' name are' s are'' n
form_given _ _ (generate gap first gap' second count salt are f are' s) = generate_given gap first gap' second count salt are f are' s

-- From the function to the productions

-- a test for one word, and the forms of other texts
word_or : (t word : List ℕ) (g f : Form) (other : Option Form) → IsForm word g → (other ≡ Some f → IsForm t f) → cond (bytes_eq t word) (Some g) other ≡ Some f → IsForm t f
word_or t word g f other is more e = by (bytes_eq t word) refl e where
  by : (b : Bool) → bytes_eq t word ≡ b → cond b (Some g) other ≡ Some f → IsForm t f
  by false n e = more e
  by true y e = subst (λ z. IsForm z f) (sym ((bytes_decides t word).0 y)) (subst (IsForm word) (let same : g ≡ f = cc in same) is)

-- a file's form is that of its name
record FileMade (change : Change) (scope name : List ℕ) (f : Form) : Type 0 where
  named : is_name name ≡ true
  form : Whole (File change scope name) ≡ f

file_made : (change : Change) (scope name : List ℕ) (f : Form) → file_form change scope name ≡ Some f → FileMade change scope name f
file_made change scope name f e = by (is_name name) refl e where
  by : (b : Bool) → is_name name ≡ b → cond b (Some (Whole (File change scope name))) None ≡ Some f → FileMade change scope name f
  by false n e = absurd (let t : ⊥ = cc in t)
  by true y e = record { named = y; form = let same : Whole (File change scope name) ≡ f = cc in same }

module _ (t w : List ℕ) (change : Change) (f : Form) (is : IsFileWord w change) (word : word_of t ≡ w) where
  abbrev here : Parted t
  here = parted t

  abbrev r : List ℕ
  r = behind_word t

  line : t ≡ w ++ (here.gap ++ r)
  line = here.is ∙ ap (λ z. z ++ (here.gap ++ r)) word

  name_line : bytes_eq (word_of r) (codes "SCOPE") ≡ false → file_form change [] r ≡ Some f → IsForm t f
  name_line not_scope e =
      let m = file_made change [] r f e in
      let n : IsName r = name_made r m.named here.begins in
      let other : word_of r ≢ codes "SCOPE" = λ same. let y : bytes_eq (word_of r) (codes "SCOPE") ≡ true = (bytes_decides (word_of r) (codes "SCOPE")).1 same in let d : true ≡ false = sym y ∙ not_scope in let x : ⊥ = cc in x in
      subst (λ z. IsForm z f) (sym line) (subst (IsForm (w ++ (here.gap ++ r))) m.form (file w here.gap r change is (gap_of t here n.some) n other))

  scope_line : word_of r ≡ codes "SCOPE" → scoped_form change (behind_word r) ≡ Some f → IsForm t f
  scope_line is_scoped e = by (is_scope (word_of s)) refl e where
    there : Parted r
    there = parted r

    s : List ℕ
    s = behind_word r

    last : Parted s
    last = parted s

    by : (b : Bool) → is_scope (word_of s) ≡ b → cond b (file_form change (word_of s) (behind_word s)) None ≡ Some f → IsForm t f
    by false n e = absurd (let x : ⊥ = cc in x)
    by true y e =
        let m = file_made change (word_of s) (behind_word s) f e in
        let n : IsName (behind_word s) = name_made (behind_word s) m.named last.begins in
        let sc : IsScopeWord (word_of s) = scope_made (word_of s) y in
        let rest : r ≡ codes "SCOPE" ++ (there.gap ++ (word_of s ++ (last.gap ++ behind_word s))) = there.is ∙ ap (λ z. z ++ (there.gap ++ s)) is_scoped ∙ ap (λ z. codes "SCOPE" ++ (there.gap ++ z)) last.is in
        let some : 0 < length r = subst (λ z. 0 < length z) (sym rest) (grind arith) in
        let more : 0 < length s = subst (λ z. 0 < length z) (sym last.is) (longer (word_of s) (last.gap ++ behind_word s) sc.some) in
        subst (λ z. IsForm z f) (sym (line ∙ ap (λ z. w ++ (here.gap ++ z)) rest))
        (subst (IsForm (w ++ (here.gap ++ (codes "SCOPE" ++ (there.gap ++ (word_of s ++ (last.gap ++ behind_word s))))))) m.form
        (scoped w here.gap there.gap (word_of s) last.gap (behind_word s) change is (gap_of t here some) (gap_of r there more) sc (gap_of s last n.some) n)) where
          longer : (a b : List ℕ) → 0 < length a → 0 < length (a ++ b)
          longer [] b h = absurd (omega (arith, h))
          longer (x ∷ a) b h = grind arith

  load_made : load_form change r ≡ Some f → IsForm t f
  load_made e = by (bytes_eq (word_of r) (codes "SCOPE")) refl e where
    by : (b : Bool) → bytes_eq (word_of r) (codes "SCOPE") ≡ b → cond b (scoped_form change (behind_word r)) (file_form change [] r) ≡ Some f → IsForm t f
    by false n e = name_line n e
    by true y e = scope_line ((bytes_decides (word_of r) (codes "SCOPE")).0 y) e

generate_made : (t : List ℕ) (f : Form) → word_of t ≡ codes "GENERATE" → generate_form (behind_word t) ≡ Some f → IsForm t f
generate_made t f word e = by (number_up_to most_generated (word_of r)) refl (number_up_to greatest_salt (behind_word r)) refl e where
  here : Parted t
  here = parted t

  r : List ℕ
  r = behind_word t

  there : Parted r
  there = parted r

  by : (n : Option ℕ) → number_up_to most_generated (word_of r) ≡ n → (m : Option ℕ) → number_up_to greatest_salt (behind_word r) ≡ m → of_numbers n m ≡ Some f → IsForm t f
  by None p m q e = absurd (let x : ⊥ = cc in x)
  by (Some n) p None q e = absurd (let x : ⊥ = cc in x)
  by (Some n) p (Some m) q e =
      let first : IsNumberUpTo most_generated (word_of r) n = number_made most_generated (word_of r) n p in
      let second : IsNumberUpTo greatest_salt (behind_word r) m = number_made greatest_salt (behind_word r) m q in
      let some : 0 < length r = subst (λ z. 0 < length z) (sym there.is) (longer (word_of r) (there.gap ++ behind_word r) first.some) in
      let line : t ≡ codes "GENERATE" ++ (here.gap ++ (word_of r ++ (there.gap ++ behind_word r))) = here.is ∙ ap (λ z. z ++ (here.gap ++ r)) word ∙ ap (λ z. codes "GENERATE" ++ (here.gap ++ z)) there.is in
      subst (λ z. IsForm z f) (sym line)
      (subst (IsForm (codes "GENERATE" ++ (here.gap ++ (word_of r ++ (there.gap ++ behind_word r))))) (let same : Whole (Generate n m) ≡ f = cc in same)
      (generate here.gap (word_of r) there.gap (behind_word r) n m (gap_of t here some) first (gap_of r there second.some) second)) where
        longer : (a b : List ℕ) → 0 < length a → 0 < length (a ++ b)
        longer [] b h = absurd (omega (arith, h))
        longer (x ∷ a) b h = grind arith

behind_made : (t : List ℕ) (f : Form) → form_behind (word_of t) (behind_word t) ≡ Some f → IsForm t f
behind_made t f e = by (bytes_eq (word_of t) (codes "LOAD")) refl (bytes_eq (word_of t) (codes "UNLOAD")) refl (bytes_eq (word_of t) (codes "GENERATE")) refl e where
  word_is : (w : List ℕ) → bytes_eq (word_of t) w ≡ true → word_of t ≡ w
  word_is w y = (bytes_decides (word_of t) w).0 y

  by : (a : Bool) → bytes_eq (word_of t) (codes "LOAD") ≡ a → (b : Bool) → bytes_eq (word_of t) (codes "UNLOAD") ≡ b → (c : Bool) → bytes_eq (word_of t) (codes "GENERATE") ≡ c
      → cond a (load_form Inserts (behind_word t)) (cond b (load_form Deletes (behind_word t)) (cond c (generate_form (behind_word t)) None)) ≡ Some f → IsForm t f
  by true y b _ c _ e = load_made t (codes "LOAD") Inserts f load (word_is (codes "LOAD") y) e
  by false n true y c _ e = load_made t (codes "UNLOAD") Deletes f unload (word_is (codes "UNLOAD") y) e
  by false n false m true y e = generate_made t f (word_is (codes "GENERATE") y) e
  by false n false m false o e = absurd (let x : ⊥ = cc in x)

form_made : (t : List ℕ) (f : Form) → form_of_text t ≡ Some f → IsForm t f
form_made t f =
    word_or t (codes "INSERT") (Begins (Triples Inserts)) f _ insert
    (word_or t (codes "DELETE") (Begins (Triples Deletes)) f _ delete
    (word_or t (codes "QUERY") (Begins Question) f _ query
    (word_or t (codes "DUMP") (Whole Dump) f _ dump
    (word_or t (codes "STATS") (Whole Stats) f _ stats
    (word_or t (codes "SHAPE") (Whole Shape) f _ shape (behind_made t f))))))

pub forms_are_productions : FormsAreProductions
forms_are_productions t f = (form_given t f, form_made t f)
