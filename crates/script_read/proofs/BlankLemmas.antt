-- Blanks at the ends of a line, one by one.
use Rattle.std.proofs.Common.{◌≡◌, ◌∙◌, ℕ, zero, suc, ◌+◌, ◌-◌, ◌<◌, ◌≤◌, Bool, true, false, not, ◌||◌, ◌==◌, List, [], ◌∷◌, length, take, drop, get_or, reverse, refl, sym, ap, add-one, arith}
use Rattle.std.proofs.lemmas.List.{reverse-append, reverse-reverse, take_more, take_all, drop_all}
use Rattle.bstr.specs.Bytes.{is_in, not_in}
use Rattle.memchr.specs.Find.{Nowhere, NoneBefore, NoneAfter, Passes}
use Rattle.std.proofs.Math.Seq.{drop-cons}
use Rattle.text_lines.specs.Blanks.{is_blank, after_blanks}
use Rattle.script_read.specs.Forms.{without_blanks_behind}

pub skip_blank : (line : List ℕ) (i : ℕ) → i < length line → is_blank (get_or line i 0) ≡ true → after_blanks (drop i line) ≡ after_blanks (drop (i + 1) line)
skip_blank line i h e = ap after_blanks (drop-cons line i 0 h) ∙ rw (e, add-one) refl

pub stop_blank : (line : List ℕ) (i : ℕ) → i < length line → is_blank (get_or line i 0) ≡ false → after_blanks (drop i line) ≡ drop i line
stop_blank line i h e = ap after_blanks (drop-cons line i 0 h) ∙ rw e (sym (drop-cons line i 0 h))

last_byte : (line : List ℕ) (i : ℕ) → i < length line → reverse (take (i + 1) line) ≡ get_or line i 0 ∷ reverse (take i line)
last_byte line i h = ap reverse (take_more line i 0 h) ∙ reverse-append (take i line) (get_or line i 0 ∷ [])

pub drop_blank : (line : List ℕ) (i : ℕ) → i < length line → is_blank (get_or line i 0) ≡ true → without_blanks_behind (take (i + 1) line) ≡ without_blanks_behind (take i line)
drop_blank line i h e = ap (λ l. reverse (after_blanks l)) (last_byte line i h) ∙ rw e refl

pub keep_end : (line : List ℕ) (i : ℕ) → i < length line → is_blank (get_or line i 0) ≡ false → without_blanks_behind (take (i + 1) line) ≡ take (i + 1) line
keep_end line i h e = ap (λ l. reverse (after_blanks l)) (last_byte line i h) ∙ rw e (ap reverse (sym (last_byte line i h)) ∙ reverse-reverse (take (i + 1) line))

-- a byte is a blank, or none of these
abbrev pub blanks : List ℕ
blanks = 32 ∷ 9 ∷ []

pub is_one : (b : ℕ) → is_blank b ≡ is_in blanks b
unfolding is_in
is_one b = sym (ap (λ z. b == 32 || z) (or_none (b == 9))) where
  or_none : (a : Bool) → (a || false) ≡ a
  or_none true = refl
  or_none false = refl

blank_where : (line : List ℕ) (i : ℕ) → (Passes (not_in blanks) line i → ⊥) → is_blank (get_or line i 0) ≡ true
blank_where line i none = is_one (get_or line i 0) ∙ by (is_in blanks (get_or line i 0)) none where
  by : (b : Bool) → (not b ≡ true → ⊥) → b ≡ true
  by true none = refl
  by false none = absurd (none refl)

no_blank_where : (line : List ℕ) (i : ℕ) → Passes (not_in blanks) line i → is_blank (get_or line i 0) ≡ false
no_blank_where line i e = is_one (get_or line i 0) ∙ by (is_in blanks (get_or line i 0)) e where
  by : (b : Bool) → not b ≡ true → b ≡ false
  by true e = absurd (let t : ⊥ = cc in t)
  by false e = refl

-- blanks alone before a place
blanks_to : (line : List ℕ) (k : ℕ) → k ≤ length line → Nowhere (Passes (not_in blanks) line) 0 k → after_blanks line ≡ after_blanks (drop k line)
blanks_to line zero le none = refl
blanks_to line (suc k) le none = blanks_to line k (omega arith) (λ i low high. none i low (omega arith)) ∙ skip_blank line k (omega arith) (blank_where line k (none k (omega arith) (omega arith)))
    ∙ ap (λ n. after_blanks (drop n line)) (let e : k + 1 ≡ suc k = omega arith in e)

pub begins_at : (line : List ℕ) (k : ℕ) → NoneBefore (Passes (not_in blanks) line) 0 (length line) k → Passes (not_in blanks) line k → after_blanks line ≡ drop k line
begins_at line k first is = blanks_to line k (omega (arith, first.high)) first.before ∙ stop_blank line k first.high (no_blank_where line k is)

pub blank_alone : (line : List ℕ) → Nowhere (Passes (not_in blanks) line) 0 (length line) → after_blanks line ≡ drop (length line) line
blank_alone line none = blanks_to line (length line) (omega arith) none ∙ ap after_blanks none_left ∙ sym none_left where
  none_left : drop (length line) line ≡ []
  none_left = drop_all (length line) line (omega arith)

-- blanks alone from a place on
blanks_from : (line : List ℕ) (k n : ℕ) → k + n ≤ length line → Nowhere (Passes (not_in blanks) line) k (length line) → without_blanks_behind (take (k + n) line) ≡ without_blanks_behind (take k line)
blanks_from line k zero le none = ap (λ m. without_blanks_behind (take m line)) (let e : k + 0 ≡ k = omega arith in e)
blanks_from line k (suc n) le none =
    ap (λ m. without_blanks_behind (take m line)) (let e : k + suc n ≡ (k + n) + 1 = omega arith in e)
    ∙ drop_blank line (k + n) (omega arith) (blank_where line (k + n) (none (k + n) (omega arith) (omega arith)))
    ∙ blanks_from line k n (omega arith) none

whole_from : (line : List ℕ) (k : ℕ) → k ≤ length line → Nowhere (Passes (not_in blanks) line) k (length line) → without_blanks_behind line ≡ without_blanks_behind (take k line)
whole_from line k le none =
    ap without_blanks_behind (sym (take_all (length line) line (omega arith)))
    ∙ ap (λ m. without_blanks_behind (take m line)) (let e : length line ≡ k + (length line - k) = omega arith in e)
    ∙ blanks_from line k (length line - k) (omega arith) none

pub ends_at : (line : List ℕ) (k : ℕ) → NoneAfter (Passes (not_in blanks) line) 0 (length line) k → Passes (not_in blanks) line k → without_blanks_behind line ≡ take (k + 1) line
ends_at line k last is = whole_from line (k + 1) (omega (arith, last.high)) last.after ∙ keep_end line k last.high (no_blank_where line k is)

pub blank_to_end : (line : List ℕ) → Nowhere (Passes (not_in blanks) line) 0 (length line) → without_blanks_behind line ≡ take 0 line
blank_to_end line none = whole_from line 0 (omega arith) none
