-- Each move over the outline of a query is what its form asks for.
use Rattle.std.proofs.Common.{◌≡◌, ◌∙◌, List, [], ◌∷◌, refl, sym, ap}
use Rattle.std.specs.Prelude.{map}
use Rattle.query_tokens.specs.Front.{behind, is_optional}
use Rattle.query_tokens.specs.Front as front
use Rattle.query_grammar.specs.Lexemes.{Lexeme}
use Rattle.query_grammar.specs.Outline.{behind_all, has_outline, query}
use Rattle.query_grammar.specs.Signs.{Sign, Prefix, number_of, sign_of}
use Rattle.query_read.specs.Outlines.{to_follow, moves, may_end}
use Rattle.query_read.specs.declared.outline.Outline.{Outline}
use Rattle.query_read.specs.declared.outline.Outline.TheVariants as at

-- a sign leads to what has to follow it
pub move_meant : (state : Outline) (sign : Sign) → behind (number_of sign) (to_follow state) ≡ to_follow (moves state sign)
unfolding to_follow
move_meant at.Prologue Prefix = refl
move_meant at.Prologue _ = refl
move_meant at.PrefixWord Prefix = refl
move_meant at.PrefixWord _ = refl
move_meant at.PrefixName Prefix = refl
move_meant at.PrefixName _ = refl
move_meant at.Select Prefix = refl
move_meant at.Select _ = refl
move_meant at.Modified Prefix = refl
move_meant at.Modified _ = refl
move_meant at.Variables Prefix = refl
move_meant at.Variables _ = refl
move_meant at.Star Prefix = refl
move_meant at.Star _ = refl
move_meant at.Where Prefix = refl
move_meant at.Where _ = refl
move_meant at.Within Prefix = refl
move_meant at.Within _ = refl
move_meant at.Behind Prefix = refl
move_meant at.Behind _ = refl
move_meant at.LimitWord Prefix = refl
move_meant at.LimitWord _ = refl
move_meant at.Limited Prefix = refl
move_meant at.Limited _ = refl
move_meant at.OffsetWord Prefix = refl
move_meant at.OffsetWord _ = refl
move_meant at.Shifted Prefix = refl
move_meant at.Shifted _ = refl
move_meant at.LastLimit Prefix = refl
move_meant at.LastLimit _ = refl
move_meant at.LastOffset Prefix = refl
move_meant at.LastOffset _ = refl
move_meant at.Ended Prefix = refl
move_meant at.Ended _ = refl
move_meant at.Failed Prefix = refl
move_meant at.Failed _ = refl

pub end_meant : (state : Outline) → is_optional (to_follow state) ≡ may_end state
unfolding to_follow
end_meant at.Prologue = refl
end_meant at.PrefixWord = refl
end_meant at.PrefixName = refl
end_meant at.Select = refl
end_meant at.Modified = refl
end_meant at.Variables = refl
end_meant at.Star = refl
end_meant at.Where = refl
end_meant at.Within = refl
end_meant at.Behind = refl
end_meant at.LimitWord = refl
end_meant at.Limited = refl
end_meant at.OffsetWord = refl
end_meant at.Shifted = refl
end_meant at.LastLimit = refl
end_meant at.LastOffset = refl
end_meant at.Ended = refl
end_meant at.Failed = refl

-- what is left of the tokens leads from here to where all of them lead
pub record IsOutlineSoFar (all rest : List Lexeme) (state : Outline) : Type 0 where
  pub leads : behind_all (map number_of (map sign_of all)) query ≡ behind_all (map number_of (map sign_of rest)) (to_follow state)

pub outline_begins : (all : List Lexeme) → IsOutlineSoFar all all at.Prologue
unfolding to_follow
outline_begins all = record { leads = refl }

pub outline_goes_on : (all rest behind : List Lexeme) (l : Lexeme) (state next : Outline) (sign : Sign) → IsOutlineSoFar all rest state → rest ≡ l ∷ behind → sign ≡ sign_of l → next ≡ moves state sign → IsOutlineSoFar all behind next
outline_goes_on all rest behind l state next sign s split is move = record {
  leads = s.leads ∙ ap (λ (ls : List Lexeme). behind_all (map number_of (map sign_of ls)) (to_follow state)) split
      ∙ ap (behind_all (map number_of (map sign_of behind))) (ap (λ (n : Sign). front.behind (number_of n) (to_follow state)) (sym is) ∙ move_meant state sign ∙ ap to_follow (sym move));
}

pub outline_ends : (all : List Lexeme) (state : Outline) → IsOutlineSoFar all [] state → may_end state ≡ has_outline (map sign_of all)
unfolding has_outline
outline_ends all state s = sym (ap is_optional s.leads ∙ end_meant state)
