-- What a `for` goes over, as the code takes it.
use Rattle.std.proofs.Common.{◌≡◌, ℕ, true, false, ◌∷◌, drop, Some, None, refl, sym, ◌∙◌, subst}
use Rattle.std.specs.Prelude.{Result, codes, bytes_eq}
use Rattle.std.proofs.lemmas.Bool.{cond-true, cond-false}
use Rattle.clu_tree.specs.declared.lexeme.Key.TheVariants as key
use Rattle.clu_tree.specs.declared.lexeme.Lexeme.TheVariants as lexeme
use Rattle.clu_grammar.specs.Grammar.{Tokens, line_of}
use Rattle.clu_grammar.specs.ExprPlan.{Found, Parser, ◌>>=◌, shape, dollar}
use Rattle.clu_grammar.specs.StmtPlan as plan
use Rattle.clu_expr_reader.specs.Gives.{Gives}
use Rattle.clu_expr_reader.specs.declared.fault.ReadFault.{ReadFault}
use Rattle.clu_stmt_reader.specs.Parts.{inner, at_range, at_operation, elements_of}
use Rattle.clu_stmt_reader.specs.Parts as parts

pub range-at : (d : ℕ) (ts : Tokens) → at_range ts ≡ true → parts.iter d ts ≡ parts.range d (line_of ts) (drop 2 (drop 2 ts))
unfolding parts.iter at_range at_operation parts.range parts.lower parts.closing
range-at d (lexeme.Key key.Int l ∷ lexeme.Key key.Dollar k ∷ lexeme.Name x j ∷ lexeme.Key key.LParen h ∷ m) e = cond-true (bytes_eq x (codes "from_to")) _ _ e
range-at d _ e = absurd cc

in_turn : {A B C : Type 0} (o : Found A) (f : A → Parser B) (g : B → Parser C) → (o >>= f >>= g) ≡ (o >>= λ x r. f x r >>= g)
in_turn (Some z) f g = refl
in_turn None f g = refl

elements-of : (d : ℕ) (ts : Tokens) → plan.elements (inner d) d ts ≡ parts.elements d ts
unfolding parts.elements parts.shape_dollar parts.elements_behind elements_of parts.closing
elements-of d ts = in_turn (shape d ts >>= dollar) (plan.elements_key (inner d) d) (elements_of d (line_of ts))

pub elements-at : (d : ℕ) (ts : Tokens) → at_range ts ≡ false → parts.iter d ts ≡ parts.elements d ts
unfolding parts.iter at_range at_operation
elements-at d (lexeme.Key key.Int l ∷ lexeme.Key key.Dollar k ∷ lexeme.Name x j ∷ lexeme.Key key.LParen h ∷ m) e =
    cond-false (bytes_eq x (codes "from_to")) _ _ e ∙ elements-of d (lexeme.Key key.Int l ∷ lexeme.Key key.Dollar k ∷ lexeme.Name x j ∷ lexeme.Key key.LParen h ∷ m)
elements-at d ts e = elements-of d ts

-- what is given for an equal finding
pub gives_along : {A B : Type 0} (view : A → B) (r : Result A ReadFault) (new : Tokens) (x y : Found B) → y ≡ x → Gives view r new x → Gives view r new y
gives_along view r new x y e h = subst (λ o. Gives view r new o) (sym e) h
