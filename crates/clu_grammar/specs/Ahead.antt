-- How far a reader looks ahead: behind a name, `return` or `signal n`, is a bracket that comes next the target of the following assignment?
use Rattle.std.specs.Prelude.{ℕ, zero, suc, Bool, true, false, [], ◌∷◌, length}
use Rattle.clu_tree.specs.declared.lexeme.Key.TheVariants as key
use Rattle.clu_tree.specs.declared.lexeme.Lexeme.TheVariants as lexeme
use Rattle.clu_grammar.specs.Grammar.{Tokens}

-- what follows the bracket that closes the last but d of the open ones
abbrev pub skip : ℕ → Tokens → Tokens
skip d [] = []
skip d (lexeme.Key key.LParen _ ∷ ts) = skip (suc d) ts
skip d (lexeme.Key key.LBracket _ ∷ ts) = skip (suc d) ts
skip d (lexeme.Key key.LBrace _ ∷ ts) = skip (suc d) ts
skip zero (lexeme.Key key.RParen _ ∷ ts) = ts
skip zero (lexeme.Key key.RBracket _ ∷ ts) = ts
skip zero (lexeme.Key key.RBrace _ ∷ ts) = ts
skip (suc d) (lexeme.Key key.RParen _ ∷ ts) = skip d ts
skip (suc d) (lexeme.Key key.RBracket _ ∷ ts) = skip d ts
skip (suc d) (lexeme.Key key.RBrace _ ∷ ts) = skip d ts
skip d (_ ∷ ts) = skip d ts

abbrev pub becomes : Tokens → Bool
becomes (lexeme.Key key.Becomes _ ∷ _) = true
becomes _ = false

-- `.id` and `[..]`, at most t of them, and then `:=`
abbrev pub assigns : ℕ → Tokens → Bool
assigns zero ts = becomes ts
assigns (suc t) (lexeme.Key key.Dot _ ∷ lexeme.Name _ _ ∷ r) = assigns t r
assigns (suc t) (lexeme.Key key.LBracket _ ∷ m) = assigns t (skip zero m)
assigns (suc t) ts = becomes ts

-- Behind an opening bracket: does it begin the target of an assignment? Where no `.id` or `[..]` follows the bracket that
-- closes, nothing reads either way, since brackets alone are no target.
abbrev pub is_target : Tokens → Bool
is_target ts = assigns (length ts) (skip zero ts)
