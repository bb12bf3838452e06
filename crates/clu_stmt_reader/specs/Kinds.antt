-- Which statement the next tokens begin.
use Rattle.std.specs.Prelude.{ℕ, ◌∷◌, []}
use Rattle.clu_tree.specs.declared.lexeme.Key.TheVariants as key
use Rattle.clu_tree.specs.declared.lexeme.Lexeme.TheVariants as lexeme
use Rattle.clu_tree.specs.declared.tree.Stmt.{Stmt}
use Rattle.clu_grammar.specs.Grammar.{Tokens, line_of}
use Rattle.clu_grammar.specs.ExprPlan.{Parser}
use Rattle.clu_stmt_reader.specs.declared.kind.Kind.{Kind}
use Rattle.clu_stmt_reader.specs.declared.kind.Kind.TheVariants as kind
use Rattle.clu_stmt_reader.specs.Parts as parts

unfoldable pub kind_of : Tokens → Kind
kind_of (lexeme.Name _ _ ∷ lexeme.Key key.Colon _ ∷ _) = kind.Declaration
kind_of (lexeme.Name _ _ ∷ lexeme.Key key.Becomes _ ∷ _) = kind.Assignment
kind_of (lexeme.Key key.Once _ ∷ _) = kind.Remote
kind_of (lexeme.Key key.Maybe _ ∷ _) = kind.Remote
kind_of (lexeme.Key key.PutLine _ ∷ _) = kind.PutLine
kind_of (lexeme.Key key.Sleep _ ∷ _) = kind.Sleep
kind_of (lexeme.Key key.Fork _ ∷ _) = kind.Fork
kind_of (lexeme.Key key.Return _ ∷ _) = kind.Return
kind_of (lexeme.Key key.Signal _ ∷ _) = kind.Signal
kind_of (lexeme.Key key.If _ ∷ _) = kind.If
kind_of (lexeme.Key key.While _ ∷ _) = kind.While
kind_of (lexeme.Key key.For _ ∷ _) = kind.For
kind_of (lexeme.Key key.Tagcase _ ∷ _) = kind.Tagcase
kind_of (lexeme.Key key.Begin _ ∷ _) = kind.Begin
kind_of (lexeme.Key key.Region _ ∷ _) = kind.Region
kind_of _ = kind.Front

unfoldable pub by_kind : ℕ → Kind → Parser Stmt
by_kind d kind.Declaration ts = parts.declaration d ts
by_kind d kind.Assignment ts = parts.assignment d ts
by_kind d kind.Remote ts = parts.remote_call d (line_of ts) ts
by_kind d kind.PutLine ts = parts.put_line d ts
by_kind d kind.Sleep ts = parts.sleep d ts
by_kind d kind.Fork ts = parts.fork d ts
by_kind d kind.Return ts = parts.leave d ts
by_kind d kind.Signal ts = parts.signal d ts
by_kind d kind.If ts = parts.choice d ts
by_kind d kind.While ts = parts.repeat d ts
by_kind d kind.For ts = parts.each d ts
by_kind d kind.Tagcase ts = parts.tagcase d ts
by_kind d kind.Begin ts = parts.begin d ts
by_kind d kind.Region ts = parts.region d ts
by_kind d kind.Front ts = parts.from_front d ts
