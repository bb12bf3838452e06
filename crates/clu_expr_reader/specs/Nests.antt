-- A function value that reads expressions of at most d levels.
use Rattle.std.specs.Prelude.{ℕ, Result, ◌≤◌}
use Rattle.std.specs.declared.alloc.Global.{Global}
use denote.Ref.{MutBor}
use Rattle.clu_grammar.specs.Grammar.{Tokens}
use Rattle.clu_grammar.specs.ExprPlan.{levels}
use Rattle.clu_expr_reader.specs.declared.node.SizedExpr.{SizedExpr}
use Rattle.clu_expr_reader.specs.declared.fault.ReadFault.{ReadFault}
use Rattle.clu_expr_reader.specs.Gives.{Gives}

pub record Nests (d : ℕ) (pre : Global → MutBor Tokens → ℕ → ℕ → Type 0)
    (post : Global → MutBor Tokens → ℕ → ℕ → Result SizedExpr ReadFault → MutBor Tokens → Type 0) : Type 0 where
  pub callable : (alloc : Global) (old : MutBor Tokens) (k : ℕ) → k ≤ 5 → pre alloc old d k
  pub reads : (alloc : Global) (old new : MutBor Tokens) (k : ℕ) (r : Result SizedExpr ReadFault) → post alloc old d k r new → Gives (λ x. x.expr) r new.now (levels d k old.now)
