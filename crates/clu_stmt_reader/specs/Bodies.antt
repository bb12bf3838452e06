-- A function value that reads the bodies inside statements of at most d levels.
use Rattle.std.specs.Prelude.{ℕ, ◌-◌, ◌<◌, ◌≤◌, Result}
use Rattle.std.specs.declared.alloc.Global.{Global}
use denote.Ref.{MutBor}
use Rattle.clu_grammar.specs.Grammar.{Tokens}
use Rattle.clu_grammar.specs.StmtPlan.{body}
use Rattle.clu_expr_reader.specs.Gives.{Gives}
use Rattle.clu_expr_reader.specs.declared.fault.ReadFault.{ReadFault}
use Rattle.clu_stmt_reader.specs.declared.sized.SizedStmts.{SizedStmts}

pub record ReadsBodies (d : ℕ) (pre : Global → MutBor Tokens → ℕ → Type 0)
    (post : Global → MutBor Tokens → ℕ → Result SizedStmts ReadFault → MutBor Tokens → Type 0) : Type 0 where
  pub some : 0 < d
  pub small : d ≤ 200
  pub callable : (alloc : Global) (old : MutBor Tokens) → pre alloc old (d - 1)
  pub reads : (alloc : Global) (old new : MutBor Tokens) (r : Result SizedStmts ReadFault) → post alloc old (d - 1) r new → Gives (λ x. x.items) r new.now (body (d - 1) old.now)
