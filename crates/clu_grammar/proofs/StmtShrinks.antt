-- A statement that is read takes a token.
use Rattle.std.proofs.Common.{ℕ, ◌<◌, ◌≤◌, List, length, Option, arith}
use Rattle.clu_tree.specs.declared.shape.Named.{Named}
use Rattle.clu_tree.specs.declared.tree.Target.{Target}
use Rattle.clu_tree.specs.declared.tree.Remote.{Remote}
use Rattle.clu_tree.specs.declared.tree.Iter.{Iter}
use Rattle.clu_tree.specs.declared.tree.Stmt.{Stmt}
use Rattle.clu_tree.specs.declared.tree.Arm.{Arm}
use Rattle.clu_tree.specs.declared.tree.TagArm.{TagArm}
use Rattle.clu_tree.specs.declared.tree.When.{When}
use Rattle.clu_tree.specs.declared.tree.Handlers.{Handlers}
use Rattle.clu_grammar.specs.Grammar as g
use Rattle.clu_grammar.specs.Grammar.{Tokens, ReadsNames, ReadsTarget, ReadsRemote, ReadsIter, ReadsVariable, ReadsBody, ReadsStmt, ReadsSimple, ReadsArms, ReadsElse, ReadsTags, ReadsOthers, ReadsWhens, ReadsHandlers}
use Rattle.clu_grammar.proofs.Shrinks.{shrinks-shape, shrinks, shrinks-primary, shrinks-call, shrinks-args}

pub shrinks-names : {ts r : Tokens} {xs : List (List ℕ)} → ReadsNames ts r xs → length r < length ts
shrinks-names g.last_name = omega arith
shrinks-names (g.name_and p) = omega (arith, shrinks-names p)

shrinks-target : {ts r : Tokens} {x : Target} → ReadsTarget ts r x → length r < length ts
shrinks-target g.to_name = omega arith
shrinks-target (g.to_field p) = omega (arith, shrinks-primary p)
shrinks-target (g.to_item p q) = omega (arith, shrinks-primary p, shrinks q)

shrinks-remote : {ts r : Tokens} {x : Remote} → ReadsRemote ts r x → length r < length ts
shrinks-remote (g.once p q) = omega (arith, shrinks-args p, shrinks q)
shrinks-remote (g.maybe p q w) = omega (arith, shrinks-args p, shrinks q, shrinks w)

shrinks-iter : {ts r : Tokens} {x : Iter} → ReadsIter ts r x → length r < length ts
shrinks-iter (g.from_to e p q) = omega (arith, shrinks p, shrinks q)
shrinks-iter (g.elements e p q) = omega (arith, shrinks-shape p, shrinks q)

pub shrinks-variable : {ts r : Tokens} {o : Option Named} → ReadsVariable ts r o → length r ≤ length ts
shrinks-variable g.no_variable = omega arith
shrinks-variable (g.variable p) = omega (arith, shrinks-shape p)

mutual
  pub shrinks-body : {ts r : Tokens} {xs : List Stmt} → ReadsBody ts r xs → length r ≤ length ts
  shrinks-body g.body_end = omega arith
  shrinks-body (g.body p q) = omega (arith, shrinks-stmt p, shrinks-body q)

  pub shrinks-stmt : {ts r : Tokens} {x : Stmt} → ReadsStmt ts r x → length r < length ts
  shrinks-stmt (g.simple p) = shrinks-simple p
  shrinks-stmt (g.except p q) = omega (arith, shrinks-stmt p, shrinks-handlers q)
  shrinks-stmt (g.resignal p q) = omega (arith, shrinks-stmt p, shrinks-names q)

  shrinks-simple : {ts r : Tokens} {x : Stmt} → ReadsSimple ts r x → length r < length ts
  shrinks-simple (g.declare p) = omega (arith, shrinks-shape p)
  shrinks-simple (g.declare_as p q) = omega (arith, shrinks-shape p, shrinks q)
  shrinks-simple (g.assign p q) = omega (arith, shrinks-target p, shrinks q)
  shrinks-simple (g.remote p) = shrinks-remote p
  shrinks-simple (g.remote_to p) = omega (arith, shrinks-remote p)
  shrinks-simple (g.call_of p) = shrinks-call p
  shrinks-simple (g.put_line p) = omega (arith, shrinks p)
  shrinks-simple (g.sleep p) = omega (arith, shrinks p)
  shrinks-simple (g.fork p) = omega (arith, shrinks-args p)
  shrinks-simple g.leave = omega arith
  shrinks-simple (g.give p) = omega (arith, shrinks p)
  shrinks-simple g.signal = omega arith
  shrinks-simple (g.signal_with p) = omega (arith, shrinks p)
  shrinks-simple (g.choose p q w o) = omega (arith, shrinks p, shrinks-body q, shrinks-arms w, shrinks-else o)
  shrinks-simple (g.while p q) = omega (arith, shrinks p, shrinks-body q)
  shrinks-simple (g.for p q w) = omega (arith, shrinks-shape p, shrinks-iter q, shrinks-body w)
  shrinks-simple (g.tagcase p q w) = omega (arith, shrinks p, shrinks-tags q, shrinks-others w)
  shrinks-simple (g.begin p) = omega (arith, shrinks-body p)
  shrinks-simple (g.region p q) = omega (arith, shrinks p, shrinks-body q)

  pub shrinks-arms : {ts r : Tokens} {xs : List Arm} → ReadsArms ts r xs → length r ≤ length ts
  shrinks-arms g.no_arms = omega arith
  shrinks-arms (g.arm p q w) = omega (arith, shrinks p, shrinks-body q, shrinks-arms w)

  shrinks-else : {ts r : Tokens} {o : Option (List Stmt)} → ReadsElse ts r o → length r < length ts
  shrinks-else g.no_else = omega arith
  shrinks-else (g.else p) = omega (arith, shrinks-body p)

  pub shrinks-tags : {ts r : Tokens} {xs : List TagArm} → ReadsTags ts r xs → length r ≤ length ts
  shrinks-tags g.no_tags = omega arith
  shrinks-tags (g.tag p q w) = omega (arith, shrinks-variable p, shrinks-body q, shrinks-tags w)

  shrinks-others : {ts r : Tokens} {o : Option (List Stmt)} → ReadsOthers ts r o → length r < length ts
  shrinks-others g.no_others = omega arith
  shrinks-others (g.others p) = omega (arith, shrinks-body p)

  pub shrinks-whens : {ts r : Tokens} {xs : List When} → ReadsWhens ts r xs → length r ≤ length ts
  shrinks-whens g.no_whens = omega arith
  shrinks-whens (g.when p v q w) = omega (arith, shrinks-names p, shrinks-variable v, shrinks-body q, shrinks-whens w)

  shrinks-handlers : {ts r : Tokens} {h : Handlers} → ReadsHandlers ts r h → length r ≤ length ts
  shrinks-handlers (g.handlers p) = shrinks-whens p
  shrinks-handlers (g.and_others p q) = omega (arith, shrinks-whens p, shrinks-body q)
