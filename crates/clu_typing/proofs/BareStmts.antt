-- Bare statements, by their kinds.
use Rattle.std.proofs.Common.{◌≡◌, map, sym, ap, ◌∙◌}
use Rattle.clu_tree.specs.declared.tree.Meant.TheVariants as m
use Rattle.clu_tree.specs.declared.tree.Stmt.{Stmt, roll-Stmt}
use Rattle.clu_tree.specs.declared.tree.Stmt.TheOpen as sf
use Rattle.clu_tree.specs.declared.tree.Stmt.TheFolds as so
use Rattle.clu_tree.specs.declared.tree.Arm.{Arm, roll-Arm}
use Rattle.clu_tree.specs.declared.tree.TagArm.{TagArm, roll-TagArm}
use Rattle.clu_tree.specs.declared.tree.When.{When, roll-When}
use Rattle.clu_tree.specs.declared.tree.Handlers.{Handlers, roll-Handlers}
use Rattle.clu_typing.specs.Bare.{bare_expr, bare_stmt_step, bare_arm_step, bare_tag_step, bare_stmt}

abbrev pub bare_arm : Arm → Arm
bare_arm = so.fold-Arm Stmt Arm Handlers TagArm When bare_stmt_step bare_arm_step roll-Handlers bare_tag_step roll-When

abbrev pub bare_handlers : Handlers → Handlers
bare_handlers = so.fold-Handlers Stmt Arm Handlers TagArm When bare_stmt_step bare_arm_step roll-Handlers bare_tag_step roll-When

abbrev pub bare_tag : TagArm → TagArm
bare_tag = so.fold-TagArm Stmt Arm Handlers TagArm When bare_stmt_step bare_arm_step roll-Handlers bare_tag_step roll-When

abbrev pub bare_when : When → When
bare_when = so.fold-When Stmt Arm Handlers TagArm When bare_stmt_step bare_arm_step roll-Handlers bare_tag_step roll-When

abbrev pub bares : sf.Stmt-F Stmt Arm Handlers TagArm When → sf.Stmt-F Stmt Arm Handlers TagArm When
bares = so.map-Stmt Stmt Arm Handlers TagArm When Stmt Arm Handlers TagArm When bare_stmt bare_arm bare_handlers bare_tag bare_when

abbrev pub bare_parts : sf.Handlers-F Stmt Arm Handlers TagArm When → sf.Handlers-F Stmt Arm Handlers TagArm When
bare_parts = so.map-Handlers Stmt Arm Handlers TagArm When Stmt Arm Handlers TagArm When bare_stmt bare_arm bare_handlers bare_tag bare_when

pub bare_roll : (y : sf.Stmt-F Stmt Arm Handlers TagArm When) → bare_stmt (roll-Stmt y) ≡ bare_stmt_step (bares y)
unfolding bare_stmt
bare_roll y = so.fold-roll-Stmt Stmt Arm Handlers TagArm When bare_stmt_step bare_arm_step roll-Handlers bare_tag_step roll-When y

pub arm_roll : (y : sf.Arm-F Stmt Arm Handlers TagArm When) → bare_arm (roll-Arm y) ≡ roll-Arm (record { test = bare_expr y.test; body = map bare_stmt y.body })
unfolding bare_stmt
arm_roll y = so.fold-roll-Arm Stmt Arm Handlers TagArm When bare_stmt_step bare_arm_step roll-Handlers bare_tag_step roll-When y

pub handlers_roll : (y : sf.Handlers-F Stmt Arm Handlers TagArm When) → bare_handlers (roll-Handlers y) ≡ roll-Handlers (bare_parts y)
unfolding bare_stmt
handlers_roll y = so.fold-roll-Handlers Stmt Arm Handlers TagArm When bare_stmt_step bare_arm_step roll-Handlers bare_tag_step roll-When y

pub tag_roll : (y : sf.TagArm-F Stmt Arm Handlers TagArm When) → bare_tag (roll-TagArm y) ≡ roll-TagArm (record { tag = y.tag; variable = y.variable; body = map bare_stmt y.body; meant = m.Unknown })
unfolding bare_stmt
tag_roll y = so.fold-roll-TagArm Stmt Arm Handlers TagArm When bare_stmt_step bare_arm_step roll-Handlers bare_tag_step roll-When y

pub when_roll : (y : sf.When-F Stmt Arm Handlers TagArm When) → bare_when (roll-When y) ≡ roll-When (record { names = y.names; variable = y.variable; body = map bare_stmt y.body })
unfolding bare_stmt
when_roll y = so.fold-roll-When Stmt Arm Handlers TagArm When bare_stmt_step bare_arm_step roll-Handlers bare_tag_step roll-When y

-- a statement that is rolled of a layer
pub bare_of : (y : sf.Stmt-F Stmt Arm Handlers TagArm When) (x : Stmt) → roll-Stmt y ≡ x → bare_stmt x ≡ bare_stmt_step (bares y)
bare_of y x h = ap bare_stmt (sym h) ∙ bare_roll y
