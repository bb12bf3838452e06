pub mod Grammar
pub mod Nesting
pub mod Ahead
pub mod ExprPlan
pub mod StmtPlan
pub mod ProgramPlan
