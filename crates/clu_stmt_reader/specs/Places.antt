-- What stands at the front of a statement, as the code holds it.
use Rattle.clu_grammar.specs.StmtPlan as plan
use Rattle.clu_stmt_reader.specs.declared.place.Place.{Place}
use Rattle.clu_stmt_reader.specs.declared.place.Place.TheVariants.{Whole, FieldOf, ItemOf}

abbrev pub place_of : Place → plan.Place
place_of (Whole a) = plan.Whole a.expr
place_of (FieldOf a x) = plan.FieldOf a.expr x
place_of (ItemOf a b) = plan.ItemOf a.expr b.expr
