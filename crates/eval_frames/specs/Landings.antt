-- Where an exception lands, as code says it: the guard is found, with the locks given back on the way.
use Rattle.std.specs.Prelude.{◌≡◌, List, ◌++◌, Option}
use Rattle.clu_tree.specs.declared.value.Addr.{Addr}
use Rattle.clu_tree.specs.declared.shape.Named.{Named}
use Rattle.clu_tree.specs.declared.tree.Stmt.{Stmt}
use Rattle.machine_rules.specs.declared.item.Item.{Item}
use Rattle.machine_rules.specs.Exceptions.{Landing, Lands, Nowhere, Resignals, Taken, Handles, Lets, Passes}

-- what a guard with this work behind it makes of it, where these locks are given back before
abbrev pub found : Taken → List Addr → List Item → Landing
found Lets gone work = Nowhere
found (Handles x body) gone work = Lands x body gone work
found Passes gone work = Resignals

-- the same landing, where these locks are given back before
abbrev pub behind_all : List Addr → Landing → Landing
behind_all gone (Lands x body left work) = Lands x body (gone ++ left) work
behind_all gone Nowhere = Nowhere
behind_all gone Resignals = Resignals
