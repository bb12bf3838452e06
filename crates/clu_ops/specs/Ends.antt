-- How an operation ends: with a value, or with an exception.
use Rattle.std.specs.Prelude.{ℕ, ℤ, Bool, List, Some, None, codes}
use Rattle.clu_tree.specs.declared.value.Value.TheVariants as value
use Rattle.clu_ops.specs.declared.op_end.OpEnd.{OpEnd}
use Rattle.clu_ops.specs.declared.op_end.OpEnd.TheVariants as end

abbrev pub truth : Bool → OpEnd
truth b = end.Value (value.Bool b)

abbrev pub number : ℤ → OpEnd
number z = end.Value (value.Int z)

abbrev pub character : ℕ → OpEnd
character c = end.Value (value.Char c)

abbrev pub text : List ℕ → OpEnd
text t = end.Value (value.Str t)

-- an exception without a value
abbrev pub signal : List ℕ → OpEnd
signal name = end.Signal (record { name = name; value = None })

-- the exception failure, with what went wrong
abbrev pub failure : List ℕ → OpEnd
failure why = end.Signal (record { name = codes "failure"; value = Some (value.Str why) })
