use Rattle.clu_eval.proofs.rows.row_at.Given as goal

abbrev pub ghost-eval : goal.ghost-eval
ghost-eval g a = g.w

abbrev pub ghost-apply : goal.ghost-apply
ghost-apply g a = g.w

abbrev pub ghost-make_record : goal.ghost-make_record
ghost-make_record g a = g.w

abbrev pub ghost-make_array : goal.ghost-make_array
ghost-make_array g a = g.w

abbrev pub ghost-make_tag : goal.ghost-make_tag
ghost-make_tag g a = g.w

abbrev pub ghost-get : goal.ghost-get
ghost-get g a = g.w

abbrev pub ghost-put : goal.ghost-put
ghost-put g a = g.w

abbrev pub ghost-pick : goal.ghost-pick
ghost-pick g a = g.w

abbrev pub ghost-enter : goal.ghost-enter
ghost-enter g a = g.w

abbrev pub ghost-fall : goal.ghost-fall
ghost-fall g a = g.w

abbrev pub ghost-exec : goal.ghost-exec
ghost-exec g a = g.w

abbrev pub ghost-assign : goal.ghost-assign
ghost-assign g a = g.w

abbrev pub ghost-assign_node : goal.ghost-assign_node
ghost-assign_node g a = g.w

abbrev pub ghost-discard : goal.ghost-discard
ghost-discard g a = g.w

abbrev pub ghost-print : goal.ghost-print
ghost-print g a = g.w

abbrev pub ghost-nap : goal.ghost-nap
ghost-nap g a = g.w

abbrev pub ghost-grab : goal.ghost-grab
ghost-grab g a = g.w

abbrev pub ghost-spawn : goal.ghost-spawn
ghost-spawn g a = g.w

abbrev pub ghost-ask_once : goal.ghost-ask_once
ghost-ask_once g a = g.w

abbrev pub ghost-ask_maybe : goal.ghost-ask_maybe
ghost-ask_maybe g a = g.w

abbrev pub ghost-branch : goal.ghost-branch
ghost-branch g a = g.w

abbrev pub ghost-go_round : goal.ghost-go_round
ghost-go_round g a = g.w

abbrev pub ghost-for_int : goal.ghost-for_int
ghost-for_int g a = g.w

abbrev pub ghost-for_each : goal.ghost-for_each
ghost-for_each g a = g.w

abbrev pub ghost-each : goal.ghost-each
ghost-each g a = g.w

abbrev pub ghost-tagged : goal.ghost-tagged
ghost-tagged g a = g.w

abbrev pub ghost-raise : goal.ghost-raise
ghost-raise g a = g.w

abbrev pub ghost-give : goal.ghost-give
ghost-give g a = g.w
