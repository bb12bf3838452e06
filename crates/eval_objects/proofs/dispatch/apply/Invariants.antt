use Rattle.eval_objects.proofs.dispatch.apply.Given as goal

abbrev pub ghost-add_high : goal.ghost-add_high
ghost-add_high g a = g.w

abbrev pub ghost-add_low : goal.ghost-add_low
ghost-add_low g a = g.w

abbrev pub ghost-bottom : goal.ghost-bottom
ghost-bottom g a = g.w

abbrev pub ghost-create_array : goal.ghost-create_array
ghost-create_array g a = g.w

abbrev pub ghost-create_lock : goal.ghost-create_lock
ghost-create_lock g a = g.w

abbrev pub ghost-create_semaphore : goal.ghost-create_semaphore
ghost-create_semaphore g a = g.w

abbrev pub ghost-fetch : goal.ghost-fetch
ghost-fetch g a = g.w

abbrev pub ghost-high : goal.ghost-high
ghost-high g a = g.w

abbrev pub ghost-low : goal.ghost-low
ghost-low g a = g.w

abbrev pub ghost-new_array : goal.ghost-new_array
ghost-new_array g a = g.w

abbrev pub ghost-rem_high : goal.ghost-rem_high
ghost-rem_high g a = g.w

abbrev pub ghost-rem_low : goal.ghost-rem_low
ghost-rem_low g a = g.w

abbrev pub ghost-same : goal.ghost-same
ghost-same g a = g.w

abbrev pub ghost-set_item : goal.ghost-set_item
ghost-set_item g a = g.w

abbrev pub ghost-signal : goal.ghost-signal
ghost-signal g a = g.w

abbrev pub ghost-size : goal.ghost-size
ghost-size g a = g.w

abbrev pub ghost-top : goal.ghost-top
ghost-top g a = g.w

abbrev pub ghost-wait : goal.ghost-wait
ghost-wait g a = g.w

abbrev pub ghost-wait_for : goal.ghost-wait_for
ghost-wait_for g a = g.w

abbrev pub ghost-on_values : goal.ghost-on_values
ghost-on_values g a = g.w
