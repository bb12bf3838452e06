-- The programs of the tests run so many steps.
use Rattle.std.proofs.Common.{◌≡◌, ℕ, pos, true, false, List, [], ◌∷◌, ◌++◌, codes, Option, Some, None, IsSome, refl}
use Rattle.std.specs.Prelude.{◌-◌}
use Rattle.clu_tree.specs.declared.value.Addr.{Addr}
use Rattle.clu_tree.specs.declared.value.Value.{Value}
use Rattle.clu_tree.specs.declared.value.Value.TheVariants as value
use Rattle.clu_tree.specs.declared.value.Sig.{Sig}
use Rattle.clu_tree.specs.declared.tree.Stmt.{Stmt}
use Rattle.clu_tree.specs.declared.program.Routine.{Routine}
use Rattle.machine_rules.specs.declared.frame.Frame.{Frame}
use Rattle.machine_rules.specs.declared.act.Act.{Act}
use Rattle.machine_rules.specs.Examples.{added, adds, array_loop, begins, both, lock, locked, nap_body, program, signals_bad, text, third, three_quotients, two_signals, world}
use Rattle.machine_rules.specs.Row.{World, Next, give, raise}
use Rattle.machine_rules.specs.Runs.{Ran, after, run}
use Rattle.machine_rules.proofs.Worked as worked
use Rattle.machine_rules.proofs.WorkedPrograms as programs
use Rattle.machine_tests.specs.Examples.{end_of, given, raised, ran, ran_on}
use Rattle.machine_tests.specs.Programs.{asking, bare_sig, choosing, counter_shown, counting, fails, fields, forked, get, growing, leaving, losing, make, maybe, node_vars, numbers, passes, passing, semaphore, showing, shrinking, signalled, strings, tags, takes_number, tried, waited, waited_on}
use Rattle.machine_tests.proofs.Acts as acts
use Rattle.machine_tests.proofs.Arrays as arrays
use Rattle.machine_tests.proofs.Sequential as sequential
use Rattle.machine_tests.proofs.Structured as structured

-- ---- whole runs

some_end : (o : Option Ran) (r : Ran) → o ≡ Some r → IsSome (end_of o)
some_end o r e = rw e refl

pub nothing : (body : List Stmt) (others : List Routine) → body ≡ [] → IsSome (ran 1 (program body others) [])
nothing body others e = rw e refl

pub hello : (body : List Stmt) (others : List Routine) → body ≡ text (codes "hi") ∷ [] → others ≡ [] → IsSome (ran 4 (program body others) [])
hello body others e k = rw (e, k) (some_end _ _ worked.hello)

pub nap : (body : List Stmt) (others : List Routine) → body ≡ nap_body (pos 100) → others ≡ [] → IsSome (ran 7 (program body others) [])
nap body others e k = rw (e, k) (some_end _ _ worked.nap)

pub no_nap : (body : List Stmt) (others : List Routine) → body ≡ nap_body (pos 0) → others ≡ [] → IsSome (ran 7 (program body others) [])
no_nap body others e k = rw (e, k) (some_end _ _ worked.no_nap)

pub arithmetic : (body : List Stmt) (others : List Routine) → body ≡ three_quotients ++ both ∷ third ∷ [] → others ≡ [] → IsSome (ran 54 (program body others) [])
arithmetic body others e k = rw (e, k) (some_end _ _ worked.arith_steps)

pub sum : (body : List Stmt) (others : List Routine) → body ≡ added ∷ [] → others ≡ adds ∷ [] → IsSome (ran 15 (program body others) [])
sum body others e k = rw (e, k) (some_end _ _ programs.sum_steps)

pub signals : (body : List Stmt) (others : List Routine) → body ≡ two_signals → others ≡ signals_bad ∷ [] → IsSome (ran 12 (program body others) [])
signals body others e k = rw (e, k) (some_end _ _ programs.signals_steps)

pub elements : (body : List Stmt) (others : List Routine) → body ≡ array_loop → others ≡ [] → IsSome (ran 29 (program body others) [])
elements body others e k = rw (e, k) (some_end _ _ programs.elements_steps)

pub region : (body : List Stmt) (others : List Routine) → body ≡ lock ∷ locked ∷ [] → others ≡ [] → IsSome (ran 12 (program body others) [])
region body others e k = rw (e, k) (some_end _ _ programs.region_steps)

pub counts : (body : List Stmt) (others : List Routine) → body ≡ counting → others ≡ [] → IsSome (ran 48 (program body others) [])
counts body others e k = rw (e, k) (some_end _ _ sequential.counting_steps)

pub chooses : (body : List Stmt) (others : List Routine) → body ≡ choosing → others ≡ [] → IsSome (ran 15 (program body others) [])
chooses body others e k = rw (e, k) (some_end _ _ sequential.choosing_steps)

pub loops : (body : List Stmt) (others : List Routine) → body ≡ numbers → others ≡ [] → IsSome (ran 22 (program body others) [])
loops body others e k = rw (e, k) (some_end _ _ sequential.numbers_steps)

pub shrinks : (body : List Stmt) (others : List Routine) → body ≡ shrinking → others ≡ [] → IsSome (ran 22 (program body others) [])
shrinks body others e k = rw (e, k) (some_end _ _ sequential.shrinking_steps)

pub arrays_used : (body : List Stmt) (others : List Routine) → body ≡ growing ++ showing ++ losing → others ≡ [] → IsSome (ran 64 (program body others) [])
arrays_used body others e k = rw (e, k) (some_end _ _ arrays.arrays_steps)

pub record_used : (body : List Stmt) (others : List Routine) → body ≡ fields → others ≡ [] → IsSome (ran 26 (program body others) [])
record_used body others e k = rw (e, k) (some_end _ _ sequential.fields_steps)

pub tag_taken : (body : List Stmt) (others : List Routine) → body ≡ tags → others ≡ [] → IsSome (ran 20 (program body others) [])
tag_taken body others e k = rw (e, k) (some_end _ _ structured.tags_steps)

pub strings_shown : (body : List Stmt) (others : List Routine) → body ≡ strings → others ≡ [] → IsSome (ran 17 (program body others) [])
strings_shown body others e k = rw (e, k) (some_end _ _ structured.strings_steps)

pub cluster : (body : List Stmt) (others : List Routine) → body ≡ counter_shown ∷ [] → others ≡ make ∷ get ∷ [] → IsSome (ran 20 (program body others) [])
cluster body others e k = rw (e, k) (some_end _ _ structured.counter_steps)

pub passed_on : (body : List Stmt) (others : List Routine) → body ≡ passing → others ≡ signals_bad ∷ passes ∷ fails ∷ [] → IsSome (ran 31 (program body others) [])
passed_on body others e k = rw (e, k) (some_end _ _ structured.passing_steps)

pub left : (body : List Stmt) (others : List Routine) → body ≡ leaving → others ≡ [] → IsSome (ran 9 (program body others) [])
left body others e k = rw (e, k) (some_end _ _ structured.leaving_steps)

pub forks : (body : List Stmt) (others : List Routine) → body ≡ forked ∷ [] → others ≡ takes_number ∷ [] → IsSome (ran 4 (program body others) [])
forks body others e k = rw (e, k) (some_end _ _ acts.forked_steps)

pub vars_used : (body : List Stmt) (others : List Routine) (vars : List (Option Value)) → body ≡ node_vars → others ≡ [] → vars ≡ Some (value.Int (pos 5)) ∷ None ∷ [] → IsSome (ran 14 (program body others) vars)
vars_used body others vars e k v = rw (e, k, v) (some_end _ _ acts.node_vars_steps)

-- ---- runs with an answer of the node

given_run : (n last : ℕ) (body : List Stmt) (others : List Routine) (v : Value) (w : World) (f : Frame) (fs : List Frame) (acts : List Act) (left : List Addr) (b : Ran) →
    run n (world body others) (begins body) ≡ Some (record { world = w; frames = f ∷ fs; acts = acts; left = left }) →
    run (last - n) w (give v (f ∷ fs)) ≡ Some b → IsSome (ran_on n (given v) last (program body others))
given_run n last body others v w f fs acts left b one more = rw (one, more) refl

raised_run : (n last : ℕ) (body : List Stmt) (others : List Routine) (sig : Sig) (w : World) (f : Frame) (fs : List Frame) (acts : List Act) (left : List Addr) (next : Next) (b : Ran) →
    run n (world body others) (begins body) ≡ Some (record { world = w; frames = f ∷ fs; acts = acts; left = left }) →
    raise w sig (f ∷ fs) ≡ Some next → run (last - n) (after next w) next.frames ≡ Some b → IsSome (ran_on n (raised sig) last (program body others))
raised_run n last body others sig w f fs acts left next b one raises more = rw (one, raises, more) refl

pub asks : (body : List Stmt) (others : List Routine) → body ≡ asking → others ≡ adds ∷ [] → IsSome (ran_on 6 (given (value.Int (pos 5))) 13 (program body others))
asks body others e k = rw (e, k) (given_run 6 13 asking (adds ∷ []) (value.Int (pos 5)) _ _ _ _ _ _ acts.asking_steps acts.asking_ends)

pub signalled_on : (body : List Stmt) (others : List Routine) → body ≡ semaphore ∷ signalled ∷ [] → others ≡ [] → IsSome (ran_on 9 (given value.Nil) 11 (program body others))
signalled_on body others e k = rw (e, k) (given_run 9 11 (semaphore ∷ signalled ∷ []) [] value.Nil _ _ _ _ _ _ acts.semaphore_signals acts.semaphore_signals_ends)

pub waits_on : (body : List Stmt) (others : List Routine) → body ≡ semaphore ∷ waited_on ∷ [] → others ≡ [] → IsSome (ran_on 9 (given value.Nil) 11 (program body others))
waits_on body others e k = rw (e, k) (given_run 9 11 (semaphore ∷ waited_on ∷ []) [] value.Nil _ _ _ _ _ _ acts.semaphore_waits_on acts.semaphore_waits_on_ends)

pub got : (body : List Stmt) (others : List Routine) → body ≡ semaphore ∷ waited ∷ [] → others ≡ [] → IsSome (ran_on 10 (given (value.Bool true)) 15 (program body others))
got body others e k = rw (e, k) (given_run 10 15 (semaphore ∷ waited ∷ []) [] (value.Bool true) _ _ _ _ _ _ acts.semaphore_waits acts.semaphore_waits_got)

pub too_late : (body : List Stmt) (others : List Routine) → body ≡ semaphore ∷ waited ∷ [] → others ≡ [] → IsSome (ran_on 10 (given (value.Bool false)) 15 (program body others))
too_late body others e k = rw (e, k) (given_run 10 15 (semaphore ∷ waited ∷ []) [] (value.Bool false) _ _ _ _ _ _ acts.semaphore_waits acts.semaphore_waits_late)

pub handled : (body : List Stmt) (others : List Routine) (sig : Sig) → body ≡ tried ∷ [] → others ≡ adds ∷ [] → sig ≡ bare_sig (codes "late") → IsSome (ran_on 7 (raised sig) 11 (program body others))
handled body others sig e k l = rw (e, k, l) (raised_run 7 11 (tried ∷ []) (adds ∷ []) (bare_sig (codes "late")) _ _ _ _ _ _ _ acts.tried_steps (acts.tried_lands acts.tried_world) acts.tried_ends)

pub dies : (body : List Stmt) (others : List Routine) (sig : Sig) → body ≡ maybe ∷ [] → others ≡ adds ∷ [] → sig ≡ bare_sig (codes "late") → IsSome (ran_on 6 (raised sig) 6 (program body others))
dies body others sig e k l = rw (e, k, l) (raised_run 6 6 (maybe ∷ []) (adds ∷ []) (bare_sig (codes "late")) _ _ _ _ _ _ _ acts.maybe_steps (acts.maybe_dies acts.maybe_world) refl)
