-- Small programs, computed: which are typed, and what they are filled with.
use Rattle.std.proofs.Common.{◌≡◌, ℕ, pos, Bool, true, false, List, [], ◌∷◌, codes, Option, Some, None, refl, ap, ◌∙◌}
use Rattle.clu_tree.specs.declared.value.Value.TheVariants as v
use Rattle.clu_tree.specs.declared.shape.Shape.TheVariants as shape
use Rattle.clu_tree.specs.declared.value.Value.{Value}
use Rattle.clu_tree.specs.declared.tree.Expr.TheVariants as e
use Rattle.clu_tree.specs.declared.tree.Stmt.{Stmt}
use Rattle.clu_tree.specs.declared.tree.Stmt.TheVariants as st
use Rattle.clu_tree.specs.declared.program.Routine.{Routine}
use Rattle.clu_tree.specs.declared.program.NodePart.TheVariants as np
use Rattle.clu_tree.specs.declared.program.Program.{Program}
use Rattle.clu_typing.specs.Options.{◌>>=◌, needs}
use Rattle.clu_typing.specs.Same.{Kind, key_eq, key}
use Rattle.clu_typing.specs.Types.{Declarations, same}
use Rattle.clu_typing.specs.Exprs.{Place, Scope, Found, value_of, of_type}
use Rattle.clu_typing.specs.Stmts.{Plan, plan, stays}
use Rattle.clu_typing.specs.Programs.{filled, declarations_of, place}
use Rattle.clu_typing.proofs.Computes.{key-Int, key-Str, expr-Literal, plan-PutLine, plan-Sleep}

-- a routine p of this body
abbrev main : List Stmt → Routine
main body = record { name = codes "p"; params = []; result = None; signals = []; body = body; line = 1 }

-- the one node starts it
abbrev program : List Stmt → Program
program body = record {
  equates = [];
  node_vars = [];
  clusters = [];
  routines = main body ∷ [];
  nodes = record { number = pos 1; parts = np.Start (codes "p") [] 4 ∷ []; line = 4 } ∷ [];
}

-- what comes of a program of one statement, by what comes of the statement
abbrev of_one : Stmt → Option (Stmt × Scope) → Option Program
of_one s o = o >>= (λ x. Some (x.0 ∷ [])) >>= (λ ys. Some (main ys)) >>= (λ r. Some (r ∷ [])) >>= (λ rs. Some (record (program (s ∷ [])) { routines = rs }))

abbrev where_of : Stmt → Place
where_of s = place (declarations_of (program (s ∷ []))) (record { number = 0; name = codes "p"; owner = None; outside = record { params = []; result = None; signals = [] }; inside = record { params = []; result = None; signals = [] } })

one_statement : (s : Stmt) → filled (program (s ∷ [])) ≡ of_one s (plan (where_of s) s [] [])
one_statement s = refl

-- ---- the types of literals

strings_same : (d : Declarations) → same d shape.Str shape.Str ≡ true
strings_same d = ap (λ k. key_eq k k) (key-Str d.rows)

int_is_no_string : (d : Declarations) → same d shape.Int shape.Str ≡ false
int_is_no_string d = ap (λ k. key_eq k (key d.rows shape.Str)) (key-Int d.rows) ∙ ap (key_eq (Kind 2)) (key-Str d.rows)

string_is_no_int : (d : Declarations) → same d shape.Str shape.Int ≡ false
string_is_no_int d = ap (λ k. key_eq k (key d.rows shape.Int)) (key-Str d.rows) ∙ ap (key_eq (Kind 4)) (key-Int d.rows)

-- ---- programs of one statement

abbrev printed : Value → Stmt
printed x = st.PutLine (e.Literal x 2) 2

abbrev slept : Value → Stmt
slept x = st.Sleep (e.Literal x 2) 2

prints_string : (p : Place) (text : List ℕ) → plan p (printed (v.Str text)) [] [] ≡ Some (printed (v.Str text), [])
prints_string p text =
    ap (λ (q : Plan). q [] []) (plan-PutLine p (e.Literal (v.Str text) 2) 2)
    ∙ ap (λ (z : Found). stays [] (of_type p.declarations shape.Str (value_of z) >>= λ x. Some (st.PutLine x 2))) (expr-Literal p [] [] (v.Str text) 2)
    ∙ ap (λ (b : Bool). stays [] (needs b (Some (e.Literal (v.Str text) 2)) >>= λ x. Some (st.PutLine x 2))) (strings_same p.declarations)

prints_int : (p : Place) → plan p (printed (v.Int (pos 1))) [] [] ≡ None
prints_int p =
    ap (λ (q : Plan). q [] []) (plan-PutLine p (e.Literal (v.Int (pos 1)) 2) 2)
    ∙ ap (λ (z : Found). stays [] (of_type p.declarations shape.Str (value_of z) >>= λ x. Some (st.PutLine x 2))) (expr-Literal p [] [] (v.Int (pos 1)) 2)
    ∙ ap (λ (b : Bool). stays [] (needs b (Some (e.Literal (v.Int (pos 1)) 2)) >>= λ x. Some (st.PutLine x 2))) (int_is_no_string p.declarations)

sleeps_string : (p : Place) → plan p (slept (v.Str (codes "x"))) [] [] ≡ None
sleeps_string p =
    ap (λ (q : Plan). q [] []) (plan-Sleep p (e.Literal (v.Str (codes "x")) 2) 2)
    ∙ ap (λ (z : Found). stays [] (of_type p.declarations shape.Int (value_of z) >>= λ x. Some (st.Sleep x 2))) (expr-Literal p [] [] (v.Str (codes "x")) 2)
    ∙ ap (λ (b : Bool). stays [] (needs b (Some (e.Literal (v.Str (codes "x")) 2)) >>= λ x. Some (st.Sleep x 2))) (string_is_no_int p.declarations)

-- a program that prints one line is typed, and there is nothing to fill
pub hello_is_typed : filled (program (printed (v.Str (codes "hi")) ∷ [])) ≡ Some (program (printed (v.Str (codes "hi")) ∷ []))
hello_is_typed = one_statement (printed (v.Str (codes "hi"))) ∙ ap (of_one (printed (v.Str (codes "hi")))) (prints_string (where_of (printed (v.Str (codes "hi")))) (codes "hi"))

-- `put_line` takes a string
pub int_is_not_printed : filled (program (printed (v.Int (pos 1)) ∷ [])) ≡ None
int_is_not_printed = one_statement (printed (v.Int (pos 1))) ∙ ap (of_one (printed (v.Int (pos 1)))) (prints_int (where_of (printed (v.Int (pos 1)))))

-- `sleep` takes an int
pub string_is_not_slept : filled (program (slept (v.Str (codes "x")) ∷ [])) ≡ None
string_is_not_slept = one_statement (slept (v.Str (codes "x"))) ∙ ap (of_one (slept (v.Str (codes "x")))) (sleeps_string (where_of (slept (v.Str (codes "x")))))

-- ---- names and node blocks

-- there is a node
pub no_node_is_refused : filled (record (program []) { nodes = [] }) ≡ None
no_node_is_refused = refl

-- node blocks are numbered from 1 on
pub node_two_alone_is_refused : filled (record (program []) { nodes = record { number = pos 2; parts = []; line = 4 } ∷ [] }) ≡ None
node_two_alone_is_refused = refl

-- routines have names of their own
pub two_of_a_name_are_refused : filled (record (program []) { routines = main [] ∷ main [] ∷ [] }) ≡ None
two_of_a_name_are_refused = refl

-- `start` has as many arguments as there are parameters
pub argument_too_many_is_refused : filled (record (program []) { nodes = record { number = pos 1; parts = np.Start (codes "p") (v.Nil ∷ []) 4 ∷ []; line = 4 } ∷ [] }) ≡ None
argument_too_many_is_refused = refl
