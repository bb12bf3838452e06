-- Statements that are read are found, wherever a body ends.
use Rattle.std.proofs.Common.{◌≡◌, ℕ, zero, suc, ◌+◌, ◌<◌, ◌≤◌, Bool, true, false, List, [], ◌∷◌, length, map, Option, Some, None, refl, ap, ◌∙◌, arith}
use Rattle.std.proofs.lemmas.Bool.{cond-true, cond-false}
use Rattle.clu_tree.specs.declared.lexeme.Key.TheVariants as key
use Rattle.clu_tree.specs.declared.lexeme.Lexeme.TheVariants as lexeme
use Rattle.clu_tree.specs.declared.shape.Shape.{Shape}
use Rattle.clu_tree.specs.declared.shape.Named.{Named}
use Rattle.clu_tree.specs.declared.tree.Meant.TheVariants as meant
use Rattle.clu_tree.specs.declared.tree.Expr.{Expr}
use Rattle.clu_tree.specs.declared.tree.Target.TheVariants as t
use Rattle.clu_tree.specs.declared.tree.Iter.{Iter}
use Rattle.clu_tree.specs.declared.tree.Stmt.{Stmt}
use Rattle.clu_tree.specs.declared.tree.Stmt.TheVariants as st
use Rattle.clu_tree.specs.declared.tree.Arm.{Arm, roll-Arm}
use Rattle.clu_tree.specs.declared.tree.TagArm.{TagArm, roll-TagArm}
use Rattle.clu_tree.specs.declared.tree.When.{When, roll-When}
use Rattle.clu_tree.specs.declared.tree.Handlers.{Handlers, roll-Handlers}
use Rattle.clu_grammar.specs.Grammar as g
use Rattle.clu_grammar.specs.Grammar.{Tokens, line_of, ReadsShape, ReadsExpr, ReadsNames, ReadsVariable, ReadsIter, ReadsBody, ReadsStmt, ReadsSimple, ReadsArms, ReadsElse, ReadsTags, ReadsOthers, ReadsWhens, ReadsHandlers}
use Rattle.clu_grammar.specs.Nesting.{stmt_nesting, arm_nesting, tag_nesting, when_nesting, handlers_nesting, deepest}
use Rattle.clu_grammar.specs.ExprPlan.{Found, Parser, ◌>>=◌, within, shape, levels}
use Rattle.clu_grammar.specs.StmtPlan as plan
use Rattle.clu_grammar.specs.StmtPlan.{colon, then_key, do_key, in_key, end_key, ends_body}
use Rattle.clu_grammar.proofs.Binds.{bind_some, within_fits}
use Rattle.clu_grammar.proofs.Nests.{others_nesting, nests-Assign, nests-If, nests-While, nests-For, nests-Tagcase, nests-Begin, nests-Region, nests-Except, nests-Resignal, nests-Arm, nests-TagArm, nests-When, nests-Handlers, stmt_nests_pos}
use Rattle.clu_grammar.proofs.Shrinks.{shrinks}
use Rattle.clu_grammar.proofs.Shapes.{shape-finds, commas}
use Rattle.clu_grammar.proofs.StmtShrinks.{shrinks-names, shrinks-variable, shrinks-body, shrinks-stmt}
use Rattle.clu_grammar.proofs.StmtFollows.{suffixed, headed, Follows, stmt-begins, ended-follows}
use Rattle.clu_grammar.proofs.StmtFront.{assigns-field, assigns-item, call-finds}
use Rattle.clu_grammar.proofs.StmtPieces.{names-finds, expr-finds, variable-finds, iter-finds, declare-finds, declare_as-finds, assigns-name, remote_to-finds, remote_alone-finds, put_line-finds, sleep-finds, fork-finds, leave-finds, give-finds, signal-finds, signal_with-finds}

-- ---- what comes behind a body

abbrev at_end : Tokens → Bool
at_end (lexeme.Key key.End _ ∷ _) = true
at_end _ = false

abbrev at_arm : Tokens → Bool
at_arm (lexeme.Key key.Elseif _ ∷ _) = true
at_arm _ = false

abbrev at_tag : Tokens → Bool
at_tag (lexeme.Key key.Tag _ ∷ _) = true
at_tag _ = false

abbrev at_when : Tokens → Bool
at_when (lexeme.Key key.When _ ∷ _) = true
at_when _ = false

else-ended : {ts r : Tokens} {o : Option (List Stmt)} → ReadsElse ts r o → (at_arm ts ≡ false) × (ends_body ts ≡ true)
else-ended g.no_else = (refl, refl)
else-ended (g.else p) = (refl, refl)

others-ended : {ts r : Tokens} {o : Option (List Stmt)} → ReadsOthers ts r o → (at_tag ts ≡ false) × (ends_body ts ≡ true)
others-ended g.no_others = (refl, refl)
others-ended (g.others p) = (refl, refl)

arms-ended : {ts r : Tokens} {xs : List Arm} → ReadsArms ts r xs → ends_body r ≡ true → ends_body ts ≡ true
arms-ended g.no_arms h = h
arms-ended (g.arm p q w) h = refl

tags-ended : {ts r : Tokens} {xs : List TagArm} → ReadsTags ts r xs → ends_body r ≡ true → ends_body ts ≡ true
tags-ended g.no_tags h = h
tags-ended (g.tag p q w) h = refl

whens-ended : {ts r : Tokens} {xs : List When} → ReadsWhens ts r xs → ends_body r ≡ true → ends_body ts ≡ true
whens-ended g.no_whens h = h
whens-ended (g.when p v q w) h = refl

end-ended : (r : Tokens) → at_end r ≡ true → (at_when r ≡ false) × (ends_body r ≡ true)
end-ended (lexeme.Key key.End l ∷ r) h = (refl, refl)
end-ended _ h = absurd cc

variable-plain : {ts q : Tokens} {o : Option Named} {j : ℕ} → ReadsVariable ts (lexeme.Key key.Colon j ∷ q) o → commas ts ≡ false
variable-plain g.no_variable = refl
variable-plain (g.variable p) = refl

-- ---- what the plan does where its parts were found

module _ (bd : Parser (List Stmt)) (d : ℕ) where
  arms-end : (n : ℕ) (r : Tokens) → at_arm r ≡ false → plan.arms bd d (suc n) r ≡ Some ([], r)
  unfolding plan.arms
  arms-end n (lexeme.Key key.Elseif l ∷ r) h = absurd cc
  arms-end n _ h = refl

  arm-finds : (n l k : ℕ) (m q w r : Tokens) (a : Expr) (b : List Stmt) (xs : List Arm) → levels d 5 m ≡ Some (a, lexeme.Key key.Then k ∷ q) → bd q ≡ Some (b, w) → plan.arms bd d n w ≡ Some (xs, r) →
      plan.arms bd d (suc n) (lexeme.Key key.Elseif l ∷ m) ≡ Some (roll-Arm (record { test = a; body = b }) ∷ xs, r)
  unfolding plan.arms
  arm-finds n l k m q w r a b xs h i j =
      ap (λ (o : Found Expr). o >>= then_key >>= λ a q. bd q >>= λ b w. plan.arms bd d n w >>= λ xs r. Some (roll-Arm (record { test = a; body = b }) ∷ xs, r)) h
      ∙ bind_some i (λ b w. plan.arms bd d n w >>= λ xs r. Some (roll-Arm (record { test = a; body = b }) ∷ xs, r))
      ∙ bind_some j (λ xs r. Some (roll-Arm (record { test = a; body = b }) ∷ xs, r))

  tags-end : (n : ℕ) (r : Tokens) → at_tag r ≡ false → plan.tags bd d (suc n) r ≡ Some ([], r)
  unfolding plan.tags
  tags-end n (lexeme.Key key.Tag l ∷ r) h = absurd cc
  tags-end n _ h = refl

  tag-finds : (n l k j : ℕ) (x : List ℕ) (m q w r : Tokens) (o : Option Named) (b : List Stmt) (xs : List TagArm) → plan.variable bd d m ≡ Some (o, lexeme.Key key.Colon j ∷ q) → bd q ≡ Some (b, w) →
      plan.tags bd d n w ≡ Some (xs, r) → plan.tags bd d (suc n) (lexeme.Key key.Tag l ∷ lexeme.Name x k ∷ m) ≡ Some (roll-TagArm (record { tag = x; variable = o; body = b; meant = meant.Unknown }) ∷ xs, r)
  unfolding plan.tags
  tag-finds n l k j x m q w r o b xs h i u =
      ap (λ (z : Found (Option Named)). z >>= colon >>= λ o q. bd q >>= λ b w. plan.tags bd d n w >>= λ xs r. Some (roll-TagArm (record { tag = x; variable = o; body = b; meant = meant.Unknown }) ∷ xs, r)) h
      ∙ bind_some i (λ b w. plan.tags bd d n w >>= λ xs r. Some (roll-TagArm (record { tag = x; variable = o; body = b; meant = meant.Unknown }) ∷ xs, r))
      ∙ bind_some u (λ xs r. Some (roll-TagArm (record { tag = x; variable = o; body = b; meant = meant.Unknown }) ∷ xs, r))

  whens-end : (n : ℕ) (r : Tokens) → at_when r ≡ false → plan.whens bd d (suc n) r ≡ Some ([], r)
  unfolding plan.whens
  whens-end n (lexeme.Key key.When l ∷ r) h = absurd cc
  whens-end n _ h = refl

  when-finds : (n l k : ℕ) (m q w p r : Tokens) (xs : List (List ℕ)) (o : Option Named) (b : List Stmt) (ws : List When) → plan.names (length m) m ≡ Some (xs, q) →
      plan.variable bd d q ≡ Some (o, lexeme.Key key.Colon k ∷ w) → bd w ≡ Some (b, p) → plan.whens bd d n p ≡ Some (ws, r) →
      plan.whens bd d (suc n) (lexeme.Key key.When l ∷ m) ≡ Some (roll-When (record { names = xs; variable = o; body = b }) ∷ ws, r)
  unfolding plan.whens
  when-finds n l k m q w p r xs o b ws e h i u =
      bind_some e (λ xs q. plan.variable bd d q >>= colon >>= λ o w. bd w >>= λ b p. plan.whens bd d n p >>= λ ws r. Some (roll-When (record { names = xs; variable = o; body = b }) ∷ ws, r))
      ∙ ap (λ (z : Found (Option Named)). z >>= colon >>= λ o w. bd w >>= λ b p. plan.whens bd d n p >>= λ ws r. Some (roll-When (record { names = xs; variable = o; body = b }) ∷ ws, r)) h
      ∙ bind_some i (λ b p. plan.whens bd d n p >>= λ ws r. Some (roll-When (record { names = xs; variable = o; body = b }) ∷ ws, r))
      ∙ bind_some u (λ ws r. Some (roll-When (record { names = xs; variable = o; body = b }) ∷ ws, r))

  else-finds : (l k : ℕ) (m r : Tokens) (b : List Stmt) → bd m ≡ Some (b, lexeme.Key key.End k ∷ r) → plan.otherwise bd d (lexeme.Key key.Else l ∷ m) ≡ Some (Some b, r)
  else-finds l k m r b h = ap (λ (z : Found (List Stmt)). z >>= end_key >>= λ b r. Some (Some b, r)) h

  others-finds : (l j k : ℕ) (m r : Tokens) (b : List Stmt) → bd m ≡ Some (b, lexeme.Key key.End k ∷ r) → plan.others bd d (lexeme.Key key.Others l ∷ lexeme.Key key.Colon j ∷ m) ≡ Some (Some b, r)
  others-finds l j k m r b h = ap (λ (z : Found (List Stmt)). z >>= end_key >>= λ b r. Some (Some b, r)) h

  handlers-end : (ts r : Tokens) (ws : List When) → plan.whens bd d (suc (length ts)) ts ≡ Some (ws, r) → at_end r ≡ true → plan.handlers bd d ts ≡ Some (roll-Handlers (record { whens = ws; others = None }), r)
  handlers-end ts r ws h e = bind_some h (plan.other_handler bd d) ∙ go r e
    where
      go : (r : Tokens) → at_end r ≡ true → plan.other_handler bd d ws r ≡ Some (roll-Handlers (record { whens = ws; others = None }), r)
      go (lexeme.Key key.End l ∷ r) e = refl
      go _ e = absurd cc

  handlers-others : (l k : ℕ) (ts m r : Tokens) (ws : List When) (b : List Stmt) → plan.whens bd d (suc (length ts)) ts ≡ Some (ws, lexeme.Key key.Others l ∷ lexeme.Key key.Colon k ∷ m) → bd m ≡ Some (b, r) →
      plan.handlers bd d ts ≡ Some (roll-Handlers (record { whens = ws; others = Some b }), r)
  handlers-others l k ts m r ws b h i = bind_some h (plan.other_handler bd d) ∙ bind_some i (λ b r. Some (roll-Handlers (record { whens = ws; others = Some b }), r))

  if-finds : (l k : ℕ) (m q w p r : Tokens) (a : Expr) (b : List Stmt) (xs : List Arm) (o : Option (List Stmt)) → levels d 5 m ≡ Some (a, lexeme.Key key.Then k ∷ q) → bd q ≡ Some (b, w) →
      plan.arms bd d (suc (length w)) w ≡ Some (xs, p) → plan.otherwise bd d p ≡ Some (o, r) → stmt_nesting (st.If a b xs o l) ≤ d → plan.simple bd d (lexeme.Key key.If l ∷ m) ≡ Some (st.If a b xs o l, r)
  unfolding plan.simple
  if-finds l k m q w p r a b xs o h i u v f =
      ap (λ (z : Found Expr). z >>= then_key >>= λ a q. bd q >>= λ b w. plan.arms bd d (suc (length w)) w >>= λ xs p. plan.otherwise bd d p >>= λ o. within stmt_nesting d (st.If a b xs o l)) h
      ∙ bind_some i (λ b w. plan.arms bd d (suc (length w)) w >>= λ xs p. plan.otherwise bd d p >>= λ o. within stmt_nesting d (st.If a b xs o l))
      ∙ bind_some u (λ xs p. plan.otherwise bd d p >>= λ o. within stmt_nesting d (st.If a b xs o l))
      ∙ bind_some v (λ o. within stmt_nesting d (st.If a b xs o l))
      ∙ within_fits stmt_nesting d (st.If a b xs o l) r f

  while-finds : (l k j : ℕ) (m q r : Tokens) (a : Expr) (b : List Stmt) → levels d 5 m ≡ Some (a, lexeme.Key key.Do k ∷ q) → bd q ≡ Some (b, lexeme.Key key.End j ∷ r) → stmt_nesting (st.While a b l) ≤ d →
      plan.simple bd d (lexeme.Key key.While l ∷ m) ≡ Some (st.While a b l, r)
  unfolding plan.simple
  while-finds l k j m q r a b h i f =
      ap (λ (z : Found Expr). z >>= do_key >>= λ a q. bd q >>= end_key >>= λ b. within stmt_nesting d (st.While a b l)) h
      ∙ bind_some (bind_some i end_key) (λ b. within stmt_nesting d (st.While a b l))
      ∙ within_fits stmt_nesting d (st.While a b l) r f

  for-finds : (x : List ℕ) (l k j h u v : ℕ) (m q w r : Tokens) (s : Shape) (i : Iter) (b : List Stmt) → shape d m ≡ Some (s, lexeme.Key key.In h ∷ q) → plan.iter bd d q ≡ Some (i, lexeme.Key key.Do u ∷ w) →
      bd w ≡ Some (b, lexeme.Key key.End v ∷ r) → stmt_nesting (st.For x s i b l) ≤ d → plan.simple bd d (lexeme.Key key.For l ∷ lexeme.Name x k ∷ lexeme.Key key.Colon j ∷ m) ≡ Some (st.For x s i b l, r)
  unfolding plan.simple
  for-finds x l k j h u v m q w r s i b e n p f =
      ap (λ (z : Found Shape). z >>= in_key >>= λ t q. plan.iter bd d q >>= do_key >>= λ y w. bd w >>= end_key >>= λ b. within stmt_nesting d (st.For x t y b l)) e
      ∙ ap (λ (z : Found Iter). z >>= do_key >>= λ y w. bd w >>= end_key >>= λ b. within stmt_nesting d (st.For x s y b l)) n
      ∙ bind_some (bind_some p end_key) (λ b. within stmt_nesting d (st.For x s i b l))
      ∙ within_fits stmt_nesting d (st.For x s i b l) r f

  tagcase-finds : (l : ℕ) (m q w r : Tokens) (a : Expr) (xs : List TagArm) (o : Option (List Stmt)) → levels d 5 m ≡ Some (a, q) → plan.tags bd d (suc (length q)) q ≡ Some (xs, w) → plan.others bd d w ≡ Some (o, r) →
      stmt_nesting (st.Tagcase a xs o l) ≤ d → plan.simple bd d (lexeme.Key key.Tagcase l ∷ m) ≡ Some (st.Tagcase a xs o l, r)
  unfolding plan.simple
  tagcase-finds l m q w r a xs o h i u f =
      bind_some h (λ a q. plan.tags bd d (suc (length q)) q >>= λ xs w. plan.others bd d w >>= λ o. within stmt_nesting d (st.Tagcase a xs o l))
      ∙ bind_some i (λ xs w. plan.others bd d w >>= λ o. within stmt_nesting d (st.Tagcase a xs o l))
      ∙ bind_some u (λ o. within stmt_nesting d (st.Tagcase a xs o l))
      ∙ within_fits stmt_nesting d (st.Tagcase a xs o l) r f

  begin-finds : (l k : ℕ) (m r : Tokens) (b : List Stmt) → bd m ≡ Some (b, lexeme.Key key.End k ∷ r) → stmt_nesting (st.Begin b l) ≤ d → plan.simple bd d (lexeme.Key key.Begin l ∷ m) ≡ Some (st.Begin b l, r)
  unfolding plan.simple
  begin-finds l k m r b i f = bind_some (bind_some i end_key) (λ b. within stmt_nesting d (st.Begin b l)) ∙ within_fits stmt_nesting d (st.Begin b l) r f

  region-finds : (l k j : ℕ) (m q r : Tokens) (a : Expr) (b : List Stmt) → levels d 5 m ≡ Some (a, lexeme.Key key.Do k ∷ q) → bd q ≡ Some (b, lexeme.Key key.End j ∷ r) → stmt_nesting (st.Region a b l) ≤ d →
      plan.simple bd d (lexeme.Key key.Region l ∷ m) ≡ Some (st.Region a b l, r)
  unfolding plan.simple
  region-finds l k j m q r a b h i f =
      ap (λ (z : Found Expr). z >>= do_key >>= λ a q. bd q >>= end_key >>= λ b. within stmt_nesting d (st.Region a b l)) h
      ∙ bind_some (bind_some i end_key) (λ b. within stmt_nesting d (st.Region a b l))
      ∙ within_fits stmt_nesting d (st.Region a b l) r f

  -- ---- suffixes

  -- Behind the statement x the plan goes on with suffixes, of which so many turns are left.
  abbrev Goes_on : Tokens → Tokens → Stmt → Type 0
  Goes_on ts r x = (n : ℕ) × (d < n + stmt_nesting x) × (plan.stmt bd d ts ≡ plan.suffixes bd d n x r)

  simple-goes : (ts r : Tokens) (x : Stmt) → plan.simple bd d ts ≡ Some (x, r) → Goes_on ts r x
  simple-goes ts r x h = (suc d, omega (arith, stmt_nests_pos x), bind_some h (plan.suffixes bd d (suc d)))

  except-goes : (l k : ℕ) (ts m r : Tokens) (x : Stmt) (h : Handlers) → plan.handlers bd d m ≡ Some (h, lexeme.Key key.End k ∷ r) → stmt_nesting (st.Except x h) ≤ d →
      Goes_on ts (lexeme.Key key.Except l ∷ m) x → Goes_on ts r (st.Except x h)
  unfolding plan.suffixes
  except-goes l k ts m r x h i f (zero, u, e) = absurd (omega (arith, nests-Except x h, f, u))
  except-goes l k ts m r x h i f (suc n, u, e) = (
    n,
    omega (arith, nests-Except x h, u),
    e ∙ ap (λ (z : Found Handlers). z >>= end_key >>= (λ h. within stmt_nesting d (st.Except x h)) >>= plan.suffixes bd d n) i
        ∙ bind_some (within_fits stmt_nesting d (st.Except x h) r f) (plan.suffixes bd d n),
  )

  resignal-goes : (l : ℕ) (ts m r : Tokens) (x : Stmt) (xs : List (List ℕ)) → plan.names (length m) m ≡ Some (xs, r) → stmt_nesting (st.Resignal x xs) ≤ d →
      Goes_on ts (lexeme.Key key.Resignal l ∷ m) x → Goes_on ts r (st.Resignal x xs)
  unfolding plan.suffixes
  resignal-goes l ts m r x xs i f (zero, u, e) = absurd (omega (arith, nests-Resignal x xs, f, u))
  resignal-goes l ts m r x xs i f (suc n, u, e) = (
    n,
    omega (arith, nests-Resignal x xs, u),
    e ∙ ap (λ (z : Found (List (List ℕ))). z >>= (λ xs. within stmt_nesting d (st.Resignal x xs)) >>= plan.suffixes bd d n) i
        ∙ bind_some (within_fits stmt_nesting d (st.Resignal x xs) r f) (plan.suffixes bd d n),
  )

  suffixes-end : (n : ℕ) (x : Stmt) (r : Tokens) → suffixed r ≡ false → plan.suffixes bd d (suc n) x r ≡ Some (x, r)
  unfolding plan.suffixes
  suffixes-end n x (lexeme.Key key.Except l ∷ r) h = absurd cc
  suffixes-end n x (lexeme.Key key.Resignal l ∷ r) h = absurd cc
  suffixes-end n x _ h = refl

  stmt-whole : (ts r : Tokens) (x : Stmt) → stmt_nesting x ≤ d → suffixed r ≡ false → Goes_on ts r x → plan.stmt bd d ts ≡ Some (x, r)
  stmt-whole ts r x f s (zero, u, e) = absurd (omega (arith, f, u))
  stmt-whole ts r x f s (suc n, u, e) = e ∙ suffixes-end n x r s

  stmts-end : (n : ℕ) (r : Tokens) → ends_body r ≡ true → plan.stmts bd d (suc n) r ≡ Some ([], r)
  unfolding plan.stmts
  stmts-end n r h = cond-true (ends_body r) _ _ h

  stmts-more : (n : ℕ) (ts m r : Tokens) (x : Stmt) (xs : List Stmt) → ends_body ts ≡ false → plan.stmt bd d ts ≡ Some (x, m) → plan.stmts bd d n m ≡ Some (xs, r) → plan.stmts bd d (suc n) ts ≡ Some (x ∷ xs, r)
  unfolding plan.stmts
  stmts-more n ts m r x xs e h i =
      cond-false (ends_body ts) _ _ e ∙ bind_some h (λ x m. plan.stmts bd d n m >>= λ xs r. Some (x ∷ xs, r)) ∙ bind_some i (λ xs r. Some (x ∷ xs, r))

-- ---- all of them

-- what a body finds, by what its statements find one level below
over-body : {m r : Tokens} {b : List Stmt} → ReadsBody m r b → ((n d : ℕ) → length m < n → deepest (map stmt_nesting b) ≤ suc d → plan.stmts (plan.body d) (suc d) n m ≡ Some (b, r)) → ends_body r ≡ true →
    (d : ℕ) → deepest (map stmt_nesting b) ≤ d → plan.body d m ≡ Some (b, r)
unfolding plan.body
over-body {r = r} g.body_end h e zero f = cond-true (ends_body r) _ _ e
over-body (g.body {x = x} p q) h e zero f = absurd (omega (arith, f, stmt_nests_pos x))
over-body {m = m} p h e (suc d) f = h (suc (length m)) d (omega arith) f

-- What comes behind a statement may follow it, is no suffix, and no part of a header.
pub body-begins : {ts r : Tokens} {xs : List Stmt} → ReadsBody ts r xs → ends_body r ≡ true → Follows ts × (suffixed ts ≡ false) × (headed ts ≡ false)
body-begins {r = r} g.body_end h = ended-follows r h
body-begins (g.body p q) h = let b = stmt-begins p in (b.0, b.1, b.3)

mutual
  complete-body : {ts r : Tokens} {xs : List Stmt} → ReadsBody ts r xs → ends_body r ≡ true → (n d : ℕ) → length ts < n → deepest (map stmt_nesting xs) ≤ suc d → plan.stmts (plan.body d) (suc d) n ts ≡ Some (xs, r)
  complete-body p e zero d f h = absurd (omega (arith, f))
  complete-body {r = r} g.body_end e (suc n) d f h = stmts-end (plan.body d) (suc d) n r e
  complete-body {ts = ts} {r = r} (g.body {m = m} {x = x} {xs = xs} p q) e (suc n) d f h =
      let w = body-begins q e in
      stmts-more (plan.body d) (suc d) n ts m r x xs (stmt-begins p).2 (stmt-whole (plan.body d) (suc d) ts m x (omega (arith, h)) w.1 (complete-stmt p d (omega (arith, h)) w.0))
      (complete-body q e n d (omega (arith, f, shrinks-stmt p)) (omega (arith, h)))

  complete-stmt : {ts r : Tokens} {x : Stmt} → ReadsStmt ts r x → (d : ℕ) → stmt_nesting x ≤ suc d → Follows r → Goes_on (plan.body d) (suc d) ts r x
  complete-stmt {ts = ts} {r = r} {x = x} (g.simple p) d f w = simple-goes (plan.body d) (suc d) ts r x (complete-simple p d f w)
  complete-stmt {ts = ts} {r = r} (g.except {l = l} {k = k} {m = m} {x = x} {h = h} p q) d f w =
      let s = nests-Except x h in
      except-goes (plan.body d) (suc d) l k ts m r x h (complete-handlers q refl d (omega (arith, f, s))) f (complete-stmt p d (omega (arith, f, s)) ((omega arith, refl), refl))
  complete-stmt {ts = ts} {r = r} (g.resignal {l = l} {m = m} {x = x} {xs = xs} p q) d f w =
      resignal-goes (plan.body d) (suc d) l ts m r x xs (names-finds q w.1 (length m) (omega arith)) f (complete-stmt p d (omega (arith, f, nests-Resignal x xs)) ((omega arith, refl), refl))

  complete-simple : {ts r : Tokens} {x : Stmt} → ReadsSimple ts r x → (d : ℕ) → stmt_nesting x ≤ suc d → Follows r → plan.simple (plan.body d) (suc d) ts ≡ Some (x, r)
  complete-simple {r = r} (g.declare {x = x} {l = l} {k = k} {m = m} {s = s} p) d f w = declare-finds (plan.body d) (suc d) x l k m r s p w.0.1 f
  complete-simple {r = r} (g.declare_as {x = x} {l = l} {k = k} {j = j} {m = m} {q = q} {s = s} {a = a} p u) d f w = declare_as-finds (plan.body d) (suc d) x l k j m q r s a p u w.0 f
  complete-simple {r = r} (g.assign {k = k} {m = m} {a = b} (g.to_name {x = x} {l = l}) u) d f w = assigns-name (plan.body d) (suc d) x l k m r b u w.0 f
  complete-simple {ts = ts} {r = r} (g.assign {k = j} {m = m} {a = b} (g.to_field {x = x} {k = k} {l = l} {a = a} p) u) d f w =
      assigns-field (plan.body d) (suc d) ts m r k l j a b x p (expr-finds u w.0 (suc d) (omega (arith, f, nests-Assign (t.Field a x (line_of ts) meant.Unknown) b (line_of ts)))) f
  complete-simple {ts = ts} {r = r} (g.assign {k = j} {m = m} {a = b} (g.to_item {k = k} {l = l} {m = q} {a = a} {b = c} p v) u) d f w =
      assigns-item (plan.body d) (suc d) ts q m r k l j a c b p v (expr-finds u w.0 (suc d) (omega (arith, f, nests-Assign (t.Index a c (line_of ts) meant.Unknown) b (line_of ts)))) f
  complete-simple (g.remote p) d f w = remote_alone-finds (plan.body d) (suc d) p w.0 f
  complete-simple {r = r} (g.remote_to {y = x} {l = l} {k = k} {m = m} {x = y} p) d f w = remote_to-finds (plan.body d) (suc d) x l k m r y p w.0 f
  complete-simple (g.call_of p) d f w = call-finds (plan.body d) (suc d) p (omega (arith, w.0.0)) f
  complete-simple {r = r} (g.put_line {l = l} {k = k} {j = j} {m = m} {a = a} p) d f w = put_line-finds (plan.body d) (suc d) l k j m r a p f
  complete-simple {r = r} (g.sleep {l = l} {k = k} {j = j} {m = m} {a = a} p) d f w = sleep-finds (plan.body d) (suc d) l k j m r a p f
  complete-simple {r = r} (g.fork {x = x} {l = l} {k = k} {j = j} {m = m} {xs = xs} p) d f w = fork-finds (plan.body d) (suc d) x l k j m r xs p f
  complete-simple {r = r} (g.leave {l = l}) d f w = leave-finds (plan.body d) (suc d) l r w.0.1 f
  complete-simple {r = r} (g.give {l = l} {k = k} {j = j} {m = m} {a = a} p) d f w = give-finds (plan.body d) (suc d) l k j m r a p w.0 f
  complete-simple {r = r} (g.signal {x = x} {l = l} {k = k}) d f w = signal-finds (plan.body d) (suc d) x l k r w.0.1 f
  complete-simple {r = r} (g.signal_with {x = x} {l = l} {k = k} {j = j} {h = h} {m = m} {a = a} p) d f w = signal_with-finds (plan.body d) (suc d) x l k j h m r a p w.0 f
  complete-simple {r = r} (g.choose {l = l} {k = k} {m = m} {q = q} {w = v} {p = u} {a = a} {b = b} {arms = xs} {o = o} p y z c) d f w =
      let s = nests-If a b xs o l in
      let e = else-ended c in
      if-finds (plan.body d) (suc d) l k m q v u r a b xs o (expr-finds p (omega arith, refl) (suc d) (omega (arith, f, s)))
      (over-body y (complete-body y (arms-ended z e.1)) (arms-ended z e.1) d (omega (arith, f, s)))
      (complete-arms z e.0 e.1 (suc (length v)) (omega arith) d (omega (arith, f, s))) (complete-else c d (omega (arith, f, s))) f
  complete-simple {r = r} (g.while {l = l} {k = k} {j = j} {m = m} {q = q} {a = a} {b = b} p y) d f w =
      let s = nests-While a b l in
      while-finds (plan.body d) (suc d) l k j m q r a b (expr-finds p (omega arith, refl) (suc d) (omega (arith, f, s))) (over-body y (complete-body y refl) refl d (omega (arith, f, s))) f
  complete-simple {r = r} (g.for {x = x} {l = l} {k = k} {j = j} {h = h} {g = u} {f = v} {m = m} {q = q} {w = z} {s = s} {i = i} {b = b} p c y) d f w =
      let n = nests-For x s i b l in
      for-finds (plan.body d) (suc d) x l k j h u v m q z r s i b (shape-finds p (suc d) (omega (arith, f, n))) (iter-finds (plan.body d) (suc d) c (omega (arith, f, n)))
      (over-body y (complete-body y refl) refl d (omega (arith, f, n))) f
  complete-simple {r = r} (g.tagcase {l = l} {m = m} {q = q} {w = v} {a = a} {arms = xs} {o = o} p y c) d f w =
      let s = nests-Tagcase a xs o l in
      let e = others-ended c in
      let z = ended-follows q (tags-ended y e.1) in
      tagcase-finds (plan.body d) (suc d) l m q v r a xs o (expr-finds p z.0.0 (suc d) (omega (arith, f, s)))
      (complete-tags y e.0 e.1 (suc (length q)) (omega arith) d (omega (arith, f, s))) (complete-others c d (omega (arith, f, s))) f
  complete-simple {r = r} (g.begin {l = l} {k = k} {m = m} {b = b} y) d f w =
      begin-finds (plan.body d) (suc d) l k m r b (over-body y (complete-body y refl) refl d (omega (arith, f, nests-Begin b l))) f
  complete-simple {r = r} (g.region {l = l} {k = k} {j = j} {m = m} {q = q} {a = a} {b = b} p y) d f w =
      let s = nests-Region a b l in
      region-finds (plan.body d) (suc d) l k j m q r a b (expr-finds p (omega arith, refl) (suc d) (omega (arith, f, s))) (over-body y (complete-body y refl) refl d (omega (arith, f, s))) f

  complete-arms : {ts r : Tokens} {xs : List Arm} → ReadsArms ts r xs → at_arm r ≡ false → ends_body r ≡ true → (n : ℕ) → length ts < n → (d : ℕ) → deepest (map arm_nesting xs) ≤ d →
      plan.arms (plan.body d) (suc d) n ts ≡ Some (xs, r)
  complete-arms p c e zero f d h = absurd (omega (arith, f))
  complete-arms {r = r} g.no_arms c e (suc n) f d h = arms-end (plan.body d) (suc d) n r c
  complete-arms {r = r} (g.arm {l = l} {k = k} {m = m} {q = q} {w = w} {a = a} {b = b} {arms = xs} p y z) c e (suc n) f d h =
      let s = nests-Arm a b in
      arm-finds (plan.body d) (suc d) n l k m q w r a b xs (expr-finds p (omega arith, refl) (suc d) (omega (arith, h, s))) (over-body y (complete-body y (arms-ended z e)) (arms-ended z e) d (omega (arith, h, s)))
      (complete-arms z c e n (omega (arith, f, shrinks p, shrinks-body y)) d (omega (arith, h)))

  complete-else : {ts r : Tokens} {o : Option (List Stmt)} → ReadsElse ts r o → (d : ℕ) → others_nesting o ≤ d → plan.otherwise (plan.body d) (suc d) ts ≡ Some (o, r)
  complete-else g.no_else d f = refl
  complete-else {r = r} (g.else {l = l} {k = k} {m = m} {b = b} y) d f = else-finds (plan.body d) (suc d) l k m r b (over-body y (complete-body y refl) refl d f)

  complete-tags : {ts r : Tokens} {xs : List TagArm} → ReadsTags ts r xs → at_tag r ≡ false → ends_body r ≡ true → (n : ℕ) → length ts < n → (d : ℕ) → deepest (map tag_nesting xs) ≤ d →
      plan.tags (plan.body d) (suc d) n ts ≡ Some (xs, r)
  complete-tags p c e zero f d h = absurd (omega (arith, f))
  complete-tags {r = r} g.no_tags c e (suc n) f d h = tags-end (plan.body d) (suc d) n r c
  complete-tags {r = r} (g.tag {x = x} {l = l} {k = k} {j = j} {m = m} {q = q} {w = w} {o = o} {b = b} {arms = xs} p y z) c e (suc n) f d h =
      let s = nests-TagArm x o b meant.Unknown in
      tag-finds (plan.body d) (suc d) n l k j x m q w r o b xs (variable-finds (plan.body d) (suc d) p (omega (arith, h, s))) (over-body y (complete-body y (tags-ended z e)) (tags-ended z e) d (omega (arith, h, s)))
      (complete-tags z c e n (omega (arith, f, shrinks-variable p, shrinks-body y)) d (omega (arith, h)))

  complete-others : {ts r : Tokens} {o : Option (List Stmt)} → ReadsOthers ts r o → (d : ℕ) → others_nesting o ≤ d → plan.others (plan.body d) (suc d) ts ≡ Some (o, r)
  complete-others g.no_others d f = refl
  complete-others {r = r} (g.others {l = l} {k = k} {j = j} {m = m} {b = b} y) d f = others-finds (plan.body d) (suc d) l j k m r b (over-body y (complete-body y refl) refl d f)

  complete-whens : {ts r : Tokens} {xs : List When} → ReadsWhens ts r xs → at_when r ≡ false → ends_body r ≡ true → (n : ℕ) → length ts < n → (d : ℕ) → deepest (map when_nesting xs) ≤ d →
      plan.whens (plan.body d) (suc d) n ts ≡ Some (xs, r)
  complete-whens p c e zero f d h = absurd (omega (arith, f))
  complete-whens {r = r} g.no_whens c e (suc n) f d h = whens-end (plan.body d) (suc d) n r c
  complete-whens {r = r} (g.when {l = l} {k = k} {m = m} {q = q} {w = w} {p = u} {xs = xs} {o = o} {b = b} {ws = ws} p v y z) c e (suc n) f d h =
      let s = nests-When xs o b in
      when-finds (plan.body d) (suc d) n l k m q w u r xs o b ws (names-finds p (variable-plain v) (length m) (omega arith)) (variable-finds (plan.body d) (suc d) v (omega (arith, h, s)))
      (over-body y (complete-body y (whens-ended z e)) (whens-ended z e) d (omega (arith, h, s)))
      (complete-whens z c e n (omega (arith, f, shrinks-names p, shrinks-variable v, shrinks-body y)) d (omega (arith, h)))

  complete-handlers : {ts r : Tokens} {h : Handlers} → ReadsHandlers ts r h → at_end r ≡ true → (d : ℕ) → handlers_nesting h ≤ d → plan.handlers (plan.body d) (suc d) ts ≡ Some (h, r)
  complete-handlers {ts = ts} {r = r} (g.handlers {ws = ws} p) e d f =
      let w = end-ended r e in
      handlers-end (plan.body d) (suc d) ts r ws (complete-whens p w.0 w.1 (suc (length ts)) (omega arith) d (omega (arith, f, nests-Handlers ws None))) e
  complete-handlers {ts = ts} {r = r} (g.and_others {l = l} {k = k} {m = m} {ws = ws} {b = b} p y) e d f =
      let w = end-ended r e in
      let s = nests-Handlers ws (Some b) in
      handlers-others (plan.body d) (suc d) l k ts m r ws b (complete-whens p refl refl (suc (length ts)) (omega arith) d (omega (arith, f, s))) (over-body y (complete-body y w.1) w.1 d (omega (arith, f, s)))

-- A body that is read is found, where it ends.
pub body-finds : {ts r : Tokens} {xs : List Stmt} → ReadsBody ts r xs → ends_body r ≡ true → (d : ℕ) → deepest (map stmt_nesting xs) ≤ d → plan.body d ts ≡ Some (xs, r)
body-finds p e d f = over-body p (complete-body p e) e d f
