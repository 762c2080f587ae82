-- What statements ask of their expressions: each rule is used at its own visit, once.
use Rattle.std.proofs.Common.{◌≡◌, ℕ, ◌+◌, ◌++◌, List, [], ◌∷◌, Option, Some, Bool, true, false, refl, sym, ◌∙◌, subst}
use Rattle.uc_tree.specs.declared.pos.Pos.{Pos}
use Rattle.uc_tree.specs.declared.kinds.LocalVariable.{LocalVariable}
use Rattle.uc_tree.specs.Expressions as expr
use Rattle.uc_tree.specs.Statements as stmt
use Rattle.uc_tree.specs.Source.{Shape}
use Rattle.uc_resolve.specs.Standings as tree
use Rattle.uc_resolve.specs.Standings.{meant}
use Rattle.uc_resolve.specs.Resolve.{items_meant, targets_meant}
use Rattle.uc_rules.specs.declared.rules.Sort.{Sort}
use Rattle.uc_rules.specs.declared.rules.Sort.TheVariants as sort
use Rattle.uc_rules.specs.declared.rules.Entity.{Entity}
use Rattle.uc_rules.specs.declared.rules.Entity.TheVariants as entity
use Rattle.uc_rules.specs.Sorts.{is_scalar_sort}
use Rattle.uc_rules.specs.declared.rule.Rule.{Rule}
use Rattle.uc_rules.specs.declared.rule.Rule.TheVariants.{S12, O4}
use Rattle.uc_rules.specs.Asked.{unless}
use Rattle.uc_rules.specs.ExpressionBreaks.{return_breaks}
use Rattle.uc_rules.specs.Scopes.{Env}
use Rattle.uc_rules.specs.Entities.{entity_of, is_scalar, is_readable, is_readable_sort}
use Rattle.uc_rules.specs.Visits.{Visit, AtCondition, AtReturn, AtPrinted, AtRead, AtRaiseTarget, AtMigrate, visits, condition_visits, return_visits, outs_visits, read_visits, reads_visits}
use Rattle.uc_rules.specs.Breaks.{breaks_at}
use Rattle.uc_rules.specs.OwnerBreaks.{is_no_condition, is_raise_target, is_cluster_place}
use Rattle.uc_tree.specs.declared.kinds.Kind.{Kind}
use Rattle.uc_tree.specs.declared.kinds.Kind.TheVariants as kind
use Rattle.uc_tree.specs.Numbering.{is_mutex}
use Rattle.uc_tree.specs.Objects.{is_coroutine, is_task}
use Rattle.std.specs.Prelude.{◌||◌}
use Rattle.uc_typing.specs.Typing.{Num, Cell, Obj, Clu, Name, Sig, Table, IsTarget, Yields, FineItems, FineTargets}
use Rattle.uc_sound.specs.Agreement.{context, Agrees, Tied}
use Rattle.uc_sound.specs.Unbroken.{Unbroken, Stands, IsKnown}
use Rattle.uc_sound.specs.Parts.{LawParts}
use Rattle.uc_sound.proofs.Ties.{false_true, scalar, converted_fine, scalar_cell, law_agrees, args_agree}
use Rattle.uc_sound.proofs.UnbrokenLemmas.{none_left, none_right, first, second, one, holds, stands, args_stand}

pub only : (b : Bool) (r : Rule) (p : Pos) → unless b r p ≡ [] → b ≡ true
only true r p h = refl
only false r p h = absurd (cc)

readable_scalar : (s : Sort) → is_readable_sort s ≡ true → is_scalar_sort s ≡ true
readable_scalar sort.Int h = refl
readable_scalar sort.Char h = refl
readable_scalar _ h = false_true h

module _ (t : Table) (g : Sig) (sc : List Name) (env : Env) (class : Option ℕ) (routine : ℕ) (known : List LocalVariable) (tied : Tied t g sc env class routine known) (is_known : IsKnown env) where
  abbrev c : tree.Context
  c = context env class routine known

  -- an expression that breaks no rule stands for something, and so does a visit of it
  finds : (e : expr.Expr) (more : List Visit) → Unbroken (visits env e ++ more) → Stands (entity_of env e)
  finds e more h = stands env is_known e (first (visits env e) more h)

  visit : (e : expr.Expr) (at : Option Entity → Visit) → Unbroken (visits env e ++ at (entity_of env e) ∷ []) → (w : Entity) → entity_of env e ≡ Some w → breaks_at (at (Some w)) ≡ []
  visit e at h w s = subst (λ o. breaks_at (at o) ≡ []) s (one (at (entity_of env e)) (second (visits env e) (at (entity_of env e) ∷ []) h))

  valued : (e : expr.Expr) (w : Entity) → Unbroken (visits env e) → entity_of env e ≡ Some w → is_scalar w ≡ true → Yields t g sc (tree.value_in_scope c e) Num
  valued e w u s h = scalar t g sc env.program tied.refers w (meant c e) h (law_agrees t g sc env class routine known tied e u w s)

  condition : (e : expr.Expr) → Unbroken (condition_visits env e) → Yields t g sc (tree.value_in_scope c e) Num
  condition e h =
      let r = finds e _ h in
      valued e r.0 (first (visits env e) _ h) r.1 (holds (is_scalar r.0) _ (expr.expr_pos e) _ (visit e (AtCondition (expr.expr_pos e)) h r.0 r.1))

  return_test : (b : Bool) (p : Pos) (w : Entity) → return_breaks b (Some (Some w)) p ≡ [] → is_scalar w ≡ true
  return_test true p w h = only (is_scalar w) S12 p h
  return_test false p w h = false_true (only false S12 p h)

  returned : (p : Pos) (k : Shape) (e : expr.Expr) → Unbroken (return_visits env p (Some e)) → Yields t g sc (tree.converted k (tree.value_in_scope c e)) Num
  returned p k e h =
      let r = finds e _ h in
      let b : return_breaks env.around.returns (Some (Some r.0)) p ≡ [] = none_left (return_breaks env.around.returns (Some (Some r.0)) p) _ (visit e (λ o. AtReturn env p (Some o)) h r.0 r.1) in
      converted_fine t g sc env.program tied.refers k (tree.value_in_scope c e) (valued e r.0 (first (visits env e) _ h) r.1 (return_test env.around.returns p r.0 b))

  printed : (texts : ℕ) (os : List stmt.OutItem) → Unbroken (outs_visits env os) → FineItems t g sc (items_meant c texts os)
  printed texts [] h = tt
  printed texts (stmt.Endl sign ∷ os) h = (refl, printed texts os h)
  printed texts (stmt.Literal sign text ∷ os) h = (tt, printed (texts + 1) os h)
  printed texts (stmt.Printed sign e ∷ os) h =
      let here = first (visits env e ++ AtPrinted sign (entity_of env e) ∷ []) (outs_visits env os) h in
      let r = finds e _ here in
      (valued e r.0 (first (visits env e) _ here) r.1 (holds (is_scalar r.0) _ sign _ (visit e (AtPrinted sign) here r.0 r.1)), printed texts os (second (visits env e ++ AtPrinted sign (entity_of env e) ∷ []) (outs_visits env os) h))

  -- the place of a number
  read_place : (w : Entity) (m : tree.Meant) → is_readable w ≡ true → Agrees t g sc env.program w m → Yields t g sc m.expr (Cell Num)
  read_place (entity.Place s) m h a = subst (Yields t g sc m.expr) (scalar_cell s (readable_scalar s h)) a.0.0
  read_place _ m h a = false_true h

  read : (es : expr.Exprs) → Unbroken (reads_visits env es) → FineTargets t g sc (targets_meant c es)
  read expr.NoExprs h = tt
  read (expr.MoreExprs e es) h =
      let here = first (read_visits env e) (reads_visits env es) h in
      let r = finds e _ here in
      (read_place r.0 (meant c e) (holds (is_readable r.0) _ (expr.expr_pos e) _ (visit e (AtRead (expr.expr_pos e)) here r.0 r.1)) (law_agrees t g sc env class routine known tied e (first (visits env e) _ here) r.0 r.1), read es (second (read_visits env e) (reads_visits env es) h))

  target_task : (k : Kind) → (is_task k || is_coroutine k) ≡ true → is_mutex k ≡ true → is_task k ≡ true
  target_task kind.Class h q = false_true q
  target_task kind.Coroutine h q = false_true q
  target_task kind.Monitor h q = false_true h
  target_task kind.Cormonitor h q = false_true h
  target_task kind.Task h q = refl
  target_task kind.Event h q = false_true h

  target_object : (w : Entity) (m : tree.Meant) → is_raise_target w ≡ true → Agrees t g sc env.program w m → (n : ℕ) × Yields t g sc m.expr (Obj n) × IsTarget t n
  target_object (entity.Place (sort.Object n k)) m h a =
      (n, a.0.0, λ q. tied.tasks m.ty.base n k a.2.1 ∙ target_task k h (sym (tied.classes m.ty.base n k a.2.1) ∙ q))
  target_object _ m h a = false_true h

  raised_at : (p : Pos) (e : expr.Expr) → Unbroken (visits env e) → Unbroken (AtRaiseTarget p (entity_of env e) ∷ []) → (n : ℕ) × Yields t g sc (meant c e).expr (Obj n) × IsTarget t n
  raised_at p e h k =
      let r = stands env is_known e h in
      let b : breaks_at (AtRaiseTarget p (Some r.0)) ≡ [] = subst (λ o. breaks_at (AtRaiseTarget p o) ≡ []) r.1 (one (AtRaiseTarget p (entity_of env e)) k) in
      target_object r.0 (meant c e) (holds (is_raise_target r.0) _ p _ (none_right (unless (is_no_condition r.0) O4 p) _ b)) (law_agrees t g sc env class routine known tied e h r.0 r.1)

  cluster_found : (w : Entity) (m : tree.Meant) → is_cluster_place w ≡ true → Agrees t g sc env.program w m → Yields t g sc m.expr Clu
  cluster_found (entity.Place sort.Cluster) m h a = a.0.0
  cluster_found _ m h a = false_true h

  migrated : (p : Pos) (e : expr.Expr) → Unbroken (visits env e) → Unbroken (AtMigrate p (entity_of env e) ∷ []) → Yields t g sc (meant c e).expr Clu
  migrated p e h k =
      let r = stands env is_known e h in
      let b : breaks_at (AtMigrate p (Some r.0)) ≡ [] = subst (λ o. breaks_at (AtMigrate p o) ≡ []) r.1 (one (AtMigrate p (entity_of env e)) k) in
      cluster_found r.0 (meant c e) (holds (is_cluster_place r.0) _ p _ (none_right (unless (is_no_condition r.0) O4 p) _ b)) (law_agrees t g sc env class routine known tied e h r.0 r.1)

pub law_parts : (t : Table) (g : Sig) (sc : List Name) → LawParts t g sc
law_parts t g sc env class routine known tied k = record {
  condition = condition t g sc env class routine known tied k;
  returned = returned t g sc env class routine known tied k;
  printed = printed t g sc env class routine known tied k;
  read = read t g sc env class routine known tied k;
  raised_at = raised_at t g sc env class routine known tied k;
  migrated = migrated t g sc env class routine known tied k;
  arguments = λ args to xs ys n f l h. args_agree t g sc env class routine known tied args 0 to xs ys n f l (args_stand env k args to 0 h) h;
}
