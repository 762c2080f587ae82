-- The scopes of fields, which are opened one after another, and those round them.
use Rattle.std.proofs.Common.{◌≡◌, ℕ, ◌+◌, ◌*◌, ◌≤◌, [], ◌∷◌, length, refl, sym, subst, arith}
use Rattle.uc_tree.specs.Source.{CleanUp, Stmts, Scoped}
use Rattle.uc_code.specs.declared.rows.Cleaning.{Cleaning}
use Rattle.uc_code.specs.declared.rows.Opening.TheVariants as opening
use Rattle.uc_code.specs.Drafts.{Draft}
use Rattle.uc_code.specs.Layout.{laid_in}
use Rattle.uc_code.specs.OpenRows.{opened}
use Rattle.uc_code.specs.CodeShapes.{Kept}
use Rattle.uc_code.specs.ObjectCalls.{Cleans}
use Rattle.uc_lower_stmt.specs.Marked.{calls_in, close_room}
use Rattle.uc_lower_stmt.specs.OpenScopes.{Opens as Scope, NoCall, Begins, Opened}
use Rattle.uc_lower_stmt.proofs.Laying.{lays_as, lays_join, lays_nothing}
use Rattle.uc_lower_stmt.proofs.Openings.{closes_few, counts_one}
use Rattle.uc_lower_class.specs.Fields.{field_close}
use Rattle.uc_lower_class.specs.OpenParts.{LeavesAll, Opens}
use Rattle.uc_lower_stmt.proofs.RowFitting.{fit_opened}

pub opens_nothing : (n : ℕ) (old : Draft) → Opens n (λ ss. ss) old old
opens_nothing n old = lays_as (lays_nothing 0 old) refl (λ ss. refl) (omega arith) (omega arith) (omega arith) (omega arith) (omega arith)

pub opens_as : {m n : ℕ} {F G : Stmts → Stmts} {old new : Draft} → Opens m F old new → m ≤ n → ((ss : Stmts) → F ss ≡ G ss) → Opens n G old new
opens_as h l e = lays_as h refl e (omega arith) (omega arith) (omega arith) l (omega arith)

pub opens_then : {m n : ℕ} {F G : Stmts → Stmts} {old mid new : Draft} → Opens m F old mid → Opens n G mid new → Opens (m + n) (λ ss. F (G ss)) old new
opens_then {m} {n} {F} {G} {old} {mid} {new} h g = lays_as (lays_join h g) h.scope (λ ss. refl) (omega arith) (omega arith) (omega arith) (omega arith) (omega arith)

scope_opened : (n : ℕ) (c : CleanUp) (what : Cleaning) (old : Draft) → close_room what ≤ n → Kept (laid_in old) (laid_in (opened (opening.Object what 0) old)) → Cleans c what → NoCall c → LeavesAll n 1 (λ ss. Scoped c ss) old (opened (opening.Object what 0) old)
scope_opened n c what old l k g x = record {
  rest = refl;
  scope = refl;
  opened = omega arith;
  kept = k;
  rows = fit_opened (opening.Object what 0) old (opened (opening.Object what 0) old) refl;
  room = omega arith;
  texts = omega arith;
  cells = omega arith;
  objects = let e = counts_one c what (calls_in old.marks) g x in omega (arith, e);
  steps = Scope c ∷ [];
  none = (x, tt);
  block = λ ss. refl;
  code = Opened [] old.marks (length old.ops) (length old.rows) c what Begins g;
}

pub leaves_scope : (n : ℕ) (c : CleanUp) (what : Cleaning) (old new : Draft) → close_room what ≤ n → new ≡ opened (opening.Object what 0) old → Kept (laid_in old) (laid_in new) → Cleans c what → NoCall c → LeavesAll n 1 (λ ss. Scoped c ss) old new
leaves_scope n c what old new l e k g x =
    subst (λ (d : Draft). LeavesAll n 1 (λ ss. Scoped c ss) old d) (sym e) (scope_opened n c what old l (subst (λ (d : Draft). Kept (laid_in old) (laid_in d)) e k) g x)

-- that of a field
pub opens_scope : (c : CleanUp) (what : Cleaning) (old new : Draft) → new ≡ opened (opening.Object what 0) old → Kept (laid_in old) (laid_in new) → Cleans c what → NoCall c → Opens 1 (λ ss. Scoped c ss) old new
opens_scope c what old new e k g x = leaves_scope (field_close * 1) c what old new (let l = closes_few c what g in omega (arith, l)) e k g x
