-- How what statements do to a draft is joined.
use Rattle.std.proofs.Common.{◌≡◌, ℕ, ◌+◌, ◌≤◌, length, refl, ap, sym, subst, ◌∙◌, arith}
use Rattle.uc_resolve.specs.Resolve.{Scope}
use Rattle.uc_code.specs.Drafts.{Draft}
use Rattle.uc_code.specs.Layout.{Laid, laid_in}
use Rattle.uc_code.specs.CodeShapes.{Nothing, Both, Stable}
use Rattle.uc_code.specs.Emits.{Puts}
use Rattle.uc_code.proofs.Growth.{rows_as, rows_same}
use Rattle.uc_code.proofs.Stable.{kept_refl, kept_then, kept_same}
use Rattle.uc_lower_expr.specs.DraftGrowth.{Adds}
use Rattle.uc_lower_stmt.specs.LowersStatement.{Lowers, scope_of}
use Rattle.uc_lower_stmt.proofs.RowFitting.{fit_adds, fit_count, fit_puts, fit_refl, fit_then}

pub lowers_adds : {n : ℕ} {S : Laid → ℕ → ℕ → Type 0} {old new : Draft} → (k c : ℕ) → Adds n S old new → Lowers 0 n k c 0 S (scope_of old) old new
lowers_adds {n} {S} {old} {new} k c h = record {
  rest = subst (λ (d : Draft). d ≡ record old { ops = d.ops; rows = d.rows; settled = d.settled; scopes = d.scopes; names = d.names; cells = d.cells; hidden = d.hidden; texts = d.texts; sites = d.sites }) (sym h.rest) refl;
  scope = ap scope_of h.rest;
  opened = let e : new.scopes ≡ old.scopes = ap (λ (d : Draft). d.scopes) h.rest in omega arith;
  kept = h.kept;
  rows = fit_adds h;
  room = h.room;
  texts = let e : new.texts ≡ old.texts = ap (λ (d : Draft). d.texts) h.rest in omega arith;
  cells = let e : new.cells ≡ old.cells = ap (λ (d : Draft). d.cells) h.rest in omega arith;
  code = h.code;
}

-- where rows come too
pub lowers_rows : {r n : ℕ} {S : Laid → ℕ → ℕ → Type 0} {old new : Draft} → (k c : ℕ) → r + length old.ops ≤ length new.ops → Puts r n S old new → Lowers r n k c 0 S (scope_of old) old new
lowers_rows {r} {n} {S} {old} {new} k c l h = record {
  rest = subst (λ (d : Draft). d ≡ record old { ops = d.ops; rows = d.rows; settled = d.settled; scopes = d.scopes; names = d.names; cells = d.cells; hidden = d.hidden; texts = d.texts; sites = d.sites }) (sym h.rest) refl;
  scope = ap scope_of h.rest;
  opened = let e : new.scopes ≡ old.scopes = ap (λ (d : Draft). d.scopes) h.rest in omega arith;
  kept = h.kept;
  rows = fit_puts l h;
  room = h.room;
  texts = let e : new.texts ≡ old.texts = ap (λ (d : Draft). d.texts) h.rest in omega arith;
  cells = let e : new.cells ≡ old.cells = ap (λ (d : Draft). d.cells) h.rest in omega arith;
  code = h.code;
}

pub lowers_puts : {n : ℕ} {S : Laid → ℕ → ℕ → Type 0} {old new : Draft} → (k c : ℕ) → Puts 0 n S old new → Lowers 0 n k c 0 S (scope_of old) old new
lowers_puts k c h = let l = h.kept.longer in lowers_rows k c (omega arith) h

-- code without rows is code
pub puts_adds : {n : ℕ} {S : Laid → ℕ → ℕ → Type 0} {old new : Draft} → Adds n S old new → Puts 0 n S old new
puts_adds {n} {S} {old} {new} h = record {
  rest = subst (λ (d : Draft). d ≡ record old { ops = d.ops; rows = d.rows; settled = d.settled }) (sym h.rest) refl;
  kept = h.kept;
  rows = rows_same (ap (λ (d : Draft). d.rows) h.rest);
  room = h.room;
  code = h.code;
}

-- the rows that come, by another count
pub puts_counted : {q r n : ℕ} {S : Laid → ℕ → ℕ → Type 0} {old new : Draft} → q ≡ r → Puts q n S old new → Puts r n S old new
puts_counted e h = record { rest = h.rest; kept = h.kept; rows = rows_as e (omega arith) h.rows; room = h.room; code = h.code }

pub lowers_nothing : (old : Draft) → Lowers 0 0 0 0 0 (λ code. Nothing) (scope_of old) old old
lowers_nothing old = record { rest = refl; scope = refl; opened = omega arith; kept = kept_refl (laid_in old); rows = fit_refl old; room = omega arith; texts = omega arith; cells = omega arith; code = record { end = refl } }

pub lowers_as : {r n k c o m j b q : ℕ} {S T : Laid → ℕ → ℕ → Type 0} {s t : Scope} {old new : Draft} → Lowers r n k c o S s old new → s ≡ t → ((code : Laid) (a z : ℕ) → S code a z → T code a z) → n ≤ m → k ≤ j → c ≤ b → o ≡ q → Lowers r m j b q T t old new
lowers_as {r} {n} {k} {c} {o} {m} {j} {b} {q} {S} {T} {s} {t} {old} {new} h e f l1 l2 l3 l4 = record {
  rest = h.rest;
  scope = h.scope ∙ e;
  opened = let x = h.opened in omega arith;
  kept = h.kept;
  rows = h.rows;
  room = let x = h.room in omega arith;
  texts = let x = h.texts in omega arith;
  cells = let x = h.cells in omega arith;
  code = f (laid_in new) (length old.ops) (length new.ops) h.code;
}

-- the rows that come, by another count
pub lowers_count : {q r n k c o : ℕ} {S : Laid → ℕ → ℕ → Type 0} {s : Scope} {old new : Draft} → q ≡ r → Lowers q n k c o S s old new → Lowers r n k c o S s old new
lowers_count e h = record { rest = h.rest; scope = h.scope; opened = h.opened; kept = h.kept; rows = fit_count e h.rows; room = h.room; texts = h.texts; cells = h.cells; code = h.code }

pub lowers_join : {u v n k c o m j b q : ℕ} {S T : Laid → ℕ → ℕ → Type 0} {s t : Scope} {old mid new : Draft} → Stable S → Lowers u n k c o S s old mid → Lowers v m j b q T t mid new → Lowers (u + v) (n + m) (k + j) (c + b) (o + q) (λ code. Both (S code) (T code)) t old new
lowers_join {u} {v} {n} {k} {c} {o} {m} {j} {b} {q} {S} {T} {s} {t} {old} {mid} {new} st h g = record {
  rest = g.rest ∙ ap (λ (d : Draft). let e : Draft = record d { ops = new.ops; rows = new.rows; settled = new.settled; scopes = new.scopes; names = new.names; cells = new.cells; hidden = new.hidden; texts = new.texts; sites = new.sites } in e) h.rest;
  scope = g.scope;
  opened = let x = h.opened in let y = g.opened in omega arith;
  kept = kept_then (laid_in old) (laid_in mid) (laid_in new) h.kept g.kept;
  rows = fit_then g.kept.longer h.rows g.rows;
  room = let x = h.room in let y = g.room in omega arith;
  texts = let x = h.texts in let y = g.texts in omega arith;
  cells = let x = h.cells in let y = g.cells in omega arith;
  code = record {
    middle = length mid.ops;
    first = st.moves (laid_in mid) (laid_in new) (length old.ops) (length mid.ops) (kept_same (laid_in mid) (laid_in new) (length old.ops) (length mid.ops) (omega arith) g.kept) h.code;
    second = g.code;
  };
}

-- code behind a piece
pub lowers_put : {r n k c o m : ℕ} {S T : Laid → ℕ → ℕ → Type 0} {s : Scope} {old mid new : Draft} → Stable S → Lowers r n k c o S s old mid → Adds m T mid new → Lowers r (n + m) k c o (λ code. Both (S code) (T code)) s old new
lowers_put {r} {n} {k} {c} {o} {m} {S} {T} {s} {old} {mid} {new} st h g =
    lowers_count (omega arith) (lowers_as (lowers_join st h (lowers_adds 0 0 g)) h.scope (λ code a z x. x) (omega arith) (omega arith) (omega arith) (omega arith))
