-- Rows get their handlers.
use Rattle.std.proofs.Common.{◌≡◌, ℕ, zero, suc, ◌+◌, ◌≤◌, ◌<◌, List, [], ◌∷◌, Some, length, refl, ap, ◌∙◌, arith}
use Rattle.std.specs.Prelude.{slice_get}
use Rattle.uc_resolve.specs.Resolve.{Scope}
use Rattle.uc_code.specs.declared.rows.HandlerRow.{HandlerRow}
use Rattle.uc_code.specs.declared.rows.CodeMark.{CodeMark}
use Rattle.uc_code.specs.Drafts.{Draft}
use Rattle.uc_code.specs.Layout.{Laid, guards, laid_in, routine_in}
use Rattle.uc_code.specs.CodeShapes.{Both, Kept, KeptBut, Same, Stable}
use Rattle.uc_code.specs.RowCounts.{loop_rows, return_rows}
use Rattle.uc_lower_stmt.specs.Guarding.{KeptUnder, LowersFrom}
use Rattle.uc_lower_stmt.specs.Marked.{closing, objects_in}
use Rattle.uc_lower_stmt.specs.LowersStatement.{Lowers}
use Rattle.uc_lower_stmt.proofs.RowFitting.{fit_then}

-- marks of handlers are those of no object, and lie in the routine in which they are opened

pub guards_objects : (first n : ℕ) (ms : List CodeMark) → objects_in (guards first n ms) ≡ objects_in ms
guards_objects first zero ms = refl
guards_objects first (suc n) ms = guards_objects first n ms

pub guards_closing : (first n : ℕ) (ms : List CodeMark) → closing (guards first n ms) ≡ closing ms
guards_closing first zero ms = refl
guards_closing first (suc n) ms = guards_closing first n ms

pub guards_routine : (first n : ℕ) (ms : List CodeMark) → routine_in (guards first n ms) ≡ routine_in ms
guards_routine first zero ms = refl
guards_routine first (suc n) ms = guards_routine first n ms

pub guards_loop : (first n : ℕ) (ms : List CodeMark) → loop_rows (guards first n ms) ≡ loop_rows ms
guards_loop first zero ms = refl
guards_loop first (suc n) ms = guards_loop first n ms

pub guards_return : (first n : ℕ) (ms : List CodeMark) → return_rows (guards first n ms) ≡ return_rows ms
guards_return first zero ms = refl
guards_return first (suc n) ms = guards_return first n ms

-- rows get their handlers

pub under_refl : (n : ℕ) (code : Laid) → KeptUnder n code code
under_refl n code = record { longer = omega arith; same = λ i op line h. h; chains = λ next h. refl; handlers = λ k e h. h; bare = λ k l h. h }

pub under_but : (row : ℕ) (a b : Laid) → KeptBut row a b → KeptUnder row a b
under_but row a b k = record {
  longer = k.longer;
  same = k.same;
  chains = k.chains;
  handlers = k.handlers;
  bare = λ n l o. k.bare n (λ e. absurd (omega (arith, e, l))) o;
}

pub under_kept : (n : ℕ) (a b : Laid) → Kept a b → KeptUnder n a b
under_kept n a b k = record { longer = k.longer; same = k.same; chains = k.chains; handlers = k.handlers; bare = λ m l o. k.bare m o }

pub under_then : (f g : ℕ) (a b c : Laid) → g ≤ f → KeptUnder f a b → KeptUnder g b c → KeptUnder g a c
under_then f g a b c l h k = record {
  longer = let x = h.longer in let y = k.longer in omega arith;
  same = λ i op line o. k.same i op line (h.same i op line o);
  chains = λ next m. let x = h.longer in k.chains next (omega arith) ∙ h.chains next m;
  handlers = λ n e o. k.handlers n e (h.handlers n e o);
  bare = λ n m o. k.bare n m (h.bare n (omega (arith, l, m)) o);
}

row_there : (rows : List HandlerRow) (n : ℕ) (r : HandlerRow) → slice_get rows n ≡ Some r → n < length rows
row_there [] n r e = absurd (cc)
row_there (q ∷ rs) zero r e = omega arith
row_there (q ∷ rs) (suc n) r e = let l = row_there rs n r e in omega arith

-- of rows that were not there yet
pub kept_under : (n : ℕ) (a b c : Laid) → length a.rows ≤ n → Kept a b → KeptUnder n b c → Kept a c
kept_under n a b c l h k = record {
  longer = let x = h.longer in let y = k.longer in omega arith;
  same = λ i op line o. k.same i op line (h.same i op line o);
  chains = λ next m. let x = h.longer in k.chains next (omega arith) ∙ h.chains next m;
  handlers = λ m e o. k.handlers m e (h.handlers m e o);
  bare = λ m o. let x = row_there a.rows m o.row o.there in k.bare m (omega (arith, l, x)) (h.bare m o);
}

pub under_same : (n : ℕ) (old new : Laid) (a z : ℕ) → z ≤ length old.ops → KeptUnder n old new → Same old new a z
under_same n old new a z b k = record { same = λ i op line l m o. k.same i op line o; chains = λ next l m. k.chains next (omega arith); handlers = k.handlers }

-- pieces are joined

pub from_join : {u v x y f g n k c o m j b q : ℕ} {S T : Laid → ℕ → ℕ → Type 0} {s t : Scope} {old mid new : Draft} → g ≤ f → Stable S → LowersFrom u x f n k c o S s old mid → LowersFrom v y g m j b q T t mid new → LowersFrom (u + v) (x + y) g (n + m) (k + j) (c + b) (o + q) (λ code. Both (S code) (T code)) t old new
from_join {u} {v} {x} {y} {f} {g} {n} {k} {c} {o} {m} {j} {b} {q} {S} {T} {s} {t} {old} {mid} {new} l st h w = record {
  rest = w.rest ∙ ap (λ (x : Draft). let y : Draft = record x { ops = new.ops; rows = new.rows; settled = new.settled; scopes = new.scopes; names = new.names; cells = new.cells; hidden = new.hidden; texts = new.texts; sites = new.sites } in y) h.rest;
  scope = w.scope;
  opened = let a = h.opened in let e = w.opened in omega arith;
  kept = under_then f g (laid_in old) (laid_in mid) (laid_in new) l h.kept w.kept;
  rows = fit_then w.kept.longer h.rows w.rows;
  room = let a = h.room in let e = w.room in omega arith;
  texts = let a = h.texts in let e = w.texts in omega arith;
  cells = let a = h.cells in let e = w.cells in omega arith;
  code = record { middle = length mid.ops; first = st.moves (laid_in mid) (laid_in new) (length old.ops) (length mid.ops) (under_same g (laid_in mid) (laid_in new) (length old.ops) (length mid.ops) (omega arith) w.kept) h.code; second = w.code };
}

pub from_lowers : {r n k c o : ℕ} {S : Laid → ℕ → ℕ → Type 0} {t : Scope} {old new : Draft} → (f : ℕ) → Lowers r n k c o S t old new → LowersFrom 0 r f n k c o S t old new
from_lowers {r} {n} {k} {c} {o} {S} {t} {old} {new} f h = record {
  rest = h.rest;
  scope = h.scope;
  opened = h.opened;
  kept = under_kept f (laid_in old) (laid_in new) h.kept;
  rows = h.rows;
  room = h.room;
  texts = h.texts;
  cells = h.cells;
  code = h.code;
}
