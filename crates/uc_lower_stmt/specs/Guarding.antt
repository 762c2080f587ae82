-- What handlers of guarded blocks do to a draft: rows that are there get handlers.
use Rattle.std.specs.Prelude.{◌≡◌, ℕ, ◌+◌, ◌≤◌, ◌<◌, length}
use Rattle.uc_resolve.specs.Resolve.{Scope}
use Rattle.uc_code.specs.declared.rows.Handler.{Handler}
use Rattle.uc_code.specs.declared.op.Op.{Op}
use Rattle.uc_code.specs.Drafts.{Draft}
use Rattle.uc_code.specs.Layout.{Laid, chain, laid_in}
use Rattle.uc_code.specs.CodeShapes.{HandlerAt, IsBare, OpAt}
use Rattle.uc_lower_stmt.specs.LowersStatement.{scope_of}
use Rattle.uc_lower_stmt.specs.RowFit.{RowsFit}

-- what is laid out stays, and so do the rows below this number that have no handler yet
pub record KeptUnder (first : ℕ) (old new : Laid) : Type 0 where
  pub longer : length old.ops ≤ length new.ops
  pub same : (i : ℕ) (op : Op) (line : ℕ) → OpAt old i op line → OpAt new i op line
  pub chains : (next : ℕ) → next ≤ length old.ops → chain new.rows next ≡ chain old.rows next
  pub handlers : (number : ℕ) (handler : Handler) → HandlerAt old number handler → HandlerAt new number handler
  pub bare : (number : ℕ) → number < first → IsBare old number → IsBare new number

-- as statements are laid out, with r rows more, but that rows from this number on may get handlers, by so many ops more than rows
pub record LowersFrom (less r first n k c o : ℕ) (S : Laid → ℕ → ℕ → Type 0) (after : Scope) (old new : Draft) : Type 0 where
  pub rest : new ≡ record old { ops = new.ops; rows = new.rows; settled = new.settled; scopes = new.scopes; names = new.names; cells = new.cells; hidden = new.hidden; texts = new.texts; sites = new.sites }
  pub scope : scope_of new ≡ after
  pub opened : new.scopes ≡ old.scopes + o
  pub kept : KeptUnder first (laid_in old) (laid_in new)
  pub rows : RowsFit less r old new
  pub room : length new.ops ≤ length old.ops + n
  pub texts : new.texts ≤ old.texts + k
  pub cells : new.cells ≤ old.cells + c
  pub code : S (laid_in new) (length old.ops) (length new.ops)
