-- The accepts that are open, as a judge keeps them.
use Rattle.std.specs.Prelude.{◌≡◌, ℕ, List, [], ◌∷◌, Option, Some, None, unwrap_or, if◌then◌else◌}
use Rattle.std.specs.Ordering.{nat_cmp}
use Rattle.std.specs.BTreeMap.{get}
use Rattle.uc_entry.specs.declared.entry.Entry.{Entry}
use Rattle.uc_entry.specs.declared.entry.EntryKind.{EntryKind}
use Rattle.uc_entry.specs.declared.entry.EntryKind.TheVariants as kind
use Rattle.uc_acts.specs.Journal.{Journal, number, holds}
use Rattle.uc_acts.specs.Doors.{open_at}
use Rattle.uc_judge.specs.declared.accepts.OpenAccept.{OpenAccept}
use Rattle.uc_judge.specs.declared.accepts.Accepts.{Accepts}

abbrev pub accept_of : Entry → OpenAccept
accept_of e = record { task = e.task; site = number e.a; mask = number e.b }

abbrev pub opened_of : List Entry → Option OpenAccept
opened_of [] = None
opened_of (e ∷ es) = Some (accept_of e)

-- the accept that is open behind an entry of its object
abbrev pub opened_by : EntryKind → Entry → Option OpenAccept → Option OpenAccept
opened_by kind.Accept e before = if holds 0 e.d then Some (accept_of e) else before
opened_by kind.Admit e before = None
opened_by _ e before = before

-- the accepts are those of a journal
pub record AreAccepts (s : Accepts) (j : Journal) : Type 0 where
  pub opened : (o : ℕ) → unwrap_or (get nat_cmp s.opened o) None ≡ opened_of (open_at o j)
