-- Entries of which tasks may be told.
use Rattle.std.specs.Prelude.{◌≤◌}
use Rattle.uc_entry.specs.declared.entry.Entry.{Entry}
use Rattle.uc_entry.specs.declared.entry.EntryKind.{EntryKind}
use Rattle.uc_entry.specs.declared.entry.EntryKind.TheVariants as kind
use Rattle.uc_acts.specs.Fit.{IsFit}
use Rattle.uc_acts.specs.Journal.{number}

-- its clause and its event are bytes
abbrev pub IsNarrow : EntryKind → Entry → Type 0
IsNarrow kind.Admit e = number e.b ≤ 255
IsNarrow kind.Poll e = number e.a ≤ 256
IsNarrow k e = Unit {0}

pub record IsTold (e : Entry) : Type 0 where
  pub fit : IsFit e
  pub narrow : IsNarrow e.kind e
