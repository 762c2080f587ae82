-- The events that are pending at a task.
use Rattle.std.specs.Prelude.{ℕ, ℤ, ◌==◌, ◌+◌, List, [], ◌∷◌, ◌++◌, Option, if◌then◌else◌}
use Rattle.std.specs.List.{find, fold}
use Rattle.uc_entry.specs.declared.entry.Entry.{Entry}
use Rattle.uc_entry.specs.declared.entry.EntryKind.{EntryKind}
use Rattle.uc_entry.specs.declared.entry.EntryKind.TheVariants as kind
pub use Rattle.uc_entry.specs.Keyed.{signed_64, drop_first}
use Rattle.uc_acts.specs.Journal.{Journal, number, holds}
use Rattle.uc_tree.specs.SiteOffers.{has_bit}

-- what is pending at task t once an entry stands: a raise at it comes to the end, and a poll that delivers an event takes its oldest
abbrev pub pending_by : ℕ → List (ℕ × ℤ × ℤ) → EntryKind → Entry → List (ℕ × ℤ × ℤ)
pending_by t ps kind.Raise e = if holds t e.a then ps ++ (number e.b, e.c, e.d) ∷ [] else ps
pending_by t ps kind.Poll e =
    if e.task == t then drop_first (λ r. holds (r.0 + 1) e.a) ps else ps
pending_by t ps _ e = ps

-- the events pending at task t, oldest first, each with its fields
unfoldable pub pending : ℕ → Journal → List (ℕ × ℤ × ℤ)
pending t j = fold (λ ps e. pending_by t ps e.kind e) [] j

-- the oldest pending event in a mask
abbrev pub oldest_in : ℕ → List (ℕ × ℤ × ℤ) → Option (ℕ × ℤ × ℤ)
oldest_in mask ps = find (λ r. has_bit r.0 mask) ps
