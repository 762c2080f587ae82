-- What an act and a dispatch leave of the journal.
use Rattle.std.specs.Prelude.{◌≡◌, ℕ, ◌+◌, ◌<◌, ◌≤◌, Bool, true, false, List, [], ◌∷◌, ◌++◌, length, take}
use Rattle.uc_entry.specs.declared.entry.Entry.{Entry}
use Rattle.uc_entry.specs.declared.entry.Options.{Options}
use Rattle.uc_entry.specs.declared.request.Request.{Request}
use Rattle.uc_entry.specs.declared.request.Request.TheVariants as ask
use Rattle.uc_acts.specs.Journal.{Journal, is_over}
use Rattle.uc_acts.specs.Serves.{Serves}
use Rattle.uc_acts.specs.Laws.{IsServed}
use Rattle.uc_acts.specs.Acts.{act, dispatch, lone_limit}
use Rattle.uc_kernel_core.specs.Mirrors.{Seen, Appended}

-- the act of what task t on p asks after k ticks, in a line
abbrev pub acts : Seen → ℕ → ℕ → ℕ → ℕ → Request → List Entry
acts s p t k line r = act s.opts s.sites s.input s.journal p t k (record { request = r; line = line })

-- the run goes on, and one entry more fits
pub record IsReady (s : Seen) : Type 0 where
  pub going : is_over s.journal ≡ false
  pub room : length s.journal < s.opts.entries

-- the requests for which memory is taken
abbrev pub makes_new : Request → Bool
makes_new (ask.Make class) = true
makes_new (ask.Spawn o) = true
makes_new r = false

-- the least processor that may be given a task, and that task
pub record IsFirst (opts : Options) (j : Journal) (p t : ℕ) : Type 0 where
  pub serves : Serves opts j p t
  pub least : (q u : ℕ) → Serves opts j q u → p ≤ q

-- a dispatch gave a task
pub record Gave (old new : Seen) (p t : ℕ) : Type 0 where
  pub first : IsFirst old.opts old.journal p t
  pub room : length old.journal + 2 ≤ old.opts.entries
  pub appended : Appended old new (dispatch p t ∷ [])

-- a dispatch gave none: nobody is served, or there is no room
pub data GaveNone (old new : Seen) : Type 0 where
  nobody : ((p t : ℕ) → Serves old.opts old.journal p t → ⊥) → new ≡ old → GaveNone old new
  no_room : IsServed old.opts old.journal → old.opts.entries < length old.journal + 2 → Appended old new (lone_limit ∷ []) → GaveNone old new

-- these entries stand behind the first n, and nothing else changed that contracts see
pub record Replaced (old new : Seen) (n : ℕ) (a : List Entry) : Type 0 where
  pub journal : new.journal ≡ take n old.journal ++ a
  pub sites : new.sites ≡ old.sites
  pub opts : new.opts ≡ old.opts
  pub input : new.input ≡ old.input
