-- A worker's seat.
use Rattle.std.specs.Prelude.{◌≡◌, false}
use Rattle.uc_entry.specs.declared.entry.Entry.{Entry}
use Rattle.uc_lock.specs.Journals.{made_by}
use Rattle.uc_lock.specs.Meanings.{Lock, Sitting, IsSeatOf}
use Rattle.uc_vproc.specs.declared.desk.RunKey.{RunKey}
use Rattle.uc_vproc.specs.declared.step.Step.{Step}
use Rattle.uc_vproc.specs.Desks.{Came}

-- a seat of this lock that does not have the value out
abbrev pub IsReady : Lock RunKey (Entry × Step) → Sitting RunKey (Entry × Step) → Type 0
IsReady lock seat = IsSeatOf lock seat × (seat.holds ≡ false)

-- the same seat, which may have seen and made more
abbrev pub IsSame : Sitting RunKey (Entry × Step) → Sitting RunKey (Entry × Step) → Type 0
IsSame a b = b.number ≡ a.number

-- what has come to the worker of a seat, and what its seat knows
pub record HasCome (lock : Lock RunKey (Entry × Step)) (seat : Sitting RunKey (Entry × Step)) (step : Step) : Type 0 where
  pub own : seat.own ≡ made_by seat.number seat.seen
  pub came : Came lock.terms.key.code seat.number seat.seen step
