-- Requests that come from the end of a cluster that is a variable.
use Rattle.std.specs.Prelude.{◌≡◌, ℕ, ◌<◌, List}
use Rattle.uc_tree.specs.Programs.{Program}
use Rattle.uc_entry.specs.declared.request.Request.{Request}
use Rattle.uc_acts.specs.Journal.{Journal}
use Rattle.uc_machine.specs.Pieces.{Todo, LAST_ADDRESS, Asks}
use Rattle.uc_machine.specs.Quiet.{State, quiet, Quietly}
use Rattle.uc_meaning.specs.Runs.{World}
use Rattle.uc_resolve.specs.Resolve.{source_of}
use Rattle.uc_state_laws.specs.RoomRuns.{Comes}
use Rattle.uc_state_laws.specs.Opens.{LeavesCluster}
use Rattle.uc_state_laws.specs.Limits.{IsWithinLimits}

-- a task of a program within its limits comes to the end of the scope of such a cluster, at a cell that has an address, and by quiet steps alone
-- to this request
pub record LeavesScope (p : Program) (j : Journal) (w : World) (t : ℕ) (q : Request) : Type 0 where
  pub within : IsWithinLimits p
  pub state : State
  pub comes : Comes (source_of p) j w t state
  pub cell : ℕ
  pub near : cell < LAST_ADDRESS
  pub todo : List Todo
  pub leaves : LeavesCluster cell todo state.run.control
  pub asking : State
  pub after : State
  pub leads : Quietly (source_of p) state asking
  pub asks : quiet (source_of p) asking ≡ Asks q after
