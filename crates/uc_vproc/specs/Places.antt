-- What a request is to fit.
use Rattle.std.specs.Prelude.{◌≡◌, ℕ, true, List, [], length}
use Rattle.uc_entry.specs.declared.request.Request.{Request}
use Rattle.uc_entry.specs.declared.request.Request.TheVariants as ask
use Rattle.uc_acts.specs.Journal.{Journal}
use Rattle.uc_acts.specs.Known.{has, owner}
use Rattle.uc_acts.specs.KernelRuns.{IsMade}
use Rattle.uc_vproc.specs.declared.fits.Place.{Place}
use Rattle.uc_vproc.specs.declared.fits.Place.TheVariants as place

abbrev pub place_of : ℕ → Request → Place
place_of own (ask.Poll m) = place.Anywhere
place_of own ask.Yield = place.Anywhere
place_of own ask.Slice = place.Anywhere
place_of own ask.Fail = place.Anywhere
place_of own (ask.Fault n) = place.Anywhere
place_of own (ask.Make c) = place.Anywhere
place_of own ask.Cluster = place.Anywhere
place_of own (ask.Print n items) = place.Anywhere
place_of own (ask.Read form) = place.Anywhere
place_of own (ask.Made o) = place.At o
place_of own (ask.Leave o failed) = place.At o
place_of own (ask.Wait o c n) = place.At o
place_of own (ask.Signal o c) = place.At o
place_of own (ask.SignalBlock o c) = place.At o
place_of own (ask.Empty o c) = place.At o
place_of own (ask.Front o c) = place.At o
place_of own (ask.Gone o) = place.At o
place_of own ask.End = place.At own
place_of own (ask.Spawn o) = place.Unowned o
place_of own (ask.Call o m) = place.Outside o
place_of own (ask.Raise o event x y) = place.Owned o
place_of own (ask.Accept o site mask) = place.At o
place_of own (ask.ClusterEnd c) = place.Cluster c
place_of own (ask.Processor c) = place.Cluster c
place_of own (ask.Migrate c) = place.Cluster c
place_of own (ask.ProcessorEnd q) = place.Processor q

-- an object in hand that is made and not gone, and no task's own
pub record IsBare (hand : List ℕ) (o : ℕ) (j : Journal) : Type 0 where
  pub holds : has hand o ≡ true
  pub nobody : owner o j ≡ []

-- an object that is made and not gone and a task's own
pub record IsOwned (o : ℕ) (j : Journal) : Type 0 where
  pub known : IsMade o j
  pub one : length (owner o j) ≡ 1
