-- Ways on which it is counted how many states are left in which a clean-up finds and reads the variable that it ends.
use Rattle.std.specs.Prelude.{ℕ, zero, suc, Bool, true, false, List, ◌∷◌}
use Rattle.uc_tree.specs.Source.{Expr, Variable, Load, OfObject, EndOn, EndCluster, EndProcessor, CleanUp, Destroys, Source}
use Rattle.uc_tree.specs.declared.limits.TheConstants.{DESTRUCTOR}
use Rattle.uc_entry.specs.declared.entry.Entry.{Entry}
use Rattle.uc_entry.specs.declared.entry.Options.{Options}
use Rattle.uc_entry.specs.declared.request.Asked.{Asked}
use Rattle.uc_acts.specs.Journal.{Journal}
use Rattle.uc_acts.specs.Serves.{left}
use Rattle.uc_machine.specs.Pieces.{Clean, Unwind, TickNow, EnterNow, CallOnNow, CallUnwrittenNow, ClusterEndNow, ProcessorEndNow}
use Rattle.uc_machine.specs.Quiet.{State, Todo}
use Rattle.uc_machine.specs.Answering.{answered}
use Rattle.uc_machine.specs.Rides.{Rides, slices, goes_on, ticks, asks}
use Rattle.uc_meaning.specs.Runs.{World, May, Runs, drawn, gives, no_room, acts, begun, more}
use Rattle.uc_state_laws.specs.RoomRuns.{Leads, stays, goes, ticks as by_tick}

-- a clean-up ends what is known by its number and stands in a variable
abbrev pub ends_variable : CleanUp → Bool
ends_variable (Destroys (OfObject (EndOn r written (Load (Variable k))))) = true
ends_variable (Destroys (OfObject (EndCluster (Load (Variable k))))) = true
ends_variable (Destroys (OfObject (EndProcessor (Load (Variable k))))) = true
ends_variable c = false

-- Behind the mark of such a clean-up, which is come to or unwound, the steps from four states find that variable and read it.
abbrev pub reading_by : Bool → ℕ
reading_by true = 4
reading_by false = 0

abbrev pub reading : List Todo → ℕ
reading (Clean c ∷ todo) = reading_by (ends_variable c)
reading (Unwind ∷ (Clean c ∷ todo)) = reading_by (ends_variable c)
reading todo = 0

-- behind a state, by how many of them are left with it
abbrev pub still_reading : ℕ → List Todo → ℕ
still_reading zero todo = reading todo
still_reading (suc n) todo = n

-- what ends: a mutex object by a destructor, which is written or not, a cluster, a processor
pub data End : Type 0 where
  OnObject : ℕ → Bool → End
  OfCluster : End
  OfProcessor : End

abbrev pub end_expr : End → ℕ → Expr
end_expr (OnObject r written) k = OfObject (EndOn r written (Load (Variable k)))
end_expr OfCluster k = OfObject (EndCluster (Load (Variable k)))
end_expr OfProcessor k = OfObject (EndProcessor (Load (Variable k)))

-- what is to do behind the one that is found
abbrev pub behind_end : End → List Todo → List Todo
behind_end (OnObject r false) todo = EnterNow DESTRUCTOR r ∷ (CallUnwrittenNow r ∷ todo)
behind_end (OnObject r true) todo = TickNow ∷ (EnterNow DESTRUCTOR r ∷ (CallOnNow r ∷ todo))
behind_end OfCluster todo = ClusterEndNow ∷ todo
behind_end OfProcessor todo = ProcessorEndNow ∷ todo

-- What holds of the states of a ride, each with how many of those are left with it; of an act, and of each act of a run.
abbrev pub RideHolds : (P : ℕ → State → Type 0) (source : Source) (n : ℕ) (s : State) (q : ℕ)
    (u : State) (k : ℕ) (a : Asked) → Rides source s q u k a → Type 0
RideHolds P source n _ _ _ _ _ slices = Unit {0}
RideHolds P source n _ _ _ _ _ (goes_on {s} {t = v} {u} {q} {k} {a} e rest) = P n s ×
    RideHolds P source (still_reading n s.run.control) v (suc q) u k a rest
RideHolds P source n _ _ _ _ _ (ticks {s} {t = v} {u} {q} {k} {a} e rest) = P n s ×
    RideHolds P source (still_reading n s.run.control) v q u k a rest
RideHolds P source n _ _ _ _ _ (asks {s} e) = P n s

abbrev pub MayHold : (P : ℕ → State → Type 0) (source : Source) (opts : Options) (input : List ℕ)
    (j : Journal) (w : World) (a : List Entry) (x : World) → May source opts input j w a x → Type 0
MayHold P source opts input j w _ _ (gives p t s h) = Unit {0}
MayHold P source opts input j w _ _ (no_room p t s h) = Unit {0}
MayHold P source opts input j w _ _ (acts p t k s asked d) =
    RideHolds P source 0 (answered source d.given (drawn j w t)) (left opts j t) s k asked d.rides

abbrev pub RunHolds : (P : ℕ → State → Type 0) (source : Source) (input : List ℕ) (opts : Options)
    (j : Journal) (w : World) → Runs source input opts j w → Type 0
RunHolds P source input opts _ _ begun = Unit {0}
RunHolds P source input opts _ _ (more {j} {w} {a} {w' = x} r o m) = RunHolds P source input opts j w r ×
    MayHold P source opts input j w a x m

-- so it holds of the states on the way to one
abbrev pub LeadsHold : (P : ℕ → State → Type 0) (source : Source) (n : ℕ) (s u : State) →
    Leads source s u → Type 0
LeadsHold P source n _ _ stays = Unit {0}
LeadsHold P source n _ _ (goes {s} {u} {v} e l) = P n s ×
    LeadsHold P source (still_reading n s.run.control) u v l
LeadsHold P source n _ _ (by_tick {s} {u} {v} e l) = P n s ×
    LeadsHold P source (still_reading n s.run.control) u v l
