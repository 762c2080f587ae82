-- What is left to find of steps that take marks away, where parts of objects are taken over; of steps that make executions, that these are named where their
-- coroutines lie in frames.
use Rattle.std.specs.Prelude.{◌≡◌, ℕ, Bool, List, [], ◌∷◌}
use Rattle.uc_tree.specs.Source.{Source}
use Rattle.uc_machine.specs.declared.exec.Exec.{Exec}
use Rattle.uc_machine.specs.Pieces as piece
use Rattle.uc_machine.specs.Pieces.{Value, Todo, State, Goes, sort}
use Rattle.uc_machine.specs.Quiet.{quiet}
use Rattle.uc_name_laws.specs.NameSteps.{IsBorn}
use Rattle.uc_life_laws.specs.Held.{Seating, NamedAt, IsOwn, ClearsBehind, LetsGo}
use Rattle.uc_life_laws.specs.Ways.{ReadsLast, ForgetsBy, UnwindsBy}
use Rattle.uc_rooted_runs.specs.Makers.{Makers, seating}
use Rattle.uc_rooted_runs.specs.Births.{MakesLater}
use Rattle.uc_rooted_runs.specs.OutlastRuns.{with_homes, now}
use Rattle.uc_rooted_runs.specs.KeptRuns.{Keeps}
use Rattle.uc_parts_laws.specs.PartStates.{PartsState}

module _ (source : Source) (seats : Seating) (up : Exec → Bool) where
  -- one that is made is named behind the step, where its coroutine lies in a frame
  abbrev pub NamesNew : State → Type 0
  NamesNew s = (n : Exec) → IsBorn source s n → (u : State) → quiet source s ≡ Goes u →
      NamedAt u.env.exec u.callers u.env.frames n (seats.seat n).place

  -- an execution is up no more where its coroutine is forgotten; where the destructor of a mutex object is called that comes to the end of
  -- one, that object is read there; one that is made is named; and no first cell goes with its frame, or starts anew, that names one
  abbrev pub GoesAt : List Todo → State → Type 0
  GoesAt [] s = LetsGo source seats up s
  GoesAt (piece.ClearNow k m ∷ todo) s = ClearsBehind source seats up s k
  GoesAt (piece.SetUpNow r ∷ todo) s = NamesNew s
  GoesAt (piece.Finish ∷ todo) s = LetsGo source seats up s
  GoesAt (piece.Exit way ∷ []) s = LetsGo source seats up s
  GoesAt (piece.Unwind ∷ []) s = LetsGo source seats up s
  GoesAt (piece.Clean c ∷ todo) s = ForgetsBy source seats up c s
  GoesAt (piece.Sweep d ∷ todo) s = (x : Exec) → IsOwn source seats up s x → ReadsLast source seats up x d s
  GoesAt (piece.Unwind ∷ (p ∷ todo)) s = UnwindsBy source seats up (sort p) s
  GoesAt todo s = Unit {0}

  abbrev pub GoesNow : State → Type 0
  GoesNow s = GoesAt s.run.control s

-- so executions are held soon behind steps that take their marks away or make them, in states in which parts are taken over, by homes that are told
abbrev pub LawLeaving : Type 0
LawLeaving =
    (source : Source) (special : ℕ → Bool) (makers : Makers) (homes : ℕ → Value) (asked made : Exec → Bool) (s : State) →
    PartsState (record { source = source; special = special; home = homes }) s → MakesLater source makers s →
    GoesNow source (seating (with_homes homes makers)) (now makers asked made) s →
    Keeps (with_homes homes makers) asked source made s
