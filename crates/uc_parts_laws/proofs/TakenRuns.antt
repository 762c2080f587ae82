-- In every run of a program that breaks no rule parts are taken over where constructors are called.
use Rattle.std.proofs.Common.{◌≡◌, ℕ, false, List, [], ◌∷◌, Option, Some, None, ◌∙◌}
use Rattle.std.specs.Prelude.{slice_get}
use Rattle.uc_tree.specs.Numbering.{sites_of}
use Rattle.uc_tree.specs.Programs.{Program}
use Rattle.uc_tree.specs.Source.{Source, Routine}
use Rattle.uc_entry.specs.declared.request.Asked.{Asked}
use Rattle.uc_acts.specs.Known.{object_count}
use Rattle.uc_machine.specs.Pieces as piece
use Rattle.uc_machine.specs.Pieces.{Value, Todo, State}
use Rattle.uc_machine.specs.Rides as rides
use Rattle.uc_machine.specs.Rides.{Rides}
use Rattle.uc_machine.specs.Answering.{answered}
use Rattle.uc_meaning.specs.Runs.{World, Runs, AsksIn, drawn}
use Rattle.uc_acts.specs.Journal.{Journal, is_over}
use Rattle.uc_acts.specs.KernelRuns.{InRange}
use Rattle.uc_acts.specs.Serves.{left}
use Rattle.uc_entry.specs.declared.entry.Options.{Options}
use Rattle.uc_resolve.specs.Resolve.{source_of}
use Rattle.uc_rules.specs.Breaks.{breaks_of}
use Rattle.uc_sound.specs.SoundFormed.{IsFormed}
use Rattle.uc_sound.specs.Tables.{table_of}
use Rattle.uc_sound.proofs.SoundLemmas.{law_sound}
use Rattle.uc_site_laws.proofs.Routines.{source_named}
use Rattle.uc_state_laws.specs.Counted.{CountedRoutine, CountedSource}
use Rattle.uc_state_laws.specs.Fitting.{RunFits}
use Rattle.uc_state_laws.specs.Opens.{RideMeets, RunMeets}
use Rattle.uc_state_laws.specs.RoomRuns as rooms
use Rattle.uc_state_laws.specs.RoomRuns.{Leads, Comes}
use Rattle.uc_state_laws.proofs.Arguments.{counted_source}
use Rattle.uc_life_laws.specs.Homes.{home_of}
use Rattle.uc_life_laws.specs.MadeObjects.{BindsAt, Binds}
use Rattle.uc_life_laws.proofs.Homes.{law_binds}
use Rattle.uc_life_laws.proofs.Riding.{run_more}
use Rattle.uc_parts_laws.specs.PartStates.{Setting, CallsTaken}
use Rattle.uc_parts_laws.specs.PartsRuns.{parts_of}
use Rattle.uc_parts_laws.specs.Undoing.{UndoingRoutine, UndoingSource}
use Rattle.uc_parts_laws.specs.UndoingTodos.{CodeRoutine}
use Rattle.uc_parts_laws.specs.UndoingStates.{BindsHome}
use Rattle.uc_parts_laws.specs.UndoingLaws.{LawUndoing, LawTaking}
use Rattle.uc_parts_laws.proofs.Taking.{calls_taken}
use Rattle.uc_parts_laws.proofs.UndoingSources.{undoing_source}
use Rattle.uc_parts_laws.proofs.UndoingWalk.{walk, first_undoing, answered_undoing}
use Rattle.uc_parts_laws.proofs.UndoingWorlds.{Homes, run_undoing, asked_undoing}

code_by : (g : Setting) (r : Option Routine) → CountedRoutine g.source r → UndoingRoutine g.source g.special r → CodeRoutine g r
code_by g None n q = tt
code_by g (Some r) n q = (n, q)

code : (g : Setting) → CountedSource g.source → UndoingSource g.source g.special → (n : ℕ) → CodeRoutine g (slice_get g.source.routines n)
code g counted undoing n = code_by g (slice_get g.source.routines n) (counted n) (undoing n)

pub law_undoing : LawUndoing
law_undoing p formed accepted = undoing_source p formed accepted

pub law_taking : LawTaking
law_taking = record {
  begins = λ g counted undoing r o. first_undoing g (code g counted undoing) r o;
  steps = λ g counted undoing s h k. walk g (code g counted undoing) s h k;
  told = λ g form given s k f c e. answered_undoing g form given s k f c e;
  takes = λ g s h. calls_taken g s h;
}

-- what holds in each state that is reached holds in each state of a ride
rides_meet : (P : State → Type 0) {source : Source} {s u : State} {q k : ℕ} {a : Asked} (d : Rides source s q u k a) → ((v : State) → Leads source s v → P v) → RideMeets P source s q u k a d
rides_meet P rides.slices f = tt
rides_meet P (rides.goes_on {s} {t} e r) f = (f s rooms.stays, rides_meet P r (λ v l. f v (rooms.goes e l)))
rides_meet P (rides.ticks {s} {t} e r) f = (f s rooms.stays, rides_meet P r (λ v l. f v (rooms.ticks e l)))
rides_meet P (rides.asks {s} {t} e) f = f s rooms.stays

-- a made object is bound at its home
module _ (g : Setting) (homes : ℕ → Value) (many : ℕ) (same : (o : ℕ) → g.home o ≡ homes o) where
  bound_at : (l : List Todo) (s : State) → BindsAt g.source homes many l s → BindsHome g l s
  bound_at (piece.BindMadeNow c r ∷ todo) s h = (h.number, h.object, same h.number ∙ h.home)
  bound_at l s h = tt

  bound : (s : State) → Binds g.source homes many s → Homes g s
  bound s h = bound_at s.run.control s h

known_of : (p : Program) → IsFormed p → breaks_of p ≡ [] → (home : ℕ → Value) → (n : ℕ) → CodeRoutine (parts_of p home) (slice_get (source_of p).routines n)
known_of p formed accepted home =
    code (parts_of p home) (counted_source (sites_of p) (source_of p) (table_of p) (law_sound p formed accepted) (source_named p)) (law_undoing p formed accepted)

comes : (source : Source) (opts : Options) (j : Journal) (w : World) (q t n : ℕ) (s : State) (asked : Asked) → (d : AsksIn source opts j w q t n s asked) → (v : State) → Leads source (answered source d.given (drawn j w t)) v → Comes source j w t v
comes source opts j w q t n s asked d v l = record { given = d.given; processor = q; runs = d.runs; told = d.told; leads = l }

module _ (p : Program) (formed : IsFormed p) (accepted : breaks_of p ≡ []) (home : ℕ → Value) (input : List ℕ) (opts : Options) (range : InRange opts) (j : Journal) (w : World) (r : Runs (source_of p) input opts j w) (fits : RunFits (source_of p) input opts j w r) (same : (o : ℕ) → home o ≡ home_of (source_of p) input opts j w r o) where
  abbrev g : Setting
  g = parts_of p home

  abbrev homes : ℕ → Value
  homes = home_of (source_of p) input opts j w r

  run_homes : RunMeets (Homes g) (source_of p) input opts j w r
  run_homes = run_more (source_of p) (Binds (source_of p) homes (object_count j)) (Homes g) (λ s h. bound g homes (object_count j) same s h) opts input r (law_binds.runs (source_of p) input opts j w r range fits)

  pub run_taken : RunMeets (CallsTaken g) (source_of p) input opts j w r
  run_taken = (run_undoing g (known_of p formed accepted home) input opts range r fits run_homes).1

  pub ride_taken : is_over j ≡ false → (q t n : ℕ) (s : State) (asked : Asked) (d : AsksIn (source_of p) opts j w q t n s asked) → RideMeets (CallsTaken g) (source_of p) (answered (source_of p) d.given (drawn j w t)) (left opts j t) s n asked d.rides
  ride_taken on q t n s asked d =
      asked_undoing g (known_of p formed accepted home) input opts range r fits run_homes on q t n s asked d (rides_meet (Homes g) d.rides (λ v l. bound g homes (object_count j) same v (law_binds.leads (source_of p) input opts j w r range fits on t v (comes (source_of p) opts j w q t n s asked d v l)).1))
