-- What is bound is a place of the execution's own.
use Rattle.std.proofs.Common.{◌≡◌, ℕ, suc, false, List, [], ◌∷◌, arith}
use Rattle.std.specs.Prelude.{drop, slice_get}
use Rattle.uc_tree.specs.Programs.{Program}
use Rattle.uc_entry.specs.declared.entry.Entry.{Entry}
use Rattle.uc_entry.specs.declared.entry.Options.{Options}
use Rattle.uc_entry.specs.declared.request.Asked.{Asked}
use Rattle.uc_acts.specs.Journal.{Journal, is_over}
use Rattle.uc_acts.specs.KernelRuns.{InRange}
use Rattle.uc_machine.specs.Pieces as piece
use Rattle.uc_machine.specs.Pieces.{Value, Todo, State, top, below}
use Rattle.uc_machine.specs.Rides as rides
use Rattle.uc_machine.specs.Rides.{Rides}
use Rattle.uc_meaning.specs.Runs.{World, May, Runs as RunsIn, gives, no_room, acts, begun, more}
use Rattle.uc_resolve.specs.Resolve.{source_of}
use Rattle.uc_rules.specs.Breaks.{breaks_of}
use Rattle.uc_state_laws.specs.Fitting.{RunFits}
use Rattle.uc_state_laws.proofs.Others.{RunRests, run_rests}
use Rattle.uc_state_laws.specs.ScopeFrameRuns.{KeepsFrames}
use Rattle.uc_state_laws.specs.Layout.{Sized}
use Rattle.uc_state_laws.specs.Rooms.{SourceIn}
use Rattle.uc_state_laws.proofs.StackWorlds.{law_frame_runs}
use Rattle.uc_state_laws.proofs.Unreferring.{law_accepted}
use Rattle.uc_state_laws.specs.Opens.{RideMeets, MayMeet, RunMeets}
use Rattle.uc_state_laws.specs.Counted.{params}
use Rattle.uc_sound.specs.Tables.{table_of}
use Rattle.uc_life_laws.specs.Things.{Few}
use Rattle.uc_life_laws.specs.LifeRuns.{IsLaidOut}
use Rattle.uc_life_laws.proofs.Laying.{laid_out}
use Rattle.uc_life_laws.specs.Belonging.{Belongs}
use Rattle.uc_life_laws.specs.Ending.{Spot}
use Rattle.uc_putting_laws.specs.CleanedSpots.{site_spot, Reach, IsOf, IsIn}
use Rattle.uc_putting_laws.specs.ObjectsAtHand.{LiesUnder}
use Rattle.uc_putting_laws.specs.Seats.{IsSeated}
use Rattle.uc_putting_laws.specs.Putting.{Setting, Mark, Homed, rest, rests, spot_at, Holds, made_marks, Ok, CodeRoutine, PutState}
use Rattle.uc_putting_laws.specs.PuttingLaws.{special_of, setting_of, Fair}
use Rattle.uc_putting_laws.specs.OwnPlaces.{OwnPlacesAt, OwnPlaces, LawOwnPlaces}
use Rattle.uc_putting_laws.proofs.ObjectsWithin.{below_own}
use Rattle.uc_putting_laws.proofs.Marks.{at_of, under_of, holds_below, holds_drop, stands_under, under_spot}
use Rattle.uc_putting_laws.proofs.Steps.{here}
use Rattle.uc_putting_laws.proofs.Routines.{law_calling}
use Rattle.uc_putting_laws.proofs.Worlds.{Stands, PutWorld, goes, ticks, start, run_put}
use Rattle.uc_putting_laws.proofs.PuttingRuns.{code_of}

module _ (g : Setting) (s : State) (made : Reach) (this : IsSeated g.table g.source g.special g.few made s.env.exec s.callers s.run.frame s.run.handles s.run.this) where
  -- what lies at a spot that code names, or further, is the execution's own
  spot_own : (p : Spot) → IsOf made p → (v : Value) → LiesUnder (spot_at g.few (here s) p) v → Belongs g.few s.env.exec v
  spot_own p i v u = below_own g.few s.env.exec (suc s.run.frame) v (under_spot g.few (here s) made this.own (suc s.run.frame) (omega arith) p i v u)

  own_places : (ms : List Mark) → Holds g.few (here s) s.run.elements ms s.run.operands → (l : List Todo) → Ok g (here s) made ms l → OwnPlacesAt g.few g.source l s
  own_places ms holds (piece.BindNow ∷ todo) h =
      let k = under_of g.few (here s) s.run.elements (rest ms) (below s.run.operands) (holds_below g.few (here s) s.run.elements ms s.run.operands holds) (λ n p. IsOf made p) h.0 in
      spot_own k.1 k.3 (top (below s.run.operands)) k.2.1
  own_places ms holds (piece.BindMadeNow c r ∷ todo) h =
      let n = params g.source r in
      let vs = below s.run.operands in
      let under = holds_drop g.few (here s) s.run.elements n (rest ms) vs (holds_below g.few (here s) s.run.elements ms s.run.operands holds) in
      let k = at_of g.few (here s) s.run.elements (rests n (rest ms)) (drop n vs) under (λ x. IsIn made x × Ok g (here s) made (made_marks g r (Homed x) (rest ms)) todo) h in
      spot_own (site_spot k.0) k.2.0 (top (drop n vs)) (stands_under g.few (here s) s.run.elements k.0 (top (drop n vs)) k.1)
  own_places ms holds (piece.SetUpNow r ∷ todo) h = below_own g.few s.env.exec s.run.frame s.run.this (this.own h.0.0)
  own_places ms holds (piece.ForgetNow ∷ todo) h = below_own g.few s.env.exec s.run.frame s.run.this (this.own h.0)
  own_places ms holds l h = tt

states : (g : Setting) (s : State) → PutState g s → OwnPlaces g.few g.source s
states g s h = own_places g s h.run.made h.run.this h.run.marks h.run.holds s.run.control h.run.ok

module _ (p : Program) (g : Setting) (laid : IsLaidOut (Sized p) g.table) (in_rooms : SourceIn (Sized p) g.source) (known : (n : ℕ) → CodeRoutine g (g.special n) (g.table.routine n).this (slice_get g.source.routines n)) where
  ridden : {s u : State} {q k : ℕ} {a : Asked} (d : Rides g.source s q u k a) → RideMeets (Fair g) g.source s q u k a d → Stands p g s → RideMeets (OwnPlaces g.few g.source) g.source s q u k a d
  ridden rides.slices f n = tt
  ridden (rides.goes_on {s} {t} e r) f n = (states g s n.put, ridden r f.1 (goes p g laid in_rooms known s t e n f.0))
  ridden (rides.ticks {s} {t} e r) f n = (states g s n.put, ridden r f.1 (ticks p g laid in_rooms known s t e n f.0))
  ridden (rides.asks {s} {t} e) f n = states g s n.put

module _ (p : Program) (accepted : breaks_of p ≡ []) (few : Few) (laid : IsLaidOut (Sized p) (table_of p)) (main : special_of p (source_of p).main ≡ false) (known : (n : ℕ) → CodeRoutine (setting_of p few) (special_of p n) ((table_of p).routine n).this (slice_get (source_of p).routines n)) (input : List ℕ) (opts : Options) (range : InRange opts) where
  may : {j : Journal} {w : World} {a : List Entry} {v : World} → RunRests (source_of p) input opts j w → is_over j ≡ false → PutWorld (setting_of p few) j w → KeepsFrames p j w → (m : May (source_of p) opts input j w a v) → MayMeet (Fair (setting_of p few)) (source_of p) opts input j w a v m → MayMeet (OwnPlaces few (source_of p)) (source_of p) opts input j w a v m
  may r o x i (gives q t s le) fair = tt
  may r o x i (no_room q t s le) fair = tt
  may r o x i (acts q t n s asked d) fair =
      ridden p (setting_of p few) laid (law_accepted p accepted) known d.rides fair (start p accepted few laid main known input opts range r o x i q t d.given d.runs d.told)

  run : {j : Journal} {w : World} (r : RunsIn (source_of p) input opts j w) → RunFits (source_of p) input opts j w r → RunMeets (Fair (setting_of p few)) (source_of p) input opts j w r → RunMeets (OwnPlaces few (source_of p)) (source_of p) input opts j w r
  run begun f fair = tt
  run (more {j} {w} r o m) f fair =
      let k = run_put p accepted few laid main known input opts range r f.0 fair.0 in
      (run r f.0 fair.0, may (run_rests (source_of p) input opts range r f.0 o) o (k.0 o) (law_frame_runs p accepted input opts j w r) m fair.1)

pub law_own_places : LawOwnPlaces
law_own_places = record {
  states = states;
  runs = λ p formed accepted few input opts range j w r f fair.
      run p accepted few (laid_out p formed accepted) (law_calling p formed accepted).main (code_of p formed accepted few) input opts range r f fair;
  rides = λ p formed accepted few input opts range j w r f fair on q t n s asked d now.
      let laid = laid_out p formed accepted in
      let main = (law_calling p formed accepted).main in
      let known = code_of p formed accepted few in
      let k = run_put p accepted few laid main known input opts range r f fair in
      ridden p (setting_of p few) laid (law_accepted p accepted) known d.rides now (start p accepted few laid main known input opts range (run_rests (source_of p) input opts range r f on) on (k.0 on) (law_frame_runs p accepted input opts j w r) q t d.given d.runs d.told);
}
