-- In each run of a program that breaks no rule each activation has its object, and is told of it, as long as steps find what they are to find.
use Rattle.std.proofs.Common.{◌≡◌, ℕ, false, List, []}
use Rattle.std.specs.Prelude.{slice_get}
use Rattle.uc_tree.specs.Programs.{Program}
use Rattle.uc_entry.specs.declared.entry.Options.{Options}
use Rattle.uc_entry.specs.declared.request.Asked.{Asked}
use Rattle.uc_acts.specs.Journal.{Journal, is_over}
use Rattle.uc_acts.specs.Serves.{left}
use Rattle.uc_acts.specs.KernelRuns.{InRange}
use Rattle.uc_machine.specs.declared.exec.Exec.{Exec}
use Rattle.uc_machine.specs.Pieces.{Value, State}
use Rattle.uc_machine.specs.Rides.{Rides, slices, goes_on, ticks, asks}
use Rattle.uc_machine.specs.Answering.{answered}
use Rattle.uc_meaning.specs.Runs.{World, Runs, AsksIn, drawn, gives, no_room, acts, begun, more}
use Rattle.uc_resolve.specs.Resolve.{source_of}
use Rattle.uc_rules.specs.Breaks.{breaks_of}
use Rattle.uc_state_laws.specs.Fitting.{RunFits}
use Rattle.uc_state_laws.proofs.Others.{run_rests}
use Rattle.uc_state_laws.specs.ScopeFrameRuns.{KeepsFrames}
use Rattle.uc_state_laws.specs.RoomRuns as way
use Rattle.uc_state_laws.specs.RoomRuns.{Leads}
use Rattle.uc_state_laws.proofs.StackWorlds.{law_frame_runs}
use Rattle.uc_state_laws.proofs.Unreferring.{law_accepted}
use Rattle.uc_state_laws.specs.Opens.{RideMeets, RunMeets, LeadsMeet}
use Rattle.uc_typing.specs.Typing.{Ty}
use Rattle.uc_sound.specs.SoundFormed.{IsFormed}
use Rattle.uc_sound.specs.Tables.{table_of}
use Rattle.uc_life_laws.specs.Things.{Few, Base}
use Rattle.uc_life_laws.specs.Lives.{LivesState}
use Rattle.uc_life_laws.specs.Knowing.{KnowsState}
use Rattle.uc_life_laws.specs.KnownAnswers.{MainPasses}
use Rattle.uc_life_laws.specs.KnownRuns.{PassesBelow, Meets, AllIsKnown}
use Rattle.uc_life_laws.proofs.KnownWorlds.{earlier, law_known_runs}
use Rattle.uc_life_laws.proofs.Laying.{laid_out}
use Rattle.uc_life_laws.specs.Rooted.{IsBase}
use Rattle.uc_putting_laws.specs.Putting.{CodeRoutine}
use Rattle.uc_putting_laws.specs.PuttingLaws.{special_of, setting_of, Fair}
use Rattle.uc_putting_laws.proofs.Routines.{law_calling}
use Rattle.uc_putting_laws.proofs.Worlds.{Stands, goes, ticks as ticks_on, start, run_put}
use Rattle.uc_putting_laws.proofs.PuttingRuns.{code_of}
use Rattle.uc_making_laws.specs.OwnThis.{FindsThis}
use Rattle.uc_making_laws.specs.LettingGo.{FindsTold}
use Rattle.uc_lasting_programs.specs.CallsRuns.{LawCallsRuns}
use Rattle.uc_lasting_programs.proofs.Wholes.{plain_whole}
use Rattle.uc_making_laws.proofs.ThisRuns.{law_this_runs}
use Rattle.uc_lasting_programs.proofs.CallsStates.{calls}
use Rattle.uc_lasting_programs.proofs.LettingStates.{tells}

-- what is known of a state on the way
pub record IsKnownThere (p : Program) (few : Few) (s : State) : Type 0 where
  pub knows : KnowsState (table_of p) few [] s
  pub life : LivesState (table_of p) few s

module _ (p : Program) (formed : IsFormed p) (accepted : breaks_of p ≡ []) (few : Few) (places : (n : Exec) (w : Value) (b : Ty) → Base few n w b → IsBase w b) where
  code : (n : ℕ) → CodeRoutine (setting_of p few) (special_of p n) ((table_of p).routine n).this (slice_get (source_of p).routines n)
  code = code_of p formed accepted few

  here : (s : State) → Stands p (setting_of p few) s → IsKnownThere p few s → Meets (table_of p) few s → FindsThis (table_of p) few (source_of p) s
  here s n k m this = calls p formed accepted few places s n.put k.knows this k.life m

  pub ride_calls : {s u : State} {q k : ℕ} {a : Asked} (r : Rides (source_of p) s q u k a) → RideMeets (Meets (table_of p) few) (source_of p) s q u k a r → RideMeets (Fair (setting_of p few)) (source_of p) s q u k a r → ((v : State) (l : Leads (source_of p) s v) → LeadsMeet (Meets (table_of p) few) (source_of p) s v l → IsKnownThere p few v) → Stands p (setting_of p few) s → RideMeets (FindsThis (table_of p) few (source_of p)) (source_of p) s q u k a r
  ride_calls slices m f known n = tt
  ride_calls (goes_on {s} {t} e r) m f known n =
      (here s n (known s way.stays tt) m.0, ride_calls r m.1 f.1 (λ x l y. known x (way.goes e l) (m.0, y)) (goes p (setting_of p few) (laid_out p formed accepted) (law_accepted p accepted) code s t e n f.0))
  ride_calls (ticks {s} {t} e r) m f known n =
      (here s n (known s way.stays tt) m.0, ride_calls r m.1 f.1 (λ x l y. known x (way.ticks e l) (m.0, y)) (ticks_on p (setting_of p few) (laid_out p formed accepted) (law_accepted p accepted) code s t e n f.0))
  ride_calls (asks {s} e) m f known n = here s n (known s way.stays tt) m

  pub told_here : (s : State) → Stands p (setting_of p few) s → IsKnownThere p few s → Meets (table_of p) few s → Fair (setting_of p few) s → FindsTold (table_of p) few (source_of p) s
  told_here s n k m f lets = tells p formed accepted few places s n.put k.knows lets k.life m f

  ride_told : {s u : State} {q k : ℕ} {a : Asked} (r : Rides (source_of p) s q u k a) → RideMeets (Meets (table_of p) few) (source_of p) s q u k a r → RideMeets (Fair (setting_of p few)) (source_of p) s q u k a r → ((v : State) (l : Leads (source_of p) s v) → LeadsMeet (Meets (table_of p) few) (source_of p) s v l → IsKnownThere p few v) → Stands p (setting_of p few) s → RideMeets (FindsTold (table_of p) few (source_of p)) (source_of p) s q u k a r
  ride_told slices m f known n = tt
  ride_told (goes_on {s} {t} e r) m f known n =
      (told_here s n (known s way.stays tt) m.0 f.0, ride_told r m.1 f.1 (λ x l y. known x (way.goes e l) (m.0, y)) (goes p (setting_of p few) (laid_out p formed accepted) (law_accepted p accepted) code s t e n f.0))
  ride_told (ticks {s} {t} e r) m f known n =
      (told_here s n (known s way.stays tt) m.0 f.0, ride_told r m.1 f.1 (λ x l y. known x (way.ticks e l) (m.0, y)) (ticks_on p (setting_of p few) (laid_out p formed accepted) (law_accepted p accepted) code s t e n f.0))
  ride_told (asks {s} e) m f known n = told_here s n (known s way.stays tt) m f

  module _ (input : List ℕ) (opts : Options) (range : InRange opts) (first : MainPasses (table_of p) few ((table_of p).routine (source_of p).main).this 0) where
    may_calls : {j : Journal} {w : World} (r : Runs (source_of p) input opts j w) → RunFits (source_of p) input opts j w r → is_over j ≡ false → PassesBelow few opts j → RunMeets (Meets (table_of p) few) (source_of p) input opts j w r → RunMeets (Fair (setting_of p few)) (source_of p) input opts j w r → (q t n : ℕ) (s : State) (asked : Asked) (d : AsksIn (source_of p) opts j w q t n s asked) → RideMeets (Meets (table_of p) few) (source_of p) (answered (source_of p) d.given (drawn j w t)) (left opts j t) s n asked d.rides → RideMeets (Fair (setting_of p few)) (source_of p) (answered (source_of p) d.given (drawn j w t)) (left opts j t) s n asked d.rides → RideMeets (FindsThis (table_of p) few (source_of p)) (source_of p) (answered (source_of p) d.given (drawn j w t)) (left opts j t) s n asked d.rides × RideMeets (FindsTold (table_of p) few (source_of p)) (source_of p) (answered (source_of p) d.given (drawn j w t)) (left opts j t) s n asked d.rides
    may_calls {j} {w} r f on below m fair q t n s asked d now fair_now =
        let all : AllIsKnown (table_of p) few (source_of p) j w = law_known_runs p formed accepted few input opts range j w r f on below first m in
        let main = (law_calling p formed accepted).main in
        let k = run_put p accepted few (laid_out p formed accepted) main code input opts range r f fair in
        let frames : KeepsFrames p j w = law_frame_runs p accepted input opts j w r in
        let begins = start p accepted few (laid_out p formed accepted) main code input opts range (run_rests (source_of p) input opts range r f on) on (k.0 on) frames q t d.given d.runs d.told in
        let known : (v : State) (l : Leads (source_of p) (answered (source_of p) d.given (drawn j w t)) v) → LeadsMeet (Meets (table_of p) few) (source_of p) (answered (source_of p) d.given (drawn j w t)) v l → IsKnownThere p few v = λ v l y.
        let c : way.Comes (source_of p) j w t v = record { given = d.given; processor = q; runs = d.runs; told = d.told; leads = l } in
        record { knows = all.comes t v c y; life = all.lives t v c y } in
        (ride_calls d.rides now fair_now known begins, ride_told d.rides now fair_now known begins)

    run_calls : {j : Journal} {w : World} (r : Runs (source_of p) input opts j w) → RunFits (source_of p) input opts j w r → PassesBelow few opts j → RunMeets (Meets (table_of p) few) (source_of p) input opts j w r → RunMeets (Fair (setting_of p few)) (source_of p) input opts j w r → RunMeets (FindsThis (table_of p) few (source_of p)) (source_of p) input opts j w r × RunMeets (FindsTold (table_of p) few (source_of p)) (source_of p) input opts j w r
    run_calls begun f below m n = (tt, tt)
    run_calls (more {j} {w} {a} r o (gives q t s le)) f below m n =
        let h = run_calls r f.0 (earlier few opts j a below) m.0 n.0 in ((h.0, tt), (h.1, tt))
    run_calls (more {j} {w} {a} r o (no_room q t s le)) f below m n =
        let h = run_calls r f.0 (earlier few opts j a below) m.0 n.0 in ((h.0, tt), (h.1, tt))
    run_calls (more {j} {w} {a} r o (acts q t n s asked d)) f below m fair =
        let before = earlier few opts j a below in
        let h = run_calls r f.0 before m.0 fair.0 in
        let g = may_calls r f.0 o before m.0 fair.0 q t n s asked d m.1 fair.1 in
        ((h.0, g.0), (h.1, g.1))

pub law_calls_runs : LawCallsRuns
law_calls_runs = record {
  special = plain_whole;
  state = λ p formed accepted few places s put life k m this. calls p formed accepted few places s put k this life m;
  runs = λ p formed accepted few places input opts range j w r fits below first meets fair.
      let c = run_calls p formed accepted few places input opts range first r fits below meets fair in
      (c.0, law_this_runs (table_of p) few (source_of p) input opts j w r c.0, c.1);
  rides = λ p formed accepted few places input opts range j w r fits on below first meets fair q t n s asked d now fair_now.
      may_calls p formed accepted few places input opts range first r fits on below meets fair q t n s asked d now fair_now;
}
