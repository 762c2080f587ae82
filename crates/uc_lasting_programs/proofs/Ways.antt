-- State by state what is let go of is nowhere in the world, since no step forgets the running execution.
use Rattle.std.proofs.Common.{◌≡◌, ℕ, ◌⊎◌, inl, inr, false, List, [], ◌∷◌, ◌++◌, refl, sym, ap, ◌∙◌, subst, ⊎_elim}
use Rattle.std.specs.Prelude.{if◌then◌else◌, pos, slice_get}
use Rattle.std.proofs.lemmas.Bool.{eq-eqb}
use Rattle.uc_tree.specs.Programs.{Program}
use Rattle.uc_tree.specs.Source.{Source}
use Rattle.uc_entry.specs.declared.entry.Options.{Options}
use Rattle.uc_entry.specs.declared.request.Asked.{Asked}
use Rattle.uc_entry.specs.declared.entry.EntryKind.TheVariants as kind
use Rattle.uc_entry.specs.declared.request.Request.{Request}
use Rattle.uc_entry.specs.declared.request.Request.TheVariants as ask
use Rattle.uc_acts.specs.Journal.{Journal, asking, cost, is_over, own_object}
use Rattle.uc_acts.specs.Known.{has_ended, spawns}
use Rattle.uc_acts.specs.Acts.{act, row}
use Rattle.uc_acts.proofs.Living.{going_row}
use Rattle.uc_acts.specs.Serves.{left}
use Rattle.uc_acts.specs.KernelRuns.{InRange}
use Rattle.uc_machine.specs.declared.exec.Exec.{Exec}
use Rattle.uc_machine.specs.Monitors.{this_object}
use Rattle.uc_machine.specs.Pieces.{Value, Todo, GoneNow, GiveUpNow, State, Asks}
use Rattle.uc_machine.specs.Quiet.{quiet}
use Rattle.uc_machine.specs.Answering.{answered, child_of}
use Rattle.uc_machine.specs.Rides.{Rides, slices, goes_on, ticks, asks}
use Rattle.uc_meaning.specs.Runs.{World, Runs, AsksIn, gives, no_room, acts, begun, more, bare, drawn, world_after}
use Rattle.uc_resolve.specs.Resolve.{source_of}
use Rattle.uc_rules.specs.Breaks.{breaks_of}
use Rattle.uc_state_laws.specs.Fitting.{RunFits}
use Rattle.uc_state_laws.specs.Limits.{IsWithinLimits}
use Rattle.uc_state_laws.proofs.Others.{run_rests}
use Rattle.uc_state_laws.proofs.Alive.{law_alive}
use Rattle.uc_state_laws.specs.ScopeFrameRuns.{KeepsFrames}
use Rattle.uc_state_laws.specs.RoomRuns as way
use Rattle.uc_state_laws.specs.RoomRuns.{Leads}
use Rattle.uc_state_laws.proofs.StackWorlds.{law_frame_runs}
use Rattle.uc_state_laws.proofs.Unreferring.{law_accepted}
use Rattle.uc_state_laws.specs.Opens.{RideMeets, RunMeets, LeadsMeet}
use Rattle.uc_sound.specs.SoundFormed.{IsFormed}
use Rattle.uc_sound.specs.Tables.{table_of}
use Rattle.uc_name_laws.specs.NameSteps.{Spares}
use Rattle.uc_typing.specs.Typing.{Ty, Cell, Obj, Table}
use Rattle.uc_life_laws.specs.Things.{Few, Base}
use Rattle.uc_life_laws.specs.KnownAnswers.{MainPasses}
use Rattle.uc_life_laws.specs.KnownRuns.{PassesBelow, Meets, AllIsKnown}
use Rattle.uc_life_laws.specs.Marks.{Puts, Marked}
use Rattle.uc_life_laws.specs.Belonging.{Belongs}
use Rattle.uc_life_laws.specs.Rooted.{IsBase}
use Rattle.uc_life_laws.proofs.Rooted.{stands_more}
use Rattle.uc_life_laws.proofs.KnownWorlds.{earlier, law_known_runs}
use Rattle.uc_life_laws.proofs.Laying.{laid_out}
use Rattle.uc_letting_laws.specs.AloneRuns.{RunAlone}
use Rattle.uc_running_laws.proofs.RunningLemmas.{run_leaves}
use Rattle.uc_putting_laws.specs.Putting.{Setting, CodeRoutine}
use Rattle.uc_putting_laws.specs.PuttingLaws.{special_of, setting_of, Fair}
use Rattle.uc_putting_laws.specs.LoneObjects.{LoneObject}
use Rattle.uc_putting_laws.proofs.Puts.{law_puts}
use Rattle.uc_putting_laws.proofs.LoneObjects.{law_lone_objects}
use Rattle.uc_putting_laws.proofs.OwnPlaces.{law_own_places}
use Rattle.uc_putting_laws.proofs.Routines.{law_calling}
use Rattle.uc_putting_laws.proofs.Worlds as put
use Rattle.uc_putting_laws.proofs.PuttingRuns.{code_of, law_runs}
use Rattle.uc_request_laws.specs.ApartRuns.{StepApart}
use Rattle.uc_request_laws.proofs.ApartLemmas.{law_apart_runs}
use Rattle.uc_apart_laws.specs.Before.{IsUnmarked, BeforeAt, Before}
use Rattle.uc_apart_laws.proofs.Before.{apart}
use Rattle.uc_apart_laws.proofs.Clear.{home_split}
use Rattle.uc_rooted_runs.specs.Binds.{BindsOwn}
use Rattle.uc_rooted_runs.specs.Mains.{CallsNoMain, FindsAll}
use Rattle.uc_making_laws.specs.RideWhile.{RideWhile}
use Rattle.uc_making_laws.specs.ForgetsThis.{GoesBy, RunGoes, IsLeftNowhere}
use Rattle.uc_making_laws.proofs.BeforeRides.{law_before_rides}
use Rattle.uc_lasting_programs.specs.Asking.{LetsGoAt}
use Rattle.uc_making_laws.specs.BeforeRides.{ElsewhereOnWay}
use Rattle.uc_lasting_programs.specs.Ways.{IsBareBehind, LawWays}
use Rattle.uc_lasting_programs.proofs.CallsRuns.{IsKnownThere, ride_calls, law_calls_runs}
use Rattle.uc_lasting_programs.proofs.Asking.{law_asked_at}
use Rattle.uc_lasting_programs.proofs.Behind.{behind}
use Rattle.uc_lasting_programs.proofs.Finding.{ride_map, ride_found, law_finding}
use Rattle.uc_lasting_programs.specs.Sparing.{KnowsHomes}
use Rattle.uc_lasting_programs.proofs.Sparing.{run_spares, ride_spares}

module _ (p : Program) (formed : IsFormed p) (ok : breaks_of p ≡ []) (within : IsWithinLimits p) (few : Few) (many : ℕ) (places : (n : Exec) (w : Value) (b : Ty) → Base few n w b → IsBase w b) (zero : (n : Exec) → Belongs few n (few.home 0) → ⊥) where
  abbrev source : Source
  source = source_of p

  abbrev t : Table
  t = table_of p

  abbrev g : Setting
  g = setting_of p few

  code : (n : ℕ) → CodeRoutine (setting_of p few) (special_of p n) ((table_of p).routine n).this (slice_get (source_of p).routines n)
  code = code_of p formed ok few

  -- along a ride: of operands it is known what is the execution's own, and all that the state can come by is known
  ride_put : {s u : State} {q k : ℕ} {a : Asked} (r : Rides (source_of p) s q u k a) → RideMeets (Fair (setting_of p few)) (source_of p) s q u k a r → put.Stands p (setting_of p few) s → RideMeets (put.Stands p (setting_of p few)) (source_of p) s q u k a r
  ride_put slices f h = tt
  ride_put (goes_on {s} {t = x} e r) f h = (h, ride_put r f.1 (put.goes p (setting_of p few) (laid_out p formed ok) (law_accepted p ok) code s x e h f.0))
  ride_put (ticks {s} {t = x} e r) f h = (h, ride_put r f.1 (put.ticks p (setting_of p few) (laid_out p formed ok) (law_accepted p ok) code s x e h f.0))
  ride_put (asks {s} e) f h = h

  ride_known : {s u : State} {q k : ℕ} {a : Asked} (r : Rides (source_of p) s q u k a) → RideMeets (Meets (table_of p) few) (source_of p) s q u k a r → ((v : State) (l : Leads (source_of p) s v) → LeadsMeet (Meets (table_of p) few) (source_of p) s v l → IsKnownThere p few v) → RideMeets (IsKnownThere p few) (source_of p) s q u k a r
  ride_known slices m f = tt
  ride_known (goes_on {s} e r) m f = (f s way.stays tt, ride_known r m.1 (λ x l y. f x (way.goes e l) (m.0, y)))
  ride_known (ticks {s} e r) m f = (f s way.stays tt, ride_known r m.1 (λ x l y. f x (way.ticks e l) (m.0, y)))
  ride_known (asks {s} e) m f = f s way.stays tt

  module _ (j : Journal) (w : World) (u : ℕ) where
    -- what is told of a state on the way, and what else holds there
    record Told (s : State) : Type 0 where
      before : Before (table_of p) few j w u s (source_of p)
      known : IsKnownThere p few s

    step : (s : State) → Told s → StepApart (table_of p) few (source_of p) s
    step s h = apart (table_of p) few (source_of p) places j w u s h.before

    -- what is let go of is nowhere, since no step before forgot the running execution
    ride_told : {s x : State} {q k : ℕ} {a : Asked} (r : Rides (source_of p) s q x k a) → RideWhile Spares (λ v. Before (table_of p) few j w u v (source_of p)) (source_of p) s q x k a r → RideMeets Spares (source_of p) s q x k a r → RideMeets (IsKnownThere p few) (source_of p) s q x k a r → RideMeets Told (source_of p) s q x k a r
    ride_told slices b f m = tt
    ride_told (goes_on {s} e r) b f m = (record { before = b.0; known = m.0 }, ride_told r (b.1 f.0) f.1 m.1)
    ride_told (ticks {s} e r) b f m = (record { before = b.0; known = m.0 }, ride_told r (b.1 f.0) f.1 m.1)
    ride_told (asks {s} e) b f m = record { before = b; known = m }

  module _ (input : List ℕ) (opts : Options) (range : InRange opts) (first : MainPasses (table_of p) few ((table_of p).routine (source_of p).main).this 0) where
    -- behind a run in which nobody else has at hand what is let go of
    told : (j : Journal) (w : World) (r : Runs (source_of p) input opts j w) → RunFits (source_of p) input opts j w r → is_over j ≡ false → PassesBelow few opts j → RunMeets (Meets (table_of p) few) (source_of p) input opts j w r → RunMeets (Fair (setting_of p few)) (source_of p) input opts j w r → RunMeets (KnowsHomes p few many) (source_of p) input opts j w r → RunMeets (StepApart (table_of p) few (source_of p)) (source_of p) input opts j w r → (q u n : ℕ) (s : State) (asked : Asked) (d : AsksIn (source_of p) opts j w q u n s asked) → RideMeets (Meets (table_of p) few) (source_of p) (answered (source_of p) d.given (drawn j w u)) (left opts j u) s n asked d.rides → RideMeets (Fair (setting_of p few)) (source_of p) (answered (source_of p) d.given (drawn j w u)) (left opts j u) s n asked d.rides → RideMeets (KnowsHomes p few many) (source_of p) (answered (source_of p) d.given (drawn j w u)) (left opts j u) s n asked d.rides → RideMeets (λ v. ElsewhereOnWay (table_of p) few v (source_of p)) (source_of p) (answered (source_of p) d.given (drawn j w u)) (left opts j u) s n asked d.rides → RideMeets (Told j w u) (source_of p) (answered (source_of p) d.given (drawn j w u)) (left opts j u) s n asked d.rides
    told j w r fits on below met fair tells apart q u n s asked d meets fairs names k =
        let lone : RunAlone (source_of p) input opts j w r = law_apart_runs.runs p formed ok few input opts range j w r fits below first met apart in
        let rests = run_rests (source_of p) input opts range r fits on in
        let found = law_finding.runs p formed ok input opts range j w r fits lone in
        let finds = ride_found p formed ok input opts range r fits lone on q u n s asked d in
        let known : AllIsKnown (table_of p) few (source_of p) j w = law_known_runs p formed ok few input opts range j w r fits on below first met in
        let there : (v : State) (l : Leads (source_of p) (answered (source_of p) d.given (drawn j w u)) v) → LeadsMeet (Meets (table_of p) few) (source_of p) (answered (source_of p) d.given (drawn j w u)) v l → IsKnownThere p few v = λ v l y.
        let c : way.Comes (source_of p) j w u v = record { given = d.given; processor = q; runs = d.runs; told = d.told; leads = l } in
        record { knows = known.comes u v c y; life = known.lives u v c y } in
        let main = (law_calling p formed ok).main in
        let world = put.run_put p ok few (laid_out p formed ok) main code input opts range r fits fair in
        let frames : KeepsFrames p j w = law_frame_runs p ok input opts j w r in
        let begins = put.start p ok few (laid_out p formed ok) main code input opts range rests on (world.0 on) frames q u d.given d.runs d.told in
        let stands = ride_put d.rides fairs begins in
        let before = law_before_rides (table_of p) few (source_of p) input opts j w r range fits on zero (run_leaves p formed ok input opts range r fits lone) (run_spares p formed ok within few many input opts range r fits lone fair tells) (law_finding.runs_bind p formed ok few input opts range j w r fits fair) found.calls found.finds (law_runs.runs p formed ok few input opts range j w r fits fair) (law_calls_runs.runs p formed ok few places input opts range j w r fits below first met fair).0 q u n s asked d (ride_map (put.Stands p (setting_of p few)) (BindsOwn (source_of p)) (λ v x. law_finding.binds few (source_of p) v (law_own_places.states (setting_of p few) v x.put)) d.rides stands) (ride_map (λ v. FindsAll (source_of p) v × CallsNoMain (source_of p) v) (CallsNoMain (source_of p)) (λ v x. x.1) d.rides finds) (ride_map (λ v. FindsAll (source_of p) v × CallsNoMain (source_of p) v) (FindsAll (source_of p)) (λ v x. x.0) d.rides finds) (ride_map (put.Stands p (setting_of p few)) (Puts (table_of p) few) (λ v x. law_puts (setting_of p few) v x.put) d.rides stands) (ride_map (put.Stands p (setting_of p few)) (LoneObject (table_of p) few (source_of p)) (λ v x. law_lone_objects (setting_of p few) (law_calling p formed ok) v x.put) d.rides stands) (ride_calls p formed ok few places d.rides meets fairs there begins) k in
        ride_told j w u d.rides before (ride_spares p formed ok within few many input opts range r fits lone fair tells on q u n s asked d fairs names) (ride_known d.rides meets there)

    along : (j : Journal) (w : World) (r : Runs (source_of p) input opts j w) → RunFits (source_of p) input opts j w r → is_over j ≡ false → PassesBelow few opts j → RunMeets (Meets (table_of p) few) (source_of p) input opts j w r → RunMeets (Fair (setting_of p few)) (source_of p) input opts j w r → RunMeets (KnowsHomes p few many) (source_of p) input opts j w r → RunMeets (StepApart (table_of p) few (source_of p)) (source_of p) input opts j w r → (q u n : ℕ) (s : State) (asked : Asked) (d : AsksIn (source_of p) opts j w q u n s asked) → RideMeets (Meets (table_of p) few) (source_of p) (answered (source_of p) d.given (drawn j w u)) (left opts j u) s n asked d.rides → RideMeets (Fair (setting_of p few)) (source_of p) (answered (source_of p) d.given (drawn j w u)) (left opts j u) s n asked d.rides → RideMeets (KnowsHomes p few many) (source_of p) (answered (source_of p) d.given (drawn j w u)) (left opts j u) s n asked d.rides → RideMeets (λ v. ElsewhereOnWay (table_of p) few v (source_of p)) (source_of p) (answered (source_of p) d.given (drawn j w u)) (left opts j u) s n asked d.rides → RideMeets (StepApart (table_of p) few (source_of p)) (source_of p) (answered (source_of p) d.given (drawn j w u)) (left opts j u) s n asked d.rides
    along j w r fits on below met fair tells apart q u n s asked d meets fairs names k =
        ride_map (Told j w u) (StepApart (table_of p) few (source_of p)) (step j w u) d.rides (told j w r fits on below met fair tells apart q u n s asked d meets fairs names k)

    -- behind an act by which an object goes
    module _ (j : Journal) (w : World) (r : Runs (source_of p) input opts j w) (fits : RunFits (source_of p) input opts j w r) (on : is_over j ≡ false) (q u n : ℕ) (s : State) (asked : Asked) (d : AsksIn (source_of p) opts j w q u n s asked) (going : is_over (j ++ act opts (source_of p).sites input j q u n asked) ≡ false) where
      abbrev TellsAll : State → Type 0
      TellsAll v = Told j w u v

      no_spawn : (o : ℕ) → asked.request ≡ ask.Gone o → (z : ℕ) → spawns (act opts (source_of p).sites input j q u n asked) z ≡ false
      no_spawn o e z =
          let one : act opts (source_of p).sites input j q u n asked ≡ asking kind.Gone q u (cost n asked.line) o (pos 0) (pos 0) ∷ [] = (going_row opts (source_of p).sites input j q u n asked going).0 ∙ ap (row opts (source_of p).sites input j q u (cost n asked.line) asked.line) e in
          ap (λ l. spawns l z) one

      alive : has_ended u j ≡ false
      alive = law_alive opts (source_of p).sites input j (run_rests (source_of p) input opts range r fits on).kernel on q u d.runs

      -- nobody who lives has to clean up anything around the object just before
      unmarked : (v : State) (todo : List Todo) → (v.run.control ≡ GoneNow ∷ todo) ⊎ (v.run.control ≡ GiveUpNow ∷ todo) → TellsAll v → IsUnmarked (table_of p) few j w u v (this_object v)
      unmarked v todo (inl e) h =
          let x : BeforeAt (table_of p) few j w u v (source_of p) h.known.knows (GoneNow ∷ todo) = subst (λ l. BeforeAt (table_of p) few j w u v (source_of p) h.known.knows l) e (h.before h.known.knows) in
          x.1
      unmarked v todo (inr e) h =
          let x : BeforeAt (table_of p) few j w u v (source_of p) h.known.knows (GiveUpNow ∷ todo) = subst (λ l. BeforeAt (table_of p) few j w u v (source_of p) h.known.knows l) e (h.before h.known.knows) in
          x.1

      abbrev After : World
      After = world_after (source_of p) (act opts (source_of p).sites input j q u n asked) w u s

      acting : (After).tasks u ≡ bare s
      acting = ap (λ b. if b then bare s else if spawns (act opts (source_of p).sites input j q u n asked) u then child_of (source_of p) (own_object u (act opts (source_of p).sites input j q u n asked)) s else w.tasks u) (eq-eqb u u refl)

      left_nowhere : (v : State) (o : ℕ) (e : asked.request ≡ ask.Gone o) → TellsAll v → LetsGoAt o v s → IsBareBehind (table_of p) few j (act opts (source_of p).sites input j q u n asked) (world_after (source_of p) (act opts (source_of p).sites input j q u n asked) w u s) u o → IsLeftNowhere (table_of p) few j (act opts (source_of p).sites input j q u n asked) (world_after (source_of p) (act opts (source_of p).sites input j q u n asked) w u s) u o
      left_nowhere v o e h lets b =
          let before : IsUnmarked (table_of p) few j w u v o = subst (IsUnmarked (table_of p) few j w u v) (sym lets.object) (unmarked v lets.todo lets.lets_go h) in
          let who : ((world_after (source_of p) (act opts (source_of p).sites input j q u n asked) w u s).tasks u).env.exec ≡ v.env.exec = ap (λ (y : State). y.env.exec) acting ∙ lets.exec in
          let belongs : Belongs few ((world_after (source_of p) (act opts (source_of p).sites input j q u n asked) w u s).tasks u).env.exec (few.home o) = subst (λ m. Belongs few m (few.home o)) (sym who) before.belongs in
          record {
            nowhere = λ m cs i c k.
                let was = behind (table_of p) (source_of p) j w u v s (act opts (source_of p).sites input j q u n asked) o lets alive (no_spawn o e) m cs i in
                ⊎_elim (λ x. before.free m was.active was.lives c (stands_more (table_of p) few (Marked (table_of p) m cs) (Marked (table_of p) m was.active) was.marked (Cell (Obj c)) (few.home o) x)) (λ x. b.bare belongs m cs i c x) (home_split (table_of p) few o m cs c k);
          }

    -- what is told of the state in which the last is asked
    last_at : (P : State → Type 0) {s x : State} {q k : ℕ} {a : Asked} (r : Rides (source_of p) s q x k a) → RideMeets P (source_of p) s q x k a r → (a.request ≡ ask.Slice) ⊎ ((v : State) × P v × (quiet (source_of p) v ≡ Asks a.request x))
    last_at P slices h = inl refl
    last_at P (goes_on e r) h = last_at P r h.1
    last_at P (ticks e r) h = last_at P r h.1
    last_at P (asks {s} e) h = inr (s, h, e)

    goes_by : (j : Journal) (w : World) (r : Runs (source_of p) input opts j w) → RunFits (source_of p) input opts j w r → is_over j ≡ false → PassesBelow few opts j → RunMeets (Meets (table_of p) few) (source_of p) input opts j w r → RunMeets (Fair (setting_of p few)) (source_of p) input opts j w r → RunMeets (KnowsHomes p few many) (source_of p) input opts j w r → RunMeets (StepApart (table_of p) few (source_of p)) (source_of p) input opts j w r → (q u n : ℕ) (s : State) (asked : Asked) (d : AsksIn (source_of p) opts j w q u n s asked) → RideMeets (Meets (table_of p) few) (source_of p) (answered (source_of p) d.given (drawn j w u)) (left opts j u) s n asked d.rides → RideMeets (Fair (setting_of p few)) (source_of p) (answered (source_of p) d.given (drawn j w u)) (left opts j u) s n asked d.rides → RideMeets (KnowsHomes p few many) (source_of p) (answered (source_of p) d.given (drawn j w u)) (left opts j u) s n asked d.rides → RideMeets (λ v. ElsewhereOnWay (table_of p) few v (source_of p)) (source_of p) (answered (source_of p) d.given (drawn j w u)) (left opts j u) s n asked d.rides → is_over (j ++ act opts (source_of p).sites input j q u n asked) ≡ false → (x : Request) → asked.request ≡ x → GoesBy (IsBareBehind (table_of p) few) j (act opts (source_of p).sites input j q u n asked) (world_after (source_of p) (act opts (source_of p).sites input j q u n asked) w u s) u x → GoesBy (IsLeftNowhere (table_of p) few) j (act opts (source_of p).sites input j q u n asked) (world_after (source_of p) (act opts (source_of p).sites input j q u n asked) w u s) u x
    goes_by j w r fits on below met fair tells apart q u n s asked d meets fairs names k going (ask.Gone o) e b =
        by (last_at (TellsAll j w r fits on q u n s asked d going) d.rides (told j w r fits on below met fair tells apart q u n s asked d meets fairs names k))
      where
        by : (asked.request ≡ ask.Slice) ⊎ ((v : State) × TellsAll j w r fits on q u n s asked d going v × (quiet (source_of p) v ≡ Asks asked.request s)) → IsLeftNowhere (table_of p) few j (act opts (source_of p).sites input j q u n asked) (world_after (source_of p) (act opts (source_of p).sites input j q u n asked) w u s) u o
        by (inl f) = let z : ask.Gone o ≡ ask.Slice = sym e ∙ f in absurd (cc)
        by (inr (v, h, f)) =
            let lets : LetsGoAt o v s = law_asked_at (source_of p) v (ask.Gone o) s (f ∙ ap (λ (x : Request). Asks x s) e) in
            left_nowhere j w r fits on q u n s asked d going v o e h lets b
    goes_by j w r fits on below met fair tells apart q u n s asked d meets fairs names k going x e b = tt

    run_apart : (j : Journal) (w : World) (r : Runs (source_of p) input opts j w) → RunFits (source_of p) input opts j w r → is_over j ≡ false → PassesBelow few opts j → RunMeets (Meets (table_of p) few) (source_of p) input opts j w r → RunMeets (Fair (setting_of p few)) (source_of p) input opts j w r → RunMeets (KnowsHomes p few many) (source_of p) input opts j w r → RunMeets (λ v. ElsewhereOnWay (table_of p) few v (source_of p)) (source_of p) input opts j w r → RunMeets (StepApart (table_of p) few (source_of p)) (source_of p) input opts j w r
    run_apart _ _ begun fits on below met fair tells k = tt
    run_apart _ _ (more {j} {w} {a} r o (gives q u s le)) fits on below met fair tells k =
        (run_apart j w r fits.0 o (earlier few opts j a below) met.0 fair.0 tells.0 k.0, tt)
    run_apart _ _ (more {j} {w} {a} r o (no_room q u s le)) fits on below met fair tells k =
        (run_apart j w r fits.0 o (earlier few opts j a below) met.0 fair.0 tells.0 k.0, tt)
    run_apart _ _ (more {j} {w} {a} r o (acts q u n s asked d)) fits on below met fair tells k =
        let before = earlier few opts j a below in
        let h = run_apart j w r fits.0 o before met.0 fair.0 tells.0 k.0 in
        (h, along j w r fits.0 o before met.0 fair.0 tells.0 h q u n s asked d met.1 fair.1 tells.1 k.1)

    run_goes : (j : Journal) (w : World) (r : Runs (source_of p) input opts j w) → RunFits (source_of p) input opts j w r → is_over j ≡ false → PassesBelow few opts j → RunMeets (Meets (table_of p) few) (source_of p) input opts j w r → RunMeets (Fair (setting_of p few)) (source_of p) input opts j w r → RunMeets (KnowsHomes p few many) (source_of p) input opts j w r → RunMeets (StepApart (table_of p) few (source_of p)) (source_of p) input opts j w r → RunMeets (λ v. ElsewhereOnWay (table_of p) few v (source_of p)) (source_of p) input opts j w r → RunGoes (IsBareBehind (table_of p) few) (source_of p) input opts r → RunGoes (IsLeftNowhere (table_of p) few) (source_of p) input opts r
    run_goes _ _ begun fits on below met fair tells h k b = tt
    run_goes _ _ (more {j} {w} {a} r o (gives q u s le)) fits on below met fair tells h k b =
        (run_goes j w r fits.0 o (earlier few opts j a below) met.0 fair.0 tells.0 h.0 k.0 b.0, tt)
    run_goes _ _ (more {j} {w} {a} r o (no_room q u s le)) fits on below met fair tells h k b =
        (run_goes j w r fits.0 o (earlier few opts j a below) met.0 fair.0 tells.0 h.0 k.0 b.0, tt)
    run_goes _ _ (more {j} {w} {a} r o (acts q u n s asked d)) fits on below met fair tells h k b =
        let before = earlier few opts j a below in (
          run_goes j w r fits.0 o before met.0 fair.0 tells.0 h.0 k.0 b.0,
          goes_by j w r fits.0 o before met.0 fair.0 tells.0 h.0 q u n s asked d met.1 fair.1 tells.1 k.1 on asked.request refl b.1,
        )

pub law_ways : LawWays
law_ways = record {
  runs = λ p formed ok within few many places zero input opts range j w r fits on below first met fair tells k.
      run_apart p formed ok within few many places zero input opts range first j w r fits on below met fair tells k;
  goes = λ p formed ok within few many places zero input opts range j w r fits on below first met fair tells k b.
      run_goes p formed ok within few many places zero input opts range first j w r fits on below met fair tells (run_apart p formed ok within few many places zero input opts range first j w r fits on below met fair tells k) k b;
  rides = λ p formed ok within few many places zero input opts range j w r fits on below first met fair tells k q u n s asked d meets fairs names h.
      along p formed ok within few many places zero input opts range first j w r fits on below met fair tells (run_apart p formed ok within few many places zero input opts range first j w r fits on below met fair tells k) q u n s asked d meets fairs names h;
}
