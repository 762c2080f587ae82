-- What each step of a run finds by numbers of what is not gone, and by all that have been made.
use Rattle.std.proofs.Common.{◌≡◌, ℕ, zero, suc, ◌<◌, ◌≤◌, ◌⊎◌, inl, inr, ⊎_elim, Bool, false, [], ◌∷◌, List, ◌++◌, refl, sym, ap, ◌∙◌, subst, arith}
use Rattle.std.proofs.lemmas.Bool.{ltb-true}
use Rattle.uc_tree.specs.Programs.{Program}
use Rattle.uc_tree.specs.Source.{Source}
use Rattle.uc_entry.specs.declared.entry.Entry.{Entry}
use Rattle.uc_entry.specs.declared.entry.Options.{Options}
use Rattle.uc_entry.specs.declared.request.Asked.{Asked}
use Rattle.uc_entry.specs.declared.request.Request.{Request}
use Rattle.uc_entry.specs.declared.request.Request.TheVariants as ask
use Rattle.uc_acts.specs.Journal.{Journal, is_over, own_object}
use Rattle.uc_acts.specs.Acts.{act, lone_limit}
use Rattle.uc_acts.specs.Known.{is_gone, object_count}
use Rattle.uc_acts.specs.Queues.{cluster_count, processor_count}
use Rattle.uc_acts.specs.KernelRuns.{InRange}
use Rattle.uc_acts.specs.Serves.{left}
use Rattle.uc_acts.proofs.Bounds.{over_limit}
use Rattle.uc_machine.specs.declared.exec.Exec.{Exec}
use Rattle.uc_machine.specs.declared.exec.Home.{Home}
use Rattle.uc_machine.specs.declared.exec.Home.TheVariants as dwelling
use Rattle.uc_machine.specs.Pieces.{Value}
use Rattle.uc_machine.specs.Quiet.{State, Asks, quiet}
use Rattle.uc_machine.specs.Rides as rides
use Rattle.uc_machine.specs.Rides.{Rides}
use Rattle.uc_machine.specs.Answering.{answered}
use Rattle.uc_meaning.specs.Runs.{World, May, Runs, AsksIn, drawn, world_after, gives, no_room, acts, begun, more}
use Rattle.uc_name_laws.proofs.Homes.{no_both}
use Rattle.uc_resolve.specs.Resolve.{source_of}
use Rattle.uc_rules.specs.Breaks.{breaks_of}
use Rattle.uc_sound.specs.SoundFormed.{IsFormed}
use Rattle.uc_sound.specs.Tables.{table_of}
use Rattle.uc_state_laws.specs.Fitting.{RunFits}
use Rattle.uc_state_laws.specs.Limits.{IsWithinLimits}
use Rattle.uc_state_laws.specs.RoomRuns as rooms
use Rattle.uc_state_laws.specs.RoomRuns.{Leads, Comes}
use Rattle.uc_state_laws.specs.Endings.{still_reading, RideHolds, RunHolds}
use Rattle.uc_state_laws.specs.Opens.{RideMeets, RunMeets, LeadsMeet}
use Rattle.uc_typing.specs.Typing.{Ty, Table}
use Rattle.uc_source_laws.specs.SourceLaws.{part_of}
use Rattle.uc_inner_laws.specs.Standing.{IsHere, StandsAsking, StandsStep}
use Rattle.uc_letting_laws.specs.AloneRuns.{RunAlone}
use Rattle.uc_life_laws.specs.Things.{Few, Base}
use Rattle.uc_life_laws.specs.Knowing.{KnowsState, main_of}
use Rattle.uc_life_laws.specs.Belonging.{Belongs}
use Rattle.uc_life_laws.specs.Homes.{home_of}
use Rattle.uc_life_laws.specs.Rooted.{IsBase}
use Rattle.uc_life_laws.specs.Lives.{Lives, LivesState}
use Rattle.uc_life_laws.specs.KnownAnswers.{MainPasses}
use Rattle.uc_life_laws.specs.KnownRuns.{PassesBelow, Meets, AllIsKnown}
use Rattle.uc_life_laws.specs.Endings.{RawsPass, MeetsOutside}
use Rattle.uc_life_laws.specs.Lasting.{lasting, RunForgets, RunMeetsAt}
use Rattle.uc_life_laws.proofs.KindsLemmas.{plain}
use Rattle.uc_life_laws.proofs.KnownWorlds.{earlier, law_known_runs}
use Rattle.uc_life_laws.proofs.Endings as endings
use Rattle.uc_life_laws.proofs.Endings.{goes_on, ticks_on, goes_met, ticks_met}
use Rattle.uc_life_laws.proofs.Lasting.{law_lasting}
use Rattle.uc_request_laws.specs.Lasting.{TellsMade}
use Rattle.uc_cell_laws.specs.OwnCells.{owns_of}
use Rattle.uc_homed_ends.specs.HomesLeft.{KnowsReads, Told}
use Rattle.uc_homed_ends.proofs.BoundRuns.{leads_zip, ride_zip}
use Rattle.uc_homed_ends.proofs.EndHomes.{run_with, ride_with}
use Rattle.uc_putting_laws.specs.PuttingLaws.{setting_of}
use Rattle.uc_putting_laws.proofs.LoneObjects.{law_lone_objects}
use Rattle.uc_putting_laws.proofs.Routines.{law_calling}
use Rattle.uc_building_laws.specs.Building.{heads_of}
use Rattle.uc_building_laws.specs.BuildingStates.{Built, BuiltState}
use Rattle.uc_building_laws.specs.BuiltEndings.{BuiltOutside}
use Rattle.uc_building_laws.specs.BuiltLasting.{FindsBuilt}
use Rattle.uc_building_laws.proofs.BuiltEndings.{built_met}
use Rattle.uc_building_laws.proofs.BuiltLasting.{law_built_lasting}
use Rattle.uc_building_laws.proofs.Worlds.{lives}
use Rattle.uc_lasting_programs.specs.Meeting.{RunHoldsAt}
use Rattle.uc_lasting_programs.proofs.OwnScopes.{Owned, leads_led, owned_on}
use Rattle.uc_lasting_programs.specs.Telling.{few_of}
use Rattle.uc_lasting_programs.proofs.Asking.{law_asked_at}
use Rattle.uc_lasting_programs.proofs.Bases.{SeatsAlone, BareOnWayBy, BareOnWay}
use Rattle.uc_lasting_programs.proofs.EnteredAfter.{entered_known, told_after}
use Rattle.uc_lasting_programs.proofs.EnteredAgain.{clear}
use Rattle.uc_lasting_programs.proofs.HomesAway.{number_at, homes_away, new_own}
use Rattle.uc_lasting_programs.proofs.PutLeads.{leads_less, leads_turned, Seen, run_fair, put_on, lone_on, lets_on}
use Rattle.uc_lasting_programs.proofs.SeatHomes.{IsForeign}
use Rattle.uc_making_laws.specs.ForgetsThis.{RunGoes}
use Rattle.uc_making_laws.specs.LettingGo.{LetsState, LetsAsked}
use Rattle.uc_making_laws.specs.Nobodys.{IsNobodys}
use Rattle.uc_lasting_programs.proofs.Numbers.{passes, knows_all, meets}
use Rattle.uc_lasting_programs.proofs.Presence.{there}
use Rattle.uc_lasting_programs.proofs.PresentRides.{IsPresent, EntersClear, Stood, Began, own_made, held_home, main_home, made_home, stand, Once, led, rode, cleared, AsksAt, ended, asked_lets, inside, stood_on}
use Rattle.uc_lasting_programs.proofs.Frees.{frees_finds, run_holds}
use Rattle.uc_lasting_programs.proofs.FreesRuns.{run_free}
use Rattle.uc_lasting_programs.proofs.SetHere.{made_homes, KnownThere, run_known, run_set, set_here}
use Rattle.uc_lasting_programs.proofs.SetRuns.{by_then, SetWorld}
use Rattle.uc_homed_ends.specs.BoundLaws.{OpensSet}
use Rattle.uc_life_laws.specs.MadeObjects.{Binds}
use Rattle.uc_lasting_programs.proofs.PresentRuns.{PresentWorld, present_begun, present_given, present_acted, began}
use Rattle.uc_lasting_programs.proofs.Visits.{OwnedAfter, Visits, visits_begun, visits_given, makes_more, visits_acted}

-- what passes the test of a run has been made
pub tells_made : (p : Program) (input : List ℕ) (opts : Options) (j : Journal) (w : World) (r : Runs (source_of p) input opts j w) (base : Exec → Value → Ty → Bool) → TellsMade (few_of p input opts j w r base) opts j
tells_made p input opts j w r base = record {
  objects = λ c n h. ltb-true n (object_count j) h;
  raws = λ c n h. ltb-true n (object_count j) h;
  clusters = λ n h. ltb-true n (cluster_count j) h;
  processors = λ n h. ltb-true n (processor_count opts j) h;
}

-- what holds at states

-- at each state of a ride, by what holds on the way to it
module _ (P Q : State → Type 0) (source : Source) (start : State) (turn : (s : State) (l : Leads source start s) → LeadsMeet P source start s l → P s → Q s) where
  pub ride_turned : {s u : State} {q k : ℕ} {a : Asked} (l : Leads source start s) → LeadsMeet P source start s l → (r : Rides source s q u k a) → RideMeets P source s q u k a r → RideMeets Q source s q u k a r
  ride_turned l m rides.slices h = tt
  ride_turned {s} l m (rides.goes_on e r) h = (turn s l m h.0, ride_turned (goes_on P source l e) (goes_met P source l e m h.0) r h.1)
  ride_turned {s} l m (rides.ticks e r) h = (turn s l m h.0, ride_turned (ticks_on P source l e) (ticks_met P source l e m h.0) r h.1)
  ride_turned {s} l m (rides.asks e) h = turn s l m h

-- and so outside of those in which a clean-up reads a variable
module _ (t : Table) (few : Few) (source : Source) where
  outside : (n : ℕ) (s : State) → Meets t few s → MeetsOutside t few n s
  outside zero s h = h
  outside (suc n) s h = tt

  pub ride_outside : {s u : State} {q k : ℕ} {a : Asked} (n : ℕ) (r : Rides source s q u k a) → RideMeets (Meets t few) source s q u k a r → RideHolds (MeetsOutside t few) source n s q u k a r
  ride_outside n rides.slices h = tt
  ride_outside n (rides.goes_on {s} e r) h = (outside n s h.0, ride_outside (still_reading n s.run.control) r h.1)
  ride_outside n (rides.ticks {s} e r) h = (outside n s h.0, ride_outside (still_reading n s.run.control) r h.1)
  ride_outside n (rides.asks {s} e) h = outside n s h

  pub run_outside : {input : List ℕ} {opts : Options} {j : Journal} {w : World} (r : Runs source input opts j w) → RunMeets (Meets t few) source input opts j w r → RunHolds (MeetsOutside t few) source input opts j w r
  run_outside begun h = tt
  run_outside (more r on (gives p n s le)) h = (run_outside r h.0, tt)
  run_outside (more r on (no_room p n s le)) h = (run_outside r h.0, tt)
  run_outside (more r on (acts p n k s asked d)) h = (run_outside r h.0, ride_outside 0 d.rides h.1)

-- two things that hold along a ride, one of them by how many states are left
module _ (Q : ℕ → State → Type 0) (C : State → Type 0) (source : Source) where
  with_cond : {s u : State} {q k : ℕ} {a : Asked} (n : ℕ) (r : Rides source s q u k a) → RideHolds Q source n s q u k a r → RideMeets C source s q u k a r → RideHolds (λ n s. C s × Q n s) source n s q u k a r
  with_cond n rides.slices h c = tt
  with_cond n (rides.goes_on {s} e r) h c = ((c.0, h.0), with_cond (still_reading n s.run.control) r h.1 c.1)
  with_cond n (rides.ticks {s} e r) h c = ((c.0, h.0), with_cond (still_reading n s.run.control) r h.1 c.1)
  with_cond n (rides.asks {s} e) h c = (c, h)

other_call : (o i : ℕ) → ask.Slice ≡ ask.Call o i → ⊥
other_call o i e = cc

other_make : (c : ℕ) → ask.Slice ≡ ask.Make c → ⊥
other_make c e = cc

module _ (p : Program) (formed : IsFormed p) (ok : breaks_of p ≡ []) (numbers : Ty → ℕ → Bool) (home : ℕ → Value) (base : Exec → Value → Ty → Bool) where
  abbrev pub few : Few
  few = record { numbers = numbers; home = home; base = base }

  abbrev source : Source
  source = source_of p

  abbrev t : Table
  t = table_of p

  -- so far each step found what it was to find, by both
  pub record HasMet (input : List ℕ) (opts : Options) (j : Journal) (w : World) (r : Runs source input opts j w) : Type 0 where
    pub all : RunMeets (Meets t few) source input opts j w r
    pub lasts : RunMeetsAt (λ i s. Meets t (lasting few i) s) source input opts j w r
    -- and what is in scope holds what is not gone
    pub lives : RunMeetsAt (λ i s. LivesState t (lasting few i) s) source input opts j w r
    -- so do objects that are built
    pub built : RunMeetsAt (λ i s. FindsBuilt p (lasting few i) s) source input opts j w r
    -- and what was entered again to be destroyed was not at hand
    pub clear : RunMeets (EntersClear p few) source input opts j w r

  -- one act less
  before : (input : List ℕ) (opts : Options) {j : Journal} {w : World} {a : List Entry} {v : World} (r : Runs source input opts j w) (on : is_over j ≡ false) (m : May source opts input j w a v) → HasMet input opts (j ++ a) v (more r on m) → HasMet input opts j w r
  before input opts r on m so = record { all = so.all.0; lasts = so.lasts.0; lives = so.lives.0; built = so.built.0; clear = so.clear.0 }

  -- nobody has at hand what has gone, nothing else is owed to what was let go of, and no activation is of that; and what was made is at home where the run
  -- tells it
  pub record Shown (many : ℕ) (input : List ℕ) (opts : Options) (j : Journal) (w : World) (r : Runs source input opts j w) : Type 0 where
    pub forgets : RunForgets t few source input opts j w r
    pub alone : RunAlone source input opts j w r
    pub nobodys : RunGoes IsNobodys source input opts r
    pub homes : (o : ℕ) → o < object_count j → home o ≡ home_of source input opts j w r o
    pub told : RunMeets (Told p few many) source input opts j w r

  -- own mutex objects are at home where scopes open
  abbrev OwnsHome : State → Type 0
  OwnsHome v = Owned t (owns_of p) few.home v

  -- a step finds what it is to find where the object at hand is not gone, and such are at home; and where a mutex variable holds one of the first so many that
  -- has not gone
  abbrev pub BuiltHere : ℕ → Journal → ℕ → State → Type 0
  BuiltHere many i n v = IsPresent i v → OwnsHome v × OpensSet (by_then (made_homes many few.home) i) v → BuiltOutside p (lasting few i) n v

  module _ (within : IsWithinLimits p) (raws : RawsPass few) (places : (n : Exec) (w : Value) (b : Ty) → Base few n w b → IsBase w b) (zero : (n : Exec) → Belongs few n (few.home 0) → ⊥) (main : MainPasses t few (t.routine source.main).this 0) (many : ℕ) (input : List ℕ) (opts : Options) (range : InRange opts) where
    -- all is known then in each state, so each step finds what it reads

    module _ (j : Journal) (w : World) (r : Runs source input opts j w) (f : RunFits source input opts j w r) (on : is_over j ≡ false) (below : PassesBelow few opts j) (met : RunMeets (Meets t few) source input opts j w r) where
      all_known : AllIsKnown t few source j w
      all_known = law_known_runs p formed ok few input opts range j w r f on below main met

      pub ride_reads : (q n k : ℕ) (s : State) (asked : Asked) (d : AsksIn source opts j w q n k s asked) → RideMeets (Meets t few) source (answered source d.given (drawn j w n)) (left opts j n) s k asked d.rides → RideMeets (KnowsReads t few) source (answered source d.given (drawn j w n)) (left opts j n) s k asked d.rides
      ride_reads q n k s asked d h =
          ride_turned (Meets t few) (KnowsReads t few) source (answered source d.given (drawn j w n)) (λ v l m h. let x = h (all_known.lives n v (record { given = d.given; processor = q; runs = d.runs; told = d.told; leads = l }) m) in (plain t few (Lives t few) [] v x.0.0, x.1.0)) rooms.stays tt d.rides h

    pub run_reads : {j : Journal} {w : World} (r : Runs source input opts j w) → RunFits source input opts j w r → PassesBelow few opts j → RunMeets (Meets t few) source input opts j w r → RunMeets (KnowsReads t few) source input opts j w r
    run_reads begun f below h = tt
    run_reads (more {j} {w} {a} r on (gives q n s le)) f below h = (run_reads r f.0 (earlier few opts j a below) h.0, tt)
    run_reads (more {j} {w} {a} r on (no_room q n s le)) f below h = (run_reads r f.0 (earlier few opts j a below) h.0, tt)
    run_reads (more {j} {w} {a} r on (acts q n k s asked d)) f below h =
        let e = earlier few opts j a below in
        (run_reads r f.0 e h.0, ride_reads j w r f.0 on e h.0 q n k s asked d h.1)

    -- of a run in which nobody has at hand what has gone
    module _ (j : Journal) (w : World) (r : Runs source input opts j w) (f : RunFits source input opts j w r) (on : is_over j ≡ false) (below : PassesBelow few opts j) (forgets : RunForgets t few source input opts j w r) (homes : (o : ℕ) → o < object_count j → home o ≡ home_of source input opts j w r o) (told : RunMeets (Told p few many) source input opts j w r) (alone : RunAlone source input opts j w r) (nobodys : RunGoes IsNobodys source input opts r) (so : HasMet input opts j w r) where
      -- what activations that wait have bound has not gone
      set_world : SetWorld (made_homes many home) source j w
      set_world =
          let free = run_free source input opts r (frees_finds p formed ok input opts range within r f alone) in
          let binds = run_with (Told p few many) (Binds source home many) (λ v h. h.0) r told in
          run_set p formed ok within home many input opts range r f on nobodys free (run_known p formed ok within home many (λ i. lasting few i) r (run_holds p formed ok input opts range r f alone) so.lives binds)

      known : AllIsKnown t (lasting few j) source j w
      known = law_lasting p formed ok few input opts range j w r f on below main so.lasts forgets

      module _ (q n k : ℕ) (s : State) (asked : Asked) (d : AsksIn source opts j w q n k s asked) where
        abbrev start : State
        start = answered source d.given (drawn j w n)

        abbrev comes : (v : State) → Leads source start v → Comes source j w n v
        comes v l = record { given = d.given; processor = q; runs = d.runs; told = d.told; leads = l }

        abbrev Finds_built : State → Type 0
        Finds_built v = FindsBuilt p (lasting few j) v

        -- what is told of homes, and what is had of others where an object is entered again to be destroyed
        abbrev Cond : State → Type 0
        Cond v = Told p few many v × BareOnWay t few v source

        abbrev Finds_all : State → Type 0
        Finds_all v = Cond v × Finds_built v

        built_at : (v : State) (l : Leads source start v) → LeadsMeet Finds_all source start v l → BuiltState t (heads_of p) (lasting few j) [] v
        built_at v l m =
            law_built_lasting p formed ok few input opts range j w r f on below main so.built forgets n v (comes v l) (leads_less Finds_all Finds_built source (λ s x. x.1) l m)

        -- by numbers of what is not gone, and by all
        known_at : (v : State) (l : Leads source start v) → LeadsMeet Finds_all source start v l → KnowsState t (lasting few j) [] v × KnowsState t few [] v
        known_at v l m =
            let x = plain t (lasting few j) (Built t (heads_of p) (lasting few j)) [] v (built_at v l m).0 in
            (x, knows_all t numbers home base j v x)

        -- own mutex objects are at home where the next scope opens
        owned_at : (v : State) (l : Leads source start v) → LeadsMeet Finds_all source start v l → OwnsHome v
        owned_at v l m =
            owned_on p formed ok within few input opts range j w r f homes (run_reads r f below so.all) on n v (comes v l) (leads_led Finds_all (λ v. KnowsState t few [] v) source start (λ v l m. (known_at v l m).1) rooms.stays tt l m)

        -- all that was found on the way

        lasts_here : (v : State) (l : Leads source start v) → LeadsMeet Finds_all source start v l → Finds_all v → Meets t (lasting few j) v
        lasts_here v l m h = λ x. let y = h.1 (built_at v l m) in (lives p formed ok (lasting few j) v y.0, (y.1, y.2))

        meets_here : (v : State) (l : Leads source start v) → LeadsMeet (Meets t (lasting few j)) source start v l → Meets t (lasting few j) v → Meets t few v
        meets_here v l m h = meets t numbers home base j raws v (known.lives n v (comes v l) m) h

        meets_on : (v : State) (l : Leads source start v) → LeadsMeet Finds_all source start v l → LeadsMeet (Meets t few) source start v l
        meets_on v l m =
            leads_turned (Meets t (lasting few j)) (Meets t few) source start meets_here rooms.stays tt l (leads_turned Finds_all (Meets t (lasting few j)) source start lasts_here rooms.stays tt l m)

        all : AllIsKnown t few source j w
        all = all_known j w r f on below so.all

        abbrev Told_met : State → Type 0
        Told_met v = Told p few many v × Meets t few v

        abbrev Seen_all : State → Type 0
        Seen_all v = Seen p formed ok within few many places input opts range main j w r f on below so.all told (run_reads r f below so.all) v

        seen_here : (v : State) (l : Leads source start v) → LeadsMeet Told_met source start v l → Told_met v → Seen_all v
        seen_here v l m h =
            let met : LeadsMeet (Meets t few) source start v l = leads_less Told_met (Meets t few) source (λ s x. x.1) l m in
            let life : LivesState t few v = all.lives n v (comes v l) met in
            let x = h.1 life in
            ((h.0, (plain t few (Lives t few) [] v x.0.0, x.1.0)), (record { knows = all.comes n v (comes v l) met; life = life }, h.1))

        seen_on : (v : State) (l : Leads source start v) → LeadsMeet Finds_all source start v l → LeadsMeet Seen_all source start v l
        seen_on v l m =
            let both : LeadsMeet Told_met source start v l = leads_zip Finds_all (Meets t few) Told_met (λ s a b. (a.0.0, b)) l m (meets_on v l m) in
            leads_turned Told_met Seen_all source start seen_here rooms.stays tt l both

        -- so what is entered again to be destroyed is not at hand
        module _ (b : Began p few j n start) where
          -- an object that was made and is not gone is at home in what is the own of who is at home in what was made before
          older : (o : ℕ) → (o < object_count j) × (is_gone o j ≡ false) → (m : Exec) → Belongs few m (few.home o) → number_at m.home < o
          older o there m own = homes_away p formed ok few zero input opts range r f alone on (run_fair p formed ok within few many places input opts range main j w r f on below so.all told (run_reads r f below so.all)) homes o there.0 there.1 m own

          foreign_at : (v : State) → Stood p j b.own b.news b.ks b.hs v → IsForeign few v.env.exec
          foreign_at v h = λ o whose own.
              let lt = older o (made_home p formed ok few places j n start b v h o whose) v.env.exec own in
              by o whose lt
            where
              by : (o : ℕ) → (v.env.exec.home ≡ dwelling.Object o) ⊎ (v.env.exec ≡ main_of o) → number_at v.env.exec.home < o → ⊥
              by o (inl e) lt = let l : o < o = subst (λ (x : Home). number_at x < o) e lt in omega (arith, l)
              by o (inr e) lt = let l : o < o = subst (λ (x : Exec). number_at x.home < o) e lt in omega (arith, l)

          -- who owns the home of the own object, where nothing is told of others but seats
          module _ (v : State) (h : Stood p j b.own b.news b.ks b.hs v) (seats : SeatsAlone few) (m : Exec) (mine : Belongs few m (few.home (own_object n j))) where
            owns : Belongs few m (few.home v.env.own)
            owns = subst (λ (i : ℕ). Belongs few m (few.home i)) (sym (h.stands.own ∙ b.own_is)) mine

            house : (o : ℕ) → v.env.exec.home ≡ dwelling.Object o → OwnedAfter few m o
            house o e = b.visits seats n o (b.here o (held_home p formed ok few places j n start b v h o e)) m mine

            -- who runs is at home in nothing older
            later : number_at m.home ≤ number_at v.env.exec.home
            later = by v.env.exec.home refl
              where
                by : (x : Home) → v.env.exec.home ≡ x → number_at m.home ≤ number_at v.env.exec.home
                by (dwelling.Object o) e =
                    let x = house o e in
                    let more = x.later in
                    let less = older o (made_home p formed ok few places j n start b v h o (inl e)) x.who x.owns in
                    let is : number_at v.env.exec.home ≡ o = ap number_at e in
                    omega (arith, more, less, is)
                by (dwelling.Task o) e =
                    let same : o ≡ v.env.own = subst (IsHere v.env.own v.env.hand) e h.stands.here in
                    let less = older v.env.own (own_made p formed ok few places j n start b v h) m owns in
                    let is : number_at v.env.exec.home ≡ o = ap number_at e in
                    omega (arith, same, less, is)

            main_own : (o : ℕ) → v.env.exec ≡ main_of o → Belongs few m (few.home o)
            main_own o e =
                subst (λ (i : ℕ). Belongs few m (few.home i)) (sym (main_home p formed ok few places j n start b v h o e)) owns

            -- what is called
            called_after : (l : Leads source start v) → LeadsMeet Finds_all source start v l → (o i : ℕ) (u : State) → quiet source v ≡ Asks (ask.Call o i) u → OwnedAfter few m o
            called_after l met o i u e =
                let seen = seen_on v l met in
                let facts = leads_less Seen_all (λ s. Told p few many s × KnowsReads t few s) source (λ s x. x.0) l seen in
                let at = law_asked_at source v (ask.Call o i) u e in
                let puts = put_on p formed ok within few many places input opts range main j w r f on below so.all told (run_reads r f below so.all) n d.given q d.runs d.told v l facts in
                let lets = lets_on p formed ok within few many places input opts range main j w r f on below so.all told (run_reads r f below so.all) n d.given q d.runs d.told v l seen in
                let lone = lone_on p formed ok within few many places input opts range main j w r f on below so.all told (run_reads r f below so.all) n d.given q d.runs d.told v l facts in
                ⊎_elim
                (λ own. record { who = v.env.exec; owns = own; later = later })
                (λ k. told_after t few seats v.env.exec m (λ e. zero m (main_own 0 e)) later house main_own (v.run ∷ v.callers) lone.stack o k.0 k.1)
                (entered_known p formed ok few places v puts.put (known_at v l met).1 lets b.news h.deep at.0 at.1 at.2 at.3 o i u e)

            -- what is made
            made_after : (c : ℕ) (u : State) → quiet source v ≡ Asks (ask.Make c) u → (o : ℕ) → Belongs few u.env.exec (few.home o) → OwnedAfter few m o
            made_after c u e o own =
                let x : StandsAsking (part_of p) source b.own v (ask.Make c) u = subst (StandsStep (part_of p) source b.own v) e (stand p formed ok few places j n start b v h) in
                record { who = v.env.exec; owns = subst (λ (y : Exec). Belongs few y (few.home o)) x.exec own; later = later }

          -- so the own object is not entered again to be destroyed
          own_at : (v : State) → Stood p j b.own b.news b.ks b.hs v → SeatsAlone few → Belongs few v.env.exec (few.home v.env.own) → ⊥
          own_at v h seats own = by v.env.exec.home refl
            where
              mine : Belongs few v.env.exec (few.home (own_object n j))
              mine = subst (λ (i : ℕ). Belongs few v.env.exec (few.home i)) (h.stands.own ∙ b.own_is) own

              by : (x : Home) → v.env.exec.home ≡ x → ⊥
              by (dwelling.Object o) e =
                  let x = house v h seats v.env.exec mine o e in
                  let more = x.later in
                  let less = older o (made_home p formed ok few places j n start b v h o (inl e)) x.who x.owns in
                  let is : number_at v.env.exec.home ≡ o = ap number_at e in
                  omega (arith, more, less, is)
              by (dwelling.Task o) e =
                  let same : o ≡ v.env.own = subst (IsHere v.env.own v.env.hand) e h.stands.here in
                  let less = older v.env.own (own_made p formed ok few places j n start b v h) v.env.exec own in
                  let is : number_at v.env.exec.home ≡ o = ap number_at e in
                  omega (arith, same, less, is)

          clear_at : (v : State) (l : Leads source start v) → LeadsMeet Finds_all source start v l → Stood p j b.own b.news b.ks b.hs v → Cond v → EntersClear p few v
          clear_at v l m h c = λ k x y todo e.
              let seen = seen_on v l m in
              let puts = put_on p formed ok within few many places input opts range main j w r f on below so.all told (run_reads r f below so.all) n d.given q d.runs d.told v l (leads_less Seen_all (λ s. Told p few many s × KnowsReads t few s) source (λ s x. x.0) l seen) in
              let lets = lets_on p formed ok within few many places input opts range main j w r f on below so.all told (run_reads r f below so.all) n d.given q d.runs d.told v l seen in
              clear t few source zero b.news v k h.deep lets (law_lone_objects (setting_of p few) (law_calling p formed ok) v puts.put) (foreign_at v h) (own_at v h) x y todo e (subst (BareOnWayBy t few v source) e c.1)

          -- where the scope of a mutex variable opens, that holds what was made, and has not gone
          stood_at : (v : State) (l : Leads source start v) → LeadsMeet Finds_all source start v l → LeadsMeet (λ v. Stood p j b.own b.news b.ks b.hs v) source start v l
          stood_at v l m = stood_on p formed ok few places j n start b Finds_all known_at (λ v. Unit {0}) (λ v l m. tt) Cond clear_at (λ v g. g.0) rooms.stays tt b.stood l m

          known_there : (v : State) (l : Leads source start v) → LeadsMeet Finds_all source start v l → LeadsMeet (KnownThere p j home many) source start v l
          known_there v l m =
              leads_zip (λ v. Stood p j b.own b.news b.ks b.hs v) (λ v. KnowsState t few [] v × Binds source home many v) (KnownThere p j home many) (λ v h x. record { few = few; knows = x.0; own = b.own; news = b.news; deep = h.deep; stands = h.stands; inside = inside p formed ok few places j n start b v h; binds = x.1 }) l (stood_at v l m) (leads_turned Finds_all (λ v. KnowsState t few [] v × Binds source home many v) source start (λ v l m g. ((known_at v l m).1, g.0.0.0)) rooms.stays tt l m)

          set_at : (v : State) (l : Leads source start v) → LeadsMeet Finds_all source start v l → OpensSet (by_then (made_homes many home) j) v
          set_at v l m = set_here p formed ok within home many input opts range j w r f on set_world n v (comes v l) (known_there v l m)

          abbrev AlsoHere : State → Type 0
          AlsoHere v = OwnsHome v × OpensSet (by_then (made_homes many home) j) v

          also_at : (v : State) (l : Leads source start v) → LeadsMeet Finds_all source start v l → AlsoHere v
          also_at v l m = (owned_at v l m, set_at v l m)

          -- where the object at hand is told of
          module _ (h : RideHolds (BuiltHere many j) source 0 start (left opts j n) s k asked d.rides) (cond : RideMeets Cond source start (left opts j n) s k asked d.rides) where
            abbrev Finds_once : State → Type 0
            Finds_once v = Once p formed ok few places j n start b Finds_all known_at AlsoHere also_at Cond clear_at v

            ride_once : RideMeets Finds_once source start (left opts j n) s k asked d.rides
            ride_once =
                endings.ride_met t (lasting few j) source (λ c o h. raws c o (passes t numbers home base j c o h)) Finds_once (λ m v. Cond v × BuiltHere many j m v) (λ m v x e. (x.0, λ g o. (x.0, built_met p formed ok (lasting few j) m v (x.1 g o) e))) start (λ v l m. lives p formed ok (lasting few j) v (built_at v l (led p formed ok few places j n start b Finds_all known_at AlsoHere also_at Cond clear_at rooms.stays tt b.stood l m))) rooms.stays tt 0 d.rides (with_cond (BuiltHere many j) Cond source 0 d.rides h cond) tt

            ride_found : RideMeets Finds_all source start (left opts j n) s k asked d.rides
            ride_found = rode p formed ok few places j n start b Finds_all known_at AlsoHere also_at Cond clear_at rooms.stays tt b.stood d.rides ride_once

            pub ride_clear : RideMeets (EntersClear p few) source start (left opts j n) s k asked d.rides
            ride_clear = cleared p formed ok few places j n start b Finds_all known_at AlsoHere also_at Cond clear_at rooms.stays tt b.stood d.rides ride_once

            pub ride_built : RideMeets Finds_built source start (left opts j n) s k asked d.rides
            ride_built = ride_with Finds_all Finds_built (λ v x. x.1) d.rides ride_found

            pub ride_lasts : RideMeets (Meets t (lasting few j)) source start (left opts j n) s k asked d.rides
            ride_lasts = ride_turned Finds_all (Meets t (lasting few j)) source start lasts_here rooms.stays tt d.rides ride_found

            pub ride_lives : RideMeets (LivesState t (lasting few j)) source start (left opts j n) s k asked d.rides
            ride_lives =
                ride_turned Finds_all (LivesState t (lasting few j)) source start (λ v l m h. lives p formed ok (lasting few j) v (built_at v l m)) rooms.stays tt d.rides ride_found

            pub ride_all : RideMeets (Meets t few) source start (left opts j n) s k asked d.rides
            ride_all = ride_turned (Meets t (lasting few j)) (Meets t few) source start meets_here rooms.stays tt d.rides ride_lasts

          -- what is asked at the end of a ride that is met
          abbrev IsAsked : Type 0
          IsAsked = (Stood p j b.own b.news b.ks b.hs s × (asked.request ≡ ask.Slice)) ⊎ AsksAt p formed ok few places j n start b Finds_all known_at AlsoHere also_at Cond clear_at asked.request s

          asks_at : RideMeets Cond source start (left opts j n) s k asked d.rides → RideMeets (EntersClear p few) source start (left opts j n) s k asked d.rides → RideMeets Finds_built source start (left opts j n) s k asked d.rides → IsAsked
          asks_at cond clear m =
              ended p formed ok few places j n start b Finds_all known_at AlsoHere also_at Cond clear_at rooms.stays tt b.stood d.rides clear (ride_zip Cond Finds_built Finds_all (λ v a b. (a, b)) d.rides cond m)

          -- what goes on
          ends : IsAsked → LetsState t (there (λ o. is_gone o j)) s × LetsAsked t (there (λ o. is_gone o j)) asked.request s
          ends (inl (h, e)) = (h.lets, subst (λ (x : Request). LetsAsked t (there (λ o. is_gone o j)) x s) (sym e) tt)
          ends (inr x) = asked_lets p formed ok few places j n start b Finds_all known_at AlsoHere also_at Cond clear_at asked.request s x

          -- what is called, and what is made
          calls_after : SeatsAlone few → IsAsked → (o i : ℕ) → asked.request ≡ ask.Call o i → (m : Exec) → Belongs few m (few.home (own_object n j)) → OwnedAfter few m o
          calls_after seats (inl (h, e)) o i c m own = absurd (other_call o i (sym e ∙ c))
          calls_after seats (inr x) o i c m own =
              called_after x.state x.now seats m own x.leads x.meets o i s (x.asks ∙ ap (λ (y : Request). Asks y s) c)

          makes_after : SeatsAlone few → IsAsked → (c : ℕ) → asked.request ≡ ask.Make c → Belongs few s.env.exec (few.home (object_count j)) → (m : Exec) → Belongs few m (few.home (own_object n j)) → OwnedAfter few m (object_count j)
          makes_after seats (inl (h, e)) c is theirs m own = absurd (other_make c (sym e ∙ is))
          makes_after seats (inr x) c is theirs m own =
              made_after x.state x.now seats m own c s (x.asks ∙ ap (λ (y : Request). Asks y s) is) (object_count j) theirs

    -- act by act, where what is left of runs shows of each what `Shown` says
    module _ (Left : (j : Journal) (w : World) → Runs source input opts j w → Type 0) (shorter : (j : Journal) (w : World) (a : List Entry) (v : World) (r : Runs source input opts j w) (on : is_over j ≡ false) (m : May source opts input j w a v) → Left (j ++ a) v (more r on m) → Left j w r) (shows : (j : Journal) (w : World) (r : Runs source input opts j w) → RunFits source input opts j w r → is_over j ≡ false → PassesBelow few opts j → HasMet input opts j w r → Left j w r → Shown many input opts j w r) (conds : (j : Journal) (w : World) (r : Runs source input opts j w) (on : is_over j ≡ false) (q n k : ℕ) (s : State) (asked : Asked) (d : AsksIn source opts j w q n k s asked) → Left (j ++ act opts source.sites input j q n k asked) (world_after source (act opts source.sites input j q n k asked) w n s) (more r on (acts q n k s asked d)) → RideMeets (λ v. Told p few many v × BareOnWay t few v source) source (answered source d.given (drawn j w n)) (left opts j n) s k asked d.rides) where
      -- each activation that does more than to come to its end is of an object that has not gone; and of where tasks are so much is known
      pub run_present : {j : Journal} {w : World} (r : Runs source input opts j w) → RunFits source input opts j w r → is_over j ≡ false → PassesBelow few opts j → HasMet input opts j w r → Left j w r → PresentWorld t j w × (SeatsAlone few → Visits few j)
      run_present begun f on below so x = (present_begun t source input opts, λ seats. visits_begun p formed ok few input opts range)
      run_present (more {j} {w} {a} {w' = v} r o (gives q n s le)) f on below so x =
          let had = run_present r f.0 o (earlier few opts j a below) (before input opts r o (gives q n s le) so) (shorter j w a v r o (gives q n s le) x) in
          (present_given t source input opts j w q n had.0, λ seats. visits_given p formed ok few input opts range j q n (had.1 seats))
      run_present (more {j} {w} {a} {w' = v} r o (no_room q n s le)) f on below so x =
          no_both (is_over (j ++ lone_limit ∷ [])) (over_limit j 0 0) on
      run_present (more {j} {w} {a} {w' = v} r o (acts q n k s asked d)) f on below so x =
          let e = earlier few opts j a below in
          let so_far = before input opts r o (acts q n k s asked d) so in
          let l = shorter j w a v r o (acts q n k s asked d) x in
          let had = run_present r f.0 o e so_far l in
          let g = shows j w r f.0 o e so_far l in
          let next = shows (j ++ a) v (more r o (acts q n k s asked d)) f on below so x in
          let b = began p formed ok input opts range j w r f.0 o g.alone few had q n k s asked d in
          let at = asks_at j w r f.0 o e g.forgets g.homes g.told g.alone g.nobodys so_far q n k s asked d b (conds j w r o q n k s asked d x) so.clear.1 so.built.1 in
          let y = ends j w r f.0 o e g.forgets g.homes g.told g.alone g.nobodys so_far q n k s asked d b at in
          let fair = run_fair p formed ok within few many places input opts range main (j ++ a) v (more r o (acts q n k s asked d)) f on below so.all next.told (run_reads (more r o (acts q n k s asked d)) f below so.all) in (
            present_acted t source input opts j w q n k s asked d on had.0 y.0 y.1 next.nobodys.1,
            λ seats. visits_acted p formed ok few input opts range r f.0 g.alone o q n k s asked d f.1 on (had.1 seats) (calls_after j w r f.0 o e g.forgets g.homes g.told g.alone g.nobodys so_far q n k s asked d b seats at) (λ c is. makes_after j w r f.0 o e g.forgets g.homes g.told g.alone g.nobodys so_far q n k s asked d b seats at c is (new_own p formed ok few zero input opts range r f.0 g.alone o fair.0 q n k s asked d fair.1 c is (object_count j) refl (next.homes (object_count j) (makes_more p formed ok few input opts range r f.0 g.alone o q n k s asked d f.1 on c is)))),
          )

      pub run_met : {j : Journal} {w : World} (r : Runs source input opts j w) → RunFits source input opts j w r → PassesBelow few opts j → RunHoldsAt (BuiltHere many) source input opts j w r → Left j w r → HasMet input opts j w r
      run_met begun f below h x = record { all = tt; lasts = tt; lives = tt; built = tt; clear = tt }
      run_met (more {j} {w} {a} {w' = v} r on (gives q n s le)) f below h x =
          let so = run_met r f.0 (earlier few opts j a below) h.0 (shorter j w a v r on (gives q n s le) x) in
          record { all = (so.all, tt); lasts = (so.lasts, tt); lives = (so.lives, tt); built = (so.built, tt); clear = (so.clear, tt) }
      run_met (more {j} {w} {a} {w' = v} r on (no_room q n s le)) f below h x =
          let so = run_met r f.0 (earlier few opts j a below) h.0 (shorter j w a v r on (no_room q n s le) x) in
          record { all = (so.all, tt); lasts = (so.lasts, tt); lives = (so.lives, tt); built = (so.built, tt); clear = (so.clear, tt) }
      run_met (more {j} {w} {a} {w' = v} r on (acts q n k s asked d)) f below h x =
          let l = shorter j w a v r on (acts q n k s asked d) x in
          let e = earlier few opts j a below in
          let so = run_met r f.0 e h.0 l in
          let g = shows j w r f.0 on e so l in
          let c = conds j w r on q n k s asked d x in
          let b = began p formed ok input opts range j w r f.0 on g.alone few (run_present r f.0 on e so l) q n k s asked d in
          record {
            all = (so.all, ride_all j w r f.0 on e g.forgets g.homes g.told g.alone g.nobodys so q n k s asked d b h.1 c);
            lasts = (so.lasts, ride_lasts j w r f.0 on e g.forgets g.homes g.told g.alone g.nobodys so q n k s asked d b h.1 c);
            lives = (so.lives, ride_lives j w r f.0 on e g.forgets g.homes g.told g.alone g.nobodys so q n k s asked d b h.1 c);
            built = (so.built, ride_built j w r f.0 on e g.forgets g.homes g.told g.alone g.nobodys so q n k s asked d b h.1 c);
            clear = (so.clear, ride_clear j w r f.0 on e g.forgets g.homes g.told g.alone g.nobodys so q n k s asked d b h.1 c);
          }
