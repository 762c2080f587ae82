-- In every run in which objects are built by what stands before their scopes, these open where they hold what is known.
use Rattle.std.proofs.Common.{◌≡◌, ℕ, Bool, true, false, List, [], ◌∷◌, Option, Some, None, refl, sym, subst}
use Rattle.std.specs.Prelude.{slice_get}
use Rattle.uc_tree.specs.Programs.{Program}
use Rattle.uc_tree.specs.Source as src
use Rattle.uc_tree.specs.Source.{Source, Stmts, Routine, CleanUp, routine_of, routine_or_none}
use Rattle.uc_entry.specs.declared.entry.Options.{Options}
use Rattle.uc_entry.specs.declared.request.Answer.{Answer}
use Rattle.uc_entry.specs.declared.request.Asked.{Asked}
use Rattle.uc_acts.specs.Journal.{Journal, is_over}
use Rattle.uc_acts.specs.Queues.{running}
use Rattle.uc_acts.specs.Answers.{answer_to}
use Rattle.uc_acts.specs.KernelRuns.{InRange}
use Rattle.uc_machine.specs.declared.exec.Exec.{Exec}
use Rattle.uc_machine.specs.declared.exec.Home.TheVariants as home
use Rattle.uc_machine.specs.declared.exec.Owner.TheVariants.{Frame}
use Rattle.uc_machine.specs.Switches.{stopped}
use Rattle.uc_machine.specs.Pieces as piece
use Rattle.uc_machine.specs.Pieces.{FieldAt, Value, Object, Todo, further}
use Rattle.uc_machine.specs.Quiet.{State, Members, first_state, fresh}
use Rattle.uc_machine.specs.Answering.{answered, child_main, with_operand, entered}
use Rattle.uc_machine.specs.Rides as rides
use Rattle.uc_machine.specs.Rides.{Rides}
use Rattle.uc_meaning.specs.Runs.{World, Runs, gives, no_room, acts, begun, more, drawn}
use Rattle.uc_resolve.specs.Resolve.{source_of}
use Rattle.uc_rules.specs.Breaks.{breaks_of}
use Rattle.uc_state_laws.specs.Fitting.{RunFits}
use Rattle.uc_state_laws.proofs.Others.{run_rests}
use Rattle.uc_state_laws.specs.RoomStacks.{StackState}
use Rattle.uc_state_laws.specs.Layout.{Sized}
use Rattle.uc_state_laws.specs.Rooms.{SourceIn}
use Rattle.uc_state_laws.specs.RoomRuns as runs
use Rattle.uc_state_laws.specs.RoomRuns.{Leads, Comes}
use Rattle.uc_state_laws.specs.There.{Any}
use Rattle.uc_state_laws.specs.NewClusters.{GoodBy}
use Rattle.uc_state_laws.specs.Opens as there
use Rattle.uc_state_laws.specs.Opens.{RideMeets, RunMeets, LeadsMeet}
use Rattle.uc_state_laws.proofs.StackWorlds as stacked
use Rattle.uc_state_laws.proofs.Unreferring.{law_accepted}
use Rattle.uc_state_laws.proofs.ValueWorlds as value_runs
use Rattle.uc_typing.specs.Typing.{Ty, Obj, Row, Sig, Table, CleansAt}
use Rattle.uc_typing.specs.States.{Sound, IsTask}
use Rattle.uc_sound.specs.SoundFormed.{IsFormed}
use Rattle.uc_sound.specs.Sounds.{of_program}
use Rattle.uc_sound.specs.Tables.{table_of}
use Rattle.uc_sound.proofs.MainLemmas.{law_mains}
use Rattle.uc_sound.proofs.SoundLemmas.{law_sound}
use Rattle.uc_place_laws.specs.Opened.{OpensNone, BuildsNone, OpenedRoutine}
use Rattle.uc_place_laws.proofs.OpeningMarks.{next_opens}
use Rattle.uc_place_laws.proofs.Openings.{law_opened}
use Rattle.uc_place_laws.proofs.OpeningRuns.{law_runs as called}
use Rattle.uc_place_laws.proofs.SparingRuns.{law_sparing as sparing}
use Rattle.uc_place_laws.proofs.Addresses.{law_addresses as addresses}
use Rattle.uc_state_laws.specs.Limits.{IsWithinLimits}
use Rattle.uc_life_laws.specs.Things.{Few, IsField, Known, Holds}
use Rattle.uc_life_laws.specs.LifeStates.{MembersBy, frame_at, Outwards, OpensAtBy, OpensBy}
use Rattle.uc_life_laws.specs.LifeRuns.{IsLaidOut}
use Rattle.uc_life_laws.specs.Kinds.{Claimed}
use Rattle.uc_life_laws.specs.Lives.{OutwardsOrMade, Lives, LivesState}
use Rattle.uc_life_laws.specs.Knowing.{AtHand, ClaimsBy, ClaimsSlot, KnowsState, main_of}
use Rattle.uc_life_laws.specs.Opened.{any, ObjectsOpen}
use Rattle.uc_life_laws.specs.OpenedRuns.{MeetsObjects}
use Rattle.uc_machine.specs.declared.exec.Stage.{Stage}
use Rattle.uc_machine.specs.declared.exec.Stage.TheVariants.{Fresh, Started, Ended}
use Rattle.uc_life_laws.proofs.Endings.{goes_on, ticks_on, goes_met, ticks_met}
use Rattle.uc_life_laws.proofs.Following.{law_following}
use Rattle.uc_life_laws.proofs.KindsLemmas.{env_less, plain}
use Rattle.uc_life_laws.proofs.KnownAnswers as answers
use Rattle.uc_life_laws.proofs.KnownWorlds.{nothing_beside, main_numbered}
use Rattle.uc_life_laws.proofs.Laying.{laid_out}
use Rattle.uc_life_laws.proofs.LifeSteps.{life_kept}
use Rattle.uc_life_laws.proofs.LifeWorlds.{stack_told}
use Rattle.uc_life_laws.proofs.Opened.{law_opens}
use Rattle.uc_life_laws.proofs.OpenedRuns.{scope_there}
use Rattle.uc_life_laws.proofs.Parked.{Ex}
use Rattle.uc_life_laws.proofs.WorldsBy as by
use Rattle.uc_life_laws.proofs.WorldsBy.{KeepsBy}
use Rattle.uc_building_laws.specs.Building.{heads_of}
use Rattle.uc_building_laws.specs.Pairs.{AllCalled}
use Rattle.uc_building_laws.specs.BuildingStates.{variable, of_wait, BuildsBy, Stands, Starts, BuildsRest, Left, Built, BuiltState}
use Rattle.uc_building_laws.specs.BuiltLasting.{FindsBuilt}
use Rattle.uc_building_laws.specs.BuildingRuns.{OthersHold, MeetsBuilding, LawBuilt}
use Rattle.uc_building_laws.proofs.Building.{whole_built, where_bound}
use Rattle.uc_building_laws.proofs.Constructors.{fair, law_heads}
use Rattle.uc_building_laws.proofs.Kept.{rest_left, built_kept, fresh_built, law_kept}
use Rattle.uc_building_laws.proofs.Walk.{law_steps}

-- at each state of a run, by what holds on the way to it

module _ (source : Source) (opts : Options) (P Q : State → Type 0) where
  module _ (j : Journal) (w : World) (n : ℕ) (given : Answer) (processor : ℕ) (runs_on : running processor j ≡ n ∷ []) (told : answer_to source.sites n j ≡ Some given) (turn : (s : State) (c : Comes source j w n s) → LeadsMeet P source (answered source c.given (drawn j w n)) s c.leads → P s → Q s) where
    abbrev start : State
    start = answered source given (drawn j w n)

    abbrev comes : (s : State) → Leads source start s → Comes source j w n s
    comes s l = record { given = given; processor = processor; runs = runs_on; told = told; leads = l }

    pub ride_to : {s u : State} {q k : ℕ} {a : Asked} (l : Leads source start s) → LeadsMeet P source start s l → (d : Rides source s q u k a) → RideMeets P source s q u k a d → RideMeets Q source s q u k a d
    ride_to l m rides.slices h = tt
    ride_to l m (rides.goes_on {s} e d) h = (turn s (comes s l) m h.0, ride_to (goes_on P source l e) (goes_met P source l e m h.0) d h.1)
    ride_to l m (rides.ticks {s} e d) h = (turn s (comes s l) m h.0, ride_to (ticks_on P source l e) (ticks_met P source l e m h.0) d h.1)
    ride_to l m (rides.asks {s} e) h = turn s (comes s l) m h

    pub lead_to : {s u : State} (l : Leads source start s) → LeadsMeet P source start s l → (d : Leads source s u) → LeadsMeet P source s u d → LeadsMeet Q source s u d
    lead_to l m runs.stays h = tt
    lead_to l m (runs.goes {s} e d) h = (turn s (comes s l) m h.0, lead_to (goes_on P source l e) (goes_met P source l e m h.0) d h.1)
    lead_to l m (runs.ticks {s} e d) h = (turn s (comes s l) m h.0, lead_to (ticks_on P source l e) (ticks_met P source l e m h.0) d h.1)

  module _ (input : List ℕ) (turn : (j : Journal) (w : World) (r : Runs source input opts j w) → RunFits source input opts j w r → is_over j ≡ false → RunMeets P source input opts j w r → (n : ℕ) (s : State) (c : Comes source j w n s) → LeadsMeet P source (answered source c.given (drawn j w n)) s c.leads → P s → Q s) where
    run_to : {j : Journal} {w : World} (r : Runs source input opts j w) → RunFits source input opts j w r → RunMeets P source input opts j w r → RunMeets Q source input opts j w r
    run_to begun f h = tt
    run_to (more r on (gives q n s le)) f h = (run_to r f.0 h.0, tt)
    run_to (more r on (no_room q n s le)) f h = (run_to r f.0 h.0, tt)
    run_to (more {j} {w} r on (acts q n k s asked d)) f h =
        (run_to r f.0 h.0, ride_to j w n d.given q d.runs d.told (λ v c m x. turn j w r f.0 on h.0 n v c m x) runs.stays tt d.rides h.1)

-- no routine begins with the scope of an object that is a variable, nor with what builds one
begins_open : (p : Program) (r : Option Routine) → OpenedRoutine p r → OpensNone (routine_or_none r).body
begins_open p None h = tt
begins_open p (Some r) h = next_opens (λ d x. ⊥) r.body h.0

begins_built : (p : Program) (r : Option Routine) → OpenedRoutine p r → BuildsNone (routine_or_none r).body
begins_built p None h = tt
begins_built p (Some r) h = h.2

module _ (p : Program) (formed : IsFormed p) (accepted : breaks_of p ≡ []) where
  abbrev source : Source
  source = source_of p

  abbrev t : Table
  t = table_of p

  abbrev pub Z : ℕ → ℕ → Type 0
  Z = Sized p

  sound : Sound t source
  sound = law_sound p formed accepted

  main : IsTask t source.main
  main = law_mains p formed accepted source.main (of_program refl)

  pub laid : IsLaidOut Z t
  laid = laid_out p formed accepted

  pub known : SourceIn Z source
  known = law_accepted p accepted

  -- all that is known, and what constructors have bound

  module _ (few : Few) where
    abbrev J : Exec → List Sig → Ex → Type 0
    J n gs x = Built t (heads_of p) few n gs x

    abbrev pub S : List Ty → State → Type 0
    S given s = BuiltState t (heads_of p) few given s

    abbrev pub P : Exec → Ex → Type 0
    P n x = ClaimsSlot t few J n x

    -- of the running execution
    abbrev Runs_by : List Sig → List Ty → State → Type 0
    Runs_by gs given s = Lives t few s.env.exec gs (stopped s) × BuildsBy t (heads_of p) few gs (Left t (heads_of p) given s.run) s × Stands t (heads_of p) few gs s × Starts t (heads_of p) few gs s × AllCalled t gs (s.run ∷ s.callers)

    operand : (a : Ty) (given : List Ty) (v : Value) (s : State) → S (a ∷ given) s → ((gs : List Sig) → Known t few s.env.exec (AtHand t few s.env.exec gs (s.run ∷ s.callers)) a v) → S given (with_operand v s)
    operand a given v s x i =
        let y = answers.brought_claims t few J a given v s x.0 i in
        let b : BuildsBy t (heads_of p) few x.0.sigs of_wait (with_operand v s) = record { anew = x.1.1.anew; run = x.1.1.run; callers = x.1.1.callers } in
        (y.0, subst (λ gs. Runs_by gs given (with_operand v s)) (sym y.1) (record { frames = x.1.0.frames; stack = (x.1.0.stack.0, x.1.0.stack.1, x.1.0.stack.2) }, rest_left t (heads_of p) few x.0.sigs given (with_operand v s) b, x.1.2, x.1.3, x.1.4))

    member : (given : List Ty) (m : Option Members) (o : ℕ) (s : State) → MembersBy P (home.Object o) m → S given s → S given (entered m o s)
    member given None o s k x = x
    member given (Some m) o s k x =
        let y = answers.entered_claims t few J given (Some m) o s k x.0 in
        (y.0, subst (λ gs. Runs_by gs given (entered (Some m) o s)) (sym y.1) (x.1.0, record { anew = x.1.1.anew; run = x.1.1.run; callers = x.1.1.callers }, x.1.2, x.1.3, x.1.4))

    fresh_main : (r : ℕ) (x : Routine) (n : ℕ) → slice_get source.routines r ≡ Some x → IsTask t r → J (main_of n) (t.routine r ∷ []) (fresh x (Object n))
    fresh_main r x n e h = ((life_kept t few (OutwardsOrMade (t.routine r ∷ []))).begins (main_of n) x (Object n), fresh_built t (heads_of p) few (main_of n) (t.routine r ∷ []) x (Object n))

    first : (r n : ℕ) → Claimed J t few [] (first_state (routine_of source r) n) → S [] (first_state (routine_of source r) n)
    first r n y =
        let b : BuildsRest t (heads_of p) few y.0.sigs (first_state (routine_of source r) n) = law_steps.begins t (heads_of p) few y.0.sigs source r n (begins_open p (slice_get source.routines r) (law_opened p r)) (begins_built p (slice_get source.routines r) (law_opened p r)) in
        (y.0, (y.1.0, record { anew = y.1.1.anew; run = y.1.1.run; callers = y.1.1.callers }, b.stands, b.starts, y.1.1.pairs))

    -- a step finds what it is to find, in a state in which that is known
    abbrev pub Follows : State → Type 0
    Follows s = StackState Z s × FindsBuilt p few s

    pub keeps : KeepsBy t few source (λ s. Unit {0}) S P Follows
    keeps = record {
      hand = λ given s x. x.0.env.hand;
      handed = λ given hand s x h. (record { sigs = x.0.sigs; frames = x.0.frames; run = x.0.run; callers = x.0.callers; env = record { house = x.0.env.house; hand = h } }, (x.1.0, record { anew = x.1.1.anew; run = x.1.1.run; callers = x.1.1.callers }, x.1.2, x.1.3, x.1.4));
      told = λ q a s x h i. answers.told t few S P operand member source q a s x h i;
      spawned = λ o n s x i. first (child_main source s.run.control) n (answers.begins t few J (built_kept t (heads_of p) few) source sound fresh_main (child_main source s.run.control) n x.0 i);
      begins = λ i. first source.main 0 (answers.begins t few J (built_kept t (heads_of p) few) source sound fresh_main source.main 0 main i);
      steps = λ s clear m l x. let y = m.1 x in law_kept.steps t (heads_of p) few source p sound laid (law_heads.spans p formed accepted) (law_heads.kinds p formed accepted) s m.0 y.0 y.1 y.2 y.3;
    }

    module _ (input : List ℕ) (opts : Options) (range : InRange opts) (j : Journal) (w : World) (r : Runs source input opts j w) (fits : RunFits source input opts j w r) (on : is_over j ≡ false) (world : by.KnownWorld t few source Z laid known (λ s. Unit {0}) (λ w. Unit {0}) S P Follows (nothing_beside t source S Follows) keeps j w) where
      pub built_from : (n : ℕ) (s : State) (c : Comes source j w n s) → LeadsMeet Follows source (answered source c.given (drawn j w n)) s c.leads → S [] s
      built_from n s c l =
          (by.led t few source Z laid known (λ s. Unit {0}) (λ w. Unit {0}) S P Follows (nothing_beside t source S Follows) keeps c.leads l (stack_told t few Z laid source known c.given j w n (stacked.world_rests Z source known input opts r)) (by.starts t few source Z laid known (λ s. Unit {0}) (λ w. Unit {0}) S P Follows (nothing_beside t source S Follows) keeps input opts range (run_rests source input opts range r fits on).kernel on world c.processor n c.given c.runs c.told)).known

  -- where numbers are not tested

  abbrev B : State → Type 0
  B s = BuiltState t (heads_of p) any [] s

  abbrev knows : (s : State) → B s → KnowsState t any [] s
  knows s x = plain t any (Built t (heads_of p) any) [] s x.0

  -- what is claimed of constructors is forgotten
  pub lives_by : (few : Few) (n : Exec) (g : Stage) (x : Ex) → ClaimsBy t few (Built t (heads_of p) few) n g x → ClaimsBy t few (Lives t few) n g x
  lives_by few n Fresh x k = record { sigs = k.sigs; frames = k.frames; run = k.run; callers = k.callers; claim = k.claim.0 }
  lives_by few n Started x k = record { sigs = k.sigs; frames = k.frames; run = k.run; callers = k.callers; claim = k.claim.0 }
  lives_by few n Ended x k = tt

  abbrev pub lives : (few : Few) (s : State) → BuiltState t (heads_of p) few [] s → LivesState t few s
  lives few s x = (record { sigs = x.0.sigs; frames = x.0.frames; run = x.0.run; callers = x.0.callers; env = env_less (ClaimsSlot t few (Built t (heads_of p) few)) (ClaimsSlot t few (Lives t few)) (λ n y k. lives_by few n y.links.stage y k) s.env x.0.env }, x.1.0)

  -- objects hold what is known where a scope opens
  objects : (s : State) (x : B s) → OthersHold t (heads_of p) any x.0.sigs s → ObjectsOpen t x.0.sigs s
  objects s x h c rest todo e = record {
    object = λ k i d. whole_built t (heads_of p) any x.0.sigs s.env.exec s.env.frames s.run.frame (variable s.env.exec s.run.frame k) i (OutwardsOrMade x.0.sigs (Outwards t any s.env.exec s.run.frame s.run.this s.callers c todo) s.env.exec s.run.frame s.run.this s.callers) (λ m f. each k i d m f (heads_of p i m) refl);
    array = λ k n i d. where_bound t any s.env.exec (OutwardsOrMade x.0.sigs (Outwards t any s.env.exec s.run.frame s.run.this s.callers c todo) s.env.exec s.run.frame s.run.this s.callers) (Frame s.env.exec s.run.frame) (frame_at s.run.frame s.env.frames) (variable s.env.exec s.run.frame k) (Row n (Obj i)) (h.arrays c rest todo e k n i d);
  }
    where
      each : (k i : ℕ) → CleansAt t (Obj i) (src.Variable k) c → (m : ℕ) → IsField t i m → (b : Bool) → heads_of p i m ≡ b → Holds t any s.env.exec (OutwardsOrMade x.0.sigs (Outwards t any s.env.exec s.run.frame s.run.this s.callers c todo) s.env.exec s.run.frame s.run.this s.callers) (Frame s.env.exec s.run.frame) (frame_at s.run.frame s.env.frames) (further (FieldAt (t.shape i) m) (variable s.env.exec s.run.frame k)) (t.fields i m)
      each k i d m f true q = law_kept.opens t (heads_of p) any s x c rest todo e k i d m f q
      each k i d m f false q = where_bound t any s.env.exec (OutwardsOrMade x.0.sigs (Outwards t any s.env.exec s.run.frame s.run.this s.callers c todo) s.env.exec s.run.frame s.run.this s.callers) (Frame s.env.exec s.run.frame) (frame_at s.run.frame s.env.frames) (further (FieldAt (t.shape i) m) (variable s.env.exec s.run.frame k)) (t.fields i m) (h.fields c rest todo e k i d m f q)

  -- so do all that are of what scopes open
  opens : (s : State) (x : B s) → StackState Z s → there.Opens source s → GoodBy Any s → OthersHold t (heads_of p) any x.0.sigs s → OpensBy t any (OutwardsOrMade x.0.sigs) s
  opens s x st o good h = at s.run.control refl
    where
      at : (l : List Todo) → s.run.control ≡ l → OpensAtBy t any (OutwardsOrMade x.0.sigs) l s
      at (piece.Rest (src.Scoped c rest) ∷ todo) e =
          subst (λ l. OpensAtBy t any (OutwardsOrMade x.0.sigs) l s) e (law_opens.opens t s (law_following.typed t any [] s (knows s x)) x.0.sigs c rest todo e (scope_there p accepted s st o good c rest todo e) (objects s x h c rest todo e))
      at l e = tt

  abbrev M : State → Type 0
  M s = MeetsBuilding t (heads_of p) source s

  module _ (within : IsWithinLimits p) (input : List ℕ) (opts : Options) (range : InRange opts) where
    follows : (j : Journal) (w : World) (r : Runs source input opts j w) → RunFits source input opts j w r → is_over j ≡ false → RunMeets M source input opts j w r → (n : ℕ) (s : State) (c : Comes source j w n s) → LeadsMeet M source (answered source c.given (drawn j w n)) s c.leads → M s → Follows any s
    follows j w r f on m n s c l h =
        let st : StackState Z s = (stacked.law_frame_runs p accepted input opts j w r).comes n s c in
        let good : GoodBy Any s = (value_runs.law_runs p accepted input opts range j w r f on (run_to source opts M (there.Opens source) input (λ j w r f on m n s c l h. h.opens) r f m)).comes n s c (lead_to source opts M (there.Opens source) j w n c.given c.processor c.runs c.told (λ s c l h. h.opens) runs.stays tt c.leads l) in (
          st,
          λ z.
              let y = h.finds z in
              (y.0, y.1.0, opens s y.0 st h.opens good y.1.1, fair p formed accepted any s (knows s y.0) (addresses.comes p within input opts j w r n s c) (sparing.comes p formed accepted input opts range j w r f on n s c) (called.comes p formed accepted input opts range j w r f on n s c)),
        )

    module _ (j : Journal) (w : World) (r : Runs source input opts j w) (f : RunFits source input opts j w r) (on : is_over j ≡ false) (m : RunMeets M source input opts j w r) where
      here : (n : ℕ) (s : State) (c : Comes source j w n s) → LeadsMeet M source (answered source c.given (drawn j w n)) s c.leads → B s
      here n s c l =
          built_from any input opts range j w r f on (by.run_known t any source Z laid known (λ s. Unit {0}) (λ w. Unit {0}) (S any) (P any) (Follows any) (nothing_beside t source (S any) (Follows any)) (keeps any) input opts range r f (run_to source opts M (Follows any) input follows r f m) on (record { objects = λ c n l. refl; raws = λ c n l. refl; clusters = λ n l. refl; processors = λ n l. refl }) (main_numbered t (λ a o. true) (t.routine source.main).this 0 (λ c. refl))) n s c (lead_to source opts M (Follows any) j w n c.given c.processor c.runs c.told (follows j w r f on m n) runs.stays tt c.leads l)

      met : (n : ℕ) (s : State) (c : Comes source j w n s) → LeadsMeet M source (answered source c.given (drawn j w n)) s c.leads → M s → MeetsObjects t source s
      met n s c l h = record {
        opens = h.opens;
        finds = λ z.
            let y = h.finds (here n s c l) in
            (lives any s y.0, (y.1.0, objects s y.0 y.1.1));
      }

      led : (n : ℕ) (s : State) (c : Comes source j w n s) → LeadsMeet M source (answered source c.given (drawn j w n)) s c.leads → LeadsMeet (MeetsObjects t source) source (answered source c.given (drawn j w n)) s c.leads
      led n s c l = lead_to source opts M (MeetsObjects t source) j w n c.given c.processor c.runs c.told (met n) runs.stays tt c.leads l

    ran : {j : Journal} {w : World} (r : Runs source input opts j w) → RunFits source input opts j w r → RunMeets M source input opts j w r → RunMeets (MeetsObjects t source) source input opts j w r
    ran r f m = run_to source opts M (MeetsObjects t source) input (λ j w r f on m n s c l h. met j w r f on m n s c l h) r f m

pub law_built : LawBuilt
law_built = record {
  comes = λ p formed accepted within input opts range j w r f on m n s c l. here p formed accepted within input opts range j w r f on m n s c l;
  runs = λ p formed accepted within input opts range j w r f m. ran p formed accepted within input opts range r f m;
  leads = λ p formed accepted within input opts range j w r f on m n s c l. led p formed accepted within input opts range j w r f on m n s c l;
  here = λ p formed accepted within input opts range j w r f on m n s c l h. met p formed accepted within input opts range j w r f on m n s c l h;
}
