-- In every run in which each step finds what it is to find, all is known that each execution can come by.
use Rattle.std.proofs.Common.{◌≡◌, ℕ, ◌<◌, inl, Bool, true, false, List, [], ◌∷◌, Option, Some, None, refl, sym, subst}
use Rattle.std.specs.Prelude.{slice_get}
use Rattle.std.proofs.lemmas.Bool.{lt-ltb, ltb-true}
use Rattle.uc_tree.specs.Source.{Source, Routine}
use Rattle.uc_entry.specs.declared.entry.Options.{Options}
use Rattle.uc_entry.specs.declared.request.Request.{Request}
use Rattle.uc_entry.specs.declared.request.Request.TheVariants as ask
use Rattle.uc_acts.specs.Journal.{Journal}
use Rattle.uc_acts.specs.Known.{object_count}
use Rattle.uc_acts.specs.Queues.{cluster_count, processor_count}
use Rattle.uc_machine.specs.declared.exec.Exec.{Exec}
use Rattle.uc_machine.specs.declared.exec.Home.TheVariants as home
use Rattle.uc_machine.specs.Switches.{stopped}
use Rattle.uc_machine.specs.Pieces.{Value, Object}
use Rattle.uc_machine.specs.Quiet.{State, Members, fresh, quiet}
use Rattle.uc_machine.specs.Answering.{answered, child_main, with_operand, entered}
use Rattle.uc_meaning.specs.Runs.{World, drawn}
use Rattle.uc_state_laws.proofs.Others.{run_rests}
use Rattle.uc_resolve.specs.Resolve.{source_of}
use Rattle.uc_state_laws.specs.Layout.{Sized}
use Rattle.uc_state_laws.specs.Rooms.{SourceIn}
use Rattle.uc_state_laws.specs.RoomRuns.{Comes}
use Rattle.uc_state_laws.proofs.StackWorlds as stacked
use Rattle.uc_state_laws.proofs.Unreferring.{law_accepted}
use Rattle.uc_state_laws.specs.Opens.{LeadsMeet}
use Rattle.uc_typing.specs.Typing.{Ty, Obj, Sig, Table, object_ty}
use Rattle.uc_typing.specs.States.{Sound, IsTask}
use Rattle.uc_sound.specs.Sounds.{of_program}
use Rattle.uc_sound.specs.Tables.{table_of}
use Rattle.uc_sound.proofs.MainLemmas.{law_mains}
use Rattle.uc_sound.proofs.SoundLemmas.{law_sound}
use Rattle.uc_life_laws.specs.LifeStates.{MembersBy, EnvBy}
use Rattle.uc_life_laws.specs.LifeRuns.{IsLaidOut}
use Rattle.uc_life_laws.specs.Kinds.{Claimed}
use Rattle.uc_life_laws.specs.Lives.{OutwardsOrMade, Lives}
use Rattle.uc_life_laws.specs.Knowing.{AtHand, ClaimsSlot, KnowsEnv, KnowsState, StepBy, Names, main_of}
use Rattle.uc_life_laws.specs.KnownAnswers.{MainPasses}
use Rattle.uc_life_laws.specs.KnownRuns.{PassesBelow, Meets, RestBy, KnowsRest, LawKnownRuns, is_made, NamesMade, LawNamed, made_by}
use Rattle.uc_life_laws.proofs.Parked.{Ex}
use Rattle.uc_life_laws.proofs.KnownAnswers as answers
use Rattle.uc_life_laws.proofs.KindsLemmas.{asked_more, env_plain, members_plain, plain}
use Rattle.uc_life_laws.proofs.LifeSteps.{life_kept}
use Rattle.uc_life_laws.proofs.LivesLemmas.{lives_kept, all_there, law_lives}
use Rattle.uc_life_laws.proofs.WorldsBy as by
use Rattle.uc_life_laws.proofs.WorldsBy.{Beside, KeepsBy}
pub use Rattle.uc_life_laws.proofs.WorldsBy.{earlier}
use Rattle.uc_life_laws.proofs.Laying.{laid_out}
use Rattle.uc_life_laws.proofs.LifeWorlds.{stack_told, stack_led}
use Rattle.uc_life_laws.proofs.NewNumbers.{some_object}
use Rattle.uc_life_laws.specs.Things.{Few, Known, numbered, lies, itself}

-- nothing stands beside what is known
pub nothing_beside : (t : Table) (source : Source) (S : List Ty → State → Type 0) (M : State → Type 0) → Beside t source (λ s. Unit {0}) (λ w. Unit {0}) S M
nothing_beside t source S M = record { steps = λ s clear m l x. all_there (quiet source s); acted = λ w a n s l k. tt; begun = tt; told = λ given j w n l. tt }

-- all that is known

module _ (t : Table) (few : Few) where
  abbrev pub S : List Ty → State → Type 0
  S given s = Claimed (Lives t few) t few given s

  abbrev pub P : Exec → Ex → Type 0
  P n x = ClaimsSlot t few (Lives t few) n x

  operand : (a : Ty) (given : List Ty) (v : Value) (s : State) → S (a ∷ given) s → ((gs : List Sig) → Known t few s.env.exec (AtHand t few s.env.exec gs (s.run ∷ s.callers)) a v) → S given (with_operand v s)
  operand a given v s x i =
      let y = answers.brought_claims t few (Lives t few) a given v s x.0 i in
      (y.0, subst (λ gs. Lives t few s.env.exec gs (stopped (with_operand v s))) (sym y.1) (record { frames = x.1.frames; stack = (x.1.stack.0, x.1.stack.1, x.1.stack.2) }))

  member : (given : List Ty) (m : Option Members) (o : ℕ) (s : State) → MembersBy P (home.Object o) m → S given s → S given (entered m o s)
  member given None o s k x = x
  member given (Some m) o s k x =
      let y = answers.entered_claims t few (Lives t few) given (Some m) o s k x.0 in
      (y.0, subst (λ gs. Lives t few s.env.exec gs (stopped (entered (Some m) o s))) (sym y.1) x.1)

  -- what is claimed of a task at rest is forgotten
  pub rest_plain : (source : Source) (j : Journal) (n : ℕ) (s : State) → RestBy t few S (EnvBy P) source j n s → KnowsRest t few source j n s
  rest_plain source j n s h = record {
    request = h.request;
    asked = asked_more t few source S (KnowsState t few) (EnvBy P) (KnowsEnv t few) (λ e k. env_plain t few (Lives t few) e k) s (λ given k. plain t few (Lives t few) given s k.0) h.request h.asked;
    asks_for = h.asks_for;
    no_end = h.no_end;
    no_fault = h.no_fault;
    told = h.told;
  }

  module _ (source : Source) (sound : Sound t source) (main : IsTask t source.main) where
    fresh_lives : (r : ℕ) (x : Routine) (n : ℕ) → slice_get source.routines r ≡ Some x → IsTask t r → Lives t few (main_of n) (t.routine r ∷ []) (fresh x (Object n))
    fresh_lives r x n e h = (life_kept t few (OutwardsOrMade (t.routine r ∷ []))).begins (main_of n) x (Object n)

    pub keeps_known : KeepsBy t few source (λ s. Unit {0}) S P (Meets t few)
    keeps_known = record {
      hand = λ given s x. x.0.env.hand;
      handed = λ given hand s x h. (record { sigs = x.0.sigs; frames = x.0.frames; run = x.0.run; callers = x.0.callers; env = record { house = x.0.env.house; hand = h } }, x.1);
      told = λ q a s x h p. answers.told t few S P operand member source q a s x h p;
      spawned = λ o n s x p. answers.begins t few (Lives t few) (lives_kept t few) source sound fresh_lives (child_main source s.run.control) n x.0 p;
      begins = λ p. answers.begins t few (Lives t few) (lives_kept t few) source sound fresh_lives source.main 0 main p;
      steps = λ s clear m l x. let y = m x in law_lives.steps t few source sound s y.0 y.1 clear;
    }

pub law_known_runs : LawKnownRuns
law_known_runs p formed accepted few input opts range j w r fits on below first meets = record {
  tasks = λ n e. rest_plain t few source j n (w.tasks n) (h.tasks n e);
  homes = λ o. members_plain t few (Lives t few) (home.Object o) (w.homes o) (h.homes o);
  comes = λ n s c l. plain t few (Lives t few) [] s (there n s c l).known.0;
  lives = λ n s c l. (there n s c l).known;
  names = λ n s c l m q u e. (subst (StepBy t few (S t few) (EnvBy (P t few)) source) e (by.knows_to t few source Z laid known (λ s. Unit {0}) (λ w. Unit {0}) (S t few) (P t few) (Meets t few) (nothing_beside t source (S t few) (Meets t few)) (keeps_known t few source sound main) s (stack_led t few Z laid source known c.leads (stack_told t few Z laid source known c.given j w n (stacked.world_rests Z source known input opts r))) m (there n s c l))).0;
}
  where
    t : Table
    t = table_of p

    source : Source
    source = source_of p

    Z : ℕ → ℕ → Type 0
    Z = Sized p

    sound : Sound t source
    sound = law_sound p formed accepted

    main : IsTask t source.main
    main = law_mains p formed accepted source.main (of_program refl)

    laid : IsLaidOut Z t
    laid = laid_out p formed accepted

    known : SourceIn Z source
    known = law_accepted p accepted

    h : by.KnownWorld t few source Z laid known (λ s. Unit {0}) (λ w. Unit {0}) (S t few) (P t few) (Meets t few) (nothing_beside t source (S t few) (Meets t few)) (keeps_known t few source sound main) j w
    h = by.run_known t few source Z laid known (λ s. Unit {0}) (λ w. Unit {0}) (S t few) (P t few) (Meets t few) (nothing_beside t source (S t few) (Meets t few)) (keeps_known t few source sound main) input opts range r fits meets on below first

    there : (n : ℕ) (s : State) (c : Comes source j w n s) → LeadsMeet (Meets t few) source (answered source c.given (drawn j w n)) s c.leads → by.There t few source Z laid known (λ s. Unit {0}) (λ w. Unit {0}) (S t few) (P t few) (Meets t few) (nothing_beside t source (S t few) (Meets t few)) (keeps_known t few source sound main) s
    there n s c l =
        by.led t few source Z laid known (λ s. Unit {0}) (λ w. Unit {0}) (S t few) (P t few) (Meets t few) (nothing_beside t source (S t few) (Meets t few)) (keeps_known t few source sound main) c.leads l (stack_told t few Z laid source known c.given j w n (stacked.world_rests Z source known input opts r)) (by.starts t few source Z laid known (λ s. Unit {0}) (λ w. Unit {0}) (S t few) (P t few) (Meets t few) (nothing_beside t source (S t few) (Meets t few)) (keeps_known t few source sound main) input opts range (run_rests source input opts range r fits on).kernel on h c.processor n c.given c.runs c.told)

-- where numbers alone are told, each task has its object at hand
pub main_numbered : (t : Table) (numbers : Ty → ℕ → Bool) (c : Option ℕ) (o : ℕ) → ((c : ℕ) → numbers (Obj c) o ≡ true) → MainPasses t (numbered numbers) c o
main_numbered t numbers None o f = tt
main_numbered t numbers (Some c) o f = (f c, f c, inl (lies refl itself))

-- numbers that were made

pub all_made : (opts : Options) (j : Journal) → PassesBelow (is_made opts j) opts j
all_made opts j = record {
  objects = λ c n l. lt-ltb n (object_count j) l;
  raws = λ c n l. lt-ltb n (object_count j) l;
  clusters = λ n l. lt-ltb n (cluster_count j) l;
  processors = λ n l. lt-ltb n (processor_count opts j) l;
}

module _ (t : Table) (opts : Options) (j : Journal) where
  called : (c : ℕ) (b : Bool) (o : ℕ) → (is_made opts j).numbers (object_ty b c) o ≡ true → o < object_count j
  called c true o h = ltb-true o (object_count j) h
  called c false o h = ltb-true o (object_count j) h

  names_made : (r : Request) → Names t (is_made opts j) r → NamesMade opts j r
  names_made (ask.Call o m) h = called h.0 h.1 o h.2
  names_made (ask.Raise o m x y) h = ltb-true o (object_count j) h.1
  names_made (ask.ClusterEnd c) h = ltb-true c (cluster_count j) h
  names_made (ask.Processor c) h = ltb-true c (cluster_count j) h
  names_made (ask.ProcessorEnd q) h = ltb-true q (processor_count opts j) h
  names_made (ask.Migrate c) h = ltb-true c (cluster_count j) h
  names_made r h = tt

pub law_named : LawNamed
law_named p formed accepted input opts range j w r fits on meets n s c l m q u e =
    names_made (table_of p) opts j q ((law_known_runs p formed accepted (is_made opts j) input opts range j w r fits on (all_made opts j) (main_numbered (table_of p) (made_by opts j) ((table_of p).routine (source_of p).main).this 0 (λ c. lt-ltb 0 (object_count j) (some_object j))) meets).names n s c l m q u e)
