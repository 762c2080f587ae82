-- What is being built or destroyed lies elsewhere or is waited for, in runs, by the kinds of frames.
use Rattle.std.proofs.Common.{◌≡◌, ℕ, inl, inr, Bool, List, [], ◌∷◌, Option, Some, None, refl, sym, subst}
use Rattle.std.specs.Prelude.{slice_get}
use Rattle.uc_tree.specs.Source.{Source, Routine}
use Rattle.uc_machine.specs.declared.exec.Exec.{Exec}
use Rattle.uc_machine.specs.declared.exec.Home.{Home}
use Rattle.uc_machine.specs.declared.exec.Home.TheVariants as home
use Rattle.uc_machine.specs.declared.exec.Stage.{Stage}
use Rattle.uc_machine.specs.declared.exec.Stage.TheVariants.{Fresh, Started, Ended}
use Rattle.uc_machine.specs.Switches.{stopped}
use Rattle.uc_machine.specs.Pieces.{Value, Object, Env}
use Rattle.uc_machine.specs.Quiet.{State, Members, fresh}
use Rattle.uc_machine.specs.Answering.{answered, child_main, with_operand, entered}
use Rattle.uc_meaning.specs.Runs.{drawn}
use Rattle.uc_state_laws.specs.Layout.{Sized}
use Rattle.uc_state_laws.specs.Rooms.{SourceIn}
use Rattle.uc_state_laws.specs.RoomRuns.{Comes}
use Rattle.uc_state_laws.specs.Opens.{LeadsMeet}
use Rattle.uc_state_laws.proofs.Others.{run_rests}
use Rattle.uc_state_laws.proofs.StackWorlds as stacked
use Rattle.uc_state_laws.proofs.Unreferring.{law_accepted}
use Rattle.uc_resolve.specs.Resolve.{source_of}
use Rattle.uc_typing.specs.Typing.{Ty, Sig, Table}
use Rattle.uc_typing.specs.States.{Sound, IsTask}
use Rattle.uc_sound.specs.Sounds.{of_program}
use Rattle.uc_sound.specs.Tables.{table_of}
use Rattle.uc_sound.proofs.MainLemmas.{law_mains}
use Rattle.uc_sound.proofs.SoundLemmas.{law_sound}
use Rattle.uc_life_laws.specs.Things.{Few, Known}
use Rattle.uc_life_laws.specs.LifeStates.{SlotBy, ParkedBy, HandBy, MembersBy, EnvBy, LifeState}
use Rattle.uc_life_laws.specs.LifeRuns.{IsLaidOut}
use Rattle.uc_life_laws.specs.Knowing.{AtHand, ClaimsBy, ClaimsEx, ClaimsSlot, ClaimsState, KnowsBy, KnowsEx, KnowsSlot, KnowsState, main_of}
use Rattle.uc_life_laws.specs.Kinds.{Claimed}
use Rattle.uc_life_laws.specs.Makings.{Makings}
use Rattle.uc_life_laws.specs.MakingsRuns.{MeetsMaking, KnowsElsewhere, LawMakingsRuns}
use Rattle.uc_life_laws.proofs.Parked.{Ex}
use Rattle.uc_life_laws.proofs.KnownAnswers as answers
use Rattle.uc_life_laws.proofs.KindsLemmas.{plain}
use Rattle.uc_life_laws.proofs.Laying.{laid_out}
use Rattle.uc_life_laws.proofs.LifeWorlds.{LifeWorld, stack_told}
use Rattle.uc_life_laws.proofs.MakingsLemmas.{making_kept, law_makings}
use Rattle.uc_life_laws.proofs.WorldsBy as by
use Rattle.uc_life_laws.proofs.WorldsBy.{Beside, KeepsBy}

module _ (t : Table) (ends : ℕ → Bool) (few : Few) (source : Source) (sound : Sound t source) (main : IsTask t source.main) where
  abbrev S : List Ty → State → Type 0
  S given s = Claimed (Makings t ends) t few given s

  abbrev P : Exec → Ex → Type 0
  P n x = ClaimsSlot t few (Makings t ends) n x

  operand : (a : Ty) (given : List Ty) (v : Value) (s : State) → S (a ∷ given) s → ((gs : List Sig) → Known t few s.env.exec (AtHand t few s.env.exec gs (s.run ∷ s.callers)) a v) → S given (with_operand v s)
  operand a given v s x i =
      let y = answers.brought_claims t few (Makings t ends) a given v s x.0 i in
      (y.0, subst (λ gs. Makings t ends s.env.exec gs (stopped (with_operand v s))) (sym y.1) x.1)

  member : (given : List Ty) (m : Option Members) (o : ℕ) (s : State) → MembersBy P (home.Object o) m → S given s → S given (entered m o s)
  member given None o s k x = x
  member given (Some m) o s k x =
      let y = answers.entered_claims t few (Makings t ends) given (Some m) o s k x.0 in
      (y.0, subst (λ gs. Makings t ends s.env.exec gs (stopped (entered (Some m) o s))) (sym y.1) x.1)

  -- a mutex object lies in no frame
  fresh_made : (r : ℕ) (x : Routine) (n : ℕ) → slice_get source.routines r ≡ Some x → IsTask t r → Makings t ends (main_of n) (t.routine r ∷ []) (fresh x (Object n))
  fresh_made r x n e h = (λ g at whole c of. inl (inl (inr refl)), tt)

  keeps : KeepsBy t few source (LifeState t few) S P (MeetsMaking t ends few source)
  keeps = record {
    hand = λ given s x. x.0.env.hand;
    handed = λ given hand s x h. (record { sigs = x.0.sigs; frames = x.0.frames; run = x.0.run; callers = x.0.callers; env = record { house = x.0.env.house; hand = h } }, x.1);
    told = λ q a s x h p. answers.told t few S P operand member source q a s x h p;
    spawned = λ o n s x p. answers.begins t few (Makings t ends) (making_kept t ends) source sound fresh_made (child_main source s.run.control) n x.0 p;
    begins = λ p. answers.begins t few (Makings t ends) (making_kept t ends) source sound fresh_made source.main 0 main p;
    steps = λ s clear m st x. let y = m st x in law_makings.steps t ends few source sound s st y.1.0.0 y.1.0.1 y.1.1 y.2;
  }

pub law_makings_runs : LawMakingsRuns
law_makings_runs p formed accepted ends few input opts range j w r fits on below first meets = record {
  comes = λ n s c l. all s (there n s c l).known;
  scopes = λ n s c l. (there n s c l).life;
}
  where
    t : Table
    t = table_of p

    source : Source
    source = source_of p

    Z : ℕ → ℕ → Type 0
    Z = Sized p

    sound : Sound t source
    sound = law_sound p formed accepted

    main : IsTask t source.main
    main = law_mains p formed accepted source.main (of_program refl)

    laid : IsLaidOut Z t
    laid = laid_out p formed accepted

    known : SourceIn Z source
    known = law_accepted p accepted

    k : KeepsBy t few source (LifeState t few) (Claimed (Makings t ends) t few) (ClaimsSlot t few (Makings t ends)) (MeetsMaking t ends few source)
    k = keeps t ends few source sound main

    beside : Beside t source (LifeState t few) (LifeWorld t few) (Claimed (Makings t ends) t few) (MeetsMaking t ends few source)
    beside = by.life_beside t few source Z laid known (Claimed (Makings t ends) t few) (MeetsMaking t ends few source) (λ s m st x. (m st x).0)

    h : by.KnownWorld t few source Z laid known (LifeState t few) (LifeWorld t few) (Claimed (Makings t ends) t few) (ClaimsSlot t few (Makings t ends)) (MeetsMaking t ends few source) beside k j w
    h = by.run_known t few source Z laid known (LifeState t few) (LifeWorld t few) (Claimed (Makings t ends) t few) (ClaimsSlot t few (Makings t ends)) (MeetsMaking t ends few source) beside k input opts range r fits meets on below first

    there : (n : ℕ) (s : State) (c : Comes source j w n s) → LeadsMeet (MeetsMaking t ends few source) source (answered source c.given (drawn j w n)) s c.leads → by.There t few source Z laid known (LifeState t few) (LifeWorld t few) (Claimed (Makings t ends) t few) (ClaimsSlot t few (Makings t ends)) (MeetsMaking t ends few source) beside k s
    there n s c l =
        by.led t few source Z laid known (LifeState t few) (LifeWorld t few) (Claimed (Makings t ends) t few) (ClaimsSlot t few (Makings t ends)) (MeetsMaking t ends few source) beside k c.leads l (stack_told t few Z laid source known c.given j w n (stacked.world_rests Z source known input opts r)) (by.starts t few source Z laid known (LifeState t few) (LifeWorld t few) (Claimed (Makings t ends) t few) (ClaimsSlot t few (Makings t ends)) (MeetsMaking t ends few source) beside k input opts range (run_rests source input opts range r fits on).kernel on h c.processor n c.given c.runs c.told)

    all : (s : State) → Claimed (Makings t ends) t few [] s → KnowsElsewhere t ends few s
    all s x = record { knows = plain t few (Makings t ends) [] s x.0; elsewhere = λ v c m. law_makings.elsewhere t ends s.env.exec x.0.sigs (s.run ∷ s.callers) x.1 v c m }
