-- Step by step nothing else is owed to what is let go of, where nobody else has it at hand.
use Rattle.std.proofs.Common.{◌≡◌, ℕ, true, false, List, [], subst, ap, ◌∙◌}
use Rattle.uc_tree.specs.Programs.{Program}
use Rattle.uc_entry.specs.declared.entry.Options.{Options}
use Rattle.uc_entry.specs.declared.request.Asked.{Asked}
use Rattle.uc_acts.specs.Journal.{Journal, own_object, is_over}
use Rattle.uc_acts.specs.Serves.{left}
use Rattle.uc_acts.specs.KernelRuns.{InRange}
use Rattle.uc_machine.specs.declared.exec.Home.{Home}
use Rattle.uc_machine.specs.declared.exec.Home.TheVariants.{Object}
use Rattle.uc_machine.specs.Quiet.{State, quiet}
use Rattle.uc_machine.specs.Answering.{answered}
use Rattle.uc_machine.specs.Rides.{Rides, slices, goes_on, ticks, asks}
use Rattle.uc_resolve.specs.Resolve.{source_of}
use Rattle.uc_rules.specs.Breaks.{breaks_of}
use Rattle.uc_meaning.specs.Runs.{World, Runs, AsksIn, gives, no_room, acts, begun, more, drawn}
use Rattle.uc_state_laws.specs.Fitting.{RunFits}
use Rattle.uc_state_laws.proofs.Others.{run_rests}
use Rattle.uc_state_laws.proofs.DeepWorlds.{deep_run}
use Rattle.uc_state_laws.specs.RoomRuns as way
use Rattle.uc_state_laws.specs.RoomRuns.{Leads}
use Rattle.uc_state_laws.specs.Opens.{RideMeets, RunMeets, LeadsMeet}
use Rattle.uc_sound.specs.SoundFormed.{IsFormed}
use Rattle.uc_sound.specs.Tables.{table_of}
use Rattle.uc_life_laws.specs.Things.{Few}
use Rattle.uc_life_laws.specs.Knowing.{KnowsState}
use Rattle.uc_life_laws.specs.KnownAnswers.{MainPasses}
use Rattle.uc_life_laws.specs.KnownRuns.{PassesBelow, Meets, AllIsKnown}
use Rattle.uc_life_laws.proofs.KnownWorlds.{earlier, law_known_runs}
use Rattle.uc_depth_laws.specs.Entering.{Aspect, Other, EnteredSource}
use Rattle.uc_depth_laws.specs.Owing.{Tests, Alone, Deep, DeepStep}
use Rattle.uc_depth_laws.proofs.Answers.{law_steps}
use Rattle.uc_depth_laws.proofs.Standing.{law_free, law_drawn}
use Rattle.uc_inner_laws.specs.Inner.{InnerSource}
use Rattle.uc_inner_laws.specs.Standing.{StandsState, StandsStep}
use Rattle.uc_inner_laws.proofs.Walk.{law_steps as inner_steps, law_fair}
use Rattle.uc_sound.proofs.Routines.{law_entered}
use Rattle.uc_source_laws.specs.SourceLaws.{part_of}
use Rattle.uc_source_laws.proofs.InnerSources.{law_inner}
use Rattle.uc_letting_laws.specs.AloneRuns.{RideAlone, RunAlone}
use Rattle.uc_letting_laws.proofs.NewObjects.{told_for, own_not_told, told_other, told_away}
use Rattle.uc_letting_laws.proofs.StandingWorlds.{standing_start}
use Rattle.uc_letting_laws.proofs.LettingWorlds.{both_run, sole, start, tells}
use Rattle.uc_life_laws.proofs.Aparts.{law_apart}
use Rattle.uc_request_laws.specs.ApartRuns.{StepApart, LawApartRuns}

module _ (p : Program) (formed : IsFormed p) (ok : breaks_of p ≡ []) (few : Few) where
  entered : EnteredSource (source_of p)
  entered = law_entered p formed ok

  inner : InnerSource (part_of p) (source_of p)
  inner = (law_inner p formed ok).source

  module _ (own : ℕ) (news : Tests) (mine : (h : Home) (k : Aspect) → news h k own ≡ false) (other : (h : Home) (q : ℕ) → (own ≡ q → ⊥) → (h ≡ Object q → ⊥) → news h Other q ≡ true) (away : (h : Home) (k : Aspect) (q : ℕ) → news h k q ≡ true → h ≡ Object q → ⊥) where
    here : (s : State) → KnowsState (table_of p) few [] s → StepApart (table_of p) few (source_of p) s → Deep (source_of p) news s → StandsState (part_of p) (source_of p) own s → Alone (source_of p) s
    here s k h d v = law_apart (table_of p) few (source_of p) news s (λ i. ap (news s.env.exec.home i) v.own ∙ mine s.env.exec.home i) k d (h k)

    deeper : (s : State) → Alone (source_of p) s → Deep (source_of p) news s → StandsState (part_of p) (source_of p) own s → DeepStep (source_of p) news s (quiet (source_of p) s)
    deeper s a d v =
        law_steps.steps (source_of p) entered news s (tells (part_of p) (source_of p) entered inner law_steps own news mine other away s v) d (law_fair (part_of p) (source_of p) own s v (sole (part_of p) (source_of p) entered inner law_steps own news mine other away s a d v))

    stands : (s : State) → StandsState (part_of p) (source_of p) own s → StandsStep (part_of p) (source_of p) own s (quiet (source_of p) s)
    stands s v = inner_steps.steps (part_of p) (source_of p) inner own s v

    ride_alone : {s u : State} {q k : ℕ} {a : Asked} (r : Rides (source_of p) s q u k a) → RideMeets (Meets (table_of p) few) (source_of p) s q u k a r → RideMeets (StepApart (table_of p) few (source_of p)) (source_of p) s q u k a r → ((v : State) (l : Leads (source_of p) s v) → LeadsMeet (Meets (table_of p) few) (source_of p) s v l → KnowsState (table_of p) few [] v) → Deep (source_of p) news s → StandsState (part_of p) (source_of p) own s → RideAlone (source_of p) s q u k a r
    ride_alone slices m h known d v = tt
    ride_alone (goes_on {s} e r) m h known d v =
        let a = here s (known s way.stays tt) h.0 d v in
        (a, ride_alone r m.1 h.1 (λ x l y. known x (way.goes e l) (m.0, y)) (subst (DeepStep (source_of p) news s) e (deeper s a d v)) (subst (StandsStep (part_of p) (source_of p) own s) e (stands s v)))
    ride_alone (ticks {s} e r) m h known d v =
        let a = here s (known s way.stays tt) h.0 d v in
        (a, ride_alone r m.1 h.1 (λ x l y. known x (way.ticks e l) (m.0, y)) (subst (DeepStep (source_of p) news s) e (deeper s a d v)) (subst (StandsStep (part_of p) (source_of p) own s) e (stands s v)))
    ride_alone (asks {s} e) m h known d v = here s (known s way.stays tt) h d v

  module _ (input : List ℕ) (opts : Options) (range : InRange opts) (first : MainPasses (table_of p) few ((table_of p).routine (source_of p).main).this 0) where
    along : {j : Journal} {w : World} (r : Runs (source_of p) input opts j w) → RunFits (source_of p) input opts j w r → is_over j ≡ false → PassesBelow few opts j → RunMeets (Meets (table_of p) few) (source_of p) input opts j w r → RunAlone (source_of p) input opts j w r → (q t n : ℕ) (s : State) (asked : Asked) (d : AsksIn (source_of p) opts j w q t n s asked) → RideMeets (Meets (table_of p) few) (source_of p) (answered (source_of p) d.given (drawn j w t)) (left opts j t) s n asked d.rides → RideMeets (StepApart (table_of p) few (source_of p)) (source_of p) (answered (source_of p) d.given (drawn j w t)) (left opts j t) s n asked d.rides → RideAlone (source_of p) (answered (source_of p) d.given (drawn j w t)) (left opts j t) s n asked d.rides
    along {j} {w} r f on below met alone q t n s asked d m h =
        let rests = run_rests (source_of p) input opts range r f on in
        let deeps = deep_run (source_of p) input opts range r f on in
        let x = both_run (part_of p) (source_of p) entered inner law_steps law_free law_drawn input opts range r f alone on in
        let all : AllIsKnown (table_of p) few (source_of p) j w = law_known_runs p formed ok few input opts range j w r f on below first met in
        let deep : Deep (source_of p) (told_for t j) (answered (source_of p) d.given (drawn j w t)) = start (part_of p) (source_of p) entered inner law_steps law_free law_drawn input opts range rests on deeps x.owing x.standing q t n s asked d in
        let stood : StandsState (part_of p) (source_of p) (own_object t j) (answered (source_of p) d.given (drawn j w t)) = standing_start (part_of p) (source_of p) inner entered.ends input opts range rests on deeps x.standing q t n s asked d in
        ride_alone (own_object t j) (told_for t j) (own_not_told t j) (told_other t j) (told_away t j) d.rides m h (λ v l y. all.comes t v (record { given = d.given; processor = q; runs = d.runs; told = d.told; leads = l }) y) deep stood

    run_alone : {j : Journal} {w : World} (r : Runs (source_of p) input opts j w) → RunFits (source_of p) input opts j w r → PassesBelow few opts j → RunMeets (Meets (table_of p) few) (source_of p) input opts j w r → RunMeets (StepApart (table_of p) few (source_of p)) (source_of p) input opts j w r → RunAlone (source_of p) input opts j w r
    run_alone begun f below m h = tt
    run_alone (more {j} {w} {a} r o (gives q t s le)) f below m h = (run_alone r f.0 (earlier few opts j a below) m.0 h.0, tt)
    run_alone (more {j} {w} {a} r o (no_room q t s le)) f below m h = (run_alone r f.0 (earlier few opts j a below) m.0 h.0, tt)
    run_alone (more {j} {w} {a} r o (acts q t n s asked d)) f below m h =
        let before = earlier few opts j a below in
        let alone = run_alone r f.0 before m.0 h.0 in
        (alone, along r f.0 o before m.0 alone q t n s asked d m.1 h.1)

pub law_apart_runs : LawApartRuns
law_apart_runs = record {
  runs = λ p formed ok few input opts range j w r fits below first met apart. run_alone p formed ok few input opts range first r fits below met apart;
  rides = λ p formed ok few input opts range j w r fits on below first met apart q t n s asked d m h.
      along p formed ok few input opts range first r fits on below met (run_alone p formed ok few input opts range first r fits below met apart) q t n s asked d m h;
}
