-- In runs in which nobody has at hand what has gone, what constructors have bound is not gone.
use Rattle.std.proofs.Common.{◌≡◌, ℕ, false, List, []}
use Rattle.uc_tree.specs.Programs.{Program}
use Rattle.uc_tree.specs.Source.{Source}
use Rattle.uc_entry.specs.declared.entry.Options.{Options}
use Rattle.uc_acts.specs.Journal.{Journal, is_over}
use Rattle.uc_acts.specs.KernelRuns.{InRange}
use Rattle.uc_machine.specs.Quiet.{State}
use Rattle.uc_machine.specs.Answering.{answered}
use Rattle.uc_meaning.specs.Runs.{World, Runs, drawn, gives, no_room, acts, begun, more}
use Rattle.uc_resolve.specs.Resolve.{source_of}
use Rattle.uc_rules.specs.Breaks.{breaks_of}
use Rattle.uc_state_laws.specs.Fitting.{RunFits}
use Rattle.uc_state_laws.specs.Layout.{Sized}
use Rattle.uc_state_laws.specs.RoomStacks.{StackState}
use Rattle.uc_state_laws.specs.RoomRuns as runs
use Rattle.uc_state_laws.specs.RoomRuns.{Comes}
use Rattle.uc_state_laws.specs.Opens.{LeadsMeet}
use Rattle.uc_state_laws.proofs.StackWorlds as stacked
use Rattle.uc_typing.specs.Typing.{Table}
use Rattle.uc_sound.specs.SoundFormed.{IsFormed}
use Rattle.uc_sound.specs.Tables.{table_of}
use Rattle.uc_life_laws.specs.Things.{Few}
use Rattle.uc_life_laws.specs.KnownAnswers.{MainPasses}
use Rattle.uc_life_laws.specs.KnownRuns.{PassesBelow}
use Rattle.uc_life_laws.specs.Lasting.{lasting, RunForgets, RunMeetsAt}
use Rattle.uc_life_laws.proofs.Lasting.{LastingWorld, run_lasting}
use Rattle.uc_building_laws.specs.Building.{heads_of}
use Rattle.uc_building_laws.specs.BuildingStates.{BuiltState}
use Rattle.uc_building_laws.specs.BuiltLasting.{FindsBuilt, LawBuiltLasting}
use Rattle.uc_building_laws.proofs.Fewer.{slot_built, state_built}
use Rattle.uc_building_laws.proofs.Worlds.{ride_to, lead_to, S, P, Z, laid, known, Follows, keeps, built_from}

module _ (p : Program) (formed : IsFormed p) (accepted : breaks_of p ≡ []) (few : Few) (input : List ℕ) (opts : Options) (range : InRange opts) where
  abbrev source : Source
  source = source_of p

  abbrev t : Table
  t = table_of p

  abbrev M : Journal → State → Type 0
  M i s = FindsBuilt p (lasting few i) s

  abbrev N : Journal → State → Type 0
  N i s = Follows p formed accepted (lasting few i) s

  -- with how activations use frames
  stack : (j : Journal) (w : World) (r : Runs source input opts j w) (n : ℕ) (s : State) → Comes source j w n s → StackState (Sized p) s
  stack j w r n s c = (stacked.law_frame_runs p accepted input opts j w r).comes n s c

  ran : {j : Journal} {w : World} (r : Runs source input opts j w) → RunMeetsAt M source input opts j w r → RunMeetsAt N source input opts j w r
  ran begun h = tt
  ran (more r on (gives q n s le)) h = (ran r h.0, tt)
  ran (more r on (no_room q n s le)) h = (ran r h.0, tt)
  ran (more {j} {w} r on (acts q n k s asked d)) h =
      (ran r h.0, ride_to source opts (M j) (N j) j w n d.given q d.runs d.told (λ v c m x. (stack j w r n v c, x)) runs.stays tt d.rides h.1)

  module _ (j : Journal) (w : World) (r : Runs source input opts j w) (f : RunFits source input opts j w r) (on : is_over j ≡ false) (below : PassesBelow few opts j) (first : MainPasses t few (t.routine source.main).this 0) (m : RunMeetsAt M source input opts j w r) (forgets : RunForgets t few source input opts j w r) where
    world : LastingWorld t few source (Z p formed accepted) (laid p formed accepted) (known p formed accepted) (λ f. S p formed accepted f) (λ f. P p formed accepted f) (λ f. Follows p formed accepted f) (λ f. keeps p formed accepted f) (λ f numbers kept given s e l y. state_built t (heads_of p) f numbers kept given s e l y) (λ f numbers kept n y k l. slot_built t (heads_of p) f numbers kept n y k l) input opts range j w
    world =
        run_lasting t few source (Z p formed accepted) (laid p formed accepted) (known p formed accepted) (λ f. S p formed accepted f) (λ f. P p formed accepted f) (λ f. Follows p formed accepted f) (λ f. keeps p formed accepted f) (λ f numbers kept given s e l y. state_built t (heads_of p) f numbers kept given s e l y) (λ f numbers kept n y k l. slot_built t (heads_of p) f numbers kept n y k l) input opts range r f (ran r m) forgets on below first

    lasts : (n : ℕ) (s : State) (c : Comes source j w n s) → LeadsMeet (M j) source (answered source c.given (drawn j w n)) s c.leads → BuiltState t (heads_of p) (lasting few j) [] s
    lasts n s c l =
        built_from p formed accepted (lasting few j) input opts range j w r f on world n s c (lead_to source opts (M j) (N j) j w n c.given c.processor c.runs c.told (λ v d m x. (stack j w r n v d, x)) runs.stays tt c.leads l)

pub law_built_lasting : LawBuiltLasting
law_built_lasting p formed accepted few input opts range j w r f on below first m forgets n s c l = lasts p formed accepted few input opts range j w r f on below first m forgets n s c l
