-- On the way to a state, as far as homes are told and all is known on it: of operands in that state it is known what is the execution's own, and activations
-- are told of their objects.
use Rattle.std.proofs.Common.{◌≡◌, ℕ, false, List, [], ◌∷◌, Option, Some, refl}
use Rattle.std.specs.Prelude.{slice_get}
use Rattle.uc_tree.specs.Programs.{Program}
use Rattle.uc_tree.specs.Source.{Source}
use Rattle.uc_entry.specs.declared.entry.Options.{Options}
use Rattle.uc_entry.specs.declared.request.Answer.{Answer}
use Rattle.uc_acts.specs.Journal.{Journal, is_over}
use Rattle.uc_acts.specs.Answers.{answer_to}
use Rattle.uc_acts.specs.KernelRuns.{InRange}
use Rattle.uc_acts.specs.Queues.{running}
use Rattle.uc_machine.specs.declared.exec.Exec.{Exec}
use Rattle.uc_machine.specs.Pieces.{Value, State}
use Rattle.uc_machine.specs.Answering.{answered}
use Rattle.uc_meaning.specs.Runs.{World, Runs, drawn}
use Rattle.uc_resolve.specs.Resolve.{source_of}
use Rattle.uc_rules.specs.Breaks.{breaks_of}
use Rattle.uc_sound.specs.SoundFormed.{IsFormed}
use Rattle.uc_sound.specs.Tables.{table_of}
use Rattle.uc_state_laws.specs.Fitting.{RunFits}
use Rattle.uc_state_laws.specs.Layout.{Sized}
use Rattle.uc_state_laws.specs.Limits.{IsWithinLimits}
use Rattle.uc_state_laws.specs.Opens.{RunMeets, LeadsMeet}
use Rattle.uc_state_laws.specs.RoomRuns as rooms
use Rattle.uc_state_laws.specs.RoomRuns.{Leads, Comes}
use Rattle.uc_state_laws.specs.ScopeFrameRuns.{KeepsFrames}
use Rattle.uc_state_laws.proofs.Others.{run_rests}
use Rattle.uc_state_laws.proofs.StackWorlds.{law_frame_runs}
use Rattle.uc_state_laws.proofs.Unreferring.{law_accepted}
use Rattle.uc_typing.specs.Typing.{Ty, Table}
use Rattle.uc_life_laws.specs.Things.{Few, Base}
use Rattle.uc_life_laws.specs.HomedStates.{Opens}
use Rattle.uc_life_laws.specs.KnownAnswers.{MainPasses}
use Rattle.uc_life_laws.specs.KnownRuns.{PassesBelow, Meets}
use Rattle.uc_life_laws.specs.Marks.{LoneState}
use Rattle.uc_life_laws.specs.Rooted.{IsBase}
use Rattle.uc_life_laws.proofs.Endings as endings
use Rattle.uc_life_laws.proofs.Laying.{laid_out}
use Rattle.uc_life_laws.proofs.UnmarkedWorlds.{law_runs as law_lone_runs}
use Rattle.uc_putting_laws.specs.Putting.{CodeRoutine}
use Rattle.uc_putting_laws.specs.PuttingLaws.{special_of, setting_of, Fair}
use Rattle.uc_putting_laws.proofs.PuttingRuns.{code_of, law_runs as law_puts}
use Rattle.uc_putting_laws.proofs.Routines.{law_calling}
use Rattle.uc_putting_laws.proofs.Worlds as put
use Rattle.uc_cell_laws.specs.CellStates.{CellFinds}
use Rattle.uc_cell_laws.specs.Classes.{class_of}
use Rattle.uc_cell_laws.specs.OwnCells.{telling_of}
use Rattle.uc_cell_laws.proofs.OwnCells.{law_cells}
use Rattle.uc_homed_ends.specs.Elements.{no_fields}
use Rattle.uc_homed_ends.specs.EndWays.{NowState}
use Rattle.uc_homed_ends.specs.HomesLeft.{KnowsReads, Told}
use Rattle.uc_homed_ends.proofs.BoundRuns.{run_zip}
use Rattle.uc_homed_ends.proofs.CellHomes.{CellHere, finds_here, home_read}
use Rattle.uc_homed_ends.proofs.EndCodes.{free_of}
use Rattle.uc_homed_ends.proofs.EndHomes.{way_at, fair_here, run_with}
use Rattle.uc_homed_ends.proofs.EndReads.{reading_of}
use Rattle.uc_homed_ends.proofs.EndRuns.{comes_way}
use Rattle.uc_homed_ends.proofs.Found.{law_found}
use Rattle.uc_homed_ends.proofs.HomesLeft.{rest_here}
use Rattle.uc_homed_ends.proofs.SitedSources.{law_sited}
use Rattle.uc_making_laws.specs.LettingGo.{LetsState, FindsTold}
use Rattle.uc_making_laws.proofs.LettingRuns.{law_letting_runs}
use Rattle.uc_lasting_programs.proofs.CallsRuns.{IsKnownThere, told_here, law_calls_runs}
use Rattle.uc_lasting_programs.proofs.OwnScopes.{leads_led}

-- what follows in each state from what holds there, and there and before it

module _ (G Q : State → Type 0) (source : Source) where
  pub leads_less : (f : (s : State) → G s → Q s) {s u : State} (l : Leads source s u) → LeadsMeet G source s u l → LeadsMeet Q source s u l
  leads_less f rooms.stays h = tt
  leads_less f (rooms.goes {s} e l) h = (f s h.0, leads_less f l h.1)
  leads_less f (rooms.ticks {s} e l) h = (f s h.0, leads_less f l h.1)

  module _ (start : State) (f : (v : State) (k : Leads source start v) → LeadsMeet G source start v k → G v → Q v) where
    pub leads_turned : {s u : State} (m : Leads source start s) → LeadsMeet G source start s m → (l : Leads source s u) → LeadsMeet G source s u l → LeadsMeet Q source s u l
    leads_turned m h rooms.stays i = tt
    leads_turned {s} m h (rooms.goes e l) i = (f s m h i.0, leads_turned (endings.goes_on G source m e) (endings.goes_met G source m e h i.0) l i.1)
    leads_turned {s} m h (rooms.ticks e l) i = (f s m h i.0, leads_turned (endings.ticks_on G source m e) (endings.ticks_met G source m e h i.0) l i.1)

module _ (p : Program) (formed : IsFormed p) (accepted : breaks_of p ≡ []) (within : IsWithinLimits p) (few : Few) (many : ℕ) (places : (n : Exec) (w : Value) (b : Ty) → Base few n w b → IsBase w b) (input : List ℕ) (opts : Options) (range : InRange opts) (first : MainPasses (table_of p) few ((table_of p).routine (source_of p).main).this 0) (j : Journal) (w : World) (r : Runs (source_of p) input opts j w) (fits : RunFits (source_of p) input opts j w r) (on : is_over j ≡ false) (below : PassesBelow few opts j) (met : RunMeets (Meets (table_of p) few) (source_of p) input opts j w r) (told : RunMeets (Told p few many) (source_of p) input opts j w r) (reads : RunMeets (KnowsReads (table_of p) few) (source_of p) input opts j w r) where
  abbrev t : Table
  t = table_of p

  abbrev source : Source
  source = source_of p

  abbrev class : ℕ → Option ℕ
  class o = class_of (table_of p) (source_of p) input opts j w r o

  abbrev Facts : State → Type 0
  Facts s = Told p few many s × KnowsReads (table_of p) few s

  abbrev Opening : State → Type 0
  Opening s = Opens (table_of p) no_fields few s

  abbrev Cells : State → Type 0
  Cells s = CellHere p formed accepted few class s

  abbrev CellWays : State → Type 0
  CellWays s = NowState (table_of p) Cells s

  abbrev Finding : State → Type 0
  Finding s = CellFinds (telling_of p few class) s

  abbrev Fairly : State → Type 0
  Fairly s = Fair (setting_of p few) s

  abbrev Puts : State → Type 0
  Puts s = put.Stands p (setting_of p few) s

  -- all that is told and known of a state on the way
  abbrev pub Seen : State → Type 0
  Seen s = Facts s × (IsKnownThere p few s × Meets (table_of p) few s)

  finds : (s : State) → Facts s → Finding s
  finds s f = finds_here p formed accepted few class s f.1.0 many f.0.0

  run_facts : RunMeets Facts source input opts j w r
  run_facts = run_zip (Told p few many) (KnowsReads t few) Facts (λ s x y. (x, y)) r told reads

  run_finds : RunMeets Finding source input opts j w r
  run_finds = run_with Facts Finding finds r run_facts

  run_cells : RunMeets Cells source input opts j w r
  run_cells = law_cells.runs p formed accepted within few input opts range j w r fits (law_sited p formed accepted few class false) run_finds

  was_open : RunMeets Opening source input opts j w r
  was_open = run_with (Told p few many) Opening (λ s h. h.1) r told

  pub run_fair : RunMeets Fairly source input opts j w r
  run_fair = law_found.runs p formed accepted within few many input opts range j w r fits told reads

  run_told : RunMeets (FindsTold t few source) source input opts j w r
  run_told = (law_calls_runs.runs p formed accepted few places input opts range j w r fits below first met run_fair).2

  code : (n : ℕ) → CodeRoutine (setting_of p few) (special_of p n) ((table_of p).routine n).this (slice_get (source_of p).routines n)
  code = code_of p formed accepted few

  module _ (u : ℕ) (given : Answer) (q : ℕ) (runs : running q j ≡ u ∷ []) (answers : answer_to (source_of p).sites u j ≡ Some given) where
    abbrev start : State
    start = answered source given (drawn j w u)

    abbrev comes_to : (v : State) → Leads source start v → Comes source j w u v
    comes_to v l = record { given = given; processor = q; runs = runs; told = answers; leads = l }

    cells_at : (v : State) (l : Leads source start v) → LeadsMeet Finding source start v l → Cells v
    cells_at v l h = (law_cells.leads p formed accepted within few input opts range j w r fits (law_sited p formed accepted few class false) run_finds on u v (comes_to v l) h).0

    -- as `found_here` of uc_homed_ends proofs/Found
    fair_at : (v : State) (l : Leads source start v) → LeadsMeet Facts source start v l → Facts v → Fairly v
    fair_at v l h f =
        let finding : LeadsMeet Finding source start v l = leads_less Facts Finding source finds l h in
        let opened : LeadsMeet Opening source start v l = leads_less Facts Opening source (λ s x. x.0.1) l h in
        let here = way_at p formed accepted no_fields few input opts range r fits was_open on u v (comes_to v l) opened in
        let way : CellWays v = comes_way t Cells source (free_of p formed accepted) input opts range r fits run_cells on u v (comes_to v l) (leads_led Finding Cells source start cells_at rooms.stays tt l finding) in
        fair_here p no_fields few few.home many (λ o. refl) v here f.0.0 (rest_here (setting_of p few) no_fields (Sized p) v here (λ todo c e o k. home_read p formed accepted few class within v (reading_of t Cells v todo c e way.run) o k) f.1)

    fair_on : (v : State) (l : Leads source start v) → LeadsMeet Facts source start v l → LeadsMeet Fairly source start v l
    fair_on v l h = leads_turned Facts Fairly source start fair_at rooms.stays tt l h

    stands_on : {s v : State} (l : Leads source s v) → LeadsMeet Fairly source s v l → Puts s → Puts v
    stands_on rooms.stays h k = k
    stands_on (rooms.goes {s} {u = x} e l) h k = stands_on l h.1 (put.goes p (setting_of p few) (laid_out p formed accepted) (law_accepted p accepted) code s x e k h.0)
    stands_on (rooms.ticks {s} {u = x} e l) h k = stands_on l h.1 (put.ticks p (setting_of p few) (laid_out p formed accepted) (law_accepted p accepted) code s x e k h.0)

    begins : Puts start
    begins =
        let main = (law_calling p formed accepted).main in
        let world = put.run_put p accepted few (laid_out p formed accepted) main code input opts range r fits run_fair in
        let frames : KeepsFrames p j w = law_frame_runs p accepted input opts j w r in
        put.start p accepted few (laid_out p formed accepted) main code input opts range (run_rests source input opts range r fits on) on (world.0 on) frames q u given runs answers

    -- of operands it is known what is the execution's own
    pub put_on : (v : State) (l : Leads source start v) → LeadsMeet Facts source start v l → Puts v
    put_on v l h = stands_on l (fair_on v l h) begins

    -- and nothing that is to be cleaned up stands around what is built or destroyed
    pub lone_on : (v : State) (l : Leads source start v) → LeadsMeet Facts source start v l → LoneState t few v
    lone_on v l h =
        (law_lone_runs t few source input opts j w r (law_puts.runs p formed accepted few input opts range j w r fits run_fair)).comes u v (comes_to v l) (law_puts.leads p formed accepted few input opts range j w r fits run_fair on u v (comes_to v l) (fair_on v l h))

    tells_on : (v : State) (l : Leads source start v) → LeadsMeet Seen source start v l → Seen v → FindsTold t few source v
    tells_on v l h k =
        let facts : LeadsMeet Facts source start v l = leads_less Seen Facts source (λ s x. x.0) l h in
        told_here p formed accepted few places v (put_on v l facts) k.1.0 k.1.1 (fair_at v l facts k.0)

    -- and activations are told of their objects
    pub lets_on : (v : State) (l : Leads source start v) → LeadsMeet Seen source start v l → LetsState t few v
    lets_on v l h = (law_letting_runs t few source input opts j w r run_told).comes on u v (comes_to v l) (leads_turned Seen (FindsTold t few source) source start tells_on rooms.stays tt l h)
