-- Who runs is spared: the first cell of a coroutine does not name the execution of which that is the own, since a new execution is another one, and its home is in
-- hand.
use Rattle.std.proofs.Common.{◌≡◌, ℕ, ◌<◌, true, false, List, [], ◌∷◌, Option, Some, None, refl, sym, ap, subst, arith}
use Rattle.std.specs.Prelude.{is_some, if◌then◌else◌}
use Rattle.std.proofs.lemmas.Bool.{eq-eqb}
use Rattle.uc_tree.specs.Programs.{Program}
use Rattle.uc_tree.specs.Source.{Source}
use Rattle.uc_entry.specs.declared.entry.Options.{Options}
use Rattle.uc_entry.specs.declared.request.Asked.{Asked}
use Rattle.uc_entry.specs.Keyed.{find}
use Rattle.uc_acts.specs.Journal.{Journal, is_over, own_object}
use Rattle.uc_acts.specs.KernelRuns.{InRange}
use Rattle.uc_acts.specs.Serves.{left}
use Rattle.uc_machine.specs.declared.exec.Exec.{Exec}
use Rattle.uc_machine.specs.declared.exec.Home.{Home}
use Rattle.uc_machine.specs.declared.exec.Home.TheVariants as home
use Rattle.uc_machine.specs.Executions.{members_at}
use Rattle.uc_machine.specs.Switches.{new_exec, serial_in}
use Rattle.uc_machine.specs.Pieces as piece
use Rattle.uc_machine.specs.Pieces.{Todo, State, Env, Members, Goes, Ticks}
use Rattle.uc_machine.specs.Quiet.{quiet, home_at}
use Rattle.uc_machine.specs.Answering.{answered}
use Rattle.uc_machine.specs.Rides.{Rides, slices, goes_on, ticks, asks}
use Rattle.uc_meaning.specs.Runs.{World, Runs, AsksIn, drawn, gives, no_room, acts, begun, more}
use Rattle.uc_resolve.specs.Resolve.{source_of}
use Rattle.uc_rules.specs.Breaks.{breaks_of}
use Rattle.uc_sound.specs.SoundFormed.{IsFormed}
use Rattle.uc_sound.specs.Tables.{table_of}
use Rattle.uc_state_laws.specs.Fitting.{RunFits}
use Rattle.uc_state_laws.specs.Limits.{IsWithinLimits}
use Rattle.uc_state_laws.specs.RoomRuns as leads
use Rattle.uc_state_laws.specs.RoomRuns.{Leads}
use Rattle.uc_state_laws.specs.Opens.{RideMeets, RunMeets}
use Rattle.uc_state_laws.proofs.Others.{run_rests}
use Rattle.uc_state_laws.proofs.DeepWorlds.{deep_run}
use Rattle.uc_name_laws.specs.NameSteps.{SparesAt, Spares}
use Rattle.uc_life_laws.specs.Things.{Few}
use Rattle.uc_life_laws.proofs.NamedLemmas.{law_named_runs}
use Rattle.uc_life_laws.proofs.Own.{law_own}
use Rattle.uc_depth_laws.specs.Entering.{EnteredSource}
use Rattle.uc_depth_laws.proofs.Answers.{law_steps}
use Rattle.uc_depth_laws.proofs.Standing.{law_free, law_drawn}
use Rattle.uc_inner_laws.specs.Inner.{InnerSource}
use Rattle.uc_inner_laws.specs.Standing.{IsHere, StandsState, StandsStep}
use Rattle.uc_inner_laws.proofs.Walk.{law_steps as inner_steps}
use Rattle.uc_sound.proofs.Routines.{law_entered}
use Rattle.uc_letting_laws.specs.AloneRuns.{RunAlone}
use Rattle.uc_letting_laws.proofs.StandingWorlds.{standing_start}
use Rattle.uc_letting_laws.proofs.LettingWorlds.{both_run}
use Rattle.uc_calls_laws.specs.Calls.{main_part_of}
use Rattle.uc_calls_laws.proofs.CallParts.{law_no_mains}
use Rattle.uc_putting_laws.specs.PuttingLaws.{setting_of, Fair}
use Rattle.uc_putting_laws.specs.OwnPlaces.{OwnPlacesAt, OwnPlaces}
use Rattle.uc_putting_laws.proofs.OwnPlaces.{law_own_places}
use Rattle.uc_cell_laws.specs.CellStates.{FindsAt, CellFinds, CellState}
use Rattle.uc_cell_laws.specs.Classes.{class_of}
use Rattle.uc_cell_laws.specs.Coroutines.{naming_of}
use Rattle.uc_cell_laws.specs.OwnCells.{telling_of}
use Rattle.uc_cell_laws.proofs.OwnCells.{law_coroutines}
use Rattle.uc_homed_ends.proofs.BoundRuns.{ride_zip, run_zip}
use Rattle.uc_homed_ends.proofs.CellHomes.{finds_here}
use Rattle.uc_homed_ends.proofs.EndHomes.{run_with, ride_with}
use Rattle.uc_homed_ends.proofs.Found.{rides_led}
use Rattle.uc_homed_ends.proofs.SitedSources.{law_sited}
use Rattle.uc_lasting_programs.specs.Sparing.{KnowsHomes}

-- what is at a home in hand

abbrev Held : Option Members → Type 0
Held o = (m : Members) × (o ≡ Some m)

some_held : (o : Option Members) → is_some o ≡ true → Held o
some_held None e = let f : false ≡ true = e in absurd (cc)
some_held (Some m) e = (m, refl)

pub here_held : (h : Home) (e : Env) → IsHere e.own e.hand h → Held (members_at h e)
here_held (home.Task t) e i = (e.house, ap (λ b. if b then Some e.house else None) (eq-eqb t e.own i))
here_held (home.Object o) e i = some_held (find o e.hand) i

-- a new execution is another one than that which runs

abbrev NewAt : List Todo → State → Type 0
NewAt (piece.SetUpNow r ∷ todo) s = new_exec (home_at s.run.this s.env) s.env ≡ s.env.exec → ⊥
NewAt todo s = Unit {0}

abbrev pub NewOther : State → Type 0
NewOther s = NewAt s.run.control s

-- at the home of who runs more are made than that
abbrev IsMade : State → Type 0
IsMade s = (m : Members) → members_at s.env.exec.home s.env ≡ Some m → s.env.exec.serial < m.serial

news : (s : State) (l : List Todo) → IsMade s → IsHere s.env.own s.env.hand s.env.exec.home → NewAt l s
news s [] f i = tt
news s (piece.SetUpNow r ∷ todo) f i =
    λ same.
    let q : Home = home_at s.run.this s.env in
    let there : Held (members_at s.env.exec.home s.env) = here_held s.env.exec.home s.env i in
    let at : members_at q s.env ≡ Some there.0 = subst (λ (n : Exec). members_at n.home s.env ≡ Some there.0) (sym same) there.1 in
    let a : serial_in (members_at q s.env) ≡ s.env.exec.serial = ap (λ (n : Exec). n.serial) same in
    let b : serial_in (members_at q s.env) ≡ there.0.serial = ap serial_in at in
    let c : s.env.exec.serial < there.0.serial = f there.0 there.1 in
    omega (arith, a, b, c)
news s (p ∷ todo) f i = tt

lead_on : {source : Source} {s u v : State} → Leads source s u → quiet source u ≡ Goes v → Leads source s v
lead_on leads.stays q = leads.goes q leads.stays
lead_on (leads.goes e l) q = leads.goes e (lead_on l q)
lead_on (leads.ticks e l) q = leads.ticks e (lead_on l q)

lead_tick : {source : Source} {s u v : State} → Leads source s u → quiet source u ≡ Ticks v → Leads source s v
lead_tick leads.stays q = leads.ticks q leads.stays
lead_tick (leads.goes e l) q = leads.goes e (lead_tick l q)
lead_tick (leads.ticks e l) q = leads.ticks e (lead_tick l q)

module _ (p : Program) (formed : IsFormed p) (ok : breaks_of p ≡ []) where
  abbrev source : Source
  source = source_of p

  entered : EnteredSource source
  entered = law_entered p formed ok

  inner : InnerSource (main_part_of p) source
  inner = (law_no_mains p formed ok).inner

  abbrev Standing : ℕ → State → Type 0
  Standing own s = StandsState (main_part_of p) source own s

  stands : (own : ℕ) (s : State) → Standing own s → StandsStep (main_part_of p) source own s (quiet source s)
  stands own s v = inner_steps.steps (main_part_of p) source inner own s v

  -- in each state to which the task with this own object comes
  along : (own : ℕ) (start : State) → ((s : State) → Leads source start s → IsMade s) → {s u : State} {q k : ℕ} {a : Asked} (r : Rides source s q u k a) → Leads source start s → Standing own s → RideMeets NewOther source s q u k a r
  along own start f slices l v = tt
  along own start f (goes_on {s} e r) l v =
      (news s s.run.control (f s l) v.here, along own start f r (lead_on l e) (subst (StandsStep (main_part_of p) source own s) e (stands own s v)))
  along own start f (ticks {s} e r) l v =
      (news s s.run.control (f s l) v.here, along own start f r (lead_tick l e) (subst (StandsStep (main_part_of p) source own s) e (stands own s v)))
  along own start f (asks {s} e) l v = news s s.run.control (f s l) v.here

  module _ (input : List ℕ) (opts : Options) (range : InRange opts) where
    ride_new : {j : Journal} {w : World} (r : Runs source input opts j w) → RunFits source input opts j w r → RunAlone source input opts j w r → is_over j ≡ false → (q t n : ℕ) (s : State) (asked : Asked) (d : AsksIn source opts j w q t n s asked) → RideMeets NewOther source (answered source d.given (drawn j w t)) (left opts j t) s n asked d.rides
    ride_new {j} {w} r f g on q t n s asked d =
        let rests = run_rests source input opts range r f on in
        let deeps = deep_run source input opts range r f on in
        let x = both_run (main_part_of p) source entered inner law_steps law_free law_drawn input opts range r f g on in
        along (own_object t j) (answered source d.given (drawn j w t)) made d.rides leads.stays (standing_start (main_part_of p) source inner entered.ends input opts range rests on deeps x.standing q t n s asked d)
      where
        made : (u : State) → Leads source (answered source d.given (drawn j w t)) u → IsMade u
        made u l =
            let c = (law_named_runs source input opts j w r range f on).comes t u (record { given = d.given; processor = q; runs = d.runs; told = d.told; leads = l }) in
            λ m e.
            let n = (c.names.env_named.members_named u.env.exec.home m e).serial_is in
            let b = c.names.env_named.exec_below in
            omega (arith, n, b)

    run_new : {j : Journal} {w : World} (r : Runs source input opts j w) → RunFits source input opts j w r → RunAlone source input opts j w r → RunMeets NewOther source input opts j w r
    run_new begun f g = tt
    run_new (more r o (gives q t s le)) f g = (run_new r f.0 g.0, tt)
    run_new (more r o (no_room q t s le)) f g = (run_new r f.0 g.0, tt)
    run_new (more r o (acts q t n s asked d)) f g = (run_new r f.0 g.0, ride_new r f.0 g.0 o q t n s asked d)

  module _ (within : IsWithinLimits p) (few : Few) (many : ℕ) (input : List ℕ) (opts : Options) (range : InRange opts) {j : Journal} {w : World} (r : Runs source input opts j w) (f : RunFits source input opts j w r) (g : RunAlone source input opts j w r) (fair : RunMeets (Fair (setting_of p few)) source input opts j w r) (homes : RunMeets (KnowsHomes p few many) source input opts j w r) where
    abbrev class : ℕ → Option ℕ
    class o = class_of (table_of p) source input opts j w r o

    abbrev Homes : State → Type 0
    Homes s = KnowsHomes p few many s

    abbrev Own : State → Type 0
    Own s = OwnPlaces few source s

    abbrev OwnNew : State → Type 0
    OwnNew s = Own s × NewOther s

    abbrev Facts : State → Type 0
    Facts s = Homes s × OwnNew s

    abbrev Found : State → Type 0
    Found s = CellFinds (naming_of p few class) s

    abbrev Cells : State → Type 0
    Cells s = CellState (naming_of p few class) s

    -- what is set up is the own of who runs, and not of the new execution
    found : (s : State) (l : List Todo) → FindsAt (telling_of p few class) l s → OwnPlacesAt few source l s → NewAt l s → FindsAt (naming_of p few class) l s
    found s [] x o n = tt
    found s (piece.SetUpNow q ∷ todo) x o n = λ on b. n (law_own few (new_exec (home_at s.run.this s.env) s.env) s.env.exec s.run.this b o)
    found s (z ∷ todo) x o n = x

    finds : (s : State) → Facts s → Found s
    finds s h = found s s.run.control (finds_here p formed ok few class s h.0.1.0 many h.0.0.0) h.1.0 h.1.1

    spares : (s : State) → Cells s → Own s → Spares s
    spares s h own = by s.run.control refl own
      where
        by : (l : List Todo) → s.run.control ≡ l → OwnPlacesAt few source l s → SparesAt l s
        by [] e b = tt
        by (piece.ForgetNow ∷ todo) e b = λ i. law_coroutines.forgets p formed ok within few class s h todo e b i
        by (z ∷ todo) e b = tt

    owns : RunMeets Own source input opts j w r
    owns = law_own_places.runs p formed ok few input opts range j w r f fair

    run_found : RunMeets Found source input opts j w r
    run_found = run_with Facts Found finds r (run_zip Homes OwnNew Facts (λ s a b. (a, b)) r homes (run_zip Own NewOther OwnNew (λ s a b. (a, b)) r owns (run_new input opts range r f g)))

    -- no step of such a run forgets the running execution
    pub run_spares : RunMeets Spares source input opts j w r
    run_spares = run_zip Cells Own Spares spares r (law_coroutines.runs p formed ok within few input opts range j w r f (law_sited p formed ok few class true) run_found) owns

    -- nor does one on the way to what is asked next
    pub ride_spares : is_over j ≡ false → (q t n : ℕ) (s : State) (asked : Asked) (d : AsksIn source opts j w q t n s asked) → RideMeets (Fair (setting_of p few)) source (answered source d.given (drawn j w t)) (left opts j t) s n asked d.rides → RideMeets Homes source (answered source d.given (drawn j w t)) (left opts j t) s n asked d.rides → RideMeets Spares source (answered source d.given (drawn j w t)) (left opts j t) s n asked d.rides
    ride_spares on q t n s asked d fair_now homes_now =
        let own_now = law_own_places.rides p formed ok few input opts range j w r f fair on q t n s asked d fair_now in
        let new_now = ride_new input opts range r f g on q t n s asked d in
        let found_now = ride_with Facts Found finds d.rides (ride_zip Homes OwnNew Facts (λ s a b. (a, b)) d.rides homes_now (ride_zip Own NewOther OwnNew (λ s a b. (a, b)) d.rides own_now new_now)) in
        let cells_now = rides_led Found Cells d.rides found_now (λ v l h. law_coroutines.leads p formed ok within few input opts range j w r f (law_sited p formed ok few class true) run_found on t v (record { given = d.given; processor = q; runs = d.runs; told = d.told; leads = l }) h) in
        ride_zip Cells Own Spares spares d.rides cells_now own_now
