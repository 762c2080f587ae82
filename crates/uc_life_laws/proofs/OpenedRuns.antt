-- Where what is bound is there behind the step that binds it, scopes of what is known by its number open as they are to.
use Rattle.std.proofs.Common.{◌≡◌, ℕ, Bool, inl, inr, true, false, List, [], ◌∷◌, refl, sym, subst}
use Rattle.uc_tree.specs.Programs.{Program}
use Rattle.uc_tree.specs.Source as src
use Rattle.uc_tree.specs.Source.{Source, CleanUp, Stmt, Stmts}
use Rattle.uc_entry.specs.declared.entry.Options.{Options}
use Rattle.uc_entry.specs.declared.request.Answer.{Answer}
use Rattle.uc_entry.specs.declared.request.Asked.{Asked}
use Rattle.uc_acts.specs.Journal.{Journal, is_over}
use Rattle.uc_acts.specs.KernelRuns.{InRange}
use Rattle.uc_machine.specs.Pieces as piece
use Rattle.uc_machine.specs.Pieces.{Value, Todo, at}
use Rattle.uc_machine.specs.Quiet as quiet
use Rattle.uc_machine.specs.Quiet.{State}
use Rattle.uc_machine.specs.Answering.{answered}
use Rattle.uc_machine.specs.Rides as rides
use Rattle.uc_machine.specs.Rides.{Rides}
use Rattle.uc_meaning.specs.Runs.{World, Runs, drawn, gives, no_room, acts, begun, more}
use Rattle.uc_state_laws.specs.Fitting.{RunFits}
use Rattle.uc_resolve.specs.Resolve.{source_of}
use Rattle.uc_rules.specs.Breaks.{breaks_of}
use Rattle.uc_state_laws.specs.Layout.{Sized}
use Rattle.uc_state_laws.specs.Rooms.{SourceIn}
use Rattle.uc_state_laws.specs.RoomStacks.{StackState, StackStep}
use Rattle.uc_state_laws.specs.RoomRuns as runs
use Rattle.uc_state_laws.specs.RoomRuns.{Leads, Comes}
use Rattle.uc_state_laws.proofs.StackWalk as stacking
use Rattle.uc_state_laws.proofs.StackWorlds as stacked
use Rattle.uc_state_laws.proofs.Unreferring.{law_accepted}
use Rattle.uc_state_laws.specs.There.{IsThere, IsCounted, AllCounted, AllLeft, Any, frame_at}
use Rattle.uc_state_laws.specs.Declaring as declaring
use Rattle.uc_state_laws.specs.Declaring.{Point, point_todo}
use Rattle.uc_state_laws.specs.Filling as fill
use Rattle.uc_state_laws.specs.NewClusters as way
use Rattle.uc_state_laws.specs.NewClusters.{Stage, stage_todo, GoodBy, GoodStepBy}
use Rattle.uc_state_laws.specs.Opens as there
use Rattle.uc_state_laws.specs.Opens.{RideMeets, RunMeets, LeadsMeet}
use Rattle.uc_state_laws.proofs.Cells.{held_left}
use Rattle.uc_state_laws.proofs.ValueWalk as values
use Rattle.uc_state_laws.proofs.ValueWorlds as value_runs
use Rattle.uc_typing.specs.Typing.{Sig, Table}
use Rattle.uc_sound.specs.Tables.{table_of}
use Rattle.uc_sound.proofs.SoundLemmas.{law_sound}
use Rattle.uc_life_laws.specs.LifeStates.{OpensAtBy}
use Rattle.uc_life_laws.specs.Opened.{any, ObjectsOpen}
use Rattle.uc_life_laws.specs.KnownRuns.{PassesBelow, Meets, AllIsKnown}
use Rattle.uc_life_laws.specs.Lives.{OutwardsOrMade, Lives}
use Rattle.uc_life_laws.proofs.KindsLemmas.{plain}
use Rattle.uc_life_laws.proofs.LivesLemmas.{law_lives}
use Rattle.uc_life_laws.specs.OpenedRuns.{MeetsObjects, LawOpenedRuns}
use Rattle.uc_life_laws.proofs.Opened.{law_opens}
use Rattle.uc_life_laws.proofs.Following.{law_following}
use Rattle.uc_life_laws.proofs.KnownWorlds.{law_known_runs, main_numbered}

-- what holds of less is met where more is
module _ (P Q : State → Type 0) (f : (s : State) → P s → Q s) (source : Source) where
  ride_more : {s u : State} {q k : ℕ} {a : Asked} (r : Rides source s q u k a) → RideMeets P source s q u k a r → RideMeets Q source s q u k a r
  ride_more rides.slices h = tt
  ride_more (rides.goes_on {s} e r) h = (f s h.0, ride_more r h.1)
  ride_more (rides.ticks {s} e r) h = (f s h.0, ride_more r h.1)
  ride_more (rides.asks {s} e) h = f s h

  run_more : (input : List ℕ) (opts : Options) {j : Journal} {w : World} (r : Runs source input opts j w) → RunMeets P source input opts j w r → RunMeets Q source input opts j w r
  run_more input opts begun h = tt
  run_more input opts (more r o (gives p t s le)) h = (run_more input opts r h.0, tt)
  run_more input opts (more r o (no_room p t s le)) h = (run_more input opts r h.0, tt)
  run_more input opts (more r o (acts p t k s asked d)) h = (run_more input opts r h.0, ride_more d.rides h.1)

  lead_more : {s u : State} (l : Leads source s u) → LeadsMeet P source s u l → LeadsMeet Q source s u l
  lead_more runs.stays h = tt
  lead_more (runs.goes {s} e l) h = (f s h.0, lead_more l h.1)
  lead_more (runs.ticks {s} e l) h = (f s h.0, lead_more l h.1)

-- behind the step that opens a scope, what that is of is there

module _ (rest : Stmts) (c : CleanUp) (todo : List Todo) where
  abbrev pub opened : List Todo
  opened = piece.Rest rest ∷ (piece.Clean c ∷ todo)

  by_point : (g : Point) (b : Stmt) (ss : Stmts) (behind : List Todo) → opened ≡ point_todo g b ss behind → piece.Clean c ∷ todo ≡ behind
  by_point (declaring.Declares m d) b ss behind q = absurd (cc)
  by_point (declaring.Lists m d) b ss behind q = absurd (cc)
  by_point (declaring.Clears m d) b ss behind q = absurd (cc)
  by_point (declaring.Cleared m) b ss behind q = absurd (cc)
  by_point (declaring.Passes m) b ss behind q = absurd (cc)
  by_point declaring.Reaches b ss behind q = cc

  by_stage : (g : Stage) (k l : ℕ) (ss : Stmts) (behind : List Todo) → opened ≡ stage_todo g k l ss behind → piece.Clean c ∷ todo ≡ behind
  by_stage way.Does k l ss behind q = absurd (cc)
  by_stage way.Binds k l ss behind q = absurd (cc)
  by_stage way.Places k l ss behind q = absurd (cc)
  by_stage way.Makes k l ss behind q = absurd (cc)
  by_stage way.Orders k l ss behind q = absurd (cc)
  by_stage way.Told k l ss behind q = absurd (cc)
  by_stage way.Bound k l ss behind q = absurd (cc)
  by_stage way.Leaves k l ss behind q = absurd (cc)
  by_stage way.Opens k l ss behind q = cc

  by_kind : (k : fill.Kind) (turn behind : List Todo) → (opened ≡ fill.found_todo k turn → piece.Clean c ∷ todo ≡ behind) × (opened ≡ fill.going_todo k turn → piece.Clean c ∷ todo ≡ behind) × (opened ≡ fill.asking_todo k turn → piece.Clean c ∷ todo ≡ behind) × (opened ≡ fill.told_todo k turn → piece.Clean c ∷ todo ≡ behind)
  by_kind fill.Cluster turn behind = ((λ q. absurd (cc)), (λ q. absurd (cc)), (λ q. absurd (cc)), (λ q. absurd (cc)))
  by_kind (fill.Processor i) turn behind = ((λ q. absurd (cc)), (λ q. absurd (cc)), (λ q. absurd (cc)), (λ q. absurd (cc)))
  by_kind (fill.Object n r true) turn behind = ((λ q. absurd (cc)), (λ q. absurd (cc)), (λ q. absurd (cc)), (λ q. absurd (cc)))
  by_kind (fill.Object n r false) turn behind = ((λ q. absurd (cc)), (λ q. absurd (cc)), (λ q. absurd (cc)), (λ q. absurd (cc)))

  by_bound : (x : fill.Array) (k : fill.Kind) (behind : List Todo) → opened ≡ fill.bound_todo k (fill.turn_todo x) → piece.Clean c ∷ todo ≡ behind
  by_bound x fill.Cluster behind q = absurd (cc)
  by_bound x (fill.Processor i) behind q = absurd (cc)
  by_bound x (fill.Object n r true) behind q = absurd (cc)
  by_bound x (fill.Object n r false) behind q = absurd (cc)

  by_fill : (g : fill.Stage) (x : fill.Array) → opened ≡ fill.fill_todo g x → piece.Clean c ∷ todo ≡ x.todo
  by_fill fill.Does x q = absurd (cc)
  by_fill fill.Counts x q = absurd (cc)
  by_fill fill.Turns x q = absurd (cc)
  by_fill fill.Evals x q = absurd (cc)
  by_fill fill.Finds x q = absurd (cc)
  by_fill fill.Names x q = absurd (cc)
  by_fill fill.Indexes x q = absurd (cc)
  by_fill fill.Elements x q = absurd (cc)
  by_fill fill.Found x q = (by_kind x.kind (fill.turn_todo x) x.todo).0 q
  by_fill fill.Nears x q = (by_kind x.kind (fill.turn_todo x) x.todo).1 q
  by_fill fill.Asks x q = (by_kind x.kind (fill.turn_todo x) x.todo).2 q
  by_fill fill.Told x q = (by_kind x.kind (fill.turn_todo x) x.todo).3 q
  by_fill fill.Bound x q = by_bound x x.kind x.todo q
  by_fill fill.More x q = absurd (cc)
  by_fill fill.Passes x q = absurd (cc)
  by_fill fill.Opens x q = cc

  -- and a cluster that is a variable has one of these numbers
  abbrev pub Counted : (ℕ → Bool) → List Value → Type 0
  Counted few vs = IsThere vs c × IsCounted few vs c

  behind_counted : (few : ℕ → Bool) (vs : List Value) (behind : List Todo) → piece.Clean c ∷ todo ≡ behind → AllCounted few vs behind → Counted few vs
  behind_counted few vs behind q h = (subst (AllCounted few vs) (sym q) h).0

  pub good_counted : (few : ℕ → Bool) (vs : List Value) (s : State) → GoodBy few (at opened vs s) → Counted few (frame_at s.run.frame s.env.frames)
  good_counted few vs s (inl h) =
      let left : AllLeft few (frame_at s.run.frame s.env.frames) opened = held_left few (frame_at s.run.frame s.env.frames) s.run.elements opened h.stack.1 in
      left.0
  good_counted few vs s (inr (inl d)) = behind_counted few (frame_at s.run.frame s.env.frames) d.todo (by_point d.point d.binder d.next d.todo d.control) d.behind
  good_counted few vs s (inr (inr (inr f))) = behind_counted few (frame_at s.run.frame s.env.frames) f.array.todo (by_fill f.stage f.array f.control) f.behind
  good_counted few vs s (inr (inr (inl o))) = behind_counted few (frame_at s.run.frame s.env.frames) o.todo (by_stage o.stage o.cell o.line o.next o.todo o.control) o.behind

module _ (p : Program) (accepted : breaks_of p ≡ []) where
  abbrev source : Source
  source = source_of p

  abbrev t : Table
  t = table_of p

  abbrev Z : ℕ → ℕ → Type 0
  Z = Sized p

  known : SourceIn Z source
  known = law_accepted p accepted

  steps_to : (s : State) → StackState Z s → there.Opens source s → GoodBy Any s → GoodStepBy Any (quiet.quiet source s)
  steps_to s st o h = values.law_steps.steps Any source (value_runs.law_fair.begins p source known) s h (value_runs.law_fair.fair p source s st o)

  stack_to : (s : State) → StackState Z s → StackStep Z (quiet.quiet source s)
  stack_to s st = stacking.walk Z source known s st

  pub scope_there : (s : State) → StackState Z s → there.Opens source s → GoodBy Any s → (c : CleanUp) (rest : Stmts) (todo : List Todo) → s.run.control ≡ piece.Rest (src.Scoped c rest) ∷ todo → IsThere (frame_at s.run.frame s.env.frames) c
  scope_there s st o h c rest todo e =
      (good_counted rest c todo Any s.run.operands s (subst (λ (l : List Todo). GoodStepBy Any (quiet.act_todo source l s)) e (steps_to s st o h))).0

  -- so a scope opens as it is to
  meets_at : (s : State) → StackState Z s → GoodBy Any s → MeetsObjects t source s → Meets t any s
  meets_at s st h m x = let y = m.finds x in (y.0, (y.1.0, by y.0.0.sigs y.1.1 s.run.control refl))
    where
      by : (gs : List Sig) → ObjectsOpen t gs s → (l : List Todo) → s.run.control ≡ l → OpensAtBy t any (OutwardsOrMade gs) l s
      by gs o (piece.Rest (src.Scoped c rest) ∷ todo) e =
          subst (λ l. OpensAtBy t any (OutwardsOrMade gs) l s) e (law_opens.opens t s (law_following.typed t any [] s (plain t any (Lives t any) [] s x.0)) gs c rest todo e (scope_there s st m.opens h c rest todo e) (o c rest todo e))
      by gs o l e = tt

  ride_meets : {s u : State} {q k : ℕ} {a : Asked} (r : Rides source s q u k a) → RideMeets (MeetsObjects t source) source s q u k a r → StackState Z s → GoodBy Any s → RideMeets (Meets t any) source s q u k a r
  ride_meets rides.slices m st h = tt
  ride_meets (rides.goes_on {s} e r) m st h =
      (meets_at s st h m.0, ride_meets r m.1 (subst (StackStep Z) e (stack_to s st)) (subst (GoodStepBy Any) e (steps_to s st m.0.opens h)))
  ride_meets (rides.ticks {s} e r) m st h =
      (meets_at s st h m.0, ride_meets r m.1 (subst (StackStep Z) e (stack_to s st)) (subst (GoodStepBy Any) e (steps_to s st m.0.opens h)))
  ride_meets (rides.asks {s} e) m st h = meets_at s st h m

  lead_meets : {s u : State} (l : Leads source s u) → LeadsMeet (MeetsObjects t source) source s u l → StackState Z s → GoodBy Any s → LeadsMeet (Meets t any) source s u l
  lead_meets runs.stays m st h = tt
  lead_meets (runs.goes {s} e l) m st h =
      (meets_at s st h m.0, lead_meets l m.1 (subst (StackStep Z) e (stack_to s st)) (subst (GoodStepBy Any) e (steps_to s st m.0.opens h)))
  lead_meets (runs.ticks {s} e l) m st h =
      (meets_at s st h m.0, lead_meets l m.1 (subst (StackStep Z) e (stack_to s st)) (subst (GoodStepBy Any) e (steps_to s st m.0.opens h)))

  module _ (input : List ℕ) (opts : Options) (range : InRange opts) where
    begun_stack : {j : Journal} {w : World} → Runs source input opts j w → (n : ℕ) (a : Answer) → StackState Z (answered source a (drawn j w n))
    begun_stack {j} {w} r n a = stacking.answered_rests Z source a (drawn j w n) (stacked.drawn_rests Z j w n (stacked.world_rests Z source known input opts r))

    all_there : {j : Journal} {w : World} (r : Runs source input opts j w) → RunFits source input opts j w r → is_over j ≡ false → RunMeets (MeetsObjects t source) source input opts j w r → there.AllIsThere source j w
    all_there {j} {w} r f on m =
        value_runs.law_runs p accepted input opts range j w r f on (run_more (MeetsObjects t source) (there.Opens source) (λ s x. x.opens) source input opts r m)

    run_meets : {j : Journal} {w : World} (r : Runs source input opts j w) → RunFits source input opts j w r → RunMeets (MeetsObjects t source) source input opts j w r → RunMeets (Meets t any) source input opts j w r
    run_meets begun f m = tt
    run_meets (more r on (gives q n s le)) f m = (run_meets r f.0 m.0, tt)
    run_meets (more r on (no_room q n s le)) f m = (run_meets r f.0 m.0, tt)
    run_meets (more {j} {w} r on (acts q n k s asked d)) f m =
        (run_meets r f.0 m.0, ride_meets d.rides m.1 (begun_stack r n d.given) ((all_there r f.0 on m.0).comes n (answered source d.given (drawn j w n)) (record { given = d.given; processor = q; runs = d.runs; told = d.told; leads = runs.stays }) tt))

pub law_opened_runs : LawOpenedRuns
law_opened_runs p formed accepted input opts range j w r fits on meets = record {
  comes = λ n s c l. all.comes n s c (leads n s c l);
  lives = λ n s c l. all.lives n s c (leads n s c l);
  reads = λ n s c l m.
      let h = good n s c l in
      let st : StackState (Sized p) s = stack n s c in
      let x = meets_at p accepted s st h m (all.lives n s c (leads n s c l)) in
      law_following.reads (table_of p) any (source_of p) (law_sound p formed accepted) s (plain (table_of p) any (Lives (table_of p) any) [] s x.0.0) (law_lives.reads (table_of p) any s x.0) x.1.0;
}
  where
    below : PassesBelow any opts j
    below = record { objects = λ c n l. refl; raws = λ c n l. refl; clusters = λ n l. refl; processors = λ n l. refl }

    all : AllIsKnown (table_of p) any (source_of p) j w
    all = law_known_runs p formed accepted any input opts range j w r fits on below (main_numbered (table_of p) (λ a o. true) ((table_of p).routine (source_of p).main).this 0 (λ c. refl)) (run_meets p accepted input opts range r fits meets)

    there_all : there.AllIsThere (source_of p) j w
    there_all = all_there p accepted input opts range r fits on meets

    start : (n : ℕ) (s : State) (c : Comes (source_of p) j w n s) → GoodBy Any (answered (source_of p) c.given (drawn j w n))
    start n s c = there_all.comes n (answered (source_of p) c.given (drawn j w n)) (record { given = c.given; processor = c.processor; runs = c.runs; told = c.told; leads = runs.stays }) tt

    good : (n : ℕ) (s : State) (c : Comes (source_of p) j w n s) → LeadsMeet (MeetsObjects (table_of p) (source_of p)) (source_of p) (answered (source_of p) c.given (drawn j w n)) s c.leads → GoodBy Any s
    good n s c l = there_all.comes n s c (lead_more (MeetsObjects (table_of p) (source_of p)) (there.Opens (source_of p)) (λ s x. x.opens) (source_of p) c.leads l)

    leads : (n : ℕ) (s : State) (c : Comes (source_of p) j w n s) → LeadsMeet (MeetsObjects (table_of p) (source_of p)) (source_of p) (answered (source_of p) c.given (drawn j w n)) s c.leads → LeadsMeet (Meets (table_of p) any) (source_of p) (answered (source_of p) c.given (drawn j w n)) s c.leads
    leads n s c l = lead_meets p accepted c.leads l (begun_stack p accepted input opts range r n c.given) (start n s c)

    stack : (n : ℕ) (s : State) (c : Comes (source_of p) j w n s) → StackState (Sized p) s
    stack n s c = (stacked.law_frame_runs p accepted input opts j w r).comes n s c
