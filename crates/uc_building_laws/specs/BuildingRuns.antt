-- Runs of programs in which objects hold what is known where their scopes open, since constructors leave them so.
use Rattle.std.specs.Prelude.{◌≡◌, ℕ, ◌⊎◌, Bool, true, false, List, [], ◌∷◌, Some, slice_get, slice_index_or}
use Rattle.uc_tree.specs.Programs.{Program}
use Rattle.uc_tree.specs.Source.{Source, Routine, Variable, CleanUp, Stmts, Scoped}
use Rattle.uc_entry.specs.declared.entry.Options.{Options}
use Rattle.uc_acts.specs.Journal.{Journal, is_over}
use Rattle.uc_acts.specs.KernelRuns.{InRange}
use Rattle.uc_machine.specs.declared.exec.Owner.{Owner}
use Rattle.uc_machine.specs.declared.exec.Owner.TheVariants.{Frame}
use Rattle.uc_machine.specs.Pieces.{Link, FieldAt, Todo, Value, Place, DropNow, Within, Rest, CallOnNow, CallUnwrittenNow, further, address, nought}
use Rattle.uc_machine.specs.Quiet.{State, call_frame}
use Rattle.uc_machine.specs.Answering.{answered}
use Rattle.uc_meaning.specs.Runs.{World, Runs, drawn}
use Rattle.uc_state_laws.specs.Fitting.{RunFits}
use Rattle.uc_resolve.specs.Resolve.{source_of}
use Rattle.uc_rules.specs.Breaks.{breaks_of}
use Rattle.uc_state_laws.specs.Limits.{IsWithinLimits}
use Rattle.uc_state_laws.specs.RoomRuns.{Comes}
use Rattle.uc_state_laws.specs.Opens as there
use Rattle.uc_state_laws.specs.Opens.{RunMeets, LeadsMeet}
use Rattle.uc_typing.specs.Typing.{Ty, Num, Cell, Obj, Raw, Row, Clu, Pro, Sig, Table, IsParam, CleansAt}
use Rattle.uc_typing.specs.States.{IsNumbered, Sound}
use Rattle.uc_sound.specs.SoundFormed.{IsFormed}
use Rattle.uc_sound.specs.Tables.{table_of}
use Rattle.uc_life_laws.specs.Things.{Few, IsField, IsUnbound, Known, Holds}
use Rattle.uc_life_laws.specs.LifeStates.{frame_at, Outwards}
use Rattle.uc_life_laws.specs.Lives.{OutwardsOrMade}
use Rattle.uc_life_laws.specs.Knowing.{KnowsState, Finds}
use Rattle.uc_life_laws.specs.Opened.{any}
use Rattle.uc_life_laws.specs.OpenedRuns.{MeetsObjects}
use Rattle.uc_place_laws.specs.Opened.{ArePaired}
use Rattle.uc_building_laws.specs.Building.{heads_of, InHead}
use Rattle.uc_building_laws.specs.Pairs.{AreKinded}
use Rattle.uc_building_laws.specs.BuildingStates.{variable, AtScope, BuiltState}
use Rattle.uc_building_laws.specs.BuildingLaws.{IsSpanned}

-- where the scope of an object opens, the fields of which `heads` does not tell hold what is known by these kinds; where that of an array of objects
-- opens, they do. Nothing is asked of fields and of arrays in which nothing is bound
pub record OthersHold (t : Table) (heads : ℕ → ℕ → Bool) (few : Few) (kinds : List Sig) (s : State) : Type 0 where
  pub fields : (c : CleanUp) (rest : Stmts) (todo : List Todo) → s.run.control ≡ Rest (Scoped c rest) ∷ todo →
      (k i : ℕ) → CleansAt t (Obj i) (Variable k) c → (m : ℕ) → IsField t i m → heads i m ≡ false →
      (IsUnbound t (t.fields i m) → ⊥) →
      Holds t few s.env.exec (OutwardsOrMade kinds (Outwards t few s.env.exec s.run.frame s.run.this s.callers c todo) s.env.exec s.run.frame s.run.this s.callers) (Frame s.env.exec s.run.frame) (frame_at s.run.frame s.env.frames) (further (FieldAt (t.shape i) m) (variable s.env.exec s.run.frame k)) (t.fields i m)
  pub arrays : (c : CleanUp) (rest : Stmts) (todo : List Todo) → s.run.control ≡ Rest (Scoped c rest) ∷ todo →
      (k m i : ℕ) → CleansAt t (Row m (Obj i)) (Variable k) c → (IsUnbound t (Row m (Obj i)) → ⊥) →
      Holds t few s.env.exec (OutwardsOrMade kinds (Outwards t few s.env.exec s.run.frame s.run.this s.callers c todo) s.env.exec s.run.frame s.run.this s.callers) (Frame s.env.exec s.run.frame) (frame_at s.run.frame s.env.frames) (variable s.env.exec s.run.frame k) (Row m (Obj i))

-- a step finds what it is to find: what it binds is there behind it; and by some kinds by which objects
-- that are built hold what is known, it finds what it reads, and other fields and arrays hold what is known where scopes open
pub record MeetsBuilding (t : Table) (heads : ℕ → ℕ → Bool) (source : Source) (s : State) : Type 0 where
  pub opens : there.Opens source s
  pub finds : BuiltState t heads any [] s → (x : BuiltState t heads any [] s) ×
      (Finds t any x.0.sigs x.0.run.sig x.0.run.scope s s.run.control x.0.run.own × OthersHold t heads any x.0.sigs s)

-- what is known by its number
abbrev pub IsByNumber : Table → Ty → Type 0
IsByNumber t Num = ⊥
IsByNumber t (Cell a) = ⊥
IsByNumber t (Obj c) = t.mutex c ≡ true
IsByNumber t (Raw c) = ⊥
IsByNumber t (Row n a) = ⊥
IsByNumber t Clu = Unit {0}
IsByNumber t Pro = Unit {0}

-- the constructor of a class of which variables are declared, and which is no mutex class, binds each field that `heads_of` tells in one of its first
-- statements, to what is of the type that stands there, or nothing is bound there at all, and its declaration has all its cells; so it is in each program that breaks no rule. What it is given
-- is known to what is at hand outwards of the scope that opens behind its call, whatever is being built or destroyed then, and in destructors too. Of a
-- cell for a mutex object, a cluster or a processor, or for a reference to one, it is enough that it holds an object
pub record LawHeads : Type 0 where
  pub binds : (p : Program) → IsFormed p → breaks_of p ≡ [] → (r d : ℕ) (x : ArePaired p r d) →
      (q : Routine) → slice_get (source_of p).routines r ≡ Some q → (i : ℕ) →
      heads_of p x.class i ≡ true →
      InHead (table_of p) (heads_of p) ((table_of p).routine r).params x.class i q.body ⊎ IsUnbound (table_of p) ((table_of p).fields x.class i)
  pub spans : (p : Program) → IsFormed p → breaks_of p ≡ [] → IsSpanned p (table_of p)
  pub kinds : (p : Program) → IsFormed p → breaks_of p ≡ [] → AreKinded p (table_of p)
  pub given : (t : Table) (few : Few) (source : Source) → Sound t source → (s : State) (x : KnowsState t few [] s) →
      (r line : ℕ) (c : CleanUp) (rest : Stmts) (todo : List Todo) →
      (s.run.control ≡ CallOnNow r ∷ (DropNow ∷ (Within line ∷ (Rest (Scoped c rest) ∷ todo)))) ⊎
      (s.run.control ≡ CallUnwrittenNow r ∷ (DropNow ∷ (Within line ∷ (Rest (Scoped c rest) ∷ todo)))) →
      (q : Routine) → slice_get source.routines r ≡ Some q → (j : ℕ) (b : Ty) → IsParam (t.routine r).params j b →
      Known t few s.env.exec (AtScope t few x.sigs s.env.exec s.run.frame s.run.this s.callers c todo) b (slice_index_or (call_frame q s.run.operands) j nought)
  pub numbered : (t : Table) (s : State) (c : CleanUp) (todo : List Todo) (o : Owner) (vs : List Value) (p : List Link) (b : Ty) →
      IsByNumber t b → IsNumbered (slice_index_or vs (address p) nought) →
      Holds t any s.env.exec (Outwards t any s.env.exec s.run.frame s.run.this s.callers c todo) o vs (Place o p) (Cell b)

-- then all is known by kinds by which objects that are built hold what is known, and they do where their scopes open, in each run of a program that breaks no rule, as long as all that was asked before
-- fits and it is within its limits: at each step so far, at each on the way to a state to which whoever runs comes before it asks, and there
pub record LawBuilt : Type 0 where
  pub comes : (p : Program) → IsFormed p → breaks_of p ≡ [] → IsWithinLimits p →
      (input : List ℕ) (opts : Options) → InRange opts → (j : Journal) (w : World) →
      (r : Runs (source_of p) input opts j w) → RunFits (source_of p) input opts j w r →
      is_over j ≡ false →
      RunMeets (MeetsBuilding (table_of p) (heads_of p) (source_of p)) (source_of p) input opts j w r →
      (n : ℕ) (s : State) (c : Comes (source_of p) j w n s) →
      LeadsMeet (MeetsBuilding (table_of p) (heads_of p) (source_of p)) (source_of p) (answered (source_of p) c.given (drawn j w n)) s c.leads →
      BuiltState (table_of p) (heads_of p) any [] s
  pub runs : (p : Program) → IsFormed p → breaks_of p ≡ [] → IsWithinLimits p →
      (input : List ℕ) (opts : Options) → InRange opts → (j : Journal) (w : World) →
      (r : Runs (source_of p) input opts j w) → RunFits (source_of p) input opts j w r →
      RunMeets (MeetsBuilding (table_of p) (heads_of p) (source_of p)) (source_of p) input opts j w r →
      RunMeets (MeetsObjects (table_of p) (source_of p)) (source_of p) input opts j w r
  pub leads : (p : Program) → IsFormed p → breaks_of p ≡ [] → IsWithinLimits p →
      (input : List ℕ) (opts : Options) → InRange opts → (j : Journal) (w : World) →
      (r : Runs (source_of p) input opts j w) → RunFits (source_of p) input opts j w r →
      is_over j ≡ false →
      RunMeets (MeetsBuilding (table_of p) (heads_of p) (source_of p)) (source_of p) input opts j w r →
      (n : ℕ) (s : State) (c : Comes (source_of p) j w n s) →
      LeadsMeet (MeetsBuilding (table_of p) (heads_of p) (source_of p)) (source_of p) (answered (source_of p) c.given (drawn j w n)) s c.leads →
      LeadsMeet (MeetsObjects (table_of p) (source_of p)) (source_of p) (answered (source_of p) c.given (drawn j w n)) s c.leads
  pub here : (p : Program) → IsFormed p → breaks_of p ≡ [] → IsWithinLimits p →
      (input : List ℕ) (opts : Options) → InRange opts → (j : Journal) (w : World) →
      (r : Runs (source_of p) input opts j w) → RunFits (source_of p) input opts j w r →
      is_over j ≡ false →
      RunMeets (MeetsBuilding (table_of p) (heads_of p) (source_of p)) (source_of p) input opts j w r →
      (n : ℕ) (s : State) (c : Comes (source_of p) j w n s) →
      LeadsMeet (MeetsBuilding (table_of p) (heads_of p) (source_of p)) (source_of p) (answered (source_of p) c.given (drawn j w n)) s c.leads →
      MeetsBuilding (table_of p) (heads_of p) (source_of p) s → MeetsObjects (table_of p) (source_of p) s
