-- In every run of a program within its limits each step finds what keeps variables that are mutex objects so: where their scopes open they hold what is at
-- home there.
use Rattle.std.proofs.Common.{◌≡◌, ℕ, ◌+◌, ◌*◌, ◌≤◌, ◌<◌, ◌⊎◌, inl, inr, Bool, true, false, List, [], ◌∷◌, length, refl, sym, ap, ◌∙◌, subst, arith}
use Rattle.std.specs.Prelude.{min, drop, slice_index_or}
use Rattle.std.proofs.Math.Nat.{min-le_left, le-min}
use Rattle.uc_tree.specs.Programs.{Program}
use Rattle.uc_tree.specs.Source as src
use Rattle.uc_tree.specs.Source.{Expr, Exprs, CleanUp, Stmt, Stmts, Source}
use Rattle.uc_entry.specs.declared.entry.Entry.{Entry}
use Rattle.uc_entry.specs.declared.entry.Options.{Options}
use Rattle.uc_entry.specs.declared.request.Asked.{Asked}
use Rattle.uc_acts.specs.Journal.{Journal, is_over}
use Rattle.uc_acts.specs.Known.{object_count}
use Rattle.uc_acts.specs.KernelRuns.{InRange}
use Rattle.uc_machine.specs.declared.exec.Exec.{Exec}
use Rattle.uc_machine.specs.declared.exec.Owner.{Owner}
use Rattle.uc_machine.specs.Executions.{others}
use Rattle.uc_machine.specs.Pieces as piece
use Rattle.uc_machine.specs.Pieces.{Link, Slot, Value, Number, Place, Running, Object, Nothing, LAST_ADDRESS, address, nought, Todo, Active, State, top, below, this_frame, variable_at}
use Rattle.uc_machine.specs.Answering.{answered}
use Rattle.uc_machine.specs.Rides as rides
use Rattle.uc_machine.specs.Rides.{Rides}
use Rattle.uc_meaning.specs.Runs.{World, May, Runs, drawn, gives, no_room, acts, begun, more}
use Rattle.uc_resolve.specs.Resolve.{source_of}
use Rattle.uc_rules.specs.Breaks.{breaks_of}
use Rattle.uc_sound.specs.SoundFormed.{IsFormed}
use Rattle.uc_sound.specs.Tables.{table_of}
use Rattle.uc_typing.specs.Typing.{Ty, Num, Cell, Obj, Raw, Row, Clu, Pro, Table, CleansAt}
use Rattle.uc_state_laws.specs.Clusters.{Follows}
use Rattle.uc_state_laws.specs.Counted.{params}
use Rattle.uc_state_laws.specs.Declaring as way
use Rattle.uc_state_laws.specs.Declaring.{IsCount, Point, point_todo, BindsAt, PointHolds, DeclaringBy}
use Rattle.uc_state_laws.specs.Filling as fill
use Rattle.uc_state_laws.specs.Filling.{Array, Kind, fill_todo}
use Rattle.uc_state_laws.specs.Fitting.{RunFits}
use Rattle.uc_state_laws.specs.Layout.{Sized}
use Rattle.uc_state_laws.specs.Limits.{IsWithinLimits}
use Rattle.uc_state_laws.specs.Addressed.{AddressedAt, Addressed}
use Rattle.uc_state_laws.specs.NewClusters as opening
use Rattle.uc_state_laws.specs.NewClusters.{Stage, stage_todo, StageHoldsBy, IsScopeOf, GoodBy}
use Rattle.uc_state_laws.specs.Opening.{EndsField}
use Rattle.uc_state_laws.specs.Opens.{HasAddresses, RideMeets, MayMeet, RunMeets, LeadsMeet}
use Rattle.uc_state_laws.specs.RoomRuns as rooms
use Rattle.uc_state_laws.specs.RoomRuns.{Leads, Comes}
use Rattle.uc_state_laws.specs.Rooms.{Room, IsWithin}
use Rattle.uc_state_laws.specs.RoomStacks.{StackState, UpTo, SomeTo}
use Rattle.uc_state_laws.specs.There.{AllCounted, AtBound, Held}
use Rattle.uc_state_laws.specs.ThereStates as there
use Rattle.uc_state_laws.proofs.AddressWorlds.{law_addressed}
use Rattle.uc_state_laws.proofs.Stacks.{up_to}
use Rattle.uc_state_laws.proofs.StackWalk as stacking
use Rattle.uc_state_laws.proofs.StackWorlds.{law_frame_runs}
use Rattle.uc_state_laws.proofs.Unreferring.{law_accepted}
use Rattle.uc_state_laws.proofs.ValueWorlds.{law_fair}
use Rattle.uc_place_laws.specs.AsideLaws.{Puts}
use Rattle.uc_place_laws.specs.Placed.{Denotes, EndsIt, OpensFor, ScopeFor}
use Rattle.uc_place_laws.proofs.BindingWorlds.{law_runs as binding_runs}
use Rattle.uc_place_laws.proofs.OpenRuns.{law_opens, law_there}
use Rattle.uc_place_laws.proofs.PutsRuns.{law_runs as aside_runs}
use Rattle.uc_life_laws.specs.Things.{Few, IsMutex}
use Rattle.uc_life_laws.specs.LifeStates.{frame_at}
use Rattle.uc_life_laws.specs.Homes.{home_of}
use Rattle.uc_life_laws.specs.MadeObjects.{Binds, BindsAt as BoundAt}
use Rattle.uc_life_laws.specs.HomedStates.{Owns, Inside, all_of_it, own_field, own_element, IsAtHome, HoldsHome, Opens, OpensAt}
use Rattle.uc_life_laws.proofs.Homes.{law_binds}
use Rattle.uc_putting_laws.specs.Putting.{IsHome}
use Rattle.uc_homed_ends.specs.BoundHomes.{OfMutex, OpensMutex, DropMutex, CallMutex, NoVariable, MakesBy, AllUnbound, AtDrop, AtNow, IsUnset, IsSet, IsThat, BoundStack, BoundState}
use Rattle.uc_homed_ends.specs.BoundLaws.{SetsAt, Finds, OpensSetAt, OpensSet, IsWhole, OpensWholeAt, OpensWhole, AwaitsFor, Awaits, LawAwaits, LawSet, LawOpens}
use Rattle.uc_homed_ends.proofs.BoundCells.{opens_both}
use Rattle.uc_homed_ends.proofs.BoundWorlds.{run_bound, leads_bound}

-- what holds in each state to which somebody comes holds in each state of a run

module _ (P : State → Type 0) where
  pub rides_meet : {source : Source} {s u : State} {q k : ℕ} {a : Asked} (d : Rides source s q u k a) → ((v : State) → Leads source s v → P v) → RideMeets P source s q u k a d
  rides_meet rides.slices f = tt
  rides_meet (rides.goes_on {s} {t} e r) f = (f s rooms.stays, rides_meet r (λ v l. f v (rooms.goes e l)))
  rides_meet (rides.ticks {s} {t} e r) f = (f s rooms.stays, rides_meet r (λ v l. f v (rooms.ticks e l)))
  rides_meet (rides.asks {s} {t} e) f = f s rooms.stays

  pub leads_meet : {source : Source} {s u : State} (l : Leads source s u) → ((v : State) → Leads source s v → P v) → LeadsMeet P source s u l
  leads_meet rooms.stays f = tt
  leads_meet (rooms.goes {s} {u} e l) f = (f s rooms.stays, leads_meet l (λ v k. f v (rooms.goes e k)))
  leads_meet (rooms.ticks {s} {u} e l) f = (f s rooms.stays, leads_meet l (λ v k. f v (rooms.ticks e k)))

  may_meet : {source : Source} {opts : Options} {input : List ℕ} {j : Journal} {w : World} {a : List Entry} {x : World} (m : May source opts input j w a x) → ((t : ℕ) (s : State) → Comes source j w t s → P s) → MayMeet P source opts input j w a x m
  may_meet (gives p t s le) f = tt
  may_meet (no_room p t s le) f = tt
  may_meet (acts q t n s asked d) f = rides_meet d.rides (λ v l. f t v (record { given = d.given; processor = q; runs = d.runs; told = d.told; leads = l }))

  pub run_meets : {source : Source} {input : List ℕ} {opts : Options} → ((j : Journal) (w : World) (r : Runs source input opts j w) → RunFits source input opts j w r → is_over j ≡ false → (t : ℕ) (s : State) → Comes source j w t s → P s) → {j : Journal} {w : World} (r : Runs source input opts j w) → RunFits source input opts j w r → RunMeets P source input opts j w r
  run_meets f begun fits = tt
  run_meets f (more {j} {w} r on m) fits = (run_meets f r fits.0, may_meet m (λ t s c. f j w r fits.0 on t s c))

-- the third of two

module _ (P Q R : State → Type 0) (f : (s : State) → P s → Q s → R s) where
  pub ride_zip : {source : Source} {s u : State} {q k : ℕ} {a : Asked} (d : Rides source s q u k a) → RideMeets P source s q u k a d → RideMeets Q source s q u k a d → RideMeets R source s q u k a d
  ride_zip rides.slices h g = tt
  ride_zip (rides.goes_on {s} e r) h g = (f s h.0 g.0, ride_zip r h.1 g.1)
  ride_zip (rides.ticks {s} e r) h g = (f s h.0 g.0, ride_zip r h.1 g.1)
  ride_zip (rides.asks {s} e) h g = f s h g

  pub leads_zip : {source : Source} {s u : State} (l : Leads source s u) → LeadsMeet P source s u l → LeadsMeet Q source s u l → LeadsMeet R source s u l
  leads_zip rooms.stays h g = tt
  leads_zip (rooms.goes {s} e l) h g = (f s h.0 g.0, leads_zip l h.1 g.1)
  leads_zip (rooms.ticks {s} e l) h g = (f s h.0 g.0, leads_zip l h.1 g.1)

  may_zip : {source : Source} {opts : Options} {input : List ℕ} {j : Journal} {w : World} {a : List Entry} {x : World} (m : May source opts input j w a x) → MayMeet P source opts input j w a x m → MayMeet Q source opts input j w a x m → MayMeet R source opts input j w a x m
  may_zip (gives p t s le) h g = tt
  may_zip (no_room p t s le) h g = tt
  may_zip (acts q t n s asked d) h g = ride_zip d.rides h g

  pub run_zip : {source : Source} {input : List ℕ} {opts : Options} {j : Journal} {w : World} (r : Runs source input opts j w) → RunMeets P source input opts j w r → RunMeets Q source input opts j w r → RunMeets R source input opts j w r
  run_zip begun h g = tt
  run_zip (more r on m) h g = (run_zip r h.0 g.0, may_zip m h.1 g.1)

-- the address of a variable that has one of its own

slot_address : (k : ℕ) → k < LAST_ADDRESS → address (Slot k ∷ []) ≡ k
slot_address k l =
    let a : min (0 + k) LAST_ADDRESS ≤ 0 + k = min-le_left (0 + k) LAST_ADDRESS in
    let b : k ≤ min (0 + k) LAST_ADDRESS = le-min (omega arith) (omega (arith, l)) in
    omega (arith, a, b)

-- before a statement that makes an object its variable holds a number

abbrev pub is_then : List Todo → Bool
is_then (piece.Rest (src.Then a ss) ∷ todo) = true
is_then todo = false

abbrev pub first_of : List Todo → Stmt
first_of (piece.Rest (src.Then a ss) ∷ todo) = a
first_of todo = src.Skip 0

pub not_stage : (g : Stage) (k l : ℕ) (ss : Stmts) (todo : List Todo) (s : State) (few : ℕ → Bool) → StageHoldsBy few g k ss s → is_then (stage_todo g k l ss todo) ≡ false
not_stage opening.Does k l ss todo s few h = refl
not_stage opening.Binds k l ss todo s few h = refl
not_stage opening.Places k l ss todo s few h = refl
not_stage opening.Makes k l ss todo s few h = refl
not_stage opening.Orders k l ss todo s few h = refl
not_stage opening.Told k l ss todo s few h = refl
not_stage opening.Bound k l ss todo s few h = refl
not_stage opening.Leaves k l ss todo s few h = refl
not_stage opening.Opens k l (src.Then a ss) todo s few h = absurd h.0
not_stage opening.Opens k l src.Nil todo s few h = refl
not_stage opening.Opens k l (src.Scoped c ss) todo s few h = refl
not_stage opening.Opens k l (src.Built c ss) todo s few h = refl

not_found : (x : Kind) (todo : List Todo) → is_then (fill.found_todo x todo) ≡ false
not_found fill.Cluster todo = refl
not_found (fill.Processor i) todo = refl
not_found (fill.Object c r true) todo = refl
not_found (fill.Object c r false) todo = refl

not_asking : (x : Kind) (todo : List Todo) → is_then (fill.asking_todo x todo) ≡ false
not_asking fill.Cluster todo = refl
not_asking (fill.Processor i) todo = refl
not_asking (fill.Object c r written) todo = refl

not_going : (x : Kind) (todo : List Todo) → is_then (fill.going_todo x todo) ≡ false
not_going fill.Cluster todo = refl
not_going (fill.Processor i) todo = refl
not_going (fill.Object c r true) todo = refl
not_going (fill.Object c r false) todo = refl

not_told : (x : Kind) (todo : List Todo) → is_then (fill.told_todo x todo) ≡ false
not_told fill.Cluster todo = refl
not_told (fill.Processor i) todo = refl
not_told (fill.Object c r written) todo = refl

not_bound : (x : Kind) (y : Array) → is_then (fill.bound_todo x (fill.turn_todo y)) ≡ false
not_bound fill.Cluster y = refl
not_bound (fill.Processor i) y = refl
not_bound (fill.Object c r true) y = refl
not_bound (fill.Object c r false) y = refl

pub not_filling : (g : fill.Stage) (x : Array) → is_then (fill_todo g x) ≡ false
not_filling fill.Does x = refl
not_filling fill.Counts x = refl
not_filling fill.Turns x = refl
not_filling fill.Evals x = refl
not_filling fill.Finds x = refl
not_filling fill.Names x = refl
not_filling fill.Indexes x = refl
not_filling fill.Elements x = refl
not_filling fill.Found x = not_found x.kind (fill.turn_todo x)
not_filling fill.Nears x = not_going x.kind (fill.turn_todo x)
not_filling fill.Asks x = not_asking x.kind (fill.turn_todo x)
not_filling fill.Told x = not_told x.kind (fill.turn_todo x)
not_filling fill.Bound x = not_bound x.kind x
not_filling fill.More x = refl
not_filling fill.Passes x = refl
not_filling fill.Opens x = refl

module _ (few : ℕ → Bool) (s : State) (line c r m : ℕ) (written : Bool) (args : Exprs) (ss : Stmts) (todo : List Todo) where
  abbrev making : Stmt
  making = src.Evaluate line (src.OfObject (src.MakeOn c r written (src.Variable m) args))

  abbrev next : List Todo
  next = piece.Rest (src.Then making ss) ∷ todo

  no_then : (l : List Todo) → is_then l ≡ false → next ≡ l → ⊥
  no_then l h q = let e : true ≡ false = ap is_then q ∙ h in absurd (cc)

  on_way : (g : Point) (k n : ℕ) (b : Stmt) (ends : Stmts) (behind : List Todo) → next ≡ point_todo g b ends behind → BindsAt k n b → PointHolds g k n s → IsUnset (frame_at s.run.frame s.env.frames) m
  on_way (way.Declares l d) k n b ends behind q i h = absurd (no_then _ refl q)
  on_way (way.Lists l d) k n b ends behind q i h = absurd (no_then _ refl q)
  on_way (way.Clears l d) k n b ends behind q i h = absurd (no_then _ refl q)
  on_way (way.Cleared l) k n b ends behind q i h = absurd (no_then _ refl q)
  on_way (way.Passes l) k n b ends behind q i h = absurd (no_then _ refl q)
  on_way way.Reaches k n b ends behind q i h =
      let same : making ≡ b = ap first_of q in
      let at : BindsAt k n making = subst (BindsAt k n) (sym same) i in
      let cell : m ≡ k = at.0 in
      let one : n ≡ 1 = at.1 in
      λ near.
      let is : address (Slot m ∷ []) ≡ m = slot_address m near in
      let where_at : k + 0 ≡ address (Slot m ∷ []) = omega (arith, cell, is) in
      subst (λ i. IsCount (slice_index_or (frame_at s.run.frame s.env.frames) i nought)) where_at (h 0 (omega (arith, one)))

  unset : s.run.control ≡ next → GoodBy few s → IsUnset (frame_at s.run.frame s.env.frames) m
  unset e (inl h) = by h.stack.1
    where
      by : Held few (frame_at s.run.frame s.env.frames) s.run.elements s.run.control → IsUnset (frame_at s.run.frame s.env.frames) m
      by (inl k) = let x : AllCounted few (frame_at s.run.frame s.env.frames) next = subst (AllCounted few (frame_at s.run.frame s.env.frames)) e k in absurd x.0
      by (inr (inl k)) = let x : AtBound few (frame_at s.run.frame s.env.frames) next = subst (AtBound few (frame_at s.run.frame s.env.frames)) e k.0 in absurd x.0
      by (inr (inr k)) = absurd (no_then _ refl (sym e ∙ k.turns))
  unset e (inr (inl d)) = on_way d.point d.cell d.count d.binder d.next d.todo (sym e ∙ d.control) d.binds d.holds
  unset e (inr (inr (inl o))) = absurd (no_then _ (not_stage o.stage o.cell o.line o.next o.todo s few o.holds) (sym e ∙ o.control))
  unset e (inr (inr (inr x))) = absurd (no_then _ (not_filling x.stage x.array) (sym e ∙ x.control))

module _ (few : ℕ → Bool) (s : State) (good : GoodBy few s) where
  declared_by : (a : Stmt) (m d : ℕ) (w : Bool) (rest : Stmts) (todo : List Todo) → s.run.control ≡ piece.Rest (src.Then a (src.Scoped (src.Destroys (src.OfObject (src.EndOn d w (src.Load (src.Variable m))))) rest)) ∷ todo → Follows a (src.Scoped (src.Destroys (src.OfObject (src.EndOn d w (src.Load (src.Variable m))))) rest) → MakesBy a × IsUnset (frame_at s.run.frame s.env.frames) m
  declared_by (src.Evaluate line (src.OfObject (src.MakeOn c r written (src.Variable k) args))) m d w rest todo e f =
      (tt, subst (λ i. IsUnset (frame_at s.run.frame s.env.frames) i) f (unset few s line c r k written args _ todo e good))
  declared_by a m d w rest todo e f = absurd f

  declared : (a : Stmt) (ss : Stmts) (todo : List Todo) → s.run.control ≡ piece.Rest (src.Then a ss) ∷ todo → Follows a ss → OpensMutex (λ k. MakesBy a × IsUnset (frame_at s.run.frame s.env.frames) k) ss
  declared a (src.Scoped (src.Destroys (src.OfObject (src.EndOn d w (src.Load (src.Variable m))))) rest) todo e f = declared_by a m d w rest todo e f
  declared a ss todo e f = tt

-- the place that is bound is that of the variable whose scope opens behind it

module _ (Given : Type 0) (o : Owner) (this v : Value) (name : Expr) (d : Denotes o this name v) where
  named_clean : (c : CleanUp) → EndsIt Given name c → OfMutex (λ k. v ≡ Place o (Slot k ∷ [])) c
  named_clean (src.Destroys (src.OfObject (src.EndOn r written (src.Load (src.Variable k))))) (inl e) = subst (λ (x : Expr). Denotes o this x v) (sym e.0) d
  named_clean (src.Destroys (src.OfObject (src.EndOn r written (src.Load (src.Variable k))))) (inr f) = let g : EndsField (src.OfObject (src.EndOn r written (src.Load (src.Variable k)))) = f in let q = g.field in absurd (cc)
  named_clean c e = tt

  named_open : (ss : Stmts) → OpensFor (EndsIt Given name) ss → OpensMutex (λ k. v ≡ Place o (Slot k ∷ [])) ss
  named_open (src.Scoped c rest) e = named_clean c e
  named_open ss e = tt

  named_call : (todo : List Todo) → ScopeFor Given name (others todo) → CallMutex (λ k. v ≡ Place o (Slot k ∷ [])) todo
  named_call (piece.CallOnNow q ∷ (piece.DropNow ∷ (piece.Within line ∷ (piece.Rest ss ∷ todo)))) e = named_open ss e
  named_call (piece.CallUnwrittenNow q ∷ (piece.DropNow ∷ (piece.Within line ∷ (piece.Rest ss ∷ todo)))) e = named_open ss e
  named_call todo e = tt

module _ (P Q : ℕ → Type 0) (f : (k : ℕ) → P k → Q k) where
  of_more : (c : CleanUp) → OfMutex P c → OfMutex Q c
  of_more (src.Destroys (src.OfObject (src.EndOn r written (src.Load (src.Variable k))))) h = f k h
  of_more c h = tt

  opens_more : (ss : Stmts) → OpensMutex P ss → OpensMutex Q ss
  opens_more (src.Scoped c rest) h = of_more c h
  opens_more ss h = tt

  drop_more : (todo : List Todo) → DropMutex P todo → DropMutex Q todo
  drop_more (piece.DropNow ∷ (piece.Within line ∷ (piece.Rest ss ∷ todo))) h = opens_more ss h
  drop_more todo h = tt

  pub call_more : (todo : List Todo) → CallMutex P todo → CallMutex Q todo
  call_more (piece.CallOnNow r ∷ todo) h = drop_more todo h
  call_more (piece.CallUnwrittenNow r ∷ todo) h = drop_more todo h
  call_more todo h = tt

-- what a step finds but for homes

abbrev pub FoundAt : Source → List Todo → State → Type 0
FoundAt source (piece.BindMadeNow c r ∷ todo) s = CallMutex (λ k. top (drop (params source r) (below s.run.operands)) ≡ variable_at k s) todo
FoundAt source (piece.Rest (src.Then a ss) ∷ todo) s = OpensMutex (λ k. MakesBy a × IsUnset (frame_at s.run.frame s.env.frames) k) ss
FoundAt source todo s = Unit {0}

pub record Known (p : Program) (s : State) : Type 0 where
  pub fair : there.Fair (source_of p) s
  pub puts : Puts (source_of p) s
  pub found : FoundAt (source_of p) s.run.control s
  pub stack : StackState (Sized p) s
  pub addressed : Addressed s

module _ (p : Program) (formed : IsFormed p) (accepted : breaks_of p ≡ []) (within : IsWithinLimits p) (input : List ℕ) (opts : Options) (range : InRange opts) where
  pub known : (j : Journal) (w : World) (r : Runs (source_of p) input opts j w) → RunFits (source_of p) input opts j w r → is_over j ≡ false → (t : ℕ) (s : State) → Comes (source_of p) j w t s → Known p s
  known j w r fits on t s c = record {
    fair = law_fair.fair p (source_of p) s stack (law_opens.comes p formed accepted within input opts range j w r fits on t s c);
    puts = aside_runs.comes p formed accepted input opts range j w r fits on t s c;
    found = by s.run.control refl;
    stack = stack;
    addressed = law_addressed.comes p within input opts j w r t s c;
  }
    where
      stack : StackState (Sized p) s
      stack = (law_frame_runs p accepted input opts j w r).comes t s c

      by : (l : List Todo) → s.run.control ≡ l → FoundAt (source_of p) l s
      by (piece.BindMadeNow k q ∷ todo) e =
          let named = (binding_runs p formed accepted input opts range j w r fits on).made t s c k q todo e in
          named_call _ (this_frame s) s.run.this _ named.name named.denotes todo named.scope
      by (piece.Rest (src.Then a ss) ∷ todo) e =
          let x = subst (SomeTo (Sized p) (UpTo (length (frame_at s.run.frame s.env.frames)))) e (stacking.rooms (Sized p) s stack 0 s.run refl) in
          declared _ s (law_there.comes p formed accepted within input opts range j w r fits on t s c) a ss todo e x.1.0.2
      by l e = tt

  -- with homes

  module _ (few : Few) (homes : ℕ → Value) (many : ℕ) (same : (o : ℕ) → few.home o ≡ homes o) where
    finds : (s : State) → Known p s → Binds (source_of p) homes many s → Finds few (source_of p) s
    finds s k b = record { fair = k.fair; puts = k.puts; sets = by s.run.control k.found b }
      where
        by : (l : List Todo) → FoundAt (source_of p) l s → BoundAt (source_of p) homes many l s → SetsAt few (source_of p) l s
        by (piece.BindMadeNow c r ∷ todo) f b =
            call_more (λ i. top (drop (params (source_of p) r) (below s.run.operands)) ≡ variable_at i s) (λ i. IsHome few (top s.run.operands) (variable_at i s)) (λ i e. record { number = b.number; object = b.object; home = same b.number ∙ b.home ∙ e }) todo f
        by (piece.Rest (src.Then a ss) ∷ todo) f b = f
        by l f b = tt

-- where a scope opens

-- the variable of a scope has an address of its own
scope_low : (p : Program) (s : State) → StackState (Sized p) s → Addressed s → (d k : ℕ) (w : Bool) (rest : Stmts) (todo : List Todo) → s.run.control ≡ piece.Rest (src.Scoped (src.Destroys (src.OfObject (src.EndOn d w (src.Load (src.Variable k))))) rest) ∷ todo → k < LAST_ADDRESS
scope_low p s st ad d k w rest todo e =
    let x = subst (SomeTo (Sized p) (UpTo (length (frame_at s.run.frame s.env.frames)))) e (stacking.rooms (Sized p) s st 0 s.run refl) in
    let room : Room = x.0 in
    let high : room.high ≤ length (frame_at s.run.frame s.env.frames) = up_to (Sized p) (length (frame_at s.run.frame s.env.frames)) room todo x.1.1 in
    let inner : Room = x.1.0.0 in
    let within : IsWithin room inner = x.1.0.1 in
    let cells = within.cells in
    let up = within.high in
    let lies : k + 1 * 1 ≤ inner.low = x.1.0.2.0.1 in
    let short : HasAddresses s = subst (λ l. AddressedAt l s) e ad in
    omega (arith, high, cells, up, lies, short)

module _ (p : Program) (few : Few) (s : State) (k : Known p s) (b : BoundState few (source_of p) true s) where
  abbrev values : List Value
  values = frame_at s.run.frame s.env.frames

  abbrev Set : List Todo → Type 0
  Set l = AtNow (IsUnset values) (IsSet few s.env.exec values s.run.frame) (λ r. IsThat few s.env.exec (top (drop (params (source_of p) r) s.run.operands)) values s.run.frame) l

  set_clean : (c : CleanUp) (rest : Stmts) (todo : List Todo) → s.run.control ≡ piece.Rest (src.Scoped c rest) ∷ todo → OfMutex (λ i. IsHome few (slice_index_or (frame_at s.run.frame s.env.frames) (address (Slot i ∷ [])) nought) (variable_at i s)) c
  set_clean (src.Destroys (src.OfObject (src.EndOn d w (src.Load (src.Variable i))))) rest todo e = by b.run
    where
      by : AllUnbound (IsUnset values) s.run.control ⊎ Set s.run.control → IsHome few (slice_index_or values (address (Slot i ∷ [])) nought) (variable_at i s)
      by (inl h) = let x = subst (AllUnbound (IsUnset values)) e h in absurd x.0
      by (inr h) = let x = subst Set e h in x.0 (scope_low p s k.stack k.addressed d i w rest todo e)
  set_clean c rest todo e = tt

  pub opens_set : OpensSet few s
  opens_set = by s.run.control refl
    where
      by : (l : List Todo) → s.run.control ≡ l → OpensSetAt few l s
      by (piece.Rest (src.Scoped c rest) ∷ todo) e = set_clean c rest todo e
      by l e = tt

module _ (p : Program) (formed : IsFormed p) (accepted : breaks_of p ≡ []) (within : IsWithinLimits p) (few : Few) (input : List ℕ) (opts : Options) (range : InRange opts) {j : Journal} {w : World} (r : Runs (source_of p) input opts j w) (fits : RunFits (source_of p) input opts j w r) (same : (o : ℕ) → few.home o ≡ home_of (source_of p) input opts j w r o) where
  abbrev Told : State → Type 0
  Told s = Binds (source_of p) (home_of (source_of p) input opts j w r) (object_count j) s

  known_run : RunMeets (Known p) (source_of p) input opts j w r
  known_run = run_meets (Known p) (known p formed accepted within input opts range) r fits

  finds_run : RunMeets (Finds few (source_of p)) (source_of p) input opts j w r
  finds_run = run_zip (Known p) Told (Finds few (source_of p)) (finds p formed accepted within input opts range few (home_of (source_of p) input opts j w r) (object_count j) same) r known_run (law_binds.runs (source_of p) input opts j w r range fits)

  pub begins : there.SourceBegins (source_of p)
  begins = law_fair.begins p (source_of p) (law_accepted p accepted)

  pub bound_run : RunMeets (BoundState few (source_of p) true) (source_of p) input opts j w r
  bound_run = (run_bound few (source_of p) begins input opts range r fits finds_run).1

  set_run : RunMeets (OpensSet few) (source_of p) input opts j w r
  set_run = run_zip (Known p) (BoundState few (source_of p) true) (OpensSet few) (opens_set p few) r known_run bound_run

  module _ (on : is_over j ≡ false) (t : ℕ) (s : State) (c : Comes (source_of p) j w t s) where
    known_leads : LeadsMeet (Known p) (source_of p) (answered (source_of p) c.given (drawn j w t)) s c.leads
    known_leads = leads_meet (Known p) c.leads (λ v l. known p formed accepted within input opts range j w r fits on t v (record { given = c.given; processor = c.processor; runs = c.runs; told = c.told; leads = l }))

    bound_leads : BoundState few (source_of p) true s × LeadsMeet (BoundState few (source_of p) true) (source_of p) (answered (source_of p) c.given (drawn j w t)) s c.leads
    bound_leads =
        let finds_leads : LeadsMeet (Finds few (source_of p)) (source_of p) (answered (source_of p) c.given (drawn j w t)) s c.leads = leads_zip (Known p) Told (Finds few (source_of p)) (finds p formed accepted within input opts range few (home_of (source_of p) input opts j w r) (object_count j) same) c.leads known_leads (law_binds.leads (source_of p) input opts j w r range fits on t s c).0 in
        leads_bound few (source_of p) begins input opts range r fits finds_run on t s c finds_leads

    set_leads : OpensSet few s × LeadsMeet (OpensSet few) (source_of p) (answered (source_of p) c.given (drawn j w t)) s c.leads
    set_leads = (
      opens_set p few s (known p formed accepted within input opts range j w r fits on t s c) bound_leads.0,
      leads_zip (Known p) (BoundState few (source_of p) true) (OpensSet few) (opens_set p few) c.leads known_leads bound_leads.1,
    )

-- what an activation waits for is of the object that it bound

waits_for : (Q S P : ℕ → Type 0) (f : (k : ℕ) → S k → P k) (todo : List Todo) → AllUnbound Q todo ⊎ AtDrop Q S todo → DropMutex P todo
waits_for Q S P f (piece.DropNow ∷ (piece.Within line ∷ (piece.Rest ss ∷ todo))) (inl h) = opens_both NoVariable NoVariable P (λ k x y. absurd x) ss h.1.1.0 h.1.1.0
waits_for Q S P f (piece.DropNow ∷ (piece.Within line ∷ (piece.Rest ss ∷ todo))) (inr h) = opens_both S S P (λ k x y. f k x) ss h.0 h.0
waits_for Q S P f todo h = tt

awaits_for : (few : Few) (n : Exec) (fs : List (List Value)) (v : Value) (cs : List Active) → BoundStack few n fs v cs → AwaitsFor fs v cs
awaits_for few n fs v [] h = tt
awaits_for few n fs v (a ∷ older) h =
    (waits_for (IsUnset (frame_at a.frame fs)) (IsThat few n v (frame_at a.frame fs) a.frame) (λ k. k < LAST_ADDRESS → slice_index_or (frame_at a.frame fs) (address (Slot k ∷ [])) nought ≡ v) (λ k x l. (x l).1) a.control h.1, awaits_for few n fs a.this older h.2)

pub law_set : LawSet
law_set = record {
  runs = λ p formed accepted within few input opts range j w r fits same. set_run p formed accepted within few input opts range r fits same;
  leads = λ p formed accepted within few input opts range j w r fits same on t s c. set_leads p formed accepted within few input opts range r fits same on t s c;
}

module _ (p : Program) (formed : IsFormed p) (accepted : breaks_of p ≡ []) (within : IsWithinLimits p) (input : List ℕ) (opts : Options) (range : InRange opts) {j : Journal} {w : World} (r : Runs (source_of p) input opts j w) (fits : RunFits (source_of p) input opts j w r) where
  -- with the homes that the run tells
  abbrev told : Few
  told = record { numbers = λ a o. false; home = λ o. home_of (source_of p) input opts j w r o; base = λ n v a. false }

  abbrev Bound : State → Type 0
  Bound s = BoundState told (source_of p) true s

  awaits_at : (s : State) → Known p s → Bound s → Awaits s
  awaits_at s k b = awaits_for told s.env.exec s.env.frames s.run.this s.callers b.callers

  awaits_run : RunMeets Awaits (source_of p) input opts j w r
  awaits_run = run_zip (Known p) Bound Awaits awaits_at r (known_run p formed accepted within told input opts range r fits (λ o. refl)) (bound_run p formed accepted within told input opts range r fits (λ o. refl))

  awaits_leads : is_over j ≡ false → (t : ℕ) (s : State) (c : Comes (source_of p) j w t s) → Awaits s × LeadsMeet Awaits (source_of p) (answered (source_of p) c.given (drawn j w t)) s c.leads
  awaits_leads on t s c =
      let b = bound_leads p formed accepted within told input opts range r fits (λ o. refl) on t s c in
      (awaits_for told s.env.exec s.env.frames s.run.this s.callers b.0.callers, leads_zip (Known p) Bound Awaits awaits_at c.leads (known_leads p formed accepted within told input opts range r fits (λ o. refl) on t s c) b.1)

pub law_awaits : LawAwaits
law_awaits = record {
  runs = λ p formed accepted within input opts range j w r fits. awaits_run p formed accepted within input opts range r fits;
  leads = λ p formed accepted within input opts range j w r fits on t s c. awaits_leads p formed accepted within input opts range r fits on t s c;
}

-- so each scope opens where mutex objects are at home

abbrev path_of : Value → List Link
path_of (Place o p) = p
path_of v = []

module _ (t : Table) (owns : Owns) where
  -- nothing lies within a binding but that itself
  inside_cell : {w : Value} {d : Ty} {v : Value} {b : Ty} → Inside t owns w (Cell d) v b → (v ≡ w) × (b ≡ Cell d)
  inside_cell all_of_it = (refl, refl)
  inside_cell (own_field h i f o) = let q = (inside_cell h).1 in absurd (cc)
  inside_cell (own_element h j l) = let q = (inside_cell h).1 in absurd (cc)

  abbrev type_of : Ty → Ty → Ty
  type_of x (Cell d) = d
  type_of x d = x

  module _ (few : Few) (n : Exec) (o : Owner) (vs : List Value) (k : ℕ) where
    -- of a binding to what is no mutex object nothing is asked
    no_mutex : (d : Ty) → (IsMutex t d → ⊥) → HoldsHome t owns few n o vs (Place o (Slot k ∷ [])) (Cell d)
    no_mutex d f p b i m =
        let q : b ≡ d = ap (type_of Num) (inside_cell i).1 in
        absurd (f (subst (IsMutex t) q m))

    one_home : (d : Ty) → IsHome few (slice_index_or vs (address (Slot k ∷ [])) nought) (Place o (Slot k ∷ [])) → HoldsHome t owns few n o vs (Place o (Slot k ∷ [])) (Cell d)
    one_home d h p b i m =
        let q : p ≡ Slot k ∷ [] = ap path_of (inside_cell i).0 in
        subst (λ l. IsAtHome t owns few n (slice_index_or vs (address l) nought) (Place o l)) (sym q) (h.number, h.object, h.home)

  -- what cleans up a variable that is a mutex object
  pub cleans_cell : (e k : ℕ) (P : ℕ → Type 0) (c : CleanUp) → CleansAt t (Cell (Obj e)) (src.Variable k) c → OfMutex P c → P k
  cleans_cell e k P (src.Destroys (src.OfObject (src.EndOn r written (src.Load y)))) h o =
      subst (λ (x : Expr). OfMutex P (src.Destroys (src.OfObject (src.EndOn r written (src.Load x))))) (sym h.0) o
  cleans_cell e k P c h o = absurd h

  module _ (few : Few) (s : State) (set : OpensSet few s) (whole : OpensWhole t owns few s) where
    abbrev here : List Value
    here = frame_at s.run.frame s.env.frames

    abbrev Homed : ℕ → Ty → Type 0
    Homed k a = HoldsHome t owns few s.env.exec (this_frame s) here (variable_at k s) a

    clean_homed : (c : CleanUp) → OfMutex (λ i. IsHome few (slice_index_or here (address (Slot i ∷ [])) nought) (variable_at i s)) c → ((k : ℕ) (a : Ty) → IsWhole a → CleansAt t a (src.Variable k) c → Homed k a) → (k : ℕ) (a : Ty) → CleansAt t a (src.Variable k) c → Homed k a
    clean_homed c h f k (Cell (Obj e)) q = one_home few s.env.exec (this_frame s) here k (Obj e) (cleans_cell e k (λ i. IsHome few (slice_index_or here (address (Slot i ∷ [])) nought) (variable_at i s)) c q h)
    clean_homed c h f k (Cell Num) q = no_mutex few s.env.exec (this_frame s) here k Num (λ m. m)
    clean_homed c h f k (Cell (Cell a)) q = no_mutex few s.env.exec (this_frame s) here k (Cell a) (λ m. m)
    clean_homed c h f k (Cell (Raw e)) q = no_mutex few s.env.exec (this_frame s) here k (Raw e) (λ m. m)
    clean_homed c h f k (Cell (Row m a)) q = no_mutex few s.env.exec (this_frame s) here k (Row m a) (λ m. m)
    clean_homed c h f k (Cell Clu) q = no_mutex few s.env.exec (this_frame s) here k Clu (λ m. m)
    clean_homed c h f k (Cell Pro) q = no_mutex few s.env.exec (this_frame s) here k Pro (λ m. m)
    clean_homed c h f k Num q = f k Num tt q
    clean_homed c h f k (Obj e) q = f k (Obj e) tt q
    clean_homed c h f k (Raw e) q = f k (Raw e) tt q
    clean_homed c h f k (Row m a) q = f k (Row m a) tt q
    clean_homed c h f k Clu q = f k Clu tt q
    clean_homed c h f k Pro q = f k Pro tt q

    pub opens : Opens t owns few s
    opens = by s.run.control set whole
      where
        by : (l : List Todo) → OpensSetAt few l s → OpensWholeAt t owns few l s → OpensAt t owns few l s
        by (piece.Rest (src.Scoped c rest) ∷ todo) h f = clean_homed c h f
        by l h f = tt

pub law_opens_all : LawOpens
law_opens_all = record {
  runs = λ p formed accepted within owns few input opts range j w r fits same whole.
      run_zip (OpensSet few) (OpensWhole (table_of p) owns few) (Opens (table_of p) owns few) (λ s h f. opens (table_of p) owns few s h f) r (law_set.runs p formed accepted within few input opts range j w r fits same) whole;
  leads = λ p formed accepted within owns few input opts range j w r fits same on t s c whole.
      leads_zip (OpensSet few) (OpensWhole (table_of p) owns few) (Opens (table_of p) owns few) (λ s h f. opens (table_of p) owns few s h f) c.leads (law_set.leads p formed accepted within few input opts range j w r fits same on t s c).1 whole;
}
