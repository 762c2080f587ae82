-- A state in order tells of the object at hand that it has the number of one that is whole, where it is, or is not gone; of a cluster that is a variable the
-- run does, and of a plain object its constructor.
use Rattle.std.proofs.Common.{◌≡◌, ℕ, zero, suc, ◌<◌, ◌⊎◌, inl, inr, ⊎_elim, Bool, true, false, List, [], ◌∷◌, Option, Some, refl, sym, ap, ◌∙◌, subst}
use Rattle.std.specs.Prelude.{nat_lt, if◌then◌else◌, slice_index_or}
use Rattle.std.proofs.lemmas.Bool.{ltb-true}
use Rattle.uc_tree.specs.Programs.{Program}
use Rattle.uc_tree.specs.Source as src
use Rattle.uc_tree.specs.Source.{Shape, Expr, ObjectExpr, Source, CleanUp, Stmts}
use Rattle.uc_entry.specs.declared.entry.Options.{Options}
use Rattle.uc_entry.specs.declared.request.Answer.{Answer}
use Rattle.uc_entry.specs.declared.request.Asked.{Asked}
use Rattle.uc_acts.specs.Journal.{Journal, is_over}
use Rattle.uc_acts.specs.Known.{is_gone}
use Rattle.uc_acts.specs.Queues.{running, cluster_count}
use Rattle.uc_acts.specs.Answers.{answer_to}
use Rattle.uc_acts.specs.Serves.{left}
use Rattle.uc_acts.specs.KernelRuns.{InRange}
use Rattle.uc_machine.specs.declared.exec.Exec.{Exec}
use Rattle.uc_machine.specs.declared.exec.Owner.TheVariants.{Frame}
use Rattle.uc_machine.specs.Executions.{others}
use Rattle.uc_machine.specs.Switches.{new_exec}
use Rattle.uc_machine.specs.Monitors.{this_object}
use Rattle.uc_machine.specs.Pieces as piece
use Rattle.uc_machine.specs.Pieces.{Link, Slot, FieldAt, Value, Number, Place, Running, Object, Nothing, Todo, State, Goes, at, further, loaded, top, variable_at, address, nought}
use Rattle.uc_machine.specs.Quiet.{quiet, act_todo, home_at}
use Rattle.uc_typing.specs.Pieces.{Ok}
use Rattle.uc_machine.specs.Answering.{answered}
use Rattle.uc_machine.specs.Rides as rides
use Rattle.uc_machine.specs.Rides.{Rides}
use Rattle.uc_meaning.specs.Runs.{World, Runs, AsksIn, drawn, gives, no_room, acts, begun, more}
use Rattle.uc_resolve.specs.Resolve.{source_of}
use Rattle.uc_rules.specs.Breaks.{breaks_of}
use Rattle.uc_sound.specs.SoundFormed.{IsFormed}
use Rattle.uc_sound.specs.Tables.{table_of}
use Rattle.uc_state_laws.specs.Fitting.{RunFits}
use Rattle.uc_state_laws.specs.Limits.{IsWithinLimits}
use Rattle.uc_state_laws.specs.RoomRuns as rooms
use Rattle.uc_state_laws.specs.RoomRuns.{Leads, Comes}
use Rattle.uc_state_laws.specs.Opens as there
use Rattle.uc_state_laws.specs.There as standing
use Rattle.uc_state_laws.specs.Opens.{HasAddresses, RideMeets, RunMeets}
use Rattle.uc_state_laws.specs.Endings.{still_reading, RideHolds}
use Rattle.uc_place_laws.proofs.OpenRuns.{law_opens, law_there}
use Rattle.uc_place_laws.specs.OpeningLaws.{IsCalled}
use Rattle.uc_place_laws.proofs.OpeningRuns.{law_runs as called}
use Rattle.uc_place_laws.specs.Sparing.{Sparing}
use Rattle.uc_place_laws.specs.Addresses.{AreAddressed}
use Rattle.uc_place_laws.proofs.SparingRuns.{law_sparing}
use Rattle.uc_place_laws.proofs.Addresses.{law_addresses}
use Rattle.uc_building_laws.specs.Building.{heads_of}
use Rattle.uc_building_laws.specs.BuildingStates.{Built, BuiltState}
use Rattle.uc_building_laws.specs.BuiltEndings.{BuiltOutside}
use Rattle.uc_building_laws.specs.BuiltReads.{reads_bound}
use Rattle.uc_building_laws.specs.ScopedReads.{in_own, in_others}
use Rattle.uc_building_laws.proofs.Building.{whole_built, where_bound}
use Rattle.uc_building_laws.proofs.BuiltReads.{law_built_reads}
use Rattle.uc_building_laws.proofs.Constructors.{fair}
use Rattle.uc_building_laws.proofs.Kept.{law_kept}
use Rattle.uc_building_laws.proofs.ScopedReads.{others_are, law_scoped_reads}
use Rattle.uc_lasting_programs.proofs.Lent.{HasLent, HasRead, read_told, lent_read}
use Rattle.uc_lasting_programs.proofs.Lying.{base_things, HasItsHome, lying_known, seen_known}
use Rattle.uc_typing.specs.Typing.{Ty, Num, Cell, Obj, Raw, Row, Clu, Pro, Name, Sig, Table, CleansAt, Yields, object_ty}
use Rattle.uc_typing.specs.States.{Is}
use Rattle.uc_life_laws.specs.Things.{Few, Base, itself, IsField, IsBinding, Holds, IsFew, LiesIn, Known, IsMutex, Within}
use Rattle.uc_life_laws.specs.HomedStates.{Owns, OpensAt, Opens}
use Rattle.uc_life_laws.specs.LifeStates.{Outwards, frame_at, OpensAtBy}
use Rattle.uc_life_laws.specs.Lives.{OutwardsOrMade}
use Rattle.uc_life_laws.specs.Lasting.{lasting, RunMeetsAt}
use Rattle.uc_life_laws.specs.Silent.{AllSilent}
use Rattle.uc_life_laws.specs.KnownRuns.{PassesBelow}
use Rattle.uc_life_laws.specs.Knowing.{AtHand, Here, KnownThis, HasObject, ReadsKnown, IsStill, main_of, FindsObject, FindsExpr, Finds}
use Rattle.uc_life_laws.specs.Endings.{RawsPass}
use Rattle.uc_life_laws.proofs.Endings.{goes_on, ticks_on}
use Rattle.uc_life_laws.proofs.KindsLemmas.{plain}
use Rattle.uc_life_laws.proofs.KnownWorlds.{earlier}
use Rattle.uc_life_laws.proofs.OpenedRuns.{good_counted}
use Rattle.uc_cell_laws.specs.OwnCells.{owns_of}
use Rattle.uc_putting_laws.specs.Putting.{IsHome}
use Rattle.uc_homed_ends.specs.BoundLaws.{OpensSetAt, OpensSet}
use Rattle.uc_homed_ends.specs.Elements.{no_fields}
use Rattle.uc_homed_ends.proofs.BoundRuns.{cleans_cell}
use Rattle.uc_lasting_programs.specs.Meeting.{RunHoldsAt}
use Rattle.uc_lasting_programs.specs.Lent.{reads_lent}
use Rattle.uc_lasting_programs.specs.Lying.{LiesLeft}
use Rattle.uc_lasting_programs.specs.Remaining.{BoundLeft, ReadsLeft, UnlessLent, was_made, ObjectLeft, ExprLeft, FindsLeft, IsLeftCells, OpensLeftAt, LeftOutside}
use Rattle.uc_lasting_programs.proofs.OfOthers.{HasOthers}
use Rattle.uc_lasting_programs.proofs.Clusters.{is_cluster, cluster_holds, within_cell}
use Rattle.uc_lasting_programs.proofs.MutexScopes.{mutex_holds, left_holds}
use Rattle.uc_lasting_programs.proofs.OwnScopes.{IsKind, OwnedAt, OwnedBy, Owned}
use Rattle.uc_lasting_programs.proofs.Resources.{IsNumberCells, number_kind, resource_holds}
use Rattle.uc_lasting_programs.proofs.LettingStates.{is_mutex}
use Rattle.uc_lasting_programs.proofs.Presence.{alone, no_place}
use Rattle.uc_lasting_programs.proofs.PresentRides.{IsPresent}
use Rattle.uc_lasting_programs.proofs.SetHere.{made_homes, set_few}
use Rattle.uc_lasting_programs.proofs.SetRuns.{by_then}
use Rattle.uc_lasting_programs.proofs.Seats.{HasSeat, SeatsAt, Seats}

-- a variable that is a mutex object
abbrev IsMutexVariable : Table → Ty → Type 0
IsMutexVariable t a = (e : ℕ) × (a ≡ Cell (Obj e)) × IsMutex t (Obj e)

number_by : (t : Table) (a : Ty) → IsNumberCells t a → (a ≡ Cell Clu → ⊥) → IsMutexVariable t a ⊎ IsLeftCells t a
number_by t (Cell (Obj e)) h other = inl (e, refl, h)
number_by t (Cell Clu) h other = absurd (other refl)
number_by t (Cell Pro) h other = inr tt
number_by t (Row n (Cell b)) h other = inr h
number_by t a h other = absurd h

cell_type : (b c : Ty) → Cell b ≡ Cell c → b ≡ c
cell_type b c e = cc

-- what is whole may be destroyed
raw_few : (t : Table) (few : Few) → RawsPass few → (n : Exec) (c : ℕ) (v : Value) → IsFew t few n (Obj c) v → IsFew t few n (Raw c) v
raw_few t few raws n c (Number z) h = tt
raw_few t few raws n c (Place o p) h = tt
raw_few t few raws n c (Running e) h = tt
raw_few t few raws n c (Object o) h = raws c o h
raw_few t few raws n c Nothing h = tt

-- what is known as an object that is whole has such a number
whole_few : (t : Table) (few : Few) (n : Exec) (K : Value → Ty → Type 0) (g : Sig) (o : Option ℕ) (v : Value) → g.whole ≡ false → KnownThis t few n K g o v → (c : ℕ) → o ≡ Some c → IsFew t few n (Obj c) v
whole_few t few n K g o v w h c e =
    let k : Known t few n K (object_ty g.whole c) v = subst (λ o. KnownThis t few n K g o v) e h in
    let l : Known t few n K (Obj c) v = subst (λ b. Known t few n K (object_ty b c) v) w k in
    l.passes

-- the object at hand has the number of one that is whole, where one that is not has it
abbrev IsThere : (t : Table) (few : Few) (s : State) → Type 0
IsThere t few s = (c : ℕ) → IsFew t few s.env.exec (Raw c) s.run.this → IsFew t few s.env.exec (Obj c) s.run.this

-- what is read in variables in scope is known
record IsScoped (t : Table) (few : Few) (gs : List Sig) (s : State) : Type 0 where
  own : (a : Ty) (v : Value) → in_own t s a v ≡ true → Known t few s.env.exec (Here t few gs s) a (loaded v s.env)
  others : (a : Ty) (v : Value) → in_others t s a v ≡ true → IsBinding a × (Is t a (loaded v s.env) × IsFew t few s.env.exec a (loaded v s.env))

module _ (t : Table) (owns : Owns) (class : ℕ → Option ℕ) (few : Few) (raws : RawsPass few) (gs : List Sig) (g : Sig) (sc : List Name) (s : State) (this : KnownThis t few s.env.exec (AtHand t few s.env.exec (others gs) s.callers) g g.this s.run.this) (there : (AllSilent s.run.control → ⊥) → IsThere t few s) (had : HasOthers few) (scoped : IsScoped t few gs s) (lent : (AllSilent s.run.control → ⊥) → (k : Shape) (f : ℕ) (a : Ty) (todo : List Todo) → s.run.control ≡ piece.Eval (src.OfObject (src.GetOwn k f)) ∷ todo → Yields t g sc (src.OfObject (src.GetOwn k f)) a → reads_lent t owns few.home (was_made t owns few class gs g sc s) class s g.this f s.run.this ≡ true → LiesLeft t few gs g s a (loaded (further (FieldAt k f) s.run.this) s.env) → Known t few s.env.exec (Here t few gs s) a (loaded (further (FieldAt k f) s.run.this) s.env)) (read : HasRead few.home (Base few) s) where
  still : (AllSilent s.run.control → ⊥) → IsStill t few gs g sc s
  still busy = by g.whole refl
    where
      by : (b : Bool) → g.whole ≡ b → IsStill t few gs g sc s
      by true w = λ c e. ((λ f. there busy c f), (λ f. raw_few t few raws s.env.exec c s.run.this f))
      by false w = λ c e.
          ((λ f. whole_few t few s.env.exec (AtHand t few s.env.exec (others gs) s.callers) g g.this s.run.this w this c e), (λ f. raw_few t few raws s.env.exec c s.run.this f))

  -- what is known where it is read
  all_read : (a : Ty) (v : Value) → Known t few s.env.exec (Here t few gs s) a (loaded v s.env) → ReadsKnown t few gs s a v
  all_read a v h = record { untracked = λ r z. h; seated = λ r l. h; foreign = λ o. h; field = λ w b o i. h; making = λ w c k i. h }

  -- what the state reads next, if it is another's, is had
  abbrev Told_of : Value → Type 0
  Told_of v = HasItsHome t few had gs g s this v

  bound : (a : Ty) (v : Value) → Told_of (loaded v s.env) → (o : Bool) → in_own t s a v ≡ o → (u : Bool) → in_others t s a v ≡ u → BoundLeft t few gs g sc s o u a v → ReadsKnown t few gs s a v
  bound a v told true e u f h = all_read a v (scoped.own a v e)
  bound a v told false e true f h =
      let o = scoped.others a v f in
      all_read a v (lying_known t few had gs g s this a (loaded v s.env) o.0 o.1 told h)
  bound a v told false e false f h = ⊎_elim (λ k. k) (λ o. all_read a v (seen_known t few had gs g s this a (loaded v s.env) told o)) h

  reads : (a : Ty) (v : Value) → Told_of (loaded v s.env) → ReadsLeft t few gs g sc s a v → ReadsKnown t few gs s a v
  reads Num v told h = all_read Num v tt
  reads (Raw c) v told h = all_read (Raw c) v h
  reads a v told h = bound a v told (in_own t s a v) refl (in_others t s a v) refl h

  -- what is lent is known, and of the rest what is left
  unless_lent : (AllSilent s.run.control → ⊥) → (k : Shape) (i : ℕ) (a : Ty) (todo : List Todo) → s.run.control ≡ piece.Eval (src.OfObject (src.GetOwn k i)) ∷ todo → Yields t g sc (src.OfObject (src.GetOwn k i)) a → (b : Bool) → reads_lent t owns few.home (was_made t owns few class gs g sc s) class s g.this i s.run.this ≡ b → UnlessLent b (LiesLeft t few gs g s a (loaded (further (FieldAt k i) s.run.this) s.env)) (ReadsLeft t few gs g sc s a (further (FieldAt k i) s.run.this)) → ReadsKnown t few gs s a (further (FieldAt k i) s.run.this)
  unless_lent busy k i a todo q y true e h =
      all_read a (further (FieldAt k i) s.run.this) (lent busy k i a todo q y e h)
  unless_lent busy k i a todo q y false e h =
      reads a (further (FieldAt k i) s.run.this) (read_told few s read (piece.Eval (src.OfObject (src.GetOwn k i)) ∷ todo) q (loaded (further (FieldAt k i) s.run.this) s.env) refl) h

  object : (AllSilent s.run.control → ⊥) → (o : ObjectExpr) (a : Ty) (todo : List Todo) → s.run.control ≡ piece.Eval (src.OfObject o) ∷ todo → Yields t g sc (src.OfObject o) a → ObjectLeft t owns few class gs g sc s o a → FindsObject t few gs g sc s o a
  object busy src.This a todo q y h = still busy
  object busy (src.GetOwn k i) a todo q y h = unless_lent busy k i a todo q y (reads_lent t owns few.home (was_made t owns few class gs g sc s) class s g.this i s.run.this) refl h
  object busy o a todo q y h = tt

  expr : (AllSilent s.run.control → ⊥) → (e : Expr) (a : Ty) (todo : List Todo) → s.run.control ≡ piece.Eval e ∷ todo → Yields t g sc e a → ExprLeft t owns few class gs g sc s e a → FindsExpr t few gs g sc s e a
  expr busy (src.OfObject o) a todo q y h = object busy o a todo q y h
  expr busy e a todo q y h = tt

  -- what is known as an object and has a number is a mutex object
  numbered_mutex : (b : Bool) (c o : ℕ) → Known t few s.env.exec (AtHand t few s.env.exec (others gs) s.callers) (object_ty b c) (Object o) → t.mutex c ≡ true
  numbered_mutex true c o k = is_mutex t alone (no_place t (λ i. false)) c o k.is
  numbered_mutex false c o k = is_mutex t alone (no_place t (λ i. false)) c o k.is

  this_mutex : (c o : ℕ) → g.this ≡ Some c → s.run.this ≡ Object o → t.mutex c ≡ true
  this_mutex c o f e =
      numbered_mutex g.whole c o (subst (Known t few s.env.exec (AtHand t few s.env.exec (others gs) s.callers) (object_ty g.whole c)) e (subst (λ i. KnownThis t few s.env.exec (AtHand t few s.env.exec (others gs) s.callers) g i s.run.this) f this))

  -- a new execution has its object
  seat_lies : (n : Exec) (c : ℕ) (v : Value) → s.run.this ≡ v → HasSeat t (Base few) n c v → LiesIn t few n (Base few n) (Obj c) s.run.this
  seat_lies n c (Number z) e h = subst (LiesIn t few n (Base few n) (Obj c)) (sym e) tt
  seat_lies n c (Place o p) e h = subst (LiesIn t few n (Base few n) (Obj c)) (sym e) (inr (Place o p, c, h, itself))
  seat_lies n c (Running x) e h = subst (LiesIn t few n (Base few n) (Obj c)) (sym e) tt
  seat_lies n c (Object o) e h = subst (LiesIn t few n (Base few n) (Obj c)) (sym e) (inr (Object o, c, h, itself))
  seat_lies n c Nothing e h = subst (LiesIn t few n (Base few n) (Obj c)) (sym e) tt

  -- so has a task
  task_has : (i : Option ℕ) (c : ℕ) → i ≡ Some c → (o : ℕ) → Base few (main_of o) (Object o) (Raw c) → HasObject t few i o
  task_has i c e o h = subst (λ x. HasObject t few x o) (sym e) (inr (Object o, c, h, itself))

  -- the class that has executions is that of the object at hand
  executing : (c d : ℕ) → Some c ≡ Some d → t.executes d ≡ true → t.executes c ≡ true
  executing c d e h = let same : c ≡ d = cc in ap t.executes same ∙ h

  finds : (l : List Todo) → s.run.control ≡ l → (own : List Ty) (base : List Name) → Ok t g base sc l own → SeatsAt t (Base few) l s → FindsLeft t owns few class gs g sc s l own → Finds t few gs g sc s l own
  finds (piece.Eval e ∷ todo) q own base ok seats h = λ a y. expr (λ z. subst AllSilent q z) e a todo q y (h a y)
  finds (piece.LoadNow ∷ todo) q (Cell a ∷ tys) base ok seats h = reads a (top s.run.operands) (read_told few s read (piece.LoadNow ∷ todo) q (loaded (top s.run.operands) s.env) refl) h
  finds (piece.SetUpNow r ∷ todo) q own base ok seats h = λ m e.
      (still (λ z. subst AllSilent q z), λ c f. seat_lies (new_exec (home_at s.run.this s.env) s.env) c s.run.this refl (seats c (ok.0.0 ∙ f) (executing c ok.1.0 (sym f ∙ ok.1.1) ok.1.2)))
  finds (piece.SpawnNow r ∷ todo) q own base ok seats h =
      let at = ok.1 in
      let e : (t.routine r).this ≡ Some at.0 = ok.0.0 ∙ at.1 in
      task_has (t.routine r).this at.0 e (this_object s) (seats at.0 e)
  finds l q own base ok seats h = tt

-- so each step finds all, in a run and on a ride, where clusters that were made pass

module _ (p : Program) (formed : IsFormed p) (ok : breaks_of p ≡ []) (within : IsWithinLimits p) (input : List ℕ) (opts : Options) (range : InRange opts) (class : ℕ → Option ℕ) where
  abbrev source : Source
  source = source_of p

  abbrev t : Table
  t = table_of p

  -- what constructors have bound is known where they read it
  finds_there : (few : Few) → RawsPass few → (i : Journal) → ((c o : ℕ) → is_gone o i ≡ false → few.numbers (Raw c) o ≡ true → few.numbers (Obj c) o ≡ true) → (s : State) (x : BuiltState t (heads_of p) few [] s) → ((AllSilent s.run.control → ⊥) → IsThere t few s) → ((AllSilent s.run.control → ⊥) → (o : ℕ) → s.run.this ≡ Object o → is_gone o i ≡ false) → HasLent t (owns_of p) few.home class i s → HasRead few.home (Base few) s → HasOthers few → Seats t (Base few) s → (reads_bound t (heads_of p) x.0.run.sig s ≡ false → FindsLeft t (owns_of p) few class x.0.sigs x.0.run.sig x.0.run.scope s s.run.control x.0.run.own) → Finds t few x.0.sigs x.0.run.sig x.0.run.scope s s.run.control x.0.run.own
  finds_there few raws i wholes s x there on lent read had seats h = by (reads_bound t (heads_of p) x.0.run.sig s) refl
    where
      by : (b : Bool) → reads_bound t (heads_of p) x.0.run.sig s ≡ b → Finds t few x.0.sigs x.0.run.sig x.0.run.scope s s.run.control x.0.run.own
      by true e = law_built_reads p formed ok few s x e
      by false e = finds t (owns_of p) class few raws x.0.sigs x.0.run.sig x.0.run.scope s x.0.run.this there had (record { own = law_scoped_reads.own t (heads_of p) few s x; others = others_are t (heads_of p) few s x }) (λ busy k f a todo q y h l. lent_read t (owns_of p) few class i wholes had x.0.sigs x.0.run.sig x.0.run.scope s x.0.run.this lent read (on busy) k f a todo q y h l) read s.run.control refl x.0.run.own x.0.run.base x.0.run.ok seats (h e)

  -- who runs in a journal, told its answer
  module _ (few : Few) (many : ℕ) (raws : RawsPass few) (j : Journal) (made : (c o : ℕ) → o < many → is_gone o j ≡ false → few.numbers (Obj c) o ≡ true) (wholes : (c o : ℕ) → is_gone o j ≡ false → few.numbers (Raw c) o ≡ true → few.numbers (Obj c) o ≡ true) (w : World) (r : Runs source input opts j w) (f : RunFits source input opts j w r) (on : is_over j ≡ false) (clusters : (n : ℕ) → n < cluster_count j → few.numbers Clu n ≡ true) (homes : Few) (same : (o : ℕ) → few.home o ≡ homes.home o) (u processor : ℕ) (given : Answer) (runs_on : running processor j ≡ u ∷ []) (told : answer_to source.sites u j ≡ Some given) (had : HasOthers few) where
    abbrev start : State
    start = answered source given (drawn j w u)

    -- scopes open where mutex objects are at home, as it is told of homes
    abbrev Opened : State → Type 0
    Opened s = Opens t no_fields homes s

    -- by homes of the first so many that have not gone
    abbrev Set : Few
    Set = by_then (made_homes many few.home) j

    abbrev Present : State → Type 0
    Present s = IsPresent j s

    -- what was made and is not gone has the number of one that is whole
    whole : (s : State) → Present s → (AllSilent s.run.control → ⊥) → IsThere t few s
    whole s there busy c h = by s.run.this refl h
      where
        by : (v : Value) → s.run.this ≡ v → IsFew t few s.env.exec (Raw c) v → IsFew t few s.env.exec (Obj c) v
        by (Number z) e h = tt
        by (Place o p) e h = tt
        by (Running x) e h = tt
        by (Object o) e h = wholes c o (there o e busy) h
        by Nothing e h = tt

    abbrev comes : (s : State) → Leads source start s → Comes source j w u s
    comes s l = record { given = given; processor = processor; runs = runs_on; told = told; leads = l }

    -- a cluster whose scope opens is there behind that step, and a plain object has been built
    module _ (s : State) (x : BuiltState t (heads_of p) few [] s) where
      abbrev Behind : CleanUp → List Todo → Value → Ty → Type 0
      Behind c todo = OutwardsOrMade x.0.sigs (Outwards t few s.env.exec s.run.frame s.run.this s.callers c todo) s.env.exec s.run.frame s.run.this s.callers

      abbrev Holds_at : CleanUp → List Todo → ℕ → Ty → Type 0
      Holds_at c todo k a = Holds t few s.env.exec (Behind c todo) (Frame s.env.exec s.run.frame) (frame_at s.run.frame s.env.frames) (Place (Frame s.env.exec s.run.frame) (Slot k ∷ [])) a

      -- what is told of others is known
      others_behind : (c : CleanUp) (todo : List Todo) (v : Value) (b : Ty) → Base few s.env.exec v b → Behind c todo v b
      others_behind c todo v b h = inl (inr (inl (base_things t few s.env.exec s.callers v b h)))

      -- what a scope is of is known
      there_is : (c : CleanUp) (todo : List Todo) (k : ℕ) (a : Ty) → CleansAt t a (src.Variable k) c → Behind c todo (variable_at k s) a
      there_is c todo k a y = inl (inl (inl (inl (k, y, refl))))

      module _ (c : CleanUp) (rest : Stmts) (todo : List Todo) (e : s.run.control ≡ piece.Rest (src.Scoped c rest) ∷ todo) (own : OwnedAt t (owns_of p) few.home c s) (set : OpensSet Set s) (h : OpensLeftAt t (owns_of p) (heads_of p) few (OutwardsOrMade x.0.sigs) (piece.Rest (src.Scoped c rest) ∷ todo) s) where
        abbrev here : List Value
        here = frame_at s.run.frame s.env.frames

        object_holds : (k i : ℕ) → CleansAt t (Obj i) (src.Variable k) c → Holds_at c todo k (Obj i)
        object_holds k i d = whole_built t (heads_of p) few x.0.sigs s.env.exec s.env.frames s.run.frame (variable_at k s) i (Behind c todo) (λ m f. each m f (heads_of p i m) refl)
          where
            each : (m : ℕ) → IsField t i m → (b : Bool) → heads_of p i m ≡ b → Holds t few s.env.exec (Behind c todo) (Frame s.env.exec s.run.frame) here (further (FieldAt (t.shape i) m) (variable_at k s)) (t.fields i m)
            each m f true q = law_kept.opens t (heads_of p) few s x c rest todo e k i d m f q
            each m f false q =
                where_bound t few s.env.exec (Behind c todo) (Frame s.env.exec s.run.frame) here (further (FieldAt (t.shape i) m) (variable_at k s)) (t.fields i m) (λ bound. left_holds t few s.env.exec (Behind c todo) had (others_behind c todo) (owns_of p) (Frame s.env.exec s.run.frame) here (variable_at k s) (Obj i) (there_is c todo k (Obj i) d) (own.objects k i d) (further (FieldAt (t.shape i) m) (variable_at k s)) (t.fields i m) (h.1 k i d m f q bound))

        array_holds : (k m i : ℕ) → CleansAt t (Row m (Obj i)) (src.Variable k) c → Holds_at c todo k (Row m (Obj i))
        array_holds k m i d =
            where_bound t few s.env.exec (Behind c todo) (Frame s.env.exec s.run.frame) here (variable_at k s) (Row m (Obj i)) (λ bound. left_holds t few s.env.exec (Behind c todo) had (others_behind c todo) (owns_of p) (Frame s.env.exec s.run.frame) here (variable_at k s) (Row m (Obj i)) (there_is c todo k (Row m (Obj i)) d) (own.arrays k m i d) (variable_at k s) (Row m (Obj i)) (h.0 k m i d bound))

        -- a mutex object holds what is at home there, and has not gone
        variable_few : (k i : ℕ) → CleansAt t (Cell (Obj i)) (src.Variable k) c → (l : List Link) (b : Ty) → Within t (variable_at k s) (Cell (Obj i)) (Place (Frame s.env.exec s.run.frame) l) (Cell b) → IsFew t few s.env.exec b (slice_index_or here (address l) nought)
        variable_few k i y l b v =
            let x = within_cell t (variable_at k s) (Obj i) (Place (Frame s.env.exec s.run.frame) l) (Cell b) v in
            let at = x.0 in
            let path : l ≡ Slot k ∷ [] = cc in
            let type : b ≡ Obj i = cell_type b (Obj i) x.1 in
            let home : IsHome Set (slice_index_or here (address (Slot k ∷ [])) nought) (variable_at k s) = cleans_cell t (owns_of p) i k (λ m. IsHome Set (slice_index_or here (address (Slot m ∷ [])) nought) (variable_at m s)) c y (subst (λ control. OpensSetAt Set control s) e set) in
            subst (λ b. IsFew t few s.env.exec b (slice_index_or here (address l) nought)) (sym type) (subst (λ l. IsFew t few s.env.exec (Obj i) (slice_index_or here (address l) nought)) (sym path) (set_few few.home many t few s.env.exec j made i (slice_index_or here (address (Slot k ∷ [])) nought) (Frame s.env.exec s.run.frame) (Slot k ∷ []) home))

        variable_holds : Opened s → (k : ℕ) (a : Ty) → CleansAt t a (src.Variable k) c → IsMutexVariable t a → Holds_at c todo k a
        variable_holds z k a y v =
            subst (λ a. Holds_at c todo k a) (sym v.1) (mutex_holds t few s.env.exec (Behind c todo) (Frame s.env.exec s.run.frame) here (variable_at k s) (Cell (Obj v.0)) v.2 (there_is c todo k (Cell (Obj v.0)) (subst (λ a. CleansAt t a (src.Variable k) c) v.1 y)) homes same (subst (λ control. OpensAt t no_fields homes control s) e z k (Cell (Obj v.0)) (subst (λ a. CleansAt t a (src.Variable k) c) v.1 y)) (variable_few k v.0 (subst (λ a. CleansAt t a (src.Variable k) c) v.1 y)))

        -- each element of an array of such holds what is at home there; a processor, and what elements are of clusters and processors, is there behind that step
        left_cells : Opened s → standing.IsThere here c → (k : ℕ) (a : Ty) → CleansAt t a (src.Variable k) c → IsNumberCells t a → IsLeftCells t a → Holds_at c todo k a
        left_cells z q k a y n l =
            ⊎_elim (λ m. mutex_holds t few s.env.exec (Behind c todo) (Frame s.env.exec s.run.frame) here (variable_at k s) a m (there_is c todo k a y) homes same (subst (λ control. OpensAt t no_fields homes control s) e z k a y) (h.2 k a y l)) (λ r. resource_holds t few s.env.exec (Behind c todo) (Frame s.env.exec s.run.frame) here k a c r y q (h.2 k a y l)) (number_kind t a n)

        number_holds : Opened s → standing.IsThere here c → (k : ℕ) (a : Ty) → CleansAt t a (src.Variable k) c → IsNumberCells t a → (a ≡ Cell Clu → ⊥) → Holds_at c todo k a
        number_holds z q k a y n other = ⊎_elim (λ v. variable_holds z k a y v) (λ l. left_cells z q k a y n l) (number_by t a n other)

        kind_holds : Opened s → standing.IsThere here c → (k : ℕ) (a : Ty) → CleansAt t a (src.Variable k) c → (a ≡ Cell Clu → ⊥) → IsKind t (owns_of p) few.home a → Holds_at c todo k a
        kind_holds z q k a y other (inl i) =
            subst (λ a. Holds_at c todo k a) (sym i.1) (object_holds k i.0 (subst (λ a. CleansAt t a (src.Variable k) c) i.1 y))
        kind_holds z q k a y other (inr (inl i)) =
            subst (λ a. Holds_at c todo k a) (sym i.2) (array_holds k i.0 i.1 (subst (λ a. CleansAt t a (src.Variable k) c) i.2 y))
        kind_holds z q k a y other (inr (inr n)) = number_holds z q k a y n other

      opens : Leads source start s → Opened s → Owned t (owns_of p) few.home s → OpensSet Set s → (control : List Todo) → s.run.control ≡ control → OpensLeftAt t (owns_of p) (heads_of p) few (OutwardsOrMade x.0.sigs) control s → OpensAtBy t few (OutwardsOrMade x.0.sigs) control s
      opens l z o i (piece.Rest (src.Scoped c rest) ∷ todo) e h =
          let goes : quiet source s ≡ Goes (at (piece.Rest rest ∷ (piece.Clean c ∷ todo)) s.run.operands s) = ap (λ control. act_todo source control s) e in
          let behind = law_there.comes p formed ok within input opts range j w r f on u (at (piece.Rest rest ∷ (piece.Clean c ∷ todo)) s.run.operands s) (comes (at (piece.Rest rest ∷ (piece.Clean c ∷ todo)) s.run.operands s) (goes_on (λ v. Unit {0}) source l goes)) in
          let counted = good_counted rest c todo (λ n. nat_lt n (cluster_count j)) s.run.operands s behind in
          let room : HasAddresses s = subst (λ control. there.OpensAt source control s) e (law_opens.comes p formed ok within input opts range j w r f on u s (comes s l)) in
          let own = subst (λ control. OwnedBy t (owns_of p) few.home control s) e o in
          λ k a y. ⊎_elim (λ q. subst (λ a. Holds_at c todo k a) (sym q) (cluster_holds t few (λ n. nat_lt n (cluster_count j)) (λ n l. clusters n (ltb-true n (cluster_count j) l)) s.env.exec (Behind c todo) (Frame s.env.exec s.run.frame) (frame_at s.run.frame s.env.frames) k room c (subst (λ a. CleansAt t a (src.Variable k) c) q y) counted.0 counted.1)) (λ other. kind_holds c rest todo e own i h z counted.0 k a y other (own.kinds k a y)) (is_cluster a)
      opens l z o i control e h = tt

    -- what is called where the scope of an object opens next is its constructor
    calls : (s : State) → Leads source start s → IsCalled p source s
    calls s l = called.comes p formed ok input opts range j w r f on u s (comes s l)

    -- what is bound leaves objects alone that are still to be built, and all cells have addresses
    spares : (s : State) → Leads source start s → Sparing p s
    spares s l = law_sparing.comes p formed ok input opts range j w r f on u s (comes s l)

    addressed : (s : State) → Leads source start s → AreAddressed s
    addressed s l = law_addresses.comes p within input opts j w r u s (comes s l)

    meets : (n : ℕ) (s : State) → Leads source start s → Opened s → LeftOutside t (owns_of p) (heads_of p) class few n s → HasLent t (owns_of p) few.home class j s → HasRead few.home (Base few) s → Seats t (Base few) s → Present s → Owned t (owns_of p) few.home s × OpensSet Set s → BuiltOutside p few n s
    meets zero s l o h lent read seats there own = λ x.
        let z = h.finds x in
        (z.0, finds_there few raws j wholes s z.0 (whole s there) (λ busy o e. there o e busy) lent read had seats z.1.0, opens s z.0 l o own.0 own.1 s.run.control refl z.1.1, fair p formed ok few s (plain t few (Built t (heads_of p) few) [] s z.0.0) (addressed s l) (spares s l) (calls s l))
    meets (suc n) s l o h lent read seats there own = (calls s l, addressed s l)

    ride_on : {s v : State} {q k : ℕ} {a : Asked} → Leads source start s → (n : ℕ) (d : Rides source s q v k a) → RideMeets Opened source s q v k a d → RideHolds (LeftOutside t (owns_of p) (heads_of p) class few) source n s q v k a d → RideMeets (λ s. HasLent t (owns_of p) few.home class j s × HasRead few.home (Base few) s) source s q v k a d → RideMeets (Seats t (Base few)) source s q v k a d → RideHolds (λ n s. Present s → Owned t (owns_of p) few.home s × OpensSet Set s → BuiltOutside p few n s) source n s q v k a d
    ride_on l n rides.slices o h g i = tt
    ride_on l n (rides.goes_on {s} e d) o h g i = (meets n s l o.0 h.0 g.0.0 g.0.1 i.0, ride_on (goes_on (λ v. Unit {0}) source l e) (still_reading n s.run.control) d o.1 h.1 g.1 i.1)
    ride_on l n (rides.ticks {s} e d) o h g i = (meets n s l o.0 h.0 g.0.0 g.0.1 i.0, ride_on (ticks_on (λ v. Unit {0}) source l e) (still_reading n s.run.control) d o.1 h.1 g.1 i.1)
    ride_on l n (rides.asks {s} e) o h g i = meets n s l o h g.0 g.1 i

  pub ride_remains : (few : Few) (many : ℕ) → RawsPass few → HasOthers few → (j : Journal) → ((c o : ℕ) → o < many → is_gone o j ≡ false → few.numbers (Obj c) o ≡ true) → ((c o : ℕ) → is_gone o j ≡ false → few.numbers (Raw c) o ≡ true → few.numbers (Obj c) o ≡ true) → (w : World) (r : Runs source input opts j w) → RunFits source input opts j w r → is_over j ≡ false → ((n : ℕ) → n < cluster_count j → few.numbers Clu n ≡ true) → (homes : Few) → ((o : ℕ) → few.home o ≡ homes.home o) → (q u k : ℕ) (s : State) (asked : Asked) (d : AsksIn source opts j w q u k s asked) → RideMeets (Opens t no_fields homes) source (answered source d.given (drawn j w u)) (left opts j u) s k asked d.rides → RideHolds (LeftOutside t (owns_of p) (heads_of p) class few) source 0 (answered source d.given (drawn j w u)) (left opts j u) s k asked d.rides → RideMeets (λ s. HasLent t (owns_of p) few.home class j s × HasRead few.home (Base few) s) source (answered source d.given (drawn j w u)) (left opts j u) s k asked d.rides → RideMeets (Seats t (Base few)) source (answered source d.given (drawn j w u)) (left opts j u) s k asked d.rides → RideHolds (λ n s. IsPresent j s → Owned t (owns_of p) few.home s × OpensSet (by_then (made_homes many few.home) j) s → BuiltOutside p few n s) source 0 (answered source d.given (drawn j w u)) (left opts j u) s k asked d.rides
  ride_remains few many raws had j made wholes w r f on clusters homes same q u k s asked d o h g i = ride_on few many raws j made wholes w r f on clusters homes same u q d.given d.runs d.told had rooms.stays 0 d.rides o h g i

  -- what is not gone has its number still
  pub last_whole : (few : Few) → ((c o : ℕ) → few.numbers (Raw c) o ≡ true → few.numbers (Obj c) o ≡ true) → (i : Journal) (c o : ℕ) → is_gone o i ≡ false → (lasting few i).numbers (Raw c) o ≡ true → (lasting few i).numbers (Obj c) o ≡ true
  last_whole few whole i c o g h = subst (λ b. (if b then false else few.numbers (Obj c) o) ≡ true) (sym g) (whole c o h)

  pub last_made : (few : Few) (many : ℕ) → ((c o : ℕ) → o < many → few.numbers (Obj c) o ≡ true) → (i : Journal) (c o : ℕ) → o < many → is_gone o i ≡ false → (lasting few i).numbers (Obj c) o ≡ true
  last_made few many made i c o lt g = subst (λ b. (if b then false else few.numbers (Obj c) o) ≡ true) (sym g) (made c o lt)

  pub run_remains : (few : Few) (many : ℕ) → ((i : Journal) → RawsPass (lasting few i)) → HasOthers few → ((c o : ℕ) → o < many → few.numbers (Obj c) o ≡ true) → ((c o : ℕ) → few.numbers (Raw c) o ≡ true → few.numbers (Obj c) o ≡ true) → {j : Journal} {w : World} (r : Runs source input opts j w) → RunFits source input opts j w r → PassesBelow few opts j → RunMeets (Opens t no_fields few) source input opts j w r → RunHoldsAt (λ i. LeftOutside t (owns_of p) (heads_of p) class (lasting few i)) source input opts j w r → RunMeetsAt (λ i s. HasLent t (owns_of p) few.home class i s × HasRead few.home (Base few) s) source input opts j w r → RunMeets (Seats t (Base few)) source input opts j w r → RunHoldsAt (λ i n s. IsPresent i s → Owned t (owns_of p) few.home s × OpensSet (by_then (made_homes many few.home) i) s → BuiltOutside p (lasting few i) n s) source input opts j w r
  run_remains few many raws had made whole begun f below o h g i = tt
  run_remains few many raws had made whole (more {j} {w} {a} r on (gives q n s le)) f below o h g i = (run_remains few many raws had made whole r f.0 (earlier few opts j a below) o.0 h.0 g.0 i.0, tt)
  run_remains few many raws had made whole (more {j} {w} {a} r on (no_room q n s le)) f below o h g i = (run_remains few many raws had made whole r f.0 (earlier few opts j a below) o.0 h.0 g.0 i.0, tt)
  run_remains few many raws had made whole (more {j} {w} {a} r on (acts q n k s asked d)) f below o h g i =
      let before = earlier few opts j a below in
      (run_remains few many raws had made whole r f.0 before o.0 h.0 g.0 i.0, ride_remains (lasting few j) many (raws j) had j (last_made few many made j) (last_whole few whole j) w r f.0 on before.clusters few (λ z. refl) q n k s asked d o.1 h.1 g.1 i.1)
