-- What a task enters where nothing is told of others but seats is at home in what is the own of somebody who is at home in nothing older than who owns the home
-- of the task's own object: in the own of who runs, or in the seat of that.
use Rattle.std.proofs.Common.{◌≡◌, ℕ, ◌<◌, ◌≤◌, ◌⊎◌, inl, inr, ⊎_elim, Bool, true, false, List, [], ◌∷◌, drop, Option, Some, None, refl, sym, ap, ◌∙◌, subst, arith}
use Rattle.std.specs.Prelude.{slice_get, if◌then◌else◌}
use Rattle.uc_tree.specs.Programs.{Program}
use Rattle.uc_tree.specs.Source as src
use Rattle.uc_tree.specs.Source.{Source, Routine, Stmts, routine_or_none, routine_of}
use Rattle.uc_entry.specs.Keyed.{find}
use Rattle.uc_entry.specs.declared.fault.RunFault.TheVariants.{Depth}
use Rattle.uc_entry.specs.declared.request.Request.TheVariants as ask
use Rattle.uc_machine.specs.declared.exec.Exec.{Exec}
use Rattle.uc_machine.specs.declared.exec.Home.TheVariants as home
use Rattle.uc_machine.specs.Monitors.{may_call, enter_at, enter_step}
use Rattle.uc_machine.specs.Pieces as piece
use Rattle.uc_machine.specs.Pieces.{Value, Number, Place, Running, Object, Nothing, Todo, Active, State, top, object_in}
use Rattle.uc_machine.specs.Quiet.{Asks, quiet, act_todo, fault}
use Rattle.uc_name_laws.proofs.Homes.{no_both}
use Rattle.uc_resolve.specs.Resolve.{source_of}
use Rattle.uc_rules.specs.Breaks.{breaks_of}
use Rattle.uc_sound.specs.SoundFormed.{IsFormed}
use Rattle.uc_sound.specs.Tables.{table_of}
use Rattle.uc_sound.proofs.SoundLemmas.{law_sound}
use Rattle.uc_typing.specs.Typing.{Ty, Cell, Obj, Sig, Table, object_ty, FineStmts}
use Rattle.uc_typing.specs.Pieces.{Ok}
use Rattle.uc_typing.specs.States.{IsNumbered, IsObjectBy, LetsGo, Sound}
use Rattle.uc_depth_laws.specs.Entering.{New, Other, asks_object, is_building, is_ending}
use Rattle.uc_depth_laws.specs.Owing.{First, Any, Done, Skipped, CallOf, Bound, Tests, owed_waiting, depth_in, depth_at, is_told, Entered, Deep, entering}
use Rattle.uc_life_laws.specs.Things.{Few, Base, Known, Stands}
use Rattle.uc_life_laws.specs.Belonging.{Belongs}
use Rattle.uc_life_laws.specs.Knowing.{AtHand, KnowsState, main_of}
use Rattle.uc_life_laws.specs.Marks.{Marked, LoneStack}
use Rattle.uc_life_laws.specs.Rooted.{IsBase}
use Rattle.uc_apart_laws.specs.Clear.{HomeAt}
use Rattle.uc_apart_laws.proofs.Clear.{home_split}
use Rattle.uc_putting_laws.specs.LoneObjects.{LoneObjectAt}
use Rattle.uc_putting_laws.specs.Putting.{PutState}
use Rattle.uc_putting_laws.specs.PuttingLaws.{setting_of}
use Rattle.uc_putting_laws.proofs.LoneObjects.{law_lone_objects}
use Rattle.uc_putting_laws.proofs.Routines.{law_calling}
use Rattle.uc_making_laws.specs.LettingGo.{IsTold, Told, WaitsBy, RunsBy, LetsStack, LetsState}
use Rattle.uc_making_laws.proofs.LettingLists as lists
use Rattle.uc_lasting_programs.proofs.Bases.{SeatsAlone, stands_or, none_in, no_bare}
use Rattle.uc_lasting_programs.proofs.HomesAway.{number_at}
use Rattle.uc_lasting_programs.proofs.LettingStates.{operand, whole_told}
use Rattle.uc_lasting_programs.proofs.Raising.{stands_own, stack_own}
use Rattle.uc_lasting_programs.proofs.SeatHomes.{IsMadeFor}
use Rattle.uc_lasting_programs.proofs.Visits.{OwnedAfter, own_after}
use Rattle.uc_lasting_programs.proofs.Wholes.{whole_inside}

-- what is told of what an execution has at hand, where no place is told of others at which mutex objects are at home: n owns the home of the task's own object
module _ (t : Table) (few : Few) (seats : SeatsAlone few) (x n : Exec) (first : x ≡ main_of 0 → ⊥) (later : number_at n.home ≤ number_at x.home) (house : (q : ℕ) → x.home ≡ home.Object q → OwnedAfter few n q) (main : (q : ℕ) → x ≡ main_of q → Belongs few n (few.home q)) (cs : List Active) (lone : LoneStack t few x cs) (o : ℕ) where
  in_base : (c : ℕ) → Stands t few (Base few x) (Cell (Obj c)) (few.home o) → OwnedAfter few n o
  in_base c s =
      ⊎_elim
      (λ b. absurd (none_in t few (Cell (Obj c)) (few.home o) b))
      (λ r.
      ⊎_elim
      (λ e. absurd (first e))
      (λ bare. absurd (no_bare t few r.thing r.type bare c (few.home o) r.stands))
      (seats.0 x r.thing r.type r.one))
      (stands_or t few few (λ q. refl) (Base few x) (λ w b. ⊥) (λ z b. Base few x z b) (λ z b m. inr m) (Cell (Obj c)) (few.home o) s)

  -- an execution is at what it was made for
  in_seat : IsMadeFor x o → OwnedAfter few n o
  in_seat (inl e) = house o e
  in_seat (inr e) = own_after few n o (main o e)

  pub told_after : IsTold t few x cs o → (0 < owed_waiting o cs → ⊥) → OwnedAfter few n o
  told_after (inl z) none = absurd (first z.1)
  told_after (inr (inr l)) none = absurd (none l)
  told_after (inr (inl (c, h))) none =
      ⊎_elim
      (λ m. record { who = x; owns = stands_own t few x (Marked t x cs) (stack_own t few x cs lone) (Cell (Obj c)) (few.home o) m; later = later })
      (λ b. had c b)
      (home_split t few o x cs c h)
    where
      had : (c : ℕ) → HomeAt t few o (Base few x) c → OwnedAfter few n o
      had c (inl s) = in_base c s
      had c (inr k) = in_seat (seats.1 x o c k)

-- a call is of what is entered, where the task is not yet

call_entered : (d : Option ℕ) (i k : ℕ) (todo : List Todo) (s : State) (o m : ℕ) (u : State) → enter_at d i k todo s ≡ Asks (ask.Call o m) u → (i ≡ o) × (d ≡ None)
call_entered (Some d) i k todo s o m u e = absurd (cc)
call_entered None i k todo s o m u e = (cc, refl)

may_enter : (b : Bool) (d : Option ℕ) (i k : ℕ) (todo : List Todo) (s : State) (o m : ℕ) (u : State) → (if b then enter_at d i k todo s else fault Depth todo s.run.operands s) ≡ Asks (ask.Call o m) u → (i ≡ o) × (d ≡ None)
may_enter true d i k todo s o m u e = call_entered d i k todo s o m u e
may_enter false d i k todo s o m u e = absurd (cc)

-- what lets go of the object as a whole, and does not build it, destroys it
ends_it : (t : Table) (g : Sig) (ss : Stmts) → FineStmts t g [] ss → LetsGo ss → g.whole ≡ true → asks_object ss New ≡ false → asks_object ss Other ≡ true
ends_it t g (src.Scoped src.Leaves rest) f l w n = no_both g.whole w f.3.1
ends_it t g (src.Scoped src.Ends rest) f l w n = refl
ends_it t g (src.Scoped (src.Frees r) rest) f l w n = absurd (cc)
ends_it t g ss f l w n = absurd l

told_number : (t : Table) (few : Few) (n : Exec) (cs : List Active) (v : Value) → IsNumbered v → Told t few n cs v → IsTold t few n cs (object_in v)
told_number t few n cs (Number z) i h = absurd i
told_number t few n cs (Place o l) i h = absurd i
told_number t few n cs (Running y) i h = absurd i
told_number t few n cs (Object o) i h = h
told_number t few n cs Nothing i h = absurd i

module _ (p : Program) (formed : IsFormed p) (ok : breaks_of p ≡ []) (few : Few) (places : (n : Exec) (w : Value) (b : Ty) → Base few n w b → IsBase w b) where
  abbrev t : Table
  t = table_of p

  abbrev source : Source
  source = source_of p

  sound : Sound (table_of p) (source_of p)
  sound = law_sound p formed ok

  module _ (s : State) (put : PutState (setting_of p few) s) (k : KnowsState (table_of p) few [] s) (lets : LetsState (table_of p) few s) (news : Tests) (deep : Deep (source_of p) news s) (m r : ℕ) (todo : List Todo) (e : s.run.control ≡ piece.EnterNow m r ∷ todo) where
    abbrev stack : List Active
    stack = s.run ∷ s.callers

    abbrev C : Type 0
    C = Told (table_of p) few s.env.exec s.callers s.run.this

    waits : LetsStack (table_of p) few s.env.exec (s.run ∷ s.callers)
    waits = (subst (WaitsBy C) (sym e) (lists.busy C todo (subst (RunsBy C) e lets.stack.0)), lets.stack.1)

    not_building : (f : First) → Entered (source_of p) (is_told (news s.env.exec.home) s.run.this s.callers) f (piece.EnterNow m r ∷ todo) → is_building (source_of p) r ≡ false
    not_building Any h = h.0
    not_building Done h = h.0
    not_building Skipped h = h.0
    not_building (CallOf q) h = absurd h.0
    not_building Bound h = absurd h.0

    builds_none : is_building (source_of p) r ≡ false
    builds_none =
        not_building deep.first (subst (Entered (source_of p) (is_told (news s.env.exec.home) s.run.this s.callers) deep.first) e deep.run)

    owed_none : (o : ℕ) → find o s.env.depths ≡ None → 0 < owed_waiting o (s.run ∷ s.callers) → ⊥
    owed_none o f lt =
        let d = deep.depths o in
        let z : depth_at o s.env ≡ 0 = ap depth_in f in
        omega (arith, d, z, lt)

    -- what is called then is at home in what is the own of who runs, or is told of by what that has at hand
    abbrev IsKnown : ℕ → Type 0
    IsKnown o = Belongs few s.env.exec (few.home o) ⊎ (IsTold (table_of p) few s.env.exec (s.run ∷ s.callers) o × (0 < owed_waiting o (s.run ∷ s.callers) → ⊥))

    module _ (o i : ℕ) (u : State) (q : quiet (source_of p) s ≡ Asks (ask.Call o i) u) where
      pub entered_known : IsKnown o
      entered_known = by (slice_get (source_of p).routines r) refl (subst (λ l. act_todo (source_of p) l s ≡ Asks (ask.Call o i) u) e q)
        where
          step : Ok (table_of p) k.run.sig k.run.base k.run.scope (piece.EnterNow m r ∷ todo) k.run.own
          step = subst (λ l. Ok (table_of p) k.run.sig k.run.base k.run.scope l k.run.own) e k.run.ok

          ending : (y : Routine) → slice_get (source_of p).routines r ≡ Some y → ((table_of p).routine r).whole ≡ true → entering (source_of p) r s ≡ o → IsKnown o
          ending y f w is =
              let body : routine_of (source_of p) r ≡ y = ap routine_or_none f in
              let new : asks_object y.body New ≡ false = subst (λ (x : Routine). asks_object x.body New ≡ false) body builds_none in
              let ends : is_ending (source_of p) r ≡ true = subst (λ (x : Routine). asks_object x.body Other ≡ true) (sym body) (ends_it (table_of p) ((table_of p).routine r) y.body (sound.routines r y f).body ((sound.routines r y f).enters (whole_inside p step.1 step.3 r w step.2.1)) w new) in
              let at : LoneObjectAt (table_of p) few (source_of p) (piece.EnterNow m r ∷ todo) s = subst (λ l. LoneObjectAt (table_of p) few (source_of p) l s) e (law_lone_objects (setting_of p few) (law_calling p formed ok) s put) in
              inl (subst (λ (z : ℕ). Belongs few s.env.exec (few.home z)) is (at ends).0.0)

          whole : (v : Value) (b : Bool) → b ≡ false → Known (table_of p) few s.env.exec (λ w a. AtHand (table_of p) few s.env.exec k.sigs (s.run ∷ s.callers) w a) (object_ty b step.1) v → IsTold (table_of p) few s.env.exec (s.run ∷ s.callers) (object_in v)
          whole v true w h = absurd (cc)
          whole v false w h =
              told_number (table_of p) few s.env.exec (s.run ∷ s.callers) v (subst (λ b. IsObjectBy (table_of p) b step.1 v) step.3 h.is) (whole_told (table_of p) few places s.env.exec k.sigs (s.run ∷ s.callers) step.1 v waits h)

          by : (y : Option Routine) → slice_get (source_of p).routines r ≡ y → enter_step m y todo s ≡ Asks (ask.Call o i) u → IsKnown o
          by None f g = absurd (cc)
          by (Some y) f g =
              let x = may_enter (may_call y.written s) (find (object_in (top (drop y.params s.run.operands))) s.env.depths) (object_in (top (drop y.params s.run.operands))) m todo s o i u g in
              let body : routine_of (source_of p) r ≡ y = ap routine_or_none f in
              let is : entering (source_of p) r s ≡ o = ap (λ (z : Routine). object_in (top (drop z.params s.run.operands))) body ∙ x.0 in
              kind ((table_of p).routine r).whole refl is x.0 (subst (λ (z : ℕ). find z s.env.depths ≡ None) x.0 x.1)
            where
              kind : (b : Bool) → ((table_of p).routine r).whole ≡ b → entering (source_of p) r s ≡ o → object_in (top (drop y.params s.run.operands)) ≡ o → find o s.env.depths ≡ None → IsKnown o
              kind true w is here none = ending y f w is
              kind false w is here none =
                  inr (subst (IsTold (table_of p) few s.env.exec (s.run ∷ s.callers)) here (whole (top (drop y.params s.run.operands)) ((table_of p).routine r).whole w (operand p formed ok few places s put k lets r y step.1 step.0 f step.2.0)), owed_none o none)
