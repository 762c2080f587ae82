-- Who enters an object to destroy it has just loaded it from a place of its own, at which it is at home; and none else lets go of what is at home there.
use Rattle.std.proofs.Common.{◌≡◌, ℕ, zero, suc, ◌<◌, ◌==◌, ◌⊎◌, inl, inr, ◌||◌, Bool, true, false, List, [], ◌∷◌, ◌++◌, length, drop, Option, Some, None, refl, sym, ap, ◌∙◌, subst, arith, append-nil, append_assoc}
use Rattle.std.specs.Prelude.{slice_get, if◌then◌else◌, pos}
use Rattle.std.proofs.lemmas.Bool.{eqb-true}
use Rattle.uc_tree.specs.declared.limits.TheConstants.{DESTRUCTOR}
use Rattle.uc_tree.specs.Programs.{Program}
use Rattle.uc_tree.specs.Source.{Shape, Binding, Expr, Source, Routine}
use Rattle.uc_entry.specs.Keyed.{find}
use Rattle.uc_entry.specs.declared.entry.Entry.{Entry}
use Rattle.uc_entry.specs.declared.entry.EntryKind.TheVariants as kind
use Rattle.uc_entry.specs.declared.entry.Options.{Options}
use Rattle.uc_entry.specs.declared.fault.RunFault.TheVariants.{Depth}
use Rattle.uc_entry.specs.declared.request.Asked.{Asked}
use Rattle.uc_entry.specs.declared.request.Request.{Request}
use Rattle.uc_entry.specs.declared.request.Request.TheVariants as ask
use Rattle.uc_acts.specs.Journal.{Journal, is_over, asking, cost, own_object}
use Rattle.uc_acts.specs.Known.{is_gone, is_gone_by, takes_object, task_count, spawns}
use Rattle.uc_acts.specs.Acts.{act, row, dispatch}
use Rattle.uc_acts.specs.KernelRuns.{InRange}
use Rattle.uc_acts.proofs.Living.{going_row, gone_still}
use Rattle.uc_acts.proofs.Counted.{gone_push}
use Rattle.uc_acts.proofs.SoundLemmas.{self_test}
use Rattle.uc_acts.proofs.Acting.{object_of, destroys, AllBy, by_row}
use Rattle.uc_answer_laws.proofs.Told.{no_both}
use Rattle.uc_machine.specs.declared.exec.Exec.{Exec}
use Rattle.uc_machine.specs.declared.exec.Owner.TheVariants.{Frame}
use Rattle.uc_machine.specs.Executions.{others}
use Rattle.uc_machine.specs.Pieces as piece
use Rattle.uc_machine.specs.Pieces.{Slot, FieldAt, At, Value, Number, Place, Running, Object, Nothing, Todo, LoadNow, EnterNow, State, Env, Asks, further, loaded, top, object_in, variable_at}
use Rattle.uc_machine.specs.Monitors.{may_call, enter_at, enter_step}
use Rattle.uc_machine.specs.Quiet.{quiet, act_todo, fault}
use Rattle.uc_machine.specs.Answering.{answered, child_of}
use Rattle.uc_machine.specs.Rides as rides
use Rattle.uc_machine.specs.Rides.{Rides}
use Rattle.uc_meaning.specs.Runs.{World, May, Runs, world_after, drawn, bare, gives, no_room, acts, begun, more}
use Rattle.uc_resolve.specs.Resolve.{source_of}
use Rattle.uc_rules.specs.Breaks.{breaks_of}
use Rattle.uc_sound.specs.SoundFormed.{IsFormed}
use Rattle.uc_sound.specs.Tables.{table_of}
use Rattle.uc_sound.proofs.SoundLemmas.{law_sound}
use Rattle.uc_typing.specs.Typing.{Cell, Obj, Table}
use Rattle.uc_typing.specs.States.{Sound}
use Rattle.uc_state_laws.specs.Fitting.{RunFits}
use Rattle.uc_state_laws.specs.Layout.{Sized}
use Rattle.uc_state_laws.specs.RoomStacks.{UpTo, TodoTo, StackState}
use Rattle.uc_state_laws.specs.RoomRuns as rooms
use Rattle.uc_state_laws.specs.RoomRuns.{Leads, Comes}
use Rattle.uc_state_laws.specs.Opens.{RideMeets, RunMeets, LeadsMeet}
use Rattle.uc_state_laws.specs.Counted.{params, params_at}
use Rattle.uc_state_laws.proofs.Others.{run_rests}
use Rattle.uc_state_laws.proofs.StackWorlds.{law_frame_runs}
use Rattle.uc_state_laws.proofs.Unreferring.{law_accepted}
use Rattle.uc_life_laws.specs.Things.{Few, AtVariable, Nowhere, InTodo, Variables, IsFew, itself}
use Rattle.uc_life_laws.specs.Belonging.{Belongs}
use Rattle.uc_life_laws.specs.Lives.{LivesState}
use Rattle.uc_life_laws.specs.Lasting.{lasting, RunMeetsAt}
use Rattle.uc_life_laws.proofs.Lasting.{not_gone}
use Rattle.uc_life_laws.proofs.LivesLemmas.{law_lives}
use Rattle.uc_life_laws.proofs.Laying.{laid_out}
use Rattle.uc_life_laws.proofs.Owned.{tasks_grow}
use Rattle.uc_life_laws.proofs.Own.{law_own}
use Rattle.uc_life_laws.specs.Ending.{Spot, OfVariable, OfField, calling, ends_at, place_at}
use Rattle.uc_putting_laws.specs.CleanedSpots.{Site, Under, site_spot, IsOf, IsIn}
use Rattle.uc_putting_laws.specs.Putting.{Setting, Mark, Any, Homed, rest, rests, IsHome, IsEnding, Holds, FirstUnder, FirstHome, OfObjects, SeatAt, CallFits, Ok, PutState}
use Rattle.uc_putting_laws.specs.Filling.{is_filling}
use Rattle.uc_putting_laws.specs.PuttingLaws.{special_of, setting_of, FairAt, Fair}
use Rattle.uc_putting_laws.proofs.Marks.{at_of, stands_under, under_spot}
use Rattle.uc_putting_laws.proofs.ObjectsWithin.{below_own}
use Rattle.uc_putting_laws.proofs.Steps.{here}
use Rattle.uc_putting_laws.proofs.Routines.{law_calling}
use Rattle.uc_putting_laws.proofs.Worlds.{Stands, PutWorld, goes, ticks, start, run_put}
use Rattle.uc_putting_laws.proofs.PuttingRuns.{code_of}
use Rattle.uc_rooted_runs.specs.UnmarkedRuns.{IsLeft, LeftBehind, MayLeave, RunLeft}
use Rattle.uc_homed_ends.specs.EndCode.{EndSite, AtSpot, AtElement}
use Rattle.uc_homed_ends.specs.EndLists.{FreeList, FreeActive}
use Rattle.uc_homed_ends.specs.EndWays as ways
use Rattle.uc_homed_ends.specs.EndWays.{Stage, Found, Leaves, Behind, OneLess, Way, Enters, NowBy, todo_at}
use Rattle.uc_homed_ends.specs.Ended.{is_variable, IsEntered, LawEnded}
use Rattle.uc_homed_ends.specs.Swept.{is_element, left_filling, SweepsStillAt, SweepsStill, LawSwept}
use Rattle.uc_homed_ends.proofs.Wholes.{plain_whole}
use Rattle.uc_homed_ends.proofs.EndCodes.{free_of}
use Rattle.uc_homed_ends.proofs.EndRuns.{Grows, RunGrows, leads_now}

-- with elements of arrays, or without
abbrev LivesWith : Bool → Table → Few → Journal → State → Type 0
LivesWith false t few j s = LivesState t (lasting few j) s
LivesWith true t few j s = LivesState t (lasting few j) s × SweepsStill few j s

life_of : (b : Bool) (t : Table) (few : Few) (j : Journal) (s : State) → LivesWith b t few j s → LivesState t (lasting few j) s
life_of false t few j s h = h
life_of true t few j s h = h.0

still_of : (b : Bool) (t : Table) (few : Few) (j : Journal) (s : State) → LivesWith b t few j s → b ≡ true → SweepsStill few j s
still_of false t few j s h e = absurd (cc)
still_of true t few j s h e = h.1

-- what is told of who has loaded an object, and of that
record Loaded (arrays : Bool) (few : Few) (j : Journal) (n : Exec) (l : List Todo) (v : Value) : Type 0 where
  number : ℕ
  is : v ≡ Object number
  there : is_variable (few.home number) ≡ true → is_gone number j ≡ false
  stands : arrays ≡ true → is_element (few.home number) ≡ true → left_filling l ≡ false → is_gone number j ≡ false
  own : Belongs few n (few.home number)

-- states in which marks are put for what is the execution's own, rooms are kept, homes are right, and what is in scope holds what is not gone
record Here (arrays : Bool) (p : Program) (few : Few) (j : Journal) (s : State) : Type 0 where
  stands : Stands p (setting_of p few) s
  fair : Fair (setting_of p few) s
  life : LivesState (table_of p) (lasting few j) s
  still : arrays ≡ true → SweepsStill few j s

-- what lies further on from a place is no variable
further_field : (h : Shape) (i : ℕ) (v : Value) → is_variable (further (FieldAt h i) v) ≡ false
further_field h i (Number z) = refl
further_field h i (Place o p) = refl
further_field h i (Running n) = refl
further_field h i (Object o) = refl
further_field h i Nothing = refl

further_element : (h : Shape) (i : ℕ) (v : Value) → is_variable (further (At h i) v) ≡ false
further_element h i (Number z) = refl
further_element h i (Place o p) = refl
further_element h i (Running n) = refl
further_element h i (Object o) = refl
further_element h i Nothing = refl

-- and a field is no element of one
field_element : (h : Shape) (i : ℕ) (v : Value) → is_element (further (FieldAt h i) v) ≡ false
field_element h i (Number z) = refl
field_element h i (Place o p) = refl
field_element h i (Running n) = refl
field_element h i (Object o) = refl
field_element h i Nothing = refl

part_element : (s : Shape) (m : ℕ) (h : Shape) (i : ℕ) (v : Value) → is_element (further (At s m) (further (FieldAt h i) v)) ≡ false
part_element s m h i (Number z) = refl
part_element s m h i (Place o p) = refl
part_element s m h i (Running n) = refl
part_element s m h i (Object o) = refl
part_element s m h i Nothing = refl

tail_filling : (b : Bool) (r : ℕ) (x : Expr) (todo : List Todo) → left_filling (calling b r ∷ (piece.DropNow ∷ (piece.Sweep x ∷ todo))) ≡ is_filling todo
tail_filling true r x todo = refl
tail_filling false r x todo = refl

-- a part of the object at hand is no variable
no_part : (Z : ℕ → ℕ → Type 0) (s : State) → StackState Z s → (k r : ℕ) (written : Bool) (todo : List Todo) → s.run.control ≡ piece.Unwind ∷ (piece.Part (ends_at (OfVariable k) r written) ∷ todo) → ⊥
no_part Z s st k r written todo e =
    let f = st.stack.0.fits in
    let x : TodoTo Z (UpTo st.stack.0.top) f.0 (piece.Unwind ∷ (piece.Part (ends_at (OfVariable k) r written) ∷ todo)) = subst (TodoTo Z (UpTo st.stack.0.top) f.0) e f.1 in
    x.1.0

-- what a variable in scope is bound to is not gone
module _ (t : Table) (few : Few) (j : Journal) (s : State) (life : LivesState t (lasting few j) s) (k r c : ℕ) (written : Bool) (this : (t.routine r).this ≡ Some c) (whole : (t.routine r).whole ≡ true) where
  abbrev Marked : List Todo → Type 0
  Marked l = InTodo (AtVariable t (Frame s.env.exec s.run.frame) s.run.this) (Nowhere (Frame s.env.exec s.run.frame) s.run.this) l (variable_at k s) (Cell (Obj c))

  at_mark : (l : List Todo) → s.run.control ≡ l → Marked l → (o : ℕ) → loaded (variable_at k s) s.env ≡ Object o → is_gone o j ≡ false
  at_mark l e m o q =
      let v : Variables t s.env.exec (s.run ∷ s.callers) (variable_at k s) (Cell (Obj c)) = inl (subst Marked (sym e) m) in
      let known = law_lives.reads t (lasting few j) s life (variable_at k s) (Cell (Obj c)) s.run.frame (Slot k ∷ []) (Obj c) tt v itself in
      let f : IsFew t (lasting few j) s.env.exec (Obj c) (Object o) = subst (λ v. IsFew t (lasting few j) s.env.exec (Obj c) v) q known.passes in
      not_gone few.numbers j c o f

  left_there : (Z : ℕ → ℕ → Type 0) → StackState Z s → Leaves (AtSpot (OfVariable k)) r written s.run.control → (o : ℕ) → loaded (variable_at k s) s.env ≡ Object o → is_gone o j ≡ false
  left_there Z st (todo, inl e) = at_mark (piece.Clean (ends_at (OfVariable k) r written) ∷ todo) e (inl (k, (refl, this, whole), refl))
  left_there Z st (todo, inr (inl e)) =
      at_mark (piece.Unwind ∷ (piece.Clean (ends_at (OfVariable k) r written) ∷ todo)) e (inl (k, (refl, this, whole), refl))
  left_there Z st (todo, inr (inr e)) = absurd (no_part Z s st k r written todo e)

-- what is loaded to be destroyed next lies at a place of the execution's own

module _ (p : Program) (sound : Sound (table_of p) (source_of p)) (few : Few) (s : State) where
  abbrev g : Setting
  g = setting_of p few

  special_whole : (r : ℕ) → ((table_of p).routine r).whole ≡ true → special_of p r ≡ false → ⊥
  special_whole r w e = no_both ((table_of p).routine r).whole w (plain_whole p r e)

  no_params : (r : ℕ) → [] ≡ ((table_of p).routine r).params → params (source_of p) r ≡ 0
  no_params r e = by (slice_get (source_of p).routines r) refl
    where
      by : (x : Option Routine) → slice_get (source_of p).routines r ≡ x → params_at x ≡ 0
      by None q = refl
      by (Some x) q = (sound.routines r x q).params ∙ ap length (sym e)

  module _ (k : PutState g s) (r : ℕ) (whole : ((table_of p).routine r).whole ≡ true) (empty : [] ≡ ((table_of p).routine r).params) where
    abbrev FitsAt : List Mark → List Todo → Type 0
    FitsAt ms todo = CallFits g (here s) k.run.made r ms todo

    abbrev UnderFits : List Todo → ℕ → Spot → Type 0
    UnderFits todo n x = IsOf k.run.made x × SeatAt g (here s) k.run.made todo (Under ((table_of p).routine r).this n x)

    abbrev HomeFits : List Todo → Site → Type 0
    HomeFits todo x = IsIn k.run.made x × SeatAt g (here s) k.run.made todo x × OfObjects x

    -- of an operand of which nothing is known it does not fit
    none_fits : (n : ℕ) → params (source_of p) r ≡ n → n ≡ 0 → (ms : List Mark) (todo : List Todo) → FitsAt (Any ∷ ms) todo → ⊥
    none_fits (suc n) q z ms todo h = absurd (cc)
    none_fits zero q z ms todo (inl e) = special_whole r whole e
    none_fits zero q z ms todo (inr (inl h)) =
        let f : FirstUnder (rests 0 (Any ∷ ms)) (UnderFits todo) = subst (λ n. FirstUnder (rests n (Any ∷ ms)) (UnderFits todo)) q h.1 in f
    none_fits zero q z ms todo (inr (inr h)) =
        let f : FirstHome (rests 0 (Any ∷ ms)) (HomeFits todo) = subst (λ n. FirstHome (rests n (Any ∷ ms)) (HomeFits todo)) q h in f

    -- of one that is at home at a site that is one of the execution's own
    homed_fits : (n : ℕ) → params (source_of p) r ≡ n → n ≡ 0 → (x : Site) (ms : List Mark) (todo : List Todo) → FitsAt (Homed x ∷ ms) todo → IsIn k.run.made x
    homed_fits (suc n) q z x ms todo h = absurd (cc)
    homed_fits zero q z x ms todo (inl e) = absurd (special_whole r whole e)
    homed_fits zero q z x ms todo (inr (inl h)) =
        let f : FirstUnder (rests 0 (Homed x ∷ ms)) (UnderFits todo) = subst (λ n. FirstUnder (rests n (Homed x ∷ ms)) (UnderFits todo)) q h.1 in absurd f
    homed_fits zero q z x ms todo (inr (inr h)) =
        let f : FirstHome (rests 0 (Homed x ∷ ms)) (HomeFits todo) = subst (λ n. FirstHome (rests n (Homed x ∷ ms)) (HomeFits todo)) q h in f.0

    -- what is to do behind the load
    call : (b : Bool) (ms : List Mark) (todo : List Todo) → Ok g (here s) k.run.made ms (ways.entering r b todo) → FitsAt ms todo
    call false ms todo h = h.1.0
    call true ms todo h = h.1.1.0

    own_load : (b : Bool) (todo : List Todo) → s.run.control ≡ LoadNow ∷ ways.entering r b todo → Belongs few s.env.exec (top s.run.operands)
    own_load b todo c = by k.run.marks k.run.holds (subst (Ok g (here s) k.run.made k.run.marks) c k.run.ok)
      where
        by : (ms : List Mark) → Holds few (here s) s.run.elements ms s.run.operands → Ok g (here s) k.run.made ms (LoadNow ∷ ways.entering r b todo) → Belongs few s.env.exec (top s.run.operands)
        by ms holds (inl h) = absurd (none_fits (params (source_of p) r) refl (no_params r empty) (rest ms) todo (call b (Any ∷ rest ms) todo h))
        by ms holds (inr h) =
            let x = at_of few (here s) s.run.elements ms s.run.operands holds (λ x. Ok g (here s) k.run.made (Homed x ∷ rest ms) (ways.entering r b todo)) h.1 in
            below_own few s.env.exec (suc s.run.frame) (top s.run.operands) (under_spot few (here s) k.run.made k.run.this.own (suc s.run.frame) (omega arith) (site_spot x.0) (homed_fits (params (source_of p) r) refl (no_params r empty) x.0 (rest ms) todo (call b (Homed x.0 ∷ rest ms) todo x.2)) (top s.run.operands) (stands_under few (here s) s.run.elements x.0 (top s.run.operands) x.1))

  is_ending : (r : ℕ) (b : Bool) (todo : List Todo) → IsEnding (ways.entering r b todo)
  is_ending r false todo = refl
  is_ending r true todo = refl

  module _ (arrays : Bool) (j : Journal) (h : Here arrays p few j s) (w : Way (table_of p) (Here arrays p few j) s) (b : Bool) (c : s.run.control ≡ LoadNow ∷ ways.entering w.routine b w.todo) where
    -- of what is loaded from a variable
    there_at : (x : EndSite) → Found ways.Reads x s → Leaves x w.routine b w.start.run.control → is_variable (top s.run.operands) ≡ true → (o : ℕ) → loaded (top s.run.operands) s.env ≡ Object o → is_gone o j ≡ false
    there_at (AtSpot (OfVariable k)) f l v o e =
        let here : loaded (variable_at k s) s.env ≡ Object o = subst (λ v. loaded v s.env ≡ Object o) f e in
        let framed : loaded (Place (Frame s.env.exec w.start.run.frame) (Slot k ∷ [])) s.env ≡ Object o = subst (λ (d : ℕ). loaded (Place (Frame s.env.exec d) (Slot k ∷ [])) s.env ≡ Object o) w.frame here in
        let before : loaded (variable_at k w.start) w.start.env ≡ Object o = subst (λ (v : Env). loaded (Place (Frame v.exec w.start.run.frame) (Slot k ∷ [])) v ≡ Object o) w.env framed in
        left_there (table_of p) few j w.start w.held.life k w.routine w.class b w.this w.whole (Sized p) w.held.stands.stack l o before
    there_at (AtSpot (OfField h i)) f l v o e = no_both (is_variable (top s.run.operands)) v (ap is_variable f ∙ further_field h i s.run.this)
    there_at (AtElement n q) f l v o e = no_both (is_variable (top s.run.operands)) v (ap is_variable f.0 ∙ further_element Binding s.run.elements (place_at q s))

    -- of the last element that stood
    element_at : arrays ≡ true → (x : EndSite) → Found ways.Reads x s → Leaves x w.routine b w.start.run.control → Behind x w.todo w.start.run.control → OneLess x w.start.run.elements s.run.elements → is_element (top s.run.operands) ≡ true → left_filling (calling b w.routine ∷ w.todo) ≡ false → (o : ℕ) → loaded (top s.run.operands) s.env ≡ Object o → few.home o ≡ top s.run.operands → is_gone o j ≡ false
    element_at a (AtSpot (OfVariable k)) f l i m v q o e g = no_both (is_element (top s.run.operands)) v (ap is_element f)
    element_at a (AtSpot (OfField y k)) f l i m v q o e g = no_both (is_element (top s.run.operands)) v (ap is_element f ∙ field_element y k s.run.this)
    element_at a (AtElement n (OfField y k)) f l i m v q o e g = no_both (is_element (top s.run.operands)) v (ap is_element f.0 ∙ part_element Binding s.run.elements y k s.run.this)
    element_at a (AtElement n (OfVariable k)) f l i m v q o e g =
        let t = l.0 in
        let same : t ≡ i.1 = ap others (sym l.1 ∙ i.2) in
        let scoped : is_filling t ≡ false = ap is_filling same ∙ (sym (ap (λ z. left_filling (calling b w.routine ∷ z)) i.3 ∙ tail_filling b w.routine i.0 i.1) ∙ q) in
        let place : Value = Place (Frame w.start.env.exec w.start.run.frame) (At Binding s.run.elements ∷ (Slot k ∷ [])) in
        let there : top s.run.operands ≡ place = f.0 ∙ (ap (λ (z : Env). Place (Frame z.exec s.run.frame) (At Binding s.run.elements ∷ (Slot k ∷ []))) w.env ∙ ap (λ (d : ℕ). Place (Frame w.start.env.exec d) (At Binding s.run.elements ∷ (Slot k ∷ []))) w.frame) in
        let before : loaded place w.start.env ≡ Object o = sym (ap (λ (z : Env). loaded place z) w.env) ∙ (sym (ap (λ z. loaded z s.env) there) ∙ e) in
        let still = subst (λ c. SweepsStillAt few j c w.start) l.1 (w.held.still a) in
        still scoped s.run.elements o m f.1 before (g ∙ there)

    load : (x : EndSite) → Found ways.Reads x s → Leaves x w.routine b w.start.run.control → Behind x w.todo w.start.run.control → OneLess x w.start.run.elements s.run.elements → Loaded arrays few j s.env.exec (calling b w.routine ∷ w.todo) (loaded (top s.run.operands) s.env)
    load x f l i m =
        let at_home : IsHome few (loaded (top s.run.operands) s.env) (top s.run.operands) = (subst (λ l. FairAt g l s) c h.fair) (is_ending w.routine b w.todo) in
        let belongs = own_load h.stands.put w.routine w.whole w.params b w.todo c in
        record {
          number = at_home.number;
          is = at_home.object;
          there = λ v. there_at x f l (ap is_variable (sym at_home.home) ∙ v) at_home.number at_home.object;
          stands = λ a v q. element_at a x f l i m (ap is_element (sym at_home.home) ∙ v) q at_home.number at_home.object at_home.home;
          own = subst (Belongs few s.env.exec) (sym at_home.home) belongs;
        }

-- in runs

module _ (p : Program) (formed : IsFormed p) (accepted : breaks_of p ≡ []) (few : Few) (arrays : Bool) (input : List ℕ) (opts : Options) (range : InRange opts) where
  abbrev source : Source
  source = source_of p

  abbrev FairHere : State → Type 0
  FairHere s = Fair (setting_of p few) s

  abbrev Lives : Journal → State → Type 0
  Lives j s = LivesWith arrays (table_of p) few j s

  at_ride : (j : Journal) {s u : State} {q k : ℕ} {a : Asked} (d : Rides source s q u k a) → RideMeets FairHere source s q u k a d → RideMeets (Lives j) source s q u k a d → Stands p (setting_of p few) s → RideMeets (Here arrays p few j) source s q u k a d
  at_ride j rides.slices f l n = tt
  at_ride j (rides.goes_on {s} {t} e r) f l n =
      (record { stands = n; fair = f.0; life = life_of arrays (table_of p) few j s l.0; still = still_of arrays (table_of p) few j s l.0 }, at_ride j r f.1 l.1 (goes p (setting_of p few) (laid_out p formed accepted) (law_accepted p accepted) (code_of p formed accepted few) s t e n f.0))
  at_ride j (rides.ticks {s} {t} e r) f l n =
      (record { stands = n; fair = f.0; life = life_of arrays (table_of p) few j s l.0; still = still_of arrays (table_of p) few j s l.0 }, at_ride j r f.1 l.1 (ticks p (setting_of p few) (laid_out p formed accepted) (law_accepted p accepted) (code_of p formed accepted few) s t e n f.0))
  at_ride j (rides.asks {s} e) f l n = record { stands = n; fair = f; life = life_of arrays (table_of p) few j s l; still = still_of arrays (table_of p) few j s l }

  at_leads : (j : Journal) {s u : State} (d : Leads source s u) → LeadsMeet FairHere source s u d → LeadsMeet (Lives j) source s u d → Stands p (setting_of p few) s → LeadsMeet (Here arrays p few j) source s u d
  at_leads j rooms.stays f l n = tt
  at_leads j (rooms.goes {s} {u} e d) f l n =
      (record { stands = n; fair = f.0; life = life_of arrays (table_of p) few j s l.0; still = still_of arrays (table_of p) few j s l.0 }, at_leads j d f.1 l.1 (goes p (setting_of p few) (laid_out p formed accepted) (law_accepted p accepted) (code_of p formed accepted few) s u e n f.0))
  at_leads j (rooms.ticks {s} {u} e d) f l n =
      (record { stands = n; fair = f.0; life = life_of arrays (table_of p) few j s l.0; still = still_of arrays (table_of p) few j s l.0 }, at_leads j d f.1 l.1 (ticks p (setting_of p few) (laid_out p formed accepted) (law_accepted p accepted) (code_of p formed accepted few) s u e n f.0))

  put_there : {j : Journal} {w : World} (r : Runs source input opts j w) → RunFits source input opts j w r → RunMeets FairHere source input opts j w r → is_over j ≡ false → PutWorld (setting_of p few) j w
  put_there r fits fair on = (run_put p accepted few (laid_out p formed accepted) (law_calling p formed accepted).main (code_of p formed accepted few) input opts range r fits fair).0 on

  at_run : {j : Journal} {w : World} (r : Runs source input opts j w) → RunFits source input opts j w r → RunMeets FairHere source input opts j w r → RunMeetsAt Lives source input opts j w r → RunMeetsAt (Here arrays p few) source input opts j w r
  at_run begun fits f l = tt
  at_run (more r on (gives q t s le)) fits f l = (at_run r fits.0 f.0 l.0, tt)
  at_run (more r on (no_room q t s le)) fits f l = (at_run r fits.0 f.0 l.0, tt)
  at_run (more {j} {w} r on (acts q t n s asked d)) fits f l = (
    at_run r fits.0 f.0 l.0,
    at_ride j d.rides f.1 l.1 (start p accepted few (laid_out p formed accepted) (law_calling p formed accepted).main (code_of p formed accepted few) input opts range (run_rests source input opts range r fits.0 on) on (put_there r fits.0 f.0 on) (law_frame_runs p accepted input opts j w r) q t d.given d.runs d.told),
  )

  -- what goes as entries stand

  or_false : (b : Bool) → (b || false) ≡ b
  or_false true = refl
  or_false false = refl

  one_goes : (u o : ℕ) (j : Journal) (e : Entry) → e.kind ≡ kind.Gone → e.object ≡ o → is_gone u j ≡ false → is_gone u (j ++ e ∷ []) ≡ true → u ≡ o
  one_goes u o j e k q f g =
      let both : (is_gone u j || takes_object e.kind e u) ≡ true = sym (gone_push u j e) ∙ g in
      let taken : takes_object e.kind e u ≡ true = ap (λ b. b || takes_object e.kind e u) (sym f) ∙ both in
      let it : takes_object kind.Gone e u ≡ true = ap (λ x. takes_object x e u) (sym k) ∙ taken in
      eqb-true u e.object it ∙ q

  none_taken : (t o : ℕ) (A : Type 0) (v : ℕ) (j : Journal) (p : ℕ) (a : List Entry) → AllBy p t o A false a → is_gone v (j ++ a) ≡ is_gone v j
  none_taken t o A v j p [] h = ap (is_gone v) (append-nil j)
  none_taken t o A v j p (e ∷ a) h =
      ap (is_gone v) (sym (append_assoc j (e ∷ []) a)) ∙ (none_taken t o A v (j ++ e ∷ []) p a h.1 ∙ gone_still v j e (no_gone (is_gone_by e.kind) h.0.gone))
    where
      no_gone : (b : Bool) → (b ≡ true → false ≡ true) → b ≡ false
      no_gone true f = absurd (let q = f refl in cc)
      no_gone false f = refl

  module _ (j : Journal) (w : World) (q t k : ℕ) (s : State) (asked : Asked) (still : is_over (j ++ act opts source.sites input j q t k asked) ≡ false) where
    abbrev a : List Entry
    a = act opts source.sites input j q t k asked

    abbrev x : World
    x = world_after source a w t s

    same_gone : destroys asked.request ≡ false → (v : ℕ) → is_gone v (j ++ a) ≡ is_gone v j
    same_gone d v =
        let e = (going_row opts source.sites input j q t k asked still).0 in
        ap (λ l. is_gone v (j ++ l)) e ∙ none_taken t (object_of t j asked.request) (Unit {0}) v j q (row opts source.sites input j q t (cost k asked.line) asked.line asked.request) (subst (λ g. AllBy q t (object_of t j asked.request) (Unit {0}) g (row opts source.sites input j q t (cost k asked.line) asked.line asked.request)) d (by_row opts source.sites input j q t (cost k asked.line) asked.line (Unit {0}) asked.request (λ h. tt)))

    goes_alone : (o : ℕ) → asked.request ≡ ask.Gone o → (v : ℕ) → is_gone v j ≡ false → is_gone v (j ++ a) ≡ true → v ≡ o
    goes_alone o e v f g =
        let one : a ≡ asking kind.Gone q t (cost k asked.line) o (pos 0) (pos 0) ∷ [] = (going_row opts source.sites input j q t k asked still).0 ∙ ap (row opts source.sites input j q t (cost k asked.line) asked.line) e in
        one_goes v o j (asking kind.Gone q t (cost k asked.line) o (pos 0) (pos 0)) refl refl f (ap (λ l. is_gone v (j ++ l)) (sym one) ∙ g)

    same_task : (u : ℕ) → (u == t) ≡ false → spawns a u ≡ false → (if u == t then bare s else if spawns a u then child_of source (own_object u a) s else w.tasks u) ≡ w.tasks u
    same_task u e f = ap (λ b. if b then bare s else if spawns a u then child_of source (own_object u a) s else w.tasks u) e ∙ ap (λ b. if b then child_of source (own_object u a) s else w.tasks u) f

    -- what another has loaded does not go
    other_keeps : (o : ℕ) → asked.request ≡ ask.Gone o → IsLeft (table_of p) few (j ++ a) x t o → (u : ℕ) → (u == t) ≡ false → u < task_count j → spawns a u ≡ false → (k : List Todo) (v : Value) → Loaded arrays few j (w.tasks u).env.exec k v → Loaded arrays few (j ++ a) (w.tasks u).env.exec k v
    other_keeps o e left u n l f k v h =
        record { number = h.number; is = h.is; there = λ z. by (h.there z) (is_gone h.number (j ++ a)) refl; stands = λ b z q. by (h.stands b z q) (is_gone h.number (j ++ a)) refl; own = h.own }
      where
        same : (x.tasks u).env.exec ≡ (w.tasks u).env.exec
        same = ap (λ (m : State). m.env.exec) (same_task u n f)

        self : (m : ℕ) → (m == m) ≡ true
        self m = self_test m

        differ : u ≡ t → (u == t) ≡ false → ⊥
        differ i h = let y : (u == u) ≡ false = subst (λ v. (u == v) ≡ false) (sym i) h in no_both (u == u) (self u) y

        away : h.number ≡ o → ⊥
        away i =
            let mine : Belongs few (w.tasks u).env.exec (few.home o) = subst (λ i. Belongs few (w.tasks u).env.exec (few.home i)) i h.own in
            let g = tasks_grow j a in
            let one : u ≡ t = left.name.running u (omega (arith, l, g)) (same ∙ law_own few (w.tasks u).env.exec (x.tasks t).env.exec (few.home o) mine left.belongs) in
            differ one n

        by : is_gone h.number j ≡ false → (b : Bool) → is_gone h.number (j ++ a) ≡ b → is_gone h.number (j ++ a) ≡ false
        by z true y = absurd (away (goes_alone o e h.number z y))
        by z false y = y

    kept : destroys asked.request ≡ false → (n : Exec) (k : List Todo) (v : Value) → Loaded arrays few j n k v → Loaded arrays few (j ++ a) n k v
    kept d n k v h = record { number = h.number; is = h.is; there = λ z. same_gone d h.number ∙ h.there z; stands = λ b z q. same_gone d h.number ∙ h.stands b z q; own = h.own }

  left_by : (r : Request) (j : Journal) (y : World) (t o : ℕ) → r ≡ ask.Gone o → LeftBehind (table_of p) few j y t r → IsLeft (table_of p) few j y t o
  left_by r j y t o e h = subst (LeftBehind (table_of p) few j y t) e h

  abbrev Told : Journal → Exec → List Todo → Value → Type 0
  Told j n l v = Loaded arrays few j n l v

  loading : (j : Journal) (s : State) → Here arrays p few j s → (w : Way (table_of p) (Here arrays p few j) s) (x : EndSite) (b : Bool) → s.run.control ≡ LoadNow ∷ ways.entering w.routine b w.todo → Found ways.Reads x s → Leaves x w.routine b w.start.run.control → Behind x w.todo w.start.run.control → OneLess x w.start.run.elements s.run.elements → Told j s.env.exec (calling b w.routine ∷ w.todo) (loaded (top s.run.operands) s.env)
  loading j s h w x b c f l i m = load p (law_sound p formed accepted) few s arrays j h w b c x f l i m

  grows_by : (r : Request) (j : Journal) (w : World) (q t k : ℕ) (s : State) (asked : Asked) → asked.request ≡ r → (still : is_over (j ++ act opts source.sites input j q t k asked) ≡ false) → LeftBehind (table_of p) few (j ++ act opts source.sites input j q t k asked) (world_after source (act opts source.sites input j q t k asked) w t s) t asked.request → (u : ℕ) → (u == t) ≡ false → u < task_count j → spawns (act opts source.sites input j q t k asked) u ≡ false → (l : List Todo) (v : Value) → Told j (w.tasks u).env.exec l v → Told (j ++ act opts source.sites input j q t k asked) (w.tasks u).env.exec l v
  grows_by (ask.Gone o) j w q t k s asked e still left u n l f c v h =
      other_keeps j w q t k s asked still o e (left_by asked.request (j ++ act opts source.sites input j q t k asked) (world_after source (act opts source.sites input j q t k asked) w t s) t o e left) u n l f c v h
  grows_by r j w q t k s asked e still left u n l f c v h = plain r refl e
    where
      plain : (r : Request) → destroys r ≡ false → asked.request ≡ r → Told (j ++ act opts source.sites input j q t k asked) (w.tasks u).env.exec c v
      plain r d e = kept j w q t k s asked still (ap destroys e ∙ d) (w.tasks u).env.exec c v h

  may_grow : {j : Journal} {w : World} {a : List Entry} {y : World} (m : May source opts input j w a y) → is_over (j ++ a) ≡ false → MayLeave (table_of p) few source opts input j w a y m → Grows (table_of p) (Here arrays p few) Told loading source (free_of p formed accepted) input opts range m
  may_grow {j} {w} (gives q t s le) still left =
      λ u l v h. record { number = h.number; is = h.is; there = λ z. gone_still h.number j (dispatch q t) refl ∙ h.there z; stands = λ b z i. gone_still h.number j (dispatch q t) refl ∙ h.stands b z i; own = h.own }
  may_grow (no_room q t s le) still left = tt
  may_grow {j} {w} (acts q t k s asked d) still left = (
    (λ u n l lives f c v h. grows_by asked.request j w q t k s asked refl still left u n l f c v h),
    (λ e l v h. kept j w q t k s asked still (ap destroys e) s.env.exec l v h),
  )

  run_grow : {j : Journal} {w : World} (r : Runs source input opts j w) → RunLeft (table_of p) few source input opts j w r → RunGrows (table_of p) (Here arrays p few) Told loading source (free_of p formed accepted) input opts range r
  run_grow begun left = tt
  run_grow (more r on m) left = (run_grow r left.0, λ still. may_grow m still left.1)

  now : {j : Journal} {w : World} (r : Runs source input opts j w) → RunFits source input opts j w r → is_over j ≡ false → RunLeft (table_of p) few source input opts j w r → RunMeets FairHere source input opts j w r → RunMeetsAt Lives source input opts j w r → (t : ℕ) (s : State) (c : Comes source j w t s) → LeadsMeet FairHere source (answered source c.given (drawn j w t)) s c.leads → LeadsMeet (Lives j) source (answered source c.given (drawn j w t)) s c.leads → NowBy (table_of p) (Here arrays p few j) (Told j) s
  now {j} {w} r fits on left fair lives t s c f v =
      let first = start p accepted few (laid_out p formed accepted) (law_calling p formed accepted).main (code_of p formed accepted few) input opts range (run_rests source input opts range r fits on) on (put_there r fits fair on) (law_frame_runs p accepted input opts j w r) c.processor t c.given c.runs c.told in
      (leads_now (table_of p) (Here arrays p few) Told loading source (free_of p formed accepted) input opts range r fits (at_run r fits fair lives) (run_grow r left) on t s c (at_leads j c.leads f v first)).0

-- what is asked where an object is entered is of that object
entered : (d : Option ℕ) (i k : ℕ) (todo : List Todo) (s : State) (o m : ℕ) (u : State) → enter_at d i k todo s ≡ Asks (ask.Call o m) u → i ≡ o
entered (Some d) i k todo s o m u e = absurd (cc)
entered None i k todo s o m u e = cc

may_enter : (b : Bool) (d : Option ℕ) (i k : ℕ) (todo : List Todo) (s : State) (o m : ℕ) (u : State) → (if b then enter_at d i k todo s else fault Depth todo s.run.operands s) ≡ Asks (ask.Call o m) u → i ≡ o
may_enter true d i k todo s o m u e = entered d i k todo s o m u e
may_enter false d i k todo s o m u e = absurd (cc)

-- whoever is on the way to a load enters nothing next
on_way : (k : Stage) (x : EndSite) (r : ℕ) (written : Bool) (todo : List Todo) (m i : ℕ) (l : List Todo) → todo_at k x r written todo ≡ EnterNow m i ∷ l → ⊥
on_way ways.Ends x r written todo m i l e = absurd (cc)
on_way ways.Loads x r written todo m i l e = absurd (cc)
on_way ways.Finds x r written todo m i l e = absurd (cc)
on_way ways.Arrays (AtSpot p) r written todo m i l e = absurd (cc)
on_way ways.Arrays (AtElement n p) r written todo m i l e = absurd (cc)
on_way ways.Counts (AtSpot p) r written todo m i l e = absurd (cc)
on_way ways.Counts (AtElement n p) r written todo m i l e = absurd (cc)
on_way ways.Picks (AtSpot p) r written todo m i l e = absurd (cc)
on_way ways.Picks (AtElement n p) r written todo m i l e = absurd (cc)
on_way ways.Reads x r written todo m i l e = absurd (cc)

-- of an object that is entered to be destroyed
record Entered (arrays : Bool) (few : Few) (j : Journal) (n : Exec) (todo : List Todo) (o : ℕ) : Type 0 where
  entered : IsEntered few j n o
  stands : arrays ≡ true → is_element (few.home o) ≡ true → left_filling todo ≡ false → is_gone o j ≡ false

module _ (arrays : Bool) (p : Program) (sound : Sound (table_of p) (source_of p)) (few : Few) (j : Journal) (s : State) (now : NowBy (table_of p) (Here arrays p few j) (Loaded arrays few j) s) where
  ended : (k i : ℕ) (todo : List Todo) → s.run.control ≡ EnterNow k i ∷ todo → ((table_of p).routine i).whole ≡ true → (o m : ℕ) (u : State) → quiet (source_of p) s ≡ Asks (ask.Call o m) u → Entered arrays few j s.env.exec todo o
  ended k i todo c whole o m u e = by now.run
    where
      same_routine : (a b n : ℕ) (l h : List Todo) → EnterNow a n ∷ l ≡ EnterNow b i ∷ h → n ≡ i
      same_routine a b n l h q = cc

      same_behind : (a b n : ℕ) (l h : List Todo) → EnterNow a n ∷ l ≡ EnterNow b i ∷ h → l ≡ h
      same_behind a b n l h q = ap others q

      is_it : (x : Option Routine) → slice_get (source_of p).routines i ≡ x → [] ≡ ((table_of p).routine i).params → Loaded arrays few j s.env.exec todo (top s.run.operands) → enter_step k x todo s ≡ Asks (ask.Call o m) u → Entered arrays few j s.env.exec todo o
      is_it None g z h q = absurd (cc)
      is_it (Some y) g z h q =
          let none : y.params ≡ 0 = (sound.routines i y g).params ∙ ap length (sym z) in
          let same : object_in (top (drop y.params s.run.operands)) ≡ o = may_enter (may_call y.written s) (find (object_in (top (drop y.params s.run.operands))) s.env.depths) (object_in (top (drop y.params s.run.operands))) k todo s o m u q in
          let here : object_in (top s.run.operands) ≡ o = subst (λ n. object_in (top (drop n s.run.operands)) ≡ o) none same in
          let it : h.number ≡ o = sym (ap object_in h.is) ∙ here in
          subst (Entered arrays few j s.env.exec todo) it (record { entered = record { own = h.own; there = h.there }; stands = h.stands })

      by : (FreeActive (table_of p) s.run ⊎ Enters (table_of p) (Loaded arrays few j) s) ⊎ Way (table_of p) (Here arrays p few j) s → Entered arrays few j s.env.exec todo o
      by (inl (inl h)) =
          let f : FreeList (table_of p) (EnterNow k i ∷ todo) = subst (FreeList (table_of p)) c h in
          no_both ((table_of p).routine i).whole whole f.0
      by (inl (inr h)) = at_entry h.control
        where
          at_entry : (s.run.control ≡ EnterNow DESTRUCTOR h.routine ∷ h.todo) ⊎ (s.run.control ≡ piece.TickNow ∷ (EnterNow DESTRUCTOR h.routine ∷ h.todo)) → Entered arrays few j s.env.exec todo o
          at_entry (inl q) =
              let same : h.routine ≡ i = same_routine DESTRUCTOR k h.routine h.todo todo (sym q ∙ c) in
              is_it (slice_get (source_of p).routines i) refl (subst (λ n. [] ≡ ((table_of p).routine n).params) same h.params) (subst (λ l. Loaded arrays few j s.env.exec l (top s.run.operands)) (same_behind DESTRUCTOR k h.routine h.todo todo (sym q ∙ c)) h.told) (subst (λ l. act_todo (source_of p) l s ≡ Asks (ask.Call o m) u) c e)
          at_entry (inr q) =
              let f : piece.TickNow ∷ (EnterNow DESTRUCTOR h.routine ∷ h.todo) ≡ EnterNow k i ∷ todo = sym q ∙ c in absurd (cc)
      by (inr w) = absurd (on_way w.stage w.site w.routine w.written w.todo k i todo (sym w.control ∙ c))

pub law_ended : LawEnded
law_ended p formed accepted few input opts range j w r fits on left fair lives t s c f v k i todo z whole o m u e =
    (ended false p (law_sound p formed accepted) few j s (now p formed accepted few false input opts range r fits on left fair lives t s c f v) k i todo z whole o m u e).entered

pub law_swept : LawSwept
law_swept p formed accepted few input opts range j w r fits on left fair lives t s c f v k i todo z whole o m u e =
    (ended true p (law_sound p formed accepted) few j s (now p formed accepted few true input opts range r fits on left fair lives t s c f v) k i todo z whole o m u e).stands refl
