-- What a reference of a mutex object is bound to was told of as it was bound, so it is known to who is at home in the object and reads it.
use Rattle.std.proofs.Common.{◌≡◌, ℕ, suc, ◌⊎◌, ◌||◌, inl, inr, ⊎_elim, Bool, true, false, List, [], ◌∷◌, drop, Option, Some, None, refl, sym, ap, ◌∙◌, subst, arith, ◌++◌, ◌<◌}
use Rattle.std.specs.Prelude.{◌&&◌, not, nat_eq, slice_get, if◌then◌else◌}
use Rattle.std.proofs.lemmas.Bool.{eqb-true, eq-eqb}
use Rattle.uc_tree.specs.Source.{Shape, Routine, Source, OfObject, GetOwn}
use Rattle.uc_entry.specs.Keyed.{find}
use Rattle.uc_entry.specs.declared.entry.Options.{Options}
use Rattle.uc_entry.specs.declared.request.Asked.{Asked}
use Rattle.uc_acts.specs.Journal.{Journal, is_over}
use Rattle.uc_acts.specs.Known.{is_gone, object_count}
use Rattle.uc_acts.specs.Serves.{left}
use Rattle.uc_machine.specs.declared.exec.Owner.TheVariants.{Frame, Fields}
use Rattle.uc_machine.specs.Pieces as piece
use Rattle.uc_machine.specs.Pieces.{FieldAt, Value, Number, Place, Running, Object, Nothing, Todo, State, address, further, loaded, top, below}
use Rattle.uc_machine.specs.Answering.{answered}
use Rattle.uc_meaning.specs.Runs.{World, May, Runs, AsksIn, drawn, gives, no_room, acts, begun, more}
use Rattle.uc_state_laws.specs.Counted.{params, params_at}
use Rattle.uc_state_laws.specs.RoomRuns as rooms
use Rattle.uc_state_laws.specs.RoomRuns.{Leads, Comes}
use Rattle.uc_state_laws.specs.Opens.{RideMeets, RunMeets}
use Rattle.uc_typing.specs.Typing.{Ty, Num, Cell, Obj, Raw, Row, Clu, Pro, Name, Sig, Table, Yields}
use Rattle.uc_typing.specs.States.{IsObjectBy}
use Rattle.uc_life_laws.specs.Things.{Few, Base, Known}
use Rattle.uc_life_laws.specs.Knowing.{AtHand, Here, KnownThis}
use Rattle.uc_life_laws.specs.HomedStates.{Owns}
use Rattle.uc_life_laws.specs.Lasting.{RunMeetsAt}
use Rattle.uc_life_laws.specs.MadeObjects as made
use Rattle.uc_sound.proofs.Lists.{left_is, right_is}
use Rattle.uc_homed_ends.proofs.BoundRuns.{ride_zip}
use Rattle.uc_lent_laws.specs.LentStates.{MayHold, StateTold, MayBind, BindsAt, Binds}
use Rattle.uc_lent_laws.proofs.LentCells.{found_told, values_told}
use Rattle.uc_lent_laws.proofs.LentWorlds.{comes_told}
use Rattle.uc_tree.specs.Programs.{Program}
use Rattle.uc_entry.specs.declared.entry.Entry.{Entry}
use Rattle.uc_entry.specs.declared.request.Request.{Request}
use Rattle.uc_entry.specs.declared.request.Request.TheVariants as ask
use Rattle.uc_acts.specs.Acts.{act, dispatch, lone_limit}
use Rattle.uc_acts.proofs.Bounds.{over_limit}
use Rattle.uc_resolve.specs.Resolve.{source_of}
use Rattle.uc_sound.specs.Tables.{table_of}
use Rattle.uc_state_laws.specs.Fitting.{RunFits}
use Rattle.uc_life_laws.proofs.NewNumbers.{objects_grow}
use Rattle.uc_cell_laws.specs.CellTodos.{asked_class}
use Rattle.uc_cell_laws.specs.Classes.{then_class, class_by, class_of}
use Rattle.uc_cell_laws.specs.OwnCells.{owns_of}
use Rattle.uc_lasting_programs.proofs.HomesAway.{was_there}
use Rattle.uc_lasting_programs.proofs.PresentRuns.{gone_stays}
use Rattle.uc_acts.proofs.Living.{gone_still}
use Rattle.uc_machine.specs.Rides.{Rides, slices, goes_on, ticks, asks}
use Rattle.uc_life_laws.specs.Homes.{home_of}
use Rattle.uc_life_laws.proofs.Homes.{law_once}
use Rattle.uc_machine.specs.declared.exec.Exec.{Exec}
use Rattle.uc_life_laws.specs.Rooted.{IsPlace}
use Rattle.uc_lasting_programs.proofs.Seats.{left_true, right_true, place_self}
use Rattle.uc_name_laws.proofs.Homes.{exec_self}
use Rattle.uc_lasting_programs.specs.Lent.{owner_of, is_own_of, is_part, IsReferenceTo, field_cell, is_own, IsBoundAt, IsBound, BindsBy, BindsTo, RideBinds, RunBinds, AreTold, IsOutlived, value_read, is_placed, is_anothers, is_home, reads_by, reads_on_ride, reads_in_run, is_class, is_lent_value, is_lent_at, reads_lent}
use Rattle.uc_lasting_programs.specs.Lying.{LiesLeft}
use Rattle.uc_lasting_programs.specs.Remaining.{was_made}
use Rattle.uc_machine.specs.Executions.{others, exec_eq}
use Rattle.uc_lasting_programs.proofs.Lying.{HasItsHome, lying_known}
use Rattle.uc_lasting_programs.proofs.OfOthers.{HasOthers}
use Rattle.uc_lasting_programs.proofs.Meeting.{ride_turned}

number_self : (n : ℕ) → nat_eq n n ≡ true
number_self n = eq-eqb n n refl

both_true : (a b : Bool) → a ≡ true → b ≡ true → (a && b) ≡ true
both_true true b e f = f
both_true false b e f = absurd (cc)

no_false : (b : Bool) → b ≡ true → b ≡ false → ⊥
no_false b e f = cc

not_true : (b : Bool) → not b ≡ true → b ≡ false
not_true true h = absurd (cc)
not_true false h = refl

-- what holds in a run that a longer one is told of
module _ (t : Table) (owns : Owns) (homes : ℕ → Value) (class : ℕ → Option ℕ) where
  -- an object lent to another is not gone as long as that is not: so it is where a reference that is bound to one is read
  abbrev pub HasLent : Journal → State → Type 0
  HasLent i s = (o c k d q : ℕ) → class o ≡ Some c → IsReferenceTo t owns c k d → loaded (Place (Fields o) (FieldAt (t.shape c) k ∷ [])) s.env ≡ Object q →
      is_part homes o q ≡ false → is_gone o i ≡ false → is_gone q i ≡ false

  -- `In o q`: q was bound to a reference of o
  module _ (In : ℕ → ℕ → Type 0) where
    -- what a cell may hold: what is lent, or a part
    abbrev IsTold : ℕ → ℕ → Value → Type 0
    IsTold o k (Object q) = (is_part homes o q ≡ false → (c i d : ℕ) → class o ≡ Some c → IsReferenceTo t owns c i d → field_cell t c i ≡ k → In o q) ⊎ (is_part homes o q ≡ true)
    IsTold o k v = Unit {0}

    abbrev Bound_in : Value → Value → Type 0
    Bound_in v w = (o q : ℕ) → IsBound t owns homes class o q v w → In o q

    lent_told : (o k : ℕ) (w : Value) → ((q : ℕ) → IsBoundAt t owns homes class o q k w → In o q) → MayHold IsTold o k w
    lent_told o k (Number z) f = tt
    lent_told o k (Place u p) f = tt
    lent_told o k (Running x) f = tt
    lent_told o k (Object q) f = inl (λ no c i d is ref at. f q (c, i, d, refl, no, is, ref, at))
    lent_told o k Nothing f = tt

    lent_bound : (v w : Value) → Bound_in v w → MayBind IsTold v w
    lent_bound (Number z) w f = tt
    lent_bound (Place (Frame n d) p) w f = tt
    lent_bound (Place (Fields o) p) w f = lent_told o (address p) w (λ q b. f o q (refl, b))
    lent_bound (Running x) w f = tt
    lent_bound (Object o) w f = lent_told o 0 w (λ q b. f o q (refl, b))
    lent_bound Nothing w f = tt

    -- a made object is bound where it is at home
    own_part : (q o : ℕ) → owner_of (homes q) ≡ Some o → is_part homes o q ≡ true
    own_part q o e =
        ap (is_own_of homes o (suc (suc q))) e ∙ ap (λ b. b || is_own_of homes o (suc q) (owner_of (homes o))) (number_self o)

    home_bound : (q : ℕ) (v : Value) → homes q ≡ v → MayBind IsTold v (Object q)
    home_bound q (Number z) e = tt
    home_bound q (Place (Frame n d) p) e = tt
    home_bound q (Place (Fields o) p) e = inr (own_part q o (ap owner_of e))
    home_bound q (Running x) e = tt
    home_bound q (Object o) e = inr (own_part q o (ap owner_of e))
    home_bound q Nothing e = tt

    made_told : (source : Source) (many r : ℕ) (s : State) → made.IsBound source homes many r s.run.operands → (x : Routine) → slice_get source.routines r ≡ Some x → MayBind IsTold (top (drop x.params (below s.run.operands))) (top s.run.operands)
    made_told source many r s b x e =
        let same : params source r ≡ x.params = ap params_at e in
        let home : homes b.number ≡ top (drop x.params (below s.run.operands)) = subst (λ (n : ℕ). homes b.number ≡ top (drop n (below s.run.operands))) same b.home in
        subst (MayBind IsTold (top (drop x.params (below s.run.operands)))) (sym b.object) (home_bound b.number (top (drop x.params (below s.run.operands))) home)

    -- what a state binds was bound so
    abbrev Marks : State → Type 0
    Marks s = (o q : ℕ) → BindsTo t owns homes class o q s → In o q

    binds_told : (source : Source) (many : ℕ) (s : State) → Marks s → made.Binds source homes many s → Binds IsTold source s
    binds_told source many s h m = by s.run.control h m
      where
        by : (l : List Todo) → ((o q : ℕ) → BindsBy t owns homes class o q l s → In o q) → made.BindsAt source homes many l s → BindsAt IsTold source l s
        by (piece.BindNow ∷ todo) f m = lent_bound (top (below s.run.operands)) (top s.run.operands) f
        by (piece.BindMadeNow c r ∷ todo) f m = λ x e. made_told source many r s m x e
        by l f m = tt

    -- what is read was told
    has_lent : (i : Journal) → ((o q : ℕ) → In o q → is_gone o i ≡ false → is_gone q i ≡ false) → (s : State) → StateTold IsTold s → HasLent i s
    has_lent i stays s h o c k d q is ref holds away on =
        let told = values_told IsTold o (find o s.env.hand) (found_told IsTold o s.env.hand h) (field_cell t c k) in
        let lent : IsTold o (field_cell t c k) (Object q) = subst (MayHold IsTold o (field_cell t c k)) holds told in
        ⊎_elim (λ f. stays o q (f away c k d is ref refl) on) (λ e. absurd (no_false (is_part homes o q) e away)) lent

-- what is bound on a ride and in a run is so
module _ (t : Table) (owns : Owns) (homes : ℕ → Value) (class : ℕ → Option ℕ) (In : ℕ → ℕ → Type 0) where
  abbrev Marks_in : State → Type 0
  Marks_in s = (o q : ℕ) → BindsTo t owns homes class o q s → In o q

  ride_marks : {source : Source} {s x : State} {e k : ℕ} {a : Asked} (d : Rides source s e x k a) → ((o q : ℕ) → RideBinds t owns homes class o q d → In o q) → RideMeets Marks_in source s e x k a d
  ride_marks slices f = tt
  ride_marks (goes_on {s} e r) f = ((λ o q b. f o q (inl b)), ride_marks r (λ o q b. f o q (inr b)))
  ride_marks (ticks {s} e r) f = ((λ o q b. f o q (inl b)), ride_marks r (λ o q b. f o q (inr b)))
  ride_marks (asks {s} e) f = λ o q b. f o q b

  run_marks : {source : Source} {input : List ℕ} {opts : Options} {j : Journal} {w : World} (r : Runs source input opts j w) → ((o q : ℕ) → RunBinds t owns homes class o q source input opts r → In o q) → RunMeets Marks_in source input opts j w r
  run_marks begun f = tt
  run_marks (more r on (gives q n s le)) f = (run_marks r (λ o q b. f o q (inl b)), tt)
  run_marks (more r on (no_room q n s le)) f = (run_marks r (λ o q b. f o q (inl b)), tt)
  run_marks (more r on (acts q n k s asked d)) f = (run_marks r (λ o q b. f o q (inl b)), ride_marks d.rides (λ o q b. f o q (inr b)))

module _ (p : Program) (homes : ℕ → Value) (class : ℕ → Option ℕ) (input : List ℕ) (opts : Options) where
  abbrev source : Source
  source = source_of p

  abbrev t : Table
  t = table_of p

  -- so far what goes was outlived
  abbrev pub WasOutlived : {j : Journal} {w : World} → Runs (source_of p) input opts j w → Type 0
  WasOutlived begun = Unit {0}
  WasOutlived (more r on (gives q n s le)) = WasOutlived r
  WasOutlived (more r on (no_room q n s le)) = WasOutlived r
  WasOutlived (more {j} {w} r on (acts q n k s asked d)) = WasOutlived r × IsOutlived p homes class input opts j w r q n k s asked d

  -- behind an act
  acted : (j : Journal) (w : World) (r : Runs source input opts j w) (v n k : ℕ) (s : State) (asked : Asked) (d : AsksIn source opts j w v n k s asked) → IsOutlived p homes class input opts j w r v n k s asked d → is_over (j ++ act opts source.sites input j v n k asked) ≡ false → (o q : ℕ) → RunBinds t (owns_of p) homes class o q source input opts r ⊎ RideBinds t (owns_of p) homes class o q d.rides → (is_gone o j ≡ false → is_gone q j ≡ false) → is_gone o (j ++ act opts source.sites input j v n k asked) ≡ false → is_gone q (j ++ act opts source.sites input j v n k asked) ≡ false
  acted j w r v n k s asked d x on o q b stays h = by (nat_eq o q) refl
    where
      before : is_gone o j ≡ false
      before = was_there o j (act opts source.sites input j v n k asked) h

      by : (e : Bool) → nat_eq o q ≡ e → is_gone q (j ++ act opts source.sites input j v n k asked) ≡ false
      by true e = subst (λ (u : ℕ). is_gone u (j ++ act opts source.sites input j v n k asked) ≡ false) (eqb-true o q e) h
      by false e =
          gone_stays source input opts j v n k asked on q (λ asks. no_false (nat_eq o q) (eq-eqb o q (x.last o q b asks before)) e) (stays before)

  outlived : {j : Journal} {w : World} (r : Runs source input opts j w) → WasOutlived r → is_over j ≡ false → (o q : ℕ) → RunBinds t (owns_of p) homes class o q source input opts r → is_gone o j ≡ false → is_gone q j ≡ false
  outlived begun x on o q b h = absurd b
  outlived (more {j} r f (gives v n s le)) x on o q b h =
      ⊎_elim (λ l. gone_still q j (dispatch v n) refl ∙ outlived r x f o q l (sym (gone_still o j (dispatch v n) refl) ∙ h)) (λ e. absurd e) b
  outlived (more {j} r f (no_room v n s le)) x on o q b h = absurd (no_false (is_over (j ++ lone_limit ∷ [])) (over_limit j 0 0) on)
  outlived (more {j} {w} r f (acts v n k s asked d)) x on o q b h =
      acted j w r v n k s asked d x.1 on o q b (λ g. ⊎_elim (λ l. outlived r x.0 f o q l g) (λ e. x.1.there o q e) b) h

  -- of what was bound in a run and on the way to what is asked next
  stays_now : (j : Journal) (w : World) (r : Runs source input opts j w) → WasOutlived r → is_over j ≡ false → (v n k : ℕ) (s : State) (asked : Asked) (d : AsksIn source opts j w v n k s asked) → IsOutlived p homes class input opts j w r v n k s asked d → (o q : ℕ) → RunBinds t (owns_of p) homes class o q source input opts r ⊎ RideBinds t (owns_of p) homes class o q d.rides → is_gone o j ≡ false → is_gone q j ≡ false
  stays_now j w r x on v n k s asked d y o q b h = ⊎_elim (λ l. outlived r x on o q l h) (λ e. y.there o q e) b

  -- in a run, by what a longer one tells
  module _ (many : ℕ) where
    abbrev Made : State → Type 0
    Made s = made.Binds source homes many s

    module _ (In : ℕ → ℕ → Type 0) where
      abbrev Marked : State → Type 0
      Marked s = Marks_in t (owns_of p) homes class In s

      abbrev Tells : State → Type 0
      Tells s = Binds (IsTold t (owns_of p) homes class In) source s

      ride_tells : {s x : State} {q k : ℕ} {a : Asked} (d : Rides source s q x k a) → RideMeets Marked source s q x k a d → RideMeets Made source s q x k a d → RideMeets Tells source s q x k a d
      ride_tells d f m = ride_zip Marked Made Tells (binds_told t (owns_of p) homes class In source many) d f m

      run_tells : {j : Journal} {w : World} (r : Runs source input opts j w) → RunMeets Marked source input opts j w r → RunMeets Made source input opts j w r → RunMeets Tells source input opts j w r
      run_tells begun f m = tt
      run_tells (more r on (gives q n s le)) f m = (run_tells r f.0 m.0, tt)
      run_tells (more r on (no_room q n s le)) f m = (run_tells r f.0 m.0, tt)
      run_tells (more r on (acts q n k s asked d)) f m = (run_tells r f.0 m.0, ride_tells d.rides f.1 m.1)

    pub ride_lent : {j : Journal} {w : World} (r : Runs source input opts j w) → WasOutlived r → is_over j ≡ false → RunMeets Made source input opts j w r → (q u k : ℕ) (s : State) (asked : Asked) (d : AsksIn source opts j w q u k s asked) → IsOutlived p homes class input opts j w r q u k s asked d → RideMeets Made source (answered source d.given (drawn j w u)) (left opts j u) s k asked d.rides → RideMeets (HasLent t (owns_of p) homes class j) source (answered source d.given (drawn j w u)) (left opts j u) s k asked d.rides
    ride_lent {j} {w} r x on m q u k s asked d y b =
        ride_turned (Tells In) (HasLent t (owns_of p) homes class j) source (answered source d.given (drawn j w u)) (λ v l g f. has_lent t (owns_of p) homes class In j (stays_now j w r x on q u k s asked d y) v (comes_told (IsTold t (owns_of p) homes class In) source input opts r (run_tells In r (run_marks t (owns_of p) homes class In r (λ o z e. inl e)) m) u v (record { given = d.given; processor = q; runs = d.runs; told = d.told; leads = l }) g)) rooms.stays tt d.rides (ride_tells In d.rides (ride_marks t (owns_of p) homes class In d.rides (λ o z e. inr e)) b)
      where
        In : ℕ → ℕ → Type 0
        In o z = RunBinds t (owns_of p) homes class o z source input opts r ⊎ RideBinds t (owns_of p) homes class o z d.rides

    pub run_lent : {j : Journal} {w : World} (r : Runs source input opts j w) → WasOutlived r → RunMeets Made source input opts j w r → RunMeetsAt (λ i s. HasLent t (owns_of p) homes class i s) source input opts j w r
    run_lent begun x m = tt
    run_lent (more r on (gives q n s le)) x m = (run_lent r x m.0, tt)
    run_lent (more r on (no_room q n s le)) x m = (run_lent r x m.0, tt)
    run_lent (more r on (acts q n k s asked d)) x m = (run_lent r x.0 m.0, ride_lent r x.0 on m.0 q n k s asked d x.1 m.1)

-- executions have the homes of what they read so
module _ (homes : ℕ → Value) (B : Exec → Value → Ty → Type 0) where
  abbrev pub HasRead : State → Type 0
  HasRead s = (n : Exec) (z : Value) → reads_by homes s.run.control s n z ≡ true → IsPlace z → (d : ℕ) → B n z (Cell (Obj d))

  pub ride_read : {source : Source} {s x : State} {e k : ℕ} {a : Asked} (r : Rides source s e x k a) → ((n : Exec) (z : Value) → reads_on_ride homes r n z ≡ true → IsPlace z → (d : ℕ) → B n z (Cell (Obj d))) → RideMeets HasRead source s e x k a r
  ride_read slices f = tt
  ride_read (goes_on {s} e r) f = (
    λ n z h. f n z (left_true (reads_by homes s.run.control s n z) (reads_on_ride homes r n z) h),
    ride_read r (λ n z h. f n z (right_true (reads_by homes s.run.control s n z) (reads_on_ride homes r n z) h)),
  )
  ride_read (ticks {s} e r) f = (
    λ n z h. f n z (left_true (reads_by homes s.run.control s n z) (reads_on_ride homes r n z) h),
    ride_read r (λ n z h. f n z (right_true (reads_by homes s.run.control s n z) (reads_on_ride homes r n z) h)),
  )
  ride_read (asks {s} e) f = λ n z h. f n z h

  pub run_read : (of_source : Source) (input : List ℕ) (opts : Options) {j : Journal} {w : World} (r : Runs of_source input opts j w) → ((n : Exec) (z : Value) → reads_in_run homes of_source input opts r n z ≡ true → IsPlace z → (d : ℕ) → B n z (Cell (Obj d))) → RunMeets HasRead of_source input opts j w r
  run_read of_source input opts begun f = tt
  run_read of_source input opts (more r on (gives q n s le)) f = (run_read of_source input opts r (λ n z h. f n z (left_true (reads_in_run homes of_source input opts r n z) false h)), tt)
  run_read of_source input opts (more r on (no_room q n s le)) f = (run_read of_source input opts r (λ n z h. f n z (left_true (reads_in_run homes of_source input opts r n z) false h)), tt)
  run_read of_source input opts (more r on (acts q n k s asked d)) f = (
    run_read of_source input opts r (λ n z h. f n z (left_true (reads_in_run homes of_source input opts r n z) (reads_on_ride homes d.rides n z) h)),
    ride_read d.rides (λ n z h. f n z (right_true (reads_in_run homes of_source input opts r n z) (reads_on_ride homes d.rides n z) h)),
  )

place_is : (v : Value) → is_placed v ≡ true → IsPlace v
place_is (Place o p) h = tt
place_is (Number z) h = absurd (cc)
place_is (Running x) h = absurd (cc)
place_is (Object o) h = absurd (cc)
place_is Nothing h = absurd (cc)

-- so of what a state reads next
pub read_told : (few : Few) (s : State) → HasRead few.home (Base few) s → (l : List Todo) → s.run.control ≡ l → (v : Value) → value_read l s ≡ v → (q : ℕ) → v ≡ Object q → is_anothers few.home s.env.exec v ≡ true → (c : ℕ) → Base few s.env.exec (few.home q) (Cell (Obj c))
read_told few s read l e v f q is h c =
    let value : value_read s.run.control s ≡ Object q = ap (λ x. value_read x s) e ∙ (f ∙ is) in
    let anothers : is_anothers few.home s.env.exec (Object q) ≡ true = subst (λ x. is_anothers few.home s.env.exec x ≡ true) is h in
    let place : IsPlace (few.home q) = place_is (few.home q) (left_is (is_placed (few.home q)) (not (is_own few.home s.env.exec q)) anothers) in
    let both : (is_anothers few.home s.env.exec (Object q) && is_home few.home (Object q) (few.home q)) ≡ true = both_true (is_anothers few.home s.env.exec (Object q)) (is_home few.home (Object q) (few.home q)) anothers (place_self (few.home q) place) in
    read s.env.exec (few.home q) (both_true (exec_eq s.env.exec s.env.exec) (is_anothers few.home s.env.exec (value_read s.run.control s) && is_home few.home (value_read s.run.control s) (few.home q)) (exec_self s.env.exec) (subst (λ x. (is_anothers few.home s.env.exec x && is_home few.home x (few.home q)) ≡ true) (sym value) both)) place c

-- classes are told once

other_class : (o n : ℕ) (u v : Option ℕ) → o < n → (if nat_eq o n then u else v) ≡ v
other_class o n u v l = by (nat_eq o n) refl
  where
    by : (b : Bool) → nat_eq o n ≡ b → (if b then u else v) ≡ v
    by true e = let q : o ≡ n = eqb-true o n e in let f : ⊥ = omega (arith, l, q) in absurd f
    by false e = refl

class_once : (t : Table) (of_source : Source) (input : List ℕ) (opts : Options) (j : Journal) (w : World) (a : List Entry) (x : World) (m : May of_source opts input j w a x) (classes : ℕ → Option ℕ) (o : ℕ) → o < object_count j → class_by t of_source opts input j w a x m classes o ≡ classes o
class_once t of_source input opts j w _ _ (gives p u s h) classes o l = refl
class_once t of_source input opts j w _ _ (no_room p u s h) classes o l = refl
class_once t of_source input opts j w _ _ (acts p u n s asked d) classes o l = by asked.request
  where
    by : (r : Request) → then_class t j r s classes o ≡ classes o
    by (ask.Make m) = other_class o (object_count j) (asked_class t s.run.control) (classes o) l
    by r = refl

-- what is left of each run tells what was outlived in one
module _ (p : Program) (input : List ℕ) (opts : Options) (left_for : (j : Journal) (w : World) (r : Runs (source_of p) input opts j w) → RunFits (source_of p) input opts j w r → is_over j ≡ false → (q t n : ℕ) (s : State) (asked : Asked) (d : AsksIn (source_of p) opts j w q t n s asked) → (homes : ℕ → Value) → AreTold (object_count j) (λ o. home_of (source_of p) input opts j w r o) homes → (class : ℕ → Option ℕ) → AreTold (object_count j) (λ o. class_of (table_of p) (source_of p) input opts j w r o) class → IsOutlived p homes class input opts j w r q t n s asked d) where
  pub was_outlived : {j : Journal} {w : World} (r : Runs (source_of p) input opts j w) → RunFits (source_of p) input opts j w r → (homes : ℕ → Value) → AreTold (object_count j) (λ o. home_of (source_of p) input opts j w r o) homes → (class : ℕ → Option ℕ) → AreTold (object_count j) (λ o. class_of (table_of p) (source_of p) input opts j w r o) class → WasOutlived p homes class input opts r
  was_outlived begun f homes placed class told = tt
  was_outlived (more {j} {w} {a} {w' = v} r on (gives q n s le)) f homes placed class told =
      was_outlived r f.0 homes (λ o l. let g = objects_grow j a in placed o (omega (arith, l, g))) class (λ o l. let g = objects_grow j a in told o (omega (arith, l, g)))
  was_outlived (more {j} {w} {a} {w' = v} r on (no_room q n s le)) f homes placed class told =
      was_outlived r f.0 homes (λ o l. let g = objects_grow j a in placed o (omega (arith, l, g))) class (λ o l. let g = objects_grow j a in told o (omega (arith, l, g)))
  was_outlived (more {j} {w} {a} {w' = v} r on (acts q n k s asked d)) f homes placed class told =
      let there : AreTold (object_count j) (λ o. home_of (source_of p) input opts j w r o) homes = λ o l. let g = objects_grow j a in placed o (omega (arith, l, g)) ∙ law_once (source_of p) input opts j w a v (acts q n k s asked d) (λ i. home_of (source_of p) input opts j w r i) o l in
      let before : AreTold (object_count j) (λ o. class_of (table_of p) (source_of p) input opts j w r o) class = λ o l. let g = objects_grow j a in told o (omega (arith, l, g)) ∙ class_once (table_of p) (source_of p) input opts j w a v (acts q n k s asked d) (λ i. class_of (table_of p) (source_of p) input opts j w r i) o l in
      (was_outlived r f.0 homes there class before, left_for j w r f.0 on q n k s asked d homes there class before)

-- so it is known where it is read

of_class : (x : Option ℕ) (c : ℕ) → is_class x c ≡ true → x ≡ Some c
of_class None c h = absurd (cc)
of_class (Some d) c h = ap Some (eqb-true d c h)

cell_same : (a b : Ty) → Cell a ≡ Cell b → a ≡ b
cell_same a b e = cc

class_same : (c d : ℕ) → Some c ≡ Some d → c ≡ d
class_same c d e = cc

module _ (t : Table) (owns : Owns) (few : Few) (class : ℕ → Option ℕ) (i : Journal) (wholes : (c o : ℕ) → is_gone o i ≡ false → few.numbers (Raw c) o ≡ true → few.numbers (Obj c) o ≡ true) (others_had : HasOthers few) (gs : List Sig) (g : Sig) (sc : List Name) (s : State) (this : KnownThis t few s.env.exec (AtHand t few s.env.exec (others gs) s.callers) g g.this s.run.this) (has : HasLent t owns few.home class i s) (read : HasRead few.home (Base few) s) where
  abbrev Known_here : Ty → Value → Type 0
  Known_here a v = Known t few s.env.exec (Here t few gs s) a v

  abbrev Passes : ℕ → ℕ → Bool
  Passes = was_made t owns few class gs g sc s

  abbrev Told_of : Value → Type 0
  Told_of v = HasItsHome t few others_had gs g s this v

  -- what is bound so
  record IsBoundSo (o : ℕ) (a : Ty) (v : Value) : Type 0 where
    class_to : ℕ
    number : ℕ
    type : a ≡ Cell (Obj class_to)
    mutex : t.mutex class_to ≡ true
    value : v ≡ Object number
    made : few.numbers (Raw class_to) number ≡ true
    away : is_part few.home o number ≡ false

  bound_value : (o d : ℕ) → t.mutex d ≡ true → (v : Value) → is_lent_value t owns few.home Passes class s d o v ≡ true → IsBoundSo o (Cell (Obj d)) v
  bound_value o d m (Object q) h = record {
    class_to = d;
    number = q;
    type = refl;
    mutex = m;
    value = refl;
    made = left_is (Passes d q) (not (is_part few.home o q)) h;
    away = not_true (is_part few.home o q) (right_is (Passes d q) (not (is_part few.home o q)) h);
  }
  bound_value o d m (Number z) h = absurd (cc)
  bound_value o d m (Place u p) h = absurd (cc)
  bound_value o d m (Running x) h = absurd (cc)
  bound_value o d m Nothing h = absurd (cc)

  bound_so : (o : ℕ) (a : Ty) (v : Value) → is_lent_at t owns few.home Passes class s o a v ≡ true → IsBoundSo o a v
  bound_so o (Cell (Obj d)) v h =
      bound_value o d (left_is (t.mutex d) (is_lent_value t owns few.home Passes class s d o v) h) v (right_is (t.mutex d) (is_lent_value t owns few.home Passes class s d o v) h)
  bound_so o Num v h = absurd (cc)
  bound_so o (Cell Num) v h = absurd (cc)
  bound_so o (Cell (Cell a)) v h = absurd (cc)
  bound_so o (Cell (Raw c)) v h = absurd (cc)
  bound_so o (Cell (Row n a)) v h = absurd (cc)
  bound_so o (Cell Clu) v h = absurd (cc)
  bound_so o (Cell Pro) v h = absurd (cc)
  bound_so o (Obj c) v h = absurd (cc)
  bound_so o (Raw c) v h = absurd (cc)
  bound_so o (Row n a) v h = absurd (cc)
  bound_so o Clu v h = absurd (cc)
  bound_so o Pro v h = absurd (cc)

  lent_by : (x : Option ℕ) (v : Value) (f : ℕ) (a : Ty) → s.run.this ≡ v → ((c : ℕ) → x ≡ Some c → Cell a ≡ t.fields c f) → ((o : ℕ) → v ≡ Object o → is_gone o i ≡ false) → reads_lent t owns few.home Passes class s x f v ≡ true → (c : ℕ) → x ≡ Some c → Told_of (loaded (further (FieldAt (t.shape c) f) v) s.env) → LiesLeft t few gs g s a (loaded (further (FieldAt (t.shape c) f) v) s.env) → Known_here a (loaded (further (FieldAt (t.shape c) f) v) s.env)
  lent_by (Some c) (Object o) f a at_hand typed on h z is told l =
      let at : z ≡ c = class_same z c (sym is) in
      subst (λ (y : ℕ). Known_here a (loaded (further (FieldAt (t.shape y) f) (Object o)) s.env)) (sym at) (known (loaded (further (FieldAt (t.shape c) f) (Object o)) s.env) refl (subst (λ (y : ℕ). Told_of (loaded (further (FieldAt (t.shape y) f) (Object o)) s.env)) at told) (subst (λ (y : ℕ). LiesLeft t few gs g s a (loaded (further (FieldAt (t.shape y) f) (Object o)) s.env)) at l))
    where
      known : (v : Value) → loaded (further (FieldAt (t.shape c) f) (Object o)) s.env ≡ v → Told_of v → LiesLeft t few gs g s a v → Known_here a v
      known v e told l =
          let first : Bool = is_class (class o) c && not (owns c f) in
          let second : Bool = is_lent_at t owns few.home Passes class s o (t.fields c f) (loaded (further (FieldAt (t.shape c) f) (Object o)) s.env) in
          let here = left_is first second h in
          let b = bound_so o (t.fields c f) v (subst (λ (y : Value). is_lent_at t owns few.home Passes class s o (t.fields c f) y ≡ true) e (right_is first second h)) in
          let told_class : class o ≡ Some c = of_class (class o) c (left_is (is_class (class o) c) (not (owns c f)) here) in
          let ref : IsReferenceTo t owns c f b.class_to = (not_true (owns c f) (right_is (is_class (class o) c) (not (owns c f)) here), b.type, b.mutex) in
          let stays = has o c f b.class_to b.number told_class ref (e ∙ b.value) b.away (on o refl) in
          let same : a ≡ Obj b.class_to = cell_same a (Obj b.class_to) (typed c refl ∙ b.type) in
          let lies : LiesLeft t few gs g s (Obj b.class_to) (Object b.number) = subst (λ (y : Value). LiesLeft t few gs g s (Obj b.class_to) y) b.value (subst (λ (y : Ty). LiesLeft t few gs g s y v) same l) in
          let is_so = subst (λ x. IsObjectBy t x b.class_to (Object b.number)) (sym b.mutex) tt in
          let object = lying_known t few others_had gs g s this (Obj b.class_to) (Object b.number) tt (is_so, wholes b.class_to b.number stays b.made) (subst Told_of b.value told) lies in
          subst (λ (y : Ty). Known_here y v) (sym same) (subst (Known_here (Obj b.class_to)) (sym b.value) object)
  lent_by (Some c) (Number z) f a q typed on h e is told l = absurd (cc)
  lent_by (Some c) (Place u p) f a q typed on h e is told l = absurd (cc)
  lent_by (Some c) (Running x) f a q typed on h e is told l = absurd (cc)
  lent_by (Some c) Nothing f a q typed on h e is told l = absurd (cc)
  lent_by None v f a q typed on h e is told l = absurd (cc)

  -- what is read so is known, if the object at hand is not gone
  pub lent_read : ((o : ℕ) → s.run.this ≡ Object o → is_gone o i ≡ false) → (k : Shape) (f : ℕ) (a : Ty) (todo : List Todo) → s.run.control ≡ piece.Eval (OfObject (GetOwn k f)) ∷ todo → Yields t g sc (OfObject (GetOwn k f)) a → reads_lent t owns few.home Passes class s g.this f s.run.this ≡ true → LiesLeft t few gs g s a (loaded (further (FieldAt k f) s.run.this) s.env) → Known_here a (loaded (further (FieldAt k f) s.run.this) s.env)
  lent_read on k f a todo next y h l =
      subst (λ (z : Shape). Known_here a (loaded (further (FieldAt z f) s.run.this) s.env)) (sym y.2) (lent_by g.this s.run.this f a refl (λ c e. subst (λ z. Cell a ≡ t.fields z f) (class_same y.0 c (sym y.1 ∙ e)) y.3) on h y.0 y.1 (subst (λ (z : Shape). Told_of (loaded (further (FieldAt z f) s.run.this) s.env)) y.2 (read_told few s read (piece.Eval (OfObject (GetOwn k f)) ∷ todo) next (loaded (further (FieldAt k f) s.run.this) s.env) refl)) (subst (λ (z : Shape). LiesLeft t few gs g s a (loaded (further (FieldAt z f) s.run.this) s.env)) y.2 l))
