-- An activation that does more than to come to its end is of an object that has not gone: what is called is known, or lets go of its object; and what is still
-- to be let go of is held.
use Rattle.std.proofs.Common.{◌≡◌, ℕ, suc, ◌<◌, ◌≤◌, ◌+◌, ◌⊎◌, inl, inr, Bool, true, false, not, List, [], ◌∷◌, length, drop, Option, Some, None, refl, sym, ap, ◌∙◌, subst, arith, ⊎_elim}
use Rattle.std.specs.Prelude.{slice_get, nat_eq, if◌then◌else◌}
use Rattle.std.proofs.lemmas.Bool.{eqb-true, cases_lt}
use Rattle.uc_tree.specs.Programs.{Program}
use Rattle.uc_tree.specs.Source as src
use Rattle.uc_tree.specs.Source.{CleanUp, Handlers, Routine, Source, Stmt, Stmts}
use Rattle.uc_machine.specs.declared.exec.Exec.{Exec}
use Rattle.uc_machine.specs.Switches.{new_exec}
use Rattle.uc_machine.specs.Raising.{Found, event_in, seek}
use Rattle.uc_machine.specs.Pieces as piece
use Rattle.uc_machine.specs.Pieces.{Value, Number, Place, Running, Object, Nothing, Todo, Active, State, top, below, object_in}
use Rattle.uc_machine.specs.Quiet.{home_at, routine_todo}
use Rattle.uc_resolve.specs.Resolve.{source_of}
use Rattle.uc_rules.specs.Breaks.{breaks_of}
use Rattle.uc_typing.specs.Typing.{Ty, Cell, Obj, Raw, Table, object_ty}
use Rattle.uc_typing.specs.Pieces.{Ok, onto}
use Rattle.uc_typing.specs.States.{IsObject, Sound}
use Rattle.uc_typing.proofs.Frames.{drop_onto}
use Rattle.uc_sound.specs.SoundFormed.{IsFormed}
use Rattle.uc_sound.specs.Tables.{table_of}
use Rattle.uc_sound.proofs.SoundLemmas.{law_sound}
use Rattle.uc_life_laws.specs.Things.{Few, Base, Things, itself, Stands, lies, inside, Known}
use Rattle.uc_life_laws.specs.Silent.{AllSilent}
use Rattle.uc_life_laws.specs.Knowing.{AtHand, KnownAll, KnowsState, main_of}
use Rattle.uc_life_laws.specs.Rooted.{IsBase}
use Rattle.uc_life_laws.proofs.Knowns.{values_drop, newest}
use Rattle.uc_life_laws.proofs.Rooted.{within_object, things_object}
use Rattle.uc_depth_laws.specs.Entering as entering
use Rattle.uc_depth_laws.specs.Entering.{Aspect, EnteredStmt, EnteredStmts, EnteredHandlers, EnteredBody}
use Rattle.uc_depth_laws.specs.Owing.{First, Any, Done, Skipped, CallOf, Bound, Tests, marks, owed_waiting, is_told, Allowed, Entered, Deep, IsInside}
use Rattle.uc_depth_laws.proofs.Standing.{law_inside}
use Rattle.uc_depth_laws.proofs.TodoLists as depths
use Rattle.uc_apart_laws.specs.Clear.{HomeAt}
use Rattle.uc_making_laws.specs.LettingGo.{of_object, is_letting, IsClosed, AllClosed, FoundClosed, OpensStmt, OpensStmts, LeavesAt, IsTold, Told, LetsState, LettingAt}
use Rattle.uc_making_laws.proofs.LettingLists.{letting_marks}
use Rattle.uc_lasting_programs.proofs.LettingStates.{is_mutex, opens, letting}
use Rattle.uc_lasting_programs.proofs.Wholes.{whole_inside}

-- what has not gone tells of itself

module _ (gone : ℕ → Bool) where
  abbrev pub is_there : Value → Bool
  is_there (Number z) = false
  is_there (Place o p) = false
  is_there (Running x) = false
  is_there (Object o) = not (gone o)
  is_there Nothing = false

  abbrev pub there : Few
  there = record { numbers = λ a o. true; home = λ o. Object o; base = λ n w a. is_there w }

  not_gone : (w : Value) (o : ℕ) → is_there w ≡ true → w ≡ Object o → gone o ≡ false
  not_gone (Number z) o h e = absurd (cc)
  not_gone (Place q p) o h e = absurd (cc)
  not_gone (Running x) o h e = absurd (cc)
  not_gone (Object q) o h e = by (gone o) (subst (λ w. is_there w ≡ true) e h)
    where
      by : (b : Bool) → not b ≡ true → b ≡ false
      by true g = absurd (cc)
      by false g = refl
  not_gone Nothing o h e = absurd (cc)

-- nothing is told of others
abbrev pub alone : Few
alone = record { numbers = λ a o. true; home = λ o. Object o; base = λ n w a. false }

module _ (t : Table) (gone : ℕ → Bool) where
  base_hand : (n : Exec) (cs : List Active) (o : ℕ) (a : Ty) → gone o ≡ false → Things t (there gone) n cs (Object o) a
  base_hand n [] o a h = ap not h
  base_hand n (c ∷ cs) o a h = inr (base_hand n cs o a h)

  pub told_there : (n : Exec) (cs : List Active) (o : ℕ) → gone o ≡ false → IsTold t (there gone) n cs o
  told_there n cs o h = inr (inl (0, inl (lies (base_hand n cs o (Cell (Obj 0)) h) itself)))

  pub no_place : (n : Exec) (w : Value) (b : Ty) → Base alone n w b → IsBase w b
  no_place n w b h = let e : false ≡ true = h in absurd (cc)

  -- that alone has an object at hand
  things_there : (n : Exec) (cs : List Active) (w : Value) (a : Ty) → Things t (there gone) n cs w a → (o : ℕ) → w ≡ Object o → gone o ≡ false
  things_there n [] w a h o e = not_gone gone w o h e
  things_there n (c ∷ cs) w a (inl m) o e = let z : false ≡ true = things_object t alone n (c ∷ []) w a (inl m) o e in absurd (cc)
  things_there n (c ∷ cs) w a (inr m) o e = things_there n cs w a m o e

  pub stands_there : (n : Exec) (cs : List Active) (b : Ty) (v : Value) → Stands t (there gone) (Things t (there gone) n cs) b v → (o : ℕ) → v ≡ Object o → gone o ≡ false
  stands_there n cs b v (lies {w = w} {a = a} k i) o e = things_there n cs w a k o (within_object t w a v b o i e)
  stands_there n cs b v (inside {o = u} {c = c} m k i) o e =
      stands_there n cs (Cell (Obj c)) (Object u) k o (within_object t (Object u) (Obj c) v b o i e)

  pub home_there : (n : Exec) (cs : List Active) (o c : ℕ) → HomeAt t (there gone) o (Things t (there gone) n cs) c → gone o ≡ false
  home_there n cs o c (inl k) = stands_there n cs (Cell (Obj c)) (Object o) k o refl
  home_there n cs o c (inr m) = things_there n cs (Object o) (Raw c) m o refl

  -- what activations are to let go of has not gone, where that is so of each
  owed_there : (cs : List Active) → ((n : ℕ) (a : Active) → slice_get cs n ≡ Some a → 0 < marks a.control → gone (object_in a.this) ≡ false) → (o : ℕ) → 0 < owed_waiting o cs → gone o ≡ false
  owed_there [] f o l = absurd (omega (arith, l))
  owed_there (a ∷ cs) f o l = by (nat_eq (object_in a.this) o) refl (λ k. owed_there cs (λ n c g. f (suc n) c g) o k) l
    where
      by : (b : Bool) → nat_eq (object_in a.this) o ≡ b → (0 < owed_waiting o cs → gone o ≡ false) → 0 < (if b then marks a.control else 0) + owed_waiting o cs → gone o ≡ false
      by true e older k =
          ⊎_elim (λ lt. ap gone (sym (eqb-true (object_in a.this) o e)) ∙ f 0 a refl lt) (λ le. older (omega (arith, k, le))) (cases_lt 0 (marks a.control))
      by false e older k = older (omega (arith, k))

  -- the object of the activation that runs
  module _ (s : State) (lets : LetsState t (there gone) s) (first : gone 0 ≡ false) (marked : (n : ℕ) (a : Active) → slice_get (s.run ∷ s.callers) n ≡ Some a → 0 < marks a.control → gone (object_in a.this) ≡ false) where
    told_present : (o : ℕ) → IsTold t (there gone) s.env.exec s.callers o → gone o ≡ false
    told_present o (inl e) = ap gone e.0 ∙ first
    told_present o (inr (inl k)) = home_there s.env.exec s.callers o k.0 k.1
    told_present o (inr (inr l)) = owed_there s.callers (λ n a e. marked (suc n) a e) o l

    pub this_present : (o : ℕ) → s.run.this ≡ Object o → (AllSilent s.run.control → ⊥) → gone o ≡ false
    this_present o e busy = by lets.stack.0.1
      where
        by : Told t (there gone) s.env.exec s.callers s.run.this ⊎ ((is_letting s.run.control ≡ true) ⊎ AllSilent s.run.control) → gone o ≡ false
        by (inl c) = told_present o (subst (Told t (there gone) s.env.exec s.callers) e c)
        by (inr (inl m)) =
            ap (λ (v : Value). gone (object_in v)) (sym e) ∙ marked 0 s.run refl (letting_marks s.run.control m)
        by (inr (inr h)) = absurd (busy h)

    this_told : (n : Exec) (v : Value) → s.run.this ≡ v → (AllSilent s.run.control → ⊥) → Told t (there gone) n [] v
    this_told n (Number z) e busy = tt
    this_told n (Place o p) e busy = tt
    this_told n (Running x) e busy = tt
    this_told n (Object o) e busy = told_there n [] o (this_present o e busy)
    this_told n Nothing e busy = tt

    spawned_told : (v : Value) → s.run.this ≡ v → (AllSilent s.run.control → ⊥) → IsTold t (there gone) (main_of (object_in v)) [] (object_in v)
    spawned_told (Number z) e busy = inl (refl, refl)
    spawned_told (Place o p) e busy = inl (refl, refl)
    spawned_told (Running x) e busy = inl (refl, refl)
    spawned_told (Object o) e busy = told_there (main_of o) [] o (this_present o e busy)
    spawned_told Nothing e busy = inl (refl, refl)

-- code in which what lets go of an object stands in routines alone, as a whole

module _ (source : Source) where
  no_object : (c : CleanUp) → entering.lets_go c ≡ false → of_object c ≡ false
  no_object src.Ends h = let e : true ≡ false = h in absurd (cc)
  no_object (src.Frees r) h = let e : true ≡ false = h in absurd (cc)
  no_object c h = refl

  pub closed : (ss : Stmts) → EnteredStmts source ss → IsClosed ss
  closed (src.Scoped c rest) h = no_object c h.0
  closed ss h = refl

  all_closed : (hs : Handlers) → EnteredHandlers source hs → AllClosed hs
  all_closed src.NoHandlers h = tt
  all_closed (src.MoreHandlers resumes event cell line body rest) h = (closed body h.0, all_closed rest h.1)

  rest_opens : (ss : Stmts) → EnteredStmts source ss → OpensStmts ss
  rest_opens src.Nil h = tt
  rest_opens (src.Then a rest) h = closed rest h.1
  rest_opens (src.Scoped c rest) h = closed rest h.2
  rest_opens (src.Built c rest) h = closed rest h.2

  body_opens : (ss : Stmts) → EnteredBody source ss → OpensStmts ss
  body_opens src.Nil h = tt
  body_opens (src.Then a rest) h = closed rest h.1
  body_opens (src.Scoped c rest) h = closed rest h.1
  body_opens (src.Built c rest) h = closed rest h.2

  stmt_opens : (a : Stmt) → EnteredStmt source a → OpensStmt a
  stmt_opens (src.Block line body) h = closed body h
  stmt_opens (src.Whole line body) h = closed body h
  stmt_opens (src.OfEvents (src.Try line body hs)) h = closed body h.0
  stmt_opens a h = tt

  found_closed : (y : Option Found) → depths.FoundEntered source y → FoundClosed y
  found_closed None h = tt
  found_closed (Some y) h = closed y.handler.body h

  module _ (told : Aspect → Bool) where
    stmt_allowed : (f : First) (a : Stmt) → Allowed source told f (piece.Do a) → OpensStmt a
    stmt_allowed Any a h = stmt_opens a h
    stmt_allowed Done a h = stmt_opens a h
    stmt_allowed Skipped a h = stmt_opens a h
    stmt_allowed (CallOf r) a h = absurd h
    stmt_allowed Bound a h = absurd h

    rest_allowed : (f : First) (ss : Stmts) → Allowed source told f (piece.Rest ss) → OpensStmts ss
    rest_allowed Any ss h = rest_opens ss h
    rest_allowed Done ss h = body_opens ss h.0
    rest_allowed Skipped ss h = rest_opens ss h
    rest_allowed (CallOf r) ss h = absurd h
    rest_allowed Bound ss h = absurd h

    left_allowed : (todo : List Todo) → Entered source told Skipped todo → LeavesAt todo
    left_allowed [] h = tt
    left_allowed (piece.Part c ∷ todo) h = no_object c h.0.0
    left_allowed (piece.Guard hs ∷ todo) h = all_closed hs h.0
    left_allowed (p ∷ todo) h = tt

-- each step finds what it is to find

module _ (p : Program) (formed : IsFormed p) (accepted : breaks_of p ≡ []) (few : Few) (gone : ℕ → Bool) (passes : (c o : ℕ) → few.numbers (Obj c) o ≡ true → gone o ≡ false) where
  abbrev t : Table
  t = table_of p

  abbrev source : Source
  source = source_of p

  sound : Sound (table_of p) (source_of p)
  sound = law_sound p formed accepted

  module _ (s : State) (k : KnowsState (table_of p) few [] s) (news : Tests) (deep : Deep (source_of p) news s) (lets : LetsState (table_of p) (there gone) s) (first : gone 0 ≡ false) (held : (o : ℕ) → IsInside o s.env → gone o ≡ false) where
    marked : (n : ℕ) (a : Active) → slice_get (s.run ∷ s.callers) n ≡ Some a → 0 < marks a.control → gone (object_in a.this) ≡ false
    marked n a e l = held (object_in a.this) (law_inside.marked (source_of p) news s deep n a e l)

    -- the object of the activation that runs
    pub present : (o : ℕ) → s.run.this ≡ Object o → (AllSilent s.run.control → ⊥) → gone o ≡ false
    present o e busy = this_present (table_of p) gone s lets first marked o e busy

    abbrev Hand : Value → Ty → Type 0
    Hand w a = AtHand (table_of p) few s.env.exec k.sigs (s.run ∷ s.callers) w a

    -- the operand below the arguments is known
    operand : (r : ℕ) (x : Routine) (c : ℕ) (rest : List Ty) → slice_get (source_of p).routines r ≡ Some x → k.run.own ≡ onto ((table_of p).routine r).params (object_ty ((table_of p).routine r).whole c ∷ rest) → Known (table_of p) few s.env.exec Hand (object_ty ((table_of p).routine r).whole c) (top (drop x.params s.run.operands))
    operand r x c rest q e =
        let all : KnownAll (table_of p) few s.env.exec Hand (onto ((table_of p).routine r).params (object_ty ((table_of p).routine r).whole c ∷ rest)) s.run.operands = subst (λ l. KnownAll (table_of p) few s.env.exec Hand l s.run.operands) e k.run.values in
        let dropped : KnownAll (table_of p) few s.env.exec Hand (object_ty ((table_of p).routine r).whole c ∷ rest) (drop (length ((table_of p).routine r).params) s.run.operands) = subst (λ l. KnownAll (table_of p) few s.env.exec Hand l (drop (length ((table_of p).routine r).params) s.run.operands)) (drop_onto ((table_of p).routine r).params (object_ty ((table_of p).routine r).whole c ∷ rest)) (values_drop (table_of p) few s.env.exec Hand (length ((table_of p).routine r).params) (onto ((table_of p).routine r).params (object_ty ((table_of p).routine r).whole c ∷ rest)) s.run.operands all) in
        subst (λ m. Known (table_of p) few s.env.exec Hand (object_ty ((table_of p).routine r).whole c) (top (drop m s.run.operands))) (sym (sound.routines r x q).params) (newest (table_of p) few s.env.exec Hand (object_ty ((table_of p).routine r).whole c) rest (drop (length ((table_of p).routine r).params) s.run.operands) dropped)

    abbrev Begins : List Todo → Routine → Value → Type 0
    Begins todo x v = Told (table_of p) (there gone) s.env.exec (record s.run { control = todo; operands = below (drop x.params s.run.operands) } ∷ s.callers) v ⊎ (is_letting (routine_todo x) ≡ true)

    called : (r : ℕ) (todo : List Todo) (x : Routine) → slice_get (source_of p).routines r ≡ Some x → (c : ℕ) (rest : List Ty) → k.run.own ≡ onto ((table_of p).routine r).params (object_ty ((table_of p).routine r).whole c ∷ rest) → ((table_of p).routine r).this ≡ Some c → Begins todo x (top (drop x.params s.run.operands))
    called r todo x q c rest own this = by ((table_of p).routine r).whole refl (operand r x c rest q own)
      where
        letting_object : ((table_of p).routine r).whole ≡ true → (o : ℕ) → IsObject (table_of p) c (Object o) → is_letting (routine_todo x) ≡ true
        letting_object w o i =
            letting (table_of p) alone (no_place (table_of p) gone) x (opens (table_of p) alone (no_place (table_of p) gone) ((table_of p).routine r) x.body (sound.routines r x q).body ((sound.routines r x q).enters (whole_inside p c (is_mutex (table_of p) alone (no_place (table_of p) gone) c o i) r w this)) w)

        raw : ((table_of p).routine r).whole ≡ true → (v : Value) → Known (table_of p) few s.env.exec Hand (Raw c) v → Begins todo x v
        raw w (Number z) h = inl tt
        raw w (Place o l) h = inl tt
        raw w (Running n) h = inl tt
        raw w (Object o) h = inr (letting_object w o h.is)
        raw w Nothing h = inl tt

        whole : (v : Value) → Known (table_of p) few s.env.exec Hand (Obj c) v → Begins todo x v
        whole (Number z) h = inl tt
        whole (Place o l) h = inl tt
        whole (Running n) h = inl tt
        whole (Object o) h =
            inl (told_there (table_of p) gone s.env.exec (record s.run { control = todo; operands = below (drop x.params s.run.operands) } ∷ s.callers) o (passes c o h.passes))
        whole Nothing h = inl tt

        by : (b : Bool) → ((table_of p).routine r).whole ≡ b → Known (table_of p) few s.env.exec Hand (object_ty b c) (top (drop x.params s.run.operands)) → Begins todo x (top (drop x.params s.run.operands))
        by false w h = whole (top (drop x.params s.run.operands)) h
        by true w h = raw w (top (drop x.params s.run.operands)) h

    on : (l : List Todo) → s.run.control ≡ l → (f : First) → Entered (source_of p) (is_told (news s.env.exec.home) s.run.this s.callers) f l → marks l ≤ 1 → Ok (table_of p) k.run.sig k.run.base k.run.scope l k.run.own → LettingAt (table_of p) (there gone) (source_of p) l s
    on (piece.CallOnNow r ∷ todo) e f d m h = λ x q. called r todo x q h.1 h.0 h.2.0 h.2.1
    on (piece.CallUnwrittenNow r ∷ todo) e f d m h = λ x q. called r todo x q h.1 h.0 h.2.0 h.2.1
    on (piece.SetUpNow r ∷ todo) e f d m h = λ n i.
        this_told (table_of p) gone s lets first marked (new_exec (home_at s.run.this s.env) s.env) s.run.this refl (λ z. subst AllSilent e z)
    on (piece.SpawnNow r ∷ todo) e f d m h = spawned_told (table_of p) gone s lets first marked s.run.this refl (λ z. subst AllSilent e z)
    on (piece.Do a ∷ todo) e f d m h = stmt_allowed (source_of p) (is_told (news s.env.exec.home) s.run.this s.callers) f a d.0
    on (piece.Rest ss ∷ todo) e f d m h = rest_allowed (source_of p) (is_told (news s.env.exec.home) s.run.this s.callers) f ss d.0
    on (piece.Unwind ∷ todo) e f d m h = left_allowed (source_of p) (is_told (news s.env.exec.home) s.run.this s.callers) todo d.1
    on (piece.RaiseNow ∷ todo) e f d m h =
        found_closed (source_of p) (seek None (event_in s.run.operands) (record s.run { control = todo } ∷ s.callers)) (depths.seek (source_of p) (news s.env.exec.home) None (event_in s.run.operands) (record s.run { control = todo } ∷ s.callers) (d.1, m, deep.callers))
    on l e f d m h = tt

    pub tells : LettingAt (table_of p) (there gone) (source_of p) s.run.control s
    tells = on s.run.control refl deep.first deep.run deep.one k.run.ok
