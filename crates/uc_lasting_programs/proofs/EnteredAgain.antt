-- What is entered again to be destroyed no activation of who enters it is of: each would be told of it by older ones, or build or destroy it.
use Rattle.std.proofs.Common.{◌≡◌, ℕ, ◌⊎◌, inl, inr, Bool, true, false, List, [], ◌∷◌, refl, sym, ap, subst, arith, ⊎_elim}
use Rattle.std.specs.Prelude.{nat_eq, if◌then◌else◌}
use Rattle.std.proofs.lemmas.Bool.{eqb-true}
use Rattle.uc_tree.specs.Source as src
use Rattle.uc_tree.specs.Source.{Source}
use Rattle.uc_machine.specs.declared.exec.Exec.{Exec}
use Rattle.uc_machine.specs.Pieces as piece
use Rattle.uc_machine.specs.Pieces.{Value, Number, Place, Running, Object, Nothing, Todo, Active, State, object_in}
use Rattle.uc_typing.specs.Typing.{Table}
use Rattle.uc_depth_laws.specs.Entering.{Aspect}
use Rattle.uc_depth_laws.specs.Owing.{First, Any, Done, Skipped, CallOf, Bound, Tests, next, counted, owed_by, owed_waiting, marks, is_told, Allowed, Entered, AllEntered, Deep, entering}
use Rattle.uc_life_laws.specs.Things.{Few, Things}
use Rattle.uc_life_laws.specs.Knowing.{KnowsState}
use Rattle.uc_life_laws.specs.Belonging.{Belongs}
use Rattle.uc_life_laws.specs.Marks.{Marked, Free, Outward}
use Rattle.uc_apart_laws.proofs.Clear.{home_more, home_split}
use Rattle.uc_apart_laws.specs.Clear.{IsNoHome, IsClearAt}
use Rattle.uc_putting_laws.specs.LoneObjects.{LoneObjectAt, LoneObject}
use Rattle.uc_putting_laws.specs.ObjectsAtHand as held
use Rattle.uc_putting_laws.specs.ObjectsAtHand.{IsBuilt}
use Rattle.uc_making_laws.specs.LettingGo.{opens_object, is_letting, IsTold, Told, WaitsBy, RunsBy, LetsStack, LetsState}
use Rattle.uc_making_laws.specs.NoOthers.{NoThis}
use Rattle.uc_making_laws.proofs.LettingLists as lists
use Rattle.uc_making_laws.proofs.NoOthers.{law_no_others}
use Rattle.uc_lasting_programs.proofs.Bases.{SeatsAlone, BareOnWayBy}
use Rattle.uc_lasting_programs.proofs.Presence.{closed}
use Rattle.uc_lasting_programs.proofs.SeatHomes.{IsForeign}

-- what is still to let go of the object in a list that waits is a scope in which that is built or destroyed

-- a piece that may stand in such a list
abbrev Stays : Todo → Type 0
Stays (piece.Rest ss) = opens_object ss ≡ false
Stays piece.MadeNow = ⊥
Stays (piece.SpawnNow r) = ⊥
Stays piece.GoneNow = ⊥
Stays piece.GiveUpNow = ⊥
Stays p = Unit {0}

-- behind a piece nothing is done next
next_behind : (p : Todo) → next p ≡ Done → ⊥
next_behind (piece.EnterNow m r) e = cc
next_behind (piece.MakeNow c r) e = cc
next_behind (piece.BindMadeNow c r) e = cc
next_behind piece.Unwind e = cc
next_behind (piece.Exit w) e = cc
next_behind p e = cc

module _ (source : Source) (told : Aspect → Bool) where
  allowed : (f : First) → (f ≡ Done → ⊥) → (p : Todo) → Allowed source told f p → Stays p
  allowed Any d (piece.Rest ss) h = closed source ss h
  allowed Any d piece.MadeNow h = h
  allowed Any d (piece.SpawnNow r) h = h
  allowed Any d piece.GoneNow h = h
  allowed Any d piece.GiveUpNow h = h
  allowed Any d p h = tt
  allowed Skipped d (piece.Rest ss) h = closed source ss h
  allowed Skipped d piece.MadeNow h = h
  allowed Skipped d (piece.SpawnNow r) h = h
  allowed Skipped d piece.GoneNow h = h
  allowed Skipped d piece.GiveUpNow h = h
  allowed Skipped d p h = tt
  allowed (CallOf r) d (piece.CallOnNow k) h = tt
  allowed (CallOf r) d (piece.CallUnwrittenNow k) h = tt
  allowed (CallOf r) d p h = absurd h
  allowed Bound d (piece.BindMadeNow c r) h = tt
  allowed Bound d p h = absurd h
  allowed Done d p h = absurd (d refl)

  builds : (f : First) → (f ≡ Done → ⊥) → (todo : List Todo) → Entered source told f todo → is_letting todo ≡ true → held.lets_go todo ≡ true
  builds f d [] h l = l
  builds f d (piece.Rest ss ∷ todo) h l =
      builds Any (next_behind (piece.Rest ss)) todo h.1 (subst (λ b. (if b then true else is_letting todo) ≡ true) (allowed f d (piece.Rest ss) h.0) l)
  builds f d (piece.Clean src.Ends ∷ todo) h l = refl
  builds f d (piece.Clean (src.Frees r) ∷ todo) h l = refl
  builds f d (piece.MadeNow ∷ todo) h l = absurd (allowed f d piece.MadeNow h.0)
  builds f d (piece.SpawnNow r ∷ todo) h l = absurd (allowed f d (piece.SpawnNow r) h.0)
  builds f d (piece.GoneNow ∷ todo) h l = absurd (allowed f d piece.GoneNow h.0)
  builds f d (piece.GiveUpNow ∷ todo) h l = absurd (allowed f d piece.GiveUpNow h.0)
  builds f d (p ∷ todo) h l = builds (next p) (next_behind p) todo h.1 l

any_done : Any ≡ Done → ⊥
any_done e = cc

-- of activations that wait for one another

module _ (t : Table) (few : Few) (source : Source) (tells : Aspect → ℕ → Bool) (o : ℕ) (zero : o ≡ 0 → ⊥) (n : Exec) where
  object_of : (v : Value) → object_in v ≡ o → v ≡ Object o
  object_of (Number z) e = absurd (zero (sym e))
  object_of (Place q p) e = absurd (zero (sym e))
  object_of (Running x) e = absurd (zero (sym e))
  object_of (Object q) e = ap Object e
  object_of Nothing e = absurd (zero (sym e))

  owes_none : (v : Value) (k : ℕ) → (v ≡ Object o → ⊥) → counted o v k ≡ 0
  owes_none v k d = by (nat_eq (object_in v) o) refl
    where
      by : (b : Bool) → nat_eq (object_in v) o ≡ b → ◌≡◌ {A = ℕ} (if b then k else 0) 0
      by true e = absurd (d (object_of v (eqb-true (object_in v) o e)))
      by false e = refl

  fewer : (a : Active) (older : List Active) → IsNoHome t few o (Things t few n (a ∷ older)) → IsNoHome t few o (Things t few n older)
  fewer a older f c x = f c (home_more t few o (Things t few n older) (Things t few n (a ∷ older)) (λ w d y. inr y) c x)

  one : (a : Active) (older : List Active) → Entered source (is_told tells a.this older) Any a.control → WaitsBy (Told t few n older a.this) a.control → (IsBuilt (a ∷ older) o → ⊥) → IsNoHome t few o (Things t few n older) → owed_waiting o older ≡ 0 → a.this ≡ Object o → ⊥
  one a older g h b i k e = by h.1
    where
      told : IsTold t few n older o → ⊥
      told (inl z) = zero z.0
      told (inr (inl x)) = i x.0 x.1
      told (inr (inr l)) = omega (arith, k, l)

      by : Told t few n older a.this ⊎ (is_letting a.control ≡ true) → ⊥
      by (inl c) = told (subst (Told t few n older) e c)
      by (inr m) = b (inl (e, builds source (is_told tells a.this older) Any any_done a.control g m))

  -- none of them is of the object, so nothing is owed to it
  none : (cs : List Active) → LetsStack t few n cs → AllEntered source tells cs → (IsBuilt cs o → ⊥) → IsNoHome t few o (Things t few n cs) → NoThis o cs × (owed_waiting o cs ≡ 0)
  none [] h g b i = (tt, refl)
  none (a ∷ older) h g b i =
      let rest = none older h.1 g.2 (λ x. b (inr x)) (fewer a older i) in
      let away : a.this ≡ Object o → ⊥ = one a older g.0 h.0 b (fewer a older i) rest.1 in
      let owed : owed_by o a ≡ 0 = owes_none a.this (marks a.control) away in
      let left = rest.1 in
      ((away, rest.0), omega (arith, owed, left))

-- in a state in which an object is entered again to be destroyed, where who enters it is at home in no object of its own, and the main of none; nor is the home of
-- the task's own object its own, where nothing is told of others but seats

module _ (t : Table) (few : Few) (source : Source) (nobodys : (n : Exec) → Belongs few n (few.home 0) → ⊥) (news : Tests) (s : State) (k : KnowsState t few [] s) (deep : Deep source news s) (lets : LetsState t few s) (lone : LoneObject t few source s) (foreign : IsForeign few s.env.exec) (owned : SeatsAlone few → Belongs few s.env.exec (few.home s.env.own) → ⊥) where
  abbrev n : Exec
  n = s.env.exec

  abbrev stack : List Active
  stack = s.run ∷ s.callers

  abbrev C : Type 0
  C = Told t few s.env.exec s.callers s.run.this

  module _ (m r : ℕ) (todo : List Todo) (e : s.run.control ≡ piece.EnterNow m r ∷ todo) where
    waits : LetsStack t few s.env.exec (s.run ∷ s.callers)
    waits = (subst (WaitsBy C) (sym e) (lists.busy C todo (subst (RunsBy C) e lets.stack.0)), lets.stack.1)

    first : (f : First) → Entered source (is_told (news s.env.exec.home) s.run.this s.callers) f (piece.EnterNow m r ∷ todo) → Entered source (is_told (news s.env.exec.home) s.run.this s.callers) Any (piece.EnterNow m r ∷ todo)
    first Any h = h
    first Done h = h
    first Skipped h = h
    first (CallOf q) h = absurd h.0
    first Bound h = absurd h.0

    entered : AllEntered source (news s.env.exec.home) (s.run ∷ s.callers)
    entered = (
      subst (Entered source (is_told (news s.env.exec.home) s.run.this s.callers) Any) (sym e) (first deep.first (subst (Entered source (is_told (news s.env.exec.home) s.run.this s.callers) deep.first) e deep.run)),
      deep.one,
      deep.callers,
    )

    pub clear : BareOnWayBy t few s source (piece.EnterNow m r ∷ todo) → IsClearAt t few source s k (piece.EnterNow m r ∷ todo)
    clear bare ends again =
        let o : ℕ = entering source r s in
        let at : LoneObjectAt t few source (piece.EnterNow m r ∷ todo) s = subst (λ l. LoneObjectAt t few source l s) e lone in
        let l = at ends in
        let free : Free t few o (Marked t s.env.exec (s.run ∷ s.callers)) = subst (λ c. Free t few o (Outward t s.env.exec s.run.frame s.run.this s.callers c)) (sym e) l.0.1 in
        let b = bare ends again (l.0.0, free) in
        let no_home : IsNoHome t few o (Things t few s.env.exec (s.run ∷ s.callers)) = λ c x.
        ⊎_elim (free c) (b.0 foreign c) (home_split t few o s.env.exec (s.run ∷ s.callers) c x) in
        let not_first : o ≡ 0 → ⊥ = λ z. nobodys s.env.exec (subst (λ (q : ℕ). Belongs few s.env.exec (few.home q)) z l.0.0) in
        let so = none t few source (news s.env.exec.home) o not_first s.env.exec (s.run ∷ s.callers) waits entered l.1 no_home in
        ((λ e. foreign o (inl e) l.0.0), (law_no_others.making t few o k.sigs (s.run ∷ s.callers) so.0, no_home), (λ q. owned (b.1 q) (subst (λ (i : ℕ). Belongs few s.env.exec (few.home i)) (sym q) l.0.0)))
