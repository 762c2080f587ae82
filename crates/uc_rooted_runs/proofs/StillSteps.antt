-- No name of an execution that was forgotten is there: it would have to be held by a mark that no list has.
use Rattle.std.proofs.Common.{◌≡◌, ℕ, zero, suc, ◌≤◌, Bool, true, false, List, [], ◌∷◌, Option, Some, None, refl, sym, ap, ◌∙◌, subst, inl, inr}
use Rattle.std.specs.Prelude.{not, if◌then◌else◌, nat_eq}
use Rattle.std.proofs.lemmas.Bool.{eqb-true, eq-eqb}
use Rattle.uc_tree.specs.Source.{Source}
use Rattle.uc_entry.specs.declared.request.Request.{Request}
use Rattle.uc_entry.specs.Keyed.{find}
use Rattle.uc_machine.specs.declared.exec.Exec.{Exec}
use Rattle.uc_machine.specs.declared.exec.Home.{Home}
use Rattle.uc_machine.specs.declared.exec.Home.TheVariants as home
use Rattle.uc_machine.specs.Executions.{Execution, exec_eq, members_at, slot_in}
use Rattle.uc_machine.specs.Switches as sw
use Rattle.uc_machine.specs.Switches.{new_exec}
use Rattle.uc_machine.specs.Pieces as piece
use Rattle.uc_machine.specs.Pieces.{Value, Todo, ForgetNow, Sort, Active, State, Env, Members, Goes, Ticks, Asks, at, in_env, own_exec, exec_in, loaded}
use Rattle.uc_machine.specs.Quiet as quiet
use Rattle.uc_machine.specs.Quiet.{home_at}
use Rattle.uc_step_laws.specs.Hands.{keys}
use Rattle.uc_state_laws.proofs.Lists.{Once}
use Rattle.uc_answer_laws.specs.Suiting.{Form, JustGo}
use Rattle.uc_name_laws.specs.Below.{IsBelow, IsNamed, AreApart, slot_at}
use Rattle.uc_name_laws.specs.NameSteps.{Named, SparesAt, Spares}
use Rattle.uc_name_laws.proofs.Births.{law_new}
use Rattle.uc_name_laws.proofs.Homes.{no_both, none_some, the_same, same_exec, slot_same, mapped, change_beside}
use Rattle.uc_name_laws.proofs.Keeping.{loaded_named}
use Rattle.uc_name_laws.proofs.Values.{below_more}
use Rattle.uc_life_laws.specs.LifeStates.{EnvBy}
use Rattle.uc_life_laws.specs.Destroying.{Seat}
use Rattle.uc_life_laws.specs.Placed.{Placed, put, placed, stacked, Ends, all, behind}
use Rattle.uc_life_laws.specs.Held.{Seating, AreLines, IsOuter, Held, Soon, SoonHere, SoonAsked, HeldEx, HeldState, HeldAsked, HeldAsk, HeldStep, HoldsNow, OfCounted, HoldsCounted, TakesAt, TakesNow}
use Rattle.uc_life_laws.proofs.HeldLaws.{law_held, held_ends, soon_ends, next_ends, outer_ends}
use Rattle.uc_life_laws.proofs.Alone.{NoRest, env_other}
use Rattle.uc_life_laws.proofs.Fewer.{both_env}
use Rattle.uc_life_laws.proofs.OwnRides.{Settled}
use Rattle.uc_rooted_runs.specs.MainRuns.{EndsMains}
use Rattle.uc_rooted_runs.specs.Still.{without_one, without_own, still_by, still_behind}
use Rattle.uc_rooted_runs.proofs.OutlastRuns.{asked_fewer, ask_fewer}

-- a mark that no list has

abbrev IsMark : Todo → Type 0
IsMark (piece.Clean c) = Unit {0}
IsMark (piece.Part c) = Unit {0}
IsMark p = ⊥

abbrev AreMarks : List Placed → Type 0
AreMarks [] = Unit {0}
AreMarks (p ∷ ps) = IsMark p.mark × AreMarks ps

put_marks : (k : Sort) (f : ℕ) (this : Value) (ps : List Placed) → AreMarks ps → AreMarks (put k f this ps)
put_marks (piece.IsClean c) f this ps h = (tt, h)
put_marks (piece.IsPart c) f this ps h = (tt, h)
put_marks k f this ps h = h

placed_marks : (f : ℕ) (this : Value) (todo : List Todo) (ps : List Placed) → AreMarks ps → AreMarks (placed f this todo ps)
placed_marks f this [] ps h = h
placed_marks f this (p ∷ todo) ps h = put_marks (piece.sort p) f this (placed f this todo ps) (placed_marks f this todo ps h)

stacked_marks : (cs : List Active) → AreMarks (stacked cs)
stacked_marks [] = tt
stacked_marks (a ∷ older) = placed_marks a.frame a.this a.control (stacked older) (stacked_marks older)

abbrev pub no_mark : List Placed
no_mark = record { frame = 0; this = piece.Nothing; mark = piece.TickNow } ∷ []

none_ends : (qs : List Placed) → AreMarks qs → Ends no_mark qs → ⊥
none_ends _ m all = m.0
none_ends _ m (behind {p} {qs} h) = none_ends qs m.1 h

-- each execution is to be held by that mark in what an execution of its own name has to do
abbrev pub absent : Seating
absent = record { parent = λ x. x; seat = λ x. record { place = piece.Nothing; task = false; home = λ o. piece.Nothing }; before = λ x. no_mark }

module _ (source : Source) (w : Seat) (n : Exec) where
  none_held : (cs : List Active) → Held source w no_mark n cs → ⊥
  none_held cs h = none_ends (stacked cs) (stacked_marks cs) (held_ends source w no_mark n cs h)

  none_soon : (a : Active) (cs : List Active) → Soon source w no_mark n a cs → ⊥
  none_soon a cs h = none_ends (stacked (a ∷ cs)) (stacked_marks (a ∷ cs)) (soon_ends source w no_mark n a cs h)

  none_asked : (form : Form) (a : Active) (cs : List Active) → SoonAsked source w no_mark n form a cs → ⊥
  none_asked form a cs (inl h) = none_held (a ∷ cs) h
  none_asked form a cs (inr h) = none_soon a cs h.1

  none_here : (s : State) → SoonHere source w no_mark n s → ⊥
  none_here s (inl (zero, h)) = none_soon s.run s.callers h
  none_here s (inl (suc k, h)) = none_ends (stacked (s.run ∷ s.callers)) (stacked_marks (s.run ∷ s.callers)) h.1
  none_here s (inr h) = none_ends (stacked (s.run ∷ s.callers)) (stacked_marks (s.run ∷ s.callers)) (next_ends source w no_mark n s.run.control s.run s.callers h)

-- so no step takes a mark away that holds one

module _ (source : Source) (up : Exec → Bool) (s : State) (x : Exec) where
  none_outer : (k : Sort) (todo : List Todo) → IsOuter source (absent.seat x) no_mark s.env.exec s.run.frame s.run.this k todo s.callers → ⊥
  none_outer k todo h =
      none_ends (placed s.run.frame s.run.this todo (stacked s.callers)) (placed_marks s.run.frame s.run.this todo (stacked s.callers) (stacked_marks s.callers)) (outer_ends source (absent.seat x) no_mark s.env.exec s.run.frame s.run.this s.callers k todo h)

  none_holds : (k : Sort) (todo : List Todo) → HoldsNow source absent up s x k todo → ⊥
  none_holds (piece.IsClean c) todo h = none_outer (piece.IsClean c) todo h.1
  none_holds (piece.IsPart c) todo h = none_outer (piece.IsPart c) todo h.1
  none_holds (piece.IsFill m b d) todo h = none_outer (piece.IsFill m b d) todo h.1
  none_holds (piece.IsSweep d) todo h = none_outer (piece.IsSweep d) todo h.1
  none_holds k todo h = h

  none_by : (k : Sort) (todo : List Todo) (R : Type 0) → (R → ⊥) → OfCounted source absent up s x k todo R → ⊥
  none_by (piece.IsFill m b d) todo R f (inl h) = none_holds (piece.IsFill m b d) todo h
  none_by (piece.IsFill m b d) todo R f (inr r) = f r
  none_by (piece.IsSweep d) todo R f (inl h) = none_holds (piece.IsSweep d) todo h
  none_by (piece.IsSweep d) todo R f (inr r) = f r
  none_by k todo R f r = f r

  none_counted : (todo : List Todo) → HoldsCounted source absent up s x todo → ⊥
  none_counted [] h = h
  none_counted (piece.CountNow m ∷ (piece.FillNow k b d ∷ todo)) h = none_counted todo h
  none_counted (p ∷ todo) h = none_by (piece.sort p) todo (HoldsCounted source absent up s x todo) (none_counted todo) h

module _ (source : Source) (up : Exec → Bool) (s : State) where
  takes_none : (l : List Todo) → ((todo : List Todo) → l ≡ piece.Finish ∷ todo → AreLines todo) → ((r : ℕ) (todo : List Todo) → l ≡ piece.SetUpNow r ∷ todo → (m : Members) → members_at (home_at s.run.this s.env) s.env ≡ Some m → (x : Exec) → up x ≡ true → x ≡ new_exec (home_at s.run.this s.env) s.env → ⊥) → TakesAt source absent up l s
  takes_none [] f g = λ x o t h d p e. absurd (cc)
  takes_none (piece.ClearNow k m ∷ todo) f g = λ x o t h d p e. absurd (cc)
  takes_none (piece.Clean c ∷ todo) f g = λ x o h. absurd (none_holds source up s x (piece.IsClean c) todo h)
  takes_none (piece.Part c ∷ todo) f g = λ x o h. absurd (none_holds source up s x (piece.IsPart c) todo h)
  takes_none (piece.FillNow m b d ∷ todo) f g = λ x o h. absurd (none_holds source up s x (piece.IsFill m b d) todo h)
  takes_none (piece.Sweep d ∷ todo) f g = (λ x o h. absurd (none_holds source up s x (piece.IsSweep d) todo h), λ x o h. absurd (none_counted source up s x todo h))
  takes_none (piece.CountNow m ∷ (piece.FillNow k b d ∷ todo)) f g = λ x o h. absurd (none_counted source up s x todo h)
  takes_none (piece.CountNow m ∷ todo) f g = λ x o h. absurd (none_counted source up s x todo h)
  takes_none (piece.MoreNow ∷ todo) f g = λ x o h. absurd (none_counted source up s x todo h)
  takes_none (piece.Unwind ∷ []) f g = λ x o t h d p e. absurd (cc)
  takes_none (piece.Unwind ∷ (p ∷ todo)) f g = λ x o h. absurd (none_holds source up s x (piece.sort p) todo h)
  takes_none (piece.Exit way ∷ []) f g = λ x o t h d p e. absurd (cc)
  takes_none (piece.Exit way ∷ (p ∷ todo)) f g = λ x o h. absurd (none_holds source up s x (piece.sort p) todo h)
  takes_none (piece.GoneNow ∷ todo) f g = λ x o h e. no_both false h refl
  takes_none (piece.Finish ∷ todo) f g = (f todo refl, λ x o t h d p e. absurd (cc))
  takes_none (piece.SetUpNow r ∷ todo) f g = g r todo refl
  takes_none l f g = tt

-- who is no more

abbrev pub Gone : (Exec → Bool) → Exec → Bool
Gone still x = not (still x)

is_gone : (b : Bool) → not b ≡ true → b ≡ false
is_gone true e = absurd (cc)
is_gone false e = refl

module _ (source : Source) (still : Exec → Bool) where
  pub ex_still : (n : Exec) (y : Execution (List Todo) Value) → HeldEx source absent (Gone still) n y → still n ≡ true
  ex_still n y h = by (still n) refl
    where
      by : (b : Bool) → still n ≡ b → still n ≡ true
      by true e = e
      by false e = absurd (none_held source (absent.seat n) n (y.run ∷ y.callers) (h.0 n (ap not e) refl))

  pub still_ex : (n : Exec) (y : Execution (List Todo) Value) → still n ≡ true → HeldEx source absent (Gone still) n y
  still_ex n y e = (λ x u p. no_both (still x) (ap still p ∙ e) (is_gone (still x) u), λ x u p t. tt)

  pub runs_still : (form : Form) (s : State) → HeldAsked source absent (Gone still) form s → still s.env.exec ≡ true
  runs_still form s h = by (still s.env.exec) refl
    where
      by : (b : Bool) → still s.env.exec ≡ b → still s.env.exec ≡ true
      by true e = e
      by false e = absurd (none_asked source (absent.seat s.env.exec) s.env.exec form s.run s.callers (h.soon s.env.exec (ap not e) refl))

  pub here_still : (s : State) → HeldState source absent (Gone still) s → still s.env.exec ≡ true
  here_still s h = by (still s.env.exec) refl
    where
      by : (b : Bool) → still s.env.exec ≡ b → still s.env.exec ≡ true
      by true e = e
      by false e = absurd (none_here source (absent.seat s.env.exec) s.env.exec s (h.soon s.env.exec (ap not e) refl))

  pub asked_still : (form : Form) (s : State) → still s.env.exec ≡ true → EnvBy (λ n y. still n ≡ true) s.env → HeldAsked source absent (Gone still) form s
  asked_still form s e h = record {
    soon = λ x u p. no_both (still x) (ap still p ∙ e) (is_gone (still x) u);
    named = λ x u p t. tt;
    env = both_env (λ n y. still n ≡ true) (λ n y. still n ≡ true) (HeldEx source absent (Gone still)) (λ n y k l. still_ex n y k) s.env h h;
  }

  pub env_still : (e : Env) → EnvBy (HeldEx source absent (Gone still)) e → EnvBy (λ n y. still n ≡ true) e
  env_still e h = both_env (HeldEx source absent (Gone still)) (HeldEx source absent (Gone still)) (λ n y. still n ≡ true) (λ n y k l. ex_still n y k) e h h

-- names

named_exec : (serials : Home → ℕ) (v : Value) (x : Exec) → IsNamed serials v → exec_in v ≡ Some x → IsBelow serials x
named_exec serials (piece.Number z) x h e = absurd (cc)
named_exec serials (piece.Place o p) x h e = absurd (cc)
named_exec serials (piece.Running n) x h e = subst (IsBelow serials) (the_same n x e) h
named_exec serials (piece.Object o) x h e = absurd (cc)
named_exec serials piece.Nothing x h e = absurd (cc)

find_without : {X : Type 0} (k : ℕ) (ps : List (ℕ × X)) → AreApart ps → find k (sw.without k ps) ≡ None
find_without k [] a = refl
find_without k (p ∷ ps) a = by (nat_eq p.0 k) refl (find_without k ps a.1)
  where
    by : (b : Bool) → nat_eq p.0 k ≡ b → find k (sw.without k ps) ≡ None → find k (if b then ps else p ∷ sw.without k ps) ≡ None
    by true e ih = ap (λ i. find i ps) (sym (eqb-true p.0 k e)) ∙ a.0
    by false e ih = ap (λ (b : Bool). if b then Some p.1 else find k (sw.without k ps)) e ∙ ih

-- a step

module _ (source : Source) (still : Exec → Bool) (s : State) where
  -- one that was there is forgotten in this state
  pub record IsTaken (x : Exec) : Type 0 where
    pub todo : List Todo
    pub next : s.run.control ≡ ForgetNow ∷ todo
    pub own : own_exec s ≡ Some x
    pub members : Members
    pub in_hand : members_at x.home s.env ≡ Some members

  taken : (x : Exec) → still_behind s still x ≡ false → still x ≡ true → IsTaken x
  taken x f e = at_list s.run.control refl f
    where
      one : (todo : List Todo) → s.run.control ≡ ForgetNow ∷ todo → (o : Option Exec) → own_exec s ≡ o → without_own o s still x ≡ false → IsTaken x
      one todo c None i f = no_both (still x) e f
      one todo c (Some n) i f = by (members_at n.home s.env) refl f
        where
          by : (m : Option Members) → members_at n.home s.env ≡ m → without_one m n still x ≡ false → IsTaken x
          by None g f = no_both (still x) e f
          by (Some m) g f = same (exec_eq x n) refl f
            where
              same : (b : Bool) → exec_eq x n ≡ b → (if b then false else still x) ≡ false → IsTaken x
              same true q f =
                  let is : x ≡ n = same_exec x n q in
                  record {
                    todo = todo;
                    next = c;
                    own = i ∙ ap Some (sym is);
                    members = m;
                    in_hand = ap (λ k. members_at k s.env) (ap (λ (k : Exec). k.home) is) ∙ g;
                  }
              same false q f = no_both (still x) e f

      at_list : (l : List Todo) → s.run.control ≡ l → still_by l s still x ≡ false → IsTaken x
      at_list [] c f = no_both (still x) e f
      at_list (ForgetNow ∷ todo) c f = one todo c (own_exec s) refl f
      at_list (p ∷ todo) c f = no_both (still x) e f

  -- it goes on in the same execution, without that
  forgets : (x : Exec) → IsTaken x → (u : State) → quiet.quiet source s ≡ Goes u → u.env ≡ sw.gone x s.env
  forgets x t u e =
      let first : quiet.act_todo source (ForgetNow ∷ t.todo) s ≡ Goes u = subst (λ l. quiet.act_todo source l s ≡ Goes u) t.next e in
      let same : at t.todo s.run.operands (in_env (sw.forgotten (own_exec s) s.env) s) ≡ u = cc first in
      sym (ap (λ (v : State). v.env) same) ∙ ap (λ o. sw.forgotten o s.env) t.own

  none_ticks : (x : Exec) → IsTaken x → (u : State) → quiet.quiet source s ≡ Ticks u → ⊥
  none_ticks x t u e =
      let first : quiet.act_todo source (ForgetNow ∷ t.todo) s ≡ Ticks u = subst (λ l. quiet.act_todo source l s ≡ Ticks u) t.next e in
      let goes : Goes (at t.todo s.run.operands (in_env (sw.forgotten (own_exec s) s.env) s)) ≡ Ticks u = first in
      cc

  none_asks : (x : Exec) → IsTaken x → (r : Request) (u : State) → quiet.quiet source s ≡ Asks r u → ⊥
  none_asks x t r u e =
      let first : quiet.act_todo source (ForgetNow ∷ t.todo) s ≡ Asks r u = subst (λ l. quiet.act_todo source l s ≡ Asks r u) t.next e in
      let goes : Goes (at t.todo s.run.operands (in_env (sw.forgotten (own_exec s) s.env) s)) ≡ Asks r u = first in
      cc

  -- where something is asked nothing is forgotten
  pub asks_same : (r : Request) (u : State) → quiet.quiet source s ≡ Asks r u → (x : Exec) → still x ≡ true → still_behind s still x ≡ true
  asks_same r u e x g = by (still_behind s still x) refl
    where
      by : (b : Bool) → still_behind s still x ≡ b → still_behind s still x ≡ true
      by true f = f
      by false f = absurd (none_asks x (taken x f g) r u e)

module _ (source : Source) (here : Home → Bool) (ks : List ℕ) (once : Once ks) (serials : Home → ℕ) (still : Exec → Bool) (s : State) (below : (x : Exec) → still x ≡ false → IsBelow serials x) (named : Named here false serials s) (settled : Settled ks s) (spares : Spares s) (ends : EndsMains source s) where
  pub taken_here : (x : Exec) → still_behind s still x ≡ false → still x ≡ true → here x.home ≡ true
  taken_here x f e = by (here x.home) refl
    where
      t : IsTaken source still s x
      t = taken source still s x f e

      by : (b : Bool) → here x.home ≡ b → here x.home ≡ true
      by true g = g
      by false g = none_some t.members (members_at x.home s.env) (named.names.env_named.away x.home g) t.in_hand

  pub taken_on : (x : Exec) → still x ≡ true → (still_behind s still x ≡ true → here x.home ≡ true) → here x.home ≡ true
  taken_on x e next = by (still_behind s still x) refl
    where
      by : (b : Bool) → still_behind s still x ≡ b → here x.home ≡ true
      by true f = next f
      by false f = taken_here x f e

  pub below_behind : (after : Home → ℕ) → ((h : Home) → serials h ≤ after h) → (x : Exec) → still_behind s still x ≡ false → IsBelow after x
  below_behind after more x f = below_more serials after more x (by (still x) refl)
    where
      by : (b : Bool) → still x ≡ b → IsBelow serials x
      by false e = below x e
      by true e =
          let t = taken source still s x f e in
          named_exec serials (loaded s.run.this s.env) x (loaded_named serials here s.run.this s.env named.names.env_named) t.own

  module _ (x : Exec) (t : IsTaken source still s x) (u : State) (e : quiet.quiet source s ≡ Goes u) where
    other_runs : x ≡ u.env.exec → ⊥
    other_runs same =
        let exec : u.env.exec ≡ s.env.exec = ap (λ (v : Env). v.exec) (forgets source still s x t u e) ∙ (change_beside x.home (sw.slot_gone x.serial) s.env).exec_same in
        let not : SparesAt (ForgetNow ∷ t.todo) s = subst (λ l. SparesAt l s) t.next spares in
        not (t.own ∙ ap Some (same ∙ exec))

    slot_none : slot_at x u.env ≡ None
    slot_none =
        let m = named.names.env_named.members_named x.home t.members t.in_hand in
        ap (slot_at x) (forgets source still s x t u e) ∙ (slot_same x (sw.slot_gone x.serial) s.env ∙ (ap (λ o. slot_in x.serial (mapped (sw.slot_gone x.serial) o)) t.in_hand ∙ find_without x.serial t.members.parked m.apart))

    none_rests : (o : Option (Option (Execution (List Todo) Value))) → o ≡ None → NoRest o
    none_rests None g = tt
    none_rests (Some o) g = absurd (cc)

    away : (after : Home → ℕ) → Named here false after u → keys u.env.hand ≡ ks → EnvBy (λ n y. n ≡ x → ⊥) u.env
    away after n k =
        env_other x u.env (subst Once (sym k) once) (λ h m g. (n.names.env_named.members_named h m g).apart) (λ h. none_rests (find x.serial u.env.house.parked) (house h)) (λ o m h g. none_rests (find x.serial m.parked) (hand o m h g))
      where
        house : x.home ≡ home.Task u.env.own → find x.serial u.env.house.parked ≡ None
        house h =
            let own : members_at x.home u.env ≡ Some u.env.house = ap (λ k. members_at k u.env) h ∙ ap (λ (b : Bool). if b then Some u.env.house else None) (eq-eqb u.env.own u.env.own refl) in
            ap (slot_in x.serial) (sym own) ∙ slot_none

        hand : (o : ℕ) (m : Members) → x.home ≡ home.Object o → find o u.env.hand ≡ Some m → find x.serial m.parked ≡ None
        hand o m h g =
            let own : members_at x.home u.env ≡ Some m = ap (λ k. members_at k u.env) h ∙ g in
            ap (slot_in x.serial) (sym own) ∙ slot_none

  module _ (h : HeldState source absent (Gone still) s) where
    takes : TakesNow source absent (Gone still) s
    takes =
        takes_none source (Gone still) s s.run.control (λ todo e. ends.finish todo e) (λ r todo e m i x u p. law_new.unnamed here false serials s named (home_at s.run.this s.env) m i (subst (IsBelow serials) p (below x (is_gone (still x) u))))

    stepped : HeldStep source absent (Gone still) (quiet.quiet source s)
    stepped = law_held.steps source absent (Gone still) s h takes

    -- who is there behind the step is none that it forgets
    module _ (u : State) (e : quiet.quiet source s ≡ Goes u) (after : Home → ℕ) (n : Named here false after u) (k : keys u.env.hand ≡ ks) where
      next : HeldState source absent (Gone still) u
      next = subst (HeldStep source absent (Gone still)) e stepped

      keeps : (m : Exec) → still m ≡ true → (still_behind s still m ≡ false → IsTaken source still s m → ⊥) → still_behind s still m ≡ true
      keeps m g never = by (still_behind s still m) refl
        where
          by : (b : Bool) → still_behind s still m ≡ b → still_behind s still m ≡ true
          by true f = f
          by false f = absurd (never f (taken source still s m f g))

      same_one : (x m : Exec) → own_exec s ≡ Some x → IsTaken source still s m → m ≡ x
      same_one x m i t = the_same m x (sym t.own ∙ i)

      abbrev Old : Exec → Execution (List Todo) Value → Type 0
      Old = HeldEx source absent (Gone still)

      abbrev New : Exec → Execution (List Todo) Value → Type 0
      New = HeldEx source absent (Gone (still_behind s still))

      nobody : ((m : Exec) → still m ≡ true → still_behind s still m ≡ false → IsTaken source still s m → ⊥) → EnvBy (HeldEx source absent (Gone (still_behind s still))) u.env
      nobody f =
          both_env (HeldEx source absent (Gone still)) (HeldEx source absent (Gone still)) (HeldEx source absent (Gone (still_behind s still))) (λ m y a b. let g = ex_still source still m y a in still_ex source (still_behind s still) m y (keeps m g (f m g))) u.env next.env next.env

      env_behind : EnvBy (HeldEx source absent (Gone (still_behind s still))) u.env
      env_behind = by (own_exec s) refl
        where
          one : (x : Exec) → own_exec s ≡ Some x → (b : Bool) → still x ≡ b → (c : Bool) → still_behind s still x ≡ c → EnvBy (HeldEx source absent (Gone (still_behind s still))) u.env
          one x i true g false f =
              let t = taken source still s x f g in
              both_env (λ m y. m ≡ x → ⊥) (HeldEx source absent (Gone still)) (HeldEx source absent (Gone (still_behind s still))) (λ m y o a. still_ex source (still_behind s still) m y (keeps m (ex_still source still m y a) (λ z q. o (same_one x m i q)))) u.env (away x t u e after n k) next.env
          one x i true g true f = nobody (λ m a z q. no_both (still_behind s still x) f (ap (still_behind s still) (sym (same_one x m i q)) ∙ z))
          one x i false g c f = nobody (λ m a z q. no_both (still x) (ap still (sym (same_one x m i q)) ∙ a) g)

          by : (o : Option Exec) → own_exec s ≡ o → EnvBy (HeldEx source absent (Gone (still_behind s still))) u.env
          by None i = nobody (λ m a z q. none_some m (own_exec s) i q.own)
          by (Some x) i = one x i (still x) refl (still_behind s still x) refl

      pub step_goes : HeldState source absent (Gone (still_behind s still)) u
      step_goes = record { soon = λ x v p. by x v p (still x) refl; named = λ x v p t. tt; env = env_behind }
        where
          by : (x : Exec) → Gone (still_behind s still) x ≡ true → x ≡ u.env.exec → (b : Bool) → still x ≡ b → SoonHere source (absent.seat x) no_mark u.env.exec u
          by x v p true g = absurd (other_runs x (taken source still s x (is_gone (still_behind s still x) v) g) u e p)
          by x v p false g = next.soon x (ap not g) p

    -- where nothing is forgotten the same ones are there
    fewer : ((x : Exec) → IsTaken source still s x → ⊥) → (x : Exec) → Gone (still_behind s still) x ≡ true → Gone still x ≡ true
    fewer f x v = by (still x) refl
      where
        by : (b : Bool) → still x ≡ b → Gone still x ≡ true
        by true g = absurd (f x (taken source still s x (is_gone (still_behind s still x) v) g))
        by false g = ap not g

    pub step_ticks : (u : State) → quiet.quiet source s ≡ Ticks u → HeldAsked source absent (Gone (still_behind s still)) JustGo u
    step_ticks u e = asked_fewer source absent (Gone still) (Gone (still_behind s still)) JustGo u (subst (HeldStep source absent (Gone still)) e stepped) (fewer (λ x t. none_ticks source still s x t u e))

    pub step_asks : (r : Request) (u : State) → quiet.quiet source s ≡ Asks r u → HeldAsk source absent (Gone (still_behind s still)) r u
    step_asks r u e = ask_fewer source absent (Gone still) (Gone (still_behind s still)) r u (subst (HeldStep source absent (Gone still)) e stepped) (fewer (λ x t. none_asks source still s x t r u e))
