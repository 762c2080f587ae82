-- Behind the act by which an object goes those live that lived just before, with what they had to clean up then.
use Rattle.std.proofs.Common.{◌≡◌, ℕ, ◌==◌, ◌⊎◌, inl, inr, Bool, true, false, List, ◌∷◌, ◌++◌, None, refl, sym, ap, ◌∙◌, subst}
use Rattle.std.specs.Prelude.{if◌then◌else◌}
use Rattle.std.proofs.lemmas.Bool.{eq-eqb}
use Rattle.uc_tree.specs.Source.{Source}
use Rattle.uc_entry.specs.declared.entry.Entry.{Entry}
use Rattle.uc_entry.specs.Keyed.{find}
use Rattle.uc_acts.specs.Journal.{Journal, own_object}
use Rattle.uc_acts.specs.Known.{has_ended, spawns, takes_out}
use Rattle.uc_machine.specs.declared.exec.Exec.{Exec}
use Rattle.uc_machine.specs.declared.exec.Home.TheVariants as home
use Rattle.uc_machine.specs.declared.exec.Owner.TheVariants.{Frame}
use Rattle.uc_machine.specs.Pieces as piece
use Rattle.uc_machine.specs.Pieces.{Value, Todo, Active, State, Members}
use Rattle.uc_machine.specs.Answering.{child_of}
use Rattle.uc_meaning.specs.Runs.{World, bare, or_else, world_after}
use Rattle.uc_state_laws.proofs.DeepWorlds.{ended_before}
use Rattle.uc_typing.specs.Typing.{Ty, Table}
use Rattle.uc_life_laws.specs.Things.{AtField, IsFor, InTodo}
use Rattle.uc_life_laws.specs.Marks.{Marked}
use Rattle.uc_life_laws.specs.Rooted.{InParked, InHand, InMembers, Lives}
use Rattle.uc_apart_laws.specs.Before.{world_at}
use Rattle.uc_lasting_programs.specs.Asking.{LetsGoAt}

module _ (t : Table) (source : Source) (j : Journal) (w : World) (u : ℕ) (v s : State) (a : List Entry) (o : ℕ) (lets : LetsGoAt o v s) (alive : has_ended u j ≡ false) (none : (z : ℕ) → spawns a z ≡ false) where
  -- the tasks just before, and behind
  own_before : (if u == u then v else w.tasks u) ≡ v
  own_before = ap (λ (b : Bool). if b then v else w.tasks u) (eq-eqb u u refl)

  other_before : (z : ℕ) → (z == u) ≡ false → w.tasks z ≡ (if z == u then v else w.tasks z)
  other_before z g = sym (ap (λ (b : Bool). if b then v else w.tasks z) g)

  own_behind : (z : ℕ) → (z == u) ≡ true → (if z == u then bare s else if spawns a z then child_of source (own_object z a) s else w.tasks z) ≡ bare s
  own_behind z g = ap (λ (b : Bool). if b then bare s else if spawns a z then child_of source (own_object z a) s else w.tasks z) g

  other_behind : (z : ℕ) → (z == u) ≡ false → (if z == u then bare s else if spawns a z then child_of source (own_object z a) s else w.tasks z) ≡ w.tasks z
  other_behind z g =
      ap (λ (b : Bool). if b then bare s else if spawns a z then child_of source (own_object z a) s else w.tasks z) g ∙ ap (λ (b : Bool). if b then child_of source (own_object z a) s else w.tasks z) (none z)

  -- who acts had something to do before that cleans up nothing
  more : (l : List Todo) → (l ≡ piece.GoneNow ∷ lets.todo) ⊎ (l ≡ piece.GiveUpNow ∷ lets.todo) → (f : ℕ) (this : Value) (b : Value) (c : Ty) → InTodo (IsFor t (Frame v.env.exec f) this) (AtField t (Frame v.env.exec f) this) lets.todo b c → InTodo (IsFor t (Frame v.env.exec f) this) (AtField t (Frame v.env.exec f) this) l b c
  more l (inl e) f this b c m = subst (λ l. InTodo (IsFor t (Frame v.env.exec f) this) (AtField t (Frame v.env.exec f) this) l b c) (sym e) m
  more l (inr e) f this b c m = subst (λ l. InTodo (IsFor t (Frame v.env.exec f) this) (AtField t (Frame v.env.exec f) this) l b c) (sym e) m

  marks : (b : Value) (c : Ty) → Marked t v.env.exec (record v.run { control = lets.todo } ∷ v.callers) b c → Marked t v.env.exec (v.run ∷ v.callers) b c
  marks b c (inl m) = inl (more v.run.control lets.lets_go v.run.frame v.run.this b c m)
  marks b c (inr m) = inr m

  abbrev Parked : Exec → List Active → State → Type 0
  Parked n cs y = InParked n cs (home.Task y.env.own) y.env.house.parked ⊎ InHand n cs y.env.hand

  -- such a one lived before, and had as much to clean up
  pub record Lived (n : Exec) (cs : List Active) : Type 0 where
    pub active : List Active
    pub lives : Lives j (world_at w u v) n active
    pub marked : (b : Value) (c : Ty) → Marked t n cs b c → Marked t n active b c

  as_it_was : (n : Exec) (cs : List Active) → Lives j (world_at w u v) n cs → Lived n cs
  as_it_was n cs i = record { active = cs; lives = i; marked = λ b c m. m }

  own_runs : (n : Exec) (cs : List Active) → n ≡ s.env.exec → cs ≡ s.run ∷ s.callers → Lived n cs
  own_runs n cs e f =
      let same : s.run ∷ s.callers ≡ record v.run { control = lets.todo } ∷ v.callers = ap (λ (c : Active). c ∷ s.callers) lets.run ∙ ap (λ (cs : List Active). record v.run { control = lets.todo } ∷ cs) lets.callers in
      subst (λ n. Lived n cs) (sym (e ∙ lets.exec)) (record {
        active = v.run ∷ v.callers;
        lives = inl (u, alive, ap (λ (y : State). y.env.exec) (sym own_before), ap (λ (y : State). y.run ∷ y.callers) (sym own_before));
        marked = λ b c m. marks b c (subst (λ cs. Marked t v.env.exec cs b c) (f ∙ same) m);
      })

  own_parked : (n : Exec) (cs : List Active) → Parked n cs (bare s) → Lived n cs
  own_parked n cs (inl m) =
      let there : InParked n cs (home.Task v.env.own) v.env.house.parked = subst (λ (q : ℕ). InParked n cs (home.Task q) v.env.house.parked) lets.own (subst (λ (h : Members). InParked n cs (home.Task s.env.own) h.parked) lets.house m) in
      as_it_was n cs (inr (inl (u, inl (subst (λ (y : State). InParked n cs (home.Task y.env.own) y.env.house.parked) (sym own_before) there))))
  own_parked n cs (inr m) = absurd m

  members : (n : Exec) (cs : List Active) (q : ℕ) → InMembers n cs (home.Object q) (or_else (find q s.env.hand) (w.homes q)) → Lived n cs
  members n cs q m =
      as_it_was n cs (inr (inr (q, subst (λ (h : List (ℕ × Members)). InMembers n cs (home.Object q) (or_else (find q h) (w.homes q))) lets.hand m)))

  pub behind : (n : Exec) (cs : List Active) → Lives (j ++ a) (world_after source a w u s) n cs → Lived n cs
  behind n cs (inl (z, on, e, f)) = by (z == u) refl
    where
      by : (b : Bool) → (z == u) ≡ b → Lived n cs
      by true g = own_runs n cs (e ∙ ap (λ (y : State). y.env.exec) (own_behind z g)) (f ∙ ap (λ (y : State). y.run ∷ y.callers) (own_behind z g))
      by false g =
          let same = other_behind z g ∙ other_before z g in
          as_it_was n cs (inl (z, ended_before j a z on, e ∙ ap (λ (y : State). y.env.exec) same, f ∙ ap (λ (y : State). y.run ∷ y.callers) same))
  behind n cs (inr (inl (z, m))) = by (z == u) refl
    where
      by : (b : Bool) → (z == u) ≡ b → Lived n cs
      by true g = own_parked n cs (subst (Parked n cs) (own_behind z g) m)
      by false g = as_it_was n cs (inr (inl (z, subst (Parked n cs) (other_behind z g ∙ other_before z g) m)))
  behind n cs (inr (inr (q, m))) = by (takes_out a q) m
    where
      by : (b : Bool) → InMembers n cs (home.Object q) (if b then None else or_else (find q s.env.hand) (w.homes q)) → Lived n cs
      by true m = absurd m
      by false m = members n cs q m
