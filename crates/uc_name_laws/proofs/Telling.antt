-- An answer brings no name, and a task begins with one.
use Rattle.std.proofs.Common.{◌≡◌, ℕ, ◌++◌, ◌⊎◌, inl, inr, Bool, true, false, List, [], ◌∷◌, Option, Some, None, refl, sym, ap, ◌∙◌, subst, arith}
use Rattle.std.specs.Prelude.{nat_eq, if◌then◌else◌}
use Rattle.std.proofs.lemmas.Bool.{eqb-true, eq-eqb}
use Rattle.uc_tree.specs.Source.{Source, Routine, cells_of_class}
use Rattle.uc_entry.specs.declared.request.Answer.{Answer}
use Rattle.uc_entry.specs.declared.request.Answer.TheVariants as answer
use Rattle.uc_entry.specs.Keyed.{find}
use Rattle.uc_machine.specs.declared.exec.Exec.{Exec}
use Rattle.uc_machine.specs.declared.exec.Home.{Home}
use Rattle.uc_machine.specs.declared.exec.Home.TheVariants as home
use Rattle.uc_machine.specs.Executions.{members_at, slot_in}
use Rattle.uc_machine.specs.Pieces.{Value, Todo, BindMadeNow, State, Members}
use Rattle.uc_machine.specs.Quiet.{zeros, first_state}
use Rattle.uc_machine.specs.Answering.{answered, entered, new_members, with_operand}
use Rattle.uc_name_laws.specs.Below.{Ex, IsNamed, MembersNamed, slot_at}
use Rattle.uc_name_laws.specs.NameSteps.{Named, Brings, LawTold}
use Rattle.uc_name_laws.proofs.Homes.{no_both, none_some, the_same}
use Rattle.uc_name_laws.proofs.Values.{named_noughts}

-- what stands under a number behind one more at the end: what stood there, or that
abbrev Split : ℕ → ℕ → Members → Option Members → Option Members → Type 0
Split k o m old new = (new ≡ old) ⊎ ((old ≡ None) × (k ≡ o) × (new ≡ Some m))

found_more : (k o : ℕ) (m : Members) (hand : List (ℕ × Members)) → Split k o m (find k hand) (find k (hand ++ (o, m) ∷ []))
found_more k o m [] = by (nat_eq o k) refl
  where
    by : (b : Bool) → nat_eq o k ≡ b → Split k o m None (if b then Some m else None)
    by true e = inr (refl, sym (eqb-true o k e), refl)
    by false e = inl refl
found_more k o m (p ∷ hand) = by (nat_eq p.0 k) (found_more k o m hand)
  where
    by : (b : Bool) → Split k o m (find k hand) (find k (hand ++ (o, m) ∷ [])) → Split k o m (if b then Some p.1 else find k hand) (if b then Some p.1 else find k (hand ++ (o, m) ∷ []))
    by true h = inl refl
    by false h = h

module _ (here : Home → Bool) (sure : Bool) (serials : Home → ℕ) where
  pushed : (v : Value) (s : State) → IsNamed serials v → Named here sure serials s → Named here sure serials (with_operand v s)
  pushed v s i h = record {
    names = record {
      run_named = record { operands_named = (i, h.names.run_named.operands_named); this_named = h.names.run_named.this_named; result_named = h.names.run_named.result_named };
      callers_named = h.names.callers_named;
      env_named = h.names.env_named;
    };
    runs = h.runs;
  }

  -- an object without executions comes into the hand
  comes : (n o : ℕ) (s : State) → serials (home.Object o) ≡ 0 → here (home.Object o) ≡ true → Named here sure serials s → Named here sure serials (entered (Some (zeros n)) o s)
  comes n o s z i h = record {
    names = record {
      run_named = h.names.run_named;
      callers_named = h.names.callers_named;
      env_named = record {
        frames_named = h.names.env_named.frames_named;
        links_named = h.names.env_named.links_named;
        exec_below = h.names.env_named.exec_below;
        members_named = members;
        away = away;
      };
    };
    runs = record { alone = alone; there = λ u. there s.env.exec.home (h.runs.there u) };
  }
    where
      new : MembersNamed serials (home.Object o) (zeros n)
      new = record { values_named = named_noughts serials n; parked_named = tt; apart = tt; serial_is = sym z }

      members : (k : Home) (m : Members) → members_at k (entered (Some (zeros n)) o s).env ≡ Some m → MembersNamed serials k m
      members (home.Task t) m e = h.names.env_named.members_named (home.Task t) m e
      members (home.Object q) m e = by (found_more q o (zeros n) s.env.hand)
        where
          by : Split q o (zeros n) (find q s.env.hand) (find q (s.env.hand ++ (o, zeros n) ∷ [])) → MembersNamed serials (home.Object q) m
          by (inl f) = h.names.env_named.members_named (home.Object q) m (sym f ∙ e)
          by (inr f) = subst (λ k. MembersNamed serials (home.Object k) m) (sym f.1) (subst (MembersNamed serials (home.Object o)) (the_same (zeros n) m (sym f.2 ∙ e)) new)

      away : (k : Home) → here k ≡ false → members_at k (entered (Some (zeros n)) o s).env ≡ None
      away (home.Task t) e = h.names.env_named.away (home.Task t) e
      away (home.Object q) e = by (found_more q o (zeros n) s.env.hand)
        where
          by : Split q o (zeros n) (find q s.env.hand) (find q (s.env.hand ++ (o, zeros n) ∷ [])) → find q (s.env.hand ++ (o, zeros n) ∷ []) ≡ None
          by (inl f) = f ∙ h.names.env_named.away (home.Object q) e
          by (inr f) = no_both (here (home.Object o)) i (ap (λ k. here (home.Object k)) (sym f.1) ∙ e)

      slot : (k : Home) (x : ℕ) → slot_in x (members_at k (entered (Some (zeros n)) o s).env) ≡ Some None → slot_in x (members_at k s.env) ≡ Some None
      slot (home.Task t) x e = e
      slot (home.Object q) x e = by (found_more q o (zeros n) s.env.hand)
        where
          by : Split q o (zeros n) (find q s.env.hand) (find q (s.env.hand ++ (o, zeros n) ∷ [])) → slot_in x (find q s.env.hand) ≡ Some None
          by (inl f) = ap (slot_in x) (sym f) ∙ e
          by (inr f) = none_some None (slot_in x (find q (s.env.hand ++ (o, zeros n) ∷ []))) (ap (slot_in x) f.2) e

      alone : sure ≡ true → (m : Exec) → slot_at m (entered (Some (zeros n)) o s).env ≡ Some None → m ≡ s.env.exec
      alone u m e = h.runs.alone u m (slot m.home m.serial e)

      there : (k : Home) → slot_in s.env.exec.serial (members_at k s.env) ≡ Some None → slot_in s.env.exec.serial (members_at k (entered (Some (zeros n)) o s).env) ≡ Some None
      there (home.Task t) e = e
      there (home.Object q) e = by (found_more q o (zeros n) s.env.hand)
        where
          by : Split q o (zeros n) (find q s.env.hand) (find q (s.env.hand ++ (o, zeros n) ∷ [])) → slot_in s.env.exec.serial (find q (s.env.hand ++ (o, zeros n) ∷ [])) ≡ Some None
          by (inl f) = ap (slot_in s.env.exec.serial) f ∙ e
          by (inr f) = none_some None (slot_in s.env.exec.serial (find q s.env.hand)) (ap (slot_in s.env.exec.serial) f.0) e

  brought : (source : Source) (o : ℕ) (s : State) → Brings source here serials s (answer.Object o) → Named here sure serials s → Named here sure serials (entered (new_members source s.run.control) o s)
  brought source o s (inl e) h = subst (λ x. Named here sure serials (entered x o s)) (sym e) h
  brought source o s (inr y) h = by s.run.control
    where
      by : (todo : List Todo) → Named here sure serials (entered (new_members source todo) o s)
      by [] = h
      by (BindMadeNow c r ∷ todo) = comes (cells_of_class source c) o s y.0 y.1 h
      by (p ∷ todo) = h

  told : (source : Source) (given : Answer) (s : State) → Named here sure serials s → Brings source here serials s given → Named here sure serials (answered source given s)
  told source (answer.Object o) s h b = pushed _ _ tt (brought source o s b h)
  told source (answer.Number n) s h b = pushed _ s tt h
  told source (answer.Value n failed) s h b = pushed _ s tt h
  told source (answer.Clause k failed) s h b = pushed _ _ tt (pushed _ s tt h)
  told source (answer.Event n x y) s h b = pushed _ _ tt (pushed _ _ tt (pushed _ s tt h))
  told source answer.Nothing s h b = pushed _ _ tt (pushed _ _ tt (pushed _ s tt h))
  told source answer.Go s h b = h

-- a task begins

abbrev exec_of : Home → ℕ → Exec
exec_of h k = record { home = h; serial = k }

abbrev no_ex : Option Ex
no_ex = None

abbrev first_house : Members
first_house = record { values = []; serial = 1; parked = (0, None) ∷ [] }

begins : (here : Home → Bool) (serials : Home → ℕ) (r : Routine) (o : ℕ) → serials (home.Task o) ≡ 1 → here (home.Task o) ≡ true → Named here true serials (first_state r o)
begins here serials r o one i = record {
  names = record {
    run_named = record { operands_named = tt; this_named = tt; result_named = tt };
    callers_named = tt;
    env_named = record {
      frames_named = (named_noughts serials r.cells, tt);
      links_named = record { starter_below = tt; resumer_below = tt; destroyer_below = tt };
      exec_below = omega (arith, one);
      members_named = members;
      away = away;
    };
  };
  runs = record { alone = λ u m. alone m; there = λ u. ap (slot_in 0) own };
}
  where
    own : members_at (home.Task o) (first_state r o).env ≡ Some first_house
    own = ap (λ b. if b then Some first_house else None) (eq-eqb o o refl)

    new : MembersNamed serials (home.Task o) first_house
    new = record { values_named = tt; parked_named = (omega arith, tt, tt); apart = (refl, tt); serial_is = sym one }

    members : (k : Home) (m : Members) → members_at k (first_state r o).env ≡ Some m → MembersNamed serials k m
    members (home.Task t) m e = by (nat_eq t o) refl e
      where
        by : (b : Bool) → nat_eq t o ≡ b → (if b then Some first_house else None) ≡ Some m → MembersNamed serials (home.Task t) m
        by true g e = subst (λ k. MembersNamed serials (home.Task k) m) (sym (eqb-true t o g)) (subst (MembersNamed serials (home.Task o)) (the_same _ m e) new)
        by false g e = cc
    members (home.Object q) m e = cc

    away : (k : Home) → here k ≡ false → members_at k (first_state r o).env ≡ None
    away (home.Task t) e = by (nat_eq t o) refl
      where
        by : (b : Bool) → nat_eq t o ≡ b → (if b then Some first_house else None) ≡ None
        by true g = no_both (here (home.Task o)) i (ap (λ k. here (home.Task k)) (sym (eqb-true t o g)) ∙ e)
        by false g = refl
    away (home.Object q) e = refl

    alone : (m : Exec) → slot_at m (first_state r o).env ≡ Some None → m ≡ exec_of (home.Task o) 0
    alone m e = at m.home m.serial e
      where
        at : (k : Home) (x : ℕ) → slot_in x (members_at k (first_state r o).env) ≡ Some None → exec_of k x ≡ exec_of (home.Task o) 0
        at (home.Task t) x e = by (nat_eq t o) refl e
          where
            same : (y : ℕ) → t ≡ o → slot_in y (Some first_house) ≡ Some None → exec_of (home.Task t) y ≡ exec_of (home.Task o) 0
            same y g e = first (nat_eq 0 y) refl
              where
                first : (b : Bool) → nat_eq 0 y ≡ b → exec_of (home.Task t) y ≡ exec_of (home.Task o) 0
                first true f = ap (exec_of (home.Task t)) (sym (eqb-true 0 y f)) ∙ ap (λ k. exec_of (home.Task k) 0) g
                first false f =
                    let none : slot_in y (Some first_house) ≡ None = ap (λ (b : Bool). if b then Some no_ex else None) f in
                    none_some no_ex (slot_in y (Some first_house)) none e

            by : (b : Bool) → nat_eq t o ≡ b → slot_in x (if b then Some first_house else None) ≡ Some None → exec_of (home.Task t) x ≡ exec_of (home.Task o) 0
            by true g e = same x (eqb-true t o g) e
            by false g e = cc
        at (home.Object q) x e = cc

pub law_told : LawTold
law_told = record { told = λ source here sure serials given s h b. told here sure serials source given s h b; begins = begins }
