-- Clean-ups come by quiet steps to where the scope opens in which an execution is ended, where the object is read that is destroyed.
use Rattle.std.proofs.Common.{◌≡◌, ℕ, suc, ◌<◌, inl, Bool, true, false, pos, List, [], ◌∷◌, drop, Option, Some, None, refl, sym, subst}
use Rattle.std.specs.Prelude.{nat_lt, if◌then◌else◌}
use Rattle.uc_tree.specs.declared.limits.TheConstants.{DESTRUCTOR}
use Rattle.uc_entry.specs.Keyed.{find}
use Rattle.uc_tree.specs.Source as src
use Rattle.uc_tree.specs.Source.{Source, Shape, Expr}
use Rattle.uc_machine.specs.declared.exec.Exec.{Exec}
use Rattle.uc_machine.specs.declared.exec.Owner.TheVariants.{Frame}
use Rattle.uc_machine.specs.Monitors as monitors
use Rattle.uc_machine.specs.Quiet as quiet
use Rattle.uc_machine.specs.Pieces as piece
use Rattle.uc_machine.specs.Pieces.{Slot, FieldAt, At, Value, Number, Place, Object, Todo, Active, State, Env, at, further, loaded, object_in, top}
use Rattle.uc_life_laws.specs.Placed.{placed, stacked, Ends}
use Rattle.uc_life_laws.specs.Destroying.{Seat, Destroying, DestroyingAt, AtElement, EndsAt, EndsElement}
use Rattle.uc_life_laws.specs.Held.{Seating, Onwards, SoonIn, Soon, SoonFrom, SoonHere}
use Rattle.uc_life_laws.specs.Ways.{ReadsEnded, ReadsLast}
use Rattle.uc_life_laws.proofs.Cells.{either}
use Rattle.uc_life_laws.proofs.WaysCalls as calls
use Rattle.uc_life_laws.proofs.WaysCalls.{Start, starts, depth}

module _ (source : Source) (seats : Seating) (up : Exec → Bool) (x : Exec) where
  abbrev W : Seat
  W = seats.seat x

  module _ (s : State) (todo : List Todo) (out : Ends (seats.before x) (placed s.run.frame s.run.this todo (stacked s.callers))) where
    abbrev With : List Todo → List Value → Active
    With l vs = record s.run { control = l; operands = vs }

    -- so many steps lead there, whatever else there is in the task, or from a state like this one
    abbrev In : ℕ → List Todo → List Value → Type 0
    In k l vs = SoonIn source W (seats.before x) s.env.exec k (With l vs) s.callers

    abbrev From : ℕ → List Todo → List Value → Type 0
    From k l vs = SoonFrom source W (seats.before x) s.env.exec k (at l vs s)

    abbrev Onto : ℕ → piece.Step → Type 0
    Onto k step = Onwards source W (seats.before x) s.env.exec (λ u. SoonIn source W (seats.before x) s.env.exec k u.run u.callers) (SoonIn source W (seats.before x) s.env.exec k) step

    -- the object is entered, whether it is asked or not
    module _ (d : ℕ) (rest : List Todo) (k : ℕ) (vs : List Value) (g : In k rest vs) where
      abbrev There : Env → State
      There e = record { run = With (piece.EnterNow DESTRUCTOR d ∷ rest) vs; callers = s.callers; env = e }

      enters : (e : Env) → e.exec ≡ s.env.exec → (o : ℕ) (m : Option ℕ) → Onto k (monitors.enter_at m o DESTRUCTOR rest (There e))
      enters e q o (Some m) = (q, g)
      enters e q o None = (refl, q, g)

      entered : (v : Value) → Start source W (seats.before x) s.env.exec d v → Ends (seats.before x) (placed s.run.frame s.run.this rest (stacked s.callers)) → In (suc k) (piece.EnterNow DESTRUCTOR d ∷ rest) vs
      entered v h l =
          (tt, l, λ e q. subst (λ r. Onto k (monitors.enter_step DESTRUCTOR r rest (There e))) (sym h.known) (either (Onto k) (monitors.may_call h.routine.written (There e)) _ _ (enters e q (object_in (top (drop h.routine.params vs))) (find (object_in (top (drop h.routine.params vs))) e.depths)) tt))

    -- what is left to do behind the reading of the object, by whether somebody wrote the destructor
    abbrev behind : Bool → ℕ → List Todo
    behind true d = piece.TickNow ∷ (piece.EnterNow DESTRUCTOR d ∷ (piece.CallOnNow d ∷ todo))
    behind false d = piece.EnterNow DESTRUCTOR d ∷ (piece.CallUnwrittenNow d ∷ todo)

    outer : (b : Bool) (d : ℕ) → Ends (seats.before x) (placed s.run.frame s.run.this (behind b d) (stacked s.callers))
    outer true d = out
    outer false d = out

    called : (b : Bool) (d o : ℕ) (vs : List Value) → Destroying source W d (Object o) → Soon source W (seats.before x) s.env.exec (With (behind b d) (Object o ∷ vs)) s.callers
    called true d o vs h =
        let k : Start source W (seats.before x) s.env.exec d (Object o) = starts source W (seats.before x) s.env.exec h in
        (suc (suc (suc (depth source W (seats.before x) s.env.exec k.clean k.routine.body k.scoped))), (tt, out, λ e q. (q, entered d (piece.CallOnNow d ∷ todo) (suc (depth source W (seats.before x) s.env.exec k.clean k.routine.body k.scoped)) (Object o ∷ vs) (calls.called source W (seats.before x) s.env.exec s.run s.callers todo out d (Object o) k vs) (Object o) k out)))
    called false d o vs h =
        let k : Start source W (seats.before x) s.env.exec d (Object o) = starts source W (seats.before x) s.env.exec h in
        (suc (suc (depth source W (seats.before x) s.env.exec k.clean k.routine.body k.scoped)), entered d (piece.CallUnwrittenNow d ∷ todo) (suc (depth source W (seats.before x) s.env.exec k.clean k.routine.body k.scoped)) (Object o ∷ vs) (calls.unwritten source W (seats.before x) s.env.exec s.run s.callers todo out d (Object o) k vs) (Object o) k out)

    module _ (b : Bool) (d o : ℕ) (h : Destroying source W d (Object o)) (vs : List Value) where
      -- it is read
      reads : (v : Value) → loaded v s.env ≡ Object o → From 1 (piece.LoadNow ∷ behind b d) (v ∷ vs)
      reads v e = (tt, outer b d, (refl, subst (λ z. Soon source W (seats.before x) s.env.exec (With (behind b d) (z ∷ vs)) s.callers) (sym e) (called b d o vs h)))

      at_variable : (c : ℕ) → loaded (Place (Frame s.env.exec s.run.frame) (Slot c ∷ [])) s.env ≡ Object o → From 2 (piece.Eval (src.Variable c) ∷ (piece.LoadNow ∷ behind b d)) vs
      at_variable c e = (tt, outer b d, (refl, reads (Place (Frame s.env.exec s.run.frame) (Slot c ∷ [])) e))

      at_field : (z : Shape) (i : ℕ) → loaded (further (FieldAt z i) s.run.this) s.env ≡ Object o → From 2 (piece.Eval (src.OfObject (src.OwnField z i)) ∷ (piece.LoadNow ∷ behind b d)) vs
      at_field z i e = (tt, outer b d, (refl, reads (further (FieldAt z i) s.run.this) e))

      -- at the element that is counted
      module _ (m : ℕ) (z : Shape) where
        indexed : (v : Value) → loaded (further (At z s.run.elements) v) s.env ≡ Object o → From 2 (piece.ElementNow m z ∷ (piece.LoadNow ∷ behind b d)) (Number (pos s.run.elements) ∷ (v ∷ vs))
        indexed v e = (tt, outer b d, by (nat_lt s.run.elements m))
          where
            by : (c : Bool) → Onwards source W (seats.before x) s.env.exec (SoonFrom source W (seats.before x) s.env.exec 1) (Soon source W (seats.before x) s.env.exec) (piece.element_step z (if c then Some s.run.elements else None) (piece.LoadNow ∷ behind b d) v vs (at (piece.ElementNow m z ∷ (piece.LoadNow ∷ behind b d)) (Number (pos s.run.elements) ∷ (v ∷ vs)) s))
            by true = (refl, reads (further (At z s.run.elements) v) e)
            by false = tt

        counted : (v : Value) → loaded (further (At z s.run.elements) v) s.env ≡ Object o → From 3 (piece.Eval (src.OfObject src.Counted) ∷ (piece.ElementNow m z ∷ (piece.LoadNow ∷ behind b d))) (v ∷ vs)
        counted v e = (tt, outer b d, (refl, indexed v e))

        of_variable : (c : ℕ) → loaded (further (At z s.run.elements) (Place (Frame s.env.exec s.run.frame) (Slot c ∷ []))) s.env ≡ Object o → From 5 (piece.Eval (src.Element m z (src.Variable c) (src.OfObject src.Counted)) ∷ (piece.LoadNow ∷ behind b d)) vs
        of_variable c e = (tt, outer b d, (refl, (tt, outer b d, (refl, counted (Place (Frame s.env.exec s.run.frame) (Slot c ∷ [])) e))))

        of_field : (y : Shape) (i : ℕ) → loaded (further (At z s.run.elements) (further (FieldAt y i) s.run.this)) s.env ≡ Object o → From 5 (piece.Eval (src.Element m z (src.OfObject (src.OwnField y i)) (src.OfObject src.Counted)) ∷ (piece.LoadNow ∷ behind b d)) vs
        of_field y i e = (tt, outer b d, (refl, (tt, outer b d, (refl, counted (further (FieldAt y i) s.run.this) e))))

    -- where it stands is evaluated next
    begins : (b : Bool) (d : ℕ) (p : Expr) (vs : List Value) (k : ℕ) → From k (piece.Eval p ∷ (piece.LoadNow ∷ behind b d)) vs → From (suc (suc k)) (piece.Eval (src.OfObject (src.EndOn d b (src.Load p))) ∷ todo) vs
    begins true d p vs k g = (tt, out, (refl, (tt, out, (refl, g))))
    begins false d p vs k g = (tt, out, (refl, (tt, out, (refl, g))))

    pub ends_at : (e : Expr) (vs : List Value) → EndsAt source W s.env.exec s.run.frame s.run.this e → ReadsEnded source seats up x e s → SoonHere source W (seats.before x) s.env.exec (at (piece.Eval e ∷ todo) vs s)
    ends_at (src.OfObject (src.CallOn d p src.NoExprs)) vs h g = inl (0, calls.ends_call source W (seats.before x) s.env.exec s.run s.callers todo out d p vs h)
    ends_at (src.OfObject (src.CallUnwritten d p)) vs h g = inl (0, calls.ends_unwritten source W (seats.before x) s.env.exec s.run s.callers todo out d p vs h)
    ends_at (src.OfObject (src.EndOn d b (src.Load (src.Variable c)))) vs h g =
        inl (4, begins b d (src.Variable c) vs 2 (at_variable b d h.0 h.2 vs c (g h.0 h.1 h.2)))
    ends_at (src.OfObject (src.EndOn d b (src.Load (src.OfObject (src.OwnField z i))))) vs h g =
        inl (4, begins b d (src.OfObject (src.OwnField z i)) vs 2 (at_field b d h.0 h.2 vs z i (g h.0 h.1 h.2)))
    ends_at e vs h g = absurd h

    end_element : (b : Bool) (d : ℕ) (p : Expr) (vs : List Value) → AtElement source W s.env.exec s.run.frame s.run.this (DestroyingAt source W d) s.run.elements p → ((o : ℕ) → AtElement source W s.env.exec s.run.frame s.run.this (λ v. W.home o ≡ v) s.run.elements p → Destroying source W d (Object o) → AtElement source W s.env.exec s.run.frame s.run.this (λ v. loaded v s.env ≡ Object o) s.run.elements p) → SoonHere source W (seats.before x) s.env.exec (at (piece.Eval (src.OfObject (src.EndOn d b (src.Load p))) ∷ todo) vs s)
    end_element b d (src.Element m z (src.Variable c) (src.OfObject src.Counted)) vs h g =
        inl (7, begins b d (src.Element m z (src.Variable c) (src.OfObject src.Counted)) vs 5 (of_variable b d h.1.0 h.1.2 vs m z c (g h.1.0 (h.0, h.1.1) h.1.2).1))
    end_element b d (src.Element m z (src.OfObject (src.OwnField y i)) (src.OfObject src.Counted)) vs h g =
        inl (7, begins b d (src.Element m z (src.OfObject (src.OwnField y i)) (src.OfObject src.Counted)) vs 5 (of_field b d h.1.0 h.1.2 vs m z y i (g h.1.0 (h.0, h.1.1) h.1.2).1))
    end_element b d (src.Element m z p (src.OfObject src.Counted)) vs h g = absurd h.1
    end_element b d p vs h g = absurd h

  -- the last element that stands is destroyed, and stands no more as that begins
  pub ends_element : (s : State) (todo : List Todo) (out : Ends (seats.before x) (placed s.run.frame s.run.this todo (stacked s.callers))) (e : Expr) (m : ℕ) → s.run.elements ≡ suc m → EndsElement source W s.env.exec s.run.frame s.run.this m e → ReadsLast source seats up x e s → SoonHere source W (seats.before x) s.env.exec (at (piece.Eval e ∷ todo) s.run.operands (quiet.with_elements m s))
  ends_element s todo out (src.OfObject (src.CallOn d p src.NoExprs)) m i h g = inl (0, calls.element_call source W (seats.before x) s.env.exec (record s.run { elements = m }) s.callers todo out d p s.run.operands h)
  ends_element s todo out (src.OfObject (src.CallUnwritten d p)) m i h g = inl (0, calls.element_unwritten source W (seats.before x) s.env.exec (record s.run { elements = m }) s.callers todo out d p s.run.operands h)
  ends_element s todo out (src.OfObject (src.EndOn d b (src.Load p))) m i h g = end_element (quiet.with_elements m s) todo out b d p s.run.operands h (g m i)
  ends_element s todo out e m i h g = absurd h
