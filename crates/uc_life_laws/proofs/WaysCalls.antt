-- Clean-ups come by quiet steps to where the scope opens in which an execution is ended.
use Rattle.std.proofs.Common.{◌≡◌, ℕ, suc, ◌<◌, inl, inr, Bool, true, false, pos, List, [], ◌∷◌, drop, Some, None, refl, sym, subst}
use Rattle.std.specs.Prelude.{nat_lt, slice_get, if◌then◌else◌}
use Rattle.uc_tree.specs.declared.limits.TheConstants.{CALLS}
use Rattle.uc_entry.specs.declared.fault.RunFault.TheVariants.{Depth}
use Rattle.uc_machine.specs.Executions as exec
use Rattle.std.proofs.Common.{length}
use Rattle.uc_tree.specs.Source as src
use Rattle.uc_tree.specs.Source.{Source, Shape, Expr, CleanUp, Stmts, Routine, Purpose}
use Rattle.uc_machine.specs.declared.exec.Exec.{Exec}
use Rattle.uc_machine.specs.declared.exec.Owner.TheVariants.{Frame}
use Rattle.uc_machine.specs.Quiet as quiet
use Rattle.uc_machine.specs.Pieces as piece
use Rattle.uc_machine.specs.Pieces.{Slot, FieldAt, At, Value, Number, Place, Todo, Active, State, Env, Step, Goes, top, further, index_in}
use Rattle.uc_life_laws.specs.Placed.{Placed, placed, stacked, Ends, behind}
use Rattle.uc_life_laws.specs.Destroying.{IsScoped, calling_at, Destroying, Seat, IsLast, itself, field, element, mutex, mutexes, AtPlace, EndsAt, AtElement, EndsElement, CleansUp}
use Rattle.uc_life_laws.specs.Held.{Onwards, SoonIn, Soon}

module _ (source : Source) (w : Seat) (ps : List Placed) (n : Exec) where
  -- how many scopes open up to this one
  abbrev pub depth : (c : CleanUp) (ss : Stmts) → IsScoped c ss → ℕ
  depth c (src.Scoped d rest) (inl e) = 1
  depth c (src.Scoped d rest) (inr h) = suc (depth c rest h)
  depth c ss h = absurd h

  -- it opens
  opens : (c : CleanUp) (ss : Stmts) (h : IsScoped c ss) (b : Active) (cs : List Active) (todo : List Todo) → CleansUp source w n b.frame b.this c → Ends ps (placed b.frame b.this todo (stacked cs)) → SoonIn source w ps n (depth c ss h) (record b { control = piece.Rest ss ∷ todo }) cs
  opens c (src.Scoped d rest) (inl e) b cs todo k o = (tt, o, λ v q. (q, inl (subst (CleansUp source w n b.frame b.this) (sym e) k, o)))
  opens c (src.Scoped d rest) (inr h) b cs todo k o = (tt, o, λ v q. (q, opens c rest h b cs (piece.Clean d ∷ todo) k (behind o)))
  opens c ss h b cs todo k o = absurd h

  -- the body of such a destructor
  pub record Start (r : ℕ) (v : Value) : Type 0 where
    pub routine : Routine
    pub known : slice_get source.routines r ≡ Some routine
    pub params : routine.params ≡ 0
    pub clean : CleanUp
    pub scoped : IsScoped clean routine.body
    pub cleans : (f : ℕ) → CleansUp source w n f v clean

  at_written : (b : Bool) (d f : ℕ) (v : Value) (h : Shape) (i : ℕ) → Destroying source w d (further (FieldAt h i) v) → EndsAt source w n f v (calling_at b d (src.OfObject (src.OwnField h i)))
  at_written true d f v h i k = k
  at_written false d f v h i k = k

  each_written : (b : Bool) (d f : ℕ) (v : Value) (h : Shape) (i m j : ℕ) (s : Shape) → j < m → Destroying source w d (further (At s j) (further (FieldAt h i) v)) → EndsElement source w n f v j (calling_at b d (src.Element m s (src.OfObject (src.OwnField h i)) (src.OfObject src.Counted)))
  each_written true d f v h i m j s l k = (l, k)
  each_written false d f v h i m j s l k = (l, k)

  last_cleans : (c : CleanUp) → IsLast w.task c → (f : ℕ) → CleansUp source w n f w.place c
  last_cleans src.Forgets l f = (l, refl)
  last_cleans src.Ends l f = (l, refl)
  last_cleans c l f = absurd l

  pub starts : {r : ℕ} {v : Value} → Destroying source w r v → Start r v
  starts (itself x e p c l h) = record { routine = x; known = e; params = p; clean = c; scoped = h; cleans = last_cleans c l }
  starts {r} {v} (mutex {d = d} x e p h i m b s q k) = record { routine = x; known = e; params = p; clean = src.Destroys (src.OfObject (src.EndOn d b (src.Load (src.OfObject (src.OwnField h i))))); scoped = s; cleans = λ f. (m, q, k) }
  starts {r} {v} (field {d = d} x e p h i b s k) = record { routine = x; known = e; params = p; clean = src.Destroys (calling_at b d (src.OfObject (src.OwnField h i))); scoped = s; cleans = λ f. at_written b d f v h i k }
  starts {r} {v} (element {d = d} x e p h i m j z b l s k) = record { routine = x; known = e; params = p; clean = src.DestroysAll m (calling_at b d (src.Element m z (src.OfObject (src.OwnField h i)) (src.OfObject src.Counted))); scoped = s; cleans = λ f. (j, l, each_written b d f v h i m j z l k) }
  starts {r} {v} (mutexes {d = d} x e p h i m j o z b l s q k) = record { routine = x; known = e; params = p; clean = src.DestroysAll m (src.OfObject (src.EndOn d b (src.Load (src.Element m z (src.OfObject (src.OwnField h i)) (src.OfObject src.Counted))))); scoped = s; cleans = λ f. (j, l, (l, (o, q, k))) }

  no_marks : (p : Purpose) (line f : ℕ) (v : Value) (qs : List Placed) → Ends ps qs → Ends ps (placed f v (quiet.behind_body p line) qs)
  no_marks src.TaskMain line f v qs h = h
  no_marks src.CoroutineMain line f v qs h = h
  no_marks src.Procedure line f v qs h = h
  no_marks src.Function line f v qs h = h
  no_marks src.Builder line f v qs h = h

  -- of activations like this one, with something else to do
  module _ (b : Active) (cs : List Active) (todo : List Todo) (o : Ends ps (placed b.frame b.this todo (stacked cs))) where
    abbrev With : List Todo → List Value → Active
    With l vs = record b { control = l; operands = vs }

    -- the destructor begins
    module _ (r : ℕ) (v : Value) (h : Start r v) (vs : List Value) where
      abbrev Many : ℕ
      Many = depth h.clean h.routine.body h.scoped

      begins : (counts : Bool) (e : Env) → e.exec ≡ n → Onwards source w ps n (λ u. SoonIn source w ps n (depth h.clean h.routine.body h.scoped) u.run u.callers) (SoonIn source w ps n (depth h.clean h.routine.body h.scoped)) (quiet.begun_step h.routine (top (drop h.routine.params (v ∷ vs))) counts todo (piece.below (drop h.routine.params (v ∷ vs))) (record { run = With (piece.CallOnNow r ∷ todo) (v ∷ vs); callers = cs; env = e }))
      begins counts e q =
          (q, subst (λ m. SoonIn source w ps n (depth h.clean h.routine.body h.scoped) (exec.begun (quiet.routine_todo h.routine) (top (drop m (v ∷ vs))) (length e.frames) piece.Nothing counts) (record b { control = todo; operands = piece.below (drop h.routine.params (v ∷ vs)) } ∷ cs)) (sym h.params) (opens h.clean h.routine.body h.scoped (exec.begun (quiet.routine_todo h.routine) v (length e.frames) piece.Nothing counts) (record b { control = todo; operands = piece.below (drop h.routine.params (v ∷ vs)) } ∷ cs) (quiet.behind_body h.routine.purpose h.routine.line) (h.cleans (length e.frames)) (no_marks h.routine.purpose h.routine.line (length e.frames) v _ o)))

      -- it is called, one that somebody wrote or another
      pub called : SoonIn source w ps n (suc (depth h.clean h.routine.body h.scoped)) (With (piece.CallOnNow r ∷ todo) (v ∷ vs)) cs
      called = (tt, o, λ e q. subst (λ x. Onwards source w ps n (λ u. SoonIn source w ps n (depth h.clean h.routine.body h.scoped) u.run u.callers) (SoonIn source w ps n (depth h.clean h.routine.body h.scoped)) (quiet.call_on_step x todo (record { run = With (piece.CallOnNow r ∷ todo) (v ∷ vs); callers = cs; env = e }))) (sym h.known) (by e q (nat_lt e.links.calls CALLS)))
        where
          by : (e : Env) → e.exec ≡ n → (c : Bool) → Onwards source w ps n (λ u. SoonIn source w ps n (depth h.clean h.routine.body h.scoped) u.run u.callers) (SoonIn source w ps n (depth h.clean h.routine.body h.scoped)) (if c then quiet.begun_step h.routine (top (drop h.routine.params (v ∷ vs))) true todo (piece.below (drop h.routine.params (v ∷ vs))) (record { run = With (piece.CallOnNow r ∷ todo) (v ∷ vs); callers = cs; env = e }) else piece.fault Depth todo (v ∷ vs) (record { run = With (piece.CallOnNow r ∷ todo) (v ∷ vs); callers = cs; env = e }))
          by e q true = begins true e q
          by e q false = tt

      pub unwritten : SoonIn source w ps n (suc (depth h.clean h.routine.body h.scoped)) (With (piece.CallUnwrittenNow r ∷ todo) (v ∷ vs)) cs
      unwritten = (tt, o, λ e q. subst (λ x. Onwards source w ps n (λ u. SoonIn source w ps n (depth h.clean h.routine.body h.scoped) u.run u.callers) (SoonIn source w ps n (depth h.clean h.routine.body h.scoped)) (quiet.call_unwritten_step x todo (record { run = With (piece.CallUnwrittenNow r ∷ todo) (v ∷ vs); callers = cs; env = e }))) (sym h.known) (begins false e q))

    -- a variable or a field of the object at hand is found
    abbrev IsAt : Expr → Value → Type 0
    IsAt (src.Variable k) v = v ≡ Place (Frame n b.frame) (Slot k ∷ [])
    IsAt (src.OfObject (src.OwnField h i)) v = v ≡ further (FieldAt h i) b.this
    IsAt e v = ⊥

    at_place : (P : Value → Type 0) (p : Expr) → AtPlace source w n b.frame b.this P p → (v : Value) × IsAt p v × P v
    at_place P (src.Variable k) h = (Place (Frame n b.frame) (Slot k ∷ []), refl, h)
    at_place P (src.OfObject (src.OwnField z i)) h = (further (FieldAt z i) b.this, refl, h)
    at_place P e h = absurd h

    module _ (rest : List Todo) (l : Ends ps (placed b.frame b.this rest (stacked cs))) (vs : List Value) where
      found : (p : Expr) (v : Value) (k : ℕ) → IsAt p v → SoonIn source w ps n k (With rest (v ∷ vs)) cs → SoonIn source w ps n (suc k) (With (piece.Eval p ∷ rest) vs) cs
      found (src.Variable c) v k i g =
          (tt, l, λ e q. (q, subst (λ m. SoonIn source w ps n k (With rest (Place (Frame m b.frame) (Slot c ∷ []) ∷ vs)) cs) (sym q) (subst (λ u. SoonIn source w ps n k (With rest (u ∷ vs)) cs) i g)))
      found (src.OfObject (src.OwnField z j)) v k i g =
          (tt, l, λ e q. (q, subst (λ u. SoonIn source w ps n k (With rest (u ∷ vs)) cs) i g))
      found p v k i g = absurd i

      -- the element of an array
      indexed : (m : ℕ) (z : Shape) (v : Value) (k : ℕ) → SoonIn source w ps n k (With rest (further (At z b.elements) v ∷ vs)) cs → SoonIn source w ps n (suc k) (With (piece.ElementNow m z ∷ rest) (Number (pos b.elements) ∷ (v ∷ vs))) cs
      indexed m z v k g = (tt, l, λ e q. by e q (nat_lt b.elements m))
        where
          by : (e : Env) → e.exec ≡ n → (c : Bool) → Onwards source w ps n (λ u. SoonIn source w ps n k u.run u.callers) (SoonIn source w ps n k) (piece.element_step z (if c then Some b.elements else None) rest v vs (record { run = With (piece.ElementNow m z ∷ rest) (Number (pos b.elements) ∷ (v ∷ vs)); callers = cs; env = e }))
          by e q true = (q, g)
          by e q false = tt

      counted : (m : ℕ) (z : Shape) (v : Value) (k : ℕ) → SoonIn source w ps n k (With rest (further (At z b.elements) v ∷ vs)) cs → SoonIn source w ps n (suc (suc k)) (With (piece.Eval (src.OfObject src.Counted) ∷ (piece.ElementNow m z ∷ rest)) (v ∷ vs)) cs
      counted m z v k g = (tt, l, λ e q. (q, indexed m z v k g))

    -- what a clean-up evaluates: a destructor is called at what is found
    by_call : (d : ℕ) (p : Expr) (vs : List Value) (v : Value) → Destroying source w d v → ((rest : List Todo) → Ends ps (placed b.frame b.this rest (stacked cs)) → (k : ℕ) → SoonIn source w ps n k (With rest (v ∷ vs)) cs → Soon source w ps n (With (piece.Eval p ∷ rest) vs) cs) → Soon source w ps n (With (piece.Eval (src.OfObject (src.CallOn d p src.NoExprs)) ∷ todo) vs) cs
    by_call d p vs v h g =
        let x : Soon source w ps n (With (piece.Eval p ∷ (piece.Arguments src.NoExprs ∷ (piece.TickNow ∷ (piece.CallOnNow d ∷ todo)))) vs) cs = g (piece.Arguments src.NoExprs ∷ (piece.TickNow ∷ (piece.CallOnNow d ∷ todo))) o (suc (suc (suc (depth (starts h).clean (starts h).routine.body (starts h).scoped)))) (tt, o, λ e q. (q, (tt, o, λ e q. (q, called d v (starts h) vs)))) in
        (suc x.0, (tt, o, λ e q. (q, x.1)))

    by_unwritten : (d : ℕ) (p : Expr) (vs : List Value) (v : Value) → Destroying source w d v → ((rest : List Todo) → Ends ps (placed b.frame b.this rest (stacked cs)) → (k : ℕ) → SoonIn source w ps n k (With rest (v ∷ vs)) cs → Soon source w ps n (With (piece.Eval p ∷ rest) vs) cs) → Soon source w ps n (With (piece.Eval (src.OfObject (src.CallUnwritten d p)) ∷ todo) vs) cs
    by_unwritten d p vs v h g =
        let x : Soon source w ps n (With (piece.Eval p ∷ (piece.CallUnwrittenNow d ∷ todo)) vs) cs = g (piece.CallUnwrittenNow d ∷ todo) o (suc (depth (starts h).clean (starts h).routine.body (starts h).scoped)) (unwritten d v (starts h) vs) in
        (suc x.0, (tt, o, λ e q. (q, x.1)))

    find_place : (p : Expr) (v : Value) (vs : List Value) → IsAt p v → (rest : List Todo) → Ends ps (placed b.frame b.this rest (stacked cs)) → (k : ℕ) → SoonIn source w ps n k (With rest (v ∷ vs)) cs → Soon source w ps n (With (piece.Eval p ∷ rest) vs) cs
    find_place p v vs i rest l k g = (suc k, found rest l vs p v k i g)

    pub ends_call : (d : ℕ) (p : Expr) (vs : List Value) → AtPlace source w n b.frame b.this (Destroying source w d) p → Soon source w ps n (With (piece.Eval (src.OfObject (src.CallOn d p src.NoExprs)) ∷ todo) vs) cs
    ends_call d p vs h =
        let x = at_place (Destroying source w d) p h in
        by_call d p vs x.0 x.2 (find_place p x.0 vs x.1)

    pub ends_unwritten : (d : ℕ) (p : Expr) (vs : List Value) → AtPlace source w n b.frame b.this (Destroying source w d) p → Soon source w ps n (With (piece.Eval (src.OfObject (src.CallUnwritten d p)) ∷ todo) vs) cs
    ends_unwritten d p vs h =
        let x = at_place (Destroying source w d) p h in
        by_unwritten d p vs x.0 x.2 (find_place p x.0 vs x.1)

    -- so is one at the element that is counted
    find_element : (m : ℕ) (z : Shape) (p : Expr) (v : Value) (vs : List Value) → IsAt p v → (rest : List Todo) → Ends ps (placed b.frame b.this rest (stacked cs)) → (k : ℕ) → SoonIn source w ps n k (With rest (further (At z b.elements) v ∷ vs)) cs → Soon source w ps n (With (piece.Eval (src.Element m z p (src.OfObject src.Counted)) ∷ rest) vs) cs
    find_element m z p v vs i rest l k g =
        (suc (suc (suc (suc k))), (tt, l, λ e q. (q, found (piece.Eval (src.OfObject src.Counted) ∷ (piece.ElementNow m z ∷ rest)) l vs p v (suc (suc k)) i (counted rest l vs m z v k g))))

    by_element : (d : ℕ) (p : Expr) (P : Expr → Expr) → AtElement source w n b.frame b.this (Destroying source w d) b.elements p → (vs : List Value) → ((v : Value) → Destroying source w d v → ((rest : List Todo) → Ends ps (placed b.frame b.this rest (stacked cs)) → (k : ℕ) → SoonIn source w ps n k (With rest (v ∷ vs)) cs → Soon source w ps n (With (piece.Eval p ∷ rest) vs) cs) → Soon source w ps n (With (piece.Eval (P p) ∷ todo) vs) cs) → Soon source w ps n (With (piece.Eval (P p) ∷ todo) vs) cs
    by_element d (src.Element m z p (src.OfObject src.Counted)) P h vs g =
        let x = at_place (λ v. Destroying source w d (further (At z b.elements) v)) p h.1 in
        g (further (At z b.elements) x.0) x.2 (find_element m z p x.0 vs x.1)
    by_element d p P h vs g = absurd h

    pub element_call : (d : ℕ) (p : Expr) (vs : List Value) → AtElement source w n b.frame b.this (Destroying source w d) b.elements p → Soon source w ps n (With (piece.Eval (src.OfObject (src.CallOn d p src.NoExprs)) ∷ todo) vs) cs
    element_call d p vs h = by_element d p (λ p. src.OfObject (src.CallOn d p src.NoExprs)) h vs (λ v k g. by_call d p vs v k g)

    pub element_unwritten : (d : ℕ) (p : Expr) (vs : List Value) → AtElement source w n b.frame b.this (Destroying source w d) b.elements p → Soon source w ps n (With (piece.Eval (src.OfObject (src.CallUnwritten d p)) ∷ todo) vs) cs
    element_unwritten d p vs h = by_element d p (λ p. src.OfObject (src.CallUnwritten d p)) h vs (λ v k g. by_unwritten d p vs v k g)
