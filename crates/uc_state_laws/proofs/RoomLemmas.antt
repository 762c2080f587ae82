-- What keeps to a room keeps to a wider one, and what is evaluated in it may be evaluated in that.
use Rattle.std.proofs.Common.{ℕ, ◌≤◌, List, [], ◌∷◌, arith}
use Rattle.uc_tree.specs.Source as src
use Rattle.uc_tree.specs.Source.{Expr, Exprs, ObjectExpr, Stmt, Stmts, EventStmt, TaskStmt, Handlers, Clauses, CleanUp, Declared, Raised}
use Rattle.uc_state_laws.specs.Clusters.{Joined}
use Rattle.uc_state_laws.specs.Ordinary.{Ordinary, IsNew, IsOwn, IsGiven, Evaluated}
use Rattle.uc_state_laws.specs.Rooms.{Room, IsRoom, IsWithin, LiesAt, LiesIn, Destroyed, Lies, Keeps, Holds, OwnAt, OwnIn, DeclaredIn, RaisedIn, StmtIn, StmtsIn, EventIn, TaskIn, ClausesIn}

-- expressions

pub new_ordinary : (low : ℕ) (e : Expr) → IsNew low e → Ordinary e
new_ordinary low (src.Variable k) h = tt
new_ordinary low (src.Element n s e i) h = (new_ordinary low e h.0, h.1)
new_ordinary low (src.OfObject (src.OwnField s i)) h = tt
new_ordinary low e h = absurd h

pub ordinary_evaluated : (low : ℕ) (e : Expr) → Ordinary e → Evaluated low e
ordinary_evaluated low (src.OfObject (src.Bind p e)) h = absurd h
ordinary_evaluated low (src.OfObject (src.MakeOn c r written p args)) h = absurd h
ordinary_evaluated low (src.OfObject src.NewCluster) h = absurd h
ordinary_evaluated low (src.OfObject (src.NewProcessor e)) h = absurd h
ordinary_evaluated low (src.OfObject (src.EndOn r written e)) h = absurd h
ordinary_evaluated low (src.OfObject (src.EndCluster e)) h = absurd h
ordinary_evaluated low (src.OfObject (src.EndProcessor e)) h = absurd h
ordinary_evaluated low e h = h

pub ordinary_given : (p e : Expr) → IsOwn p → Ordinary e → IsGiven p e
ordinary_given p (src.OfObject src.NewCluster) o h = absurd h
ordinary_given p (src.OfObject (src.NewProcessor e)) o h = absurd h
ordinary_given p e o h = (o, h)

pub given_evaluated : (low : ℕ) (p e : Expr) → IsGiven p e → Evaluated low e
given_evaluated low p (src.OfObject src.NewCluster) h = tt
given_evaluated low p (src.OfObject (src.NewProcessor e)) h = h
given_evaluated low p e h = ordinary_evaluated low e h.1

new_wider : (low wide : ℕ) (e : Expr) → wide ≤ low → IsNew low e → IsNew wide e
new_wider low wide (src.Variable k) le h = omega (arith, le, h)
new_wider low wide (src.Element n s e i) le h = (new_wider low wide e le h.0, h.1)
new_wider low wide (src.OfObject (src.OwnField s i)) le h = tt
new_wider low wide e le h = absurd h

pub evaluated_wider : (low wide : ℕ) (e : Expr) → wide ≤ low → Evaluated low e → Evaluated wide e
evaluated_wider low wide (src.OfObject (src.Bind p e)) le h = (new_wider low wide p le h.0, h.1)
evaluated_wider low wide (src.OfObject (src.MakeOn c r written p args)) le h = (new_wider low wide p le h.0, h.1)
evaluated_wider low wide e le h = h

-- rooms

pub same_room : (o : Room) → o.low ≤ o.high → IsWithin o o
same_room o h = record { low = omega arith; cells = h; high = omega arith; hidden = omega arith; last = omega arith }

pub within_both : (a b c : Room) → IsWithin a b → IsWithin b c → IsWithin a c
within_both a b c p q =
    let pl = p.low in
    let ql = q.low in
    let ph = p.high in
    let qh = q.high in
    let pd = p.hidden in
    let qd = q.hidden in
    let pe = p.last in
    let qe = q.last in
    record { low = omega (arith, pl, ql); cells = q.cells; high = omega (arith, ph, qh); hidden = omega (arith, pd, qd); last = omega (arith, pe, qe) }

pub within_room : (m o : Room) → IsRoom m → IsWithin m o → IsRoom o
within_room m o r w =
    let a = r.apart in
    let h = w.high in
    let d = w.hidden in
    record { cells = w.cells; apart = omega (arith, a, h, d) }

module _ (Sized : ℕ → ℕ → Type 0) where
  -- clean-ups

  lies_at_ordinary : (low high count n : ℕ) (e : Expr) → LiesAt Sized low high count n e → Ordinary e
  lies_at_ordinary low high count n (src.Variable k) h = tt
  lies_at_ordinary low high count n (src.OfObject (src.OwnField s i)) h = tt
  lies_at_ordinary low high count n e h = absurd h

  lies_in_ordinary : (low high count n : ℕ) (e : Expr) → LiesIn Sized low high count n e → Ordinary e
  lies_in_ordinary low high count n (src.Element m s e (src.OfObject src.Counted)) h = (lies_at_ordinary low high count n e h.1, tt)
  lies_in_ordinary low high count n e h = absurd h

  destroyed_evaluated : (lies : ℕ → Expr → Type 0) → ((n : ℕ) (e : Expr) → lies n e → Ordinary e) → (low : ℕ) (e : Expr) → Destroyed Sized lies e → Evaluated low e
  destroyed_evaluated lies f low (src.OfObject (src.CallOn r e args)) h = (f h.0 e h.2, h.3)
  destroyed_evaluated lies f low (src.OfObject (src.CallUnwritten r e)) h = f h.0 e h.2
  destroyed_evaluated lies f low (src.OfObject (src.EndOn r written (src.Load e))) h = f 1 e h
  destroyed_evaluated lies f low (src.OfObject (src.EndCluster (src.Load e))) h = f 1 e h
  destroyed_evaluated lies f low (src.OfObject (src.EndProcessor (src.Load e))) h = f 1 e h
  destroyed_evaluated lies f low e h = absurd h

  pub single_evaluated : (low high at : ℕ) (e : Expr) → Destroyed Sized (LiesAt Sized low high 1) e → Evaluated at e
  single_evaluated low high at e h = destroyed_evaluated (LiesAt Sized low high 1) (lies_at_ordinary low high 1) at e h

  pub counted_evaluated : (low high count at : ℕ) (e : Expr) → Destroyed Sized (LiesIn Sized low high count) e → Evaluated at e
  counted_evaluated low high count at e h = destroyed_evaluated (LiesIn Sized low high count) (lies_in_ordinary low high count) at e h

  own_at_ordinary : (n : ℕ) (e : Expr) → OwnAt Sized n e → Ordinary e
  own_at_ordinary n (src.OfObject (src.OwnField s i)) h = tt
  own_at_ordinary n e h = absurd h

  own_in_ordinary : (count n : ℕ) (e : Expr) → OwnIn Sized count n e → Ordinary e
  own_in_ordinary count n (src.Element m s e (src.OfObject src.Counted)) h = (own_at_ordinary n e h.1, tt)
  own_in_ordinary count n e h = absurd h

  pub own_evaluated : (at : ℕ) (e : Expr) → Destroyed Sized (OwnAt Sized) e → Evaluated at e
  own_evaluated at e h = destroyed_evaluated (OwnAt Sized) own_at_ordinary at e h

  pub all_own_evaluated : (count at : ℕ) (e : Expr) → Destroyed Sized (OwnIn Sized count) e → Evaluated at e
  all_own_evaluated count at e h = destroyed_evaluated (OwnIn Sized count) (own_in_ordinary count) at e h

  -- of what lies between two cells, between others round them

  lies_at_wider : (low high wide top count n : ℕ) (e : Expr) → wide ≤ low → high ≤ top → LiesAt Sized low high count n e → LiesAt Sized wide top count n e
  lies_at_wider low high wide top count n (src.Variable k) a b h =
      let x = h.0 in
      let y = h.1 in
      (omega (arith, a, x), omega (arith, b, y))
  lies_at_wider low high wide top count n (src.OfObject (src.OwnField s i)) a b h = tt
  lies_at_wider low high wide top count n e a b h = absurd h

  lies_in_wider : (low high wide top count n : ℕ) (e : Expr) → wide ≤ low → high ≤ top → LiesIn Sized low high count n e → LiesIn Sized wide top count n e
  lies_in_wider low high wide top count n (src.Element m s e (src.OfObject src.Counted)) a b h =
      (h.0, lies_at_wider low high wide top count n e a b h.1)
  lies_in_wider low high wide top count n e a b h = absurd h

  destroyed_wider : (lies wider : ℕ → Expr → Type 0) → ((n : ℕ) (e : Expr) → lies n e → wider n e) → (e : Expr) → Destroyed Sized lies e → Destroyed Sized wider e
  destroyed_wider lies wider f (src.OfObject (src.CallOn r e args)) h = (h.0, h.1, f h.0 e h.2, h.3)
  destroyed_wider lies wider f (src.OfObject (src.CallUnwritten r e)) h = (h.0, h.1, f h.0 e h.2)
  destroyed_wider lies wider f (src.OfObject (src.EndOn r written (src.Load e))) h = f 1 e h
  destroyed_wider lies wider f (src.OfObject (src.EndCluster (src.Load e))) h = f 1 e h
  destroyed_wider lies wider f (src.OfObject (src.EndProcessor (src.Load e))) h = f 1 e h
  destroyed_wider lies wider f e h = absurd h

  pub lies_wider : (low high wide top : ℕ) (c : CleanUp) → wide ≤ low → high ≤ top → Lies Sized low high c → Lies Sized wide top c
  lies_wider low high wide top (src.Destroys e) a b h =
      destroyed_wider (LiesAt Sized low high 1) (LiesAt Sized wide top 1) (λ n e k. lies_at_wider low high wide top 1 n e a b k) e h
  lies_wider low high wide top (src.DestroysAll count e) a b h =
      destroyed_wider (LiesIn Sized low high count) (LiesIn Sized wide top count) (λ n e k. lies_in_wider low high wide top count n e a b k) e h
  lies_wider low high wide top c a b h = tt

  keeps_wider : (low high wide : ℕ) (c : CleanUp) → wide ≤ low → Keeps Sized low high c → Keeps Sized wide high c
  keeps_wider low high wide (src.Restores k) a h =
      let x = h.0 in
      (omega (arith, a, x), h.1)
  keeps_wider low high wide c a h = tt

  pub holds_wider : (w o m : Room) (c : CleanUp) → IsWithin w o → Holds Sized o m c → Holds Sized w m c
  holds_wider w o m c i h = (lies_wider o.low m.low w.low m.low c i.low (omega arith) h.0, keeps_wider o.hidden m.hidden w.hidden c i.hidden h.1)

  declared_wider : (w o : Room) (ds : List Declared) → IsWithin w o → DeclaredIn Sized o ds → DeclaredIn Sized w ds
  declared_wider w o [] i h = tt
  declared_wider w o (d ∷ ds) i h =
      let low = i.low in
      let high = i.high in
      let a = h.0 in
      let b = h.1 in
      (omega (arith, low, a), omega (arith, high, b), h.2, declared_wider w o ds i h.3)

  raised_wider : (w o : Room) (r : Raised) → IsWithin w o → RaisedIn Sized o r → RaisedIn Sized w r
  raised_wider w o (src.Plainly n) i h = tt
  raised_wider w o (src.BuiltAt n k e) i h =
      let low = i.hidden in
      let high = i.last in
      let a = h.0 in
      let b = h.1 in
      (omega (arith, low, a), omega (arith, high, b), h.2)
  raised_wider w o (src.AgainFrom k) i h = tt

  -- what stands behind each other in a block
  pub joined : (o : Room) (ss : Stmts) → StmtsIn Sized o ss → Joined ss
  joined o src.Nil h = tt
  joined o (src.Then a rest) h = (h.2, joined o rest h.1)
  joined o (src.Scoped c rest) h = (h.4, joined h.0 rest h.3)
  joined o (src.Built c rest) h = (h.2, joined o rest h.1)

  mutual
    pub stmt_wider : (w o : Room) (a : Stmt) → IsWithin w o → StmtIn Sized o a → StmtIn Sized w a
    stmt_wider w o (src.Skip line) i h = tt
    stmt_wider w o (src.Block line body) i h = (stmts_wider w o body i h.0, h.1)
    stmt_wider w o (src.Whole line body) i h = (stmts_wider w o body i h.0, h.1)
    stmt_wider w o (src.Evaluate line e) i h = evaluated_wider o.low w.low e i.low h
    stmt_wider w o (src.Declare line ds) i h = declared_wider w o ds i h
    stmt_wider w o (src.Print line items) i h = h
    stmt_wider w o (src.PrintTogether line items) i h = h
    stmt_wider w o (src.Read line xs) i h = h
    stmt_wider w o (src.If line e a b) i h = (h.0, stmt_wider w o a i h.1, stmt_wider w o b i h.2)
    stmt_wider w o (src.Loop line order e step b) i h = (h.0, h.1, stmt_wider w o b i h.2)
    stmt_wider w o (src.Break line) i h = tt
    stmt_wider w o (src.Continue line) i h = tt
    stmt_wider w o (src.Return line e) i h = h
    stmt_wider w o (src.Owes line) i h = tt
    stmt_wider w o (src.Fill line n b d) i h = (evaluated_wider o.low w.low b i.low h.0, evaluated_wider o.low w.low d i.low h.1)
    stmt_wider w o (src.OfEvents a) i h = event_wider w o a i h
    stmt_wider w o (src.OfTasks a) i h = task_wider w o a i h

    pub stmts_wider : (w o : Room) (ss : Stmts) → IsWithin w o → StmtsIn Sized o ss → StmtsIn Sized w ss
    stmts_wider w o src.Nil i h = tt
    stmts_wider w o (src.Then a rest) i h = (stmt_wider w o a i h.0, stmts_wider w o rest i h.1, h.2)
    stmts_wider w o (src.Scoped c rest) i h = (h.0, within_both w o h.0 i h.1, holds_wider w o h.0 c i h.2, h.3, h.4)
    stmts_wider w o (src.Built c rest) i h = (h.0, stmts_wider w o rest i h.1, h.2)

    event_wider : (w o : Room) (a : EventStmt) → IsWithin w o → EventIn Sized o a → EventIn Sized w a
    event_wider w o (src.Throw line r) i h = raised_wider w o r i h
    event_wider w o (src.Raise line r) i h = raised_wider w o r i h
    event_wider w o (src.Try line body hs) i h = (h.0, h.1, within_both w o h.0 i h.2, within_both w o h.1 i h.3, h.4, h.5, h.6, h.7, h.8)
    event_wider w o (src.RaiseAt line r e) i h = (raised_wider w o r i h.0, h.1)
    event_wider w o (src.Enable line events cell a) i h =
        (h.0, within_both w o h.0 i h.1, keeps_wider o.hidden h.0.hidden w.hidden (src.Restores cell) i.hidden h.2, h.3)
    event_wider w o (src.Disable line events cell a) i h =
        (h.0, within_both w o h.0 i h.1, keeps_wider o.hidden h.0.hidden w.hidden (src.Restores cell) i.hidden h.2, h.3)

    task_wider : (w o : Room) (a : TaskStmt) → IsWithin w o → TaskIn Sized o a → TaskIn Sized w a
    task_wider w o (src.Migrate line e) i h = h
    task_wider w o (src.Accept line site cs) i h = clauses_wider w o cs i h
    task_wider w o a i h = h

    clauses_wider : (w o : Room) (cs : Clauses) → IsWithin w o → ClausesIn Sized o cs → ClausesIn Sized w cs
    clauses_wider w o src.NoClauses i h = tt
    clauses_wider w o (src.Otherwise b) i h = stmt_wider w o b i h
    clauses_wider w o (src.MoreClauses guard b cs) i h = (h.0, stmt_wider w o b i h.1, clauses_wider w o cs i h.2)
