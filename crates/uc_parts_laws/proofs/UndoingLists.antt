-- What is to do where constructors are called at places that lie among the operands: handlers that are found, and what comes in front of a to-do list.
use Rattle.std.proofs.Common.{◌≡◌, ℕ, zero, suc, ◌⊎◌, inl, inr, Bool, true, false, ◌&&◌, List, [], ◌∷◌, length, Option, Some, None, refl, sym, ap, subst}
use Rattle.std.specs.Prelude.{nat_eq}
use Rattle.uc_tree.specs.Source as src
use Rattle.uc_tree.specs.Source.{Shape, Expr, Stmt, Stmts, Routine, Purpose, Order, Way, CleanUp, Handlers, Clauses, Raised, Item}
use Rattle.uc_machine.specs.declared.exec.Exec.{Exec}
use Rattle.uc_machine.specs.declared.exec.UnwindReason.{UnwindReason}
use Rattle.uc_machine.specs.declared.exec.Visited.{Visited}
use Rattle.uc_machine.specs.Switches.{Moved}
use Rattle.uc_machine.specs.Raising as raising
use Rattle.uc_machine.specs.Raising.{Handler, Found, Hit}
use Rattle.uc_machine.specs.Monitors as monitors
use Rattle.uc_machine.specs.Quiet as quiet
use Rattle.uc_machine.specs.Pieces as piece
use Rattle.uc_machine.specs.Pieces.{Value, Todo, Sort, Active, Env}
use Rattle.uc_state_laws.specs.Counted.{params, count, CountedExpr, CountedRaised, CountedAt}
use Rattle.uc_place_laws.specs.OlderResting.{AllWait, NamedEnv}
use Rattle.uc_place_laws.proofs.AsideKeeping as kept
use Rattle.uc_place_laws.proofs.AsideKeeping.{either}
use Rattle.uc_parts_laws.specs.PartStates.{Setting}
use Rattle.uc_parts_laws.specs.Undoing.{PlainExpr, PlainRaised, BuildsIn, UndoingStmt}
use Rattle.uc_parts_laws.specs.UndoingTodos.{Mark, Any, rest, rests, anys, left_next, CodeMaybe, CodeItems, CodeClean, CodeStmt, CodeStmts, CodeHandlers, CodeClauses, CodeLoop, CodeFill, BuildsNow, CallFits, made_marks, LeftBy, Ok, Left}
use Rattle.uc_parts_laws.specs.UndoingStates.{Runs, Waits}
use Rattle.uc_parts_laws.proofs.UndoingMarks as marks
use Rattle.uc_parts_laws.proofs.UndoingMarks.{rests_anys, AllLeft}

module _ (g : Setting) where
  abbrev pub E : Env → Type 0
  E e = NamedEnv (Runs g) (Waits g) e

  abbrev pub W : Exec → List Active → Type 0
  W n cs = AllWait (Runs g) (Waits g) n cs

  pub calm : (n : Exec) (older : List Active) (a : Active) (w : Option UnwindReason) → Runs g n older a → Runs g n older (record a { raised = w })
  calm n older a w h = record { marks = h.marks; holds = h.holds; ok = h.ok }

  abbrev pub K : Env → Env → Type 0
  K e f = kept.Keeps (Runs g) (Waits g) calm e f

  abbrev pub M : Moved (List Todo) Value → Type 0
  M m = kept.NamedMoved (Runs g) (Waits g) calm m

  pub likes : {e f : Env} → E e → f.hand ≡ e.hand → f.house ≡ e.house → f.own ≡ e.own → E f
  likes h k i o = kept.like (Runs g) (Waits g) calm h k i o

  -- handlers

  abbrev pub OfHandler : Option Handler → Type 0
  OfHandler None = Unit {0}
  OfHandler (Some x) = CodeStmts g x.body

  abbrev OfHit : Option Hit → Type 0
  OfHit None = Unit {0}
  OfHit (Some x) = CodeStmts g x.handler.body

  abbrev pub OfFound : Option Found → Type 0
  OfFound None = Unit {0}
  OfFound (Some x) = CodeStmts g x.handler.body

  pub handler_for : (kind : Bool) (e : raising.Event) (hs : Handlers) → CodeHandlers g hs → OfHandler (raising.handler_for kind e hs)
  handler_for kind e src.NoHandlers h = tt
  handler_for kind e (src.MoreHandlers resumes event cell line body others) h =
      either OfHandler (raising.same_kind kind resumes && raising.takes event e) (Some (record { cell = cell; line = line; body = body })) (raising.handler_for kind e others) (h.0.0, h.1.0) (handler_for kind e others (h.0.1, h.1.1))

  hit_or : (x : Option Handler) (n : ℕ) (other : Option Hit) → OfHandler x → OfHit other → OfHit (raising.hit_or x n other)
  hit_or None n other h k = k
  hit_or (Some x) n other h k = h

  -- what is known of a mark that is left
  hit_by : (k : Sort) (n : ℕ) (e : raising.Event) (other : Option Hit) (l o : Type 0) → LeftBy g k l o → OfHit other → OfHit (raising.hit_by k n e other)
  hit_by (piece.IsGuard hs) n e other l o h k = hit_or (raising.handler_for true e hs) n other (handler_for true e hs h.0) k
  hit_by s n e other l o h k = k

  hit_in : (e : raising.Event) (todo : List Todo) → Left g todo → OfHit (raising.hit_in e todo)
  hit_in e [] h = tt
  hit_in e (p ∷ ps) h =
      hit_by (piece.sort p) (raising.count_round ps) e (raising.hit_in e ps) (Left g ps) (Ok g [] ps) h (hit_in e ps (marks.left_tail g p ps h))

  within : (n : ℕ) (todo : List Todo) → Left g todo → Left g (raising.within n todo)
  within n [] h = tt
  within n (p ∷ ps) h = either (Left g) (nat_eq (raising.count_round (p ∷ ps)) n) (p ∷ ps) (raising.within n ps) h (within n ps (marks.left_tail g p ps h))

  found_or : (x : Option Hit) (a : Active) (cs : List Active) (other : Option Found) → OfHit x → OfFound other → OfFound (raising.found_or x a cs other)
  found_or None a cs other h k = k
  found_or (Some x) a cs other h k = h

  pub seek : (v : Option Visited) (e : raising.Event) (cs : List Active) → AllLeft g cs → OfFound (raising.seek v e cs)
  seek None e [] h = tt
  seek (Some v) e [] h = tt
  seek None e (a ∷ cs) h = found_or (raising.hit_in e a.control) a cs (raising.seek a.handles e cs) (hit_in e a.control h.0) (seek a.handles e cs h.1)
  seek (Some v) e (a ∷ cs) h =
      either OfFound (nat_eq (length cs) v.level) (raising.found_or (raising.hit_in e (raising.within v.rest a.control)) a cs (raising.seek a.handles e cs)) (raising.seek (Some v) e cs) (found_or (raising.hit_in e (raising.within v.rest a.control)) a cs (raising.seek a.handles e cs) (hit_in e (raising.within v.rest a.control) (within v.rest a.control h.0)) (seek a.handles e cs h.1)) (seek (Some v) e cs h.1)

  -- calls take as many operands as there are arguments

  -- a mark that lies below the arguments
  pub under : (P : List Mark → Type 0) (n r : ℕ) (ms : List Mark) → n ≡ params g.source r → P ms → P (rests (params g.source r) (anys n ms))
  under P n r ms e h = subst (λ k. P (rests k (anys n ms))) e (subst P (sym (rests_anys n ms)) h)

  below_on : (n r : ℕ) (m : Mark) (ms : List Mark) → n ≡ params g.source r → rests (suc (params g.source r)) (anys n (m ∷ ms)) ≡ ms
  below_on n r m ms e = subst (λ k. rest (rests k (anys n (m ∷ ms))) ≡ ms) e (ap rest (rests_anys n (m ∷ ms)))

  -- what is to do in a routine

  behind : (p : Purpose) (line : ℕ) → Ok g [] (quiet.behind_body p line)
  behind src.TaskMain line = (tt, (tt, tt))
  behind src.CoroutineMain line = (tt, (tt, tt))
  behind src.Procedure line = (tt, tt)
  behind src.Function line = (tt, (tt, tt))
  behind src.Builder line = tt

  pub routine : (r : Routine) → CodeStmts g r.body → Ok g [] (quiet.routine_todo r)
  routine r h = (h, behind r.purpose r.line)

  -- to-do lists

  pub starts : (cell : ℕ) (v : Option Expr) (todo : List Todo) → CodeMaybe g v → Ok g [] todo → Ok g [] (quiet.starting cell v todo)
  starts cell None todo n h = h
  starts cell (Some e) todo n h = (tt, inl (tt, (n.0, inl (n.1, (tt, h)))))

  pub converts : (k : Shape) (ms : List Mark) (todo : List Todo) → Ok g (Any ∷ ms) todo → Ok g (Any ∷ ms) (quiet.converting k todo)
  converts src.Character ms todo h = (tt, h)
  converts src.Truth ms todo h = (tt, h)
  converts k ms todo h = h

  pub stepped : (e : Option Expr) (todo : List Todo) → CodeMaybe g e → Ok g [] todo → Ok g [] (quiet.step_todo e todo)
  stepped None todo n h = h
  stepped (Some e) todo n h = (n.0, inl (n.1, (tt, h)))

  pub tested : (o : Order) (t : Expr) (e : Option Expr) (b : Stmt) (todo : List Todo) → CodeLoop g t e b → Ok g [] todo → Ok g [] (quiet.test_todo o t e b todo)
  tested src.TestFirst t e b todo n h = (n.0.0, inl (n.0.1, (n, h)))
  tested src.BodyFirst t e b todo n h = (n.0.0, inl (n.0.1, (n, h)))
  tested src.NoTest t e b todo n h = (n, h)

  pub looped : (o : Order) (t : Expr) (e : Option Expr) (b : Stmt) (todo : List Todo) → CodeLoop g t e b → Ok g [] todo → Ok g [] (quiet.loop_todo o t e b todo)
  looped src.TestFirst t e b todo n h = (n.0.0, inl (n.0.1, (n, h)))
  looped src.BodyFirst t e b todo n h = (n, h)
  looped src.NoTest t e b todo n h = (n, h)

  loop_left : (w : Way) (o : Order) (t : Expr) (e : Option Expr) (b : Stmt) (todo : List Todo) → CodeLoop g t e b → Ok g [] todo → Ok g [] (quiet.loop_left w o t e b todo)
  loop_left src.ToBreak o t e b todo n h = h
  loop_left src.ToContinue o t e b todo n h = (n, h)
  loop_left src.ToReturn o t e b todo n h = marks.left g [] todo h
  loop_left src.ToEnd o t e b todo n h = marks.left g [] todo h

  pub left_behind : (w : Way) (k : Sort) (todo : List Todo) → LeftBy g k (Left g todo) (Ok g [] todo) → Ok g [] (quiet.left_behind w k todo)
  left_behind w piece.Simple todo h = h
  left_behind w (piece.IsLoop o t e b) todo h = loop_left w o t e b todo h.0 h.1
  left_behind w piece.IsWhole todo h = h
  left_behind w (piece.IsClean c) todo h = (h.0, marks.left g [] todo h.1)
  left_behind w (piece.IsFill m b d) todo h = marks.left g [] todo h.1
  left_behind w (piece.IsSweep e) todo h = marks.left g [] todo h.1
  left_behind w (piece.IsPart c) todo h = marks.left g [] todo h.1
  left_behind w (piece.IsGuard hs) todo h = marks.left g [] todo h.1
  left_behind w piece.IsFinish todo h = (tt, h)
  left_behind w piece.IsFinishCoroutine todo h = (tt, h)

  -- an expression that is evaluated by itself, before what is left of its block
  pub single : (line : ℕ) (e : Expr) (todo : List Todo) → CountedExpr g.source e → PlainExpr g.source g.special e ⊎ BuildsIn g.source g.special (left_next todo) e → Ok g [] todo → Ok g [] (piece.Eval e ∷ (piece.DropNow ∷ (piece.Within line ∷ todo)))
  single line e todo n (inl k) h = (n, inl (k, (tt, (tt, h))))
  single line e todo n (inr k) h = (n, inr (inl (builds e todo k, (tt, (tt, h)))))
    where
      builds : (e : Expr) (todo : List Todo) → BuildsIn g.source g.special (left_next todo) e → BuildsNow g (piece.DropNow ∷ (piece.Within line ∷ todo)) e
      builds (src.OfObject (src.CallOn r p args)) (piece.Rest ss ∷ todo) k = k
      builds (src.OfObject (src.CallUnwritten r p)) (piece.Rest ss ∷ todo) k = k
      builds (src.OfObject (src.MakeOn c r written p args)) (piece.Rest ss ∷ todo) k = k
      builds (src.OfObject (src.CallOn r p args)) todo k = absurd k.1.1
      builds (src.OfObject (src.CallUnwritten r p)) todo k = absurd k.1
      builds (src.OfObject (src.MakeOn c r written p args)) todo k = absurd k.1.1
      builds e todo k = absurd k

  -- one that builds the elements of an array
  pub filled : (b : Bool) (n : ℕ) (e d : Expr) (todo : List Todo) → CodeFill g e d → Ok g [] todo → Ok g [] (quiet.fill_todo b n e d todo)
  filled false n e d todo k h = h
  filled true n e d todo ((k, inl y), q) h = (k, inl (y, (tt, (tt, (((k, inl y), q), h)))))
  filled true n (src.OfObject (src.CallOn r p args)) d todo ((k, inr y), q) h = (k, inr (inl (y, (tt, (tt, (((k, inr y), q), h))))))
  filled true n (src.OfObject (src.CallUnwritten r p)) d todo ((k, inr y), q) h = (k, inr (inl (y, (tt, (tt, (((k, inr y), q), h))))))
  filled true n (src.OfObject (src.MakeOn c r written p args)) d todo ((k, inr y), q) h = (k, inr (inl (y, (tt, (tt, (((k, inr y), q), h))))))
  filled true n e d todo ((k, inr y), q) h = absurd y

  -- an event is found before it is raised
  pub raised : (r : Raised) (todo : List Todo) → CountedRaised g.source r → PlainRaised g.source g.special r → Ok g (Any ∷ (Any ∷ (Any ∷ []))) todo → Ok g [] (raising.raised_todo r todo)
  raised (src.Plainly n) todo k q h = (tt, inl (tt, (tt, inl (tt, (tt, inl (tt, h))))))
  raised (src.BuiltAt n c e) todo k q h = (tt, (k, inl (q, (tt, (tt, inl (tt, (tt, inl (tt, (tt, inl (tt, h))))))))))
  raised (src.AgainFrom c) todo k q h = (tt, inl (tt, (tt, inl (tt, (tt, inl (tt, h))))))

  pub counted_at : (r : Raised) → CountedAt g.source r → CountedRaised g.source r
  counted_at (src.Plainly n) h = tt
  counted_at (src.BuiltAt n c e) h = h.1
  counted_at (src.AgainFrom c) h = tt

  pub handled : (x : Handler) (todo : List Todo) → CodeStmts g x.body → Ok g [] todo → Ok g [] (raising.handler_todo x todo)
  handled x todo k h = (tt, (tt, (tt, (tt, (tt, (tt, (k, (tt, h))))))))

  pub cleans : (c : CleanUp) (todo : List Todo) → CodeClean g c → Ok g [] todo → Ok g [] (piece.clean_todo c todo)
  cleans (src.Destroys e) todo n h = (n.0, inl (n.1, (tt, h)))
  cleans (src.DestroysAll m e) todo n h = (tt, (n, h))
  cleans src.Unwinds todo n h = (tt, h)
  cleans src.Forgets todo n h = (tt, h)
  cleans src.Leaves todo n h = (tt, h)
  cleans src.Ends todo n h = (tt, h)
  cleans (src.Frees None) todo n h = (tt, h)
  cleans (src.Frees (Some r)) todo n h = (tt, h)
  cleans (src.Restores k) todo n h = (tt, h)

  pub left_cleans : (c : CleanUp) (todo : List Todo) → CodeClean g c → Ok g [] todo → Ok g [] (raising.left_todo c todo)
  left_cleans (src.Frees r) todo n h = (tt, h)
  left_cleans c todo n h = cleans c todo n h

  -- a statement of another one stands before any others
  undoing_any : (ss : Stmts) (a : Stmt) → UndoingStmt g.source g.special src.Nil a → UndoingStmt g.source g.special ss a
  undoing_any ss (src.Evaluate line e) (inl h) = inl h
  undoing_any ss (src.Evaluate line (src.OfObject (src.CallOn r p args))) (inr h) = absurd h.1.1
  undoing_any ss (src.Evaluate line (src.OfObject (src.CallUnwritten r p))) (inr h) = absurd h.1
  undoing_any ss (src.Evaluate line (src.OfObject (src.MakeOn c r written p args))) (inr h) = absurd h.1.1
  undoing_any ss (src.Evaluate line e) (inr h) = absurd h
  undoing_any ss a h = h

  pub inner : (ss : Stmts) (a : Stmt) → CodeStmt g src.Nil a → CodeStmt g ss a
  inner ss a h = (h.0, undoing_any ss a h.1)

  pub branch : (k : ℕ) (cs : Clauses) (todo : List Todo) → CodeClauses g cs → Ok g [] todo → Ok g [] (monitors.branch_todo k cs todo)
  branch k src.NoClauses todo n h = h
  branch k (src.Otherwise b) todo n h = either (Ok g []) (nat_eq k 0) (piece.Do b ∷ todo) todo (inner (left_next todo) b n, h) h
  branch zero (src.MoreClauses guard b cs) todo n h = branch zero cs todo (n.0.2, n.1.2) h
  branch (suc zero) (src.MoreClauses guard b cs) todo n h = (inner (left_next todo) b (n.0.1, n.1.1), h)
  branch (suc (suc k)) (src.MoreClauses guard b cs) todo n h = branch (suc k) cs todo (n.0.2, n.1.2) h

  pub item : (i : Item) (is : List Item) (todo : List Todo) → CodeItems g (i ∷ is) → Ok g [] todo → Ok g [] (quiet.item_todo i todo)
  item (src.Show f e) is todo n h = (n.0.0, inl (n.1.0, (tt, h)))
  item (src.ShowText k) is todo n h = (tt, h)

  pub item_value : (i : Item) (is : List Item) (todo : List Todo) → CodeItems g (i ∷ is) → ((ms : List Mark) → Ok g ms todo) → Ok g [] (quiet.item_value i todo)
  item_value (src.Show f e) is todo n h = (n.0.0, inl (n.1.0, h (Any ∷ [])))
  item_value (src.ShowText k) is todo n h = h []

  pub item_piece : (i : Item) (todo : List Todo) → Ok g [] todo → Ok g [] (quiet.item_piece i ∷ todo)
  item_piece (src.Show f e) todo h = (tt, h)
  item_piece (src.ShowText k) todo h = (tt, h)

  pub polled : (o : Option UnwindReason) (ms : List Mark) (todo : List Todo) → Ok g ms todo → Ok g ms (monitors.leave_todo o todo)
  polled None ms todo h = (tt, h)
  polled (Some why) ms todo h = h

  -- calls

  pub called : (args : src.Exprs) (r : ℕ) (ms : List Mark) (todo : List Todo) → count args ≡ params g.source r → Ok g (Any ∷ ms) todo → Ok g (Any ∷ rests (params g.source r) (anys (count args) ms)) todo
  called args r ms todo e h = under (λ ns. Ok g (Any ∷ ns) todo) (count args) r ms e h

  pub called_on : (n r : ℕ) (m : Mark) (ms : List Mark) (todo : List Todo) → n ≡ params g.source r → Ok g (Any ∷ ms) todo → Ok g (Any ∷ rests (suc (params g.source r)) (anys n (m ∷ ms))) todo
  called_on n r m ms todo e h = subst (λ ns. Ok g (Any ∷ ns) todo) (sym (below_on n r m ms e)) h

  -- a made object takes the place of its place below the arguments: what is known of that
  pub made_on : (n r : ℕ) (m k : Mark) (ms : List Mark) (todo : List Todo) → n ≡ params g.source r → CallFits g r (anys (params g.source r) (k ∷ ms)) todo → Ok g (Any ∷ ms) todo → CallFits g r (made_marks g r k (anys n (m ∷ ms))) todo × Ok g (Any ∷ rests (suc (params g.source r)) (made_marks g r k (anys n (m ∷ ms)))) todo
  made_on n r m k ms todo e c h =
      let same : ms ≡ rests (suc (params g.source r)) (anys n (m ∷ ms)) = sym (below_on n r m ms e) in
      (subst (λ ns. CallFits g r (anys (params g.source r) (k ∷ ns)) todo) same c, called_on (params g.source r) r k (rests (suc (params g.source r)) (anys n (m ∷ ms))) todo refl (subst (λ ns. Ok g (Any ∷ ns) todo) same h))
