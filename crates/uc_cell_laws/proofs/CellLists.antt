-- What is to do in code of a routine: handlers that are found, and what comes in front of a to-do list.
use Rattle.std.proofs.Common.{◌≡◌, ℕ, zero, suc, inl, Bool, true, false, ◌&&◌, List, [], ◌∷◌, Option, Some, None, sym, ap, subst}
use Rattle.std.specs.Prelude.{nat_eq}
use Rattle.uc_tree.specs.Source as src
use Rattle.uc_tree.specs.Source.{Shape, Expr, Stmt, Routine, Purpose, Order, Way, CleanUp, Handlers, Clauses, Raised, Item}
use Rattle.uc_machine.specs.declared.exec.UnwindReason.{UnwindReason}
use Rattle.uc_machine.specs.Raising as raising
use Rattle.uc_machine.specs.Raising.{Handler, Hit}
use Rattle.uc_machine.specs.Monitors as monitors
use Rattle.uc_machine.specs.Quiet as quiet
use Rattle.uc_machine.specs.Pieces as piece
use Rattle.uc_machine.specs.Pieces.{Todo, Sort}
use Rattle.uc_state_laws.specs.Counted.{params, count, CountedRaised, CountedAt}
use Rattle.uc_life_laws.proofs.HomedCells.{either}
use Rattle.uc_cell_laws.specs.Sites.{Telling, SitedRaised}
use Rattle.uc_cell_laws.specs.CellTodos.{Mark, Any, rest, rests, anys, CodeExpr, CodeMaybe, CodeItems, CodeClean, CodeStmts, CodeHandlers, CodeClauses, CodeLoop, LeftBy, Ok, Left}
use Rattle.uc_cell_laws.proofs.CellMarks as marks
use Rattle.uc_cell_laws.proofs.CellMarks.{rests_anys}

module _ (g : Telling) (r : ℕ) where
  -- handlers

  abbrev pub OfHandler : Option Handler → Type 0
  OfHandler None = Unit {0}
  OfHandler (Some x) = CodeStmts g r x.body

  abbrev pub OfHit : Option Hit → Type 0
  OfHit None = Unit {0}
  OfHit (Some x) = CodeStmts g r x.handler.body

  pub handler_for : (kind : Bool) (e : raising.Event) (hs : Handlers) → CodeHandlers g r hs → OfHandler (raising.handler_for kind e hs)
  handler_for kind e src.NoHandlers h = tt
  handler_for kind e (src.MoreHandlers resumes event cell line body others) h =
      either OfHandler (raising.same_kind kind resumes && raising.takes event e) (Some (record { cell = cell; line = line; body = body })) (raising.handler_for kind e others) (h.0.0, h.1.0) (handler_for kind e others (h.0.1, h.1.1))

  hit_or : (x : Option Handler) (n : ℕ) (other : Option Hit) → OfHandler x → OfHit other → OfHit (raising.hit_or x n other)
  hit_or None n other h k = k
  hit_or (Some x) n other h k = h

  -- what is known of a mark that is left
  hit_by : (k : Sort) (n : ℕ) (e : raising.Event) (other : Option Hit) (l o : Type 0) → LeftBy g r k l o → OfHit other → OfHit (raising.hit_by k n e other)
  hit_by (piece.IsGuard hs) n e other l o h k = hit_or (raising.handler_for true e hs) n other (handler_for true e hs h.0) k
  hit_by s n e other l o h k = k

  pub hit_in : (e : raising.Event) (todo : List Todo) → Left g r todo → OfHit (raising.hit_in e todo)
  hit_in e [] h = tt
  hit_in e (p ∷ ps) h =
      hit_by (piece.sort p) (raising.count_round ps) e (raising.hit_in e ps) (Left g r ps) (Ok g r [] ps) h (hit_in e ps (marks.left_tail g r p ps h))

  pub within : (n : ℕ) (todo : List Todo) → Left g r todo → Left g r (raising.within n todo)
  within n [] h = tt
  within n (p ∷ ps) h = either (Left g r) (nat_eq (raising.count_round (p ∷ ps)) n) (p ∷ ps) (raising.within n ps) h (within n ps (marks.left_tail g r p ps h))

  -- calls take as many operands as there are arguments

  -- a mark that lies below the arguments
  pub under : (P : List Mark → Type 0) (n q : ℕ) (ms : List Mark) → n ≡ params g.source q → P ms → P (rests (params g.source q) (anys n ms))
  under P n q ms e h = subst (λ k. P (rests k (anys n ms))) e (subst P (sym (rests_anys n ms)) h)

  pub below_on : (n q : ℕ) (m : Mark) (ms : List Mark) → n ≡ params g.source q → rests (suc (params g.source q)) (anys n (m ∷ ms)) ≡ ms
  below_on n q m ms e = subst (λ k. rest (rests k (anys n (m ∷ ms))) ≡ ms) e (ap rest (rests_anys n (m ∷ ms)))

  pub called : (args : src.Exprs) (q : ℕ) (ms : List Mark) (todo : List Todo) → count args ≡ params g.source q → Ok g r (Any ∷ ms) todo → Ok g r (Any ∷ rests (params g.source q) (anys (count args) ms)) todo
  called args q ms todo e h = under (λ ns. Ok g r (Any ∷ ns) todo) (count args) q ms e h

  pub called_on : (n q : ℕ) (m : Mark) (ms : List Mark) (todo : List Todo) → n ≡ params g.source q → Ok g r (Any ∷ ms) todo → Ok g r (Any ∷ rests (suc (params g.source q)) (anys n (m ∷ ms))) todo
  called_on n q m ms todo e h = subst (λ ns. Ok g r (Any ∷ ns) todo) (sym (below_on n q m ms e)) h

  -- what is to do in a routine

  behind : (p : Purpose) (line : ℕ) → Ok g r [] (quiet.behind_body p line)
  behind src.TaskMain line = (tt, (tt, tt))
  behind src.CoroutineMain line = (tt, (tt, tt))
  behind src.Procedure line = (tt, tt)
  behind src.Function line = (tt, (tt, tt))
  behind src.Builder line = tt

  pub routine : (q : Routine) → CodeStmts g r q.body → Ok g r [] (quiet.routine_todo q)
  routine q h = (h, behind q.purpose q.line)

  -- to-do lists

  pub starts : (cell : ℕ) (v : Option Expr) (todo : List Todo) → CodeMaybe g r v → Ok g r [] todo → Ok g r [] (quiet.starting cell v todo)
  starts cell None todo n h = h
  starts cell (Some e) todo n h = ((tt, tt), inl (n, inl (tt, h)))

  pub converts : (k : Shape) (ms : List Mark) (todo : List Todo) → Ok g r (Any ∷ ms) todo → Ok g r (Any ∷ ms) (quiet.converting k todo)
  converts src.Character ms todo h = (tt, h)
  converts src.Truth ms todo h = (tt, h)
  converts k ms todo h = h

  pub stepped : (e : Option Expr) (todo : List Todo) → CodeMaybe g r e → Ok g r [] todo → Ok g r [] (quiet.step_todo e todo)
  stepped None todo n h = h
  stepped (Some e) todo n h = (n, inl (tt, h))

  pub tested : (o : Order) (t : Expr) (e : Option Expr) (b : Stmt) (todo : List Todo) → CodeLoop g r t e b → Ok g r [] todo → Ok g r [] (quiet.test_todo o t e b todo)
  tested src.TestFirst t e b todo n h = (n.0, inl (n, h))
  tested src.BodyFirst t e b todo n h = (n.0, inl (n, h))
  tested src.NoTest t e b todo n h = (n, h)

  pub looped : (o : Order) (t : Expr) (e : Option Expr) (b : Stmt) (todo : List Todo) → CodeLoop g r t e b → Ok g r [] todo → Ok g r [] (quiet.loop_todo o t e b todo)
  looped src.TestFirst t e b todo n h = (n.0, inl (n, h))
  looped src.BodyFirst t e b todo n h = (n, h)
  looped src.NoTest t e b todo n h = (n, h)

  loop_left : (w : Way) (o : Order) (t : Expr) (e : Option Expr) (b : Stmt) (todo : List Todo) → CodeLoop g r t e b → Ok g r [] todo → Ok g r [] (quiet.loop_left w o t e b todo)
  loop_left src.ToBreak o t e b todo n h = h
  loop_left src.ToContinue o t e b todo n h = (n, h)
  loop_left src.ToReturn o t e b todo n h = marks.left g r [] todo h
  loop_left src.ToEnd o t e b todo n h = marks.left g r [] todo h

  pub left_behind : (w : Way) (k : Sort) (todo : List Todo) → LeftBy g r k (Left g r todo) (Ok g r [] todo) → Ok g r [] (quiet.left_behind w k todo)
  left_behind w piece.Simple todo h = h
  left_behind w (piece.IsLoop o t e b) todo h = loop_left w o t e b todo h.0 h.1
  left_behind w piece.IsWhole todo h = h
  left_behind w (piece.IsClean c) todo h = (h.0, marks.left g r [] todo h.1)
  left_behind w (piece.IsFill m b d) todo h = marks.left g r [] todo h.1
  left_behind w (piece.IsSweep e) todo h = marks.left g r [] todo h.1
  left_behind w (piece.IsPart c) todo h = marks.left g r [] todo h.1
  left_behind w (piece.IsGuard hs) todo h = marks.left g r [] todo h.1
  left_behind w piece.IsFinish todo h = (tt, h)
  left_behind w piece.IsFinishCoroutine todo h = (tt, h)

  -- what builds the elements of an array
  pub filled : (b : Bool) (n : ℕ) (e d : Expr) (todo : List Todo) → CodeExpr g r e → CodeExpr g r d → Ok g r [] todo → Ok g r [] (quiet.fill_todo b n e d todo)
  filled false n e d todo k q h = h
  filled true n e d todo k q h = (k, inl (tt, (tt, ((k, q), h))))

  -- an event is found before it is raised
  pub raised : (x : Raised) (todo : List Todo) → CountedRaised g.source x → SitedRaised g r x → Ok g r (Any ∷ (Any ∷ (Any ∷ []))) todo → Ok g r [] (raising.raised_todo x todo)
  raised (src.Plainly n) todo k q h = ((tt, tt), inl ((tt, tt), inl ((tt, tt), inl h)))
  raised (src.BuiltAt n c e) todo k q h = (tt, ((k, q), inl (tt, ((tt, tt), inl ((tt, tt), inl ((tt, tt), inl h))))))
  raised (src.AgainFrom c) todo k q h = ((tt, tt), inl ((tt, tt), inl ((tt, tt), inl h)))

  pub counted_at : (x : Raised) → CountedAt g.source x → CountedRaised g.source x
  counted_at (src.Plainly n) h = tt
  counted_at (src.BuiltAt n c e) h = h.1
  counted_at (src.AgainFrom c) h = tt

  pub handled : (x : Handler) (todo : List Todo) → CodeStmts g r x.body → Ok g r [] todo → Ok g r [] (raising.handler_todo x todo)
  handled x todo k h = (tt, (tt, (tt, (tt, (tt, (tt, (k, (tt, h))))))))

  pub cleans : (c : CleanUp) (todo : List Todo) → CodeClean g r c → Ok g r [] todo → Ok g r [] (piece.clean_todo c todo)
  cleans (src.Destroys e) todo n h = (n, inl (tt, h))
  cleans (src.DestroysAll m e) todo n h = (tt, (n, h))
  cleans src.Unwinds todo n h = (tt, h)
  cleans src.Forgets todo n h = (n.1, h)
  cleans src.Leaves todo n h = (tt, h)
  cleans src.Ends todo n h = (tt, h)
  cleans (src.Frees None) todo n h = (tt, h)
  cleans (src.Frees (Some q)) todo n h = (n.1, h)
  cleans (src.Restores k) todo n h = (tt, h)

  pub left_cleans : (c : CleanUp) (todo : List Todo) → CodeClean g r c → Ok g r [] todo → Ok g r [] (raising.left_todo c todo)
  left_cleans (src.Frees q) todo n h = (tt, h)
  left_cleans c todo n h = cleans c todo n h

  pub branch : (k : ℕ) (cs : Clauses) (todo : List Todo) → CodeClauses g r cs → Ok g r [] todo → Ok g r [] (monitors.branch_todo k cs todo)
  branch k src.NoClauses todo n h = h
  branch k (src.Otherwise b) todo n h = either (Ok g r []) (nat_eq k 0) (piece.Do b ∷ todo) todo (n, h) h
  branch zero (src.MoreClauses guard b cs) todo n h = branch zero cs todo (n.0.2, n.1.2) h
  branch (suc zero) (src.MoreClauses guard b cs) todo n h = ((n.0.1, n.1.1), h)
  branch (suc (suc k)) (src.MoreClauses guard b cs) todo n h = branch (suc k) cs todo (n.0.2, n.1.2) h

  pub item : (i : Item) (is : List Item) (todo : List Todo) → CodeItems g r (i ∷ is) → Ok g r [] todo → Ok g r [] (quiet.item_todo i todo)
  item (src.Show f e) is todo n h = ((n.0.0, n.1.0), inl (tt, h))
  item (src.ShowText k) is todo n h = (tt, h)

  pub item_value : (i : Item) (is : List Item) (todo : List Todo) → CodeItems g r (i ∷ is) → ((ms : List Mark) → Ok g r ms todo) → Ok g r [] (quiet.item_value i todo)
  item_value (src.Show f e) is todo n h = ((n.0.0, n.1.0), inl (h (Any ∷ [])))
  item_value (src.ShowText k) is todo n h = h []

  pub item_piece : (i : Item) (todo : List Todo) → Ok g r [] todo → Ok g r [] (quiet.item_piece i ∷ todo)
  item_piece (src.Show f e) todo h = (tt, h)
  item_piece (src.ShowText k) todo h = (tt, h)

  pub polled : (o : Option UnwindReason) (ms : List Mark) (todo : List Todo) → Ok g r ms todo → Ok g r ms (monitors.leave_todo o todo)
  polled None ms todo h = (tt, h)
  polled (Some why) ms todo h = h
