-- Calls, exits, statements: all stays known.
use Rattle.std.proofs.Common.{◌≡◌, ℕ, ◌<◌, List, [], ◌∷◌, length, drop, replicate, ◌-◌, Option, Some, None, Bool, true, false, refl, sym, ap, subst}
use Rattle.std.specs.Prelude.{nat_eq, nat_lt, if◌then◌else◌, slice_get}
use Rattle.std.proofs.lemmas.Bool.{eq-eqb}
use Rattle.uc_tree.specs.Source.{Shape, Way, ToBreak, ToContinue, ToReturn, ToEnd, Stmt, Stmts, Skip, Block, Whole, Evaluate, Declare, Print, PrintTogether, Read, If, Loop, Break, Continue, Return, Owes, Fill, OfEvents, OfTasks, EventStmt, Throw, Raise, Try, RaiseAt, Enable, Disable, TaskStmt, Resume, Suspend, SetUp, Enliven, TakeDown, Yield, Migrate, Accept, Nil, Then, Scoped, Built, Source, Routine}
use Rattle.uc_tree.specs.declared.limits.TheConstants.{CALLS}
use Rattle.uc_entry.specs.declared.request.Piece.{Piece}
use Rattle.uc_machine.specs.declared.exec.Exec.{Exec}
use Rattle.uc_machine.specs.Executions.{at_depth, others, take_operands}
use Rattle.uc_machine.specs.Quiet as q
use Rattle.uc_machine.specs.Pieces as pc
use Rattle.uc_machine.specs.Pieces.{Value, Nothing, Todo, Active, State, Env, Outcome, Gives, Faults, at, top, below, nought}
use Rattle.uc_typing.specs.Typing.{Ty, Num, Obj, Row, Clu, Name, Kept, Sig, Table, object_ty, element_shape, IsPlaced, FineTask, FineStmt, FineStmts, FineEvent}
use Rattle.uc_typing.specs.Pieces.{IsNone, onto, Exits, Ok, Left}
use Rattle.uc_typing.specs.States.{IsBase, Sound}
use Rattle.uc_typing.proofs.Frames.{drop_onto}
use Rattle.uc_typing.proofs.Control.{left, exit_left, loop_ok, raised_ok, guard_nums}
use Rattle.uc_life_laws.specs.Things.{Few, IsTracked, Known}
use Rattle.uc_life_laws.specs.Knowing.{AtHand, KnownAll, KnownParams, KnownFrames, KnownThis, KnowsWaits, ClaimsEnv, StepBy}
use Rattle.uc_life_laws.specs.Kinds.{IsKept, BeginsAt, FollowsOn, begins}
use Rattle.uc_life_laws.proofs.Parked.{Ex}
use Rattle.uc_life_laws.proofs.Cells.{either}
use Rattle.uc_life_laws.proofs.Knowns.{values_drop, newest, rest_of, params_call, frames_length, further_element}
use Rattle.uc_life_laws.proofs.Parking.{frames_run, keeps_like, like, main_ok}
use Rattle.uc_life_laws.proofs.Going as going
use Rattle.uc_life_laws.proofs.Going.{With}
use Rattle.uc_life_laws.proofs.Returning.{returned_knows, end_knows}

module _ (t : Table) (few : Few) (Q : Exec → List Sig → Ex → Type 0) (kept : IsKept Q) (source : Source) (sound : Sound t source) (s : State) (sigs : List Sig) (g : Sig) (base sc : List Name) (frames : KnownFrames t few s.env.exec sigs s.env.frames (s.run ∷ s.callers)) (frame : at_depth sigs s.run.frame ≡ Some g) (this : KnownThis t few s.env.exec (AtHand t few s.env.exec (others sigs) s.callers) g g.this s.run.this) (callers : KnowsWaits t few s.env.exec (others sigs) s.callers) (env : ClaimsEnv t few Q s.env) (ends : IsBase t g s.run.handles base s.run.frame s.callers) where
  abbrev After : pc.Step → Type 0
  After x = StepBy t few (FollowsOn Q t few source s sigs) (ClaimsEnv t few Q) source x

  -- of operands, what is known to a state with this to do
  abbrev All : List Todo → List Ty → List Value → Type 0
  All todo own vs = KnownAll t few s.env.exec (With t few s sigs todo) own vs

  go : (inner : List Name) (own : List Ty) (todo : List Todo) (vs : List Value) → Ok t g base inner todo own → All todo own vs → FollowsOn Q t few source s sigs [] (at todo vs s)
  go = going.go t few Q kept source s sigs g base frames frame this callers env ends

  -- the operands behind the arguments
  pub behind : (todo : List Todo) (ps more : List Ty) (n : ℕ) → n ≡ length ps → All todo (onto ps more) s.run.operands → All todo more (drop n s.run.operands)
  behind todo ps more n e v =
      subst (λ n. All todo more (drop n s.run.operands)) (sym e) (subst (λ l. All todo l (drop (length ps) s.run.operands)) (drop_onto ps more) (values_drop t few s.env.exec (With t few s sigs todo) (length ps) (onto ps more) s.run.operands v))

  -- a call
  begun : (n : ℕ) (r : Routine) (here : Value) (counts : Bool) (own more : List Ty) (todo : List Todo) (vs : List Value) → slice_get source.routines n ≡ Some r → BeginsAt t source s (length s.env.frames) here todo s.run.control (t.routine n) → All todo (onto (t.routine n).params more) s.run.operands → KnownThis t few s.env.exec (With t few s sigs todo) (t.routine n) (t.routine n).this here → Ok t g base sc todo (Num ∷ own) → All todo own vs → After (q.begun_step r here counts todo vs s)
  begun n r here counts own more todo vs e new h i o k =
      let x = sound.routines n r e in
      let l : nat_eq (length s.env.frames) (length sigs) ≡ true = eq-eqb (length s.env.frames) (length sigs) (frames_length t few s.env.exec sigs s.env.frames (s.run ∷ s.callers) frames) in (
        record {
          sigs = t.routine n ∷ sigs;
          frames = (subst (λ c. KnownParams t few s.env.exec (With t few s sigs todo) (t.routine n).params (take_operands Nothing c s.run.operands (replicate (r.cells - r.params) nought))) (sym x.params) (params_call t few s.env.exec (With t few s sigs todo) (t.routine n).params more s.run.operands _ h), frames_run t few s.env.exec sigs s.env.frames s.run _ s.callers frames);
          run = record {
            sig = t.routine n;
            own = [];
            scope = [];
            base = [];
            frame = ap (λ (b : Bool). if b then Some (t.routine n) else at_depth sigs (length s.env.frames)) l;
            values = tt;
            this = i;
            ok = main_ok t (t.routine n) r.purpose r.line r.body x.purpose x.body;
            ends = refl;
          };
          callers = (record { sig = g; own = own; scope = sc; base = base; frame = frame; values = k; this = this; ok = o; ends = ends }, callers);
          env = like t few Q kept env refl refl refl;
        },
        begins (t.routine n) _ new refl refl refl refl refl,
      )

  pub call : (n : ℕ) (c : Option Routine) (own more : List Ty) (todo : List Todo) → slice_get source.routines n ≡ c → BeginsAt t source s (length s.env.frames) Nothing todo s.run.control (t.routine n) → own ≡ onto (t.routine n).params more → (t.routine n).this ≡ None → Ok t g base sc todo (Num ∷ more) → All todo own s.run.operands → After (q.call_step c todo s)
  call n None own more todo e b u i o h = (tt, env)
  call n (Some r) own more todo e b u i o h =
      let x = sound.routines n r e in
      let v : All todo (onto (t.routine n).params more) s.run.operands = subst (λ l. All todo l s.run.operands) u h in
      either After (nat_lt s.env.links.calls CALLS) _ _ (begun n r Nothing true more more todo (drop r.params s.run.operands) e b v (subst (λ o. KnownThis t few s.env.exec (With t few s sigs todo) (t.routine n) o Nothing) (sym i) tt) o (behind todo (t.routine n).params more r.params x.params v)) (tt, tt)

  on_begun : (n : ℕ) (r : Routine) (counts : Bool) (own more : List Ty) (c : ℕ) (todo : List Todo) → slice_get source.routines n ≡ Some r → ((q : Routine) → slice_get source.routines n ≡ Some q → BeginsAt t source s (length s.env.frames) (top (drop q.params s.run.operands)) todo s.run.control (t.routine n)) → own ≡ onto (t.routine n).params (object_ty (t.routine n).whole c ∷ more) → (t.routine n).this ≡ Some c → Ok t g base sc todo (Num ∷ more) → All todo own s.run.operands → After (q.begun_step r (top (drop r.params s.run.operands)) counts todo (below (drop r.params s.run.operands)) s)
  on_begun n r counts own more c todo e b u i o h =
      let x = sound.routines n r e in
      let v : All todo (onto (t.routine n).params (object_ty (t.routine n).whole c ∷ more)) s.run.operands = subst (λ l. All todo l s.run.operands) u h in
      let d : All todo (object_ty (t.routine n).whole c ∷ more) (drop r.params s.run.operands) = behind todo (t.routine n).params (object_ty (t.routine n).whole c ∷ more) r.params x.params v in
      begun n r (top (drop r.params s.run.operands)) counts more (object_ty (t.routine n).whole c ∷ more) todo (below (drop r.params s.run.operands)) e (b r e) v (subst (λ o. KnownThis t few s.env.exec (With t few s sigs todo) (t.routine n) o (top (drop r.params s.run.operands))) (sym i) (newest t few s.env.exec (With t few s sigs todo) (object_ty (t.routine n).whole c) more (drop r.params s.run.operands) d)) o (rest_of t few s.env.exec (With t few s sigs todo) (object_ty (t.routine n).whole c) more (drop r.params s.run.operands) d)

  pub call_on : (n : ℕ) (c : Option Routine) (own more : List Ty) (k : ℕ) (todo : List Todo) → slice_get source.routines n ≡ c → ((q : Routine) → slice_get source.routines n ≡ Some q → BeginsAt t source s (length s.env.frames) (top (drop q.params s.run.operands)) todo s.run.control (t.routine n)) → own ≡ onto (t.routine n).params (object_ty (t.routine n).whole k ∷ more) → (t.routine n).this ≡ Some k → Ok t g base sc todo (Num ∷ more) → All todo own s.run.operands → After (q.call_on_step c todo s)
  call_on n None own more k todo e b u i o h = (tt, env)
  call_on n (Some r) own more k todo e b u i o h =
      either After (nat_lt s.env.links.calls CALLS) _ _ (on_begun n r true own more k todo e b u i o h) (tt, tt)

  pub call_unwritten : (n : ℕ) (c : Option Routine) (own more : List Ty) (k : ℕ) (todo : List Todo) → slice_get source.routines n ≡ c → ((q : Routine) → slice_get source.routines n ≡ Some q → BeginsAt t source s (length s.env.frames) (top (drop q.params s.run.operands)) todo s.run.control (t.routine n)) → own ≡ onto (t.routine n).params (object_ty (t.routine n).whole k ∷ more) → (t.routine n).this ≡ Some k → Ok t g base sc todo (Num ∷ more) → All todo own s.run.operands → After (q.call_unwritten_step c todo s)
  call_unwritten n None own more k todo e b u i o h = (tt, env)
  call_unwritten n (Some r) own more k todo e b u i o h = on_begun n r false own more k todo e b u i o h

  -- an exit
  ended : (w : Way) → After (q.end_step w s)
  ended ToReturn = end_knows t few Q kept source s sigs frames env s.run.handles (top s.run.operands) callers
  ended ToEnd = end_knows t few Q kept source s sigs frames env s.run.handles nought callers
  ended ToBreak = returned_knows t few Q kept source s sigs frames env nought s.callers refl callers
  ended ToContinue = returned_knows t few Q kept source s sigs frames env nought s.callers refl callers

  -- it hands over a number, or nothing
  no_values : (own : List Ty) (todo new : List Todo) (vs : List Value) → IsNone own → All todo own vs → All new own vs
  no_values [] todo new [] x h = tt
  no_values [] todo new (v ∷ vs) x h = absurd h
  no_values (a ∷ own) todo new vs x h = absurd x

  one_value : (todo new : List Todo) (vs : List Value) → All todo (Num ∷ []) vs → All new (Num ∷ []) vs
  one_value todo new [] h = absurd h
  one_value todo new (v ∷ []) h = (tt, tt)
  one_value todo new (v ∷ (w ∷ vs)) h = absurd h.1

  exit_values : (w : Way) (own : List Ty) (todo new : List Todo) (vs : List Value) → Exits t g w own → All todo own vs → All new own vs
  exit_values ToReturn own todo new vs x h = subst (λ own. All new own vs) (sym x.0) (one_value todo new vs (subst (λ own. All todo own vs) x.0 h))
  exit_values ToBreak own todo new vs x h = no_values own todo new vs x h
  exit_values ToContinue own todo new vs x h = no_values own todo new vs x h
  exit_values ToEnd own todo new vs x h = no_values own todo new vs x h

  pub exits : (w : Way) (todo : List Todo) (own : List Ty) → Exits t g w own → Left t g base sc todo → All todo own s.run.operands → After (q.exit_step w todo s)
  exits w [] own x l h = ended w
  exits w (p ∷ ps) own x l h = go sc own (q.left_behind w (pc.sort p) ps) s.run.operands (exit_left t g base sc w (pc.sort p) ps own x l) (exit_values w own (p ∷ ps) (q.left_behind w (pc.sort p) ps) s.run.operands x h)

  -- with no operands

  none : (todo : List Todo) → s.run.operands ≡ [] → All todo [] s.run.operands
  none todo e = subst (λ vs. All todo [] vs) (sym e) tt

  on : (inner : List Name) (todo : List Todo) → s.run.operands ≡ [] → Ok t g base inner todo [] → FollowsOn Q t few source s sigs [] (at todo s.run.operands s)
  on inner todo e o = go inner [] todo s.run.operands o (none todo e)

  -- coroutines and tasks
  task : (a : TaskStmt) (todo : List Todo) → FineTask t g sc a → Ok t g base sc todo [] → s.run.operands ≡ [] → After (q.task_step a todo s)
  task (Resume line) todo f o h = on sc _ h (f, (tt, o))
  task (Suspend line) todo f o h = on sc _ h (tt, o)
  task (SetUp r) todo f o h = on sc _ h (f.0, f.1, o)
  task Enliven todo f o h = on sc _ h (f, o)
  task TakeDown todo f o h = on sc _ h (f, o)
  task (Yield line) todo f o h = on sc _ h (tt, o)
  task (Migrate line e) todo f o h = on sc _ h (Clu, f, (tt, o))
  task (Accept line site cs) todo f o h = on sc _ h (f.1, ([], ap (λ l. onto l []) (guard_nums cs), f.0, (tt, f.2, (tt, o))))

  -- events
  event : (a : EventStmt) (todo : List Todo) → FineEvent t g sc a → Ok t g base sc todo [] → s.run.operands ≡ [] → After (q.event_step a todo s)
  event (Throw line x) todo f o h = on sc _ h (raised_ok t g base sc x (pc.ThrowNow ∷ (pc.Within line ∷ todo)) f (tt, o))
  event (Raise line x) todo f o h = on sc _ h (raised_ok t g base sc x (pc.RaiseNow ∷ (pc.Within line ∷ todo)) f (tt, o))
  event (Try line body hs) todo f o h = on sc _ h (tt, f.0, (tt, f.1, (tt, o)))
  event (RaiseAt line x a) todo f o h =
      on sc _ h (raised_ok t g base sc x (pc.Eval a ∷ (pc.RaiseAtNow ∷ (pc.Within line ∷ todo))) f.0 (Obj f.1.0, f.1.1, (f.1.2, (tt, o))))
  event (Enable line events cell a) todo f o h = on (Kept ∷ sc) _ h (tt, f, ((tt, tt, (tt, o)), tt))
  event (Disable line events cell a) todo f o h = on (Kept ∷ sc) _ h (tt, f, ((tt, tt, (tt, o)), tt))

  -- a statement
  plain : (a : Stmt) (todo : List Todo) → FineStmt t g sc a → Ok t g base sc todo [] → s.run.operands ≡ [] → After (q.stmt_step a todo s)
  plain (Skip line) todo f o h = on sc _ h o
  plain (Block line body) todo f o h = on sc _ h (tt, f, (tt, o))
  plain (Whole line body) todo f o h = on sc _ h (tt, f.0, (tt, f.1, (tt, o)))
  plain (Evaluate line a) todo f o h = on sc _ h (f.0, f.1, (tt, o))
  plain (Declare line ds) todo f o h = on sc _ h (f, (tt, o))
  plain (Print line is) todo f o h = on sc _ h (f, (tt, o))
  plain (PrintTogether line is) todo f o h = on sc _ h (f, ([], refl, (tt, o)))
  plain (Read line xs) todo f o h = on sc _ h (f, (tt, o))
  plain (If line e a b) todo f o h = on sc _ h (Num, f.0, (tt, f.1, f.2, (tt, o)))
  plain (Loop line d e step b) todo f o h = on sc _ h (loop_ok t g base sc d e step b _ f (tt, o))
  plain (Break line) todo f o h = on sc _ h (tt, left t g base sc todo [] o)
  plain (Continue line) todo f o h = on sc _ h (tt, left t g base sc todo [] o)
  plain (Return line None) todo f o h = on sc _ h (tt, left t g base sc todo [] o)
  plain (Return line (Some e)) todo f o h = on sc _ h (Num, f.0, ((refl, f.1), left t g base sc todo [] o))
  plain (Owes line) todo f o h = on sc _ h (tt, o)
  plain (Fill line n1 b d) todo f o h = on sc _ h (f.0, f.1, (tt, o))
  plain (OfEvents a) todo f o h = event a todo f o h
  plain (OfTasks a) todo f o h = task a todo f o h

  no_operands : (todo : List Todo) (vs : List Value) → All todo [] vs → vs ≡ []
  no_operands todo [] h = refl
  no_operands todo (v ∷ vs) h = absurd h

  pub stmt : (a : Stmt) (todo : List Todo) (own : List Ty) → IsNone own → FineStmt t g sc a → Ok t g base sc todo own → All todo own s.run.operands → After (q.stmt_step a todo s)
  stmt a todo (x ∷ own) n f o h = absurd n
  stmt a todo [] n f o h = plain a todo f o (no_operands todo s.run.operands h)

  stmts : (a : Stmts) (todo : List Todo) → FineStmts t g sc a → Ok t g base sc todo [] → s.run.operands ≡ [] → After (q.rest_step a todo s)
  stmts Nil todo f o h = on sc _ h o
  stmts (Then a more) todo f o h = on sc _ h (tt, f.0, (tt, f.1, o))
  stmts (Scoped c more) todo f o h = on (f.0 ∷ sc) _ h (tt, f.2, ((f.1, f.3, o), tt))
  stmts (Built c more) todo f o h = on sc _ h (tt, f.0, (f.1, o, tt))

  pub rest : (a : Stmts) (todo : List Todo) (own : List Ty) → IsNone own → FineStmts t g sc a → Ok t g base sc todo own → All todo own s.run.operands → After (q.rest_step a todo s)
  rest a todo (x ∷ own) n f o h = absurd n
  rest a todo [] n f o h = stmts a todo f o (no_operands todo s.run.operands h)

  -- outcomes
  pub outcome : (x : Outcome) (todo : List Todo) (own : List Ty) (vs : List Value) → Ok t g base sc todo (Num ∷ own) → All todo own vs → After (pc.outcome_step x todo vs s)
  outcome (Gives n) todo own vs o h = go sc (Num ∷ own) todo _ o (tt, h)
  outcome (Faults f) todo own vs o h = (tt, tt)

  -- the task has changed, but for what it holds
  same_in : (own : List Ty) (todo : List Todo) (vs : List Value) (e : Env) → e.exec ≡ s.env.exec → e.frames ≡ s.env.frames → e.hand ≡ s.env.hand → e.house ≡ s.env.house → e.own ≡ s.env.own → Ok t g base sc todo own → All todo own vs → FollowsOn Q t few source s sigs [] (at todo vs (pc.in_env e s))
  same_in own todo vs e x f d u w o h =
      going.put t few Q kept source s sigs g base frames frame this callers env ends sc [] own todo vs e s.run.elements (keeps_like t few Q kept env x f d u w) o h

  pub print : (gathered : Option (List Piece)) (p : Piece) (todo : List Todo) (own : List Ty) (vs : List Value) → Ok t g base sc todo own → All todo own vs → After (pc.print_step gathered p todo vs s)
  print None p todo own vs o h = (tt, go sc own todo vs o h)
  print (Some ps) p todo own vs o h = same_in own todo vs (record s.env { gathered = Some (pc.with_piece p ps) }) refl refl refl refl refl o h

  pub flush : (gathered : Option (List Piece)) (todo : List Todo) (own : List Ty) (vs : List Value) → Ok t g base sc todo own → All todo own vs → After (pc.flush_step gathered todo vs s)
  flush None todo own vs o h = go sc own todo vs o h
  flush (Some []) todo own vs o h = same_in own todo vs (record s.env { gathered = None }) refl refl refl refl refl o h
  flush (Some (p ∷ ps)) todo own vs o h = (tt, same_in own todo vs (record s.env { gathered = None }) refl refl refl refl refl o h)

  pub element : (n : ℕ) (i : Option ℕ) (k : Shape) (a : Ty) (todo : List Todo) (v : Value) (own : List Ty) (vs : List Value) → ((j : ℕ) → i ≡ Some j → j < n) → IsPlaced t a → (IsTracked t a → k ≡ element_shape t a) → Known t few s.env.exec (With t few s sigs todo) (Row n a) v → Ok t g base sc todo (a ∷ own) → All todo own vs → After (pc.element_step k i todo v vs s)
  element n None k a todo v own vs l d f w o h = (tt, tt)
  element n (Some i) k a todo v own vs l d f w o h =
      go sc (a ∷ own) todo _ o (further_element t few s.env.exec (With t few s sigs todo) n i a k v (l i refl) d f w, h)
