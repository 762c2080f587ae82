-- A quiet step of a state in which what is bound lies aside of what is still to be bound leads to one.
use Rattle.std.proofs.Common.{◌≡◌, ℕ, zero, suc, ◌+◌, ◌⊎◌, inl, inr, ◌++◌, Bool, true, false, ◌&&◌, List, [], ◌∷◌, length, drop, Option, Some, None, refl, sym, ap, ◌∙◌, subst}
use Rattle.std.specs.Prelude.{nat_eq, nat_lt, slice_set, pos}
use Rattle.uc_tree.specs.declared.limits.TheConstants.{CALLS, PENDING_EVENTS}
use Rattle.uc_tree.specs.Source as src
use Rattle.uc_tree.specs.Source.{Shape, Expr, ObjectExpr, Stmt, Stmts, EventStmt, TaskStmt, Routine, Purpose, Order, Way, CleanUp, Handlers, Clauses, Raised, Item, Source}
use Rattle.uc_entry.specs.declared.fault.RunFault.{RunFault}
use Rattle.uc_entry.specs.declared.fault.RunFault.TheVariants.{Index, Depth, BlockedInside, TooManyPending, NotLive, Unhandled}
use Rattle.uc_entry.specs.declared.request.Piece.{Piece}
use Rattle.uc_entry.specs.declared.request.Request.TheVariants as ask
use Rattle.uc_entry.specs.Keyed.{find, signed_64}
use Rattle.uc_machine.specs.declared.exec.Exec.{Exec}
use Rattle.uc_machine.specs.declared.exec.Pending.{Pending}
use Rattle.uc_machine.specs.declared.exec.UnwindReason.{UnwindReason}
use Rattle.uc_machine.specs.declared.exec.UnwindReason.TheVariants as reason
use Rattle.uc_machine.specs.declared.exec.Visited.{Visited}
use Rattle.uc_machine.specs.Executions.{others}
use Rattle.uc_machine.specs.Switches as sw
use Rattle.uc_machine.specs.Switches.{Moved, To, Stops}
use Rattle.uc_machine.specs.Insides as inside
use Rattle.uc_machine.specs.Raising as raising
use Rattle.uc_machine.specs.Raising.{Handler, Found, Hit}
use Rattle.uc_machine.specs.Monitors as monitors
use Rattle.uc_machine.specs.Polls as polls
use Rattle.uc_machine.specs.Quiet as quiet
use Rattle.uc_machine.specs.Pieces as piece
use Rattle.uc_machine.specs.Pieces.{Value, Number, Place, Running, Object, Nothing, Slot, Todo, Sort, Active, State, Env, Members, Step, Goes, Ticks, Asks, Outcome, Gives, Faults, at, in_env, goes, fault, asks, turns, top, below, number, written}
use Rattle.uc_state_laws.specs.There.{IsLoose, NextDrop, EachNext}
use Rattle.uc_state_laws.proofs.ValueSteps.{exec_same}
use Rattle.uc_state_laws.specs.Counted.{params_at, params, count, CountedExpr, CountedRaised, CountedAt}
use Rattle.uc_place_laws.specs.OpeningLaws.{NoneAwaited}
use Rattle.uc_place_laws.specs.Calling.{NoneCalled, NoneBehind}
use Rattle.uc_place_laws.specs.OlderResting.{AllWait, NamedEnv}
use Rattle.uc_place_laws.specs.Siting.{Nowhere, Everywhere, OpensAt, OpensAlone, PlainExpr, PlainNew, SitedAt, BuildsAt, Singly, PlainSingle, SitedExpr, SitedRaised}
use Rattle.uc_place_laws.specs.Asides.{LiesAside, IsNear, Sits, Mark, Any, Aside, Loose, Holds, FirstAside, FirstLoose, rest, rests, anys, Free, Calm, NextAlone, CodeMaybe, CodeItems, CodeClean, CodeEnds, CodeStmt, CodeStmts, CodeHandlers, CodeClauses, CodeLoop, CodeRoutine, CallFits, FillsBy, LeftBy, Ok, Left, Finds, Runs, Waits, AsideState, AsideStep}
use Rattle.uc_place_laws.proofs.AsideKeeping as kept
use Rattle.uc_place_laws.proofs.AsideKeeping.{either}
use Rattle.uc_place_laws.proofs.AsideMarks as marks
use Rattle.uc_place_laws.proofs.AsideMarks.{holds_below, holds_aside, holds_loose, loose_aside, set_loose, holds_drop, holds_anys, rests_anys, drop_set, further_aside, further_sits, field_sits, waits_aside, calm_free, calm_none, singly_more, sited_more, Rooted, NearNew, near_sited, stmt_more, AllLeft, waits_left}

no_both : {A : Type 0} (b : Bool) → b ≡ true → b ≡ false → A
no_both b h k = absurd (cc)

module _ (Z : ℕ → ℕ → Type 0) (makes : ℕ → Bool) (source : Source) where
  abbrev E : Env → Type 0
  E e = NamedEnv (Runs Z makes source) (Waits Z makes source) e

  abbrev W : Exec → List Active → Type 0
  W n cs = AllWait (Runs Z makes source) (Waits Z makes source) n cs

  pub calm : (n : Exec) (older : List Active) (a : Active) (w : Option UnwindReason) → Runs Z makes source n older a → Runs Z makes source n older (record a { raised = w })
  calm n older a w h = record { made = h.made; this = h.this; marks = h.marks; holds = h.holds; ok = h.ok }

  abbrev K : Env → Env → Type 0
  K e f = kept.Keeps (Runs Z makes source) (Waits Z makes source) calm e f

  abbrev M : Moved (List Todo) Value → Type 0
  M m = kept.NamedMoved (Runs Z makes source) (Waits Z makes source) calm m

  pub likes : {e f : Env} → E e → f.hand ≡ e.hand → f.house ≡ e.house → f.own ≡ e.own → E f
  likes h g i o = kept.like (Runs Z makes source) (Waits Z makes source) calm h g i o

  -- handlers that run as activations of their own

  abbrev pub OfFound : Option Found → Type 0
  OfFound None = Unit {0}
  OfFound (Some x) = CodeStmts makes source false x.handler.body

  abbrev OfHandler : Bool → Option Handler → Type 0
  OfHandler made None = Unit {0}
  OfHandler made (Some x) = CodeStmts makes source made x.body

  abbrev OfHit : Option Hit → Type 0
  OfHit None = Unit {0}
  OfHit (Some x) = CodeStmts makes source false x.handler.body

  handler_for : (made kind : Bool) (e : raising.Event) (hs : Handlers) → CodeHandlers makes source made hs → OfHandler made (raising.handler_for kind e hs)
  handler_for made kind e src.NoHandlers h = tt
  handler_for made kind e (src.MoreHandlers resumes event cell line body others) h =
      either (OfHandler made) (raising.same_kind kind resumes && raising.takes event e) (Some (record { cell = cell; line = line; body = body })) (raising.handler_for kind e others) (h.0.0, h.1.0) (handler_for made kind e others (h.0.1, h.1.1))

  alone_for : (made kind : Bool) (e : raising.Event) (hs : Handlers) → CodeHandlers makes source made hs → OfHandler false (raising.handler_for kind e hs)
  alone_for made kind e src.NoHandlers h = tt
  alone_for made kind e (src.MoreHandlers resumes event cell line body others) h =
      either (OfHandler false) (raising.same_kind kind resumes && raising.takes event e) (Some (record { cell = cell; line = line; body = body })) (raising.handler_for kind e others) (h.0.0, h.1.2) (alone_for made kind e others (h.0.1, h.1.1))

  hit_or : (x : Option Handler) (n : ℕ) (other : Option Hit) → OfHandler false x → OfHit other → OfHit (raising.hit_or x n other)
  hit_or None n other h k = k
  hit_or (Some x) n other h k = h

  module _ (Near : ℕ → Type 0) (made : Bool) where
    abbrev pub LeftTo : List Todo → Type 0
    LeftTo todo = Left makes source Near made todo

    -- what is known of a mark that is left
    hit_by : (k : Sort) (n : ℕ) (e : raising.Event) (ps : List Todo) (other : Option Hit) (l o : Type 0) → LeftBy makes source Near made k ps l o → OfHit other → OfHit (raising.hit_by k n e other)
    hit_by (piece.IsGuard hs) n e ps other l o h k = hit_or (raising.handler_for true e hs) n other (alone_for made true e hs h.0.0) k
    hit_by s n e ps other l o h k = k

    hit_in : (e : raising.Event) (todo : List Todo) → LeftTo todo → OfHit (raising.hit_in e todo)
    hit_in e [] h = tt
    hit_in e (p ∷ ps) h =
        hit_by (piece.sort p) (raising.count_round ps) e ps (raising.hit_in e ps) (LeftTo ps) (Ok makes source Near made [] ps) h (hit_in e ps (marks.left_tail makes source Near made p ps h))

    within : (n : ℕ) (todo : List Todo) → LeftTo todo → LeftTo (raising.within n todo)
    within n [] h = tt
    within n (p ∷ ps) h =
        either LeftTo (nat_eq (raising.count_round (p ∷ ps)) n) (p ∷ ps) (raising.within n ps) h (within n ps (marks.left_tail makes source Near made p ps h))

  found_or : (x : Option Hit) (a : Active) (cs : List Active) (other : Option Found) → OfHit x → OfFound other → OfFound (raising.found_or x a cs other)
  found_or None a cs other h k = k
  found_or (Some x) a cs other h k = h

  seek : (v : Option Visited) (e : raising.Event) (cs : List Active) → AllLeft Z makes source cs → OfFound (raising.seek v e cs)
  seek None e [] h = tt
  seek (Some v) e [] h = tt
  seek None e (a ∷ cs) h = found_or (raising.hit_in e a.control) a cs (raising.seek a.handles e cs) (hit_in (IsNear Z a.frame cs) h.0.made e a.control h.0.rest) (seek a.handles e cs h.1)
  seek (Some v) e (a ∷ cs) h =
      either OfFound (nat_eq (length cs) v.level) (raising.found_or (raising.hit_in e (raising.within v.rest a.control)) a cs (raising.seek a.handles e cs)) (raising.seek (Some v) e cs) (found_or (raising.hit_in e (raising.within v.rest a.control)) a cs (raising.seek a.handles e cs) (hit_in (IsNear Z a.frame cs) h.0.made e (raising.within v.rest a.control) (within (IsNear Z a.frame cs) h.0.made v.rest a.control h.0.rest)) (seek a.handles e cs h.1)) (seek (Some v) e cs h.1)

  -- calls take as many operands as there are arguments

  first_on : (n r : ℕ) (ms : List Mark) → n ≡ params source r → FirstAside (rests (params source r) (anys n (Aside ∷ ms)))
  first_on n r ms e =
      subst (λ k. FirstAside (rests k (anys n (Aside ∷ ms)))) e (subst FirstAside (sym (rests_anys n (Aside ∷ ms))) tt)

  below_on : (n r : ℕ) (m : Mark) (ms : List Mark) → n ≡ params source r → rests (suc (params source r)) (anys n (m ∷ ms)) ≡ ms
  below_on n r m ms e = subst (λ k. rest (rests k (anys n (m ∷ ms))) ≡ ms) e (ap rest (rests_anys n (m ∷ ms)))

  module _ (Near : ℕ → Type 0) (made : Bool) where
    abbrev pub Fits : List Mark → List Todo → Type 0
    Fits ms todo = Ok makes source Near made ms todo

    left : (ms : List Mark) (todo : List Todo) → Fits ms todo → LeftTo Near made todo
    left ms todo h = marks.left makes source Near made ms todo h

    -- what is to do in a routine

    behind : (p : Purpose) (line : ℕ) → Fits [] (quiet.behind_body p line)
    behind src.TaskMain line = (tt, (tt, tt))
    behind src.CoroutineMain line = (tt, (tt, tt))
    behind src.Procedure line = (tt, tt)
    behind src.Function line = (tt, (tt, tt))
    behind src.Builder line = tt

    behind_calm : (p : Purpose) (line : ℕ) → Calm (quiet.behind_body p line)
    behind_calm src.TaskMain line = tt
    behind_calm src.CoroutineMain line = tt
    behind_calm src.Procedure line = tt
    behind_calm src.Function line = tt
    behind_calm src.Builder line = tt

    pub routine : (r : Routine) → CodeStmts makes source made r.body → Fits [] (quiet.routine_todo r)
    routine r h = ((h, behind_calm r.purpose r.line), behind r.purpose r.line)

    -- to-do lists

    pub starts : (cell : ℕ) (v : Option Expr) (todo : List Todo) → CodeMaybe makes source v → Fits [] todo → Fits [] (quiet.starting cell v todo)
    starts cell None todo n h = h
    starts cell (Some e) todo n h = (tt, inl (tt, (n.0, inl (n.1, (tt, h)))))

    converts : (k : Shape) (ms : List Mark) (todo : List Todo) → Fits (Any ∷ ms) todo → Fits (Any ∷ ms) (quiet.converting k todo)
    converts src.Character ms todo h = (tt, h)
    converts src.Truth ms todo h = (tt, h)
    converts k ms todo h = h

    pub stepped : (e : Option Expr) (todo : List Todo) → CodeMaybe makes source e → Fits [] todo → Fits [] (quiet.step_todo e todo)
    stepped None todo n h = h
    stepped (Some e) todo n h = (n.0, inl (n.1, (tt, h)))

    abbrev pub F : Expr → Option Expr → Stmt → List Todo → Type 0
    F t e b todo = CodeLoop makes source made t e b × Calm todo

    pub tested : (o : Order) (t : Expr) (e : Option Expr) (b : Stmt) (todo : List Todo) → F t e b todo → Fits [] todo → Fits [] (quiet.test_todo o t e b todo)
    tested src.TestFirst t e b todo n h = (n.0.0.0, inl (n.0.0.1, (n, h)))
    tested src.BodyFirst t e b todo n h = (n.0.0.0, inl (n.0.0.1, (n, h)))
    tested src.NoTest t e b todo n h = (n, h)

    looped : (o : Order) (t : Expr) (e : Option Expr) (b : Stmt) (todo : List Todo) → F t e b todo → Fits [] todo → Fits [] (quiet.loop_todo o t e b todo)
    looped src.TestFirst t e b todo n h = (n.0.0.0, inl (n.0.0.1, (n, h)))
    looped src.BodyFirst t e b todo n h = (n, h)
    looped src.NoTest t e b todo n h = (n, h)

    loop_left : (w : Way) (o : Order) (t : Expr) (e : Option Expr) (b : Stmt) (todo : List Todo) → F t e b todo → Fits [] todo → Fits [] (quiet.loop_left w o t e b todo)
    loop_left src.ToBreak o t e b todo n h = h
    loop_left src.ToContinue o t e b todo n h = (n, h)
    loop_left src.ToReturn o t e b todo n h = (n.1, left [] todo h)
    loop_left src.ToEnd o t e b todo n h = (n.1, left [] todo h)

    left_behind : (w : Way) (k : Sort) (todo : List Todo) → (k ≡ piece.Simple → Calm todo) → LeftBy makes source Near made k todo (LeftTo Near made todo) (Fits [] todo) → Fits [] (quiet.left_behind w k todo)
    left_behind w piece.Simple todo c h = (c refl, h)
    left_behind w (piece.IsLoop o t e b) todo c h = loop_left w o t e b todo h.0 h.1
    left_behind w piece.IsWhole todo c h = h
    left_behind w (piece.IsClean x) todo c h = (h.0, (h.0.1, left [] todo h.1))
    left_behind w (piece.IsFill m b d) todo c h = (h.0.2, left [] todo h.1)
    left_behind w (piece.IsSweep e) todo c h = (h.0.1, left [] todo h.1)
    left_behind w (piece.IsPart x) todo c h = (h.0.1, left [] todo h.1)
    left_behind w (piece.IsGuard hs) todo c h = (h.0.1, left [] todo h.1)
    left_behind w piece.IsFinish todo c h = (tt, h)
    left_behind w piece.IsFinishCoroutine todo c h = (tt, h)

    calm_tail : (p : Todo) (todo : List Todo) → Calm (p ∷ todo) → Calm todo
    calm_tail (piece.Eval e) todo h = absurd h
    calm_tail (piece.Do x) todo h = absurd h
    calm_tail (piece.CallOnNow r) todo h = absurd h
    calm_tail (piece.CallUnwrittenNow r) todo h = absurd h
    calm_tail piece.BindNow todo h = absurd h
    calm_tail (piece.MakeNow c r) todo h = absurd h
    calm_tail (piece.BindMadeNow c r) todo h = absurd h
    calm_tail p todo h = h

    -- an expression that is evaluated by itself
    single : (ms : List Mark) (e : Expr) (todo : List Todo) → CountedExpr source e → SitedExpr makes Near made e → Free todo → EachNext (λ p. ⊥) todo → NoneCalled todo → Fits (Any ∷ ms) todo → Fits ms (piece.Eval e ∷ todo)
    single ms e todo n (inl (inl k)) f d u h = (n, inl (k, h))
    single ms e todo n (inl (inr k)) f d u h = (n, inr (inl (k, f, h, u)))
    single ms e todo n (inr k) f d u h = (n, inr (inr (inl (k, f, d, h, u))))

    ends_plainly : (ms : List Mark) (e : Expr) (todo : List Todo) → CodeEnds makes source e → Free todo → NoneCalled todo → Fits (Any ∷ ms) todo → Fits ms (piece.Eval e ∷ todo)
    ends_plainly ms e todo (n, inl k) f u h = (n, inl (k, h))
    ends_plainly ms e todo (n, inr k) f u h = (n, inr (inl (singly_more makes false made (λ q. absurd (cc)) e k, f, h, u)))

    pub filled : (b : Bool) (n : ℕ) (e d : Expr) (todo : List Todo) → FillsBy makes source Near made n e d todo → CodeEnds makes source d → Calm todo → Fits [] todo → Fits [] (quiet.fill_todo b n e d todo)
    filled false n e d todo k q c h = h
    filled true n e d todo (k, inl (inl y)) q c h = (k, inl (y, (tt, (tt, (((k, inl (inl y)), q, c), h)))))
    filled true n e d todo (k, inl (inr y)) q c h = (k, inr (inl (y, calm_free todo c, (tt, (tt, (((k, inl (inr y)), q, c), h))), calm_none todo c)))
    filled true n e d todo (k, inr y) q c h = (k, inr (inr (inl (y.0, calm_free todo c, y.1, (tt, (tt, (((k, inr y), q, c), h))), calm_none todo c))))

    -- an event is found before it is raised
    abbrev pub BuiltNear : Raised → Type 0
    BuiltNear (src.BuiltAt n k e) = SitedExpr makes Near made e
    BuiltNear r = Unit {0}

    pub raised : (r : Raised) (todo : List Todo) → CountedRaised source r → BuiltNear r → NextDrop (λ p. ⊥) todo → Free todo → NoneAwaited todo → NoneCalled todo → Fits (Any ∷ (Any ∷ (Any ∷ []))) todo → Fits [] (raising.raised_todo r todo)
    raised (src.Plainly n) todo k q d f v u h = (tt, inl (tt, (tt, inl (tt, (tt, inl (tt, h))))))
    raised (src.BuiltAt n c e) todo k q d f v u h =
        (tt, single [] e (piece.DropNow ∷ (piece.Eval (src.Literal (pos n)) ∷ (piece.Eval (src.Get c) ∷ (piece.Eval (src.Get (c + 1)) ∷ todo)))) k q (tt, (tt, (d, f))) tt (tt, (tt, (v, u))) (tt, (tt, inl (tt, (tt, inl (tt, (tt, inl (tt, h))))))))
    raised (src.AgainFrom c) todo k q d f v u h = (tt, inl (tt, (tt, inl (tt, (tt, inl (tt, h))))))

    counted_at : (r : Raised) → CountedAt source r → CountedRaised source r
    counted_at (src.Plainly n) h = tt
    counted_at (src.BuiltAt n c e) h = h.1
    counted_at (src.AgainFrom c) h = tt

    handled : (x : Handler) (todo : List Todo) → CodeStmts makes source made x.body → Calm todo → Fits [] todo → Fits [] (raising.handler_todo x todo)
    handled x todo k c h = (tt, (tt, (tt, (tt, (tt, (tt, ((k, c), (tt, h))))))))

    pub cleans : (c : CleanUp) (todo : List Todo) → CodeClean makes source c → Calm todo → Fits [] todo → Fits [] (piece.clean_todo c todo)
    cleans (src.Destroys e) todo n q h = ends_plainly [] e (piece.DropNow ∷ todo) n (calm_free todo q) (calm_none todo q) (tt, h)
    cleans (src.DestroysAll m e) todo n q h = (tt, ((n, q), h))
    cleans src.Unwinds todo n q h = (tt, h)
    cleans src.Forgets todo n q h = (tt, h)
    cleans src.Leaves todo n q h = (tt, h)
    cleans src.Ends todo n q h = (tt, h)
    cleans (src.Frees None) todo n q h = (tt, h)
    cleans (src.Frees (Some r)) todo n q h = (tt, h)
    cleans (src.Restores k) todo n q h = (tt, h)

    left_cleans : (c : CleanUp) (todo : List Todo) → CodeClean makes source c → Calm todo → Fits [] todo → Fits [] (raising.left_todo c todo)
    left_cleans (src.Frees r) todo n q h = (tt, h)
    left_cleans c todo n q h = cleans c todo n q h

    -- a statement of another one
    pub inner : (Alone : Type 0) (a : Stmt) → CodeStmt makes source Nowhere ⊥ made a → CodeStmt makes source Near Alone made a
    inner Alone a h = (h.0, stmt_more makes Nowhere Near ⊥ Alone made (λ k z. absurd z) (λ z. absurd z) a h.1)

    pub branch : (k : ℕ) (cs : Clauses) (todo : List Todo) → CodeClauses makes source made cs → Calm todo → Fits [] todo → Fits [] (monitors.branch_todo k cs todo)
    branch k src.NoClauses todo n c h = h
    branch k (src.Otherwise b) todo n c h = either (Fits []) (nat_eq k 0) (piece.Do b ∷ todo) todo (inner (NextAlone todo) b n, c, h) h
    branch zero (src.MoreClauses guard b cs) todo n c h = branch zero cs todo (n.0.2, n.1.2) c h
    branch (suc zero) (src.MoreClauses guard b cs) todo n c h = (inner (NextAlone todo) b (n.0.1, n.1.1), c, h)
    branch (suc (suc k)) (src.MoreClauses guard b cs) todo n c h = branch (suc k) cs todo (n.0.2, n.1.2) c h

    pub item : (i : Item) (is : List Item) (todo : List Todo) → CodeItems makes source (i ∷ is) → Fits [] todo → Fits [] (quiet.item_todo i todo)
    item (src.Show f e) is todo n h = (n.0.0, inl (n.1.0, (tt, h)))
    item (src.ShowText k) is todo n h = (tt, h)

    pub item_value : (i : Item) (is : List Item) (todo : List Todo) → CodeItems makes source (i ∷ is) → ((ms : List Mark) → Fits ms todo) → Fits [] (quiet.item_value i todo)
    item_value (src.Show f e) is todo n h = (n.0.0, inl (n.1.0, h (Any ∷ [])))
    item_value (src.ShowText k) is todo n h = h []

    pub item_piece : (i : Item) (todo : List Todo) → Fits [] todo → Fits [] (quiet.item_piece i ∷ todo)
    item_piece (src.Show f e) todo h = (tt, h)
    item_piece (src.ShowText k) todo h = (tt, h)

    polled : (o : Option UnwindReason) (ms : List Mark) (todo : List Todo) → Fits ms todo → Fits ms (monitors.leave_todo o todo)
    polled None ms todo h = (tt, h)
    polled (Some why) ms todo h = h

    -- calls

    called : (args : src.Exprs) (r : ℕ) (ms : List Mark) (todo : List Todo) → count args ≡ params source r → Fits (Any ∷ ms) todo → Fits (Any ∷ rests (params source r) (anys (count args) ms)) todo
    called args r ms todo e h =
        subst (λ n. Fits (Any ∷ rests n (anys (count args) ms)) todo) e (subst (λ ns. Fits (Any ∷ ns) todo) (sym (rests_anys (count args) ms)) h)

    called_on : (n r : ℕ) (m : Mark) (ms : List Mark) (todo : List Todo) → n ≡ params source r → Fits (Any ∷ ms) todo → Fits (Any ∷ rests (suc (params source r)) (anys n (m ∷ ms))) todo
    called_on n r m ms todo e h = subst (λ ns. Fits (Any ∷ ns) todo) (sym (below_on n r m ms e)) h

    -- a made object takes the place of its place below the arguments
    made_on : (n r : ℕ) (ms : List Mark) (todo : List Todo) → n ≡ params source r → Free todo → NoneCalled todo → Fits (Any ∷ ms) todo → (FirstAside (rests (params source r) (anys n (Aside ∷ ms))) × Free todo × NoneCalled todo) × (CallFits makes source r (anys (params source r) (Loose ∷ rests (suc (params source r)) (anys n (Aside ∷ ms)))) todo × Fits (Any ∷ rests (suc (params source r)) (anys (params source r) (Loose ∷ rests (suc (params source r)) (anys n (Aside ∷ ms))))) todo)
    made_on n r ms todo e f u h =
        let under : List Mark = rests (suc (params source r)) (anys n (Aside ∷ ms)) in
        ((first_on n r ms e, f, u), (inr (inl (subst FirstLoose (sym (rests_anys (params source r) (Loose ∷ under))) tt)), called_on (params source r) r Loose under todo refl (subst (λ ns. Fits (Any ∷ ns) todo) (sym (below_on n r Aside ms e)) h)))

  module _ (s : State) (callers : W s.env.exec s.callers) (env : E s.env) (made : Bool) (this : made ≡ true → LiesAside Z s.env.exec s.callers s.run.this × Sits Z s.env.exec s.callers s.run.this) where
    abbrev pub N : ℕ → Type 0
    N k = IsNear Z s.run.frame s.callers k

    abbrev pub O : List Mark → List Todo → Type 0
    O ms todo = Ok makes source (IsNear Z s.run.frame s.callers) made ms todo

    abbrev pub L : List Todo → Type 0
    L todo = Left makes source (IsNear Z s.run.frame s.callers) made todo

    abbrev pub H : List Mark → List Value → Type 0
    H ms vs = Holds Z s.env.exec s.run.frame s.run.this s.callers ms vs

    gone : (ms : List Mark) (todo : List Todo) → O ms todo → L todo
    gone ms todo h = left (IsNear Z s.run.frame s.callers) made ms todo h

    -- the running activation, with other operands and something else to do, where so many operands come in front of these
    pub finds : (many : ℕ) (ns : List Mark) (todo : List Todo) (vs : List Value) → H ns vs → O (anys many ns) todo → Finds Z makes source many s.env.exec s.callers (record s.run { control = todo; operands = vs })
    finds many ns todo vs k h = record { made = made; this = this; marks = ns; holds = k; ok = h }

    pub runs : (ns : List Mark) (todo : List Todo) (vs : List Value) → H ns vs → O ns todo → Runs Z makes source s.env.exec s.callers (record s.run { control = todo; operands = vs })
    runs ns todo vs k h = record { made = made; this = this; marks = ns; holds = k; ok = marks.now makes source (IsNear Z s.run.frame s.callers) made ns todo h }

    -- it is unwound
    pub unwound : (todo : List Todo) (vs : List Value) → L todo → AsideState Z makes source (at (piece.Unwind ∷ todo) vs s)
    unwound todo vs h = record { run = record { made = made; this = this; marks = []; holds = tt; ok = h }; callers = callers; env = env }

    pub go : (ns : List Mark) (todo : List Todo) (vs : List Value) → H ns vs → O ns todo → AsideState Z makes source (at todo vs s)
    go ns todo vs k h = record { run = runs ns todo vs k h; callers = callers; env = env }

    -- with something to do before which nothing need be known
    pub anew : (todo : List Todo) (vs : List Value) → O [] todo → AsideState Z makes source (at todo vs s)
    anew todo vs h = go [] todo vs tt h

    -- and with something written
    pub go_in : (ns : List Mark) (todo : List Todo) (vs : List Value) (e : Env) → H ns vs → O ns todo → K s.env e → AsideState Z makes source (at todo vs (in_env e s))
    go_in ns todo vs e k h i = kept.with_env (Runs Z makes source) (Waits Z makes source) calm (at todo vs s) (go ns todo vs k h) i

    pub same : {f : Env} → f.exec ≡ s.env.exec → f.hand ≡ s.env.hand → f.house ≡ s.env.house → f.own ≡ s.env.own → K s.env f
    same x h g o = kept.keeps_like (Runs Z makes source) (Waits Z makes source) calm env x h g o

    pub stop : (f : RunFault) (todo : List Todo) (vs : List Value) → AsideStep Z makes source (fault f todo vs s)
    stop f todo vs = record { run = tt; callers = callers; env = env }

    ends : (todo : List Todo) (vs : List Value) → AsideStep Z makes source (Asks ask.End (at todo vs s))
    ends todo vs = record { run = tt; callers = callers; env = env }

    pub moved : (m : Moved (List Todo) Value) (todo : List Todo) (vs : List Value) → M m → AsideStep Z makes source (piece.moves m (at todo vs s))
    moved (To t) todo vs m = m
    moved (Stops f) todo vs m = stop f todo vs

    pub write : (p v : Value) → K s.env (written p v s.env)
    write p v = kept.written_keeps (Runs Z makes source) (Waits Z makes source) calm p v s.env env

    pub outcome : (ms : List Mark) (o : Outcome) (todo : List Todo) (vs : List Value) → H ms vs → O (Any ∷ ms) todo → AsideStep Z makes source (piece.outcome_step o todo vs s)
    outcome ms (Gives n) todo vs k h = go (Any ∷ ms) todo _ (tt, k) h
    outcome ms (Faults f) todo vs k h = stop f todo vs

    -- an element is known to lie aside or not
    pub element : (ms : List Mark) (k : Shape) (i : Option ℕ) (todo : List Todo) (v : Value) (vs : List Value) → H ms (v ∷ vs) → O (Any ∷ rest ms) todo ⊎ (FirstAside ms × O (Aside ∷ rest ms) todo) → AsideStep Z makes source (piece.element_step k i todo v vs s)
    element ms k None todo v vs l h = stop Index todo vs
    element ms k (Some i) todo v vs l (inl h) = go (Any ∷ rest ms) todo _ (tt, holds_below Z s.env.exec s.run.frame s.run.this s.callers ms (v ∷ vs) l) h
    element ms k (Some i) todo v vs l (inr h) =
        let near = holds_aside Z s.env.exec s.run.frame s.run.this s.callers ms (v ∷ vs) l h.0 in
        go (Aside ∷ rest ms) todo _ ((further_aside Z s.env.exec s.callers (piece.At k i) v near.0, further_sits Z s.env.exec s.run.frame s.run.this s.callers k i v near.1), holds_below Z s.env.exec s.run.frame s.run.this s.callers ms (v ∷ vs) l) h.1

    pub condition : (ms : List Mark) (k : ℕ) (i : Option ℕ) (todo : List Todo) → H ms (below s.run.operands) → O (Any ∷ ms) todo → AsideStep Z makes source (monitors.condition_step k i todo s)
    condition ms k None todo l h = stop Index todo _
    condition ms k (Some i) todo l h = go (Any ∷ ms) todo _ (tt, l) h

    -- the end of an activation
    pub returned : (given : Value) (cs : List Active) → W s.env.exec cs → AsideStep Z makes source (piece.return_step given cs s)
    returned given [] c = record { run = tt; callers = callers; env = env }
    returned given (a ∷ cs) c = record { run = record { made = c.0.made; this = c.0.this; marks = Any ∷ c.0.marks; holds = (tt, c.0.holds); ok = marks.now makes source (IsNear Z a.frame cs) c.0.made (Any ∷ c.0.marks) a.control c.0.ok }; callers = c.1; env = likes env refl refl refl }

    past : (v : Visited) (given : Value) (cs : List Active) → W s.env.exec cs → AsideStep Z makes source (raising.return_past v given cs s)
    past v given [] c = record { run = tt; callers = callers; env = env }
    past v given (a ∷ cs) c = record { run = record { made = c.0.made; this = c.0.this; marks = []; holds = tt; ok = left (IsNear Z a.frame cs) c.0.made (Any ∷ c.0.marks) a.control c.0.ok }; callers = c.1; env = likes env refl refl refl }

    end_by : (v : Option Visited) (given : Value) → AsideStep Z makes source (raising.end_by v given s)
    end_by None given = returned given s.callers callers
    end_by (Some v) given = past v given s.callers callers

    end_step : (w : Way) → AsideStep Z makes source (quiet.end_step w s)
    end_step src.ToReturn = end_by s.run.handles _
    end_step src.ToEnd = end_by s.run.handles _
    end_step src.ToBreak = returned _ s.callers callers
    end_step src.ToContinue = returned _ s.callers callers

    pub exits : (w : Way) (todo : List Todo) → Calm todo → L todo → AsideStep Z makes source (quiet.exit_step w todo s)
    exits w [] c h = end_step w
    exits w (p ∷ ps) c h = anew _ _ (left_behind (IsNear Z s.run.frame s.callers) made w (piece.sort p) ps (λ q. calm_tail (IsNear Z s.run.frame s.callers) made p ps c) h)

    -- statements

    pub swept : (n : ℕ) (e : Expr) (todo : List Todo) → CodeEnds makes source e → Calm todo → O [] todo → AsideStep Z makes source (quiet.sweep_step n e todo s)
    swept zero e todo n c h = anew _ _ h
    swept (suc m) e todo n c h = record { run = record { made = made; this = this; marks = []; holds = tt; ok = ends_plainly (IsNear Z s.run.frame s.callers) made [] e (piece.DropNow ∷ (piece.Sweep e ∷ todo)) n (calm_free todo c) (calm_none todo c) (tt, ((n, c), h)) }; callers = callers; env = env }

    -- the hidden cells in which an event is built lie aside
    abbrev pub Hidden : Raised → Type 0
    Hidden (src.BuiltAt n k e) = IsNear Z s.run.frame s.callers k
    Hidden r = Unit {0}

    hidden : (r : Raised) → SitedRaised makes made r → Hidden r → BuiltNear (IsNear Z s.run.frame s.callers) made r
    hidden (src.BuiltAt n k e) q h = sited_more makes (λ i. i ≡ k) (IsNear Z s.run.frame s.callers) made made (λ i z. subst (IsNear Z s.run.frame s.callers) (sym z) h) (λ z. z) e q
    hidden (src.Plainly n) q h = tt
    hidden (src.AgainFrom k) q h = tt

    abbrev pub HiddenEvent : EventStmt → Type 0
    HiddenEvent (src.Throw line r) = Hidden r
    HiddenEvent (src.Raise line r) = Hidden r
    HiddenEvent (src.RaiseAt line r a) = Hidden r
    HiddenEvent a = Unit {0}

    abbrev pub HiddenStmt : Stmt → Type 0
    HiddenStmt (src.OfEvents a) = HiddenEvent a
    HiddenStmt a = Unit {0}

    raises_here : (r : Raised) (todo : List Todo) → CountedRaised source r → SitedRaised makes made r → Hidden r → NextDrop (λ p. ⊥) todo → Free todo → NoneAwaited todo → NoneCalled todo → O (Any ∷ (Any ∷ (Any ∷ []))) todo → O [] (raising.raised_todo r todo)
    raises_here r todo k q x d f v u h = raised (IsNear Z s.run.frame s.callers) made r todo k (hidden r q x) d f v u h

    event_step : (a : EventStmt) (todo : List Todo) → CodeStmt makes source (IsNear Z s.run.frame s.callers) (Unit {0}) made (src.OfEvents a) → HiddenEvent a → Calm todo → O [] todo → AsideStep Z makes source (quiet.event_step a todo s)
    event_step (src.Throw line r) todo n x c h = anew _ _ (raises_here r (piece.ThrowNow ∷ (piece.Within line ∷ todo)) n.0 n.1 x tt (calm_free todo c) tt (calm_none todo c) (tt, (tt, h)))
    event_step (src.Raise line r) todo n x c h = anew _ _ (raises_here r (piece.RaiseNow ∷ (piece.Within line ∷ todo)) n.0 n.1 x tt (calm_free todo c) tt (calm_none todo c) (tt, (tt, h)))
    event_step (src.Try line body hs) todo n x c h = anew _ _ (((n.0.0, n.1.0), c), (((n.0.1, n.1.1), c), (tt, h)))
    event_step (src.RaiseAt line r a) todo n x c h =
        anew _ _ (raises_here r (piece.Eval a ∷ (piece.RaiseAtNow ∷ (piece.Within line ∷ todo))) (counted_at (IsNear Z s.run.frame s.callers) made r n.0.0) n.1.0 x tt (tt, calm_free todo c) tt (tt, calm_none todo c) (n.0.1, inl (n.1.1, (tt, (tt, h)))))
    event_step (src.Enable line events cell a) todo n x c h = anew _ _ (tt, (tt, (inner (IsNear Z s.run.frame s.callers) made (Unit {0}) a n, c, (((tt, tt), c), (tt, h)))))
    event_step (src.Disable line events cell a) todo n x c h = anew _ _ (tt, (inner (IsNear Z s.run.frame s.callers) made (Unit {0}) a n, c, (((tt, tt), c), (tt, h))))

    task_step : (a : TaskStmt) (todo : List Todo) → CodeStmt makes source (IsNear Z s.run.frame s.callers) (Unit {0}) made (src.OfTasks a) → Calm todo → O [] todo → AsideStep Z makes source (quiet.task_step a todo s)
    task_step (src.Resume line) todo n c h = anew _ _ (tt, (tt, (tt, h)))
    task_step (src.Suspend line) todo n c h = anew _ _ (tt, (tt, (tt, h)))
    task_step (src.SetUp r) todo n c h = anew _ _ ((n.1.0, n.1.1, calm_free todo c, calm_none todo c), h)
    task_step src.Enliven todo n c h = anew _ _ (tt, h)
    task_step src.TakeDown todo n c h = anew _ _ (tt, h)
    task_step (src.Yield line) todo n c h = anew _ _ (tt, (tt, (tt, h)))
    task_step (src.Migrate line a) todo n c h = anew _ _ (n.0, inl (n.1, (tt, (tt, h))))
    task_step (src.Accept line site cs) todo n c h = anew _ _ (n, (tt, (n, c, (tt, h))))

    each_alone : (n line : ℕ) (b d : Expr) (todo : List Todo) → NextAlone todo → EachNext (λ p. ⊥) (piece.DropNow ∷ (piece.MoreNow ∷ (piece.FillNow n b d ∷ (piece.Within line ∷ todo))))
    each_alone n line b d (piece.Rest (src.Scoped c ss) ∷ todo) h = h
    each_alone n line b d todo h = tt

    fills_by : (n : ℕ) (b d : Expr) (line : ℕ) (todo : List Todo) → PlainSingle makes made b ⊎ (BuildsAt makes (IsNear Z s.run.frame s.callers) made b × NextAlone todo) → PlainSingle makes made b ⊎ (BuildsAt makes (IsNear Z s.run.frame s.callers) made b × EachNext (λ p. ⊥) (piece.DropNow ∷ (piece.MoreNow ∷ (piece.FillNow n b d ∷ (piece.Within line ∷ todo)))))
    fills_by n b d line todo (inl k) = inl k
    fills_by n b d line todo (inr k) = inr (k.0, each_alone n line b d todo k.1)

    pub stmt : (a : Stmt) (todo : List Todo) → CodeStmt makes source (IsNear Z s.run.frame s.callers) (NextAlone todo) made a → HiddenStmt a → Calm todo → O [] todo → AsideStep Z makes source (quiet.stmt_step a todo s)
    stmt (src.Skip line) todo n x c h = anew _ _ h
    stmt (src.Block line body) todo n x c h = anew _ _ ((n, c), (tt, h))
    stmt (src.Whole line body) todo n x c h = anew _ _ ((n, c), (tt, (tt, h)))
    stmt (src.Evaluate line a) todo n x c h = anew _ _ (single (IsNear Z s.run.frame s.callers) made [] a (piece.DropNow ∷ (piece.Within line ∷ todo)) n.0 n.1 (calm_free todo c) tt (calm_none todo c) (tt, (tt, h)))
    stmt (src.Declare line ds) todo n x c h = anew _ _ (n, (tt, h))
    stmt (src.Print line items) todo n x c h = anew _ _ (n, (tt, h))
    stmt (src.PrintTogether line items) todo n x c h = anew _ _ (n, (tt, (n, (tt, (tt, h)))))
    stmt (src.Read line ts) todo n x c h = anew _ _ (n, (tt, h))
    stmt (src.If line t a b) todo n x c h = anew _ _ (n.0.0, inl (n.1.0, (((n.0.1, n.1.1), (n.0.2, n.1.2)), c, (tt, h))))
    stmt (src.Loop line o t e b) todo n x c h = anew _ _ (looped (IsNear Z s.run.frame s.callers) made o t e b _ (((n.0.0, n.1.0), (n.0.1, n.1.1), (n.0.2, n.1.2)), c) (tt, h))
    stmt (src.Break line) todo n x c h = anew _ _ (c, gone [] todo h)
    stmt (src.Continue line) todo n x c h = anew _ _ (c, gone [] todo h)
    stmt (src.Return line None) todo n x c h = anew _ _ (c, gone [] todo h)
    stmt (src.Return line (Some e)) todo n x c h = anew _ _ (n.0, inl (n.1, (c, gone [] todo h)))
    stmt (src.Owes line) todo n x c h = anew _ _ (tt, (tt, h))
    stmt (src.Fill line m b e) todo n x c h = anew _ _ (tt, (((n.0.0, fills_by m b e line todo n.1.0), (n.0.1, n.1.1), c), (tt, h)))
    stmt (src.OfEvents a) todo n x c h = event_step a todo n x c h
    stmt (src.OfTasks a) todo n x c h = task_step a todo n c h

    -- where the scope of an object opens next, that lies aside
    pub rest_of : (ss : Stmts) (todo : List Todo) → CodeStmts makes source made ss → ((a : Stmt) (more : Stmts) (k : ℕ) → ss ≡ src.Then a more → OpensAt more k → IsNear Z s.run.frame s.callers k) → Calm todo → O [] todo → AsideStep Z makes source (quiet.rest_step ss todo s)
    rest_of src.Nil todo n f c h = anew _ _ h
    rest_of (src.Then a ss) todo n f c h = anew _ _ ((n.0.0, stmt_more makes (OpensAt ss) (IsNear Z s.run.frame s.callers) (OpensAlone ss) (OpensAlone ss) made (λ k z. f a ss k refl z) (λ z. z) a n.1.0), c, (((n.0.1, n.1.1), c), h))
    rest_of (src.Scoped x ss) todo n f c h = anew _ _ (((n.0.1, n.1.1), c), (((n.0.0, n.1.0), c), h))
    rest_of (src.Built x ss) todo n f c h = anew _ _ (((n.0.1, n.1.1), c), (((n.0.0, n.1.0), c), h))

    pub land : (o : Option UnwindReason) (ms : List Mark) (todo : List Todo) → H ms s.run.operands → O ms todo → AsideStep Z makes source (quiet.land_step o todo s)
    land None ms todo k h = go ms _ _ k h
    land (Some why) ms todo k h = unwound _ _ (gone ms todo h)

    -- events

    throws : (e : raising.Event) (todo : List Todo) → L todo → AsideStep Z makes source (raising.throw_step e todo s)
    throws e todo h = record { run = record { made = made; this = this; marks = []; holds = tt; ok = h }; callers = callers; env = env }

    pub thrown : (e : raising.Event) (todo : List Todo) → O [] todo → AsideStep Z makes source (raising.throw_step e todo s)
    thrown e todo h = throws e todo (gone [] todo h)

    -- the activation that raised goes on without the event
    handles : (ms : List Mark) (f : Option Found) (e : raising.Event) (todo : List Todo) → H ms s.run.operands → OfFound f → O (rests 3 ms) todo → AsideStep Z makes source (raising.handle_step f e todo s)
    handles ms None e todo k n h = throws e todo (gone (rests 3 ms) todo h)
    handles ms (Some f) e todo k n h = record {
      run = record { made = false; this = λ q. absurd (cc); marks = []; holds = tt; ok = handled (IsNear Z f.frame ((record s.run { control = piece.DropNow ∷ todo; operands = below (below (below s.run.operands)) }) ∷ s.callers)) false f.handler [] n tt tt };
      callers = (finds 1 (rests 3 ms) (piece.DropNow ∷ todo) _ (holds_below Z s.env.exec s.run.frame s.run.this s.callers (rests 2 ms) _ (holds_below Z s.env.exec s.run.frame s.run.this s.callers (rests 1 ms) _ (holds_below Z s.env.exec s.run.frame s.run.this s.callers ms _ k))) (tt, h), callers);
      env = likes env refl refl refl;
    }

    pub raises : (ms : List Mark) (e : raising.Event) (todo : List Todo) → H ms s.run.operands → O (rests 3 ms) todo → AsideStep Z makes source (raising.raise_step e todo s)
    raises ms e todo k h =
        let round : List Active = (record s.run { control = todo }) ∷ s.callers in
        handles ms (raising.seek None e round) e todo k (seek None e round (record { made = made; rest = gone (rests 3 ms) todo h }, waits_left Z makes source s.env.exec s.callers callers)) h

    -- unwinding

    catches : (o : Option Handler) (e : raising.Event) (todo : List Todo) → OfHandler made o → Calm todo → O [] todo → AsideStep Z makes source (raising.catch_step o e todo s)
    catches None e todo n c h = unwound _ _ (gone [] todo h)
    catches (Some x) e todo n c h = record { run = record { made = made; this = this; marks = []; holds = tt; ok = handled (IsNear Z s.run.frame s.callers) made x todo n c h }; callers = callers; env = env }

    guarded : (hs : Handlers) (o : Option UnwindReason) (todo : List Todo) → CodeHandlers makes source made hs → Calm todo → O [] todo → AsideStep Z makes source (raising.guard_left hs o todo s)
    guarded hs (Some (reason.Event n x y)) todo k c h =
        catches _ _ todo (handler_for made false (record { number = n; x = x; y = y }) hs k) c h
    guarded hs o todo k c h = unwound _ _ (gone [] todo h)

    whole : (b : Bool) (todo : List Todo) → O [] todo → AsideStep Z makes source (raising.whole_left b todo s)
    whole true todo h = record { run = record { made = made; this = this; marks = []; holds = tt; ok = marks.now makes source (IsNear Z s.run.frame s.callers) made [] todo h }; callers = callers; env = env }
    whole false todo h = unwound _ _ (gone [] todo h)

    scope : (x : CleanUp) (b : Bool) (todo : List Todo) → CodeClean makes source x → Calm todo → O [] todo → AsideStep Z makes source (raising.scope_left x b todo s)
    scope src.Leaves true todo n c h = record { run = record { made = made; this = this; marks = []; holds = tt; ok = (tt, (c, gone [] todo h)) }; callers = callers; env = env }
    scope x b todo n c h = anew (raising.left_todo x (piece.Unwind ∷ todo)) [] (left_cleans (IsNear Z s.run.frame s.callers) made x (piece.Unwind ∷ todo) n c (c, gone [] todo h))

    main_left : (o : Option UnwindReason) (todo : List Todo) → O [] todo → AsideStep Z makes source (raising.main_left o todo s)
    main_left (Some (reason.ReturnTo n)) todo h = record { run = record { made = made; this = this; marks = []; holds = tt; ok = (tt, h) }; callers = callers; env = env }
    main_left o todo h = stop Unhandled todo []

    coroutine_left : (o : Option UnwindReason) (todo : List Todo) → O [] todo → AsideStep Z makes source (raising.coroutine_left o todo s)
    coroutine_left (Some (reason.ReturnTo n)) todo h = record { run = record { made = made; this = this; marks = []; holds = tt; ok = (tt, h) }; callers = callers; env = env }
    coroutine_left (Some reason.Destroyed) todo h = moved _ todo _ (kept.taken_down_rests (Runs Z makes source) (Waits Z makes source) calm (at todo [] s) (anew todo [] h))
    coroutine_left o todo h = moved _ todo _ (kept.escape_rests (Runs Z makes source) (Waits Z makes source) calm (at todo [] s) (anew todo [] h))

    unwind_past : (k : Sort) (todo : List Todo) → LeftBy makes source (IsNear Z s.run.frame s.callers) made k todo (L todo) (O [] todo) → AsideStep Z makes source (raising.unwind_past k todo s)
    unwind_past piece.Simple todo h = unwound _ _ h
    unwind_past (piece.IsLoop o t e b) todo h = unwound _ _ (gone [] todo h.1)
    unwind_past piece.IsWhole todo h = whole _ todo h
    unwind_past (piece.IsClean c) todo h = scope c _ todo h.0.0 h.0.1 h.1
    unwind_past (piece.IsFill m b d) todo h = anew _ _ ((h.0.1, h.0.2), (h.0.2, gone [] todo h.1))
    unwind_past (piece.IsSweep e) todo h = anew _ _ (h.0, (h.0.1, gone [] todo h.1))
    unwind_past (piece.IsPart c) todo h = anew _ _ (cleans (IsNear Z s.run.frame s.callers) made c _ h.0.0 h.0.1 (h.0.1, gone [] todo h.1))
    unwind_past (piece.IsGuard hs) todo h = guarded hs s.run.raised todo h.0.0 h.0.1 h.1
    unwind_past piece.IsFinish todo h = main_left s.run.raised todo h
    unwind_past piece.IsFinishCoroutine todo h = coroutine_left s.run.raised todo h

    pass_on : (o : Option UnwindReason) (c : Active) (cs : List Active) → Waits Z makes source s.env.exec cs c → W s.env.exec cs → AsideStep Z makes source (raising.pass_on o c cs s)
    pass_on None c cs a b = record { run = tt; callers = callers; env = env }
    pass_on (Some why) c cs a b = record { run = record { made = a.made; this = a.this; marks = []; holds = tt; ok = left (IsNear Z c.frame cs) a.made (Any ∷ a.marks) c.control a.ok }; callers = b; env = likes env refl refl refl }

    leave_for : (b : Bool) (c : Active) (cs : List Active) → Waits Z makes source s.env.exec cs c → W s.env.exec cs → AsideStep Z makes source (raising.leave_for b c cs s)
    leave_for true c cs a b = record { run = tt; callers = callers; env = env }
    leave_for false c cs a b = pass_on s.run.raised c cs a b

    leaves : (cs : List Active) → W s.env.exec cs → AsideStep Z makes source (raising.leave_step cs s)
    leaves [] c = record { run = tt; callers = callers; env = env }
    leaves (c ∷ cs) p =
        either (AsideStep Z makes source) (raising.arrives s.run.raised (length (c ∷ cs))) _ _ (returned s.run.result (c ∷ cs) p) (leave_for _ c cs p.0 p.1)

    pub unwinds : (todo : List Todo) → L todo → AsideStep Z makes source (raising.unwind_step todo s)
    unwinds [] h = leaves s.callers callers
    unwinds (p ∷ ps) h = unwind_past (piece.sort p) ps h

    -- printing

    pub prints : (o : Option (List Piece)) (p : Piece) (todo : List Todo) (vs : List Value) → O [] todo → AsideStep Z makes source (piece.print_step o p todo vs s)
    prints None p todo vs h = record { run = runs [] todo vs tt h; callers = callers; env = env }
    prints (Some ps) p todo vs h = go_in [] _ _ _ tt h (same refl refl refl refl)

    pub flushes : (o : Option (List Piece)) (todo : List Todo) (vs : List Value) → O [] todo → AsideStep Z makes source (piece.flush_step o todo vs s)
    flushes None todo vs h = anew _ _ h
    flushes (Some []) todo vs h = go_in [] _ _ _ tt h (same refl refl refl refl)
    flushes (Some (p ∷ ps)) todo vs h = record { run = runs [] todo vs tt h; callers = callers; env = likes env refl refl refl }

    -- with what is known of the operands
    module _ (ms : List Mark) (holds : H ms s.run.operands) where
      pub one : H (rest ms) (below s.run.operands)
      one = holds_below Z s.env.exec s.run.frame s.run.this s.callers ms s.run.operands holds

      pub two : H (rest (rest ms)) (below (below s.run.operands))
      two = holds_below Z s.env.exec s.run.frame s.run.this s.callers (rest ms) (below s.run.operands) one

      -- expressions

      on : (n r : ℕ) (m : Mark) (todo : List Todo) → n ≡ params source r → O (Any ∷ ms) todo → O (Any ∷ rests (suc (params source r)) (anys n (m ∷ ms))) todo
      on n r m todo e h = called_on (IsNear Z s.run.frame s.callers) made n r m ms todo e h

      object : (x : ObjectExpr) (todo : List Todo) → CountedExpr source (src.OfObject x) → PlainExpr makes (src.OfObject x) → O (Any ∷ ms) todo → AsideStep Z makes source (quiet.object_step x todo s)
      object src.This todo n q h = go (Any ∷ ms) _ _ (tt, holds) h
      object (src.OwnField k i) todo n q h = go (Any ∷ ms) _ _ (tt, holds) h
      object (src.GetOwn k i) todo n q h = go (Any ∷ ms) _ _ (tt, holds) h
      object (src.FieldOf k i a) todo n q h = go ms _ _ holds (n, inl (q, (tt, h)))
      object src.Counted todo n q h = go (Any ∷ ms) _ _ (tt, holds) h
      object (src.CallOn r a args) todo n q h = go ms _ _ holds (n.0, inl (q.1, ((n.1, q.2), (tt, (inl q.0, on (count args) r Any todo n.2 h)))))
      object (src.CallLive r a args) todo n q h = go ms _ _ holds (n.0, inl (q.1, ((n.1, q.2), (tt, (tt, (inl q.0, on (count args) r Any todo n.2 h))))))
      object (src.CallUnwritten r a) todo n q h = go ms _ _ holds (n.0, inl (q.1, (inl q.0, on 0 r Any todo n.1 h)))
      object (src.EnterOn m r a args) todo n q h = go ms _ _ holds (n.0, inl (q.1, ((n.1, q.2), (tt, (tt, (inl q.0, on (count args) r Any todo n.2 h))))))
      object (src.ConditionAt k m a) todo n q h = go ms _ _ holds (n, inl (q, (tt, h)))
      object (src.Wait a b) todo n q h = go ms _ _ holds (n.0, inl (q.0, (n.1, inl (q.1, (tt, (tt, h))))))
      object (src.Signal a) todo n q h = go ms _ _ holds (n, inl (q, (tt, h)))
      object (src.SignalBlock a) todo n q h = go ms _ _ holds (n, inl (q, (tt, h)))
      object (src.IsEmpty a) todo n q h = go ms _ _ holds (n, inl (q, (tt, h)))
      object (src.FrontOf a) todo n q h = go ms _ _ holds (n, inl (q, (tt, h)))
      object x todo n q h = absurd q

      eval : (a : Expr) (todo : List Todo) → CountedExpr source a → PlainExpr makes a → O (Any ∷ ms) todo → AsideStep Z makes source (quiet.eval_step a todo s)
      eval (src.Literal k) todo n q h = go (Any ∷ ms) _ _ (tt, holds) h
      eval (src.Variable k) todo n q h = go (Any ∷ ms) _ _ (tt, holds) h
      eval (src.Element m k a i) todo n q h = go ms _ _ holds (n.0, inl (q.0, (n.1, inl (q.1, inl h))))
      eval (src.Get k) todo n q h = go (Any ∷ ms) _ _ (tt, holds) h
      eval (src.Load a) todo n q h = go ms _ _ holds (n, inl (q, (tt, h)))
      eval (src.Negated a) todo n q h = go ms _ _ holds (n, inl (q, (tt, h)))
      eval (src.Not a) todo n q h = go ms _ _ holds (n, inl (q, (tt, h)))
      eval (src.AsCharacter a) todo n q h = go ms _ _ holds (n, inl (q, (tt, h)))
      eval (src.AsTruth a) todo n q h = go ms _ _ holds (n, inl (q, (tt, h)))
      eval (src.Operate op a b) todo n q h = go ms _ _ holds (n.0, inl (q.0, (n.1, inl (q.1, (tt, h)))))
      eval (src.And a b) todo n q h = go ms _ _ holds (n.0, inl (q.0, (((n.1, q.1), (tt, tt)), h)))
      eval (src.Or a b) todo n q h = go ms _ _ holds (n.0, inl (q.0, (((tt, tt), (n.1, q.1)), h)))
      eval (src.Set k a) todo n q h = go ms _ _ holds (n, inl (q, (tt, h)))
      eval (src.Assign p a) todo n q h = go ms _ _ holds (n.0, inl (q.0, (n.1, inl (q.1, (tt, h)))))
      eval (src.First a b) todo n q h = go ms _ _ holds (n.0, inl (q.0, (n.1, inl (q.1, (tt, h)))))
      eval (src.Update op k p a) todo n q h = go ms _ _ holds (n.0, inl (q.0, (tt, (tt, (n.1, inl (q.1, (tt, converts (IsNear Z s.run.frame s.callers) made k (Any ∷ ms) _ (tt, h))))))))
      eval (src.StepBehind op k p) todo n q h =
          go ms _ _ holds (n, inl (q, (tt, (tt, (tt, (tt, (tt, inl (tt, (tt, converts (IsNear Z s.run.frame s.callers) made k (Any ∷ (Any ∷ (Any ∷ ms))) _ (tt, (tt, h)))))))))))
      eval src.Fail todo n q h = record { run = finds 1 ms todo _ holds h; callers = callers; env = env }
      eval (src.Call r args) todo n q h = go ms _ _ holds ((n.0, q), (tt, (tt, called (IsNear Z s.run.frame s.callers) made args r ms todo n.1 h)))
      eval (src.OfObject x) todo n q h = object x todo n q h

      near_at : (a : Expr) → SitedAt makes Everywhere made a → Rooted (IsNear Z s.run.frame s.callers) a → SitedAt makes (IsNear Z s.run.frame s.callers) made a
      near_at a b k = near_sited makes (IsNear Z s.run.frame s.callers) made a b k

      singly : (a : Expr) (todo : List Todo) → CountedExpr source a → Singly makes made a → NearNew (IsNear Z s.run.frame s.callers) a → Free todo → NoneCalled todo → O (Any ∷ ms) todo → AsideStep Z makes source (quiet.eval_step a todo s)
      singly (src.OfObject (src.Bind a e)) todo n b k f u h = go ms _ _ holds (n.0, inr (inr (inr (inl (near_at a b.0 k, (n.1, inr (inr (inr (inr (b.1, ((tt, f, u), h)))))))))))
      singly (src.OfObject (src.MakeOn c r false a args)) todo n b k f u h = go ms _ _ holds (n.0, inr (inr (inr (inl (near_at a b.0 k, ((n.1, b.1), made_on (IsNear Z s.run.frame s.callers) made (count args) r ms todo n.2 f u h))))))
      singly (src.OfObject (src.MakeOn c r true a args)) todo n b k f u h = go ms _ _ holds (n.0, inr (inr (inr (inl (near_at a b.0 k, ((n.1, b.1), (tt, made_on (IsNear Z s.run.frame s.callers) made (count args) r ms todo n.2 f u h)))))))
      singly (src.OfObject (src.EndOn r false a)) todo n b k f u h = go ms _ _ holds (n.0, inl (b.1, (tt, (inl b.0, on 0 r Any todo n.1 h))))
      singly (src.OfObject (src.EndOn r true a)) todo n b k f u h = go ms _ _ holds (n.0, inl (b.1, (tt, (tt, (inl b.0, on 0 r Any todo n.1 h)))))
      singly (src.OfObject (src.EndCluster a)) todo n b k f u h = go ms _ _ holds (n, inl (b, (tt, h)))
      singly (src.OfObject (src.EndProcessor a)) todo n b k f u h = go ms _ _ holds (n, inl (b, (tt, h)))
      singly a todo n b k f u h = absurd b

      builds : (a : Expr) (todo : List Todo) → CountedExpr source a → BuildsAt makes (IsNear Z s.run.frame s.callers) made a → Free todo → EachNext (λ p. ⊥) todo → NoneCalled todo → O (Any ∷ ms) todo → AsideStep Z makes source (quiet.eval_step a todo s)
      builds (src.OfObject (src.CallOn r a args)) todo n b f d u h = go ms _ _ holds (n.0, inr (inr (inr (inl (b.0, ((n.1, b.1), (tt, (inr (inr (first_on (count args) r ms n.2, f, d, u)), on (count args) r Aside todo n.2 h))))))))
      builds (src.OfObject (src.CallUnwritten r a)) todo n b f d u h = go ms _ _ holds (n.0, inr (inr (inr (inl (b, (inr (inr (first_on 0 r ms n.1, f, d, u)), on 0 r Aside todo n.1 h))))))
      builds (src.OfObject (src.Bind a e)) todo n b f d u h = go ms _ _ holds (n.0, inr (inr (inr (inl (b.0, (n.1, inl (b.1, ((tt, f, u), h))))))))
      builds a todo n b f d u h = absurd b

      place : (e : Expr) (todo : List Todo) → CountedExpr source e → SitedAt makes (IsNear Z s.run.frame s.callers) made e → O (Aside ∷ ms) todo → AsideStep Z makes source (quiet.eval_step e todo s)
      place (src.Variable k) todo n p h = go (Aside ∷ ms) _ _ (((exec_same s.env.exec, p.0), inl (Slot k ∷ [], refl, tt, p.1)), holds) h
      place (src.OfObject (src.OwnField k i)) todo n p h = go (Aside ∷ ms) _ _ ((further_aside Z s.env.exec s.callers (piece.FieldAt k i) s.run.this (this p).0, field_sits Z s.env.exec s.run.frame s.run.this s.callers (piece.FieldAt k i) (this p).1), holds) h
      place (src.Element m k a i) todo n p h = go ms _ _ holds (n.0, inr (inr (inr (inl (p.0, (n.1, inl (p.1, inr (tt, h))))))))
      place e todo n p h = absurd p

      making : (e : Expr) (todo : List Todo) → CountedExpr source e → PlainNew makes e → O (Loose ∷ ms) todo → AsideStep Z makes source (quiet.eval_step e todo s)
      making (src.OfObject src.NewCluster) todo n p h = go ms _ _ holds (Loose, tt, h)
      making (src.OfObject (src.NewProcessor a)) todo n p h = go ms _ _ holds (n, inl (p, (Loose, tt, h)))
      making e todo n p h = absurd p

      pub evals : (e : Expr) (todo : List Todo) → NearNew (IsNear Z s.run.frame s.callers) e → O ms (piece.Eval e ∷ todo) → AsideStep Z makes source (quiet.eval_step e todo s)
      evals e todo k (n, inl h) = eval e todo n h.0 h.1
      evals e todo k (n, inr (inl h)) = singly e todo n h.0 k h.1 h.3 h.2
      evals e todo k (n, inr (inr (inl h))) = builds e todo n h.0 h.1 h.2 h.4 h.3
      evals e todo k (n, inr (inr (inr (inl h)))) = place e todo n h.0 h.1
      evals e todo k (n, inr (inr (inr (inr h)))) = making e todo n h.0 h.1

      -- calls

      begun : (b : Bool) (r : Routine) (object : Value) (counts : Bool) (ns : List Mark) (todo : List Todo) (vs : List Value) → CodeStmts makes source b r.body → (b ≡ true → LiesAside Z s.env.exec ((record s.run { control = todo; operands = vs }) ∷ s.callers) object × Sits Z s.env.exec ((record s.run { control = todo; operands = vs }) ∷ s.callers) object) → H ns vs → O (Any ∷ ns) todo → AsideStep Z makes source (quiet.begun_step r object counts todo vs s)
      begun b r object counts ns todo vs n l k h = record {
        run = record { made = b; this = l; marks = []; holds = tt; ok = routine (IsNear Z (length s.env.frames) ((record s.run { control = todo; operands = vs }) ∷ s.callers)) b r n };
        callers = (finds 1 ns todo vs k h, callers);
        env = likes env refl refl refl;
      }

      dropped : (n : ℕ) → H (rests n ms) (drop n s.run.operands)
      dropped n = holds_drop Z s.env.exec s.run.frame s.run.this s.callers n ms s.run.operands holds

      dropped_one : (n : ℕ) → H (rests (suc n) ms) (below (drop n s.run.operands))
      dropped_one n = holds_below Z s.env.exec s.run.frame s.run.this s.callers (rests n ms) (drop n s.run.operands) (dropped n)

      -- what is called at an object finds that aside, if it may bind fields there
      at_object : (b : Bool) (n : ℕ) (todo : List Todo) → (b ≡ false) ⊎ (FirstLoose (rests n ms) ⊎ (FirstAside (rests n ms) × Free todo × EachNext (λ p. ⊥) todo × NoneCalled todo)) → b ≡ true → LiesAside Z s.env.exec ((record s.run { control = todo; operands = below (drop n s.run.operands) }) ∷ s.callers) (top (drop n s.run.operands)) × Sits Z s.env.exec ((record s.run { control = todo; operands = below (drop n s.run.operands) }) ∷ s.callers) (top (drop n s.run.operands))
      at_object b n todo (inl e) q = no_both b q e
      at_object b n todo (inr (inl f)) q =
          let loose = holds_loose Z s.env.exec s.run.frame s.run.this s.callers (rests n ms) (drop n s.run.operands) (dropped n) f in
          (loose_aside Z s.env.exec ((record s.run { control = todo; operands = below (drop n s.run.operands) }) ∷ s.callers) (top (drop n s.run.operands)) loose, inl loose)
      at_object b n todo (inr (inr f)) q =
          let near = holds_aside Z s.env.exec s.run.frame s.run.this s.callers (rests n ms) (drop n s.run.operands) (dropped n) f.0 in
          (waits_aside Z s.env.exec s.callers (record s.run { control = todo; operands = below (drop n s.run.operands) }) (top (drop n s.run.operands)) f.1 f.2 f.3 near.0, inr near.1)

      pub call : (b : Bool) (r : Option Routine) (todo : List Todo) → CodeRoutine makes source b r → O (Any ∷ rests (params_at r) ms) todo → AsideStep Z makes source (quiet.call_step r todo s)
      call b None todo n h = ends _ _
      call b (Some r) todo n h = either (AsideStep Z makes source) (nat_lt s.env.links.calls CALLS) _ _ (begun b r _ true (rests r.params ms) todo _ n (λ q. (tt, inl tt)) (dropped r.params) h) (stop Depth todo _)

      pub call_on : (b : Bool) (r : Option Routine) (todo : List Todo) → CodeRoutine makes source b r → (b ≡ false) ⊎ (FirstLoose (rests (params_at r) ms) ⊎ (FirstAside (rests (params_at r) ms) × Free todo × EachNext (λ p. ⊥) todo × NoneCalled todo)) → O (Any ∷ rests (suc (params_at r)) ms) todo → AsideStep Z makes source (quiet.call_on_step r todo s)
      call_on b None todo n f h = ends _ _
      call_on b (Some r) todo n f h = either (AsideStep Z makes source) (nat_lt s.env.links.calls CALLS) _ _ (begun b r _ true (rests (suc r.params) ms) todo _ n (at_object b r.params todo f) (dropped_one r.params) h) (stop Depth todo _)

      pub call_unwritten : (b : Bool) (r : Option Routine) (todo : List Todo) → CodeRoutine makes source b r → (b ≡ false) ⊎ (FirstLoose (rests (params_at r) ms) ⊎ (FirstAside (rests (params_at r) ms) × Free todo × EachNext (λ p. ⊥) todo × NoneCalled todo)) → O (Any ∷ rests (suc (params_at r)) ms) todo → AsideStep Z makes source (quiet.call_unwritten_step r todo s)
      call_unwritten b None todo n f h = ends _ _
      call_unwritten b (Some r) todo n f h = begun b r _ false (rests (suc r.params) ms) todo _ n (at_object b r.params todo f) (dropped_one r.params) h

      pub live : (r : Option Routine) (todo : List Todo) → O ms todo → AsideStep Z makes source (quiet.live_step r todo s)
      live None todo h = ends _ _
      live (Some r) todo h = either (AsideStep Z makes source) (sw.is_live (piece.exec_at (top (drop r.params s.run.operands)) s.env) s.env) _ _ (go ms _ _ holds h) (stop NotLive todo _)

      pub set_up : (r : Option Routine) (todo : List Todo) → CodeRoutine makes source false r → O [] todo → AsideStep Z makes source (quiet.set_up_step r todo s)
      set_up None todo n h = anew _ _ h
      set_up (Some r) todo n h =
          let at_home = quiet.home_at s.run.this s.env in
          let b : K s.env (sw.born at_home (quiet.fresh r s.run.this) s.env) = kept.born_keeps (Runs Z makes source) (Waits Z makes source) calm at_home (quiet.fresh r s.run.this) s.env (λ k. record { run = record { made = false; this = λ q. absurd (cc); marks = []; holds = tt; ok = routine (IsNear Z 0 []) false r n }; callers = tt }) env in
          go_in [] _ _ _ tt h (kept.keeps_both (Runs Z makes source) (Waits Z makes source) calm b (kept.written_keeps (Runs Z makes source) (Waits Z makes source) calm s.run.this _ _ b.env))

      -- mutex objects

      pub unless : (o : ℕ) (step : Step) (todo : List Todo) → AsideStep Z makes source step → AsideStep Z makes source (monitors.unless_held_up o step todo s)
      unless o step todo k = either (AsideStep Z makes source) (inside.is_held_up o s.env) _ step (stop BlockedInside todo _) k

      enter_at : (d : Option ℕ) (o m : ℕ) (todo : List Todo) → O ms todo → AsideStep Z makes source (monitors.enter_at d o m todo s)
      enter_at (Some d) o m todo h = go_in ms _ _ _ holds h (same refl refl refl refl)
      enter_at None o m todo h = record { run = runs ms todo _ holds h; callers = callers; env = likes env refl refl refl }

      pub enter : (m : ℕ) (r : Option Routine) (todo : List Todo) → O ms todo → AsideStep Z makes source (monitors.enter_step m r todo s)
      enter m None todo h = ends _ _
      enter m (Some r) todo h =
          let o = piece.object_in (top (drop r.params s.run.operands)) in
          either (AsideStep Z makes source) (monitors.may_call r.written s) _ _ (enter_at (find o s.env.depths) o m todo h) (stop Depth todo _)

      pub leave : (b : Bool) (o : ℕ) (todo : List Todo) → O ms todo → AsideStep Z makes source (monitors.leave_at b o todo s)
      leave false o todo h = go_in ms _ _ _ holds h (same refl refl refl refl)
      leave true o todo h =
          unless o _ todo (record { run = record { made = made; this = this; marks = ms; holds = holds; ok = marks.now makes source (IsNear Z s.run.frame s.callers) made ms (monitors.leave_todo s.run.raised todo) (polled (IsNear Z s.run.frame s.callers) made s.run.raised ms todo h) }; callers = callers; env = likes env refl refl refl })

      pub make : (c k : ℕ) (r : Option Routine) (todo : List Todo) → FirstAside (rests (params source k) ms) × Free todo × NoneBehind todo → O (anys (params source k) (Loose ∷ rests (suc (params source k)) ms)) todo → AsideStep Z makes source (monitors.make_step c k r todo s)
      make c k None todo f h = ends _ _
      make c k (Some r) todo f h =
          either (AsideStep Z makes source) (monitors.may_call r.written s) _ _ (record { run = record { made = made; this = this; first = Loose; told = tt; marks = ms; holds = holds; ok = ((tt, f.0, f.1, f.2), h) }; callers = callers; env = likes env refl refl refl }) (stop Depth todo _)

      pub bind : (r : Option Routine) (todo : List Todo) → FirstLoose ms → O (anys (params_at r) (Loose ∷ rests (suc (params_at r)) (rest ms))) todo → AsideStep Z makes source (monitors.bind_step r todo s)
      bind None todo i h = ends _ _
      bind (Some r) todo i h =
          let n = r.params in
          let vs = below s.run.operands in
          let v = top s.run.operands in
          let under : H (rests (suc n) (rest ms)) (below (drop n (slice_set vs n v))) = subst (H (rests (suc n) (rest ms))) (sym (marks.drop_one n (slice_set vs n v) ∙ drop_set n v vs)) (holds_drop Z s.env.exec s.run.frame s.run.this s.callers (suc n) (rest ms) vs one) in
          let object : IsLoose (top (drop n (slice_set vs n v))) = set_loose n v vs (holds_loose Z s.env.exec s.run.frame s.run.this s.callers ms s.run.operands holds i) in
          go_in (anys n (Loose ∷ rests (suc n) (rest ms))) todo _ _ (holds_anys Z s.env.exec s.run.frame s.run.this s.callers n (Loose ∷ rests (suc n) (rest ms)) (slice_set vs n v) (object, under)) h (write _ _)

      pub accept : (mask o site : ℕ) (todo : List Todo) (vs : List Value) → O [] todo → AsideStep Z makes source (monitors.accept_by mask o site todo vs s)
      accept zero o site todo vs h = anew _ _ h
      accept (suc mask) o site todo vs h = unless o _ todo (record { run = record { made = made; this = this; marks = []; holds = tt; ok = (tt, (tt, h)) }; callers = callers; env = env })

      pub failed : (b : Bool) (todo : List Todo) (vs : List Value) → O [] todo → AsideStep Z makes source (monitors.failed_step b todo vs s)
      failed true todo vs h = anew _ _ h
      failed false todo vs h = anew _ _ (tt, h)

      -- events elsewhere

      pend : (n : Exec) (e : raising.Event) (todo : List Todo) (vs : List Value) → O [] todo → AsideStep Z makes source (polls.pend_step n e todo vs s)
      pend n e todo vs h =
          either (AsideStep Z makes source) (nat_lt (length (inside.pending_at n s.env)) PENDING_EVENTS) _ _ (go_in [] _ _ _ tt h (kept.links_keeps (Runs Z makes source) (Waits Z makes source) calm (λ l. record l { pending = l.pending ++ (record { event = e.number; x = e.x; y = e.y }) ∷ [] }) n s.env env)) (stop TooManyPending todo vs)

      pend_at : (o : Option Exec) (e : raising.Event) (todo : List Todo) (vs : List Value) → O [] todo → AsideStep Z makes source (polls.pend_at o e todo vs s)
      pend_at None e todo vs h = stop NotLive todo vs
      pend_at (Some n) e todo vs h = either (AsideStep Z makes source) (sw.is_live (Some n) s.env) _ _ (pend n e todo vs h) (stop NotLive todo vs)

      pub raise_at : (v : Value) (e : raising.Event) (todo : List Todo) (vs : List Value) → O [] todo → AsideStep Z makes source (polls.raise_at_step v e todo vs s)
      raise_at (Object o) e todo vs h = record { run = runs [] todo vs tt h; callers = callers; env = env }
      raise_at v e todo vs h = pend_at (piece.exec_at v s.env) e todo vs h

      enabled_in : {e f : Env} (k : K s.env e) → f.exec ≡ e.exec → f.hand ≡ e.hand → f.house ≡ e.house → f.own ≡ e.own → K s.env f
      enabled_in k x h g o = kept.keeps_both (Runs Z makes source) (Waits Z makes source) calm k (kept.keeps_like (Runs Z makes source) (Waits Z makes source) calm k.env x h g o)

      pub enables : (events cell : ℕ) (todo : List Todo) → O [] todo → AsideStep Z makes source (polls.enable_step events cell todo s)
      enables events cell todo h = go_in [] _ _ _ tt h (enabled_in (write (piece.variable_at cell s) (Number (signed_64 s.env.links.enabled))) refl refl refl refl)

      quiet_poll : (o : Option Pending) (todo : List Todo) → O ms todo → AsideStep Z makes source (polls.quiet_poll o todo s)
      quiet_poll None todo h = go ms _ _ holds h
      quiet_poll (Some p) todo h = go_in (Any ∷ (Any ∷ (Any ∷ ms))) _ _ _ (tt, (tt, (tt, holds))) (tt, h) (same refl refl refl refl)

      poll_by : (b : Bool) (todo : List Todo) → O ms todo → AsideStep Z makes source (polls.poll_by b todo s)
      poll_by true todo h = record { run = finds 3 ms (piece.DeliverNow ∷ todo) _ holds (tt, h); callers = callers; env = env }
      poll_by false todo h = quiet_poll (inside.oldest_enabled s.env.links) todo h

      pub poll : (todo : List Todo) → O ms todo → AsideStep Z makes source (polls.poll_step todo s)
      poll todo h = either (AsideStep Z makes source) (nat_eq s.env.links.enabled 0) _ _ (go ms _ _ holds h) (poll_by (inside.is_own s.env) todo h)

      pub deliver : (v : Value) (todo : List Todo) → O (rests 3 ms) todo → AsideStep Z makes source (polls.deliver_step v todo s)
      deliver Nothing todo h = go (rests 3 ms) _ _ (dropped 3) h
      deliver v todo h = go ms _ _ holds (tt, (tt, h))
