-- A quiet step of a task that is as deep as it is owed leads to such a one, or asks as one does.
use Rattle.std.proofs.Common.{◌≡◌, ℕ, zero, suc, ◌+◌, ◌≤◌, ◌++◌, inl, Bool, true, false, List, [], ◌∷◌, length, drop, Option, Some, None, refl, sym, subst, ap, ◌∙◌, arith}
use Rattle.std.specs.Prelude.{◌-◌, nat_eq, nat_lt, slice_get, is_some, if◌then◌else◌}
use Rattle.std.proofs.lemmas.Bool.{eqb-true, eq-eqb}
use Rattle.uc_tree.specs.declared.limits.TheConstants.{PENDING_EVENTS}
use Rattle.uc_tree.specs.Source as src
use Rattle.uc_tree.specs.Source.{Source, Shape, Expr, ObjectExpr, Stmt, Stmts, EventStmt, TaskStmt, Routine, Way, CleanUp, Handlers, routine_or_none, routine_of}
use Rattle.uc_entry.specs.declared.fault.RunFault.{RunFault}
use Rattle.uc_entry.specs.declared.fault.RunFault.TheVariants.{Index, Depth, BlockedInside, TooManyPending, NotLive, Unhandled}
use Rattle.uc_entry.specs.declared.request.Piece.{Piece}
use Rattle.uc_entry.specs.declared.request.Request.{Request}
use Rattle.uc_entry.specs.declared.request.Request.TheVariants as ask
use Rattle.uc_entry.specs.Keyed.{find, signed_64}
use Rattle.uc_machine.specs.declared.exec.Exec.{Exec}
use Rattle.uc_machine.specs.declared.exec.Home.TheVariants as home
use Rattle.uc_machine.specs.declared.exec.Pending.{Pending}
use Rattle.uc_machine.specs.declared.exec.UnwindReason.{UnwindReason}
use Rattle.uc_machine.specs.declared.exec.UnwindReason.TheVariants as reason
use Rattle.uc_machine.specs.declared.exec.Visited.{Visited}
use Rattle.uc_machine.specs.Executions as exec
use Rattle.uc_machine.specs.Executions.{Links, one_call_more, one_call_less, take_operands}
use Rattle.uc_machine.specs.Switches as sw
use Rattle.uc_machine.specs.Switches.{Moved, To, Stops, without}
use Rattle.uc_machine.specs.Insides as inside
use Rattle.uc_machine.specs.Insides.{shallower}
use Rattle.uc_machine.specs.Raising as raising
use Rattle.uc_machine.specs.Raising.{Event, Handler, Found}
use Rattle.uc_machine.specs.Monitors as monitors
use Rattle.uc_machine.specs.Polls as polls
use Rattle.uc_machine.specs.Quiet as quiet
use Rattle.uc_machine.specs.Pieces as piece
use Rattle.uc_machine.specs.Pieces.{Value, Number, Object, Nothing, Todo, Sort, Active, State, Env, Members, Step, Asks, Outcome, Gives, Faults, at, in_env, fault, asks, turns, top, below, number, written, object_in}
use Rattle.uc_depth_laws.specs.Entering.{Aspect, New, Other, is_ending, lets_go, holds_object, is_holding, is_building, EnteredExpr, EnteredObject, EnteredStmt, EnteredEvent, EnteredTask, EnteredHandlers, EnteredRoutine}
use Rattle.uc_depth_laws.specs.Owing.{Tests, FairAt, entering, IsToldFor, more, marks, counted, owed_by, marks_waiting, owed_waiting, Any, Skipped, CallOf, Bound, is_told, EnteredScope, EnteredWhole, Entered, IsToldFirst, AllEntered, entries, EngagedParked, EngagedHand, EngagedEnv, owed_parked, owed_own, owed_hand, owed_env, owed_first, owed, first_marks, depth_in, depth_at, IsInside, LetsGo, Unheld, Deep, DeepAlone, DeepAsk, DeepStep, Done}
use Rattle.uc_depth_laws.specs.DepthLaws.{TellsOthers}
use Rattle.uc_depth_laws.proofs.Depths.{both_are, own_one, more_most, true_false, scope_none, none_told, called_told, still, counted_least, counted_one_less, counted_none, counted_own, none_first, none_marked, entered_first, called_marks, any_skipped, without_other, deeper_most, shallower_least, inside_of, any_done, done_first, done_marked, done_told}
use Rattle.uc_depth_laws.proofs.Kept as kept
use Rattle.uc_depth_laws.proofs.Kept.{either, Lighter}
use Rattle.uc_depth_laws.proofs.TodoLists as lists
use Rattle.uc_depth_laws.proofs.TodoLists.{Ok, OkDone}

same_entries_less : (b : Bool) (l : Links) → entries (one_call_less b l) ≡ entries l
same_entries_less true l = refl
same_entries_less false l = refl

pub same_entries_more : (b : Bool) (l : Links) → entries (one_call_more b l) ≡ entries l
same_entries_more true l = refl
same_entries_more false l = refl

-- a task but for what its running activation has to do, which may have so many marks
pub record Budget (source : Source) (news : Tests) (many : ℕ) (s : State) : Type 0 where
  pub one : many ≤ 1
  pub callers : AllEntered source (news s.env.exec.home) s.callers
  pub env : EngagedEnv source news s.env
  pub engaged : many + marks_waiting s.callers ≤ entries s.env.links
  pub depths : (q : ℕ) → counted q s.run.this many + owed_waiting q s.callers + owed_env q s.env ≤ depth_at q s.env

module _ (source : Source) (news : Tests) where
  module _ (s : State) (many : ℕ) (b : Budget source news many s) where
    -- whether the object of the running activation is new
    abbrev told : Aspect → Bool
    told = is_told (news s.env.exec.home) s.run.this s.callers

    -- with other operands and something else to do, and with something lighter
    pub next_in : (todo : List Todo) (vs : List Value) (e : Env) → Entered source told Done todo → marks todo ≤ many → Lighter source news s.env e → Deep source news (at todo vs (in_env e s))
    next_in todo vs e h l x = record {
      first = Done;
      run = subst (λ n. Entered source (is_told (news n.home) s.run.this s.callers) Done todo) (sym x.exec) h;
      new = done_told source told (news e.exec.home) s.run.this s.callers todo vs h;
      one = let c = b.one in omega (arith, c, l);
      callers = subst (λ n. AllEntered source (news n.home) s.callers) (sym x.exec) b.callers;
      env = x.env;
      engaged =
          let a = done_marked source told todo h in
          let c = b.engaged in
          let d = x.entries in
          omega (arith, a, c, d, l);
      depths = λ q.
          let a = done_first source told q todo vs h in
          let c = counted_least q s.run.this (marks todo) many l in
          let d = b.depths q in
          let f = x.owed q in
          let g = subst (λ ds. counted q s.run.this many + owed_waiting q s.callers + owed_env q s.env ≤ depth_in (find q ds)) (sym x.depths) d in
          omega (arith, a, c, f, g);
    }

    pub go_in : (todo : List Todo) (vs : List Value) (e : Env) → Entered source told Any todo → marks todo ≤ many → Lighter source news s.env e → Deep source news (at todo vs (in_env e s))
    go_in todo vs e h l x = next_in todo vs e (any_done source told todo h) l x

    pub plain : Lighter source news s.env s.env
    plain = kept.same source news s.env s.env b.env refl refl refl refl (omega arith) refl

    pub go : (todo : List Todo) (vs : List Value) → Entered source told Any todo → marks todo ≤ many → Deep source news (at todo vs s)
    go todo vs h l = go_in todo vs s.env h l plain

    pub go_alone : (todo : List Todo) (vs : List Value) → Entered source told Any todo → marks todo ≤ many → DeepAlone source news (at todo vs s)
    go_alone todo vs h l = record { alone = h; deep = go todo vs h l }

    pub go_ok : (todo : List Todo) (vs : List Value) → Ok source told many todo → Deep source news (at todo vs s)
    go_ok todo vs x = go todo vs x.list x.few

    pub go_done : (todo : List Todo) (vs : List Value) → OkDone source told many todo → Deep source news (at todo vs s)
    go_done todo vs x = next_in todo vs s.env x.list x.few plain

    -- with a request
    pub asked_in : (r : Request) (todo : List Todo) (vs : List Value) (e : Env) → (DeepAlone source news (at todo vs (in_env e s)) → DeepAsk source news r (at todo vs (in_env e s))) → LetsGo news r s → Unheld r e → Entered source told Any todo → marks todo ≤ many → Lighter source news s.env e → DeepStep source news s (asks r todo vs (in_env e s))
    asked_in r todo vs e k i u h l x =
        record { state = k (record { alone = subst (λ n. Entered source (is_told (news n.home) s.run.this s.callers) Any todo) (sym x.exec) h; deep = go_in todo vs e h l x }); inside = i; unheld = u }

    pub asked : (r : Request) (todo : List Todo) (vs : List Value) → (DeepAlone source news (at todo vs s) → DeepAsk source news r (at todo vs s)) → LetsGo news r s → Unheld r s.env → Entered source told Any todo → marks todo ≤ many → DeepStep source news s (asks r todo vs s)
    asked r todo vs k i u h l = record { state = k (record { alone = h; deep = go todo vs h l }); inside = i; unheld = u }

    pub stop : (f : RunFault) (todo : List Todo) (vs : List Value) → DeepStep source news s (fault f todo vs s)
    stop f todo vs = record { state = tt; inside = tt; unheld = tt }

    pub moved : (m : Moved (List Todo) Value) (todo : List Todo) (vs : List Value) → kept.DeepMoved source news m → DeepStep source news s (piece.moves m (at todo vs s))
    moved (To t) todo vs m = m
    moved (Stops f) todo vs m = record { state = tt; inside = tt; unheld = tt }

    pub write : (p v : Value) → Lighter source news s.env (written p v s.env)
    write p v = kept.written_lighter source news p v s.env b.env

    pub outcome : (o : Outcome) (todo : List Todo) (vs : List Value) → Entered source told Any todo → marks todo ≤ many → DeepStep source news s (piece.outcome_step o todo vs s)
    outcome (Gives n) todo vs h l = go todo _ h l
    outcome (Faults f) todo vs h l = stop f todo vs

    pub element : (k : Shape) (i : Option ℕ) (todo : List Todo) (v : Value) (vs : List Value) → Entered source told Any todo → marks todo ≤ many → DeepStep source news s (piece.element_step k i todo v vs s)
    element k None todo v vs h l = stop Index todo vs
    element k (Some i) todo v vs h l = go todo _ h l

    -- each task is inside its own object
    pub is_own : IsInside s.env.own s.env
    is_own =
        let a = b.depths s.env.own in
        let c = own_one s.env.own in
        inside_of (find s.env.own s.env.depths) (omega (arith, a, c))

    -- who has a mark is inside its object
    pub is_inside : (n : ℕ) → suc n ≤ many → IsInside (object_in s.run.this) s.env
    is_inside n l =
        let a = b.depths (object_in s.run.this) in
        let c = counted_own s.run.this many in
        inside_of (find (object_in s.run.this) s.env.depths) (omega (arith, a, c, l))

    -- expressions

    object : (o : ObjectExpr) (todo : List Todo) → EnteredObject source o → Entered source told Any todo → marks todo ≤ many → DeepStep source news s (quiet.object_step o todo s)
    object src.This todo n h l = go _ _ h l
    object (src.OwnField k i) todo n h l = go _ _ h l
    object (src.GetOwn k i) todo n h l = go _ _ h l
    object (src.FieldOf k i a) todo n h l = go _ _ (n, (tt, h)) l
    object src.Counted todo n h l = go _ _ h l
    object (src.CallOn r a args) todo n h l = go _ _ (n.1, (n.2, (tt, (n.0, h)))) l
    object (src.CallLive r a args) todo n h l = go _ _ (n.1, (n.2, (tt, (tt, (n.0, h))))) l
    object (src.CallUnwritten r a) todo n h l = go _ _ (n.1, (n.0, h)) l
    object (src.EnterOn m r a args) todo n h l = go _ _ (n.1, (n.2, (tt, (n.0, (refl, h))))) l
    object (src.EndOn r false a) todo n h l = go _ _ (n.1, (n.0, (refl, h))) l
    object (src.EndOn r true a) todo n h l = go _ _ (n.1, (tt, (n.0, (refl, h)))) l
    object (src.Bind a b) todo n h l = go _ _ (n.0, (n.1, (tt, h))) l
    object (src.MakeOn c r false a args) todo n h l = go _ _ (n.0, (n.1, (tt, (refl, h)))) l
    object (src.MakeOn c r true a args) todo n h l = go _ _ (n.0, (n.1, (tt, (tt, (refl, h))))) l
    object src.NewCluster todo n h l = go _ _ (tt, h) l
    object (src.NewProcessor a) todo n h l = go _ _ (n, (tt, h)) l
    object (src.EndCluster a) todo n h l = go _ _ (n, (tt, h)) l
    object (src.EndProcessor a) todo n h l = go _ _ (n, (tt, h)) l
    object (src.ConditionAt k m a) todo n h l = go _ _ (n, (tt, h)) l
    object (src.Wait a b) todo n h l = go _ _ (n.0, (n.1, (tt, (tt, h)))) l
    object (src.Signal a) todo n h l = go _ _ (n, (tt, h)) l
    object (src.SignalBlock a) todo n h l = go _ _ (n, (tt, h)) l
    object (src.IsEmpty a) todo n h l = go _ _ (n, (tt, h)) l
    object (src.FrontOf a) todo n h l = go _ _ (n, (tt, h)) l

    pub eval : (a : Expr) (todo : List Todo) → EnteredExpr source a → Entered source told Any todo → marks todo ≤ many → DeepStep source news s (quiet.eval_step a todo s)
    eval (src.Literal k) todo n h l = go _ _ h l
    eval (src.Variable k) todo n h l = go _ _ h l
    eval (src.Element m k a i) todo n h l = go _ _ (n.0, (n.1, (tt, h))) l
    eval (src.Get k) todo n h l = go _ _ h l
    eval (src.Load a) todo n h l = go _ _ (n, (tt, h)) l
    eval (src.Negated a) todo n h l = go _ _ (n, (tt, h)) l
    eval (src.Not a) todo n h l = go _ _ (n, (tt, h)) l
    eval (src.AsCharacter a) todo n h l = go _ _ (n, (tt, h)) l
    eval (src.AsTruth a) todo n h l = go _ _ (n, (tt, h)) l
    eval (src.Operate op a b) todo n h l = go _ _ (n.0, (n.1, (tt, h))) l
    eval (src.And a b) todo n h l = go _ _ (n.0, ((n.1, tt), h)) l
    eval (src.Or a b) todo n h l = go _ _ (n.0, ((tt, n.1), h)) l
    eval (src.Set k a) todo n h l = go _ _ (n, (tt, h)) l
    eval (src.Assign p a) todo n h l = go _ _ (n.0, (n.1, (tt, h))) l
    eval (src.First a b) todo n h l = go _ _ (n.0, (n.1, (tt, h))) l
    eval (src.Update op k p a) todo n h l =
        let x = lists.converts source told many k _ (tt, h) l in
        go _ _ (n.0, (tt, (tt, (n.1, (tt, x.list))))) x.few
    eval (src.StepBehind op k p) todo n h l =
        let x = lists.converts source told many k _ (tt, (tt, h)) l in
        go _ _ (n, (tt, (tt, (tt, (tt, (tt, (tt, x.list))))))) x.few
    eval src.Fail todo n h l = asked ask.Fail _ _ (λ x. x) tt tt h l
    eval (src.Call r args) todo n h l = go _ _ (n.1, (tt, (n.0, h))) l
    eval (src.OfObject o) todo n h l = object o todo n h l

    -- exits

    -- what is to do in a state that is told by its parts
    as_it_is : (t : State) (todo : List Todo) (n : Aspect → Bool) → t.run.control ≡ todo → Entered source n Any todo → is_told (news t.env.exec.home) t.run.this t.callers ≡ n → Entered source (is_told (news t.env.exec.home) t.run.this t.callers) Any t.run.control
    as_it_is t todo n rc h e = subst (λ c. Entered source c Any t.run.control) (sym e) (subst (Entered source n Any) (sym rc) h)

    none_first_new : (t : State) (todo : List Todo) (n : Aspect → Bool) → t.run.control ≡ todo → Entered source n Any todo → IsToldFirst source (news t.env.exec.home) t.run.this t.callers t.run.control t.run.operands
    none_first_new t todo n rc h =
        subst (λ y. IsToldFirst source (news t.env.exec.home) t.run.this t.callers y t.run.operands) (sym rc) (none_told source n (news t.env.exec.home) t.run.this t.callers todo t.run.operands h)

    as_done : (t : State) (todo : List Todo) (n : Aspect → Bool) → t.run.control ≡ todo → Entered source n Done todo → is_told (news t.env.exec.home) t.run.this t.callers ≡ n → Entered source (is_told (news t.env.exec.home) t.run.this t.callers) Done t.run.control
    as_done t todo n rc h e = subst (λ c. Entered source c Done t.run.control) (sym e) (subst (Entered source n Done) (sym rc) h)

    done_first_new : (t : State) (todo : List Todo) (n : Aspect → Bool) → t.run.control ≡ todo → Entered source n Done todo → IsToldFirst source (news t.env.exec.home) t.run.this t.callers t.run.control t.run.operands
    done_first_new t todo n rc h =
        subst (λ y. IsToldFirst source (news t.env.exec.home) t.run.this t.callers y t.run.operands) (sym rc) (done_told source n (news t.env.exec.home) t.run.this t.callers todo t.run.operands h)

    -- what is told where an execution runs that is at home at the same place
    told_as : (t : State) (v : Value) (cs : List Active) → t.env.exec ≡ s.env.exec → t.run.this ≡ v → t.callers ≡ cs → is_told (news t.env.exec.home) t.run.this t.callers ≡ is_told (news s.env.exec.home) v cs
    told_as t v cs e rt tc =
        ap (λ (n : Exec). is_told (news n.home) t.run.this t.callers) e ∙ (ap (λ (u : Value). is_told (news s.env.exec.home) u t.callers) rt ∙ ap (λ (l : List Active). is_told (news s.env.exec.home) v l) tc)

    callers_as : (t : State) (cs : List Active) → t.env.exec ≡ s.env.exec → t.callers ≡ cs → AllEntered source (news s.env.exec.home) cs → AllEntered source (news t.env.exec.home) t.callers
    callers_as t cs e tc c =
        subst (λ (n : Exec). AllEntered source (news n.home) t.callers) (sym e) (subst (AllEntered source (news s.env.exec.home)) (sym tc) c)

    -- the activation is left for one that waits, which may have a little more to do
    left : (a : Active) (cs : List Active) (todo : List Todo) (e : Env) → Entered source (is_told (news s.env.exec.home) a.this cs) Any a.control → marks a.control ≤ 1 → AllEntered source (news s.env.exec.home) cs → marks a.control + marks_waiting cs ≤ marks_waiting s.callers → ((q : ℕ) → owed_by q a + owed_waiting q cs ≤ owed_waiting q s.callers) → Lighter source news s.env e → (t : State) → t.run.control ≡ todo → Entered source (is_told (news s.env.exec.home) a.this cs) Any todo → marks todo ≤ marks a.control → t.run.this ≡ a.this → t.callers ≡ cs → t.env ≡ e → Deep source news t
    left a cs todo e h one c l m x t rc th tl rt tc te =
        record {
          first = Any;
          run = as_it_is t todo (is_told (news s.env.exec.home) a.this cs) rc th (told_as t a.this cs (ap (λ (f : Env). f.exec) te ∙ x.exec) rt tc);
          new = none_first_new t todo (is_told (news s.env.exec.home) a.this cs) rc th;
          one = let d = ap marks rc in omega (arith, d, one, tl);
          callers = callers_as t cs (ap (λ (f : Env). f.exec) te ∙ x.exec) tc c;
          env = subst (EngagedEnv source news) (sym te) x.env;
          engaged =
              let a1 = none_marked source (is_told (news s.env.exec.home) a.this cs) todo th in
              let a2 = ap (first_marks source) rc in
              let a3 = ap marks rc in
              let a4 = ap marks_waiting tc in
              let a5 = ap (λ (f : Env). entries f.links) te in
              let a6 = b.engaged in
              let a7 = x.entries in
              omega (arith, a1, a2, a3, a4, a5, a6, a7, l, tl);
          depths = λ q.
              let a1 = none_first source (is_told (news s.env.exec.home) a.this cs) q todo t.run.operands th in
              let a2 = ap (λ (y : List Todo). owed_first source q y t.run.operands) rc in
              let a3 = ap (λ (y : List Todo). counted q t.run.this (marks y)) rc in
              let a4 = ap (λ (v : Value). counted q v (marks todo)) rt in
              let a5 = counted_least q a.this (marks todo) (marks a.control) tl in
              let a6 = ap (owed_waiting q) tc in
              let a7 = ap (owed_env q) te in
              let a8 = ap (depth_at q) te in
              let a9 = m q in
              let d = b.depths q in
              let f = x.owed q in
              let g = subst (λ ds. counted q s.run.this many + owed_waiting q s.callers + owed_env q s.env ≤ depth_in (find q ds)) (sym x.depths) d in
              omega (arith, a1, a2, a3, a4, a5, a6, a7, a8, a9, f, g);
        }

    -- without its frame, and as an active call less
    unframed : (counts : Bool) (fs : List (List Value)) → Lighter source news s.env (record s.env { frames = fs; links = one_call_less counts s.env.links })
    unframed counts fs =
        kept.same source news s.env (record s.env { frames = fs; links = one_call_less counts s.env.links }) b.env refl refl refl refl (let a = same_entries_less counts s.env.links in omega (arith, a)) refl

    -- the end of an activation
    pub returned : (given : Value) (cs : List Active) → s.callers ≡ cs → DeepStep source news s (piece.return_step given cs s)
    returned given [] e = record { state = b.env; inside = is_own; unheld = tt }
    returned given (a ∷ cs) e =
        let c : AllEntered source (news s.env.exec.home) (a ∷ cs) = subst (AllEntered source (news s.env.exec.home)) e b.callers in
        left a cs a.control _ c.0 c.1 c.2 (let w = ap marks_waiting e in omega (arith, w)) (λ q. let w = ap (owed_waiting q) e in omega (arith, w)) (unframed s.run.counts _) _ refl c.0 (omega arith) refl refl refl

    -- it is left to be unwound
    passed : (a : Active) (cs : List Active) (why : UnwindReason) (given : Value) → s.callers ≡ a ∷ cs → Deep source news (exec.left_for s.run.counts (exec.unwound (piece.Unwind ∷ a.control) why given a) cs s.env)
    passed a cs why given e =
        let c : AllEntered source (news s.env.exec.home) (a ∷ cs) = subst (AllEntered source (news s.env.exec.home)) e b.callers in
        left a cs (piece.Unwind ∷ a.control) _ c.0 c.1 c.2 (let w = ap marks_waiting e in omega (arith, w)) (λ q. let w = ap (owed_waiting q) e in omega (arith, w)) (unframed s.run.counts _) _ refl (tt, any_skipped source (is_told (news s.env.exec.home) a.this cs) a.control c.0) (omega arith) refl refl refl

    past : (v : Visited) (given : Value) (cs : List Active) → s.callers ≡ cs → DeepStep source news s (raising.return_past v given cs s)
    past v given [] e = record { state = b.env; inside = is_own; unheld = tt }
    past v given (a ∷ cs) e = passed a cs _ given e

    end_by : (v : Option Visited) (given : Value) → DeepStep source news s (raising.end_by v given s)
    end_by None given = returned given s.callers refl
    end_by (Some v) given = past v given s.callers refl

    end_step : (w : Way) → DeepStep source news s (quiet.end_step w s)
    end_step src.ToReturn = end_by s.run.handles _
    end_step src.ToEnd = end_by s.run.handles _
    end_step src.ToBreak = returned _ s.callers refl
    end_step src.ToContinue = returned _ s.callers refl

    pub exits : (w : Way) (todo : List Todo) → Entered source told Skipped todo → marks todo ≤ many → DeepStep source news s (quiet.exit_step w todo s)
    exits w [] h l = end_step w
    exits w (p ∷ ps) h l = go_ok _ _ (lists.left_behind source told many w (piece.sort p) ps (lists.sorted source told p ps h.0 h.1) (lists.sort_few source told p (marks ps) many l))

    -- statements

    -- with another number of elements that stand
    elements : (n : ℕ) (t : State) → Deep source news t → Deep source news (quiet.with_elements n t)
    elements n t h = record { first = h.first; run = h.run; new = h.new; one = h.one; callers = h.callers; env = h.env; engaged = h.engaged; depths = h.depths }

    pub counts : (n : ℕ) (todo : List Todo) → Entered source told Any todo → marks todo ≤ many → DeepStep source news s (turns todo (quiet.with_elements n s))
    counts n todo h l = elements n (at todo s.run.operands s) (go todo s.run.operands h l)

    pub swept : (n : ℕ) (e : Expr) (todo : List Todo) → EnteredExpr source e → Entered source told Any todo → marks todo ≤ many → DeepStep source news s (quiet.sweep_step n e todo s)
    swept zero e todo n h l = go _ _ h l
    swept (suc m) e todo n h l = counts m (piece.Eval e ∷ (piece.DropNow ∷ (piece.Sweep e ∷ todo))) (n, (tt, (n, h))) l

    event_step : (a : EventStmt) (todo : List Todo) → EnteredEvent source a → Entered source told Any todo → marks todo ≤ many → DeepStep source news s (quiet.event_step a todo s)
    event_step (src.Throw line r) todo n h l = go_ok _ _ (lists.raised source told many r _ n (tt, (tt, h)) l)
    event_step (src.Raise line r) todo n h l = go_ok _ _ (lists.raised source told many r _ n (tt, (tt, h)) l)
    event_step (src.Try line body hs) todo n h l = go _ _ (n.0, (n.1, (tt, h))) (still source body (marks todo) many n.0 l)
    event_step (src.RaiseAt line r a) todo n h l = go_ok _ _ (lists.raised source told many r _ n.0 (n.1, (tt, (tt, h))) l)
    event_step (src.Enable line events cell a) todo n h l = go _ _ (tt, (tt, (n, ((tt, λ k f. cc), (tt, h))))) l
    event_step (src.Disable line events cell a) todo n h l = go _ _ (tt, (n, ((tt, λ k f. cc), (tt, h)))) l

    task_step : (a : TaskStmt) (todo : List Todo) → EnteredTask source a → Entered source told Any todo → marks todo ≤ many → DeepStep source news s (quiet.task_step a todo s)
    task_step (src.Resume line) todo n h l = go _ _ (tt, (tt, (tt, h))) l
    task_step (src.Suspend line) todo n h l = go _ _ (tt, (tt, (tt, h))) l
    task_step (src.SetUp r) todo n h l = go _ _ (n.0, h) l
    task_step src.Enliven todo n h l = go _ _ (tt, h) l
    task_step src.TakeDown todo n h l = go _ _ (tt, h) l
    task_step (src.Yield line) todo n h l = go _ _ (tt, (tt, (tt, h))) l
    task_step (src.Migrate line a) todo n h l = go _ _ (n, (tt, (tt, h))) l
    task_step (src.Accept line site cs) todo n h l = go _ _ (n, (tt, (n, (tt, h)))) l

    pub stmt : (a : Stmt) (todo : List Todo) → EnteredStmt source a → Entered source told Any todo → marks todo ≤ many → DeepStep source news s (quiet.stmt_step a todo s)
    stmt (src.Skip line) todo n h l = go _ _ h l
    stmt (src.Block line body) todo n h l = go _ _ (n, (tt, h)) (still source body (marks todo) many n l)
    stmt (src.Whole line body) todo n h l = go _ _ (n, (tt, (tt, h))) (still source body (marks todo) many n l)
    stmt (src.Evaluate line a) todo n h l = go _ _ (n, (tt, (tt, h))) l
    stmt (src.Declare line ds) todo n h l = go _ _ (n, (tt, h)) l
    stmt (src.Print line items) todo n h l = go _ _ (n, (tt, h)) l
    stmt (src.PrintTogether line items) todo n h l = go _ _ (n, (tt, (n, (tt, (tt, h))))) l
    stmt (src.Read line ts) todo n h l = go _ _ (n, (tt, h)) l
    stmt (src.If line t a b) todo n h l = go _ _ (n.0, ((n.1, n.2), (tt, h))) l
    stmt (src.Loop line o t e b) todo n h l = go_ok _ _ (lists.looped source told many o t e b _ n.0 n.1 n.2 (tt, h) l)
    stmt (src.Break line) todo n h l = go _ _ (tt, any_skipped source told _ h) l
    stmt (src.Continue line) todo n h l = go _ _ (tt, any_skipped source told _ h) l
    stmt (src.Return line None) todo n h l = go _ _ (tt, any_skipped source told _ h) l
    stmt (src.Return line (Some e)) todo n h l = go _ _ (n, (tt, (tt, h))) l
    stmt (src.Owes line) todo n h l = go _ _ (tt, (tt, h)) l
    stmt (src.Fill line m b d) todo n h l = go _ _ (tt, (n, (tt, h))) l
    stmt (src.OfEvents a) todo n h l = event_step a todo n h l
    stmt (src.OfTasks a) todo n h l = task_step a todo n h l

    pub rest : (ss : Stmts) (todo : List Todo) → EnteredWhole source told ss → Entered source told Any todo → more (holds_object ss) (marks todo) ≤ many → DeepStep source news s (quiet.rest_step ss todo s)
    rest src.Nil todo n h l = go _ _ h l
    rest (src.Then a ss) todo n h l = go _ _ (n.0.0, (n.0.1, h)) (still source ss (marks todo) many n.0.1 l)
    rest (src.Scoped c ss) todo n h l = go _ _ (n.0.1, ((n.0.0, n.1), h)) (still source ss (more (lets_go c) (marks todo)) many n.0.1 l)
    rest (src.Built c ss) todo n h l = go _ _ (n.0.2, ((n.0.0, n.0.1), h)) (still source ss (marks todo) many n.0.2 l)

    -- coroutines

    pub ends : (todo : List Todo) (vs : List Value) → DeepStep source news s (Asks ask.End (at todo vs s))
    ends todo vs = record { state = b.env; inside = is_own; unheld = tt }

    pub set_up : (r : Option Routine) (todo : List Todo) → EnteredRoutine source r → holds_object (routine_or_none r).body ≡ false → Entered source told Any todo → marks todo ≤ many → DeepStep source news s (quiet.set_up_step r todo s)
    set_up None todo n e h l = go _ _ h l
    set_up (Some r) todo n e h l =
        let x = kept.born_lighter source news (quiet.home_at s.run.this s.env) (quiet.fresh r s.run.this) s.env (lists.main_engaged source (news (quiet.home_at s.run.this s.env)) r s.run.this n e) (lists.main_owes source (news (quiet.home_at s.run.this s.env)) r s.run.this e) b.env in
        go_in _ _ _ h l (kept.after source news x (kept.written_lighter source news s.run.this _ _ x.env))

    pub live : (r : Option Routine) (todo : List Todo) → Entered source told Any todo → marks todo ≤ many → DeepStep source news s (quiet.live_step r todo s)
    live None todo h l = ends _ _
    live (Some r) todo h l = either (DeepStep source news s) (sw.is_live (piece.exec_at (top (drop r.params s.run.operands)) s.env) s.env) _ _ (go _ _ h l) (stop NotLive todo _)

    pub land : (o : Option UnwindReason) (todo : List Todo) → Entered source told Any todo → marks todo ≤ many → DeepStep source news s (quiet.land_step o todo s)
    land None todo h l = go _ _ h l
    land (Some why) todo h l = go _ _ (tt, any_skipped source told todo h) l

    -- mutex objects

    pub unless : (o : ℕ) (step : Step) (todo : List Todo) → (inside.is_held_up o s.env ≡ false → DeepStep source news s step) → DeepStep source news s (monitors.unless_held_up o step todo s)
    unless o step todo k = by (inside.is_held_up o s.env) k
      where
        by : (c : Bool) → (c ≡ false → DeepStep source news s step) → DeepStep source news s (if c then fault BlockedInside todo s.run.operands s else step)
        by true k = stop BlockedInside todo s.run.operands
        by false k = k refl

    -- an object is entered for the call that comes first
    begun_here : (r : ℕ) (todo : List Todo) → IsToldFor source (news s.env.exec.home) r (top (drop (routine_of source r).params s.run.operands)) s.run.this todo s.callers → Entered source told (CallOf r) todo → marks todo ≤ many → Deep source news (at todo s.run.operands (in_env (inside.call_begun (object_in (top (drop (routine_of source r).params s.run.operands))) s.env) s))
    begun_here r todo n h l =
        let v = top (drop (routine_of source r).params s.run.operands) in
        record {
          first = CallOf r;
          run = h;
          new = called_told source told (news s.env.exec.home) s.run.this s.callers r todo s.run.operands h n;
          one = let c = b.one in omega (arith, c, l);
          callers = b.callers;
          env = record { house = b.env.house; hand = b.env.hand };
          engaged =
              let a = called_marks source told r todo h in
              let c = more_most (is_holding source r) 0 in
              let d = b.engaged in
              omega (arith, a, c, d, l);
          depths = λ q.
              let a = entered_first source told q r todo s.run.operands h in
              let c = deeper_most q v s.env.depths in
              let d = b.depths q in
              let e = counted_least q s.run.this (marks todo) many l in
              omega (arith, a, c, d, e);
        }

    -- what is destroyed is another: the running execution is not at home there, and nothing is owed to it but by those that do not run
    entered_told : (tells : TellsOthers news s) (r : ℕ) (todo : List Todo) → is_building source r ≡ false → (is_ending source r ≡ true → (s.env.exec.home ≡ home.Object (entering source r s) → ⊥) × (owed_by (entering source r s) (record s.run { control = todo }) + owed_waiting (entering source r s) s.callers + owed_own (entering source r s) s.env.own ≡ 0)) → IsToldFor source (news s.env.exec.home) r (top (drop (routine_of source r).params s.run.operands)) s.run.this todo s.callers
    entered_told tells r todo n f = at
      where
        o : ℕ
        o = entering source r s

        not_own : is_ending source r ≡ true → s.env.own ≡ o → ⊥
        not_own e q =
            let a = (f e).1 in
            let c = own_one o in
            let d = ap (owed_own o) q in
            omega (arith, a, c, d)

        at : IsToldFor source (news s.env.exec.home) r (top (drop (routine_of source r).params s.run.operands)) s.run.this todo s.callers
        at New e = true_false e n
        at Other e =
            both_are (news s.env.exec.home Other o) _ (tells o (not_own e) (f e).0) (eq-eqb (counted o s.run.this (marks todo) + owed_waiting o s.callers) 0 (let a = (f e).1 in omega (arith, a)))

    -- nothing is owed to it where the task is not there yet, or by the premise
    enter_at : (tells : TellsOthers news s) (d : Option ℕ) (m r : ℕ) (todo : List Todo) → find (entering source r s) s.env.depths ≡ d → is_building source r ≡ false → FairAt source (piece.EnterNow m r ∷ todo) s → Entered source told (CallOf r) todo → marks todo ≤ many → many ≤ marks s.run.control → DeepStep source news s (monitors.enter_at d (entering source r s) m todo s)
    enter_at tells (Some d) m r todo g n f h l k =
        begun_here r todo (entered_told tells r todo n (λ e.
        let a = f e (ap is_some g) in
        let z = a.1 in
        let i = counted_least (entering source r s) s.run.this (marks todo) (marks s.run.control) (omega (arith, l, k)) in
        (a.0, omega (arith, z, i)))) h l
    enter_at tells None m r todo g n f h l k = record {
      state = λ away. begun_here r todo (entered_told tells r todo n (λ e.
          let a = b.depths (entering source r s) in
          let c = ap depth_in g in
          let i = counted_least (entering source r s) s.run.this (marks todo) many l in
          (away, omega (arith, a, c, i)))) h l;
      inside = tt;
      unheld = tt;
    }

    pub enter : (tells : TellsOthers news s) (m r : ℕ) (o : Option Routine) (todo : List Todo) → slice_get source.routines r ≡ o → is_building source r ≡ false → FairAt source (piece.EnterNow m r ∷ todo) s → Entered source told (CallOf r) todo → marks todo ≤ many → many ≤ marks s.run.control → DeepStep source news s (monitors.enter_step m o todo s)
    enter tells m r None todo e n f h l k = ends _ _
    enter tells m r (Some x) todo e n f h l k =
        let same : routine_of source r ≡ x = ap routine_or_none e in
        let o = object_in (top (drop (routine_of source r).params s.run.operands)) in
        subst (λ (y : Routine). DeepStep source news s (monitors.enter_step m (Some y) todo s)) same (either (DeepStep source news s) (monitors.may_call (routine_of source r).written s) _ _ (enter_at tells (find o s.env.depths) m r todo refl n f h l k) (stop Depth todo _))

    -- with the same members
    engaged_as : (e : Env) → e.own ≡ s.env.own → e.house ≡ s.env.house → e.hand ≡ s.env.hand → EngagedEnv source news e
    engaged_as e eo eh ei = record {
      house = subst (λ t. EngagedParked source (news (home.Task t)) e.house.parked) (sym eo) (subst (λ (m : Members). EngagedParked source (news (home.Task s.env.own)) m.parked) (sym eh) b.env.house);
      hand = subst (EngagedHand source news) (sym ei) b.env.hand;
    }

    -- one call less is engaged, and the task is one less deep
    ended_here : (e : Env) (todo : List Todo) → Entered source told Any todo → suc (marks todo) ≤ many → e.exec ≡ s.env.exec → e.own ≡ s.env.own → e.house ≡ s.env.house → e.hand ≡ s.env.hand → e.depths ≡ shallower (find (object_in s.run.this) s.env.depths) (object_in s.run.this) s.env.depths → entries s.env.links ≤ suc (entries e.links) → (t : State) → t.run.control ≡ todo → t.run.this ≡ s.run.this → t.callers ≡ s.callers → t.env ≡ e → Deep source news t
    ended_here e todo h l ex eo eh ei ed el t rc rt tc te = record {
      first = Any;
      run = as_it_is t todo told rc h (told_as t s.run.this s.callers (ap (λ (f : Env). f.exec) te ∙ ex) rt tc);
      new = none_first_new t todo told rc h;
      one = let c = ap marks rc in let d = b.one in omega (arith, c, d, l);
      callers = callers_as t s.callers (ap (λ (f : Env). f.exec) te ∙ ex) tc b.callers;
      env = subst (EngagedEnv source news) (sym te) (engaged_as e eo eh ei);
      engaged =
          let a1 = none_marked source told todo h in
          let a2 = ap (first_marks source) rc in
          let a3 = ap marks rc in
          let a4 = ap marks_waiting tc in
          let a5 = ap (λ (f : Env). entries f.links) te in
          let a6 = b.engaged in
          omega (arith, a1, a2, a3, a4, a5, a6, l, el);
      depths = λ q.
          let a1 = none_first source told q todo t.run.operands h in
          let a2 = ap (λ (y : List Todo). owed_first source q y t.run.operands) rc in
          let a3 = ap (λ (y : List Todo). counted q t.run.this (marks y)) rc in
          let a4 = ap (λ (v : Value). counted q v (marks todo)) rt in
          let a5 = counted_one_less q s.run.this (marks todo) many l in
          let a6 = ap (owed_waiting q) tc in
          let a7 = ap (owed_env q) te in
          let a8 = ap (depth_at q) te in
          let a9 = ap (λ (m : Members). owed_parked q m.parked) eh in
          let a10 = ap (owed_hand q) ei in
          let a13 = ap (owed_own q) eo in
          let a11 = ap (λ (ds : List (ℕ × ℕ)). depth_in (find q ds)) ed in
          let a12 = shallower_least q s.run.this s.env.depths in
          let d = b.depths q in
          omega (arith, a1, a2, a3, a4, a5, a6, a7, a8, a9, a10, a11, a12, a13, d);
    }

    pub leave : (c : Bool) (todo : List Todo) → Entered source told Any todo → suc (marks todo) ≤ many → DeepStep source news s (monitors.leave_at c (monitors.this_object s) todo s)
    leave false todo h l = ended_here (inside.call_ended (monitors.this_object s) s.env) todo h l refl refl refl refl refl (omega arith) _ refl refl refl refl
    leave true todo h l =
        let x = lists.polled source told many s.run.raised todo h (omega (arith, l)) in
        let few : marks (monitors.leave_todo s.run.raised todo) ≡ marks todo = polled_marks s.run.raised in
        unless (monitors.this_object s) _ todo (λ u. record {
          state = record {
            alone = x.list;
            deep = ended_here _ (monitors.leave_todo s.run.raised todo) x.list (omega (arith, few, l)) refl refl refl refl refl (let a = same_entries_less s.run.counts (record s.env.links { mutex_calls = s.env.links.mutex_calls - 1 }) in omega (arith, a)) _ refl refl refl refl;
          };
          inside = is_inside (marks todo) l;
          unheld = u;
        })
      where
        polled_marks : (o : Option UnwindReason) → marks (monitors.leave_todo o todo) ≡ marks todo
        polled_marks None = refl
        polled_marks (Some why) = refl

    pub make : (c k : ℕ) (r : Option Routine) (todo : List Todo) → Entered source told (CallOf k) todo → marks todo ≤ many → DeepStep source news s (monitors.make_step c k r todo s)
    make c k None todo h l = ends _ _
    make c k (Some r) todo h l =
        either (DeepStep source news s) (monitors.may_call r.written s) _ _ (record {
          state = (
            tt,
            record {
              first = Bound;
              run = (tt, h);
              new = tt;
              one = let c = b.one in omega (arith, c, l);
              callers = b.callers;
              env = record { house = b.env.house; hand = b.env.hand };
              engaged =
                  let a = more_most (is_holding source k) 0 in
                  let d = b.engaged in
                  omega (arith, a, d, l);
              depths = λ q.
                  let d = b.depths q in
                  let e = counted_least q s.run.this (marks todo) many l in
                  omega (arith, d, e);
            },
          );
          inside = tt;
          unheld = tt;
        }) (stop Depth todo _)

    -- an object is let go of however deep the task is, which is owed nothing else
    pub gone_here : (e : Env) (todo : List Todo) → Entered source told Any todo → suc (marks todo) ≤ many → owed source (object_in s.run.this) (at todo s.run.operands (in_env e s)) ≡ 0 → e.exec ≡ s.env.exec → e.own ≡ s.env.own → e.house ≡ s.env.house → EngagedHand source news e.hand → ((q : ℕ) → owed_hand q e.hand ≤ owed_hand q s.env.hand) → e.depths ≡ without (object_in s.run.this) s.env.depths → entries s.env.links ≤ suc (entries e.links) → Deep source news (at todo s.run.operands (in_env e s))
    gone_here e todo h l f ex eo eh hi ei ed el = record {
      first = Any;
      run = subst (λ n. Entered source (is_told (news n.home) s.run.this s.callers) Any todo) (sym ex) h;
      new = none_told source told (news e.exec.home) s.run.this s.callers todo s.run.operands h;
      one = let c = b.one in omega (arith, c, l);
      callers = subst (λ n. AllEntered source (news n.home) s.callers) (sym ex) b.callers;
      env = record { house = subst (λ (m : Members). EngagedParked source (news (home.Task e.own)) m.parked) (sym eh) (subst (λ (q : ℕ). EngagedParked source (news (home.Task q)) s.env.house.parked) (sym eo) b.env.house); hand = hi };
      engaged =
          let a1 = none_marked source told todo h in
          let a6 = b.engaged in
          omega (arith, a1, a6, l, el);
      depths = λ q. by q (nat_eq (object_in s.run.this) q) refl;
    }
      where
        by : (q : ℕ) (c : Bool) → nat_eq (object_in s.run.this) q ≡ c → owed source q (at todo s.run.operands (in_env e s)) ≤ depth_at q e
        by q true g =
            let f1 = subst (λ k. owed source k (at todo s.run.operands (in_env e s)) ≡ 0) (eqb-true (object_in s.run.this) q g) f in
            omega (arith, f1)
        by q false g =
            let a1 = none_first source told q todo s.run.operands h in
            let a5 = counted_least q s.run.this (marks todo) many (omega (arith, l)) in
            let a9 = ap (λ (m : Members). owed_parked q m.parked) eh in
            let a10 = ei q in
            let a13 = ap (owed_own q) eo in
            let a11 = ap (λ (ds : List (ℕ × ℕ)). depth_in (find q ds)) ed in
            let a12 = ap depth_in (without_other q (object_in s.run.this) s.env.depths g) in
            let d = b.depths q in
            omega (arith, a1, a5, a9, a10, a11, a12, a13, d)

    pub condition : (k : ℕ) (i : Option ℕ) (todo : List Todo) → Entered source told Any todo → marks todo ≤ many → DeepStep source news s (monitors.condition_step k i todo s)
    condition k None todo h l = stop Index todo _
    condition k (Some i) todo h l = go _ _ h l

    accept_by : (mask o site : ℕ) (todo : List Todo) (vs : List Value) → Entered source told Any todo → marks todo ≤ many → DeepStep source news s (monitors.accept_by mask o site todo vs s)
    accept_by zero o site todo vs h l = go _ _ h l
    accept_by (suc mask) o site todo vs h l = unless o _ todo (λ u. asked (ask.Accept o site (suc mask)) _ _ (λ x. x) tt u (tt, (tt, h)) l)

    pub accept : (o site n : ℕ) (todo : List Todo) → Entered source told Any todo → marks todo ≤ many → DeepStep source news s (monitors.accept_step o site n todo s)
    accept o site n todo h l = accept_by (monitors.mask_of (take_operands Nothing n s.run.operands [])) o site todo _ h l

    pub failed : (c : Bool) (todo : List Todo) (vs : List Value) → Entered source told Any todo → marks todo ≤ many → DeepStep source news s (monitors.failed_step c todo vs s)
    failed true todo vs h l = go _ _ h l
    failed false todo vs h l = go _ _ (tt, h) l

    -- events

    pend : (n : Exec) (e : Event) (todo : List Todo) (vs : List Value) → Entered source told Any todo → marks todo ≤ many → DeepStep source news s (polls.pend_step n e todo vs s)
    pend n e todo vs h l =
        either (DeepStep source news s) (nat_lt (length (inside.pending_at n s.env)) PENDING_EVENTS) _ _ (go_in _ _ _ h l (kept.with_links_lighter source news (λ k. record k { pending = k.pending ++ (record { event = e.number; x = e.x; y = e.y }) ∷ [] }) (record { counts = λ k. omega arith; stage = λ k. inl refl }) n s.env b.env)) (stop TooManyPending todo vs)

    pend_at : (o : Option Exec) (e : Event) (todo : List Todo) (vs : List Value) → Entered source told Any todo → marks todo ≤ many → DeepStep source news s (polls.pend_at o e todo vs s)
    pend_at None e todo vs h l = stop NotLive todo vs
    pend_at (Some n) e todo vs h l = either (DeepStep source news s) (sw.is_live (Some n) s.env) _ _ (pend n e todo vs h l) (stop NotLive todo vs)

    pub raise_at : (v : Value) (e : Event) (todo : List Todo) (vs : List Value) → Entered source told Any todo → marks todo ≤ many → DeepStep source news s (polls.raise_at_step v e todo vs s)
    raise_at (Object o) e todo vs h l = asked (ask.Raise o e.number e.x e.y) _ _ (λ x. x) tt tt h l
    raise_at v e todo vs h l = pend_at (piece.exec_at v s.env) e todo vs h l

    pub enables : (events cell : ℕ) (todo : List Todo) → Entered source told Any todo → marks todo ≤ many → DeepStep source news s (polls.enable_step events cell todo s)
    enables events cell todo h l =
        let x = write (piece.variable_at cell s) (Number (signed_64 s.env.links.enabled)) in
        go_in _ _ _ h l (kept.after source news x (kept.same source news _ _ x.env refl refl refl refl (omega arith) refl))

    quiet_poll : (o : Option Pending) (todo : List Todo) → Entered source told Any todo → marks todo ≤ many → DeepStep source news s (polls.quiet_poll o todo s)
    quiet_poll None todo h l = go _ _ h l
    quiet_poll (Some p) todo h l = go_in _ _ _ (tt, h) l (kept.same source news s.env _ b.env refl refl refl refl (omega arith) refl)

    poll_by : (c : Bool) (todo : List Todo) → Entered source told Any todo → marks todo ≤ many → DeepStep source news s (polls.poll_by c todo s)
    poll_by true todo h l = asked (ask.Poll s.env.links.enabled) _ _ (λ x. x) tt tt (tt, h) l
    poll_by false todo h l = quiet_poll (inside.oldest_enabled s.env.links) todo h l

    pub poll : (todo : List Todo) → Entered source told Any todo → marks todo ≤ many → DeepStep source news s (polls.poll_step todo s)
    poll todo h l = either (DeepStep source news s) (nat_eq s.env.links.enabled 0) _ _ (go _ _ h l) (poll_by (inside.is_own s.env) todo h l)

    pub deliver : (v : Value) (todo : List Todo) → Entered source told Any todo → marks todo ≤ many → DeepStep source news s (polls.deliver_step v todo s)
    deliver Nothing todo h l = go _ _ h l
    deliver v todo h l = go _ _ (tt, (tt, h)) l

    -- the running activation somewhat changed, but for its object
    like : (t : State) (u : State) → Deep source news t → u.run.control ≡ t.run.control → u.run.this ≡ t.run.this → u.callers ≡ t.callers → u.env ≡ t.env → Entered source (is_told (news t.env.exec.home) t.run.this t.callers) Done t.run.control → Deep source news u
    like t u h rc rt tc te alone = record {
      first = Done;
      run = as_done u t.run.control (is_told (news t.env.exec.home) t.run.this t.callers) rc alone (ap (λ (f : Env). is_told (news f.exec.home) u.run.this u.callers) te ∙ (ap (λ (v : Value). is_told (news t.env.exec.home) v u.callers) rt ∙ ap (λ (l : List Active). is_told (news t.env.exec.home) t.run.this l) tc));
      new = done_first_new u t.run.control (is_told (news t.env.exec.home) t.run.this t.callers) rc alone;
      one = let c = ap marks rc in let d = h.one in omega (arith, c, d);
      callers = subst (λ (f : Env). AllEntered source (news f.exec.home) u.callers) (sym te) (subst (AllEntered source (news t.env.exec.home)) (sym tc) h.callers);
      env = subst (EngagedEnv source news) (sym te) h.env;
      engaged =
          let a2 = ap (first_marks source) rc in
          let a3 = ap marks rc in
          let a4 = ap marks_waiting tc in
          let a5 = ap (λ (f : Env). entries f.links) te in
          let a6 = h.engaged in
          omega (arith, a2, a3, a4, a5, a6);
      depths = λ q.
          let a1 = done_first source (is_told (news t.env.exec.home) t.run.this t.callers) q t.run.control u.run.operands alone in
          let a2 = ap (λ (y : List Todo). owed_first source q y u.run.operands) rc in
          let a3 = ap (λ (y : List Todo). counted q u.run.this (marks y)) rc in
          let a4 = ap (λ (v : Value). counted q v (marks t.run.control)) rt in
          let a6 = ap (owed_waiting q) tc in
          let a7 = ap (owed_env q) te in
          let a8 = ap (depth_at q) te in
          let d = h.depths q in
          omega (arith, a1, a2, a3, a4, a6, a7, a8, d);
    }

    -- with this to do, for whatever reason it is unwound and with whatever operands
    changed_next : (todo : List Todo) (u : State) → Entered source told Done todo → marks todo ≤ many → u.run.control ≡ todo → u.run.this ≡ s.run.this → u.callers ≡ s.callers → u.env ≡ s.env → Deep source news u
    changed_next todo u h l rc rt tc te = like (at todo [] s) u (next_in todo [] s.env h l plain) rc rt tc te h

    changed : (todo : List Todo) (u : State) → Entered source told Any todo → marks todo ≤ many → u.run.control ≡ todo → u.run.this ≡ s.run.this → u.callers ≡ s.callers → u.env ≡ s.env → Deep source news u
    changed todo u h l rc rt tc te = changed_next todo u (any_done source told todo h) l rc rt tc te

    pub throws : (e : Event) (todo : List Todo) → Entered source told Any todo → marks todo ≤ many → DeepStep source news s (raising.throw_step e todo s)
    throws e todo h l = changed (piece.Unwind ∷ todo) _ (tt, any_skipped source told todo h) l refl refl refl refl

    handles : (f : Option Found) (e : Event) (todo : List Todo) → lists.FoundEntered source f → Entered source told Any todo → marks todo ≤ many → DeepStep source news s (raising.handle_step f e todo s)
    handles None e todo n h l = throws e todo h l
    handles (Some f) e todo n h l =
        let older : List Active = (record s.run { control = piece.DropNow ∷ todo; operands = below (below (below s.run.operands)) }) ∷ s.callers in
        let within : Aspect → Bool = is_told (news s.env.exec.home) f.this older in
        let x = lists.handled source within 0 f.handler [] n tt (omega arith) in
        record {
          first = Any;
          run = x.list;
          new = none_told source within (news s.env.exec.home) f.this older (raising.handler_todo f.handler []) (raising.operands_of e) x.list;
          one = let c = x.few in omega (arith, c);
          callers = let c = b.one in ((tt, h), omega (arith, c, l), b.callers);
          env = record { house = b.env.house; hand = b.env.hand };
          engaged =
              let a = none_marked source within (raising.handler_todo f.handler []) x.list in
              let c = x.few in
              let d = b.engaged in
              omega (arith, a, c, d, l);
          depths = λ q.
              let a = none_first source within q (raising.handler_todo f.handler []) (raising.operands_of e) x.list in
              let c = counted_least q f.this (marks (raising.handler_todo f.handler [])) 0 x.few in
              let g = counted_none q f.this in
              let i = counted_least q s.run.this (marks todo) many l in
              let d = b.depths q in
              omega (arith, a, c, g, i, d);
        }

    pub raises : (e : Event) (todo : List Todo) → Entered source told Any todo → marks todo ≤ many → DeepStep source news s (raising.raise_step e todo s)
    raises e todo h l =
        let round : List Active = (record s.run { control = todo }) ∷ s.callers in
        handles (raising.seek None e round) e todo (lists.seek source (news s.env.exec.home) None e round (let c = b.one in (h, omega (arith, c, l), b.callers))) h l

    -- unwinding

    catches : (o : Option Handler) (e : Event) (todo : List Todo) → lists.HandlerEntered source o → Entered source told Any todo → marks todo ≤ many → DeepStep source news s (raising.catch_step o e todo s)
    catches None e todo n h l = go _ _ (tt, any_skipped source told todo h) l
    catches (Some x) e todo n h l = let y = lists.handled source told many x todo n h l in changed (raising.handler_todo x todo) _ y.list y.few refl refl refl refl

    guarded : (hs : Handlers) (o : Option UnwindReason) (todo : List Todo) → EnteredHandlers source hs → Entered source told Any todo → marks todo ≤ many → DeepStep source news s (raising.guard_left hs o todo s)
    guarded hs (Some (reason.Event n x y)) todo k h l =
        catches _ _ todo (lists.handler_for source false (record { number = n; x = x; y = y }) hs k) h l
    guarded hs o todo k h l = go _ _ (tt, any_skipped source told todo h) l

    whole : (c : Bool) (todo : List Todo) → Entered source told Any todo → marks todo ≤ many → DeepStep source news s (raising.whole_left c todo s)
    whole true todo h l = changed todo _ h l refl refl refl refl
    whole false todo h l = go _ _ (tt, any_skipped source told todo h) l

    scope : (c : CleanUp) (d : Bool) (todo : List Todo) → EnteredScope source told c → Entered source told Any todo → more (lets_go c) (marks todo) ≤ many → DeepStep source news s (raising.scope_left c d todo s)
    scope src.Leaves true todo n h l = changed_next (piece.LeaveNow ∷ (piece.Exit src.ToReturn ∷ todo)) _ (tt, (tt, any_skipped source told todo h)) l refl refl refl refl
    scope c d todo n h l = go_done (raising.left_todo c (piece.Unwind ∷ todo)) [] (lists.left_cleans source told many c (piece.Unwind ∷ todo) n (tt, any_skipped source told todo h) l)

    main_left : (o : Option UnwindReason) (todo : List Todo) → Entered source told Any todo → marks todo ≤ many → DeepStep source news s (raising.main_left o todo s)
    main_left (Some (reason.ReturnTo n)) todo h l = changed (piece.Finish ∷ todo) _ (tt, h) l refl refl refl refl
    main_left o todo h l = stop Unhandled todo []

    coroutine_left : (o : Option UnwindReason) (todo : List Todo) → Entered source told Any todo → marks todo ≤ many → DeepStep source news s (raising.coroutine_left o todo s)
    coroutine_left (Some (reason.ReturnTo n)) todo h l = changed (piece.FinishCoroutine ∷ todo) _ (tt, h) l refl refl refl refl
    coroutine_left (Some reason.Destroyed) todo h l = moved _ todo _ (kept.taken_down_deep source news (at todo [] s) (go_alone todo [] h l))
    coroutine_left o todo h l = moved _ todo _ (kept.escape_deep source news (at todo [] s) (go_alone todo [] h l))

    unwind_past : (k : Sort) (todo : List Todo) → lists.SortEntered source told k todo → more (lists.sort_owes source told k) (marks todo) ≤ many → DeepStep source news s (raising.unwind_past k todo s)
    unwind_past piece.Simple todo n l = go _ _ (tt, n) l
    unwind_past (piece.IsLoop o t e d) todo n l = go _ _ (tt, any_skipped source told todo n.1) l
    unwind_past piece.IsWhole todo n l = whole _ todo n.1 l
    unwind_past (piece.IsClean c) todo n l = scope c _ todo n.0 n.1 l
    unwind_past (piece.IsFill m e d) todo n l = go _ _ (n.0.1, (tt, any_skipped source told todo n.1)) l
    unwind_past (piece.IsSweep e) todo n l = go _ _ (n.0, (tt, any_skipped source told todo n.1)) l
    unwind_past (piece.IsPart c) todo n l =
        let e : more (lets_go c) (marks todo) ≡ marks todo = ap (λ d. more d (marks todo)) n.0.0 in
        go_done _ _ (lists.cleans source told many c (piece.Unwind ∷ todo) (n.0.1, λ k f. scope_none c n.0.0 k f) (tt, any_skipped source told todo n.1) (omega (arith, e, l)))
    unwind_past (piece.IsGuard hs) todo n l = guarded hs s.run.raised todo n.0 n.1 l
    unwind_past piece.IsFinish todo n l = main_left s.run.raised todo n.1 l
    unwind_past piece.IsFinishCoroutine todo n l = coroutine_left s.run.raised todo n.1 l

    pass_on : (o : Option UnwindReason) (c : Active) (cs : List Active) → s.callers ≡ c ∷ cs → DeepStep source news s (raising.pass_on o c cs s)
    pass_on None c cs e = record { state = b.env; inside = is_own; unheld = tt }
    pass_on (Some why) c cs e = passed c cs _ _ e

    leave_for : (d : Bool) (c : Active) (cs : List Active) → s.callers ≡ c ∷ cs → DeepStep source news s (raising.leave_for d c cs s)
    leave_for true c cs e = record { state = tt; inside = tt; unheld = tt }
    leave_for false c cs e = pass_on s.run.raised c cs e

    leaves : (cs : List Active) → s.callers ≡ cs → DeepStep source news s (raising.leave_step cs s)
    leaves [] e = record { state = b.env; inside = is_own; unheld = tt }
    leaves (c ∷ cs) e =
        either (DeepStep source news s) (raising.arrives s.run.raised (length (c ∷ cs))) _ _ (returned s.run.result (c ∷ cs) e) (leave_for _ c cs e)

    pub unwinds : (todo : List Todo) → Entered source told Skipped todo → marks todo ≤ many → DeepStep source news s (raising.unwind_step todo s)
    unwinds [] h l = leaves s.callers refl
    unwinds (p ∷ ps) h l = unwind_past (piece.sort p) ps (lists.sorted source told p ps h.0 h.1) (lists.sort_few source told p (marks ps) many l)

    -- printing

    pub prints : (o : Option (List Piece)) (p : Piece) (todo : List Todo) (vs : List Value) → Entered source told Any todo → marks todo ≤ many → DeepStep source news s (piece.print_step o p todo vs s)
    prints None p todo vs h l = asked _ todo vs (λ x. x) tt tt h l
    prints (Some ps) p todo vs h l = go_in _ _ _ h l (kept.same source news s.env _ b.env refl refl refl refl (omega arith) refl)

    pub flushes : (o : Option (List Piece)) (todo : List Todo) (vs : List Value) → Entered source told Any todo → marks todo ≤ many → DeepStep source news s (piece.flush_step o todo vs s)
    flushes None todo vs h l = go _ _ h l
    flushes (Some []) todo vs h l = go_in _ _ _ h l (kept.same source news s.env _ b.env refl refl refl refl (omega arith) refl)
    flushes (Some (p ∷ ps)) todo vs h l = asked_in _ todo vs _ (λ x. x) tt tt h l (kept.same source news s.env _ b.env refl refl refl refl (omega arith) refl)
