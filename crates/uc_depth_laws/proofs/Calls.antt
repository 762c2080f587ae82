-- A call begins, and what has been made is bound: what was owed for the call that comes first is a mark of the activation that begins.
use Rattle.std.proofs.Common.{◌≡◌, ℕ, ◌<◌, ◌≤◌, Bool, true, false, List, [], ◌∷◌, length, drop, Option, Some, None, subst, sym, ap, arith}
use Rattle.std.specs.Prelude.{nat_lt, slice_set, slice_get, if◌then◌else◌}
use Rattle.uc_tree.specs.declared.limits.TheConstants.{CALLS}
use Rattle.uc_tree.specs.Source.{Source, Routine, routine_or_none, routine_of}
use Rattle.uc_entry.specs.Keyed.{find}
use Rattle.uc_entry.specs.declared.fault.RunFault.TheVariants.{Depth}
use Rattle.uc_entry.specs.declared.request.Request.TheVariants as ask
use Rattle.uc_machine.specs.declared.exec.Exec.{Exec}
use Rattle.uc_machine.specs.Executions.{entered}
use Rattle.uc_machine.specs.Quiet as quiet
use Rattle.uc_machine.specs.Monitors as monitors
use Rattle.uc_machine.specs.Pieces as piece
use Rattle.uc_machine.specs.Pieces.{Value, Nothing, Todo, State, Env, at, in_env, top, below, written}
use Rattle.uc_depth_laws.specs.Entering.{Aspect, holds_object, asks_object, is_holding, EnteredBody, EnteredRoutine, EnteredSource}
use Rattle.uc_depth_laws.specs.Owing.{Tests, IsToldFor, AllEntered, owes, more, marks, counted, owed_first, calling, first_marks, Any, CallOf, is_told, is_told_for, IsToldFirst, Entered, depth_in, IsInside, Deep, DeepStep, Done}
use Rattle.uc_depth_laws.proofs.Depths.{own_one, inside_of, more_most, more_least, counted_least, counted_none, building_none, called_first, called_told, called_marks, set_top, done_first, done_marked, done_told}
use Rattle.uc_depth_laws.proofs.Kept as kept
use Rattle.uc_depth_laws.proofs.Kept.{either}
use Rattle.uc_depth_laws.proofs.TodoLists as lists
use Rattle.uc_depth_laws.proofs.Steps as steps

module _ (source : Source) (news : Tests) (known : EnteredSource source) where
  -- the statements of a routine
  pub body_at : (r : ℕ) → EnteredBody source (routine_of source r).body
  body_at r = of (slice_get source.routines r) (known.routines r)
    where
      of : (o : Option Routine) → EnteredRoutine source o → EnteredBody source (routine_or_none o).body
      of None h = tt
      of (Some x) h = h

  module _ (s : State) (deep : Deep source news s) where
    -- whether the object of the running activation is new
    abbrev told : Aspect → Bool
    told = is_told (news s.env.exec.home) s.run.this s.callers

    is_own : IsInside s.env.own s.env
    is_own =
        let a = deep.depths s.env.own in
        let c = own_one s.env.own in
        inside_of (find s.env.own s.env.depths) (omega (arith, a, c))

    ends : (todo : List Todo) (vs : List Value) → DeepStep source news s (piece.asks ask.End todo vs s)
    ends todo vs = record { state = deep.env; inside = is_own; unheld = tt }

    stop : (todo : List Todo) (vs : List Value) → DeepStep source news s (piece.fault Depth todo vs s)
    stop todo vs = record { state = tt; inside = tt; unheld = tt }

    -- a routine begins, of which the marks are owed already
    begun : (p : Todo) (todo : List Todo) (x : Routine) (this : Value) (counts : Bool) (vs : List Value) → s.run.control ≡ p ∷ todo → EnteredBody source x.body → Entered source told Any todo → more (holds_object x.body) 0 ≤ first_marks source (p ∷ todo) → ((q : ℕ) → counted q this (more (holds_object x.body) 0) ≤ owed_first source q (p ∷ todo) s.run.operands) → ((k : Aspect) → asks_object x.body k ≡ true → is_told_for (news s.env.exec.home) this s.run.this todo s.callers k ≡ true) → Deep source news (entered (quiet.routine_todo x) this Nothing (quiet.call_frame x s.run.operands) counts (record s.run { control = todo; operands = vs }) s.callers s.env)
    begun p todo x this counts vs c n h k w m =
        let within : Aspect → Bool = is_told_for (news s.env.exec.home) this s.run.this todo s.callers in
        let list : Entered source within Done (quiet.routine_todo x) = ((n, m), (lists.behind source within x.purpose x.line).list) in
        let few = lists.routine_marks source within x in
        record {
          first = Done;
          run = list;
          new = done_told source within (news s.env.exec.home) this ((record s.run { control = todo; operands = vs }) ∷ s.callers) (quiet.routine_todo x) [] list;
          one =
              let a1 = more_most (holds_object x.body) 0 in
              omega (arith, a1, few);
          callers =
              let a1 = ap marks c in
              let a2 = more_least (owes p) (marks todo) in
              let a3 = deep.one in
              (h, omega (arith, a1, a2, a3), deep.callers);
          env = record { house = deep.env.house; hand = deep.env.hand };
          engaged =
              let a1 = done_marked source within (quiet.routine_todo x) list in
              let a2 = ap (first_marks source) c in
              let a3 = ap marks c in
              let a4 = more_least (owes p) (marks todo) in
              let a5 = steps.same_entries_more counts s.env.links in
              let a6 = deep.engaged in
              omega (arith, a1, a2, a3, a4, a5, a6, few, k);
          depths = λ q.
              let a1 = done_first source within q (quiet.routine_todo x) [] list in
              let a2 = ap (λ (y : List Todo). owed_first source q y s.run.operands) c in
              let a3 = ap (λ (y : List Todo). counted q s.run.this (marks y)) c in
              let a4 = counted_least q s.run.this (marks todo) (marks (p ∷ todo)) (more_least (owes p) (marks todo)) in
              let a5 = counted_least q this (marks (quiet.routine_todo x)) (more (holds_object x.body) 0) few in
              let a6 = w q in
              let d = deep.depths q in
              omega (arith, a1, a2, a3, a4, a5, a6, d);
        }

    -- a call without an object, of a routine that holds none
    pub call : (r : ℕ) (todo : List Todo) → s.run.control ≡ piece.CallNow r ∷ todo → is_holding source r ≡ false → Entered source told Any todo → (o : Option Routine) → slice_get source.routines r ≡ o → DeepStep source news s (quiet.call_step o todo s)
    call r todo c n h None e = ends _ _
    call r todo c n h (Some x) e =
        let same : routine_of source r ≡ x = ap routine_or_none e in
        let z : more (is_holding source r) 0 ≡ 0 = ap (λ b. more b 0) n in
        subst (λ (y : Routine). DeepStep source news s (quiet.call_step (Some y) todo s)) same (either (DeepStep source news s) (nat_lt s.env.links.calls CALLS) _ _ (begun (piece.CallNow r) todo (routine_of source r) Nothing true _ c (body_at r) h (omega (arith, z)) (λ q. let a = counted_least q Nothing (more (is_holding source r) 0) 0 (omega (arith, z)) in let f = counted_none q Nothing in omega (arith, a, f)) (λ k f. building_none (routine_of source r).body n k f)) (stop todo _))

    -- a call at an object owes what was owed for it
    calling_least : (q r : ℕ) (v : Value) → counted q v (more (is_holding source r) 0) ≤ calling source q r v
    calling_least q r v = by (is_holding source r)
      where
        by : (b : Bool) → counted q v (more b 0) ≤ (if b then counted q v 1 else 0)
        by true = omega arith
        by false = let a = counted_none q v in omega (arith, a)

    pub call_on : (r : ℕ) (todo : List Todo) → s.run.control ≡ piece.CallOnNow r ∷ todo → Entered source told Any todo → (o : Option Routine) → slice_get source.routines r ≡ o → DeepStep source news s (quiet.call_on_step o todo s)
    call_on r todo c h None e = ends _ _
    call_on r todo c h (Some x) e =
        let same : routine_of source r ≡ x = ap routine_or_none e in
        subst (λ (y : Routine). DeepStep source news s (quiet.call_on_step (Some y) todo s)) same (either (DeepStep source news s) (nat_lt s.env.links.calls CALLS) _ _ (begun (piece.CallOnNow r) todo (routine_of source r) _ true _ c (body_at r) h (omega arith) (λ q. calling_least q r (top (drop (routine_of source r).params s.run.operands))) (subst (λ y. IsToldFirst source (news s.env.exec.home) s.run.this s.callers y s.run.operands) c deep.new)) (stop todo _))

    pub call_unwritten : (r : ℕ) (todo : List Todo) → s.run.control ≡ piece.CallUnwrittenNow r ∷ todo → Entered source told Any todo → (o : Option Routine) → slice_get source.routines r ≡ o → DeepStep source news s (quiet.call_unwritten_step o todo s)
    call_unwritten r todo c h None e = ends _ _
    call_unwritten r todo c h (Some x) e =
        let same : routine_of source r ≡ x = ap routine_or_none e in
        subst (λ (y : Routine). DeepStep source news s (quiet.call_unwritten_step (Some y) todo s)) same (begun (piece.CallUnwrittenNow r) todo (routine_of source r) _ false _ c (body_at r) h (omega arith) (λ q. calling_least q r (top (drop (routine_of source r).params s.run.operands))) (subst (λ y. IsToldFirst source (news s.env.exec.home) s.run.this s.callers y s.run.operands) c deep.new))

    -- the new object takes the place of its place below the arguments
    bound : (k r : ℕ) (todo : List Todo) → s.run.control ≡ piece.BindMadeNow k r ∷ todo → Entered source told (CallOf r) todo → (routine_of source r).params < length (below s.run.operands) → DeepStep source news s (monitors.bind_at (routine_of source r).params (top s.run.operands) (below s.run.operands) todo s)
    bound k r todo c h l =
        let n = (routine_of source r).params in
        let v = top s.run.operands in
        let vs = slice_set (below s.run.operands) n v in
        let x = kept.written_lighter source news (top (drop n (below s.run.operands))) v s.env deep.env in
        record {
          first = CallOf r;
          run = subst (λ (n : Exec). Entered source (is_told (news n.home) s.run.this s.callers) (CallOf r) todo) (sym x.exec) h;
          new = called_told source told (news (written (top (drop n (below s.run.operands))) v s.env).exec.home) s.run.this s.callers r todo vs h (subst (λ (n : Exec). IsToldFor source (news n.home) r (top (drop (routine_of source r).params vs)) s.run.this todo s.callers) (sym x.exec) (subst (λ (u : Value). IsToldFor source (news s.env.exec.home) r u s.run.this todo s.callers) (sym (set_top n (below s.run.operands) v l)) (subst (λ y. IsToldFirst source (news s.env.exec.home) s.run.this s.callers y s.run.operands) c deep.new)));
          one =
              let a1 = ap marks c in
              let a2 = deep.one in
              omega (arith, a1, a2);
          callers = subst (λ (n : Exec). AllEntered source (news n.home) s.callers) (sym x.exec) deep.callers;
          env = x.env;
          engaged =
              let a1 = called_marks source told r todo h in
              let a2 = ap (first_marks source) c in
              let a3 = ap marks c in
              let a4 = deep.engaged in
              let a5 = x.entries in
              omega (arith, a1, a2, a3, a4, a5);
          depths = λ q.
              let a1 = called_first source told q r todo vs h in
              let a2 = ap (λ (y : List Todo). owed_first source q y s.run.operands) c in
              let a3 = ap (λ (y : List Todo). counted q s.run.this (marks y)) c in
              let a4 = ap (calling source q r) (set_top n (below s.run.operands) v l) in
              let a5 = x.owed q in
              let d = deep.depths q in
              let g = ap (λ (ds : List (ℕ × ℕ)). depth_in (find q ds)) x.depths in
              omega (arith, a1, a2, a3, a4, a5, d, g);
        }

    pub bind : (k r : ℕ) (todo : List Todo) → s.run.control ≡ piece.BindMadeNow k r ∷ todo → Entered source told (CallOf r) todo → (routine_of source r).params < length (below s.run.operands) → (o : Option Routine) → slice_get source.routines r ≡ o → DeepStep source news s (monitors.bind_step o todo s)
    bind k r todo c h l None e = ends _ _
    bind k r todo c h l (Some x) e =
        let same : routine_of source r ≡ x = ap routine_or_none e in
        subst (λ (y : Routine). DeepStep source news s (monitors.bind_step (Some y) todo s)) same (bound k r todo c h l)
