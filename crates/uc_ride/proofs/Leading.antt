-- What an event leads to is what the source does.
use Rattle.std.proofs.Common.{◌≡◌, ℕ, ℤ, List, [], ◌∷◌, inl, inr, Option, Some, None, Bool, true, false, refl, sym, ap, subst, ◌∙◌}
use Rattle.std.specs.Prelude.{slice_get}
use Rattle.uc_tree.specs.Source.{Source}
use Rattle.uc_machine.specs.declared.exec.UnwindReason.{UnwindReason}
use Rattle.uc_machine.specs.declared.exec.UnwindReason.TheVariants as reason
use Rattle.uc_machine.specs.declared.exec.Visited.{Visited}
use Rattle.uc_entry.specs.declared.fault.RunFault.{RunFault}
use Rattle.uc_entry.specs.declared.fault.RunFault.TheVariants.{Unhandled, EscapeInUnwind, BlockedInside}
use Rattle.uc_entry.specs.declared.request.Asked.{Asked}
use Rattle.uc_entry.specs.declared.request.Request.{Request}
use Rattle.uc_entry.specs.declared.request.Request.TheVariants as ask
use Rattle.uc_entry.specs.Faults.{fault_number}
use Rattle.uc_machine.specs.Quiet.{Value, State, Quietly, stay, more, own_line, line_from, line_of}
use Rattle.uc_machine.specs.Raising as raising
use Rattle.uc_machine.specs.Raising.{event_in}
use Rattle.uc_code.specs.declared.op.Op.{Op}
use Rattle.uc_code.specs.declared.op.Op.TheVariants as op
use Rattle.uc_code.specs.declared.rows.Instruction.{Instruction}
use Rattle.uc_code.specs.declared.rows.MainOf.{MainOf}
use Rattle.uc_code.specs.declared.rows.MainOf.TheVariants as main_of
use Rattle.uc_code.specs.CodeShapes.{main_left}
use Rattle.uc_code.specs.Codes.{Code}
use Rattle.uc_code.specs.Layout.{Laid, laid_of}
use Rattle.uc_code.specs.Lowered.{Lowered}
use Rattle.uc_frames.specs.declared.event.Event.{Event}
use Rattle.uc_frames.specs.declared.cell.Cell.{Cell}
use Rattle.uc_frames.specs.Machine.{Activation, Machine, cell_of, line_at}
use Rattle.uc_frames.specs.Stands.{Stands}
use Rattle.uc_frames.specs.UnwindingStands.{raised_as, Unwinds, TestsBlock, TestsCall, EndsMain, LeavesNow, Raises, Throws, Returns}
use Rattle.uc_frames.proofs.Finishes.{main_line}
use Rattle.uc_coroutine.specs.declared.leaving.Left.{Left}
use Rattle.uc_coroutine.specs.declared.leaving.Left.TheVariants as left
use Rattle.uc_coroutine.specs.declared.testing.TaskMainEnd.{TaskMainEnd}
use Rattle.uc_coroutine.specs.declared.testing.TaskMainEnd.TheVariants as end
use Rattle.uc_coroutine.specs.MainEnds.{BlockLeft, MainLeft}
use Rattle.uc_coroutine.specs.UnwindingSteps.{ReturnsPast, Leads, Begins, LeftAs}
use Rattle.uc_coroutine.specs.Switching.{SwitchedAs}
use Rattle.uc_coroutine.specs.Unwinding.{Made, past_of, left_as}
use Rattle.uc_except.specs.Handling.{GoesOn, UnwindsNow}
use Rattle.uc_step.specs.Effects.{Effect, Quiet, Tick, Ask, Throw, Raise, Unwind, Past, Resume, Suspend, TakeDown, EndMain, Astray}
use Rattle.uc_step.specs.Simulation.{behind_line, HandStands, Follow}
use Rattle.uc_step.proofs.Apart.{no_test, no_arrival, no_end, no_coroutine_end}
use Rattle.uc_step.proofs.Simulates.{lines}
use Rattle.uc_ride.specs.declared.events.EndTest.TheVariants.{Block, Task, Coroutine, Call, Nothing}
use Rattle.uc_ride.specs.UnwindingFalls.{stop_by, test_by}

true_false : true ≡ false → ⊥
true_false e = absurd (cc)

then_quietly : {source : Source} {s t u : State} → Quietly source s t → Quietly source t u → Quietly source s u
then_quietly stay q = q
then_quietly (more e p) q = more e (then_quietly p q)

module _ (source : Source) (code : Laid) where
  -- what follows from a state to which quiet steps lead
  pub follow_before : (how : Effect) (m : Machine) (s t : State) → Quietly source s t → Follow code source how m t → Follow code source how m s
  follow_before Quiet m s t q (u, p, h) = (u, then_quietly q p, h)
  follow_before Tick m s t q (u, v, p, e, l, h) = (u, v, then_quietly q p, e, l, h)
  follow_before (Ask a) m s t q (u, v, r, p, e, f, h) = (u, v, r, then_quietly q p, e, f, h)
  follow_before (Throw x) m s t q (u, p, e, h) = (u, then_quietly q p, e, h)
  follow_before (Raise x) m s t q (u, p, e, h) = (u, then_quietly q p, e, h)
  follow_before Unwind m s t q (u, p, h) = (u, then_quietly q p, h)
  follow_before (Past g) m s t q (u, v, w, p, a, b, c, h) = (u, v, w, then_quietly q p, a, b, c, h)
  follow_before Resume m s t q (u, p, l, h) = (u, then_quietly q p, l, h)
  follow_before Suspend m s t q (u, p, l, h) = (u, then_quietly q p, l, h)
  follow_before TakeDown m s t q (u, p, h) = (u, then_quietly q p, h)
  follow_before EndMain m s t q (u, p, l, h) = (u, then_quietly q p, l, h)
  follow_before Astray m s t q f = f

  -- the same fields

  pub fields_as : (e : Event) (v : raising.Event) (x y : ℤ) → x ≡ e.x → y ≡ e.y → v ≡ raised_as e → v ≡ record { number = e.number; x = x; y = y }
  fields_as e v x y i j q =
      q ∙ sym (ap (λ k. let u : raising.Event = record { number = e.number; x = k; y = y } in u) i ∙ ap (λ k. let u : raising.Event = record { number = e.number; x = e.x; y = k } in u) j)

  pub reason_as : (r : Option UnwindReason) (n : ℕ) (x y u v : ℤ) → r ≡ Some (reason.Event n x y) → u ≡ x → v ≡ y → r ≡ Some (reason.Event n u v)
  reason_as r n x y u v q i j = q ∙ sym (ap (λ k. Some (reason.Event n k v)) i ∙ ap (λ k. Some (reason.Event n x k)) j)

  -- an event is thrown, or no handler is found for it
  pub throw_leads : (m n : Machine) (e : Event) (s : State) → ((t : State) → Throws code m t → event_in t.run.operands ≡ raised_as e → UnwindsNow source code n t) → Follow code source (Throw e) m s → Follow code source Unwind n s
  throw_leads m n e s f (t, p, q, h) = let u = f t h q in (u.after, then_quietly p (more u.by stay), u.stands)

  pub raise_leads : (m n : Machine) (e : Event) (s : State) → ((t : State) → Raises code m t → event_in t.run.operands ≡ raised_as e → UnwindsNow source code n t) → Follow code source (Raise e) m s → Follow code source Unwind n s
  raise_leads m n e s f (t, p, q, h) = let u = f t h q in (u.after, then_quietly p (more u.by stay), u.stands)

  -- its handler begins
  pub handle_leads : (m n : Machine) (e : Event) (s : State) → ((t : State) → Raises code m t → event_in t.run.operands ≡ raised_as e → GoesOn source code n t) → Follow code source (Raise e) m s → Follow code source Quiet n s
  handle_leads m n e s f (t, p, q, h) = let u = f t h q in (u.after, then_quietly p u.by, u.stands)

  -- a return leaves a handler, for the one that waits

  kept_past : (o : Option Visited) (given : Cell) (m n : Machine) (us : List Activation) (v : Visited) → o ≡ Some v → (us ≡ [] → ⊥) → Made (past_of o given us m) m false n → ⊥
  kept_past None given m n us v e f g = absurd (cc)
  kept_past (Some x) given m n [] v e f g = f refl
  kept_past (Some x) given m n (c ∷ us) v e f (i, b) = absurd (cc)

  pub past_made : (m n : Machine) (given : Cell) (s : State) (made : Bool) → made ≡ false → Made (past_of m.run.handles given m.callers m) m made n → (m.callers ≡ [] → ⊥) → Follow code source (Past given) m s → ⊥
  past_made m n given s made e g f (t, value, v, p, i, a, c, h) =
      kept_past m.run.handles given m n m.callers v (h.handles ∙ a) f (subst (λ b. Made (past_of m.run.handles given m.callers m) m b n) e g)

  pub past_leads : (m n : Machine) (given : Cell) (s : State) → ((t : State) (value : Value) → given ≡ cell_of value → Returns code m t → ReturnsPast code value n t) → Follow code source (Past given) m s → Follow code source Unwind n s
  past_leads m n given s f (t, value, v, p, g, a, c, h) = let u = f t value g h in (u.after, then_quietly p (more (c ∙ u.by) stay), u.stands)

-- where no step is made, all stays as it is

pub stays : (o : Option Machine) (m n : Machine) (made : Bool) → made ≡ false → Made o m made n → n ≡ m
stays None m n made e g = g.1
stays (Some x) m n made e (i, b) = absurd (true_false (sym i ∙ e))

-- unwinding, step after step

module _ (code : Code) where
  abbrev pub Unwinding : Machine → Effect → Machine → Type 0
  Unwinding m how n = (source : Source) (s : State) → Lowered source code → Unwinds (laid_of code) m s → Follow (laid_of code) source how n s

  pub unwinding_first : (m : Machine) → Unwinding m Unwind m
  unwinding_first m source s low h = (s, stay, h)

  -- from where an op leads to it
  pub leads_on : (m n : Machine) (how : Effect) → Unwinding m how n → (source : Source) (s : State) → Lowered source code → Follow (laid_of code) source Unwind m s → Follow (laid_of code) source how n s
  leads_on m n how g source s low f = follow_before source (laid_of code) how n s f.0 f.1 (g source f.0 low f.2)

  pub unwinding_on : (m n o : Machine) (how : Effect) → Unwinding m Unwind n → Unwinding n how o → Unwinding m how o
  unwinding_on m n o how f g source s low h = leads_on n o how g source s low (f source s low h)

-- what begins

other_op : (a b : Op) (x y : ℕ) (o : Option Instruction) → o ≡ Some (record { op = a; line = x }) → o ≡ Some (record { op = b; line = y }) → a ≡ b
other_op a b x y o e f =
    let i : Instruction = record { op = a; line = x } in
    let j : Instruction = record { op = b; line = y } in
    let g : Some i ≡ Some j = sym e ∙ f in
    let h : i ≡ j = cc in
    ap (λ (k : Instruction). k.op) h

-- an op that tests a block, one that tests a mutex call, and one that ends a main
arrival_is : (to : ℕ) → op.Handled ≡ op.Arrive to → ⊥
arrival_is to e = absurd (cc)

main_apart : (to : ℕ) (whose : MainOf) → op.Arrive to ≡ main_left whose → ⊥
main_apart to main_of.Task e = absurd (cc)
main_apart to main_of.Coroutine e = absurd (cc)

main_is : (whose : MainOf) → op.Handled ≡ main_left whose → ⊥
main_is main_of.Task e = absurd (cc)
main_is main_of.Coroutine e = absurd (cc)

task_is : main_left main_of.Coroutine ≡ op.Unhandled → ⊥
task_is e = absurd (cc)

coroutine_is : main_left main_of.Task ≡ op.Escape → ⊥
coroutine_is e = absurd (cc)

-- the op is one that makes this test

block_op : (o : Op) → test_by o ≡ Block → o ≡ op.Handled
block_op op.Handled e = refl
block_op _ e = absurd (cc e)

main_op : (o : Op) → test_by o ≡ Task → o ≡ op.Unhandled
main_op op.Unhandled e = refl
main_op _ e = absurd (cc e)

coroutine_op : (o : Op) → test_by o ≡ Coroutine → o ≡ op.Escape
coroutine_op op.Escape e = refl
coroutine_op _ e = absurd (cc e)

call_op : (o : Op) (to : ℕ) → test_by o ≡ Call to → o ≡ op.Arrive to
call_op (op.Arrive k) to e = let i : k ≡ to = cc in ap op.Arrive i
call_op _ to e = absurd (cc e)

no_call : (to : ℕ) → Nothing ≡ Call to → ⊥
no_call to e = absurd (cc)

no_coroutine : Nothing ≡ Coroutine → ⊥
no_coroutine e = absurd (cc)

no_block : Nothing ≡ Block → ⊥
no_block e = absurd (cc)

no_main : Nothing ≡ Task → ⊥
no_main e = absurd (cc)

same_op : (p : Op) (i : Instruction) (o : Option Instruction) → o ≡ Some i → i.op ≡ p → o ≡ Some (record { op = p; line = i.line })
same_op p i o e f = e ∙ ap (λ (k : Op). let j : Instruction = record { op = k; line = i.line } in Some j) f

pub at_block : (i : Instruction) (o : Option Instruction) → o ≡ Some i → test_by i.op ≡ Block → o ≡ Some (record { op = op.Handled; line = i.line })
at_block i o e t = same_op op.Handled i o e (block_op i.op t)

pub at_call : (to : ℕ) (i : Instruction) (o : Option Instruction) → o ≡ Some i → test_by i.op ≡ Call to → o ≡ Some (record { op = op.Arrive to; line = i.line })
at_call to i o e t = same_op (op.Arrive to) i o e (call_op i.op to t)

pub at_main : (i : Instruction) (o : Option Instruction) → o ≡ Some i → test_by i.op ≡ Task → o ≡ Some (record { op = op.Unhandled; line = i.line })
at_main i o e t = same_op op.Unhandled i o e (main_op i.op t)

pub at_coroutine : (i : Instruction) (o : Option Instruction) → o ≡ Some i → test_by i.op ≡ Coroutine → o ≡ Some (record { op = op.Escape; line = i.line })
at_coroutine i o e t = same_op op.Escape i o e (coroutine_op i.op t)

no_op : (p : Op) (line : ℕ) (o : Option Instruction) → o ≡ None → o ≡ Some (record { op = p; line = line }) → ⊥
no_op p line o e f =
    let i : Instruction = record { op = p; line = line } in
    let g : None ≡ Some i = sym e ∙ f in
    absurd (cc)

-- as it is asked by an op of this line
pub asked_now : (code : Code) (r : Request) (line : ℕ) (m n : Machine) (a : Asked) → n ≡ m → a ≡ record { request = r; line = line_at code.ops line n.callers } → record { request = r; line = line_at code.ops line m.callers } ≡ a
asked_now code r line m n a e f = sym (f ∙ ap (λ (x : Machine). let b : Asked = record { request = r; line = line_at code.ops line x.callers } in b) e)

module _ (source : Source) (code : Code) (low : Lowered source code) (m n : Machine) (s : State) where
  -- a clean-up, where the op is no test
  cleans : ((line : ℕ) → slice_get code.ops m.run.control ≡ Some (record { op = op.Handled; line = line }) → ⊥) → ((to line : ℕ) → slice_get code.ops m.run.control ≡ Some (record { op = op.Arrive to; line = line }) → ⊥) → ((whose : MainOf) (line : ℕ) → slice_get code.ops m.run.control ≡ Some (record { op = main_left whose; line = line }) → ⊥) → Begins source (laid_of code) m s → Follow (laid_of code) source Quiet m s
  cleans f a g (inl l) = (l.after, l.by, l.stands)
  cleans f a g (inr (inl l)) = absurd (f (own_line l.stands.run.rest) l.stands.run.tests.here.here)
  cleans f a g (inr (inr (inl l))) = absurd (a l.stands.run.pad.arrived (own_line l.stands.run.rest) l.stands.run.pad.arrives.here)
  cleans f a g (inr (inr (inr (whose, l)))) = absurd (g whose (own_line l.stands.run.rest) l.stands.run.ends.here)

  no_end_by : (i : Instruction) → slice_get code.ops m.run.control ≡ Some i → test_by i.op ≡ Nothing → (whose : MainOf) (line : ℕ) → slice_get code.ops m.run.control ≡ Some (record { op = main_left whose; line = line }) → ⊥
  no_end_by i is t main_of.Task line e = no_main (sym t ∙ ap test_by (other_op i.op op.Unhandled i.line line (slice_get code.ops m.run.control) is e))
  no_end_by i is t main_of.Coroutine line e = no_coroutine (sym t ∙ ap test_by (other_op i.op op.Escape i.line line (slice_get code.ops m.run.control) is e))

  pub cleans_by : (i : Instruction) → slice_get code.ops m.run.control ≡ Some i → test_by i.op ≡ Nothing → Begins source (laid_of code) m s → Follow (laid_of code) source Quiet m s
  cleans_by i is t =
      cleans (λ line e. no_block (sym t ∙ ap test_by (other_op i.op op.Handled i.line line (slice_get code.ops m.run.control) is e)))
      (λ to line e. no_call to (sym t ∙ ap test_by (other_op i.op (op.Arrive to) i.line line (slice_get code.ops m.run.control) is e))) (no_end_by i is t)

  pub cleans_no : slice_get code.ops m.run.control ≡ None → Begins source (laid_of code) m s → Follow (laid_of code) source Quiet m s
  cleans_no q =
      cleans (λ line e. no_op op.Handled line (slice_get code.ops m.run.control) q e) (λ to line e. no_op (op.Arrive to) line (slice_get code.ops m.run.control) q e) (λ whose line e. no_op (main_left whose) line (slice_get code.ops m.run.control) q e)

  -- the test at the end of a block
  module _ (line : ℕ) (is : slice_get code.ops m.run.control ≡ Some (record { op = op.Handled; line = line })) where
    abbrev tested : Bool → Effect
    tested true = Quiet
    tested false = Unwind

    tested_by : (over : Bool) (t : State) → Quietly source s t → BlockLeft source (laid_of code) over n t → Follow (laid_of code) source (tested over) n s
    tested_by true t q l = (l.after, then_quietly q (more l.by stay), l.stands)
    tested_by false t q l = (l.after, then_quietly q (more l.by stay), l.stands)

    pub tests : (over : Bool) → ((t : State) → TestsBlock (laid_of code) m t → BlockLeft source (laid_of code) over n t) → Begins source (laid_of code) m s → Follow (laid_of code) source (tested over) n s
    tests over f (inl l) = absurd (no_test source code low m l.after l.stands line is)
    tests over f (inr (inl l)) = tested_by over l.after l.by (f l.after l.stands)
    tests over f (inr (inr (inl l))) = absurd (arrival_is l.stands.run.pad.arrived (other_op op.Handled (op.Arrive l.stands.run.pad.arrived) line (own_line l.stands.run.rest) (slice_get code.ops m.run.control) is l.stands.run.pad.arrives.here))
    tests over f (inr (inr (inr (whose, l)))) = absurd (main_is whose (other_op op.Handled (main_left whose) line (own_line l.stands.run.rest) (slice_get code.ops m.run.control) is l.stands.run.ends.here))

  -- the test at the end of a mutex call
  module _ (to line : ℕ) (is : slice_get code.ops m.run.control ≡ Some (record { op = op.Arrive to; line = line })) where
    pub calls : ((t : State) → TestsCall (laid_of code) m t → Leads source (laid_of code) (Stands (laid_of code)) n t) → Begins source (laid_of code) m s → Follow (laid_of code) source Quiet n s
    calls f (inl l) = absurd (no_arrival source code low m l.after l.stands line to is)
    calls f (inr (inl l)) = absurd (arrival_is to (other_op op.Handled (op.Arrive to) (own_line l.stands.run.rest) line (slice_get code.ops m.run.control) l.stands.run.tests.here.here is))
    calls f (inr (inr (inl l))) = let u = f l.after l.stands in (u.after, then_quietly l.by u.by, u.stands)
    calls f (inr (inr (inr (whose, l)))) = absurd (main_apart to whose (other_op (op.Arrive to) (main_left whose) line (own_line l.stands.run.rest) (slice_get code.ops m.run.control) is l.stands.run.ends.here))

  -- the op that ends a main, and its line
  module _ (whose : MainOf) (line : ℕ) (is : slice_get code.ops m.run.control ≡ Some (record { op = main_left whose; line = line })) where
    abbrev pub asks_by : Request → Asked
    asks_by r = record { request = r; line = line_at code.ops line m.callers }

    line_is : (x y : ℕ) (o : Option Instruction) → o ≡ Some (record { op = main_left whose; line = x }) → o ≡ Some (record { op = main_left whose; line = y }) → x ≡ y
    line_is x y o e f =
        let i : Instruction = record { op = main_left whose; line = x } in
        let j : Instruction = record { op = main_left whose; line = y } in
        let g : Some i ≡ Some j = sym e ∙ f in
        let h : i ≡ j = cc in
        ap (λ (k : Instruction). k.line) h

    -- the line is that of the source
    same_line : (t : State) → EndsMain (laid_of code) whose m t → line_at code.ops line m.callers ≡ line_of t
    same_line t h =
        let l : line ≡ own_line h.run.rest = line_is line (own_line h.run.rest) (slice_get code.ops m.run.control) is h.run.ends.here in
        ap (λ k. line_at code.ops k m.callers) l ∙ (lines code (own_line h.run.rest) m.callers t.callers h.callers ∙ sym (main_line (laid_of code) whose m t h))

    asked_as : (r : Request) (k : ℕ) → line_at code.ops line m.callers ≡ k → asks_by r ≡ record { request = r; line = k }
    asked_as r k e = ap (λ (x : ℕ). let a : Asked = record { request = r; line = x } in a) e

    no_block_here : (l : ℕ) → slice_get code.ops m.run.control ≡ Some (record { op = op.Handled; line = l }) → ⊥
    no_block_here l e = main_is whose (sym (other_op (main_left whose) op.Handled line l (slice_get code.ops m.run.control) is e))

    no_call_here : (to l : ℕ) → slice_get code.ops m.run.control ≡ Some (record { op = op.Arrive to; line = l }) → ⊥
    no_call_here to l e = main_apart to whose (sym (other_op (main_left whose) (op.Arrive to) line l (slice_get code.ops m.run.control) is e))

  -- the end of the main of a task
  module _ (line : ℕ) (is : slice_get code.ops m.run.control ≡ Some (record { op = op.Unhandled; line = line })) where
    abbrev ended : TaskMainEnd → Effect
    ended end.Ended = Ask (asks_by main_of.Task line is ask.End)
    ended end.Returned = Quiet
    ended end.Unhandled = Ask (asks_by main_of.Task line is (ask.Fault (fault_number Unhandled)))
    ended end.HeldUp = Ask (asks_by main_of.Task line is (ask.Fault (fault_number BlockedInside)))

    ended_by : (e : TaskMainEnd) (t : State) → Quietly source s t → line_at code.ops line m.callers ≡ line_of t → MainLeft source (laid_of code) e n t → Follow (laid_of code) source (ended e) n s
    ended_by end.Ended t q l x = (x.before, x.after, ask.End, then_quietly q x.by, x.asks, asked_as main_of.Task line is ask.End (line_of x.before) (l ∙ sym x.line), x.hand)
    ended_by end.Returned t q l x = (x.after, then_quietly q x.by, x.stands)
    ended_by end.Unhandled t q l x = (x.before, x.after, ask.Fault (fault_number Unhandled), then_quietly q x.by, x.asks, asked_as main_of.Task line is (ask.Fault (fault_number Unhandled)) (line_of x.before) (l ∙ sym x.line), x.hand)
    ended_by end.HeldUp t q l x = (x.before, x.after, ask.Fault (fault_number BlockedInside), then_quietly q x.by, x.asks, asked_as main_of.Task line is (ask.Fault (fault_number BlockedInside)) (line_of x.before) (l ∙ sym x.line), x.hand)

    pub ends : (e : TaskMainEnd) → ((t : State) → EndsMain (laid_of code) main_of.Task m t → MainLeft source (laid_of code) e n t) → Begins source (laid_of code) m s → Follow (laid_of code) source (ended e) n s
    ends e f (inl l) = absurd (no_end source code low m l.after l.stands line is)
    ends e f (inr (inl l)) = absurd (no_block_here main_of.Task line is (own_line l.stands.run.rest) l.stands.run.tests.here.here)
    ends e f (inr (inr (inl l))) = absurd (no_call_here main_of.Task line is l.stands.run.pad.arrived (own_line l.stands.run.rest) l.stands.run.pad.arrives.here)
    ends e f (inr (inr (inr (main_of.Task, l)))) = ended_by e l.after l.by (same_line main_of.Task line is l.after l.stands) (f l.after l.stands)
    ends e f (inr (inr (inr (main_of.Coroutine, l)))) = absurd (task_is (other_op op.Escape op.Unhandled (own_line l.stands.run.rest) line (slice_get code.ops m.run.control) l.stands.run.ends.here is))

  -- the main of a coroutine is left
  module _ (line : ℕ) (is : slice_get code.ops m.run.control ≡ Some (record { op = op.Escape; line = line })) where
    abbrev left_by : Option RunFault → Effect
    left_by None = Quiet
    left_by (Some f) = Ask (asks_by main_of.Coroutine line is (ask.Fault (fault_number f)))

    switched_by : (o : Option RunFault) (t : State) → Quietly source s t → line_at code.ops line m.callers ≡ line_of t → SwitchedAs source (laid_of code) o n t → Follow (laid_of code) source (left_by o) n s
    switched_by None t q l x = (x.after, then_quietly q x.by, x.stands)
    switched_by (Some f) t q l x = (x.before, x.after, ask.Fault (fault_number f), then_quietly q x.by, x.asks, asked_as main_of.Coroutine line is (ask.Fault (fault_number f)) (line_of x.before) (l ∙ sym x.line), x.hand)

    pub leaves_coroutine : (o : Option RunFault) → ((t : State) → EndsMain (laid_of code) main_of.Coroutine m t → SwitchedAs source (laid_of code) o n t) → Begins source (laid_of code) m s → Follow (laid_of code) source (left_by o) n s
    leaves_coroutine o f (inl l) = absurd (no_coroutine_end source code low m l.after l.stands line is)
    leaves_coroutine o f (inr (inl l)) = absurd (no_block_here main_of.Coroutine line is (own_line l.stands.run.rest) l.stands.run.tests.here.here)
    leaves_coroutine o f (inr (inr (inl l))) = absurd (no_call_here main_of.Coroutine line is l.stands.run.pad.arrived (own_line l.stands.run.rest) l.stands.run.pad.arrives.here)
    leaves_coroutine o f (inr (inr (inr (main_of.Coroutine, l)))) = switched_by o l.after l.by (same_line main_of.Coroutine line is l.after l.stands) (f l.after l.stands)
    leaves_coroutine o f (inr (inr (inr (main_of.Task, l)))) = absurd (coroutine_is (other_op op.Unhandled op.Escape (own_line l.stands.run.rest) line (slice_get code.ops m.run.control) l.stands.run.ends.here is))

-- a switch, from a state to which quiet steps lead

module _ (source : Source) (code : Code) (m n : Machine) (s t : State) (p : Quietly source s t) where
  pub switch_leads : SwitchedAs source (laid_of code) None n t → Follow (laid_of code) source Quiet n s
  switch_leads x = (x.after, then_quietly p x.by, x.stands)

  switch_stops : (f : RunFault) → n ≡ m → behind_line (laid_of code) m ≡ line_of t → SwitchedAs source (laid_of code) (Some f) n t → Follow (laid_of code) source (stop_by (behind_line (laid_of code) n) (Some f)) n s
  switch_stops f e l x =
      let k : behind_line (laid_of code) n ≡ line_of x.before = ap (behind_line (laid_of code)) e ∙ (l ∙ sym x.line) in
      (x.before, x.after, ask.Fault (fault_number f), then_quietly p x.by, x.asks, ap (λ (y : ℕ). let b : Asked = record { request = ask.Fault (fault_number f); line = y } in b) k, x.hand)

  -- whether or not it is a fault
  pub switch_settles : (o : Option RunFault) (how : Effect) → ((f : RunFault) → Some f ≡ o → n ≡ m) → behind_line (laid_of code) m ≡ line_of t → how ≡ stop_by (behind_line (laid_of code) n) o → SwitchedAs source (laid_of code) o n t → Follow (laid_of code) source how n s
  switch_settles None how g l i x = subst (λ h. Follow (laid_of code) source h n s) (sym i) (switch_leads x)
  switch_settles (Some f) how g l i x = subst (λ h. Follow (laid_of code) source h n s) (sym i) (switch_stops f (g f refl) l x)

-- an activation is left

module _ (source : Source) (code : Code) (m n : Machine) (s : State) where
  abbrev asks_now : Request → Asked
  asks_now r = record { request = r; line = line_at code.ops 0 m.callers }

  abbrev left_how : Left → Effect
  left_how left.Ended = Ask (asks_now ask.End)
  left_how left.Returned = Quiet
  left_how left.Escaped = Ask (asks_now (ask.Fault (fault_number EscapeInUnwind)))
  left_how left.PassedOn = Unwind

  -- of nothing there is no line
  no_line : (h : LeavesNow (laid_of code) m s) → line_at code.ops 0 m.callers ≡ line_of s
  no_line h = lines code 0 m.callers s.callers h.callers ∙ sym (ap (λ todo. line_from (own_line todo) s.callers) h.run.todo)

  as_asked : (r : Request) → line_at code.ops 0 m.callers ≡ line_of s → asks_now r ≡ record { request = r; line = line_of s }
  as_asked r e = ap (λ (x : ℕ). let a : Asked = record { request = r; line = x } in a) e

  pub leaves : (l : Left) → LeavesNow (laid_of code) m s → n ≡ left_as l m → LeftAs source (laid_of code) l n s → Follow (laid_of code) source (left_how l) n s
  leaves left.Ended h e x = (s, s, ask.End, stay, x, as_asked ask.End (no_line h), subst (λ (y : Machine). HandStands (laid_of code) y s) (sym e) h.env.hand)
  leaves left.Returned h e x = (x.after, more x.by stay, x.stands)
  leaves left.Escaped h e x = (s, s, ask.Fault (fault_number EscapeInUnwind), stay, x, as_asked (ask.Fault (fault_number EscapeInUnwind)) (no_line h), subst (λ (y : Machine). HandStands (laid_of code) y s) (sym e) h.env.hand)
  leaves left.PassedOn h e x = (x.after, more x.by stay, x.stands)
