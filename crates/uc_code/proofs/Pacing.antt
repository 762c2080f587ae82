-- How pieces of code that are paced are joined, and how an activation stays in them.
use Rattle.std.proofs.Common.{◌≡◌, ℕ, suc, ◌+◌, ◌*◌, ◌^◌, ◌<◌, ◌≤◌, List, ◌∷◌, Bool, true, false, Option, length, refl, subst, ◌∙◌, arith, ap, sym, true}
use Rattle.uc_tree.specs.Source.{Order, TestFirst, BodyFirst, NoTest}
use Rattle.uc_code.specs.declared.op.Op.{Op}
use Rattle.uc_code.specs.declared.op.Op.TheVariants as op
use Rattle.uc_code.specs.declared.rows.CodeMark.{CodeMark}
use Rattle.uc_code.specs.declared.rows.CodeMark.TheVariants as mark
use Rattle.uc_code.specs.declared.rows.RoutineCode.{RoutineCode}
use Rattle.uc_code.specs.Layout.{Laid, handlers, chain}
use Rattle.uc_code.specs.Pace.{behind, climb_op, height, power, Test, test_by, above, In, Risks, Stays, Waits, Calling, Begins, High, Onward, Paced}
use Rattle.uc_code.specs.CodeShapes.{OpAt, Nothing, Never, One, Risk, CallsBehind, Both, Fork, pads_at, begin_at, BackAt, Turns, PollAt, LeavesAt}
use Rattle.uc_code.specs.Lowered.{Any}
use Rattle.uc_code.proofs.Powers.{power_less, power_room_less}
use Rattle.uc_code.proofs.Heights.{Outside, Plain, PacedAt, Each, Around, around_less, further_of, paced_by, none, only, join, within, burden_is, onward_lower, onward_plain, onward_falls, own_plain, outside_next, jump_plain, jump_outside, jump_paced, zero_paced, tick_plain, tick_paced, back_paced, back_test_paced, Starts, calling, down, risky, waits_at, raises_at, high_waits, waiting_more, exit_paced, PadTo, height_is, Env, AllStay, stay_none, stay_one, stay_join, risks_in, if_ge}

module _ (code : Laid) (table : List RoutineCode) (any : Bool) where
  -- the number above which raises stand in a text that ends there, if there are any
  abbrev pub Allowed : Bool → ℕ → ℕ → Type 0
  Allowed true floor to = floor ≤ 2 ^ 32 * power (behind (length code.ops) to)
  Allowed false floor to = Unit {0}

  abbrev pub Loud : ℕ → ℕ → Type 0
  Loud floor to = Allowed any floor to

  -- under marks a piece is paced, where what stands behind it is plain; an activation stays in the text around it
  pub record Paces (ms : List CodeMark) (B : ℕ → ℕ → Type 0) : Type 0 where
    pub rises : (a z : ℕ) → B a z → a ≤ z
    pub plain : (a z : ℕ) → B a z → Plain code table z → Plain code table a
    pub each : Starts code table → (a z : ℕ) → B a z → Around code table ms z → Plain code table z → Each code table a z
    pub stays : (from to floor a z : ℕ) → B a z → Env code table from to ms → from ≤ a → z < to → Loud floor to → AllStay code table from to floor a z

  pub next_in : (from to a z : ℕ) → z ≡ a + 1 → from ≤ a → z < to → In code table from to (a + 1)
  next_in from to a z e l m = record { first = omega arith; last = omega arith }

  pub end_in : (from to a z : ℕ) → a ≤ z → from ≤ a → z < to → In code table from to z
  end_in from to a z k l m = record { first = omega arith; last = m }

  pub nothing_paces : (ms : List CodeMark) → Paces ms Nothing
  nothing_paces ms = record {
    rises = λ a z h. let e = h.end in omega arith;
    plain = λ a z h p. subst (Plain code table) h.end p;
    each = λ q a z h r p. let e = h.end in none code table a z (omega arith);
    stays = λ from to floor a z h n l m o. let e = h.end in stay_none code table from to floor a z (omega arith);
  }

  -- an op that only goes on
  pub onward_paces : (ms : List CodeMark) (o : Op) (line : ℕ) → ((n k h : ℕ) → climb_op n k o h ≡ suc h) → ((k : ℕ) (t : Option Test) → test_by o k t ≡ t) → ((at : ℕ) → Onward code table at (at + 1) → Paced code table at o) → ((from to floor at : ℕ) → In code table from to (at + 1) → Stays code table from to floor at o) → Paces ms (One code o line)
  onward_paces ms o line c t f g = record {
    rises = λ a z h. let e = h.end in omega arith;
    plain = λ a z h p. onward_plain code table a o line h.here c t (subst (Plain code table) h.end p);
    each = λ q a z h r p. only code table a z h.end (paced_by code table a o line h.here (f a (onward_falls code table a o line h.here c t (subst (Plain code table) h.end p))));
    stays = λ from to floor a z h n l m x. stay_one code table from to floor a z o line h.here h.end (g from to floor a (next_in from to a z h.end l m));
  }

  pub both_paces : (ms : List CodeMark) (B C : ℕ → ℕ → Type 0) → Paces ms B → Paces ms C → Paces ms (Both B C)
  both_paces ms B C b c = record {
    rises = λ a z h. let l = b.rises a h.middle h.first in let k = c.rises h.middle z h.second in omega arith;
    plain = λ a z h p. b.plain a h.middle h.first (c.plain h.middle z h.second p);
    each = λ q a z h r p. join code table a h.middle z (b.each q a h.middle h.first (around_less code table ms h.middle z (c.rises h.middle z h.second) r) (c.plain h.middle z h.second p)) (c.each q h.middle z h.second r p);
    stays = λ from to floor a z h n l m x.
        let i = b.rises a h.middle h.first in
        let k = c.rises h.middle z h.second in
        stay_join code table from to floor a h.middle z (b.stays from to floor a h.middle h.first n l (omega arith) x) (c.stays from to floor h.middle z h.second n (omega arith) m x);
  }

  pub both : {B C : ℕ → ℕ → Type 0} → (ms : List CodeMark) → Paces ms B → Paces ms C → Paces ms (Both B C)
  both {B} {C} ms b c = both_paces ms B C b c

  pub fork_paces : (ms : List CodeMark) (line : ℕ) (B C : ℕ → ℕ → Type 0) → Paces ms B → Paces ms C → Paces ms (Fork code line B C)
  fork_paces ms line B C b c = record {
    rises = λ a z h. let l = b.rises (a + 1) h.middle h.first in let k = c.rises (h.middle + 1) z h.second in omega arith;
    plain = λ a z h p.
        let second = c.plain (h.middle + 1) z h.second p in
        let first = b.plain (a + 1) h.middle h.first (jump_plain code table h.middle z line h.leave second.outside) in
        own_plain code table a (op.IfZero (h.middle + 1)) line h.choose (λ n k x. refl) (λ k t. refl) first.outside;
    each = λ q a z h r p.
        let l = b.rises (a + 1) h.middle h.first in
        let k = c.rises (h.middle + 1) z h.second in
        let second = c.plain (h.middle + 1) z h.second p in
        let leave = jump_plain code table h.middle z line h.leave second.outside in
        let first = b.plain (a + 1) h.middle h.first leave in
        let tested = only code table a (a + 1) refl (zero_paced code table a (h.middle + 1) line h.choose first second (omega arith)) in
        let left = only code table h.middle (h.middle + 1) refl (jump_paced code table h.middle z line h.leave (omega arith) second.outside p) in
        join code table a (a + 1) z tested (
        join code table (a + 1) h.middle z (b.each q (a + 1) h.middle h.first (around_less code table ms h.middle z (omega arith) r) leave) (
        join code table h.middle (h.middle + 1) z left (c.each q (h.middle + 1) z h.second r p)));
    stays = λ from to floor a z h n l m x.
        let i = b.rises (a + 1) h.middle h.first in
        let k = c.rises (h.middle + 1) z h.second in
        let chosen = stay_one code table from to floor a (a + 1) (op.IfZero (h.middle + 1)) line h.choose refl (end_in from to a (h.middle + 1) (omega arith) l (omega arith), next_in from to a (a + 1) refl l (omega arith)) in
        let left = stay_one code table from to floor h.middle (h.middle + 1) (op.Jump z) line h.leave refl (end_in from to a z (omega arith) l m) in
        stay_join code table from to floor a (a + 1) z chosen (
        stay_join code table from to floor (a + 1) h.middle z (b.stays from to floor (a + 1) h.middle h.first n (omega arith) (omega arith) x) (
        stay_join code table from to floor h.middle (h.middle + 1) z left (c.stays from to floor (h.middle + 1) z h.second n (omega arith) m x)));
  }

  pub fork : {B C : ℕ → ℕ → Type 0} → (ms : List CodeMark) (line : ℕ) → Paces ms B → Paces ms C → Paces ms (Fork code line B C)
  fork {B} {C} ms line b c = fork_paces ms line B C b c

  -- the end of a routine: nothing goes on behind it
  pub return_plain : (line a z : ℕ) → One code op.Return line a z → Outside code table z → Plain code table a
  return_plain line a z h p = own_plain code table a op.Return line h.here (λ n k x. refl) (λ k t. refl) (subst (Outside code table) h.end p)

  pub return_each : (line a z : ℕ) → One code op.Return line a z → Each code table a z
  return_each line a z h = only code table a z h.end (paced_by code table a op.Return line h.here tt)

  pub never_paces : (ms : List CodeMark) → Paces ms Never
  never_paces ms = record { rises = λ a z h. absurd h; plain = λ a z h p. absurd h; each = λ q a z h r p. absurd h; stays = λ from to floor a z h n l m x. absurd h }

  -- a call stands behind a tick, or leads further on

  high_paces : (ms : List CodeMark) (line r : ℕ) (o : Op) → ((n k h : ℕ) → climb_op n k o h ≡ behind n 0 + 2) → ((k : ℕ) (t : Option Test) → test_by o k t ≡ t) → ((at : ℕ) → Calling code table at r × Waits code table at × High code table at → Paced code table at o) → ((from to floor at : ℕ) → In code table from to (at + 1) × Risks code table from to at → Stays code table from to floor at o) → Paces ms (Both (One code op.Tick line) (Risk code ms o line))
  high_paces ms line r o c t f g = record {
    rises = λ a z h. let e = h.first.end in let i = h.second.end in omega arith;
    plain = λ a z h p.
        let q : Outside code table (h.middle + 1) = subst (Outside code table) h.second.end p.outside in
        let k : Outside code table h.middle = outside_next code table h.middle o line h.second.here t q in
        tick_plain code table a line h.first.here (subst (Outside code table) h.first.end k);
    each = λ q a z h x p.
        let u : chain code.rows (h.middle + 1) ≡ handlers ms = subst (λ n. chain code.rows n ≡ handlers ms) h.second.end h.second.under in
        let y : Around code table ms (h.middle + 1) = subst (Around code table ms) h.second.end x in
        join code table a h.middle z
        (only code table a h.middle h.first.end (tick_paced code table a line h.first.here))
        (only code table h.middle z h.second.end (paced_by code table h.middle o line h.second.here (f h.middle (high_waits code table h.middle r line o ms h.second.here u c t q (subst (Plain code table) h.second.end p) y))));
    stays = λ from to floor a z h n l m x.
        let e = h.first.end in
        let i = h.second.end in
        let u : chain code.rows (h.middle + 1) ≡ handlers ms = subst (λ n. chain code.rows n ≡ handlers ms) h.second.end h.second.under in
        stay_join code table from to floor a h.middle z
        (stay_one code table from to floor a h.middle op.Tick line h.first.here h.first.end (next_in from to a h.middle h.first.end l (omega arith)))
        (stay_one code table from to floor h.middle z o line h.second.here h.second.end (g from to floor h.middle (next_in from to h.middle z h.second.end (omega arith) m, risks_in code table from to h.middle ms u n)));
  }

  pub call_paces : (ms : List CodeMark) (line r : ℕ) → Paces ms (Both (One code op.Tick line) (Risk code ms (op.Call r) line))
  call_paces ms line r = high_paces ms line r (op.Call r) (λ n k h. refl) (λ k t. refl) (λ at p. p) (λ from to floor at s. s)

  pub call_on_paces : (ms : List CodeMark) (line r : ℕ) → Paces ms (Both (One code op.Tick line) (Risk code ms (op.CallOn r) line))
  call_on_paces ms line r = high_paces ms line r (op.CallOn r) (λ n k h. refl) (λ k t. refl) (λ at p. p) (λ from to floor at s. s)

  -- what stands right behind a tick: a call that is high, or an op that falls to what does

  pub record Above (ms : List CodeMark) (B : ℕ → ℕ → Type 0) : Type 0 where
    pub rises : (a z : ℕ) → B a z → a < z
    pub outside : (a z : ℕ) → B a z → Outside code table z → Outside code table a
    pub each : Starts code table → (a z : ℕ) → B a z → Around code table ms z → Plain code table z → Each code table a z
    pub stays : (from to floor a z : ℕ) → B a z → Env code table from to ms → from ≤ a → z < to → Loud floor to → AllStay code table from to floor a z

  pub call_above : (ms : List CodeMark) (line r : ℕ) → Above ms (Risk code ms (op.CallOn r) line)
  call_above ms line r = record {
    rises = λ a z h. let e = h.end in omega arith;
    outside = λ a z h o. outside_next code table a (op.CallOn r) line h.here (λ k t. refl) (subst (Outside code table) h.end o);
    each = λ q a z h x p.
        let u : chain code.rows (a + 1) ≡ handlers ms = subst (λ n. chain code.rows n ≡ handlers ms) h.end h.under in
        let y : Around code table ms (a + 1) = subst (Around code table ms) h.end x in
        only code table a z h.end (paced_by code table a (op.CallOn r) line h.here (high_waits code table a r line (op.CallOn r) ms h.here u (λ n k h. refl) (λ k t. refl) q (subst (Plain code table) h.end p) y));
    stays = λ from to floor a z h n l m x.
        let u : chain code.rows (a + 1) ≡ handlers ms = subst (λ n. chain code.rows n ≡ handlers ms) h.end h.under in
        stay_one code table from to floor a z (op.CallOn r) line h.here h.end (next_in from to a z h.end l m, risks_in code table from to a ms u n);
  }

  pub more_above : {B : ℕ → ℕ → Type 0} → (ms : List CodeMark) (o : Op) (line : ℕ) → ((n k h : ℕ) → climb_op n k o h ≡ suc h) → ((k : ℕ) (t : Option Test) → test_by o k t ≡ t) → ((at : ℕ) → Onward code table at (at + 1) → Paced code table at o) → ((from to floor at : ℕ) → In code table from to (at + 1) → Stays code table from to floor at o) → Above ms B → Above ms (Both (One code o line) B)
  more_above {B} ms o line c t f g b = record {
    rises = λ a z h. let e = h.first.end in let i = b.rises h.middle z h.second in omega arith;
    outside = λ a z h x. outside_next code table a o line h.first.here t (subst (Outside code table) h.first.end (b.outside h.middle z h.second x));
    each = λ q a z h r p.
        let n : Outside code table (a + 1) = subst (Outside code table) h.first.end (b.outside h.middle z h.second p.outside) in
        let w : Outside code table a = outside_next code table a o line h.first.here t n in
        join code table a h.middle z
        (only code table a h.middle h.first.end (paced_by code table a o line h.first.here (f a (down code table a (a + 1) w n (onward_lower code table a o line h.first.here c)))))
        (b.each q h.middle z h.second r p);
    stays = λ from to floor a z h n l m x.
        let e = h.first.end in
        let i = b.rises h.middle z h.second in
        stay_join code table from to floor a h.middle z
        (stay_one code table from to floor a h.middle o line h.first.here h.first.end (g from to floor a (next_in from to a h.middle h.first.end l (omega arith))))
        (b.stays from to floor h.middle z h.second n (omega arith) m x);
  }

  pub ticked_paces : {B : ℕ → ℕ → Type 0} → (ms : List CodeMark) (line : ℕ) → Above ms B → Paces ms (Both (One code op.Tick line) B)
  ticked_paces {B} ms line b = record {
    rises = λ a z h. let e = h.first.end in let i = b.rises h.middle z h.second in omega arith;
    plain = λ a z h p. tick_plain code table a line h.first.here (subst (Outside code table) h.first.end (b.outside h.middle z h.second p.outside));
    each = λ q a z h r p. join code table a h.middle z (only code table a h.middle h.first.end (tick_paced code table a line h.first.here)) (b.each q h.middle z h.second r p);
    stays = λ from to floor a z h n l m x.
        let e = h.first.end in
        let i = b.rises h.middle z h.second in
        stay_join code table from to floor a h.middle z
        (stay_one code table from to floor a h.middle op.Tick line h.first.here h.first.end (next_in from to a h.middle h.first.end l (omega arith)))
        (b.stays from to floor h.middle z h.second n (omega arith) m x);
  }

  -- a coroutine must be live, a mutex object is entered, or made

  pub call_live_paces : (ms : List CodeMark) (line r : ℕ) → Paces ms (Both (One code op.Tick line) (Both (One code (op.Alive r) line) (Risk code ms (op.CallOn r) line)))
  call_live_paces ms line r = ticked_paces ms line (more_above ms (op.Alive r) line (λ n k h. refl) (λ k t. refl) (λ at l. l) (λ from to floor at i. i) (call_above ms line r))

  pub enter_paces : (ms : List CodeMark) (line k r : ℕ) → Paces ms (Both (One code op.Tick line) (Both (One code (op.Enter k r) line) (Risk code ms (op.CallOn r) line)))
  enter_paces ms line k r = ticked_paces ms line (more_above ms (op.Enter k r) line (λ n k h. refl) (λ k t. refl) (λ at l. l) (λ from to floor at i. i) (call_above ms line r))

  pub make_paces : (ms : List CodeMark) (line c r : ℕ) → Paces ms (Both (One code op.Tick line) (Both (One code (op.Make c r) line) (Both (One code (op.BindMade c r) line) (Risk code ms (op.CallOn r) line))))
  make_paces ms line c r = ticked_paces ms line (more_above ms (op.Make c r) line (λ n k h. refl) (λ k t. refl) (λ at l. l) (λ from to floor at i. i) (more_above ms (op.BindMade c r) line (λ n k h. refl) (λ k t. refl) (λ at l. l) (λ from to floor at i. i) (call_above ms line r)))

  pub calls_behind_paces : (ms : List CodeMark) (line r : ℕ) → Paces ms (CallsBehind code ms r line)
  calls_behind_paces ms line r = record {
    rises = λ a z h. let e = h.risk.end in omega arith;
    plain = λ a z h p. own_plain code table a (op.CallUnwritten r) line h.risk.here (λ n k x. refl) (λ k t. refl) (subst (Outside code table) h.risk.end p.outside);
    each = λ q a z h x p.
        let e = h.risk.end in
        let k = height_is code table a (op.CallUnwritten r) line h.risk.here in
        let w = within code table a (op.CallUnwritten r) line h.risk.here in
        let m : Plain code table (a + 1) = subst (Plain code table) h.risk.end p in
        let n = m.low in
        let f = further_of code table ms z x in
        let u : chain code.rows (a + 1) ≡ handlers ms = subst (λ n. chain code.rows n ≡ handlers ms) h.risk.end h.risk.under in
        let y : Around code table ms (a + 1) = subst (Around code table ms) h.risk.end x in
        only code table a z h.risk.end (paced_by code table a (op.CallUnwritten r) line h.risk.here (
          calling code table a r (λ c g. let v = q r c g in let i = v.low in let b = f r c h.behind g in let d = b.0 in (v, omega arith)),
          waits_at code table a (risky code table a ms u w (omega arith) y) (outside_next code table a (op.CallUnwritten r) line h.risk.here (λ k t. refl) m.outside) m (omega arith) (omega arith),
          (λ c g. let b = f r c h.behind g in b.1),
        ));
    stays = λ from to floor a z h n l m x.
        let u : chain code.rows (a + 1) ≡ handlers ms = subst (λ n. chain code.rows n ≡ handlers ms) h.risk.end h.risk.under in
        stay_one code table from to floor a z (op.CallUnwritten r) line h.risk.here h.risk.end (next_in from to a z h.risk.end l m, risks_in code table from to a ms u n);
  }

  -- an op from which an event may come and nothing else
  pub risk_paces : (ms : List CodeMark) (o : Op) (line : ℕ) → ((n k h : ℕ) → climb_op n k o h ≡ behind n k) → ((k : ℕ) (t : Option Test) → test_by o k t ≡ t) → ((at : ℕ) → at < length code.ops → height code.ops at ≡ behind (length code.ops) at → chain code.rows (at + 1) ≡ handlers ms → Around code table ms (at + 1) → Plain code table (at + 1) → Outside code table at → Paced code table at o) → ((from to floor at : ℕ) → at < length code.ops → height code.ops at ≡ behind (length code.ops) at → at + 1 < to → Loud floor to → In code table from to (at + 1) → Risks code table from to at → Stays code table from to floor at o) → Paces ms (Risk code ms o line)
  risk_paces ms o line c t f g = record {
    rises = λ a z h. let e = h.end in omega arith;
    plain = λ a z h p. own_plain code table a o line h.here c t (subst (Outside code table) h.end p.outside);
    each = λ q a z h x p.
        let e = height_is code table a o line h.here ∙ c (length code.ops) a (height code.ops (a + 1)) in
        let w = within code table a o line h.here in
        let m : Plain code table (a + 1) = subst (Plain code table) h.end p in
        let u : chain code.rows (a + 1) ≡ handlers ms = subst (λ n. chain code.rows n ≡ handlers ms) h.end h.under in
        let y : Around code table ms (a + 1) = subst (Around code table ms) h.end x in
        only code table a z h.end (paced_by code table a o line h.here (f a w e u y m (outside_next code table a o line h.here t m.outside)));
    stays = λ from to floor a z h n l m x.
        let e = height_is code table a o line h.here ∙ c (length code.ops) a (height code.ops (a + 1)) in
        let w = within code table a o line h.here in
        let i = h.end in
        let u : chain code.rows (a + 1) ≡ handlers ms = subst (λ n. chain code.rows n ≡ handlers ms) h.end h.under in
        stay_one code table from to floor a z o line h.here h.end (g from to floor a w e (omega arith) x (next_in from to a z h.end l m) (risks_in code table from to a ms u n));
  }

  pub unwind_paces : (ms : List CodeMark) (line : ℕ) → Paces ms (Risk code ms op.Unwind line)
  unwind_paces ms line = risk_paces ms op.Unwind line (λ n k h. refl) (λ k t. refl) (λ at w e u y p o. risky code table at ms u w (omega arith) y) (λ from to floor at w e l x i r. r)

  pub throw_paces : (ms : List CodeMark) (line : ℕ) → Paces ms (Risk code ms op.Throw line)
  throw_paces ms line = risk_paces ms op.Throw line (λ n k h. refl) (λ k t. refl) (λ at w e u y p o. risky code table at ms u w (omega arith) y) (λ from to floor at w e l x i r. r)

  -- a raise, where there are any
  pub raise_paces : any ≡ true → (ms : List CodeMark) (line : ℕ) → Paces ms (Risk code ms op.Raise line)
  raise_paces raised ms line =
      risk_paces ms op.Raise line (λ n k h. refl) (λ k t. refl)
      (λ at w e u y p o. let l = p.low in raises_at code table at (risky code table at ms u w (omega arith) y) o p (omega arith) (omega arith))
      (λ from to floor at w e l x i r.
      let f : Allowed true floor to = subst (λ b. Allowed b floor to) raised x in
      let m = waiting_more code.ops at 0 (behind (length code.ops) to) (omega arith) in
      (i, r, omega arith))

  -- the test where a block is unwound that is left as a whole
  pub handled_paces : (ms : List CodeMark) (line : ℕ) → Paces ms (Risk code ms op.Handled line)
  handled_paces ms line =
      risk_paces ms op.Handled line (λ n k h. refl) (λ k t. refl)
      (λ at w e u y p o. let l = p.low in (risky code table at ms u w (omega arith) y, down code table at (at + 1) o p.outside (omega arith)))
      (λ from to floor at w e l x i r. (i, r))

  -- where a switch comes back
  pub land_paces : (ms : List CodeMark) (line : ℕ) → Paces ms (Risk code ms op.Land line)
  land_paces ms line =
      risk_paces ms op.Land line (λ n k h. refl) (λ k t. refl)
      (λ at w e u y p o. let l = p.low in (risky code table at ms u w (omega arith) y, down code table at (at + 1) o p.outside (omega arith)))
      (λ from to floor at w e l x i r. (i, r))

  -- a coroutine is resumed in what is not silent

  loud_low : any ≡ true → (floor to : ℕ) → Loud floor to → floor < above code.ops
  loud_low t floor to x =
      let f : Allowed true floor to = subst (λ b. Allowed b floor to) t x in
      let k = power_room_less (behind (length code.ops) to) (behind (length code.ops) 0 + 2) (omega arith) in
      omega arith

  pub resume_paces : (any ≡ true) → (ms : List CodeMark) (line : ℕ) → Paces ms (One code op.Resume line)
  resume_paces t ms line = record {
    rises = λ a z h. let e = h.end in omega arith;
    plain = λ a z h p. onward_plain code table a op.Resume line h.here (λ n k x. refl) (λ k x. refl) (subst (Plain code table) h.end p);
    each = λ q a z h r p. only code table a z h.end (paced_by code table a op.Resume line h.here (onward_falls code table a op.Resume line h.here (λ n k x. refl) (λ k x. refl) (subst (Plain code table) h.end p)));
    stays = λ from to floor a z h n l m x. stay_one code table from to floor a z op.Resume line h.here h.end (next_in from to a z h.end l m, loud_low t floor to x);
  }

  -- no turns over elements go on at the ops of a poll that begins here
  record Entered (a : ℕ) : Type 0 where
    pub again : Outside code table (a + 3)
    pub discard : Outside code table (a + 2)
    pub deliver : Outside code table (a + 1)
    pub poll : Outside code table a

  -- events are delivered one by one: behind the tick or the request of a poll another one may follow

  poll_outside : (ms : List CodeMark) (line a z : ℕ) → PollAt code ms line a z → Outside code table z → Entered a
  poll_outside ms line a z h o =
      let e : z ≡ (a + 3) + 1 = (let i = h.end in omega arith) in
      let f : a + 3 ≡ (a + 2) + 1 = omega arith in
      let g : a + 2 ≡ (a + 1) + 1 = omega arith in
      let again : Outside code table (a + 3) = jump_outside code table (a + 3) a line h.again (subst (Outside code table) e o) in
      let discard : Outside code table (a + 2) = outside_next code table (a + 2) op.Discard line h.discard (λ k t. refl) (subst (Outside code table) f again) in
      let deliver : Outside code table (a + 1) = outside_next code table (a + 1) (op.Deliver z) line h.deliver.here (λ k t. refl) (subst (Outside code table) g discard) in
      record { again = again; discard = discard; deliver = deliver; poll = outside_next code table a (op.Poll z) line h.poll (λ k t. refl) deliver }

  poll_height : (ms : List CodeMark) (line a z : ℕ) → PollAt code ms line a z → height code.ops a ≡ behind (length code.ops) z + 1
  poll_height ms line a z h = height_is code table a (op.Poll z) line h.poll

  again_height : (ms : List CodeMark) (line a z : ℕ) → PollAt code ms line a z → height code.ops (a + 3) ≡ behind (length code.ops) (a + 3)
  again_height ms line a z h = height_is code table (a + 3) (op.Jump a) line h.again ∙ if_ge (a + 3) a (behind (length code.ops) a + 1) (behind (length code.ops) (a + 3)) (omega arith)

  discard_height : (ms : List CodeMark) (line a z : ℕ) → PollAt code ms line a z → height code.ops (a + 2) ≡ behind (length code.ops) (a + 3) + 1
  discard_height ms line a z h =
      let e : height code.ops (a + 2) ≡ suc (height code.ops ((a + 2) + 1)) = height_is code table (a + 2) op.Discard line h.discard in
      let f : (a + 2) + 1 ≡ a + 3 = omega arith in
      let g : height code.ops ((a + 2) + 1) ≡ height code.ops (a + 3) = ap (height code.ops) f in
      let k = again_height ms line a z h in
      omega arith

  -- the op that delivers
  deliver_risk : any ≡ true → (ms : List CodeMark) (line a z : ℕ) → PollAt code ms line a z → Around code table ms z → Plain code table z → Paced code table (a + 1) (op.Deliver z)
  deliver_risk t ms line a z h x p =
      let i = h.end in
      let o = poll_outside ms line a z h p.outside in
      let e : a + 2 ≡ (a + 1) + 1 = omega arith in
      let k : height code.ops (a + 1) ≡ behind (length code.ops) (a + 1) = height_is code table (a + 1) (op.Deliver z) line h.deliver.here in
      let d = discard_height ms line a z h in
      let w = within code table (a + 3) (op.Jump a) line h.again in
      let l = p.low in
      let u : chain code.rows ((a + 1) + 1) ≡ handlers ms = subst (λ n. chain code.rows n ≡ handlers ms) e h.deliver.under in
      let y : Around code table ms ((a + 1) + 1) = around_less code table ms ((a + 1) + 1) z (omega arith) x in
      let next : Plain code table (a + 2) = record { low = omega arith; outside = o.discard } in
      let f : height code.ops ((a + 1) + 1) ≡ height code.ops (a + 2) = ap (height code.ops) (sym e) in (
        raises_at code table (a + 1) (risky code table (a + 1) ms u (omega arith) (omega arith) y) o.deliver (subst (Plain code table) e next) (omega arith) (omega arith),
        down code table (a + 1) z o.deliver p.outside (omega arith),
      )

  pub poll_paces : any ≡ true → (ms : List CodeMark) (line : ℕ) → Paces ms (PollAt code ms line)
  poll_paces t ms line = record {
    rises = λ a z h. let e = h.end in omega arith;
    plain = λ a z h p.
        let i = h.end in
        let o = poll_outside ms line a z h p.outside in
        let k = poll_height ms line a z h in
        let w = within code table (a + 3) (op.Jump a) line h.again in
        record { low = omega arith; outside = o.poll };
    each = λ q a z h x p.
        let i = h.end in
        let o = poll_outside ms line a z h p.outside in
        let k = poll_height ms line a z h in
        let b = again_height ms line a z h in
        let d = discard_height ms line a z h in
        let l = p.low in
        let w = within code table (a + 3) (op.Jump a) line h.again in
        let f : (a + 2) + 1 ≡ a + 3 = omega arith in
        let g : Onward code table (a + 2) (a + 3) = down code table (a + 2) (a + 3) o.discard o.again (omega arith) in
        join code table a (a + 1) z (only code table a (a + 1) refl (paced_by code table a (op.Poll z) line h.poll (down code table a z o.poll p.outside (omega arith)))) (
        join code table (a + 1) (a + 2) z (only code table (a + 1) (a + 2) (omega arith) (paced_by code table (a + 1) (op.Deliver z) line h.deliver.here (deliver_risk t ms line a z h x p))) (
        join code table (a + 2) (a + 3) z (only code table (a + 2) (a + 3) (omega arith) (paced_by code table (a + 2) op.Discard line h.discard (subst (λ n. Onward code table (a + 2) n) (sym f) g)))
        (only code table (a + 3) z (omega arith) (paced_by code table (a + 3) (op.Jump a) line h.again (down code table (a + 3) a o.again o.poll (omega arith))))));
    stays = λ from to floor a z h n l m x.
        let i = h.end in
        let k : height code.ops (a + 1) ≡ behind (length code.ops) (a + 1) = height_is code table (a + 1) (op.Deliver z) line h.deliver.here in
        let w = within code table (a + 3) (op.Jump a) line h.again in
        let e : a + 2 ≡ (a + 1) + 1 = omega arith in
        let u : chain code.rows ((a + 1) + 1) ≡ handlers ms = subst (λ n. chain code.rows n ≡ handlers ms) e h.deliver.under in
        let f : Allowed true floor to = subst (λ b. Allowed b floor to) t x in
        let b = waiting_more code.ops (a + 1) 0 (behind (length code.ops) to) (omega arith) in
        let here = end_in from to a z (omega arith) l m in
        stay_join code table from to floor a (a + 1) z (stay_one code table from to floor a (a + 1) (op.Poll z) line h.poll refl (here, next_in from to a (a + 1) refl l (omega arith))) (
        stay_join code table from to floor (a + 1) (a + 2) z (stay_one code table from to floor (a + 1) (a + 2) (op.Deliver z) line h.deliver.here e (here, next_in from to (a + 1) (a + 2) e (omega arith) (omega arith), risks_in code table from to (a + 1) ms u n, omega arith)) (
        stay_join code table from to floor (a + 2) (a + 3) z (stay_one code table from to floor (a + 2) (a + 3) op.Discard line h.discard (omega arith) (next_in from to (a + 2) (a + 3) (omega arith) (omega arith) (omega arith)))
        (stay_one code table from to floor (a + 3) z (op.Jump a) line h.again (omega arith) (end_in from to a a (omega arith) l (omega arith)))));
  }

  -- a mutex call leaves its object: it goes on behind the poll, or behind a request
  leave_outside : any ≡ true → (ms : List CodeMark) (line a z : ℕ) → LeavesAt code ms line a z → Plain code table z → Outside code table a
  leave_outside t ms line a z h p =
      let u = (poll_paces t ms line).plain (a + 1) z h.polls p in
      outside_next code table a (op.Leave z) line h.leave (λ k t. refl) u.outside

  pub leaves_paces : any ≡ true → (ms : List CodeMark) (line : ℕ) → Paces ms (LeavesAt code ms line)
  leaves_paces t ms line = record {
    rises = λ a z h. let e = h.polls.end in omega arith;
    plain = λ a z h p.
        let i = h.polls.end in
        let k : height code.ops a ≡ behind (length code.ops) z + 1 = height_is code table a (op.Leave z) line h.leave in
        let w = within code table (a + 1) (op.Poll z) line h.polls.poll in
        record { low = omega arith; outside = leave_outside t ms line a z h p };
    each = λ q a z h x p.
        let i = h.polls.end in
        let k : height code.ops a ≡ behind (length code.ops) z + 1 = height_is code table a (op.Leave z) line h.leave in
        let l = p.low in
        let o = leave_outside t ms line a z h p in
        join code table a (a + 1) z (only code table a (a + 1) refl (paced_by code table a (op.Leave z) line h.leave (down code table a z o p.outside (omega arith))))
        ((poll_paces t ms line).each q (a + 1) z h.polls x p);
    stays = λ from to floor a z h n l m x.
        let i = h.polls.end in
        let here = end_in from to a z (omega arith) l m in
        stay_join code table from to floor a (a + 1) z (stay_one code table from to floor a (a + 1) (op.Leave z) line h.leave refl (here, next_in from to a (a + 1) refl l (omega arith)))
        ((poll_paces t ms line).stays from to floor (a + 1) z h.polls n (omega arith) m x);
  }

  -- an execution is set up for a coroutine, whose main begins low

  begins_low : (r : ℕ) → Starts code table → Begins code table r
  begins_low r q = λ c g.
      let s = q r c g in
      let l = s.low in
      let m = power_less (height code.ops c.entry) (behind (length code.ops) 0 + 2) (omega arith) in
      rw (burden_is code table c.entry 0 s.outside) m

  pub set_up_paces : (ms : List CodeMark) (line r : ℕ) → Paces ms (One code (op.Coroutine r) line)
  set_up_paces ms line r = record {
    rises = λ a z h. let e = h.end in omega arith;
    plain = λ a z h p. onward_plain code table a (op.Coroutine r) line h.here (λ n k x. refl) (λ k x. refl) (subst (Plain code table) h.end p);
    each = λ q a z h x p. only code table a z h.end (paced_by code table a (op.Coroutine r) line h.here (onward_falls code table a (op.Coroutine r) line h.here (λ n k y. refl) (λ k y. refl) (subst (Plain code table) h.end p), begins_low r q));
    stays = λ from to floor a z h n l m x. stay_one code table from to floor a z (op.Coroutine r) line h.here h.end (next_in from to a z h.end l m);
  }

  -- a loop whose parts are paced under its mark
  module _ (ms : List CodeMark) (line : ℕ) (T S : ℕ → ℕ → Type 0) (B : CodeMark → ℕ → ℕ → Type 0) (t : Paces ms T) (s : Paces ms S) (b : (m : CodeMark) → Paces (m ∷ ms) (B m)) where
    back_rises : (o : Order) (turn a z : ℕ) → BackAt code o T turn line a z → a < z
    back_rises TestFirst turn a z h = let k = t.rises a h.middle h.first in let e = h.second.end in omega arith
    back_rises BodyFirst turn a z h = let k = t.rises a h.middle h.first in let e = h.second.end in omega arith
    back_rises NoTest turn a z h = let e = h.end in omega arith

    test_plain : (turn a z : ℕ) → One code (op.IfNonzero turn) line a z → Plain code table z → Plain code table a
    test_plain turn a z h p = own_plain code table a (op.IfNonzero turn) line h.here (λ n k x. refl) (λ k u. refl) (subst (Outside code table) h.end p.outside)

    back_plain : (o : Order) (turn a z : ℕ) → BackAt code o T turn line a z → Plain code table z → Plain code table a
    back_plain TestFirst turn a z h p = t.plain a h.middle h.first (test_plain turn h.middle z h.second p)
    back_plain BodyFirst turn a z h p = t.plain a h.middle h.first (test_plain turn h.middle z h.second p)
    back_plain NoTest turn a z h p = jump_plain code table a turn line h.here (subst (Outside code table) h.end p.outside)

    test_each : Starts code table → (turn a z : ℕ) → Both T (One code (op.IfNonzero turn) line) a z → turn < a → OpAt code turn op.Tick line → Outside code table turn → Around code table ms z → Plain code table z → Each code table a z
    test_each q turn a z h l k o r p =
        let e = h.second.end in
        join code table a h.middle z
        (t.each q a h.middle h.first (around_less code table ms h.middle z (omega arith) r) (test_plain turn h.middle z h.second p))
        (only code table h.middle z h.second.end (back_test_paced code table h.middle turn line line h.second.here k o (subst (Plain code table) h.second.end p)))

    back_each : Starts code table → (o : Order) (turn a z : ℕ) → BackAt code o T turn line a z → turn < a → OpAt code turn op.Tick line → Outside code table turn → Around code table ms z → Plain code table z → Each code table a z
    back_each q TestFirst turn a z h l k o r p = test_each q turn a z h l k o r p
    back_each q BodyFirst turn a z h l k o r p = test_each q turn a z h l k o r p
    back_each q NoTest turn a z h l k o r p = only code table a z h.end (back_paced code table a turn line line h.here k l o (subst (Outside code table) h.end p.outside))

    begin_paced : (o : Order) (a test : ℕ) → OpAt code a (op.Jump (begin_at o (a + 3) test)) line → a + 3 < test → Plain code table (a + 3) → Outside code table (a + 1) → Plain code table test → PacedAt code table a
    begin_paced TestFirst a test h l k u p = jump_paced code table a test line h (omega arith) u p
    begin_paced BodyFirst a test h l k u p = jump_paced code table a (a + 3) line h (omega arith) u k
    begin_paced NoTest a test h l k u p = jump_paced code table a (a + 3) line h (omega arith) u k

    -- the tick and the pads of a loop that begins here
    record Entering (a : ℕ) : Type 0 where
      pub tick : Plain code table (a + 3)
      pub again : Outside code table (a + 2)
      pub leave : Outside code table (a + 1)

    begins : (o : Order) (a z : ℕ) (h : Turns code line o T S B a z) → Plain code table z → Entering a
    begins o a z h p =
        let test = back_plain o (a + 3) h.test_at z h.back p in
        let step = s.plain h.step_at h.test_at h.step test in
        let body = (b (pads_at a)).plain (a + 4) h.step_at h.body step in
        let e : a + 4 ≡ (a + 3) + 1 = omega arith in
        let f : a + 3 ≡ (a + 2) + 1 = omega arith in
        let g : a + 2 ≡ (a + 1) + 1 = omega arith in
        let tick : Plain code table (a + 3) = tick_plain code table (a + 3) line h.tick (subst (Outside code table) e body.outside) in
        let again : Outside code table (a + 2) = jump_outside code table (a + 2) h.step_at line h.again (subst (Outside code table) f tick.outside) in
        let leave : Outside code table (a + 1) = jump_outside code table (a + 1) z line h.leave (subst (Outside code table) g again) in
        record { tick = tick; again = again; leave = leave }

    test_stays : (from to floor turn a z : ℕ) → Both T (One code (op.IfNonzero turn) line) a z → In code table from to turn → Env code table from to ms → from ≤ a → z < to → Loud floor to → AllStay code table from to floor a z
    test_stays from to floor turn a z h i n l m x =
        let e = h.second.end in
        let k = t.rises a h.middle h.first in
        stay_join code table from to floor a h.middle z (t.stays from to floor a h.middle h.first n l (omega arith) x)
        (stay_one code table from to floor h.middle z (op.IfNonzero turn) line h.second.here h.second.end (i, next_in from to h.middle z h.second.end (omega arith) m))

    back_stays : (o : Order) (from to floor turn a z : ℕ) → BackAt code o T turn line a z → In code table from to turn → Env code table from to ms → from ≤ a → z < to → Loud floor to → AllStay code table from to floor a z
    back_stays TestFirst from to floor turn a z h i n l m x = test_stays from to floor turn a z h i n l m x
    back_stays BodyFirst from to floor turn a z h i n l m x = test_stays from to floor turn a z h i n l m x
    back_stays NoTest from to floor turn a z h i n l m x = stay_one code table from to floor a z (op.Jump turn) line h.here h.end i

    begin_in : (o : Order) (from to a test : ℕ) → In code table from to (a + 3) → In code table from to test → In code table from to (begin_at o (a + 3) test)
    begin_in TestFirst from to a test i k = k
    begin_in BodyFirst from to a test i k = i
    begin_in NoTest from to a test i k = i

    pub turns_paces : (o : Order) → Paces ms (Turns code line o T S B)
    turns_paces o = record {
      rises = λ a z h.
          let x = (b (pads_at a)).rises (a + 4) h.step_at h.body in
          let y = s.rises h.step_at h.test_at h.step in
          let w = back_rises o (a + 3) h.test_at z h.back in
          omega arith;
      plain = λ a z h p. jump_plain code table a (begin_at o (a + 3) h.test_at) line h.begin (begins o a z h p).leave;
      each = λ q a z h r p.
          let x = (b (pads_at a)).rises (a + 4) h.step_at h.body in
          let y = s.rises h.step_at h.test_at h.step in
          let w = back_rises o (a + 3) h.test_at z h.back in
          let test = back_plain o (a + 3) h.test_at z h.back p in
          let step = s.plain h.step_at h.test_at h.step test in
          let u = begins o a z h p in
          let f : a + 3 ≡ (a + 2) + 1 = omega arith in
          let g : a + 2 ≡ (a + 1) + 1 = omega arith in
          let around : Around code table (pads_at a ∷ ms) h.step_at = (
            record { to = z; line = line; is = h.leave; forward = omega arith; past = omega arith; outside = u.leave },
            record { to = h.step_at; line = line; is = h.again; forward = omega arith; past = omega arith; outside = u.again },
            around_less code table ms h.step_at z (omega arith) r,
          ) in
          join code table a (a + 1) z (only code table a (a + 1) refl (begin_paced o a h.test_at h.begin (omega arith) u.tick u.leave test)) (
          join code table (a + 1) (a + 2) z (only code table (a + 1) (a + 2) (omega arith) (jump_paced code table (a + 1) z line h.leave (omega arith) (subst (Outside code table) g u.again) p)) (
          join code table (a + 2) (a + 3) z (only code table (a + 2) (a + 3) (omega arith) (jump_paced code table (a + 2) h.step_at line h.again (omega arith) (subst (Outside code table) f u.tick.outside) step)) (
          join code table (a + 3) (a + 4) z (only code table (a + 3) (a + 4) (omega arith) (tick_paced code table (a + 3) line h.tick)) (
          join code table (a + 4) h.step_at z ((b (pads_at a)).each q (a + 4) h.step_at h.body around step) (
          join code table h.step_at h.test_at z (s.each q h.step_at h.test_at h.step (around_less code table ms h.test_at z (omega arith) r) test) (
          back_each q o (a + 3) h.test_at z h.back (omega arith) h.tick u.tick.outside r p))))));
      stays = λ from to floor a z h n l m i.
          let x = (b (pads_at a)).rises (a + 4) h.step_at h.body in
          let y = s.rises h.step_at h.test_at h.step in
          let w = back_rises o (a + 3) h.test_at z h.back in
          let leave = end_in from to a (a + 1) (omega arith) l (omega arith) in
          let again = end_in from to a (a + 2) (omega arith) l (omega arith) in
          let turn = end_in from to a (a + 3) (omega arith) l (omega arith) in
          let test = end_in from to a h.test_at (omega arith) l (omega arith) in
          stay_join code table from to floor a (a + 1) z (stay_one code table from to floor a (a + 1) (op.Jump (begin_at o (a + 3) h.test_at)) line h.begin refl (begin_in o from to a h.test_at turn test)) (
          stay_join code table from to floor (a + 1) (a + 2) z (stay_one code table from to floor (a + 1) (a + 2) (op.Jump z) line h.leave (omega arith) (end_in from to a z (omega arith) l m)) (
          stay_join code table from to floor (a + 2) (a + 3) z (stay_one code table from to floor (a + 2) (a + 3) (op.Jump h.step_at) line h.again (omega arith) (end_in from to a h.step_at (omega arith) l (omega arith))) (
          stay_join code table from to floor (a + 3) (a + 4) z (stay_one code table from to floor (a + 3) (a + 4) op.Tick line h.tick (omega arith) (next_in from to (a + 3) (a + 4) (omega arith) (omega arith) (omega arith))) (
          stay_join code table from to floor (a + 4) h.step_at z ((b (pads_at a)).stays from to floor (a + 4) h.step_at h.body (leave, again, n) (omega arith) (omega arith) i) (
          stay_join code table from to floor h.step_at h.test_at z (s.stays from to floor h.step_at h.test_at h.step n (omega arith) (omega arith) i)
          (back_stays o from to floor (a + 3) h.test_at z h.back turn n (omega arith) m i))))));
    }

  -- an exit: a return, or a jump to a pad of the innermost loop

  pub leave_paces : (ms : List CodeMark) (leave again : ℕ) → Paces (mark.Loop leave again ∷ ms) (Any code (op.Jump leave))
  leave_paces ms leave again = record {
    rises = λ a z h. let e = h.one.end in omega arith;
    plain = λ a z h p. jump_plain code table a leave h.line h.one.here (subst (Outside code table) h.one.end p.outside);
    each = λ q a z h r p. only code table a z h.one.end (exit_paced code table a leave h.line h.one.here (subst (PadTo code table leave) h.one.end r.0) (subst (Outside code table) h.one.end p.outside));
    stays = λ from to floor a z h n l m x. stay_one code table from to floor a z (op.Jump leave) h.line h.one.here h.one.end n.0;
  }

  pub again_paces : (ms : List CodeMark) (leave again : ℕ) → Paces (mark.Loop leave again ∷ ms) (Any code (op.Jump again))
  again_paces ms leave again = record {
    rises = λ a z h. let e = h.one.end in omega arith;
    plain = λ a z h p. jump_plain code table a again h.line h.one.here (subst (Outside code table) h.one.end p.outside);
    each = λ q a z h r p. only code table a z h.one.end (exit_paced code table a again h.line h.one.here (subst (PadTo code table again) h.one.end r.1) (subst (Outside code table) h.one.end p.outside));
    stays = λ from to floor a z h n l m x. stay_one code table from to floor a z (op.Jump again) h.line h.one.here h.one.end n.1;
  }

  pub whole_exit_paces : (ms : List CodeMark) (leave row : ℕ) → Paces (mark.Whole leave row ∷ ms) (Any code (op.Jump leave))
  whole_exit_paces ms leave row = record {
    rises = λ a z h. let e = h.one.end in omega arith;
    plain = λ a z h p. jump_plain code table a leave h.line h.one.here (subst (Outside code table) h.one.end p.outside);
    each = λ q a z h r p. only code table a z h.one.end (exit_paced code table a leave h.line h.one.here (subst (PadTo code table leave) h.one.end r.0) (subst (Outside code table) h.one.end p.outside));
    stays = λ from to floor a z h n l m x. stay_one code table from to floor a z (op.Jump leave) h.line h.one.here h.one.end n.0;
  }

  pub in_loop : {B : ℕ → ℕ → Type 0} → (ms : List CodeMark) (leave again : ℕ) → Paces ms B → Paces (mark.Loop leave again ∷ ms) B
  in_loop ms leave again b = record { rises = b.rises; plain = b.plain; each = λ q a z h r p. b.each q a z h r.2 p; stays = λ from to floor a z h n l m x. b.stays from to floor a z h n.2 l m x }

  -- a mark around which nothing else is asked
  pub under_mark : {B : ℕ → ℕ → Type 0} → (m : CodeMark) (ms : List CodeMark) → ((z : ℕ) → Around code table (m ∷ ms) z → Around code table ms z) → ((from to : ℕ) → Env code table from to (m ∷ ms) → Env code table from to ms) → Paces ms B → Paces (m ∷ ms) B
  under_mark m ms f g b = record { rises = b.rises; plain = b.plain; each = λ q a z h r p. b.each q a z h (f z r) p; stays = λ from to floor a z h n l k x. b.stays from to floor a z h (g from to n) l k x }

  pub return_paces : (ms : List CodeMark) (line : ℕ) → Paces ms (One code op.Return line)
  return_paces ms line = record {
    rises = λ a z h. let e = h.end in omega arith;
    plain = λ a z h p. return_plain line a z h p.outside;
    each = λ q a z h r p. return_each line a z h;
    stays = λ from to floor a z h n l m x. stay_one code table from to floor a z op.Return line h.here h.end tt;
  }

  pub main_end_paces : (ms : List CodeMark) (line : ℕ) → Paces ms (One code op.EndMain line)
  main_end_paces ms line = record {
    rises = λ a z h. let e = h.end in omega arith;
    plain = λ a z h p. own_plain code table a op.EndMain line h.here (λ n k x. refl) (λ k t. refl) (subst (Outside code table) h.end p.outside);
    each = λ q a z h r p. only code table a z h.end (paced_by code table a op.EndMain line h.here tt);
    stays = λ from to floor a z h n l m x. stay_one code table from to floor a z op.EndMain line h.here h.end tt;
  }

  pub task_end_paces : (ms : List CodeMark) (line : ℕ) → Paces ms (One code op.EndTask line)
  task_end_paces ms line = record {
    rises = λ a z h. let e = h.end in omega arith;
    plain = λ a z h p. own_plain code table a op.EndTask line h.here (λ n k x. refl) (λ k t. refl) (subst (Outside code table) h.end p.outside);
    each = λ q a z h r p. only code table a z h.end (paced_by code table a op.EndTask line h.here tt);
    stays = λ from to floor a z h n l m x. stay_one code table from to floor a z op.EndTask line h.here h.end tt;
  }

  pub value_return_paces : (ms : List CodeMark) (line : ℕ) → Paces ms (One code op.ReturnValue line)
  value_return_paces ms line = record {
    rises = λ a z h. let e = h.end in omega arith;
    plain = λ a z h p. own_plain code table a op.ReturnValue line h.here (λ n k x. refl) (λ k t. refl) (subst (Outside code table) h.end p.outside);
    each = λ q a z h r p. only code table a z h.end (paced_by code table a op.ReturnValue line h.here tt);
    stays = λ from to floor a z h n l m x. stay_one code table from to floor a z op.ReturnValue line h.here h.end tt;
  }

  pub none_return_paces : (ms : List CodeMark) (line : ℕ) → Paces ms (One code op.ReturnNone line)
  none_return_paces ms line = record {
    rises = λ a z h. let e = h.end in omega arith;
    plain = λ a z h p. own_plain code table a op.ReturnNone line h.here (λ n k x. refl) (λ k t. refl) (subst (Outside code table) h.end p.outside);
    each = λ q a z h r p. only code table a z h.end (paced_by code table a op.ReturnNone line h.here tt);
    stays = λ from to floor a z h n l m x. stay_one code table from to floor a z op.ReturnNone line h.here h.end tt;
  }
