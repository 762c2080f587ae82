-- Turns over elements are paced: each one leaves fewer of them.
use Rattle.std.proofs.Common.{◌≡◌, ℕ, suc, pos, ◌+◌, ◌-◌, ◌*◌, ◌^◌, ◌<◌, ◌≤◌, List, Bool, true, false, Option, Some, None, refl, ap, sym, subst, ◌∙◌, arith}
use Rattle.std.specs.Prelude.{length, nat_eq}
use Rattle.std.proofs.lemmas.Bool.{eq-eqb, ne_eqb}
use Rattle.uc_tree.specs.declared.limits.TheConstants.{DESTRUCTOR}
use Rattle.uc_code.specs.declared.op.Op.{Op}
use Rattle.uc_code.specs.declared.op.Op.TheVariants as op
use Rattle.uc_code.specs.declared.rows.Array.{Array}
use Rattle.uc_code.specs.declared.rows.Manner.{Manner}
use Rattle.uc_code.specs.declared.rows.Manner.TheVariants as manner
use Rattle.uc_code.specs.declared.rows.CodeMark.{CodeMark}
use Rattle.uc_code.specs.declared.rows.ObjectCall.{ObjectCall}
use Rattle.uc_code.specs.declared.rows.Resource.{Resource}
use Rattle.uc_code.specs.declared.rows.Resource.TheVariants as resource
use Rattle.uc_code.specs.declared.rows.RoutineCode.{RoutineCode}
use Rattle.uc_code.specs.declared.rows.ObjectSpot.{ObjectSpot}
use Rattle.uc_code.specs.declared.rows.ObjectSpot.TheVariants as spot
use Rattle.uc_code.specs.Layout.{Laid, handlers, chain, routine_in}
use Rattle.uc_code.specs.Pace.{climb_op, height, power, Test, test_by, test_of, turns_left, left_at, turn_height, behind, burden, waiting, Entries, Nests, Waits, Onward, Paced}
use Rattle.uc_code.specs.CodeShapes.{OpAt, Nothing, One, Risk, CallsBehind, Both}
use Rattle.uc_code.specs.Lowered.{spot_op, close_op, SpotAt, FoundAt, OpenedAt, CalledAt, CallAt}
use Rattle.uc_code.proofs.Powers.{power_less, power_rises, power_twice}
use Rattle.uc_code.proofs.Heights.{Low, Each, paced_by, none, only, join, within, height_is, test_is, onward_low, onward_lower, Starts, Further, if_ge, waits_are, burdens_are, calling, risky_by, burden_high}

module _ (code : Laid) (table : List RoutineCode) (test turn : ℕ) (o : Op) where
  -- a place in a turn, of which this op is the test
  pub record In (at : ℕ) : Type 0 where
    pub is : test_of code.ops at ≡ Some (record { at = test; op = o; turn = turn })
    pub from : turn ≤ at

  abbrev left : Bool → ℕ → ℕ
  left b e = turns_left o b e * power (height code.ops turn)

  burden_by : (at e : ℕ) (b : Bool) → In at → nat_eq at test ≡ b → burden code.ops at e ≡ power (height code.ops at) + left b e
  unfolding burden
  burden_by at e b h q =
      let f : left_at at (test_of code.ops at) e * power (turn_height code.ops (test_of code.ops at)) ≡ left_at at (Some (record { at = test; op = o; turn = turn })) e * power (height code.ops turn) = ap (λ (t : Option Test). left_at at t e * power (turn_height code.ops t)) h.is in
      let g : left_at at (Some (record { at = test; op = o; turn = turn })) e ≡ turns_left o (nat_eq at test) e = if_ge at turn 0 (turns_left o (nat_eq at test) e) h.from in
      let k : turns_left o (nat_eq at test) e ≡ turns_left o b e = ap (λ c. turns_left o c e) q in
      ap (λ x. power (height code.ops at) + x) (f ∙ ap (λ x. x * power (height code.ops turn)) (g ∙ k))

  pub burden_in : (at e : ℕ) → In at → at < test → burden code.ops at e ≡ power (height code.ops at) + left false e
  burden_in at e h l = burden_by at e false h (ne_eqb at test (λ q. absurd (omega arith)))

  pub burden_test : (e : ℕ) → In test → burden code.ops test e ≡ power (height code.ops test) + left true e
  burden_test e h = burden_by test e true h (eq-eqb test test refl)

  pub in_next : (at : ℕ) (p : Op) (line : ℕ) → OpAt code at p line → ((k : ℕ) (t : Option Test) → test_by p k t ≡ t) → turn ≤ at → In (at + 1) → In at
  in_next at p line h t l n = record { is = test_is code table at p line h ∙ t at (test_of code.ops (at + 1)) ∙ n.is; from = l }

  in_down : (at : ℕ) → In at → In (at + 1) → at + 1 < test → height code.ops (at + 1) < height code.ops at → Onward code table at (at + 1)
  in_down at h n l d = λ e. rw (burden_in at e h (omega arith), burden_in (at + 1) e n l) (omega (arith, power_less (height code.ops (at + 1)) (height code.ops at) d))

  pub waiting_in : (at e : ℕ) → In at → at < test → waiting code.ops at e ≡ 2 ^ 32 * power (height code.ops at - 1) + left false e
  waiting_in at e h l =
      let b = burden_in at e h l in
      let f = burdens_are code.ops at e in
      let g = waits_are code.ops at e in
      omega arith

  -- what is known of the handlers of these turns, and of how many turns are left
  pub record Heard (ms : List CodeMark) : Type 0 where
    pub entries : (at : ℕ) → turn ≤ at → at < test → behind (length code.ops) at ≤ height code.ops at → In at → Entries code table at (handlers ms)
    pub nests : Nests code table (handlers ms)
    pub few : (e : ℕ) → e < 2 ^ 32 → turns_left o false e < 2 ^ 32
    pub low : height code.ops turn ≤ behind (length code.ops) 0

  in_waits : (ms : List CodeMark) (at : ℕ) → Heard ms → chain code.rows (at + 1) ≡ handlers ms → In at → In (at + 1) → turn ≤ at → at + 1 < test → behind (length code.ops) at ≤ height code.ops at → height code.ops (at + 1) < height code.ops at → height code.ops at ≤ behind (length code.ops) 0 + 2 → Waits code table at
  in_waits ms at q u h n t l g d k = record {
    risky = risky_by code table at (handlers ms) u (omega arith) (q.entries at t (omega arith) g h) q.nests;
    returns = λ e.
        let m = power_rises (height code.ops (at + 1)) (height code.ops at - 1) (omega arith) in
        rw (burden_in (at + 1) e n l, waiting_in at e h (omega arith)) (omega arith);
    low = λ e few.
        let w = q.low in
        let m = power_twice (turns_left o false e) (height code.ops at - 1) (height code.ops turn) (behind (length code.ops) 0 + 2) (q.few e few) (omega arith) (omega arith) in
        rw (waiting_in at e h (omega arith)) m;
  }

  -- pieces of a turn, before its last op
  pub record Turns (ms : List CodeMark) (B : ℕ → ℕ → Type 0) : Type 0 where
    pub rises : (a z : ℕ) → B a z → a ≤ z
    pub begins : (a z : ℕ) → B a z → turn ≤ a → In z → In a
    pub low : (a z : ℕ) → B a z → Low code table z → Low code table a
    pub each : Starts code table → Heard ms → (a z : ℕ) → B a z → turn ≤ a → z < test → Further code table (routine_in ms) z → In z → Low code table z → Each code table a z

  nothing_turns : (ms : List CodeMark) → Turns ms Nothing
  nothing_turns ms = record {
    rises = λ a z h. let e = h.end in omega arith;
    begins = λ a z h l n. let e = h.end in let f : z ≡ a = omega arith in let m = n.is in record { is = ap (test_of code.ops) (sym f) ∙ m; from = l };
    low = λ a z h p. subst (Low code table) h.end p;
    each = λ s v a z h l m f n p. let e = h.end in none code table a z (omega arith);
  }

  onward_turns : (ms : List CodeMark) (p : Op) (line : ℕ) → ((n k h : ℕ) → climb_op n k p h ≡ suc h) → ((k : ℕ) (t : Option Test) → test_by p k t ≡ t) → ((at : ℕ) → Onward code table at (at + 1) → Paced code table at p) → Turns ms (One code p line)
  onward_turns ms p line c t f = record {
    rises = λ a z h. let e = h.end in omega arith;
    begins = λ a z h l n. in_next a p line h.here t l (subst In h.end n);
    low = λ a z h q. onward_low code table a p line h.here c (subst (Low code table) h.end q);
    each = λ s v a z h l m g n q.
        let e = h.end in
        let k : In (a + 1) = subst In h.end n in
        only code table a z h.end (paced_by code table a p line h.here (f a (in_down a (in_next a p line h.here t l k) k (omega arith) (onward_lower code table a p line h.here c))));
  }

  both_turns : {B C : ℕ → ℕ → Type 0} → (ms : List CodeMark) → Turns ms B → Turns ms C → Turns ms (Both B C)
  both_turns {B} {C} ms b c = record {
    rises = λ a z h. let l = b.rises a h.middle h.first in let k = c.rises h.middle z h.second in omega arith;
    begins = λ a z h l n. let k = b.rises a h.middle h.first in b.begins a h.middle h.first l (c.begins h.middle z h.second (omega arith) n);
    low = λ a z h p. b.low a h.middle h.first (c.low h.middle z h.second p);
    each = λ s v a z h l m f n p.
        let k = b.rises a h.middle h.first in
        let i = c.rises h.middle z h.second in
        join code table a h.middle z
        (b.each s v a h.middle h.first l (omega arith) (λ r d x y. let u = f r d x y in let w = u.0 in (omega arith, u.1)) (c.begins h.middle z h.second (omega arith) n) (c.low h.middle z h.second p))
        (c.each s v h.middle z h.second (omega arith) m f n p);
  }

  -- a tick and a call of a written routine
  tick_turns : (ms : List CodeMark) (line : ℕ) → Turns ms (One code op.Tick line)
  tick_turns ms line = record {
    rises = λ a z h. let e = h.end in omega arith;
    begins = λ a z h l n. in_next a op.Tick line h.here (λ k t. refl) l (subst In h.end n);
    low = λ a z h q. let e = height_is code table a op.Tick line h.here in omega arith;
    each = λ s v a z h l m g n q. only code table a z h.end (paced_by code table a op.Tick line h.here tt);
  }

  -- a call is high, so that a tick stands before it, and what it falls from stands between

  pub record Above (ms : List CodeMark) (B : ℕ → ℕ → Type 0) : Type 0 where
    pub rises : (a z : ℕ) → B a z → a < z
    pub begins : (a z : ℕ) → B a z → turn ≤ a → In z → In a
    pub each : Starts code table → Heard ms → (a z : ℕ) → B a z → turn ≤ a → z < test → In z → Low code table z → Each code table a z

  call_above : (ms : List CodeMark) (line r : ℕ) → Above ms (Risk code ms (op.CallOn r) line)
  call_above ms line r = record {
    rises = λ a z h. let e = h.end in omega arith;
    begins = λ a z h l n. in_next a (op.CallOn r) line h.here (λ k t. refl) l (subst In h.end n);
    each = λ s v a z h l m n q.
        let f = h.end in
        let k : In (a + 1) = subst In h.end n in
        let i : In a = in_next a (op.CallOn r) line h.here (λ k t. refl) l k in
        let x = height_is code table a (op.CallOn r) line h.here in
        let p : Low code table (a + 1) = subst (Low code table) h.end q in
        only code table a z h.end (paced_by code table a (op.CallOn r) line h.here (
          calling code table a r (λ c y. let v = s r c y in let w = v.low in (v, omega arith)),
          in_waits ms a v (subst (λ n. chain code.rows n ≡ handlers ms) h.end h.under) i k (omega arith) (omega arith) (omega arith) (omega arith) (omega arith),
          burden_high code table a x,
        ));
  }

  more_above : {B : ℕ → ℕ → Type 0} → (ms : List CodeMark) (p : Op) (line : ℕ) → ((n k h : ℕ) → climb_op n k p h ≡ suc h) → ((k : ℕ) (t : Option Test) → test_by p k t ≡ t) → ((at : ℕ) → Onward code table at (at + 1) → Paced code table at p) → Above ms B → Above ms (Both (One code p line) B)
  more_above {B} ms p line c t f b = record {
    rises = λ a z h. let e = h.first.end in let i = b.rises h.middle z h.second in omega arith;
    begins = λ a z h l n. let e = h.first.end in in_next a p line h.first.here t l (subst In h.first.end (b.begins h.middle z h.second (omega arith) n));
    each = λ s v a z h l m n q.
        let e = h.first.end in
        let i = b.rises h.middle z h.second in
        let k : In (a + 1) = subst In h.first.end (b.begins h.middle z h.second (omega arith) n) in
        join code table a h.middle z
        (only code table a h.middle h.first.end (paced_by code table a p line h.first.here (f a (in_down a (in_next a p line h.first.here t l k) k (omega arith) (onward_lower code table a p line h.first.here c)))))
        (b.each s v h.middle z h.second (omega arith) m n q);
  }

  ticked_turns : {B : ℕ → ℕ → Type 0} → (ms : List CodeMark) (line : ℕ) → Above ms B → Turns ms (Both (One code op.Tick line) B)
  ticked_turns {B} ms line b = record {
    rises = λ a z h. let e = h.first.end in let i = b.rises h.middle z h.second in omega arith;
    begins = λ a z h l n. let e = h.first.end in in_next a op.Tick line h.first.here (λ k t. refl) l (subst In h.first.end (b.begins h.middle z h.second (omega arith) n));
    low = λ a z h q. let e = height_is code table a op.Tick line h.first.here in omega arith;
    each = λ s v a z h l m g n q.
        let e = h.first.end in
        join code table a h.middle z (only code table a h.middle h.first.end (paced_by code table a op.Tick line h.first.here tt)) (b.each s v h.middle z h.second (omega arith) m n q);
  }

  pub written_turns : (ms : List CodeMark) (line r : ℕ) → Turns ms (Both (One code op.Tick line) (Risk code ms (op.CallOn r) line))
  written_turns ms line r = ticked_turns ms line (call_above ms line r)

  made_written_turns : (ms : List CodeMark) (line c r : ℕ) → Turns ms (Both (One code op.Tick line) (Both (One code (op.Make c r) line) (Both (One code (op.BindMade c r) line) (Risk code ms (op.CallOn r) line))))
  made_written_turns ms line c r =
      ticked_turns ms line (more_above ms (op.Make c r) line (λ n k h. refl) (λ k t. refl) (λ at l. l) (more_above ms (op.BindMade c r) line (λ n k h. refl) (λ k t. refl) (λ at l. l) (call_above ms line r)))

  entered_written_turns : (ms : List CodeMark) (line k r : ℕ) → Turns ms (Both (One code op.Tick line) (Both (One code (op.Enter k r) line) (Risk code ms (op.CallOn r) line)))
  entered_written_turns ms line k r = ticked_turns ms line (more_above ms (op.Enter k r) line (λ n k h. refl) (λ k t. refl) (λ at l. l) (call_above ms line r))

  pub unwritten_turns : (ms : List CodeMark) (line r : ℕ) → Turns ms (CallsBehind code ms r line)
  unwritten_turns ms line r = record {
    rises = λ a z h. let e = h.risk.end in omega arith;
    begins = λ a z h l n. in_next a (op.CallUnwritten r) line h.risk.here (λ k t. refl) l (subst In h.risk.end n);
    low = λ a z h q. let e = height_is code table a (op.CallUnwritten r) line h.risk.here in omega arith;
    each = λ s v a z h l m g n q.
        let e = h.risk.end in
        let k : In (a + 1) = subst In h.risk.end n in
        let i : In a = in_next a (op.CallUnwritten r) line h.risk.here (λ k t. refl) l k in
        let x = height_is code table a (op.CallUnwritten r) line h.risk.here in
        let w = within code table a (op.CallUnwritten r) line h.risk.here in
        let p : Low code table (a + 1) = subst (Low code table) h.risk.end q in
        only code table a z h.risk.end (paced_by code table a (op.CallUnwritten r) line h.risk.here (
          calling code table a r (λ c y. let v = s r c y in let u = v.low in let b = g r c h.behind y in let d = b.0 in (v, omega arith)),
          in_waits ms a v (subst (λ n. chain code.rows n ≡ handlers ms) h.risk.end h.risk.under) i k l (omega arith) (omega arith) (omega arith) (omega arith),
          (λ c y. let b = g r c h.behind y in b.1),
        ));
  }

  spot_turns : (ms : List CodeMark) (line : ℕ) (s : ObjectSpot) → Turns ms (One code (spot_op s) line)
  spot_turns ms line (spot.Local k) = onward_turns ms (op.Local k) line (λ n k h. refl) (λ k t. refl) (λ at l. l)
  spot_turns ms line (spot.This k) = onward_turns ms (op.This k) line (λ n k h. refl) (λ k t. refl) (λ at l. l)

  place_turns : (ms : List CodeMark) (line : ℕ) (s : ObjectSpot) (a : Option Array) → Turns ms (SpotAt code line s a)
  place_turns ms line s None = spot_turns ms line s
  place_turns ms line s (Some a) =
      both_turns ms (spot_turns ms line s) (both_turns ms (onward_turns ms op.Counted line (λ n k h. refl) (λ k t. refl) (λ at l. l)) (onward_turns ms (op.Index a.length a.size) line (λ n k h. refl) (λ k t. refl) (λ at l. l)))

  found_turns : (ms : List CodeMark) (line : ℕ) (m : Manner) (s : ObjectSpot) (a : Option Array) → Turns ms (FoundAt code line m s a)
  found_turns ms line manner.Plain s a = place_turns ms line s a
  found_turns ms line (manner.Makes c) s a = place_turns ms line s a
  found_turns ms line manner.Ends s a = both_turns ms (place_turns ms line s a) (onward_turns ms op.Load line (λ n k h. refl) (λ k t. refl) (λ at l. l))
  found_turns ms line (manner.Opens of) s a = place_turns ms line s a
  found_turns ms line (manner.Closes of) s a = both_turns ms (place_turns ms line s a) (onward_turns ms op.Load line (λ n k h. refl) (λ k t. refl) (λ at l. l))

  opened_turns : (ms : List CodeMark) (line : ℕ) (of : Resource) → Turns ms (OpenedAt code line of)
  opened_turns ms line resource.Cluster = both_turns ms (onward_turns ms op.Cluster line (λ n k h. refl) (λ k t. refl) (λ at l. l)) (onward_turns ms op.Bind line (λ n k h. refl) (λ k t. refl) (λ at l. l))
  opened_turns ms line resource.Processor =
      both_turns ms (both_turns ms (onward_turns ms (op.Push (pos 0)) line (λ n k h. refl) (λ k t. refl) (λ at l. l)) (onward_turns ms op.Processor line (λ n k h. refl) (λ k t. refl) (λ at l. l))) (onward_turns ms op.Bind line (λ n k h. refl) (λ k t. refl) (λ at l. l))

  closed_turns : (ms : List CodeMark) (line : ℕ) (of : Resource) → Turns ms (One code (close_op of) line)
  closed_turns ms line resource.Cluster = onward_turns ms op.ClusterEnd line (λ n k h. refl) (λ k t. refl) (λ at l. l)
  closed_turns ms line resource.Processor = onward_turns ms op.ProcessorEnd line (λ n k h. refl) (λ k t. refl) (λ at l. l)

  made_turns : {B : ℕ → ℕ → Type 0} → (ms : List CodeMark) (line c r : ℕ) → Turns ms B → Turns ms (Both (One code (op.Make c r) line) (Both (One code (op.BindMade c r) line) B))
  made_turns ms line c r b =
      both_turns ms (onward_turns ms (op.Make c r) line (λ n k h. refl) (λ k t. refl) (λ at l. l)) (both_turns ms (onward_turns ms (op.BindMade c r) line (λ n k h. refl) (λ k t. refl) (λ at l. l)) b)

  called_turns : (ms : List CodeMark) (line : ℕ) (m : Manner) (written : Bool) (r : ℕ) → Turns ms (CalledAt code line ms m written r)
  called_turns ms line manner.Plain true r = both_turns ms (nothing_turns ms) (written_turns ms line r)
  called_turns ms line manner.Plain false r = unwritten_turns ms line r
  called_turns ms line (manner.Makes c) true r = both_turns ms (nothing_turns ms) (made_written_turns ms line c r)
  called_turns ms line (manner.Makes c) false r = both_turns ms (nothing_turns ms) (made_turns ms line c r (unwritten_turns ms line r))
  called_turns ms line manner.Ends true r = entered_written_turns ms line DESTRUCTOR r
  called_turns ms line manner.Ends false r = both_turns ms (onward_turns ms (op.Enter DESTRUCTOR r) line (λ n k h. refl) (λ k t. refl) (λ at l. l)) (unwritten_turns ms line r)
  called_turns ms line (manner.Opens of) written r = opened_turns ms line of
  called_turns ms line (manner.Closes of) written r = closed_turns ms line of

  pub call_turns : (ms : List CodeMark) (line : ℕ) (what : ObjectCall) → Turns ms (CallAt code line what ms)
  call_turns ms line what = both_turns ms (found_turns ms line what.manner what.spot what.array) (called_turns ms line what.manner what.written what.routine)
