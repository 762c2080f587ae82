-- The turns of a destruction and of a construction, with their tests.
use Rattle.std.proofs.Common.{◌≡◌, ℕ, suc, ◌+◌, ◌-◌, ◌*◌, ◌^◌, ◌<◌, ◌≤◌, min, List, Option, Some, length, refl, ap, subst, ◌∙◌, arith}
use Rattle.uc_code.specs.declared.op.Op.{Op}
use Rattle.uc_code.specs.declared.op.Op.TheVariants as op
use Rattle.uc_code.specs.declared.rows.CodeMark.{CodeMark}
use Rattle.uc_code.specs.declared.rows.ObjectCall.{ObjectCall}
use Rattle.uc_code.specs.declared.rows.RoutineCode.{RoutineCode}
use Rattle.uc_code.specs.Layout.{Laid, handlers, routine_in}
use Rattle.uc_code.specs.Pace.{behind, height, power, Test, test_by, test_of, burden, Entries, Nests}
use Rattle.uc_code.specs.CodeShapes.{OpAt, Rounds}
use Rattle.uc_code.specs.Lowered.{CallDone, CallBuilt}
use Rattle.uc_code.proofs.Powers.{power_more, power_less, power_few, times_rise, times_one_more}
use Rattle.uc_code.proofs.Heights.{Low, Outside, Plain, PacedAt, Each, paced_by, only, join, within, height_is, test_is, burden_is, onward_low, onward_lower, Starts, Further}
use Rattle.uc_code.proofs.Turning.{In, Heard, burden_in, burden_test, in_next, call_turns}

module _ (code : Laid) (table : List RoutineCode) where
  -- right before a turn nothing is left of it
  pub before_turns : (test turn : ℕ) (o : Op) (at : ℕ) (p : Op) (line : ℕ) → OpAt code at p line → ((k : ℕ) (t : Option Test) → test_by p k t ≡ t) → at + 1 ≡ turn → In code table test turn o turn → Outside code table at
  before_turns test turn o at p line h t e n =
      let f : test_of code.ops at ≡ test_of code.ops (at + 1) = test_is code table at p line h ∙ t at (test_of code.ops (at + 1)) in
      let g : test_of code.ops at ≡ Some (record { at = test; op = o; turn = turn }) = f ∙ (ap (test_of code.ops) e ∙ n.is) in
      let l : at < turn = omega arith in
      rw g l

  -- at a test so few elements are left that an op right before the turns stands above
  pub test_falls : (test turn : ℕ) (o : Op) (at first few : ℕ) → In code table test turn o test → Outside code table at → Low code table test → Low code table turn → height code.ops at ≡ behind (length code.ops) at → at < turn → at < test → turn < length code.ops → test < length code.ops → few < 2 ^ 32 → burden code.ops test first ≡ power (height code.ops test) + few * power (height code.ops turn) → (e : ℕ) → burden code.ops test first < burden code.ops at e
  test_falls test turn o at first few n q l m h x y v w f b = λ e. rw (burden_is code table at e q, b) (power_few few (height code.ops test) (height code.ops turn) (height code.ops at) f (omega arith) (omega arith))

  module _ (line : ℕ) (ms : List CodeMark) (what : ObjectCall) (test turn z : ℕ) where
    -- destruction

    pub sweep_in : Rounds code line op.Sweep (CallDone code line what ms) test turn z → In code table test turn (op.Sweep turn) turn
    sweep_in h =
        let c = h.turn in
        let t = call_turns code table test turn (op.Sweep turn) ms line what in
        let k = t.rises turn c.middle c.first in
        let e = c.second.end in
        let n : In code table test turn (op.Sweep turn) test = record { is = test_is code table test (op.Sweep turn) line h.again; from = omega arith } in
        let m : In code table test turn (op.Sweep turn) c.middle = in_next code table test turn (op.Sweep turn) c.middle op.Discard line c.second.here (λ k t. refl) (omega arith) (subst (In code table test turn (op.Sweep turn)) e n) in
        t.begins turn c.middle c.first (omega arith) m

    pub sweep_test : Rounds code line op.Sweep (CallDone code line what ms) test turn z → In code table test turn (op.Sweep turn) test
    sweep_test h =
        let c = h.turn in
        let k = (call_turns code table test turn (op.Sweep turn) ms line what).rises turn c.middle c.first in
        let e = c.second.end in
        record { is = test_is code table test (op.Sweep turn) line h.again; from = omega arith }

    pub sweep_low : Rounds code line op.Sweep (CallDone code line what ms) test turn z → Low code table turn
    sweep_low h =
        let c = h.turn in
        let x = height_is code table test (op.Sweep turn) line h.again in
        let l : Low code table test = omega arith in
        let m : Low code table c.middle = onward_low code table c.middle op.Discard line c.second.here (λ n k h. refl) (subst (Low code table) c.second.end l) in
        (call_turns code table test turn (op.Sweep turn) ms line what).low turn c.middle c.first m

    -- what is known of the handlers of its ops
    pub sweep_heard : Rounds code line op.Sweep (CallDone code line what ms) test turn z → ((at : ℕ) → turn ≤ at → at < test → behind (length code.ops) at ≤ height code.ops at → In code table test turn (op.Sweep turn) at → Entries code table at (handlers ms)) → Nests code table (handlers ms) → Heard code table test turn (op.Sweep turn) ms
    sweep_heard h e n = record { entries = e; nests = n; few = λ k l. l; low = let l = sweep_low h in omega arith }

    pub sweep_each : Rounds code line op.Sweep (CallDone code line what ms) test turn z → Starts code table → Heard code table test turn (op.Sweep turn) ms → Further code table (routine_in ms) z → Plain code table z → Each code table turn z
    sweep_each h s hs f p =
        let c = h.turn in
        let t = call_turns code table test turn (op.Sweep turn) ms line what in
        let k = t.rises turn c.middle c.first in
        let e = c.second.end in
        let x = height_is code table test (op.Sweep turn) line h.again in
        let w = within code table test (op.Sweep turn) line h.again in
        let g = h.end in
        let n : In code table test turn (op.Sweep turn) test = sweep_test h in
        let l : Low code table test = omega arith in
        let m : In code table test turn (op.Sweep turn) c.middle = in_next code table test turn (op.Sweep turn) c.middle op.Discard line c.second.here (λ k t. refl) (omega arith) (subst (In code table test turn (op.Sweep turn)) e n) in
        let y : Low code table c.middle = onward_low code table c.middle op.Discard line c.second.here (λ n k h. refl) (subst (Low code table) e l) in
        let b : In code table test turn (op.Sweep turn) turn = sweep_in h in
        let d : height code.ops (c.middle + 1) < height code.ops c.middle = onward_lower code table c.middle op.Discard line c.second.here (λ n k h. refl) in
        let q : Plain code table (test + 1) = subst (Plain code table) g p in
        let v = q.low in
        let drop : PacedAt code table c.middle = paced_by code table c.middle op.Discard line c.second.here (λ a.
        let i : burden code.ops c.middle a ≡ power (height code.ops c.middle) + a * power (height code.ops turn) = burden_in code table test turn (op.Sweep turn) c.middle a m (omega arith) in
        let j : burden code.ops test a ≡ power (height code.ops test) + a * power (height code.ops turn) = burden_test code table test turn (op.Sweep turn) a n in
        let r : burden code.ops (c.middle + 1) a ≡ power (height code.ops (c.middle + 1)) + a * power (height code.ops turn) = subst (λ u. burden code.ops u a ≡ power (height code.ops u) + a * power (height code.ops turn)) e j in
        rw (i, r) (omega (arith, power_less (height code.ops (c.middle + 1)) (height code.ops c.middle) d))) in
        let tested : PacedAt code table test = paced_by code table test (op.Sweep turn) line h.again (
          (λ a.
              let i : burden code.ops turn a ≡ power (height code.ops turn) + a * power (height code.ops turn) = burden_in code table test turn (op.Sweep turn) turn a b (omega arith) in
              let j : burden code.ops test (suc a) ≡ power (height code.ops test) + suc a * power (height code.ops turn) = burden_test code table test turn (op.Sweep turn) (suc a) n in
              rw (i, j) (omega (arith, times_one_more (suc a) a (power (height code.ops turn)) (omega arith), power_more (height code.ops test)))),
          (let j : burden code.ops test 0 ≡ power (height code.ops test) + 0 * power (height code.ops turn) = burden_test code table test turn (op.Sweep turn) 0 n in
              rw (burden_is code table (test + 1) 0 q.outside, j) (omega (arith, power_less (height code.ops (test + 1)) (height code.ops test) (omega arith)))),
        ) in
        join code table turn c.middle z
        (t.each s hs turn c.middle c.first (omega arith) (omega arith) (λ r d u o. let i = f r d u o in let j = i.0 in (omega arith, i.1)) m y)
        (join code table c.middle test z (only code table c.middle test e drop) (only code table test z g tested))

    -- so many elements are left at the first test
    pub sweep_begins : (first : ℕ) → Rounds code line op.Sweep (CallDone code line what ms) test turn z → burden code.ops test first ≡ power (height code.ops test) + first * power (height code.ops turn)
    sweep_begins first h = burden_test code table test turn (op.Sweep turn) first (sweep_test h)

    -- construction

    module _ (most : ℕ) (few : most < 2 ^ 32) where
      abbrev Filling : Type 0
      Filling = Rounds code line (op.Fill most) (CallBuilt code line what ms) test turn z

      abbrev InFill : ℕ → Type 0
      InFill = In code table test turn (op.Fill most turn)

      pub fill_test : Filling → InFill test
      fill_test h =
          let c = h.turn in
          let k = (call_turns code table test turn (op.Fill most turn) ms line what).rises turn c.middle c.first in
          let e = c.second.first.end in
          let g = c.second.second.end in
          record { is = test_is code table test (op.Fill most turn) line h.again; from = omega arith }

      fill_more : (h : Filling) → InFill h.turn.second.middle
      fill_more h =
          let c = h.turn in
          let k = (call_turns code table test turn (op.Fill most turn) ms line what).rises turn c.middle c.first in
          let e = c.second.first.end in
          in_next code table test turn (op.Fill most turn) c.second.middle op.More line c.second.second.here (λ k t. refl) (omega arith) (subst InFill c.second.second.end (fill_test h))

      fill_drop : (h : Filling) → InFill h.turn.middle
      fill_drop h =
          let c = h.turn in
          let k = (call_turns code table test turn (op.Fill most turn) ms line what).rises turn c.middle c.first in
          in_next code table test turn (op.Fill most turn) c.middle op.Discard line c.second.first.here (λ k t. refl) (omega arith) (subst InFill c.second.first.end (fill_more h))

      pub fill_in : Filling → InFill turn
      fill_in h =
          let c = h.turn in
          (call_turns code table test turn (op.Fill most turn) ms line what).begins turn c.middle c.first (omega arith) (fill_drop h)

      fill_low_more : (h : Filling) → Low code table h.turn.second.middle
      fill_low_more h =
          let c = h.turn in
          let x = height_is code table test (op.Fill most turn) line h.again in
          let l : Low code table test = omega arith in
          onward_low code table c.second.middle op.More line c.second.second.here (λ n k h. refl) (subst (Low code table) c.second.second.end l)

      fill_low_drop : (h : Filling) → Low code table h.turn.middle
      fill_low_drop h = let c = h.turn in onward_low code table c.middle op.Discard line c.second.first.here (λ n k h. refl) (subst (Low code table) c.second.first.end (fill_low_more h))

      pub fill_low : Filling → Low code table turn
      fill_low h = let c = h.turn in (call_turns code table test turn (op.Fill most turn) ms line what).low turn c.middle c.first (fill_low_drop h)

      capped : (e : ℕ) → most - min (e + 1) (2 ^ 32 - 1) ≤ most - (e + 1)
      capped e = omega arith

      more_paced : (h : Filling) → PacedAt code table h.turn.second.middle
      more_paced h =
          let c = h.turn in
          let g = c.second.second.end in
          let d : height code.ops (c.second.middle + 1) < height code.ops c.second.middle = onward_lower code table c.second.middle op.More line c.second.second.here (λ n k h. refl) in
          let p : ℕ = power (height code.ops turn) in
          paced_by code table c.second.middle op.More line c.second.second.here (λ a.
          let m : ℕ = min (a + 1) (2 ^ 32 - 1) in
          let i : burden code.ops c.second.middle a ≡ power (height code.ops c.second.middle) + (most - (a + 1)) * p = burden_in code table test turn (op.Fill most turn) c.second.middle a (fill_more h) (omega arith) in
          let j : burden code.ops test m ≡ power (height code.ops test) + (most - m) * p = burden_test code table test turn (op.Fill most turn) m (fill_test h) in
          let r : burden code.ops (c.second.middle + 1) m ≡ power (height code.ops (c.second.middle + 1)) + (most - m) * p = subst (λ u. burden code.ops u m ≡ power (height code.ops u) + (most - m) * p) g j in
          let t : (most - m) * p ≤ (most - (a + 1)) * p = times_rise (most - m) (most - (a + 1)) p (capped a) in
          rw (i, r) (omega (arith, power_less (height code.ops (c.second.middle + 1)) (height code.ops c.second.middle) d)))

      drop_paced : (h : Filling) → PacedAt code table h.turn.middle
      drop_paced h =
          let c = h.turn in
          let e = c.second.first.end in
          let g = c.second.second.end in
          let p : ℕ = power (height code.ops turn) in
          let d : height code.ops (c.middle + 1) < height code.ops c.middle = onward_lower code table c.middle op.Discard line c.second.first.here (λ n k h. refl) in
          paced_by code table c.middle op.Discard line c.second.first.here (λ a.
          let i : burden code.ops c.middle a ≡ power (height code.ops c.middle) + (most - (a + 1)) * p = burden_in code table test turn (op.Fill most turn) c.middle a (fill_drop h) (omega arith) in
          let j : burden code.ops c.second.middle a ≡ power (height code.ops c.second.middle) + (most - (a + 1)) * p = burden_in code table test turn (op.Fill most turn) c.second.middle a (fill_more h) (omega arith) in
          let r : burden code.ops (c.middle + 1) a ≡ power (height code.ops (c.middle + 1)) + (most - (a + 1)) * p = subst (λ u. burden code.ops u a ≡ power (height code.ops u) + (most - (a + 1)) * p) e j in
          rw (i, r) (omega (arith, power_less (height code.ops (c.middle + 1)) (height code.ops c.middle) d)))

      test_paced : Filling → Plain code table z → PacedAt code table test
      test_paced h y =
          let c = h.turn in
          let k = (call_turns code table test turn (op.Fill most turn) ms line what).rises turn c.middle c.first in
          let e = c.second.first.end in
          let g = c.second.second.end in
          let x = height_is code table test (op.Fill most turn) line h.again in
          let w = within code table test (op.Fill most turn) line h.again in
          let p : ℕ = power (height code.ops turn) in
          let q : Plain code table (test + 1) = subst (Plain code table) h.end y in
          let v = q.low in
          paced_by code table test (op.Fill most turn) line h.again (
            (λ a l.
                let i : burden code.ops turn a ≡ p + (most - (a + 1)) * p = burden_in code table test turn (op.Fill most turn) turn a (fill_in h) (omega arith) in
                let j : burden code.ops test a ≡ power (height code.ops test) + (most - a) * p = burden_test code table test turn (op.Fill most turn) a (fill_test h) in
                let t : (most - a) * p ≡ (most - (a + 1)) * p + p = times_one_more (most - a) (most - (a + 1)) p (omega arith) in
                rw (i, j) (omega (arith, power_more (height code.ops test)))),
            (λ a l.
                let j : burden code.ops test a ≡ power (height code.ops test) + (most - a) * p = burden_test code table test turn (op.Fill most turn) a (fill_test h) in
                rw (burden_is code table (test + 1) a q.outside, j) (omega (arith, power_less (height code.ops (test + 1)) (height code.ops test) (omega arith)))),
          )

      pub fill_heard : Filling → ((at : ℕ) → turn ≤ at → at < test → behind (length code.ops) at ≤ height code.ops at → InFill at → Entries code table at (handlers ms)) → Nests code table (handlers ms) → Heard code table test turn (op.Fill most turn) ms
      fill_heard h e n = record { entries = e; nests = n; few = λ k l. omega arith; low = let l = fill_low h in omega arith }

      pub fill_each : Filling → Starts code table → Heard code table test turn (op.Fill most turn) ms → Further code table (routine_in ms) z → Plain code table z → Each code table turn z
      fill_each h s hs f p =
          let c = h.turn in
          let t = call_turns code table test turn (op.Fill most turn) ms line what in
          let k = t.rises turn c.middle c.first in
          let e = c.second.first.end in
          let g = c.second.second.end in
          let w = h.end in
          join code table turn c.middle z
          (t.each s hs turn c.middle c.first (omega arith) (omega arith) (λ r d u o. let i = f r d u o in let j = i.0 in (omega arith, i.1)) (fill_drop h) (fill_low_drop h))
          (join code table c.middle c.second.middle z (only code table c.middle c.second.middle e (drop_paced h))
          (join code table c.second.middle test z (only code table c.second.middle test g (more_paced h)) (only code table test z w (test_paced h p))))

      pub fill_begins : Filling → burden code.ops test 0 ≡ power (height code.ops test) + most * power (height code.ops turn)
      fill_begins h =
          let q : most - 0 ≡ most = omega arith in
          burden_test code table test turn (op.Fill most turn) 0 (fill_test h) ∙ ap (λ k. power (height code.ops test) + k * power (height code.ops turn)) q

      pub fill_low_test : Filling → Low code table test
      fill_low_test h = let x = height_is code table test (op.Fill most turn) line h.again in omega arith

    pub sweep_low_test : Rounds code line op.Sweep (CallDone code line what ms) test turn z → Low code table test
    sweep_low_test h = let x = height_is code table test (op.Sweep turn) line h.again in omega arith
