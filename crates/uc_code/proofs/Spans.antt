-- The code of scopes, of turns over elements and of guarded blocks is paced.
use Rattle.std.proofs.Common.{◌≡◌, ℕ, suc, pos, ◌+◌, ◌-◌, ◌*◌, ◌^◌, ◌<◌, ◌≤◌, List, ◌∷◌, Bool, true, false, Option, Some, None, length, refl, ap, sym, subst, ◌∙◌, arith}
use Rattle.std.specs.Prelude.{slice_get}
use Rattle.uc_tree.specs.Source.{Expr, CleanUp, ToReturn}
use Rattle.uc_tree.specs.declared.limits.TheConstants.{DESTRUCTOR}
use Rattle.uc_code.specs.declared.op.Op.{Op}
use Rattle.uc_code.specs.declared.op.Op.TheVariants as op
use Rattle.uc_code.specs.declared.rows.Array.{Array as ArrayOf}
use Rattle.uc_code.specs.declared.rows.HandlerRow.{HandlerRow}
use Rattle.uc_code.specs.declared.rows.Cleaning.{Cleaning}
use Rattle.uc_code.specs.declared.rows.Cleaning.TheVariants as cleaning
use Rattle.uc_code.specs.declared.rows.Manner.{Manner}
use Rattle.uc_code.specs.declared.rows.Manner.TheVariants as manner
use Rattle.uc_code.specs.declared.rows.CodeMark.{CodeMark}
use Rattle.uc_code.specs.declared.rows.CodeMark.TheVariants as mark
use Rattle.uc_code.specs.declared.rows.ObjectCall.{ObjectCall}
use Rattle.uc_code.specs.declared.rows.Resource.{Resource}
use Rattle.uc_code.specs.declared.rows.Resource.TheVariants as resource
use Rattle.uc_code.specs.declared.rows.RoutineCode.{RoutineCode}
use Rattle.uc_code.specs.declared.rows.RowKind.TheVariants.{CatchResume, CleanUp as OfCleanUp}
use Rattle.uc_code.specs.declared.rows.ObjectSpot.{ObjectSpot}
use Rattle.uc_code.specs.declared.rows.ObjectSpot.TheVariants as spot
use Rattle.uc_code.specs.ObjectCalls.{Cleans, One as CleansOne, All as CleansAll, TakesDown, IsForgotten, Left, Ended, Freed, Restored}
use Rattle.uc_code.specs.Silent.{silent_clean}
use Rattle.uc_code.specs.Layout.{Laid, handlers, routine_in}
use Rattle.uc_code.specs.Pace.{behind, climb_op, height, power, Test, test_by, burden, waiting, In, Stays, Entry, Entries, Beneath, Nests, Onward, Paced}
use Rattle.uc_code.specs.CodeShapes.{One, Risk, Both, HandlerAt, clean_up, Rounds, OverElements, ScopeOf, BehindPart, LeavesAt}
use Rattle.uc_code.specs.Lowered.{spot_op, close_op, SpotAt, FoundAt, OpenedAt, CalledAt, CallAt, CallDone, CallBuilt, CleanBy, CleanAt, ExitAt, ArrivesAt, PadAt, FilledAt, ScopedAt, BuiltAt}
use Rattle.uc_code.proofs.Heights.{Low, waiting_more, Outside, Plain, Each, Ahead, Around, around_less, further_of, clean_ahead, entries_of, nests_of, paced_by, only, join, within, own_plain, down, jump_plain, jump_plain_at, jump_paced_at, jump_paced, Starts, Further, height_is, RowIn, row_in, Env, AllStay, stay_one, stay_join}
use Rattle.uc_code.proofs.Powers.{power_rises, power_sum_few}
use Rattle.uc_code.proofs.Turning.{In as InTurn, burden_test, waiting_in}
use Rattle.uc_code.proofs.Rounds.{before_turns, test_falls, sweep_test, sweep_in, sweep_low, sweep_low_test, sweep_heard, sweep_each, sweep_begins, fill_test, fill_in, fill_low, fill_low_test, fill_heard, fill_each, fill_begins}
use Rattle.uc_code.proofs.Pacing as pacing

module _ (code : Laid) (table : List RoutineCode) (any : Bool) where
  abbrev Paces : List CodeMark → (ℕ → ℕ → Type 0) → Type 0
  Paces ms B = pacing.Paces code table any ms B

  abbrev Loud : ℕ → ℕ → Type 0
  Loud floor to = pacing.Loud code table any floor to

  onward : (ms : List CodeMark) (o : Op) (line : ℕ) → ((n k h : ℕ) → climb_op n k o h ≡ suc h) → ((k : ℕ) (t : Option Test) → test_by o k t ≡ t) → ((at : ℕ) → Onward code table at (at + 1) → Paced code table at o) → ((from to floor at : ℕ) → In code table from to (at + 1) → Stays code table from to floor at o) → Paces ms (One code o line)
  onward ms o line c t f g = pacing.onward_paces code table any ms o line c t f g

  both : {B C : ℕ → ℕ → Type 0} → (ms : List CodeMark) → Paces ms B → Paces ms C → Paces ms (Both B C)
  both ms b c = pacing.both code table any ms b c

  next_in : (from to a z : ℕ) → z ≡ a + 1 → from ≤ a → z < to → In code table from to (a + 1)
  next_in from to a z e l m = pacing.next_in code table any from to a z e l m

  end_in : (from to a z : ℕ) → a ≤ z → from ≤ a → z < to → In code table from to z
  end_in from to a z k l m = pacing.end_in code table any from to a z k l m

  -- calls of constructors and destructors

  pub spot_paces : (ms : List CodeMark) (line : ℕ) (s : ObjectSpot) → Paces ms (One code (spot_op s) line)
  spot_paces ms line (spot.Local k) = onward ms (op.Local k) line (λ n k h. refl) (λ k t. refl) (λ at l. l) (λ from to floor at i. i)
  spot_paces ms line (spot.This k) = onward ms (op.This k) line (λ n k h. refl) (λ k t. refl) (λ at l. l) (λ from to floor at i. i)

  place_paces : (ms : List CodeMark) (line : ℕ) (s : ObjectSpot) (a : Option ArrayOf) → Paces ms (SpotAt code line s a)
  place_paces ms line s None = spot_paces ms line s
  place_paces ms line s (Some a) =
      both ms (spot_paces ms line s) (both ms (onward ms op.Counted line (λ n k h. refl) (λ k t. refl) (λ at l. l) (λ from to floor at i. i)) (onward ms (op.Index a.length a.size) line (λ n k h. refl) (λ k t. refl) (λ at l. l) (λ from to floor at i. i)))

  found_paces : (ms : List CodeMark) (line : ℕ) (m : Manner) (s : ObjectSpot) (a : Option ArrayOf) → Paces ms (FoundAt code line m s a)
  found_paces ms line manner.Plain s a = place_paces ms line s a
  found_paces ms line (manner.Makes c) s a = place_paces ms line s a
  found_paces ms line manner.Ends s a = both ms (place_paces ms line s a) (onward ms op.Load line (λ n k h. refl) (λ k t. refl) (λ at l. l) (λ from to floor at i. i))
  found_paces ms line (manner.Opens of) s a = place_paces ms line s a
  found_paces ms line (manner.Closes of) s a = both ms (place_paces ms line s a) (onward ms op.Load line (λ n k h. refl) (λ k t. refl) (λ at l. l) (λ from to floor at i. i))

  opened_paces : (ms : List CodeMark) (line : ℕ) (of : Resource) → Paces ms (OpenedAt code line of)
  opened_paces ms line resource.Cluster = both ms (onward ms op.Cluster line (λ n k h. refl) (λ k t. refl) (λ at l. l) (λ from to floor at i. i)) (onward ms op.Bind line (λ n k h. refl) (λ k t. refl) (λ at l. l) (λ from to floor at i. i))
  opened_paces ms line resource.Processor =
      both ms (both ms (onward ms (op.Push (pos 0)) line (λ n k h. refl) (λ k t. refl) (λ at l. l) (λ from to floor at i. i)) (onward ms op.Processor line (λ n k h. refl) (λ k t. refl) (λ at l. l) (λ from to floor at i. i))) (onward ms op.Bind line (λ n k h. refl) (λ k t. refl) (λ at l. l) (λ from to floor at i. i))

  closed_paces : (ms : List CodeMark) (line : ℕ) (of : Resource) → Paces ms (One code (close_op of) line)
  closed_paces ms line resource.Cluster = onward ms op.ClusterEnd line (λ n k h. refl) (λ k t. refl) (λ at l. l) (λ from to floor at i. i)
  closed_paces ms line resource.Processor = onward ms op.ProcessorEnd line (λ n k h. refl) (λ k t. refl) (λ at l. l) (λ from to floor at i. i)

  called_paces : (ms : List CodeMark) (line : ℕ) (m : Manner) (written : Bool) (r : ℕ) → Paces ms (CalledAt code line ms m written r)
  called_paces ms line manner.Plain true r = both ms (pacing.nothing_paces code table any ms) (pacing.call_on_paces code table any ms line r)
  called_paces ms line manner.Plain false r = pacing.calls_behind_paces code table any ms line r
  called_paces ms line (manner.Makes c) true r = both ms (pacing.nothing_paces code table any ms) (pacing.make_paces code table any ms line c r)
  called_paces ms line (manner.Makes c) false r =
      both ms (pacing.nothing_paces code table any ms) (both ms (onward ms (op.Make c r) line (λ n k h. refl) (λ k t. refl) (λ at l. l) (λ from to floor at i. i)) (both ms (onward ms (op.BindMade c r) line (λ n k h. refl) (λ k t. refl) (λ at l. l) (λ from to floor at i. i)) (pacing.calls_behind_paces code table any ms line r)))
  called_paces ms line manner.Ends true r = pacing.enter_paces code table any ms line DESTRUCTOR r
  called_paces ms line manner.Ends false r = both ms (onward ms (op.Enter DESTRUCTOR r) line (λ n k h. refl) (λ k t. refl) (λ at l. l) (λ from to floor at i. i)) (pacing.calls_behind_paces code table any ms line r)
  called_paces ms line (manner.Opens of) written r = opened_paces ms line of
  called_paces ms line (manner.Closes of) written r = closed_paces ms line of

  pub done_paces : (ms : List CodeMark) (line : ℕ) (what : ObjectCall) → Paces ms (CallDone code line what ms)
  done_paces ms line what =
      both ms (both ms (found_paces ms line what.manner what.spot what.array) (called_paces ms line what.manner what.written what.routine)) (onward ms op.Discard line (λ n k h. refl) (λ k t. refl) (λ at l. l) (λ from to floor at i. i))

  -- turns over elements

  -- what is asked of turns that build or destroy
  record Round (line : ℕ) (ms : List CodeMark) (back : ℕ → Op) (T : List CodeMark → ℕ → ℕ → Type 0) : Type 0 where
    pub rises : (row test turn z : ℕ) → Rounds code line back (T (mark.Elements row ∷ ms)) test turn z → turn ≤ test
    pub inside : (row test turn z : ℕ) → Rounds code line back (T (mark.Elements row ∷ ms)) test turn z → InTurn code table test turn (back turn) turn
    pub each : (row test turn z : ℕ) → Rounds code line back (T (mark.Elements row ∷ ms)) test turn z → ((at : ℕ) → turn ≤ at → at < test → behind (length code.ops) at ≤ height code.ops at → InTurn code table test turn (back turn) at → Entries code table at (row ∷ handlers ms)) → Nests code table (row ∷ handlers ms) → Starts code table → Further code table (routine_in ms) z → Plain code table z → Each code table turn z
    pub stays : (row test turn z from to floor : ℕ) → Rounds code line back (T (mark.Elements row ∷ ms)) test turn z → Env code table from to (mark.Elements row ∷ ms) → from ≤ turn → z < to → Loud floor to → AllStay code table from to floor turn z

  -- and of the first count
  abbrev CountFalls : ℕ → List CodeMark → ℕ → ℕ → (ℕ → Op) → (List CodeMark → ℕ → ℕ → Type 0) → Type 0
  CountFalls line ms first most back T = most < 2 ^ 32 → (row test turn z at : ℕ) → Rounds code line back (T (mark.Elements row ∷ ms)) test turn z → Outside code table at → height code.ops at ≡ behind (length code.ops) at → at < turn → (e : ℕ) → burden code.ops test first < burden code.ops at e

  sweep_rises : (line : ℕ) (what : ObjectCall) (ms : List CodeMark) (test turn z : ℕ) → Rounds code line op.Sweep (CallDone code line what ms) test turn z → turn ≤ test
  sweep_rises line what ms test turn z h = (done_paces ms line what).rises turn test h.turn

  built_paces : (ms : List CodeMark) (line : ℕ) (what : ObjectCall) → Paces ms (CallAt code line what ms)
  built_paces ms line what = both ms (found_paces ms line what.manner what.spot what.array) (called_paces ms line what.manner what.written what.routine)

  fill_rises : (line most : ℕ) (what : ObjectCall) (ms : List CodeMark) (test turn z : ℕ) → Rounds code line (op.Fill most) (CallBuilt code line what ms) test turn z → turn ≤ test
  fill_rises line most what ms test turn z h =
      let c = h.turn in
      let k = (built_paces ms line what).rises turn c.middle c.first in
      let e = c.second.first.end in
      let g = c.second.second.end in
      omega arith

  -- what is asked of those that destroy what stands when an event comes
  record Undo (line : ℕ) (ms : List CodeMark) (D : List CodeMark → ℕ → ℕ → Type 0) : Type 0 where
    pub test : (row test turn z : ℕ) → Rounds code line op.Sweep (D (mark.Elements row ∷ ms)) test turn z → InTurn code table test turn (op.Sweep turn) test
    pub low : (row test turn z : ℕ) → Rounds code line op.Sweep (D (mark.Elements row ∷ ms)) test turn z → Low code table turn

  sweep_undo : (line : ℕ) (ms : List CodeMark) (what : ObjectCall) → Undo line ms (CallDone code line what)
  sweep_undo line ms what = record {
    test = λ row test turn z h. sweep_test code table line (mark.Elements row ∷ ms) what test turn z h;
    low = λ row test turn z h. sweep_low code table line (mark.Elements row ∷ ms) what test turn z h;
  }

  clean_is_none : {X : Type 0} → OfCleanUp ≡ CatchResume → X
  clean_is_none e = absurd (cc)

  -- the row of a clean-up

  clean_row : (row entry : ℕ) (r : HandlerRow) (h : HandlerAt code row (clean_up entry)) → slice_get code.rows row ≡ Some r → r ≡ h.row
  clean_row row entry r h e = let f : Some r ≡ Some h.row = sym e ∙ h.there in cc

  row_pays : (at row entry : ℕ) → HandlerAt code row (clean_up entry) → ((e : ℕ) → e < 2 ^ 32 → burden code.ops entry e ≤ waiting code.ops at e) → Entry code table at row
  row_pays at row entry h b = λ r q e few.
      let f : r.entry ≡ entry = ap (λ (x : HandlerRow). x.entry) (clean_row row entry r h q) ∙ h.entry in
      rw f (b e few)

  row_nests : (row entry : ℕ) (ns : List ℕ) → HandlerAt code row (clean_up entry) → (r : HandlerRow) → slice_get code.rows row ≡ Some r → r.kind ≡ CatchResume → (r.rest ≤ length ns) × Beneath code table r.entry r.rest ns
  row_nests row entry ns h r q e =
      let f : h.row.kind ≡ CatchResume = ap (λ (x : HandlerRow). x.kind) (sym (clean_row row entry r h q)) ∙ e in
      clean_is_none (sym h.kind ∙ f)

  sweep_round : (line : ℕ) (ms : List CodeMark) (what : ObjectCall) → Round line ms op.Sweep (CallDone code line what)
  sweep_round line ms what = record {
    rises = λ row test turn z h. sweep_rises line what (mark.Elements row ∷ ms) test turn z h;
    inside = λ row test turn z h. sweep_in code table line (mark.Elements row ∷ ms) what test turn z h;
    each = λ row test turn z h k n s f p. sweep_each code table line (mark.Elements row ∷ ms) what test turn z h s (sweep_heard code table line (mark.Elements row ∷ ms) what test turn z h k n) f p;
    stays = λ row test turn z from to floor h n l m x.
        let k = sweep_rises line what (mark.Elements row ∷ ms) test turn z h in
        let e = h.end in
        stay_join code table from to floor turn test z ((done_paces (mark.Elements row ∷ ms) line what).stays from to floor turn test h.turn n l (omega arith) x)
        (stay_one code table from to floor test z (op.Sweep turn) line h.again h.end (end_in from to turn turn (omega arith) l (omega arith), next_in from to test z h.end (omega arith) m));
  }

  sweep_count : (line : ℕ) (ms : List CodeMark) (n : ℕ) (what : ObjectCall) → CountFalls line ms n n op.Sweep (CallDone code line what)
  sweep_count line ms n what few row test turn z at h o e l =
      let ns : List CodeMark = mark.Elements row ∷ ms in
      let r = sweep_rises line what ns test turn z h in
      let w = within code table test (op.Sweep turn) line h.again in
      test_falls code table test turn (op.Sweep turn) at n n (sweep_test code table line ns what test turn z h) o (sweep_low_test code table line ns what test turn z h) (sweep_low code table line ns what test turn z h) e l (omega arith) (omega arith) w few (sweep_begins code table line ns what test turn z n h)

  fill_round : (line : ℕ) (ms : List CodeMark) (most : ℕ) (few : most < 2 ^ 32) (what : ObjectCall) → Round line ms (op.Fill most) (CallBuilt code line what)
  fill_round line ms most few what = record {
    rises = λ row test turn z h. fill_rises line most what (mark.Elements row ∷ ms) test turn z h;
    inside = λ row test turn z h. fill_in code table line (mark.Elements row ∷ ms) what test turn z most few h;
    each = λ row test turn z h k n s f p. fill_each code table line (mark.Elements row ∷ ms) what test turn z most few h s (fill_heard code table line (mark.Elements row ∷ ms) what test turn z most few h k n) f p;
    stays = λ row test turn z from to floor h n l m x.
        let k = fill_rises line most what (mark.Elements row ∷ ms) test turn z h in
        let e = h.end in
        let c = h.turn in
        let i = (built_paces (mark.Elements row ∷ ms) line what).rises turn c.middle c.first in
        let f = c.second.first.end in
        let g = c.second.second.end in
        stay_join code table from to floor turn c.middle z ((built_paces (mark.Elements row ∷ ms) line what).stays from to floor turn c.middle c.first n l (omega arith) x) (
        stay_join code table from to floor c.middle c.second.middle z (stay_one code table from to floor c.middle c.second.middle op.Discard line c.second.first.here c.second.first.end (next_in from to c.middle c.second.middle c.second.first.end (omega arith) (omega arith))) (
        stay_join code table from to floor c.second.middle test z (stay_one code table from to floor c.second.middle test op.More line c.second.second.here c.second.second.end (next_in from to c.second.middle test c.second.second.end (omega arith) (omega arith)))
        (stay_one code table from to floor test z (op.Fill most turn) line h.again h.end (end_in from to turn turn (omega arith) l (omega arith), next_in from to test z h.end (omega arith) m))));
  }

  fill_count : (line : ℕ) (ms : List CodeMark) (most : ℕ) (what : ObjectCall) → CountFalls line ms 0 most (op.Fill most) (CallBuilt code line what)
  fill_count line ms most what few row test turn z at h o e l =
      let ns : List CodeMark = mark.Elements row ∷ ms in
      let r = fill_rises line most what ns test turn z h in
      let w = within code table test (op.Fill most turn) line h.again in
      test_falls code table test turn (op.Fill most turn) at 0 most (fill_test code table line ns what test turn z most few h) o (fill_low_test code table line ns what test turn z most few h) (fill_low code table line ns what test turn z most few h) e l (omega arith) (omega arith) w few (fill_begins code table line ns what test turn z most few h)

  unwind_plain : (ms : List CodeMark) (line a z : ℕ) → Risk code ms op.Unwind line a z → Plain code table z → Plain code table a
  unwind_plain ms line a z h p = own_plain code table a op.Unwind line h.here (λ n k x. refl) (λ k t. refl) (subst (Outside code table) h.end p.outside)

  module _ (line : ℕ) (ms : List CodeMark) (first most : ℕ) (back : ℕ → Op) (T D : List CodeMark → ℕ → ℕ → Type 0) (t : most < 2 ^ 32 → Round line ms back T) (f : CountFalls line ms first most back T) (d : Round line ms op.Sweep D) (u : Undo line ms D) where
    elements_rise : (a z : ℕ) → OverElements code line ms first most back op.Sweep T D a z → (a < z)
    elements_rise a z h =
        let k = (t h.few).rises h.row h.test (a + 1) (h.test + 1) h.rounds in
        let l = d.rises h.row h.entry (h.test + 2) h.end h.undoes in
        let e = h.undoes.end in
        let u = h.unwind.end in
        omega arith

    count_outside : (a z : ℕ) → OverElements code line ms first most back op.Sweep T D a z → Outside code table a
    count_outside a z h = before_turns code table h.test (a + 1) (back (a + 1)) a (op.Count first h.test) line h.begin (λ k x. refl) refl ((t h.few).inside h.row h.test (a + 1) (h.test + 1) h.rounds)

    leave_outside : (a z : ℕ) (h : OverElements code line ms first most back op.Sweep T D a z) → Outside code table (h.test + 1)
    leave_outside a z h = before_turns code table h.entry (h.test + 2) (op.Sweep (h.test + 2)) (h.test + 1) (op.Jump z) line h.leave (λ k x. refl) (omega arith) (d.inside h.row h.entry (h.test + 2) h.end h.undoes)

    -- an event in a turn leads to the test of the turns that undo
    undo_small : (a z : ℕ) (h : OverElements code line ms first most back op.Sweep T D a z) (e : ℕ) → e < 2 ^ 32 → burden code.ops h.entry e ≤ 2 ^ 32 * power (behind (length code.ops) (h.test + 2))
    undo_small a z h e few =
        let l = d.rises h.row h.entry (h.test + 2) h.end h.undoes in
        let x = height_is code table h.entry (op.Sweep (h.test + 2)) line h.undoes.again in
        let w = within code table h.entry (op.Sweep (h.test + 2)) line h.undoes.again in
        let y = u.low h.row h.entry (h.test + 2) h.end h.undoes in
        let v : burden code.ops h.entry e ≡ power (height code.ops h.entry) + e * power (height code.ops (h.test + 2)) = burden_test code table h.entry (h.test + 2) (op.Sweep (h.test + 2)) e (u.test h.row h.entry (h.test + 2) h.end h.undoes) in
        rw v (power_sum_few e (height code.ops h.entry) (height code.ops (h.test + 2)) (behind (length code.ops) (h.test + 2)) few (omega arith) y)

    first_entries : (a z at : ℕ) (h : OverElements code line ms first most back op.Sweep T D a z) → Around code table ms z → at < h.test → behind (length code.ops) at ≤ height code.ops at → Entries code table at (h.row ∷ handlers ms)
    first_entries a z at h r l g =
        let e = elements_rise a z h in
        let w = within code table h.test (back (a + 1)) line h.rounds.again in
        let k = d.rises h.row h.entry (h.test + 2) h.end h.undoes in
        let i = h.undoes.end in
        let j = h.unwind.end in
        let b : (x : ℕ) → x < 2 ^ 32 → burden code.ops h.entry x ≤ waiting code.ops at x = λ x few.
        let m = waiting_more code.ops at x (behind (length code.ops) (h.test + 2)) (omega arith) in
        let y = undo_small a z h x few in
        omega arith in
        (row_pays at h.row h.entry h.handler b, entries_of code table ms at (omega arith) g (around_less code table ms (at + 1) z (omega arith) r))

    then_entries : (a z at : ℕ) (h : OverElements code line ms first most back op.Sweep T D a z) → Around code table ms z → h.test + 2 ≤ at → at < h.entry → behind (length code.ops) at ≤ height code.ops at → InTurn code table h.entry (h.test + 2) (op.Sweep (h.test + 2)) at → Entries code table at (h.row ∷ handlers ms)
    then_entries a z at h r n l g i =
        let q = height_is code table h.entry (op.Sweep (h.test + 2)) line h.undoes.again in
        let w = within code table h.entry (op.Sweep (h.test + 2)) line h.undoes.again in
        let y = h.undoes.end in
        let j = h.unwind.end in
        let b : (x : ℕ) → x < 2 ^ 32 → burden code.ops h.entry x ≤ waiting code.ops at x = λ x few.
        let m = power_rises (height code.ops h.entry) (height code.ops at - 1) (omega arith) in
        let v : burden code.ops h.entry x ≡ power (height code.ops h.entry) + x * power (height code.ops (h.test + 2)) = burden_test code table h.entry (h.test + 2) (op.Sweep (h.test + 2)) x (u.test h.row h.entry (h.test + 2) h.end h.undoes) in
        let o : waiting code.ops at x ≡ 2 ^ 32 * power (height code.ops at - 1) + x * power (height code.ops (h.test + 2)) = waiting_in code table h.entry (h.test + 2) (op.Sweep (h.test + 2)) at x i l in
        omega arith in
        (row_pays at h.row h.entry h.handler b, entries_of code table ms at (omega arith) g (around_less code table ms (at + 1) z (omega arith) r))

    elements_paces : Paces ms (OverElements code line ms first most back op.Sweep T D)
    elements_paces = record {
      rises = λ a z h. let l = elements_rise a z h in omega arith;
      plain = λ a z h p. record { low = let e = height_is code table a (op.Count first h.test) line h.begin in omega arith; outside = count_outside a z h };
      each = λ q a z h r p.
          let k = (t h.few).rises h.row h.test (a + 1) (h.test + 1) h.rounds in
          let l = d.rises h.row h.entry (h.test + 2) h.end h.undoes in
          let e = h.undoes.end in
          let v = h.unwind.end in
          let x = height_is code table a (op.Count first h.test) line h.begin in
          let o = leave_outside a z h in
          let w = unwind_plain ms line h.end z h.unwind p in
          let g = further_of code table ms z r in
          let n : Nests code table (h.row ∷ handlers ms) = (row_nests h.row h.entry (handlers ms) h.handler, nests_of code table ms z r) in
          let jumped : Plain code table (h.test + 1) = jump_plain_at code table (h.test + 1) z line h.leave o in
          join code table a (a + 1) z (only code table a (a + 1) refl (paced_by code table a (op.Count first h.test) line h.begin (f h.few h.row h.test (a + 1) (h.test + 1) a h.rounds (count_outside a z h) x (omega arith)))) (
          join code table (a + 1) (h.test + 1) z ((t h.few).each h.row h.test (a + 1) (h.test + 1) h.rounds (λ at c y i s. first_entries a z at h r y i) n q (λ m c y s. let i = g m c y s in let j = i.0 in (omega arith, i.1)) jumped) (
          join code table (h.test + 1) (h.test + 2) z (only code table (h.test + 1) (h.test + 2) (omega arith) (jump_paced_at code table (h.test + 1) z line h.leave (omega arith) o p)) (
          join code table (h.test + 2) h.end z (d.each h.row h.entry (h.test + 2) h.end h.undoes (λ at c y i s. then_entries a z at h r c y i s) n q (λ m c y s. let i = g m c y s in let j = i.0 in (omega arith, i.1)) w)
          ((pacing.unwind_paces code table any ms line).each q h.end z h.unwind r p))));
      stays = λ from to floor a z h n l m x.
          let k = (t h.few).rises h.row h.test (a + 1) (h.test + 1) h.rounds in
          let g = d.rises h.row h.entry (h.test + 2) h.end h.undoes in
          let e = h.undoes.end in
          let v = h.unwind.end in
          let i = row_in code table from to h.row (clean_up h.entry) h.handler (end_in from to a h.entry (omega arith) l (omega arith)) in
          stay_join code table from to floor a (a + 1) z (stay_one code table from to floor a (a + 1) (op.Count first h.test) line h.begin refl (end_in from to a h.test (omega arith) l (omega arith))) (
          stay_join code table from to floor (a + 1) (h.test + 1) z ((t h.few).stays h.row h.test (a + 1) (h.test + 1) from to floor h.rounds (i, n) (omega arith) (omega arith) x) (
          stay_join code table from to floor (h.test + 1) (h.test + 2) z (stay_one code table from to floor (h.test + 1) (h.test + 2) (op.Jump z) line h.leave (omega arith) (end_in from to a z (omega arith) l m)) (
          stay_join code table from to floor (h.test + 2) h.end z (d.stays h.row h.entry (h.test + 2) h.end from to floor h.undoes (i, n) (omega arith) (omega arith) x)
          ((pacing.unwind_paces code table any ms line).stays from to floor h.end z h.unwind n (omega arith) m x))));
    }

  clean_by_paces : (ms : List CodeMark) (line : ℕ) (a : Option ArrayOf) (what : ObjectCall) → Paces ms (CleanBy code line a what ms)
  clean_by_paces ms line None what = done_paces ms line what
  clean_by_paces ms line (Some a) what =
      elements_paces line ms a.length a.length op.Sweep (CallDone code line what) (CallDone code line what) (λ few. sweep_round line ms what) (sweep_count line ms a.length what) (sweep_round line ms what) (sweep_undo line ms what)

  -- a mutex call is left in what is not silent alone
  abbrev pub silent_by : Cleaning → Type 0
  silent_by (cleaning.Call what) = Unit {0}
  silent_by cleaning.TakeDown = Unit {0}
  silent_by cleaning.Forget = Unit {0}
  silent_by cleaning.Leave = ⊥
  silent_by cleaning.End = Unit {0}
  silent_by (cleaning.Free main) = Unit {0}
  silent_by (cleaning.Restore cell) = Unit {0}

  loud : (b : Bool) → (b ≡ false → ⊥) → b ≡ true
  loud true f = refl
  loud false f = absurd (f refl)

  silent_of : (c : CleanUp) (what : Cleaning) → Cleans c what → silent_clean c → silent_by what
  silent_of c what (CleansOne e w k n) s = tt
  silent_of c what (CleansAll n size e w k i) s = tt
  silent_of c what TakesDown s = tt
  silent_of c what IsForgotten s = tt
  silent_of c what Left s = s
  silent_of c what Ended s = tt
  silent_of c what (Freed main) s = tt
  silent_of c what (Restored cell) s = tt

  pub clean_paces : (ms : List CodeMark) (line : ℕ) (what : Cleaning) → (any ≡ false → silent_by what) → Paces ms (CleanAt code line what ms)
  clean_paces ms line (cleaning.Call what) f = clean_by_paces ms line what.array what
  clean_paces ms line cleaning.TakeDown f = onward ms op.UnwindCoroutine line (λ n k h. refl) (λ k t. refl) (λ at l. l) (λ from to floor at i. i)
  clean_paces ms line cleaning.Forget f = onward ms op.Forget line (λ n k h. refl) (λ k t. refl) (λ at l. l) (λ from to floor at i. i)
  clean_paces ms line cleaning.Leave f = pacing.leaves_paces code table any (loud any f) ms line
  clean_paces ms line cleaning.End f = onward ms op.Gone line (λ n k h. refl) (λ k t. refl) (λ at l. l) (λ from to floor at i. i)
  clean_paces ms line (cleaning.Free None) f = onward ms op.Made line (λ n k h. refl) (λ k t. refl) (λ at l. l) (λ from to floor at i. i)
  clean_paces ms line (cleaning.Free (Some r)) f = onward ms (op.Spawn r) line (λ n k h. refl) (λ k t. refl) (λ at l. l) (λ from to floor at i. i)
  clean_paces ms line (cleaning.Restore cell) f = onward ms (op.Restore cell) line (λ n k h. refl) (λ k t. refl) (λ at l. l) (λ from to floor at i. i)

  pub filled_paces : (ms : List CodeMark) (line n : ℕ) (b d : Expr) → Paces ms (FilledAt code line ms n b d)
  filled_paces ms line n b d =
      let all = λ (x : ObjectCall) (y : ObjectCall). elements_paces line ms 0 n (op.Fill n) (CallBuilt code line x) (CallDone code line y) (λ few. fill_round line ms n few x) (fill_count line ms n x) (sweep_round line ms y) (sweep_undo line ms y) in
      record {
        rises = λ a z h. (all h.builder h.destroyer).rises a z h.filled;
        plain = λ a z h p. (all h.builder h.destroyer).plain a z h.filled p;
        each = λ q a z h r p. (all h.builder h.destroyer).each q a z h.filled r p;
        stays = λ from to floor a z h n l m x. (all h.builder h.destroyer).stays from to floor a z h.filled n l m x;
      }

  -- scopes of objects, and what follows a part

  module _ (ms : List CodeMark) (line : ℕ) (M : ℕ → CodeMark) (C U : ℕ → ℕ → Type 0) (B : List CodeMark → ℕ → ℕ → Type 0) (m : (row z : ℕ) → Ahead code table row z (handlers ms) → Around code table ms z → Around code table (M row ∷ ms) z) (i : (from to row : ℕ) → RowIn code table from to row → Env code table from to ms → Env code table from to (M row ∷ ms)) (c : Paces ms C) (u : Paces ms U) (b : (ns : List CodeMark) → Paces ns (B ns)) where
    unwinding_paces : Paces ms (Both C (Risk code ms op.Unwind line))
    unwinding_paces = both ms c (pacing.unwind_paces code table any ms line)

    past_unwind : (a z : ℕ) → Both C (Risk code ms op.Unwind line) (a + 1) z → a < z
    past_unwind a z h = let k = c.rises (a + 1) h.middle h.first in let e = h.second.end in omega arith

    scope_paces : Paces ms (ScopeOf code line ms M C U B)
    scope_paces = record {
      rises = λ a z h.
          let k = (b (M h.row ∷ ms)).rises a h.body_end h.body in
          let l = c.rises h.body_end h.clean_end h.clean in
          let r = u.rises (h.clean_end + 1) z h.unwinds in
          omega arith;
      plain = λ a z h p.
          let w = u.plain (h.clean_end + 1) z h.unwinds p in
          (b (M h.row ∷ ms)).plain a h.body_end h.body (c.plain h.body_end h.clean_end h.clean (jump_plain code table h.clean_end z line h.leave w.outside));
      each = λ q a z h r p.
          let k = (b (M h.row ∷ ms)).rises a h.body_end h.body in
          let l = c.rises h.body_end h.clean_end h.clean in
          let s = u.rises (h.clean_end + 1) z h.unwinds in
          let w = u.plain (h.clean_end + 1) z h.unwinds p in
          let left = jump_plain code table h.clean_end z line h.leave w.outside in
          let cleaned = c.plain h.body_end h.clean_end h.clean left in
          join code table a h.body_end z ((b (M h.row ∷ ms)).each q a h.body_end h.body (m h.row h.body_end (clean_ahead code table h.row (h.clean_end + 1) h.body_end (handlers ms) h.handler w (omega arith)) (around_less code table ms h.body_end z (omega arith) r)) cleaned) (
          join code table h.body_end h.clean_end z (c.each q h.body_end h.clean_end h.clean (around_less code table ms h.clean_end z (omega arith) r) left) (
          join code table h.clean_end (h.clean_end + 1) z (only code table h.clean_end (h.clean_end + 1) refl (jump_paced code table h.clean_end z line h.leave (omega (arith, u.rises (h.clean_end + 1) z h.unwinds)) w.outside p))
          (u.each q (h.clean_end + 1) z h.unwinds r p)));
      stays = λ from to floor a z h n x y v.
          let k = (b (M h.row ∷ ms)).rises a h.body_end h.body in
          let l = c.rises h.body_end h.clean_end h.clean in
          let s = u.rises (h.clean_end + 1) z h.unwinds in
          let g = row_in code table from to h.row (clean_up (h.clean_end + 1)) h.handler (end_in from to a (h.clean_end + 1) (omega arith) x (omega arith)) in
          stay_join code table from to floor a h.body_end z ((b (M h.row ∷ ms)).stays from to floor a h.body_end h.body (i from to h.row g n) x (omega arith) v) (
          stay_join code table from to floor h.body_end h.clean_end z (c.stays from to floor h.body_end h.clean_end h.clean n (omega arith) (omega arith) v) (
          stay_join code table from to floor h.clean_end (h.clean_end + 1) z (stay_one code table from to floor h.clean_end (h.clean_end + 1) (op.Jump z) line h.leave refl (end_in from to a z (omega arith) x y))
          (u.stays from to floor (h.clean_end + 1) z h.unwinds n (omega arith) y v)));
    }

    part_paces : Paces ms (BehindPart code line ms M C B)
    part_paces = record {
      rises = λ a z h.
          let k = (b (M h.row ∷ ms)).rises a h.body_end h.body in
          let r = unwinding_paces.rises (h.body_end + 1) z h.unwinds in
          omega arith;
      plain = λ a z h p.
          let u = unwinding_paces.plain (h.body_end + 1) z h.unwinds p in
          (b (M h.row ∷ ms)).plain a h.body_end h.body (jump_plain code table h.body_end z line h.leave u.outside);
      each = λ q a z h r p.
          let k = (b (M h.row ∷ ms)).rises a h.body_end h.body in
          let s = unwinding_paces.rises (h.body_end + 1) z h.unwinds in
          let u = unwinding_paces.plain (h.body_end + 1) z h.unwinds p in
          let left = jump_plain code table h.body_end z line h.leave u.outside in
          join code table a h.body_end z ((b (M h.row ∷ ms)).each q a h.body_end h.body (m h.row h.body_end (clean_ahead code table h.row (h.body_end + 1) h.body_end (handlers ms) h.handler u (omega arith)) (around_less code table ms h.body_end z (omega arith) r)) left) (
          join code table h.body_end (h.body_end + 1) z (only code table h.body_end (h.body_end + 1) refl (jump_paced code table h.body_end z line h.leave (omega (arith, past_unwind h.body_end z h.unwinds)) u.outside p))
          (unwinding_paces.each q (h.body_end + 1) z h.unwinds r p));
      stays = λ from to floor a z h n x y v.
          let k = (b (M h.row ∷ ms)).rises a h.body_end h.body in
          let s = past_unwind h.body_end z h.unwinds in
          let g = row_in code table from to h.row (clean_up (h.body_end + 1)) h.handler (end_in from to a (h.body_end + 1) (omega arith) x (omega arith)) in
          stay_join code table from to floor a h.body_end z ((b (M h.row ∷ ms)).stays from to floor a h.body_end h.body (i from to h.row g n) x (omega arith) v) (
          stay_join code table from to floor h.body_end (h.body_end + 1) z (stay_one code table from to floor h.body_end (h.body_end + 1) (op.Jump z) line h.leave refl (end_in from to a z (omega arith) x y))
          (unwinding_paces.stays from to floor (h.body_end + 1) z h.unwinds n (omega arith) y v));
    }

  -- pads

  undone_paces : (ms : List CodeMark) (line : ℕ) (C : ℕ → ℕ → Type 0) → Paces ms C → Paces ms (Both C (Risk code ms op.Unwind line))
  undone_paces ms line C c = both ms c (pacing.unwind_paces code table any ms line)

  arrives_paces : any ≡ true → (ms : List CodeMark) (line : ℕ) → Paces ms (ExitAt code ToReturn ms) → Paces ms (ArrivesAt code line ms)
  arrives_paces t ms line x =
      let l = pacing.leaves_paces code table any t ms line in
      let unwinds = undone_paces ms line (LeavesAt code ms line) l in
      let returns = both ms l x in
      record {
        rises = λ a z h. let k = unwinds.rises (a + 1) h.arrived h.unwinds in let r = returns.rises h.arrived z h.returns in omega arith;
        plain = λ a z h p.
            let q = unwinds.plain (a + 1) h.arrived h.unwinds (returns.plain h.arrived z h.returns p) in
            own_plain code table a (op.Arrive h.arrived) line h.arrives (λ n k y. refl) (λ k y. refl) q.outside;
        each = λ q a z h r p.
            let k = unwinds.rises (a + 1) h.arrived h.unwinds in
            let i = returns.rises h.arrived z h.returns in
            let far = returns.plain h.arrived z h.returns p in
            let near = unwinds.plain (a + 1) h.arrived h.unwinds far in
            let o = own_plain code table a (op.Arrive h.arrived) line h.arrives (λ n k y. refl) (λ k y. refl) near.outside in
            let e = height_is code table a (op.Arrive h.arrived) line h.arrives in
            let w = within code table a (op.Arrive h.arrived) line h.arrives in
            let f = far.low in
            let g = near.low in
            join code table a (a + 1) z (only code table a (a + 1) refl (paced_by code table a (op.Arrive h.arrived) line h.arrives (down code table a h.arrived o.outside far.outside (omega arith), down code table a (a + 1) o.outside near.outside (omega arith)))) (
            join code table (a + 1) h.arrived z (unwinds.each q (a + 1) h.arrived h.unwinds (around_less code table ms h.arrived z (omega arith) r) far)
            (returns.each q h.arrived z h.returns r p));
        stays = λ from to floor a z h n l m v.
            let k = unwinds.rises (a + 1) h.arrived h.unwinds in
            let i = returns.rises h.arrived z h.returns in
            stay_join code table from to floor a (a + 1) z (stay_one code table from to floor a (a + 1) (op.Arrive h.arrived) line h.arrives refl (end_in from to a h.arrived (omega arith) l (omega arith), next_in from to a (a + 1) refl l (omega arith))) (
            stay_join code table from to floor (a + 1) h.arrived z (unwinds.stays from to floor (a + 1) h.arrived h.unwinds n (omega arith) (omega arith) v)
            (returns.stays from to floor h.arrived z h.returns n (omega arith) m v));
      }

  pad_paces : (ms : List CodeMark) (line : ℕ) (what : Cleaning) → (any ≡ false → silent_by what) → (any ≡ true → Paces ms (ExitAt code ToReturn ms)) → Paces ms (PadAt code line what ms)
  pad_paces ms line (cleaning.Call what) f x = undone_paces ms line (CleanAt code line (cleaning.Call what) ms) (clean_paces ms line (cleaning.Call what) f)
  pad_paces ms line cleaning.TakeDown f x = undone_paces ms line (CleanAt code line cleaning.TakeDown ms) (clean_paces ms line cleaning.TakeDown f)
  pad_paces ms line cleaning.Forget f x = undone_paces ms line (CleanAt code line cleaning.Forget ms) (clean_paces ms line cleaning.Forget f)
  pad_paces ms line cleaning.Leave f x = arrives_paces (loud any f) ms line (x (loud any f))
  pad_paces ms line cleaning.End f x = undone_paces ms line (CleanAt code line cleaning.End ms) (clean_paces ms line cleaning.End f)
  pad_paces ms line (cleaning.Free main) f x = undone_paces ms line (One code op.GiveUp line) (onward ms op.GiveUp line (λ n k h. refl) (λ k t. refl) (λ at l. l) (λ from to floor at i. i))
  pad_paces ms line (cleaning.Restore cell) f x = undone_paces ms line (CleanAt code line (cleaning.Restore cell) ms) (clean_paces ms line (cleaning.Restore cell) f)

  pub scoped_paces : (ms : List CodeMark) (line : ℕ) (c : CleanUp) (B : List CodeMark → ℕ → ℕ → Type 0) → (any ≡ false → silent_clean c) → (any ≡ true → Paces ms (ExitAt code ToReturn ms)) → ((ns : List CodeMark) → Paces ns (B ns)) → Paces ms (ScopedAt code line ms c B)
  scoped_paces ms line c B f e b =
      let all = λ (what : Cleaning) (k : Cleans c what). scope_paces ms line (λ row. mark.Clean what line row) (CleanAt code line what ms) (PadAt code line what ms) B (λ row z x r. (x, r)) (λ from to row x n. (x, n)) (clean_paces ms line what (λ i. silent_of c what k (f i))) (pad_paces ms line what (λ i. silent_of c what k (f i)) e) b in
      record {
        rises = λ a z h. (all h.what h.cleans).rises a z h.scope;
        plain = λ a z h p. (all h.what h.cleans).plain a z h.scope p;
        each = λ q a z h r p. (all h.what h.cleans).each q a z h.scope r p;
        stays = λ from to floor a z h n l m x. (all h.what h.cleans).stays from to floor a z h.scope n l m x;
      }

  pub built_part_paces : (ms : List CodeMark) (line : ℕ) (c : CleanUp) (B : List CodeMark → ℕ → ℕ → Type 0) → (any ≡ false → silent_clean c) → ((ns : List CodeMark) → Paces ns (B ns)) → Paces ms (BuiltAt code line ms c B)
  built_part_paces ms line c B f b =
      let all = λ (what : Cleaning) (k : Cleans c what). part_paces ms line (λ row. mark.Part row) (CleanAt code line what ms) (Both (CleanAt code line what ms) (Risk code ms op.Unwind line)) B (λ row z x r. (x, r)) (λ from to row x n. (x, n)) (clean_paces ms line what (λ i. silent_of c what k (f i))) (undone_paces ms line (CleanAt code line what ms) (clean_paces ms line what (λ i. silent_of c what k (f i)))) b in
      record {
        rises = λ a z h. (all h.what h.cleans).rises a z h.part;
        plain = λ a z h p. (all h.what h.cleans).plain a z h.part p;
        each = λ q a z h r p. (all h.what h.cleans).each q a z h.part r p;
        stays = λ from to floor a z h n l m x. (all h.what h.cleans).stays from to floor a z h.part n l m x;
      }
