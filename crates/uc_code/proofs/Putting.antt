-- How what is added to a draft is joined, and the code of calls, clean-ups and exits.
use Rattle.std.proofs.Common.{◌≡◌, ℕ, pos, ◌+◌, ◌*◌, ◌≤◌, ◌<◌, List, [], ◌∷◌, length, length-append, Bool, true, false, Option, Some, None, refl, ap, sym, subst, ◌∙◌, arith}
use Rattle.uc_code.specs.declared.op.Op.{Op}
use Rattle.uc_code.specs.declared.op.Op.TheVariants as op
use Rattle.uc_code.specs.declared.rows.Array.{Array}
use Rattle.uc_code.specs.declared.rows.Cleaning.{Cleaning}
use Rattle.uc_code.specs.declared.rows.Cleaning.TheVariants as cleaning
use Rattle.uc_code.specs.declared.rows.Manner.{Manner}
use Rattle.uc_code.specs.declared.rows.Manner.TheVariants as manner
use Rattle.uc_code.specs.declared.rows.CodeMark.{CodeMark}
use Rattle.uc_code.specs.declared.rows.CodeMark.TheVariants as mark
use Rattle.uc_code.specs.declared.rows.ObjectCall.{ObjectCall}
use Rattle.uc_code.specs.declared.rows.Resource.{Resource}
use Rattle.uc_code.specs.declared.rows.Resource.TheVariants as resource
use Rattle.uc_code.specs.declared.rows.ObjectSpot.{ObjectSpot}
use Rattle.uc_tree.specs.declared.limits.TheConstants.{DESTRUCTOR}
use Rattle.uc_code.specs.Drafts.{Draft, ops_with}
use Rattle.uc_code.specs.Layout.{Laid, laid_in, routine_in}
use Rattle.uc_code.specs.CodeShapes.{OpAt, One, Risk, CallsBehind, Both, OverElements, PollAt, LeavesAt, Stable}
use Rattle.uc_code.specs.Lowered.{spot_op, close_op, SpotAt, FoundAt, OpenedAt, CalledAt, CallAt, CallDone, CleanBy, CleanAt, KeepAt, KeepsAt}
use Rattle.uc_code.specs.OpenRows.{StandsBehind, CleansBehind}
use Rattle.uc_code.specs.RowCounts.{cleaning_rows}
use Rattle.uc_code.specs.Emits.{Puts, place_length, called_length, manner_length, done_length, clean_by, clean_length}
use Rattle.uc_code.proofs.Growth.{rows_same, rows_then}
use Rattle.uc_code.proofs.Patches.{kept_with, one_with}
use Rattle.uc_code.proofs.Stable.{elements_stable, kept_then, kept_same, nothing_stable, one_stable, risk_stable, calls_behind_stable, leaves_stable, both_stable}

-- a draft with other ops and rows, and once more

pub rest_then : (a b c : Draft) → b ≡ record a { ops = b.ops; rows = b.rows; settled = b.settled } → c ≡ record b { ops = c.ops; rows = c.rows; settled = c.settled } → c ≡ record a { ops = c.ops; rows = c.rows; settled = c.settled }
rest_then a b c h k = k ∙ ap (λ d. let e : Draft = record d { ops = c.ops; rows = c.rows; settled = c.settled } in e) h

pub puts_put : (o : Op) (line : ℕ) (old new : Draft) → new ≡ record old { ops = ops_with old.ops o line } → Puts 0 1 (λ code. One code o line) old new
puts_put o line old new e = subst (λ (d : Draft). Puts 0 1 (λ code. One code o line) old d) (sym e) (record {
  rest = refl;
  kept = kept_with (laid_in old) o line;
  rows = rows_same refl;
  room = omega (arith, length-append old.ops (record { op = o; line = line } ∷ []));
  code = one_with (laid_in old) o line;
})

pub puts_risk : (o : Op) (line : ℕ) (old new : Draft) → new ≡ record old { ops = ops_with old.ops o line } → Risk (laid_in new) old.marks o line (length old.ops) (length new.ops) → Puts 0 1 (λ code. Risk code old.marks o line) old new
puts_risk o line old new e r =
    let p = puts_put o line old new e in
    record { rest = p.rest; kept = p.kept; rows = p.rows; room = p.room; code = r }

pub puts_more : {r m n : ℕ} {B : Laid → ℕ → ℕ → Type 0} {old new : Draft} → m ≤ n → Puts r m B old new → Puts r n B old new
puts_more l h = record { rest = h.rest; kept = h.kept; rows = h.rows; room = let x = h.room in omega arith; code = h.code }

pub puts_as : {r m : ℕ} {B C : Laid → ℕ → ℕ → Type 0} {old new : Draft} → Puts r m B old new → ((code : Laid) (a z : ℕ) → B code a z → C code a z) → Puts r m C old new
puts_as {r} {m} {B} {C} {old} {new} h f = record { rest = h.rest; kept = h.kept; rows = h.rows; room = h.room; code = f (laid_in new) (length old.ops) (length new.ops) h.code }

-- one piece and then another
pub puts_rows : {q r m n : ℕ} {B C : Laid → ℕ → ℕ → Type 0} {old mid new : Draft} → Stable B → Puts q m B old mid → Puts r n C mid new → Puts (q + r) (m + n) (λ code. Both (B code) (C code)) old new
puts_rows {q} {r} {m} {n} {B} {C} {old} {mid} {new} b h g = record {
  rest = rest_then old mid new h.rest g.rest;
  kept = kept_then (laid_in old) (laid_in mid) (laid_in new) h.kept g.kept;
  rows = let l = g.kept.longer in rows_then l h.rows g.rows;
  room = let x = h.room in let y = g.room in omega arith;
  code = record {
    middle = length mid.ops;
    first = b.moves (laid_in mid) (laid_in new) (length old.ops) (length mid.ops) (kept_same (laid_in mid) (laid_in new) (length old.ops) (length mid.ops) (omega arith) g.kept) h.code;
    second = g.code;
  };
}

-- where no rows come
pub puts_both : {m n : ℕ} {B C : Laid → ℕ → ℕ → Type 0} {old mid new : Draft} → Stable B → Puts 0 m B old mid → Puts 0 n C mid new → Puts 0 (m + n) (λ code. Both (B code) (C code)) old new
puts_both b h g = puts_rows b h g

-- the marks stay
pub marks_of : {r n : ℕ} {S : Laid → ℕ → ℕ → Type 0} {old new : Draft} → Puts r n S old new → new.marks ≡ old.marks
marks_of h = ap (λ (d : Draft). d.marks) h.rest

both : {B C : Laid → ℕ → ℕ → Type 0} → Stable B → Stable C → Stable (λ code. Both (B code) (C code))
both {B} {C} b c = both_stable B b C c

-- calls

pub place_stable : (line : ℕ) (s : ObjectSpot) (a : Option Array) → Stable (λ code. SpotAt code line s a)
place_stable line s None = one_stable (spot_op s) line
place_stable line s (Some a) = both (one_stable (spot_op s) line) (both (one_stable op.Counted line) (one_stable (op.Index a.length a.size) line))

pub found_stable : (line : ℕ) (m : Manner) (s : ObjectSpot) (a : Option Array) → Stable (λ code. FoundAt code line m s a)
found_stable line manner.Plain s a = place_stable line s a
found_stable line (manner.Makes c) s a = place_stable line s a
found_stable line manner.Ends s a = both (place_stable line s a) (one_stable op.Load line)
found_stable line (manner.Opens of) s a = place_stable line s a
found_stable line (manner.Closes of) s a = both (place_stable line s a) (one_stable op.Load line)

opened_stable : (line : ℕ) (of : Resource) → Stable (λ code. OpenedAt code line of)
opened_stable line resource.Cluster = both (one_stable op.Cluster line) (one_stable op.Bind line)
opened_stable line resource.Processor = both (both (one_stable (op.Push (pos 0)) line) (one_stable op.Processor line)) (one_stable op.Bind line)

made_stable : {B : Laid → ℕ → ℕ → Type 0} → (line c r : ℕ) → Stable B → Stable (λ code. Both (One code (op.Make c r) line) (Both (One code (op.BindMade c r) line) (B code)))
made_stable line c r b = both (one_stable (op.Make c r) line) (both (one_stable (op.BindMade c r) line) b)

pub called_stable : (line : ℕ) (ms : List CodeMark) (m : Manner) (written : Bool) (r : ℕ) → Stable (λ code. CalledAt code line ms m written r)
called_stable line ms manner.Plain true r = both nothing_stable (both (one_stable op.Tick line) (risk_stable ms (op.CallOn r) line))
called_stable line ms manner.Plain false r = calls_behind_stable ms r line
called_stable line ms (manner.Makes c) true r = both nothing_stable (both (one_stable op.Tick line) (made_stable line c r (risk_stable ms (op.CallOn r) line)))
called_stable line ms (manner.Makes c) false r = both nothing_stable (made_stable line c r (calls_behind_stable ms r line))
called_stable line ms manner.Ends true r = both (one_stable op.Tick line) (both (one_stable (op.Enter DESTRUCTOR r) line) (risk_stable ms (op.CallOn r) line))
called_stable line ms manner.Ends false r = both (one_stable (op.Enter DESTRUCTOR r) line) (calls_behind_stable ms r line)
called_stable line ms (manner.Opens of) written r = opened_stable line of
called_stable line ms (manner.Closes of) written r = one_stable (close_op of) line

pub call_stable : (line : ℕ) (what : ObjectCall) (ms : List CodeMark) → Stable (λ code. CallAt code line what ms)
call_stable line what ms = both (found_stable line what.manner what.spot what.array) (called_stable line ms what.manner what.written what.routine)

pub done_stable : (line : ℕ) (what : ObjectCall) (ms : List CodeMark) → Stable (λ code. CallDone code line what ms)
done_stable line what ms = both (call_stable line what ms) (one_stable op.Discard line)

pub clean_by_stable : (line : ℕ) (o : Option Array) (what : ObjectCall) (ms : List CodeMark) → Stable (λ code. CleanBy code line o what ms)
clean_by_stable line None what ms = done_stable line what ms
clean_by_stable line (Some x) what ms = elements_stable line ms x.length x.length op.Sweep op.Sweep (λ code ns. CallDone code line what ns) (λ code ns. CallDone code line what ns) (λ ns. done_stable line what ns) (λ ns. done_stable line what ns)

pub clean_stable : (line : ℕ) (what : Cleaning) (ms : List CodeMark) → Stable (λ code. CleanAt code line what ms)
clean_stable line (cleaning.Call what) ms = clean_by_stable line what.array what ms
clean_stable line cleaning.TakeDown ms = one_stable op.UnwindCoroutine line
clean_stable line cleaning.Forget ms = one_stable op.Forget line
clean_stable line cleaning.Leave ms = leaves_stable ms line
clean_stable line cleaning.End ms = one_stable op.Gone line
clean_stable line (cleaning.Free None) ms = one_stable op.Made line
clean_stable line (cleaning.Free (Some r)) ms = one_stable (op.Spawn r) line
clean_stable line (cleaning.Restore cell) ms = one_stable (op.Restore cell) line

-- how long they are

place_is : (code : Laid) (line : ℕ) (s : ObjectSpot) (o : Option Array) (a z : ℕ) → SpotAt code line s o a z → z ≡ a + place_length o
place_is code line s None a z h = h.end
place_is code line s (Some x) a z h = let e = h.first.end in let f = h.second.first.end in let g = h.second.second.end in omega arith

-- how the object is found and how its routine is called take this together
pub call_is : (code : Laid) (line : ℕ) (ms : List CodeMark) (m : Manner) (s : ObjectSpot) (o : Option Array) (written : Bool) (r a b z : ℕ) → FoundAt code line m s o a b → CalledAt code line ms m written r b z → z ≡ a + (place_length o + manner_length m written)
call_is code line ms manner.Plain s o true r a b z f h =
    let p = place_is code line s o a b f in
    let e = h.first.end in
    let i = h.second.first.end in
    let j = h.second.second.end in
    omega arith
call_is code line ms manner.Plain s o false r a b z f h = let p = place_is code line s o a b f in let e = h.risk.end in omega arith
call_is code line ms (manner.Makes c) s o true r a b z f h =
    let p = place_is code line s o a b f in
    let e = h.first.end in
    let i = h.second.first.end in
    let j = h.second.second.first.end in
    let k = h.second.second.second.first.end in
    let l = h.second.second.second.second.end in
    omega arith
call_is code line ms (manner.Makes c) s o false r a b z f h =
    let p = place_is code line s o a b f in
    let e = h.first.end in
    let i = h.second.first.end in
    let j = h.second.second.first.end in
    let k = h.second.second.second.risk.end in
    omega arith
call_is code line ms manner.Ends s o true r a b z f h =
    let p = place_is code line s o a f.middle f.first in
    let q = f.second.end in
    let e = h.first.end in
    let i = h.second.first.end in
    let j = h.second.second.end in
    omega arith
call_is code line ms manner.Ends s o false r a b z f h =
    let p = place_is code line s o a f.middle f.first in
    let q = f.second.end in
    let e = h.first.end in
    let j = h.second.risk.end in
    omega arith
call_is code line ms (manner.Opens resource.Cluster) s o written r a b z f h =
    let p = place_is code line s o a b f in
    let e = h.first.end in
    let i = h.second.end in
    omega arith
call_is code line ms (manner.Opens resource.Processor) s o written r a b z f h =
    let p = place_is code line s o a b f in
    let e = h.first.first.end in
    let i = h.first.second.end in
    let j = h.second.end in
    omega arith
call_is code line ms (manner.Closes of) s o written r a b z f h =
    let p = place_is code line s o a f.middle f.first in
    let q = f.second.end in
    let e = h.end in
    omega arith

pub done_is : (code : Laid) (line : ℕ) (what : ObjectCall) (ms : List CodeMark) (a z : ℕ) → CallDone code line what ms a z → z ≡ a + done_length what
done_is code line what ms a z h =
    let c = call_is code line ms what.manner what.spot what.array what.written what.routine a h.first.middle h.middle h.first.first h.first.second in
    let e = h.second.end in
    omega arith

elements_are : (code : Laid) (line n : ℕ) (what : ObjectCall) (ms : List CodeMark) (a z : ℕ) → OverElements code line ms n n op.Sweep op.Sweep (CallDone code line what) (CallDone code line what) a z → z ≡ a + (2 * done_length what + 5)
elements_are code line n what ms a z h =
    let p = done_is code line what (mark.Elements h.row ∷ ms) (a + 1) h.test h.rounds.turn in
    let q = done_is code line what (mark.Elements h.row ∷ ms) (h.test + 2) h.entry h.undoes.turn in
    let e = h.undoes.end in
    let u = h.unwind.end in
    omega arith

clean_by_is : (code : Laid) (line : ℕ) (o : Option Array) (what : ObjectCall) (ms : List CodeMark) (a z : ℕ) → CleanBy code line o what ms a z → z ≡ a + clean_by o what
clean_by_is code line None what ms a z h = done_is code line what ms a z h
clean_by_is code line (Some x) what ms a z h = elements_are code line x.length what ms a z h

-- where a clean-up ends
pub clean_is : (code : Laid) (line : ℕ) (what : Cleaning) (ms : List CodeMark) (a z : ℕ) → CleanAt code line what ms a z → z ≡ a + clean_length what
clean_is code line (cleaning.Call what) ms a z h = clean_by_is code line what.array what ms a z h
clean_is code line cleaning.TakeDown ms a z h = h.end
clean_is code line cleaning.Forget ms a z h = h.end
clean_is code line cleaning.Leave ms a z h = let e = h.polls.end in omega arith
clean_is code line cleaning.End ms a z h = h.end
clean_is code line (cleaning.Free None) ms a z h = h.end
clean_is code line (cleaning.Free (Some r)) ms a z h = h.end
clean_is code line (cleaning.Restore cell) ms a z h = h.end

-- what is behind the call of a routine that nobody wrote
pub puts_behind : (r line : ℕ) (old new : Draft) → routine_in old.marks < r → Puts 0 1 (λ code. Risk code old.marks (op.CallUnwritten r) line) old new → Puts 0 1 (λ code. CallsBehind code old.marks r line) old new
puts_behind r line old new l h = puts_as h (λ code a z k. record { risk = k; behind = l })

-- the parts of a call

pub puts_call : (line : ℕ) (what : ObjectCall) (old mid new : Draft) → Puts 0 4 (λ code. FoundAt code line what.manner what.spot what.array) old mid → Puts 0 4 (λ code. CalledAt code line mid.marks what.manner what.written what.routine) mid new → Puts 0 8 (λ code. CallAt code line what old.marks) old new
puts_call line what old mid new p q =
    let r : Puts 0 4 (λ code. CalledAt code line old.marks what.manner what.written what.routine) mid new = subst (λ (ms : List CodeMark). Puts 0 4 (λ code. CalledAt code line ms what.manner what.written what.routine) mid new) (marks_of p) q in
    puts_both (found_stable line what.manner what.spot what.array) p r

pub puts_done : (line : ℕ) (what : ObjectCall) (old mid new : Draft) → Puts 0 8 (λ code. CallAt code line what old.marks) old mid → Puts 0 1 (λ code. One code op.Discard line) mid new → Puts 0 9 (λ code. CallDone code line what old.marks) old new
puts_done line what old mid new p q = puts_both (call_stable line what old.marks) p q

pub puts_written : (line r : ℕ) (old mid new : Draft) → Puts 0 1 (λ code. One code op.Tick line) old mid → Puts 0 1 (λ code. Risk code mid.marks (op.CallOn r) line) mid new → Puts 0 2 (λ code. CalledAt code line old.marks manner.Plain true r) old new
puts_written line r old mid new p q =
    let s : Puts 0 1 (λ code. Risk code old.marks (op.CallOn r) line) mid new = subst (λ (ms : List CodeMark). Puts 0 1 (λ code. Risk code ms (op.CallOn r) line) mid new) (marks_of p) q in
    puts_as (puts_both (one_stable op.Tick line) p s) (λ code a z h. record { middle = a; first = record { end = refl }; second = h })

-- how an object is found, and its routine called, by the manner

pub puts_found : {n : ℕ} (line : ℕ) (what : ObjectCall) (m : Manner) (old new : Draft) → what.manner ≡ m → n ≤ 4 → Puts 0 n (λ code. FoundAt code line m what.spot what.array) old new → Puts 0 4 (λ code. FoundAt code line what.manner what.spot what.array) old new
puts_found line what m old new e l p = subst (λ (x : Manner). Puts 0 4 (λ code. FoundAt code line x what.spot what.array) old new) (sym e) (puts_more l p)

pub puts_called : {n : ℕ} (line : ℕ) (what : ObjectCall) (m : Manner) (old new : Draft) → what.manner ≡ m → n ≤ 4 → Puts 0 n (λ code. CalledAt code line old.marks m what.written what.routine) old new → Puts 0 4 (λ code. CalledAt code line old.marks what.manner what.written what.routine) old new
puts_called line what m old new e l p = subst (λ (x : Manner). Puts 0 4 (λ code. CalledAt code line old.marks x what.written what.routine) old new) (sym e) (puts_more l p)

pub puts_by : {n k : ℕ} (line r : ℕ) (m : Manner) (w v : Bool) (old new : Draft) → w ≡ v → n ≤ k → Puts 0 n (λ code. CalledAt code line old.marks m v r) old new → Puts 0 k (λ code. CalledAt code line old.marks m w r) old new
puts_by {n} {k} line r m w v old new e l p = subst (λ (x : Bool). Puts 0 k (λ code. CalledAt code line old.marks m x r) old new) (sym e) (puts_more l p)

-- one op behind others, under the marks with which they began
pub puts_risk_behind : {r n : ℕ} {S : Laid → ℕ → ℕ → Type 0} (o : Op) (line : ℕ) (old mid new : Draft) → Puts r n S old mid → Puts 0 1 (λ code. Risk code mid.marks o line) mid new → Puts 0 1 (λ code. Risk code old.marks o line) mid new
puts_risk_behind o line old mid new p q = subst (λ (ms : List CodeMark). Puts 0 1 (λ code. Risk code ms o line) mid new) (marks_of p) q

-- the calls that make or enter a mutex object

pub puts_made_written : (line c r : ℕ) (d0 d1 d2 d3 d4 : Draft) → Puts 0 1 (λ code. One code op.Tick line) d0 d1 → Puts 0 1 (λ code. One code (op.Make c r) line) d1 d2 → Puts 0 1 (λ code. One code (op.BindMade c r) line) d2 d3 → Puts 0 1 (λ code. Risk code d3.marks (op.CallOn r) line) d3 d4
    → Puts 0 4 (λ code. CalledAt code line d0.marks (manner.Makes c) true r) d0 d4
puts_made_written line c r d0 d1 d2 d3 d4 p q s t =
    let three = puts_both (one_stable op.Tick line) p (puts_both (one_stable (op.Make c r) line) q s) in
    let last = puts_risk_behind (op.CallOn r) line d0 d3 d4 three t in
    puts_as (puts_both (one_stable op.Tick line) p (puts_both (one_stable (op.Make c r) line) q (puts_both (one_stable (op.BindMade c r) line) s last))) (λ code a z h. record { middle = a; first = record { end = refl }; second = h })

pub puts_made_unwritten : (line c r : ℕ) (d0 d1 d2 d3 : Draft) → routine_in d0.marks < r → Puts 0 1 (λ code. One code (op.Make c r) line) d0 d1 → Puts 0 1 (λ code. One code (op.BindMade c r) line) d1 d2 → Puts 0 1 (λ code. Risk code d2.marks (op.CallUnwritten r) line) d2 d3
    → Puts 0 3 (λ code. CalledAt code line d0.marks (manner.Makes c) false r) d0 d3
puts_made_unwritten line c r d0 d1 d2 d3 l p q t =
    let two = puts_both (one_stable (op.Make c r) line) p q in
    let last = puts_as (puts_risk_behind (op.CallUnwritten r) line d0 d2 d3 two t) (λ code a z k. let h : CallsBehind code d0.marks r line a z = record { risk = k; behind = l } in h) in
    puts_as (puts_both (one_stable (op.Make c r) line) p (puts_both (one_stable (op.BindMade c r) line) q last)) (λ code a z h. record { middle = a; first = record { end = refl }; second = h })

pub puts_ended_written : (line r : ℕ) (d0 d1 d2 d3 : Draft) → Puts 0 1 (λ code. One code op.Tick line) d0 d1 → Puts 0 1 (λ code. One code (op.Enter DESTRUCTOR r) line) d1 d2 → Puts 0 1 (λ code. Risk code d2.marks (op.CallOn r) line) d2 d3
    → Puts 0 3 (λ code. CalledAt code line d0.marks manner.Ends true r) d0 d3
puts_ended_written line r d0 d1 d2 d3 p q t =
    let two = puts_both (one_stable op.Tick line) p q in
    puts_both (one_stable op.Tick line) p (puts_both (one_stable (op.Enter DESTRUCTOR r) line) q (puts_risk_behind (op.CallOn r) line d0 d2 d3 two t))

pub puts_ended_unwritten : (line r : ℕ) (d0 d1 d2 : Draft) → routine_in d0.marks < r → Puts 0 1 (λ code. One code (op.Enter DESTRUCTOR r) line) d0 d1 → Puts 0 1 (λ code. Risk code d1.marks (op.CallUnwritten r) line) d1 d2
    → Puts 0 2 (λ code. CalledAt code line d0.marks manner.Ends false r) d0 d2
puts_ended_unwritten line r d0 d1 d2 l p t =
    let last = puts_as (puts_risk_behind (op.CallUnwritten r) line d0 d1 d2 p t) (λ code a z k. let h : CallsBehind code d0.marks r line a z = record { risk = k; behind = l } in h) in
    puts_both (one_stable (op.Enter DESTRUCTOR r) line) p last

-- a clean-up

pub puts_clean : {n : ℕ} (line : ℕ) (what w : Cleaning) (old new : Draft) → what ≡ w → n ≤ 23 → Puts (cleaning_rows w) n (λ code. CleanAt code line w old.marks) old new → Puts (cleaning_rows what) 23 (λ code. CleanAt code line what old.marks) old new
puts_clean {n} line what w old new e l p = subst (λ (x : Cleaning). Puts (cleaning_rows x) 23 (λ code. CleanAt code line x old.marks) old new) (sym e) (puts_more l p)

pub calls_behind : (ms : List CodeMark) (what : Cleaning) (call : ObjectCall) → what ≡ cleaning.Call call → CleansBehind ms what → StandsBehind ms call
calls_behind ms what call e b = subst (λ (x : Cleaning). CleansBehind ms x) e b

-- a handler keeps its event

keep_stable : (line k : ℕ) → Stable (λ code. KeepAt code line k)
keep_stable line k = both (one_stable (op.Set k) line) (one_stable op.Discard line)

pub puts_kept : (line k : ℕ) (d0 d1 d2 d3 : Draft) → Puts 0 2 (λ code. KeepAt code line (k + 2)) d0 d1 → Puts 0 2 (λ code. KeepAt code line (k + 1)) d1 d2 → Puts 0 2 (λ code. KeepAt code line k) d2 d3 → Puts 0 6 (λ code. KeepsAt code line k) d0 d3
puts_kept line k d0 d1 d2 d3 p q r = puts_both (keep_stable line (k + 2)) p (puts_both (keep_stable line (k + 1)) q r)

-- events are delivered

poll_of : (code : Laid) (ms : List CodeMark) (line e b a z : ℕ) → b ≡ a → e ≡ a + 4 → Both (One code (op.Poll e) line) (Both (Risk code ms (op.Deliver e) line) (Both (One code op.Discard line) (One code (op.Jump b) line))) a z → PollAt code ms line a z
poll_of code ms line e b a z f g h =
    let i = h.first.end in
    let j = h.second.first.end in
    let k = h.second.second.first.end in
    let l = h.second.second.second.end in
    let ends : e ≡ z = omega arith in
    let deliver : h.middle ≡ a + 1 = omega arith in
    let discard : h.second.middle ≡ a + 2 = omega arith in
    let again : h.second.second.middle ≡ a + 3 = omega arith in
    let to : Risk code ms (op.Deliver z) line h.middle h.second.middle = subst (λ x. Risk code ms (op.Deliver x) line h.middle h.second.middle) ends h.second.first in
    let from : Risk code ms (op.Deliver z) line (a + 1) h.second.middle = subst (λ x. Risk code ms (op.Deliver z) line x h.second.middle) deliver to in
    let back : OpAt code h.second.second.middle (op.Jump a) line = subst (λ x. OpAt code h.second.second.middle (op.Jump x) line) f h.second.second.second.here in
    record {
      poll = subst (λ x. OpAt code a (op.Poll x) line) ends h.first.here;
      deliver = subst (λ x. Risk code ms (op.Deliver z) line (a + 1) x) discard from;
      discard = subst (λ x. OpAt code x op.Discard line) discard h.second.second.first.here;
      again = subst (λ x. OpAt code x (op.Jump a) line) again back;
      end = omega arith;
    }

pub puts_poll : (line e b : ℕ) (d0 d1 d2 d3 d4 : Draft) → b ≡ length d0.ops → e ≡ length d0.ops + 4 → Puts 0 1 (λ code. One code (op.Poll e) line) d0 d1 → Puts 0 1 (λ code. Risk code d1.marks (op.Deliver e) line) d1 d2 → Puts 0 1 (λ code. One code op.Discard line) d2 d3 → Puts 0 1 (λ code. One code (op.Jump b) line) d3 d4 → Puts 0 4 (λ code. PollAt code d0.marks line) d0 d4
puts_poll line e b d0 d1 d2 d3 d4 f g p q r s =
    let t : Puts 0 1 (λ code. Risk code d0.marks (op.Deliver e) line) d1 d2 = subst (λ (ms : List CodeMark). Puts 0 1 (λ code. Risk code ms (op.Deliver e) line) d1 d2) (marks_of p) q in
    let all = puts_both (one_stable (op.Poll e) line) p (puts_both (risk_stable d0.marks (op.Deliver e) line) t (puts_both (one_stable op.Discard line) r s)) in
    record { rest = all.rest; kept = all.kept; rows = all.rows; room = all.room; code = poll_of (laid_in d4) d0.marks line e b (length d0.ops) (length d4.ops) f g all.code }

-- a mutex call leaves its object

leave_of : (code : Laid) (ms : List CodeMark) (line e a z : ℕ) → e ≡ a + 5 → Both (One code (op.Leave e) line) (PollAt code ms line) a z → LeavesAt code ms line a z
leave_of code ms line e a z f h =
    let i = h.first.end in
    let j = h.second.end in
    let ends : e ≡ z = omega arith in
    record {
      leave = subst (λ x. OpAt code a (op.Leave x) line) ends h.first.here;
      polls = subst (λ x. PollAt code ms line x z) i h.second;
    }

pub puts_leave : (line e : ℕ) (d0 d1 d2 : Draft) → e ≡ length d0.ops + 5 → Puts 0 1 (λ code. One code (op.Leave e) line) d0 d1 → Puts 0 4 (λ code. PollAt code d1.marks line) d1 d2 → Puts 0 5 (λ code. LeavesAt code d0.marks line) d0 d2
puts_leave line e d0 d1 d2 f p q =
    let r : Puts 0 4 (λ code. PollAt code d0.marks line) d1 d2 = subst (λ (ms : List CodeMark). Puts 0 4 (λ code. PollAt code ms line) d1 d2) (marks_of p) q in
    let all = puts_both (one_stable (op.Leave e) line) p r in
    record { rest = all.rest; kept = all.kept; rows = all.rows; room = all.room; code = leave_of (laid_in d2) d0.marks line e (length d0.ops) (length d2.ops) f all.code }

-- a call is of a routine further on also in a draft with the same marks
pub behind_stays : {r n : ℕ} {S : Laid → ℕ → ℕ → Type 0} {old new : Draft} → (what : ObjectCall) → StandsBehind old.marks what → Puts r n S old new → StandsBehind new.marks what
behind_stays what b p = subst (λ (ms : List CodeMark). StandsBehind ms what) (sym (marks_of p)) b
