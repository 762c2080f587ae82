-- How what is added to a draft is joined.
use Rattle.std.proofs.Common.{◌≡◌, ℕ, ◌+◌, ◌≤◌, ◌<◌, List, [], ◌∷◌, length, length-append, refl, ap, sym, subst, ◌∙◌, arith}
use Rattle.std.proofs.lemmas.Option.{slice_get_within}
use Rattle.uc_code.specs.declared.op.Op.{Op}
use Rattle.uc_code.specs.declared.op.Op.TheVariants as op
use Rattle.uc_code.specs.declared.rows.Instruction.{Instruction}
use Rattle.uc_code.specs.Layout.{Laid, laid_in}
use Rattle.uc_code.specs.Drafts.{Draft, ops_with, patched}
use Rattle.uc_code.specs.CodeShapes.{OpAt, Nothing, Risk, Both, Fork, PollAt, Same, Kept, Stable}
use Rattle.uc_code.specs.Emits.{Puts}
use Rattle.uc_code.specs.RowGrowth.{BeginBy}
use Rattle.uc_code.proofs.Stable.{kept_refl, kept_then, kept_same, same_then}
use Rattle.uc_code.proofs.Putting.{puts_poll}
use Rattle.uc_code.proofs.Patches.{bare_stays, kept_with, one_with, length-patched, patched_at, same_before, same_after}
use Rattle.uc_lower_expr.specs.DraftGrowth.{Adds, LiveCallCode, MutexCallCode, OpCode, RiskCode}
use Rattle.uc_lower_expr.specs.Parts.{WaitCode}

pub rest_then : (a b c : Draft) → b ≡ record a { ops = b.ops } → c ≡ record b { ops = c.ops } → c ≡ record a { ops = c.ops }
rest_then a b c h k = k ∙ ap (λ d. let e : Draft = record d { ops = c.ops } in e) h

pub rest_behind : {n : ℕ} {S : Laid → ℕ → ℕ → Type 0} {b c : Draft} → (a : Draft) → b ≡ record a { ops = b.ops } → Adds n S b c → c ≡ record a { ops = c.ops }
rest_behind {n} {S} {b} {c} a h k = rest_then a b c h k.rest

-- the rows are settled as far as they were
pub adds_settled : {n : ℕ} {S : Laid → ℕ → ℕ → Type 0} {old new : Draft} → Adds n S old new → new.settled ≡ old.settled
adds_settled h = ap (λ (d : Draft). d.settled) h.rest

pub adds_nothing : (old : Draft) → Adds 0 (λ code. Nothing) old old
adds_nothing old = record { rest = refl; kept = kept_refl (laid_in old); room = omega arith; code = record { end = refl } }

-- one op more
pub adds_put : (o : Op) (line : ℕ) (old new : Draft) → new ≡ record old { ops = ops_with old.ops o line } → Adds 1 (OpCode line o) old new
adds_put o line old new e = subst (λ (d : Draft). Adds 1 (OpCode line o) old d) (sym e) (record {
  rest = refl;
  kept = kept_with (laid_in old) o line;
  room = omega (arith, length-append old.ops (record { op = o; line = line } ∷ []));
  code = one_with (laid_in old) o line;
})

-- one op more from which an event may come
pub adds_risk : (o : Op) (line : ℕ) (old new : Draft) → new ≡ record old { ops = ops_with old.ops o line } → Risk (laid_in new) old.marks o line (length old.ops) (length new.ops) → Adds 1 (RiskCode line old.marks o) old new
adds_risk o line old new e r = let h = adds_put o line old new e in record { rest = h.rest; kept = h.kept; room = h.room; code = r }

-- its handlers are those of the marks of a draft with fewer ops
pub risk_in : (line : ℕ) (o : Op) (was old new : Draft) → old ≡ record was { ops = old.ops } → Adds 1 (RiskCode line old.marks o) old new → Adds 1 (RiskCode line was.marks o) old new
risk_in line o was old new e h = subst (λ (d : Draft). Adds 1 (RiskCode line d.marks o) old new) e h

pub live_in : (line r : ℕ) (was old new : Draft) → old ≡ record was { ops = old.ops } → Adds 3 (LiveCallCode line old.marks r) old new → Adds 3 (LiveCallCode line was.marks r) old new
live_in line r was old new e h = subst (λ (d : Draft). Adds 3 (LiveCallCode line d.marks r) old new) e h

pub mutex_in : (line m r : ℕ) (was old new : Draft) → old ≡ record was { ops = old.ops } → Adds 3 (MutexCallCode line old.marks m r) old new → Adds 3 (MutexCallCode line was.marks m r) old new
mutex_in line m r was old new e h = subst (λ (d : Draft). Adds 3 (MutexCallCode line d.marks m r) old new) e h

pub adds_more : {m n : ℕ} {B : Laid → ℕ → ℕ → Type 0} {old new : Draft} → m ≤ n → Adds m B old new → Adds n B old new
adds_more l h = record { rest = h.rest; kept = h.kept; room = let r = h.room in omega arith; code = h.code }

pub adds_as : {m : ℕ} {B C : Laid → ℕ → ℕ → Type 0} {old new : Draft} → Adds m B old new → ((code : Laid) (a z : ℕ) → B code a z → C code a z) → Adds m C old new
adds_as {m} {B} {C} {old} {new} h f = record { rest = h.rest; kept = h.kept; room = h.room; code = f (laid_in new) (length old.ops) (length new.ops) h.code }

-- one piece and then another
pub adds_both : {m n : ℕ} {B C : Laid → ℕ → ℕ → Type 0} {old mid new : Draft} → Stable B → Adds m B old mid → Adds n C mid new → Adds (m + n) (λ code. Both (B code) (C code)) old new
adds_both {m} {n} {B} {C} {old} {mid} {new} b h g = record {
  rest = rest_then old mid new h.rest g.rest;
  kept = kept_then (laid_in old) (laid_in mid) (laid_in new) h.kept g.kept;
  room = let r = h.room in let s = g.room in omega arith;
  code = record {
    middle = length mid.ops;
    first = b.moves (laid_in mid) (laid_in new) (length old.ops) (length mid.ops) (kept_same (laid_in mid) (laid_in new) (length old.ops) (length mid.ops) (omega arith) g.kept) h.code;
    second = g.code;
  };
}

-- events are delivered
module _ (line e b : ℕ) (d0 d1 d2 d3 d4 : Draft) where
  as_puts : {S : Laid → ℕ → ℕ → Type 0} {old new : Draft} → Adds 1 S old new → Puts 0 1 S old new
  as_puts {S} {old} {new} h = record {
    rest = subst (λ (d : Draft). d ≡ record old { ops = d.ops; rows = d.rows; settled = d.settled }) (sym h.rest) refl;
    kept = h.kept;
    rows = record {
      more = let e : length old.rows ≡ length old.rows + 0 = omega arith in subst (λ (d : Draft). length d.rows ≡ length old.rows + 0) (sym h.rest) e;
      begin = λ k m b. subst (λ (d : Draft). BeginBy k d.rows) (sym h.rest) b;
    };
    room = h.room;
    code = h.code;
  }

  pub adds_poll : b ≡ length d0.ops → e ≡ length d0.ops + 4 → Adds 1 (OpCode line (op.Poll e)) d0 d1 → Adds 1 (RiskCode line d1.marks (op.Deliver e)) d1 d2 → Adds 1 (OpCode line op.Discard) d2 d3 → Adds 1 (OpCode line (op.Jump b)) d3 d4 → Adds 4 (λ code. PollAt code d0.marks line) d0 d4
  adds_poll f g p q r s =
      let all = puts_poll line e b d0 d1 d2 d3 d4 f g (as_puts p) (as_puts q) (as_puts r) (as_puts s) in
      record { rest = rest_then d0 d3 d4 (rest_then d0 d2 d3 (rest_then d0 d1 d2 p.rest q.rest) r.rest) s.rest; kept = all.kept; room = all.room; code = all.code }

-- under the marks of a draft with fewer ops
pub poll_in : {n : ℕ} (line : ℕ) (was old new : Draft) → old ≡ record was { ops = old.ops } → Adds n (λ code. PollAt code old.marks line) old new → Adds n (λ code. PollAt code was.marks line) old new
poll_in {n} line was old new e h = subst (λ (d : Draft). Adds n (λ code. PollAt code d.marks line) old new) e h

pub wait_in : (line : ℕ) (was old new : Draft) → old ≡ record was { ops = old.ops } → Adds 5 (WaitCode line old.marks) old new → Adds 5 (WaitCode line was.marks) old new
wait_in line was old new e h = subst (λ (d : Draft). Adds 5 (WaitCode line d.marks) old new) e h

-- two pieces in a row are one after another
pub regroup : (B C D : ℕ → ℕ → Type 0) (a z : ℕ) → Both (Both B C) D a z → Both B (Both C D) a z
regroup B C D a z h = record { middle = h.first.middle; first = h.first.first; second = record { middle = h.middle; first = h.first.second; second = h.second } }

-- a piece and nothing
pub and_nothing : (B : ℕ → ℕ → Type 0) (a z : ℕ) → Both B Nothing a z → B a z
and_nothing B a z h = subst (λ y. B a y) (sym h.second.end) h.first

-- a choice of two pieces, whose jumps are patched at its end
module _ (line : ℕ) (m k : ℕ) (B C : Laid → ℕ → ℕ → Type 0) (b : Stable B) (c : Stable C) (d0 d1 d2 d3 d4 : Draft)
    (hole : Adds 1 (OpCode line (op.IfZero 0)) d0 d1) (first : Adds m B d1 d2) (jump : Adds 1 (OpCode line (op.Jump 0)) d2 d3) (second : Adds k C d3 d4) where
  chosen : Laid
  chosen = record { ops = patched d4.ops (length d0.ops) (op.IfZero (length d2.ops + 1)); rows = d4.rows }

  done : Laid
  unfolding chosen
  done = record { ops = patched chosen.ops (length d2.ops) (op.Jump (length d4.ops)); rows = d4.rows }

  long : length done.ops ≡ length d4.ops
  unfolding done chosen
  long = length-patched chosen.ops (length d2.ops) (op.Jump (length d4.ops)) ∙ length-patched d4.ops (length d0.ops) (op.IfZero (length d2.ops + 1))

  order : length d0.ops < length d2.ops
  order = let l = first.kept.longer in let e = hole.code.end in omega arith

  from_one : Kept (laid_in d1) (laid_in d4)
  from_one = kept_then (laid_in d1) (laid_in d2) (laid_in d4) first.kept (kept_then (laid_in d2) (laid_in d3) (laid_in d4) jump.kept second.kept)

  from_two : Kept (laid_in d2) (laid_in d4)
  from_two = kept_then (laid_in d2) (laid_in d3) (laid_in d4) jump.kept second.kept

  from_start : Kept (laid_in d0) (laid_in d4)
  from_start = kept_then (laid_in d0) (laid_in d1) (laid_in d4) hole.kept from_one

  -- ops before the test, between the test and the jump, and behind the jump stay
  before : (z : ℕ) → z ≤ length d0.ops → Same (laid_in d4) done 0 z
  unfolding done chosen
  before z l = let o = order in same_then (laid_in d4) chosen done 0 z (same_before (laid_in d4) (length d0.ops) (op.IfZero (length d2.ops + 1)) 0 z l) (same_before chosen (length d2.ops) (op.Jump (length d4.ops)) 0 z (omega arith))

  between : Same (laid_in d4) done (length d0.ops + 1) (length d2.ops)
  unfolding done chosen
  between = same_then (laid_in d4) chosen done (length d0.ops + 1) (length d2.ops) (same_after (laid_in d4) (length d0.ops) (op.IfZero (length d2.ops + 1)) (length d0.ops + 1) (length d2.ops) (omega arith)) (same_before chosen (length d2.ops) (op.Jump (length d4.ops)) (length d0.ops + 1) (length d2.ops) (omega arith))

  behind : Same (laid_in d4) done (length d2.ops + 1) (length d4.ops)
  unfolding done chosen
  behind = let o = order in same_then (laid_in d4) chosen done (length d2.ops + 1) (length d4.ops) (same_after (laid_in d4) (length d0.ops) (op.IfZero (length d2.ops + 1)) (length d2.ops + 1) (length d4.ops) (omega arith)) (same_after chosen (length d2.ops) (op.Jump (length d4.ops)) (length d2.ops + 1) (length d4.ops) (omega arith))

  tested : OpAt done (length d0.ops) (op.IfZero (length d2.ops + 1)) line
  unfolding done chosen
  tested = let o = order in (same_before chosen (length d2.ops) (op.Jump (length d4.ops)) (length d0.ops) (length d0.ops + 1) (omega arith)).same (length d0.ops) (op.IfZero (length d2.ops + 1)) line (omega arith) (omega arith)
      (patched_at (laid_in d4) (length d0.ops) (op.IfZero (length d2.ops + 1)) (op.IfZero 0) line (from_one.same (length d0.ops) (op.IfZero 0) line hole.code.here))

  left : OpAt done (length d2.ops) (op.Jump (length d4.ops)) line
  unfolding done chosen
  left = let o = order in patched_at chosen (length d2.ops) (op.Jump (length d4.ops)) (op.Jump 0) line
      ((same_after (laid_in d4) (length d0.ops) (op.IfZero (length d2.ops + 1)) (length d2.ops) (length d2.ops + 1) (omega arith)).same (length d2.ops) (op.Jump 0) line (omega arith) (omega arith) (second.kept.same (length d2.ops) (op.Jump 0) line jump.code.here))

  rest : (new : Draft) → new ≡ record d4 { ops = done.ops } → new ≡ record d0 { ops = new.ops }
  rest new e =
      let r : d4 ≡ record d0 { ops = d4.ops } = rest_then d0 d3 d4 (rest_then d0 d2 d3 (rest_then d0 d1 d2 hole.rest first.rest) jump.rest) second.rest in
      let s : new.ops ≡ done.ops = ap (λ (d : Draft). d.ops) e in
      e ∙ ap (λ (d : Draft). let f : Draft = record d { ops = done.ops } in f) r ∙ ap (λ (l : List Instruction). let f : Draft = record d0 { ops = l } in f) (sym s)

  fork_done : Adds (m + k + 2) (λ code. Fork code line (B code) (C code)) d0 (record d4 { ops = done.ops })
  unfolding done chosen
  fork_done = record {
    rest = rest (record d4 { ops = done.ops }) refl;
    kept = record {
      longer = let l = from_start.longer in let e = long in omega arith;
      same = λ i o l h. let w = slice_get_within d0.ops i (record { op = o; line = l }) h.here in (before (length d0.ops) (omega arith)).same i o l (omega arith) w (from_start.same i o l h);
      chains = λ next l. from_start.chains next l;
      handlers = λ k e h. (before (length d0.ops) (omega arith)).handlers k e (from_start.handlers k e h);
      bare = λ k h. bare_stays (laid_in d4) (laid_in (record d4 { ops = done.ops })) refl k (from_start.bare k h);
    };
    room = let r1 = hole.room in let r2 = first.room in let r3 = jump.room in let r4 = second.room in let e = long in omega arith;
    code = record {
      middle = length d2.ops;
      choose = tested;
      first = b.moves (laid_in d4) done (length d0.ops + 1) (length d2.ops) between
          (b.moves (laid_in d2) (laid_in d4) (length d0.ops + 1) (length d2.ops) (kept_same (laid_in d2) (laid_in d4) (length d0.ops + 1) (length d2.ops) (omega arith) from_two) (subst (λ x. B (laid_in d2) x (length d2.ops)) hole.code.end first.code));
      leave = subst (λ x. OpAt done (length d2.ops) (op.Jump x) line) (sym long) left;
      second = subst (λ z. C done (length d2.ops + 1) z) (sym long)
          (c.moves (laid_in d4) done (length d2.ops + 1) (length d4.ops) behind (subst (λ x. C (laid_in d4) x (length d4.ops)) jump.code.end second.code));
    };
  }

  pub adds_fork : (choose leave : ℕ) (new : Draft) → choose ≡ length d0.ops → leave ≡ length d2.ops
      → new ≡ record d4 { ops = patched (patched d4.ops choose (op.IfZero (leave + 1))) leave (op.Jump (length d4.ops)) }
      → Adds (m + k + 2) (λ code. Fork code line (B code) (C code)) d0 new
  unfolding done chosen
  adds_fork choose leave new ce le e =
      let f : new ≡ record d4 { ops = done.ops } =
      e ∙ ap (λ (x : ℕ). let g : Draft = record d4 { ops = patched (patched d4.ops x (op.IfZero (leave + 1))) leave (op.Jump (length d4.ops)) } in g) ce
      ∙ ap (λ (x : ℕ). let g : Draft = record d4 { ops = patched (patched d4.ops (length d0.ops) (op.IfZero (x + 1))) x (op.Jump (length d4.ops)) } in g) le in
      subst (λ (d : Draft). Adds (m + k + 2) (λ code. Fork code line (B code) (C code)) d0 d) (sym f) fork_done
