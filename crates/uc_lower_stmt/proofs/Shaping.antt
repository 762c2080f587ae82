-- Pieces of laid out code, and how patched ops take the place of theirs.
use Rattle.std.proofs.Common.{◌≡◌, ℕ, ◌+◌, ◌≤◌, ◌<◌, List, ◌∷◌, length, refl, ap, sym, subst, ◌∙◌, arith}
use Rattle.std.proofs.lemmas.Option.{slice_get_within}
use Rattle.uc_tree.specs.Source.{Order}
use Rattle.uc_resolve.specs.Resolve.{Scope}
use Rattle.uc_code.specs.declared.op.Op.TheVariants as op
use Rattle.uc_code.specs.declared.rows.CodeMark.{CodeMark}
use Rattle.uc_code.specs.Drafts.{Draft, patched}
use Rattle.uc_code.specs.Layout.{Laid, laid_in}
use Rattle.uc_code.specs.OpenRows.{left_marks}
use Rattle.uc_code.specs.CodeShapes.{OpAt, One, Both, Fork, pads_at, begin_at, BackAt, Turns, Same, Kept, Stable}
use Rattle.uc_code.proofs.Stable.{back_stable, same_then, kept_then, kept_same}
use Rattle.uc_code.proofs.Patches.{bare_stays, length-patched, patched_at, same_before, same_after}
use Rattle.uc_lower_expr.specs.DraftGrowth.{Adds}
use Rattle.uc_lower_stmt.specs.LowersStatement.{Lowers}
use Rattle.uc_lower_stmt.specs.Control.{BeginCode}
use Rattle.uc_lower_stmt.specs.RowFit.{open_rows}
use Rattle.uc_lower_stmt.proofs.RowFitting.{fit_like}

-- code with at most n ops more, for which S holds
pub record Longer (n : ℕ) (S : Laid → ℕ → ℕ → Type 0) (old new : Laid) : Type 0 where
  pub kept : Kept old new
  pub room : length new.ops ≤ length old.ops + n
  pub code : S new (length old.ops) (length new.ops)

pub adds_longer : {n : ℕ} {S : Laid → ℕ → ℕ → Type 0} {old new : Draft} → Adds n S old new → Longer n S (laid_in old) (laid_in new)
adds_longer h = record { kept = h.kept; room = h.room; code = h.code }

pub lowers_longer : {r n k c o : ℕ} {S : Laid → ℕ → ℕ → Type 0} {s : Scope} {old new : Draft} → Lowers r n k c o S s old new → Longer n S (laid_in old) (laid_in new)
lowers_longer h = record { kept = h.kept; room = h.room; code = h.code }

pub longer_both : {m n : ℕ} {B C : Laid → ℕ → ℕ → Type 0} {old mid new : Laid} → Stable B → Longer m B old mid → Longer n C mid new → Longer (m + n) (λ code. Both (B code) (C code)) old new
longer_both {m} {n} {B} {C} {old} {mid} {new} b h g = record {
  kept = kept_then old mid new h.kept g.kept;
  room = let r = h.room in let s = g.room in omega arith;
  code = record {
    middle = length mid.ops;
    first = b.moves mid new (length old.ops) (length mid.ops) (kept_same mid new (length old.ops) (length mid.ops) (omega arith) g.kept) h.code;
    second = g.code;
  };
}

-- what came to a draft besides its ops stays where these are replaced
pub lowers_done : {r n k c o m : ℕ} {S T : Laid → ℕ → ℕ → Type 0} {s : Scope} {old mid new : Draft} → Lowers r n k c o S s old mid → new ≡ record mid { ops = new.ops } → length new.ops ≡ length mid.ops → Longer m T (laid_in old) (record { ops = new.ops; rows = mid.rows }) → Lowers r m k c o T s old new
lowers_done {r} {n} {k} {c} {o} {m} {S} {T} {s} {old} {mid} {new} h e l g =
    subst (λ (d : Draft). Lowers r m k c o T s old d) (sym e) (record {
      rest = ap (λ (d : Draft). let x : Draft = record d { ops = new.ops } in x) h.rest;
      scope = h.scope;
      opened = h.opened;
      kept = g.kept;
      rows = fit_like old (record mid { ops = new.ops }) refl refl refl refl l refl h.rows;
      room = g.room;
      texts = h.texts;
      cells = h.cells;
      code = g.code;
    })

-- what is lowered under one more mark, which is left behind it
pub lowers_marked : {r n k c o : ℕ} {S : Laid → ℕ → ℕ → Type 0} {s : Scope} {mid last : Draft} → (m : CodeMark) (old new : Draft) → left_marks (m ∷ old.marks) ≡ old.marks → mid ≡ record old { marks = m ∷ old.marks } → new ≡ record last { marks = left_marks last.marks } → Lowers r n k c o S s mid last → Lowers r n k c o S s old new
lowers_marked {r} {n} {k} {c} {o} {S} {s} {mid} {last} m old new l e f h =
    let g : Lowers r n k c o S s (record old { marks = m ∷ old.marks }) last = subst (λ (d : Draft). Lowers r n k c o S s d last) e h in
    let i : record last { marks = left_marks last.marks } ≡ record old { ops = last.ops; rows = last.rows; settled = last.settled; scopes = last.scopes; names = last.names; cells = last.cells; hidden = last.hidden; texts = last.texts; sites = last.sites } =
    ap (λ (d : Draft). let x : Draft = record d { marks = left_marks d.marks } in x) g.rest
    ∙ ap (λ (ms : List CodeMark). let x : Draft = record old { ops = last.ops; rows = last.rows; settled = last.settled; marks = ms; scopes = last.scopes; names = last.names; cells = last.cells; hidden = last.hidden; texts = last.texts; sites = last.sites } in x) l in
    subst (λ (d : Draft). Lowers r n k c o S s old d) (sym f) (record {
      rest = i;
      scope = g.scope;
      opened = g.opened;
      kept = g.kept;
      rows = record {
        more = g.rows.more;
        few =
            let x = g.rows.few in
            let inner : open_rows last.marks ≡ open_rows (m ∷ old.marks) = ap (λ (d : Draft). open_rows d.marks) g.rest in
            let outer : open_rows (left_marks last.marks) ≡ open_rows old.marks = ap (λ (d : Draft). open_rows (left_marks d.marks)) g.rest ∙ ap open_rows l in
            omega arith;
        begin = g.rows.begin;
      };
      room = g.room;
      texts = g.texts;
      cells = g.cells;
      code = g.code;
    })

-- a choice of two pieces, whose jumps are patched at its end
module _ (line m k : ℕ) (B C : Laid → ℕ → ℕ → Type 0) (b : Stable B) (c : Stable C) (d0 d1 d2 d3 d4 : Laid)
    (hole : Longer 1 (λ code. One code (op.IfZero 0) line) d0 d1) (first : Longer m B d1 d2) (jump : Longer 1 (λ code. One code (op.Jump 0) line) d2 d3) (second : Longer k C d3 d4) where
  abbrev chosen : Laid
  chosen = record { ops = patched d4.ops (length d0.ops) (op.IfZero (length d2.ops + 1)); rows = d4.rows }

  abbrev forked : Laid
  forked = record { ops = patched chosen.ops (length d2.ops) (op.Jump (length d4.ops)); rows = d4.rows }

  fork_long : length forked.ops ≡ length d4.ops
  fork_long = length-patched chosen.ops (length d2.ops) (op.Jump (length d4.ops)) ∙ length-patched d4.ops (length d0.ops) (op.IfZero (length d2.ops + 1))

  order : length d0.ops < length d2.ops
  order = let l = first.kept.longer in let e = hole.code.end in omega arith

  chosen_from : Kept d1 d4
  chosen_from = kept_then d1 d2 d4 first.kept (kept_then d2 d3 d4 jump.kept second.kept)

  other_from : Kept d2 d4
  other_from = kept_then d2 d3 d4 jump.kept second.kept

  fork_from : Kept d0 d4
  fork_from = kept_then d0 d1 d4 hole.kept chosen_from

  -- ops before the test, between the test and the jump, and behind the jump stay
  fork_before : (z : ℕ) → z ≤ length d0.ops → Same d4 forked 0 z
  fork_before z l = let o = order in same_then d4 chosen forked 0 z (same_before d4 (length d0.ops) (op.IfZero (length d2.ops + 1)) 0 z l) (same_before chosen (length d2.ops) (op.Jump (length d4.ops)) 0 z (omega arith))

  between : Same d4 forked (length d0.ops + 1) (length d2.ops)
  between = same_then d4 chosen forked (length d0.ops + 1) (length d2.ops) (same_after d4 (length d0.ops) (op.IfZero (length d2.ops + 1)) (length d0.ops + 1) (length d2.ops) (omega arith)) (same_before chosen (length d2.ops) (op.Jump (length d4.ops)) (length d0.ops + 1) (length d2.ops) (omega arith))

  fork_behind : Same d4 forked (length d2.ops + 1) (length d4.ops)
  fork_behind = let o = order in same_then d4 chosen forked (length d2.ops + 1) (length d4.ops) (same_after d4 (length d0.ops) (op.IfZero (length d2.ops + 1)) (length d2.ops + 1) (length d4.ops) (omega arith)) (same_after chosen (length d2.ops) (op.Jump (length d4.ops)) (length d2.ops + 1) (length d4.ops) (omega arith))

  tested : OpAt forked (length d0.ops) (op.IfZero (length d2.ops + 1)) line
  tested = let o = order in (same_before chosen (length d2.ops) (op.Jump (length d4.ops)) (length d0.ops) (length d0.ops + 1) (omega arith)).same (length d0.ops) (op.IfZero (length d2.ops + 1)) line (omega arith) (omega arith)
      (patched_at d4 (length d0.ops) (op.IfZero (length d2.ops + 1)) (op.IfZero 0) line (chosen_from.same (length d0.ops) (op.IfZero 0) line hole.code.here))

  left : OpAt forked (length d2.ops) (op.Jump (length d4.ops)) line
  left = let o = order in patched_at chosen (length d2.ops) (op.Jump (length d4.ops)) (op.Jump 0) line
      ((same_after d4 (length d0.ops) (op.IfZero (length d2.ops + 1)) (length d2.ops) (length d2.ops + 1) (omega arith)).same (length d2.ops) (op.Jump 0) line (omega arith) (omega arith) (second.kept.same (length d2.ops) (op.Jump 0) line jump.code.here))

  pub longer_fork : Longer (m + k + 2) (λ code. Fork code line (B code) (C code)) d0 forked
  longer_fork = record {
    kept = record {
      longer = let l = fork_from.longer in let e = fork_long in omega arith;
      same = λ i o l h. let w = slice_get_within d0.ops i (record { op = o; line = l }) h.here in (fork_before (length d0.ops) (omega arith)).same i o l (omega arith) w (fork_from.same i o l h);
      chains = λ next l. fork_from.chains next l;
      handlers = λ n e h. (fork_before (length d0.ops) (omega arith)).handlers n e (fork_from.handlers n e h);
      bare = λ n h. bare_stays d4 forked refl n (fork_from.bare n h);
    };
    room = let r1 = hole.room in let r2 = first.room in let r3 = jump.room in let r4 = second.room in let e = fork_long in omega arith;
    code = record {
      middle = length d2.ops;
      choose = tested;
      first = b.moves d4 forked (length d0.ops + 1) (length d2.ops) between
          (b.moves d2 d4 (length d0.ops + 1) (length d2.ops) (kept_same d2 d4 (length d0.ops + 1) (length d2.ops) (omega arith) other_from) (subst (λ x. B d2 x (length d2.ops)) hole.code.end first.code));
      leave = subst (λ x. OpAt forked (length d2.ops) (op.Jump x) line) (sym fork_long) left;
      second = subst (λ z. C forked (length d2.ops + 1) z) (sym fork_long)
          (c.moves d4 forked (length d2.ops + 1) (length d4.ops) fork_behind (subst (λ x. C d4 x (length d4.ops)) jump.code.end second.code));
    };
  }

-- a loop, whose jump and pads are patched at its end
module _ (line : ℕ) (order : Order) (p q r : ℕ) (T S : Laid → ℕ → ℕ → Type 0) (B : Laid → CodeMark → ℕ → ℕ → Type 0) (t : Stable T) (s : Stable S) (b : (m : CodeMark) → Stable (λ code. B code m)) (d0 d1 d2 d3 d4 : Laid)
    (g : Longer 4 (BeginCode line) d0 d1) (h : Longer p (λ code. B code (pads_at (length d0.ops))) d1 d2) (k : Longer q S d2 d3) (j : Longer r (λ code. BackAt code order (T code) (length d0.ops + 3) line) d3 d4) where
  abbrev start : ℕ
  start = length d0.ops

  abbrev one : Laid
  one = record { ops = patched d4.ops start (op.Jump (begin_at order (start + 3) (length d3.ops))); rows = d4.rows }

  abbrev two : Laid
  two = record { ops = patched one.ops (start + 1) (op.Jump (length d4.ops)); rows = d4.rows }

  abbrev done : Laid
  done = record { ops = patched two.ops (start + 2) (op.Jump (length d2.ops)); rows = d4.rows }

  long : length done.ops ≡ length d4.ops
  long = length-patched two.ops (start + 2) (op.Jump (length d2.ops)) ∙ length-patched one.ops (start + 1) (op.Jump (length d4.ops)) ∙ length-patched d4.ops start (op.Jump (begin_at order (start + 3) (length d3.ops)))

  from_one : Kept d1 d4
  from_one = kept_then d1 d2 d4 h.kept (kept_then d2 d3 d4 k.kept j.kept)

  from_two : Kept d2 d4
  from_two = kept_then d2 d3 d4 k.kept j.kept

  from_start : Kept d0 d4
  from_start = kept_then d0 d1 d4 g.kept from_one

  before : (z : ℕ) → z ≤ start → Same d4 done 0 z
  before z l =
      same_then d4 two done 0 z (same_then d4 one two 0 z
      (same_before d4 start (op.Jump (begin_at order (start + 3) (length d3.ops))) 0 z l)
      (same_before one (start + 1) (op.Jump (length d4.ops)) 0 z (omega arith)))
      (same_before two (start + 2) (op.Jump (length d2.ops)) 0 z (omega arith))

  behind : (a z : ℕ) → start + 2 < a → Same d4 done a z
  behind a z l =
      same_then d4 two done a z (same_then d4 one two a z
      (same_after d4 start (op.Jump (begin_at order (start + 3) (length d3.ops))) a z (omega arith))
      (same_after one (start + 1) (op.Jump (length d4.ops)) a z (omega arith)))
      (same_after two (start + 2) (op.Jump (length d2.ops)) a z l)

  first_hole : OpAt d4 start (op.Jump 0) line
  first_hole = from_one.same start (op.Jump 0) line g.code.first.here

  second_hole : OpAt d4 (start + 1) (op.Jump 0) line
  second_hole = from_one.same (start + 1) (op.Jump 0) line (subst (λ x. OpAt d1 x (op.Jump 0) line) g.code.first.end g.code.second.first.here)

  two_on : g.code.second.middle ≡ start + 2
  two_on = let e = g.code.first.end in let f = g.code.second.first.end in omega arith

  three_on : g.code.second.second.middle ≡ start + 3
  three_on = let e = two_on in let f = g.code.second.second.first.end in omega arith

  four_on : length d1.ops ≡ start + 4
  four_on = let e = three_on in let f = g.code.second.second.second.end in omega arith

  third_hole : OpAt d4 (start + 2) (op.Jump 0) line
  third_hole = from_one.same (start + 2) (op.Jump 0) line (subst (λ x. OpAt d1 x (op.Jump 0) line) two_on g.code.second.second.first.here)

  ticks : OpAt d4 (start + 3) op.Tick line
  ticks = from_one.same (start + 3) op.Tick line (subst (λ x. OpAt d1 x op.Tick line) three_on g.code.second.second.second.here)

  begins : OpAt done start (op.Jump (begin_at order (start + 3) (length d3.ops))) line
  begins =
      (same_then one two done 0 (start + 1) (same_before one (start + 1) (op.Jump (length d4.ops)) 0 (start + 1) (omega arith)) (same_before two (start + 2) (op.Jump (length d2.ops)) 0 (start + 1) (omega arith))).same start (op.Jump (begin_at order (start + 3) (length d3.ops))) line (omega arith) (omega arith)
      (patched_at d4 start (op.Jump (begin_at order (start + 3) (length d3.ops))) (op.Jump 0) line first_hole)

  leaves : OpAt done (start + 1) (op.Jump (length d4.ops)) line
  leaves =
      (same_before two (start + 2) (op.Jump (length d2.ops)) 0 (start + 2) (omega arith)).same (start + 1) (op.Jump (length d4.ops)) line (omega arith) (omega arith)
      (patched_at one (start + 1) (op.Jump (length d4.ops)) (op.Jump 0) line
      ((same_after d4 start (op.Jump (begin_at order (start + 3) (length d3.ops))) (start + 1) (start + 2) (omega arith)).same (start + 1) (op.Jump 0) line (omega arith) (omega arith) second_hole))

  agains : OpAt done (start + 2) (op.Jump (length d2.ops)) line
  agains =
      patched_at two (start + 2) (op.Jump (length d2.ops)) (op.Jump 0) line
      ((same_then d4 one two (start + 2) (start + 3)
      (same_after d4 start (op.Jump (begin_at order (start + 3) (length d3.ops))) (start + 2) (start + 3) (omega arith))
      (same_after one (start + 1) (op.Jump (length d4.ops)) (start + 2) (start + 3) (omega arith))).same (start + 2) (op.Jump 0) line (omega arith) (omega arith) third_hole)

  pub longer_turns : Longer (4 + p + q + r) (λ code. Turns code line order (T code) (S code) (B code)) d0 done
  longer_turns =
      let l1 = h.kept.longer in
      let l2 = k.kept.longer in
      let l3 = j.kept.longer in
      let l4 = four_on in
      record {
        kept = record {
          longer = let e = long in omega arith;
          same = λ i o l w. let x = slice_get_within d0.ops i (record { op = o; line = l }) w.here in (before start (omega arith)).same i o l (omega arith) x (from_start.same i o l w);
          chains = λ next l. from_start.chains next l;
          handlers = λ n e w. (before start (omega arith)).handlers n e (from_start.handlers n e w);
          bare = λ n w. bare_stays d4 done refl n (from_start.bare n w);
        };
        room = let a = g.room in let c = h.room in let e = k.room in let f = j.room in let z = long in omega arith;
        code = record {
          step_at = length d2.ops;
          test_at = length d3.ops;
          begin = begins;
          leave = subst (λ z. OpAt done (start + 1) (op.Jump z) line) (sym long) leaves;
          again = agains;
          tick = (behind (start + 3) (start + 4) (omega arith)).same (start + 3) op.Tick line (omega arith) (omega arith) ticks;
          body = (b (pads_at start)).moves d4 done (start + 4) (length d2.ops) (behind (start + 4) (length d2.ops) (omega arith))
              ((b (pads_at start)).moves d2 d4 (start + 4) (length d2.ops) (kept_same d2 d4 (start + 4) (length d2.ops) (omega arith) from_two) (subst (λ a. B d2 (pads_at start) a (length d2.ops)) four_on h.code));
          step = s.moves d4 done (length d2.ops) (length d3.ops) (behind (length d2.ops) (length d3.ops) (omega arith))
              (s.moves d3 d4 (length d2.ops) (length d3.ops) (kept_same d3 d4 (length d2.ops) (length d3.ops) (omega arith) j.kept) k.code);
          back = subst (λ z. BackAt done order (T done) (start + 3) line (length d3.ops) z) (sym long)
              ((back_stable order T (start + 3) line t).moves d4 done (length d3.ops) (length d4.ops) (behind (length d3.ops) (length d4.ops) (omega arith)) j.code);
        };
      }
