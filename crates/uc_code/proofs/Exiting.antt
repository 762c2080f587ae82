-- The code of exits, mark by mark.
use Rattle.std.proofs.Common.{◌≡◌, ℕ, suc, ◌+◌, ◌≤◌, min, max, List, [], ◌∷◌, length, drop, Bool, true, false, Option, Some, None, refl, ap, sym, subst, ◌∙◌, arith}
use Rattle.uc_tree.specs.Source.{Way, ToBreak, ToContinue, ToReturn, ToEnd}
use Rattle.uc_code.specs.declared.op.Op.{Op}
use Rattle.uc_code.specs.declared.op.Op.TheVariants as op
use Rattle.uc_code.specs.declared.rows.Array.{Array}
use Rattle.uc_code.specs.declared.rows.Cleaning.{Cleaning}
use Rattle.uc_code.specs.declared.rows.Cleaning.TheVariants as cleaning
use Rattle.uc_code.specs.declared.rows.Manner.{Manner}
use Rattle.uc_code.specs.declared.rows.Manner.TheVariants as manner
use Rattle.uc_code.specs.declared.rows.CodeMark.{CodeMark}
use Rattle.uc_code.specs.declared.rows.CodeMark.TheVariants as mark
use Rattle.uc_code.specs.declared.rows.ObjectCall.{ObjectCall}
use Rattle.uc_code.specs.declared.rows.Opening.TheVariants as opening
use Rattle.uc_code.specs.Drafts.{Draft}
use Rattle.uc_code.specs.Layout.{Laid, laid_in, handlers, under, routine_in}
use Rattle.uc_code.specs.CodeShapes.{One, Risk, CallsBehind, Both, LeavesAt, Kept}
use Rattle.uc_code.specs.Lowered.{CalledAt, CallDone, CleanBy, CleanAt, ExitAt}
use Rattle.uc_code.specs.OpenRows.{Below, Falling, AllBehind, row_in, opened, closed, exit_room}
use Rattle.uc_code.specs.RowCounts.{cleaning_rows, exit_rows}
use Rattle.uc_code.specs.RowGrowth.{AddsRows}
use Rattle.uc_code.specs.Emits.{Puts, PutsLeft, Leaves, clean_length}
use Rattle.uc_code.proofs.Growth.{rows_as, rows_then, rows_last, rows_opened, rows_closed}
use Rattle.uc_code.proofs.Stable.{kept_then, kept_piece, kept_refl}
use Rattle.uc_code.proofs.Nesting.{under_all, under_drop}
use Rattle.uc_code.proofs.Putting.{clean_stable, clean_is, marks_of}
use Rattle.uc_code.proofs.Sweeping.{like_puts, like_opened, like_closed, like_rest, closed_ops, closed_marks}

-- a clean-up is the same under marks with the same handlers in the same routine

module _ (code : Laid) (line : ℕ) (ms ns : List CodeMark) (h : handlers ms ≡ handlers ns) (r : routine_in ms ≡ routine_in ns) where
  risk_moves : (o : Op) (a z : ℕ) → Risk code ms o line a z → Risk code ns o line a z
  risk_moves o a z k = record { here = k.here; end = k.end; under = k.under ∙ h }

  behind_moves : (n a z : ℕ) → CallsBehind code ms n line a z → CallsBehind code ns n line a z
  behind_moves n a z k = record { risk = risk_moves (op.CallUnwritten n) a z k.risk; behind = let b = k.behind in omega arith }

  both_moves : {A B C : ℕ → ℕ → Type 0} → ((a z : ℕ) → B a z → C a z) → (a z : ℕ) → Both A B a z → Both A C a z
  both_moves f a z k = record { middle = k.middle; first = k.first; second = f k.middle z k.second }

  called_moves : (m : Manner) (written : Bool) (n a z : ℕ) → CalledAt code line ms m written n a z → CalledAt code line ns m written n a z
  called_moves manner.Plain true n a z k = both_moves (both_moves (risk_moves (op.CallOn n))) a z k
  called_moves manner.Plain false n a z k = behind_moves n a z k
  called_moves (manner.Makes c) true n a z k = both_moves (both_moves (both_moves (both_moves (risk_moves (op.CallOn n))))) a z k
  called_moves (manner.Makes c) false n a z k = both_moves (both_moves (both_moves (behind_moves n))) a z k
  called_moves manner.Ends true n a z k = both_moves (both_moves (risk_moves (op.CallOn n))) a z k
  called_moves manner.Ends false n a z k = both_moves (behind_moves n) a z k
  called_moves (manner.Opens of) written n a z k = k
  called_moves (manner.Closes of) written n a z k = k

  leaves_moves : (a z : ℕ) → LeavesAt code ms line a z → LeavesAt code ns line a z
  leaves_moves a z k = record {
    leave = k.leave;
    polls = record { poll = k.polls.poll; deliver = risk_moves (op.Deliver z) ((a + 1) + 1) ((a + 1) + 2) k.polls.deliver; discard = k.polls.discard; again = k.polls.again; end = k.polls.end };
  }

  pub done_moves : (what : ObjectCall) (a z : ℕ) → CallDone code line what ms a z → CallDone code line what ns a z
  done_moves what a z k = record {
    middle = k.middle;
    first = record { middle = k.first.middle; first = k.first.first; second = called_moves what.manner what.written what.routine k.first.middle k.middle k.first.second };
    second = k.second;
  }

module _ (code : Laid) (line : ℕ) (ms ns : List CodeMark) (h : handlers ms ≡ handlers ns) (r : routine_in ms ≡ routine_in ns) where
  by_moves : (o : Option Array) (what : ObjectCall) (a z : ℕ) → CleanBy code line o what ms a z → CleanBy code line o what ns a z
  by_moves None what a z k = done_moves code line ms ns h r what a z k
  by_moves (Some x) what a z k =
      let inner = done_moves code line (mark.Elements k.row ∷ ms) (mark.Elements k.row ∷ ns) (ap (λ l. k.row ∷ l) h) r what in
      record {
        row = k.row;
        test = k.test;
        entry = k.entry;
        end = k.end;
        few = k.few;
        begin = k.begin;
        rounds = record { turn = inner (a + 1) k.test k.rounds.turn; again = k.rounds.again; end = k.rounds.end };
        leave = k.leave;
        undoes = record { turn = inner (k.test + 2) k.entry k.undoes.turn; again = k.undoes.again; end = k.undoes.end };
        unwind = risk_moves code line ms ns h r op.Unwind k.end z k.unwind;
        handler = k.handler;
      }

  pub clean_moves : (what : Cleaning) (a z : ℕ) → CleanAt code line what ms a z → CleanAt code line what ns a z
  clean_moves (cleaning.Call what) a z k = by_moves what.array what a z k
  clean_moves cleaning.TakeDown a z k = k
  clean_moves cleaning.Forget a z k = k
  clean_moves cleaning.Leave a z k = leaves_moves code line ms ns h r a z k
  clean_moves cleaning.End a z k = k
  clean_moves (cleaning.Free None) a z k = k
  clean_moves (cleaning.Free (Some main)) a z k = k
  clean_moves (cleaning.Restore cell) a z k = k

-- a clean-up on the way out: a row that performs nothing is around it

module _ (what : Cleaning) (row line : ℕ) (d0 d1 d2 d3 : Draft) (o1 : d1 ≡ opened (opening.Outward row) d0) (k1 : Kept (laid_in d0) (laid_in d1)) (p2 : Puts (cleaning_rows what) 23 (λ code. CleanAt code line what d1.marks) d1 d2) (c3 : d3 ≡ closed 1 d2) (k3 : Kept (laid_in d2) (laid_in d3)) where
  abbrev ns : List CodeMark
  ns = mark.Outward row (length d0.rows) ∷ d0.marks

  marks1 : d1.marks ≡ ns
  marks1 = ap (λ (d : Draft). d.marks) o1

  marks2 : d2.marks ≡ ns
  marks2 = marks_of p2 ∙ marks1

  marks3 : d3.marks ≡ d0.marks
  marks3 = closed_marks 1 (length d0.rows) d2 d3 c3 (ap (λ (l : List CodeMark). row_in l) marks2) ∙ ap (λ (l : List CodeMark). drop 1 l) marks2

  ops1 : length d1.ops ≡ length d0.ops
  ops1 = ap (λ (d : Draft). length d.ops) o1

  ops3 : length d3.ops ≡ length d2.ops
  ops3 = ap length (closed_ops 1 d2 d3 c3)

  moved : CleanAt (laid_in d3) line what d1.marks (length d1.ops) (length d2.ops)
  moved = kept_piece (λ c. CleanAt c line what d1.marks) (clean_stable line what d1.marks) (laid_in d2) (laid_in d3) (length d1.ops) (length d2.ops) (omega arith) k3 p2.code

  grown : AddsRows (suc (cleaning_rows what)) (length d3.ops + 1) d0 d3
  grown =
      let g1 : AddsRows 1 (length d1.ops) d0 d1 = rows_opened (opening.Outward row) d0 d1 o1 in
      let g2 : AddsRows (1 + cleaning_rows what) (length d2.ops) d0 d2 = rows_then p2.kept.longer g1 p2.rows in
      let one : 1 + cleaning_rows what ≡ suc (cleaning_rows what) = omega arith in
      let g3 : AddsRows (1 + cleaning_rows what) (length d2.ops + 1) d0 d3 = rows_last (omega arith) g2 (rows_closed 1 d2 d3 c3) in
      rows_as one (let b = ops3 in omega arith) g3

  pub puts_left : PutsLeft what row line d0 d3
  puts_left = record {
    rest = like_rest d0 d3 (like_closed 1 d0 d2 d3 (like_puts d0 d1 d2 (like_opened (opening.Outward row) d0 d0 d1 refl o1) p2) c3) marks3;
    kept = kept_then (laid_in d0) (laid_in d1) (laid_in d3) k1 (kept_then (laid_in d1) (laid_in d2) (laid_in d3) p2.kept k3);
    rows = grown;
    room = (let r = p2.room in let a = ops1 in let b = ops3 in omega arith);
    code = λ ms h r.
        let g : handlers d1.marks ≡ handlers ms = ap handlers marks1 ∙ sym h in
        let q : routine_in d1.marks ≡ routine_in ms = ap routine_in marks1 ∙ sym r in
        subst (λ z. CleanAt (laid_in d3) line what ms (length d0.ops) z) (sym ops3) (subst (λ a. CleanAt (laid_in d3) line what ms a (length d2.ops)) ops1 (clean_moves (laid_in d3) line d1.marks ms g q what (length d1.ops) (length d2.ops) moved));
  }

-- which marks are passed

pub below_least : (a b : ℕ) (ns : List ℕ) → Below a ns → Below b ns → Below (min a b) ns
below_least a b [] h k = tt
below_least a b (n ∷ ns) h k = let l = h.0 in let m = k.0 in (omega arith, below_least a b ns h.1 k.1)

-- from some marks on to those that are left of them
pub record Passing (all rest : List CodeMark) : Type 0 where
  pub bound : ℕ
  pub low : Below bound (handlers rest)
  pub cut : (k : ℕ) → k ≤ bound → under k (handlers all) ≡ under k (handlers rest)
  pub routine : routine_in rest ≡ routine_in all
  pub falling : Falling rest
  pub behind : AllBehind rest

abbrev bound_of : List ℕ → ℕ
bound_of [] = 0
bound_of (n ∷ ns) = max (suc n) (bound_of ns)

below_more : (a b : ℕ) (ns : List ℕ) → a ≤ b → Below a ns → Below b ns
below_more a b [] l h = tt
below_more a b (n ∷ ns) l h = let m = h.0 in (omega arith, below_more a b ns l h.1)

below_bound : (ns : List ℕ) → Below (bound_of ns) ns
below_bound [] = tt
below_bound (n ∷ ns) = (omega arith, below_more (bound_of ns) (max (suc n) (bound_of ns)) ns (omega arith) (below_bound ns))

pub passes_none : (all : List CodeMark) → Falling all → AllBehind all → Passing all all
passes_none all f b = record { bound = bound_of (handlers all); low = below_bound (handlers all); cut = λ k l. refl; routine = refl; falling = f; behind = b }

drop_row : (k row : ℕ) (ns : List ℕ) → k ≤ row → under k (row ∷ ns) ≡ under k ns
drop_row k row ns l = under_drop k row ns l

-- a row is passed
pass_row : (all : List CodeMark) (m : CodeMark) (rest : List CodeMark) (row : ℕ) → handlers (m ∷ rest) ≡ row ∷ handlers rest → routine_in (m ∷ rest) ≡ routine_in rest → Below row (handlers rest) → Falling rest → AllBehind rest → Passing all (m ∷ rest) → Passing all rest
pass_row all m rest row h r b f s p =
    let low : Below p.bound (row ∷ handlers rest) = subst (Below p.bound) h p.low in
    let l = low.0 in
    record {
      bound = row;
      low = b;
      cut = λ k g. p.cut k (omega arith) ∙ (ap (under k) h ∙ drop_row k row (handlers rest) g);
      routine = sym r ∙ p.routine;
      falling = f;
      behind = s;
    }

-- so the clean-up of a scope that is left has the rows around it
pub passes_under : (all : List CodeMark) (what : Cleaning) (line row : ℕ) (rest : List CodeMark) → Passing all (mark.Clean what line row ∷ rest) → handlers rest ≡ under row (handlers all)
passes_under all what line row rest p =
    let low : Below p.bound (row ∷ handlers rest) = p.low in
    let l = low.0 in
    sym (p.cut row (omega arith) ∙ (drop_row row row (handlers rest) (omega arith) ∙ under_all row (handlers rest) p.falling.0))

pub passes_clean : (all : List CodeMark) (what : Cleaning) (line row : ℕ) (rest : List CodeMark) → Passing all (mark.Clean what line row ∷ rest) → Passing all rest
passes_clean all what line row rest p = pass_row all (mark.Clean what line row) rest row refl refl p.falling.0 p.falling.1 p.behind.1 p

pub passes_part : (all : List CodeMark) (row : ℕ) (rest : List CodeMark) → Passing all (mark.Part row ∷ rest) → Passing all rest
passes_part all row rest p = pass_row all (mark.Part row) rest row refl refl p.falling.0 p.falling.1 p.behind p

pub passes_elements : (all : List CodeMark) (row : ℕ) (rest : List CodeMark) → Passing all (mark.Elements row ∷ rest) → Passing all rest
passes_elements all row rest p = pass_row all (mark.Elements row) rest row refl refl p.falling.0 p.falling.1 p.behind p

pub passes_guard : (all : List CodeMark) (row : ℕ) (rest : List CodeMark) → Passing all (mark.Guard row ∷ rest) → Passing all rest
passes_guard all row rest p = pass_row all (mark.Guard row) rest row refl refl p.falling.0 p.falling.1 p.behind p

pub passes_loop : (all : List CodeMark) (leave again : ℕ) (rest : List CodeMark) → Passing all (mark.Loop leave again ∷ rest) → Passing all rest
passes_loop all leave again rest p = record { bound = p.bound; low = p.low; cut = p.cut; routine = p.routine; falling = p.falling; behind = p.behind }

-- what is left of an exit

pub leaves_none : (w : Way) (old : Draft) → Leaves w old old old.marks
leaves_none w old = record { same = refl; kept = kept_refl (laid_in old); more = refl; begin = λ k l b. b; room = omega arith; on = λ code z k h. h }

-- a mark that takes no ops on the way
pub leaves_mark : (w : Way) (old now : Draft) (m : CodeMark) (rest : List CodeMark) → exit_room (m ∷ rest) ≡ exit_room rest → exit_rows w (m ∷ rest) ≡ exit_rows w rest → ((code : Laid) (a z : ℕ) → ExitAt code w rest a z → ExitAt code w (m ∷ rest) a z) → Leaves w old now (m ∷ rest) → Leaves w old now rest
leaves_mark w old now m rest e i f p = record {
  same = p.same;
  kept = p.kept;
  more = let r = p.more in omega arith;
  begin = p.begin;
  room = let r = p.room in omega arith;
  on = λ code z k h. p.on code z k (f code (length now.ops) z h);
}

clean_exit : (code : Laid) (w : Way) (what : Cleaning) (line row : ℕ) (rest : List CodeMark) (a z : ℕ) → Both (CleanAt code line what rest) (ExitAt code w rest) a z → ExitAt code w (mark.Clean what line row ∷ rest) a z
clean_exit code ToBreak what line row rest a z h = h
clean_exit code ToContinue what line row rest a z h = h
clean_exit code ToReturn what line row rest a z h = h
clean_exit code ToEnd what line row rest a z h = h

clean_exit_rows : (w : Way) (what : Cleaning) (line row : ℕ) (rest : List CodeMark) → exit_rows w (mark.Clean what line row ∷ rest) ≡ suc (cleaning_rows what + exit_rows w rest)
clean_exit_rows ToBreak what line row rest = refl
clean_exit_rows ToContinue what line row rest = refl
clean_exit_rows ToReturn what line row rest = refl
clean_exit_rows ToEnd what line row rest = refl

same_then : (a b c : Draft) → b ≡ record a { ops = b.ops; rows = b.rows; settled = b.settled } → c ≡ record b { ops = c.ops; rows = c.rows; settled = c.settled } → c ≡ record a { ops = c.ops; rows = c.rows; settled = c.settled }
same_then a b c h k = k ∙ ap (λ d. let e : Draft = record d { ops = c.ops; rows = c.rows; settled = c.settled } in e) h

-- the scope of an object is left
pub leaves_clean : (w : Way) (old now next : Draft) (what : Cleaning) (line row : ℕ) (rest : List CodeMark) → Passing old.marks (mark.Clean what line row ∷ rest) → Leaves w old now (mark.Clean what line row ∷ rest) → PutsLeft what row line now next → Leaves w old next rest
leaves_clean w old now next what line row rest s p q =
    let m : now.marks ≡ old.marks = ap (λ (d : Draft). d.marks) p.same in
    let h : handlers rest ≡ under row (handlers now.marks) = passes_under old.marks what line row rest s ∙ ap (λ (ms : List CodeMark). under row (handlers ms)) (sym m) in
    let r : routine_in rest ≡ routine_in now.marks = s.routine ∙ ap routine_in (sym m) in
    let c : CleanAt (laid_in next) line what rest (length now.ops) (length next.ops) = q.code rest h r in
    record {
      same = same_then old now next p.same q.rest;
      kept = kept_then (laid_in old) (laid_in now) (laid_in next) p.kept q.kept;
      more = (let a = p.more in let b = q.rows.more in let e = clean_exit_rows w what line row rest in omega arith);
      begin = λ k l b. q.rows.begin k l (p.begin k (let n : length next.ops ≡ length now.ops + clean_length what = clean_is (laid_in next) line what rest (length now.ops) (length next.ops) c in omega arith) b);
      room = (let a = p.room in let b = q.room in omega arith);
      on = λ code z k g. p.on code z (kept_then (laid_in now) (laid_in next) code q.kept k) (clean_exit code w what line row rest (length now.ops) z (record {
        middle = length next.ops;
        first = kept_piece (λ x. CleanAt x line what rest) (clean_stable line what rest) (laid_in next) code (length now.ops) (length next.ops) (omega arith) k c;
        second = g;
      }));
    }

-- the last op of an exit
pub leaves_end : (w : Way) (old now new : Draft) (rest : List CodeMark) (o : Op) (line : ℕ) → 1 ≤ exit_room rest → exit_rows w rest ≡ 0 → ((code : Laid) (a z : ℕ) → One code o line a z → ExitAt code w rest a z) → Leaves w old now rest → Puts 0 1 (λ code. One code o line) now new → Puts (exit_rows w old.marks) (exit_room old.marks) (λ code. ExitAt code w old.marks) old new
leaves_end w old now new rest o line l i f p q = record {
  rest = same_then old now new p.same q.rest;
  kept = kept_then (laid_in old) (laid_in now) (laid_in new) p.kept q.kept;
  rows = record {
    more = let a = p.more in let b = q.rows.more in omega arith;
    begin = λ k g b. q.rows.begin k g (p.begin k (let e = q.code.end in omega arith) b);
  };
  room = let a = p.room in let b = q.room in omega arith;
  code = p.on (laid_in new) (length new.ops) q.kept (f (laid_in new) (length now.ops) (length new.ops) q.code);
}
