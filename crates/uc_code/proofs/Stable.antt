-- The code of a piece goes on standing where its own range does not change.
use Rattle.std.proofs.Common.{◌≡◌, ℕ, zero, suc, ◌+◌, ◌<◌, ◌≤◌, List, [], ◌∷◌, Some, length, arith, refl, ◌∙◌}
use Rattle.std.specs.Prelude.{slice_get}
use Rattle.uc_code.specs.declared.rows.HandlerRow.{HandlerRow}
use Rattle.uc_code.specs.declared.op.Op.{Op}
use Rattle.uc_tree.specs.Source.{Order, TestFirst, BodyFirst, NoTest}
use Rattle.uc_code.specs.declared.op.Op.TheVariants.{Jump, IfZero, IfNonzero, Tick, CallUnwritten, Count, Return, Handled, Unwind, Raise, Poll, Deliver, Discard, Leave, Accept, Failed, Choose}
use Rattle.uc_code.specs.declared.rows.MainOf.{MainOf}
use Rattle.uc_code.specs.declared.rows.CodeMark.{CodeMark}
use Rattle.uc_code.specs.declared.rows.CodeMark.TheVariants.{Finish, Whole, Elements, Outward}
use Rattle.uc_code.specs.declared.rows.Handler.{Handler}
use Rattle.uc_code.specs.Layout.{Laid, guards}
use Rattle.uc_code.specs.CodeShapes.{Nothing, Never, One, Risk, CallsBehind, Both, Behind, When, Unless, Fork, Leads, Arrived, Jumped, pads_at, begin_at, BackAt, Turns, WholeAt, main_end, main_left, MainAt, Guarded, HandledAt, ApartAt, clean_up, Rounds, OverElements, ScopeOf, BehindPart, PollAt, LeavesAt, FailedAt, AcceptsAt, JumpsAt, ChoosesAt, NoBranch, ElseAt, ClauseAt, Same, Kept, KeptBut, Stable}

pub part : (old new : Laid) (a z b y : ℕ) → a ≤ b → y ≤ z → Same old new a z → Same old new b y
part old new a z b y h k s = record {
  same = λ i op line l m o. s.same i op line (omega arith) (omega arith) o;
  chains = λ next l m. s.chains next (omega arith) (omega arith);
  handlers = s.handlers;
}

pub same_then : (b c d : Laid) (a z : ℕ) → Same b c a z → Same c d a z → Same b d a z
same_then b c d a z s t = record {
  same = λ i op line l m o. t.same i op line l m (s.same i op line l m o);
  chains = λ next l m. t.chains next l m ∙ s.chains next l m;
  handlers = λ k e h. t.handlers k e (s.handlers k e h);
}

-- a range that is laid out stays
pub kept_same : (old new : Laid) (a z : ℕ) → z ≤ length old.ops → Kept old new → Same old new a z
kept_same old new a z b k = record { same = λ i op line l m o. k.same i op line o; chains = λ next l m. k.chains next (omega arith); handlers = k.handlers }

pub kept_refl : (code : Laid) → Kept code code
kept_refl code = record { longer = omega arith; same = λ i op line h. h; chains = λ next h. refl; handlers = λ k e h. h; bare = λ k h. h }

pub kept_then : (a b c : Laid) → Kept a b → Kept b c → Kept a c
kept_then a b c h k = record {
  longer = let l = h.longer in let m = k.longer in omega arith;
  same = λ i op line o. k.same i op line (h.same i op line o);
  chains = λ next l. let m = h.longer in k.chains next (omega arith) ∙ h.chains next l;
  handlers = λ n e o. k.handlers n e (h.handlers n e o);
  bare = λ n o. k.bare n (h.bare n o);
}

row_there : (rows : List HandlerRow) (n : ℕ) (r : HandlerRow) → slice_get rows n ≡ Some r → n < length rows
row_there [] n r e = absurd (cc)
row_there (q ∷ rs) zero r e = omega arith
row_there (q ∷ rs) (suc n) r e = let l = row_there rs n r e in omega arith

-- a row that was not there yet has got its handler
pub kept_but : (a b c : Laid) (given : ℕ) → length a.rows ≤ given → Kept a b → KeptBut given b c → Kept a c
kept_but a b c given l h k = record {
  longer = let l = h.longer in let m = k.longer in omega arith;
  same = λ i op line o. k.same i op line (h.same i op line o);
  chains = λ next l. let m = h.longer in k.chains next (omega arith) ∙ h.chains next l;
  handlers = λ n e o. k.handlers n e (h.handlers n e o);
  bare = λ n o. let m = row_there a.rows n o.row o.there in k.bare n (λ e. absurd (omega arith)) (h.bare n o);
}

-- a piece that stands where one row has got its handler
pub but_same : (old new : Laid) (given a z : ℕ) → z ≤ length old.ops → KeptBut given old new → Same old new a z
but_same old new given a z b k = record { same = λ i op line l m o. k.same i op line o; chains = λ next l m. k.chains next (omega arith); handlers = k.handlers }

pub nothing_stable : Stable (λ code. Nothing)
nothing_stable = record {
  rises = λ code a z h. let e = h.end in omega arith;
  moves = λ old new a z s h. record { end = h.end };
}

pub never_stable : Stable (λ code. Never)
never_stable = record { rises = λ code a z h. absurd h; moves = λ old new a z s h. absurd h }

pub one_stable : (op : Op) (line : ℕ) → Stable (λ code. One code op line)
one_stable op line = record {
  rises = λ code a z h. let e = h.end in omega arith;
  moves = λ old new a z s h. let e = h.end in record { here = s.same a op line (omega arith) (omega arith) h.here; end = h.end };
}

pub risk_stable : (ms : List CodeMark) (op : Op) (line : ℕ) → Stable (λ code. Risk code ms op line)
risk_stable ms op line = record {
  rises = λ code a z h. let e = h.end in omega arith;
  moves = λ old new a z s h.
      let e = h.end in
      record { here = s.same a op line (omega arith) (omega arith) h.here; end = h.end; under = s.chains z (omega arith) (omega arith) ∙ h.under };
}

pub calls_behind_stable : (ms : List CodeMark) (r line : ℕ) → Stable (λ code. CallsBehind code ms r line)
calls_behind_stable ms r line = record {
  rises = λ code a z h. (risk_stable ms (CallUnwritten r) line).rises code a z h.risk;
  moves = λ old new a z s h. record { risk = (risk_stable ms (CallUnwritten r) line).moves old new a z s h.risk; behind = h.behind };
}

module _ (B : Laid → ℕ → ℕ → Type 0) (b : Stable B) where
  pub when_stable : (line : ℕ) → Stable (λ code. When code line (B code))
  when_stable line = record {
    rises = λ code a z h. let l = b.rises code (a + 1) z h.body in omega arith;
    moves = λ old new a z s h.
        let l = b.rises old (a + 1) z h.body in
        record {
          skip = s.same a (IfZero z) line (omega arith) (omega arith) h.skip;
          body = b.moves old new (a + 1) z (part old new a z (a + 1) z (omega arith) (omega arith) s) h.body;
        };
  }

  pub unless_stable : (line : ℕ) → Stable (λ code. Unless code line (B code))
  unless_stable line = record {
    rises = λ code a z h. let l = b.rises code (a + 1) z h.body in omega arith;
    moves = λ old new a z s h.
        let l = b.rises old (a + 1) z h.body in
        record {
          skip = s.same a (IfNonzero z) line (omega arith) (omega arith) h.skip;
          body = b.moves old new (a + 1) z (part old new a z (a + 1) z (omega arith) (omega arith) s) h.body;
        };
  }

  module _ (C : Laid → ℕ → ℕ → Type 0) (c : Stable C) where
    pub both_stable : Stable (λ code. Both (B code) (C code))
    both_stable = record {
      rises = λ code a z h. let l = b.rises code a h.middle h.first in let k = c.rises code h.middle z h.second in omega arith;
      moves = λ old new a z s h.
          let l = b.rises old a h.middle h.first in
          let k = c.rises old h.middle z h.second in
          record {
            middle = h.middle;
            first = b.moves old new a h.middle (part old new a z a h.middle (omega arith) (omega arith) s) h.first;
            second = c.moves old new h.middle z (part old new a z h.middle z (omega arith) (omega arith) s) h.second;
          };
    }

    pub fork_stable : (line : ℕ) → Stable (λ code. Fork code line (B code) (C code))
    fork_stable line = record {
      rises = λ code a z h. let l = b.rises code (a + 1) h.middle h.first in let k = c.rises code (h.middle + 1) z h.second in omega arith;
      moves = λ old new a z s h.
          let l = b.rises old (a + 1) h.middle h.first in
          let k = c.rises old (h.middle + 1) z h.second in
          record {
            middle = h.middle;
            choose = s.same a (IfZero (h.middle + 1)) line (omega arith) (omega arith) h.choose;
            first = b.moves old new (a + 1) h.middle (part old new a z (a + 1) h.middle (omega arith) (omega arith) s) h.first;
            leave = s.same h.middle (Jump z) line (omega arith) (omega arith) h.leave;
            second = c.moves old new (h.middle + 1) z (part old new a z (h.middle + 1) z (omega arith) (omega arith) s) h.second;
          };
    }

pub behind_stable : (B : Laid → ℕ → ℕ → Type 0) → Stable B → (op : Op) (line : ℕ) → Stable (λ code. Behind code (B code) op line)
behind_stable B b op line = both_stable B b (λ code. One code op line) (one_stable op line)

pub poll_stable : (ms : List CodeMark) (line : ℕ) → Stable (λ code. PollAt code ms line)
poll_stable ms line = record {
  rises = λ code a z h. let e = h.end in omega arith;
  moves = λ old new a z s h.
      let e = h.end in
      record {
        poll = s.same a (Poll z) line (omega arith) (omega arith) h.poll;
        deliver = (risk_stable ms (Deliver z) line).moves old new (a + 1) (a + 2) (part old new a z (a + 1) (a + 2) (omega arith) (omega arith) s) h.deliver;
        discard = s.same (a + 2) Discard line (omega arith) (omega arith) h.discard;
        again = s.same (a + 3) (Jump a) line (omega arith) (omega arith) h.again;
        end = h.end;
      };
}

-- appending keeps a piece
pub kept_piece : (B : Laid → ℕ → ℕ → Type 0) → Stable B → (old new : Laid) (a z : ℕ) → z ≤ length old.ops → Kept old new → B old a z → B new a z
kept_piece B b old new a z l k h = b.moves old new a z (kept_same old new a z l k) h

-- jumps lead on
pub leads_then : (code : Laid) (a b c : ℕ) → Leads code a b → Leads code b c → Leads code a c
leads_then code a _ c (Arrived _) k = k
leads_then code a b c (Jumped _ d _ line o h) k = Jumped a d c line o (leads_then code d b c h k)

pub leads_kept : (old new : Laid) (a z : ℕ) → Kept old new → Leads old a z → Leads new a z
leads_kept old new a _ k (Arrived _) = Arrived a
leads_kept old new a z k (Jumped _ b _ line o h) = Jumped a b z line (k.same a (Jump b) line o) (leads_kept old new b z k h)

-- loops

pub back_stable : (order : Order) (T : Laid → ℕ → ℕ → Type 0) (turn line : ℕ) → Stable T → Stable (λ code. BackAt code order (T code) turn line)
back_stable TestFirst T turn line t = both_stable T t (λ code. One code (IfNonzero turn) line) (one_stable (IfNonzero turn) line)
back_stable BodyFirst T turn line t = both_stable T t (λ code. One code (IfNonzero turn) line) (one_stable (IfNonzero turn) line)
back_stable NoTest T turn line t = one_stable (Jump turn) line

back_more : (order : Order) (T : Laid → ℕ → ℕ → Type 0) (turn line : ℕ) → Stable T → (code : Laid) (a z : ℕ) → BackAt code order (T code) turn line a z → a + 1 ≤ z
back_more TestFirst T turn line t code a z h = let l = t.rises code a h.middle h.first in let e = h.second.end in omega arith
back_more BodyFirst T turn line t code a z h = let l = t.rises code a h.middle h.first in let e = h.second.end in omega arith
back_more NoTest T turn line t code a z h = let e = h.end in omega arith

module _ (line : ℕ) (order : Order) (T S : Laid → ℕ → ℕ → Type 0) (B : Laid → CodeMark → ℕ → ℕ → Type 0) (t : Stable T) (s : Stable S) (b : (m : CodeMark) → Stable (λ code. B code m)) where
  pub turns_stable : Stable (λ code. Turns code line order (T code) (S code) (B code))
  turns_stable = record {
    rises = λ code a z h.
        let k = (b (pads_at a)).rises code (a + 4) h.step_at h.body in
        let l = s.rises code h.step_at h.test_at h.step in
        let r = back_more order T (a + 3) line t code h.test_at z h.back in
        omega arith;
    moves = λ old new a z w h.
        let k = (b (pads_at a)).rises old (a + 4) h.step_at h.body in
        let l = s.rises old h.step_at h.test_at h.step in
        let r = back_more order T (a + 3) line t old h.test_at z h.back in
        record {
          step_at = h.step_at;
          test_at = h.test_at;
          begin = w.same a (Jump (begin_at order (a + 3) h.test_at)) line (omega arith) (omega arith) h.begin;
          leave = w.same (a + 1) (Jump z) line (omega arith) (omega arith) h.leave;
          again = w.same (a + 2) (Jump h.step_at) line (omega arith) (omega arith) h.again;
          tick = w.same (a + 3) Tick line (omega arith) (omega arith) h.tick;
          body = (b (pads_at a)).moves old new (a + 4) h.step_at (part old new a z (a + 4) h.step_at (omega arith) (omega arith) w) h.body;
          step = s.moves old new h.step_at h.test_at (part old new a z h.step_at h.test_at (omega arith) (omega arith) w) h.step;
          back = (back_stable order T (a + 3) line t).moves old new h.test_at z (part old new a z h.test_at z (omega arith) (omega arith) w) h.back;
        };
  }

-- a block that is left as a whole, and the statements of a main

module _ (line : ℕ) (B : Laid → List CodeMark → ℕ → ℕ → Type 0) (b : (ns : List CodeMark) → Stable (λ code. B code ns)) where
  pub whole_stable : (ms : List CodeMark) → Stable (λ code. WholeAt code line ms (B code))
  whole_stable ms = record {
    rises = λ code a z h.
        let l = (b (Whole (a + 1) h.row ∷ ms)).rises code (a + 2) h.body_end h.body in
        let e = h.tests.end in
        omega arith;
    moves = λ old new a z s h.
        let l = (b (Whole (a + 1) h.row ∷ ms)).rises old (a + 2) h.body_end h.body in
        let e = h.tests.end in
        record {
          row = h.row;
          body_end = h.body_end;
          begin = s.same a (Jump (a + 2)) line (omega arith) (omega arith) h.begin;
          leave = s.same (a + 1) (Jump z) line (omega arith) (omega arith) h.leave;
          body = (b (Whole (a + 1) h.row ∷ ms)).moves old new (a + 2) h.body_end (part old new a z (a + 2) h.body_end (omega arith) (omega arith) s) h.body;
          skip = s.same h.body_end (Jump z) line (omega arith) (omega arith) h.skip;
          tests = (risk_stable ms Handled line).moves old new (h.body_end + 1) z (part old new a z (h.body_end + 1) z (omega arith) (omega arith) s) h.tests;
          handler = s.handlers h.row (clean_up (h.body_end + 1)) h.handler;
        };
  }

  pub main_stable : (main : MainOf) (routine : ℕ) → Stable (λ code. MainAt code main routine line (B code))
  main_stable main routine = record {
    rises = λ code a z h.
        let l = (b (Finish main routine line h.row ∷ [])).rises code a h.body_end h.body in
        let e = h.end in
        omega arith;
    moves = λ old new a z s h.
        let l = (b (Finish main routine line h.row ∷ [])).rises old a h.body_end h.body in
        let e = h.end in
        record {
          row = h.row;
          body_end = h.body_end;
          body = (b (Finish main routine line h.row ∷ [])).moves old new a h.body_end (part old new a z a h.body_end (omega arith) (omega arith) s) h.body;
          returns = s.same h.body_end (main_end main) line (omega arith) (omega arith) h.returns;
          unwound = s.same (h.body_end + 1) (main_left main) line (omega arith) (omega arith) h.unwound;
          end = h.end;
          handler = s.handlers h.row (clean_up (h.body_end + 1)) h.handler;
        };
  }

-- guarded blocks

module _ (line count : ℕ) (ms : List CodeMark) (B : Laid → List CodeMark → ℕ → ℕ → Type 0) (H : Laid → ℕ → ℕ → ℕ → ℕ → Type 0) (b : (ns : List CodeMark) → Stable (λ code. B code ns)) (h : (first pad : ℕ) → Stable (λ code. H code first pad)) where
  pub guarded_stable : Stable (λ code. Guarded code line ms count (B code) (H code))
  guarded_stable = record {
    rises = λ code a z g.
        let l = (b (guards g.first count ms)).rises code (a + 2) g.body_end g.body in
        let k = (h g.first (a + 1)).rises code (g.body_end + 1) z g.handlers in
        omega arith;
    moves = λ old new a z s g.
        let l = (b (guards g.first count ms)).rises old (a + 2) g.body_end g.body in
        let k = (h g.first (a + 1)).rises old (g.body_end + 1) z g.handlers in
        record {
          first = g.first;
          body_end = g.body_end;
          begin = s.same a (Jump (a + 2)) line (omega arith) (omega arith) g.begin;
          pad = s.same (a + 1) (Jump z) line (omega arith) (omega arith) g.pad;
          body = (b (guards g.first count ms)).moves old new (a + 2) g.body_end (part old new a z (a + 2) g.body_end (omega arith) (omega arith) s) g.body;
          leave = s.same g.body_end (Jump (a + 1)) line (omega arith) (omega arith) g.leave;
          handlers = (h g.first (a + 1)).moves old new (g.body_end + 1) z (part old new a z (g.body_end + 1) z (omega arith) (omega arith) s) g.handlers;
        };
  }

pub handled_stable : (number : ℕ) (handler : ℕ → Handler) (B : Laid → ℕ → ℕ → Type 0) → Stable B → Stable (λ code. HandledAt code number handler (B code))
handled_stable number handler B b = record {
  rises = λ code a z h. b.rises code a z h.body;
  moves = λ old new a z s h. record { handler_at = s.handlers number (handler a) h.handler_at; body = b.moves old new a z s h.body };
}

pub apart_stable : (ms : List CodeMark) (B : Laid → List CodeMark → ℕ → ℕ → Type 0) → ((ns : List CodeMark) → Stable (λ code. B code ns)) → Stable (λ code. ApartAt code ms (B code))
apart_stable ms B b = record {
  rises = λ code a z h. let l = (b (Outward 0 h.row ∷ ms)).rises code a h.body_end h.body in let e = h.end in omega arith;
  moves = λ old new a z s h.
      let l = (b (Outward 0 h.row ∷ ms)).rises old a h.body_end h.body in
      let e = h.end in
      record {
        row = h.row;
        body_end = h.body_end;
        body = (b (Outward 0 h.row ∷ ms)).moves old new a h.body_end (part old new a z a h.body_end (omega arith) (omega arith) s) h.body;
        returns = s.same h.body_end Return 0 (omega arith) (omega arith) h.returns;
        end = h.end;
      };
}

-- turns over elements

module _ (line : ℕ) (back : ℕ → Op) (T : Laid → ℕ → ℕ → Type 0) (t : Stable T) (test : ℕ) where
  pub rounds_rise : (code : Laid) (a z : ℕ) → Rounds code line back (T code) test a z → a + 1 ≤ z
  rounds_rise code a z h = let l = t.rises code a test h.turn in let e = h.end in omega arith

  pub rounds_stable : Stable (λ code. Rounds code line back (T code) test)
  rounds_stable = record {
    rises = λ code a z h. let l = rounds_rise code a z h in omega arith;
    moves = λ old new a z s h.
        let l = t.rises old a test h.turn in
        let e = h.end in
        record {
          turn = t.moves old new a test (part old new a z a test (omega arith) (omega arith) s) h.turn;
          again = s.same test (back a) line (omega arith) (omega arith) h.again;
          end = h.end;
        };
  }

module _ (line : ℕ) (ms : List CodeMark) (first most : ℕ) (back undo : ℕ → Op) (T D : Laid → List CodeMark → ℕ → ℕ → Type 0) (t : (ns : List CodeMark) → Stable (λ code. T code ns)) (d : (ns : List CodeMark) → Stable (λ code. D code ns)) where
  pub elements_stable : Stable (λ code. OverElements code line ms first most back undo (T code) (D code))
  elements_stable = record {
    rises = λ code a z h.
        let k = (rounds_stable line back (λ c. T c (Elements h.row ∷ ms)) (t (Elements h.row ∷ ms)) h.test).rises code (a + 1) (h.test + 1) h.rounds in
        let l = (rounds_stable line undo (λ c. D c (Elements h.row ∷ ms)) (d (Elements h.row ∷ ms)) h.entry).rises code (h.test + 2) h.end h.undoes in
        let r = (risk_stable ms Unwind line).rises code h.end z h.unwind in
        omega arith;
    moves = λ old new a z s h.
        let k = (rounds_stable line back (λ c. T c (Elements h.row ∷ ms)) (t (Elements h.row ∷ ms)) h.test).rises old (a + 1) (h.test + 1) h.rounds in
        let l = (rounds_stable line undo (λ c. D c (Elements h.row ∷ ms)) (d (Elements h.row ∷ ms)) h.entry).rises old (h.test + 2) h.end h.undoes in
        let e = h.unwind.end in
        record {
          row = h.row;
          test = h.test;
          entry = h.entry;
          end = h.end;
          few = h.few;
          begin = s.same a (Count first h.test) line (omega arith) (omega arith) h.begin;
          rounds = (rounds_stable line back (λ c. T c (Elements h.row ∷ ms)) (t (Elements h.row ∷ ms)) h.test).moves old new (a + 1) (h.test + 1) (part old new a z (a + 1) (h.test + 1) (omega arith) (omega arith) s) h.rounds;
          leave = s.same (h.test + 1) (Jump z) line (omega arith) (omega arith) h.leave;
          undoes = (rounds_stable line undo (λ c. D c (Elements h.row ∷ ms)) (d (Elements h.row ∷ ms)) h.entry).moves old new (h.test + 2) h.end (part old new a z (h.test + 2) h.end (omega arith) (omega arith) s) h.undoes;
          unwind = (risk_stable ms Unwind line).moves old new h.end z (part old new a z h.end z (omega arith) (omega arith) s) h.unwind;
          handler = s.handlers h.row (clean_up h.entry) h.handler;
        };
  }

-- a mutex call leaves its object
pub leaves_stable : (ms : List CodeMark) (line : ℕ) → Stable (λ code. LeavesAt code ms line)
leaves_stable ms line = record {
  rises = λ code a z h. let k = (poll_stable ms line).rises code (a + 1) z h.polls in omega arith;
  moves = λ old new a z s h.
      let k = (poll_stable ms line).rises old (a + 1) z h.polls in
      let e = h.polls.end in
      record {
        leave = s.same a (Leave z) line (omega arith) (omega arith) h.leave;
        polls = (poll_stable ms line).moves old new (a + 1) z (part old new a z (a + 1) z (omega arith) (omega arith) s) h.polls;
      };
}

-- accept statements

failed_stable : (ms : List CodeMark) (line : ℕ) → Stable (λ code. FailedAt code ms line)
failed_stable ms line =
    let b = both_stable (λ code. Risk code ms Raise line) (risk_stable ms Raise line) (λ code. One code Discard line) (one_stable Discard line) in
    record {
      rises = λ code a z h. let k = b.rises code (a + 1) z h.raises in omega arith;
      moves = λ old new a z s h.
          let k = b.rises old (a + 1) z h.raises in
          record { test = s.same a (Failed z) line (omega arith) (omega arith) h.test; raises = b.moves old new (a + 1) z (part old new a z (a + 1) z (omega arith) (omega arith) s) h.raises };
    }

pub accepts_stable : (ms : List CodeMark) (site guards line : ℕ) → Stable (λ code. AcceptsAt code ms site guards line)
accepts_stable ms site guards line = record {
  rises = λ code a z h.
      let k = (failed_stable ms line).rises code (a + 1) h.middle h.failed in
      let l = (poll_stable ms line).rises code h.middle z h.polls in
      omega arith;
  moves = λ old new a z s h.
      let k = (failed_stable ms line).rises old (a + 1) h.middle h.failed in
      let l = (poll_stable ms line).rises old h.middle z h.polls in
      let e = h.polls.end in
      record {
        middle = h.middle;
        asks = s.same a (Accept site guards z) line (omega arith) (omega arith) h.asks;
        failed = (failed_stable ms line).moves old new (a + 1) h.middle (part old new a z (a + 1) h.middle (omega arith) (omega arith) s) h.failed;
        polls = (poll_stable ms line).moves old new h.middle z (part old new a z h.middle z (omega arith) (omega arith) s) h.polls;
      };
}

jumps_stable : (line : ℕ) (tos : List ℕ) → Stable (λ code. JumpsAt code line tos)
jumps_stable line [] = nothing_stable
jumps_stable line (to ∷ tos) = both_stable (λ code. One code (Jump to) line) (one_stable (Jump to) line) (λ code. JumpsAt code line tos) (jumps_stable line tos)

jumps_more : (code : Laid) (line to : ℕ) (tos : List ℕ) (a z : ℕ) → JumpsAt code line (to ∷ tos) a z → a < z
jumps_more code line to tos a z h = let e = h.first.end in let k = (jumps_stable line tos).rises code h.middle z h.second in omega arith

pub none_stable : (otherwise : ℕ) (places : List ℕ) (end : ℕ) → Stable (λ code. NoBranch otherwise places end)
none_stable otherwise places end = record { rises = λ code a z h. let e = h.nothing in omega arith; moves = λ old new a z s h. h }

pub else_stable : (otherwise : ℕ) (places : List ℕ) (B : Laid → ℕ → ℕ → Type 0) → Stable B → Stable (λ code. ElseAt otherwise places (B code))
else_stable otherwise places B b = record {
  rises = λ code a z h. b.rises code a z h.body;
  moves = λ old new a z s h. record { here = h.here; none = h.none; body = b.moves old new a z s h.body };
}

pub clause_stable : (line : ℕ) (places : List ℕ) (end : ℕ) (B : Laid → ℕ → ℕ → Type 0) (R : Laid → List ℕ → ℕ → ℕ → Type 0) → Stable B → ((rest : List ℕ) → Stable (λ code. R code rest)) → Stable (λ code. ClauseAt code line places end (B code) (R code))
clause_stable line places end B R b r = record {
  rises = λ code a z h. let k = b.rises code a h.middle h.body in let l = (r h.rest).rises code (h.middle + 1) z h.others in omega arith;
  moves = λ old new a z s h.
      let k = b.rises old a h.middle h.body in
      let l = (r h.rest).rises old (h.middle + 1) z h.others in
      record {
        rest = h.rest;
        here = h.here;
        middle = h.middle;
        body = b.moves old new a h.middle (part old new a z a h.middle (omega arith) (omega arith) s) h.body;
        leave = s.same h.middle (Jump end) line (omega arith) (omega arith) h.leave;
        others = (r h.rest).moves old new (h.middle + 1) z (part old new a z (h.middle + 1) z (omega arith) (omega arith) s) h.others;
      };
}

pub chooses_stable : (line clauses : ℕ) (B : Laid → ℕ → List ℕ → ℕ → ℕ → ℕ → Type 0) → ((otherwise : ℕ) (places : List ℕ) (end : ℕ) → Stable (λ code. B code otherwise places end)) → Stable (λ code. ChoosesAt code line clauses (B code))
chooses_stable line clauses B b = record {
  rises = λ code a z h.
      let k = jumps_more code line h.otherwise h.places (a + 1) h.middle h.jumps in
      let l = (b h.otherwise h.places z).rises code h.middle z h.branches in
      omega arith;
  moves = λ old new a z s h.
      let k = jumps_more old line h.otherwise h.places (a + 1) h.middle h.jumps in
      let l = (b h.otherwise h.places z).rises old h.middle z h.branches in
      record {
        otherwise = h.otherwise;
        places = h.places;
        count = h.count;
        middle = h.middle;
        choose = s.same a (Choose clauses z) line (omega arith) (omega arith) h.choose;
        jumps = (jumps_stable line (h.otherwise ∷ h.places)).moves old new (a + 1) h.middle (part old new a z (a + 1) h.middle (omega arith) (omega arith) s) h.jumps;
        branches = (b h.otherwise h.places z).moves old new h.middle z (part old new a z h.middle z (omega arith) (omega arith) s) h.branches;
      };
}

-- scopes of objects, and what follows a part

module _ (line : ℕ) (ms : List CodeMark) (M : ℕ → CodeMark) (C U : Laid → ℕ → ℕ → Type 0) (B : Laid → List CodeMark → ℕ → ℕ → Type 0) (c : Stable C) (u : Stable U) (b : (ns : List CodeMark) → Stable (λ code. B code ns)) where
  unwinds_stable : Stable (λ code. Both (C code) (Risk code ms Unwind line))
  unwinds_stable = both_stable C c (λ code. Risk code ms Unwind line) (risk_stable ms Unwind line)

  pub scope_stable : Stable (λ code. ScopeOf code line ms M (C code) (U code) (B code))
  scope_stable = record {
    rises = λ code a z h.
        let k = (b (M h.row ∷ ms)).rises code a h.body_end h.body in
        let l = c.rises code h.body_end h.clean_end h.clean in
        let r = u.rises code (h.clean_end + 1) z h.unwinds in
        omega arith;
    moves = λ old new a z s h.
        let k = (b (M h.row ∷ ms)).rises old a h.body_end h.body in
        let l = c.rises old h.body_end h.clean_end h.clean in
        let r = u.rises old (h.clean_end + 1) z h.unwinds in
        record {
          row = h.row;
          body_end = h.body_end;
          clean_end = h.clean_end;
          body = (b (M h.row ∷ ms)).moves old new a h.body_end (part old new a z a h.body_end (omega arith) (omega arith) s) h.body;
          clean = c.moves old new h.body_end h.clean_end (part old new a z h.body_end h.clean_end (omega arith) (omega arith) s) h.clean;
          leave = s.same h.clean_end (Jump z) line (omega arith) (omega arith) h.leave;
          unwinds = u.moves old new (h.clean_end + 1) z (part old new a z (h.clean_end + 1) z (omega arith) (omega arith) s) h.unwinds;
          handler = s.handlers h.row (clean_up (h.clean_end + 1)) h.handler;
        };
  }

  pub behind_part_stable : Stable (λ code. BehindPart code line ms M (C code) (B code))
  behind_part_stable = record {
    rises = λ code a z h.
        let k = (b (M h.row ∷ ms)).rises code a h.body_end h.body in
        let r = unwinds_stable.rises code (h.body_end + 1) z h.unwinds in
        omega arith;
    moves = λ old new a z s h.
        let k = (b (M h.row ∷ ms)).rises old a h.body_end h.body in
        let r = unwinds_stable.rises old (h.body_end + 1) z h.unwinds in
        record {
          row = h.row;
          body_end = h.body_end;
          body = (b (M h.row ∷ ms)).moves old new a h.body_end (part old new a z a h.body_end (omega arith) (omega arith) s) h.body;
          leave = s.same h.body_end (Jump z) line (omega arith) (omega arith) h.leave;
          unwinds = unwinds_stable.moves old new (h.body_end + 1) z (part old new a z (h.body_end + 1) z (omega arith) (omega arith) s) h.unwinds;
          handler = s.handlers h.row (clean_up (h.body_end + 1)) h.handler;
        };
  }
