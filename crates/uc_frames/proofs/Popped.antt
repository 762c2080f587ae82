-- How a machine comes to search a handler or to unwind: behind an op that throws or raises it has popped the event.
use Rattle.std.proofs.Common.{◌≡◌, ℕ, ◌+◌, ◌-◌, List, [], ◌∷◌, map, refl, sym, ap, subst, ◌∙◌, arith}
use Rattle.std.specs.Prelude.{slice_get}
use Rattle.uc_machine.specs.Quiet as quiet
use Rattle.uc_machine.specs.Quiet.{Todo, Value, DropNow, RaiseNow, ThrowNow, State, own_line}
use Rattle.uc_machine.specs.Pieces.{Unwind}
use Rattle.uc_machine.specs.Raising.{as_event, event_in}
use Rattle.uc_code.specs.declared.op.Op.{Op}
use Rattle.uc_code.specs.declared.op.Op.TheVariants as op
use Rattle.uc_code.specs.declared.rows.CodeMark.{CodeMark}
use Rattle.uc_code.specs.Layout.{Laid, handlers, chain}
use Rattle.uc_code.specs.CodeShapes.{OpAt, One, Risk, Both, Arrived}
use Rattle.uc_frames.specs.declared.event.Event.{Event}
use Rattle.uc_frames.specs.Machine.{Activation, Machine, cell_of, cell_number, top, below, line_in}
use Rattle.uc_frames.specs.StandsByParts.{Lined}
use Rattle.uc_frames.specs.Stands.{image, GoesOn, FollowsAt, CallerStands, EnvironmentStands}
use Rattle.uc_frames.specs.Unwinding.{cleaning, event_at}
use Rattle.uc_frames.specs.UnwindingStands.{raised_as, Unwinds, Raises, Throws}

number_is : (v : Value) → cell_number (cell_of v) ≡ quiet.number v
number_is (quiet.Number n) = refl
number_is (quiet.Place o p) = refl
number_is (quiet.Running e) = refl
number_is (quiet.Object o) = refl
number_is quiet.Nothing = refl

top_is : (vs : List Value) → cell_number (top (map cell_of vs)) ≡ quiet.number (quiet.top vs)
top_is [] = refl
top_is (v ∷ vs) = number_is v

below_is : (vs : List Value) → below (map cell_of vs) ≡ map cell_of (quiet.below vs)
below_is [] = refl
below_is (v ∷ vs) = refl

below_three : (vs : List Value) → below (below (below (map cell_of vs))) ≡ map cell_of (quiet.below (quiet.below (quiet.below vs)))
below_three vs =
    ap (λ cs. below (below cs)) (below_is vs) ∙ (ap below (below_is (quiet.below vs)) ∙ below_is (quiet.below (quiet.below vs)))

-- the event that it pops is that of the source
pub popped : (vs : List Value) → event_at (map cell_of vs) ≡ record { number = (event_in vs).number; x = (event_in vs).x; y = (event_in vs).y }
popped vs =
    let a : cell_number (top (below (below (map cell_of vs)))) ≡ quiet.number (quiet.top (quiet.below (quiet.below vs))) =
    ap (λ cs. cell_number (top (below cs))) (below_is vs) ∙ (ap (λ cs. cell_number (top cs)) (below_is (quiet.below vs)) ∙ top_is (quiet.below (quiet.below vs))) in
    let b : cell_number (top (below (map cell_of vs))) ≡ quiet.number (quiet.top (quiet.below vs)) = ap (λ cs. cell_number (top cs)) (below_is vs) ∙ top_is (quiet.below vs) in
    ap (λ n. let e : Event = record { number = as_event n; x = cell_number (top (below (map cell_of vs))); y = cell_number (top (map cell_of vs)) } in e) a
    ∙ (ap (λ n. let e : Event = record { number = (event_in vs).number; x = n; y = cell_number (top (map cell_of vs)) } in e) b
    ∙ ap (λ n. let e : Event = record { number = (event_in vs).number; x = (event_in vs).x; y = n } in e) (top_is vs))

pub event_is : (vs : List Value) → event_in vs ≡ raised_as (event_at (map cell_of vs))
event_is vs = ap raised_as (sym (popped vs))

-- a machine behind an op, without the event
abbrev pub behind_event : Machine → Machine
behind_event m = record m { run = record m.run { control = m.run.control + 1; operands = below (below (below m.run.operands)) } }

module _ (code : Laid) (m : Machine) (s : State) (rest : List Todo) (ms : List CodeMark) (i : m.run ≡ image m.run.control s.run) (l : Lined (CallerStands code) m.callers s.callers) (e : EnvironmentStands code m.env s.env) where
  abbrev left_operands : List Value
  left_operands = quiet.below (quiet.below (quiet.below s.run.operands))

  pub image_behind : (todo : List Todo) → (behind_event m).run ≡ image (m.run.control + 1) (record s.run { control = todo; operands = left_operands })
  image_behind todo =
      let a : below (below (below m.run.operands)) ≡ map cell_of left_operands = ap (λ (x : Activation). below (below (below x.operands))) i ∙ below_three s.run.operands in
      ap (λ (x : Activation). let y : Activation = record x { control = m.run.control + 1; operands = below (below (below m.run.operands)) } in y) i
      ∙ ap (λ os. let y : Activation = record (image (m.run.control + 1) s.run) { operands = os } in y) a

  -- behind an op of its line, which has the handlers of the marks
  pub raises_as : (o : Op) → s.run.control ≡ RaiseNow ∷ rest → OpAt code m.run.control o (own_line rest) → chain code.rows (m.run.control + 1) ≡ handlers ms → FollowsAt code (DropNow ∷ rest) ms (m.run.control + 1) → Raises code (behind_event m) s
  raises_as o q h u f =
      let n : m.run.control + 1 - 1 ≡ m.run.control = omega arith in
      record {
        rest = rest;
        todo = q;
        run = record {
          stands = record { marks = ms; follows = f; is = image_behind (DropNow ∷ rest) };
          line = ap (λ k. line_in (slice_get code.ops k)) n ∙ ap line_in h.here;
          under = u;
        };
        callers = l;
        env = e;
      }

  pub raises_behind : (to : ℕ) → s.run.control ≡ RaiseNow ∷ rest → Both (Risk code ms op.Raise (own_line rest)) (One code op.Discard (own_line rest)) m.run.control to → FollowsAt code rest ms to → Raises code (behind_event m) s
  raises_behind to q b f =
      let r = b.first in
      let z : b.middle ≡ m.run.control + 1 = r.end in
      let d : One code op.Discard (own_line rest) (m.run.control + 1) to = subst (λ n. One code op.Discard (own_line rest) n to) z b.second in
      raises_as op.Raise q r.here (subst (λ n. chain code.rows n ≡ handlers ms) z r.under)
      (record { from = m.run.control + 1; to = to; leads = Arrived (m.run.control + 1); piece = d; on = f })

  pub throws_behind : (to : ℕ) → s.run.control ≡ ThrowNow ∷ rest → Risk code ms op.Throw (own_line rest) m.run.control to → FollowsAt code rest ms to → Throws code (behind_event m) s
  throws_behind to q r f = record {
    rest = rest;
    todo = q;
    rows = record { marks = ms; at = to; follows = f; under = subst (λ n. chain code.rows n ≡ handlers ms) r.end r.under };
    is = image_behind s.run.control;
    callers = l;
    env = e;
  }

  -- behind the op that goes on unwinding, with no operands
  pub unwinds_behind : (line to from : ℕ) → s.run.control ≡ Unwind ∷ rest → GoesOn code line ms m.run.control to → FollowsAt code rest ms from → Unwinds code (record m { run = cleaning (m.run.control + 1) m.run }) s
  unwinds_behind line to from q g f = record {
    run = record {
      rest = rest;
      todo = q;
      rows = record { marks = ms; at = from; follows = f; under = subst (λ n. chain code.rows n ≡ handlers ms) g.unwinds.end g.unwinds.under };
      is = ap (λ (x : Activation). cleaning (m.run.control + 1) x) i;
    };
    callers = l;
    env = e;
  }
