use Rattle.std.proofs.Common.{map, ap, sym, ◌∙◌}
use Rattle.std.specs.Prelude.{is_some}
use Rattle.std.specs.Ordering.{nat_cmp}
use Rattle.std.specs.BTreeMap.{get}
use Rattle.uc_judge.specs.ClauseStacks.{as_on_stack, pair_cmp, rows_of}
use Rattle.uc_judge.proofs.Stacking.{last_more, stacks_more}
use Rattle.uc_judge.proofs.stacks.Stacks.add.Goals as goal

pub returns-in_ok-note_call-in-Some : goal.returns-in_ok-note_call-in-Some
returns-in_ok-note_call-in-Some c j h =
    let e = c.args.e.now in
    let s = c.args.self.now in
    let f = as_on_stack c.args.sites.now in
    let n = c.get_mut.follows.lender c.move_stack.new.rows in
    let value = c.in-Some.ensures.value in
    let updates = (c.get_mut.follows.holds c.move_stack.new.rows).3 (ap is_some (sym value)) in
    record {
      called = last_more (get pair_cmp s.called) (get pair_cmp c.note_call.new.called) j e h.called c.in_ok-note_call-in-Some.ensures;
      stacks = stacks_more c.args.sites.now (get nat_cmp s.stacks) (get nat_cmp n) (map f c.in-Some.rows.now.items) (map f c.move_stack.new.rows.items) e j c.last_of-called.result h.stacks (ap (λ x. map f (rows_of x)) value) (c.last_of-called.ensures ∙ h.called e.object e.task) c.in_ok-move_stack-in-Some.ensures (ap (λ x. map f (rows_of x)) updates.1) updates.2;
    }

pub returns-in_ok-note_call-in-None : goal.returns-in_ok-note_call-in-None
returns-in_ok-note_call-in-None c j h =
    let e = c.args.e.now in
    let s = c.args.self.now in
    let f = as_on_stack c.args.sites.now in
    let value = c.in-None.ensures.value in
    let updates = c.in_ok-_before-in-None.ensures.updates in
    record {
      called = last_more (get pair_cmp s.called) (get pair_cmp c.note_call-in-None.new.called) j e h.called c.in_ok-note_call-in-None.ensures;
      stacks = stacks_more c.args.sites.now (get nat_cmp s.stacks) (get nat_cmp c.insert.new.self) (map f c.new-rows.result.items) (map f c.move_stack-in-None.new.rows.items) e j c.last_of-called.result h.stacks (ap (map f) c.new-rows.ensures.items ∙ ap (λ x. map f (rows_of x)) value) (c.last_of-called.ensures ∙ h.called e.object e.task) c.in_ok-move_stack-in-None.ensures (ap (λ x. map f (rows_of x)) updates.1) (λ q z. updates.2 q z ∙ ap (λ x. get nat_cmp x q) c.get_mut.follows.holds-at-none);
    }
