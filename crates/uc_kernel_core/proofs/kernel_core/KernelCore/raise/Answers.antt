use Rattle.std.proofs.Common.{◌≡◌, ◌<◌, ◌∙◌, ◌∷◌, [], sym, ap, subst, length, to_z, of_z, w64, rules}
use Rattle.uc_acts.specs.Acts.{fault, raise_entry, row, settled}
use Rattle.uc_acts.specs.Journal.{first_or_0, is_ending, cost, no_cost}
use Rattle.uc_acts.specs.Known.{object_count, owner}
use Rattle.uc_entry.specs.declared.request.Request.TheVariants as ask
use Rattle.uc_kernel_core.specs.Mirrors.{MayAct, Seen, Appended, seen, rows}
use Rattle.uc_kernel_core.proofs.Asks as asks
use Rattle.uc_kernel_core.proofs.Raising as raising
use Rattle.uc_kernel_core.proofs.Several as several
use Rattle.uc_kernel_core.proofs.kernel_core.KernelCore.raise.Goals as goal

pub raise-requires-clause-task : goal.raise-requires-clause-task
raise-requires-clause-task c =
    let w = c.args.who in
    let may = subst (λ (s : Seen). MayAct s w.processor w.task) (sym c.self.view_is) c.requires.may in
    let m = c.self.invariant.mirrors may.going in
    let j = c.self.inside.journal.journal in
    let one = subst (λ (s : Seen). length (owner c.args.object s.journal) ≡ 1) (sym c.self.view_is) c.requires.owned in
    let is : c.owner_of-target.result ≡ first_or_0 (owner c.args.object j) = c.owner_of-target.ensures ∙ ap (λ (s : Seen). first_or_0 (owner c.args.object s.journal)) (sym c.self.view_is) in
    let t = c.owner_of-target.result in
    let lt : t < length c.self.inside.events = rw is (raising.target_known _ _ _ _ _ _ _ _ _ _ _ m c.args.object one) in
    lt

pub invariant_of-self : goal.invariant_of-self
invariant_of-self c =
    let w = c.args.who in
    let may = subst (λ (s : Seen). MayAct s w.processor w.task) (sym c.self.view_is) c.requires.may in
    let m = c.self.invariant.mirrors may.going in
    let j = c.self.inside.journal.journal in
    let one = subst (λ (s : Seen). length (owner c.args.object s.journal) ≡ 1) (sym c.self.view_is) c.requires.owned in
    let is : c.owner_of-target.result ≡ first_or_0 (owner c.args.object j) = c.owner_of-target.ensures ∙ ap (λ (s : Seen). first_or_0 (owner c.args.object s.journal)) (sym c.self.view_is) in
    let t = c.owner_of-target.result in
    let lt : t < length c.self.inside.events = rw is (raising.target_known _ _ _ _ _ _ _ _ _ _ _ m c.args.object one) in
    let same_x : to_z w64 (of_z w64 c.args.x) ≡ c.args.x = search rules in
    let same_y : to_z w64 (of_z w64 c.args.y) ≡ c.args.y = search rules in
    let made = subst (λ (s : Seen). c.args.object < object_count s.journal) (sym c.self.view_is) c.requires.made.made in
    let old = c.self.invariant in
    record {
      mirrors = λ _. rw (c.push.ensures, c.raise_entry.ensures, c.raise.ensures.events, same_x, same_y) (raising.m_raise _ _ _ _ _ _ _ _ _ _ _ m c.args.object w.processor w.task (cost w.ticks w.line) t c.args.event c.args.x c.args.y made lt (sym c.if-raise.true ∙ c.raise.ensures.value));
      space = rw c.push.ensures old.space;
      tasks = rw c.push.ensures old.tasks;
    }

pub invariant_of-self-else-raise : goal.invariant_of-self-else-raise
invariant_of-self-else-raise c =
    let old = c.self.invariant in
    record {
      mirrors = λ h. several.over_after c.self.inside.journal c.push-else-raise.new.self c.fault_entry.result c.push-else-raise.ensures (ap (λ e. is_ending e.kind) c.fault_entry.ensures) h;
      space = rw c.push-else-raise.ensures old.space;
      tasks = rw c.push-else-raise.ensures old.tasks;
    }

pub returns-then-raise : goal.returns-then-raise
returns-then-raise c =
    let w = c.args.who in
    let may = subst (λ (s : Seen). MayAct s w.processor w.task) (sym c.self.view_is) c.requires.may in
    let m = c.self.invariant.mirrors may.going in
    let j = c.self.inside.journal.journal in
    let one = subst (λ (s : Seen). length (owner c.args.object s.journal) ≡ 1) (sym c.self.view_is) c.requires.owned in
    let is : c.owner_of-target.result ≡ first_or_0 (owner c.args.object j) = c.owner_of-target.ensures ∙ ap (λ (s : Seen). first_or_0 (owner c.args.object s.journal)) (sym c.self.view_is) in
    let t = c.owner_of-target.result in
    let lt : t < length c.self.inside.events = rw is (raising.target_known _ _ _ _ _ _ _ _ _ _ _ m c.args.object one) in
    let same_x : to_z w64 (of_z w64 c.args.x) ≡ c.args.x = search rules in
    let same_y : to_z w64 (of_z w64 c.args.y) ≡ c.args.y = search rules in
    let room = c.raise.ensures.value ∙ raising.target_pending _ _ _ _ _ _ _ _ _ _ _ m c.args.object t lt in
    let f = fault w.processor w.task no_cost 10 w.line in
    let line = fault w.processor w.task (cost w.ticks w.line) 17 w.line in
    let all = settled f j (row c.self.inside.opts c.self.inside.journal.sites c.self.inside.input.items j w.processor w.task (cost w.ticks w.line) w.line (ask.Raise c.args.object c.args.event c.args.x c.args.y)) in
    let e = raise_entry w.processor w.task (cost w.ticks w.line) c.args.object t c.args.event c.args.x c.args.y in
    let first : c.raise_entry.result ≡ e = c.raise_entry.ensures ∙ ap (λ x. raise_entry w.processor w.task (cost w.ticks w.line) c.args.object t c.args.event x (to_z w64 (of_z w64 c.args.y))) same_x ∙ ap (λ y. raise_entry w.processor w.task (cost w.ticks w.line) c.args.object t c.args.event c.args.x y) same_y in
    let same : all ≡ e ∷ [] = raising.raise_all f line j w.processor w.task (cost w.ticks w.line) c.args.object t c.args.event c.args.x c.args.y (first_or_0 (owner c.args.object j)) is (sym c.if-raise.true ∙ room) in
    subst (λ (s : Seen). Appended s (seen c.push.new.self c.self.inside.opts c.self.inside.input.items) (rows s w.processor w.task w.ticks w.line (ask.Raise c.args.object c.args.event c.args.x c.args.y))) c.self.view_is (asks.told_rows c.self.inside.journal c.push.new.self c.self.inside.opts c.self.inside.input.items c.raise_entry.result _ c.push.ensures (same ∙ ap (λ x. x ∷ []) (sym first)))

pub returns-else-raise : goal.returns-else-raise
returns-else-raise c =
    let w = c.args.who in
    let may = subst (λ (s : Seen). MayAct s w.processor w.task) (sym c.self.view_is) c.requires.may in
    let m = c.self.invariant.mirrors may.going in
    let j = c.self.inside.journal.journal in
    let one = subst (λ (s : Seen). length (owner c.args.object s.journal) ≡ 1) (sym c.self.view_is) c.requires.owned in
    let is : c.owner_of-target.result ≡ first_or_0 (owner c.args.object j) = c.owner_of-target.ensures ∙ ap (λ (s : Seen). first_or_0 (owner c.args.object s.journal)) (sym c.self.view_is) in
    let t = c.owner_of-target.result in
    let lt : t < length c.self.inside.events = rw is (raising.target_known _ _ _ _ _ _ _ _ _ _ _ m c.args.object one) in
    let same_x : to_z w64 (of_z w64 c.args.x) ≡ c.args.x = search rules in
    let same_y : to_z w64 (of_z w64 c.args.y) ≡ c.args.y = search rules in
    let room = c.raise.ensures.value ∙ raising.target_pending _ _ _ _ _ _ _ _ _ _ _ m c.args.object t lt in
    let f = fault w.processor w.task no_cost 10 w.line in
    let line = fault w.processor w.task (cost w.ticks w.line) 17 w.line in
    let all = settled f j (row c.self.inside.opts c.self.inside.journal.sites c.self.inside.input.items j w.processor w.task (cost w.ticks w.line) w.line (ask.Raise c.args.object c.args.event c.args.x c.args.y)) in
    let same : all ≡ line ∷ [] = raising.fault_all f j w.processor w.task (cost w.ticks w.line) w.line c.args.object t c.args.event c.args.x c.args.y (first_or_0 (owner c.args.object j)) is (sym c.if-raise.false ∙ room) in
    subst (λ (s : Seen). Appended s (seen c.push-else-raise.new.self c.self.inside.opts c.self.inside.input.items) (rows s w.processor w.task w.ticks w.line (ask.Raise c.args.object c.args.event c.args.x c.args.y))) c.self.view_is (asks.told_rows c.self.inside.journal c.push-else-raise.new.self c.self.inside.opts c.self.inside.input.items c.fault_entry.result _ c.push-else-raise.ensures (same ∙ ap (λ x. x ∷ []) (sym c.fault_entry.ensures)))
