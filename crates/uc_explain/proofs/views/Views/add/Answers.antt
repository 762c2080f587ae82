use Rattle.std.proofs.Common.{ℕ, ap, sym, ◌∙◌}
use Rattle.std.specs.Prelude.{unwrap_or, is_some}
use Rattle.std.specs.Ordering.{nat_cmp}
use Rattle.std.specs.BTreeMap.{get}
use Rattle.uc_explain.specs.Steps.{nothing}
use Rattle.uc_explain.proofs.ViewLemmas.{grown}
use Rattle.uc_explain.proofs.views.Views.add.Goals as goal

pub returns-in_ok-add-in-Some-clause-ok : goal.returns-in_ok-add-in-Some-clause-ok
returns-in_ok-add-in-Some-clause-ok c j h o =
    let m = c.args.self.now.doors in
    let n = c.get_mut.follows.lender c.add.new.self in
    let value = c.in-Some.ensures.value in
    let updates = (c.get_mut.follows.holds c.add.new.self).3 (ap is_some (sym value)) in
    grown (get nat_cmp m) (get nat_cmp n) c.in-Some.door.now c.add.new.self c.args.e.now j h (ap (λ x. unwrap_or x nothing) (sym value)) c.in_ok-add-in-Some.ensures.ok updates.1 updates.2 o

pub returns-in_ok-_before-in-None-clause-ok : goal.returns-in_ok-_before-in-None-clause-ok
returns-in_ok-_before-in-None-clause-ok c j h o =
    let m = c.args.self.now.doors in
    let k = c.get_mut.follows.lender-at-none in
    let updates = c.in_ok-_before-in-None.ensures.updates in
    let value = c.in-None.ensures.value in
    let same = λ (q : ℕ). ap (λ x. get nat_cmp x q) c.get_mut.follows.holds-at-none in
    grown (get nat_cmp m) (get nat_cmp c.insert.new.self) c.new-door.result c.add-in-None.new.self c.args.e.now j h (ap (λ x. unwrap_or x nothing) (sym value) ∙ sym c.new-door.ensures) c.in_ok-add-in-None.ensures.ok updates.1 (λ q f. updates.2 q f ∙ same q) o
