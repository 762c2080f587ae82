use Rattle.std.proofs.Common.{ap, sym, subst, reverse, length, if◌then◌else◌, ◌<◌, ◌∙◌}
use Rattle.uc_names.specs.Blocks.{declared}
use Rattle.uc_names.specs.Kept.{Starts, bindings}
use Rattle.uc_names.proofs.KeptLemmas.{declare_parted, length-bindings}
use Rattle.uc_names.proofs.scope.Scope.declare.Goals as goal

pub returns-clause-declared : goal.returns-clause-declared
returns-clause-declared c =
    let parts = subst (λ n. Starts n (reverse c.self.inside.starts.items)) (sym (length-bindings c.self.inside.names c.self.inside.declared.items)) c.self.invariant.1 in
    let opened = subst (λ bs. 0 < length bs) (sym c.self.view_is) c.requires in
    declare_parted (bindings c.self.inside.names c.self.inside.declared.items) (bindings c.declare_from.new.names c.declare_from.new.declared.items) (reverse c.self.inside.starts.items) c.args.name.now c.args.id c.in_ok-new.new c.in_ok-new.ensures.declared parts opened ∙ ap (λ bs. if c.in_ok-new.new then declared bs c.args.name.now c.args.id else bs) c.self.view_is
