use Rattle.std.proofs.Common.{rules, ◌<◌, length, map}
use Rattle.uc_tree.specs.Statements.{Declarator}
use Rattle.uc_lower_class.proofs.Naming.{push_names}
use Rattle.uc_lower_class.proofs.inits.note_declarators.Goals as goal

pub loop-declarator-preserved : goal.loop-declarator-preserved
loop-declarator-preserved c =
    let xs = c.args.declarators.now in
    let within : c.loop-declarator.declarator-index < length xs = search rules in
    push_names (λ n. n.now) (λ (d : Declarator). d.name) c.loop-declarator.names.items c.push.new.self.items c.name_of.result xs c.declarator-item.result c.loop-declarator.declarator-index (map (λ n. n.now) c.args.names.now.items) c.in_ok-push.ensures.items c.loop-declarator.invariant c.name_of.ensures c.declarator-item.is within
