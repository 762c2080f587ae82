use Rattle.std.proofs.Common.{rules, ◌≡◌, ◌<◌, ◌++◌, length, map, ap, ◌∙◌}
use Rattle.uc_tree.specs.Programs.{Member}
use Rattle.uc_tree.specs.Objects.{form_fields}
use Rattle.uc_lower_class.specs.Inits.{names_of}
use Rattle.uc_lower_class.proofs.Naming.{push_member}
use Rattle.uc_lower_class.proofs.inits.names_in.Goals as goal

pub loop-member-preserved : goal.loop-member-preserved
loop-member-preserved c =
    let xs = c.args.members.now in
    let m = c.member-item.result in
    let within : c.loop-member.member-index < length xs = search rules in
    let one : map (λ n. n.now) c.note_member.new.names.items ≡ map (λ n. n.now) c.loop-member.names.items ++ names_of (form_fields m.form) = c.in_ok-note_member.ensures ∙ ap (λ (x : Member). map (λ n. n.now) c.loop-member.names.items ++ names_of (form_fields x.form)) c.member.view_is in
    push_member (map (λ n. n.now) c.loop-member.names.items) (map (λ n. n.now) c.note_member.new.names.items) xs m c.loop-member.member-index c.loop-member.invariant one c.member-item.is within
