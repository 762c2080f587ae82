use Rattle.std.proofs.Common.{◌≡◌, ap, ◌∙◌}
use Rattle.std.specs.List.{list_any}
use Rattle.uc_names.specs.Blocks.{found}
use Rattle.uc_rules.specs.ItemBreaks.{is_named_proto}
use Rattle.uc_check_index.specs.Topics.{proto_name}
use Rattle.uc_check_index.proofs.Askings.{protos_named}
use Rattle.uc_check_index.proofs.FirstsLemmas.{is_anywhere}
use Rattle.uc_check_index.proofs.index.Index.has_proto.Goals as goal

pub returns : goal.returns
returns c =
    let e : c.first_in-first.result ≡ found c.self.inside.named.protos c.args.name.now = c.first_in-first.ensures ∙ ap (λ b. found c.self.inside.named.protos b) c.bytes.ensures in
    c.is_some.ensures
    ∙ is_anywhere proto_name c.self.inside.program.now.items c.self.inside.named.protos c.args.name.now c.first_in-first.result (is_named_proto c.args.name.now) c.self.invariant.0.protos_are e (protos_named c.args.name.now)
    ∙ ap (λ p. list_any (is_named_proto c.args.name.now) p.items) c.self.view_is
