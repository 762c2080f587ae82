use Rattle.std.proofs.Common.{◌≡◌, take, ap, ◌∙◌}
use Rattle.std.specs.List.{list_any}
use Rattle.uc_names.specs.Blocks.{found}
use Rattle.uc_rules.specs.ItemBreaks.{defines_name}
use Rattle.uc_check_index.specs.Topics.{routine_name}
use Rattle.uc_check_index.proofs.Askings.{routines_named}
use Rattle.uc_check_index.proofs.FirstsLemmas.{is_among}
use Rattle.uc_check_index.proofs.index.Index.defines_name.Goals as goal

pub returns : goal.returns
returns c =
    let e : c.first_in-first.result ≡ found c.self.inside.named.routines c.args.name.now = c.first_in-first.ensures ∙ ap (λ b. found c.self.inside.named.routines b) c.bytes.ensures in
    c.is_before.ensures
    ∙ is_among routine_name c.self.inside.program.now.items c.self.inside.named.routines c.args.name.now c.first_in-first.result c.args.place (defines_name c.args.name.now) c.self.invariant.0.routines_are e (routines_named c.args.name.now)
    ∙ ap (λ p. list_any (defines_name c.args.name.now) (take c.args.place p.items)) c.self.view_is
