use Rattle.std.proofs.Common.{◌≡◌, refl, take, ap, ◌∙◌}
use Rattle.std.specs.List.{list_any}
use Rattle.uc_names.specs.Blocks.{found}
use Rattle.uc_rules.specs.ItemBreaks.{is_named}
use Rattle.uc_check_index.specs.Topics.{constant_name}
use Rattle.uc_check_index.proofs.FirstsLemmas.{is_among}
use Rattle.uc_check_index.proofs.index.Index.has_constant.Goals as goal

pub returns : goal.returns
returns c =
    let e : c.first_in-first.result ≡ found c.self.inside.named.constants c.args.name.now = c.first_in-first.ensures ∙ ap (λ b. found c.self.inside.named.constants b) c.bytes.ensures in
    c.is_before.ensures
    ∙ is_among constant_name c.self.inside.program.now.items c.self.inside.named.constants c.args.name.now c.first_in-first.result c.args.place (λ x. is_named (constant_name x) c.args.name.now) c.self.invariant.0.constants_are e (λ x. refl)
    ∙ ap (λ p. list_any (λ x. is_named (constant_name x) c.args.name.now) (take c.args.place p.items)) c.self.view_is
