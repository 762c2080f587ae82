use Rattle.std.proofs.Common.{◌≡◌, ap, ◌∙◌}
use Rattle.std.specs.List.{list_any}
use Rattle.uc_names.specs.Blocks.{found}
use Rattle.uc_rules.specs.ClassBreaks.{builds_more}
use Rattle.uc_check_index.specs.Topics.{built_class}
use Rattle.uc_check_index.proofs.Askings.{builders_named}
use Rattle.uc_check_index.proofs.FirstsLemmas.{is_anywhere}
use Rattle.uc_check_index.proofs.index.Index.builds_more.Goals as goal

pub returns : goal.returns
returns c =
    let e : c.first_in-first.result ≡ found c.self.inside.named.builders c.args.class.now = c.first_in-first.ensures ∙ ap (λ b. found c.self.inside.named.builders b) c.bytes.ensures in
    c.is_some.ensures
    ∙ is_anywhere built_class c.self.inside.program.now.items c.self.inside.named.builders c.args.class.now c.first_in-first.result (builds_more c.args.class.now) c.self.invariant.0.builders_are e (builders_named c.args.class.now)
    ∙ ap (λ p. list_any (builds_more c.args.class.now) p.items) c.self.view_is
