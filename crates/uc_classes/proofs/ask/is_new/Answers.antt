use Rattle.std.proofs.Common.{ap, ◌∙◌}
use Rattle.uc_rules.specs.ClassBreaks.{fields_at, is_new_field}
use Rattle.uc_rules.specs.Names.{place_in}
use Rattle.uc_rules.specs.Sorts.{class_at}
use Rattle.uc_classes.proofs.ask.is_new.Goals as goal

pub returns : goal.returns
returns c =
    let class = c.args.walked.class.now in
    let member = c.args.listed.member in
    c.is_new_field-new.ensures (ap (λ p. class_at p c.args.walked.home.class) c.tables.ensures ∙ c.requires.walks.at)
    ∙ ap (λ d. is_new_field class (place_in member c.args.index) (fields_at class member) d.name) c.declarator.view_is
