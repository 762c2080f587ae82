use Rattle.std.proofs.Common.{ap, ◌∙◌}
use Rattle.uc_rules.specs.Names.{place_in}
use Rattle.uc_rules.specs.Visits.{AtField}
use Rattle.uc_types.specs.FirstBreak.{told_owners}
use Rattle.uc_classes.proofs.ask.ask_field.Goals as goal

pub returns : goal.returns
returns c =
    let place = place_in c.args.listed.member c.args.index in
    let visit = AtField c.args.names.now c.args.walked.class.now c.args.listed.access c.args.listed.base.now c.args.declarator.now place in
    c.in_ok-note_owned.ensures c.args.listed.access place ∙ ap (λ g. told_owners g visit) c.note_text.ensures
