use Rattle.std.proofs.Common.{false, subst, sym}
use Rattle.uc_classes.specs.Circling.{Circling}
use Rattle.uc_classes.proofs.NoBack.{no_back}
use Rattle.uc_classes.proofs.circle.leads_back.Goals as goal

pub returns-then-not-walked : goal.returns-then-not-walked
returns-then-not-walked c =
    let p = c.args.tables.now in
    let k = c.args.walked.home.class in
    let never : Circling p k false c.args.walked.holders.now = subst (λ b. Circling p k b c.args.walked.holders.now) c.if-not-walked.true c.requires.walks.circle in
    sym (no_back p k c.args.walked.class.now c.args.listed.member c.args.index c.args.listed.base.now c.args.listed.declarators.now c.args.declarator.now c.requires.walks.at c.requires.fields c.requires.there never)
