use Rattle.std.proofs.Common.{pos}
use Rattle.std.proofs.lemmas.List.Elements.{All-get_or}
use Rattle.uc_entry.specs.declared.entry.EntryKind.TheVariants as kind
use Rattle.uc_acts.specs.Journal.{entry}
use Rattle.uc_judge.specs.Narrow.{IsTold}
use Rattle.uc_judge.proofs.ToldAll.{told_more}
use Rattle.uc_judge.proofs.judging.tell_all.Goals as goal

pub loop-e-preserved : goal.loop-e-preserved
loop-e-preserved g c =
    told_more g.A.Asks.told c.args.sites.now c.args.tasks.now c.loop-e.tasks _ c.args.entries.now c.loop-e.e-index _ c.loop-e-test.true c.loop-e.invariant c.in_ok-tell.ensures
