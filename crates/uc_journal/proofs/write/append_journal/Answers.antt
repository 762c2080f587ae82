use Rattle.std.proofs.Common.{ap, ◌∙◌, ◌++◌}
use Rattle.std.proofs.lemmas.List.{take_all}
use Rattle.uc_journal.specs.declared.form.Form.TheVariants.{New}
use Rattle.uc_journal.proofs.Journals.{wrote_more, wrote_all, some_entry, lines_in}
use Rattle.uc_journal.proofs.write.append_journal.Goals as goal

pub loop-e-preserved : goal.loop-e-preserved
loop-e-preserved c =
    wrote_more _ _ _ _ c.args.j.now c.loop-e.e-index some_entry c.loop-e-test.true c.loop-e.invariant c.in_ok-extend_from_slice-2.ensures.items c.write_entry-length.ensures.text

pub returns : goal.returns
returns c =
    wrote_all c.loop-e.text.items c.extend_from_slice.new.self.items c.args.text.now.items c.args.j.now
    (c.loop-e.invariant ∙ ap (λ j. c.extend_from_slice.new.self.items ++ lines_in New j) (take_all c.loop-e.e-index c.args.j.now c.loop-e-test.false)) c.in_ok-extend_from_slice.ensures.items
