use Rattle.std.proofs.Common.{Option, sym, subst, ◌∙◌}
use Rattle.uc_machine.specs.declared.exec.UnwindReason.{UnwindReason}
use Rattle.uc_step.specs.Effects.{ended}
use Rattle.uc_step.specs.OpEffects.{act_land, Ends}
use Rattle.uc_step.proofs.coroutines.land.Goals as goal

pub returns-in-Some : goal.returns-in-Some
returns-in-Some c = λ asked code line. subst (λ (r : Option UnwindReason). Ends (act_land code r c.args.work.now) (ended c.unwind.result c.unwind.new.stop asked) c.unwind.new.work) (sym c.in-Some.is ∙ c.raised.ensures) (c.unwind.ensures asked code line)
