use Rattle.uc_kernel.proofs.Places.{let_by}
use Rattle.uc_kernel.proofs.rests.follow_second.Goals as goal

pub returns-in-Some : goal.returns-in-Some
returns-in-Some g c =
    let_by c.args.admission c.in-Some.e c.args.task c.args.hand.now c.follow_admission.new.hand c.args.tasks.now.items c.follow_admission.new.tasks.items c.args.loose.now.items c.follow_admission.new.loose.items c.in-Some.is c.follow_admission.ensures.moved c.follow_admission.ensures.loose
