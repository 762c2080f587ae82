use Rattle.std.proofs.Common.{sym, ◌∙◌}
use Rattle.uc_kernel.proofs.Places.{get_any, set_twice, same_rest}
use Rattle.uc_kernel.proofs.rests.give.Goals as goal

pub returns-in-Some : goal.returns-in-Some
returns-in-Some g c = λ r e.
    (record { task = c.in-Some.rest.task; members = c.push.new.self }, same_rest c.args.object c.args.members r c.in-Some.rest c.push.new.self (sym c.in-Some.is ∙ c.take.ensures.value ∙ c.index_mut.ensures.value ∙ get_any _ _ _ _ c.requires.known ∙ e) c.push.ensures.items, set_twice _ _ _ _)
