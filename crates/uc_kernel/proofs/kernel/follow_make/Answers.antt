use Rattle.std.proofs.Common.{sym, ◌∙◌, subst, arith}
use Rattle.uc_acts.specs.Acts.{act}
use Rattle.uc_kernel.specs.KernelState.{with_asked, kept, put_back, stored}
use Rattle.uc_kernel.specs.Calls.{Follows}
use Rattle.uc_kernel.specs.AtRest.{Lies, earlier}
use Rattle.uc_kernel.proofs.Making.{known, ended_made, small_made, few_made, lies_on_made, follows_made, lacks_made}
use Rattle.uc_kernel.proofs.kernel.follow_make.Goals as goal

pub index_mut-requires : goal.index_mut-requires
index_mut-requires g c = let lt = known c.args.book.now c.args.task (with_asked c.args.back c.requires.after.asked) c.args.tasks.now.items c.args.loose.now.items c.requires.after.from c.requires.after.makes in let e = c.args.tasks.now.ok in omega (arith, lt, e)

pub returns-then-is_over-clause-follows : goal.returns-then-is_over-clause-follows
returns-then-is_over-clause-follows g c = λ x b. ended_made c.args.book.now c.args.task (with_asked c.args.back x.asked) c.args.tasks.now.items c.args.loose.now.items x.from x.makes (sym c.is_over.ensures ∙ c.if-is_over.true) b

pub hand_on-requires-clause-small : goal.hand_on-requires-clause-small
hand_on-requires-clause-small g c = small_made c.args.book.now c.args.task (with_asked c.args.back c.requires.after.asked) c.args.tasks.now.items c.args.loose.now.items c.requires.after.from c.requires.after.makes

pub hand_on-requires-clause-few : goal.hand_on-requires-clause-few
hand_on-requires-clause-few g c = few_made c.args.book.now c.args.task (with_asked c.args.back c.requires.after.asked) c.args.tasks.now.items c.args.loose.now.items c.requires.after.from c.requires.after.makes (sym c.is_over.ensures ∙ c.if-is_over.false)

pub hand_on-requires-clause-known : goal.hand_on-requires-clause-known
hand_on-requires-clause-known g c = known c.args.book.now c.args.task (with_asked c.args.back c.requires.after.asked) c.args.tasks.now.items c.args.loose.now.items c.requires.after.from c.requires.after.makes

pub returns-clause-lies : goal.returns-clause-lies
returns-clause-lies g c = λ going.
    subst (Lies c.args.book.now.journal c.hand_on.new.tasks.items) (sym c.push_reserved.ensures.items) (lies_on_made c.args.book.now c.args.task (with_asked c.args.back c.requires.after.asked) c.args.tasks.now.items c.args.loose.now.items c.requires.after.from c.requires.after.makes (sym c.is_over.ensures ∙ c.if-is_over.false) c.hand_on.result c.hand_on.new.tasks.items c.hand_on.ensures)

pub returns-clause-follows : goal.returns-clause-follows
returns-clause-follows g c = λ x b.
    subst (λ l. Follows (put_back (act c.args.book.now.opts c.args.book.now.sites c.args.book.now.input x.from.before c.args.back.processor c.args.task c.args.back.ticks x.asked) c.args.task c.args.back.task c.args.back.members.items c.args.back.child (kept (stored (earlier x.from.before c.args.book.now) b c.args.tasks.now.items c.args.loose.now.items))) (kept (stored c.args.book.now b c.hand_on.new.tasks.items l)) c.args.back.processor c.args.task c.hand_on.result) (sym c.push_reserved.ensures.items) (follows_made c.args.book.now c.args.task (with_asked c.args.back x.asked) c.args.tasks.now.items c.args.loose.now.items x.from x.makes (sym c.is_over.ensures ∙ c.if-is_over.false) c.hand_on.result c.hand_on.new.tasks.items c.hand_on.ensures b)

pub returns-clause-lacks : goal.returns-clause-lacks
returns-clause-lacks g c =
    lacks_made c.args.book.now c.args.task (with_asked c.args.back c.requires.after.asked) c.args.tasks.now.items c.args.loose.now.items c.requires.after.from c.requires.after.makes (sym c.is_over.ensures ∙ c.if-is_over.false) c.hand_on.result c.hand_on.new.tasks.items c.hand_on.ensures
