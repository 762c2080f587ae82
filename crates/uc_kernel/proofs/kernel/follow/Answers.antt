use Rattle.std.proofs.Common.{sym, ◌∙◌, arith}
use Rattle.uc_kernel.specs.KernelState.{with_asked}
use Rattle.uc_kernel.proofs.Following.{apart, known, first_known, can_let_in, done, runs_on, sound_before, runs_apart, takes_is, born_none, gone_held}
use Rattle.uc_kernel.proofs.Finishing.{follows, lies_on, small, few, known_then}
use Rattle.uc_kernel.proofs.Endings.{ended}
use Rattle.uc_kernel.proofs.kernel.follow.Goals as goal

pub drop_destroyed-requires : goal.drop_destroyed-requires
drop_destroyed-requires g c = record { apart = apart c.args.book.now c.args.task c.args.first c.args.admission (with_asked c.args.back c.requires.after.asked) c.args.tasks.now.items c.args.loose.now.items c.requires.after.act c.requires.after.old }

pub index_mut-requires : goal.index_mut-requires
index_mut-requires g c = let lt = known c.args.book.now c.args.task c.args.first c.args.admission (with_asked c.args.back c.requires.after.asked) c.args.tasks.now.items c.args.loose.now.items c.requires.after.act c.requires.after.old in let e = c.args.tasks.now.ok in omega (arith, lt, e)

pub returns-then-is_over-clause-follows : goal.returns-then-is_over-clause-follows
returns-then-is_over-clause-follows g c = λ x b.
    ended c.args.book.now c.args.task x.act.before _ x.act.after (sym c.is_over.ensures ∙ c.if-is_over.true) (sound_before c.args.book.now c.args.task c.args.first c.args.admission (with_asked c.args.back x.asked) c.args.tasks.now.items c.args.loose.now.items x.act x.old) c.args.back.members.items x.act.hand c.args.tasks.now.items c.args.loose.now.items x.act.lies (x.act.lies.out c.args.back.processor c.args.task x.act.asks.runs) (known c.args.book.now c.args.task c.args.first c.args.admission (with_asked c.args.back x.asked) c.args.tasks.now.items c.args.loose.now.items x.act x.old) (born_none c.args.book.now c.args.task c.args.first c.args.admission (with_asked c.args.back x.asked) c.args.tasks.now.items c.args.loose.now.items x.act x.old) c.args.first (takes_is c.args.book.now c.args.task c.args.first c.args.admission (with_asked c.args.back x.asked) c.args.tasks.now.items c.args.loose.now.items x.act x.old) (gone_held c.args.book.now c.args.task c.args.first c.args.admission (with_asked c.args.back x.asked) c.args.tasks.now.items c.args.loose.now.items x.act x.old) c.args.back.task c.drop_destroyed.new.hand c.drop_destroyed.ensures b c.args.back.child

pub follow_first-requires-clause-apart : goal.follow_first-requires-clause-apart
follow_first-requires-clause-apart g c = apart c.args.book.now c.args.task c.args.first c.args.admission (with_asked c.args.back c.requires.after.asked) c.args.tasks.now.items c.args.loose.now.items c.requires.after.act c.requires.after.old

pub follow_first-requires-clause-known : goal.follow_first-requires-clause-known
follow_first-requires-clause-known g c = first_known c.args.book.now c.args.task c.args.first c.args.admission (with_asked c.args.back c.requires.after.asked) c.args.tasks.now.items c.args.loose.now.items c.requires.after.act c.requires.after.old

pub follow_second-requires : goal.follow_second-requires
follow_second-requires g c =
    record { can = can_let_in c.args.book.now c.args.task c.args.first c.args.admission (with_asked c.args.back c.requires.after.asked) c.args.tasks.now.items c.args.loose.now.items c.requires.after.act c.requires.after.old c.follow_first.new.hand c.follow_first.new.loose.items c.follow_first.ensures.spare c.follow_first.ensures.loose }

pub hand_on-requires-clause-small : goal.hand_on-requires-clause-small
hand_on-requires-clause-small g c = small c.args.book.now c.args.task c.args.back.processor c.requires.after.act.before _ c.requires.after.act.after (runs_on c.args.book.now c.args.task c.args.first c.args.admission (with_asked c.args.back c.requires.after.asked) c.args.tasks.now.items c.args.loose.now.items c.requires.after.act c.requires.after.old) c.requires.after.act.range c.requires.after.act.runs c.requires.after.act.asks.runs (sound_before c.args.book.now c.args.task c.args.first c.args.admission (with_asked c.args.back c.requires.after.asked) c.args.tasks.now.items c.args.loose.now.items c.requires.after.act c.requires.after.old) (runs_apart c.args.book.now c.args.task c.args.first c.args.admission (with_asked c.args.back c.requires.after.asked) c.args.tasks.now.items c.args.loose.now.items c.requires.after.act c.requires.after.old) c.args.back.members.items c.args.back.child c.args.tasks.now.items c.args.loose.now.items c.requires.after.act.lies c.follow_second.new.hand c.follow_second.new.tasks.items c.follow_second.new.loose.items (done c.args.book.now c.args.task c.args.first c.args.admission (with_asked c.args.back c.requires.after.asked) c.args.tasks.now.items c.args.loose.now.items c.requires.after.act c.requires.after.old c.follow_first.new.hand c.follow_second.new.hand c.follow_second.new.tasks.items c.follow_first.new.loose.items c.follow_second.new.loose.items c.follow_first.ensures.hand c.follow_first.ensures.spare c.follow_first.ensures.loose c.follow_second.ensures) (known c.args.book.now c.args.task c.args.first c.args.admission (with_asked c.args.back c.requires.after.asked) c.args.tasks.now.items c.args.loose.now.items c.requires.after.act c.requires.after.old)

pub hand_on-requires-clause-few : goal.hand_on-requires-clause-few
hand_on-requires-clause-few g c = few c.args.book.now c.args.task c.args.back.processor c.requires.after.act.before _ c.requires.after.act.after (runs_on c.args.book.now c.args.task c.args.first c.args.admission (with_asked c.args.back c.requires.after.asked) c.args.tasks.now.items c.args.loose.now.items c.requires.after.act c.requires.after.old) c.requires.after.act.range c.requires.after.act.runs c.requires.after.act.asks.runs (sound_before c.args.book.now c.args.task c.args.first c.args.admission (with_asked c.args.back c.requires.after.asked) c.args.tasks.now.items c.args.loose.now.items c.requires.after.act c.requires.after.old) (runs_apart c.args.book.now c.args.task c.args.first c.args.admission (with_asked c.args.back c.requires.after.asked) c.args.tasks.now.items c.args.loose.now.items c.requires.after.act c.requires.after.old) c.args.back.members.items c.args.back.child c.args.tasks.now.items c.args.loose.now.items c.requires.after.act.lies c.follow_second.new.hand c.follow_second.new.tasks.items c.follow_second.new.loose.items (done c.args.book.now c.args.task c.args.first c.args.admission (with_asked c.args.back c.requires.after.asked) c.args.tasks.now.items c.args.loose.now.items c.requires.after.act c.requires.after.old c.follow_first.new.hand c.follow_second.new.hand c.follow_second.new.tasks.items c.follow_first.new.loose.items c.follow_second.new.loose.items c.follow_first.ensures.hand c.follow_first.ensures.spare c.follow_first.ensures.loose c.follow_second.ensures)

pub hand_on-requires-clause-known : goal.hand_on-requires-clause-known
hand_on-requires-clause-known g c = known_then c.args.book.now c.args.task c.args.back.processor c.requires.after.act.before _ c.requires.after.act.after (runs_on c.args.book.now c.args.task c.args.first c.args.admission (with_asked c.args.back c.requires.after.asked) c.args.tasks.now.items c.args.loose.now.items c.requires.after.act c.requires.after.old) c.requires.after.act.range c.requires.after.act.runs c.requires.after.act.asks.runs (sound_before c.args.book.now c.args.task c.args.first c.args.admission (with_asked c.args.back c.requires.after.asked) c.args.tasks.now.items c.args.loose.now.items c.requires.after.act c.requires.after.old) (runs_apart c.args.book.now c.args.task c.args.first c.args.admission (with_asked c.args.back c.requires.after.asked) c.args.tasks.now.items c.args.loose.now.items c.requires.after.act c.requires.after.old) c.args.back.members.items c.args.back.child c.args.tasks.now.items c.args.loose.now.items c.requires.after.act.lies c.follow_second.new.hand c.follow_second.new.tasks.items c.follow_second.new.loose.items (done c.args.book.now c.args.task c.args.first c.args.admission (with_asked c.args.back c.requires.after.asked) c.args.tasks.now.items c.args.loose.now.items c.requires.after.act c.requires.after.old c.follow_first.new.hand c.follow_second.new.hand c.follow_second.new.tasks.items c.follow_first.new.loose.items c.follow_second.new.loose.items c.follow_first.ensures.hand c.follow_first.ensures.spare c.follow_first.ensures.loose c.follow_second.ensures) (known c.args.book.now c.args.task c.args.first c.args.admission (with_asked c.args.back c.requires.after.asked) c.args.tasks.now.items c.args.loose.now.items c.requires.after.act c.requires.after.old)

pub returns-clause-lies : goal.returns-clause-lies
returns-clause-lies g c = λ going. lies_on c.args.book.now c.args.task c.args.back.processor c.requires.after.act.before _ c.requires.after.act.after (runs_on c.args.book.now c.args.task c.args.first c.args.admission (with_asked c.args.back c.requires.after.asked) c.args.tasks.now.items c.args.loose.now.items c.requires.after.act c.requires.after.old) c.requires.after.act.range c.requires.after.act.runs c.requires.after.act.asks.runs (sound_before c.args.book.now c.args.task c.args.first c.args.admission (with_asked c.args.back c.requires.after.asked) c.args.tasks.now.items c.args.loose.now.items c.requires.after.act c.requires.after.old) (runs_apart c.args.book.now c.args.task c.args.first c.args.admission (with_asked c.args.back c.requires.after.asked) c.args.tasks.now.items c.args.loose.now.items c.requires.after.act c.requires.after.old) c.args.back.members.items c.args.back.child c.args.tasks.now.items c.args.loose.now.items c.requires.after.act.lies c.follow_second.new.hand c.follow_second.new.tasks.items c.follow_second.new.loose.items (done c.args.book.now c.args.task c.args.first c.args.admission (with_asked c.args.back c.requires.after.asked) c.args.tasks.now.items c.args.loose.now.items c.requires.after.act c.requires.after.old c.follow_first.new.hand c.follow_second.new.hand c.follow_second.new.tasks.items c.follow_first.new.loose.items c.follow_second.new.loose.items c.follow_first.ensures.hand c.follow_first.ensures.spare c.follow_first.ensures.loose c.follow_second.ensures) (known c.args.book.now c.args.task c.args.first c.args.admission (with_asked c.args.back c.requires.after.asked) c.args.tasks.now.items c.args.loose.now.items c.requires.after.act c.requires.after.old) c.args.back.task c.hand_on.result c.hand_on.new.tasks.items c.hand_on.ensures

pub returns-clause-follows : goal.returns-clause-follows
returns-clause-follows g c = λ x b.
    follows c.args.book.now c.args.task c.args.back.processor x.act.before _ x.act.after (runs_on c.args.book.now c.args.task c.args.first c.args.admission (with_asked c.args.back x.asked) c.args.tasks.now.items c.args.loose.now.items x.act x.old) x.act.range x.act.runs x.act.asks.runs (sound_before c.args.book.now c.args.task c.args.first c.args.admission (with_asked c.args.back x.asked) c.args.tasks.now.items c.args.loose.now.items x.act x.old) (runs_apart c.args.book.now c.args.task c.args.first c.args.admission (with_asked c.args.back x.asked) c.args.tasks.now.items c.args.loose.now.items x.act x.old) c.args.back.members.items c.args.back.child c.args.tasks.now.items c.args.loose.now.items x.act.lies c.follow_second.new.hand c.follow_second.new.tasks.items c.follow_second.new.loose.items (done c.args.book.now c.args.task c.args.first c.args.admission (with_asked c.args.back x.asked) c.args.tasks.now.items c.args.loose.now.items x.act x.old c.follow_first.new.hand c.follow_second.new.hand c.follow_second.new.tasks.items c.follow_first.new.loose.items c.follow_second.new.loose.items c.follow_first.ensures.hand c.follow_first.ensures.spare c.follow_first.ensures.loose c.follow_second.ensures) (known c.args.book.now c.args.task c.args.first c.args.admission (with_asked c.args.back x.asked) c.args.tasks.now.items c.args.loose.now.items x.act x.old) c.args.back.task b c.hand_on.result c.hand_on.new.tasks.items (sym c.is_over.ensures ∙ c.if-is_over.false) c.hand_on.ensures
