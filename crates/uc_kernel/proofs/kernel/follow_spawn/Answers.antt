use Rattle.std.proofs.Common.{sym, ap, ◌∙◌, subst, Some, arith, not}
use Rattle.std.specs.Prelude.{slice_set}
use Rattle.uc_acts.specs.Acts.{act}
use Rattle.uc_acts.specs.Journal.{is_over}
use Rattle.uc_kernel.specs.KernelState.{with_asked, kept, put_back, stored}
use Rattle.uc_kernel.specs.Calls.{Ends, Follows}
use Rattle.uc_kernel.specs.AtRest.{earlier}
use Rattle.uc_kernel.proofs.Hands.{no_both}
use Rattle.uc_kernel.proofs.Spawning.{sound_spawn, runs_spawn, known_spawn, apart_spawn, elsewhere_spawn, over_without, ended_without, known_with, ended_with, done_with, brings_one}
use Rattle.uc_kernel.proofs.Finishing.{follows, lies_on, small, few, known_then}
use Rattle.uc_kernel.proofs.kernel.follow_spawn.Goals as goal

pub index_mut-requires : goal.index_mut-requires
index_mut-requires g c = let lt = known_spawn c.args.book.now c.args.task (with_asked c.args.back c.requires.after.asked) c.args.tasks.now.items c.args.loose.now.items c.requires.after.act.from c.requires.after.spawns c.args.first c.requires.after.act.first_is in let e = c.args.tasks.now.ok in omega (arith, lt, e)

pub returns-then-makes_none-clause-lies : goal.returns-then-makes_none-clause-lies
returns-then-makes_none-clause-lies g c = λ going. absurd (no_both (is_over c.args.book.now.journal) (over_without c.args.book.now c.args.task (with_asked c.args.back c.requires.after.asked) c.args.tasks.now.items c.args.loose.now.items c.requires.after.act.from c.requires.after.spawns c.args.first c.requires.after.act.first_is (c.makes_none.ensures ∙ ap not c.if-makes_none.true)) going)

pub returns-then-makes_none-clause-follows : goal.returns-then-makes_none-clause-follows
returns-then-makes_none-clause-follows g c = λ x b.
    subst (λ z. Ends (put_back (act c.args.book.now.opts c.args.book.now.sites c.args.book.now.input z c.args.back.processor c.args.task c.args.back.ticks x.asked) c.args.task c.args.back.task c.args.back.members.items c.args.back.child (kept (stored (earlier z c.args.book.now) b c.args.tasks.now.items c.args.loose.now.items))) (kept (stored c.args.book.now b (slice_set c.args.tasks.now.items c.args.task (Some (record { task = c.args.back.task; members = c.args.back.members }))) c.args.loose.now.items))) (sym x.act.before_is) (ended_without c.args.book.now c.args.task (with_asked c.args.back x.asked) c.args.tasks.now.items c.args.loose.now.items x.act.from x.spawns c.args.first x.act.first_is (c.makes_none.ensures ∙ ap not c.if-makes_none.true) b)

pub settle_child-requires-clause-apart : goal.settle_child-requires-clause-apart
settle_child-requires-clause-apart g c = apart_spawn c.args.book.now c.args.task (with_asked c.args.back c.requires.after.asked) c.args.tasks.now.items c.args.loose.now.items c.requires.after.act.from c.requires.after.spawns c.args.first c.requires.after.act.first_is

pub index_mut-requires-then-is_over : goal.index_mut-requires-then-is_over
index_mut-requires-then-is_over g c = let br = brings_one c.args.back.child c.requires.child in let lt = known_with c.args.book.now c.args.task (with_asked c.args.back c.requires.after.asked) c.args.tasks.now.items c.args.loose.now.items c.requires.after.act.from c.requires.after.spawns c.args.first c.requires.after.act.first_is br.child br.is (c.makes_none.ensures ∙ ap not c.if-makes_none.false) c.settle_child.new.members c.settle_child.ensures.members c.settle_child.ensures.spare c.settle_child.new.tasks.items c.settle_child.ensures.child in let e = c.settle_child.new.tasks.ok in omega (arith, lt, e)

pub returns-then-is_over-clause-follows : goal.returns-then-is_over-clause-follows
returns-then-is_over-clause-follows g c = λ x b. let br = brings_one c.args.back.child c.requires.child in
    subst (λ z. Ends (put_back (act c.args.book.now.opts c.args.book.now.sites c.args.book.now.input z c.args.back.processor c.args.task c.args.back.ticks x.asked) c.args.task c.args.back.task c.args.back.members.items c.args.back.child (kept (stored (earlier z c.args.book.now) b c.args.tasks.now.items c.args.loose.now.items))) (kept (stored c.args.book.now b (slice_set c.settle_child.new.tasks.items c.args.task (Some (record { task = c.args.back.task; members = c.settle_child.new.members }))) c.args.loose.now.items))) (sym x.act.before_is) (ended_with c.args.book.now c.args.task (with_asked c.args.back x.asked) c.args.tasks.now.items c.args.loose.now.items x.act.from x.spawns c.args.first x.act.first_is br.child br.is (c.makes_none.ensures ∙ ap not c.if-makes_none.false) c.settle_child.new.members c.settle_child.ensures.members c.settle_child.ensures.spare c.settle_child.new.tasks.items c.settle_child.ensures.child (sym c.is_over.ensures ∙ c.if-is_over.true) b)

pub hand_on-requires-clause-small : goal.hand_on-requires-clause-small
hand_on-requires-clause-small g c = let br = brings_one c.args.back.child c.requires.child in small c.args.book.now c.args.task c.args.back.processor c.requires.after.act.from.before _ c.requires.after.act.from.after (runs_spawn c.args.book.now c.args.task (with_asked c.args.back c.requires.after.asked) c.args.tasks.now.items c.args.loose.now.items c.requires.after.act.from c.requires.after.spawns c.args.first c.requires.after.act.first_is) c.requires.after.act.from.range c.requires.after.act.from.runs c.requires.after.act.from.asks.runs (sound_spawn c.args.book.now c.args.task (with_asked c.args.back c.requires.after.asked) c.args.tasks.now.items c.args.loose.now.items c.requires.after.act.from c.requires.after.spawns c.args.first c.requires.after.act.first_is) (elsewhere_spawn c.args.book.now c.args.task (with_asked c.args.back c.requires.after.asked) c.args.tasks.now.items c.args.loose.now.items c.requires.after.act.from c.requires.after.spawns c.args.first c.requires.after.act.first_is) c.args.back.members.items c.args.back.child c.args.tasks.now.items c.args.loose.now.items c.requires.after.act.from.lies c.settle_child.new.members c.settle_child.new.tasks.items c.args.loose.now.items (done_with c.args.book.now c.args.task (with_asked c.args.back c.requires.after.asked) c.args.tasks.now.items c.args.loose.now.items c.requires.after.act.from c.requires.after.spawns c.args.first c.requires.after.act.first_is br.child br.is (c.makes_none.ensures ∙ ap not c.if-makes_none.false) c.settle_child.new.members c.settle_child.ensures.members c.settle_child.ensures.spare c.settle_child.new.tasks.items c.settle_child.ensures.child (sym c.is_over.ensures ∙ c.if-is_over.false)) (known_spawn c.args.book.now c.args.task (with_asked c.args.back c.requires.after.asked) c.args.tasks.now.items c.args.loose.now.items c.requires.after.act.from c.requires.after.spawns c.args.first c.requires.after.act.first_is)

pub hand_on-requires-clause-few : goal.hand_on-requires-clause-few
hand_on-requires-clause-few g c = let br = brings_one c.args.back.child c.requires.child in few c.args.book.now c.args.task c.args.back.processor c.requires.after.act.from.before _ c.requires.after.act.from.after (runs_spawn c.args.book.now c.args.task (with_asked c.args.back c.requires.after.asked) c.args.tasks.now.items c.args.loose.now.items c.requires.after.act.from c.requires.after.spawns c.args.first c.requires.after.act.first_is) c.requires.after.act.from.range c.requires.after.act.from.runs c.requires.after.act.from.asks.runs (sound_spawn c.args.book.now c.args.task (with_asked c.args.back c.requires.after.asked) c.args.tasks.now.items c.args.loose.now.items c.requires.after.act.from c.requires.after.spawns c.args.first c.requires.after.act.first_is) (elsewhere_spawn c.args.book.now c.args.task (with_asked c.args.back c.requires.after.asked) c.args.tasks.now.items c.args.loose.now.items c.requires.after.act.from c.requires.after.spawns c.args.first c.requires.after.act.first_is) c.args.back.members.items c.args.back.child c.args.tasks.now.items c.args.loose.now.items c.requires.after.act.from.lies c.settle_child.new.members c.settle_child.new.tasks.items c.args.loose.now.items (done_with c.args.book.now c.args.task (with_asked c.args.back c.requires.after.asked) c.args.tasks.now.items c.args.loose.now.items c.requires.after.act.from c.requires.after.spawns c.args.first c.requires.after.act.first_is br.child br.is (c.makes_none.ensures ∙ ap not c.if-makes_none.false) c.settle_child.new.members c.settle_child.ensures.members c.settle_child.ensures.spare c.settle_child.new.tasks.items c.settle_child.ensures.child (sym c.is_over.ensures ∙ c.if-is_over.false))

pub hand_on-requires-clause-known : goal.hand_on-requires-clause-known
hand_on-requires-clause-known g c = let br = brings_one c.args.back.child c.requires.child in known_then c.args.book.now c.args.task c.args.back.processor c.requires.after.act.from.before _ c.requires.after.act.from.after (runs_spawn c.args.book.now c.args.task (with_asked c.args.back c.requires.after.asked) c.args.tasks.now.items c.args.loose.now.items c.requires.after.act.from c.requires.after.spawns c.args.first c.requires.after.act.first_is) c.requires.after.act.from.range c.requires.after.act.from.runs c.requires.after.act.from.asks.runs (sound_spawn c.args.book.now c.args.task (with_asked c.args.back c.requires.after.asked) c.args.tasks.now.items c.args.loose.now.items c.requires.after.act.from c.requires.after.spawns c.args.first c.requires.after.act.first_is) (elsewhere_spawn c.args.book.now c.args.task (with_asked c.args.back c.requires.after.asked) c.args.tasks.now.items c.args.loose.now.items c.requires.after.act.from c.requires.after.spawns c.args.first c.requires.after.act.first_is) c.args.back.members.items c.args.back.child c.args.tasks.now.items c.args.loose.now.items c.requires.after.act.from.lies c.settle_child.new.members c.settle_child.new.tasks.items c.args.loose.now.items (done_with c.args.book.now c.args.task (with_asked c.args.back c.requires.after.asked) c.args.tasks.now.items c.args.loose.now.items c.requires.after.act.from c.requires.after.spawns c.args.first c.requires.after.act.first_is br.child br.is (c.makes_none.ensures ∙ ap not c.if-makes_none.false) c.settle_child.new.members c.settle_child.ensures.members c.settle_child.ensures.spare c.settle_child.new.tasks.items c.settle_child.ensures.child (sym c.is_over.ensures ∙ c.if-is_over.false)) (known_spawn c.args.book.now c.args.task (with_asked c.args.back c.requires.after.asked) c.args.tasks.now.items c.args.loose.now.items c.requires.after.act.from c.requires.after.spawns c.args.first c.requires.after.act.first_is)

pub returns-clause-lies : goal.returns-clause-lies
returns-clause-lies g c = λ going. let br = brings_one c.args.back.child c.requires.child in lies_on c.args.book.now c.args.task c.args.back.processor c.requires.after.act.from.before _ c.requires.after.act.from.after (runs_spawn c.args.book.now c.args.task (with_asked c.args.back c.requires.after.asked) c.args.tasks.now.items c.args.loose.now.items c.requires.after.act.from c.requires.after.spawns c.args.first c.requires.after.act.first_is) c.requires.after.act.from.range c.requires.after.act.from.runs c.requires.after.act.from.asks.runs (sound_spawn c.args.book.now c.args.task (with_asked c.args.back c.requires.after.asked) c.args.tasks.now.items c.args.loose.now.items c.requires.after.act.from c.requires.after.spawns c.args.first c.requires.after.act.first_is) (elsewhere_spawn c.args.book.now c.args.task (with_asked c.args.back c.requires.after.asked) c.args.tasks.now.items c.args.loose.now.items c.requires.after.act.from c.requires.after.spawns c.args.first c.requires.after.act.first_is) c.args.back.members.items c.args.back.child c.args.tasks.now.items c.args.loose.now.items c.requires.after.act.from.lies c.settle_child.new.members c.settle_child.new.tasks.items c.args.loose.now.items (done_with c.args.book.now c.args.task (with_asked c.args.back c.requires.after.asked) c.args.tasks.now.items c.args.loose.now.items c.requires.after.act.from c.requires.after.spawns c.args.first c.requires.after.act.first_is br.child br.is (c.makes_none.ensures ∙ ap not c.if-makes_none.false) c.settle_child.new.members c.settle_child.ensures.members c.settle_child.ensures.spare c.settle_child.new.tasks.items c.settle_child.ensures.child (sym c.is_over.ensures ∙ c.if-is_over.false)) (known_spawn c.args.book.now c.args.task (with_asked c.args.back c.requires.after.asked) c.args.tasks.now.items c.args.loose.now.items c.requires.after.act.from c.requires.after.spawns c.args.first c.requires.after.act.first_is) c.args.back.task c.hand_on.result c.hand_on.new.tasks.items c.hand_on.ensures

pub returns-clause-follows : goal.returns-clause-follows
returns-clause-follows g c = λ x b. let br = brings_one c.args.back.child c.requires.child in
    subst (λ z. Follows (put_back (act c.args.book.now.opts c.args.book.now.sites c.args.book.now.input z c.args.back.processor c.args.task c.args.back.ticks x.asked) c.args.task c.args.back.task c.args.back.members.items c.args.back.child (kept (stored (earlier z c.args.book.now) b c.args.tasks.now.items c.args.loose.now.items))) (kept (stored c.args.book.now b c.hand_on.new.tasks.items c.args.loose.now.items)) c.args.back.processor c.args.task c.hand_on.result) (sym x.act.before_is) (follows c.args.book.now c.args.task c.args.back.processor x.act.from.before _ x.act.from.after (runs_spawn c.args.book.now c.args.task (with_asked c.args.back x.asked) c.args.tasks.now.items c.args.loose.now.items x.act.from x.spawns c.args.first x.act.first_is) x.act.from.range x.act.from.runs x.act.from.asks.runs (sound_spawn c.args.book.now c.args.task (with_asked c.args.back x.asked) c.args.tasks.now.items c.args.loose.now.items x.act.from x.spawns c.args.first x.act.first_is) (elsewhere_spawn c.args.book.now c.args.task (with_asked c.args.back x.asked) c.args.tasks.now.items c.args.loose.now.items x.act.from x.spawns c.args.first x.act.first_is) c.args.back.members.items c.args.back.child c.args.tasks.now.items c.args.loose.now.items x.act.from.lies c.settle_child.new.members c.settle_child.new.tasks.items c.args.loose.now.items (done_with c.args.book.now c.args.task (with_asked c.args.back x.asked) c.args.tasks.now.items c.args.loose.now.items x.act.from x.spawns c.args.first x.act.first_is br.child br.is (c.makes_none.ensures ∙ ap not c.if-makes_none.false) c.settle_child.new.members c.settle_child.ensures.members c.settle_child.ensures.spare c.settle_child.new.tasks.items c.settle_child.ensures.child (sym c.is_over.ensures ∙ c.if-is_over.false)) (known_spawn c.args.book.now c.args.task (with_asked c.args.back x.asked) c.args.tasks.now.items c.args.loose.now.items x.act.from x.spawns c.args.first x.act.first_is) c.args.back.task b c.hand_on.result c.hand_on.new.tasks.items (sym c.is_over.ensures ∙ c.if-is_over.false) c.hand_on.ensures)
