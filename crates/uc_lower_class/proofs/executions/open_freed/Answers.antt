use Rattle.std.proofs.Common.{length, refl, ap, sym, ◌∙◌}
use Rattle.uc_code.specs.Drafts.{Draft}
use Rattle.uc_lower_class.proofs.Living.{freed_none, freed_off, freed_on}
use Rattle.uc_lower_class.proofs.executions.open_freed.Goals as goal

pub returns-then-is_mutex-clause-opened : goal.returns-then-is_mutex-clause-opened
returns-then-is_mutex-clause-opened c = freed_on c.args.names.now c.args.class c.in-Some.class c.freed_main-main.result c.args.out.now c.open.new.self c.in-Some.is (sym c.is_mutex.ensures ∙ c.if-is_mutex.true) c.freed_main-main.ensures c.in_ok-_row-in-Some.ensures.ok c.in_ok-_row-in-Some.ensures.kept

pub returns-then-is_mutex-clause-same : goal.returns-then-is_mutex-clause-same
returns-then-is_mutex-clause-same c = ap (λ (d : Draft). length d.ops) c.in_ok-_row-in-Some.ensures.ok

pub returns-else-is_mutex-clause-opened : goal.returns-else-is_mutex-clause-opened
returns-else-is_mutex-clause-opened c = freed_off c.args.names.now c.args.class c.in-Some.class c.args.out.now c.in-Some.is (sym c.is_mutex.ensures ∙ c.if-is_mutex.false)

pub returns-else-is_mutex-clause-same : goal.returns-else-is_mutex-clause-same
returns-else-is_mutex-clause-same c = refl

pub returns-in-None-clause-opened : goal.returns-in-None-clause-opened
returns-in-None-clause-opened c = freed_none c.args.names.now c.args.class c.args.out.now c.in-None.is

pub returns-in-None-clause-same : goal.returns-in-None-clause-same
returns-in-None-clause-same c = refl
