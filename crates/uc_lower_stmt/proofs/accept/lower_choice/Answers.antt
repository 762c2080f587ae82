use Rattle.std.proofs.Common.{refl}
use Rattle.uc_lower_stmt.proofs.AcceptingLemmas.{choice_laid}
use Rattle.uc_lower_stmt.proofs.accept.lower_choice.Goals as goal

pub returns-clause-code : goal.returns-clause-code
returns-clause-code c =
    choice_laid c.args.names.now c.args.line c.add_site-site.result _ c.here-choose.result c.args.clauses.now c.args.out.now c.add_site-site.new.self c.lower_guards.new.out c.put_accept.new.out c.put.new.out c.put_holes.new.out
    c.add_site-site.ensures.number refl c.add_site-site.ensures.counted c.in_ok-lower_guards.ensures c.in_ok-put_accept.ensures c.here-choose.ensures.count c.in_ok-put.ensures c.in_ok-put_holes.ensures
