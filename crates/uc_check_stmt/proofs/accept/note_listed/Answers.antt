use Rattle.std.proofs.Common.{◌≡◌, Some, [], option_and_then, ap, sym, ◌∙◌}
use Rattle.uc_tree.specs.Statements.{clauses_of}
use Rattle.uc_rules.specs.ExpressionBreaks.{clauses_breaks}
use Rattle.uc_rules.specs.Firsts.{after}
use Rattle.uc_rules.specs.ProgramVisits.{home_member}
use Rattle.uc_rules.specs.Sorts.{class_at}
use Rattle.uc_check_stmt.proofs.accept.note_listed.Goals as goal

pub returns-in_ok-note_owned-in-Some : goal.returns-in_ok-note_owned-in-Some
returns-in_ok-note_owned-in-Some c =
    let env = c.args.names.now in
    let home : env.around.home ≡ Some c.in-Some.home = sym (ap (λ a. a.home) c.around.ensures) ∙ c.in-Some.is in
    c.in_ok-note_owned-in-Some.ensures
    ∙ ap (λ h. after c.args.found.now (clauses_breaks (home_member env.program h) (option_and_then (λ k. class_at env.program k.class) h) 0 [] (clauses_of c.args.clauses.now))) (sym home)
