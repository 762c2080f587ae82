use Rattle.std.proofs.Common.{ℕ, Option, ap, sym, ◌∙◌}
use Rattle.uc_tree.specs.declared.kinds.Place.{Place}
use Rattle.uc_tree.specs.Programs.{Sig}
use Rattle.uc_resolve.specs.Resolve.{class_by, has_number_in, purpose_of, value_purpose}
use Rattle.uc_lower_stmt.specs.Routines.{purpose_by}
use Rattle.uc_lower_stmt.proofs.RoutinesLemmas.{called_purpose, main_number_none, main_purpose, mutex_purpose, numbered_lowered, plain_lowered}
use Rattle.uc_lower_stmt.proofs.routine.lower_statements.Goals as goal

pub returns-in_ok-lower_main-in-Some-clause-code : goal.returns-in_ok-lower_main-in-Some-clause-code
returns-in_ok-lower_main-in-Some-clause-code c =
    let p = c.args.names.now in
    let r = c.args.routine.now in
    let class = class_by p c.args.out.now.place.class in
    let main = sym c.in-Some.is ∙ c.requires.main in
    plain_lowered p (purpose_by c.in-Some.main) (purpose_of p c.args.number class r) (has_number_in p class r.sig) c.args.last r c.args.out.now _ (main_purpose p r c.args.number class c.in-Some.main main)
    (main_number_none p r c.args.number class c.in-Some.main c.requires.named main) c.in_ok-lower_main-in-Some.ensures.code

pub returns-then-is_mutex_member-clause-code : goal.returns-then-is_mutex_member-clause-code
returns-then-is_mutex_member-clause-code c =
    let p = c.args.names.now in
    let r = c.args.routine.now in
    let class = class_by p c.args.out.now.place.class in
    let mutex = sym (c.is_mutex_member.ensures ∙ (ap (λ (o : Option ℕ). has_number_in p (class_by p o) c.sig_of.result.now) (ap (λ (q : Place). q.class) c.place.ensures) ∙ ap (λ (s : Sig). has_number_in p class s) c.sig_of.ensures)) ∙ c.if-is_mutex_member.true in
    numbered_lowered p (purpose_of p c.args.number class r) (has_number_in p class r.sig) c.args.last r c.args.out.now _ (mutex_purpose p r c.args.number class mutex (sym c.in-None.is ∙ c.requires.main)) mutex c.in_ok-lower_mutex-in-None.ensures.code

pub returns-in_ok-lower_called-in-None-clause-code : goal.returns-in_ok-lower_called-in-None-clause-code
returns-in_ok-lower_called-in-None-clause-code c =
    let p = c.args.names.now in
    let r = c.args.routine.now in
    let class = class_by p c.args.out.now.place.class in
    let called = sym (c.is_mutex_member.ensures ∙ (ap (λ (o : Option ℕ). has_number_in p (class_by p o) c.sig_of.result.now) (ap (λ (q : Place). q.class) c.place.ensures) ∙ ap (λ (s : Sig). has_number_in p class s) c.sig_of.ensures)) ∙ c.if-is_mutex_member.false in
    plain_lowered p (value_purpose p r.sig.ret) (purpose_of p c.args.number class r) (has_number_in p class r.sig) c.args.last r c.args.out.now _ (called_purpose p r c.args.number class c.requires.plain called (sym c.in-None.is ∙ c.requires.main)) called c.in_ok-lower_called-in-None.ensures.code
