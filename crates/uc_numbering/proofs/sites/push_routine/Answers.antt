use Rattle.std.proofs.Common.{◌≡◌, ◌++◌, map, ap, ◌∙◌}
use Rattle.std.specs.Prelude.{option_map}
use Rattle.uc_tree.specs.Statements.{stmts_of}
use Rattle.uc_tree.specs.Gathered.{gathered_all}
use Rattle.uc_numbering.specs.Flat.{itself, flat}
use Rattle.uc_numbering.specs.Sites.{names_of, own_listed}
use Rattle.uc_numbering.proofs.Places.{sites_are}
use Rattle.uc_numbering.proofs.sites.push_routine.Goals as goal

pub returns : goal.returns
returns c =
    let names : map (λ n. n.now) c.deref-2.result.now ≡ names_of (option_map (λ k. k.now) c.args.defined.now.class) = ap (λ l. map (λ n. n.now) l) c.deref-2.ensures.value ∙ c.in_ok-names.ensures.names in
    let body : stmts_of c.deref.result.now ≡ c.args.defined.now.routine.now.body = ap stmts_of c.deref.ensures.value ∙ ap (λ r. r.body) c.routine.view_is in
    let statements : map (λ s. s.now) c.deref-3.result.now ≡ gathered_all itself c.args.defined.now.routine.now.body = ap (λ l. map (λ s. s.now) l) c.deref-3.ensures.value ∙ c.in_ok-statements.ensures ∙ ap (λ b. gathered_all itself b) body in
    c.in_ok-push_sites.ensures ∙ ap (λ l. c.args.found.now.items ++ l)
    (ap (λ ns. flat (own_listed ns c.args.defined.now.number) (map (λ s. s.now) c.deref-3.result.now)) names
    ∙ ap (λ ss. flat (own_listed (names_of (option_map (λ k. k.now) c.args.defined.now.class)) c.args.defined.now.number) ss) statements
    ∙ sites_are (option_map (λ k. k.now) c.args.defined.now.class) c.args.defined.now.number c.args.defined.now.routine.now.body)
