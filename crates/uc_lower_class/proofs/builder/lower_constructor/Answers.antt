use Rattle.std.proofs.Common.{length, ap, sym, ◌∙◌, arith}
use Rattle.std.proofs.lemmas.List.{length-reverse}
use Rattle.uc_code.specs.Drafts.{Draft}
use Rattle.uc_resolve.specs.Resolve.{Scope}
use Rattle.uc_lower_stmt.specs.Marked.{closing}
use Rattle.uc_lower_stmt.proofs.Laying.{lays_routine}
use Rattle.uc_lower_class.specs.Bodies.{mutex_by}
use Rattle.uc_lower_class.proofs.Assembling.{constructor_laid}
use Rattle.uc_lower_class.proofs.Living.{mutex_few}
use Rattle.uc_lower_class.proofs.builder.lower_constructor.Goals as goal

pub lower_raised-requires : goal.lower_raised-requires
lower_raised-requires c =
    let opened = c.in_ok-open_freed.ensures.opened in
    let inside = lays_routine opened in
    let scope = opened.scope in
    let cells = ap (λ (s : Scope). s.cells) scope in
    let texts = ap (λ (s : Scope). s.texts) scope in
    let scopes = opened.opened in
    let ops = c.in_ok-open_freed.ensures.same in
    record {
      written = omega (arith, inside, c.requires.written);
      room = omega (arith, ops, c.requires.room);
      cells = omega (arith, cells, c.requires.cells);
      scopes = omega (arith, scopes, c.requires.scopes);
      texts = omega (arith, texts, c.requires.texts);
    }

pub close_scopes-requires : goal.close_scopes-requires
close_scopes-requires c =
    let opened = c.in_ok-open_freed.ensures.opened in
    let ops = c.in_ok-open_freed.ensures.same in
    let ends = opened.room in
    let few = mutex_few (mutex_by c.args.names.now c.args.class) in
    let body = c.in_ok-lower_raised.ensures.room in
    let same = ap (λ (d : Draft). closing d.marks) c.in_ok-lower_raised.ensures.rest in
    omega (arith, ops, ends, few, body, same, c.requires.outside, c.requires.room)

pub returns : goal.returns
returns c =
    constructor_laid c.args.names.now c.args.class c.args.routine.now (length c.marks-depth.result.now) c.args.out.now c.open_freed.new.out c.lower_raised.new.out c.close_scopes.new.out c.requires.class (sym (length-reverse c.marks-depth.result.now) ∙ ap length c.marks-depth.ensures.marks) c.in_ok-open_freed.ensures.opened c.in_ok-lower_raised.ensures c.in_ok-close_scopes.ensures
