use Rattle.std.proofs.Common.{rules, ◌≡◌, Some}
use Rattle.uc_grammar.specs.Spell.{kind_at}
use Rattle.uc_grammar.specs.Tables.{word_of, handler_of}
use Rattle.uc_parse_stmt.proofs.HeadsLemmas.{handler_head}
use Rattle.uc_parse_stmt.proofs.head.read_handler_head.Goals as goal

pub returns-in_ok-head-in-Some-clause-leads : goal.returns-in_ok-head-in-Some-clause-leads
returns-in_ok-head-in-Some-clause-leads c =
    let e : Some c.in-Some.kind ≡ handler_of (word_of (kind_at c.args.tokens.now c.args.from)) = search rules in
    handler_head c.args.room c.args.tokens.now c.pos_at-pos.result c.in-Some.kind c.in_ok-head-in-Some.head c.args.from c.in_ok-head-in-Some.at c.pos_at-pos.ensures e c.in_ok-head-in-Some.ensures.leads
