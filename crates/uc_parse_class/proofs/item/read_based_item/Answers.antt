use Rattle.std.proofs.Common.{rules, ◌+◌, Some}
use Rattle.std.proofs.lemmas.Result.{err_from_is_err_and}
use Rattle.uc_grammar.specs.Spell.{kind_at}
use Rattle.uc_grammar.specs.Form.{Fails}
use Rattle.uc_grammar.specs.Grammar.{based_item_at, based_item, outer_routine, inner, faults}
use Rattle.uc_parse_expr.proofs.Steps.{by_fails}
use Rattle.uc_parse_simple.proofs.Steps.{behind_fails}
use Rattle.uc_tree.specs.declared.token.TokenKind.TheVariants as token
use Rattle.uc_tree.specs.declared.token.Sign.TheVariants as sign
use Rattle.uc_tree.specs.declared.token.Word.TheVariants as word
use Rattle.uc_tree.specs.declared.kinds.Owner.TheVariants as owner
use Rattle.uc_parse_class.proofs.item.read_based_item.Goals as goal

pub returns-in_err-item-in-Some-Word-UMain-clause-fails : goal.returns-in_err-item-in-Some-Word-UMain-clause-fails
returns-in_err-item-in-Some-Word-UMain-clause-fails c = let h : Fails (inner c.args.room) (faults c.args.room) (based_item c.args.pos c.args.base) c.args.tokens.now c.args.from c.in_err-item-in-Some-Word-UMain.field-0.0 = by_fails c.args.room c.args.tokens.now c.args.from (based_item_at c.args.pos c.args.base) (Some (token.Word word.UMain)) (kind_at c.args.tokens.now c.args.from) _ (search rules) (behind_fails c.args.room c.args.tokens.now (token.Sign sign.Scope) (outer_routine c.args.pos c.args.base owner.Main) (c.args.from + 1) c.in_ok-at-in-Some-Word-UMain.at _ c.in_ok-at-in-Some-Word-UMain.ensures.found c.in_err-item-in-Some-Word-UMain.ensures.fails) in
    let p = err_from_is_err_and c.from_residual-in_err-item-in-Some-Word-UMain.result c.from_residual-in_err-item-in-Some-Word-UMain.ensures.1 in rw (p.1, p.2) h
