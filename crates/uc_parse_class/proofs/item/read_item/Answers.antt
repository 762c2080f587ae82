use Rattle.std.proofs.Common.{rules, ◌≡◌, ◌+◌, Some, subst}
use Rattle.std.proofs.lemmas.Result.{IfErr-weaker, IfOk-weaker}
use Rattle.uc_grammar.specs.Spell.{kind_at, pos_at}
use Rattle.uc_grammar.specs.Form.{Spells, Fails}
use Rattle.uc_grammar.specs.Grammar.{constant_rest, item_at, using_rest, inner, faults}
use Rattle.uc_parse_expr.proofs.Steps.{by_found, by_fails}
use Rattle.uc_parse_class.specs.Forms.{named_item}
use Rattle.uc_tree.specs.declared.token.TokenKind.TheVariants as token
use Rattle.uc_tree.specs.declared.token.Word.TheVariants as word
use Rattle.uc_parse_class.proofs.item.read_item.Goals as goal

pub returns-in-Some-Word-Using-clause-found : goal.returns-in-Some-Word-Using-clause-found
returns-in-Some-Word-Using-clause-found c = let e : Some (token.Word word.Using) ≡ kind_at c.args.tokens.now c.args.from = search rules in
    IfOk-weaker c.read_using.result _ _ (λ r h. by_found c.args.room c.args.tokens.now c.args.from (item_at (pos_at c.args.tokens.now c.args.from)) (Some (token.Word word.Using)) (kind_at c.args.tokens.now c.args.from) r.1 r.0 e (subst (λ p. Spells (inner c.args.room) (using_rest p) c.args.tokens.now (c.args.from + 1) r.1 r.0) c.pos_at-pos.ensures h)) c.read_using.ensures.found

pub returns-in-Some-Word-Using-clause-fails : goal.returns-in-Some-Word-Using-clause-fails
returns-in-Some-Word-Using-clause-fails c = let e : Some (token.Word word.Using) ≡ kind_at c.args.tokens.now c.args.from = search rules in
    IfErr-weaker c.read_using.result _ _ (λ f h. by_fails c.args.room c.args.tokens.now c.args.from (item_at (pos_at c.args.tokens.now c.args.from)) (Some (token.Word word.Using)) (kind_at c.args.tokens.now c.args.from) f e (subst (λ p. Fails (inner c.args.room) (faults c.args.room) (using_rest p) c.args.tokens.now (c.args.from + 1) f) c.pos_at-pos.ensures h)) c.read_using.ensures.fails

pub returns-in-Some-Word-Const-clause-found : goal.returns-in-Some-Word-Const-clause-found
returns-in-Some-Word-Const-clause-found c = let e : Some (token.Word word.Const) ≡ kind_at c.args.tokens.now c.args.from = search rules in
    IfOk-weaker c.read_constant.result _ _ (λ r h. by_found c.args.room c.args.tokens.now c.args.from (item_at (pos_at c.args.tokens.now c.args.from)) (Some (token.Word word.Const)) (kind_at c.args.tokens.now c.args.from) r.1 r.0 e (subst (λ p. Spells (inner c.args.room) (constant_rest p) c.args.tokens.now (c.args.from + 1) r.1 r.0) c.pos_at-pos.ensures h)) c.read_constant.ensures.found

pub returns-in-Some-Word-Const-clause-fails : goal.returns-in-Some-Word-Const-clause-fails
returns-in-Some-Word-Const-clause-fails c = let e : Some (token.Word word.Const) ≡ kind_at c.args.tokens.now c.args.from = search rules in
    IfErr-weaker c.read_constant.result _ _ (λ f h. by_fails c.args.room c.args.tokens.now c.args.from (item_at (pos_at c.args.tokens.now c.args.from)) (Some (token.Word word.Const)) (kind_at c.args.tokens.now c.args.from) f e (subst (λ p. Fails (inner c.args.room) (faults c.args.room) (constant_rest p) c.args.tokens.now (c.args.from + 1) f) c.pos_at-pos.ensures h)) c.read_constant.ensures.fails

pub returns-in-Some-Name-clause-found : goal.returns-in-Some-Name-clause-found
returns-in-Some-Name-clause-found c = let e : Some (token.Name c.in-Some-Name.name) ≡ kind_at c.args.tokens.now c.args.from = search rules in
    IfOk-weaker c.read_named_item.result _ _ (λ r h. by_found c.args.room c.args.tokens.now c.args.from (item_at (pos_at c.args.tokens.now c.args.from)) (Some (token.Name c.in-Some-Name.name)) (kind_at c.args.tokens.now c.args.from) r.1 r.0 e (subst (λ p. Spells (inner c.args.room) (named_item p c.in-Some-Name.name) c.args.tokens.now (c.args.from + 1) r.1 r.0) c.pos_at-pos.ensures h)) c.read_named_item.ensures.found

pub returns-in-Some-Name-clause-fails : goal.returns-in-Some-Name-clause-fails
returns-in-Some-Name-clause-fails c = let e : Some (token.Name c.in-Some-Name.name) ≡ kind_at c.args.tokens.now c.args.from = search rules in
    IfErr-weaker c.read_named_item.result _ _ (λ f h. by_fails c.args.room c.args.tokens.now c.args.from (item_at (pos_at c.args.tokens.now c.args.from)) (Some (token.Name c.in-Some-Name.name)) (kind_at c.args.tokens.now c.args.from) f e (subst (λ p. Fails (inner c.args.room) (faults c.args.room) (named_item p c.in-Some-Name.name) c.args.tokens.now (c.args.from + 1) f) c.pos_at-pos.ensures h)) c.read_named_item.ensures.fails
