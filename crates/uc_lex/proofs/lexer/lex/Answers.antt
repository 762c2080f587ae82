use Rattle.std.proofs.Common.{arith, ◌<◌, ◌∙◌, sym, subst, length, List}
use Rattle.uc_tree.specs.declared.scan.Lexeme.{Lexeme}
use Rattle.uc_tree.specs.declared.token.Token.{Token}
use Rattle.uc_tree.specs.Tokens.{Lexed}
use Rattle.uc_lex.specs.Faults.{IsFault}
use Rattle.uc_lex.specs.Places.{InText}
use Rattle.uc_lex.proofs.Whole.{ReadTo, rest_length, read_skip, read_take, read_stop, read_end, not_both}
use Rattle.uc_lex.proofs.lexer.lex.Goals as goal

pub loop-place-preserved-in-Skip : goal.loop-place-preserved-in-Skip
loop-place-preserved-in-Skip c =
    let some : 0 < length c.text_from-rest.result.now = omega (arith, c.loop-place-test.true, rest_length c.args.text.now c.loop-place.place c.text_from-rest.result.now c.text_from-rest.ensures) in
    let P : Lexeme → Type 0 = λ f. InText f (length c.text_from-rest.result.now) in
    let inside = subst P c.in-Skip.is c.in_ok-length.ensures.inside in
    record {
      read = read_skip c.loop-place.invariant.read
          (record { rest_is = c.text_from-rest.ensures; within = inside.1; bytes_is = c.text_to.ensures; place_is = c.place_behind-place.ensures.place; at_is = c.place_behind-place.ensures.at })
          some inside (sym c.in-Skip.is ∙ c.in_ok-length.ensures.found);
      range = c.place_behind-place.ensures.range;
    }

pub loop-place-preserved : goal.loop-place-preserved
loop-place-preserved c =
    let some : 0 < length c.text_from-rest.result.now = omega (arith, c.loop-place-test.true, rest_length c.args.text.now c.loop-place.place c.text_from-rest.result.now c.text_from-rest.ensures) in
    let P : Lexeme → Type 0 = λ f. InText f (length c.text_from-rest.result.now) in
    let inside = subst P c.in-Take.is c.in_ok-length.ensures.inside in
    let Q : List Token → Type 0 = λ ts. ReadTo c.args.text.now ts c.place_behind-place-in-Take.result in
    record {
      read = subst Q (sym c.in_ok-push-in-Take.ensures.items)
          (read_take c.in-Take.kind c.loop-place.invariant.read
          (record { rest_is = c.text_from-rest.ensures; within = inside.1; bytes_is = c.text_to-in-Take.ensures; place_is = c.place_behind-place-in-Take.ensures.place; at_is = c.place_behind-place-in-Take.ensures.at })
          some inside (sym c.in-Take.is ∙ c.in_ok-length.ensures.found));
      range = c.place_behind-place-in-Take.ensures.range;
    }

pub returns-in-Stop-clause-fault : goal.returns-in-Stop-clause-fault
returns-in-Stop-clause-fault c =
    let some : 0 < length c.text_from-rest.result.now = omega (arith, c.loop-place-test.true, rest_length c.args.text.now c.loop-place.place c.text_from-rest.result.now c.text_from-rest.ensures) in
    let P : Lexeme → Type 0 = λ f. InText f (length c.text_from-rest.result.now) in
    let inside = subst P c.in-Stop.is c.in_ok-length.ensures.inside in
    let Q : Lexed → Type 0 = λ l. IsFault l c.fault_at.result in
    subst Q (sym (read_stop c.in-Stop.why c.in-Stop.behind c.loop-place.invariant.read c.text_from-rest.ensures some inside (sym c.in-Stop.is ∙ c.in_ok-length.ensures.found))) c.fault_at.ensures.fault

pub returns-in-Stop-clause-inside : goal.returns-in-Stop-clause-inside
returns-in-Stop-clause-inside c =
    let P : Lexeme → Type 0 = λ f. InText f (length c.text_from-rest.result.now) in
    let inside = subst P c.in-Stop.is c.in_ok-length.ensures.inside in
    c.fault_at.ensures.inside (length c.args.text.now)
    (omega (arith, inside, c.loop-place-test.true, rest_length c.args.text.now c.loop-place.place c.text_from-rest.result.now c.text_from-rest.ensures))

pub returns-in-Stop-clause-complete : goal.returns-in-Stop-clause-complete
returns-in-Stop-clause-complete c = λ ts read.
    let some : 0 < length c.text_from-rest.result.now = omega (arith, c.loop-place-test.true, rest_length c.args.text.now c.loop-place.place c.text_from-rest.result.now c.text_from-rest.ensures) in
    let P : Lexeme → Type 0 = λ f. InText f (length c.text_from-rest.result.now) in
    let inside = subst P c.in-Stop.is c.in_ok-length.ensures.inside in
    absurd (not_both read (read_stop c.in-Stop.why c.in-Stop.behind c.loop-place.invariant.read c.text_from-rest.ensures some inside (sym c.in-Stop.is ∙ c.in_ok-length.ensures.found)))

pub returns-clause-tokens : goal.returns-clause-tokens
returns-clause-tokens c = read_end c.loop-place.invariant.read c.loop-place-test.false

pub returns-clause-refused : goal.returns-clause-refused
returns-clause-refused c = λ why at is. absurd (not_both (read_end c.loop-place.invariant.read c.loop-place-test.false) is)
