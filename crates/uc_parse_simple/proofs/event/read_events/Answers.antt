use Rattle.std.proofs.Common.{rules, ◌≡◌, arith, [], ◌∷◌, ◌++◌}
use Rattle.uc_grammar.specs.Spell.{Begins, Run}
use Rattle.uc_grammar.specs.Form.{Spells}
use Rattle.uc_grammar.specs.Tables.{sign_of, is_less}
use Rattle.uc_grammar.specs.Grammar.{event_form, inner}
use Rattle.uc_grammar.proofs.Fit.{run_more}
use Rattle.uc_parse_simple.proofs.event.read_events.Goals as goal

pub items-init : goal.items-init
unfolding Run
items-init c = search rules

pub items-preserved : goal.items-preserved
items-preserved c = let b : Begins (λ o. is_less (sign_of o)) c.args.tokens.now c.items.at = search rules in
    record {
      run = let more = run_more (λ o. is_less (sign_of o)) (Spells (inner c.args.room) event_form) c.args.tokens.now c.args.from c.items.at c.in_ok-next.end c.items.all.items c.in_ok-next.next c.items.invariant.run b c.in_ok-next.ensures.found in
          let e : c.push.new.self.items ≡ c.items.all.items ++ c.in_ok-next.next ∷ [] = search rules in rw e more;
      after = omega (arith, c.in_ok-next.ensures.moved.0);
      within = c.in_ok-next.ensures.moved.1;
    }
