use Rattle.std.proofs.Common.{rules, arith, [], ◌∷◌, ◌++◌, refl}
use Rattle.uc_tree.specs.declared.kinds.Access.TheVariants as access
use Rattle.uc_grammar.specs.Names.{part_name}
use Rattle.uc_grammar.specs.Spell.{Begins, Run}
use Rattle.uc_grammar.specs.Form.{Spells, inside}
use Rattle.uc_grammar.specs.Tables.{in_braces}
use Rattle.uc_grammar.specs.Grammar.{inner}
use Rattle.uc_grammar.proofs.Fit.{run_more}
use Rattle.uc_parse_class.specs.Parts.{part_of}
use Rattle.uc_parse_class.proofs.Joined.{one_more_listed, one_more_last}
use Rattle.uc_parse_class.proofs.class.read_members.Goals as goal

pub parts-init : goal.parts-init
unfolding Run
parts-init c = record { parts = []; run = refl; listed = search rules; last = refl; after = omega arith; within = c.requires.begins }

pub parts-preserved : goal.parts-preserved
parts-preserved c = let b : Begins in_braces c.args.tokens.now c.parts.at = search rules in
    let more = run_more in_braces (Spells (inner c.args.room) (inside part_name)) c.args.tokens.now c.args.from c.parts.at c.in_ok-part.end c.parts.invariant.parts (part_of c.in_ok-part.part) c.parts.invariant.run b c.in_ok-part.ensures.found in
    record {
      parts = c.parts.invariant.parts ++ part_of c.in_ok-part.part ∷ [];
      run = more;
      listed = one_more_listed access.Private c.parts.access c.parts.access c.parts.invariant.parts (part_of c.in_ok-part.part) c.parts.invariant.last c.parts.members.items _ c.parts.invariant.listed c.in_ok-access.ensures.joined;
      last = one_more_last access.Private c.parts.access _ c.parts.invariant.parts (part_of c.in_ok-part.part) c.parts.invariant.last c.in_ok-access.ensures.last;
      after = omega (arith, c.in_ok-part.ensures.moved.0);
      within = c.in_ok-part.ensures.moved.1;
    }
