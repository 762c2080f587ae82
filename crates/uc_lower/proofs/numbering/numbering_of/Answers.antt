use Rattle.std.proofs.Common.{◌≡◌, length, map, sym, ap, ◌∙◌, arith}
use Rattle.std.proofs.lemmas.List.{length-map}
use Rattle.uc_tree.specs.declared.kinds.Role.TheVariants as role
use Rattle.uc_tree.specs.Cells.{classes_of}
use Rattle.uc_tree.specs.Numbering.{Defined}
use Rattle.uc_implicit.specs.Unwritten.{number_of_class, unwritten_as}
use Rattle.uc_lower.proofs.Numbered.{number_is}
use Rattle.uc_lower.proofs.numbering.numbering_of.Goals as goal

pub returns : goal.returns
returns c =
    λ p d u k m.
    let us = map unwritten_as c.args.unwritten.now in
    let long : length c.args.classes.items ≡ length (classes_of p.items) = ap length k ∙ length-map (classes_of p.items) (number_of_class p) in
    let ok = c.args.classes.ok.0 in
    let first = c.in_ok-constructors.ensures.long in
    let second = c.in_ok-destructors.ensures.long in
    record {
      routines = c.in_ok-routines.ensures ∙ ap (map (λ (x : Defined). x.routine)) d;
      owners = c.in_ok-owners.ensures ∙ ap (map (λ (x : Defined). x.number)) d;
      classes = k;
      unwritten = record {
        builds = λ i n g. sym (c.in_ok-constructors.ensures.each i n g ∙ number_is p c.args.defined.now us c.args.count d u c.requires.count i role.Constructor);
        destroys = λ i n g. sym (c.in_ok-destructors.ensures.each i n g ∙ number_is p c.args.defined.now us c.args.count d u c.requires.count i role.Destructor);
        builders = omega (arith, long, ok, first);
        destroyers = omega (arith, long, ok, second);
      };
      members = m;
    }
