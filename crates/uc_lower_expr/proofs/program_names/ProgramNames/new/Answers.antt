use Rattle.std.proofs.Common.{◌≡◌, Bor, length, map, ap, sym, ◌∙◌, rules, arith}
use Rattle.std.proofs.lemmas.List.{length-map}
use Rattle.uc_tree.specs.declared.class.Routine.{Routine as Held}
use Rattle.uc_tree.specs.Programs.{Routine}
use Rattle.uc_tree.specs.Cells.{classes_of}
use Rattle.uc_tree.specs.Numbering.{routines_of}
use Rattle.uc_lower_expr.specs.Numbered.{number_of_class}
use Rattle.uc_lower_expr.proofs.Owned.{owners_in, routines_in}
use Rattle.uc_lower_expr.proofs.program_names.ProgramNames.new.Goals as goal

abbrev held : Bor Held → Routine
held r = r.now

pub invariant_of-result : goal.invariant_of-result
invariant_of-result c =
    let n = c.requires.numbering in
    let ds = routines_of c.args.sizes.now in
    let routines : routines_in ds ≡ map held c.deref.result.now = sym n.routines ∙ sym (ap (λ rs. map held rs) c.deref.ensures.value) in
    let owners : owners_in ds ≡ c.deref-2.result.now = sym n.owners ∙ sym c.deref-2.ensures.value in
    let classes : c.len-count.result ≡ length c.args.numbering.classes.items = search rules in
    let count : c.len-count.result ≡ length (classes_of c.args.sizes.now.items) = classes ∙ ap length n.classes ∙ length-map (classes_of c.args.sizes.now.items) (number_of_class c.args.sizes.now) in
    let known = c.in_ok-routines.ensures ds routines owners in
    let long = known.long in
    record {
      fit = c.requires.fit;
      numbering = n;
      alone_are = λ name. known.alone_are.at name;
      objects_are = c.in_ok-classes.ensures.objects;
      fields_are = c.in_ok-classes.ensures.fields;
      routines_are = record {
        long = omega (arith, count, long);
        each = λ number t e. known.each number t e;
      };
      events_are = c.in_ok-classes.ensures.events;
      builders_are = known.builders_are;
    }
