use Rattle.std.proofs.Common.{ap, sym, subst, map, ◌∙◌, ◌≡◌}
use Rattle.std.proofs.lemmas.Result.{IfOk-weaker}
use Rattle.uc_tree.specs.Cells.{classes_of}
use Rattle.uc_tree.specs.Numbering.{routines_of}
use Rattle.uc_numbering.specs.Routines.{AreObjects, defined_at, objects_of, items_in}
use Rattle.uc_numbering.proofs.ByClasses.{are_objects, routines_are}
use Rattle.uc_numbering.proofs.routines.routines_of.Goals as goal

pub routines_in-found-requires-clause-objects : goal.routines_in-found-requires-clause-objects
routines_in-found-requires-clause-objects c =
    let classes : map (λ k. k.now) c.in_ok-classes.classes.items ≡ classes_of c.args.program.now.items = c.in_ok-classes.ensures ∙ ap classes_of c.deref.ensures.value ∙ ap (λ p. classes_of p.items) c.program.view_is in
    let objects : map (λ k. k.now) c.in_ok-objects.objects.items ≡ objects_of (classes_of c.args.program.now.items) = c.in_ok-objects.ensures ∙ ap (λ l. objects_of (map (λ k. k.now) l)) c.deref-2.ensures.value ∙ ap objects_of classes in
    subst AreObjects (sym (ap (λ l. map (λ k. k.now) l) c.deref-4.ensures.value ∙ objects)) (are_objects (classes_of c.args.program.now.items))

pub returns : goal.returns
returns c =
    let classes : map (λ k. k.now) c.in_ok-classes.classes.items ≡ classes_of c.args.program.now.items = c.in_ok-classes.ensures ∙ ap classes_of c.deref.ensures.value ∙ ap (λ p. classes_of p.items) c.program.view_is in
    let objects : map (λ k. k.now) c.in_ok-objects.objects.items ≡ objects_of (classes_of c.args.program.now.items) = c.in_ok-objects.ensures ∙ ap (λ l. objects_of (map (λ k. k.now) l)) c.deref-2.ensures.value ∙ ap objects_of classes in
    let items = c.deref-5.ensures.value ∙ ap (λ p. p.items) c.program.view_is in
    IfOk-weaker c.routines_in-found.result (λ v. map defined_at v.items ≡ items_in (map (λ k. k.now) c.deref-4.result.now) c.deref-5.result.now) (λ v. map defined_at v.items ≡ routines_of c.args.program.now) (λ v found. found ∙ ap (λ l. items_in (map (λ k. k.now) l) c.deref-5.result.now) c.deref-4.ensures.value ∙ ap (λ is. items_in (map (λ k. k.now) c.in_ok-objects.objects.items) is) items ∙ routines_are c.args.program.now (map (λ k. k.now) c.in_ok-objects.objects.items) objects) c.routines_in-found.ensures
