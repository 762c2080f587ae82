use Rattle.std.proofs.Common.{◌≡◌, ℕ, List, ap, ◌∙◌, map}
use Rattle.std.proofs.lemmas.Result.{IfOk-weaker}
use Rattle.uc_tree.specs.Cells.{classes_of}
use Rattle.uc_layout.specs.Places.{IsPlaces}
use Rattle.uc_implicit.specs.Numbers.{number_by, objects_of}
use Rattle.uc_implicit.specs.Unwritten.{number_of_class}
use Rattle.uc_implicit.proofs.Noting.{numbers_are}
use Rattle.uc_implicit.proofs.numbers.numbers_of_classes.Goals as goal

pub returns : goal.returns
returns c =
    let classes : map (λ k. k.now) c.in_ok-classes.classes.items ≡ classes_of c.args.program.now.items = c.in_ok-classes.ensures ∙ ap classes_of c.deref.ensures.value ∙ ap (λ p. classes_of p.items) c.program.view_is in
    let objects : map (λ k. k.now) c.in_ok-objects.objects.items ≡ objects_of (classes_of c.args.program.now.items) = c.in_ok-objects.ensures ∙ ap (λ l. objects_of (map (λ k. k.now) l)) c.deref-2.ensures.value ∙ ap objects_of classes in
    let names = map (λ k. k.now.name) c.deref-3.result.now in
    IfOk-weaker c.numbers_in-numbers.result (λ v. (names : List (List ℕ)) → IsPlaces names c.in_ok-places.places → v.items ≡ map (λ k. number_by names k.now.name) c.deref-4.result.now) (λ v. v.items ≡ map (number_of_class c.args.program.now) (classes_of c.args.program.now.items)) (λ v h. h names c.in_ok-places.ensures
    ∙ numbers_are (λ k. k.now) c.deref-4.result.now c.deref-3.result.now c.args.program.now (ap (map (λ k. k.now)) c.deref-4.ensures.value ∙ classes) (ap (map (λ k. k.now)) c.deref-3.ensures.value ∙ objects)) c.numbers_in-numbers.ensures
