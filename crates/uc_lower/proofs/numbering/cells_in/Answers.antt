use Rattle.std.proofs.Common.{◌≡◌, ℕ, ◌+◌, ◌++◌, ◌∷◌, [], List, drop, map, sym, ap, ◌∙◌, append_assoc, rules}
use Rattle.uc_tree.specs.Programs.{Class}
use Rattle.uc_resolve.specs.Resolve.{classes_meant}
use Rattle.uc_lower.proofs.Numbered.{cells_of, dropped, first_cells}
use Rattle.uc_lower.proofs.numbering.cells_in.Goals as goal

pub loop-place-init : goal.loop-place-init
loop-place-init c =
    let p = c.args.names.now in
    let items : c.push.new.self.items ≡ 0 ∷ [] = search rules in
    ap (λ (xs : List ℕ). xs ++ cells_of (classes_meant p 0 (map (λ k. k.now) c.args.classes.now))) items ∙ ap (λ (cs : List Class). 0 ∷ cells_of (classes_meant p 0 cs)) c.requires.classes

pub loop-place-preserved : goal.loop-place-preserved
loop-place-preserved c =
    let p = c.args.names.now in
    let i = c.loop-place.place in
    let x = c.index-classes-place.result in
    let cs : List Class = map (λ k. k.now) c.args.classes.now in
    let old = c.loop-place.cells.items in
    let here : drop i cs ≡ x.now ∷ drop (i + 1) cs = dropped (λ k. k.now) c.args.classes.now i x c.loop-place-test.true c.index-classes-place.is in
    let rest : List ℕ = cells_of (classes_meant p (i + 1) (drop (i + 1) cs)) in
    let split : cells_of (classes_meant p i (drop i cs)) ≡ cells_of (classes_meant p i (x.now ∷ [])) ++ rest = ap (λ (l : List Class). cells_of (classes_meant p i l)) here ∙ first_cells p i x.now (drop (i + 1) cs) in
    ap (λ (xs : List ℕ). xs ++ rest) c.in_ok-push_cells.ensures
    ∙ append_assoc old (cells_of (classes_meant p i (x.now ∷ []))) rest
    ∙ ap (λ (xs : List ℕ). old ++ xs) (sym split)
    ∙ c.loop-place.invariant
