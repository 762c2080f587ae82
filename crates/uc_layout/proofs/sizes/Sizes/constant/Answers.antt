use Rattle.std.proofs.Common.{ℕ, ◌-◌, List, ap, sym, map, option_map, ◌∙◌, ◌≡◌, Bor, arith}
use Rattle.std.specs.Prelude.{slice_get}
use Rattle.uc_tree.specs.declared.program.Constant.{Constant as Held}
use Rattle.uc_tree.specs.Programs.{Constant}
use Rattle.uc_tree.specs.Constants.{constant_named, constants_of}
use Rattle.uc_layout.proofs.PlacesLemmas.{constant_placed, constant_missing}
use Rattle.uc_layout.proofs.sizes.Sizes.constant.Goals as goal

abbrev held : Bor Held → Constant
held k = k.now

pub returns-in-Some : goal.returns-in-Some
returns-in-Some c =
    let items : List (Bor Held) = c.self.inside.constants.items in
    let at = sym (c.place_in.ensures _ c.self.invariant.2) ∙ c.in-Some.is in
    let all : c.in-Some.place - 0 ≡ c.in-Some.place = omega arith in
    let placed = constant_placed held items 0 c.args.name.now c.in-Some.place at in
    ap (option_map held) (c.constant_at.ensures ∙ ap (λ ks. slice_get ks c.in-Some.place) c.deref.ensures.value)
    ∙ sym (placed ∙ ap (λ k. option_map held (slice_get items k)) all)
    ∙ ap (λ ks. constant_named ks c.args.name.now) (c.self.invariant.0.constants_are ∙ ap (λ p. constants_of p.items) c.self.view_is)

pub returns-in-None : goal.returns-in-None
returns-in-None c =
    let items : List (Bor Held) = c.self.inside.constants.items in
    let at = sym (c.place_in.ensures _ c.self.invariant.2) ∙ c.in-None.is in
    sym (constant_missing held items 0 c.args.name.now at)
    ∙ ap (λ ks. constant_named ks c.args.name.now) (c.self.invariant.0.constants_are ∙ ap (λ p. constants_of p.items) c.self.view_is)
