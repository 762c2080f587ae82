use Rattle.std.proofs.Common.{ap, sym, reverse, arith, refl, ◌∙◌}
use Rattle.std.proofs.lemmas.Option.{slice_get_read}
use Rattle.uc_names.specs.Blocks.{found}
use Rattle.uc_names.proofs.KeptLemmas.{place_within, found_at, found_none}
use Rattle.uc_names.proofs.scope.Scope.find.Goals as goal

pub index-requires : goal.index-requires
index-requires c =
    let within = place_within c.self.inside.names c.self.inside.declared.items (reverse c.self.inside.starts.items) c.args.name.now c.self.invariant.0 c.self.invariant.1 c.place_of.ensures.distinct c.in-Some.place (sym c.in-Some.ensures.place) in
    let ok = c.self.inside.declared.ok in
    omega (arith, within, ok)

pub returns-in-Some : goal.returns-in-Some
returns-in-Some c =
    let place = place_within c.self.inside.names c.self.inside.declared.items (reverse c.self.inside.starts.items) c.args.name.now c.self.invariant.0 c.self.invariant.1 c.place_of.ensures.distinct c.in-Some.place (sym c.in-Some.ensures.place) in
    let at = slice_get_read c.self.inside.declared.items _ c.in-Some.place c.index.result.now refl place c.index.ensures in
    found_at c.self.inside.names c.self.inside.declared.items (reverse c.self.inside.starts.items) c.args.name.now c.self.invariant.0 c.self.invariant.1 c.place_of.ensures.distinct c.in-Some.place c.index.result.now (sym c.in-Some.ensures.place) at ∙ ap (λ bs. found bs c.args.name.now) c.self.view_is

pub returns-in-None : goal.returns-in-None
returns-in-None c = found_none c.self.inside.names c.self.inside.declared.items (reverse c.self.inside.starts.items) c.args.name.now c.self.invariant.0 c.self.invariant.1 c.place_of.ensures.distinct (sym c.in-None.ensures.place) ∙ ap (λ bs. found bs c.args.name.now) c.self.view_is
