use Rattle.std.proofs.Common.{ap, sym, subst, ◌∙◌, ◌≡◌, None, Some, map, length, arith}
use Rattle.uc_names.specs.Seen.{Distinct, bytes_of, number_in, with_name}
use Rattle.uc_names.proofs.SeenLemmas.{distinct_still, number_new, within_new, seen_is}
use Rattle.uc_names.proofs.newest.Newest.add.Goals as goal

pub invariant_of-self-2 : goal.invariant_of-self-2
invariant_of-self-2 c =
    let es = c.self.inside.places.entries in
    let new : number_in (map bytes_of es) c.args.name.now ≡ None = ap (λ s. number_in s.names c.args.name.now) c.self.view_is ∙ c.requires in
    subst (λ l. Distinct (map bytes_of l)) (sym c.in_ok-insert.ensures.entries) (distinct_still c.in_ok-bytes.bytes es c.args.name.now c.in_ok-bytes.ensures new c.self.invariant)

pub returns-clause-distinct : goal.returns-clause-distinct
returns-clause-distinct c =
    let es = c.self.inside.places.entries in
    let new : number_in (map bytes_of es) c.args.name.now ≡ None = ap (λ s. number_in s.names c.args.name.now) c.self.view_is ∙ c.requires in
    subst (λ l. Distinct (map bytes_of l)) (sym c.in_ok-insert.ensures.entries) (distinct_still c.in_ok-bytes.bytes es c.args.name.now c.in_ok-bytes.ensures new c.self.invariant)

pub returns-clause-number : goal.returns-clause-number
returns-clause-number c =
    let es = c.self.inside.places.entries in
    let new : number_in (map bytes_of es) c.args.name.now ≡ None = ap (λ s. number_in s.names c.args.name.now) c.self.view_is ∙ c.requires in
    ap (λ l. number_in (map bytes_of l) c.args.name.now) c.in_ok-insert.ensures.entries ∙ number_new c.in_ok-bytes.bytes es c.args.name.now c.in_ok-bytes.ensures new ∙ ap Some (sym c.len-number.ensures.len)

pub returns-clause-within : goal.returns-clause-within
returns-clause-within c =
    let es = c.self.inside.places.entries in
    let new : number_in (map bytes_of es) c.args.name.now ≡ None = ap (λ s. number_in s.names c.args.name.now) c.self.view_is ∙ c.requires in
    let lengths = ap (λ l. length (map bytes_of l)) c.in_ok-insert.ensures.entries in
    let within = within_new c.in_ok-bytes.bytes es c.args.name.now c.in_ok-bytes.ensures new in
    let number = c.len-number.ensures.len in
    omega (arith, lengths, within, number)

pub returns-clause-added : goal.returns-clause-added
returns-clause-added c =
    let es = c.self.inside.places.entries in
    let new : number_in (map bytes_of es) c.args.name.now ≡ None = ap (λ s. number_in s.names c.args.name.now) c.self.view_is ∙ c.requires in
    ap (λ l. record { names = map bytes_of l; places = map (λ e. e.1) l }) c.in_ok-insert.ensures.entries ∙ seen_is c.in_ok-bytes.bytes es c.args.name.now c.in_ok-bytes.ensures new ∙ ap (λ s. with_name s c.args.name.now) c.self.view_is
