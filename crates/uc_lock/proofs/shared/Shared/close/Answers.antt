use Rattle.std.proofs.Common.{◌≡◌, ◌-◌, [], ◌∷◌, false, ◌++◌, take, ap, sym, ◌∙◌, subst}
use Rattle.std.specs.List.{All}
use Rattle.std.proofs.lemmas.List.{append-nil}
use Rattle.uc_lock.specs.Rule.{kept_of}
use Rattle.uc_lock.specs.Meanings.{Sitting, IsSeatOf, summary}
use Rattle.uc_lock.proofs.Closing.{all_seam, all_left, each_fits, Fits}
use Rattle.uc_lock.proofs.shared.Shared.close.Goals as goal

pub into_token-kept-requires : goal.into_token-kept-requires
into_token-kept-requires g c = let Ready : Sitting g.row.V-Key.Denot g.row.V-Item.Denot → Type 0 = λ s. IsSeatOf c.args.self s × (s.holds ≡ false) in
    (all_seam Ready c.pop.new.self.items c.in-Some.last [] (subst (All Ready) c.in-Some.ensures.items c.requires.seats)).1

pub loop-other-init : goal.loop-other-init
loop-other-init g c = let Ready : Sitting g.row.V-Key.Denot g.row.V-Item.Denot → Type 0 = λ s. IsSeatOf c.args.self s × (s.holds ≡ false) in
    let items = c.pop.new.self.items in let t = c.into_token-kept.ensures in
    let last = all_seam Ready items c.in-Some.last [] (subst (All Ready) c.in-Some.ensures.items c.requires.seats) in
    (t.lock ∙ last.0.0, ([], sym (append-nil items), λ i. (record c.into_token-kept.result.me.0 { joined = t.open.1 i }, t.idle.1 i)))

pub into_token-requires : goal.into_token-requires
into_token-requires g c = let Ready : Sitting g.row.V-Key.Denot g.row.V-Item.Denot → Type 0 = λ s. IsSeatOf c.args.self s × (s.holds ≡ false) in
    let items = c.pop-in-loop-other.new.self.items in let inv = c.loop-other.invariant in let other = c.in-Some-pop.other in
    let before = all_left Ready c.pop.new.self.items (c.in-Some.last ∷ []) (subst (All Ready) c.in-Some.ensures.items c.requires.seats) in
    let left = all_left Ready c.loop-other.seats.items inv.1.0 (subst (All Ready) inv.1.1 before) in
    (all_seam Ready items other [] (subst (All Ready) c.in-Some-pop.ensures.items left)).1

pub join-requires-clause-seat : goal.join-requires-clause-seat
join-requires-clause-seat g c = let Ready : Sitting g.row.V-Key.Denot g.row.V-Item.Denot → Type 0 = λ s. IsSeatOf c.args.self s × (s.holds ≡ false) in
    let items = c.pop-in-loop-other.new.self.items in let inv = c.loop-other.invariant in let other = c.in-Some-pop.other in
    let before = all_left Ready c.pop.new.self.items (c.in-Some.last ∷ []) (subst (All Ready) c.in-Some.ensures.items c.requires.seats) in
    let left = all_left Ready c.loop-other.seats.items inv.1.0 (subst (All Ready) inv.1.1 before) in
    let ready = all_seam Ready items other [] (subst (All Ready) c.in-Some-pop.ensures.items left) in
    let is = sym (ap (λ s. s.id) c.self.view_is) in let t = c.into_token.ensures in
    (inv.0 ∙ is, t.lock ∙ (ready.0.0 ∙ is), t.idle.1)

pub returns-clause-key : goal.returns-clause-key
returns-clause-key g c = let Ready : Sitting g.row.V-Key.Denot g.row.V-Item.Denot → Type 0 = λ s. IsSeatOf c.args.self s × (s.holds ≡ false) in
    let last = all_seam Ready c.pop.new.self.items c.in-Some.last [] (subst (All Ready) c.in-Some.ensures.items c.requires.seats) in
    c.finish.ensures.0.key c.args.self.terms (ap (λ m. m.0.terms) c.loop-other.invariant.1.2 ∙ (c.into_token-kept.ensures.terms ∙ last.0.1))

pub returns-clause-makers : goal.returns-clause-makers
returns-clause-makers g c = let Ready : Sitting g.row.V-Key.Denot g.row.V-Item.Denot → Type 0 = λ s. IsSeatOf c.args.self s × (s.holds ≡ false) in
    let last = all_seam Ready c.pop.new.self.items c.in-Some.last [] (subst (All Ready) c.in-Some.ensures.items c.requires.seats) in
    c.finish.ensures.0.makers c.args.self.terms (ap (λ m. m.0.terms) c.loop-other.invariant.1.2 ∙ (c.into_token-kept.ensures.terms ∙ last.0.1))

pub returns-clause-seen : goal.returns-clause-seen
returns-clause-seen g c k d lt = let last = c.in-Some.last in let inv = c.loop-other.invariant in let gone = inv.1.0 in let e = c.in_default-pop.ensures in
    let none : c.loop-other.seats.items ≡ [] = e.items ∙ ap (λ w. w ++ []) (e.rest ∙ ap (λ n. take (n - 1) c.loop-other.seats.items) e.cases.0) in
    let full : c.args.seats.items ≡ gone ++ last ∷ [] = c.in-Some.ensures.items ∙ ap (λ w. w ++ last ∷ []) (inv.1.1 ∙ ap (λ w. w ++ gone) none) in
    let Knows : Sitting g.row.V-Key.Denot g.row.V-Item.Denot → Type 0 = λ s. Fits (g.V.Journaled.journal_of c.finish.result) (summary s) in
    (subst (All Knows) (sym full)
    (each_fits g.V.Journaled.key_of g.V.Journaled.journal_of summary c.finish.result gone last c.loop-other.kept.me.0 (ap (λ m. m.0.joined) inv.1.2) (ap (λ m. kept_of m.0) inv.1.2 ∙ c.into_token-kept.ensures.summary) c.finish.ensures) k d lt).0

pub returns-clause-own : goal.returns-clause-own
returns-clause-own g c k d lt = let last = c.in-Some.last in let inv = c.loop-other.invariant in let gone = inv.1.0 in let e = c.in_default-pop.ensures in
    let none : c.loop-other.seats.items ≡ [] = e.items ∙ ap (λ w. w ++ []) (e.rest ∙ ap (λ n. take (n - 1) c.loop-other.seats.items) e.cases.0) in
    let full : c.args.seats.items ≡ gone ++ last ∷ [] = c.in-Some.ensures.items ∙ ap (λ w. w ++ last ∷ []) (inv.1.1 ∙ ap (λ w. w ++ gone) none) in
    let Knows : Sitting g.row.V-Key.Denot g.row.V-Item.Denot → Type 0 = λ s. Fits (g.V.Journaled.journal_of c.finish.result) (summary s) in
    (subst (All Knows) (sym full)
    (each_fits g.V.Journaled.key_of g.V.Journaled.journal_of summary c.finish.result gone last c.loop-other.kept.me.0 (ap (λ m. m.0.joined) inv.1.2) (ap (λ m. kept_of m.0) inv.1.2 ∙ c.into_token-kept.ensures.summary) c.finish.ensures) k d lt).1
