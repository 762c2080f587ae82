use Rattle.std.proofs.Common.{◌≡◌, ℕ, ℤ, List, [], ◌∷◌, ◌++◌, ◌==◌, cond, ap, ◌∙◌, rules, to_z, of_z, w64}
use Rattle.std.specs.Ordering.{nat_cmp}
use Rattle.std.specs.BTreeMap.{get}
use Rattle.uc_acts.specs.Journal.{number}
use Rattle.uc_acts.specs.Pending.{drop_first}
use Rattle.uc_judge.specs.PendingEvents.{events_of}
use Rattle.uc_judge.proofs.Events.{Event, is_of, raised_more, delivered_more, others_more}
use Rattle.uc_judge.proofs.pending.Pending.add.Goals as goal

pub returns-in_ok-raise-in-Raise : goal.returns-in_ok-raise-in-Raise
returns-in_ok-raise-in-Raise c j h =
    let e = c.args.e.now in
    let s = c.args.self.now in
    let a : to_z w64 (of_z w64 e.a) ≡ e.a = search rules in
    let b : to_z w64 (of_z w64 e.b) ≡ e.b = search rules in
    let x : to_z w64 (of_z w64 e.c) ≡ e.c = search rules in
    let y : to_z w64 (of_z w64 e.d) ≡ e.d = search rules in
    let old : ℕ → List Event = λ t. events_of (get nat_cmp s.tasks t) in
    let raised : (ℤ × ℤ) → ℕ → List Event = λ z t. cond (c.number-in-Raise.result == t) (old t ++ (c.number.result, z.0, z.1) ∷ []) (old t) in
    record { pending = λ t. raised_more t j e c.number-in-Raise.result c.number.result (events_of (get nat_cmp c.raise.new.tasks t)) (old t) c.in-Raise.is c.requires.fields (c.number-in-Raise.ensures ∙ ap number a) (c.number.ensures ∙ ap number b) (c.in_ok-raise-in-Raise.ensures t ∙ ap (λ z. raised (z, to_z w64 (of_z w64 e.d)) t) x ∙ ap (λ z. raised (e.c, z) t) y) (h.pending t) }

pub returns-in-Poll : goal.returns-in-Poll
returns-in-Poll c j h =
    let e = c.args.e.now in
    let s = c.args.self.now in
    let a : to_z w64 (of_z w64 e.a) ≡ e.a = search rules in
    record { pending = λ t. delivered_more t j e (events_of (get nat_cmp c.deliver.new.tasks t)) (events_of (get nat_cmp s.tasks t)) c.in-Poll.is (c.deliver.ensures t ∙ ap (λ z. cond (e.task == t) (drop_first (is_of z) (events_of (get nat_cmp s.tasks t))) (events_of (get nat_cmp s.tasks t))) a) (h.pending t) }

pub returns-in_default : goal.returns-in_default
returns-in_default c j h =
    let e = c.args.e.now in
    let s = c.args.self.now in
    record { pending = λ t. others_more t j e (events_of (get nat_cmp s.tasks t)) c.in_default.not-Raise c.in_default.not-Poll (h.pending t) }
