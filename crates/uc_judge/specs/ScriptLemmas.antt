-- A script asks one thing, and whole.
use Rattle.std.proofs.Common.{◌≡◌, ℕ, ◌==◌, ◌&&◌, Bool, true, false, cond, [], ◌∷◌, Option, Some, None, refl, sym, ap, ◌∙◌, subst, length}
use Rattle.std.specs.Prelude.{nat_le}
use Rattle.std.proofs.lemmas.Bool.{leb-true, eqb-true}
use Rattle.uc_entry.specs.declared.request.TheConstants.{PRINT_ITEMS}
use Rattle.uc_entry.specs.declared.request.Asked.{Asked}
use Rattle.uc_entry.specs.declared.request.Request.{Request}
use Rattle.uc_entry.specs.declared.request.Request.TheVariants as ask
use Rattle.uc_judge.specs.declared.asks.Walked.{Walked}
use Rattle.uc_judge.specs.Asking.{IsWhole, AsksOnce, AsksWhole}
use Rattle.uc_judge.specs.Scripts.{is_whole, Steps}

abbrev ticks_or : Option Walked → ℕ → ℕ
ticks_or None n = n
ticks_or (Some w) n = w.ticks

abbrev asked_or : Option Walked → Asked → Asked
asked_or None r = r
asked_or (Some w) r = w.asked

pub script_once : AsksOnce Steps
script_once w t q k m r s x y a b =
    let same = sym a.next ∙ b.next in
    record { ticks = ap (λ o. ticks_or o k) same; asked = ap (λ o. asked_or o r) same; tasks = sym a.rest_is ∙ b.rest_is }

-- what holds of one side of an equation that cannot be
abbrev Holds : Bool → Type 0
Holds true = Unit {0}
Holds false = ⊥

abbrev IsAsked : Option Walked → Type 0
IsAsked (Some w) = Unit {0}
IsAsked None = ⊥

and_parts : (a b : Bool) → (a && b) ≡ true → (a ≡ true) × (b ≡ true)
and_parts true b h = (refl, h)
and_parts false b h = absurd (subst Holds (sym h) tt)

whole_is : (r : Request) → is_whole r ≡ true → IsWhole r
whole_is (ask.Print n items) h =
    let one = and_parts (nat_le 1 n) (nat_le n PRINT_ITEMS && (length items == PRINT_ITEMS)) h in
    let two = and_parts (nat_le n PRINT_ITEMS) (length items == PRINT_ITEMS) one.1 in
    (leb-true 1 n one.0, leb-true n PRINT_ITEMS two.0, eqb-true (length items) PRINT_ITEMS two.1)
whole_is r h = tt

pub script_whole : AsksWhole Steps
script_whole [] t q k r x a = absurd (subst IsAsked (sym a.next) tt)
script_whole (s ∷ ss) t q k r x a = by ((s.task == t) && (nat_le s.ticks q && is_whole s.asked.request)) refl a.next
  where
    by : (b : Bool) → ((s.task == t) && (nat_le s.ticks q && is_whole s.asked.request)) ≡ b → cond {A = Option Walked} b (Some (record { ticks = s.ticks; asked = s.asked })) None ≡ Some (record { ticks = k; asked = r }) → IsWhole r.request
    by true h e =
        let same : s.asked ≡ r = ap (λ o. asked_or o r) e in
        let parts = and_parts (s.task == t) (nat_le s.ticks q && is_whole s.asked.request) h in
        let last = and_parts (nat_le s.ticks q) (is_whole s.asked.request) parts.1 in
        subst (λ z. IsWhole z.request) same (whole_is s.asked.request last.1)
    by false h e = absurd (subst IsAsked (sym e) tt)
