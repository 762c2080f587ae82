-- The events that are pending with one entry more.
use Rattle.std.proofs.Common.{◌≡◌, ℕ, ℤ, pos, negsuc, ◌+◌, ◌<◌, ◌==◌, Bool, true, cond, List, [], ◌∷◌, ◌++◌, take, drop, length, get_or, refl, sym, ap, ◌∙◌, subst, add-one, ◌≤ℤ◌, arith}
use Rattle.std.specs.List.{remove}
use Rattle.std.proofs.lemmas.Bool.{eq-eqb}
use Rattle.std.proofs.lemmas.Int.{ints}
use Rattle.std.proofs.lemmas.List.{at_drop_more}
use Rattle.std.proofs.lemmas.List.Sums.{fold-append}
use Rattle.uc_entry.specs.declared.entry.Entry.{Entry}
use Rattle.uc_entry.specs.declared.entry.EntryKind.{EntryKind}
use Rattle.uc_entry.specs.declared.entry.EntryKind.TheVariants as kind
use Rattle.uc_acts.specs.Fit.{AreOf, types_of, numbers_of}
use Rattle.uc_acts.specs.Journal.{Journal, number, holds}
use Rattle.uc_acts.specs.Pending.{pending, pending_by, drop_first}

abbrev pub Event : Type 0
Event = ℕ × ℤ × ℤ

-- the event whose number is one less than a field
abbrev pub is_of : ℤ → Event → Bool
is_of field r = holds (r.0 + 1) field

pub taken_here : (field : ℤ) (n : ℕ) (es : List Event) (e : Event) → n < length es → e ≡ get_or es n e → pos (e.0 + 1) ≡ field → remove es n ≡ take n es ++ drop_first (is_of field) (drop n es)
taken_here field n es e lt same h =
    let inside : is_of field e ≡ true = ap (holds (e.0 + 1)) (sym h) ∙ eq-eqb (e.0 + 1) (e.0 + 1) refl in
    let P = λ (x : Event). cond (is_of field x) (drop (n + 1) es) (x ∷ drop_first (is_of field) (drop (n + 1) es)) in
    let rest : drop_first (is_of field) (drop n es) ≡ drop (n + 1) es = at_drop_more (drop_first (is_of field)) es n e lt ∙ ap P (sym same) ∙ ap (λ b. cond b (drop (n + 1) es) (e ∷ drop_first (is_of field) (drop (n + 1) es))) inside in
    ap (λ r. take n es ++ r) (ap (λ k. drop k es) (sym (add-one n)) ∙ sym rest)

pending_push : (t : ℕ) (j : Journal) (e : Entry) → pending t (j ++ e ∷ []) ≡ pending_by t (pending t j) e.kind e
unfolding pending
pending_push t j e = fold-append (λ ps x. pending_by t ps x.kind x) [] j (e ∷ [])

-- a field that is not negative holds its number
pub holds_number : (t : ℕ) (z : ℤ) → pos 0 ≤ℤ z → holds t z ≡ (number z == t)
holds_number t (pos n) h = refl
holds_number t (negsuc n) h = absurd (omega (arith, ints, h))

pub raised_more : (t : ℕ) (j : Journal) (e : Entry) (task event : ℕ) (new old : List Event) → e.kind ≡ kind.Raise → AreOf (types_of e.kind) (numbers_of e) → task ≡ number e.a → event ≡ number e.b → new ≡ cond (task == t) (old ++ (event, e.c, e.d) ∷ []) old → old ≡ pending t j → new ≡ pending t (j ++ e ∷ [])
raised_more t j e task event new old k fit at of is was =
    let low = (subst (λ k. AreOf (types_of k) (numbers_of e)) k fit).1.1.1.1.0 in
    is
    ∙ ap (λ b. cond b (old ++ (event, e.c, e.d) ∷ []) old) (ap (λ n. n == t) at ∙ sym (holds_number t e.a low.0))
    ∙ ap (λ n. cond (holds t e.a) (old ++ (n, e.c, e.d) ∷ []) old) of
    ∙ ap (λ l. cond (holds t e.a) (l ++ (number e.b, e.c, e.d) ∷ []) l) was
    ∙ sym (pending_push t j e ∙ ap (λ k. pending_by t (pending t j) k e) k)

pub delivered_more : (t : ℕ) (j : Journal) (e : Entry) (new old : List Event) → e.kind ≡ kind.Poll → new ≡ cond (e.task == t) (drop_first (is_of e.a) old) old → old ≡ pending t j → new ≡ pending t (j ++ e ∷ [])
delivered_more t j e new old k is was =
    is ∙ ap (λ l. cond (e.task == t) (drop_first (is_of e.a) l) l) was ∙ sym (pending_push t j e ∙ ap (λ k. pending_by t (pending t j) k e) k)

unmoved : (t : ℕ) (ps : List Event) (k : EntryKind) (e : Entry) → (k ≡ kind.Raise → ⊥) → (k ≡ kind.Poll → ⊥) → pending_by t ps k e ≡ ps
unmoved t ps kind.Raise e r p = absurd (r refl)
unmoved t ps kind.Poll e r p = absurd (p refl)
unmoved t ps k e r p = refl

pub others_more : (t : ℕ) (j : Journal) (e : Entry) (old : List Event) → (e.kind ≡ kind.Raise → ⊥) → (e.kind ≡ kind.Poll → ⊥) → old ≡ pending t j → old ≡ pending t (j ++ e ∷ [])
others_more t j e old r p was = was ∙ sym (pending_push t j e ∙ unmoved t (pending t j) e.kind e r p)
