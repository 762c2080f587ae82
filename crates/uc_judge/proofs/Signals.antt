-- The rows of requests that are told by the front of a condition, by who is inside, and by who is met.
use Rattle.std.proofs.Common.{◌≡◌, ℕ, ℤ, ◌+◌, ◌==◌, ◌<◌, ◌≤◌, Bool, true, false, cond, List, [], ◌∷◌, Option, Some, refl, sym, ap, ◌∙◌, subst, arith, length}
use Rattle.std.specs.Prelude.{pos, nat_lt, option_map}
use Rattle.std.proofs.lemmas.Bool.{lt-ltb, le-ltb, ne_eqb}
use Rattle.std.specs.List.{fold}
use Rattle.uc_tree.specs.Programs.{Site}
use Rattle.uc_entry.specs.declared.entry.Entry.{Entry}
use Rattle.uc_entry.specs.declared.entry.EntryKind.TheVariants as kind
use Rattle.uc_acts.specs.Journal.{Journal, asking}
use Rattle.uc_acts.specs.Queues.{is_nobody}
use Rattle.uc_acts.specs.Pending.{pending}
use Rattle.uc_tree.specs.declared.limits.TheConstants.{PENDING_EVENTS}
use Rattle.uc_tree.specs.SiteOffers.{Met}
use Rattle.uc_judge.specs.declared.offers.Taken.{Taken}
use Rattle.uc_judge.specs.Offers.{as_met}
use Rattle.uc_acts.specs.Acts.{left_by, or_fault, raise_entry, took, accepted}
use Rattle.uc_explain.specs.Shown.{placed, in_order}
use Rattle.uc_judge.specs.declared.actor.Actor.{Actor}
use Rattle.uc_judge.specs.declared.ledger.Ledger.{Ledger}
use Rattle.uc_judge.specs.Actors.{cost_of, IsRead}
use Rattle.uc_judge.specs.Ledgers.{Adds, Settles}
use Rattle.uc_judge.proofs.Settling.{safe_then}

module _ {old new : Ledger} {sites : List Site} (a : Actor) where
  -- the end of a task, at its own object
  pub end_settles : (e : Entry) (object own : ℕ) → e ≡ asking kind.End a.processor a.task (cost_of a) object (pos 0) (pos 0) → object ≡ own → Settles old new sites a (left_by sites old.entries.items a.processor e.object e) → Settles old new sites a (left_by sites old.entries.items a.processor own (asking kind.End a.processor a.task (cost_of a) own (pos 0) (pos 0)))
  end_settles e object own h g s =
      subst (λ o. Settles old new sites a (left_by sites old.entries.items a.processor o (asking kind.End a.processor a.task (cost_of a) o (pos 0) (pos 0)))) g (subst (λ x. Settles old new sites a (left_by sites old.entries.items a.processor x.object x)) h s)

  -- an accept takes whom it meets
  pub accepted_met : (o site mask : ℕ) (has has' : Bool) → has ≡ has' → (taken : Taken) (r : Option Taken) (m : Option Met) → r ≡ Some taken → option_map as_met r ≡ m → Settles old new sites a (took a.processor a.task (cost_of a) o site mask has taken.member taken.task) → Settles old new sites a (accepted a.processor a.task (cost_of a) o site mask has' m)
  accepted_met o site mask has has' h taken r m g k s =
      subst (λ n. Settles old new sites a (accepted a.processor a.task (cost_of a) o site mask has' n)) (sym (ap (option_map as_met) g) ∙ k) (subst (λ b. Settles old new sites a (took a.processor a.task (cost_of a) o site mask b taken.member taken.task)) h s)

-- an event is raised, or there is one too many

raise_by : (target first : ℕ) → target ≡ first → (j : Journal) (n : ℕ) → n ≡ length (pending target j) → (b : Bool) → nat_lt n PENDING_EVENTS ≡ b → nat_lt (length (pending first j)) PENDING_EVENTS ≡ b
raise_by target first g j n k b h =
    ap (λ t. nat_lt (length (pending t j)) PENDING_EVENTS) (sym g) ∙ ap (λ m. nat_lt m PENDING_EVENTS) (sym k) ∙ h

module _ {old new : Ledger} {sites : List Site} (a : Actor) (o event : ℕ) (x y : ℤ) (target first : ℕ) (g : target ≡ first) (j : Journal) (n : ℕ) (k : n ≡ length (pending target j)) (f : Entry) where
  pub raise_settles : (e : Entry) (x' y' : ℤ) → x' ≡ x → y' ≡ y → n < PENDING_EVENTS → e ≡ raise_entry a.processor a.task (cost_of a) o target event x' y' → Settles old new sites a (e ∷ []) → Settles old new sites a (or_fault (nat_lt (length (pending first j)) PENDING_EVENTS) (raise_entry a.processor a.task (cost_of a) o first event x y) f)
  raise_settles e x' y' i l lt h s =
      let is : e ≡ raise_entry a.processor a.task (cost_of a) o first event x y = h ∙ ap (λ z. raise_entry a.processor a.task (cost_of a) o target event z y') i ∙ ap (λ z. raise_entry a.processor a.task (cost_of a) o target event x z) l ∙ ap (λ t. raise_entry a.processor a.task (cost_of a) o t event x y) g in
      subst (λ b. Settles old new sites a (or_fault b (raise_entry a.processor a.task (cost_of a) o first event x y) f)) (sym (raise_by target first g j n k true (lt-ltb n PENDING_EVENTS lt))) (subst (λ z. Settles old new sites a (z ∷ [])) is s)

  pub fault_settles : PENDING_EVENTS ≤ n → Settles old new sites a (f ∷ []) → Settles old new sites a (or_fault (nat_lt (length (pending first j)) PENDING_EVENTS) (raise_entry a.processor a.task (cost_of a) o first event x y) f)
  fault_settles le s =
      subst (λ b. Settles old new sites a (or_fault b (raise_entry a.processor a.task (cost_of a) o first event x y) f)) (sym (raise_by target first g j n k false (le-ltb n PENDING_EVENTS le))) s

-- a call, and who is let in by it
pub call_settles : {old mid new : Ledger} {sites : List Site} (a : Actor) (o m : ℕ) (e : Entry) (rest : List Entry) → e ≡ asking kind.Call a.processor a.task (cost_of a) o (pos m) (pos 0) → Adds old mid sites (e ∷ []) → Settles mid new sites a rest → Settles old new sites a (asking kind.Call a.processor a.task (cost_of a) o (pos m) (pos 0) ∷ rest)
call_settles {old} {mid} {new} {sites} a o m e rest h adds s =
    safe_then a rest (subst (λ x. Adds old mid sites (x ∷ [])) h adds) refl s

-- an order has nobody where there is nobody

abbrev order_from : List ℕ → List ℕ → List ℕ
order_from ys xs = fold (λ ys x. placed (λ t. t) x ys) ys xs

placed_some : (x : ℕ) (ys : List ℕ) → is_nobody (placed (λ t. t) x ys) ≡ false
placed_some x [] = refl
placed_some x (y ∷ ys) = by (nat_lt x y)
  where
    by : (b : Bool) → is_nobody (cond b (x ∷ y ∷ ys) (y ∷ placed (λ t. t) x ys)) ≡ false
    by true = refl
    by false = refl

order_some : (xs ys : List ℕ) → is_nobody ys ≡ false → is_nobody (order_from ys xs) ≡ false
order_some [] ys h = h
order_some (x ∷ xs) ys h = order_some xs (placed (λ t. t) x ys) (placed_some x ys)

pub order_nobody : (xs : List ℕ) → is_nobody (in_order (λ t. t) xs) ≡ is_nobody xs
order_nobody [] = refl
order_nobody (x ∷ xs) = order_some xs (placed (λ t. t) x []) refl

pub length_nobody : (xs : List ℕ) → (length xs == 0) ≡ is_nobody xs
length_nobody [] = refl
length_nobody (x ∷ xs) = ne_eqb (length (x ∷ xs)) 0 (λ h. omega (arith, h))

pub is_read : (now z : ℤ) (n taken : ℕ) → now ≡ z → z ≡ pos n → n + taken ≤ 9223372036854775807 → IsRead now taken
is_read now z n taken g h le = subst (λ x. IsRead x taken) (sym (g ∙ h)) le
