-- Heads that name a base: what is taken out of them, and that they are what the grammar spells.
use Rattle.std.proofs.Common.{◌≡◌, ℕ, ◌+◌, ◌-◌, ◌<◌, ◌≤◌, ◌⊎◌, List, true, false, Option, Some, None, refl, sym, ◌∙◌, ap, subst, inl, inr, arith}
use Rattle.std.specs.Prelude.{nat_le, ◌&&◌, ◌||◌}
use Rattle.std.proofs.lemmas.Bool.{or_cases, or_left, or_right, and_parts, and_from, leb-true, le-leb, cases_eq, cases_Bool, false≢true}
use Rattle.uc_tree.specs.declared.kinds.Kind.{Kind}
use Rattle.uc_tree.specs.declared.kinds.Kind.TheVariants as kind
use Rattle.uc_tree.specs.declared.token.Token.{Token}
use Rattle.uc_tree.specs.declared.token.TokenKind.{TokenKind}
use Rattle.uc_tree.specs.declared.token.TokenKind.TheVariants as token
use Rattle.uc_tree.specs.declared.token.Word.{Word}
use Rattle.uc_tree.specs.declared.token.Word.TheVariants as word
use Rattle.uc_tree.specs.declared.token.Sign.TheVariants as sign
use Rattle.uc_grammar.specs.Spell.{kind_at, pos_at}
use Rattle.uc_grammar.specs.Form.{Spells}
use Rattle.uc_grammar.specs.Tables.{word_of, sign_of}
use Rattle.uc_grammar.specs.Grammar.{inner, kind_form, kind_by, mutex_kind_at, name_form, name_at}
use Rattle.uc_inherit.specs.ClassHeads.{is_name, ends_kind, may_be_mutex, is_mutex, is_public, is_colon, is_brace, is_head, has_mutex, first_place, is_head_before, is_in_base}
use Rattle.uc_inherit.specs.OpenedTokens.{name_of, base_name}
use Rattle.uc_inherit.specs.Laws.{Derives, Noted}
use Rattle.uc_inherit.proofs.Picked.{chosen, other}

-- What is taken out.

from_before : (ts : List Token) (i back : ℕ) → is_head_before ts i back ≡ true → (back ≤ i) × (is_head ts (i - back) ≡ true)
unfolding is_head_before
from_before ts i back e =
    let parts = and_parts (nat_le back i) (is_head ts (i - back)) e in
    (leb-true back i parts.0, parts.1)

abbrev Around : List Token → ℕ → Type 0
Around ts i = (k : ℕ) × (is_head ts k ≡ true) × (k + 2 ≤ i) × (i < k + 5)

around : (ts : List Token) (i back : ℕ) → 2 ≤ back → back < 5 → is_head_before ts i back ≡ true → Around ts i
around ts i back low high e =
    let h = from_before ts i back e in
    let le : back ≤ i = h.0 in
    (i - back, h.1, omega arith, omega arith)

pub taken_from : (ts : List Token) (i : ℕ) → is_in_base ts i ≡ true → Around ts i
unfolding is_in_base
taken_from ts i e =
    elim (or_cases (is_head_before ts i 2 || is_head_before ts i 3) (is_head_before ts i 4) e) [
      | inl e1 ↦ elim (or_cases (is_head_before ts i 2) (is_head_before ts i 3) e1) [
        | inl e2 ↦ around ts i 2 (omega arith) (omega arith) e2
        | inr e3 ↦ around ts i 3 (omega arith) (omega arith) e3
      ]
      | inr e4 ↦ around ts i 4 (omega arith) (omega arith) e4
    ]

before_at : (ts : List Token) (k i back : ℕ) → is_head ts k ≡ true → i ≡ k + back → is_head_before ts i back ≡ true
unfolding is_head_before
before_at ts k i back h e =
    let less : i - back ≡ k = omega (arith, e) in
    and_from (nat_le back i) (is_head ts (i - back)) (le-leb back i (omega (arith, e))) (ap (is_head ts) less ∙ h)

one_of_three : (k i : ℕ) → k + 2 ≤ i → i < k + 5 → (i ≡ k + 2) ⊎ ((i ≡ k + 3) ⊎ (i ≡ k + 4))
one_of_three k i low high =
    elim (cases_eq i (k + 2)) [
      | inl e ↦ inl e
      | inr no2 ↦ elim (cases_eq i (k + 3)) [ inl e ↦ inr (inl e) | inr no3 ↦ inr (inr (omega (arith, low, high, no2, no3))) ]
    ]

pub taken : (ts : List Token) (i : ℕ) → Around ts i → is_in_base ts i ≡ true
unfolding is_in_base
taken ts i h =
    elim (one_of_three h.0 i h.2 h.3) [
      | inl e ↦ or_left (is_head_before ts i 2 || is_head_before ts i 3) (is_head_before ts i 4) (or_left (is_head_before ts i 2) (is_head_before ts i 3) (before_at ts h.0 i 2 h.1 e))
      | inr more ↦ elim more [
        | inl e ↦ or_left (is_head_before ts i 2 || is_head_before ts i 3) (is_head_before ts i 4) (or_right (is_head_before ts i 2) (is_head_before ts i 3) (before_at ts h.0 i 3 h.1 e))
        | inr e ↦ or_right (is_head_before ts i 2 || is_head_before ts i 3) (is_head_before ts i 4) (before_at ts h.0 i 4 h.1 e)
      ]
    ]

-- What the tests of single tokens say.

name_there : (o : Option TokenKind) → is_name o ≡ true → (n : List ℕ) × (o ≡ Some (token.Name n))
name_there (Some (token.Name n)) e = (n, refl)
name_there _ e = absurd (false≢true e)

colon_there : (o : Option TokenKind) → is_colon (sign_of o) ≡ true → o ≡ Some (token.Sign sign.Colon)
colon_there (Some (token.Sign sign.Colon)) e = refl
colon_there _ e = absurd (false≢true e)

brace_there : (o : Option TokenKind) → is_brace (sign_of o) ≡ true → o ≡ Some (token.Sign sign.OpenBrace)
brace_there (Some (token.Sign sign.OpenBrace)) e = refl
brace_there _ e = absurd (false≢true e)

public_there : (o : Option TokenKind) → is_public (word_of o) ≡ true → o ≡ Some (token.Word word.Public)
public_there (Some (token.Word word.Public)) e = refl
public_there _ e = absurd (false≢true e)

mutex_there : (w : Option Word) → is_mutex w ≡ true → w ≡ Some word.Mutex
mutex_there (Some word.Mutex) e = refl
mutex_there _ e = absurd (false≢true e)

name_spelled : (ts : List Token) (from to : ℕ) (n : List ℕ) → kind_at ts from ≡ Some (token.Name n) → to ≡ from + 1 → Spells (inner 0) name_form ts from to n
name_spelled ts from to n is next = subst (λ o. Spells (inner 0) (name_at o) ts from to n) (sym is) (next, refl)

-- The parts of a head.

record Parts (ts : List Token) (k : ℕ) : Type 0 where
  pub ends : ends_kind (word_of (kind_at ts k)) ≡ true
  pub name : is_name (kind_at ts (k + 1)) ≡ true
  pub colon : is_colon (sign_of (kind_at ts (k + 2))) ≡ true
  pub access : is_public (word_of (kind_at ts (k + 3))) ≡ true
  pub base : is_name (kind_at ts (k + 4)) ≡ true
  pub brace : is_brace (sign_of (kind_at ts (k + 5))) ≡ true

parts : (ts : List Token) (k : ℕ) → is_head ts k ≡ true → Parts ts k
unfolding is_head
parts ts k e =
    let a = ends_kind (word_of (kind_at ts k)) in
    let b = is_name (kind_at ts (k + 1)) in
    let c = is_colon (sign_of (kind_at ts (k + 2))) in
    let d = is_public (word_of (kind_at ts (k + 3))) in
    let f = is_name (kind_at ts (k + 4)) in
    let g = is_brace (sign_of (kind_at ts (k + 5))) in
    let e5 = and_parts (a && b && c && d && f) g e in
    let e4 = and_parts (a && b && c && d) f e5.0 in
    let e3 = and_parts (a && b && c) d e4.0 in
    let e2 = and_parts (a && b) c e3.0 in
    let e1 = and_parts a b e2.0 in
    record { ends = e1.0; name = e1.1; colon = e2.1; access = e3.1; base = e4.1; brace = e5.1 }

head_of : (ts : List Token) (k : ℕ) → Parts ts k → is_head ts k ≡ true
unfolding is_head
head_of ts k h =
    let a = ends_kind (word_of (kind_at ts k)) in
    let b = is_name (kind_at ts (k + 1)) in
    let c = is_colon (sign_of (kind_at ts (k + 2))) in
    let d = is_public (word_of (kind_at ts (k + 3))) in
    let f = is_name (kind_at ts (k + 4)) in
    let g = is_brace (sign_of (kind_at ts (k + 5))) in
    and_from (a && b && c && d && f) g (and_from (a && b && c && d) f (and_from (a && b && c) d (and_from (a && b) c (and_from a b h.ends h.name) h.colon) h.access) h.base) h.brace

-- The kind of a head.

record KindFrom (ts : List Token) (k : ℕ) : Type 0 where
  pub first : ℕ
  pub kind : Kind
  pub spelled : Spells (inner 0) kind_form ts first (k + 1) kind
  pub place : first_place ts k ≡ pos_at ts first

plain_kind : (ts : List Token) (k : ℕ) (w : Option Word) → ends_kind w ≡ true → (x : Kind) × Spells (inner 0) (kind_by w) ts k (k + 1) x
plain_kind ts k (Some word.Class) e = (kind.Class, (refl, refl))
plain_kind ts k (Some word.Coroutine) e = (kind.Coroutine, (refl, refl))
plain_kind ts k (Some word.Monitor) e = (kind.Monitor, (refl, refl))
plain_kind ts k (Some word.Cormonitor) e = (kind.Cormonitor, (refl, refl))
plain_kind ts k (Some word.Task) e = (kind.Task, (refl, refl))
plain_kind ts k (Some word.Event) e = (kind.Event, (refl, refl))
plain_kind ts k _ e = absurd (false≢true e)

mutex_kind : (ts : List Token) (k : ℕ) (w : Option Word) → may_be_mutex w ≡ true → (x : Kind) × Spells (inner 0) (mutex_kind_at w) ts k (k + 1) x
mutex_kind ts k (Some word.Class) e = (kind.Monitor, (refl, refl))
mutex_kind ts k (Some word.Coroutine) e = (kind.Cormonitor, (refl, refl))
mutex_kind ts k _ e = absurd (false≢true e)

with_mutex : (ts : List Token) (j k : ℕ) → j + 1 ≡ k → is_mutex (word_of (kind_at ts j)) ≡ true → may_be_mutex (word_of (kind_at ts k)) ≡ true → (x : Kind) × Spells (inner 0) kind_form ts j (k + 1) x
with_mutex ts j k next m may =
    let found = mutex_kind ts k (word_of (kind_at ts k)) may in
    let here : Spells (inner 0) (mutex_kind_at (word_of (kind_at ts (j + 1)))) ts (j + 1) (k + 1) found.0 = subst (λ a. Spells (inner 0) (mutex_kind_at (word_of (kind_at ts a))) ts a (k + 1) found.0) (sym next) found.1 in
    (found.0, subst (λ w. Spells (inner 0) (kind_by w) ts j (k + 1) found.0) (sym (mutex_there (word_of (kind_at ts j)) m)) here)

kind_from : (ts : List Token) (k : ℕ) → ends_kind (word_of (kind_at ts k)) ≡ true → (has_mutex ts k ≡ true) ⊎ (has_mutex ts k ≡ false) → KindFrom ts k
unfolding has_mutex first_place
kind_from ts k ends (inl m) =
    let e2 = and_parts (may_be_mutex (word_of (kind_at ts k)) && nat_le 1 k) (is_mutex (word_of (kind_at ts (k - 1)))) m in
    let e1 = and_parts (may_be_mutex (word_of (kind_at ts k))) (nat_le 1 k) e2.0 in
    let some : 1 ≤ k = leb-true 1 k e1.1 in
    let found = with_mutex ts (k - 1) k (omega arith) e2.1 e1.0 in
    record { first = k - 1; kind = found.0; spelled = found.1; place = chosen (has_mutex ts k) (pos_at ts (k - 1)) (pos_at ts k) m }
kind_from ts k ends (inr m) =
    let found = plain_kind ts k (word_of (kind_at ts k)) ends in
    record { first = k; kind = found.0; spelled = found.1; place = other (has_mutex ts k) (pos_at ts (k - 1)) (pos_at ts k) m }

pub noted : (ts : List Token) (k : ℕ) → is_head ts k ≡ true → Noted ts k
unfolding base_name
noted ts k h =
    let p = parts ts k h in
    let from = kind_from ts k p.ends (cases_Bool (has_mutex ts k)) in
    let name = name_there (kind_at ts (k + 1)) p.name in
    let base = name_there (kind_at ts (k + 4)) p.base in
    record {
      first = from.first;
      kind = from.kind;
      name = name.0;
      base = base.0;
      derives = record {
        kind_spelled = from.spelled;
        name_spelled = name_spelled ts (k + 1) (k + 2) name.0 name.1 (omega arith);
        colon = colon_there (kind_at ts (k + 2)) p.colon;
        access = public_there (kind_at ts (k + 3)) p.access;
        base_spelled = name_spelled ts (k + 4) (k + 5) base.0 base.1 (omega arith);
        brace = brace_there (kind_at ts (k + 5)) p.brace;
        name_is = p.name;
        base_is = p.base;
      };
      place = from.place;
      noted = chosen (is_head ts k) (name_of (kind_at ts (k + 4))) None h ∙ ap name_of base.1;
    }

-- And what the grammar spells so is a head.

mutex_ends : (ts : List Token) (at k : ℕ) (x : Kind) (w : Option Word) → word_of (kind_at ts at) ≡ w → Spells (inner 0) (mutex_kind_at w) ts at (k + 1) x → ends_kind (word_of (kind_at ts k)) ≡ true
mutex_ends ts at k x (Some word.Class) e r = let same : k ≡ at = omega (arith, r.0) in ap (λ a. ends_kind (word_of (kind_at ts a))) same ∙ ap ends_kind e
mutex_ends ts at k x (Some word.Coroutine) e r = let same : k ≡ at = omega (arith, r.0) in ap (λ a. ends_kind (word_of (kind_at ts a))) same ∙ ap ends_kind e
mutex_ends ts at k x _ e r = absurd r

kind_ends : (ts : List Token) (at k : ℕ) (x : Kind) (w : Option Word) → word_of (kind_at ts at) ≡ w → Spells (inner 0) (kind_by w) ts at (k + 1) x → ends_kind (word_of (kind_at ts k)) ≡ true
kind_ends ts at k x (Some word.Class) e r = let same : k ≡ at = omega (arith, r.0) in ap (λ a. ends_kind (word_of (kind_at ts a))) same ∙ ap ends_kind e
kind_ends ts at k x (Some word.Coroutine) e r = let same : k ≡ at = omega (arith, r.0) in ap (λ a. ends_kind (word_of (kind_at ts a))) same ∙ ap ends_kind e
kind_ends ts at k x (Some word.Monitor) e r = let same : k ≡ at = omega (arith, r.0) in ap (λ a. ends_kind (word_of (kind_at ts a))) same ∙ ap ends_kind e
kind_ends ts at k x (Some word.Cormonitor) e r = let same : k ≡ at = omega (arith, r.0) in ap (λ a. ends_kind (word_of (kind_at ts a))) same ∙ ap ends_kind e
kind_ends ts at k x (Some word.Task) e r = let same : k ≡ at = omega (arith, r.0) in ap (λ a. ends_kind (word_of (kind_at ts a))) same ∙ ap ends_kind e
kind_ends ts at k x (Some word.Event) e r = let same : k ≡ at = omega (arith, r.0) in ap (λ a. ends_kind (word_of (kind_at ts a))) same ∙ ap ends_kind e
kind_ends ts at k x (Some word.Mutex) e r = mutex_ends ts (at + 1) k x (word_of (kind_at ts (at + 1))) refl r
kind_ends ts at k x _ e r = absurd r

pub found : (ts : List Token) (first k : ℕ) (x : Kind) (name base : List ℕ) → Derives ts first k x name base → is_head ts k ≡ true
found ts first k x name base h = head_of ts k (record {
  ends = kind_ends ts first k x (word_of (kind_at ts first)) refl h.kind_spelled;
  name = h.name_is;
  colon = ap (λ o. is_colon (sign_of o)) h.colon;
  access = ap (λ o. is_public (word_of o)) h.access;
  base = h.base_is;
  brace = ap (λ o. is_brace (sign_of o)) h.brace;
})
