-- Marks and rows that fit one another: what comes next has the handlers of the marks, and what is opened or closed changes nothing
-- before it.
use Rattle.std.proofs.Common.{◌≡◌, ℕ, suc, ◌<◌, ◌≤◌, min, List, [], ◌∷◌, ◌++◌, length, Bool, true, false, refl, ap, sym, subst, ◌∙◌, arith, inl, inr}
use Rattle.std.specs.Prelude.{nat_eq, nat_lt}
use Rattle.std.proofs.lemmas.Bool.{cases_lt, eq-eqb, ne_eqb, lt-ltb, le-ltb, le-leb, lt-leb}
use Rattle.uc_code.specs.declared.rows.HandlerRow.{HandlerRow}
use Rattle.uc_code.specs.declared.rows.TheConstants.{OPEN_END}
use Rattle.uc_code.specs.declared.rows.CodeMark.{CodeMark}
use Rattle.uc_code.specs.declared.rows.Opening.{Opening}
use Rattle.uc_code.specs.declared.rows.Opening.TheVariants as opening
use Rattle.uc_code.specs.Layout.{under, handlers, covers, counted_by, from_row, from_newest}
use Rattle.uc_code.specs.OpenRows.{named_by, opening_mark, opening_kind, opening_event, opening_around, made, Below, Falling, Nested, Bare, Ended, InBody, InLoop, InRow}

-- numbers below another

below_rise : (k l : ℕ) (ns : List ℕ) → k ≤ l → Below k ns → Below l ns
below_rise k l [] h b = tt
below_rise k l (n ∷ ns) h b = let m = b.0 in (omega arith, below_rise k l ns h b.1)

pub under_take : (below n : ℕ) (ns : List ℕ) → n < below → under below (n ∷ ns) ≡ n ∷ under below ns
under_take below n ns h = rw (lt-ltb n below h) refl

pub under_drop : (below n : ℕ) (ns : List ℕ) → below ≤ n → under below (n ∷ ns) ≡ under below ns
under_drop below n ns h = rw (le-ltb n below h) refl

pub under_all : (below : ℕ) (ns : List ℕ) → Below below ns → under below ns ≡ ns
under_all below [] b = refl
under_all below (n ∷ ns) b = under_take below n ns b.0 ∙ ap (λ l. n ∷ l) (under_all below ns b.1)

pub below_under : (k below : ℕ) (ns : List ℕ) → Below k ns → Below k (under below ns)
below_under k below [] b = tt
below_under k below (n ∷ ns) b = elim (cases_lt n below) [
  | inl h ↦ subst (Below k) (sym (under_take below n ns h)) (b.0, below_under k below ns b.1)
  | inr h ↦ subst (Below k) (sym (under_drop below n ns h)) (below_under k below ns b.1)
]

pub under_under : (a b : ℕ) (ns : List ℕ) → under a (under b ns) ≡ under (min a b) ns
under_under a b [] = refl
under_under a b (n ∷ ns) = elim (cases_lt n b) [
  | inl h ↦ ap (under a) (under_take b n ns h) ∙ (elim (cases_lt n a) [
    | inl k ↦ under_take a n (under b ns) k ∙ (ap (λ l. n ∷ l) (under_under a b ns) ∙ sym (under_take (min a b) n ns (omega arith)))
    | inr k ↦ under_drop a n (under b ns) k ∙ (under_under a b ns ∙ sym (under_drop (min a b) n ns (omega arith)))
  ])
  | inr h ↦ ap (under a) (under_drop b n ns h) ∙ (under_under a b ns ∙ sym (under_drop (min a b) n ns (omega arith)))
]

-- a row further out

other_row : (r : HandlerRow) (rs : List HandlerRow) (n : ℕ) → n ≤ length rs → from_row (r ∷ rs) n ≡ from_row rs n
other_row r rs n h = let k : nat_eq n (suc (length rs)) ≡ false = ne_eqb n (suc (length rs)) (λ e. omega arith) in rw k refl

name_small : (k : ℕ) (ns : List ℕ) → Below k ns → named_by ns ≤ k
name_small k [] b = omega arith
name_small k (n ∷ ns) b = let m = b.0 in omega arith

other_name : (r : HandlerRow) (rs : List HandlerRow) (ns : List ℕ) → Below (length rs) ns → from_row (r ∷ rs) (named_by ns) ≡ from_row rs (named_by ns)
other_name r rs ns b = other_row r rs (named_by ns) (name_small (length rs) ns b)

-- the number of the row that an opening makes, where it is a handler, before those around it
abbrev own_in : Opening → ℕ → List ℕ
own_in (opening.Main main routine line) n = n ∷ []
own_in (opening.Whole leave) n = n ∷ []
own_in opening.Handler n = n ∷ []
own_in (opening.Object what line) n = n ∷ []
own_in opening.Part n = n ∷ []
own_in opening.Elements n = n ∷ []
own_in (opening.Outward below) n = []

handlers_in : (o : Opening) (n : ℕ) (ms : List CodeMark) → handlers (opening_mark o n ∷ ms) ≡ own_in o n ++ opening_around o ms
handlers_in (opening.Main main routine line) n ms = refl
handlers_in (opening.Whole leave) n ms = refl
handlers_in opening.Handler n ms = refl
handlers_in (opening.Object what line) n ms = refl
handlers_in opening.Part n ms = refl
handlers_in opening.Elements n ms = refl
handlers_in (opening.Outward below) n ms = refl

counted_in : (o : Opening) (n : ℕ) → counted_by (opening_kind o) (opening_event o) n ≡ own_in o n
counted_in (opening.Main main routine line) n = refl
counted_in (opening.Whole leave) n = refl
counted_in opening.Handler n = refl
counted_in (opening.Object what line) n = refl
counted_in opening.Part n = refl
counted_in opening.Elements n = refl
counted_in (opening.Outward below) n = refl

module _ (here : ℕ) where
  pub all_below : (rs : List HandlerRow) (ms : List CodeMark) → Nested here rs ms → Below (length rs) (handlers ms)
  all_below rs ms Bare = tt
  all_below rs ms (Ended r qs _ l n) = below_rise (length qs) (length rs) (handlers ms) (omega arith) (all_below qs ms n)
  all_below rs ms (InBody routine _ qs n) = all_below rs qs n
  all_below rs ms (InLoop leave again _ qs n) = all_below rs qs n
  all_below rs ms (InRow (opening.Main main routine line) from qs ns l n) = (omega arith, below_rise (length qs) (length rs) (handlers ns) (omega arith) (all_below qs ns n))
  all_below rs ms (InRow (opening.Whole leave) from qs ns l n) = (omega arith, below_rise (length qs) (length rs) (handlers ns) (omega arith) (all_below qs ns n))
  all_below rs ms (InRow opening.Handler from qs ns l n) = (omega arith, below_rise (length qs) (length rs) (handlers ns) (omega arith) (all_below qs ns n))
  all_below rs ms (InRow (opening.Object what line) from qs ns l n) = (omega arith, below_rise (length qs) (length rs) (handlers ns) (omega arith) (all_below qs ns n))
  all_below rs ms (InRow opening.Part from qs ns l n) = (omega arith, below_rise (length qs) (length rs) (handlers ns) (omega arith) (all_below qs ns n))
  all_below rs ms (InRow opening.Elements from qs ns l n) = (omega arith, below_rise (length qs) (length rs) (handlers ns) (omega arith) (all_below qs ns n))
  all_below rs ms (InRow (opening.Outward below) from qs ns l n) = below_under (length rs) below (handlers ns) (below_rise (length qs) (length rs) (handlers ns) (omega arith) (all_below qs ns n))

  -- the rows of marks, where those from a number on are left

  named_own : (o : Opening) (from below : ℕ) (qs : List HandlerRow) (ns : List CodeMark) → Below (length qs) (handlers ns) → ((b : ℕ) → from_row qs (named_by (under b (handlers ns))) ≡ under b (handlers ns)) → own_in o (length qs) ≡ length qs ∷ [] → opening_around o ns ≡ handlers ns → from_row (made o from ns ∷ qs) (named_by (under below (length qs ∷ handlers ns))) ≡ under below (length qs ∷ handlers ns)
  named_own o from below qs ns b ih w e = elim (cases_lt (length qs) below) [
    | inl h ↦
        let all : under below (handlers ns) ≡ handlers ns = under_all below (handlers ns) (below_rise (length qs) below (handlers ns) (omega arith) b) in
        let same : under (length qs) (handlers ns) ≡ handlers ns = under_all (length qs) (handlers ns) b in
        let t : under below (length qs ∷ handlers ns) ≡ length qs ∷ handlers ns = under_take below (length qs) (handlers ns) h ∙ ap (λ l. length qs ∷ l) all in
        let k : nat_eq (suc (length qs)) (suc (length qs)) ≡ true = eq-eqb _ _ refl in
        let inner : from_row qs (named_by (opening_around o ns)) ≡ handlers ns = ap (λ l. from_row qs (named_by l)) (e ∙ sym same) ∙ (ih (length qs) ∙ same) in
        let at_row : from_row (made o from ns ∷ qs) (suc (length qs)) ≡ counted_by (opening_kind o) (opening_event o) (length qs) ++ from_row qs (named_by (opening_around o ns)) = rw k refl in
        let whole : from_row (made o from ns ∷ qs) (suc (length qs)) ≡ length qs ∷ handlers ns = at_row ∙ (ap (λ l. l ++ from_row qs (named_by (opening_around o ns))) (counted_in o (length qs) ∙ w) ∙ ap (λ l. length qs ∷ l) inner) in
        ap (λ l. from_row (made o from ns ∷ qs) (named_by l)) t ∙ (whole ∙ sym t)
    | inr h ↦
        let t : under below (length qs ∷ handlers ns) ≡ under below (handlers ns) = under_drop below (length qs) (handlers ns) h in
        ap (λ l. from_row (made o from ns ∷ qs) (named_by l)) t ∙ (other_name (made o from ns) qs (under below (handlers ns)) (below_under (length qs) below (handlers ns) b) ∙ (ih below ∙ sym t))
  ]

  pub named : (rs : List HandlerRow) (ms : List CodeMark) → Nested here rs ms → (below : ℕ) → from_row rs (named_by (under below (handlers ms))) ≡ under below (handlers ms)
  named rs ms Bare below = refl
  named rs ms (Ended r qs _ l n) below = other_name r qs (under below (handlers ms)) (below_under (length qs) below (handlers ms) (all_below qs ms n)) ∙ named qs ms n below
  named rs ms (InBody routine _ qs n) below = named rs qs n below
  named rs ms (InLoop leave again _ qs n) below = named rs qs n below
  named rs ms (InRow (opening.Main main routine line) from qs ns l n) below = named_own (opening.Main main routine line) from below qs ns (all_below qs ns n) (λ b. named qs ns n b) refl refl
  named rs ms (InRow (opening.Whole leave) from qs ns l n) below = named_own (opening.Whole leave) from below qs ns (all_below qs ns n) (λ b. named qs ns n b) refl refl
  named rs ms (InRow opening.Handler from qs ns l n) below = named_own opening.Handler from below qs ns (all_below qs ns n) (λ b. named qs ns n b) refl refl
  named rs ms (InRow (opening.Object what line) from qs ns l n) below = named_own (opening.Object what line) from below qs ns (all_below qs ns n) (λ b. named qs ns n b) refl refl
  named rs ms (InRow opening.Part from qs ns l n) below = named_own opening.Part from below qs ns (all_below qs ns n) (λ b. named qs ns n b) refl refl
  named rs ms (InRow opening.Elements from qs ns l n) below = named_own opening.Elements from below qs ns (all_below qs ns n) (λ b. named qs ns n b) refl refl
  named rs ms (InRow (opening.Outward less) from qs ns l n) below =
      let e : under below (under less (handlers ns)) ≡ under (min below less) (handlers ns) = under_under below less (handlers ns) in
      let b : Below (length qs) (under (min below less) (handlers ns)) = below_under (length qs) (min below less) (handlers ns) (all_below qs ns n) in
      let r : HandlerRow = made (opening.Outward less) from ns in
      ap (λ l. from_row (r ∷ qs) (named_by l)) e ∙ (other_name r qs (under (min below less) (handlers ns)) b ∙ (named qs ns n (min below less) ∙ sym e))

  all_named : (qs : List HandlerRow) (ns : List CodeMark) → Nested here qs ns → from_row qs (named_by (handlers ns)) ≡ handlers ns
  all_named qs ns n =
      let same : under (length qs) (handlers ns) ≡ handlers ns = under_all (length qs) (handlers ns) (all_below qs ns n) in
      ap (λ l. from_row qs (named_by l)) (sym same) ∙ (named qs ns n (length qs) ∙ same)

  around_named : (o : Opening) (qs : List HandlerRow) (ns : List CodeMark) → Nested here qs ns → from_row qs (named_by (opening_around o ns)) ≡ opening_around o ns
  around_named (opening.Main main routine line) qs ns n = all_named qs ns n
  around_named (opening.Whole leave) qs ns n = all_named qs ns n
  around_named opening.Handler qs ns n = all_named qs ns n
  around_named (opening.Object what line) qs ns n = all_named qs ns n
  around_named opening.Part qs ns n = all_named qs ns n
  around_named opening.Elements qs ns n = all_named qs ns n
  around_named (opening.Outward below) qs ns n = named qs ns n below

  -- the row around a new one is older

  pub older_named : (o : Opening) (qs : List HandlerRow) (ns : List CodeMark) → Nested here qs ns → named_by (opening_around o ns) ≤ length qs
  older_named (opening.Main main routine line) qs ns n = name_small (length qs) (handlers ns) (all_below qs ns n)
  older_named (opening.Whole leave) qs ns n = name_small (length qs) (handlers ns) (all_below qs ns n)
  older_named opening.Handler qs ns n = name_small (length qs) (handlers ns) (all_below qs ns n)
  older_named (opening.Object what line) qs ns n = name_small (length qs) (handlers ns) (all_below qs ns n)
  older_named opening.Part qs ns n = name_small (length qs) (handlers ns) (all_below qs ns n)
  older_named opening.Elements qs ns n = name_small (length qs) (handlers ns) (all_below qs ns n)
  older_named (opening.Outward below) qs ns n = name_small (length qs) (under below (handlers ns)) (below_under (length qs) below (handlers ns) (all_below qs ns n))

  -- each op from here on has the handlers of the marks

  covers_past : (b : Bool) (r : HandlerRow) (next : ℕ) → b ≡ nat_lt r.from next → r.to < next → covers r next ≡ false
  covers_past true r next e h = rw (← e, lt-leb next r.to h) refl
  covers_past false r next e h = rw (← e) refl

  covers_open : (r : HandlerRow) (next : ℕ) → r.from < next → next ≤ r.to → covers r next ≡ true
  covers_open r next h g = rw (lt-ltb r.from next h, le-leb next r.to g) refl

  pub newest : (rs : List HandlerRow) (ms : List CodeMark) → Nested here rs ms → (next : ℕ) → here < next → next ≤ OPEN_END → from_newest rs next ≡ handlers ms
  newest rs ms Bare next g m = refl
  newest rs ms (Ended r qs _ l n) next g m = let w = l.within in let c : covers r next ≡ false = covers_past (nat_lt r.from next) r next refl (omega arith) in rw c (newest qs ms n next g m)
  newest rs ms (InBody routine _ qs n) next g m = newest rs qs n next g m
  newest rs ms (InLoop leave again _ qs n) next g m = newest rs qs n next g m
  newest rs ms (InRow o from qs ns l n) next g m =
      let r : HandlerRow = made o from ns in
      let c : covers r next ≡ true = covers_open r next (omega arith) m in
      let f : from_newest (r ∷ qs) next ≡ counted_by (opening_kind o) (opening_event o) (length qs) ++ from_row qs (named_by (opening_around o ns)) = rw c refl in
      f ∙ (ap (λ l. l ++ from_row qs (named_by (opening_around o ns))) (counted_in o (length qs)) ∙ (ap (λ l. own_in o (length qs) ++ l) (around_named o qs ns n) ∙ sym (handlers_in o (length qs) ns)))

-- further on all still fits
pub nested_rise : (here there : ℕ) → here ≤ there → (rs : List HandlerRow) (ms : List CodeMark) → Nested here rs ms → Nested there rs ms
nested_rise here there g rs ms Bare = Bare
nested_rise here there g rs ms (Ended r qs _ l n) = let w = l.within in Ended r qs ms (record { within = omega arith; range = l.range; outer = l.outer }) (nested_rise here there g qs ms n)
nested_rise here there g rs ms (InBody routine _ qs n) = InBody routine rs qs (nested_rise here there g rs qs n)
nested_rise here there g rs ms (InLoop leave again _ qs n) = InLoop leave again rs qs (nested_rise here there g rs qs n)
nested_rise here there g rs ms (InRow o from qs ns l n) = InRow o from qs ns (omega arith) (nested_rise here there g qs ns n)

-- the rows of the marks fall
pub falls : (here : ℕ) (rs : List HandlerRow) (ms : List CodeMark) → Nested here rs ms → Falling ms
falls here rs ms Bare = tt
falls here rs ms (Ended r qs _ l n) = falls here qs ms n
falls here rs ms (InBody routine _ qs n) = falls here rs qs n
falls here rs ms (InLoop leave again _ qs n) = falls here rs qs n
falls here rs ms (InRow (opening.Main main routine line) from qs ns l n) = (all_below here qs ns n, falls here qs ns n)
falls here rs ms (InRow (opening.Whole leave) from qs ns l n) = (all_below here qs ns n, falls here qs ns n)
falls here rs ms (InRow opening.Handler from qs ns l n) = (all_below here qs ns n, falls here qs ns n)
falls here rs ms (InRow (opening.Object what line) from qs ns l n) = (all_below here qs ns n, falls here qs ns n)
falls here rs ms (InRow opening.Part from qs ns l n) = (all_below here qs ns n, falls here qs ns n)
falls here rs ms (InRow opening.Elements from qs ns l n) = (all_below here qs ns n, falls here qs ns n)
falls here rs ms (InRow (opening.Outward below) from qs ns l n) = falls here qs ns n
