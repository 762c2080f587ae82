-- A row gets its handler: nothing else changes, and what stands keeps its handlers.
use Rattle.std.proofs.Common.{◌≡◌, ◌≢◌, ℕ, zero, suc, ◌<◌, ◌≤◌, List, [], ◌∷◌, ◌++◌, length, get_or, reverse, true, Some, refl, ap, sym, subst, ◌∙◌, arith, inl, inr, Fits, w32, rules, ◌^◌, ◌⊎◌}
use Rattle.std.specs.Prelude.{slice_get, slice_set}
use Rattle.std.proofs.lemmas.Bool.{cases_lt}
use Rattle.std.proofs.lemmas.Int.{ints}
use Rattle.std.proofs.lemmas.List.{length-reverse}
use Rattle.uc_code.specs.declared.rows.Handler.{Handler}
use Rattle.uc_code.specs.declared.rows.HandlerRow.{HandlerRow}
use Rattle.uc_code.specs.declared.rows.Instruction.{Instruction}
use Rattle.uc_code.specs.declared.rows.CodeMark.{CodeMark}
use Rattle.uc_code.specs.declared.rows.Opening.TheVariants as opening
use Rattle.uc_code.specs.declared.rows.RowKind.{RowKind}
use Rattle.uc_code.specs.declared.rows.RowKind.TheVariants as kind
use Rattle.uc_code.specs.declared.rows.TheConstants.{OPEN_END}
use Rattle.uc_code.specs.Layout.{under, handlers, takes_events, counted_by, from_row, from_newest}
use Rattle.uc_code.specs.OpenRows.{opening_mark, made, Nested, Bare, Ended, InBody, InLoop, InRow, IsSettled, handled_row, handled_rows}
use Rattle.uc_code.specs.CodeShapes.{HandlerAt, IsBare, KeptBut}
use Rattle.uc_code.proofs.Closing.{reverse_cons}
use Rattle.uc_code.proofs.Nesting.{under_take, under_drop}
use Rattle.uc_code.proofs.Settled.{all_rows}

length_more : (xs : List HandlerRow) (x : HandlerRow) → length (xs ++ x ∷ []) ≡ suc (length xs)
length_more [] x = refl
length_more (y ∷ xs) x = ap suc (length_more xs x)

some_row : {a b : HandlerRow} → Some a ≡ Some b → a ≡ b
some_row e = cc

counted_taken : (o : RowKind) (event n : ℕ) → takes_events o ≡ true → counted_by o event n ≡ n ∷ []
counted_taken kind.Catch event n e = refl
counted_taken kind.CatchResume event n e = refl
counted_taken kind.CleanUp event n e = absurd (cc)

module _ (h : Handler) (takes : takes_events h.kind ≡ true) where
  -- of rows, the newest first, the one of this number gets its handler
  data Handles : List HandlerRow → List HandlerRow → ℕ → Type 0 where
    Top : (r : HandlerRow) (rs : List HandlerRow) → takes_events r.kind ≡ true → r.to < OPEN_END → Handles (r ∷ rs) (handled_row h r ∷ rs) (length rs)
    Later : (s : HandlerRow) (rs qs : List HandlerRow) (k : ℕ) → Handles rs qs k → Handles (s ∷ rs) (s ∷ qs) k

  handles_under : (x : HandlerRow) (rs qs : List HandlerRow) (k : ℕ) → Handles rs qs k → Handles (rs ++ x ∷ []) (qs ++ x ∷ []) (suc k)
  handles_under x rs qs k (Top r ps t l) =
      let e : length (ps ++ x ∷ []) ≡ suc (length ps) = length_more ps x in
      subst (λ n. Handles (r ∷ (ps ++ x ∷ [])) (handled_row h r ∷ (ps ++ x ∷ [])) n) e (Top r (ps ++ x ∷ []) t l)
  handles_under x rs qs k (Later s ps os _ c) = Later s (ps ++ x ∷ []) (os ++ x ∷ []) (suc k) (handles_under x ps os k c)

  handles_last : (ys : List HandlerRow) (x : HandlerRow) → takes_events x.kind ≡ true → x.to < OPEN_END → Handles (ys ++ x ∷ []) (ys ++ handled_row h x ∷ []) 0
  handles_last [] x t l = Top x [] t l
  handles_last (y ∷ ys) x t l = Later y (ys ++ x ∷ []) (ys ++ handled_row h x ∷ []) 0 (handles_last ys x t l)

  handles_list : (rows : List HandlerRow) (k : ℕ) (r : HandlerRow) → slice_get rows k ≡ Some r → takes_events r.kind ≡ true → r.to < OPEN_END → Handles (reverse rows) (reverse (handled_rows h k rows)) k
  handles_list [] k r e t l = absurd (cc)
  handles_list (x ∷ xs) zero r e t l =
      let f : x ≡ r = cc in
      let t2 : takes_events x.kind ≡ true = ap (λ (q : HandlerRow). takes_events q.kind) f ∙ t in
      let l2 : x.to < OPEN_END = (let g : x.to ≡ r.to = ap (λ (q : HandlerRow). q.to) f in omega arith) in
      subst (λ qs. Handles (reverse (x ∷ xs)) qs 0) (sym (reverse_cons (handled_row h x) xs))
      (subst (λ qs. Handles qs (reverse xs ++ handled_row h x ∷ []) 0) (sym (reverse_cons x xs)) (handles_last (reverse xs) x t2 l2))
  handles_list (x ∷ xs) (suc k) r e t l =
      subst (λ qs. Handles (reverse (x ∷ xs)) qs (suc k)) (sym (reverse_cons x (handled_rows h k xs)))
      (subst (λ qs. Handles qs (reverse (handled_rows h k xs) ++ x ∷ []) (suc k)) (sym (reverse_cons x xs)) (handles_under x (reverse xs) (reverse (handled_rows h k xs)) k (handles_list xs k r e t l)))

  handles_length : (rs qs : List HandlerRow) (k : ℕ) → Handles rs qs k → length qs ≡ length rs
  handles_length rs qs k (Top r ps t l) = refl
  handles_length rs qs k (Later s ps os _ c) = ap suc (handles_length ps os k c)

  handles_row : (rs qs : List HandlerRow) (k n : ℕ) → Handles rs qs k → from_row qs n ≡ from_row rs n
  handles_row rs qs k n (Top r ps t l) =
      let f : counted_by h.kind h.event (length ps) ≡ counted_by r.kind r.event (length ps) = counted_taken h.kind h.event (length ps) takes ∙ sym (counted_taken r.kind r.event (length ps) t) in
      rw f refl
  handles_row rs qs k n (Later s ps os _ c) =
      let e : length os ≡ length ps = handles_length ps os k c in
      rw (e, handles_row ps os k s.outer c, handles_row ps os k n c) refl

  handles_newest : (rs qs : List HandlerRow) (k next : ℕ) → Handles rs qs k → from_newest qs next ≡ from_newest rs next
  handles_newest rs qs k next (Top r ps t l) =
      let f : counted_by h.kind h.event (length ps) ≡ counted_by r.kind r.event (length ps) = counted_taken h.kind h.event (length ps) takes ∙ sym (counted_taken r.kind r.event (length ps) t) in
      rw f refl
  handles_newest rs qs k next (Later s ps os _ c) =
      let e : length os ≡ length ps = handles_length ps os k c in
      rw (e, handles_row ps os k s.outer c, handles_newest ps os k next c) refl

  -- the newest row gets it, or one of the others

  record Newest (r : HandlerRow) (rs qs : List HandlerRow) : Type 0 where
    pub ended : r.to < OPEN_END
    pub is : qs ≡ handled_row h r ∷ rs

  record Older (r : HandlerRow) (rs qs : List HandlerRow) (k : ℕ) : Type 0 where
    pub others : List HandlerRow
    pub handles : Handles rs others k
    pub is : qs ≡ r ∷ others

  which : (all qs : List HandlerRow) (k : ℕ) (r : HandlerRow) (rs : List HandlerRow) → Handles all qs k → all ≡ r ∷ rs → Newest r rs qs ⊎ Older r rs qs k
  which all qs k r rs (Top q ps t l) e =
      let f : q ≡ r = cc in
      let g : ps ≡ rs = cc in
      let m : q.to ≡ r.to = ap (λ (x : HandlerRow). x.to) f in
      inl (record { ended = omega arith; is = ap (λ (x : HandlerRow). handled_row h x ∷ ps) f ∙ ap (λ x. handled_row h r ∷ x) g })
  which all qs k r rs (Later s ps os _ c) e =
      let f : s ≡ r = cc in
      let g : ps ≡ rs = cc in
      inr (record { others = os; handles = subst (λ x. Handles x os k) g c; is = ap (λ x. x ∷ os) f })

  none_of : {X : Type 0} → (all qs : List HandlerRow) (k : ℕ) → Handles all qs k → all ≡ [] → X
  none_of all qs k (Top q ps t l) e = absurd (cc)
  none_of all qs k (Later s ps os _ c) e = absurd (cc)

  -- a row of a mark is open, and so none of those
  handles_nested : (here : ℕ) (rs qs : List HandlerRow) (k : ℕ) (ms : List CodeMark) → Nested here rs ms → Handles rs qs k → Nested here qs ms
  handles_nested here rs qs k ms Bare a = none_of rs qs k a refl
  handles_nested here rs qs k ms (Ended r ps _ l n) a = elim (which rs qs k r ps a refl) [
    | inl t ↦ subst (λ x. Nested here x ms) (sym t.is) (Ended (handled_row h r) ps ms (record { within = l.within; range = l.range; outer = l.outer }) n)
    | inr u ↦
        let w : length u.others ≡ length ps = handles_length ps u.others k u.handles in
        let o = l.outer in
        subst (λ x. Nested here x ms) (sym u.is) (Ended r u.others ms (record { within = l.within; range = l.range; outer = omega arith }) (handles_nested here ps u.others k ms n u.handles))
  ]
  handles_nested here rs qs k ms (InBody routine _ ns n) a = InBody routine qs ns (handles_nested here rs qs k ns n a)
  handles_nested here rs qs k ms (InLoop leave again _ ns n) a = InLoop leave again qs ns (handles_nested here rs qs k ns n a)
  handles_nested here rs qs k ms (InRow o from ps ns g n) a = elim (which rs qs k (made o from ns) ps a refl) [
    | inl t ↦ let l = t.ended in absurd (omega arith)
    | inr u ↦
        let w : length u.others ≡ length ps = handles_length ps u.others k u.handles in
        subst (λ x. Nested here x (opening_mark o (length ps) ∷ ns)) (sym u.is)
        (subst (λ x. Nested here (made o from ns ∷ u.others) (opening_mark o x ∷ ns)) w (InRow o from u.others ns g (handles_nested here ps u.others k ns n u.handles)))
  ]

-- the rows in order

other_handled : (h : Handler) (k i : ℕ) (rows : List HandlerRow) → i ≢ k → slice_get (handled_rows h k rows) i ≡ slice_get rows i
other_handled h k i [] e = refl
other_handled h zero zero (r ∷ rs) e = absurd (e refl)
other_handled h zero (suc i) (r ∷ rs) e = refl
other_handled h (suc k) zero (r ∷ rs) e = refl
other_handled h (suc k) (suc i) (r ∷ rs) e = other_handled h k i rs (λ q. e (ap suc q))

this_handled : (h : Handler) (k : ℕ) (rows : List HandlerRow) (r : HandlerRow) → slice_get rows k ≡ Some r → slice_get (handled_rows h k rows) k ≡ Some (handled_row h r)
this_handled h k [] r e = absurd (cc)
this_handled h zero (q ∷ rs) r e = let f : q ≡ r = cc in rw f refl
this_handled h (suc k) (q ∷ rs) r e = this_handled h k rs r e

pub length_handled : (h : Handler) (k : ℕ) (rows : List HandlerRow) → length (handled_rows h k rows) ≡ length rows
length_handled h k [] = refl
length_handled h zero (r ∷ rs) = refl
length_handled h (suc k) (r ∷ rs) = ap suc (length_handled h k rs)

module _ (h : Handler) (ops : List Instruction) (rows : List HandlerRow) (k : ℕ) (takes : takes_events h.kind ≡ true) (b : IsBare (record { ops = ops; rows = rows }) k) where
  changed : Handles h takes (reverse rows) (reverse (handled_rows h k rows)) k
  changed = handles_list h takes rows k b.row b.there b.kind b.ended

  pub settled_handler : (settled : ℕ) (ms : List CodeMark) → IsSettled (length ops) settled rows ms → IsSettled (length ops) settled (handled_rows h k rows) ms
  settled_handler settled ms s = record {
    past = s.past;
    few = let f = s.few in let e = length_handled h k rows in omega arith;
    nested = handles_nested h takes settled (reverse rows) (reverse (handled_rows h k rows)) k ms s.nested changed;
    behind = s.behind;
  }

  none_set : (i : ℕ) (x : Handler) → HandlerAt (record { ops = ops; rows = rows }) i x → i ≢ k
  none_set i x a = λ q.
      let f : slice_get rows i ≡ Some b.row = subst (λ j. slice_get rows j ≡ Some b.row) (sym q) b.there in
      let g : a.row ≡ b.row = some_row (sym a.there ∙ f) in
      let z : a.row.entry ≡ 0 = ap (λ (r : HandlerRow). r.entry) g ∙ b.none in
      let y = a.is_set in
      let w = a.entry in
      absurd (omega arith)

  pub kept_handler : KeptBut k (record { ops = ops; rows = rows }) (record { ops = ops; rows = handled_rows h k rows })
  kept_handler = record {
    longer = omega arith;
    same = λ i o line a. record { here = a.here };
    chains = λ next l. handles_newest h takes (reverse rows) (reverse (handled_rows h k rows)) k next changed;
    handlers = λ i x a. record { row = a.row; there = other_handled h k i rows (none_set i x a) ∙ a.there; kind = a.kind; event = a.event; rest = a.rest; entry = a.entry; is_set = a.is_set };
    bare = λ i e a. record { row = a.row; there = other_handled h k i rows e ∙ a.there; kind = a.kind; ended = a.ended; none = a.none };
  }

  pub handler_set : 0 < h.entry → HandlerAt (record { ops = ops; rows = handled_rows h k rows }) k h
  handler_set l = record { row = handled_row h b.row; there = this_handled h k rows b.row b.there; kind = refl; event = refl; rest = refl; entry = refl; is_set = l }

-- a row is set in a list, by its number

set_is : (rows : List HandlerRow) (k : ℕ) (h : Handler) (d : HandlerRow) → k < length rows → slice_set rows k (handled_row h (get_or rows k d)) ≡ handled_rows h k rows
set_is [] k h d l = absurd (omega arith)
set_is (r ∷ rs) zero h d l = refl
set_is (r ∷ rs) (suc k) h d l = ap (λ q. r ∷ q) (set_is rs k h d (omega arith))

pub handled_set : (rows : List HandlerRow) (k n : ℕ) (h : Handler) (r : HandlerRow) → n ≡ length rows → k < n → r ≡ get_or rows k r → slice_set rows k (record { from = r.from; to = r.to; outer = r.outer; kind = h.kind; event = h.event; rest = h.rest; entry = h.entry }) ≡ handled_rows h k rows
handled_set rows k n h r e l is = ap (λ (q : HandlerRow). slice_set rows k (handled_row h q)) is ∙ set_is rows k h r (omega arith)

past_is : (rows : List HandlerRow) (k : ℕ) (h : Handler) → length rows ≤ k → rows ≡ handled_rows h k rows
past_is [] k h l = refl
past_is (r ∷ rs) zero h l = absurd (omega arith)
past_is (r ∷ rs) (suc k) h l = ap (λ q. r ∷ q) (past_is rs k h (omega arith))

pub handled_past : (rows : List HandlerRow) (k n : ℕ) (h : Handler) → n ≡ length rows → n ≤ k → rows ≡ handled_rows h k rows
handled_past rows k n h e l = past_is rows k h (omega arith)

-- there are as many rows as marks have, at least

under_few : (below : ℕ) (ns : List ℕ) → length (under below ns) ≤ length ns
under_few below [] = omega arith
under_few below (n ∷ ns) = elim (cases_lt n below) [
  | inl l ↦ let e : length (under below (n ∷ ns)) ≡ suc (length (under below ns)) = ap length (under_take below n ns l) in let k = under_few below ns in omega arith
  | inr l ↦ let e : length (under below (n ∷ ns)) ≡ length (under below ns) = ap length (under_drop below n ns l) in let k = under_few below ns in omega arith
]

rows_few : (here : ℕ) (rs : List HandlerRow) (ms : List CodeMark) → Nested here rs ms → length (handlers ms) ≤ length rs
rows_few here rs ms Bare = omega arith
rows_few here rs ms (Ended r qs _ l n) = let k = rows_few here qs ms n in omega arith
rows_few here rs ms (InBody routine _ ns n) = rows_few here rs ns n
rows_few here rs ms (InLoop leave again _ ns n) = rows_few here rs ns n
rows_few here rs ms (InRow (opening.Main main routine line) from qs ns l n) = let k = rows_few here qs ns n in omega arith
rows_few here rs ms (InRow (opening.Whole leave) from qs ns l n) = let k = rows_few here qs ns n in omega arith
rows_few here rs ms (InRow opening.Handler from qs ns l n) = let k = rows_few here qs ns n in omega arith
rows_few here rs ms (InRow (opening.Object what line) from qs ns l n) = let k = rows_few here qs ns n in omega arith
rows_few here rs ms (InRow opening.Part from qs ns l n) = let k = rows_few here qs ns n in omega arith
rows_few here rs ms (InRow opening.Elements from qs ns l n) = let k = rows_few here qs ns n in omega arith
rows_few here rs ms (InRow (opening.Outward below) from qs ns l n) = let k = rows_few here qs ns n in let m = under_few below (handlers ns) in omega arith

pub handlers_few : (ops settled : ℕ) (rows : List HandlerRow) (ms : List CodeMark) → IsSettled ops settled rows ms → length (handlers ms) ≤ length rows
handlers_few ops settled rows ms s = let l = rows_few settled (reverse rows) ms s.nested in let e = length-reverse rows in omega arith

-- how many rows stand outwards of a guarded block
pub rows_are : (count all ops settled : ℕ) (seen marks : List CodeMark) (rows : List HandlerRow) → count ≡ length (under all (handlers (reverse seen))) → seen ≡ marks → all ≡ length rows → IsSettled ops settled rows (reverse marks) → count ≡ length (handlers (reverse marks))
rows_are count all ops settled seen marks rows c e n s =
    c ∙ (ap (λ (l : List CodeMark). length (under all (handlers (reverse l)))) e ∙ (ap (λ k. length (under k (handlers (reverse marks)))) n ∙ ap length (all_rows ops settled rows (reverse marks) s)))

pub rows_fit : (ops settled : ℕ) (rows : List HandlerRow) (ms : List CodeMark) → IsSettled ops settled rows ms → Fits w32 (length (handlers ms))
rows_fit ops settled rows ms s = let l = handlers_few ops settled rows ms s in let f = s.few in let g : length (handlers ms) < 2 ^ 32 = omega arith in search (rules, ints, g)
