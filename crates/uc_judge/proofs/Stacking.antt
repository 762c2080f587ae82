-- The members called last, and the stacks, with one entry more.
use Rattle.std.proofs.Common.{◌≡◌, ◌⊎◌, ℕ, ◌+◌, ◌<◌, ◌==◌, Bool, true, false, cond, List, [], ◌∷◌, ◌++◌, Option, Some, None, map, take, drop, length, get_or, slice_set, refl, sym, ap, ◌∙◌, subst, arith, length-drop, inl, inr}
use Rattle.std.specs.Prelude.{nat_lt, ◌≢◌}
use Rattle.std.specs.Ordering.{nat_cmp, ordering_then, is_eq}
use Rattle.std.specs.declared.cmp.Ordering.{Ordering}
use Rattle.std.specs.declared.cmp.Ordering.TheVariants.{Less, Equal, Greater}
use Rattle.std.specs.declared.alloc.Global.{Global}
use Rattle.std.specs.declared.vec.Vec.{Vec}
use Rattle.std.specs.BTreeMap.{is_at}
use Rattle.std.specs.List.{filter, fold}
use Rattle.std.proofs.lemmas.Bool.{eq-eqb, ne_eqb, eqb-true, cases_eq}
use Rattle.std.proofs.lemmas.List.{map-append, take_more, take_more_set, drop-set-lt, get_or-drop}
use Rattle.std.proofs.lemmas.List.Sums.{fold-append}
use Rattle.std.proofs.lemmas.Grind.{drop_more_same}
use Rattle.uc_tree.specs.Programs.{Site}
use Rattle.uc_entry.specs.declared.entry.Entry.{Entry}
use Rattle.uc_entry.specs.declared.entry.EntryKind.{EntryKind}
use Rattle.uc_entry.specs.declared.entry.EntryKind.TheVariants as kind
use Rattle.uc_acts.specs.Journal.{Journal, number, entries_at}
use Rattle.uc_acts.specs.Doors.{OnStack, last_called, last_from, last_call, told_from, stack_after, stack_at}
use Rattle.uc_acts.proofs.Seats.{at_push, at_other}
use Rattle.uc_judge.specs.declared.stacks.OnStack.{OnStack as Row}
use Rattle.uc_judge.specs.ClauseStacks.{as_on_stack, pair_cmp, rows_of}
use Rattle.uc_judge.proofs.Opening.{not_at}

-- another object or another task is another key
not_this : (o t p u : ℕ) → (o ≡ p → t ≡ u → ⊥) → is_at (pair_cmp (o, t)) (p, u) ≡ false
not_this o t p u n = by (nat_lt o p) (o == p) refl
  where
    by : (b e : Bool) → (o == p) ≡ e → is_eq (ordering_then (cond {A = Ordering} b Less (cond e Equal Greater)) (nat_cmp t u)) ≡ false
    by true e h = refl
    by false true h = not_at t u (n (eqb-true o p h))
    by false false h = refl

pub called_more : (f g : ℕ × ℕ → Option ℕ) (e : Entry) (m : ℕ) → e.kind ≡ kind.Call → m ≡ number e.a → g (e.object, e.task) ≡ Some m → ((q : ℕ × ℕ) → is_at (pair_cmp (e.object, e.task)) q ≡ false → g q ≡ f q) → (o t : ℕ) → g (o, t) ≡ cond (e.object == o) (last_called (λ u. f (o, u)) e.kind e t) (f (o, t))
called_more f g e m k at here there o t = by (cases_eq e.object o) (cases_eq t e.task)
  where
    called : cond (e.object == o) (cond (t == e.task) (Some (number e.a)) (f (o, t))) (f (o, t)) ≡ cond (e.object == o) (last_called (λ u. f (o, u)) e.kind e t) (f (o, t))
    called = ap (λ x. cond (e.object == o) (last_called (λ u. f (o, u)) x e t) (f (o, t))) (sym k)

    by : ((e.object ≡ o) ⊎ (e.object ≢ o)) → ((t ≡ e.task) ⊎ (t ≢ e.task)) → g (o, t) ≡ cond (e.object == o) (last_called (λ u. f (o, u)) e.kind e t) (f (o, t))
    by (inl p) (inl q) =
        ap (λ x. g (x, t)) (sym p) ∙ ap (λ x. g (e.object, x)) q ∙ here ∙ ap Some at
        ∙ sym (ap (λ b. cond b (cond (t == e.task) (Some (number e.a)) (f (o, t))) (f (o, t))) (eq-eqb e.object o p) ∙ ap (λ b. cond b (Some (number e.a)) (f (o, t))) (eq-eqb t e.task q))
        ∙ called
    by (inl p) (inr n) =
        there (o, t) (not_this e.object e.task o t (λ x y. n (sym y)))
        ∙ sym (ap (λ b. cond b (cond (t == e.task) (Some (number e.a)) (f (o, t))) (f (o, t))) (eq-eqb e.object o p) ∙ ap (λ b. cond b (Some (number e.a)) (f (o, t))) (ne_eqb t e.task n))
        ∙ called
    by (inr n) c =
        there (o, t) (not_this e.object e.task o t (λ x y. n x))
        ∙ sym (ap (λ b. cond b (last_called (λ u. f (o, u)) e.kind e t) (f (o, t))) (ne_eqb e.object o n))

-- a row changed in place
module _ {A B : Type 0} (f : A → B) (g : B → B) (rows old : List A) (i : ℕ) (v d : A) where
  at_start : (xs : List A) → get_or (drop i xs) 0 d ≡ get_or xs i d
  at_start xs = get_or-drop i xs 0 d ∙ ap (λ k. get_or xs k d) (nothing i)
    where
      nothing : (n : ℕ) → n + 0 ≡ n
      nothing n = omega arith

  pub over_more : i < length rows → f v ≡ g (f (get_or rows i d)) → map f (take i rows) ≡ map g (map f (take i old)) → drop i rows ≡ drop i old → map f (take (i + 1) (slice_set rows i v)) ≡ map g (map f (take (i + 1) old))
  over_more lt is over rest =
      let same : get_or rows i d ≡ get_or old i d = sym (at_start rows) ∙ ap (λ l. get_or l 0 d) rest ∙ at_start old in
      let left = length-drop i rows in
      let right = length-drop i old in
      let even = ap length rest in
      let lt' : i < length old = omega (arith, lt, left, right, even) in
      ap (map f) (take_more_set rows i v lt) ∙ map-append f (take i rows) (v ∷ []) ∙ ap (λ l. l ++ f v ∷ []) over ∙ ap (λ x. map g (map f (take i old)) ++ x ∷ []) (is ∙ ap (λ x. g (f x)) same)
      ∙ sym (ap (λ l. map g (map f l)) (take_more old i d lt') ∙ ap (map g) (map-append f (take i old) (get_or old i d ∷ [])) ∙ map-append g (map f (take i old)) (f (get_or old i d) ∷ []))

pub rest_more : {A : Type 0} (rows old : List A) (i : ℕ) (v : A) → drop i rows ≡ drop i old → drop (i + 1) (slice_set rows i v) ≡ drop (i + 1) old
rest_more rows old i v rest = drop-set-lt (i + 1) rows i v (omega arith) ∙ drop_more_same rows old i rest

pub map_kept : {A B : Type 0} (f : A → B) (p : B → Bool) (xs : List A) → map f (filter (λ x. p (f x)) xs) ≡ filter p (map f xs)
map_kept f p [] = refl
map_kept {A} {B} f p (x ∷ xs) = by (p (f x)) (map_kept f p xs)
  where
    by : (b : Bool) → map f (filter (λ x. p (f x)) xs) ≡ filter p (map f xs) → map f (cond b (x ∷ filter (λ x. p (f x)) xs) (filter (λ x. p (f x)) xs)) ≡ cond b (f x ∷ filter p (map f xs)) (filter p (map f xs))
    by true h = ap (λ l. f x ∷ l) h
    by false h = h

-- the definitions with one entry more

last_push : (on : ℕ → Option ℕ) (es : List Entry) (e : Entry) (t : ℕ) → last_from on (es ++ e ∷ []) t ≡ last_called (last_from on es) e.kind e t
last_push on [] e t = refl
last_push on (x ∷ es) e t = last_push (last_called on x.kind x) es e t

told_push : (on : ℕ → Option ℕ) (es : List Entry) (e : Entry) → told_from on (es ++ e ∷ []) ≡ told_from on es ++ (e, last_from on es e.task) ∷ []
told_push on [] e = refl
told_push on (x ∷ es) e = ap (λ l. (x, on x.task) ∷ l) (told_push (last_called on x.kind x) es e)

last_same : (o : ℕ) (j : Journal) (e : Entry) (t : ℕ) → (e.object == o) ≡ true → last_call o (j ++ e ∷ []) t ≡ last_called (last_call o j) e.kind e t
unfolding last_call
last_same o j e t h =
    ap (λ l. last_from (λ u. None) l t) (at_push o j e true h) ∙ last_push (λ u. None) (entries_at o j) e t

last_other : (o : ℕ) (j : Journal) (e : Entry) (t : ℕ) → (e.object == o) ≡ false → last_call o (j ++ e ∷ []) t ≡ last_call o j t
unfolding last_call
last_other o j e t h = ap (λ l. last_from (λ u. None) l t) (at_other o j e h)

alike_called : (f g : ℕ → Option ℕ) → ((t : ℕ) → f t ≡ g t) → (k : EntryKind) (e : Entry) (t : ℕ) → last_called f k e t ≡ last_called g k e t
alike_called f g h kind.Call e t = ap (λ x. cond (t == e.task) (Some (number e.a)) x) (h t)
alike_called f g h k e t = h t

pub last_more : (old new : ℕ × ℕ → Option ℕ) (j : Journal) (e : Entry) → ((o t : ℕ) → old (o, t) ≡ last_call o j t) → ((o t : ℕ) → new (o, t) ≡ cond (e.object == o) (last_called (λ u. old (o, u)) e.kind e t) (old (o, t))) → (o t : ℕ) → new (o, t) ≡ last_call o (j ++ e ∷ []) t
last_more old new j e was is o t = by (e.object == o) refl
  where
    by : (b : Bool) → (e.object == o) ≡ b → new (o, t) ≡ last_call o (j ++ e ∷ []) t
    by true h =
        is o t ∙ ap (λ b. cond b (last_called (λ u. old (o, u)) e.kind e t) (old (o, t))) h ∙ alike_called (λ u. old (o, u)) (last_call o j) (λ u. was o u) e.kind e t ∙ sym (last_same o j e t h)
    by false h =
        is o t ∙ ap (λ b. cond b (last_called (λ u. old (o, u)) e.kind e t) (old (o, t))) h ∙ was o t ∙ sym (last_other o j e t h)

stack_same : (sites : List Site) (o : ℕ) (j : Journal) (e : Entry) → (e.object == o) ≡ true → stack_at sites o (j ++ e ∷ []) ≡ stack_after sites e.kind e (last_call o j e.task) (stack_at sites o j)
unfolding stack_at last_call
stack_same sites o j e h =
    let step : List OnStack → Entry × Option ℕ → List OnStack = λ ss x. stack_after sites x.0.kind x.0 x.1 ss in
    ap (λ l. fold step [] (told_from (λ t. None) l)) (at_push o j e true h) ∙ ap (fold step []) (told_push (λ t. None) (entries_at o j) e) ∙ fold-append step [] (told_from (λ t. None) (entries_at o j)) ((e, last_from (λ t. None) (entries_at o j) e.task) ∷ [])

stack_other : (sites : List Site) (o : ℕ) (j : Journal) (e : Entry) → (e.object == o) ≡ false → stack_at sites o (j ++ e ∷ []) ≡ stack_at sites o j
unfolding stack_at
stack_other sites o j e h =
    ap (λ l. fold (λ ss x. stack_after sites x.0.kind x.0 x.1 ss) [] (told_from (λ t. None) l)) (at_other o j e h)

pub stacks_more : (sites : List Site) (f g : ℕ → Option (Vec Row Global)) (before behind : List OnStack) (e : Entry) (j : Journal) (called : Option ℕ) → ((o : ℕ) → map (as_on_stack sites) (rows_of (f o)) ≡ stack_at sites o j) → before ≡ map (as_on_stack sites) (rows_of (f e.object)) → called ≡ last_call e.object j e.task → behind ≡ stack_after sites e.kind e called before → map (as_on_stack sites) (rows_of (g e.object)) ≡ behind → ((q : ℕ) → is_at (nat_cmp e.object) q ≡ false → g q ≡ f q) → (o : ℕ) → map (as_on_stack sites) (rows_of (g o)) ≡ stack_at sites o (j ++ e ∷ [])
stacks_more sites f g before behind e j called h was who is here there o = by (cases_eq e.object o)
  where
    by : ((e.object ≡ o) ⊎ (e.object ≢ o)) → map (as_on_stack sites) (rows_of (g o)) ≡ stack_at sites o (j ++ e ∷ [])
    by (inl q) =
        subst (λ x. map (as_on_stack sites) (rows_of (g x)) ≡ stack_at sites x (j ++ e ∷ [])) q
        (here ∙ is ∙ ap (stack_after sites e.kind e called) (was ∙ h e.object) ∙ ap (λ m. stack_after sites e.kind e m (stack_at sites e.object j)) who ∙ sym (stack_same sites e.object j e (eq-eqb e.object e.object refl)))
    by (inr n) =
        ap (λ x. map (as_on_stack sites) (rows_of x)) (there o (not_at e.object o n)) ∙ h o ∙ sym (stack_other sites o j e (ne_eqb e.object o n))
