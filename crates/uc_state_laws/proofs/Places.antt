-- Who is at an object, entry by entry.
use Rattle.std.proofs.Common.{◌≡◌, ℕ, ℤ, ◌==◌, ◌+◌, ◌&&◌, ◌||◌, Bool, true, false, not, List, [], ◌∷◌, ◌++◌, Option, map, refl, sym, ap, ◌∙◌, subst, add-zero}
use Rattle.std.specs.Prelude.{pos}
use Rattle.std.specs.Option.{option_to_list}
use Rattle.std.specs.List.{filter}
use Rattle.std.proofs.lemmas.Bool.{eqb-true, eq-eqb}
use Rattle.std.proofs.lemmas.List.Folds.{list_any-append}
use Rattle.uc_entry.specs.declared.entry.Entry.{Entry}
use Rattle.uc_entry.specs.declared.entry.EntryKind.{EntryKind}
use Rattle.uc_entry.specs.declared.entry.EntryKind.TheVariants as kind
use Rattle.uc_entry.specs.declared.entry.Options.{Options}
use Rattle.uc_acts.specs.Journal.{Journal, Cost, begin, asking, entries_at, inside, lets_in, moves, where_true, stacks_acceptor, holds}
use Rattle.uc_acts.specs.Queues.{waiting, stacked, calls, takes, stacks, admits}
use Rattle.uc_acts.specs.Doors.{blocked_at, blocks}
use Rattle.uc_acts.specs.Known.{has, is_spawn, task_count}
use Rattle.uc_acts.proofs.SoundLemmas.{plus, tasks_push, self_test}
use Rattle.uc_acts.proofs.Seats.{inside_same, inside_other, waiting_same, waiting_other, stacked_same, stacked_other, blocked_same, blocked_other}
use Rattle.uc_state_laws.specs.Places.{is_at, SamePlaces, Arrives, Departs, Spawns}

-- tests

pub flipped : (a b : ℕ) → (a == b) ≡ (b == a)
flipped a b = by (a == b) (b == a) refl refl
  where
    no_both : (c : Bool) → c ≡ true → c ≡ false → ⊥
    no_both c t f = cc

    by : (c d : Bool) → (a == b) ≡ c → (b == a) ≡ d → (a == b) ≡ (b == a)
    by true d g h = g ∙ sym (eq-eqb b a (sym (eqb-true a b g)))
    by false true g h = absurd (no_both (a == b) (eq-eqb a b (sym (eqb-true b a h))) g)
    by false false g h = g ∙ sym h

or_true : (b : Bool) → (b || true) ≡ true
or_true true = refl
or_true false = refl

or_false : (b : Bool) → b ≡ false → (b || false) ≡ false
or_false true h = cc
or_false false h = refl

and_first : (a b : Bool) → a ≡ false → (a && b) ≡ false
and_first true b h = cc
and_first false b h = refl

-- numbers in a list of tasks

has_mapped : {A : Type 0} (f : A → ℕ) (p : ℕ → Bool) (xs : List A) (u : ℕ) → has (map f (filter (λ x. not (p (f x))) xs)) u ≡ (has (map f xs) u && not (p u))
has_mapped f p [] u = refl
has_mapped f p (x ∷ xs) u = by (p (f x)) (f x == u) refl refl (has_mapped f p xs u)
  where
    and_false : (b : Bool) → (b && false) ≡ false
    and_false true = refl
    and_false false = refl

    by : (b c : Bool) → p (f x) ≡ b → (f x == u) ≡ c → has (map f (filter (λ x. not (p (f x))) xs)) u ≡ (has (map f xs) u && not (p u)) → has (map f (filter (λ x. not (p (f x))) (x ∷ xs))) u ≡ (has (map f (x ∷ xs)) u && not (p u))
    by true false g h ih = simp (g, h, ih)
    by false false g h ih = simp (g, h, ih)
    by true true g h ih =
        let same : p u ≡ true = ap p (sym (eqb-true (f x) u h)) ∙ g in simp (g, h, ih, same, and_false (has (map f xs) u))
    by false true g h ih = let same : p u ≡ false = ap p (sym (eqb-true (f x) u h)) ∙ g in simp (g, h, same)

has_joined : {A : Type 0} (f : A → ℕ) (xs ys : List A) (u : ℕ) → has (map f (xs ++ ys)) u ≡ (has (map f xs) u || has (map f ys) u)
has_joined f [] ys u = refl
has_joined f (x ∷ xs) ys u = ap (λ b. (f x == u) || b) (has_joined f xs ys u) ∙ assoc (f x == u) (has (map f xs) u) (has (map f ys) u)
  where
    assoc : (a b c : Bool) → (a || (b || c)) ≡ ((a || b) || c)
    assoc true b c = refl
    assoc false b c = refl

-- those that stay, and one more
kept_mapped : {A : Type 0} (f : A → ℕ) (p : ℕ → Bool) (xs : List A) (x : Option A) (u : ℕ) → has (map f (filter (λ y. not (p (f y))) xs ++ option_to_list x)) u ≡ ((has (map f xs) u && not (p u)) || has (map f (option_to_list x)) u)
kept_mapped f p xs x u = has_joined f (filter (λ y. not (p (f y))) xs) (option_to_list x) u ∙ ap (λ b. b || has (map f (option_to_list x)) u) (has_mapped f p xs u)

plain_map : (xs : List ℕ) → map (λ (x : ℕ). x) xs ≡ xs
plain_map [] = refl
plain_map (x ∷ xs) = ap (λ l. x ∷ l) (plain_map xs)

pub has_filter : (p : ℕ → Bool) (xs : List ℕ) (u : ℕ) → has (filter (λ x. not (p x)) xs) u ≡ (has xs u && not (p u))
has_filter p xs u =
    ap (λ l. has l u) (sym (plain_map (filter (λ x. not (p x)) xs))) ∙ has_mapped (λ x. x) p xs u ∙ ap (λ l. has l u && not (p u)) (plain_map xs)

has_append : (xs ys : List ℕ) (u : ℕ) → has (xs ++ ys) u ≡ (has xs u || has ys u)
has_append xs ys u = list_any-append (λ x. x == u) xs ys

-- who is at an object behind an entry of it, by who was and by what the entry says of it: whether it moves the task, lets it in, takes it
-- from its queue, has it wait, admits it, stacks it and blocks it

abbrev AtOne : (i w s b : Bool) → Bool
AtOne i w s b = i || (w || (s || b))

abbrev At : (i w s b m l k c a st bl : Bool) → Bool
At i w s b m l k c a st bl = AtOne ((i && not m) || l) ((w && not k) || c) (st || (s && not a)) ((b && not k) || bl)

abbrev After : EntryKind → Entry → ℕ → (i w s b : Bool) → Bool
After k e u i w s b =
    At i w s b (moves k e u) (has (option_to_list (lets_in k e)) u) (takes k e u) (has (map (λ x. x.0) (option_to_list (calls k e))) u) (admits k e u) (has (option_to_list (stacks k e)) u) (has (map (λ x. x.0) (option_to_list (blocks k e))) u)

stays : (i w s b m l k c a st bl : Bool) → m ≡ false → l ≡ false → k ≡ false → c ≡ false → a ≡ false → st ≡ false → bl ≡ false → At i w s b m l k c a st bl ≡ AtOne i w s b
stays i w s b true l k c a st bl h1 h2 h3 h4 h5 h6 h7 = cc
stays i w s b false true k c a st bl h1 h2 h3 h4 h5 h6 h7 = cc
stays i w s b false false true c a st bl h1 h2 h3 h4 h5 h6 h7 = cc
stays i w s b false false false true a st bl h1 h2 h3 h4 h5 h6 h7 = cc
stays i w s b false false false false true st bl h1 h2 h3 h4 h5 h6 h7 = cc
stays i w s b false false false false false true bl h1 h2 h3 h4 h5 h6 h7 = cc
stays i w s b false false false false false false true h1 h2 h3 h4 h5 h6 h7 = cc
stays true w s b false false false false false false false h1 h2 h3 h4 h5 h6 h7 = refl
stays false true s b false false false false false false false h1 h2 h3 h4 h5 h6 h7 = refl
stays false false true b false false false false false false false h1 h2 h3 h4 h5 h6 h7 = refl
stays false false false true false false false false false false false h1 h2 h3 h4 h5 h6 h7 = refl
stays false false false false false false false false false false false h1 h2 h3 h4 h5 h6 h7 = refl

let_in : (i w s b m k c a st bl : Bool) → At i w s b m true k c a st bl ≡ true
let_in i w s b m k c a st bl =
    ap (λ x. x || (((w && not k) || c) || ((st || (s && not a)) || ((b && not k) || bl)))) (or_true (i && not m))

has_called : (i w s b m l k a st bl : Bool) → At i w s b m l k true a st bl ≡ true
has_called i w s b m l k a st bl =
    ap (λ x. ((i && not m) || l) || (x || ((st || (s && not a)) || ((b && not k) || bl)))) (or_true (w && not k)) ∙ or_true ((i && not m) || l)

is_stacked : (i w s b m l k c a bl : Bool) → At i w s b m l k c a true bl ≡ true
is_stacked i w s b m l k c a bl =
    ap (λ x. ((i && not m) || l) || x) (or_true ((w && not k) || c)) ∙ or_true ((i && not m) || l)

is_blocked : (i w s b m l k c a st : Bool) → At i w s b m l k c a st true ≡ true
is_blocked i w s b m l k c a st =
    ap (λ x. ((i && not m) || l) || (((w && not k) || c) || ((st || (s && not a)) || x))) (or_true (b && not k)) ∙ ap (λ x. ((i && not m) || l) || (((w && not k) || c) || x)) (or_true (st || (s && not a))) ∙ ap (λ x. ((i && not m) || l) || x) (or_true ((w && not k) || c)) ∙ or_true ((i && not m) || l)

is_out : (i w s b : Bool) → w ≡ false → s ≡ false → b ≡ false → At i w s b true false false false false false false ≡ false
is_out true false false false h g f = refl
is_out false false false false h g f = refl
is_out i true s b h g f = cc
is_out i false true b h g f = cc
is_out i false false true h g f = cc

module _ (o : ℕ) (j : Journal) (e : Entry) (u : ℕ) where
  pub at_other : (e.object == o) ≡ false → is_at u o (j ++ e ∷ []) ≡ is_at u o j
  at_other h =
      rw (inside_other o j e h, waiting_other o j e h, stacked_other o j e h, blocked_other o j e h) refl

  at_same : (e.object == o) ≡ true → is_at u o (j ++ e ∷ []) ≡ After e.kind e u (has (inside o j) u) (has (map (λ w. w.0) (waiting o j)) u) (has (stacked o j) u) (has (map (λ b. b.0) (blocked_at o j)) u)
  at_same h =
      let i : has (inside o (j ++ e ∷ [])) u ≡ ((has (inside o j) u && not (moves e.kind e u)) || has (option_to_list (lets_in e.kind e)) u) = ap (λ l. has l u) (inside_same o j e h) ∙ has_append _ (option_to_list (lets_in e.kind e)) u ∙ ap (λ b. b || has (option_to_list (lets_in e.kind e)) u) (has_filter (moves e.kind e) (inside o j) u) in
      let w : has (map (λ w. w.0) (waiting o (j ++ e ∷ []))) u ≡ ((has (map (λ w. w.0) (waiting o j)) u && not (takes e.kind e u)) || has (map (λ w. w.0) (option_to_list (calls e.kind e))) u) = ap (λ l. has (map (λ (w : ℕ × ℕ). w.0) l) u) (waiting_same o j e h) ∙ kept_mapped (λ w. w.0) (takes e.kind e) (waiting o j) (calls e.kind e) u in
      let s : has (stacked o (j ++ e ∷ [])) u ≡ (has (option_to_list (stacks e.kind e)) u || (has (stacked o j) u && not (admits e.kind e u))) = ap (λ l. has l u) (stacked_same o j e h) ∙ has_append (option_to_list (stacks e.kind e)) _ u ∙ ap (λ b. has (option_to_list (stacks e.kind e)) u || b) (has_filter (admits e.kind e) (stacked o j) u) in
      let b : has (map (λ b. b.0) (blocked_at o (j ++ e ∷ []))) u ≡ ((has (map (λ b. b.0) (blocked_at o j)) u && not (takes e.kind e u)) || has (map (λ b. b.0) (option_to_list (blocks e.kind e))) u) = ap (λ l. has (map (λ (b : ℕ × ℕ × ℤ). b.0) l) u) (blocked_same o j e h) ∙ kept_mapped (λ b. b.0) (takes e.kind e) (blocked_at o j) (blocks e.kind e) u in
      four i w s b
    where
      four : {i1 i2 w1 w2 s1 s2 b1 b2 : Bool} → i1 ≡ i2 → w1 ≡ w2 → s1 ≡ s2 → b1 ≡ b2 → (i1 || (w1 || (s1 || b1))) ≡ (i2 || (w2 || (s2 || b2)))
      four i w s b = cc

-- entries that open a run or bring a task
abbrev pub is_birth : EntryKind → Bool
is_birth kind.Begin = true
is_birth kind.Spawn = true
is_birth k = false

where_has : (b : Bool) (t u : ℕ) → (t == u) ≡ false → has (option_to_list (where_true b t)) u ≡ false
where_has true t u h = or_false (t == u) h
where_has false t u h = refl

-- another task stays where it is
apart : (k : EntryKind) (e : Entry) (u : ℕ) (i w s b : Bool) → is_birth k ≡ false → (u == e.task) ≡ false → (e.task == u) ≡ false → After k e u i w s b ≡ AtOne i w s b
apart kind.Begin e u i w s b n h g = cc
apart kind.Spawn e u i w s b n h g = cc
apart kind.Make e u i w s b n h g = stays i w s b _ _ _ _ _ _ _ h (or_false (e.task == u) g) refl refl refl refl refl
apart kind.Made e u i w s b n h g = stays i w s b _ _ _ _ _ _ _ h refl refl refl refl refl refl
apart kind.Leave e u i w s b n h g = stays i w s b _ _ _ _ _ _ _ h refl refl refl refl refl refl
apart kind.End e u i w s b n h g = stays i w s b _ _ _ _ _ _ _ h refl refl refl refl refl refl
apart kind.Gone e u i w s b n h g = stays i w s b _ _ _ _ _ _ _ h refl refl refl refl refl refl
apart kind.Wait e u i w s b n h g = stays i w s b _ _ _ _ _ _ _ h refl refl refl refl refl (or_false (e.task == u) g)
apart kind.Call e u i w s b n h g = stays i w s b _ _ _ _ _ _ _ refl refl refl (or_false (e.task == u) g) refl refl refl
apart kind.Admit e u i w s b n h g = stays i w s b _ _ _ _ _ _ _ h (or_false (e.task == u) g) h refl h refl refl
apart kind.Push e u i w s b n h g = stays i w s b _ _ _ _ _ _ _ refl refl h refl refl (or_false (e.task == u) g) refl
apart kind.SignalBlock e u i w s b n h g =
    stays i w s b _ _ _ _ _ _ _ (and_first (u == e.task) (holds 1 e.b) h) refl refl refl refl (where_has (holds 1 e.b) e.task u g) refl
apart kind.Accept e u i w s b n h g =
    stays i w s b _ _ _ _ _ _ _ (and_first (u == e.task) (stacks_acceptor e) h) refl refl refl refl (where_has (stacks_acceptor e) e.task u g) refl
apart k e u i w s b n h g = stays i w s b _ _ _ _ _ _ _ refl refl refl refl refl refl refl

-- whether an entry has its task at its object, whoever was there
abbrev brings : EntryKind → Entry → Bool
brings kind.Make e = true
brings kind.Call e = true
brings kind.Admit e = true
brings kind.Push e = true
brings kind.Wait e = true
brings kind.SignalBlock e = holds 1 e.b
brings kind.Accept e = stacks_acceptor e
brings k e = false

own_first : (t : ℕ) → has (t ∷ []) t ≡ true
own_first t = ap (λ b. b || false) (self_test t)

where_own : (b : Bool) (t : ℕ) → b ≡ true → has (option_to_list (where_true b t)) t ≡ true
where_own true t h = own_first t
where_own false t h = cc

brought : (k : EntryKind) (e : Entry) (i w s b : Bool) → brings k e ≡ true → After k e e.task i w s b ≡ true
brought kind.Make e i w s b h = ap (λ l. At i w s b (e.task == e.task) l false false false false false) (own_first e.task) ∙ let_in i w s b _ false false false false false
brought kind.Admit e i w s b h = ap (λ l. At i w s b (e.task == e.task) l (e.task == e.task) false (e.task == e.task) false false) (own_first e.task) ∙ let_in i w s b _ _ false _ false false
brought kind.Call e i w s b h = ap (λ c. At i w s b false false false c false false false) (own_first e.task) ∙ has_called i w s b false false false false false false
brought kind.Push e i w s b h = ap (λ c. At i w s b false false (e.task == e.task) false false c false) (own_first e.task) ∙ is_stacked i w s b false false _ false false false
brought kind.Wait e i w s b h = ap (λ c. At i w s b (e.task == e.task) false false false false false c) (own_first e.task) ∙ is_blocked i w s b _ false false false false false
brought kind.SignalBlock e i w s b h =
    ap (λ c. At i w s b ((e.task == e.task) && holds 1 e.b) false false false false c false) (where_own (holds 1 e.b) e.task h) ∙ is_stacked i w s b _ false false false false false
brought kind.Accept e i w s b h =
    ap (λ c. At i w s b ((e.task == e.task) && stacks_acceptor e) false false false false c false) (where_own (stacks_acceptor e) e.task h) ∙ is_stacked i w s b _ false false false false false
brought k e i w s b h = cc

-- whether an entry takes its task out of its object for good
abbrev takes_off : EntryKind → Bool
takes_off kind.Made = true
takes_off kind.Leave = true
takes_off kind.End = true
takes_off kind.Gone = true
takes_off k = false

taken_off : (k : EntryKind) (e : Entry) (i w s b : Bool) → takes_off k ≡ true → w ≡ false → s ≡ false → b ≡ false → After k e e.task i w s b ≡ false
taken_off kind.Made e i w s b n f g h = ap (λ m. At i w s b m false false false false false false) (self_test e.task) ∙ is_out i w s b f g h
taken_off kind.Leave e i w s b n f g h = ap (λ m. At i w s b m false false false false false false) (self_test e.task) ∙ is_out i w s b f g h
taken_off kind.End e i w s b n f g h = ap (λ m. At i w s b m false false false false false false) (self_test e.task) ∙ is_out i w s b f g h
taken_off kind.Gone e i w s b n f g h = ap (λ m. At i w s b m false false false false false false) (self_test e.task) ∙ is_out i w s b f g h
taken_off k e i w s b n f g h = cc

-- whether an entry leaves its task where it is
abbrev is_still : EntryKind → Entry → Bool
is_still kind.Begin e = false
is_still kind.Make e = false
is_still kind.Made e = false
is_still kind.Spawn e = false
is_still kind.Call e = false
is_still kind.Leave e = false
is_still kind.Admit e = false
is_still kind.Push e = false
is_still kind.Wait e = false
is_still kind.End e = false
is_still kind.Gone e = false
is_still kind.SignalBlock e = not (holds 1 e.b)
is_still kind.Accept e = not (stacks_acceptor e)
is_still k e = true

no_move : (a b : Bool) → not b ≡ true → (a && b) ≡ false
no_move true true h = cc
no_move true false h = refl
no_move false b h = refl

no_one : (b : Bool) (t u : ℕ) → not b ≡ true → has (option_to_list (where_true b t)) u ≡ false
no_one true t u h = cc
no_one false t u h = refl

stood : (k : EntryKind) (e : Entry) (u : ℕ) (i w s b : Bool) → is_still k e ≡ true → After k e u i w s b ≡ AtOne i w s b
stood kind.Begin e u i w s b h = cc
stood kind.Make e u i w s b h = cc
stood kind.Made e u i w s b h = cc
stood kind.Spawn e u i w s b h = cc
stood kind.Call e u i w s b h = cc
stood kind.Leave e u i w s b h = cc
stood kind.Admit e u i w s b h = cc
stood kind.Push e u i w s b h = cc
stood kind.Wait e u i w s b h = cc
stood kind.End e u i w s b h = cc
stood kind.Gone e u i w s b h = cc
stood kind.SignalBlock e u i w s b h = stays i w s b _ _ _ _ _ _ _ (no_move (u == e.task) (holds 1 e.b) h) refl refl refl refl (no_one (holds 1 e.b) e.task u h) refl
stood kind.Accept e u i w s b h = stays i w s b _ _ _ _ _ _ _ (no_move (u == e.task) (stacks_acceptor e) h) refl refl refl refl (no_one (stacks_acceptor e) e.task u h) refl
stood k e u i w s b h = stays i w s b _ _ _ _ _ _ _ refl refl refl refl refl refl refl

module _ (j : Journal) (e : Entry) where
  -- all but the task of an entry, at its object
  one_by : is_birth e.kind ≡ false → (P : ℕ → ℕ → Bool → Type 0) → ((u q : ℕ) → ((u == e.task) && (q == e.object)) ≡ false → P u q (is_at u q j)) → P e.task e.object (is_at e.task e.object (j ++ e ∷ [])) → (u q : ℕ) → P u q (is_at u q (j ++ e ∷ []))
  one_by n P other own u q = by (e.object == q) refl (u == e.task) refl
    where
      and_false : (b c : Bool) → c ≡ false → (b && c) ≡ false
      and_false true c h = h
      and_false false c h = refl

      by : (a : Bool) → (e.object == q) ≡ a → (b : Bool) → (u == e.task) ≡ b → P u q (is_at u q (j ++ e ∷ []))
      by false h b g = subst (P u q) (sym (at_other q j e u h)) (other u q (and_false (u == e.task) (q == e.object) (flipped q e.object ∙ h)))
      by true h false g =
          subst (P u q) (sym (at_same q j e u h ∙ apart e.kind e u _ _ _ _ n g (flipped e.task u ∙ g))) (other u q (and_first (u == e.task) (q == e.object) g))
      by true h true g =
          subst (λ v. P v q (is_at v q (j ++ e ∷ []))) (sym (eqb-true u e.task g)) (subst (λ v. P e.task v (is_at e.task v (j ++ e ∷ []))) (eqb-true e.object q h) own)

  or_nil : (b c : Bool) → c ≡ false → b ≡ (b || c)
  or_nil true c h = refl
  or_nil false c h = sym h

  and_all : (b c : Bool) → c ≡ false → b ≡ (b && not c)
  and_all b true h = cc
  and_all true false h = refl
  and_all false false h = refl

  own_test : ((e.task == e.task) && (e.object == e.object)) ≡ true
  own_test = ap (λ b. b && (e.object == e.object)) (self_test e.task) ∙ self_test e.object

  same_tasks : is_birth e.kind ≡ false → task_count (j ++ e ∷ []) ≡ task_count j
  same_tasks n = tasks_push j e ∙ ap (λ b. task_count j + plus b) (no_spawn e.kind n) ∙ add-zero (task_count j)
    where
      no_spawn : (k : EntryKind) → is_birth k ≡ false → is_spawn k ≡ false
      no_spawn kind.Spawn h = cc
      no_spawn k h = refl

  pub same_entry : is_birth e.kind ≡ false → is_at e.task e.object (j ++ e ∷ []) ≡ is_at e.task e.object j → SamePlaces j (j ++ e ∷ [])
  same_entry n h = record { at = one_by n (λ u q b. b ≡ is_at u q j) (λ u q f. refl) h; tasks = same_tasks n }

  arrives_entry : is_birth e.kind ≡ false → is_at e.task e.object (j ++ e ∷ []) ≡ true → Arrives e.task e.object j (j ++ e ∷ [])
  arrives_entry n h = record {
    at = one_by n (λ u q b. b ≡ (is_at u q j || ((u == e.task) && (q == e.object)))) (λ u q f. or_nil (is_at u q j) _ f) (h ∙ sym (ap (λ b. is_at e.task e.object j || b) own_test ∙ or_true (is_at e.task e.object j)));
    tasks = same_tasks n;
  }

  departs_entry : is_birth e.kind ≡ false → is_at e.task e.object (j ++ e ∷ []) ≡ false → Departs e.task e.object j (j ++ e ∷ [])
  departs_entry n h = record {
    at = one_by n (λ u q b. b ≡ (is_at u q j && not ((u == e.task) && (q == e.object)))) (λ u q f. and_all (is_at u q j) _ f) (h ∙ sym (ap (λ b. is_at e.task e.object j && not b) own_test ∙ and_false (is_at e.task e.object j)));
    tasks = same_tasks n;
  }
    where
      and_false : (b : Bool) → (b && false) ≡ false
      and_false true = refl
      and_false false = refl

  own_after : (b : Bool) → After e.kind e e.task (has (inside e.object j) e.task) (has (map (λ w. w.0) (waiting e.object j)) e.task) (has (stacked e.object j) e.task) (has (map (λ b. b.0) (blocked_at e.object j)) e.task) ≡ b → is_at e.task e.object (j ++ e ∷ []) ≡ b
  own_after b h = at_same e.object j e e.task (self_test e.object) ∙ h

  -- an entry that has its task at its object
  pub arrives : brings e.kind e ≡ true → Arrives e.task e.object j (j ++ e ∷ [])
  arrives h = arrives_entry (no_birth e.kind h) (own_after true (brought e.kind e _ _ _ _ h))
    where
      no_birth : (k : EntryKind) → brings k e ≡ true → is_birth k ≡ false
      no_birth kind.Begin h = cc
      no_birth kind.Spawn h = cc
      no_birth k h = refl

  -- where it was there before, nothing changes
  pub remains : brings e.kind e ≡ true → is_at e.task e.object j ≡ true → SamePlaces j (j ++ e ∷ [])
  remains h g = record { at = λ u q. (arrives h).at u q ∙ by u q ((u == e.task) && (q == e.object)) refl; tasks = (arrives h).tasks }
    where
      both : (a b : Bool) → (a && b) ≡ true → (a ≡ true) × (b ≡ true)
      both true b h = (refl, h)
      both false b h = cc

      by : (u q : ℕ) (b : Bool) → ((u == e.task) && (q == e.object)) ≡ b → (is_at u q j || ((u == e.task) && (q == e.object))) ≡ is_at u q j
      by u q false f = sym (or_nil (is_at u q j) _ f)
      by u q true f =
          let x = both (u == e.task) (q == e.object) f in
          let here : is_at u q j ≡ true = ap (λ v. is_at v q j) (eqb-true u e.task x.0) ∙ ap (λ v. is_at e.task v j) (eqb-true q e.object x.1) ∙ g in
          ap (λ b. b || ((u == e.task) && (q == e.object))) here ∙ sym here

  -- an entry that takes its task out
  pub departs : takes_off e.kind ≡ true → has (map (λ w. w.0) (waiting e.object j)) e.task ≡ false → has (stacked e.object j) e.task ≡ false → has (map (λ b. b.0) (blocked_at e.object j)) e.task ≡ false → Departs e.task e.object j (j ++ e ∷ [])
  departs n w s b = departs_entry (no_birth e.kind n) (own_after false (taken_off e.kind e _ _ _ _ n w s b))
    where
      no_birth : (k : EntryKind) → takes_off k ≡ true → is_birth k ≡ false
      no_birth kind.Begin h = cc
      no_birth kind.Spawn h = cc
      no_birth k h = refl

  -- one that leaves its task where it is
  pub still : is_still e.kind e ≡ true → SamePlaces j (j ++ e ∷ [])
  still h = same_entry (no_birth e.kind h) (at_same e.object j e e.task (self_test e.object) ∙ stood e.kind e e.task _ _ _ _ h)
    where
      no_birth : (k : EntryKind) → is_still k e ≡ true → is_birth k ≡ false
      no_birth kind.Begin h = cc
      no_birth kind.Spawn h = cc
      no_birth k h = refl

-- a new task comes to the object of which it is the own, and its maker goes

abbrev Both : (x a c d : Bool) → Bool
Both x a c d = (x && not (a && d)) || (c && d)

both_off : (x a c d : Bool) → d ≡ false → x ≡ Both x a c d
both_off x a c true h = cc
both_off true true c false h = refl
both_off true false c false h = refl
both_off false a true false h = refl
both_off false a false false h = refl

both_in : (x a c d : Bool) → c ≡ true → d ≡ true → true ≡ Both x a c d
both_in x a false d h g = cc
both_in x a true false h g = cc
both_in x a true true h g = sym (or_true (x && not (a && true)))

both_out : (x a c d : Bool) → a ≡ true → c ≡ false → d ≡ true → false ≡ Both x a c d
both_out x false c d h g f = cc
both_out x true true d h g f = cc
both_out x true false false h g f = cc
both_out true true false true h g f = refl
both_out false true false true h g f = refl

both_stay : (x a c d : Bool) → a ≡ false → c ≡ false → x ≡ Both x a c d
both_stay x true c d h g = cc
both_stay x false true d h g = cc
both_stay true false false d h g = refl
both_stay false false false d h g = refl

module _ (j : Journal) (p t : ℕ) (k : Cost) (o n : ℕ) (w : has (map (λ w. w.0) (waiting o j)) t ≡ false) (s : has (stacked o j) t ≡ false) (b : has (map (λ b. b.0) (blocked_at o j)) t ≡ false) where
  goes_out : (v : ℕ) → (v == t) ≡ true → (v == n) ≡ false → After kind.Spawn (asking kind.Spawn p t k o (pos n) (pos 0)) v (has (inside o j) v) (has (map (λ w. w.0) (waiting o j)) v) (has (stacked o j) v) (has (map (λ b. b.0) (blocked_at o j)) v) ≡ false
  goes_out v h g =
      let is : v ≡ t = eqb-true v t h in
      let m : ((v == t) || (v == n)) ≡ true = ap (λ x. x || (v == n)) h in
      let l : ((n == v) || false) ≡ false = or_false (n == v) (flipped n v ∙ g) in
      ap (λ x. At (has (inside o j) v) (has (map (λ w. w.0) (waiting o j)) v) (has (stacked o j) v) (has (map (λ b. b.0) (blocked_at o j)) v) x ((n == v) || false) false false false false false) m ∙ ap (λ x. At (has (inside o j) v) (has (map (λ w. w.0) (waiting o j)) v) (has (stacked o j) v) (has (map (λ b. b.0) (blocked_at o j)) v) true x false false false false false) l ∙ is_out _ _ _ _ (ap (λ x. has (map (λ w. w.0) (waiting o j)) x) is ∙ w) (ap (λ x. has (stacked o j) x) is ∙ s) (ap (λ x. has (map (λ b. b.0) (blocked_at o j)) x) is ∙ b)

  comes_in : (v : ℕ) → (v == n) ≡ true → After kind.Spawn (asking kind.Spawn p t k o (pos n) (pos 0)) v (has (inside o j) v) (has (map (λ w. w.0) (waiting o j)) v) (has (stacked o j) v) (has (map (λ b. b.0) (blocked_at o j)) v) ≡ true
  comes_in v h =
      let l : ((n == v) || false) ≡ true = ap (λ x. x || false) (flipped n v ∙ h) in
      ap (λ x. At (has (inside o j) v) (has (map (λ w. w.0) (waiting o j)) v) (has (stacked o j) v) (has (map (λ b. b.0) (blocked_at o j)) v) ((v == t) || (v == n)) x false false false false false) l ∙ let_in _ _ _ _ _ false false false false false

  goes_by : (v : ℕ) → (v == t) ≡ false → (v == n) ≡ false → After kind.Spawn (asking kind.Spawn p t k o (pos n) (pos 0)) v (has (inside o j) v) (has (map (λ w. w.0) (waiting o j)) v) (has (stacked o j) v) (has (map (λ b. b.0) (blocked_at o j)) v) ≡ is_at v o j
  goes_by v h g = stays _ _ _ _ _ _ _ _ _ _ _ (ap (λ x. x || (v == n)) h ∙ g) (or_false (n == v) (flipped n v ∙ g)) refl refl refl refl refl

  spawned_at : (v q : ℕ) → (o == q) ≡ true → is_at v o (j ++ asking kind.Spawn p t k o (pos n) (pos 0) ∷ []) ≡ Both (is_at v o j) (v == t) (v == n) (q == o)
  spawned_at v q f = by (v == n) refl (v == t) refl
    where
      now : (x : Bool) → After kind.Spawn (asking kind.Spawn p t k o (pos n) (pos 0)) v (has (inside o j) v) (has (map (λ w. w.0) (waiting o j)) v) (has (stacked o j) v) (has (map (λ b. b.0) (blocked_at o j)) v) ≡ x → is_at v o (j ++ asking kind.Spawn p t k o (pos n) (pos 0) ∷ []) ≡ x
      now x h = at_same o j (asking kind.Spawn p t k o (pos n) (pos 0)) v (self_test o) ∙ h

      by : (c : Bool) → (v == n) ≡ c → (a : Bool) → (v == t) ≡ a → is_at v o (j ++ asking kind.Spawn p t k o (pos n) (pos 0) ∷ []) ≡ Both (is_at v o j) (v == t) (v == n) (q == o)
      by true h a g = now true (comes_in v h) ∙ both_in (is_at v o j) (v == t) (v == n) (q == o) h (flipped q o ∙ f)
      by false h true g = now false (goes_out v g h) ∙ both_out (is_at v o j) (v == t) (v == n) (q == o) g h (flipped q o ∙ f)
      by false h false g = now (is_at v o j) (goes_by v g h) ∙ both_stay (is_at v o j) (v == t) (v == n) (q == o) g h

  pub spawned : Spawns t n o j (j ++ asking kind.Spawn p t k o (pos n) (pos 0) ∷ [])
  spawned = record { at = λ v q. by v q (o == q) refl; tasks = tasks_push j (asking kind.Spawn p t k o (pos n) (pos 0)) }
    where
      by : (v q : ℕ) (d : Bool) → (o == q) ≡ d → is_at v q (j ++ asking kind.Spawn p t k o (pos n) (pos 0) ∷ []) ≡ Both (is_at v q j) (v == t) (v == n) (q == o)
      by v q false h = at_other q j (asking kind.Spawn p t k o (pos n) (pos 0)) v h ∙ both_off (is_at v q j) (v == t) (v == n) (q == o) (flipped q o ∙ h)
      by v q true h =
          subst (λ x. is_at v x (j ++ asking kind.Spawn p t k o (pos n) (pos 0) ∷ []) ≡ Both (is_at v x j) (v == t) (v == n) (q == o)) (eqb-true o q h) (spawned_at v q h)

-- a run opens with task 0 in object 0

begin_in : (i w s b m l : Bool) → i ≡ false → w ≡ false → s ≡ false → b ≡ false → At i w s b m l false false false false false ≡ l
begin_in true w s b m l h g f e = cc
begin_in false true s b m l h g f e = cc
begin_in false false true b m l h g f e = cc
begin_in false false false true m l h g f e = cc
begin_in false false false false m true h g f e = refl
begin_in false false false false m false h g f e = refl

none_inside : (u q : ℕ) → has (inside q []) u ≡ false
unfolding inside entries_at
none_inside u q = refl

none_waits : (u q : ℕ) → has (map (λ w. w.0) (waiting q [])) u ≡ false
unfolding waiting entries_at
none_waits u q = refl

none_stacked : (u q : ℕ) → has (stacked q []) u ≡ false
unfolding stacked entries_at
none_stacked u q = refl

none_blocked : (u q : ℕ) → has (map (λ b. b.0) (blocked_at q [])) u ≡ false
unfolding blocked_at entries_at
none_blocked u q = refl

pub at_begin : (opts : Options) (u q : ℕ) → is_at u q (begin opts ∷ []) ≡ ((0 == u) && (0 == q))
at_begin opts u q = by (0 == q) refl
  where
    nowhere : is_at u q [] ≡ false
    nowhere =
        ap (λ b. b || (has (map (λ w. w.0) (waiting q [])) u || (has (stacked q []) u || has (map (λ b. b.0) (blocked_at q [])) u))) (none_inside u q) ∙ ap (λ b. b || (has (stacked q []) u || has (map (λ b. b.0) (blocked_at q [])) u)) (none_waits u q) ∙ ap (λ b. b || has (map (λ b. b.0) (blocked_at q [])) u) (none_stacked u q) ∙ none_blocked u q

    none : (b : Bool) → false ≡ (b && false)
    none true = refl
    none false = refl

    all : (b : Bool) → (b || false) ≡ (b && true)
    all true = refl
    all false = refl

    by : (b : Bool) → (0 == q) ≡ b → is_at u q ([] ++ begin opts ∷ []) ≡ ((0 == u) && b)
    by false h = at_other q [] (begin opts) u h ∙ nowhere ∙ none (0 == u)
    by true h =
        at_same q [] (begin opts) u h ∙ begin_in _ _ _ _ (u == 0) ((0 == u) || false) (none_inside u q) (none_waits u q) (none_stacked u q) (none_blocked u q) ∙ all (0 == u)
