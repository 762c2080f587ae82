-- Who is inside an object stays there, behind an act of another task, and behind one that lets it go of another object alone.
use Rattle.std.proofs.Common.{◌≡◌, ℕ, ◌==◌, ◌<◌, ◌&&◌, ◌||◌, ℤ, Bool, true, false, not, List, [], ◌∷◌, ◌++◌, refl, sym, ap, ◌∙◌, arith, append-nil, append_assoc}
use Rattle.std.specs.Prelude.{if◌then◌else◌}
use Rattle.std.specs.Option.{option_to_list}
use Rattle.std.specs.List.{filter}
use Rattle.std.proofs.lemmas.Bool.{eqb-true, eq-eqb, ne_eqb}
use Rattle.uc_entry.specs.declared.entry.Entry.{Entry}
use Rattle.uc_entry.specs.declared.entry.EntryKind.{EntryKind}
use Rattle.uc_entry.specs.declared.entry.EntryKind.TheVariants as kind
use Rattle.uc_acts.specs.Journal.{Journal, Cost, inside, moves, lets_in, number}
use Rattle.uc_acts.specs.Known.{has, has_ended, ends, task_count}
use Rattle.uc_acts.specs.Legal.{IsNext, DoorFit}
use Rattle.uc_acts.specs.Acts.{signalled}
use Rattle.uc_acts.proofs.Hush.{is_silent}
use Rattle.uc_acts.proofs.Acting.{is_own, is_giving, AllBy}
use Rattle.uc_acts.proofs.Moves.{more_tasks}
use Rattle.uc_acts.proofs.Rows.{Lawful}
use Rattle.uc_acts.proofs.Seats.{inside_other, inside_same}
use Rattle.uc_acts.proofs.SoundLemmas.{ended_push}
use Rattle.uc_name_laws.proofs.Homes.{no_both}

-- one entry

has_append : (xs ys : List ℕ) (u : ℕ) → has xs u ≡ true → has (xs ++ ys) u ≡ true
has_append [] ys u h = cc
has_append (x ∷ xs) ys u h = by (x == u) h (has_append xs ys u)
  where
    by : (b : Bool) → (b || has xs u) ≡ true → (has xs u ≡ true → has (xs ++ ys) u ≡ true) → (b || has (xs ++ ys) u) ≡ true
    by true h ih = refl
    by false h ih = ih h

has_filter : (p : ℕ → Bool) (xs : List ℕ) (u : ℕ) → p u ≡ true → has xs u ≡ true → has (filter p xs) u ≡ true
has_filter p [] u g h = cc
has_filter p (x ∷ xs) u g h = by (x == u) refl h (has_filter p xs u g)
  where
    kept : (c : Bool) → p x ≡ c → x ≡ u → has (filter p xs) u ≡ has (filter p xs) u → has (if c then x ∷ filter p xs else filter p xs) u ≡ true
    kept true i same j = ap (λ b. b || has (filter p xs) u) (eq-eqb x u same)
    kept false i same j = no_both (p u) g (ap p (sym same) ∙ i)

    later : (c : Bool) → has (filter p xs) u ≡ true → has (if c then x ∷ filter p xs else filter p xs) u ≡ true
    later true i = or_right (x == u) i
      where
        or_right : (b : Bool) → has (filter p xs) u ≡ true → (b || has (filter p xs) u) ≡ true
        or_right true k = refl
        or_right false k = k
    later false i = i

    by : (b : Bool) → (x == u) ≡ b → (b || has xs u) ≡ true → (has xs u ≡ true → has (filter p xs) u ≡ true) → has (filter p (x ∷ xs)) u ≡ true
    by true e h ih = kept (p x) refl (eqb-true x u e) refl
    by false e h ih = later (p x) (ih h)

stays_by : (o u : ℕ) (j : Journal) (e : Entry) → ((e.object == o) ≡ true → moves e.kind e u ≡ false) → has (inside o j) u ≡ true → has (inside o (j ++ e ∷ [])) u ≡ true
stays_by o u j e m h = by (e.object == o) refl
  where
    by : (b : Bool) → (e.object == o) ≡ b → has (inside o (j ++ e ∷ [])) u ≡ true
    by false g = ap (λ l. has l u) (inside_other o j e g) ∙ h
    by true g =
        ap (λ l. has l u) (inside_same o j e g) ∙ has_append (filter (λ t. not (moves e.kind e t)) (inside o j)) (option_to_list (lets_in e.kind e)) u (has_filter (λ t. not (moves e.kind e t)) (inside o j) u (ap not (m g)) h)

and_false : (a b : Bool) → a ≡ false → (a && b) ≡ false
and_false true b h = cc
and_false false b h = refl

-- an entry of another task
other_moves : (p t o : ℕ) (A : Type 0) (g : Bool) (u q : ℕ) (j : Journal) (k : EntryKind) (e : Entry) → (u == t) ≡ false → u < task_count j → (is_own k ≡ true → e.task ≡ t) → is_giving k ≡ false → IsNext k e j → (k ≡ kind.Admit → inside e.object j ≡ []) → e.object ≡ q → has (inside q j) u ≡ true → moves k e u ≡ false
other_moves p t o A g u q j kind.Begin e n lt own give next door at h = cc
other_moves p t o A g u q j kind.Make e n lt own give next door at h = ap (λ v. u == v) (own refl) ∙ n
other_moves p t o A g u q j kind.Made e n lt own give next door at h = ap (λ v. u == v) (own refl) ∙ n
other_moves p t o A g u q j kind.Spawn e n lt own give next door at h =
    ap (λ b. b || (u == number e.a)) (ap (λ v. u == v) (own refl) ∙ n) ∙ ne_eqb u (number e.a) (λ same. omega (arith, lt, next, same))
other_moves p t o A g u q j kind.Leave e n lt own give next door at h = ap (λ v. u == v) (own refl) ∙ n
other_moves p t o A g u q j kind.Wait e n lt own give next door at h = ap (λ v. u == v) (own refl) ∙ n
other_moves p t o A g u q j kind.End e n lt own give next door at h = ap (λ v. u == v) (own refl) ∙ n
other_moves p t o A g u q j kind.Gone e n lt own give next door at h = ap (λ v. u == v) (own refl) ∙ n
other_moves p t o A g u q j kind.SignalBlock e n lt own give next door at h = and_false (u == e.task) _ (ap (λ v. u == v) (own refl) ∙ n)
other_moves p t o A g u q j kind.Accept e n lt own give next door at h = and_false (u == e.task) _ (ap (λ v. u == v) (own refl) ∙ n)
other_moves p t o A g u q j kind.Admit e n lt own give next door at h =
    no_both (has (inside q j) u) h (ap (λ l. has l u) (ap (λ k. inside k j) (sym at) ∙ door refl))
other_moves p t o A g u q j k e n lt own give next door at h = refl

admit_empty : (k : EntryKind) (e : Entry) (within : List ℕ) (opened : List Entry) → DoorFit k e within opened → k ≡ kind.Admit → within ≡ []
admit_empty kind.Admit e within opened d h = d
admit_empty k e within opened d h = absurd (cc)

-- another task's act
pub others_inside : (p t o : ℕ) (A : Type 0) (g : Bool) (u q : ℕ) (j : Journal) (a : List Entry) → (u == t) ≡ false → u < task_count j → AllBy p t o A g a → Lawful j a → has (inside q j) u ≡ true → has (inside q (j ++ a)) u ≡ true
others_inside p t o A g u q j [] n lt b l h = ap (λ i. has (inside q i) u) (append-nil j) ∙ h
others_inside p t o A g u q j (e ∷ a) n lt b l h =
    let now = stays_by q u j e (λ at. other_moves p t o A g u q j e.kind e n lt b.0.task b.0.acts l.0.next (λ k. admit_empty e.kind e (inside e.object j) _ l.0.door k) (eqb-true e.object q at) h) h in
    ap (λ i. has (inside q i) u) (sym (append_assoc j (e ∷ []) a)) ∙ others_inside p t o A g u q (j ++ e ∷ []) a n (more_tasks j e u lt) b.1 l.1 now

-- an own act, which moves the door of another object, or none

silent_moves : (k : EntryKind) (e : Entry) (u : ℕ) → is_silent k ≡ true → moves k e u ≡ false
silent_moves kind.Begin e u h = cc
silent_moves kind.Make e u h = cc
silent_moves kind.Made e u h = cc
silent_moves kind.Spawn e u h = cc
silent_moves kind.Leave e u h = cc
silent_moves kind.Wait e u h = cc
silent_moves kind.End e u h = cc
silent_moves kind.Gone e u h = cc
silent_moves kind.SignalBlock e u h = cc
silent_moves kind.Accept e u h = cc
silent_moves kind.Admit e u h = cc
silent_moves k e u h = refl

pub apart_inside : (p t o : ℕ) (A : Type 0) (g : Bool) (q : ℕ) (j : Journal) (a : List Entry) → (A → (o == q) ≡ false) → AllBy p t o A g a → has (inside q j) t ≡ true → has (inside q (j ++ a)) t ≡ true
apart_inside p t o A g q j [] n b h = ap (λ i. has (inside q i) t) (append-nil j) ∙ h
apart_inside p t o A g q j (e ∷ a) n b h =
    let now = stays_by q t j e (λ at. moved at (is_silent e.kind) refl) h in
    ap (λ i. has (inside q i) t) (sym (append_assoc j (e ∷ []) a)) ∙ apart_inside p t o A g q (j ++ e ∷ []) a n b.1 now
  where
    moved : (e.object == q) ≡ true → (c : Bool) → is_silent e.kind ≡ c → moves e.kind e t ≡ false
    moved at true s = silent_moves e.kind e t s
    moved at false s =
        let d = b.0.door s in
        no_both (e.object == q) at (ap (λ v. v == q) d.0 ∙ n d.1)

-- what wakes others lets go of nothing
pub signal_inside : (p t : ℕ) (k : Cost) (o c q : ℕ) (ws : List (ℕ × ℤ)) (j : Journal) → has (inside q j) t ≡ true → has (inside q (j ++ signalled p t k o c ws)) t ≡ true
signal_inside p t k o c q [] j h = stays_by q t j _ (λ at. refl) h
signal_inside p t k o c q (w ∷ ws) j h =
    ap (λ i. has (inside q i) t) (sym (append_assoc j _ (_ ∷ []))) ∙ stays_by q t _ _ (λ at. refl) (stays_by q t j _ (λ at. refl) h)

-- no act ends another task

not_ended : (t u : ℕ) (k : EntryKind) (e : Entry) → (u == t) ≡ false → (is_own k ≡ true → e.task ≡ t) → ends u k e ≡ false
not_ended t u kind.End e n own = ap (λ v. u == v) (own refl) ∙ n
not_ended t u k e n own = refl

pub others_alive : (p t o : ℕ) (A : Type 0) (g : Bool) (u : ℕ) (j : Journal) (a : List Entry) → (u == t) ≡ false → AllBy p t o A g a → has_ended u j ≡ false → has_ended u (j ++ a) ≡ false
others_alive p t o A g u j [] n b h = ap (has_ended u) (append-nil j) ∙ h
others_alive p t o A g u j (e ∷ a) n b h =
    ap (has_ended u) (sym (append_assoc j (e ∷ []) a)) ∙ others_alive p t o A g u (j ++ e ∷ []) a n b.1 (ended_push u j e ∙ (ap (λ c. c || ends u e.kind e) h ∙ not_ended t u e.kind e n b.0.task))
