-- Whoever is inside an object stays there, but the task that acts where it asks to go out.
use Rattle.std.proofs.Common.{◌≡◌, ℕ, ℤ, zero, suc, ◌==◌, ◌&&◌, ◌||◌, ◌⊎◌, inl, inr, Bool, true, false, not, List, [], ◌∷◌, ◌++◌, Option, Some, None, refl, sym, ap, ◌∙◌, subst, append-nil, append_assoc, take}
use Rattle.std.specs.Prelude.{nat_lt}
use Rattle.std.specs.Option.{option_to_list}
use Rattle.std.specs.List.{filter}
use Rattle.std.proofs.lemmas.Bool.{eqb-true}
use Rattle.std.proofs.lemmas.List.Folds.{list_any-append}
use Rattle.uc_tree.specs.Programs.{Site}
use Rattle.uc_tree.specs.SiteOffers.{clause_for, Met}
use Rattle.uc_tree.specs.declared.limits.TheConstants.{OBJECTS, TASKS}
use Rattle.uc_entry.specs.declared.entry.Entry.{Entry}
use Rattle.uc_entry.specs.declared.entry.EntryKind.{EntryKind}
use Rattle.uc_entry.specs.declared.entry.EntryKind.TheVariants as kind
use Rattle.uc_entry.specs.declared.entry.Options.{Options}
use Rattle.uc_entry.specs.declared.request.Piece.{Piece}
use Rattle.uc_entry.specs.declared.request.Request.{Request}
use Rattle.uc_entry.specs.declared.request.Request.TheVariants as ask
use Rattle.uc_acts.specs.Journal.{Journal, Cost, no_cost, inside, number, own_object, lets_in, moves, holds, stacks_acceptor}
use Rattle.uc_acts.specs.Known.{has, object_count, task_count}
use Rattle.uc_acts.specs.Pending.{pending, oldest_in}
use Rattle.uc_acts.specs.Doors.{site_at, open_at, offered, next_met, blocked}
use Rattle.uc_acts.specs.Acts.{row, admission, met_by, called, took, accepted, signalled, handed, front, poll_entry, prints, or_fault}
use Rattle.uc_acts.proofs.Seats.{inside_same, inside_other}
use Rattle.uc_state_laws.proofs.Places.{flipped, has_filter}

-- what task t goes out of by what it asks
abbrev pub GoesOut : ℕ → Journal → Request → ℕ → Type 0
GoesOut t j (ask.Made o) q = o ≡ q
GoesOut t j (ask.Spawn o) q = o ≡ q
GoesOut t j (ask.Leave o failed) q = o ≡ q
GoesOut t j (ask.Wait o c n) q = o ≡ q
GoesOut t j (ask.Accept o site mask) q = o ≡ q
GoesOut t j (ask.SignalBlock o c) q = o ≡ q
GoesOut t j (ask.Gone o) q = o ≡ q
GoesOut t j ask.End q = own_object t j ≡ q
GoesOut t j r q = ⊥

-- whether an entry takes its task out of its object
abbrev kicks : EntryKind → Entry → Bool
kicks kind.Begin e = true
kicks kind.Made e = true
kicks kind.Spawn e = true
kicks kind.Leave e = true
kicks kind.End e = true
kicks kind.Wait e = true
kicks kind.Gone e = true
kicks kind.SignalBlock e = holds 1 e.b
kicks kind.Accept e = stacks_acceptor e
kicks k e = false

-- an entry of another kind than the first takes nobody else out

or_true : (b : Bool) → (b || true) ≡ true
or_true true = refl
or_true false = refl

kept : (a m l : Bool) → a ≡ true → m ≡ false → ((a && not m) || l) ≡ true
kept true true l h g = cc
kept true false l h g = refl
kept false m l h g = cc

let_in : (a m l : Bool) → l ≡ true → ((a && not m) || l) ≡ true
let_in a m true h = or_true (a && not m)
let_in a m false h = cc

and_swap : (a b : Bool) → (b && a) ≡ false → (a && b) ≡ false
and_swap true true h = cc
and_swap true false h = refl
and_swap false b h = refl

abbrev pub is_begin : EntryKind → Bool
is_begin kind.Begin = true
is_begin k = false

stays_by : (k : EntryKind) (e : Entry) (v : ℕ) (a : Bool) → is_begin k ≡ false → a ≡ true → (kicks k e && (v == e.task)) ≡ false → ((a && not (moves k e v)) || has (option_to_list (lets_in k e)) v) ≡ true
stays_by kind.Begin e v a n h g = cc
stays_by kind.Make e v a n h g = by (v == e.task) refl
  where
    by : (b : Bool) → (v == e.task) ≡ b → ((a && not (v == e.task)) || ((e.task == v) || false)) ≡ true
    by true f = let_in a (v == e.task) _ (ap (λ b. b || false) (flipped e.task v ∙ f))
    by false f = kept a (v == e.task) _ h f
stays_by kind.Admit e v a n h g = by (v == e.task) refl
  where
    by : (b : Bool) → (v == e.task) ≡ b → ((a && not (v == e.task)) || ((e.task == v) || false)) ≡ true
    by true f = let_in a (v == e.task) _ (ap (λ b. b || false) (flipped e.task v ∙ f))
    by false f = kept a (v == e.task) _ h f
stays_by kind.Spawn e v a n h g = by (v == number e.a) refl
  where
    by : (b : Bool) → (v == number e.a) ≡ b → ((a && not ((v == e.task) || (v == number e.a))) || ((number e.a == v) || false)) ≡ true
    by true f = let_in a ((v == e.task) || (v == number e.a)) _ (ap (λ b. b || false) (flipped (number e.a) v ∙ f))
    by false f = kept a ((v == e.task) || (v == number e.a)) _ h (ap (λ b. b || (v == number e.a)) g ∙ f)
stays_by kind.Made e v a n h g = kept a (v == e.task) false h g
stays_by kind.Leave e v a n h g = kept a (v == e.task) false h g
stays_by kind.End e v a n h g = kept a (v == e.task) false h g
stays_by kind.Wait e v a n h g = kept a (v == e.task) false h g
stays_by kind.Gone e v a n h g = kept a (v == e.task) false h g
stays_by kind.SignalBlock e v a n h g = kept a ((v == e.task) && holds 1 e.b) false h (and_swap (v == e.task) (holds 1 e.b) g)
stays_by kind.Accept e v a n h g = kept a ((v == e.task) && stacks_acceptor e) false h (and_swap (v == e.task) (stacks_acceptor e) g)
stays_by k e v a n h g = kept a false false h refl

stays_in : (i : Journal) (e : Entry) (v o : ℕ) → is_begin e.kind ≡ false → has (inside o i) v ≡ true → (kicks e.kind e && (v == e.task)) ≡ false → has (inside o (i ++ e ∷ [])) v ≡ true
stays_in i e v o n h g = by (e.object == o) refl
  where
    by : (b : Bool) → (e.object == o) ≡ b → has (inside o (i ++ e ∷ [])) v ≡ true
    by false f = ap (λ l. has l v) (inside_other o i e f) ∙ h
    by true f =
        ap (λ l. has l v) (inside_same o i e f) ∙ list_any-append (λ x. x == v) (filter (λ t. not (moves e.kind e t)) (inside o i)) (option_to_list (lets_in e.kind e)) ∙ ap (λ b. b || has (option_to_list (lets_in e.kind e)) v) (has_filter (moves e.kind e) (inside o i) v) ∙ stays_by e.kind e v (has (inside o i) v) n h g

-- what entries make of who is inside, where task t may go out of some objects
pub record Insiders (t : ℕ) (P : ℕ → Type 0) (j k : Journal) : Type 0 where
  pub others : (v o : ℕ) → (v == t) ≡ false → has (inside o j) v ≡ true → has (inside o k) v ≡ true
  pub own : (o : ℕ) → has (inside o j) t ≡ true → has (inside o k) t ≡ false → P o

-- an entry that takes nobody out, or task t of one of these
abbrev pub Kick : ℕ → (ℕ → Type 0) → Entry → Type 0
Kick t P e = (is_begin e.kind ≡ false) × ((kicks e.kind e ≡ false) ⊎ ((e.task ≡ t) × P e.object))

abbrev pub Kicks : ℕ → (ℕ → Type 0) → List Entry → Type 0
Kicks t P [] = Unit {0}
Kicks t P (e ∷ a) = Kick t P e × Kicks t P a

no_both : {A : Type 0} (b : Bool) → b ≡ true → b ≡ false → A
no_both b x y = absurd (cc)

module _ (t : ℕ) (P : ℕ → Type 0) where
  kick_one : (i : Journal) (e : Entry) → Kick t P e → Insiders t P i (i ++ e ∷ [])
  kick_one i e k = by k.1
    where
      and_other : (b c : Bool) → c ≡ false → (b && c) ≡ false
      and_other true c h = h
      and_other false c h = refl

      goes : (e.task ≡ t) → P e.object → (o : ℕ) (b : Bool) → (e.object == o) ≡ b → has (inside o i) t ≡ true → has (inside o (i ++ e ∷ [])) t ≡ false → P o
      goes h p o true f x y = subst P (eqb-true e.object o f) p
      goes h p o false f x y = no_both (has (inside o (i ++ e ∷ [])) t) (ap (λ l. has l t) (inside_other o i e f) ∙ x) y

      by : (kicks e.kind e ≡ false) ⊎ ((e.task ≡ t) × P e.object) → Insiders t P i (i ++ e ∷ [])
      by (inl h) = record {
        others = λ v o n x. stays_in i e v o k.0 x (ap (λ b. b && (v == e.task)) h);
        own = λ o x y. no_both (has (inside o (i ++ e ∷ [])) t) (stays_in i e t o k.0 x (ap (λ b. b && (t == e.task)) h)) y;
      }
      by (inr h) = record {
        others = λ v o n x. stays_in i e v o k.0 x (and_other (kicks e.kind e) (v == e.task) (ap (λ u. v == u) h.0 ∙ n));
        own = λ o x y. goes h.0 h.1 o (e.object == o) refl x y;
      }

  kick_then : (i j k : Journal) → Insiders t P i j → Insiders t P j k → Insiders t P i k
  kick_then i j k a b = record {
    others = λ v o n x. b.others v o n (a.others v o n x);
    own = λ o x y. by o x y (has (inside o j) t) refl;
  }
    where
      by : (o : ℕ) → has (inside o i) t ≡ true → has (inside o k) t ≡ false → (c : Bool) → has (inside o j) t ≡ c → P o
      by o x y true h = b.own o h y
      by o x y false h = a.own o x h

  pub kick_all : (i : Journal) (a : List Entry) → Kicks t P a → Insiders t P i (i ++ a)
  kick_all i [] k = record {
    others = λ v o n x. ap (λ l. has (inside o l) v) (append-nil i) ∙ x;
    own = λ o x y. no_both (has (inside o i) t) x (ap (λ l. has (inside o l) t) (sym (append-nil i)) ∙ y);
  }
  kick_all i (e ∷ a) k =
      subst (Insiders t P i) (append_assoc i (e ∷ []) a) (kick_then i (i ++ e ∷ []) ((i ++ e ∷ []) ++ a) (kick_one i e k.0) (kick_all (i ++ e ∷ []) a k.1))

-- rows

quiet_prints : (t p u : ℕ) (P : ℕ → Type 0) (k : Cost) (items : List Piece) → Kicks t P (prints p u k items)
quiet_prints t p u P k [] = tt
quiet_prints t p u P k (x ∷ items) = ((refl, inl refl), quiet_prints t p u P no_cost items)

module _ (opts : Options) (sites : List Site) (input : List ℕ) (j : Journal) (p t : ℕ) (k : Cost) (line : ℕ) where
  next_quiet : (P : ℕ → Type 0) (o : ℕ) (i : Journal) (x : Option (ℕ × ℕ)) → Kicks t P (admission sites p o i x)
  next_quiet P o i None = tt
  next_quiet P o i (Some n) = ((refl, inl refl), tt)

  met_quiet : (P : ℕ → Type 0) (o u m : ℕ) (c : Option ℕ) → Kicks t P (met_by p t o u m c)
  met_quiet P o u m None = tt
  met_quiet P o u zero (Some clause) = ((refl, inl refl), ((refl, inl refl), tt))
  met_quiet P o u (suc m) (Some clause) = ((refl, inl refl), tt)

  called_quiet : (P : ℕ → Type 0) (o m : ℕ) (within : List ℕ) (opened : List Entry) → Kicks t P (called sites p t o m within opened)
  called_quiet P o m [] [] = ((refl, inl refl), tt)
  called_quiet P o m (x ∷ xs) [] = tt
  called_quiet P o m [] (a ∷ rest) = met_quiet P o a.task m (clause_for (offered sites a) m)
  called_quiet P o m (x ∷ xs) (a ∷ rest) = met_quiet P o a.task m (clause_for (offered sites a) m)

  took_kicks : (o site mask : ℕ) (b : Bool) (m u : ℕ) → Kicks t (λ q. o ≡ q) (took p t k o site mask b m u)
  took_kicks o site mask b zero u = ((refl, inl refl), ((refl, inl refl), tt))
  took_kicks o site mask b (suc m) u = ((refl, inr (refl, refl)), ((refl, inl refl), tt))

  accepted_kicks : (o site mask : ℕ) (b : Bool) (x : Option Met) → Kicks t (λ q. o ≡ q) (accepted p t k o site mask b x)
  accepted_kicks o site mask b (Some x) = took_kicks o site mask b x.member x.task
  accepted_kicks o site mask true None = ((refl, inl refl), tt)
  accepted_kicks o site mask false None = ((refl, inr (refl, refl)), tt)

  signalled_quiet : (P : ℕ → Type 0) (o c : ℕ) (ws : List (ℕ × ℤ)) → Kicks t P (signalled p t k o c ws)
  signalled_quiet P o c [] = ((refl, inl refl), tt)
  signalled_quiet P o c (w ∷ ws) = ((refl, inl refl), ((refl, inl refl), tt))

  handed_kicks : (o c : ℕ) (ws : List (ℕ × ℤ)) → Kicks t (λ q. o ≡ q) (handed p t k o c ws)
  handed_kicks o c [] = ((refl, inl refl), tt)
  handed_kicks o c (w ∷ ws) = ((refl, inr (refl, refl)), ((refl, inl refl), tt))

  front_quiet : (P : ℕ → Type 0) (o c : ℕ) (ws : List (ℕ × ℤ)) → Kicks t P (front p t k line o c ws)
  front_quiet P o c [] = ((refl, inl refl), tt)
  front_quiet P o c (w ∷ ws) = ((refl, inl refl), tt)

  poll_quiet : (P : ℕ → Type 0) (mask : ℕ) (x : Option (ℕ × ℤ × ℤ)) → Kicks t P (poll_entry p t k mask x ∷ [])
  poll_quiet P mask None = ((refl, inl refl), tt)
  poll_quiet P mask (Some x) = ((refl, inl refl), tt)

  either_kicks : (P : ℕ → Type 0) (b : Bool) (e f : Entry) → Kick t P e → Kick t P f → Kicks t P (or_fault b e f)
  either_kicks P true e f h g = (h, tt)
  either_kicks P false e f h g = (g, tt)

  pub row_kicks : (r : Request) → Kicks t (GoesOut t j r) (row opts sites input j p t k line r)
  row_kicks (ask.Make class) = either_kicks _ (nat_lt (object_count j) OBJECTS) _ _ (refl, inl refl) (refl, inl refl)
  row_kicks (ask.Made o) = ((refl, inr (refl, refl)), next_quiet _ o _ _)
  row_kicks (ask.Spawn o) = either_kicks _ (nat_lt (task_count j) TASKS) _ _ (refl, inr (refl, refl)) (refl, inl refl)
  row_kicks (ask.Call o m) = ((refl, inl refl), called_quiet _ o m (inside o j) (open_at o j))
  row_kicks (ask.Leave o failed) = ((refl, inr (refl, refl)), next_quiet _ o _ _)
  row_kicks (ask.Accept o site mask) = accepted_kicks o site mask (site_at sites site).has_else (next_met sites site mask o j)
  row_kicks (ask.Wait o c n) = ((refl, inr (refl, refl)), next_quiet _ o _ _)
  row_kicks (ask.Signal o c) = signalled_quiet _ o c (blocked o c j)
  row_kicks (ask.SignalBlock o c) = handed_kicks o c (blocked o c j)
  row_kicks (ask.Empty o c) = ((refl, inl refl), tt)
  row_kicks (ask.Front o c) = front_quiet _ o c (blocked o c j)
  row_kicks (ask.Raise o event x y) = either_kicks _ _ _ _ (refl, inl refl) (refl, inl refl)
  row_kicks (ask.Poll mask) = poll_quiet (GoesOut t j (ask.Poll mask)) mask (oldest_in mask (pending t j))
  row_kicks ask.Yield = ((refl, inl refl), tt)
  row_kicks ask.Slice = ((refl, inl refl), tt)
  row_kicks (ask.Print n items) = quiet_prints t p t _ k (take n items)
  row_kicks (ask.Read form) = ((refl, inl refl), tt)
  row_kicks ask.Fail = ((refl, inl refl), tt)
  row_kicks ask.Cluster = either_kicks _ _ _ _ (refl, inl refl) (refl, inl refl)
  row_kicks (ask.ClusterEnd c) = either_kicks _ _ _ _ (refl, inl refl) (refl, inl refl)
  row_kicks (ask.Processor c) = either_kicks _ _ _ _ (refl, inl refl) (refl, inl refl)
  row_kicks (ask.ProcessorEnd q) = ((refl, inl refl), tt)
  row_kicks (ask.Migrate c) = ((refl, inl refl), tt)
  row_kicks ask.End = ((refl, inr (refl, refl)), next_quiet _ (own_object t j) _ _)
  row_kicks (ask.Gone o) = ((refl, inr (refl, refl)), tt)
  row_kicks (ask.Fault n) = ((refl, inl refl), tt)

  pub row_insiders : (r : Request) → Insiders t (GoesOut t j r) j (j ++ row opts sites input j p t k line r)
  row_insiders r = kick_all t (GoesOut t j r) j (row opts sites input j p t k line r) (row_kicks r)
