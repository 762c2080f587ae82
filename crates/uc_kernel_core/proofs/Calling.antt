-- What becomes of a call, by the door and by the journal.
use Rattle.std.proofs.Common.{◌≡◌, ◌≢◌, ℕ, zero, suc, ◌==◌, ◌+◌, ◌<◌, Bool, true, false, cond, List, [], ◌∷◌, ◌++◌, Option, Some, None, map, refl, sym, ap, ◌∙◌, subst, arith, get_or, inl, inr}
use Rattle.std.specs.Prelude.{◌⊎◌}
use Rattle.std.specs.Option.{option_to_list}
use Rattle.std.specs.List.{AllByRecursion}
use Rattle.std.proofs.lemmas.Bool.{ne_eqb}
use Rattle.std.proofs.lemmas.List.FromFn.{get_or-map-range_with_len}
use Rattle.uc_tree.specs.Programs.{Site}
use Rattle.uc_entry.specs.declared.entry.Entry.{Entry}
use Rattle.uc_acts.specs.Journal.{Journal, inside}
use Rattle.uc_tree.specs.SiteOffers.{has_bit, offers_from, clause_for, or_0}
use Rattle.uc_acts.specs.Doors.{OnStack, open_at, offered, offers, site_at, stack_at}
use Rattle.uc_acts.specs.Acts.{admit, push, called, met_by}
use Rattle.uc_acts.specs.Sound.{Sound, Stood}
use Rattle.uc_links.specs.Lists.{member_limit}
use Rattle.uc_mutex.specs.declared.called.Called.TheVariants as called_as
use Rattle.uc_mutex.specs.Doors.{Door, answer, answer_by, after_call, door_by, behind, let_in, on_top, off_top, met, met_door, meeting, unmarked, marked}
use Rattle.uc_mutex.specs.Offers.{clauses_of}
use Rattle.uc_kernel_core.specs.DoorLaws.{IsDoor, pair}

-- ---- clauses count from 1
abbrev ArePositive : List (ℕ × ℕ) → Type 0
ArePositive xs = AllByRecursion (λ x. x.0 ≢ 0) xs

positive_both : (xs ys : List (ℕ × ℕ)) → ArePositive xs → ArePositive ys → ArePositive (xs ++ ys)
positive_both [] ys a b = b
positive_both (x ∷ xs) ys a b = (a.0, positive_both xs ys a.1 b)

positive_clause : (i : ℕ) (ms : List ℕ) → ArePositive (map (λ m. (i + 1, m)) ms)
positive_clause i [] = tt
positive_clause i (m ∷ ms) = (λ e. absurd (omega (arith, e)), positive_clause i ms)

positive_if : (b : Bool) (i : ℕ) (ms : List ℕ) → ArePositive (cond b (map (λ m. (i + 1, m)) ms) [])
positive_if true i ms = positive_clause i ms
positive_if false i ms = tt

positive_from : (i mask : ℕ) (cs : List (List ℕ)) → ArePositive (offers_from i mask cs)
positive_from i mask [] = tt
positive_from i mask (c ∷ cs) =
    positive_both (cond (has_bit i mask) (map (λ m. (i + 1, m)) c) []) (offers_from (i + 1) mask cs) (positive_if (has_bit i mask) i c) (positive_from (i + 1) mask cs)

positive_offers : (sites : List Site) (site mask : ℕ) → ArePositive (offers sites site mask)
unfolding offers
positive_offers sites site mask = positive_from 0 mask (site_at sites site).clauses

clause_positive : (xs : List (ℕ × ℕ)) (m c : ℕ) → ArePositive xs → clause_for xs m ≡ Some c → c ≢ 0
clause_positive [] m c a h = cc
clause_positive (x ∷ xs) m c a h = by (λ g. clause_positive xs m c a.1 g) (x.1 == m) refl
  where
    some : (a b : ℕ) → Some a ≡ Some b → a ≡ b
    some a b e = cc

    by : (clause_for xs m ≡ Some c → c ≢ 0) → (b : Bool) → (x.1 == m) ≡ b → c ≢ 0
    by ih true g =
        let same : x.0 ≡ c = some x.0 c (sym (ap (λ b. cond b (Some x.0) (clause_for xs m)) g) ∙ h) in
        λ e. a.0 (same ∙ e)
    by ih false g = ih (sym (ap (λ b. cond b (Some x.0) (clause_for xs m)) g) ∙ h)

not_first : (n : ℕ) → (suc n == 0) ≡ false
not_first n = ne_eqb (suc n) 0 (λ e. cc)

pub clause_at : (xs : List (ℕ × ℕ)) (m : ℕ) → m < member_limit → get_or (clauses_of xs) m 0 ≡ or_0 (clause_for xs m)
unfolding clauses_of
clause_at xs m lt = get_or-map-range_with_len (λ m. or_0 (clause_for xs m)) 0 member_limit m m 0 lt (omega arith)

-- ---- by the door
pub record Waits (t m : ℕ) (d : Door) (es : List Entry) : Type 0 where
  pub row : es ≡ []
  pub door : after_call t m d ≡ behind t m d

-- nobody is inside, and nothing open
pub record Free (p t o m : ℕ) (j : Journal) (d : Door) (es : List Entry) : Type 0 where
  pub row : es ≡ admit p t o 0 0 ∷ []
  pub empty : inside o j ≡ []
  pub door : after_call t m d ≡ let_in t d

-- an open accept has this clause for the member
pub record Meets (sites : List Site) (o m c : ℕ) (j : Journal) (u : ℕ) : Type 0 where
  pub offers : List (ℕ × ℕ)
  pub below : List OnStack
  pub empty : inside o j ≡ []
  pub top : stack_at sites o j ≡ record { task = u; offers = offers; clause = 0; met = None; failed = false } ∷ below
  pub clause : or_0 (clause_for offers m) ≡ c

pub record Taken (sites : List Site) (p t o m : ℕ) (j : Journal) (d : Door) (es : List Entry) : Type 0 where
  pub row : es ≡ admit p t o 1 0 ∷ []
  pub acceptor : ℕ
  pub clause : ℕ
  pub meets : Meets sites o m clause j acceptor
  pub no_destructor : (m == 0) ≡ false
  pub door : after_call t m d ≡ let_in t (on_top (acceptor, marked clause t) (off_top d))

pub record Destroys (sites : List Site) (p t o m u c : ℕ) (j : Journal) (d : Door) (es : List Entry) : Type 0 where
  pub row : es ≡ admit p u o 3 c ∷ push p t o ∷ []
  pub meets : Meets sites o m c j u
  pub destructor : m ≡ 0
  pub door : after_call t m d ≡ let_in u (on_top (t, unmarked) (off_top d))

-- what becomes of it
pub data Outcome (sites : List Site) (p t o m : ℕ) (j : Journal) (d : Door) (es : List Entry) : Type 0 where
  waits : answer d m ≡ called_as.Waits → Waits t m d es → Outcome sites p t o m j d es
  comes : answer d m ≡ called_as.In 0 → Free p t o m j d es → Outcome sites p t o m j d es
  taken : answer d m ≡ called_as.In 1 → Taken sites p t o m j d es → Outcome sites p t o m j d es
  pushed : (u c : ℕ) → answer d m ≡ called_as.Pushed u c → Destroys sites p t o m u c j d es → Outcome sites p t o m j d es

module _ (sites : List Site) (p t o m : ℕ) (j : Journal) (d : Door) (at : IsDoor sites o j d) (s : Sound j) (st : Stood sites j) (lt : m < member_limit) where
  abbrev the_row : List Entry
  the_row = called sites p t o m (inside o j) (open_at o j)

  -- the parts of a door, one after the other
  abbrev by_parts : Option (List ℕ) → Option ℕ → Door
  by_parts x i = record { inside = i; waiting = d.waiting; stacked = d.stacked; opened = x }

  some_inside : (i : Option ℕ) (x : ℕ) (xs : List ℕ) → option_to_list i ≡ x ∷ xs → i ≡ Some x
  some_inside None x xs h = cc
  some_inside (Some u) x xs h = cc

  none_inside : (i : Option ℕ) → option_to_list i ≡ [] → i ≡ None
  none_inside None h = refl
  none_inside (Some u) h = cc

  some_open : (x : Option (List ℕ)) (c : List ℕ) (cs : List (List ℕ)) → option_to_list x ≡ c ∷ cs → x ≡ Some c
  some_open None c cs h = cc
  some_open (Some u) c cs h = let e : u ≡ c = first u c cs h in ap Some e
    where
      first : (u c : List ℕ) (cs : List (List ℕ)) → u ∷ [] ≡ c ∷ cs → u ≡ c
      first u c cs e = cc

  none_open : (x : Option (List ℕ)) → option_to_list x ≡ [] → x ≡ None
  none_open None h = refl
  none_open (Some u) h = cc

  shut : (within : List ℕ) → inside o j ≡ within → open_at o j ≡ [] → Outcome sites p t o m j d the_row
  shut [] a b =
      let x = none_open d.opened (at.opened ∙ ap (map (λ e. clauses_of (offered sites e))) b) in
      let i = none_inside d.inside (at.within ∙ a) in
      comes (ap (λ y. answer_by y d.inside d.stacked m) x ∙ ap (λ y. answer_by None y d.stacked m) i) (record {
        row = ap (λ y. called sites p t o m y (open_at o j)) a ∙ ap (called sites p t o m []) b;
        empty = a;
        door = ap (λ y. door_by y d.inside t m d) x ∙ ap (λ y. door_by None y t m d) i;
      })
  shut (u ∷ us) a b =
      let x = none_open d.opened (at.opened ∙ ap (map (λ e. clauses_of (offered sites e))) b) in
      let i = some_inside d.inside u us (at.within ∙ a) in
      waits (ap (λ y. answer_by y d.inside d.stacked m) x ∙ ap (λ y. answer_by None y d.stacked m) i) (record {
        row = ap (λ y. called sites p t o m y (open_at o j)) a ∙ ap (called sites p t o m (u ∷ us)) b;
        door = ap (λ y. door_by y d.inside t m d) x ∙ ap (λ y. door_by None y t m d) i;
      })

  module _ (a : Entry) (rest : List Entry) (opens : open_at o j ≡ a ∷ rest) where
    clauses : d.opened ≡ Some (clauses_of (offered sites a))
    clauses =
        some_open d.opened (clauses_of (offered sites a)) _ (at.opened ∙ ap (map (λ e. clauses_of (offered sites e))) opens)

    empty : inside o j ≡ []
    empty = (s.doors o).top a rest opens

    abbrev top : OnStack
    top = record { task = a.task; offers = offered sites a; clause = 0; met = None; failed = false }

    stands : stack_at sites o j ≡ top ∷ (st.opened o a rest opens).below
    stands = (st.opened o a rest opens).top

    stacked : d.stacked ≡ (a.task, unmarked) ∷ map pair (st.opened o a rest opens).below
    stacked = at.stacked ∙ ap (map pair) stands

    row_by : (n : ℕ) (c : Option ℕ) → m ≡ n → clause_for (offered sites a) m ≡ c → the_row ≡ met_by p t o a.task n c
    row_by n c e g =
        ap (λ y. called sites p t o m y (open_at o j)) empty ∙ ap (called sites p t o m []) opens ∙ ap (met_by p t o a.task m) g ∙ ap (λ y. met_by p t o a.task y c) e

    answer_to : (c : ℕ) → or_0 (clause_for (offered sites a) m) ≡ c → answer d m ≡ met c ((a.task, unmarked) ∷ map pair (st.opened o a rest opens).below) m
    answer_to c g =
        ap (λ y. answer_by y d.inside d.stacked m) clauses ∙ ap (λ y. met y d.stacked m) (clause_at (offered sites a) m lt ∙ g) ∙ ap (λ y. met c y m) stacked

    door_to : (c : ℕ) → or_0 (clause_for (offered sites a) m) ≡ c → after_call t m d ≡ met_door c ((a.task, unmarked) ∷ map pair (st.opened o a rest opens).below) t m d
    door_to c g =
        ap (λ y. door_by y d.inside t m d) clauses ∙ ap (λ y. met_door y d.stacked t m d) (clause_at (offered sites a) m lt ∙ g) ∙ ap (λ y. met_door c y t m d) stacked

    meets_by : (c : ℕ) → or_0 (clause_for (offered sites a) m) ≡ c → Meets sites o m c j a.task
    meets_by c g = record {
      offers = offered sites a;
      below = (st.opened o a rest opens).below;
      empty = empty;
      top = stands;
      clause = g;
    }

    by_member : (n c : ℕ) → m ≡ n → clause_for (offered sites a) m ≡ Some (suc c) → Outcome sites p t o m j d the_row
    by_member zero c e g =
        pushed a.task (suc c) (answer_to (suc c) (ap or_0 g) ∙ ap (λ y. meeting a.task (suc c) y) e) (record {
          row = row_by zero (Some (suc c)) e g;
          meets = meets_by (suc c) (ap or_0 g);
          destructor = e;
          door = door_to (suc c) (ap or_0 g) ∙ ap (λ b. cond b (let_in a.task (on_top (t, unmarked) (off_top d))) (let_in t (on_top (a.task, marked (suc c) t) (off_top d)))) (ap (λ y. y == 0) e);
        })
    by_member (suc n) c e g =
        taken (answer_to (suc c) (ap or_0 g) ∙ ap (λ y. meeting a.task (suc c) y) e ∙ ap (λ b. cond b (called_as.Pushed a.task (suc c)) (called_as.In 1)) (not_first n)) (record {
          row = row_by (suc n) (Some (suc c)) e g;
          acceptor = a.task;
          clause = suc c;
          meets = meets_by (suc c) (ap or_0 g);
          no_destructor = ap (λ y. y == 0) e ∙ not_first n;
          door = door_to (suc c) (ap or_0 g) ∙ ap (λ b. cond b (let_in a.task (on_top (t, unmarked) (off_top d))) (let_in t (on_top (a.task, marked (suc c) t) (off_top d)))) (ap (λ y. y == 0) e ∙ not_first n);
        })

    by_clause : (c : Option ℕ) → clause_for (offered sites a) m ≡ c → Outcome sites p t o m j d the_row
    by_clause None g =
        waits (answer_to 0 (ap or_0 g)) (record {
          row = row_by m None refl g ∙ nobody m;
          door = door_to 0 (ap or_0 g);
        })
      where
        nobody : (n : ℕ) → met_by p t o a.task n None ≡ []
        nobody n = refl
    by_clause (Some zero) g = absurd (clause_positive (offered sites a) m 0 (positive_offers sites _ _) g refl)
    by_clause (Some (suc c)) g = by_member m c refl g

  by_open : (opened : List Entry) → open_at o j ≡ opened → Outcome sites p t o m j d the_row
  by_open [] h = shut (inside o j) refl h
  by_open (a ∷ rest) h = by_clause a rest h (clause_for (offered sites a) m) refl

  pub outcome : Outcome sites p t o m j d (called sites p t o m (inside o j) (open_at o j))
  outcome = by_open (open_at o j) refl

  -- ---- the outcome by the answer
  pub waits_by : called_as.Waits ≡ answer d m → Waits t m d (called sites p t o m (inside o j) (open_at o j))
  waits_by h = by outcome
    where
      by : Outcome sites p t o m j d (called sites p t o m (inside o j) (open_at o j)) → Waits t m d (called sites p t o m (inside o j) (open_at o j))
      by (waits e w) = w
      by (comes e w) = absurd (clash (h ∙ e))
        where
          clash : called_as.Waits ≡ called_as.In 0 → ⊥
          clash e = cc
      by (taken e w) = absurd (clash (h ∙ e))
        where
          clash : called_as.Waits ≡ called_as.In 1 → ⊥
          clash e = cc
      by (pushed u c e w) = absurd (clash (h ∙ e))
        where
          clash : called_as.Waits ≡ called_as.Pushed u c → ⊥
          clash e = cc

  -- the caller comes in, by a way
  pub comes_by : (way : ℕ) → called_as.In way ≡ answer d m → ((way ≡ 0) × Free p t o m j d (called sites p t o m (inside o j) (open_at o j))) ⊎ ((way ≡ 1) × Taken sites p t o m j d (called sites p t o m (inside o j) (open_at o j)))
  comes_by way h = by outcome
    where
      same : (a b : ℕ) → called_as.In a ≡ called_as.In b → a ≡ b
      same a b e = cc

      by : Outcome sites p t o m j d (called sites p t o m (inside o j) (open_at o j)) → ((way ≡ 0) × Free p t o m j d (called sites p t o m (inside o j) (open_at o j))) ⊎ ((way ≡ 1) × Taken sites p t o m j d (called sites p t o m (inside o j) (open_at o j)))
      by (waits e w) = absurd (clash (h ∙ e))
        where
          clash : called_as.In way ≡ called_as.Waits → ⊥
          clash e = cc
      by (comes e w) = inl (same way 0 (h ∙ e), w)
      by (taken e w) = inr (same way 1 (h ∙ e), w)
      by (pushed u c e w) = absurd (clash (h ∙ e))
        where
          clash : called_as.In way ≡ called_as.Pushed u c → ⊥
          clash e = cc

  pub pushed_by : (u c : ℕ) → called_as.Pushed u c ≡ answer d m → Destroys sites p t o m u c j d (called sites p t o m (inside o j) (open_at o j))
  pushed_by u c h = by outcome
    where
      same : (u c v k : ℕ) → called_as.Pushed u c ≡ called_as.Pushed v k → (u ≡ v) × (c ≡ k)
      same u c v k e = (cc, cc)

      by : Outcome sites p t o m j d (called sites p t o m (inside o j) (open_at o j)) → Destroys sites p t o m u c j d (called sites p t o m (inside o j) (open_at o j))
      by (waits e w) = absurd (clash (h ∙ e))
        where
          clash : called_as.Pushed u c ≡ called_as.Waits → ⊥
          clash e = cc
      by (comes e w) = absurd (clash (h ∙ e))
        where
          clash : called_as.Pushed u c ≡ called_as.In 0 → ⊥
          clash e = cc
      by (taken e w) = absurd (clash (h ∙ e))
        where
          clash : called_as.Pushed u c ≡ called_as.In 1 → ⊥
          clash e = cc
      by (pushed v k e w) =
          let eq = same u c v k (h ∙ e) in
          subst (λ y. Destroys sites p t o m u y j d (called sites p t o m (inside o j) (open_at o j))) (sym eq.1) (subst (λ x. Destroys sites p t o m x k j d (called sites p t o m (inside o j) (open_at o j))) (sym eq.0) w)
