-- Laws over one state: who is inside, what is free, and what a hand owes that is drawn again.
use Rattle.std.proofs.Common.{◌≡◌, ℕ, suc, ◌+◌, ◌≤◌, ◌<◌, Bool, true, false, ◌||◌, List, [], ◌∷◌, Option, Some, None, inl, inr, zero, refl, sym, subst, ap, ◌∙◌, arith}
use Rattle.std.specs.Prelude.{nat_eq, slice_get, ◌⊎◌, if◌then◌else◌}
use Rattle.std.specs.List.{list_any}
use Rattle.std.proofs.lemmas.Bool.{eqb-true, eq-eqb, ltb-false}
use Rattle.std.proofs.lemmas.Bool.Decides.{eqb_tells}
use Rattle.uc_tree.specs.Source.{Source}
use Rattle.uc_entry.specs.Keyed.{find}
use Rattle.uc_entry.specs.declared.request.Request.{Request}
use Rattle.uc_entry.specs.declared.request.Request.TheVariants as ask
use Rattle.uc_machine.specs.Switches.{without}
use Rattle.uc_machine.specs.Executions.{home_eq}
use Rattle.uc_machine.specs.declared.exec.Home.TheVariants as home
use Rattle.uc_machine.specs.Insides.{is_engaged, has_engaged, is_held_up}
use Rattle.uc_machine.specs.Monitors.{this_object}
use Rattle.uc_machine.specs.declared.exec.Stage.{Stage}
use Rattle.uc_machine.specs.declared.exec.Stage.TheVariants.{Fresh, Started, Ended}
use Rattle.uc_machine.specs.Pieces.{Todo, Active, State, Members, at, object_in}
use Rattle.uc_machine.specs.Answering.{with_hand}
use Rattle.uc_depth_laws.specs.Entering.{Aspect}
use Rattle.uc_depth_laws.specs.Owing.{Ex, Tests, entries, marks, marks_waiting, owed_waiting, owed_all, owed_at, Engaged, EngagedBy, EngagedSlot, EngagedParked, EngagedHand, EngagedMembers, Free, Redrawn, owed_slot, owed_parked, owed_hand, owed, owed_outside, owed_by, IsInside, Deep, DeepBehind, DeepAsk}
use Rattle.uc_depth_laws.specs.DepthLaws.{LawFree, LawDrawn, LawInside}
use Rattle.uc_depth_laws.proofs.Kept.{both, found_hand}
use Rattle.uc_depth_laws.proofs.Depths.{own_one, counted_own, counted_least, counted_none, inside_of}
use Rattle.uc_depth_laws.proofs.Renewed.{parked_again}

abbrev owed_option : ℕ → Option Active → ℕ
owed_option q None = 0
owed_option q (Some a) = owed_by q a

-- what is owed by one is owed by all
one_owes : (q : ℕ) (cs : List Active) (n : ℕ) (a : Active) → slice_get cs n ≡ Some a → owed_by q a ≤ owed_waiting q cs
one_owes q [] n a e = absurd cc
one_owes q (x ∷ cs) zero a e = let f = ap (λ (o : Option Active). owed_option q o) e in omega (arith, f)
one_owes q (x ∷ cs) (suc n) a e = let h = one_owes q cs n a e in omega (arith, h)

marked : (source : Source) (news : Tests) (s : State) → Deep source news s → (n : ℕ) (a : Active) → slice_get (s.run ∷ s.callers) n ≡ Some a → 0 < marks a.control → IsInside (object_in a.this) s.env
marked source news s h n a e l =
    let o = object_in a.this in
    let d = h.depths o in
    let b = counted_own a.this (marks a.control) in
    let c = one_owes o (s.run ∷ s.callers) n a e in
    inside_of (find o s.env.depths) (omega (arith, d, b, c, l))

own : (source : Source) (news : Tests) (s : State) → Deep source news s → IsInside s.env.own s.env
own source news s h =
    let d = h.depths s.env.own in
    let b = own_one s.env.own in
    inside_of (find s.env.own s.env.depths) (omega (arith, d, b))

pub law_inside : LawInside
law_inside = record { marked = marked; own = own }

-- what is owed by activations without marks

waiting_none : (q : ℕ) (cs : List Active) → marks_waiting cs ≤ 0 → owed_waiting q cs ≡ 0
waiting_none q [] l = refl
waiting_none q (a ∷ cs) l =
    let b = counted_least q a.this (marks a.control) 0 (omega (arith, l)) in
    let c = counted_none q a.this in
    let d = waiting_none q cs (omega (arith, l)) in
    omega (arith, b, c, d)

-- what is not engaged owes nothing

ex_none : (source : Source) (tells : Aspect → ℕ → Bool) (q : ℕ) (x : Ex) → Engaged source tells x → entries x.links ≤ 0 → owed_all q x ≡ 0
ex_none source tells q x h none =
    let l = h.engaged in
    let b = counted_least q x.run.this (marks x.run.control) 0 (omega (arith, l, none)) in
    let c = counted_none q x.run.this in
    let d = waiting_none q x.callers (omega (arith, l, none)) in
    omega (arith, b, c, d)

slot_none : (source : Source) (tells : Aspect → ℕ → Bool) (q : ℕ) (o : Option Ex) → EngagedSlot source tells o → is_engaged o ≡ false → owed_slot q o ≡ 0
slot_none source tells q None h e = refl
slot_none source tells q (Some x) h e = stage x.links.stage h
  where
    none : entries x.links ≤ 0
    none = ltb-false 0 (entries x.links) e

    stage : (g : Stage) → EngagedBy source tells g x → owed_at g (owed_all q x) ≡ 0
    stage Fresh h = ex_none source tells q x h none
    stage Started h = ex_none source tells q x h none
    stage Ended h = refl

found_without : {X : Type 0} (q o : ℕ) (ds : List (ℕ × X)) → nat_eq o q ≡ false → find q (without o ds) ≡ find q ds
found_without q o [] n = refl
found_without q o (p ∷ ds) n = by (nat_eq p.0 o) refl (found_without q o ds n)
  where
    found_of : (b : Bool) → find q (without o ds) ≡ find q ds → (if b then Some p.1 else find q (without o ds)) ≡ (if b then Some p.1 else find q ds)
    found_of true i = refl
    found_of false i = i

    by : (b : Bool) → nat_eq p.0 o ≡ b → find q (without o ds) ≡ find q ds → find q (if b then ds else p ∷ without o ds) ≡ find q (p ∷ ds)
    by true e i =
        let same : p.0 ≡ o = eqb-true p.0 o e in
        let f : nat_eq p.0 q ≡ false = subst (λ k. nat_eq k q ≡ false) (sym same) n in
        sym (ap (λ b. if b then Some p.1 else find q ds) f)
    by false e i = found_of (nat_eq p.0 q) i

-- of two numbers that differ
none_some : {X : Type 0} {x : X} → None ≡ Some x → ⊥
none_some e = cc

true_false : true ≡ false → ⊥
true_false e = cc

other : (a b : ℕ) → nat_eq a b ≡ false → nat_eq b a ≡ false
other a b e = elim (eqb_tells b a) [
  | inl h ↦ absurd (let f = eq-eqb a b (sym h.1) in true_false (subst (λ y. y ≡ false) f e))
  | inr h ↦ h.0
]

neither : (a b : Bool) → (a || b) ≡ false → (a ≡ false) × (b ≡ false)
neither true b e = absurd cc
neither false b e = (refl, e)

free : (source : Source) (tells : Aspect → ℕ → Bool) (q : ℕ) (ps : List (ℕ × Option Ex)) → EngagedParked source tells ps → list_any (λ (p : ℕ × Option Ex). is_engaged p.1) ps ≡ false → owed_parked q ps ≡ 0
free source tells q [] h e = refl
free source tells q (p ∷ ps) h e =
    let two = neither (is_engaged p.1) (list_any (λ (p : ℕ × Option Ex). is_engaged p.1) ps) e in
    let a = slot_none source tells q p.1 h.0 two.0 in
    let b = free source tells q ps h.1 two.1 in
    omega (arith, a, b)

pub law_free : LawFree
law_free = λ source tells m h e. record { parked = parked_again source tells (λ k o. false) m.parked h (λ k q n. inr (free source tells q m.parked h e)); nothing = λ q. free source tells q m.parked h e }

-- a hand that is drawn anew

abbrev owed_found : ℕ → Option Members → ℕ
owed_found q None = 0
owed_found q (Some m) = owed_parked q m.parked

-- what is found is all that is owed beside the others
taken : (q k : ℕ) (hand : List (ℕ × Members)) → owed_hand q (without k hand) + owed_found q (find k hand) ≤ owed_hand q hand
taken q k [] = omega arith
taken q k (p ∷ hand) =
    let h = taken q k hand in
    both (λ (xs : List (ℕ × Members)) (x : Option Members). owed_hand q xs + owed_found q x ≤ owed_parked q p.1.parked + owed_hand q hand) (nat_eq p.0 k) hand (p ∷ without k hand) (Some p.1) (find k hand) (omega arith) (omega (arith, h))

-- so it is in order without what is at home in an object, and owes no more
pub engaged_without : (source : Source) (news : Tests) (k : ℕ) (hand : List (ℕ × Members)) → EngagedHand source news hand → EngagedHand source news (without k hand)
engaged_without source news k [] h = tt
engaged_without source news k (p ∷ hand) h =
    both (λ (xs : List (ℕ × Members)) (x : Option Members). EngagedHand source news xs) (nat_eq p.0 k) hand (p ∷ without k hand) (Some p.1) (find k hand) h.1 (h.0, engaged_without source news k hand h.1)

pub owed_without : (q k : ℕ) (hand : List (ℕ × Members)) → owed_hand q (without k hand) ≤ owed_hand q hand
owed_without q k hand = let a = taken q k hand in omega (arith, a)

-- where nothing holds a task up, what is at home in the object owes it nothing
left : (q k : ℕ) (hand : List (ℕ × Members)) → owed_hand q hand ≤ owed_hand q (without k hand) + owed_found q (find k hand)
left q k [] = omega arith
left q k (p ∷ hand) =
    let h = left q k hand in
    both (λ (xs : List (ℕ × Members)) (x : Option Members). owed_parked q p.1.parked + owed_hand q hand ≤ owed_hand q xs + owed_found q x) (nat_eq p.0 k) hand (p ∷ without k hand) (Some p.1) (find k hand) (omega arith) (omega (arith, h))

pub all_owed : (source : Source) (news : Tests) (s : State) → Deep source news s → (todo : List Todo) → is_held_up (this_object s) s.env ≡ false → owed_outside source (this_object s) (at todo s.run.operands s) ≡ 0 → owed source (this_object s) (at todo s.run.operands s) ≡ 0
all_owed source news s h todo u e =
    let o = this_object s in
    let a = left o o s.env.hand in
    let b = by (find o s.env.hand) (found_hand source news o s.env.hand h.env.hand) (neither (home_eq s.env.exec.home (home.Object o)) (has_engaged (find o s.env.hand)) u).1 in
    omega (arith, a, b, e)
  where
    by : (x : Option Members) → EngagedMembers source news (home.Object (this_object s)) x → has_engaged x ≡ false → owed_found (this_object s) x ≡ 0
    by None k g = refl
    by (Some m) k g = free source (news (home.Object (this_object s))) (this_object s) m.parked k g

engaged_found : (source : Source) (news : Tests) (k : ℕ) (hand : List (ℕ × Members)) (m : Members) → EngagedHand source news hand → find k hand ≡ Some m → EngagedParked source (news (home.Object k)) m.parked
engaged_found source news k hand m h e = subst (EngagedMembers source news (home.Object k)) e (found_hand source news k hand h)

-- without an object the others are found as they were
redrawn_without : (source : Source) (k : ℕ) (old hand : List (ℕ × Members)) → find k hand ≡ None → Redrawn source old hand → Redrawn source (without k old) hand
redrawn_without source k old [] n h = tt
redrawn_without source k old (p ∷ hand) n h = by (nat_eq p.0 k) refl (redrawn_without source k old hand)
  where
    by : (b : Bool) → nat_eq p.0 k ≡ b → (find k hand ≡ None → Redrawn source old hand → Redrawn source (without k old) hand) → (Free source p.1 ⊎ (find p.0 (without k old) ≡ Some p.1)) × (find p.0 hand ≡ None) × Redrawn source (without k old) hand
    by true e rest =
        let f : find k (p ∷ hand) ≡ Some p.1 = ap (λ b. if b then Some p.1 else find k hand) e in
        absurd (none_some (subst (λ y. y ≡ Some p.1) n f))
    by false e rest =
        let f : find k (p ∷ hand) ≡ find k hand = ap (λ b. if b then Some p.1 else find k hand) e in
        let m : find k hand ≡ None = subst (λ y. y ≡ None) f n in
        (kept_side h.0, h.1, rest m h.2)
      where
        kept_side : Free source p.1 ⊎ (find p.0 old ≡ Some p.1) → Free source p.1 ⊎ (find p.0 (without k old) ≡ Some p.1)
        kept_side (inl x) = inl x
        kept_side (inr x) = inr (subst (λ y. y ≡ Some p.1) (sym (found_without p.0 k old (other p.0 k e))) x)

redrawn_both : (source : Source) (k : ℕ) (old hand : List (ℕ × Members)) → Redrawn source old hand → Redrawn source (without k old) (without k hand)
redrawn_both source k old [] h = tt
redrawn_both source k old (p ∷ hand) h = by (nat_eq p.0 k) refl (redrawn_both source k old hand h.2)
  where
    kept_side : nat_eq p.0 k ≡ false → Free source p.1 ⊎ (find p.0 old ≡ Some p.1) → Free source p.1 ⊎ (find p.0 (without k old) ≡ Some p.1)
    kept_side e (inl x) = inl x
    kept_side e (inr x) = inr (found_without p.0 k old (other p.0 k e) ∙ x)

    by : (b : Bool) → nat_eq p.0 k ≡ b → Redrawn source (without k old) (without k hand) → Redrawn source (without k old) (if b then hand else p ∷ without k hand)
    by true e rest = redrawn_without source k old hand (subst (λ q. find q hand ≡ None) (eqb-true p.0 k e) h.1) h.2
    by false e rest = (kept_side e h.0, found_without p.0 k hand (other p.0 k e) ∙ h.1, rest)

redrawn_owed : (source : Source) (q : ℕ) (old hand : List (ℕ × Members)) → Redrawn source old hand → owed_hand q hand ≤ owed_hand q old
redrawn_owed source q old [] h = omega arith
redrawn_owed source q old (p ∷ hand) h = by h.0 (λ xs k. redrawn_owed source q xs hand k)
  where
    by : Free source p.1 ⊎ (find p.0 old ≡ Some p.1) → ((xs : List (ℕ × Members)) → Redrawn source xs hand → owed_hand q hand ≤ owed_hand q xs) → owed_parked q p.1.parked + owed_hand q hand ≤ owed_hand q old
    by (inl x) rest = let a = x.nothing q in let b = rest old h.2 in omega (arith, a, b)
    by (inr x) rest =
        let a = taken q p.0 old in
        let b = rest (without p.0 old) (redrawn_without source p.0 old hand h.1 h.2) in
        let c = ap (owed_found q) x in
        omega (arith, a, b, c)

redrawn_engaged : (source : Source) (news : Tests) (old hand : List (ℕ × Members)) → EngagedHand source news old → Redrawn source old hand → EngagedHand source news hand
redrawn_engaged source news old [] k h = tt
redrawn_engaged source news old (p ∷ hand) k h = (by h.0, redrawn_engaged source news old hand k h.2)
  where
    by : Free source p.1 ⊎ (find p.0 old ≡ Some p.1) → EngagedParked source (news (home.Object p.0)) p.1.parked
    by (inl x) = parked_again source (λ k o. false) (news (home.Object p.0)) p.1.parked x.parked (λ k q n. cc)
    by (inr x) = engaged_found source news p.0 old p.1 k x

module _ (source : Source) (news : Tests) where
  drawn : (hand : List (ℕ × Members)) (s : State) → Deep source news s → Redrawn source s.env.hand hand → Deep source news (with_hand hand s)
  drawn hand s h k = record {
    first = h.first;
    run = h.run;
    new = h.new;
    one = h.one;
    callers = h.callers;
    env = record { house = h.env.house; hand = redrawn_engaged source news s.env.hand hand h.env.hand k };
    engaged = h.engaged;
    depths = λ q. let a = h.depths q in let b = redrawn_owed source q s.env.hand hand k in omega (arith, a, b);
  }

  drawn_behind : (hand : List (ℕ × Members)) (s : State) → DeepBehind source news s → Redrawn source s.env.hand hand → DeepBehind source news (with_hand hand s)
  drawn_behind hand s h k = record {
    first = h.first;
    run = h.run;
    new = tt;
    one = h.one;
    callers = h.callers;
    env = record { house = h.env.house; hand = redrawn_engaged source news s.env.hand hand h.env.hand k };
    engaged = h.engaged;
    depths = λ q. let a = h.depths q in let b = redrawn_owed source q s.env.hand hand k in omega (arith, a, b);
  }

  drawn_asked : (r : Request) (hand : List (ℕ × Members)) (s : State) → DeepAsk source news r s → Redrawn source s.env.hand hand → DeepAsk source news r (with_hand hand s)
  drawn_asked (ask.Call o m) hand s h k = λ away. drawn hand s (h away) k
  drawn_asked (ask.Make c) hand s h k = (h.0, drawn_behind hand s h.1 k)
  drawn_asked ask.Slice hand s h k = drawn hand s h k
  drawn_asked (ask.Spawn o) hand s h k = (record { alone = h.0.alone; deep = drawn hand s h.0.deep k }, h.1, let a = redrawn_owed source o s.env.hand hand k in let b = h.2 in omega (arith, a, b))
  drawn_asked (ask.Gone o) hand s h k = (
    record { alone = h.0.alone; deep = drawn (without o hand) (with_hand (without o s.env.hand) s) h.0.deep (redrawn_both source o s.env.hand hand k) },
    redrawn_engaged source news s.env.hand hand h.1 k,
  )
  drawn_asked ask.End hand s h k = record { house = h.house; hand = redrawn_engaged source news s.env.hand hand h.hand k }
  drawn_asked (ask.Fault f) hand s h k = tt
  drawn_asked r hand s h k = record { alone = h.alone; deep = drawn hand s h.deep k }

pub law_drawn : LawDrawn
law_drawn = record { goes = λ source news hand s h k. drawn source news hand s h k; asked = λ source news r hand s h k. drawn_asked source news r hand s h k }
