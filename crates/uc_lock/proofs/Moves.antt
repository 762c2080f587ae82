-- Each step keeps the rule of the lock.
use Rattle.std.proofs.Common.{◌≡◌, ◌≢◌, ℕ, suc, ◌+◌, ◌%◌, ◌<◌, ◌≤◌, List, [], ◌∷◌, length, get_or, set, Option, Some, None, true, false, eqb, true≢false, refl, sym, ap, ◌∙◌, subst, inl, inr, ⊎_elim, arith, length-set}
use mathlib.Core.Logic.{dite}
use native.Mathlib.Decide.{ℕ_discrete}
use mathlib.Core.Option.{some, none, some-injective}
use lib.ListN.{get_elem?}
use Rattle.std.specs.List.{IsDistinct}
use Rattle.atomic_table.specs.Table.{State, step, keeps, takes, gives, Act, Valid, put_back, rest, carried_after, stepped, Allows}
use Rattle.atomic_table.proofs.Lists.{set_else, set_again, one_turn}
use Rattle.uc_lock.specs.declared.view.View.{View}
use Rattle.uc_lock.specs.declared.view.Stage.TheVariants.{Idle, Waiting, Turn}
use Rattle.uc_lock.specs.declared.view.Terms.{Terms}
use Rattle.uc_lock.specs.Journals.{Begins, made_by, Extends, GrownBelow}
use Rattle.uc_lock.specs.Rule.{wraps, out, HasTicket, Stance, Knows, Remembers, gone_from, with_stage, IsHome, IsOut, Kept, Draws, Finds, Looks, Gives}
use Rattle.uc_lock.proofs.Views.{begins_same, begins_longer, set_at, at_below, one_set, each_set, made_by_longer, grown_more, apart_set, tickets_set, tickets_few, remembers_set}

pub length_set : {A : Type 0} (l : List A) (i : ℕ) (a : A) → length (set l i a) ≡ length l
length_set l i a = length-set l i a

module _ {V : Type 0} where
  abbrev in_slot : List (ℕ × Option V) → Option V
  in_slot [] = None
  in_slot (x ∷ xs) = x.1

  pub same_some : (x y : V) → Some x ≡ Some y → x ≡ y
  same_some x y e = cc

  none_some : (x : V) → None ≡ Some x → ⊥
  none_some x e = cc

  -- the slot was empty, so nothing comes out of it
  pub empty_slot : (l : List (ℕ × Option V)) (found : Option V) (x : V) → l ≡ (0, None) ∷ [] → l ≡ (0, found) ∷ rest l → found ≡ Some x → ⊥
  empty_slot l found x a b is = none_some x (ap in_slot (sym a ∙ b) ∙ is)

module _ {V K I : Type 0} (key_of : V → K) (journal_of : V → List (I × ℕ)) (k : Terms K I) where
  abbrev pub St : Type 0
  St = State (Option V) (View K I)

  abbrev pub Rule : St → Type 0
  Rule = Kept key_of journal_of k

  pub no_ticket : (v : View K I) (t : ℕ) → v.stage ≡ Idle → HasTicket t v.stage → ⊥
  no_ticket v t e h = (subst (HasTicket t) e h) refl

  pub clashes : (l : List (View K I)) (i j : ℕ) (v w : View K I) (t : ℕ) → get_elem? l i ≡ some v → get_elem? l j ≡ some w → j ≡ i → v.stage ≡ Idle → w.stage ≡ Turn t → ⊥
  clashes l i j v w t ei ej same idle turn = let is : v ≡ w = some-injective v w (sym ei ∙ (ap (get_elem? l) (sym same) ∙ ej)) in let e : v.stage ≡ w.stage = ap (λ (x : View K I). x.stage) is in absurd (cc)

  pub unspent_spent : (v x : View K I) → v ≡ x → v.spent ≡ false → x.spent ≡ true → ⊥
  unspent_spent v x same a b = true≢false (sym b ∙ (ap (λ (y : View K I). y.spent) (sym same) ∙ a))

  pub draws : (slots id : ℕ) (me : Stance V K I) → me.0.stage ≡ Idle → me.0.spent ≡ false
      → Allows Rule slots id me 0 (λ n. (n + 1) % 18446744073709551616) (Draws (step slots 0 1 0 none) me)
  draws slots id me idle unspent s r long at small =
      let v : View K I = me.0 in
      let w : View K I = with_stage (Waiting r.drawn) v in
      let found : get_or s.words 0 0 ≡ r.drawn % wraps = ap (λ ws. get_or ws 0 0) r.words in
      let sum = tickets_set s.views id v w at in
      let none_out : out v.stage ≡ 0 = ap out idle in
      let is = r.counted in (
        w,
        keeps,
        tt,
        record {
          drawn = suc r.drawn;
          served = r.served;
          journal = r.journal;
          words = ap (λ ws. set ws 0 ((get_or ws 0 0 + 1) % 18446744073709551616)) r.words ∙ ap (λ (n : ℕ). n ∷ (r.served % wraps) ∷ []) (omega arith);
          few = omega (arith, length_set s.views id w, r.few);
          within = omega (arith, length_set s.views id w, r.within);
          distinct = each_set (λ i u. IsDistinct eqb (gone_from u)) s.views id w (λ j y _ e. r.distinct j y e) (r.distinct id v at);
          counted = omega arith;
          ranged = λ i u t e h. each_set (λ i u. HasTicket t u.stage → (r.served ≤ t) × (t < suc r.drawn)) s.views id w
              (λ j x _ e' h'. let g = r.ranged j x t e' h' in (g.0, omega arith)) (λ h'. (omega arith, omega arith)) i u e h;
          apart = λ i j u x t. apart_set t s.views id w (λ i j u x. r.apart i j u x t) (λ j x _ e h h'. let g = r.ranged j x t e h in absurd (omega arith)) i j u x;
          turn = λ i u t e h. each_set (λ i u. u.stage ≡ Turn t → t ≡ r.served) s.views id w (λ j x _ e' h'. r.turn j x t e' h') (λ h'. absurd (cc)) i u e h;
          known = each_set (λ i u. Knows k r.journal i u) s.views id w (λ j x _ e. r.known j x e) (r.known id v at);
          unmade = λ m le. r.unmade m (omega (arith, length_set s.views id w));
          makers = r.makers;
          splitter = λ i u e. each_set (λ i u. 0 < u.made → (i ≡ 0) × (u.made ≡ length (set s.views id w))) s.views id w (λ j y _ e' h'. let a = r.splitter j y e' h' in (a.0, a.1 ∙ sym (length_set s.views id w))) (λ h'. let a = r.splitter id v at h' in (a.0, a.1 ∙ sym (length_set s.views id w))) i u e;
          idle = each_set (λ i u. u.spent ≡ true → u.stage ≡ Idle) s.views id w (λ j y _ e. r.idle j y e) (λ h'. absurd (true≢false (sym h' ∙ unspent)));
          merged = each_set (λ i u. Remembers r.journal (set s.views id w) u) s.views id w (λ j y _ e. remembers_set r.journal s.views id v w at unspent y (r.merged j y e)) (remembers_set r.journal s.views id v w at unspent w (r.merged id v at));
          place = ⊎_elim
              (λ (h : IsHome key_of journal_of k r.journal s). inl (h.0, λ i u t e. each_set (λ i u. u.stage ≢ Turn t) s.views id w (λ j x _ e'. h.1 j x t e') (λ h'. absurd (cc)) i u e))
              (λ (o : IsOut key_of journal_of r.served r.journal s). inr (o.0, o.1, set_else s.views id o.0 w (λ same. absurd (clashes s.views id o.0 v o.1 r.served at o.2 same idle o.3)) ∙ o.2, o.3, o.4, o.5))
              r.place;
        },
        (r.drawn, found, refl),
      )

  unmoved : (s : St) (r : Rule s) (id : ℕ) (v : View K I) (c : List (ℕ × Option V)) → get_elem? s.views id ≡ some v → Rule (stepped s 1 (get_or s.words 1 0) id c v keeps)
  unmoved s r id v c at = let p : s.words ≡ set s.words 1 (get_or s.words 1 0) = r.words ∙ sym (ap (λ ws. set ws 1 (get_or ws 1 0)) r.words) in
      subst Rule (λ i. record { words = p i; homes = s.homes; views = sym (set_again s.views id v at) i }) r

  same_ticket : (v : View K I) (u t : ℕ) → v.stage ≡ Waiting u → v.stage ≡ Waiting t → u ≡ t
  same_ticket v u t p q = cc

  served_now : (s : St) (r : Rule s) (id : ℕ) (v : View K I) (t : ℕ) → get_elem? s.views id ≡ some v → v.stage ≡ Waiting t → t % wraps ≡ r.served % wraps → t ≡ r.served
  served_now s r id v t at waits e = let g = r.ranged id v t at (subst (HasTicket t) (sym waits) refl) in let few = tickets_few s.views in let most = r.few in let sum = r.counted in
      sym (one_turn r.served t wraps g.0 (omega arith) (sym e))

  turn_is : (t n m : ℕ) → Turn t ≡ Turn n → t ≡ m → n ≡ m
  turn_is t n m e now = cc

  same_terms : (a b : Terms K I) → Some a ≡ Some b → a ≡ b
  same_terms a b e = cc

  -- what lies in the slot fits what a seat knows
  pub found_at : (s : St) (r : Rule s) (id : ℕ) (v : View K I) (x : V) → get_elem? s.views id ≡ some v → v.spent ≡ false → journal_of x ≡ r.journal → key_of x ≡ k.key → Finds key_of journal_of v x
  found_at s r id v x at unspent is keyed = let g = r.known id v at unspent in record {
    key = λ t e. keyed ∙ ap (λ (y : Terms K I). y.key) (same_terms k t (sym g.1 ∙ e));
    makers = λ t e. subst (λ (y : Terms K I). GrownBelow y.seats y.opening (journal_of x)) (same_terms k t (sym g.1 ∙ e)) (subst (GrownBelow k.seats k.opening) (sym is) r.makers);
    begins = (g.2.0, is ∙ g.2.1);
    mine = ap (λ n. made_by n (journal_of x)) g.0 ∙ (ap (made_by id) is ∙ sym g.3);
  }

  turn_comes : (slots id : ℕ) (me : Stance V K I) (t : ℕ) → me.0.stage ≡ Waiting t → me.0.spent ≡ false → (s : St) (r : Rule s) → get_elem? s.views id ≡ some me.0 → t ≡ r.served
      → (w : View K I) × (a : Act (Option V)) × Valid s.homes me.1 a × Rule (stepped s 1 (get_or s.words 1 0) id me.1 w a) × Looks key_of journal_of (step slots 1 0 0 none) me (get_or s.words 1 0) (w, carried_after me.1 a)
  turn_comes slots id me t waits unspent s r at now = ⊎_elim
      (λ (h : IsHome key_of journal_of k r.journal s).
      let v : View K I = me.0 in
      let x : V = h.0.0 in
      let w : View K I = record v { stage = Turn t; seen = journal_of x } in
      let mine : HasTicket t v.stage = subst (HasTicket t) (sym waits) refl in
      let g = r.known id v at unspent in
      let range = r.ranged id v t at mine in
      let sum = tickets_set s.views id v w at in
      let one_out : out v.stage ≡ 1 = ap out waits in
      let is = r.counted in (
        w,
        takes 0 (Some x),
        ap (λ hs. get_elem? hs 0) h.0.1,
        record {
          drawn = r.drawn;
          served = r.served;
          journal = r.journal;
          words = ap (λ ws. set ws 1 (get_or ws 1 0)) r.words;
          few = omega (arith, length_set s.views id w, r.few);
          within = omega (arith, length_set s.views id w, r.within);
          distinct = each_set (λ i u. IsDistinct eqb (gone_from u)) s.views id w (λ j y _ e. r.distinct j y e) (r.distinct id v at);
          counted = omega arith;
          ranged = λ i u n e h'. each_set (λ i u. HasTicket n u.stage → (r.served ≤ n) × (n < r.drawn)) s.views id w (λ j y _ e' h''. r.ranged j y n e' h'') (λ h''. (omega arith, omega arith)) i u e h';
          apart = λ i j u y n. apart_set n s.views id w (λ i j u y. r.apart i j u y n) (λ j y ne e h' h''. ne (r.apart j id y v n e at h' (subst (λ m. HasTicket m v.stage) (sym h'') mine))) i j u y;
          turn = λ i u n e h'. each_set (λ i u. u.stage ≡ Turn n → n ≡ r.served) s.views id w (λ j y _ e' h''. r.turn j y n e' h'') (λ h''. turn_is t n r.served h'' now) i u e h';
          known = each_set (λ i u. Knows k r.journal i u) s.views id w (λ j y _ e. r.known j y e) (λ _. (g.0, g.1, subst (Begins (journal_of x)) h.0.2 (begins_same (journal_of x)), g.3));
          unmade = λ m le. r.unmade m (omega (arith, length_set s.views id w));
          makers = r.makers;
          splitter = λ i u e. each_set (λ i u. 0 < u.made → (i ≡ 0) × (u.made ≡ length (set s.views id w))) s.views id w (λ j y _ e' h'. let a = r.splitter j y e' h' in (a.0, a.1 ∙ sym (length_set s.views id w))) (λ h'. let a = r.splitter id v at h' in (a.0, a.1 ∙ sym (length_set s.views id w))) i u e;
          idle = each_set (λ i u. u.spent ≡ true → u.stage ≡ Idle) s.views id w (λ j y _ e. r.idle j y e) (λ h'. absurd (true≢false (sym h' ∙ unspent)));
          merged = each_set (λ i u. Remembers r.journal (set s.views id w) u) s.views id w (λ j y _ e. remembers_set r.journal s.views id v w at unspent y (r.merged j y e)) (remembers_set r.journal s.views id v w at unspent w (r.merged id v at));
          place = inr (id, w, set_at s.views id v w at, ap (λ n. Turn n) now, h.0.2, unspent);
        },
        λ u e. let same = same_ticket v u t e waits in (
          (λ _. (x, found_at s r id v x at unspent h.0.2 h.0.3, ap (λ (n : ℕ). (record v { stage = Turn n; seen = journal_of x }, (0, Some x) ∷ me.1)) (sym same))),
          (λ miss. absurd (miss (ap (λ ws. get_or ws 1 0) r.words ∙ ap (λ n. n % wraps) (sym now ∙ sym same)))),
        ),
      ))
      (λ (o : IsOut key_of journal_of r.served r.journal s). let v : View K I = me.0 in
      let same : o.0 ≡ id = r.apart o.0 id o.1 v r.served o.2 at (subst (HasTicket r.served) (sym o.3) refl) (subst (HasTicket r.served) (sym waits) (sym now)) in
      let is : o.1 ≡ v = some-injective o.1 v (sym o.2 ∙ (ap (get_elem? s.views) same ∙ at)) in let e : o.1.stage ≡ v.stage = ap (λ (y : View K I). y.stage) is in
      let e₁ = o.3 in absurd (cc))
      r.place

  pub looks : (slots id : ℕ) (me : Stance V K I) (t : ℕ) → me.0.stage ≡ Waiting t → me.0.spent ≡ false
      → Allows Rule slots id me 1 (λ n. n) (Looks key_of journal_of (step slots 1 0 0 none) me)
  looks slots id me t waits unspent s r long at small =
      let v : View K I = me.0 in
      let found : get_or s.words 1 0 ≡ r.served % wraps = ap (λ ws. get_or ws 1 0) r.words in
      let found_is : get_or s.words 1 0 ≡ t % wraps → t ≡ r.served = λ hit. served_now s r id v t at waits (sym hit ∙ found) in
      dite (ℕ_discrete (get_or s.words 1 0) (t % wraps))
      (λ hit. turn_comes slots id me t waits unspent s r at (found_is hit))
      (λ miss. (v, keeps, tt, unmoved s r id v me.1 at, λ u e. ((λ hit. absurd (miss (hit ∙ ap (λ n. n % wraps) (same_ticket v u t e waits)))), λ _. refl)))

  -- the seat with the turn has seen the whole journal
  seen_all : (s : St) (r : Rule s) (id : ℕ) (v : View K I) (t : ℕ) → get_elem? s.views id ≡ some v → v.stage ≡ Turn t → v.seen ≡ r.journal
  seen_all s r id v t at turn = let now = r.turn id v t at turn in ⊎_elim
      (λ (h : IsHome key_of journal_of k r.journal s). absurd (h.1 id v t at turn))
      (λ (o : IsOut key_of journal_of r.served r.journal s).
      let same : o.0 ≡ id = r.apart o.0 id o.1 v r.served o.2 at (subst (HasTicket r.served) (sym o.3) refl) (subst (HasTicket r.served) (sym turn) (sym now)) in
      let is : o.1 ≡ v = some-injective o.1 v (sym o.2 ∙ (ap (get_elem? s.views) same ∙ at)) in
      ap (λ (y : View K I). y.seen) (sym is) ∙ o.4)
      r.place

  -- no other seat has the ticket that is served
  alone : (s : St) (r : Rule s) (id : ℕ) (v : View K I) (t : ℕ) → get_elem? s.views id ≡ some v → v.stage ≡ Turn t → (j : ℕ) (u : View K I) → j ≢ id → get_elem? s.views j ≡ some u → HasTicket r.served u.stage → ⊥
  alone s r id v t at turn j u ne e h = ne (r.apart j id u v r.served e at h (subst (HasTicket r.served) (sym turn) (sym (r.turn id v t at turn))))

  the_same : (x y : V) → ◌≡◌ {A = List (ℕ × Option V)} ((0, Some x) ∷ []) ((0, Some y) ∷ []) → x ≡ y
  the_same x y e = same_some x y (ap in_slot e)

  pub gives_back : (slots id : ℕ) (me : Stance V K I) (t ticket new : ℕ) (x : V) → slots ≡ 1 → me.0.stage ≡ Turn t → me.0.spent ≡ false → ticket ≡ t % wraps → new ≡ (ticket + 1) % wraps
      → me.1 ≡ (0, Some x) ∷ [] → key_of x ≡ k.key → Extends me.0.number me.0.seen (journal_of x)
      → Allows Rule slots id me 1 (λ _. new) (λ _. Gives journal_of (step slots 1 new 0 none) me new)
  gives_back slots id me t ticket new x one turn unspent tick next holds keyed more s r long at small =
      let v : View K I = me.0 in
      let w : View K I = record v { stage = Idle; seen = journal_of x; own = made_by v.number (journal_of x) } in
      let now : t ≡ r.served = r.turn id v t at turn in
      let g = r.known id v at unspent in
      let whole : v.seen ≡ r.journal = seen_all s r id v t at turn in
      let longer : Extends id r.journal (journal_of x) = subst (λ (z : ℕ × List (I × ℕ)). Extends z.0 z.1 (journal_of x)) (λ i. (g.0 i, whole i)) more in
      let sum = tickets_set s.views id v w at in
      let one_out : out v.stage ≡ 1 = ap out turn in
      let is = r.counted in
      let here = at_below s.views id v at in
      let fits = r.within in
      let below : id < k.seats = omega arith in
      let others : (j : ℕ) (u : View K I) → j ≢ id → get_elem? s.views j ≡ some u → HasTicket r.served u.stage → ⊥ = alone s r id v t at turn in
      let newer : (u : View K I) → Remembers r.journal s.views u → Remembers (journal_of x) s.views u = λ u h j e is. let a = h j e is in
      (a.0, begins_longer e.seen r.journal (journal_of x) a.1 (longer.0, longer.1), a.2 ∙ sym (made_by_longer id e.number r.journal (journal_of x) longer (λ same. unspent_spent v a.0.0 (some-injective v a.0.0 (sym at ∙ (ap (get_elem? s.views) (sym same) ∙ a.0.1))) unspent a.0.2))) in
      let no_turn : (j : ℕ) (u : View K I) (n : ℕ) → j ≢ id → get_elem? s.views j ≡ some u → u.stage ≡ Turn n → ⊥ = λ j u n ne e h. others j u ne e (subst (HasTicket r.served) (sym h) (sym (r.turn j u n e h))) in (
        w,
        gives,
        tt,
        record {
          drawn = r.drawn;
          served = suc r.served;
          journal = journal_of x;
          words = ap (λ ws. set ws 1 new) r.words ∙ ap (λ (n : ℕ). (r.drawn % wraps) ∷ n ∷ []) (omega arith);
          few = omega (arith, length_set s.views id w, r.few);
          within = omega (arith, length_set s.views id w, r.within);
          distinct = each_set (λ i u. IsDistinct eqb (gone_from u)) s.views id w (λ j y _ e. r.distinct j y e) (r.distinct id v at);
          counted = omega arith;
          ranged = λ i u n e h. each_set (λ i u. HasTicket n u.stage → (suc r.served ≤ n) × (n < r.drawn)) s.views id w
              (λ j y ne e' h'. let a = r.ranged j y n e' h' in let b : n ≡ r.served → ⊥ = λ same. others j y ne e' (subst (λ m. HasTicket m y.stage) same h') in (omega arith, a.1)) (λ h'. absurd (h' refl)) i u e h;
          apart = λ i j u y n. apart_set n s.views id w (λ i j u y. r.apart i j u y n) (λ j y _ e h h'. h' refl) i j u y;
          turn = λ i u n e h. each_set (λ i u. u.stage ≡ Turn n → n ≡ suc r.served) s.views id w (λ j y ne e' h'. absurd (no_turn j y n ne e' h')) (λ h'. absurd (cc)) i u e h;
          known = each_set (λ i u. Knows k (journal_of x) i u) s.views id w
              (λ j y ne e sp. let a = r.known j y e sp in (a.0, a.1, begins_longer y.seen r.journal (journal_of x) a.2 (longer.0, longer.1), a.3 ∙ sym (made_by_longer id j r.journal (journal_of x) longer ne)))
              (λ _. (g.0, g.1, begins_same (journal_of x), ap (λ n. made_by n (journal_of x)) g.0));
          unmade = λ m le lt. made_by_longer id m r.journal (journal_of x) longer (λ e. absurd (omega (arith, length_set s.views id w))) ∙ r.unmade m (omega (arith, length_set s.views id w)) lt;
          makers = grown_more k.seats id k.opening r.journal (journal_of x) below r.makers longer;
          splitter = λ i u e. each_set (λ i u. 0 < u.made → (i ≡ 0) × (u.made ≡ length (set s.views id w))) s.views id w (λ j y _ e' h'. let a = r.splitter j y e' h' in (a.0, a.1 ∙ sym (length_set s.views id w))) (λ h'. let a = r.splitter id v at h' in (a.0, a.1 ∙ sym (length_set s.views id w))) i u e;
          idle = each_set (λ i u. u.spent ≡ true → u.stage ≡ Idle) s.views id w (λ j y _ e. r.idle j y e) (λ h'. absurd (true≢false (sym h' ∙ unspent)));
          merged = each_set (λ i u. Remembers (journal_of x) (set s.views id w) u) s.views id w (λ j y _ e. remembers_set (journal_of x) s.views id v w at unspent y (newer y (r.merged j y e))) (remembers_set (journal_of x) s.views id v w at unspent w (newer w (r.merged id v at)));
          place = inl ((x, ap (put_back s.homes) holds ∙ one_set s.homes (some (Some x)) (long ∙ one), refl, keyed), λ i u n e. each_set (λ i u. u.stage ≢ Turn n) s.views id w (λ j y ne e'. no_turn j y n ne e') (λ h. absurd (cc)) i u e);
        },
        λ y e. let same : x ≡ y = the_same x y (sym holds ∙ e) in
            λ i. (record v { stage = Idle; seen = journal_of (same i); own = made_by v.number (journal_of (same i)) }, ap rest e i),
      )

  pub gives_back_at : (slots id : ℕ) (me : Stance V K I) (v : View K I) (t ticket new : ℕ) (x : V) → me ≡ (v, (0, Some x) ∷ []) → slots ≡ 1 → v.stage ≡ Turn t → v.spent ≡ false → ticket ≡ t % wraps → new ≡ (ticket + 1) % wraps
      → key_of x ≡ k.key → Extends v.number v.seen (journal_of x)
      → Allows Rule slots id me 1 (λ _. new) (λ _. Gives journal_of (step slots 1 new 0 none) me new)
  gives_back_at slots id me v t ticket new x is one turn unspent tick next keyed more = subst (λ (m : Stance V K I). Allows Rule slots id m 1 (λ _. new) (λ _. Gives journal_of (step slots 1 new 0 none) m new)) (sym is)
      (gives_back slots id (v, (0, Some x) ∷ []) t ticket new x one turn unspent tick next refl keyed more)
