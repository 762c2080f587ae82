-- A new lock, and the seats that are split off and joined.
use Rattle.std.proofs.Common.{◌≡◌, ◌≢◌, ℕ, zero, suc, ◌<◌, ◌≤◌, List, [], ◌∷◌, ◌++◌, length, set, Option, Some, true, false, eqb, true≢false, refl, sym, ap, ◌∙◌, subst, inl, inr, ⊎_elim, arith, length-append}
use Rattle.std.proofs.lemmas.List.{length-map}
use mathlib.Core.Option.{some, some-injective, some-ne-none}
use lib.ListN.{get_elem?}
use Rattle.std.specs.List.{All, IsDistinct}
use Rattle.uc_lock.proofs.Numbers.{distinct_none, distinct_cons, crowd, at_unmapped}
use Rattle.atomic_table.specs.Table.{State, opening, Splits, Joins, Final, Seen}
use Rattle.atomic_table.proofs.Lists.{set_else, at_longer}
use Rattle.uc_lock.specs.declared.view.View.{View}
use Rattle.uc_lock.specs.declared.view.Stage.TheVariants.{Idle, Turn}
use Rattle.uc_lock.specs.declared.view.Terms.{Terms}
use Rattle.uc_lock.specs.declared.view.Joined.{Joined}
use Rattle.uc_lock.specs.Journals.{Begins, made_by}
use Rattle.uc_lock.specs.Rule.{out, HasTicket, Knows, Remembers, kept_of, opened, nobody, kept_part, new_part, joined_with, IsHome, IsOut, Kept, gone_from, HasAll, Ends}
use Rattle.uc_lock.proofs.Views.{begins_same, made_by_below, grown_none, set_at, at_below, each_set, each_snoc, apart_set, apart_snoc, tickets_set, tickets_snoc, remembers_set}
use Rattle.uc_lock.proofs.Moves.{length_set, Rule, no_ticket, unspent_spent, clashes, found_at}

module _ {V K I : Type 0} (key_of : V → K) (journal_of : V → List (I × ℕ)) where
  one_view : (P : ℕ → View K I → Type 0) (a : View K I) → P 0 a → (i : ℕ) (v : View K I) → get_elem? (a ∷ []) i ≡ some v → P i v
  one_view P a p zero v e = subst (P 0) (some-injective a v e) p
  one_view P a p (suc i) v e = absurd (some-ne-none v (sym e))

  -- the terms of a lock that is made round x
  abbrev pub terms_of : ℕ → V → Terms K I
  terms_of seats x = record { key = key_of x; seats = seats; opening = journal_of x }

  pub opens : (seats : ℕ) (x : V) → All (λ e. seats ≤ e.1) (journal_of x) → 0 < seats → Kept key_of journal_of (terms_of seats x) (opening (0 ∷ 0 ∷ []) (Some x ∷ []) (opened (terms_of seats x)))
  opens seats x foreign some_seat = let k : Terms K I = terms_of seats x in let v : View K I = opened k in let journal = journal_of x in record {
    drawn = 0;
    served = 0;
    journal = journal;
    words = refl;
    few = omega arith;
    within = omega arith;
    counted = refl;
    ranged = λ i u t e h. one_view (λ i u. HasTicket t u.stage → (0 ≤ t) × (t < 0)) v (λ h. absurd (h refl)) i u e h;
    apart = λ i j u w t e e' h h'. one_view (λ i u. HasTicket t u.stage → i ≡ j) v (λ h. absurd (h refl)) i u e h;
    turn = λ i u t e h. one_view (λ i u. u.stage ≡ Turn t → t ≡ 0) v (λ h. absurd (cc)) i u e h;
    known = one_view (λ i u. Knows k journal i u) v (λ _. (refl, refl, begins_same journal, sym (made_by_below seats 0 journal foreign some_seat)));
    unmade = λ m _ lt. made_by_below seats m journal foreign lt;
    makers = grown_none seats journal;
    splitter = one_view (λ i u. 0 < u.made → (i ≡ 0) × (u.made ≡ 1)) v (λ _. (refl, refl));
    idle = one_view (λ i u. u.spent ≡ true → u.stage ≡ Idle) v (λ _. refl);
    merged = one_view (λ i u. Remembers journal (v ∷ []) u) v (λ j e h. absurd (some-ne-none e (sym h)));
    distinct = one_view (λ i u. IsDistinct eqb (gone_from u)) v distinct_none;
    place = inl ((x, refl, refl, refl), λ i u t e. one_view (λ i u. u.stage ≢ Turn t) v (λ h. absurd (cc)) i u e);
  }

module _ {V K I : Type 0} (key_of : V → K) (journal_of : V → List (I × ℕ)) (k : Terms K I) where
  abbrev R : State (Option V) (View K I) → Type 0
  R = Rule key_of journal_of k

  pub splits : (id : ℕ) (v : View K I) → v.stage ≡ Idle → v.spent ≡ false → 0 < v.made → v.made < k.seats → k.seats ≤ 64 → Splits R id v (kept_part v) (new_part v)
  splits id v idle unspent made more most s r at =
      let w : View K I = kept_part v in
      let a : View K I = new_part v in
      let l : List (View K I) = set s.views id w in
      let c = r.splitter id v at made in
      let g = r.known id v at unspent in
      let wide : length l ≡ length s.views = length_set s.views id w in
      let more_wide : length (l ++ a ∷ []) ≡ suc (length s.views) = omega (arith, length-append l (a ∷ [])) in
      let sum = tickets_set s.views id v w at in
      let sum' = tickets_snoc l a in
      let is = r.counted in
      let keeps_on : (u : View K I) → Remembers r.journal s.views u → Remembers r.journal (l ++ a ∷ []) u = λ u h j e e'. let x = remembers_set r.journal s.views id v w at unspent u h j e e' in ((x.0.0, at_longer l (a ∷ []) e.number x.0.0 x.0.1, x.0.2), x.1, x.2) in
      record {
        drawn = r.drawn;
        served = r.served;
        journal = r.journal;
        words = r.words;
        few = omega arith;
        within = omega arith;
        distinct = each_snoc (λ i u. IsDistinct eqb (gone_from u)) l a (each_set (λ i u. IsDistinct eqb (gone_from u)) s.views id w (λ j y _ e. r.distinct j y e) (r.distinct id v at)) distinct_none;
        counted = omega arith;
        ranged = λ i u t e h. each_snoc (λ i u. HasTicket t u.stage → (r.served ≤ t) × (t < r.drawn)) l a
            (each_set (λ i u. HasTicket t u.stage → (r.served ≤ t) × (t < r.drawn)) s.views id w (λ j y _ e' h'. r.ranged j y t e' h') (λ h'. r.ranged id v t at h')) (λ h'. absurd (h' refl)) i u e h;
        apart = λ i j u y t. apart_snoc t l a (apart_set t s.views id w (λ i j u y. r.apart i j u y t) (λ j y _ e h h'. no_ticket key_of journal_of k v t idle h')) (λ h'. h' refl) i j u y;
        turn = λ i u t e h. each_snoc (λ i u. u.stage ≡ Turn t → t ≡ r.served) l a
            (each_set (λ i u. u.stage ≡ Turn t → t ≡ r.served) s.views id w (λ j y _ e' h'. r.turn j y t e' h') (λ h'. r.turn id v t at h')) (λ h'. absurd (cc)) i u e h;
        known = each_snoc (λ i u. Knows k r.journal i u) l a (each_set (λ i u. Knows k r.journal i u) s.views id w (λ j y _ e. r.known j y e) (r.known id v at))
            (λ _. (c.1 ∙ sym wide, g.1, g.2, sym (r.unmade (length l) (omega arith) (omega arith))));
        unmade = λ m le lt. r.unmade m (omega arith) lt;
        makers = r.makers;
        splitter = λ i u e h. each_snoc (λ i u. 0 < u.made → (i ≡ 0) × (u.made ≡ length (l ++ a ∷ []))) l a
            (each_set (λ i u. 0 < u.made → (i ≡ 0) × (u.made ≡ length (l ++ a ∷ []))) s.views id w (λ j y ne e' h'. absurd (ne ((r.splitter j y e' h').0 ∙ sym c.0))) (λ _. (c.0, ap suc c.1 ∙ sym more_wide))) (λ h'. absurd (omega arith)) i u e h;
        idle = each_snoc (λ i u. u.spent ≡ true → u.stage ≡ Idle) l a (each_set (λ i u. u.spent ≡ true → u.stage ≡ Idle) s.views id w (λ j y _ e. r.idle j y e) (r.idle id v at)) (λ _. refl);
        merged = each_snoc (λ i u. Remembers r.journal (l ++ a ∷ []) u) l a
            (each_set (λ i u. Remembers r.journal (l ++ a ∷ []) u) s.views id w (λ j y _ e. keeps_on y (r.merged j y e)) (keeps_on w (r.merged id v at)))
            (λ j e h. absurd (some-ne-none e (sym h)));
        place = ⊎_elim
            (λ (h : IsHome key_of journal_of k r.journal s). inl (
              h.0,
              λ i u t e. each_snoc (λ i u. u.stage ≢ Turn t) l a
                  (each_set (λ i u. u.stage ≢ Turn t) s.views id w (λ j x _ e'. h.1 j x t e') (λ h'. h.1 id v t at h')) (λ h'. absurd (cc)) i u e,
            ))
            (λ (o : IsOut key_of journal_of r.served r.journal s). inr (o.0, o.1, at_longer l (a ∷ []) o.0 o.1 (set_else s.views id o.0 w (λ same. absurd (clashes key_of journal_of k s.views id o.0 v o.1 r.served at o.2 same idle o.3)) ∙ o.2), o.3, o.4, o.5))
            r.place;
      }

  -- what holds of the two that are joined, and of each other, holds of all
  each_two : (P : ℕ → View K I → Type 0) (l : List (View K I)) (id other : ℕ) (b n : View K I) → ((j : ℕ) (u : View K I) → j ≢ id → j ≢ other → get_elem? l j ≡ some u → P j u) → P id b → P other n → (j : ℕ) (u : View K I) → get_elem? (set (set l id b) other n) j ≡ some u → P j u
  each_two P l id other b n others mine gone = each_set P (set l id b) other n
      (λ j u ne e. each_set (λ j u. j ≢ other → P j u) l id b (λ j y ne' e' ne. others j y ne' ne e') (λ _. mine) j u e ne) gone

  pub joins : (id : ℕ) (v : View K I) (other : ℕ) (w : View K I) → v.stage ≡ Idle → v.spent ≡ false → w.stage ≡ Idle → w.spent ≡ false → Joins R id v other w (joined_with v w) nobody
  joins id v other w idle unspent idle' unspent' s r at apart at' =
      let b : View K I = joined_with v w in
      let n : View K I = nobody in
      let l : List (View K I) = set s.views id b in
      let m : List (View K I) = set l other n in
      let there : get_elem? s.views other ≡ some w = sym (set_else s.views id other b apart) ∙ at' in
      let wide : length m ≡ length s.views = length_set l other n ∙ length_set s.views id b in
      let sum = tickets_set s.views id v b at in
      let sum' = tickets_set l other w n at' in
      let none_out : out w.stage ≡ 0 = ap out idle' in
      let is = r.counted in
      let keeps_on : (u : View K I) → Remembers r.journal s.views u → Remembers r.journal m u = λ u h. remembers_set r.journal l other w n at' unspent' u (remembers_set r.journal s.views id v b at unspent u h) in
      let g = r.known other w there unspent' in
      record {
        drawn = r.drawn;
        served = r.served;
        journal = r.journal;
        words = r.words;
        few = omega (arith, r.few);
        within = omega (arith, r.within);
        distinct = each_two (λ i u. IsDistinct eqb (gone_from u)) s.views id other b n (λ j y _ _ e. r.distinct j y e)
            (distinct_cons w.number (gone_from v) (λ j y e same. let a = at_unmapped (λ (e : Joined I). e.number) v.joined j y e in let c = (r.merged id v at j a.0 a.1).0 in
            unspent_spent key_of journal_of k w c.0 (some-injective w c.0 (sym there ∙ (ap (get_elem? s.views) (sym g.0 ∙ (sym same ∙ sym a.2)) ∙ c.1))) unspent' c.2) (r.distinct id v at)) distinct_none;
        counted = omega arith;
        ranged = λ i u t e h. each_two (λ i u. HasTicket t u.stage → (r.served ≤ t) × (t < r.drawn)) s.views id other b n (λ j y _ _ e' h'. r.ranged j y t e' h') (λ h'. r.ranged id v t at h') (λ h'. absurd (h' refl)) i u e h;
        apart = λ i j u y t. apart_set t l other n (apart_set t s.views id b (λ i j u y. r.apart i j u y t) (λ j y _ e h h'. no_ticket key_of journal_of k v t idle h')) (λ j y _ e h h'. h' refl) i j u y;
        turn = λ i u t e h. each_two (λ i u. u.stage ≡ Turn t → t ≡ r.served) s.views id other b n (λ j y _ _ e' h'. r.turn j y t e' h') (λ h'. r.turn id v t at h') (λ h'. absurd (cc)) i u e h;
        known = each_two (λ i u. Knows k r.journal i u) s.views id other b n (λ j y _ _ e. r.known j y e) (r.known id v at) (λ sp. absurd (true≢false sp));
        unmade = λ i le lt. r.unmade i (omega arith) lt;
        makers = r.makers;
        splitter = each_two (λ i u. 0 < u.made → (i ≡ 0) × (u.made ≡ length m)) s.views id other b n (λ j y _ _ e h. let a = r.splitter j y e h in (a.0, a.1 ∙ sym wide)) (λ h. let a = r.splitter id v at h in (a.0, a.1 ∙ sym wide)) (λ h. absurd (omega arith));
        idle = each_two (λ i u. u.spent ≡ true → u.stage ≡ Idle) s.views id other b n (λ j y _ _ e. r.idle j y e) (r.idle id v at) (λ _. refl);
        merged = each_two (λ i u. Remembers r.journal m u) s.views id other b n (λ j y _ _ e. keeps_on y (r.merged j y e))
            (with_entry r.journal m v w (keeps_on v (r.merged id v at)) (n, ap (get_elem? m) g.0 ∙ set_at l other w n at', refl) g.2 (g.3 ∙ ap (λ i. made_by i r.journal) (sym g.0)))
            (λ j e h. absurd (some-ne-none e (sym h)));
        place = ⊎_elim
            (λ (h : IsHome key_of journal_of k r.journal s). inl (h.0, λ i u t e. each_two (λ i u. u.stage ≢ Turn t) s.views id other b n (λ j x _ _ e'. h.1 j x t e') (λ h'. h.1 id v t at h') (λ h'. absurd (cc)) i u e))
            (λ (o : IsOut key_of journal_of r.served r.journal s). inr (
              o.0,
              o.1,
              set_else l other o.0 n (λ same. absurd (clashes key_of journal_of k s.views other o.0 w o.1 r.served there o.2 same idle' o.3))
                  ∙ (set_else s.views id o.0 b (λ same. absurd (clashes key_of journal_of k s.views id o.0 v o.1 r.served at o.2 same idle o.3)) ∙ o.2),
              o.3,
              o.4,
              o.5,
            ))
            r.place;
      }
    where
      with_entry : (journal : List (I × ℕ)) (views : List (View K I)) (v w : View K I) → Remembers journal views v → ((u : View K I) × (get_elem? views w.number ≡ some u) × (u.spent ≡ true)) → Begins w.seen journal → w.own ≡ made_by w.number journal → Remembers journal views (joined_with v w)
      with_entry journal views v w h u b o zero e is = subst (λ (e : Joined I). ((u : View K I) × (get_elem? views e.number ≡ some u) × (u.spent ≡ true)) × Begins e.seen journal × (e.own ≡ made_by e.number journal)) (some-injective (kept_of w) e is) (u, b, o)
      with_entry journal views v w h u b o (suc j) e is = h j e is

  -- once all seats are joined the value is at home
  pub ends : (s : State (Option V) (View K I)) (r : R s) (id : ℕ) (v : View K I) → get_elem? s.views id ≡ some v → v.stage ≡ Idle → v.spent ≡ false → HasAll k.seats v → (x : V) × (s.homes ≡ some (Some x) ∷ []) × Ends key_of journal_of v x
  ends s r id v at idle unspent all = ⊎_elim
      (λ (h : IsHome key_of journal_of k r.journal s). let x : V = h.0.0 in (
        x,
        h.0.1,
        (
          found_at key_of journal_of k s r id v x at unspent h.0.2 h.0.3,
          λ j e is. let a = r.merged id v at j e is in ((a.1.0, h.0.2 ∙ a.1.1), ap (made_by e.number) h.0.2 ∙ sym a.2),
        ),
      ))
      (λ (o : IsOut key_of journal_of r.served r.journal s). let g = r.known id v at unspent in let here = at_below s.views o.0 o.1 o.2 in let here' = at_below s.views id v at in let wide = r.within in
      let ids = gone_from v in
      let spent : (j y : ℕ) → get_elem? ids j ≡ some y → (u : View K I) × (get_elem? s.views y ≡ some u) × (u.spent ≡ true) = λ j y e. let a = at_unmapped (λ (e : Joined I). e.number) v.joined j y e in let c = (r.merged id v at j a.0 a.1).0 in (c.0, ap (get_elem? s.views) (sym a.2) ∙ c.1, c.2) in
      let not_gone : (i : ℕ) (u : View K I) → get_elem? s.views i ≡ some u → u.spent ≡ false → (j y : ℕ) → get_elem? ids j ≡ some y → y ≢ i = λ i u e free j y e' same. let c = spent j y e' in
      unspent_spent key_of journal_of k u c.0 (some-injective u c.0 (sym e ∙ (ap (get_elem? s.views) (sym same) ∙ c.1))) free c.2 in
      let apart : id ≢ o.0 = λ same. clashes key_of journal_of k s.views id o.0 v o.1 r.served at o.2 (sym same) idle o.3 in
      let most = crowd (o.0 ∷ id ∷ ids) k.seats
      (distinct_cons o.0 (id ∷ ids) (λ j. two id ids o.0 apart (not_gone o.0 o.1 o.2 o.5) j) (distinct_cons id ids (not_gone id v at unspent) (r.distinct id v at)))
      (below o.0 id ids k.seats (omega arith) (omega arith) (λ j y e. let c = spent j y e in let d = at_below s.views y c.0 c.1 in omega arith)) in
      let many : length ids ≡ length v.joined = length-map v.joined (λ (e : Joined I). e.number) in
      absurd (omega arith))
      r.place
    where
      two : (x : ℕ) (xs : List ℕ) (z : ℕ) → x ≢ z → ((j y : ℕ) → get_elem? xs j ≡ some y → y ≢ z) → (j y : ℕ) → get_elem? (x ∷ xs) j ≡ some y → y ≢ z
      two x xs z ne h zero y e = λ same. ne (some-injective x y e ∙ same)
      two x xs z ne h (suc j) y e = h j y e

      below : (a b : ℕ) (xs : List ℕ) (n : ℕ) → a < n → b < n → ((j y : ℕ) → get_elem? xs j ≡ some y → y < n) → (j y : ℕ) → get_elem? (a ∷ b ∷ xs) j ≡ some y → y < n
      below a b xs n p q h zero y e = subst (λ z. z < n) (some-injective a y e) p
      below a b xs n p q h (suc zero) y e = subst (λ z. z < n) (some-injective b y e) q
      below a b xs n p q h (suc (suc j)) y e = h j y e

  pub last_value : (ws : List ℕ) (xs : List (Option V)) (id : ℕ) (v : View K I) (y : Option V) → Final (Seen R id v) ws xs → get_elem? xs 0 ≡ some y → v.stage ≡ Idle → v.spent ≡ false → HasAll k.seats v → (x : V) × (y ≡ Some x) × Ends key_of journal_of v x
  last_value ws xs id v y f is idle unspent all = let e = ends f.0 f.1.0 id v f.1.1 idle unspent all in
      (e.0, some-injective y (Some e.0) (sym is ∙ f.4 0 (Some e.0) (ap (λ hs. get_elem? hs 0) e.1)), e.2)
