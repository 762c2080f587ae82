-- The objects that are made and not gone are those below the count that are not gone.
use Rattle.std.proofs.Common.{◌≡◌, ◌⊎◌, inl, inr, ℕ, ◌==◌, ◌+◌, ◌<◌, ◌≤◌, ◌&&◌, ◌||◌, Bool, true, false, not, List, [], ◌∷◌, ◌++◌, refl, sym, ap, ◌∙◌, subst, arith, append-nil, append_assoc, ⊎_elim}
use Rattle.std.specs.Option.{option_to_list}
use Rattle.std.specs.List.{filter}
use Rattle.std.proofs.lemmas.Bool.{eqb-true, eq-eqb, cases_lt}
use Rattle.std.proofs.lemmas.List.Folds.{list_any-append}
use Rattle.uc_tree.specs.Programs.{Site}
use Rattle.uc_entry.specs.declared.entry.Entry.{Entry}
use Rattle.uc_entry.specs.declared.entry.EntryKind.{EntryKind}
use Rattle.uc_entry.specs.declared.entry.EntryKind.TheVariants as kind
use Rattle.uc_entry.specs.declared.entry.Options.{Options}
use Rattle.uc_acts.specs.Journal.{Journal, begin, inside}
use Rattle.uc_acts.specs.Known.{has, object_count, is_make, is_gone, is_gone_by, made, makes_object, takes_object}
use Rattle.uc_acts.specs.Sound.{Sound}
use Rattle.uc_acts.specs.Legal.{Legal, IsNext}
use Rattle.uc_acts.specs.Acts.{act, dispatch, lone_limit}
use Rattle.uc_acts.specs.KernelRuns.{KernelMay, KernelRuns, gives, no_room, acts, begun, more}
use Rattle.uc_acts.specs.Laws.{LawMade}
use Rattle.uc_acts.proofs.OpenLemmas.{still_open_push, still_open_silent}
use Rattle.uc_acts.proofs.SoundLemmas.{plus, objects_push}
use Rattle.uc_acts.proofs.Rows.{Lawful}
use Rattle.uc_acts.proofs.Law.{good_whole, lawful_act}
use Rattle.uc_acts.proofs.Given.{made_given}
use Rattle.uc_acts.proofs.Held.{law_held}
use Rattle.uc_acts.proofs.Acting.{AllBy, is_giving, by_act, object_of, destroys}
use Rattle.uc_acts.proofs.Living.{gone_same, gone_other, gone_still, nothing_gone, lived_run}

no_both : (b : Bool) → b ≡ true → b ≡ false → ⊥
no_both b t f = cc

pub record Counted (j : Journal) : Type 0 where
  pub gone : (o : ℕ) → is_gone o j ≡ true → o < object_count j
  pub made_of : (o : ℕ) → o < object_count j → is_gone o j ≡ false → has (made j) o ≡ true
  pub of_made : (o : ℕ) → has (made j) o ≡ true → (o < object_count j) × (is_gone o j ≡ false)

has_append : (xs ys : List ℕ) (n : ℕ) → has (xs ++ ys) n ≡ (has xs n || has ys n)
has_append xs ys n = list_any-append (λ x. x == n) xs ys

pub has_filter : (p : ℕ → Bool) (xs : List ℕ) (n : ℕ) → has (filter (λ x. not (p x)) xs) n ≡ (has xs n && not (p n))
has_filter p [] n = refl
has_filter p (x ∷ xs) n = by (p x) (x == n) refl refl (has_filter p xs n)
  where
    by : (b c : Bool) → p x ≡ b → (x == n) ≡ c → has (filter (λ x. not (p x)) xs) n ≡ (has xs n && not (p n)) → has (filter (λ x. not (p x)) (x ∷ xs)) n ≡ (has (x ∷ xs) n && not (p n))
    by true false g h ih = simp (g, h, ih)
    by false false g h ih = simp (g, h, ih)
    by true true g h ih =
        let same : p n ≡ true = ap p (sym (eqb-true x n h)) ∙ g in simp (g, h, ih, same, and_false (has xs n))
      where
        and_false : (b : Bool) → (b && false) ≡ false
        and_false true = refl
        and_false false = refl
    by false true g h ih = let same : p n ≡ false = ap p (sym (eqb-true x n h)) ∙ g in simp (g, h, same)

pub made_push : (j : Journal) (e : Entry) (o : ℕ) → has (made (j ++ e ∷ [])) o ≡ ((has (made j) o && not (takes_object e.kind e o)) || has (option_to_list (makes_object e.kind e)) o)
unfolding made
made_push j e o =
    ap (λ l. has l o) (still_open_push (λ e. makes_object e.kind e) (λ e. takes_object e.kind e) j e) ∙ has_append (filter (λ a. not (takes_object e.kind e a)) (made j)) (option_to_list (makes_object e.kind e)) o ∙ ap (λ b. b || has (option_to_list (makes_object e.kind e)) o) (has_filter (takes_object e.kind e) (made j) o)

flipped : (a b : ℕ) → (a == b) ≡ (b == a)
flipped a b = by (a == b) (b == a) refl refl
  where
    by : (c d : Bool) → (a == b) ≡ c → (b == a) ≡ d → (a == b) ≡ (b == a)
    by true d g h = g ∙ sym (eq-eqb b a (sym (eqb-true a b g)))
    by false true g h = absurd (no_both (a == b) (eq-eqb a b (sym (eqb-true b a h))) g)
    by false false g h = g ∙ sym h

-- whether an entry takes o out
pub gone_push : (o : ℕ) (j : Journal) (e : Entry) → is_gone o (j ++ e ∷ []) ≡ (is_gone o j || takes_object e.kind e o)
gone_push o j e = by (e.object == o) refl (is_gone_by e.kind) refl
  where
    or_false : (b : Bool) → (b || false) ≡ b
    or_false true = refl
    or_false false = refl

    takes : (k : EntryKind) → takes_object k e o ≡ (is_gone_by k && (o == e.object))
    takes kind.Gone = refl
    takes k = refl

    and_false : (b : Bool) → (b && false) ≡ false
    and_false true = refl
    and_false false = refl

    by : (b : Bool) → (e.object == o) ≡ b → (c : Bool) → is_gone_by e.kind ≡ c → is_gone o (j ++ e ∷ []) ≡ (is_gone o j || takes_object e.kind e o)
    by true h c g =
        let f : takes_object e.kind e o ≡ is_gone_by e.kind = takes e.kind ∙ ap (λ b. is_gone_by e.kind && b) (flipped o e.object ∙ h) ∙ and_true (is_gone_by e.kind) in
        gone_same o j e h ∙ ap (λ b. is_gone o j || b) (sym f)
      where
        and_true : (b : Bool) → (b && true) ≡ b
        and_true true = refl
        and_true false = refl
    by false h c g =
        let f : takes_object e.kind e o ≡ false = takes e.kind ∙ ap (λ b. is_gone_by e.kind && b) (flipped o e.object ∙ h) ∙ and_false (is_gone_by e.kind) in
        gone_other o j e h ∙ sym (ap (λ b. is_gone o j || b) f ∙ or_false (is_gone o j))

or_cases : (a b : Bool) → (a || b) ≡ true → (a ≡ true) ⊎ (b ≡ true)
or_cases true b h = inl refl
or_cases false b h = inr h

or_none : (a b : Bool) → (a || b) ≡ false → (a ≡ false) × (b ≡ false)
or_none true b h = cc
or_none false b h = (refl, h)

and_cases : (a b : Bool) → (a && not b) ≡ true → (a ≡ true) × (b ≡ false)
and_cases true false h = (refl, refl)
and_cases true true h = cc
and_cases false b h = cc

or_last : (a b : Bool) → b ≡ true → (a || b) ≡ true
or_last true b h = refl
or_last false b h = h

module _ (e : Entry) (j : Journal) (l : Legal e j) (c : Counted j) where
  gone_counted : (o : ℕ) → is_gone o (j ++ e ∷ []) ≡ true → o < object_count (j ++ e ∷ [])
  gone_counted o h = by (e.object == o) refl
    where
      by : (b : Bool) → (e.object == o) ≡ b → o < object_count (j ++ e ∷ [])
      by true g = let same : e.object ≡ o = eqb-true e.object o g in let lt = l.made in omega (arith, same, lt)
      by false g =
          let lt = c.gone o (sym (gone_other o j e g) ∙ h) in let grows = objects_push j e in omega (arith, lt, grows)

  kept : (o : ℕ) → has (made j) o ≡ true → takes_object e.kind e o ≡ false → has (made (j ++ e ∷ [])) o ≡ true
  kept o m n = made_push j e o ∙ simp (m, n)

  entered : (o : ℕ) → has (option_to_list (makes_object e.kind e)) o ≡ true → has (made (j ++ e ∷ [])) o ≡ true
  entered o m = made_push j e o ∙ or_last (has (made j) o && not (takes_object e.kind e o)) (has (option_to_list (makes_object e.kind e)) o) m

  made_of : (o : ℕ) → o < object_count (j ++ e ∷ []) → is_gone o (j ++ e ∷ []) ≡ false → has (made (j ++ e ∷ [])) o ≡ true
  made_of o lt g =
      let parts = or_none (is_gone o j) (takes_object e.kind e o) (sym (gone_push o j e) ∙ g) in
      ⊎_elim (λ lt. kept o (c.made_of o lt parts.0) parts.1) (λ le. entered o (new e.kind l.next (objects_push j e) le)) (cases_lt o (object_count j))
    where
      new : (k : EntryKind) → IsNext k e j → object_count (j ++ e ∷ []) ≡ object_count j + plus (is_make k) → object_count j ≤ o → has (option_to_list (makes_object k e)) o ≡ true
      new kind.Make n grows le = let same : e.object ≡ o = omega (arith, n, grows, le, lt) in let h = eq-eqb e.object o same in simp h
      new k n grows le = absurd (omega (arith, grows, le, lt))

  of_made : is_giving e.kind ≡ false → (o : ℕ) → has (made (j ++ e ∷ [])) o ≡ true → (o < object_count (j ++ e ∷ [])) × (is_gone o (j ++ e ∷ []) ≡ false)
  of_made giving o h =
      ⊎_elim (λ h. old (and_cases (has (made j) o) (takes_object e.kind e o) h)) (λ h. new e.kind refl l.next (objects_push j e) giving h) (or_cases (has (made j) o && not (takes_object e.kind e o)) (has (option_to_list (makes_object e.kind e)) o) (sym (made_push j e o) ∙ h))
    where
      old : (has (made j) o ≡ true) × (takes_object e.kind e o ≡ false) → (o < object_count (j ++ e ∷ [])) × (is_gone o (j ++ e ∷ []) ≡ false)
      old h =
          let m = c.of_made o h.0 in
          let lt = m.0 in
          let grows = objects_push j e in
          (omega (arith, lt, grows), gone_push o j e ∙ ap (λ b. b || takes_object e.kind e o) m.1 ∙ h.1)

      not_gone : (b : Bool) → is_gone o j ≡ b → object_count j ≤ o → is_gone o j ≡ false
      not_gone false g le = g
      not_gone true g le = let lt = c.gone o g in absurd (omega arith)

      first : (b : Bool) → (b || false) ≡ true → b ≡ true
      first true h = refl
      first false h = h

      new : (k : EntryKind) → e.kind ≡ k → IsNext k e j → object_count (j ++ e ∷ []) ≡ object_count j + plus (is_make k) → is_giving k ≡ false → has (option_to_list (makes_object k e)) o ≡ true → (o < object_count (j ++ e ∷ [])) × (is_gone o (j ++ e ∷ []) ≡ false)
      new kind.Begin f n grows giving h = cc
      new kind.Make f n grows giving h =
          let same : e.object ≡ o = eqb-true e.object o (first (e.object == o) h) in
          (omega (arith, n, grows, same), gone_still o j e (ap is_gone_by f) ∙ not_gone (is_gone o j) refl (omega (arith, n, same)))
      new k f n grows giving h = cc

  counted_step : is_giving e.kind ≡ false → Counted (j ++ e ∷ [])
  counted_step giving = record { gone = gone_counted; made_of = made_of; of_made = of_made giving }

counted_all : (p t o : ℕ) (A : Type 0) (g : Bool) (j : Journal) (a : List Entry) → Lawful j a → AllBy p t o A g a → Counted j → Counted (j ++ a)
counted_all p t o A g j [] l b c = subst Counted (sym (append-nil j)) c
counted_all p t o A g j (e ∷ a) l b c =
    subst Counted (append_assoc j (e ∷ []) a) (counted_all p t o A g (j ++ e ∷ []) a l.1 b.1 (counted_step e j l.0 c b.0.acts))

-- the same journal of objects
counted_same : (j : Journal) (e : Entry) → object_count (j ++ e ∷ []) ≡ object_count j → ((o : ℕ) → is_gone o (j ++ e ∷ []) ≡ is_gone o j) → made (j ++ e ∷ []) ≡ made j → Counted j → Counted (j ++ e ∷ [])
counted_same j e n g m c = record {
  gone = λ o h. let lt = c.gone o (sym (g o) ∙ h) in omega (arith, lt, n);
  made_of = λ o lt h. ap (λ l. has l o) m ∙ c.made_of o (omega (arith, lt, n)) (sym (g o) ∙ h);
  of_made = λ o h.
      let x = c.of_made o (ap (λ l. has l o) (sym m) ∙ h) in let lt = x.0 in (omega (arith, lt, n), g o ∙ x.1);
}

counted_begin : (opts : Options) → Counted (begin opts ∷ [])
unfolding object_count made
counted_begin opts =
    let g = λ (o : ℕ). gone_still o [] (begin opts) refl ∙ nothing_gone o in
    record {
      gone = λ o h. absurd (no_both (is_gone o (begin opts ∷ [])) h (g o));
      made_of = λ o lt h. let same : 0 ≡ o = omega (arith, lt) in let f = eq-eqb 0 o same in simp f;
      of_made = λ o h. let same : 0 ≡ o = eqb-true 0 o (first (0 == o) h) in (omega (arith, same), g o);
    }
  where
    first : (b : Bool) → (b || false) ≡ true → b ≡ true
    first true h = refl
    first false h = h

more_none : (j : Journal) (e : Entry) → is_make e.kind ≡ false → object_count (j ++ e ∷ []) ≡ object_count j
more_none j e h = let n = objects_push j e in let m : plus (is_make e.kind) ≡ 0 = ap plus h in omega (arith, n, m)

made_limit : (j : Journal) → made (j ++ lone_limit ∷ []) ≡ made j
unfolding made
made_limit j =
    still_open_silent (λ e. makes_object e.kind e) (λ e. takes_object e.kind e) j lone_limit refl (λ o. refl)

counted_may : (opts : Options) (sites : List Site) (input : List ℕ) (j : Journal) (a : List Entry) → Sound j → Counted j → KernelMay opts sites input j a → Counted (j ++ a)
counted_may opts sites input j _ s c (gives p t v le) =
    counted_same j (dispatch p t) (more_none j (dispatch p t) refl) (λ o. gone_still o j (dispatch p t) refl) (made_given p t j) c
counted_may opts sites input j _ s c (no_room p t v le) =
    counted_same j lone_limit (more_none j lone_limit refl) (λ o. gone_still o j lone_limit refl) (made_limit j) c
counted_may opts sites input j _ s c (acts p t k asked m) =
    counted_all p t (object_of t j asked.request) (Unit {0}) (destroys asked.request) j (act opts sites input j p t k asked) (lawful_act opts sites input j p t k asked s m) (by_act opts sites input j p t k (Unit {0}) asked (λ h. tt)) c

pub counted_run : (opts : Options) (sites : List Site) (input : List ℕ) {j : Journal} → KernelRuns opts sites input j → Counted j
counted_run opts sites input begun = counted_begin opts
counted_run opts sites input (more {j} {a} r o m) =
    counted_may opts sites input j a (good_whole opts sites input r).sound (counted_run opts sites input r) m

-- an object that somebody is inside is made and not gone
pub law_made : LawMade
law_made opts sites input j r going t o h =
    let c = counted_run opts sites input r in
    let s = (good_whole opts sites input r).sound in
    let i : has (inside o j) t ≡ true = sym ((law_held j).inside t o) ∙ h in
    c.made_of o (below s i) (alive (is_gone o j) refl i)
  where
    none : has [] t ≡ true → ⊥
    none e = cc

    below : Sound j → has (inside o j) t ≡ true → o < object_count j
    below s i =
        ⊎_elim (λ lt. lt) (λ le. absurd (none (sym (ap (λ l. has l t) (s.fresh_inside o le)) ∙ i))) (cases_lt o (object_count j))

    alive : (b : Bool) → is_gone o j ≡ b → has (inside o j) t ≡ true → is_gone o j ≡ false
    alive false g i = g
    alive true g i =
        let d = (lived_run opts sites input r going).dead o g in
        absurd (none (sym (ap (λ l. has l t) d.inside) ∙ i))
