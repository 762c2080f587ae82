-- A journal has one cut into acts.
use Rattle.std.proofs.Common.{◌≡◌, ℕ, suc, ◌+◌, ◌<◌, ◌≤◌, Bool, true, false, cond, List, [], ◌∷◌, ◌++◌, Some, refl, sym, ap, ◌∙◌, subst, arith, length, append_assoc, append-nil, length-append}
use Rattle.std.specs.Prelude.{pos, nat_le}
use Rattle.uc_tree.specs.Source.{Source}
use Rattle.uc_tree.specs.Programs.{Site}
use Rattle.uc_entry.specs.declared.entry.Entry.{Entry}
use Rattle.uc_entry.specs.declared.entry.EntryKind.{EntryKind}
use Rattle.uc_entry.specs.declared.entry.EntryKind.TheVariants as kind
use Rattle.uc_entry.specs.declared.entry.Options.{Options}
use Rattle.uc_entry.specs.declared.request.Asked.{Asked}
use Rattle.uc_entry.specs.declared.request.Request.TheVariants as ask
use Rattle.uc_acts.specs.Journal.{Journal, cost, no_cost, entry, begin, is_over, first_or_0}
use Rattle.uc_acts.specs.Queues.{running}
use Rattle.uc_acts.specs.Answers.{asks, answer_to}
use Rattle.uc_acts.specs.Doors.{destroys_busy}
use Rattle.uc_acts.specs.Acts.{act, row, settled, fault, entries_of, ending, fitted, dispatch, lone_limit}
use Rattle.uc_acts.specs.Serves.{left}
use Rattle.uc_acts.specs.KernelRuns.{InRange, Fits, KernelMay, KernelRuns, begun, more, gives as gives_in, no_room as none_in, acts as acts_in}
use Rattle.uc_machine.specs.Quiet.{State, Goes, Ticks, Asks as AsksNow, quiet}
use Rattle.uc_machine.specs.Rides.{asked_in, Rides, slices, goes_on as moves_on, ticks as makes_tick, asks as asks_now}
use Rattle.uc_meaning.specs.Runs.{World, AsksIn, May, gives, no_room, acts, Runs, begun as begun_with, more as more_by, world_after, first_world, drawn}
use Rattle.uc_machine.specs.Answering.{answered}
use Rattle.uc_meaning.specs.Cuts.{Cut, ends, goes_on, Reentry, AsksTyped, OneCut, OneRide, LawCut, LawPrograms}
use Rattle.uc_acts.specs.Typed.{MayTyped, RunTyped}
use Rattle.uc_acts.proofs.Bounds.{over_limit, law_room}
use Rattle.uc_acts.proofs.FitRows.{law_fit}
use Rattle.uc_acts.proofs.Acting.{is_giving, object_of, destroys, AllBy, by_act}
use Rattle.uc_acts.proofs.Making.{row_asks}

no_both : (b : Bool) → b ≡ true → b ≡ false → ⊥
no_both b t f = cc

module _ (source : Source) where
  -- a ride has one outcome
  same_ride : {s u s' u' : State} {q k q' k' : ℕ} {r r' : Asked} → Rides source s q u k r → Rides source s' q' u' k' r' → s ≡ s' → q ≡ q' → OneRide u u' k k' r r'
  same_ride slices slices e f = record { state = e; ticks = refl; asked = ap (λ v. asked_in v ask.Slice) e }
  same_ride slices (moves_on x y) e f = absurd (cc f)
  same_ride slices (makes_tick x y) e f = absurd (cc f)
  same_ride slices (asks_now x) e f = absurd (cc f)
  same_ride (moves_on a b) slices e f = absurd (cc f)
  same_ride (moves_on {t} a b) (moves_on {t = t'} x y) e f =
      let h : Goes t ≡ Goes t' = sym a ∙ ap (quiet source) e ∙ x in same_ride b y (cc h) f
  same_ride (moves_on {t} a b) (makes_tick {t = t'} x y) e f = let h : Goes t ≡ Ticks t' = sym a ∙ ap (quiet source) e ∙ x in absurd (cc h)
  same_ride (moves_on {t} a b) (asks_now {t = t'} {r = r'} x) e f = let h : Goes t ≡ AsksNow r' t' = sym a ∙ ap (quiet source) e ∙ x in absurd (cc h)
  same_ride (makes_tick a b) slices e f = absurd (cc f)
  same_ride (makes_tick {t} a b) (moves_on {t = t'} x y) e f = let h : Ticks t ≡ Goes t' = sym a ∙ ap (quiet source) e ∙ x in absurd (cc h)
  same_ride (makes_tick {t} a b) (makes_tick {t = t'} x y) e f =
      let h : Ticks t ≡ Ticks t' = sym a ∙ ap (quiet source) e ∙ x in
      let r = same_ride b y (cc h) (cc f) in
      record { state = r.state; ticks = ap (λ k. suc k) r.ticks; asked = r.asked }
  same_ride (makes_tick {t} a b) (asks_now {t = t'} {r = r'} x) e f = let h : Ticks t ≡ AsksNow r' t' = sym a ∙ ap (quiet source) e ∙ x in absurd (cc h)
  same_ride (asks_now a) slices e f = absurd (cc f)
  same_ride (asks_now {t} {r} a) (moves_on {t = t'} x y) e f = let h : AsksNow r t ≡ Goes t' = sym a ∙ ap (quiet source) e ∙ x in absurd (cc h)
  same_ride (asks_now {t} {r} a) (makes_tick {t = t'} x y) e f = let h : AsksNow r t ≡ Ticks t' = sym a ∙ ap (quiet source) e ∙ x in absurd (cc h)
  same_ride (asks_now {s} {t} {r} a) (asks_now {s = s'} {t = t'} {r = r'} x) e f =
      let h : AsksNow r t ≡ AsksNow r' t' = sym a ∙ ap (quiet source) e ∙ x in
      let same : r ≡ r' = cc h in
      record { state = cc h; ticks = refl; asked = ap (asked_in s) same ∙ ap (λ v. asked_in v r') e }

-- the first entry of an act

abbrev first_of : List Entry → Entry
first_of [] = lone_limit
first_of (e ∷ es) = e

abbrev is_limit : EntryKind → Bool
is_limit kind.Limit = true
is_limit k = false

-- an act is the lone limit, or it begins with its task's entry
data Begins (p t : ℕ) (a : List Entry) : Type 0 where
  limited : a ≡ entry kind.Limit p t 0 0 (pos 0) (pos 0) ∷ [] → Begins p t a
  begins : (e : Entry) (rest : List Entry) → a ≡ e ∷ rest → e.proc ≡ p → is_giving e.kind ≡ false → is_limit e.kind ≡ false → Begins p t a

not_limit : (t : ℕ) (k : EntryKind) (e : Entry) → asks t k e ≡ true → is_limit k ≡ false
not_limit t kind.Limit e h = cc
not_limit t k e h = refl

module _ (opts : Options) (sites : List Site) (input : List ℕ) (j : Journal) (p t n : ℕ) (asked : Asked) (f : Fits opts sites j t asked.request) where
  rows : List Entry
  rows = row opts sites input j p t (cost n asked.line) asked.line asked.request

  -- the entries of a row that is cut
  starts : (b : Bool) (e : Entry) (rest : List Entry) → row opts sites input j p t (cost n asked.line) asked.line asked.request ≡ e ∷ rest → asks t e.kind e ≡ true → destroys_busy j e.kind e ≡ b → (z : List Entry) → (x : Entry) × (y : List Entry) × (settled (fault p t no_cost 10 asked.line) j (row opts sites input j p t (cost n asked.line) asked.line asked.request) ++ z ≡ x ∷ y) × (is_limit x.kind ≡ false)
  starts true e rest h k d z =
      (record (fault p t no_cost 10 asked.line) { ticks = e.ticks; line = e.line }, z, ap (λ l. settled (fault p t no_cost 10 asked.line) j l ++ z) h ∙ ap (λ b. cond b (record (fault p t no_cost 10 asked.line) { ticks = e.ticks; line = e.line } ∷ []) (e ∷ settled (fault p t no_cost 10 asked.line) (j ++ e ∷ []) rest) ++ z) d, refl)
  starts false e rest h k d z =
      (e, settled (fault p t no_cost 10 asked.line) (j ++ e ∷ []) rest ++ z, ap (λ l. settled (fault p t no_cost 10 asked.line) j l ++ z) h ∙ ap (λ b. cond b (record (fault p t no_cost 10 asked.line) { ticks = e.ticks; line = e.line } ∷ []) (e ∷ settled (fault p t no_cost 10 asked.line) (j ++ e ∷ []) rest) ++ z) d, not_limit t e.kind e k)

  fitted_begins : (a : List Entry) → (x : Entry) × (y : List Entry) × (a ≡ x ∷ y) × (is_limit x.kind ≡ false) → AllBy p t (object_of t j asked.request) (Unit {0}) (destroys asked.request) (fitted opts j p t a) → Begins p t (fitted opts j p t a)
  fitted_begins a x b = by (nat_le (length j + length a + 1) opts.entries) b
    where
      by : (c : Bool) → AllBy p t (object_of t j asked.request) (Unit {0}) (destroys asked.request) (cond c a (entry kind.Limit p t 0 0 (pos 0) (pos 0) ∷ [])) → Begins p t (cond c a (entry kind.Limit p t 0 0 (pos 0) (pos 0) ∷ []))
      by false b = limited refl
      by true b =
          let h : AllBy p t (object_of t j asked.request) (Unit {0}) (destroys asked.request) (x.0 ∷ x.1) = subst (AllBy p t (object_of t j asked.request) (Unit {0}) (destroys asked.request)) x.2 b in
          begins x.0 x.1 x.2 h.0.proc h.0.acts x.3

  act_begins : Begins p t (act opts sites input j p t n asked)
  act_begins =
      let r = row_asks opts sites input j p t (cost n asked.line) asked.line asked.request f in
      let a = entries_of opts sites input j p t n asked in
      fitted_begins (a ++ ending opts j p t a) (starts (destroys_busy j r.first.kind r.first) r.first r.rest r.is r.asks refl (ending opts j p t a)) (by_act opts sites input j p t n (Unit {0}) asked (λ h. tt))

proc_of : (p t : ℕ) (a x : List Entry) → Begins p t a → (first_of (a ++ x)).proc ≡ p
proc_of p t a x (limited h) = ap (λ l. (first_of (l ++ x)).proc) h
proc_of p t a x (begins e rest h k g n) = ap (λ l. (first_of (l ++ x)).proc) h ∙ k

gives_not : (p t : ℕ) (a x : List Entry) → Begins p t a → is_giving (first_of (a ++ x)).kind ≡ false
gives_not p t a x (limited h) = ap (λ l. is_giving (first_of (l ++ x)).kind) h
gives_not p t a x (begins e rest h k g n) = ap (λ l. is_giving (first_of (l ++ x)).kind) h ∙ g

some_entry : (p t : ℕ) (a : List Entry) → Begins p t a → 0 < length a
some_entry p t a (limited h) = let l : length a ≡ 1 = ap length h in omega arith
some_entry p t a (begins e rest h k g n) = let l : length a ≡ suc (length rest) = ap length h in omega (arith, l)

-- an act that begins with the lone limit is it
limit_alone : (p t : ℕ) (a x y : List Entry) → Begins p t a → (lone_limit ∷ []) ++ x ≡ a ++ y → lone_limit ∷ [] ≡ a
limit_alone p t a x y (limited h) e =
    let first : lone_limit ≡ entry kind.Limit p t 0 0 (pos 0) (pos 0) = ap first_of (e ∙ ap (λ l. l ++ y) h) in
    ap (λ l. l ∷ []) first ∙ sym h
limit_alone p t a x y (begins z rest h k g n) e =
    let first : lone_limit ≡ z = ap first_of (e ∙ ap (λ l. l ++ y) h) in
    absurd (no_both (is_limit z.kind) (ap (λ l. is_limit l.kind) (sym first)) n)

cancel : (j x y : List Entry) → j ++ x ≡ j ++ y → x ≡ y
cancel [] x y e = e
cancel (i ∷ j) x y e = cancel j x y (cc e)

longer : (j a x : List Entry) → j ≡ (j ++ a) ++ x → 0 < length a → ⊥
longer j a x h lt =
    let l = ap length h in
    let m = length-append (j ++ a) x in
    let n = length-append j a in
    absurd (omega (arith, l, m, n, lt))

joined : (j a b x y k : List Entry) → k ≡ (j ++ a) ++ x → k ≡ (j ++ b) ++ y → a ++ x ≡ b ++ y
joined j a b x y k h g = cancel j (a ++ x) (b ++ y) (sym (append_assoc j a x) ∙ sym h ∙ g ∙ append_assoc j b y)

-- two acts that begin alike are one, and while the run goes on they leave one world
record Same (j a b : List Entry) (v x : World) : Type 0 where
  entries : a ≡ b
  world : is_over (j ++ a) ≡ false → v ≡ x

-- what is asked in this journal and its world fits
abbrev AllFit : Source → Options → Journal → World → Type 0
AllFit source opts j w = (p t n : ℕ) (s : State) (asked : Asked) → AsksIn source opts j w p t n s asked → Fits opts source.sites j t asked.request

module _ {source : Source} {input : List ℕ} {opts : Options} {j : Journal} {w : World} (fits : AllFit source opts j w) where
  step_some : {a : List Entry} {v : World} → May source opts input j w a v → 0 < length a
  step_some (gives p t s m) = omega arith
  step_some (no_room p t s m) = omega arith
  step_some (acts p t n s asked d) = some_entry p t (act opts source.sites input j p t n asked) (act_begins opts source.sites input j p t n asked (fits p t n s asked d))

  same_step : {a b : List Entry} {v x : World} → May source opts input j w a v → May source opts input j w b x → (y z : List Entry) → a ++ y ≡ b ++ z → Same j a b v x
  same_step (gives p t s m) (gives p' t' s' m') y z e =
      let q : p ≡ p' = ap (λ l. (first_of l).proc) e in
      let u : t ≡ t' = ap (λ l. (first_of l).task) e in
      record { entries = ap (λ v. dispatch v t ∷ []) q ∙ ap (λ v. dispatch p' v ∷ []) u; world = λ o. refl }
  same_step (gives p t s m) (no_room p' t' s' m') y z e =
      absurd (no_both (is_giving (first_of ((dispatch p t ∷ []) ++ y)).kind) refl (ap (λ l. is_giving (first_of l).kind) e))
  same_step (no_room p t s m) (gives p' t' s' m') y z e =
      absurd (no_both (is_giving (first_of ((dispatch p' t' ∷ []) ++ z)).kind) refl (ap (λ l. is_giving (first_of l).kind) (sym e)))
  same_step (gives p t s m) (acts p' t' n' s' asked' d') y z e =
      let b = act opts source.sites input j p' t' n' asked' in
      absurd (no_both (is_giving (first_of (b ++ z)).kind) (ap (λ l. is_giving (first_of l).kind) (sym e)) (gives_not p' t' b z (act_begins opts source.sites input j p' t' n' asked' (fits p' t' n' s' asked' d'))))
  same_step (acts p t n s asked d) (gives p' t' s' m') y z e =
      let a = act opts source.sites input j p t n asked in
      absurd (no_both (is_giving (first_of (a ++ y)).kind) (ap (λ l. is_giving (first_of l).kind) e) (gives_not p t a y (act_begins opts source.sites input j p t n asked (fits p t n s asked d))))
  same_step (no_room p t s m) (no_room p' t' s' m') y z e = record { entries = refl; world = λ o. refl }
  same_step (no_room p t s m) (acts p' t' n' s' asked' d') y z e =
      let b = act opts source.sites input j p' t' n' asked' in
      record {
        entries = limit_alone p' t' b y z (act_begins opts source.sites input j p' t' n' asked' (fits p' t' n' s' asked' d')) e;
        world = λ o. absurd (no_both (is_over (j ++ lone_limit ∷ [])) (over_limit j 0 0) o);
      }
  same_step (acts p t n s asked d) (no_room p' t' s' m') y z e =
      let a = act opts source.sites input j p t n asked in
      let same : lone_limit ∷ [] ≡ a = limit_alone p t a z y (act_begins opts source.sites input j p t n asked (fits p t n s asked d)) (sym e) in
      record {
        entries = sym same;
        world = λ o. absurd (no_both (is_over (j ++ a)) (ap (λ l. is_over (j ++ l)) (sym same) ∙ over_limit j 0 0) o);
      }
  same_step (acts p t n s asked d) (acts p' t' n' s' asked' d') y z e =
      let a = act opts source.sites input j p t n asked in
      let a' = act opts source.sites input j p' t' n' asked' in
      let q : p ≡ p' = sym (proc_of p t a y (act_begins opts source.sites input j p t n asked (fits p t n s asked d))) ∙ ap (λ l. (first_of l).proc) e ∙ proc_of p' t' a' z (act_begins opts source.sites input j p' t' n' asked' (fits p' t' n' s' asked' d')) in
      let u : t ≡ t' = ap first_or_0 (sym d.runs ∙ ap (λ z. running z j) q ∙ d'.runs) in
      let told : Some d.given ≡ Some d'.given = sym d.told ∙ ap (λ z. answer_to source.sites z j) u ∙ d'.told in
      let given : d.given ≡ d'.given = cc told in
      let starts : answered source d.given (drawn j w t) ≡ answered source d'.given (drawn j w t') = ap (λ z. answered source z (drawn j w t)) given ∙ ap (λ z. answered source d'.given (drawn j w z)) u in
      let ride = same_ride source d.rides d'.rides starts (ap (left opts j) u) in
      let same : a ≡ a' = ap (λ z. act opts source.sites input j z t n asked) q ∙ ap (λ z. act opts source.sites input j p' z n asked) u ∙ ap (λ z. act opts source.sites input j p' t' z asked) ride.ticks ∙ ap (λ z. act opts source.sites input j p' t' n' z) ride.asked in
      record {
        entries = same;
        world = λ o. ap (λ z. world_after source z w t s) same ∙ ap (λ z. world_after source a' w z s) u ∙ ap (λ z. world_after source a' w t' z) ride.state;
      }

-- how a cut begins
data View (source : Source) (input : List ℕ) (opts : Options) (j : Journal) (w : World) (parts : List (List Entry)) (k : Journal) (u : World) : Type 0 where
  is_done : parts ≡ [] → k ≡ j → u ≡ w → View source input opts j w parts k u
  is_more : (a : List Entry) (x : World) (rest : List (List Entry)) → parts ≡ a ∷ rest → is_over j ≡ false → May source opts input j w a x → Cut source input opts (j ++ a) x rest k u → View source input opts j w parts k u

module _ {source : Source} {input : List ℕ} {opts : Options} where
  view : {j : Journal} {w : World} {parts : List (List Entry)} {k : Journal} {u : World} → Cut source input opts j w parts k u → View source input opts j w parts k u
  view ends = is_done refl refl refl
  view (goes_on o s c) = is_more _ _ _ refl o s c

  rest_of : {j : Journal} {w : World} {parts : List (List Entry)} {k : Journal} {u : World} → Cut source input opts j w parts k u → (x : List Entry) × (k ≡ j ++ x)
  rest_of {j} ends = ([], sym (append-nil j))
  rest_of {j} (goes_on {a} o s c) = let r = rest_of c in (a ++ r.0, r.1 ∙ append_assoc j a r.0)

  -- after an ending nothing follows
  no_more : {j : Journal} {w : World} {parts : List (List Entry)} {k : Journal} {u : World} → is_over j ≡ true → Cut source input opts j w parts k u → (parts ≡ []) × (k ≡ j)
  no_more {j} h ends = (refl, refl)
  no_more {j} h (goes_on o s c) = absurd (no_both (is_over j) h o)

module _ {source : Source} {input : List ℕ} {opts : Options} (re : Reentry source input opts) where
  all_fit : {j : Journal} {w : World} → Runs source input opts j w → is_over j ≡ false → AllFit source opts j w
  all_fit {j} {w} r o p t n s asked d = re j w p t n s asked r o d

  one_cut : {j : Journal} {w : World} {parts others : List (List Entry)} {k : Journal} {u v : World} → Runs source input opts j w → Cut source input opts j w parts k u → View source input opts j w others k v → OneCut parts others k u v
  one_cut m ends (is_done a b c) = record { acts = sym a; world = λ o. sym c }
  one_cut {j} m ends (is_more a x rest e o s c) = let r = rest_of c in absurd (longer j a r.0 r.1 (step_some (all_fit m o) s))
  one_cut {j} m (goes_on {a} o s c) (is_done e f g) =
      let r = rest_of c in absurd (longer j a r.0 (sym f ∙ r.1) (step_some (all_fit m o) s))
  one_cut {j} {others = others} {k} {u} {v} m (goes_on {a} {x} {rest} o s c) (is_more b y rest' e o' s' c') =
      let r = rest_of c in
      let r' = rest_of c' in
      let same = same_step (all_fit m o) s s' r.0 r'.0 (joined j a b r.0 r'.0 k r.1 r'.1) in
      by (λ d. one_cut (more_by m o s) c d) (is_over (j ++ a)) refl same
    where
      by : (View source input opts (j ++ a) x rest' k v → OneCut rest rest' k u v) → (d : Bool) → is_over (j ++ a) ≡ d → Same j a b x y → OneCut (a ∷ rest) others k u v
      by ih true d same =
          let h = no_more d c in
          let h' = no_more (ap (λ l. is_over (j ++ l)) (sym same.entries) ∙ d) c' in
          record {
            acts = ap (λ l. a ∷ l) (h.0 ∙ sym h'.0) ∙ ap (λ l. l ∷ rest') same.entries ∙ sym e;
            world = λ g. absurd (no_both (is_over k) (ap is_over h.1 ∙ d) g);
          }
      by ih false d same =
          let moved : Cut source input opts (j ++ a) y rest' k v = subst (λ l. Cut source input opts (j ++ l) y rest' k v) (sym same.entries) c' in
          let h = ih (view (subst (λ z. Cut source input opts (j ++ a) z rest' k v) (sym (same.world d)) moved)) in
          record { acts = ap (λ l. a ∷ l) h.acts ∙ ap (λ l. l ∷ rest') same.entries ∙ sym e; world = h.world }

-- a ride makes no more ticks than it has
within : {source : Source} {s u : State} {q k : ℕ} {r : Asked} → Rides source s q u k r → k ≤ q
within slices = omega arith
within (moves_on e r) = within r
within (makes_tick e r) = let h = within r in omega (arith, h)
within (asks_now e) = omega arith

module _ {source : Source} {input : List ℕ} {opts : Options} (re : Reentry source input opts) where
  -- acts of a program's run are acts of a run of a kernel
  abbrev kernel_may : {j : Journal} {w : World} {a : List Entry} {x : World} → Runs source input opts j w → is_over j ≡ false → May source opts input j w a x → KernelMay opts source.sites input j a
  kernel_may r o (gives p t s m) = gives_in p t s m
  kernel_may r o (no_room p t s m) = none_in p t s m
  kernel_may {j} {w} r o (acts p t n s asked d) = acts_in p t n asked (record { runs = d.runs; within = within d.rides; fits = re j w p t n s asked r o d })

  abbrev kernel_run : {j : Journal} {w : World} → Runs source input opts j w → KernelRuns opts source.sites input j
  kernel_run begun_with = begun
  kernel_run (more_by r o m) = more (kernel_run r) o (kernel_may r o m)

  -- where what is asked is typed, all that the kernel was asked was
  module _ (typed : AsksTyped source input opts) where
    may_typed : {j : Journal} {w : World} {a : List Entry} {x : World} → (r : Runs source input opts j w) (o : is_over j ≡ false) (m : May source opts input j w a x) → MayTyped opts source.sites input j a (kernel_may r o m)
    may_typed r o (gives p t s m) = tt
    may_typed r o (no_room p t s m) = tt
    may_typed {j} {w} r o (acts p t n s asked d) = typed j w p t n s asked r o d

    run_typed : {j : Journal} {w : World} → (r : Runs source input opts j w) → RunTyped opts source.sites input j (kernel_run r)
    run_typed begun_with = tt
    run_typed (more_by r o m) = (run_typed r, may_typed r o m)

  runs_on : {j : Journal} {w : World} {parts : List (List Entry)} {k : Journal} {u : World} → Runs source input opts j w → Cut source input opts j w parts k u → Runs source input opts k u
  runs_on r ends = r
  runs_on r (goes_on o s c) = runs_on (more_by r o s) c

  -- each act is longer than nothing
  counts : {j : Journal} {w : World} {parts : List (List Entry)} {k : Journal} {u : World} → Runs source input opts j w → Cut source input opts j w parts k u → length j + length parts ≤ length k
  counts r ends = omega arith
  counts {j} r (goes_on {a} o s c) =
      let h = counts (more_by r o s) c in
      let l = length-append j a in
      let some = step_some (all_fit re r o) s in
      omega (arith, h, l, some)

  few : (parts : List (List Entry)) (k : Journal) (u : World) → InRange opts → Cut source input opts (begin opts ∷ []) (first_world source) parts k u → length parts < opts.entries
  few parts k u range c =
      let h = counts begun_with c in
      let m = (law_room opts source.sites input k range (kernel_run (runs_on begun_with c))).most in
      omega (arith, h, m)

pub law_cut : LawCut
law_cut = record {
  cut = λ source input opts re parts others k u v c d. one_cut re begun_with c (view d);
  ride = λ source s t u q m n a b r x. same_ride source r x refl refl;
  few = λ source input opts re parts k u range c. few re parts k u range c;
}

pub law_programs : LawPrograms
law_programs = record {
  kernel = λ source input opts re j w r. kernel_run re r;
  fit = λ source input opts range given re typed j w r. law_fit opts source.sites input j range given (kernel_run re r) (run_typed re typed r);
}
