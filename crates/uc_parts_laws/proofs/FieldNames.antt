-- First cells of coroutines that lie in mutex objects name their executions, in runs in which each is named by that as it is made.
use Rattle.std.proofs.Common.{◌≡◌, ℕ, ◌<◌, ◌≤◌, ◌⊎◌, inl, inr, ⊎_elim, Bool, true, false, List, [], ◌∷◌, ◌++◌, Option, Some, None, refl, sym, ap, ◌∙◌, subst, arith}
use Rattle.std.specs.Prelude.{nat_eq, if◌then◌else◌, slice_index_or}
use Rattle.std.proofs.lemmas.Bool.{eqb-true}
use Rattle.uc_tree.specs.Source.{Source, cells_of_class}
use Rattle.uc_entry.specs.declared.entry.Options.{Options}
use Rattle.uc_entry.specs.declared.request.Answer.{Answer}
use Rattle.uc_entry.specs.declared.request.Answer.TheVariants as answer
use Rattle.uc_entry.specs.declared.request.Asked.{Asked}
use Rattle.uc_entry.specs.declared.request.Request.{Request}
use Rattle.uc_entry.specs.declared.request.Request.TheVariants as ask
use Rattle.uc_entry.specs.Keyed.{find}
use Rattle.uc_acts.specs.Journal.{Journal, held, is_over}
use Rattle.uc_acts.specs.Known.{takes_out}
use Rattle.uc_acts.specs.Acts.{act}
use Rattle.uc_acts.specs.KernelRuns.{InRange}
use Rattle.uc_machine.specs.declared.exec.Exec.{Exec}
use Rattle.uc_machine.specs.declared.exec.Home.{Home}
use Rattle.uc_machine.specs.declared.exec.Home.TheVariants as home
use Rattle.uc_machine.specs.declared.exec.Owner.TheVariants.{Frame, Fields}
use Rattle.uc_machine.specs.Executions.{exec_eq, values_in}
use Rattle.uc_machine.specs.Switches as sw
use Rattle.uc_machine.specs.Switches.{new_exec}
use Rattle.uc_machine.specs.Pieces as piece
use Rattle.uc_machine.specs.Pieces.{Value, Number, Place, Running, Object, Nothing, Todo, BindMadeNow, State, Members, Goes, Ticks, Asks, address, at, exec_in, in_env, nought, own_exec, written}
use Rattle.uc_machine.specs.Quiet as quiet
use Rattle.uc_machine.specs.Quiet.{home_at}
use Rattle.uc_machine.specs.Answering.{answered, new_members, entered, with_operand}
use Rattle.uc_machine.specs.Rides.{Rides, slices, goes_on, ticks, asks}
use Rattle.uc_meaning.specs.Runs.{World, Runs, AsksIn, gives, no_room, acts, begun, more, with_home, hand_of, drawn, or_else, world_after}
use Rattle.uc_state_laws.specs.Fitting.{RunFits}
use Rattle.uc_state_laws.specs.Opens.{RideMeets, RunMeets}
use Rattle.uc_state_laws.specs.RoomRuns as way
use Rattle.uc_state_laws.specs.RoomRuns.{Comes}
use Rattle.uc_name_laws.specs.Below.{IsBelow}
use Rattle.uc_name_laws.specs.NameSteps.{IsBorn, BornBelow}
use Rattle.uc_name_laws.proofs.Homes.{no_both, same_exec}
use Rattle.uc_life_laws.specs.Knowing.{main_of}
use Rattle.uc_life_laws.specs.NamedRuns.{ComesNamed, AllNamed}
use Rattle.uc_life_laws.proofs.NamedLemmas.{law_named_runs}
use Rattle.uc_rooted_runs.specs.Births.{MakesLater, SpawnsLater, RunSpawnsLater}
use Rattle.uc_rooted_runs.specs.Makers.{Makers, seating}
use Rattle.uc_rooted_runs.specs.OutlastRuns.{made_behind, ride_made, made_asked, run_made, now}
use Rattle.uc_rooted_runs.proofs.OutlastNames.{born_there}
use Rattle.uc_parts_laws.specs.Naming.{NamesFirst, NamesAt, NamesNow, RideNamesOwn, RunNamesOwn}
use Rattle.uc_parts_laws.proofs.FieldKeeping.{HandStill, hand_same, FoundStill, found_still}
use Rattle.uc_parts_laws.proofs.FieldSteps.{StillStep}
use Rattle.uc_parts_laws.proofs.FieldWalk.{walk}
use Rattle.uc_parts_laws.proofs.NewNames.{is_running}

-- a cell of what is at home in a mutex object, if that is there, names an execution
abbrev pub InCell : Option Members → ℕ → Exec → Type 0
InCell None k x = Unit {0}
InCell (Some m) k x = slice_index_or m.values k nought ≡ Running x

-- so does the first cell of a coroutine that lies in one, in which its execution is at home then
abbrev pub NamedBy : (ℕ → Option Members) → Exec → Value → Type 0
NamedBy look x (Place (Frame n d) p) = Unit {0}
NamedBy look x (Place (Fields o) p) = (x.home ≡ home.Object o) × InCell (look o) (address p) x
NamedBy look x (Object o) = (x.home ≡ home.Object o) × InCell (look o) 0 x
NamedBy look x v = ⊥

pub named_map : (look other : ℕ → Option Members) (x : Exec) → ((o k : ℕ) → x.home ≡ home.Object o → InCell (look o) k x → InCell (other o) k x) → (v : Value) → NamedBy look x v → NamedBy other x v
named_map look other x f (Place (Frame n d) p) h = tt
named_map look other x f (Place (Fields o) p) h = (h.0, f o (address p) h.0 h.1)
named_map look other x f (Object o) h = (h.0, f o 0 h.0 h.1)
named_map look other x f (Number z) h = h
named_map look other x f (Running y) h = h
named_map look other x f Nothing h = h

-- what is in hand, or else at home
abbrev pub seen : (ℕ → Option Members) → State → ℕ → Option Members
seen homes s o = or_else (find o s.env.hand) (homes o)

kept_cell : (a b h : Option Members) → FoundStill a b → (k : ℕ) (x : Exec) → InCell (or_else a h) k x → InCell (or_else b h) k x
kept_cell None None h f k x i = i
kept_cell (Some m) (Some n) h f k x i = f k x i
kept_cell None (Some n) h f k x i = absurd f
kept_cell (Some m) None h f k x i = absurd f

new_cell : (z h : Option Members) (k : ℕ) (x : Exec) → exec_in (slice_index_or (values_in z) k nought) ≡ Some x → InCell (or_else z h) k x
new_cell None h k x e = let none : exec_in nought ≡ Some x = e in absurd (cc)
new_cell (Some m) h k x e = is_running (slice_index_or m.values k nought) x e

module _ (source : Source) (makers : Makers) where
  -- those that were made, but for mains of tasks
  abbrev pub AllIn : (ℕ → Option Members) → (Exec → Bool) → Type 0
  AllIn look made = (x : Exec) → made x ≡ true → (makers.seat x).task ≡ false → NamedBy look x (makers.seat x).place

  -- what a step makes
  born_goes : (s : State) (x : Exec) (b : IsBorn source s x) → quiet.quiet source s ≡ Goes (at b.todo s.run.operands (in_env (written s.run.this (Running (new_exec (home_at s.run.this s.env) s.env)) (sw.born (home_at s.run.this s.env) (quiet.fresh b.routine s.run.this) s.env)) s))
  born_goes s x b = ap (λ l. quiet.act_todo source l s) b.next ∙ ap (λ o. quiet.set_up_step o b.todo s) b.known

  this_stays : (s u : State) (x : Exec) → IsBorn source s x → quiet.quiet source s ≡ Goes u → u.run.this ≡ s.run.this
  this_stays s u x b e =
      let both : Goes (at b.todo s.run.operands (in_env (written s.run.this (Running (new_exec (home_at s.run.this s.env) s.env)) (sw.born (home_at s.run.this s.env) (quiet.fresh b.routine s.run.this) s.env)) s)) ≡ Goes u = sym (born_goes s x b) ∙ e in
      let same : at b.todo s.run.operands (in_env (written s.run.this (Running (new_exec (home_at s.run.this s.env) s.env)) (sw.born (home_at s.run.this s.env) (quiet.fresh b.routine s.run.this) s.env)) s) ≡ u = cc both in
      sym (ap (λ (v : State). v.run.this) same)

  new_by : (homes : ℕ → Option Members) (s u : State) (x : Exec) → IsBorn source s x → (v : Value) → s.run.this ≡ v → exec_in (piece.loaded v u.env) ≡ Some x → NamedBy (seen homes u) x v
  new_by homes s u x b (Place (Frame n d) p) i e = tt
  new_by homes s u x b (Place (Fields o) p) i e = (ap (λ (m : Exec). m.home) b.named ∙ ap (λ v. home_at v s.env) i, new_cell (find o u.env.hand) (homes o) (address p) x e)
  new_by homes s u x b (Object o) i e = (ap (λ (m : Exec). m.home) b.named ∙ ap (λ v. home_at v s.env) i, new_cell (find o u.env.hand) (homes o) 0 x e)
  new_by homes s u x b (Number z) i e = let none : exec_in nought ≡ Some x = e in absurd (cc)
  new_by homes s u x b (Running y) i e = let none : exec_in nought ≡ Some x = e in absurd (cc)
  new_by homes s u x b Nothing i e = let none : exec_in nought ≡ Some x = e in absurd (cc)

  module _ (homes : ℕ → Option Members) where
    -- behind a step, whose new execution is named
    behind : (made : Exec → Bool) (s u : State) → HandStill s.env.hand u.env.hand → MakesLater source makers s → ((x : Exec) → IsBorn source s x → (u.run.this ≡ s.run.this) × (own_exec u ≡ Some x)) → AllIn (seen homes s) made → AllIn (seen homes u) (made_behind source s made)
    behind made s u still later new h x m t = by (made x) refl
      where
        by : (b : Bool) → made x ≡ b → NamedBy (seen homes u) x (makers.seat x).place
        by true e = named_map (seen homes s) (seen homes u) x (λ o k i c. kept_cell (find o s.env.hand) (find o u.env.hand) (homes o) (found_still o s.env.hand u.env.hand still) k x c) (makers.seat x).place (h x e t)
        by false e =
            let b = born_there source s made x m e in
            let k = new x b in
            let own : exec_in (piece.loaded s.run.this u.env) ≡ Some x = subst (λ v. exec_in (piece.loaded v u.env) ≡ Some x) k.0 k.1 in
            subst (NamedBy (seen homes u) x) (sym (later x b).seat) (new_by homes s u x b s.run.this refl own)

    goes_still : (s u : State) → quiet.quiet source s ≡ Goes u → HandStill s.env.hand u.env.hand
    goes_still s u e = subst (StillStep s.env.hand) e (walk s.env.hand source s (hand_same s.env.hand))

    ticks_still : (s u : State) → quiet.quiet source s ≡ Ticks u → HandStill s.env.hand u.env.hand
    ticks_still s u e = subst (StillStep s.env.hand) e (walk s.env.hand source s (hand_same s.env.hand))

    asks_still : (s u : State) (r : Request) → quiet.quiet source s ≡ Asks r u → HandStill s.env.hand u.env.hand
    asks_still s u r e = subst (StillStep s.env.hand) e (walk s.env.hand source s (hand_same s.env.hand))

    no_tick : (s u : State) (x : Exec) → IsBorn source s x → quiet.quiet source s ≡ Ticks u → ⊥
    no_tick s u x b e =
        let both : Ticks u ≡ Goes (at b.todo s.run.operands (in_env (written s.run.this (Running (new_exec (home_at s.run.this s.env) s.env)) (sw.born (home_at s.run.this s.env) (quiet.fresh b.routine s.run.this) s.env)) s)) = sym e ∙ born_goes s x b in
        cc

    no_ask : (s u : State) (r : Request) (x : Exec) → IsBorn source s x → quiet.quiet source s ≡ Asks r u → ⊥
    no_ask s u r x b e =
        let both : Asks r u ≡ Goes (at b.todo s.run.operands (in_env (written s.run.this (Running (new_exec (home_at s.run.this s.env) s.env)) (sw.born (home_at s.run.this s.env) (quiet.fresh b.routine s.run.this) s.env)) s)) = sym e ∙ born_goes s x b in
        cc

    module _ (mk : Makers) (asked : Exec → Bool) where
      first_named : (made : Exec → Bool) (s u : State) → NamesNow source (seating mk) (now mk asked made) s → quiet.quiet source s ≡ Goes u → (x : Exec) → IsBorn source s x → (u.run.this ≡ s.run.this) × (own_exec u ≡ Some x)
      first_named made s u n e x b =
          let names : NamesFirst source s = subst (λ l. NamesAt source (seating mk) (now mk asked made) l s) b.next n in
          (this_stays s u x b e, names x b u e)

      pub goes_behind : (made : Exec → Bool) (s u : State) → quiet.quiet source s ≡ Goes u → MakesLater source makers s → NamesNow source (seating mk) (now mk asked made) s → AllIn (seen homes s) made → AllIn (seen homes u) (made_behind source s made)
      goes_behind made s u e later n h = behind made s u (goes_still s u e) later (first_named made s u n e) h

      pub ticks_behind : (made : Exec → Bool) (s u : State) → quiet.quiet source s ≡ Ticks u → MakesLater source makers s → AllIn (seen homes s) made → AllIn (seen homes u) (made_behind source s made)
      ticks_behind made s u e later h = behind made s u (ticks_still s u e) later (λ x b. absurd (no_tick s u x b e)) h

      ride_in : (made : Exec → Bool) {s u : State} {q k : ℕ} {a : Asked} (r : Rides source s q u k a) → RideMeets (MakesLater source makers) source s q u k a r → RideNamesOwn mk asked source made r → AllIn (seen homes s) made → AllIn (seen homes u) (ride_made source made r)
      ride_in made slices l n h = h
      ride_in made (goes_on {s} {t} e r) l n h = ride_in (made_behind source s made) r l.1 n.1 (goes_behind made s t e l.0 n.0 h)
      ride_in made (ticks {s} {t} e r) l n h = ride_in (made_behind source s made) r l.1 n.1 (ticks_behind made s t e l.0 h)
      ride_in made (asks {s} {t} {q} {r} e) l n h = behind made s t (asks_still s t r e) l (λ x b. absurd (no_ask s t r x b e)) h

  -- all that a run has made, but for mains of tasks, are below
  below_behind : (serials : Home → ℕ) (made : Exec → Bool) (s : State) → BornBelow source serials s → (x : Exec) → made_behind source s made x ≡ true → (made x ≡ true → IsBelow serials x) → IsBelow serials x
  below_behind serials made s h x e f = by (made x) refl
    where
      by : (b : Bool) → made x ≡ b → IsBelow serials x
      by true i = f i
      by false i = h x (born_there source s made x e i)

  ride_below : (serials : Home → ℕ) (made : Exec → Bool) {s u : State} {q k : ℕ} {a : Asked} (r : Rides source s q u k a) → RideMeets (BornBelow source serials) source s q u k a r → (x : Exec) → (made x ≡ true → IsBelow serials x) → ride_made source made r x ≡ true → IsBelow serials x
  ride_below serials made slices h x f e = f e
  ride_below serials made (goes_on {s} i r) h x f e = ride_below serials (made_behind source s made) r h.1 x (λ g. below_behind serials made s h.0 x g f) e
  ride_below serials made (ticks {s} i r) h x f e = ride_below serials (made_behind source s made) r h.1 x (λ g. below_behind serials made s h.0 x g f) e
  ride_below serials made (asks {s} i) h x f e = below_behind serials made s h x e f

  -- one that was made before what was asked
  before_asked : (q : Request) (s : State) → SpawnsLater makers q s → (made : Exec → Bool) (x : Exec) → (makers.seat x).task ≡ false → made_asked q made x ≡ true → made x ≡ true
  before_asked (ask.Spawn o) s l made x t e = by (exec_eq x (main_of o)) refl e
    where
      by : (b : Bool) → exec_eq x (main_of o) ≡ b → (if b then true else made x) ≡ true → made x ≡ true
      by true i e =
          let same : x ≡ main_of o = same_exec x (main_of o) i in
          absurd (no_both (makers.seat x).task (ap (λ n. (makers.seat n).task) same ∙ l.task) t)
      by false i e = e
  before_asked q s l made x t e = e

  run_below : (serials : Home → ℕ) (input : List ℕ) (opts : Options) {j : Journal} {w : World} (r : Runs source input opts j w) → RunMeets (BornBelow source serials) source input opts j w r → RunSpawnsLater makers source input opts j w r → (x : Exec) → (makers.seat x).task ≡ false → run_made source input opts r x ≡ true → IsBelow serials x
  run_below serials input opts begun h l x t e = absurd (cc)
  run_below serials input opts (more r o (gives p u v le)) h l x t e = run_below serials input opts r h.0 l.0 x t e
  run_below serials input opts (more r o (no_room p u v le)) h l x t e = run_below serials input opts r h.0 l.0 x t e
  run_below serials input opts (more r o (acts p u n s q d)) h l x t e =
      ride_below serials (run_made source input opts r) d.rides h.1 x (λ i. run_below serials input opts r h.0 l.0 x t i) (before_asked q.request s l.1 (ride_made source (run_made source input opts r) d.rides) x t e)

  -- what is in hand as a ride begins was at home, or it is new

  found_home : (o k : ℕ) (z : Option Members) (hand : List (ℕ × Members)) (homes : ℕ → Option Members) (m : Members) → homes k ≡ z → (find o hand ≡ Some m → homes o ≡ Some m) → find o (with_home k z hand) ≡ Some m → homes o ≡ Some m
  found_home o k None hand homes m e f h = f h
  found_home o k (Some n) hand homes m e f h = by (nat_eq k o) refl h
    where
      by : (b : Bool) → nat_eq k o ≡ b → (if b then Some n else find o hand) ≡ Some m → homes o ≡ Some m
      by true i g = ap homes (sym (eqb-true k o i)) ∙ (e ∙ g)
      by false i g = f g

  found_drawn : (os : List ℕ) (homes : ℕ → Option Members) (o : ℕ) (m : Members) → find o (hand_of os homes) ≡ Some m → homes o ≡ Some m
  found_drawn [] homes o m h = absurd (cc)
  found_drawn (k ∷ os) homes o m h = found_home o k (homes k) (hand_of os homes) homes m refl (found_drawn os homes o m) h

  found_last : (o k : ℕ) (n m : Members) (hand : List (ℕ × Members)) → find o (hand ++ (k, n) ∷ []) ≡ Some m → (find o hand ≡ Some m) ⊎ (n ≡ m)
  found_last o k n m [] h = by (nat_eq k o) h
    where
      by : (b : Bool) → (if b then Some n else None) ≡ Some m → (find o [] ≡ Some m) ⊎ (n ≡ m)
      by true h = let same : n ≡ m = cc h in inr same
      by false h = absurd (cc)
  found_last o k n m (p ∷ ps) h = by (nat_eq p.0 o) (λ h. found_last o k n m ps h) h
    where
      by : (b : Bool) → (find o (ps ++ (k, n) ∷ []) ≡ Some m → (find o ps ≡ Some m) ⊎ (n ≡ m)) → (if b then Some p.1 else find o (ps ++ (k, n) ∷ [])) ≡ Some m → ((if b then Some p.1 else find o ps) ≡ Some m) ⊎ (n ≡ m)
      by true r h = inl h
      by false r h = r h

  new_serial : (todo : List Todo) (m : Members) → new_members source todo ≡ Some m → m.serial ≡ 0
  new_serial [] m e = absurd (cc)
  new_serial (BindMadeNow c r ∷ todo) m e = let same : quiet.zeros (cells_of_class source c) ≡ m = cc e in sym (ap (λ (n : Members). n.serial) same)
  new_serial (p ∷ todo) m e = absurd (cc)

  in_answered : (given : Answer) (s : State) (o : ℕ) (m : Members) → find o (answered source given s).env.hand ≡ Some m → (find o s.env.hand ≡ Some m) ⊎ (m.serial ≡ 0)
  in_answered (answer.Object k) s o m h = by (new_members source s.run.control) refl h
    where
      by : (z : Option Members) → new_members source s.run.control ≡ z → find o (with_operand (Object k) (entered z k s)).env.hand ≡ Some m → (find o s.env.hand ≡ Some m) ⊎ (m.serial ≡ 0)
      by None e h = inl h
      by (Some n) e h = ⊎_elim (λ f. inl f) (λ f. inr (new_serial s.run.control m (e ∙ ap Some f))) (found_last o k n m s.env.hand h)
  in_answered (answer.Number n) s o m h = inl h
  in_answered (answer.Value n failed) s o m h = inl h
  in_answered (answer.Clause k failed) s o m h = inl h
  in_answered (answer.Event n x y) s o m h = inl h
  in_answered answer.Nothing s o m h = inl h
  in_answered answer.Go s o m h = inl h

  module _ (input : List ℕ) (opts : Options) (range : InRange opts) where
    -- as a ride begins
    module _ (j : Journal) (w : World) (r : Runs source input opts j w) (fits : RunFits source input opts j w r) (on : is_over j ≡ false) (l : RunSpawnsLater makers source input opts j w r) (p t n : ℕ) (s : State) (q : Asked) (d : AsksIn source opts j w p t n s q) where
      abbrev start : State
      start = answered source d.given (drawn j w t)

      abbrev all : AllNamed source input opts j w r
      all = law_named_runs source input opts j w r range fits on

      abbrev comes : Comes source j w t start
      comes = record { given = d.given; processor = p; runs = d.runs; told = d.told; leads = way.stays }

      abbrev named : ComesNamed source j w all.serials t start comes
      named = all.comes t start comes

      not_new : (x : Exec) → IsBelow all.serials x → (o : ℕ) (z : Members) → x.home ≡ home.Object o → find o start.env.hand ≡ Some z → z.serial ≡ 0 → ⊥
      not_new x below o z i e zero =
          let is : z.serial ≡ named.now (home.Object o) = (named.names.env_named.members_named (home.Object o) z e).serial_is in
          let le : all.serials (home.Object o) ≤ named.now (home.Object o) = named.more (home.Object o) in
          let lt : x.serial < all.serials (home.Object o) = subst (λ h. x.serial < all.serials h) i below in
          omega (arith, is, le, lt, zero)

      start_cell : (x : Exec) → IsBelow all.serials x → (o k : ℕ) → x.home ≡ home.Object o → InCell (w.homes o) k x → (z : Option Members) → find o start.env.hand ≡ z → InCell (or_else z (w.homes o)) k x
      start_cell x below o k i c None e = c
      start_cell x below o k i c (Some z) e =
          ⊎_elim (λ g. subst (λ y. InCell y k x) (found_drawn (held t j) w.homes o z g) c) (λ g. absurd (not_new x below o z i e g)) (in_answered d.given (drawn j w t) o z e)

      pub start_in : AllIn w.homes (run_made source input opts r) → AllIn (seen w.homes start) (run_made source input opts r)
      start_in h x m f =
          named_map w.homes (seen w.homes start) x (λ o k i c. start_cell x (run_below all.serials input opts r all.born l x f m) o k i c (find o start.env.hand) refl) (makers.seat x).place (h x m f)

    module _ (mk : Makers) (asked : Exec → Bool) where
      -- so it is in a run
      pub run_in : {j : Journal} {w : World} (r : Runs source input opts j w) → RunFits source input opts j w r → RunMeets (MakesLater source makers) source input opts j w r → RunSpawnsLater makers source input opts j w r → RunNamesOwn mk asked source input opts r → AllIn w.homes (run_made source input opts r)
      run_in begun fits m l n x e t = absurd (cc)
      run_in (more r o (gives p u v le)) fits m l n x e t = run_in r fits.0 m.0 l.0 n.0 x e t
      run_in (more r o (no_room p u v le)) fits m l n x e t = run_in r fits.0 m.0 l.0 n.0 x e t
      run_in (more {j} {w} r o (acts p u k s q d)) fits m l n x e t =
          let begins = start_in j w r fits.0 o l.0 p u k s q d (run_in r fits.0 m.0 l.0 n.0) in
          let behind = ride_in w.homes mk asked (run_made source input opts r) d.rides m.1 n.1 begins in
          let a = act opts source.sites input j p u k q in
          named_map (seen w.homes s) (world_after source a w u s).homes x (λ o c i z. by (takes_out a o) (or_else (find o s.env.hand) (w.homes o)) c z) (makers.seat x).place (behind x (before_asked q.request s l.1 (ride_made source (run_made source input opts r) d.rides) x t e) t)
        where
          by : (b : Bool) (y : Option Members) (c : ℕ) → InCell y c x → InCell (if b then None else y) c x
          by true y c z = tt
          by false y c z = z
