-- Unwinding, and the search for a handler.
use Rattle.std.proofs.Common.{◌≡◌, ℕ, suc, ◌<◌, ◌≤◌, ◌+◌, List, [], ◌∷◌, length, Option, Some, None, Bool, true, false, refl, sym, ap, ◌∙◌, subst, arith}
use Rattle.std.specs.Prelude.{nat_eq, if◌then◌else◌}
use Rattle.std.proofs.lemmas.Bool.{eq-eqb}
use Rattle.uc_tree.specs.Source.{Source, Handlers, NoHandlers, MoreHandlers, CleanUp, Destroys, DestroysAll, Unwinds, Forgets, Leaves, Ends, Frees, Restores, ToReturn}
use Rattle.uc_machine.specs.Executions.{at_depth, others}
use Rattle.uc_machine.specs.declared.exec.UnwindReason.{UnwindReason}
use Rattle.uc_machine.specs.declared.exec.UnwindReason.TheVariants as reason
use Rattle.uc_machine.specs.declared.exec.Visited.{Visited}
use Rattle.uc_machine.specs.Raising as r
use Rattle.uc_machine.specs.Quiet.{Value, Active, State, Todo, at, below}
use Rattle.uc_machine.specs.Pieces as pc
use Rattle.uc_typing.specs.Typing.{Ty, Num, Name, Apart, Sig, Table, FineHandlers, FineClean}
use Rattle.uc_typing.specs.Pieces.{Popped, Met, Ok, Left}
use Rattle.uc_typing.specs.States.{Values, Framed, IsThis, Either, IsBase, Waits, Typed, After, Idle}
use Rattle.uc_typing.proofs.Operands.{either}
use Rattle.uc_typing.proofs.Control.{left, clean_ok, left_clean_ok, FineHandler, MaybeFine, handler_ok, handlers_fine}
use Rattle.uc_typing.proofs.Idle.{moved, taken_down_ok, escape_ok}
use Rattle.uc_typing.proofs.Steps.{returned_ok, left_ok}

-- what stands within so many

count_within_by : (b : Bool) (p : Todo) (ps : List Todo) (n : ℕ) → r.count_round (r.within n ps) ≤ r.count_round ps → r.count_round (if b then p ∷ ps else r.within n ps) ≤ r.count_round (p ∷ ps)
count_within_by true p ps n h = omega arith
count_within_by false p ps n h = omega (arith, h)

count_within : (n : ℕ) (todo : List Todo) → r.count_round (r.within n todo) ≤ r.count_round todo
count_within n [] = omega arith
count_within n (p ∷ ps) = count_within_by (nat_eq (r.count_round (p ∷ ps)) n) p ps n (count_within n ps)

skipped : (b : Bool) (m n k : ℕ) (xs ys : List Todo) → nat_eq (m + n) k ≡ b → k < n → (if b then xs else ys) ≡ ys
skipped true m n k xs ys e l = let f : m + n ≡ k = grind (arith, e) in let c : ⊥ = omega (arith, f, l) in absurd c
skipped false m n k xs ys e l = refl

within_all : (todo : List Todo) → r.within (r.count_round todo) todo ≡ todo
within_all [] = refl
within_all (p ∷ ps) =
    ap (λ (b : Bool). if b then p ∷ ps else r.within (r.count_round (p ∷ ps)) ps) (eq-eqb (r.count_round (p ∷ ps)) (r.count_round (p ∷ ps)) refl)

within_further : (p : Todo) (ps : List Todo) (k : ℕ) → k < r.count_round ps → r.within k (p ∷ ps) ≡ r.within k ps
within_further p ps k l = skipped (nat_eq (r.count_round (p ∷ ps)) k) (r.count_by (pc.sort p)) (r.count_round ps) k (p ∷ ps) (r.within k ps) refl l

within_by : (b : Bool) (p : Todo) (ps : List Todo) (n k : ℕ) → (k < r.count_round (r.within n ps) → r.within k (r.within n ps) ≡ r.within k ps) → k < r.count_round (if b then p ∷ ps else r.within n ps) → r.within k (if b then p ∷ ps else r.within n ps) ≡ r.within k (p ∷ ps)
within_by true p ps n k f l = refl
within_by false p ps n k f l =
    let m : r.count_round (r.within n ps) ≤ r.count_round ps = count_within n ps in
    f l ∙ sym (within_further p ps k (omega (arith, m, l)))

within_within : (n k : ℕ) (todo : List Todo) → k < r.count_round (r.within n todo) → r.within k (r.within n todo) ≡ r.within k todo
within_within n k [] l = refl
within_within n k (p ∷ ps) l = within_by (nat_eq (r.count_round (p ∷ ps)) n) p ps n k (within_within n k ps) l

-- where one is found there is one
found_count : (e : r.Event) (hs : Handlers) (x : r.Handler) → r.handler_for true e hs ≡ Some x → 0 < r.handler_count hs
found_count e NoHandlers x q = absurd (cc)
found_count e (MoreHandlers resumes event cell line body rest) x q = omega arith

guarded : (m n : ℕ) (xs ys zs : List Todo) → 0 < m → ys ≡ zs → (if nat_eq (m + n) n then xs else ys) ≡ zs
guarded m n xs ys zs l e = by (nat_eq (m + n) n) refl
  where
    by : (b : Bool) → nat_eq (m + n) n ≡ b → (if b then xs else ys) ≡ zs
    by true q = let f : m + n ≡ n = grind (arith, q) in let c : ⊥ = omega (arith, f, l) in absurd c
    by false q = e

module _ (t : Table) (g : Sig) (base : List Name) where
  -- what is in order for an exit is so further outwards, in some scope
  abbrev LeftOut : List Todo → Type 0
  LeftOut todo = (sc : List Name) × Left t g base sc todo

  met_left : (sc : List Name) (x : pc.Sort) (todo : List Todo) → Met t g sc x (λ sc. Left t g base sc todo) (λ sc. Ok t g base sc todo) → LeftOut todo
  met_left sc pc.Simple todo h = (sc, h)
  met_left sc (pc.IsLoop o e step b) todo h = (sc, h.2)
  met_left sc pc.IsWhole todo h = (sc, left t g base sc todo [] h.1)
  met_left [] (pc.IsClean c) todo h = absurd h
  met_left (y ∷ sc) (pc.IsClean c) todo h = (sc, h.2)
  met_left sc (pc.IsFill n b d) todo h = (sc, h.1)
  met_left sc (pc.IsSweep e) todo h = (sc, h.1)
  met_left sc (pc.IsPart c) todo h = (sc, h.1)
  met_left sc (pc.IsGuard hs) todo h = (sc, h.2)
  met_left sc pc.IsFinish todo h = (sc, left t g base sc todo [] h)
  met_left sc pc.IsFinishCoroutine todo h = (sc, left t g base sc todo [] h)

  within_left : (n : ℕ) (todo : List Todo) (sc : List Name) → Left t g base sc todo → LeftOut (r.within n todo)
  within_left n [] sc h = (sc, h)
  within_left n (p ∷ ps) sc h =
      let l = met_left sc (pc.sort p) ps h in
      either LeftOut (nat_eq (r.count_round (p ∷ ps)) n) _ _ (sc, h) (within_left n ps l.0 l.1)

  -- a handler that is found, of a scope in which what stands behind its guarded block is in order to be left: the functions give that
  -- by how many stand round it, and how many there are
  abbrev MaybeHit : (ℕ → List Todo) → ℕ → Option r.Hit → Type 0
  MaybeHit inner count None = Unit {0}
  MaybeHit inner count (Some h) = (sc : List Name) × FineHandler t g sc h.handler × Left t g base sc (inner h.rest) × (h.rest < count)

  outer_hit : (m : ℕ) (p : Todo) (ps : List Todo) (o : Option r.Hit) → MaybeHit (λ n. r.within n ps) (r.count_round ps) o → MaybeHit (λ n. if nat_eq (m + r.count_round ps) n then p ∷ ps else r.within n ps) (m + r.count_round ps) o
  outer_hit m p ps None h = tt
  outer_hit m p ps (Some x) h =
      let l : x.rest < r.count_round ps = h.3 in
      let e : (if nat_eq (m + r.count_round ps) x.rest then p ∷ ps else r.within x.rest ps) ≡ r.within x.rest ps = skipped (nat_eq (m + r.count_round ps) x.rest) m (r.count_round ps) x.rest (p ∷ ps) (r.within x.rest ps) refl l in
      (h.0, h.1, subst (Left t g base h.0) (sym e) h.2, omega (arith, l))

  guard_hit : (sc : List Name) (e : r.Event) (p : Todo) (ps : List Todo) (hs : Handlers) (o : Option r.Handler) (other : Option r.Hit) → r.handler_for true e hs ≡ o → MaybeFine t g sc o → Left t g base sc ps → MaybeHit (λ n. r.within n ps) (r.count_round ps) other → MaybeHit (λ n. if nat_eq (r.handler_count hs + r.count_round ps) n then p ∷ ps else r.within n ps) (r.handler_count hs + r.count_round ps) (r.hit_or o (r.count_round ps) other)
  guard_hit sc e p ps hs None other q f l h = outer_hit (r.handler_count hs) p ps other h
  guard_hit sc e p ps hs (Some x) other q f l h =
      let m : 0 < r.handler_count hs = found_count e hs x q in
      let i : (if nat_eq (r.handler_count hs + r.count_round ps) (r.count_round ps) then p ∷ ps else r.within (r.count_round ps) ps) ≡ ps = guarded (r.handler_count hs) (r.count_round ps) (p ∷ ps) (r.within (r.count_round ps) ps) ps m (within_all ps) in
      (sc, f, subst (Left t g base sc) (sym i) l, omega (arith, m))

  hit_by : (sc : List Name) (x : pc.Sort) (e : r.Event) (p : Todo) (ps : List Todo) (other : Option r.Hit) → Met t g sc x (λ sc. Left t g base sc ps) (λ sc. Ok t g base sc ps) → MaybeHit (λ n. r.within n ps) (r.count_round ps) other → MaybeHit (λ n. if nat_eq (r.count_by x + r.count_round ps) n then p ∷ ps else r.within n ps) (r.count_by x + r.count_round ps) (r.hit_by x (r.count_round ps) e other)
  hit_by sc (pc.IsGuard hs) e p ps other m h = guard_hit sc e p ps hs (r.handler_for true e hs) other refl (handlers_fine t g sc true e hs m.0) m.2 h
  hit_by sc x e p ps other m h = outer_hit (r.count_by x) p ps other h

  hits : (e : r.Event) (todo : List Todo) (sc : List Name) → Left t g base sc todo → MaybeHit (λ n. r.within n todo) (r.count_round todo) (r.hit_in e todo)
  hits e [] sc h = tt
  hits e (p ∷ ps) sc h =
      let l = met_left sc (pc.sort p) ps h in
      hit_by sc (pc.sort p) e p ps (r.hit_in e ps) h (hits e ps l.0 l.1)

  -- what is found within so many, of the whole list
  hit_in_whole : (n : ℕ) (todo : List Todo) (o : Option r.Hit) → MaybeHit (λ k. r.within k (r.within n todo)) (r.count_round (r.within n todo)) o → MaybeHit (λ k. r.within k todo) (r.count_round (r.within n todo)) o
  hit_in_whole n todo None h = tt
  hit_in_whole n todo (Some x) h =
      let l : x.rest < r.count_round (r.within n todo) = h.3 in
      (h.0, h.1, subst (Left t g base h.0) (within_within n x.rest todo l) h.2, l)

module _ (t : Table) where
  -- the search over the activations

  pub record Stood (gs : List Sig) (older : List Active) (a : Active) : Type 0 where
    pub sig : Sig
    pub frame : at_depth gs a.frame ≡ Some sig
    pub this : IsThis t sig.this a.this
    pub scope : List Name
    pub base : List Name
    pub left : Left t sig base scope a.control
    pub ends : IsBase t sig a.handles base a.frame older

  abbrev pub Standing : List Sig → List Active → Type 0
  Standing gs [] = Unit {0}
  Standing gs (a ∷ rest) = Stood gs rest a × Standing (others gs) rest

  pub standing : (gs : List Sig) (cs : List Active) → Waits t gs cs → Standing gs cs
  standing gs [] w = tt
  standing gs (c ∷ cs) w = (
    record {
      sig = w.0.sig;
      frame = w.0.frame;
      this = w.0.this;
      scope = w.0.scope;
      base = w.0.base;
      left = left t w.0.sig w.0.base w.0.scope c.control (Num ∷ w.0.own) w.0.ok;
      ends = w.0.ends;
    },
    standing (others gs) cs w.1,
  )

  -- found in one of these activations
  pub record Usable (gs : List Sig) (acts : List Active) (f : r.Found) : Type 0 where
    pub sig : Sig
    pub frame : at_depth gs f.frame ≡ Some sig
    pub this : IsThis t sig.this f.this
    pub scope : List Name
    pub handler : FineHandler t sig scope f.handler
    pub level : f.visited.level < length acts
    pub ends : IsBase t sig (Some f.visited) scope f.frame acts

  abbrev pub MaybeUsable : List Sig → List Active → Option r.Found → Type 0
  MaybeUsable gs acts None = Unit {0}
  MaybeUsable gs acts (Some f) = Usable gs acts f

  -- one more frame leaves those below it where they are
  deeper_by : (b : Bool) (x a : Sig) (xs : List Sig) (d : ℕ) → nat_eq d (length xs) ≡ b → (at_depth xs d ≡ Some a → d < length xs) → at_depth xs d ≡ Some a → (if b then Some x else at_depth xs d) ≡ Some a
  deeper_by true x a xs d q f e = let l = f e in let n : d ≡ length xs = grind (arith, q) in let b : ⊥ = omega arith in absurd b
  deeper_by false x a xs d q f e = e

  below_by : (b : Bool) (x a : Sig) (xs : List Sig) (d : ℕ) → nat_eq d (length xs) ≡ b → (at_depth xs d ≡ Some a → d < length xs) → (if b then Some x else at_depth xs d) ≡ Some a → d < suc (length xs)
  below_by true x a xs d q f e = let n : d ≡ length xs = grind (arith, q) in omega arith
  below_by false x a xs d q f e = let l = f e in omega arith

  depth_below : (xs : List Sig) (d : ℕ) (a : Sig) → at_depth xs d ≡ Some a → d < length xs
  depth_below [] d a e = absurd (cc)
  depth_below (x ∷ xs) d a e = below_by (nat_eq d (length xs)) x a xs d refl (depth_below xs d a) e

  pub deeper : (x : Sig) (xs : List Sig) (d : ℕ) (a : Sig) → at_depth xs d ≡ Some a → at_depth (x ∷ xs) d ≡ Some a
  deeper x xs d a e = deeper_by (nat_eq d (length xs)) x a xs d refl (depth_below xs d a) e

  lifted : (gs : List Sig) (d : ℕ) (a : Sig) → at_depth (others gs) d ≡ Some a → at_depth gs d ≡ Some a
  lifted [] d a e = absurd (cc)
  lifted (g ∷ gs) d a e = deeper g gs d a e

  -- of two
  second : (m n : ℕ) (A B : Type 0) → n < m → B → Either (nat_eq m n) A B
  second m n A B l h = by (nat_eq m n) refl
    where
      by : (b : Bool) → nat_eq m n ≡ b → Either b A B
      by true q = let f : m ≡ n = grind (arith, q) in let c : ⊥ = omega (arith, f, l) in absurd c
      by false q = h

  first : (m : ℕ) (A B : Type 0) → A → Either (nat_eq m m) A B
  first m A B h = subst (λ (b : Bool). Either b A B) (sym (eq-eqb m m refl)) h

  usable_lifted : (gs : List Sig) (a : Active) (acts : List Active) (o : Option r.Found) → MaybeUsable (others gs) acts o → MaybeUsable gs (a ∷ acts) o
  usable_lifted gs a acts None h = tt
  usable_lifted gs a acts (Some f) h =
      let l : f.visited.level < length acts = h.level in
      record {
        sig = h.sig;
        frame = lifted gs f.frame h.sig h.frame;
        this = h.this;
        scope = h.scope;
        handler = h.handler;
        level = omega (arith, l);
        ends = second (length acts) f.visited.level _ (IsBase t h.sig (Some f.visited) h.scope f.frame acts) l h.ends;
      }

  found_or : (gs : List Sig) (o : Option r.Hit) (a : Active) (below_it : List Active) (other : Option r.Found) (s : Stood gs below_it a) (count : ℕ) → MaybeHit t s.sig s.base (λ n. r.within n a.control) count o → MaybeUsable gs (a ∷ below_it) other → MaybeUsable gs (a ∷ below_it) (r.found_or o a below_it other)
  found_or gs None a below_it other s count h u = u
  found_or gs (Some x) a below_it other s count h u = record {
    sig = s.sig;
    frame = s.frame;
    this = s.this;
    scope = h.0;
    handler = h.1;
    level = omega arith;
    ends = first (length below_it) _ _ (s.base, refl, h.2, s.ends);
  }

  pub seeks : (v : Option Visited) (e : r.Event) (gs : List Sig) (acts : List Active) → Standing gs acts → MaybeUsable gs acts (r.seek v e acts)
  seeks None e gs [] h = tt
  seeks (Some v) e gs [] h = tt
  seeks None e gs (a ∷ rest) h =
      found_or gs (r.hit_in e a.control) a rest (r.seek a.handles e rest) h.0 (r.count_round a.control) (hits t h.0.sig h.0.base e a.control h.0.scope h.0.left) (usable_lifted gs a rest _ (seeks a.handles e (others gs) rest h.1))
  seeks (Some v) e gs (a ∷ rest) h =
      let w = within_left t h.0.sig h.0.base v.rest a.control h.0.scope h.0.left in
      either (MaybeUsable gs (a ∷ rest)) (nat_eq (length rest) v.level) _ _
      (found_or gs (r.hit_in e (r.within v.rest a.control)) a rest (r.seek a.handles e rest) h.0 (r.count_round (r.within v.rest a.control)) (hit_in_whole t h.0.sig h.0.base v.rest a.control _ (hits t h.0.sig h.0.base e (r.within v.rest a.control) w.0 w.1)) (usable_lifted gs a rest _ (seeks a.handles e (others gs) rest h.1)))
      (usable_lifted gs a rest _ (seeks (Some v) e (others gs) rest h.1))

  -- the one that raises an event drops what the handler hands over
  dropping : (i : Sig) (base sc : List Name) (n : ℕ) (todo : List Todo) → Left t i base sc (r.within n todo) → Left t i base sc (r.within n (pc.DropNow ∷ todo))
  dropping i base sc n todo h = by (nat_eq (r.count_round (pc.DropNow ∷ todo)) n) refl
    where
      by : (b : Bool) → nat_eq (r.count_round (pc.DropNow ∷ todo)) n ≡ b → Left t i base sc (if b then pc.DropNow ∷ todo else r.within n todo)
      by true q =
          let f : r.count_round (pc.DropNow ∷ todo) ≡ n = grind (arith, q) in
          let m : n ≡ r.count_round todo = omega (arith, f) in
          subst (Left t i base sc) (ap (λ (k : ℕ). r.within k todo) m ∙ within_all todo) h
      by false q = h

  raising : (b : Bool) (i : Sig) (v : Visited) (sc : List Name) (frame : ℕ) (a : Active) (older : List Active) (B : Type 0) → Either b ((outer : List Name) × (a.frame ≡ frame) × Left t i outer sc (r.within v.rest a.control) × IsBase t i a.handles outer frame older) B → Either b ((outer : List Name) × (a.frame ≡ frame) × Left t i outer sc (r.within v.rest (pc.DropNow ∷ a.control)) × IsBase t i a.handles outer frame older) B
  raising true i v sc frame a older B h = (h.0, h.1, dropping i h.0 sc v.rest a.control h.2, h.3)
  raising false i v sc frame a older B h = h

  abbrev no_sig : Sig
  no_sig = record { this = None; params = []; locals = []; whole = false; inward = Apart }

  module _ (source : Source) (s : State) (sigs : List Sig) (g : Sig) (base sc : List Name) (frames : Framed t sigs s.env.frames) (frame : at_depth sigs s.run.frame ≡ Some g) (this : IsThis t g.this s.run.this) (callers : Waits t (others sigs) s.callers) (idle : Idle t s.env) (ends : IsBase t g s.run.handles base s.run.frame s.callers) where
    -- the running activation goes on with this to do, whatever else it keeps
    calm : (inner : List Name) (own : List Ty) (todo : List Todo) (vs : List Value) (why : Option UnwindReason) → Ok t g base inner todo own → Values t own vs → Typed t [] (record s { run = record s.run { control = todo; operands = vs; raised = why } })
    calm inner own todo vs why o h = record {
      sigs = sigs;
      frames = frames;
      run = record { sig = g; own = own; scope = inner; base = base; frame = frame; values = h; this = this; ok = o; ends = ends };
      callers = callers;
      idle = idle;
    }

    on : (todo : List Todo) → Left t g base sc todo → After t source (r.unwinds todo s)
    on todo l = calm sc [] (pc.Unwind ∷ todo) [] s.run.raised l tt

    catch : (o : Option r.Handler) (e : r.Event) (todo : List Todo) → MaybeFine t g sc o → Ok t g base sc todo [] → Left t g base sc todo → After t source (r.catch_step o e todo s)
    catch None e todo f o l = on todo l
    catch (Some h) e todo f o l = calm sc (Num ∷ (Num ∷ (Num ∷ []))) (r.handler_todo h todo) (r.operands_of e) None (handler_ok t g base sc h todo f o) (tt, (tt, (tt, tt)))

    guard : (hs : Handlers) (why : Option UnwindReason) (todo : List Todo) → FineHandlers t g sc hs → Ok t g base sc todo [] → Left t g base sc todo → After t source (r.guard_left hs why todo s)
    guard hs (Some (reason.Event n x y)) todo f o l = catch _ _ todo (handlers_fine t g sc false _ hs f) o l
    guard hs (Some (reason.ReturnTo n)) todo f o l = on todo l
    guard hs (Some reason.Destroyed) todo f o l = on todo l
    guard hs None todo f o l = on todo l

    main : (why : Option UnwindReason) (todo : List Todo) → Ok t g base sc todo [] → After t source (r.main_left why todo s)
    main (Some (reason.ReturnTo n)) todo o = calm sc [] (pc.Finish ∷ todo) [] None o tt
    main (Some (reason.Event n x y)) todo o = tt
    main (Some reason.Destroyed) todo o = tt
    main None todo o = tt

    coroutine : (why : Option UnwindReason) (todo : List Todo) → Ok t g base sc todo [] → After t source (r.coroutine_left why todo s)
    coroutine (Some (reason.ReturnTo n)) todo o = calm sc [] (pc.FinishCoroutine ∷ todo) [] None o tt
    coroutine (Some reason.Destroyed) todo o = moved t source (at todo [] s) _ (taken_down_ok t (at todo [] s) idle)
    coroutine (Some (reason.Event n x y)) todo o = moved t source (at todo [] s) _ (escape_ok t (at todo [] s) idle)
    coroutine None todo o = moved t source (at todo [] s) _ (escape_ok t (at todo [] s) idle)

    -- a scope is left: the call of a mutex member may end here
    scope : (sc : List Name) (c : CleanUp) (b : Bool) (todo : List Todo) → FineClean t g sc c → Left t g base sc todo → After t source (r.scope_left c b todo s)
    scope sc Leaves true todo f l = calm sc (Num ∷ []) (pc.LeaveNow ∷ (pc.Exit ToReturn ∷ todo)) (s.run.result ∷ []) None (f.0, ((refl, f.1), l)) (tt, tt)
    scope sc Leaves false todo f l = calm sc [] _ [] s.run.raised (left_clean_ok t g base sc Leaves (pc.Unwind ∷ todo) [] f l) tt
    scope sc (Destroys e) b todo f l = calm sc [] _ [] s.run.raised (left_clean_ok t g base sc (Destroys e) (pc.Unwind ∷ todo) [] f l) tt
    scope sc (DestroysAll n e) b todo f l = calm sc [] _ [] s.run.raised (left_clean_ok t g base sc (DestroysAll n e) (pc.Unwind ∷ todo) [] f l) tt
    scope sc Unwinds b todo f l = calm sc [] _ [] s.run.raised (left_clean_ok t g base sc Unwinds (pc.Unwind ∷ todo) [] f l) tt
    scope sc Forgets b todo f l = calm sc [] _ [] s.run.raised (left_clean_ok t g base sc Forgets (pc.Unwind ∷ todo) [] f l) tt
    scope sc Ends b todo f l = calm sc [] _ [] s.run.raised (left_clean_ok t g base sc Ends (pc.Unwind ∷ todo) [] f l) tt
    scope sc (Frees o) b todo f l = calm sc [] _ [] s.run.raised (left_clean_ok t g base sc (Frees o) (pc.Unwind ∷ todo) [] f l) tt
    scope sc (Restores k) b todo f l = calm sc [] _ [] s.run.raised (left_clean_ok t g base sc (Restores k) (pc.Unwind ∷ todo) [] f l) tt

    past : (x : pc.Sort) (todo : List Todo) → Met t g sc x (λ sc. Left t g base sc todo) (λ sc. Ok t g base sc todo) → After t source (r.unwind_past x todo s)
    past pc.Simple todo m = on todo m
    past (pc.IsLoop o e step b) todo m = on todo m.2
    past pc.IsWhole todo m =
        whole (r.arrives s.run.raised (length s.callers))
      where
        whole : (b : Bool) → After t source (r.whole_left b todo s)
        whole true = calm sc [] todo [] None m.1 tt
        whole false = on todo (left t g base sc todo [] m.1)
    past (pc.IsClean c) todo m = popped sc m
      where
        popped : (sc : List Name) → Popped t g c sc (λ sc. Left t g base sc todo) → After t source (r.unwind_past (pc.IsClean c) todo s)
        popped [] m = absurd m
        popped (y ∷ sc) m = scope sc c (r.arrives s.run.raised (length s.callers)) todo m.1 m.2
    past (pc.IsFill n b d) todo m = calm sc [] _ [] s.run.raised (m.0, m.1) tt
    past (pc.IsSweep e) todo m = calm sc [] _ [] s.run.raised (m.0, m.1) tt
    past (pc.IsPart c) todo m = calm sc [] _ [] s.run.raised (clean_ok t g base sc c (pc.Unwind ∷ todo) [] m.0.0 m.1) tt
    past (pc.IsGuard hs) todo m = guard hs s.run.raised todo m.0 m.1 m.2
    past pc.IsFinish todo m = main s.run.raised todo m
    past pc.IsFinishCoroutine todo m = coroutine s.run.raised todo m

    pass : (why : Option UnwindReason) (c : Active) (cs : List Active) → Waits t (others sigs) (c ∷ cs) → After t source (r.pass_on why c cs s)
    pass None c cs w = idle
    pass (Some why) c cs w = left_ok t source _ s sigs c cs refl refl refl refl refl s.run.counts idle frames w

    leave_for : (b : Bool) (c : Active) (cs : List Active) → Waits t (others sigs) (c ∷ cs) → After t source (r.leave_for b c cs s)
    leave_for true c cs w = tt
    leave_for false c cs w = pass s.run.raised c cs w

    leave : (cs : List Active) → Waits t (others sigs) cs → After t source (r.leave_step cs s)
    leave [] w = idle
    leave (c ∷ cs) w =
        either (After t source) (r.arrives s.run.raised (length (c ∷ cs))) _ _ (returned_ok t source s.run.result s sigs (c ∷ cs) idle frames w) (leave_for (r.escapes s.run.raised c.raised) c cs w)

    pub unwind_ok : (todo : List Todo) → Left t g base sc todo → After t source (r.unwind_step todo s)
    unwind_ok [] l = leave s.callers callers
    unwind_ok (p ∷ ps) l = past (pc.sort p) ps l

    pub throw_ok : (e : r.Event) (todo : List Todo) → Left t g base sc todo → After t source (r.throw_step e todo s)
    throw_ok e todo l = calm sc [] (pc.Unwind ∷ todo) [] _ l tt

    -- a resumption
    handle_ok : (o : Option r.Found) (e : r.Event) (todo : List Todo) (own : List Ty) → MaybeUsable sigs (record s.run { control = todo } ∷ s.callers) o → Ok t g base sc todo own → Values t own (below (below (below s.run.operands))) → After t source (r.handle_step o e todo s)
    handle_ok None e todo own u o h = throw_ok e todo (left t g base sc todo own o)
    handle_ok (Some f) e todo own u o h = record {
      sigs = no_sig ∷ sigs;
      frames = (tt, frames);
      run = record {
        sig = u.sig;
        own = Num ∷ (Num ∷ (Num ∷ []));
        scope = u.scope;
        base = u.scope;
        frame = deeper no_sig sigs f.frame u.sig u.frame;
        values = (tt, (tt, (tt, tt)));
        this = u.this;
        ok = handler_ok t u.sig u.scope u.scope f.handler [] u.handler refl;
        ends = raising (nat_eq (length s.callers) f.visited.level) u.sig f.visited u.scope f.frame (record s.run { control = todo }) s.callers _ u.ends;
      };
      callers = (
        record {
          sig = g;
          own = own;
          scope = sc;
          base = base;
          frame = frame;
          values = h;
          this = this;
          ok = o;
          ends = ends;
        },
        callers,
      );
      idle = idle;
    }

    pub raise_ok : (e : r.Event) (todo : List Todo) (own : List Ty) → Ok t g base sc todo own → Values t own (below (below (below s.run.operands))) → After t source (r.raise_step e todo s)
    raise_ok e todo own o h =
        handle_ok (r.seek None e (record s.run { control = todo } ∷ s.callers)) e todo own (seeks None e sigs (record s.run { control = todo } ∷ s.callers) (record { sig = g; frame = frame; this = this; scope = sc; base = base; left = left t g base sc todo own o; ends = ends }, standing (others sigs) s.callers callers)) o h
