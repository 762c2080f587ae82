-- An act takes out one object alone, so nobody has at hand what has gone.
use Rattle.std.proofs.Common.{◌≡◌, ℕ, Bool, true, false, List, [], ◌∷◌, ◌++◌, Option, Some, None, refl, sym, ap, ◌∙◌, subst, ◌||◌, inl, inr}
use Rattle.std.specs.Prelude.{pos, if◌then◌else◌}
use Rattle.std.proofs.lemmas.Bool.{eqb-true}
use Rattle.uc_tree.specs.Source.{Source, CleanUp}
use Rattle.uc_entry.specs.declared.entry.Entry.{Entry}
use Rattle.uc_entry.specs.declared.entry.EntryKind.TheVariants as kind
use Rattle.uc_entry.specs.declared.entry.Options.{Options}
use Rattle.uc_entry.specs.declared.request.Asked.{Asked}
use Rattle.uc_entry.specs.declared.request.Request.{Request}
use Rattle.uc_entry.specs.declared.request.Request.TheVariants as ask
use Rattle.uc_acts.specs.Journal.{Journal, is_over, asking, cost}
use Rattle.uc_acts.specs.Known.{has_ended, is_gone, takes_object, takes_out}
use Rattle.uc_acts.specs.Acts.{act, row}
use Rattle.uc_acts.specs.KernelRuns.{InRange}
use Rattle.uc_acts.proofs.Living.{going_row}
use Rattle.uc_acts.proofs.Counted.{gone_push}
use Rattle.uc_acts.proofs.SoundLemmas.{self_test}
use Rattle.uc_entry.specs.Keyed.{find}
use Rattle.uc_machine.specs.declared.exec.Exec.{Exec}
use Rattle.uc_machine.specs.declared.exec.Home.{Home}
use Rattle.uc_machine.specs.declared.exec.Home.TheVariants as home
use Rattle.uc_machine.specs.declared.exec.Stage.{Stage}
use Rattle.uc_machine.specs.declared.exec.Stage.TheVariants.{Fresh, Started, Ended}
use Rattle.uc_machine.specs.Executions.{Execution}
use Rattle.uc_machine.specs.declared.exec.Owner.TheVariants.{Frame}
use Rattle.uc_machine.specs.Pieces.{Value, Todo, Sort, sort, Simple, IsLoop, IsWhole, IsClean, IsFill, IsSweep, IsPart, IsGuard, IsFinish, IsFinishCoroutine, State, Active, Members}
use Rattle.uc_meaning.specs.Runs.{World, May, Runs, world_after, or_else, gives, no_room, acts, begun, more}
use Rattle.uc_state_laws.specs.Fitting.{RunFits}
use Rattle.uc_state_laws.specs.Opens.{RunMeets}
use Rattle.uc_typing.specs.Typing.{Ty, Obj, Table}
use Rattle.uc_life_laws.specs.Things.{Few, AtVariable, Nowhere, Marks, InTodo, Base, Variables}
use Rattle.uc_life_laws.specs.LifeStates.{SlotBy, ParkedBy, HandBy, MembersBy}
use Rattle.uc_life_laws.specs.Lasting.{lasting, lasting_numbers, MayForget, RunForgets, ForgetsAt}
use Rattle.uc_life_laws.specs.Rooted.{IsBase, FreshKeeps, FreshLast}
use Rattle.uc_life_laws.proofs.Rooted.{law_rooted}
use Rattle.uc_life_laws.specs.Placed.{Placed, put, placed, stacked}
use Rattle.uc_rooted_runs.specs.FreshStates.{FreshBy, FreshEx, KeepsFresh}
use Rattle.uc_rooted_runs.specs.FreshRuns.{FreshWorld}
use Rattle.uc_rooted_runs.proofs.FreshRuns.{run_fresh}
use Rattle.uc_rooted_runs.specs.Forgetting.{RootsAt, MayRoot, RunRoots, LawForgetting}

-- an entry by which an object goes takes out that one
one_goes : (u o : ℕ) (j : Journal) (e : Entry) → e.kind ≡ kind.Gone → e.object ≡ o → is_gone u j ≡ false → is_gone u (j ++ e ∷ []) ≡ true → u ≡ o
one_goes u o j e k q f g =
    let both : (is_gone u j || takes_object e.kind e u) ≡ true = sym (gone_push u j e) ∙ g in
    let taken : takes_object e.kind e u ≡ true = ap (λ b. b || takes_object e.kind e u) (sym f) ∙ both in
    let it : takes_object kind.Gone e u ≡ true = ap (λ x. takes_object x e u) (sym k) ∙ taken in
    eqb-true u e.object it ∙ q

-- all executions that do not run, each with its home
module _ (P Q : Exec → Execution (List Todo) Value → Type 0) where
  slot_map : (n : Exec) (o : Option (Execution (List Todo) Value)) → ((x : Execution (List Todo) Value) → P n x → Q n x) → SlotBy P n o → SlotBy Q n o
  slot_map n None f h = tt
  slot_map n (Some x) f h = f x h

  parked_map : (h : Home) (ps : List (ℕ × Option (Execution (List Todo) Value))) → ((n : Exec) (x : Execution (List Todo) Value) → n.home ≡ h → P n x → Q n x) → ParkedBy P h ps → ParkedBy Q h ps
  parked_map h [] f k = tt
  parked_map h (p ∷ ps) f k = (slot_map (record { home = h; serial = p.0 }) p.1 (λ x y. f (record { home = h; serial = p.0 }) x refl y) k.0, parked_map h ps f k.1)

-- one that has no marks has nothing in scope
module _ (P Q : CleanUp → Value → Ty → Type 0) (f : ℕ) (this w : Value) (a : Ty) (older : List Placed) where
  no_mark : (todo : List Todo) → placed f this todo older ≡ [] → InTodo P Q todo w a → ⊥
  no_mark [] e m = m
  no_mark (p ∷ todo) e m = by (sort p) (no_mark todo) e m
    where
      by : (k : Sort) → (placed f this todo older ≡ [] → InTodo P Q todo w a → ⊥) → put k f this (placed f this todo older) ≡ [] → Marks P Q k w a (InTodo P Q todo w a) → ⊥
      by (IsClean c) g e m = cc
      by (IsPart c) g e m = cc
      by Simple g e m = g e m
      by (IsLoop x y z q) g e m = g e m
      by IsWhole g e m = g e m
      by (IsFill x y z) g e m = g e m
      by (IsSweep x) g e m = g e m
      by (IsGuard x) g e m = g e m
      by IsFinish g e m = g e m
      by IsFinishCoroutine g e m = g e m

  -- nor are there marks outwards of it
  none_older : (todo : List Todo) → placed f this todo older ≡ [] → older ≡ []
  none_older [] e = e
  none_older (p ∷ todo) e = by (sort p) (none_older todo) e
    where
      by : (k : Sort) → (placed f this todo older ≡ [] → older ≡ []) → put k f this (placed f this todo older) ≡ [] → older ≡ []
      by (IsClean c) g e = absurd (cc)
      by (IsPart c) g e = absurd (cc)
      by Simple g e = g e
      by (IsLoop x y z q) g e = g e
      by IsWhole g e = g e
      by (IsFill x y z) g e = g e
      by (IsSweep x) g e = g e
      by (IsGuard x) g e = g e
      by IsFinish g e = g e
      by IsFinishCoroutine g e = g e

module _ (t : Table) where
  no_variable : (n : Exec) (cs : List Active) → stacked cs ≡ [] → (w : Value) (a : Ty) → Variables t n cs w a → ⊥
  no_variable n [] e w a h = h
  no_variable n (c ∷ older) e w a (inl h) = no_mark (AtVariable t (Frame n c.frame) c.this) (Nowhere (Frame n c.frame) c.this) c.frame c.this w a (stacked older) c.control e h
  no_variable n (c ∷ older) e w a (inr h) =
      no_variable n older (none_older (AtVariable t (Frame n c.frame) c.this) (Nowhere (Frame n c.frame) c.this) c.frame c.this w a (stacked older) c.control e) w a h

  no_scope : (n : Exec) (x : Execution (List Todo) Value) → x.callers ≡ [] → placed x.run.frame x.run.this x.run.control [] ≡ [] → (w : Value) (a : Ty) → Variables t n (x.run ∷ x.callers) w a → ⊥
  no_scope n x e m w a h = no_variable n (x.run ∷ x.callers) (subst (λ cs. placed x.run.frame x.run.this x.run.control (stacked cs) ≡ []) (sym e) m) w a h

-- one that has not begun knows its own object alone, which has not gone, since the execution is at home there
module _ (t : Table) (few : Few) (j : Journal) (a : List Entry) (x : World) (w : FreshWorld (j ++ a) x) (taken : (q : ℕ) → is_gone q j ≡ false → is_gone q (j ++ a) ≡ true → x.homes q ≡ None) where
  abbrev Kept : Exec → Execution (List Todo) Value → Type 0
  Kept n y = FreshKeeps t (lasting few j) (lasting_numbers few.numbers (j ++ a)) y.links.stage n y

  keeps : (n : Exec) (y : Execution (List Todo) Value) → ((o : ℕ) → n.home ≡ home.Object o → (is_gone o j ≡ false → is_gone o (j ++ a) ≡ false)) → FreshEx n y → Kept n y
  keeps n y f h = by y.links.stage h
    where
      still : (c o : ℕ) → (b d : Bool) → (b ≡ false → d ≡ false) → (if b then false else few.numbers (Obj c) o) ≡ true → (if d then false else few.numbers (Obj c) o) ≡ true
      still c o true d g h = absurd (cc)
      still c o false true g h = let e = g refl in absurd (cc)
      still c o false false g h = h

      by : (g : Stage) → FreshBy g n y → FreshKeeps t (lasting few j) (lasting_numbers few.numbers (j ++ a)) g n y
      by Fresh k = (
        record {
          callers = k.callers;
          operands = k.operands;
          frames = k.frames;
          this = λ c o m e l. still c o (is_gone o j) (is_gone o (j ++ a)) (f o (k.this o e)) l;
        },
        λ w b v. no_scope t n y k.callers k.marks w b v,
      )
      by Started k = tt
      by Ended k = λ w b v. no_variable t n (y.run ∷ y.callers) k w b v

  same_object : (q o : ℕ) → home.Object q ≡ home.Object o → q ≡ o
  same_object q o e = cc

  task_apart : (q o : ℕ) → home.Task q ≡ home.Object o → ⊥
  task_apart q o e = cc

  not_taken : (q : ℕ) (m : Members) → x.homes q ≡ Some m → is_gone q j ≡ false → is_gone q (j ++ a) ≡ false
  not_taken q m e f = by (is_gone q (j ++ a)) refl
    where
      by : (b : Bool) → is_gone q (j ++ a) ≡ b → is_gone q (j ++ a) ≡ false
      by true g = let both : Some m ≡ None = sym e ∙ taken q f g in absurd (cc)
      by false g = g

  fresh_last : FreshLast t few j a x
  fresh_last = record {
    scopes = λ u y b v. not_ended (has_ended u (j ++ a)) (λ e. no_variable t (x.tasks u).env.exec ((x.tasks u).run ∷ (x.tasks u).callers) (w.ended u e) y b v);
    tasks = λ u. record {
      house = parked_map FreshEx Kept (home.Task (x.tasks u).env.own) (x.tasks u).env.house.parked (λ n y i h. keeps n y (λ o e. absurd (task_apart (x.tasks u).env.own o (sym i ∙ e))) h) (w.tasks u).slots.house;
      hand = subst (HandBy Kept) (sym (w.bare u)) tt;
    };
    homes = λ q. at q (x.homes q) refl (w.homes q);
  }
    where
      not_ended : (b : Bool) → (b ≡ true → ⊥) → b ≡ false
      not_ended true f = absurd (f refl)
      not_ended false f = refl

      at : (q : ℕ) (m : Option Members) → x.homes q ≡ m → MembersBy FreshEx (home.Object q) m → MembersBy Kept (home.Object q) m
      at q None e h = tt
      at q (Some m) e h =
          parked_map FreshEx Kept (home.Object q) m.parked (λ n y i h. keeps n y (λ o g. let same = same_object q o (sym i ∙ g) in subst (λ o. is_gone o j ≡ false → is_gone o (j ++ a) ≡ false) same (not_taken q m e)) h) h

module _ (t : Table) (few : Few) (own : Exec → Value → Ty → Bool) (yet : Exec → List Active → Value → Ty → Bool) (rank : Exec → ℕ) (source : Source) (input : List ℕ) (opts : Options) (places : (n : Exec) (w : Value) (b : Ty) → Base few n w b → IsBase w b) where
  -- the act that asks that an object go
  module _ (j : Journal) (w : World) (p n k : ℕ) (s : State) (asked : Asked) (on : is_over (j ++ act opts source.sites input j p n k asked) ≡ false) (o : ℕ) (e : asked.request ≡ ask.Gone o) where
    one : act opts source.sites input j p n k asked ≡ asking kind.Gone p n (cost k asked.line) o (pos 0) (pos 0) ∷ []
    one = (going_row opts source.sites input j p n k asked on).0 ∙ ap (row opts source.sites input j p n (cost k asked.line) asked.line) e

    goes_alone : (u : ℕ) → is_gone u j ≡ false → is_gone u (j ++ act opts source.sites input j p n k asked) ≡ true → u ≡ o
    goes_alone u f g =
        one_goes u o j (asking kind.Gone p n (cost k asked.line) o (pos 0) (pos 0)) refl refl f (ap (λ l. is_gone u (j ++ l)) (sym one) ∙ g)

    is_out : takes_out (act opts source.sites input j p n k asked) o ≡ true
    is_out = ap (λ l. takes_out l o) one ∙ ap (λ b. b || false) (self_test o)

    out : (q : ℕ) → is_gone q j ≡ false → is_gone q (j ++ act opts source.sites input j p n k asked) ≡ true → (world_after source (act opts source.sites input j p n k asked) w n s).homes q ≡ None
    out q f g =
        let same = goes_alone q f g in
        subst (λ q. (world_after source (act opts source.sites input j p n k asked) w n s).homes q ≡ None) (sym same) (ap (λ b. if b then None else or_else (find o s.env.hand) (w.homes o)) is_out)

  forgets : (j : Journal) (a : List Entry) (x : World) (q : Request) → FreshWorld (j ++ a) x → ((o : ℕ) → q ≡ ask.Gone o → (u : ℕ) → is_gone u j ≡ false → is_gone u (j ++ a) ≡ true → u ≡ o) → ((o : ℕ) → q ≡ ask.Gone o → (u : ℕ) → is_gone u j ≡ false → is_gone u (j ++ a) ≡ true → x.homes u ≡ None) → RootsAt t few own yet rank j a x q → ForgetsAt t few j a x q
  forgets j a x (ask.Gone o) w alone taken r = law_rooted t few j a x own yet rank o (alone o refl) places (fresh_last t few j a x w (taken o refl)) r
  forgets j a x q w alone taken r = tt

  may_forget : {j : Journal} {w : World} {a : List Entry} {x : World} (m : May source opts input j w a x) → is_over (j ++ a) ≡ false → FreshWorld (j ++ a) x → MayRoot t few own yet rank source opts input j w a x m → MayForget t few source opts input j w a x m
  may_forget (gives p n s h) on f r = tt
  may_forget (no_room p n s h) on f r = tt
  may_forget {j} {w} (acts p n k s asked d) on f r =
      forgets j (act opts source.sites input j p n k asked) (world_after source (act opts source.sites input j p n k asked) w n s) asked.request f (λ o e. goes_alone j w p n k s asked on o e) (λ o e. out j w p n k s asked on o e) r

  run_forgets : {j : Journal} {w : World} (r : Runs source input opts j w) → InRange opts → RunFits source input opts j w r → is_over j ≡ false → RunMeets (KeepsFresh source) source input opts j w r → RunRoots t few own yet rank source input opts j w r → RunForgets t few source input opts j w r
  run_forgets begun i f on b h = tt
  run_forgets (more r o m) i f on b h = (run_forgets r i f.0 o b.0 h.0, may_forget m on (run_fresh source input opts i (more r o m) f on b) h.1)

pub law_forgetting : LawForgetting
law_forgetting t few own yet rank source input opts j w r range fits on places b h = run_forgets t few own yet rank source input opts places r range fits on b h
