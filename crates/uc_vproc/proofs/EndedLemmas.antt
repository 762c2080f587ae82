-- A task without a value has ended, so whoever is handed out has a value.
use Rattle.std.proofs.Common.{◌≡◌, ℕ, ◌==◌, ◌||◌, Bool, true, false, [], ◌∷◌, ◌++◌, Option, Some, None, IsSome, refl, sym, ap, ◌∙◌, subst}
use Rattle.std.proofs.lemmas.Bool.{eq-eqb}
use Rattle.std.proofs.lemmas.List.Folds.{list_any-append}
use Rattle.std.specs.Prelude.{if◌then◌else◌}
use Rattle.std.specs.List.{list_any}
use Rattle.std.specs.Option.{option_map}
use Rattle.uc_entry.specs.declared.entry.Entry.{Entry}
use Rattle.uc_entry.specs.declared.request.Request.{Request}
use Rattle.uc_entry.specs.declared.request.Request.TheVariants as ask
use Rattle.uc_acts.specs.Journal.{Journal, is_over}
use Rattle.uc_acts.specs.Known.{ends, has_ended}
use Rattle.uc_acts.specs.Acts.{act, dispatch}
use Rattle.uc_acts.specs.KernelRuns.{KernelRuns, more as more_in, acts as acts_in, gives as gives_in}
use Rattle.uc_acts.proofs.Bounds.{over_push}
use Rattle.uc_frames.specs.Machine.{Machine, Members}
use Rattle.uc_state_laws.proofs.Alive.{law_alive}
use Rattle.uc_state_laws.proofs.Makes.{law_ends}
use Rattle.uc_kernel.specs.KernelState.{Brought, Kept}
use Rattle.uc_kernel.specs.Calls.{Acted, Dispatched, MayBring}
use Rattle.uc_kernel.specs.declared.given.Given.{Given}
use Rattle.uc_kernel.specs.declared.given.Next.{Next}
use Rattle.uc_kernel.specs.declared.given.Next.TheVariants.{Go, Blocked, Ended}
use Rattle.uc_vproc.specs.Rest.{AreEnded, stops}
use Rattle.uc_vproc.specs.Desks.{LivesIn, LivesNext, value_after}
use Rattle.uc_vproc.proofs.MakersLemmas.{not_both}

-- a task that has ended stays so
pub ended_on : (u : ℕ) (j a : Journal) → has_ended u j ≡ true → has_ended u (j ++ a) ≡ true
unfolding has_ended
ended_on u j a h =
    list_any-append (λ (e : Entry). ends u e.kind e) j a ∙ ap (λ b. b || list_any (λ (e : Entry). ends u e.kind e) a) h

-- a task that does not go on behind a request has asked its end or a fault
none_stops : (r : Request) (m : Machine) → value_after r m ≡ None → (r ≡ ask.End → ⊥) → ((n : ℕ) → r ≡ ask.Fault n → ⊥) → ⊥
none_stops ask.End m e f g = f refl
none_stops (ask.Fault n) m e f g = g n refl
none_stops r m e f g = cc e

goes_on_asked : (r : Request) → (r ≡ ask.End → ⊥) → ((n : ℕ) → r ≡ ask.Fault n → ⊥) → stops r ≡ false
goes_on_asked ask.End f g = absurd (f refl)
goes_on_asked (ask.Fault n) f g = absurd (g n refl)
goes_on_asked r f g = refl

pub no_child : (x : Option Machine) → option_map Some x ≡ Some None → ⊥
no_child None e = cc e
no_child (Some m) e = cc e

-- the task of an act without a value behind it has ended
pub ended_behind : (k : Kept (Option Machine) Members) (b : Brought (Option Machine) Members) (t : ℕ) (m : Machine) → b.task ≡ value_after b.asked.request m → is_over (k.journal ++ act k.opts k.sites k.input k.journal b.processor t b.ticks b.asked) ≡ false → b.task ≡ None → has_ended t (k.journal ++ act k.opts k.sites k.input k.journal b.processor t b.ticks b.asked) ≡ true
ended_behind k b t m is going none = by (has_ended t (k.journal ++ act k.opts k.sites k.input k.journal b.processor t b.ticks b.asked)) refl
  where
    by : (c : Bool) → has_ended t (k.journal ++ act k.opts k.sites k.input k.journal b.processor t b.ticks b.asked) ≡ c → has_ended t (k.journal ++ act k.opts k.sites k.input k.journal b.processor t b.ticks b.asked) ≡ true
    by true h = h
    by false h =
        let asked = law_ends k.opts k.sites k.input k.journal b.processor t b.ticks b.asked going h in
        absurd (none_stops b.asked.request m (sym is ∙ none) asked.no_end asked.no_fault)

some_by : (x : Option Machine) → (x ≡ None → ⊥) → IsSome x
some_by None f = absurd (f refl)
some_by (Some m) f = refl

dispatch_goes_on : (p t : ℕ) → is_over (dispatch p t ∷ []) ≡ false
unfolding is_over
dispatch_goes_on p t = refl

-- who is dispatched
pub lives_in : (k new : Kept (Option Machine) Members) → KernelRuns k.opts k.sites k.input k.journal → AreEnded k → (o : Option (Given (Option Machine) Members)) → Dispatched k o new → LivesIn o
lives_in k new runs ended None d = tt
lives_in k new runs ended (Some g) d =
    let e : Entry = dispatch g.processor d.task in
    let going : is_over (k.journal ++ e ∷ []) ≡ false = over_push k.journal (e ∷ []) ∙ ap (λ b. b || is_over (e ∷ [])) d.going ∙ dispatch_goes_on g.processor d.task in
    let alive : has_ended d.task (k.journal ++ e ∷ []) ≡ false = law_alive k.opts k.sites k.input (k.journal ++ e ∷ []) (more_in runs d.going (gives_in g.processor d.task d.first.serves d.room)) going g.processor d.task d.hands.runs in
    some_by g.task (λ none. not_both (has_ended d.task (k.journal ++ e ∷ [])) (ended_on d.task k.journal (e ∷ []) (ended d.task (d.hands.value ∙ ap Some none))) alive)

-- the task of an act
own_value : (t : ℕ) (x y : Option Machine) (c : Option (Option Machine)) → (if t == t then Some x else c) ≡ Some y → x ≡ y
own_value t x y c e = cc (sym (ap (λ b. if b then Some x else c) (eq-eqb t t refl)) ∙ e)

pub lives_next : (k new : Kept (Option Machine) Members) (b : Brought (Option Machine) Members) (next : Next (Option Machine) Members) → KernelRuns k.opts k.sites k.input k.journal → is_over k.journal ≡ false → MayBring k b → (stops b.asked.request ≡ false → IsSome b.task) → Acted k b next new → LivesNext next
lives_next k new b Blocked runs going may goes done = tt
lives_next k new b Ended runs going may goes done = tt
lives_next k new b (Go g) runs going may goes done =
    let f = done.follows going may.task may.asks.runs in
    let alive = law_alive k.opts k.sites k.input (k.journal ++ act k.opts k.sites k.input k.journal b.processor may.task b.ticks b.asked) (more_in runs going (acts_in b.processor may.task b.ticks b.asked may.asks)) f.going b.processor may.task f.hands.runs in
    let asked = law_ends k.opts k.sites k.input k.journal b.processor may.task b.ticks b.asked f.going alive in
    subst IsSome (own_value may.task b.task g.task _ f.hands.value) (goes (goes_on_asked b.asked.request asked.no_end asked.no_fault))
