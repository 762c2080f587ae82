-- Nobody is inside an object that is gone, nor in a queue of it.
use Rattle.std.proofs.Common.{◌≡◌, ℕ, ℤ, ◌==◌, ◌<◌, ◌||◌, Bool, true, false, not, List, [], ◌∷◌, ◌++◌, refl, sym, ap, ◌∙◌, subst, arith, append-nil, append_assoc}
use Rattle.std.specs.Prelude.{pos}
use Rattle.std.specs.List.{list_any}
use Rattle.std.proofs.lemmas.Bool.{eqb-true}
use Rattle.std.proofs.lemmas.List.{map-id}
use Rattle.uc_tree.specs.Programs.{Site}
use Rattle.uc_entry.specs.declared.entry.Entry.{Entry}
use Rattle.uc_entry.specs.declared.entry.EntryKind.{EntryKind}
use Rattle.uc_entry.specs.declared.entry.EntryKind.TheVariants as kind
use Rattle.uc_entry.specs.declared.entry.Options.{Options}
use Rattle.uc_entry.specs.declared.request.Asked.{Asked}
use Rattle.uc_entry.specs.declared.request.Request.{Request}
use Rattle.uc_entry.specs.declared.request.Request.TheVariants as ask
use Rattle.uc_acts.specs.Journal.{Journal, inside, entries_at, is_over, begin, Cost, cost, no_cost, asking}
use Rattle.uc_acts.specs.Queues.{waiting, stacked, running}
use Rattle.uc_acts.specs.Known.{object_count, is_gone, is_gone_by}
use Rattle.uc_acts.specs.Doors.{blocked_at, has_others}
use Rattle.uc_acts.specs.Stations.{Waits, Stacked, times}
use Rattle.uc_acts.specs.Sound.{Sound, here}
use Rattle.uc_acts.specs.Acts.{row, settled, is_faulty, act, fault, dispatch, lone_limit}
use Rattle.uc_acts.specs.KernelRuns.{Fits, KernelMay, KernelRuns, gives, no_room, acts, begun, more}
use Rattle.uc_acts.proofs.OpenLemmas.{any_push}
use Rattle.uc_acts.proofs.Seats.{blocked_after, inside_other, waiting_other, stacked_other, blocked_other, blocked_same, at_push, at_other}
use Rattle.uc_acts.proofs.SoundLemmas.{self_test, all_kept, all_kept_nil}
use Rattle.uc_acts.proofs.Moves.{waiting_now, stacked_now, one_inside, more_objects}
use Rattle.uc_acts.proofs.Rows.{at_run, out_of}
use Rattle.uc_acts.proofs.Hush.{is_silent, door_silent}
use Rattle.uc_acts.proofs.Law.{good_whole}
use Rattle.uc_acts.proofs.Room.{not_blocked}
use Rattle.uc_acts.proofs.Rest.{or_parts, all_of, settled_calm}
use Rattle.uc_acts.proofs.Goes.{going_act}
use Rattle.uc_acts.proofs.Acting.{object_of, is_quiet, destroys, AllBy, by_row}

no_both : (b : Bool) → b ≡ true → b ≡ false → ⊥
no_both b t f = cc

-- an object that is gone: it was made, and nobody is inside, waits, is stacked or blocked there
pub record Dead (o : ℕ) (j : Journal) : Type 0 where
  pub known : o < object_count j
  pub inside : inside o j ≡ []
  pub waits : waiting o j ≡ []
  pub stacks : stacked o j ≡ []
  pub blocks : blocked_at o j ≡ []

pub record Lived (j : Journal) : Type 0 where
  pub dead : (o : ℕ) → is_gone o j ≡ true → Dead o j

pub gone_other : (o : ℕ) (j : Journal) (e : Entry) → (e.object == o) ≡ false → is_gone o (j ++ e ∷ []) ≡ is_gone o j
unfolding is_gone
gone_other o j e h = ap (list_any (λ e. is_gone_by e.kind)) (at_other o j e h)

pub gone_same : (o : ℕ) (j : Journal) (e : Entry) → (e.object == o) ≡ true → is_gone o (j ++ e ∷ []) ≡ (is_gone o j || is_gone_by e.kind)
unfolding is_gone
gone_same o j e h =
    ap (list_any (λ e. is_gone_by e.kind)) (at_push o j e true h) ∙ any_push (λ e. is_gone_by e.kind) (entries_at o j) e

pub nothing_gone : (o : ℕ) → is_gone o [] ≡ false
unfolding is_gone entries_at
nothing_gone o = refl

-- an entry that is no gone makes nothing gone
pub gone_still : (o : ℕ) (j : Journal) (e : Entry) → is_gone_by e.kind ≡ false → is_gone o (j ++ e ∷ []) ≡ is_gone o j
gone_still o j e n = by (e.object == o) refl
  where
    or_false : (b : Bool) → (b || false) ≡ b
    or_false true = refl
    or_false false = refl

    by : (b : Bool) → (e.object == o) ≡ b → is_gone o (j ++ e ∷ []) ≡ is_gone o j
    by true h = gone_same o j e h ∙ ap (λ b. is_gone o j || b) n ∙ or_false (is_gone o j)
    by false h = gone_other o j e h

dead_same : (o : ℕ) (j : Journal) (e : Entry) → inside o (j ++ e ∷ []) ≡ inside o j → waiting o (j ++ e ∷ []) ≡ waiting o j → stacked o (j ++ e ∷ []) ≡ stacked o j → blocked_at o (j ++ e ∷ []) ≡ blocked_at o j → Dead o j → Dead o (j ++ e ∷ [])
dead_same o j e a b c d h = record {
  known = more_objects j e o h.known;
  inside = a ∙ h.inside;
  waits = b ∙ h.waits;
  stacks = c ∙ h.stacks;
  blocks = d ∙ h.blocks;
}

silent_blocks : (k : EntryKind) (e : Entry) (bs : List (ℕ × ℕ × ℤ)) → is_silent k ≡ true → blocked_after k e bs ≡ bs
silent_blocks kind.Begin e bs h = cc
silent_blocks kind.Make e bs h = cc
silent_blocks kind.Made e bs h = cc
silent_blocks kind.Spawn e bs h = cc
silent_blocks kind.Call e bs h = cc
silent_blocks kind.Leave e bs h = cc
silent_blocks kind.Admit e bs h = cc
silent_blocks kind.Push e bs h = cc
silent_blocks kind.Accept e bs h = cc
silent_blocks kind.Wait e bs h = cc
silent_blocks kind.SignalBlock e bs h = cc
silent_blocks kind.End e bs h = cc
silent_blocks kind.Gone e bs h = cc
silent_blocks k e bs h = all_kept_nil bs

blocked_silent : (o : ℕ) (j : Journal) (e : Entry) → is_silent e.kind ≡ true → blocked_at o (j ++ e ∷ []) ≡ blocked_at o j
blocked_silent o j e n = by (e.object == o) refl
  where
    by : (b : Bool) → (e.object == o) ≡ b → blocked_at o (j ++ e ∷ []) ≡ blocked_at o j
    by true h = blocked_same o j e h ∙ silent_blocks e.kind e (blocked_at o j) n
    by false h = blocked_other o j e h

silent_stays : (k : EntryKind) → is_silent k ≡ true → is_gone_by k ≡ false
silent_stays kind.Gone h = cc
silent_stays k h = refl

-- an entry that moves no door
lived_silent : (j : Journal) (e : Entry) → is_silent e.kind ≡ true → Lived j → Lived (j ++ e ∷ [])
lived_silent j e n l = record {
  dead = λ o h.
      let d = door_silent o j e n in
      dead_same o j e d.inside d.waiting d.stacked (blocked_silent o j e n) (l.dead o (sym (gone_still o j e (silent_stays e.kind n)) ∙ h));
}

-- one at an object that is not gone, which it does not take out
lived_at : (j : Journal) (e : Entry) → is_gone_by e.kind ≡ false → is_gone e.object j ≡ false → Lived j → Lived (j ++ e ∷ [])
lived_at j e n alive l = record { dead = λ o h. by o (e.object == o) refl (sym (gone_still o j e n) ∙ h) }
  where
    by : (o : ℕ) (b : Bool) → (e.object == o) ≡ b → is_gone o j ≡ true → Dead o (j ++ e ∷ [])
    by o true h g = absurd (no_both (is_gone o j) g (ap (λ v. is_gone v j) (sym (eqb-true e.object o h)) ∙ alive))
    by o false h g =
        dead_same o j e (inside_other o j e h) (waiting_other o j e h) (stacked_other o j e h) (blocked_other o j e h) (l.dead o g)

module _ (p t o : ℕ) where
  -- entries that take nothing out
  pub lived_all : (j : Journal) (a : List Entry) (i : Journal) → AllBy p t o (is_gone o i ≡ false) false a → ((v : ℕ) → is_gone v j ≡ is_gone v i) → Lived j → Lived (j ++ a)
  lived_all j [] i b same l = subst Lived (sym (append-nil j)) l
  lived_all j (e ∷ a) i b same l =
      let stays : is_gone_by e.kind ≡ false = stay (is_gone_by e.kind) refl b.0.gone in
      subst Lived (append_assoc j (e ∷ []) a) (lived_all (j ++ e ∷ []) a i b.1 (λ v. gone_still v j e stays ∙ same v) (by (is_silent e.kind) refl stays))
    where
      stay : (c : Bool) → is_gone_by e.kind ≡ c → (is_gone_by e.kind ≡ true → false ≡ true) → is_gone_by e.kind ≡ false
      stay false h f = h
      stay true h f = absurd (cc (f h))

      by : (c : Bool) → is_silent e.kind ≡ c → is_gone_by e.kind ≡ false → Lived (j ++ e ∷ [])
      by true h n = lived_silent j e h l
      by false h n =
          let d = b.0.door h in
          lived_at j e n (same e.object ∙ ap (λ v. is_gone v i) d.0 ∙ d.1) l

-- the object of a request is not gone
fresh : (j : Journal) → Lived j → is_gone (object_count j) j ≡ false
fresh j l = by (is_gone (object_count j) j) refl
  where
    by : (b : Bool) → is_gone (object_count j) j ≡ b → is_gone (object_count j) j ≡ false
    by false h = h
    by true h = let lt = (l.dead (object_count j) h).known in absurd (omega arith)

pub alive : (opts : Options) (sites : List Site) (j : Journal) (t : ℕ) (r : Request) → Lived j → Fits opts sites j t r → is_quiet r ≡ false → is_gone (object_of t j r) j ≡ false
alive opts sites j t (ask.Make class) l f h = fresh j l
alive opts sites j t (ask.Made o) l f h = f.known.not_gone
alive opts sites j t (ask.Spawn o) l f h = f.0.known.not_gone
alive opts sites j t (ask.Call o m) l f h = f.0.known.not_gone
alive opts sites j t (ask.Leave o failed) l f h = f.known.not_gone
alive opts sites j t (ask.Accept o site mask) l f h = f.0.known.not_gone
alive opts sites j t (ask.Wait o c n) l f h = f.known.not_gone
alive opts sites j t (ask.Signal o c) l f h = f.known.not_gone
alive opts sites j t (ask.SignalBlock o c) l f h = f.known.not_gone
alive opts sites j t ask.End l f h = f.known.not_gone
alive opts sites j t (ask.Gone o) l f h = f.known.not_gone
alive opts sites j t r l f h = cc

-- an act without a fault is its row
pub going_row : (opts : Options) (sites : List Site) (input : List ℕ) (j : Journal) (p t k : ℕ) (asked : Asked) → is_over (j ++ act opts sites input j p t k asked) ≡ false → (act opts sites input j p t k asked ≡ row opts sites input j p t (cost k asked.line) asked.line asked.request) × (is_faulty (settled (fault p t no_cost 10 asked.line) j (row opts sites input j p t (cost k asked.line) asked.line asked.request)) ≡ false)
going_row opts sites input j p t k asked o =
    let g = going_act opts sites input j p t k asked o in
    (g.is ∙ settled_calm (fault p t no_cost 10 asked.line) j (row opts sites input j p t (cost k asked.line) asked.line asked.request) refl g.faultless, g.faultless)

module _ (opts : Options) (sites : List Site) (input : List ℕ) (j : Journal) (p t : ℕ) (k : Cost) (line : ℕ) (s : Sound j) (runs : running p j ≡ t ∷ []) (l : Lived j) where
  lived_gone : (o : ℕ) → Fits opts sites j t (ask.Gone o) → has_others o t j ≡ false → Lived (j ++ asking kind.Gone p t k o (pos 0) (pos 0) ∷ [])
  lived_gone o f h = record { dead = λ v g. by v (o == v) refl g }
    where
      e : Entry
      e = asking kind.Gone p t k o (pos 0) (pos 0)

      nobody : Dead o (j ++ asking kind.Gone p t k o (pos 0) (pos 0) ∷ [])
      nobody =
          let e = asking kind.Gone p t k o (pos 0) (pos 0) in
          let at = at_run opts sites input j p t k line s runs in
          let x = or_parts (list_any (λ w. not (w.0 == t)) (waiting o j)) _ h in
          let y = or_parts (list_any (λ x. not (x == t)) (stacked o j)) _ x.1 in
          record {
            known = more_objects j e o f.known.made;
            inside = out_of opts sites input j p t k line s runs e (one_inside j o t s f.inside) (λ xs. refl);
            waits = waiting_now j e ∙ all_kept_nil (waiting o j) ∙ all_of (λ w. w.0) t (waiting o j) x.0 (s.seats t (Waits o) ∙ ap (here (Waits o)) at);
            stacks = stacked_now j e ∙ all_kept (stacked o j) ∙ all_of (λ x. x) t (stacked o j) y.0 (ap (times t) (map-id (stacked o j)) ∙ s.seats t (Stacked o) ∙ ap (here (Stacked o)) at);
            blocks = blocked_same o j e (self_test o) ∙ all_kept_nil (blocked_at o j) ∙ all_of (λ b. b.0) t (blocked_at o j) y.1 (not_blocked j s o p t at);
          }

      by : (v : ℕ) (b : Bool) → (o == v) ≡ b → is_gone v (j ++ asking kind.Gone p t k o (pos 0) (pos 0) ∷ []) ≡ true → Dead v (j ++ asking kind.Gone p t k o (pos 0) (pos 0) ∷ [])
      by v true h g = subst (λ x. Dead x (j ++ asking kind.Gone p t k o (pos 0) (pos 0) ∷ [])) (eqb-true o v h) nobody
      by v false h g =
          let e = asking kind.Gone p t k o (pos 0) (pos 0) in
          dead_same v j e (inside_other v j e h) (waiting_other v j e h) (stacked_other v j e h) (blocked_other v j e h) (l.dead v (sym (gone_other v j e h) ∙ g))

  lived_plain : (r : Request) → destroys r ≡ false → Fits opts sites j t r → Lived (j ++ row opts sites input j p t k line r)
  lived_plain r h f =
      let b = by_row opts sites input j p t k line (is_gone (object_of t j r) j ≡ false) r (alive opts sites j t r l f) in
      lived_all p t (object_of t j r) j (row opts sites input j p t k line r) j (subst (λ g. AllBy p t (object_of t j r) (is_gone (object_of t j r) j ≡ false) g (row opts sites input j p t k line r)) h b) (λ v. refl) l

  lived_row : (r : Request) → Fits opts sites j t r → is_faulty (settled (fault p t no_cost 10 line) j (row opts sites input j p t k line r)) ≡ false → Lived (j ++ row opts sites input j p t k line r)
  lived_row (ask.Gone o) f calm = by (has_others o t j) refl calm
    where
      clash : true ≡ false → ⊥
      clash e = cc

      by : (b : Bool) → has_others o t j ≡ b → is_faulty (settled (fault p t no_cost 10 line) j (row opts sites input j p t k line (ask.Gone o))) ≡ false → Lived (j ++ asking kind.Gone p t k o (pos 0) (pos 0) ∷ [])
      by true h c = absurd (clash (simp h at c))
      by false h c = lived_gone o f h
  lived_row r f calm = lived_plain r refl f

lived_may : (opts : Options) (sites : List Site) (input : List ℕ) (j : Journal) (a : List Entry) → Sound j → Lived j → KernelMay opts sites input j a → is_over (j ++ a) ≡ false → Lived (j ++ a)
lived_may opts sites input j _ s l (gives p t v le) o = lived_silent j (dispatch p t) refl l
lived_may opts sites input j _ s l (no_room p t v le) o = lived_silent j lone_limit refl l
lived_may opts sites input j _ s l (acts p t k asked m) o =
    let g = going_row opts sites input j p t k asked o in
    subst (λ a. Lived (j ++ a)) (sym g.0) (lived_row opts sites input j p t (cost k asked.line) asked.line s m.runs l asked.request m.fits g.1)

lived_begin : (opts : Options) → Lived (begin opts ∷ [])
lived_begin opts = record { dead = λ o h. absurd (none o h) }
  where
    none : (o : ℕ) → is_gone o (begin opts ∷ []) ≡ true → ⊥
    none o h = no_both (is_gone o (begin opts ∷ [])) h (gone_still o [] (begin opts) refl ∙ nothing_gone o)

pub lived_run : (opts : Options) (sites : List Site) (input : List ℕ) {j : Journal} → KernelRuns opts sites input j → is_over j ≡ false → Lived j
lived_run opts sites input begun o = lived_begin opts
lived_run opts sites input (more {j} {a} r before m) o =
    lived_may opts sites input j a (good_whole opts sites input r).sound (lived_run opts sites input r before) m o
