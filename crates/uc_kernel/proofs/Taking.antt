-- The act of what is brought.
use Rattle.std.proofs.Common.{◌≡◌, ℕ, ◌+◌, ◌<◌, ◌≤◌, Bool, false, List, [], ◌∷◌, ◌++◌, Option, Some, refl, sym, ap, ◌∙◌, subst, length, arith, length-append}
use Rattle.std.specs.Prelude.{slice_get}
use Rattle.uc_tree.specs.declared.limits.TheConstants.{INPUT_BYTES}
use Rattle.uc_entry.specs.declared.entry.Entry.{Entry}
use Rattle.uc_entry.specs.declared.entry.EntryKind.{EntryKind}
use Rattle.uc_entry.specs.declared.request.Request.{Request}
use Rattle.uc_acts.specs.Journal.{held, is_over}
use Rattle.uc_acts.specs.KernelRuns.{KernelRuns, MayAsk, more}
use Rattle.uc_acts.specs.KernelRuns as kernel_runs
use Rattle.uc_acts.specs.Acts.{act}
use Rattle.uc_kernel_core.specs.Mirrors.{Seen, Appended}
use Rattle.uc_kernel_core.specs.CoreActs.{acts, makes_new}
use Rattle.uc_kernel.specs.declared.given.Next.{Next}
use Rattle.uc_kernel.specs.declared.rests.TaskAtRest.{TaskAtRest}
use Rattle.uc_kernel.specs.KernelState.{Brought, Store, kept, stored, put_back}
use Rattle.uc_kernel.specs.Calls.{MayBring, Acted, Follows}
use Rattle.uc_kernel.specs.AtRest.{Lies, IsKept, IsAct, IsSpawn, FromAct, FromFirst, admission_in, earlier}
use Rattle.uc_kernel.proofs.Hands.{no_both}
use Rattle.uc_kernel.proofs.Shapes.{Shaped, is_plain, is_spawning, shaped_act}
use Rattle.uc_kernel.proofs.Spawning.{shaped_spawned}
use Rattle.uc_kernel.proofs.Following.{runs_on, same_one}
use Rattle.uc_kernel.proofs.Dispatching.{seen_of, seen_is}

longer : (P : EntryKind → Bool) (a : List Entry) → Shaped P a → 1 ≤ length a
longer P [] h = absurd h
longer P (e ∷ a) h = omega arith

-- what is brought, told of the fields of a kernel
pub brought : {T M : Type 0} (x y : Store T M) (b : Brought T M) → y ≡ x → (is_over x.journal ≡ false → MayBring (kept x) b) → is_over y.journal ≡ false → MayBring (kept y) b
brought x y b e f g = subst (λ z. is_over z.journal ≡ false → MayBring (kept z) b) (sym e) f g

pub told_at : (i i' l l' : List Entry) (first : Entry) → i ≡ i' → l ≡ l' → slice_get i (length l) ≡ Some first → slice_get i' (length l') ≡ Some first
told_at i i' l l' first e f h = ap (λ x. slice_get x (length l')) (sym e) ∙ ap (λ x. slice_get i (length x)) (sym f) ∙ h

pub admission_at : (i i' l l' : List Entry) (x : Option Entry) → i ≡ i' → l ≡ l' → x ≡ admission_in (slice_get i (length l + 1)) → x ≡ admission_in (slice_get i' (length l' + 1))
admission_at i i' l l' x e f h =
    h ∙ ap (λ y. admission_in (slice_get i (length y + 1))) f ∙ ap (λ y. admission_in (slice_get y (length l' + 1))) e

-- a request by another name
pub renamed : (s s' : Seen) (p t ticks line : ℕ) (r r' : Request) → r' ≡ r → Appended s s' (acts s p t ticks line r) → Appended s s' (acts s p t ticks line r')
renamed s s' p t ticks line r r' e h = subst (λ q. Appended s s' (acts s p t ticks line q)) (sym e) h

pub less_at : (i i' l l' : List Entry) → i ≡ i' → l ≡ l' → length l' < length i' → length l < length i
less_at i i' l l' e f h =
    let a : length i ≡ length i' = ap length e in
    let b : length l ≡ length l' = ap length f in omega (arith, a, b, h)

module _ {T M : Type 0} (s : Seen) (wanted : Bool) (tasks : List (Option (TaskAtRest T M))) (loose : List (Option M)) (k : IsKept s tasks loose) (going : is_over s.journal ≡ false) (b : Brought T M) (brings : MayBring (kept (stored s wanted tasks loose)) b) where
  -- who acts, as the core is told
  module _ (p t ticks line : ℕ) (p_is : p ≡ b.processor) (t_is : t ≡ brings.task) (ticks_is : ticks ≡ b.ticks) (line_is : line ≡ b.asked.line) where
    pub asks_it : MayAsk s.opts s.sites s.journal p t ticks b.asked.request
    asks_it =
        subst (λ x. MayAsk s.opts s.sites s.journal x t ticks b.asked.request) (sym p_is) (subst (λ x. MayAsk s.opts s.sites s.journal b.processor x ticks b.asked.request) (sym t_is) (subst (λ x. MayAsk s.opts s.sites s.journal b.processor brings.task x b.asked.request) (sym ticks_is) brings.asks))

    asks_t : MayAsk s.opts s.sites s.journal b.processor t b.ticks b.asked.request
    asks_t = subst (λ x. MayAsk s.opts s.sites s.journal b.processor x b.ticks b.asked.request) (sym t_is) brings.asks

    abbrev a : List Entry
    a = act s.opts s.sites s.input s.journal b.processor t b.ticks b.asked

    act_is : acts s p t ticks line b.asked.request ≡ act s.opts s.sites s.input s.journal b.processor t b.ticks b.asked
    act_is =
        ap (λ x. act s.opts s.sites s.input s.journal x t ticks (record { request = b.asked.request; line = line })) p_is ∙ ap (λ x. act s.opts s.sites s.input s.journal b.processor t x (record { request = b.asked.request; line = line })) ticks_is ∙ ap (λ x. act s.opts s.sites s.input s.journal b.processor t b.ticks (record { request = b.asked.request; line = x })) line_is

    module _ (s' : Seen) (after : Appended s s' (acts s p t ticks line b.asked.request)) where
      journal_is : s'.journal ≡ s.journal ++ a
      journal_is = after.journal ∙ ap (λ l. s.journal ++ l) act_is

      pub one_more : makes_new b.asked.request ≡ false → length s.journal < length s'.journal
      one_more plain =
          let l = longer is_plain a (shaped_act s.opts s.sites s.input s.journal b.processor t b.ticks b.asked plain asks_t.fits) in
          let e : length s'.journal ≡ length (s.journal ++ a) = ap length journal_is in
          let n = length-append s.journal a in omega (arith, l, e, n)

      same_seen : s' ≡ seen_of (s.journal ++ a) s.sites s.opts s.input
      same_seen = seen_is s s' (acts s p t ticks line b.asked.request) after ∙ ap (λ l. seen_of (s.journal ++ l) s.sites s.opts s.input) act_is

      module _ (first : Entry) (admission : Option Entry) (first_is : slice_get s'.journal (length s.journal) ≡ Some first) (admission_is : admission ≡ admission_in (slice_get s'.journal (length s.journal + 1))) where
        at_seen : IsAct (seen_of (s.journal ++ a) s.sites s.opts s.input) t first admission b tasks loose
        at_seen = record {
          before = s.journal;
          runs = k.runs;
          going = going;
          asks = asks_t;
          after = refl;
          range = k.range;
          hand = brings.hand ∙ ap (λ v. held v s.journal) (sym t_is);
          room = brings.room;
          lies = k.lies going;
          first_is = ap (λ i. slice_get i (length s.journal)) (sym journal_is) ∙ first_is;
          admission_is = admission_is ∙ ap (λ i. admission_in (slice_get i (length s.journal + 1))) journal_is;
        }

        pub is_act : IsAct s' t first admission b tasks loose
        is_act = subst (λ x. IsAct x t first admission b tasks loose) (sym same_seen) at_seen

        module _ (tasks' : List (Option (TaskAtRest T M))) (loose' : List (Option M)) (plain : makes_new b.asked.request ≡ false) (lies : is_over s'.journal ≡ false → Lies s'.journal tasks' loose') where
          pub kept_on : IsKept s' tasks' loose'
          kept_on = record {
            runs = runs_on s' t first admission b tasks loose is_act plain;
            range = is_act.range;
            small = subst (λ x. length x.input ≤ INPUT_BYTES) (sym same_seen) k.small;
            lies = lies;
          }

        module _ (tasks' : List (Option (TaskAtRest T M))) (loose' : List (Option M)) (next : Next T M) (follows : (x : IsAct s' t first admission b tasks loose) (w : Bool) → Follows (put_back (act s'.opts s'.sites s'.input x.before b.processor t b.ticks b.asked) t b.task b.members.items b.child (kept (stored (earlier x.before s') w tasks loose))) (kept (stored s' w tasks' loose')) b.processor t next) where
          abbrev Claim : Seen → ℕ → Type 0
          Claim y u = Follows (put_back (act s.opts s.sites s.input s.journal b.processor u b.ticks b.asked) u b.task b.members.items b.child (kept (stored s wanted tasks loose))) (kept (stored y wanted tasks' loose')) b.processor u next

          there : (y : Seen) → y ≡ seen_of (s.journal ++ a) s.sites s.opts s.input → ((x : IsAct y t first admission b tasks loose) (w : Bool) → Follows (put_back (act y.opts y.sites y.input x.before b.processor t b.ticks b.asked) t b.task b.members.items b.child (kept (stored (earlier x.before y) w tasks loose))) (kept (stored y w tasks' loose')) b.processor t next) → Claim y t
          unfolding at_seen
          there y e f = back (sym e) at
            where
              at : Claim (seen_of (s.journal ++ a) s.sites s.opts s.input) t
              at = (subst (λ z. (x : IsAct z t first admission b tasks loose) (w : Bool) → Follows (put_back (act z.opts z.sites z.input x.before b.processor t b.ticks b.asked) t b.task b.members.items b.child (kept (stored (earlier x.before z) w tasks loose))) (kept (stored z w tasks' loose')) b.processor t next) e f) at_seen wanted

              back : seen_of (s.journal ++ a) s.sites s.opts s.input ≡ y → Claim (seen_of (s.journal ++ a) s.sites s.opts s.input) t → Claim y t
              back h claim = subst (λ z. Claim z t) h claim

          pub acted : Acted (kept (stored s wanted tasks loose)) b next (kept (stored s' wanted tasks' loose'))
          acted = record {
            over = λ h. absurd (no_both (is_over s.journal) h going);
            follows = λ g u runs. subst (Claim s') (same_one t u (sym asks_t.runs ∙ runs)) (there s' same_seen follows);
          }

      -- ---- the same, of a request for which memory is taken
      from_seen : FromAct (seen_of (s.journal ++ a) s.sites s.opts s.input) t b tasks loose
      from_seen = record {
        before = s.journal;
        runs = k.runs;
        going = going;
        asks = asks_t;
        after = refl;
        range = k.range;
        hand = brings.hand ∙ ap (λ v. held v s.journal) (sym t_is);
        room = brings.room;
        lies = k.lies going;
      }

      pub from_act : FromAct s' t b tasks loose
      from_act = subst (λ x. FromAct x t b tasks loose) (sym same_seen) from_seen

      pub one_more_spawned : IsSpawn b.asked.request → length s.journal < length s'.journal
      one_more_spawned sp =
          let l = longer is_spawning a (shaped_spawned s.opts s.sites s.input s.journal b.processor t b.ticks b.asked sp) in
          let e : length s'.journal ≡ length (s.journal ++ a) = ap length journal_is in
          let n = length-append s.journal a in omega (arith, l, e, n)

      module _ (first : Entry) (first_is : slice_get s'.journal (length s.journal) ≡ Some first) where
        first_seen : FromFirst (seen_of (s.journal ++ a) s.sites s.opts s.input) t first b tasks loose
        unfolding from_seen
        first_seen = record {
          before = s.journal;
          from = from_seen;
          before_is = refl;
          first_is = ap (λ i. slice_get i (length s.journal)) (sym journal_is) ∙ first_is;
        }

        pub from_first : FromFirst s' t first b tasks loose
        from_first = subst (λ x. FromFirst x t first b tasks loose) (sym same_seen) first_seen

        module _ (tasks' : List (Option (TaskAtRest T M))) (loose' : List (Option M)) (next : Next T M) (follows : (x : FromFirst s' t first b tasks loose) (w : Bool) → Follows (put_back (act s'.opts s'.sites s'.input x.before b.processor t b.ticks b.asked) t b.task b.members.items b.child (kept (stored (earlier x.before s') w tasks loose))) (kept (stored s' w tasks' loose')) b.processor t next) where
          abbrev Told : Seen → ℕ → Type 0
          Told y u = Follows (put_back (act s.opts s.sites s.input s.journal b.processor u b.ticks b.asked) u b.task b.members.items b.child (kept (stored s wanted tasks loose))) (kept (stored y wanted tasks' loose')) b.processor u next

          told : (y : Seen) → y ≡ seen_of (s.journal ++ a) s.sites s.opts s.input → ((x : FromFirst y t first b tasks loose) (w : Bool) → Follows (put_back (act y.opts y.sites y.input x.before b.processor t b.ticks b.asked) t b.task b.members.items b.child (kept (stored (earlier x.before y) w tasks loose))) (kept (stored y w tasks' loose')) b.processor t next) → Told y t
          unfolding first_seen
          told y e f = back (sym e) at
            where
              at : Told (seen_of (s.journal ++ a) s.sites s.opts s.input) t
              at = (subst (λ z. (x : FromFirst z t first b tasks loose) (w : Bool) → Follows (put_back (act z.opts z.sites z.input x.before b.processor t b.ticks b.asked) t b.task b.members.items b.child (kept (stored (earlier x.before z) w tasks loose))) (kept (stored z w tasks' loose')) b.processor t next) e f) first_seen wanted

              back : seen_of (s.journal ++ a) s.sites s.opts s.input ≡ y → Told (seen_of (s.journal ++ a) s.sites s.opts s.input) t → Told y t
              back h claim = subst (λ z. Told z t) h claim

          pub acted_first : Acted (kept (stored s wanted tasks loose)) b next (kept (stored s' wanted tasks' loose'))
          acted_first = record {
            over = λ h. absurd (no_both (is_over s.journal) h going);
            follows = λ g u runs. subst (Told s') (same_one t u (sym asks_t.runs ∙ runs)) (told s' same_seen follows);
          }

      module _ (tasks' : List (Option (TaskAtRest T M))) (loose' : List (Option M)) where
        pub kept_from : (is_over s'.journal ≡ false → Lies s'.journal tasks' loose') → IsKept s' tasks' loose'
        kept_from lies = record {
          runs = subst (KernelRuns s'.opts s'.sites s'.input) (sym from_act.after) (more from_act.runs from_act.going (kernel_runs.acts b.processor t b.ticks b.asked from_act.asks));
          range = from_act.range;
          small = subst (λ x. length x.input ≤ INPUT_BYTES) (sym same_seen) k.small;
          lies = lies;
        }

        module _ (next : Next T M) (follows : (x : FromAct s' t b tasks loose) (w : Bool) → Follows (put_back (act s'.opts s'.sites s'.input x.before b.processor t b.ticks b.asked) t b.task b.members.items b.child (kept (stored (earlier x.before s') w tasks loose))) (kept (stored s' w tasks' loose')) b.processor t next) where
          abbrev Said : Seen → ℕ → Type 0
          Said y u = Follows (put_back (act s.opts s.sites s.input s.journal b.processor u b.ticks b.asked) u b.task b.members.items b.child (kept (stored s wanted tasks loose))) (kept (stored y wanted tasks' loose')) b.processor u next

          said : (y : Seen) → y ≡ seen_of (s.journal ++ a) s.sites s.opts s.input → ((x : FromAct y t b tasks loose) (w : Bool) → Follows (put_back (act y.opts y.sites y.input x.before b.processor t b.ticks b.asked) t b.task b.members.items b.child (kept (stored (earlier x.before y) w tasks loose))) (kept (stored y w tasks' loose')) b.processor t next) → Said y t
          unfolding from_seen
          said y e f = back (sym e) at
            where
              at : Said (seen_of (s.journal ++ a) s.sites s.opts s.input) t
              at = (subst (λ z. (x : FromAct z t b tasks loose) (w : Bool) → Follows (put_back (act z.opts z.sites z.input x.before b.processor t b.ticks b.asked) t b.task b.members.items b.child (kept (stored (earlier x.before z) w tasks loose))) (kept (stored z w tasks' loose')) b.processor t next) e f) from_seen wanted

              back : seen_of (s.journal ++ a) s.sites s.opts s.input ≡ y → Said (seen_of (s.journal ++ a) s.sites s.opts s.input) t → Said y t
              back h claim = subst (λ z. Said z t) h claim

          pub acted_from : Acted (kept (stored s wanted tasks loose)) b next (kept (stored s' wanted tasks' loose'))
          acted_from = record {
            over = λ h. absurd (no_both (is_over s.journal) h going);
            follows = λ g u runs. subst (Said s') (same_one t u (sym asks_t.runs ∙ runs)) (said s' same_seen follows);
          }
