-- The entries that an act adds, up to the first that destroys what is in use.
use Rattle.std.proofs.Common.{◌≡◌, ◌<◌, ◌^◌, true, false, cond, List, [], ◌∷◌, ◌++◌, refl, sym, ap, ◌∙◌, subst, length, append_assoc, append-nil}
use Rattle.std.specs.List.{All}
use Rattle.uc_tree.specs.Programs.{Site}
use Rattle.uc_entry.specs.declared.entry.Entry.{Entry}
use Rattle.uc_entry.specs.declared.entry.EntryKind.{EntryKind}
use Rattle.uc_entry.specs.declared.entry.EntryKind.TheVariants as kind
use Rattle.uc_acts.specs.Journal.{Journal}
use Rattle.uc_acts.specs.Doors.{destroys_busy}
use Rattle.uc_acts.specs.Acts.{settled}
use Rattle.uc_explain.specs.Seen.{AreViewsOf}
use Rattle.uc_judge.specs.Scheduled.{IsSchedule}
use Rattle.uc_judge.specs.Counted.{AreCounts}
use Rattle.uc_judge.specs.Tasked.{AreTasks}
use Rattle.uc_judge.specs.Opened.{AreAccepts}
use Rattle.uc_judge.specs.PendingEvents.{ArePending}
use Rattle.uc_judge.specs.ClauseStacks.{AreStacks}
use Rattle.uc_judge.specs.ProcessorRows.{AreProcessors}
use Rattle.uc_judge.specs.Narrow.{IsTold}
use Rattle.uc_judge.specs.declared.actor.Actor.{Actor}
use Rattle.uc_judge.specs.declared.ledger.Ledger.{Ledger}
use Rattle.uc_judge.specs.Ledgers.{IsKept, IsLedger, Adds, Settles, busy_fault, is_safe}

pub safe_one : (j : Journal) (k : EntryKind) (e : Entry) → is_safe k ≡ true → destroys_busy j k e ≡ false
safe_one j kind.Gone e h = cc
safe_one j kind.Admit e h = cc
safe_one j k e h = refl

-- an entry that destroys nothing stands
pub settled_on : (f : Entry) (j : Journal) (e : Entry) (a : List Entry) → destroys_busy j e.kind e ≡ false → settled f j (e ∷ a) ≡ e ∷ settled f (j ++ e ∷ []) a
settled_on f j e a h =
    ap (λ b. cond b (record f { ticks = e.ticks; line = e.line } ∷ []) (e ∷ settled f (j ++ e ∷ []) a)) h

-- one that would is the last
pub settled_off : (f : Entry) (j : Journal) (e : Entry) (a : List Entry) → destroys_busy j e.kind e ≡ true → settled f j (e ∷ a) ≡ record f { ticks = e.ticks; line = e.line } ∷ []
settled_off f j e a h =
    ap (λ b. cond b (record f { ticks = e.ticks; line = e.line } ∷ []) (e ∷ settled f (j ++ e ∷ []) a)) h

-- a ledger, part by part
pub ledger_of : {s : Ledger} {sites : List Site} (j : Journal) → s.entries.items ≡ j → All IsTold j → s.opts.processors < 2 ^ 32 → AreViewsOf s.views j → IsSchedule s.schedule j → (length j < 2 ^ 32 → AreCounts s.counts s.opts j) → AreTasks s.tasks s.opts j → AreAccepts s.accepts j → ArePending s.pending j → AreStacks s.stacks sites j → AreProcessors s.processors s.opts j → IsLedger s sites
ledger_of {s} {sites} j e told few views schedule counts tasks accepts pending stacks processors =
    subst (λ l. IsKept s sites l) (sym e) (record { told = told; few = few; views = views; schedule = schedule; counts = counts; tasks = tasks; accepts = accepts; pending = pending; stacks = stacks; processors = processors })

pub adds_of : {old new : Ledger} {sites : List Site} {a : List Entry} → new.entries.items ≡ old.entries.items ++ a → new.opts ≡ old.opts → IsLedger new sites → Adds old new sites a
adds_of e o l = record { entries = e; opts = o; ledger = l }

pub settles_none : {old : Ledger} {sites : List Site} (a : Actor) → IsLedger old sites → Settles old old sites a []
settles_none a h = record { entries = sym (append-nil _); opts = refl; ledger = h }

module _ {old new : Ledger} {sites : List Site} (a : Actor) where
  pub adds_one : {e : Entry} → Adds old new sites (e ∷ []) → destroys_busy old.entries.items e.kind e ≡ false → Settles old new sites a (e ∷ [])
  adds_one {e} h s = record {
    entries = h.entries ∙ ap (λ l. old.entries.items ++ l) (sym (settled_on (busy_fault a) old.entries.items e [] s));
    opts = h.opts;
    ledger = h.ledger;
  }

  pub adds_safe : {e : Entry} → Adds old new sites (e ∷ []) → is_safe e.kind ≡ true → Settles old new sites a (e ∷ [])
  adds_safe {e} h s = adds_one h (safe_one old.entries.items e.kind e s)

  pub settles_off : (e : Entry) {f : Entry} (es : List Entry) → Adds old new sites (f ∷ []) → destroys_busy old.entries.items e.kind e ≡ true → f ≡ record (busy_fault a) { ticks = e.ticks; line = e.line } → Settles old new sites a (e ∷ es)
  settles_off e es h s g = record {
    entries = h.entries ∙ ap (λ x. old.entries.items ++ x ∷ []) g ∙ ap (λ l. old.entries.items ++ l) (sym (settled_off (busy_fault a) old.entries.items e es s));
    opts = h.opts;
    ledger = h.ledger;
  }

  -- an act that has ended before goes on no more
  pub settles_ended : (e : Entry) (es : List Entry) → Settles old new sites a (e ∷ []) → destroys_busy old.entries.items e.kind e ≡ true → Settles old new sites a (e ∷ es)
  settles_ended e es h s = record {
    entries = h.entries ∙ ap (λ l. old.entries.items ++ l) (settled_off (busy_fault a) old.entries.items e [] s ∙ sym (settled_off (busy_fault a) old.entries.items e es s));
    opts = h.opts;
    ledger = h.ledger;
  }

module _ {old mid new : Ledger} {sites : List Site} (a : Actor) where
  pub adds_then : {e : Entry} (es : List Entry) → Adds old mid sites (e ∷ []) → destroys_busy old.entries.items e.kind e ≡ false → Settles mid new sites a es → Settles old new sites a (e ∷ es)
  adds_then {e} es h s g = record {
    entries = g.entries ∙ ap (λ j. j ++ settled (busy_fault a) j es) h.entries ∙ append_assoc old.entries.items (e ∷ []) (settled (busy_fault a) (old.entries.items ++ e ∷ []) es) ∙ ap (λ l. old.entries.items ++ l) (sym (settled_on (busy_fault a) old.entries.items e es s));
    opts = g.opts ∙ h.opts;
    ledger = g.ledger;
  }

  pub safe_then : {e : Entry} (es : List Entry) → Adds old mid sites (e ∷ []) → is_safe e.kind ≡ true → Settles mid new sites a es → Settles old new sites a (e ∷ es)
  safe_then {e} es h s g = adds_then es h (safe_one old.entries.items e.kind e s) g

  pub settles_then : (e : Entry) (es : List Entry) → Settles old mid sites a (e ∷ []) → destroys_busy old.entries.items e.kind e ≡ false → Settles mid new sites a es → Settles old new sites a (e ∷ es)
  settles_then e es h s g =
      adds_then es (record { entries = h.entries ∙ ap (λ l. old.entries.items ++ l) (settled_on (busy_fault a) old.entries.items e [] s); opts = h.opts; ledger = h.ledger }) s g
