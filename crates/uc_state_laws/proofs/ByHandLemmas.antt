-- What a task asks fits, by what it has in hand.
use Rattle.std.proofs.Common.{◌≡◌, ℕ, false, List, sym, ◌∙◌, subst}
use Rattle.uc_tree.specs.Programs.{Site}
use Rattle.uc_tree.specs.Source.{Source}
use Rattle.uc_entry.specs.declared.entry.Entry.{Entry}
use Rattle.uc_entry.specs.declared.entry.Options.{Options}
use Rattle.uc_entry.specs.declared.request.Asked.{Asked}
use Rattle.uc_entry.specs.declared.request.Request.{Request}
use Rattle.uc_entry.specs.declared.request.Request.TheVariants as ask
use Rattle.uc_acts.specs.Journal.{Journal, held, own_object, is_over}
use Rattle.uc_acts.specs.KernelRuns.{InRange, IsAt, Fits, KernelRuns}
use Rattle.uc_acts.proofs.Counted.{counted_run, law_made}
use Rattle.uc_acts.proofs.Held.{law_held}
use Rattle.uc_machine.specs.Quiet.{State}
use Rattle.uc_meaning.specs.Runs.{World, Runs, May, AsksIn, begun, more, gives, no_room, acts}
use Rattle.uc_step_laws.specs.Hands.{HasForm}
use Rattle.uc_state_laws.specs.Fitting.{MayFit, RunFits}
use Rattle.uc_state_laws.specs.ByHand.{IsInHand, FitsByHand, AsksByHand, LawByHand}
use Rattle.uc_state_laws.proofs.Others.{run_rests, asking}

module _ (opts : Options) (sites : List Site) (input : List ℕ) (j : Journal) (runs : KernelRuns opts sites input j) (going : is_over j ≡ false) (t : ℕ) where
  -- what is in hand, its task is inside
  near : (o : ℕ) → IsInHand (held t j) o → IsAt t o j
  near o h =
      let known = (counted_run opts sites input runs).of_made o (law_made opts sites input j runs going t o h) in
      record { inside = sym ((law_held j).inside t o) ∙ h; known = record { made = known.0; not_gone = known.1 } }

  fits : (r : Request) → HasForm r → FitsByHand opts sites j t (held t j) r → Fits opts sites j t r
  fits (ask.Make class) f h = tt
  fits (ask.Made o) f h = near o h
  fits (ask.Spawn o) f h = (near o h.0, h.1)
  fits (ask.Call o m) f h = (record { outside = sym ((law_held j).inside t o) ∙ h.0; known = h.1 }, h.2)
  fits (ask.Leave o failed) f h = near o h
  fits (ask.Accept o site mask) f h = (near o h.0, h.1, h.2)
  fits (ask.Wait o c n) f h = near o h
  fits (ask.Signal o c) f h = near o h
  fits (ask.SignalBlock o c) f h = near o h
  fits (ask.Empty o c) f h = near o h
  fits (ask.Front o c) f h = near o h
  fits (ask.Raise o event x y) f h = h
  fits (ask.Print n items) f h = f
  fits (ask.Read form) f h = f
  fits (ask.ClusterEnd c) f h = h
  fits (ask.Processor c) f h = h
  fits (ask.ProcessorEnd q) f h = h
  fits (ask.Migrate c) f h = h
  fits ask.End f h = near (own_object t j) h
  fits (ask.Gone o) f h = near o h
  fits r f h = tt

module _ (source : Source) (input : List ℕ) (opts : Options) (range : InRange opts) (by : AsksByHand source input opts) where
  one : {j : Journal} {w : World} → (r : Runs source input opts j w) → RunFits source input opts j w r → is_over j ≡ false → (p t n : ℕ) (s : State) (asked : Asked) → AsksIn source opts j w p t n s asked → Fits opts source.sites j t asked.request
  one {j} {w} r f on p t n s asked d =
      let x = run_rests source input opts range r f on in
      let a = asking source input opts range x on p t n s asked d in
      fits opts source.sites input j x.kernel on t asked.request a.form (subst (λ hand. FitsByHand opts source.sites j t hand asked.request) a.hand (by j w r f on p t n s asked d))

  may : {j : Journal} {w : World} {a : List Entry} {x : World} → (r : Runs source input opts j w) → RunFits source input opts j w r → is_over j ≡ false → (m : May source opts input j w a x) → MayFit source opts input j w a x m
  may r f o (gives p t s le) = tt
  may r f o (no_room p t s le) = tt
  may r f o (acts p t n s asked d) = one r f o p t n s asked d

  all : {j : Journal} {w : World} → (r : Runs source input opts j w) → RunFits source input opts j w r
  all begun = tt
  all (more r o m) = let f = all r in (f, may r f o m)

pub law_by_hand : LawByHand
law_by_hand source input opts range by j w p t n s asked r on d = one source input opts range by r (all source input opts range by r) on p t n s asked d
