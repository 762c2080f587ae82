-- Where nothing else is owed to what tasks let go of, hands are no part of what is left to show.
use Rattle.std.proofs.Common.{◌≡◌, ℕ, ◌≤◌, ◌⊎◌, inl, inr, false, List, [], ◌∷◌, length, refl, sym, ◌∙◌, subst, arith}
use Rattle.uc_acts.specs.Known.{owner}
use Rattle.uc_entry.specs.declared.entry.Options.{Options}
use Rattle.uc_entry.specs.declared.request.Request.{Request}
use Rattle.uc_entry.specs.declared.request.Request.TheVariants as ask
use Rattle.uc_acts.specs.Journal.{Journal, own_object}
use Rattle.uc_acts.specs.Journal.{is_over}
use Rattle.uc_acts.specs.KernelRuns.{InRange}
use Rattle.uc_tree.specs.Programs.{Program}
use Rattle.uc_tree.specs.Source.{Source}
use Rattle.uc_machine.specs.Pieces.{Goes, Asks}
use Rattle.uc_machine.specs.Quiet as quiet
use Rattle.uc_machine.specs.Quiet.{State}
use Rattle.uc_meaning.specs.Runs.{World, Runs}
use Rattle.uc_rules.specs.Breaks.{breaks_of}
use Rattle.uc_state_laws.specs.Fitting.{RunFits}
use Rattle.uc_resolve.specs.Resolve.{source_of}
use Rattle.uc_sound.specs.SoundFormed.{IsFormed}
use Rattle.uc_place_laws.proofs.OpenRuns.{law_there}
use Rattle.uc_step_laws.specs.Hands.{keys}
use Rattle.uc_sound.proofs.Routines.{law_entered}
use Rattle.uc_letting_laws.specs.LettingLaws.{AsksInHand, OwnersFit}
use Rattle.uc_letting_laws.proofs.LettingWorlds.{law_in_hand, law_owners}
use Rattle.uc_source_laws.specs.SourceLaws.{part_of}
use Rattle.uc_source_laws.proofs.InnerSources.{law_inner}
use Rattle.uc_request_laws.specs.Holds.{HoldsByHand}
use Rattle.uc_request_laws.specs.Leaving.{LeavesScope}
use Rattle.uc_request_laws.specs.Remaining.{IsRemaining, LawRemaining}
use Rattle.uc_request_laws.proofs.RequestLemmas.{law_holds}

just_one : (ts : List ℕ) → length ts ≤ 1 → (ts ≡ [] → ⊥) → length ts ≡ 1
just_one [] l n = absurd (n refl)
just_one (t ∷ ts) l n = omega (arith, l)

module _ (opts : Options) (j : Journal) (t : ℕ) (hand : List ℕ) where
  by_hand : (r : Request) → AsksInHand (own_object t j) hand r → OwnersFit j r → IsRemaining opts j r → HoldsByHand opts j t hand r
  by_hand (ask.Made o) h u l = h
  by_hand (ask.Spawn o) h u l = (h, u)
  by_hand (ask.Call o m) h u l = l
  by_hand (ask.Leave o failed) h u l = h
  by_hand (ask.Accept o site mask) h u l = h
  by_hand (ask.Wait o c n) h u l = h
  by_hand (ask.Signal o c) h u l = h
  by_hand (ask.SignalBlock o c) h u l = h
  by_hand (ask.Empty o c) h u l = h
  by_hand (ask.Front o c) h u l = h
  by_hand (ask.Raise o event x y) h u l = (l.0, just_one (owner o j) u l.1)
  by_hand (ask.ClusterEnd c) h u l = l
  by_hand (ask.Processor c) h u l = l
  by_hand (ask.ProcessorEnd q) h u l = l
  by_hand (ask.Migrate c) h u l = l
  by_hand ask.End h u l = h
  by_hand (ask.Gone o) h u l = h
  by_hand r h u l = tt

-- where quiet steps lead to a request, it is the one to which they lead

module _ (source : Source) where
  next : (s v b u : State) (q : Request) → quiet.quiet source s ≡ Goes v → quiet.Quietly source s b → quiet.quiet source b ≡ Asks q u → quiet.Quietly source v b
  next s v _ u q g quiet.stay f = absurd (goes_not (sym g ∙ f))
    where
      goes_not : Goes v ≡ Asks q u → ⊥
      goes_not e = cc
  next s v b u q g (quiet.more {t = x} h l) f = subst (λ y. quiet.Quietly source y b) (same (sym h ∙ g)) l
    where
      same : Goes x ≡ Goes v → x ≡ v
      same e = cc

  same_request : (s a b t u : State) (q r : Request) → quiet.Quietly source s a → quiet.quiet source a ≡ Asks q t → quiet.Quietly source s b → quiet.quiet source b ≡ Asks r u → q ≡ r
  same_request s _ b t u q r quiet.stay e m f = by b m f
    where
      same : Asks q t ≡ Asks r u → q ≡ r
      same g = cc

      by : (b : State) → quiet.Quietly source s b → quiet.quiet source b ≡ Asks r u → q ≡ r
      by _ quiet.stay f = same (sym e ∙ f)
      by b (quiet.more {t = x} h l) f = absurd (goes_not (sym h ∙ e))
        where
          goes_not : Goes x ≡ Asks q t → ⊥
          goes_not g = cc
  same_request s a b t u q r (quiet.more {t = x} h l) e m f = same_request x a b t u q r l e (next s x b u r h m f) f

-- so the end of a cluster that is a variable is asked of one that there is
left_there : (p : Program) → IsFormed p → breaks_of p ≡ [] → (input : List ℕ) (opts : Options) → InRange opts → (j : Journal) (w : World) (r : Runs (source_of p) input opts j w) → RunFits (source_of p) input opts j w r → is_over j ≡ false → (t : ℕ) (q : Request) → LeavesScope p j w t q → IsRemaining opts j q
left_there p formed ok input opts range j w r f on t q x =
    let e = law_there.ends p formed ok x.within input opts range j w r f on t x.state x.comes x.cell x.todo x.near x.leaves in
    subst (IsRemaining opts j) (same_request (source_of p) x.state e.asking x.asking e.after x.after (ask.ClusterEnd e.cluster) q e.leads e.asks x.leads x.asks) e.there

pub law_remaining : LawRemaining
law_remaining p formed ok input opts range left =
    law_holds p formed ok input opts range (λ j w r f on q t n s asked d.
    let l = left j w r f on q t n s asked d in
    let entered = law_entered p formed ok in
    let inner = (law_inner p formed ok).source in
    by_hand opts j t (keys s.env.hand) asked.request (law_in_hand (part_of p) (source_of p) entered inner input opts j w r range f l.1 on q t n s asked d l.2) (law_owners (part_of p) (source_of p) entered inner input opts j w r range f l.1 on q t n s asked d l.2) (either l.0 (λ x. left_there p formed ok input opts range j w r f on t asked.request x)))
  where
    either : {A B : Type 0} → A ⊎ B → (B → A) → A
    either (inl a) f = a
    either (inr b) f = f b
