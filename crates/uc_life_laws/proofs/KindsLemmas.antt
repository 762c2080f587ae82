-- What a step keeps of states, with what is claimed by their kinds and without.
use Rattle.std.proofs.Common.{ℕ, ◌⊎◌, inl, inr, List, [], ◌∷◌, drop, Option, Some, None}
use Rattle.uc_tree.specs.Source.{Source}
use Rattle.uc_entry.specs.declared.request.Request.{Request}
use Rattle.uc_entry.specs.declared.request.Request.TheVariants as ask
use Rattle.uc_machine.specs.declared.exec.UnwindReason.{UnwindReason}
use Rattle.uc_machine.specs.declared.exec.UnwindReason.TheVariants as reason
use Rattle.uc_machine.specs.Pieces as pc
use Rattle.uc_machine.specs.declared.exec.Exec.{Exec}
use Rattle.uc_machine.specs.declared.exec.Home.{Home}
use Rattle.uc_machine.specs.declared.exec.Home.TheVariants as home
use Rattle.uc_machine.specs.declared.exec.Stage.{Stage}
use Rattle.uc_machine.specs.declared.exec.Stage.TheVariants.{Fresh, Started, Ended}
use Rattle.uc_machine.specs.Pieces.{Value, Running, top, Todo, State, Env, Members, Step, Goes, Ticks, Asks}
use Rattle.uc_life_laws.proofs.Parked.{Ex}
use Rattle.uc_machine.specs.Switches.{new_exec}
use Rattle.uc_machine.specs.Quiet.{quiet, home_at}
use Rattle.uc_typing.specs.Typing.{Ty, Num, Raw, Clu, Pro, Sig, Table}
use Rattle.uc_life_laws.specs.Things.{Few}
use Rattle.uc_life_laws.specs.LifeStates.{SlotBy, ParkedBy, HandBy, MembersBy, EnvBy, StepIs}
use Rattle.uc_life_laws.specs.LifeLaws.{LawKnown}
use Rattle.uc_life_laws.specs.Knowing.{Anything, AskedBy, StepBy, ClaimsBy, ClaimsEx, ClaimsSlot, ClaimsEnv, ClaimsState, KnowsBy, KnowsEx, KnowsSlot, KnowsState, KnowsEnv, KnowsStep}
use Rattle.uc_life_laws.specs.Kinds.{Stays, Returns, GoesPast, GoesOn, Parks, FollowsOn, Claimed}
use Rattle.uc_life_laws.proofs.Parking.{all_stays, anything_kept}
use Rattle.uc_life_laws.proofs.Reading.{life_read}
use Rattle.uc_life_laws.proofs.Acting.{law_claims}
pub use Rattle.uc_life_laws.proofs.GoingOn.{goes_or}

-- a weaker property of states

module _ (t : Table) (few : Few) (source : Source) (S T : List Ty → State → Type 0) (E F : Env → Type 0) (ends : (e : Env) → E e → F e) where
  -- of one that has asked
  pub asked_more : (s : State) → ((given : List Ty) → S given s → T given s) → (r : Request) → AskedBy t few S E source r s → AskedBy t few T F source r s
  asked_more s more (ask.Make m) x = (x.0, x.1, x.2, more (Raw x.0 ∷ []) x.3)
  asked_more s more (ask.Spawn o) x = (x.0, x.1, more [] x.2)
  asked_more s more (ask.Accept o site mask) x = more (Num ∷ (Num ∷ [])) x
  asked_more s more (ask.Empty o m) x = more (Num ∷ []) x
  asked_more s more (ask.Front o m) x = more (Num ∷ []) x
  asked_more s more (ask.Poll mask) x = more (Num ∷ (Num ∷ (Num ∷ []))) x
  asked_more s more (ask.Read form) x = more (Num ∷ []) x
  asked_more s more ask.Fail x = more (Num ∷ []) x
  asked_more s more ask.Cluster x = more (Clu ∷ []) x
  asked_more s more (ask.Processor c) x = more (Pro ∷ []) x
  asked_more s more ask.End x = ends s.env x
  asked_more s more (ask.Fault m) x = tt
  asked_more s more r x = more [] x

  -- with what else holds of the state behind the step
  pub step_with : (W : State → Type 0) → ((given : List Ty) (s : State) → S given s → W s → T given s) → (x : Step) → StepIs W x → StepBy t few S E source x → StepBy t few T F source x
  step_with W more (Goes s) w h = more [] s h w
  step_with W more (Ticks s) w h = more [] s h w
  step_with W more (Asks r s) w h = (h.0, asked_more s (λ given k. more given s k w) r h.1)

  pub step_more : ((given : List Ty) (s : State) → S given s → T given s) → (x : Step) → StepBy t few S E source x → StepBy t few T F source x
  step_more more (Goes s) h = more [] s h
  step_more more (Ticks s) h = more [] s h
  step_more more (Asks r s) h = (h.0, asked_more s (λ given k. more given s k) r h.1)

-- what holds of each execution that does not run, something weaker does
module _ (P R : Exec → Ex → Type 0) (less : (n : Exec) (x : Ex) → P n x → R n x) where
  slot_less : (n : Exec) (o : Option Ex) → SlotBy P n o → SlotBy R n o
  slot_less n None h = tt
  slot_less n (Some x) h = less n x h

  parked_less : (h : Home) (ps : List (ℕ × Option Ex)) → ParkedBy P h ps → ParkedBy R h ps
  parked_less h [] k = tt
  parked_less h (p ∷ ps) k = (slot_less (record { home = h; serial = p.0 }) p.1 k.0, parked_less h ps k.1)

  hand_less : (ps : List (ℕ × Members)) → HandBy P ps → HandBy R ps
  hand_less [] k = tt
  hand_less (p ∷ ps) k = (parked_less (home.Object p.0) p.1.parked k.0, hand_less ps k.1)

  pub members_less : (h : Home) (m : Option Members) → MembersBy P h m → MembersBy R h m
  members_less h None k = tt
  members_less h (Some m) k = parked_less h m.parked k

  pub env_less : (e : Env) → EnvBy P e → EnvBy R e
  env_less e k = record { house = parked_less (home.Task e.own) e.house.parked k.house; hand = hand_less e.hand k.hand }

-- what is claimed is forgotten
module _ (t : Table) (few : Few) (Q : Exec → List Sig → Ex → Type 0) where
  abbrev pub ex_plain : (n : Exec) (x : Ex) → ClaimsEx t few Q n x → KnowsEx t few n x
  ex_plain n x k = record { sigs = k.sigs; frames = k.frames; run = k.run; callers = k.callers; claim = tt }

  by_plain : (n : Exec) (g : Stage) (x : Ex) → ClaimsBy t few Q n g x → KnowsBy t few n g x
  by_plain n Fresh x k = ex_plain n x k
  by_plain n Started x k = ex_plain n x k
  by_plain n Ended x k = tt

  slot_plain : (n : Exec) (x : Ex) → ClaimsSlot t few Q n x → KnowsSlot t few n x
  slot_plain n x k = by_plain n x.links.stage x k

  pub env_plain : (e : Env) → ClaimsEnv t few Q e → KnowsEnv t few e
  env_plain e k = env_less (ClaimsSlot t few Q) (KnowsSlot t few) (λ n x h. slot_plain n x h) e k

  pub members_plain : (h : Home) (m : Option Members) → MembersBy (ClaimsSlot t few Q) h m → MembersBy (KnowsSlot t few) h m
  members_plain h m k = members_less (ClaimsSlot t few Q) (KnowsSlot t few) (λ n x i. slot_plain n x i) h m k

  abbrev pub plain : (given : List Ty) (s : State) → ClaimsState t few Q given s → KnowsState t few given s
  plain given s x = record { sigs = x.sigs; frames = x.frames; run = x.run; callers = x.callers; env = env_plain s.env x.env }

-- nothing is claimed
nothing_stays : (n : Exec) (w v : Value) → Stays Anything n w v
nothing_stays = all_stays Anything (λ n gs x d k v h. tt)

none_parks : (t : Table) (source : Source) (s : State) (todo : List Todo) (gs : List Sig) → Parks Anything t source gs s todo
none_parks t source s [] gs = tt
none_parks t source s (pc.SetUpNow r ∷ todo) gs = λ x e. (tt, nothing_stays s.env.exec s.run.this (Running (new_exec (home_at s.run.this s.env) s.env)))
none_parks t source s (pc.BindNow ∷ todo) gs = nothing_stays s.env.exec (top (pc.below s.run.operands)) (top s.run.operands)
none_parks t source s (pc.BindMadeNow c r ∷ todo) gs = λ x e. nothing_stays s.env.exec (top (drop x.params (pc.below s.run.operands))) (top s.run.operands)
none_parks t source s (p ∷ todo) gs = tt

pub law_known : LawKnown
law_known t few source sound s st x l = by (goes_or s.run.control s.run.raised)
  where
    parks : Parks Anything t source x.sigs s s.run.control
    parks = none_parks t source s s.run.control x.sigs

    by : GoesOn s.run.control s.run.raised ⊎ (GoesOn s.run.control s.run.raised → ⊥) → KnowsStep t few source (quiet source s)
    by (inl calm) =
        step_more t few source (FollowsOn Anything t few source s x.sigs) (KnowsState t few) (KnowsEnv t few) (KnowsEnv t few) (λ e k. k) (λ given u y. y.0) (quiet source s) ((law_claims Anything anything_kept).goes t few source sound s x (life_read t few s x.sigs st) l parks calm)
    by (inr stops) =
        step_more t few source (Claimed Anything t few) (KnowsState t few) (KnowsEnv t few) (KnowsEnv t few) (λ e k. k) (λ given u y. y.0) (quiet source s) ((law_claims Anything anything_kept).stops t few source sound s x (life_read t few s x.sigs st) l parks stops)
