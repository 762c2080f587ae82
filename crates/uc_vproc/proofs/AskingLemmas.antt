-- A ride that is brought asks in the run of each source: with just the objects in hand that its task is inside, in time, in a form that fits,
-- and naming members, accept statements and events that there are.
use Rattle.std.proofs.Common.{◌≡◌, ℕ, false, List, [], ◌∷◌, ◌++◌, Option, Some, None, refl, sym, ap, ◌∙◌, subst, IsSome}
use Rattle.std.specs.Prelude.{if◌then◌else◌}
use Rattle.std.specs.Option.{option_map}
use Rattle.uc_tree.specs.Source.{Source}
use Rattle.uc_entry.specs.declared.request.Request.{Request}
use Rattle.uc_entry.specs.declared.request.Request.TheVariants as ask
use Rattle.uc_acts.specs.Journal.{held, is_over}
use Rattle.uc_acts.specs.Known.{has}
use Rattle.uc_acts.specs.Queues.{running}
use Rattle.uc_acts.specs.Answers.{answer_to}
use Rattle.uc_acts.specs.Serves.{left}
use Rattle.uc_machine.specs.Quiet.{State}
use Rattle.uc_machine.specs.Answering.{answered}
use Rattle.uc_machine.specs.Rides.{Rides}
use Rattle.uc_code.specs.Codes.{Code}
use Rattle.uc_code.specs.Layout.{Laid, laid_of}
use Rattle.uc_frames.specs.Machine.{Machine, Members, with_hand}
use Rattle.uc_frames.specs.StandsByParts.{Numbered}
use Rattle.uc_ride.specs.RideStands.{BornAs, Rode}
use Rattle.uc_meaning.specs.Runs.{AsksIn, drawn}
use Rattle.uc_step_laws.specs.Hands as hands
use Rattle.uc_state_laws.specs.Laws.{AsksWith}
use Rattle.uc_state_laws.proofs.Others.{law_hand}
use Rattle.uc_state_laws.proofs.NamedWorlds.{law_names}
use Rattle.uc_site_laws.specs.Named.{NamedSource}
use Rattle.uc_state_laws.specs.Counted.{CountedSource}
use Rattle.uc_state_laws.proofs.MarkedWorlds.{law_events}
use Rattle.uc_state_laws.proofs.DeepWorlds.{law_calls}
use Rattle.uc_site_laws.specs.Naming.{NamesKnown}
use Rattle.uc_kernel.specs.Numbered.{keys}
use Rattle.uc_kernel.specs.KernelState.{Brought, Kept}
use Rattle.uc_kernel.specs.AtRest.{IsSpawn}
use Rattle.uc_lock.specs.Journals.{made_by}
use Rattle.uc_vproc.specs.declared.registry.Registry.{Registry}
use Rattle.uc_vproc.specs.Makers.{Handed, Log, Notes, paired, entries, server, handed_out, Manned}
use Rattle.uc_vproc.specs.Rest.{IsSource, IsHome, AtRest, Steady, WasHanded, stops}
use Rattle.uc_vproc.specs.Desks.{Keeping, Brings, Saw, IsAsking, value_after}
use Rattle.uc_vproc.proofs.MakersLemmas.{handed_still, Aloof, aloof, none_since}
use Rattle.uc_vproc.proofs.Parts.{hand_stands_after}
use Rattle.uc_vproc.proofs.Turns.{log_is}
use Rattle.uc_vproc.proofs.Steps.{keys_lined}

-- the numbers in a hand, as the laws over programs read them
keys_same : {X : Type 0} (ps : List (ℕ × X)) → keys ps ≡ hands.keys ps
keys_same [] = refl
keys_same (p ∷ ps) = ap (λ ks. p.0 ∷ ks) (keys_same ps)

-- a task that goes on has a value
goes_some : (r : Request) (m : Machine) (v : Option Machine) → v ≡ value_after r m → stops r ≡ false → IsSome v
goes_some r m v e h = subst IsSome (sym (e ∙ ap (λ b. if b then None else Some m) h)) refl

-- a spawn comes with the new task
born_some : (source : Source) (code : Laid) (r : Request) (child : Option Machine) (s : State) → BornAs source code r child s → IsSpawn r → IsSome child
born_some source code (ask.Spawn o) None s h i = absurd h
born_some source code (ask.Spawn o) (Some m) s h i = refl
born_some source code r child s h i = absurd i

some_mapped : (x : Option Machine) (y : Option (Option Machine)) → y ≡ option_map Some x → IsSome x → IsSome y
some_mapped None y e h = absurd (cc h)
some_mapped (Some m) y e h = subst IsSome (sym e) refl

module _ (code : Code) (main : ℕ) where
  module _ (k : Kept (Option Machine) Members) (ns : Notes) (room n : ℕ) (registry : Registry) (keeps : Keeping code main k ns room registry) where
    abbrev log : Log
    log = paired k.journal ns

    abbrev calm : Kept (Option Machine) Members
    calm = record k { abandoned = false }

    -- what a worker brings, for the task that runs on its processor
    module _ (going : is_over k.journal ≡ false) (wanted : k.abandoned ≡ false) (b : Brought (Option Machine) Members) (seen : Log) (saw : Saw n seen log) (brings : Brings code n seen b) (t : ℕ) (runs : running b.processor k.journal ≡ t ∷ []) where
      abbrev given : Handed
      given = brings.handed

      abbrev later : Log
      later = saw.begins.0

      abbrev pub old : Steady code main calm log
      old = keeps.steady wanted going

      log_from : log ≡ seen ++ later
      log_from = saw.begins.1

      served_then : server b.processor seen ≡ Some n
      served_then = ap (λ q. server q seen) brings.ride.processor ∙ brings.got.serves

      since : Aloof b.processor n brings.got.task seen later
      since =
          aloof b.processor n brings.got.task seen later (subst Manned log_from keeps.manned) served_then (ap (λ q. running q (entries seen)) brings.ride.processor ∙ brings.got.runs) (none_since n seen later (ap (made_by n) (sym log_from) ∙ saw.mine)) (ap (λ l. is_over (entries l)) (sym log_from) ∙ ap is_over (log_is code main k ns room n registry keeps) ∙ going)

      pub served : server b.processor log ≡ Some n
      served = ap (server b.processor) log_from ∙ since.serves

      handed_is : handed_out b.processor log ≡ Some given
      handed_is = ap (handed_out b.processor) log_from ∙ handed_still b.processor seen later since.none ∙ ap (λ q. handed_out q seen) brings.ride.processor ∙ brings.got.is

      was : WasHanded calm log b.processor t
      was = old.out b.processor t runs

      same_handed : was.handed ≡ given
      same_handed = cc (sym was.is ∙ handed_is)

      left_then : given.left ≡ left k.opts k.journal t
      left_then = ap (λ (y : Handed). y.left) (sym same_handed) ∙ was.left_is

      -- for one source
      module _ (source : Source) (is : IsSource code main source) where
        abbrev pub rested_at : AtRest code source calm log
        rested_at = old.stands source is

        pub same_sites : k.sites ≡ source.sites
        same_sites = keeps.sites ∙ is.lowered.sites

        pub rode : Rode source (laid_of code) (answered source given.answer (drawn k.journal rested_at.world t)) given.left b.ticks b.asked (with_hand b.members.items brings.ride.after) brings.ride.child
        rode = brings.ride.rode source (drawn k.journal rested_at.world t) is.lowered (rested_at.hands b.processor t given runs handed_is)

        told : answer_to source.sites t k.journal ≡ Some given.answer
        told = ap (λ ss. answer_to ss t k.journal) (sym same_sites) ∙ was.answer ∙ ap (λ (y : Handed). Some y.answer) same_handed

        pub asks : AsksIn source k.opts k.journal rested_at.world b.processor t b.ticks rode.reached b.asked
        asks = record {
          given = given.answer;
          runs = runs;
          told = told;
          rides = subst (λ q. Rides source (answered source given.answer (drawn k.journal rested_at.world t)) q rode.reached b.ticks b.asked) left_then rode.rides;
        }

        pub asks_with : AsksWith source k.opts k.journal t b.ticks rode.reached b.asked
        asks_with = law_hand source k.input k.opts k.journal rested_at.world rested_at.runs keeps.range rested_at.fitting going b.processor t b.ticks rode.reached b.asked asks

        pub lined : Numbered (IsHome code) b.members.items rode.reached.env.hand
        lined = hand_stands_after code b.asked.request (with_hand b.members.items brings.ride.after) rode.reached rode.stands

        pub hand : keys rode.reached.env.hand ≡ held t k.journal
        hand = keys_same rode.reached.env.hand ∙ asks_with.hand

        asking_by : NamedSource source.sites source → CountedSource source → IsAsking k.opts k.sites k.journal t b
        asking_by named counted = record {
          hand = keys_lined (IsHome code) b.members.items rode.reached.env.hand lined ∙ hand;
          room = brings.ride.room;
          within = asks_with.within;
          form = asks_with.form;
          names = subst (λ ss. NamesKnown ss b.asked.request) (sym same_sites) (law_names source.sites source named k.input k.opts k.journal rested_at.world rested_at.runs b.processor t b.ticks rode.reached b.asked asks);
          event = law_events source counted k.input k.opts keeps.range k.journal rested_at.world rested_at.runs rested_at.fitting going b.processor t b.ticks rode.reached b.asked asks;
          apart = λ o m e. ap (λ l. has l o) (sym asks_with.hand) ∙ law_calls source k.input k.opts k.journal rested_at.world rested_at.runs keeps.range rested_at.fitting going b.processor t b.ticks rode.reached b.asked asks o m e;
          goes = goes_some b.asked.request brings.ride.after b.task brings.ride.task_is;
          born = λ i. some_mapped brings.ride.child b.child brings.ride.child_is (born_some source (laid_of code) b.asked.request brings.ride.child rode.reached rode.born i);
        }

      pub asking : IsAsking k.opts k.sites k.journal t b
      asking = asking_by keeps.sourced.source keeps.sourced.is keeps.sourced.names keeps.sourced.counted
