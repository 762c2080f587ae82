-- In each run names are of executions that were made.
use Rattle.std.proofs.Common.{◌≡◌, ℕ, Bool, false, sym, ap, ◌∙◌, subst}
use Rattle.uc_tree.specs.Source.{Source}
use Rattle.uc_acts.specs.Journal.{held}
use Rattle.uc_machine.specs.declared.exec.Exec.{Exec}
use Rattle.uc_machine.specs.declared.exec.Home.{Home}
use Rattle.uc_machine.specs.Executions.{members_at}
use Rattle.uc_machine.specs.Pieces.{State}
use Rattle.uc_machine.specs.Quiet.{home_at}
use Rattle.uc_state_laws.proofs.Others.{run_rests}
use Rattle.uc_state_laws.specs.RoomRuns.{Comes}
use Rattle.uc_name_laws.specs.Below.{IsBelow}
use Rattle.uc_name_laws.specs.NameSteps.{Named, IsBorn}
use Rattle.uc_name_laws.proofs.Births.{law_new}
use Rattle.uc_life_laws.specs.NamedRuns.{is_here, ComesNamed, LawNamedRuns}
use Rattle.uc_life_laws.proofs.Riding.{leads_named}
use Rattle.uc_life_laws.proofs.NamedWorlds.{WorldNamed, vacuous, start, run_named}

-- what is made next is none that is there
new_name : (source : Source) (here : Home → Bool) (serials : Home → ℕ) (s : State) → Named here false serials s → (n : Exec) → IsBorn source s n → IsBelow serials n → ⊥
new_name source here serials s h n b lt =
    let place : n.home ≡ home_at s.run.this s.env = ap (λ k. k.home) b.named in
    law_new.unnamed here false serials s h (home_at s.run.this s.env) b.members (ap (λ k. members_at k s.env) (sym place) ∙ b.in_hand) (subst (IsBelow serials) b.named lt)

pub law_named_runs : LawNamedRuns
law_named_runs source input opts j w r range fits on =
    let y = run_named source input opts range r fits on in
    record {
      serials = y.serials;
      tasks = y.world.tasks;
      homes = y.world.homes;
      unmade = y.world.unmade;
      born = y.born;
      comes = λ t s c. comes y.serials y.world t s c;
    }
  where
    comes : (serials : Home → ℕ) → WorldNamed serials j w → (t : ℕ) (s : State) (c : Comes source j w t s) → ComesNamed source j w serials t s c
    comes serials x t s c =
        let rests = run_rests source input opts range r fits on in
        let z = leads_named source (is_here (w.tasks t).env.own (held t j)) false serials c.leads (start source input opts range rests on serials x c.processor t c.runs c.given c.told) (λ u. vacuous u) in
        record {
          now = z.now;
          more = z.grows.more;
          names = z.named.names;
          born = z.born;
          new = λ n b lt. new_name source (is_here (w.tasks t).env.own (held t j)) z.now s z.named n b lt;
        }
