-- A handler begins as in the source.
use Rattle.std.proofs.Common.{◌≡◌, ℕ, ℤ, List, [], ◌∷◌, map, Option, Some, None, sym, ap, subst, ◌∙◌}
use Rattle.uc_tree.specs.Source.{Source}
use Rattle.uc_machine.specs.declared.exec.UnwindReason.{UnwindReason}
use Rattle.uc_machine.specs.declared.exec.UnwindReason.TheVariants as reason
use Rattle.uc_machine.specs.declared.exec.Visited.{Visited}
use Rattle.uc_machine.specs.Executions.{handler_entered}
use Rattle.uc_machine.specs.Quiet as quiet
use Rattle.uc_machine.specs.Quiet.{DropNow, Nothing, State, stay, more, below, quiet as step}
use Rattle.uc_machine.specs.Raising as raising
use Rattle.uc_machine.specs.Raising.{Found as Sought, handler_todo, event_in, home_of, seek, handle_step}
use Rattle.uc_code.specs.declared.rows.HandlerRow.{HandlerRow}
use Rattle.uc_code.specs.Layout.{Laid}
use Rattle.uc_frames.specs.declared.cell.Cell.{Cell}
use Rattle.uc_frames.specs.declared.event.Event.{Event}
use Rattle.uc_frames.specs.declared.event.HandlerStart.{HandlerStart}
use Rattle.uc_frames.specs.Machine.{Activation, Machine, cell_of}
use Rattle.uc_frames.specs.StandsByParts.{Lined}
use Rattle.uc_frames.specs.Stands.{image, FollowsAt, RunStands, CallerStands, EnvironmentStands, Stands}
use Rattle.uc_frames.specs.Unwinding.{catching, handler_of, handled}
use Rattle.uc_frames.specs.UnwindingStands.{SearchStands, Unwinds, Raises}
use Rattle.uc_frames.specs.UnwindingOutcomes.{Catches, caught}
use Rattle.uc_except.specs.declared.found.Found.{Found}
use Rattle.uc_except.specs.declared.found.Found.TheVariants.{Handler as At, None as Nowhere}
use Rattle.uc_except.specs.RowSearch.{resumed}
use Rattle.uc_except.specs.FoundAgrees.{Meets, FoundAs}
use Rattle.uc_except.specs.Handling.{handling_of, resumed_by, handled_by, handled_at, handler_begun, IsFound, GoesOn}
use Rattle.uc_except.proofs.Seeks.{seeks}

-- an event with these fields
abbrev pub event_fields : raising.Event → Event
event_fields e = record { number = e.number; x = e.x; y = e.y }

abbrev event_at : Option UnwindReason → raising.Event → raising.Event
event_at (Some (reason.Event n x y)) e = record { number = n; x = x; y = y }
event_at _ e = e

pub same_event : (d e : raising.Event) → (let o : Option UnwindReason = Some (reason.Event d.number d.x d.y) in o) ≡ Some (reason.Event e.number e.x e.y) → d ≡ e
same_event d e q = ap (λ o. event_at o d) q

-- the same fields
pub begun_as : (rows : List HandlerRow) (f : Found) (m new : Machine) (n : ℕ) (x y u v : ℤ) → new ≡ handler_begun rows f (record { number = n; x = u; y = v }) m → u ≡ x → v ≡ y → new ≡ handler_begun rows f (record { number = n; x = x; y = y }) m
begun_as rows f m new n x y u v q i j =
    q ∙ (ap (λ k. handler_begun rows f (record { number = n; x = k; y = v }) m) i ∙ ap (λ k. handler_begun rows f (record { number = n; x = x; y = k }) m) j)

module _ (source : Source) (code : Laid) where
  module _ (old new : Machine) (s : State) where
    -- a row that catches
    pub catches_now : (row : ℕ) (e : raising.Event) → Unwinds code old s → (c : Catches source code s.run s.callers s.env s.run.raised row s) → c.event ≡ e → (frame : ℕ) → new ≡ handler_begun code.rows (At frame row) (event_fields e) old → GoesOn source code new s
    catches_now row e h c i frame q =
        let w = c.handler_at in
        let a : handler_begun code.rows (At frame row) (event_fields e) old ≡ record old { run = catching c.entry (event_fields e) old.run } =
        ap (λ o. handled_at o frame (event_fields e) old) w.there
        ∙ (ap (λ k. handled_by k w.row frame (event_fields e) old) w.kind
        ∙ ap (λ k. let m : Machine = record old { run = catching k (event_fields e) old.run } in m) w.entry) in
        let t : State = caught source code s.run s.callers s.env s.run.raised c.event c.handler c.todo in
        let is : catching c.entry (event_fields c.event) old.run ≡ image c.entry t.run = ap (λ (a : Activation). catching c.entry (event_fields c.event) a) h.run.is in
        let b : new ≡ record old { run = catching c.entry (event_fields c.event) old.run } =
        (q ∙ a) ∙ ap (λ x. let m : Machine = record old { run = catching c.entry (event_fields x) old.run } in m) (sym i) in
        record {
          after = t;
          by = c.by;
          stands = subst (λ (m : Machine). Stands code m t) (sym b) (record {
            run = record { marks = c.marks; follows = c.follows; is = is };
            callers = h.callers;
            env = h.env;
          });
        }

    -- a handler of resumptions
    module _ (h : Raises code old s) where
      abbrev e : raising.Event
      e = event_in s.run.operands

      abbrev raiser : quiet.Active
      raiser = record s.run { control = DropNow ∷ h.rest; operands = below (below (below s.run.operands)) }

      abbrev pub searched : quiet.Active
      searched = record s.run { control = h.rest }

      abbrev acts : List Activation
      acts = old.run ∷ old.callers

      caller_search : (m : Activation) (c : quiet.Active) → CallerStands code m c → SearchStands code m c
      caller_search m c k = record {
        rows = record { marks = k.stands.marks; at = m.control; follows = k.stands.follows; under = k.under };
        this = ap (λ (a : Activation). a.this) k.stands.is;
        frame = ap (λ (a : Activation). a.frame) k.stands.is;
        handles = ap (λ (a : Activation). a.handles) k.stands.is;
      }

      callers_search : (ms : List Activation) (cs : List quiet.Active) → Lined (CallerStands code) ms cs → Lined (SearchStands code) ms cs
      callers_search [] [] l = tt
      callers_search [] (c ∷ cs) l = absurd l
      callers_search (m ∷ ms) [] l = absurd l
      callers_search (m ∷ ms) (c ∷ cs) l = (caller_search m c l.0, callers_search ms cs l.1)

      run_search : SearchStands code old.run searched
      run_search = record {
        rows = record { marks = h.run.stands.marks; at = h.run.stands.follows.to; follows = h.run.stands.follows.on; under = h.run.under };
        this = ap (λ (a : Activation). a.this) h.run.stands.is;
        frame = ap (λ (a : Activation). a.frame) h.run.stands.is;
        handles = ap (λ (a : Activation). a.handles) h.run.stands.is;
      }

      pub all_search : Lined (SearchStands code) acts (searched ∷ s.callers)
      all_search = (run_search, callers_search old.callers s.callers h.callers)

      step_is : step source s ≡ handle_step (seek None e (searched ∷ s.callers)) e h.rest s
      step_is = ap (λ todo. quiet.act_todo source todo s) h.todo

      frames_more : (fs : List (List quiet.Value)) (gs : List (List Cell)) → gs ≡ map (map cell_of) fs → ([] ∷ gs) ≡ map (map cell_of) ([] ∷ fs)
      frames_more fs gs q = ap (λ g. [] ∷ g) q

      begins : (frame row : ℕ) (f : Sought) → Meets code acts frame row f → step source s ≡ handle_step (Some f) e h.rest s → new ≡ handler_begun code.rows (At frame row) (event_fields e) old → GoesOn source code new s
      begins frame row f k w q =
          let g = k.resumes in
          let d = g.handler in
          let u : HandlerStart = handling_of d.row frame (event_fields e) k.active in
          let a : handler_begun code.rows (At frame row) (event_fields e) old ≡ handled u old =
          ap (λ o. handled_at o frame (event_fields e) old) d.there
          ∙ (ap (λ k. handled_by k d.row frame (event_fields e) old) d.kind
          ∙ ap (λ o. resumed_by o d.row frame (event_fields e) old) k.there) in
          let t : State = handler_entered (handler_todo f.handler []) (raising.operands_of e) f.this f.frame Nothing f.visited raiser s.callers s.env in
          let v : u.visited ≡ f.visited =
          ap (λ n. let x : Visited = record { level = frame; rest = n; home = home_of k.active.handles frame } in x) d.rest
          ∙ (ap (λ n. let x : Visited = record { level = frame; rest = f.visited.rest; home = n } in x) (sym k.home)
          ∙ ap (λ n. let x : Visited = record { level = n; rest = f.visited.rest; home = f.visited.home } in x) (sym k.level)) in
          let i : handler_of u ≡ image g.entry t.run =
          ap (λ n. let x : Activation = record (handler_of u) { control = n } in x) d.entry
          ∙ (ap (λ n. let x : Activation = record (handler_of u) { control = g.entry; this = n } in x) k.this
          ∙ (ap (λ n. let x : Activation = record (handler_of u) { control = g.entry; this = cell_of f.this; frame = n } in x) k.variables
          ∙ ap (λ n. let x : Activation = record (handler_of u) { control = g.entry; this = cell_of f.this; frame = f.frame; handles = Some n } in x) v)) in
          let c : EnvironmentStands code (record old.env { frames = [] ∷ old.env.frames }) (record s.env { frames = [] ∷ s.env.frames }) = record {
            frames = frames_more s.env.frames old.env.frames h.env.frames;
            links = h.env.links;
            exec = h.env.exec;
            own = h.env.own;
            house = h.env.house;
            depths = h.env.depths;
            hand = h.env.hand;
            gathered = h.env.gathered;
          } in
          let r : RunStands code (handler_of u) t.run = record { marks = g.marks; follows = subst (λ n. FollowsAt code (handler_todo f.handler []) g.marks n) (sym d.entry) g.follows; is = i ∙ ap (λ n. image n t.run) (sym d.entry) } in
          record {
            after = t;
            by = more w stay;
            stands = subst (λ (m : Machine). Stands code m t) (sym (q ∙ a)) (record {
              run = r;
              callers = (h.run, h.callers);
              env = c;
            });
          }

      by_found : (x : Found) (y : Option Sought) → FoundAs code acts x y → IsFound x → step source s ≡ handle_step y e h.rest s → new ≡ handler_begun code.rows x (event_fields e) old → GoesOn source code new s
      by_found Nowhere None m f w q = absurd f
      by_found Nowhere (Some y) m f w q = absurd f
      by_found (At frame row) None m f w q = absurd m
      by_found (At frame row) (Some y) m f w q = begins frame row y m w q

      pub resumes_now : (x : Found) → IsFound x → x ≡ resumed code.rows None e.number acts → new ≡ handler_begun code.rows x (event_fields e) old → GoesOn source code new s
      resumes_now x f i q =
          by_found x (seek None e (searched ∷ s.callers)) (subst (λ z. FoundAs code acts z (seek None e (searched ∷ s.callers))) (sym i) (seeks code None e acts (searched ∷ s.callers) all_search)) f step_is q
