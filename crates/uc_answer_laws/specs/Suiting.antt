-- The forms of answers, and which one a task is to be told: by the entry by which it asked last.
use Rattle.std.specs.Prelude.{◌≡◌, ℕ, ◌==◌, false, List, ◌++◌, Some, if◌then◌else◌}
use Rattle.std.specs.List.{fold}
use Rattle.uc_tree.specs.Programs.{Site}
use Rattle.uc_entry.specs.declared.entry.Entry.{Entry}
use Rattle.uc_entry.specs.declared.entry.EntryKind.{EntryKind}
use Rattle.uc_entry.specs.declared.entry.EntryKind.TheVariants as kind
use Rattle.uc_entry.specs.declared.entry.Options.{Options}
use Rattle.uc_entry.specs.declared.request.Answer.{Answer}
use Rattle.uc_entry.specs.declared.request.Answer.TheVariants as answer
use Rattle.uc_entry.specs.declared.request.Asked.{Asked}
use Rattle.uc_entry.specs.declared.request.Request.{Request}
use Rattle.uc_entry.specs.declared.request.Request.TheVariants as ask
use Rattle.uc_acts.specs.Journal.{Journal, is_over}
use Rattle.uc_acts.specs.Answers.{asks, answer_to}
use Rattle.uc_acts.specs.KernelRuns.{MayAsk, KernelRuns}
use Rattle.uc_acts.specs.Acts.{act}

pub data Form : Type 0 where
  AnObject : Form
  AClause : Form
  ANumber : Form
  AValue : Form
  AnEvent : Form
  JustGo : Form

abbrev pub IsForm : Form → Answer → Type 0
IsForm AnObject (answer.Object o) = Unit {0}
IsForm AClause (answer.Clause k failed) = Unit {0}
IsForm ANumber (answer.Number z) = Unit {0}
IsForm AValue (answer.Value z failed) = Unit {0}
IsForm AnEvent (answer.Event n x y) = Unit {0}
IsForm AnEvent answer.Nothing = Unit {0}
IsForm JustGo answer.Go = Unit {0}
IsForm _ _ = ⊥

-- the form that an entry of this kind asks for
abbrev pub form_of : EntryKind → Form
form_of kind.Make = AnObject
form_of kind.Cluster = AnObject
form_of kind.Processor = AnObject
form_of kind.Accept = AClause
form_of kind.Empty = ANumber
form_of kind.Front = ANumber
form_of kind.Fail = ANumber
form_of kind.Read = AValue
form_of kind.Poll = AnEvent
form_of _ = JustGo

abbrev pub then_form : ℕ → Form → Entry → Form
then_form t old e = if asks t e.kind e then form_of e.kind else old

-- the form for which task t has asked last; before that it is to go on
unfoldable pub asked_form : ℕ → Journal → Form
asked_form t j = fold (then_form t) JustGo j

abbrev pub LawSuiting : Type 0
LawSuiting =
    (opts : Options) (sites : List Site) (input : List ℕ) (j : Journal) →
    KernelRuns opts sites input j → is_over j ≡ false → (t : ℕ) (a : Answer) →
    answer_to sites t j ≡ Some a → IsForm (asked_form t j) a

-- the form that a request asks for
abbrev pub form_of_request : Request → Form
form_of_request (ask.Make class) = AnObject
form_of_request ask.Cluster = AnObject
form_of_request (ask.Processor c) = AnObject
form_of_request (ask.Accept o site mask) = AClause
form_of_request (ask.Empty o c) = ANumber
form_of_request (ask.Front o c) = ANumber
form_of_request ask.Fail = ANumber
form_of_request (ask.Read form) = AValue
form_of_request (ask.Poll mask) = AnEvent
form_of_request _ = JustGo

-- what an act makes of the forms for which tasks have asked
pub record AsksFor (j a : List Entry) (t : ℕ) (r : Request) : Type 0 where
  pub own : asked_form t (j ++ a) ≡ form_of_request r
  pub others : (u : ℕ) → (u == t) ≡ false → asked_form u (j ++ a) ≡ asked_form u j

-- an act of a run that goes on is of one request, and this is what its task has asked last
abbrev pub LawAsking : Type 0
LawAsking =
    (opts : Options) (sites : List Site) (input : List ℕ) (j : Journal) (p t k : ℕ) (asked : Asked) →
    KernelRuns opts sites input j → MayAsk opts sites j p t k asked.request →
    is_over (j ++ act opts sites input j p t k asked) ≡ false →
    AsksFor j (act opts sites input j p t k asked) t asked.request
