use Rattle.std.proofs.Common.{◌≡◌, ◌<◌, ◌∷◌, [], false, sym, ap, ◌∙◌, subst, arith, length, length-set, rules}
use Rattle.std.proofs.lemmas.List.{length-append}
use Rattle.uc_acts.specs.Journal.{is_over}
use Rattle.uc_kernel_journal.specs.EntryAnswers.{IsSayable}
use Rattle.uc_kernel_journal.specs.JournalSums.{Told}
use Rattle.uc_kernel_journal.proofs.Tellings as tellings
use Rattle.uc_kernel_journal.proofs.kernel_journal.KernelJournal.push.Goals as goal

pub note_answers-requires-clause-sayable : goal.note_answers-requires-clause-sayable
note_answers-requires-clause-sayable c =
    let old = c.self.invariant.1 in
    let tasks : c.self.inside.tasks ≡ c.args.self.now.tasks = ap (λ (v : Told). v.tasks) c.self.view_is in
    subst (λ n. IsSayable n c.args.e.kind c.args.e) (sym tasks ∙ sym old.tasks_answers) c.requires.sayable

pub note_spent-requires-clause-room : goal.note_spent-requires-clause-room
note_spent-requires-clause-room c =
    let old = c.self.invariant.1 in
    let going : is_over c.self.inside.journal.items ≡ false = ap (λ (v : Told). is_over v.journal) c.self.view_is ∙ c.requires.going in
    let tasks : c.self.inside.tasks ≡ c.args.self.now.tasks = ap (λ (v : Told). v.tasks) c.self.view_is in
    let rooms : c.self.inside.room ≡ c.args.self.now.room = ap (λ (v : Told). v.room) c.self.view_is in
    let size : length c.self.inside.journal.items ≡ length c.args.self.now.journal = ap (λ (v : Told). length v.journal) c.self.view_is in
    let t = old.tells going in
    let len = old.tasks_spent in
    let lt : c.args.e.task < length c.self.inside.spent = let k = c.requires.task in omega arith in
    let at = t.spent c.args.e.task 0 lt in
    let less = t.less c.args.e.task in
    let most = t.most in
    let all = t.ticks in
    let narrow = old.narrow in
    let room = c.requires.room in
    omega arith

pub invariant_of-self : goal.invariant_of-self
invariant_of-self c =
    let old = c.self.invariant.1 in
    let cap = c.self.invariant.0 in
    let tasks : c.self.inside.tasks ≡ c.args.self.now.tasks = ap (λ (v : Told). v.tasks) c.self.view_is in
    let k = c.requires.task in
    let n1 = old.tasks_spent in
    let n2 = old.tasks_answers in
    let lt : c.args.e.task < length c.self.inside.spent = omega arith in
    let la : c.args.e.task < length c.self.inside.answers = omega arith in
    let say = subst (λ n. IsSayable n c.args.e.kind c.args.e) (sym tasks ∙ sym old.tasks_answers) c.requires.sayable in (
      search rules,
      record {
        tells = λ h.
            let pushed = c.push_reserved.ensures.items in
            let going = tellings.goes_before c.self.inside.journal.items c.args.e (sym (ap is_over pushed) ∙ h) in
            rw (pushed, c.note_spent.ensures, c.note_answers.ensures, c.note_bytes-self-inside.ensures, c.note_failed-self-inside.ensures, c.note_ended-self-inside.ensures, c.from.ensures) (tellings.tells_push c.self.inside.sites.items c.self.inside.journal.items c.self.inside.ticks c.self.inside.spent c.self.inside.answers c.self.inside.bytes c.self.inside.failed c.self.inside.ended c.args.e (old.tells going) lt la say (search rules));
        begun = rw (c.push_reserved.ensures.items) (omega (arith, length-append c.self.inside.journal.items (c.args.e ∷ [])));
        tasks_spent = rw c.note_spent.ensures (length-set c.self.inside.spent c.args.e.task _ ∙ old.tasks_spent);
        tasks_answers = rw c.note_answers.ensures (tellings.answers_length c.self.inside.sites.items c.args.e c.self.inside.answers ∙ old.tasks_answers);
        short = old.short;
        narrow = old.narrow;
        ends = rw c.push_reserved.ensures.items (c.is_ending-self-inside.ensures ∙ tellings.ends_push c.self.inside.journal.items c.args.e (ap (λ (v : Told). is_over v.journal) c.self.view_is ∙ c.requires.going));
      },
    )
