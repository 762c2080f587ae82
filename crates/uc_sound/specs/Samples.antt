-- Texts of which all premises of the laws hold.
use Rattle.std.specs.Prelude.{ℕ, List, ◌++◌, codes}
use Rattle.uc_tree.specs.Programs.{Program}
use Rattle.uc_sound.specs.SoundFormed.{IsFormed}
use Rattle.uc_sound.specs.WellTyped.{IsTextOf, IsWellTyped}

pub record IsWellTypedText (text : List ℕ) : Type 0 where
  pub program : Program
  pub text_of : IsTextOf text program
  pub formed : IsFormed program
  pub typed : IsWellTyped program

-- a task with a constructor that takes a constant, and with a handler of all events
abbrev pub task_text : List ℕ
task_text =
    codes "const int N = 2; _Event E { }; "
    ++ codes "_Task T { int n; void main() { try { _Throw E(); } catch (...) { } } public: T(int n) : n(n) { } }; "
    ++ codes "void uMain::main() { T t(N); }"

-- a monitor, and two tasks that have a reference to it in a field
abbrev pub account_text : List ℕ
account_text =
    codes "_Monitor Account { int balance; public: "
    ++ codes "void pay(int n) { int old = balance; yield(); balance = old + n; } int get() { return balance; } }; "
    ++ codes "_Task Payer { Account & to; int n; void main() { to.pay(n); } "
    ++ codes "public: Payer(Account & to, int n) : to(to), n(n) { } }; "
    ++ codes "void uMain::main() { Account account; { Payer one(account, 1), ten(account, 10); } "
    ++ codes "cout << account.get() << endl; }"
