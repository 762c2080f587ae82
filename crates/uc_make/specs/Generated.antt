-- The text of the generated program.
use Rattle.std.specs.Prelude.{ℕ, zero, suc, List, [], ◌∷◌, ◌++◌, codes, decimal}

-- in quotes
abbrev pub quoted : List ℕ → List ℕ
quoted text = 34 ∷ (text ++ 34 ∷ [])

abbrev pub front : List ℕ
front =
    codes "_Monitor Total { int sum; public: void add(int n) { sum += n; } int get() { return sum; } };\n"
    ++ codes "_Task Worker { Total & t; int n;\n"
    ++ codes "void main() { for (int i = 1; i <= 10; i += 1) { t.add(n * i); yield(); } }\n"
    ++ codes "public: Worker(Total & t, int n) : t(t), n(n) {} };\n"
    ++ codes "void uMain::main() {\n"
    ++ codes "Total t;\n"
    ++ codes "{\n"

-- the line of one worker
abbrev pub worker : ℕ → List ℕ
worker k = codes "Worker w" ++ decimal k ++ codes "(t, " ++ decimal k ++ codes ");\n"

-- the lines of the workers from 1 to n
abbrev pub workers : ℕ → List ℕ
workers zero = []
workers (suc n) = workers n ++ worker (suc n)

-- what stands behind the workers, before the number of tasks and behind it

abbrev pub before_count : List ℕ
before_count = codes "}\n" ++ codes "cout << " ++ quoted (codes "tasks ") ++ codes " << "

abbrev pub behind_count : List ℕ
behind_count = codes " << " ++ quoted (codes " total ") ++ codes " << t.get() << endl;\n" ++ codes "}\n"

abbrev pub end : ℕ → List ℕ
end n = before_count ++ decimal n ++ behind_count

-- the program of n tasks
abbrev pub generated : ℕ → List ℕ
generated n = front ++ workers n ++ end n
