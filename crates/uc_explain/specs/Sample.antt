-- The lines of a sample journal: a task accepts the destructor of its own object, object 1, and goes on.
use Rattle.std.specs.Prelude.{ℕ, List, ◌++◌, codes}

abbrev pub destructor_lines : List ℕ
destructor_lines =
    codes "2: inside 0; waiting -; stacked -; blocked -; open -; next -\n"
    ++ codes "3: inside 1; waiting -; stacked -; blocked -; open -; next -\n"
    ++ codes "5: inside 1; waiting 0:0; stacked -; blocked -; open -; next 0/2\n"
    ++ codes "8: inside 1; waiting -; stacked 0; blocked -; open -; next 0/3\n"
    ++ codes "11: inside -; waiting -; stacked 0; blocked -; open -; next 0/3\n"
    ++ codes "12: inside 0; waiting -; stacked -; blocked -; open -; next -\n"
    ++ codes "16: inside -; waiting -; stacked -; blocked -; open -; next -\n"
