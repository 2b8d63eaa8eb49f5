-- The line that ends a server's run.
use Rattle.std.specs.Prelude.{ℕ, List, ◌++◌, Option, Some, None, codes, decimal}

-- how many arrivals were to be taken; None where as many as came
abbrev pub turns_text : Option ℕ → List ℕ
turns_text None = codes "forever"
turns_text (Some turns) = decimal turns

-- how many arrivals were to be taken, and what became of the jobs among them
unfoldable pub served_line : Option ℕ → ℕ → ℕ → ℕ → ℕ → List ℕ
served_line turns replies silent memory failed =
    codes "served "
    ++ (turns_text turns
    ++ (codes " reply "
    ++ (decimal replies
    ++ (codes " silent "
    ++ (decimal silent
    ++ (codes " memory "
    ++ (decimal memory ++ (codes " failed " ++ (decimal failed ++ codes "\n")))))))))
