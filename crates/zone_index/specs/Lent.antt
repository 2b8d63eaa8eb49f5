-- Numbers of rows that are lent.
use Rattle.std.specs.Prelude.{ℕ, List, [], ◌∷◌, Option, Some, None}
use Rattle.zone_index.specs.declared.numbers.Lent.{Lent}
use Rattle.zone_index.specs.declared.numbers.Lent.TheVariants.{One, Several}

abbrev pub numbers_in : Lent → List ℕ
numbers_in (One number) = number ∷ []
numbers_in (Several numbers) = numbers.now

-- the first number
abbrev pub first_of : List ℕ → Option ℕ
first_of [] = None
first_of (number ∷ numbers) = Some number
