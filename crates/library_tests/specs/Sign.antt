-- What the marks of tests say.
use Rattle.std.specs.Prelude.{Bool, true, false}
use Rattle.library_tests.specs.declared.sign.Sign.{Sign}
use Rattle.library_tests.specs.declared.sign.Sign.TheVariants.{Absent, There}

abbrev pub is_there : Sign → Bool
is_there Absent = false
is_there There = true
