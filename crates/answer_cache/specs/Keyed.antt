-- Each entry stands under its key.
use Rattle.std.specs.Prelude.{◌≡◌, ℕ, Bool, List}
use Rattle.std.specs.Global.{Vec}
use Rattle.std.specs.List.{AllByRecursion}
use Rattle.std.specs.Str.{bytes_eq}
use Rattle.upstream_link.specs.Vouched.{PlainLearned}
use Rattle.answer_cache.specs.Key.{key_of}

abbrev pub IsKeyed : List (Vec ℕ × PlainLearned) → Type 0
IsKeyed entries =
    AllByRecursion (λ (e : Vec ℕ × PlainLearned). e.0.items ≡ key_of e.1.question) entries

-- the test of a look-up by this key
abbrev pub has : List ℕ → Vec ℕ → Bool
has key k = bytes_eq key k.items
