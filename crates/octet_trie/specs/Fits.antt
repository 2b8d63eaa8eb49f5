-- Which entries answer a question for the octets of a key.
use Rattle.std.specs.Prelude.{ℕ, ◌+◌, ◌==◌, Bool, true, false, cond, ◌&&◌, Option, Some, None, List, [], ◌∷◌, take, drop}
use Rattle.octet_trie.specs.ListKeys.{entry_key}
use Rattle.octet_trie.specs.declared.walk.Hit.{Hit}
use Rattle.trie_keys.specs.declared.marked.Marked.{Marked}

abbrev pub is_last : List ℕ → Bool
is_last [] = true
is_last (s ∷ ss) = false

-- the exact entry of the octets, and the wild entry of each shorter key with which they begin
abbrev pub fits : List ℕ → List ℕ → Bool
fits [] [] = false
fits [] (s ∷ ss) = s == 0 && is_last ss
fits (o ∷ octets) [] = false
fits (o ∷ octets) (s ∷ ss) = cond (s == 1) (is_last ss) (s == o + 2 && fits octets ss)

module _ {V : Type 0} where
  -- the entry at a key, if it is there and acts
  abbrev pub acting : (V → Bool) → List ℕ → Option V → Option (List ℕ × V)
  acting acts key None = None
  acting acts key (Some v) = cond (acts v) (Some (key, v)) None

  -- whether there is a value, and it passes
  abbrev pub some_passes : (V → Bool) → Option V → Bool
  some_passes test None = false
  some_passes test (Some v) = test v

-- the entry that a hit stands for
abbrev pub entry_of : {N M : Type 0} → List ℕ → Hit N M → List ℕ × Marked N M
entry_of octets h = (entry_key (take h.len (drop h.key octets)) h.wild, h.value)
