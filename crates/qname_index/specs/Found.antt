-- What a look-up gives.
use Rattle.dns_name.specs.Alike.{PlainPattern}
use Rattle.trie_keys.specs.declared.marked.Marked.{Marked}
use Rattle.qname_index.specs.declared.map.Found.{Found}

-- the entry that was found
abbrev pub found_pattern : {N M : Type 0} → Found N M → PlainPattern × Marked N M
found_pattern found = (found.pattern, found.value)
