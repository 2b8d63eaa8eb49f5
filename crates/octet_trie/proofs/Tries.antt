-- What is true of a trie stays so.
use Rattle.std.proofs.Common.{◌≡◌, ℕ, ◌≤◌, Bool, true, false, cond, Option, Some, None, List, [], ◌∷◌, length, refl, sym, ap, subst, arith, length-append, is_some}
use Rattle.std.specs.Map.{lookup, remove_entry}
use Rattle.octet_trie.specs.Edits.{Put, Taken}
use Rattle.octet_trie.specs.ListKeys.{octet_keys, entry_key, symbols, end_symbol}
use Rattle.octet_trie.specs.Nodes.{PlainNode, Stored, stands}
use Rattle.octet_trie.specs.Trie.{IsTrie}
use Rattle.octet_trie.proofs.ListLaws.{list_laws}
use Rattle.octet_trie.proofs.Spelling.{valid_short, length_symbols}
use Rattle.trie_keys.specs.Sorting.{AreEntries}
use Rattle.trie_keys.proofs.Sorting.{none_are_entries, entries_inserted, entries_removed}

pub valid_entry : (octets : List ℕ) (wild : Bool) → length octets ≤ 254 → octet_keys.valid (entry_key octets wild) ≡ true
valid_entry octets wild h =
    valid_short (entry_key octets wild) (omega (arith, length_symbols octets, length-append (symbols octets) (end_symbol wild ∷ [])))

module _ {V : Type 0} where
  root_here : IsTrie {V = V} (record { octets = []; subs = [] }) (record { key = 0; len = 0; symbol = 0; kids = 0; count = 0; exact = None; wild = None })
  root_here = record {
    node = record { whole = record { there = omega arith; whole = omega arith }; short = omega arith; within = omega arith; kids = tt };
    entries = none_are_entries octet_keys (list_laws 255);
  }

  pub root_trie : (s : Stored V) (root : PlainNode V) → s ≡ record { octets = []; subs = [] } → root ≡ record { key = 0; len = 0; symbol = 0; kids = 0; count = 0; exact = None; wild = None } → IsTrie s root
  root_trie s root es er =
      subst (λ x. IsTrie x root) (sym es) (subst (λ y. IsTrie (record { octets = []; subs = [] }) y) (sym er) root_here)

  pub root_list : (s : Stored V) (root : PlainNode V) → s ≡ record { octets = []; subs = [] } → root ≡ record { key = 0; len = 0; symbol = 0; kids = 0; count = 0; exact = None; wild = None } → (stands s root).list ≡ []
  root_list s root es er = λ i. (stands (es i) (er i)).list

  pub put_trie : (old new : Stored V) (n m : PlainNode V) (octets : List ℕ) (wild : Bool) (v : V) → length octets ≤ 254 → IsTrie old n → Put old new n (entry_key octets wild) v m → IsTrie new m
  put_trie old new n m octets wild v short trie p = record {
    node = p.node;
    entries = subst (λ es. AreEntries octet_keys es) (sym p.list) (entries_inserted octet_keys (list_laws 255) (entry_key octets wild) v (stands old n).list (valid_entry octets wild short) trie.entries);
  }

  pub taken_trie : (old new : Stored V) (n m : PlainNode V) (octets : List ℕ) (wild : Bool) → IsTrie old n → Taken old new n (entry_key octets wild) m → IsTrie new m
  taken_trie old new n m octets wild trie p = record {
    node = p.node;
    entries = subst (λ es. AreEntries octet_keys es) (sym p.list) (entries_removed octet_keys (list_laws 255) (entry_key octets wild) (stands old n).list trie.entries);
  }

module _ {K V : Type 0} (test : K → Bool) where
  keep_same : (b : Bool) (e : K × V) (es rest : List (K × V)) → cond b (Some e.1) (lookup test es) ≡ None → (lookup test es ≡ None → rest ≡ es) → cond b es (e ∷ rest) ≡ e ∷ es
  keep_same true e es rest h same = cc h
  keep_same false e es rest h same = ap (λ xs. e ∷ xs) (same h)

  -- where nothing is found, nothing is taken out
  pub none_taken : (es : List (K × V)) → lookup test es ≡ None → remove_entry test es ≡ es
  none_taken [] h = refl
  none_taken (e ∷ es) h = keep_same (test e.0) e es (remove_entry test es) h (none_taken es)

pub none_there : {X : Type 0} (o : Option X) → is_some o ≡ false → o ≡ None
none_there None e = refl
none_there (Some x) e = cc e
