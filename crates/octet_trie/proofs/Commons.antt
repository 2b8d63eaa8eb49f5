-- What two keys have in common.
use Rattle.std.proofs.Common.{◌≡◌, ℕ, ◌+◌, ◌<◌, ◌≤◌, Bool, true, false, List, [], ◌∷◌, ◌++◌, length, take, drop, get_or, sym, ap, ◌∙◌, subst, arith, append-nil, append_assoc, length-append}
use Rattle.std.proofs.lemmas.List.{take_all, take-append-drop, get_or_at, length-take-le}
use Rattle.octet_trie.specs.Edits.{IsCommon, GoesOn}
use Rattle.octet_trie.specs.ListKeys.{octet_keys, symbols, end_symbol, entry_key}
use Rattle.octet_trie.proofs.Spelling.{length_symbols, symbols_append, under_top, valid_short}
use Rattle.octet_trie.proofs.Stretches.{parted}
use Rattle.trie_keys.specs.Keys.{Keys, KeyLaws, Under}

module _ {K : Type 0} (keys : Keys K) (laws : KeyLaws keys) where
  differ : (top mid a b : K) (s t symbol : ℕ) → Under keys mid s a → Under keys mid t b → (s ≡ t → ⊥) → Under keys top symbol a → Under keys top symbol b → keys.len top < keys.len mid
  differ top mid a b s t symbol first second apart u w =
      let n = keys.len mid in
      let m = keys.len top in
      let both : keys.agree m a b ≡ true = laws.along m a top b (laws.back m top a u.agrees) w.agrees in
      let short : n < m → ⊥ = λ lt. apart (sym first.next ∙ laws.symbols_agree n a b (laws.fewer (n + 1) m a b (omega arith) both) ∙ second.next) in
      let same : n ≡ m → ⊥ = λ e. apart (sym first.next ∙ ap (keys.symbol a) e ∙ u.next ∙ sym w.next ∙ ap (keys.symbol b) (sym e) ∙ second.next) in
      omega (arith, short, same)

  -- what two keys have in common up to where they part is under each key under which both are
  pub middle : (top mid a b : K) (s t symbol : ℕ) → keys.valid mid ≡ true → Under keys mid s a → Under keys mid t b → (s ≡ t → ⊥) → Under keys top symbol a → Under keys top symbol b → Under keys top symbol mid
  middle top mid a b s t symbol valid first second apart u w =
      let n = keys.len mid in
      let m = keys.len top in
      let lt : m < n = differ top mid a b s t symbol first second apart u w in
      record {
        valid = valid;
        agrees = laws.along m top a mid u.agrees (laws.back m mid a (laws.fewer m n mid a (omega arith) first.agrees));
        longer = lt;
        next = laws.symbols_agree m mid a (laws.fewer (m + 1) n mid a (omega arith) first.agrees) ∙ u.next;
      }

pub whole_common : (a b : List ℕ) (n : ℕ) → IsCommon a b n → length a ≤ n → length b ≤ n → a ≡ b
whole_common a b n c ha hb = sym (take_all n a ha) ∙ c.same ∙ take_all n b hb

pub front_common : (a b : List ℕ) (n : ℕ) → IsCommon a b n → length a ≤ n → take (length a) b ≡ a
front_common a b n c h =
    let e : length a ≡ n = omega (arith, c.here) in
    ap (λ k. take k b) e ∙ sym c.same ∙ take_all n a h

pub goes_from : (a b : List ℕ) → take (length a) b ≡ a → length a < length b → GoesOn a b
goes_from a b front lt = parted b (length a) 0 lt ∙ ap (λ xs. xs ++ (get_or b (length a) 0 ∷ drop (length a + 1) b)) front

-- ---- the keys of octets

pub under_octets : (name rest : List ℕ) (t : ℕ) → length name + (1 + length rest) ≤ 255 → Under octet_keys (symbols name) (t + 2) (symbols (name ++ (t ∷ rest)))
under_octets name rest t h =
    subst (λ key. Under octet_keys (symbols name) (t + 2) key) (sym (symbols_append name (t ∷ rest)))
    (under_top (symbols name) (symbols rest) (t + 2) (omega (arith, length_symbols name, length_symbols rest)))

pub under_entry : (name rest : List ℕ) (t : ℕ) (wild : Bool) → length name + (1 + length rest) < 255 → Under octet_keys (symbols name) (t + 2) (entry_key (name ++ (t ∷ rest)) wild)
under_entry name rest t wild h =
    let all : symbols (name ++ (t ∷ rest)) ++ end_symbol wild ∷ [] ≡ symbols name ++ ((t + 2) ∷ (symbols rest ++ end_symbol wild ∷ [])) =
    ap (λ xs. xs ++ end_symbol wild ∷ []) (symbols_append name (t ∷ rest))
    ∙ append_assoc (symbols name) (symbols (t ∷ rest)) (end_symbol wild ∷ []) in
    subst (λ key. Under octet_keys (symbols name) (t + 2) key) (sym all)
    (under_top (symbols name) (symbols rest ++ end_symbol wild ∷ []) (t + 2) (omega (arith, length_symbols name, length_symbols rest, length-append (symbols rest) (end_symbol wild ∷ []))))

goes_length : (name octets : List ℕ) → GoesOn name octets → length name + (1 + length (drop (length name + 1) octets)) ≡ length octets
goes_length name octets e = omega (arith, ap length e, length-append name (get_or octets (length name) 0 ∷ drop (length name + 1) octets))

pub goes_under : (name octets : List ℕ) → GoesOn name octets → length octets < 255 → Under octet_keys (symbols name) (get_or octets (length name) 0 + 2) (symbols octets)
goes_under name octets e h =
    let rest = drop (length name + 1) octets in
    let t = get_or octets (length name) 0 in
    subst (λ xs. Under octet_keys (symbols name) (t + 2) (symbols xs)) (sym e)
    (under_octets name rest t (omega (arith, goes_length name octets e)))

pub goes_under_entry : (name octets : List ℕ) (wild : Bool) → GoesOn name octets → length octets < 255 → Under octet_keys (symbols name) (get_or octets (length name) 0 + 2) (entry_key octets wild)
goes_under_entry name octets wild e h =
    let rest = drop (length name + 1) octets in
    let t = get_or octets (length name) 0 in
    subst (λ xs. Under octet_keys (symbols name) (t + 2) (entry_key xs wild)) (sym e)
    (under_entry name rest t wild (omega (arith, goes_length name octets e)))

end_small : (wild : Bool) → end_symbol wild < 2
end_small true = omega arith
end_small false = omega arith

pub under_end : (name : List ℕ) (wild : Bool) → length name < 255 → Under octet_keys (symbols name) (end_symbol wild) (entry_key name wild)
under_end name wild h = under_top (symbols name) [] (end_symbol wild) (omega (arith, length_symbols name))

pub under_front : (name : List ℕ) (n : ℕ) → n < length name → length name < 255 → Under octet_keys (symbols (take n name)) (get_or name n 0 + 2) (symbols name)
under_front name n short h =
    let other = get_or name n 0 in
    let split : name ≡ take n name ++ (other ∷ drop (n + 1) name) = parted name n 0 short in
    subst (λ xs. Under octet_keys (symbols (take n name)) (other + 2) (symbols xs)) (sym split)
    (under_octets (take n name) (drop (n + 1) name) other (omega (arith, ap length split, length-append (take n name) (other ∷ drop (n + 1) name))))

-- where an entry's key parts from a node's
pub record PartsAt (name octets : List ℕ) (wild : Bool) (n : ℕ) : Type 0 where
  pub valid : octet_keys.valid (symbols (take n name)) ≡ true
  pub symbol : ℕ
  pub entry : Under octet_keys (symbols (take n name)) symbol (entry_key octets wild)
  pub node : Under octet_keys (symbols (take n name)) (get_or name n 0 + 2) (symbols name)
  pub apart : symbol ≡ get_or name n 0 + 2 → ⊥

pub parts_at : (name octets : List ℕ) (wild : Bool) (n : ℕ) → IsCommon name octets n → n < length name → length name < 255 → length octets < 255 → PartsAt name octets wild n
parts_at name octets wild n c short hn ho =
    let other = get_or name n 0 in
    let len : length (take n name) ≡ n = length-take-le n name (omega arith) in
    let valid : octet_keys.valid (symbols (take n name)) ≡ true = valid_short (symbols (take n name)) (omega (arith, length_symbols (take n name))) in
    let node : Under octet_keys (symbols (take n name)) (other + 2) (symbols name) = under_front name n short hn in
    let joined : octets ≡ take n name ++ drop n octets = sym (take-append-drop n octets) ∙ ap (λ xs. xs ++ drop n octets) (sym c.same) in
    elim (drop n octets) as (λ rest. octets ≡ take n name ++ rest → PartsAt name octets wild n) [
      | [] ↦ λ e.
          let whole : octets ≡ take n name = e ∙ append-nil (take n name) in
          record {
            valid = valid;
            symbol = end_symbol wild;
            entry = subst (λ xs. Under octet_keys (symbols (take n name)) (end_symbol wild) (entry_key xs wild)) (sym whole) (under_end (take n name) wild (omega arith));
            node = node;
            apart = λ same. omega (arith, same, end_small wild);
          }
      | ◌∷◌ o rest ↦ λ e.
          let total : length octets ≡ n + (1 + length rest) = omega (arith, ap length e, length-append (take n name) (o ∷ rest)) in
          let at : get_or octets n 0 ≡ o = ap (λ xs. get_or xs n 0) e ∙ get_or_at (take n name) o rest 0 n len in
          record {
            valid = valid;
            symbol = o + 2;
            entry = subst (λ xs. Under octet_keys (symbols (take n name)) (o + 2) (entry_key xs wild)) (sym e) (under_entry (take n name) rest o wild (omega arith));
            node = node;
            apart = λ same. c.differ short (omega arith) (omega (arith, same, at));
          }
    ] joined
