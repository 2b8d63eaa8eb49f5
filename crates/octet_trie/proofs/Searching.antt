-- Nodes found among those under another, and copies of them.
use Rattle.std.proofs.Common.{◌≡◌, ℕ, ◌+◌, ◌-◌, ◌<◌, ◌≤◌, Bool, Option, Some, None, List, [], ◌∷◌, ◌++◌, length, take, drop, get_or, refl, sym, ap, ◌∙◌, subst, arith, append_assoc, length-append, length-take, length-drop, IfSome}
use Rattle.std.proofs.lemmas.List.{get_or_append_left}
use Rattle.octet_trie.specs.Edits.{subs_if, with_others}
use Rattle.octet_trie.specs.Nodes.{PlainNode, Sub, Stored, kids_of, stands, IsNode, IsAt, Extends}
use Rattle.octet_trie.specs.Plain.{plain}
use Rattle.octet_trie.specs.declared.node.Node.{Node}
use Rattle.octet_trie.proofs.Kinship.{AllBelow, AllAbove, all_below, all_above, few_kids}
use Rattle.octet_trie.proofs.Numbers.{node_after, stands_after}
use Rattle.octet_trie.proofs.Stretches.{stretch_at, stretch_more, stretch_kept, stretch_front, stretch_rest, length_stretch}
use Rattle.trie_keys.specs.declared.marked.Marked.{Marked}

module _ {V : Type 0} where
  pub kid_is : (s : Stored V) (n k : PlainNode V) (place : ℕ) (d : Sub V) → place < n.count → IsAt s (n.kids + place) k → get_or (kids_of s.subs n) place d ≡ stands s k
  kid_is s n k place d h at = stretch_at s.subs n.kids n.count place d h ∙ at.sub d

  pub kids_count : (s : Stored V) (n : PlainNode V) → IsNode s n → length (kids_of s.subs n) ≡ n.count
  kids_count s n node = length_stretch s.subs n.kids n.count node.within

  pub found_below : (s : Stored V) (n k : PlainNode V) (place t : ℕ) → IsNode s n → place < n.count → IsAt s (n.kids + place) k → k.symbol < t → AllBelow t (take (place + 1) (kids_of s.subs n))
  found_below s n k place t node h at lt =
      let d = stands s k in
      let same = kid_is s n k place d h at in
      all_below _ (kids_of s.subs n) place t d node.kids (omega (arith, kids_count s n node)) (subst (λ (x : Sub V). x.symbol < t) (sym same) lt)

  pub found_above : (s : Stored V) (n k : PlainNode V) (place t : ℕ) → IsNode s n → place < n.count → IsAt s (n.kids + place) k → t < k.symbol → AllAbove t (drop place (kids_of s.subs n))
  found_above s n k place t node h at lt =
      let d = stands s k in
      let same = kid_is s n k place d h at in
      all_above _ (kids_of s.subs n) place t d node.kids (omega (arith, kids_count s n node)) (subst (λ (x : Sub V). t < x.symbol) (sym same) lt)

  -- ---- copies

  pub copied : (old cur new : Stored V) (first number end : ℕ) (n : PlainNode V) → first ≤ number → number < end → end ≤ length old.subs
      → cur ≡ record old { subs = old.subs ++ take (number - first) (drop first old.subs) } → IsAt cur number n
      → new ≡ record cur { subs = cur.subs ++ stands cur n ∷ [] }
      → new ≡ record old { subs = old.subs ++ take (number + 1 - first) (drop first old.subs) }
  copied old cur new first number end n from to within so_far at pushed =
      let d = stands cur n in
      let more = take (number - first) (drop first old.subs) in
      let here : first + (number - first) ≡ number = omega arith in
      let next : (number - first) + 1 ≡ number + 1 - first = omega arith in
      let item : get_or old.subs (first + (number - first)) d ≡ stands cur n =
      ap (λ k. get_or old.subs k d) here
      ∙ sym (get_or_append_left old.subs more d number (omega arith))
      ∙ ap (λ (s : Stored V). get_or s.subs number d) (sym so_far)
      ∙ at.sub d in
      let one_more : more ++ stands cur n ∷ [] ≡ take (number + 1 - first) (drop first old.subs) =
      ap (λ x. more ++ x ∷ []) (sym item)
      ∙ sym (stretch_more old.subs first (number - first) d (omega arith))
      ∙ ap (λ k. take k (drop first old.subs)) next in
      pushed
      ∙ (λ i. record { octets = (so_far i).octets; subs = (so_far i).subs ++ stands cur n ∷ [] })
      ∙ (λ i. record { octets = old.octets; subs = append_assoc old.subs more (stands cur n ∷ []) i })
      ∙ (λ i. record { octets = old.octets; subs = old.subs ++ one_more i })

  pub rekidded : (old s1 s2 s3 : Stored V) (n : PlainNode V) (place rest count : ℕ) (mids : List (Sub V)) → IsNode old n → place ≤ rest → rest ≤ n.count → count ≡ n.count
      → s1 ≡ record old { subs = old.subs ++ take (n.kids + place - n.kids) (drop n.kids old.subs) }
      → s2 ≡ record s1 { subs = s1.subs ++ mids }
      → s3 ≡ record s2 { subs = s2.subs ++ take (n.kids + count - (n.kids + rest)) (drop (n.kids + rest) s2.subs) }
      → s3 ≡ record { octets = old.octets; subs = old.subs ++ with_others (kids_of old.subs n) place mids rest }
  rekidded old s1 s2 s3 n place rest count mids node order within all e1 e2 e3 =
      let ks = kids_of old.subs n in
      let a = take (n.kids + place - n.kids) (drop n.kids old.subs) in
      let b = take (n.kids + count - (n.kids + rest)) (drop (n.kids + rest) s2.subs) in
      let few : n.kids + place - n.kids ≡ place = omega arith in
      let many : n.kids + count - (n.kids + rest) ≡ n.count - rest = omega arith in
      let front : a ≡ take place ks = ap (λ k. take k (drop n.kids old.subs)) few ∙ sym (stretch_front old.subs n.kids n.count place (omega arith)) in
      let both : s2.subs ≡ old.subs ++ (a ++ mids) =
      ap (λ (s : Stored V). s.subs) e2 ∙ ap (λ (s : Stored V). s.subs ++ mids) e1 ∙ append_assoc old.subs a mids in
      let back : b ≡ drop rest ks =
      ap (λ k. take k (drop (n.kids + rest) s2.subs)) many
      ∙ ap (λ xs. take (n.count - rest) (drop (n.kids + rest) xs)) both
      ∙ stretch_kept old.subs (a ++ mids) (n.kids + rest) (n.count - rest) (omega (arith, node.within))
      ∙ stretch_rest old.subs n.kids n.count rest within in
      let octets : s3.octets ≡ old.octets = ap (λ (s : Stored V). s.octets) e3 ∙ ap (λ (s : Stored V). s.octets) e2 ∙ ap (λ (s : Stored V). s.octets) e1 in
      let subs : s3.subs ≡ old.subs ++ with_others ks place mids rest =
      ap (λ (s : Stored V). s.subs) e3
      ∙ ap (λ xs. xs ++ b) both
      ∙ append_assoc old.subs (a ++ mids) b
      ∙ ap (λ xs. old.subs ++ xs) (append_assoc a mids b)
      ∙ (λ i. old.subs ++ (front i ++ (mids ++ back i))) in
      λ i. record { octets = octets i; subs = subs i }

  -- how many there are then
  pub few_others : (old : Stored V) (n : PlainNode V) (place rest : ℕ) (mids : List (Sub V)) → IsNode old n → place ≤ rest → rest ≤ n.count → length mids ≤ 1 → length (with_others (kids_of old.subs n) place mids rest) ≤ 257
  few_others old n place rest mids node order within one =
      let ks = kids_of old.subs n in
      omega (arith, few_kids _ ks node.kids, kids_count old n node, length-append (take place ks) (mids ++ drop rest ks), length-append mids (drop rest ks), length-take place ks, length-drop rest ks)

  pub others_count : (old new : Stored V) (kids : List (Sub V)) (a b : ℕ) → new ≡ record { octets = old.octets; subs = old.subs ++ kids } → a ≡ length old.subs → b ≡ length new.subs → b - a ≡ length kids
  others_count old new kids a b e ea eb = omega (arith, ap (λ (s : Stored V). length s.subs) e, length-append old.subs kids)

module _ {N M : Type 0} (present : M → Bool) where
  pub subs_if_after : (old new : Stored (Marked N M)) (kid : Option (Node N M)) → Extends old new → IfSome kid (λ k. IsNode old (plain present k)) → subs_if present new kid ≡ subs_if present old kid
  subs_if_after old new None e node = refl
  subs_if_after old new (Some k) e node = ap (λ s. s ∷ []) (stands_after old new (plain present k) e node)

  pub node_if_after : (old new : Stored (Marked N M)) (kid : Option (Node N M)) → Extends old new → IfSome kid (λ k. IsNode old (plain present k)) → IfSome kid (λ k. IsNode new (plain present k))
  node_if_after old new None e node = node
  node_if_after old new (Some k) e node = node_after old new (plain present k) e node

  pub one_if : (s : Stored (Marked N M)) (kid : Option (Node N M)) → length (subs_if present s kid) ≤ 1
  one_if s None = omega arith
  one_if s (Some k) = omega arith
