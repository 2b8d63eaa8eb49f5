use Rattle.std.proofs.Common.{rules, map, ap, ◌∙◌, subst}
use Rattle.std.proofs.lemmas.List.Sorted.{answers_always, ranks_by}
use Rattle.std.specs.List.Sorted.{IsPermutation}
use Rattle.std.specs.Ordering.{is_lt}
use Rattle.octet_trie.specs.Trie.{found_entry}
use Rattle.qname_index.specs.Listing.{AreListed, listing_order}
use Rattle.qname_index.proofs.Listed.{all_put, are_listed, listing_total}
use Rattle.qname_index.proofs.map.NameTrie.entries.Goals as goal

pub returns : goal.returns
returns g c =
    let listed = c.sort_by.new.self.items in
    let same = ap (map found_entry) c.deref.ensures.value ∙ c.in_ok-found.ensures in
    let all = all_put found_entry c.self.inside.trie c.new-entries.result.items c.push_entries.new.entries.items c.deref.result.now same c.new-entries.ensures.items c.in_ok-push_entries.ensures in
    let moved = subst (λ es. IsPermutation es listed) all c.in_ok-sort_by.ensures.permutation in
    let sorted = c.in_ok-sort_by.ensures.sorted (λ x y. is_lt (listing_order x.0 y.0)) (ranks_by listing_total (λ e. e.0)) (answers_always _ _ _ (λ f a r g k. search rules)) in
    subst (λ es. AreListed es listed) c.self.view_is (are_listed c.self.inside.trie listed c.self.invariant moved sorted)
