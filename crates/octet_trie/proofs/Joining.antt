-- Whether a walk finds any entry that answers and passes a test, as one over the numbers of sets.
use Rattle.std.proofs.Common.{◌≡◌, ℕ, ◌+◌, ◌<◌, Bool, true, false, cond, ◌&&◌, ◌||◌, Option, Some, None, List, length, get_or, is_some, refl, sym, ap, ◌∙◌}
use Rattle.std.proofs.Math.Bool.{or_assoc}
use Rattle.std.specs.List.{list_any}
use Rattle.octet_trie.specs.Edits.{KidAt, GapAt, IsCommon, GoesOn}
use Rattle.octet_trie.specs.Fits.{fits, acting, some_passes}
use Rattle.octet_trie.specs.ListKeys.{entry_key}
use Rattle.octet_trie.specs.Nodes.{PlainNode, Stored, name_of, kids_of, stands, IsNode, IsAt}
use Rattle.octet_trie.proofs.Walking.{best_apart, best_here, best_gap, best_below}
use Rattle.trie_keys.specs.Scan.{last_where}
use Rattle.trie_keys.proofs.Scan.{else_none, some_else, any_last}

pub any_chained : (result below own after before whole : Bool) → result ≡ (below || after) → after ≡ (own || before) → whole ≡ (below || own) → result ≡ (whole || before)
any_chained result below own after before whole e f w = e ∙ ap (λ b. below || b) f ∙ sym (or_assoc below own before) ∙ ap (λ b. b || before) (sym w)

pub any_settled : (result own before whole : Bool) → result ≡ (own || before) → whole ≡ own → result ≡ (whole || before)
any_settled result own before whole e w = e ∙ ap (λ b. b || before) (sym w)

if_some : {X : Type 0} (b : Bool) (x : X) → is_some (cond b (Some x) None) ≡ b
if_some true x = refl
if_some false x = refl

module _ {V : Type 0} (passes : V → Bool) where
  abbrev any : List ℕ → List (List ℕ × V) → Bool
  any octets es = list_any (λ e. fits octets e.0 && passes e.1) es

  pub any_in : (octets : List ℕ) (es entries : List (List ℕ × V)) (result : Bool) → result ≡ any octets es → es ≡ entries → result ≡ any octets entries
  any_in octets es entries result e view = e ∙ ap (any octets) view

  some_acting : (key : List ℕ) (v : Option V) → is_some (acting passes key v) ≡ some_passes passes v
  some_acting key None = refl
  some_acting key (Some v) = if_some (passes v) (key, v)

  any_found : (octets : List ℕ) (es : List (List ℕ × V)) → any octets es ≡ is_some (last_where (λ e. fits octets e.0 && passes e.1) es)
  any_found octets es = any_last (λ e. fits octets e.0 && passes e.1) es

  pub any_apart : (s : Stored V) (n : PlainNode V) (octets : List ℕ) (same : ℕ) (before : Bool) → IsNode s n → IsCommon (name_of s.octets n) octets same → same < n.len → before ≡ (any octets (stands s n).list || before)
  any_apart s n octets same before node c lt =
      let es = (stands s n).list in
      let none : None ≡ last_where (λ e. fits octets e.0 && passes e.1) es = best_apart passes s n octets same None node c lt ∙ else_none _ in
      ap (λ b. b || before) (ap is_some none ∙ sym (any_found octets es))

  pub any_here : (s : Stored V) (n : PlainNode V) (octets : List ℕ) → IsNode s n → name_of s.octets n ≡ octets → any octets (stands s n).list ≡ some_passes passes n.exact
  any_here s n octets node e =
      any_found octets (stands s n).list ∙ ap is_some (best_here passes s n octets node e) ∙ some_acting (entry_key (name_of s.octets n) false) n.exact

  pub any_gap : (s : Stored V) (n : PlainNode V) (octets : List ℕ) (place : ℕ) → IsNode s n → GoesOn (name_of s.octets n) octets → GapAt (kids_of s.subs n) (get_or octets (length (name_of s.octets n)) 0) place
      → any octets (stands s n).list ≡ some_passes passes n.wild
  any_gap s n octets place node goes gap =
      any_found octets (stands s n).list ∙ ap is_some (best_gap passes s n octets place node goes gap) ∙ some_acting (entry_key (name_of s.octets n) true) n.wild

  pub any_below : (s : Stored V) (n k : PlainNode V) (octets : List ℕ) (place : ℕ) → IsNode s n → GoesOn (name_of s.octets n) octets → KidAt (kids_of s.subs n) (get_or octets (length (name_of s.octets n)) 0) place → IsAt s (n.kids + place) k
      → any octets (stands s n).list ≡ (any octets (stands s k).list || some_passes passes n.wild)
  any_below s n k octets place node goes kid at =
      let own = acting passes (entry_key (name_of s.octets n) true) n.wild in
      any_found octets (stands s n).list ∙ ap is_some (best_below passes s n k octets place node goes kid at)
      ∙ some_else (last_where (λ e. fits octets e.0 && passes e.1) (stands s k).list) own
      ∙ (λ i. sym (any_found octets (stands s k).list) i || some_acting (entry_key (name_of s.octets n) true) n.wild i)
