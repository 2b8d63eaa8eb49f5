-- Where a key stands among the entries of a node.
use Rattle.std.proofs.Common.{◌≡◌, ℕ, ◌+◌, ◌<◌, cond, Option, Some, None, List, [], ◌∷◌, ◌++◌, length, refl, sym, ap, ◌∙◌, arith, append_assoc, is_eq}
use Rattle.std.specs.BTreeMap.{insert_entry, is_at}
use Rattle.std.specs.Cmp.{tied_itself}
use Rattle.std.specs.List.{AllByRecursion}
use Rattle.std.specs.Map.{remove_entry, lookup}
use Rattle.std.specs.Ordering.{match_ordering}
use Rattle.std.specs.declared.cmp.Ordering.{Ordering}
use Rattle.std.specs.declared.cmp.Ordering.TheVariants.{Less, Equal, Greater}
use Rattle.octet_trie.specs.ListKeys.{octet_keys}
use Rattle.octet_trie.specs.Nodes.{Sub, joined, list_of, IsKid}
use Rattle.octet_trie.proofs.Kinship.{AllBelow, AllAbove, behind_joined, before_joined, past_two, past_ends}
use Rattle.octet_trie.proofs.ListLaws.{list_laws}
use Rattle.octet_trie.proofs.Spelling.{own_under}
use Rattle.octet_trie.proofs.Stretches.{flat_append}
use Rattle.trie_keys.proofs.Beginning.{sides, turned}
use Rattle.trie_keys.proofs.Entries.{Before, Behind, all_append, insert_behind, insert_first, remove_behind, remove_first}
use Rattle.trie_keys.specs.Keys.{Under}
use Rattle.trie_keys.specs.Scan.{own}

-- the key comes behind the first of three parts and before the third
pub record IsBetween {V : Type 0} (key : List ℕ) (es before mid behind : List (List ℕ × V)) : Type 0 where
  pub whole : es ≡ before ++ (mid ++ behind)
  pub first : Behind octet_keys.order key before
  pub last : Before octet_keys.order key behind

less_not_equal : (o : Ordering) → o ≡ Less → o ≡ Equal → ⊥
less_not_equal o e f = cc (e, f)

greater_not_equal : (o : Ordering) → o ≡ Greater → o ≡ Equal → ⊥
greater_not_equal o e f = cc (e, f)

module _ {V : Type 0} where
  pub between_insert : (key : List ℕ) (v : V) (es before mid behind : List (List ℕ × V)) → IsBetween key es before mid behind → insert_entry octet_keys.order es key v ≡ before ++ (insert_entry octet_keys.order mid key v ++ behind)
  between_insert key v es before mid behind b =
      ap (λ xs. insert_entry octet_keys.order xs key v) b.whole
      ∙ insert_behind octet_keys.order key v before (mid ++ behind) b.first
      ∙ ap (λ xs. before ++ xs) (insert_first octet_keys.order key v mid behind b.last)

  pub between_remove : (key : List ℕ) (es before mid behind : List (List ℕ × V)) → IsBetween key es before mid behind → remove_entry (is_at (octet_keys.order key)) es ≡ before ++ (remove_entry (is_at (octet_keys.order key)) mid ++ behind)
  between_remove key es before mid behind b =
      ap (remove_entry (is_at (octet_keys.order key))) b.whole
      ∙ remove_behind octet_keys.order key before (mid ++ behind) b.first
      ∙ ap (λ xs. before ++ xs) (remove_first octet_keys.order key mid behind b.last)

  passed : (o : Ordering) (v : V) (found : Option V) → (o ≡ Equal → ⊥) → cond (is_eq o) (Some v) found ≡ found
  passed Less v found h = refl
  passed Equal v found h = absurd (h refl)
  passed Greater v found h = refl

  lookup_behind : (key : List ℕ) (es more : List (List ℕ × V)) → Behind octet_keys.order key es → lookup (is_at (octet_keys.order key)) (es ++ more) ≡ lookup (is_at (octet_keys.order key)) more
  lookup_behind key [] more all = refl
  lookup_behind key (e ∷ es) more all =
      passed (octet_keys.order key e.0) e.1 (lookup (is_at (octet_keys.order key)) (es ++ more)) (greater_not_equal (octet_keys.order key e.0) all.0)
      ∙ lookup_behind key es more all.1

  lookup_before : (key : List ℕ) (es : List (List ℕ × V)) → Before octet_keys.order key es → lookup (is_at (octet_keys.order key)) es ≡ None
  lookup_before key [] all = refl
  lookup_before key (e ∷ es) all =
      passed (octet_keys.order key e.0) e.1 (lookup (is_at (octet_keys.order key)) es) (less_not_equal (octet_keys.order key e.0) all.0)
      ∙ lookup_before key es all.1

  pub lookup_absent : (key : List ℕ) (es : List (List ℕ × V)) → AllByRecursion (λ e. octet_keys.order key e.0 ≡ Equal → ⊥) es → lookup (is_at (octet_keys.order key)) es ≡ None
  lookup_absent key [] all = refl
  lookup_absent key (e ∷ es) all =
      passed (octet_keys.order key e.0) e.1 (lookup (is_at (octet_keys.order key)) es) all.0
      ∙ lookup_absent key es all.1

  lookup_first : (key : List ℕ) (es more : List (List ℕ × V)) → Before octet_keys.order key more → lookup (is_at (octet_keys.order key)) (es ++ more) ≡ lookup (is_at (octet_keys.order key)) es
  lookup_first key [] more before = lookup_before key more before
  lookup_first key (e ∷ es) more before = ap (λ o. cond (is_at (octet_keys.order key) e.0) (Some e.1) o) (lookup_first key es more before)

  pub between_lookup : (key : List ℕ) (es before mid behind : List (List ℕ × V)) → IsBetween key es before mid behind → lookup (is_at (octet_keys.order key)) es ≡ lookup (is_at (octet_keys.order key)) mid
  between_lookup key es before mid behind b =
      ap (lookup (is_at (octet_keys.order key))) b.whole
      ∙ lookup_behind key before (mid ++ behind) b.first
      ∙ lookup_first key mid behind b.last

  -- ---- an entry itself

  pub insert_own : (key : List ℕ) (e : Option V) (v : V) → insert_entry octet_keys.order (own key e) key v ≡ own key (Some v)
  insert_own key None v = refl
  insert_own key (Some w) v = ap (λ o. match_ordering o ((key, v) ∷ (key, w) ∷ []) ((key, v) ∷ []) ((key, w) ∷ (key, v) ∷ [])) (tied_itself (list_laws 255).total key)

  pub remove_own : (key : List ℕ) (e : Option V) → remove_entry (is_at (octet_keys.order key)) (own key e) ≡ []
  remove_own key None = refl
  remove_own key (Some w) = ap (λ o. cond (is_eq o) [] ((key, w) ∷ [])) (tied_itself (list_laws 255).total key)

  pub lookup_own : (key : List ℕ) (e : Option V) → lookup (is_at (octet_keys.order key)) (own key e) ≡ e
  lookup_own key None = refl
  lookup_own key (Some w) = ap (λ o. cond (is_eq o) (Some w) None) (tied_itself (list_laws 255).total key)

  -- ---- among the entries of a node

  before_own : (top key : List ℕ) (s t : ℕ) (e : Option V) → s < t → length top < 255 → Under octet_keys top s key → Before octet_keys.order key (own (top ++ t ∷ []) e)
  before_own top key s t None lt h u = tt
  before_own top key s t (Some v) lt h u = (sides octet_keys (list_laws 255) top key (top ++ t ∷ []) s t lt u (own_under top t h), tt)

  behind_own : (top key : List ℕ) (s t : ℕ) (e : Option V) → t < s → length top < 255 → Under octet_keys top s key → Behind octet_keys.order key (own (top ++ t ∷ []) e)
  behind_own top key s t None lt h u = tt
  behind_own top key s t (Some v) lt h u = (turned octet_keys (list_laws 255) (top ++ t ∷ []) key (sides octet_keys (list_laws 255) top (top ++ t ∷ []) key t s lt (own_under top t h) u), tt)

  pub at_exact : (top : List ℕ) (e w : Option V) (ks : List (Sub V)) → length top < 255 → AllByRecursion (λ k. IsKid top k) ks → IsBetween (top ++ 0 ∷ []) (list_of top e w ks) [] (own (top ++ 0 ∷ []) e) (own (top ++ 1 ∷ []) w ++ joined ks)
  at_exact top e w ks h kids =
      let u = own_under top 0 h in
      record {
        whole = refl;
        first = tt;
        last = all_append (λ x. octet_keys.order (top ++ 0 ∷ []) x.0 ≡ Less) (own (top ++ 1 ∷ []) w) (joined ks)
            (before_own top (top ++ 0 ∷ []) 0 1 w (omega arith) h u)
            (before_joined top (top ++ 0 ∷ []) 0 ks u kids (past_ends 0 ks (omega arith)));
      }

  pub at_wild : (top : List ℕ) (e w : Option V) (ks : List (Sub V)) → length top < 255 → AllByRecursion (λ k. IsKid top k) ks → IsBetween (top ++ 1 ∷ []) (list_of top e w ks) (own (top ++ 0 ∷ []) e) (own (top ++ 1 ∷ []) w) (joined ks)
  at_wild top e w ks h kids =
      let u = own_under top 1 h in
      record {
        whole = refl;
        first = behind_own top (top ++ 1 ∷ []) 1 0 e (omega arith) h u;
        last = before_joined top (top ++ 1 ∷ []) 1 ks u kids (past_ends 1 ks (omega arith));
      }

  joined_parts : (xs mid ys : List (Sub V)) → joined (xs ++ (mid ++ ys)) ≡ joined xs ++ (joined mid ++ joined ys)
  joined_parts xs mid ys =
      flat_append (λ (s : Sub V). s.list) xs (mid ++ ys)
      ∙ ap (λ es. joined xs ++ es) (flat_append (λ (s : Sub V). s.list) mid ys)

  -- the part of the entries that is before those of some nodes under it
  abbrev pub front_of : List ℕ → Option V → Option V → List (Sub V) → List (List ℕ × V)
  front_of top e w xs = own (top ++ 0 ∷ []) e ++ (own (top ++ 1 ∷ []) w ++ joined xs)

  pub list_parts : (top : List ℕ) (e w : Option V) (xs mid ys : List (Sub V)) → list_of top e w (xs ++ (mid ++ ys)) ≡ front_of top e w xs ++ (joined mid ++ joined ys)
  list_parts top e w xs mid ys =
      ap (λ es. own (top ++ 0 ∷ []) e ++ (own (top ++ 1 ∷ []) w ++ es)) (joined_parts xs mid ys)
      ∙ ap (λ es. own (top ++ 0 ∷ []) e ++ es) (sym (append_assoc (own (top ++ 1 ∷ []) w) (joined xs) (joined mid ++ joined ys)))
      ∙ sym (append_assoc (own (top ++ 0 ∷ []) e) (own (top ++ 1 ∷ []) w ++ joined xs) (joined mid ++ joined ys))

  pub at_kids : (top key : List ℕ) (t : ℕ) (e w : Option V) (xs mid ys : List (Sub V)) → length top < 255 → Under octet_keys top (t + 2) key → AllByRecursion (λ k. IsKid top k) xs → AllByRecursion (λ k. IsKid top k) ys → AllBelow t xs → AllAbove t ys → IsBetween key (list_of top e w (xs ++ (mid ++ ys))) (front_of top e w xs) (joined mid) (joined ys)
  at_kids top key t e w xs mid ys h u kx ky below above = record {
    whole = list_parts top e w xs mid ys;
    first = all_append (λ x. octet_keys.order key x.0 ≡ Greater) (own (top ++ 0 ∷ []) e) (own (top ++ 1 ∷ []) w ++ joined xs)
        (behind_own top key (t + 2) 0 e (omega arith) h u)
        (all_append (λ x. octet_keys.order key x.0 ≡ Greater) (own (top ++ 1 ∷ []) w) (joined xs)
        (behind_own top key (t + 2) 1 w (omega arith) h u)
        (behind_joined top key t xs u kx below));
    last = before_joined top key (t + 2) ys u ky (past_two t ys above);
  }
