-- The rule that comes first of those about several addresses.
use Rattle.std.proofs.Common.{◌≡◌, ℕ, Bool, true, false, cond, ◌&&◌, ◌||◌, List, [], ◌∷◌, ◌++◌, length, Option, Some, None, option_map, refl, sym, ap, subst, ◌∙◌, append_assoc, arith}
use Rattle.std.specs.List.{find, list_any, AllByRecursion}
use Rattle.std.specs.List.Sorted.{IsStrictlySortedBy}
use Rattle.std.specs.BTreeMap.{is_at}
use Rattle.std.specs.Map.{keys_of, lookup}
use Rattle.std.proofs.lemmas.Cmp.{tied_itself}
use Rattle.std.specs.Ordering.{is_lt}
use Rattle.std.specs.Cmp.{IsTotalOrder}
use Rattle.std.specs.declared.cmp.Ordering.{Ordering}
use Rattle.std.specs.declared.cmp.Ordering.TheVariants.{Less}
use Rattle.std.proofs.Math.Bool.{or-false}
use Rattle.std.proofs.lemmas.List.{append-nil}
use Rattle.std.proofs.lemmas.List.Folds.{list_any-append}
use Rattle.dns_name.specs.Alike.{same_name}
use Rattle.dns_record.specs.Address.{address_in}
use Rattle.dns_record.specs.Record.{PlainRecord}
use Rattle.ip_prefix.specs.declared.Addr.{Addr}
use Rattle.ip_prefix.specs.Prefix.{PlainPrefix, contains, prefix_order}
use Rattle.prefix_index.specs.Longest.{longest}
use Rattle.prefix_index.proofs.Order.{prefix_order_total}
use Rattle.zone_index.specs.Addresses.{is_held, has_some, holds_within, first_about}
use Rattle.zone_index.specs.Earlier.{earlier_of, earlier_key}

find_never : {X : Type 0} (xs : List X) → find (λ x. false) xs ≡ None
find_never [] = refl
find_never (x ∷ xs) = find_never xs

find_same : {X : Type 0} (p q : X → Bool) (xs : List X) → ((x : X) → p x ≡ q x) → find p xs ≡ find q xs
find_same p q [] same = refl
find_same p q (x ∷ xs) same = rw (same x, find_same p q xs same) refl

abbrev pub key_in : {K V : Type 0} → Option (K × V) → Option K
key_in entry = option_map (λ e. e.0) entry

-- a record of another name holds nothing for this
pub none_of_another : {V : Type 0} (owner : List (List ℕ)) (r : PlainRecord) (entries : List (PlainPrefix × V)) → same_name r.owner owner ≡ false → None ≡ key_in (find (λ e. holds_within e.0 owner r) entries)
none_of_another owner r entries f = ap key_in (sym (find_same _ (λ x. false) entries (λ x. ap (λ (b : Bool). b && is_held x.0 (address_in r)) f) ∙ find_never entries))

and-false : (b : Bool) → (b && false) ≡ false
and-false true = refl
and-false false = refl

-- nor does one without an address
pub none_without : {V : Type 0} (owner : List (List ℕ)) (r : PlainRecord) (entries : List (PlainPrefix × V)) → address_in r ≡ None → None ≡ key_in (find (λ e. holds_within e.0 owner r) entries)
none_without owner r entries n = ap key_in (sym (find_same _ (λ x. false) entries (λ x. ap (λ (a : Option Addr). same_name r.owner owner && is_held x.0 a) n ∙ and-false (same_name r.owner owner)) ∙ find_never entries))

pub by_address : {V : Type 0} (owner : List (List ℕ)) (r : PlainRecord) (addr : Addr) (entries : List (PlainPrefix × V)) → same_name r.owner owner ≡ true → address_in r ≡ Some addr → key_in (longest addr entries) ≡ key_in (find (λ e. holds_within e.0 owner r) entries)
by_address owner r addr entries t s = ap key_in (sym (find_same _ (λ e. contains e.0 addr) entries (λ x. ap (λ (a : Option Addr). same_name r.owner owner && is_held x.0 a) s ∙ ap (λ (b : Bool). b && contains x.0 addr) t)))

module _ {K V : Type 0} (order : K → K → Ordering) (total : IsTotalOrder order) where
  -- what is found has a key that comes behind this
  abbrev Behind : K → Option (K × V) → Type 0
  Behind k None = Unit {0}
  Behind k (Some e) = order k e.0 ≡ Less

  behind_by : (k : K) (e : K × V) (rest : Option (K × V)) (b : Bool) → order k e.0 ≡ Less → Behind k rest → Behind k (cond b (Some e) rest)
  behind_by k e rest true less h = less
  behind_by k e rest false less h = h

  found_behind : (k : K) (p : K × V → Bool) (es : List (K × V)) → AllByRecursion (λ y. order k y ≡ Less) (keys_of es) → Behind k (find p es)
  found_behind k p [] all = tt
  found_behind k p (e ∷ es) all = behind_by k e (find p es) (p e) all.0 (found_behind k p es all.1)

  same_either : (b : Bool) (e : K × V) → Some e ≡ cond b (Some e) (Some e)
  same_either true e = refl
  same_either false e = refl

  first_stays : (e : K × V) (other : Option (K × V)) → Behind e.0 other → Some e ≡ earlier_of order (Some e) other
  first_stays e None h = refl
  first_stays e (Some f) h = rw h refl

  first_taken : (e : K × V) (other : Option (K × V)) → Behind e.0 other → Some e ≡ earlier_of order other (Some e)
  first_taken e None h = refl
  first_taken e (Some f) h = rw (total.antisymm f.0 e.0, h) refl

  merged_by : (e : K × V) (first other rest : Option (K × V)) (a b : Bool) → Behind e.0 first → Behind e.0 other → rest ≡ earlier_of order first other → cond (a || b) (Some e) rest ≡ earlier_of order (cond a (Some e) first) (cond b (Some e) other)
  merged_by e first other rest true true hf ho h = same_either (is_lt (order e.0 e.0)) e
  merged_by e first other rest true false hf ho h = first_stays e other ho
  merged_by e first other rest false true hf ho h = first_taken e first hf
  merged_by e first other rest false false hf ho h = h

  -- the first entry that has one of two properties is the earlier of those that have each
  pub merged : (p q : K × V → Bool) (es : List (K × V)) → IsStrictlySortedBy order (keys_of es) → find (λ e. p e || q e) es ≡ earlier_of order (find p es) (find q es)
  unfolding IsStrictlySortedBy
  merged p q [] sorted = refl
  merged p q (e ∷ es) sorted = merged_by e (find p es) (find q es) (find (λ x. p x || q x) es) (p e) (q e) (found_behind e.0 p es sorted.0) (found_behind e.0 q es sorted.0) (merged p q es sorted.1)

pub none_at_first : {V : Type 0} (owner : List (List ℕ)) (entries : List (PlainPrefix × V)) → None ≡ key_in (first_about owner [] entries)
none_at_first owner entries = ap key_in (sym (find_never entries))

any_more : (owner : List (List ℕ)) (done : List PlainRecord) (r : PlainRecord) (prefix : PlainPrefix)
    → list_any (holds_within prefix owner) (done ++ r ∷ []) ≡ (list_any (holds_within prefix owner) done || holds_within prefix owner r)
any_more owner done r prefix =
    let test = holds_within prefix owner in
    list_any-append test done (r ∷ [])
    ∙ ap (λ (b : Bool). list_any test done || b) (or-false (test r))

chosen : {V : Type 0} (first other : PlainPrefix × V) (b : Bool) → cond b (Some first.0) (Some other.0) ≡ key_in (cond b (Some first) (Some other))
chosen first other true = refl
chosen first other false = refl

earlier_keys : {V : Type 0} (order : PlainPrefix → PlainPrefix → Ordering) (first other : Option (PlainPrefix × V)) → earlier_key order (key_in first) (key_in other) ≡ key_in (earlier_of order first other)
earlier_keys order None other = refl
earlier_keys order (Some first) None = refl
earlier_keys order (Some first) (Some other) = chosen first other (is_lt (order first.0 other.0))

-- one record more
pub one_more : {V : Type 0} (owner : List (List ℕ)) (done : List PlainRecord) (r : PlainRecord) (entries : List (PlainPrefix × V)) (first other next : Option PlainPrefix)
    → IsStrictlySortedBy prefix_order (keys_of entries)
    → first ≡ key_in (first_about owner done entries) → other ≡ key_in (find (λ e. holds_within e.0 owner r) entries) → next ≡ earlier_key prefix_order first other
    → next ≡ key_in (first_about owner (done ++ r ∷ []) entries)
one_more owner done r entries first other next sorted ef eo en =
    let before = first_about owner done entries in
    let one = find (λ e. holds_within e.0 owner r) entries in
    en
    ∙ ap (λ (x : Option PlainPrefix). earlier_key prefix_order x other) ef
    ∙ ap (earlier_key prefix_order (key_in before)) eo
    ∙ earlier_keys prefix_order before one
    ∙ ap key_in (sym (merged prefix_order prefix_order_total (λ e. list_any (holds_within e.0 owner) done) (λ e. holds_within e.0 owner r) entries sorted))
    ∙ ap key_in (sym (find_same _ _ entries (λ e. any_more owner done r e.0)))

-- one record more is done, and one less is left
pub goes_on : (done left all : List PlainRecord) (r : PlainRecord) (rest : List PlainRecord) → done ++ left ≡ all → left ≡ r ∷ rest → (done ++ r ∷ []) ++ rest ≡ all
goes_on done left all r rest e h = append_assoc done (r ∷ []) rest ∙ ap (λ (l : List PlainRecord). done ++ l) (sym h) ∙ e

-- without entries nothing is found
pub none_in_empty : {V : Type 0} (owner : List (List ℕ)) (records : List PlainRecord) (entries : List (PlainPrefix × V)) → length entries ≡ 0 → None ≡ first_about owner records entries
none_in_empty owner records [] empty = refl
none_in_empty owner records (e ∷ es) empty = absurd (omega arith)

pub none_without_rules : {V : Type 0} (owner : List (List ℕ)) (records : List PlainRecord) (entries : List (PlainPrefix × V)) → has_some entries ≡ false → None ≡ first_about owner records entries
none_without_rules owner records [] none = refl
none_without_rules owner records (e ∷ es) none = cc none

-- without rules a look-up by address finds nothing
pub none_about_clients : {V : Type 0} (addr : Addr) (entries : List (PlainPrefix × V)) → has_some entries ≡ false → None ≡ longest addr entries
none_about_clients addr [] none = refl
none_about_clients addr (e ∷ es) none = cc none

-- all of them
pub all_done : {V : Type 0} (owner : List (List ℕ)) (done left records : List PlainRecord) (entries : List (PlainPrefix × V)) (first : Option PlainPrefix) → done ++ left ≡ records → left ≡ []
    → first ≡ key_in (first_about owner done entries) → first ≡ key_in (first_about owner records entries)
all_done owner done left records entries first e none is =
    let whole : done ≡ records = sym (append-nil done) ∙ ap (λ (l : List PlainRecord). done ++ l) (sym none) ∙ e in
    is ∙ ap (λ (rs : List PlainRecord). key_in (first_about owner rs entries)) whole

some_same : {X : Type 0} (x e : X) → Some x ≡ Some e → x ≡ e
some_same x e h = cc h

none_some : {X : Type 0} (e : X) → None ≡ Some e → ⊥
none_some e h = cc h

-- the entry that is found is the one at its key
found_by : {V : Type 0} (p : PlainPrefix × V → Bool) (x e : PlainPrefix × V) (xs : List (PlainPrefix × V)) (b : Bool) → AllByRecursion (λ y. prefix_order x.0 y ≡ Less) (keys_of xs)
    → (find p xs ≡ Some e → lookup (is_at (prefix_order e.0)) xs ≡ Some e.1) → cond b (Some x) (find p xs) ≡ Some e → lookup (is_at (prefix_order e.0)) (x ∷ xs) ≡ Some e.1
found_by p x e xs true behind goes is =
    subst (λ (y : _ × _). cond (is_at (prefix_order y.0) x.0) (Some x.1) (lookup (is_at (prefix_order y.0)) xs) ≡ Some y.1) (some_same x e is) (rw (tied_itself prefix_order_total x.0) refl)
found_by p x e xs false behind goes is =
    let less : prefix_order x.0 e.0 ≡ Less = subst (Behind prefix_order prefix_order_total x.0) is (found_behind prefix_order prefix_order_total x.0 p xs behind) in
    rw (prefix_order_total.antisymm e.0 x.0, less) (goes is)

found_at : {V : Type 0} (p : PlainPrefix × V → Bool) (e : PlainPrefix × V) (es : List (PlainPrefix × V)) → IsStrictlySortedBy prefix_order (keys_of es) → find p es ≡ Some e → lookup (is_at (prefix_order e.0)) es ≡ Some e.1
unfolding IsStrictlySortedBy
found_at p e [] sorted is = absurd (none_some e is)
found_at p e (x ∷ xs) sorted is = found_by p x e xs (p x) sorted.0 (λ f. found_at p e xs sorted.1 f) is

rule_by : {V : Type 0} (owner : List (List ℕ)) (records : List PlainRecord) (entries : List (PlainPrefix × V)) (prefix : PlainPrefix) (found : Option (PlainPrefix × V)) → IsStrictlySortedBy prefix_order (keys_of entries)
    → first_about owner records entries ≡ found → Some prefix ≡ key_in found → option_map (λ v. (prefix, v)) (lookup (is_at (prefix_order prefix)) entries) ≡ found
rule_by owner records entries prefix None sorted is e = absurd (none_some prefix (sym e))
rule_by owner records entries prefix (Some x) sorted is e =
    let at = found_at (λ e. list_any (holds_within e.0 owner) records) x entries sorted is in
    subst (λ (q : PlainPrefix). option_map (λ v. (q, v)) (lookup (is_at (prefix_order q)) entries) ≡ Some x) (sym (some_same prefix x.0 e)) (rw at refl)

-- the rule of the prefix that comes first
pub rule_at : {V : Type 0} (owner : List (List ℕ)) (records : List PlainRecord) (entries : List (PlainPrefix × V)) (prefix : PlainPrefix) → IsStrictlySortedBy prefix_order (keys_of entries)
    → Some prefix ≡ key_in (first_about owner records entries) → option_map (λ v. (prefix, v)) (lookup (is_at (prefix_order prefix)) entries) ≡ first_about owner records entries
rule_at owner records entries prefix sorted e = rule_by owner records entries prefix (first_about owner records entries) sorted refl e
