-- What a loop finds first: the first of a list that is mapped, and the first in canonical order of those that pass a test.
use Rattle.std.proofs.Common.{◌≡◌, ℕ, suc, Bool, true, false, cond, List, [], ◌∷◌, ◌++◌, Option, Some, None, map, fold, ◌⊎◌, inl, inr, ⊎_elim, refl, sym, ap, subst, ◌∙◌, append-nil, append_assoc, arith, true≢false}
use Rattle.std.proofs.lemmas.Bool.{not-true, not_from_false}
use Rattle.std.proofs.lemmas.List.Elements.{All-contains, Contains-append_left, Contains-append_right, Contains-append_cases}
use Rattle.std.specs.Cmp.{alike_right}
use Rattle.std.specs.List.{AllByRecursion, Contains, find, flat_map}
use Rattle.std.specs.List.Sorted.{IsStrictlySortedBy}
use Rattle.std.specs.Option.{option_map}
use Rattle.std.specs.Ordering.{is_lt, ordering_reverse}
use Rattle.std.specs.Prelude.{All, filter, not}
use Rattle.std.specs.declared.cmp.Ordering.{Ordering}
use Rattle.std.specs.declared.cmp.Ordering.TheVariants.{Less, Equal, Greater}
use Rattle.dns_name.specs.Labels.{lowered}
use Rattle.dns_name.specs.Order.{canonical_order}
use Rattle.rpz_precedence.proofs.Orders.{equal_if}
use Rattle.rpz_precedence.proofs.Ties.{same_base}
use Rattle.upstream_link.specs.Facts.{PlainFacts, is_known}
use Rattle.upstream_link.specs.Known.{AreInOrder, AreListsOf, HaveSameMembers}
use Rattle.upstream_link.specs.Question.{question_of}
use Rattle.upstream_link.specs.Servers.{ancestors, servers}
use Rattle.policy_snapshot.specs.Asking.{earlier, first_server}
use Rattle.policy_snapshot.specs.Next.{address_question, first_unknown, has_known_addresses, is_least, least_name, server_questions, unknown_address}
use Rattle.policy_snapshot.proofs.FlatLists.{from_flat}
use Rattle.policy_snapshot.proofs.ListTests.{all_at, all_if, none_passes}
use Rattle.policy_snapshot.proofs.LeastName.{canonical_total, is_before, not_itself, transitive}
use Rattle.policy_snapshot.proofs.Members.{none, here, there, cases, empty, from_filter, to_filter}

-- ---- the first that passes

module _ {X Y : Type 0} (f : X → Y) (p : Y → Bool) where
  mapped_if : (b : Bool) (x : X) (rest : Option X) (other : Option Y) → option_map f rest ≡ other → option_map f (cond b (Some x) rest) ≡ cond b (Some (f x)) other
  mapped_if true x rest other e = refl
  mapped_if false x rest other e = e

  -- the first of a list that is mapped
  find_mapped : (xs : List X) → option_map f (find (λ x. p (f x)) xs) ≡ find p (map f xs)
  find_mapped [] = refl
  find_mapped (x ∷ xs) = mapped_if (p (f x)) x (find (λ y. p (f y)) xs) (find p (map f xs)) (find_mapped xs)

found_if_passes : {X : Type 0} (p : X → Bool) (b : Bool) (x : X) (xs : List X) (y : X) → p x ≡ b → (find p xs ≡ Some y → Contains xs y × (p y ≡ true)) → cond b (Some x) (find p xs) ≡ Some y → Contains (x ∷ xs) y × (p y ≡ true)
found_if_passes p true x xs y t so e = let same : x ≡ y = cc e in (subst (Contains (x ∷ xs)) same (here x xs), ap p (sym same) ∙ t)
found_if_passes p false x xs y t so e = let o = so e in (there x xs y o.0, o.1)

-- what is found is there, and passes
found_passes : {X : Type 0} (p : X → Bool) (xs : List X) (y : X) → find p xs ≡ Some y → Contains xs y × (p y ≡ true)
found_passes p [] y e = absurd cc
found_passes p (x ∷ xs) y e = found_if_passes p (p x) x xs y refl (found_passes p xs y) e

-- ---- the first of several lists that are in order

abbrev Name : Type 0
Name = List (List ℕ)

not_less : (o : Ordering) → is_lt o ≡ false → (o ≡ Equal) ⊎ (o ≡ Greater)
not_less Less h = absurd (true≢false h)
not_less Equal h = inl refl
not_less Greater h = inr refl

turned : (x a : Name) → canonical_order x a ≡ Greater → is_before a x ≡ true
turned x a g = ap is_lt (canonical_total.antisymm a x ∙ ap ordering_reverse g)

-- what comes before a name comes before those that don't come before it
before_others : (o a x : Name) → is_before o a ≡ true → is_before x a ≡ false → is_before o x ≡ true
before_others o a x h n =
    ⊎_elim (λ e. ap is_lt (alike_right canonical_total x a o e) ∙ h) (λ g. transitive o a x h (turned x a g)) (not_less (canonical_order x a) n)

-- what doesn't come before a name doesn't come before one that this name doesn't follow
stays_behind : (a x o : Name) (t : Bool) → is_before o a ≡ t → is_before x a ≡ false → is_before o x ≡ false → t ≡ false
stays_behind a x o true e n h = absurd (true≢false (sym (before_others o a x e n) ∙ h))
stays_behind a x o false e n h = refl

not_back : (a b : Name) (t : Bool) → is_before a b ≡ t → is_before b a ≡ true → t ≡ false
not_back a b true e h = absurd (true≢false (sym (transitive a b a e h) ∙ not_itself a))
not_back a b false e h = refl

-- the name passes the test, and none that passes comes before it
record IsFirst (p : Name → Bool) (names : List Name) (name : Name) : Type 0 where
  within : Contains names name
  passes : p name ≡ true
  first : (other : Name) → Contains names other → p other ≡ true → is_before other name ≡ false

abbrev IsFirstOf : (Name → Bool) → List Name → Option Name → Type 0
IsFirstOf p names None = (other : Name) → Contains names other → p other ≡ false
IsFirstOf p names (Some name) = IsFirst p names name

module _ (p : Name → Bool) where
  behind_all : (name : Name) (names : List Name) → AllByRecursion (λ other. canonical_order name other ≡ Less) names → (other : Name) → Contains names other → is_before other name ≡ false
  behind_all name [] h other at = absurd (none other at)
  behind_all name (x ∷ xs) h other at =
      ⊎_elim (λ e. not_back other name (is_before other name) refl (ap is_lt (subst (λ (y : Name). canonical_order name y ≡ Less) e h.0))) (λ r. behind_all name xs h.1 other r) (cases x xs other at)

  longer : (x : Name) (xs : List Name) (found : Option Name) → p x ≡ false → IsFirstOf p xs found → IsFirstOf p (x ∷ xs) found
  longer x xs None t h = λ other at. ⊎_elim (λ e. ap p (sym e) ∙ t) (λ r. h other r) (cases x xs other at)
  longer x xs (Some name) t h = record {
    within = there x xs name h.within;
    passes = h.passes;
    first = λ other at passes. ⊎_elim (λ e. absurd (true≢false (sym passes ∙ ap p (sym e) ∙ t))) (λ r. h.first other r passes) (cases x xs other at);
  }

  found_if : (b : Bool) (x : Name) (xs : List Name) → p x ≡ b → AllByRecursion (λ other. canonical_order x other ≡ Less) xs → IsFirstOf p xs (find p xs) → IsFirstOf p (x ∷ xs) (cond b (Some x) (find p xs))
  found_if true x xs t above others = record {
    within = here x xs;
    passes = t;
    first = λ other at passes. ⊎_elim (λ e. ap (λ (y : Name). is_before y x) (sym e) ∙ not_itself x) (λ r. behind_all x xs above other r) (cases x xs other at);
  }
  found_if false x xs t above others = longer x xs (find p xs) t others

  -- the first that passes of a list that is in order
  first_in_order : (names : List Name) → IsStrictlySortedBy canonical_order names → IsFirstOf p names (find p names)
  unfolding IsStrictlySortedBy
  first_in_order [] s = λ other at. absurd (none other at)
  first_in_order (x ∷ xs) s = found_if (p x) x xs refl s.0 (first_in_order xs s.1)

  -- the earlier of the first of two lists
  chosen : (names others : List Name) (a b : Name) (t : Bool) → is_before b a ≡ t → IsFirst p names a → IsFirst p others b → IsFirstOf p (names ++ others) (cond t (Some b) (Some a))
  chosen names others a b true e is_a is_b = record {
    within = Contains-append_right names others b is_b.within;
    passes = is_b.passes;
    first = λ other at passes.
        ⊎_elim (λ l. stays_behind b a other (is_before other b) refl (not_back a b (is_before a b) refl e) (is_a.first other l passes)) (λ r. is_b.first other r passes) (Contains-append_cases names others other at);
  }
  chosen names others a b false e is_a is_b = record {
    within = Contains-append_left names others a is_a.within;
    passes = is_a.passes;
    first = λ other at passes.
        ⊎_elim (λ l. is_a.first other l passes) (λ r. stays_behind a b other (is_before other a) refl e (is_b.first other r passes)) (Contains-append_cases names others other at);
  }

  earlier_of : (names others : List Name) (a b : Option Name) → IsFirstOf p names a → IsFirstOf p others b → IsFirstOf p (names ++ others) (earlier a b)
  earlier_of names others None None h k = λ other at. ⊎_elim (λ l. h other l) (λ r. k other r) (Contains-append_cases names others other at)
  earlier_of names others None (Some b) h k = record {
    within = Contains-append_right names others b k.within;
    passes = k.passes;
    first = λ other at passes. ⊎_elim (λ l. absurd (true≢false (sym passes ∙ h other l))) (λ r. k.first other r passes) (Contains-append_cases names others other at);
  }
  earlier_of names others (Some a) None h k = record {
    within = Contains-append_left names others a h.within;
    passes = h.passes;
    first = λ other at passes. ⊎_elim (λ l. h.first other l passes) (λ r. absurd (true≢false (sym passes ∙ k other r))) (Contains-append_cases names others other at);
  }
  earlier_of names others (Some a) (Some b) h k = chosen names others a b (is_before b a) refl h k

  first_from : (done : List Name) (first : Option Name) (lists : List (List Name)) → IsFirstOf p done first → AllByRecursion (λ list. IsStrictlySortedBy canonical_order list) lists
      → IsFirstOf p (done ++ flat_map (λ list. list) lists) (fold (λ (f : Option Name) (list : List Name). earlier f (find p list)) first lists)
  first_from done first [] is sorted = subst (λ (l : List Name). IsFirstOf p l first) (sym (append-nil done)) is
  first_from done first (list ∷ lists) is sorted =
      subst (λ (l : List Name). IsFirstOf p l (fold (λ (f : Option Name) (other : List Name). earlier f (find p other)) (earlier first (find p list)) lists)) (append_assoc done list (flat_map (λ l. l) lists))
      (first_from (done ++ list) (earlier first (find p list)) lists (earlier_of done list first (find p list) is (first_in_order list sorted.0)) sorted.1)

  -- a list with the same members has the same first
  first_of_same : (names others : List Name) (found : Option Name) → HaveSameMembers names others → IsFirstOf p names found → IsFirstOf p others found
  first_of_same names others None same h = λ other at. h other ((same other).1 at)
  first_of_same names others (Some name) same h = record {
    within = (same name).0 h.within;
    passes = h.passes;
    first = λ other at passes. h.first other ((same other).1 at) passes;
  }

  is_it : (names : List Name) (name : Name) (found : Option Name) → IsFirst p names name → ((other : Name) → Contains names other → lowered other ≡ other) → find (is_least (filter p names)) (filter p names) ≡ found → Some name ≡ found
  is_it names name None h lower e =
      let least = all_if (λ o. not (is_before o name)) (filter p names)
      (λ o at. let kept = from_filter p names o at in not_from_false (is_before o name) (h.first o kept.0 kept.1)) in
      absurd (true≢false (sym least ∙ none_passes (is_least (filter p names)) (filter p names) name e (to_filter p names name h.within h.passes)))
  is_it names name (Some other) h lower e =
      let o = found_passes (is_least (filter p names)) (filter p names) other e in
      let kept = from_filter p names other o.0 in
      let back : is_before name other ≡ false = not-true (is_before name other) (all_at (λ x. not (is_before x other)) (filter p names) name o.1 (to_filter p names name h.within h.passes)) in
      let tied : canonical_order name other ≡ Equal = equal_if (canonical_order name other) (canonical_order other name) (canonical_total.antisymm name other) back (h.first other kept.0 kept.1) in
      ap Some (same_base name other (lower name h.within) (lower other kept.0) tied)

  -- the first of those that pass is the least of them
  least_is : (names : List Name) (found : Option Name) → IsFirstOf p names found → ((other : Name) → Contains names other → lowered other ≡ other) → found ≡ least_name (filter p names)
  least_is names None h lower = ap least_name (sym (empty (filter p names) (λ x at. let kept = from_filter p names x at in true≢false (sym kept.1 ∙ h x kept.0))))
  least_is names (Some name) h lower = is_it names name (least_name (filter p names)) h lower refl

-- ---- what is asked

module _ (facts : PlainFacts) where
  abbrev is_unknown : Name → Bool
  is_unknown server = not (has_known_addresses facts server)

  each_sorted : (lists : List (List Name)) → All AreInOrder lists → AllByRecursion (λ list. IsStrictlySortedBy canonical_order list) lists
  each_sorted [] h = tt
  each_sorted (list ∷ lists) h = ((h 0 list (omega arith)).sorted, each_sorted lists (λ k d lt. h (suc k) d (omega (arith, lt))))

  each_lowered : (lists : List (List Name)) → All AreInOrder lists → (other : Name) → Contains (flat_map (λ list. list) lists) other → lowered other ≡ other
  each_lowered lists h other at =
      let g = from_flat (λ (list : List Name). list) lists other at in
      All-contains (λ (name : Name). lowered name ≡ name) g.x other (All-contains AreInOrder lists g.x h g.within).lower g.gives

  -- the question about the addresses of the server that the loop keeps is the one that must be asked
  pub asked_address : (name : Name) (lists : List (List Name)) (first : Option Name) → first ≡ first_server facts lists → AreListsOf lists (servers facts name) → option_map (address_question facts) first ≡ unknown_address facts name
  asked_address name lists first e are =
      let is = first_of_same is_unknown _ _ (first_server facts lists) are.same (first_from is_unknown [] None lists (λ other at. absurd (none other at)) (each_sorted lists are.order)) in
      ap (option_map (address_question facts)) (e ∙ least_is is_unknown (servers facts name) (first_server facts lists) is (λ other at. each_lowered lists are.order other ((are.same other).1 at)))

  -- the question of the first owner whose question isn't answered is the first of the owners' questions that isn't
  pub asked_owner : (name : Name) (owners : List Name) (first : Option Name) → first ≡ find (λ owner. not (is_known facts (question_of owner 2))) owners → owners ≡ ancestors name
      → option_map (λ owner. question_of owner 2) first ≡ first_unknown facts (server_questions name)
  asked_owner name owners first e is =
      ap (option_map (λ (owner : Name). question_of owner 2)) e ∙ find_mapped (λ (owner : Name). question_of owner 2) (λ question. not (is_known facts question)) owners
      ∙ ap (λ (l : List Name). first_unknown facts (map (λ owner. question_of owner 2) l)) is
