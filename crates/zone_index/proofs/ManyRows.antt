-- Rows that are gathered by the octets of their places: those of one place at a time.
use Rattle.std.proofs.Common.{◌≡◌, ◌≢◌, ℕ, ◌+◌, ◌-◌, ◌<◌, ◌≤◌, Bool, true, false, cond, Some, None, List, [], ◌∷◌, ◌++◌, length, map, take, drop, slice_index_or, refl, sym, ap, subst, ◌∙◌, arith, true≢false, option_map}
use Rattle.std.specs.List.{AllByRecursion}
use Rattle.std.specs.Option.{is_some}
use Rattle.std.specs.Str.{bytes_eq}
use Rattle.std.proofs.lemmas.Slice.Eq.{bytes_eq-Decides}
use Rattle.std.proofs.lemmas.List.Elements.{filter_passes}
use Rattle.std.proofs.lemmas.List.{drop-drop, drop_all, length-append, length-drop, length-map, take_all}
use Rattle.packed_lists.specs.Keyed.{IsFirstRun, PlainKeyed, numbers_with}
use Rattle.packed_lists.specs.KeysSeen.{keyed_seen}
use Rattle.packed_lists.specs.declared.keyed.Keyed.{Keyed}
use Rattle.packed_lists.specs.Stored.{PlainStored, NumbersRise, has_number, row_of_number}
use Rattle.zone_index.specs.Entry.{PlainEntry}
use Rattle.zone_index.specs.Places.{PlainPlaces, entry_at, no_places, with_entry}
use Rattle.zone_index.specs.PlaceOctets.{IsSized, place_octets}
use Rattle.zone_index.specs.declared.place.Place.{Place}
use Rattle.zone_index.specs.declared.place.Place.TheVariants.{Rule, Other}
use Rattle.trigger_codec.specs.declared.trigger.Trigger.TheVariants.{ClientIp, Qname, ResponseIp, NsDname, NsIp}
use Rattle.prefix_index.proofs.Order.{prefix_order_total}
use Rattle.zone_rows.specs.Distinct.{AreDistinct}
use Rattle.zone_rows.specs.Stored.{IsStored, plain_row}
use Rattle.zone_index.specs.Gathering.{AreApart, AreGathered, AreKeysOf, AreSized, AreWhole, IsRunOf, if_taken, keyed_rows}
use Rattle.zone_index.specs.Placed.{IsIndexOf, IsPlace, entry_for, is_same_place, put_at, row_place, rows_by, stored_at}
use Rattle.trie_keys.proofs.ByKey.{lookup-insert_entry}
use Rattle.zone_index.proofs.Numbered.{AreFound, all_recursion, found_at, found_is, numbers, stored_by}
use Rattle.zone_index.proofs.Placing.{equal_place, place_itself, placed}
use Rattle.zone_index.proofs.SameAction.{pattern_order_total}
use Rattle.zone_index.proofs.Ties.{NameLaws}

-- ---- an entry that is put

entry_with : (places : PlainPlaces) (p q : Place) (e : PlainEntry) → entry_at (with_entry places p e) q ≡ cond (is_same_place q p) (Some e) (entry_at places q)
entry_with places (Rule (ClientIp p)) (Rule (ClientIp q)) e = lookup-insert_entry prefix_order_total q p e places.rules.client_ip
entry_with places (Rule (Qname p)) (Rule (Qname q)) e = lookup-insert_entry pattern_order_total q p e places.rules.qname
entry_with places (Rule (ResponseIp p)) (Rule (ResponseIp q)) e = lookup-insert_entry prefix_order_total q p e places.rules.response_ip
entry_with places (Rule (NsDname p)) (Rule (NsDname q)) e = lookup-insert_entry pattern_order_total q p e places.rules.nsdname
entry_with places (Rule (NsIp p)) (Rule (NsIp q)) e = lookup-insert_entry prefix_order_total q p e places.rules.nsip
entry_with places (Other p) (Other q) e = lookup-insert_entry pattern_order_total q p e places.other
entry_with places p q e = refl

-- where the rows of one place are others, and its entry is put
module _ (laws : NameLaws) (places : PlainPlaces) (p : Place) (is_place : IsPlace p) (s : PlainStored) (ss : List PlainStored)
    (old new : Place → List PlainStored) (here : new p ≡ s ∷ ss) (others : (q : Place) → IsPlace q → is_same_place q p ≡ false → new q ≡ old q)
    (before : (q : Place) → IsPlace q → entry_at places q ≡ entry_for q (old q)) where
  put_by : (q : Place) (b : Bool) → is_same_place q p ≡ b → IsPlace q → entry_at (put_at places p (entry_for p (s ∷ ss))) q ≡ entry_for q (new q)
  put_by q true h is_q =
      let same : q ≡ p = equal_place laws q p is_q is_place h in
      subst (λ (r : Place). entry_at (put_at places p (entry_for p (s ∷ ss))) r ≡ entry_for r (new r)) (sym same)
      (entry_with places p p _ ∙ ap (λ (b : Bool). cond b (entry_for p (s ∷ ss)) (entry_at places p)) (place_itself p) ∙ sym (ap (entry_for p) here))
  put_by q false h is_q =
      entry_with places p q _
      ∙ ap (λ (b : Bool). cond b (entry_for p (s ∷ ss)) (entry_at places q)) h
      ∙ before q is_q
      ∙ ap (entry_for q) (sym (others q is_q h))

  put_rows : (q : Place) → IsPlace q → entry_at (put_at places p (entry_for p (s ∷ ss))) q ≡ entry_for q (new q)
  put_rows q is_q = put_by q (is_same_place q p) refl is_q

-- ---- lists

taken_none : (left : List ℕ) → if_taken left [] ≡ []
taken_none [] = refl
taken_none (n ∷ left) = refl

taken_some : (left : List ℕ) (rows : List PlainStored) → left ≢ [] → if_taken left rows ≡ []
taken_some [] rows some = absurd (some refl)
taken_some (n ∷ left) rows some = refl

map_some : {X Y : Type 0} (f : X → Y) (xs : List X) → 0 < length xs → map f xs ≢ []
map_some f [] some = λ _. absurd (omega (arith, some))
map_some f (x ∷ xs) some = λ k. cc k

nothing_repeats : AreDistinct []
nothing_repeats i j d lt within = absurd (omega (arith, within))

nothing_there : (q : Place) → entry_at no_places q ≡ None
nothing_there (Rule (ClientIp p)) = refl
nothing_there (Rule (Qname p)) = refl
nothing_there (Rule (ResponseIp p)) = refl
nothing_there (Rule (NsDname p)) = refl
nothing_there (Rule (NsIp p)) = refl
nothing_there (Other p) = refl

-- ---- octets tell places apart

abbrev pub OctetLaw : Type 0
OctetLaw = (p q : Place) → IsSized p → IsSized q → place_octets p ≡ place_octets q → p ≡ q

-- what is known of the rows of a zone
pub record AreRows (origin : List (List ℕ)) (rows : List PlainStored) : Type 0 where
  pub names : NameLaws
  pub apart : OctetLaw
  pub next : ℕ
  pub rise : NumbersRise 0 rows next
  pub stored : AllByRecursion IsStored rows
  pub sized : AreSized origin rows

module _ (names : NameLaws) (apart : OctetLaw) (p q : Place) (is_p : IsPlace p) (is_q : IsPlace q) (p_sized : IsSized p) (q_sized : IsSized q) where
  same_by : (a b : Bool) → bytes_eq (place_octets p) (place_octets q) ≡ a → is_same_place p q ≡ b → a ≡ b
  same_by true true x y = refl
  same_by false false x y = refl
  same_by true false x y =
      let same : p ≡ q = apart p q p_sized q_sized ((bytes_eq-Decides (place_octets p) (place_octets q)).0 x) in
      sym (ap (is_same_place p) (sym same) ∙ place_itself p) ∙ y
  same_by false true x y =
      let same : p ≡ q = equal_place names p q is_p is_q y in
      sym x ∙ (bytes_eq-Decides (place_octets p) (place_octets q)).1 (ap place_octets same)

  same_test : bytes_eq (place_octets p) (place_octets q) ≡ is_same_place p q
  same_test = same_by (bytes_eq (place_octets p) (place_octets q)) (is_same_place p q) refl refl

kept_by : (a b : Bool) (t : PlainStored) (ns : List ℕ) (ts : List PlainStored) → a ≡ b → ns ≡ numbers ts → cond a (t.number ∷ ns) ns ≡ numbers (cond b (t ∷ ts) ts)
kept_by a true t ns ts e h = ap (λ (c : Bool). cond c (t.number ∷ ns) ns) e ∙ ap (λ (l : List ℕ). t.number ∷ l) h
kept_by a false t ns ts e h = ap (λ (c : Bool). cond c (t.number ∷ ns) ns) e ∙ h

module _ (names : NameLaws) (apart : OctetLaw) (origin : List (List ℕ)) (p : Place) (is_p : IsPlace p) (p_sized : IsSized p) where
  -- the numbers with the octets of a place are those of its rows
  numbers_here : (rows : List PlainStored) → AllByRecursion IsStored rows → AreSized origin rows → numbers_with (place_octets p) (keyed_rows origin rows) ≡ numbers (stored_at origin rows p)
  numbers_here [] are sized = refl
  numbers_here (t ∷ rows) are sized =
      kept_by (bytes_eq (place_octets p) (place_octets (row_place origin (plain_row t)))) (is_same_place p (row_place origin (plain_row t))) t
      (numbers_with (place_octets p) (keyed_rows origin rows)) (stored_at origin rows p)
      (same_test names apart p (row_place origin (plain_row t)) is_p (placed names origin (plain_row t) are.0.is_row) p_sized sized.0)
      (numbers_here rows are.1 sized.1)

-- a row of these octets
record HasKey (origin : List (List ℕ)) (key : List ℕ) : Type 0 where
  t : PlainStored
  is : IsStored t
  sized : IsSized (row_place origin (plain_row t))
  octets : key ≡ place_octets (row_place origin (plain_row t))

has_key_by : (origin : List (List ℕ)) (key : List ℕ) (t : PlainStored) (rest : List ℕ) → IsStored t → IsSized (row_place origin (plain_row t)) → (rest ≢ [] → HasKey origin key)
    → (b : Bool) → bytes_eq key (place_octets (row_place origin (plain_row t))) ≡ b → cond b (t.number ∷ rest) rest ≢ [] → HasKey origin key
has_key_by origin key t rest is sized further true h some = record { t = t; is = is; sized = sized; octets = (bytes_eq-Decides key (place_octets (row_place origin (plain_row t)))).0 h }
has_key_by origin key t rest is sized further false h some = further some

has_key : (origin : List (List ℕ)) (key : List ℕ) (rows : List PlainStored) → AllByRecursion IsStored rows → AreSized origin rows → numbers_with key (keyed_rows origin rows) ≢ [] → HasKey origin key
has_key origin key [] are sized some = absurd (some refl)
has_key origin key (t ∷ rows) are sized some =
    has_key_by origin key t (numbers_with key (keyed_rows origin rows)) are.0 sized.0 (has_key origin key rows are.1 sized.1)
    (bytes_eq key (place_octets (row_place origin (plain_row t)))) refl some

module _ (origin : List (List ℕ)) (rows : List PlainStored) (r : AreRows origin rows) where
  -- where rows stand at a place, it is that of the first of them
  record IsFirst (q : Place) (s : PlainStored) : Type 0 where
    found : row_of_number s.number rows ≡ Some s
    at : q ≡ row_place origin (plain_row s)
    sized : IsSized q

  stands : (n : ℕ) (s : PlainStored) → row_of_number n rows ≡ Some s → IsPlace (row_place origin (plain_row s))
  stands n s found = placed r.names origin (plain_row s) (found_is IsStored (has_number n) rows s r.stored found).is_row

  first_is : (q : Place) → IsPlace q → (s : PlainStored) (ss : List PlainStored) → stored_at origin rows q ≡ s ∷ ss → IsFirst q s
  first_is q is_q s ss e =
      let found : AreFound rows (s ∷ ss) = subst (AreFound rows) e (found_at origin r.next rows q r.rise) in
      let pass : AllByRecursion (λ t. is_same_place q (row_place origin (plain_row t)) ≡ true) (s ∷ ss) =
      subst (AllByRecursion (λ t. is_same_place q (row_place origin (plain_row t)) ≡ true)) e (all_recursion (λ t. is_same_place q (row_place origin (plain_row t)) ≡ true) (stored_at origin rows q) (filter_passes (λ t. is_same_place q (row_place origin (plain_row t))) rows)) in
      let at : q ≡ row_place origin (plain_row s) = equal_place r.names q (row_place origin (plain_row s)) is_q (stands s.number s found.0) pass.0 in
      record { found = found.0; at = at; sized = subst IsSized (sym at) (found_is (λ t. IsSized (row_place origin (plain_row t))) (has_number s.number) rows s r.sized found.0) }

  -- ---- at first nothing is gathered

  module _ (keys : List PlainKeyed) (of : AreKeysOf origin rows keys) where
    none_at : (q : Place) → IsPlace q → (l : List PlainStored) → stored_at origin rows q ≡ l → if_taken (numbers_with (place_octets q) keys) l ≡ []
    none_at q is_q [] e = taken_none (numbers_with (place_octets q) keys)
    none_at q is_q (s ∷ ss) e =
        let first = first_is q is_q s ss e in
        let all : numbers_with (place_octets q) keys ≡ s.number ∷ numbers ss =
        of.numbers (place_octets q) ∙ numbers_here r.names r.apart origin q is_q first.sized rows r.stored r.sized ∙ ap numbers e in
        taken_some (numbers_with (place_octets q) keys) (s ∷ ss) (λ none. let gone : s.number ∷ numbers ss ≡ [] = sym all ∙ none in cc gone)

    pub none_gathered : (places : PlainPlaces) → places ≡ no_places → AreGathered origin rows places keys
    none_gathered places e = record {
      in_order = of.in_order;
      whole = λ key some. of.numbers key;
      at = λ q is_q. ap (λ (ps : PlainPlaces). entry_at ps q) e ∙ nothing_there q ∙ sym (ap (entry_for q) (none_at q is_q (stored_at origin rows q) refl));
    }

    pub none_apart : AreApart origin rows keys
    none_apart = record {
      in_order = of.in_order;
      whole = λ key some. of.numbers key;
      at = λ q is_q. subst (λ (l : List PlainStored). AreDistinct (map plain_row l)) (sym (none_at q is_q (stored_at origin rows q) refl)) nothing_repeats;
    }

  -- ---- at last everything is

  pub each_apart : (left : List PlainKeyed) → left ≡ [] → AreApart origin rows left → (q : Place) → IsPlace q → AreDistinct (map plain_row (stored_at origin rows q))
  each_apart left e is q is_q =
      subst (λ (ks : List PlainKeyed). AreDistinct (map plain_row (if_taken (numbers_with (place_octets q) ks) (stored_at origin rows q)))) e (is.at q is_q)

  pub all_gathered : (places : PlainPlaces) (left : List PlainKeyed) → left ≡ [] → AreGathered origin rows places left → IsIndexOf origin rows places
  all_gathered places left e is q is_q =
      is.at q is_q ∙ ap (λ (ks : List PlainKeyed). entry_for q (if_taken (numbers_with (place_octets q) ks) (stored_at origin rows q))) e

  -- ---- the rows of one more place

  module _ (left run others : List PlainKeyed) (whole : AreWhole origin rows left) (f : IsFirstRun left run others) where
    some_left : numbers_with f.key left ≢ []
    some_left none = map_some (λ k. k.number) run f.some (f.numbers ∙ none)

    run_numbers : map (λ k. k.number) run ≡ numbers_with f.key (keyed_rows origin rows)
    run_numbers = f.numbers ∙ whole f.key some_left

    it : HasKey origin f.key
    it = has_key origin f.key rows r.stored r.sized (λ none. some_left (whole f.key some_left ∙ none))

    -- the place of the run
    abbrev p : Place
    p = row_place origin (plain_row it.t)

    is_p : IsPlace p
    is_p = placed r.names origin (plain_row it.t) it.is.is_row

    here : map (λ k. k.number) run ≡ numbers (stored_at origin rows p)
    here =
        run_numbers
        ∙ ap (λ (key : List ℕ). numbers_with key (keyed_rows origin rows)) it.octets
        ∙ numbers_here r.names r.apart origin p is_p it.sized rows r.stored r.sized

    -- the first row of the place has the first number
    record HasFirst (n : ℕ) : Type 0 where
      s : PlainStored
      ss : List PlainStored
      stored : stored_at origin rows p ≡ s ∷ ss
      first : IsFirst p s
      number : s.number ≡ n

    has_first : (k : PlainKeyed) (ks : List PlainKeyed) → run ≡ k ∷ ks → HasFirst k.number
    has_first k ks e = by (stored_at origin rows p) refl
      where
        by : (l : List PlainStored) → stored_at origin rows p ≡ l → HasFirst k.number
        by [] h = let gone : k.number ∷ map (λ k. k.number) ks ≡ [] = ap (map (λ k. k.number)) (sym e) ∙ here ∙ ap numbers h in cc gone
        by (s ∷ ss) h =
            let same : k.number ∷ map (λ k. k.number) ks ≡ s.number ∷ numbers ss = ap (map (λ k. k.number)) (sym e) ∙ here ∙ ap numbers h in
            record { s = s; ss = ss; stored = h; first = first_is p is_p s ss h; number = cc same }

    still_whole : AreWhole origin rows others
    still_whole key some = by (bytes_eq key f.key) refl
      where
        by : (b : Bool) → bytes_eq key f.key ≡ b → numbers_with key others ≡ numbers_with key (keyed_rows origin rows)
        by true h = absurd (some (ap (λ (c : List ℕ). numbers_with c others) ((bytes_eq-Decides key f.key).0 h) ∙ f.gone))
        by false h =
            let same : numbers_with key others ≡ numbers_with key left = f.others key (λ e. true≢false (sym ((bytes_eq-Decides key f.key).1 e) ∙ h)) in
            same ∙ whole key (λ none. some (same ∙ none))

    -- elsewhere nothing changes
    elsewhere : (q : Place) → IsPlace q → is_same_place q p ≡ false → (l : List PlainStored) → stored_at origin rows q ≡ l
        → if_taken (numbers_with (place_octets q) others) l ≡ if_taken (numbers_with (place_octets q) left) l
    elsewhere q is_q differ [] h = taken_none (numbers_with (place_octets q) others) ∙ sym (taken_none (numbers_with (place_octets q) left))
    elsewhere q is_q differ (u ∷ us) h =
        let first = first_is q is_q u us h in
        ap (λ (l : List ℕ). if_taken l (u ∷ us)) (f.others (place_octets q) (λ same.
        let one : q ≡ p = r.apart q p first.sized it.sized (same ∙ it.octets) in
        true≢false (sym (ap (is_same_place q) (sym one) ∙ place_itself q) ∙ differ)))

    rows_of_run : rows_by (map (λ k. k.number) run) rows ≡ stored_at origin rows p
    rows_of_run = ap (λ (l : List ℕ). rows_by l rows) here ∙ stored_by origin r.next rows p r.rise

    -- ---- where no two of its rows have one identity

    taken_here : if_taken (numbers_with (place_octets p) others) (stored_at origin rows p) ≡ stored_at origin rows p
    taken_here = ap (λ (l : List ℕ). if_taken l (stored_at origin rows p)) (ap (λ (key : List ℕ). numbers_with key others) (sym it.octets) ∙ f.gone)

    apart_by : AreApart origin rows left → AreDistinct (map plain_row (rows_by (map (λ k. k.number) run) rows)) → (q : Place) (b : Bool) → is_same_place q p ≡ b → IsPlace q
        → AreDistinct (map plain_row (if_taken (numbers_with (place_octets q) others) (stored_at origin rows q)))
    apart_by is distinct q true h is_q =
        let same : q ≡ p = equal_place r.names q p is_q is_p h in
        subst (λ (l : List PlainStored). AreDistinct (map plain_row l))
        (rows_of_run ∙ sym taken_here ∙ sym (ap (λ (x : Place). if_taken (numbers_with (place_octets x) others) (stored_at origin rows x)) same)) distinct
    apart_by is distinct q false h is_q =
        subst (λ (l : List PlainStored). AreDistinct (map plain_row l)) (sym (elsewhere q is_q h (stored_at origin rows q) refl)) (is.at q is_q)

    pub one_apart : AreApart origin rows left → AreDistinct (map plain_row (rows_by (map (λ k. k.number) run) rows)) → AreApart origin rows others
    one_apart is distinct = record { in_order = f.in_order; whole = still_whole; at = λ q is_q. apart_by is distinct q (is_same_place q p) refl is_q }

    module _ (k : PlainKeyed) (ks : List PlainKeyed) (e : run ≡ k ∷ ks) where
      first_row : row_of_number k.number rows ≡ Some (has_first k ks e).s
      first_row = ap (λ (n : ℕ). row_of_number n rows) (sym (has_first k ks e).number) ∙ (has_first k ks e).first.found

      pub first_found : is_some (row_of_number k.number rows) ≡ true
      first_found = ap is_some first_row

      module _ (place : Place) (is_its : Some place ≡ option_map (λ s. row_place origin (plain_row s)) (row_of_number k.number rows)) where
        is_place : place ≡ p
        is_place =
            let same : Some place ≡ Some (row_place origin (plain_row (has_first k ks e).s)) = is_its ∙ ap (option_map (λ s. row_place origin (plain_row s))) first_row in
            let at : place ≡ row_place origin (plain_row (has_first k ks e).s) = cc same in
            at ∙ sym (has_first k ks e).first.at

        its_octets : f.key ≡ place_octets place
        its_octets = it.octets ∙ ap place_octets (sym is_place)

        rows_here : rows_by (map (λ k. k.number) run) rows ≡ stored_at origin rows place
        rows_here = rows_of_run ∙ ap (stored_at origin rows) (sym is_place)

        pub its_run : IsRunOf place rows run
        its_run = record {
          some = f.some;
          octets = subst (λ (key : List ℕ). AllByRecursion (λ k. k.key ≡ key) run) its_octets f.same;
          found = here ∙ ap (λ (q : Place). numbers (stored_at origin rows q)) (sym is_place) ∙ ap numbers (sym rows_here);
        }

        pub none_yet : (places : PlainPlaces) → AreGathered origin rows places left → entry_at places place ≡ None
        none_yet places is =
            is.at place (subst IsPlace (sym is_place) is_p)
            ∙ ap (entry_for place) (taken_some (numbers_with (place_octets place) left) (stored_at origin rows place)
            (λ none. some_left (ap (λ (key : List ℕ). numbers_with key left) its_octets ∙ none)))

        abbrev old : Place → List PlainStored
        old q = if_taken (numbers_with (place_octets q) left) (stored_at origin rows q)

        abbrev new : Place → List PlainStored
        new q = if_taken (numbers_with (place_octets q) others) (stored_at origin rows q)

        here_all : new place ≡ (has_first k ks e).s ∷ (has_first k ks e).ss
        here_all =
            ap (λ (l : List ℕ). if_taken l (stored_at origin rows place)) (ap (λ (key : List ℕ). numbers_with key others) (sym its_octets) ∙ f.gone)
            ∙ ap (stored_at origin rows) is_place
            ∙ (has_first k ks e).stored

        pub one_gathered : (places made : PlainPlaces) → AreGathered origin rows places left → made ≡ put_at places place (entry_for place (rows_by (map (λ k. k.number) run) rows)) → AreGathered origin rows made others
        one_gathered places made is m =
            let put : made ≡ put_at places place (entry_for place ((has_first k ks e).s ∷ (has_first k ks e).ss)) =
            m ∙ ap (λ (l : List PlainStored). put_at places place (entry_for place l)) (rows_here ∙ ap (stored_at origin rows) is_place ∙ (has_first k ks e).stored) in
            record {
              in_order = f.in_order;
              whole = still_whole;
              at = λ q is_q. ap (λ (ps : PlainPlaces). entry_at ps q) put
                  ∙ put_rows r.names places place (subst IsPlace (sym is_place) is_p) (has_first k ks e).s (has_first k ks e).ss old new here_all
                  (λ q is_q differ. elsewhere q is_q (ap (is_same_place q) (sym is_place) ∙ differ) (stored_at origin rows q) refl) is.at q is_q;
            }

-- ---- in the words of the functions, over keys that are lent

pub seen_first : (run : List Keyed) (d : Keyed) → 0 < length (map keyed_seen run) → map keyed_seen run ≡ keyed_seen (slice_index_or run 0 d) ∷ map keyed_seen (drop 1 run)
seen_first [] d some = absurd (omega (arith, some))
seen_first (k ∷ run) d some = refl

pub rest_seen : (left run others : List Keyed) → map keyed_seen left ≡ map keyed_seen run ++ map keyed_seen others → map keyed_seen (drop (length run) left) ≡ map keyed_seen others
rest_seen left [] others e = e
rest_seen [] (k ∷ run) others e = cc e
rest_seen (l ∷ left) (k ∷ run) others e =
    let tail : map keyed_seen left ≡ map keyed_seen run ++ map keyed_seen others = cc e in
    rest_seen left run others tail

pub run_within : (left run others : List Keyed) → map keyed_seen left ≡ map keyed_seen run ++ map keyed_seen others → length run ≤ length left
run_within left run others e =
    omega (arith, length-map left keyed_seen, length-map run keyed_seen, ap length e, length-append (map keyed_seen run) (map keyed_seen others))

pub run_some : (run : List Keyed) → 0 < length (map keyed_seen run) → 0 < length run
run_some run some = omega (arith, some, length-map run keyed_seen)

pub done_all : (keys : List Keyed) (done : ℕ) → length keys ≤ done → map keyed_seen (drop done keys) ≡ []
done_all keys done h = ap (map keyed_seen) (drop_all done keys h)

-- the keys from one on
the_rest : (keys : List Keyed) (done : ℕ) → take (length keys - done) (drop done keys) ≡ drop done keys
the_rest keys done = take_all (length keys - done) (drop done keys) (omega (arith, length-drop done keys))

pub further : (keys : List Keyed) (done count : ℕ) → map keyed_seen (drop count (take (length keys - done) (drop done keys))) ≡ map keyed_seen (drop (done + count) keys)
further keys done count = ap (λ (l : List Keyed). map keyed_seen (drop count l)) (the_rest keys done) ∙ ap (map keyed_seen) (drop-drop count done keys)

pub still_within : (keys : List Keyed) (done count : ℕ) → done ≤ length keys → count ≤ length (take (length keys - done) (drop done keys)) → done + count ≤ length keys
still_within keys done count h few = omega (arith, h, few, ap length (the_rest keys done), length-drop done keys)
