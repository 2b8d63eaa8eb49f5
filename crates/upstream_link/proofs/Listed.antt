-- The addresses of the names in lists are those of servers with these names.
use Rattle.std.proofs.Common.{◌≡◌, ℕ, ◌+◌, ◌<◌, ◌≤◌, length, get_or, map, take, is_some, eq-eqb, Bool, true, false, cond, ◌&&◌, ◌||◌, if◌then◌else◌, List, [], ◌∷◌, ◌++◌, ◌⊎◌, inl, inr, Option, Some, None, refl, sym, ap, ◌∙◌, subst, true≢false, eqb-true}
use Rattle.std.specs.Prelude.{All, ◌==◌}
use Rattle.std.specs.List.{Contains, find, flat_map, list_any}
use Rattle.std.specs.Option.{option_map}
use Rattle.std.proofs.lemmas.List.{append-nil, flat_map_more, get_or-map, length-map, take-map, take_all, take_more}
use Rattle.std.proofs.lemmas.List.Concat.{flat_map-append}
use Rattle.std.proofs.lemmas.List.Elements.{All-push, Contains-append_cases, Contains-append_left, Contains-append_right}
use Rattle.std.proofs.lemmas.List.Folds.{Any-from_list_any, list_any-from_Any, list_any_at, list_any_more}
use Rattle.dns_name.specs.Alike.{same_name}
use Rattle.dns_name.specs.Labels.{lowered}
use Rattle.dns_record.specs.Record.{PlainRecord}
use Rattle.dns_message.specs.declared.question.Question.{Question}
use Rattle.ip_prefix.specs.declared.Addr.{Addr}
use Rattle.upstream_link.specs.declared.fact.Fact.{Fact}
use Rattle.upstream_link.specs.Chain.{has_name}
use Rattle.upstream_link.specs.Entries.{addresses_by, asks_addresses, entries_of, entry_of, is_listed}
use Rattle.upstream_link.specs.Fact.{same_question}
use Rattle.upstream_link.specs.Facts.{AreDistinct, AreFacts, PlainFacts, fact_about, records_about, records_of}
use Rattle.upstream_link.specs.Known.{AreInOrder, AreListsOf, HaveSameMembers, PlainKnown}
use Rattle.upstream_link.specs.Question.{question_of}
use Rattle.upstream_link.specs.Servers.{address_records, addresses_in, addresses_of}
use Rattle.upstream_link.proofs.Found.{Name, addresses_of_alike, alike, alike_if, both}
use Rattle.upstream_link.proofs.Members.{from_joined, here, into_joined, none, split, there}

-- ---- one list more

joined_by : {X : Type 0} (xs ys us vs : List X) (x : X) → (Contains xs x → Contains us x) → (Contains ys x → Contains vs x) → Contains xs x ⊎ Contains ys x → Contains (us ++ vs) x
joined_by xs ys us vs x f g (inl c) = Contains-append_left us vs x (f c)
joined_by xs ys us vs x f g (inr c) = Contains-append_right us vs x (g c)

joined : {X : Type 0} (xs ys us vs : List X) → HaveSameMembers xs us → HaveSameMembers ys vs → HaveSameMembers (xs ++ ys) (us ++ vs)
joined xs ys us vs f g x =
    (λ c. joined_by xs ys us vs x (f x).0 (g x).0 (Contains-append_cases xs ys x c), λ c. joined_by us vs xs ys x (f x).1 (g x).1 (Contains-append_cases us vs x c))

pub one_list_more : (lists longer : List (List Name)) (list names named : List Name) → longer ≡ lists ++ list ∷ [] → AreInOrder list → HaveSameMembers list named → AreListsOf lists names → AreListsOf longer (names ++ named)
one_list_more lists longer list names named is o same a =
    let more : flat_map (λ list. list) (lists ++ list ∷ []) ≡ flat_map (λ list. list) lists ++ list = flat_map-append (λ list. list) lists (list ∷ []) ∙ ap (λ (l : List Name). flat_map (λ list. list) lists ++ l) (append-nil list) in
    subst (λ (all : List (List Name)). AreListsOf all (names ++ named)) (sym is) (record {
      order = All-push AreInOrder lists list a.order o;
      same = subst (λ (all : List Name). HaveSameMembers all (names ++ named)) (sym more) (joined (flat_map (λ list. list) lists) list names named a.same same);
    })

pub no_list_more : (lists : List (List Name)) (names named : List Name) → named ≡ [] → AreListsOf lists names → AreListsOf lists (names ++ named)
no_list_more lists names named is a = subst (AreListsOf lists) (sym (ap (λ (more : List Name). names ++ more) is ∙ append-nil names)) a

-- ---- questions that are alike

parts : (a b : Question) → same_question a b ≡ true → (lowered a.name ≡ lowered b.name) × (a.qtype ≡ b.qtype) × (a.qclass ≡ b.qclass)
parts a b e =
    let first = both (same_name a.name b.name) (a.qtype == b.qtype && a.qclass == b.qclass) e in
    let second = both (a.qtype == b.qtype) (a.qclass == b.qclass) first.1 in
    (alike a.name b.name first.0, eqb-true a.qtype b.qtype second.0, eqb-true a.qclass b.qclass second.1)

three : (p q r : Bool) → p ≡ true → q ≡ true → r ≡ true → (p && (q && r)) ≡ true
three p q r e f g = rw (e, f) g

same_number : (x y : ℕ) → x ≡ y → (x == y) ≡ true
same_number x y e = eq-eqb x y e

alike_question : (a b : Question) → lowered a.name ≡ lowered b.name → a.qtype ≡ b.qtype → a.qclass ≡ b.qclass → same_question a b ≡ true
alike_question a b n t c = three (same_name a.name b.name) (a.qtype == b.qtype) (a.qclass == b.qclass) (alike_if a.name b.name n) (same_number a.qtype b.qtype t) (same_number a.qclass b.qclass c)

alike_through : (a b q : Question) → same_question a q ≡ true → same_question b q ≡ true → same_question b a ≡ true
alike_through a b q e f =
    let p = parts a q e in
    let r = parts b q f in
    alike_question b a (r.0 ∙ sym p.0) (r.1 ∙ sym p.1) (r.2 ∙ sym p.2)

-- ---- the only fact about a question

about_first : (x k : PlainKnown) (q : Question) (rest : Option (Question × Fact)) → x ≡ k → same_question k.question q ≡ true → option_map (λ e. e.1) (cond (same_question x.question q) (Some (entry_of x)) rest) ≡ Some k.fact
about_first x k q rest is e = rw (is, e) refl

about_later : (b : Bool) (x k : PlainKnown) (q : Question) (xs : List PlainKnown) → same_question x.question q ≡ b → same_question k.question q ≡ true → fact_about (entries_of xs) x.question ≡ None → ((p : Question) → same_question k.question p ≡ true → fact_about (entries_of xs) p ≡ Some k.fact) → option_map (λ e. e.1) (cond b (Some (entry_of x)) (find (λ e. same_question e.0 q) (entries_of xs))) ≡ Some k.fact
about_later true x k q xs is e n go =
    let some = go x.question (alike_through x.question k.question q is e) in
    absurd (true≢false (ap (λ (f : Option Fact). is_some f) (sym some ∙ n)))
about_later false x k q xs is e n go = go q e

about_by : (x : PlainKnown) (xs : List PlainKnown) (k : PlainKnown) (q : Question) → fact_about (entries_of xs) x.question ≡ None → same_question k.question q ≡ true → (Contains xs k → (p : Question) → same_question k.question p ≡ true → fact_about (entries_of xs) p ≡ Some k.fact) → (x ≡ k) ⊎ Contains xs k → fact_about (entries_of (x ∷ xs)) q ≡ Some k.fact
about_by x xs k q n e go (inl is) = about_first x k q (find (λ e. same_question e.0 q) (entries_of xs)) is e
about_by x xs k q n e go (inr c) = about_later (same_question x.question q) x k q xs refl e n (go c)

about : (all : List PlainKnown) (k : PlainKnown) (q : Question) → AreDistinct (entries_of all) → Contains all k → same_question k.question q ≡ true → fact_about (entries_of all) q ≡ Some k.fact
about [] k q d c e = absurd (none k c)
about (x ∷ xs) k q d c e = about_by x xs k q d.0 e (λ m p t. about xs k p d.1 m t) (split x xs k c)

-- a fact that is known is kept
abbrev IsKept : List PlainKnown → Question → Fact → Type 0
IsKept all q fact = (k : PlainKnown) × Contains all k × (same_question k.question q ≡ true) × (k.fact ≡ fact)

inside : (f g : Fact) → Some f ≡ Some g → f ≡ g
inside f g e = cc e

kept_by : (b : Bool) (x : PlainKnown) (xs : List PlainKnown) (q : Question) (fact : Fact) → same_question x.question q ≡ b → (fact_about (entries_of xs) q ≡ Some fact → IsKept xs q fact) → option_map (λ e. e.1) (cond b (Some (entry_of x)) (find (λ e. same_question e.0 q) (entries_of xs))) ≡ Some fact → IsKept (x ∷ xs) q fact
kept_by true x xs q fact is go e = (x, here x xs, is, inside x.fact fact e)
kept_by false x xs q fact is go e = let m = go e in (m.0, there x xs m.0 m.1, m.2, m.3)

kept : (all : List PlainKnown) (q : Question) (fact : Fact) → fact_about (entries_of all) q ≡ Some fact → IsKept all q fact
kept [] q fact e = absurd cc
kept (x ∷ xs) q fact e = kept_by (same_question x.question q) x xs q fact refl (kept xs q fact) e

-- ---- addresses

module _ (lists : List (List Name)) (names : List Name) (of : AreListsOf lists names) (all : List PlainKnown) (distinct : AreDistinct (entries_of all)) where
  listed : (name : Name) → is_listed lists name ≡ true → (s : Name) × Contains names s × (lowered name ≡ lowered s)
  listed name e =
      let at = Any-from_list_any (λ (list : List Name). has_name list name) lists e in
      let in' = Any-from_list_any (same_name name) at.1 at.4 in
      (in'.1, (of.same in'.1).0 (into_joined (λ (list : List Name). list) lists at.1 in'.1 (at.0, at.2, at.3) (in'.0, in'.2, in'.3)), alike name in'.1 in'.4)

  listed_if : (name s : Name) → Contains names s → lowered name ≡ lowered s → is_listed lists name ≡ true
  listed_if name s c e =
      let m = from_joined (λ (list : List Name). list) lists s ((of.same s).1 c) in
      list_any-from_Any (λ (list : List Name). has_name list name) lists
      (m.1.0, m.0, m.1.1, m.1.2, list_any-from_Any (same_name name) m.0 (m.2.0, s, m.2.1, m.2.2, alike_if name s e))

  -- what is told is known of a server
  at_type : (k : PlainKnown) (s : Name) (t : ℕ) → Contains all k → lowered k.question.name ≡ lowered s → k.question.qtype ≡ t → k.question.qclass ≡ 1 → records_of (Some k.fact) ≡ records_about (entries_of all) s t
  at_type k s t c n q i = ap records_of (sym (about all k (question_of s t) distinct c (alike_question k.question (question_of s t) n q i)))

  known_of : (k : PlainKnown) (s : Name) (x : Addr) → Contains all k → lowered k.question.name ≡ lowered s → k.question.qclass ≡ 1 → ((k.question.qtype == 1) ≡ true) ⊎ ((k.question.qtype == 28) ≡ true) → Contains (addresses_in s (records_of (Some k.fact))) x → Contains (addresses_in s (address_records (entries_of all) s)) x
  known_of k s x c n i (inl t) m =
      let first = records_about (entries_of all) s 1 in
      let second = records_about (entries_of all) s 28 in
      let is : records_of (Some k.fact) ≡ first = at_type k s 1 c n (eqb-true k.question.qtype 1 t) i in
      subst (λ (l : List Addr). Contains l x) (sym (flat_map-append _ first second)) (Contains-append_left (addresses_in s first) (addresses_in s second) x (subst (λ (rs : List PlainRecord). Contains (addresses_in s rs) x) is m))
  known_of k s x c n i (inr t) m =
      let first = records_about (entries_of all) s 1 in
      let second = records_about (entries_of all) s 28 in
      let is : records_of (Some k.fact) ≡ second = at_type k s 28 c n (eqb-true k.question.qtype 28 t) i in
      subst (λ (l : List Addr). Contains l x) (sym (flat_map-append _ first second)) (Contains-append_right (addresses_in s first) (addresses_in s second) x (subst (λ (rs : List PlainRecord). Contains (addresses_in s rs) x) is m))

  either : (a b : Bool) → (a || b) ≡ true → (a ≡ true) ⊎ (b ≡ true)
  either true b e = inl refl
  either false b e = inr e

  told_by : (b : Bool) (k : PlainKnown) (x : Addr) → (asks_addresses k.question && is_listed lists k.question.name) ≡ b → Contains all k → Contains (if b then addresses_in k.question.name (records_of (Some k.fact)) else []) x → Contains (addresses_of (entries_of all) names) x
  told_by true k x e c m =
      let tests = both (asks_addresses k.question) (is_listed lists k.question.name) e in
      let asks = both (k.question.qtype == 1 || k.question.qtype == 28) (k.question.qclass == 1) tests.0 in
      let server = listed k.question.name tests.1 in
      let there : Contains (addresses_in server.0 (records_of (Some k.fact))) x = subst (λ (l : List Addr). Contains l x) (addresses_of_alike k.question.name server.0 (records_of (Some k.fact)) server.2) m in
      into_joined (λ (s : Name). addresses_in s (address_records (entries_of all) s)) names server.0 x server.1
      (known_of k server.0 x c server.2 (eqb-true k.question.qclass 1 asks.1) (either (k.question.qtype == 1) (k.question.qtype == 28) asks.0) there)
  told_by false k x e c m = absurd (none x m)

  told : (x : Addr) → Contains (flat_map (addresses_by lists) all) x → Contains (addresses_of (entries_of all) names) x
  told x c =
      let m = from_joined (addresses_by lists) all x c in
      told_by (asks_addresses m.0.question && is_listed lists m.0.question.name) m.0 x refl m.1 m.2

  -- what is known of a server is told
  two : (p q : Bool) → p ≡ true → q ≡ true → (p && q) ≡ true
  two p q e f = rw e f

  asks_if : (question : Question) (t : ℕ) → (t == 1 || t == 28) ≡ true → question.qtype ≡ t → question.qclass ≡ 1 → asks_addresses question ≡ true
  asks_if question t kind q i = two (question.qtype == 1 || question.qtype == 28) (question.qclass == 1) (ap (λ (n : ℕ). n == 1 || n == 28) q ∙ kind) (same_number question.qclass 1 i)

  chosen : (b : Bool) (xs : List Addr) (x : Addr) → b ≡ true → Contains xs x → Contains (if b then xs else []) x
  chosen true xs x e c = c
  chosen false xs x e c = absurd (true≢false (sym e))

  tells_at : (s : Name) (t : ℕ) (found : Option Fact) (x : Addr) → Contains names s → (t == 1 || t == 28) ≡ true → fact_about (entries_of all) (question_of s t) ≡ found → Contains (addresses_in s (records_of found)) x → Contains (flat_map (addresses_by lists) all) x
  tells_at s t None x c kind e m = absurd (none x m)
  tells_at s t (Some fact) x c kind e m =
      let k = kept all (question_of s t) fact e in
      let p = parts k.0.question (question_of s t) k.2 in
      let there : Contains (addresses_in k.0.question.name (records_of (Some k.0.fact))) x =
      subst (λ (l : List Addr). Contains l x) (sym (addresses_of_alike k.0.question.name s (records_of (Some k.0.fact)) p.0)) (subst (λ (f : Fact). Contains (addresses_in s (records_of (Some f))) x) (sym k.3) m) in
      into_joined (addresses_by lists) all k.0 x k.1
      (chosen (asks_addresses k.0.question && is_listed lists k.0.question.name) (addresses_in k.0.question.name (records_of (Some k.0.fact))) x
      (two (asks_addresses k.0.question) (is_listed lists k.0.question.name) (asks_if k.0.question t kind p.1 p.2) (listed_if k.0.question.name s c p.0)) there)

  tells_either : (s : Name) (x : Addr) → Contains names s → Contains (addresses_in s (records_about (entries_of all) s 1)) x ⊎ Contains (addresses_in s (records_about (entries_of all) s 28)) x → Contains (flat_map (addresses_by lists) all) x
  tells_either s x c (inl m) = tells_at s 1 (fact_about (entries_of all) (question_of s 1)) x c refl refl m
  tells_either s x c (inr m) = tells_at s 28 (fact_about (entries_of all) (question_of s 28)) x c refl refl m

  tells : (x : Addr) → Contains (addresses_of (entries_of all) names) x → Contains (flat_map (addresses_by lists) all) x
  tells x c =
      let m = from_joined (λ (s : Name). addresses_in s (address_records (entries_of all) s)) names x c in
      let first = records_about (entries_of all) m.0 1 in
      let second = records_about (entries_of all) m.0 28 in
      tells_either m.0 x m.1 (Contains-append_cases (addresses_in m.0 first) (addresses_in m.0 second) x (subst (λ (l : List Addr). Contains l x) (flat_map-append _ first second) m.2))

  pub same_addresses : HaveSameMembers (flat_map (addresses_by lists) all) (addresses_of (entries_of all) names)
  same_addresses x = (told x, tells x)

-- ---- steps of loops

pub joined_more : {X A : Type 0} (f : X → List A) (xs : List X) (i : ℕ) (x : X) → i < length xs → x ≡ get_or xs i x → flat_map f (take i xs) ++ f x ≡ flat_map f (take (i + 1) xs)
joined_more f xs i x lt is =
    flat_map_more f [] (take i xs) x
    ∙ sym (ap (flat_map f) (take_more xs i x lt ∙ ap (λ y. take i xs ++ y ∷ []) (sym is)))

-- of lists that are seen through references
module _ {X : Type 0} (f : X → List Name) (name : Name) (items : List X) (i : ℕ) (x : X) (lt : i < length items) (is : x ≡ get_or items i x) where
  below : i < length (map f items)
  below = subst (λ (n : ℕ). i < n) (sym (length-map items f)) lt

  seen_at : (d : List Name) → get_or (map f items) i d ≡ f x
  seen_at d = get_or-map f items i x d lt ∙ ap f (sym is)

  pub each_of : All AreInOrder (map f items) → AreInOrder (f x)
  each_of all = subst AreInOrder (seen_at []) (all i [] below)

  pub here_listed : has_name (f x) name ≡ true → is_listed (map f items) name ≡ true
  here_listed e = list_any_at (λ list. has_name list name) (map f items) i [] below (ap (λ (list : List Name). has_name list name) (seen_at []) ∙ e)

  pub more_listed : is_listed (map f (take i items)) name ≡ false → has_name (f x) name ≡ false → is_listed (map f (take (i + 1) items)) name ≡ false
  more_listed e h =
      let test = λ (list : List Name). has_name list name in
      ap (list_any test) (sym (take-map f (i + 1) items))
      ∙ list_any_more test (map f items) i [] below
      ∙ (λ j. list_any test (take-map f i items j) || test (seen_at [] j))
      ∙ (λ j. e j || h j)

pub told_more : (lists shown : List (List Name)) → shown ≡ lists → (items : List PlainKnown) (i : ℕ) (k : PlainKnown) → i < length items → k ≡ get_or items i k → (all longer : List Addr) → (All AreInOrder shown → longer ≡ all ++ addresses_by shown k) → all ≡ flat_map (addresses_by lists) (take i items) → All AreInOrder lists → longer ≡ flat_map (addresses_by lists) (take (i + 1) items)
told_more lists shown seen items i k lt is all longer more before o =
    more (subst (All AreInOrder) (sym seen) o)
    ∙ (λ j. before j ++ addresses_by (seen j) k)
    ∙ joined_more (addresses_by lists) items i k lt is

pub all_told : (lists : List (List Name)) (names : List Name) → AreListsOf lists names → (items : List PlainKnown) (facts : PlainFacts) → entries_of items ≡ facts → AreFacts facts → (all : List Addr) (count : ℕ) → length items ≤ count → all ≡ flat_map (addresses_by lists) (take count items) → HaveSameMembers all (addresses_of facts names)
all_told lists names of items facts seen are all count le is =
    let whole : all ≡ flat_map (addresses_by lists) items = is ∙ ap (flat_map (addresses_by lists)) (take_all count items le) in
    subst (λ (known : PlainFacts). HaveSameMembers all (addresses_of known names)) seen
    (subst (λ (some : List Addr). HaveSameMembers some (addresses_of (entries_of items) names)) (sym whole)
    (same_addresses lists names of items (subst AreDistinct (sym seen) are.distinct)))
