-- The first run of some keys in order.
use Rattle.std.proofs.Common.{◌≡◌, ℕ, suc, ◌+◌, ◌<◌, ◌≤◌, true, false, cond, List, [], ◌∷◌, ◌++◌, length, map, get_or, take, drop, refl, sym, ap, subst, ◌∙◌, arith, append-nil, true≢false, drop-cons}
use Rattle.std.proofs.lemmas.Bool.{false_from_ne_true}
use Rattle.std.proofs.lemmas.Cmp.{nat_list_cmp_total, alike_right}
use Rattle.std.proofs.lemmas.List.{map-append, take-append-drop, take_more, drop_all, length-map, length-take-le}
use Rattle.std.specs.Bool.{⊤}
use Rattle.std.proofs.lemmas.Map.Text.{is_eq-slice_cmp}
use Rattle.std.proofs.lemmas.Slice.Eq.{bytes_eq-Decides}
use Rattle.std.specs.Cmp.Lexicographic.{slice_cmp}
use Rattle.std.specs.List.{AllByRecursion}
use Rattle.std.specs.Ordering.{nat_cmp, is_lt, is_eq, ordering_reverse}
use Rattle.std.specs.Str.{bytes_eq}
use Rattle.std.specs.declared.cmp.Ordering.{Ordering}
use Rattle.std.specs.declared.cmp.Ordering.TheVariants.{Less, Equal, Greater}
use Rattle.packed_lists.specs.Keyed.{PlainKeyed, AreInOrder, IsFirstRun, numbers_with}
use Rattle.packed_lists.specs.KeysSeen.{keyed_seen}
use Rattle.packed_lists.specs.declared.keyed.Keyed.{Keyed}

abbrev order : List ℕ → List ℕ → Ordering
order = slice_cmp nat_cmp

-- ---- lists in order

tail_in_order : (a : PlainKeyed) (ks : List PlainKeyed) → AreInOrder (a ∷ ks) → AreInOrder ks
tail_in_order a ks h = λ k d low lt.
    let far : suc k + 1 ≡ suc (k + 1) = omega arith in
    let within : suc k + 1 < length (a ∷ ks) = omega arith in
    subst (λ n. is_lt (order (get_or (a ∷ ks) n d).key (get_or ks k d).key) ≡ false) far (h (suc k) d (omega arith) within)

second_follows : (a b : PlainKeyed) (ks : List PlainKeyed) → AreInOrder (a ∷ b ∷ ks) → is_lt (order b.key a.key) ≡ false
second_follows a b ks h = h 0 a (omega arith) (omega arith)

rest_in_order : (run rest : List PlainKeyed) → AreInOrder (run ++ rest) → AreInOrder rest
rest_in_order [] rest h = h
rest_in_order (a ∷ run) rest h = rest_in_order run rest (tail_in_order a (run ++ rest) h)

-- ---- keys behind a key

not_after : (a b : List ℕ) → is_lt (order b a) ≡ false → order a b ≡ Greater → ⊥
not_after a b h e = true≢false (sym (ap is_lt (nat_list_cmp_total.antisymm b a ∙ ap ordering_reverse e)) ∙ h)

behind_next : (key a b : List ℕ) (o : Ordering) → order a b ≡ o → order key a ≡ Less → is_lt (order b a) ≡ false → order key b ≡ Less
behind_next key a b Less e less h = nat_list_cmp_total.trans key a b less e
behind_next key a b Equal e less h = sym (alike_right nat_list_cmp_total a b key e) ∙ less
behind_next key a b Greater e less h = absurd (not_after a b h e)

behind_other : (key a : List ℕ) (o : Ordering) → order key a ≡ o → (a ≡ key → ⊥) → is_lt (order a key) ≡ false → order key a ≡ Less
behind_other key a Less e ne h = e
behind_other key a Equal e ne h = absurd (ne (sym ((bytes_eq-Decides key a).0 (sym (is_eq-slice_cmp key a) ∙ ap is_eq e))))
behind_other key a Greater e ne h = absurd (not_after key a h e)

none_behind : (key : List ℕ) (a : PlainKeyed) (ks : List PlainKeyed) → order key a.key ≡ Less → AreInOrder (a ∷ ks) → numbers_with key (a ∷ ks) ≡ []
none_behind key a [] less h = ap (λ b. cond b (a.number ∷ []) []) (sym (is_eq-slice_cmp key a.key) ∙ ap is_eq less)
none_behind key a (b ∷ ks) less h =
    ap (λ t. cond t (a.number ∷ numbers_with key (b ∷ ks)) (numbers_with key (b ∷ ks))) (sym (is_eq-slice_cmp key a.key) ∙ ap is_eq less)
    ∙ none_behind key b ks (behind_next key a.key b.key (order a.key b.key) refl less (second_follows a b ks h)) (tail_in_order a (b ∷ ks) h)

-- ---- the run

-- the first has another key
abbrev pub Differs : List ℕ → List PlainKeyed → Type 0
Differs key [] = ⊤
Differs key (k ∷ ks) = k.key ≡ key → ⊥

rest_is_gone : (key : List ℕ) (a : PlainKeyed) (run rest : List PlainKeyed) → a.key ≡ key → AllByRecursion (λ k. k.key ≡ key) run → Differs key rest
    → AreInOrder (a ∷ (run ++ rest)) → numbers_with key rest ≡ []
rest_is_gone key a [] [] e same differs h = refl
rest_is_gone key a [] (b ∷ rest) e same differs h =
    let follows : is_lt (order b.key key) ≡ false = subst (λ x. is_lt (order b.key x) ≡ false) e (second_follows a b rest h) in
    none_behind key b rest (behind_other key b.key (order key b.key) refl differs follows) (tail_in_order a (b ∷ rest) h)
rest_is_gone key a (b ∷ run) rest e same differs h = rest_is_gone key b run rest same.0 same.1 differs (tail_in_order a (b ∷ (run ++ rest)) h)

numbers_of_run : (key : List ℕ) (run rest : List PlainKeyed) → AllByRecursion (λ k. k.key ≡ key) run
    → numbers_with key (run ++ rest) ≡ map (λ k. k.number) run ++ numbers_with key rest
numbers_of_run key [] rest same = refl
numbers_of_run key (a ∷ run) rest same =
    ap (λ b. cond b (a.number ∷ numbers_with key (run ++ rest)) (numbers_with key (run ++ rest))) ((bytes_eq-Decides key a.key).1 (sym same.0))
    ∙ ap (λ l. a.number ∷ l) (numbers_of_run key run rest same.1)

others_in_rest : (key other : List ℕ) (run rest : List PlainKeyed) → (other ≡ key → ⊥) → AllByRecursion (λ k. k.key ≡ key) run
    → numbers_with other rest ≡ numbers_with other (run ++ rest)
others_in_rest key other [] rest ne same = refl
others_in_rest key other (a ∷ run) rest ne same =
    others_in_rest key other run rest ne same.1
    ∙ sym (ap (λ b. cond b (a.number ∷ numbers_with other (run ++ rest)) (numbers_with other (run ++ rest)))
    (false_from_ne_true (bytes_eq other a.key) (λ t. ne ((bytes_eq-Decides other a.key).0 t ∙ same.0))))

run_is_first : (key : List ℕ) (run rest : List PlainKeyed) → 0 < length run → AllByRecursion (λ k. k.key ≡ key) run → Differs key rest
    → AreInOrder (run ++ rest) → IsFirstRun (run ++ rest) run rest
run_is_first key [] rest some same differs h = absurd (omega arith)
run_is_first key (a ∷ run) rest some same differs h =
    let gone : numbers_with key rest ≡ [] = rest_is_gone key a run rest same.0 same.1 differs h in
    record {
      whole = refl;
      key = key;
      same = same;
      some = some;
      numbers = sym (numbers_of_run key (a ∷ run) rest same ∙ ap (λ l. map (λ k. k.number) (a ∷ run) ++ l) gone ∙ append-nil (map (λ k. k.number) (a ∷ run)));
      gone = gone;
      others = λ other ne. others_in_rest key other (a ∷ run) rest ne same;
      in_order = rest_in_order (a ∷ run) rest h;
    }

-- ---- keys that are lent

pub first_is_same : (ks : List Keyed) (d : Keyed) → 0 < length ks → AllByRecursion (λ k. k.key.now ≡ (get_or ks 0 d).key.now) (take 1 ks)
first_is_same [] d some = absurd (omega arith)
first_is_same (k ∷ ks) d some = (refl, tt)

all_and_one : (key : List ℕ) (ks : List Keyed) (k : Keyed) → AllByRecursion (λ k. k.key.now ≡ key) ks → k.key.now ≡ key → AllByRecursion (λ k. k.key.now ≡ key) (ks ++ k ∷ [])
all_and_one key [] k same e = (e, tt)
all_and_one key (x ∷ ks) k same e = (same.0, all_and_one key ks k same.1 e)

-- one more key that is equal to the first
pub one_more_is_same : (key : List ℕ) (ks : List Keyed) (i : ℕ) (d : Keyed) → i < length ks → bytes_eq (get_or ks i d).key.now key ≡ true
    → AllByRecursion (λ k. k.key.now ≡ key) (take i ks) → AllByRecursion (λ k. k.key.now ≡ key) (take (i + 1) ks)
one_more_is_same key ks i d lt e same =
    subst (λ l. AllByRecursion (λ k. k.key.now ≡ key) l) (sym (take_more ks i d lt))
    (all_and_one key (take i ks) (get_or ks i d) same ((bytes_eq-Decides (get_or ks i d).key.now key).0 e))

-- none is left
pub none_differs : (key : List ℕ) (ks : List Keyed) (i : ℕ) → length ks ≤ i → Differs key (map keyed_seen (drop i ks))
none_differs key ks i le = subst (λ l. Differs key (map keyed_seen l)) (sym (drop_all i ks le)) tt

-- another key comes next
pub next_differs : (key : List ℕ) (ks : List Keyed) (i : ℕ) (d : Keyed) → i < length ks → bytes_eq (get_or ks i d).key.now key ≡ false
    → Differs key (map keyed_seen (drop i ks))
next_differs key ks i d lt e =
    subst (λ l. Differs key (map keyed_seen l)) (sym (drop-cons ks i d lt)) (λ same. true≢false (sym ((bytes_eq-Decides (get_or ks i d).key.now key).1 same) ∙ e))

seen_same : (key : List ℕ) (ks : List Keyed) → AllByRecursion (λ k. k.key.now ≡ key) ks → AllByRecursion (λ k. k.key ≡ key) (map keyed_seen ks)
seen_same key [] same = tt
seen_same key (k ∷ ks) same = (same.0, seen_same key ks same.1)

-- split where another key begins
pub split_is_first_run : (key : List ℕ) (ks run rest : List Keyed) (i : ℕ) → 0 < i → i ≤ length ks → run ≡ take i ks → rest ≡ drop i ks
    → AllByRecursion (λ k. k.key.now ≡ key) (take i ks) → Differs key (map keyed_seen (drop i ks)) → AreInOrder (map keyed_seen ks)
    → IsFirstRun (map keyed_seen ks) (map keyed_seen run) (map keyed_seen rest)
split_is_first_run key ks run rest i some within front back same differs h =
    let joined : map keyed_seen (take i ks) ++ map keyed_seen (drop i ks) ≡ map keyed_seen ks = sym (map-append keyed_seen (take i ks) (drop i ks)) ∙ ap (map keyed_seen) (take-append-drop i ks) in
    let long : 0 < length (map keyed_seen (take i ks)) = omega (arith, some, length-map (take i ks) keyed_seen, length-take-le i ks within) in
    let is : IsFirstRun (map keyed_seen ks) (map keyed_seen (take i ks)) (map keyed_seen (drop i ks)) =
    subst (λ l. IsFirstRun l (map keyed_seen (take i ks)) (map keyed_seen (drop i ks))) joined
    (run_is_first key (map keyed_seen (take i ks)) (map keyed_seen (drop i ks)) long (seen_same key (take i ks) same) differs (subst (λ l. AreInOrder l) (sym joined) h)) in
    subst (λ l. IsFirstRun (map keyed_seen ks) (map keyed_seen l) (map keyed_seen rest)) (sym front)
    (subst (λ l. IsFirstRun (map keyed_seen ks) (map keyed_seen (take i ks)) (map keyed_seen l)) (sym back) is)

-- the numbers of keys, seen or lent
pub numbers_seen : (ks : List Keyed) → map (λ k. k.number) ks ≡ map (λ k. k.number) (map keyed_seen ks)
numbers_seen [] = refl
numbers_seen (k ∷ ks) = ap (λ l. k.number ∷ l) (numbers_seen ks)
