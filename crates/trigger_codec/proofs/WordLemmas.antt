-- Words of addresses that labels write.
use Rattle.std.proofs.Common.{◌≡◌, ℕ, suc, ◌+◌, ◌-◌, ◌*◌, ◌<◌, ◌≤◌, List, [], ◌∷◌, ◌++◌, length, take, drop, set, replicate, Bool, true, false, cond, Option, Some, None, refl, sym, ap, subst, ◌∙◌, append_assoc, arith, ◌||◌, mul-one}
use Rattle.std.specs.Prelude.{if◌then◌else◌, nat_le}
use Rattle.std.specs.List.{count_by, list_any}
use Rattle.std.proofs.lemmas.Bool.Decides.{nat_tests}
use Rattle.std.proofs.lemmas.List.Sums.{sum_by-cons}
use Rattle.trigger_codec.proofs.Firsts.{take_next}
use Rattle.std.proofs.Math.Seq.{take-add}
use Rattle.std.proofs.lemmas.List.{append-nil, take_more_set, drop-set-lt, drop-drop, drop-replicate, take-replicate, take_all}
use Rattle.trigger_codec.specs.Address.{is_zz, both, single, word_read, words_read, bytes_read, v6_of, address_read}
use Rattle.trigger_codec.specs.Words.{word_count, first_byte}

both-assoc : (xs ys : List ℕ) (r : Option (List ℕ)) → both (Some xs) (both (Some ys) r) ≡ both (Some (xs ++ ys)) r
both-assoc xs ys None = refl
both-assoc xs ys (Some zs) = ap (λ (l : List ℕ). Some l) (sym (append_assoc xs ys zs))

both-nil : (r : Option (List ℕ)) → r ≡ both (Some []) r
both-nil None = refl
both-nil (Some xs) = refl

-- what is read so far, and more
both_more : (front more next : List ℕ) (all whole rest : Option (List ℕ)) → all ≡ both (Some front) whole → whole ≡ both (Some more) rest → front ++ more ≡ next → all ≡ both (Some next) rest
both_more front more next all whole rest h k e = h ∙ ap (both (Some front)) k ∙ both-assoc front more rest ∙ ap (λ (l : List ℕ). both (Some l) rest) e

places_left : (place more : ℕ) → 8 - place - more ≡ 8 - (place + more)
places_left place more = omega arith

-- zeros behind a place, and behind a later one
zeros_behind : (place more : ℕ) (words : List ℕ) → drop place words ≡ replicate (8 - place) 0 → drop (place + more) words ≡ replicate (8 - (place + more)) 0
zeros_behind place more words h =
    sym (drop-drop more place words) ∙ ap (drop more) h ∙ drop-replicate more (8 - place) 0 ∙ ap (λ (n : ℕ). replicate n 0) (places_left place more)

-- Some of the labels are read: their words stand in the first places, and zeros behind them.
pub record Reads (missing : ℕ) (all : Option (List ℕ)) (rest : List (List ℕ)) (words : List ℕ) (place : ℕ) : Type 0 where
  pub same : all ≡ both (Some (take place words)) (words_read missing rest)
  pub zeros : drop place words ≡ replicate (8 - place) 0
  pub room : place + word_count missing rest ≡ 8

pub reads_start : (missing : ℕ) (labels : List (List ℕ)) → word_count missing labels ≡ 8 → Reads missing (words_read missing labels) labels (replicate 8 0) 0
reads_start missing labels eight = record { same = both-nil (words_read missing labels); zeros = refl; room = omega arith }

-- the number of words that labels behind a `zz` write, and behind another label
count_zz : (missing : ℕ) (label : List ℕ) (rest : List (List ℕ)) → is_zz label ≡ true → word_count missing (label ∷ rest) ≡ missing + word_count missing rest
count_zz missing label rest z = rw z refl

count_word : (missing : ℕ) (label : List ℕ) (rest : List (List ℕ)) → is_zz label ≡ false → word_count missing (label ∷ rest) ≡ 1 + word_count missing rest
count_word missing label rest z = rw z refl

-- the words of a `zz`, and of another label
read_zz : (missing : ℕ) (label : List ℕ) (rest : List (List ℕ)) → is_zz label ≡ true → words_read missing (label ∷ rest) ≡ both (Some (replicate missing 0)) (words_read missing rest)
read_zz missing label rest z = rw z refl

read_word : (missing : ℕ) (label : List ℕ) (rest : List (List ℕ)) → is_zz label ≡ false → words_read missing (label ∷ rest) ≡ both (single (word_read label)) (words_read missing rest)
read_word missing label rest z = rw z refl

pub reads_zz : (missing : ℕ) (all : Option (List ℕ)) (label : List ℕ) (rest : List (List ℕ)) (words : List ℕ) (place : ℕ) → is_zz label ≡ true → Reads missing all (label ∷ rest) words place → Reads missing all rest words (place + missing)
reads_zz missing all label rest words place z r =
    let count = count_zz missing label rest z in
    let le : missing ≤ 8 - place = omega (arith, r.room, count) in
    let front : take place words ++ replicate missing 0 ≡ take (place + missing) words = sym (take-add place missing words ∙ ap (λ (l : List ℕ). take place words ++ l) (ap (take missing) r.zeros ∙ take-replicate missing (8 - place) 0 le)) in
    record {
      same = both_more (take place words) (replicate missing 0) (take (place + missing) words) all (words_read missing (label ∷ rest)) (words_read missing rest) r.same (read_zz missing label rest z) front;
      zeros = zeros_behind place missing words r.zeros;
      room = omega (arith, r.room, count);
    }

pub reads_word : (missing : ℕ) (all : Option (List ℕ)) (label : List ℕ) (rest : List (List ℕ)) (words : List ℕ) (place word : ℕ) → length words ≡ 8 → is_zz label ≡ false → word_read label ≡ Some word → Reads missing all (label ∷ rest) words place → Reads missing all rest (set words place word) (place + 1)
reads_word missing all label rest words place word len z w r =
    let count = count_word missing label rest z in
    let lt : place < length words = omega (arith, r.room, count) in
    let behind : drop (place + 1) (set words place word) ≡ drop (place + 1) words = drop-set-lt (place + 1) words place word (omega arith) in
    record {
      same = both_more (take place words) (word ∷ []) (take (place + 1) (set words place word)) all (words_read missing (label ∷ rest)) (words_read missing rest) r.same (read_word missing label rest z ∙ ap (λ (o : Option ℕ). both (single o) (words_read missing rest)) w) (sym (take_more_set words place word lt));
      zeros = behind ∙ zeros_behind place 1 words r.zeros;
      room = omega (arith, r.room, count);
    }

pub has_room : (missing : ℕ) (all : Option (List ℕ)) (label : List ℕ) (rest : List (List ℕ)) (words : List ℕ) (place : ℕ) → is_zz label ≡ false → Reads missing all (label ∷ rest) words place → place < 8
has_room missing all label rest words place z r = omega (arith, r.room, count_word missing label rest z)

pub has_room_zz : (missing : ℕ) (all : Option (List ℕ)) (label : List ℕ) (rest : List (List ℕ)) (words : List ℕ) (place : ℕ) → is_zz label ≡ true → Reads missing all (label ∷ rest) words place → place + missing ≤ 8
has_room_zz missing all label rest words place z r = omega (arith, r.room, count_zz missing label rest z)

pub reads_none : (missing : ℕ) (all : Option (List ℕ)) (label : List ℕ) (rest : List (List ℕ)) (words : List ℕ) (place : ℕ) → is_zz label ≡ false → word_read label ≡ None → Reads missing all (label ∷ rest) words place → all ≡ None
reads_none missing all label rest words place z w r =
    r.same ∙ ap (both (Some (take place words))) (read_word missing label rest z ∙ ap (λ (o : Option ℕ). both (single o) (words_read missing rest)) w)

pub reads_end : (missing : ℕ) (all : Option (List ℕ)) (words : List ℕ) (place : ℕ) → length words ≡ 8 → Reads missing all [] words place → all ≡ Some words
reads_end missing all words place len r =
    r.same ∙ ap (λ (l : List ℕ). Some l) (append-nil (take place words) ∙ take_all place words (omega (arith, r.room)))

-- the bytes of four labels
pub four_bytes : (labels : List (List ℕ)) → 4 ≤ length labels → bytes_read (take 4 labels) ≡ both (single (first_byte labels)) (both (single (first_byte (drop 1 labels))) (both (single (first_byte (drop 1 (drop 1 labels)))) (both (single (first_byte (drop 1 (drop 1 (drop 1 labels))))) (Some []))))
four_bytes [] h = absurd (omega arith)
four_bytes (a ∷ []) h = absurd (omega arith)
four_bytes (a ∷ b ∷ []) h = absurd (omega arith)
four_bytes (a ∷ b ∷ c ∷ []) h = absurd (omega arith)
four_bytes (a ∷ b ∷ c ∷ d ∷ labels) h = refl

-- how many words there are, by the number of `zz`
pub count_by-cons : (label : List ℕ) (labels : List (List ℕ)) → count_by is_zz (label ∷ labels) ≡ cond (is_zz label) 1 0 + count_by is_zz labels
count_by-cons label labels = sum_by-cons (λ l. cond (is_zz l) 1 0) label labels

count_step : (b : Bool) (missing words zz len : ℕ) → words + zz ≡ len + missing * zz → (if b then missing else 1) + words + (cond b 1 0 + zz) ≡ suc len + missing * (cond b 1 0 + zz)
count_step true missing words zz len h = omega arith
count_step false missing words zz len h = omega arith

pub count_is : (missing : ℕ) (labels : List (List ℕ)) → word_count missing labels + count_by is_zz labels ≡ length labels + missing * count_by is_zz labels
count_is missing [] = omega arith
count_is missing (label ∷ labels) =
    let zz = count_by-cons label labels in
    ap (λ (n : ℕ). word_count missing (label ∷ labels) + n) zz ∙ count_step (is_zz label) missing (word_count missing labels) (count_by is_zz labels) (length labels) (count_is missing labels) ∙ sym (ap (λ (n : ℕ). suc (length labels) + missing * n) zz)

one_of : (b any : Bool) (zz : ℕ) → (1 ≤ zz → any ≡ true) → 1 ≤ cond b 1 0 + zz → (b || any) ≡ true
one_of true any zz f h = refl
one_of false any zz f h = f (omega arith)

some_zz : (labels : List (List ℕ)) → 1 ≤ count_by is_zz labels → list_any is_zz labels ≡ true
some_zz [] h = absurd (omega arith)
some_zz (label ∷ labels) h = one_of (is_zz label) (list_any is_zz labels) (count_by is_zz labels) (some_zz labels) (omega (arith, h, count_by-cons label labels))

-- an address with one `zz`
pub eight_words : (labels : List (List ℕ)) → count_by is_zz labels ≡ 1 → length labels ≤ 8 → word_count (9 - length labels) labels ≡ 8
eight_words labels one few =
    let product : (9 - length labels) * count_by is_zz labels ≡ 9 - length labels = ap (λ (n : ℕ). (9 - length labels) * n) one ∙ mul-one (9 - length labels) in
    omega (arith, count_is (9 - length labels) labels, product)

pub zz_address : (labels : List (List ℕ)) → count_by is_zz labels ≡ 1 → length labels ≤ 8 → address_read labels ≡ v6_of (words_read (9 - length labels) labels)
unfolding address_read
zz_address labels one few =
    let some : list_any is_zz labels ≡ true = some_zz labels (omega arith) in
    let test : nat_le (length labels) 8 ≡ true = grind (arith, nat_tests) in
    rw (some, one, test) refl

-- one label more of which the `zz` are counted
pub count_more : (zz more all count i : ℕ) (labels others : List (List ℕ)) (label : List ℕ) → labels ≡ label ∷ others → i < count → more ≡ cond (is_zz label) 1 0 → zz + count_by is_zz (take (count - i) labels) ≡ all → zz + more + count_by is_zz (take (count - (i + 1)) others) ≡ all
count_more zz more all count i labels others label e lt m h =
    omega (arith, h, m, ap (count_by is_zz) (take_next labels others label count i e lt), count_by-cons label (take (count - (i + 1)) others))

-- a label that is read
pub goes_zz : (missing : ℕ) (all : Option (List ℕ)) (labels others : List (List ℕ)) (label : List ℕ) (words : List ℕ) (place count i : ℕ) → labels ≡ label ∷ others → i < count → is_zz label ≡ true → Reads missing all (take (count - i) labels) words place → Reads missing all (take (count - (i + 1)) others) words (place + missing)
goes_zz missing all labels others label words place count i e lt z r =
    reads_zz missing all label (take (count - (i + 1)) others) words place z (subst (λ (ls : List (List ℕ)). Reads missing all ls words place) (take_next labels others label count i e lt) r)

pub goes_word : (missing : ℕ) (all : Option (List ℕ)) (labels others : List (List ℕ)) (label : List ℕ) (words : List ℕ) (place word count i : ℕ) → labels ≡ label ∷ others → i < count → length words ≡ 8 → is_zz label ≡ false → word_read label ≡ Some word → Reads missing all (take (count - i) labels) words place → Reads missing all (take (count - (i + 1)) others) (set words place word) (place + 1)
goes_word missing all labels others label words place word count i e lt len z w r =
    reads_word missing all label (take (count - (i + 1)) others) words place word len z w (subst (λ (ls : List (List ℕ)). Reads missing all ls words place) (take_next labels others label count i e lt) r)

pub goes_none : (missing : ℕ) (all : Option (List ℕ)) (labels others : List (List ℕ)) (label : List ℕ) (words : List ℕ) (place count i : ℕ) → labels ≡ label ∷ others → i < count → is_zz label ≡ false → word_read label ≡ None → Reads missing all (take (count - i) labels) words place → all ≡ None
goes_none missing all labels others label words place count i e lt z w r =
    reads_none missing all label (take (count - (i + 1)) others) words place z w (subst (λ (ls : List (List ℕ)). Reads missing all ls words place) (take_next labels others label count i e lt) r)

pub goes_room : (missing : ℕ) (all : Option (List ℕ)) (labels others : List (List ℕ)) (label : List ℕ) (words : List ℕ) (place count i : ℕ) → labels ≡ label ∷ others → i < count → is_zz label ≡ false → Reads missing all (take (count - i) labels) words place → place < 8
goes_room missing all labels others label words place count i e lt z r =
    has_room missing all label (take (count - (i + 1)) others) words place z (subst (λ (ls : List (List ℕ)). Reads missing all ls words place) (take_next labels others label count i e lt) r)

pub goes_room_zz : (missing : ℕ) (all : Option (List ℕ)) (labels others : List (List ℕ)) (label : List ℕ) (words : List ℕ) (place count i : ℕ) → labels ≡ label ∷ others → i < count → is_zz label ≡ true → Reads missing all (take (count - i) labels) words place → place + missing ≤ 8
goes_room_zz missing all labels others label words place count i e lt z r =
    has_room_zz missing all label (take (count - (i + 1)) others) words place z (subst (λ (ls : List (List ℕ)). Reads missing all ls words place) (take_next labels others label count i e lt) r)
