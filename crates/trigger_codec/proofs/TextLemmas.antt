-- Labels in the text of a name.
use Rattle.std.proofs.Common.{◌≡◌, ℕ, ◌+◌, ◌-◌, ◌<◌, ◌≤◌, List, [], ◌∷◌, ◌++◌, length, drop, take, get_or, map, reverse, false, refl, sym, ap, ◌∙◌, arith}
use Rattle.std.specs.Prelude.{codes, nat_lt}
use Rattle.std.proofs.lemmas.Bool.Decides.{nat_tests}
use Rattle.std.proofs.lemmas.List.{append-nil, drop_more, reverse-append}
use Rattle.std.proofs.lemmas.Grind.{flat_map-append}
use Rattle.dns_name.specs.Text.{text_of}
use Rattle.trigger_codec.specs.Canonical.{Run, hexadecimal, longest_run, with_run, word_labels}
use Rattle.trigger_codec.specs.Dotted.{dotted}

pub dotted-append : (xs ys : List (List ℕ)) → dotted (xs ++ ys) ≡ dotted xs ++ dotted ys
dotted-append xs ys = flat_map-append (λ label. 46 ∷ label) xs ys

-- one label more
pub dotted_more : (xs : List (List ℕ)) (y : List ℕ) → dotted (xs ++ y ∷ []) ≡ dotted xs ++ 46 ∷ y
dotted_more xs y = dotted-append xs (y ∷ []) ∙ ap (λ (l : List ℕ). dotted xs ++ 46 ∷ l) (append-nil y)

pub text_is : (label : List ℕ) (labels : List (List ℕ)) → text_of (label ∷ labels) ≡ label ++ dotted labels
text_is label [] = sym (append-nil label)
text_is label (other ∷ labels) = ap (λ (text : List ℕ). label ++ 46 ∷ text) (text_is other labels)

-- the words, the last first, with one word more before them
pub word_more : (words : List ℕ) (left : ℕ) → 0 < left → left ≤ length words → dotted (reverse (map hexadecimal (drop (left - 1) words))) ≡ dotted (reverse (map hexadecimal (drop left words))) ++ 46 ∷ hexadecimal (get_or words (left - 1) 0)
word_more words left some within =
    let more : drop (left - 1) words ≡ get_or words (left - 1) 0 ∷ drop left words = drop_more words (left - 1) 0 (omega arith) ∙ ap (λ (n : ℕ). get_or words (left - 1) 0 ∷ drop n words) (let z : left - 1 + 1 ≡ left = omega arith in z) in
    ap (λ (ws : List ℕ). dotted (reverse (map hexadecimal ws))) more
    ∙ ap dotted (reverse-append (hexadecimal (get_or words (left - 1) 0) ∷ []) (map hexadecimal (drop left words)))
    ∙ dotted_more (reverse (map hexadecimal (drop left words))) (hexadecimal (get_or words (left - 1) 0))

pub without_run : (words : List ℕ) (run : Run) → run ≡ longest_run 0 words → run.long < 2 → word_labels words ≡ map hexadecimal words
without_run words run e few = ap (with_run words) (sym e) ∙ grind (arith, nat_tests)

pub around_run : (words : List ℕ) (run : Run) → run ≡ longest_run 0 words → 2 ≤ run.long
    → dotted (reverse (word_labels words)) ≡ (dotted (reverse (map hexadecimal (drop (run.place + run.long) words))) ++ 46 ∷ codes "zz") ++ dotted (reverse (map hexadecimal (take run.place words)))
around_run words run e some =
    let test : nat_lt run.long 2 ≡ false = grind (arith, nat_tests) in
    let front : List (List ℕ) = map hexadecimal (take run.place words) in
    let back : List (List ℕ) = map hexadecimal (drop (run.place + run.long) words) in
    let is : word_labels words ≡ front ++ codes "zz" ∷ back = ap (with_run words) (sym e) ∙ rw test refl in
    ap (λ (ls : List (List ℕ)). dotted (reverse ls)) is
    ∙ ap dotted (reverse-append front (codes "zz" ∷ back) ∙ ap (λ (ls : List (List ℕ)). ls ++ reverse front) (reverse-append (codes "zz" ∷ []) back))
    ∙ dotted-append (reverse back ++ codes "zz" ∷ []) (reverse front)
    ∙ ap (λ (text : List ℕ). text ++ dotted (reverse front)) (dotted_more (reverse back) (codes "zz"))
