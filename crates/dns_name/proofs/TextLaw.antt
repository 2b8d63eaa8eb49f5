-- A name is read back from its text.
use Rattle.std.proofs.Common.{◌≡◌, ◌≢◌, ℕ, ◌-◌, true, false, eqb, ◌||◌, List, [], ◌∷◌, ◌++◌, length, take, drop, Ok, refl, sym, ap, subst, ◌∙◌, append_assoc, arith, length-append}
use Rattle.std.specs.List.{list_all, All, AllByRecursion}
use Rattle.std.specs.Cmp.Lexicographic.{pointwise}
use Rattle.std.proofs.lemmas.Bool.{false≢true, ne_eqb, le-leb, and_parts, and_from, and_left, or_left, cond-false}
use Rattle.std.proofs.lemmas.List.{drop_at}
use Rattle.std.proofs.lemmas.List.Elements.{All-nil, All-cons}
use Rattle.std.proofs.lemmas.List.Folds.{list_all-append}
use Rattle.std.proofs.lemmas.List.Splits.{slice_split_none, slice_split_at}
use Rattle.dns_name.specs.Labels.{IsLabel, IsName, name_octets}
use Rattle.dns_name.specs.Text.{is_label_byte, is_dot, has_text_bytes, without_last_dot, split_at_dots, has_label_lengths, text_name, has_label_bytes, text_of}
use Rattle.dns_name.proofs.TextLemmas.{name_len-split, text_ok}

label_byte_is_no_dot : (b : ℕ) → is_label_byte b ≡ true → b ≢ 46
label_byte_is_no_dot b h dot = false≢true (subst (λ (x : ℕ). is_label_byte x ≡ true) dot h)

no_dots : (label : List ℕ) → list_all is_label_byte label ≡ true → All (λ b. is_dot b ≡ false) label
no_dots [] h = All-nil (λ b. is_dot b ≡ false)
no_dots (b ∷ bs) h =
    let parts = and_parts _ _ h in
    All-cons (λ b. is_dot b ≡ false) b bs (ne_eqb b 46 (label_byte_is_no_dot b parts.0)) (no_dots bs parts.1)

split_text : (name : List (List ℕ)) → has_label_bytes name ≡ true → name ≢ [] → split_at_dots (text_of name) ≡ name
split_text [] h some = absurd (some refl)
split_text (l ∷ []) h some = slice_split_none is_dot l (no_dots l (and_parts _ _ h).0)
split_text (l ∷ m ∷ ms) h some =
    let parts = and_parts _ _ h in
    slice_split_at is_dot l 46 (text_of (m ∷ ms)) (no_dots l parts.0) refl ∙ ap (λ (ls : List (List ℕ)). l ∷ ls) (split_text (m ∷ ms) parts.1 (λ none. cc))

label_text : (label : List ℕ) → list_all is_label_byte label ≡ true → has_text_bytes label ≡ true
label_text [] h = refl
label_text (b ∷ bs) h =
    let parts = and_parts _ _ h in
    and_from _ _ (or_left _ _ parts.0) (label_text bs parts.1)

name_text : (name : List (List ℕ)) → has_label_bytes name ≡ true → has_text_bytes (text_of name) ≡ true
name_text [] h = refl
name_text (l ∷ []) h = label_text l (and_parts _ _ h).0
name_text (l ∷ m ∷ ms) h =
    let parts = and_parts _ _ h in
    list_all-append (λ b. is_label_byte b || is_dot b) l (46 ∷ text_of (m ∷ ms)) ∙ and_from _ _ (label_text l parts.0) (name_text (m ∷ ms) parts.1)

-- the last byte is one of a label
record Ends (text : List ℕ) : Type 0 where
  pub front : List ℕ
  pub last : ℕ
  pub whole : text ≡ front ++ last ∷ []
  pub byte : is_label_byte last ≡ true

Ends-behind : (front text : List ℕ) → Ends text → Ends (front ++ text)
Ends-behind front text e = record { front = front ++ e.front; last = e.last; whole = ap (λ (l : List ℕ). front ++ l) e.whole ∙ sym (append_assoc front e.front (e.last ∷ [])); byte = e.byte }

Ends-label : (b : ℕ) (bs : List ℕ) → list_all is_label_byte (b ∷ bs) ≡ true → Ends (b ∷ bs)
Ends-label b [] h = record { front = []; last = b; whole = refl; byte = (and_parts _ _ h).0 }
Ends-label b (c ∷ cs) h = Ends-behind (b ∷ []) (c ∷ cs) (Ends-label c cs (and_parts _ _ h).1)

Ends-text : (label : List ℕ) (others : List (List ℕ)) → AllByRecursion IsLabel (label ∷ others) → has_label_bytes (label ∷ others) ≡ true → Ends (text_of (label ∷ others))
Ends-text [] others each h = absurd (omega (arith, each.0.not_empty))
Ends-text (b ∷ bs) [] each h = Ends-label b bs (and_parts _ _ h).0
Ends-text (b ∷ bs) (m ∷ ms) each h = Ends-behind (b ∷ bs) (46 ∷ text_of (m ∷ ms)) (Ends-behind (46 ∷ []) (text_of (m ∷ ms)) (Ends-text m ms each.1 (and_parts _ _ h).1))

no_last_dot : (text : List ℕ) → Ends text → without_last_dot text ≡ text
no_last_dot text e =
    let len : length e.front ≡ length text - 1 = omega (arith, ap length e.whole, length-append e.front (e.last ∷ [])) in
    let last : drop (length text - 1) text ≡ e.last ∷ [] = ap (drop (length text - 1)) e.whole ∙ drop_at e.front (e.last ∷ []) (length text - 1) len in
    let apart : eqb 46 e.last ≡ false = ne_eqb 46 e.last (λ dot. label_byte_is_no_dot e.last e.byte (sym dot)) in
    cond-false _ (take (length text - 1) text) text (ap (pointwise eqb (46 ∷ [])) last ∙ and_left _ true apart)

some_text : (text : List ℕ) → Ends text → eqb (length text) 0 ≡ false
some_text text e = ne_eqb _ 0 (λ none. absurd (omega (arith, none, ap length e.whole, length-append e.front (e.last ∷ []))))

lengths : (name : List (List ℕ)) → AllByRecursion IsLabel name → has_label_lengths name ≡ true
lengths [] each = refl
lengths (l ∷ ls) each = and_from _ _ (and_from _ _ (le-leb 1 (length l) each.0.not_empty) (le-leb (length l) 63 each.0.short)) (lengths ls each.1)

pub read_back : (name : List (List ℕ)) → IsName name → name ≢ [] → has_label_bytes name ≡ true → text_name (text_of name) ≡ Ok name
read_back [] is some h = absurd (some refl)
read_back (l ∷ ls) is some h =
    let text = text_of (l ∷ ls) in
    let e = Ends-text l ls is.labels h in
    let same : split_at_dots text ≡ l ∷ ls = split_text (l ∷ ls) h some in
    text_ok text text (sym (no_last_dot text e)) (some_text text e) (name_text (l ∷ ls) h) (ap has_label_lengths same ∙ lengths (l ∷ ls) is.labels) (omega (arith, is.short, name_len-split text, ap (λ (n : List (List ℕ)). length (name_octets n)) same))
    ∙ ap Ok same
