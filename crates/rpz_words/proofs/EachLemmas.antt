-- Texts that are read one after another.
use Rattle.std.proofs.Common.{◌≡◌, ℕ, ◌+◌, ◌<◌, ◌≤◌, suc, List, [], ◌∷◌, ◌++◌, length, map, drop, Bor, Result, Ok, Err, refl, sym, ◌∙◌, ap, ap₂, add-one, append_assoc, append-nil, drop-cons, drop_of_length-le}
use Rattle.std.specs.List.{slice_index_or}
use Rattle.rpz_words.specs.declared.usage_cause.UsageCause.{UsageCause}
use Rattle.rpz_words.specs.Lists.{each_of}
use Rattle.dns_name.specs.Reading.{◌>>=◌}
use Rattle.rpz_words.specs.Outcome.{or_said}
use Rattle.dns_name.proofs.Binding.{bind_ok, ok_is}

abbrev pub texts_of : List (Bor (List ℕ)) → List (List ℕ)
texts_of = map (λ text. text.now)

-- what was read so far, of so many texts, with what further texts give behind
abbrev pub continued : {A E : Type 0} → (List ℕ → Result A E) → (ℕ → E → UsageCause) → ℕ → List A → List (List ℕ) → Result (List A) UsageCause
continued form said number so_far texts = each_of form said (number + 1) texts >>= λ more. Ok (so_far ++ more)

whole : {A E : Type 0} (o : Result (List A) E) → o >>= (λ more. Ok ([] ++ more)) ≡ o
whole (Ok xs) = refl
whole (Err fault) = refl

pub from_none : {A E : Type 0} (form : List ℕ → Result A E) (said : ℕ → E → UsageCause) (texts : List (List ℕ)) → continued form said 0 [] texts ≡ each_of form said 1 texts
from_none form said texts = whole (each_of form said 1 texts)

next : {A E : Type 0} (so_far : List A) (x : A) (o : Result (List A) E) → (o >>= λ more. Ok (x ∷ more)) >>= (λ more. Ok (so_far ++ more)) ≡ o >>= (λ more. Ok ((so_far ++ x ∷ []) ++ more))
next so_far x (Err fault) = refl
next so_far x (Ok more) = ap Ok (sym (append_assoc so_far (x ∷ []) more))

-- the texts from a place on are the text there and those behind
texts_from : (texts : List (Bor (List ℕ))) (at : ℕ) (text : Bor (List ℕ)) → at < length texts → text ≡ slice_index_or texts at text → texts_of (drop at texts) ≡ text.now ∷ texts_of (drop (at + 1) texts)
texts_from texts at text lt is =
    ap texts_of (drop-cons texts at text lt ∙ ap₂ (λ (t : Bor (List ℕ)) rest. t ∷ rest) (sym is) (ap (λ n. drop n texts) (sym (add-one at))))

-- a text that is read adds what it says
pub one_more : {A E : Type 0} (form : List ℕ → Result A E) (said : ℕ → E → UsageCause) (number : ℕ) (so_far : List A) (texts : List (Bor (List ℕ))) (at : ℕ) (text : Bor (List ℕ)) (x : A) → at < length texts → text ≡ slice_index_or texts at text
    → or_said (said (number + 1)) (form text.now) ≡ Ok x → continued form said number so_far (texts_of (drop at texts)) ≡ continued form said (number + 1) (so_far ++ x ∷ []) (texts_of (drop (at + 1) texts))
one_more form said number so_far texts at text x lt is e =
    rw (texts_from texts at text lt is, e) (next so_far x (each_of form said (number + 1 + 1) (texts_of (drop (at + 1) texts))))

-- one that is not ends it
pub fault_more : {A E : Type 0} (form : List ℕ → Result A E) (said : ℕ → E → UsageCause) (number : ℕ) (so_far : List A) (texts : List (Bor (List ℕ))) (at : ℕ) (text : Bor (List ℕ)) (cause : UsageCause) → at < length texts → text ≡ slice_index_or texts at text
    → or_said (said (number + 1)) (form text.now) ≡ Err cause → continued form said number so_far (texts_of (drop at texts)) ≡ Err cause
fault_more form said number so_far texts at text cause lt is e = rw (texts_from texts at text lt is, e) refl

-- all texts are read
pub no_more : {A E : Type 0} (form : List ℕ → Result A E) (said : ℕ → E → UsageCause) (number : ℕ) (so_far : List A) (texts : List (Bor (List ℕ))) (at : ℕ) → length texts ≤ at → continued form said number so_far (texts_of (drop at texts)) ≡ Ok so_far
no_more form said number so_far texts at past = rw (drop_of_length-le texts past) (ap Ok (append-nil so_far))

-- as many values as texts
pub each_count : {A E : Type 0} (form : List ℕ → Result A E) (said : ℕ → E → UsageCause) (number : ℕ) (texts : List (List ℕ)) (xs : List A) → each_of form said number texts ≡ Ok xs → length xs ≡ length texts
each_count form said number [] xs e = ap length (sym (ok_is [] xs e))
each_count form said number (text ∷ texts) xs e =
    let a = bind_ok (or_said (said number) (form text)) _ xs e in
    let b = bind_ok (each_of form said (number + 1) texts) _ xs a.2 in
    ap length (sym (ok_is (a.0 ∷ b.0) xs b.2)) ∙ ap suc (each_count form said (number + 1) texts b.0 b.1)
