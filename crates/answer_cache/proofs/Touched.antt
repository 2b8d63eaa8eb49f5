-- What a look-up finds, and the entries after it.
use Rattle.std.proofs.Common.{◌≡◌, ◌==◌, ◌⊎◌, ℕ, Bool, true, false, cond, List, [], ◌∷◌, Option, Some, None, Contains, inl, inr, refl, ap, subst}
use Rattle.std.specs.List.{find}
use Rattle.std.specs.Option.{option_map_or}
use Rattle.std.proofs.lemmas.Bool.{cond_both}
use Rattle.lru.proofs.CallerLemmas.{Contains-take}
use Rattle.lru.proofs.Splits.{Contains-head, Contains-tail, Contains-cons}
use Rattle.dns_message.specs.declared.question.Question.{Question}
use Rattle.upstream_link.specs.Vouched.{PlainLearned, life, live}
use Rattle.answer_cache.specs.Recent.{HaveSameEntries, live_entry, if_live, is_about, after_keep, after_look_up, put_first, without}

-- ---- a look-up

-- what is found is among the entries, about the question
pub find_in : (question : Question) (es : List PlainLearned) (e : PlainLearned) → find (is_about question) es ≡ Some e → Contains es e × (is_about question e ≡ true)
find_in question [] e h = absurd cc
find_in question (f ∷ es) e h = (elim (is_about question f) as (λ y. is_about question f ≡ y → Contains (f ∷ es) e × (is_about question e ≡ true)) [
  | true ↦ λ t. let h' = rw t at h in let same : f ≡ e = cc in (subst (Contains (f ∷ es)) same (Contains-head f es), subst (λ g. is_about question g ≡ true) same t)
  | false ↦ λ t. let on = find_in question es e (rw t at h) in (Contains-tail f es e on.0, on.1)
]) refl

live_only : (b : Bool) (f e : PlainLearned) → cond b (Some f) None ≡ Some e → (f ≡ e) × (b ≡ true)
live_only true f e h = (cc, refl)
live_only false f e h = absurd cc

found_by : (question : Question) (now : ℕ) (es : List PlainLearned) (e : PlainLearned) (o : Option PlainLearned) → find (is_about question) es ≡ o → if_live now o ≡ Some e
    → Contains es e × (is_about question e ≡ true) × (live now e ≡ true)
found_by question now es e None is h = absurd cc
found_by question now es e (Some f) is h =
    let one = live_only (live now f) f e h in
    let among = find_in question es f is in
    (subst (Contains es) one.0 among.0, subst (λ g. is_about question g ≡ true) one.0 among.1, subst (λ g. live now g ≡ true) one.0 one.1)

pub found_in : (question : Question) (now : ℕ) (es : List PlainLearned) (e : PlainLearned) → live_entry question now es ≡ Some e → Contains es e × (is_about question e ≡ true) × (live now e ≡ true)
found_in question now es e h = found_by question now es e (find (is_about question) es) refl h

-- ---- an entry that goes first

without_among : (question : Question) (es : List PlainLearned) (x : PlainLearned) → Contains (without question es) x → Contains es x
without_among question [] x c = c
without_among question (e ∷ es) x c = cond_both (is_about question e) es (e ∷ without question es) (λ l. Contains l x → Contains (e ∷ es) x)
    (λ _ d. Contains-tail e es x d)
    (λ _ d. elim (Contains-cons e (without question es) x d) [ inl same ↦ subst (Contains (e ∷ es)) same (Contains-head e es) | inr g ↦ Contains-tail e es x (without_among question es x g) ])
    c

-- where the first entry about the question is this, each entry is this or one of the others
split_by : (question : Question) (es : List PlainLearned) (f x : PlainLearned) → find (is_about question) es ≡ Some f → Contains es x → Contains (f ∷ without question es) x
split_by question [] f x h c = absurd cc
split_by question (e ∷ es) f x h c = (elim (is_about question e) as (λ y. is_about question e ≡ y → Contains (f ∷ cond y es (e ∷ without question es)) x) [
  | true ↦ λ t. let h' = rw t at h in let same : e ≡ f = cc in subst (λ g. Contains (g ∷ es) x) same c
  | false ↦ λ t. elim (Contains-cons e es x c) [
    | inl same ↦ subst (Contains (f ∷ e ∷ without question es)) same (Contains-tail f (e ∷ without question es) e (Contains-head e (without question es)))
    | inr d ↦ elim (Contains-cons f (without question es) x (split_by question es f x (rw t at h) d)) [
      | inl same ↦ subst (Contains (f ∷ e ∷ without question es)) same (Contains-head f (e ∷ without question es))
      | inr g ↦ Contains-tail f (e ∷ without question es) x (Contains-tail e (without question es) x g)
    ]
  ]
]) refl

same_by : (question : Question) (es : List PlainLearned) (o : Option PlainLearned) → find (is_about question) es ≡ o → HaveSameEntries (option_map_or (λ e. e ∷ without question es) o es) es
same_by question es None is x = (λ c. c, λ c. c)
same_by question es (Some f) is x = (
  λ c. elim (Contains-cons f (without question es) x c) [ inl same ↦ subst (Contains es) same (find_in question es f is).0 | inr d ↦ without_among question es x d ],
  λ c. split_by question es f x is c,
)

pub touched_same : (question : Question) (es : List PlainLearned) → HaveSameEntries (after_look_up question es) es
touched_same question es = same_by question es (find (is_about question) es) refl

find_first : (question : Question) (f : PlainLearned) (rest : List PlainLearned) → is_about question f ≡ true → find (is_about question) (f ∷ rest) ≡ Some f
find_first question f rest t = ap (λ b. cond b (Some f) (find (is_about question) rest)) t

find_by : (question : Question) (es : List PlainLearned) (o : Option PlainLearned) → find (is_about question) es ≡ o → find (is_about question) (option_map_or (λ e. e ∷ without question es) o es) ≡ o
find_by question es None is = is
find_by question es (Some f) is = find_first question f (without question es) (find_in question es f is).1

pub found_touched : (question : Question) (now : ℕ) (es : List PlainLearned) → live_entry question now (after_look_up question es) ≡ live_entry question now es
found_touched question now es = ap (if_live now) (find_by question es (find (is_about question) es) refl)

-- ---- a new entry

-- it comes alone
pub among_kept : (limit : ℕ) (entry : PlainLearned) (es : List PlainLearned) (x : PlainLearned) → Contains (after_keep limit entry es) x → Contains es x ⊎ (entry ≡ x)
among_kept limit entry es x = cond_both (life entry == 0) es (put_first limit entry es) (λ l. Contains l x → Contains es x ⊎ (entry ≡ x))
    (λ _ at. inl at)
    (λ _ at. elim (Contains-cons entry (without entry.question es) x (Contains-take limit (entry ∷ without entry.question es) x at)) [
      | inl same ↦ inr same
      | inr rest ↦ inl (without_among entry.question es x rest)
    ])
