-- No two entries of a cache are about one question.
use Rattle.std.proofs.Common.{◌≡◌, ◌==◌, ℕ, zero, suc, Bool, true, false, cond, List, [], ◌∷◌, take, Option, Some, None, Contains, inl, inr, refl, sym, ap, ◌∙◌, true≢false}
use Rattle.std.specs.Global.{Vec}
use Rattle.std.specs.List.{AllByRecursion, IsDistinct, find}
use Rattle.std.specs.Map.{keys_of, values_of}
use Rattle.std.specs.Option.{option_map_or}
use Rattle.std.specs.Str.{bytes_eq}
use Rattle.std.proofs.lemmas.Bool.{cond_both}
use Rattle.std.proofs.lemmas.Slice.Eq.{bytes_eq-Decides}
use Rattle.lru.proofs.Splits.{Contains-cons, Contains-nil}
use Rattle.dns_message.specs.declared.question.Question.{Question}
use Rattle.upstream_link.specs.Vouched.{PlainLearned, life, live}
use Rattle.answer_cache.specs.Key.{key_of}
use Rattle.answer_cache.specs.Keyed.{IsKeyed}
use Rattle.answer_cache.specs.Recent.{AreApart, after_keep, after_look_up, if_live, is_about, live_entry, put_first, without}
use Rattle.answer_cache.proofs.Entries.{Pair}
use Rattle.answer_cache.proofs.Touched.{find_in}

-- no entry is about the question
abbrev NoneAbout : Question → List PlainLearned → Type 0
NoneAbout question = AllByRecursion (λ entry. is_about question entry ≡ false)

pub apart_none : AreApart []
unfolding IsDistinct
apart_none = tt

apart_cons : (entry : PlainLearned) (es : List PlainLearned) → NoneAbout entry.question es → AreApart es → AreApart (entry ∷ es)
unfolding IsDistinct
apart_cons entry es none apart = (none, apart)

apart_head : (entry : PlainLearned) (es : List PlainLearned) → AreApart (entry ∷ es) → NoneAbout entry.question es
unfolding IsDistinct
apart_head entry es apart = apart.0

apart_tail : (entry : PlainLearned) (es : List PlainLearned) → AreApart (entry ∷ es) → AreApart es
unfolding IsDistinct
apart_tail entry es apart = apart.1

-- questions of one key
none_alike : (a b : Question) (es : List PlainLearned) → key_of a ≡ key_of b → NoneAbout a es → NoneAbout b es
none_alike a b [] same none = tt
none_alike a b (e ∷ es) same none = (ap (λ (key : List ℕ). bytes_eq key (key_of e.question)) (sym same) ∙ none.0, none_alike a b es same none.1)

alike_by : (question : Question) (e : PlainLearned) → is_about question e ≡ true → key_of question ≡ key_of e.question
alike_by question e about = (bytes_eq-Decides (key_of question) (key_of e.question)).0 about

module _ (question : Question) where
  none_without : (other : Question) (es : List PlainLearned) → NoneAbout other es → NoneAbout other (without question es)
  none_without other [] none = none
  none_without other (e ∷ es) none = cond_both (is_about question e) es (e ∷ without question es) (NoneAbout other) (λ _. none.1) (λ _. (none.0, none_without other es none.1))

  apart_without : (es : List PlainLearned) → AreApart es → AreApart (without question es)
  apart_without [] apart = apart
  apart_without (e ∷ es) apart = cond_both (is_about question e) es (e ∷ without question es) AreApart (λ _. apart_tail e es apart)
      (λ _. apart_cons e (without question es) (none_without e.question es (apart_head e es apart)) (apart_without es (apart_tail e es apart)))

  -- without the one about the question there is none
  none_left : (es : List PlainLearned) → AreApart es → NoneAbout question (without question es)
  none_left [] apart = tt
  none_left (e ∷ es) apart = cond_both (is_about question e) es (e ∷ without question es) (NoneAbout question)
      (λ about. none_alike e.question question es (sym (alike_by question e about)) (apart_head e es apart))
      (λ other. (other, none_left es (apart_tail e es apart)))

  looked_up_by : (es : List PlainLearned) (found : Option PlainLearned) → find (is_about question) es ≡ found → AreApart es → AreApart (option_map_or (λ e. e ∷ without question es) found es)
  looked_up_by es None is apart = apart
  looked_up_by es (Some e) is apart =
      apart_cons e (without question es) (none_alike question e.question (without question es) (alike_by question e (find_in question es e is).1) (none_left es apart)) (apart_without es apart)

  pub apart_looked_up : (es : List PlainLearned) → AreApart es → AreApart (after_look_up question es)
  apart_looked_up es apart = looked_up_by es (find (is_about question) es) refl apart

none_taken : (n : ℕ) (question : Question) (es : List PlainLearned) → NoneAbout question es → NoneAbout question (take n es)
none_taken zero question es none = tt
none_taken (suc n) question [] none = tt
none_taken (suc n) question (e ∷ es) none = (none.0, none_taken n question es none.1)

apart_taken : (n : ℕ) (es : List PlainLearned) → AreApart es → AreApart (take n es)
apart_taken zero es apart = apart_none
apart_taken (suc n) [] apart = apart_none
apart_taken (suc n) (e ∷ es) apart = apart_cons e (take n es) (none_taken n e.question es (apart_head e es apart)) (apart_taken n es (apart_tail e es apart))

pub apart_kept : (limit : ℕ) (entry : PlainLearned) (es : List PlainLearned) → AreApart es → AreApart (after_keep limit entry es)
apart_kept limit entry es apart = cond_both (life entry == 0) es (put_first limit entry es) AreApart (λ _. apart)
    (λ _. apart_taken limit (entry ∷ without entry.question es) (apart_cons entry (without entry.question es) (none_left entry.question es apart) (apart_without entry.question es apart)))

-- ---- the one that there is

none_among : (question : Question) (es : List PlainLearned) (e : PlainLearned) → NoneAbout question es → Contains es e → is_about question e ≡ true → ⊥
none_among question [] e none at about = Contains-nil e at
none_among question (f ∷ es) e none at about = elim (Contains-cons f es e at) [
  | inl same ↦ true≢false (sym about ∙ ap (is_about question) (sym same) ∙ none.0)
  | inr rest ↦ none_among question es e none.1 rest about
]

find_only : (question : Question) (es : List PlainLearned) (e : PlainLearned) → AreApart es → Contains es e → is_about question e ≡ true → find (is_about question) es ≡ Some e
find_only question [] e apart at about = absurd (Contains-nil e at)
find_only question (f ∷ es) e apart at about = cond_both (is_about question f) (Some f) (find (is_about question) es) (λ o. o ≡ Some e)
    (λ first. elim (Contains-cons f es e at) [
      | inl same ↦ ap Some same
      | inr rest ↦ absurd (none_among f.question es e (apart_head f es apart) rest (ap (λ (key : List ℕ). bytes_eq key (key_of e.question)) (sym (alike_by question f first)) ∙ about))
    ])
    (λ other. elim (Contains-cons f es e at) [
      | inl same ↦ absurd (true≢false (sym about ∙ ap (is_about question) (sym same) ∙ other))
      | inr rest ↦ find_only question es e (apart_tail f es apart) rest about
    ])

pub found_only : (question : Question) (now : ℕ) (es : List PlainLearned) (e : PlainLearned) → AreApart es → Contains es e → is_about question e ≡ true → live now e ≡ true → live_entry question now es ≡ Some e
found_only question now es e apart at about holds =
    ap (if_live now) (find_only question es e apart at about) ∙ ap (λ (b : Bool). cond b (Some e) None) holds

-- ---- a map whose keys are distinct

abbrev same_key : Vec ℕ → Vec ℕ → Bool
same_key a b = bytes_eq a.items b.items

none_keyed : (e : Pair) (es : List Pair) → e.0.items ≡ key_of e.1.question → IsKeyed es → AllByRecursion (λ (key : Vec ℕ). same_key e.0 key ≡ false) (keys_of es) → NoneAbout e.1.question (values_of es)
none_keyed e [] is keyed none = tt
none_keyed e (f ∷ es) is keyed none =
    ((λ i. bytes_eq (sym is i) (sym keyed.0 i)) ∙ none.0, none_keyed e es is keyed.1 none.1)

pub apart_keyed : (es : List Pair) → IsKeyed es → IsDistinct same_key (keys_of es) → AreApart (values_of es)
unfolding IsDistinct
apart_keyed [] keyed distinct = tt
apart_keyed (e ∷ es) keyed distinct = (none_keyed e es keyed.0 keyed.1 distinct.0, apart_keyed es keyed.1 distinct.1)
