-- The pairs of the map under the cache, and the list that contracts see.
use Rattle.std.proofs.Common.{◌≡◌, ◌==◌, ◌≤◌, ◌<◌, ◌-◌, inl, inr, ℕ, zero, suc, Bool, true, false, cond, List, [], ◌∷◌, length, take, Option, Some, None, IfSome, Result, Ok, Err, OnOk, OnErr, refl, sym, subst, ap, ◌∙◌, arith}
use Rattle.std.specs.Global.{Vec}
use Rattle.std.specs.List.{find}
use Rattle.std.specs.Option.{option_map, option_map_or}
use Rattle.std.specs.Map.{lookup, lookup_entry, remove_entry, values_of}
use Rattle.std.specs.Str.{bytes_eq}
use Rattle.std.proofs.lemmas.List.{take-map, length-map, take_all}
use Rattle.std.proofs.lemmas.Slice.Eq.{bytes_eq-Decides}
use Rattle.std.proofs.lemmas.Bool.{cond_both}
use Rattle.std.proofs.lemmas.Bool.Decides.{eqb_tells}
use Rattle.lru.specs.LruCache.{LruCache, lru_cache, promoted, put_entries}
use Rattle.lru.proofs.CallerLemmas.{Contains-lookup_entry}
use Rattle.dns_message.specs.declared.question.Question.{Question}
use Rattle.answer_cache.specs.Key.{key_of}
use Rattle.upstream_link.specs.Vouched.{PlainLearned, life}
use Rattle.answer_cache.specs.Recent.{is_about, recent, without, after_look_up, put_first, after_keep}
use Rattle.answer_cache.specs.Keyed.{IsKeyed, has}

abbrev pub Pair : Type 0
Pair = Vec ℕ × PlainLearned

abbrev HasKey : Pair → Type 0
HasKey e = e.0.items ≡ key_of e.1.question

through : {A B : Type 0} (f : A → B) (b : Bool) (x y : A) → f (cond b x y) ≡ cond b (f x) (f y)
through f true x y = refl
through f false x y = refl

IsKeyed-take : (n : ℕ) (es : List Pair) → IsKeyed es → IsKeyed (take n es)
IsKeyed-take zero es h = tt
IsKeyed-take (suc n) [] h = tt
IsKeyed-take (suc n) (e ∷ es) h = (h.0, IsKeyed-take n es h.1)

module _ (test : Vec ℕ → Bool) where
  IsKeyed-without : (es : List Pair) → IsKeyed es → IsKeyed (remove_entry test es)
  IsKeyed-without [] h = h
  IsKeyed-without (e ∷ es) h = cond_both (test e.0) es (e ∷ remove_entry test es) IsKeyed (λ _. h.1) (λ _. (h.0, IsKeyed-without es h.1))

  looked : (es : List Pair) → IsKeyed es → IfSome (lookup_entry test es) HasKey
  looked [] h = tt
  looked (e ∷ es) h = cond_both (test e.0) (Some e) (lookup_entry test es) (λ o. IfSome o HasKey) (λ _. h.0) (λ _. looked es h.1)

  front : (o : Option Pair) (rest es : List Pair) → IfSome o HasKey → IsKeyed rest → IsKeyed es → IsKeyed (option_map_or (λ f. f ∷ rest) o es)
  front None rest es h hr hs = hs
  front (Some f) rest es h hr hs = (h, hr)

  pub IsKeyed-promoted : (es : List Pair) → IsKeyed es → IsKeyed (promoted test es)
  IsKeyed-promoted es h = front (lookup_entry test es) (remove_entry test es) es (looked es h) (IsKeyed-without es h) h

  -- what is left where nothing was found, and where something was
  abbrev Taken : Option Pair → List Pair → List Pair → Type 0
  Taken None rest es = rest ≡ es
  Taken (Some f) rest es = suc (length rest) ≡ length es

  taken-cond : (b : Bool) (e : Pair) (o : Option Pair) (es rest : List Pair) → Taken o rest es → Taken (cond b (Some e) o) (cond b es (e ∷ rest)) (e ∷ es)
  taken-cond true e o es rest h = refl
  taken-cond false e None es rest h = ap (λ l. e ∷ l) h
  taken-cond false e (Some f) es rest h = ap suc h

  taken : (es : List Pair) → Taken (lookup_entry test es) (remove_entry test es) es
  taken [] = refl
  taken (e ∷ es) = taken-cond (test e.0) e (lookup_entry test es) es (remove_entry test es) (taken es)

-- the test is that of a question's key: the map's words are those of the list
module _ (question : Question) where
  abbrev test : Vec ℕ → Bool
  test = has (key_of question)

  abbrev value : Option Pair → Option PlainLearned
  value = option_map (λ e. e.1)

  find-values : (es : List Pair) → IsKeyed es → find (is_about question) (values_of es) ≡ value (lookup_entry test es)
  find-values [] h = refl
  find-values (e ∷ es) h =
      ap (λ o. cond (is_about question e.1) (Some e.1) o) (find-values es h.1)
      ∙ ap (λ (key : List ℕ). cond (bytes_eq (key_of question) key) (Some e.1) (value (lookup_entry test es))) (sym h.0)
      ∙ sym (through value (test e.0) (Some e) (lookup_entry test es))

  value-lookup : (es : List Pair) → lookup test es ≡ value (lookup_entry test es)
  value-lookup [] = refl
  value-lookup (e ∷ es) = ap (λ o. cond (test e.0) (Some e.1) o) (value-lookup es) ∙ sym (through value (test e.0) (Some e) (lookup_entry test es))

  pub found-in_values : (es : List Pair) → IsKeyed es → lookup test es ≡ find (is_about question) (values_of es)
  found-in_values es h = value-lookup es ∙ sym (find-values es h)

  values-without : (es : List Pair) → IsKeyed es → values_of (remove_entry test es) ≡ without question (values_of es)
  values-without [] h = refl
  values-without (e ∷ es) h =
      through values_of (test e.0) es (e ∷ remove_entry test es)
      ∙ ap (λ (key : List ℕ). cond (bytes_eq (key_of question) key) (values_of es) (e.1 ∷ values_of (remove_entry test es))) h.0
      ∙ ap (λ rest. cond (is_about question e.1) (values_of es) (e.1 ∷ rest)) (values-without es h.1)

  front_values : (o : Option Pair) (rest es : List Pair) → values_of (option_map_or (λ f. f ∷ rest) o es) ≡ option_map_or (λ entry. entry ∷ values_of rest) (value o) (values_of es)
  front_values None rest es = refl
  front_values (Some f) rest es = refl

  pub values-promoted : (es : List Pair) → IsKeyed es → values_of (promoted test es) ≡ after_look_up question (values_of es)
  values-promoted es h =
      front_values (lookup_entry test es) (remove_entry test es) es
      ∙ ap (λ rest. option_map_or (λ entry. entry ∷ rest) (value (lookup_entry test es)) (values_of es)) (values-without es h)
      ∙ ap (λ o. option_map_or (λ entry. entry ∷ without question (values_of es)) o (values_of es)) (sym (find-values es h))

module _ (key : Vec ℕ) (entry : PlainLearned) (is_key : key.items ≡ key_of entry.question) where
  abbrev there : Vec ℕ → Bool
  there = has key.items

  -- the key that passes the test is the same bytes
  passes : (es : List Pair) (o : Option Pair) → lookup_entry there es ≡ o → IfSome o (λ f. f.0.items ≡ key_of entry.question)
  passes es None is = tt
  passes es (Some f) is = sym ((bytes_eq-Decides key.items f.0.items).0 (Contains-lookup_entry there es f is).1) ∙ is_key

  abbrev after : ℕ → Option Pair → List Pair → List Pair → List Pair
  after cap o rest es = option_map_or (λ e. (e.0, entry) ∷ rest) o ((key, entry) ∷ take (cap - 1) es)

  keyed-after : (cap : ℕ) (o : Option Pair) (rest es : List Pair) → IfSome o (λ f. f.0.items ≡ key_of entry.question) → IsKeyed rest → IsKeyed es → IsKeyed (after cap o rest es)
  keyed-after cap None rest es h hr hs = (is_key, IsKeyed-take (cap - 1) es hs)
  keyed-after cap (Some f) rest es h hr hs = (h, hr)

  first_of : (n : ℕ) (rest : List PlainLearned) → 0 < n → entry ∷ take (n - 1) rest ≡ take n (entry ∷ rest)
  first_of zero rest h = absurd (omega arith)
  first_of (suc n) rest h = ap (λ (k : ℕ). entry ∷ take k rest) (omega arith)

  values-after : (cap : ℕ) (o : Option Pair) (rest es : List Pair) → Taken there o rest es → length es ≤ cap → 0 < cap → values_of (after cap o rest es) ≡ take cap (entry ∷ values_of rest)
  values-after cap None rest es same within room =
      ap (λ l. entry ∷ l) (sym (take-map (λ (e : Pair). e.1) (cap - 1) es))
      ∙ ap (λ (l : List Pair). entry ∷ take (cap - 1) (values_of l)) (sym same)
      ∙ first_of cap (values_of rest) room
  values-after cap (Some f) rest es shorter within room =
      sym (take_all cap (entry ∷ values_of rest) (rw (length-map rest (λ (e : Pair). e.1)) (omega arith)))

  pub IsKeyed-put : (c : LruCache (Vec ℕ) PlainLearned) → IsKeyed c.entries → IsKeyed (put_entries (λ x y. bytes_eq x.items y.items) c key entry)
  IsKeyed-put c h = keyed-after c.cap (lookup_entry there c.entries) (remove_entry there c.entries) c.entries (passes c.entries (lookup_entry there c.entries) refl) (IsKeyed-without there c.entries h) h

  pub values-put : (c : LruCache (Vec ℕ) PlainLearned) → IsKeyed c.entries → length c.entries ≤ c.cap → 0 < c.cap → values_of (put_entries (λ x y. bytes_eq x.items y.items) c key entry) ≡ put_first c.cap entry (values_of c.entries)
  values-put c h within room =
      values-after c.cap (lookup_entry there c.entries) (remove_entry there c.entries) c.entries (taken there c.entries) within room
      ∙ ap (λ (k : List ℕ). take c.cap (entry ∷ values_of (remove_entry (has k) c.entries))) is_key
      ∙ ap (λ l. take c.cap (entry ∷ l)) (values-without entry.question c.entries h)

pub kept-is_put : (limit : ℕ) (entry : PlainLearned) (entries : List PlainLearned) → (life entry ≡ 0 → ⊥) → after_keep limit entry entries ≡ put_first limit entry entries
kept-is_put limit entry entries h =
    let other : (life entry == 0) ≡ false = elim (eqb_tells (life entry) 0) [ inl same ↦ absurd (h same.1) | inr differs ↦ differs.0 ] in
    ap (λ b. cond b entries (put_first limit entry entries)) other

-- ---- what a push leaves, be there memory or not

abbrev Map : Type 0
Map = LruCache (Vec ℕ) PlainLearned

abbrev pushed : Map → Vec ℕ → PlainLearned → Map
pushed map key entry = lru_cache (put_entries (λ x y. bytes_eq x.items y.items) map key entry) map.cap

pub IsKeyed-pushed : {A E : Type 0} (key : Vec ℕ) (entry : PlainLearned) → key.items ≡ key_of entry.question → (r : Result A E) (old new : Map) → OnOk r (new ≡ pushed old key entry) → OnErr r (new ≡ old) → IsKeyed old.entries → IsKeyed new.entries
IsKeyed-pushed key entry is_key (Ok x) old new ok err h = subst (λ (c : Map). IsKeyed c.entries) (sym ok) (IsKeyed-put key entry is_key old h)
IsKeyed-pushed key entry is_key (Err e) old new ok err h = subst (λ (c : Map). IsKeyed c.entries) (sym err) h

pub values-pushed : {A E : Type 0} (key : Vec ℕ) (entry : PlainLearned) → key.items ≡ key_of entry.question → (r : Result A E) (old new : Map) → OnOk r (new ≡ pushed old key entry) → IsKeyed old.entries → length old.entries ≤ old.cap → 0 < old.cap → (life entry ≡ 0 → ⊥)
    → OnOk r (recent (values_of new.entries) new.cap ≡ recent (after_keep old.cap entry (values_of old.entries)) old.cap)
values-pushed key entry is_key (Ok x) old new ok h within room lasts =
    ap (λ (c : Map). recent (values_of c.entries) c.cap) ok
    ∙ ap (λ es. recent es old.cap) (values-put key entry is_key old h within room ∙ sym (kept-is_put old.cap entry (values_of old.entries) lasts))
values-pushed key entry is_key (Err e) old new ok h within room lasts = tt
