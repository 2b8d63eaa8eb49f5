-- Entries in the order of keys, some of them before a place and some behind it.
use Rattle.std.proofs.Common.{◌≡◌, Bool, true, false, cond, List, [], ◌∷◌, ◌++◌, refl, ap, ◌∙◌, is_eq}
use Rattle.std.specs.BTreeMap.{insert_entry, is_at}
use Rattle.std.specs.List.{AllByRecursion}
use Rattle.std.specs.Map.{remove_entry}
use Rattle.std.specs.Ordering.{match_ordering}
use Rattle.std.specs.declared.cmp.Ordering.{Ordering}
use Rattle.std.specs.declared.cmp.Ordering.TheVariants.{Less, Equal, Greater}

module _ {X : Type 0} where
  pub all_append : (P : X → Type 0) (xs ys : List X) → AllByRecursion P xs → AllByRecursion P ys → AllByRecursion P (xs ++ ys)
  all_append P [] ys a b = b
  all_append P (x ∷ xs) ys a b = (a.0, all_append P xs ys a.1 b)

  pub all_first : (P : X → Type 0) (xs ys : List X) → AllByRecursion P (xs ++ ys) → AllByRecursion P xs
  all_first P [] ys a = tt
  all_first P (x ∷ xs) ys a = (a.0, all_first P xs ys a.1)

  pub all_second : (P : X → Type 0) (xs ys : List X) → AllByRecursion P (xs ++ ys) → AllByRecursion P ys
  all_second P [] ys a = a
  all_second P (x ∷ xs) ys a = all_second P xs ys a.1

  pub all_map : (P Q : X → Type 0) (xs : List X) → ((x : X) → P x → Q x) → AllByRecursion P xs → AllByRecursion Q xs
  all_map P Q [] f a = tt
  all_map P Q (x ∷ xs) f a = (f x a.0, all_map P Q xs f a.1)

module _ {K V : Type 0} (order : K → K → Ordering) where
  -- the key comes before all, or behind all
  abbrev pub Before : K → List (K × V) → Type 0
  Before k es = AllByRecursion (λ e. order k e.0 ≡ Less) es

  abbrev pub Behind : K → List (K × V) → Type 0
  Behind k es = AllByRecursion (λ e. order k e.0 ≡ Greater) es

  -- ---- insertion

  pub insert_before : (k : K) (v : V) (es : List (K × V)) → Before k es → insert_entry order es k v ≡ (k, v) ∷ es
  insert_before k v [] before = refl
  insert_before k v (e ∷ es) before = ap (λ o. match_ordering o ((k, v) ∷ e ∷ es) ((e.0, v) ∷ es) (e ∷ insert_entry order es k v)) before.0

  pub insert_behind : (k : K) (v : V) (es more : List (K × V)) → Behind k es → insert_entry order (es ++ more) k v ≡ es ++ insert_entry order more k v
  insert_behind k v [] more behind = refl
  insert_behind k v (e ∷ es) more behind =
      ap (λ o. match_ordering o ((k, v) ∷ e ∷ (es ++ more)) ((e.0, v) ∷ (es ++ more)) (e ∷ insert_entry order (es ++ more) k v)) behind.0
      ∙ ap (λ xs. e ∷ xs) (insert_behind k v es more behind.1)

  match_append : (o : Ordering) (a b c more : List (K × V)) → match_ordering o (a ++ more) (b ++ more) (c ++ more) ≡ match_ordering o a b c ++ more
  match_append Less a b c more = refl
  match_append Equal a b c more = refl
  match_append Greater a b c more = refl

  pub insert_first : (k : K) (v : V) (es more : List (K × V)) → Before k more → insert_entry order (es ++ more) k v ≡ insert_entry order es k v ++ more
  insert_first k v [] more before = insert_before k v more before
  insert_first k v (e ∷ es) more before =
      ap (λ xs. match_ordering (order k e.0) ((k, v) ∷ e ∷ (es ++ more)) ((e.0, v) ∷ (es ++ more)) (e ∷ xs)) (insert_first k v es more before)
      ∙ match_append (order k e.0) ((k, v) ∷ e ∷ es) ((e.0, v) ∷ es) (e ∷ insert_entry order es k v) more

  pick : (P : K × V → Type 0) (o : Ordering) (xs ys zs : List (K × V)) → AllByRecursion P xs → AllByRecursion P ys → AllByRecursion P zs → AllByRecursion P (match_ordering o xs ys zs)
  pick P Less xs ys zs p q r = p
  pick P Equal xs ys zs p q r = q
  pick P Greater xs ys zs p q r = r

  -- what is so of the key and of the keys before is so of all keys afterwards
  pub all_inserted : (P : K → Type 0) (k : K) (v : V) (es : List (K × V)) → P k → AllByRecursion (λ e. P e.0) es → AllByRecursion (λ e. P e.0) (insert_entry order es k v)
  all_inserted P k v [] here all = (here, tt)
  all_inserted P k v (e ∷ es) here all =
      pick (λ e. P e.0) (order k e.0) ((k, v) ∷ e ∷ es) ((e.0, v) ∷ es) (e ∷ insert_entry order es k v)
      (here, all) (all.0, all.1) (all.0, all_inserted P k v es here all.1)

  -- ---- removal

  pub remove_none_before : (k : K) (es : List (K × V)) → Before k es → remove_entry (is_at (order k)) es ≡ es
  remove_none_before k [] before = refl
  remove_none_before k (e ∷ es) before =
      ap (λ o. cond (is_eq o) es (e ∷ remove_entry (is_at (order k)) es)) before.0
      ∙ ap (λ xs. e ∷ xs) (remove_none_before k es before.1)

  pub remove_behind : (k : K) (es more : List (K × V)) → Behind k es → remove_entry (is_at (order k)) (es ++ more) ≡ es ++ remove_entry (is_at (order k)) more
  remove_behind k [] more behind = refl
  remove_behind k (e ∷ es) more behind =
      ap (λ o. cond (is_eq o) (es ++ more) (e ∷ remove_entry (is_at (order k)) (es ++ more))) behind.0
      ∙ ap (λ xs. e ∷ xs) (remove_behind k es more behind.1)

  remove_pick : (b : Bool) (e : K × V) (xs ys zs : List (K × V)) → xs ≡ ys ++ zs → cond b xs (e ∷ xs) ≡ cond b ys (e ∷ ys) ++ zs
  remove_pick true e xs ys zs h = h
  remove_pick false e xs ys zs h = ap (λ s. e ∷ s) h

  remove_step : (b : Bool) (e : K × V) (es more rest : List (K × V)) → cond b (es ++ more) (e ∷ (rest ++ more)) ≡ cond b es (e ∷ rest) ++ more
  remove_step true e es more rest = refl
  remove_step false e es more rest = refl

  pub remove_first : (k : K) (es more : List (K × V)) → Before k more → remove_entry (is_at (order k)) (es ++ more) ≡ remove_entry (is_at (order k)) es ++ more
  remove_first k [] more before = remove_none_before k more before
  remove_first k (e ∷ es) more before =
      ap (λ xs. cond (is_eq (order k e.0)) (es ++ more) (e ∷ xs)) (remove_first k es more before)
      ∙ remove_step (is_eq (order k e.0)) e es more (remove_entry (is_at (order k)) es)

  keep_all : (P : K × V → Type 0) (b : Bool) (xs ys : List (K × V)) → AllByRecursion P xs → AllByRecursion P ys → AllByRecursion P (cond b xs ys)
  keep_all P true xs ys p q = p
  keep_all P false xs ys p q = q

  pub all_removed : (P : K × V → Type 0) (test : K → Bool) (es : List (K × V)) → AllByRecursion P es → AllByRecursion P (remove_entry test es)
  all_removed P test [] all = tt
  all_removed P test (e ∷ es) all = keep_all P (test e.0) es (e ∷ remove_entry test es) all.1 (all.0, all_removed P test es all.1)

  absent : (o : Ordering) (e : K × V) (es rest : List (K × V)) → (o ≡ Equal → ⊥) → rest ≡ es → cond (is_eq o) es (e ∷ rest) ≡ e ∷ es
  absent Less e es rest h s = ap (λ xs. e ∷ xs) s
  absent Equal e es rest h s = absurd (h refl)
  absent Greater e es rest h s = ap (λ xs. e ∷ xs) s

  -- no key is the one
  pub remove_absent : (k : K) (es : List (K × V)) → AllByRecursion (λ e. order k e.0 ≡ Equal → ⊥) es → remove_entry (is_at (order k)) es ≡ es
  remove_absent k [] none = refl
  remove_absent k (e ∷ es) none = absent (order k e.0) e es (remove_entry (is_at (order k)) es) none.0 (remove_absent k es none.1)
