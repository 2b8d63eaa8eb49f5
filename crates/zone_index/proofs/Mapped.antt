-- Entries with other values at the same keys.
use Rattle.std.proofs.Common.{◌≡◌, Bool, true, false, cond, ◌||◌, List, [], ◌∷◌, map, Option, Some, refl, ap, ◌∙◌, IfSome}
use Rattle.std.specs.BTreeMap.{insert_entry}
use Rattle.std.specs.List.{AllByRecursion, find, list_any}
use Rattle.std.specs.Map.{keys_of, lookup, remove_entry}
use Rattle.std.specs.Option.{option_map}
use Rattle.std.specs.Ordering.{match_ordering}
use Rattle.std.specs.declared.cmp.Ordering.{Ordering}
use Rattle.std.specs.declared.cmp.Ordering.TheVariants.{Less, Equal, Greater}

look_by : {V W : Type 0} (f : V → W) (b : Bool) (v : V) (rest : Option V) (other : Option W) → other ≡ option_map f rest → cond b (Some (f v)) other ≡ option_map f (cond b (Some v) rest)
look_by f true v rest other h = refl
look_by f false v rest other h = h

first_by : {X : Type 0} (P : X → Type 0) (b : Bool) (x : X) (rest : Option X) → P x → IfSome rest P → IfSome (cond b (Some x) rest) P
first_by P true x rest here h = here
first_by P false x rest here h = h

module _ {K V W : Type 0} (f : V → W) where
  -- the entry with the other value
  abbrev pub moved : K × V → K × W
  moved e = (e.0, f e.1)

  abbrev pub all_moved : List (K × V) → List (K × W)
  all_moved es = map (λ e. (e.0, f e.1)) es

  pub keys_moved : (es : List (K × V)) → keys_of (all_moved es) ≡ keys_of es
  keys_moved [] = refl
  keys_moved (e ∷ es) = ap (λ ks. e.0 ∷ ks) (keys_moved es)

  pub lookup_moved : (test : K → Bool) (es : List (K × V)) → lookup test (all_moved es) ≡ option_map f (lookup test es)
  lookup_moved test [] = refl
  lookup_moved test (e ∷ es) = look_by f (test e.0) e.1 (lookup test es) (lookup test (all_moved es)) (lookup_moved test es)

  match_moved : (o : Ordering) (a b c : List (K × V)) → all_moved (match_ordering o a b c) ≡ match_ordering o (all_moved a) (all_moved b) (all_moved c)
  match_moved Less a b c = refl
  match_moved Equal a b c = refl
  match_moved Greater a b c = refl

  pub insert_moved : (order : K → K → Ordering) (k : K) (v : V) (es : List (K × V)) → all_moved (insert_entry order es k v) ≡ insert_entry order (all_moved es) k (f v)
  insert_moved order k v [] = refl
  insert_moved order k v (e ∷ es) =
      match_moved (order k e.0) ((k, v) ∷ e ∷ es) ((e.0, v) ∷ es) (e ∷ insert_entry order es k v)
      ∙ ap (λ rest. match_ordering (order k e.0) ((k, f v) ∷ moved e ∷ all_moved es) ((e.0, f v) ∷ all_moved es) (moved e ∷ rest)) (insert_moved order k v es)

  cond_moved : (b : Bool) (e : K × V) (es rest : List (K × V)) → all_moved (cond b es (e ∷ rest)) ≡ cond b (all_moved es) (moved e ∷ all_moved rest)
  cond_moved true e es rest = refl
  cond_moved false e es rest = refl

  pub remove_moved : (test : K → Bool) (es : List (K × V)) → all_moved (remove_entry test es) ≡ remove_entry test (all_moved es)
  remove_moved test [] = refl
  remove_moved test (e ∷ es) =
      cond_moved (test e.0) e es (remove_entry test es)
      ∙ ap (λ rest. cond (test e.0) (all_moved es) (moved e ∷ rest)) (remove_moved test es)

  find_by : (b : Bool) (e : K × V) (rest : Option (K × V)) (other : Option (K × W)) → other ≡ option_map moved rest → cond b (Some (moved e)) other ≡ option_map moved (cond b (Some e) rest)
  find_by true e rest other h = refl
  find_by false e rest other h = h

  module _ (p : K × V → Bool) (q : K × W → Bool) where
    -- the two tests answer alike
    abbrev pub AreAlike : List (K × V) → Type 0
    AreAlike es = AllByRecursion (λ e. q (e.0, f e.1) ≡ p e) es

    pub find_moved : (es : List (K × V)) → AreAlike es → find q (all_moved es) ≡ option_map moved (find p es)
    find_moved [] all = refl
    find_moved (e ∷ es) all =
        ap (λ b. cond b (Some (moved e)) (find q (all_moved es))) all.0
        ∙ find_by (p e) e (find p es) (find q (all_moved es)) (find_moved es all.1)

    pub any_moved : (es : List (K × V)) → AreAlike es → list_any q (all_moved es) ≡ list_any p es
    any_moved [] all = refl
    any_moved (e ∷ es) all = (λ i. all.0 i || any_moved es all.1 i)

module _ {K V : Type 0} (P : V → Type 0) where
  pick : (o : Ordering) (a b c : List (K × V)) → AllByRecursion (λ e. P e.1) a → AllByRecursion (λ e. P e.1) b → AllByRecursion (λ e. P e.1) c → AllByRecursion (λ e. P e.1) (match_ordering o a b c)
  pick Less a b c p q r = p
  pick Equal a b c p q r = q
  pick Greater a b c p q r = r

  -- what is so of each value, and of the new one, stays so
  pub values_inserted : (order : K → K → Ordering) (k : K) (v : V) (es : List (K × V)) → P v → AllByRecursion (λ e. P e.1) es → AllByRecursion (λ e. P e.1) (insert_entry order es k v)
  values_inserted order k v [] here all = (here, tt)
  values_inserted order k v (e ∷ es) here all =
      pick (order k e.0) ((k, v) ∷ e ∷ es) ((e.0, v) ∷ es) (e ∷ insert_entry order es k v)
      (here, all) (here, all.1) (all.0, values_inserted order k v es here all.1)

  keep_by : (b : Bool) (a c : List (K × V)) → AllByRecursion (λ e. P e.1) a → AllByRecursion (λ e. P e.1) c → AllByRecursion (λ e. P e.1) (cond b a c)
  keep_by true a c p q = p
  keep_by false a c p q = q

  pub values_removed : (test : K → Bool) (es : List (K × V)) → AllByRecursion (λ e. P e.1) es → AllByRecursion (λ e. P e.1) (remove_entry test es)
  values_removed test [] all = tt
  values_removed test (e ∷ es) all = keep_by (test e.0) es (e ∷ remove_entry test es) all.1 (all.0, values_removed test es all.1)

  -- what is so of each value is so of the one that is found
  pub value_found : (test : K → Bool) (es : List (K × V)) → AllByRecursion (λ e. P e.1) es → IfSome (lookup test es) P
  value_found test [] all = tt
  value_found test (e ∷ es) all = first_by P (test e.0) e.1 (lookup test es) all.0 (value_found test es all.1)

module _ {X : Type 0} (P : X → Type 0) where
  pub entry_found : (test : X → Bool) (xs : List X) → AllByRecursion P xs → IfSome (find test xs) P
  entry_found test [] all = tt
  entry_found test (x ∷ xs) all = first_by P (test x) x (find test xs) all.0 (entry_found test xs all.1)
