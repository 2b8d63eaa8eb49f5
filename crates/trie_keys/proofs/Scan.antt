-- What the last entry that passes is, among entries of which some come behind others.
use Rattle.std.proofs.Common.{◌≡◌, Bool, true, false, cond, ◌||◌, List, [], ◌∷◌, ◌++◌, Option, Some, None, is_some, refl, sym, ap, ◌∙◌}
use Rattle.std.specs.List.{AllByRecursion, list_any}
use Rattle.trie_keys.specs.Scan.{option_else, last_where}

module _ {X : Type 0} where
  pub else_none : (o : Option X) → option_else o None ≡ o
  else_none None = refl
  else_none (Some x) = refl

  pub else_assoc : (a b c : Option X) → option_else (option_else a b) c ≡ option_else a (option_else b c)
  else_assoc None b c = refl
  else_assoc (Some x) b c = refl

  pub some_else : (a b : Option X) → is_some (option_else a b) ≡ (is_some a || is_some b)
  some_else None b = refl
  some_else (Some x) b = refl

  or_later : (b : Bool) (o : Option X) (e : X) (rest : Bool) → rest ≡ is_some o → (b || rest) ≡ is_some (option_else o (cond b (Some e) None))
  or_later true None e rest h = refl
  or_later true (Some x) e rest h = refl
  or_later false None e rest h = h
  or_later false (Some x) e rest h = h

module _ {X : Type 0} (test : X → Bool) where
  pub last_append : (xs ys : List X) → last_where test (xs ++ ys) ≡ option_else (last_where test ys) (last_where test xs)
  last_append [] ys = sym (else_none (last_where test ys))
  last_append (x ∷ xs) ys =
      ap (λ o. option_else o (cond (test x) (Some x) None)) (last_append xs ys)
      ∙ else_assoc (last_where test ys) (last_where test xs) (cond (test x) (Some x) None)

  pub last_none : (es : List X) → AllByRecursion (λ e. test e ≡ false) es → last_where test es ≡ None
  last_none [] all = refl
  last_none (e ∷ es) all = ap (λ o. option_else o (cond (test e) (Some e) None)) (last_none es all.1) ∙ ap (λ b. cond b (Some e) None) all.0

  -- some entry passes where there is a last one that does
  pub any_last : (es : List X) → list_any test es ≡ is_some (last_where test es)
  any_last [] = refl
  any_last (e ∷ es) = or_later (test e) (last_where test es) e (list_any test es) (any_last es)
