-- The groups and the rules of one kind of trigger, by key.
use Rattle.std.proofs.Common.{◌≡◌, Bool, true, false, cond, Option, Some, None, List, [], ◌∷◌, ◌++◌, refl, sym, ap, ◌∙◌, append-nil}
use Rattle.std.specs.Prelude.{fold}
use Rattle.std.specs.BTreeMap.{is_at}
use Rattle.std.specs.Cmp.{IsTotalOrder}
use Rattle.std.specs.List.{AllByRecursion}
use Rattle.std.specs.List.Sorted.{IsStrictlySortedBy}
use Rattle.std.specs.Map.{keys_of, lookup, remove_entry}
use Rattle.std.specs.declared.cmp.Ordering.{Ordering}
use Rattle.dns_name.specs.Alike.{PlainPattern}
use Rattle.dns_record.specs.Row.{PlainRow}
use Rattle.action_codec.specs.Action.{action_for}
use Rattle.action_codec.specs.declared.action.Action.{Action}
use Rattle.zone_index.specs.Rules.{rows_in, with_row, put_rule, with_rule}
use Rattle.trie_keys.proofs.ByKey.{lookup-same, lookup-insert_entry, lookup-remove_entry, ordered-insert, ordered-remove, apart_from, ordered-others}

-- the rows at the place of a key
abbrev pub rows_at : {K : Type 0} → (K → K → Ordering) → K → List (K × List PlainRow) → List PlainRow
rows_at order key groups = rows_in (lookup (is_at (order key)) groups)

module _ {K : Type 0} {R : K → K → Ordering} (o : IsTotalOrder R) where
  with_row_at : (b : Bool) (q k : K) (row : PlainRow) (groups : List (K × List PlainRow)) → is_at (R q) k ≡ b
      → rows_in (cond b (Some (rows_at R k groups ++ row ∷ [])) (lookup (is_at (R q)) (remove_entry (is_at (R k)) groups))) ≡ rows_at R q groups ++ cond b (row ∷ []) []
  with_row_at true q k row groups h = ap (λ (found : Option (List PlainRow)). rows_in found ++ row ∷ []) (sym (lookup-same o q k groups h))
  with_row_at false q k row groups h = ap rows_in (lookup-remove_entry o q k groups h) ∙ sym (append-nil (rows_at R q groups))

  -- a row that is put is the last of those at its place, and of no others
  pub rows_at-with_row : (q k : K) (row : PlainRow) (groups : List (K × List PlainRow)) → rows_at R q (with_row R groups k row) ≡ rows_at R q groups ++ cond (is_at (R q) k) (row ∷ []) []
  rows_at-with_row q k row groups =
      ap rows_in (lookup-insert_entry o q k (rows_at R k groups ++ row ∷ []) (remove_entry (is_at (R k)) groups))
      ∙ with_row_at (is_at (R q) k) q k row groups refl

  pub ordered-with_row : (k : K) (row : PlainRow) (groups : List (K × List PlainRow)) → IsStrictlySortedBy R (keys_of groups) → IsStrictlySortedBy R (keys_of (with_row R groups k row))
  ordered-with_row k row groups s = ordered-insert o k (rows_at R k groups ++ row ∷ []) (remove_entry (is_at (R k)) groups) (ordered-remove o (is_at (R k)) groups s)

  ordered-put_rule : (rules : List (K × Action)) (k : K) (a : Option Action) → IsStrictlySortedBy R (keys_of rules) → IsStrictlySortedBy R (keys_of (put_rule R rules k a))
  ordered-put_rule rules k None s = s
  ordered-put_rule rules k (Some action) s = ordered-insert o k action rules s

  pub ordered-rules : (own : K → Option PlainPattern) (rules : List (K × Action)) (groups : List (K × List PlainRow)) → IsStrictlySortedBy R (keys_of rules) → IsStrictlySortedBy R (keys_of (fold (with_rule R own) rules groups))
  ordered-rules own rules [] s = s
  ordered-rules own rules (g ∷ gs) s = ordered-rules own (with_rule R own rules g) gs (ordered-put_rule rules g.0 (action_for (own g.0) g.1) s)

  module _ (q : K) where
    -- a rule at another place
    put_apart : (rules : List (K × Action)) (k : K) (a : Option Action) → is_at (R q) k ≡ false → lookup (is_at (R q)) (put_rule R rules k a) ≡ lookup (is_at (R q)) rules
    put_apart rules k None other = refl
    put_apart rules k (Some action) other = lookup-insert_entry o q k action rules ∙ ap (λ (b : Bool). cond b (Some action) (lookup (is_at (R q)) rules)) other

    -- the first rule at this place
    put_here : (rules : List (K × Action)) (k : K) (a : Option Action) → is_at (R q) k ≡ true → lookup (is_at (R q)) rules ≡ None → lookup (is_at (R q)) (put_rule R rules k a) ≡ a
    put_here rules k None here none = none
    put_here rules k (Some action) here none = lookup-insert_entry o q k action rules ∙ ap (λ (b : Bool). cond b (Some action) (lookup (is_at (R q)) rules)) here

    module _ (own : K → Option PlainPattern) where
      rules_apart : (rules : List (K × Action)) (groups : List (K × List PlainRow)) → AllByRecursion (λ y. is_at (R q) y ≡ false) (keys_of groups)
          → lookup (is_at (R q)) (fold (with_rule R own) rules groups) ≡ lookup (is_at (R q)) rules
      rules_apart rules [] h = refl
      rules_apart rules (g ∷ gs) h = rules_apart (with_rule R own rules g) gs h.1 ∙ put_apart rules g.0 (action_for (own g.0) g.1) h.0

      module _ (same : (k : K) (rows : List PlainRow) → is_at (R q) k ≡ true → action_for (own k) rows ≡ action_for (own q) rows) where
        rules_found : (b : Bool) (rules : List (K × Action)) (g : K × List PlainRow) (gs : List (K × List PlainRow)) → is_at (R q) g.0 ≡ b
            → IsStrictlySortedBy R (keys_of (g ∷ gs)) → lookup (is_at (R q)) rules ≡ None
            → (lookup (is_at (R q)) (with_rule R own rules g) ≡ None → lookup (is_at (R q)) (fold (with_rule R own) (with_rule R own rules g) gs) ≡ action_for (own q) (rows_at R q gs))
            → lookup (is_at (R q)) (fold (with_rule R own) (with_rule R own rules g) gs) ≡ action_for (own q) (rows_in (cond b (Some g.1) (lookup (is_at (R q)) gs)))
        rules_found true rules g gs h s none others =
            rules_apart (with_rule R own rules g) gs (apart_from o q g gs h s)
            ∙ put_here rules g.0 (action_for (own g.0) g.1) h none
            ∙ same g.0 g.1 h
        rules_found false rules g gs h s none others = others (put_apart rules g.0 (action_for (own g.0) g.1) h ∙ none)

        -- what the rules do at a place is what the rows there do
        pub lookup-rules : (rules : List (K × Action)) (groups : List (K × List PlainRow)) → IsStrictlySortedBy R (keys_of groups) → lookup (is_at (R q)) rules ≡ None
            → lookup (is_at (R q)) (fold (with_rule R own) rules groups) ≡ action_for (own q) (rows_at R q groups)
        lookup-rules rules [] s none = none
        lookup-rules rules (g ∷ gs) s none = rules_found (is_at (R q) g.0) rules g gs refl s none (lookup-rules (with_rule R own rules g) gs (ordered-others o g gs s))
