-- What the rows of a place do, and the place with them.
use Rattle.std.proofs.Common.{◌≡◌, ◌≢◌, ℕ, Bool, true, false, ◌<◌, ◌≤◌, List, [], ◌∷◌, length, map, slice_index_or, Option, Some, None, refl, sym, ap, ◌∙◌, arith, true≢false}
use Rattle.std.specs.Prelude.{◌==◌, ◌&&◌, codes, if◌then◌else◌}
use Rattle.std.proofs.lemmas.Bool.{eq-eqb, ne_eqb}
use Rattle.action_codec.specs.Action.{cname_action, is_cname, is_own_name, is_reserved_name, local_alone, one_action, own_pattern, points_to}
use Rattle.action_codec.specs.declared.action.Action.{Action}
use Rattle.action_codec.specs.declared.action.Action.TheVariants.{NxDomain as NxDomainAction, NoData as NoDataAction, PassThru as PassThruAction, Drop as DropAction, TcpOnly as TcpOnlyAction}
use Rattle.dns_name.specs.Alike.{PlainPattern}
use Rattle.dns_record.specs.Row.{PlainRow}
use Rattle.packed_lists.specs.Stored.{PlainStored, row_of_number}
use Rattle.trigger_codec.specs.declared.trigger.Trigger.{Trigger}
use Rattle.zone_index.specs.Places.{PlainPlaces, with_entry, without_entry}
use Rattle.zone_index.specs.declared.does.Does.{Does}
use Rattle.zone_index.specs.declared.does.Does.TheVariants.{Nothing, NxDomain}
use Rattle.zone_index.specs.declared.place.Place.{Place}
use Rattle.zone_index.specs.declared.place.Place.TheVariants.{Rule, Other}
use Rattle.zone_rows.specs.Stored.{plain_row}
use Rattle.zone_index.specs.Placed.{does_for, entry_for, is_root_row, one_does, place_action, put_at, rows_by, several_do, with_found}

pub is_nothing : (l : List ℕ) (b : Bool) → b ≡ (length l == 0) → b ≡ true → l ≡ []
is_nothing [] b e h = refl
is_nothing (x ∷ l) b e h = absurd (true≢false (sym h ∙ e ∙ ne_eqb (length (x ∷ l)) 0 (λ k. omega (arith, k))))

pub is_something : (l : List ℕ) (b : Bool) → b ≡ (length l == 0) → b ≡ false → l ≢ []
is_something [] b e h = λ _. true≢false (sym e ∙ h)
is_something (x ∷ l) b e h = λ k. cc k

nothing_done : (place : Place) → several_do (place_action place []) ≡ Nothing
nothing_done (Rule t) = refl
nothing_done (Other p) = refl

module _ (place : Place) (count : ℕ) (does : Does) (action : Option Action) (is_does : does ≡ (if count == 1 then one_does action else several_do action)) where
  by_count : (b : Bool) → (count == 1) ≡ b → does ≡ (if b then one_does action else several_do action)
  by_count b e = is_does ∙ ap (λ (b : Bool). if b then one_does action else several_do action) e

  pub does_made : (rows : List PlainStored) → count ≡ length (map plain_row rows) → action ≡ place_action place (map plain_row rows) → does ≡ does_for place rows
  does_made [] e a = by_count false (ne_eqb count 1 (λ k. omega (arith, e, k))) ∙ ap several_do a ∙ nothing_done place
  does_made (s ∷ []) e a = by_count true (eq-eqb count 1 e) ∙ ap one_does a
  does_made (s ∷ other ∷ rows) e a = by_count false (ne_eqb count 1 (λ k. omega (arith, e, k))) ∙ ap several_do a

module _ (places : PlainPlaces) (place : Place) where
  pub none_put : (rows : List PlainStored) → rows ≡ [] → without_entry places place ≡ put_at places place (entry_for place rows)
  none_put rows e = sym (ap (λ (l : List PlainStored). put_at places place (entry_for place l)) e)

  pub some_put : (numbers : List ℕ) (does : Does) (rows : List PlainStored) → numbers ≢ [] → numbers ≡ map (λ s. s.number) rows → does ≡ does_for place rows
      → with_entry places place (record { numbers = numbers; does = does }) ≡ put_at places place (entry_for place rows)
  some_put numbers does [] some n d = absurd (some n)
  some_put numbers does (s ∷ rows) some n d = λ i. with_entry places place (record { numbers = n i; does = d i })

-- ---- a row alone that is a CNAME to the root

found_alone : (n : ℕ) (rows : List PlainStored) (s : PlainStored) → row_of_number n rows ≡ Some s → rows_by (n ∷ []) rows ≡ s ∷ []
found_alone n rows s found = ap (λ (o : Option PlainStored). with_found o []) found

both_true : (a b : Bool) → (a && b) ≡ true → (a ≡ true) × (b ≡ true)
both_true true true h = (refl, refl)
both_true true false h = cc h
both_true false b h = cc h

root_action : (own : Option PlainPattern) (row : PlainRow) → is_cname row ≡ true → points_to row.rdata [] ≡ true → one_action own row ≡ Some NxDomainAction
unfolding cname_action
root_action own row cname root =
    ap (λ (b : Bool). if b then cname_action own row else local_alone row) cname
    ∙ ap (λ (b : Bool). if b then Some NxDomainAction
    else (if points_to row.rdata (codes "*" ∷ []) then Some NoDataAction
    else (if points_to row.rdata (codes "rpz-passthru" ∷ []) then Some PassThruAction
    else (if points_to row.rdata (codes "rpz-drop" ∷ []) then Some DropAction
    else (if points_to row.rdata (codes "rpz-tcp-only" ∷ []) then Some TcpOnlyAction
    else (if is_reserved_name row.rdata then None
    else (if is_own_name own row.rdata then Some PassThruAction
    else local_alone row))))))) root

module _ (n : ℕ) (rows : List PlainStored) (s : PlainStored) (found : row_of_number n rows ≡ Some s) (root : is_root_row s ≡ true) where
  pub rule_done : (t : Trigger) → NxDomain ≡ does_for (Rule t) (rows_by (n ∷ []) rows)
  rule_done t =
      let both = both_true (is_cname (plain_row s)) (points_to s.rdata []) root in
      sym (ap (does_for (Rule t)) (found_alone n rows s found) ∙ ap one_does (root_action (own_pattern t) (plain_row s) both.0 both.1))

  pub other_done : (pattern : PlainPattern) → Nothing ≡ does_for (Other pattern) (rows_by (n ∷ []) rows)
  other_done pattern = sym (ap (does_for (Other pattern)) (found_alone n rows s found))

pub one_number : (numbers : List ℕ) → 1 ≤ length numbers → length numbers < 2 → numbers ≡ slice_index_or numbers 0 0 ∷ []
one_number [] some few = absurd (omega (arith, some))
one_number (n ∷ []) some few = refl
one_number (n ∷ m ∷ numbers) some few = absurd (omega (arith, few))

module _ (n : ℕ) (numbers : List ℕ) (one : numbers ≡ n ∷ []) (rows : List PlainStored) (s : PlainStored) (found : row_of_number n rows ≡ Some s) (root : is_root_row s ≡ true) (place : Place) where
  pub rule_does : (t : Trigger) → place ≡ Rule t → NxDomain ≡ does_for place (rows_by numbers rows)
  rule_does t e = rule_done n rows s found root t ∙ sym (λ i. does_for (e i) (rows_by (one i) rows))

  pub other_does : (pattern : PlainPattern) → place ≡ Other pattern → Nothing ≡ does_for place (rows_by numbers rows)
  other_does pattern e = other_done n rows s found root pattern ∙ sym (λ i. does_for (e i) (rows_by (one i) rows))
