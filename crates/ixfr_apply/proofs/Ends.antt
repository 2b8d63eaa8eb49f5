-- The first item that ends a transfer.
use Rattle.std.proofs.Common.{◌≡◌, List, [], ◌∷◌, ◌++◌, Option, Some, None, refl, sym, ap, ◌∙◌, append_assoc, append-nil}
use Rattle.std.specs.Option.{option_or}
use Rattle.axfr_apply.specs.declared.transfer_request.TransferRequest.{TransferRequest}
use Rattle.axfr_apply.specs.Item.{TransferItem}
use Rattle.axfr_apply.specs.Reading.{End, end_by, first_end}

or_none : (x : Option End) → option_or x None ≡ x
or_none None = refl
or_none (Some x) = refl

or_or : (x y z : Option End) → option_or x (option_or y z) ≡ option_or (option_or x y) z
or_or None y z = refl
or_or (Some x) y z = refl

-- one item
pub first_end-one : (asked : TransferRequest) (before : List TransferItem) (it : TransferItem) → first_end asked before (it ∷ []) ≡ end_by asked before it
unfolding first_end
first_end-one asked before it = or_none (end_by asked before it)

-- items in two parts
pub first_end-append : (asked : TransferRequest) (before xs ys : List TransferItem) → first_end asked before (xs ++ ys) ≡ option_or (first_end asked before xs) (first_end asked (before ++ xs) ys)
unfolding first_end
first_end-append asked before [] ys = ap (λ (l : List TransferItem). first_end asked l ys) (sym (append-nil before))
first_end-append asked before (it ∷ xs) ys =
    ap (option_or (end_by asked before it)) (first_end-append asked (before ++ it ∷ []) xs ys
    ∙ ap (λ (l : List TransferItem). option_or (first_end asked (before ++ it ∷ []) xs) (first_end asked l ys)) (append_assoc before (it ∷ []) xs))
    ∙ or_or (end_by asked before it) (first_end asked (before ++ it ∷ []) xs) (first_end asked (before ++ (it ∷ xs)) ys)

-- behind items that don't end it
pub first_end-behind : (asked : TransferRequest) (its more : List TransferItem) → first_end asked [] its ≡ None → first_end asked [] (its ++ more) ≡ first_end asked its more
first_end-behind asked its more e = first_end-append asked [] its more ∙ ap (λ (x : Option End). option_or x (first_end asked its more)) e
