-- What OPT records say, and the records beside them.
use Rattle.std.proofs.Common.{◌≡◌, ℕ, ◌+◌, ◌<◌, ◌≤◌, Bool, true, false, cond, List, [], ◌∷◌, length, map, get_or, drop, Option, Some, None, Result, Ok, Err, refl, sym, ap, ◌∙◌}
use Rattle.std.specs.List.{filter}
use Rattle.std.proofs.lemmas.List.{drop_more, drop_all}
use Rattle.dns_record.specs.Record.{PlainRecord}
use Rattle.dns_name.proofs.Binding.{ok_is}
use Rattle.dns_message.specs.declared.edns.Edns.{Edns}
use Rattle.dns_message.specs.declared.fault.MessageFault.{MessageFault}
use Rattle.dns_message.specs.declared.fault.MessageFault.TheVariants.{TwoOpts}
use Rattle.dns_message.specs.Grammar.{edns_list}
use Rattle.dns_message.specs.Opts.{only_opt, edns_with}
use Rattle.dns_message.specs.Reading.{is_opt, edns_of, edns_in}

-- one extension at most is told
pub edns_told : (opts : List PlainRecord) (edns : Option Edns) → edns_in opts ≡ Ok edns → map edns_of opts ≡ edns_list edns
edns_told [] edns e = ap edns_list (ok_is {E = MessageFault} None edns e)
edns_told (r ∷ []) edns e = ap edns_list (ok_is {E = MessageFault} (Some (edns_of r)) edns e)
edns_told (r ∷ s ∷ rs) edns e = absurd cc

pub edns_only : (opts : List PlainRecord) (edns : Option Edns) → map edns_of opts ≡ edns_list edns → edns_in opts ≡ Ok edns
edns_only [] None e = refl
edns_only [] (Some x) e = absurd cc
edns_only (r ∷ []) None e = absurd cc
edns_only (r ∷ []) (Some x) e =
    let same : edns_of r ≡ x = cc in
    ap (λ (y : Edns). Ok (Some y)) same
edns_only (r ∷ s ∷ rs) None e = absurd cc
edns_only (r ∷ s ∷ rs) (Some x) e = absurd cc

-- what was said before, and what is said by these OPT records
abbrev pub edns_after : Option Edns → List PlainRecord → Result (Option Edns) MessageFault
edns_after None opts = edns_in opts
edns_after (Some before) [] = Ok (Some before)
edns_after (Some before) (opt ∷ opts) = Err TwoOpts

step : (b : Bool) (edns : Option Edns) (r : PlainRecord) (opts : List PlainRecord) (now : Option Edns) → cond b (only_opt edns r) (Ok edns) ≡ Ok now → edns_after edns (cond b (r ∷ opts) opts) ≡ edns_after now opts
step true None r [] now e = ap (λ (x : Option Edns). edns_after x []) (ok_is {E = MessageFault} (Some (edns_of r)) now e)
step true None r (opt ∷ opts) now e = ap (λ (x : Option Edns). edns_after x (opt ∷ opts)) (ok_is {E = MessageFault} (Some (edns_of r)) now e)
step true (Some before) r opts now e = absurd cc
step false edns r opts now e = ap (λ (x : Option Edns). edns_after x opts) (ok_is {E = MessageFault} edns now e)

halt : (b : Bool) (edns : Option Edns) (r : PlainRecord) (opts : List PlainRecord) (fault : MessageFault) → cond b (only_opt edns r) (Ok edns) ≡ Err fault → edns_after edns (cond b (r ∷ opts) opts) ≡ Err fault
halt true None r opts fault e = absurd cc
halt true (Some before) r opts fault e = e
halt false edns r opts fault e = absurd cc

-- one record more
pub opt_more : (records : List PlainRecord) (i : ℕ) (r : PlainRecord) (edns now : Option Edns) (total : Result (Option Edns) MessageFault) → i < length records → edns_with edns (get_or records i r) ≡ Ok now
    → edns_after edns (filter is_opt (drop i records)) ≡ total → edns_after now (filter is_opt (drop (i + 1) records)) ≡ total
opt_more records i r edns now total lt e so_far =
    let x = get_or records i r in
    let opts = filter is_opt (drop (i + 1) records) in
    sym (step (is_opt x) edns x opts now e) ∙ ap (λ (rs : List PlainRecord). edns_after edns (filter is_opt rs)) (sym (drop_more records i r lt)) ∙ so_far

-- a second OPT record
pub opt_halts : (records : List PlainRecord) (i : ℕ) (r : PlainRecord) (edns : Option Edns) (fault : MessageFault) (total : Result (Option Edns) MessageFault) → i < length records → edns_with edns (get_or records i r) ≡ Err fault
    → edns_after edns (filter is_opt (drop i records)) ≡ total → Err fault ≡ total
opt_halts records i r edns fault total lt e so_far =
    let x = get_or records i r in
    let opts = filter is_opt (drop (i + 1) records) in
    sym (halt (is_opt x) edns x opts fault e) ∙ ap (λ (rs : List PlainRecord). edns_after edns (filter is_opt rs)) (sym (drop_more records i r lt)) ∙ so_far

edns_after-nil : (edns : Option Edns) → edns_after edns [] ≡ Ok edns
edns_after-nil None = refl
edns_after-nil (Some before) = refl

-- no record is left
pub opt_done : (records : List PlainRecord) (i : ℕ) (edns : Option Edns) (total : Result (Option Edns) MessageFault) → length records ≤ i → edns_after edns (filter is_opt (drop i records)) ≡ total → Ok edns ≡ total
opt_done records i edns total le so_far = sym (edns_after-nil edns) ∙ ap (λ (rs : List PlainRecord). edns_after edns (filter is_opt rs)) (sym (drop_all i records le)) ∙ so_far
