-- What holds of a line that is read, kind by kind.
use Rattle.std.proofs.Common.{◌≡◌, ℕ, not, List, [], ◌∷◌, Option, Some, Result, Ok, subst, codes}
use Rattle.std.specs.List.{list_all}
use Rattle.std.specs.Str.{bytes_eq}
use Rattle.std.proofs.lemmas.Bool.{cond_both, not-false}
use Rattle.script_codec.specs.declared.line.Line.{Line}
use Rattle.script_codec.specs.declared.line.Line.TheVariants as line
use Rattle.script_codec.specs.declared.line_fault.LineFault.{LineFault}
use Rattle.script_codec.specs.declared.line_fault.LineFault.TheVariants as why
use Rattle.script_codec.specs.Field.{name_field, number_field, zone_field, worker_field, transport_field, address_field, network_field, bytes_field, message_field}
use Rattle.script_codec.specs.Fields.{fields_of, first_field, no_more_fields, one_field, two_fields, four_fields}
use Rattle.script_codec.specs.Line.{zone_line, primary_line, allow_line, transfer_line, full_line, query_line, give_line, fail_line, notify_line, due_line, clock_line, kind_line, worded_line, is_skipped, is_text_byte, unnumbered_line}
use Rattle.script_codec.specs.Outcome.{refuse_if}
use Rattle.script_codec.specs.Overriding.{override_field, override_text}
use Rattle.script_codec.specs.State.{PlainState, zone_count, is_pending, opens, takes_network, takes_primary}
use Rattle.script_codec.specs.Within.{IsWithin}
use Rattle.dns_name.proofs.Binding.{bind_ok, ok_is}
use Rattle.script_codec.proofs.Binding.{not_refused}
use Rattle.script_codec.proofs.FieldBounds.{zone_bounds, worker_bounds, message_bounds, may_allow, may_open, may_have_primary, name_bounds}
use Rattle.script_codec.proofs.NetworkBounds.{network_bounds}

-- from the line that the fields give to the line that is read
read_is : (state : PlainState) (given says : Line) → (let r : Result Line LineFault = Ok given in r ≡ Ok says) → IsWithin state given → IsWithin state says
read_is state given says e h = subst (IsWithin state) (ok_is given says e) h

-- `zone NAME`, with an override or without

zone_within : (state : PlainState) (fields : List (List ℕ)) (says : Line) → zone_line state fields ≡ Ok says → IsWithin state says
unfolding zone_line
zone_within state fields says e =
    let a = bind_ok (first_field fields) _ says e in
    let b = bind_ok (override_text a.0.1) _ says a.2 in
    let c = bind_ok (name_field a.0.0) _ says b.2 in
    let d = bind_ok (override_field b.0) _ says c.2 in
    let f = bind_ok (opens state c.0) _ says d.2 in
    read_is state (line.Zone c.0 d.0) says f.2 (name_bounds a.0.0 c.0 c.1, may_open state c.0 f.0 f.1)

-- `primary Z ADDR`

primary_within : (state : PlainState) (fields : List (List ℕ)) (says : Line) → primary_line state fields ≡ Ok says → IsWithin state says
unfolding primary_line
primary_within state fields says e =
    let a = bind_ok (two_fields fields) _ says e in
    let b = bind_ok (zone_field (zone_count state) a.0.0) _ says a.2 in
    let c = bind_ok (address_field a.0.1) _ says b.2 in
    let d = bind_ok (takes_primary state b.0) _ says c.2 in
    read_is state (line.Primary b.0 c.0) says d.2 (zone_bounds (zone_count state) a.0.0 b.0 b.1, may_have_primary state b.0 d.0 d.1)

-- `allow PREFIX`

allow_within : (state : PlainState) (fields : List (List ℕ)) (says : Line) → allow_line state fields ≡ Ok says → IsWithin state says
unfolding allow_line
allow_within state fields says e =
    let a = bind_ok (one_field fields) _ says e in
    let b = bind_ok (network_field a.0) _ says a.2 in
    let c = bind_ok (takes_network state b.0) _ says b.2 in
    read_is state (line.Allow b.0) says c.2 (network_bounds a.0 b.0 b.1, may_allow state b.0 c.0 c.1)

-- `xfer Z HEX`

transfer_within : (state : PlainState) (fields : List (List ℕ)) (says : Line) → transfer_line state fields ≡ Ok says → IsWithin state says
unfolding transfer_line
transfer_within state fields says e =
    let a = bind_ok (two_fields fields) _ says e in
    let b = bind_ok (zone_field (zone_count state) a.0.0) _ says a.2 in
    let c = bind_ok (bytes_field a.0.1) _ says b.2 in
    read_is state (line.Transfer b.0 c.0) says c.2 (zone_bounds (zone_count state) a.0.0 b.0 b.1)

-- `full Z`

full_within : (state : PlainState) (fields : List (List ℕ)) (says : Line) → full_line state fields ≡ Ok says → IsWithin state says
unfolding full_line
full_within state fields says e =
    let a = bind_ok (one_field fields) _ says e in
    let b = bind_ok (zone_field (zone_count state) a.0) _ says a.2 in
    read_is state (line.Full b.0) says b.2 (zone_bounds (zone_count state) a.0 b.0 b.1)

-- `query W udp|tcp ADDR HEX`

query_within : (state : PlainState) (fields : List (List ℕ)) (says : Line) → query_line state fields ≡ Ok says → IsWithin state says
unfolding query_line
query_within state fields says e =
    let a = bind_ok (four_fields fields) _ says e in
    let b = bind_ok (worker_field a.0.0) _ says a.2 in
    let c = bind_ok (transport_field a.0.1) _ says b.2 in
    let d = bind_ok (address_field a.0.2) _ says c.2 in
    let f = bind_ok (message_field a.0.3) _ says d.2 in
    let g = bind_ok (refuse_if (is_pending state b.0) why.Busy) _ says f.2 in
    read_is state (line.Query b.0 c.0 d.0 f.0) says g.2 (worker_bounds a.0.0 b.0 b.1, message_bounds a.0.3 f.0 f.1, not_refused (is_pending state b.0) why.Busy g.0 g.1)

-- `give W HEX`

give_within : (state : PlainState) (fields : List (List ℕ)) (says : Line) → give_line state fields ≡ Ok says → IsWithin state says
unfolding give_line
give_within state fields says e =
    let a = bind_ok (two_fields fields) _ says e in
    let b = bind_ok (worker_field a.0.0) _ says a.2 in
    let c = bind_ok (message_field a.0.1) _ says b.2 in
    let d = bind_ok (refuse_if (not (is_pending state b.0)) why.Idle) _ says c.2 in
    read_is state (line.Give b.0 c.0) says d.2 (worker_bounds a.0.0 b.0 b.1, message_bounds a.0.1 c.0 c.1, not-false (is_pending state b.0) (not_refused _ why.Idle d.0 d.1))

-- `fail W`

fail_within : (state : PlainState) (fields : List (List ℕ)) (says : Line) → fail_line state fields ≡ Ok says → IsWithin state says
unfolding fail_line
fail_within state fields says e =
    let a = bind_ok (one_field fields) _ says e in
    let b = bind_ok (worker_field a.0) _ says a.2 in
    let c = bind_ok (refuse_if (not (is_pending state b.0)) why.Idle) _ says b.2 in
    read_is state (line.Fail b.0) says c.2 (worker_bounds a.0 b.0 b.1, not-false (is_pending state b.0) (not_refused _ why.Idle c.0 c.1))

-- `notify ADDR HEX`

notify_within : (state : PlainState) (fields : List (List ℕ)) (says : Line) → notify_line fields ≡ Ok says → IsWithin state says
unfolding notify_line
notify_within state fields says e =
    let a = bind_ok (two_fields fields) _ says e in
    let b = bind_ok (address_field a.0.0) _ says a.2 in
    let c = bind_ok (bytes_field a.0.1) _ says b.2 in
    read_is state (line.Notify b.0 c.0) says c.2 tt

-- `due`

due_within : (state : PlainState) (fields : List (List ℕ)) (says : Line) → due_line fields ≡ Ok says → IsWithin state says
unfolding due_line
due_within state fields says e =
    let a = bind_ok (no_more_fields fields) _ says e in
    read_is state line.Due says a.2 tt

-- `clock SECONDS`

clock_within : (state : PlainState) (fields : List (List ℕ)) (says : Line) → clock_line fields ≡ Ok says → IsWithin state says
unfolding clock_line
clock_within state fields says e =
    let a = bind_ok (one_field fields) _ says e in
    let b = bind_ok (number_field a.0) _ says a.2 in
    read_is state (line.Clock b.0) says b.2 tt

-- any kind

abbrev ReadsWithin : PlainState → Line → Result Line LineFault → Type 0
ReadsWithin state says read = read ≡ Ok says → IsWithin state says

kind_within : (state : PlainState) (word : List ℕ) (fields : List (List ℕ)) (says : Line) → kind_line state word fields ≡ Ok says → IsWithin state says
unfolding kind_line
kind_within state word fields says =
    cond_both (bytes_eq word (codes "zone")) _ _ (ReadsWithin state says) (λ t. zone_within state fields says) (λ t.
    cond_both (bytes_eq word (codes "primary")) _ _ (ReadsWithin state says) (λ t. primary_within state fields says) (λ t.
    cond_both (bytes_eq word (codes "allow")) _ _ (ReadsWithin state says) (λ t. allow_within state fields says) (λ t.
    cond_both (bytes_eq word (codes "xfer")) _ _ (ReadsWithin state says) (λ t. transfer_within state fields says) (λ t.
    cond_both (bytes_eq word (codes "full")) _ _ (ReadsWithin state says) (λ t. full_within state fields says) (λ t.
    cond_both (bytes_eq word (codes "query")) _ _ (ReadsWithin state says) (λ t. query_within state fields says) (λ t.
    cond_both (bytes_eq word (codes "give")) _ _ (ReadsWithin state says) (λ t. give_within state fields says) (λ t.
    cond_both (bytes_eq word (codes "fail")) _ _ (ReadsWithin state says) (λ t. fail_within state fields says) (λ t.
    cond_both (bytes_eq word (codes "notify")) _ _ (ReadsWithin state says) (λ t. notify_within state fields says) (λ t.
    cond_both (bytes_eq word (codes "due")) _ _ (ReadsWithin state says) (λ t. due_within state fields says) (λ t.
    cond_both (bytes_eq word (codes "clock")) _ _ (ReadsWithin state says) (λ t. clock_within state fields says) (λ t e. absurd cc)))))))))))

worded_within : (state : PlainState) (fields : List (List ℕ)) (says : Line) → worded_line state fields ≡ Ok says → IsWithin state says
worded_within state [] says e = absurd cc
worded_within state (word ∷ fields) says e = kind_within state word fields says e

-- a line

given_is : (given says : Line) → (let r : Result (Option Line) LineFault = Ok (Some given) in r ≡ Ok (Some says)) → given ≡ says
given_is given says e = cc

pub line_within : (text : List ℕ) (state : PlainState) (says : Line) → unnumbered_line text state ≡ Ok (Some says) → IsWithin state says
unfolding unnumbered_line
line_within text state says e =
    let a = bind_ok (refuse_if (not (list_all is_text_byte text)) why.Char) _ (Some says) e in
    cond_both (is_skipped text) _ _ (λ (r : Result (Option Line) LineFault). r ≡ Ok (Some says) → IsWithin state says)
    (λ t h. absurd cc)
    (λ t h. let b = bind_ok (worded_line state (fields_of text)) _ (Some says) h in subst (IsWithin state) (given_is b.0 says b.2) (worded_within state (fields_of text) b.0 b.1))
    a.2
