-- Forms of values.
use Rattle.std.proofs.Common.{◌≡◌, ℕ, ◌^◌, ◌≤◌, Bool, true, false, ◌||◌, if◌then◌else◌, List, [], ◌∷◌, length, Some, None, Ok, ltb, refl, subst}
use Rattle.std.specs.Char.{is_ascii_digit}
use Rattle.std.specs.List.{before_first, after_first}
use Rattle.std.specs.Option.{ok_or}
use Rattle.std.specs.Result.{result_ok}
use Rattle.std.proofs.lemmas.Bool.{and_left, and_right, or_parts, ltb-false}
use Rattle.networks.specs.Dotted.{v4_number}
use Rattle.networks.specs.Mapped.{is_mapped_number}
use Rattle.networks.specs.Optional.{none_if}
use Rattle.networks.specs.V6.{is_colon, v6_number}
use Rattle.edge_io.specs.declared.endpoint.Endpoint.{Endpoint}
use Rattle.networks.specs.Decimal.{is_number}
use Rattle.script_codec.specs.Field.{number_field}
use Rattle.rpz_words.specs.declared.endpoint_text.TheConstants.{PORT_DIGITS, PORT_LIMIT}
use Rattle.rpz_words.specs.declared.usage_cause.EndpointFault.TheVariants.{Address, Mapped, Port}
use Rattle.rpz_words.specs.Endpoint.{behind_colon, endpoint_of, is_bracket, is_end_bracket, v4_endpoint, v6_endpoint}
use Rattle.rpz_words.specs.Outcome.{cause_if}
use Rattle.rpz_words.specs.Values.{count_to, number_between, port_of}
use Rattle.dns_name.proofs.Binding.{bind_ok, ok_is}
use Rattle.rpz_words.proofs.Binding.{is_there}
use Rattle.rpz_words.proofs.OptionBinding.{bind_some, not_held, some_is}

-- numbers

-- a number is between its bounds
pub number_within : (least most : ℕ) (digits : List ℕ) (number : ℕ) → number_between least most digits ≡ Some number → (least ≤ number) × (number ≤ most)
unfolding number_between
number_within least most digits number e =
    let a = bind_some (result_ok (number_field digits)) _ number e in
    let b = bind_some (none_if (ltb a.0 least || ltb most a.0)) _ number a.2 in
    let tests = or_parts (ltb a.0 least) (ltb most a.0) (not_held _ b.0 b.1) in
    subst (λ n. (least ≤ n) × (n ≤ most)) (some_is a.0 number b.2) (ltb-false a.0 least tests.0, ltb-false most a.0 tests.1)

-- a count is at most its limit
pub count_within : (most : ℕ) (digits : List ℕ) (number : ℕ) → count_to most digits ≡ Some number → number ≤ most
unfolding count_to
count_within most digits number e =
    let a = bind_some (result_ok (number_field digits)) _ number e in
    let b = bind_some (none_if (ltb most a.0)) _ number a.2 in
    subst (λ n. n ≤ most) (some_is a.0 number b.2) (ltb-false most a.0 (not_held _ b.0 b.1))

not_number : (most bound sign : ℕ) (digits : List ℕ) → is_ascii_digit sign ≡ false → is_number most bound (sign ∷ digits) ≡ false
not_number most bound sign digits h = and_left _ _ (and_right _ _ (and_left _ _ h))

-- what begins with another byte than a digit is no number
pub no_sign : (least most sign : ℕ) (digits : List ℕ) → is_ascii_digit sign ≡ false → number_between least most (sign ∷ digits) ≡ None
unfolding number_between number_field
no_sign least most sign digits h = rw (not_number 10 (2 ^ 32) sign digits h) refl

-- endpoints

port_within : (digits : List ℕ) (port : ℕ) → port_of digits ≡ Some port → 1 ≤ port
unfolding port_of
port_within digits port e =
    let a = bind_some (none_if (ltb PORT_DIGITS (length digits))) _ port e in
    (number_within 1 PORT_LIMIT digits port a.2).0

v4_port : (text : List ℕ) (endpoint : Endpoint) → v4_endpoint text ≡ Ok endpoint → 1 ≤ endpoint.port
unfolding v4_endpoint
v4_port text endpoint e =
    let a = bind_ok (ok_or (v4_number (before_first is_colon text)) Address) _ endpoint e in
    let b = bind_ok (ok_or (port_of (after_first is_colon text)) Port) _ endpoint a.2 in
    subst (λ (x : Endpoint). 1 ≤ x.port) (ok_is _ endpoint b.2) (port_within (after_first is_colon text) b.0 (is_there (port_of (after_first is_colon text)) Port b.0 b.1))

v6_port : (text : List ℕ) (endpoint : Endpoint) → v6_endpoint text ≡ Ok endpoint → 1 ≤ endpoint.port
unfolding v6_endpoint
v6_port text endpoint e =
    let a = bind_ok (ok_or (v6_number (before_first is_end_bracket text)) Address) _ endpoint e in
    let b = bind_ok (cause_if (is_mapped_number a.0) Mapped) _ endpoint a.2 in
    let c = bind_ok (behind_colon (after_first is_end_bracket text)) _ endpoint b.2 in
    let d = bind_ok (ok_or (port_of c.0) Port) _ endpoint c.2 in
    subst (λ (x : Endpoint). 1 ≤ x.port) (ok_is _ endpoint d.2) (port_within c.0 d.0 (is_there (port_of c.0) Port d.0 d.1))

by_bracket : (bracket : Bool) (text rest : List ℕ) (endpoint : Endpoint) → (if bracket then v6_endpoint rest else v4_endpoint text) ≡ Ok endpoint → 1 ≤ endpoint.port
by_bracket true text rest endpoint e = v6_port rest endpoint e
by_bracket false text rest endpoint e = v4_port text endpoint e

-- an endpoint has a port
pub endpoint_port : (text : List ℕ) (endpoint : Endpoint) → endpoint_of text ≡ Ok endpoint → 1 ≤ endpoint.port
endpoint_port [] endpoint e = v4_port [] endpoint e
endpoint_port (b ∷ rest) endpoint e = by_bracket (is_bracket b) (b ∷ rest) rest endpoint e
