-- What holds of a network that is read.
use Rattle.std.proofs.Common.{◌≡◌, ℕ, ltb, Bool, true, false, not, if◌then◌else◌, List, Result, Ok, Err, refl, sym, subst}
use Rattle.std.specs.List.{before_first, after_first, list_any}
use Rattle.ip_prefix.specs.declared.Addr.{Addr}
use Rattle.ip_prefix.specs.Prefix.{PlainPrefix, has_host_bits, width}
use Rattle.networks.specs.declared.network.NetworkFault.{NetworkFault}
use Rattle.networks.specs.declared.network.NetworkFault.TheVariants.{Length, HostBits}
use Rattle.networks.specs.Network.{IsNetwork, network_of}
use Rattle.networks.specs.declared.network_text.NetworkTextFault.{NetworkTextFault}
use Rattle.networks.specs.declared.network_text.NetworkTextFault.TheVariants as fault
use Rattle.networks.specs.NetworkText.{◌>>=◌, text_address, as_text_fault, fault_if, is_slash, length_of, network_text, or_fault}
use Rattle.script_codec.specs.declared.line_fault.LineFault.TheVariants as why
use Rattle.script_codec.specs.Field.{network_field, or_refused}

-- where the whole is read, its first part is read, and what follows
bind_read : {A B : Type 0} (r : Result A NetworkTextFault) (f : A → Result B NetworkTextFault) (y : B) → r >>= f ≡ Ok y → (x : A) × (r ≡ Ok x) × (f x ≡ Ok y)
bind_read (Ok x) f y e = (x, refl, e)
bind_read (Err why) f y e = absurd cc

same_network : (made network : PlainPrefix) → (let r : Result PlainPrefix NetworkFault = Ok made in r ≡ Ok network) → made ≡ network
same_network made network e = cc

-- what is left where neither fault is found
unfaulted : (long behind : Bool) (first second : NetworkFault) (made network : PlainPrefix)
    → (let r : Result PlainPrefix NetworkFault = if long then Err first else (if behind then Err second else Ok made) in r ≡ Ok network) → made ≡ network
unfaulted true behind first second made network e = absurd cc
unfaulted false true first second made network e = absurd cc
unfaulted false false first second made network e = same_network made network e

-- what an address and a length make is these two
made_of : (addr : Addr) (length : ℕ) (network : PlainPrefix) → network_of addr length ≡ Ok network → IsNetwork network
made_of addr length network e =
    let same = unfaulted (ltb (width addr) length) (has_host_bits addr length) Length HostBits (record { addr = addr; length = length }) network e in
    record { made = subst (λ (n : PlainPrefix). network_of n.addr n.length ≡ Ok n) same (subst (λ (n : PlainPrefix). network_of addr length ≡ Ok n) (sym same) e) }

as_read : (r : Result PlainPrefix NetworkFault) (network : PlainPrefix) → as_text_fault r ≡ Ok network → r ≡ Ok network
as_read (Ok made) network e = cc
as_read (Err fault) network e = absurd cc

text_is_network : (text : List ℕ) (network : PlainPrefix) → network_text text ≡ Ok network → IsNetwork network
unfolding network_text
text_is_network text network e =
    let a = bind_read (fault_if (not (list_any is_slash text)) fault.Form) _ network e in
    let b = bind_read (or_fault (text_address (before_first is_slash text)) fault.Address) _ network a.2 in
    let c = bind_read (or_fault (length_of (after_first is_slash text)) fault.Length) _ network b.2 in
    made_of b.0 c.0 network (as_read (network_of b.0 c.0) network c.2)

refused_or : (r : Result PlainPrefix NetworkTextFault) (network : PlainPrefix) → or_refused r why.Prefix ≡ Ok network → r ≡ Ok network
refused_or (Ok x) network e = cc
refused_or (Err fault) network e = absurd cc

pub network_bounds : (text : List ℕ) (network : PlainPrefix) → network_field text ≡ Ok network → IsNetwork network
network_bounds text network e = text_is_network text network (refused_or (network_text text) network e)
