-- What is known of a network.
use Rattle.std.specs.Prelude.{◌≡◌, ℕ, List, [], ◌∷◌, ◌++◌, length, Option, Some, None, Result, Ok, Err, IfOk, IfSome, ⊤}
use Rattle.std.specs.Option.{option_map}
use Rattle.std.specs.Result.{result_ok}
use Rattle.edge_io.specs.declared.connection_limits.ConnectionLimits.{ConnectionLimits}
use Rattle.edge_io.specs.declared.endpoint.Endpoint.{Endpoint}
use Rattle.server_io.specs.Told.{PlainReply}
use Rattle.server_io.specs.declared.replies.SendError.{SendError}
use Rattle.server_io.specs.declared.wake.Order.{Order}
use Rattle.server_io.specs.declared.wake.OrderEnd.{OrderEnd}
use Rattle.server_io.specs.declared.wake.OrderEnd.TheVariants.{ReadFault, WriteFault, FetchFault}
use Rattle.server_io.specs.declared.wake.Wake.{Wake}
use Rattle.server_io.specs.declared.wake.Wake.TheVariants as wake
use Rattle.server_io.specs.declared.wires.WireError.{WireError}
use Rattle.server_io.specs.declared.wires.WireError.TheVariants.{OutOfMemory, Failed}

-- a transfer that was ordered of a primary server by this request, and its order; `None` where it could not be begun
pub record PlainOrder : Type 0 where
  pub primary : Endpoint
  pub request : List ℕ
  pub given : Option Order

-- What wires tell: what was asked of them so far, each in order, and the wakes that are still to come. Of the wakes `None` stands
-- for a wait that fails, and behind the last comes `Ended`, ever after. `turns` is how many arrivals are taken, and `admitted` how
-- many connections of clients may be open, where that was said. `inlets` has, for each inlet for datagrams that was asked for, the
-- place of its endpoint in the list that was bound last.
pub record PlainWires : Type 0 where
  pub turns : Option ℕ
  pub admitted : Option ConnectionLimits
  pub bound : List Endpoint
  pub inlets : List ℕ
  pub linked : List Endpoint
  pub ordered : List PlainOrder
  pub answered : List PlainReply
  pub wakes : List (Option Wake)

-- wires of which nothing was asked yet
abbrev pub new_wires : List (Option Wake) → PlainWires
new_wires wakes =
    record {
      turns = None;
      admitted = None;
      bound = [];
      inlets = [];
      linked = [];
      ordered = [];
      answered = [];
      wakes = wakes;
    }

-- wires of which one thing more was asked
abbrev pub with_turns : ℕ → PlainWires → PlainWires
with_turns turns wires = record wires { turns = Some turns }

-- The same after these limits were set on connections of clients.
abbrev pub with_admitted : ConnectionLimits → PlainWires → PlainWires
with_admitted limits wires = record wires { admitted = Some limits }

-- The same after these endpoints were bound.
abbrev pub with_bound : List Endpoint → PlainWires → PlainWires
with_bound all wires = record wires { bound = wires.bound ++ all }

-- The same after an inlet for the datagrams of this listener was made.
abbrev pub with_inlet : ℕ → PlainWires → PlainWires
with_inlet listener wires = record wires { inlets = wires.inlets ++ listener ∷ [] }

-- The same after a link to this upstream was made.
abbrev pub with_linked : Endpoint → PlainWires → PlainWires
with_linked at wires = record wires { linked = wires.linked ++ at ∷ [] }

-- The same after this transfer was ordered.
abbrev pub with_ordered : PlainOrder → PlainWires → PlainWires
with_ordered order wires = record wires { ordered = wires.ordered ++ order ∷ [] }

abbrev pub with_answered : PlainReply → PlainWires → PlainWires
with_answered reply wires = record wires { answered = wires.answered ++ reply ∷ [] }

-- what a wait gives where these wakes are still to come, and which are to come behind it
abbrev pub first_wake : List (Option Wake) → Result Wake WireError
first_wake [] = Ok (wake.Ended 0)
first_wake (None ∷ wakes) = Err Failed
first_wake (Some next ∷ wakes) = Ok next

abbrev pub later_wakes : List (Option Wake) → List (Option Wake)
later_wakes [] = []
later_wakes (first ∷ wakes) = wakes

-- wires of which one wake less is still to come
abbrev pub with_later_wakes : PlainWires → PlainWires
with_later_wakes wires = record wires { wakes = later_wakes wires.wakes }

-- what is told after a call that does this, whether or not it fails; out of memory it has done nothing
abbrev pub after_call : {A : Type 0} → (PlainWires → PlainWires) → Result A WireError →
    Option PlainWires → Option PlainWires
after_call call (Ok x) told = option_map call told
after_call call (Err Failed) told = option_map call told
after_call call (Err OutOfMemory) told = told

-- what is told after this reply was to be sent; one that was not sent isn't told
abbrev pub after_send : PlainReply → Result (Unit {0}) SendError → Option PlainWires →
    Option PlainWires
after_send reply (Ok done) told = option_map (with_answered reply) told
after_send reply (Err error) told = told

-- a transfer that was ordered by a call that gave this
abbrev pub plain_order : Endpoint → List ℕ → Result Order WireError → PlainOrder
plain_order primary request result =
    record { primary = primary; request = request; given = result_ok result }

-- the number of an order is how many were ordered before it, where that is told
abbrev pub IsNextOrder : Option PlainWires → Result Order WireError → Type 0
IsNextOrder told result =
    IfOk result (λ order. IfSome told (λ wires. order.number ≡ length wires.ordered))

-- the next wake is given, where it is told; or memory ran out
abbrev pub GivesNext : Option PlainWires → Result Wake WireError → Type 0
GivesNext told (Err OutOfMemory) = ⊤
GivesNext None result = ⊤
GivesNext (Some wires) result = result ≡ first_wake wires.wakes

-- an order that ended so had a connection that failed
abbrev pub IsOrderFault : OrderEnd → Type 0
IsOrderFault ReadFault = ⊤
IsOrderFault WriteFault = ⊤
IsOrderFault FetchFault = ⊤
IsOrderFault why = ⊥

-- A wake says that a connection to a primary failed only if this holds.
abbrev pub BlamesOrder : Result Wake WireError → Type 0 → Type 0
BlamesOrder (Ok (wake.Over order why)) blame = IsOrderFault why → blame
BlamesOrder result blame = ⊤
