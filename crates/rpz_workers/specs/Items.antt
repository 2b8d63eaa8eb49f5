-- The items that a worker takes.
use Rattle.std.specs.Prelude.{◌≡◌, Option, Some, None, List, [], ◌∷◌}
use Rattle.ip_prefix.specs.declared.Transport.TheVariants.{Udp}
use Rattle.server_io.specs.declared.arrival.Arrival.{Arrival}
use Rattle.server_io.specs.declared.arrival.Arrival.TheVariants as arrival
use Rattle.rpz_workers.specs.declared.item.Item.{Item}
use Rattle.rpz_workers.specs.declared.item.Item.TheVariants as item

-- the next of the items that are still to come, where they are known; after the last comes Stop
abbrev pub NextItem : {N S K : Type 0} → Option (List (Item N S K)) → Item N S K →
    Option (List (Item N S K)) → Type 0
NextItem None x after = after ≡ None
NextItem (Some []) x after = (x ≡ item.Stop) × (after ≡ Some [])
NextItem (Some (y ∷ ys)) x after = (x ≡ y) × (after ≡ Some ys)

-- what came to a server, as an item: a datagram is a message over UDP
abbrev pub item_of_arrival : {N S K : Type 0} → Arrival S K → Item N S K
item_of_arrival (arrival.Datagram peer bytes) =
    item.Job (record { peer = peer; transport = Udp; message = bytes })
item_of_arrival (arrival.Connection source sink client) = item.Connection source sink client
