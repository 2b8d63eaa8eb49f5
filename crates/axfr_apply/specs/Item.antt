-- What a stream of messages is made of: of each message its head, and then its answer records.
use Rattle.std.specs.Prelude.{ℕ, ◌==◌, Bool, List, [], ◌∷◌, length, map, Result, Ok, Err}
use Rattle.std.specs.List.{flat_map}
use Rattle.dns_record.specs.Record.{PlainRecord}
use Rattle.dns_message.specs.declared.fault.MessageFault.{MessageFault}
use Rattle.dns_message.specs.declared.message.Message.{Message}
use Rattle.dns_message.specs.Reading.{message_of}

-- the head of a message, which is these octets; or an answer record, and whether it is the only one of its message
pub data TransferItem : Type 0 where
  head : List ℕ → TransferItem
  answer : Bool → PlainRecord → TransferItem

-- the answer records of a message; none where it can't be read
abbrev pub answers_in : Result Message MessageFault → List PlainRecord
answers_in (Ok m) = m.answer
answers_in (Err fault) = []

-- answer records of one message
abbrev pub answers : List PlainRecord → List TransferItem
answers rs = map (answer (length rs == 1)) rs

-- the items of a message
abbrev pub items_of : List ℕ → List TransferItem
items_of octets = head octets ∷ answers (answers_in (message_of octets))

-- the items of messages, one after another
unfoldable pub items : List (List ℕ) → List TransferItem
items messages = flat_map items_of messages

abbrev pub item_records : TransferItem → List PlainRecord
item_records (head octets) = []
item_records (answer alone r) = r ∷ []

-- the records among the items
unfoldable pub records : List TransferItem → List PlainRecord
records items = flat_map item_records items
