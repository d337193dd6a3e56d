-- The answers about an address descriptor as structs. Assumes nothing.
use Rattle.std.specs.Prelude.{Ok, Err}
use Rattle.answer.specs.Answer.{Answer}
use Rattle.address.specs.declared.Described.{Described}
use Rattle.c_answer.specs.Results.{nothing}
use Rattle.c_stream.specs.declared.addresses.Address.{Address}

-- its type, and where its rest lies
abbrev pub address_of : Answer Described → Address
address_of (Ok d) = record { refusal = nothing; kind = d.kind; rest = d.rest }
address_of (Err r) = record { refusal = r; kind = 0; rest = record { start = 0; size = 0 } }
