-- What the private functions promise each other: no public contract cites it. Assumes nothing.
use Rattle.std.specs.Prelude.{List, length}
use Rattle.field.specs.Fields.{payment_hash, expiry, delta, first_of}
use Rattle.field.specs.declared.Field.{Field}
use Rattle.field.specs.declared.Surveyed.{Surveyed}

-- what a survey of the fields says: their count and the first usable p, x and c
abbrev pub surveyed : List Field → Surveyed
surveyed fields = record { count = length fields; payment = first_of payment_hash fields; expiry = first_of expiry fields; delta = first_of delta fields }
