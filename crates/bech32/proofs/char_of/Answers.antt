-- The constant is the alphabet.
use Rattle.std.proofs.Common.{ap}
use lib.Bits.{and_mask}
use Rattle.bech32.specs.Alphabet.{char_of}
use Rattle.bech32.proofs.char_of.Goals as goal

pub returns : goal.returns
unfolding char_of
returns c = ap char_of (and_mask c.args.group 5)
