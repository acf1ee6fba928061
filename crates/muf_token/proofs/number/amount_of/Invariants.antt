use Rattle.std.proofs.Common.{◌≡◌, take, min}
use Rattle.muf_token.specs.Numbers.{amount_of}
use Rattle.muf_token.proofs.number.amount_of.Given as goal

abbrev pub invariant-loop-digit : goal.invariant-loop-digit
invariant-loop-digit l = l.amount ≡ min (amount_of (take l.digit-index l.digits)) 4294967296
