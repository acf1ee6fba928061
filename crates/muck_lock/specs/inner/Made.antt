-- What holds of each lock that a program has: its numbers have 32 bits, and its texts are texts.
use Rattle.std.specs.Prelude.{ℕ, ℤ, pos, negsuc, Bool, true, ◌&&◌, nat_lt, List}
use Rattle.std.specs.Option.{is_none}
use Rattle.muck_model.specs.Bytes.{text_fault}
use Rattle.muck_model.specs.declared.lock.Lock.{Lock, Lock-F, fold-Lock}

abbrev pub is_short : ℤ → Bool
is_short (pos n) = nat_lt n 2147483648
is_short (negsuc n) = nat_lt n 2147483648

abbrev pub is_text : List ℕ → Bool
is_text bytes = is_none (text_fault bytes)

abbrev pub is_made_step : Lock-F Bool → Bool
is_made_step Lock-F.Free = true
is_made_step (Lock-F.Object d) = is_short d.0
is_made_step (Lock-F.Prop path value) = is_text path && is_text value
is_made_step (Lock-F.Not a) = a
is_made_step (Lock-F.Both a b) = a && b
is_made_step (Lock-F.Either a b) = a && b

abbrev pub is_made : Lock → Bool
is_made = fold-Lock Bool is_made_step
