-- What a source and a sink in memory do, exactly.
use Rattle.std.specs.Prelude.{◌≡◌, ℕ, ◌==◌, ◌-◌, ◌^◌, ◌&&◌, Bool, true, false, cond, nat_lt, nat_eq, List, ◌++◌, length, take, drop, min}
use Rattle.std.specs.List.{list_any}
use Rattle.muck_io.specs.Faults.{one_more}
use Rattle.muck_io.specs.declared.source.Got.{Got}
use Rattle.muck_io.specs.declared.source.Got.TheVariants as got
use Rattle.muck_io.specs.declared.sink.Put.{Put}
use Rattle.muck_io.specs.declared.sink.Put.TheVariants as put

-- The calls of an object in memory: how many there were, the numbers of those that fail (the first
-- call has the number 1), the most bytes that one call moves, and the count of faults.
pub record CallRecord : Type 0 where
  pub count : ℕ
  pub failing : List ℕ
  pub most : ℕ
  pub faults : ℕ

-- before the first call
abbrev pub no_calls : List ℕ → CallRecord
no_calls failing = record { count = 0; failing = failing; most = 2 ^ 64 - 1; faults = 0 }

-- whether the next call is to fail
abbrev pub fails_next : CallRecord → Bool
fails_next calls = list_any (λ number. number == one_more calls.count) calls.failing

-- one more call
abbrev pub after_call : CallRecord → CallRecord
after_call calls = record calls { count = one_more calls.count }

-- one more call, which found a fault
abbrev pub after_fault : CallRecord → CallRecord
after_fault calls = record calls { count = one_more calls.count; faults = one_more calls.faults }

-- a source in memory: the bytes that it has left, and its calls
pub record Supply : Type 0 where
  pub left : List ℕ
  pub calls : CallRecord

-- how many bytes a read gives that isn't to fail
abbrev pub to_give : Supply → ℕ → ℕ
to_give supply room = min (min room (length supply.left)) supply.calls.most

-- one read: it fails exactly where its number is listed, and gives as many bytes as it can otherwise
abbrev pub HasGiven : Supply → Supply → List ℕ → List ℕ → Got → Type 0
HasGiven old new before buf (got.Bytes n) = (fails_next old.calls ≡ false) × (n ≡ to_give old (length before)) × (new.left ≡ drop n old.left) × (new.calls ≡ after_call old.calls) × (buf ≡ take n old.left ++ drop n before)
HasGiven old new before buf got.End = (fails_next old.calls ≡ false) × (to_give old (length before) ≡ 0) × (new.left ≡ old.left) × (new.calls ≡ after_call old.calls) × (buf ≡ before)
HasGiven old new before buf got.Failed = (fails_next old.calls ≡ true) × (new.left ≡ old.left) × (new.calls ≡ after_fault old.calls) × (buf ≡ before)

-- a sink in memory: the bytes that it was given, and its calls
pub record Store : Type 0 where
  pub bytes : List ℕ
  pub calls : CallRecord

-- how many bytes of a piece a write takes that doesn't fail
abbrev pub to_take : Store → List ℕ → ℕ
to_take store piece = min (length piece) store.calls.most

-- the calls after a write that took this many bytes: none of a piece that has bytes is a fault
abbrev pub after_taking : ℕ → List ℕ → CallRecord → CallRecord
after_taking n piece calls = cond (nat_eq n 0 && nat_lt 0 (length piece)) (after_fault calls) (after_call calls)

-- one write: it fails where its number is listed, or where memory is refused, and takes as many bytes
-- as it can otherwise
abbrev pub HasTaken : Store → Store → List ℕ → Put → Type 0
HasTaken old new piece (put.Bytes n) = (fails_next old.calls ≡ false) × (n ≡ to_take old piece) × (new.bytes ≡ old.bytes ++ take n piece) × (new.calls ≡ after_taking n piece old.calls)
HasTaken old new piece put.Failed = (new.bytes ≡ old.bytes) × (new.calls ≡ after_fault old.calls)
