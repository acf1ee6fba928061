use Rattle.std.proofs.Common.{◌≡◌, drop}
use Rattle.std.specs.Prelude.{None}
use Rattle.muck_model.specs.Bytes.{text_fault}
use Rattle.mpi.specs.Values.{items}
use Rattle.mpi.specs.declared.functions.Keep.TheVariants as keep
use Rattle.mpi.specs.inner.Alike.{alike_items}
use Rattle.mpi.proofs.AlikeItems.{texts_behind}
use Rattle.mpi.proofs.alike.repeated.Given as goal

abbrev pub invariant-loop-byte : goal.invariant-loop-byte
invariant-loop-byte l =
    (alike_items keep.Texts l.text None (items l.list) ≡ texts_behind l.text l.bytes.items (drop l.byte-index l.list)) × (text_fault l.bytes.items ≡ None)
