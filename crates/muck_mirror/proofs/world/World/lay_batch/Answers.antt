use Rattle.std.proofs.Common.{sym, subst, arith}
use Rattle.std.specs.Prelude.{All}
use Rattle.muck_codec.specs.inner.Stored.{IsStored}
use Rattle.muck_log.specs.World.{StoredWorld}
use Rattle.muck_mirror.proofs.Made.{made, moved, never_made, unmade, sound_made}
use Rattle.muck_mirror.proofs.world.World.lay_batch.Goals as goal

pub returns-in-Ok-true-clause-laid : goal.returns-in-Ok-true-clause-laid
returns-in-Ok-true-clause-laid c = (
  made c.in-Ok-true.field-0 c.args.batch c.self.inside.objects.items c.put.new.objects.items c.self.inside.tune c.args.self.now c.in-Ok-true.field-0-test c.in-Ok-true.ensures.laid c.self.view_is,
  unmade c.len-count.result c.self.inside.objects.items c.put.new.objects.items c.put.new.replaced.items c.self.inside.tune c.args.self.now (omega (arith, c.len-count.ensures)) c.put.ensures.back c.self.view_is,
)

pub returns-in-Ok-true-clause-sound : goal.returns-in-Ok-true-clause-sound
returns-in-Ok-true-clause-sound c =
    let before : All IsStored c.self.inside.objects.items = subst (λ (w : StoredWorld). All IsStored w.objects) (sym c.self.view_is) c.requires.sound.stored in
    sound_made c.in-Ok-true.field-0 c.args.batch c.self.inside.objects.items c.put.new.objects.items c.in-Ok-true.field-0-test c.in-Ok-true.ensures.laid (c.put.ensures.stored c.requires.stored before)

pub returns-in-Ok-false-clause-laid : goal.returns-in-Ok-false-clause-laid
returns-in-Ok-false-clause-laid c =
    let now = unmade c.len-count.result c.self.inside.objects.items c.put.new.objects.items c.put.new.replaced.items c.self.inside.tune c.args.self.now (omega (arith, c.len-count.ensures)) c.put.ensures.back c.self.view_is in (
      never_made c.in-Ok-false.field-0 c.args.batch c.self.inside.objects.items c.put.new.objects.items c.self.inside.tune c.args.self.now c.in-Ok-false.field-0-test c.in-Ok-false.ensures.laid c.self.view_is,
      moved c.undo_records.new.objects.items _ c.self.inside.tune c.args.self.now c.undo_records.ensures now,
    )
