use Rattle.std.proofs.Common.{Err, inl, inr, refl, ap, subst}
use Rattle.muck_run.specs.inner.Dumps.{note_of}
use Rattle.muck_run.specs.inner.Ends.{unbegun_at, IsMountWhy}
use Rattle.muckd.proofs.Served.{fresh_begun, start_begun, ready_begun, refused_serves, server_ends, serve_done, disk_failed, not_damaged}
use Rattle.muck_run.proofs.Called.{holds_still}
use Rattle.muck_run.proofs.Started.{bootable}
use Rattle.muckd.proofs.serving.serve_store.Goals as goal

pub awake-requires : goal.awake-requires
awake-requires g c = record { bootable = bootable c.in-Ok.log.chosen.held.world c.in-Ok.ensures.fine }

pub serve-requires-clause-fresh : goal.serve-requires-clause-fresh
serve-requires-clause-fresh g c κs within =
    (note_of g.D.Disk.moment g.D.Disk.faults c.mount.new.first c.mount.new.second (unbegun_at c.now-began.result c.in-Ok.log), fresh_begun c.now-began.result c.in-Ok.log (note_of g.D.Disk.moment g.D.Disk.faults c.mount.new.first c.mount.new.second (unbegun_at c.now-began.result c.in-Ok.log)) c.in-Ok-awake.world c.in-Ok-awake.ensures.world)

pub serve-requires-clause-mounted : goal.serve-requires-clause-mounted
serve-requires-clause-mounted g c κs within = λ tells.
    (c.in-Ok.log.chosen.held.number, ready_begun c.now-began.result g.D.Disk.seen g.D.Disk.moment g.D.Disk.images g.D.Disk.faults c.in-Ok.log c.mount.new.first c.mount.new.second (bootable c.in-Ok.log.chosen.held.world c.in-Ok.ensures.fine) c.in-Ok-awake.ensures.properties (c.in-Ok.ensures.log tells) c.in-Ok-awake.world c.in-Ok-awake.ensures.world)

-- no store was mounted

pub returns-in-Err : goal.returns-in-Err
returns-in-Err g c =
    record {
      done =
          serve_done _ _ _ _ _ _ _ _ _ _ _ _ _ c.in-Err.why _ _ _ _ _ _ _ _ _ _ _
          (refused_serves _ _ _ c.in-Err.ensures.why
          (record {
            empty = ap (λ t. t.entries) c.none.ensures;
            unnoted = ap (λ t. t.counted) c.none.ensures;
            nobody = λ shows. refl;
            ports = λ shows. inl refl;
            clock = inl refl;
            first_file = c.in-Err.ensures.first_file;
            second_file = c.in-Err.ensures.second_file;
          }))
          (λ e. c.in-Err.ensures.cause (ap Err e))
          (λ file at on e. subst (IsMountWhy (g.D.Disk.seen c.args.first.now) (g.D.Disk.seen c.args.second.now)) e (c.in-Err.ensures.told on));
    }

-- memory was wanted for the world, behind the clock's second

pub returns-in_default : goal.returns-in_default
returns-in_default g c =
    record {
      done =
          serve_done _ _ _ _ _ _ _ _ _ _ _ _ _ _ _ _ _ _ _ _ _ _ _ _ _
          (inl (record {
            empty = ap (λ t. t.entries) c.none-in_default.ensures;
            unnoted = ap (λ t. t.counted) c.none-in_default.ensures;
            nobody = λ shows. refl;
            ports = λ shows. inl refl;
            clock = inr (c.now-began.result, c.now-began.ensures, λ tells. (c.in-Ok.log.chosen, holds_still _ _ _ _ _ _ _ (c.in-Ok.ensures.first_file tells) (c.in-Ok.ensures.second_file tells) _ (c.in-Ok.ensures.log tells).mounted.load));
            first_file = c.in-Ok.ensures.first_file;
            second_file = c.in-Ok.ensures.second_file;
          }))
          (λ e. cc) (λ file at on e. cc);
    }

-- it was served

pub returns : goal.returns
returns g c =
    let note = note_of g.D.Disk.moment g.D.Disk.faults c.mount.new.first c.mount.new.second (unbegun_at c.now-began.result c.in-Ok.log) in
    let boots = bootable c.in-Ok.log.chosen.held.world c.in-Ok.ensures.fine in
    let served = c.serve.ensures.served c.in-Ok.log.chosen.held.number note (fresh_begun c.now-began.result c.in-Ok.log note c.in-Ok-awake.world c.in-Ok-awake.ensures.world)
    (λ tells. ready_begun c.now-began.result g.D.Disk.seen g.D.Disk.moment g.D.Disk.images g.D.Disk.faults c.in-Ok.log c.mount.new.first c.mount.new.second boots c.in-Ok-awake.ensures.properties (c.in-Ok.ensures.log tells) c.in-Ok-awake.world c.in-Ok-awake.ensures.world) in
    record {
      done =
          serve_done _ _ _ _ _ _ _ _ _ _ _ _ _ _ _ _ _ _ _ _ _ _ _ _ _
          (server_ends (g.L.Links.tells c.args.links.now) g.L.Links.told g.L.Links.listening g.C.Clock.answers g.D.Disk.tells g.D.Disk.attached g.D.Disk.seen g.D.Disk.moment g.D.Disk.images g.D.Disk.faults c.args.store.now c.args.port c.args.workers
          c.in-Ok.log c.now-began.result note c.serve.result.0 c.args.links.now c.serve.new.links c.args.clock.now c.now-began.new.self c.serve.new.clock c.args.first.now c.args.second.now c.mount.new.first c.mount.new.second c.serve.new.first c.serve.new.second
          c.serve.result.1.entries c.serve.result.1.notes c.serve.result.1.counted
          (record {
            mounted = c.in-Ok.ensures.log;
            fine = c.in-Ok.ensures.fine;
            first_name = c.in-Ok.ensures.first_name;
            second_name = c.in-Ok.ensures.second_name;
            first_still = c.serve.ensures.first_attached;
            second_still = c.serve.ensures.second_attached;
            first_file = c.in-Ok.ensures.first_file;
            second_file = c.in-Ok.ensures.second_file;
            first_later = c.in-Ok.ensures.first_later;
            second_later = c.in-Ok.ensures.second_later;
            clock = c.now-began.ensures;
            note = record { first_moment = refl; second_moment = refl; first_faults = refl; second_faults = refl };
          })
          c.in-Ok-awake.world.start (start_begun c.now-began.result c.in-Ok.log note c.in-Ok-awake.world c.in-Ok-awake.ensures.world) served)
          (λ e. disk_failed _ _ _ _ _ _ _ _ _ _ _ _ _ _ _ _ _ _ _ _ _ served _ _ c.in-Ok.ensures.first_later c.in-Ok.ensures.second_later e)
          (λ file at tells e. absurd (not_damaged _ _ _ _ _ _ _ _ _ _ _ _ _ _ _ _ _ _ _ _ _ served file at tells e));
    }
