use Rattle.std.proofs.Common.{◌≡◌, ◌⊎◌, Err, inl, inr, refl, sym, ap, subst, ◌∙◌}
use Rattle.muck_laws.proofs.Results.{err_is}
use Rattle.muck_run.proofs.Called.{either_since, holds_still}
use Rattle.muck_run.proofs.Untouched.{untouched_on}
use Rattle.muck_io.specs.Faults.{Rose}
use Rattle.muck_why.specs.declared.why.Why.{Why}
use Rattle.muck_why.specs.declared.why.Why.TheVariants.{WriteFault, DiskFault}
use Rattle.muck_mirroring.specs.Mirroring.{HasReadMirrorScript, HasFollowed, MirrorDone}
use Rattle.muck_mirroring.specs.inner.Reading.{IsScriptWhy, why_of}
use Rattle.muck_mirroring.proofs.Called.{unread_ends, ceased_ends, ceased_text, MayCease, may_cease, is_write, is_disk, completes, replies_before}
use Rattle.muck_mirroring.proofs.mirroring.mirror.Goals as goal

-- no script was read

pub returns-in-Err-read_script : goal.returns-in-Err-read_script
returns-in-Err-read_script g c =
    let left = g.S.Source.left c.args.script.now in
    let why = c.in-Err-read_script.ensures.why in
    let ends = unread_ends left c.in-Err-read_script.why _ _ why refl in
    record {
      done = record {
        ends = ends;
        first_file = c.in-Ok.ensures.first_file;
        second_file = c.in-Ok.ensures.second_file;
        bad_script = λ line e. subst (IsScriptWhy left) e why;
        read_fault = λ e. c.in-Err-read_script.ensures.cause (ap Err e);
        write_fault = λ e. absurd (subst (IsScriptWhy left) e why);
        disk_fault = λ e. absurd (subst (IsScriptWhy left) e why);
        damaged = λ file at on e. absurd (subst (IsScriptWhy left) e why);
        source_stands = λ no. c.in-Err-read_script.ensures.stands (λ e. no (err_is _ _ _ refl e));
        sink_stands = λ no. refl;
        unread = λ file at e. absurd (subst (IsScriptWhy left) e why);
        loads = λ on is. (c.in-Ok.log.chosen, holds_still _ _ _ _ _ _ _ (c.in-Ok.ensures.first_file on) (c.in-Ok.ensures.second_file on) _ (c.in-Ok.ensures.log on).mounted.load);
        complete = λ chosen on ok grammar source sink first second.
            completes left _ chosen _ _ c.in-Err-read_script.why ends (λ line e. subst (IsScriptWhy left) e why) (λ e. source (c.in-Err-read_script.ensures.cause (ap Err e)))
            (λ e. subst (IsScriptWhy left) e why) (λ e. subst (IsScriptWhy left) e why) (λ file at e. absurd (subst (IsScriptWhy left) e why)) ok grammar;
      };
    }

-- the store was followed

pub returns-in-Ok-follow : goal.returns-in-Ok-follow
returns-in-Ok-follow g c =
    record {
      done = record {
        ends = record {
          acts = c.as_slice.result.now;
          read = subst (HasReadMirrorScript _ _ _ _) (sym c.as_slice.ensures) c.in-Ok-read_script.ensures.read;
          first_name = λ on. c.in-Ok-follow.ensures.first_attached ∙ c.in-Ok.ensures.first_name on;
          second_name = λ on. c.in-Ok-follow.ensures.second_attached ∙ c.in-Ok.ensures.second_name on;
          replies = λ on.
              let load = (c.in-Ok.ensures.log on).mounted.load in
              replies_before _ _ _ _ _ _ _ _ (c.in-Ok.ensures.first_file on).gives (c.in-Ok.ensures.second_file on).gives
              (record { chosen = c.in-Ok.log.chosen; loads = load; text = c.in-Ok-follow.ensures.whole on c.in-Ok.log.chosen load; holds = c.in-Ok-follow.ensures.follows on c.in-Ok.log.chosen load });
        };
        first_file = λ on. untouched_on _ _ _ _ _ _ (c.in-Ok.ensures.first_file on) (record { gives = c.in-Ok-follow.ensures.first_seen on; leaves = c.in-Ok-follow.ensures.first_any on });
        second_file = λ on. untouched_on _ _ _ _ _ _ (c.in-Ok.ensures.second_file on) (record { gives = c.in-Ok-follow.ensures.second_seen on; leaves = c.in-Ok-follow.ensures.second_any on });
        bad_script = λ line e. cc;
        read_fault = λ e. cc;
        write_fault = λ e. cc;
        disk_fault = λ e. cc;
        damaged = λ file at on e. cc;
        source_stands = λ no. c.in-Ok-read_script.ensures.read.fine;
        sink_stands = λ no. c.in-Ok-follow.ensures.sink_stands (λ e. cc);
        unread = λ file at e. cc;
        loads = λ on is. (c.in-Ok.log.chosen, holds_still _ _ _ _ _ _ _ (c.in-Ok.ensures.first_file on) (c.in-Ok.ensures.second_file on) _ (c.in-Ok.ensures.log on).mounted.load);
        complete = λ chosen on is grammar source sink first second. inl refl;
      };
    }

-- or it was until a fault came

pub returns : goal.returns
returns g c =
    let fault = c.in-Err-follow.fault in
    let may = may_cease fault in
    let F : Why → Type 0 = λ x. HasFollowed g.S.Source.left g.S.Source.faults g.K.Sink.written g.D.Disk.tells g.D.Disk.attached g.D.Disk.seen c.args.store.now x c.args.script.now c.read_script.new.script c.args.out.now c.follow.new.out c.args.first.now c.args.second.now c.follow.new.first c.follow.new.second in
    let followed : F (why_of fault) = record {
      acts = c.as_slice.result.now;
      read = subst (HasReadMirrorScript _ _ _ _) (sym c.as_slice.ensures) c.in-Ok-read_script.ensures.read;
      first_name = λ on. c.in-Err-follow.ensures.first_attached ∙ c.in-Ok.ensures.first_name on;
      second_name = λ on. c.in-Err-follow.ensures.second_attached ∙ c.in-Ok.ensures.second_name on;
      replies = λ on.
          let load = (c.in-Ok.ensures.log on).mounted.load in
          replies_before _ _ _ _ _ _ _ _ (c.in-Ok.ensures.first_file on).gives (c.in-Ok.ensures.second_file on).gives
          (record { chosen = c.in-Ok.log.chosen; loads = load; text = ceased_text fault _ _ _ (c.in-Err-follow.ensures.front on c.in-Ok.log.chosen load); holds = c.in-Err-follow.ensures.follows on c.in-Ok.log.chosen load });
    } in
    let P : Why → Type 0 = λ x. MirrorDone g.S.Source.left g.S.Source.faults g.K.Sink.written g.K.Sink.faults g.D.Disk.tells g.D.Disk.attached g.D.Disk.seen g.D.Disk.moment g.D.Disk.images g.D.Disk.faults c.args.store.now x c.args.script.now c.read_script.new.script c.args.out.now c.follow.new.out c.args.first.now c.args.second.now c.follow.new.first c.follow.new.second in
    let write : (why_of fault ≡ WriteFault) → Rose (g.K.Sink.faults c.args.out.now) (g.K.Sink.faults c.follow.new.out) = λ e. c.in-Err-follow.ensures.write_fault (ap Err (is_write fault e)) in
    let disk : (why_of fault ≡ DiskFault) → Rose (g.D.Disk.faults c.args.first.now) (g.D.Disk.faults c.follow.new.first) ⊎ Rose (g.D.Disk.faults c.args.second.now) (g.D.Disk.faults c.follow.new.second) =
    λ e. either_since _ _ _ _ _ _ c.in-Ok.ensures.first_later c.in-Ok.ensures.second_later (c.in-Err-follow.ensures.cause (ap Err (is_disk fault e))) in
    record {
      done = subst P (sym c.why_of.ensures)
          (record {
            ends = ceased_ends fault _ _ followed;
            first_file = λ on. untouched_on _ _ _ _ _ _ (c.in-Ok.ensures.first_file on) (record { gives = c.in-Err-follow.ensures.first_seen on; leaves = c.in-Err-follow.ensures.first_any on });
            second_file = λ on. untouched_on _ _ _ _ _ _ (c.in-Ok.ensures.second_file on) (record { gives = c.in-Err-follow.ensures.second_seen on; leaves = c.in-Err-follow.ensures.second_any on });
            bad_script = λ line e. absurd (subst MayCease e may);
            read_fault = λ e. absurd (subst MayCease e may);
            write_fault = write;
            disk_fault = disk;
            damaged = λ file at on e. absurd (subst MayCease e may);
            source_stands = λ no. c.in-Ok-read_script.ensures.read.fine;
            sink_stands = λ no. c.in-Err-follow.ensures.sink_stands (λ e. no (ap why_of (err_is _ _ _ refl e)));
            unread = λ file at e. absurd (subst MayCease e may);
            loads = λ on is. (c.in-Ok.log.chosen, holds_still _ _ _ _ _ _ _ (c.in-Ok.ensures.first_file on) (c.in-Ok.ensures.second_file on) _ (c.in-Ok.ensures.log on).mounted.load);
            complete = λ chosen on is grammar source sink first second.
                completes (g.S.Source.left c.args.script.now) _ chosen (Unit {0}) _ (why_of fault) (ceased_ends fault (Unit {0}) _ followed) (λ line e. absurd (subst MayCease e may)) (λ e. subst MayCease e may) (λ e. sink (write e))
                (λ e. elim (disk e) [
                  | inl rose ↦ first rose
                  | inr rose ↦ second rose
                ])
                (λ file at e. absurd (subst MayCease e may)) is grammar;
          });
    }
