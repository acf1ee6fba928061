use Rattle.std.proofs.Common.{Err, inl, inr, refl, sym, ap, subst}
use Rattle.muck_laws.proofs.Results.{err_is}
use Rattle.muck_watching.specs.Debugged.{HasReadDebugScript}
use Rattle.muck_run.specs.inner.Ends.{IsMountWhy, MayRefuse, MayEnd}
use Rattle.muck_watching.specs.inner.Seen.{IsDebugWhy}
use Rattle.muck_run.proofs.Called.{refused_ends, wanted_ends, began_ends, either_since, holds_still, never_begun}
use Rattle.muck_watching.proofs.Debugged.{unread_ends, has_debugged, debug_done}
use Rattle.muck_watching.proofs.debugging.debug.Goals as goal

-- no store was mounted

pub returns-in-Err : goal.returns-in-Err
returns-in-Err g c =
    let why = c.in-Err.ensures.why in
    record {
      done =
          debug_done _ _ _ _ _ _ _ _ _ _ _ c.in-Err.why _ _ _ _ _ _ _ _ _ _
          (refused_ends _ _ _ why (record { empty = ap (λ t. t.entries) c.none.ensures; sink = refl; first_file = c.in-Err.ensures.first_file; second_file = c.in-Err.ensures.second_file }))
          (λ e. subst MayRefuse e why) (λ line e. absurd (subst MayRefuse e why)) (λ e. absurd (subst MayRefuse e why)) (λ e. absurd (subst MayRefuse e why)) (λ e. c.in-Err.ensures.cause (ap Err e))
          (λ file at on e. subst (IsMountWhy (g.D.Disk.seen c.args.first.now) (g.D.Disk.seen c.args.second.now)) e (c.in-Err.ensures.told on)) (λ no. refl) (λ no. refl) (λ file at on e. refl)
          (λ on is. elim is [
            | inl e ↦ absurd (subst MayRefuse e why)
            | inr bad ↦ absurd (subst MayRefuse bad.1 why)
          ]);
    }

-- no script was read

pub returns-in-Err-read_script : goal.returns-in-Err-read_script
returns-in-Err-read_script g c =
    let left = g.S.Source.left c.args.script.now in
    let why = c.in-Err-read_script.ensures.why in
    record {
      done =
          debug_done _ _ _ _ _ _ _ _ _ _ _ c.in-Err-read_script.why _ _ _ _ _ _ _ _ _ _
          (unread_ends left _ _ _ why (record { empty = ap (λ t. t.entries) c.none-in-Err-read_script.ensures; sink = refl; first_file = c.in-Ok.ensures.first_file; second_file = c.in-Ok.ensures.second_file }))
          (λ e. subst (IsDebugWhy left) e why) (λ line e. subst (IsDebugWhy left) e why) (λ e. c.in-Err-read_script.ensures.cause (ap Err e)) (λ e. absurd (subst (IsDebugWhy left) e why))
          (λ e. absurd (subst (IsDebugWhy left) e why)) (λ file at on e. absurd (subst (IsDebugWhy left) e why)) (λ no. c.in-Err-read_script.ensures.stands (λ e. no (err_is _ _ _ refl e))) (λ no. refl)
          (λ file at on e. absurd (subst (IsDebugWhy left) e why))
          (λ on is. (c.in-Ok.log.chosen, holds_still _ _ _ _ _ _ _ (c.in-Ok.ensures.first_file on) (c.in-Ok.ensures.second_file on) _ (c.in-Ok.ensures.log on).mounted.load));
    }

-- the script was run

pub returns-in-Ok-read_script : goal.returns-in-Ok-read_script
returns-in-Ok-read_script g c =
    let may = c.debug_acts.ensures.why in
    record {
      done =
          debug_done _ _ _ _ _ _ _ _ _ _ _ c.debug_acts.result.0 _ _ _ _ _ _ _ _ _ _
          (elim c.debug_acts.ensures.ends [
            | inl never ↦ wanted_ends _ _ _ never.wanted (never_begun _ _ _ _ _ _ _ _ _ _ _ _ _ _ c.in-Ok.ensures.first_file c.in-Ok.ensures.second_file never)
            | inr both ↦ began_ends g.D.Disk.tells _ _ _ may
                (has_debugged _ _ _ _ _ _ _ _ _ _ _ _ _ c.as_slice.result.now _ _ _ _ _ _ _ _ _ _ _ _ c.in-Ok.ensures.log c.in-Ok.ensures.fine c.in-Ok.ensures.first_name c.in-Ok.ensures.second_name c.debug_acts.ensures.first_attached c.debug_acts.ensures.second_attached
                c.in-Ok.ensures.first_file c.in-Ok.ensures.second_file c.in-Ok.ensures.first_later c.in-Ok.ensures.second_later (subst (HasReadDebugScript _ _ _ _) (sym c.as_slice.ensures) c.in-Ok-read_script.ensures.read) both.0 both.1)
          ])
          (λ e. subst (MayEnd g.D.Disk.tells) e may) (λ line e. absurd (subst (MayEnd g.D.Disk.tells) e may)) (λ e. absurd (subst (MayEnd g.D.Disk.tells) e may)) c.debug_acts.ensures.write
          (λ e. either_since _ _ _ _ _ _ c.in-Ok.ensures.first_later c.in-Ok.ensures.second_later (c.debug_acts.ensures.cause e)) (λ file at on e. absurd (subst (MayEnd g.D.Disk.tells) e may on))
          (λ no. c.in-Ok-read_script.ensures.read.fine) c.debug_acts.ensures.stands (λ file at on e. absurd (subst (MayEnd g.D.Disk.tells) e may on))
          (λ on is. elim is [
            | inl e ↦ absurd (subst (MayEnd g.D.Disk.tells) e may)
            | inr bad ↦ absurd (subst (MayEnd g.D.Disk.tells) bad.1 may)
          ]);
    }
