use Rattle.std.proofs.Common.{Err, inl, inr, refl, sym, ap, subst}
use Rattle.muck_laws.proofs.Results.{err_is}
use Rattle.muck_run.specs.Outcome.{HasReadScript}
use Rattle.muck_run.specs.inner.Ends.{IsScriptWhy, MayEnd}
use Rattle.muck_run.proofs.Called.{unread_ends, wanted_ends, began_ends, either_since, holds_still, never_begun, has_begun, run_done}
use Rattle.muck_run.proofs.running.run.Goals as goal

-- no script was read

pub returns-in-Err-read_script : goal.returns-in-Err-read_script
returns-in-Err-read_script g c =
    let left = g.S.Source.left c.args.script.now in
    let why = c.in-Err-read_script.ensures.why in
    record {
      done =
          run_done _ _ _ _ _ _ _ _ _ _ _ c.in-Err-read_script.why _ _ _ _ _ _ _ _ _ _
          (unread_ends left _ _ _ why (record { empty = ap (λ t. t.entries) c.none-in-Err-read_script.ensures; sink = refl; first_file = c.in-Ok.ensures.first_file; second_file = c.in-Ok.ensures.second_file }))
          (λ e. subst (IsScriptWhy left) e why) (λ line e. subst (IsScriptWhy left) e why) (λ e. c.in-Err-read_script.ensures.cause (ap Err e)) (λ e. absurd (subst (IsScriptWhy left) e why))
          (λ e. absurd (subst (IsScriptWhy left) e why)) (λ file at on e. absurd (subst (IsScriptWhy left) e why)) (λ no. c.in-Err-read_script.ensures.stands (λ e. no (err_is _ _ _ refl e))) (λ no. refl)
          (λ file at on e. absurd (subst (IsScriptWhy left) e why))
          (λ on is. (c.in-Ok.log.chosen, holds_still _ _ _ _ _ _ _ (c.in-Ok.ensures.first_file on) (c.in-Ok.ensures.second_file on) _ (c.in-Ok.ensures.log on).mounted.load));
    }

-- the script was run

pub returns-in-Ok-read_script : goal.returns-in-Ok-read_script
returns-in-Ok-read_script g c =
    let may = c.run_acts.ensures.why in
    record {
      done =
          run_done _ _ _ _ _ _ _ _ _ _ _ c.run_acts.result.0 _ _ _ _ _ _ _ _ _ _
          (elim c.run_acts.ensures.ends [
            | inl never ↦ wanted_ends _ _ _ never.wanted (never_begun _ _ _ _ _ _ _ _ _ _ _ _ _ _ c.in-Ok.ensures.first_file c.in-Ok.ensures.second_file never)
            | inr played ↦ began_ends g.D.Disk.tells _ _ _ may
                (has_begun _ _ _ _ _ _ _ _ _ _ _ _ _ _ _ _ _ _ _ _ _ _ _ _ _ _ c.in-Ok.ensures.log c.in-Ok.ensures.fine c.in-Ok.ensures.first_name c.in-Ok.ensures.second_name c.run_acts.ensures.first_attached c.run_acts.ensures.second_attached
                c.in-Ok.ensures.first_file c.in-Ok.ensures.second_file c.in-Ok.ensures.first_later c.in-Ok.ensures.second_later (subst (HasReadScript _ _ _ _) (sym c.as_slice.ensures) c.in-Ok-read_script.ensures.read) played)
          ])
          (λ e. subst (MayEnd g.D.Disk.tells) e may) (λ line e. absurd (subst (MayEnd g.D.Disk.tells) e may)) (λ e. absurd (subst (MayEnd g.D.Disk.tells) e may)) c.run_acts.ensures.write
          (λ e. either_since _ _ _ _ _ _ c.in-Ok.ensures.first_later c.in-Ok.ensures.second_later (c.run_acts.ensures.cause e)) (λ file at on e. absurd (subst (MayEnd g.D.Disk.tells) e may on))
          (λ no. c.in-Ok-read_script.ensures.read.fine) c.run_acts.ensures.stands (λ file at on e. absurd (subst (MayEnd g.D.Disk.tells) e may on))
          (λ on is. elim is [
            | inl e ↦ absurd (subst (MayEnd g.D.Disk.tells) e may)
            | inr bad ↦ absurd (subst (MayEnd g.D.Disk.tells) bad.1 may)
          ]);
    }
